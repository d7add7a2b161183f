-- What crates above may cite: which numbers are marks, and where a mark tells its version.
use Rattle.std.proofs.Common.{◌≡◌, ℕ, ◌+◌, ◌^◌, ◌<◌, ◌≤◌, ◌∙◌, sym, arith}
use Rattle.fkv_base.specs.declared.classes.StoreClass.{StoreClass}
use Rattle.fkv_base.specs.declared.classes.StoreClass.TheVariants.{Specified, Living}
use Rattle.fkv_marks.specs.Marks.{mark}
use Rattle.fkv_marks.specs.Window.{InWindow, oldest, version_in}

-- a version has some mark
pub mark_some : (v : ℕ) → 0 < v → 0 < mark v
unfolding mark
mark_some v some = omega (arith, some)

-- and that takes 13 bits
pub mark_fits : (v : ℕ) → mark v < 2 ^ 13
unfolding mark
mark_fits v = omega arith

-- a version of 13 bits is its own mark
pub mark_small : (v : ℕ) → v < 2 ^ 13 → mark v ≡ v
unfolding mark
mark_small v fits = omega (arith, fits)

-- versions of one mark that are less than 8191 apart are one
pub marks_differ : (v w : ℕ) → 0 < v → v ≤ w → w < v + 8191 → mark v ≡ mark w → v ≡ w
unfolding mark
marks_differ v w some least near same = omega (arith, some, least, near, same)

-- so are versions of one mark that take 13 bits
pub marks_tell : (v w : ℕ) → v < 2 ^ 13 → w < 2 ^ 13 → mark v ≡ mark w → v ≡ w
marks_tell v w fits fits' same = sym (mark_small v fits) ∙ (same ∙ mark_small w fits')

-- no mark is above its version
pub mark_low : (v : ℕ) → mark v ≤ v
unfolding mark
mark_low v = omega arith

-- ---- the window of a checkpoint
pub oldest_some : (class : StoreClass) (checkpoint : ℕ) → 1 ≤ oldest class checkpoint
oldest_some Specified checkpoint = omega arith
oldest_some Living checkpoint = omega arith

pub oldest_most : (class : StoreClass) (checkpoint n : ℕ) → 1 ≤ n → checkpoint ≤ n → oldest class checkpoint ≤ n
oldest_most Specified checkpoint n some most = some
oldest_most Living checkpoint n some most = omega (arith, some, most)

-- versions of 13 bits are few enough for each window
pub window_small : (class : StoreClass) (checkpoint number : ℕ) → number < 8191 → InWindow class checkpoint number
window_small class checkpoint number few = (let some = oldest_some class checkpoint in omega (arith, some, few))

-- a version of the window is what its mark is read as
pub version_told : (number low version : ℕ) → 0 < low → number ≤ low + 8189 → low ≤ version → version ≤ number + 1 → version_in number (mark version) ≡ version
unfolding version_in mark
version_told number low version some window least most = omega (arith, some, window, least, most)

-- what a mark is read as has that mark
pub version_marked : (number its_mark : ℕ) → 0 < its_mark → its_mark < 2 ^ 13 → mark (version_in number its_mark) ≡ its_mark
unfolding version_in mark
version_marked number its_mark some fits = omega (arith, some, fits)

-- up to commit 8190 a mark is read as itself
pub version_small : (number its_mark : ℕ) → 0 < its_mark → number < 8191 → version_in number its_mark ≡ its_mark
unfolding version_in
version_small number its_mark some few = omega (arith, some, few)

-- it is never read as an older one
pub version_least : (number its_mark : ℕ) → its_mark ≤ version_in number its_mark
unfolding version_in
version_least number its_mark = omega arith
