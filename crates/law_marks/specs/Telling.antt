-- Where a mark tells its version.
use Rattle.std.specs.Prelude.{◌≡◌, ℕ, ◌+◌, ◌<◌, ◌≤◌}
use Rattle.fkv_base.specs.declared.classes.StoreClass.{StoreClass}
use Rattle.fkv_base.specs.declared.classes.StoreClass.TheVariants.{Specified}
use Rattle.fkv_marks.specs.Marks.{mark}
use Rattle.fkv_marks.specs.Window.{InWindow, oldest, version_in}

-- Up to 8191 a version is its own mark.
abbrev pub MarksStay : Type 0
MarksStay = (version : ℕ) → version ≤ 8191 → mark version ≡ version

-- 8191 versions later the mark comes again, and it is none but 1 to 8191.
abbrev pub MarksComeAgain : Type 0
MarksComeAgain = (version : ℕ) → 0 < version → (mark (version + 8191) ≡ mark version) × (0 < mark version) × (mark version ≤ 8191)

-- Of versions that are fewer than 8191 apart no two have one mark.
abbrev pub MarksTellNear : Type 0
MarksTellNear = (one other : ℕ) → 0 < one → one ≤ other → other < one + 8191 → mark one ≡ mark other → one ≡ other

-- Recovery reads the mark of a version in the window as that version.
abbrev pub MarksTellInWindow : Type 0
MarksTellInWindow = (class : StoreClass) (checkpoint number version : ℕ) → InWindow class checkpoint number → oldest class checkpoint ≤ version → version ≤ number + 1
    → version_in number (mark version) ≡ version

-- Each commit of a specified store is in the window of each checkpoint.
abbrev pub SpecifiedInWindow : Type 0
SpecifiedInWindow = (checkpoint number : ℕ) → number < 8191 → InWindow Specified checkpoint number
