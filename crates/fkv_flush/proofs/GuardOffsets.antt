-- Steps that raise one offset.
use Rattle.std.proofs.Common.{subst, ◌≡◌, ℕ, ◌+◌, ◌<◌, ◌≤◌, ◌⊎◌, List, length, refl, arith, sym, false}
use Rattle.std.specs.Prelude.{Some, slice_get, slice_set, nat_lt, nat_le}
use Rattle.std.proofs.lemmas.List.{length-set}
use Rattle.std.proofs.lemmas.Bool.Decides.{nat_tests}
use Rattle.fkv_plane.specs.Places.{session_place}
use Rattle.fkv_plane.specs.declared.places.SessionWord.TheVariants as own
use Rattle.fkv_epoch.specs.declared.arming.Arming.TheVariants as arm
use Rattle.fkv_epoch.specs.EpochWorld.{Arms, Sight, OfReadOnly, OfHead, is_own}
use Rattle.fkv_epoch.specs.Once.{goes_by}
use Rattle.fkv_epoch.proofs.Shown.{word_spared, word_written, changes_sound}
use Rattle.fkv_epoch.proofs.Shown as epochs_sound
use Rattle.fkv_flush.specs.GuardLevels.{Levels, levels_of, AreInOrder, Rises}
use Rattle.fkv_flush.specs.GuardWorld.{Actor, GuardWorld, epoch_world}
use Rattle.fkv_flush.specs.Guarded.{is_steady, seen_of, GoesBy}
use Rattle.fkv_flush.proofs.GuardSound.{Knows, IsSound, Awake, after}
use Rattle.fkv_flush.proofs.GuardSteps.{worded, same_machines}

-- the word at a place of an offset is none of the epochs'
pub offset_foreign : (S p : ℕ) → 3 ≤ p → p < 10 → is_own S p ≡ false
offset_foreign S p low high =
    let x : nat_lt p 2 ≡ false = grind (arith, nat_tests) in
    let y : nat_le 16 p ≡ false = grind (arith, nat_tests) in
    let z : nat_le 24 p ≡ false = grind (arith, nat_tests) in
    rw (x, y, z) refl

-- offsets that change by one word
pub tail_written : (words : List ℕ) (v : ℕ) → 24 ≤ length words → levels_of (slice_set words 3 v) ≡ record (levels_of words) { tail = v }
tail_written words v h = rw (word_written words 3 v (omega (arith, h)), word_spared words 3 v 4 (λ e. omega (arith, e)), word_spared words 3 v 5 (λ e. omega (arith, e)), word_spared words 3 v 6 (λ e. omega (arith, e)), word_spared words 3 v 7 (λ e. omega (arith, e)), word_spared words 3 v 8 (λ e. omega (arith, e)), word_spared words 3 v 9 (λ e. omega (arith, e))) refl

pub limit_written : (words : List ℕ) (v : ℕ) → 24 ≤ length words → levels_of (slice_set words 4 v) ≡ record (levels_of words) { limit = v }
limit_written words v h = rw (word_written words 4 v (omega (arith, h)), word_spared words 4 v 3 (λ e. omega (arith, e)), word_spared words 4 v 5 (λ e. omega (arith, e)), word_spared words 4 v 6 (λ e. omega (arith, e)), word_spared words 4 v 7 (λ e. omega (arith, e)), word_spared words 4 v 8 (λ e. omega (arith, e)), word_spared words 4 v 9 (λ e. omega (arith, e))) refl

pub read_only_written : (words : List ℕ) (v : ℕ) → 24 ≤ length words → levels_of (slice_set words 5 v) ≡ record (levels_of words) { read_only = v }
read_only_written words v h = rw (word_written words 5 v (omega (arith, h)), word_spared words 5 v 3 (λ e. omega (arith, e)), word_spared words 5 v 4 (λ e. omega (arith, e)), word_spared words 5 v 6 (λ e. omega (arith, e)), word_spared words 5 v 7 (λ e. omega (arith, e)), word_spared words 5 v 8 (λ e. omega (arith, e)), word_spared words 5 v 9 (λ e. omega (arith, e))) refl

pub safe_read_only_written : (words : List ℕ) (v : ℕ) → 24 ≤ length words → levels_of (slice_set words 6 v) ≡ record (levels_of words) { safe_read_only = v }
safe_read_only_written words v h = rw (word_written words 6 v (omega (arith, h)), word_spared words 6 v 3 (λ e. omega (arith, e)), word_spared words 6 v 4 (λ e. omega (arith, e)), word_spared words 6 v 5 (λ e. omega (arith, e)), word_spared words 6 v 7 (λ e. omega (arith, e)), word_spared words 6 v 8 (λ e. omega (arith, e)), word_spared words 6 v 9 (λ e. omega (arith, e))) refl

pub flushed_written : (words : List ℕ) (v : ℕ) → 24 ≤ length words → levels_of (slice_set words 7 v) ≡ record (levels_of words) { flushed = v }
flushed_written words v h = rw (word_written words 7 v (omega (arith, h)), word_spared words 7 v 3 (λ e. omega (arith, e)), word_spared words 7 v 4 (λ e. omega (arith, e)), word_spared words 7 v 5 (λ e. omega (arith, e)), word_spared words 7 v 6 (λ e. omega (arith, e)), word_spared words 7 v 8 (λ e. omega (arith, e)), word_spared words 7 v 9 (λ e. omega (arith, e))) refl

pub head_written : (words : List ℕ) (v : ℕ) → 24 ≤ length words → levels_of (slice_set words 8 v) ≡ record (levels_of words) { head = v }
head_written words v h = rw (word_written words 8 v (omega (arith, h)), word_spared words 8 v 3 (λ e. omega (arith, e)), word_spared words 8 v 4 (λ e. omega (arith, e)), word_spared words 8 v 5 (λ e. omega (arith, e)), word_spared words 8 v 6 (λ e. omega (arith, e)), word_spared words 8 v 7 (λ e. omega (arith, e)), word_spared words 8 v 9 (λ e. omega (arith, e))) refl

pub closed_written : (words : List ℕ) (v : ℕ) → 24 ≤ length words → levels_of (slice_set words 9 v) ≡ record (levels_of words) { closed = v }
closed_written words v h = rw (word_written words 9 v (omega (arith, h)), word_spared words 9 v 3 (λ e. omega (arith, e)), word_spared words 9 v 4 (λ e. omega (arith, e)), word_spared words 9 v 5 (λ e. omega (arith, e)), word_spared words 9 v 6 (λ e. omega (arith, e)), word_spared words 9 v 7 (λ e. omega (arith, e)), word_spared words 9 v 8 (λ e. omega (arith, e))) refl

-- an offset other than safe read-only and closed is written, and the offsets are these then
pub lifted : (w : GuardWorld) (a : ℕ) (x x' : Actor) (p v : ℕ) (l' : Levels) → IsSound w → slice_get w.now.actors a ≡ Some x
    → epochs_sound.IsSound (epoch_world (after w a x' (slice_set w.now.words p v) w.now.actions w.past))
    → 3 ≤ p → p < 10
    → levels_of (slice_set w.now.words p v) ≡ l' → Rises (levels_of w.now.words) l' → AreInOrder l' → l'.limit ≤ l'.closed + w.now.places.ring
    → l'.safe_read_only ≡ (levels_of w.now.words).safe_read_only → l'.closed ≡ (levels_of w.now.words).closed
    → ((sight : Sight) → goes_by sight x'.machine ≡ goes_by sight x.machine)
    → is_steady x'.machine ≡ is_steady x.machine
    → ((slot c : ℕ) → x'.machine ≡ Arms (arm.StoresEpoch slot c) → x.machine ≡ Arms (arm.StoresEpoch slot c))
    → x'.seen ≡ x.seen
    → ((addr : ℕ) → x'.undecided ≡ Some addr → (x.undecided ≡ Some addr) ⊎ (Awake w.now a x.machine × ((levels_of w.now.words).read_only ≤ addr) × (addr < l'.tail)))
    → Knows w.now.shape l' (Awake w.now a x.machine) x'.machine x'.undecided x'.work
    → IsSound (after w a x' (slice_set w.now.words p v) w.now.actions w.past)
lifted w a x x' p v l' sound got epochs' low high same up order cover same_safe same_closed goes steady arms seen fresh knows =
    let back = sym same in
    worded w a x x' (slice_set w.now.words p v) sound got (length-set w.now.words p v) epochs'
    (subst (Rises (levels_of w.now.words)) back up)
    (subst AreInOrder back order)
    (subst (λ (m : Levels). m.limit ≤ m.closed + w.now.places.ring) back cover)
    (λ s h. word_spared w.now.words p v (session_place s own.Epoch) (λ e. omega (arith, e, high)))
    (subst (λ (m : Levels). (s : ℕ) → GoesBy w.now s OfReadOnly → m.safe_read_only ≤ (seen_of w.now.actors s).read_only) back (λ s c. let h = sound.guard.safe.read_only s c in omega (arith, h, same_safe)))
    (subst (λ (m : Levels). (s : ℕ) → GoesBy w.now s OfHead → m.closed ≤ (seen_of w.now.actors s).head) back (λ s c. let h = sound.guard.safe.head s c in omega (arith, h, same_closed)))
    (word_spared w.now.words p v 1 (λ e. omega (arith, e, low)))
    goes steady arms seen
    (subst (λ (m : Levels). (addr : ℕ) → x'.undecided ≡ Some addr → (x.undecided ≡ Some addr) ⊎ (Awake w.now a x.machine × ((levels_of w.now.words).read_only ≤ addr) × (addr < m.tail))) back fresh)
    (subst (λ (m : Levels). Knows w.now.shape m (Awake w.now a x.machine) x'.machine x'.undecided x'.work) back knows)

-- the epochs' part of it, where the actor's machine of the epochs stays
pub lifted_epochs : (w : GuardWorld) (a : ℕ) (x x' : Actor) (p v : ℕ) → IsSound w → slice_get w.now.actors a ≡ Some x → 3 ≤ p → p < 10 → x'.machine ≡ x.machine
    → epochs_sound.IsSound (epoch_world (after w a x' (slice_set w.now.words p v) w.now.actions w.past))
lifted_epochs w a x x' p v sound got low high machine =
    rw (same_machines w.now.actors a x x' got machine) (changes_sound (epoch_world w) p v (offset_foreign w.now.places.sessions p low high) sound.epochs)
