-- Why a record below the tail keeps its words: its frame is written by an event that names the word's place, and else not at all.
use Rattle.std.proofs.Common.{◌≡◌, ◌≢◌, ℕ, ◌+◌, ◌<◌, ◌≤◌, List, ◌∷◌, sym, ap, arith, inl, inr, ◌∙◌, Bool, true}
use Rattle.std.specs.Prelude.{Option, Some, None, nat_lt, nat_le, if◌then◌else◌}
use Rattle.std.proofs.lemmas.Bool.Decides.{nat_tests}
use Rattle.fkv_plane.specs.declared.places.Places.{Places}
use Rattle.fkv_plane.specs.declared.places.RecordWord.{RecordWord}
use Rattle.fkv_plane.specs.Places.{record_place}
use Rattle.fkv_plane.specs.Asked.{word_at}
use Rattle.fkv_flush.specs.GuardLevels.{levels_of}
use Rattle.fkv_flush.specs.GuardWorld.{GuardNow, GuardWorld, GuardEvent, guard_happens, guard_run}
use Rattle.fkv_flush.specs.Guarded.{event_writes}
use Rattle.fkv_flush.specs.GuardFlushed.{is_open, framed, stands, SparesRecord}
use Rattle.fkv_flush.proofs.GuardEpochs.{Spares}
use Rattle.fkv_flush.proofs.GuardSound.{IsSound}
use Rattle.fkv_flush.proofs.GuardWorks.{truth}
use Rattle.fkv_flush.proofs.GuardHappens.{both}
use Rattle.fkv_flush.proofs.GuardUnwritten.{unwritten, limit_rises}
use Rattle.fkv_flush.proofs.GuardStays.{same_store}
use Rattle.fkv_flush.proofs.GuardLaw.{run_sound}
use Rattle.fkv_flush.proofs.GuardFlushed.{opens, stood_open}

-- a place that an event doesn't write is spared
pub not_written : (found : Option ℕ) (place : ℕ) → found ≢ Some place → Spares found place
not_written None place other = tt
not_written (Some written) place other = λ same. other (ap Some (sym same))

-- one event, where what stood was the words in the frame
pub framed_still : (w : GuardWorld) (event : GuardEvent) (before : ℕ → RecordWord → ℕ) (addr : ℕ) (word : RecordWord) → IsSound w → addr < (levels_of w.now.words).tail → SparesRecord w.now event addr word
    → (is_open w.now addr ≡ true → before addr word ≡ word_at w.now.words (record_place w.now.places addr word))
    → framed (guard_happens w event).now before addr word ≡ before addr word
framed_still w event before addr word sound below spares stood = elim (truth (is_open (guard_happens w event).now addr)) [
  | inl e ↦
      let n' : GuardNow = (guard_happens w event).now in
      let t = both (nat_lt addr (levels_of n'.words).limit) (nat_le (levels_of n'.words).limit (addr + n'.places.ring)) e in
      let near : (levels_of n'.words).limit ≤ addr + n'.places.ring = grind (arith, nat_tests, t) in
      let same : n'.places ≡ w.now.places = (same_store w event).1 in
      let ring = ap (λ (p : Places). p.ring) same in
      let rises = limit_rises w event sound in
      let o = sound.guard.in_order in
      let open_before : is_open w.now addr ≡ true = opens w.now addr (omega (arith, below, o.tail_below)) (omega (arith, rises, near, ring)) in
      ap (λ (b : Bool). if b then word_at n'.words (record_place n'.places addr word) else before addr word) e
      ∙ ap (λ (p : Places). word_at n'.words (record_place p addr word)) same
      ∙ unwritten w event (record_place w.now.places addr word) (not_written (event_writes w.now event) (record_place w.now.places addr word) (spares open_before))
      ∙ sym (stood open_before)
  | inr e ↦ ap (λ (b : Bool). if b then word_at (guard_happens w event).now.words (record_place (guard_happens w event).now.places addr word) else before addr word) e
]

-- so it is in a run
pub stands_still : (first : GuardWorld) (events : List GuardEvent) (event : GuardEvent) (addr : ℕ) (word : RecordWord) → IsSound first → addr < (levels_of (guard_run first events).now.words).tail → SparesRecord (guard_run first events).now event addr word
    → stands first (event ∷ events) addr word ≡ stands first events addr word
unfolding stands guard_run
stands_still first events event addr word sound below spares =
    framed_still (guard_run first events) event (stands first events) addr word (run_sound first events sound) below spares (stood_open first events addr word)
