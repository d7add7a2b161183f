-- Steps of a scan.
use Rattle.std.proofs.Common.{◌≡◌, ℕ, ◌+◌, ◌-◌, ◌<◌, ◌≤◌, List, refl, arith, ap, inl, inr, max, Bool, true, false}
use Rattle.std.specs.Prelude.{Some, None, slice_get, slice_set, nat_lt, if◌then◌else◌}
use Rattle.std.proofs.lemmas.List.{set-get_or, length-set}
use Rattle.std.proofs.lemmas.Bool.Decides.{nat_tests}
use Rattle.fkv_plane.specs.Places.{session_place, drain_place}
use Rattle.fkv_plane.specs.declared.places.SessionWord.TheVariants as own
use Rattle.fkv_epoch.specs.declared.scanning.Scanning.{Scanning}
use Rattle.fkv_epoch.specs.declared.scanning.Scanning.TheVariants.{AtRest, LoadsEpoch, LoadsSession, RaisesSafe}
use Rattle.fkv_epoch.specs.Scanning.{scan_ask, scan_next, sessions_from, least_of}
use Rattle.fkv_epoch.specs.EpochWorld.{EpochMachine, Scans, Loads, EpochWorld, epoch_of, safe_of, own_epoch, drain_word}
use Rattle.fkv_epoch.proofs.Items.{same_or, word_written, word_spared}
use Rattle.fkv_epoch.proofs.Epochs.{IsFrom, AreFrom, Knows}
use Rattle.fkv_epoch.proofs.Slots.{still}
use Rattle.fkv_epoch.proofs.Sound.{IsSound, quiet, takes_none, slot_table, assembled, epochs_step}
use Rattle.fkv_epoch.proofs.SessionSteps.{SoundAfter, machine_changed}

from_weaker : (m m' word : ℕ) (l : Loads) (machine : EpochMachine) → m' ≤ m → IsFrom m word l machine → IsFrom m' word l machine
from_weaker m m' word l machine h f = record { loaded = λ s p g. let o = f.loaded s p g in omega (arith, o, h) }

least_le : (m word : ℕ) → least_of m word ≤ m
unfolding least_of
least_le m word = grind (arith, nat_tests)

least_word : (m word : ℕ) → 0 < word → least_of m word ≤ word
unfolding least_of
least_word m word h = grind (arith, nat_tests)

least_some : (m word : ℕ) → 1 ≤ m → 1 ≤ least_of m word
unfolding least_of
least_some m word h = grind (arith, nat_tests)

-- what a scan knows as it meets the session i, with the least m so far
meets : (S E word : ℕ) (l : Loads) (From : ℕ → ℕ → Type 0) (a i m : ℕ) → 1 ≤ m → m ≤ E → i ≤ S → From m i → Knows S E word l From a (Scans (sessions_from S i m))
unfolding sessions_from
meets S E word l From a i m some below few from =
    cases (nat_lt i S) refl
  where
    cases : (b : Bool) → nat_lt i S ≡ b → Knows S E word l From a (Scans (if b then LoadsSession i m else RaisesSafe m))
    cases true e = (grind (arith, nat_tests, e), some, below, from)
    cases false e = let same : i ≡ S = grind (arith, nat_tests, e) in (some, below, rw (← same) from)

pub scan_moves : (w : EpochWorld) (a : ℕ) (step : Scanning) → IsSound w → slice_get w.now.actors a ≡ Some (Scans step) → SoundAfter w a (Scans step)
unfolding scan_ask scan_next
scan_moves w a AtRest sound got =
    quiet w a (Scans AtRest) (Scans AtRest) None sound got (inl (omega arith))
    (machine_changed w a (Scans AtRest) (Scans AtRest) sound got (λ s g. refl)) tt (λ o f s. tt)
scan_moves w a LoadsEpoch sound got =
    let d' : EpochMachine = Scans (sessions_from w.now.sessions 0 (epoch_of w.now.words)) in
    let some = sound.epochs.safe_below in
    rw (set-get_or w.now.words 0 0)
    (quiet w a (Scans LoadsEpoch) d' None sound got (inl (omega arith))
    (machine_changed w a (Scans LoadsEpoch) d' sound got (λ s g. refl))
    (meets w.now.sessions (epoch_of w.now.words) (own_epoch w.now.words a) (w.past.loads a) (AreFrom (own_epoch w.now.words) w.past.in_force w.now.actors) a 0 (epoch_of w.now.words) (omega arith) (omega arith) (omega arith) (λ s h. absurd (omega (arith, h)))) (λ o f s. tt))
scan_moves w a (LoadsSession i m) sound got =
    let word : ℕ = own_epoch w.now.words i in
    let least : ℕ = least_of m word in
    let d' : EpochMachine = Scans (sessions_from w.now.sessions (i + 1) least) in
    let k = sound.epochs.knows a (Scans (LoadsSession i m)) got in
    let low = least_le m word in
    let from : AreFrom (own_epoch w.now.words) w.past.in_force w.now.actors least (i + 1) = λ s h machine its. elim (same_or s i) [
      | inl e ↦
          let f : IsFrom (own_epoch w.now.words s) (own_epoch w.now.words s) (w.past.in_force s) machine = sound.epochs.above_word s (omega (arith, e, k.0)) machine its in
          record { loaded = λ o p g. let x = f.loaded o p g in let y = least_word m word (omega (arith, p, ap (own_epoch w.now.words) e)) in omega (arith, x, y, ap (own_epoch w.now.words) e) }
      | inr n ↦ from_weaker m least (own_epoch w.now.words s) (w.past.in_force s) machine low (k.3 s (omega (arith, n, h)) machine its)
    ] in
    rw (set-get_or w.now.words (session_place i own.Epoch) 0)
    (quiet w a (Scans (LoadsSession i m)) d' None sound got (inl (omega arith))
    (machine_changed w a (Scans (LoadsSession i m)) d' sound got (λ s g. refl))
    (meets w.now.sessions (epoch_of w.now.words) (own_epoch w.now.words a) (w.past.loads a) (AreFrom (own_epoch w.now.words) w.past.in_force w.now.actors) a (i + 1) least (least_some m word k.1) (omega (arith, low, k.2)) (omega (arith, k.0)) from) (λ o f s. tt))
scan_moves w a (RaisesSafe m) sound got =
    let k = sound.epochs.knows a (Scans (RaisesSafe m)) got in
    let safe : ℕ = safe_of w.now.words in
    let word : ℕ = max safe (m - 1) in
    let words' : List ℕ = slice_set w.now.words 1 word in
    let now_safe : safe_of words' ≡ word = word_written w.now.words 1 word (omega (arith, sound.enough_words)) in
    let same_epoch : epoch_of words' ≡ epoch_of w.now.words = word_spared w.now.words 1 word 0 (λ e. omega (arith, e)) in
    let some : 1 ≤ m = k.0 in
    let few : m ≤ epoch_of w.now.words = k.1 in
    let safer = sound.epochs.safe_below in
    let above : AreFrom (own_epoch w.now.words) w.past.in_force w.now.actors (safe_of words' + 1) w.now.sessions = λ s inside machine its. record {
      loaded = λ o p g.
          let x = (k.2 s inside machine its).loaded o p g in
          let y = (sound.epochs.above_safe s inside machine its).loaded o p g in
          omega (arith, x, y, now_safe);
    } in
    let d' : EpochMachine = Scans AtRest in
    assembled w a (Scans (RaisesSafe m)) d' None w.past.in_force words' w.now.actions w.past.armed w.past.claims w.past.runs sound.owners sound.fates sound got
    (length-set w.now.words 1 word) sound.eight_slots (inl (omega arith))
    (epochs_step w.now.sessions (epoch_of w.now.words) (epoch_of words') (safe_of w.now.words) (safe_of words') (own_epoch w.now.words) (own_epoch words') w.past.loads w.past.in_force w.past.in_force w.now.actors a (Scans (RaisesSafe m)) d' None
    sound.epochs got (omega arith) (omega (arith, now_safe, safer, few, some)) above
    (λ s i n. word_spared w.now.words 1 word (session_place s own.Epoch) (λ e. omega (arith, e))) (takes_none w a None sound)
    (λ i. rw (word_spared w.now.words 1 word (session_place a own.Epoch) (λ e. omega (arith, e))) (machine_changed w a (Scans (RaisesSafe m)) d' sound got (λ s g. refl) i))
    tt)
    (still (slot_table w.now w.past sound.owners sound.fates) (epoch_of words') (safe_of words') (drain_word words') w.now.actors a (Scans (RaisesSafe m)) d' sound.slots got
    (omega arith) (omega (arith, now_safe)) (λ s f. word_spared w.now.words 1 word (drain_place s) (λ e. omega (arith, e))) tt)
    sound.once
