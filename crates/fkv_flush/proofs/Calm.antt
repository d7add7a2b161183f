-- How the shared words move: offsets, epoch and safe epoch go up alone, and an epoch word is its session's own to change.
use Rattle.std.proofs.Common.{◌≡◌, ◌≢◌, ℕ, ◌+◌, ◌*◌, ◌^◌, ◌<◌, ◌≤◌, ◌⊎◌, List, [], ◌∷◌, length, refl, sym, ap, subst, arith, inl, inr, ◌∙◌, Bool, true, false}
use Rattle.std.specs.Prelude.{Option, Some, ⊤, slice_get, slice_set, nat_le, ◌==◌, ◌&&◌, if◌then◌else◌}
use Rattle.std.proofs.lemmas.List.{set-get_or}
use Rattle.std.proofs.lemmas.Bool.Decides.{nat_tests}
use Rattle.fkv_base.specs.Limits.{drain_slots}
use Rattle.fkv_plane.specs.declared.actions.Action.{Action}
use Rattle.fkv_plane.specs.declared.actions.Action.TheVariants as act
use Rattle.fkv_plane.specs.declared.asks.Ask.{Ask}
use Rattle.fkv_plane.specs.declared.asks.Ask.TheVariants.{Load, Store, Swap, Cas, Add, Max, Put, Take, Done}
use Rattle.fkv_plane.specs.declared.places.Places.{Places}
use Rattle.fkv_plane.specs.declared.places.SessionWord.TheVariants as own
use Rattle.fkv_plane.specs.declared.places.RecordWord.TheVariants as rec
use Rattle.fkv_plane.specs.Places.{session_place, record_place}
use Rattle.fkv_plane.specs.Asked.{word_at, words_after}
use Rattle.fkv_log.specs.declared.reserving.Reserving.{Reserving}
use Rattle.fkv_log.specs.declared.reserving.Reserving.TheVariants as reserve
use Rattle.fkv_log.specs.declared.filling.Filling.{Filling}
use Rattle.fkv_log.specs.declared.filling.Filling.TheVariants as fill
use Rattle.fkv_log.specs.declared.invalidating.Invalidating.{Invalidating}
use Rattle.fkv_log.specs.declared.invalidating.Invalidating.TheVariants as invalidate
use Rattle.fkv_log.specs.Reserving.{reserve_ask}
use Rattle.fkv_log.specs.Filling.{fill_ask}
use Rattle.fkv_log.specs.Invalidating.{invalidate_ask}
use Rattle.fkv_epoch.specs.declared.protecting.Protecting.{Protecting}
use Rattle.fkv_epoch.specs.declared.protecting.Protecting.TheVariants as protect
use Rattle.fkv_epoch.specs.declared.refreshing.Refreshing.{Refreshing}
use Rattle.fkv_epoch.specs.declared.refreshing.Refreshing.TheVariants as refresh
use Rattle.fkv_epoch.specs.declared.leaving.Leaving.{Leaving}
use Rattle.fkv_epoch.specs.declared.leaving.Leaving.TheVariants as leave
use Rattle.fkv_epoch.specs.declared.scanning.Scanning.{Scanning}
use Rattle.fkv_epoch.specs.declared.scanning.Scanning.TheVariants as scan
use Rattle.fkv_epoch.specs.declared.claiming.Claiming.{Claiming}
use Rattle.fkv_epoch.specs.declared.claiming.Claiming.TheVariants as claim
use Rattle.fkv_epoch.specs.declared.raising.Raising.{Raising}
use Rattle.fkv_epoch.specs.declared.raising.Raising.TheVariants as raise
use Rattle.fkv_epoch.specs.declared.arming.Arming.{Arming}
use Rattle.fkv_epoch.specs.declared.arming.Arming.TheVariants as arm
use Rattle.fkv_epoch.specs.Protecting.{protect_ask}
use Rattle.fkv_epoch.specs.Refreshing.{refresh_ask}
use Rattle.fkv_epoch.specs.Leaving.{leave_ask}
use Rattle.fkv_epoch.specs.Scanning.{scan_ask}
use Rattle.fkv_epoch.specs.Claiming.{claim_ask, claim_next}
use Rattle.fkv_epoch.specs.Raising.{raise_ask}
use Rattle.fkv_epoch.specs.Arming.{arm_ask}
use Rattle.fkv_epoch.specs.EpochWorld.{EpochMachine, Protects, Refreshes, Leaves, Scans, Claims, Raises, HasRaised, Arms, EpochWorld, machine_step}
use Rattle.fkv_epoch.proofs.Shown.{word_spared, word_written, same_or, some_same}
use Rattle.fkv_epoch.proofs.Shown.{epoch_is_small}
use Rattle.fkv_epoch.proofs.Shown as epochs_sound
use Rattle.fkv_log.specs.declared.moving.Offset.{Offset}
use Rattle.fkv_log.specs.declared.moving.Offset.TheVariants.{ReadOnly, Head}
use Rattle.fkv_log.specs.declared.moving.Moving.{Moving}
use Rattle.fkv_log.specs.declared.moving.Moving.TheVariants as move
use Rattle.fkv_log.specs.declared.shifting.Shifting.{Shifting}
use Rattle.fkv_log.specs.declared.shifting.Shifting.TheVariants as shift
use Rattle.fkv_log.specs.declared.turning.Turning.{Turning}
use Rattle.fkv_log.specs.declared.turning.Turning.TheVariants as turn
use Rattle.fkv_flush.specs.declared.flushing.Flushing.TheVariants as flush
use Rattle.fkv_flush.specs.declared.serving.Serving.TheVariants as serve
use Rattle.fkv_log.specs.Moving.{Mover, offset_place, move_ask, moving_ask}
use Rattle.fkv_plane.specs.Passing.{passed}
use Rattle.fkv_log.specs.Shifting.{shift_ask, shifting_ask}
use Rattle.fkv_log.specs.Turning.{turn_ask, turning_ask}
use Rattle.fkv_flush.specs.Flushing.{flush_ask}
use Rattle.fkv_flush.specs.Serving.{serve_ask}
use Rattle.fkv_flush.specs.GuardLevels.{levels_of}
use Rattle.fkv_flush.specs.GuardCalm.{actor_of, IsOther, AreOther, IsCalm}
use Rattle.fkv_flush.specs.GuardWorld.{Actor, Work, Rests, Reserves, Fills, Invalidates, Shifts, Turns, Flushes, Serves, GuardWorld, GuardEvent, Moves, Calls, Reads, Updates, RaisesReadOnly, RaisesFor, Changes, work_step, is_idle, is_guarded, is_stored, epoch_world, levels, guard_happens, guard_run}
use Rattle.fkv_flush.proofs.GuardMachines.{claimed_same}
use Rattle.fkv_flush.proofs.GuardSound.{IsSound, MoveKnows, ShiftKnows, TurnKnows, machine_at}
use Rattle.fkv_flush.proofs.GuardWorks.{truth, Known}
use Rattle.fkv_flush.proofs.GuardMoves.{limit_fits}
use Rattle.fkv_flush.proofs.GuardStays.{SameStore, same_store}
use Rattle.fkv_flush.proofs.GuardSteps.{foreign_session, foreign_low}
use Rattle.fkv_flush.proofs.GuardHappens.{guarded_not}
use Rattle.fkv_flush.proofs.GuardLaw.{run_sound}
use Rattle.fkv_flush.proofs.GuardFlushed.{page_some}
use Rattle.fkv_flush.proofs.OneEvent.{event_near, called_near, read_near, raised_near, each_event}

-- all sessions but one
abbrev AllBut : ℕ → ℕ → Type 0
AllBut a session = session ≢ a

-- the words of which the calm speaks are all below the sessions' words, but the epoch words of other sessions
abbrev IsAside : ℕ → ℕ → ℕ → Type 0
IsAside S a place = ((place ≡ 2) ⊎ (10 ≤ place)) × ((session : ℕ) → session < S → session ≢ a → session_place session own.Epoch ≢ place)

-- an ask that an actor may make of these words, in calm
abbrev AsksCalmly : {A : Type 0} → ℕ → ℕ → List ℕ → Ask A → Type 0
AsksCalmly S a words (Load place) = ⊤
AsksCalmly S a words (Store place new) = IsAside S a place
AsksCalmly S a words (Swap place new) = IsAside S a place
AsksCalmly S a words (Cas place old new) = IsAside S a place ⊎ ((place < 10) × (old ≤ new))
AsksCalmly S a words (Add place k) = (place < 10) × (word_at words place + k < 2 ^ 64)
AsksCalmly S a words (Max place k) = place < 10
AsksCalmly S a words (Put slot action) = ⊤
AsksCalmly S a words (Take slot) = ⊤
AsksCalmly S a words (Done answer) = ⊤

pub same_calm : (S : ℕ) (N : ℕ → Type 0) (words : List ℕ) → IsCalm S N words words
same_calm S N words = record {
  offsets = record { closed = omega arith; head = omega arith; flushed = omega arith; safe_read_only = omega arith; read_only = omega arith; tail = omega arith; limit = omega arith };
  epoch = omega arith;
  safe_epoch = omega arith;
  others = λ session h n. refl;
}

-- one after the other
pub then_calm : (S : ℕ) (N M : ℕ → Type 0) (first second third : List ℕ) → IsCalm S M first second → IsCalm S N second third → IsCalm S (λ session. N session × M session) first third
then_calm S N M first second third c d =
    let o = c.offsets in
    let p = d.offsets in
    record {
      offsets = record {
        closed = omega (arith, o.closed, p.closed);
        head = omega (arith, o.head, p.head);
        flushed = omega (arith, o.flushed, p.flushed);
        safe_read_only = omega (arith, o.safe_read_only, p.safe_read_only);
        read_only = omega (arith, o.read_only, p.read_only);
        tail = omega (arith, o.tail, p.tail);
        limit = omega (arith, o.limit, p.limit);
      };
      epoch = omega (arith, c.epoch, d.epoch);
      safe_epoch = omega (arith, c.safe_epoch, d.safe_epoch);
      others = λ session h n. d.others session h n.0 ∙ c.others session h n.1;
    }

-- a word aside is written
aside_calm : (S a : ℕ) (words : List ℕ) (place word : ℕ) → IsAside S a place → IsCalm S (AllBut a) words (slice_set words place word)
aside_calm S a words place word aside =
    let at : (k : ℕ) → k < 10 → k ≢ 2 → word_at (slice_set words place word) k ≡ word_at words k = λ k low no_phase. word_spared words place word k (λ e. elim aside.0 [ inl h ↦ no_phase (e ∙ h) | inr h ↦ omega (arith, h, e, low) ]) in
    let up : (k : ℕ) → k < 10 → k ≢ 2 → word_at words k ≤ word_at (slice_set words place word) k = λ k low no_phase. let e = at k low no_phase in omega (arith, e) in
    record {
      offsets = record {
        closed = up 9 (omega arith) (λ e. omega (arith, e));
        head = up 8 (omega arith) (λ e. omega (arith, e));
        flushed = up 7 (omega arith) (λ e. omega (arith, e));
        safe_read_only = up 6 (omega arith) (λ e. omega (arith, e));
        read_only = up 5 (omega arith) (λ e. omega (arith, e));
        tail = up 3 (omega arith) (λ e. omega (arith, e));
        limit = up 4 (omega arith) (λ e. omega (arith, e));
      };
      epoch = up 0 (omega arith) (λ e. omega (arith, e));
      safe_epoch = up 1 (omega arith) (λ e. omega (arith, e));
      others = λ session h n. word_spared words place word (session_place session own.Epoch) (aside.1 session h n);
    }

-- one of the words that all go by is raised
raised_calm : (S a : ℕ) (words : List ℕ) (place word : ℕ) → 24 ≤ length words → place < 10 → word_at words place ≤ word → IsCalm S (AllBut a) words (slice_set words place word)
raised_calm S a words place word enough low raised =
    let up : (k : ℕ) → word_at words k ≤ word_at (slice_set words place word) k = λ k. elim (same_or k place) [
      | inl e ↦ rw e (let h = word_written words place word (omega (arith, enough, low)) in omega (arith, h, raised))
      | inr n ↦ let h = word_spared words place word k n in omega (arith, h)
    ] in
    record {
      offsets = record { closed = up 9; head = up 8; flushed = up 7; safe_read_only = up 6; read_only = up 5; tail = up 3; limit = up 4 };
      epoch = up 0;
      safe_epoch = up 1;
      others = λ session h n. word_spared words place word (session_place session own.Epoch) (λ e. omega (arith, e, low));
    }

asked_calm : {A : Type 0} (S a : ℕ) (words : List ℕ) (ask : Ask A) → 24 ≤ length words → AsksCalmly S a words ask → IsCalm S (AllBut a) words (words_after words ask)
asked_calm S a words (Load place) enough h = rw (set-get_or words place 0) (same_calm S (AllBut a) words)
asked_calm S a words (Store place new) enough h = aside_calm S a words place new h
asked_calm S a words (Swap place new) enough h = aside_calm S a words place new h
asked_calm S a words (Cas place old new) enough (inl h) = aside_calm S a words place _ h
asked_calm S a words (Cas place old new) enough (inr h) = raised_calm S a words place _ enough h.0 (up (word_at words place) (truth (word_at words place == old)))
  where
    up : (found : ℕ) → ((found == old) ≡ true) ⊎ ((found == old) ≡ false) → found ≤ (if found == old then new else found)
    up found (inl e) = rw e (let g : found ≡ old = grind (arith, nat_tests, e) in omega (arith, g, h.1))
    up found (inr e) = rw e (omega arith)
asked_calm S a words (Add place k) enough h = raised_calm S a words place _ enough h.0 (omega (arith, h.1))
asked_calm S a words (Max place k) enough h = raised_calm S a words place _ enough h (omega arith)
asked_calm S a words (Put slot action) enough h = same_calm S (AllBut a) words
asked_calm S a words (Take slot) enough h = same_calm S (AllBut a) words
asked_calm S a words (Done answer) enough h = same_calm S (AllBut a) words

calm_passed : {A B : Type 0} (S a : ℕ) (words : List ℕ) (ask : Ask A) (b : B) → AsksCalmly S a words ask → AsksCalmly S a words (passed ask b)
unfolding passed
calm_passed S a words (Load place) b h = h
calm_passed S a words (Store place new) b h = h
calm_passed S a words (Swap place new) b h = h
calm_passed S a words (Cas place old new) b h = h
calm_passed S a words (Add place k) b h = h
calm_passed S a words (Max place k) b h = h
calm_passed S a words (Put slot action) b h = h
calm_passed S a words (Take slot) b h = h
calm_passed S a words (Done answer) b h = h

-- its own epoch word, a slot, and what is past the sessions' words
own_aside : (S a : ℕ) → IsAside S a (session_place a own.Epoch)
own_aside S a = (inr (omega arith), λ session h n e. n (omega (arith, e)))

slot_aside : (S a slot : ℕ) → slot < drain_slots → IsAside S a (16 + slot)
slot_aside S a slot few = (inr (omega arith), λ session h n e. omega (arith, e, few))

high_aside : (S a place : ℕ) → 24 + 16 * S ≤ place → IsAside S a place
high_aside S a place high = (inr (omega (arith, high)), λ session h n e. omega (arith, e, h, high))

mail_aside : (S a session word : ℕ) → 1 ≤ word → word < 16 → IsAside S a (24 + 16 * session + word)
mail_aside S a session word low high = (inr (omega arith), λ other h n e. omega (arith, e, low, high))

protect_calm : (S a : ℕ) (words : List ℕ) (step : Protecting) → AsksCalmly S a words (protect_ask a step)
unfolding protect_ask
protect_calm S a words (protect.StoresEpoch epoch) = own_aside S a
protect_calm S a words step = tt

refresh_calm : (S a : ℕ) (words : List ℕ) (step : Refreshing) → AsksCalmly S a words (refresh_ask a step)
unfolding refresh_ask
refresh_calm S a words (refresh.StoresEpoch epoch) = own_aside S a
refresh_calm S a words step = tt

leave_calm : (S a : ℕ) (words : List ℕ) (step : Leaving) → AsksCalmly S a words (leave_ask a step)
unfolding leave_ask
leave_calm S a words leave.StoresZero = own_aside S a
leave_calm S a words step = tt

scan_calm : (S a : ℕ) (words : List ℕ) (step : Scanning) → AsksCalmly S a words (scan_ask step)
unfolding scan_ask
scan_calm S a words (scan.RaisesSafe least) = omega arith
scan_calm S a words step = tt

claim_calm : (w : EpochWorld) (a : ℕ) (step : Claiming) → epochs_sound.IsSound w → slice_get w.now.actors a ≡ Some (Claims step) → AsksCalmly w.now.sessions a w.now.words (claim_ask step)
unfolding claim_ask
claim_calm w a (claim.TakesSlot slot word safe) sound got = inl (slot_aside w.now.sessions a slot (sound.slots.holds a (Claims (claim.TakesSlot slot word safe)) got).0)
claim_calm w a (claim.Runs slot epoch safe (act.SafeReadOnly addr)) sound got = omega arith
claim_calm w a (claim.Runs slot epoch safe (act.Close addr)) sound got = omega arith
claim_calm w a (claim.Runs slot epoch safe (act.Phase phase version)) sound got = (inl refl, λ session h n e. omega (arith, e))
claim_calm w a (claim.FreesSlot slot safe) sound got = slot_aside w.now.sessions a slot (sound.slots.holds a (Claims (claim.FreesSlot slot safe)) got).0
claim_calm w a step sound got = tt

raise_calm : (w : EpochWorld) (a : ℕ) (step : Raising) → epochs_sound.IsSound w → slice_get w.now.actors a ≡ Some (Raises step) → AsksCalmly w.now.sessions a w.now.words (raise_ask step)
unfolding raise_ask
raise_calm w a (raise.HoldsSlot slot) sound got = inl (slot_aside w.now.sessions a slot (sound.slots.holds a (Raises (raise.HoldsSlot slot)) got))
raise_calm w a (raise.RaisesEpoch slot) sound got = let small = epoch_is_small w sound in (omega arith, omega (arith, small))
raise_calm w a step sound got = tt

arm_calm : (w : EpochWorld) (a : ℕ) (step : Arming) → epochs_sound.IsSound w → slice_get w.now.actors a ≡ Some (Arms step) → AsksCalmly w.now.sessions a w.now.words (arm_ask step)
unfolding arm_ask
arm_calm w a (arm.StoresEpoch slot c) sound got = slot_aside w.now.sessions a slot (sound.slots.holds a (Arms (arm.StoresEpoch slot c)) got).0
arm_calm w a step sound got = tt

-- one ask of a machine of the epochs
machine_calm : (w : EpochWorld) (a : ℕ) (d : EpochMachine) → epochs_sound.IsSound w → slice_get w.now.actors a ≡ Some d → IsCalm w.now.sessions (AllBut a) w.now.words (machine_step w.now.sessions a w.now.words w.now.actions d).words
machine_calm w a d sound got = by d got
  where
    enough : 24 ≤ length w.now.words
    enough = let h = sound.enough_words in omega (arith, h)

    by : (d : EpochMachine) → slice_get w.now.actors a ≡ Some d → IsCalm w.now.sessions (AllBut a) w.now.words (machine_step w.now.sessions a w.now.words w.now.actions d).words
    by (Protects step) its = asked_calm w.now.sessions a w.now.words (protect_ask a step) enough (protect_calm w.now.sessions a w.now.words step)
    by (Refreshes step) its = asked_calm w.now.sessions a w.now.words (refresh_ask a step) enough (refresh_calm w.now.sessions a w.now.words step)
    by (Leaves step) its = asked_calm w.now.sessions a w.now.words (leave_ask a step) enough (leave_calm w.now.sessions a w.now.words step)
    by (Scans step) its = asked_calm w.now.sessions a w.now.words (scan_ask step) enough (scan_calm w.now.sessions a w.now.words step)
    by (Claims step) its = rw (claimed_same (words_after w.now.words (claim_ask step)) w.now.actions (claim_next step _)) (asked_calm w.now.sessions a w.now.words (claim_ask step) enough (claim_calm w a step sound its))
    by (Raises step) its = asked_calm w.now.sessions a w.now.words (raise_ask step) enough (raise_calm w a step sound its)
    by (HasRaised slot epoch) its = same_calm w.now.sessions (AllBut a) w.now.words
    by (Arms step) its = asked_calm w.now.sessions a w.now.words (arm_ask step) enough (arm_calm w a step sound its)

reserve_calm : (S a : ℕ) (words : List ℕ) (step : Reserving) → AsksCalmly S a words (reserve_ask step)
unfolding reserve_ask
reserve_calm S a words (reserve.TakesTail tail) = inr (omega arith, omega arith)
reserve_calm S a words step = tt

fill_calm : (p : Places) (a : ℕ) (words : List ℕ) (step : Filling) → AsksCalmly p.sessions a words (fill_ask p step)
unfolding fill_ask
fill_calm p a words fill.AtRest = tt
fill_calm p a words (fill.StoresValue addr its_words) = high_aside p.sessions a _ (omega arith)
fill_calm p a words (fill.StoresKey addr its_words) = high_aside p.sessions a _ (omega arith)
fill_calm p a words (fill.StoresHeader addr its_words) = high_aside p.sessions a _ (omega arith)

invalidate_calm : (p : Places) (a : ℕ) (words : List ℕ) (step : Invalidating) → AsksCalmly p.sessions a words (invalidate_ask p step)
unfolding invalidate_ask
invalidate_calm p a words invalidate.AtRest = tt
invalidate_calm p a words (invalidate.StoresHeader addr header) = high_aside p.sessions a _ (omega arith)

offset_low : (offset : Offset) → offset_place offset < 10
offset_low ReadOnly = omega arith
offset_low Head = omega arith

move_calm : (w : GuardWorld) (a : ℕ) (x : Actor) (step : Moving) (raising : Raising) (arming : Arming) → IsSound w → slice_get w.now.actors a ≡ Some x → MoveKnows (levels_of w.now.words) x.machine step raising arming
    → AsksCalmly w.now.places.sessions a w.now.words (moving_ask step raising arming)
unfolding moving_ask
move_calm w a x move.AtRest raising arming sound got k = tt
move_calm w a x (move.Raises target) raising arming sound got k = calm_passed w.now.places.sessions a w.now.words (raise_ask raising) _ (raise_calm (epoch_world w) a raising sound.epochs (machine_at w.now.actors a x got ∙ ap Some k.0))
move_calm w a x (move.MovesOffset target) raising arming sound got k = offset_low target.offset
move_calm w a x (move.Puts target slot) raising arming sound got k = tt
move_calm w a x move.Arms raising arm.AtRest sound got k = absurd k
move_calm w a x move.Arms raising (arm.PutsAction slot c) sound got k = absurd k
move_calm w a x move.Arms raising (arm.StoresEpoch slot c) sound got k = calm_passed w.now.places.sessions a w.now.words (arm_ask (arm.StoresEpoch slot c)) _ (arm_calm (epoch_world w) a (arm.StoresEpoch slot c) sound.epochs (machine_at w.now.actors a x got ∙ ap Some k))

-- One step of an actor that there is.
module _ (w : GuardWorld) (a : ℕ) (x : Actor) (sound : IsSound w) (got : slice_get w.now.actors a ≡ Some x) where
  abbrev S : ℕ
  S = w.now.places.sessions

  abbrev CalmTo : List ℕ → Type 0
  CalmTo words = IsCalm S (AllBut a) w.now.words words

  enough : 24 ≤ length w.now.words
  enough = let h = sound.epochs.enough_words in omega (arith, h)

  asks : {A : Type 0} (ask : Ask A) → AsksCalmly S a w.now.words ask → CalmTo (words_after w.now.words ask)
  asks ask h = asked_calm S a w.now.words ask enough h

  still : CalmTo w.now.words
  still = same_calm S (AllBut a) w.now.words

  shift_calm : (step : Shifting) (m : Mover) → ShiftKnows (levels_of w.now.words) x.machine step m → AsksCalmly S a w.now.words (shifting_ask step m)
  unfolding shifting_ask
  shift_calm (shift.Moves tail) m k = calm_passed S a w.now.words (move_ask m) _ (move_calm w a x m.step m.raising m.arming sound got k)
  shift_calm step m k = tt

  turn_calm : (step : Turning) (m : Mover) → TurnKnows w.now.shape (levels_of w.now.words) x.machine step m → AsksCalmly S a w.now.words (turning_ask w.now.shape step m)
  unfolding turning_ask
  turn_calm (turn.RaisesLimit limit) m k = inr (omega arith, let h = (limit_fits w.now.shape limit (page_some w sound)).0 in omega (arith, h))
  turn_calm turn.Moves m k = calm_passed S a w.now.words (move_ask m) _ (move_calm w a x m.step m.raising m.arming sound got k)
  turn_calm step m k = tt

  -- one ask of its work
  work_calm : (work : Work) → x.work ≡ work → CalmTo (work_step w.now a x work).words
  unfolding flush_ask serve_ask
  work_calm Rests its = machine_calm (epoch_world w) a x.machine sound.epochs (machine_at w.now.actors a x got)
  work_calm (Reserves step) its = asks (reserve_ask step) (reserve_calm S a w.now.words step)
  work_calm (Fills step) its = asks (fill_ask w.now.places step) (fill_calm w.now.places a w.now.words step)
  work_calm (Invalidates step) its = asks (invalidate_ask w.now.places step) (invalidate_calm w.now.places a w.now.words step)
  work_calm (Shifts s) its = asks (shift_ask s) (shift_calm s.step s.mover (subst (Known w a x) its (sound.knows a x got)))
  work_calm (Turns s) its = asks (turn_ask w.now.shape s) (turn_calm s.step s.mover (subst (Known w a x) its (sound.knows a x got)))
  work_calm (Flushes (flush.RaisesFlushed end) bytes) its = asks (flush_ask w.now.places (flush.RaisesFlushed end)) (omega arith)
  work_calm (Flushes step bytes) its = asks (flush_ask w.now.places step) tt
  work_calm (Serves begin (serve.StoresHeader session mail)) its = asks (serve_ask (serve.StoresHeader session mail)) (mail_aside S a session 7 (omega arith) (omega arith))
  work_calm (Serves begin (serve.StoresKey session mail)) its = asks (serve_ask (serve.StoresKey session mail)) (mail_aside S a session 8 (omega arith) (omega arith))
  work_calm (Serves begin (serve.StoresValue session mail)) its = asks (serve_ask (serve.StoresValue session mail)) (mail_aside S a session 9 (omega arith) (omega arith))
  work_calm (Serves begin (serve.StoresReady session)) its = asks (serve_ask (serve.StoresReady session)) (mail_aside S a session 5 (omega arith) (omega arith))
  work_calm (Serves begin step) its = asks (serve_ask step) tt

  called_calm : (done : Bool) (work : Work) → CalmTo (called_near w.now done x work).words
  called_calm done (Flushes step bytes) = still
  called_calm done work = still

  read_calm : (bytes : Option (List ℕ)) (work : Work) → CalmTo (read_near w.now bytes x work).words
  read_calm bytes (Serves begin step) = still
  read_calm bytes work = still

  raises_calm : (action : Action) (d : EpochMachine) → x.machine ≡ d → CalmTo (raised_near w.now action x d).words
  raises_calm action (Raises (raise.RaisesEpoch slot)) e = asks (raise_ask (raise.RaisesEpoch slot)) (raise_calm (epoch_world w) a (raise.RaisesEpoch slot) sound.epochs (machine_at w.now.actors a x got ∙ ap Some e))
  raises_calm action d e = still

  changed_calm : (place word : ℕ) → is_guarded w.now.places place ≡ false → CalmTo (slice_set w.now.words place word)
  changed_calm place word free =
      let aside = guarded_not w.now.places place free in
      elim aside.no_offset [
        | inl low ↦ aside_calm S a w.now.words place word (inl (let none = foreign_low S place aside.foreign in omega (arith, low, none)), λ session h n. foreign_session S session place aside.foreign h)
        | inr high ↦ aside_calm S a w.now.words place word (inr high, λ session h n. foreign_session S session place aside.foreign h)
      ]

  -- a word is written where a test is met
  test_calm : (b : Bool) (words : List ℕ) → (b ≡ true → CalmTo words) → CalmTo (if b then words else w.now.words)
  test_calm true words h = h refl
  test_calm false words h = still

  else_calm : (b : Bool) (words : List ℕ) → (b ≡ false → CalmTo words) → CalmTo (if b then w.now.words else words)
  else_calm true words h = still
  else_calm false words h = h refl

  -- an event of its own
  near_calm : (event : GuardEvent) → actor_of event ≡ Some a → CalmTo (event_near w.now event x).words
  near_calm (Moves b) its = let e = some_same b a its in rw e (elim (truth (is_idle x.work)) [
    | inl idle ↦ rw idle (work_calm_idle)
    | inr busy ↦ rw busy (work_calm x.work refl)
  ])
    where
      work_calm_idle : CalmTo (work_step w.now a x Rests).words
      work_calm_idle = machine_calm (epoch_world w) a x.machine sound.epochs (machine_at w.now.actors a x got)
  near_calm (Calls b done) its = called_calm done x.work
  near_calm (Reads b bytes) its = read_calm bytes x.work
  near_calm (Updates b addr word) its = aside_calm S a w.now.words (record_place w.now.places addr rec.Value) word (high_aside S a _ (omega arith))
  near_calm (RaisesReadOnly b to) its = test_calm (nat_le to (levels w).tail) _ (λ e. raised_calm S a w.now.words 5 _ enough (omega arith) (omega arith))
  near_calm (RaisesFor b action) its = elim (truth (is_idle x.work && is_stored w.now.words action)) [
    | inl e ↦ rw e (raises_calm action x.machine refl)
    | inr e ↦ rw e still
  ]
  near_calm (Changes b place word) its = else_calm (is_guarded w.now.places place) _ (changed_calm place word)
  near_calm event its = still

-- One event, whoever makes it, leaves each of these words where it was or higher.
pub event_calm : (w : GuardWorld) (event : GuardEvent) → IsSound w → IsCalm w.now.places.sessions (IsOther event) w.now.words (guard_happens w event).now.words
unfolding guard_happens
event_calm w event sound =
    each_event (λ m. IsCalm w.now.places.sessions (IsOther event) w.now.words m.words) w.now event (same_calm w.now.places.sessions (IsOther event) w.now.words)
    (λ a x its got. let c = near_calm w a x sound got event its in record {
      offsets = c.offsets;
      epoch = c.epoch;
      safe_epoch = c.safe_epoch;
      others = λ session h n. c.others session h (λ e. n (its ∙ ap Some (sym e)));
    })

-- no list of events changes the shape or the places
pub same_stores : (w : GuardWorld) (events : List GuardEvent) → SameStore w.now (guard_run w events).now
unfolding guard_run
same_stores w [] = (refl, refl)
same_stores w (event ∷ before) =
    let there = same_stores w before in
    let here = same_store (guard_run w before) event in
    (here.0 ∙ there.0, here.1 ∙ there.1)

-- And so do many in a row.
pub events_calm : (w : GuardWorld) (events : List GuardEvent) → IsSound w → IsCalm w.now.places.sessions (AreOther events) w.now.words (guard_run w events).now.words
unfolding guard_run
events_calm w [] sound = same_calm w.now.places.sessions (AreOther []) w.now.words
events_calm w (event ∷ before) sound =
    let v : GuardWorld = guard_run w before in
    let there = run_sound w before sound in
    then_calm w.now.places.sessions (IsOther event) (AreOther before) w.now.words v.now.words (guard_happens v event).now.words (events_calm w before sound)
    (subst (λ (p : Places). IsCalm p.sessions (IsOther event) v.now.words (guard_happens v event).now.words) (same_stores w before).1 (event_calm v event there))
