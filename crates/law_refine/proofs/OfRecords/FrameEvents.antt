-- A step of a session is an event of the guard that writes a word of a frame only where the session may write one next.
use Rattle.std.proofs.Common.{◌≡◌, ◌⊎◌, ℕ, ◌≤◌, ◌∙◌, inl, inr, refl, sym, subst, Bool, true, false, List, [], ◌∷◌, ◌++◌}
use Rattle.std.specs.Prelude.{Option, Some, None, ⊤, slice_get, ◌==◌, if◌then◌else◌}
use Rattle.fkv_epoch.proofs.Shown.{none_some}
use Rattle.fkv_plane.specs.declared.asks.Ask.{Ask}
use Rattle.fkv_plane.specs.declared.asks.Ask.TheVariants.{Done}
use Rattle.fkv_plane.specs.declared.places.Places.{Places}
use Rattle.fkv_plane.specs.declared.places.RecordWord.TheVariants as rec
use Rattle.fkv_plane.specs.Asked.{word_at}
use Rattle.fkv_plane.specs.Passing.{is_done}
use Rattle.fkv_plane.specs.Places.{frames_start}
use Rattle.law_world.specs.Below.fkv_log.TheFilling.{Filling}
use Rattle.law_world.specs.Below.fkv_log.TheFilling.TheVariants as fill
use Rattle.law_world.specs.Below.fkv_log.TheInvalidating.{Invalidating}
use Rattle.law_world.specs.Below.fkv_log.TheInvalidating.TheVariants as invalidate
use Rattle.law_world.specs.Below.fkv_log.ReserveAnswer.{ReserveAnswer}
use Rattle.law_world.specs.Below.fkv_log.ReserveAnswer.TheVariants as reserved
use Rattle.law_world.specs.Below.fkv_log.TheReserving.{Reserving}
use Rattle.law_world.specs.Below.fkv_log.TheReserving.TheVariants as reserve
use Rattle.law_world.specs.Below.fkv_log.Reserving.{reserve_next_ask}
use Rattle.fkv_plane.specs.Asked.{asked, reply_to}
use Rattle.fkv_index.specs.declared.publishing.Publishing.{Publishing}
use Rattle.fkv_index.specs.declared.publishing.Publishing.TheVariants.{AtRest, SwapsEntry}
use Rattle.law_world.specs.Below.fkv_flush.GuardAsks.{writes}
use Rattle.law_world.specs.Below.fkv_flush.GuardSeen.{LastSeen}
use Rattle.law_world.specs.Below.fkv_flush.GuardWorld.{Actor, Work, Fills, Invalidates, GuardWorld, GuardEvent, Moves, Publishes, Shifts, is_idle, shift_rests, turn_rests}
use Rattle.law_world.specs.Below.fkv_flush.GuardWorld as guard
use Rattle.law_world.specs.Below.fkv_flush.Guarded.{event_writes}
use Rattle.law_world.proofs.Below.fkv_flush.Shown.{IsSound, FitsWork}
use Rattle.law_world.specs.Below.fkv_ops.TheAppending.{Appending}
use Rattle.law_world.specs.Below.fkv_ops.TheAppending.TheVariants as appending
use Rattle.law_world.specs.Below.fkv_ops.TheTrying.{Trying}
use Rattle.law_world.specs.Below.fkv_ops.TheTrying.TheVariants.{SwapsValue, ChangesValue, Appends}
use Rattle.law_world.specs.Below.fkv_ops.Appending.{AppendState}
use Rattle.law_world.specs.Below.fkv_ops.Trying.{TryState}
use Rattle.law_world.specs.Below.fkv_pending.TheAttempting.{Attempting}
use Rattle.law_world.specs.Below.fkv_pending.TheAttempting.TheVariants.{Tries}
use Rattle.law_world.specs.Below.fkv_pending.Attempting.{AttemptState}
use Rattle.law_world.specs.Below.fkv_session.Catching.{Catching}
use Rattle.law_world.specs.Below.fkv_session.Catching.TheVariants as catching
use Rattle.law_world.specs.Below.fkv_session.OwnTurning.{OwnTurning}
use Rattle.law_world.specs.Below.fkv_session.OwnTurning.TheVariants as turning
use Rattle.law_world.specs.Below.fkv_session.Sitting.{Sitting}
use Rattle.law_world.specs.Below.fkv_session.Sitting.TheVariants.{Attempts, CatchesUp, Polls, Turns, Leaves}
use Rattle.law_world.specs.Below.fkv_session.CatchingUp.{CatchState}
use Rattle.law_world.specs.Below.fkv_session.OwnTurns.{OwnTurnState}
use Rattle.law_world.specs.Below.fkv_session.Sessions.{SessionState, Seat, session_ask}
use Rattle.law_world.specs.GuardSessions.Attempts.{attempt_events, attempt_likeness_at}
use Rattle.law_world.specs.GuardSessions.Catches.{catch_events, catch_likeness_at}
use Rattle.law_world.specs.GuardSessions.Likenesses.{append_work, fill_work, invalidate_work, reserve_work}
use Rattle.law_world.specs.GuardSessions.OwnTurns.{own_turn_likeness_at}
use Rattle.law_world.specs.GuardSessions.Sessions.{sitting_events, sitting_likeness, sitting_onward, session_guard_events}
use Rattle.law_world.specs.GuardSessions.Steps.{Onward, Stays, Starts, GoesOn, onward_events, changed_at}
use Rattle.law_world.specs.GuardSessions.Tries.{is_for_entry, reserved_events, publish_events, append_events, try_events, try_likeness_at}
use Rattle.law_refine.proofs.OfRecords.FrameWords.{FrameWord, fill_word, invalidate_word, append_word, try_word, attempt_word, sitting_word}
use Rattle.law_refine.proofs.OfRecords.Writers.{IsFrameWork, frame_work, change_none}

-- one of these events writes the word
abbrev pub Writes : GuardWorld → ℕ → List GuardEvent → Type 0
Writes w place [] = ⊥
Writes w place (event ∷ before) = (event_writes w.now event ≡ Some place) ⊎ Writes w place before

pub writes_none : {X : Type 0} (place : ℕ) → ◌≡◌ {A = Option ℕ} None (Some place) → X
writes_none {X} place e = none_some {Y = X} place e

-- ---- what follows on a step writes no word
pub onward_none : (w : GuardWorld) (place number : ℕ) (onward : Onward) → Writes w place (onward_events number onward) → ⊥
onward_none w place number Stays its = its
onward_none w place number (Starts task) (inl e) = writes_none place e
onward_none w place number (Starts task) (inr none) = none
onward_none w place number GoesOn (inl e) = writes_none place e
onward_none w place number GoesOn (inr none) = none

onward_behind : (w : GuardWorld) (place number : ℕ) (onward : Onward) (events : List GuardEvent) → Writes w place (onward_events number onward ++ events) → Writes w place events
onward_behind w place number Stays events its = its
onward_behind w place number (Starts task) events (inl e) = writes_none place e
onward_behind w place number (Starts task) events (inr its) = its
onward_behind w place number GoesOn events (inl e) = writes_none place e
onward_behind w place number GoesOn events (inr its) = its

-- nor does a change of a word that is none of the guard's
outer_none : {X : Type 0} (w : GuardWorld) (place number : ℕ) (words : List ℕ) (at : Option ℕ) (f : ℕ → ℕ) → Writes w place (changed_at number words at f) → frames_start w.now.places ≤ place → X
outer_none {X} w place number words None f its high = absurd its
outer_none {X} w place number words (Some q) f (inl e) high = change_none {X = X} w q place e high
outer_none {X} w place number words (Some q) f (inr none) high = absurd none

-- ---- a machine that is none of those that write frames
abbrev pub IsNoFrame : Option Work → Type 0
IsNoFrame None = ⊤
IsNoFrame (Some work) = IsFrameWork work → ⊥

idle_none : (work : Work) → is_idle work ≡ true → IsFrameWork work → ⊥
idle_none (Fills step) idle its = let clash : true ≡ false = sym idle ∙ its in cc
idle_none (Invalidates step) idle its = let clash : true ≡ false = sym idle ∙ its in cc
idle_none work idle its = absurd its

pub no_frame : (shown : Option Work) (work : Work) → FitsWork shown work → IsNoFrame shown → IsFrameWork work → ⊥
no_frame (Some its) work fits none frame = none (subst IsFrameWork fits frame)
no_frame None work fits none frame = idle_none work fits frame

-- the actor's machine makes its ask
moves_frame : (w : GuardWorld) (a : ℕ) (x : Actor) (place : ℕ) → IsSound w → slice_get w.now.actors a ≡ Some x → Writes w place (Moves a ∷ []) → frames_start w.now.places ≤ place → IsFrameWork x.work
moves_frame w a x place sound got (inl e) high = frame_work w a x place sound got e high
moves_frame w a x place sound got (inr none) high = absurd none

moves_none : {X : Type 0} (w : GuardWorld) (a : ℕ) (x : Actor) (place : ℕ) (shown : Option Work) → IsSound w → slice_get w.now.actors a ≡ Some x → FitsWork shown x.work → IsNoFrame shown → Writes w place (Moves a ∷ [])
    → frames_start w.now.places ≤ place → X
moves_none {X} w a x place shown sound got fits none its high = absurd (no_frame shown x.work fits none (moves_frame w a x place sound got its high))

-- ---- an append
abbrev pub HasWord : Option FrameWord → Type 0
HasWord found = (f : FrameWord) × (found ≡ Some f)

fill_frame : (step : Filling) (work : Work) → FitsWork (fill_work step) work → IsFrameWork work → HasWord (fill_word step)
fill_frame fill.AtRest work fits frame = absurd (idle_none work fits frame)
fill_frame (fill.StoresValue addr its_words) work fits frame = (record { addr = addr.0; word = rec.Value }, refl)
fill_frame (fill.StoresKey addr its_words) work fits frame = (record { addr = addr.0; word = rec.Key }, refl)
fill_frame (fill.StoresHeader addr its_words) work fits frame = (record { addr = addr.0; word = rec.Header }, refl)

invalidate_frame : (step : Invalidating) (work : Work) → FitsWork (invalidate_work step) work → IsFrameWork work → HasWord (invalidate_word step)
invalidate_frame invalidate.AtRest work fits frame = absurd (idle_none work fits frame)
invalidate_frame (invalidate.StoresHeader addr header) work fits frame = (record { addr = addr.0; word = rec.Header }, refl)

reserve_none : (step : Reserving) → IsNoFrame (reserve_work step)
reserve_none reserve.AtRest = tt
reserve_none step = λ its. its

reserved_moves : (w : GuardWorld) (place number : ℕ) (a : AppendState) (ask : Ask ReserveAnswer) → Writes w place (reserved_events number a ask) → Writes w place (Moves number ∷ [])
reserved_moves w place number a (Done (reserved.Reserved addr)) its = by_test (is_for_entry a addr) its
  where
    by_test : (c : Bool) → Writes w place (if c then Moves number ∷ [] else Publishes number ∷ Moves number ∷ []) → Writes w place (Moves number ∷ [])
    by_test true its = its
    by_test false (inl e) = writes_none place e
    by_test false (inr its) = its
reserved_moves w place number a (Done other) its = its
reserved_moves w place number a ask its = its

publish_none : {A X : Type 0} (w : GuardWorld) (place number : ℕ) (words : List ℕ) (step : Publishing) (ask : Ask A) → Writes w place (publish_events number words step ask) → frames_start w.now.places ≤ place → X
publish_none {A} {X} w place number words AtRest ask its high = outer_none {X = X} w place number words (writes ask) (asked ask) its high
publish_none {A} {X} w place number words (SwapsEntry at word entry) ask its high = by_test (word_at words at == word) its
  where
    by_test : (c : Bool) → Writes w place (if c then Publishes number ∷ changed_at number words (writes ask) (asked ask) else changed_at number words (writes ask) (asked ask)) → X
    by_test true (inl e) = writes_none place e
    by_test true (inr its) = outer_none {X = X} w place number words (writes ask) (asked ask) its high
    by_test false its = outer_none {X = X} w place number words (writes ask) (asked ask) its high

append_frame : {A : Type 0} (w : GuardWorld) (number : ℕ) (x : Actor) (room place : ℕ) (words : List ℕ) (a : AppendState) (step : Appending) (ask : Ask A) → IsSound w → slice_get w.now.actors number ≡ Some x → FitsWork (append_work a step) x.work
    → Writes w place (append_events number room words a step ask) → frames_start w.now.places ≤ place → HasWord (append_word a step)
append_frame w number x room place words a (appending.Ended told) ask sound got fits its high = outer_none w place number words (writes ask) (asked ask) its high
append_frame w number x room place words a appending.Reserves ask sound got fits its high =
    moves_none w number x place (reserve_work a.reserving) sound got fits (reserve_none a.reserving) (reserved_moves w place number a (reserve_next_ask room a.reserving (reply_to words ask)) its) high
append_frame w number x room place words a (appending.Fills addr) ask sound got fits its high = fill_frame a.filling x.work fits (moves_frame w number x place sound got its high)
append_frame w number x room place words a (appending.Publishes addr) ask sound got fits its high = publish_none w place number words a.publishing ask its high
append_frame w number x room place words a appending.Invalidates ask sound got fits its high = invalidate_frame a.invalidating x.work fits (moves_frame w number x place sound got its high)

-- ---- a try, an attempt
try_frame : {A : Type 0} (w : GuardWorld) (number : ℕ) (x : Actor) (room place : ℕ) (words : List ℕ) (p : Places) (seen : LastSeen) (t : TryState) (step : Trying) (ask : Ask A) → IsSound w → slice_get w.now.actors number ≡ Some x
    → FitsWork (try_likeness_at seen t step).work x.work → Writes w place (try_events number room words p t step ask) → frames_start w.now.places ≤ place → HasWord (try_word t step)
try_frame w number x room place words p seen t (SwapsValue addr) ask sound got fits its high = (record { addr = addr.0; word = rec.Value }, refl)
try_frame w number x room place words p seen t (ChangesValue addr old) ask sound got fits its high = (record { addr = addr.0; word = rec.Value }, refl)
try_frame w number x room place words p seen t (Appends made) ask sound got fits its high = append_frame w number x room place words t.append t.append.step ask sound got fits its high
try_frame w number x room place words p seen t step ask sound got fits its high = outer_none w place number words (writes ask) (asked ask) its high

attempt_frame : {A : Type 0} (w : GuardWorld) (number : ℕ) (x : Actor) (room place : ℕ) (words : List ℕ) (p : Places) (seen : LastSeen) (a : AttemptState) (step : Attempting) (ask : Ask A) → IsSound w → slice_get w.now.actors number ≡ Some x
    → FitsWork (attempt_likeness_at seen a step).work x.work → Writes w place (attempt_events number room words p a step ask) → frames_start w.now.places ≤ place → HasWord (attempt_word a step)
attempt_frame w number x room place words p seen a Tries ask sound got fits its high = try_frame w number x room place words p seen a.trial a.trial.step ask sound got fits its high
attempt_frame w number x room place words p seen a step ask sound got fits its high = outer_none w place number words (writes ask) (asked ask) its high

-- ---- a session that catches up, turns or leaves
catch_none : {A X : Type 0} (w : GuardWorld) (number : ℕ) (x : Actor) (place : ℕ) (words : List ℕ) (c : CatchState) (step : Catching) (ask : Ask A) → IsSound w → slice_get w.now.actors number ≡ Some x → FitsWork (catch_likeness_at c step).work x.work
    → Writes w place (catch_events number words step ask) → frames_start w.now.places ≤ place → X
catch_none {A} {X} w number x place words c catching.Refreshes ask sound got fits its high = moves_none {X = X} w number x place None sound got fits tt its high
catch_none {A} {X} w number x place words c catching.Protects ask sound got fits its high = moves_none {X = X} w number x place None sound got fits tt its high
catch_none {A} {X} w number x place words c catching.Finishes ask sound got fits its high = moves_none {X = X} w number x place None sound got fits tt its high
catch_none {A} {X} w number x place words c step ask sound got fits its high = outer_none {X = X} w place number words (writes ask) (asked ask) its high

either_none : (c : Bool) (a b : Option Work) → IsNoFrame a → IsNoFrame b → IsNoFrame (if c then a else b)
either_none true a b one other = one
either_none false a b one other = other

turn_none : (seen : LastSeen) (o : OwnTurnState) (step : OwnTurning) → IsNoFrame (own_turn_likeness_at seen o step).work
turn_none seen o turning.Ended = tt
turn_none seen o turning.Scans = tt
turn_none seen o turning.Claims = tt
turn_none seen o turning.Shifts = either_none (shift_rests o.shift.step) None (Some (Shifts o.shift)) tt (λ its. its)
turn_none seen o turning.Opens = either_none (turn_rests o.turn.step) None (Some (guard.Turns o.turn)) tt (λ its. its)

sitting_frame : {A : Type 0} (w : GuardWorld) (k : Seat) (x : Actor) (place : ℕ) (words : List ℕ) (s : SessionState) (step : Sitting) (ask : Ask A) → IsSound w → slice_get w.now.actors k.number ≡ Some x
    → FitsWork (sitting_likeness s step).work x.work → Writes w place (sitting_events k words s step ask) → frames_start w.now.places ≤ place → HasWord (sitting_word s step)
sitting_frame w k x place words s (Attempts has_shifted) ask sound got fits its high = attempt_frame w k.number x _ place words k.places _ s.attempt s.attempt.step ask sound got fits its high
sitting_frame w k x place words s (Polls index) ask sound got fits its high = attempt_frame w k.number x _ place words k.places _ s.attempt s.attempt.step ask sound got fits its high
sitting_frame w k x place words s (CatchesUp cause) ask sound got fits its high = catch_none w k.number x place words s.catching s.catching.step ask sound got fits its high
sitting_frame w k x place words s (Turns told) ask sound got fits its high = moves_none w k.number x place _ sound got fits (turn_none _ s.own_turn s.own_turn.step) its high
sitting_frame w k x place words s Leaves ask sound got fits its high = moves_none w k.number x place None sound got fits tt its high
sitting_frame w k x place words s step ask sound got fits its high = outer_none w place k.number words (writes ask) (asked ask) its high

-- a whole step
pub session_frame : (w : GuardWorld) (k : Seat) (x : Actor) (place : ℕ) (words : List ℕ) (s after : SessionState) → IsSound w → slice_get w.now.actors k.number ≡ Some x → FitsWork (sitting_likeness s s.step).work x.work
    → Writes w place (session_guard_events k words s after) → frames_start w.now.places ≤ place → HasWord (sitting_word s s.step)
session_frame w k x place words s after sound got fits its high = by_test (is_done (session_ask k s)) its
  where
    onward : Onward
    onward = sitting_onward after after.step

    by_test : (c : Bool) → Writes w place (if c then [] else onward_events k.number onward ++ sitting_events k words s s.step (session_ask k s)) → HasWord (sitting_word s s.step)
    by_test true its = absurd its
    by_test false its = sitting_frame w k x place words s s.step (session_ask k s) sound got fits (onward_behind w place k.number onward (sitting_events k words s s.step (session_ask k s)) its) high
