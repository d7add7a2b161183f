-- What a session's step is to the guard is one step of its actor, and so is what a call begins.
use Rattle.std.proofs.Common.{ℕ, List, [], ◌∷◌, ◌++◌, Bool, true, false}
use Rattle.std.specs.Prelude.{⊤, if◌then◌else◌, Option, Some, None, ◌==◌}
use Rattle.fkv_plane.specs.declared.asks.Ask.{Ask}
use Rattle.fkv_plane.specs.declared.asks.Ask.TheVariants.{Done}
use Rattle.fkv_plane.specs.declared.places.Places.{Places}
use Rattle.fkv_plane.specs.declared.places.RecordWord.TheVariants as rec
use Rattle.fkv_plane.specs.Asked.{asked, word_at, reply_to}
use Rattle.fkv_plane.specs.Passing.{is_done}
use Rattle.fkv_plane.specs.Places.{record_place}
use Rattle.fkv_log.specs.Reserving.{reserve_next_ask}
use Rattle.fkv_log.specs.declared.reserving.ReserveAnswer.{ReserveAnswer}
use Rattle.fkv_log.specs.declared.reserving.ReserveAnswer.TheVariants.{Reserved}
use Rattle.fkv_index.specs.declared.publishing.Publishing.{Publishing}
use Rattle.fkv_index.specs.declared.publishing.Publishing.TheVariants.{SwapsEntry}
use Rattle.fkv_log.specs.declared.reserving.Reserving.{Reserving}
use Rattle.fkv_log.specs.declared.reserving.Reserving.TheVariants as reserve
use Rattle.fkv_log.specs.declared.filling.Filling.{Filling}
use Rattle.fkv_log.specs.declared.filling.Filling.TheVariants as fill
use Rattle.fkv_log.specs.declared.invalidating.Invalidating.{Invalidating}
use Rattle.fkv_log.specs.declared.invalidating.Invalidating.TheVariants as invalidate
use Rattle.fkv_log.specs.declared.shifting.Shifting.{Shifting}
use Rattle.fkv_log.specs.declared.shifting.Shifting.TheVariants as shift
use Rattle.fkv_log.specs.declared.turning.Turning.{Turning}
use Rattle.fkv_log.specs.declared.turning.Turning.TheVariants as turn
use Rattle.fkv_epoch.specs.EpochWorld.{ToClaim}
use Rattle.fkv_epoch.specs.declared.refreshing.Refreshing.{Refreshing}
use Rattle.fkv_epoch.specs.declared.refreshing.Refreshing.TheVariants as refresh
use Rattle.fkv_epoch.specs.declared.protecting.Protecting.{Protecting}
use Rattle.fkv_epoch.specs.declared.protecting.Protecting.TheVariants as protect
use Rattle.fkv_epoch.specs.declared.leaving.Leaving.{Leaving}
use Rattle.fkv_epoch.specs.declared.leaving.Leaving.TheVariants as leave
use Rattle.fkv_epoch.specs.declared.scanning.Scanning.{Scanning}
use Rattle.fkv_epoch.specs.declared.scanning.Scanning.TheVariants as scan
use Rattle.fkv_epoch.specs.declared.claiming.Claiming.{Claiming}
use Rattle.fkv_epoch.specs.declared.claiming.Claiming.TheVariants as claim
use Rattle.fkv_session.specs.declared.own_turns.OwnTurning.{OwnTurning}
use Rattle.fkv_session.specs.declared.own_turns.OwnTurning.TheVariants as turning
use Rattle.fkv_session.specs.CatchingUp.{CatchState}
use Rattle.fkv_session.specs.OwnTurns.{OwnTurnState}
use Rattle.law_world.specs.GuardSessions.Likenesses.{reserve_onward, fill_onward, invalidate_onward, append_onward}
use Rattle.law_world.specs.GuardSessions.OwnTurns.{scan_onward, claim_onward, shift_onward, turn_onward, own_turn_onward}
use Rattle.fkv_flush.specs.GuardAsks.{writes}
use Rattle.fkv_flush.specs.GuardWorld as guard
use Rattle.fkv_flush.specs.GuardWorld.{GuardEvent, Begins, Resumes, Moves, Updates, Changes, ToDo, ToFlush}
use Rattle.fkv_ops.specs.Appending.{AppendState}
use Rattle.fkv_ops.specs.Trying.{TryState}
use Rattle.fkv_ops.specs.declared.appending.Appending.{Appending}
use Rattle.fkv_ops.specs.declared.appending.Appending.TheVariants as appending
use Rattle.fkv_ops.specs.declared.trying.Trying.{Trying}
use Rattle.fkv_ops.specs.declared.trying.Trying.TheVariants.{SwapsValue, ChangesValue, Appends}
use Rattle.fkv_pending.specs.Attempting.{AttemptState}
use Rattle.fkv_pending.specs.declared.attempting.Attempting.{Attempting}
use Rattle.fkv_pending.specs.declared.attempting.Attempting.TheVariants.{Tries}
use Rattle.fkv_session.specs.declared.catching_up.Catching.{Catching}
use Rattle.fkv_session.specs.declared.catching_up.Catching.TheVariants.{Refreshes, Protects, Finishes}
use Rattle.fkv_session.specs.declared.sessions.Sitting.{Sitting}
use Rattle.fkv_session.specs.declared.sessions.Sitting.TheVariants.{Attempts, CatchesUp, Polls, Turns, Leaves}
use Rattle.fkv_session.specs.Sessions.{SessionState, Seat, room_of, session_ask}
use Rattle.law_world.specs.GuardSessions.Steps.{Onward, Stays, Starts, GoesOn, onward_events, changed_at, outer_events}
use Rattle.law_world.specs.GuardSessions.Tries.{is_for_entry, reserved_events, publish_events, append_events, try_events, try_onward}
use Rattle.law_world.specs.GuardSessions.Attempts.{attempt_events, attempt_onward}
use Rattle.law_world.specs.GuardSessions.Catches.{catch_events, refresh_onward, protect_onward, finish_onward, catch_onward}
use Rattle.law_world.specs.GuardSessions.Sessions.{sitting_events, leave_onward, sitting_onward, session_guard_events, called_guard_events}
use Rattle.law_world.proofs.OfGuarded.OneStep.{IsStep, mine, one, then_quiet, by_test}

moves : (keeper a : ℕ) → IsStep keeper a (Moves a ∷ [])
moves keeper a = one keeper a (Moves a) (mine a) tt

-- no session begins to flush
abbrev IsNoFlush : Onward → Type 0
IsNoFlush (Starts ToFlush) = ⊥
IsNoFlush its = ⊤

goes_onward : (keeper a : ℕ) (its : Onward) (before : List GuardEvent) → IsNoFlush its → IsStep keeper a before → IsStep keeper a (onward_events a its ++ before)
goes_onward keeper a Stays before none s = s
goes_onward keeper a (Starts ToFlush) before none s = absurd none
goes_onward keeper a (Starts task) before none s = then_quiet keeper a (Begins a task) before (mine a) tt tt s
goes_onward keeper a GoesOn before none s = then_quiet keeper a (Resumes a) before (mine a) tt tt s

onward_alone : (keeper a : ℕ) (its : Onward) → IsNoFlush its → IsStep keeper a (onward_events a its)
onward_alone keeper a Stays none = tt
onward_alone keeper a (Starts ToFlush) none = absurd none
onward_alone keeper a (Starts task) none = one keeper a (Begins a task) (mine a) tt
onward_alone keeper a GoesOn none = one keeper a (Resumes a) (mine a) tt

reserve_none : (step : Reserving) → IsNoFlush (reserve_onward step)
reserve_none (reserve.LoadsLimit bound) = tt
reserve_none step = tt

fill_none : (step : Filling) → IsNoFlush (fill_onward step)
fill_none (fill.StoresValue addr its_words) = tt
fill_none step = tt

invalidate_none : (step : Invalidating) → IsNoFlush (invalidate_onward step)
invalidate_none (invalidate.StoresHeader addr header) = tt
invalidate_none step = tt

append_none : (s : AppendState) (step : Appending) → IsNoFlush (append_onward s step)
append_none s appending.Reserves = reserve_none s.reserving
append_none s (appending.Fills addr) = fill_none s.filling
append_none s appending.Invalidates = invalidate_none s.invalidating
append_none s step = tt

try_none : (t : TryState) (step : Trying) → IsNoFlush (try_onward t step)
try_none t (Appends its) = append_none t.append t.append.step
try_none t step = tt

attempt_none : (s : AttemptState) (step : Attempting) → IsNoFlush (attempt_onward s step)
attempt_none s Tries = try_none s.trial s.trial.step
attempt_none s step = tt

refresh_none : (step : Refreshing) → IsNoFlush (refresh_onward step)
refresh_none refresh.LoadsEpoch = tt
refresh_none step = tt

protect_none : (step : Protecting) → IsNoFlush (protect_onward step)
protect_none protect.LoadsEpoch = tt
protect_none step = tt

finish_none : (step : Refreshing) → IsNoFlush (finish_onward step)
finish_none (refresh.StoresEpoch epoch) = tt
finish_none step = tt

catch_none : (c : CatchState) (step : Catching) → IsNoFlush (catch_onward c step)
catch_none c Refreshes = refresh_none c.refreshing
catch_none c Protects = protect_none c.protecting
catch_none c Finishes = finish_none c.refreshing
catch_none c step = tt

scan_none : (step : Scanning) → IsNoFlush (scan_onward step)
scan_none scan.LoadsEpoch = tt
scan_none step = tt

first_none : (b : Bool) → IsNoFlush (if b then Starts (ToDo ToClaim) else Stays)
first_none true = tt
first_none false = tt

claim_none : (step : Claiming) → IsNoFlush (claim_onward step)
claim_none (claim.MeetsSlot slot None) = first_none (slot == 0)
claim_none step = tt

shift_none : (step : Shifting) → IsNoFlush (shift_onward step)
shift_none shift.LoadsTail = tt
shift_none step = tt

turn_none : (step : Turning) → IsNoFlush (turn_onward step)
turn_none (turn.LoadsLimit form tail) = tt
turn_none step = tt

own_turn_none : (o : OwnTurnState) (step : OwnTurning) → IsNoFlush (own_turn_onward o step)
own_turn_none o turning.Scans = scan_none o.scanning
own_turn_none o turning.Claims = claim_none o.claiming
own_turn_none o turning.Shifts = shift_none o.shift.step
own_turn_none o turning.Opens = turn_none o.turn.step
own_turn_none o step = tt

leave_none : (step : Leaving) → IsNoFlush (leave_onward step)
leave_none leave.StoresZero = tt
leave_none step = tt

sitting_none : (s : SessionState) (step : Sitting) → IsNoFlush (sitting_onward s step)
sitting_none s (Attempts has_shifted) = attempt_none s.attempt s.attempt.step
sitting_none s (Polls index) = attempt_none s.attempt s.attempt.step
sitting_none s (CatchesUp cause) = catch_none s.catching s.catching.step
sitting_none s (Turns its) = own_turn_none s.own_turn s.own_turn.step
sitting_none s Leaves = leave_none s.leaving
sitting_none s step = tt

changed : (keeper a : ℕ) (words : List ℕ) (at : Option ℕ) (f : ℕ → ℕ) → IsStep keeper a (changed_at a words at f)
changed keeper a words None f = tt
changed keeper a words (Some place) f = one keeper a (Changes a place (f (word_at words place))) (mine a) tt

outer : {A : Type 0} (keeper a : ℕ) (words : List ℕ) (ask : Ask A) → IsStep keeper a (outer_events a words ask)
outer keeper a words ask = changed keeper a words (writes ask) (asked ask)

reserved : (keeper a : ℕ) (s : AppendState) (ask : Ask ReserveAnswer) → IsStep keeper a (reserved_events a s ask)
reserved keeper a s (Done (Reserved addr)) = by_test keeper a (is_for_entry s addr) _ _ (moves keeper a) (then_quiet keeper a (guard.Publishes a) (Moves a ∷ []) (mine a) tt tt (moves keeper a))
reserved keeper a s ask = moves keeper a

published : {A : Type 0} (keeper a : ℕ) (words : List ℕ) (step : Publishing) (ask : Ask A) → IsStep keeper a (publish_events a words step ask)
published keeper a words (SwapsEntry place word entry) ask =
    by_test keeper a (word_at words place == word) _ _ (then_quiet keeper a (guard.Publishes a) (outer_events a words ask) (mine a) tt tt (outer keeper a words ask)) (outer keeper a words ask)
published keeper a words step ask = outer keeper a words ask

appended : {A : Type 0} (keeper a room : ℕ) (words : List ℕ) (s : AppendState) (step : Appending) (ask : Ask A) → IsStep keeper a (append_events a room words s step ask)
appended keeper a room words s appending.Reserves ask = reserved keeper a s (reserve_next_ask room s.reserving (reply_to words ask))
appended keeper a room words s (appending.Fills addr) ask = moves keeper a
appended keeper a room words s (appending.Publishes addr) ask = published keeper a words s.publishing ask
appended keeper a room words s appending.Invalidates ask = moves keeper a
appended keeper a room words s step ask = outer keeper a words ask

tried : {A : Type 0} (keeper a room : ℕ) (words : List ℕ) (p : Places) (t : TryState) (step : Trying) (ask : Ask A) → IsStep keeper a (try_events a room words p t step ask)
tried keeper a room words p t (SwapsValue addr) ask = one keeper a _ (mine a) tt
tried keeper a room words p t (ChangesValue addr old) ask = by_test keeper a (word_at words (record_place p addr.0 rec.Value) == old) _ _ (one keeper a _ (mine a) tt) tt
tried keeper a room words p t (Appends its) ask = appended keeper a room words t.append t.append.step ask
tried keeper a room words p t step ask = outer keeper a words ask

attempted : {A : Type 0} (keeper a room : ℕ) (words : List ℕ) (p : Places) (s : AttemptState) (step : Attempting) (ask : Ask A) → IsStep keeper a (attempt_events a room words p s step ask)
attempted keeper a room words p s Tries ask = tried keeper a room words p s.trial s.trial.step ask
attempted keeper a room words p s step ask = outer keeper a words ask

caught : {A : Type 0} (keeper a : ℕ) (words : List ℕ) (step : Catching) (ask : Ask A) → IsStep keeper a (catch_events a words step ask)
caught keeper a words Refreshes ask = moves keeper a
caught keeper a words Protects ask = moves keeper a
caught keeper a words Finishes ask = moves keeper a
caught keeper a words step ask = outer keeper a words ask

sat : {A : Type 0} (keeper : ℕ) (k : Seat) (words : List ℕ) (s : SessionState) (step : Sitting) (ask : Ask A) → IsStep keeper k.number (sitting_events k words s step ask)
sat keeper k words s (Attempts has_shifted) ask = attempted keeper k.number (room_of k) words k.places s.attempt s.attempt.step ask
sat keeper k words s (Polls index) ask = attempted keeper k.number (room_of k) words k.places s.attempt s.attempt.step ask
sat keeper k words s (CatchesUp cause) ask = caught keeper k.number words s.catching.step ask
sat keeper k words s (Turns its) ask = moves keeper k.number
sat keeper k words s Leaves ask = moves keeper k.number
sat keeper k words s step ask = outer keeper k.number words ask

-- a session's step
pub session_steps : (keeper : ℕ) (k : Seat) (words : List ℕ) (s after : SessionState) → IsStep keeper k.number (session_guard_events k words s after)
session_steps keeper k words s after = by_test keeper k.number (is_done (session_ask k s)) [] _ tt (goes_onward keeper k.number (sitting_onward after after.step) (sitting_events k words s s.step (session_ask k s)) (sitting_none after after.step) (sat keeper k words s s.step (session_ask k s)))

-- and a call that begins
pub called_steps : (keeper : ℕ) (k : Seat) (after : SessionState) → IsStep keeper k.number (called_guard_events k after)
called_steps keeper k after = onward_alone keeper k.number (sitting_onward after after.step) (sitting_none after after.step)
