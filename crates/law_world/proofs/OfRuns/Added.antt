-- What an event adds to the history, to the trace and to the calls of the device, to which others than the keeper add none.
use Rattle.std.proofs.Common.{◌≡◌, ◌⊎◌, inl, inr, ℕ, ◌∙◌, ◌++◌, List, [], ◌∷◌, length, refl, ap, sym, subst, Bool, true, false, arith}
use Rattle.std.specs.Prelude.{Option, Some, None, slice_get, if◌then◌else◌}
use Rattle.fkv_base.specs.declared.numbers.Version.{Version}
use Rattle.fkv_map.specs.declared.history.HistoryEntry.{HistoryEntry}
use Rattle.fkv_map.specs.declared.operations.Call.{Call}
use Rattle.fkv_disk.specs.Calls as device
use Rattle.fkv_plane.specs.declared.asks.Ask.{Ask}
use Rattle.fkv_plane.specs.declared.asks.Ask.TheVariants.{Put, Take, Done}
use Rattle.fkv_plane.specs.Asked.{reply_to}
use Rattle.fkv_session.specs.declared.answers.Finished.{Finished}
use Rattle.fkv_session.specs.declared.answers.Told.{Told}
use Rattle.fkv_session.specs.declared.sessions.Sitting.{Sitting}
use Rattle.fkv_session.specs.declared.sessions.Sitting.TheVariants.{Idle}
use Rattle.fkv_session.specs.Sessions.{SessionState, Seat, is_busy, session_ask, session_next}
use Rattle.fkv_keeper.specs.declared.answers.KeeperTold.{KeeperTold}
use Rattle.fkv_keeper.specs.declared.answers.KeeperTold.TheVariants.{Device}
use Rattle.fkv_keeper.specs.declared.keepers.Keeping.{Keeping}
use Rattle.fkv_keeper.specs.declared.keepers.Keeping.TheVariants.{Ended}
use Rattle.fkv_keeper.specs.Keeping.{Finality, keeper_ask}
use Rattle.fkv_keeper.specs.KeeperAsks.{keeper_calls}
use Rattle.fkv_keeper.specs.KeeperRun.{is_in_hand}
use Rattle.fkv_keeper.proofs.Shown.{calls_one}
use Rattle.law_world.specs.Runs.Added.{IsCallsAfter, IsHistoryAfter, told_at, call_begun, begun_by, call_answered, session_answered, keeper_told, is_calling, ended_by, told_by}
use Rattle.fkv_world.specs.Past.{Effect, Past, Traced, TraceEvent, Called, CommitAsked, TurnAsked, traced, effect_made, history_after, answer_traced, session_traced, call_traced, move_traced, keeper_answered, calls_after, life_past}
use Rattle.fkv_world.specs.Runs.{World, happens, read_by_keeper, run}
use Rattle.fkv_world.specs.World.{Event, Calls, Moves, Commits, Turns, KeeperMoves, Crashes, Now, seat_at, life_goes, near}
use Rattle.fkv_world.proofs.Shown.{added_calls, calls_added, is_over, lived, session_written, world_of}
use Rattle.std.proofs.lemmas.Bool.Decides.{nat_tests}
use Rattle.fkv_world.specs.Actors.{NoneOfKeeper, is_of_keeper, session_goes}
use Rattle.law_world.proofs.OfRuns.EffectStays.{IsWordAsk, effect_stays}

-- the history behind an event
unfoldable pub history_found : Now → Seat → Option SessionState → List Effect → List Effect
history_found n k None history = history
history_found n k (Some s) history = history_after k s n.words (session_ask k s) history

unfoldable pub history_added : Now → Event → List Effect → List Effect
history_added n (Moves session) history = history_found n (seat_at n session) (slice_get n.sessions session) history
history_added n event history = history

-- what is told on top of a trace
unfoldable telling : Past → List TraceEvent → Past
telling p its = record p { trace = told_at (length p.history) its ++ p.trace }

told_on : (effects : ℕ) (later before : List TraceEvent) (trace : List Traced) → told_at effects later ++ (told_at effects before ++ trace) ≡ told_at effects (later ++ before) ++ trace
told_on effects [] before trace = refl
told_on effects (its ∷ later) before trace = ap (λ (rest : List Traced). record { its = its; effects = effects } ∷ rest) (told_on effects later before trace)

telling_on : (p : Past) (later before : List TraceEvent) → telling (telling p before) later ≡ telling p (later ++ before)
unfolding telling
telling_on p later before = ap (λ (trace : List Traced). record p { trace = trace }) (told_on (length p.history) later before p.trace)

telling_alone : (p : Past) (its : List TraceEvent) → telling p its ≡ telling p (its ++ [])
unfolding telling
telling_alone p its = ap (λ (trace : List Traced). record p { trace = trace }) (told_on (length p.history) its [] p.trace)

telling_none : (p : Past) → telling p [] ≡ p
unfolding telling
telling_none p = refl

traced_so : (p : Past) (its : TraceEvent) → traced p its ≡ telling p (its ∷ [])
unfolding telling
traced_so p its = refl

-- answers
answer_so : (session : ℕ) (was : Bool) (step : Sitting) (finished : List Finished) (p : Past) → answer_traced session was step finished p ≡ telling p (call_answered session was step finished)
unfolding telling
answer_so session true (Idle its) finished p = refl
answer_so session true step finished p = refl
answer_so session false step finished p = refl

session_so : (session : ℕ) (was : Bool) (after : Option SessionState) (p : Past) → session_traced session was after p ≡ telling p (session_answered session was after)
session_so session was None p = sym (telling_none p)
session_so session was (Some after) p = answer_so session was after.step after.finished p

unanswered : (session : ℕ) (after : Option SessionState) → session_answered session false after ≡ []
unanswered session None = refl
unanswered session (Some after) = refl

-- a call of a session
called_so : (session : ℕ) (call : Call) (busy : Bool) (after : Option SessionState) (p : Past)
    → (if busy then p else session_traced session true after (traced p (Called session call)))
    ≡ telling p (session_answered session (if busy then false else true) after ++ (if busy then [] else Called session call ∷ []))
called_so session call true after p = sym (ap (λ (its : List TraceEvent). telling p (its ++ [])) (unanswered session after) ∙ telling_none p)
called_so session call false after p = session_so session true after (traced p (Called session call)) ∙ (ap (λ (x : Past). telling x (session_answered session true after)) (traced_so p (Called session call)) ∙ telling_on p (session_answered session true after) (Called session call ∷ []))

call_so : (session : ℕ) (call : Call) (found after : Option SessionState) (p : Past) → call_traced session call found after p ≡ telling p (session_answered session (is_calling true found) after ++ call_begun session call found)
call_so session call None after p = sym (ap (λ (its : List TraceEvent). telling p (its ++ [])) (unanswered session after) ∙ telling_none p)
call_so session call (Some s) after p = called_so session call (is_busy s.step) after p

-- a move of a session
move_so : (n : Now) (session : ℕ) (found after : Option SessionState) (p : Past) → move_traced n session found after p
    ≡ telling (record p { history = history_found n (seat_at n session) found p.history }) (session_answered session (is_calling false found) after ++ [])
unfolding history_found
move_so n session None after p = sym (ap (λ (its : List TraceEvent). telling p (its ++ [])) (unanswered session after) ∙ telling_none p)
move_so n session (Some s) after p = session_so session (is_busy s.step) after _ ∙ telling_alone _ (session_answered session (is_busy s.step) after)

-- the keeper
keeper_so : (was : Bool) (step : Keeping) (last : Finality) (p : Past) → keeper_answered was step last p ≡ telling p (keeper_told was step last)
unfolding telling
keeper_so true (Ended its) last p = refl
keeper_so true step last p = refl
keeper_so false step last p = refl

begun_so : (busy : Bool) (its : TraceEvent) (step : Keeping) (last : Finality) (p : Past)
    → (if busy then p else keeper_answered true step last (traced p its)) ≡ telling p (keeper_told (if busy then false else true) step last ++ (if busy then [] else its ∷ []))
begun_so true its step last p = sym (telling_none p)
begun_so false its step last p = keeper_so true step last (traced p its) ∙ (ap (λ (x : Past). telling x (keeper_told true step last)) (traced_so p its) ∙ telling_on p (keeper_told true step last) (its ∷ []))

-- all of an event
added : (n after : Now) (event : Event) (p : Past) → life_past n after event p
    ≡ telling (record p { history = history_added n event p.history; calls = calls_added n event p.calls }) (ended_by n after event ++ begun_by n event)
unfolding life_past history_added calls_added ended_by begun_by
added n after (Calls session call) p = call_so session call (slice_get n.sessions session) (slice_get after.sessions session) p
added n after (Moves session) p = move_so n session (slice_get n.sessions session) (slice_get after.sessions session) p
added n after (Commits kind) p = begun_so (is_in_hand n.keeper.step) (CommitAsked kind) after.keeper.step after.keeper.last p
added n after Turns p = begun_so (is_in_hand n.keeper.step) TurnAsked after.keeper.step after.keeper.last p
added n after (KeeperMoves granted done) p = keeper_so (is_in_hand n.keeper.step) after.keeper.step after.keeper.last _ ∙ telling_alone _ _
added n after Crashes p = sym (telling_none p)

-- and its parts
pub added_history : (w : World) (after : Now) (event : Event) → (world_of w event after).past.history ≡ history_added w.now event w.past.history
unfolding world_of telling
added_history w after event = ap (λ (p : Past). p.history) (added w.now after event w.past)

added_trace : (w : World) (after : Now) (event : Event) → (world_of w event after).past.trace ≡ told_at (length (history_added w.now event w.past.history)) (ended_by w.now after event ++ begun_by w.now event) ++ w.past.trace
unfolding world_of telling
added_trace w after event = ap (λ (p : Past). p.trace) (added w.now after event w.past)

-- at most one entry
effect_so : (found : Option HistoryEntry) (version : Version) (history : List Effect)
    → (effect_made found version history ≡ history) ⊎ ((its : Effect) × (effect_made found version history ≡ its ∷ history) × (found ≡ Some its.entry) × (its.version ≡ version))
effect_so None version history = inl refl
effect_so (Some entry) version history = inr (record { entry = entry; version = version }, refl, refl, refl)

asked_history : (k : Seat) (s : SessionState) (words : List ℕ) (ask : Ask Told) (history : List Effect)
    → (history_after k s words ask history ≡ history)
    ⊎ ((its : Effect) × (history_after k s words ask history ≡ its ∷ history) × ((session_next k s (reply_to words ask)).effect ≡ Some its.entry) × (its.version ≡ s.attempt.pending.request.version) × IsWordAsk ask)
unfolding history_after
asked_history k s words (Put slot action) history = inl refl
asked_history k s words (Take slot) history = inl refl
asked_history k s words (Done its) history = inl refl
asked_history k s words ask history = elim (effect_so (session_next k s (reply_to words ask)).effect s.attempt.pending.request.version history) [
  | inl same ↦ inl same
  | inr its ↦ inr (its.0, its.1, its.2, its.3, tt)
]

-- the session tells it still as the event is over
tells_now : (w : World) (session : ℕ) (s : SessionState) (its : HistoryEntry) → w.now.crashed ≡ false → slice_get w.now.sessions session ≡ Some s
    → IsWordAsk (session_ask (seat_at w.now session) s) → (session_next (seat_at w.now session) s (reply_to w.now.words (session_ask (seat_at w.now session) s))).effect ≡ Some its
    → slice_get (happens w (Moves session)).now.sessions session ≡ Some (session_next (seat_at w.now session) s (reply_to w.now.words (session_ask (seat_at w.now session) s)))
unfolding session_goes
tells_now w session s its alive found word some =
    session_written w (Moves session) session s (grind (arith, nat_tests)) alive found
    ∙ ap (λ (x : SessionState). Some x) (effect_stays (seat_at w.now session) (near w.now s) (session_ask (seat_at w.now session) s) its word some)

found_history : (w : World) (session : ℕ) (found : Option SessionState) → w.now.crashed ≡ false → slice_get w.now.sessions session ≡ found
    → IsHistoryAfter w (Moves session) (history_found w.now (seat_at w.now session) found w.past.history)
unfolding history_found
found_history w session None alive e = inl refl
found_history w session (Some s) alive e = elim (asked_history (seat_at w.now session) s w.now.words (session_ask (seat_at w.now session) s) w.past.history) [
  | inl same ↦ inl same
  | inr its ↦ inr (
    its.0,
    its.1,
    record {
      session = session;
      moves = refl;
      mover = s;
      found = e;
      after = session_next (seat_at w.now session) s (reply_to w.now.words (session_ask (seat_at w.now session) s));
      replied = refl;
      is_now = tells_now w session s its.0.entry alive e its.4 its.2;
      tells = its.2;
      version = its.3;
    },
  )
]

event_history : (w : World) (event : Event) → w.now.crashed ≡ false → IsHistoryAfter w event (history_added w.now event w.past.history)
unfolding history_added
event_history w (Moves session) alive = found_history w session (slice_get w.now.sessions session) alive refl
event_history w event alive = inl refl

-- a world that has crashed stays, and of any other one asks for the event
by_life : (P : World → Type 0) (w : World) (event : Event) (crashed : Bool) → w.now.crashed ≡ crashed → P w → (w.now.crashed ≡ false → P (world_of w event (life_goes w.now (read_by_keeper w) event))) → P (happens w event)
by_life P w event true e still moved = subst P (sym (is_over w event e)) still
by_life P w event false e still moved = subst P (sym (lived w event e)) (moved e)

pub history_so : (w : World) (event : Event) → IsHistoryAfter w event (happens w event).past.history
history_so w event = by_life (λ (x : World). IsHistoryAfter w event x.past.history) w event w.now.crashed refl (inl refl)
    (λ alive. subst (λ (history : List Effect). IsHistoryAfter w event history) (sym (added_history w (life_goes w.now (read_by_keeper w) event) event)) (event_history w event alive))

-- at most one call of the device
device_calls : (w : World) (granted done : Bool) (ask : Ask KeeperTold) → keeper_ask w.now.shape w.now.places w.now.keeper ≡ ask
    → IsCallsAfter w (KeeperMoves granted done) (calls_after ask (keeper_calls w.now.shape w.now.keeper done) w.past.calls)
device_calls w granted done (Done Device) e = elim (calls_one w.now.shape w.now.keeper done) [
  | inl none ↦ inl (ap (λ (calls : List device.Call). calls ++ w.past.calls) none)
  | inr its ↦ inr (its.0, ap (λ (calls : List device.Call). calls ++ w.past.calls) its.1, record { granted = granted; done = done; moves = refl; asks = e; makes = its.1 })
]
device_calls w granted done (Done its) e = inl refl
device_calls w granted done ask e = inl refl

event_calls : (w : World) (event : Event) → IsCallsAfter w event (calls_added w.now event w.past.calls)
unfolding calls_added
event_calls w (KeeperMoves granted done) = device_calls w granted done (keeper_ask w.now.shape w.now.places w.now.keeper) refl
event_calls w event = inl refl

pub calls_so : (w : World) (event : Event) → IsCallsAfter w event (happens w event).past.calls
calls_so w event = by_life (λ (x : World). IsCallsAfter w event x.past.calls) w event w.now.crashed refl (inl refl)
    (λ alive. subst (λ (calls : List device.Call). IsCallsAfter w event calls) (sym (added_calls w (life_goes w.now (read_by_keeper w) event) event)) (event_calls w event))

-- an event that isn't the keeper's adds none
none_added : (n : Now) (event : Event) (calls : List device.Call) → is_of_keeper event ≡ false → calls_added n event calls ≡ calls
unfolding calls_added
none_added n (KeeperMoves granted done) calls other = cc
none_added n event calls other = refl

pub calls_stay : (w : World) (event : Event) → is_of_keeper event ≡ false → (happens w event).past.calls ≡ w.past.calls
calls_stay w event other = by_life (λ (x : World). x.past.calls ≡ w.past.calls) w event w.now.crashed refl refl
    (λ alive. added_calls w (life_goes w.now (read_by_keeper w) event) event ∙ none_added w.now event w.past.calls other)

pub all_calls_stay : (opening : World) (later before : List Event) → NoneOfKeeper later → (run opening (later ++ before)).past.calls ≡ (run opening before).past.calls
unfolding run
all_calls_stay opening [] before none = refl
all_calls_stay opening (event ∷ later) before none = calls_stay (run opening (later ++ before)) event none.0 ∙ all_calls_stay opening later before none.1

-- the trace
same_now : (w : World) (event : Event) (after : Now) → (world_of w event after).now ≡ after
unfolding world_of
same_now w event after = refl

abbrev IsTraceAfter : World → Event → Bool → World → Type 0
IsTraceAfter w event crashed x = x.past.trace ≡ told_at (length x.past.history) (if crashed then [] else ended_by w.now x.now event ++ begun_by w.now event) ++ w.past.trace

world_trace : (w : World) (after : Now) (event : Event) → IsTraceAfter w event false (world_of w event after)
world_trace w after event =
    added_trace w after event
    ∙ (ap (λ (history : List Effect). told_at (length history) (ended_by w.now after event ++ begun_by w.now event) ++ w.past.trace) (sym (added_history w after event))
    ∙ ap (λ (n : Now). told_at (length (world_of w event after).past.history) (ended_by w.now n event ++ begun_by w.now event) ++ w.past.trace) (sym (same_now w event after)))

trace_at : (w : World) (event : Event) (crashed : Bool) → w.now.crashed ≡ crashed → IsTraceAfter w event crashed (happens w event)
trace_at w event true e = subst (IsTraceAfter w event true) (sym (is_over w event e)) refl
trace_at w event false e = subst (IsTraceAfter w event false) (sym (lived w event e)) (world_trace w (life_goes w.now (read_by_keeper w) event) event)

pub trace_so : (w : World) (event : Event) → (happens w event).past.trace ≡ told_at (length (happens w event).past.history) (told_by w.now (happens w event).now event) ++ w.past.trace
trace_so w event = trace_at w event w.now.crashed refl
