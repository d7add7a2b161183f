-- What an event adds to the past: its calls of the device, and the answer that it tells.
use Rattle.std.proofs.Common.{◌≡◌, ◌∙◌, sym, ap, subst, inl, inr, ℕ, Bool, true, false, List, [], ◌++◌, ◌⊎◌, if◌then◌else◌, not, refl, rules}
use Rattle.std.specs.Prelude.{Option, Some, None, slice_get}
use Rattle.fkv_disk.specs.Calls.{Call as DeviceCall, AllDone, reads_as}
use Rattle.fkv_disk.specs.Device.{IsAfter}
use Rattle.fkv_disk.proofs.Shown.{reads_all}
use Rattle.fkv_base.specs.declared.shapes.Shape.{Shape}
use Rattle.fkv_flush.specs.Devices.{Adds}
use Rattle.fkv_keeper.specs.declared.answers.KeeperTold.{KeeperTold}
use Rattle.fkv_keeper.specs.declared.answers.KeeperTold.TheVariants.{Device}
use Rattle.fkv_keeper.specs.declared.keepers.Keeping.{Keeping}
use Rattle.fkv_keeper.specs.declared.keepers.Keeping.TheVariants.{Ended}
use Rattle.fkv_keeper.specs.KeeperAsks.{keeper_calls}
use Rattle.fkv_keeper.specs.KeeperRun.{is_in_hand}
use Rattle.fkv_keeper.specs.Keeping.{KeeperState, keeper_ask}
use Rattle.fkv_map.specs.declared.operations.Call.{Call}
use Rattle.fkv_plane.specs.declared.asks.Ask.{Ask}
use Rattle.fkv_plane.specs.declared.asks.Ask.TheVariants.{Done}
use Rattle.fkv_plane.specs.declared.places.Places.{Places}
use Rattle.fkv_session.specs.declared.answers.Answer.{Answer}
use Rattle.fkv_session.specs.declared.answers.Finished.{Finished}
use Rattle.fkv_session.specs.declared.answers.Told.{Told as SessionTold}
use Rattle.fkv_session.specs.declared.answers.Told.TheVariants.{Polled}
use Rattle.fkv_session.specs.declared.sessions.Sitting.{Sitting}
use Rattle.fkv_session.specs.declared.sessions.Sitting.TheVariants.{Idle}
use Rattle.fkv_session.specs.Answers.{IsAnswerTold}
use Rattle.fkv_session.specs.SessionRun.{telling, with_finished}
use Rattle.fkv_session.specs.Sessions.{SessionState, is_busy, session_ask}
use Rattle.fkv_world.specs.Moves.{Near, keeper_asks, keeper_moved}
use Rattle.fkv_world.specs.Past.{Past, TraceEvent, Called, Answered, CommitAsked, TurnAsked, KeeperAnswered, traced, history_after, answer_traced, call_traced, move_traced, keeper_answered, calls_after, life_past}
use Rattle.fkv_world.specs.Runs.{World, run, happens}
use Rattle.fkv_world.specs.World.{Event, Calls, Moves, Commits, Turns, KeeperMoves, Crashes, Now, seat_at, near, with_keeper, life_goes, happens_now}
use Rattle.fkv_core.specs.declared.events.Told.{Told}
use Rattle.fkv_world.proofs.Shown.{asks_while_done}
use Rattle.fkv_core.specs.Lives.{answers_of, IsSaid, IsLedOn, LeadsAnyOn, LeadsOn}
use Rattle.fkv_core.specs.Told.{IsSittingTold, IsSessionEnd, IsKeepingTold, IsEventTold, IsTold, numbered, may_begin, may_move}
use Rattle.fkv_core.specs.Worlds.{device_gives, event_calls, calls_made}

record IsAdded (p q : Past) (made : List DeviceCall) (told : Option Told) : Type 0 where
  opened : q.opened ≡ p.opened
  calls : q.calls ≡ made ++ p.calls
  says : IsSaid told (answers_of p.trace) (answers_of q.trace)

nothing : (p q : Past) (told : Option Told) → q.opened ≡ p.opened → q.calls ≡ p.calls → answers_of q.trace ≡ answers_of p.trace → told ≡ None → IsAdded p q [] told
nothing p q told opened calls trace none = record { opened = opened; calls = calls; says = inl (none, trace) }

-- a poll's answer has its list, and no other answer has one
retold : (its : SessionTold) (finished : List Finished) (given : Answer) → IsAnswerTold its finished given → IsAnswerTold its (with_finished its finished) given
retold (Polled left) finished given told = told
retold its finished given told = told

answer_added : (number : ℕ) (was : Bool) (step : Sitting) (finished : List Finished) (p : Past) (answer : Option Answer) (told : Option Told) → IsSittingTold was step finished answer → told ≡ numbered number answer
    → IsAdded p (answer_traced number was step finished p) [] told
answer_added number true (Idle its) finished p answer told so is =
    record { opened = refl; calls = refl; says = inr (Answered number (telling its finished), refl, (so.0, is ∙ ap (λ (it : Option Answer). numbered number it) so.1, retold its finished so.0 so.2)) }
answer_added number true step finished p answer told so is = nothing p p told refl refl refl (is ∙ ap (λ (it : Option Answer). numbered number it) so)
answer_added number false step finished p answer told so is = nothing p p told refl refl refl (is ∙ ap (λ (it : Option Answer). numbered number it) so)

begun_added : (number : ℕ) (call : Call) (busy : Bool) (after : SessionState) (p : Past) (answer : Option Answer) (told : Option Told) → IsSittingTold (not busy) after.step after.finished answer → told ≡ numbered number answer
    → IsAdded p (if busy then p else answer_traced number true after.step after.finished (traced p (Called number call))) [] told
begun_added number call true after p answer told so is = nothing p p told refl refl refl (is ∙ ap (λ (it : Option Answer). numbered number it) so)
begun_added number call false after p answer told so is =
    let its = answer_added number true after.step after.finished (traced p (Called number call)) answer told so is in
    record { opened = its.opened; calls = its.calls; says = its.says }

-- where no session is left nothing but the call is traced
lost_added : (number : ℕ) (call : Call) (busy : Bool) (p : Past) (told : Option Told) → told ≡ None → IsAdded p (if busy then p else traced p (Called number call)) [] told
lost_added number call true p told none = nothing p p told refl refl refl none
lost_added number call false p told none = nothing p (traced p (Called number call)) told refl refl refl none

call_added : (number : ℕ) (call : Call) (was after : Option SessionState) (p : Past) (told : Option Told) → IsSessionEnd number may_begin was after told → IsAdded p (call_traced number call was after p) [] told
call_added number call (Some s) (Some after) p told so = begun_added number call (is_busy s.step) after p so.answer told so.its so.numbered_so
call_added number call (Some s) None p told so = lost_added number call (is_busy s.step) p told so
call_added number call None after p told so = nothing p p told refl refl refl so

move_added : (n : Now) (number : ℕ) (was after : Option SessionState) (p : Past) (told : Option Told) → IsSessionEnd number may_move was after told → IsAdded p (move_traced n number was after p) [] told
move_added n number (Some s) (Some after) p told so =
    let q : Past = record p { history = history_after (seat_at n number) s n.words (session_ask (seat_at n number) s) p.history } in
    let its = answer_added number (is_busy s.step) after.step after.finished q so.answer told so.its so.numbered_so in
    record { opened = its.opened; calls = its.calls; says = its.says }
move_added n number (Some s) None p told so = nothing p (record p { history = history_after (seat_at n number) s n.words (session_ask (seat_at n number) s) p.history }) told refl refl refl so
move_added n number None after p told so = nothing p p told refl refl refl so

end_added : (was : Bool) (step : Keeping) (s : KeeperState) (p : Past) (told : Option Told) → IsKeepingTold was step s told → IsAdded p (keeper_answered was step s.last p) [] told
end_added true (Ended its) s p told so = record { opened = refl; calls = refl; says = inr (KeeperAnswered its s.last, refl, (s.is_drain_full, so.0, so.1, so.2)) }
end_added true step s p told so = nothing p p told refl refl refl so
end_added false step s p told so = nothing p p told refl refl refl so

asked_added : (busy : Bool) (after : KeeperState) (its : TraceEvent) (p : Past) (told : Option Told) → answers_of (traced p its).trace ≡ answers_of p.trace → IsKeepingTold (not busy) after.step after told
    → IsAdded p (if busy then p else keeper_answered true after.step after.last (traced p its)) [] told
asked_added true after its p told quiet so = nothing p p told refl refl refl so
asked_added false after its p told quiet so =
    let more = end_added true after.step after (traced p its) told so in
    record { opened = more.opened; calls = more.calls; says = subst (λ (answers : List TraceEvent). IsSaid told answers (answers_of (keeper_answered true after.step after.last (traced p its)).trace)) quiet more.says }

append_nil : (made calls : List DeviceCall) → made ++ calls ≡ (made ++ []) ++ calls
append_nil made calls = search rules

calls_split : (ask : Ask KeeperTold) (made calls : List DeviceCall) → calls_after ask made calls ≡ calls_after ask made [] ++ calls
calls_split (Done Device) made calls = append_nil made calls
calls_split ask made calls = refl

life_added : (n after : Now) (event : Event) (p : Past) (told : Option Told) → IsEventTold n after event told → IsAdded p (life_past n after event p) (event_calls n event) told
unfolding life_past
life_added n after (Calls number call) p told so = call_added number call (slice_get n.sessions number) (slice_get after.sessions number) p told so
life_added n after (Moves number) p told so = move_added n number (slice_get n.sessions number) (slice_get after.sessions number) p told so
life_added n after (Commits kind) p told so = asked_added (is_in_hand n.keeper.step) after.keeper (CommitAsked kind) p told refl so
life_added n after Turns p told so = asked_added (is_in_hand n.keeper.step) after.keeper TurnAsked p told refl so
life_added n after (KeeperMoves granted done) p told so =
    let ask : Ask KeeperTold = keeper_ask n.shape n.places n.keeper in
    let made : List DeviceCall = keeper_calls n.shape n.keeper done in
    let its = end_added (is_in_hand n.keeper.step) after.keeper.step after.keeper (record p { calls = calls_after ask made p.calls }) told so in
    record { opened = its.opened; calls = its.calls ∙ calls_split ask made p.calls; says = its.says }
life_added n after Crashes p told so = nothing p p told refl refl refl so

past_added : (crashed : Bool) (n after : Now) (event : Event) (p : Past) (told : Option Told) → IsTold crashed n after event told
    → IsAdded p (if crashed then p else life_past n after event p) (if crashed then [] else event_calls n event) told
past_added true n after event p told so = nothing p p told refl refl refl so
past_added false n after event p told so = life_added n after event p told so

-- what the device gives counts only where the keeper asks for it
unread : (shape : Shape) (places : Places) (granted done : Bool) (n : Near KeeperState) (ask : Ask KeeperTold) → (ask ≡ Done Device) ⊎ ((read other : List ℕ) → keeper_asks shape places granted done read n ask ≡ keeper_asks shape places granted done other n ask)
unfolding keeper_asks
unread shape places granted done n (Done Device) = inl refl
unread shape places granted done n ask = inr (λ read other. refl)

with_unread : (n : Now) (granted done : Bool) → (keeper_ask n.shape n.places n.keeper ≡ Done Device) ⊎ ((read other : List ℕ) → keeper_moved n.shape n.places granted done read (near n n.keeper) ≡ keeper_moved n.shape n.places granted done other (near n n.keeper))
    → (keeper_ask n.shape n.places n.keeper ≡ Done Device) ⊎ ((read other : List ℕ) → with_keeper n (keeper_moved n.shape n.places granted done read (near n n.keeper)) ≡ with_keeper n (keeper_moved n.shape n.places granted done other (near n n.keeper)))
with_unread n granted done (inl asks) = inl asks
with_unread n granted done (inr same) = inr (λ read other. ap (λ (it : Near KeeperState). with_keeper n it) (same read other))

read_same : (n : Now) (event : Event) → (keeper_ask n.shape n.places n.keeper ≡ Done Device) ⊎ ((read other : List ℕ) → life_goes n read event ≡ life_goes n other event)
unfolding life_goes
read_same n (KeeperMoves granted done) = with_unread n granted done (unread n.shape n.places granted done (near n n.keeper) (keeper_ask n.shape n.places n.keeper))
read_same n event = inr (λ read other. refl)

read_so : (n : Now) (event : Event) (opened : List ℕ) (calls : List DeviceCall) (seen : List ℕ) (may_leave : List ℕ → Type 0) → IsAfter opened calls seen may_leave → (keeper_ask n.shape n.places n.keeper ≡ Done Device → AllDone calls)
    → (keeper_ask n.shape n.places n.keeper ≡ Done Device) ⊎ ((read other : List ℕ) → life_goes n read event ≡ life_goes n other event)
    → happens_now n (device_gives n seen) event ≡ happens_now n (device_gives n (reads_as opened calls)) event
read_so n event opened calls seen may_leave was all (inl asks) = ap (λ (bytes : List ℕ). happens_now n (device_gives n bytes) event) (reads_all opened calls seen (all asks) was.reads)
read_so n event opened calls seen may_leave was all (inr same) = ap (λ (it : Now). if n.crashed then n else it) (same (device_gives n seen) (device_gives n (reads_as opened calls)))

led : (w : World) (after : Now) (event : Event) (told : Option Told) (seen seen' : List ℕ) (may_leave may_leave' : List ℕ → Type 0) → IsAfter w.past.opened w.past.calls seen may_leave
    → IsTold w.now.crashed w.now after event told → after ≡ happens_now w.now (device_gives w.now seen) event → Adds (calls_made w.now event) seen seen' may_leave may_leave'
    → (keeper_ask w.now.shape w.now.places w.now.keeper ≡ Done Device → AllDone w.past.calls) → IsLedOn w (happens w event) after told seen' may_leave'
led w after event told seen seen' may_leave may_leave' was tells is wrote all =
    let next : World = happens w event in
    let same : after ≡ next.now = is ∙ read_so w.now event w.past.opened w.past.calls seen may_leave was all (read_same w.now event) in
    let added : IsAdded w.past next.past (calls_made w.now event) told = past_added w.now.crashed w.now next.now event w.past told (subst (λ (it : Now). IsTold w.now.crashed w.now it event told) same tells) in
    let now : IsAfter w.past.opened (calls_made w.now event ++ w.past.calls) seen' may_leave' = wrote w.past.opened w.past.calls was in
    record {
      shows = sym same;
      device = subst (λ (opened : List ℕ). IsAfter opened next.past.calls seen' may_leave') (sym added.opened) (subst (λ (calls : List DeviceCall). IsAfter w.past.opened calls seen' may_leave') (sym added.calls) now);
      says = added.says;
    }

pub leads_any_on : (n after : Now) (event : Event) (told : Option Told) (seen seen' : List ℕ) (may_leave may_leave' : List ℕ → Type 0) → IsTold n.crashed n after event told
    → after ≡ happens_now n (device_gives n seen) event → Adds (calls_made n event) seen seen' may_leave may_leave' → LeadsAnyOn n after event told seen seen' may_leave may_leave'
unfolding run
leads_any_on n after event told seen seen' may_leave may_leave' tells is wrote = λ opening before all shows was.
    let w : World = run opening before in
    subst (λ (m : Now). IsTold m.crashed m after event told → after ≡ happens_now m (device_gives m seen) event → Adds (calls_made m event) seen seen' may_leave may_leave' → IsLedOn w (happens w event) after told seen' may_leave')
    shows (λ said goes adds. led w after event told seen seen' may_leave may_leave' was said goes adds all) tells is wrote

-- the keeper of an opened store asks for the device only while all calls have succeeded
pub leads_on : (n after : Now) (event : Event) (told : Option Told) (seen seen' : List ℕ) (may_leave may_leave' : List ℕ → Type 0) → LeadsAnyOn n after event told seen seen' may_leave may_leave'
    → LeadsOn n after event told seen seen' may_leave may_leave'
leads_on n after event told seen seen' may_leave may_leave' leads = λ opening before opened. leads opening before (asks_while_done opening before opened)
