-- What an event adds to the calls of the device; what the device held as the life began stays.
use Rattle.std.proofs.Common.{◌≡◌, ℕ, List, refl, Bool, true, false}
use Rattle.std.specs.Prelude.{Option, Some, None, slice_get, if◌then◌else◌}
use Rattle.fkv_map.specs.declared.operations.Call.{Call}
use Rattle.fkv_disk.specs.Calls as device
use Rattle.fkv_session.specs.declared.answers.Finished.{Finished}
use Rattle.fkv_session.specs.declared.sessions.Sitting.{Sitting}
use Rattle.fkv_session.specs.declared.sessions.Sitting.TheVariants.{Idle}
use Rattle.fkv_session.specs.Sessions.{SessionState, is_busy}
use Rattle.fkv_keeper.specs.declared.keepers.Keeping.{Keeping}
use Rattle.fkv_keeper.specs.declared.keepers.Keeping.TheVariants.{Ended}
use Rattle.fkv_keeper.specs.Keeping.{Finality, keeper_ask}
use Rattle.fkv_keeper.specs.KeeperAsks.{keeper_calls}
use Rattle.fkv_keeper.specs.KeeperRun.{is_in_hand}
use Rattle.fkv_world.specs.Past.{Past, TraceEvent, Called, CommitAsked, TurnAsked, traced, answer_traced, session_traced, call_traced, move_traced, keeper_answered, calls_after, life_past}
use Rattle.fkv_world.specs.Runs.{World}
use Rattle.fkv_world.specs.World.{Event, Calls, Moves, Commits, Turns, KeeperMoves, Crashes, Now}
use Rattle.fkv_world.proofs.Others.{world_of}

unfoldable pub calls_added : Now → Event → List device.Call → List device.Call
calls_added n (KeeperMoves granted done) calls = calls_after (keeper_ask n.shape n.places n.keeper) (keeper_calls n.shape n.keeper done) calls
calls_added n event calls = calls

-- what is told changes neither
abbrev IsTelling : Past → Past → Type 0
IsTelling p after = (after.opened ≡ p.opened) × (after.calls ≡ p.calls)

answer_tells : (session : ℕ) (was : Bool) (step : Sitting) (finished : List Finished) (p : Past) → IsTelling p (answer_traced session was step finished p)
answer_tells session true (Idle its) finished p = (refl, refl)
answer_tells session true step finished p = (refl, refl)
answer_tells session false step finished p = (refl, refl)

session_tells : (session : ℕ) (was : Bool) (after : Option SessionState) (p : Past) → IsTelling p (session_traced session was after p)
session_tells session was None p = (refl, refl)
session_tells session was (Some after) p = answer_tells session was after.step after.finished p

called_tells : (session : ℕ) (call : Call) (busy : Bool) (after : Option SessionState) (p : Past) → IsTelling p (if busy then p else session_traced session true after (traced p (Called session call)))
called_tells session call true after p = (refl, refl)
called_tells session call false after p = session_tells session true after (traced p (Called session call))

call_tells : (session : ℕ) (call : Call) (found after : Option SessionState) (p : Past) → IsTelling p (call_traced session call found after p)
call_tells session call None after p = (refl, refl)
call_tells session call (Some s) after p = called_tells session call (is_busy s.step) after p

move_tells : (n : Now) (session : ℕ) (found after : Option SessionState) (p : Past) → IsTelling p (move_traced n session found after p)
move_tells n session None after p = (refl, refl)
move_tells n session (Some s) after p = session_tells session (is_busy s.step) after _

keeper_tells : (was : Bool) (step : Keeping) (last : Finality) (p : Past) → IsTelling p (keeper_answered was step last p)
keeper_tells true (Ended its) last p = (refl, refl)
keeper_tells true step last p = (refl, refl)
keeper_tells false step last p = (refl, refl)

begun_tells : (busy : Bool) (its : TraceEvent) (step : Keeping) (last : Finality) (p : Past) → IsTelling p (if busy then p else keeper_answered true step last (traced p its))
begun_tells true its step last p = (refl, refl)
begun_tells false its step last p = keeper_tells true step last (traced p its)

-- all of an event
added : (n after : Now) (event : Event) (p : Past) → ((life_past n after event p).opened ≡ p.opened) × ((life_past n after event p).calls ≡ calls_added n event p.calls)
unfolding life_past calls_added
added n after (Calls session call) p = call_tells session call (slice_get n.sessions session) (slice_get after.sessions session) p
added n after (Moves session) p = move_tells n session (slice_get n.sessions session) (slice_get after.sessions session) p
added n after (Commits kind) p = begun_tells (is_in_hand n.keeper.step) (CommitAsked kind) after.keeper.step after.keeper.last p
added n after Turns p = begun_tells (is_in_hand n.keeper.step) TurnAsked after.keeper.step after.keeper.last p
added n after (KeeperMoves granted done) p = keeper_tells (is_in_hand n.keeper.step) after.keeper.step after.keeper.last _
added n after Crashes p = (refl, refl)

pub added_calls : (w : World) (after : Now) (event : Event) → (world_of w event after).past.calls ≡ calls_added w.now event w.past.calls
unfolding world_of
added_calls w after event = (added w.now after event w.past).1

pub added_opened : (w : World) (after : Now) (event : Event) → (world_of w event after).past.opened ≡ w.past.opened
unfolding world_of
added_opened w after event = (added w.now after event w.past).0
