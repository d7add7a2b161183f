-- What is told of an event leaves the calls of the device as they are.
use Rattle.std.proofs.Common.{◌≡◌, ℕ, List, refl, Bool, true, false}
use Rattle.std.specs.Prelude.{Option, Some, None, if◌then◌else◌}
use Rattle.fkv_map.specs.declared.operations.Call.{Call}
use Rattle.fkv_session.specs.declared.answers.Finished.{Finished}
use Rattle.fkv_session.specs.declared.sessions.Sitting.{Sitting}
use Rattle.fkv_session.specs.declared.sessions.Sitting.TheVariants.{Idle}
use Rattle.fkv_session.specs.Sessions.{SessionState, is_busy}
use Rattle.fkv_keeper.specs.declared.keepers.Keeping.{Keeping}
use Rattle.fkv_keeper.specs.declared.keepers.Keeping.TheVariants.{Ended}
use Rattle.fkv_keeper.specs.KeeperRun.{is_in_hand}
use Rattle.fkv_keeper.specs.Keeping.{Finality, KeeperState}
use Rattle.fkv_world.specs.Past.{Past, TraceEvent, Called, answer_traced, call_traced, keeper_answered, keeper_begun, move_traced, session_traced, traced}
use Rattle.fkv_world.specs.World.{Now}

answer_kept : (session : ℕ) (was_busy : Bool) (step : Sitting) (finished : List Finished) (p : Past) → (answer_traced session was_busy step finished p).calls ≡ p.calls
answer_kept session true (Idle its) finished p = refl
answer_kept session was_busy step finished p = refl

session_kept : (session : ℕ) (was_busy : Bool) (after : Option SessionState) (p : Past) → (session_traced session was_busy after p).calls ≡ p.calls
session_kept session was_busy None p = refl
session_kept session was_busy (Some after) p = answer_kept session was_busy after.step after.finished p

idle_kept : (session : ℕ) (call : Call) (busy : Bool) (after : Option SessionState) (p : Past) → (if busy then p else session_traced session true after (traced p (Called session call))).calls ≡ p.calls
idle_kept session call true after p = refl
idle_kept session call false after p = session_kept session true after (traced p (Called session call))

pub call_kept : (session : ℕ) (call : Call) (found after : Option SessionState) (p : Past) → (call_traced session call found after p).calls ≡ p.calls
call_kept session call None after p = refl
call_kept session call (Some s) after p = idle_kept session call (is_busy s.step) after p

pub move_kept : (n : Now) (session : ℕ) (found after : Option SessionState) (p : Past) → (move_traced n session found after p).calls ≡ p.calls
move_kept n session None after p = refl
move_kept n session (Some s) after p = session_kept session (is_busy s.step) after _

pub keeper_kept : (was_busy : Bool) (step : Keeping) (last : Finality) (p : Past) → (keeper_answered was_busy step last p).calls ≡ p.calls
keeper_kept true (Ended its) last p = refl
keeper_kept was_busy step last p = refl

begins_kept : (in_hand : Bool) (after : KeeperState) (its : TraceEvent) (p : Past) → (if in_hand then p else keeper_answered true after.step after.last (traced p its)).calls ≡ p.calls
begins_kept true after its p = refl
begins_kept false after its p = keeper_kept true after.step after.last (traced p its)

pub begun_kept : (s after : KeeperState) (its : TraceEvent) (p : Past) → (keeper_begun s after its p).calls ≡ p.calls
begun_kept s after its p = begins_kept (is_in_hand s.step) after its p
