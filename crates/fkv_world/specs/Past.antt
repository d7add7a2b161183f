-- What a run leaves behind: the history of effects, the calls and answers, and the calls of the device.
use Rattle.std.specs.Prelude.{ℕ, List, ◌∷◌, ◌++◌, length, Bool, true, if◌then◌else◌, Option, Some, None, slice_get}
use Rattle.fkv_base.specs.declared.numbers.Version.{Version}
use Rattle.fkv_map.specs.declared.history.HistoryEntry.{HistoryEntry}
use Rattle.fkv_map.specs.declared.operations.Call.{Call}
use Rattle.fkv_base.specs.declared.commits.CommitKind.{CommitKind}
use Rattle.fkv_disk.specs.Calls as device
use Rattle.fkv_plane.specs.declared.asks.Ask.{Ask}
use Rattle.fkv_plane.specs.declared.asks.Ask.TheVariants.{Put, Take, Done}
use Rattle.fkv_plane.specs.Asked.{reply_to}
use Rattle.fkv_session.specs.declared.answers.Finished.{Finished}
use Rattle.fkv_session.specs.declared.answers.Told.{Told}
use Rattle.fkv_session.specs.declared.sessions.Sitting.{Sitting}
use Rattle.fkv_session.specs.declared.sessions.Sitting.TheVariants.{Idle}
use Rattle.fkv_session.specs.Sessions.{SessionState, Seat, is_busy, session_ask, session_next}
use Rattle.fkv_session.specs.SessionRun.{Telling, telling}
use Rattle.fkv_keeper.specs.declared.answers.KeeperTold.{KeeperTold}
use Rattle.fkv_keeper.specs.declared.answers.KeeperTold.TheVariants.{Device}
use Rattle.fkv_keeper.specs.declared.keepers.Keeping.{Keeping}
use Rattle.fkv_keeper.specs.declared.keepers.Keeping.TheVariants.{Ended}
use Rattle.fkv_keeper.specs.Keeping.{KeeperState, Finality, keeper_ask}
use Rattle.fkv_keeper.specs.KeeperAsks.{keeper_calls}
use Rattle.fkv_keeper.specs.KeeperRun.{is_in_hand}
use Rattle.fkv_world.specs.World.{Event, Calls, Moves, Commits, Turns, KeeperMoves, Crashes, Now, seat_at}

-- an update that took effect, and the version of its request
pub record Effect : Type 0 where
  pub entry : HistoryEntry
  pub version : Version

-- what callers see of a run
pub data TraceEvent : Type 0 where
  Called : ℕ → Call → TraceEvent
  Answered : ℕ → Telling → TraceEvent
  CommitAsked : CommitKind → TraceEvent
  TurnAsked : TraceEvent
  -- how a turn or the start of a commit has ended, and the newest finished commit then
  KeeperAnswered : KeeperTold → Finality → TraceEvent

-- with how many updates had taken effect by then
pub record Traced : Type 0 where
  pub its : TraceEvent
  pub effects : ℕ

-- each list has the newest first
pub record Past : Type 0 where
  -- what the device held as the life began, all of it synced
  pub opened : List ℕ
  pub history : List Effect
  pub trace : List Traced
  -- the device's writes and syncs
  pub calls : List device.Call

abbrev pub traced : Past → TraceEvent → Past
traced p its = record p { trace = record { its = its; effects = length p.history } ∷ p.trace }

-- the effect that the reply to an ask of a word makes, of the version of the request that is tried
abbrev pub effect_made : Option HistoryEntry → Version → List Effect → List Effect
effect_made None version history = history
effect_made (Some entry) version history = record { entry = entry; version = version } ∷ history

unfoldable pub history_after : Seat → SessionState → List ℕ → Ask Told → List Effect → List Effect
history_after k s words (Done its) history = history
history_after k s words (Put slot action) history = history
history_after k s words (Take slot) history = history
history_after k s words ask history = effect_made (session_next k s (reply_to words ask)).effect s.attempt.pending.request.version history

-- a call that is in hand, or begins, and then is no more is answered
abbrev pub answer_traced : ℕ → Bool → Sitting → List Finished → Past → Past
answer_traced session true (Idle its) finished p = traced p (Answered session (telling its finished))
answer_traced session was_busy step finished p = p

abbrev pub session_traced : ℕ → Bool → Option SessionState → Past → Past
session_traced session was_busy None p = p
session_traced session was_busy (Some after) p = answer_traced session was_busy after.step after.finished p

abbrev pub call_traced : ℕ → Call → Option SessionState → Option SessionState → Past → Past
call_traced session call None after p = p
call_traced session call (Some s) after p = if is_busy s.step then p else session_traced session true after (traced p (Called session call))

abbrev pub move_traced : Now → ℕ → Option SessionState → Option SessionState → Past → Past
move_traced n session None after p = p
move_traced n session (Some s) after p = session_traced session (is_busy s.step) after
    (record p { history = history_after (seat_at n session) s n.words (session_ask (seat_at n session) s) p.history })

abbrev pub keeper_answered : Bool → Keeping → Finality → Past → Past
keeper_answered true (Ended its) last p = traced p (KeeperAnswered its last)
keeper_answered was_busy step last p = p

abbrev pub keeper_begun : KeeperState → KeeperState → TraceEvent → Past → Past
keeper_begun s after its p = if is_in_hand s.step then p else keeper_answered true after.step after.last (traced p its)

-- the write or sync that the keeper makes, where it makes its call of the device
abbrev pub calls_after : Ask KeeperTold → List device.Call → List device.Call → List device.Call
calls_after (Done Device) made calls = made ++ calls
calls_after ask made calls = calls

-- what an event adds, from the world before it to the one after it
unfoldable pub life_past : Now → Now → Event → Past → Past
life_past n after (Calls session call) p = call_traced session call (slice_get n.sessions session) (slice_get after.sessions session) p
life_past n after (Moves session) p = move_traced n session (slice_get n.sessions session) (slice_get after.sessions session) p
life_past n after (Commits kind) p = keeper_begun n.keeper after.keeper (CommitAsked kind) p
life_past n after Turns p = keeper_begun n.keeper after.keeper TurnAsked p
life_past n after (KeeperMoves granted done) p =
    keeper_answered (is_in_hand n.keeper.step) after.keeper.step after.keeper.last
    (record p { calls = calls_after (keeper_ask n.shape n.places n.keeper) (keeper_calls n.shape n.keeper done) p.calls })
life_past n after Crashes p = p
