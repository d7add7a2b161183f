-- Lives in which a row of one machine's table is wrong.
use Rattle.std.specs.Prelude.{ℕ, ◌+◌, ◌-◌, ◌^◌, nat_le, if◌then◌else◌, true, List, [], ◌∷◌, ◌++◌, slice_get, slice_set, Option, Some, None}
use Rattle.fkv_base.specs.declared.faults.Fault.TheVariants.{Asleep, LogFull}
use Rattle.law_order.specs.Below.fkv_commit.Commit.{Commit}
use Rattle.fkv_epoch.specs.EpochWorld as epochs
use Rattle.fkv_epoch.specs.EpochWorld.{EpochMachine}
use Rattle.fkv_epoch.specs.declared.claiming.Claiming.{Claiming}
use Rattle.fkv_epoch.specs.declared.claiming.Claiming.TheVariants.{LoadsSafe, MeetsSlot, TakesSlot}
use Rattle.fkv_map.specs.Keys.{key_of}
use Rattle.fkv_map.specs.Map.{absent_word}
use Rattle.law_order.specs.Below.fkv_flush.TheServing.{Serving}
use Rattle.law_order.specs.Below.fkv_flush.TheServing.TheVariants.{LoadsAddress}
use Rattle.law_order.specs.Below.fkv_flush.GuardWorld as guard
use Rattle.law_order.specs.Below.fkv_flush.GuardWorld.{Actor, GuardEvent, GuardNow, GuardWorld, guard_happens}
use Rattle.fkv_base.specs.declared.shapes.Shape.{Shape}
use Rattle.law_order.specs.Below.fkv_keeper.Keeping.{KeeperState, writes_begun}
use Rattle.law_order.specs.Below.fkv_keeper.KeeperTold.TheVariants.{Begun, Turned}
use Rattle.law_order.specs.Below.fkv_keeper.TheKeeping.{Keeping}
use Rattle.law_order.specs.Below.fkv_keeper.TheKeeping.TheVariants as keeping
use Rattle.law_order.specs.Below.fkv_log.TheTurning.{Turning}
use Rattle.law_order.specs.Below.fkv_log.TheTurning.TheVariants.{LoadsClosed, RaisesLimit}
use Rattle.law_order.specs.Below.fkv_maintain.TheMaintaining.{Maintaining}
use Rattle.law_order.specs.Below.fkv_maintain.TheMaintaining.TheVariants.{Claims, Serves, Turns}
use Rattle.law_order.specs.Below.fkv_maintain.Maintaining.{MaintainState}
use Rattle.law_order.specs.Below.fkv_ops.Seen.{Seen}
use Rattle.law_order.specs.Below.fkv_ops.TheTrying.{Trying}
use Rattle.law_order.specs.Below.fkv_ops.TheTrying.TheVariants as trying
use Rattle.law_order.specs.Below.fkv_ops.OldValue.TheVariants.{InMemory}
use Rattle.law_order.specs.Below.fkv_ops.Trying.{TryState, changes, copies_from}
use Rattle.law_order.specs.Below.fkv_pending.Attempting.{AttemptState}
use Rattle.law_order.specs.Below.fkv_pending.MailAnswer.TheVariants.{Taken}
use Rattle.law_order.specs.Below.fkv_pending.Mailing.{is_gone}
use Rattle.law_order.specs.Below.fkv_pending.TheMailing.{Mailing}
use Rattle.law_order.specs.Below.fkv_pending.TheMailing.TheVariants.{StoresEmpty}
use Rattle.law_order.specs.Below.fkv_session.Told.TheVariants.{Absent, Done, Durable, Found, Refused}
use Rattle.law_order.specs.Below.fkv_session.CatchCause.TheVariants.{Wakes}
use Rattle.law_order.specs.Below.fkv_session.Sitting.{Sitting}
use Rattle.law_order.specs.Below.fkv_session.Sitting.TheVariants.{CatchesUp, Idle}
use Rattle.law_order.specs.Below.fkv_session.Sessions.{SessionState}
use Rattle.law_order.specs.Below.fkv_world.Runs.{World, past_after, read_by_keeper}
use Rattle.law_order.specs.Below.fkv_world.World.{Event, KeeperMoves, Moves, Now, happens_now}
use Rattle.law_order.specs.Below.law_world.Guarded.GuardEvents.{guard_events}

-- ---- what a wrong table makes of a machine behind its move: from what it was, and from where the right one has led it
pub record Tables : Type 0 where
  pub session : SessionState → SessionState → SessionState
  pub keeper : KeeperState → KeeperState → KeeperState

-- one of sessions is wrong, or one of the keeper
abbrev pub of_sessions : (SessionState → SessionState → SessionState) → Tables
of_sessions table = record { session = table; keeper = λ was s. s }

abbrev pub of_keeper : (KeeperState → KeeperState → KeeperState) → Tables
of_keeper table = record { session = λ was s. s; keeper = table }

abbrev pub session_led : Tables → ℕ → Option SessionState → Option SessionState → Now → Now
session_led t session (Some was) (Some s) n = record n { sessions = slice_set n.sessions session (t.session was s) }
session_led t session was there n = n

abbrev pub goes_by : Tables → Now → Now → Event → Now
goes_by t before n (Moves session) = session_led t session (slice_get before.sessions session) (slice_get n.sessions session) n
goes_by t before n (KeeperMoves granted done) = record n { keeper = t.keeper before.keeper n.keeper }
goes_by t before n event = n

-- an event by these tables, and what is told of it
abbrev pub happens_by : Tables → World → Event → World
happens_by t w event =
    let after : Now = goes_by t w.now (happens_now w.now (read_by_keeper w) event) event in
    record { now = after; past = past_after w after event }

-- the world after a list of events by these tables, the newest first
unfoldable pub run_by : Tables → World → List Event → World
run_by t opening [] = opening
run_by t opening (event ∷ before) = happens_by t (run_by t opening before) event

-- ---- the guard's world beside such a life, whose machines of the epochs go by a wrong table too
abbrev pub machine_led : (EpochMachine → EpochMachine → EpochMachine) → ℕ → Option Actor → Option Actor → GuardNow → GuardNow
machine_led table actor (Some was) (Some x) n = record n { actors = slice_set n.actors actor (record x { machine = table was.machine x.machine }) }
machine_led table actor was there n = n

abbrev pub guard_goes_by : (EpochMachine → EpochMachine → EpochMachine) → GuardNow → GuardNow → GuardEvent → GuardNow
guard_goes_by table before n (guard.Moves actor) = machine_led table actor (slice_get before.actors actor) (slice_get n.actors actor) n
guard_goes_by table before n event = n

abbrev pub guard_happens_by : (EpochMachine → EpochMachine → EpochMachine) → GuardWorld → GuardEvent → GuardWorld
guard_happens_by table w event = let after : GuardWorld = guard_happens w event in record after { now = guard_goes_by table w.now after.now event }

unfoldable pub guard_run_by : (EpochMachine → EpochMachine → EpochMachine) → GuardWorld → List GuardEvent → GuardWorld
guard_run_by table opening [] = opening
guard_run_by table opening (event ∷ before) = guard_happens_by table (guard_run_by table opening before) event

-- what the events of the life are to the guard
unfoldable pub mapped_by : Tables → World → List Event → List GuardEvent
mapped_by t opening [] = []
mapped_by t opening (event ∷ before) = guard_events (run_by t opening before).now (read_by_keeper (run_by t opening before)) event ++ mapped_by t opening before

-- ---- tables of sessions
abbrev pub with_trial : SessionState → TryState → SessionState
with_trial s t = record s { attempt = record s.attempt { trial = t } }

-- a record below the read-only offset that the session has seen is changed in place, where the safe one is to be loaded first
abbrev pub changes_below : TryState → Trying → TryState
changes_below t (trying.LoadsSafe addr version) = changes t addr
changes_below t step = t

abbrev pub in_place_below_seen_read_only : Tables
in_place_below_seen_read_only = of_sessions (λ was s. with_trial s (changes_below s.attempt.trial s.attempt.trial.step))

-- it is copied without a look at the safe read-only offset, so while others may still change it in place
abbrev pub copies_at_once : TryState → Trying → TryState
copies_at_once t (trying.LoadsSafe addr version) = copies_from t InMemory
copies_at_once t step = t

abbrev pub add_copies_in_fuzzy_region : Tables
add_copies_in_fuzzy_region = of_sessions (λ was s. with_trial s (copies_at_once s.attempt.trial s.attempt.trial.step))

-- a read is told what the store was opened with: nothing
abbrev pub tells_opening : Sitting → Sitting
tells_opening (Idle (Found value)) = Idle Absent
tells_opening step = step

abbrev pub read_gives_opening_state : Tables
read_gives_opening_state = of_sessions (λ was s. record s { step = tells_opening s.step })

-- an update that has taken effect is told as refused: its effect is told to nobody
abbrev pub tells_refusal : Sitting → Sitting
tells_refusal (Idle (Done serial its)) = Idle (Refused LogFull)
tells_refusal step = step

abbrev pub effect_is_told_to_nobody : Tables
effect_is_told_to_nobody = of_sessions (λ was s. record s { step = tells_refusal s.step })

-- who asks what is durable is refused behind its ask, as if it slept
abbrev pub tells_asleep : Sitting → Sitting
tells_asleep (Idle (Durable serial)) = Idle (Refused Asleep)
tells_asleep step = step

abbrev pub durable_is_refused : Tables
durable_is_refused = of_sessions (λ was s. record s { step = tells_asleep s.step })

-- who wakes goes by the offsets of before it slept
abbrev pub with_offsets : Seen → Sitting → SessionState → SessionState
with_offsets seen (CatchesUp Wakes) s = record s { seen = record s.seen { offsets = seen.offsets } }
with_offsets seen step s = s

abbrev pub wake_keeps_offsets : Tables
wake_keeps_offsets = of_sessions (λ was s. with_offsets was.seen was.step s)

-- ---- tables of the keeper
abbrev pub with_maintain : KeeperState → MaintainState → KeeperState
with_maintain s m = record s { maintain = m }

-- a page is opened without a look at the closed offset
abbrev pub raises_at_once : Turning → Turning
raises_at_once (LoadsClosed form limit) = RaisesLimit limit
raises_at_once step = step

abbrev pub turned_at_once : MaintainState → Maintaining → MaintainState
turned_at_once m Turns = record m { turn = record m.turn { step = raises_at_once m.turn.step } }
turned_at_once m step = m

abbrev pub page_opens_unclosed : Tables
page_opens_unclosed = of_keeper (λ was s. with_maintain s (turned_at_once s.maintain s.maintain.step))

-- an action is claimed where the epoch before its own is safe
abbrev pub claims_early : Claiming → Claiming → Claiming
claims_early (LoadsSafe slot word) (MeetsSlot next (Some safe)) = if nat_le (word - 2) (safe + 1) then TakesSlot slot word safe else MeetsSlot next (Some safe)
claims_early was step = step

abbrev pub claimed_early : MaintainState → Maintaining → MaintainState → MaintainState
claimed_early was Claims m = record m { claiming = claims_early was.claiming m.claiming }
claimed_early was step m = m

abbrev pub action_is_claimed_early : Tables
action_is_claimed_early = of_keeper (λ was s. with_maintain s (claimed_early was.maintain was.maintain.step s.maintain))

-- so it is of the guard's actor
abbrev pub machine_claims_early : EpochMachine → EpochMachine → EpochMachine
machine_claims_early (epochs.Claims was) (epochs.Claims step) = epochs.Claims (claims_early was step)
machine_claims_early was machine = machine

-- ---- tables of a begin that rises
-- where a record is asked for, the log's begin has risen to address 4, as that of no specified store does
abbrev pub risen_at : MaintainState → Maintaining → Serving → MaintainState
risen_at m Serves (LoadsAddress session) = record m { begin = record { 0 = 4 } }
risen_at m step serving = m

abbrev pub rises : KeeperState → KeeperState
rises s = with_maintain s (risen_at s.maintain s.maintain.step s.maintain.serving)

abbrev pub begin_rises : Tables
begin_rises = of_keeper (λ was s. rises s)

-- and a session takes a record that is gone for one of its key without a value
abbrev pub taken_as_absent : AttemptState → Mailing → AttemptState
taken_as_absent a (StoresEmpty (Taken its)) =
    if is_gone its then record a { mailing = StoresEmpty (Taken (record { header = 2 ^ 48; key = key_of a.pending.request.op; value = absent_word })) } else a
taken_as_absent a step = a

abbrev pub gone_is_absent : Tables
gone_is_absent = record { session = λ was s. record s { attempt = taken_as_absent s.attempt s.attempt.mailing }; keeper = λ was s. rises s }

-- ---- tables of commits
-- who asks what is durable is told its last serial
abbrev pub tells_serial : SessionState → Sitting → Sitting
tells_serial s (Idle (Durable serial)) = Idle (Durable (record { 0 = s.serial }))
tells_serial s step = step

abbrev pub serial_is_told_as_durable : Tables
serial_is_told_as_durable = of_sessions (λ was s. record s { step = tells_serial s s.step })

-- a commit keeps nothing: it has its points as soon as it is in hand, and all of them are 0
abbrev pub with_no_points : KeeperState → Option Commit → KeeperState
with_no_points s None = s
with_no_points s (Some c) = record s { has_points = true; seek = record s.seek { points = [] } }

abbrev pub commit_keeps_nothing : Tables
commit_keeps_nothing = of_keeper (λ was s. with_no_points s s.commit)

-- a turn that ends tells that it has finished a commit
abbrev pub tells_finish : Keeping → Keeping
tells_finish (keeping.Ended (Turned done full)) = keeping.Ended (Turned true full)
tells_finish step = step

abbrev pub each_turn_tells_a_finish : Tables
each_turn_tells_a_finish = of_keeper (λ was s. record s { step = tells_finish s.step })

-- a commit is written as soon as it begins, without its phases, and keeps nothing
abbrev pub written_at_once : Shape → KeeperState → Keeping → KeeperState
written_at_once shape s (keeping.Ended (Begun number)) = writes_begun shape s s.commit
written_at_once shape s step = s

abbrev pub commit_is_written_at_once : Shape → Tables
commit_is_written_at_once shape = of_keeper (λ was s. written_at_once shape (with_no_points s s.commit) s.step)

-- so it is of one whose number is one more
abbrev pub with_next_number : Option Commit → Option Commit
with_next_number None = None
with_next_number (Some c) = Some (record c { number = record { 0 = c.number.0 + 1 } })

abbrev pub skipped_at_once : Shape → KeeperState → Keeping → KeeperState
skipped_at_once shape s (keeping.Ended (Begun number)) = writes_begun shape (record s { commit = with_next_number s.commit }) (with_next_number s.commit)
skipped_at_once shape s step = s

abbrev pub commit_skips_a_number : Shape → Tables
commit_skips_a_number shape = of_keeper (λ was s. skipped_at_once shape s s.step)

-- a commit is written as soon as it begins, by a slot that says the number after its own
abbrev pub with_next_slot : Shape → KeeperState → Option Commit → KeeperState
with_next_slot shape s None = s
with_next_slot shape s (Some c) =
    let begun : KeeperState = writes_begun shape s (Some c) in
    let next : KeeperState = writes_begun shape s (Some (record c { number = record { 0 = c.number.0 + 1 } })) in
    record begun { writes = record begun.writes { gate = record begun.writes.gate { slot = next.writes.gate.slot } } }

abbrev pub slotted_at_once : Shape → KeeperState → Keeping → KeeperState
slotted_at_once shape s (keeping.Ended (Begun number)) = with_next_slot shape s s.commit
slotted_at_once shape s step = s

abbrev pub slot_says_next_number : Shape → Tables
slot_says_next_number shape = of_keeper (λ was s. slotted_at_once shape (with_no_points s s.commit) s.step)

-- a commit is written as soon as it begins, and keeps nothing; its log ends at the tail of then, up to which nothing is flushed
abbrev pub with_tail_as_end : Option Commit → Option Commit
with_tail_as_end None = None
with_tail_as_end (Some c) = Some (record c { end = c.first })

abbrev pub unflushed_at_once : Shape → KeeperState → Keeping → KeeperState
unflushed_at_once shape s (keeping.Ended (Begun number)) = writes_begun shape (record s { commit = with_tail_as_end s.commit }) (with_tail_as_end s.commit)
unflushed_at_once shape s step = s

abbrev pub commit_is_written_unflushed : Shape → Tables
commit_is_written_unflushed shape = of_keeper (λ was s. unflushed_at_once shape (with_no_points s s.commit) s.step)

-- the right ones
abbrev pub right_tables : Tables
right_tables = record { session = λ was s. s; keeper = λ was s. s }
