-- What the clauses of `src` say: they take all of it under one name.
pub use Rattle.atomic_table.specs.Table.{Allows, opening, rest}
pub use Rattle.fkv_base.specs.Limits.{drain_slots, last_serial, max_pending}
pub use Rattle.fkv_base.specs.declared.commits.CommitKind.TheVariants.{Full, Log}
pub use Rattle.fkv_base.specs.declared.faults.Fault.TheVariants.{Memory}
pub use Rattle.fkv_checkpoint.specs.Copying.{IsRoomFor}
pub use Rattle.fkv_core.specs.Openings.{IsOpeningWorld, beginning}
pub use Rattle.fkv_core.specs.Worlds.{WorldModel}
pub use Rattle.fkv_disk.specs.Asks.{asked_call, kinds_by}
pub use Rattle.fkv_disk.specs.Device.{AtEachMoment}
pub use Rattle.fkv_keeper.specs.Answers.{is_busy}
pub use Rattle.fkv_keeper.specs.KeeperAsks.{keeper_asks_left, keeper_due}
pub use Rattle.fkv_keeper.specs.KeeperRun.{is_in_hand}
pub use Rattle.fkv_keeper.specs.Keeping.{granted_for, serves_alone, keeper_ask, keeper_word_due}
pub use Rattle.fkv_keeper.specs.Running.{IsBeginTold, IsTurnTold}
pub use Rattle.fkv_keeper.specs.declared.answers.KeeperTold.TheVariants.{Device as AtDevice}
pub use Rattle.fkv_map.specs.declared.operations.Call.{Call}
pub use Rattle.fkv_plane.specs.Asked.{asked_place, word_at, word_found}
pub use Rattle.fkv_plane.specs.declared.asks.Ask.TheVariants.{Done}
pub use Rattle.fkv_seats.specs.Rule.{GotUp, HandFits, Ruled, SatDown, Stepped, base, both_view, desk_of, desk_slot, first_view, led, left_view, right_view, spent_view}
pub use Rattle.fkv_seats.specs.declared.held.Held.TheVariants.{Drain}
pub use Rattle.fkv_seats.specs.declared.views.Role.TheVariants.{Sits}
pub use Rattle.fkv_session.specs.AsksLeft.{session_asks_left}
pub use Rattle.fkv_session.specs.SessionRun.{telling}
pub use Rattle.fkv_session.specs.Sessions.{session_ask}
pub use Rattle.fkv_session.specs.declared.answers.Told.{Told}
pub use Rattle.fkv_straight.specs.Standing.{asked, begins, leads}
pub use Rattle.fkv_sweep.specs.Sweeping.{is_sweeping}
pub use Rattle.fkv_table.specs.Asks.{step_of}
pub use Rattle.fkv_table.specs.Calls.{HasCalled, HasStepped, IsAnsweredLast, IsLastGiven, IsReady, IsToldLast, WasIdle}
pub use Rattle.fkv_table.specs.Desks.{Slot, noted, noting, turned}
pub use Rattle.fkv_table.specs.Events.{may_stand}
pub use Rattle.fkv_table.specs.KeeperCalls.{HasGoneOn, HasKept, IsBeginning}
pub use Rattle.fkv_table.specs.Keeps.{IsAfterSeen, IsFreshKeeper, IsKeeperAtWork, IsKeeperReady, IsKeeping, IsLeftWithin, IsNoted, KeeperIsAsked, KeeperReplied, KeeperSettled, LeavesDevice, Spares, adding}
pub use Rattle.fkv_table.specs.Lines.{HasLed, IsAlong, IsBegun, IsLeft, LineModel, Origin, line_of, stands}
pub use Rattle.fkv_table.specs.Meets.{AreTwoReady, HaveMet, StaysReady}
pub use Rattle.fkv_table.specs.Openings.{IsTableOf}
pub use Rattle.fkv_table.specs.Planes.{opening_of, plane}
pub use Rattle.fkv_table.specs.Positions.{gaps, laid, low_place, place_at, position}
pub use Rattle.fkv_table.specs.Raises.{raising}
pub use Rattle.fkv_table.specs.Seating.{HasDeskInHand, MaySit, rising, sitting}
pub use Rattle.fkv_table.specs.Sits.{IsAsked, IsIdleEmpty, RepliedIn, Rests, Settled, StandsIn, Went}
pub use Rattle.fkv_table.specs.Starts.{EachAt, HasSeat, IsFresh, rest_view}
pub use Rattle.fkv_table.specs.Turns.{IsCounted, IsTurnAsked, asks_device, ended_by_device, over_by_device, told_by_device}
pub use Rattle.fkv_table.specs.declared.happenings.Happening.{Happening}
pub use Rattle.fkv_table.specs.declared.happenings.Happening.TheVariants.{Calls, Commits, KeeperMoves, Turns}
pub use Rattle.fkv_table.specs.declared.positions.Part.TheVariants.{Past}
pub use Rattle.law_world.specs.Below.fkv_world.Opened.{IsOpenedWorld}
pub use Rattle.std.specs.declared.snapshot.Snapshot.{Snapshot}
