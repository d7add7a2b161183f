-- What crates above may cite.
pub use Rattle.fkv_session.proofs.CatchLeft.{catch_left, catch_fewer, catch_most, refresh_begun_left, wake_begun_left}
pub use Rattle.fkv_session.proofs.OwnTurnLeft.{own_turn_left, own_turn_fewer, own_turn_given_fewer, own_turn_begun_left, own_turn_most}
pub use Rattle.fkv_session.proofs.SessionLeft.{session_left, session_begun_left, session_fewer, session_given_fewer}
pub use Rattle.fkv_session.proofs.Bounded.{run_within}
pub use Rattle.fkv_session.proofs.RoomKept.{HasRoomNow, run_room}
pub use Rattle.fkv_session.proofs.AnswersTrue.{run_durable, run_kind, run_refreshed, run_true, run_woken}
pub use Rattle.fkv_session.proofs.AtOnce.{begun_at_once}
pub use Rattle.fkv_session.proofs.AwakeTold.{Sleeps, AsksNone, Rests, Loads, SleepsFrom, SleepsOn, FallsAsleep, run_awake, run_begun, run_falls, run_given}
pub use Rattle.fkv_session.proofs.FirstCauses.{begun_caused, begun_refused}
pub use Rattle.fkv_session.proofs.AttemptKeeps.{attempt_keeps}
pub use Rattle.fkv_session.proofs.AttemptMade.{made_in, made_of, KnowsUpdate, IsMadeSo, begun_so, begun_nothing, attempt_so, attempt_ends}
pub use Rattle.fkv_session.proofs.Books.{AreBooksKept}
pub use Rattle.fkv_session.proofs.CatchKeeps.{catch_serial}
pub use Rattle.fkv_session.proofs.CutsTold.{run_cuts}
pub use Rattle.fkv_session.proofs.EpochLast.{run_epoch}
pub use Rattle.fkv_session.proofs.HandAsks.{run_ended}
pub use Rattle.fkv_session.proofs.Made.{made_by, IsMade, try_made, try_ended}
pub use Rattle.fkv_session.proofs.MarkRuns.{event_marks, run_marks, run_told_marks, run_stores}
pub use Rattle.fkv_session.proofs.Marked.{IsMarked, HasCut, HasOwing, IsCatching, StepMarks}
pub use Rattle.fkv_session.proofs.MarksSpared.{IsOff, StoresOff, attempt_off}
pub use Rattle.fkv_session.proofs.Once.{answered_once}
pub use Rattle.fkv_session.proofs.OwingNear.{run_near}
pub use Rattle.fkv_session.proofs.ReadsTold.{run_called, run_attempted, run_reads}
pub use Rattle.fkv_session.proofs.Replied.{IsSettled, IsUnderWay, IsTold, event_told, run_told}
pub use Rattle.fkv_session.proofs.RepliedOnce.{run_replies, run_once, run_none, run_own}
pub use Rattle.fkv_session.proofs.Requests.{IsSameRequest}
pub use Rattle.fkv_session.proofs.AttemptShares.{there, trial_at, IsTryOf, owed_in, ReadsNone, KnowsShare, begun_shares, attempt_shares}
pub use Rattle.fkv_session.proofs.CatchShares.{owed_at, KnowsCatch, catch_shares}
pub use Rattle.fkv_session.proofs.Shared.{Book, IsPlain, StepShares, run_shares, run_accounts, run_updates}
pub use Rattle.fkv_session.proofs.Latched.{StepLatched, run_latched, run_prepared}
pub use Rattle.fkv_session.proofs.Sleeps.{run_leaves, run_sleeps, run_unprotected}
pub use Rattle.fkv_session.proofs.Slept.{run_slept}
pub use Rattle.fkv_session.proofs.ToldInOrder.{run_order}
pub use Rattle.fkv_session.proofs.Sound.{Knows, IsHeld, Holds, next_held, given_held, call_held, event_holds, run_holds}
pub use Rattle.fkv_session.proofs.Spared.{run_refusal}
pub use Rattle.fkv_session.proofs.Whole.{begun_whole}
pub use Rattle.fkv_session.proofs.TurnSpared.{IsOwnTurnSparing, own_turn_off, own_turn_spares}
pub use Rattle.fkv_session.proofs.UpdateEnds.{IsUpdateEnd, IsUpdateTry, try_update, begun_update}
pub use Rattle.fkv_session.proofs.AsksCounted.{run_counted}
pub use Rattle.fkv_session.proofs.AsleepKept.{run_asleep}
pub use Rattle.fkv_session.proofs.Polled.{run_polled}
pub use Rattle.fkv_session.proofs.Ticketed.{run_tickets}
pub use Rattle.fkv_session.proofs.VersionFits.{run_version}
pub use Rattle.fkv_session.proofs.Versioned.{run_taken, run_call, run_request}
pub use Rattle.fkv_session.proofs.SharesBack.{run_back}
