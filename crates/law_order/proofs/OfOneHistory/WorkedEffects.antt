-- What has taken effect in the worked life, computed.
use Rattle.std.proofs.Common.{◌≡◌, ℕ, List, refl}
use Rattle.fkv_marks.specs.Marks.{mark}
use Rattle.law_commit.specs.Below.fkv_keeper.Keeping.{KeeperState}
use Rattle.law_commit.specs.Below.fkv_session.Sessions.{SessionState}
use Rattle.law_commit.specs.Below.fkv_world.World.{life_goes}
use Rattle.law_commit.specs.Below.fkv_world.Moves.{session_settled, session_asks}
use Rattle.law_commit.specs.Below.fkv_world.Past.{history_after, life_past}
use Rattle.law_commit.specs.Below.fkv_world.Runs.{run}
use Rattle.law_commit.specs.Below.fkv_session.Sessions.{sitting_ask, attempts, polls_at, op_begun, refresh_call, poll_call, sleep_call, wake_call, accepts, shifts, attempt_ledto, catch_ledto, clear_ledto, finishes_request, keeps_request, poll_ledto, turn_ledto, leave_ledto, sitting_next, sitting_given}
use Rattle.law_commit.specs.Below.fkv_pending.Attempting.{attempting_ask, look_ledto, try_ledto, put_ledto, attempting_next}
use Rattle.law_commit.specs.Below.fkv_pending.Pending.{with_sought, with_held, with_latch, with_asked}
use Rattle.law_commit.specs.Below.fkv_pending.Mailing.{mail_ask, mail_next}
use Rattle.law_commit.specs.Below.fkv_ops.Trying.{trying_ask, ends_so, ends, shared_ledto, appends, copies_from, copies, held_used, walk_ledto, current_ledto, answer_ledto, exclusive_ledto, old_ledto, append_ledto, exclusive_dropped, shared_dropped, trying_next}
use Rattle.law_commit.specs.Below.fkv_ops.Walking.{walking_ask, find_ledto, load_ledto, value_ledto, walking_next, walking_on}
use Rattle.law_commit.specs.Below.fkv_ops.Appending.{appending_ask, reserve_ledto, fill_ledto, publish_ledto, invalidate_ledto, appending_next}
use Rattle.law_commit.specs.Below.fkv_ops.HeaderWords.{header_said}
use Rattle.fkv_index.specs.Finding.{find_step_ask, find_led}
use Rattle.fkv_index.specs.Publishing.{publish_ask, publish_next, publish_next_ask}
use Rattle.fkv_index.specs.Slots.{slot_word}
use Rattle.law_commit.specs.Below.fkv_log.Reserving.{reserve_ask, reserve_next, reserve_next_ask}
use Rattle.law_commit.specs.Below.fkv_log.Filling.{fill_ask, fill_next}
use Rattle.law_commit.specs.Below.fkv_log.Loading.{load_ask, load_next, load_next_ask, load_on}
use Rattle.law_commit.specs.Below.fkv_log.Invalidating.{invalidate_ask, invalidate_next}
use Rattle.fkv_plane.specs.Passing.{passed}
use Rattle.law_commit.specs.Below.law_refine.Events.Worked.{worked_events, worked_history}
use Rattle.law_order.specs.Rules.Ordered.{effects_so_far}
use Rattle.law_order.proofs.OfOneHistory.WorkedShape.{places, shape}
use Rattle.law_order.proofs.OfOneHistory.WorkedWorld.{worked_now}

pub worked_effects : (keeper : KeeperState) (one other : SessionState) (bytes : List ℕ) → effects_so_far (worked_now keeper one other) bytes worked_events ≡ worked_history
unfolding worked_now places shape life_goes session_settled session_asks history_after life_past run sitting_ask attempts polls_at op_begun refresh_call poll_call sleep_call wake_call accepts shifts attempt_ledto catch_ledto clear_ledto finishes_request keeps_request poll_ledto turn_ledto leave_ledto sitting_next sitting_given attempting_ask look_ledto try_ledto put_ledto attempting_next with_sought with_held with_latch with_asked mail_ask mail_next trying_ask ends_so ends shared_ledto appends copies_from mark copies held_used walk_ledto current_ledto answer_ledto exclusive_ledto old_ledto append_ledto exclusive_dropped shared_dropped trying_next walking_ask find_ledto load_ledto value_ledto walking_next walking_on appending_ask reserve_ledto fill_ledto publish_ledto invalidate_ledto appending_next header_said find_step_ask find_led publish_ask publish_next publish_next_ask slot_word reserve_ask reserve_next reserve_next_ask fill_ask fill_next load_ask load_next load_next_ask load_on invalidate_ask invalidate_next passed
worked_effects keeper one other bytes = refl
