-- The past of a worked life, by computing it.
use Rattle.std.proofs.Common.{◌≡◌, ℕ, zero, suc, refl, subst, arith, [], ◌∷◌}
use Rattle.std.specs.Prelude.{slice_get, Some}
use Rattle.std.proofs.lemmas.Nat.{and_mask}
use Rattle.fkv_base.specs.declared.classes.StoreClass.TheVariants.{Specified}
use Rattle.fkv_base.specs.declared.shapes.Shape.{Shape}
use Rattle.fkv_marks.specs.Marks.{mark}
use Rattle.fkv_words.specs.PhaseWords.{phase_said}
use Rattle.fkv_plane.specs.declared.places.Places.{Places}
use Rattle.fkv_plane.specs.Passing.{passed}
use Rattle.fkv_epoch.specs.Arming.{arm_ask, arm_next}
use Rattle.fkv_epoch.specs.Raising.{raise_ask, raise_next, raise_next_ask, raise_on, free_after}
use Rattle.fkv_epoch.specs.Refreshing.{refresh_ask, refresh_next, refresh_finish}
use Rattle.fkv_index.specs.Finding.{find_step_ask, find_led}
use Rattle.fkv_index.specs.Publishing.{publish_ask, publish_next, publish_next_ask}
use Rattle.fkv_index.specs.Slots.{slot_word}
use Rattle.law_refine.specs.Below.fkv_log.Reserving.{reserve_ask, reserve_next, reserve_next_ask}
use Rattle.law_refine.specs.Below.fkv_log.Filling.{fill_ask, fill_next}
use Rattle.law_refine.specs.Below.fkv_log.Loading.{load_ask, load_next, load_next_ask, load_on}
use Rattle.law_refine.specs.Below.fkv_log.Invalidating.{invalidate_ask, invalidate_next}
use Rattle.law_refine.specs.Below.fkv_ops.Trying.{trying_ask, ends, ends_so, shared_ledto, appends, copies_from, copies, held_used, walk_ledto, current_ledto, answer_ledto, exclusive_ledto, old_ledto, append_ledto, exclusive_dropped, shared_dropped, trying_next}
use Rattle.law_refine.specs.Below.fkv_ops.Walking.{walking_ask, find_ledto, load_ledto, value_ledto, walking_next, walking_on}
use Rattle.law_refine.specs.Below.fkv_ops.Appending.{appending_ask, reserve_ledto, fill_ledto, publish_ledto, invalidate_ledto, appending_next}
use Rattle.law_refine.specs.Below.fkv_ops.HeaderWords.{header_said}
use Rattle.law_refine.specs.Below.fkv_pending.Attempting.{attempting_ask, look_ledto, try_ledto, put_ledto, attempting_next}
use Rattle.law_refine.specs.Below.fkv_pending.Pending.{with_sought, with_held, with_latch, with_asked}
use Rattle.law_refine.specs.Below.fkv_pending.Mailing.{mail_ask, mail_next}
use Rattle.law_refine.specs.Below.fkv_commit.Deferring as defer
use Rattle.law_refine.specs.Below.fkv_commit.Starting as start
use Rattle.law_refine.specs.Below.fkv_keeper.KeeperRun.{keeper_happens, keeper_run}
use Rattle.law_refine.specs.Below.fkv_keeper.Keeping.{KeeperState, keeping_ask, start_ledto, keeping_next}
use Rattle.law_refine.specs.Below.fkv_session.CatchingUp as catch
use Rattle.law_refine.specs.Below.fkv_session.Replies.{op_called}
use Rattle.law_refine.specs.Below.fkv_session.SessionRun.{session_happens, session_run}
use Rattle.law_refine.specs.Below.fkv_session.Sessions.{SessionState, IsOpened}
use Rattle.law_refine.specs.Below.fkv_session.Sessions.{sitting_ask, attempts, polls_at, op_begun, refresh_call, poll_call, sleep_call, wake_call, accepts, shifts, attempt_ledto, catch_ledto, clear_ledto, finishes_request, keeps_request, poll_ledto, turn_ledto, leave_ledto, sitting_next, sitting_given}
use Rattle.law_refine.specs.Below.fkv_session.Versions.{versions_taken}
use Rattle.law_refine.specs.Below.law_world.Runs.Added.{begun_by, ended_by}
use Rattle.law_refine.specs.Below.fkv_world.Moves.{session_settled, session_asks, keeper_settled, keeper_asks}
use Rattle.law_refine.specs.Below.fkv_world.Opened.{IsOpenedWorld}
use Rattle.law_refine.specs.Below.fkv_world.OwnEvents.{session_slots, session_steps, session_part, session_events, keeper_slots, keeper_steps, keeper_part, keeper_events}
use Rattle.law_refine.specs.Below.fkv_world.Past.{history_after, life_past}
use Rattle.law_refine.specs.Below.fkv_world.Runs.{run}
use Rattle.law_refine.specs.Below.fkv_world.World.{life_goes}
use Rattle.law_commit.specs.PrefixPast.{serials_asked}
use Rattle.law_commit.specs.Raises.{raises}
use Rattle.law_commit.specs.Views.{sight_through, sight_in}
use Rattle.law_commit.specs.WorkedRuns.{IsWorkedPast, worked_world}
use Rattle.law_refine.specs.Events.Worked.{first_session}

shape : Shape
unfolding lib.Count.ones
shape = record { class = Specified; bucket_bits = 0; page = 4; frames = 2; mutable = 1; sessions = 2; overflow = 0; disk_pages = 64; limits = record { few_buckets = omega arith; page_size = refl; ring_size = refl; some_mutable = omega arith; some_read_only = omega arith; some_session = omega arith; few_sessions = omega arith; few_overflow = omega arith; some_disk = omega arith; few_disk = omega arith }; of_its_class = λ _. record { small_buckets = omega arith; small_pages = omega arith; small_ring = omega arith; small_chains = omega arith; small_disk = omega arith } }

places : Places
places = record { sessions = 2; buckets = 1; overflow = 0; ring = 8; ring_mask = 7; few_sessions = omega arith; few_buckets = omega arith; few_overflow = omega arith; some_ring = omega arith; masks = λ a. and_mask a 3; small_ring = omega arith }

session_opened : (s : SessionState) → IsOpened (first_session s)
session_opened s = record { awake = refl; none_wait = refl; no_ticket = refl; no_orphan = refl; no_spare = refl; no_asks = refl; no_effect = refl; none_finished = refl; none_in_hand = refl; serial_fits = omega arith }

each_opened : (one other : SessionState) (number : ℕ) (its : SessionState) → slice_get (first_session one ∷ first_session other ∷ []) number ≡ Some its → IsOpened its
each_opened one other zero its found = let same : first_session one ≡ its = cc in subst IsOpened same (session_opened one)
each_opened one other (suc zero) its found = let same : first_session other ≡ its = cc in subst IsOpened same (session_opened other)
each_opened one other (suc (suc more)) its found = cc

world_opened : (its : KeeperState) (one other : SessionState) → IsOpenedWorld (worked_world shape places its one other)
unfolding places shape
world_opened its one other = record {
  goes_on = refl;
  no_history = refl;
  no_trace = refl;
  no_calls = refl;
  seats = refl;
  keeper = record { none_in_hand = refl; no_commit = refl; none_rest = refl; none_flushed = refl; works = refl; turns_rest = refl; serves_from = refl; none_swept = (its.sweep.shape, its.sweep.places, refl) };
  sessions = each_opened one other;
}

pub worked_past : (its : KeeperState) (one other : SessionState) → IsWorkedPast its one other
unfolding places shape phase_said passed arm_ask arm_next raise_ask raise_next raise_next_ask raise_on free_after refresh_ask refresh_next refresh_finish find_step_ask find_led publish_ask publish_next publish_next_ask slot_word reserve_ask reserve_next reserve_next_ask fill_ask fill_next load_ask load_next load_next_ask load_on invalidate_ask invalidate_next trying_ask ends ends_so shared_ledto appends copies_from mark copies held_used walk_ledto current_ledto answer_ledto exclusive_ledto old_ledto append_ledto exclusive_dropped shared_dropped trying_next walking_ask find_ledto load_ledto value_ledto walking_next walking_on appending_ask reserve_ledto fill_ledto publish_ledto invalidate_ledto appending_next header_said attempting_ask look_ledto try_ledto put_ledto attempting_next with_sought with_held with_latch with_asked mail_ask mail_next defer.deferring_ask defer.seek_ledto defer.raise_ledto defer.arm_ledto defer.deferring_next defer.deferring_on start.starting_ask start.seek_led start.defer_led start.starting_next keeper_happens keeper_run keeping_ask start_ledto keeping_next catch.catching_ask catch.refresh_ledto catch.finish_ledto catch.latch_marked catch.catching_requests catch.catching_next op_called session_happens session_run sitting_ask attempts polls_at op_begun refresh_call poll_call sleep_call wake_call accepts shifts attempt_ledto catch_ledto clear_ledto finishes_request keeps_request poll_ledto turn_ledto leave_ledto sitting_next sitting_given versions_taken begun_by ended_by session_settled session_asks keeper_settled keeper_asks session_slots session_steps session_part session_events keeper_slots keeper_steps keeper_part keeper_events history_after life_past run life_goes serials_asked raises sight_through sight_in
worked_past its one other = record { shape = shape; places = places; opened = world_opened its one other; refreshed = refl; loaded = refl; caught_up = refl; tail = refl; asked = refl; serial = refl; versions = refl; raised = refl }
