-- The worked lives, by computing them.
use Rattle.std.proofs.Common.{◌≡◌, ℕ, zero, suc, refl, subst, arith, [], ◌∷◌}
use Rattle.std.specs.Prelude.{slice_get, Some}
use Rattle.std.proofs.lemmas.Nat.{and_mask}
use Rattle.fkv_base.specs.declared.classes.StoreClass.TheVariants.{Specified}
use Rattle.fkv_base.specs.declared.shapes.Shape.{Shape}
use Rattle.fkv_marks.specs.Marks.{mark}
use Rattle.fkv_plane.specs.declared.places.Places.{Places}
use Rattle.law_world.specs.Below.fkv_keeper.KeeperRun as keeper
use Rattle.law_world.specs.Below.fkv_keeper.Keeping.{KeeperState}
use Rattle.law_world.specs.Below.fkv_session.Sessions.{SessionState, IsOpened}
use Rattle.law_world.specs.Below.fkv_world.Opened.{IsOpenedWorld}
use Rattle.law_world.specs.Below.fkv_world.World.{life_goes}
use Rattle.law_world.specs.Below.fkv_world.Moves.{session_settled, session_asks}
use Rattle.law_world.specs.Below.fkv_world.Past.{history_after, life_past}
use Rattle.law_world.specs.Below.fkv_world.Runs.{run}
use Rattle.law_world.specs.Runs.Added.{begun_by, ended_by}
use Rattle.law_world.specs.Below.fkv_session.Sessions.{sitting_ask, attempts, polls_at, op_begun, refresh_call, poll_call, sleep_call, wake_call, accepts, shifts, attempt_ledto, catch_ledto, clear_ledto, finishes_request, keeps_request, poll_ledto, turn_ledto, leave_ledto, sitting_next, sitting_given}
use Rattle.law_world.specs.Below.fkv_pending.Attempting.{attempting_ask, look_ledto, try_ledto, put_ledto, attempting_next}
use Rattle.law_world.specs.Below.fkv_pending.Pending.{with_sought, with_held, with_latch, with_asked}
use Rattle.law_world.specs.Below.fkv_pending.Mailing.{mail_ask, mail_next}
use Rattle.law_world.specs.Below.fkv_ops.Trying.{trying_ask, ends, ends_so, shared_ledto, appends, copies_from, copies, held_used, walk_ledto, current_ledto, answer_ledto, exclusive_ledto, old_ledto, append_ledto, exclusive_dropped, shared_dropped, trying_next}
use Rattle.law_world.specs.Below.fkv_ops.Walking.{walking_ask, find_ledto, load_ledto, value_ledto, walking_next, walking_on}
use Rattle.law_world.specs.Below.fkv_ops.Appending.{appending_ask, reserve_ledto, fill_ledto, publish_ledto, invalidate_ledto, appending_next}
use Rattle.law_world.specs.Below.fkv_ops.HeaderWords.{header_said}
use Rattle.fkv_index.specs.Finding.{find_step_ask, find_led}
use Rattle.fkv_index.specs.Publishing.{publish_ask, publish_next, publish_next_ask}
use Rattle.fkv_index.specs.Slots.{slot_word}
use Rattle.law_world.specs.Below.fkv_log.Reserving.{reserve_ask, reserve_next, reserve_next_ask}
use Rattle.law_world.specs.Below.fkv_log.Filling.{fill_ask, fill_next}
use Rattle.law_world.specs.Below.fkv_log.Loading.{load_ask, load_next, load_next_ask, load_on}
use Rattle.law_world.specs.Below.fkv_log.Invalidating.{invalidate_ask, invalidate_next}
use Rattle.fkv_plane.specs.Passing.{passed}
use Rattle.law_log.specs.Ghosts.{set_at, ghosts_after, ghost_run}
use Rattle.law_refine.specs.Events.GhostEvents.{ghost_events, mapped}
use Rattle.law_refine.specs.Events.Lines.{lines_of, lines_added}
use Rattle.law_refine.specs.Events.Sessions.{step_ghosts}
use Rattle.law_refine.specs.Events.Worked.{first_session, first_world, IsWorkedLife}

shape : Shape
unfolding lib.Count.ones
shape = record { class = Specified; bucket_bits = 0; page = 4; frames = 2; mutable = 1; sessions = 2; overflow = 0; disk_pages = 64; limits = record { few_buckets = omega arith; page_size = refl; ring_size = refl; some_mutable = omega arith; some_read_only = omega arith; some_session = omega arith; few_sessions = omega arith; few_overflow = omega arith; some_disk = omega arith; few_disk = omega arith }; of_its_class = λ _. record { small_buckets = omega arith; small_pages = omega arith; small_ring = omega arith; small_chains = omega arith; small_disk = omega arith } }

places : Places
places = record { sessions = 2; buckets = 1; overflow = 0; ring = 8; ring_mask = 7; few_sessions = omega arith; few_buckets = omega arith; few_overflow = omega arith; some_ring = omega arith; masks = λ a. and_mask a 3; small_ring = omega arith }

session_opened : (s : SessionState) → IsOpened (first_session s)
session_opened s = record { awake = refl; none_wait = refl; no_ticket = refl; no_orphan = refl; no_spare = refl; no_asks = refl; no_effect = refl; none_finished = refl; none_in_hand = refl; serial_fits = omega arith }

each_opened : (one other : SessionState) (number : ℕ) (its : SessionState) → slice_get (first_session one ∷ first_session other ∷ []) number ≡ Some its → IsOpened its
each_opened one other zero its found = let same : first_session one ≡ its = cc in subst IsOpened same (session_opened one)
each_opened one other (suc zero) its found = let same : first_session other ≡ its = cc in subst IsOpened same (session_opened other)
each_opened one other (suc (suc more)) its found = cc

world_opened : (its : KeeperState) (one other : SessionState) → keeper.IsOpened its → IsOpenedWorld (first_world shape places its one other)
unfolding places shape
world_opened its one other opened = record { goes_on = refl; no_history = refl; no_trace = refl; no_calls = refl; seats = refl; keeper = opened; sessions = each_opened one other }

pub worked_life : (its : KeeperState) (one other : SessionState) → keeper.IsOpened its → IsWorkedLife its one other
unfolding places shape life_goes session_settled session_asks history_after life_past run begun_by ended_by sitting_ask attempts polls_at op_begun refresh_call poll_call sleep_call wake_call accepts shifts attempt_ledto catch_ledto clear_ledto finishes_request keeps_request poll_ledto turn_ledto leave_ledto sitting_next sitting_given attempting_ask look_ledto try_ledto put_ledto attempting_next with_sought with_held with_latch with_asked mail_ask mail_next trying_ask ends ends_so shared_ledto appends copies_from mark copies held_used walk_ledto current_ledto answer_ledto exclusive_ledto old_ledto append_ledto exclusive_dropped shared_dropped trying_next walking_ask find_ledto load_ledto value_ledto walking_next walking_on appending_ask reserve_ledto fill_ledto publish_ledto invalidate_ledto appending_next header_said find_step_ask find_led publish_ask publish_next publish_next_ask slot_word reserve_ask reserve_next reserve_next_ask fill_ask fill_next load_ask load_next load_next_ask load_on invalidate_ask invalidate_next passed set_at ghosts_after ghost_run ghost_events mapped lines_of lines_added step_ghosts
worked_life its one other opened = record { shape = shape; places = places; opened = world_opened its one other opened; events = refl; history = refl; value = refl; lost = refl; swapped = refl; refused = refl; polled = refl; fixed = refl }
