-- The lives whose histories are wrong, by computing them.
use Rattle.std.proofs.Common.{◌≡◌, inl, ℕ, ◌∙◌, zero, suc, Some, List, [], ◌∷◌, ◌++◌, ◌<◌, refl, sym, ap, subst, arith}
use Rattle.std.specs.Prelude.{slice_get}
use Rattle.fkv_marks.specs.Marks.{mark}
use Rattle.law_order.specs.Below.fkv_flush.GuardLevels.{Levels}
use Rattle.law_order.specs.Below.fkv_keeper.Keeping.{KeeperState}
use Rattle.law_order.specs.Below.fkv_keeper.NewKeepers.{ArePlacesOfStore}
use Rattle.fkv_map.specs.declared.operations.Reply.{Reply}
use Rattle.fkv_map.specs.declared.operations.Reply.TheVariants.{Nothing, Number, Found, Absent}
use Rattle.fkv_map.specs.declared.history.HistoryEntry.{HistoryEntry}
use Rattle.fkv_map.specs.History.{IsLegal}
use Rattle.fkv_map.specs.Map.{Map, applied, reply_to, reply_to_read}
use Rattle.fkv_map.specs.Keys.{reply_from}
use Rattle.fkv_map.proofs.Shown.{content_one_more, get-applied, legal_each, reply_to_is}
use Rattle.law_log.specs.Trace.{Effect, IsIn, HasUpdate, GivesResult, CallsUpdate, value_in, history_of}
use Rattle.law_log.specs.Worked.{adds_5, entry_of, gives_70, no_map}
use Rattle.law_order.specs.Below.fkv_session.Sessions.{SessionState, IsOpened}
use Rattle.fkv_epoch.specs.EpochWorld.{drain_word, own_epoch}
use Rattle.law_order.specs.Below.law_world.GuardSessions.Likenesses.{last_seen}
use Rattle.law_order.specs.Below.fkv_world.Opened.{IsOpenedWorld}
use Rattle.law_order.specs.Below.law_world.Guarded.Shows as guard
use Rattle.law_order.specs.Below.law_refine.Calls.Calls.{effects_in_log}
use Rattle.law_order.specs.Below.law_refine.Events.Lines.{lines_of}
use Rattle.law_order.specs.Below.law_refine.Events.Worked.{first_session, first_words, gives_8}
use Rattle.law_order.proofs.OfOneHistory.WorkedShape.{places, shape}
use Rattle.law_wrong_runs.specs.Tables.{add_copies_in_fuzzy_region, in_place_below_seen_read_only, read_gives_opening_state, run_by}
use Rattle.law_wrong_runs.specs.WrongLives.{LeavesFresh, LeavesLegal, fixed_begun, fixed_events, fuzzy_begun, fuzzy_events, gives_1, levels_after, opened_world, read_events}
use Rattle.law_order.specs.Below.fkv_session.Sessions as session_u
use Rattle.law_order.specs.Below.fkv_session.CatchingUp as catching_u
use Rattle.law_order.specs.Below.fkv_pending.Attempting as attempting_u
use Rattle.law_order.specs.Below.fkv_pending.Pending as pending_u
use Rattle.law_order.specs.Below.fkv_pending.Mailing as mailing_u
use Rattle.law_order.specs.Below.fkv_ops.Trying as trying_u
use Rattle.law_order.specs.Below.fkv_ops.Walking as walking_u
use Rattle.law_order.specs.Below.fkv_ops.Appending as appending_u
use Rattle.law_order.specs.Below.fkv_ops.HeaderWords as header_words_u
use Rattle.fkv_index.specs.Finding as finding_u
use Rattle.fkv_index.specs.Publishing as publishing_u
use Rattle.fkv_index.specs.Slots as slots_u
use Rattle.law_order.specs.Below.fkv_log.Reserving as reserving_u
use Rattle.law_order.specs.Below.fkv_log.Filling as filling_u
use Rattle.law_order.specs.Below.fkv_log.Loading as loading_u
use Rattle.law_order.specs.Below.fkv_log.Invalidating as invalidating_u
use Rattle.law_order.specs.Below.fkv_log.Moving as moving_u
use Rattle.law_order.specs.Below.fkv_log.Shifting as shifting_u
use Rattle.law_order.specs.Below.fkv_log.Turning as turning_u
use Rattle.fkv_epoch.specs.Refreshing as refreshing_u
use Rattle.fkv_epoch.specs.Scanning as scanning_u
use Rattle.fkv_epoch.specs.Claiming as claiming_u
use Rattle.fkv_epoch.specs.Raising as raising_u
use Rattle.fkv_epoch.specs.Arming as arming_u
use Rattle.fkv_plane.specs.Passing as passing_u
use Rattle.law_order.specs.Below.fkv_maintain.Maintaining as maintaining_u
use Rattle.law_order.specs.Below.fkv_keeper.Keeping as keeping_u
use Rattle.law_order.specs.Below.fkv_keeper.KeeperAsks as keeper_asks_u
use Rattle.law_order.specs.Below.fkv_flush.Flushing as flushing_u
use Rattle.law_order.specs.Below.fkv_flush.Serving as serving_u
use Rattle.law_order.specs.Below.fkv_world.World as world_u
use Rattle.law_order.specs.Below.fkv_world.Moves as moves_u
use Rattle.law_order.specs.Below.fkv_world.Past as past_u
use Rattle.law_order.specs.Below.fkv_world.Runs as runs_u
use Rattle.fkv_words.specs.PhaseWords as phase_words_u
use Rattle.law_order.specs.Below.fkv_world.Runs.{World, run}

pub places_fit : ArePlacesOfStore shape places
unfolding shape places
places_fit = record { sessions = refl; buckets = refl; overflow = refl; ring = refl }

-- ---- the beginning
session_opened : (s : SessionState) → IsOpened (first_session s)
session_opened s = record { awake = refl; none_wait = refl; no_ticket = refl; no_orphan = refl; no_spare = refl; no_asks = refl; no_effect = refl; none_finished = refl; none_in_hand = refl; serial_fits = omega arith }

each_opened : (one other : SessionState) (number : ℕ) (its : SessionState) → slice_get (first_session one ∷ first_session other ∷ []) number ≡ Some its → IsOpened its
each_opened one other zero its found = let same : first_session one ≡ its = cc in subst IsOpened same (session_opened one)
each_opened one other (suc zero) its found = let same : first_session other ≡ its = cc in subst IsOpened same (session_opened other)
each_opened one other (suc (suc more)) its found = cc

pub world_opened : (its : KeeperState) (one other : SessionState) → IsOpenedWorld (opened_world shape places its one other)
unfolding places shape
world_opened its one other = record {
  goes_on = refl;
  no_history = refl;
  no_trace = refl;
  no_calls = refl;
  seats = refl;
  keeper = record { none_in_hand = refl; no_commit = refl; none_rest = refl; none_flushed = refl; works = refl; turns_rest = refl; serves_from = refl; none_swept = (shape, places, refl) };
  sessions = each_opened one other;
}

under_two : (one other : SessionState) (number : ℕ) (its : SessionState) → slice_get (first_session one ∷ first_session other ∷ []) number ≡ Some its → number < 2
under_two one other zero its found = omega arith
under_two one other (suc zero) its found = omega arith
under_two one other (suc (suc more)) its found = cc

each_saw : (one other : SessionState) (number : ℕ) (its : SessionState) → slice_get (first_session one ∷ first_session other ∷ []) number ≡ Some its → last_seen its.seen ≡ record { read_only = 1; head = 1 }
each_saw one other zero its found = let same : first_session one ≡ its = cc in ap (λ (s : SessionState). last_seen s.seen) (sym same)
each_saw one other (suc zero) its found = let same : first_session other ≡ its = cc in ap (λ (s : SessionState). last_seen s.seen) (sym same)
each_saw one other (suc (suc more)) its found = cc

awake : (session : ℕ) → session < 2 → own_epoch first_words session ≡ 1
awake zero below = refl
awake (suc zero) below = refl
awake (suc (suc more)) below = omega (arith, below)

slots_free : (slot : ℕ) → slot < 8 → drain_word first_words slot ≡ 0
slots_free zero below = refl
slots_free (suc zero) below = refl
slots_free (suc (suc zero)) below = refl
slots_free (suc (suc (suc zero))) below = refl
slots_free (suc (suc (suc (suc zero)))) below = refl
slots_free (suc (suc (suc (suc (suc zero))))) below = refl
slots_free (suc (suc (suc (suc (suc (suc zero)))))) below = refl
slots_free (suc (suc (suc (suc (suc (suc (suc zero))))))) below = refl
slots_free (suc (suc (suc (suc (suc (suc (suc (suc more)))))))) below = omega (arith, below)

pub guard_opened : (its : KeeperState) (one other : SessionState) → (let w : World = opened_world shape places its one other in guard.IsOpened w.now 1)
unfolding places shape
guard_opened its one other = record {
  words = record { fits = record { sessions = refl; ring = refl }; enough_words = omega arith; epochs = record { few_sessions = omega arith; with_others = omega arith; few_actors = omega arith; enough_words = omega arith; first_epoch = refl; nothing_safe = refl; awake = awake; slots_free = slots_free }; closed = omega arith; head = refl; flushed = refl; safe_read_only = refl; read_only = refl; tail = refl; limit = refl; tail_below = omega arith; limit_below = omega arith };
  buckets = refl;
  slots = refl;
  seats = under_two one other;
  sessions = each_opened one other;
  seen = each_saw one other;
  keeper = record { none_in_hand = refl; no_commit = refl; none_rest = refl; none_flushed = refl; works = refl; turns_rest = refl; serves_from = refl; none_swept = (shape, places, refl) };
  finishes = refl;
  sweeps = (refl, refl);
}

abbrev levels : ℕ → ℕ → Levels
levels low read_only = record { closed = 1; head = low; flushed = low; safe_read_only = low; read_only = read_only; tail = 4; limit = 8 }

pub is_fixed : (its : KeeperState) (one other : SessionState) → levels_after (opened_world shape places its one other) fixed_begun ≡ levels 4 4
unfolding places shape session_u.sitting_ask session_u.attempts session_u.polls_at session_u.op_begun session_u.refresh_call session_u.poll_call session_u.sleep_call session_u.wake_call session_u.accepts session_u.shifts session_u.attempt_ledto session_u.catch_ledto session_u.clear_ledto session_u.finishes_request session_u.keeps_request session_u.poll_ledto session_u.turn_ledto session_u.leave_ledto session_u.sitting_next session_u.sitting_given catching_u.catching_ask catching_u.refresh_ledto catching_u.protect_ledto catching_u.latch_ledto catching_u.finish_ledto catching_u.latch_marked catching_u.catching_requests catching_u.catching_next attempting_u.attempting_ask attempting_u.look_ledto attempting_u.try_ledto attempting_u.put_ledto attempting_u.attempting_next pending_u.with_sought pending_u.with_held pending_u.with_latch pending_u.with_asked mailing_u.mail_ask mailing_u.mail_next trying_u.trying_ask trying_u.ends_so trying_u.ends trying_u.shared_ledto trying_u.appends trying_u.copies_from mark trying_u.copies trying_u.held_used trying_u.walk_ledto trying_u.current_ledto trying_u.answer_ledto trying_u.exclusive_ledto trying_u.old_ledto trying_u.append_ledto trying_u.exclusive_dropped trying_u.shared_dropped trying_u.trying_next walking_u.walking_ask walking_u.find_ledto walking_u.load_ledto walking_u.value_ledto walking_u.walking_next walking_u.walking_on appending_u.appending_ask appending_u.reserve_ledto appending_u.fill_ledto appending_u.publish_ledto appending_u.invalidate_ledto appending_u.appending_next header_words_u.header_said finding_u.find_step_ask finding_u.find_led publishing_u.publish_ask publishing_u.publish_next publishing_u.publish_next_ask slots_u.slot_word reserving_u.reserve_ask reserving_u.reserve_next reserving_u.reserve_next_ask filling_u.fill_ask filling_u.fill_next loading_u.load_ask loading_u.load_next loading_u.load_next_ask loading_u.load_on invalidating_u.invalidate_ask invalidating_u.invalidate_next moving_u.moving_ask moving_u.raise_led moving_u.arm_led moving_u.moving_next moving_u.raise_told moving_u.moving_next_ask shifting_u.shifting_ask shifting_u.shift_led shifting_u.shifting_next shifting_u.move_told shifting_u.shifting_next_ask turning_u.turning_ask turning_u.turn_led turning_u.turning_next turning_u.turn_told turning_u.turning_next_ask refreshing_u.refresh_ask refreshing_u.refresh_next refreshing_u.refresh_finish scanning_u.scan_ask scanning_u.sessions_from scanning_u.least_of scanning_u.scan_next claiming_u.claim_ask claiming_u.slot_after claiming_u.slot_armed claiming_u.claim_next claiming_u.claim_given raising_u.raise_ask raising_u.free_after raising_u.raise_next raising_u.raise_next_ask raising_u.raise_on arming_u.arm_ask arming_u.arm_next passing_u.passed maintaining_u.device_asked maintaining_u.maintaining_ask maintaining_u.scan_ledto maintaining_u.claim_ledto maintaining_u.flush_ledto maintaining_u.shift_ledto maintaining_u.serve_ledto maintaining_u.turn_ledto maintaining_u.maintaining_next maintaining_u.maintaining_given maintaining_u.maintaining_called maintaining_u.maintaining_calls maintaining_u.maintaining_made keeping_u.device_passed keeping_u.keeping_ask keeping_u.start_ledto keeping_u.maintain_ledto keeping_u.phase_ledto keeping_u.keeping_next keeping_u.keeping_given keeping_u.keeping_called keeper_asks_u.keeping_read keeper_asks_u.keeping_made keeper_asks_u.keeping_calls flushing_u.flush_ask flushing_u.flush_next flushing_u.bytes_next flushing_u.flush_calls flushing_u.flush_done flushing_u.bytes_done flushing_u.count_next flushing_u.count_done serving_u.serve_ask serving_u.mailbox_from serving_u.serve_next serving_u.serve_read serving_u.mail_place world_u.life_goes moves_u.session_settled moves_u.session_asks moves_u.keeper_settled moves_u.keeper_asks past_u.history_after past_u.life_past runs_u.run phase_words_u.phase_said
is_fixed its one other = refl

pub is_fuzzy : (its : KeeperState) (one other : SessionState) → levels_after (opened_world shape places its one other) fuzzy_begun ≡ levels 1 4
unfolding places shape session_u.sitting_ask session_u.attempts session_u.polls_at session_u.op_begun session_u.refresh_call session_u.poll_call session_u.sleep_call session_u.wake_call session_u.accepts session_u.shifts session_u.attempt_ledto session_u.catch_ledto session_u.clear_ledto session_u.finishes_request session_u.keeps_request session_u.poll_ledto session_u.turn_ledto session_u.leave_ledto session_u.sitting_next session_u.sitting_given catching_u.catching_ask catching_u.refresh_ledto catching_u.protect_ledto catching_u.latch_ledto catching_u.finish_ledto catching_u.latch_marked catching_u.catching_requests catching_u.catching_next attempting_u.attempting_ask attempting_u.look_ledto attempting_u.try_ledto attempting_u.put_ledto attempting_u.attempting_next pending_u.with_sought pending_u.with_held pending_u.with_latch pending_u.with_asked mailing_u.mail_ask mailing_u.mail_next trying_u.trying_ask trying_u.ends_so trying_u.ends trying_u.shared_ledto trying_u.appends trying_u.copies_from mark trying_u.copies trying_u.held_used trying_u.walk_ledto trying_u.current_ledto trying_u.answer_ledto trying_u.exclusive_ledto trying_u.old_ledto trying_u.append_ledto trying_u.exclusive_dropped trying_u.shared_dropped trying_u.trying_next walking_u.walking_ask walking_u.find_ledto walking_u.load_ledto walking_u.value_ledto walking_u.walking_next walking_u.walking_on appending_u.appending_ask appending_u.reserve_ledto appending_u.fill_ledto appending_u.publish_ledto appending_u.invalidate_ledto appending_u.appending_next header_words_u.header_said finding_u.find_step_ask finding_u.find_led publishing_u.publish_ask publishing_u.publish_next publishing_u.publish_next_ask slots_u.slot_word reserving_u.reserve_ask reserving_u.reserve_next reserving_u.reserve_next_ask filling_u.fill_ask filling_u.fill_next loading_u.load_ask loading_u.load_next loading_u.load_next_ask loading_u.load_on invalidating_u.invalidate_ask invalidating_u.invalidate_next moving_u.moving_ask moving_u.raise_led moving_u.arm_led moving_u.moving_next moving_u.raise_told moving_u.moving_next_ask shifting_u.shifting_ask shifting_u.shift_led shifting_u.shifting_next shifting_u.move_told shifting_u.shifting_next_ask turning_u.turning_ask turning_u.turn_led turning_u.turning_next turning_u.turn_told turning_u.turning_next_ask refreshing_u.refresh_ask refreshing_u.refresh_next refreshing_u.refresh_finish scanning_u.scan_ask scanning_u.sessions_from scanning_u.least_of scanning_u.scan_next claiming_u.claim_ask claiming_u.slot_after claiming_u.slot_armed claiming_u.claim_next claiming_u.claim_given raising_u.raise_ask raising_u.free_after raising_u.raise_next raising_u.raise_next_ask raising_u.raise_on arming_u.arm_ask arming_u.arm_next passing_u.passed maintaining_u.device_asked maintaining_u.maintaining_ask maintaining_u.scan_ledto maintaining_u.claim_ledto maintaining_u.flush_ledto maintaining_u.shift_ledto maintaining_u.serve_ledto maintaining_u.turn_ledto maintaining_u.maintaining_next maintaining_u.maintaining_given maintaining_u.maintaining_called maintaining_u.maintaining_calls maintaining_u.maintaining_made keeping_u.device_passed keeping_u.keeping_ask keeping_u.start_ledto keeping_u.maintain_ledto keeping_u.phase_ledto keeping_u.keeping_next keeping_u.keeping_given keeping_u.keeping_called keeper_asks_u.keeping_read keeper_asks_u.keeping_made keeper_asks_u.keeping_calls flushing_u.flush_ask flushing_u.flush_next flushing_u.bytes_next flushing_u.flush_calls flushing_u.flush_done flushing_u.bytes_done flushing_u.count_next flushing_u.count_done serving_u.serve_ask serving_u.mailbox_from serving_u.serve_next serving_u.serve_read serving_u.mail_place world_u.life_goes moves_u.session_settled moves_u.session_asks moves_u.keeper_settled moves_u.keeper_asks past_u.history_after past_u.life_past runs_u.run phase_words_u.phase_said
is_fuzzy its one other = refl

-- ---- sums that can't be
number_in : Reply → ℕ
number_in (Number value) = value.0
number_in (Found value) = value.0
number_in other = 0

not_13 : Number (record { 0 = 75 }) ≡ Number (record { 0 = 13 }) → ⊥
unfolding number_in
not_13 is = let same : 75 ≡ 13 = ap number_in is in omega (arith, same)

pub not_80 : Number (record { 0 = 75 }) ≡ Number (record { 0 = 80 }) → ⊥
unfolding number_in
not_80 is = let same : 75 ≡ 80 = ap number_in is in omega (arith, same)

pub wrong_in_place : (its : KeeperState) (one other : SessionState) → LeavesLegal (run_by in_place_below_seen_read_only (opened_world shape places its one other) fixed_events) → ⊥
unfolding places shape session_u.sitting_ask session_u.attempts session_u.polls_at session_u.op_begun session_u.refresh_call session_u.poll_call session_u.sleep_call session_u.wake_call session_u.accepts session_u.shifts session_u.attempt_ledto session_u.catch_ledto session_u.clear_ledto session_u.finishes_request session_u.keeps_request session_u.poll_ledto session_u.turn_ledto session_u.leave_ledto session_u.sitting_next session_u.sitting_given catching_u.catching_ask catching_u.refresh_ledto catching_u.protect_ledto catching_u.latch_ledto catching_u.finish_ledto catching_u.latch_marked catching_u.catching_requests catching_u.catching_next attempting_u.attempting_ask attempting_u.look_ledto attempting_u.try_ledto attempting_u.put_ledto attempting_u.attempting_next pending_u.with_sought pending_u.with_held pending_u.with_latch pending_u.with_asked mailing_u.mail_ask mailing_u.mail_next trying_u.trying_ask trying_u.ends_so trying_u.ends trying_u.shared_ledto trying_u.appends trying_u.copies_from mark trying_u.copies trying_u.held_used trying_u.walk_ledto trying_u.current_ledto trying_u.answer_ledto trying_u.exclusive_ledto trying_u.old_ledto trying_u.append_ledto trying_u.exclusive_dropped trying_u.shared_dropped trying_u.trying_next walking_u.walking_ask walking_u.find_ledto walking_u.load_ledto walking_u.value_ledto walking_u.walking_next walking_u.walking_on appending_u.appending_ask appending_u.reserve_ledto appending_u.fill_ledto appending_u.publish_ledto appending_u.invalidate_ledto appending_u.appending_next header_words_u.header_said finding_u.find_step_ask finding_u.find_led publishing_u.publish_ask publishing_u.publish_next publishing_u.publish_next_ask slots_u.slot_word reserving_u.reserve_ask reserving_u.reserve_next reserving_u.reserve_next_ask filling_u.fill_ask filling_u.fill_next loading_u.load_ask loading_u.load_next loading_u.load_next_ask loading_u.load_on invalidating_u.invalidate_ask invalidating_u.invalidate_next moving_u.moving_ask moving_u.raise_led moving_u.arm_led moving_u.moving_next moving_u.raise_told moving_u.moving_next_ask shifting_u.shifting_ask shifting_u.shift_led shifting_u.shifting_next shifting_u.move_told shifting_u.shifting_next_ask turning_u.turning_ask turning_u.turn_led turning_u.turning_next turning_u.turn_told turning_u.turning_next_ask refreshing_u.refresh_ask refreshing_u.refresh_next refreshing_u.refresh_finish scanning_u.scan_ask scanning_u.sessions_from scanning_u.least_of scanning_u.scan_next claiming_u.claim_ask claiming_u.slot_after claiming_u.slot_armed claiming_u.claim_next claiming_u.claim_given raising_u.raise_ask raising_u.free_after raising_u.raise_next raising_u.raise_next_ask raising_u.raise_on arming_u.arm_ask arming_u.arm_next passing_u.passed maintaining_u.device_asked maintaining_u.maintaining_ask maintaining_u.scan_ledto maintaining_u.claim_ledto maintaining_u.flush_ledto maintaining_u.shift_ledto maintaining_u.serve_ledto maintaining_u.turn_ledto maintaining_u.maintaining_next maintaining_u.maintaining_given maintaining_u.maintaining_called maintaining_u.maintaining_calls maintaining_u.maintaining_made keeping_u.device_passed keeping_u.keeping_ask keeping_u.start_ledto keeping_u.maintain_ledto keeping_u.phase_ledto keeping_u.keeping_next keeping_u.keeping_given keeping_u.keeping_called keeper_asks_u.keeping_read keeper_asks_u.keeping_made keeper_asks_u.keeping_calls flushing_u.flush_ask flushing_u.flush_next flushing_u.bytes_next flushing_u.flush_calls flushing_u.flush_done flushing_u.bytes_done flushing_u.count_next flushing_u.count_done serving_u.serve_ask serving_u.mailbox_from serving_u.serve_next serving_u.serve_read serving_u.mail_place world_u.life_goes moves_u.session_settled moves_u.session_asks moves_u.keeper_settled moves_u.keeper_asks past_u.history_after past_u.life_past runs_u.run phase_words_u.phase_said run_by
wrong_in_place its one other legal = not_13 (legal_each no_map (history_of (effects_in_log (run_by in_place_below_seen_read_only (opened_world shape places its one other) fixed_events).past.history)) legal 5).1.1.0

-- by the right table session 0's addition isn't done yet
fixed_history : List HistoryEntry
fixed_history = entry_of 0 1 gives_70 Nothing ∷ entry_of 0 2 (gives_1 6) Nothing ∷ entry_of 0 3 (gives_1 7) Nothing ∷ entry_of 1 1 gives_8 Nothing ∷ []

is_fixed_history : (its : KeeperState) (one other : SessionState) → history_of (effects_in_log (run (opened_world shape places its one other) fixed_events).past.history) ≡ fixed_history
unfolding places shape session_u.sitting_ask session_u.attempts session_u.polls_at session_u.op_begun session_u.refresh_call session_u.poll_call session_u.sleep_call session_u.wake_call session_u.accepts session_u.shifts session_u.attempt_ledto session_u.catch_ledto session_u.clear_ledto session_u.finishes_request session_u.keeps_request session_u.poll_ledto session_u.turn_ledto session_u.leave_ledto session_u.sitting_next session_u.sitting_given catching_u.catching_ask catching_u.refresh_ledto catching_u.protect_ledto catching_u.latch_ledto catching_u.finish_ledto catching_u.latch_marked catching_u.catching_requests catching_u.catching_next attempting_u.attempting_ask attempting_u.look_ledto attempting_u.try_ledto attempting_u.put_ledto attempting_u.attempting_next pending_u.with_sought pending_u.with_held pending_u.with_latch pending_u.with_asked mailing_u.mail_ask mailing_u.mail_next trying_u.trying_ask trying_u.ends_so trying_u.ends trying_u.shared_ledto trying_u.appends trying_u.copies_from mark trying_u.copies trying_u.held_used trying_u.walk_ledto trying_u.current_ledto trying_u.answer_ledto trying_u.exclusive_ledto trying_u.old_ledto trying_u.append_ledto trying_u.exclusive_dropped trying_u.shared_dropped trying_u.trying_next walking_u.walking_ask walking_u.find_ledto walking_u.load_ledto walking_u.value_ledto walking_u.walking_next walking_u.walking_on appending_u.appending_ask appending_u.reserve_ledto appending_u.fill_ledto appending_u.publish_ledto appending_u.invalidate_ledto appending_u.appending_next header_words_u.header_said finding_u.find_step_ask finding_u.find_led publishing_u.publish_ask publishing_u.publish_next publishing_u.publish_next_ask slots_u.slot_word reserving_u.reserve_ask reserving_u.reserve_next reserving_u.reserve_next_ask filling_u.fill_ask filling_u.fill_next loading_u.load_ask loading_u.load_next loading_u.load_next_ask loading_u.load_on invalidating_u.invalidate_ask invalidating_u.invalidate_next moving_u.moving_ask moving_u.raise_led moving_u.arm_led moving_u.moving_next moving_u.raise_told moving_u.moving_next_ask shifting_u.shifting_ask shifting_u.shift_led shifting_u.shifting_next shifting_u.move_told shifting_u.shifting_next_ask turning_u.turning_ask turning_u.turn_led turning_u.turning_next turning_u.turn_told turning_u.turning_next_ask refreshing_u.refresh_ask refreshing_u.refresh_next refreshing_u.refresh_finish scanning_u.scan_ask scanning_u.sessions_from scanning_u.least_of scanning_u.scan_next claiming_u.claim_ask claiming_u.slot_after claiming_u.slot_armed claiming_u.claim_next claiming_u.claim_given raising_u.raise_ask raising_u.free_after raising_u.raise_next raising_u.raise_next_ask raising_u.raise_on arming_u.arm_ask arming_u.arm_next passing_u.passed maintaining_u.device_asked maintaining_u.maintaining_ask maintaining_u.scan_ledto maintaining_u.claim_ledto maintaining_u.flush_ledto maintaining_u.shift_ledto maintaining_u.serve_ledto maintaining_u.turn_ledto maintaining_u.maintaining_next maintaining_u.maintaining_given maintaining_u.maintaining_called maintaining_u.maintaining_calls maintaining_u.maintaining_made keeping_u.device_passed keeping_u.keeping_ask keeping_u.start_ledto keeping_u.maintain_ledto keeping_u.phase_ledto keeping_u.keeping_next keeping_u.keeping_given keeping_u.keeping_called keeper_asks_u.keeping_read keeper_asks_u.keeping_made keeper_asks_u.keeping_calls flushing_u.flush_ask flushing_u.flush_next flushing_u.bytes_next flushing_u.flush_calls flushing_u.flush_done flushing_u.bytes_done flushing_u.count_next flushing_u.count_done serving_u.serve_ask serving_u.mailbox_from serving_u.serve_next serving_u.serve_read serving_u.mail_place world_u.life_goes moves_u.session_settled moves_u.session_asks moves_u.keeper_settled moves_u.keeper_asks past_u.history_after past_u.life_past runs_u.run phase_words_u.phase_said fixed_history
is_fixed_history its one other = refl

fixed_legal : IsLegal no_map fixed_history
unfolding fixed_history
fixed_legal = (refl, (refl, (refl, (refl, tt))))

pub right_in_place : (its : KeeperState) (one other : SessionState) → LeavesLegal (run (opened_world shape places its one other) fixed_events)
right_in_place its one other = subst (IsLegal no_map) (sym (is_fixed_history its one other)) fixed_legal

pub wrong_copied : (its : KeeperState) (one other : SessionState) → LeavesLegal (run_by add_copies_in_fuzzy_region (opened_world shape places its one other) fuzzy_events) → ⊥
unfolding places shape session_u.sitting_ask session_u.attempts session_u.polls_at session_u.op_begun session_u.refresh_call session_u.poll_call session_u.sleep_call session_u.wake_call session_u.accepts session_u.shifts session_u.attempt_ledto session_u.catch_ledto session_u.clear_ledto session_u.finishes_request session_u.keeps_request session_u.poll_ledto session_u.turn_ledto session_u.leave_ledto session_u.sitting_next session_u.sitting_given catching_u.catching_ask catching_u.refresh_ledto catching_u.protect_ledto catching_u.latch_ledto catching_u.finish_ledto catching_u.latch_marked catching_u.catching_requests catching_u.catching_next attempting_u.attempting_ask attempting_u.look_ledto attempting_u.try_ledto attempting_u.put_ledto attempting_u.attempting_next pending_u.with_sought pending_u.with_held pending_u.with_latch pending_u.with_asked mailing_u.mail_ask mailing_u.mail_next trying_u.trying_ask trying_u.ends_so trying_u.ends trying_u.shared_ledto trying_u.appends trying_u.copies_from mark trying_u.copies trying_u.held_used trying_u.walk_ledto trying_u.current_ledto trying_u.answer_ledto trying_u.exclusive_ledto trying_u.old_ledto trying_u.append_ledto trying_u.exclusive_dropped trying_u.shared_dropped trying_u.trying_next walking_u.walking_ask walking_u.find_ledto walking_u.load_ledto walking_u.value_ledto walking_u.walking_next walking_u.walking_on appending_u.appending_ask appending_u.reserve_ledto appending_u.fill_ledto appending_u.publish_ledto appending_u.invalidate_ledto appending_u.appending_next header_words_u.header_said finding_u.find_step_ask finding_u.find_led publishing_u.publish_ask publishing_u.publish_next publishing_u.publish_next_ask slots_u.slot_word reserving_u.reserve_ask reserving_u.reserve_next reserving_u.reserve_next_ask filling_u.fill_ask filling_u.fill_next loading_u.load_ask loading_u.load_next loading_u.load_next_ask loading_u.load_on invalidating_u.invalidate_ask invalidating_u.invalidate_next moving_u.moving_ask moving_u.raise_led moving_u.arm_led moving_u.moving_next moving_u.raise_told moving_u.moving_next_ask shifting_u.shifting_ask shifting_u.shift_led shifting_u.shifting_next shifting_u.move_told shifting_u.shifting_next_ask turning_u.turning_ask turning_u.turn_led turning_u.turning_next turning_u.turn_told turning_u.turning_next_ask refreshing_u.refresh_ask refreshing_u.refresh_next refreshing_u.refresh_finish scanning_u.scan_ask scanning_u.sessions_from scanning_u.least_of scanning_u.scan_next claiming_u.claim_ask claiming_u.slot_after claiming_u.slot_armed claiming_u.claim_next claiming_u.claim_given raising_u.raise_ask raising_u.free_after raising_u.raise_next raising_u.raise_next_ask raising_u.raise_on arming_u.arm_ask arming_u.arm_next passing_u.passed maintaining_u.device_asked maintaining_u.maintaining_ask maintaining_u.scan_ledto maintaining_u.claim_ledto maintaining_u.flush_ledto maintaining_u.shift_ledto maintaining_u.serve_ledto maintaining_u.turn_ledto maintaining_u.maintaining_next maintaining_u.maintaining_given maintaining_u.maintaining_called maintaining_u.maintaining_calls maintaining_u.maintaining_made keeping_u.device_passed keeping_u.keeping_ask keeping_u.start_ledto keeping_u.maintain_ledto keeping_u.phase_ledto keeping_u.keeping_next keeping_u.keeping_given keeping_u.keeping_called keeper_asks_u.keeping_read keeper_asks_u.keeping_made keeper_asks_u.keeping_calls flushing_u.flush_ask flushing_u.flush_next flushing_u.bytes_next flushing_u.flush_calls flushing_u.flush_done flushing_u.bytes_done flushing_u.count_next flushing_u.count_done serving_u.serve_ask serving_u.mailbox_from serving_u.serve_next serving_u.serve_read serving_u.mail_place world_u.life_goes moves_u.session_settled moves_u.session_asks moves_u.keeper_settled moves_u.keeper_asks past_u.history_after past_u.life_past runs_u.run phase_words_u.phase_said run_by
wrong_copied its one other legal = not_80 (legal_each no_map (history_of (effects_in_log (run_by add_copies_in_fuzzy_region (opened_world shape places its one other) fuzzy_events).past.history)) legal 5).1.1.0

-- the sum is that of the value that was given
abbrev one_given : Map
one_given = applied no_map gives_70

abbrev two_given : Map
two_given = applied one_given (gives_1 6)

the_sum : Number (record { 0 = 75 }) ≡ reply_to (applied two_given (gives_1 7)) adds_5
the_sum = sym (reply_to_is (applied two_given (gives_1 7)) adds_5
    ∙ ap (λ old. reply_from old adds_5) (get-applied two_given (gives_1 7) 5 ∙ get-applied one_given (gives_1 6) 5 ∙ get-applied no_map gives_70 5))

-- and session 1's waits
unfoldable pub fuzzy_history : List HistoryEntry
fuzzy_history = entry_of 0 1 gives_70 Nothing ∷ entry_of 0 2 (gives_1 6) Nothing ∷ entry_of 0 3 (gives_1 7) Nothing ∷ entry_of 0 4 adds_5 (Number (record { 0 = 75 })) ∷ []

pub is_fuzzy_history : (its : KeeperState) (one other : SessionState) → history_of (effects_in_log (run (opened_world shape places its one other) fuzzy_events).past.history) ≡ fuzzy_history
unfolding places shape session_u.sitting_ask session_u.attempts session_u.polls_at session_u.op_begun session_u.refresh_call session_u.poll_call session_u.sleep_call session_u.wake_call session_u.accepts session_u.shifts session_u.attempt_ledto session_u.catch_ledto session_u.clear_ledto session_u.finishes_request session_u.keeps_request session_u.poll_ledto session_u.turn_ledto session_u.leave_ledto session_u.sitting_next session_u.sitting_given catching_u.catching_ask catching_u.refresh_ledto catching_u.protect_ledto catching_u.latch_ledto catching_u.finish_ledto catching_u.latch_marked catching_u.catching_requests catching_u.catching_next attempting_u.attempting_ask attempting_u.look_ledto attempting_u.try_ledto attempting_u.put_ledto attempting_u.attempting_next pending_u.with_sought pending_u.with_held pending_u.with_latch pending_u.with_asked mailing_u.mail_ask mailing_u.mail_next trying_u.trying_ask trying_u.ends_so trying_u.ends trying_u.shared_ledto trying_u.appends trying_u.copies_from mark trying_u.copies trying_u.held_used trying_u.walk_ledto trying_u.current_ledto trying_u.answer_ledto trying_u.exclusive_ledto trying_u.old_ledto trying_u.append_ledto trying_u.exclusive_dropped trying_u.shared_dropped trying_u.trying_next walking_u.walking_ask walking_u.find_ledto walking_u.load_ledto walking_u.value_ledto walking_u.walking_next walking_u.walking_on appending_u.appending_ask appending_u.reserve_ledto appending_u.fill_ledto appending_u.publish_ledto appending_u.invalidate_ledto appending_u.appending_next header_words_u.header_said finding_u.find_step_ask finding_u.find_led publishing_u.publish_ask publishing_u.publish_next publishing_u.publish_next_ask slots_u.slot_word reserving_u.reserve_ask reserving_u.reserve_next reserving_u.reserve_next_ask filling_u.fill_ask filling_u.fill_next loading_u.load_ask loading_u.load_next loading_u.load_next_ask loading_u.load_on invalidating_u.invalidate_ask invalidating_u.invalidate_next moving_u.moving_ask moving_u.raise_led moving_u.arm_led moving_u.moving_next moving_u.raise_told moving_u.moving_next_ask shifting_u.shifting_ask shifting_u.shift_led shifting_u.shifting_next shifting_u.move_told shifting_u.shifting_next_ask turning_u.turning_ask turning_u.turn_led turning_u.turning_next turning_u.turn_told turning_u.turning_next_ask refreshing_u.refresh_ask refreshing_u.refresh_next refreshing_u.refresh_finish scanning_u.scan_ask scanning_u.sessions_from scanning_u.least_of scanning_u.scan_next claiming_u.claim_ask claiming_u.slot_after claiming_u.slot_armed claiming_u.claim_next claiming_u.claim_given raising_u.raise_ask raising_u.free_after raising_u.raise_next raising_u.raise_next_ask raising_u.raise_on arming_u.arm_ask arming_u.arm_next passing_u.passed maintaining_u.device_asked maintaining_u.maintaining_ask maintaining_u.scan_ledto maintaining_u.claim_ledto maintaining_u.flush_ledto maintaining_u.shift_ledto maintaining_u.serve_ledto maintaining_u.turn_ledto maintaining_u.maintaining_next maintaining_u.maintaining_given maintaining_u.maintaining_called maintaining_u.maintaining_calls maintaining_u.maintaining_made keeping_u.device_passed keeping_u.keeping_ask keeping_u.start_ledto keeping_u.maintain_ledto keeping_u.phase_ledto keeping_u.keeping_next keeping_u.keeping_given keeping_u.keeping_called keeper_asks_u.keeping_read keeper_asks_u.keeping_made keeper_asks_u.keeping_calls flushing_u.flush_ask flushing_u.flush_next flushing_u.bytes_next flushing_u.flush_calls flushing_u.flush_done flushing_u.bytes_done flushing_u.count_next flushing_u.count_done serving_u.serve_ask serving_u.mailbox_from serving_u.serve_next serving_u.serve_read serving_u.mail_place world_u.life_goes moves_u.session_settled moves_u.session_asks moves_u.keeper_settled moves_u.keeper_asks past_u.history_after past_u.life_past runs_u.run phase_words_u.phase_said fuzzy_history
is_fuzzy_history its one other = refl

fuzzy_legal : IsLegal no_map fuzzy_history
unfolding fuzzy_history
fuzzy_legal = (refl, (refl, (refl, (the_sum, tt))))

pub right_copied : (its : KeeperState) (one other : SessionState) → LeavesLegal (run (opened_world shape places its one other) fuzzy_events)
right_copied its one other = subst (IsLegal no_map) (sym (is_fuzzy_history its one other)) fuzzy_legal

-- ---- the read
unfoldable pub effect_70 : Effect
effect_70 = record { entry = entry_of 0 1 gives_70 Nothing; version = 1 }

not_absent : Absent ≡ Found (record { 0 = 70 }) → ⊥
unfolding number_in
not_absent is = let same : 0 ≡ 70 = ap number_in is in omega (arith, same)

pub gives_value : value_in no_map (effect_70 ∷ []) 5 ≡ Some 70
unfolding effect_70
gives_value = content_one_more no_map [] (entry_of 0 1 gives_70 Nothing) 5

-- what was told had taken effect before the read was called, so its value is the key's
not_stale : (newer older : List Effect) → effect_70 ∷ [] ≡ newer ++ older → Absent ≡ reply_to_read (value_in no_map older 5) → HasUpdate older 0 1 → ⊥
not_stale [] older all value has = not_absent (value ∙ ap (λ h. reply_to_read (value_in no_map h 5)) (sym all) ∙ ap reply_to_read gives_value)
not_stale (x ∷ []) older all value has = let none : [] ≡ older = cc in subst (IsIn has.effect) (sym none) has.is_in
not_stale (x ∷ y ∷ newer) older all value has = let none : [] ≡ y ∷ (newer ++ older) = cc in no_place y (newer ++ older) none
  where
    no_place : (y : Effect) (rest : List Effect) → [] ≡ y ∷ rest → ⊥
    no_place y rest is = cc

pub wrong_stale : (its : KeeperState) (one other : SessionState) → LeavesFresh (run_by read_gives_opening_state (opened_world shape places its one other) read_events) → ⊥
unfolding places shape session_u.sitting_ask session_u.attempts session_u.polls_at session_u.op_begun session_u.refresh_call session_u.poll_call session_u.sleep_call session_u.wake_call session_u.accepts session_u.shifts session_u.attempt_ledto session_u.catch_ledto session_u.clear_ledto session_u.finishes_request session_u.keeps_request session_u.poll_ledto session_u.turn_ledto session_u.leave_ledto session_u.sitting_next session_u.sitting_given catching_u.catching_ask catching_u.refresh_ledto catching_u.protect_ledto catching_u.latch_ledto catching_u.finish_ledto catching_u.latch_marked catching_u.catching_requests catching_u.catching_next attempting_u.attempting_ask attempting_u.look_ledto attempting_u.try_ledto attempting_u.put_ledto attempting_u.attempting_next pending_u.with_sought pending_u.with_held pending_u.with_latch pending_u.with_asked mailing_u.mail_ask mailing_u.mail_next trying_u.trying_ask trying_u.ends_so trying_u.ends trying_u.shared_ledto trying_u.appends trying_u.copies_from mark trying_u.copies trying_u.held_used trying_u.walk_ledto trying_u.current_ledto trying_u.answer_ledto trying_u.exclusive_ledto trying_u.old_ledto trying_u.append_ledto trying_u.exclusive_dropped trying_u.shared_dropped trying_u.trying_next walking_u.walking_ask walking_u.find_ledto walking_u.load_ledto walking_u.value_ledto walking_u.walking_next walking_u.walking_on appending_u.appending_ask appending_u.reserve_ledto appending_u.fill_ledto appending_u.publish_ledto appending_u.invalidate_ledto appending_u.appending_next header_words_u.header_said finding_u.find_step_ask finding_u.find_led publishing_u.publish_ask publishing_u.publish_next publishing_u.publish_next_ask slots_u.slot_word reserving_u.reserve_ask reserving_u.reserve_next reserving_u.reserve_next_ask filling_u.fill_ask filling_u.fill_next loading_u.load_ask loading_u.load_next loading_u.load_next_ask loading_u.load_on invalidating_u.invalidate_ask invalidating_u.invalidate_next moving_u.moving_ask moving_u.raise_led moving_u.arm_led moving_u.moving_next moving_u.raise_told moving_u.moving_next_ask shifting_u.shifting_ask shifting_u.shift_led shifting_u.shifting_next shifting_u.move_told shifting_u.shifting_next_ask turning_u.turning_ask turning_u.turn_led turning_u.turning_next turning_u.turn_told turning_u.turning_next_ask refreshing_u.refresh_ask refreshing_u.refresh_next refreshing_u.refresh_finish scanning_u.scan_ask scanning_u.sessions_from scanning_u.least_of scanning_u.scan_next claiming_u.claim_ask claiming_u.slot_after claiming_u.slot_armed claiming_u.claim_next claiming_u.claim_given raising_u.raise_ask raising_u.free_after raising_u.raise_next raising_u.raise_next_ask raising_u.raise_on arming_u.arm_ask arming_u.arm_next passing_u.passed maintaining_u.device_asked maintaining_u.maintaining_ask maintaining_u.scan_ledto maintaining_u.claim_ledto maintaining_u.flush_ledto maintaining_u.shift_ledto maintaining_u.serve_ledto maintaining_u.turn_ledto maintaining_u.maintaining_next maintaining_u.maintaining_given maintaining_u.maintaining_called maintaining_u.maintaining_calls maintaining_u.maintaining_made keeping_u.device_passed keeping_u.keeping_ask keeping_u.start_ledto keeping_u.maintain_ledto keeping_u.phase_ledto keeping_u.keeping_next keeping_u.keeping_given keeping_u.keeping_called keeper_asks_u.keeping_read keeper_asks_u.keeping_made keeper_asks_u.keeping_calls flushing_u.flush_ask flushing_u.flush_next flushing_u.bytes_next flushing_u.flush_calls flushing_u.flush_done flushing_u.bytes_done flushing_u.count_next flushing_u.count_done serving_u.serve_ask serving_u.mailbox_from serving_u.serve_next serving_u.serve_read serving_u.mail_place world_u.life_goes moves_u.session_settled moves_u.session_asks moves_u.keeper_settled moves_u.keeper_asks past_u.history_after past_u.life_past runs_u.run phase_words_u.phase_said run_by lines_of effect_70
wrong_stale its one other reads =
    let fresh = reads.fresh [] [] (GivesResult 0 1 Nothing ∷ CallsUpdate 0 1 gives_70 ∷ []) 2 5 Absent refl in
    not_stale fresh.newer fresh.older fresh.all fresh.value (fresh.given_before 0 1 Nothing (inl refl))
