-- The lives in which the clauses on commits' numbers, points and tellings fail, and on reads in time, by computing them.
use Rattle.std.proofs.Common.{◌≡◌, inl, inr, ℕ, ◌≤◌, ◌∙◌, List, [], ◌∷◌, ◌++◌, refl, sym, ap, subst, arith, length, map}
use Rattle.std.specs.Prelude.{Some}
use Rattle.std.specs.FinMap.{get}
use Rattle.fkv_base.specs.declared.numbers.Serial.{Serial}
use Rattle.fkv_marks.specs.Marks.{mark}
use Rattle.law_order.specs.Below.fkv_keeper.Keeping.{KeeperState}
use Rattle.fkv_map.proofs.Shown.{content_one_more}
use Rattle.fkv_map.specs.History.{AreAtMost, content, point_of}
use Rattle.fkv_map.specs.Map.{reply_to_read}
use Rattle.fkv_map.specs.declared.history.HistoryEntry.{HistoryEntry}
use Rattle.fkv_map.specs.declared.operations.Reply.{Reply}
use Rattle.fkv_map.specs.declared.operations.Reply.TheVariants.{Absent, Found, Nothing}
use Rattle.law_order.specs.Below.fkv_session.Sessions.{SessionState}
use Rattle.law_order.specs.Below.fkv_world.Runs.{World}
use Rattle.law_order.specs.Below.law_commit.BegunCommits.{AreInTurn, BegunCommit}
use Rattle.law_order.specs.Below.law_commit.FinishedCommits.{ToldCommit, commits_finished, commits_told, told_of}
use Rattle.law_order.specs.Below.law_refine.Calls.Calls.{effects_in_log}
use Rattle.law_order.specs.Below.law_refine.Events.Lines.{lines_of}
use Rattle.law_log.specs.Trace.{AnswersRead, CallsRead, CallsUpdate, GivesResult, IsIn, TraceLine, history_of}
use Rattle.law_log.specs.Worked.{entry_of, gives_70, no_map}
use Rattle.law_order.specs.Rules.InTime.{IsInTime}
use Rattle.law_order.proofs.OfOneHistory.WorkedShape.{places, shape}
use Rattle.law_wrong_runs.specs.Tables.{commit_is_written_at_once, commit_skips_a_number, each_turn_tells_a_finish, read_gives_opening_state, right_tables, run_by}
use Rattle.law_wrong_runs.specs.WrongCommits.{given_point}
use Rattle.law_wrong_runs.specs.WrongLives.{opened_world, read_events}
use Rattle.law_wrong_runs.specs.WrongPrefixes.{AreWrongPrefixes, LeavesInTime, LeavesInTurn, LeavesRising, LeavesTold, begun_by_table, four_calls, kept_world, one_turn, read_begun, six_calls, with_point_kept}
use Rattle.law_wrong_runs.proofs.Computed.{places_fit, world_opened}
use Rattle.law_order.specs.Below.fkv_session.Sessions as session_u
use Rattle.law_order.specs.Below.fkv_session.CatchingUp as catching_u
use Rattle.law_order.specs.Below.fkv_pending.Attempting as attempting_u
use Rattle.law_order.specs.Below.fkv_pending.Pending as pending_u
use Rattle.law_order.specs.Below.fkv_pending.Mailing as mailing_u
use Rattle.law_order.specs.Below.fkv_ops.Trying as trying_u
use Rattle.law_order.specs.Below.fkv_ops.Walking as walking_u
use Rattle.law_order.specs.Below.fkv_ops.Appending as appending_u
use Rattle.law_order.specs.Below.fkv_ops.HeaderWords as header_words_u
use Rattle.fkv_index.specs.Finding as finding_u
use Rattle.fkv_index.specs.Publishing as publishing_u
use Rattle.fkv_index.specs.Slots as slots_u
use Rattle.law_order.specs.Below.fkv_log.Reserving as reserving_u
use Rattle.law_order.specs.Below.fkv_log.Filling as filling_u
use Rattle.law_order.specs.Below.fkv_log.Loading as loading_u
use Rattle.law_order.specs.Below.fkv_log.Invalidating as invalidating_u
use Rattle.law_order.specs.Below.fkv_log.Moving as moving_u
use Rattle.law_order.specs.Below.fkv_log.Shifting as shifting_u
use Rattle.law_order.specs.Below.fkv_log.Turning as turning_u
use Rattle.fkv_epoch.specs.Refreshing as refreshing_u
use Rattle.fkv_epoch.specs.Scanning as scanning_u
use Rattle.fkv_epoch.specs.Claiming as claiming_u
use Rattle.fkv_epoch.specs.Raising as raising_u
use Rattle.fkv_epoch.specs.Arming as arming_u
use Rattle.fkv_plane.specs.Passing as passing_u
use Rattle.law_order.specs.Below.fkv_maintain.Maintaining as maintaining_u
use Rattle.law_order.specs.Below.fkv_keeper.Keeping as keeping_u
use Rattle.law_order.specs.Below.fkv_keeper.KeeperAsks as keeper_asks_u
use Rattle.law_order.specs.Below.fkv_flush.Flushing as flushing_u
use Rattle.law_order.specs.Below.fkv_flush.Serving as serving_u
use Rattle.law_order.specs.Below.fkv_world.World as world_u
use Rattle.law_order.specs.Below.fkv_world.Moves as moves_u
use Rattle.law_order.specs.Below.fkv_world.Past as past_u
use Rattle.law_order.specs.Below.fkv_world.Runs as runs_u
use Rattle.fkv_words.specs.PhaseWords as phase_words_u
use Rattle.fkv_manifest.specs.Committing as committing_u
use Rattle.fkv_manifest.specs.Gating as gating_u
use Rattle.law_order.specs.Below.fkv_commit.Deferring as defer_u
use Rattle.law_order.specs.Below.fkv_commit.Starting as start_u
use Rattle.law_order.specs.Below.fkv_keeper.KeeperRun as keeper_run_u
use Rattle.law_order.specs.Below.fkv_world.OwnEvents as own_u
use Rattle.law_order.specs.Below.law_commit.BegunCommits as begun_u
use Rattle.law_order.specs.Below.law_commit.PrefixPast as asked_u

abbrev world : KeeperState → SessionState → SessionState → World
world its one other = kept_world shape places its one other

-- ---- a commit that is told
-- how many have finished, and how many were told
many_finished : (its : KeeperState) (one other : SessionState) → length (commits_finished (begun_by_table each_turn_tells_a_finish (world its one other) one_turn)) ≡ 1
unfolding places shape session_u.sitting_ask session_u.attempts session_u.polls_at session_u.op_begun session_u.refresh_call session_u.poll_call session_u.sleep_call session_u.wake_call session_u.accepts session_u.shifts session_u.attempt_ledto session_u.catch_ledto session_u.clear_ledto session_u.finishes_request session_u.keeps_request session_u.poll_ledto session_u.turn_ledto session_u.leave_ledto session_u.sitting_next session_u.sitting_given catching_u.catching_ask catching_u.refresh_ledto catching_u.protect_ledto catching_u.latch_ledto catching_u.finish_ledto catching_u.latch_marked catching_u.catching_requests catching_u.catching_next attempting_u.attempting_ask attempting_u.look_ledto attempting_u.try_ledto attempting_u.put_ledto attempting_u.attempting_next pending_u.with_sought pending_u.with_held pending_u.with_latch pending_u.with_asked mailing_u.mail_ask mailing_u.mail_next trying_u.trying_ask trying_u.ends_so trying_u.ends trying_u.shared_ledto trying_u.appends trying_u.copies_from mark trying_u.copies trying_u.held_used trying_u.walk_ledto trying_u.current_ledto trying_u.answer_ledto trying_u.exclusive_ledto trying_u.old_ledto trying_u.append_ledto trying_u.exclusive_dropped trying_u.shared_dropped trying_u.trying_next walking_u.walking_ask walking_u.find_ledto walking_u.load_ledto walking_u.value_ledto walking_u.walking_next walking_u.walking_on appending_u.appending_ask appending_u.reserve_ledto appending_u.fill_ledto appending_u.publish_ledto appending_u.invalidate_ledto appending_u.appending_next header_words_u.header_said finding_u.find_step_ask finding_u.find_led publishing_u.publish_ask publishing_u.publish_next publishing_u.publish_next_ask slots_u.slot_word reserving_u.reserve_ask reserving_u.reserve_next reserving_u.reserve_next_ask filling_u.fill_ask filling_u.fill_next loading_u.load_ask loading_u.load_next loading_u.load_next_ask loading_u.load_on invalidating_u.invalidate_ask invalidating_u.invalidate_next moving_u.moving_ask moving_u.raise_led moving_u.arm_led moving_u.moving_next moving_u.raise_told moving_u.moving_next_ask shifting_u.shifting_ask shifting_u.shift_led shifting_u.shifting_next shifting_u.move_told shifting_u.shifting_next_ask turning_u.turning_ask turning_u.turn_led turning_u.turning_next turning_u.turn_told turning_u.turning_next_ask refreshing_u.refresh_ask refreshing_u.refresh_next refreshing_u.refresh_finish scanning_u.scan_ask scanning_u.sessions_from scanning_u.least_of scanning_u.scan_next claiming_u.claim_ask claiming_u.slot_after claiming_u.slot_armed claiming_u.claim_next claiming_u.claim_given raising_u.raise_ask raising_u.free_after raising_u.raise_next raising_u.raise_next_ask raising_u.raise_on arming_u.arm_ask arming_u.arm_next passing_u.passed maintaining_u.device_asked maintaining_u.maintaining_ask maintaining_u.scan_ledto maintaining_u.claim_ledto maintaining_u.flush_ledto maintaining_u.shift_ledto maintaining_u.serve_ledto maintaining_u.turn_ledto maintaining_u.maintaining_next maintaining_u.maintaining_given maintaining_u.maintaining_called maintaining_u.maintaining_calls maintaining_u.maintaining_made keeping_u.device_passed keeping_u.keeping_ask keeping_u.start_ledto keeping_u.maintain_ledto keeping_u.phase_ledto keeping_u.keeping_next keeping_u.keeping_given keeping_u.keeping_called keeper_asks_u.keeping_read keeper_asks_u.keeping_made keeper_asks_u.keeping_calls flushing_u.flush_ask flushing_u.flush_next flushing_u.bytes_next flushing_u.flush_calls flushing_u.flush_done flushing_u.bytes_done flushing_u.count_next flushing_u.count_done serving_u.serve_ask serving_u.mailbox_from serving_u.serve_next serving_u.serve_read serving_u.mail_place world_u.life_goes moves_u.session_settled moves_u.session_asks moves_u.keeper_settled moves_u.keeper_asks past_u.history_after past_u.life_past runs_u.run phase_words_u.phase_said run_by defer_u.deferring_ask defer_u.seek_ledto defer_u.raise_ledto defer_u.arm_ledto defer_u.deferring_next defer_u.deferring_on start_u.starting_ask start_u.seek_led start_u.defer_led start_u.starting_next keeper_run_u.keeper_happens keeper_run_u.keeper_run own_u.keeper_slots own_u.keeper_steps own_u.keeper_part own_u.keeper_events begun_u.commits_begun asked_u.serials_asked begun_by_table
many_finished its one other = refl

many_told : (its : KeeperState) (one other : SessionState) → length (commits_told (run_by each_turn_tells_a_finish (world its one other) one_turn).past.trace (told_of (world its one other).now.keeper.last ∷ [])) ≡ 2
unfolding places shape session_u.sitting_ask session_u.attempts session_u.polls_at session_u.op_begun session_u.refresh_call session_u.poll_call session_u.sleep_call session_u.wake_call session_u.accepts session_u.shifts session_u.attempt_ledto session_u.catch_ledto session_u.clear_ledto session_u.finishes_request session_u.keeps_request session_u.poll_ledto session_u.turn_ledto session_u.leave_ledto session_u.sitting_next session_u.sitting_given catching_u.catching_ask catching_u.refresh_ledto catching_u.protect_ledto catching_u.latch_ledto catching_u.finish_ledto catching_u.latch_marked catching_u.catching_requests catching_u.catching_next attempting_u.attempting_ask attempting_u.look_ledto attempting_u.try_ledto attempting_u.put_ledto attempting_u.attempting_next pending_u.with_sought pending_u.with_held pending_u.with_latch pending_u.with_asked mailing_u.mail_ask mailing_u.mail_next trying_u.trying_ask trying_u.ends_so trying_u.ends trying_u.shared_ledto trying_u.appends trying_u.copies_from mark trying_u.copies trying_u.held_used trying_u.walk_ledto trying_u.current_ledto trying_u.answer_ledto trying_u.exclusive_ledto trying_u.old_ledto trying_u.append_ledto trying_u.exclusive_dropped trying_u.shared_dropped trying_u.trying_next walking_u.walking_ask walking_u.find_ledto walking_u.load_ledto walking_u.value_ledto walking_u.walking_next walking_u.walking_on appending_u.appending_ask appending_u.reserve_ledto appending_u.fill_ledto appending_u.publish_ledto appending_u.invalidate_ledto appending_u.appending_next header_words_u.header_said finding_u.find_step_ask finding_u.find_led publishing_u.publish_ask publishing_u.publish_next publishing_u.publish_next_ask slots_u.slot_word reserving_u.reserve_ask reserving_u.reserve_next reserving_u.reserve_next_ask filling_u.fill_ask filling_u.fill_next loading_u.load_ask loading_u.load_next loading_u.load_next_ask loading_u.load_on invalidating_u.invalidate_ask invalidating_u.invalidate_next moving_u.moving_ask moving_u.raise_led moving_u.arm_led moving_u.moving_next moving_u.raise_told moving_u.moving_next_ask shifting_u.shifting_ask shifting_u.shift_led shifting_u.shifting_next shifting_u.move_told shifting_u.shifting_next_ask turning_u.turning_ask turning_u.turn_led turning_u.turning_next turning_u.turn_told turning_u.turning_next_ask refreshing_u.refresh_ask refreshing_u.refresh_next refreshing_u.refresh_finish scanning_u.scan_ask scanning_u.sessions_from scanning_u.least_of scanning_u.scan_next claiming_u.claim_ask claiming_u.slot_after claiming_u.slot_armed claiming_u.claim_next claiming_u.claim_given raising_u.raise_ask raising_u.free_after raising_u.raise_next raising_u.raise_next_ask raising_u.raise_on arming_u.arm_ask arming_u.arm_next passing_u.passed maintaining_u.device_asked maintaining_u.maintaining_ask maintaining_u.scan_ledto maintaining_u.claim_ledto maintaining_u.flush_ledto maintaining_u.shift_ledto maintaining_u.serve_ledto maintaining_u.turn_ledto maintaining_u.maintaining_next maintaining_u.maintaining_given maintaining_u.maintaining_called maintaining_u.maintaining_calls maintaining_u.maintaining_made keeping_u.device_passed keeping_u.keeping_ask keeping_u.start_ledto keeping_u.maintain_ledto keeping_u.phase_ledto keeping_u.keeping_next keeping_u.keeping_given keeping_u.keeping_called keeper_asks_u.keeping_read keeper_asks_u.keeping_made keeper_asks_u.keeping_calls flushing_u.flush_ask flushing_u.flush_next flushing_u.bytes_next flushing_u.flush_calls flushing_u.flush_done flushing_u.bytes_done flushing_u.count_next flushing_u.count_done serving_u.serve_ask serving_u.mailbox_from serving_u.serve_next serving_u.serve_read serving_u.mail_place world_u.life_goes moves_u.session_settled moves_u.session_asks moves_u.keeper_settled moves_u.keeper_asks past_u.history_after past_u.life_past runs_u.run phase_words_u.phase_said run_by defer_u.deferring_ask defer_u.seek_ledto defer_u.raise_ledto defer_u.arm_ledto defer_u.deferring_next defer_u.deferring_on start_u.starting_ask start_u.seek_led start_u.defer_led start_u.starting_next keeper_run_u.keeper_happens keeper_run_u.keeper_run own_u.keeper_slots own_u.keeper_steps own_u.keeper_part own_u.keeper_events begun_u.commits_begun asked_u.serials_asked begun_by_table
many_told its one other = refl

wrong_told : (its : KeeperState) (one other : SessionState) → LeavesTold each_turn_tells_a_finish (world its one other) one_turn → ⊥
wrong_told its one other told =
    let same = ap (λ (commits : List ToldCommit). length commits) told in
    omega (arith, same, many_finished its one other, many_told its one other)

abbrev first_told : ToldCommit
first_told = record { number = record { 0 = 0 }; points = given_point }

right_finished : (its : KeeperState) (one other : SessionState) → commits_finished (begun_by_table right_tables (world its one other) one_turn) ≡ first_told ∷ []
unfolding places shape session_u.sitting_ask session_u.attempts session_u.polls_at session_u.op_begun session_u.refresh_call session_u.poll_call session_u.sleep_call session_u.wake_call session_u.accepts session_u.shifts session_u.attempt_ledto session_u.catch_ledto session_u.clear_ledto session_u.finishes_request session_u.keeps_request session_u.poll_ledto session_u.turn_ledto session_u.leave_ledto session_u.sitting_next session_u.sitting_given catching_u.catching_ask catching_u.refresh_ledto catching_u.protect_ledto catching_u.latch_ledto catching_u.finish_ledto catching_u.latch_marked catching_u.catching_requests catching_u.catching_next attempting_u.attempting_ask attempting_u.look_ledto attempting_u.try_ledto attempting_u.put_ledto attempting_u.attempting_next pending_u.with_sought pending_u.with_held pending_u.with_latch pending_u.with_asked mailing_u.mail_ask mailing_u.mail_next trying_u.trying_ask trying_u.ends_so trying_u.ends trying_u.shared_ledto trying_u.appends trying_u.copies_from mark trying_u.copies trying_u.held_used trying_u.walk_ledto trying_u.current_ledto trying_u.answer_ledto trying_u.exclusive_ledto trying_u.old_ledto trying_u.append_ledto trying_u.exclusive_dropped trying_u.shared_dropped trying_u.trying_next walking_u.walking_ask walking_u.find_ledto walking_u.load_ledto walking_u.value_ledto walking_u.walking_next walking_u.walking_on appending_u.appending_ask appending_u.reserve_ledto appending_u.fill_ledto appending_u.publish_ledto appending_u.invalidate_ledto appending_u.appending_next header_words_u.header_said finding_u.find_step_ask finding_u.find_led publishing_u.publish_ask publishing_u.publish_next publishing_u.publish_next_ask slots_u.slot_word reserving_u.reserve_ask reserving_u.reserve_next reserving_u.reserve_next_ask filling_u.fill_ask filling_u.fill_next loading_u.load_ask loading_u.load_next loading_u.load_next_ask loading_u.load_on invalidating_u.invalidate_ask invalidating_u.invalidate_next moving_u.moving_ask moving_u.raise_led moving_u.arm_led moving_u.moving_next moving_u.raise_told moving_u.moving_next_ask shifting_u.shifting_ask shifting_u.shift_led shifting_u.shifting_next shifting_u.move_told shifting_u.shifting_next_ask turning_u.turning_ask turning_u.turn_led turning_u.turning_next turning_u.turn_told turning_u.turning_next_ask refreshing_u.refresh_ask refreshing_u.refresh_next refreshing_u.refresh_finish scanning_u.scan_ask scanning_u.sessions_from scanning_u.least_of scanning_u.scan_next claiming_u.claim_ask claiming_u.slot_after claiming_u.slot_armed claiming_u.claim_next claiming_u.claim_given raising_u.raise_ask raising_u.free_after raising_u.raise_next raising_u.raise_next_ask raising_u.raise_on arming_u.arm_ask arming_u.arm_next passing_u.passed maintaining_u.device_asked maintaining_u.maintaining_ask maintaining_u.scan_ledto maintaining_u.claim_ledto maintaining_u.flush_ledto maintaining_u.shift_ledto maintaining_u.serve_ledto maintaining_u.turn_ledto maintaining_u.maintaining_next maintaining_u.maintaining_given maintaining_u.maintaining_called maintaining_u.maintaining_calls maintaining_u.maintaining_made keeping_u.device_passed keeping_u.keeping_ask keeping_u.start_ledto keeping_u.maintain_ledto keeping_u.phase_ledto keeping_u.keeping_next keeping_u.keeping_given keeping_u.keeping_called keeper_asks_u.keeping_read keeper_asks_u.keeping_made keeper_asks_u.keeping_calls flushing_u.flush_ask flushing_u.flush_next flushing_u.bytes_next flushing_u.flush_calls flushing_u.flush_done flushing_u.bytes_done flushing_u.count_next flushing_u.count_done serving_u.serve_ask serving_u.mailbox_from serving_u.serve_next serving_u.serve_read serving_u.mail_place world_u.life_goes moves_u.session_settled moves_u.session_asks moves_u.keeper_settled moves_u.keeper_asks past_u.history_after past_u.life_past runs_u.run phase_words_u.phase_said run_by defer_u.deferring_ask defer_u.seek_ledto defer_u.raise_ledto defer_u.arm_ledto defer_u.deferring_next defer_u.deferring_on start_u.starting_ask start_u.seek_led start_u.defer_led start_u.starting_next keeper_run_u.keeper_happens keeper_run_u.keeper_run own_u.keeper_slots own_u.keeper_steps own_u.keeper_part own_u.keeper_events begun_u.commits_begun asked_u.serials_asked begun_by_table
right_finished its one other = refl

right_commits : (its : KeeperState) (one other : SessionState) → commits_told (run_by right_tables (world its one other) one_turn).past.trace (first_told ∷ []) ≡ first_told ∷ []
unfolding places shape session_u.sitting_ask session_u.attempts session_u.polls_at session_u.op_begun session_u.refresh_call session_u.poll_call session_u.sleep_call session_u.wake_call session_u.accepts session_u.shifts session_u.attempt_ledto session_u.catch_ledto session_u.clear_ledto session_u.finishes_request session_u.keeps_request session_u.poll_ledto session_u.turn_ledto session_u.leave_ledto session_u.sitting_next session_u.sitting_given catching_u.catching_ask catching_u.refresh_ledto catching_u.protect_ledto catching_u.latch_ledto catching_u.finish_ledto catching_u.latch_marked catching_u.catching_requests catching_u.catching_next attempting_u.attempting_ask attempting_u.look_ledto attempting_u.try_ledto attempting_u.put_ledto attempting_u.attempting_next pending_u.with_sought pending_u.with_held pending_u.with_latch pending_u.with_asked mailing_u.mail_ask mailing_u.mail_next trying_u.trying_ask trying_u.ends_so trying_u.ends trying_u.shared_ledto trying_u.appends trying_u.copies_from mark trying_u.copies trying_u.held_used trying_u.walk_ledto trying_u.current_ledto trying_u.answer_ledto trying_u.exclusive_ledto trying_u.old_ledto trying_u.append_ledto trying_u.exclusive_dropped trying_u.shared_dropped trying_u.trying_next walking_u.walking_ask walking_u.find_ledto walking_u.load_ledto walking_u.value_ledto walking_u.walking_next walking_u.walking_on appending_u.appending_ask appending_u.reserve_ledto appending_u.fill_ledto appending_u.publish_ledto appending_u.invalidate_ledto appending_u.appending_next header_words_u.header_said finding_u.find_step_ask finding_u.find_led publishing_u.publish_ask publishing_u.publish_next publishing_u.publish_next_ask slots_u.slot_word reserving_u.reserve_ask reserving_u.reserve_next reserving_u.reserve_next_ask filling_u.fill_ask filling_u.fill_next loading_u.load_ask loading_u.load_next loading_u.load_next_ask loading_u.load_on invalidating_u.invalidate_ask invalidating_u.invalidate_next moving_u.moving_ask moving_u.raise_led moving_u.arm_led moving_u.moving_next moving_u.raise_told moving_u.moving_next_ask shifting_u.shifting_ask shifting_u.shift_led shifting_u.shifting_next shifting_u.move_told shifting_u.shifting_next_ask turning_u.turning_ask turning_u.turn_led turning_u.turning_next turning_u.turn_told turning_u.turning_next_ask refreshing_u.refresh_ask refreshing_u.refresh_next refreshing_u.refresh_finish scanning_u.scan_ask scanning_u.sessions_from scanning_u.least_of scanning_u.scan_next claiming_u.claim_ask claiming_u.slot_after claiming_u.slot_armed claiming_u.claim_next claiming_u.claim_given raising_u.raise_ask raising_u.free_after raising_u.raise_next raising_u.raise_next_ask raising_u.raise_on arming_u.arm_ask arming_u.arm_next passing_u.passed maintaining_u.device_asked maintaining_u.maintaining_ask maintaining_u.scan_ledto maintaining_u.claim_ledto maintaining_u.flush_ledto maintaining_u.shift_ledto maintaining_u.serve_ledto maintaining_u.turn_ledto maintaining_u.maintaining_next maintaining_u.maintaining_given maintaining_u.maintaining_called maintaining_u.maintaining_calls maintaining_u.maintaining_made keeping_u.device_passed keeping_u.keeping_ask keeping_u.start_ledto keeping_u.maintain_ledto keeping_u.phase_ledto keeping_u.keeping_next keeping_u.keeping_given keeping_u.keeping_called keeper_asks_u.keeping_read keeper_asks_u.keeping_made keeper_asks_u.keeping_calls flushing_u.flush_ask flushing_u.flush_next flushing_u.bytes_next flushing_u.flush_calls flushing_u.flush_done flushing_u.bytes_done flushing_u.count_next flushing_u.count_done serving_u.serve_ask serving_u.mailbox_from serving_u.serve_next serving_u.serve_read serving_u.mail_place world_u.life_goes moves_u.session_settled moves_u.session_asks moves_u.keeper_settled moves_u.keeper_asks past_u.history_after past_u.life_past runs_u.run phase_words_u.phase_said run_by defer_u.deferring_ask defer_u.seek_ledto defer_u.raise_ledto defer_u.arm_ledto defer_u.deferring_next defer_u.deferring_on start_u.starting_ask start_u.seek_led start_u.defer_led start_u.starting_next keeper_run_u.keeper_happens keeper_run_u.keeper_run own_u.keeper_slots own_u.keeper_steps own_u.keeper_part own_u.keeper_events begun_u.commits_begun asked_u.serials_asked begun_by_table
right_commits its one other = refl

right_told : (its : KeeperState) (one other : SessionState) → LeavesTold right_tables (world its one other) one_turn
right_told its one other = right_finished its one other ∙ sym (right_commits its one other)

-- ---- numbers and points
skips : (its : KeeperState) (one other : SessionState) → map (λ (c : BegunCommit). c.number.0) (begun_by_table (commit_skips_a_number shape) (world its one other) six_calls) ≡ 2 ∷ 0 ∷ []
unfolding places shape session_u.sitting_ask session_u.attempts session_u.polls_at session_u.op_begun session_u.refresh_call session_u.poll_call session_u.sleep_call session_u.wake_call session_u.accepts session_u.shifts session_u.attempt_ledto session_u.catch_ledto session_u.clear_ledto session_u.finishes_request session_u.keeps_request session_u.poll_ledto session_u.turn_ledto session_u.leave_ledto session_u.sitting_next session_u.sitting_given catching_u.catching_ask catching_u.refresh_ledto catching_u.protect_ledto catching_u.latch_ledto catching_u.finish_ledto catching_u.latch_marked catching_u.catching_requests catching_u.catching_next attempting_u.attempting_ask attempting_u.look_ledto attempting_u.try_ledto attempting_u.put_ledto attempting_u.attempting_next pending_u.with_sought pending_u.with_held pending_u.with_latch pending_u.with_asked mailing_u.mail_ask mailing_u.mail_next trying_u.trying_ask trying_u.ends_so trying_u.ends trying_u.shared_ledto trying_u.appends trying_u.copies_from mark trying_u.copies trying_u.held_used trying_u.walk_ledto trying_u.current_ledto trying_u.answer_ledto trying_u.exclusive_ledto trying_u.old_ledto trying_u.append_ledto trying_u.exclusive_dropped trying_u.shared_dropped trying_u.trying_next walking_u.walking_ask walking_u.find_ledto walking_u.load_ledto walking_u.value_ledto walking_u.walking_next walking_u.walking_on appending_u.appending_ask appending_u.reserve_ledto appending_u.fill_ledto appending_u.publish_ledto appending_u.invalidate_ledto appending_u.appending_next header_words_u.header_said finding_u.find_step_ask finding_u.find_led publishing_u.publish_ask publishing_u.publish_next publishing_u.publish_next_ask slots_u.slot_word reserving_u.reserve_ask reserving_u.reserve_next reserving_u.reserve_next_ask filling_u.fill_ask filling_u.fill_next loading_u.load_ask loading_u.load_next loading_u.load_next_ask loading_u.load_on invalidating_u.invalidate_ask invalidating_u.invalidate_next moving_u.moving_ask moving_u.raise_led moving_u.arm_led moving_u.moving_next moving_u.raise_told moving_u.moving_next_ask shifting_u.shifting_ask shifting_u.shift_led shifting_u.shifting_next shifting_u.move_told shifting_u.shifting_next_ask turning_u.turning_ask turning_u.turn_led turning_u.turning_next turning_u.turn_told turning_u.turning_next_ask refreshing_u.refresh_ask refreshing_u.refresh_next refreshing_u.refresh_finish scanning_u.scan_ask scanning_u.sessions_from scanning_u.least_of scanning_u.scan_next claiming_u.claim_ask claiming_u.slot_after claiming_u.slot_armed claiming_u.claim_next claiming_u.claim_given raising_u.raise_ask raising_u.free_after raising_u.raise_next raising_u.raise_next_ask raising_u.raise_on arming_u.arm_ask arming_u.arm_next passing_u.passed maintaining_u.device_asked maintaining_u.maintaining_ask maintaining_u.scan_ledto maintaining_u.claim_ledto maintaining_u.flush_ledto maintaining_u.shift_ledto maintaining_u.serve_ledto maintaining_u.turn_ledto maintaining_u.maintaining_next maintaining_u.maintaining_given maintaining_u.maintaining_called maintaining_u.maintaining_calls maintaining_u.maintaining_made keeping_u.device_passed keeping_u.keeping_ask keeping_u.start_ledto keeping_u.maintain_ledto keeping_u.phase_ledto keeping_u.keeping_next keeping_u.keeping_given keeping_u.keeping_called keeper_asks_u.keeping_read keeper_asks_u.keeping_made keeper_asks_u.keeping_calls flushing_u.flush_ask flushing_u.flush_next flushing_u.bytes_next flushing_u.flush_calls flushing_u.flush_done flushing_u.bytes_done flushing_u.count_next flushing_u.count_done serving_u.serve_ask serving_u.mailbox_from serving_u.serve_next serving_u.serve_read serving_u.mail_place world_u.life_goes moves_u.session_settled moves_u.session_asks moves_u.keeper_settled moves_u.keeper_asks past_u.history_after past_u.life_past runs_u.run phase_words_u.phase_said run_by defer_u.deferring_ask defer_u.seek_ledto defer_u.raise_ledto defer_u.arm_ledto defer_u.deferring_next defer_u.deferring_on start_u.starting_ask start_u.seek_led start_u.defer_led start_u.starting_next keeper_run_u.keeper_happens keeper_run_u.keeper_run own_u.keeper_slots own_u.keeper_steps own_u.keeper_part own_u.keeper_events begun_u.commits_begun asked_u.serials_asked begun_by_table committing_u.commit_step_answer committing_u.commit_step_next committing_u.gate_after gating_u.gate_answer gating_u.gate_next keeping_u.write_ledto
skips its one other = refl

not_in_turn : (begun : List BegunCommit) → map (λ (c : BegunCommit). c.number.0) begun ≡ 2 ∷ 0 ∷ [] → AreInTurn begun → ⊥
not_in_turn [] are turn = cc
not_in_turn (c ∷ []) are turn = let none : ◌≡◌ {A = List ℕ} [] (0 ∷ []) = cc in cc
not_in_turn (c ∷ d ∷ rest) are turn =
    let first : c.number.0 ≡ 2 = cc in
    let second : d.number.0 ≡ 0 = cc in
    let next = turn.0 in
    omega (arith, first, second, next)

wrong_turn : (its : KeeperState) (one other : SessionState) → LeavesInTurn (commit_skips_a_number shape) (world its one other) six_calls → ⊥
wrong_turn its one other turn = not_in_turn (begun_by_table (commit_skips_a_number shape) (world its one other) six_calls) (skips its one other) turn

-- a commit by its number and its points
abbrev said_of : BegunCommit → ℕ × List Serial
said_of c = (c.number.0, c.points)

keeps_none : (its : KeeperState) (one other : SessionState) → map said_of (begun_by_table (commit_is_written_at_once shape) (world its one other) four_calls) ≡ (1, []) ∷ (0, given_point) ∷ []
unfolding places shape session_u.sitting_ask session_u.attempts session_u.polls_at session_u.op_begun session_u.refresh_call session_u.poll_call session_u.sleep_call session_u.wake_call session_u.accepts session_u.shifts session_u.attempt_ledto session_u.catch_ledto session_u.clear_ledto session_u.finishes_request session_u.keeps_request session_u.poll_ledto session_u.turn_ledto session_u.leave_ledto session_u.sitting_next session_u.sitting_given catching_u.catching_ask catching_u.refresh_ledto catching_u.protect_ledto catching_u.latch_ledto catching_u.finish_ledto catching_u.latch_marked catching_u.catching_requests catching_u.catching_next attempting_u.attempting_ask attempting_u.look_ledto attempting_u.try_ledto attempting_u.put_ledto attempting_u.attempting_next pending_u.with_sought pending_u.with_held pending_u.with_latch pending_u.with_asked mailing_u.mail_ask mailing_u.mail_next trying_u.trying_ask trying_u.ends_so trying_u.ends trying_u.shared_ledto trying_u.appends trying_u.copies_from mark trying_u.copies trying_u.held_used trying_u.walk_ledto trying_u.current_ledto trying_u.answer_ledto trying_u.exclusive_ledto trying_u.old_ledto trying_u.append_ledto trying_u.exclusive_dropped trying_u.shared_dropped trying_u.trying_next walking_u.walking_ask walking_u.find_ledto walking_u.load_ledto walking_u.value_ledto walking_u.walking_next walking_u.walking_on appending_u.appending_ask appending_u.reserve_ledto appending_u.fill_ledto appending_u.publish_ledto appending_u.invalidate_ledto appending_u.appending_next header_words_u.header_said finding_u.find_step_ask finding_u.find_led publishing_u.publish_ask publishing_u.publish_next publishing_u.publish_next_ask slots_u.slot_word reserving_u.reserve_ask reserving_u.reserve_next reserving_u.reserve_next_ask filling_u.fill_ask filling_u.fill_next loading_u.load_ask loading_u.load_next loading_u.load_next_ask loading_u.load_on invalidating_u.invalidate_ask invalidating_u.invalidate_next moving_u.moving_ask moving_u.raise_led moving_u.arm_led moving_u.moving_next moving_u.raise_told moving_u.moving_next_ask shifting_u.shifting_ask shifting_u.shift_led shifting_u.shifting_next shifting_u.move_told shifting_u.shifting_next_ask turning_u.turning_ask turning_u.turn_led turning_u.turning_next turning_u.turn_told turning_u.turning_next_ask refreshing_u.refresh_ask refreshing_u.refresh_next refreshing_u.refresh_finish scanning_u.scan_ask scanning_u.sessions_from scanning_u.least_of scanning_u.scan_next claiming_u.claim_ask claiming_u.slot_after claiming_u.slot_armed claiming_u.claim_next claiming_u.claim_given raising_u.raise_ask raising_u.free_after raising_u.raise_next raising_u.raise_next_ask raising_u.raise_on arming_u.arm_ask arming_u.arm_next passing_u.passed maintaining_u.device_asked maintaining_u.maintaining_ask maintaining_u.scan_ledto maintaining_u.claim_ledto maintaining_u.flush_ledto maintaining_u.shift_ledto maintaining_u.serve_ledto maintaining_u.turn_ledto maintaining_u.maintaining_next maintaining_u.maintaining_given maintaining_u.maintaining_called maintaining_u.maintaining_calls maintaining_u.maintaining_made keeping_u.device_passed keeping_u.keeping_ask keeping_u.start_ledto keeping_u.maintain_ledto keeping_u.phase_ledto keeping_u.keeping_next keeping_u.keeping_given keeping_u.keeping_called keeper_asks_u.keeping_read keeper_asks_u.keeping_made keeper_asks_u.keeping_calls flushing_u.flush_ask flushing_u.flush_next flushing_u.bytes_next flushing_u.flush_calls flushing_u.flush_done flushing_u.bytes_done flushing_u.count_next flushing_u.count_done serving_u.serve_ask serving_u.mailbox_from serving_u.serve_next serving_u.serve_read serving_u.mail_place world_u.life_goes moves_u.session_settled moves_u.session_asks moves_u.keeper_settled moves_u.keeper_asks past_u.history_after past_u.life_past runs_u.run phase_words_u.phase_said run_by defer_u.deferring_ask defer_u.seek_ledto defer_u.raise_ledto defer_u.arm_ledto defer_u.deferring_next defer_u.deferring_on start_u.starting_ask start_u.seek_led start_u.defer_led start_u.starting_next keeper_run_u.keeper_happens keeper_run_u.keeper_run own_u.keeper_slots own_u.keeper_steps own_u.keeper_part own_u.keeper_events begun_u.commits_begun asked_u.serials_asked begun_by_table committing_u.commit_step_answer committing_u.commit_step_next committing_u.gate_after gating_u.gate_answer gating_u.gate_next keeping_u.write_ledto
keeps_none its one other = refl

falls : (begun : List BegunCommit) → map said_of begun ≡ (1, []) ∷ (0, given_point) ∷ [] → ((older newer : BegunCommit) → IsIn older begun → IsIn newer begun → older.number.0 ≤ newer.number.0 → AreAtMost older.points newer.points) → ⊥
falls [] are rising = cc
falls (c ∷ []) are rising = let none : ◌≡◌ {A = List (ℕ × List Serial)} [] ((0, given_point) ∷ []) = cc in cc
falls (c ∷ d ∷ rest) are rising =
    let first : said_of c ≡ (1, []) = cc in
    let second : said_of d ≡ (0, given_point) = cc in
    let newer = ap (λ (x : ℕ × List Serial). x.0) first in
    let older = ap (λ (x : ℕ × List Serial). x.0) second in
    let up = rising d c (inr (inl refl)) (inl refl) (omega (arith, newer, older)) 0 in
    let nothing : point_of c.points 0 ≡ 0 = ap (λ (x : ℕ × List Serial). point_of x.1 0) first in
    let one : point_of d.points 0 ≡ 1 = ap (λ (x : ℕ × List Serial). point_of x.1 0) second in
    omega (arith, up, nothing, one)

wrong_rising : (its : KeeperState) (one other : SessionState) → LeavesRising (commit_is_written_at_once shape) (world its one other) four_calls → ⊥
wrong_rising its one other rising = falls (begun_by_table (commit_is_written_at_once shape) (world its one other) four_calls) (keeps_none its one other) rising

-- ---- a read in time
abbrev given : List HistoryEntry
given = entry_of 0 1 gives_70 Nothing ∷ []

value_given : get (content no_map given) 5 ≡ Some 70
value_given = content_one_more no_map [] (entry_of 0 1 gives_70 Nothing) 5

abbrev lines : Reply → List TraceLine
lines reply = AnswersRead 2 reply ∷ CallsRead 2 5 ∷ GivesResult 0 1 Nothing ∷ CallsUpdate 0 1 gives_70 ∷ []

wrong_lines : (its : KeeperState) (one other : SessionState) → lines_of (λ session. 0) (run_by read_gives_opening_state (opened_world shape places its one other) read_events).past.trace ≡ lines Absent
unfolding places shape session_u.sitting_ask session_u.attempts session_u.polls_at session_u.op_begun session_u.refresh_call session_u.poll_call session_u.sleep_call session_u.wake_call session_u.accepts session_u.shifts session_u.attempt_ledto session_u.catch_ledto session_u.clear_ledto session_u.finishes_request session_u.keeps_request session_u.poll_ledto session_u.turn_ledto session_u.leave_ledto session_u.sitting_next session_u.sitting_given catching_u.catching_ask catching_u.refresh_ledto catching_u.protect_ledto catching_u.latch_ledto catching_u.finish_ledto catching_u.latch_marked catching_u.catching_requests catching_u.catching_next attempting_u.attempting_ask attempting_u.look_ledto attempting_u.try_ledto attempting_u.put_ledto attempting_u.attempting_next pending_u.with_sought pending_u.with_held pending_u.with_latch pending_u.with_asked mailing_u.mail_ask mailing_u.mail_next trying_u.trying_ask trying_u.ends_so trying_u.ends trying_u.shared_ledto trying_u.appends trying_u.copies_from mark trying_u.copies trying_u.held_used trying_u.walk_ledto trying_u.current_ledto trying_u.answer_ledto trying_u.exclusive_ledto trying_u.old_ledto trying_u.append_ledto trying_u.exclusive_dropped trying_u.shared_dropped trying_u.trying_next walking_u.walking_ask walking_u.find_ledto walking_u.load_ledto walking_u.value_ledto walking_u.walking_next walking_u.walking_on appending_u.appending_ask appending_u.reserve_ledto appending_u.fill_ledto appending_u.publish_ledto appending_u.invalidate_ledto appending_u.appending_next header_words_u.header_said finding_u.find_step_ask finding_u.find_led publishing_u.publish_ask publishing_u.publish_next publishing_u.publish_next_ask slots_u.slot_word reserving_u.reserve_ask reserving_u.reserve_next reserving_u.reserve_next_ask filling_u.fill_ask filling_u.fill_next loading_u.load_ask loading_u.load_next loading_u.load_next_ask loading_u.load_on invalidating_u.invalidate_ask invalidating_u.invalidate_next moving_u.moving_ask moving_u.raise_led moving_u.arm_led moving_u.moving_next moving_u.raise_told moving_u.moving_next_ask shifting_u.shifting_ask shifting_u.shift_led shifting_u.shifting_next shifting_u.move_told shifting_u.shifting_next_ask turning_u.turning_ask turning_u.turn_led turning_u.turning_next turning_u.turn_told turning_u.turning_next_ask refreshing_u.refresh_ask refreshing_u.refresh_next refreshing_u.refresh_finish scanning_u.scan_ask scanning_u.sessions_from scanning_u.least_of scanning_u.scan_next claiming_u.claim_ask claiming_u.slot_after claiming_u.slot_armed claiming_u.claim_next claiming_u.claim_given raising_u.raise_ask raising_u.free_after raising_u.raise_next raising_u.raise_next_ask raising_u.raise_on arming_u.arm_ask arming_u.arm_next passing_u.passed maintaining_u.device_asked maintaining_u.maintaining_ask maintaining_u.scan_ledto maintaining_u.claim_ledto maintaining_u.flush_ledto maintaining_u.shift_ledto maintaining_u.serve_ledto maintaining_u.turn_ledto maintaining_u.maintaining_next maintaining_u.maintaining_given maintaining_u.maintaining_called maintaining_u.maintaining_calls maintaining_u.maintaining_made keeping_u.device_passed keeping_u.keeping_ask keeping_u.start_ledto keeping_u.maintain_ledto keeping_u.phase_ledto keeping_u.keeping_next keeping_u.keeping_given keeping_u.keeping_called keeper_asks_u.keeping_read keeper_asks_u.keeping_made keeper_asks_u.keeping_calls flushing_u.flush_ask flushing_u.flush_next flushing_u.bytes_next flushing_u.flush_calls flushing_u.flush_done flushing_u.bytes_done flushing_u.count_next flushing_u.count_done serving_u.serve_ask serving_u.mailbox_from serving_u.serve_next serving_u.serve_read serving_u.mail_place world_u.life_goes moves_u.session_settled moves_u.session_asks moves_u.keeper_settled moves_u.keeper_asks past_u.history_after past_u.life_past runs_u.run phase_words_u.phase_said run_by defer_u.deferring_ask defer_u.seek_ledto defer_u.raise_ledto defer_u.arm_ledto defer_u.deferring_next defer_u.deferring_on start_u.starting_ask start_u.seek_led start_u.defer_led start_u.starting_next keeper_run_u.keeper_happens keeper_run_u.keeper_run own_u.keeper_slots own_u.keeper_steps own_u.keeper_part own_u.keeper_events begun_u.commits_begun asked_u.serials_asked lines_of
wrong_lines its one other = refl

wrong_given : (its : KeeperState) (one other : SessionState) → history_of (effects_in_log (run_by read_gives_opening_state (opened_world shape places its one other) read_events).past.history) ≡ given
unfolding places shape session_u.sitting_ask session_u.attempts session_u.polls_at session_u.op_begun session_u.refresh_call session_u.poll_call session_u.sleep_call session_u.wake_call session_u.accepts session_u.shifts session_u.attempt_ledto session_u.catch_ledto session_u.clear_ledto session_u.finishes_request session_u.keeps_request session_u.poll_ledto session_u.turn_ledto session_u.leave_ledto session_u.sitting_next session_u.sitting_given catching_u.catching_ask catching_u.refresh_ledto catching_u.protect_ledto catching_u.latch_ledto catching_u.finish_ledto catching_u.latch_marked catching_u.catching_requests catching_u.catching_next attempting_u.attempting_ask attempting_u.look_ledto attempting_u.try_ledto attempting_u.put_ledto attempting_u.attempting_next pending_u.with_sought pending_u.with_held pending_u.with_latch pending_u.with_asked mailing_u.mail_ask mailing_u.mail_next trying_u.trying_ask trying_u.ends_so trying_u.ends trying_u.shared_ledto trying_u.appends trying_u.copies_from mark trying_u.copies trying_u.held_used trying_u.walk_ledto trying_u.current_ledto trying_u.answer_ledto trying_u.exclusive_ledto trying_u.old_ledto trying_u.append_ledto trying_u.exclusive_dropped trying_u.shared_dropped trying_u.trying_next walking_u.walking_ask walking_u.find_ledto walking_u.load_ledto walking_u.value_ledto walking_u.walking_next walking_u.walking_on appending_u.appending_ask appending_u.reserve_ledto appending_u.fill_ledto appending_u.publish_ledto appending_u.invalidate_ledto appending_u.appending_next header_words_u.header_said finding_u.find_step_ask finding_u.find_led publishing_u.publish_ask publishing_u.publish_next publishing_u.publish_next_ask slots_u.slot_word reserving_u.reserve_ask reserving_u.reserve_next reserving_u.reserve_next_ask filling_u.fill_ask filling_u.fill_next loading_u.load_ask loading_u.load_next loading_u.load_next_ask loading_u.load_on invalidating_u.invalidate_ask invalidating_u.invalidate_next moving_u.moving_ask moving_u.raise_led moving_u.arm_led moving_u.moving_next moving_u.raise_told moving_u.moving_next_ask shifting_u.shifting_ask shifting_u.shift_led shifting_u.shifting_next shifting_u.move_told shifting_u.shifting_next_ask turning_u.turning_ask turning_u.turn_led turning_u.turning_next turning_u.turn_told turning_u.turning_next_ask refreshing_u.refresh_ask refreshing_u.refresh_next refreshing_u.refresh_finish scanning_u.scan_ask scanning_u.sessions_from scanning_u.least_of scanning_u.scan_next claiming_u.claim_ask claiming_u.slot_after claiming_u.slot_armed claiming_u.claim_next claiming_u.claim_given raising_u.raise_ask raising_u.free_after raising_u.raise_next raising_u.raise_next_ask raising_u.raise_on arming_u.arm_ask arming_u.arm_next passing_u.passed maintaining_u.device_asked maintaining_u.maintaining_ask maintaining_u.scan_ledto maintaining_u.claim_ledto maintaining_u.flush_ledto maintaining_u.shift_ledto maintaining_u.serve_ledto maintaining_u.turn_ledto maintaining_u.maintaining_next maintaining_u.maintaining_given maintaining_u.maintaining_called maintaining_u.maintaining_calls maintaining_u.maintaining_made keeping_u.device_passed keeping_u.keeping_ask keeping_u.start_ledto keeping_u.maintain_ledto keeping_u.phase_ledto keeping_u.keeping_next keeping_u.keeping_given keeping_u.keeping_called keeper_asks_u.keeping_read keeper_asks_u.keeping_made keeper_asks_u.keeping_calls flushing_u.flush_ask flushing_u.flush_next flushing_u.bytes_next flushing_u.flush_calls flushing_u.flush_done flushing_u.bytes_done flushing_u.count_next flushing_u.count_done serving_u.serve_ask serving_u.mailbox_from serving_u.serve_next serving_u.serve_read serving_u.mail_place world_u.life_goes moves_u.session_settled moves_u.session_asks moves_u.keeper_settled moves_u.keeper_asks past_u.history_after past_u.life_past runs_u.run phase_words_u.phase_said run_by defer_u.deferring_ask defer_u.seek_ledto defer_u.raise_ledto defer_u.arm_ledto defer_u.deferring_next defer_u.deferring_on start_u.starting_ask start_u.seek_led start_u.defer_led start_u.starting_next keeper_run_u.keeper_happens keeper_run_u.keeper_run own_u.keeper_slots own_u.keeper_steps own_u.keeper_part own_u.keeper_events begun_u.commits_begun asked_u.serials_asked lines_of
wrong_given its one other = refl

wrong_before : (its : KeeperState) (one other : SessionState) → history_of (effects_in_log (run_by read_gives_opening_state (opened_world shape places its one other) read_begun).past.history) ≡ given
unfolding places shape session_u.sitting_ask session_u.attempts session_u.polls_at session_u.op_begun session_u.refresh_call session_u.poll_call session_u.sleep_call session_u.wake_call session_u.accepts session_u.shifts session_u.attempt_ledto session_u.catch_ledto session_u.clear_ledto session_u.finishes_request session_u.keeps_request session_u.poll_ledto session_u.turn_ledto session_u.leave_ledto session_u.sitting_next session_u.sitting_given catching_u.catching_ask catching_u.refresh_ledto catching_u.protect_ledto catching_u.latch_ledto catching_u.finish_ledto catching_u.latch_marked catching_u.catching_requests catching_u.catching_next attempting_u.attempting_ask attempting_u.look_ledto attempting_u.try_ledto attempting_u.put_ledto attempting_u.attempting_next pending_u.with_sought pending_u.with_held pending_u.with_latch pending_u.with_asked mailing_u.mail_ask mailing_u.mail_next trying_u.trying_ask trying_u.ends_so trying_u.ends trying_u.shared_ledto trying_u.appends trying_u.copies_from mark trying_u.copies trying_u.held_used trying_u.walk_ledto trying_u.current_ledto trying_u.answer_ledto trying_u.exclusive_ledto trying_u.old_ledto trying_u.append_ledto trying_u.exclusive_dropped trying_u.shared_dropped trying_u.trying_next walking_u.walking_ask walking_u.find_ledto walking_u.load_ledto walking_u.value_ledto walking_u.walking_next walking_u.walking_on appending_u.appending_ask appending_u.reserve_ledto appending_u.fill_ledto appending_u.publish_ledto appending_u.invalidate_ledto appending_u.appending_next header_words_u.header_said finding_u.find_step_ask finding_u.find_led publishing_u.publish_ask publishing_u.publish_next publishing_u.publish_next_ask slots_u.slot_word reserving_u.reserve_ask reserving_u.reserve_next reserving_u.reserve_next_ask filling_u.fill_ask filling_u.fill_next loading_u.load_ask loading_u.load_next loading_u.load_next_ask loading_u.load_on invalidating_u.invalidate_ask invalidating_u.invalidate_next moving_u.moving_ask moving_u.raise_led moving_u.arm_led moving_u.moving_next moving_u.raise_told moving_u.moving_next_ask shifting_u.shifting_ask shifting_u.shift_led shifting_u.shifting_next shifting_u.move_told shifting_u.shifting_next_ask turning_u.turning_ask turning_u.turn_led turning_u.turning_next turning_u.turn_told turning_u.turning_next_ask refreshing_u.refresh_ask refreshing_u.refresh_next refreshing_u.refresh_finish scanning_u.scan_ask scanning_u.sessions_from scanning_u.least_of scanning_u.scan_next claiming_u.claim_ask claiming_u.slot_after claiming_u.slot_armed claiming_u.claim_next claiming_u.claim_given raising_u.raise_ask raising_u.free_after raising_u.raise_next raising_u.raise_next_ask raising_u.raise_on arming_u.arm_ask arming_u.arm_next passing_u.passed maintaining_u.device_asked maintaining_u.maintaining_ask maintaining_u.scan_ledto maintaining_u.claim_ledto maintaining_u.flush_ledto maintaining_u.shift_ledto maintaining_u.serve_ledto maintaining_u.turn_ledto maintaining_u.maintaining_next maintaining_u.maintaining_given maintaining_u.maintaining_called maintaining_u.maintaining_calls maintaining_u.maintaining_made keeping_u.device_passed keeping_u.keeping_ask keeping_u.start_ledto keeping_u.maintain_ledto keeping_u.phase_ledto keeping_u.keeping_next keeping_u.keeping_given keeping_u.keeping_called keeper_asks_u.keeping_read keeper_asks_u.keeping_made keeper_asks_u.keeping_calls flushing_u.flush_ask flushing_u.flush_next flushing_u.bytes_next flushing_u.flush_calls flushing_u.flush_done flushing_u.bytes_done flushing_u.count_next flushing_u.count_done serving_u.serve_ask serving_u.mailbox_from serving_u.serve_next serving_u.serve_read serving_u.mail_place world_u.life_goes moves_u.session_settled moves_u.session_asks moves_u.keeper_settled moves_u.keeper_asks past_u.history_after past_u.life_past runs_u.run phase_words_u.phase_said run_by defer_u.deferring_ask defer_u.seek_ledto defer_u.raise_ledto defer_u.arm_ledto defer_u.deferring_next defer_u.deferring_on start_u.starting_ask start_u.seek_led start_u.defer_led start_u.starting_next keeper_run_u.keeper_happens keeper_run_u.keeper_run own_u.keeper_slots own_u.keeper_steps own_u.keeper_part own_u.keeper_events begun_u.commits_begun asked_u.serials_asked lines_of
wrong_before its one other = refl

-- from call to answer there is one value
one_value : (reply : Reply) → IsInTime no_map given given 5 reply → reply ≡ Found (record { 0 = 70 })
one_value reply its = by its.between its.newer its.all its.value
  where
    by : (between newer : List HistoryEntry) → given ≡ given ++ (between ++ newer) → reply ≡ reply_to_read (get (content no_map (given ++ between)) 5) → reply ≡ Found (record { 0 = 70 })
    by [] newer all value = value ∙ ap reply_to_read value_given
    by (x ∷ between) newer all value = absurd (let none : [] ≡ x ∷ (between ++ newer) = cc in cc)

wrong_time : (its : KeeperState) (one other : SessionState) → LeavesInTime (run_by read_gives_opening_state (opened_world shape places its one other) read_begun) (run_by read_gives_opening_state (opened_world shape places its one other) read_events) → ⊥
wrong_time its one other times =
    let time = times 2 Absent (subst (λ (x : List TraceLine). IsIn (AnswersRead 2 Absent) x) (sym (wrong_lines its one other)) (inl refl)) in
    let both : IsInTime no_map given given 5 Absent =
    subst (λ (h : List HistoryEntry). IsInTime no_map h given 5 Absent) (wrong_before its one other)
    (subst (λ (h : List HistoryEntry). IsInTime no_map (history_of (effects_in_log (run_by read_gives_opening_state (opened_world shape places its one other) read_begun).past.history)) h 5 Absent) (wrong_given its one other) time) in
    let stale : Absent ≡ Found (record { 0 = 70 }) = one_value Absent both in
    absurd (cc)

right_lines : (its : KeeperState) (one other : SessionState) → lines_of (λ session. 0) (run_by right_tables (opened_world shape places its one other) read_events).past.trace ≡ lines (Found (record { 0 = 70 }))
unfolding places shape session_u.sitting_ask session_u.attempts session_u.polls_at session_u.op_begun session_u.refresh_call session_u.poll_call session_u.sleep_call session_u.wake_call session_u.accepts session_u.shifts session_u.attempt_ledto session_u.catch_ledto session_u.clear_ledto session_u.finishes_request session_u.keeps_request session_u.poll_ledto session_u.turn_ledto session_u.leave_ledto session_u.sitting_next session_u.sitting_given catching_u.catching_ask catching_u.refresh_ledto catching_u.protect_ledto catching_u.latch_ledto catching_u.finish_ledto catching_u.latch_marked catching_u.catching_requests catching_u.catching_next attempting_u.attempting_ask attempting_u.look_ledto attempting_u.try_ledto attempting_u.put_ledto attempting_u.attempting_next pending_u.with_sought pending_u.with_held pending_u.with_latch pending_u.with_asked mailing_u.mail_ask mailing_u.mail_next trying_u.trying_ask trying_u.ends_so trying_u.ends trying_u.shared_ledto trying_u.appends trying_u.copies_from mark trying_u.copies trying_u.held_used trying_u.walk_ledto trying_u.current_ledto trying_u.answer_ledto trying_u.exclusive_ledto trying_u.old_ledto trying_u.append_ledto trying_u.exclusive_dropped trying_u.shared_dropped trying_u.trying_next walking_u.walking_ask walking_u.find_ledto walking_u.load_ledto walking_u.value_ledto walking_u.walking_next walking_u.walking_on appending_u.appending_ask appending_u.reserve_ledto appending_u.fill_ledto appending_u.publish_ledto appending_u.invalidate_ledto appending_u.appending_next header_words_u.header_said finding_u.find_step_ask finding_u.find_led publishing_u.publish_ask publishing_u.publish_next publishing_u.publish_next_ask slots_u.slot_word reserving_u.reserve_ask reserving_u.reserve_next reserving_u.reserve_next_ask filling_u.fill_ask filling_u.fill_next loading_u.load_ask loading_u.load_next loading_u.load_next_ask loading_u.load_on invalidating_u.invalidate_ask invalidating_u.invalidate_next moving_u.moving_ask moving_u.raise_led moving_u.arm_led moving_u.moving_next moving_u.raise_told moving_u.moving_next_ask shifting_u.shifting_ask shifting_u.shift_led shifting_u.shifting_next shifting_u.move_told shifting_u.shifting_next_ask turning_u.turning_ask turning_u.turn_led turning_u.turning_next turning_u.turn_told turning_u.turning_next_ask refreshing_u.refresh_ask refreshing_u.refresh_next refreshing_u.refresh_finish scanning_u.scan_ask scanning_u.sessions_from scanning_u.least_of scanning_u.scan_next claiming_u.claim_ask claiming_u.slot_after claiming_u.slot_armed claiming_u.claim_next claiming_u.claim_given raising_u.raise_ask raising_u.free_after raising_u.raise_next raising_u.raise_next_ask raising_u.raise_on arming_u.arm_ask arming_u.arm_next passing_u.passed maintaining_u.device_asked maintaining_u.maintaining_ask maintaining_u.scan_ledto maintaining_u.claim_ledto maintaining_u.flush_ledto maintaining_u.shift_ledto maintaining_u.serve_ledto maintaining_u.turn_ledto maintaining_u.maintaining_next maintaining_u.maintaining_given maintaining_u.maintaining_called maintaining_u.maintaining_calls maintaining_u.maintaining_made keeping_u.device_passed keeping_u.keeping_ask keeping_u.start_ledto keeping_u.maintain_ledto keeping_u.phase_ledto keeping_u.keeping_next keeping_u.keeping_given keeping_u.keeping_called keeper_asks_u.keeping_read keeper_asks_u.keeping_made keeper_asks_u.keeping_calls flushing_u.flush_ask flushing_u.flush_next flushing_u.bytes_next flushing_u.flush_calls flushing_u.flush_done flushing_u.bytes_done flushing_u.count_next flushing_u.count_done serving_u.serve_ask serving_u.mailbox_from serving_u.serve_next serving_u.serve_read serving_u.mail_place world_u.life_goes moves_u.session_settled moves_u.session_asks moves_u.keeper_settled moves_u.keeper_asks past_u.history_after past_u.life_past runs_u.run phase_words_u.phase_said run_by defer_u.deferring_ask defer_u.seek_ledto defer_u.raise_ledto defer_u.arm_ledto defer_u.deferring_next defer_u.deferring_on start_u.starting_ask start_u.seek_led start_u.defer_led start_u.starting_next keeper_run_u.keeper_happens keeper_run_u.keeper_run own_u.keeper_slots own_u.keeper_steps own_u.keeper_part own_u.keeper_events begun_u.commits_begun asked_u.serials_asked lines_of
right_lines its one other = refl

right_given : (its : KeeperState) (one other : SessionState) → history_of (effects_in_log (run_by right_tables (opened_world shape places its one other) read_events).past.history) ≡ given
unfolding places shape session_u.sitting_ask session_u.attempts session_u.polls_at session_u.op_begun session_u.refresh_call session_u.poll_call session_u.sleep_call session_u.wake_call session_u.accepts session_u.shifts session_u.attempt_ledto session_u.catch_ledto session_u.clear_ledto session_u.finishes_request session_u.keeps_request session_u.poll_ledto session_u.turn_ledto session_u.leave_ledto session_u.sitting_next session_u.sitting_given catching_u.catching_ask catching_u.refresh_ledto catching_u.protect_ledto catching_u.latch_ledto catching_u.finish_ledto catching_u.latch_marked catching_u.catching_requests catching_u.catching_next attempting_u.attempting_ask attempting_u.look_ledto attempting_u.try_ledto attempting_u.put_ledto attempting_u.attempting_next pending_u.with_sought pending_u.with_held pending_u.with_latch pending_u.with_asked mailing_u.mail_ask mailing_u.mail_next trying_u.trying_ask trying_u.ends_so trying_u.ends trying_u.shared_ledto trying_u.appends trying_u.copies_from mark trying_u.copies trying_u.held_used trying_u.walk_ledto trying_u.current_ledto trying_u.answer_ledto trying_u.exclusive_ledto trying_u.old_ledto trying_u.append_ledto trying_u.exclusive_dropped trying_u.shared_dropped trying_u.trying_next walking_u.walking_ask walking_u.find_ledto walking_u.load_ledto walking_u.value_ledto walking_u.walking_next walking_u.walking_on appending_u.appending_ask appending_u.reserve_ledto appending_u.fill_ledto appending_u.publish_ledto appending_u.invalidate_ledto appending_u.appending_next header_words_u.header_said finding_u.find_step_ask finding_u.find_led publishing_u.publish_ask publishing_u.publish_next publishing_u.publish_next_ask slots_u.slot_word reserving_u.reserve_ask reserving_u.reserve_next reserving_u.reserve_next_ask filling_u.fill_ask filling_u.fill_next loading_u.load_ask loading_u.load_next loading_u.load_next_ask loading_u.load_on invalidating_u.invalidate_ask invalidating_u.invalidate_next moving_u.moving_ask moving_u.raise_led moving_u.arm_led moving_u.moving_next moving_u.raise_told moving_u.moving_next_ask shifting_u.shifting_ask shifting_u.shift_led shifting_u.shifting_next shifting_u.move_told shifting_u.shifting_next_ask turning_u.turning_ask turning_u.turn_led turning_u.turning_next turning_u.turn_told turning_u.turning_next_ask refreshing_u.refresh_ask refreshing_u.refresh_next refreshing_u.refresh_finish scanning_u.scan_ask scanning_u.sessions_from scanning_u.least_of scanning_u.scan_next claiming_u.claim_ask claiming_u.slot_after claiming_u.slot_armed claiming_u.claim_next claiming_u.claim_given raising_u.raise_ask raising_u.free_after raising_u.raise_next raising_u.raise_next_ask raising_u.raise_on arming_u.arm_ask arming_u.arm_next passing_u.passed maintaining_u.device_asked maintaining_u.maintaining_ask maintaining_u.scan_ledto maintaining_u.claim_ledto maintaining_u.flush_ledto maintaining_u.shift_ledto maintaining_u.serve_ledto maintaining_u.turn_ledto maintaining_u.maintaining_next maintaining_u.maintaining_given maintaining_u.maintaining_called maintaining_u.maintaining_calls maintaining_u.maintaining_made keeping_u.device_passed keeping_u.keeping_ask keeping_u.start_ledto keeping_u.maintain_ledto keeping_u.phase_ledto keeping_u.keeping_next keeping_u.keeping_given keeping_u.keeping_called keeper_asks_u.keeping_read keeper_asks_u.keeping_made keeper_asks_u.keeping_calls flushing_u.flush_ask flushing_u.flush_next flushing_u.bytes_next flushing_u.flush_calls flushing_u.flush_done flushing_u.bytes_done flushing_u.count_next flushing_u.count_done serving_u.serve_ask serving_u.mailbox_from serving_u.serve_next serving_u.serve_read serving_u.mail_place world_u.life_goes moves_u.session_settled moves_u.session_asks moves_u.keeper_settled moves_u.keeper_asks past_u.history_after past_u.life_past runs_u.run phase_words_u.phase_said run_by defer_u.deferring_ask defer_u.seek_ledto defer_u.raise_ledto defer_u.arm_ledto defer_u.deferring_next defer_u.deferring_on start_u.starting_ask start_u.seek_led start_u.defer_led start_u.starting_next keeper_run_u.keeper_happens keeper_run_u.keeper_run own_u.keeper_slots own_u.keeper_steps own_u.keeper_part own_u.keeper_events begun_u.commits_begun asked_u.serials_asked lines_of
right_given its one other = refl

right_before : (its : KeeperState) (one other : SessionState) → history_of (effects_in_log (run_by right_tables (opened_world shape places its one other) read_begun).past.history) ≡ given
unfolding places shape session_u.sitting_ask session_u.attempts session_u.polls_at session_u.op_begun session_u.refresh_call session_u.poll_call session_u.sleep_call session_u.wake_call session_u.accepts session_u.shifts session_u.attempt_ledto session_u.catch_ledto session_u.clear_ledto session_u.finishes_request session_u.keeps_request session_u.poll_ledto session_u.turn_ledto session_u.leave_ledto session_u.sitting_next session_u.sitting_given catching_u.catching_ask catching_u.refresh_ledto catching_u.protect_ledto catching_u.latch_ledto catching_u.finish_ledto catching_u.latch_marked catching_u.catching_requests catching_u.catching_next attempting_u.attempting_ask attempting_u.look_ledto attempting_u.try_ledto attempting_u.put_ledto attempting_u.attempting_next pending_u.with_sought pending_u.with_held pending_u.with_latch pending_u.with_asked mailing_u.mail_ask mailing_u.mail_next trying_u.trying_ask trying_u.ends_so trying_u.ends trying_u.shared_ledto trying_u.appends trying_u.copies_from mark trying_u.copies trying_u.held_used trying_u.walk_ledto trying_u.current_ledto trying_u.answer_ledto trying_u.exclusive_ledto trying_u.old_ledto trying_u.append_ledto trying_u.exclusive_dropped trying_u.shared_dropped trying_u.trying_next walking_u.walking_ask walking_u.find_ledto walking_u.load_ledto walking_u.value_ledto walking_u.walking_next walking_u.walking_on appending_u.appending_ask appending_u.reserve_ledto appending_u.fill_ledto appending_u.publish_ledto appending_u.invalidate_ledto appending_u.appending_next header_words_u.header_said finding_u.find_step_ask finding_u.find_led publishing_u.publish_ask publishing_u.publish_next publishing_u.publish_next_ask slots_u.slot_word reserving_u.reserve_ask reserving_u.reserve_next reserving_u.reserve_next_ask filling_u.fill_ask filling_u.fill_next loading_u.load_ask loading_u.load_next loading_u.load_next_ask loading_u.load_on invalidating_u.invalidate_ask invalidating_u.invalidate_next moving_u.moving_ask moving_u.raise_led moving_u.arm_led moving_u.moving_next moving_u.raise_told moving_u.moving_next_ask shifting_u.shifting_ask shifting_u.shift_led shifting_u.shifting_next shifting_u.move_told shifting_u.shifting_next_ask turning_u.turning_ask turning_u.turn_led turning_u.turning_next turning_u.turn_told turning_u.turning_next_ask refreshing_u.refresh_ask refreshing_u.refresh_next refreshing_u.refresh_finish scanning_u.scan_ask scanning_u.sessions_from scanning_u.least_of scanning_u.scan_next claiming_u.claim_ask claiming_u.slot_after claiming_u.slot_armed claiming_u.claim_next claiming_u.claim_given raising_u.raise_ask raising_u.free_after raising_u.raise_next raising_u.raise_next_ask raising_u.raise_on arming_u.arm_ask arming_u.arm_next passing_u.passed maintaining_u.device_asked maintaining_u.maintaining_ask maintaining_u.scan_ledto maintaining_u.claim_ledto maintaining_u.flush_ledto maintaining_u.shift_ledto maintaining_u.serve_ledto maintaining_u.turn_ledto maintaining_u.maintaining_next maintaining_u.maintaining_given maintaining_u.maintaining_called maintaining_u.maintaining_calls maintaining_u.maintaining_made keeping_u.device_passed keeping_u.keeping_ask keeping_u.start_ledto keeping_u.maintain_ledto keeping_u.phase_ledto keeping_u.keeping_next keeping_u.keeping_given keeping_u.keeping_called keeper_asks_u.keeping_read keeper_asks_u.keeping_made keeper_asks_u.keeping_calls flushing_u.flush_ask flushing_u.flush_next flushing_u.bytes_next flushing_u.flush_calls flushing_u.flush_done flushing_u.bytes_done flushing_u.count_next flushing_u.count_done serving_u.serve_ask serving_u.mailbox_from serving_u.serve_next serving_u.serve_read serving_u.mail_place world_u.life_goes moves_u.session_settled moves_u.session_asks moves_u.keeper_settled moves_u.keeper_asks past_u.history_after past_u.life_past runs_u.run phase_words_u.phase_said run_by defer_u.deferring_ask defer_u.seek_ledto defer_u.raise_ledto defer_u.arm_ledto defer_u.deferring_next defer_u.deferring_on start_u.starting_ask start_u.seek_led start_u.defer_led start_u.starting_next keeper_run_u.keeper_happens keeper_run_u.keeper_run own_u.keeper_slots own_u.keeper_steps own_u.keeper_part own_u.keeper_events begun_u.commits_begun asked_u.serials_asked lines_of
right_before its one other = refl

told_70 : (reader : ℕ) (reply : Reply) → IsIn (AnswersRead reader reply) (lines (Found (record { 0 = 70 }))) → reply ≡ Found (record { 0 = 70 })
told_70 reader reply (inl same) = cc
told_70 reader reply (inr (inl same)) = cc
told_70 reader reply (inr (inr (inl same))) = cc
told_70 reader reply (inr (inr (inr (inl same)))) = cc
told_70 reader reply (inr (inr (inr (inr none)))) = absurd none

right_time : (its : KeeperState) (one other : SessionState) → LeavesInTime (run_by right_tables (opened_world shape places its one other) read_begun) (run_by right_tables (opened_world shape places its one other) read_events)
right_time its one other reader reply is =
    let told : reply ≡ Found (record { 0 = 70 }) = told_70 reader reply (subst (λ (x : List TraceLine). IsIn (AnswersRead reader reply) x) (right_lines its one other) is) in
    let time : IsInTime no_map given given 5 reply = record { between = []; newer = []; all = refl; value = told ∙ sym (ap reply_to_read value_given) } in
    subst (λ (h : List HistoryEntry). IsInTime no_map h (history_of (effects_in_log (run_by right_tables (opened_world shape places its one other) read_events).past.history)) 5 reply) (sym (right_before its one other))
    (subst (λ (h : List HistoryEntry). IsInTime no_map given h 5 reply) (sym (right_given its one other)) time)

pub wrong_prefixes : (its : KeeperState) (one other : SessionState) → AreWrongPrefixes its one other
wrong_prefixes its one other = record {
  shape = shape;
  places = places;
  fits = places_fit;
  opened = world_opened (with_point_kept its) one other;
  untold = wrong_told its one other;
  told_right = right_told its one other;
  unturned = wrong_turn its one other;
  fallen = wrong_rising its one other;
  late = wrong_time its one other;
  in_time_right = right_time its one other;
}
