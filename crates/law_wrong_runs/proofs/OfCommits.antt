-- The lives in which a clause of the law of prefixes fails, by computing them.
use Rattle.std.proofs.Common.{◌≡◌, inl, inr, ℕ, zero, suc, ◌≤◌, ◌∙◌, List, [], ◌∷◌, refl, sym, ap, subst, arith, true}
use Rattle.std.specs.Prelude.{Option, Some, None, IsSome}
use Rattle.std.specs.FinMap.{get, get-empty}
use Rattle.std.specs.Ordering.{nat_cmp}
use Rattle.std.proofs.lemmas.Bool.Decides.{nat_tests}
use Rattle.fkv_base.specs.declared.numbers.Serial.{Serial}
use Rattle.fkv_marks.specs.Marks.{mark}
use Rattle.law_order.specs.Below.fkv_commit.Commit.{Commit}
use Rattle.law_order.specs.Below.fkv_keeper.Keeping.{KeeperState}
use Rattle.law_order.specs.Below.fkv_core.Openings.{beginning}
use Rattle.fkv_map.specs.History.{IsLegal, IsWhole, content, kept, point_of}
use Rattle.fkv_map.specs.Map.{Map}
use Rattle.fkv_map.specs.declared.history.HistoryEntry.{HistoryEntry}
use Rattle.fkv_map.specs.declared.operations.Reply.TheVariants.{Nothing, Number}
use Rattle.fkv_map.proofs.Shown.{legal_each}
use Rattle.law_order.specs.Below.fkv_opening.TheOpened.{Opened}
use Rattle.law_order.specs.Below.fkv_session.Sessions.{SessionState}
use Rattle.law_order.specs.Below.fkv_world.Runs.{World, run}
use Rattle.law_order.specs.Below.fkv_world.World.{Now}
use Rattle.law_order.specs.Below.law_commit.BegunCommits.{BegunCommit, commit_opened, life_begun}
use Rattle.law_order.specs.Below.law_commit.PrefixPast.{PrefixPast, prefix_past, serials_asked}
use Rattle.law_order.specs.Below.law_commit.ToldPoints.{ToldPoint}
use Rattle.law_log.specs.Trace.{Effect, IsIn, history_of, upto, value_in}
use Rattle.law_log.specs.Worked.{adds_5, entry_of, gives_70, no_map}
use Rattle.law_order.specs.OneHistory.EachLife.{Life}
use Rattle.law_order.specs.Prefix.Law.{BeginsWithKept, IsToldDurable, TakesFairPoints, kept_of_all, points_of}
use Rattle.law_order.specs.Below.law_refine.Calls.Calls.{effects_in_log}
use Rattle.law_wrong_runs.specs.Tables.{add_copies_in_fuzzy_region, commit_keeps_nothing, right_tables, run_by, serial_is_told_as_durable}
use Rattle.law_wrong_runs.specs.WrongCommits.{AreWrongCommits, FollowsWith, IsBehind, NeverFollowsWith, giving_life, given_map, KeepsItsValues, KeepsLegal, KeepsValues, all_points, given_point, LeavesCurrent, LeavesDurable, TakesFair, asks_durable, begins_commit, new_world, past_by, with_nothing_kept}
use Rattle.law_wrong_runs.specs.WrongLives.{fuzzy_events, gives_1, opened_world}
use Rattle.law_order.proofs.OfOneHistory.WorkedShape.{places, shape}
use Rattle.law_wrong_runs.proofs.Computed.{effect_70, fuzzy_history, gives_value, is_fuzzy_history, not_80, places_fit, right_copied, world_opened}
use Rattle.law_order.specs.Below.fkv_session.Sessions as session_u
use Rattle.law_order.specs.Below.fkv_session.CatchingUp as catching_u
use Rattle.law_order.specs.Below.fkv_pending.Attempting as attempting_u
use Rattle.law_order.specs.Below.fkv_pending.Pending as pending_u
use Rattle.law_order.specs.Below.fkv_pending.Mailing as mailing_u
use Rattle.law_order.specs.Below.fkv_ops.Trying as trying_u
use Rattle.law_order.specs.Below.fkv_ops.Walking as walking_u
use Rattle.law_order.specs.Below.fkv_ops.Appending as appending_u
use Rattle.law_order.specs.Below.fkv_ops.HeaderWords as header_words_u
use Rattle.fkv_index.specs.Finding as finding_u
use Rattle.fkv_index.specs.Publishing as publishing_u
use Rattle.fkv_index.specs.Slots as slots_u
use Rattle.law_order.specs.Below.fkv_log.Reserving as reserving_u
use Rattle.law_order.specs.Below.fkv_log.Filling as filling_u
use Rattle.law_order.specs.Below.fkv_log.Loading as loading_u
use Rattle.law_order.specs.Below.fkv_log.Invalidating as invalidating_u
use Rattle.law_order.specs.Below.fkv_log.Moving as moving_u
use Rattle.law_order.specs.Below.fkv_log.Shifting as shifting_u
use Rattle.law_order.specs.Below.fkv_log.Turning as turning_u
use Rattle.fkv_epoch.specs.Refreshing as refreshing_u
use Rattle.fkv_epoch.specs.Scanning as scanning_u
use Rattle.fkv_epoch.specs.Claiming as claiming_u
use Rattle.fkv_epoch.specs.Raising as raising_u
use Rattle.fkv_epoch.specs.Arming as arming_u
use Rattle.fkv_plane.specs.Passing as passing_u
use Rattle.law_order.specs.Below.fkv_maintain.Maintaining as maintaining_u
use Rattle.law_order.specs.Below.fkv_keeper.Keeping as keeping_u
use Rattle.law_order.specs.Below.fkv_keeper.KeeperAsks as keeper_asks_u
use Rattle.law_order.specs.Below.fkv_flush.Flushing as flushing_u
use Rattle.law_order.specs.Below.fkv_flush.Serving as serving_u
use Rattle.law_order.specs.Below.fkv_world.World as world_u
use Rattle.law_order.specs.Below.fkv_world.Moves as moves_u
use Rattle.law_order.specs.Below.fkv_world.Past as past_u
use Rattle.law_order.specs.Below.fkv_world.Runs as runs_u
use Rattle.fkv_words.specs.PhaseWords as phase_words_u
use Rattle.law_order.specs.Below.fkv_commit.Deferring as defer_u
use Rattle.law_order.specs.Below.fkv_commit.Starting as start_u
use Rattle.law_order.specs.Below.fkv_keeper.KeeperRun as keeper_run_u
use Rattle.law_order.specs.Below.fkv_world.OwnEvents as own_u
use Rattle.law_order.specs.Below.law_commit.BegunCommits as begun_u
use Rattle.law_order.specs.Below.law_commit.PrefixPast as asked_u

abbrev world : KeeperState → SessionState → SessionState → World
world its one other = new_world shape places its one other

-- ---- what is told as durable
abbrev serial_told : ToldPoint
serial_told = record { point = 1; finished = 0 }

abbrev nothing_told : ToldPoint
nothing_told = record { point = 0; finished = 0 }

-- no commit has begun but the opening's
one_begun : (its : KeeperState) (one other : SessionState) → life_begun (world its one other) asks_durable ≡ commit_opened (world its one other).now [] ∷ []
unfolding places shape session_u.sitting_ask session_u.attempts session_u.polls_at session_u.op_begun session_u.refresh_call session_u.poll_call session_u.sleep_call session_u.wake_call session_u.accepts session_u.shifts session_u.attempt_ledto session_u.catch_ledto session_u.clear_ledto session_u.finishes_request session_u.keeps_request session_u.poll_ledto session_u.turn_ledto session_u.leave_ledto session_u.sitting_next session_u.sitting_given catching_u.catching_ask catching_u.refresh_ledto catching_u.protect_ledto catching_u.latch_ledto catching_u.finish_ledto catching_u.latch_marked catching_u.catching_requests catching_u.catching_next attempting_u.attempting_ask attempting_u.look_ledto attempting_u.try_ledto attempting_u.put_ledto attempting_u.attempting_next pending_u.with_sought pending_u.with_held pending_u.with_latch pending_u.with_asked mailing_u.mail_ask mailing_u.mail_next trying_u.trying_ask trying_u.ends_so trying_u.ends trying_u.shared_ledto trying_u.appends trying_u.copies_from mark trying_u.copies trying_u.held_used trying_u.walk_ledto trying_u.current_ledto trying_u.answer_ledto trying_u.exclusive_ledto trying_u.old_ledto trying_u.append_ledto trying_u.exclusive_dropped trying_u.shared_dropped trying_u.trying_next walking_u.walking_ask walking_u.find_ledto walking_u.load_ledto walking_u.value_ledto walking_u.walking_next walking_u.walking_on appending_u.appending_ask appending_u.reserve_ledto appending_u.fill_ledto appending_u.publish_ledto appending_u.invalidate_ledto appending_u.appending_next header_words_u.header_said finding_u.find_step_ask finding_u.find_led publishing_u.publish_ask publishing_u.publish_next publishing_u.publish_next_ask slots_u.slot_word reserving_u.reserve_ask reserving_u.reserve_next reserving_u.reserve_next_ask filling_u.fill_ask filling_u.fill_next loading_u.load_ask loading_u.load_next loading_u.load_next_ask loading_u.load_on invalidating_u.invalidate_ask invalidating_u.invalidate_next moving_u.moving_ask moving_u.raise_led moving_u.arm_led moving_u.moving_next moving_u.raise_told moving_u.moving_next_ask shifting_u.shifting_ask shifting_u.shift_led shifting_u.shifting_next shifting_u.move_told shifting_u.shifting_next_ask turning_u.turning_ask turning_u.turn_led turning_u.turning_next turning_u.turn_told turning_u.turning_next_ask refreshing_u.refresh_ask refreshing_u.refresh_next refreshing_u.refresh_finish scanning_u.scan_ask scanning_u.sessions_from scanning_u.least_of scanning_u.scan_next claiming_u.claim_ask claiming_u.slot_after claiming_u.slot_armed claiming_u.claim_next claiming_u.claim_given raising_u.raise_ask raising_u.free_after raising_u.raise_next raising_u.raise_next_ask raising_u.raise_on arming_u.arm_ask arming_u.arm_next passing_u.passed maintaining_u.device_asked maintaining_u.maintaining_ask maintaining_u.scan_ledto maintaining_u.claim_ledto maintaining_u.flush_ledto maintaining_u.shift_ledto maintaining_u.serve_ledto maintaining_u.turn_ledto maintaining_u.maintaining_next maintaining_u.maintaining_given maintaining_u.maintaining_called maintaining_u.maintaining_calls maintaining_u.maintaining_made keeping_u.device_passed keeping_u.keeping_ask keeping_u.start_ledto keeping_u.maintain_ledto keeping_u.phase_ledto keeping_u.keeping_next keeping_u.keeping_given keeping_u.keeping_called keeper_asks_u.keeping_read keeper_asks_u.keeping_made keeper_asks_u.keeping_calls flushing_u.flush_ask flushing_u.flush_next flushing_u.bytes_next flushing_u.flush_calls flushing_u.flush_done flushing_u.bytes_done flushing_u.count_next flushing_u.count_done serving_u.serve_ask serving_u.mailbox_from serving_u.serve_next serving_u.serve_read serving_u.mail_place world_u.life_goes moves_u.session_settled moves_u.session_asks moves_u.keeper_settled moves_u.keeper_asks past_u.history_after past_u.life_past runs_u.run phase_words_u.phase_said run_by defer_u.deferring_ask defer_u.seek_ledto defer_u.raise_ledto defer_u.arm_ledto defer_u.deferring_next defer_u.deferring_on start_u.starting_ask start_u.seek_led start_u.defer_led start_u.starting_next keeper_run_u.keeper_happens keeper_run_u.keeper_run own_u.keeper_slots own_u.keeper_steps own_u.keeper_part own_u.keeper_events begun_u.commits_begun asked_u.serials_asked
one_begun its one other = refl

is_told : (its : KeeperState) (one other : SessionState) → (past_by serial_is_told_as_durable (world its one other) asks_durable).told 0 ≡ serial_told ∷ []
unfolding places shape session_u.sitting_ask session_u.attempts session_u.polls_at session_u.op_begun session_u.refresh_call session_u.poll_call session_u.sleep_call session_u.wake_call session_u.accepts session_u.shifts session_u.attempt_ledto session_u.catch_ledto session_u.clear_ledto session_u.finishes_request session_u.keeps_request session_u.poll_ledto session_u.turn_ledto session_u.leave_ledto session_u.sitting_next session_u.sitting_given catching_u.catching_ask catching_u.refresh_ledto catching_u.protect_ledto catching_u.latch_ledto catching_u.finish_ledto catching_u.latch_marked catching_u.catching_requests catching_u.catching_next attempting_u.attempting_ask attempting_u.look_ledto attempting_u.try_ledto attempting_u.put_ledto attempting_u.attempting_next pending_u.with_sought pending_u.with_held pending_u.with_latch pending_u.with_asked mailing_u.mail_ask mailing_u.mail_next trying_u.trying_ask trying_u.ends_so trying_u.ends trying_u.shared_ledto trying_u.appends trying_u.copies_from mark trying_u.copies trying_u.held_used trying_u.walk_ledto trying_u.current_ledto trying_u.answer_ledto trying_u.exclusive_ledto trying_u.old_ledto trying_u.append_ledto trying_u.exclusive_dropped trying_u.shared_dropped trying_u.trying_next walking_u.walking_ask walking_u.find_ledto walking_u.load_ledto walking_u.value_ledto walking_u.walking_next walking_u.walking_on appending_u.appending_ask appending_u.reserve_ledto appending_u.fill_ledto appending_u.publish_ledto appending_u.invalidate_ledto appending_u.appending_next header_words_u.header_said finding_u.find_step_ask finding_u.find_led publishing_u.publish_ask publishing_u.publish_next publishing_u.publish_next_ask slots_u.slot_word reserving_u.reserve_ask reserving_u.reserve_next reserving_u.reserve_next_ask filling_u.fill_ask filling_u.fill_next loading_u.load_ask loading_u.load_next loading_u.load_next_ask loading_u.load_on invalidating_u.invalidate_ask invalidating_u.invalidate_next moving_u.moving_ask moving_u.raise_led moving_u.arm_led moving_u.moving_next moving_u.raise_told moving_u.moving_next_ask shifting_u.shifting_ask shifting_u.shift_led shifting_u.shifting_next shifting_u.move_told shifting_u.shifting_next_ask turning_u.turning_ask turning_u.turn_led turning_u.turning_next turning_u.turn_told turning_u.turning_next_ask refreshing_u.refresh_ask refreshing_u.refresh_next refreshing_u.refresh_finish scanning_u.scan_ask scanning_u.sessions_from scanning_u.least_of scanning_u.scan_next claiming_u.claim_ask claiming_u.slot_after claiming_u.slot_armed claiming_u.claim_next claiming_u.claim_given raising_u.raise_ask raising_u.free_after raising_u.raise_next raising_u.raise_next_ask raising_u.raise_on arming_u.arm_ask arming_u.arm_next passing_u.passed maintaining_u.device_asked maintaining_u.maintaining_ask maintaining_u.scan_ledto maintaining_u.claim_ledto maintaining_u.flush_ledto maintaining_u.shift_ledto maintaining_u.serve_ledto maintaining_u.turn_ledto maintaining_u.maintaining_next maintaining_u.maintaining_given maintaining_u.maintaining_called maintaining_u.maintaining_calls maintaining_u.maintaining_made keeping_u.device_passed keeping_u.keeping_ask keeping_u.start_ledto keeping_u.maintain_ledto keeping_u.phase_ledto keeping_u.keeping_next keeping_u.keeping_given keeping_u.keeping_called keeper_asks_u.keeping_read keeper_asks_u.keeping_made keeper_asks_u.keeping_calls flushing_u.flush_ask flushing_u.flush_next flushing_u.bytes_next flushing_u.flush_calls flushing_u.flush_done flushing_u.bytes_done flushing_u.count_next flushing_u.count_done serving_u.serve_ask serving_u.mailbox_from serving_u.serve_next serving_u.serve_read serving_u.mail_place world_u.life_goes moves_u.session_settled moves_u.session_asks moves_u.keeper_settled moves_u.keeper_asks past_u.history_after past_u.life_past runs_u.run phase_words_u.phase_said run_by defer_u.deferring_ask defer_u.seek_ledto defer_u.raise_ledto defer_u.arm_ledto defer_u.deferring_next defer_u.deferring_on start_u.starting_ask start_u.seek_led start_u.defer_led start_u.starting_next keeper_run_u.keeper_happens keeper_run_u.keeper_run own_u.keeper_slots own_u.keeper_steps own_u.keeper_part own_u.keeper_events begun_u.commits_begun asked_u.serials_asked
is_told its one other = refl

is_told_right : (its : KeeperState) (one other : SessionState) → (past_by right_tables (world its one other) asks_durable).told 0 ≡ nothing_told ∷ []
unfolding places shape session_u.sitting_ask session_u.attempts session_u.polls_at session_u.op_begun session_u.refresh_call session_u.poll_call session_u.sleep_call session_u.wake_call session_u.accepts session_u.shifts session_u.attempt_ledto session_u.catch_ledto session_u.clear_ledto session_u.finishes_request session_u.keeps_request session_u.poll_ledto session_u.turn_ledto session_u.leave_ledto session_u.sitting_next session_u.sitting_given catching_u.catching_ask catching_u.refresh_ledto catching_u.protect_ledto catching_u.latch_ledto catching_u.finish_ledto catching_u.latch_marked catching_u.catching_requests catching_u.catching_next attempting_u.attempting_ask attempting_u.look_ledto attempting_u.try_ledto attempting_u.put_ledto attempting_u.attempting_next pending_u.with_sought pending_u.with_held pending_u.with_latch pending_u.with_asked mailing_u.mail_ask mailing_u.mail_next trying_u.trying_ask trying_u.ends_so trying_u.ends trying_u.shared_ledto trying_u.appends trying_u.copies_from mark trying_u.copies trying_u.held_used trying_u.walk_ledto trying_u.current_ledto trying_u.answer_ledto trying_u.exclusive_ledto trying_u.old_ledto trying_u.append_ledto trying_u.exclusive_dropped trying_u.shared_dropped trying_u.trying_next walking_u.walking_ask walking_u.find_ledto walking_u.load_ledto walking_u.value_ledto walking_u.walking_next walking_u.walking_on appending_u.appending_ask appending_u.reserve_ledto appending_u.fill_ledto appending_u.publish_ledto appending_u.invalidate_ledto appending_u.appending_next header_words_u.header_said finding_u.find_step_ask finding_u.find_led publishing_u.publish_ask publishing_u.publish_next publishing_u.publish_next_ask slots_u.slot_word reserving_u.reserve_ask reserving_u.reserve_next reserving_u.reserve_next_ask filling_u.fill_ask filling_u.fill_next loading_u.load_ask loading_u.load_next loading_u.load_next_ask loading_u.load_on invalidating_u.invalidate_ask invalidating_u.invalidate_next moving_u.moving_ask moving_u.raise_led moving_u.arm_led moving_u.moving_next moving_u.raise_told moving_u.moving_next_ask shifting_u.shifting_ask shifting_u.shift_led shifting_u.shifting_next shifting_u.move_told shifting_u.shifting_next_ask turning_u.turning_ask turning_u.turn_led turning_u.turning_next turning_u.turn_told turning_u.turning_next_ask refreshing_u.refresh_ask refreshing_u.refresh_next refreshing_u.refresh_finish scanning_u.scan_ask scanning_u.sessions_from scanning_u.least_of scanning_u.scan_next claiming_u.claim_ask claiming_u.slot_after claiming_u.slot_armed claiming_u.claim_next claiming_u.claim_given raising_u.raise_ask raising_u.free_after raising_u.raise_next raising_u.raise_next_ask raising_u.raise_on arming_u.arm_ask arming_u.arm_next passing_u.passed maintaining_u.device_asked maintaining_u.maintaining_ask maintaining_u.scan_ledto maintaining_u.claim_ledto maintaining_u.flush_ledto maintaining_u.shift_ledto maintaining_u.serve_ledto maintaining_u.turn_ledto maintaining_u.maintaining_next maintaining_u.maintaining_given maintaining_u.maintaining_called maintaining_u.maintaining_calls maintaining_u.maintaining_made keeping_u.device_passed keeping_u.keeping_ask keeping_u.start_ledto keeping_u.maintain_ledto keeping_u.phase_ledto keeping_u.keeping_next keeping_u.keeping_given keeping_u.keeping_called keeper_asks_u.keeping_read keeper_asks_u.keeping_made keeper_asks_u.keeping_calls flushing_u.flush_ask flushing_u.flush_next flushing_u.bytes_next flushing_u.flush_calls flushing_u.flush_done flushing_u.bytes_done flushing_u.count_next flushing_u.count_done serving_u.serve_ask serving_u.mailbox_from serving_u.serve_next serving_u.serve_read serving_u.mail_place world_u.life_goes moves_u.session_settled moves_u.session_asks moves_u.keeper_settled moves_u.keeper_asks past_u.history_after past_u.life_past runs_u.run phase_words_u.phase_said run_by defer_u.deferring_ask defer_u.seek_ledto defer_u.raise_ledto defer_u.arm_ledto defer_u.deferring_next defer_u.deferring_on start_u.starting_ask start_u.seek_led start_u.defer_led start_u.starting_next keeper_run_u.keeper_happens keeper_run_u.keeper_run own_u.keeper_slots own_u.keeper_steps own_u.keeper_part own_u.keeper_events begun_u.commits_begun asked_u.serials_asked
is_told_right its one other = refl

-- whose points are 0
no_point : (first c : BegunCommit) (begun : List BegunCommit) → begun ≡ first ∷ [] → first.points ≡ [] → IsIn c begun → point_of c.points 0 ≡ 0
no_point first c begun one none is = by_place (subst (λ (x : List BegunCommit). IsIn c x) one is)
  where
    by_place : IsIn c (first ∷ []) → point_of c.points 0 ≡ 0
    by_place (inl same) = ap (λ (points : List Serial). point_of points 0) (sym (ap (λ (x : BegunCommit). x.points) same) ∙ none)
    by_place (inr other) = absurd other

pub wrong_durable : (its : KeeperState) (one other : SessionState) (o : Opened) → LeavesDurable o serial_is_told_as_durable (world its one other) asks_durable → ⊥
wrong_durable its one other o durable =
    let told = durable serial_told (subst (λ (x : List ToldPoint). IsIn serial_told x) (sym (is_told its one other)) (inl refl)) in
    let c : BegunCommit = told.commit in
    let point : 1 ≡ point_of c.points 0 = told.point in
    let none = no_point (commit_opened (world its one other).now []) c _ (one_begun its one other) refl told.begun in
    omega (arith, point, none)

pub wrong_current : (its : KeeperState) (one other : SessionState) → LeavesCurrent serial_is_told_as_durable (world its one other) asks_durable → ⊥
wrong_current its one other current =
    let c : BegunCommit = current.0 in
    let is = current.1 in
    let low : 1 ≤ point_of c.points 0 = is.durable 0 serial_told (subst (λ (x : List ToldPoint). IsIn serial_told x) (sym (is_told its one other)) (inl refl)) in
    let none = no_point (commit_opened (world its one other).now []) c _ (one_begun its one other) refl is.begun in
    omega (arith, low, none)

pub right_durable : (its : KeeperState) (one other : SessionState) (o : Opened) → LeavesDurable o right_tables (world its one other) asks_durable
right_durable its one other o told is = by_place (subst (λ (x : List ToldPoint). IsIn told x) (is_told_right its one other) is)
  where
    by_place : IsIn told (nothing_told ∷ []) → IsToldDurable o (past_by right_tables (world its one other) asks_durable) 0 told
    by_place (inl same) = record {
      commit = commit_opened (world its one other).now [];
      begun = subst (λ (x : List BegunCommit). IsIn (commit_opened (world its one other).now []) x) (sym (one_begun its one other)) (inl refl);
      is_sealed = refl;
      point = sym (ap (λ (x : ToldPoint). x.point) same);
      since = λ d is_in among.
          let none = no_point (commit_opened (world its one other).now []) d _ (one_begun its one other) refl is_in in
          omega (arith, none);
    }
    by_place (inr rest) = absurd rest

-- ---- points that keep nothing
not_fair : (now : Now) (past : PrefixPast) (found : Option Commit) → now.keeper.commit ≡ found → IsSome found → now.keeper.has_points ≡ true → past.asked 0 ≡ 1 → now.keeper.seek.points ≡ [] → TakesFairPoints now past → ⊥
not_fair now past None in_hand some taken asked none fair = cc
not_fair now past (Some c) in_hand some taken asked none fair =
    let its = fair c in_hand taken 0 in
    let since = its.since_asked in
    let point : point_of now.keeper.seek.points 0 ≡ 0 = ap (λ (points : List Serial). point_of points 0) none in
    omega (arith, since, asked, point)

has_asked : (its : KeeperState) (one other : SessionState) → serials_asked (world its one other) begins_commit 0 ≡ 1
unfolding places shape session_u.sitting_ask session_u.attempts session_u.polls_at session_u.op_begun session_u.refresh_call session_u.poll_call session_u.sleep_call session_u.wake_call session_u.accepts session_u.shifts session_u.attempt_ledto session_u.catch_ledto session_u.clear_ledto session_u.finishes_request session_u.keeps_request session_u.poll_ledto session_u.turn_ledto session_u.leave_ledto session_u.sitting_next session_u.sitting_given catching_u.catching_ask catching_u.refresh_ledto catching_u.protect_ledto catching_u.latch_ledto catching_u.finish_ledto catching_u.latch_marked catching_u.catching_requests catching_u.catching_next attempting_u.attempting_ask attempting_u.look_ledto attempting_u.try_ledto attempting_u.put_ledto attempting_u.attempting_next pending_u.with_sought pending_u.with_held pending_u.with_latch pending_u.with_asked mailing_u.mail_ask mailing_u.mail_next trying_u.trying_ask trying_u.ends_so trying_u.ends trying_u.shared_ledto trying_u.appends trying_u.copies_from mark trying_u.copies trying_u.held_used trying_u.walk_ledto trying_u.current_ledto trying_u.answer_ledto trying_u.exclusive_ledto trying_u.old_ledto trying_u.append_ledto trying_u.exclusive_dropped trying_u.shared_dropped trying_u.trying_next walking_u.walking_ask walking_u.find_ledto walking_u.load_ledto walking_u.value_ledto walking_u.walking_next walking_u.walking_on appending_u.appending_ask appending_u.reserve_ledto appending_u.fill_ledto appending_u.publish_ledto appending_u.invalidate_ledto appending_u.appending_next header_words_u.header_said finding_u.find_step_ask finding_u.find_led publishing_u.publish_ask publishing_u.publish_next publishing_u.publish_next_ask slots_u.slot_word reserving_u.reserve_ask reserving_u.reserve_next reserving_u.reserve_next_ask filling_u.fill_ask filling_u.fill_next loading_u.load_ask loading_u.load_next loading_u.load_next_ask loading_u.load_on invalidating_u.invalidate_ask invalidating_u.invalidate_next moving_u.moving_ask moving_u.raise_led moving_u.arm_led moving_u.moving_next moving_u.raise_told moving_u.moving_next_ask shifting_u.shifting_ask shifting_u.shift_led shifting_u.shifting_next shifting_u.move_told shifting_u.shifting_next_ask turning_u.turning_ask turning_u.turn_led turning_u.turning_next turning_u.turn_told turning_u.turning_next_ask refreshing_u.refresh_ask refreshing_u.refresh_next refreshing_u.refresh_finish scanning_u.scan_ask scanning_u.sessions_from scanning_u.least_of scanning_u.scan_next claiming_u.claim_ask claiming_u.slot_after claiming_u.slot_armed claiming_u.claim_next claiming_u.claim_given raising_u.raise_ask raising_u.free_after raising_u.raise_next raising_u.raise_next_ask raising_u.raise_on arming_u.arm_ask arming_u.arm_next passing_u.passed maintaining_u.device_asked maintaining_u.maintaining_ask maintaining_u.scan_ledto maintaining_u.claim_ledto maintaining_u.flush_ledto maintaining_u.shift_ledto maintaining_u.serve_ledto maintaining_u.turn_ledto maintaining_u.maintaining_next maintaining_u.maintaining_given maintaining_u.maintaining_called maintaining_u.maintaining_calls maintaining_u.maintaining_made keeping_u.device_passed keeping_u.keeping_ask keeping_u.start_ledto keeping_u.maintain_ledto keeping_u.phase_ledto keeping_u.keeping_next keeping_u.keeping_given keeping_u.keeping_called keeper_asks_u.keeping_read keeper_asks_u.keeping_made keeper_asks_u.keeping_calls flushing_u.flush_ask flushing_u.flush_next flushing_u.bytes_next flushing_u.flush_calls flushing_u.flush_done flushing_u.bytes_done flushing_u.count_next flushing_u.count_done serving_u.serve_ask serving_u.mailbox_from serving_u.serve_next serving_u.serve_read serving_u.mail_place world_u.life_goes moves_u.session_settled moves_u.session_asks moves_u.keeper_settled moves_u.keeper_asks past_u.history_after past_u.life_past runs_u.run phase_words_u.phase_said run_by defer_u.deferring_ask defer_u.seek_ledto defer_u.raise_ledto defer_u.arm_ledto defer_u.deferring_next defer_u.deferring_on start_u.starting_ask start_u.seek_led start_u.defer_led start_u.starting_next keeper_run_u.keeper_happens keeper_run_u.keeper_run own_u.keeper_slots own_u.keeper_steps own_u.keeper_part own_u.keeper_events begun_u.commits_begun asked_u.serials_asked
has_asked its one other = refl

has_begun : (its : KeeperState) (one other : SessionState) → IsSome (run_by commit_keeps_nothing (world its one other) begins_commit).now.keeper.commit
unfolding places shape session_u.sitting_ask session_u.attempts session_u.polls_at session_u.op_begun session_u.refresh_call session_u.poll_call session_u.sleep_call session_u.wake_call session_u.accepts session_u.shifts session_u.attempt_ledto session_u.catch_ledto session_u.clear_ledto session_u.finishes_request session_u.keeps_request session_u.poll_ledto session_u.turn_ledto session_u.leave_ledto session_u.sitting_next session_u.sitting_given catching_u.catching_ask catching_u.refresh_ledto catching_u.protect_ledto catching_u.latch_ledto catching_u.finish_ledto catching_u.latch_marked catching_u.catching_requests catching_u.catching_next attempting_u.attempting_ask attempting_u.look_ledto attempting_u.try_ledto attempting_u.put_ledto attempting_u.attempting_next pending_u.with_sought pending_u.with_held pending_u.with_latch pending_u.with_asked mailing_u.mail_ask mailing_u.mail_next trying_u.trying_ask trying_u.ends_so trying_u.ends trying_u.shared_ledto trying_u.appends trying_u.copies_from mark trying_u.copies trying_u.held_used trying_u.walk_ledto trying_u.current_ledto trying_u.answer_ledto trying_u.exclusive_ledto trying_u.old_ledto trying_u.append_ledto trying_u.exclusive_dropped trying_u.shared_dropped trying_u.trying_next walking_u.walking_ask walking_u.find_ledto walking_u.load_ledto walking_u.value_ledto walking_u.walking_next walking_u.walking_on appending_u.appending_ask appending_u.reserve_ledto appending_u.fill_ledto appending_u.publish_ledto appending_u.invalidate_ledto appending_u.appending_next header_words_u.header_said finding_u.find_step_ask finding_u.find_led publishing_u.publish_ask publishing_u.publish_next publishing_u.publish_next_ask slots_u.slot_word reserving_u.reserve_ask reserving_u.reserve_next reserving_u.reserve_next_ask filling_u.fill_ask filling_u.fill_next loading_u.load_ask loading_u.load_next loading_u.load_next_ask loading_u.load_on invalidating_u.invalidate_ask invalidating_u.invalidate_next moving_u.moving_ask moving_u.raise_led moving_u.arm_led moving_u.moving_next moving_u.raise_told moving_u.moving_next_ask shifting_u.shifting_ask shifting_u.shift_led shifting_u.shifting_next shifting_u.move_told shifting_u.shifting_next_ask turning_u.turning_ask turning_u.turn_led turning_u.turning_next turning_u.turn_told turning_u.turning_next_ask refreshing_u.refresh_ask refreshing_u.refresh_next refreshing_u.refresh_finish scanning_u.scan_ask scanning_u.sessions_from scanning_u.least_of scanning_u.scan_next claiming_u.claim_ask claiming_u.slot_after claiming_u.slot_armed claiming_u.claim_next claiming_u.claim_given raising_u.raise_ask raising_u.free_after raising_u.raise_next raising_u.raise_next_ask raising_u.raise_on arming_u.arm_ask arming_u.arm_next passing_u.passed maintaining_u.device_asked maintaining_u.maintaining_ask maintaining_u.scan_ledto maintaining_u.claim_ledto maintaining_u.flush_ledto maintaining_u.shift_ledto maintaining_u.serve_ledto maintaining_u.turn_ledto maintaining_u.maintaining_next maintaining_u.maintaining_given maintaining_u.maintaining_called maintaining_u.maintaining_calls maintaining_u.maintaining_made keeping_u.device_passed keeping_u.keeping_ask keeping_u.start_ledto keeping_u.maintain_ledto keeping_u.phase_ledto keeping_u.keeping_next keeping_u.keeping_given keeping_u.keeping_called keeper_asks_u.keeping_read keeper_asks_u.keeping_made keeper_asks_u.keeping_calls flushing_u.flush_ask flushing_u.flush_next flushing_u.bytes_next flushing_u.flush_calls flushing_u.flush_done flushing_u.bytes_done flushing_u.count_next flushing_u.count_done serving_u.serve_ask serving_u.mailbox_from serving_u.serve_next serving_u.serve_read serving_u.mail_place world_u.life_goes moves_u.session_settled moves_u.session_asks moves_u.keeper_settled moves_u.keeper_asks past_u.history_after past_u.life_past runs_u.run phase_words_u.phase_said run_by defer_u.deferring_ask defer_u.seek_ledto defer_u.raise_ledto defer_u.arm_ledto defer_u.deferring_next defer_u.deferring_on start_u.starting_ask start_u.seek_led start_u.defer_led start_u.starting_next keeper_run_u.keeper_happens keeper_run_u.keeper_run own_u.keeper_slots own_u.keeper_steps own_u.keeper_part own_u.keeper_events begun_u.commits_begun asked_u.serials_asked
has_begun its one other = refl

has_taken : (its : KeeperState) (one other : SessionState) → (run_by commit_keeps_nothing (world its one other) begins_commit).now.keeper.has_points ≡ true
unfolding places shape session_u.sitting_ask session_u.attempts session_u.polls_at session_u.op_begun session_u.refresh_call session_u.poll_call session_u.sleep_call session_u.wake_call session_u.accepts session_u.shifts session_u.attempt_ledto session_u.catch_ledto session_u.clear_ledto session_u.finishes_request session_u.keeps_request session_u.poll_ledto session_u.turn_ledto session_u.leave_ledto session_u.sitting_next session_u.sitting_given catching_u.catching_ask catching_u.refresh_ledto catching_u.protect_ledto catching_u.latch_ledto catching_u.finish_ledto catching_u.latch_marked catching_u.catching_requests catching_u.catching_next attempting_u.attempting_ask attempting_u.look_ledto attempting_u.try_ledto attempting_u.put_ledto attempting_u.attempting_next pending_u.with_sought pending_u.with_held pending_u.with_latch pending_u.with_asked mailing_u.mail_ask mailing_u.mail_next trying_u.trying_ask trying_u.ends_so trying_u.ends trying_u.shared_ledto trying_u.appends trying_u.copies_from mark trying_u.copies trying_u.held_used trying_u.walk_ledto trying_u.current_ledto trying_u.answer_ledto trying_u.exclusive_ledto trying_u.old_ledto trying_u.append_ledto trying_u.exclusive_dropped trying_u.shared_dropped trying_u.trying_next walking_u.walking_ask walking_u.find_ledto walking_u.load_ledto walking_u.value_ledto walking_u.walking_next walking_u.walking_on appending_u.appending_ask appending_u.reserve_ledto appending_u.fill_ledto appending_u.publish_ledto appending_u.invalidate_ledto appending_u.appending_next header_words_u.header_said finding_u.find_step_ask finding_u.find_led publishing_u.publish_ask publishing_u.publish_next publishing_u.publish_next_ask slots_u.slot_word reserving_u.reserve_ask reserving_u.reserve_next reserving_u.reserve_next_ask filling_u.fill_ask filling_u.fill_next loading_u.load_ask loading_u.load_next loading_u.load_next_ask loading_u.load_on invalidating_u.invalidate_ask invalidating_u.invalidate_next moving_u.moving_ask moving_u.raise_led moving_u.arm_led moving_u.moving_next moving_u.raise_told moving_u.moving_next_ask shifting_u.shifting_ask shifting_u.shift_led shifting_u.shifting_next shifting_u.move_told shifting_u.shifting_next_ask turning_u.turning_ask turning_u.turn_led turning_u.turning_next turning_u.turn_told turning_u.turning_next_ask refreshing_u.refresh_ask refreshing_u.refresh_next refreshing_u.refresh_finish scanning_u.scan_ask scanning_u.sessions_from scanning_u.least_of scanning_u.scan_next claiming_u.claim_ask claiming_u.slot_after claiming_u.slot_armed claiming_u.claim_next claiming_u.claim_given raising_u.raise_ask raising_u.free_after raising_u.raise_next raising_u.raise_next_ask raising_u.raise_on arming_u.arm_ask arming_u.arm_next passing_u.passed maintaining_u.device_asked maintaining_u.maintaining_ask maintaining_u.scan_ledto maintaining_u.claim_ledto maintaining_u.flush_ledto maintaining_u.shift_ledto maintaining_u.serve_ledto maintaining_u.turn_ledto maintaining_u.maintaining_next maintaining_u.maintaining_given maintaining_u.maintaining_called maintaining_u.maintaining_calls maintaining_u.maintaining_made keeping_u.device_passed keeping_u.keeping_ask keeping_u.start_ledto keeping_u.maintain_ledto keeping_u.phase_ledto keeping_u.keeping_next keeping_u.keeping_given keeping_u.keeping_called keeper_asks_u.keeping_read keeper_asks_u.keeping_made keeper_asks_u.keeping_calls flushing_u.flush_ask flushing_u.flush_next flushing_u.bytes_next flushing_u.flush_calls flushing_u.flush_done flushing_u.bytes_done flushing_u.count_next flushing_u.count_done serving_u.serve_ask serving_u.mailbox_from serving_u.serve_next serving_u.serve_read serving_u.mail_place world_u.life_goes moves_u.session_settled moves_u.session_asks moves_u.keeper_settled moves_u.keeper_asks past_u.history_after past_u.life_past runs_u.run phase_words_u.phase_said run_by defer_u.deferring_ask defer_u.seek_ledto defer_u.raise_ledto defer_u.arm_ledto defer_u.deferring_next defer_u.deferring_on start_u.starting_ask start_u.seek_led start_u.defer_led start_u.starting_next keeper_run_u.keeper_happens keeper_run_u.keeper_run own_u.keeper_slots own_u.keeper_steps own_u.keeper_part own_u.keeper_events begun_u.commits_begun asked_u.serials_asked
has_taken its one other = refl

keeps_none : (its : KeeperState) (one other : SessionState) → (run_by commit_keeps_nothing (world its one other) begins_commit).now.keeper.seek.points ≡ []
unfolding places shape session_u.sitting_ask session_u.attempts session_u.polls_at session_u.op_begun session_u.refresh_call session_u.poll_call session_u.sleep_call session_u.wake_call session_u.accepts session_u.shifts session_u.attempt_ledto session_u.catch_ledto session_u.clear_ledto session_u.finishes_request session_u.keeps_request session_u.poll_ledto session_u.turn_ledto session_u.leave_ledto session_u.sitting_next session_u.sitting_given catching_u.catching_ask catching_u.refresh_ledto catching_u.protect_ledto catching_u.latch_ledto catching_u.finish_ledto catching_u.latch_marked catching_u.catching_requests catching_u.catching_next attempting_u.attempting_ask attempting_u.look_ledto attempting_u.try_ledto attempting_u.put_ledto attempting_u.attempting_next pending_u.with_sought pending_u.with_held pending_u.with_latch pending_u.with_asked mailing_u.mail_ask mailing_u.mail_next trying_u.trying_ask trying_u.ends_so trying_u.ends trying_u.shared_ledto trying_u.appends trying_u.copies_from mark trying_u.copies trying_u.held_used trying_u.walk_ledto trying_u.current_ledto trying_u.answer_ledto trying_u.exclusive_ledto trying_u.old_ledto trying_u.append_ledto trying_u.exclusive_dropped trying_u.shared_dropped trying_u.trying_next walking_u.walking_ask walking_u.find_ledto walking_u.load_ledto walking_u.value_ledto walking_u.walking_next walking_u.walking_on appending_u.appending_ask appending_u.reserve_ledto appending_u.fill_ledto appending_u.publish_ledto appending_u.invalidate_ledto appending_u.appending_next header_words_u.header_said finding_u.find_step_ask finding_u.find_led publishing_u.publish_ask publishing_u.publish_next publishing_u.publish_next_ask slots_u.slot_word reserving_u.reserve_ask reserving_u.reserve_next reserving_u.reserve_next_ask filling_u.fill_ask filling_u.fill_next loading_u.load_ask loading_u.load_next loading_u.load_next_ask loading_u.load_on invalidating_u.invalidate_ask invalidating_u.invalidate_next moving_u.moving_ask moving_u.raise_led moving_u.arm_led moving_u.moving_next moving_u.raise_told moving_u.moving_next_ask shifting_u.shifting_ask shifting_u.shift_led shifting_u.shifting_next shifting_u.move_told shifting_u.shifting_next_ask turning_u.turning_ask turning_u.turn_led turning_u.turning_next turning_u.turn_told turning_u.turning_next_ask refreshing_u.refresh_ask refreshing_u.refresh_next refreshing_u.refresh_finish scanning_u.scan_ask scanning_u.sessions_from scanning_u.least_of scanning_u.scan_next claiming_u.claim_ask claiming_u.slot_after claiming_u.slot_armed claiming_u.claim_next claiming_u.claim_given raising_u.raise_ask raising_u.free_after raising_u.raise_next raising_u.raise_next_ask raising_u.raise_on arming_u.arm_ask arming_u.arm_next passing_u.passed maintaining_u.device_asked maintaining_u.maintaining_ask maintaining_u.scan_ledto maintaining_u.claim_ledto maintaining_u.flush_ledto maintaining_u.shift_ledto maintaining_u.serve_ledto maintaining_u.turn_ledto maintaining_u.maintaining_next maintaining_u.maintaining_given maintaining_u.maintaining_called maintaining_u.maintaining_calls maintaining_u.maintaining_made keeping_u.device_passed keeping_u.keeping_ask keeping_u.start_ledto keeping_u.maintain_ledto keeping_u.phase_ledto keeping_u.keeping_next keeping_u.keeping_given keeping_u.keeping_called keeper_asks_u.keeping_read keeper_asks_u.keeping_made keeper_asks_u.keeping_calls flushing_u.flush_ask flushing_u.flush_next flushing_u.bytes_next flushing_u.flush_calls flushing_u.flush_done flushing_u.bytes_done flushing_u.count_next flushing_u.count_done serving_u.serve_ask serving_u.mailbox_from serving_u.serve_next serving_u.serve_read serving_u.mail_place world_u.life_goes moves_u.session_settled moves_u.session_asks moves_u.keeper_settled moves_u.keeper_asks past_u.history_after past_u.life_past runs_u.run phase_words_u.phase_said run_by defer_u.deferring_ask defer_u.seek_ledto defer_u.raise_ledto defer_u.arm_ledto defer_u.deferring_next defer_u.deferring_on start_u.starting_ask start_u.seek_led start_u.defer_led start_u.starting_next keeper_run_u.keeper_happens keeper_run_u.keeper_run own_u.keeper_slots own_u.keeper_steps own_u.keeper_part own_u.keeper_events begun_u.commits_begun asked_u.serials_asked
keeps_none its one other = refl

pub wrong_fair : (its : KeeperState) (one other : SessionState) → TakesFair commit_keeps_nothing (world its one other) begins_commit → ⊥
wrong_fair its one other fair =
    not_fair (run_by commit_keeps_nothing (world its one other) begins_commit).now (prefix_past (world its one other) begins_commit) _ refl (has_begun its one other) (has_taken its one other) (has_asked its one other) (keeps_none its one other) fair

-- an image of it has the value that was given
number_of : Option Commit → Option ℕ
number_of None = None
number_of (Some c) = Some c.number.0

its_number : (its : KeeperState) (one other : SessionState) → number_of (run_by commit_keeps_nothing (world its one other) begins_commit).now.keeper.commit ≡ Some 1
unfolding places shape session_u.sitting_ask session_u.attempts session_u.polls_at session_u.op_begun session_u.refresh_call session_u.poll_call session_u.sleep_call session_u.wake_call session_u.accepts session_u.shifts session_u.attempt_ledto session_u.catch_ledto session_u.clear_ledto session_u.finishes_request session_u.keeps_request session_u.poll_ledto session_u.turn_ledto session_u.leave_ledto session_u.sitting_next session_u.sitting_given catching_u.catching_ask catching_u.refresh_ledto catching_u.protect_ledto catching_u.latch_ledto catching_u.finish_ledto catching_u.latch_marked catching_u.catching_requests catching_u.catching_next attempting_u.attempting_ask attempting_u.look_ledto attempting_u.try_ledto attempting_u.put_ledto attempting_u.attempting_next pending_u.with_sought pending_u.with_held pending_u.with_latch pending_u.with_asked mailing_u.mail_ask mailing_u.mail_next trying_u.trying_ask trying_u.ends_so trying_u.ends trying_u.shared_ledto trying_u.appends trying_u.copies_from mark trying_u.copies trying_u.held_used trying_u.walk_ledto trying_u.current_ledto trying_u.answer_ledto trying_u.exclusive_ledto trying_u.old_ledto trying_u.append_ledto trying_u.exclusive_dropped trying_u.shared_dropped trying_u.trying_next walking_u.walking_ask walking_u.find_ledto walking_u.load_ledto walking_u.value_ledto walking_u.walking_next walking_u.walking_on appending_u.appending_ask appending_u.reserve_ledto appending_u.fill_ledto appending_u.publish_ledto appending_u.invalidate_ledto appending_u.appending_next header_words_u.header_said finding_u.find_step_ask finding_u.find_led publishing_u.publish_ask publishing_u.publish_next publishing_u.publish_next_ask slots_u.slot_word reserving_u.reserve_ask reserving_u.reserve_next reserving_u.reserve_next_ask filling_u.fill_ask filling_u.fill_next loading_u.load_ask loading_u.load_next loading_u.load_next_ask loading_u.load_on invalidating_u.invalidate_ask invalidating_u.invalidate_next moving_u.moving_ask moving_u.raise_led moving_u.arm_led moving_u.moving_next moving_u.raise_told moving_u.moving_next_ask shifting_u.shifting_ask shifting_u.shift_led shifting_u.shifting_next shifting_u.move_told shifting_u.shifting_next_ask turning_u.turning_ask turning_u.turn_led turning_u.turning_next turning_u.turn_told turning_u.turning_next_ask refreshing_u.refresh_ask refreshing_u.refresh_next refreshing_u.refresh_finish scanning_u.scan_ask scanning_u.sessions_from scanning_u.least_of scanning_u.scan_next claiming_u.claim_ask claiming_u.slot_after claiming_u.slot_armed claiming_u.claim_next claiming_u.claim_given raising_u.raise_ask raising_u.free_after raising_u.raise_next raising_u.raise_next_ask raising_u.raise_on arming_u.arm_ask arming_u.arm_next passing_u.passed maintaining_u.device_asked maintaining_u.maintaining_ask maintaining_u.scan_ledto maintaining_u.claim_ledto maintaining_u.flush_ledto maintaining_u.shift_ledto maintaining_u.serve_ledto maintaining_u.turn_ledto maintaining_u.maintaining_next maintaining_u.maintaining_given maintaining_u.maintaining_called maintaining_u.maintaining_calls maintaining_u.maintaining_made keeping_u.device_passed keeping_u.keeping_ask keeping_u.start_ledto keeping_u.maintain_ledto keeping_u.phase_ledto keeping_u.keeping_next keeping_u.keeping_given keeping_u.keeping_called keeper_asks_u.keeping_read keeper_asks_u.keeping_made keeper_asks_u.keeping_calls flushing_u.flush_ask flushing_u.flush_next flushing_u.bytes_next flushing_u.flush_calls flushing_u.flush_done flushing_u.bytes_done flushing_u.count_next flushing_u.count_done serving_u.serve_ask serving_u.mailbox_from serving_u.serve_next serving_u.serve_read serving_u.mail_place world_u.life_goes moves_u.session_settled moves_u.session_asks moves_u.keeper_settled moves_u.keeper_asks past_u.history_after past_u.life_past runs_u.run phase_words_u.phase_said run_by defer_u.deferring_ask defer_u.seek_ledto defer_u.raise_ledto defer_u.arm_ledto defer_u.deferring_next defer_u.deferring_on start_u.starting_ask start_u.seek_led start_u.defer_led start_u.starting_next keeper_run_u.keeper_happens keeper_run_u.keeper_run own_u.keeper_slots own_u.keeper_steps own_u.keeper_part own_u.keeper_events begun_u.commits_begun asked_u.serials_asked number_of
its_number its one other = refl

has_given : (its : KeeperState) (one other : SessionState) → effects_in_log (run_by commit_keeps_nothing (world its one other) begins_commit).past.history ≡ effect_70 ∷ []
unfolding places shape session_u.sitting_ask session_u.attempts session_u.polls_at session_u.op_begun session_u.refresh_call session_u.poll_call session_u.sleep_call session_u.wake_call session_u.accepts session_u.shifts session_u.attempt_ledto session_u.catch_ledto session_u.clear_ledto session_u.finishes_request session_u.keeps_request session_u.poll_ledto session_u.turn_ledto session_u.leave_ledto session_u.sitting_next session_u.sitting_given catching_u.catching_ask catching_u.refresh_ledto catching_u.protect_ledto catching_u.latch_ledto catching_u.finish_ledto catching_u.latch_marked catching_u.catching_requests catching_u.catching_next attempting_u.attempting_ask attempting_u.look_ledto attempting_u.try_ledto attempting_u.put_ledto attempting_u.attempting_next pending_u.with_sought pending_u.with_held pending_u.with_latch pending_u.with_asked mailing_u.mail_ask mailing_u.mail_next trying_u.trying_ask trying_u.ends_so trying_u.ends trying_u.shared_ledto trying_u.appends trying_u.copies_from mark trying_u.copies trying_u.held_used trying_u.walk_ledto trying_u.current_ledto trying_u.answer_ledto trying_u.exclusive_ledto trying_u.old_ledto trying_u.append_ledto trying_u.exclusive_dropped trying_u.shared_dropped trying_u.trying_next walking_u.walking_ask walking_u.find_ledto walking_u.load_ledto walking_u.value_ledto walking_u.walking_next walking_u.walking_on appending_u.appending_ask appending_u.reserve_ledto appending_u.fill_ledto appending_u.publish_ledto appending_u.invalidate_ledto appending_u.appending_next header_words_u.header_said finding_u.find_step_ask finding_u.find_led publishing_u.publish_ask publishing_u.publish_next publishing_u.publish_next_ask slots_u.slot_word reserving_u.reserve_ask reserving_u.reserve_next reserving_u.reserve_next_ask filling_u.fill_ask filling_u.fill_next loading_u.load_ask loading_u.load_next loading_u.load_next_ask loading_u.load_on invalidating_u.invalidate_ask invalidating_u.invalidate_next moving_u.moving_ask moving_u.raise_led moving_u.arm_led moving_u.moving_next moving_u.raise_told moving_u.moving_next_ask shifting_u.shifting_ask shifting_u.shift_led shifting_u.shifting_next shifting_u.move_told shifting_u.shifting_next_ask turning_u.turning_ask turning_u.turn_led turning_u.turning_next turning_u.turn_told turning_u.turning_next_ask refreshing_u.refresh_ask refreshing_u.refresh_next refreshing_u.refresh_finish scanning_u.scan_ask scanning_u.sessions_from scanning_u.least_of scanning_u.scan_next claiming_u.claim_ask claiming_u.slot_after claiming_u.slot_armed claiming_u.claim_next claiming_u.claim_given raising_u.raise_ask raising_u.free_after raising_u.raise_next raising_u.raise_next_ask raising_u.raise_on arming_u.arm_ask arming_u.arm_next passing_u.passed maintaining_u.device_asked maintaining_u.maintaining_ask maintaining_u.scan_ledto maintaining_u.claim_ledto maintaining_u.flush_ledto maintaining_u.shift_ledto maintaining_u.serve_ledto maintaining_u.turn_ledto maintaining_u.maintaining_next maintaining_u.maintaining_given maintaining_u.maintaining_called maintaining_u.maintaining_calls maintaining_u.maintaining_made keeping_u.device_passed keeping_u.keeping_ask keeping_u.start_ledto keeping_u.maintain_ledto keeping_u.phase_ledto keeping_u.keeping_next keeping_u.keeping_given keeping_u.keeping_called keeper_asks_u.keeping_read keeper_asks_u.keeping_made keeper_asks_u.keeping_calls flushing_u.flush_ask flushing_u.flush_next flushing_u.bytes_next flushing_u.flush_calls flushing_u.flush_done flushing_u.bytes_done flushing_u.count_next flushing_u.count_done serving_u.serve_ask serving_u.mailbox_from serving_u.serve_next serving_u.serve_read serving_u.mail_place world_u.life_goes moves_u.session_settled moves_u.session_asks moves_u.keeper_settled moves_u.keeper_asks past_u.history_after past_u.life_past runs_u.run phase_words_u.phase_said run_by defer_u.deferring_ask defer_u.seek_ledto defer_u.raise_ledto defer_u.arm_ledto defer_u.deferring_next defer_u.deferring_on start_u.starting_ask start_u.seek_led start_u.defer_led start_u.starting_next keeper_run_u.keeper_happens keeper_run_u.keeper_run own_u.keeper_slots own_u.keeper_steps own_u.keeper_part own_u.keeper_events begun_u.commits_begun asked_u.serials_asked effect_70
has_given its one other = refl

has_given_right : (its : KeeperState) (one other : SessionState) → effects_in_log (run (world its one other) begins_commit).past.history ≡ effect_70 ∷ []
unfolding places shape session_u.sitting_ask session_u.attempts session_u.polls_at session_u.op_begun session_u.refresh_call session_u.poll_call session_u.sleep_call session_u.wake_call session_u.accepts session_u.shifts session_u.attempt_ledto session_u.catch_ledto session_u.clear_ledto session_u.finishes_request session_u.keeps_request session_u.poll_ledto session_u.turn_ledto session_u.leave_ledto session_u.sitting_next session_u.sitting_given catching_u.catching_ask catching_u.refresh_ledto catching_u.protect_ledto catching_u.latch_ledto catching_u.finish_ledto catching_u.latch_marked catching_u.catching_requests catching_u.catching_next attempting_u.attempting_ask attempting_u.look_ledto attempting_u.try_ledto attempting_u.put_ledto attempting_u.attempting_next pending_u.with_sought pending_u.with_held pending_u.with_latch pending_u.with_asked mailing_u.mail_ask mailing_u.mail_next trying_u.trying_ask trying_u.ends_so trying_u.ends trying_u.shared_ledto trying_u.appends trying_u.copies_from mark trying_u.copies trying_u.held_used trying_u.walk_ledto trying_u.current_ledto trying_u.answer_ledto trying_u.exclusive_ledto trying_u.old_ledto trying_u.append_ledto trying_u.exclusive_dropped trying_u.shared_dropped trying_u.trying_next walking_u.walking_ask walking_u.find_ledto walking_u.load_ledto walking_u.value_ledto walking_u.walking_next walking_u.walking_on appending_u.appending_ask appending_u.reserve_ledto appending_u.fill_ledto appending_u.publish_ledto appending_u.invalidate_ledto appending_u.appending_next header_words_u.header_said finding_u.find_step_ask finding_u.find_led publishing_u.publish_ask publishing_u.publish_next publishing_u.publish_next_ask slots_u.slot_word reserving_u.reserve_ask reserving_u.reserve_next reserving_u.reserve_next_ask filling_u.fill_ask filling_u.fill_next loading_u.load_ask loading_u.load_next loading_u.load_next_ask loading_u.load_on invalidating_u.invalidate_ask invalidating_u.invalidate_next moving_u.moving_ask moving_u.raise_led moving_u.arm_led moving_u.moving_next moving_u.raise_told moving_u.moving_next_ask shifting_u.shifting_ask shifting_u.shift_led shifting_u.shifting_next shifting_u.move_told shifting_u.shifting_next_ask turning_u.turning_ask turning_u.turn_led turning_u.turning_next turning_u.turn_told turning_u.turning_next_ask refreshing_u.refresh_ask refreshing_u.refresh_next refreshing_u.refresh_finish scanning_u.scan_ask scanning_u.sessions_from scanning_u.least_of scanning_u.scan_next claiming_u.claim_ask claiming_u.slot_after claiming_u.slot_armed claiming_u.claim_next claiming_u.claim_given raising_u.raise_ask raising_u.free_after raising_u.raise_next raising_u.raise_next_ask raising_u.raise_on arming_u.arm_ask arming_u.arm_next passing_u.passed maintaining_u.device_asked maintaining_u.maintaining_ask maintaining_u.scan_ledto maintaining_u.claim_ledto maintaining_u.flush_ledto maintaining_u.shift_ledto maintaining_u.serve_ledto maintaining_u.turn_ledto maintaining_u.maintaining_next maintaining_u.maintaining_given maintaining_u.maintaining_called maintaining_u.maintaining_calls maintaining_u.maintaining_made keeping_u.device_passed keeping_u.keeping_ask keeping_u.start_ledto keeping_u.maintain_ledto keeping_u.phase_ledto keeping_u.keeping_next keeping_u.keeping_given keeping_u.keeping_called keeper_asks_u.keeping_read keeper_asks_u.keeping_made keeper_asks_u.keeping_calls flushing_u.flush_ask flushing_u.flush_next flushing_u.bytes_next flushing_u.flush_calls flushing_u.flush_done flushing_u.bytes_done flushing_u.count_next flushing_u.count_done serving_u.serve_ask serving_u.mailbox_from serving_u.serve_next serving_u.serve_read serving_u.mail_place world_u.life_goes moves_u.session_settled moves_u.session_asks moves_u.keeper_settled moves_u.keeper_asks past_u.history_after past_u.life_past runs_u.run phase_words_u.phase_said run_by defer_u.deferring_ask defer_u.seek_ledto defer_u.raise_ledto defer_u.arm_ledto defer_u.deferring_next defer_u.deferring_on start_u.starting_ask start_u.seek_led start_u.defer_led start_u.starting_next keeper_run_u.keeper_happens keeper_run_u.keeper_run own_u.keeper_slots own_u.keeper_steps own_u.keeper_part own_u.keeper_events begun_u.commits_begun asked_u.serials_asked effect_70
has_given_right its one other = refl

is_upto : upto 1 (effect_70 ∷ []) ≡ effect_70 ∷ []
unfolding effect_70
is_upto = refl

keeps_given : kept (history_of (effect_70 ∷ [])) given_point ≡ history_of (effect_70 ∷ [])
unfolding effect_70
keeps_given = refl

keeps_nothing : kept (history_of (effect_70 ∷ [])) [] ≡ []
unfolding effect_70
keeps_nothing = refl

none_given : ◌≡◌ {A = Option ℕ} (Some 70) None → ⊥
none_given e = cc

some_number : (n m : ℕ) → Some n ≡ Some m → n ≡ m
some_number n m e = cc

-- the values differ from what points keep that keep nothing
not_paired : (w : World) (found : Option Commit) → w.now.keeper.commit ≡ found → number_of found ≡ Some 1 → w.now.keeper.seek.points ≡ [] → effects_in_log w.past.history ≡ effect_70 ∷ [] → KeepsItsValues w → ⊥
unfolding number_of
not_paired w None in_hand number none given pairs = cc
not_paired w (Some c) in_hand number none given pairs =
    let one : c.number.0 ≡ 1 = some_number c.number.0 1 number in
    let its : value_in no_map (upto c.number.0 (effects_in_log w.past.history)) 5 ≡ get (content no_map (kept (history_of (effects_in_log w.past.history)) w.now.keeper.seek.points)) 5 = pairs c in_hand 5 in
    let now : value_in no_map (upto 1 (effect_70 ∷ [])) 5 ≡ get (content no_map (kept (history_of (effect_70 ∷ [])) [])) 5 =
    subst (λ (n : ℕ). value_in no_map (upto n (effect_70 ∷ [])) 5 ≡ get (content no_map (kept (history_of (effect_70 ∷ [])) [])) 5) one
    (subst (λ (points : List Serial). value_in no_map (upto c.number.0 (effect_70 ∷ [])) 5 ≡ get (content no_map (kept (history_of (effect_70 ∷ [])) points)) 5) none
    (subst (λ (effects : List Effect). value_in no_map (upto c.number.0 effects) 5 ≡ get (content no_map (kept (history_of effects) w.now.keeper.seek.points)) 5) given its)) in
    none_given (sym gives_value ∙ (ap (λ (effects : List Effect). value_in no_map effects 5) (sym is_upto) ∙ (now ∙ (ap (λ (h : List HistoryEntry). get (content no_map h) 5) keeps_nothing ∙ get-empty nat_cmp 5))))

pub wrong_pairs : (its : KeeperState) (one other : SessionState) → KeepsItsValues (run_by commit_keeps_nothing (world its one other) begins_commit) → ⊥
wrong_pairs its one other pairs = not_paired (run_by commit_keeps_nothing (world its one other) begins_commit) _ refl (its_number its one other) (keeps_none its one other) (has_given its one other) pairs

pub right_pairs : (its : KeeperState) (one other : SessionState) → KeepsValues 1 given_point (run (world its one other) begins_commit)
right_pairs its one other key =
    subst (λ (effects : List Effect). value_in no_map (upto 1 effects) key ≡ get (content no_map (kept (history_of effects) given_point)) key) (sym (has_given_right its one other))
    (ap (λ (effects : List Effect). value_in no_map effects key) is_upto ∙ ap (λ (h : List HistoryEntry). get (content no_map h) key) (sym keeps_given))

-- ---- what is kept
abbrev copied : KeeperState → SessionState → SessionState → World
copied its one other = run_by add_copies_in_fuzzy_region (opened_world shape places its one other) fuzzy_events

-- both sums are told as 75
copied_history : List HistoryEntry
copied_history = entry_of 0 1 gives_70 Nothing ∷ entry_of 0 2 (gives_1 6) Nothing ∷ entry_of 0 3 (gives_1 7) Nothing ∷ entry_of 1 1 adds_5 (Number (record { 0 = 75 })) ∷ entry_of 0 4 adds_5 (Number (record { 0 = 75 })) ∷ []

is_copied_history : (its : KeeperState) (one other : SessionState) → history_of (effects_in_log (copied its one other).past.history) ≡ copied_history
unfolding places shape session_u.sitting_ask session_u.attempts session_u.polls_at session_u.op_begun session_u.refresh_call session_u.poll_call session_u.sleep_call session_u.wake_call session_u.accepts session_u.shifts session_u.attempt_ledto session_u.catch_ledto session_u.clear_ledto session_u.finishes_request session_u.keeps_request session_u.poll_ledto session_u.turn_ledto session_u.leave_ledto session_u.sitting_next session_u.sitting_given catching_u.catching_ask catching_u.refresh_ledto catching_u.protect_ledto catching_u.latch_ledto catching_u.finish_ledto catching_u.latch_marked catching_u.catching_requests catching_u.catching_next attempting_u.attempting_ask attempting_u.look_ledto attempting_u.try_ledto attempting_u.put_ledto attempting_u.attempting_next pending_u.with_sought pending_u.with_held pending_u.with_latch pending_u.with_asked mailing_u.mail_ask mailing_u.mail_next trying_u.trying_ask trying_u.ends_so trying_u.ends trying_u.shared_ledto trying_u.appends trying_u.copies_from mark trying_u.copies trying_u.held_used trying_u.walk_ledto trying_u.current_ledto trying_u.answer_ledto trying_u.exclusive_ledto trying_u.old_ledto trying_u.append_ledto trying_u.exclusive_dropped trying_u.shared_dropped trying_u.trying_next walking_u.walking_ask walking_u.find_ledto walking_u.load_ledto walking_u.value_ledto walking_u.walking_next walking_u.walking_on appending_u.appending_ask appending_u.reserve_ledto appending_u.fill_ledto appending_u.publish_ledto appending_u.invalidate_ledto appending_u.appending_next header_words_u.header_said finding_u.find_step_ask finding_u.find_led publishing_u.publish_ask publishing_u.publish_next publishing_u.publish_next_ask slots_u.slot_word reserving_u.reserve_ask reserving_u.reserve_next reserving_u.reserve_next_ask filling_u.fill_ask filling_u.fill_next loading_u.load_ask loading_u.load_next loading_u.load_next_ask loading_u.load_on invalidating_u.invalidate_ask invalidating_u.invalidate_next moving_u.moving_ask moving_u.raise_led moving_u.arm_led moving_u.moving_next moving_u.raise_told moving_u.moving_next_ask shifting_u.shifting_ask shifting_u.shift_led shifting_u.shifting_next shifting_u.move_told shifting_u.shifting_next_ask turning_u.turning_ask turning_u.turn_led turning_u.turning_next turning_u.turn_told turning_u.turning_next_ask refreshing_u.refresh_ask refreshing_u.refresh_next refreshing_u.refresh_finish scanning_u.scan_ask scanning_u.sessions_from scanning_u.least_of scanning_u.scan_next claiming_u.claim_ask claiming_u.slot_after claiming_u.slot_armed claiming_u.claim_next claiming_u.claim_given raising_u.raise_ask raising_u.free_after raising_u.raise_next raising_u.raise_next_ask raising_u.raise_on arming_u.arm_ask arming_u.arm_next passing_u.passed maintaining_u.device_asked maintaining_u.maintaining_ask maintaining_u.scan_ledto maintaining_u.claim_ledto maintaining_u.flush_ledto maintaining_u.shift_ledto maintaining_u.serve_ledto maintaining_u.turn_ledto maintaining_u.maintaining_next maintaining_u.maintaining_given maintaining_u.maintaining_called maintaining_u.maintaining_calls maintaining_u.maintaining_made keeping_u.device_passed keeping_u.keeping_ask keeping_u.start_ledto keeping_u.maintain_ledto keeping_u.phase_ledto keeping_u.keeping_next keeping_u.keeping_given keeping_u.keeping_called keeper_asks_u.keeping_read keeper_asks_u.keeping_made keeper_asks_u.keeping_calls flushing_u.flush_ask flushing_u.flush_next flushing_u.bytes_next flushing_u.flush_calls flushing_u.flush_done flushing_u.bytes_done flushing_u.count_next flushing_u.count_done serving_u.serve_ask serving_u.mailbox_from serving_u.serve_next serving_u.serve_read serving_u.mail_place world_u.life_goes moves_u.session_settled moves_u.session_asks moves_u.keeper_settled moves_u.keeper_asks past_u.history_after past_u.life_past runs_u.run phase_words_u.phase_said run_by copied_history
is_copied_history its one other = refl

all_kept : kept copied_history all_points ≡ copied_history
unfolding copied_history
all_kept = refl

sum_is_wrong : IsLegal no_map copied_history → ⊥
unfolding copied_history
sum_is_wrong legal = not_80 (legal_each no_map copied_history legal 5).1.1.0

pub wrong_kept : (its : KeeperState) (one other : SessionState) → KeepsLegal all_points (copied its one other) → ⊥
wrong_kept its one other legal = sum_is_wrong (subst (λ (h : List HistoryEntry). IsLegal no_map h) (ap (λ (h : List HistoryEntry). kept h all_points) (is_copied_history its one other) ∙ all_kept) legal)

all_kept_right : kept fuzzy_history all_points ≡ fuzzy_history
unfolding fuzzy_history
all_kept_right = refl

pub right_kept : (its : KeeperState) (one other : SessionState) → KeepsLegal all_points (run (opened_world shape places its one other) fuzzy_events)
right_kept its one other =
    let same : history_of (effects_in_log (run (opened_world shape places its one other) fuzzy_events).past.history) ≡ fuzzy_history = is_fuzzy_history its one other in
    subst (λ (h : List HistoryEntry). IsLegal no_map h) (same ∙ (sym all_kept_right ∙ ap (λ (h : List HistoryEntry). kept h all_points) (sym same))) (right_copied its one other)

-- ---- a life behind another
abbrev first_life : KeeperState → SessionState → SessionState → List ℕ → Opened → Life
first_life its one other bytes o = giving_life bytes o (world its one other)

life_gives : (its : KeeperState) (one other : SessionState) (bytes : List ℕ) → effects_in_log (run (beginning (world its one other).now bytes) begins_commit).past.history ≡ effect_70 ∷ []
unfolding places shape session_u.sitting_ask session_u.attempts session_u.polls_at session_u.op_begun session_u.refresh_call session_u.poll_call session_u.sleep_call session_u.wake_call session_u.accepts session_u.shifts session_u.attempt_ledto session_u.catch_ledto session_u.clear_ledto session_u.finishes_request session_u.keeps_request session_u.poll_ledto session_u.turn_ledto session_u.leave_ledto session_u.sitting_next session_u.sitting_given catching_u.catching_ask catching_u.refresh_ledto catching_u.protect_ledto catching_u.latch_ledto catching_u.finish_ledto catching_u.latch_marked catching_u.catching_requests catching_u.catching_next attempting_u.attempting_ask attempting_u.look_ledto attempting_u.try_ledto attempting_u.put_ledto attempting_u.attempting_next pending_u.with_sought pending_u.with_held pending_u.with_latch pending_u.with_asked mailing_u.mail_ask mailing_u.mail_next trying_u.trying_ask trying_u.ends_so trying_u.ends trying_u.shared_ledto trying_u.appends trying_u.copies_from mark trying_u.copies trying_u.held_used trying_u.walk_ledto trying_u.current_ledto trying_u.answer_ledto trying_u.exclusive_ledto trying_u.old_ledto trying_u.append_ledto trying_u.exclusive_dropped trying_u.shared_dropped trying_u.trying_next walking_u.walking_ask walking_u.find_ledto walking_u.load_ledto walking_u.value_ledto walking_u.walking_next walking_u.walking_on appending_u.appending_ask appending_u.reserve_ledto appending_u.fill_ledto appending_u.publish_ledto appending_u.invalidate_ledto appending_u.appending_next header_words_u.header_said finding_u.find_step_ask finding_u.find_led publishing_u.publish_ask publishing_u.publish_next publishing_u.publish_next_ask slots_u.slot_word reserving_u.reserve_ask reserving_u.reserve_next reserving_u.reserve_next_ask filling_u.fill_ask filling_u.fill_next loading_u.load_ask loading_u.load_next loading_u.load_next_ask loading_u.load_on invalidating_u.invalidate_ask invalidating_u.invalidate_next moving_u.moving_ask moving_u.raise_led moving_u.arm_led moving_u.moving_next moving_u.raise_told moving_u.moving_next_ask shifting_u.shifting_ask shifting_u.shift_led shifting_u.shifting_next shifting_u.move_told shifting_u.shifting_next_ask turning_u.turning_ask turning_u.turn_led turning_u.turning_next turning_u.turn_told turning_u.turning_next_ask refreshing_u.refresh_ask refreshing_u.refresh_next refreshing_u.refresh_finish scanning_u.scan_ask scanning_u.sessions_from scanning_u.least_of scanning_u.scan_next claiming_u.claim_ask claiming_u.slot_after claiming_u.slot_armed claiming_u.claim_next claiming_u.claim_given raising_u.raise_ask raising_u.free_after raising_u.raise_next raising_u.raise_next_ask raising_u.raise_on arming_u.arm_ask arming_u.arm_next passing_u.passed maintaining_u.device_asked maintaining_u.maintaining_ask maintaining_u.scan_ledto maintaining_u.claim_ledto maintaining_u.flush_ledto maintaining_u.shift_ledto maintaining_u.serve_ledto maintaining_u.turn_ledto maintaining_u.maintaining_next maintaining_u.maintaining_given maintaining_u.maintaining_called maintaining_u.maintaining_calls maintaining_u.maintaining_made keeping_u.device_passed keeping_u.keeping_ask keeping_u.start_ledto keeping_u.maintain_ledto keeping_u.phase_ledto keeping_u.keeping_next keeping_u.keeping_given keeping_u.keeping_called keeper_asks_u.keeping_read keeper_asks_u.keeping_made keeper_asks_u.keeping_calls flushing_u.flush_ask flushing_u.flush_next flushing_u.bytes_next flushing_u.flush_calls flushing_u.flush_done flushing_u.bytes_done flushing_u.count_next flushing_u.count_done serving_u.serve_ask serving_u.mailbox_from serving_u.serve_next serving_u.serve_read serving_u.mail_place world_u.life_goes moves_u.session_settled moves_u.session_asks moves_u.keeper_settled moves_u.keeper_asks past_u.history_after past_u.life_past runs_u.run phase_words_u.phase_said run_by defer_u.deferring_ask defer_u.seek_ledto defer_u.raise_ledto defer_u.arm_ledto defer_u.deferring_next defer_u.deferring_on start_u.starting_ask start_u.seek_led start_u.defer_led start_u.starting_next keeper_run_u.keeper_happens keeper_run_u.keeper_run own_u.keeper_slots own_u.keeper_steps own_u.keeper_part own_u.keeper_events begun_u.commits_begun asked_u.serials_asked effect_70
life_gives its one other bytes = refl

-- what these points keep of it
kept_of_it : (its : KeeperState) (one other : SessionState) (bytes : List ℕ) (o : Opened) (next : Life) (points : List Serial) → points_of next ≡ points
    → kept_of_all (points_of next) (first_life its one other bytes o ∷ []) ≡ kept (history_of (effect_70 ∷ [])) points
kept_of_it its one other bytes o next points are =
    ap (λ (ps : List Serial). kept_of_all ps (first_life its one other bytes o ∷ [])) are ∙ ap (λ (effects : List Effect). kept (history_of effects) points) (life_gives its one other bytes)

-- so the map with which the next life begins is what they make of an empty one
map_is : (its : KeeperState) (one other : SessionState) (bytes : List ℕ) (o : Opened) (next : Life) (m : Map) (points : List Serial) → IsBehind m points (first_life its one other bytes o) next
    → BeginsWithKept next (first_life its one other bytes o ∷ []) → m ≡ content no_map (kept (history_of (effect_70 ∷ [])) points)
map_is its one other bytes o next m points behind begins =
    sym behind.pairs ∙ begins.pairs ∙ ap (λ (from : Map). content from (kept_of_all (points_of next) (first_life its one other bytes o ∷ []))) behind.empty
    ∙ ap (content no_map) (kept_of_it its one other bytes o next points behind.its_points)

value_given : get (content no_map (history_of (effect_70 ∷ []))) 5 ≡ Some 70
value_given = gives_value

given_is : given_map ≡ content no_map (history_of (effect_70 ∷ []))
unfolding effect_70
given_is = refl

wrong_forgotten : (its : KeeperState) (one other : SessionState) → NeverFollowsWith no_map given_point (world its one other)
wrong_forgotten its one other bytes o next behind begins =
    none_given (sym value_given ∙ ap (λ (h : List HistoryEntry). get (content no_map h) 5) (sym keeps_given) ∙ ap (λ (m : Map). get m 5) (sym (map_is its one other bytes o next no_map given_point behind begins)) ∙ get-empty nat_cmp 5)

wrong_ahead : (its : KeeperState) (one other : SessionState) → NeverFollowsWith given_map [] (world its one other)
wrong_ahead its one other bytes o next behind begins =
    none_given (sym value_given ∙ ap (λ (m : Map). get m 5) (sym given_is) ∙ ap (λ (m : Map). get m 5) (map_is its one other bytes o next given_map [] behind begins) ∙ ap (λ (h : List HistoryEntry). get (content no_map h) 5) keeps_nothing ∙ get-empty nat_cmp 5)

given_legal : IsLegal no_map (history_of (effect_70 ∷ []))
unfolding effect_70
given_legal = (refl, tt)

-- the serial 1 of session 0 once, and no other
given_whole : IsWhole (history_of (effect_70 ∷ [])) [] given_point
unfolding effect_70
given_whole zero zero = refl
given_whole zero (suc zero) = refl
given_whole zero (suc (suc more)) = grind (arith, nat_tests)
given_whole (suc session) zero = grind (arith, nat_tests)
given_whole (suc session) (suc more) = grind (arith, nat_tests)

right_following : (its : KeeperState) (one other : SessionState) → FollowsWith given_map given_point (world its one other)
right_following its one other bytes o next behind =
    let all : kept_of_all (points_of next) (first_life its one other bytes o ∷ []) ≡ history_of (effect_70 ∷ []) = kept_of_it its one other bytes o next given_point behind.its_points ∙ keeps_given in
    record {
      pairs = behind.pairs ∙ given_is ∙ ap (content no_map) (sym all) ∙ ap (λ (from : Map). content from (kept_of_all (points_of next) (first_life its one other bytes o ∷ []))) (sym behind.empty);
      legal = subst (λ (from : Map). IsLegal from (kept_of_all (points_of next) (first_life its one other bytes o ∷ []))) (sym behind.empty) (subst (λ (h : List HistoryEntry). IsLegal no_map h) (sym all) given_legal);
      whole = subst (λ (ps : List Serial). IsWhole (kept_of_all (points_of next) (first_life its one other bytes o ∷ [])) ps (points_of next)) (sym behind.no_points)
          (subst (λ (ps : List Serial). IsWhole (kept_of_all (points_of next) (first_life its one other bytes o ∷ [])) [] ps) (sym behind.its_points) (subst (λ (h : List HistoryEntry). IsWhole h [] given_point) (sym all) given_whole));
    }

pub wrong_commits : (its : KeeperState) (one other : SessionState) → AreWrongCommits its one other
wrong_commits its one other = record {
  shape = shape;
  places = places;
  fits = places_fit;
  opened = world_opened (with_nothing_kept its) one other;
  undurable = wrong_durable its one other;
  durable_right = right_durable its one other;
  uncurrent = wrong_current its one other;
  unfair = wrong_fair its one other;
  unpaired = wrong_pairs its one other;
  paired_right = right_pairs its one other;
  unkept = wrong_kept its one other;
  kept_right = right_kept its one other;
  forgotten = wrong_forgotten its one other;
  ahead = wrong_ahead its one other;
  follows_right = right_following its one other;
}
