-- The images that a wrong slot leaves. By the law of gates its bytes are there, and its number is that of no commit that has begun.
use Rattle.std.proofs.Common.{◌≡◌, inl, inr, ℕ, ◌≤◌, ◌∙◌, List, [], ◌∷◌, ◌++◌, refl, sym, ap, subst, arith, true, false, map, replicate}
use Rattle.std.specs.Prelude.{Some, drop}
use Rattle.law_order.specs.Below.fkv_keeper.Area.{Area}
use Rattle.law_order.specs.Below.fkv_keeper.Area.TheVariants.{First, Second}
use Rattle.fkv_base.specs.declared.commits.CommitKind.TheVariants.{Full}
use Rattle.fkv_base.specs.declared.faults.Damage.TheVariants.{Manifest}
use Rattle.fkv_base.specs.declared.faults.Fault.TheVariants.{Damaged}
use Rattle.fkv_creating.specs.Created.{created_bytes}
use Rattle.fkv_disk.specs.Stays.{reads_itself, reads_may_stay}
use Rattle.fkv_marks.specs.Marks.{mark}
use Rattle.fkv_disk.specs.Calls.{Call, MayLeave, Sync, Write, reads_as}
use Rattle.fkv_manifest.specs.Committing.{CommitWriter, commit_answer}
use Rattle.fkv_manifest.specs.Gating.{gate_start}
use Rattle.law_order.specs.Below.fkv_keeper.LastCommits.{area_number, other_area, slot_said}
use Rattle.fkv_record.specs.Places.{area_place}
use Rattle.fkv_manifest.specs.declared.commits.Committing.TheVariants.{SyncsTriples}
use Rattle.fkv_manifest.specs.Kept.{AreTheAreas, IsSlotOf, NewStands}
use Rattle.fkv_manifest.specs.Made.{commit_made, commit_run}
use Rattle.fkv_manifest.specs.Newest.{slot_in}
use Rattle.fkv_manifest.specs.declared.answers.WriteAnswer.TheVariants.{Written}
use Rattle.fkv_newest.specs.Newest.{HasShape, IsNewestOf, slot_place}
use Rattle.fkv_newest.specs.declared.newest_slots.Newest.{Newest}
use Rattle.fkv_opening.specs.Faults.{IsFaultOf, of_newest}
use Rattle.fkv_opening.specs.Opened.{IsStoreOf}
use Rattle.fkv_opening.specs.declared.opened_store.Opened.{Opened}
use Rattle.fkv_record.specs.Manifest.{SlotSaid, manifest_bytes, newest_bytes}
use Rattle.fkv_record.specs.Places.{number_at}
use Rattle.fkv_record.specs.declared.formats.Format.{Format}
use Rattle.fkv_record.specs.declared.manifest_slots.ManifestSlot.{ManifestSlot}
use Rattle.law_opening.proofs.OfLives.SlotNamed.{slot_named}
use Rattle.law_order.specs.Below.fkv_keeper.Keeping.{KeeperState}
use Rattle.law_order.specs.Below.fkv_session.Sessions.{SessionState}
use Rattle.law_order.specs.Below.fkv_world.Runs.{World}
use Rattle.law_order.specs.Below.fkv_world.World.{Commits, Event, KeeperMoves}
use Rattle.law_order.specs.Below.law_commit.BegunCommits.{BegunCommit}
use Rattle.law_log.specs.Trace.{IsIn}
use Rattle.law_order.specs.Prefix.Law.{NamesCommit}
use Rattle.law_order.proofs.OfOneHistory.WorkedShape.{places, shape}
use Rattle.law_wrong_runs.proofs.Gated.{AreCreated, AreNamed, IsWriter, IsWritten, SparesStores, begins, bytes_are, five, in_force, lies, made_so}
use Rattle.law_wrong_runs.proofs.NewBytes.{begins_at_first}
use Rattle.law_wrong_runs.specs.Tables.{run_by, slot_says_next_number}
use Rattle.law_wrong_runs.specs.WrongImages.{AreWrongImages, BeginAtFirst, five_calls}
use Rattle.law_wrong_runs.specs.WrongPrefixes.{begun_by_table, kept_world}
use Rattle.law_order.specs.Below.fkv_session.Sessions as session_u
use Rattle.law_order.specs.Below.fkv_session.CatchingUp as catching_u
use Rattle.law_order.specs.Below.fkv_pending.Attempting as attempting_u
use Rattle.law_order.specs.Below.fkv_pending.Pending as pending_u
use Rattle.law_order.specs.Below.fkv_pending.Mailing as mailing_u
use Rattle.law_order.specs.Below.fkv_ops.Trying as trying_u
use Rattle.law_order.specs.Below.fkv_ops.Walking as walking_u
use Rattle.law_order.specs.Below.fkv_ops.Appending as appending_u
use Rattle.law_order.specs.Below.fkv_ops.HeaderWords as header_words_u
use Rattle.fkv_index.specs.Finding as finding_u
use Rattle.fkv_index.specs.Publishing as publishing_u
use Rattle.fkv_index.specs.Slots as slots_u
use Rattle.law_order.specs.Below.fkv_log.Reserving as reserving_u
use Rattle.law_order.specs.Below.fkv_log.Filling as filling_u
use Rattle.law_order.specs.Below.fkv_log.Loading as loading_u
use Rattle.law_order.specs.Below.fkv_log.Invalidating as invalidating_u
use Rattle.law_order.specs.Below.fkv_log.Moving as moving_u
use Rattle.law_order.specs.Below.fkv_log.Shifting as shifting_u
use Rattle.law_order.specs.Below.fkv_log.Turning as turning_u
use Rattle.fkv_epoch.specs.Refreshing as refreshing_u
use Rattle.fkv_epoch.specs.Scanning as scanning_u
use Rattle.fkv_epoch.specs.Claiming as claiming_u
use Rattle.fkv_epoch.specs.Raising as raising_u
use Rattle.fkv_epoch.specs.Arming as arming_u
use Rattle.fkv_plane.specs.Passing as passing_u
use Rattle.law_order.specs.Below.fkv_maintain.Maintaining as maintaining_u
use Rattle.law_order.specs.Below.fkv_keeper.Keeping as keeping_u
use Rattle.law_order.specs.Below.fkv_keeper.KeeperAsks as keeper_asks_u
use Rattle.law_order.specs.Below.fkv_flush.Flushing as flushing_u
use Rattle.law_order.specs.Below.fkv_flush.Serving as serving_u
use Rattle.law_order.specs.Below.fkv_world.World as world_u
use Rattle.law_order.specs.Below.fkv_world.Moves as moves_u
use Rattle.law_order.specs.Below.fkv_world.Past as past_u
use Rattle.law_order.specs.Below.fkv_world.Runs as runs_u
use Rattle.fkv_words.specs.PhaseWords as phase_words_u
use Rattle.fkv_manifest.specs.Committing as committing_u
use Rattle.fkv_manifest.specs.Gating as gating_u
use Rattle.law_order.specs.Below.fkv_commit.Deferring as defer_u
use Rattle.law_order.specs.Below.fkv_commit.Starting as start_u
use Rattle.law_order.specs.Below.fkv_keeper.KeeperRun as keeper_run_u
use Rattle.law_order.specs.Below.fkv_world.OwnEvents as own_u
use Rattle.law_order.specs.Below.law_commit.BegunCommits as begun_u
use Rattle.law_order.specs.Below.law_commit.PrefixPast as asked_u
use Rattle.fkv_manifest.specs.Made as made_u

abbrev world : KeeperState → SessionState → SessionState → World
world its one other = kept_world shape places its one other

-- the writes as they begin
abbrev begun : List Event
begun = replicate 8 (KeeperMoves true true) ++ Commits Full ∷ []

abbrev writer : KeeperState → SessionState → SessionState → CommitWriter
writer its one other = (run_by (slot_says_next_number shape) (world its one other) begun).now.keeper.writes

-- ---- what is computed
module _ (its : KeeperState) (one other : SessionState) where
  abbrev w : CommitWriter
  w = writer its one other

  abbrev said : SlotSaid
  said =
      slot_said 2 (record { 0 = 2 }) (record { 0 = 1 }) (record { 0 = 0 })
      (record { number = record { 0 = 2 }; first = record { 0 = 1 }; triples = 0; area = other_area its.last.checkpoint.area }) [] []

  calls_told : (run_by (slot_says_next_number shape) (world its one other) five_calls).past.calls ≡ Sync true ∷ Write 1024 (165 ∷ []) true ∷ Sync true ∷ Write 1025 (drop 1 (newest_bytes said)) true ∷ Sync true ∷ []
  unfolding places shape session_u.sitting_ask session_u.attempts session_u.polls_at session_u.op_begun session_u.refresh_call session_u.poll_call session_u.sleep_call session_u.wake_call session_u.accepts session_u.shifts session_u.attempt_ledto session_u.catch_ledto session_u.clear_ledto session_u.finishes_request session_u.keeps_request session_u.poll_ledto session_u.turn_ledto session_u.leave_ledto session_u.sitting_next session_u.sitting_given catching_u.catching_ask catching_u.refresh_ledto catching_u.protect_ledto catching_u.latch_ledto catching_u.finish_ledto catching_u.latch_marked catching_u.catching_requests catching_u.catching_next attempting_u.attempting_ask attempting_u.look_ledto attempting_u.try_ledto attempting_u.put_ledto attempting_u.attempting_next pending_u.with_sought pending_u.with_held pending_u.with_latch pending_u.with_asked mailing_u.mail_ask mailing_u.mail_next trying_u.trying_ask trying_u.ends_so trying_u.ends trying_u.shared_ledto trying_u.appends trying_u.copies_from mark trying_u.copies trying_u.held_used trying_u.walk_ledto trying_u.current_ledto trying_u.answer_ledto trying_u.exclusive_ledto trying_u.old_ledto trying_u.append_ledto trying_u.exclusive_dropped trying_u.shared_dropped trying_u.trying_next walking_u.walking_ask walking_u.find_ledto walking_u.load_ledto walking_u.value_ledto walking_u.walking_next walking_u.walking_on appending_u.appending_ask appending_u.reserve_ledto appending_u.fill_ledto appending_u.publish_ledto appending_u.invalidate_ledto appending_u.appending_next header_words_u.header_said finding_u.find_step_ask finding_u.find_led publishing_u.publish_ask publishing_u.publish_next publishing_u.publish_next_ask slots_u.slot_word reserving_u.reserve_ask reserving_u.reserve_next reserving_u.reserve_next_ask filling_u.fill_ask filling_u.fill_next loading_u.load_ask loading_u.load_next loading_u.load_next_ask loading_u.load_on invalidating_u.invalidate_ask invalidating_u.invalidate_next moving_u.moving_ask moving_u.raise_led moving_u.arm_led moving_u.moving_next moving_u.raise_told moving_u.moving_next_ask shifting_u.shifting_ask shifting_u.shift_led shifting_u.shifting_next shifting_u.move_told shifting_u.shifting_next_ask turning_u.turning_ask turning_u.turn_led turning_u.turning_next turning_u.turn_told turning_u.turning_next_ask refreshing_u.refresh_ask refreshing_u.refresh_next refreshing_u.refresh_finish scanning_u.scan_ask scanning_u.sessions_from scanning_u.least_of scanning_u.scan_next claiming_u.claim_ask claiming_u.slot_after claiming_u.slot_armed claiming_u.claim_next claiming_u.claim_given raising_u.raise_ask raising_u.free_after raising_u.raise_next raising_u.raise_next_ask raising_u.raise_on arming_u.arm_ask arming_u.arm_next passing_u.passed maintaining_u.device_asked maintaining_u.maintaining_ask maintaining_u.scan_ledto maintaining_u.claim_ledto maintaining_u.flush_ledto maintaining_u.shift_ledto maintaining_u.serve_ledto maintaining_u.turn_ledto maintaining_u.maintaining_next maintaining_u.maintaining_given maintaining_u.maintaining_called maintaining_u.maintaining_calls maintaining_u.maintaining_made keeping_u.device_passed keeping_u.keeping_ask keeping_u.start_ledto keeping_u.maintain_ledto keeping_u.phase_ledto keeping_u.keeping_next keeping_u.keeping_given keeping_u.keeping_called keeper_asks_u.keeping_read keeper_asks_u.keeping_made keeper_asks_u.keeping_calls flushing_u.flush_ask flushing_u.flush_next flushing_u.bytes_next flushing_u.flush_calls flushing_u.flush_done flushing_u.bytes_done flushing_u.count_next flushing_u.count_done serving_u.serve_ask serving_u.mailbox_from serving_u.serve_next serving_u.serve_read serving_u.mail_place world_u.life_goes moves_u.session_settled moves_u.session_asks moves_u.keeper_settled moves_u.keeper_asks past_u.history_after past_u.life_past runs_u.run phase_words_u.phase_said run_by defer_u.deferring_ask defer_u.seek_ledto defer_u.raise_ledto defer_u.arm_ledto defer_u.deferring_next defer_u.deferring_on start_u.starting_ask start_u.seek_led start_u.defer_led start_u.starting_next keeper_run_u.keeper_happens keeper_run_u.keeper_run own_u.keeper_slots own_u.keeper_steps own_u.keeper_part own_u.keeper_events begun_u.commits_begun asked_u.serials_asked begun_by_table committing_u.commit_step_answer committing_u.commit_step_next committing_u.gate_after gating_u.gate_answer gating_u.gate_next keeping_u.write_ledto committing_u.commit_step_call gating_u.gate_step_call
  calls_told = refl

  ends : commit_answer (commit_run (writer its one other) five) ≡ Written
  unfolding places shape session_u.sitting_ask session_u.attempts session_u.polls_at session_u.op_begun session_u.refresh_call session_u.poll_call session_u.sleep_call session_u.wake_call session_u.accepts session_u.shifts session_u.attempt_ledto session_u.catch_ledto session_u.clear_ledto session_u.finishes_request session_u.keeps_request session_u.poll_ledto session_u.turn_ledto session_u.leave_ledto session_u.sitting_next session_u.sitting_given catching_u.catching_ask catching_u.refresh_ledto catching_u.protect_ledto catching_u.latch_ledto catching_u.finish_ledto catching_u.latch_marked catching_u.catching_requests catching_u.catching_next attempting_u.attempting_ask attempting_u.look_ledto attempting_u.try_ledto attempting_u.put_ledto attempting_u.attempting_next pending_u.with_sought pending_u.with_held pending_u.with_latch pending_u.with_asked mailing_u.mail_ask mailing_u.mail_next trying_u.trying_ask trying_u.ends_so trying_u.ends trying_u.shared_ledto trying_u.appends trying_u.copies_from mark trying_u.copies trying_u.held_used trying_u.walk_ledto trying_u.current_ledto trying_u.answer_ledto trying_u.exclusive_ledto trying_u.old_ledto trying_u.append_ledto trying_u.exclusive_dropped trying_u.shared_dropped trying_u.trying_next walking_u.walking_ask walking_u.find_ledto walking_u.load_ledto walking_u.value_ledto walking_u.walking_next walking_u.walking_on appending_u.appending_ask appending_u.reserve_ledto appending_u.fill_ledto appending_u.publish_ledto appending_u.invalidate_ledto appending_u.appending_next header_words_u.header_said finding_u.find_step_ask finding_u.find_led publishing_u.publish_ask publishing_u.publish_next publishing_u.publish_next_ask slots_u.slot_word reserving_u.reserve_ask reserving_u.reserve_next reserving_u.reserve_next_ask filling_u.fill_ask filling_u.fill_next loading_u.load_ask loading_u.load_next loading_u.load_next_ask loading_u.load_on invalidating_u.invalidate_ask invalidating_u.invalidate_next moving_u.moving_ask moving_u.raise_led moving_u.arm_led moving_u.moving_next moving_u.raise_told moving_u.moving_next_ask shifting_u.shifting_ask shifting_u.shift_led shifting_u.shifting_next shifting_u.move_told shifting_u.shifting_next_ask turning_u.turning_ask turning_u.turn_led turning_u.turning_next turning_u.turn_told turning_u.turning_next_ask refreshing_u.refresh_ask refreshing_u.refresh_next refreshing_u.refresh_finish scanning_u.scan_ask scanning_u.sessions_from scanning_u.least_of scanning_u.scan_next claiming_u.claim_ask claiming_u.slot_after claiming_u.slot_armed claiming_u.claim_next claiming_u.claim_given raising_u.raise_ask raising_u.free_after raising_u.raise_next raising_u.raise_next_ask raising_u.raise_on arming_u.arm_ask arming_u.arm_next passing_u.passed maintaining_u.device_asked maintaining_u.maintaining_ask maintaining_u.scan_ledto maintaining_u.claim_ledto maintaining_u.flush_ledto maintaining_u.shift_ledto maintaining_u.serve_ledto maintaining_u.turn_ledto maintaining_u.maintaining_next maintaining_u.maintaining_given maintaining_u.maintaining_called maintaining_u.maintaining_calls maintaining_u.maintaining_made keeping_u.device_passed keeping_u.keeping_ask keeping_u.start_ledto keeping_u.maintain_ledto keeping_u.phase_ledto keeping_u.keeping_next keeping_u.keeping_given keeping_u.keeping_called keeper_asks_u.keeping_read keeper_asks_u.keeping_made keeper_asks_u.keeping_calls flushing_u.flush_ask flushing_u.flush_next flushing_u.bytes_next flushing_u.flush_calls flushing_u.flush_done flushing_u.bytes_done flushing_u.count_next flushing_u.count_done serving_u.serve_ask serving_u.mailbox_from serving_u.serve_next serving_u.serve_read serving_u.mail_place world_u.life_goes moves_u.session_settled moves_u.session_asks moves_u.keeper_settled moves_u.keeper_asks past_u.history_after past_u.life_past runs_u.run phase_words_u.phase_said run_by defer_u.deferring_ask defer_u.seek_ledto defer_u.raise_ledto defer_u.arm_ledto defer_u.deferring_next defer_u.deferring_on start_u.starting_ask start_u.seek_led start_u.defer_led start_u.starting_next keeper_run_u.keeper_happens keeper_run_u.keeper_run own_u.keeper_slots own_u.keeper_steps own_u.keeper_part own_u.keeper_events begun_u.commits_begun asked_u.serials_asked begun_by_table committing_u.commit_step_answer committing_u.commit_step_next committing_u.gate_after gating_u.gate_answer gating_u.gate_next keeping_u.write_ledto made_u.commit_run
  ends = refl

  step_syncs : (writer its one other).step ≡ SyncsTriples
  unfolding places shape session_u.sitting_ask session_u.attempts session_u.polls_at session_u.op_begun session_u.refresh_call session_u.poll_call session_u.sleep_call session_u.wake_call session_u.accepts session_u.shifts session_u.attempt_ledto session_u.catch_ledto session_u.clear_ledto session_u.finishes_request session_u.keeps_request session_u.poll_ledto session_u.turn_ledto session_u.leave_ledto session_u.sitting_next session_u.sitting_given catching_u.catching_ask catching_u.refresh_ledto catching_u.protect_ledto catching_u.latch_ledto catching_u.finish_ledto catching_u.latch_marked catching_u.catching_requests catching_u.catching_next attempting_u.attempting_ask attempting_u.look_ledto attempting_u.try_ledto attempting_u.put_ledto attempting_u.attempting_next pending_u.with_sought pending_u.with_held pending_u.with_latch pending_u.with_asked mailing_u.mail_ask mailing_u.mail_next trying_u.trying_ask trying_u.ends_so trying_u.ends trying_u.shared_ledto trying_u.appends trying_u.copies_from mark trying_u.copies trying_u.held_used trying_u.walk_ledto trying_u.current_ledto trying_u.answer_ledto trying_u.exclusive_ledto trying_u.old_ledto trying_u.append_ledto trying_u.exclusive_dropped trying_u.shared_dropped trying_u.trying_next walking_u.walking_ask walking_u.find_ledto walking_u.load_ledto walking_u.value_ledto walking_u.walking_next walking_u.walking_on appending_u.appending_ask appending_u.reserve_ledto appending_u.fill_ledto appending_u.publish_ledto appending_u.invalidate_ledto appending_u.appending_next header_words_u.header_said finding_u.find_step_ask finding_u.find_led publishing_u.publish_ask publishing_u.publish_next publishing_u.publish_next_ask slots_u.slot_word reserving_u.reserve_ask reserving_u.reserve_next reserving_u.reserve_next_ask filling_u.fill_ask filling_u.fill_next loading_u.load_ask loading_u.load_next loading_u.load_next_ask loading_u.load_on invalidating_u.invalidate_ask invalidating_u.invalidate_next moving_u.moving_ask moving_u.raise_led moving_u.arm_led moving_u.moving_next moving_u.raise_told moving_u.moving_next_ask shifting_u.shifting_ask shifting_u.shift_led shifting_u.shifting_next shifting_u.move_told shifting_u.shifting_next_ask turning_u.turning_ask turning_u.turn_led turning_u.turning_next turning_u.turn_told turning_u.turning_next_ask refreshing_u.refresh_ask refreshing_u.refresh_next refreshing_u.refresh_finish scanning_u.scan_ask scanning_u.sessions_from scanning_u.least_of scanning_u.scan_next claiming_u.claim_ask claiming_u.slot_after claiming_u.slot_armed claiming_u.claim_next claiming_u.claim_given raising_u.raise_ask raising_u.free_after raising_u.raise_next raising_u.raise_next_ask raising_u.raise_on arming_u.arm_ask arming_u.arm_next passing_u.passed maintaining_u.device_asked maintaining_u.maintaining_ask maintaining_u.scan_ledto maintaining_u.claim_ledto maintaining_u.flush_ledto maintaining_u.shift_ledto maintaining_u.serve_ledto maintaining_u.turn_ledto maintaining_u.maintaining_next maintaining_u.maintaining_given maintaining_u.maintaining_called maintaining_u.maintaining_calls maintaining_u.maintaining_made keeping_u.device_passed keeping_u.keeping_ask keeping_u.start_ledto keeping_u.maintain_ledto keeping_u.phase_ledto keeping_u.keeping_next keeping_u.keeping_given keeping_u.keeping_called keeper_asks_u.keeping_read keeper_asks_u.keeping_made keeper_asks_u.keeping_calls flushing_u.flush_ask flushing_u.flush_next flushing_u.bytes_next flushing_u.flush_calls flushing_u.flush_done flushing_u.bytes_done flushing_u.count_next flushing_u.count_done serving_u.serve_ask serving_u.mailbox_from serving_u.serve_next serving_u.serve_read serving_u.mail_place world_u.life_goes moves_u.session_settled moves_u.session_asks moves_u.keeper_settled moves_u.keeper_asks past_u.history_after past_u.life_past runs_u.run phase_words_u.phase_said run_by defer_u.deferring_ask defer_u.seek_ledto defer_u.raise_ledto defer_u.arm_ledto defer_u.deferring_next defer_u.deferring_on start_u.starting_ask start_u.seek_led start_u.defer_led start_u.starting_next keeper_run_u.keeper_happens keeper_run_u.keeper_run own_u.keeper_slots own_u.keeper_steps own_u.keeper_part own_u.keeper_events begun_u.commits_begun asked_u.serials_asked begun_by_table committing_u.commit_step_answer committing_u.commit_step_next committing_u.gate_after gating_u.gate_answer gating_u.gate_next keeping_u.write_ledto
  step_syncs = refl

  gate_is : (writer its one other).gate.step ≡ gate_start false
  unfolding places shape session_u.sitting_ask session_u.attempts session_u.polls_at session_u.op_begun session_u.refresh_call session_u.poll_call session_u.sleep_call session_u.wake_call session_u.accepts session_u.shifts session_u.attempt_ledto session_u.catch_ledto session_u.clear_ledto session_u.finishes_request session_u.keeps_request session_u.poll_ledto session_u.turn_ledto session_u.leave_ledto session_u.sitting_next session_u.sitting_given catching_u.catching_ask catching_u.refresh_ledto catching_u.protect_ledto catching_u.latch_ledto catching_u.finish_ledto catching_u.latch_marked catching_u.catching_requests catching_u.catching_next attempting_u.attempting_ask attempting_u.look_ledto attempting_u.try_ledto attempting_u.put_ledto attempting_u.attempting_next pending_u.with_sought pending_u.with_held pending_u.with_latch pending_u.with_asked mailing_u.mail_ask mailing_u.mail_next trying_u.trying_ask trying_u.ends_so trying_u.ends trying_u.shared_ledto trying_u.appends trying_u.copies_from mark trying_u.copies trying_u.held_used trying_u.walk_ledto trying_u.current_ledto trying_u.answer_ledto trying_u.exclusive_ledto trying_u.old_ledto trying_u.append_ledto trying_u.exclusive_dropped trying_u.shared_dropped trying_u.trying_next walking_u.walking_ask walking_u.find_ledto walking_u.load_ledto walking_u.value_ledto walking_u.walking_next walking_u.walking_on appending_u.appending_ask appending_u.reserve_ledto appending_u.fill_ledto appending_u.publish_ledto appending_u.invalidate_ledto appending_u.appending_next header_words_u.header_said finding_u.find_step_ask finding_u.find_led publishing_u.publish_ask publishing_u.publish_next publishing_u.publish_next_ask slots_u.slot_word reserving_u.reserve_ask reserving_u.reserve_next reserving_u.reserve_next_ask filling_u.fill_ask filling_u.fill_next loading_u.load_ask loading_u.load_next loading_u.load_next_ask loading_u.load_on invalidating_u.invalidate_ask invalidating_u.invalidate_next moving_u.moving_ask moving_u.raise_led moving_u.arm_led moving_u.moving_next moving_u.raise_told moving_u.moving_next_ask shifting_u.shifting_ask shifting_u.shift_led shifting_u.shifting_next shifting_u.move_told shifting_u.shifting_next_ask turning_u.turning_ask turning_u.turn_led turning_u.turning_next turning_u.turn_told turning_u.turning_next_ask refreshing_u.refresh_ask refreshing_u.refresh_next refreshing_u.refresh_finish scanning_u.scan_ask scanning_u.sessions_from scanning_u.least_of scanning_u.scan_next claiming_u.claim_ask claiming_u.slot_after claiming_u.slot_armed claiming_u.claim_next claiming_u.claim_given raising_u.raise_ask raising_u.free_after raising_u.raise_next raising_u.raise_next_ask raising_u.raise_on arming_u.arm_ask arming_u.arm_next passing_u.passed maintaining_u.device_asked maintaining_u.maintaining_ask maintaining_u.scan_ledto maintaining_u.claim_ledto maintaining_u.flush_ledto maintaining_u.shift_ledto maintaining_u.serve_ledto maintaining_u.turn_ledto maintaining_u.maintaining_next maintaining_u.maintaining_given maintaining_u.maintaining_called maintaining_u.maintaining_calls maintaining_u.maintaining_made keeping_u.device_passed keeping_u.keeping_ask keeping_u.start_ledto keeping_u.maintain_ledto keeping_u.phase_ledto keeping_u.keeping_next keeping_u.keeping_given keeping_u.keeping_called keeper_asks_u.keeping_read keeper_asks_u.keeping_made keeper_asks_u.keeping_calls flushing_u.flush_ask flushing_u.flush_next flushing_u.bytes_next flushing_u.flush_calls flushing_u.flush_done flushing_u.bytes_done flushing_u.count_next flushing_u.count_done serving_u.serve_ask serving_u.mailbox_from serving_u.serve_next serving_u.serve_read serving_u.mail_place world_u.life_goes moves_u.session_settled moves_u.session_asks moves_u.keeper_settled moves_u.keeper_asks past_u.history_after past_u.life_past runs_u.run phase_words_u.phase_said run_by defer_u.deferring_ask defer_u.seek_ledto defer_u.raise_ledto defer_u.arm_ledto defer_u.deferring_next defer_u.deferring_on start_u.starting_ask start_u.seek_led start_u.defer_led start_u.starting_next keeper_run_u.keeper_happens keeper_run_u.keeper_run own_u.keeper_slots own_u.keeper_steps own_u.keeper_part own_u.keeper_events begun_u.commits_begun asked_u.serials_asked begun_by_table committing_u.commit_step_answer committing_u.commit_step_next committing_u.gate_after gating_u.gate_answer gating_u.gate_next keeping_u.write_ledto
  gate_is = refl

  place_is : (writer its one other).gate.place ≡ 1024
  unfolding places shape session_u.sitting_ask session_u.attempts session_u.polls_at session_u.op_begun session_u.refresh_call session_u.poll_call session_u.sleep_call session_u.wake_call session_u.accepts session_u.shifts session_u.attempt_ledto session_u.catch_ledto session_u.clear_ledto session_u.finishes_request session_u.keeps_request session_u.poll_ledto session_u.turn_ledto session_u.leave_ledto session_u.sitting_next session_u.sitting_given catching_u.catching_ask catching_u.refresh_ledto catching_u.protect_ledto catching_u.latch_ledto catching_u.finish_ledto catching_u.latch_marked catching_u.catching_requests catching_u.catching_next attempting_u.attempting_ask attempting_u.look_ledto attempting_u.try_ledto attempting_u.put_ledto attempting_u.attempting_next pending_u.with_sought pending_u.with_held pending_u.with_latch pending_u.with_asked mailing_u.mail_ask mailing_u.mail_next trying_u.trying_ask trying_u.ends_so trying_u.ends trying_u.shared_ledto trying_u.appends trying_u.copies_from mark trying_u.copies trying_u.held_used trying_u.walk_ledto trying_u.current_ledto trying_u.answer_ledto trying_u.exclusive_ledto trying_u.old_ledto trying_u.append_ledto trying_u.exclusive_dropped trying_u.shared_dropped trying_u.trying_next walking_u.walking_ask walking_u.find_ledto walking_u.load_ledto walking_u.value_ledto walking_u.walking_next walking_u.walking_on appending_u.appending_ask appending_u.reserve_ledto appending_u.fill_ledto appending_u.publish_ledto appending_u.invalidate_ledto appending_u.appending_next header_words_u.header_said finding_u.find_step_ask finding_u.find_led publishing_u.publish_ask publishing_u.publish_next publishing_u.publish_next_ask slots_u.slot_word reserving_u.reserve_ask reserving_u.reserve_next reserving_u.reserve_next_ask filling_u.fill_ask filling_u.fill_next loading_u.load_ask loading_u.load_next loading_u.load_next_ask loading_u.load_on invalidating_u.invalidate_ask invalidating_u.invalidate_next moving_u.moving_ask moving_u.raise_led moving_u.arm_led moving_u.moving_next moving_u.raise_told moving_u.moving_next_ask shifting_u.shifting_ask shifting_u.shift_led shifting_u.shifting_next shifting_u.move_told shifting_u.shifting_next_ask turning_u.turning_ask turning_u.turn_led turning_u.turning_next turning_u.turn_told turning_u.turning_next_ask refreshing_u.refresh_ask refreshing_u.refresh_next refreshing_u.refresh_finish scanning_u.scan_ask scanning_u.sessions_from scanning_u.least_of scanning_u.scan_next claiming_u.claim_ask claiming_u.slot_after claiming_u.slot_armed claiming_u.claim_next claiming_u.claim_given raising_u.raise_ask raising_u.free_after raising_u.raise_next raising_u.raise_next_ask raising_u.raise_on arming_u.arm_ask arming_u.arm_next passing_u.passed maintaining_u.device_asked maintaining_u.maintaining_ask maintaining_u.scan_ledto maintaining_u.claim_ledto maintaining_u.flush_ledto maintaining_u.shift_ledto maintaining_u.serve_ledto maintaining_u.turn_ledto maintaining_u.maintaining_next maintaining_u.maintaining_given maintaining_u.maintaining_called maintaining_u.maintaining_calls maintaining_u.maintaining_made keeping_u.device_passed keeping_u.keeping_ask keeping_u.start_ledto keeping_u.maintain_ledto keeping_u.phase_ledto keeping_u.keeping_next keeping_u.keeping_given keeping_u.keeping_called keeper_asks_u.keeping_read keeper_asks_u.keeping_made keeper_asks_u.keeping_calls flushing_u.flush_ask flushing_u.flush_next flushing_u.bytes_next flushing_u.flush_calls flushing_u.flush_done flushing_u.bytes_done flushing_u.count_next flushing_u.count_done serving_u.serve_ask serving_u.mailbox_from serving_u.serve_next serving_u.serve_read serving_u.mail_place world_u.life_goes moves_u.session_settled moves_u.session_asks moves_u.keeper_settled moves_u.keeper_asks past_u.history_after past_u.life_past runs_u.run phase_words_u.phase_said run_by defer_u.deferring_ask defer_u.seek_ledto defer_u.raise_ledto defer_u.arm_ledto defer_u.deferring_next defer_u.deferring_on start_u.starting_ask start_u.seek_led start_u.defer_led start_u.starting_next keeper_run_u.keeper_happens keeper_run_u.keeper_run own_u.keeper_slots own_u.keeper_steps own_u.keeper_part own_u.keeper_events begun_u.commits_begun asked_u.serials_asked begun_by_table committing_u.commit_step_answer committing_u.commit_step_next committing_u.gate_after gating_u.gate_answer gating_u.gate_next keeping_u.write_ledto
  place_is = refl

  start_is : (writer its one other).gate.start ≡ 1
  unfolding places shape session_u.sitting_ask session_u.attempts session_u.polls_at session_u.op_begun session_u.refresh_call session_u.poll_call session_u.sleep_call session_u.wake_call session_u.accepts session_u.shifts session_u.attempt_ledto session_u.catch_ledto session_u.clear_ledto session_u.finishes_request session_u.keeps_request session_u.poll_ledto session_u.turn_ledto session_u.leave_ledto session_u.sitting_next session_u.sitting_given catching_u.catching_ask catching_u.refresh_ledto catching_u.protect_ledto catching_u.latch_ledto catching_u.finish_ledto catching_u.latch_marked catching_u.catching_requests catching_u.catching_next attempting_u.attempting_ask attempting_u.look_ledto attempting_u.try_ledto attempting_u.put_ledto attempting_u.attempting_next pending_u.with_sought pending_u.with_held pending_u.with_latch pending_u.with_asked mailing_u.mail_ask mailing_u.mail_next trying_u.trying_ask trying_u.ends_so trying_u.ends trying_u.shared_ledto trying_u.appends trying_u.copies_from mark trying_u.copies trying_u.held_used trying_u.walk_ledto trying_u.current_ledto trying_u.answer_ledto trying_u.exclusive_ledto trying_u.old_ledto trying_u.append_ledto trying_u.exclusive_dropped trying_u.shared_dropped trying_u.trying_next walking_u.walking_ask walking_u.find_ledto walking_u.load_ledto walking_u.value_ledto walking_u.walking_next walking_u.walking_on appending_u.appending_ask appending_u.reserve_ledto appending_u.fill_ledto appending_u.publish_ledto appending_u.invalidate_ledto appending_u.appending_next header_words_u.header_said finding_u.find_step_ask finding_u.find_led publishing_u.publish_ask publishing_u.publish_next publishing_u.publish_next_ask slots_u.slot_word reserving_u.reserve_ask reserving_u.reserve_next reserving_u.reserve_next_ask filling_u.fill_ask filling_u.fill_next loading_u.load_ask loading_u.load_next loading_u.load_next_ask loading_u.load_on invalidating_u.invalidate_ask invalidating_u.invalidate_next moving_u.moving_ask moving_u.raise_led moving_u.arm_led moving_u.moving_next moving_u.raise_told moving_u.moving_next_ask shifting_u.shifting_ask shifting_u.shift_led shifting_u.shifting_next shifting_u.move_told shifting_u.shifting_next_ask turning_u.turning_ask turning_u.turn_led turning_u.turning_next turning_u.turn_told turning_u.turning_next_ask refreshing_u.refresh_ask refreshing_u.refresh_next refreshing_u.refresh_finish scanning_u.scan_ask scanning_u.sessions_from scanning_u.least_of scanning_u.scan_next claiming_u.claim_ask claiming_u.slot_after claiming_u.slot_armed claiming_u.claim_next claiming_u.claim_given raising_u.raise_ask raising_u.free_after raising_u.raise_next raising_u.raise_next_ask raising_u.raise_on arming_u.arm_ask arming_u.arm_next passing_u.passed maintaining_u.device_asked maintaining_u.maintaining_ask maintaining_u.scan_ledto maintaining_u.claim_ledto maintaining_u.flush_ledto maintaining_u.shift_ledto maintaining_u.serve_ledto maintaining_u.turn_ledto maintaining_u.maintaining_next maintaining_u.maintaining_given maintaining_u.maintaining_called maintaining_u.maintaining_calls maintaining_u.maintaining_made keeping_u.device_passed keeping_u.keeping_ask keeping_u.start_ledto keeping_u.maintain_ledto keeping_u.phase_ledto keeping_u.keeping_next keeping_u.keeping_given keeping_u.keeping_called keeper_asks_u.keeping_read keeper_asks_u.keeping_made keeper_asks_u.keeping_calls flushing_u.flush_ask flushing_u.flush_next flushing_u.bytes_next flushing_u.flush_calls flushing_u.flush_done flushing_u.bytes_done flushing_u.count_next flushing_u.count_done serving_u.serve_ask serving_u.mailbox_from serving_u.serve_next serving_u.serve_read serving_u.mail_place world_u.life_goes moves_u.session_settled moves_u.session_asks moves_u.keeper_settled moves_u.keeper_asks past_u.history_after past_u.life_past runs_u.run phase_words_u.phase_said run_by defer_u.deferring_ask defer_u.seek_ledto defer_u.raise_ledto defer_u.arm_ledto defer_u.deferring_next defer_u.deferring_on start_u.starting_ask start_u.seek_led start_u.defer_led start_u.starting_next keeper_run_u.keeper_happens keeper_run_u.keeper_run own_u.keeper_slots own_u.keeper_steps own_u.keeper_part own_u.keeper_events begun_u.commits_begun asked_u.serials_asked begun_by_table committing_u.commit_step_answer committing_u.commit_step_next committing_u.gate_after gating_u.gate_answer gating_u.gate_next keeping_u.write_ledto
  start_is = refl

  slot_is : (writer its one other).gate.slot ≡ newest_bytes said
  unfolding places shape session_u.sitting_ask session_u.attempts session_u.polls_at session_u.op_begun session_u.refresh_call session_u.poll_call session_u.sleep_call session_u.wake_call session_u.accepts session_u.shifts session_u.attempt_ledto session_u.catch_ledto session_u.clear_ledto session_u.finishes_request session_u.keeps_request session_u.poll_ledto session_u.turn_ledto session_u.leave_ledto session_u.sitting_next session_u.sitting_given catching_u.catching_ask catching_u.refresh_ledto catching_u.protect_ledto catching_u.latch_ledto catching_u.finish_ledto catching_u.latch_marked catching_u.catching_requests catching_u.catching_next attempting_u.attempting_ask attempting_u.look_ledto attempting_u.try_ledto attempting_u.put_ledto attempting_u.attempting_next pending_u.with_sought pending_u.with_held pending_u.with_latch pending_u.with_asked mailing_u.mail_ask mailing_u.mail_next trying_u.trying_ask trying_u.ends_so trying_u.ends trying_u.shared_ledto trying_u.appends trying_u.copies_from mark trying_u.copies trying_u.held_used trying_u.walk_ledto trying_u.current_ledto trying_u.answer_ledto trying_u.exclusive_ledto trying_u.old_ledto trying_u.append_ledto trying_u.exclusive_dropped trying_u.shared_dropped trying_u.trying_next walking_u.walking_ask walking_u.find_ledto walking_u.load_ledto walking_u.value_ledto walking_u.walking_next walking_u.walking_on appending_u.appending_ask appending_u.reserve_ledto appending_u.fill_ledto appending_u.publish_ledto appending_u.invalidate_ledto appending_u.appending_next header_words_u.header_said finding_u.find_step_ask finding_u.find_led publishing_u.publish_ask publishing_u.publish_next publishing_u.publish_next_ask slots_u.slot_word reserving_u.reserve_ask reserving_u.reserve_next reserving_u.reserve_next_ask filling_u.fill_ask filling_u.fill_next loading_u.load_ask loading_u.load_next loading_u.load_next_ask loading_u.load_on invalidating_u.invalidate_ask invalidating_u.invalidate_next moving_u.moving_ask moving_u.raise_led moving_u.arm_led moving_u.moving_next moving_u.raise_told moving_u.moving_next_ask shifting_u.shifting_ask shifting_u.shift_led shifting_u.shifting_next shifting_u.move_told shifting_u.shifting_next_ask turning_u.turning_ask turning_u.turn_led turning_u.turning_next turning_u.turn_told turning_u.turning_next_ask refreshing_u.refresh_ask refreshing_u.refresh_next refreshing_u.refresh_finish scanning_u.scan_ask scanning_u.sessions_from scanning_u.least_of scanning_u.scan_next claiming_u.claim_ask claiming_u.slot_after claiming_u.slot_armed claiming_u.claim_next claiming_u.claim_given raising_u.raise_ask raising_u.free_after raising_u.raise_next raising_u.raise_next_ask raising_u.raise_on arming_u.arm_ask arming_u.arm_next passing_u.passed maintaining_u.device_asked maintaining_u.maintaining_ask maintaining_u.scan_ledto maintaining_u.claim_ledto maintaining_u.flush_ledto maintaining_u.shift_ledto maintaining_u.serve_ledto maintaining_u.turn_ledto maintaining_u.maintaining_next maintaining_u.maintaining_given maintaining_u.maintaining_called maintaining_u.maintaining_calls maintaining_u.maintaining_made keeping_u.device_passed keeping_u.keeping_ask keeping_u.start_ledto keeping_u.maintain_ledto keeping_u.phase_ledto keeping_u.keeping_next keeping_u.keeping_given keeping_u.keeping_called keeper_asks_u.keeping_read keeper_asks_u.keeping_made keeper_asks_u.keeping_calls flushing_u.flush_ask flushing_u.flush_next flushing_u.bytes_next flushing_u.flush_calls flushing_u.flush_done flushing_u.bytes_done flushing_u.count_next flushing_u.count_done serving_u.serve_ask serving_u.mailbox_from serving_u.serve_next serving_u.serve_read serving_u.mail_place world_u.life_goes moves_u.session_settled moves_u.session_asks moves_u.keeper_settled moves_u.keeper_asks past_u.history_after past_u.life_past runs_u.run phase_words_u.phase_said run_by defer_u.deferring_ask defer_u.seek_ledto defer_u.raise_ledto defer_u.arm_ledto defer_u.deferring_next defer_u.deferring_on start_u.starting_ask start_u.seek_led start_u.defer_led start_u.starting_next keeper_run_u.keeper_happens keeper_run_u.keeper_run own_u.keeper_slots own_u.keeper_steps own_u.keeper_part own_u.keeper_events begun_u.commits_begun asked_u.serials_asked begun_by_table committing_u.commit_step_answer committing_u.commit_step_next committing_u.gate_after gating_u.gate_answer gating_u.gate_next keeping_u.write_ledto
  slot_is = refl

  area_is : (writer its one other).area ≡ area_place shape (area_number (other_area its.last.checkpoint.area))
  unfolding places shape session_u.sitting_ask session_u.attempts session_u.polls_at session_u.op_begun session_u.refresh_call session_u.poll_call session_u.sleep_call session_u.wake_call session_u.accepts session_u.shifts session_u.attempt_ledto session_u.catch_ledto session_u.clear_ledto session_u.finishes_request session_u.keeps_request session_u.poll_ledto session_u.turn_ledto session_u.leave_ledto session_u.sitting_next session_u.sitting_given catching_u.catching_ask catching_u.refresh_ledto catching_u.protect_ledto catching_u.latch_ledto catching_u.finish_ledto catching_u.latch_marked catching_u.catching_requests catching_u.catching_next attempting_u.attempting_ask attempting_u.look_ledto attempting_u.try_ledto attempting_u.put_ledto attempting_u.attempting_next pending_u.with_sought pending_u.with_held pending_u.with_latch pending_u.with_asked mailing_u.mail_ask mailing_u.mail_next trying_u.trying_ask trying_u.ends_so trying_u.ends trying_u.shared_ledto trying_u.appends trying_u.copies_from mark trying_u.copies trying_u.held_used trying_u.walk_ledto trying_u.current_ledto trying_u.answer_ledto trying_u.exclusive_ledto trying_u.old_ledto trying_u.append_ledto trying_u.exclusive_dropped trying_u.shared_dropped trying_u.trying_next walking_u.walking_ask walking_u.find_ledto walking_u.load_ledto walking_u.value_ledto walking_u.walking_next walking_u.walking_on appending_u.appending_ask appending_u.reserve_ledto appending_u.fill_ledto appending_u.publish_ledto appending_u.invalidate_ledto appending_u.appending_next header_words_u.header_said finding_u.find_step_ask finding_u.find_led publishing_u.publish_ask publishing_u.publish_next publishing_u.publish_next_ask slots_u.slot_word reserving_u.reserve_ask reserving_u.reserve_next reserving_u.reserve_next_ask filling_u.fill_ask filling_u.fill_next loading_u.load_ask loading_u.load_next loading_u.load_next_ask loading_u.load_on invalidating_u.invalidate_ask invalidating_u.invalidate_next moving_u.moving_ask moving_u.raise_led moving_u.arm_led moving_u.moving_next moving_u.raise_told moving_u.moving_next_ask shifting_u.shifting_ask shifting_u.shift_led shifting_u.shifting_next shifting_u.move_told shifting_u.shifting_next_ask turning_u.turning_ask turning_u.turn_led turning_u.turning_next turning_u.turn_told turning_u.turning_next_ask refreshing_u.refresh_ask refreshing_u.refresh_next refreshing_u.refresh_finish scanning_u.scan_ask scanning_u.sessions_from scanning_u.least_of scanning_u.scan_next claiming_u.claim_ask claiming_u.slot_after claiming_u.slot_armed claiming_u.claim_next claiming_u.claim_given raising_u.raise_ask raising_u.free_after raising_u.raise_next raising_u.raise_next_ask raising_u.raise_on arming_u.arm_ask arming_u.arm_next passing_u.passed maintaining_u.device_asked maintaining_u.maintaining_ask maintaining_u.scan_ledto maintaining_u.claim_ledto maintaining_u.flush_ledto maintaining_u.shift_ledto maintaining_u.serve_ledto maintaining_u.turn_ledto maintaining_u.maintaining_next maintaining_u.maintaining_given maintaining_u.maintaining_called maintaining_u.maintaining_calls maintaining_u.maintaining_made keeping_u.device_passed keeping_u.keeping_ask keeping_u.start_ledto keeping_u.maintain_ledto keeping_u.phase_ledto keeping_u.keeping_next keeping_u.keeping_given keeping_u.keeping_called keeper_asks_u.keeping_read keeper_asks_u.keeping_made keeper_asks_u.keeping_calls flushing_u.flush_ask flushing_u.flush_next flushing_u.bytes_next flushing_u.flush_calls flushing_u.flush_done flushing_u.bytes_done flushing_u.count_next flushing_u.count_done serving_u.serve_ask serving_u.mailbox_from serving_u.serve_next serving_u.serve_read serving_u.mail_place world_u.life_goes moves_u.session_settled moves_u.session_asks moves_u.keeper_settled moves_u.keeper_asks past_u.history_after past_u.life_past runs_u.run phase_words_u.phase_said run_by defer_u.deferring_ask defer_u.seek_ledto defer_u.raise_ledto defer_u.arm_ledto defer_u.deferring_next defer_u.deferring_on start_u.starting_ask start_u.seek_led start_u.defer_led start_u.starting_next keeper_run_u.keeper_happens keeper_run_u.keeper_run own_u.keeper_slots own_u.keeper_steps own_u.keeper_part own_u.keeper_events begun_u.commits_begun asked_u.serials_asked begun_by_table committing_u.commit_step_answer committing_u.commit_step_next committing_u.gate_after gating_u.gate_answer gating_u.gate_next keeping_u.write_ledto
  area_is = refl

  numbers_are : map (λ (c : BegunCommit). c.number.0) (begun_by_table (slot_says_next_number shape) (world its one other) five_calls) ≡ 1 ∷ 0 ∷ []
  unfolding places shape session_u.sitting_ask session_u.attempts session_u.polls_at session_u.op_begun session_u.refresh_call session_u.poll_call session_u.sleep_call session_u.wake_call session_u.accepts session_u.shifts session_u.attempt_ledto session_u.catch_ledto session_u.clear_ledto session_u.finishes_request session_u.keeps_request session_u.poll_ledto session_u.turn_ledto session_u.leave_ledto session_u.sitting_next session_u.sitting_given catching_u.catching_ask catching_u.refresh_ledto catching_u.protect_ledto catching_u.latch_ledto catching_u.finish_ledto catching_u.latch_marked catching_u.catching_requests catching_u.catching_next attempting_u.attempting_ask attempting_u.look_ledto attempting_u.try_ledto attempting_u.put_ledto attempting_u.attempting_next pending_u.with_sought pending_u.with_held pending_u.with_latch pending_u.with_asked mailing_u.mail_ask mailing_u.mail_next trying_u.trying_ask trying_u.ends_so trying_u.ends trying_u.shared_ledto trying_u.appends trying_u.copies_from mark trying_u.copies trying_u.held_used trying_u.walk_ledto trying_u.current_ledto trying_u.answer_ledto trying_u.exclusive_ledto trying_u.old_ledto trying_u.append_ledto trying_u.exclusive_dropped trying_u.shared_dropped trying_u.trying_next walking_u.walking_ask walking_u.find_ledto walking_u.load_ledto walking_u.value_ledto walking_u.walking_next walking_u.walking_on appending_u.appending_ask appending_u.reserve_ledto appending_u.fill_ledto appending_u.publish_ledto appending_u.invalidate_ledto appending_u.appending_next header_words_u.header_said finding_u.find_step_ask finding_u.find_led publishing_u.publish_ask publishing_u.publish_next publishing_u.publish_next_ask slots_u.slot_word reserving_u.reserve_ask reserving_u.reserve_next reserving_u.reserve_next_ask filling_u.fill_ask filling_u.fill_next loading_u.load_ask loading_u.load_next loading_u.load_next_ask loading_u.load_on invalidating_u.invalidate_ask invalidating_u.invalidate_next moving_u.moving_ask moving_u.raise_led moving_u.arm_led moving_u.moving_next moving_u.raise_told moving_u.moving_next_ask shifting_u.shifting_ask shifting_u.shift_led shifting_u.shifting_next shifting_u.move_told shifting_u.shifting_next_ask turning_u.turning_ask turning_u.turn_led turning_u.turning_next turning_u.turn_told turning_u.turning_next_ask refreshing_u.refresh_ask refreshing_u.refresh_next refreshing_u.refresh_finish scanning_u.scan_ask scanning_u.sessions_from scanning_u.least_of scanning_u.scan_next claiming_u.claim_ask claiming_u.slot_after claiming_u.slot_armed claiming_u.claim_next claiming_u.claim_given raising_u.raise_ask raising_u.free_after raising_u.raise_next raising_u.raise_next_ask raising_u.raise_on arming_u.arm_ask arming_u.arm_next passing_u.passed maintaining_u.device_asked maintaining_u.maintaining_ask maintaining_u.scan_ledto maintaining_u.claim_ledto maintaining_u.flush_ledto maintaining_u.shift_ledto maintaining_u.serve_ledto maintaining_u.turn_ledto maintaining_u.maintaining_next maintaining_u.maintaining_given maintaining_u.maintaining_called maintaining_u.maintaining_calls maintaining_u.maintaining_made keeping_u.device_passed keeping_u.keeping_ask keeping_u.start_ledto keeping_u.maintain_ledto keeping_u.phase_ledto keeping_u.keeping_next keeping_u.keeping_given keeping_u.keeping_called keeper_asks_u.keeping_read keeper_asks_u.keeping_made keeper_asks_u.keeping_calls flushing_u.flush_ask flushing_u.flush_next flushing_u.bytes_next flushing_u.flush_calls flushing_u.flush_done flushing_u.bytes_done flushing_u.count_next flushing_u.count_done serving_u.serve_ask serving_u.mailbox_from serving_u.serve_next serving_u.serve_read serving_u.mail_place world_u.life_goes moves_u.session_settled moves_u.session_asks moves_u.keeper_settled moves_u.keeper_asks past_u.history_after past_u.life_past runs_u.run phase_words_u.phase_said run_by defer_u.deferring_ask defer_u.seek_ledto defer_u.raise_ledto defer_u.arm_ledto defer_u.deferring_next defer_u.deferring_on start_u.starting_ask start_u.seek_led start_u.defer_led start_u.starting_next keeper_run_u.keeper_happens keeper_run_u.keeper_run own_u.keeper_slots own_u.keeper_steps own_u.keeper_part own_u.keeper_events begun_u.commits_begun asked_u.serials_asked begun_by_table committing_u.commit_step_answer committing_u.commit_step_next committing_u.gate_after gating_u.gate_answer gating_u.gate_next keeping_u.write_ledto
  numbers_are = refl

  triples_are : (writer its one other).triples ≡ []
  unfolding places shape session_u.sitting_ask session_u.attempts session_u.polls_at session_u.op_begun session_u.refresh_call session_u.poll_call session_u.sleep_call session_u.wake_call session_u.accepts session_u.shifts session_u.attempt_ledto session_u.catch_ledto session_u.clear_ledto session_u.finishes_request session_u.keeps_request session_u.poll_ledto session_u.turn_ledto session_u.leave_ledto session_u.sitting_next session_u.sitting_given catching_u.catching_ask catching_u.refresh_ledto catching_u.protect_ledto catching_u.latch_ledto catching_u.finish_ledto catching_u.latch_marked catching_u.catching_requests catching_u.catching_next attempting_u.attempting_ask attempting_u.look_ledto attempting_u.try_ledto attempting_u.put_ledto attempting_u.attempting_next pending_u.with_sought pending_u.with_held pending_u.with_latch pending_u.with_asked mailing_u.mail_ask mailing_u.mail_next trying_u.trying_ask trying_u.ends_so trying_u.ends trying_u.shared_ledto trying_u.appends trying_u.copies_from mark trying_u.copies trying_u.held_used trying_u.walk_ledto trying_u.current_ledto trying_u.answer_ledto trying_u.exclusive_ledto trying_u.old_ledto trying_u.append_ledto trying_u.exclusive_dropped trying_u.shared_dropped trying_u.trying_next walking_u.walking_ask walking_u.find_ledto walking_u.load_ledto walking_u.value_ledto walking_u.walking_next walking_u.walking_on appending_u.appending_ask appending_u.reserve_ledto appending_u.fill_ledto appending_u.publish_ledto appending_u.invalidate_ledto appending_u.appending_next header_words_u.header_said finding_u.find_step_ask finding_u.find_led publishing_u.publish_ask publishing_u.publish_next publishing_u.publish_next_ask slots_u.slot_word reserving_u.reserve_ask reserving_u.reserve_next reserving_u.reserve_next_ask filling_u.fill_ask filling_u.fill_next loading_u.load_ask loading_u.load_next loading_u.load_next_ask loading_u.load_on invalidating_u.invalidate_ask invalidating_u.invalidate_next moving_u.moving_ask moving_u.raise_led moving_u.arm_led moving_u.moving_next moving_u.raise_told moving_u.moving_next_ask shifting_u.shifting_ask shifting_u.shift_led shifting_u.shifting_next shifting_u.move_told shifting_u.shifting_next_ask turning_u.turning_ask turning_u.turn_led turning_u.turning_next turning_u.turn_told turning_u.turning_next_ask refreshing_u.refresh_ask refreshing_u.refresh_next refreshing_u.refresh_finish scanning_u.scan_ask scanning_u.sessions_from scanning_u.least_of scanning_u.scan_next claiming_u.claim_ask claiming_u.slot_after claiming_u.slot_armed claiming_u.claim_next claiming_u.claim_given raising_u.raise_ask raising_u.free_after raising_u.raise_next raising_u.raise_next_ask raising_u.raise_on arming_u.arm_ask arming_u.arm_next passing_u.passed maintaining_u.device_asked maintaining_u.maintaining_ask maintaining_u.scan_ledto maintaining_u.claim_ledto maintaining_u.flush_ledto maintaining_u.shift_ledto maintaining_u.serve_ledto maintaining_u.turn_ledto maintaining_u.maintaining_next maintaining_u.maintaining_given maintaining_u.maintaining_called maintaining_u.maintaining_calls maintaining_u.maintaining_made keeping_u.device_passed keeping_u.keeping_ask keeping_u.start_ledto keeping_u.maintain_ledto keeping_u.phase_ledto keeping_u.keeping_next keeping_u.keeping_given keeping_u.keeping_called keeper_asks_u.keeping_read keeper_asks_u.keeping_made keeper_asks_u.keeping_calls flushing_u.flush_ask flushing_u.flush_next flushing_u.bytes_next flushing_u.flush_calls flushing_u.flush_done flushing_u.bytes_done flushing_u.count_next flushing_u.count_done serving_u.serve_ask serving_u.mailbox_from serving_u.serve_next serving_u.serve_read serving_u.mail_place world_u.life_goes moves_u.session_settled moves_u.session_asks moves_u.keeper_settled moves_u.keeper_asks past_u.history_after past_u.life_past runs_u.run phase_words_u.phase_said run_by defer_u.deferring_ask defer_u.seek_ledto defer_u.raise_ledto defer_u.arm_ledto defer_u.deferring_next defer_u.deferring_on start_u.starting_ask start_u.seek_led start_u.defer_led start_u.starting_next keeper_run_u.keeper_happens keeper_run_u.keeper_run own_u.keeper_slots own_u.keeper_steps own_u.keeper_part own_u.keeper_events begun_u.commits_begun asked_u.serials_asked begun_by_table committing_u.commit_step_answer committing_u.commit_step_next committing_u.gate_after gating_u.gate_answer gating_u.gate_next keeping_u.write_ledto
  triples_are = refl

  calls_are : (run_by (slot_says_next_number shape) (world its one other) five_calls).past.calls ≡ commit_made (writer its one other) five ++ []
  calls_are = calls_told ∙ sym (made_so (writer its one other) step_syncs gate_is place_is start_is (newest_bytes said) slot_is)

  area_low : 1536 ≤ (writer its one other).area
  area_low = omega (arith, area_is)

  -- ---- what it makes of an image
  module _ (named : AreNamed) where
    is_writer : IsWriter (writer its one other) 2
    is_writer = record {
      step = step_syncs;
      triples = triples_are;
      gate = gate_is;
      place = place_is;
      start = start_is;
      slot = subst (λ (s : List ℕ). IsSlotOf 2 s) (sym slot_is) (named said (omega arith) (omega arith) (omega arith));
      area = area_low;
      some = omega arith;
    }

    module _ (image : List ℕ) (new : NewStands (writer its one other) image) where
      -- a slot that is read from there says 2
      number_is : (format : Format) (slot : ManifestSlot) → manifest_bytes (format, slot) ≡ Some (slot_in image 1024) → slot.number ≡ 2
      number_is format slot stands =
          sym (slot_named format slot (slot_in image 1024) stands) ∙ (ap (λ (s : List ℕ). number_at s 8) (bytes_are (writer its one other) 2 is_writer image new) ∙ is_writer.slot.names)

      -- and the newest slot is there
      newest_there : (n : Newest) → IsNewestOf image n → (n.index ≡ 1) × (n.slot.number ≡ 2)
      newest_there n is =
          let same : Some 1024 ≡ Some (slot_place n.index) = sym (in_force (writer its one other) 2 is_writer image new) ∙ is.in_force in
          let place : 1024 ≡ slot_place n.index = cc in
          (omega (arith, place), number_is n.format n.slot (is.manifest.stands ∙ ap (λ (at : ℕ). Some (slot_in image at)) (sym place)))

      names_two : (c : BegunCommit) → NamesCommit image c → c.number.0 ≡ 2
      names_two c names = sym names.number ∙ (newest_there names.newest names.its).1

      fault : HasShape image shape → IsFaultOf image (Damaged Manifest 1)
      fault block = of_newest (record {
        shape = shape;
        block = block;
        in_force = in_force (writer its one other) 2 is_writer image new;
        here = λ format slot is. (let two = number_is format slot is.stands in let parity = is.suits.number.parity in omega (arith, two, parity));
      })

      -- its number hasn't the parity of its place
      no_store : (o : Opened) → IsStoreOf image o → ⊥
      no_store o store =
          let there = newest_there store.newest store.checkpoint.newest in
          let place = there.0 in
          let two = there.1 in
          let parity = store.checkpoint.newest.manifest.suits.number.parity in
          omega (arith, place, two, parity)

-- the commits that have begun have the numbers 1 and 0
not_two : (c : BegunCommit) (begun : List BegunCommit) → map (λ (x : BegunCommit). x.number.0) begun ≡ 1 ∷ 0 ∷ [] → IsIn c begun → c.number.0 ≡ 2 → ⊥
not_two c [] are is two = is
not_two c (d ∷ []) are is two = let none : ◌≡◌ {A = List ℕ} [] (0 ∷ []) = cc in cc
not_two c (d ∷ e ∷ []) are (inl same) two = let first : d.number.0 ≡ 1 = cc in let its = ap (λ (x : BegunCommit). x.number.0) same in omega (arith, first, its, two)
not_two c (d ∷ e ∷ []) are (inr (inl same)) two = let second : e.number.0 ≡ 0 = cc in let its = ap (λ (x : BegunCommit). x.number.0) same in omega (arith, second, its, two)
not_two c (d ∷ e ∷ []) are (inr (inr none)) two = none
not_two c (d ∷ e ∷ x ∷ rest) are is two = let none : ◌≡◌ {A = List ℕ} (x.number.0 ∷ map (λ (y : BegunCommit). y.number.0) rest) [] = cc in cc

the_areas : (a : Area) → AreTheAreas (area_number (other_area a)) (area_number a)
the_areas First = inr (refl, refl)
the_areas Second = inl (refl, refl)

module _ (written : IsWritten) (store : SparesStores) (named : AreNamed) (created : AreCreated) (its : KeeperState) (one other : SessionState) where
  as_made : (bytes image : List ℕ) → MayLeave bytes (run_by (slot_says_next_number shape) (world its one other) five_calls).past.calls image → MayLeave bytes (commit_made (writer its one other) five ++ []) image
  as_made bytes image left = subst (λ (calls : List Call). MayLeave bytes calls image) (calls_are its one other) left

  new_stands : (bytes image : List ℕ) → BeginAtFirst shape bytes → MayLeave bytes (run_by (slot_says_next_number shape) (world its one other) five_calls).past.calls image → NewStands (writer its one other) image
  new_stands bytes image first left =
      written (writer its one other) bytes [] 512 five image (begins (writer its one other) 2 (is_writer its one other named) shape bytes first) (as_made bytes image left) (ends its one other)

  stays_itself : (bytes : List ℕ) (calls : List Call) → MayLeave bytes calls (reads_as bytes calls)
  stays_itself bytes calls = reads_may_stay bytes calls (reads_as bytes calls) (reads_itself bytes calls)

  pub wrong_images : AreWrongImages its one other
  wrong_images = record {
    shape = shape;
    places = places;
    begins = λ old. begins_at_first shape (created_bytes old shape) (created old shape);
    stays = λ bytes. stays_itself bytes (run_by (slot_says_next_number shape) (world its one other) five_calls).past.calls;
    unnamed = λ bytes image c first left is names.
        not_two c (begun_by_table (slot_says_next_number shape) (world its one other) five_calls) (numbers_are its one other) is (names_two its one other named image (new_stands bytes image first left) c names);
    faulty = λ bytes image first left.
        let is : IsWriter (writer its one other) 2 = is_writer its one other named in
        let its_area = area_is its one other in
        let spared = store shape (writer its one other) bytes [] 512 (area_number (other_area its.last.checkpoint.area)) (area_number its.last.checkpoint.area) five image (begins (writer its one other) 2 is shape bytes first) (as_made bytes image left)
        (lies (writer its one other) 2 is shape (area_number (other_area its.last.checkpoint.area)) (area_number its.last.checkpoint.area) (the_areas its.last.checkpoint.area) its_area) in
        fault its one other named image (new_stands bytes image first left) (first.block ∙ sym (spared.block 64 (omega arith) (let long = first.long in omega (arith, long))));
    storeless = λ bytes image o first left. no_store its one other named image (new_stands bytes image first left) o;
  }
