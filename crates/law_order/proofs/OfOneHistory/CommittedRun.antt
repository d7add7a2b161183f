-- The life with two commits, by computing it.
use Rattle.std.proofs.Common.{◌≡◌, ℕ, List, [], ◌∷◌, refl}
use Rattle.fkv_base.specs.declared.commits.CommitKind.TheVariants.{Full, Log}
use Rattle.fkv_marks.specs.Marks.{mark}
use Rattle.law_commit.specs.Below.fkv_checkpoint.Copying as copying
use Rattle.law_commit.specs.Below.fkv_checkpoint.Triples as triples
use Rattle.law_commit.specs.Below.fkv_commit.Cuts as cuts
use Rattle.law_commit.specs.Below.fkv_commit.Deferring as deferring
use Rattle.law_commit.specs.Below.fkv_commit.Entering as entering
use Rattle.law_commit.specs.Below.fkv_commit.Finishing as finishing
use Rattle.law_commit.specs.Below.fkv_commit.Seeking as seeking
use Rattle.law_commit.specs.Below.fkv_commit.Starting as starting
use Rattle.law_commit.specs.Below.fkv_commit.Waiting as waiting
use Rattle.fkv_epoch.specs.Arming as arming
use Rattle.fkv_epoch.specs.Claiming as claiming
use Rattle.fkv_epoch.specs.Raising as raising
use Rattle.fkv_epoch.specs.Refreshing as refreshing
use Rattle.fkv_epoch.specs.Scanning as scanning
use Rattle.law_commit.specs.Below.fkv_flush.Flushing as flushing
use Rattle.law_commit.specs.Below.fkv_flush.Serving as serving
use Rattle.fkv_index.specs.Finding as finding
use Rattle.fkv_index.specs.Publishing as publishing
use Rattle.fkv_index.specs.Slots as slots
use Rattle.law_commit.specs.Below.fkv_keeper.Keeping as keeping
use Rattle.fkv_latch.specs.Latching as latching
use Rattle.law_commit.specs.Below.fkv_log.Filling as filling
use Rattle.law_commit.specs.Below.fkv_log.Invalidating as invalidating
use Rattle.law_commit.specs.Below.fkv_log.Loading as loading
use Rattle.law_commit.specs.Below.fkv_log.Moving as moving
use Rattle.law_commit.specs.Below.fkv_log.Reserving as reserving
use Rattle.law_commit.specs.Below.fkv_log.Shifting as shifting
use Rattle.law_commit.specs.Below.fkv_log.Turning as turning
use Rattle.law_commit.specs.Below.fkv_maintain.Maintaining as maintaining
use Rattle.law_commit.specs.Below.fkv_manifest.Committing as committing
use Rattle.law_commit.specs.Below.fkv_manifest.Gating as gating
use Rattle.law_commit.specs.Below.fkv_ops.Appending as appending
use Rattle.law_commit.specs.Below.fkv_ops.HeaderWords as header_words
use Rattle.law_commit.specs.Below.fkv_ops.Trying as trying
use Rattle.law_commit.specs.Below.fkv_ops.Walking as walking
use Rattle.law_commit.specs.Below.fkv_pending.Attempting as attempting
use Rattle.law_commit.specs.Below.fkv_pending.Mailing as mailing
use Rattle.law_commit.specs.Below.fkv_pending.Pending as pending
use Rattle.fkv_plane.specs.Passing as passing
use Rattle.law_commit.specs.Below.fkv_session.CatchingUp as catching
use Rattle.law_commit.specs.Below.fkv_session.Sessions as sessions
use Rattle.fkv_words.specs.PhaseWords as phase_words
use Rattle.law_commit.specs.Below.fkv_world.Moves as moves
use Rattle.law_commit.specs.Below.fkv_world.Past as past
use Rattle.law_commit.specs.Below.fkv_world.Runs as runs
use Rattle.law_commit.specs.Below.fkv_world.World as world
use Rattle.law_commit.specs.Below.fkv_keeper.Keeping.{KeeperState}
use Rattle.law_commit.specs.Below.fkv_session.Sessions.{SessionState}
use Rattle.law_order.specs.OneHistory.Committed.{HasBegunNext, HasFinished, committed_events, committed_history, crashed_events, full_events}
use Rattle.law_order.specs.Rules.Ordered.{effects_so_far, now_after}
use Rattle.law_order.proofs.OfOneHistory.CommittedWorld.{new_keeper}
use Rattle.law_order.proofs.OfOneHistory.WorkedShape.{places, shape}
use Rattle.law_order.proofs.OfOneHistory.WorkedWorld.{worked_now}

-- what is said of it, whatever bytes it begins with
pub record IsComputed (keeper : KeeperState) (one other : SessionState) (bytes : List ℕ) : Type 0 where
  pub full : HasFinished Full 1 (1 ∷ 0 ∷ []) (now_after (worked_now (new_keeper keeper) one other) bytes full_events)
  pub log : HasFinished Log 2 (1 ∷ 1 ∷ []) (now_after (worked_now (new_keeper keeper) one other) bytes committed_events)
  pub effects : effects_so_far (worked_now (new_keeper keeper) one other) bytes committed_events ≡ committed_history
  pub begun : HasBegunNext (now_after (worked_now (new_keeper keeper) one other) bytes crashed_events)
  pub effects_then : effects_so_far (worked_now (new_keeper keeper) one other) bytes crashed_events ≡ committed_history

pub computed : (keeper : KeeperState) (one other : SessionState) (bytes : List ℕ) → IsComputed keeper one other bytes
unfolding worked_now places shape phase_words.phase_said passing.passed arming.arm_ask arming.arm_next arming.arm_asks_left claiming.claim_ask claiming.slot_after claiming.slot_armed claiming.claim_next claiming.claim_given claiming.claim_asks_left raising.raise_ask raising.free_after raising.raise_next raising.raise_next_ask raising.raise_on raising.raise_asks_left raising.raise_asks_later refreshing.refresh_ask refreshing.refresh_next refreshing.refresh_finish refreshing.refresh_asks_left refreshing.refresh_asks_later scanning.scan_ask scanning.sessions_from scanning.least_of scanning.scan_next scanning.scan_asks_left finding.find_step_ask finding.find_led finding.step_asks_left publishing.publish_ask publishing.publish_next publishing.publish_next_ask publishing.publish_asks_left slots.slot_word latching.latch_ask latching.latch_next latching.latch_next_ask latching.asks_left filling.fill_ask filling.fill_next filling.fill_asks_left invalidating.invalidate_ask invalidating.invalidate_next invalidating.invalidate_asks_left loading.load_ask loading.load_next loading.load_next_ask loading.load_on loading.load_asks_left loading.load_asks_later moving.moving_ask moving.raise_led moving.arm_led moving.moving_next moving.raise_told moving.moving_next_ask moving.moving_asks_left reserving.reserve_ask reserving.reserve_next reserving.reserve_next_ask reserving.reserve_asks_left shifting.shifting_ask shifting.shift_led shifting.shifting_next shifting.move_told shifting.shifting_next_ask shifting.shifting_asks_left turning.turning_ask turning.turn_led turning.turning_next turning.turn_told turning.turning_next_ask turning.turning_asks_left appending.append_rested appending.appending_ask appending.reserve_ledto appending.fill_ledto appending.publish_ledto appending.invalidate_ledto appending.appending_next header_words.header_said trying.try_rested trying.trying_ask trying.ends_so trying.ends trying.shared_ledto trying.appends trying.copies_from mark trying.copies trying.held_used trying.walk_ledto trying.current_ledto trying.answer_ledto trying.exclusive_ledto trying.old_ledto trying.append_ledto trying.exclusive_dropped trying.shared_dropped trying.trying_next walking.walk_rested walking.walking_ask walking.find_ledto walking.load_ledto walking.value_ledto walking.walking_next walking.walking_on attempting.attempting_ask attempting.look_ledto attempting.try_ledto attempting.put_ledto attempting.attempting_next mailing.mail_ask mailing.mail_next mailing.mail_asks_left pending.with_sought pending.with_held pending.with_latch pending.with_asked catching.catching_ask catching.refresh_ledto catching.protect_ledto catching.latch_ledto catching.finish_ledto catching.latch_marked catching.catching_requests catching.catching_next sessions.sitting_ask sessions.attempts sessions.polls_at sessions.op_begun sessions.refresh_call sessions.poll_call sessions.sleep_call sessions.wake_call sessions.accepts sessions.shifts sessions.attempt_ledto sessions.catch_ledto sessions.clear_ledto sessions.finishes_request sessions.keeps_request sessions.poll_ledto sessions.turn_ledto sessions.leave_ledto sessions.sitting_next sessions.sitting_given cuts.serial_said cuts.version_said deferring.deferring_ask deferring.seek_ledto deferring.raise_ledto deferring.arm_ledto deferring.deferring_next deferring.deferring_on entering.entering_ask entering.seek_led entering.defer_led entering.entering_next finishing.durable_from finishing.finishing_ask finishing.finishing_next seeking.seeking_ask seeking.slot_led seeking.defer_led seeking.seeking_next starting.starting_ask starting.seek_led starting.defer_led starting.starting_next waiting.waiting_ask waiting.waiting_next maintaining.device_asked maintaining.maintaining_ask maintaining.scan_ledto maintaining.claim_ledto maintaining.flush_ledto maintaining.shift_ledto maintaining.serve_ledto maintaining.turn_ledto maintaining.maintaining_next maintaining.maintaining_given maintaining.maintaining_called maintaining.maintaining_calls maintaining.maintaining_made maintaining.maintaining_asked flushing.flush_ask flushing.flush_next flushing.bytes_next flushing.flush_calls flushing.flush_done flushing.bytes_done flushing.count_next flushing.count_done serving.serve_ask serving.mailbox_from serving.serve_next serving.serve_read serving.mail_place serving.mail_read copying.copy_step_ask copying.copy_step_next copying.slot_copied copying.copied_at copying.step_asks_left triples.copied_bytes triples.all_bytes triples.entry_read triples.entries_in committing.commit_step_call committing.commit_step_next committing.gate_after committing.commit_step_answer gating.gate_step_call gating.gate_next gating.gate_answer gating.gate_leads keeping.device_passed keeping.keeping_ask keeping.start_ledto keeping.maintain_ledto keeping.phase_ledto keeping.enter_ledto keeping.copy_ledto keeping.seek_ledto keeping.wait_ledto keeping.no_writes keeping.finish_ledto keeping.step_may_copy keeping.keeping_next keeping.keeping_given keeping.write_ledto keeping.keeping_called moves.session_settled moves.session_asks moves.keeper_settled moves.keeper_asks past.history_after past.life_past runs.run world.life_goes copying.step_rests
computed keeper one other bytes = record {
  full = record { its_kind = refl; its_number = refl; its_points = refl; phases = refl; versions = refl };
  log = record { its_kind = refl; its_number = refl; its_points = refl; phases = refl; versions = refl };
  effects = refl;
  begun = record { told = refl; works = refl; its_number = refl; its_points = refl };
  effects_then = refl;
}
