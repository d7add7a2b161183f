-- The life whose commit is written before its log is flushed, by computing it.
use Rattle.std.proofs.Common.{◌≡◌, ℕ, List, [], ◌∷◌, ◌++◌, refl, true, false, map, replicate}
use Rattle.std.specs.Prelude.{◌==◌, drop, if◌then◌else◌}
use Rattle.fkv_base.specs.declared.commits.CommitKind.TheVariants.{Full}
use Rattle.fkv_base.specs.declared.numbers.Serial.{Serial}
use Rattle.fkv_disk.specs.Calls.{Sync, Write}
use Rattle.fkv_manifest.specs.Committing.{CommitWriter, commit_answer}
use Rattle.fkv_manifest.specs.Gating.{gate_start}
use Rattle.fkv_manifest.specs.Made.{commit_run}
use Rattle.fkv_manifest.specs.declared.answers.WriteAnswer.TheVariants.{Written}
use Rattle.fkv_manifest.specs.declared.commits.Committing.TheVariants.{SyncsTriples}
use Rattle.fkv_marks.specs.Marks.{mark}
use Rattle.fkv_record.specs.Manifest.{SlotSaid, newest_bytes}
use Rattle.fkv_record.specs.Places.{area_place}
use Rattle.law_order.specs.Below.fkv_flush.GuardLevels.{levels_of}
use Rattle.law_order.specs.Below.fkv_keeper.Keeping.{KeeperState}
use Rattle.law_order.specs.Below.fkv_session.Sessions.{SessionState}
use Rattle.law_order.specs.Below.fkv_world.Runs.{World}
use Rattle.law_order.specs.Below.fkv_world.World.{Commits, Event, KeeperMoves}
use Rattle.law_order.specs.Below.law_commit.BegunCommits.{BegunCommit}
use Rattle.law_order.specs.Below.law_commit.ToldPoints.{points_told}
use Rattle.law_order.specs.Below.law_refine.Calls.Calls.{effects_in_log}
use Rattle.law_order.proofs.OfOneHistory.WorkedShape.{places, shape}
use Rattle.law_wrong_runs.proofs.Computed.{effect_70}
use Rattle.law_wrong_runs.proofs.Gated.{five}
use Rattle.law_wrong_runs.specs.ShortImages.{unflushed_calls, unflushed_world}
use Rattle.law_wrong_runs.specs.Tables.{commit_is_written_unflushed, run_by}
use Rattle.law_wrong_runs.specs.WrongLives.{gives_events}
use Rattle.law_wrong_runs.specs.WrongPrefixes.{begun_by_table}
use Rattle.law_order.specs.Below.fkv_session.Sessions as session_u
use Rattle.law_order.specs.Below.fkv_session.CatchingUp as catching_u
use Rattle.law_order.specs.Below.fkv_pending.Attempting as attempting_u
use Rattle.law_order.specs.Below.fkv_pending.Pending as pending_u
use Rattle.law_order.specs.Below.fkv_pending.Mailing as mailing_u
use Rattle.law_order.specs.Below.fkv_ops.Trying as trying_u
use Rattle.law_order.specs.Below.fkv_ops.Walking as walking_u
use Rattle.law_order.specs.Below.fkv_ops.Appending as appending_u
use Rattle.law_order.specs.Below.fkv_ops.HeaderWords as header_words_u
use Rattle.fkv_index.specs.Finding as finding_u
use Rattle.fkv_index.specs.Publishing as publishing_u
use Rattle.fkv_index.specs.Slots as slots_u
use Rattle.law_order.specs.Below.fkv_log.Reserving as reserving_u
use Rattle.law_order.specs.Below.fkv_log.Filling as filling_u
use Rattle.law_order.specs.Below.fkv_log.Loading as loading_u
use Rattle.law_order.specs.Below.fkv_log.Invalidating as invalidating_u
use Rattle.law_order.specs.Below.fkv_log.Moving as moving_u
use Rattle.law_order.specs.Below.fkv_log.Shifting as shifting_u
use Rattle.law_order.specs.Below.fkv_log.Turning as turning_u
use Rattle.fkv_epoch.specs.Refreshing as refreshing_u
use Rattle.fkv_epoch.specs.Scanning as scanning_u
use Rattle.fkv_epoch.specs.Claiming as claiming_u
use Rattle.fkv_epoch.specs.Raising as raising_u
use Rattle.fkv_epoch.specs.Arming as arming_u
use Rattle.fkv_plane.specs.Passing as passing_u
use Rattle.law_order.specs.Below.fkv_maintain.Maintaining as maintaining_u
use Rattle.law_order.specs.Below.fkv_keeper.Keeping as keeping_u
use Rattle.law_order.specs.Below.fkv_keeper.KeeperAsks as keeper_asks_u
use Rattle.law_order.specs.Below.fkv_flush.Flushing as flushing_u
use Rattle.law_order.specs.Below.fkv_flush.Serving as serving_u
use Rattle.law_order.specs.Below.fkv_world.World as world_u
use Rattle.law_order.specs.Below.fkv_world.Moves as moves_u
use Rattle.law_order.specs.Below.fkv_world.Past as past_u
use Rattle.law_order.specs.Below.fkv_world.Runs as runs_u
use Rattle.fkv_words.specs.PhaseWords as phase_words_u
use Rattle.fkv_manifest.specs.Committing as committing_u
use Rattle.fkv_manifest.specs.Gating as gating_u
use Rattle.law_order.specs.Below.fkv_commit.Deferring as defer_u
use Rattle.law_order.specs.Below.fkv_commit.Starting as start_u
use Rattle.law_order.specs.Below.fkv_keeper.KeeperRun as keeper_run_u
use Rattle.law_order.specs.Below.fkv_world.OwnEvents as own_u
use Rattle.law_order.specs.Below.law_commit.BegunCommits as begun_u
use Rattle.law_order.specs.Below.law_commit.PrefixPast as asked_u
use Rattle.fkv_manifest.specs.Made as made_u

abbrev pub world : KeeperState → SessionState → SessionState → World
world its one other = unflushed_world shape places its one other

-- behind the five calls
abbrev pub left : KeeperState → SessionState → SessionState → World
left its one other = run_by (commit_is_written_unflushed shape) (world its one other) unflushed_calls

-- the writes as they begin
abbrev begun : List Event
begun = replicate 8 (KeeperMoves true true) ++ Commits Full ∷ gives_events

abbrev pub writer : KeeperState → SessionState → SessionState → CommitWriter
writer its one other = (run_by (commit_is_written_unflushed shape) (world its one other) begun).now.keeper.writes

-- what the slot says: points that keep nothing, and a log that ends behind the record at address 1
abbrev pub no_points : List Serial
no_points = record { 0 = 0 } ∷ record { 0 = 0 } ∷ []

abbrev pub said : SlotSaid
said = record {
  number = 1;
  first = record { 0 = 2 };
  end = record { 0 = 2 };
  triples = 0;
  area = 1;
  points = no_points;
  checkpoint = 1;
  lost = [];
  begin = record { 0 = 1 };
}

-- a commit by its number and its points
abbrev pub said_of : BegunCommit → ℕ × List Serial
said_of c = (c.number.0, c.points)

pub record IsComputed (its : KeeperState) (one other : SessionState) : Type 0 where
  pub levels : levels_of (left its one other).now.words ≡ record { closed = 1; head = 1; flushed = 1; safe_read_only = 1; read_only = 1; tail = 2; limit = 8 }
  pub calls : (left its one other).past.calls ≡ Sync true ∷ Write 1024 (165 ∷ []) true ∷ Sync true ∷ Write 1025 (drop 1 (newest_bytes said)) true ∷ Sync true ∷ []
  pub ends : commit_answer (commit_run (writer its one other) five) ≡ Written
  pub step : (writer its one other).step ≡ SyncsTriples
  pub triples : (writer its one other).triples ≡ []
  pub gate : (writer its one other).gate.step ≡ gate_start false
  pub place : (writer its one other).gate.place ≡ 1024
  pub start : (writer its one other).gate.start ≡ 1
  pub slot : (writer its one other).gate.slot ≡ newest_bytes said
  pub area : (writer its one other).area ≡ area_place shape 1
  pub commits : map said_of (begun_by_table (commit_is_written_unflushed shape) (world its one other) unflushed_calls) ≡ (1, []) ∷ (0, no_points) ∷ []
  -- one call of session 0 was answered, which doesn't tell what is durable
  pub told : (session : ℕ) → points_told session (left its one other).past.trace ≡ (if 0 == session then [] else [])
  pub effects : effects_in_log (left its one other).past.history ≡ effect_70 ∷ []

pub computed : (its : KeeperState) (one other : SessionState) → IsComputed its one other
unfolding places shape session_u.sitting_ask session_u.attempts session_u.polls_at session_u.op_begun session_u.refresh_call session_u.poll_call session_u.sleep_call session_u.wake_call session_u.accepts session_u.shifts session_u.attempt_ledto session_u.catch_ledto session_u.clear_ledto session_u.finishes_request session_u.keeps_request session_u.poll_ledto session_u.turn_ledto session_u.leave_ledto session_u.sitting_next session_u.sitting_given catching_u.catching_ask catching_u.refresh_ledto catching_u.protect_ledto catching_u.latch_ledto catching_u.finish_ledto catching_u.latch_marked catching_u.catching_requests catching_u.catching_next attempting_u.attempting_ask attempting_u.look_ledto attempting_u.try_ledto attempting_u.put_ledto attempting_u.attempting_next pending_u.with_sought pending_u.with_held pending_u.with_latch pending_u.with_asked mailing_u.mail_ask mailing_u.mail_next trying_u.trying_ask trying_u.ends_so trying_u.ends trying_u.shared_ledto trying_u.appends trying_u.copies_from mark trying_u.copies trying_u.held_used trying_u.walk_ledto trying_u.current_ledto trying_u.answer_ledto trying_u.exclusive_ledto trying_u.old_ledto trying_u.append_ledto trying_u.exclusive_dropped trying_u.shared_dropped trying_u.trying_next walking_u.walking_ask walking_u.find_ledto walking_u.load_ledto walking_u.value_ledto walking_u.walking_next walking_u.walking_on appending_u.appending_ask appending_u.reserve_ledto appending_u.fill_ledto appending_u.publish_ledto appending_u.invalidate_ledto appending_u.appending_next header_words_u.header_said finding_u.find_step_ask finding_u.find_led publishing_u.publish_ask publishing_u.publish_next publishing_u.publish_next_ask slots_u.slot_word reserving_u.reserve_ask reserving_u.reserve_next reserving_u.reserve_next_ask filling_u.fill_ask filling_u.fill_next loading_u.load_ask loading_u.load_next loading_u.load_next_ask loading_u.load_on invalidating_u.invalidate_ask invalidating_u.invalidate_next moving_u.moving_ask moving_u.raise_led moving_u.arm_led moving_u.moving_next moving_u.raise_told moving_u.moving_next_ask shifting_u.shifting_ask shifting_u.shift_led shifting_u.shifting_next shifting_u.move_told shifting_u.shifting_next_ask turning_u.turning_ask turning_u.turn_led turning_u.turning_next turning_u.turn_told turning_u.turning_next_ask refreshing_u.refresh_ask refreshing_u.refresh_next refreshing_u.refresh_finish scanning_u.scan_ask scanning_u.sessions_from scanning_u.least_of scanning_u.scan_next claiming_u.claim_ask claiming_u.slot_after claiming_u.slot_armed claiming_u.claim_next claiming_u.claim_given raising_u.raise_ask raising_u.free_after raising_u.raise_next raising_u.raise_next_ask raising_u.raise_on arming_u.arm_ask arming_u.arm_next passing_u.passed maintaining_u.device_asked maintaining_u.maintaining_ask maintaining_u.scan_ledto maintaining_u.claim_ledto maintaining_u.flush_ledto maintaining_u.shift_ledto maintaining_u.serve_ledto maintaining_u.turn_ledto maintaining_u.maintaining_next maintaining_u.maintaining_given maintaining_u.maintaining_called maintaining_u.maintaining_calls maintaining_u.maintaining_made keeping_u.device_passed keeping_u.keeping_ask keeping_u.start_ledto keeping_u.maintain_ledto keeping_u.phase_ledto keeping_u.keeping_next keeping_u.keeping_given keeping_u.keeping_called keeper_asks_u.keeping_read keeper_asks_u.keeping_made keeper_asks_u.keeping_calls flushing_u.flush_ask flushing_u.flush_next flushing_u.bytes_next flushing_u.flush_calls flushing_u.flush_done flushing_u.bytes_done flushing_u.count_next flushing_u.count_done serving_u.serve_ask serving_u.mailbox_from serving_u.serve_next serving_u.serve_read serving_u.mail_place world_u.life_goes moves_u.session_settled moves_u.session_asks moves_u.keeper_settled moves_u.keeper_asks past_u.history_after past_u.life_past runs_u.run phase_words_u.phase_said run_by defer_u.deferring_ask defer_u.seek_ledto defer_u.raise_ledto defer_u.arm_ledto defer_u.deferring_next defer_u.deferring_on start_u.starting_ask start_u.seek_led start_u.defer_led start_u.starting_next keeper_run_u.keeper_happens keeper_run_u.keeper_run own_u.keeper_slots own_u.keeper_steps own_u.keeper_part own_u.keeper_events begun_u.commits_begun asked_u.serials_asked begun_by_table committing_u.commit_step_answer committing_u.commit_step_next committing_u.gate_after gating_u.gate_answer gating_u.gate_next keeping_u.write_ledto committing_u.commit_step_call gating_u.gate_step_call effect_70 made_u.commit_run
computed its one other = record {
  levels = refl;
  calls = refl;
  ends = refl;
  step = refl;
  triples = refl;
  gate = refl;
  place = refl;
  start = refl;
  slot = refl;
  area = refl;
  commits = refl;
  told = λ session. refl;
  effects = refl;
}
