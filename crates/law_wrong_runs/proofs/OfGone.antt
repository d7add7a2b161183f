-- The life in which a read takes what is gone for its key's record, by computing it, and the one in which it doesn't.
use Rattle.std.proofs.Common.{◌≡◌, inl, inr, ℕ, ◌∙◌, List, [], ◌∷◌, ◌++◌, refl, sym, ap, subst, arith}
use Rattle.std.specs.List.{AllByRecursion}
use Rattle.std.specs.Prelude.{⊤, Some}
use Rattle.fkv_marks.specs.Marks.{mark}
use Rattle.fkv_map.specs.declared.operations.Op.{Op}
use Rattle.fkv_map.specs.declared.operations.Reply.{Reply}
use Rattle.fkv_map.specs.declared.operations.Reply.TheVariants.{Absent, Found, Nothing}
use Rattle.fkv_map.specs.Map.{reply_to_read}
use Rattle.fkv_map.proofs.Shown.{content_one_more}
use Rattle.law_log.specs.Trace.{AnswersRead, CallsRead, CallsUpdate, Effect, GivesResult, HasUpdate, IsFresh, IsIn, ReadsAreFresh, TraceLine, history_of, value_in}
use Rattle.law_log.specs.Worked.{entry_of, gives_70, no_map}
use Rattle.law_order.specs.Below.fkv_keeper.Keeping.{KeeperState}
use Rattle.law_order.specs.Below.fkv_session.Sessions.{SessionState}
use Rattle.law_order.specs.Below.fkv_world.Runs.{World}
use Rattle.law_order.specs.Below.law_refine.Calls.Calls.{effects_in_log}
use Rattle.law_order.specs.Below.law_refine.Events.Lines.{lines_of}
use Rattle.law_order.specs.Below.law_refine.Events.Worked.{gives_8}
use Rattle.law_order.proofs.OfOneHistory.WorkedShape.{places, shape}
use Rattle.law_wrong_runs.specs.Tables.{Tables, begin_rises, gone_is_absent, run_by}
use Rattle.law_wrong_runs.specs.WrongLives.{LeavesFresh, floored_world, gives_1, gone_events}
use Rattle.fkv_begin.specs.Begin as begin_u
use Rattle.law_order.specs.Below.fkv_session.Sessions as session_u
use Rattle.law_order.specs.Below.fkv_session.CatchingUp as catching_u
use Rattle.law_order.specs.Below.fkv_pending.Attempting as attempting_u
use Rattle.law_order.specs.Below.fkv_pending.Pending as pending_u
use Rattle.law_order.specs.Below.fkv_pending.Mailing as mailing_u
use Rattle.law_order.specs.Below.fkv_ops.Trying as trying_u
use Rattle.law_order.specs.Below.fkv_ops.Walking as walking_u
use Rattle.law_order.specs.Below.fkv_ops.Appending as appending_u
use Rattle.law_order.specs.Below.fkv_ops.HeaderWords as header_words_u
use Rattle.fkv_index.specs.Finding as finding_u
use Rattle.fkv_index.specs.Publishing as publishing_u
use Rattle.fkv_index.specs.Slots as slots_u
use Rattle.law_order.specs.Below.fkv_log.Reserving as reserving_u
use Rattle.law_order.specs.Below.fkv_log.Filling as filling_u
use Rattle.law_order.specs.Below.fkv_log.Loading as loading_u
use Rattle.law_order.specs.Below.fkv_log.Invalidating as invalidating_u
use Rattle.law_order.specs.Below.fkv_log.Moving as moving_u
use Rattle.law_order.specs.Below.fkv_log.Shifting as shifting_u
use Rattle.law_order.specs.Below.fkv_log.Turning as turning_u
use Rattle.fkv_epoch.specs.Refreshing as refreshing_u
use Rattle.fkv_epoch.specs.Scanning as scanning_u
use Rattle.fkv_epoch.specs.Claiming as claiming_u
use Rattle.fkv_epoch.specs.Raising as raising_u
use Rattle.fkv_epoch.specs.Arming as arming_u
use Rattle.fkv_plane.specs.Passing as passing_u
use Rattle.law_order.specs.Below.fkv_maintain.Maintaining as maintaining_u
use Rattle.law_order.specs.Below.fkv_keeper.Keeping as keeping_u
use Rattle.law_order.specs.Below.fkv_keeper.KeeperAsks as keeper_asks_u
use Rattle.law_order.specs.Below.fkv_flush.Flushing as flushing_u
use Rattle.law_order.specs.Below.fkv_flush.Serving as serving_u
use Rattle.law_order.specs.Below.fkv_world.World as world_u
use Rattle.law_order.specs.Below.fkv_world.Moves as moves_u
use Rattle.law_order.specs.Below.fkv_world.Past as past_u
use Rattle.law_order.specs.Below.fkv_world.Runs as runs_u
use Rattle.fkv_words.specs.PhaseWords as phase_words_u
use Rattle.law_order.specs.Below.fkv_commit.Deferring as defer_u
use Rattle.law_order.specs.Below.fkv_commit.Starting as start_u
use Rattle.law_order.specs.Below.fkv_keeper.KeeperRun as keeper_run_u
use Rattle.law_order.specs.Below.fkv_world.OwnEvents as own_u
use Rattle.law_order.specs.Below.law_commit.BegunCommits as begun_u
use Rattle.law_order.specs.Below.law_commit.PrefixPast as asked_u

-- ---- what is computed
abbrev given_lines : List TraceLine
given_lines =
    GivesResult 0 3 Nothing ∷ CallsUpdate 0 3 (gives_1 7) ∷ GivesResult 0 2 Nothing ∷ CallsUpdate 0 2 (gives_1 6)
    ∷ GivesResult 0 1 Nothing ∷ CallsUpdate 0 1 gives_70 ∷ []

abbrev waiting_lines : List TraceLine
waiting_lines = GivesResult 0 4 Nothing ∷ CallsUpdate 0 4 gives_8 ∷ CallsRead 16 5 ∷ given_lines

abbrev given : ℕ → Op → Effect
given serial op = record { entry = entry_of 0 serial op Nothing; version = 1 }

abbrev effects_before : List Effect
effects_before = given 3 (gives_1 7) ∷ given 2 (gives_1 6) ∷ given 1 gives_70 ∷ []

abbrev all_effects : List Effect
all_effects = given 4 gives_8 ∷ effects_before

-- by these tables the read is told this
record Tells (t : Tables) (reply : Reply) (its : KeeperState) (one other : SessionState) : Type 0 where
  pub lines : lines_of (λ session. 0) (run_by t (floored_world shape places its one other) gone_events).past.trace ≡ AnswersRead 16 reply ∷ waiting_lines
  pub effects : effects_in_log (run_by t (floored_world shape places its one other) gone_events).past.history ≡ all_effects

tells_absent : (its : KeeperState) (one other : SessionState) → Tells gone_is_absent Absent its one other
unfolding places shape session_u.sitting_ask session_u.attempts session_u.polls_at session_u.op_begun session_u.refresh_call session_u.poll_call session_u.sleep_call session_u.wake_call session_u.accepts session_u.shifts session_u.attempt_ledto session_u.catch_ledto session_u.clear_ledto session_u.finishes_request session_u.keeps_request session_u.poll_ledto session_u.turn_ledto session_u.leave_ledto session_u.sitting_next session_u.sitting_given catching_u.catching_ask catching_u.refresh_ledto catching_u.protect_ledto catching_u.latch_ledto catching_u.finish_ledto catching_u.latch_marked catching_u.catching_requests catching_u.catching_next attempting_u.attempting_ask attempting_u.look_ledto attempting_u.try_ledto attempting_u.put_ledto attempting_u.attempting_next pending_u.with_sought pending_u.with_held pending_u.with_latch pending_u.with_asked pending_u.without_gone begin_u.from_or_none mailing_u.mail_ask mailing_u.mail_next trying_u.trying_ask trying_u.ends_so trying_u.ends trying_u.shared_ledto trying_u.appends trying_u.copies_from mark trying_u.copies trying_u.held_used trying_u.walk_ledto trying_u.current_ledto trying_u.answer_ledto trying_u.exclusive_ledto trying_u.old_ledto trying_u.append_ledto trying_u.exclusive_dropped trying_u.shared_dropped trying_u.trying_next walking_u.walking_ask walking_u.find_ledto walking_u.load_ledto walking_u.value_ledto walking_u.walking_next walking_u.walking_on appending_u.appending_ask appending_u.reserve_ledto appending_u.fill_ledto appending_u.publish_ledto appending_u.invalidate_ledto appending_u.appending_next header_words_u.header_said finding_u.find_step_ask finding_u.find_led publishing_u.publish_ask publishing_u.publish_next publishing_u.publish_next_ask slots_u.slot_word reserving_u.reserve_ask reserving_u.reserve_next reserving_u.reserve_next_ask filling_u.fill_ask filling_u.fill_next loading_u.load_ask loading_u.load_next loading_u.load_next_ask loading_u.load_on invalidating_u.invalidate_ask invalidating_u.invalidate_next moving_u.moving_ask moving_u.raise_led moving_u.arm_led moving_u.moving_next moving_u.raise_told moving_u.moving_next_ask shifting_u.shifting_ask shifting_u.shift_led shifting_u.shifting_next shifting_u.move_told shifting_u.shifting_next_ask turning_u.turning_ask turning_u.turn_led turning_u.turning_next turning_u.turn_told turning_u.turning_next_ask refreshing_u.refresh_ask refreshing_u.refresh_next refreshing_u.refresh_finish scanning_u.scan_ask scanning_u.sessions_from scanning_u.least_of scanning_u.scan_next claiming_u.claim_ask claiming_u.slot_after claiming_u.slot_armed claiming_u.claim_next claiming_u.claim_given raising_u.raise_ask raising_u.free_after raising_u.raise_next raising_u.raise_next_ask raising_u.raise_on arming_u.arm_ask arming_u.arm_next passing_u.passed maintaining_u.device_asked maintaining_u.maintaining_ask maintaining_u.scan_ledto maintaining_u.claim_ledto maintaining_u.flush_ledto maintaining_u.shift_ledto maintaining_u.serve_ledto maintaining_u.turn_ledto maintaining_u.maintaining_next maintaining_u.maintaining_given maintaining_u.maintaining_called maintaining_u.maintaining_calls maintaining_u.maintaining_made keeping_u.device_passed keeping_u.keeping_ask keeping_u.start_ledto keeping_u.maintain_ledto keeping_u.phase_ledto keeping_u.keeping_next keeping_u.keeping_given keeping_u.keeping_called keeper_asks_u.keeping_read keeper_asks_u.keeping_made keeper_asks_u.keeping_calls flushing_u.flush_ask flushing_u.flush_next flushing_u.bytes_next flushing_u.flush_calls flushing_u.flush_done flushing_u.bytes_done flushing_u.count_next flushing_u.count_done serving_u.serve_ask serving_u.mailbox_from serving_u.serve_next serving_u.serve_read serving_u.mail_place world_u.life_goes moves_u.session_settled moves_u.session_asks moves_u.keeper_settled moves_u.keeper_asks past_u.history_after past_u.life_past runs_u.run phase_words_u.phase_said run_by defer_u.deferring_ask defer_u.seek_ledto defer_u.raise_ledto defer_u.arm_ledto defer_u.deferring_next defer_u.deferring_on start_u.starting_ask start_u.seek_led start_u.defer_led start_u.starting_next keeper_run_u.keeper_happens keeper_run_u.keeper_run own_u.keeper_slots own_u.keeper_steps own_u.keeper_part own_u.keeper_events begun_u.commits_begun asked_u.serials_asked lines_of
tells_absent its one other = record { lines = refl; effects = refl }

tells_8 : (its : KeeperState) (one other : SessionState) → Tells begin_rises (Found (record { 0 = 8 })) its one other
unfolding places shape session_u.sitting_ask session_u.attempts session_u.polls_at session_u.op_begun session_u.refresh_call session_u.poll_call session_u.sleep_call session_u.wake_call session_u.accepts session_u.shifts session_u.attempt_ledto session_u.catch_ledto session_u.clear_ledto session_u.finishes_request session_u.keeps_request session_u.poll_ledto session_u.turn_ledto session_u.leave_ledto session_u.sitting_next session_u.sitting_given catching_u.catching_ask catching_u.refresh_ledto catching_u.protect_ledto catching_u.latch_ledto catching_u.finish_ledto catching_u.latch_marked catching_u.catching_requests catching_u.catching_next attempting_u.attempting_ask attempting_u.look_ledto attempting_u.try_ledto attempting_u.put_ledto attempting_u.attempting_next pending_u.with_sought pending_u.with_held pending_u.with_latch pending_u.with_asked pending_u.without_gone begin_u.from_or_none mailing_u.mail_ask mailing_u.mail_next trying_u.trying_ask trying_u.ends_so trying_u.ends trying_u.shared_ledto trying_u.appends trying_u.copies_from mark trying_u.copies trying_u.held_used trying_u.walk_ledto trying_u.current_ledto trying_u.answer_ledto trying_u.exclusive_ledto trying_u.old_ledto trying_u.append_ledto trying_u.exclusive_dropped trying_u.shared_dropped trying_u.trying_next walking_u.walking_ask walking_u.find_ledto walking_u.load_ledto walking_u.value_ledto walking_u.walking_next walking_u.walking_on appending_u.appending_ask appending_u.reserve_ledto appending_u.fill_ledto appending_u.publish_ledto appending_u.invalidate_ledto appending_u.appending_next header_words_u.header_said finding_u.find_step_ask finding_u.find_led publishing_u.publish_ask publishing_u.publish_next publishing_u.publish_next_ask slots_u.slot_word reserving_u.reserve_ask reserving_u.reserve_next reserving_u.reserve_next_ask filling_u.fill_ask filling_u.fill_next loading_u.load_ask loading_u.load_next loading_u.load_next_ask loading_u.load_on invalidating_u.invalidate_ask invalidating_u.invalidate_next moving_u.moving_ask moving_u.raise_led moving_u.arm_led moving_u.moving_next moving_u.raise_told moving_u.moving_next_ask shifting_u.shifting_ask shifting_u.shift_led shifting_u.shifting_next shifting_u.move_told shifting_u.shifting_next_ask turning_u.turning_ask turning_u.turn_led turning_u.turning_next turning_u.turn_told turning_u.turning_next_ask refreshing_u.refresh_ask refreshing_u.refresh_next refreshing_u.refresh_finish scanning_u.scan_ask scanning_u.sessions_from scanning_u.least_of scanning_u.scan_next claiming_u.claim_ask claiming_u.slot_after claiming_u.slot_armed claiming_u.claim_next claiming_u.claim_given raising_u.raise_ask raising_u.free_after raising_u.raise_next raising_u.raise_next_ask raising_u.raise_on arming_u.arm_ask arming_u.arm_next passing_u.passed maintaining_u.device_asked maintaining_u.maintaining_ask maintaining_u.scan_ledto maintaining_u.claim_ledto maintaining_u.flush_ledto maintaining_u.shift_ledto maintaining_u.serve_ledto maintaining_u.turn_ledto maintaining_u.maintaining_next maintaining_u.maintaining_given maintaining_u.maintaining_called maintaining_u.maintaining_calls maintaining_u.maintaining_made keeping_u.device_passed keeping_u.keeping_ask keeping_u.start_ledto keeping_u.maintain_ledto keeping_u.phase_ledto keeping_u.keeping_next keeping_u.keeping_given keeping_u.keeping_called keeper_asks_u.keeping_read keeper_asks_u.keeping_made keeper_asks_u.keeping_calls flushing_u.flush_ask flushing_u.flush_next flushing_u.bytes_next flushing_u.flush_calls flushing_u.flush_done flushing_u.bytes_done flushing_u.count_next flushing_u.count_done serving_u.serve_ask serving_u.mailbox_from serving_u.serve_next serving_u.serve_read serving_u.mail_place world_u.life_goes moves_u.session_settled moves_u.session_asks moves_u.keeper_settled moves_u.keeper_asks past_u.history_after past_u.life_past runs_u.run phase_words_u.phase_said run_by defer_u.deferring_ask defer_u.seek_ledto defer_u.raise_ledto defer_u.arm_ledto defer_u.deferring_next defer_u.deferring_on start_u.starting_ask start_u.seek_led start_u.defer_led start_u.starting_next keeper_run_u.keeper_happens keeper_run_u.keeper_run own_u.keeper_slots own_u.keeper_steps own_u.keeper_part own_u.keeper_events begun_u.commits_begun asked_u.serials_asked lines_of
tells_8 its one other = record { lines = refl; effects = refl }

-- the key's value at the end, and before session 0 gave it another
value_8 : value_in no_map all_effects 5 ≡ Some 8
value_8 = content_one_more no_map (history_of effects_before) (entry_of 0 4 gives_8 Nothing) 5

value_70 : value_in no_map effects_before 5 ≡ Some 70
value_70 =
    content_one_more no_map (history_of (given 2 (gives_1 6) ∷ given 1 gives_70 ∷ [])) (entry_of 0 3 (gives_1 7) Nothing) 5
    ∙ (content_one_more no_map (history_of (given 1 gives_70 ∷ [])) (entry_of 0 2 (gives_1 6) Nothing) 5
    ∙ content_one_more no_map [] (entry_of 0 1 gives_70 Nothing) 5)

-- what stands in a list stands behind more
behind : {X : Type 0} (it : X) (more older : List X) → IsIn it older → IsIn it (more ++ older)
behind it [] older is = is
behind it (x ∷ more) older is = inr (behind it more older is)

-- ---- the wrong one
some_value : (older : List Effect) (value : ℕ) → value_in no_map older 5 ≡ Some value → Absent ≡ reply_to_read (value_in no_map older 5) → ⊥
some_value older value is told = let found : Absent ≡ reply_to_read (Some value) = told ∙ ap reply_to_read is in absurd (cc)

-- three updates were told before the read was called, so its key had a value from then on
not_absent : (newer older : List Effect) → all_effects ≡ newer ++ older → Absent ≡ reply_to_read (value_in no_map older 5) → HasUpdate older 0 3 → ⊥
not_absent [] older all told has = some_value older 8 (ap (λ (x : List Effect). value_in no_map x 5) (sym all) ∙ value_8) told
not_absent (x ∷ []) older all told has =
    let rest : effects_before ≡ older = cc in
    some_value older 70 (ap (λ (x : List Effect). value_in no_map x 5) (sym rest) ∙ value_70) told
not_absent (x ∷ y ∷ newer) older all told has =
    let rest : given 2 (gives_1 6) ∷ given 1 gives_70 ∷ [] ≡ newer ++ older = cc in
    none_third has.effect has.its_serial (subst (λ (x : List Effect). IsIn has.effect x) (sym rest) (behind has.effect newer older has.is_in))
  where
    none_third : (effect : Effect) → effect.entry.serial.0 ≡ 3 → IsIn effect (given 2 (gives_1 6) ∷ given 1 gives_70 ∷ []) → ⊥
    none_third effect third (inl same) = let serial : 2 ≡ 3 = ap (λ (x : Effect). x.entry.serial.0) same ∙ third in omega (arith, serial)
    none_third effect third (inr (inl same)) = let serial : 1 ≡ 3 = ap (λ (x : Effect). x.entry.serial.0) same ∙ third in omega (arith, serial)
    none_third effect third (inr (inr none)) = none

pub wrong_gone : (its : KeeperState) (one other : SessionState) → LeavesFresh (run_by gone_is_absent (floored_world shape places its one other) gone_events) → ⊥
wrong_gone its one other reads =
    let is = tells_absent its one other in
    let fresh = reads.fresh [] (GivesResult 0 4 Nothing ∷ CallsUpdate 0 4 gives_8 ∷ []) given_lines 16 5 Absent is.lines in
    not_absent fresh.newer fresh.older (sym is.effects ∙ fresh.all) fresh.value (fresh.given_before 0 3 Nothing (inl refl))

-- ---- the right one
each : (P : TraceLine → Type 0) (x : TraceLine) (lines : List TraceLine) → AllByRecursion P lines → IsIn x lines → P x
each P x [] all there = absurd there
each P x (y ∷ lines) all (inl same) = subst P same all.0
each P x (y ∷ lines) all (inr there) = each P x lines all.1 there

-- no other read is answered, and none is called before
IsNoAnswer : TraceLine → Type 0
IsNoAnswer (AnswersRead reader reply) = ⊥
IsNoAnswer line = ⊤

IsNoRead : TraceLine → Type 0
IsNoRead (CallsRead reader key) = ⊥
IsNoRead line = ⊤

one_answer : (later before : List TraceLine) (reader : ℕ) (reply : Reply) → waiting_lines ≡ later ++ AnswersRead reader reply ∷ before → ⊥
unfolding IsNoAnswer
one_answer later before reader reply all =
    each IsNoAnswer (AnswersRead reader reply) waiting_lines (tt, (tt, (tt, (tt, (tt, (tt, (tt, (tt, (tt, tt)))))))))
    (subst (λ (x : List TraceLine). IsIn (AnswersRead reader reply) x) (sym all)
    (behind (AnswersRead reader reply) later (AnswersRead reader reply ∷ before) (inl refl)))

one_read : (between earlier : List TraceLine) (reader key : ℕ) → given_lines ≡ between ++ CallsRead reader key ∷ earlier → ⊥
unfolding IsNoRead
one_read between earlier reader key all =
    each IsNoRead (CallsRead reader key) given_lines (tt, (tt, (tt, (tt, (tt, (tt, tt))))))
    (subst (λ (x : List TraceLine). IsIn (CallsRead reader key) x) (sym all)
    (behind (CallsRead reader key) between (CallsRead reader key ∷ earlier) (inl refl)))

abbrev right_lines : List TraceLine
right_lines = AnswersRead 16 (Found (record { 0 = 8 })) ∷ waiting_lines

is_called : (later before : List TraceLine) (reader : ℕ) (reply : Reply) → right_lines ≡ later ++ AnswersRead reader reply ∷ before
    → (key : ℕ) × IsIn (CallsRead reader key) before
is_called [] before reader reply all =
    let number : 16 ≡ reader = cc in
    let rest : waiting_lines ≡ before = cc in
    (5, subst (λ (x : List TraceLine). IsIn (CallsRead reader 5) x) rest (subst (λ (r : ℕ). IsIn (CallsRead r 5) waiting_lines) number (inr (inr (inl refl)))))
is_called (x ∷ later) before reader reply all =
    let rest : waiting_lines ≡ later ++ AnswersRead reader reply ∷ before = cc in
    absurd (one_answer later before reader reply rest)

was_given : (session serial : ℕ) (reply : Reply) → IsIn (GivesResult session serial reply) given_lines → HasUpdate all_effects session serial
was_given session serial reply (inl same) =
    record { effect = given 3 (gives_1 7); is_in = inr (inl refl); its_session = cc; its_serial = cc }
was_given session serial reply (inr (inl same)) = cc
was_given session serial reply (inr (inr (inl same))) =
    record { effect = given 2 (gives_1 6); is_in = inr (inr (inl refl)); its_session = cc; its_serial = cc }
was_given session serial reply (inr (inr (inr (inl same)))) = cc
was_given session serial reply (inr (inr (inr (inr (inl same))))) =
    record { effect = given 1 gives_70; is_in = inr (inr (inr (inl refl))); its_session = cc; its_serial = cc }
was_given session serial reply (inr (inr (inr (inr (inr (inl same)))))) = cc
was_given session serial reply (inr (inr (inr (inr (inr (inr none)))))) = absurd none

-- from its call on the newest value was given
is_newest : (between earlier : List TraceLine) (reader key : ℕ) (reply : Reply) → Found (record { 0 = 8 }) ≡ reply
    → waiting_lines ≡ between ++ CallsRead reader key ∷ earlier → IsFresh no_map all_effects key reply earlier []
is_newest [] earlier reader key reply told all = let none : GivesResult 0 4 Nothing ≡ CallsRead reader key = cc in absurd (cc)
is_newest (a ∷ []) earlier reader key reply told all = let none : CallsUpdate 0 4 gives_8 ≡ CallsRead reader key = cc in absurd (cc)
is_newest (a ∷ b ∷ []) earlier reader key reply told all =
    let its_key : 5 ≡ key = cc in
    let rest : given_lines ≡ earlier = cc in
    record {
      newer = [];
      older = all_effects;
      all = refl;
      value = subst (λ (k : ℕ). reply ≡ reply_to_read (value_in no_map all_effects k)) its_key (sym told ∙ ap reply_to_read (sym value_8));
      given_before = λ session serial its there.
          was_given session serial its (subst (λ (x : List TraceLine). IsIn (GivesResult session serial its) x) (sym rest) there);
      called_later = λ session serial op there has. there;
    }
is_newest (a ∷ b ∷ c ∷ between) earlier reader key reply told all =
    let rest : given_lines ≡ between ++ CallsRead reader key ∷ earlier = cc in
    absurd (one_read between earlier reader key rest)

is_fresh : (later between earlier : List TraceLine) (reader key : ℕ) (reply : Reply)
    → right_lines ≡ later ++ AnswersRead reader reply ∷ (between ++ CallsRead reader key ∷ earlier) → IsFresh no_map all_effects key reply earlier later
is_fresh [] between earlier reader key reply all =
    let told : Found (record { 0 = 8 }) ≡ reply = cc in
    let rest : waiting_lines ≡ between ++ CallsRead reader key ∷ earlier = cc in
    is_newest between earlier reader key reply told rest
is_fresh (x ∷ later) between earlier reader key reply all =
    let rest : waiting_lines ≡ later ++ AnswersRead reader reply ∷ (between ++ CallsRead reader key ∷ earlier) = cc in
    absurd (one_answer later (between ++ CallsRead reader key ∷ earlier) reader reply rest)

pub right_gone : (its : KeeperState) (one other : SessionState) → LeavesFresh (run_by begin_rises (floored_world shape places its one other) gone_events)
right_gone its one other =
    let is = tells_8 its one other in
    let fresh : ReadsAreFresh no_map all_effects right_lines = record {
      called = λ later before reader reply all. is_called later before reader reply all;
      fresh = λ later between earlier reader key reply all. is_fresh later between earlier reader key reply all;
    } in
    subst (λ (x : List TraceLine). ReadsAreFresh no_map (effects_in_log left.past.history) x) (sym is.lines)
    (subst (λ (x : List Effect). ReadsAreFresh no_map x right_lines) (sym is.effects) fresh)
  where
    left : World
    left = run_by begin_rises (floored_world shape places its one other) gone_events
