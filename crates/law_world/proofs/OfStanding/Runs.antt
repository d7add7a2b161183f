-- One event after another: one commit stands at each moment.
use Rattle.std.proofs.Common.{◌≡◌, inl, inr, ℕ, ◌^◌, List, [], ◌∷◌, ◌++◌, Bool, true, false, refl, sym, ◌∙◌, ap, subst}
use Rattle.std.specs.Prelude.{if◌then◌else◌, Option}
use Rattle.std.specs.Option.{is_some}
use Rattle.fkv_base.specs.declared.faults.Fault.TheVariants as fault
use Rattle.fkv_base.specs.declared.shapes.Shape.{Shape}
use Rattle.fkv_words.specs.PhaseWords.{phase_said}
use Rattle.fkv_record.specs.Places.{number_at}
use Rattle.fkv_disk.specs.Calls.{Call, MayLeave}
use Rattle.fkv_plane.specs.declared.actions.Action.{Action}
use Rattle.fkv_plane.specs.declared.places.Places.{Places}
use Rattle.fkv_checkpoint.specs.Copying.{Copier}
use Rattle.fkv_commit.specs.declared.commits.Commit.{Commit}
use Rattle.fkv_base.specs.declared.commits.CommitKind.{CommitKind}
use Rattle.fkv_commit.specs.Entering.{enter_ask, enter_next}
use Rattle.fkv_commit.specs.Finishing.{finish_ask, finish_next}
use Rattle.fkv_commit.specs.Seeking.{seek_ask, seek_next}
use Rattle.fkv_commit.specs.Starting.{start_begun, start_ask, start_next}
use Rattle.fkv_commit.specs.Waiting.{wait_ask, wait_next}
use Rattle.fkv_manifest.specs.Kept.{Begins, NewStands}
use Rattle.fkv_manifest.specs.Made.{commit_made}
use Rattle.fkv_maintain.specs.declared.maintaining.Maintaining.{Maintaining}
use Rattle.fkv_maintain.specs.declared.maintaining.Maintaining.TheVariants as part
use Rattle.fkv_maintain.specs.Parts.{IsServing}
use Rattle.fkv_maintain.specs.Maintaining.{maintain_ask, maintaining_ask, maintain_next, maintain_given, maintaining_called, maintaining_calls}
use Rattle.fkv_keeper.specs.declared.answers.KeeperTold.{KeeperTold}
use Rattle.fkv_keeper.specs.declared.answers.KeeperTold.TheVariants.{Turned, TurnRefused, CommitRefused}
use Rattle.fkv_sweep.specs.Sweeping.{sweep_ask, sweep_next, sweep_read}
use Rattle.fkv_keeper.specs.declared.keepers.Keeping.{Keeping}
use Rattle.fkv_keeper.specs.declared.keepers.Keeping.TheVariants.{Ended, Starts, Maintains, LoadsPhase, Enters, Copies, Seeks, Waits, Writes, Finishes, Sweeps}
use Rattle.fkv_keeper.specs.declared.last_commits.Checkpoint.{Checkpoint}
use Rattle.fkv_keeper.specs.Keeping.{Finality, KeeperState, come_to, parts_begun, ended, copy_driven, commit_asked, turn_asked, maintain_ledto, keeping_next, keeping_given, keeping_called, copy_told, asked_for, serves_alone}
use Rattle.fkv_keeper.specs.KeeperAsks.{keeping_calls}
use Rattle.fkv_keeper.specs.KeeperLaws.{IsRefusal, IsResting, MayRest}
use Rattle.fkv_keeper.proofs.Shown.{BreaksInRest, EndsRest, rest_ends, rests_still, run_rests}
use Rattle.fkv_keeper.specs.KeeperRun.{KeeperEvent, BeginsTurn, BeginsCommit, Replies, Gets, Calls, is_in_hand, begins, keeper_happens, keeper_run, Writing, writing_after, writing}
use Rattle.fkv_keeper.specs.LastCommits.{slot_place}
use Rattle.law_world.specs.Standing.CallsMade.{calls_of, calls_made}
use Rattle.law_world.specs.Standing.Opening.{IsToldBy, IsNumberInTurn, AreNumbersInTurn}
use Rattle.law_world.specs.Standing.Standing.{Standing, is_at_writes, IsOneInForce, TriplesStand, standing_opened, standing_after, standing, is_writing_after, is_writing}
use Rattle.law_world.proofs.OfStanding.Fronts.{Has}
use Rattle.law_world.proofs.OfStanding.Flushed.{IsCalm, calm_left}
use Rattle.law_world.proofs.OfStanding.Moments.{IsRefused, CopyKnown, CommitKnown, MaintainKnows, IsWritingNow, IsWrittenNow, IsBrokenNow, Along, Knows, IsSound, GoesTo, IsAt, IsAwake, along_awake, calm_rest, begun_knows, rest_left, rest_named, maintain_left, maintain_named, goes_between, goes_maintains, goes_broken}
use Rattle.law_world.proofs.OfStanding.Stepped.{maintain_on, start_on, phase_on, enter_on, copy_on, seek_on, sweep_on}
use Rattle.law_world.proofs.OfStanding.Turned.{replied, given, called, failed}
use Rattle.law_world.proofs.OfStanding.Written.{IsUnderWay, under_way_stands, under_way_triples, written_stands}
use Rattle.law_world.proofs.OfStanding.WritesStepped.{wait_on, write_on, finish_on}

-- the state with its step told beside it, so that tables by step compute
abbrev pub happens_at : Shape → Places → KeeperState → Keeping → KeeperEvent → KeeperState
happens_at shape p s step BeginsTurn = begins s (is_in_hand step) (turn_asked s)
happens_at shape p s step (BeginsCommit kind) = begins s (is_in_hand step) (commit_asked s kind)
happens_at shape p s step (Replies reply granted) = keeping_next shape p s step reply granted
happens_at shape p s step (Gets action) = keeping_given shape p s step action
happens_at shape p s step (Calls done bytes) = keeping_called shape p s step done bytes

abbrev pub calls_at : Shape → KeeperState → Keeping → KeeperEvent → List Call
calls_at shape s step (Calls done bytes) = keeping_calls shape s step done
calls_at shape s step event = []

pub happens_so : (shape : Shape) (p : Places) (s : KeeperState) (event : KeeperEvent) → happens_at shape p s s.step event ≡ keeper_happens shape p s event
unfolding keeper_happens
happens_so shape p s BeginsTurn = refl
happens_so shape p s (BeginsCommit kind) = refl
happens_so shape p s (Replies reply granted) = refl
happens_so shape p s (Gets action) = refl
happens_so shape p s (Calls done bytes) = refl

calls_so : (shape : Shape) (s : KeeperState) (event : KeeperEvent) → calls_at shape s s.step event ≡ calls_of shape s event
calls_so shape s BeginsTurn = refl
calls_so shape s (BeginsCommit kind) = refl
calls_so shape s (Replies reply granted) = refl
calls_so shape s (Gets action) = refl
calls_so shape s (Calls done bytes) = refl

module _ (shape : Shape) (p : Places) (opened : List ℕ) (buckets : p.buckets ≡ 2 ^ shape.bucket_bits) (overflow : p.overflow ≡ shape.overflow) where
  module _ (s : KeeperState) (was : Bool) (its : Standing) (w : Writing) (calls : List Call) (is : IsSound shape p opened s was its w calls) where
    -- what is to be shown of an event at a step
    abbrev Shows : Keeping → KeeperState → Writing → List Call → Type 0
    Shows step after w' calls' = IsSound shape p opened after (is_writing_after after.step was) (standing_after step after.step s.commit w.first its) w' calls'

    -- where nothing happens
    goes_on_same : (step : Keeping) → is_writing_after step (is_at_writes step) ≡ is_at_writes step
    goes_on_same (Ended (Turned true full)) = refl
    goes_on_same (Ended told) = refl
    goes_on_same Starts = refl
    goes_on_same Maintains = refl
    goes_on_same LoadsPhase = refl
    goes_on_same Enters = refl
    goes_on_same Copies = refl
    goes_on_same Seeks = refl
    goes_on_same Waits = refl
    goes_on_same Writes = refl
    goes_on_same Finishes = refl
    goes_on_same Sweeps = refl

    refused_same : (step : Keeping) → IsRefused step → is_writing_after step was ≡ was
    refused_same (Ended (TurnRefused why)) refused = refl
    refused_same (Ended (CommitRefused why)) refused = refl
    refused_same (Ended (Turned true full)) refused = absurd refused
    refused_same (Ended (Turned false full)) refused = refl
    refused_same step refused = absurd refused

    same_standing : (step : Keeping) → standing_after step step s.commit w.first its ≡ its
    same_standing (Ended told) = refl
    same_standing Starts = refl
    same_standing Maintains = refl
    same_standing LoadsPhase = refl
    same_standing Enters = refl
    same_standing Copies = refl
    same_standing Seeks = refl
    same_standing Waits = refl
    same_standing Writes = refl
    same_standing Finishes = refl
    same_standing Sweeps = refl

    stays_at : is_writing_after s.step was ≡ was → (step : Keeping) → s.step ≡ step → Shows step s w calls
    stays_at still step e =
        subst (λ (k : Keeping). IsSound shape p opened s (is_writing_after s.step was) (standing_after k s.step s.commit w.first its) w calls) e
        (subst (λ (b : Bool). IsSound shape p opened s b (standing_after s.step s.step s.commit w.first its) w calls) (sym still)
        (subst (λ (x : Standing). IsSound shape p opened s was x w calls) (sym (same_standing s.step)) is))

    -- while the device works, and no writes rest
    module _ (works : IsAwake shape p opened s) where
      along : (was ≡ is_at_writes s.step) × Knows shape p opened s its w calls s.step
      along =
          subst (λ (rests : Bool). (was ≡ is_at_writes (if rests then Writes else s.step)) × Knows shape p opened s its w calls (if rests then Writes else s.step)) works.1
          (subst (λ (b : Bool). Along shape p opened s was its w calls b) works.0 is.along)

      stays : (step : Keeping) → s.step ≡ step → Shows step s w calls
      stays step e = stays_at (ap (λ (b : Bool). is_writing_after s.step b) along.0 ∙ goes_on_same s.step ∙ sym along.0) step e

      knows_at : (step : Keeping) → s.step ≡ step → (was ≡ is_at_writes step) × Knows shape p opened s its w calls step
      knows_at step e = subst (λ (k : Keeping). (was ≡ is_at_writes k) × Knows shape p opened s its w calls k) e along

      at : (step : Keeping) → s.step ≡ step → is_at_writes step ≡ false → IsAt shape p opened s was step
      at step e plain = record { at = e; works = works; unwritten = (knows_at step e).0 ∙ plain; commit = is.commit; copy = is.copy }

      -- a reply
      reply_on : (step : Keeping) (reply : ℕ) (granted : Bool) → s.step ≡ step → IsNumberInTurn s.last.number step (keeping_next shape p s step reply granted).step
          → Shows step (keeping_next shape p s step reply granted) (writing_after step (Replies reply granted) (keeping_next shape p s step reply granted) w) calls
      unfolding keeping_next
      reply_on (Ended told) reply granted e turn = stays (Ended told) e
      reply_on Starts reply granted e turn = start_on shape p opened s was its w calls Starts (at Starts e refl) (knows_at Starts e).1 (start_next s.start reply) (start_ask (start_next s.start reply)) tt turn
      reply_on Maintains reply granted e turn =
          maintain_on shape p opened s was its w calls Maintains (at Maintains e refl) (maintain_next shape p s.maintain reply) (maintain_ask shape p (maintain_next shape p s.maintain reply)) refl
          (replied shape p opened s.last its calls s.maintain s.maintain.step reply refl (knows_at Maintains e).1) refl
      reply_on LoadsPhase reply granted e turn = phase_on shape p opened s was its w calls LoadsPhase (at LoadsPhase e refl) (knows_at LoadsPhase e).1 s.commit (phase_said reply) granted
      reply_on Enters reply granted e turn = enter_on shape p opened s was its w calls Enters (at Enters e refl) (knows_at Enters e).1 (enter_next s.enter reply) (enter_ask (enter_next s.enter reply)) tt
      reply_on Copies reply granted e turn = copy_on shape p opened s was its w calls Copies (at Copies e refl) (knows_at Copies e).1 reply (copy_told (copy_driven s.copy reply)) tt
      reply_on Seeks reply granted e turn = seek_on shape p opened s was its w calls Seeks (at Seeks e refl) (knows_at Seeks e).1 (seek_next s.seek reply) (seek_ask (seek_next s.seek reply)) tt
      reply_on Waits reply granted e turn = wait_on shape p opened buckets overflow s was its calls (wait_next s.wait reply) (wait_ask (wait_next s.wait reply)) (at Waits e refl) (knows_at Waits e).1
      reply_on Writes reply granted e turn = stays Writes e
      reply_on Finishes reply granted e turn =
          finish_on shape p opened buckets overflow s was its w calls is.copy is.commit works (finish_next s.finish reply) (finish_ask s.seek.points (finish_next s.finish reply)) e (knows_at Finishes e).0 (knows_at Finishes e).1
      reply_on Sweeps reply granted e turn = sweep_on shape p opened s was its w calls Sweeps (at Sweeps e refl) (knows_at Sweeps e).1 (sweep_next s.sweep reply) (sweep_ask (sweep_next s.sweep reply)) tt

      -- an action
      given_on : (step : Keeping) (action : Action) → s.step ≡ step → Shows step (keeping_given shape p s step action) (writing_after step (Gets action) (keeping_given shape p s step action) w) calls
      unfolding keeping_given
      given_on Maintains action e =
          maintain_on shape p opened s was its w calls Maintains (at Maintains e refl) (maintain_given s.maintain action) (maintain_ask shape p (maintain_given s.maintain action)) refl
          (given shape p opened s.last its calls s.maintain s.maintain.step action refl (knows_at Maintains e).1) refl
      given_on Waits action e = stays Waits e
      given_on Writes action e = stays Writes e
      given_on step action e = stays step e

      -- a call of the device
      turn_call : (step : Maintaining) (done : Bool) (bytes : List ℕ) → s.step ≡ Maintains → s.maintain.step ≡ step → MaintainKnows shape p opened s.last its calls step s.maintain.flushing
          → GoesTo shape p opened was its w (maintaining_calls shape s.maintain step done ++ calls) (maintain_ledto (record s { maintain = maintaining_called shape p s.maintain step done bytes }) (maintain_ask shape p (maintaining_called shape p s.maintain step done bytes)))
      unfolding maintaining_called maintaining_calls maintaining_ask maintain_ledto
      turn_call part.Flushes false bytes e m knows =
          goes_broken shape p opened _ was its w _ (TurnRefused fault.Device) ((knows_at Maintains e).0) refl tt refl is.commit is.copy (maintain_named shape p opened s.last its calls part.Flushes s.maintain.flushing knows) (λ image left. failed shape p opened s.last its calls s.maintain part.Flushes image knows left)
      turn_call part.Serves false bytes e m knows =
          goes_broken shape p opened _ was its w _ (TurnRefused fault.Device) ((knows_at Maintains e).0) refl tt refl is.commit is.copy (maintain_named shape p opened s.last its calls part.Serves s.maintain.flushing knows) (λ image left. failed shape p opened s.last its calls s.maintain part.Serves image knows left)
      turn_call step true bytes e m knows =
          maintain_on shape p opened s was its w (maintaining_calls shape s.maintain step true ++ calls) Maintains (at Maintains e refl) (maintaining_called shape p s.maintain step true bytes) (maintain_ask shape p (maintaining_called shape p s.maintain step true bytes)) refl
          (called shape p opened s.last its calls s.maintain step bytes m knows) refl
      turn_call step false bytes e m knows =
          maintain_on shape p opened s was its w calls Maintains (at Maintains e refl) s.maintain (maintain_ask shape p s.maintain) refl (knows_at Maintains e).1 refl

      called_on : (step : Keeping) (done : Bool) (bytes : List ℕ) → s.step ≡ step → Shows step (keeping_called shape p s step done bytes) (writing_after step (Calls done bytes) (keeping_called shape p s step done bytes) w) (keeping_calls shape s step done ++ calls)
      unfolding keeping_called keeping_calls
      called_on Maintains done bytes e = turn_call s.maintain.step done bytes e refl (knows_at Maintains e).1
      called_on Writes done bytes e = write_on shape p opened buckets overflow s was its w calls is.copy is.commit works done e (knows_at Writes e).0 (knows_at Writes e).1
      called_on Waits done bytes e = stays Waits e
      called_on Sweeps true bytes e = sweep_on shape p opened s was its w calls Sweeps (at Sweeps e refl) (knows_at Sweeps e).1 (sweep_read s.sweep bytes) (sweep_ask (sweep_read s.sweep bytes)) tt
      called_on Sweeps false bytes e =
          let calm = (knows_at Sweeps e).1 in
          goes_broken shape p opened _ was its w _ (TurnRefused fault.Device) ((knows_at Sweeps e).0) refl tt refl is.commit is.copy calm.has.named (λ image left. calm_left shape opened s.last its calls image calm left)
      called_on step done bytes e = stays step e

      -- a turn or a commit is begun
      turn_on : (told : KeeperTold) (broken : Bool) → s.step ≡ Ended told → s.is_broken ≡ broken
          → GoesTo shape p opened was its w calls (if broken then ended s (TurnRefused fault.Broken) else record s { maintain = parts_begun (serves_alone s) s.maintain; is_drain_full = false; step = Maintains })
      turn_on told true e b = let clash : true ≡ false = sym b ∙ works.0 in absurd (cc)
      turn_on told false e b =
          let begun : KeeperState = record s { maintain = parts_begun (serves_alone s) s.maintain; is_drain_full = false; step = Maintains } in
          goes_maintains shape p opened s begun was its w calls (knows_at (Ended told) e).0 refl works is.commit is.copy (begun_knows shape p opened s.last its calls (serves_alone s) s.maintain (knows_at (Ended told) e).1)

      commit_on : (kind : CommitKind) (told : KeeperTold) (broken rests : Bool) → s.step ≡ Ended told → s.is_broken ≡ broken → s.rests ≡ rests
          → GoesTo shape p opened was its w calls (if broken then ended s (CommitRefused fault.Broken) else (if rests then ended s (CommitRefused fault.CommitRunning) else record s { start = start_begun s.start (asked_for s kind); step = Starts }))
      commit_on kind told true rests e b awake = let clash : true ≡ false = sym b ∙ works.0 in absurd (cc)
      commit_on kind told false true e b awake = let clash : true ≡ false = sym awake ∙ works.1 in absurd (cc)
      commit_on kind told false false e b awake =
          goes_between shape p opened s (record s { start = start_begun s.start (asked_for s kind); step = Starts }) was its w calls (Ended told) Starts (at (Ended told) e refl) (knows_at (Ended told) e).1 tt refl works refl is.commit is.copy

      begins_turn_on : (step : Keeping) → s.step ≡ step → Shows step (begins s (is_in_hand step) (turn_asked s)) (writing_after step BeginsTurn (begins s (is_in_hand step) (turn_asked s)) w) calls
      begins_turn_on (Ended told) e = turn_on told s.is_broken e refl
      begins_turn_on Waits e = stays Waits e
      begins_turn_on Writes e = stays Writes e
      begins_turn_on step e = stays step e

      begins_commit_on : (kind : CommitKind) (step : Keeping) → s.step ≡ step → Shows step (begins s (is_in_hand step) (commit_asked s kind)) (writing_after step (BeginsCommit kind) (begins s (is_in_hand step) (commit_asked s kind)) w) calls
      begins_commit_on kind (Ended told) e = commit_on kind told s.is_broken s.rests e refl refl
      begins_commit_on kind Waits e = stays Waits e
      begins_commit_on kind Writes e = stays Writes e
      begins_commit_on kind step e = stays step e

      works_on : (step : Keeping) (event : KeeperEvent) → s.step ≡ step → IsNumberInTurn s.last.number step (happens_at shape p s step event).step
          → Shows step (happens_at shape p s step event) (writing_after step event (happens_at shape p s step event) w) (calls_at shape s step event ++ calls)
      works_on step BeginsTurn e turn = begins_turn_on step e
      works_on step (BeginsCommit kind) e turn = begins_commit_on kind step e
      works_on step (Replies reply granted) e turn = reply_on step reply granted e turn
      works_on step (Gets action) e turn = given_on step action e
      works_on step (Calls done bytes) e turn = called_on step done bytes e

    -- once a call has failed
    module _ (broken : s.is_broken ≡ true) where
      broken_now : IsBrokenNow shape p opened s was its w calls
      broken_now = subst (λ (b : Bool). Along shape p opened s was its w calls b) broken is.along

      refuses : (told : KeeperTold) → IsRefusal told → is_writing_after (Ended told) was ≡ was → GoesTo shape p opened was its w calls (ended s told)
      refuses told refusal same = record {
        commit = is.commit;
        copy = is.copy;
        along = subst (λ (b : Bool). Along shape p opened (ended s told) (is_writing_after (Ended told) was) its w calls b) (sym broken)
            (subst (λ (b : Bool). IsBrokenNow shape p opened (ended s told) b its w calls) (sym same) (record { refused = refusal; stands = broken_now.stands; triples = broken_now.triples; named = broken_now.named }));
      }

      refuses_turn : (b : Bool) → s.is_broken ≡ b → GoesTo shape p opened was its w calls (if b then ended s (TurnRefused fault.Broken) else record s { maintain = parts_begun (serves_alone s) s.maintain; is_drain_full = false; step = Maintains })
      refuses_turn true e = refuses (TurnRefused fault.Broken) tt refl
      refuses_turn false e = let clash : true ≡ false = sym broken ∙ e in absurd (cc)

      refuses_commit : (kind : CommitKind) (b : Bool) → s.is_broken ≡ b
          → GoesTo shape p opened was its w calls (if b then ended s (CommitRefused fault.Broken) else (if s.rests then ended s (CommitRefused fault.CommitRunning) else record s { start = start_begun s.start (asked_for s kind); step = Starts }))
      refuses_commit kind true e = refuses (CommitRefused fault.Broken) tt refl
      refuses_commit kind false e = let clash : true ≡ false = sym broken ∙ e in absurd (cc)

      stays_broken : (step : Keeping) → s.step ≡ step → Shows step s w calls
      stays_broken step e = stays_at (refused_same s.step broken_now.refused) step e

      broken_on : (step : Keeping) (event : KeeperEvent) → s.step ≡ step → IsRefused step → Shows step (happens_at shape p s step event) (writing_after step event (happens_at shape p s step event) w) (calls_at shape s step event ++ calls)
      unfolding keeping_next keeping_given keeping_called keeping_calls
      broken_on (Ended told) BeginsTurn e refused = refuses_turn s.is_broken refl
      broken_on (Ended told) (BeginsCommit kind) e refused = refuses_commit kind s.is_broken refl
      broken_on (Ended told) (Replies reply granted) e refused = stays_broken (Ended told) e
      broken_on (Ended told) (Gets action) e refused = stays_broken (Ended told) e
      broken_on (Ended told) (Calls done bytes) e refused = stays_broken (Ended told) e
      broken_on step event e refused = absurd refused

    -- while writes rest
    module _ (rests : s.rests ≡ true) (resting : IsResting shape s w) where
      resting_now : (was ≡ true) × IsWritingNow shape p opened s its w calls
      resting_now =
          subst (λ (x : Bool). (was ≡ is_at_writes (if x then Writes else s.step)) × Knows shape p opened s its w calls (if x then Writes else s.step)) rests
          (subst (λ (b : Bool). Along shape p opened s was its w calls b) resting.works is.along)

      -- nothing is written, and no commit is finished
      rest_standing : (step after : Keeping) → MayRest step → standing_after step after s.commit w.first its ≡ its
      rest_standing Finishes after may = absurd may
      rest_standing step after may = refl

      rest_writing : (step : Keeping) (event : KeeperEvent) (after : KeeperState) → MayRest step → writing_after step event after w ≡ w
      rest_writing Waits event after may = absurd may
      rest_writing Writes event after may = absurd may
      rest_writing step event after may = refl

      serves_none : (part_at : Maintaining) (done : Bool) → IsServing part_at → maintaining_calls shape s.maintain part_at done ≡ []
      unfolding maintaining_calls
      serves_none part.Flushes done serving = absurd serving
      serves_none part_at done serving = refl

      rest_none : (step : Keeping) (done : Bool) → s.step ≡ step → MayRest step → keeping_calls shape s step done ≡ []
      unfolding keeping_calls
      rest_none Maintains done e may = serves_none s.maintain.step done (resting.serves e)
      rest_none Writes done e may = absurd may
      rest_none step done e may = refl

      rest_calls : (event : KeeperEvent) → calls_at shape s s.step event ≡ []
      rest_calls (Calls done bytes) = rest_none s.step done refl resting.rests
      rest_calls event = refl

      writing_still : (after : Keeping) → MayRest after → is_writing_after after true ≡ true
      writing_still (Ended (Turned true full)) may = absurd may
      writing_still (Ended told) may = refl
      writing_still Writes may = absurd may
      writing_still Finishes may = absurd may
      writing_still step may = refl

      module _ (event : KeeperEvent) where
        abbrev a : KeeperState
        a = keeper_happens shape p s event

        abbrev Rested : Type 0
        Rested = Shows s.step a (writing_after s.step event a w) (calls_at shape s s.step event ++ calls)

        -- what is shown where the lists beside the run are as they were
        as_it_was : IsSound shape p opened a (is_writing_after a.step was) its w calls → Rested
        as_it_was sound =
            subst (λ (x : Standing). IsSound shape p opened a (is_writing_after a.step was) x (writing_after s.step event a w) (calls_at shape s s.step event ++ calls)) (sym (rest_standing s.step a.step resting.rests))
            (subst (λ (x : Writing). IsSound shape p opened a (is_writing_after a.step was) its x (calls_at shape s s.step event ++ calls)) (sym (rest_writing s.step event a resting.rests))
            (subst (λ (x : List Call). IsSound shape p opened a (is_writing_after a.step was) its w (x ++ calls)) (sym (rest_calls event)) sound))

        known_commit : a.last ≡ s.last → a.commit ≡ s.commit → CommitKnown shape p opened a.last a.commit
        known_commit last commit = subst (λ (x : Finality). CommitKnown shape p opened x a.commit) (sym last) (subst (λ (x : Option Commit). CommitKnown shape p opened s.last x) (sym commit) is.commit)

        known_copy : a.copy ≡ s.copy → CopyKnown shape p opened a.copy
        known_copy copy = subst (λ (x : Option Copier). CopyKnown shape p opened x) (sym copy) is.copy

        writing_on : a.commit ≡ s.commit → a.writes ≡ s.writes → a.used ≡ s.used → a.last ≡ s.last → IsWritingNow shape p opened a its w calls
        writing_on commit writes used last =
            let known = resting_now.1 in
            record {
              commit = known.commit;
              in_hand = commit ∙ known.in_hand;
              under_way = subst (λ (x : Finality). IsUnderWay shape opened x its known.commit a.used w calls) (sym last) (subst (λ (x : Checkpoint). IsUnderWay shape opened s.last its known.commit x w calls) (sym used) known.under_way);
              run = writes ∙ known.run;
            }

        -- they rest still
        rest_still : a.rests ≡ true → Rested
        rest_still is_resting =
            let kept = rests_still shape p s event rests (ap is_some resting.in_hand) resting.rests resting.serves is_resting in
            let still : is_writing_after a.step was ≡ true = ap (λ (b : Bool). is_writing_after a.step b) resting_now.0 ∙ writing_still a.step kept.rests in
            as_it_was (record {
              commit = known_commit kept.last kept.commit;
              copy = known_copy kept.copy;
              along =
                  subst (λ (b : Bool). Along shape p opened a (is_writing_after a.step was) its w calls b) (sym (kept.works ∙ resting.works))
                  (subst (λ (x : Bool). (is_writing_after a.step was ≡ is_at_writes (if x then Writes else a.step)) × Knows shape p opened a its w calls (if x then Writes else a.step)) (sym is_resting)
                  (still, writing_on kept.commit kept.writes kept.used kept.last));
            })

        -- they are taken up
        taken_up : a ≡ record s { rests = false; is_granted = true; step = Writes } → Rested
        taken_up same =
            let step : a.step ≡ Writes = ap (λ (x : KeeperState). x.step) same in
            let last : a.last ≡ s.last = ap (λ (x : KeeperState). x.last) same in
            let commit : a.commit ≡ s.commit = ap (λ (x : KeeperState). x.commit) same in
            let now : IsWritingNow shape p opened a its w calls = writing_on commit (ap (λ (x : KeeperState). x.writes) same) (ap (λ (x : KeeperState). x.used) same) last in
            as_it_was (record {
              commit = known_commit last commit;
              copy = known_copy (ap (λ (x : KeeperState). x.copy) same);
              along = along_awake shape p opened a (is_writing_after a.step was) its w calls (ap (λ (x : KeeperState). x.is_broken) same ∙ resting.works, ap (λ (x : KeeperState). x.rests) same)
                  (subst (λ (k : Keeping). (is_writing_after k was ≡ is_at_writes k) × Knows shape p opened a its w calls k) (sym step) (refl, now));
            })

        -- the device fails
        rest_breaks : BreaksInRest s a → Rested
        rest_breaks breaks =
            let under_way = resting_now.1.under_way in
            let c = resting_now.1.commit in
            as_it_was (subst (λ (b : Bool). IsSound shape p opened a b its w calls) (sym (ap (λ (k : Keeping). is_writing_after k was) breaks.step)) (record {
              commit = known_commit breaks.last breaks.commit;
              copy = known_copy breaks.copy;
              along = subst (λ (b : Bool). Along shape p opened a was its w calls b) (sym breaks.broken) (record {
                refused = subst (λ (k : Keeping). IsRefused k) (sym breaks.step) tt;
                stands = λ image left. subst (λ (x : Finality). IsOneInForce was x its w.first image) (sym breaks.last)
                    (subst (λ (b : Bool). IsOneInForce b s.last its w.first image) (sym resting_now.0) (under_way_stands shape opened s.last its c s.used w calls under_way image left));
                triples = λ image left. subst (λ (x : Finality). TriplesStand shape x.checkpoint its image) (sym breaks.last) (under_way_triples shape opened s.last its c s.used w calls under_way image left);
                named = under_way.has.named ∙ ap (λ (x : Finality). x.number.0) (sym breaks.last);
              });
            }))

        by_end : EndsRest s event a → Rested
        by_end (inl same) = taken_up same
        by_end (inr breaks) = rest_breaks breaks

        rest_on : Rested
        rest_on = by a.rests refl
          where
            by : (is_resting : Bool) → a.rests ≡ is_resting → Rested
            by true e = rest_still e
            by false e = by_end (rest_ends shape p s event rests resting.rests e)

    event_on : (event : KeeperEvent) → (s.rests ≡ true → IsResting shape s w) → IsNumberInTurn s.last.number s.step (happens_at shape p s s.step event).step
        → Shows s.step (happens_at shape p s s.step event) (writing_after s.step event (happens_at shape p s s.step event) w) (calls_at shape s s.step event ++ calls)
    event_on event resting turn = by_broken s.is_broken refl
      where
        Shown : KeeperState → Type 0
        Shown a = Shows s.step a (writing_after s.step event a w) (calls_at shape s s.step event ++ calls)

        same : happens_at shape p s s.step event ≡ keeper_happens shape p s event
        same = happens_so shape p s event

        by_rest : s.is_broken ≡ false → (rests : Bool) → s.rests ≡ rests → Shown (happens_at shape p s s.step event)
        by_rest works true rests = subst Shown (sym same) (rest_on rests (resting rests) event)
        by_rest works false awake = works_on (works, awake) s.step event refl turn

        by_broken : (b : Bool) → s.is_broken ≡ b → Shown (happens_at shape p s s.step event)
        by_broken true broken = broken_on broken s.step event refl (broken_now broken).refused
        by_broken false works = by_rest works s.rests refl

    -- what a crash leaves at each moment
    pub sound_stands : (image : List ℕ) → MayLeave opened calls image → IsOneInForce was s.last its w.first image × TriplesStand shape s.last.checkpoint its image
    sound_stands image left = by_broken s.is_broken is.along
      where
        has_it : Has shape s.last its image → was ≡ false → IsOneInForce was s.last its w.first image × TriplesStand shape s.last.checkpoint its image
        has_it has e = (subst (λ (b : Bool). IsOneInForce b s.last its w.first image) (sym e) has.stands, record { same = has.triples; fit = has.fit; long = has.long })

        by_step : (step : Keeping) → was ≡ is_at_writes step → Knows shape p opened s its w calls step → IsOneInForce was s.last its w.first image × TriplesStand shape s.last.checkpoint its image
        by_step Maintains e knows = has_it (maintain_left shape p opened s.last its calls s.maintain.step s.maintain.flushing image knows left) e
        by_step Writes e knows = (
          subst (λ (b : Bool). IsOneInForce b s.last its w.first image) (sym e) (under_way_stands shape opened s.last its knows.commit s.used w calls knows.under_way image left),
          under_way_triples shape opened s.last its knows.commit s.used w calls knows.under_way image left,
        )
        by_step Finishes e knows = (
          subst (λ (b : Bool). IsOneInForce b s.last its w.first image) (sym e) (under_way_stands shape opened s.last its knows.commit s.used w calls knows.under_way image left),
          under_way_triples shape opened s.last its knows.commit s.used w calls knows.under_way image left,
        )
        by_step (Ended told) e knows = has_it (rest_left shape p opened s.last its calls s.maintain.flushing image knows left) e
        by_step Starts e knows = has_it (rest_left shape p opened s.last its calls s.maintain.flushing image knows left) e
        by_step LoadsPhase e knows = has_it (rest_left shape p opened s.last its calls s.maintain.flushing image knows left) e
        by_step step e knows = has_it (calm_left shape opened s.last its calls image knows left) e

        by_broken : (b : Bool) → Along shape p opened s was its w calls b → IsOneInForce was s.last its w.first image × TriplesStand shape s.last.checkpoint its image
        by_broken true broken = (broken.stands image left, broken.triples image left)
        by_broken false along = by_step (come_to s) along.0 along.1

    pub sound_named : number_at its.slot 8 ≡ s.last.number.0
    sound_named = by_broken s.is_broken is.along
      where
        by_step : (step : Keeping) → Knows shape p opened s its w calls step → number_at its.slot 8 ≡ s.last.number.0
        by_step Maintains knows = maintain_named shape p opened s.last its calls s.maintain.step s.maintain.flushing knows
        by_step Writes knows = knows.under_way.has.named
        by_step Finishes knows = knows.under_way.has.named
        by_step (Ended told) knows = rest_named shape p opened s.last its calls s.maintain.flushing knows
        by_step Starts knows = rest_named shape p opened s.last its calls s.maintain.flushing knows
        by_step LoadsPhase knows = rest_named shape p opened s.last its calls s.maintain.flushing knows
        by_step step knows = knows.has.named

        by_broken : (b : Bool) → Along shape p opened s was its w calls b → number_at its.slot 8 ≡ s.last.number.0
        by_broken true broken = broken.named
        by_broken false along = by_step (come_to s) along.1

    pub sound_at : s.is_broken ≡ false → was ≡ is_at_writes (come_to s)
    sound_at works = (subst (λ (b : Bool). Along shape p opened s was its w calls b) works is.along).0

    -- a keeper that is at such a step has come to it
    here : (step : Keeping) → s.step ≡ step → (MayRest step → ⊥) → (s.rests ≡ true → MayRest s.step) → Knows shape p opened s its w calls (come_to s) → Knows shape p opened s its w calls step
    here step e not may knows = by s.rests refl knows
      where
        by : (rests : Bool) → s.rests ≡ rests → Knows shape p opened s its w calls (if rests then Writes else s.step) → Knows shape p opened s its w calls step
        by true rests now = absurd (not (subst MayRest e (may rests)))
        by false awake now = subst (λ (k : Keeping). Knows shape p opened s its w calls k) e now

    pub sound_written : (s.rests ≡ true → MayRest s.step) → s.step ≡ Finishes → (image : List ℕ) → MayLeave opened calls image → NewStands w.first image
    sound_written may e image left = by_broken s.is_broken is.along
      where
        by_broken : (b : Bool) → Along shape p opened s was its w calls b → NewStands w.first image
        by_broken true broken = absurd (subst (λ (k : Keeping). IsRefused k) e broken.refused)
        by_broken false along =
            let knows : IsWrittenNow shape p opened s its w calls = here Finishes e (λ no. no) may along.1 in
            written_stands shape opened s.last its knows.commit s.used w calls knows.under_way knows.answered image left

    -- where the writes have just begun
    pub sound_begins : (s.rests ≡ true → MayRest s.step) → s.step ≡ Writes → w ≡ record { first = s.writes; answers = [] } → Begins s.writes opened calls (slot_place s.last.number)
    unfolding commit_made
    sound_begins may e begun = by_broken s.is_broken is.along
      where
        by_broken : (b : Bool) → Along shape p opened s was its w calls b → Begins s.writes opened calls (slot_place s.last.number)
        by_broken true broken = absurd (subst (λ (k : Keeping). IsRefused k) e broken.refused)
        by_broken false along =
            let knows : IsWritingNow shape p opened s its w calls = here Writes e (λ no. no) may along.1 in
            let before : calls ≡ knows.under_way.before = knows.under_way.made ∙ ap (λ (x : Writing). commit_made x.first x.answers ++ knows.under_way.before) begun in
            subst (λ (x : Writing). Begins x.first opened calls (slot_place s.last.number)) begun
            (subst (λ (m : List Call). Begins w.first opened m (slot_place s.last.number)) (sym before) knows.under_way.begins)

-- where the store is opened
module _ (shape : Shape) (p : Places) (opened : List ℕ) (opening : KeeperState) (told : IsToldBy shape p opened opening) where
  abbrev first_standing : Standing
  first_standing = standing_opened shape opened opening.last

  abbrev first_writing : Writing
  first_writing = record { first = opening.writes; answers = [] }

  opening_calm : IsCalm shape opened opening.last first_standing []
  opening_calm = record {
    all_done = tt;
    synced = refl;
    has = record {
      stands = record { in_force = told.in_force; slot = refl };
      named = told.named;
      first_gate = told.first_gate;
      second_gate = told.second_gate;
      triples = refl;
      fit = told.triples_fit;
      long = told.long;
    };
  }

  opening_sound : IsSound shape p opened opening false first_standing first_writing []
  opening_sound = record {
    commit = subst (λ (x : Option Commit). CommitKnown shape p opened opening.last x) (sym told.is_opened.no_commit) tt;
    copy = subst (λ (x : Option Copier). CopyKnown shape p opened x) (sym told.no_copy) tt;
    along = along_awake shape p opened opening false first_standing first_writing [] (told.is_opened.works, told.is_opened.none_rest) (by_step opening.step told.is_opened.none_in_hand);
  }
    where
      by_step : (step : Keeping) → is_in_hand step ≡ false → (false ≡ is_at_writes step) × Knows shape p opened opening first_standing first_writing [] step
      by_step (Ended its) none = (refl, calm_rest shape p opened opening.last first_standing [] opening.maintain.flushing opening_calm)
      by_step step none = absurd (cc)

  -- each event goes on so
  pub run_sound : (events : List KeeperEvent) → AreNumbersInTurn shape p opening events
      → IsSound shape p opened (keeper_run shape p opening events) (is_writing shape p opening events) (standing shape p opened opening events) (writing shape p opening events) (calls_made shape p opening events)
  unfolding keeper_run is_writing standing writing calls_made AreNumbersInTurn
  run_sound [] turns = opening_sound
  run_sound (event ∷ before) turns =
      subst (λ (after : KeeperState). IsSound shape p opened after (is_writing_after after.step was) (standing_after s.step after.step s.commit w.first its) (writing_after s.step event after w) (calls_of shape s event ++ calls)) (happens_so shape p s event)
      (subst (λ (made : List Call). Shown_after (happens_at shape p s s.step event) (made ++ calls)) (calls_so shape s event)
      (event_on shape p opened told.buckets told.overflow s was its w calls (run_sound before turns.1) event (λ rests. run_rests shape p opening before told.is_opened rests)
      (subst (λ (after : KeeperState). IsNumberInTurn s.last.number s.step after.step) (sym (happens_so shape p s event)) turns.0)))
    where
      s : KeeperState
      s = keeper_run shape p opening before

      was : Bool
      was = is_writing shape p opening before

      its : Standing
      its = standing shape p opened opening before

      w : Writing
      w = writing shape p opening before

      calls : List Call
      calls = calls_made shape p opening before

      Shown_after : KeeperState → List Call → Type 0
      Shown_after after made = IsSound shape p opened after (is_writing_after after.step was) (standing_after s.step after.step s.commit w.first its) (writing_after s.step event after w) made

  -- what a crash leaves after these events
  pub run_stands : (events : List KeeperEvent) (image : List ℕ) → AreNumbersInTurn shape p opening events → MayLeave opened (calls_made shape p opening events) image
      → IsOneInForce (is_writing shape p opening events) (keeper_run shape p opening events).last (standing shape p opened opening events) (writing shape p opening events).first image
      × TriplesStand shape (keeper_run shape p opening events).last.checkpoint (standing shape p opened opening events) image
  run_stands events image turns left =
      sound_stands shape p opened told.buckets told.overflow (keeper_run shape p opening events) (is_writing shape p opening events) (standing shape p opened opening events) (writing shape p opening events) (calls_made shape p opening events)
      (run_sound events turns) image left

  pub run_named : (events : List KeeperEvent) → AreNumbersInTurn shape p opening events → number_at (standing shape p opened opening events).slot 8 ≡ (keeper_run shape p opening events).last.number.0
  run_named events turns =
      sound_named shape p opened told.buckets told.overflow (keeper_run shape p opening events) (is_writing shape p opening events) (standing shape p opened opening events) (writing shape p opening events) (calls_made shape p opening events)
      (run_sound events turns)

  pub run_at : (events : List KeeperEvent) → AreNumbersInTurn shape p opening events → (keeper_run shape p opening events).is_broken ≡ false → is_writing shape p opening events ≡ is_at_writes (come_to (keeper_run shape p opening events))
  run_at events turns works =
      sound_at shape p opened told.buckets told.overflow (keeper_run shape p opening events) (is_writing shape p opening events) (standing shape p opened opening events) (writing shape p opening events) (calls_made shape p opening events)
      (run_sound events turns) works

  may_rest : (events : List KeeperEvent) → (keeper_run shape p opening events).rests ≡ true → MayRest (keeper_run shape p opening events).step
  may_rest events rests = (run_rests shape p opening events told.is_opened rests).rests

  pub run_written : (events : List KeeperEvent) (image : List ℕ) → AreNumbersInTurn shape p opening events → MayLeave opened (calls_made shape p opening events) image → (keeper_run shape p opening events).step ≡ Finishes
      → NewStands (writing shape p opening events).first image
  run_written events image turns left e =
      sound_written shape p opened told.buckets told.overflow (keeper_run shape p opening events) (is_writing shape p opening events) (standing shape p opened opening events) (writing shape p opening events) (calls_made shape p opening events)
      (run_sound events turns) (may_rest events) e image left

  -- only a reply leads from the wait to the writes
  from_wait : (s : KeeperState) (event : KeeperEvent) (w : Writing) → s.step ≡ Waits → (happens_at shape p s Waits event).step ≡ Writes
      → writing_after Waits event (happens_at shape p s Waits event) w ≡ record { first = (happens_at shape p s Waits event).writes; answers = [] }
  unfolding keeping_given keeping_called
  from_wait s BeginsTurn w e begins_writes = let clash : Waits ≡ Writes = sym e ∙ begins_writes in absurd (cc)
  from_wait s (BeginsCommit kind) w e begins_writes = let clash : Waits ≡ Writes = sym e ∙ begins_writes in absurd (cc)
  from_wait s (Replies reply granted) w e begins_writes = refl
  from_wait s (Gets action) w e begins_writes = let clash : Waits ≡ Writes = sym e ∙ begins_writes in absurd (cc)
  from_wait s (Calls done bytes) w e begins_writes = let clash : Waits ≡ Writes = sym e ∙ begins_writes in absurd (cc)

  from_step : (s : KeeperState) (event : KeeperEvent) (w : Writing) (step : Keeping) → s.step ≡ step → step ≡ Waits → (happens_at shape p s step event).step ≡ Writes
      → writing_after step event (happens_at shape p s step event) w ≡ record { first = (happens_at shape p s step event).writes; answers = [] }
  from_step s event w Waits e waits begins_writes = from_wait s event w e begins_writes
  from_step s event w step e waits begins_writes = absurd (cc)

  pub run_begins : (events : List KeeperEvent) (event : KeeperEvent) → AreNumbersInTurn shape p opening (event ∷ events) → (keeper_run shape p opening events).step ≡ Waits → (keeper_run shape p opening (event ∷ events)).step ≡ Writes
      → Begins (keeper_run shape p opening (event ∷ events)).writes opened (calls_made shape p opening (event ∷ events)) (slot_place (keeper_run shape p opening (event ∷ events)).last.number)
  unfolding keeper_run writing
  run_begins events event turns waits begins_writes =
      sound_begins shape p opened told.buckets told.overflow (keeper_run shape p opening (event ∷ events)) (is_writing shape p opening (event ∷ events)) (standing shape p opened opening (event ∷ events)) (writing shape p opening (event ∷ events))
      (calls_made shape p opening (event ∷ events)) (run_sound (event ∷ events) turns) (may_rest (event ∷ events)) begins_writes (begun begins_writes)
    where
      s : KeeperState
      s = keeper_run shape p opening events

      begun : (keeper_run shape p opening (event ∷ events)).step ≡ Writes → writing shape p opening (event ∷ events) ≡ record { first = (keeper_run shape p opening (event ∷ events)).writes; answers = [] }
      begun e =
          subst (λ (after : KeeperState). after.step ≡ Writes → writing_after s.step event after (writing shape p opening events) ≡ record { first = after.writes; answers = [] }) (happens_so shape p s event)
          (from_step s event (writing shape p opening events) s.step refl waits) e
