-- One event of the keeper after another: the newest finished commit stays the newest, until the next one is finished.
use Rattle.std.proofs.Common.{◌≡◌, ◌⊎◌, inl, inr, ℕ, ◌∙◌, refl, sym, ap, subst, Bool, true, false, List, [], ◌∷◌, ◌++◌, length}
use Rattle.std.specs.Option.{is_some}
use Rattle.std.specs.Prelude.{⊤, ◌*◌, if◌then◌else◌, Option, Some, None}
use Rattle.fkv_base.specs.declared.commits.CommitKind.{CommitKind}
use Rattle.fkv_base.specs.declared.commits.CommitKind.TheVariants.{Full, Log}
use Rattle.fkv_base.specs.declared.faults.Fault.{Fault}
use Rattle.fkv_base.specs.declared.faults.Fault.TheVariants as fault
use Rattle.fkv_base.specs.declared.shapes.Shape.{Shape}
use Rattle.law_commit.specs.Below.fkv_commit.Commit.{Commit}
use Rattle.law_commit.specs.Below.fkv_commit.FinishAnswer.{FinishAnswer}
use Rattle.law_commit.specs.Below.fkv_commit.Seeking.{SeekState}
use Rattle.law_commit.specs.Below.fkv_commit.WaitAnswer.{WaitAnswer}
use Rattle.law_commit.specs.Below.fkv_commit.WaitAnswer.TheVariants as wait
use Rattle.law_commit.specs.Below.fkv_commit.Finishing.{finish_ask, finish_next}
use Rattle.law_commit.specs.Below.fkv_commit.Starting.{start_begun}
use Rattle.law_commit.specs.Below.fkv_commit.Waiting.{wait_ask, wait_next}
use Rattle.fkv_disk.specs.Calls.{Call}
use Rattle.law_commit.specs.Below.fkv_keeper.CheckpointLaws.{IsFinished, MayFollow, MayStep}
use Rattle.law_commit.specs.Below.fkv_keeper.KeeperTold.{KeeperTold}
use Rattle.law_commit.specs.Below.fkv_keeper.KeeperTold.TheVariants.{CommitRefused, Turned, TurnRefused}
use Rattle.law_commit.specs.Below.fkv_keeper.TheKeeping.{Keeping}
use Rattle.law_commit.specs.Below.fkv_keeper.TheKeeping.TheVariants.{Ended, Starts, Maintains, LoadsPhase, Enters, Copies, Seeks, Waits, Writes, Finishes, Sweeps}
use Rattle.law_commit.specs.Below.fkv_keeper.Checkpoint.{Checkpoint}
use Rattle.law_commit.specs.Below.fkv_keeper.Keeping.{Finality, KeeperState, checkpoint_used, come_to, ended, finish_ledto, finished, keeping_called, keeping_given, keeping_next, lost_left, must_rest, parts_begun, serves_alone, triples_written, turned, wait_ledto, write_ledto, writes_begun, asked_for}
use Rattle.law_commit.specs.Below.fkv_keeper.KeeperAsks.{keeping_calls}
use Rattle.law_commit.specs.Below.fkv_keeper.KeeperLaws.{IsResting, MayRest}
use Rattle.law_commit.specs.Below.fkv_keeper.KeeperRun.{BeginsCommit, BeginsTurn, Calls, Gets, KeeperEvent, Replies, Writing, keeper_happens, writing_after}
use Rattle.law_commit.specs.Below.fkv_keeper.LastCommits.{is_gate_open}
use Rattle.law_commit.proofs.Below.fkv_keeper.Shown.{BreaksInRest, EndsRest, RestsStill, begins_rest, each_move, rest_ends, rests_still}
use Rattle.law_commit.specs.Below.fkv_maintain.Maintaining.{maintaining_calls}
use Rattle.law_commit.specs.Below.fkv_maintain.Parts.{IsServing}
use Rattle.law_commit.specs.Below.fkv_maintain.TheMaintaining.{Maintaining}
use Rattle.law_commit.specs.Below.fkv_maintain.TheMaintaining.TheVariants as part
use Rattle.law_commit.specs.Below.fkv_manifest.Committing.{CommitWriter, commit_answer, commit_call, commit_next, commit_step_answer}
use Rattle.law_commit.specs.Below.fkv_manifest.Gating.{GateWriter, gate_answer}
use Rattle.law_commit.specs.Below.fkv_manifest.Made.{commit_made, commit_run, with_call}
use Rattle.law_commit.specs.Below.fkv_manifest.WriteAnswer.{WriteAnswer}
use Rattle.law_commit.specs.Below.fkv_manifest.WriteAnswer.TheVariants as write
use Rattle.law_commit.specs.Below.fkv_manifest.TheCommitting.{Committing}
use Rattle.law_commit.specs.Below.fkv_manifest.TheCommitting.TheVariants as committing
use Rattle.law_commit.specs.Below.fkv_manifest.TheGating.{Gating}
use Rattle.law_commit.specs.Below.fkv_manifest.TheGating.TheVariants as gate
use Rattle.fkv_base.specs.declared.numbers.Serial.{Serial}
use Rattle.fkv_plane.specs.declared.asks.Ask.{Ask}
use Rattle.fkv_plane.specs.declared.asks.Ask.TheVariants.{Done}
use Rattle.fkv_plane.specs.declared.places.Places.{Places}
use Rattle.law_commit.specs.BegunCommits.{BegunCommit, begun_at_end, begun_at_writes, begun_by, commit_opening, with_finished}
use Rattle.fkv_record.specs.declared.lost_ranges.LostRange.{LostRange}
use Rattle.law_order.specs.Images.Named.{AreTriplesOf, slot_of}
use Rattle.law_order.proofs.OfImages.Begun.{AreWritesOf, BeginsSo, HasBegunFor, IsLast, IsLeft, IsWriting, IsWritten, Lists, Uses, UsesOwn, fresh, is_called, is_opened, left_after, plain, writes_on}
use Rattle.law_order.proofs.OfImages.CopiedLength.{copied_length}
use Rattle.law_order.proofs.OfImages.Resting.{IsSameInHand, still_same}
use Rattle.law_log.specs.Trace.{IsIn}
use Rattle.law_commit.proofs.Below.law_world.OfStanding.Runs.{calls_at, happens_at, happens_so}
use Rattle.law_commit.specs.Below.law_world.Standing.CallsMade.{calls_of}
use Rattle.law_commit.specs.Below.law_world.Standing.Standing.{Standing, is_at_writes, is_writing_after, standing_after, triples_used}

-- ---- where no writes are near
abbrev IsCalm : Keeping → Type 0
IsCalm (Ended told) = ⊥
IsCalm Waits = ⊥
IsCalm Writes = ⊥
IsCalm Finishes = ⊥
IsCalm step = ⊤

no_writes : (step : Keeping) → IsCalm step → MayFollow step Writes → ⊥
no_writes Starts calm follows = follows
no_writes Maintains calm follows = follows
no_writes LoadsPhase calm follows = follows
no_writes Enters calm follows = follows
no_writes Copies calm follows = follows
no_writes Sweeps calm follows = follows
no_writes Seeks calm follows = follows
no_writes step calm follows = absurd calm

no_finish : (step : Keeping) → IsCalm step → MayFollow step Finishes → ⊥
no_finish Starts calm follows = follows
no_finish Maintains calm follows = follows
no_finish LoadsPhase calm follows = follows
no_finish Enters calm follows = follows
no_finish Copies calm follows = follows
no_finish Sweeps calm follows = follows
no_finish Seeks calm follows = follows
no_finish step calm follows = absurd calm

calm_after : (step after : Keeping) → IsCalm step → MayFollow step after → is_at_writes after ≡ false
calm_after step Writes calm follows = absurd (no_writes step calm follows)
calm_after step Finishes calm follows = absurd (no_finish step calm follows)
calm_after step (Ended told) calm follows = refl
calm_after step Starts calm follows = refl
calm_after step Maintains calm follows = refl
calm_after step LoadsPhase calm follows = refl
calm_after step Enters calm follows = refl
calm_after step Copies calm follows = refl
calm_after step Sweeps calm follows = refl
calm_after step Seeks calm follows = refl
calm_after step Waits calm follows = refl

not_finishing : (step : Keeping) → IsCalm step → step ≡ Finishes → ⊥
not_finishing Finishes calm e = calm
not_finishing step calm e = cc

same_last : (s a : KeeperState) (step : Keeping) → s.step ≡ step → IsCalm step → ((a.last ≡ s.last) × (a.lost ≡ s.lost)) ⊎ ((c : Commit) × (s.commit ≡ Some c) × IsFinished s a c) → s.last ≡ a.last
same_last s a step e calm (inl same) = sym same.0
same_last s a step e calm (inr other) = let over = other.2 in absurd (not_finishing step calm (sym e ∙ over.finishes))

-- the calls of an event, with the step told beside it
calls_so : (shape : Shape) (s : KeeperState) (event : KeeperEvent) → calls_at shape s s.step event ≡ calls_of shape s event
calls_so shape s BeginsTurn = refl
calls_so shape s (BeginsCommit kind) = refl
calls_so shape s (Replies reply granted) = refl
calls_so shape s (Gets action) = refl
calls_so shape s (Calls done bytes) = refl

calls_there : (shape : Shape) (s : KeeperState) (event : KeeperEvent) (step : Keeping) → s.step ≡ step → calls_at shape s step event ≡ calls_of shape s event
calls_there shape s event step e = ap (λ (k : Keeping). calls_at shape s k event) (sym e) ∙ calls_so shape s event

there : (shape : Shape) (p : Places) (s : KeeperState) (event : KeeperEvent) (step : Keeping) → s.step ≡ step → happens_at shape p s step event ≡ keeper_happens shape p s event
there shape p s event step e = ap (λ (k : Keeping). happens_at shape p s k event) (sym e) ∙ happens_so shape p s event

-- what is answered as written has its gate open
gate_written : (g : Gating) → gate_answer g ≡ write.Written → is_opened g ≡ true
unfolding gate_answer
gate_written gate.Written e = refl
gate_written gate.SyncsOpen e = refl
gate_written gate.Closes e = cc
gate_written gate.SyncsClosed e = cc
gate_written gate.WritesBody e = cc
gate_written gate.SyncsBody e = cc
gate_written gate.Opens e = cc
gate_written (gate.Broken why) e = cc

all_written : (its : GateWriter) (step : Committing) → commit_step_answer its step ≡ write.Written → is_opened its.step ≡ true
unfolding commit_step_answer
all_written its committing.PutsSlot e = gate_written its.step e
all_written its committing.WritesTriples e = cc
all_written its committing.SyncsTriples e = cc
all_written its (committing.Broken why) e = cc

-- a checkpoint that one of these has made is one that one of more has
pub more_made : (shape : Shape) (opened : List ℕ) (first c : BegunCommit) (begun : List BegunCommit) (its other : Checkpoint) (triples : List ℕ) → other ≡ its → AreTriplesOf shape opened first begun its triples → AreTriplesOf shape opened first (c ∷ begun) other triples
more_made shape opened first c begun its other triples same (inl made) =
    let by = made.2 in
    inl (made.0, inr made.1, record { full = by.full; own = by.own; first = by.first; checkpoint = by.checkpoint ∙ sym same; triples = by.triples })
more_made shape opened first c begun its other triples same (inr old) = subst (λ (x : Checkpoint). AreTriplesOf shape opened first (c ∷ begun) x triples) (sym same) (inr old)

module _ (shape : Shape) (opened : List ℕ) (first : BegunCommit) (Good : BegunCommit → Type 0) where
  -- behind an ended call no commit is written, or its writes have failed
  abbrev pub EndedAt : KeeperTold → Bool → Bool → Finality → Standing → Writing → List Call → List BegunCommit → Type 0
  EndedAt told broken false last its w calls begun = IsLast shape opened first Good last its begun
  EndedAt told broken true last its w calls begun = (broken ≡ true) × (is_writing_after (Ended told) true ≡ true) × IsLeft shape opened first Good last its w calls begun

  abbrev pub At : Bool → KeeperState → Standing → Writing → List Call → List BegunCommit → Keeping → Type 0
  At was s its w calls begun (Ended told) = EndedAt told s.is_broken was s.last its w calls begun
  At was s its w calls begun Writes = (was ≡ true) × IsWriting shape opened first Good s its w calls begun
  At was s its w calls begun Finishes = (was ≡ true) × IsWritten shape opened first Good s its w calls begun
  At was s its w calls begun step = (was ≡ false) × IsLast shape opened first Good s.last its begun

  -- at the step of the keeper's call, and where the keeper has come to: where writes rest that is the writes
  abbrev Stands : Bool → KeeperState → Standing → Writing → List Call → List BegunCommit → Type 0
  Stands was s its w calls begun = At was s its w calls begun s.step

  abbrev pub Holds : Bool → KeeperState → Standing → Writing → List Call → List BegunCommit → Type 0
  Holds was s its w calls begun = At was s its w calls begun (come_to s)

  awake : (was : Bool) (s : KeeperState) (its : Standing) (w : Writing) (calls : List Call) (begun : List BegunCommit) → s.rests ≡ false → Stands was s its w calls begun → Holds was s its w calls begun
  awake was s its w calls begun none is = subst (λ (rests : Bool). At was s its w calls begun (if rests then Writes else s.step)) (sym none) is

  -- no commit is written behind this step
  idle_at : (a : KeeperState) (its : Standing) (w : Writing) (calls : List Call) (begun : List BegunCommit) (after : Keeping) → is_at_writes after ≡ false → IsLast shape opened first Good a.last its begun
      → At (is_writing_after after false) a its w calls begun after
  idle_at a its w calls begun (Ended (Turned true full)) idle last = last
  idle_at a its w calls begun (Ended told) idle last = last
  idle_at a its w calls begun Writes idle last = cc
  idle_at a its w calls begun Finishes idle last = cc
  idle_at a its w calls begun Starts idle last = (refl, last)
  idle_at a its w calls begun Maintains idle last = (refl, last)
  idle_at a its w calls begun LoadsPhase idle last = (refl, last)
  idle_at a its w calls begun Enters idle last = (refl, last)
  idle_at a its w calls begun Copies idle last = (refl, last)
  idle_at a its w calls begun Sweeps idle last = (refl, last)
  idle_at a its w calls begun Seeks idle last = (refl, last)
  idle_at a its w calls begun Waits idle last = (refl, last)

  idle : (a : KeeperState) (was : Bool) (its : Standing) (w : Writing) (calls : List Call) (begun : List BegunCommit) → was ≡ false → is_at_writes a.step ≡ false → IsLast shape opened first Good a.last its begun
      → Stands (is_writing_after a.step was) a its w calls begun
  idle a was its w calls begun none plain_step last = subst (λ (b : Bool). At (is_writing_after a.step b) a its w calls begun a.step) (sym none) (idle_at a its w calls begun a.step plain_step last)

  calm_on : (p : Places) (s : KeeperState) (was : Bool) (its : Standing) (w : Writing) (calls : List Call) (begun : List BegunCommit) (event : KeeperEvent) (step : Keeping) → s.rests ≡ false → s.step ≡ step → IsCalm step
      → (was ≡ false) × IsLast shape opened first Good s.last its begun → (let a = keeper_happens shape p s event in Stands (is_writing_after a.step was) a its w calls begun)
  calm_on p s was its w calls begun event step none e calm is =
      let a : KeeperState = keeper_happens shape p s event in
      let move = each_move shape p s event in
      let follows : MayFollow s.step a.step = subst (λ (rests : Bool). MayStep rests s.step a.step) none move.one.steps in
      idle a was its w calls begun is.0 (calm_after step a.step calm (subst (λ (k : Keeping). MayFollow k a.step) e follows))
      (subst (λ (x : Finality). IsLast shape opened first Good x its begun) (same_last s a step e calm move.lists.lists) is.1)

  -- ---- behind an ended call
  refuses : (told : KeeperTold) (why : Fault) (s : KeeperState) (was : Bool) (its : Standing) (w : Writing) (calls : List Call) (begun : List BegunCommit) → s.is_broken ≡ true → EndedAt told true was s.last its w calls begun
      → EndedAt (TurnRefused why) s.is_broken was s.last its w calls begun
  refuses told why s false its w calls begun broken is = is
  refuses told why s true its w calls begun broken is = (broken, refl, is.2)

  refuses_commit : (told : KeeperTold) (why : Fault) (s : KeeperState) (was : Bool) (its : Standing) (w : Writing) (calls : List Call) (begun : List BegunCommit) → s.is_broken ≡ true → EndedAt told true was s.last its w calls begun
      → EndedAt (CommitRefused why) s.is_broken was s.last its w calls begun
  refuses_commit told why s false its w calls begun broken is = is
  refuses_commit told why s true its w calls begun broken is = (broken, refl, is.2)

  works : (told : KeeperTold) (last : Finality) (was : Bool) (its : Standing) (w : Writing) (calls : List Call) (begun : List BegunCommit) → EndedAt told false was last its w calls begun → (was ≡ false) × IsLast shape opened first Good last its begun
  works told last false its w calls begun is = (refl, is)
  works told last true its w calls begun is = let clash = is.0 in cc

  turn_on : (s : KeeperState) (told : KeeperTold) (was : Bool) (its : Standing) (w : Writing) (calls : List Call) (begun : List BegunCommit) (broken : Bool) → s.is_broken ≡ broken → EndedAt told broken was s.last its w calls begun
      → (let a = if broken then ended s (TurnRefused fault.Broken) else record s { maintain = parts_begun (serves_alone s) s.maintain; is_drain_full = false; step = Maintains } in Stands (is_writing_after a.step was) a its w calls begun)
  turn_on s told was its w calls begun true e is = refuses told fault.Broken s was its w calls begun e is
  turn_on s told was its w calls begun false e is = works told s.last was its w calls begun is

  commit_on : (s : KeeperState) (kind : CommitKind) (told : KeeperTold) (was : Bool) (its : Standing) (w : Writing) (calls : List Call) (begun : List BegunCommit) (broken rests : Bool) → s.is_broken ≡ broken → rests ≡ false → EndedAt told broken was s.last its w calls begun
      → (let a = if broken then ended s (CommitRefused fault.Broken) else (if rests then ended s (CommitRefused fault.CommitRunning) else record s { start = start_begun s.start (asked_for s kind); step = Starts }) in Stands (is_writing_after a.step was) a its w calls begun)
  commit_on s kind told was its w calls begun true rests e none is = refuses_commit told fault.Broken s was its w calls begun e is
  commit_on s kind told was its w calls begun false true e none is = cc
  commit_on s kind told was its w calls begun false false e none is = works told s.last was its w calls begun is

  still_ended : (told : KeeperTold) (s : KeeperState) (was : Bool) (its : Standing) (w : Writing) (calls : List Call) (begun : List BegunCommit) → EndedAt told s.is_broken was s.last its w calls begun
      → At (is_writing_after (Ended told) was) s its w calls begun (Ended told)
  still_ended told s false its w calls begun is = idle_at s its w calls begun (Ended told) refl is
  still_ended told s true its w calls begun is = subst (λ (b : Bool). EndedAt told s.is_broken b s.last its w calls begun) (sym is.1) is

  still : (s : KeeperState) (was : Bool) (its : Standing) (w : Writing) (calls : List Call) (begun : List BegunCommit) (step : Keeping) → s.step ≡ step → At (is_writing_after step was) s its w calls begun step
      → Stands (is_writing_after s.step was) s its w calls begun
  still s was its w calls begun step e is = subst (λ (k : Keeping). At (is_writing_after k was) s its w calls begun k) (sym e) is

  ended_on : (p : Places) (s : KeeperState) (was : Bool) (its : Standing) (w : Writing) (calls : List Call) (begun : List BegunCommit) (event : KeeperEvent) (told : KeeperTold) → s.rests ≡ false → s.step ≡ Ended told → EndedAt told s.is_broken was s.last its w calls begun
      → (let a = happens_at shape p s (Ended told) event in Stands (is_writing_after a.step was) a its w (calls_at shape s (Ended told) event ++ calls) begun)
  unfolding keeping_next keeping_given keeping_called keeping_calls
  ended_on p s was its w calls begun BeginsTurn told none e is = turn_on s told was its w calls begun s.is_broken refl is
  ended_on p s was its w calls begun (BeginsCommit kind) told none e is = commit_on s kind told was its w calls begun s.is_broken s.rests refl none is
  ended_on p s was its w calls begun (Replies reply granted) told none e is = still s was its w calls begun (Ended told) e (still_ended told s was its w calls begun is)
  ended_on p s was its w calls begun (Gets action) told none e is = still s was its w calls begun (Ended told) e (still_ended told s was its w calls begun is)
  ended_on p s was its w calls begun (Calls done bytes) told none e is = still s was its w calls begun (Ended told) e (still_ended told s was its w calls begun is)

  -- ---- in the wait
  uses_so : (s : KeeperState) (c : Commit) (b : BegunCommit) (kind : CommitKind) → b.parts.checkpoint ≡ checkpoint_used c kind s.last s.copy → b.parts.triples ≡ triples_written kind s.copy → b.number ≡ c.number → b.parts.first ≡ c.first → Uses kind s.last b
  uses_so s c b Full used triples number first_is = record {
    number = ap (λ (x : Checkpoint). x.number) used ∙ sym number;
    first = ap (λ (x : Checkpoint). x.first) used ∙ sym first_is;
    whole = ap (λ (t : List ℕ). length t) triples ∙ (copied_length s.copy ∙ ap (λ (x : Checkpoint). 16 * x.triples) (sym used));
  }
  uses_so s c b Log used triples number first_is = used

  begun_on : (s : KeeperState) (was : Bool) (its : Standing) (calls : List Call) (begun : List BegunCommit) (found : Option Commit) → s.commit ≡ found → was ≡ false → IsLast shape opened first Good s.last its begun
      → (let a = writes_begun shape s found in (a.step ≡ Writes → BeginsSo shape opened first Good a calls) → Stands (is_writing_after a.step was) a its (record { first = a.writes; answers = [] }) calls begun)
  unfolding commit_made commit_run
  begun_on s was its calls begun None in_hand none last = λ so. idle (turned s) was its (record { first = s.writes; answers = [] }) calls begun none refl last
  begun_on s was its calls begun (Some c) in_hand none last = λ so.
      let a : KeeperState = writes_begun shape s (Some c) in
      let b = so refl in (
        refl,
        record {
          left = record {
            commit = commit_opening a c;
            good = b.good c in_hand;
            unfinished = refl;
            way = record { before = calls; begins = b.begins; made = refl };
            writes = record { place = refl; slot = refl; area = refl; triples = refl; uses = uses_so s c (commit_opening a c) c.kind refl refl refl refl };
            rest = begun;
            before = last;
            list = refl;
          };
          in_hand = c;
          found = in_hand;
          named = refl;
          run = refl;
          called = fresh (is_gate_open s.last.gates c.number);
          place = refl;
          start = refl;
          area = refl;
        },
      )

  wait_on : (s : KeeperState) (was : Bool) (its : Standing) (calls : List Call) (begun : List BegunCommit) (ask : Ask WaitAnswer) → s.step ≡ Waits → was ≡ false → IsLast shape opened first Good s.last its begun
      → (let a = wait_ledto shape s ask in (a.step ≡ Writes → BeginsSo shape opened first Good a calls) → Stands (is_writing_after a.step was) a its (record { first = a.writes; answers = [] }) calls begun)
  unfolding wait_ledto
  wait_on s was its calls begun (Done wait.Flushed) e none last = begun_on s was its calls begun s.commit refl none last
  wait_on s was its calls begun (Done wait.NotYet) e none last = λ so. idle (turned s) was its (record { first = s.writes; answers = [] }) calls begun none refl last
  wait_on s was its calls begun (Done wait.Idle) e none last = λ so. idle (turned s) was its (record { first = s.writes; answers = [] }) calls begun none refl last
  wait_on s was its calls begun ask e none last = λ so. still s was its (record { first = s.writes; answers = [] }) calls begun Waits e (none, last)

  waits_on : (p : Places) (s : KeeperState) (was : Bool) (its : Standing) (w : Writing) (calls : List Call) (begun : List BegunCommit) (event : KeeperEvent) → s.step ≡ Waits → (was ≡ false) × IsLast shape opened first Good s.last its begun
      → (let a = happens_at shape p s Waits event in (a.step ≡ Writes → BeginsSo shape opened first Good a (calls_at shape s Waits event ++ calls))
      → Stands (is_writing_after a.step was) a its (writing_after Waits event a w) (calls_at shape s Waits event ++ calls) begun)
  unfolding keeping_next keeping_given keeping_called keeping_calls
  waits_on p s was its w calls begun BeginsTurn e is = λ so. still s was its w calls begun Waits e is
  waits_on p s was its w calls begun (BeginsCommit kind) e is = λ so. still s was its w calls begun Waits e is
  waits_on p s was its w calls begun (Replies reply granted) e is = wait_on (record s { wait = wait_next s.wait reply }) was its calls begun (wait_ask (wait_next s.wait reply)) e is.0 is.1
  waits_on p s was its w calls begun (Gets action) e is = λ so. still s was its w calls begun Waits e is
  waits_on p s was its w calls begun (Calls done bytes) e is = λ so. still s was its w calls begun Waits e is

  -- ---- while it is written
  -- it is as it was where the keeper has the same of the commit in hand
  abbrev opening_of : Commit → List Serial → List ℕ → Checkpoint → List LostRange → BegunCommit
  opening_of c points triples used lost = record {
    number = c.number;
    points = points;
    is_sealed = false;
    is_finished = false;
    parts = record { kind = c.kind; begin = c.begin; first = c.first; end = c.end; triples = triples; checkpoint = used; lost = lost_left c.kind lost };
  }

  same_opening : (s a : KeeperState) (c : Commit) → IsSameInHand s a → commit_opening s c ≡ commit_opening a c
  same_opening s a c same =
      ap (λ (x : SeekState). opening_of c x.points s.writes.triples s.used s.lost) (sym same.seek)
      ∙ (ap (λ (x : CommitWriter). opening_of c a.seek.points x.triples s.used s.lost) (sym same.writes)
      ∙ (ap (λ (x : Checkpoint). opening_of c a.seek.points a.writes.triples x s.lost) (sym same.used)
      ∙ ap (λ (x : List LostRange). opening_of c a.seek.points a.writes.triples a.used x) (sym same.lost)))

  left_to : (last new : Finality) (its : Standing) (w : Writing) (calls : List Call) (begun : List BegunCommit) (l : IsLeft shape opened first Good last its w calls begun) → last ≡ new
      → (m : IsLeft shape opened first Good new its w calls begun) × (m.commit ≡ l.commit)
  left_to last new its w calls begun l e = subst (λ (x : Finality). (m : IsLeft shape opened first Good x its w calls begun) × (m.commit ≡ l.commit)) e (l, refl)

  same_writing : (s a : KeeperState) (its : Standing) (w : Writing) (calls : List Call) (begun : List BegunCommit) → IsSameInHand s a → IsWriting shape opened first Good s its w calls begun → IsWriting shape opened first Good a its w calls begun
  same_writing s a its w calls begun same is =
      let moved = left_to s.last a.last its w calls begun is.left (sym same.last) in
      record {
        left = moved.0;
        in_hand = is.in_hand;
        found = same.commit ∙ is.found;
        named = moved.1 ∙ (is.named ∙ same_opening s a is.in_hand same);
        run = same.writes ∙ is.run;
        called = is.called ∙ ap (λ (x : CommitWriter). is_opened x.gate.step) (sym same.writes);
        place = ap (λ (x : CommitWriter). x.gate.place) same.writes ∙ is.place;
        start = ap (λ (x : CommitWriter). x.gate.start) same.writes ∙ is.start;
        area = ap (λ (x : CommitWriter). x.area) same.writes ∙ is.area;
      }

  still_writing : (s : KeeperState) (was : Bool) (its : Standing) (w : Writing) (calls : List Call) (begun : List BegunCommit) → s.rests ≡ false → s.step ≡ Writes → IsWriting shape opened first Good s its w calls begun
      → Holds (is_writing_after s.step was) s its w calls begun
  still_writing s was its w calls begun none e is = awake (is_writing_after s.step was) s its w calls begun none (still s was its w calls begun Writes e (refl, is))

  written_on : (s : KeeperState) (was : Bool) (its : Standing) (w : Writing) (calls : List Call) (begun : List BegunCommit) (found : Option Commit) (answer : WriteAnswer) → s.rests ≡ false → s.step ≡ Writes → s.commit ≡ found → commit_answer s.writes ≡ answer
      → was ≡ true → IsWriting shape opened first Good s its w calls begun → (let a = write_ledto s found answer in Holds (is_writing_after a.step was) a its w calls begun)
  unfolding write_ledto
  written_on s was its w calls begun None answer none e in_hand its_answer writes is = let clash : None ≡ Some is.in_hand = sym in_hand ∙ is.found in cc
  written_on s was its w calls begun (Some c) write.Written none e in_hand its_answer writes is =
      let a : KeeperState = write_ledto s (Some c) write.Written in
      awake true a its w calls begun none (
        refl,
        record {
          left = is.left;
          in_hand = is.in_hand;
          found = is.found;
          named = is.named;
          called = is.called ∙ all_written s.writes.gate s.writes.step its_answer;
        },
      )
  written_on s was its w calls begun (Some c) write.Device none e in_hand its_answer writes is = by (must_rest s)
    where
      resting : KeeperState
      resting = turned (record s { rests = true })

      by : (rests : Bool) → (let a = if rests then resting else s in Holds (is_writing_after a.step was) a its w calls begun)
      by true = (writes, same_writing s resting its w calls begun (record { commit = refl; seek = refl; writes = refl; used = refl; last = refl; lost = refl }) is)
      by false = still_writing s was its w calls begun none e is
  written_on s was its w calls begun (Some c) (write.Broken why) none e in_hand its_answer writes is = still_writing s was its w calls begun none e is

  writing_on : (p : Places) (s : KeeperState) (was : Bool) (its : Standing) (w : Writing) (calls : List Call) (begun : List BegunCommit) (event : KeeperEvent) → s.rests ≡ false → s.step ≡ Writes → (was ≡ true) × IsWriting shape opened first Good s its w calls begun
      → (let a = happens_at shape p s Writes event in Holds (is_writing_after a.step was) a its (writing_after Writes event a w) (calls_at shape s Writes event ++ calls) (begun_by s Writes event a.step begun))
  unfolding keeping_next keeping_given keeping_called keeping_calls
  writing_on p s was its w calls begun BeginsTurn none e is = still_writing s was its w calls begun none e is.1
  writing_on p s was its w calls begun (BeginsCommit kind) none e is = still_writing s was its w calls begun none e is.1
  writing_on p s was its w calls begun (Replies reply granted) none e is = still_writing s was its w calls begun none e is.1
  writing_on p s was its w calls begun (Gets action) none e is = still_writing s was its w calls begun none e is.1
  writing_on p s was its w calls begun (Calls true bytes) none e is =
      written_on (record s { writes = commit_next s.writes true }) was its _ _ _ s.commit (commit_answer (commit_next s.writes true)) none e refl refl is.0 (writes_on shape opened first Good s its w calls begun is.1)
  writing_on p s was its w calls begun (Calls false bytes) none e is =
      let left = left_after shape opened first Good s its w calls begun is.1 false in
      subst (λ (b : Bool). EndedAt (TurnRefused fault.Device) true b s.last its (record w { answers = false ∷ w.answers }) (with_call (commit_call s.writes false) [] ++ calls) (begun_at_writes s s.writes.step false begun)) (sym is.0) (refl, refl, left)

  -- one more that is known
  pub each_begun : (c : BegunCommit) (rest : List BegunCommit) (d : BegunCommit) → Good (plain c) ⊎ (c ≡ first) → ((e : BegunCommit) → IsIn e rest → Good (plain e) ⊎ (e ≡ first)) → IsIn d (c ∷ rest) → Good (plain d) ⊎ (d ≡ first)
  each_begun c rest d one others (inl same) = subst (λ (x : BegunCommit). Good (plain x) ⊎ (x ≡ first)) same one
  each_begun c rest d one others (inr is) = others d is

  -- ---- as it is finished
  uses_made : (s : KeeperState) (c : Commit) (l newest : BegunCommit) (rest : List BegunCommit) (w : Writing) (its : Standing) (kind : CommitKind) → c.kind ≡ kind → l ≡ commit_opening s c → plain newest ≡ l → AreWritesOf shape s.last w.first l
      → AreTriplesOf shape opened first rest s.last.checkpoint its.triples
      → AreTriplesOf shape opened first (record newest { is_finished = true } ∷ rest) s.used (triples_used kind w.first.triples its.triples)
  uses_made s c l newest rest w its Full kind named same writes before =
      let there : plain newest ≡ commit_opening s c = same ∙ named in
      let its_kind : l.parts.kind ≡ Full = ap (λ (x : BegunCommit). x.parts.kind) named ∙ kind in
      let own : UsesOwn l = subst (λ (k : CommitKind). Uses k s.last l) its_kind writes.uses in
      inl (
        record newest { is_finished = true },
        inl refl,
        record {
          full = ap (λ (x : BegunCommit). x.parts.kind) same ∙ its_kind;
          own = ap (λ (x : BegunCommit). x.parts.checkpoint.number) same ∙ (own.number ∙ ap (λ (x : BegunCommit). x.number) (sym same));
          first = ap (λ (x : BegunCommit). x.parts.checkpoint.first) same ∙ (own.first ∙ ap (λ (x : BegunCommit). x.parts.first) (sym same));
          checkpoint = ap (λ (x : BegunCommit). x.parts.checkpoint) there;
          triples = ap (λ (x : BegunCommit). x.parts.triples) same ∙ sym writes.triples;
        },
      )
  uses_made s c l newest rest w its Log kind named same writes before =
      let its_kind : l.parts.kind ≡ Log = ap (λ (x : BegunCommit). x.parts.kind) named ∙ kind in
      let used : l.parts.checkpoint ≡ s.last.checkpoint = subst (λ (k : CommitKind). Uses k s.last l) its_kind writes.uses in
      more_made shape opened first (record newest { is_finished = true }) rest s.last.checkpoint s.used its.triples (ap (λ (x : BegunCommit). x.parts.checkpoint) (sym named) ∙ used) before

  finished_last : (s : KeeperState) (c : Commit) (its : Standing) (w : Writing) (begun : List BegunCommit) (l : BegunCommit) (rest : List BegunCommit) → l ≡ commit_opening s c → Good l → AreWritesOf shape s.last w.first l → IsLast shape opened first Good s.last its rest
      → HasBegunFor begun rest l → (let a = finished s (Some c) in IsLast shape opened first Good a.last (record { slot = w.first.gate.slot; triples = triples_used c.kind w.first.triples its.triples }) (with_finished begun))
  finished_last s c its w begun l rest named good writes before has =
      let newest : BegunCommit = has.newest in
      let done : BegunCommit = record newest { is_finished = true } in
      let there : plain newest ≡ commit_opening s c = has.same ∙ named in
      let list : with_finished begun ≡ done ∷ rest = ap (λ (x : List BegunCommit). with_finished x) has.its in
      record {
        newest = done;
        older = rest;
        list = list;
        finished = refl;
        as_last = record { number = ap (λ (x : BegunCommit). x.number) there; begin = ap (λ (x : BegunCommit). x.parts.begin) there; points = ap (λ (x : BegunCommit). x.points) there; checkpoint = ap (λ (x : BegunCommit). x.parts.checkpoint) there };
        slot = inl (writes.slot ∙ ap (λ (x : BegunCommit). slot_of shape x) (sym has.same), subst Good (sym has.same) good);
        triples = subst (λ (x : List BegunCommit). AreTriplesOf shape opened first x s.used (triples_used c.kind w.first.triples its.triples)) (sym list)
            (uses_made s c l newest rest w its c.kind refl named has.same writes before.triples);
        each = λ d is. each_begun done rest d (inl (subst Good (sym has.same) good)) before.each (subst (λ (x : List BegunCommit). IsIn d x) list is);
      }

  finished_on : (s : KeeperState) (was : Bool) (its : Standing) (w : Writing) (calls : List Call) (begun : List BegunCommit) (found : Option Commit) → s.commit ≡ found → IsWritten shape opened first Good s its w calls begun
      → (let a = finished s found in Stands (is_writing_after a.step was) a (standing_after Finishes a.step found w.first its) w calls (begun_at_end a.step begun))
  finished_on s was its w calls begun None in_hand is = let clash : None ≡ Some is.in_hand = sym in_hand ∙ is.found in cc
  finished_on s was its w calls begun (Some c) in_hand is =
      let l = is.left in
      let same : is.in_hand ≡ c = (let both : Some is.in_hand ≡ Some c = sym is.found ∙ in_hand in cc) in
      finished_last s c its w begun l.commit l.rest (is.named ∙ ap (λ (x : Commit). commit_opening s x) same) l.good l.writes l.before
      (subst (λ (b : Bool). Lists b begun l.rest l.commit) is.called l.list)

  still_finishing : (s : KeeperState) (was : Bool) (its : Standing) (w : Writing) (calls : List Call) (begun : List BegunCommit) → s.step ≡ Finishes → IsWritten shape opened first Good s its w calls begun
      → Stands (is_writing_after s.step was) s (standing_after Finishes s.step s.commit w.first its) w calls (begun_at_end s.step begun)
  still_finishing s was its w calls begun e is =
      subst (λ (k : Keeping). At (is_writing_after k was) s (standing_after Finishes k s.commit w.first its) w calls (begun_at_end k begun) k) (sym e) (refl, is)

  finish_on : (s : KeeperState) (was : Bool) (its : Standing) (w : Writing) (calls : List Call) (begun : List BegunCommit) (ask : Ask FinishAnswer) → s.step ≡ Finishes → IsWritten shape opened first Good s its w calls begun
      → (let a = finish_ledto s ask in Stands (is_writing_after a.step was) a (standing_after Finishes a.step s.commit w.first its) w calls (begun_at_end a.step begun))
  unfolding finish_ledto
  finish_on s was its w calls begun (Done answer) e is = finished_on s was its w calls begun s.commit refl is
  finish_on s was its w calls begun ask e is = still_finishing s was its w calls begun e is

  finishing_on : (p : Places) (s : KeeperState) (was : Bool) (its : Standing) (w : Writing) (calls : List Call) (begun : List BegunCommit) (event : KeeperEvent) → s.step ≡ Finishes → IsWritten shape opened first Good s its w calls begun
      → (let a = happens_at shape p s Finishes event in Stands (is_writing_after a.step was) a (standing_after Finishes a.step s.commit w.first its) w (calls_at shape s Finishes event ++ calls) (begun_at_end a.step begun))
  unfolding keeping_next keeping_given keeping_called keeping_calls
  finishing_on p s was its w calls begun BeginsTurn e is = still_finishing s was its w calls begun e is
  finishing_on p s was its w calls begun (BeginsCommit kind) e is = still_finishing s was its w calls begun e is
  finishing_on p s was its w calls begun (Replies reply granted) e is =
      finish_on (record s { finish = finish_next s.finish reply }) was its w calls begun (finish_ask s.seek.points (finish_next s.finish reply)) e
      (record { left = is.left; in_hand = is.in_hand; found = is.found; named = is.named; called = is.called })
  finishing_on p s was its w calls begun (Gets action) e is = still_finishing s was its w calls begun e is
  finishing_on p s was its w calls begun (Calls done bytes) e is = still_finishing s was its w calls begun e is

  -- ---- a step
  -- at the step of the call behind it, and where the keeper has come to then
  abbrev After : Places → KeeperState → Bool → Standing → Writing → List BegunCommit → KeeperEvent → Keeping → List Call → KeeperState → Type 0
  After p s was its w begun event step calls a = Stands (is_writing_after a.step was) a (standing_after step a.step s.commit w.first its) (writing_after step event a w) calls (begun_by s step event a.step begun)

  abbrev Comes : Places → KeeperState → Bool → Standing → Writing → List BegunCommit → KeeperEvent → Keeping → List Call → KeeperState → Type 0
  Comes p s was its w begun event step calls a = Holds (is_writing_after a.step was) a (standing_after step a.step s.commit w.first its) (writing_after step event a w) calls (begun_by s step event a.step begun)

  carried : (p : Places) (s : KeeperState) (was : Bool) (its : Standing) (w : Writing) (calls : List Call) (begun : List BegunCommit) (event : KeeperEvent) (step : Keeping) → s.step ≡ step
      → After p s was its w begun event step (calls_at shape s step event ++ calls) (happens_at shape p s step event) → After p s was its w begun event step (calls_of shape s event ++ calls) (keeper_happens shape p s event)
  carried p s was its w calls begun event step e is =
      subst (λ (a : KeeperState). After p s was its w begun event step (calls_of shape s event ++ calls) a) (there shape p s event step e)
      (subst (λ (m : List Call). After p s was its w begun event step (m ++ calls) (happens_at shape p s step event)) (calls_there shape s event step e) is)

  abbrev pub BeginsAt : Places → KeeperState → List Call → KeeperEvent → Keeping → Type 0
  BeginsAt p s calls event Waits = (let a = keeper_happens shape p s event in a.step ≡ Writes → BeginsSo shape opened first Good a (calls_of shape s event ++ calls))
  BeginsAt p s calls event step = ⊤

  begins_at : (p : Places) (s : KeeperState) (calls : List Call) (event : KeeperEvent) → s.step ≡ Waits → BeginsAt p s calls event Waits
      → (let a = happens_at shape p s Waits event in a.step ≡ Writes → BeginsSo shape opened first Good a (calls_at shape s Waits event ++ calls))
  begins_at p s calls event e so =
      subst (λ (a : KeeperState). a.step ≡ Writes → BeginsSo shape opened first Good a (calls_at shape s Waits event ++ calls)) (sym (there shape p s event Waits e))
      (subst (λ (m : List Call). (let a = keeper_happens shape p s event in a.step ≡ Writes → BeginsSo shape opened first Good a (m ++ calls))) (sym (calls_there shape s event Waits e)) so)

  writes_carried : (p : Places) (s : KeeperState) (was : Bool) (its : Standing) (w : Writing) (calls : List Call) (begun : List BegunCommit) (event : KeeperEvent) → s.step ≡ Writes
      → Comes p s was its w begun event Writes (calls_at shape s Writes event ++ calls) (happens_at shape p s Writes event) → Comes p s was its w begun event Writes (calls_of shape s event ++ calls) (keeper_happens shape p s event)
  writes_carried p s was its w calls begun event e is =
      subst (λ (a : KeeperState). Comes p s was its w begun event Writes (calls_of shape s event ++ calls) a) (there shape p s event Writes e)
      (subst (λ (m : List Call). Comes p s was its w begun event Writes (m ++ calls) (happens_at shape p s Writes event)) (calls_there shape s event Writes e) is)

  -- no writes begin to rest outside of the writes
  no_rest : (p : Places) (s : KeeperState) (event : KeeperEvent) (step : Keeping) → s.rests ≡ false → s.step ≡ step → (step ≡ Writes → ⊥) → (keeper_happens shape p s event).rests ≡ false
  no_rest p s event step none e other = by (keeper_happens shape p s event).rests refl
    where
      by : (rests : Bool) → (keeper_happens shape p s event).rests ≡ rests → rests ≡ false
      by true is = let begun = begins_rest shape p s event none is in absurd (other (sym e ∙ begun.writes))
      by false is = refl

  outside : (p : Places) (s : KeeperState) (was : Bool) (its : Standing) (w : Writing) (calls : List Call) (begun : List BegunCommit) (event : KeeperEvent) (step : Keeping) → s.rests ≡ false → s.step ≡ step → (step ≡ Writes → ⊥)
      → After p s was its w begun event step calls (keeper_happens shape p s event) → Comes p s was its w begun event step calls (keeper_happens shape p s event)
  outside p s was its w calls begun event step none e other is = awake _ (keeper_happens shape p s event) _ _ calls _ (no_rest p s event step none e other) is

  step_on : (p : Places) (s : KeeperState) (was : Bool) (its : Standing) (w : Writing) (calls : List Call) (begun : List BegunCommit) (event : KeeperEvent) (step : Keeping) → s.rests ≡ false → s.step ≡ step → At was s its w calls begun step
      → BeginsAt p s calls event step → Comes p s was its w begun event step (calls_of shape s event ++ calls) (keeper_happens shape p s event)
  step_on p s was its w calls begun event (Ended told) none e is so = outside p s was its w _ begun event (Ended told) none e (λ at. cc) (carried p s was its w calls begun event (Ended told) e (ended_on p s was its w calls begun event told none e is))
  step_on p s was its w calls begun event Waits none e is so = outside p s was its w _ begun event Waits none e (λ at. cc) (carried p s was its w calls begun event Waits e (waits_on p s was its w calls begun event e is (begins_at p s calls event e so)))
  step_on p s was its w calls begun event Writes none e is so = writes_carried p s was its w calls begun event e (writing_on p s was its w calls begun event none e is)
  step_on p s was its w calls begun event Finishes none e is so = outside p s was its w _ begun event Finishes none e (λ at. cc) (carried p s was its w calls begun event Finishes e (finishing_on p s was its w calls begun event e is.1))
  step_on p s was its w calls begun event Starts none e is so = outside p s was its w _ begun event Starts none e (λ at. cc) (calm_on p s was its w _ begun event Starts none e tt is)
  step_on p s was its w calls begun event Maintains none e is so = outside p s was its w _ begun event Maintains none e (λ at. cc) (calm_on p s was its w _ begun event Maintains none e tt is)
  step_on p s was its w calls begun event LoadsPhase none e is so = outside p s was its w _ begun event LoadsPhase none e (λ at. cc) (calm_on p s was its w _ begun event LoadsPhase none e tt is)
  step_on p s was its w calls begun event Enters none e is so = outside p s was its w _ begun event Enters none e (λ at. cc) (calm_on p s was its w _ begun event Enters none e tt is)
  step_on p s was its w calls begun event Copies none e is so = outside p s was its w _ begun event Copies none e (λ at. cc) (calm_on p s was its w _ begun event Copies none e tt is)
  step_on p s was its w calls begun event Sweeps none e is so = outside p s was its w _ begun event Sweeps none e (λ at. cc) (calm_on p s was its w _ begun event Sweeps none e tt is)
  step_on p s was its w calls begun event Seeks none e is so = outside p s was its w _ begun event Seeks none e (λ at. cc) (calm_on p s was its w _ begun event Seeks none e tt is)

  -- ---- while its writes rest
  -- nothing is written, and no commit begins or is finished
  rest_standing : (step after : Keeping) (found : Option Commit) (w : Writing) (its : Standing) → MayRest step → standing_after step after found w.first its ≡ its
  rest_standing Finishes after found w its may = absurd may
  rest_standing step after found w its may = refl

  rest_writing : (step : Keeping) (event : KeeperEvent) (a : KeeperState) (w : Writing) → MayRest step → writing_after step event a w ≡ w
  rest_writing Waits event a w may = absurd may
  rest_writing Writes event a w may = absurd may
  rest_writing step event a w may = refl

  rest_begun : (s : KeeperState) (step : Keeping) (event : KeeperEvent) (after : Keeping) (begun : List BegunCommit) → MayRest step → begun_by s step event after begun ≡ begun
  rest_begun s Writes event after begun may = absurd may
  rest_begun s Finishes event after begun may = absurd may
  rest_begun s step event after begun may = refl

  serves_none : (s : KeeperState) (step : Maintaining) (done : Bool) → IsServing step → maintaining_calls shape s.maintain step done ≡ []
  unfolding maintaining_calls
  serves_none s part.Flushes done serving = absurd serving
  serves_none s step done serving = refl

  rest_none : (s : KeeperState) (step : Keeping) (done : Bool) → s.step ≡ step → MayRest step → (s.step ≡ Maintains → IsServing s.maintain.step) → keeping_calls shape s step done ≡ []
  unfolding keeping_calls
  rest_none s Maintains done e may serves = serves_none s s.maintain.step done (serves e)
  rest_none s Writes done e may serves = absurd may
  rest_none s step done e may serves = refl

  rest_calls : (s : KeeperState) (event : KeeperEvent) → MayRest s.step → (s.step ≡ Maintains → IsServing s.maintain.step) → calls_of shape s event ≡ []
  rest_calls s (Calls done bytes) may serves = rest_none s s.step done refl may serves
  rest_calls s BeginsTurn may serves = refl
  rest_calls s (BeginsCommit kind) may serves = refl
  rest_calls s (Replies reply granted) may serves = refl
  rest_calls s (Gets action) may serves = refl

  rest_goes : (after : Keeping) → MayRest after → is_writing_after after true ≡ true
  rest_goes (Ended (Turned true full)) may = absurd may
  rest_goes (Ended told) may = refl
  rest_goes Writes may = absurd may
  rest_goes Finishes may = absurd may
  rest_goes step may = refl

  module _ (p : Places) (s : KeeperState) (was : Bool) (its : Standing) (w : Writing) (calls : List Call) (begun : List BegunCommit) (event : KeeperEvent) (rests : s.rests ≡ true) (resting : IsResting shape s w) (is : (was ≡ true) × IsWriting shape opened first Good s its w calls begun) where
    abbrev after : KeeperState
    after = keeper_happens shape p s event

    abbrev Now : KeeperState → Type 0
    Now a = Holds (is_writing_after a.step was) a its w calls begun

    rest_still : RestsStill s after → after.rests ≡ true → Now after
    rest_still kept still_rests =
        subst (λ (x : Bool). At (is_writing_after after.step was) after its w calls begun (if x then Writes else after.step)) (sym still_rests)
        (ap (λ (b : Bool). is_writing_after after.step b) is.0 ∙ rest_goes after.step kept.rests, same_writing s after its w calls begun (still_same s after kept) is.1)

    taken_up : after ≡ record s { rests = false; is_granted = true; step = Writes } → Now after
    taken_up taken =
        let now : KeeperState = record s { rests = false; is_granted = true; step = Writes } in
        subst Now (sym taken) (refl, same_writing s now its w calls begun (record { commit = refl; seek = refl; writes = refl; used = refl; last = refl; lost = refl }) is.1)

    rest_breaks : BreaksInRest s after → after.rests ≡ false → Now after
    rest_breaks broken none =
        let writing = is.1 in
        let told : KeeperTold = TurnRefused fault.Device in
        let left : IsLeft shape opened first Good after.last its w calls begun = subst (λ (x : Finality). IsLeft shape opened first Good x its w calls begun) (sym broken.last) writing.left in
        awake (is_writing_after after.step was) after its w calls begun none
        (subst (λ (k : Keeping). At (is_writing_after k was) after its w calls begun k) (sym broken.step)
        (subst (λ (b : Bool). EndedAt told after.is_broken b after.last its w calls begun) (sym is.0)
        (subst (λ (b : Bool). EndedAt told b true after.last its w calls begun) (sym broken.broken) (refl, refl, left))))

    by_end : after.rests ≡ false → EndsRest s event after → Now after
    by_end none (inl taken) = taken_up taken
    by_end none (inr broken) = rest_breaks broken none

    rest_now : (b : Bool) → after.rests ≡ b → Now after
    rest_now true e = rest_still (rests_still shape p s event rests (ap is_some resting.in_hand) resting.rests resting.serves e) e
    rest_now false e = by_end e (rest_ends shape p s event rests resting.rests e)

    rest_on : Comes p s was its w begun event s.step (calls_of shape s event ++ calls) after
    rest_on =
        subst (λ (x : Standing). Holds (is_writing_after after.step was) after x (writing_after s.step event after w) (calls_of shape s event ++ calls) (begun_by s s.step event after.step begun)) (sym (rest_standing s.step after.step s.commit w its resting.rests))
        (subst (λ (x : Writing). Holds (is_writing_after after.step was) after its x (calls_of shape s event ++ calls) (begun_by s s.step event after.step begun)) (sym (rest_writing s.step event after w resting.rests))
        (subst (λ (x : List Call). Holds (is_writing_after after.step was) after its w (x ++ calls) (begun_by s s.step event after.step begun)) (sym (rest_calls s event resting.rests resting.serves))
        (subst (λ (x : List BegunCommit). Holds (is_writing_after after.step was) after its w calls x) (sym (rest_begun s s.step event after.step begun resting.rests)) (rest_now after.rests refl))))

  -- ---- each event
  pub event_on : (p : Places) (s : KeeperState) (was : Bool) (its : Standing) (w : Writing) (calls : List Call) (begun : List BegunCommit) (event : KeeperEvent) → (s.rests ≡ true → IsResting shape s w) → Holds was s its w calls begun → BeginsAt p s calls event s.step
      → Comes p s was its w begun event s.step (calls_of shape s event ++ calls) (keeper_happens shape p s event)
  event_on p s was its w calls begun event resting is so = by s.rests refl is
    where
      by : (rests : Bool) → s.rests ≡ rests → At was s its w calls begun (if rests then Writes else s.step) → Comes p s was its w begun event s.step (calls_of shape s event ++ calls) (keeper_happens shape p s event)
      by true rests now = rest_on p s was its w calls begun event rests (resting rests) now
      by false none now = step_on p s was its w calls begun event s.step none refl now so

  -- either no commit is written, or one is behind the newest finished one
  pub either : (was : Bool) (s : KeeperState) (its : Standing) (w : Writing) (calls : List Call) (begun : List BegunCommit) (step : Keeping) → At was s its w calls begun step
      → ((was ≡ false) × IsLast shape opened first Good s.last its begun) ⊎ ((was ≡ true) × IsLeft shape opened first Good s.last its w calls begun)
  either false s its w calls begun (Ended told) is = inl (refl, is)
  either true s its w calls begun (Ended told) is = inr (refl, is.2)
  either was s its w calls begun Writes is = let now = is.1 in inr (is.0, now.left)
  either was s its w calls begun Finishes is = let now = is.1 in inr (is.0, now.left)
  either was s its w calls begun Starts is = inl is
  either was s its w calls begun Maintains is = inl is
  either was s its w calls begun LoadsPhase is = inl is
  either was s its w calls begun Enters is = inl is
  either was s its w calls begun Copies is = inl is
  either was s its w calls begun Sweeps is = inl is
  either was s its w calls begun Seeks is = inl is
  either was s its w calls begun Waits is = inl is

  -- each that has begun is known, or it is the first
  known_left : (last : Finality) (its : Standing) (w : Writing) (calls : List Call) (begun : List BegunCommit) (l : IsLeft shape opened first Good last its w calls begun) (called : Bool) → Lists called begun l.rest l.commit
      → (d : BegunCommit) → IsIn d begun → Good (plain d) ⊎ (d ≡ first)
  known_left last its w calls begun l false list d is = let before = l.before in before.each d (subst (λ (x : List BegunCommit). IsIn d x) list is)
  known_left last its w calls begun l true list d is =
      let before = l.before in
      each_begun list.newest l.rest d (inl (subst Good (sym list.same) l.good)) before.each (subst (λ (x : List BegunCommit). IsIn d x) list.its is)

  pub known : (was : Bool) (s : KeeperState) (its : Standing) (w : Writing) (calls : List Call) (begun : List BegunCommit) → Holds was s its w calls begun → (d : BegunCommit) → IsIn d begun → Good (plain d) ⊎ (d ≡ first)
  known was s its w calls begun holds d is = elim (either was s its w calls begun (come_to s) holds) [
    | inl none ↦ let last = none.1 in last.each d is
    | inr some ↦ let l = some.1 in known_left s.last its w calls begun l (is_called w) l.list d is
  ]
