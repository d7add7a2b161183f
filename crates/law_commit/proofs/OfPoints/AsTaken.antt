-- The newest commit that has begun is the one in hand, with the points that were taken, as long as it isn't finished.
use Rattle.std.proofs.Common.{◌≡◌, ℕ, ◌∙◌, List, [], ◌∷◌, refl, sym, subst, Bool, true, false}
use Rattle.std.specs.Prelude.{⊤, if◌then◌else◌, Option, Some, None}
use Rattle.fkv_base.specs.declared.faults.Fault.TheVariants as fault
use Rattle.fkv_base.specs.declared.shapes.Shape.{Shape}
use Rattle.fkv_plane.specs.declared.asks.Ask.{Ask}
use Rattle.fkv_plane.specs.declared.asks.Ask.TheVariants.{Done}
use Rattle.fkv_plane.specs.declared.places.Places.{Places}
use Rattle.law_refine.specs.Below.fkv_commit.Commit.{Commit}
use Rattle.law_refine.specs.Below.fkv_commit.FinishAnswer.{FinishAnswer}
use Rattle.law_refine.specs.Below.fkv_commit.TheSeeking.{Seeking}
use Rattle.law_refine.specs.Below.fkv_commit.TheSeeking.TheVariants as seek
use Rattle.law_refine.specs.Below.fkv_commit.Finishing.{finish_ask, finish_next}
use Rattle.law_refine.specs.Below.fkv_commit.Seeking.{SeekState}
use Rattle.law_refine.specs.Below.fkv_manifest.WriteAnswer.{WriteAnswer}
use Rattle.law_refine.specs.Below.fkv_manifest.WriteAnswer.TheVariants as write
use Rattle.law_refine.specs.Below.fkv_manifest.TheCommitting.{Committing}
use Rattle.law_refine.specs.Below.fkv_manifest.TheCommitting.TheVariants as committing
use Rattle.law_refine.specs.Below.fkv_manifest.TheGating.{Gating}
use Rattle.law_refine.specs.Below.fkv_manifest.TheGating.TheVariants as gate
use Rattle.law_refine.specs.Below.fkv_manifest.Committing.{commit_answer, commit_next}
use Rattle.law_refine.specs.Below.fkv_keeper.KeeperTold.TheVariants.{CommitRefused, TurnRefused}
use Rattle.law_refine.specs.Below.fkv_keeper.TheKeeping.{Keeping}
use Rattle.law_refine.specs.Below.fkv_keeper.TheKeeping.TheVariants.{Ended, Starts, Maintains, LoadsPhase, Enters, Copies, Seeks, Waits, Writes, Finishes, Sweeps}
use Rattle.law_refine.specs.Below.fkv_keeper.Keeping.{KeeperState, commit_asked, ended, finish_ledto, finished, keeping_called, keeping_given, keeping_next, must_rest, turn_asked, turned, write_ledto, writes_called}
use Rattle.law_refine.specs.Below.fkv_keeper.KeeperLaws.{MayRest}
use Rattle.law_refine.specs.Below.fkv_keeper.KeeperRun.{BeginsCommit, BeginsTurn, Calls, Gets, IsOpened, KeeperEvent, Replies, begins, is_in_hand, keeper_happens, keeper_run}
use Rattle.law_refine.specs.Below.fkv_world.OwnEvents.{keeper_events}
use Rattle.law_refine.proofs.Below.law_world.OfKeeper.OwnRun.{of_keeper}
use Rattle.law_refine.proofs.Below.law_world.OfStanding.Runs.{happens_at}
use Rattle.law_commit.specs.BegunCommits.{BegunCommit, begun_at_end, begun_at_gate, begun_at_writes, begun_by, commit_opened, commits_begun, with_finished, with_opening, with_sealed}
use Rattle.law_commit.specs.HeldCommits.{AreFinished, HaveFinished}
use Rattle.law_commit.specs.Points.{BeginsAsTaken, BegunAreAsTaken, IsAsTaken}
use Rattle.law_commit.proofs.BegunStands.{Stands, StandsAt, run_stands, there}
use Rattle.law_commit.proofs.InRest.{after_rest, come_awake, rest_begun, rests_there}
use Rattle.law_commit.proofs.LifeBegun.{opening_finished}
use Rattle.law_commit.proofs.OfPoints.Taking.{KeeperTakes, KeepingReply, KeepingTakes, SeekReply, called_takes, commit_takes, given_takes, has_taken, opened_takes, replied_takes, turn_takes}

-- where its writes are under way, and where it finishes, it has its commit's points
abbrev HasPoints : KeeperState → Keeping → Type 0
HasPoints s Waits = s.has_points ≡ true
HasPoints s Writes = s.has_points ≡ true
HasPoints s Finishes = s.has_points ≡ true
HasPoints s step = ⊤

module _ (count : ℕ) where
  abbrev Met : ℕ → ℕ → ℕ → Type 0
  Met version session word = ⊤

  abbrev Again : ℕ → ℕ → Type 0
  Again version session = ⊤

  abbrev Has : KeeperState → Type 0
  Has s = KeeperTakes count Met Again Met s

  seek_any : (s : SeekState) (step : Seeking) (reply : ℕ) → SeekReply count Met Again Met s step reply
  seek_any s seek.LoadsCut reply = ((λ same. tt), (λ apart. tt))
  seek_any s (seek.LoadsOther first) reply = ((λ low. tt), (λ later. tt))
  seek_any s seek.LoadsAgain reply = tt
  seek_any s (seek.Ended its) reply = tt
  seek_any s (seek.LoadsOwing session) reply = tt
  seek_any s seek.SeeksSlot reply = tt
  seek_any s seek.StoresWaitFlush reply = tt
  seek_any s seek.LoadsTail reply = tt
  seek_any s (seek.RaisesReadOnly end) reply = tt
  seek_any s (seek.Defers end) reply = tt

  reply_any : (s : KeeperState) (step : Keeping) (reply : ℕ) → KeepingReply count Met Again Met s step reply
  reply_any s Seeks reply = seek_any s.seek s.seek.step reply
  reply_any s (Ended told) reply = tt
  reply_any s Starts reply = tt
  reply_any s Maintains reply = tt
  reply_any s LoadsPhase reply = tt
  reply_any s Enters reply = tt
  reply_any s Copies reply = tt
  reply_any s Sweeps reply = tt
  reply_any s Waits reply = tt
  reply_any s Writes reply = tt
  reply_any s Finishes reply = tt

  begins_has : (s begun : KeeperState) (busy : Bool) → Has s → Has begun → Has (begins s busy begun)
  begins_has s begun true its next = its
  begins_has s begun false its next = next

  event_has : (shape : Shape) (p : Places) (s : KeeperState) (event : KeeperEvent) → Has s → Has (keeper_happens shape p s event)
  unfolding keeper_happens
  event_has shape p s BeginsTurn its = begins_has s (turn_asked s) (is_in_hand s.step) its (turn_takes count Met Again Met s (has_taken count Met Again Met s its))
  event_has shape p s (BeginsCommit kind) its = begins_has s (commit_asked s kind) (is_in_hand s.step) its (commit_takes count Met Again Met s kind (has_taken count Met Again Met s its))
  event_has shape p s (Replies reply granted) its = replied_takes count Met Again Met shape p s s.step reply granted refl (has_taken count Met Again Met s its) its.step (reply_any s s.step reply)
  event_has shape p s (Gets action) its = given_takes count Met Again Met shape p s s.step action refl its
  event_has shape p s (Calls done bytes) its = called_takes count Met Again Met shape p s s.step done bytes refl its

  has_points : (s : KeeperState) (step : Keeping) → KeepingTakes count Met Again Met s step → HasPoints s step
  has_points s Waits its = its
  has_points s Writes its = its
  has_points s Finishes its = its
  has_points s Seeks its = tt
  has_points s (Ended told) its = tt
  has_points s Starts its = tt
  has_points s Maintains its = tt
  has_points s LoadsPhase its = tt
  has_points s Enters its = tt
  has_points s Copies its = tt
  has_points s Sweeps its = tt

  run_has : (shape : Shape) (p : Places) (opening : KeeperState) (events : List KeeperEvent) → IsOpened opening → opening.seek.sessions ≡ count → Has (keeper_run shape p opening events)
  unfolding keeper_run
  run_has shape p opening [] opened sessions = opened_takes count Met Again Met opening opening.step refl opened.none_in_hand opened.no_commit opened.none_rest sessions (λ session low. tt)
  run_has shape p opening (event ∷ before) opened sessions = event_has shape p (keeper_run shape p opening before) event (run_has shape p opening before opened sessions)

  run_points : (shape : Shape) (p : Places) (opening : KeeperState) (events : List KeeperEvent) → IsOpened opening → opening.seek.sessions ≡ count → HasPoints (keeper_run shape p opening events) (keeper_run shape p opening events).step
  run_points shape p opening events opened sessions = let s : KeeperState = keeper_run shape p opening events in has_points s s.step (run_has shape p opening events opened sessions).step

-- ---- what goes on
-- the commit in hand and its points are as they were
record Keeps (s a : KeeperState) : Type 0 where
  commit : a.commit ≡ s.commit
  points : a.seek.points ≡ s.seek.points
  taken : a.has_points ≡ s.has_points

taken_on : (s a : KeeperState) (c : BegunCommit) → Keeps s a → IsAsTaken s c → IsAsTaken a c
taken_on s a c keeps its = record { commit = its.commit; in_hand = keeps.commit ∙ its.in_hand; number = its.number; taken = keeps.taken ∙ its.taken; points = its.points ∙ sym keeps.points }

begins_on : (s a : KeeperState) (begun : List BegunCommit) → Keeps s a → BeginsAsTaken s begun → BeginsAsTaken a begun
begins_on s a [] keeps its = tt
begins_on s a (c ∷ older) keeps its = λ unfinished. taken_on s a c keeps (its unfinished)

all_finished : {X : Type 0} (c : BegunCommit) → c.is_finished ≡ true → c.is_finished ≡ false → X
all_finished c has_them has_not = let clash : true ≡ false = sym has_them ∙ has_not in cc

-- where the newest has finished there is nothing to show
finished_none : (a : KeeperState) (begun : List BegunCommit) → AreFinished begun → BeginsAsTaken a begun
finished_none a [] all = tt
finished_none a (c ∷ older) all = λ unfinished. all_finished c all.1 unfinished

with_finished_none : (a : KeeperState) (begun : List BegunCommit) → BeginsAsTaken a (with_finished begun)
with_finished_none a [] = tt
with_finished_none a (c ∷ older) = λ unfinished. cc

sealed_on : (a : KeeperState) (begun : List BegunCommit) → BeginsAsTaken a begun → BeginsAsTaken a (with_sealed begun)
sealed_on a [] its = tt
sealed_on a (c ∷ older) its = λ unfinished. let was = its unfinished in record { commit = was.commit; in_hand = was.in_hand; number = was.number; taken = was.taken; points = was.points }

-- ---- a step of the keeper
module _ (shape : Shape) (p : Places) (begun : List BegunCommit) (s : KeeperState) where
  abbrev Behind : KeeperEvent → Keeping → KeeperState → Type 0
  Behind event step a = BeginsAsTaken a (begun_by s step event a.step begun)

  -- where its writes are under way
  opening_on : (a : KeeperState) (found : Option Commit) → s.commit ≡ found → s.has_points ≡ true → Keeps s a → BeginsAsTaken s begun → BeginsAsTaken a (with_opening s found begun)
  opening_on a None none has_them keeps its = begins_on s a begun keeps its
  opening_on a (Some c) found has_them keeps its = λ unfinished. record { commit = c; in_hand = keeps.commit ∙ found; number = refl; taken = keeps.taken ∙ has_them; points = sym keeps.points }

  gate_on : (a : KeeperState) (step : Gating) (done : Bool) → s.has_points ≡ true → Keeps s a → BeginsAsTaken s begun → BeginsAsTaken a (begun_at_gate s step done begun)
  gate_on a gate.Opens done has_them keeps its = opening_on a s.commit refl has_them keeps its
  gate_on a gate.SyncsOpen true has_them keeps its = sealed_on a begun (begins_on s a begun keeps its)
  gate_on a gate.SyncsOpen false has_them keeps its = begins_on s a begun keeps its
  gate_on a gate.Closes done has_them keeps its = begins_on s a begun keeps its
  gate_on a gate.SyncsClosed done has_them keeps its = begins_on s a begun keeps its
  gate_on a gate.WritesBody done has_them keeps its = begins_on s a begun keeps its
  gate_on a gate.SyncsBody done has_them keeps its = begins_on s a begun keeps its
  gate_on a gate.Written done has_them keeps its = begins_on s a begun keeps its
  gate_on a (gate.Broken why) done has_them keeps its = begins_on s a begun keeps its

  writes_on : (a : KeeperState) (step : Committing) (done : Bool) → s.has_points ≡ true → Keeps s a → BeginsAsTaken s begun → BeginsAsTaken a (begun_at_writes s step done begun)
  writes_on a committing.PutsSlot done has_them keeps its = gate_on a s.writes.gate.step done has_them keeps its
  writes_on a committing.WritesTriples done has_them keeps its = begins_on s a begun keeps its
  writes_on a committing.SyncsTriples done has_them keeps its = begins_on s a begun keeps its
  writes_on a (committing.Broken why) done has_them keeps its = begins_on s a begun keeps its

  write_keeps : (t : KeeperState) (found : Option Commit) (answer : WriteAnswer) → Keeps s t → Keeps s (write_ledto t found answer)
  unfolding write_ledto
  write_keeps t None answer its = record { commit = its.commit; points = its.points; taken = its.taken }
  write_keeps t (Some c) write.Written its = record { commit = its.commit; points = its.points; taken = its.taken }
  write_keeps t (Some c) write.Device its = by (must_rest t)
    where
      by : (rests : Bool) → Keeps s (if rests then turned (record t { rests = true }) else t)
      by true = record { commit = its.commit; points = its.points; taken = its.taken }
      by false = its
  write_keeps t (Some c) (write.Broken why) its = its

  called_keeps : (done : Bool) → Keeps s (writes_called s done)
  called_keeps true = write_keeps (record s { writes = commit_next s.writes true }) s.commit (commit_answer (commit_next s.writes true)) (record { commit = refl; points = refl; taken = refl })
  called_keeps false = record { commit = refl; points = refl; taken = refl }

  writes_led : (event : KeeperEvent) → s.step ≡ Writes → s.has_points ≡ true → BeginsAsTaken s begun → Behind event Writes (happens_at shape p s Writes event)
  unfolding keeping_next keeping_given keeping_called
  writes_led BeginsTurn at has_them its = its
  writes_led (BeginsCommit kind) at has_them its = its
  writes_led (Replies reply granted) at has_them its = its
  writes_led (Gets action) at has_them its = its
  writes_led (Calls done bytes) at has_them its = writes_on (writes_called s done) s.writes.step done has_them (called_keeps done) its

  -- where it finishes
  turned_on : (t : KeeperState) → Keeps s t → BeginsAsTaken s begun → BeginsAsTaken (turned t) (begun_at_end (turned t).step begun)
  turned_on t keeps its = begins_on s (turned t) begun (record { commit = keeps.commit; points = keeps.points; taken = keeps.taken }) its

  over : (t : KeeperState) (found : Option Commit) → Keeps s t → BeginsAsTaken s begun → BeginsAsTaken (finished t found) (begun_at_end (finished t found).step begun)
  over t None keeps its = turned_on t keeps its
  over t (Some c) keeps its = with_finished_none (finished t (Some c)) begun

  finish_on : (t : KeeperState) (ask : Ask FinishAnswer) → t.step ≡ Finishes → Keeps s t → BeginsAsTaken s begun → BeginsAsTaken (finish_ledto t ask) (begun_at_end (finish_ledto t ask).step begun)
  unfolding finish_ledto
  finish_on t (Done told) at keeps its = over t t.commit keeps its
  finish_on t ask at keeps its = subst (λ (x : Keeping). BeginsAsTaken t (begun_at_end x begun)) (sym at) (begins_on s t begun keeps its)

  still_on : s.step ≡ Finishes → BeginsAsTaken s begun → BeginsAsTaken s (begun_at_end s.step begun)
  still_on at its = subst (λ (x : Keeping). BeginsAsTaken s (begun_at_end x begun)) (sym at) its

  finishes_led : (event : KeeperEvent) → s.step ≡ Finishes → BeginsAsTaken s begun → Behind event Finishes (happens_at shape p s Finishes event)
  unfolding keeping_next keeping_given keeping_called
  finishes_led BeginsTurn at its = still_on at its
  finishes_led (BeginsCommit kind) at its = still_on at its
  finishes_led (Replies reply granted) at its = finish_on (record s { finish = finish_next s.finish reply }) (finish_ask s.seek.points (finish_next s.finish reply)) at (record { commit = refl; points = refl; taken = refl }) its
  finishes_led (Gets action) at its = still_on at its
  finishes_led (Calls done bytes) at its = still_on at its

  -- where no call is in hand
  either_on : (c : Bool) (a b : KeeperState) → BeginsAsTaken a begun → BeginsAsTaken b begun → BeginsAsTaken (if c then a else b) begun
  either_on true a b one other = one
  either_on false a b one other = other

  ended_led : (event : KeeperEvent) (told : _) → BeginsAsTaken s begun → BeginsAsTaken (happens_at shape p s (Ended told) event) begun
  unfolding keeping_next keeping_given keeping_called
  ended_led BeginsTurn told its =
      let refused : KeeperState = ended s (TurnRefused fault.Broken) in
      either_on s.is_broken refused _ (begins_on s refused begun (record { commit = refl; points = refl; taken = refl }) its) (begins_on s _ begun (record { commit = refl; points = refl; taken = refl }) its)
  ended_led (BeginsCommit kind) told its =
      let refused : KeeperState = ended s (CommitRefused fault.Broken) in
      let running : KeeperState = ended s (CommitRefused fault.CommitRunning) in
      either_on s.is_broken refused _ (begins_on s refused begun (record { commit = refl; points = refl; taken = refl }) its)
      (either_on s.rests running _ (begins_on s running begun (record { commit = refl; points = refl; taken = refl }) its) (begins_on s _ begun (record { commit = refl; points = refl; taken = refl }) its))
  ended_led (Replies reply granted) told its = its
  ended_led (Gets action) told its = its
  ended_led (Calls done bytes) told its = its

  -- each of them
  step_on : (event : KeeperEvent) (step : Keeping) → s.step ≡ step → StandsAt begun s step → HasPoints s step → BeginsAsTaken s begun → Behind event step (keeper_happens shape p s event)
  step_on event Writes at stands has_them its = subst (λ (a : KeeperState). Behind event Writes a) (there shape p s event Writes at) (writes_led event at has_them its)
  step_on event Finishes at stands has_them its = subst (λ (a : KeeperState). Behind event Finishes a) (there shape p s event Finishes at) (finishes_led event at its)
  step_on event (Ended told) at stands has_them its = subst (λ (a : KeeperState). BeginsAsTaken a begun) (there shape p s event (Ended told) at) (ended_led event told its)
  step_on event Starts at stands has_them its = finished_none (keeper_happens shape p s event) begun stands.finished
  step_on event Maintains at stands has_them its = finished_none (keeper_happens shape p s event) begun stands.finished
  step_on event LoadsPhase at stands has_them its = finished_none (keeper_happens shape p s event) begun stands.finished
  step_on event Enters at stands has_them its = finished_none (keeper_happens shape p s event) begun stands.finished
  step_on event Copies at stands has_them its = finished_none (keeper_happens shape p s event) begun stands.finished
  step_on event Sweeps at stands has_them its = finished_none (keeper_happens shape p s event) begun stands.finished
  step_on event Seeks at stands has_them its = finished_none (keeper_happens shape p s event) begun stands.finished
  step_on event Waits at stands has_them its = finished_none (keeper_happens shape p s event) begun stands.finished

  -- where writes rest the commit in hand is as it was
  rests_on : (event : KeeperEvent) → s.rests ≡ true → MayRest s.step → BeginsAsTaken s begun → Behind event s.step (keeper_happens shape p s event)
  rests_on event rests may its =
      let a : KeeperState = keeper_happens shape p s event in
      let kept = (after_rest shape p s event rests may).kept in
      subst (λ (x : List BegunCommit). BeginsAsTaken a x) (sym (rest_begun s s.step event a.step begun may)) (begins_on s a begun (record { commit = kept.commit; points = kept.points; taken = kept.taken }) its)

  event_on : (event : KeeperEvent) → (s.rests ≡ true → MayRest s.step) → Stands begun s → HasPoints s s.step → BeginsAsTaken s begun → Behind event s.step (keeper_happens shape p s event)
  event_on event may stands has_them its = by s.rests refl
    where
      by : (b : Bool) → s.rests ≡ b → Behind event s.step (keeper_happens shape p s event)
      by true rests = rests_on event rests (may rests) its
      by false none = step_on event s.step refl (subst (λ (x : Keeping). StandsAt begun s x) (come_awake s s.step none refl) stands) has_them its

-- ---- at each moment of a keeper's run
run_begins : (shape : Shape) (p : Places) (opening : KeeperState) (first : List BegunCommit) (events : List KeeperEvent) → IsOpened opening → HaveFinished first opening.last
    → BeginsAsTaken (keeper_run shape p opening events) (commits_begun shape p opening first events)
unfolding keeper_run commits_begun
run_begins shape p opening first [] opened all = finished_none opening first all.finished
run_begins shape p opening first (event ∷ before) opened all =
    let s : KeeperState = keeper_run shape p opening before in
    event_on shape p (commits_begun shape p opening first before) s event (rests_there shape p opening before opened) (run_stands shape p opening first before opened all)
    (run_points opening.seek.sessions shape p opening before opened refl) (run_begins shape p opening first before opened all)

pub begun_as_taken : BegunAreAsTaken
begun_as_taken opening start events opens =
    of_keeper (λ (s : KeeperState). BeginsAsTaken s (commits_begun opening.now.shape opening.now.places opening.now.keeper (commit_opened opening.now opening.past.opened ∷ []) (keeper_events opening events))) opening events
    (run_begins opening.now.shape opening.now.places opening.now.keeper (commit_opened opening.now opening.past.opened ∷ []) (keeper_events opening events) opens.quiet.opened.keeper (opening_finished opening))
