-- What was written for the newest commit, where its words are stored.
use Rattle.std.proofs.Common.{◌≡◌, ◌⊎◌, inl, inr, ℕ, ◌∙◌, List, [], ◌∷◌, refl, ap, sym, subst, Bool, true, false}
use Rattle.std.specs.Prelude.{Option, Some, None, if◌then◌else◌}
use Rattle.fkv_base.specs.declared.shapes.Shape.{Shape}
use Rattle.fkv_plane.specs.declared.asks.Ask.{Ask}
use Rattle.fkv_plane.specs.declared.asks.Ask.TheVariants.{Done}
use Rattle.fkv_plane.specs.declared.places.Places.{Places}
use Rattle.law_refine.specs.Below.fkv_commit.Commit.{Commit}
use Rattle.fkv_base.specs.declared.commits.CommitKind.{CommitKind}
use Rattle.fkv_base.specs.declared.commits.CommitKind.TheVariants.{Full, Log}
use Rattle.law_refine.specs.Below.fkv_commit.FinishAnswer.{FinishAnswer}
use Rattle.law_refine.specs.Below.fkv_commit.Finishing.{finish_ask, finish_next}
use Rattle.law_refine.specs.Below.fkv_manifest.WriteAnswer.{WriteAnswer}
use Rattle.law_refine.specs.Below.fkv_manifest.WriteAnswer.TheVariants as write
use Rattle.law_refine.specs.Below.fkv_manifest.Committing.{CommitWriter, commit_next, commit_answer}
use Rattle.law_refine.specs.Below.fkv_keeper.TheKeeping.{Keeping}
use Rattle.law_refine.specs.Below.fkv_keeper.TheKeeping.TheVariants.{Ended, Starts, Maintains, LoadsPhase, Enters, Copies, Seeks, Waits, Writes, Finishes, Sweeps}
use Rattle.law_refine.specs.Below.fkv_keeper.CheckpointLaws.{BegunWith, IsBeingWritten, IsBehindWait, MayFollow, UsesAs, begun_with, copy_replies}
use Rattle.law_refine.specs.Below.fkv_keeper.Keeping.{KeeperState, come_to, finish_ledto, finished, keeping_called, keeping_given, keeping_next, lost_left, must_rest, turned, write_ledto}
use Rattle.law_refine.specs.Below.fkv_keeper.KeeperLaws.{IsWritten, MayRest}
use Rattle.law_refine.specs.Below.fkv_keeper.KeeperRun.{KeeperEvent, BeginsTurn, BeginsCommit, Replies, Gets, Calls, IsOpened, Writing, is_in_hand, keeper_happens, keeper_run, writing, writing_after}
use Rattle.law_refine.specs.Below.fkv_keeper.LastCommits.{slot_written}
use Rattle.law_refine.proofs.Below.fkv_keeper.Shown.{come_behind, each_move, run_finished, run_used}
use Rattle.law_refine.specs.Below.fkv_world.Opened.{IsOpenedWorld}
use Rattle.law_refine.specs.Below.fkv_world.OwnEvents.{keeper_events}
use Rattle.law_refine.specs.Below.fkv_world.Runs.{World, run}
use Rattle.law_refine.specs.Below.fkv_world.World.{Event}
use Rattle.law_refine.proofs.Below.law_world.OfKeeper.OwnRun.{of_keeper}
use Rattle.law_commit.specs.BegunCommits.{BegunCommit, commit_opened, commits_begun, life_begun}
use Rattle.law_commit.specs.HeldCommits.{HaveFinished, IsInHand}
use Rattle.law_commit.specs.WrittenCommits.{NewestIsWritten, UsesAsKind, life_told}
use Rattle.law_refine.specs.Below.law_world.Keeper.Lives.{life_writing}
use Rattle.law_refine.proofs.Below.law_world.OfStanding.Runs.{happens_at}
use Rattle.law_commit.proofs.BegunStands.{IsCalm, StandsAt, no_finish, no_writes, run_stands, same_commit, there}
use Rattle.law_commit.proofs.InRest.{AfterRest, GoesOn, HasBroken, after_rest, awake_at, come_awake, come_rested, rests_there, stays_awake}
use Rattle.law_commit.proofs.LifeBegun.{opening_finished}

-- while a commit is written, its triples are those with which its writes began
abbrev SameAt : Keeping → KeeperState → Writing → Type 0
SameAt Writes s w = s.writes.triples ≡ w.first.triples
SameAt Finishes s w = s.writes.triples ≡ w.first.triples
SameAt step s w = Unit {0}

abbrev IsSame : KeeperState → Writing → Type 0
IsSame s w = SameAt (come_to s) s w

-- at its step, which is where the keeper has come to as long as no writes rest
abbrev IsSameThere : KeeperState → Writing → Type 0
IsSameThere s w = SameAt s.step s w

come_same : (s : KeeperState) (w : Writing) (step : Keeping) → come_to s ≡ step → SameAt step s w → IsSame s w
come_same s w step e its = subst (λ (x : Keeping). SameAt x s w) (sym e) its

come_there : (shape : Shape) (p : Places) (s : KeeperState) (w : Writing) (event : KeeperEvent) → s.rests ≡ false → (s.step ≡ Writes → ⊥) → IsSameThere (keeper_happens shape p s event) w → IsSame (keeper_happens shape p s event) w
come_there shape p s w event awake other its =
    let a : KeeperState = keeper_happens shape p s event in
    come_same a w a.step (come_awake a a.step (stays_awake shape p s event awake other) refl) its

begins_same : (s : KeeperState) (step : Keeping) → SameAt step s (record { first = s.writes; answers = [] })
begins_same s Writes = refl
begins_same s Finishes = refl
begins_same s (Ended its) = tt
begins_same s Starts = tt
begins_same s Maintains = tt
begins_same s LoadsPhase = tt
begins_same s Enters = tt
begins_same s Copies = tt
begins_same s Sweeps = tt
begins_same s Seeks = tt
begins_same s Waits = tt

calm_same : (a : KeeperState) (w : Writing) (step after : Keeping) → IsCalm step → MayFollow step after → SameAt after a w
calm_same a w step Writes calm follows = absurd (no_writes step calm follows)
calm_same a w step Finishes calm follows = absurd (no_finish step calm follows)
calm_same a w step (Ended its) calm follows = tt
calm_same a w step Starts calm follows = tt
calm_same a w step Maintains calm follows = tt
calm_same a w step LoadsPhase calm follows = tt
calm_same a w step Enters calm follows = tt
calm_same a w step Copies calm follows = tt
calm_same a w step Sweeps calm follows = tt
calm_same a w step Seeks calm follows = tt
calm_same a w step Waits calm follows = tt

waits_same : (shape : Shape) (p : Places) (s : KeeperState) (w : Writing) (event : KeeperEvent) → s.step ≡ Waits → IsSameThere (happens_at shape p s Waits event) (writing_after Waits event (happens_at shape p s Waits event) w)
unfolding keeping_given keeping_called
waits_same shape p s w BeginsTurn e = rw e tt
waits_same shape p s w (BeginsCommit kind) e = rw e tt
waits_same shape p s w (Replies reply granted) e = begins_same (keeping_next shape p s Waits reply granted) (keeping_next shape p s Waits reply granted).step
waits_same shape p s w (Gets action) e = rw e tt
waits_same shape p s w (Calls done bytes) e = rw e tt

still_same : (s : KeeperState) (w : Writing) → s.rests ≡ false → s.step ≡ Writes → s.writes.triples ≡ w.first.triples → IsSame s w
still_same s w awake e its = come_same s w Writes (come_awake s Writes awake e) its

made_same : (s : KeeperState) (w : Writing) (found : Option Commit) (answer : WriteAnswer) → s.rests ≡ false → s.step ≡ Writes → s.writes.triples ≡ w.first.triples → IsSame (write_ledto s found answer) w
unfolding write_ledto
made_same s w None answer awake e its = rw awake tt
made_same s w (Some c) write.Written awake e its = rw awake its
made_same s w (Some c) write.Device awake e its = by (must_rest s)
  where
    by : (rests : Bool) → IsSame (if rests then turned (record s { rests = true }) else s) w
    by true = its
    by false = still_same s w awake e its
made_same s w (Some c) (write.Broken why) awake e its = still_same s w awake e its

writes_same : (shape : Shape) (p : Places) (s : KeeperState) (w : Writing) (event : KeeperEvent) → s.rests ≡ false → s.step ≡ Writes → s.writes.triples ≡ w.first.triples → IsSame (happens_at shape p s Writes event) (writing_after Writes event (happens_at shape p s Writes event) w)
unfolding keeping_next keeping_given keeping_called
writes_same shape p s w BeginsTurn awake e its = still_same s w awake e its
writes_same shape p s w (BeginsCommit kind) awake e its = still_same s w awake e its
writes_same shape p s w (Replies reply granted) awake e its = still_same s w awake e its
writes_same shape p s w (Gets action) awake e its = still_same s w awake e its
writes_same shape p s w (Calls true bytes) awake e its = made_same (record s { writes = commit_next s.writes true }) (record w { answers = true ∷ w.answers }) s.commit (commit_answer (commit_next s.writes true)) awake e its
writes_same shape p s w (Calls false bytes) awake e its = tt

finished_same : (s : KeeperState) (w : Writing) (found : Option Commit) → IsSameThere (finished s found) w
finished_same s w None = tt
finished_same s w (Some c) = tt

finish_same : (s : KeeperState) (w : Writing) (ask : Ask FinishAnswer) → s.step ≡ Finishes → s.writes.triples ≡ w.first.triples → IsSameThere (finish_ledto s ask) w
unfolding finish_ledto
finish_same s w (Done answer) e its = finished_same s w s.commit
finish_same s w ask e its = rw e its

finishes_same : (shape : Shape) (p : Places) (s : KeeperState) (w : Writing) (event : KeeperEvent) → s.step ≡ Finishes → s.writes.triples ≡ w.first.triples → IsSameThere (happens_at shape p s Finishes event) w
unfolding keeping_next keeping_given keeping_called
finishes_same shape p s w BeginsTurn e its = rw e its
finishes_same shape p s w (BeginsCommit kind) e its = rw e its
finishes_same shape p s w (Replies reply granted) e its = finish_same (record s { finish = finish_next s.finish reply }) w (finish_ask s.seek.points (finish_next s.finish reply)) e its
finishes_same shape p s w (Gets action) e its = rw e its
finishes_same shape p s w (Calls done bytes) e its = rw e its

-- each event, while no writes rest
calmly : (shape : Shape) (p : Places) (s : KeeperState) (w : Writing) (event : KeeperEvent) (step : Keeping) → s.rests ≡ false → s.step ≡ step → IsCalm step → IsSame (keeper_happens shape p s event) w
calmly shape p s w event step awake e calm =
    let a : KeeperState = keeper_happens shape p s event in
    let move = each_move shape p s event in
    calm_same a w step (come_to a) calm (subst (λ (x : Keeping). MayFollow x (come_to a)) (come_awake s step awake e) move.one.follows)

no_writes_at : (s : KeeperState) (step : Keeping) → s.step ≡ step → (step ≡ Writes → ⊥) → s.step ≡ Writes → ⊥
no_writes_at s step e other writes = other (sym e ∙ writes)

awake_same : (shape : Shape) (p : Places) (s : KeeperState) (w : Writing) (event : KeeperEvent) (step : Keeping) → s.rests ≡ false → s.step ≡ step → SameAt step s w
    → IsSame (keeper_happens shape p s event) (writing_after step event (keeper_happens shape p s event) w)
awake_same shape p s w event Waits awake e its =
    let a : KeeperState = keeper_happens shape p s event in
    come_there shape p s (writing_after Waits event a w) event awake (no_writes_at s Waits e (λ both. cc))
    (subst (λ (x : KeeperState). IsSameThere x (writing_after Waits event x w)) (there shape p s event Waits e) (waits_same shape p s w event e))
awake_same shape p s w event Writes awake e its = subst (λ (x : KeeperState). IsSame x (writing_after Writes event x w)) (there shape p s event Writes e) (writes_same shape p s w event awake e its)
awake_same shape p s w event Finishes awake e its =
    come_there shape p s w event awake (no_writes_at s Finishes e (λ both. cc)) (subst (λ (x : KeeperState). IsSameThere x w) (there shape p s event Finishes e) (finishes_same shape p s w event e its))
awake_same shape p s w event (Ended told) awake e its = calmly shape p s w event (Ended told) awake e tt
awake_same shape p s w event Starts awake e its = calmly shape p s w event Starts awake e tt
awake_same shape p s w event Maintains awake e its = calmly shape p s w event Maintains awake e tt
awake_same shape p s w event LoadsPhase awake e its = calmly shape p s w event LoadsPhase awake e tt
awake_same shape p s w event Enters awake e its = calmly shape p s w event Enters awake e tt
awake_same shape p s w event Copies awake e its = calmly shape p s w event Copies awake e tt
awake_same shape p s w event Sweeps awake e its = calmly shape p s w event Sweeps awake e tt
awake_same shape p s w event Seeks awake e its = calmly shape p s w event Seeks awake e tt

-- while they rest
rest_writing : (step : Keeping) (event : KeeperEvent) (after : KeeperState) (w : Writing) → MayRest step → writing_after step event after w ≡ w
rest_writing Waits event after w may = absurd may
rest_writing Writes event after w may = absurd may
rest_writing step event after w may = refl

after_same : (s a : KeeperState) (w : Writing) → AfterRest s a → s.writes.triples ≡ w.first.triples → IsSame a w
after_same s a w its same = by its.goes
  where
    written : a.writes.triples ≡ w.first.triples
    written = ap (λ (x : CommitWriter). x.triples) its.kept.writes ∙ same

    by : (a.rests ≡ true) ⊎ (GoesOn a ⊎ HasBroken a) → IsSame a w
    by (inl still) = come_same a w Writes (come_rested a still) written
    by (inr (inl on)) = come_same a w Writes (come_awake a Writes on.awake on.writes) written
    by (inr (inr broken)) = come_same a w (Ended broken.told) (come_awake a (Ended broken.told) broken.awake broken.ended) tt

event_same : (shape : Shape) (p : Places) (s : KeeperState) (w : Writing) (event : KeeperEvent) → (s.rests ≡ true → MayRest s.step) → IsSame s w
    → IsSame (keeper_happens shape p s event) (writing_after s.step event (keeper_happens shape p s event) w)
event_same shape p s w event may its = by s.rests refl
  where
    a : KeeperState
    a = keeper_happens shape p s event

    by : (b : Bool) → s.rests ≡ b → IsSame a (writing_after s.step event a w)
    by true rests =
        subst (λ (x : Writing). IsSame a x) (sym (rest_writing s.step event a w (may rests)))
        (after_same s a w (after_rest shape p s event rests (may rests)) (subst (λ (x : Keeping). SameAt x s w) (come_rested s rests) its))
    by false awake = awake_same shape p s w event s.step awake refl (subst (λ (x : Keeping). SameAt x s w) (come_awake s s.step awake refl) its)

opened_same : (s : KeeperState) (w : Writing) (step : Keeping) → is_in_hand step ≡ false → SameAt step s w
opened_same s w (Ended told) idle = tt
opened_same s w step idle = cc

run_same : (shape : Shape) (p : Places) (opening : KeeperState) (events : List KeeperEvent) → IsOpened opening → IsSame (keeper_run shape p opening events) (writing shape p opening events)
unfolding keeper_run writing
run_same shape p opening [] opened =
    let w : Writing = record { first = opening.writes; answers = [] } in
    come_same opening w opening.step (come_awake opening opening.step opened.none_rest refl) (opened_same opening w opening.step opened.none_in_hand)
run_same shape p opening (event ∷ before) opened =
    event_same shape p (keeper_run shape p opening before) (writing shape p opening before) event (rests_there shape p opening before opened) (run_same shape p opening before opened)

-- ---- what is said of the newest
-- it says what the commit in hand says
named_so : (shape : Shape) (s : KeeperState) (c : Commit) (newest : BegunCommit) → newest.number ≡ c.number → newest.parts.begin ≡ c.begin → newest.parts.end ≡ c.end → newest.parts.checkpoint ≡ s.used → newest.points ≡ s.seek.points → newest.parts.lost ≡ lost_left c.kind s.lost
    → slot_written shape.sessions c.number c.begin c.end s.used s.seek.points (lost_left c.kind s.lost) ≡ slot_written shape.sessions newest.number newest.parts.begin newest.parts.end newest.parts.checkpoint newest.points newest.parts.lost
named_so shape s c newest number begin end checkpoint points lost = rw (number, begin, end, checkpoint, points, lost) refl

started_so : (told : Option BegunWith) (c : Commit) (newest : BegunCommit) → newest.parts.kind ≡ c.kind → newest.number ≡ c.number → newest.parts.first ≡ c.first → told ≡ Some (record { kind = c.kind; number = c.number; first = c.first })
    → told ≡ Some (record { kind = newest.parts.kind; number = newest.number; first = newest.parts.first })
started_so told c newest kind number first begun = rw (kind, number, first) begun

uses_so : (kind : CommitKind) (p : Places) (replies : List ℕ) (w : Writing) (s : KeeperState) (c : Commit) (newest : BegunCommit) → newest.number ≡ c.number → newest.parts.first ≡ c.first → newest.parts.checkpoint ≡ s.used → w.first.triples ≡ newest.parts.triples
    → UsesAs kind p replies w s c → UsesAsKind kind newest s.last
uses_so Full p replies w s c newest number first checkpoint triples uses =
    let its = checkpoint ∙ uses.used in
    (ap (λ x. x.number) its ∙ sym number, ap (λ x. x.first) its ∙ sym first)
uses_so Log p replies w s c newest number first checkpoint triples uses = (checkpoint ∙ uses.used, sym triples ∙ uses.triples)

said_so : (shape : Shape) (p : Places) (replies : List ℕ) (told : Option BegunWith) (w : Writing) (s : KeeperState) (begun : List BegunCommit) (c : Commit)
    → (its : IsInHand begun s true) → its.commit ≡ c → (written : IsWritten shape s w) → written.commit ≡ c → (used : IsBeingWritten p replies told w s) → used.commit ≡ c → s.writes.triples ≡ w.first.triples
    → NewestIsWritten shape told w s.last begun
said_so shape p replies told w s begun c its one written two used three same = record {
  newest = its.newest;
  older = its.older;
  its = its.its;
  started = started_so told used.commit its.newest (its.kind ∙ ap (λ (x : Commit). x.kind) both) (its.number ∙ ap (λ (x : Commit). x.number) both) (its.first ∙ ap (λ (x : Commit). x.first) both) used.begun;
  triples = triples;
  slot = ap (λ x. x.slot) written.writes.gate ∙ named_so shape s written.commit its.newest (its.number ∙ ap (λ (x : Commit). x.number) other) (its.begin ∙ ap (λ (x : Commit). x.begin) other) (its.end ∙ ap (λ (x : Commit). x.end) other) its.checkpoint its.points
      (its.lost ∙ ap (λ (x : Commit). lost_left x.kind s.lost) other);
  checkpoint = subst (λ (k : CommitKind). UsesAsKind k its.newest s.last) (sym (its.kind ∙ ap (λ (x : Commit). x.kind) both))
      (uses_so used.commit.kind p replies w s used.commit its.newest (its.number ∙ ap (λ (x : Commit). x.number) both) (its.first ∙ ap (λ (x : Commit). x.first) both) its.checkpoint triples used.uses);
}
  where
    both : its.commit ≡ used.commit
    both = one ∙ sym three

    other : its.commit ≡ written.commit
    other = one ∙ sym two

    triples : w.first.triples ≡ its.newest.parts.triples
    triples = sym same ∙ sym its.triples

run_written : (shape : Shape) (p : Places) (opening : KeeperState) (first : List BegunCommit) (events : List KeeperEvent) → IsOpened opening → HaveFinished first opening.last → (keeper_run shape p opening events).step ≡ Finishes
    → NewestIsWritten shape (begun_with shape p opening events) (writing shape p opening events) (keeper_run shape p opening events).last (commits_begun shape p opening first events)
run_written shape p opening first events opened all e =
    said_so shape p (copy_replies shape p opening events) (begun_with shape p opening events) w s begun its.commit its refl written (same_commit written.commit its.commit (sym written.in_hand ∙ its.in_hand))
    used (same_commit used.commit its.commit (sym used.in_hand ∙ its.in_hand)) (subst (λ (x : Keeping). SameAt x s w) come (run_same shape p opening events opened))
  where
    s : KeeperState
    s = keeper_run shape p opening events

    w : Writing
    w = writing shape p opening events

    begun : List BegunCommit
    begun = commits_begun shape p opening first events

    come : come_to s ≡ Finishes
    come = come_awake s Finishes (awake_at shape p opening events Finishes opened e (λ may. may)) e

    its : IsInHand begun s true
    its = subst (λ (x : Keeping). StandsAt begun s x) come (run_stands shape p opening first events opened all)

    written : IsWritten shape s w
    written = run_finished shape p opening events opened e

    used : IsBeingWritten p (copy_replies shape p opening events) (begun_with shape p opening events) w s
    used = run_used shape p opening events opened (come_behind s (subst IsBehindWait (sym e) tt))

pub life_written : (opening : World) (events : List Event) → IsOpenedWorld opening → (run opening events).now.keeper.step ≡ Finishes
    → NewestIsWritten opening.now.shape (life_told opening events) (life_writing opening events) (run opening events).now.keeper.last (life_begun opening events)
life_written opening events opened =
    of_keeper (λ (x : KeeperState). x.step ≡ Finishes → NewestIsWritten opening.now.shape (life_told opening events) (life_writing opening events) x.last (life_begun opening events)) opening events
    (λ e. run_written opening.now.shape opening.now.places opening.now.keeper (commit_opened opening.now opening.past.opened ∷ []) (keeper_events opening events) opened.keeper (opening_finished opening) e)
