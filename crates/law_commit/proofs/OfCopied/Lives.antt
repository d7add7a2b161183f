-- Beside each life the copy goes on as its keeper's replies tell, over the index of the life.
use Rattle.std.proofs.Common.{◌≡◌, ℕ, ◌∙◌, List, [], ◌∷◌, ◌++◌, refl, sym, ap, subst, Bool, true, false}
use Rattle.std.specs.Prelude.{if◌then◌else◌, map, length, Some, None}
use Rattle.fkv_base.specs.declared.shapes.Shape.{Shape}
use Rattle.fkv_plane.specs.declared.asks.Ask.TheVariants.{Done}
use Rattle.fkv_plane.specs.declared.places.Places.{Places}
use Rattle.law_refine.specs.Below.fkv_checkpoint.CopyStep.{CopyStep}
use Rattle.law_refine.specs.Below.fkv_checkpoint.CopyStep.TheVariants as copy
use Rattle.law_refine.specs.Below.fkv_checkpoint.TheCopying.{Copying}
use Rattle.law_refine.specs.Below.fkv_checkpoint.Copied.{copying_after, copied_after}
use Rattle.law_refine.specs.Below.fkv_checkpoint.Copying.{copy_step_ask, copy_ask}
use Rattle.law_refine.specs.Below.fkv_checkpoint.CopyWorld.{CopyWorld, IndexMoves, copy_happens, copy_run}
use Rattle.law_refine.specs.Below.fkv_checkpoint.Triples.{CopiedEntry, all_bytes}
use Rattle.law_refine.specs.Below.fkv_commit.Commit.{Commit}
use Rattle.fkv_base.specs.declared.commits.CommitKind.{CommitKind}
use Rattle.fkv_base.specs.declared.commits.CommitKind.TheVariants.{Full}
use Rattle.fkv_index.specs.IndexWorld.{IndexEvent, IndexWorld, index_happens, index_run}
use Rattle.law_refine.specs.Below.fkv_keeper.Checkpoint.{Checkpoint}
use Rattle.law_refine.specs.Below.fkv_keeper.CheckpointLaws.{HasCopied, HoldsCopy, IsBehindWait, IsBeingWritten, UsesAs, UsesItsCopy, copy_replies}
use Rattle.law_refine.specs.Below.fkv_keeper.Keeping.{KeeperState, come_to, keeper_ask}
use Rattle.law_refine.specs.Below.fkv_keeper.KeeperRun.{IsOpened, KeeperEvent, keeper_run}
use Rattle.law_refine.proofs.Below.fkv_keeper.Shown.{run_holds, run_used}
use Rattle.law_refine.specs.Below.fkv_world.OwnEvents.{keeper_events, keeper_part, keeper_part_of}
use Rattle.law_refine.specs.Below.fkv_world.Runs.{World, read_by_keeper, run}
use Rattle.law_refine.specs.Below.fkv_world.World.{Event, Calls, Moves, Commits, Turns, KeeperMoves, Crashes, near}
use Rattle.law_refine.proofs.Below.fkv_world.Shown.{keeper_runs, places_stay, shape_stays}
use Rattle.law_refine.specs.Below.law_world.Keeper.Lives.{begun_last, keeper_after, life_writing, replies_copied}
use Rattle.law_refine.proofs.Below.law_world.OfKeeper.OwnRun.{of_keeper, to_keeper}
use Rattle.law_refine.specs.Index.IndexEvents.{index_events, mapped}
use Rattle.law_refine.specs.Index.Shows as index
use Rattle.law_refine.specs.Index.Shows.{Shows, seen_by_index}
use Rattle.law_refine.proofs.OfIndex.Permitted.{are_permitted}
use Rattle.law_refine.proofs.OfIndex.Worlds.{life_shows}
use Rattle.law_commit.specs.Copied.Runs.{HasInHand, IsCheckpointOf, IsCopyBy, KeepsCopy, WritesCopy, copy_events, keeper_copies, opening_copy, seen_by_copy}
use Rattle.law_commit.proofs.OfCopied.Commits.{some_same}
use Rattle.law_commit.proofs.OfCopied.Keepers.{AreReplied, GoesOn, copies_on, own_on, steps_replied}

-- what the keeper's part in an event is replied
part_replied : (w : World) (event : Event) → AreReplied w.now.shape w.now.places w.now.words w.now.keeper (keeper_part w.now.shape w.now.places (read_by_keeper w) (near w.now w.now.keeper) event)
unfolding keeper_part keeper_run
part_replied w (Calls number call) = tt
part_replied w (Moves number) = tt
part_replied w (Commits kind) = (tt, tt)
part_replied w Turns = (tt, tt)
part_replied w (KeeperMoves granted done) = steps_replied w.now.shape w.now.places granted done (read_by_keeper w) (near w.now w.now.keeper) (keeper_ask w.now.shape w.now.places w.now.keeper) refl
part_replied w Crashes = tt

pub event_replied : (w : World) (event : Event) → AreReplied w.now.shape w.now.places w.now.words w.now.keeper (keeper_part_of w event)
event_replied w event = by_crash w.now.crashed
  where
    by_crash : (over : Bool) → AreReplied w.now.shape w.now.places w.now.words w.now.keeper (if over then [] else keeper_part w.now.shape w.now.places (read_by_keeper w) (near w.now w.now.keeper) event)
    by_crash true = tt
    by_crash false = part_replied w event

-- the index moves, and the copy stays
pub record IndexMoved (index : IndexWorld) (before after : CopyWorld) : Type 0 where
  pub same : after.index ≡ index
  pub copying : after.copying ≡ before.copying
  pub triples : after.triples ≡ before.triples

index_moved : (w : CopyWorld) (opening : IndexWorld) (later before : List IndexEvent) → w.index ≡ index_run opening before → IndexMoved (index_run opening (later ++ before)) w (copy_run w (map IndexMoves later))
unfolding copy_run copy_happens index_run
index_moved w opening [] before same = record { same = same; copying = refl; triples = refl }
index_moved w opening (event ∷ later) before same =
    let its = index_moved w opening later before same in
    record { same = ap (λ (x : IndexWorld). index_happens x event) its.same; copying = its.copying; triples = its.triples }

-- ---- a life
abbrev pub LifeCopies : World → (ℕ → List ℕ) → List Event → Type 0
LifeCopies opening lists events = GoesOn opening.now.shape opening.now.places opening.now.keeper (keeper_events opening events) (seen_by_index opening lists events) (seen_by_copy opening lists events)

first_copies : (opening : World) (lists : ℕ → List ℕ) → IsOpened opening.now.keeper → LifeCopies opening lists []
unfolding copy_run copy_events mapped index_run keeper_events copy_replies copying_after copied_after keeper_run
first_copies opening lists keeper = record {
  same = refl;
  told = record { copying = refl; triples = refl };
  copying = record { now = λ copies. cc; rests = λ c is rests. let wrong : None ≡ Some c = sym keeper.no_commit ∙ is in cc };
}

moved_on : (opening : World) (lists : ℕ → List ℕ) (before : List Event) (event : Event) (own : List KeeperEvent) (w v : CopyWorld)
    → IndexMoved (seen_by_index opening lists (event ∷ before)) w v → GoesOn opening.now.shape opening.now.places opening.now.keeper own (seen_by_index opening lists before) w
    → GoesOn opening.now.shape opening.now.places opening.now.keeper own (seen_by_index opening lists (event ∷ before)) v
moved_on opening lists before event own w v moved its = record {
  same = moved.same;
  told = record { copying = moved.copying ∙ its.told.copying; triples = moved.triples ∙ its.told.triples };
  copying = its.copying;
}

part_on : (opening : World) (lists : ℕ → List ℕ) (before : List Event) (words : List ℕ) (shape : Shape) (p : Places) (s : KeeperState) (own : List KeeperEvent) → index.IsOpened opening lists → (seen_by_index opening lists before).now.words ≡ words
    → (seen_by_index opening lists before).now.places ≡ opening.now.places → shape ≡ opening.now.shape → p ≡ opening.now.places → s ≡ keeper_after opening (keeper_events opening before) → AreReplied shape p words s own → LifeCopies opening lists before
    → GoesOn opening.now.shape opening.now.places opening.now.keeper (own ++ keeper_events opening before) (seen_by_index opening lists before) (copy_run (seen_by_copy opening lists before) (keeper_copies shape p s own))
part_on opening lists before words shape p s own opened same there shapes places keeper replied its =
    rw (shapes, places)
    (own_on opening.now.shape opening.now.places opening.now.keeper s (keeper_events opening before) own (seen_by_index opening lists before) (seen_by_copy opening lists before) there keeper
    (rw same (subst (λ (x : Places). AreReplied opening.now.shape x words s own) places (subst (λ (x : Shape). AreReplied x p words s own) shapes replied))) its)

pub life_copies : (opening : World) (lists : ℕ → List ℕ) (events : List Event) → index.IsOpened opening lists → LifeCopies opening lists events
unfolding copy_events mapped keeper_events
life_copies opening lists [] opened = first_copies opening lists opened.keeper
life_copies opening lists (event ∷ before) opened =
    let w : World = run opening before in
    let own : List KeeperEvent = keeper_part_of w event in
    let copies = keeper_copies w.now.shape w.now.places w.now.keeper own in
    let shows = life_shows opening lists before opened (are_permitted opening lists before opened) in
    let part = part_on opening lists before w.now.words w.now.shape w.now.places w.now.keeper own opened shows.words (shows.places ∙ places_stay opening before)
    (shape_stays opening before) (places_stay opening before) (keeper_runs opening before) (event_replied w event) (life_copies opening lists before opened) in
    let mid : CopyWorld = copy_run (seen_by_copy opening lists before) copies in
    moved_on opening lists before event (own ++ keeper_events opening before) mid _
    (subst (λ (x : CopyWorld). IndexMoved (seen_by_index opening lists (event ∷ before)) mid x) (sym (copies_joined opening lists before w event))
    (index_moved mid (index.opening_index opening lists) (index_events w.now event) (mapped opening before) part.same)) part
  where
    copies_joined : (opening : World) (lists : ℕ → List ℕ) (before : List Event) (w : World) (event : Event)
        → copy_run (opening_copy opening lists) ((map IndexMoves (index_events w.now event) ++ keeper_copies w.now.shape w.now.places w.now.keeper (keeper_part_of w event)) ++ copy_events opening before)
        ≡ copy_run (copy_run (seen_by_copy opening lists before) (keeper_copies w.now.shape w.now.places w.now.keeper (keeper_part_of w event))) (map IndexMoves (index_events w.now event))
    copies_joined opening lists before w event =
        copies_on (opening_copy opening lists) (map IndexMoves (index_events w.now event) ++ keeper_copies w.now.shape w.now.places w.now.keeper (keeper_part_of w event)) (copy_events opening before)
        ∙ copies_on (seen_by_copy opening lists before) (map IndexMoves (index_events w.now event)) (keeper_copies w.now.shape w.now.places w.now.keeper (keeper_part_of w event))

-- ---- the copy that the keeper has, and the one that it writes
ended_step : (base : ℕ) (step : CopyStep) → copy_step_ask base step ≡ Done tt → step ≡ copy.Ended
unfolding copy_step_ask
ended_step base copy.Ended asks = refl
ended_step base (copy.LoadsSlot slot) asks = cc
ended_step base copy.LoadsLink asks = cc

finished_so : (p : Places) (replies : List ℕ) (w : CopyWorld) → IsCopyBy p replies w → copy_ask (copying_after p replies) ≡ Done tt → w.copying.step ≡ copy.Ended
finished_so p replies w its asks = ap (λ (c : Copying). c.step) its.copying ∙ ended_step (copying_after p replies).base (copying_after p replies).step asks

in_hand_so : (p : Places) (replies : List ℕ) (s : KeeperState) (w : CopyWorld) → IsCopyBy p replies w → HasCopied p replies s.copy → HasInHand p s w
in_hand_so p replies s w its has = record { in_hand = rw (its.copying, its.triples) has.in_hand; finished = finished_so p replies w its has.finished }

pub life_keeps : (opening : World) (lists : ℕ → List ℕ) (events : List Event) → index.IsOpened opening lists → KeepsCopy opening.now.places (run opening events).now.keeper (seen_by_copy opening lists events)
life_keeps opening lists events opened c held full copied works early =
    in_hand_so opening.now.places (replies_copied opening (keeper_events opening events)) (run opening events).now.keeper (seen_by_copy opening lists events) (life_copies opening lists events opened).told
    (of_keeper (λ s. HoldsCopy opening.now.places (replies_copied opening (keeper_events opening events)) s) opening events
    (run_holds opening.now.shape opening.now.places opening.now.keeper (keeper_events opening events) opened.keeper) c held full copied works early)

uses_so : (p : Places) (replies : List ℕ) (opening : World) (events : List Event) (s : KeeperState) (w : CopyWorld) (c : Commit) → IsCopyBy p replies w → c.kind ≡ Full → UsesAs c.kind p replies (life_writing opening events) s c
    → IsCheckpointOf s (life_writing opening events) w
uses_so p replies opening events s w c its full uses =
    let own : UsesItsCopy p replies (life_writing opening events) s c = subst (λ (x : CommitKind). UsesAs x p replies (life_writing opening events) s c) full uses in
    record {
      finished = finished_so p replies w its own.finished;
      count = ap (λ (x : Checkpoint). x.triples) own.used ∙ sym (ap (λ (x : List CopiedEntry). length x) its.triples);
      written = own.triples ∙ sym (ap all_bytes its.triples);
    }

pub life_writes : (opening : World) (lists : ℕ → List ℕ) (events : List Event) → index.IsOpened opening lists → WritesCopy (run opening events).now.keeper (life_writing opening events) (seen_by_copy opening lists events)
life_writes opening lists events opened c held full behind =
    let replies : List ℕ = replies_copied opening (keeper_events opening events) in
    let written = of_keeper (λ s. IsBeingWritten opening.now.places replies (begun_last opening (keeper_events opening events)) (life_writing opening events) s) opening events
    (run_used opening.now.shape opening.now.places opening.now.keeper (keeper_events opening events) opened.keeper (to_keeper (λ s. IsBehindWait (come_to s)) opening events behind)) in
    let same : written.commit ≡ c = some_same written.commit c (sym written.in_hand ∙ held) in
    uses_so opening.now.places replies opening events (run opening events).now.keeper (seen_by_copy opening lists events) written.commit (life_copies opening lists events opened).told (ap (λ (x : Commit). x.kind) same ∙ full) written.uses
