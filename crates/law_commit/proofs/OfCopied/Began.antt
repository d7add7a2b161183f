-- When the last copy of a life began: the index as it was then, and that what was copied has stood since then.
use Rattle.std.proofs.Common.{◌≡◌, ◌⊎◌, inl, inr, ℕ, ◌∙◌, List, [], ◌∷◌, ◌++◌, refl, ap, subst, Bool, true, false}
use Rattle.std.specs.Prelude.{if◌then◌else◌, map, ⊤}
use Rattle.std.specs.List.{AllByRecursion}
use Rattle.std.proofs.lemmas.List.{append_assoc}
use Rattle.fkv_base.specs.declared.shapes.Shape.{Shape}
use Rattle.fkv_plane.specs.declared.places.Places.{Places}
use Rattle.law_refine.specs.Below.fkv_checkpoint.CopyWorld.{CopyWorld, CopyEvent, CopyBegins, CopyMoves, IndexMoves, copy_happens, copy_run}
use Rattle.law_refine.specs.Below.fkv_checkpoint.Fuzzy.{CopiedHaveStood, HasStood, IsEntryThen, begun_at}
use Rattle.law_refine.specs.Below.fkv_checkpoint.Triples.{CopiedEntry}
use Rattle.fkv_index.specs.IndexWorld.{IndexEvent, IndexWorld, index_run}
use Rattle.law_refine.specs.Below.fkv_keeper.TheKeeping.{Keeping}
use Rattle.law_refine.specs.Below.fkv_keeper.TheKeeping.TheVariants.{LoadsPhase, Copies}
use Rattle.law_refine.specs.Below.fkv_keeper.Keeping.{KeeperState, is_copy_resting}
use Rattle.law_refine.specs.Below.fkv_keeper.KeeperRun.{KeeperEvent, Replies, keeper_run}
use Rattle.law_refine.specs.Below.fkv_world.OwnEvents.{keeper_part_of}
use Rattle.law_refine.specs.Below.fkv_world.Runs.{World, run}
use Rattle.law_refine.specs.Below.fkv_world.World.{Event}
use Rattle.law_refine.specs.Index.IndexEvents.{index_events, mapped}
use Rattle.law_refine.specs.Index.Shows as index
use Rattle.law_refine.specs.Index.Shows.{seen_by_index}
use Rattle.law_commit.specs.Copied.Covers.{HasStoodSince, before_copy, begins_at, begins_copy}
use Rattle.law_commit.specs.Copied.Runs.{copy_events, copy_moves, keeper_copies, opening_copy, seen_by_copy}
use Rattle.law_commit.proofs.OfCopied.Lives.{life_copies}

-- ---- the index moves
begun_moved : (o : CopyWorld) (later : List IndexEvent) (before : List CopyEvent) → begun_at o (map IndexMoves later ++ before) ≡ begun_at o before
unfolding begun_at
begun_moved o [] before = refl
begun_moved o (event ∷ later) before = begun_moved o later before

stood_moved : (o : CopyWorld) (e : CopiedEntry) (later : List IndexEvent) (before : List CopyEvent) → HasStood o (map IndexMoves later ++ before) e → HasStood o before e
stood_moved o e [] before stood = stood
stood_moved o e (event ∷ later) before stood = stood_moved o e later before stood

-- ---- the keeper's part, by which the index doesn't
abbrev AreOwn : List CopyEvent → Type 0
AreOwn [] = ⊤
AreOwn (IndexMoves event ∷ before) = ⊥
AreOwn (event ∷ before) = AreOwn before

move_own : (rests : Bool) (step : Keeping) (event : KeeperEvent) (after : Keeping) (before : List CopyEvent) → AreOwn before → AreOwn (copy_moves rests step event after ++ before)
move_own true LoadsPhase (Replies reply granted) Copies before own = own
move_own false LoadsPhase (Replies reply granted) Copies before own = own
move_own rests Copies (Replies reply granted) after before own = own
move_own rests step event after before own = own

keeper_own : (shape : Shape) (p : Places) (s : KeeperState) (events : List KeeperEvent) → AreOwn (keeper_copies shape p s events)
unfolding keeper_copies
keeper_own shape p s [] = tt
keeper_own shape p s (event ∷ before) = move_own (is_copy_resting (keeper_run shape p s before).copy) (keeper_run shape p s before).step event (keeper_run shape p s (event ∷ before)).step (keeper_copies shape p s before) (keeper_own shape p s before)

own_index : (o : CopyWorld) (own before : List CopyEvent) → AreOwn own → (copy_run o (own ++ before)).index ≡ (copy_run o before).index
unfolding copy_run copy_happens
own_index o [] before its = refl
own_index o (CopyBegins ∷ own) before its = own_index o own before its
own_index o (CopyMoves ∷ own) before its = own_index o own before its
own_index o (IndexMoves event ∷ own) before its = absurd its

own_begun : (o : CopyWorld) (own before : List CopyEvent) → AreOwn own → begun_at o (own ++ before) ≡ (if begins_copy own then (copy_run o before).index else begun_at o before)
unfolding begun_at
own_begun o [] before its = refl
own_begun o (CopyBegins ∷ own) before its = own_index o own before its
own_begun o (CopyMoves ∷ own) before its = own_begun o own before its
own_begun o (IndexMoves event ∷ own) before its = absurd its

own_stood : (o : CopyWorld) (e : CopiedEntry) (own before : List CopyEvent) → AreOwn own → HasStood o (own ++ before) e → IsEntryThen (copy_run o before).index e ⊎ ((begins_copy own ≡ false) × HasStood o before e)
own_stood o e [] before its stood = inr (refl, stood)
own_stood o e (CopyBegins ∷ own) before its stood = absurd stood
own_stood o e (CopyMoves ∷ own) before its (inl then_so) = inl (subst (λ (x : IndexWorld). IsEntryThen x e) (own_index o own before its) then_so)
own_stood o e (CopyMoves ∷ own) before its (inr stood) = own_stood o e own before its stood
own_stood o e (IndexMoves event ∷ own) before its stood = absurd its

-- ---- a life
own_copies : World → Event → List CopyEvent
own_copies w event = keeper_copies w.now.shape w.now.places w.now.keeper (keeper_part_of w event)

joined : (opening : World) (before : List Event) (event : Event)
    → copy_events opening (event ∷ before) ≡ map IndexMoves (index_events (run opening before).now event) ++ (own_copies (run opening before) event ++ copy_events opening before)
unfolding copy_events own_copies
joined opening before event = append_assoc (map IndexMoves (index_events (run opening before).now event)) (own_copies (run opening before) event) (copy_events opening before)

pub life_begun : (opening : World) (lists : ℕ → List ℕ) (events : List Event) → index.IsOpened opening lists → begun_at (opening_copy opening lists) (copy_events opening events) ≡ seen_by_index opening lists (before_copy opening events)
unfolding begun_at copy_events mapped index_run before_copy own_copies
life_begun opening lists [] opened = refl
life_begun opening lists (event ∷ before) opened =
    let o : CopyWorld = opening_copy opening lists in
    let own : List CopyEvent = own_copies (run opening before) event in
    ap (begun_at o) (joined opening before event) ∙ begun_moved o (index_events (run opening before).now event) (own ++ copy_events opening before)
    ∙ own_begun o own (copy_events opening before) (keeper_own (run opening before).now.shape (run opening before).now.places (run opening before).now.keeper (keeper_part_of (run opening before) event))
    ∙ by_test (begins_copy own) (life_begun opening lists before opened)
  where
    by_test : (b : Bool) → begun_at (opening_copy opening lists) (copy_events opening before) ≡ seen_by_index opening lists (before_copy opening before) → (if b then (copy_run (opening_copy opening lists) (copy_events opening before)).index else begun_at (opening_copy opening lists) (copy_events opening before))
        ≡ seen_by_index opening lists (if b then before else before_copy opening before)
    by_test true was = (life_copies opening lists before opened).same
    by_test false was = was

-- the life since its last copy began
pub record Since (events first : List Event) : Type 0 where
  pub later : List Event
  pub split : events ≡ later ++ first

pub since_copy : (opening : World) (events : List Event) → Since events (before_copy opening events)
unfolding before_copy
since_copy opening [] = record { later = []; split = refl }
since_copy opening (event ∷ before) = by_test (begins_at (run opening before) event) (since_copy opening before)
  where
    by_test : (b : Bool) → Since before (before_copy opening before) → Since (event ∷ before) (if b then before else before_copy opening before)
    by_test true its = record { later = event ∷ []; split = refl }
    by_test false its = record { later = event ∷ its.later; split = ap (λ (x : List Event). event ∷ x) its.split }

stood_now : (opening : World) (lists : ℕ → List ℕ) (before : List Event) (event : Event) (e : CopiedEntry) → IsEntryThen (seen_by_index opening lists before) e → HasStoodSince opening lists (event ∷ before) e
unfolding before_copy
stood_now opening lists before event e stood = let its = by_test (begins_at (run opening before) event) in record { moment = before; later = event ∷ []; split = refl; between = its.later; since = its.split; stood = stood }
  where
    by_test : (b : Bool) → Since before (if b then before else before_copy opening before)
    by_test true = record { later = []; split = refl }
    by_test false = since_copy opening before

stood_before : (opening : World) (lists : ℕ → List ℕ) (before : List Event) (event : Event) (e : CopiedEntry) → begins_at (run opening before) event ≡ false → HasStoodSince opening lists before e → HasStoodSince opening lists (event ∷ before) e
unfolding before_copy
stood_before opening lists before event e none its = record {
  moment = its.moment;
  later = event ∷ its.later;
  split = ap (λ (x : List Event). event ∷ x) its.split;
  between = its.between;
  since = rw none its.since;
  stood = its.stood;
}

life_stood : (opening : World) (lists : ℕ → List ℕ) (events : List Event) (e : CopiedEntry) → index.IsOpened opening lists → HasStood (opening_copy opening lists) (copy_events opening events) e → HasStoodSince opening lists events e
unfolding copy_events own_copies
life_stood opening lists [] e opened stood = absurd stood
life_stood opening lists (event ∷ before) e opened stood =
    let o : CopyWorld = opening_copy opening lists in
    let own : List CopyEvent = own_copies (run opening before) event in
    elim (own_stood o e own (copy_events opening before) (keeper_own (run opening before).now.shape (run opening before).now.places (run opening before).now.keeper (keeper_part_of (run opening before) event))
    (stood_moved o e (index_events (run opening before).now event) (own ++ copy_events opening before) (subst (λ (x : List CopyEvent). HasStood o x e) (joined opening before event) stood))) [
      | inl then_so ↦ stood_now opening lists before event e (subst (λ (x : IndexWorld). IsEntryThen x e) (life_copies opening lists before opened).same then_so)
      | inr earlier ↦ stood_before opening lists before event e earlier.0 (life_stood opening lists before e opened earlier.1)
    ]

pub all_of : {P Q : CopiedEntry → Type 0} (triples : List CopiedEntry) → ((e : CopiedEntry) → P e → Q e) → AllByRecursion P triples → AllByRecursion Q triples
all_of [] each its = tt
all_of (e ∷ rest) each its = (each e its.0, all_of rest each its.1)

pub life_since : (opening : World) (lists : ℕ → List ℕ) (events : List Event) → index.IsOpened opening lists → CopiedHaveStood (opening_copy opening lists) (copy_events opening events)
    → AllByRecursion (HasStoodSince opening lists events) (seen_by_copy opening lists events).triples
life_since opening lists events opened stood = all_of (seen_by_copy opening lists events).triples (λ e its. life_stood opening lists events e opened its) stood
