-- The keeper copies by its replies: the copy in hand is the one that they tell, and each is a step of the copy beside the life.
use Rattle.std.proofs.Common.{◌≡◌, ℕ, ◌∙◌, List, [], ◌∷◌, ◌++◌, inl, inr, refl, sym, ap, subst, Bool, true, false}
use Rattle.std.specs.Prelude.{Option, Some, None, ⊤}
use Rattle.fkv_base.specs.declared.shapes.Shape.{Shape}
use Rattle.fkv_plane.specs.declared.actions.Action.{Action}
use Rattle.fkv_plane.specs.declared.asks.Ask.{Ask}
use Rattle.fkv_plane.specs.declared.asks.Ask.TheVariants.{Load, Store, Swap, Cas, Add, Max, Put, Take, Done}
use Rattle.fkv_plane.specs.declared.places.Places.{Places}
use Rattle.fkv_plane.specs.Asked.{reply_to}
use Rattle.fkv_plane.specs.Plane.{action_at}
use Rattle.fkv_plane.proofs.Shown.{passed_reply}
use Rattle.law_refine.specs.Below.fkv_checkpoint.Copied.{copying_after, copied_after}
use Rattle.law_refine.specs.Below.fkv_checkpoint.Copying.{Copier, copy_ask}
use Rattle.law_refine.specs.Below.fkv_checkpoint.CopyWorld.{CopyWorld, CopyEvent, copy_happens, copy_run}
use Rattle.fkv_index.specs.IndexWorld.{IndexWorld}
use Rattle.law_refine.specs.Below.fkv_commit.Commit.{Commit}
use Rattle.law_refine.specs.Below.fkv_keeper.KeeperTold.{KeeperTold}
use Rattle.law_refine.specs.Below.fkv_keeper.KeeperTold.TheVariants.{Device}
use Rattle.law_refine.specs.Below.fkv_keeper.TheKeeping.{Keeping}
use Rattle.law_refine.specs.Below.fkv_keeper.TheKeeping.TheVariants.{LoadsPhase, Copies}
use Rattle.law_refine.specs.Below.fkv_keeper.CheckpointLaws.{IsCopyBegun, copy_by, copy_replies, replies_after, CopiesOnce, IsCopyAfter, IsCopyTakenUp}
use Rattle.law_refine.specs.Below.fkv_keeper.Keeping.{KeeperState, copy_asked, copy_driven, copy_ledto, keeper_ask, keeper_next, keeping_ask, keeping_called, keeping_given, keeping_next, turn_over, is_copy_resting, copy_told}
use Rattle.law_refine.specs.Below.fkv_keeper.KeeperRun.{KeeperEvent, BeginsTurn, BeginsCommit, Replies, Gets, Calls, keeper_happens, keeper_run}
use Rattle.law_refine.proofs.Below.fkv_keeper.Shown.{each_move, was_in_hand}
use Rattle.law_refine.specs.Below.fkv_world.Moves.{Near}
use Rattle.law_refine.specs.Below.fkv_world.OwnEvents.{keeper_got, keeper_slots, keeper_steps}
use Rattle.law_refine.proofs.Below.fkv_world.Shown.{keeper_runs_on}
use Rattle.law_commit.specs.Copied.Runs.{IsCopyBy, copy_moves, keeper_copies}

-- ---- the copy in hand
-- where the keeper copies, and where a copy rests for a commit in hand, it has the copy that its replies told
pub record IsCopying (p : Places) (replies : List ℕ) (s : KeeperState) : Type 0 where
  pub now : s.step ≡ Copies → s.copy ≡ Some (copy_by p replies)
  pub rests : (c : Commit) → s.commit ≡ Some c → is_copy_resting s.copy ≡ true → s.copy ≡ Some (copy_by p replies)

ledto_copy : (t : KeeperState) (ask : Ask (Unit {0})) → (copy_ledto t ask).copy ≡ t.copy
unfolding copy_ledto
ledto_copy t (Done its) = refl
ledto_copy t ask = refl

begun_copying : (p : Places) (replies : List ℕ) (s a : KeeperState) (event : KeeperEvent) → IsCopyBegun p s event a → a.copy ≡ Some (copy_by p (replies_after (is_copy_resting s.copy) s.step event a.step replies))
unfolding copying_after copied_after
begun_copying p replies s a event begun = rw (begun.none_rests, begun.loads, begun.loaded, begun.copies) begun.copy

taken_copying : (p : Places) (replies : List ℕ) (s a : KeeperState) (event : KeeperEvent) → a.step ≡ Copies → IsCopyTakenUp s event a → s.copy ≡ Some (copy_by p replies)
    → a.copy ≡ Some (copy_by p (replies_after (is_copy_resting s.copy) s.step event a.step replies))
taken_copying p replies s a event copies taken has = rw (taken.rests, taken.loads, taken.loaded, copies) (taken.copy ∙ has)

still_copying : (shape : Shape) (p : Places) (replies : List ℕ) (s : KeeperState) (event : KeeperEvent) → s.step ≡ Copies → s.copy ≡ Some (copy_by p replies)
    → (keeper_happens shape p s event).copy ≡ Some (copy_by p (replies_after (is_copy_resting s.copy) s.step event (keeper_happens shape p s event).step replies))
unfolding keeper_happens keeping_next keeping_given keeping_called copying_after copied_after
still_copying shape p replies s BeginsTurn e has = rw e has
still_copying shape p replies s (BeginsCommit kind) e has = rw e has
still_copying shape p replies s (Replies reply granted) e has =
    rw e (ledto_copy (record s { copy = copy_driven s.copy reply; step = Copies }) (copy_told (copy_driven s.copy reply)) ∙ ap (λ (x : Option Copier). copy_driven x reply) has)
still_copying shape p replies s (Gets action) e has = rw e has
still_copying shape p replies s (Calls done bytes) e has = rw e has

abbrev IsOther : Keeping → Type 0
IsOther Copies = ⊥
IsOther step = ⊤

not_copies : (step : Keeping) → IsOther step → step ≡ Copies → ⊥
not_copies step other copies = subst IsOther copies other

-- a copy that rests has had no reply meanwhile
same_replies : (rests : Bool) (step : Keeping) (event : KeeperEvent) (after : Keeping) (was : List ℕ) → rests ≡ true → (step ≡ Copies → ⊥) → replies_after rests step event after was ≡ was
same_replies true LoadsPhase (Replies reply granted) Copies was so other = refl
same_replies false LoadsPhase (Replies reply granted) Copies was so other = cc
same_replies rests Copies event after was so other = absurd (other refl)
same_replies rests step event after was so other = refl

pub copying_on : (shape : Shape) (p : Places) (replies : List ℕ) (s : KeeperState) (event : KeeperEvent) → IsCopying p replies s
    → IsCopying p (replies_after (is_copy_resting s.copy) s.step event (keeper_happens shape p s event).step replies) (keeper_happens shape p s event)
copying_on shape p replies s event has = record {
  now = λ copies. elim (move.begins copies) [
    | inl still ↦ still_copying shape p replies s event still (has.now still)
    | inr (inl taken) ↦ taken_copying p replies s a event copies taken (has.rests taken.commit taken.in_hand taken.rests)
    | inr (inr begun) ↦ begun_copying p replies s a event begun
  ];
  rests = λ c is rests. by_step c is rests s.step refl;
}
  where
    a : KeeperState
    a = keeper_happens shape p s event

    move : CopiesOnce p s event a
    move = (each_move shape p s event).copies

    after : List ℕ
    after = replies_after (is_copy_resting s.copy) s.step event a.step replies

    by_copy : (c : Commit) → a.commit ≡ Some c → is_copy_resting a.copy ≡ true → (s.step ≡ Copies → ⊥) → IsCopyAfter p s event a → a.copy ≡ Some (copy_by p after)
    by_copy c is rests other (inl same) =
        let was = was_in_hand p s a event c move is rests in
        let so : is_copy_resting s.copy ≡ true = ap is_copy_resting (sym same) ∙ rests in
        same ∙ (has.rests was.commit was.in_hand so ∙ ap (λ (x : List ℕ). Some (copy_by p x)) (sym (same_replies (is_copy_resting s.copy) s.step event a.step replies so other)))
    by_copy c is rests other (inr (inl none)) = let wrong : false ≡ true = sym (ap is_copy_resting none) ∙ rests in cc
    by_copy c is rests other (inr (inr (inl driven))) = absurd (other driven.copies)
    by_copy c is rests other (inr (inr (inr begun))) = begun_copying p replies s a event begun

    by_step : (c : Commit) → a.commit ≡ Some c → is_copy_resting a.copy ≡ true → (step : Keeping) → s.step ≡ step → a.copy ≡ Some (copy_by p after)
    by_step c is rests Copies at = still_copying shape p replies s event at (has.now at)
    by_step c is rests step at = by_copy c is rests (λ copies. not_copies step tt (sym at ∙ copies)) move.copy

-- what it asks then is what the copy asks
copying_asks : (shape : Shape) (p : Places) (replies : List ℕ) (s : KeeperState) (words : List ℕ) → IsCopying p replies s → s.step ≡ Copies → reply_to words (keeper_ask shape p s) ≡ reply_to words (copy_ask (copying_after p replies))
unfolding keeping_ask
copying_asks shape p replies s words has copies =
    rw copies (passed_reply words (copy_asked s.copy) (turn_over s) ∙ ap (λ (x : Option Copier). reply_to words (copy_asked x)) (has.now copies))

-- ---- the replies of an event of the keeper are those to its asks
abbrev pub IsReplied : Shape → Places → List ℕ → KeeperState → KeeperEvent → Type 0
IsReplied shape p words s (Replies reply granted) = reply ≡ reply_to words (keeper_ask shape p s)
IsReplied shape p words s event = ⊤

abbrev pub AreReplied : Shape → Places → List ℕ → KeeperState → List KeeperEvent → Type 0
AreReplied shape p words s [] = ⊤
AreReplied shape p words s (event ∷ before) = IsReplied shape p words (keeper_run shape p s before) event × AreReplied shape p words s before

got_replied : (shape : Shape) (p : Places) (words : List ℕ) (s : KeeperState) (before : List KeeperEvent) (found : Option Action) → AreReplied shape p words s before → AreReplied shape p words s (keeper_got found ++ before)
got_replied shape p words s before None its = its
got_replied shape p words s before (Some action) its = (tt, its)

slots_replied : (shape : Shape) (p : Places) (words : List ℕ) (actions : List (Option Action)) (granted : Bool) (s : KeeperState) (before : List KeeperEvent) (ask : Ask KeeperTold)
    → keeper_ask shape p (keeper_run shape p s before) ≡ ask → AreReplied shape p words s before → AreReplied shape p words s (keeper_slots actions granted ask ++ before)
unfolding keeper_slots
slots_replied shape p words actions granted s before (Put slot action) asks its = (sym (ap (reply_to words) asks), its)
slots_replied shape p words actions granted s before (Take slot) asks its = got_replied shape p words s before (action_at actions slot) its
slots_replied shape p words actions granted s before ask asks its = its

then_replied : (shape : Shape) (p : Places) (granted : Bool) (n : Near KeeperState) (ask : Ask KeeperTold) → keeper_ask shape p n.machine ≡ ask
    → AreReplied shape p n.words n.machine (keeper_slots n.actions granted (keeper_ask shape p (keeper_next shape p n.machine (reply_to n.words ask) granted)) ++ Replies (reply_to n.words ask) granted ∷ [])
unfolding keeper_run keeper_happens
then_replied shape p granted n ask asks =
    slots_replied shape p n.words n.actions granted n.machine (Replies (reply_to n.words ask) granted ∷ []) (keeper_ask shape p (keeper_next shape p n.machine (reply_to n.words ask) granted)) refl
    (sym (ap (reply_to n.words) asks), tt)

pub steps_replied : (shape : Shape) (p : Places) (granted done : Bool) (read : List ℕ) (n : Near KeeperState) (ask : Ask KeeperTold) → keeper_ask shape p n.machine ≡ ask
    → AreReplied shape p n.words n.machine (keeper_steps shape p granted done read n ask)
unfolding keeper_steps keeper_slots keeper_run
steps_replied shape p granted done read n (Done Device) asks = (tt, tt)
steps_replied shape p granted done read n (Done its) asks = tt
steps_replied shape p granted done read n (Put slot action) asks = (sym (ap (reply_to n.words) asks), tt)
steps_replied shape p granted done read n (Take slot) asks = got_alone (action_at n.actions slot)
  where
    got_alone : (found : Option Action) → AreReplied shape p n.words n.machine (keeper_got found)
    got_alone None = tt
    got_alone (Some action) = (tt, tt)
steps_replied shape p granted done read n (Load place) asks = then_replied shape p granted n (Load place) asks
steps_replied shape p granted done read n (Store place new) asks = then_replied shape p granted n (Store place new) asks
steps_replied shape p granted done read n (Swap place new) asks = then_replied shape p granted n (Swap place new) asks
steps_replied shape p granted done read n (Cas place old new) asks = then_replied shape p granted n (Cas place old new) asks
steps_replied shape p granted done read n (Add place k) asks = then_replied shape p granted n (Add place k) asks
steps_replied shape p granted done read n (Max place k) asks = then_replied shape p granted n (Max place k) asks

-- ---- and each is a step of the copy
pub copies_on : (w : CopyWorld) (later before : List CopyEvent) → copy_run w (later ++ before) ≡ copy_run (copy_run w before) later
unfolding copy_run
copies_on w [] before = refl
copies_on w (event ∷ later) before = ap (λ (x : CopyWorld). copy_happens x event) (copies_on w later before)

one_told : (p : Places) (replies : List ℕ) (w : CopyWorld) (rests : Bool) (step : Keeping) (event : KeeperEvent) (after : Keeping) → w.index.now.places ≡ p → IsCopyBy p replies w
    → ((reply : ℕ) (granted : Bool) → step ≡ Copies → event ≡ Replies reply granted → reply ≡ reply_to w.index.now.words (copy_ask (copying_after p replies)))
    → IsCopyBy p (replies_after rests step event after replies) (copy_run w (copy_moves rests step event after))
unfolding copy_run copy_happens copying_after copied_after
one_told p replies w true LoadsPhase (Replies reply granted) Copies same its asks = its
one_told p replies w false LoadsPhase (Replies reply granted) Copies same its asks = record { copying = rw same refl; triples = refl }
one_told p replies w rests Copies (Replies reply granted) after same its asks =
    let so = asks reply granted refl refl in
    record { copying = rw (same, its.copying, so) refl; triples = rw (its.triples, its.copying, so) refl }
one_told p replies w rests step event after same its asks = its

one_index : (w : CopyWorld) (rests : Bool) (step : Keeping) (event : KeeperEvent) (after : Keeping) → (copy_run w (copy_moves rests step event after)).index ≡ w.index
unfolding copy_run copy_happens
one_index w true LoadsPhase (Replies reply granted) Copies = refl
one_index w false LoadsPhase (Replies reply granted) Copies = refl
one_index w rests Copies (Replies reply granted) after = refl
one_index w rests step event after = refl

-- behind these events of the keeper, after those that were before
pub record GoesOn (shape : Shape) (p : Places) (opening : KeeperState) (own : List KeeperEvent) (index : IndexWorld) (w : CopyWorld) : Type 0 where
  pub same : w.index ≡ index
  pub told : IsCopyBy p (copy_replies shape p opening own) w
  pub copying : IsCopying p (copy_replies shape p opening own) (keeper_run shape p opening own)

replied_so : (shape : Shape) (p : Places) (words replies : List ℕ) (s : KeeperState) (event : KeeperEvent) → IsCopying p replies s → IsReplied shape p words s event
    → (reply : ℕ) (granted : Bool) → s.step ≡ Copies → event ≡ Replies reply granted → reply ≡ reply_to words (copy_ask (copying_after p replies))
replied_so shape p words replies s event has replied reply granted copies is =
    subst (λ (x : KeeperEvent). IsReplied shape p words s x) is replied ∙ copying_asks shape p replies s words has copies

one_on : (shape : Shape) (p : Places) (opening s : KeeperState) (own : List KeeperEvent) (event : KeeperEvent) (index : IndexWorld) (w : CopyWorld) → index.now.places ≡ p → s ≡ keeper_run shape p opening own → IsReplied shape p index.now.words s event
    → GoesOn shape p opening own index w → GoesOn shape p opening (event ∷ own) index (copy_run w (copy_moves (is_copy_resting s.copy) s.step event (keeper_happens shape p s event).step))
unfolding keeper_run copy_replies
one_on shape p opening s own event index w places is replied its =
    let has : IsCopying p (copy_replies shape p opening own) s = subst (λ (x : KeeperState). IsCopying p (copy_replies shape p opening own) x) (sym is) its.copying in
    let a : KeeperState = keeper_happens shape p s event in
    record {
      same = one_index w (is_copy_resting s.copy) s.step event a.step ∙ its.same;
      told = subst (λ (x : KeeperState). IsCopyBy p (replies_after (is_copy_resting x.copy) x.step event (keeper_happens shape p x event).step (copy_replies shape p opening own)) (copy_run w (copy_moves (is_copy_resting s.copy) s.step event a.step))) is
          (one_told p (copy_replies shape p opening own) w (is_copy_resting s.copy) s.step event a.step (ap (λ (x : IndexWorld). x.now.places) its.same ∙ places) its.told
          (subst (λ (x : IndexWorld). (reply : ℕ) (granted : Bool) → s.step ≡ Copies → event ≡ Replies reply granted → reply ≡ reply_to x.now.words (copy_ask (copying_after p (copy_replies shape p opening own)))) (sym its.same)
          (replied_so shape p index.now.words (copy_replies shape p opening own) s event has replied)));
      copying = copying_on shape p (copy_replies shape p opening own) (keeper_run shape p opening own) event its.copying;
    }

joined_on : (shape : Shape) (p : Places) (opening s : KeeperState) (before own : List KeeperEvent) (event : KeeperEvent) (index : IndexWorld) (w : CopyWorld) → index.now.places ≡ p → s ≡ keeper_run shape p opening before
    → IsReplied shape p index.now.words (keeper_run shape p s own) event → GoesOn shape p opening (own ++ before) index w
    → GoesOn shape p opening (event ∷ (own ++ before)) index (copy_run w (copy_moves (is_copy_resting (keeper_run shape p s own).copy) (keeper_run shape p s own).step event (keeper_run shape p s (event ∷ own)).step))
unfolding keeper_run
joined_on shape p opening s before own event index w places is replied its =
    one_on shape p opening (keeper_run shape p s own) (own ++ before) event index w places
    (ap (λ (x : KeeperState). keeper_run shape p x own) is ∙ sym (keeper_runs_on shape p opening own before)) replied its

pub own_on : (shape : Shape) (p : Places) (opening s : KeeperState) (before own : List KeeperEvent) (index : IndexWorld) (w : CopyWorld) → index.now.places ≡ p → s ≡ keeper_run shape p opening before → AreReplied shape p index.now.words s own
    → GoesOn shape p opening before index w → GoesOn shape p opening (own ++ before) index (copy_run w (keeper_copies shape p s own))
unfolding keeper_copies copy_run
own_on shape p opening s before [] index w places is replied its = its
own_on shape p opening s before (event ∷ own) index w places is replied its =
    subst (λ (x : CopyWorld). GoesOn shape p opening (event ∷ (own ++ before)) index x) (sym (copies_on w (copy_moves (is_copy_resting (keeper_run shape p s own).copy) (keeper_run shape p s own).step event (keeper_run shape p s (event ∷ own)).step) (keeper_copies shape p s own)))
    (joined_on shape p opening s before own event index (copy_run w (keeper_copies shape p s own)) places is replied.0 (own_on shape p opening s before own index w places is replied.1 its))
