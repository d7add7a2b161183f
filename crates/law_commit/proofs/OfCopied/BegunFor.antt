-- The copy of a full commit that counts as copied began for that commit, in a phase in which the index is copied.
use Rattle.std.proofs.Common.{◌≡◌, inl, inr, ℕ, ◌∙◌, List, [], ◌∷◌, ◌++◌, refl, sym, ap, subst, Bool, true, false}
use Rattle.std.specs.Prelude.{if◌then◌else◌, Option, Some, None}
use Rattle.fkv_base.specs.declared.shapes.Shape.{Shape}
use Rattle.fkv_words.specs.PhaseWords.{phase_said}
use Rattle.fkv_plane.specs.declared.actions.Action.{Action}
use Rattle.fkv_plane.specs.declared.asks.Ask.{Ask}
use Rattle.fkv_plane.specs.declared.asks.Ask.TheVariants.{Put, Take, Done}
use Rattle.fkv_plane.specs.declared.places.Places.{Places}
use Rattle.fkv_plane.specs.Asked.{reply_to}
use Rattle.fkv_plane.specs.Plane.{action_at}
use Rattle.law_refine.specs.Below.fkv_commit.Commit.{Commit}
use Rattle.fkv_base.specs.declared.commits.CommitKind.TheVariants.{Full}
use Rattle.law_refine.specs.Below.fkv_checkpoint.CopyWorld.{CopyEvent, CopyBegins, CopyMoves, IndexMoves}
use Rattle.law_refine.specs.Below.fkv_keeper.KeeperTold.{KeeperTold}
use Rattle.law_refine.specs.Below.fkv_keeper.KeeperTold.TheVariants.{Device}
use Rattle.law_refine.specs.Below.fkv_keeper.TheKeeping.{Keeping}
use Rattle.law_refine.specs.Below.fkv_keeper.TheKeeping.TheVariants.{LoadsPhase, Copies}
use Rattle.law_refine.specs.Below.fkv_keeper.CheckpointLaws.{IsCopyBegun, IsCopyPhase, CopiesOnce, IsCopyAfter}
use Rattle.law_refine.specs.Below.fkv_keeper.Keeping.{KeeperState, keeper_ask, keeper_next, keeping_ask, is_copy_resting}
use Rattle.law_refine.specs.Below.fkv_keeper.KeeperRun.{IsOpened, KeeperEvent, Replies, Gets, Calls, BeginsTurn, BeginsCommit, keeper_happens, keeper_run}
use Rattle.law_refine.proofs.Below.fkv_keeper.Shown.{each_move, WasInHand, was_in_hand}
use Rattle.law_refine.specs.Below.fkv_world.Moves.{Near}
use Rattle.law_refine.specs.Below.fkv_world.OwnEvents.{keeper_got, keeper_part, keeper_part_of, keeper_slots, keeper_steps}
use Rattle.law_refine.specs.Below.fkv_world.Runs.{World, read_by_keeper, run}
use Rattle.law_refine.specs.Below.fkv_world.World.{Event, Calls as CallsOf, Moves, Commits, Turns, KeeperMoves, Crashes, Now, near}
use Rattle.law_refine.proofs.Below.fkv_world.Shown.{happens_keeper}
use Rattle.law_commit.specs.Copied.Covers.{HasBegunFor, MayBeCopied, before_copy, begins_at, begins_copy}
use Rattle.law_commit.specs.Copied.Runs.{copy_moves, keeper_copies}
use Rattle.law_commit.specs.PhaseStores.{phase_at}
use Rattle.law_commit.proofs.OfCopied.Commits.{begun_commit, event_copied, some_same, still_same}
use Rattle.law_commit.proofs.OfCopied.Keepers.{AreReplied, IsReplied}
use Rattle.law_commit.proofs.OfCopied.Lives.{event_replied}

-- what a keeper's commit has of the moment when the last copy began
record HasBegun (b : Now) (s : KeeperState) : Type 0 where
  pub copying : (c : Commit) → s.step ≡ Copies → s.commit ≡ Some c → MayBeCopied b c
  pub rests : (c : Commit) → is_copy_resting s.copy ≡ true → s.commit ≡ Some c → MayBeCopied b c
  pub copied : (c : Commit) → s.commit ≡ Some c → c.kind ≡ Full → c.is_copied ≡ true → MayBeCopied b c

-- ---- an event by which none begins
same_for : (b : Now) (one other : Commit) → one.number ≡ other.number → one.kind ≡ other.kind → one.first ≡ other.first → MayBeCopied b one → MayBeCopied b other
same_for b one other number kind first its = record {
  loads = its.loads;
  phase = its.phase;
  commit = its.commit;
  in_hand = its.in_hand;
  not_copied = its.not_copied;
  number = its.number ∙ number;
  kind = its.kind ∙ kind;
  first = its.first ∙ first;
}

-- none begins where the keeper copies on, or takes up the copy that rests
record BeginsSo (rests : Bool) (step after : Keeping) : Type 0 where
  loads : step ≡ LoadsPhase
  to_copy : after ≡ Copies
  none : rests ≡ false

begins_so : (rests : Bool) (step : Keeping) (event : KeeperEvent) (after : Keeping) → begins_copy (copy_moves rests step event after) ≡ true → BeginsSo rests step after
begins_so true LoadsPhase (Replies reply granted) Copies so = cc
begins_so false LoadsPhase (Replies reply granted) Copies so = record { loads = refl; to_copy = refl; none = refl }
begins_so rests Copies (Replies reply granted) after so = cc
begins_so rests step event after so = cc

begun_there : (p : Places) (s : KeeperState) (event : KeeperEvent) (a : KeeperState) → IsCopyBegun p s event a → begins_copy (copy_moves (is_copy_resting s.copy) s.step event a.step) ≡ true
begun_there p s event a begun = rw (begun.none_rests, begun.loads, begun.loaded, begun.copies) refl

never_begun : {X : Type 0} (p : Places) (s : KeeperState) (event : KeeperEvent) (a : KeeperState) → begins_copy (copy_moves (is_copy_resting s.copy) s.step event a.step) ≡ false → IsCopyBegun p s event a → X
never_begun p s event a none begun = let never : false ≡ true = sym none ∙ begun_there p s event a begun in cc

goes_on : (shape : Shape) (p : Places) (b : Now) (s : KeeperState) (event : KeeperEvent) → begins_copy (copy_moves (is_copy_resting s.copy) s.step event (keeper_happens shape p s event).step) ≡ false → HasBegun b s → HasBegun b (keeper_happens shape p s event)
goes_on shape p b s event none its = record {
  copying = λ c at is. elim (move.begins at) [
    | inl still ↦ its.copying c still (sym (still_same shape p s event still at) ∙ is)
    | inr (inl taken) ↦ its.rests c taken.rests (sym (begun_commit shape p s event taken.reply taken.granted taken.loads taken.loaded) ∙ is)
    | inr (inr begun) ↦ never_begun p s event a none begun
  ];
  rests = λ c rests is. by_copy c rests (was_in_hand p s a event c move is rests) move.copy;
  copied = λ c is full is_copied.
      let was = event_copied shape p s event c is full is_copied in
      same_for b was.commit c was.number was.kind was.first (elim was.so [
        | inl already ↦ its.copied was.commit was.in_hand (was.kind ∙ full) already
        | inr at ↦ its.copying was.commit at was.in_hand
      ]);
}
  where
    a : KeeperState
    a = keeper_happens shape p s event

    move : CopiesOnce p s event a
    move = (each_move shape p s event).copies

    by_copy : (c : Commit) → is_copy_resting a.copy ≡ true → WasInHand s c → IsCopyAfter p s event a → MayBeCopied b c
    by_copy c rests was (inl same) = same_for b was.commit c was.number was.kind was.first (its.rests was.commit (ap is_copy_resting (sym same) ∙ rests) was.in_hand)
    by_copy c rests was (inr (inl none)) = let wrong : false ≡ true = sym (ap is_copy_resting none) ∙ rests in cc
    by_copy c rests was (inr (inr (inl driven))) = same_for b was.commit c was.number was.kind was.first (its.copying was.commit driven.copies was.in_hand)
    by_copy c rests was (inr (inr (inr begun))) = never_begun p s event a none begun

-- ---- one by which one begins
loads_word : (shape : Shape) (p : Places) (words : List ℕ) (s : KeeperState) → s.step ≡ LoadsPhase → reply_to words (keeper_ask shape p s) ≡ reply_to words (keeping_ask shape p s LoadsPhase)
loads_word shape p words s at = ap (λ (step : Keeping). reply_to words (keeping_ask shape p s step)) at

phase_loaded : (shape : Shape) (p : Places) (n : Now) (s : KeeperState) (event : KeeperEvent) (reply : ℕ) → s.step ≡ LoadsPhase → event ≡ Replies reply true → IsReplied shape p n.words s event → reply ≡ phase_at n
unfolding keeping_ask
phase_loaded shape p n s event reply at is replied = subst (λ (x : KeeperEvent). IsReplied shape p n.words s x) is replied ∙ loads_word shape p n.words s at

begins : (shape : Shape) (p : Places) (n : Now) (s : KeeperState) (event : KeeperEvent) → n.keeper ≡ s → IsReplied shape p n.words s event → IsCopyBegun p s event (keeper_happens shape p s event) → HasBegun n (keeper_happens shape p s event)
begins shape p n s event here replied its =
    let same = begun_commit shape p s event its.reply true its.loads its.loaded in
    record {
      copying = λ c at is. may c (some_same its.commit c (sym its.in_hand ∙ (sym same ∙ is)));
      rests = λ c rests is. may c (some_same its.commit c (sym its.in_hand ∙ (sym same ∙ is)));
      copied = λ c is full is_copied.
          let one : its.commit ≡ c = some_same its.commit c (sym its.in_hand ∙ (sym same ∙ is)) in
          let never : false ≡ true = sym its.not_copied ∙ (ap (λ (x : Commit). x.is_copied) one ∙ is_copied) in cc;
    }
  where
    may : (c : Commit) → its.commit ≡ c → MayBeCopied n c
    may c one = record {
      loads = ap (λ (x : KeeperState). x.step) here ∙ its.loads;
      phase = subst (λ (x : ℕ). IsCopyPhase (phase_said x)) (phase_loaded shape p n s event its.reply its.loads its.loaded replied) its.phase;
      commit = its.commit;
      in_hand = ap (λ (x : KeeperState). x.commit) here ∙ its.in_hand;
      not_copied = its.not_copied;
      number = ap (λ (x : Commit). x.number) one;
      kind = ap (λ (x : Commit). x.kind) one;
      first = ap (λ (x : Commit). x.first) one;
    }

-- ---- either
one_begun : (shape : Shape) (p : Places) (b n : Now) (s : KeeperState) (event : KeeperEvent) (so : Bool) → begins_copy (copy_moves (is_copy_resting s.copy) s.step event (keeper_happens shape p s event).step) ≡ so → n.keeper ≡ s
    → IsReplied shape p n.words s event → HasBegun b s → HasBegun (if so then n else b) (keeper_happens shape p s event)
one_begun shape p b n s event true so here replied its =
    let how = begins_so (is_copy_resting s.copy) s.step event (keeper_happens shape p s event).step so in
    elim ((each_move shape p s event).copies.begins how.to_copy) [
      | inl still ↦ (let never : LoadsPhase ≡ Copies = sym how.loads ∙ still in cc)
      | inr (inl taken) ↦ (let never : false ≡ true = sym how.none ∙ taken.rests in cc)
      | inr (inr begun) ↦ begins shape p n s event here replied begun
    ]
one_begun shape p b n s event false so here replied its = goes_on shape p b s event so its

-- ---- the events that a step is: one, and none begins by one that goes with it
data OwnShape (shape : Shape) (p : Places) (s : KeeperState) (own : List KeeperEvent) : Type 0 where
  NoneOwn : own ≡ [] → OwnShape shape p s own
  OneOwn : (event : KeeperEvent) → own ≡ event ∷ [] → OwnShape shape p s own
  TwoOwn : (later event : KeeperEvent) → own ≡ later ∷ event ∷ [] → ((after : Keeping) → begins_copy (copy_moves (is_copy_resting (keeper_happens shape p s event).copy) (keeper_happens shape p s event).step later after) ≡ false) → OwnShape shape p s own

put_none : (shape : Shape) (p : Places) (s : KeeperState) (rests : Bool) (step after : Keeping) (granted : Bool) (slot : ℕ) (action : Action) → keeping_ask shape p s step ≡ Put slot action → begins_copy (copy_moves rests step (Replies 0 granted) after) ≡ false
unfolding keeping_ask
put_none shape p s rests LoadsPhase after granted slot action asks = cc
put_none shape p s rests Copies after granted slot action asks = refl
put_none shape p s rests step after granted slot action asks = refl

gets_none : (rests : Bool) (step after : Keeping) (action : Action) → begins_copy (copy_moves rests step (Gets action) after) ≡ false
gets_none rests LoadsPhase after action = refl
gets_none rests Copies after action = refl
gets_none rests step after action = refl

slots_shape : (shape : Shape) (p : Places) (actions : List (Option Action)) (granted : Bool) (s : KeeperState) (event : KeeperEvent) (ask : Ask KeeperTold) → keeper_ask shape p (keeper_happens shape p s event) ≡ ask
    → OwnShape shape p s (keeper_slots actions granted ask ++ event ∷ [])
unfolding keeper_slots
slots_shape shape p actions granted s event (Put slot action) asks =
    TwoOwn (Replies 0 granted) event refl (λ after. put_none shape p (keeper_happens shape p s event) (is_copy_resting (keeper_happens shape p s event).copy) (keeper_happens shape p s event).step after granted slot action asks)
slots_shape shape p actions granted s event (Take slot) asks = by_found (action_at actions slot)
  where
    by_found : (found : Option Action) → OwnShape shape p s (keeper_got found ++ event ∷ [])
    by_found None = OneOwn event refl
    by_found (Some action) = TwoOwn (Gets action) event refl (λ after. gets_none (is_copy_resting (keeper_happens shape p s event).copy) (keeper_happens shape p s event).step after action)
slots_shape shape p actions granted s event ask asks = OneOwn event refl

then_shape : (shape : Shape) (p : Places) (granted : Bool) (n : Near KeeperState) (reply : ℕ) → OwnShape shape p n.machine (keeper_slots n.actions granted (keeper_ask shape p (keeper_next shape p n.machine reply granted)) ++ Replies reply granted ∷ [])
unfolding keeper_happens
then_shape shape p granted n reply = slots_shape shape p n.actions granted n.machine (Replies reply granted) (keeper_ask shape p (keeper_next shape p n.machine reply granted)) refl

got_shape : (shape : Shape) (p : Places) (s : KeeperState) (found : Option Action) → OwnShape shape p s (keeper_got found)
got_shape shape p s None = NoneOwn refl
got_shape shape p s (Some action) = OneOwn (Gets action) refl

steps_shape : (shape : Shape) (p : Places) (granted done : Bool) (read : List ℕ) (n : Near KeeperState) (ask : Ask KeeperTold) → OwnShape shape p n.machine (keeper_steps shape p granted done read n ask)
unfolding keeper_steps keeper_slots
steps_shape shape p granted done read n (Done Device) = OneOwn (Calls done read) refl
steps_shape shape p granted done read n (Done its) = NoneOwn refl
steps_shape shape p granted done read n (Put slot action) = OneOwn (Replies 0 granted) refl
steps_shape shape p granted done read n (Take slot) = got_shape shape p n.machine (action_at n.actions slot)
steps_shape shape p granted done read n ask = then_shape shape p granted n (reply_to n.words ask)

part_shape : (w : World) (event : Event) → OwnShape w.now.shape w.now.places w.now.keeper (keeper_part w.now.shape w.now.places (read_by_keeper w) (near w.now w.now.keeper) event)
unfolding keeper_part
part_shape w (CallsOf number call) = NoneOwn refl
part_shape w (Moves number) = NoneOwn refl
part_shape w (Commits kind) = OneOwn (BeginsCommit kind) refl
part_shape w Turns = OneOwn BeginsTurn refl
part_shape w (KeeperMoves granted done) = steps_shape w.now.shape w.now.places granted done (read_by_keeper w) (near w.now w.now.keeper) (keeper_ask w.now.shape w.now.places w.now.keeper)
part_shape w Crashes = NoneOwn refl

event_shape : (w : World) (event : Event) → OwnShape w.now.shape w.now.places w.now.keeper (keeper_part_of w event)
event_shape w event = by_crash w.now.crashed
  where
    by_crash : (over : Bool) → OwnShape w.now.shape w.now.places w.now.keeper (if over then [] else keeper_part w.now.shape w.now.places (read_by_keeper w) (near w.now w.now.keeper) event)
    by_crash true = NoneOwn refl
    by_crash false = part_shape w event

-- ---- and so over them
joined_none : (later before : List CopyEvent) → begins_copy later ≡ false → begins_copy (later ++ before) ≡ begins_copy before
joined_none [] before none = refl
joined_none (CopyBegins ∷ later) before none = cc
joined_none (CopyMoves ∷ later) before none = joined_none later before none
joined_none (IndexMoves event ∷ later) before none = joined_none later before none

joined_nil : (events : List CopyEvent) → begins_copy (events ++ []) ≡ begins_copy events
joined_nil [] = refl
joined_nil (CopyBegins ∷ events) = refl
joined_nil (CopyMoves ∷ events) = joined_nil events
joined_nil (IndexMoves event ∷ events) = joined_nil events

HasBegunBy : Shape → Places → Now → Now → KeeperState → List KeeperEvent → Type 0
HasBegunBy shape p b n s own = HasBegun (if begins_copy (keeper_copies shape p s own) then n else b) (keeper_run shape p s own)

single : (shape : Shape) (p : Places) (b n : Now) (s : KeeperState) (event : KeeperEvent) → n.keeper ≡ s → IsReplied shape p n.words s event → HasBegun b s
    → HasBegun (if begins_copy (copy_moves (is_copy_resting s.copy) s.step event (keeper_happens shape p s event).step ++ []) then n else b) (keeper_happens shape p s event)
single shape p b n s event here replied its =
    rw (joined_nil (copy_moves (is_copy_resting s.copy) s.step event (keeper_happens shape p s event).step)) (one_begun shape p b n s event (begins_copy (copy_moves (is_copy_resting s.copy) s.step event (keeper_happens shape p s event).step)) refl here replied its)

own_begun : (shape : Shape) (p : Places) (b n : Now) (s : KeeperState) (own : List KeeperEvent) → n.keeper ≡ s → AreReplied shape p n.words s own → HasBegun b s → OwnShape shape p s own → HasBegunBy shape p b n s own
unfolding HasBegunBy keeper_copies keeper_run
own_begun shape p b n s own here replied its (NoneOwn is) = rw is its
own_begun shape p b n s own here replied its (OneOwn event is) =
    subst (HasBegunBy shape p b n s) (sym is) (single shape p b n s event here (subst (AreReplied shape p n.words s) is replied).0 its)
own_begun shape p b n s own here replied its (TwoOwn later event is none) =
    let a : KeeperState = keeper_happens shape p s event in
    let first = single shape p b n s event here (subst (AreReplied shape p n.words s) is replied).1.0 its in
    subst (HasBegunBy shape p b n s) (sym is)
    (rw (joined_none (copy_moves (is_copy_resting a.copy) a.step later (keeper_happens shape p a later).step) (copy_moves (is_copy_resting s.copy) s.step event a.step ++ []) (none (keeper_happens shape p a later).step))
    (goes_on shape p _ a later (none (keeper_happens shape p a later).step) first))

-- ---- a life
none_begun : (b : Now) (s : KeeperState) → s.commit ≡ None → HasBegun b s
none_begun b s none = record {
  copying = λ c at is. never c is;
  rests = λ c rests is. never c is;
  copied = λ c is full is_copied. never c is;
}
  where
    never : {X : Type 0} (c : Commit) → s.commit ≡ Some c → X
    never c is = let wrong : None ≡ Some c = sym none ∙ is in cc

now_of : (opening : World) (later before : List Event) (so : Bool) → (run opening (if so then later else before)).now ≡ (if so then (run opening later).now else (run opening before).now)
now_of opening later before true = refl
now_of opening later before false = refl

life_has_begun : (opening : World) (events : List Event) → IsOpened opening.now.keeper → HasBegun (run opening (before_copy opening events)).now (run opening events).now.keeper
unfolding run before_copy HasBegunBy
life_has_begun opening [] opened = none_begun opening.now opening.now.keeper opened.no_commit
life_has_begun opening (event ∷ before) opened =
    let w : World = run opening before in
    let b : Now = (run opening (before_copy opening before)).now in
    subst (HasBegun (run opening (if begins_at w event then before else before_copy opening before)).now) (sym (happens_keeper w event))
    (subst (λ (n : Now). HasBegun n (keeper_run w.now.shape w.now.places w.now.keeper (keeper_part_of w event))) (sym (now_of opening before (before_copy opening before) (begins_at w event)))
    (own_begun w.now.shape w.now.places b w.now w.now.keeper (keeper_part_of w event) refl (event_replied w event) (life_has_begun opening before opened) (event_shape w event)))

pub life_begun_for : (opening : World) (events : List Event) → IsOpened opening.now.keeper → HasBegunFor opening events
life_begun_for opening events opened c is full is_copied = (life_has_begun opening events opened).copied c is full is_copied
