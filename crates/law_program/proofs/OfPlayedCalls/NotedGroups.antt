-- A player notes a life by each group of calls, and by each finish.
use Rattle.std.proofs.Common.{◌≡◌, ◌≢◌, ◌∙◌, ◌⊎◌, ◌≤◌, ◌<◌, ◌+◌, ℕ, zero, suc, List, [], ◌∷◌, ◌++◌, Bool, true, false, ap, append_assoc, arith, cond, inl, inr, length, map, refl, replicate, sym, subst, take}
use Rattle.std.specs.Prelude.{⊤, Option, Some, None, filter, slice_get, slice_set}
use Rattle.std.proofs.lemmas.Bool.Decides.{nat_tests}
use Rattle.fkv_base.specs.declared.phases.Phase.{Phase}
use Rattle.fkv_base.specs.declared.phases.Phase.TheVariants as phase
use Rattle.law_order.specs.Below.fkv_core.Worlds.{WorldModel}
use Rattle.law_order.specs.Below.fkv_core.Event as events
use Rattle.law_order.specs.Below.fkv_core.TheTold as tells
use Rattle.fkv_epoch.proofs.Shown.{item_spared, item_written, none_some, same_or, some_same}
use Rattle.fkv_map.specs.declared.history.HistoryEntry.{HistoryEntry}
use Rattle.law_order.specs.Below.fkv_opening.TheOpened.{Opened}
use Rattle.fkv_runs.specs.Below.fkv_playing.Beats.{IsBeat}
use Rattle.fkv_runs.specs.Below.fkv_playing.Finishes.{IsFinishIn, IsPlayedAlone, most_rounds, round_of, rounds}
use Rattle.fkv_runs.specs.Below.fkv_playing.Groups.{GroupState, IsBeatOf, IsPick, missing_session, queues_behind}
use Rattle.fkv_runs.specs.Below.fkv_playing.InTurn.{InTurn}
use Rattle.fkv_runs.specs.Below.fkv_playing.Players.{PlayerState}
use Rattle.fkv_runs.specs.Below.fkv_playing.Queues.{NobodyHasSteps, QueueState, given_up, held, held_by, is_of, queue_behind, rank_of, step_of}
use Rattle.fkv_runs.specs.Below.fkv_playing.Texts.{phase_shown}
use Rattle.fkv_runs.specs.Below.fkv_playing.ActorCall.{ActorCall}
use Rattle.fkv_runs.specs.Below.fkv_playing.ActorCall.TheVariants.{Commit, Session, Trim, Turn}
use Rattle.fkv_runs.specs.Below.fkv_playing.Outcome.{Outcome}
use Rattle.fkv_runs.specs.Below.fkv_playing.Outcome.TheVariants.{Answered, GoesOn}
use Rattle.fkv_runs.specs.Below.fkv_playing.Stage.{Stage}
use Rattle.fkv_runs.specs.Below.fkv_playing.Stage.TheVariants as stage
use Rattle.fkv_runs.specs.Below.fkv_playing.Telling.{Telling}
use Rattle.fkv_runs.specs.Below.fkv_playing.Telling.TheVariants.{Finished, Whole}
use Rattle.law_order.specs.Below.fkv_world.World.{Event, Now}
use Rattle.law_answers.specs.Effects.Laws.{EventsTellTheirEffects}
use Rattle.law_order.specs.Below.law_opening.Lives.Laws.{GuardOpens}
use Rattle.law_order.specs.Tickets.Few.{calls_in}
use Rattle.law_program.specs.PlayedCalls.EachLine.{IsUnswept, ItsNumbersFit}
use Rattle.law_program.specs.PlayedCalls.FewCalls.{left_in}
use Rattle.law_program.specs.PlayedCalls.Interleaved.{AreAll, IsLifeShown, IsNoTrim, QueuesAre, QueuesFit}
use Rattle.law_program.specs.PlayedCalls.Noted.{AreIdle, AreOf, CallsMakeIdleQueues, FinishesAreNoted, GroupsAreNoted, IsNoted}
use Rattle.law_program.proofs.OfPlayedCalls.EachLine.{taken_few}
use Rattle.law_program.proofs.OfPlayedCalls.FewCalls.{begun_at, event_counted, left_given_up, pick_counted}
use Rattle.law_program.proofs.OfPlayedCalls.Interleaved.{FitsWhere, behind_is, finish_fits, held_is, queue_at, queues_left, queues_no_trims, queues_set, queues_still_fit, queues_where, step_is}
use Rattle.law_program.proofs.OfPlayedCalls.Led.{LeadsLives}
use Rattle.law_program.proofs.OfPlayedCalls.NotedBeats.{BeatIsNoted, IsInHand, IsReadyAt, beat_noted}

-- ---- queues
-- Each call in hand is its actor's, and in hand in the world too. Each queue has calls of one actor, and no two of the same.
record AreMinded (queues : List QueueState) (n : Now) : Type 0 where
  hands : (at : ℕ) (queue : QueueState) (call : ActorCall) → slice_get queues at ≡ Some queue → queue.hand ≡ Some call → IsInHand n call × (rank_of call ≡ queue.rank)
  own : (at : ℕ) (queue : QueueState) → slice_get queues at ≡ Some queue → AreOf queue.rank queue.left
  apart : (at other : ℕ) (one its : QueueState) → at ≢ other → slice_get queues at ≡ Some one → slice_get queues other ≡ Some its → one.rank ≢ its.rank

idle_minded : (queues : List QueueState) (n : Now) → AreIdle queues → AreMinded queues n
idle_minded queues n are = record { hands = λ at queue call found has. none_some call (sym (are.idle at queue found) ∙ has); own = are.own; apart = are.apart }

hand_kept : (call : ActorCall) (n after : Now) → IsInHand n call → slice_get after.sessions (rank_of call) ≡ slice_get n.sessions (rank_of call) → IsInHand after call
hand_kept (Session number asked) n after busy same = λ s found. busy s (sym same ∙ found)
hand_kept (Commit kind) n after busy same = tt
hand_kept Trim n after busy same = tt
hand_kept Turn n after busy same = tt

-- one queue is put back with its calls, and other actors' calls are as they were
module _ (queues : List QueueState) (place : ℕ) (queue new : QueueState) (n after : Now) (were : AreMinded queues n) (stands : slice_get queues place ≡ Some queue) (same_rank : new.rank ≡ queue.rank) where
  record WasAt (at : ℕ) (its : QueueState) : Type 0 where
    was : QueueState
    found : slice_get queues at ≡ Some was
    same : was.rank ≡ its.rank

  is_new : (at : ℕ) (its : QueueState) → at ≡ place → slice_get (slice_set queues place new) at ≡ Some its → new ≡ its
  is_new at its here found = some_same new its (sym (item_written queues place queue new stands) ∙ (ap (slice_get (slice_set queues place new)) (sym here) ∙ found))

  was_other : (at : ℕ) (its : QueueState) → at ≢ place → slice_get (slice_set queues place new) at ≡ Some its → slice_get queues at ≡ Some its
  was_other at its far found = sym (item_spared queues place at new far) ∙ found

  was_at : (at : ℕ) (its : QueueState) → slice_get (slice_set queues place new) at ≡ Some its → WasAt at its
  was_at at its found = by_place (same_or at place)
    where
      by_place : (at ≡ place) ⊎ (at ≢ place) → WasAt at its
      by_place (inl here) = record { was = queue; found = ap (slice_get queues) here ∙ stands; same = sym same_rank ∙ ap (λ (x : QueueState). x.rank) (is_new at its here found) }
      by_place (inr far) = record { was = its; found = was_other at its far found; same = refl }

  minded_set : AreOf new.rank new.left → ((call : ActorCall) → new.hand ≡ Some call → IsInHand after call × (rank_of call ≡ new.rank))
      → ((number : ℕ) → number ≢ queue.rank → slice_get after.sessions number ≡ slice_get n.sessions number) → AreMinded (slice_set queues place new) after
  minded_set its_own its_hand others = record {
    hands = λ at its call found has. hands_at at its call found has (same_or at place);
    own = λ at its found. own_at at its found (same_or at place);
    apart = λ at other one its far found there.
        let a = was_at at one found in
        let b = was_at other its there in
        λ e. were.apart at other a.was b.was far a.found b.found (a.same ∙ (e ∙ sym b.same));
  }
    where
      hands_at : (at : ℕ) (its : QueueState) (call : ActorCall) → slice_get (slice_set queues place new) at ≡ Some its → its.hand ≡ Some call → (at ≡ place) ⊎ (at ≢ place) → IsInHand after call × (rank_of call ≡ its.rank)
      hands_at at its call found has (inl here) =
          let is : new ≡ its = is_new at its here found in
          let hand = its_hand call (ap (λ (x : QueueState). x.hand) is ∙ has) in
          (hand.0, hand.1 ∙ ap (λ (x : QueueState). x.rank) is)
      hands_at at its call found has (inr far) =
          let there = was_other at its far found in
          let hand = were.hands at its call there has in
          (hand_kept call n after hand.0 (others (rank_of call) (λ e. were.apart at place its queue far there stands (sym hand.1 ∙ e))), hand.1)

      own_at : (at : ℕ) (its : QueueState) → slice_get (slice_set queues place new) at ≡ Some its → (at ≡ place) ⊎ (at ≢ place) → AreOf its.rank its.left
      own_at at its found (inl here) = subst (λ (x : QueueState). AreOf x.rank x.left) (is_new at its here found) its_own
      own_at at its found (inr far) = were.own at its (was_other at its far found)

-- ---- the step of a queue
-- Its call is its actor's, in hand already if it moves, and then in hand; so are the calls that are left.
record IsItsStep (rank : ℕ) (hand : Option ActorCall) (left : List ActorCall) (call : ActorCall) (at : Stage) : Type 0 where
  of_actor : rank_of call ≡ rank
  in_hand : at ≡ stage.Moves → hand ≡ Some call
  takes : (let its = held_by rank hand left in its.hand ≡ Some call)
  same_rank : (let its = held_by rank hand left in its.rank ≡ rank)
  own : (let its = held_by rank hand left in AreOf its.rank its.left)

its_step : (rank : ℕ) (hand : Option ActorCall) (left : List ActorCall) (call : ActorCall) (at : Stage) → step_of hand left ≡ Some (call, at) → AreOf rank left → ((its : ActorCall) → hand ≡ Some its → rank_of its ≡ rank) → IsItsStep rank hand left call at
its_step rank (Some its) left call at e own of_hand =
    let same : its ≡ call = ap (λ (x : ActorCall × Stage). x.0) (some_same (its, stage.Moves) (call, at) e) in
    record { of_actor = ap rank_of (sym same) ∙ of_hand its refl; in_hand = λ moves. ap Some same; takes = ap Some same; same_rank = refl; own = own }
its_step rank None [] call at e own of_hand = none_some _ e
its_step rank None (its ∷ later) call at e own of_hand =
    let same : its ≡ call = ap (λ (x : ActorCall × Stage). x.0) (some_same (its, stage.Begins) (call, at) e) in
    let begins : stage.Begins ≡ at = ap (λ (x : ActorCall × Stage). x.1) (some_same (its, stage.Begins) (call, at) e) in
    record { of_actor = ap rank_of (sym same) ∙ own.0; in_hand = λ moves. let never : stage.Begins ≡ stage.Moves = begins ∙ moves in cc; takes = ap Some same; same_rank = refl; own = own.1 }

ready_at : (at : Stage) (n : Now) (call : ActorCall) → (at ≡ stage.Moves → IsInHand n call) → IsReadyAt at n call
ready_at stage.Begins n call ready = tt
ready_at stage.Moves n call ready = ready refl

-- behind it the call is in hand where it goes on, and else given up
behind_rank : (outcome : Outcome) (queue : QueueState) → (queue_behind outcome queue).rank ≡ queue.rank
behind_rank GoesOn queue = refl
behind_rank other queue = refl

behind_own : (outcome : Outcome) (queue : QueueState) → AreOf queue.rank queue.left → (let its = queue_behind outcome queue in AreOf its.rank its.left)
behind_own GoesOn queue own = own
behind_own other queue own = own

behind_hand : (outcome : Outcome) (queue : QueueState) (call its : ActorCall) (Is : Type 0) → queue.hand ≡ Some call → (outcome ≡ GoesOn → Is) → (queue_behind outcome queue).hand ≡ Some its → Is × (call ≡ its)
behind_hand GoesOn queue call its Is takes goes has = (goes refl, some_same call its (sym takes ∙ has))
behind_hand other queue call its Is takes goes has = none_some its has

-- ---- idle again
given_up_at : (queues : List QueueState) (at : ℕ) (its : QueueState) → slice_get (map given_up queues) at ≡ Some its → (was : QueueState) × (slice_get queues at ≡ Some was) × (given_up was ≡ its)
given_up_at [] at its found = cc
given_up_at (x ∷ rest) zero its found = (x, refl, some_same (given_up x) its found)
given_up_at (x ∷ rest) (suc at) its found = given_up_at rest at its found

no_hand : (hand : Option ActorCall) (left : List ActorCall) → step_of hand left ≡ None → hand ≡ None
no_hand None left e = refl
no_hand (Some call) left e = none_some _ (sym e)

idle_left : (struck : Bool) (queues : List QueueState) (n : Now) → AreMinded queues n → (struck ≡ false → NobodyHasSteps queues) → AreIdle (queues_behind struck queues)
idle_left true queues n are over = record {
  idle = λ at its found. let was = given_up_at queues at its found in ap (λ (x : QueueState). x.hand) (sym was.2);
  own = λ at its found. let was = given_up_at queues at its found in subst (λ (x : QueueState). AreOf x.rank x.left) was.2 (are.own at was.0 was.1);
  apart = λ at other one its far found there.
      let a = given_up_at queues at one found in
      let b = given_up_at queues other its there in
      λ e. are.apart at other a.0 b.0 far a.1 b.1 (ap (λ (x : QueueState). x.rank) a.2 ∙ (e ∙ ap (λ (x : QueueState). x.rank) (sym b.2)));
}
idle_left false queues n are over = record { idle = λ at its found. no_hand its.hand its.left (over refl at its found); own = are.own; apart = are.apart }

no_queues : AreIdle []
no_queues = record { idle = λ at queue found. cc; own = λ at queue found. cc; apart = λ at other one its far found there. cc }

-- ---- the queues of a group
its_calls : (rank : ℕ) (calls : List ActorCall) → AreOf rank (filter (is_of rank) calls)
its_calls rank [] = tt
its_calls rank (call ∷ later) = by_test (is_of rank call) refl (its_calls rank later)
  where
    by_test : (c : Bool) → is_of rank call ≡ c → AreOf rank (filter (is_of rank) later) → AreOf rank (cond c (call ∷ filter (is_of rank) later) (filter (is_of rank) later))
    by_test true e rest = (grind (arith, nat_tests, e), rest)
    by_test false e rest = rest

either : (at other : ℕ) → at ≢ other → (at < other) ⊎ (other < at)
either zero zero far = absurd (far refl)
either zero (suc other) far = inl (omega arith)
either (suc at) zero far = inr (omega arith)
either (suc at) (suc other) far = one_more (either at other (λ e. far (ap suc e)))
  where
    one_more : (at < other) ⊎ (other < at) → (suc at < suc other) ⊎ (suc other < suc at)
    one_more (inl less) = inl (omega (arith, less))
    one_more (inr less) = inr (omega (arith, less))

pub calls_idle : CallsMakeIdleQueues
calls_idle calls queues are = record {
  idle = are.idle;
  own = λ at queue found. subst (AreOf queue.rank) (sym (are.each at queue found)) (its_calls queue.rank calls);
  apart = λ at other one its far found there. by_order at other one its (either at other far) found there;
}
  where
    by_order : (at other : ℕ) (one its : QueueState) → (at < other) ⊎ (other < at) → slice_get queues at ≡ Some one → slice_get queues other ≡ Some its → one.rank ≢ its.rank
    by_order at other one its (inl less) found there = λ e. let rises : one.rank < its.rank = are.rising at other one its less found there in omega (arith, rises, e)
    by_order at other one its (inr less) found there = λ e. let rises : its.rank < one.rank = are.rising other at its one less there found in omega (arith, rises, e)

-- ---- beat by beat
module _ {D : Type 0} (seen : D → List ℕ) (may_leave : D → List ℕ → Type 0) (engine : events.Event → WorldModel D → WorldModel D → Option tells.Told → Bool → Type 0) (leads : LeadsLives seen may_leave engine)
    (law : EventsTellTheirEffects) (opens : GuardOpens) (kept : List HistoryEntry) (bytes : List ℕ) (o : Opened) (first : Now) (NoTrims Unswept : Type 0) where
  -- where the calls have no trim, and the life was unswept as they began, it is so still
  abbrev Shown : List Event → PlayerState D → Type 0
  Shown life player = IsLifeShown seen may_leave bytes o first life player × (NoTrims → Unswept → IsUnswept bytes first life player)

  abbrev Fits : ActorCall → Type 0
  Fits call = FitsWhere NoTrims call

  abbrev Noted : List Event → PlayerState D → Type 0
  Noted life player = IsNoted kept bytes first life player

  -- as in a life that goes on, no more calls than so many have begun
  record IsOn (life : List Event) (begun : ℕ) (before after : PlayerState D) : Type 0 where
    later : List Event
    since : List Event
    grown : later ≡ since ++ life
    shown : Shown later after
    keeps : after.keeps_history ≡ before.keeps_history
    noted : Noted later after
    counted : calls_in later ≤ calls_in life + begun

  still_on : (life : List Event) (before after : PlayerState D) → after ≡ before → Shown life before → Noted life before → IsOn life 0 before after
  still_on life before after same shown noted = record {
    later = life;
    since = [];
    grown = refl;
    shown = subst (Shown life) (sym same) shown;
    keeps = ap (λ (x : PlayerState D). x.keeps_history) same;
    noted = subst (Noted life) (sym same) noted;
    counted = omega arith;
  }

  at_most : (life : List Event) (begun most : ℕ) (before after : PlayerState D) → begun ≤ most → IsOn life begun before after → IsOn life most before after
  at_most life begun most before after few on =
      let counted = on.counted in
      record { later = on.later; since = on.since; grown = on.grown; shown = on.shown; keeps = on.keeps; noted = on.noted; counted = omega (arith, few, counted) }

  joined : (life : List Event) (begun then : ℕ) (before between after : PlayerState D) → (one : IsOn life begun before between) → IsOn one.later then between after → IsOn life (begun + then) before after
  joined life begun then before between after one other =
      let few = one.counted in
      let fewer = other.counted in
      record {
        later = other.later;
        since = other.since ++ one.since;
        grown = other.grown ∙ (ap (λ (x : List Event). other.since ++ x) one.grown ∙ sym (append_assoc other.since one.since life));
        shown = other.shown;
        keeps = other.keeps ∙ one.keeps;
        noted = other.noted;
        counted = omega (arith, few, fewer);
      }

  record BeatOn (life : List Event) (call : ActorCall) (at : Stage) (before after : PlayerState D) (outcome : Outcome) : Type 0 where
    on : IsOn life (begun_at at) before after
    in_hand : outcome ≡ GoesOn → IsInHand after.world.now call
    others : (other : ℕ) → other ≢ rank_of call → slice_get after.world.now.sessions other ≡ slice_get before.world.now.sessions other

  beat_on : (telling : Telling) (life : List Event) (call : ActorCall) (at : Stage) (before after : PlayerState D) (outcome : Outcome) (text : List ℕ) → Shown life before → Noted life before → IsReadyAt at before.world.now call → Fits call
      → IsBeat engine telling call at before after outcome text → BeatOn life call at before after outcome
  beat_on telling life call at before after outcome text was noted ready fit beat =
      let its : BeatIsNoted seen may_leave engine leads law opens kept bytes o first life call at before after outcome
      = beat_noted seen may_leave engine leads law opens kept bytes o first telling life call at before after outcome text was.0 noted ready fit.0 beat in
      record {
        on = record { later = its.event ∷ life; since = its.event ∷ []; grown = refl; shown = (its.shown, λ none unswept. its.unswept (fit.1 none) (was.1 none unswept)); keeps = its.keeps; noted = its.noted; counted = event_counted at call its.event life its.is_at };
        in_hand = its.in_hand;
        others = its.others;
      }

  beat_of_on : (life : List Event) (call : ActorCall) (at : Stage) (before after : PlayerState D) (outcome : Outcome) (text : List ℕ) (missing : Option ℕ) → Shown life before → Noted life before → IsReadyAt at before.world.now call → Fits call
      → IsBeatOf engine call at before after outcome text missing → BeatOn life call at before after outcome
  beat_of_on life call at before after outcome text (Some number) was noted ready fit refused = record {
    on = at_most life 0 (begun_at at) before after (omega arith) (still_on life before after refused.0 was noted);
    in_hand = λ goes. let never : Answered ≡ GoesOn = sym refused.1 ∙ goes in cc;
    others = λ other far. ap (λ (x : PlayerState D). slice_get x.world.now.sessions other) refused.0;
  }
  beat_of_on life call at before after outcome text None was noted ready fit beat = beat_on Whole life call at before after outcome text was noted ready fit beat

  -- ---- a group
  record GoneOn (life : List Event) (to_begin : ℕ) (before after : GroupState D) : Type 0 where
    begun : ℕ
    on : IsOn life begun before.player after.player
    fit : QueuesAre Fits after.queues
    minded : AreMinded after.queues after.player.world.now
    left : begun + left_in after.queues ≡ to_begin

  pick_on : (life : List Event) (place : ℕ) (before after : GroupState D) (struck : Bool) (text : List ℕ) → Shown life before.player → Noted life before.player → QueuesAre Fits before.queues → AreMinded before.queues before.player.world.now
      → IsPick engine place before after struck text → GoneOn life (left_in before.queues) before after
  pick_on life place before after struck text was noted fit were pick =
      let queue : QueueState = pick.queue in
      let its = queue_at Fits before.queues place queue fit pick.stands in
      let step : IsItsStep queue.rank queue.hand queue.left pick.call pick.stage
      = its_step queue.rank queue.hand queue.left pick.call pick.stage pick.has_step (were.own place queue pick.stands) (λ call has. (were.hands place queue call pick.stands has).1) in
      let ready : IsReadyAt pick.stage before.player.world.now pick.call = ready_at pick.stage before.player.world.now pick.call (λ moves. (were.hands place queue pick.call pick.stands (step.in_hand moves)).0) in
      let beat : BeatOn life pick.call pick.stage before.player after.player pick.outcome
      = beat_of_on life pick.call pick.stage before.player after.player pick.outcome text (missing_session before.player.seats pick.call) was noted ready
      (step_is Fits queue.hand queue.left pick.call pick.stage its.0 its.1 pick.has_step) pick.beat in
      let new : QueueState = queue_behind pick.outcome (held queue) in
      let same_rank : new.rank ≡ queue.rank = behind_rank pick.outcome (held queue) ∙ step.same_rank in
      let counted = pick_counted before.queues place queue pick.call pick.stage pick.outcome pick.stands pick.has_step in
      let queues = ap left_in pick.queues in
      record {
        begun = begun_at pick.stage;
        on = beat.on;
        fit = subst (QueuesAre Fits) (sym pick.queues) (queues_set Fits before.queues place new fit (behind_is Fits pick.outcome (held queue) (held_is Fits queue.rank queue.hand queue.left its.0 its.1)));
        minded = subst (λ (x : List QueueState). AreMinded x after.player.world.now) (sym pick.queues)
            (minded_set before.queues place queue new before.player.world.now after.player.world.now were pick.stands same_rank
            (behind_own pick.outcome (held queue) step.own)
            (λ call has.
            let is = behind_hand pick.outcome (held queue) pick.call call (IsInHand after.player.world.now pick.call) step.takes beat.in_hand has in
            (subst (IsInHand after.player.world.now) is.1 is.0, ap rank_of (sym is.1) ∙ (step.of_actor ∙ sym same_rank)))
            (λ number far. beat.others number (λ e. far (e ∙ step.of_actor))));
        left = omega (arith, counted, queues);
      }

  picks_on : (picks : List ℕ) (life : List Event) (before after : GroupState D) (struck : Bool) (text : List ℕ) → Shown life before.player → Noted life before.player → QueuesAre Fits before.queues → AreMinded before.queues before.player.world.now
      → InTurn (IsPick engine) false picks before after struck text → GoneOn life (left_in before.queues) before after
  picks_on [] life before after struck text was noted fit were played =
      subst (GoneOn life (left_in before.queues) before) (sym played.0) (record { begun = 0; on = still_on life before.player before.player refl was noted; fit = fit; minded = were; left = omega arith })
  picks_on (place ∷ []) life before after struck text was noted fit were played = pick_on life place before after struck text was noted fit were played
  picks_on (place ∷ next ∷ later) life before after struck text was noted fit were played =
      let one : GoneOn life (left_in before.queues) before played.0 = pick_on life place before played.0 false played.1 was noted fit were played.3 in
      let on = one.on in
      let rest : GoneOn on.later (left_in played.0.queues) played.0 after = picks_on (next ∷ later) on.later played.0 after struck played.2 on.shown on.noted one.fit one.minded played.4 in
      let between = played.0 in
      let left = one.left in
      let fewer = rest.left in
      record {
        begun = one.begun + rest.begun;
        on = joined life one.begun rest.begun before.player between.player after.player on rest.on;
        fit = rest.fit;
        minded = rest.minded;
        left = omega (arith, left, fewer);
      }

  -- ---- a finish
  beats_gone : (telling : Telling) (count : ℕ) (life : List Event) (call : ActorCall) (at : Stage) (before after : PlayerState D) (outcome : Outcome) (text : List ℕ) → Shown life before → Noted life before → IsReadyAt at before.world.now call → Fits call
      → InTurn (IsBeat engine telling call) GoesOn (at ∷ replicate count stage.Moves) before after outcome text → IsOn life (begun_at at) before after
  beats_gone telling zero life call at before after outcome text was noted ready fit beat = (beat_on telling life call at before after outcome text was noted ready fit beat).on
  beats_gone telling (suc count) life call at before after outcome text was noted ready fit beats =
      let beat : BeatOn life call at before beats.0 GoesOn = beat_on telling life call at before beats.0 GoesOn beats.1 was noted ready fit beats.3 in
      let one = beat.on in
      at_most life (begun_at at + 0) (begun_at at) before after (omega arith)
      (joined life (begun_at at) 0 before beats.0 after one (beats_gone telling count one.later call stage.Moves beats.0 after outcome beats.2 one.shown one.noted (beat.in_hand refl) fit beats.4))

  calls_gone : (calls : List ActorCall) (life : List Event) (before after : PlayerState D) (outcome : Outcome) (text : List ℕ) → Shown life before → Noted life before → AreAll Fits calls
      → InTurn (IsPlayedAlone engine Finished) Answered calls before after outcome text → IsOn life (length calls) before after
  calls_gone [] life before after outcome text was noted fit played = still_on life before after played.0 was noted
  calls_gone (call ∷ []) life before after outcome text was noted fit played = beats_gone Finished played.moves life call stage.Begins before after outcome text was noted tt fit.0 played.beats
  calls_gone (call ∷ next ∷ later) life before after outcome text was noted fit played =
      let first_one = played.3 in
      let one : IsOn life 1 before played.0 = beats_gone Finished first_one.moves life call stage.Begins before played.0 Answered played.1 was noted tt fit.0 first_one.beats in
      at_most life (1 + length (next ∷ later)) (length (call ∷ next ∷ later)) before after (omega arith)
      (joined life 1 (length (next ∷ later)) before played.0 after one (calls_gone (next ∷ later) one.later played.0 after outcome played.2 one.shown one.noted fit.1 played.4))

  finish_gone : (its : Phase) (life : List Event) (before after : PlayerState D) (outcome : Outcome) (text : List ℕ) → Shown life before → Noted life before → IsFinishIn engine its before after outcome text
      → IsOn life (length (rounds most_rounds (round_of before.seats))) before after
  finish_gone phase.Rest life before after outcome text was noted finish =
      at_most life 0 (length (rounds most_rounds (round_of before.seats))) before after (omega arith) (still_on life before after finish.0 was noted)
  finish_gone other life before after outcome text was noted finish =
      at_most life (length (take finish.count (rounds most_rounds (round_of before.seats)))) (length (rounds most_rounds (round_of before.seats))) before after (taken_few finish.count (rounds most_rounds (round_of before.seats)))
      (calls_gone (take finish.count (rounds most_rounds (round_of before.seats))) life before after outcome finish.said was noted
      (finish_fits NoTrims finish.count before.seats) finish.calls)

-- ---- the laws
module _ {D : Type 0} (seen : D → List ℕ) (may_leave : D → List ℕ → Type 0) (engine : events.Event → WorldModel D → WorldModel D → Option tells.Told → Bool → Type 0) (leads : LeadsLives seen may_leave engine)
    (law : EventsTellTheirEffects) (opens : GuardOpens) where
  pub groups_noted : GroupsAreNoted seen may_leave engine
  groups_noted kept bytes o first life before after queues left struck text was noted fit idle group =
      let gone = picks_on seen may_leave engine leads law opens kept bytes o first (QueuesAre IsNoTrim queues) (IsUnswept bytes first life before) group.picks life (record { player = before; queues = queues }) (record { player = after; queues = group.last }) struck text
      (was, λ none unswept. unswept) noted (queues_where (QueuesAre IsNoTrim queues) queues fit (λ none. none))
      (idle_minded queues before.world.now idle) group.played in
      let on = gone.on in
      let counted = on.counted in
      let fewer = gone.left in
      let behind = ap left_in group.queues in
      let given = left_given_up struck group.last in
      record {
        gone = record {
          later = on.later;
          since = on.since;
          grown = on.grown;
          shown = on.shown.0;
          fit = subst QueuesFit (sym group.queues) (queues_left ItsNumbersFit struck group.last (queues_still_fit (QueuesAre IsNoTrim queues) group.last gone.fit));
          counted = omega (arith, counted, fewer, behind, given);
          no_trims = λ none. subst (QueuesAre IsNoTrim) (sym group.queues) (queues_left IsNoTrim struck group.last (queues_no_trims (QueuesAre IsNoTrim queues) group.last gone.fit none));
          unswept = on.shown.1;
        };
        keeps = on.keeps;
        noted = on.noted;
        idle = subst AreIdle (sym group.queues) (idle_left struck group.last after.world.now gone.minded group.over);
      }

  pub finishes_noted : FinishesAreNoted seen may_leave engine
  finishes_noted kept bytes o first life before after outcome text was noted finish =
      let on = finish_gone seen may_leave engine leads law opens kept bytes o first ⊤ (IsUnswept bytes first life before) (phase_shown before.world.now).0 life before after outcome text (was, λ none unswept. unswept) noted finish in
      let counted = on.counted in
      record { gone = record { later = on.later; since = on.since; grown = on.grown; shown = on.shown.0; fit = tt; counted = omega (arith, counted); no_trims = λ none. tt; unswept = λ none. on.shown.1 tt }; keeps = on.keeps; noted = on.noted; idle = no_queues }
