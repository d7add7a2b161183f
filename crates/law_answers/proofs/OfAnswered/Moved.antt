-- The moves of one actor, one behind the other, give answers of its own alone, and none while its call is in hand.
use Rattle.std.proofs.Common.{◌≡◌, suc, ◌+◌, ◌∙◌, refl, sym, ap, subst, arith, append_assoc, inl, inr, List, [], ◌∷◌, ◌++◌, length, Bool, true}
use Rattle.std.specs.Prelude.{⊤}
use Rattle.std.proofs.lemmas.List.{length-append}
use Rattle.law_opening.specs.Below.fkv_world.Past.{TraceEvent}
use Rattle.law_opening.specs.Below.fkv_world.Runs.{World, happens, run}
use Rattle.law_opening.specs.Below.fkv_core.Actor.{Actor}
use Rattle.law_opening.specs.Below.fkv_core.Actor.TheVariants.{Session, Keeper}
use Rattle.law_opening.specs.Below.fkv_core.Alone.{Move, in_hand, moves_of, moving}
use Rattle.law_opening.specs.Below.fkv_core.Lives.{answers_of}
use Rattle.law_opening.specs.Below.fkv_core.Worlds.{took_place}
use Rattle.law_answers.specs.Answered.Answers.{IsAnswerOf}
use Rattle.law_answers.proofs.OfAnswered.OneEvent.{StepsOn, keeper_steps, no_more, session_steps}

-- each of these answers is the actor's
abbrev pub AreAnswersOf : Actor → List TraceEvent → Type 0
AreAnswersOf actor [] = ⊤
AreAnswersOf actor (its ∷ before) = IsAnswerOf actor its × AreAnswersOf actor before

pub record IsMovedOn (actor : Actor) (w after : World) : Type 0 where
  pub more : List TraceEvent
  pub adds : answers_of after.past.trace ≡ more ++ answers_of w.past.trace
  pub own : AreAnswersOf actor more
  pub stays : more ≡ [] → in_hand w.now actor ≡ true → in_hand after.now actor ≡ true

at_rest : (actor : Actor) (w : World) → IsMovedOn actor w w
at_rest actor w = record { more = []; adds = refl; own = tt; stays = λ none busy. busy }

of_step : (actor : Actor) (w after : World) → StepsOn actor w after → IsMovedOn actor w after
of_step actor w after (inl stays) = record { more = []; adds = stays.0; own = tt; stays = λ none busy. stays.1 busy }
of_step actor w after (inr answered) = record { more = answered.0 ∷ []; adds = answered.1; own = (answered.2, tt); stays = λ none busy. cc }

both_none : (later before : List TraceEvent) → later ++ before ≡ [] → (later ≡ []) × (before ≡ [])
both_none [] before none = (refl, none)
both_none (its ∷ later) before none = cc

both_own : (actor : Actor) (later before : List TraceEvent) → AreAnswersOf actor later → AreAnswersOf actor before → AreAnswersOf actor (later ++ before)
both_own actor [] before new old = old
both_own actor (its ∷ later) before new old = (new.0, both_own actor later before new.1 old)

one_behind : (actor : Actor) (w mid after : World) → IsMovedOn actor w mid → IsMovedOn actor mid after → IsMovedOn actor w after
one_behind actor w mid after first last = record {
  more = last.more ++ first.more;
  adds = last.adds ∙ ap (λ (answers : List TraceEvent). last.more ++ answers) first.adds ∙ sym (append_assoc last.more first.more (answers_of w.past.trace));
  own = both_own actor last.more first.more last.own first.own;
  stays = λ none busy. let each = both_none last.more first.more none in last.stays each.0 (first.stays each.1 busy);
}

one_move : (actor : Actor) (w : World) (granted done : Bool) → IsMovedOn actor w (happens w (took_place (moving actor) granted done))
one_move (Session number) w granted done = of_step (Session number) w _ (session_steps w number)
one_move Keeper w granted done = of_step Keeper w _ (keeper_steps w granted done)

pub moved_on : (actor : Actor) (w : World) (moves : List Move) → IsMovedOn actor w (run w (moves_of actor moves))
unfolding run
moved_on actor w [] = at_rest actor w
moved_on actor w (move ∷ before) =
    one_behind actor w (run w (moves_of actor before)) (run w (moves_of actor (move ∷ before))) (moved_on actor w before) (one_move actor (run w (moves_of actor before)) move.granted move.done)

pub none_more : (more answers : List TraceEvent) → more ++ answers ≡ answers → more ≡ []
none_more [] answers same = refl
none_more (its ∷ more) answers same =
    let longer : suc (length (more ++ answers)) ≡ length answers = ap length same in
    let split : length (more ++ answers) ≡ length more + length answers = length-append more answers in
    absurd (omega (arith, longer, split))

-- the answer that came last is the actor's
pub last_own : (actor : Actor) (more answers : List TraceEvent) (its : TraceEvent) → its ∷ answers ≡ more ++ answers → AreAnswersOf actor more → IsAnswerOf actor its
last_own actor [] answers its came own = absurd (no_more its answers (sym came))
last_own actor (newest ∷ more) answers its came own =
    let whole : its ∷ answers ≡ newest ∷ (more ++ answers) = came in
    let same : its ≡ newest = cc in
    subst (λ (it : TraceEvent). IsAnswerOf actor it) (sym same) own.0

-- so while none comes the call is in hand
pub still_in_hand : (actor : Actor) (w : World) (moves : List Move) → in_hand w.now actor ≡ true → answers_of (run w (moves_of actor moves)).past.trace ≡ answers_of w.past.trace
    → in_hand (run w (moves_of actor moves)).now actor ≡ true
still_in_hand actor w moves busy same =
    let its = moved_on actor w moves in
    its.stays (none_more its.more (answers_of w.past.trace) (sym its.adds ∙ same)) busy
