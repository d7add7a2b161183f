-- The moves of one actor alone, one behind the other.
use Rattle.std.proofs.Common.{◌≡◌, inl, inr, ◌∙◌, ap, subst, refl, ℕ, ◌+◌, Bool, false, List, [], ◌∷◌, ◌++◌, length, arith}
use Rattle.std.specs.Prelude.{Option, None}
use Rattle.std.proofs.lemmas.Option.{none-some}
use Rattle.fkv_disk.specs.Kinds.{Kind, Foretold}
use Rattle.fkv_keeper.specs.Answers.{IsKeeperTold}
use Rattle.fkv_keeper.specs.Keeping.{Finality, end_told}
use Rattle.fkv_keeper.specs.declared.answers.KeeperAsk.{KeeperAsk}
use Rattle.fkv_keeper.specs.declared.answers.KeeperTold.{KeeperTold}
use Rattle.fkv_keeper.specs.declared.answers.KeeperTold.TheVariants.{Device, Turned, TurnRefused, Begun, CommitRefused}
use Rattle.fkv_world.specs.Past.{TraceEvent, Called, Answered, CommitAsked, TurnAsked, KeeperAnswered}
use Rattle.fkv_world.specs.Runs.{World, run}
use Rattle.fkv_world.specs.World.{Now}
use Rattle.fkv_core.specs.declared.events.Actor.{Actor}
use Rattle.fkv_core.specs.declared.events.Event as event
use Rattle.fkv_core.specs.declared.events.Told.{Told}
use Rattle.fkv_core.specs.Alone.{IsMovedAlone, LeadsOnBy, Move, in_hand, moves_of, moving}
use Rattle.fkv_core.specs.Lives.{IsAnswerSaid, IsSaid, answers_of}
use Rattle.fkv_core.specs.Told.{keeper_told}
use Rattle.fkv_core.specs.Worlds.{IsStep, took_place}

-- the end of a keeper's call is told
ends_told : (its : KeeperTold) (last : Finality) (full : Bool) (given : KeeperAsk) → IsKeeperTold last (end_told its (Turned false full)) given → None ≡ keeper_told given → ⊥
ends_told Device last full given so none = none-some _ (none ∙ ap keeper_told so.1)
ends_told (Turned finished other) last full given so none = none-some _ (none ∙ ap keeper_told so.1)
ends_told (TurnRefused why) last full given so none = none-some _ (none ∙ ap keeper_told so)
ends_told (Begun number) last full given so none = none-some _ (none ∙ ap keeper_told so)
ends_told (CommitRefused why) last full given so none = none-some _ (none ∙ ap keeper_told so)

answer_said : (its : TraceEvent) → IsAnswerSaid its None → ⊥
answer_said (Answered number its) so = none-some _ so.1
answer_said (KeeperAnswered its last) so = ends_told its last so.0 so.1 so.2 so.3
answer_said (Called number call) so = so
answer_said (CommitAsked kind) so = so
answer_said TurnAsked so = so

-- where nothing is told no answer came
none_came : (before after : List TraceEvent) → IsSaid None before after → after ≡ before
none_came before after (inl quiet) = quiet.1
none_came before after (inr answered) = absurd (answer_said answered.0 answered.2)

-- so many moves of an actor, of which none has told anything
pub record AreMovesSoFar (actor : Actor) (count : ℕ) (n after : Now) (failed failed' : ℕ) (refuses refuses' : ℕ → Bool) (honest : Type 0) (seen seen' : List ℕ) (may_leave may_leave' : List ℕ → Type 0) : Type 0 where
  pub moves : List Move
  pub many : length moves ≡ count
  pub life : honest → LeadsOnBy actor moves n after None failed failed' refuses refuses' seen seen' may_leave may_leave'

pub none_yet : (actor : Actor) (n : Now) (failed : ℕ) (refuses : ℕ → Bool) (honest : Type 0) (seen : List ℕ) (may_leave : List ℕ → Type 0) → AreMovesSoFar actor 0 n n failed failed refuses refuses honest seen seen may_leave may_leave
none_yet actor n failed refuses honest seen may_leave =
    record { moves = []; many = refl; life = λ claim. λ opening before opened shows was. record { led = record { shows = shows; device = was; says = inl (refl, refl) }; uses = (refl, refl) } }

-- one more move, and what it tells
one_more : (actor : Actor) (count : ℕ) (n mid after : Now) (told : Option Told) (failed failed' failed'' : ℕ) (refuses refuses' refuses'' : ℕ → Bool) (expects' expects'' : List Kind → Foretold) (honest honest' : Type 0) (seen seen' seen'' : List ℕ) (may_leave may_leave' may_leave'' : List ℕ → Type 0)
    → (so_far : AreMovesSoFar actor count n mid failed failed' refuses refuses' honest seen seen' may_leave may_leave') → (honest → honest')
    → (step : IsStep (moving actor) mid after told failed' failed'' refuses' refuses'' expects' expects'' honest' seen' seen'' may_leave' may_leave'')
    → honest → LeadsOnBy actor (record { granted = step.granted; done = step.done } ∷ so_far.moves) n after told failed failed'' refuses refuses'' seen seen'' may_leave may_leave''
one_more actor count n mid after told failed failed' failed'' refuses refuses' refuses'' expects' expects'' honest honest' seen seen' seen'' may_leave may_leave' may_leave'' so_far passes step claim = λ opening before opened shows was.
    let so = so_far.life claim opening before opened shows was in
    let now : World = run opening (moves_of actor so_far.moves ++ before) in
    let next = step.life (passes claim) opening (moves_of actor so_far.moves ++ before) opened so.led.shows so.led.device in
    let quiet = none_came (answers_of (run opening before).past.trace) (answers_of now.past.trace) so.led.says in
    record {
      led = record {
        shows = next.shows;
        device = next.device;
        says = subst (λ (answers : List TraceEvent). IsSaid told answers (answers_of (run opening (took_place (moving actor) step.granted step.done ∷ moves_of actor so_far.moves ++ before)).past.trace)) quiet next.says;
      };
      uses = (failed', refuses', so.uses, rw (so.led.shows) step.uses);
    }

-- it ends the call, or none is told yet
pub told_last : (actor : Actor) (its : event.Event) (count : ℕ) (n mid after : Now) (told : Option Told) (failed failed' failed'' : ℕ) (refuses refuses' refuses'' : ℕ → Bool) (expects' expects'' : List Kind → Foretold) (honest honest' : Type 0) (seen seen' seen'' : List ℕ) (may_leave may_leave' may_leave'' : List ℕ → Type 0)
    → AreMovesSoFar actor count n mid failed failed' refuses refuses' honest seen seen' may_leave may_leave' → (honest → honest') → its ≡ moving actor
    → IsStep its mid after told failed' failed'' refuses' refuses'' expects' expects'' honest' seen' seen'' may_leave' may_leave'' → in_hand after actor ≡ false
    → IsMovedAlone actor n after told failed failed'' refuses refuses'' honest seen seen'' may_leave may_leave''
told_last actor its count n mid after told failed failed' failed'' refuses refuses' refuses'' expects' expects'' honest honest' seen seen' seen'' may_leave may_leave' may_leave'' so_far passes is step rest =
    let moved : IsStep (moving actor) mid after told failed' failed'' refuses' refuses'' expects' expects'' honest' seen' seen'' may_leave' may_leave'' = subst (λ it. IsStep it mid after told failed' failed'' refuses' refuses'' expects' expects'' honest' seen' seen'' may_leave' may_leave'') is step in
    record {
      moves = record { granted = moved.granted; done = moved.done } ∷ so_far.moves;
      life = one_more actor count n mid after told failed failed' failed'' refuses refuses' refuses'' expects' expects'' honest honest' seen seen' seen'' may_leave may_leave' may_leave'' so_far passes moved;
      rests = λ none. inl rest;
    }

pub told_nothing : (actor : Actor) (its : event.Event) (count : ℕ) (n mid after : Now) (failed failed' failed'' : ℕ) (refuses refuses' refuses'' : ℕ → Bool) (expects' expects'' : List Kind → Foretold) (honest honest' : Type 0) (seen seen' seen'' : List ℕ) (may_leave may_leave' may_leave'' : List ℕ → Type 0)
    → AreMovesSoFar actor count n mid failed failed' refuses refuses' honest seen seen' may_leave may_leave' → (honest → honest') → its ≡ moving actor
    → IsStep its mid after None failed' failed'' refuses' refuses'' expects' expects'' honest' seen' seen'' may_leave' may_leave''
    → AreMovesSoFar actor (count + 1) n after failed failed'' refuses refuses'' honest seen seen'' may_leave may_leave''
told_nothing actor its count n mid after failed failed' failed'' refuses refuses' refuses'' expects' expects'' honest honest' seen seen' seen'' may_leave may_leave' may_leave'' so_far passes is step =
    let moved : IsStep (moving actor) mid after None failed' failed'' refuses' refuses'' expects' expects'' honest' seen' seen'' may_leave' may_leave'' = subst (λ it. IsStep it mid after None failed' failed'' refuses' refuses'' expects' expects'' honest' seen' seen'' may_leave' may_leave'') is step in
    let many = so_far.many in
    record {
      moves = record { granted = moved.granted; done = moved.done } ∷ so_far.moves;
      many = omega (arith, many);
      life = one_more actor count n mid after None failed failed' failed'' refuses refuses' refuses'' expects' expects'' honest honest' seen seen' seen'' may_leave may_leave' may_leave'' so_far passes moved;
    }
