-- What the laws of `answered` say.
use Rattle.std.specs.Prelude.{◌≡◌, ◌≤◌, ◌⊎◌, ◌∷◌, ◌++◌, ℕ, List, Option, None, false, true, Bool}
use Rattle.fkv_base.specs.Limits.{max_sessions}
use Rattle.fkv_disk.specs.Kinds.{Foretold, Kind}
use Rattle.law_opening.specs.Below.fkv_core.Alone.{Move, in_hand, moves_of}
use Rattle.law_opening.specs.Below.fkv_core.Lives.{answers_of}
use Rattle.law_opening.specs.Below.fkv_core.Openings.{IsOpeningWorld}
use Rattle.law_opening.specs.Below.fkv_core.Worlds.{WorldModel, took_place}
use Rattle.law_opening.specs.Below.fkv_core.Actor.TheVariants.{Keeper, Session}
use Rattle.law_opening.specs.Below.fkv_core.Actor.{Actor}
use Rattle.law_opening.specs.Below.fkv_core.Event as asked
use Rattle.law_opening.specs.Below.fkv_core.TheTold.{Told}
use Rattle.law_opening.specs.Below.fkv_opening.TheOpened.{Opened}
use Rattle.law_opening.specs.Below.fkv_world.Runs as runs
use Rattle.law_opening.specs.Below.fkv_world.Runs.{happens, run}
use Rattle.law_opening.specs.Below.fkv_world.World.{Event, Now}
use Rattle.law_answers.specs.Answered.Answers.{GetsAnswer, TellsAnswer}
use Rattle.law_answers.specs.Answered.Calls.{IsFinished, IsStartOf, IsStepped, IsThere}
use Rattle.law_answers.specs.Answered.Lives.{IsOfLife}

-- an event that takes a call out of its actor's hand gives its answer
abbrev pub CallsGetTheirAnswer : Type 0
CallsGetTheirAnswer =
    (w : runs.World) (event : Event) (actor : Actor) → in_hand w.now actor ≡ true → (happens w event).now.crashed ≡ false
    → in_hand (happens w event).now actor ≡ false → GetsAnswer actor w (happens w event)

-- one that gives no answer leaves it in hand
abbrev pub CallsStayInHand : Type 0
CallsStayInHand =
    (w : runs.World) (event : Event) (actor : Actor) → in_hand w.now actor ≡ true → (happens w event).now.crashed ≡ false
    → answers_of (happens w event).past.trace ≡ answers_of w.past.trace → in_hand (happens w event).now actor ≡ true

-- and so do moves of that actor alone
abbrev pub MovesLeaveCallsInHand : Type 0
MovesLeaveCallsInHand =
    (w : runs.World) (actor : Actor) (moves : List Move) → in_hand w.now actor ≡ true
    → answers_of (run w (moves_of actor moves)).past.trace ≡ answers_of w.past.trace → in_hand (run w (moves_of actor moves)).now actor ≡ true

-- a step that begins a call tells its answer or leaves it in hand
abbrev pub CallsAreAnsweredOrInHand : {D : Type 0} → (D → Type 0) → (D → List ℕ) → (D → List ℕ → Type 0) → (D → ℕ) → (D → ℕ → Bool) → (D → List Kind → Foretold) → WorldModel D → Type 0
CallsAreAnsweredOrInHand {D} honest seen may_leave failed refuses expects world =
    (its : asked.Event) (actor : Actor) (after : WorldModel D) (told : Option Told) → IsStepped honest seen may_leave failed refuses expects its world after told
    → IsStartOf actor its → IsThere world.now actor → world.now.crashed ≡ false → in_hand world.now actor ≡ false
    → TellsAnswer actor told ⊎ ((told ≡ None) × (in_hand after.now actor ≡ true))

-- finishing a session's call tells its answer
abbrev pub FinishTellsASession : {D : Type 0} → (D → Type 0) → (D → List ℕ) → (D → List ℕ → Type 0) → (D → ℕ) → (D → ℕ → Bool) → WorldModel D → Type 0
FinishTellsASession {D} honest seen may_leave failed refuses world =
    (opening : runs.World) (start : ℕ) (events : List Event) (number : ℕ) (after : WorldModel D) (told : Option Told) → IsOfLife honest seen may_leave opening start events world
    → in_hand world.now (Session number) ≡ true → IsFinished honest seen may_leave failed refuses (Session number) world after told → TellsAnswer (Session number) told

-- and so does finishing the keeper's
abbrev pub FinishTellsTheKeeper : {D : Type 0} → (D → Type 0) → (D → List ℕ) → (D → List ℕ → Type 0) → (D → ℕ) → (D → ℕ → Bool) → WorldModel D → Type 0
FinishTellsTheKeeper {D} honest seen may_leave failed refuses world =
    (opening : runs.World) (start : ℕ) (events : List Event) (after : WorldModel D) (told : Option Told) → IsOfLife honest seen may_leave opening start events world
    → opening.now.keeper.seek.sessions ≤ max_sessions
    → in_hand world.now Keeper ≡ true → IsFinished honest seen may_leave failed refuses Keeper world after told → TellsAnswer Keeper told

-- a life goes on behind a step
abbrev pub LifeGoesOnByAStep : {D : Type 0} → (D → Type 0) → (D → List ℕ) → (D → List ℕ → Type 0) → (D → ℕ) → (D → ℕ → Bool) → (D → List Kind → Foretold) → WorldModel D → Type 0
LifeGoesOnByAStep {D} honest seen may_leave failed refuses expects world =
    (opening : runs.World) (start : ℕ) (events : List Event) (its : asked.Event) (after : WorldModel D) (told : Option Told) → IsOfLife honest seen may_leave opening start events world
    → (step : IsStepped honest seen may_leave failed refuses expects its world after told) → honest after.device
    → IsOfLife honest seen may_leave opening start (took_place its step.granted step.done ∷ events) after

-- and behind the moves that finish a call
abbrev pub LifeGoesOnByAFinish : {D : Type 0} → (D → Type 0) → (D → List ℕ) → (D → List ℕ → Type 0) → (D → ℕ) → (D → ℕ → Bool) → WorldModel D → Type 0
LifeGoesOnByAFinish {D} honest seen may_leave failed refuses world =
    (opening : runs.World) (start : ℕ) (events : List Event) (actor : Actor) (after : WorldModel D) (told : Option Told) → IsOfLife honest seen may_leave opening start events world
    → (alone : IsFinished honest seen may_leave failed refuses actor world after told) → honest after.device
    → IsOfLife honest seen may_leave opening start (moves_of actor alone.moves ++ events) after

-- the keeper seeks the points of no more sessions than a store may have
abbrev pub KeeperSeeksFew : Type 0
KeeperSeeksFew =
    (o : Opened) (n : Now) → IsOpeningWorld o n → n.keeper.seek.sessions ≤ max_sessions

-- nor of more than this store has
abbrev pub KeeperSeeksThoseThere : Type 0
KeeperSeeksThoseThere =
    (o : Opened) (n : Now) → IsOpeningWorld o n → n.keeper.seek.sessions ≤ n.places.sessions
