-- Whoever is moved alone is told its answer.
use Rattle.std.proofs.Common.{◌≡◌, ℕ, ◌-◌, ◌^◌, ◌≤◌, ◌∙◌, sym, ap, subst, inl, inr, ◌⊎◌, List, ◌∷◌, ◌++◌, length, Bool, true, false}
use Rattle.std.specs.Prelude.{Option, None}
use Rattle.fkv_base.specs.Limits.{max_sessions}
use Rattle.fkv_disk.specs.Kinds.{Foretold, Kind}
use Rattle.law_opening.specs.Below.fkv_world.Past.{Answered, KeeperAnswered, TraceEvent}
use Rattle.law_opening.specs.Below.fkv_world.Runs.{World, run}
use Rattle.law_opening.specs.Below.fkv_world.World.{Event, Now}
use Rattle.law_opening.proofs.Below.law_world.OfRuns.Lives.{runs_on}
use Rattle.law_opening.specs.Below.fkv_core.Actor.{Actor}
use Rattle.law_opening.specs.Below.fkv_core.Actor.TheVariants.{Session, Keeper}
use Rattle.law_opening.specs.Below.fkv_core.Event as asked
use Rattle.law_opening.specs.Below.fkv_core.TheTold.{Told}
use Rattle.law_opening.specs.Below.fkv_core.Alone.{Move, in_hand, moves_of}
use Rattle.law_opening.specs.Below.fkv_core.Lives.{IsAnswerSaid, IsSaid, answers_of}
use Rattle.law_opening.specs.Below.fkv_core.Worlds.{WorldModel, took_place}
use Rattle.law_answers.specs.Answered.Answers.{IsAnswerOf, TellsAnswer}
use Rattle.law_answers.specs.Answered.Calls.{IsFinished, IsStepped}
use Rattle.law_answers.specs.Answered.Lives.{IsOfLife}
use Rattle.law_answers.proofs.OfAnswered.Alone.{KeepersAskFew, KeepersEnd, SessionsAskFew, SessionsEnd, ShapesAskFew, StoresAskFew, keeper_rests, session_rests}
use Rattle.law_answers.proofs.OfAnswered.Begun.{keeper_tells}
use Rattle.law_answers.proofs.OfAnswered.Moved.{IsMovedOn, last_own, moved_on, none_more}
use Rattle.law_answers.proofs.OfAnswered.OneEvent.{alive_of}

-- the actor's answer, as it is said
said_of : (actor : Actor) (its : TraceEvent) (told : Option Told) → IsAnswerOf actor its → IsAnswerSaid its told → TellsAnswer actor told
said_of (Session number) (Answered session its) told own said = subst (λ (it : Option Told). TellsAnswer (Session number) it) (sym said.1) own
said_of Keeper (KeeperAnswered its last) told own said = subst (λ (it : Option Told). TellsAnswer Keeper it) (sym said.3) (keeper_tells its last said.0 said.1 said.2)
said_of (Session number) its told own said = absurd own
said_of Keeper its told own said = absurd own

-- it is not that nothing is told
not_silent : (actor : Actor) (now after : Now) (many : Type 0) → now ≡ after → in_hand now actor ≡ true → (in_hand after actor ≡ false) ⊎ many → (many → ⊥) → ⊥
not_silent actor now after many shows busy (inl idle) few = let none : in_hand now actor ≡ false = ap (λ (n : Now). in_hand n actor) shows ∙ idle in cc
not_silent actor now after many shows busy (inr so_many) few = few so_many

is_told : (actor : Actor) (w behind : World) (after : Now) (told : Option Told) (many : Type 0) → IsMovedOn actor w behind → in_hand w.now actor ≡ true → behind.now ≡ after
    → IsSaid told (answers_of w.past.trace) (answers_of behind.past.trace) → (told ≡ None → (in_hand after actor ≡ false) ⊎ many) → (in_hand behind.now actor ≡ true → many → ⊥) → TellsAnswer actor told
is_told actor w behind after told many its busy shows (inl quiet) rests few =
    let still : in_hand behind.now actor ≡ true = its.stays (none_more its.more (answers_of w.past.trace) (sym its.adds ∙ quiet.1)) busy in
    absurd (not_silent actor behind.now after many shows still (rests quiet.0) (few still))
is_told actor w behind after told many its busy shows (inr came) rests few =
    said_of actor came.0 told (last_own actor its.more (answers_of w.past.trace) came.0 (sym came.1 ∙ its.adds) its.own) came.2

module _ {D : Type 0} (honest : D → Type 0) (seen : D → List ℕ) (may_leave : D → List ℕ → Type 0) (failed : D → ℕ) (refuses : D → ℕ → Bool) (opening : World) (start : ℕ) (events : List Event) (world after : WorldModel D) (told : Option Told) (life : IsOfLife honest seen may_leave opening start events world) where
  tells : (actor : Actor) → in_hand (run opening events).now actor ≡ true → IsFinished honest seen may_leave failed refuses actor world after told
      → ((moves : List Move) → in_hand (run (run opening events) (moves_of actor moves)).now actor ≡ true → length moves ≡ 2 ^ 64 - 1 → ⊥) → TellsAnswer actor told
  tells actor busy its few =
      let w : World = run opening events in
      let led = (its.life life.is_honest opening events life.opened life.shows life.device).led in
      let on : run opening (moves_of actor its.moves ++ events) ≡ run w (moves_of actor its.moves) = runs_on opening (moves_of actor its.moves) events in
      let says = subst (λ (behind : World). IsSaid told (answers_of w.past.trace) (answers_of behind.past.trace)) on led.says in
      let shows : (run w (moves_of actor its.moves)).now ≡ after.now = ap (λ (behind : World). behind.now) (sym on) ∙ led.shows in
      is_told actor w (run w (moves_of actor its.moves)) after.now told (length its.moves ≡ 2 ^ 64 - 1) (moved_on actor w its.moves) busy shows says its.rests (few its.moves)

  busy_there : (actor : Actor) → in_hand world.now actor ≡ true → in_hand (run opening events).now actor ≡ true
  busy_there actor busy = ap (λ (n : Now). in_hand n actor) life.shows ∙ busy

  pub session_tells : SessionsEnd → SessionsAskFew → ShapesAskFew → (number : ℕ) → in_hand world.now (Session number) ≡ true
      → IsFinished honest seen may_leave failed refuses (Session number) world after told → TellsAnswer (Session number) told
  session_tells ends few small number busy its =
      let there = busy_there (Session number) busy in
      tells (Session number) there its (λ moves still many. session_rests ends few small opening start events number moves life.store (alive_of (run opening events).now (Session number) there) still many)

  pub keeper_told : KeepersEnd → KeepersAskFew → StoresAskFew → opening.now.keeper.seek.sessions ≤ max_sessions → in_hand world.now Keeper ≡ true
      → IsFinished honest seen may_leave failed refuses Keeper world after told → TellsAnswer Keeper told
  keeper_told ends few small seeks busy its =
      let there = busy_there Keeper busy in
      tells Keeper there its (λ moves still many. keeper_rests ends few small opening start events moves life.store seeks (alive_of (run opening events).now Keeper there) still many)

  -- the life goes on
  pub goes_on : (expects : D → List Kind → Foretold) (event : asked.Event) → (its : IsStepped honest seen may_leave failed refuses expects event world after told) → honest after.device
      → IsOfLife honest seen may_leave opening start (took_place event its.granted its.done ∷ events) after
  goes_on expects event its still =
      let led = its.life life.is_honest opening events life.opened life.shows life.device in
      record { opened = life.opened; store = life.store; shows = led.shows; device = led.device; is_honest = still }

  pub goes_on_alone : (actor : Actor) → (its : IsFinished honest seen may_leave failed refuses actor world after told) → honest after.device
      → IsOfLife honest seen may_leave opening start (moves_of actor its.moves ++ events) after
  goes_on_alone actor its still =
      let led = (its.life life.is_honest opening events life.opened life.shows life.device).led in
      record { opened = life.opened; store = life.store; shows = led.shows; device = led.device; is_honest = still }
