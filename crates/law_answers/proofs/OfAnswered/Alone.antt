-- No call of a life makes as many moves as a count has numbers.
use Rattle.std.proofs.Common.{◌≡◌, ℕ, suc, ◌-◌, ◌^◌, ◌<◌, ◌≤◌, ◌∙◌, refl, sym, ap, subst, arith, List, [], ◌∷◌, ◌++◌, length, true, false}
use Rattle.std.specs.Prelude.{Option, Some, None, replicate, slice_get}
use Rattle.fkv_base.specs.Limits.{max_sessions}
use Rattle.fkv_base.specs.declared.shapes.Shape.{Shape}
use Rattle.law_opening.specs.Below.fkv_keeper.KeeperRun.{is_in_hand}
use Rattle.law_opening.specs.Below.fkv_session.Sessions.{SessionState, is_busy}
use Rattle.law_opening.specs.Below.law_world.Runs.Ends.{asks_left_of, asks_left_of_keeper, moves_alone}
use Rattle.law_opening.specs.Below.fkv_world.Runs.{World, run}
use Rattle.law_opening.specs.Below.fkv_world.World.{Event, Moves}
use Rattle.law_opening.proofs.Below.law_world.OfRuns.Nothing.{none_ever}
use Rattle.law_opening.proofs.Below.law_world.OfRuns.Lives.{runs_on}
use Rattle.law_opening.specs.Below.law_world.Guarded.EndsAlone.{AreKeeperMoves, most_keeper_asks, most_session_asks}
use Rattle.law_opening.specs.Below.law_world.Guarded.OpenedStore.{IsOpenedStore}
use Rattle.law_opening.specs.Below.law_world.Guarded.Shows.{IsOpened}
use Rattle.law_opening.specs.Below.fkv_core.Actor.TheVariants.{Session, Keeper}
use Rattle.law_opening.specs.Below.fkv_core.Alone.{Move, in_hand, moves_of}
use Rattle.law_answers.proofs.OfAnswered.OneEvent.{IsBusy, busy_of, call_of}

-- the moves, in the words of the law by which they end
as_alone : (number : ℕ) (moves : List Move) → moves_of (Session number) moves ≡ replicate (length moves) (Moves number)
as_alone number [] = refl
as_alone number (move ∷ before) = ap (λ (events : List Event). Moves number ∷ events) (as_alone number before)

are_keepers : (moves : List Move) → AreKeeperMoves (moves_of Keeper moves)
are_keepers [] = tt
are_keepers (move ∷ before) = (tt, are_keepers before)

as_many : (moves : List Move) → length (moves_of Keeper moves) ≡ length moves
as_many [] = refl
as_many (move ∷ before) = ap suc (as_many before)

-- what `law_world_ends` says
abbrev pub SessionsEnd : Type 0
SessionsEnd = (opening : World) (start : ℕ) (events : List Event) (session count : ℕ) (first its : SessionState) → IsOpened opening.now start → (run opening events).now.crashed ≡ false
    → asks_left_of (run opening events).now session ≤ count → slice_get opening.now.sessions session ≡ Some first
    → slice_get (moves_alone (run opening events) session count).now.sessions session ≡ Some its → is_busy its.step ≡ false

abbrev pub SessionsAskFew : Type 0
SessionsAskFew = (opening : World) (start : ℕ) (events : List Event) (session : ℕ) → IsOpenedStore opening start → asks_left_of (run opening events).now session ≤ most_session_asks opening.now.shape

abbrev pub ShapesAskFew : Type 0
ShapesAskFew = (shape : Shape) → most_session_asks shape < 2 ^ 64 - 1

abbrev pub KeepersEnd : Type 0
KeepersEnd = (opening : World) (start : ℕ) (events moves : List Event) → IsOpened opening.now start → AreKeeperMoves moves → (run opening events).now.crashed ≡ false
    → asks_left_of_keeper (run opening events).now ≤ length moves → is_in_hand (run (run opening events) moves).now.keeper.step ≡ false

abbrev pub KeepersAskFew : Type 0
KeepersAskFew = (opening : World) (start : ℕ) (events : List Event) → IsOpened opening.now start → asks_left_of_keeper (run opening events).now ≤ most_keeper_asks opening.now.shape opening.now.places opening.now.keeper

abbrev pub StoresAskFew : Type 0
StoresAskFew = (opening : World) (start : ℕ) → IsOpened opening.now start → opening.now.keeper.seek.sessions ≤ max_sessions → most_keeper_asks opening.now.shape opening.now.places opening.now.keeper < 2 ^ 64 - 1

enough : (left most many : ℕ) → left ≤ most → most < 2 ^ 64 - 1 → many ≡ 2 ^ 64 - 1 → left ≤ many
enough left most many few small same = omega (arith, few, small, same)

-- a session whose call is in hand has not made so many
first_ends : SessionsEnd → SessionsAskFew → ShapesAskFew → (opening : World) (start : ℕ) (events : List Event) (number : ℕ) (moves : List Move) (first : Option SessionState) → IsOpenedStore opening start
    → (run opening events).now.crashed ≡ false → length moves ≡ 2 ^ 64 - 1 → slice_get opening.now.sessions number ≡ first → IsBusy (moves_alone (run opening events) number (length moves)).now number → ⊥
first_ends ends few small opening start events number moves None store alive many was is =
    let later : List Event = replicate (length moves) (Moves number) in
    let none : slice_get (run opening (later ++ events)).now.sessions number ≡ None = none_ever opening (later ++ events) number was in
    let clash : Some is.its ≡ None = sym is.found ∙ (ap (λ (w : World). slice_get w.now.sessions number) (sym (runs_on opening later events)) ∙ none) in
    cc
first_ends ends few small opening start events number moves (Some first) store alive many was is =
    let left = enough (asks_left_of (run opening events).now number) (most_session_asks opening.now.shape) (length moves) (few opening start events number store) (small opening.now.shape) many in
    let idle : is_busy is.its.step ≡ false = ends opening start events number (length moves) first is.its store.now alive left was is.found in
    let busy : is_busy is.its.step ≡ true = is.busy in
    cc

pub session_rests : SessionsEnd → SessionsAskFew → ShapesAskFew → (opening : World) (start : ℕ) (events : List Event) (number : ℕ) (moves : List Move) → IsOpenedStore opening start
    → (run opening events).now.crashed ≡ false → in_hand (run (run opening events) (moves_of (Session number) moves)).now (Session number) ≡ true → length moves ≡ 2 ^ 64 - 1 → ⊥
session_rests ends few small opening start events number moves store alive busy many =
    let alone : in_hand (moves_alone (run opening events) number (length moves)).now (Session number) ≡ true =
    subst (λ (own : List Event). in_hand (run (run opening events) own).now (Session number) ≡ true) (as_alone number moves) busy in
    first_ends ends few small opening start events number moves (slice_get opening.now.sessions number) store alive many refl (busy_of (moves_alone (run opening events) number (length moves)).now number alone)

-- nor has the keeper
pub keeper_rests : KeepersEnd → KeepersAskFew → StoresAskFew → (opening : World) (start : ℕ) (events : List Event) (moves : List Move) → IsOpenedStore opening start → opening.now.keeper.seek.sessions ≤ max_sessions
    → (run opening events).now.crashed ≡ false → in_hand (run (run opening events) (moves_of Keeper moves)).now Keeper ≡ true → length moves ≡ 2 ^ 64 - 1 → ⊥
keeper_rests ends few small opening start events moves store seeks alive busy many =
    let left = enough (asks_left_of_keeper (run opening events).now) (most_keeper_asks opening.now.shape opening.now.places opening.now.keeper) (length (moves_of Keeper moves)) (few opening start events store.now)
    (small opening start store.now seeks) (as_many moves ∙ many) in
    let idle : is_in_hand (run (run opening events) (moves_of Keeper moves)).now.keeper.step ≡ false = ends opening start events (moves_of Keeper moves) store.now (are_keepers moves) alive left in
    let call : is_in_hand (run (run opening events) (moves_of Keeper moves)).now.keeper.step ≡ true = call_of (run (run opening events) (moves_of Keeper moves)).now Keeper busy in
    cc
