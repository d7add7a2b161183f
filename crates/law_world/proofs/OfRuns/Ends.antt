-- Why a machine that moves has fewer asks left, and so comes to the end of its call.
use Rattle.std.proofs.Common.{◌≡◌, ◌∙◌, ap, sym, subst, refl, arith, ℕ, zero, suc, ◌-◌, ◌<◌, ◌≤◌, inl, inr, Bool, true, false, List, [], ◌∷◌}
use Rattle.std.specs.Prelude.{Option, Some, None, slice_get}
use Rattle.std.proofs.lemmas.Bool.{cases_lt}
use Rattle.fkv_base.specs.declared.shapes.Shape.{Shape}
use Rattle.fkv_epoch.specs.Claiming.{takes_action}
use Rattle.fkv_keeper.specs.declared.answers.KeeperTold.{KeeperTold}
use Rattle.fkv_keeper.specs.declared.answers.KeeperTold.TheVariants as keeper_told
use Rattle.fkv_keeper.specs.declared.answers.KeeperTold.TheVariants.{Device}
use Rattle.fkv_keeper.specs.Answers.{is_busy}
use Rattle.fkv_keeper.specs.KeeperAsks.{keeper_asks_left}
use Rattle.fkv_keeper.specs.Keeping.{KeeperState, keeper_ask}
use Rattle.fkv_keeper.proofs.Shown.{keeper_called_fewer, keeper_fewer, keeper_given_fewer, keeper_left}
use Rattle.fkv_plane.specs.declared.actions.Action.{Action}
use Rattle.fkv_plane.specs.declared.asks.Ask.{Ask}
use Rattle.fkv_plane.specs.declared.asks.Ask.TheVariants.{Put, Take, Done}
use Rattle.fkv_plane.specs.declared.places.Places.{Places}
use Rattle.fkv_plane.specs.Asked.{reply_to}
use Rattle.fkv_plane.specs.Passing.{is_done, passed}
use Rattle.fkv_plane.specs.Plane.{action_at}
use Rattle.fkv_session.specs.AsksLeft.{session_asks_left}
use Rattle.fkv_session.specs.declared.answers.Told.{Told}
use Rattle.fkv_session.specs.declared.sessions.Sitting.{Sitting}
use Rattle.fkv_session.specs.declared.sessions.Sitting.TheVariants.{Turns}
use Rattle.fkv_session.specs.OwnTurns.{own_turn_ask}
use Rattle.fkv_session.specs.Sessions.{SessionState, Seat, session_ask, session_given, sitting_ask, sitting_given}
use Rattle.fkv_session.proofs.Shown.{session_fewer, session_given_fewer, session_left}
use Rattle.fkv_map.specs.declared.operations.Call.TheVariants as call
use Rattle.fkv_epoch.proofs.Shown.{some_same}
use Rattle.fkv_world.specs.Actors.{is_of_keeper, is_of_session}
use Rattle.fkv_world.proofs.Shown.{same_seat, lives, keeper_apart, places_stay, session_apart, shape_stays}
use Rattle.law_world.specs.Runs.Ends.{IsFreeToMove, KeeperStandsAtNoSlot, asks_left_of_keeper, StandsAtNone, StandsAtNoSlot, asks_left_of, left_at, moves_alone}
use Rattle.fkv_world.specs.Runs.{World, happens, read_by_keeper, run}
use Rattle.fkv_world.specs.World.{Event, KeeperMoves, Moves, Now, life_goes, near, seat_at, with_keeper, with_session}
use Rattle.law_world.proofs.OfRuns.Nothing.{no_session}
use Rattle.fkv_epoch.proofs.Shown.{item_written}
use Rattle.fkv_world.specs.Moves.{Near, keeper_asks, keeper_gets, keeper_moved, keeper_replied, keeper_settled, session_asks, session_gets, session_moved, session_replied, session_settled}

-- a machine inside that takes an action does so for the machine around it
takes_inside : {A B : Type 0} (ask : Ask A) (told : B) → takes_action (passed ask told) ≡ takes_action ask
unfolding passed
takes_inside (Take slot) told = refl
takes_inside (Done its) told = refl
takes_inside ask told = refl

-- an action that a session is given leaves no more asks
given_at : (k : Seat) (s : SessionState) (action : Action) (step : Sitting) → s.step ≡ step → takes_action (sitting_ask k s step) ≡ true → session_asks_left k (sitting_given k s step action) ≤ session_asks_left k s
unfolding sitting_ask sitting_given
given_at k s action (Turns its) at takes =
    let fewer = session_given_fewer k s its action at (sym (takes_inside (own_turn_ask k.shape s.own_turn) its) ∙ takes) in
    let same : sitting_given k s s.step action ≡ sitting_given k s (Turns its) action = ap (λ (step : Sitting). sitting_given k s step action) at in
    let left = ap (session_asks_left k) same in
    omega (arith, fewer, left)
given_at k s action step at takes = omega arith

given_no_more : (k : Seat) (s : SessionState) (action : Action) → takes_action (session_ask k s) ≡ true → session_asks_left k (session_given k s action) ≤ session_asks_left k s
given_no_more k s action takes = given_at k s action s.step refl takes

gets_no_more : (k : Seat) (s : SessionState) (found : Option Action) → takes_action (session_ask k s) ≡ true → session_asks_left k (session_gets k s found) ≤ session_asks_left k s
gets_no_more k s None takes = omega arith
gets_no_more k s (Some action) takes = given_no_more k s action takes

-- what goes with an ask leaves no more
settled_no_more : (k : Seat) (n : Near SessionState) (ask : Ask Told) → session_ask k n.machine ≡ ask → session_asks_left k (session_settled k n ask).machine ≤ session_asks_left k n.machine
unfolding session_settled
settled_no_more k n (Put slot action) e =
    let some = (session_left k n.machine).0 (ap is_done e) in
    let fewer = session_fewer k n.machine 0 (ap takes_action e) some in
    omega (arith, fewer)
settled_no_more k n (Take slot) e = gets_no_more k n.machine (action_at n.actions slot) (ap takes_action e)
settled_no_more k n ask e = omega arith

asks_fewer : (k : Seat) (n : Near SessionState) (ask : Ask Told) → session_ask k n.machine ≡ ask → 0 < session_asks_left k n.machine → takes_action ask ≡ false
    → session_asks_left k (session_asks k n ask).machine < session_asks_left k n.machine
unfolding session_asks session_settled
asks_fewer k n (Done its) e some takes = let asks = (session_left k n.machine).1 some in let done : is_done (session_ask k n.machine) ≡ true = ap is_done e in cc
asks_fewer k n (Put slot action) e some takes = session_fewer k n.machine 0 (ap takes_action e) some
asks_fewer k n (Take slot) e some takes = cc
asks_fewer k n ask e some takes =
    let next : Near SessionState = session_replied k n ask in
    let first = session_fewer k n.machine (reply_to n.words ask) (ap takes_action e ∙ takes) some in
    let then = settled_no_more k next (session_ask k next.machine) refl in
    omega (arith, first, then)

-- a session's move
pub session_moves_on : (k : Seat) (n : Near SessionState) → 0 < session_asks_left k n.machine → takes_action (session_ask k n.machine) ≡ false → session_asks_left k (session_moved k n).machine < session_asks_left k n.machine
session_moves_on k n some takes = asks_fewer k n (session_ask k n.machine) refl some takes

-- the keeper likewise
keeper_gets_no_more : (shape : Shape) (p : Places) (s : KeeperState) (found : Option Action) → takes_action (keeper_ask shape p s) ≡ true → keeper_asks_left shape p (keeper_gets shape p s found) ≤ keeper_asks_left shape p s
keeper_gets_no_more shape p s None takes = omega arith
keeper_gets_no_more shape p s (Some action) takes = let fewer = keeper_given_fewer shape p s action takes in omega (arith, fewer)

keeper_settled_no_more : (shape : Shape) (p : Places) (granted : Bool) (n : Near KeeperState) (ask : Ask KeeperTold) → keeper_ask shape p n.machine ≡ ask
    → keeper_asks_left shape p (keeper_settled shape p granted n ask).machine ≤ keeper_asks_left shape p n.machine
unfolding keeper_settled
keeper_settled_no_more shape p granted n (Put slot action) e = let fewer = keeper_fewer shape p n.machine 0 granted (ap is_done e) (ap takes_action e) in omega (arith, fewer)
keeper_settled_no_more shape p granted n (Take slot) e = keeper_gets_no_more shape p n.machine (action_at n.actions slot) (ap takes_action e)
keeper_settled_no_more shape p granted n ask e = omega arith

-- an ask that is no answer is followed by fewer
keeper_replied_fewer : (shape : Shape) (p : Places) (granted : Bool) (n : Near KeeperState) (ask : Ask KeeperTold) → keeper_ask shape p n.machine ≡ ask → is_done ask ≡ false → takes_action ask ≡ false
    → keeper_asks_left shape p (keeper_settled shape p granted (keeper_replied shape p granted n ask) (keeper_ask shape p (keeper_replied shape p granted n ask).machine)).machine < keeper_asks_left shape p n.machine
keeper_replied_fewer shape p granted n ask e asks takes =
    let next : Near KeeperState = keeper_replied shape p granted n ask in
    let first = keeper_fewer shape p n.machine (reply_to n.words ask) granted (ap is_done e ∙ asks) (ap takes_action e ∙ takes) in
    let then = keeper_settled_no_more shape p granted next (keeper_ask shape p next.machine) refl in
    omega (arith, first, then)

-- one that has ended has none left
ended_so : {X : Type 0} (shape : Shape) (p : Places) (s : KeeperState) (ask : Ask KeeperTold) → keeper_ask shape p s ≡ ask → is_busy ask ≡ false → 0 < keeper_asks_left shape p s → X
ended_so shape p s ask e idle some = let busy = (keeper_left shape p s).1 some in let its : is_busy (keeper_ask shape p s) ≡ false = ap is_busy e ∙ idle in cc

keeper_asks_fewer : (shape : Shape) (p : Places) (granted done : Bool) (read : List ℕ) (n : Near KeeperState) (ask : Ask KeeperTold) → keeper_ask shape p n.machine ≡ ask → 0 < keeper_asks_left shape p n.machine
    → takes_action ask ≡ false → keeper_asks_left shape p (keeper_asks shape p granted done read n ask).machine < keeper_asks_left shape p n.machine
unfolding keeper_asks keeper_settled
keeper_asks_fewer shape p granted done read n (Done Device) e some takes = keeper_called_fewer shape p n.machine done read e
keeper_asks_fewer shape p granted done read n (Done (keeper_told.Turned finished full)) e some takes = ended_so shape p n.machine _ e refl some
keeper_asks_fewer shape p granted done read n (Done (keeper_told.TurnRefused why)) e some takes = ended_so shape p n.machine _ e refl some
keeper_asks_fewer shape p granted done read n (Done (keeper_told.Begun number)) e some takes = ended_so shape p n.machine _ e refl some
keeper_asks_fewer shape p granted done read n (Done (keeper_told.CommitRefused why)) e some takes = ended_so shape p n.machine _ e refl some
keeper_asks_fewer shape p granted done read n (Put slot action) e some takes = keeper_fewer shape p n.machine 0 granted (ap is_done e) (ap takes_action e)
keeper_asks_fewer shape p granted done read n (Take slot) e some takes = cc
keeper_asks_fewer shape p granted done read n ask e some takes = keeper_replied_fewer shape p granted n ask e refl takes

pub keeper_moves_on : (shape : Shape) (p : Places) (granted done : Bool) (read : List ℕ) (n : Near KeeperState) → 0 < keeper_asks_left shape p n.machine → takes_action (keeper_ask shape p n.machine) ≡ false
    → keeper_asks_left shape p (keeper_moved shape p granted done read n).machine < keeper_asks_left shape p n.machine
keeper_moves_on shape p granted done read n some takes = keeper_asks_fewer shape p granted done read n (keeper_ask shape p n.machine) refl some takes

-- none left: nothing is asked, and a move changes nothing
done_stays : (k : Seat) (n : Near SessionState) (ask : Ask Told) → is_done ask ≡ true → session_asks k n ask ≡ n
unfolding session_asks
done_stays k n (Done its) e = refl
done_stays k n ask e = cc

none_asks : (k : Seat) (s : SessionState) (b : Bool) → is_done (session_ask k s) ≡ b → session_asks_left k s ≡ 0 → b ≡ true
none_asks k s true e none = refl
none_asks k s false e none = let some = (session_left k s).0 e in absurd (omega (arith, some, none))

-- a move leaves one ask fewer, if there are any
pub session_moves_down : (k : Seat) (n : Near SessionState) → takes_action (session_ask k n.machine) ≡ false → session_asks_left k (session_moved k n).machine ≤ session_asks_left k n.machine - 1
session_moves_down k n takes = elim (cases_lt 0 (session_asks_left k n.machine)) [
  | inl some ↦ let fewer = session_moves_on k n some takes in omega (arith, fewer)
  | inr none ↦
      let zero_left : session_asks_left k n.machine ≡ 0 = omega (arith, none) in
      let over : is_done (session_ask k n.machine) ≡ true = none_asks k n.machine (is_done (session_ask k n.machine)) refl zero_left in
      let same = ap (λ (m : Near SessionState). session_asks_left k m.machine) (done_stays k n (session_ask k n.machine) over) in
      omega (arith, same, zero_left)
]

-- so it is in the world
goes_moves : (n : Now) (read : List ℕ) (session : ℕ) (its : SessionState) → slice_get n.sessions session ≡ Some its → life_goes n read (Moves session) ≡ with_session n session (session_moved (seat_at n session) (near n its))
unfolding life_goes
goes_moves n read session its found = rw found refl

moved_so : (w : World) (session : ℕ) (its : SessionState) → w.now.crashed ≡ false → slice_get w.now.sessions session ≡ Some its
    → (happens w (Moves session)).now ≡ with_session w.now session (session_moved (seat_at w.now session) (near w.now its))
moved_so w session its alive found = lives w (Moves session) alive ∙ goes_moves w.now (read_by_keeper w) session its found

pub session_down : (w : World) (session : ℕ) → w.now.crashed ≡ false → StandsAtNoSlot w.now session → asks_left_of (happens w (Moves session)).now session ≤ asks_left_of w.now session - 1
session_down w session alive free = by (slice_get w.now.sessions session) refl
  where
    by : (found : Option SessionState) → slice_get w.now.sessions session ≡ found → asks_left_of (happens w (Moves session)).now session ≤ asks_left_of w.now session - 1
    by None got =
        let same = ap (λ (after : World). asks_left_of after.now session) (no_session w session call.Poll got).1 in
        let none : asks_left_of w.now session ≡ 0 = ap (left_at w.now session) got in
        omega (arith, same, none)
    by (Some its) got =
        let k : Seat = seat_at w.now session in
        let next : Near SessionState = session_moved k (near w.now its) in
        let before : asks_left_of w.now session ≡ session_asks_left k its = ap (left_at w.now session) got in
        let down = session_moves_down k (near w.now its) (subst (StandsAtNone w.now session) got free) in
        let gone : asks_left_of (happens w (Moves session)).now session ≡ asks_left_of (with_session w.now session next) session = ap (λ (n : Now). asks_left_of n session) (moved_so w session its alive got) in
        let put : asks_left_of (with_session w.now session next) session ≡ session_asks_left k next.machine = ap (left_at (with_session w.now session next) session) (item_written w.now.sessions session its next.machine got) in
        omega (arith, down, before, gone, put)

-- a move ends no life
still_alive : (w : World) (session : ℕ) → w.now.crashed ≡ false → (happens w (Moves session)).now.crashed ≡ false
still_alive w session alive = by (slice_get w.now.sessions session) refl
  where
    by : (found : Option SessionState) → slice_get w.now.sessions session ≡ found → (happens w (Moves session)).now.crashed ≡ false
    by None got = ap (λ (after : World). after.now.crashed) (no_session w session call.Poll got).1 ∙ alive
    by (Some its) got = ap (λ (n : Now). n.crashed) (moved_so w session its alive got) ∙ alive

alone_alive : (w : World) (session count : ℕ) → w.now.crashed ≡ false → (moves_alone w session count).now.crashed ≡ false
unfolding run
alone_alive w session zero alive = alive
alone_alive w session (suc count) alive = still_alive (moves_alone w session count) session (alone_alive w session count alive)

-- so many moves, so many asks fewer
pub moves_end : (w : World) (session count : ℕ) → w.now.crashed ≡ false → IsFreeToMove w session count → asks_left_of (moves_alone w session count).now session ≤ asks_left_of w.now session - count
unfolding run
moves_end w session zero alive free = omega arith
moves_end w session (suc count) alive free =
    let before : World = moves_alone w session count in
    let so_far = moves_end w session count alive (λ k small. free k (omega (arith, small))) in
    let down = session_down before session (alone_alive w session count alive) (free count (omega arith)) in
    omega (arith, so_far, down)

-- the keeper's move
pub goes_keeper : (n : Now) (read : List ℕ) (granted done : Bool) → life_goes n read (KeeperMoves granted done) ≡ with_keeper n (keeper_moved n.shape n.places granted done read (near n n.keeper))
unfolding life_goes
goes_keeper n read granted done = refl

pub keeper_down : (w : World) (granted done : Bool) → w.now.crashed ≡ false → 0 < asks_left_of_keeper w.now → KeeperStandsAtNoSlot w.now → asks_left_of_keeper (happens w (KeeperMoves granted done)).now < asks_left_of_keeper w.now
keeper_down w granted done alive some free =
    let fewer = keeper_moves_on w.now.shape w.now.places granted done (read_by_keeper w) (near w.now w.now.keeper) some free in
    let gone = ap asks_left_of_keeper (lives w (KeeperMoves granted done) alive ∙ goes_keeper w.now (read_by_keeper w) granted done) in
    omega (arith, fewer, gone)

-- others leave it
pub others_leave : (w : World) (event : Event) (session : ℕ) → is_of_session session event ≡ false → asks_left_of (happens w event).now session ≡ asks_left_of w.now session
unfolding run
others_leave w event session other =
    let seat : seat_at (happens w event).now session ≡ seat_at w.now session = same_seat w (event ∷ []) session in
    let there = session_apart w event session other in
    by (slice_get w.now.sessions session) (slice_get (happens w event).now.sessions session) there seat
  where
    by : (found after : Option SessionState) → after ≡ found → seat_at (happens w event).now session ≡ seat_at w.now session → left_at (happens w event).now session after ≡ left_at w.now session found
    by None None same seat = refl
    by (Some its) (Some next) same seat = let it : next ≡ its = some_same next its same in rw (it, seat) refl
    by None (Some next) same seat = cc
    by (Some its) None same seat = cc

pub others_leave_keeper : (w : World) (event : Event) → is_of_keeper event ≡ false → asks_left_of_keeper (happens w event).now ≡ asks_left_of_keeper w.now
unfolding run
others_leave_keeper w event other =
    let shape = shape_stays w (event ∷ []) in
    let places = places_stay w (event ∷ []) in
    let its = keeper_apart w event other in
    ap (λ (s : KeeperState). keeper_asks_left (happens w event).now.shape (happens w event).now.places s) its
    ∙ ap (λ (p : Places). keeper_asks_left (happens w event).now.shape p w.now.keeper) places ∙ ap (λ (shape : Shape). keeper_asks_left shape w.now.places w.now.keeper) shape
