-- Why a call comes to its end in every life of an opened world, where its machine alone moves: it stands at no slot.
use Rattle.std.proofs.Common.{◌≡◌, ℕ, suc, ◌-◌, ◌<◌, ◌≤◌, ◌∙◌, refl, sym, ap, subst, arith, inl, inr, List, [], ◌∷◌, ◌++◌, Bool, true, false}
use Rattle.std.specs.Prelude.{Option, Some, None, length, replicate, slice_get}
use Rattle.std.proofs.lemmas.Bool.{cases_lt}
use Rattle.std.proofs.lemmas.Nat.{pow_pos}
use Rattle.fkv_base.specs.declared.shapes.Shape.{Shape}
use Rattle.fkv_epoch.specs.Claiming.{takes_action}
use Rattle.fkv_epoch.proofs.Shown.{some_same}
use Rattle.fkv_keeper.specs.declared.answers.KeeperTold.{KeeperTold}
use Rattle.fkv_keeper.specs.declared.answers.KeeperTold.TheVariants as told
use Rattle.fkv_keeper.specs.Answers.{is_busy}
use Rattle.fkv_keeper.specs.KeeperAsks.{keeper_asks_left}
use Rattle.fkv_keeper.specs.Keeping.{KeeperState, keeper_ask}
use Rattle.fkv_keeper.specs.KeeperRun.{is_in_hand, keeper_run}
use Rattle.fkv_keeper.proofs.Shown.{keeper_left, run_ended as keeper_ended}
use Rattle.fkv_plane.specs.declared.asks.Ask.{Ask}
use Rattle.fkv_plane.specs.declared.asks.Ask.TheVariants.{Take, Done}
use Rattle.fkv_plane.specs.declared.places.Places.{Places}
use Rattle.fkv_session.specs.AsksLeft.{session_asks_left}
use Rattle.fkv_session.specs.SessionRun.{session_run}
use Rattle.fkv_session.specs.Sessions.{Seat, SessionState, session_ask, is_busy as session_busy}
use Rattle.fkv_session.proofs.Shown.{run_ended}
use Rattle.fkv_world.specs.Actors.{slot_asked}
use Rattle.law_world.specs.Runs.Ends.{IsFreeToMove, KeeperStandsAtNoSlot, StandsAtNone, StandsAtNoSlot, asks_left_of, asks_left_of_keeper, left_at, moves_alone}
use Rattle.fkv_world.specs.Moves.{Near, keeper_asks, keeper_moved}
use Rattle.fkv_world.specs.OwnEvents.{keeper_events, session_events}
use Rattle.fkv_world.specs.Runs.{World, happens, read_by_keeper, run}
use Rattle.fkv_world.specs.World.{Event, KeeperMoves, Moves, Now, life_goes, near, seat_at, with_keeper}
use Rattle.fkv_world.proofs.Shown.{keeper_runs, lives, places_stay, same_seat, session_runs, shape_stays}
use Rattle.law_world.proofs.OfRuns.Lives.{runs_on}
use Rattle.law_world.specs.Guarded.EndsAlone.{AreKeeperMoves}
use Rattle.law_world.specs.Guarded.Shows.{IsOpened}
use Rattle.law_world.proofs.OfGuarded.Slots.{life_keeper_rests, life_session_rests}

pub takes_none : {A : Type 0} (ask : Ask A) → slot_asked ask ≡ None → takes_action ask ≡ false
takes_none (Take slot) e = cc
takes_none ask e = refl

-- no session and not the keeper stands before a slot
pub life_stands : (first : World) (start : ℕ) (events : List Event) (session : ℕ) → IsOpened first.now start → StandsAtNoSlot (run first events).now session
life_stands first start events session opened = by (slice_get (run first events).now.sessions session) refl
  where
    by : (found : Option SessionState) → slice_get (run first events).now.sessions session ≡ found → StandsAtNone (run first events).now session found
    by None there = tt
    by (Some its) there = takes_none (session_ask (seat_at (run first events).now session) its) (life_session_rests first start events session its opened there)

pub life_keeper_stands : (first : World) (start : ℕ) (events : List Event) → IsOpened first.now start → KeeperStandsAtNoSlot (run first events).now
life_keeper_stands first start events opened =
    takes_none (keeper_ask (run first events).now.shape (run first events).now.places (run first events).now.keeper) (life_keeper_rests first start events opened)

pub life_free : (first : World) (start : ℕ) (events : List Event) (session count : ℕ) → IsOpened first.now start → IsFreeToMove (run first events) session count
life_free first start events session count opened k small =
    subst (λ (w : World). StandsAtNoSlot w.now session) (runs_on first (replicate k (Moves session)) events) (life_stands first start (replicate k (Moves session) ++ events) session opened)

-- the keeper's moves
moves_so : (n : Now) (read : List ℕ) (granted done : Bool) → life_goes n read (KeeperMoves granted done) ≡ with_keeper n (keeper_moved n.shape n.places granted done read (near n n.keeper))
unfolding life_goes
moves_so n read granted done = refl

idle_stays : (shape : Shape) (p : Places) (granted done : Bool) (read : List ℕ) (n : Near KeeperState) (ask : Ask KeeperTold) → is_busy ask ≡ false → keeper_asks shape p granted done read n ask ≡ n
unfolding keeper_asks
idle_stays shape p granted done read n (Done told.Device) e = cc
idle_stays shape p granted done read n (Done (told.Turned finished full)) e = refl
idle_stays shape p granted done read n (Done (told.TurnRefused why)) e = refl
idle_stays shape p granted done read n (Done (told.Begun number)) e = refl
idle_stays shape p granted done read n (Done (told.CommitRefused why)) e = refl
idle_stays shape p granted done read n ask e = cc

none_busy : (n : Now) (b : Bool) → is_busy (keeper_ask n.shape n.places n.keeper) ≡ b → asks_left_of_keeper n ≡ 0 → b ≡ false
none_busy n false e none = refl
none_busy n true e none = let some = (keeper_left n.shape n.places n.keeper).0 e in absurd (omega (arith, some, none))

-- with none left a move changes nothing of it
pub none_stays : (w : World) (granted done : Bool) → w.now.crashed ≡ false → asks_left_of_keeper w.now ≡ 0 → asks_left_of_keeper (happens w (KeeperMoves granted done)).now ≡ 0
none_stays w granted done alive none =
    let n : Now = w.now in
    let idle : is_busy (keeper_ask n.shape n.places n.keeper) ≡ false = none_busy n (is_busy (keeper_ask n.shape n.places n.keeper)) refl none in
    ap asks_left_of_keeper (lives w (KeeperMoves granted done) alive ∙ moves_so n (read_by_keeper w) granted done)
    ∙ ap (λ (m : Near KeeperState). keeper_asks_left n.shape n.places m.machine) (idle_stays n.shape n.places granted done (read_by_keeper w) (near n n.keeper) (keeper_ask n.shape n.places n.keeper) idle)
    ∙ none

still_alive : (w : World) (granted done : Bool) → w.now.crashed ≡ false → (happens w (KeeperMoves granted done)).now.crashed ≡ false
still_alive w granted done alive = ap (λ (n : Now). n.crashed) (lives w (KeeperMoves granted done) alive ∙ moves_so w.now (read_by_keeper w) granted done) ∙ alive

all_alive : (w : World) (moves : List Event) → AreKeeperMoves moves → w.now.crashed ≡ false → (run w moves).now.crashed ≡ false
unfolding run
all_alive w [] are alive = alive
all_alive w (KeeperMoves granted done ∷ before) are alive = still_alive (run w before) granted done (all_alive w before are.1 alive)
all_alive w (event ∷ before) are alive = absurd are.0

-- a move leaves fewer, where there are any
abbrev pub KeeperFewer : Type 0
KeeperFewer = (w : World) (granted done : Bool) → w.now.crashed ≡ false → 0 < asks_left_of_keeper w.now → KeeperStandsAtNoSlot w.now
    → asks_left_of_keeper (happens w (KeeperMoves granted done)).now < asks_left_of_keeper w.now

-- so many moves, so many asks fewer
pub keeper_ends : KeeperFewer → (first : World) (start : ℕ) (events moves : List Event) → IsOpened first.now start → AreKeeperMoves moves → (run first events).now.crashed ≡ false
    → asks_left_of_keeper (run (run first events) moves).now ≤ asks_left_of_keeper (run first events).now - length moves
unfolding run
keeper_ends fewer first start events [] opened are alive = omega arith
keeper_ends fewer first start events (KeeperMoves granted done ∷ before) opened are alive =
    let w : World = run (run first events) before in
    let so_far = keeper_ends fewer first start events before opened are.1 alive in
    let longer : length (KeeperMoves granted done ∷ before) ≡ suc (length before) = refl in
    let alive_there = all_alive (run first events) before are.1 alive in
    let free : KeeperStandsAtNoSlot w.now = subst (λ (v : World). KeeperStandsAtNoSlot v.now) (runs_on first before events) (life_keeper_stands first start (before ++ events) opened) in
    elim (cases_lt 0 (asks_left_of_keeper w.now)) [
      | inl some ↦ let down = fewer w granted done alive_there some free in omega (arith, so_far, down, longer)
      | inr none ↦
          let zero_left : asks_left_of_keeper w.now ≡ 0 = omega (arith, none) in
          let stays = none_stays w granted done alive_there zero_left in
          omega (arith, stays)
    ]
keeper_ends fewer first start events (event ∷ before) opened are alive = absurd are.0

-- a session that has no asks left has no call in hand
pub life_ended : (opening : World) (start : ℕ) (events : List Event) (session : ℕ) (first its : SessionState) → IsOpened opening.now start → slice_get opening.now.sessions session ≡ Some first
    → slice_get (run opening events).now.sessions session ≡ Some its → asks_left_of (run opening events).now session ≡ 0 → session_busy its.step ≡ false
life_ended opening start events session first its opened was now none =
    let n : Now = (run opening events).now in
    let ran = session_run (seat_at opening.now session) first (session_events opening session events) in
    let same : its ≡ ran = some_same its ran (sym now ∙ session_runs opening session first events was) in
    let there : session_asks_left (seat_at n session) its ≡ 0 = ap (left_at n session) (sym now) ∙ none in
    let seated : session_asks_left (seat_at opening.now session) its ≡ 0 = subst (λ (k : Seat). session_asks_left k its ≡ 0) (same_seat opening events session) there in
    let own : session_asks_left (seat_at opening.now session) ran ≡ 0 = subst (λ (s : SessionState). session_asks_left (seat_at opening.now session) s ≡ 0) same seated in
    subst (λ (s : SessionState). session_busy s.step ≡ false) (sym same)
    (run_ended (seat_at opening.now session) first (session_events opening session events) (opened.sessions session first was).none_in_hand own)

pub life_alone : (opening : World) (start : ℕ) (events : List Event) (session count : ℕ) (first its : SessionState) → IsOpened opening.now start → slice_get opening.now.sessions session ≡ Some first
    → slice_get (moves_alone (run opening events) session count).now.sessions session ≡ Some its → asks_left_of (moves_alone (run opening events) session count).now session ≡ 0 → session_busy its.step ≡ false
life_alone opening start events session count first its opened was now none =
    let moves = replicate count (Moves session) in
    let whole = sym (runs_on opening moves events) in
    life_ended opening start (moves ++ events) session first its opened was
    (subst (λ (w : World). slice_get w.now.sessions session ≡ Some its) whole now) (subst (λ (w : World). asks_left_of w.now session ≡ 0) whole none)

-- nor has the keeper, since a store has buckets
pub life_keeper_ended : (opening : World) (start : ℕ) (events : List Event) → IsOpened opening.now start → asks_left_of_keeper (run opening events).now ≡ 0 → is_in_hand (run opening events).now.keeper.step ≡ false
life_keeper_ended opening start events opened none =
    let n : Now = (run opening events).now in
    let own = keeper_events opening events in
    let ran = keeper_run opening.now.shape opening.now.places opening.now.keeper own in
    let same : n.keeper ≡ ran = keeper_runs opening events in
    let its : keeper_asks_left n.shape n.places ran ≡ 0 = subst (λ (s : KeeperState). keeper_asks_left n.shape n.places s ≡ 0) same none in
    let placed : keeper_asks_left n.shape opening.now.places ran ≡ 0 = subst (λ (p : Places). keeper_asks_left n.shape p ran ≡ 0) (places_stay opening events) its in
    let shaped : keeper_asks_left opening.now.shape opening.now.places ran ≡ 0 = subst (λ (shape : Shape). keeper_asks_left shape opening.now.places ran ≡ 0) (shape_stays opening events) placed in
    let buckets : 0 < opening.now.places.buckets = subst (λ (count : ℕ). 0 < count) (sym opened.buckets) (pow_pos opening.now.shape.bucket_bits) in
    subst (λ (s : KeeperState). is_in_hand s.step ≡ false) (sym same) (keeper_ended opening.now.shape opening.now.places opening.now.keeper own buckets opened.keeper.none_in_hand opened.keeper.none_rest shaped)

pub life_keeper_alone : (opening : World) (start : ℕ) (events moves : List Event) → IsOpened opening.now start → asks_left_of_keeper (run (run opening events) moves).now ≡ 0
    → is_in_hand (run (run opening events) moves).now.keeper.step ≡ false
life_keeper_alone opening start events moves opened none =
    let whole = sym (runs_on opening moves events) in
    subst (λ (w : World). is_in_hand w.now.keeper.step ≡ false) (sym whole) (life_keeper_ended opening start (moves ++ events) opened (subst (λ (w : World). asks_left_of_keeper w.now ≡ 0) whole none))
