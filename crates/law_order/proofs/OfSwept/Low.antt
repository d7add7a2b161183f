-- No begin of the log and no end of a sweep lies above the flushed offset. At first each is where the log of the opened store begins. Later it is at or below
-- the first address of a commit that was finished, whose end was flushed before it was written.
use Rattle.std.proofs.Common.{◌≡◌, ◌⊎◌, inl, inr, ℕ, ◌≤◌, List, [], ◌∷◌, refl, ap, sym, subst, arith, Bool, true, false}
use Rattle.std.specs.Prelude.{Option, Some, None, if◌then◌else◌}
use Rattle.fkv_base.specs.declared.numbers.Addr.{Addr}
use Rattle.fkv_base.specs.declared.shapes.Shape.{Shape}
use Rattle.fkv_plane.specs.declared.places.Places.{Places}
use Rattle.fkv_sweep.proofs.Shown.{IsSameSweep, sweep_failed_same, sweep_next_same, sweep_read_same, sweep_turn_same}
use Rattle.fkv_sweep.specs.Sweeping.{Sweeper, sweep_begun, sweep_failed, sweep_next, sweep_read, turn_begun}
use Rattle.law_commit.specs.Below.fkv_commit.Commit.{Commit}
use Rattle.law_commit.specs.Below.fkv_keeper.CheckpointLaws.{IsFinished}
use Rattle.law_commit.specs.Below.fkv_keeper.Keeping.{Finality, KeeperState, come_to, may_set, sweep_set}
use Rattle.law_commit.specs.Below.fkv_keeper.KeeperLaws.{MayRest}
use Rattle.law_commit.specs.Below.fkv_keeper.KeeperRun.{IsOpened, KeeperEvent, is_in_hand, keeper_happens, keeper_run}
use Rattle.law_commit.specs.Below.fkv_keeper.SlotLaws.{HasBegin, HasMoved}
use Rattle.law_commit.specs.Below.fkv_keeper.TheKeeping.{Keeping}
use Rattle.law_commit.specs.Below.fkv_keeper.TheKeeping.TheVariants.{Ended, Finishes, Writes}
use Rattle.law_commit.specs.Below.fkv_world.OwnEvents.{keeper_events}
use Rattle.law_commit.specs.Below.fkv_world.Runs.{happens, run}
use Rattle.law_commit.specs.Below.fkv_world.World.{Event}
use Rattle.law_commit.specs.Below.law_refine.Events.GhostEvents.{life_ghosts, safe_at}
use Rattle.law_commit.specs.Below.law_world.Guarded.Shows.{seen_by_guard}
use Rattle.law_commit.specs.Below.law_world.Standing.Opening.{AreNumbersInTurn}
use Rattle.law_commit.proofs.Below.fkv_keeper.Shown.{each_move, run_begins, sweep_moves}
use Rattle.law_commit.proofs.Below.fkv_world.Shown.{keeper_runs}
use Rattle.law_commit.proofs.Below.law_refine.OfEvents.Fixed.{ghost_fixed, life_rises}
use Rattle.law_commit.proofs.Below.law_world.OfGuarded.OfLives.{life_in_order}
use Rattle.law_commit.proofs.Below.law_world.OfGuarded.Worlds.{life_shows}
use Rattle.law_commit.proofs.OfPhases.LifeStages.{life_staged}
use Rattle.law_commit.proofs.Shown.{numbers_in_turn}
use Rattle.law_order.specs.Images.Ends.{CommitEndsBy}
use Rattle.law_order.specs.Known.Begins.{BegunLife, begin_in}
use Rattle.law_order.proofs.OfImages.EndsFlushed.{Ends, EndsAt, flushed_at}
use Rattle.law_order.proofs.OfImages.LifeTails.{IsBelow, IsBelowNow, life_always, life_tails, tail_of}
use Rattle.law_order.proofs.OfImages.Resting.{RestsWell, opened_at, opened_well}
use Rattle.law_order.proofs.OfImages.Tails.{AtTail, Below, Bounds, LastBelow, TakenAbove, UsedBelow}
use Rattle.law_order.proofs.OfImages.WordsRead.{Always, always_last}
use Rattle.law_order.proofs.OfSwept.Moves.{IsRead, IsReplied, IsSet, ReadFails, Stays, SweepMove, TurnBegins, move_of}

-- ---- a commit that finishes has its first address and its end at or below an address
abbrev pub FirstBy : ℕ → KeeperState → Type 0
FirstBy most s = s.step ≡ Finishes → (c : Commit) → s.commit ≡ Some c → c.first.0 ≤ most

-- in a finish no writes rest
at_finish : (P : KeeperState → Keeping → Type 0) (s : KeeperState) → RestsWell s → s.step ≡ Finishes → P s (come_to s) → P s Finishes
at_finish P s well at is = by s.rests refl is
  where
    by : (rests : Bool) → s.rests ≡ rests → P s (if rests then Writes else s.step) → P s Finishes
    by true resting now = absurd (subst MayRest at (well.rests resting))
    by false none now = subst (λ (k : Keeping). P s k) at now

pub first_by : (begin base least most : ℕ) (s : KeeperState) → IsBelow begin base least s → Ends most s → FirstBy most s
first_by begin base least most s below ends at c found =
    let t : Bounds = below.bounds in
    let there = below.is in
    let its : Below t true s.last s.commit × UsedBelow t s.used s.commit = at_finish (AtTail t) s there.well at there.at in
    let points = its.0 in
    let taken : TakenAbove true s.last (Some c) = subst (λ (x : Option Commit). TakenAbove true s.last x) found points.1 in
    let by : CommitEndsBy most s = at_finish (EndsAt most) s ends.well at ends.ends in
    let end = by c found in
    let first = taken.0 in
    omega (arith, first, end)

-- ---- where the log begins, and where the sweep ends
pub record IsLow (most : ℕ) (s : KeeperState) : Type 0 where
  pub begin : s.last.begin.0 ≤ most
  pub to : s.sweep.to.0 ≤ most

module _ (most : ℕ) where
  -- the log of the commit in hand begins at or below its own first address, or where that of the newest finished one does
  hand_low : (s : KeeperState) (c : Commit) → c.first.0 ≤ most → s.last.begin.0 ≤ most → (c.begin ≡ s.last.begin) ⊎ HasMoved s c → c.begin.0 ≤ most
  hand_low s c first low (inl same) = (let begin = ap (λ (a : Addr). a.0) same in omega (arith, begin, low))
  hand_low s c first low (inr moved) = (let before = moved.before in omega (arith, before, first))

  last_low : (s a : KeeperState) → HasBegin s → FirstBy most s → s.last.begin.0 ≤ most → ((a.last ≡ s.last) × (a.lost ≡ s.lost)) ⊎ ((c : Commit) × (s.commit ≡ Some c) × IsFinished s a c) → a.last.begin.0 ≤ most
  last_low s a has first low (inl same) = (let begin = ap (λ (l : Finality). l.begin.0) same.0 in omega (arith, begin, low))
  last_low s a has first low (inr ends) =
      let over = ends.2 in
      let begin = ap (λ (l : Finality). l.begin.0) over.last in
      let hand = hand_low s ends.0 (first over.finishes ends.0 ends.1) low (has.commit ends.0 ends.1) in
      omega (arith, begin, hand)

  same_to : (w after its : Sweeper) → IsSameSweep w after → its ≡ after → w.to.0 ≤ most → its.to.0 ≤ most
  same_to w after its same is low = (let one = ap (λ (a : Addr). a.0) same.to in let two = ap (λ (x : Sweeper). x.to.0) is in omega (arith, one, two, low))

  set_to : (s : KeeperState) (c : Commit) (set : Bool) → c.first.0 ≤ most → s.sweep.to.0 ≤ most → (if set then sweep_begun s.sweep.shape s.sweep.places c.begin c.first else s.sweep).to.0 ≤ most
  set_to s c true first low = first
  set_to s c false first low = low

  pub move_to : (s a : KeeperState) (event : KeeperEvent) → FirstBy most s → s.sweep.to.0 ≤ most → SweepMove s a event → a.sweep.to.0 ≤ most
  move_to s a event first low (Stays left) = (let is = ap (λ (x : Sweeper). x.to.0) left.same in omega (arith, is, low))
  move_to s a event first low (TurnBegins begun) = same_to s.sweep (turn_begun s.sweep) a.sweep (sweep_turn_same s.sweep) begun.same low
  move_to s a event first low (IsSet at set) =
      let c : Commit = set.commit in
      let is = ap (λ (x : Sweeper). x.to.0) set.same in
      let to : (sweep_set s c).to.0 ≤ most = set_to s c (may_set s c) (first at c set.in_hand) low in
      omega (arith, is, to)
  move_to s a event first low (IsReplied reply granted e at is) = same_to s.sweep (sweep_next s.sweep reply) a.sweep (sweep_next_same s.sweep reply) is low
  move_to s a event first low (IsRead bytes e at is) = same_to s.sweep (sweep_read s.sweep bytes) a.sweep (sweep_read_same s.sweep bytes) is low
  move_to s a event first low (ReadFails at is) = same_to s.sweep (sweep_failed s.sweep) a.sweep (sweep_failed_same s.sweep) is low

  pub event_low : (shape : Shape) (p : Places) (s : KeeperState) (event : KeeperEvent) → HasBegin s → FirstBy most s → IsLow most s → IsLow most (keeper_happens shape p s event)
  event_low shape p s event has first its =
      let a : KeeperState = keeper_happens shape p s event in
      record {
        begin = last_low s a has first its.begin (each_move shape p s event).lists.lists;
        to = move_to s a event first its.to (move_of s a s.step event refl (sweep_moves shape p s event));
      }

  opened_low : (s : KeeperState) → IsOpened s → s.last.begin.0 ≤ most → IsLow most s
  opened_low s opened low = record { begin = low; to = (let none = ap (λ (w : Sweeper). w.to.0) opened.none_swept.2 in omega (arith, none, low)) }

  run_low : (begin base least : ℕ) (shape : Shape) (p : Places) (opening : KeeperState) (events : List KeeperEvent) → IsOpened opening → opening.last.begin.0 ≤ most
      → Always (λ (s : KeeperState). IsBelow begin base least s) shape p opening events → Always (λ (s : KeeperState). Ends most s) shape p opening events → IsLow most (keeper_run shape p opening events)
  unfolding keeper_run Always
  run_low begin base least shape p opening [] opened low below ends = opened_low opening opened low
  run_low begin base least shape p opening (event ∷ before) opened low below ends =
      let s : KeeperState = keeper_run shape p opening before in
      let first : FirstBy most s =
      first_by begin base least most s (always_last (λ (x : KeeperState). IsBelow begin base least x) shape p opening before below.1) (always_last (λ (x : KeeperState). Ends most x) shape p opening before ends.1) in
      event_low shape p s event (run_begins shape p opening before opened) first (run_low begin base least shape p opening before opened low below.1 ends.1)

-- ---- in a life
module _ (life : BegunLife) where
  opened : IsOpened life.opening.now.keeper
  opened = life.begins.world.keeper

  rises_one : (before : List Event) (event : Event) → flushed_at (run life.opening before) ≤ flushed_at (happens (run life.opening before) event)
  unfolding run
  rises_one before event = (life_rises life.opening life.start before (event ∷ []) life.begins.store.now).flushed

  -- the flushed offset never falls
  pub flushed_on : (before : List Event) (event : Event) → flushed_at (run life.opening before) ≤ flushed_at (run life.opening (event ∷ before))
  unfolding run
  flushed_on before event = rises_one before event

  tail_on : (before : List Event) (event : Event) → tail_of (run life.opening before) ≤ tail_of (happens (run life.opening before) event)
  unfolding run
  tail_on before event = (life_rises life.opening life.start before (event ∷ []) life.begins.store.now).tail

  below_none : (t : Bounds) (points : Bool) (last : Finality) (found : Option Commit) → found ≡ None → LastBelow t last → Below t points last found
  below_none t points last found none low = subst (λ (x : Option Commit). Below t points last x) (sym none) (tt, taken points, low)
    where
      taken : (b : Bool) → TakenAbove b last None
      taken true = tt
      taken false = tt

  idle_at : (t : Bounds) (s : KeeperState) (step : Keeping) → s.step ≡ step → is_in_hand step ≡ false → Below t s.has_points s.last s.commit → AtTail t s s.step
  idle_at t s (Ended its) e idle below = subst (λ (k : Keeping). AtTail t s k) (sym e) below
  idle_at t s step e idle below = cc

  -- as it begins the keeper is at the tail of then
  first_below : IsBelowNow 1 1 0 (tail_of life.opening) life.opening.now.keeper
  first_below =
      let s : KeeperState = life.opening.now.keeper in
      let scan = life.begins.scan in
      let some = life.begins.some_begin in
      let before = scan.before_scan in
      let upto = scan.below_tail in
      let t : Bounds = record { begin = 1; base = 1; least = 0; tail = tail_of life.opening; some = omega arith; on = omega arith; up = omega (arith, some, before, upto) } in
      let last : LastBelow t s.last = (omega (arith, some, before), omega (arith, upto), scan.no_newer, omega arith) in
      let below : Below t s.has_points s.last s.commit = below_none t s.has_points s.last s.commit opened.no_commit last in
      record {
        below = record {
          bounds = t;
          its_begin = refl;
          its_base = refl;
          its_least = refl;
          is = record { well = opened_well s opened; at = opened_at (AtTail t) s opened (idle_at t s s.step refl opened.none_in_hand below) };
        };
        its_tail = refl;
      }

  numbers : (events : List Event) → AreNumbersInTurn life.opening.now.shape life.opening.now.places life.opening.now.keeper (keeper_events life.opening events)
  numbers events = numbers_in_turn life.opening events life.begins.world (life_staged life.opening life.start events life.begins.store.now life.begins.world life.begins.rests.rests).rests

  -- the first address of a commit that finishes is flushed
  pub life_first : (events : List Event) → FirstBy (flushed_at (run life.opening events)) (run life.opening events).now.keeper
  life_first events =
      let tails = life_tails life.opening 1 1 0 events first_below tail_on (numbers events) in
      let ends : Ends (flushed_at (run life.opening events)) (keeper_run life.opening.now.shape life.opening.now.places life.opening.now.keeper (keeper_events life.opening events)) =
      always_last (λ (s : KeeperState). Ends (flushed_at (run life.opening events)) s) life.opening.now.shape life.opening.now.places life.opening.now.keeper (keeper_events life.opening events) (life_always life.opening events opened rises_one) in
      subst (FirstBy (flushed_at (run life.opening events))) (sym (keeper_runs life.opening events)) (first_by 1 1 0 (flushed_at (run life.opening events)) _ tails.now.below ends)

  opened_flushed : (events : List Event) → begin_in life.opening ≤ flushed_at (run life.opening events)
  unfolding run
  opened_flushed [] =
      let before = life.begins.before_end in
      let flushed = life.begins.store.now.words.flushed in
      omega (arith, before, flushed)
  opened_flushed (event ∷ before) = let low = opened_flushed before in let up = rises_one before event in omega (arith, low, up)

  pub life_low : (events : List Event) → IsLow (flushed_at (run life.opening events)) (run life.opening events).now.keeper
  life_low events =
      let tails = life_tails life.opening 1 1 0 events first_below tail_on (numbers events) in
      subst (IsLow (flushed_at (run life.opening events))) (sym (keeper_runs life.opening events))
      (run_low (flushed_at (run life.opening events)) 1 1 0 life.opening.now.shape life.opening.now.places life.opening.now.keeper (keeper_events life.opening events) opened (opened_flushed events) tails.always (life_always life.opening events opened rises_one))

  -- and what is flushed is fixed in the log
  pub flushed_is_fixed : (events : List Event) → flushed_at (run life.opening events) ≤ (life_ghosts life.opening life.ghosts events).log.fixed
  flushed_is_fixed events =
      let safe = (life_in_order (run life.opening events).now (seen_by_guard life.opening life.start events) (life_shows life.opening life.start events life.begins.store.now)).flushed_below in
      let fixed : (life_ghosts life.opening life.ghosts events).log.fixed ≡ safe_at (run life.opening events).now = ghost_fixed life.opening life.start life.ghosts events life.begins.store.now life.begins.fixed in
      omega (arith, safe, fixed)
