-- At each moment of a life the keeper is at some tail, and its commit ends at or below the flushed offset.
use Rattle.std.proofs.Common.{◌≡◌, ℕ, ◌≤◌, arith, refl, sym, subst, List, [], ◌∷◌, ◌++◌}
use Rattle.fkv_base.specs.declared.shapes.Shape.{Shape}
use Rattle.law_commit.specs.Below.fkv_keeper.Keeping.{KeeperState}
use Rattle.law_commit.specs.Below.fkv_keeper.KeeperRun.{IsOpened, KeeperEvent, keeper_run}
use Rattle.fkv_plane.specs.declared.places.Places.{Places}
use Rattle.fkv_plane.specs.declared.places.SharedWord.TheVariants as one
use Rattle.fkv_plane.specs.Asked.{word_at}
use Rattle.fkv_plane.specs.Places.{shared_place}
use Rattle.law_commit.specs.Below.fkv_world.OwnEvents.{keeper_events, keeper_part_of}
use Rattle.law_commit.specs.Below.fkv_world.Runs.{World, happens, run}
use Rattle.law_commit.specs.Below.fkv_world.World.{Event}
use Rattle.law_commit.proofs.Below.fkv_world.Shown.{keeper_runs_on}
use Rattle.law_order.proofs.OfImages.EndsFlushed.{AllLoad, Ends, all_higher, event_load, flushed_at, happens_ends, opening_ends}
use Rattle.law_order.proofs.OfImages.WordsRead.{AllRead, Always, always_last, always_map, always_on, event_read, of_part}
use Rattle.law_order.proofs.OfImages.Tails.{Bounds, IsAtTail, all_higher as tails_higher, raised, run_on}
use Rattle.law_commit.specs.Below.law_world.Standing.Opening.{AreNumbersInTurn}

abbrev pub tail_of : World → ℕ
tail_of w = word_at w.now.words (shared_place one.Tail)

-- it is at a tail, of a store that opened at this begin and tail with a commit of this number
pub record IsBelow (begin base least : ℕ) (s : KeeperState) : Type 0 where
  pub bounds : Bounds
  pub its_begin : (let t = bounds in t.begin ≡ begin)
  pub its_base : (let t = bounds in t.base ≡ base)
  pub its_least : (let t = bounds in t.least ≡ least)
  pub is : IsAtTail bounds s

pub record IsBelowNow (begin base least tail : ℕ) (s : KeeperState) : Type 0 where
  pub below : IsBelow begin base least s
  pub its_tail : (let b = below in let t = b.bounds in t.tail ≡ tail)

-- the numbers of a part of the events are in turn
later_turn : (shape : Shape) (p : Places) (first : KeeperState) (later before : List KeeperEvent) → AreNumbersInTurn shape p first (later ++ before) → AreNumbersInTurn shape p (keeper_run shape p first before) later
unfolding AreNumbersInTurn
later_turn shape p first [] before turn = tt
later_turn shape p first (event ∷ later) before turn =
    (rw (sym (keeper_runs_on shape p first later before), sym (keeper_runs_on shape p first (event ∷ later) before)) turn.0, later_turn shape p first later before turn.1)

earlier_turn : (shape : Shape) (p : Places) (first : KeeperState) (later before : List KeeperEvent) → AreNumbersInTurn shape p first (later ++ before) → AreNumbersInTurn shape p first before
unfolding AreNumbersInTurn
earlier_turn shape p first [] before turn = turn
earlier_turn shape p first (event ∷ later) before turn = earlier_turn shape p first later before turn.1

pub record AreTails (opening : World) (begin base least : ℕ) (events : List Event) : Type 0 where
  pub now : IsBelowNow begin base least (tail_of (run opening events)) (keeper_run opening.now.shape opening.now.places opening.now.keeper (keeper_events opening events))
  pub always : Always (λ (s : KeeperState). IsBelow begin base least s) opening.now.shape opening.now.places opening.now.keeper (keeper_events opening events)

-- what one event of the life leads to
event_tails : (opening : World) (begin base least : ℕ) (event : Event) (before : List Event) (high : ℕ) → tail_of (run opening before) ≤ high
    → AreNumbersInTurn opening.now.shape opening.now.places opening.now.keeper (keeper_part_of (run opening before) event ++ keeper_events opening before) → AreTails opening begin base least before
    → IsBelowNow begin base least high (keeper_run opening.now.shape opening.now.places opening.now.keeper (keeper_part_of (run opening before) event ++ keeper_events opening before))
    × Always (λ (s : KeeperState). IsBelow begin base least s) opening.now.shape opening.now.places opening.now.keeper (keeper_part_of (run opening before) event ++ keeper_events opening before)
event_tails opening begin base least event before high up turn past =
    let w : World = run opening before in
    let shape : Shape = opening.now.shape in
    let p : Places = opening.now.places in
    let first : KeeperState = opening.now.keeper in
    let part : List KeeperEvent = keeper_part_of w event in
    let rest : List KeeperEvent = keeper_events opening before in
    let s : KeeperState = keeper_run shape p first rest in
    let now : IsBelowNow begin base least (tail_of w) s = past.now in
    let below : IsBelow begin base least s = now.below in
    let t : Bounds = below.bounds in
    let reads : AllRead w.now.words shape p s part = of_part opening before event (λ x q k events. AllRead w.now.words x q k events) (event_read w event) in
    let all : Always (λ (x : KeeperState). IsAtTail t x) shape p s part = run_on w.now.words t now.its_tail shape p s part reads (later_turn shape p first part rest turn) below.is in
    let last : IsAtTail t (keeper_run shape p s part) = always_last (λ (x : KeeperState). IsAtTail t x) shape p s part all in
    let there : IsAtTail t (keeper_run shape p first (part ++ rest)) = subst (λ (x : KeeperState). IsAtTail t x) (sym (keeper_runs_on shape p first part rest)) last in
    let same = now.its_tail in
    let more : t.tail ≤ high = omega (arith, up, same) in (
      record {
        below = record {
          bounds = raised t high more;
          its_begin = below.its_begin;
          its_base = below.its_base;
          its_least = below.its_least;
          is = tails_higher t high more (keeper_run shape p first (part ++ rest)) there;
        };
        its_tail = refl;
      },
      always_on (λ (x : KeeperState). IsBelow begin base least x) shape p first part rest
          (always_map (λ (x : KeeperState). IsAtTail t x) (λ (x : KeeperState). IsBelow begin base least x) shape p s part (λ x is. record { bounds = t; its_begin = below.its_begin; its_base = below.its_base; its_least = below.its_least; is = is }) all) past.always,
    )

pub life_tails : (opening : World) (begin base least : ℕ) (events : List Event) → IsBelowNow begin base least (tail_of opening) opening.now.keeper → ((before : List Event) (event : Event) → tail_of (run opening before) ≤ tail_of (happens (run opening before) event))
    → AreNumbersInTurn opening.now.shape opening.now.places opening.now.keeper (keeper_events opening events) → AreTails opening begin base least events
unfolding run keeper_events keeper_run Always
life_tails opening begin base least [] first rises turn = record { now = first; always = first.below }
life_tails opening begin base least (event ∷ before) first rises turn =
    let past = life_tails opening begin base least before first rises (earlier_turn opening.now.shape opening.now.places opening.now.keeper (keeper_part_of (run opening before) event) (keeper_events opening before) turn) in
    let its = event_tails opening begin base least event before (tail_of (happens (run opening before) event)) (rises before event) turn past in
    record { now = its.0; always = its.1 }

-- ---- and where its commit ends
run_ends : (most : ℕ) (shape : Shape) (p : Places) (s : KeeperState) (events : List KeeperEvent) → AllLoad most shape p s events → Ends most s → Always (λ (x : KeeperState). Ends most x) shape p s events
unfolding keeper_run Always
run_ends most shape p s [] loads ends = ends
run_ends most shape p s (event ∷ before) loads ends =
    let past = run_ends most shape p s before loads.1 ends in
    (happens_ends most shape p (keeper_run shape p s before) event loads.0 (always_last (λ (x : KeeperState). Ends most x) shape p s before past), past)

pub life_always : (opening : World) (events : List Event) → IsOpened opening.now.keeper → ((before : List Event) (event : Event) → flushed_at (run opening before) ≤ flushed_at (happens (run opening before) event))
    → Always (λ (s : KeeperState). Ends (flushed_at (run opening events)) s) opening.now.shape opening.now.places opening.now.keeper (keeper_events opening events)
unfolding run keeper_events Always
life_always opening [] opened rises = opening_ends _ opening.now.keeper opened
life_always opening (event ∷ before) opened rises =
    let w : World = run opening before in
    let shape : Shape = opening.now.shape in
    let p : Places = opening.now.places in
    let first : KeeperState = opening.now.keeper in
    let part : List KeeperEvent = keeper_part_of w event in
    let rest : List KeeperEvent = keeper_events opening before in
    let low : ℕ = flushed_at w in
    let most : ℕ = flushed_at (happens w event) in
    let past : Always (λ (s : KeeperState). Ends most s) shape p first rest =
    always_map (λ (s : KeeperState). Ends low s) (λ (s : KeeperState). Ends most s) shape p first rest (λ s is. all_higher low most s (rises before event) is) (life_always opening before opened rises) in
    let loads : AllLoad most shape p (keeper_run shape p first rest) part = of_part opening before event (λ x q k events. AllLoad most x q k events) (event_load most w event (rises before event)) in
    always_on (λ (s : KeeperState). Ends most s) shape p first part rest
    (run_ends most shape p (keeper_run shape p first rest) part loads (always_last (λ (s : KeeperState). Ends most s) shape p first rest past)) past
