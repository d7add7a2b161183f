-- How many asks the keeper has left at most, in every life of an opened world.
use Rattle.std.proofs.Common.{◌≡◌, ℕ, ◌+◌, ◌-◌, ◌^◌, ◌<◌, ◌≤◌, ◌∙◌, refl, sym, ap, subst, arith, inl, inr, List, [], ◌∷◌, Bool, true, false}
use Rattle.std.specs.Prelude.{if◌then◌else◌}
use Rattle.std.proofs.lemmas.Bool.{cases_lt}
use Rattle.fkv_base.specs.Limits.{max_sessions}
use Rattle.fkv_base.specs.declared.shapes.Shape.{Shape}
use Rattle.fkv_base.specs.declared.commits.CommitKind.{CommitKind}
use Rattle.fkv_plane.specs.declared.places.Places.{Places}
use Rattle.fkv_plane.proofs.Shown.{sum_most}
use Rattle.fkv_maintain.specs.AsksLeft.{most_maintain_asks, maintain_asks_left}
use Rattle.fkv_maintain.specs.Maintaining.{MaintainState, maintain_begun}
use Rattle.fkv_maintain.proofs.Shown.{maintain_begun_left, maintain_serving_left}
use Rattle.fkv_keeper.specs.declared.keepers.Keeping.{Keeping}
use Rattle.fkv_keeper.specs.declared.keepers.Keeping.TheVariants.{Ended}
use Rattle.fkv_keeper.specs.KeeperAsks.{keeper_asks_left, keeping_asks_left, most_behind_phase}
use Rattle.fkv_keeper.specs.KeeperRun.{is_in_hand}
use Rattle.fkv_keeper.specs.Keeping.{parts_begun, KeeperState, commit_asked, turn_asked, serves_alone}
use Rattle.fkv_keeper.proofs.Shown.{begin_bounded, run_of_store}
use Rattle.fkv_world.specs.Actors.{is_of_keeper}
use Rattle.law_world.specs.Runs.Ends.{asks_left_of_keeper}
use Rattle.fkv_world.specs.OwnEvents.{keeper_events}
use Rattle.fkv_world.specs.Runs.{World, happens, read_by_keeper, run}
use Rattle.fkv_world.specs.World.{Commits, Event, KeeperMoves, Now, Turns, keeper_asked, life_goes, near, with_keeper}
use Rattle.fkv_world.proofs.Shown.{is_over, keeper_runs, lives, places_stay, shape_stays}
use Rattle.law_world.specs.Guarded.EndsAlone.{most_keeper_asks}
use Rattle.law_world.specs.Guarded.Shows.{IsOpened}
use Rattle.law_world.proofs.OfGuarded.Ends.{KeeperFewer, life_keeper_stands, none_stays}
use Rattle.law_world.proofs.OfGuarded.KeeperSeeks.{run_seeks}
use Rattle.law_world.proofs.OfGuarded.Worlds.{life_shows}

-- a turn and a commit as they begin, and a call that is in hand
either : (shape : Shape) (p : Places) (b : Bool) (x y : KeeperState) (n : ℕ) → keeper_asks_left shape p x ≤ n → keeper_asks_left shape p y ≤ n → keeper_asks_left shape p (if b then x else y) ≤ n
either shape p true x y n first second = first
either shape p false x y n first second = second

parts_begun_left : (shape : Shape) (rests : Bool) (m : MaintainState) → maintain_asks_left shape (parts_begun rests m) ≤ most_maintain_asks shape
parts_begun_left shape true m = maintain_serving_left shape m
parts_begun_left shape false m = maintain_begun_left shape (maintain_begun m) refl refl

turn_most : (shape : Shape) (p : Places) (s : KeeperState) → keeper_asks_left shape p (turn_asked s) ≤ most_keeper_asks shape p s
unfolding keeping_asks_left
turn_most shape p s =
    let begun = parts_begun_left shape (serves_alone s) s.maintain in
    let most = sum_most (maintain_asks_left shape (parts_begun (serves_alone s) s.maintain)) (most_behind_phase s.sweep.places s.seek.sessions s.finish.sessions + 1) in
    either shape p s.is_broken _ _ _ (omega arith) (omega (arith, begun, most))

commit_most : (shape : Shape) (p : Places) (s : KeeperState) (kind : CommitKind) → keeper_asks_left shape p (commit_asked s kind) ≤ most_keeper_asks shape p s
commit_most shape p s kind = let few = begin_bounded shape p s kind in omega (arith, few)

asked_most : (n : Now) (begun : KeeperState) (most : ℕ) → asks_left_of_keeper n ≤ most → keeper_asks_left n.shape n.places begun ≤ most
    → asks_left_of_keeper (with_keeper n (near n (keeper_asked n.keeper begun))) ≤ most
asked_most n begun most few begins = either n.shape n.places (is_in_hand n.keeper.step) n.keeper begun most few begins

turns_so : (n : Now) (read : List ℕ) → life_goes n read Turns ≡ with_keeper n (near n (keeper_asked n.keeper (turn_asked n.keeper)))
unfolding life_goes
turns_so n read = refl

commits_so : (n : Now) (read : List ℕ) (kind : CommitKind) → life_goes n read (Commits kind) ≡ with_keeper n (near n (keeper_asked n.keeper (commit_asked n.keeper kind)))
unfolding life_goes
commits_so n read kind = refl

-- another's event leaves as many
abbrev pub KeeperBeside : Type 0
KeeperBeside = (w : World) (event : Event) → is_of_keeper event ≡ false → asks_left_of_keeper (happens w event).now ≡ asks_left_of_keeper w.now

alive_few : KeeperFewer → KeeperBeside → (first : World) (start : ℕ) (before : List Event) (event : Event) (most : ℕ) → IsOpened first.now start → (run first before).now.crashed ≡ false
    → most_keeper_asks (run first before).now.shape (run first before).now.places (run first before).now.keeper ≡ most
    → asks_left_of_keeper (run first before).now ≤ most → asks_left_of_keeper (happens (run first before) event).now ≤ most
alive_few fewer beside first start before Turns most opened alive same few =
    let w : World = run first before in
    let begun = turn_most w.now.shape w.now.places w.now.keeper in
    subst (λ (n : Now). asks_left_of_keeper n ≤ most) (sym (lives w Turns alive ∙ turns_so w.now (read_by_keeper w))) (asked_most w.now (turn_asked w.now.keeper) most few (omega (arith, begun, same)))
alive_few fewer beside first start before (Commits kind) most opened alive same few =
    let w : World = run first before in
    let begun = commit_most w.now.shape w.now.places w.now.keeper kind in
    subst (λ (n : Now). asks_left_of_keeper n ≤ most) (sym (lives w (Commits kind) alive ∙ commits_so w.now (read_by_keeper w) kind)) (asked_most w.now (commit_asked w.now.keeper kind) most few (omega (arith, begun, same)))
alive_few fewer beside first start before (KeeperMoves granted done) most opened alive same few =
    let w : World = run first before in
    elim (cases_lt 0 (asks_left_of_keeper w.now)) [
      | inl some ↦ let down = fewer w granted done alive some (life_keeper_stands first start before opened) in omega (arith, down, few)
      | inr none ↦
          let zero_left : asks_left_of_keeper w.now ≡ 0 = omega (arith, none) in
          let stays = none_stays w granted done alive zero_left in
          omega (arith, stays)
    ]
alive_few fewer beside first start before event most opened alive same few = let stays = beside (run first before) event refl in omega (arith, stays, few)

-- in a life it seeks and finishes for as many sessions as at first
most_at : (shape : Shape) (p : Places) (s first : KeeperState) → s.seek.sessions ≡ first.seek.sessions → s.finish.sessions ≡ first.finish.sessions → s.sweep.places ≡ first.sweep.places
    → most_keeper_asks shape p s ≡ most_keeper_asks shape p first
most_at shape p s first seeks finishes sweeps = rw (seeks, finishes, sweeps) refl

life_seeks : (first : World) (events : List Event) → (run first events).now.keeper.seek.sessions ≡ first.now.keeper.seek.sessions
life_seeks first events = ap (λ (s : KeeperState). s.seek.sessions) (keeper_runs first events) ∙ run_seeks first.now.shape first.now.places first.now.keeper (keeper_events first events)

life_finishes : (first : World) (start : ℕ) (events : List Event) → IsOpened first.now start → (run first events).now.keeper.finish.sessions ≡ first.now.keeper.finish.sessions
life_finishes first start events opened =
    let shows = life_shows first start events opened in
    shows.keeper.keeps.knows.sessions ∙ ap (λ (p : Places). p.sessions) (shows.places ∙ places_stay first events) ∙ sym opened.finishes

-- and its sweep searches the same index
life_sweeps : (first : World) (events : List Event) → (run first events).now.keeper.sweep.places ≡ first.now.keeper.sweep.places
life_sweeps first events =
    let k : KeeperState = first.now.keeper in
    ap (λ (s : KeeperState). s.sweep.places) (keeper_runs first events) ∙ (run_of_store k.sweep.shape k.sweep.places first.now.shape first.now.places k (keeper_events first events) (record { its_shape = refl; its_places = refl })).its_places

life_most : (first : World) (start : ℕ) (events : List Event) → IsOpened first.now start
    → most_keeper_asks (run first events).now.shape (run first events).now.places (run first events).now.keeper ≡ most_keeper_asks first.now.shape first.now.places first.now.keeper
life_most first start events opened =
    let s : KeeperState = (run first events).now.keeper in
    ap (λ (shape : Shape). most_keeper_asks shape (run first events).now.places s) (shape_stays first events)
    ∙ ap (λ (p : Places). most_keeper_asks first.now.shape p s) (places_stay first events)
    ∙ most_at first.now.shape first.now.places s first.now.keeper (life_seeks first events) (life_finishes first start events opened) (life_sweeps first events)

none_left : (shape : Shape) (p : Places) (s : KeeperState) (step : Keeping) → is_in_hand step ≡ false → keeping_asks_left shape p s step ≡ 0
unfolding keeping_asks_left
none_left shape p s (Ended its) none = refl
none_left shape p s step none = cc

event_few : KeeperFewer → KeeperBeside → (first : World) (start : ℕ) (before : List Event) (event : Event) → IsOpened first.now start → (over : Bool) → (run first before).now.crashed ≡ over
    → asks_left_of_keeper (run first before).now ≤ most_keeper_asks first.now.shape first.now.places first.now.keeper
    → asks_left_of_keeper (happens (run first before) event).now ≤ most_keeper_asks first.now.shape first.now.places first.now.keeper
event_few fewer beside first start before event opened true over few =
    subst (λ (w : World). asks_left_of_keeper w.now ≤ most_keeper_asks first.now.shape first.now.places first.now.keeper) (sym (is_over (run first before) event over)) few
event_few fewer beside first start before event opened false alive few =
    alive_few fewer beside first start before event (most_keeper_asks first.now.shape first.now.places first.now.keeper) opened alive (life_most first start before opened) few

-- at every moment
pub keeper_few : KeeperFewer → KeeperBeside → (first : World) (start : ℕ) (events : List Event) → IsOpened first.now start
    → asks_left_of_keeper (run first events).now ≤ most_keeper_asks first.now.shape first.now.places first.now.keeper
unfolding run
keeper_few fewer beside first start [] opened =
    let none = none_left first.now.shape first.now.places first.now.keeper first.now.keeper.step opened.keeper.none_in_hand in omega (arith, none)
keeper_few fewer beside first start (event ∷ before) opened =
    event_few fewer beside first start before event opened (run first before).now.crashed refl (keeper_few fewer beside first start before opened)

-- and less than a count has numbers, by the limits of the shape and its places
pub keeper_small : (n : Now) (start : ℕ) → IsOpened n start → n.keeper.seek.sessions ≤ max_sessions → most_keeper_asks n.shape n.places n.keeper < 2 ^ 64 - 1
keeper_small n start opened seeks =
    let p : Places = n.places in
    let q : Places = n.keeper.sweep.places in
    let finishes = opened.finishes in
    omega (arith, seeks, finishes, p.few_sessions, q.few_overflow, n.shape.limits.few_sessions)
