-- Up to its actor's next event a slot to which an event has turned is nobody else's.
use Rattle.std.proofs.Common.{◌≡◌, ◌≢◌, ℕ, ◌<◌, ◌≤◌, ◌∙◌, refl, sym, ap, subst, arith, inl, inr, List, [], ◌∷◌, ◌++◌, length, Bool, true, false}
use Rattle.std.specs.Prelude.{◌==◌, if◌then◌else◌, Option, Some, None, slice_get, slice_set}
use Rattle.std.proofs.lemmas.Bool.Decides.{nat_tests}
use Rattle.fkv_base.specs.Limits.{drain_slots}
use Rattle.fkv_base.specs.declared.shapes.Shape.{Shape}
use Rattle.fkv_map.specs.declared.operations.Call.{Call}
use Rattle.fkv_plane.specs.declared.actions.Action.{Action}
use Rattle.fkv_plane.specs.declared.asks.Ask.{Ask}
use Rattle.fkv_plane.specs.declared.asks.Ask.TheVariants.{Put, Take, Done}
use Rattle.fkv_plane.specs.declared.places.Places.{Places}
use Rattle.fkv_plane.specs.Asked.{reply_to}
use Rattle.fkv_plane.specs.Plane.{action_at, found_action}
use Rattle.fkv_epoch.specs.EpochWorld.{EpochPast}
use Rattle.fkv_epoch.proofs.Shown.{some_same, within_item}
use Rattle.fkv_flush.specs.GuardCalm.{AreOther}
use Rattle.fkv_flush.specs.GuardSlots.{IsHolder}
use Rattle.fkv_flush.specs.GuardWorld.{Actor, GuardEvent, GuardWorld, guard_run}
use Rattle.fkv_keeper.specs.declared.answers.KeeperTold.{KeeperTold}
use Rattle.fkv_keeper.specs.declared.answers.KeeperTold.TheVariants.{Device}
use Rattle.fkv_keeper.specs.Keeping.{KeeperState, keeper_ask, keeper_next}
use Rattle.fkv_session.specs.declared.answers.Told.{Told}
use Rattle.fkv_session.specs.Sessions.{SessionState, Seat, session_ask, session_next}
use Rattle.fkv_world.specs.Actors.{NoneOfKeeper, NoneOfSession, is_of_keeper, is_of_session, session_slot_named, slot_asked, slot_named}
use Rattle.fkv_world.specs.Moves.{Near, keeper_asks, keeper_settled, session_asks, session_settled}
use Rattle.fkv_world.specs.Runs.{World, read_by_keeper, run}
use Rattle.fkv_world.proofs.Shown.{places_stay}
use Rattle.fkv_world.specs.World.{Event, Calls, Moves, Commits, Turns, KeeperMoves, Crashes, Now, near, seat_at}
use Rattle.law_world.specs.Guarded.GuardEvents.{called_events, guard_events, keeper_number, keeper_now, life_events, moved_events}
use Rattle.law_world.specs.Guarded.Shows.{IsOpened, Shows, seen_by_guard}
use Rattle.law_world.specs.Guarded.SlotsApart.{AreOfOthers}
use Rattle.law_world.specs.Guarded.SlotsFound.{slot_ask}
use Rattle.law_world.specs.GuardKeeper.KeeperEvents.{keeper_move_events}
use Rattle.law_world.specs.GuardKeeper.Settled.{actions_settled}
use Rattle.law_world.proofs.OfGuarded.Kept.{called_is, moved_is}
use Rattle.law_world.proofs.OfGuarded.KeeperSteps.{actor_above, keeper_steps, turn_asked_steps}
use Rattle.law_world.proofs.OfGuarded.LoadedSince.{life_on}
use Rattle.law_world.proofs.OfGuarded.OneStep.{of_others}
use Rattle.law_world.proofs.OfGuarded.Outer.{WriteOuter, write_outer}
use Rattle.law_world.proofs.OfGuarded.Slots.{IsFound, keeper_found, same_slot, session_found, shown_so}
use Rattle.law_world.proofs.OfGuarded.SlotsHeld.{TurnsTo, others_hold, step_turns}
use Rattle.law_world.proofs.OfGuarded.Worlds.{is_world_of, keeps, life_shows, moves, world_of}

-- An ask that turns to a slot moves its action.
put_moves : (actions : List (Option Action)) (its slot : ℕ) (action : Action) → its ≡ slot → action_at actions its ≡ None → slot < length actions → action_at (slice_set actions its (Some action)) slot ≢ action_at actions slot
put_moves actions its slot action e empty low same =
    let there : Some action ≡ action_at (slice_set actions slot (Some action)) slot = sym (ap found_action (within_item actions slot (Some action) low)) in
    let stays : action_at (slice_set actions slot (Some action)) slot ≡ action_at actions slot = subst (λ (i : ℕ). action_at (slice_set actions i (Some action)) slot ≡ action_at actions slot) e same in
    let clash : Some action ≡ None = there ∙ (stays ∙ subst (λ (i : ℕ). action_at actions i ≡ None) e empty) in cc

take_moves : (actions : List (Option Action)) (its slot : ℕ) (action : Action) → its ≡ slot → action_at actions its ≡ Some action → slot < length actions → action_at (slice_set actions its None) slot ≢ action_at actions slot
take_moves actions its slot action e full low same =
    let there : None ≡ action_at (slice_set actions slot None) slot = sym (ap found_action (within_item actions slot None low)) in
    let stays : action_at (slice_set actions slot None) slot ≡ action_at actions slot = subst (λ (i : ℕ). action_at (slice_set actions i None) slot ≡ action_at actions slot) e same in
    let clash : None ≡ Some action = there ∙ (stays ∙ subst (λ (i : ℕ). action_at actions i ≡ Some action) e full) in cc

found_moves : {A : Type 0} (actions : List (Option Action)) (ask : Ask A) (slot : ℕ) → length actions ≡ drain_slots → IsFound actions ask → slot_asked ask ≡ Some slot → action_at (actions_settled actions ask) slot ≢ action_at actions slot
found_moves actions (Put its action) slot count found named = put_moves actions its slot action (some_same its slot named) found.0 (subst (λ (all : ℕ). slot < all) (sym count) (found.1 slot named))
found_moves actions (Take its) slot count found named = take_moves actions its slot found.0.0 (some_same its slot named) found.0.1 (subst (λ (all : ℕ). slot < all) (sym count) (found.1 slot named))
found_moves actions ask slot count found named = cc

-- What a step makes of the actions.
session_puts : (k : Seat) (n : Near SessionState) (ask : Ask Told) → (session_settled k n ask).actions ≡ actions_settled n.actions ask
unfolding session_settled
session_puts k n (Put slot action) = refl
session_puts k n (Take slot) = refl
session_puts k n ask = refl

session_actions : (k : Seat) (n : Near SessionState) (ask : Ask Told) → (session_asks k n ask).actions ≡ actions_settled n.actions (slot_ask ask (session_ask k (session_next k n.machine (reply_to n.words ask))))
unfolding session_asks
session_actions k n (Done its) = refl
session_actions k n (Put slot action) = session_puts k n (Put slot action)
session_actions k n (Take slot) = session_puts k n (Take slot)
session_actions k n ask = session_puts k _ _

keeper_puts : (shape : Shape) (p : Places) (granted : Bool) (n : Near KeeperState) (ask : Ask KeeperTold) → (keeper_settled shape p granted n ask).actions ≡ actions_settled n.actions ask
unfolding keeper_settled
keeper_puts shape p granted n (Put slot action) = refl
keeper_puts shape p granted n (Take slot) = refl
keeper_puts shape p granted n ask = refl

keeper_actions : (shape : Shape) (p : Places) (granted done : Bool) (read : List ℕ) (n : Near KeeperState) (ask : Ask KeeperTold)
    → (keeper_asks shape p granted done read n ask).actions ≡ actions_settled n.actions (slot_ask ask (keeper_ask shape p (keeper_next shape p n.machine (reply_to n.words ask) granted)))
unfolding keeper_asks
keeper_actions shape p granted done read n (Done Device) = refl
keeper_actions shape p granted done read n (Done its) = refl
keeper_actions shape p granted done read n (Put slot action) = keeper_puts shape p granted n (Put slot action)
keeper_actions shape p granted done read n (Take slot) = keeper_puts shape p granted n (Take slot)
keeper_actions shape p granted done read n ask = keeper_puts shape p granted _ _

-- where the guard's world has what the engine's has
module _ (n : Now) (actors : List Actor) (past : EpochPast) (shows : Shows n (world_of n actors past)) where
  abbrev W : GuardWorld
  W = world_of n actors past

  -- whose session there is sits below the keeper
  pub below : (i : ℕ) (s : SessionState) → slice_get n.sessions i ≡ Some s → i < keeper_number n
  below i s there = (shows.sessions i s there).sits.below

  -- A session's move that turns to a slot, and one of the keeper.
  pub session_turns : (i slot : ℕ) (s : SessionState) → slice_get n.sessions i ≡ Some s → WriteOuter n → session_slot_named n (seat_at n i) (Some s) ≡ Some slot
      → TurnsTo W (guard_run W (moved_events n i (Some s))) i slot
  session_turns i slot s there outer named =
      let k : Seat = seat_at n i in
      let behind : Ask Told = session_ask k (session_next k s (reply_to n.words (session_ask k s))) in
      let led = moves n actors past shows i (Some s) there outer in
      let same : (guard_run W (moved_events n i (Some s))).now.actions ≡ actions_settled n.actions (slot_ask (session_ask k s) behind) = led.actions ∙ session_actions k (near n s) (session_ask k s) in
      let changes = found_moves n.actions (slot_ask (session_ask k s) behind) slot shows.sound.epochs.eight_slots (session_found n actors past shows i s there (outer i s there)) (sym (same_slot (session_ask k s) behind) ∙ named) in
      step_turns (keeper_number n) i W (moved_events n i (Some s)) slot shows.sound (moved_is n i (Some s)) (λ e. changes (ap (λ (actions : List (Option Action)). action_at actions slot) (sym same) ∙ e))

  pub keeper_turns : (granted done : Bool) (read : List ℕ) (slot : ℕ) → slot_named n (KeeperMoves granted done) ≡ Some slot
      → TurnsTo W (guard_run W (keeper_move_events (keeper_now n) n.shape n.places granted done read n.keeper n.words)) (keeper_now n) slot
  keeper_turns granted done read slot named =
      let events : List GuardEvent = keeper_move_events (keeper_now n) n.shape n.places granted done read n.keeper n.words in
      let ask : Ask KeeperTold = keeper_ask n.shape n.places n.keeper in
      let behind : Ask KeeperTold = keeper_ask n.shape n.places (keeper_next n.shape n.places n.keeper (reply_to n.words ask) granted) in
      let led = keeps n actors past shows granted done read in
      let same : (guard_run W events).now.actions ≡ actions_settled n.actions (slot_ask ask behind) = led.actions ∙ keeper_actions n.shape n.places granted done read (near n n.keeper) ask in
      let changes = found_moves n.actions (slot_ask ask behind) slot shows.sound.epochs.eight_slots (keeper_found n actors past shows granted) (sym (same_slot ask behind) ∙ named) in
      step_turns (keeper_number n) (keeper_now n) W events slot shows.sound (keeper_steps (keeper_number n) n.shape n.places granted done read n.keeper n.words)
      (λ e. changes (ap (λ (actions : List (Option Action)). action_at actions slot) (sym same) ∙ e))

  -- The guard's events of an event that isn't this session's are none of its actor, and so of the keeper.
  by_crash : (a : ℕ) (events : List GuardEvent) → AreOther events a → AreOther (if n.crashed then [] else events) a
  by_crash a events others = by n.crashed
    where
      by : (b : Bool) → AreOther (if b then [] else events) a
      by true = tt
      by false = others

  pub session_spared : (read : List ℕ) (i : ℕ) (event : Event) → i < keeper_number n → is_of_session i event ≡ false → AreOther (guard_events n read event) i
  unfolding life_events
  session_spared read i event low other = by_crash i (life_events n read event) (by event other)
    where
      apart : (j : ℕ) → (j == i) ≡ false → j ≢ i
      apart j e same = absurd (grind (arith, nat_tests, e, same))

      above : keeper_now n ≢ i
      above same = let up = actor_above (keeper_number n) n.keeper in absurd (omega (arith, low, same, up))

      by : (e : Event) → is_of_session i e ≡ false → AreOther (life_events n read e) i
      by (Calls j call) its = of_others (keeper_number n) j _ (called_is n j call (slice_get n.sessions j)) i (apart j its) (inr low)
      by (Moves j) its = of_others (keeper_number n) j _ (moved_is n j (slice_get n.sessions j)) i (apart j its) (inr low)
      by (Commits kind) its = tt
      by Turns its = of_others (keeper_number n) (keeper_now n) _ (turn_asked_steps (keeper_number n) n.keeper) i above (inr low)
      by (KeeperMoves granted done) its = of_others (keeper_number n) (keeper_now n) _ (keeper_steps (keeper_number n) n.shape n.places granted done read n.keeper n.words) i above (inr low)
      by Crashes its = tt

  pub keeper_spared : (read : List ℕ) (event : Event) (b : ℕ) → keeper_number n ≤ b → is_of_keeper event ≡ false → AreOther (guard_events n read event) b
  unfolding life_events
  keeper_spared read event b up other = by_crash b (life_events n read event) (by event other)
    where
      apart : (j : ℕ) → j < keeper_number n → j ≢ b
      apart j low same = absurd (omega (arith, low, same, up))

      called : (j : ℕ) (call : Call) (found : Option SessionState) → slice_get n.sessions j ≡ found → AreOther (called_events n j call found) b
      called j call None there = tt
      called j call (Some s) there = of_others (keeper_number n) j _ (called_is n j call (Some s)) b (apart j (below j s there)) (inl (below j s there))

      moved : (j : ℕ) (found : Option SessionState) → slice_get n.sessions j ≡ found → AreOther (moved_events n j found) b
      moved j None there = tt
      moved j (Some s) there = of_others (keeper_number n) j _ (moved_is n j (Some s)) b (apart j (below j s there)) (inl (below j s there))

      by : (e : Event) → is_of_keeper e ≡ false → AreOther (life_events n read e) b
      by (Calls j call) its = called j call (slice_get n.sessions j) refl
      by (Moves j) its = moved j (slice_get n.sessions j) refl
      by Crashes its = tt
      by e its = cc

  -- Where another actor holds the slot, no event turns to it.
  pub session_turns_not : (read : List ℕ) (i slot : ℕ) (event : Event) → WriteOuter n → IsHolder W.now i slot → i < keeper_number n → is_of_session i event ≡ false → slot_named n event ≢ Some slot
  session_turns_not read i slot (Moves j) outer holder low other named = by (slice_get n.sessions j) refl named
    where
      by : (found : Option SessionState) → slice_get n.sessions j ≡ found → session_slot_named n (seat_at n j) found ≡ Some slot → ⊥
      by None there its = cc
      by (Some s) there its = let same = (session_turns j slot s there outer its).alone i holder in absurd (grind (arith, nat_tests, other, same))
  session_turns_not read i slot (KeeperMoves granted done) outer holder low other named = let same = (keeper_turns granted done read slot named).alone i holder in let up = actor_above (keeper_number n) n.keeper in absurd (omega (arith, low, same, up))
  session_turns_not read i slot event outer holder low other named = cc

  pub keeper_turns_not : (slot : ℕ) (event : Event) (b : ℕ) → keeper_number n ≤ b → WriteOuter n → IsHolder W.now b slot → is_of_keeper event ≡ false → slot_named n event ≢ Some slot
  keeper_turns_not slot (Moves j) b up outer holder other named = by (slice_get n.sessions j) refl named
    where
      by : (found : Option SessionState) → slice_get n.sessions j ≡ found → session_slot_named n (seat_at n j) found ≡ Some slot → ⊥
      by None there its = cc
      by (Some s) there its =
          let same = (session_turns j slot s there outer its).alone b holder in
          let low = below j s there in
          absurd (omega (arith, low, same, up))
  keeper_turns_not slot event b up outer holder other named = cc

-- At the moments of a life.
shown : (first : World) (start : ℕ) (events : List Event) → IsOpened first.now start
    → (let w : GuardWorld = seen_by_guard first start events in Shows (run first events).now (world_of (run first events).now w.now.actors w.past))
shown first start events opened = shown_so (run first events).now (seen_by_guard first start events) (life_shows first start events opened)

holder_shown : (first : World) (start : ℕ) (events : List Event) (a slot : ℕ) → IsOpened first.now start → IsHolder (seen_by_guard first start events).now a slot
    → (let n : Now = (run first events).now in let w : GuardWorld = seen_by_guard first start events in let v : GuardWorld = world_of n w.now.actors w.past in IsHolder v.now a slot)
holder_shown first start events a slot opened holder =
    subst (λ (v : GuardWorld). IsHolder v.now a slot) (is_world_of (run first events).now (seen_by_guard first start events) (life_shows first start events opened)) holder

-- who sits or keeps there stays so
same_keeper : (first : World) (events : List Event) → keeper_number (run first events).now ≡ keeper_number first.now
same_keeper first events = ap (λ (p : Places). p.sessions) (places_stay first events)

-- what the guard has after an event
holder_on : (first : World) (start : ℕ) (events : List Event) (event : Event) (a slot : ℕ) → AreOther (guard_events (run first events).now (read_by_keeper (run first events)) event) a
    → IsHolder (seen_by_guard first start events).now a slot → IsHolder (seen_by_guard first start (event ∷ events)).now a slot
holder_on first start events event a slot others holder =
    let b : World = run first events in
    subst (λ (v : GuardWorld). IsHolder v.now a slot) (sym (life_on first start events event))
    (others_hold (seen_by_guard first start events) (guard_events b.now (read_by_keeper b) event) a slot others holder)

session_holds_on : (first : World) (start : ℕ) (later events : List Event) (i slot : ℕ) → IsOpened first.now start → i < keeper_number first.now → NoneOfSession i later
    → IsHolder (seen_by_guard first start events).now i slot → IsHolder (seen_by_guard first start (later ++ events)).now i slot
session_holds_on first start [] events i slot opened low others holder = holder
session_holds_on first start (event ∷ later) events i slot opened low others holder =
    let b : World = run first (later ++ events) in
    let w : GuardWorld = seen_by_guard first start (later ++ events) in
    holder_on first start (later ++ events) event i slot
    (session_spared b.now w.now.actors w.past (shown first start (later ++ events) opened) (read_by_keeper b) i event (subst (λ (count : ℕ). i < count) (sym (same_keeper first (later ++ events))) low) others.0)
    (session_holds_on first start later events i slot opened low others.1 holder)

keeper_holds_on : (first : World) (start : ℕ) (later events : List Event) (b slot : ℕ) → IsOpened first.now start → keeper_number first.now ≤ b → NoneOfKeeper later
    → IsHolder (seen_by_guard first start events).now b slot → IsHolder (seen_by_guard first start (later ++ events)).now b slot
keeper_holds_on first start [] events b slot opened up others holder = holder
keeper_holds_on first start (event ∷ later) events b slot opened up others holder =
    let here : World = run first (later ++ events) in
    let w : GuardWorld = seen_by_guard first start (later ++ events) in
    holder_on first start (later ++ events) event b slot
    (keeper_spared here.now w.now.actors w.past (shown first start (later ++ events) opened) (read_by_keeper here) event b (subst (λ (k : ℕ). k ≤ b) (sym (same_keeper first (later ++ events))) up) others.0)
    (keeper_holds_on first start later events b slot opened up others.1 holder)

-- an event that goes on and turns to a slot
turned_on : (first : World) (start : ℕ) (before : List Event) (event : Event) (a slot : ℕ) → IsOpened first.now start → (run first before).now.crashed ≡ false
    → (let n : Now = (run first before).now in let w : GuardWorld = seen_by_guard first start before in
    let v : GuardWorld = world_of n w.now.actors w.past in TurnsTo v (guard_run v (life_events n (read_by_keeper (run first before)) event)) a slot)
    → IsHolder (seen_by_guard first start (event ∷ before)).now a slot
turned_on first start before event a slot opened going turned =
    let b : World = run first before in
    let w : GuardWorld = seen_by_guard first start before in
    let read : List ℕ = read_by_keeper b in
    let events : List GuardEvent = life_events b.now read event in
    let here : IsHolder (guard_run w events).now a slot =
    subst (λ (v : GuardWorld). IsHolder (guard_run v events).now a slot) (sym (is_world_of b.now w (life_shows first start before opened))) turned.holder in
    subst (λ (v : GuardWorld). IsHolder v.now a slot) (sym (life_on first start before event))
    (subst (λ (over : Bool). IsHolder (guard_run w (if over then [] else events)).now a slot) (sym going) here)

session_apart : (first : World) (start : ℕ) (later before : List Event) (i : ℕ) (its : Event) (slot : ℕ) → IsOpened first.now start → (run first before).now.crashed ≡ false
    → slot_named (run first before).now (Moves i) ≡ Some slot → is_of_session i its ≡ false → NoneOfSession i later → slot_named (run first (later ++ (Moves i ∷ before))).now its ≢ Some slot
unfolding life_events
session_apart first start later before i its slot opened going named other others = by (slice_get n.sessions i) refl named
  where
    n : Now
    n = (run first before).now

    w : GuardWorld
    w = seen_by_guard first start before

    by : (found : Option SessionState) → slice_get n.sessions i ≡ found → session_slot_named n (seat_at n i) found ≡ Some slot → slot_named (run first (later ++ (Moves i ∷ before))).now its ≢ Some slot
    by None there none = cc
    by (Some s) there some =
        let shows = shown first start before opened in
        let low_here : i < keeper_number n = below n w.now.actors w.past shows i s there in
        let low : i < keeper_number first.now = subst (λ (count : ℕ). i < count) (same_keeper first before) low_here in
        let turned = session_turns n w.now.actors w.past shows i slot s there (write_outer first start before opened) some in
        let holder : IsHolder (seen_by_guard first start (Moves i ∷ before)).now i slot =
        turned_on first start before (Moves i) i slot opened going
        (subst (λ (found : Option SessionState). (let v : GuardWorld = world_of n w.now.actors w.past in TurnsTo v (guard_run v (moved_events n i found)) i slot)) (sym there) turned) in
        let events : List Event = later ++ (Moves i ∷ before) in
        let b : World = run first events in
        let v : GuardWorld = seen_by_guard first start events in
        session_turns_not b.now v.now.actors v.past (shown first start events opened) (read_by_keeper b) i slot its (write_outer first start events opened)
        (holder_shown first start events i slot opened (session_holds_on first start later (Moves i ∷ before) i slot opened low others holder))
        (subst (λ (count : ℕ). i < count) (sym (same_keeper first events)) low) other

keeper_apart : (first : World) (start : ℕ) (later before : List Event) (granted done : Bool) (its : Event) (slot : ℕ) → IsOpened first.now start → (run first before).now.crashed ≡ false
    → slot_named (run first before).now (KeeperMoves granted done) ≡ Some slot → is_of_keeper its ≡ false → NoneOfKeeper later
    → slot_named (run first (later ++ (KeeperMoves granted done ∷ before))).now its ≢ Some slot
unfolding life_events
keeper_apart first start later before granted done its slot opened going named other others =
    let n : Now = (run first before).now in
    let w : GuardWorld = seen_by_guard first start before in
    let turned = keeper_turns n w.now.actors w.past (shown first start before opened) granted done (read_by_keeper (run first before)) slot named in
    let a : ℕ = keeper_now n in
    let up : keeper_number first.now ≤ a = subst (λ (k : ℕ). k ≤ a) (same_keeper first before) (actor_above (keeper_number n) n.keeper) in
    let here : IsHolder (seen_by_guard first start (KeeperMoves granted done ∷ before)).now a slot =
    turned_on first start before (KeeperMoves granted done) a slot opened going turned in
    let events : List Event = later ++ (KeeperMoves granted done ∷ before) in
    let b : World = run first events in
    let v : GuardWorld = seen_by_guard first start events in
    let last = keeper_holds_on first start later (KeeperMoves granted done ∷ before) a slot opened up others here in
    let there = holder_shown first start events a slot opened last in
    keeper_turns_not b.now v.now.actors v.past (shown first start events opened) slot its a (subst (λ (k : ℕ). k ≤ a) (sym (same_keeper first events)) up) (write_outer first start events opened) there other

pub life_apart : (first : World) (start : ℕ) (later before : List Event) (event its : Event) (slot : ℕ) → IsOpened first.now start → (run first before).now.crashed ≡ false
    → slot_named (run first before).now event ≡ Some slot → AreOfOthers event (its ∷ later) → slot_named (run first (later ++ (event ∷ before))).now its ≢ Some slot
life_apart first start later before (Moves i) its slot opened going named others = session_apart first start later before i its slot opened going named others.0 others.1
life_apart first start later before (KeeperMoves granted done) its slot opened going named others = keeper_apart first start later before granted done its slot opened going named others.0 others.1
life_apart first start later before event its slot opened going named others = cc
