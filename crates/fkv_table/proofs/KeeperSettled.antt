-- How the keeper and its seat stand behind a step, with the action that goes with it.
use Rattle.std.proofs.Common.{◌≡◌, ℕ, ◌<◌, refl, sym, ap, subst, ◌∙◌, Bool, true, false, List, ◌∷◌, ◌++◌, length, map, arith}
use Rattle.std.specs.Prelude.{Option, Some, None}
use Rattle.atomic_table.specs.Table.{Me, rest}
use Rattle.fkv_base.specs.declared.shapes.Shape.{Shape}
use Rattle.fkv_epoch.proofs.Shown.{within_item}
use Rattle.fkv_plane.specs.declared.actions.Action.{Action}
use Rattle.fkv_plane.specs.declared.asks.Ask.{Ask}
use Rattle.fkv_plane.specs.declared.asks.Ask.TheVariants.{Load, Store, Swap, Cas, Add, Max, Put, Take, Done}
use Rattle.fkv_plane.specs.declared.places.Places.{Places}
use Rattle.fkv_plane.specs.Asked.{asked_place, words_after}
use Rattle.fkv_plane.specs.Plane.{action_at}
use Rattle.fkv_disk.specs.Calls as device
use Rattle.fkv_keeper.specs.Answers.{is_busy}
use Rattle.fkv_keeper.specs.KeeperAsks.{keeper_asks_left}
use Rattle.fkv_keeper.specs.declared.answers.KeeperTold.{KeeperTold}
use Rattle.fkv_keeper.specs.declared.keepers.Keeping.{Keeping}
use Rattle.fkv_keeper.specs.declared.keepers.Keeping.TheVariants.{LoadsPhase}
use Rattle.fkv_keeper.specs.Keeping.{KeeperModel, KeeperState, keeper_ask, keeper_next, keeping_ask, keeping_next}
use Rattle.fkv_keeper.proofs.Shown.{keeper_left}
use Rattle.law_world.specs.Below.fkv_world.Actors.{keeper_goes, slot_asked, slot_named}
use Rattle.law_world.specs.Below.fkv_world.Moves.{Near, keeper_asks, keeper_gets, keeper_replied, keeper_settled}
use Rattle.law_world.specs.Below.fkv_world.Past.{calls_after}
use Rattle.law_world.specs.Below.fkv_world.Runs.{World, read_by_keeper}
use Rattle.law_world.specs.Below.fkv_world.World.{Now, near, with_keeper}
use Rattle.law_world.proofs.Below.fkv_world.Shown.{keeper_own}
use Rattle.law_world.specs.Runs.Ends.{KeeperStandsAtNoSlot, asks_left_of_keeper}
use Rattle.law_world.proofs.OfRuns.Ends.{keeper_down}
use Rattle.law_world.proofs.OfGuarded.Ends.{life_keeper_stands}
use Rattle.fkv_seats.specs.declared.held.Held.TheVariants.{Drain}
use Rattle.fkv_seats.specs.Rule.{AreAllowed, Carries, HandFits, action_in, base, flat, led}
use Rattle.fkv_seats.proofs.Keeps.{allowed_both, no_some}
use Rattle.fkv_table.specs.declared.happenings.Happening.{Happening}
use Rattle.fkv_table.specs.declared.happenings.Happening.TheVariants.{KeeperMoves}
use Rattle.fkv_table.specs.Desks.{Slot, Knows}
use Rattle.fkv_table.specs.Events.{event_of}
use Rattle.fkv_table.specs.KeeperCalls.{HasGoneOn}
use Rattle.fkv_table.specs.Keeps.{IsKeeping, KeeperIsAsked, KeeperReplied, KeeperSettled}
use Rattle.fkv_table.specs.Openings.{IsGuardedOpening}
use Rattle.fkv_table.specs.Planes.{plane}
use Rattle.fkv_table.proofs.Lives.{alive, led_run, named_within, slots_count}
use Rattle.fkv_table.proofs.KeeperNotes.{moves_calls, places_so, quiet_calls, quiet_is, shape_so, there}
use Rattle.fkv_table.proofs.KeeperSteps.{names_so}
use Rattle.fkv_table.proofs.KeeperCalled.{gone_on}
use Rattle.fkv_table.proofs.Moved.{same_drawer}
use Rattle.fkv_table.proofs.Settled.{none_there, same_in_hand}

-- where an action is put into its slot memory doesn't count
put_is_granted : (shape : Shape) (p : Places) (s : KeeperState) (step : Keeping) (slot : ℕ) (action : Action) (reply : ℕ) (granted other : Bool) → keeping_ask shape p s step ≡ Put slot action → keeping_next shape p s step reply granted ≡ keeping_next shape p s step reply other
unfolding keeping_ask keeping_next
put_is_granted shape p s LoadsPhase slot action reply granted other puts = cc
put_is_granted shape p s step slot action reply granted other puts = refl

-- a word is asked for, and then the action that goes with it is moved
asks_settled : (shape : Shape) (p : Places) (granted done : Bool) (read : List ℕ) (n : Near KeeperState) (ask : Ask KeeperTold) (place : ℕ) → asked_place ask ≡ Some place
    → keeper_asks shape p granted done read n ask ≡ keeper_settled shape p granted (keeper_replied shape p granted n ask) (keeper_ask shape p (keeper_replied shape p granted n ask).machine)
unfolding keeper_asks
asks_settled shape p granted done read n (Load i) place e = refl
asks_settled shape p granted done read n (Store i new) place e = refl
asks_settled shape p granted done read n (Swap i new) place e = refl
asks_settled shape p granted done read n (Cas i old new) place e = refl
asks_settled shape p granted done read n (Add i more) place e = refl
asks_settled shape p granted done read n (Max i more) place e = refl
asks_settled shape p granted done read n (Put slot action) place e = no_some place e
asks_settled shape p granted done read n (Take slot) place e = no_some place e
asks_settled shape p granted done read n (Done its) place e = no_some place e

-- an ask of a word makes no call of the device, and is no end
word_adds_none : (ask : Ask KeeperTold) (place : ℕ) → asked_place ask ≡ Some place → (made calls : List device.Call) → calls_after ask made calls ≡ calls
word_adds_none (Load i) place e made calls = refl
word_adds_none (Store i new) place e made calls = refl
word_adds_none (Swap i new) place e made calls = refl
word_adds_none (Cas i old new) place e made calls = refl
word_adds_none (Add i more) place e made calls = refl
word_adds_none (Max i more) place e made calls = refl
word_adds_none (Put slot action) place e made calls = refl
word_adds_none (Take slot) place e made calls = refl
word_adds_none (Done its) place e made calls = no_some place e

word_busy : (ask : Ask KeeperTold) (place : ℕ) → asked_place ask ≡ Some place → is_busy ask ≡ true
word_busy (Load i) place e = refl
word_busy (Store i new) place e = refl
word_busy (Swap i new) place e = refl
word_busy (Cas i old new) place e = refl
word_busy (Add i more) place e = refl
word_busy (Max i more) place e = refl
word_busy (Put slot action) place e = refl
word_busy (Take slot) place e = refl
word_busy (Done its) place e = no_some place e

-- where the keeper's step leads from its machine in this store
abbrev moved_by : Now → Bool → Shape → Places → KeeperState → Now
moved_by n granted shape p s =
    let behind : Near KeeperState = keeper_replied shape p granted (near n s) (keeper_ask shape p s) in
    with_keeper n (keeper_settled shape p granted behind (keeper_ask shape p behind.machine))

module _ {K : Type 0} (at : K → World) where
  module _ (key : K) (me me1 : Me Slot (Knows K)) (k k1 : KeeperModel) (granted : Bool) (guard : IsGuardedOpening (at key)) (its : IsKeeping at key me k) (r : KeeperReplied at key me granted k me1 k1)
      (place : ℕ) (named : asked_place (keeper_ask k.shape k.places k.state) ≡ Some place) where
    abbrev behind : List Happening
    behind = r.others ++ me.0.seen

    abbrev x : World
    x = led (plane at) (at key) behind

    abbrev y : World
    y = led (plane at) (at key) (KeeperMoves granted true ∷ behind)

    shape_is : x.now.shape ≡ k.shape
    shape_is = shape_so at (at key) behind ∙ sym its.shape

    places_is : x.now.places ≡ k.places
    places_is = places_so at (at key) behind ∙ sym its.places

    stood : x.now.keeper ≡ k.state
    stood = there at key me k guard its r.others r.quiet

    abbrev near1 : Near KeeperState
    near1 = record { machine = k1.state; words = words_after x.now.words (keeper_ask k.shape k.places k.state); actions = x.now.actions }

    abbrev asks1 : Ask KeeperTold
    asks1 = keeper_ask k.shape k.places k1.state

    after_now : y.now ≡ with_keeper x.now (keeper_settled k.shape k.places granted near1 asks1)
    unfolding led keeper_goes
    after_now =
        let there_named : asked_place (keeper_ask x.now.shape x.now.places x.now.keeper) ≡ Some place = (λ i. asked_place (keeper_ask (shape_is i) (places_is i) (stood i))) ∙ named in
        keeper_own x (event_of (KeeperMoves granted true)) refl (alive at (at key) behind guard.opened.goes_on)
        ∙ (ap (with_keeper x.now) (asks_settled x.now.shape x.now.places granted true (read_by_keeper x) (near x.now x.now.keeper) (keeper_ask x.now.shape x.now.places x.now.keeper) place there_named)
        ∙ ((λ i. moved_by x.now granted (shape_is i) (places_is i) (stood i))
        ∙ λ i. with_keeper x.now (keeper_settled k.shape k.places granted (record near1 { machine = sym r.state i }) (keeper_ask k.shape k.places (sym r.state i)))))

    abbrev drawer : ℕ → Slot
    drawer slot = Drain (action_in x.now.actions slot)

    by_hand : (ask : Ask KeeperTold) → me1.0.hand ≡ slot_asked ask → Carries (plane at) (at key) behind me1.0.hand (base (plane at) me.0.hand me.1) me1.1 → KeeperIsAsked at ask me1
    by_hand (Put slot action) h c =
        let e : me1.1 ≡ (slot, drawer slot) ∷ base (plane at) me.0.hand me.1 = rw h at c in (drawer slot, e ∙ ap (λ (cs : List (ℕ × Slot)). (slot, drawer slot) ∷ rest cs) (sym e))
    by_hand (Take slot) h c =
        let e : me1.1 ≡ (slot, drawer slot) ∷ base (plane at) me.0.hand me.1 = rw h at c in (action_in x.now.actions slot, e ∙ ap (λ (cs : List (ℕ × Slot)). (slot, drawer slot) ∷ rest cs) (sym e))
    by_hand ask h c = tt

    pub hand_asked : (ask : Ask KeeperTold) → ask ≡ asks1 → KeeperIsAsked at ask me1
    hand_asked ask is = by_hand ask (r.hand ∙ ap slot_asked (sym is)) r.carries

    turned_to : (ask : Ask KeeperTold) → ask ≡ asks1 → (slot : ℕ) → slot_asked ask ≡ Some slot → slot_named x.now (event_of (KeeperMoves granted true)) ≡ Some slot
    turned_to ask is slot e =
        names_so at key me k guard its granted r.others r.quiet place named ∙ (ap (λ (s : KeeperState). slot_asked (keeper_ask k.shape k.places s)) (sym r.state) ∙ (ap slot_asked (sym is) ∙ e))

    -- where the action that goes with the reply leads
    state_so : (me' : Me Slot (Knows K)) (k' : KeeperModel) (ask : Ask KeeperTold) → ask ≡ asks1 → me1.0.hand ≡ slot_asked ask → Carries (plane at) (at key) behind me1.0.hand (base (plane at) me.0.hand me.1) me1.1
        → KeeperSettled at ask me1 k1 me' k' → (keeper_settled k.shape k.places granted near1 ask).machine ≡ k'.state
    unfolding keeper_settled
    state_so me' k' (Put slot action) is h c t =
        put_is_granted k.shape k.places k1.state k1.state.step slot action 0 granted false (sym is)
        ∙ ((λ i. keeper_next (sym r.store.0 i) (sym r.store.1 i) k1.state 0 false) ∙ sym (ap (λ (z : KeeperModel). z.state) t.1))
    state_so me' k' (Take slot) is h c t =
        let e : me1.1 ≡ (slot, drawer slot) ∷ base (plane at) me.0.hand me.1 = rw h at c in
        let same : action_at x.now.actions slot ≡ t.0 = sym (same_in_hand slot slot t.0 (action_in x.now.actions slot) _ _ (sym t.1 ∙ e) ∙ same_drawer x.now.actions slot) in
        (λ i. keeper_gets (sym r.store.0 i) (sym r.store.1 i) k1.state (same i)) ∙ sym (ap (λ (z : KeeperModel). z.state) t.3)
    state_so me' k' (Load i) is h c t = sym (ap (λ (z : KeeperModel). z.state) t.1)
    state_so me' k' (Store i new) is h c t = sym (ap (λ (z : KeeperModel). z.state) t.1)
    state_so me' k' (Swap i new) is h c t = sym (ap (λ (z : KeeperModel). z.state) t.1)
    state_so me' k' (Cas i old new) is h c t = sym (ap (λ (z : KeeperModel). z.state) t.1)
    state_so me' k' (Add i more) is h c t = sym (ap (λ (z : KeeperModel). z.state) t.1)
    state_so me' k' (Max i more) is h c t = sym (ap (λ (z : KeeperModel). z.state) t.1)
    state_so me' k' (Done end) is h c t = sym (ap (λ (z : KeeperModel). z.state) t.1)

    -- the view and the store stay
    abbrev Stays : Me Slot (Knows K) → KeeperModel → Type 0
    Stays me' k' = (me'.0 ≡ me1.0) × (k'.shape ≡ k1.shape) × (k'.places ≡ k1.places)

    stays_so : (me' : Me Slot (Knows K)) (k' last : KeeperModel) → me'.0 ≡ me1.0 → k' ≡ last → last.shape ≡ k1.shape → last.places ≡ k1.places → Stays me' k'
    stays_so me' k' last view is shape places = (view, ap (λ (z : KeeperModel). z.shape) is ∙ shape, ap (λ (z : KeeperModel). z.places) is ∙ places)

    same_view : (me' : Me Slot (Knows K)) (k' : KeeperModel) (ask : Ask KeeperTold) → KeeperSettled at ask me1 k1 me' k' → Stays me' k'
    same_view me' k' (Put slot action) t = stays_so me' k' _ (ap (λ (z : Me Slot (Knows K)). z.0) t.0) t.1 refl refl
    same_view me' k' (Take slot) t = stays_so me' k' _ (ap (λ (z : Me Slot (Knows K)). z.0) t.2) t.3 refl refl
    same_view me' k' (Load i) t = stays_so me' k' _ (ap (λ (z : Me Slot (Knows K)). z.0) t.0) t.1 refl refl
    same_view me' k' (Store i new) t = stays_so me' k' _ (ap (λ (z : Me Slot (Knows K)). z.0) t.0) t.1 refl refl
    same_view me' k' (Swap i new) t = stays_so me' k' _ (ap (λ (z : Me Slot (Knows K)). z.0) t.0) t.1 refl refl
    same_view me' k' (Cas i old new) t = stays_so me' k' _ (ap (λ (z : Me Slot (Knows K)). z.0) t.0) t.1 refl refl
    same_view me' k' (Add i more) t = stays_so me' k' _ (ap (λ (z : Me Slot (Knows K)). z.0) t.0) t.1 refl refl
    same_view me' k' (Max i more) t = stays_so me' k' _ (ap (λ (z : Me Slot (Knows K)). z.0) t.0) t.1 refl refl
    same_view me' k' (Done end) t = stays_so me' k' _ (ap (λ (z : Me Slot (Knows K)). z.0) t.0) t.1 refl refl

    -- what is in the seat's hand is what the slot has after the event
    hand_so : (me' : Me Slot (Knows K)) (k' : KeeperModel) (ask : Ask KeeperTold) (seen : List Happening) (now : World) → led (plane at) (at key) seen ≡ now
        → now.now.actions ≡ (keeper_settled k.shape k.places granted near1 ask).actions → ((slot : ℕ) → slot_asked ask ≡ Some slot → slot < length x.now.actions) → KeeperSettled at ask me1 k1 me' k'
        → HandFits (plane at) (at key) seen (slot_asked ask) me'.1
    unfolding keeper_settled
    hand_so me' k' (Put slot action) seen now is acts deep t =
        let e : me'.1 ≡ (slot, Drain (Some action)) ∷ rest me1.1 = ap (λ (z : Me Slot (Knows K)). z.1) t.0 in
        let there : action_in (led (plane at) (at key) seen).now.actions slot ≡ Some action =
        ap (λ (z : World). action_in z.now.actions slot) is ∙ (ap (λ (actions : List (Option Action)). action_in actions slot) acts ∙ ap flat (within_item x.now.actions slot (Some action) (deep slot refl))) in
        e ∙ λ i. (slot, Drain (sym there i)) ∷ rest (sym e i)
    hand_so me' k' (Take slot) seen now is acts deep t =
        let e : me'.1 ≡ (slot, Drain None) ∷ rest me1.1 = ap (λ (z : Me Slot (Knows K)). z.1) t.2 in
        let there : action_in (led (plane at) (at key) seen).now.actions slot ≡ None =
        ap (λ (z : World). action_in z.now.actions slot) is ∙ (ap (λ (actions : List (Option Action)). action_in actions slot) acts ∙ none_there x.now.actions slot) in
        e ∙ λ i. (slot, Drain (sym there i)) ∷ rest (sym e i)
    hand_so me' k' ask seen now is acts deep t = tt

    -- beside the drain slot it has in hand what it had
    base_so : (me' : Me Slot (Knows K)) (k' : KeeperModel) (ask : Ask KeeperTold) → me1.0.hand ≡ slot_asked ask → Carries (plane at) (at key) behind me1.0.hand (base (plane at) me.0.hand me.1) me1.1
        → KeeperSettled at ask me1 k1 me' k' → base (plane at) (slot_asked ask) me'.1 ≡ base (plane at) me.0.hand me.1
    base_so me' k' (Put slot action) h c t =
        let e : me1.1 ≡ (slot, drawer slot) ∷ base (plane at) me.0.hand me.1 = rw h at c in ap (λ (z : Me Slot (Knows K)). rest z.1) t.0 ∙ ap rest e
    base_so me' k' (Take slot) h c t =
        let e : me1.1 ≡ (slot, drawer slot) ∷ base (plane at) me.0.hand me.1 = rw h at c in ap (λ (z : Me Slot (Knows K)). rest z.1) t.2 ∙ ap rest e
    base_so me' k' (Load i) h c t = let e : me1.1 ≡ base (plane at) me.0.hand me.1 = rw h at c in ap (λ (z : Me Slot (Knows K)). z.1) t.0 ∙ e
    base_so me' k' (Store i new) h c t = let e : me1.1 ≡ base (plane at) me.0.hand me.1 = rw h at c in ap (λ (z : Me Slot (Knows K)). z.1) t.0 ∙ e
    base_so me' k' (Swap i new) h c t = let e : me1.1 ≡ base (plane at) me.0.hand me.1 = rw h at c in ap (λ (z : Me Slot (Knows K)). z.1) t.0 ∙ e
    base_so me' k' (Cas i old new) h c t = let e : me1.1 ≡ base (plane at) me.0.hand me.1 = rw h at c in ap (λ (z : Me Slot (Knows K)). z.1) t.0 ∙ e
    base_so me' k' (Add i more) h c t = let e : me1.1 ≡ base (plane at) me.0.hand me.1 = rw h at c in ap (λ (z : Me Slot (Knows K)). z.1) t.0 ∙ e
    base_so me' k' (Max i more) h c t = let e : me1.1 ≡ base (plane at) me.0.hand me.1 = rw h at c in ap (λ (z : Me Slot (Knows K)). z.1) t.0 ∙ e
    base_so me' k' (Done end) h c t = let e : me1.1 ≡ base (plane at) me.0.hand me.1 = rw h at c in ap (λ (z : Me Slot (Knows K)). z.1) t.0 ∙ e

    module _ (me' : Me Slot (Knows K)) (k' : KeeperModel) (ask : Ask KeeperTold) (is : ask ≡ asks1) (t : KeeperSettled at ask me1 k1 me' k') where
      same : Stays me' k'
      same = same_view me' k' ask t

      hand_is : me1.0.hand ≡ slot_asked ask
      hand_is = r.hand ∙ ap slot_asked (sym is)

      hand' : me'.0.hand ≡ slot_asked ask
      hand' = ap (λ (v : Knows K). v.hand) same.0 ∙ hand_is

      pub seen_is : me'.0.seen ≡ KeeperMoves granted true ∷ behind
      seen_is = ap (λ (v : Knows K). v.seen) same.0 ∙ r.seen

      settled_is : keeper_settled k.shape k.places granted near1 asks1 ≡ keeper_settled k.shape k.places granted near1 ask
      settled_is = ap (keeper_settled k.shape k.places granted near1) (sym is)

      acts : y.now.actions ≡ (keeper_settled k.shape k.places granted near1 ask).actions
      acts = ap (λ (z : Now). z.actions) after_now ∙ ap (λ (z : Near KeeperState). z.actions) settled_is

      deep : (slot : ℕ) → slot_asked ask ≡ Some slot → slot < length x.now.actions
      deep slot e = subst (λ (count : ℕ). slot < count) (sym (slots_count at (at key) guard behind)) (named_within at (at key) guard behind (KeeperMoves granted true) slot (turned_to ask is slot e))

      pub kept_on : IsKeeping at key me' k'
      kept_on = record {
        about = ap (λ (v : Knows K). v.about) same.0 ∙ (r.about ∙ its.about);
        from = its.from;
        role = ap (λ (v : Knows K). v.role) same.0 ∙ (r.role ∙ its.role);
        shape = same.1 ∙ (r.store.0 ∙ its.shape);
        places = same.2 ∙ (r.store.1 ∙ its.places);
        allowed = subst (AreAllowed (plane at)) (sym seen_is) (refl, allowed_both (plane at) r.others me.0.seen r.allowed its.allowed);
        state =
            sym (state_so me' k' ask is hand_is r.carries t)
            ∙ (ap (λ (z : Near KeeperState). z.machine) (sym settled_is) ∙ (sym (ap (λ (z : Now). z.keeper) after_now) ∙ ap (λ (es : List Happening). (led (plane at) (at key) es).now.keeper) (sym seen_is)));
        hand = subst (λ (z : List Happening × Option ℕ). HandFits (plane at) (at key) z.0 z.1 me'.1) (λ i. (sym seen_is i, sym hand' i)) (hand_so me' k' ask (KeeperMoves granted true ∷ behind) y refl acts deep t);
        alone = ap (λ (h : Option ℕ). base (plane at) h me'.1) hand' ∙ (base_so me' k' ask hand_is r.carries t ∙ its.alone);
      }

      -- no call of the device is made, and the call has fewer asks left
      pub calls_on : (led (plane at) (at key) me'.0.seen).past.calls ≡ (led (plane at) (at key) me.0.seen).past.calls
      unfolding led
      calls_on =
          let there_named : asked_place (keeper_ask x.now.shape x.now.places x.now.keeper) ≡ Some place = (λ i. asked_place (keeper_ask (shape_is i) (places_is i) (stood i))) ∙ named in
          ap (λ (es : List Happening). (led (plane at) (at key) es).past.calls) seen_is
          ∙ (moves_calls x granted true (alive at (at key) behind guard.opened.goes_on)
          ∙ (word_adds_none (keeper_ask x.now.shape x.now.places x.now.keeper) place there_named _ x.past.calls
          ∙ quiet_calls at (at key) its.from r.others me.0.seen (quiet_is at key me k guard its r.others r.quiet)))

      pub fewer_on : keeper_asks_left k'.shape k'.places k'.state < keeper_asks_left k.shape k.places k.state
      unfolding led
      fewer_on =
          let stands : KeeperStandsAtNoSlot x.now = subst (λ (z : World). KeeperStandsAtNoSlot z.now) (sym (led_run at (at key) behind)) (life_keeper_stands (at key) guard.start (map event_of behind) guard.guarded) in
          let before : asks_left_of_keeper x.now ≡ keeper_asks_left k.shape k.places k.state = λ i. keeper_asks_left (shape_is i) (places_is i) (stood i) in
          let some : 0 < keeper_asks_left k.shape k.places k.state = (keeper_left k.shape k.places k.state).0 (word_busy (keeper_ask k.shape k.places k.state) place named) in
          let down : asks_left_of_keeper y.now < asks_left_of_keeper x.now =
          keeper_down x granted true (alive at (at key) behind guard.opened.goes_on) (subst (λ (n : ℕ). 0 < n) (sym before) some) stands in
          let last : led (plane at) (at key) me'.0.seen ≡ y = ap (led (plane at) (at key)) seen_is in
          let after : keeper_asks_left k'.shape k'.places k'.state ≡ asks_left_of_keeper y.now =
          (λ i. keeper_asks_left ((kept_on.shape ∙ sym (shape_so at (at key) (KeeperMoves granted true ∷ behind))) i) ((kept_on.places ∙ sym (places_so at (at key) (KeeperMoves granted true ∷ behind))) i)
          ((kept_on.state ∙ ap (λ (z : World). z.now.keeper) last) i)) in
          omega (arith, down, before, after)

  -- one step of the keeper, whole
  pub record IsKeeperStep (key : K) (me : Me Slot (Knows K)) (k : KeeperModel) (me' : Me Slot (Knows K)) (k' : KeeperModel) : Type 0 where
    pub keeping : IsKeeping at key me' k'
    pub went : HasGoneOn me.0.seen me'.0.seen
    pub calls : (led (plane at) (at key) me'.0.seen).past.calls ≡ (led (plane at) (at key) me.0.seen).past.calls
    pub fewer : keeper_asks_left k'.shape k'.places k'.state < keeper_asks_left k.shape k.places k.state

  pub keeper_in_hand : (key : K) (me me1 : Me Slot (Knows K)) (k k1 : KeeperModel) (granted : Bool) (first ask : Ask KeeperTold) → IsGuardedOpening (at key) → IsKeeping at key me k → KeeperReplied at key me granted k me1 k1
      → first ≡ keeper_ask k.shape k.places k.state → (place : ℕ) × (asked_place first ≡ Some place) → ask ≡ keeper_ask k1.shape k1.places k1.state → KeeperIsAsked at ask me1
  keeper_in_hand key me me1 k k1 granted first ask guard its r was (place, e) is =
      hand_asked key me me1 k k1 granted guard its r place (ap asked_place (sym was) ∙ e) ask (is ∙ λ i. keeper_ask (r.store.0 i) (r.store.1 i) k1.state)

  pub keeper_stepped : (key : K) (me me1 me' : Me Slot (Knows K)) (k k1 k' : KeeperModel) (granted : Bool) (first ask : Ask KeeperTold) → IsGuardedOpening (at key) → IsKeeping at key me k → KeeperReplied at key me granted k me1 k1
      → first ≡ keeper_ask k.shape k.places k.state → (place : ℕ) × (asked_place first ≡ Some place) → ask ≡ keeper_ask k1.shape k1.places k1.state → KeeperSettled at ask me1 k1 me' k' → IsKeeperStep key me k me' k'
  keeper_stepped key me me1 me' k k1 k' granted first ask guard its r was (place, e) is t =
      let named : asked_place (keeper_ask k.shape k.places k.state) ≡ Some place = ap asked_place (sym was) ∙ e in
      let same : ask ≡ keeper_ask k.shape k.places k1.state = is ∙ λ i. keeper_ask (r.store.0 i) (r.store.1 i) k1.state in
      record {
        keeping = kept_on key me me1 k k1 granted guard its r place named me' k' ask same t;
        went = gone_on at its.from granted true r.others me.0.seen me'.0.seen (quiet_is at key me k guard its r.others r.quiet) (seen_is key me me1 k k1 granted guard its r place named me' k' ask same t);
        calls = calls_on key me me1 k k1 granted guard its r place named me' k' ask same t;
        fewer = fewer_on key me me1 k k1 granted guard its r place named me' k' ask same t;
      }
