-- What holds of slots, words and asks over each list of events, whatever reads of the device give.
use Rattle.std.proofs.Common.{◌≡◌, ◌≢◌, ℕ, ◌<◌, ◌≤◌, ◌∙◌, refl, sym, ap, subst, List, [], ◌∷◌, ◌++◌, length, Bool, false}
use Rattle.std.specs.Prelude.{if◌then◌else◌, Option, Some, None, slice_get}
use Rattle.std.proofs.lemmas.Nat.{pow_pos}
use Rattle.fkv_base.specs.Limits.{drain_slots}
use Rattle.fkv_base.specs.declared.shapes.Shape.{Shape}
use Rattle.fkv_plane.specs.declared.places.Places.{Places}
use Rattle.fkv_plane.specs.Asked.{asked_place}
use Rattle.fkv_plane.specs.Places.{word_count}
use Rattle.fkv_flush.specs.GuardSlots.{IsHolder}
use Rattle.fkv_flush.specs.GuardWorld.{GuardEvent, GuardWorld, guard_run}
use Rattle.fkv_keeper.specs.KeeperAsks.{keeper_asks_left}
use Rattle.fkv_keeper.specs.KeeperRun.{is_in_hand, keeper_run}
use Rattle.fkv_keeper.specs.Keeping.{KeeperState, keeper_ask}
use Rattle.fkv_keeper.proofs.Shown.{run_ended as keeper_ended}
use Rattle.fkv_session.specs.AsksLeft.{session_asks_left}
use Rattle.fkv_session.specs.SessionRun.{session_run}
use Rattle.fkv_session.specs.Sessions.{SessionState, Seat, is_busy, session_ask}
use Rattle.fkv_session.proofs.Shown.{run_ended}
use Rattle.fkv_world.specs.Actors.{NoneOfKeeper, NoneOfSession, is_of_keeper, is_of_session, session_slot_named, slot_asked, slot_named}
use Rattle.fkv_world.specs.World.{Event, Moves, KeeperMoves, Now, seat_at}
use Rattle.law_world.specs.Runs.Ends.{asks_left_of, asks_left_of_keeper, left_at}
use Rattle.law_world.specs.Guarded.GuardEvents.{guard_events, keeper_number, keeper_now, life_events, moved_events}
use Rattle.law_world.specs.Guarded.Reads.{Heard, events_heard, guard_heard, heard_run}
use Rattle.law_world.specs.Guarded.Shows.{IsOpened, Shows}
use Rattle.law_world.specs.Guarded.SlotsApart.{AreOfOthers}
use Rattle.law_world.specs.Guarded.SlotsFound.{FindsItsSlot}
use Rattle.law_world.proofs.OfGuarded.KeeperSteps.{actor_above}
use Rattle.law_world.proofs.OfGuarded.KeeperPlaces.{IsKeeperRow, run_row}
use Rattle.law_world.proofs.OfGuarded.KeeperSeeks.{run_seeks}
use Rattle.law_world.proofs.OfGuarded.Outer.{WriteOuter}
use Rattle.law_world.proofs.OfGuarded.Reads.{IsGuardedNow, RanSession, guarded_so, outer_so, seat_so}
use Rattle.law_world.proofs.OfGuarded.Slots.{finds, keeper_at_none, names_within, session_at_none, shown_so}
use Rattle.law_world.proofs.OfGuarded.SlotsApart.{below, keeper_spared, keeper_turns, keeper_turns_not, session_spared, session_turns, session_turns_not}
use Rattle.law_world.proofs.OfGuarded.SlotsHeld.{TurnsTo, others_hold}
use Rattle.law_world.proofs.OfGuarded.Worlds.{is_world_of, world_of}
use Rattle.law_world.proofs.OfGuarded.WordsWithin.{keeper_here, session_here}
use Rattle.law_world.proofs.OfGuardSessions.WordsWithin.{IsWithin, named_within}

module _ (first : Now) (start : ℕ) (opened : IsOpened first start) where
  -- a moment of such a life
  module _ (list : List Heard) where
    abbrev n : Now
    n = heard_run first list

    abbrev w : GuardWorld
    w = guard_heard first start list

    pub its : IsGuardedNow first n w
    its = guarded_so first start list opened

    pub outer : WriteOuter n
    outer = outer_so first start n w opened its

    pub shown : Shows n (world_of n w.now.actors w.past)
    shown = shown_so n w its.shows

    pub heard_finds : (event : Event) → FindsItsSlot n event
    heard_finds event = finds n w.now.actors w.past shown event outer

    pub heard_within : (event : Event) (slot : ℕ) → slot_named n event ≡ Some slot → slot < drain_slots
    heard_within event slot named = names_within n w.now.actors w.past shown event slot outer named

    pub heard_count : length n.actions ≡ drain_slots
    heard_count = ap length (sym its.shows.actions) ∙ its.shows.sound.epochs.eight_slots

    pub heard_session_rests : (number : ℕ) (s : SessionState) → slice_get n.sessions number ≡ Some s → slot_asked (session_ask (seat_at n number) s) ≡ None
    heard_session_rests number s there = session_at_none n w.now.actors w.past shown number s there

    pub heard_keeper_rests : slot_asked (keeper_ask n.shape n.places n.keeper) ≡ None
    heard_keeper_rests = keeper_at_none n w.now.actors w.past shown

    pub heard_session_place : (number place : ℕ) (s : SessionState) → slice_get n.sessions number ≡ Some s → asked_place (session_ask (seat_at n number) s) ≡ Some place → place < word_count first.places
    heard_session_place number place s there named =
        let k : Seat = seat_at first number in
        let r : RanSession first number s = its.sessions number s there in
        let ran : slice_get n.sessions number ≡ Some (session_run k r.opened r.came) = there ∙ ap (λ (x : SessionState). Some x) r.ran in
        let here : IsWithin n.places (session_ask (seat_at n number) (session_run k r.opened r.came)) =
        session_here n w.now.actors w.past shown number k r.opened r.came (opened.sessions number r.opened r.was) opened.buckets (sym its.places) ran in
        let same : IsWithin n.places (session_ask (seat_at n number) s) = subst (λ (x : SessionState). IsWithin n.places (session_ask (seat_at n number) x)) (sym r.ran) here in
        subst (λ (p : Places). place < word_count p) its.places (named_within n.places (asked_place (session_ask (seat_at n number) s)) place same named)

    pub heard_keeper_place : (place : ℕ) → first.keeper.seek.sessions ≤ first.places.sessions → asked_place (keeper_ask n.shape n.places n.keeper) ≡ Some place → place < word_count first.places
    heard_keeper_place place few named =
        let seeks : n.keeper.seek.sessions ≡ first.keeper.seek.sessions = ap (λ (s : KeeperState). s.seek.sessions) its.keeper.ran ∙ run_seeks first.shape first.places first.keeper its.keeper.came in
        let low : n.keeper.seek.sessions ≤ first.places.sessions = subst (λ (count : ℕ). count ≤ first.places.sessions) (sym seeks) few in
        let row : IsKeeperRow first.places n.keeper = subst (λ (s : KeeperState). IsKeeperRow first.places s) (sym its.keeper.ran) (run_row first.shape first.places first.keeper its.keeper.came opened.buckets (record { its_shape = opened.sweeps.0; its_places = opened.sweeps.1 }) opened.keeper) in
        let here : IsWithin n.places (keeper_ask n.shape n.places n.keeper) =
        keeper_here n w.now.actors w.past shown (subst (λ (p : Places). n.keeper.seek.sessions ≤ p.sessions) (sym its.places) low) (subst (λ (p : Places). IsKeeperRow p n.keeper) (sym its.places) row) in
        subst (λ (p : Places). place < word_count p) its.places (named_within n.places (asked_place (keeper_ask n.shape n.places n.keeper)) place here named)

    -- with no asks left no call is in hand
    pub heard_ended : (number : ℕ) (s : SessionState) → slice_get n.sessions number ≡ Some s → asks_left_of n number ≡ 0 → is_busy s.step ≡ false
    heard_ended number s there none =
        let k : Seat = seat_at first number in
        let r : RanSession first number s = its.sessions number s there in
        let left : session_asks_left (seat_at n number) s ≡ 0 = ap (left_at n number) (sym there) ∙ none in
        let seated : session_asks_left k s ≡ 0 = subst (λ (x : Seat). session_asks_left x s ≡ 0) (seat_so first n w its number) left in
        let own : session_asks_left k (session_run k r.opened r.came) ≡ 0 = subst (λ (x : SessionState). session_asks_left k x ≡ 0) r.ran seated in
        subst (λ (x : SessionState). is_busy x.step ≡ false) (sym r.ran) (run_ended k r.opened r.came (opened.sessions number r.opened r.was).none_in_hand own)

    pub heard_keeper_ended : asks_left_of_keeper n ≡ 0 → is_in_hand n.keeper.step ≡ false
    heard_keeper_ended none =
        let ran : KeeperState = keeper_run first.shape first.places first.keeper its.keeper.came in
        let there : keeper_asks_left n.shape n.places ran ≡ 0 = subst (λ (s : KeeperState). keeper_asks_left n.shape n.places s ≡ 0) its.keeper.ran none in
        let placed : keeper_asks_left n.shape first.places ran ≡ 0 = subst (λ (p : Places). keeper_asks_left n.shape p ran ≡ 0) its.places there in
        let shaped : keeper_asks_left first.shape first.places ran ≡ 0 = subst (λ (shape : Shape). keeper_asks_left shape first.places ran ≡ 0) its.shape placed in
        let buckets : 0 < first.places.buckets = subst (λ (count : ℕ). 0 < count) (sym opened.buckets) (pow_pos first.shape.bucket_bits) in
        subst (λ (s : KeeperState). is_in_hand s.step ≡ false) (sym its.keeper.ran) (keeper_ended first.shape first.places first.keeper its.keeper.came buckets opened.keeper.none_in_hand opened.keeper.none_rest shaped)

    -- whose the slots are
    holder_shown : (a slot : ℕ) → IsHolder w.now a slot → (let v : GuardWorld = world_of n w.now.actors w.past in IsHolder v.now a slot)
    holder_shown a slot holder = subst (λ (v : GuardWorld). IsHolder v.now a slot) (is_world_of n w its.shows) holder

    same_keeper : keeper_number n ≡ keeper_number first
    same_keeper = ap (λ (p : Places). p.sessions) its.places

    -- an event that turns to a slot, before a crash
    turned_on : (read : List ℕ) (event : Event) (a slot : ℕ) → n.crashed ≡ false
        → (let v : GuardWorld = world_of n w.now.actors w.past in TurnsTo v (guard_run v (life_events n read event)) a slot) → IsHolder (guard_run w (guard_events n read event)).now a slot
    turned_on read event a slot going turned =
        let events : List GuardEvent = life_events n read event in
        let here : IsHolder (guard_run w events).now a slot = subst (λ (v : GuardWorld). IsHolder (guard_run v events).now a slot) (sym (is_world_of n w its.shows)) turned.holder in
        subst (λ (over : Bool). IsHolder (guard_run w (if over then [] else events)).now a slot) (sym going) here

  session_holds : (later before : List Heard) (i slot : ℕ) → i < keeper_number first → NoneOfSession i (events_heard later) → IsHolder (guard_heard first start before).now i slot
      → IsHolder (guard_heard first start (later ++ before)).now i slot
  unfolding guard_heard
  session_holds [] before i slot low others holder = holder
  session_holds (it ∷ later) before i slot low others holder =
      let list : List Heard = later ++ before in
      let n : Now = heard_run first list in
      let v : GuardWorld = guard_heard first start list in
      let spared = session_spared n v.now.actors v.past (shown list) it.read i it.event (subst (λ (count : ℕ). i < count) (sym (same_keeper list)) low) others.0 in
      others_hold v (guard_events n it.read it.event) i slot spared (session_holds later before i slot low others.1 holder)

  keeper_holds : (later before : List Heard) (b slot : ℕ) → keeper_number first ≤ b → NoneOfKeeper (events_heard later) → IsHolder (guard_heard first start before).now b slot
      → IsHolder (guard_heard first start (later ++ before)).now b slot
  unfolding guard_heard
  keeper_holds [] before b slot up others holder = holder
  keeper_holds (it ∷ later) before b slot up others holder =
      let list : List Heard = later ++ before in
      let n : Now = heard_run first list in
      let v : GuardWorld = guard_heard first start list in
      let spared = keeper_spared n v.now.actors v.past (shown list) it.read it.event b (subst (λ (k : ℕ). k ≤ b) (sym (same_keeper list)) up) others.0 in
      others_hold v (guard_events n it.read it.event) b slot spared (keeper_holds later before b slot up others.1 holder)

  session_apart : (later before : List Heard) (i : ℕ) (read : List ℕ) (its_event : Event) (slot : ℕ) → (heard_run first before).crashed ≡ false → slot_named (heard_run first before) (Moves i) ≡ Some slot
      → is_of_session i its_event ≡ false → NoneOfSession i (events_heard later) → slot_named (heard_run first (later ++ (record { event = Moves i; read = read } ∷ before))) its_event ≢ Some slot
  unfolding life_events guard_heard
  session_apart later before i read its_event slot going named other others = by (slice_get (heard_run first before).sessions i) refl named
    where
      by : (found : Option SessionState) → slice_get (heard_run first before).sessions i ≡ found → session_slot_named (heard_run first before) (seat_at (heard_run first before) i) found ≡ Some slot
          → slot_named (heard_run first (later ++ (record { event = Moves i; read = read } ∷ before))) its_event ≢ Some slot
      by None there none = cc
      by (Some s) there some =
          let n : Now = heard_run first before in
          let w : GuardWorld = guard_heard first start before in
          let one : Heard = record { event = Moves i; read = read } in
          let low : i < keeper_number first = subst (λ (count : ℕ). i < count) (same_keeper before) (below n w.now.actors w.past (shown before) i s there) in
          let turned = session_turns n w.now.actors w.past (shown before) i slot s there (outer before) some in
          let holder : IsHolder (guard_heard first start (one ∷ before)).now i slot =
          turned_on before read (Moves i) i slot going
          (subst (λ (found : Option SessionState). (let v : GuardWorld = world_of n w.now.actors w.past in TurnsTo v (guard_run v (moved_events n i found)) i slot)) (sym there) turned) in
          let list : List Heard = later ++ (one ∷ before) in
          let v : GuardWorld = guard_heard first start list in
          session_turns_not (heard_run first list) v.now.actors v.past (shown list) read i slot its_event (outer list)
          (holder_shown list i slot (session_holds later (one ∷ before) i slot low others holder))
          (subst (λ (count : ℕ). i < count) (sym (same_keeper list)) low) other

  keeper_apart : (later before : List Heard) (granted done : Bool) (read : List ℕ) (its_event : Event) (slot : ℕ) → (heard_run first before).crashed ≡ false
      → slot_named (heard_run first before) (KeeperMoves granted done) ≡ Some slot → is_of_keeper its_event ≡ false → NoneOfKeeper (events_heard later)
      → slot_named (heard_run first (later ++ (record { event = KeeperMoves granted done; read = read } ∷ before))) its_event ≢ Some slot
  unfolding life_events guard_heard
  keeper_apart later before granted done read its_event slot going named other others =
      let n : Now = heard_run first before in
      let w : GuardWorld = guard_heard first start before in
      let one : Heard = record { event = KeeperMoves granted done; read = read } in
      let turned = keeper_turns n w.now.actors w.past (shown before) granted done read slot named in
      let a : ℕ = keeper_now n in
      let up : keeper_number first ≤ a = subst (λ (k : ℕ). k ≤ a) (same_keeper before) (actor_above (keeper_number n) n.keeper) in
      let here : IsHolder (guard_heard first start (one ∷ before)).now a slot = turned_on before read (KeeperMoves granted done) a slot going turned in
      let list : List Heard = later ++ (one ∷ before) in
      let v : GuardWorld = guard_heard first start list in
      let there = holder_shown list a slot (keeper_holds later (one ∷ before) a slot up others here) in
      keeper_turns_not (heard_run first list) v.now.actors v.past (shown list) slot its_event a (subst (λ (k : ℕ). k ≤ a) (sym (same_keeper list)) up) (outer list) there other

  pub heard_apart : (later before : List Heard) (it : Heard) (its_event : Event) (slot : ℕ) → (heard_run first before).crashed ≡ false → slot_named (heard_run first before) it.event ≡ Some slot
      → AreOfOthers it.event (its_event ∷ events_heard later) → slot_named (heard_run first (later ++ (it ∷ before))) its_event ≢ Some slot
  heard_apart later before it its_event slot going named others = by it.event refl named others
    where
      by : (event : Event) → it.event ≡ event → slot_named (heard_run first before) event ≡ Some slot → AreOfOthers event (its_event ∷ events_heard later)
          → slot_named (heard_run first (later ++ (record { event = it.event; read = it.read } ∷ before))) its_event ≢ Some slot
      by (Moves i) e named others =
          subst (λ (event : Event). slot_named (heard_run first (later ++ (record { event = event; read = it.read } ∷ before))) its_event ≢ Some slot) (sym e)
          (session_apart later before i it.read its_event slot going named others.0 others.1)
      by (KeeperMoves granted done) e named others =
          subst (λ (event : Event). slot_named (heard_run first (later ++ (record { event = event; read = it.read } ∷ before))) its_event ≢ Some slot) (sym e)
          (keeper_apart later before granted done it.read its_event slot going named others.0 others.1)
      by event e named others = cc
