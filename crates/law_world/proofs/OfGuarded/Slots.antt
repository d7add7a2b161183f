-- What each event of a life finds in the drain slot that it turns to, and that no machine stands at a slot between two events.
use Rattle.std.proofs.Common.{◌≡◌, ℕ, ◌<◌, List, length, refl, sym, ap, subst, ◌∙◌, Bool, false}
use Rattle.std.specs.Prelude.{Option, Some, None, slice_get}
use Rattle.fkv_base.specs.Limits.{drain_slots}
use Rattle.fkv_plane.specs.declared.actions.Action.{Action}
use Rattle.fkv_plane.specs.declared.asks.Ask.{Ask}
use Rattle.fkv_plane.specs.declared.asks.Ask.TheVariants.{Put, Take, Done}
use Rattle.fkv_plane.specs.Asked.{reply_to}
use Rattle.fkv_plane.specs.Passing.{is_done}
use Rattle.fkv_plane.specs.Plane.{found_action}
use Rattle.fkv_epoch.specs.EpochWorld.{EpochPast}
use Rattle.fkv_epoch.proofs.Shown.{item_within, some_same}
use Rattle.fkv_flush.specs.GuardSlots.{slot_put}
use Rattle.fkv_flush.specs.GuardWorld.{Actor, GuardWorld}
use Rattle.fkv_keeper.specs.declared.answers.KeeperTold.{KeeperTold}
use Rattle.fkv_keeper.specs.Keeping.{keeper_ask}
use Rattle.fkv_session.specs.declared.answers.Told.{Told}
use Rattle.fkv_session.specs.Sessions.{SessionState, Seat, session_ask, session_next}
use Rattle.law_world.specs.GuardSessions.Sessions.{SessionWritesOuter}
use Rattle.law_world.proofs.OfGuardSessions.Finds.{session_rests, session_puts, session_takes}
use Rattle.law_world.proofs.OfGuardKeeper.Finds.{keeper_rests, keeper_after_reply, keeper_puts, keeper_takes}
use Rattle.fkv_world.specs.Actors.{session_slot_named, slot_asked, slot_named, slot_of_step}
use Rattle.fkv_world.specs.Runs.{World, run}
use Rattle.fkv_world.specs.World.{Event, Moves, KeeperMoves, Now, seat_at}
use Rattle.law_world.specs.Guarded.GuardEvents.{keeper_now}
use Rattle.law_world.specs.Guarded.Shows.{IsOpened, Shows, seen_by_guard}
use Rattle.law_world.specs.Guarded.SlotsFound.{FindsSlot, SessionFindsSlot, FindsItsSlot, slot_ask}
use Rattle.law_world.proofs.OfGuarded.Outer.{WriteOuter, write_outer}
use Rattle.law_world.proofs.OfGuarded.Worlds.{world_of, is_world_of, life_shows}

-- the slot of a step is the one to which its ask turns
pub same_slot : {A : Type 0} (ask behind : Ask A) → slot_of_step ask behind ≡ slot_asked (slot_ask ask behind)
same_slot (Put slot action) behind = refl
same_slot (Take slot) behind = refl
same_slot (Done its) behind = refl
same_slot ask behind = refl

-- an ask that turns to a slot turns to one that there is, and finds it as it has to
abbrev pub IsFound : {A : Type 0} → List (Option Action) → Ask A → Type 0
IsFound actions ask = FindsSlot actions ask × ((slot : ℕ) → slot_asked ask ≡ Some slot → slot < drain_slots)

-- where the guard's world has what the engine's has
module _ (n : Now) (actors : List Actor) (past : EpochPast) (shows : Shows n (world_of n actors past)) where
  abbrev W : GuardWorld
  W = world_of n actors past

  pub session_at_none : (number : ℕ) (s : SessionState) → slice_get n.sessions number ≡ Some s → slot_asked (session_ask (seat_at n number) s) ≡ None
  session_at_none number s there = let seat = shows.sessions number s there in session_rests W number seat.actor s seat.sits

  pub keeper_at_none : slot_asked (keeper_ask n.shape n.places n.keeper) ≡ None
  keeper_at_none = keeper_rests W (keeper_now n) shows.keeper.actor shows.keeper.seen n.keeper shows.keeper.keeps

  -- what is found in a slot is there
  found_within : (slot : ℕ) (found : Option (Option Action)) (action : Action) → slice_get n.actions slot ≡ found → found_action found ≡ Some action → slot < drain_slots
  found_within slot None action at e = cc
  found_within slot (Some its) action at e = subst (λ (count : ℕ). slot < count) shows.sound.epochs.eight_slots (item_within n.actions slot its at)

  pub session_found : (number : ℕ) (s : SessionState) → slice_get n.sessions number ≡ Some s → SessionWritesOuter (seat_at n number) s
      → (let k : Seat = seat_at n number in IsFound n.actions (slot_ask (session_ask k s) (session_ask k (session_next k s (reply_to n.words (session_ask k s))))))
  session_found number s there outer = by_ask (session_ask k s) refl
    where
      k : Seat
      k = seat_at n number

      behind : Ask Told
      behind = session_ask k (session_next k s (reply_to n.words (session_ask k s)))

      by_behind : (ask : Ask Told) → behind ≡ ask → is_done (session_ask k s) ≡ false → IsFound n.actions ask
      by_behind (Put slot action) e asks =
          let seat = shows.sessions number s there in
          let empty = session_puts W number seat.actor s seat.sits outer slot (ap slot_put e) in
          (empty.1, λ other named. subst (λ (i : ℕ). i < drain_slots) (some_same slot other named) empty.0)
      by_behind (Take slot) e asks =
          let seat = shows.sessions number s there in
          let full = session_takes W number seat.actor s slot seat.sits outer asks e in
          (full, λ other named. subst (λ (i : ℕ). i < drain_slots) (some_same slot other named) (found_within slot (slice_get n.actions slot) full.0 refl full.1))
      by_behind ask e asks = (tt, λ other named. cc)

      by_ask : (ask : Ask Told) → session_ask k s ≡ ask → IsFound n.actions (slot_ask ask behind)
      by_ask (Put slot action) e = let clash : Some slot ≡ None = sym (ap (λ (a : Ask Told). slot_asked a) e) ∙ session_at_none number s there in cc
      by_ask (Take slot) e = let clash : Some slot ≡ None = sym (ap (λ (a : Ask Told). slot_asked a) e) ∙ session_at_none number s there in cc
      by_ask (Done its) e = (tt, λ other named. cc)
      by_ask ask e = by_behind behind refl (ap is_done e)

  pub keeper_found : (granted : Bool) → IsFound n.actions (slot_ask (keeper_ask n.shape n.places n.keeper) (keeper_ask n.shape n.places (keeper_after_reply W granted n.keeper)))
  keeper_found granted = by_ask (keeper_ask n.shape n.places n.keeper) refl
    where
      behind : Ask KeeperTold
      behind = keeper_ask n.shape n.places (keeper_after_reply W granted n.keeper)

      by_behind : (ask : Ask KeeperTold) → behind ≡ ask → is_done (keeper_ask n.shape n.places n.keeper) ≡ false → IsFound n.actions ask
      by_behind (Put slot action) e asks =
          let empty = keeper_puts W (keeper_now n) shows.keeper.actor shows.keeper.seen n.keeper granted shows.keeper.keeps slot (ap slot_put e) in
          (empty.1, λ other named. subst (λ (i : ℕ). i < drain_slots) (some_same slot other named) empty.0)
      by_behind (Take slot) e asks =
          let full = keeper_takes W (keeper_now n) shows.keeper.actor shows.keeper.seen n.keeper granted slot shows.keeper.keeps asks e in
          (full, λ other named. subst (λ (i : ℕ). i < drain_slots) (some_same slot other named) (found_within slot (slice_get n.actions slot) full.0 refl full.1))
      by_behind ask e asks = (tt, λ other named. cc)

      by_ask : (ask : Ask KeeperTold) → keeper_ask n.shape n.places n.keeper ≡ ask → IsFound n.actions (slot_ask ask behind)
      by_ask (Put slot action) e = let clash : Some slot ≡ None = sym (ap (λ (a : Ask KeeperTold). slot_asked a) e) ∙ keeper_at_none in cc
      by_ask (Take slot) e = let clash : Some slot ≡ None = sym (ap (λ (a : Ask KeeperTold). slot_asked a) e) ∙ keeper_at_none in cc
      by_ask (Done its) e = (tt, λ other named. cc)
      by_ask ask e = by_behind behind refl (ap is_done e)

  pub finds : (event : Event) → WriteOuter n → FindsItsSlot n event
  finds (Moves number) outer = by (slice_get n.sessions number) refl
    where
      by : (found : Option SessionState) → slice_get n.sessions number ≡ found → SessionFindsSlot n (seat_at n number) found
      by None there = tt
      by (Some s) there = (session_found number s there (outer number s there)).0
  finds (KeeperMoves granted done) outer = (keeper_found granted).0
  finds event outer = tt

  pub names_within : (event : Event) (slot : ℕ) → WriteOuter n → slot_named n event ≡ Some slot → slot < drain_slots
  names_within (Moves number) slot outer named = by (slice_get n.sessions number) refl named
    where
      by : (found : Option SessionState) → slice_get n.sessions number ≡ found → session_slot_named n (seat_at n number) found ≡ Some slot → slot < drain_slots
      by None there its = cc
      by (Some s) there its =
          let k : Seat = seat_at n number in
          (session_found number s there (outer number s there)).1 slot (sym (same_slot (session_ask k s) (session_ask k (session_next k s (reply_to n.words (session_ask k s))))) ∙ its)
  names_within (KeeperMoves granted done) slot outer named =
      (keeper_found granted).1 slot (sym (same_slot (keeper_ask n.shape n.places n.keeper) (keeper_ask n.shape n.places (keeper_after_reply W granted n.keeper))) ∙ named)
  names_within event slot outer named = cc

-- at every moment of a life
pub shown_so : (n : Now) (w : GuardWorld) → Shows n w → Shows n (world_of n w.now.actors w.past)
shown_so n w shows = subst (λ (v : GuardWorld). Shows n v) (is_world_of n w shows) shows

pub life_finds_slots : (first : World) (start : ℕ) (events : List Event) (event : Event) → IsOpened first.now start → FindsItsSlot (run first events).now event
life_finds_slots first start events event opened =
    let n : Now = (run first events).now in
    let w : GuardWorld = seen_by_guard first start events in
    finds n w.now.actors w.past (shown_so n w (life_shows first start events opened)) event (write_outer first start events opened)

pub life_names_within : (first : World) (start : ℕ) (events : List Event) (event : Event) (slot : ℕ) → IsOpened first.now start → slot_named (run first events).now event ≡ Some slot → slot < drain_slots
life_names_within first start events event slot opened named =
    let n : Now = (run first events).now in
    let w : GuardWorld = seen_by_guard first start events in
    names_within n w.now.actors w.past (shown_so n w (life_shows first start events opened)) event slot (write_outer first start events opened) named

pub life_slots_count : (first : World) (start : ℕ) (events : List Event) → IsOpened first.now start → length (run first events).now.actions ≡ drain_slots
life_slots_count first start events opened =
    let shows = life_shows first start events opened in
    ap length (sym shows.actions) ∙ shows.sound.epochs.eight_slots

pub life_session_rests : (first : World) (start : ℕ) (events : List Event) (number : ℕ) (s : SessionState) → IsOpened first.now start → slice_get (run first events).now.sessions number ≡ Some s
    → slot_asked (session_ask (seat_at (run first events).now number) s) ≡ None
life_session_rests first start events number s opened there =
    let n : Now = (run first events).now in
    let w : GuardWorld = seen_by_guard first start events in
    session_at_none n w.now.actors w.past (shown_so n w (life_shows first start events opened)) number s there

pub life_keeper_rests : (first : World) (start : ℕ) (events : List Event) → IsOpened first.now start
    → slot_asked (keeper_ask (run first events).now.shape (run first events).now.places (run first events).now.keeper) ≡ None
life_keeper_rests first start events opened =
    let n : Now = (run first events).now in
    let w : GuardWorld = seen_by_guard first start events in
    keeper_at_none n w.now.actors w.past (shown_so n w (life_shows first start events opened))
