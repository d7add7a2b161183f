-- What the guard keeps, of each event of a life of the engine.
use Rattle.std.proofs.Common.{◌≡◌, ℕ, ◌+◌, ◌*◌, ◌<◌, ◌≤◌, ◌∙◌, refl, sym, ap, subst, List, ◌∷◌}
use Rattle.std.specs.Prelude.{Option, Some, None, slice_get}
use Rattle.fkv_base.specs.declared.shapes.Shape.{Shape}
use Rattle.fkv_plane.specs.declared.places.Places.{Places}
use Rattle.fkv_plane.specs.Asked.{word_at}
use Rattle.fkv_plane.specs.Places.{frames_start}
use Rattle.fkv_epoch.proofs.Shown.{none_some}
use Rattle.fkv_flush.specs.GuardAsks.{writes}
use Rattle.fkv_flush.specs.GuardLevels.{levels_of, AreInOrder, Rises}
use Rattle.fkv_flush.specs.GuardLimit.{EndsPages}
use Rattle.fkv_flush.specs.GuardWorld.{GuardWorld, GuardEvent, guard_run}
use Rattle.fkv_flush.specs.Guarded.{IsOpenPlace, OpensPage}
use Rattle.fkv_flush.proofs.Shown.{IsSound, run_sound, events_calm, run_paged, opening_paged, opening_sound, finds_slots, same_stores}
use Rattle.fkv_keeper.specs.Keeping.{keeper_ask}
use Rattle.fkv_session.specs.Sessions.{SessionState, Seat, session_ask}
use Rattle.fkv_world.specs.World.{Event, Calls, Moves, Commits, Turns, KeeperMoves, Crashes, Now, seat_at}
use Rattle.fkv_world.specs.Runs.{World, run, read_by_keeper}
use Rattle.law_world.specs.Guarded.GuardEvents.{actor_count, keeper_now, keeper_number, guard_events, mapped}
use Rattle.law_world.specs.Guarded.KeptGuarded.{ChangesOpenPlaces, WritesOpenPlaces, OpensNextPage, FindTheirSlots, session_writes}
use Rattle.law_world.specs.Guarded.Shows.{IsOpened, Shows, IsPermitted, SessionIsPermitted, guard_opening, seen_by_guard}
use Rattle.law_world.specs.GuardSessions.Followed.{seat_in}
use Rattle.law_world.specs.GuardSessions.InPlace.{SessionMayChange}
use Rattle.law_world.specs.GuardSessions.Sessions.{SessionWritesOuter}
use Rattle.law_world.proofs.OfGuardKeeper.WritesOpen.{keeper_open}
use Rattle.law_world.proofs.OfGuardSessions.WritesOpen.{WritesOpen, open_at, session_open}
use Rattle.law_world.proofs.OfGuarded.Permitted.{are_permitted}
use Rattle.law_world.proofs.OfGuarded.Outer.{WriteOuter, later_write_outer}
use Rattle.law_world.proofs.OfGuarded.Kept.{is_steps, step_writes, step_raises}
use Rattle.law_world.proofs.OfGuarded.Worlds.{happens_shows, run_shows, life_shows}

-- The ask of the machine that an event moves, in a world that is shown.
abbrev seat : ℕ → Shape → Places → Seat
seat number shape p = record { places = p; shape = shape; number = number }

same_seat : (n : Now) (w : GuardWorld) (number : ℕ) → Shows n w → seat_in w.now number ≡ seat_at n number
same_seat n w number shows = ap (seat number w.now.shape) shows.places ∙ ap (λ (shape : Shape). seat number shape n.places) shows.shape

asks_open : (n : Now) (w : GuardWorld) (at : Option ℕ) (place : ℕ) → Shows n w → WritesOpen w at → at ≡ Some place → frames_start n.places ≤ place → IsOpenPlace w place
asks_open n w at place shows free e high = open_at w at place free e (subst (λ (p : Places). frames_start p ≤ place) (sym shows.places) high)

session_asks_open : (n : Now) (w : GuardWorld) (number : ℕ) (found : Option SessionState) (place : ℕ) → slice_get n.sessions number ≡ found → WriteOuter n → SessionIsPermitted n found → Shows n w
    → session_writes (seat_at n number) found ≡ Some place → frames_start n.places ≤ place → IsOpenPlace w place
session_asks_open n w number None place there outer permitted shows e high = none_some place e
session_asks_open n w number (Some s) place there outer permitted shows e high =
    let sits = shows.sessions number s there in
    let same = same_seat n w number shows in
    let free : WritesOpen w (writes (session_ask (seat_in w.now number) s)) =
    session_open w number sits.actor s sits.sits (subst (λ (k : Seat). SessionWritesOuter k s) (sym same) (outer number s there)) (subst (λ (words : List ℕ). SessionMayChange words s) (sym shows.words) permitted) in
    asks_open n w (writes (session_ask (seat_at n number) s)) place shows (subst (λ (k : Seat). WritesOpen w (writes (session_ask k s))) same free) e high

keeper_asks_open : (n : Now) (w : GuardWorld) (place : ℕ) → Shows n w → writes (keeper_ask n.shape n.places n.keeper) ≡ Some place → frames_start n.places ≤ place → IsOpenPlace w place
keeper_asks_open n w place shows e high =
    let kept = shows.keeper in
    let free : WritesOpen w (writes (keeper_ask w.now.shape w.now.places n.keeper)) = keeper_open w (keeper_now n) kept.actor kept.seen n.keeper kept.keeps in
    asks_open n w (writes (keeper_ask n.shape n.places n.keeper)) place shows
    (subst (λ (p : Places). WritesOpen w (writes (keeper_ask n.shape p n.keeper))) shows.places (subst (λ (shape : Shape). WritesOpen w (writes (keeper_ask shape w.now.places n.keeper))) shows.shape free)) e high

pub event_writes_open : (n : Now) (event : Event) (w : GuardWorld) → WriteOuter n → IsPermitted n event → Shows n w → WritesOpenPlaces n event w
event_writes_open n (Moves number) w outer permitted shows place e high = session_asks_open n w number (slice_get n.sessions number) place refl outer permitted shows e high
event_writes_open n (KeeperMoves granted done) w outer permitted shows place e high = keeper_asks_open n w place shows e high
event_writes_open n (Calls number call) w outer permitted shows place e high = none_some place e
event_writes_open n (Commits kind) w outer permitted shows place e high = none_some place e
event_writes_open n Turns w outer permitted shows place e high = none_some place e
event_writes_open n Crashes w outer permitted shows place e high = none_some place e

-- one event, in a world that is shown
pub event_changes_open : (first : World) (before : List Event) (event : Event) (w : GuardWorld) → WriteOuter (run first before).now → IsPermitted (run first before).now event → Shows (run first before).now w
    → ChangesOpenPlaces (run first before).now (run first (event ∷ before)).now w
unfolding run
event_changes_open first before event w outer permitted shows place high changes =
    let b : World = run first before in
    let events : List GuardEvent = guard_events b.now (read_by_keeper b) event in
    let steps = is_steps b.now (read_by_keeper b) event in
    let there = happens_shows b.now w (read_by_keeper b) event outer shows in
    step_writes (keeper_number b.now) steps.actor w events place shows.sound steps.step (are_permitted b.now w (read_by_keeper b) event permitted shows) (subst (λ (p : Places). frames_start p ≤ place) (sym shows.places) high)
    (λ e. changes (ap (λ (words : List ℕ). word_at words place) (sym there.words) ∙ e ∙ ap (λ (words : List ℕ). word_at words place) shows.words))

pub event_opens_next : (first : World) (before : List Event) (event : Event) (w : GuardWorld) → WriteOuter (run first before).now → Shows (run first before).now w
    → OpensNextPage (run first before).now (run first (event ∷ before)).now w
unfolding run
event_opens_next first before event w outer shows =
    let b : World = run first before in
    let events : List GuardEvent = guard_events b.now (read_by_keeper b) event in
    let steps = is_steps b.now (read_by_keeper b) event in
    let there = happens_shows b.now w (read_by_keeper b) event outer shows in
    let after : List ℕ = (run first (event ∷ before)).now.words in
    let raised = step_raises (keeper_number b.now) steps.actor w events shows.sound steps.step in
    let so = subst (λ (s : Shape). (levels_of w.now.words).limit < (levels_of (guard_run w events).now.words).limit → (page : ℕ) × ((levels_of (guard_run w events).now.words).limit ≡ (page + 1) * s.page) × OpensPage w page) shows.shape raised in
    let behind = subst (λ (words : List ℕ). (levels_of w.now.words).limit < (levels_of words).limit → (page : ℕ) × ((levels_of words).limit ≡ (page + 1) * b.now.shape.page) × OpensPage w page) there.words so in
    subst (λ (words : List ℕ). (levels_of words).limit < (levels_of after).limit → (page : ℕ) × ((levels_of after).limit ≡ (page + 1) * b.now.shape.page) × OpensPage w page) shows.words behind

-- at every moment
pub life_in_order : (n : Now) (w : GuardWorld) → Shows n w → AreInOrder (levels_of n.words)
life_in_order n w shows = subst (λ (words : List ℕ). AreInOrder (levels_of words)) shows.words shows.sound.guard.in_order

pub life_paged : (first : World) (start : ℕ) (events : List Event) → IsOpened first.now start → EndsPages first.now.shape (levels_of (run first events).now.words).limit
life_paged first start events opened =
    let sound = opening_sound first.now.shape first.now.places (actor_count first.now) first.now.words start opened.words in
    let shows = life_shows first start events opened in
    let w : GuardWorld = guard_opening first.now start in
    subst (λ (words : List ℕ). EndsPages first.now.shape (levels_of words).limit) shows.words
    (subst (λ (s : Shape). EndsPages s (levels_of (guard_run w (mapped first events)).now.words).limit) (same_stores w (mapped first events)).0
    (run_paged w (mapped first events) sound (opening_paged first.now.shape first.now.places (actor_count first.now) first.now.words start opened.words)))

-- from one moment to a later one
pub life_rises : (first : World) (start : ℕ) (before later : List Event) → IsOpened first.now start
    → Rises (levels_of (run first before).now.words) (levels_of (run (run first before) later).now.words)
life_rises first start before later opened =
    let b : World = run first before in
    let w : GuardWorld = seen_by_guard first start before in
    let shows = life_shows first start before opened in
    let there = run_shows b later w (later_write_outer first start before later opened) shows in
    let calm = events_calm w (mapped b later) shows.sound in
    let so = subst (λ (words : List ℕ). Rises (levels_of w.now.words) (levels_of words)) there.words calm.offsets in
    subst (λ (words : List ℕ). Rises (levels_of words) (levels_of (run b later).now.words)) shows.words so

pub life_finds : (w : GuardWorld) (events : List GuardEvent) → IsSound w → FindTheirSlots w events
life_finds w events sound = λ later earlier event parts. finds_slots (guard_run w earlier) event (run_sound w earlier sound)
