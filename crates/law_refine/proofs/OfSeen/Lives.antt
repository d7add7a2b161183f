-- Over every life the head that a session has seen rises, and it is at or below what the log beside the life has fixed.
use Rattle.std.proofs.Common.{◌≡◌, ℕ, ◌≤◌, ◌∙◌, refl, sym, ap, subst, arith, Bool, true, false, List, [], ◌∷◌}
use Rattle.std.specs.Prelude.{if◌then◌else◌, Option, Some, None, slice_get}
use Rattle.fkv_epoch.proofs.Shown.{some_same}
use Rattle.law_world.specs.Below.fkv_flush.GuardLevels.{levels_of}
use Rattle.law_world.specs.Below.fkv_flush.GuardSeen.{LastSeen}
use Rattle.law_world.specs.Below.fkv_flush.GuardWorld.{GuardWorld}
use Rattle.fkv_map.specs.declared.operations.Call.{Call}
use Rattle.law_log.specs.Ghosts.{Ghosts}
use Rattle.fkv_plane.specs.declared.actions.Action.{Action}
use Rattle.fkv_plane.specs.declared.asks.Ask.{Ask}
use Rattle.fkv_plane.specs.declared.asks.Ask.TheVariants.{Load, Put, Take, Done}
use Rattle.fkv_plane.specs.declared.places.SharedWord.TheVariants as one
use Rattle.fkv_plane.specs.Asked.{reply_to}
use Rattle.fkv_plane.specs.Places.{shared_place}
use Rattle.fkv_plane.specs.Plane.{action_at}
use Rattle.law_world.specs.Below.fkv_session.Told.{Told}
use Rattle.law_world.specs.Below.fkv_session.Sessions.{SessionState, Seat, is_busy, session_ask, session_begun}
use Rattle.law_local.specs.Tries.TryRows.{head_in}
use Rattle.law_world.specs.Below.fkv_world.Actors.{is_of_session, session_goes}
use Rattle.law_world.specs.Below.fkv_world.Moves.{Near, session_gets, session_settled, session_replied, session_asks}
use Rattle.law_world.specs.Below.fkv_world.Runs.{World, happens, run}
use Rattle.law_world.specs.Below.fkv_world.World.{Event, Calls, Moves, Commits, Turns, KeeperMoves, Crashes, near, seat_at}
use Rattle.law_world.proofs.Below.fkv_world.Shown.{is_over, session_apart, session_written}
use Rattle.law_world.specs.Guarded.Shows.{IsOpened, seen_by_guard}
use Rattle.law_world.proofs.OfGuarded.Worlds.{life_shows}
use Rattle.law_refine.specs.Events.GhostEvents.{life_ghosts, safe_at}
use Rattle.law_refine.proofs.OfEvents.Fixed.{ghost_fixed, life_rises}
use Rattle.law_refine.proofs.OfSeen.Heads.{IsBetween, Sees, asks_head, begun_sees, given_sees, loads, next_sees, opened_sees, sees_higher, sees_own}
use Rattle.law_refine.proofs.OfSeen.There.{there_before}

-- ---- one step of a session, which loads the head as it is
abbrev head_of : List ℕ → ℕ
head_of words = (levels_of words).head

not_loading : {X : Type 0} (k : Seat) (s : SessionState) (ask : Ask Told) → session_ask k s ≡ ask → (ask ≡ Load (shared_place one.Head) → ⊥) → loads s s.step ≡ true → X
not_loading k s ask e other is = absurd (other (sym e ∙ asks_head k s is))

module _ (low high : ℕ) where
  gets_sees : (k : Seat) (s : SessionState) (found : Option Action) → Sees low high s → Sees low high (session_gets k s found)
  gets_sees k s None sees = sees
  gets_sees k s (Some action) sees = given_sees low high k s action sees

  settled_sees : (k : Seat) (n : Near SessionState) (ask : Ask Told) → session_ask k n.machine ≡ ask → Sees low high n.machine → Sees low high (session_settled k n ask).machine
  unfolding session_settled
  settled_sees k n (Put slot action) e sees = next_sees low high k n.machine 0 sees (λ is. not_loading k n.machine (Put slot action) e (λ x. cc) is)
  settled_sees k n (Take slot) e sees = gets_sees k n.machine (action_at n.actions slot) sees
  settled_sees k n ask e sees = sees

  replied_sees : (k : Seat) (n : Near SessionState) (ask : Ask Told) → head_of n.words ≡ high → session_ask k n.machine ≡ ask → Sees low high n.machine
      → Sees low high (session_settled k (session_replied k n ask) (session_ask k (session_replied k n ask).machine)).machine
  replied_sees k n ask now e sees =
      let told : loads n.machine n.machine.step ≡ true → IsBetween (head_in n.machine.seen) high (reply_to n.words ask) =
      λ is. let is_head : reply_to n.words ask ≡ high = ap (reply_to n.words) (sym e ∙ asks_head k n.machine is) ∙ now in
      let below = sees.seen.1 in (omega (arith, is_head, below), omega (arith, is_head)) in
      settled_sees k (session_replied k n ask) (session_ask k (session_replied k n ask).machine) refl (next_sees low high k n.machine (reply_to n.words ask) sees told)

  asked_sees : (k : Seat) (n : Near SessionState) (ask : Ask Told) → head_of n.words ≡ high → session_ask k n.machine ≡ ask → Sees low high n.machine → Sees low high (session_asks k n ask).machine
  unfolding session_asks
  asked_sees k n (Done its) now e sees = sees
  asked_sees k n (Put slot action) now e sees = settled_sees k n (Put slot action) e sees
  asked_sees k n (Take slot) now e sees = settled_sees k n (Take slot) e sees
  asked_sees k n ask now e sees = replied_sees k n ask now e sees

  called_sees : (k : Seat) (s : SessionState) (call : Call) (busy : Bool) → Sees low high s → Sees low high (if busy then s else session_begun k s call)
  called_sees k s call true sees = sees
  called_sees k s call false sees = begun_sees low high k s call sees

  goes_sees : (k : Seat) (n : Near SessionState) (event : Event) → head_of n.words ≡ high → Sees low high n.machine → Sees low high (session_goes k n event).machine
  unfolding session_goes
  goes_sees k n (Calls number call) now sees = called_sees k n.machine call (is_busy n.machine.step) sees
  goes_sees k n (Moves number) now sees = asked_sees k n (session_ask k n.machine) now refl sees
  goes_sees k n (Commits kind) now sees = sees
  goes_sees k n Turns now sees = sees
  goes_sees k n (KeeperMoves granted done) now sees = sees
  goes_sees k n Crashes now sees = sees

-- ---- an event
abbrev SeenBehind : ℕ → World → Event → ℕ → Type 0
SeenBehind low w event number = (after : SessionState) → slice_get (happens w event).now.sessions number ≡ Some after → Sees low (head_of w.now.words) after

same_sees : (low high : ℕ) (found : Option SessionState) (s after : SessionState) → found ≡ Some s → found ≡ Some after → Sees low high s → Sees low high after
same_sees low high found s after was is_now sees = subst (Sees low high) (some_same s after (sym was ∙ is_now)) sees

own_seen : (low : ℕ) (w : World) (event : Event) (number : ℕ) (s : SessionState) (own : Bool) → is_of_session number event ≡ own → w.now.crashed ≡ false → slice_get w.now.sessions number ≡ Some s
    → Sees low (head_of w.now.words) s → SeenBehind low w event number
own_seen low w event number s true e alive found sees after is_now =
    same_sees low (head_of w.now.words) (slice_get (happens w event).now.sessions number) (session_goes (seat_at w.now number) (near w.now s) event).machine after (session_written w event number s e alive found) is_now
    (goes_sees low (head_of w.now.words) (seat_at w.now number) (near w.now s) event refl sees)
own_seen low w event number s false e alive found sees after is_now =
    same_sees low (head_of w.now.words) (slice_get (happens w event).now.sessions number) s after (session_apart w event number e ∙ found) is_now sees

event_seen : (low : ℕ) (w : World) (event : Event) (number : ℕ) (s : SessionState) (crashed : Bool) → w.now.crashed ≡ crashed → slice_get w.now.sessions number ≡ Some s → Sees low (head_of w.now.words) s → SeenBehind low w event number
event_seen low w event number s true e found sees after is_now =
    same_sees low (head_of w.now.words) (slice_get (happens w event).now.sessions number) s after (ap (λ (x : World). slice_get x.now.sessions number) (is_over w event e) ∙ found) is_now sees
event_seen low w event number s false e found sees after is_now = own_seen low w event number s (is_of_session number event) refl e found sees after is_now

-- ---- a life
opens_seen : (opening : World) (start number : ℕ) (s : SessionState) → IsOpened opening.now start → slice_get opening.now.sessions number ≡ Some s → Sees 0 (head_of opening.now.words) s
opens_seen opening start number s opened found =
    let seen : head_in s.seen ≡ (levels_of opening.now.words).closed = ap (λ (x : LastSeen). x.head) (opened.seen number s found) in
    let head = opened.words.head in
    opened_sees (head_of opening.now.words) s (opened.sessions number s found).none_in_hand (omega (arith, seen, head))

head_up : (opening : World) (start : ℕ) (before : List Event) (event : Event) → IsOpened opening.now start → head_of (run opening before).now.words ≤ head_of (happens (run opening before) event).now.words
unfolding run
head_up opening start before event opened = (life_rises opening start before (event ∷ []) opened).head

life_sees : (opening : World) (start : ℕ) (events : List Event) (number : ℕ) (s : SessionState) → IsOpened opening.now start → slice_get (run opening events).now.sessions number ≡ Some s → Sees 0 (head_of (run opening events).now.words) s
unfolding run
life_sees opening start [] number s opened found = opens_seen opening start number s opened found
life_sees opening start (event ∷ before) number after opened is_now =
    let w : World = run opening before in
    let its = there_before w event number after is_now in
    sees_higher 0 (head_of w.now.words) (head_of (happens w event).now.words) after (head_up opening start before event opened)
    (event_seen 0 w event number its.0 w.now.crashed refl its.1 (life_sees opening start before number its.0 opened its.1) after is_now)

pub head_rises : (opening : World) (start : ℕ) (before : List Event) (event : Event) (session : ℕ) (s after : SessionState) → IsOpened opening.now start → slice_get (run opening before).now.sessions session ≡ Some s
    → slice_get (run opening (event ∷ before)).now.sessions session ≡ Some after → head_in s.seen ≤ head_in after.seen
unfolding run
head_rises opening start before event session s after opened was is_now =
    let w : World = run opening before in
    let sees = sees_own 0 (head_of w.now.words) s (life_sees opening start before session s opened was) in
    (event_seen (head_in s.seen) w event session s w.now.crashed refl was sees after is_now).seen.0

-- the head is at or below the safe read-only offset
head_safe : (opening : World) (start : ℕ) (events : List Event) → IsOpened opening.now start → head_of (run opening events).now.words ≤ safe_at (run opening events).now
head_safe opening start events opened =
    let w : GuardWorld = seen_by_guard opening start events in
    let shows = life_shows opening start events opened in
    let flushed = shows.sound.guard.in_order.head_below in
    let safe = shows.sound.guard.in_order.flushed_below in
    let lower : (levels_of w.now.words).head ≤ (levels_of w.now.words).safe_read_only = omega (arith, flushed, safe) in
    subst (λ (words : List ℕ). (levels_of words).head ≤ (levels_of words).safe_read_only) shows.words lower

pub life_head_fixed : (opening : World) (start : ℕ) (ghosts : Ghosts) (events : List Event) (session : ℕ) (s : SessionState) → IsOpened opening.now start → ghosts.log.fixed ≡ safe_at opening.now
    → slice_get (run opening events).now.sessions session ≡ Some s → head_in s.seen ≤ (life_ghosts opening ghosts events).log.fixed
life_head_fixed opening start ghosts events session s opened same found =
    let below = (life_sees opening start events session s opened found).seen.1 in
    let safe = head_safe opening start events opened in
    let fixed = ghost_fixed opening start ghosts events opened same in
    omega (arith, below, safe, fixed)
