-- Beside a life the log has reserved just what sessions have.
use Rattle.std.proofs.Common.{◌≡◌, ◌≢◌, ℕ, ◌∙◌, inl, inr, refl, sym, ap, subst, arith, Bool, true, false, List, [], ◌∷◌, ◌++◌}
use Rattle.std.specs.Prelude.{map, ◌==◌, if◌then◌else◌, Option, Some, None, slice_get}
use Rattle.std.proofs.lemmas.Bool.Decides.{nat_tests}
use Rattle.fkv_map.specs.declared.history.HistoryEntry.{HistoryEntry}
use Rattle.fkv_map.specs.declared.operations.Call.{Call}
use Rattle.fkv_map.specs.declared.operations.Call.TheVariants.{Refresh}
use Rattle.fkv_epoch.proofs.Shown.{none_some, same_or}
use Rattle.law_log.specs.Chains.{Cell, Unborn}
use Rattle.law_log.specs.Ghosts.{Ghosts, GhostEvent, Tells, Fixes, ghost_run}
use Rattle.law_log.specs.Trace.{TraceLine}
use Rattle.law_log.proofs.Shown.{run_on}
use Rattle.fkv_plane.specs.declared.asks.Ask.{Ask}
use Rattle.fkv_plane.specs.declared.places.SharedWord.TheVariants as one
use Rattle.fkv_plane.specs.Asked.{asked, asked_place, reply_to, word_at, word_found}
use Rattle.fkv_plane.specs.Places.{shared_place}
use Rattle.law_world.specs.Below.fkv_session.Told.{Told}
use Rattle.law_world.specs.Below.fkv_session.Sessions.{SessionState, Seat, session_ask}
use Rattle.law_world.specs.Below.fkv_world.Actors.{is_of_session, session_goes}
use Rattle.law_world.specs.Below.fkv_world.Runs.{World, happens, run}
use Rattle.law_world.specs.Below.fkv_world.World.{Event, Calls, Moves, Commits, Turns, KeeperMoves, Crashes, Now, seat_at, near}
use Rattle.law_world.proofs.Below.fkv_world.Shown.{is_over, session_apart, session_written}
use Rattle.law_world.proofs.OfRuns.Nothing.{no_session}
use Rattle.law_world.specs.Guarded.Shows.{IsOpened}
use Rattle.law_refine.specs.Events.GhostEvents.{home_in, moved_ghosts, own_ghosts, safe_at, fixed_ghosts, traced_by, serials_in, ghost_events, mapped, life_ghosts}
use Rattle.law_refine.specs.Events.Lines.{lines_added}
use Rattle.law_refine.specs.Events.Reservations.{AreStill, Reservation, TakesTail}
use Rattle.law_refine.specs.Events.Reserved.{reserved_by, HasReserved, tail_at, IsUnbornFrom, ReservesNothing, AreReserved, IsOfSession, AreOfSessions, AllMeetReserved}
use Rattle.law_refine.specs.Events.Sessions.{step_ghosts}
use Rattle.law_refine.proofs.OfEvents.Apart.{reserved_apart}
use Rattle.law_refine.proofs.OfEvents.Between.{idle_free, called_same, asks_moves}
use Rattle.law_refine.proofs.OfEvents.ReservedCells.{Reservings, IsHeld, Matches, AreApart, Stepped, still_behind, nothing_stepped, moves_stepped, meets_on}
use Rattle.law_refine.proofs.OfEvents.SessionSteps.{life_on}
use Rattle.law_refine.proofs.OfEvents.Unborn.{ghost_unborn}

-- what each session has reserved
abbrev reserved_of : ℕ → Option SessionState → Option Reservation
reserved_of number None = None
reserved_of number (Some s) = reserved_by number s

abbrev reserved_in : Now → Reservings
reserved_in n number = reserved_of number (slice_get n.sessions number)

has_found : (n : Now) (number : ℕ) (its : Reservation) (found : Option SessionState) → slice_get n.sessions number ≡ found → reserved_of number found ≡ Some its → HasReserved n number its
has_found n number its None e r = none_some its r
has_found n number its (Some s) e r = record { state = s; found = e; reserved = r }

has_so : (n : Now) (number : ℕ) (its : Reservation) → reserved_in n number ≡ Some its → HasReserved n number its
has_so n number its r = has_found n number its (slice_get n.sessions number) refl r

so_has : (n : Now) (number : ℕ) (its : Reservation) → HasReserved n number its → reserved_in n number ≡ Some its
so_has n number its has = ap (reserved_of number) has.found ∙ has.reserved

life_are_apart : (opening : World) (start : ℕ) (events : List Event) → IsOpened opening.now start → AreApart (reserved_in (run opening events).now)
life_are_apart opening start events opened = λ number other its another has had same.
    reserved_apart opening start events opened number other its another (has_so (run opening events).now number its has) (has_so (run opening events).now other another had) same

-- ---- what an event leaves to other sessions
is_none_of : (number other : ℕ) → other ≢ number → (number == other) ≡ false
is_none_of number other differs = grind (arith, nat_tests, differs)

is_own : (number : ℕ) → (number == number) ≡ true
is_own number = grind (arith, nat_tests)

apart_same : (w : World) (event : Event) (other : ℕ) → is_of_session other event ≡ false → reserved_in (happens w event).now other ≡ reserved_in w.now other
apart_same w event other e = ap (reserved_of other) (session_apart w event other e)

same_world : (w after : World) (number : ℕ) → after ≡ w → reserved_in after.now number ≡ reserved_in w.now number
same_world w after number e = ap (λ (x : World). reserved_in x.now number) e

-- a call that begins
called_own : (w : World) (number : ℕ) (call : Call) (found : Option SessionState) → w.now.crashed ≡ false → slice_get w.now.sessions number ≡ found
    → reserved_in (happens w (Calls number call)).now number ≡ reserved_in w.now number
unfolding session_goes
called_own w number call None alive e = same_world w (happens w (Calls number call)) number (no_session w number call e).0
called_own w number call (Some s) alive e =
    ap (reserved_of number) (session_written w (Calls number call) number s (is_own number) alive e)
    ∙ (called_same number (seat_at w.now number) s call ∙ sym (ap (reserved_of number) e))

called_all : (w : World) (number : ℕ) (call : Call) → w.now.crashed ≡ false → (other : ℕ) → reserved_in (happens w (Calls number call)).now other ≡ reserved_in w.now other
called_all w number call alive other = elim (same_or other number) [
  | inl same ↦ subst (λ (x : ℕ). reserved_in (happens w (Calls number call)).now x ≡ reserved_in w.now x) (sym same) (called_own w number call (slice_get w.now.sessions number) alive refl)
  | inr differs ↦ apart_same w (Calls number call) other (is_none_of number other differs)
]

-- ---- the address that a session takes is the tail, where no record is
taken_is_tail : (words : List ℕ) (ask : Ask Told) (addr : ℕ) → TakesTail (asked_place ask) (asked ask) (reply_to words ask) addr → addr ≡ word_at words (shared_place one.Tail)
taken_is_tail words ask addr takes = takes.found ∙ ap (word_found words) takes.at

-- ---- what a session does
moved_step : (opening : World) (start : ℕ) (ghosts : Ghosts) (before : List Event) (number : ℕ) (found : Option SessionState) → IsOpened opening.now start → IsUnbornFrom (tail_at opening.now) ghosts
    → (run opening before).now.crashed ≡ false → slice_get (run opening before).now.sessions number ≡ found → Matches (reserved_in (run opening before).now) (life_ghosts opening ghosts before).log.cells
    → Stepped (home_in opening.now.shape.bucket_bits) (life_ghosts opening ghosts before) (moved_ghosts (run opening before) number found) (reserved_in (happens (run opening before) (Moves number)).now)
unfolding session_goes
moved_step opening start ghosts before number None opened none alive e m =
    let w : World = run opening before in
    nothing_stepped (home_in opening.now.shape.bucket_bits) (life_ghosts opening ghosts before) (reserved_in w.now) (reserved_in (happens w (Moves number)).now)
    (λ other. same_world w (happens w (Moves number)) other (no_session w number Refresh e).1) m
moved_step opening start ghosts before number (Some s) opened none alive e m =
    let w : World = run opening before in
    let k : Seat = seat_at w.now number in
    let ask : Ask Told = session_ask k s in
    let was : reserved_in w.now number ≡ reserved_by number s = ap (reserved_of number) e in
    let is = ap (reserved_of number) (session_written w (Moves number) number s (is_own number) alive e) in
    let fresh : (addr : ℕ) → TakesTail (asked_place ask) (asked ask) (reply_to w.now.words ask) addr → (life_ghosts opening ghosts before).log.cells addr ≡ Unborn = λ addr takes.
    ghost_unborn opening start ghosts before opened none addr (let tail = taken_is_tail w.now.words ask addr takes in omega (arith, tail)) in
    moves_stepped (home_in opening.now.shape.bucket_bits) (life_ghosts opening ghosts before) (reserved_in w.now) (reserved_in (happens w (Moves number)).now) number
    (asked_place ask) (asked ask) (reply_to w.now.words ask) (step_ghosts k w.past.trace s w.now.words ask) _ _ was is
    (λ other differs. apart_same w (Moves number) other (is_none_of number other differs)) (life_are_apart opening start before opened) fresh m
    (asks_moves k w.past.trace (near w.now s) ask refl (life_on opening start before number s (reply_to w.now.words ask) opened e))

own_step : (opening : World) (start : ℕ) (ghosts : Ghosts) (before : List Event) (event : Event) → IsOpened opening.now start → IsUnbornFrom (tail_at opening.now) ghosts
    → (run opening before).now.crashed ≡ false → Matches (reserved_in (run opening before).now) (life_ghosts opening ghosts before).log.cells
    → Stepped (home_in opening.now.shape.bucket_bits) (life_ghosts opening ghosts before) (own_ghosts (run opening before) event) (reserved_in (happens (run opening before) event).now)
own_step opening start ghosts before (Moves number) opened none alive m = moved_step opening start ghosts before number (slice_get (run opening before).now.sessions number) opened none alive refl m
own_step opening start ghosts before (Calls number call) opened none alive m =
    nothing_stepped _ _ (reserved_in (run opening before).now) (reserved_in (happens (run opening before) (Calls number call)).now) (called_all (run opening before) number call alive) m
own_step opening start ghosts before (Commits kind) opened none alive m =
    nothing_stepped _ _ (reserved_in (run opening before).now) (reserved_in (happens (run opening before) (Commits kind)).now) (λ other. apart_same (run opening before) (Commits kind) other refl) m
own_step opening start ghosts before Turns opened none alive m =
    nothing_stepped _ _ (reserved_in (run opening before).now) (reserved_in (happens (run opening before) Turns).now) (λ other. apart_same (run opening before) Turns other refl) m
own_step opening start ghosts before (KeeperMoves granted done) opened none alive m =
    nothing_stepped _ _ (reserved_in (run opening before).now) (reserved_in (happens (run opening before) (KeeperMoves granted done)).now) (λ other. apart_same (run opening before) (KeeperMoves granted done) other refl) m
own_step opening start ghosts before Crashes opened none alive m =
    nothing_stepped _ _ (reserved_in (run opening before).now) (reserved_in (happens (run opening before) Crashes).now) (λ other. apart_same (run opening before) Crashes other refl) m

-- ---- what is told and fixed leaves it so
told_still : (lines : List TraceLine) → AreStill (map Tells lines)
told_still [] = tt
told_still (line ∷ rest) = (tt, told_still rest)

fixed_still : (before safe : ℕ) → AreStill (fixed_ghosts before safe)
fixed_still before safe = by_test (safe == before)
  where
    by_test : (c : Bool) → AreStill (if c then [] else Fixes safe ∷ [])
    by_test true = tt
    by_test false = (tt, tt)

event_step : (opening : World) (start : ℕ) (ghosts : Ghosts) (before : List Event) (event : Event) → IsOpened opening.now start → IsUnbornFrom (tail_at opening.now) ghosts
    → Matches (reserved_in (run opening before).now) (life_ghosts opening ghosts before).log.cells
    → Stepped (home_in opening.now.shape.bucket_bits) (life_ghosts opening ghosts before) (ghost_events (serials_in opening.now) (run opening before) event) (reserved_in (happens (run opening before) event).now)
unfolding ghost_events
event_step opening start ghosts before event opened none m = by_test w.now.crashed refl
  where
    w : World
    w = run opening before

    g : Ghosts
    g = life_ghosts opening ghosts before

    home : ℕ → ℕ
    home = home_in opening.now.shape.bucket_bits

    lines : List TraceLine
    lines = lines_added (serials_in opening.now) w.past.trace (traced_by w event)

    fresh : List GhostEvent
    fresh = fixed_ghosts (safe_at w.now) (safe_at (happens w event).now)

    by_test : (c : Bool) → w.now.crashed ≡ c → Stepped home g (if c then [] else map Tells lines ++ (fresh ++ own_ghosts w event)) (reserved_in (happens w event).now)
    by_test true e = nothing_stepped home g (reserved_in w.now) (reserved_in (happens w event).now) (λ other. same_world w (happens w event) other (is_over w event e)) m
    by_test false e =
        still_behind home g (map Tells lines) (fresh ++ own_ghosts w event) (reserved_in (happens w event).now) (told_still lines)
        (still_behind home g fresh (own_ghosts w event) (reserved_in (happens w event).now) (fixed_still (safe_at w.now) (safe_at (happens w event).now)) (own_step opening start ghosts before event opened none e m))

-- ---- and a life
opening_none : (opening : World) (start number : ℕ) (its : Reservation) → IsOpened opening.now start → HasReserved opening.now number its → ⊥
opening_none opening start number its opened has =
    none_some its (sym (idle_free number has.state has.state.step (opened.sessions number has.state has.found).none_in_hand) ∙ has.reserved)

life_stepped : (opening : World) (start : ℕ) (ghosts : Ghosts) (events : List Event) → IsOpened opening.now start → IsUnbornFrom (tail_at opening.now) ghosts → ReservesNothing ghosts
    → Stepped (home_in opening.now.shape.bucket_bits) ghosts (mapped opening events) (reserved_in (run opening events).now)
unfolding mapped run ghost_run AllMeetReserved
life_stepped opening start ghosts [] opened none free = record {
  matches = record {
    holds = λ number its r. absurd (opening_none opening start number its opened (has_so opening.now number its r));
    held = λ a entry cell e. absurd (free a entry cell e);
  };
  meets = tt;
}
life_stepped opening start ghosts (event ∷ before) opened none free =
    let home : ℕ → ℕ = home_in opening.now.shape.bucket_bits in
    let later : List GhostEvent = ghost_events (serials_in opening.now) (run opening before) event in
    let s = life_stepped opening start ghosts before opened none free in
    let t = event_step opening start ghosts before event opened none s.matches in
    record {
      matches = subst (λ (x : Ghosts). Matches (reserved_in (happens (run opening before) event).now) x.log.cells) (sym (run_on home ghosts later (mapped opening before))) t.matches;
      meets = meets_on home ghosts later (mapped opening before) t.meets s.meets;
    }

pub life_reserved : (opening : World) (start : ℕ) (ghosts : Ghosts) (events : List Event) → IsOpened opening.now start → IsUnbornFrom (tail_at opening.now) ghosts → ReservesNothing ghosts
    → AreReserved (run opening events).now (life_ghosts opening ghosts events)
life_reserved opening start ghosts events opened none free = λ number its has. (life_stepped opening start ghosts events opened none free).matches.holds number its (so_has (run opening events).now number its has)

of_held : (n : Now) (a : ℕ) (entry : HistoryEntry) (cell : Cell) → IsHeld (reserved_in n) a entry cell → IsOfSession n a entry cell
of_held n a entry cell h = record { number = h.number; its = h.its; has = has_so n h.number h.its h.has; its_addr = h.its_addr; its_entry = h.its_entry; its_cell = h.its_cell }

pub life_sessions : (opening : World) (start : ℕ) (ghosts : Ghosts) (events : List Event) → IsOpened opening.now start → IsUnbornFrom (tail_at opening.now) ghosts → ReservesNothing ghosts
    → AreOfSessions (run opening events).now (life_ghosts opening ghosts events)
life_sessions opening start ghosts events opened none free = λ a entry cell e. of_held (run opening events).now a entry cell ((life_stepped opening start ghosts events opened none free).matches.held a entry cell e)

pub life_meets : (opening : World) (start : ℕ) (ghosts : Ghosts) (events : List Event) → IsOpened opening.now start → IsUnbornFrom (tail_at opening.now) ghosts → ReservesNothing ghosts
    → AllMeetReserved (home_in opening.now.shape.bucket_bits) ghosts (mapped opening events)
life_meets opening start ghosts events opened none free = (life_stepped opening start ghosts events opened none free).meets
