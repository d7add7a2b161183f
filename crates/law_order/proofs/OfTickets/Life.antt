-- In a life of fewer than 2^64 - 1 calls the names of each session's waiting requests are apart at each moment.
use Rattle.std.proofs.Common.{◌≡◌, ℕ, ◌^◌, ◌<◌, ◌≤◌, ◌∙◌, refl, sym, arith, List, [], ◌∷◌}
use Rattle.std.specs.Prelude.{Option, Some, None, slice_get}
use Rattle.fkv_epoch.proofs.Shown.{none_some}
use Rattle.law_commit.specs.Below.fkv_session.Accounts.{names_of, number_of}
use Rattle.law_commit.specs.Below.fkv_session.SessionRun.{SessionEvent, all_told, in_hand, session_run}
use Rattle.law_commit.specs.Below.fkv_session.Sessions.{SessionState, Seat, IsOpened}
use Rattle.law_commit.proofs.Below.fkv_session.Shown.{AreBooksKept, run_holds, run_tickets}
use Rattle.law_commit.specs.Below.fkv_world.Opened.{IsOpenedWorld}
use Rattle.law_commit.specs.Below.fkv_world.OwnEvents.{session_events}
use Rattle.law_commit.specs.Below.fkv_world.Runs.{World, run}
use Rattle.law_commit.specs.Below.fkv_world.World.{Event, seat_at}
use Rattle.law_commit.proofs.Below.law_world.OfRuns.Nothing.{none_ever}
use Rattle.law_commit.proofs.Below.law_world.OfSessions.OwnRun.{of_run}
use Rattle.law_order.specs.Known.Told.{AreApart, NamesAreApart, TicketsAreApart}
use Rattle.law_order.specs.Tickets.Few.{HasFewCalls}
use Rattle.law_order.proofs.OfTickets.Apart.{apart, rise_once}
use Rattle.law_order.proofs.OfTickets.Begun.{calls_begun, told_few}
use Rattle.law_order.proofs.OfTickets.Events.{before_few, begun_few}
use Rattle.law_order.proofs.OfTickets.Tickets.{is_ticket, left_once, tickets_few}

-- ---- a session's own run in which fewer than 2^64 calls begin
run_apart : (k : Seat) (opening : SessionState) (events : List SessionEvent) → IsOpened opening → calls_begun events < 2 ^ 64 → AreApart (names_of (session_run k opening events).requests)
run_apart k opening events opened few = apart (names_of now.requests) (λ n. rise_once opening.serial now.serial n (names_of now.requests) books.rising) reads
  where
    now : SessionState
    now = session_run k opening events

    books : AreBooksKept opening.serial now.serial (all_told k opening events) (names_of now.requests) (in_hand now.step now.finished)
    books = (run_holds k opening events opened).books

    reads : (n : ℕ) → number_of (is_ticket n) (names_of now.requests) ≤ 1
    reads n =
        let told = told_few k opening events opened.none_in_hand in
        let tickets = tickets_few (all_told k opening events) in
        let left = left_once (all_told k opening events) n (run_tickets k opening events opened).in_turn (omega (arith, told, tickets, few)) in
        let where_it_is = books.accounts (is_ticket n) in
        omega (arith, left, where_it_is)

-- ---- at each moment
names_apart : (opening : World) (events : List Event) → IsOpenedWorld opening → HasFewCalls events → NamesAreApart (run opening events).now
names_apart opening events opened few session s found = by_first (slice_get opening.now.sessions session) refl
  where
    by_first : (first : Option SessionState) → slice_get opening.now.sessions session ≡ first → AreApart (names_of s.requests)
    by_first None was = none_some s (sym (none_ever opening events session was) ∙ found)
    by_first (Some first) was =
        let begun = begun_few opening session events in
        of_run (λ (x : SessionState). AreApart (names_of x.requests)) opening events session first s (record { opened = opened; was = was; is_now = found })
        (run_apart (seat_at opening.now session) first (session_events opening session events) (opened.sessions session first was) (omega (arith, begun, few)))

pub tickets_apart : (opening : World) (events : List Event) → IsOpenedWorld opening → HasFewCalls events → TicketsAreApart opening events
unfolding TicketsAreApart
tickets_apart opening [] opened few = names_apart opening [] opened few
tickets_apart opening (event ∷ before) opened few = (tickets_apart opening before opened (before_few event before few), names_apart opening (event ∷ before) opened few)
