-- At each moment of a life a session puts an address into its mailbox in an attempt that puts one, alone.
use Rattle.std.proofs.Common.{◌≡◌, ℕ, zero, suc, ◌<◌, ◌∙◌, List, [], ◌∷◌, refl, sym, subst, arith, length}
use Rattle.std.specs.Prelude.{Some, slice_get}
use Rattle.fkv_plane.specs.declared.places.Places.{Places}
use Rattle.law_refine.specs.Below.fkv_session.Sessions.{SessionState}
use Rattle.law_refine.proofs.Below.fkv_world.Shown.{places_stay}
use Rattle.law_refine.specs.Below.fkv_world.Opened.{HasBecome, IsOpenedWorld}
use Rattle.law_refine.specs.Below.fkv_world.OwnEvents.{session_events}
use Rattle.law_refine.specs.Below.fkv_world.Runs.{World, run}
use Rattle.law_refine.specs.Below.fkv_world.World.{Event, seat_at}
use Rattle.law_opening.proofs.OfChanges.OfMails.SessionMails.{MailsSo, run_mails}
use Rattle.law_refine.proofs.Below.law_world.OfGuarded.Worlds.{life_shows}
use Rattle.law_refine.specs.Below.law_world.Guarded.Shows.{IsOpened}
use Rattle.law_refine.proofs.Below.law_world.OfSessions.OwnRun.{of_run, opened_so}

-- a session is one of the store's
pub its_seat : (opening : World) (start : ℕ) (events : List Event) (session : ℕ) (s : SessionState) → IsOpened opening.now start → slice_get (run opening events).now.sessions session ≡ Some s → session < opening.now.places.sessions
its_seat opening start events session s opened found =
    let shows = life_shows opening start events opened in
    subst (λ (p : Places). session < p.sessions) (shows.places ∙ places_stay opening events) (shows.sessions session s found).sits.below

-- it was there as the life began, and is its own run since
found_at : {X : Type 0} (xs : List X) (i : ℕ) → i < length xs → (x : X) × (slice_get xs i ≡ Some x)
found_at [] i small = absurd (omega (arith, small))
found_at (x ∷ xs) zero small = (x, refl)
found_at (x ∷ xs) (suc i) small = found_at xs i (omega (arith, small))

pub life_mails : (opening : World) (start : ℕ) (events : List Event) (session : ℕ) (s : SessionState) → IsOpenedWorld opening → IsOpened opening.now start → slice_get (run opening events).now.sessions session ≡ Some s → MailsSo s
life_mails opening start events session s world opened found =
    let below : session < length opening.now.sessions = subst (λ (count : ℕ). session < count) (sym world.seats) (its_seat opening start events session s opened found) in
    let first = found_at opening.now.sessions session below in
    let became : HasBecome opening events session first.0 s = record { opened = world; was = first.1; is_now = found } in
    of_run MailsSo opening events session first.0 s became (run_mails (seat_at opening.now session) first.0 (session_events opening session events) (opened_so opening events session first.0 s became))
