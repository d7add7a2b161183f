-- What the guard keeps of addresses that are reserved, said of what sessions have reserved.
use Rattle.std.proofs.Common.{◌≡◌, ℕ, ◌<◌, ◌≤◌, ◌∙◌, refl, sym, ap, subst, List}
use Rattle.std.specs.Prelude.{Option, Some, None}
use Rattle.law_world.specs.Below.fkv_flush.Guarded.{undecided_at, undecided_of}
use Rattle.law_world.specs.Below.fkv_flush.GuardReserved.{UndecidedApart}
use Rattle.law_world.specs.Below.fkv_flush.GuardSeen.{LastSeen}
use Rattle.law_world.specs.Below.fkv_flush.GuardWorld.{GuardWorld}
use Rattle.law_world.specs.Below.fkv_flush.GuardLevels.{levels_of}
use Rattle.law_world.proofs.Below.fkv_flush.Shown.{opening_apart, opening_sound, run_apart, undecided_fresh}
use Rattle.law_world.specs.Below.fkv_log.TheInvalidating.{Invalidating}
use Rattle.law_world.specs.Below.fkv_log.TheInvalidating.TheVariants as invalidating
use Rattle.law_world.specs.Below.fkv_ops.TheAppending.{Appending}
use Rattle.law_world.specs.Below.fkv_ops.TheAppending.TheVariants as appending
use Rattle.law_world.specs.Below.fkv_ops.TheTrying.{Trying}
use Rattle.law_world.specs.Below.fkv_ops.TheTrying.TheVariants.{Appends}
use Rattle.law_world.specs.Below.fkv_ops.Appending.{AppendState}
use Rattle.law_world.specs.Below.fkv_ops.Trying.{TryState}
use Rattle.law_world.specs.Below.fkv_pending.TheAttempting.{Attempting}
use Rattle.law_world.specs.Below.fkv_pending.TheAttempting.TheVariants.{Tries}
use Rattle.law_world.specs.Below.fkv_pending.PendingRequest.{PendingRequest}
use Rattle.law_world.specs.Below.fkv_pending.Attempting.{AttemptState}
use Rattle.law_world.specs.Below.fkv_session.Sitting.{Sitting}
use Rattle.law_world.specs.Below.fkv_session.Sitting.TheVariants as sitting
use Rattle.law_world.specs.Below.fkv_session.Sessions.{SessionState}
use Rattle.law_world.specs.GuardSessions.Likenesses.{append_undecided, invalidate_undecided, last_seen}
use Rattle.law_world.specs.GuardSessions.Tries.{try_likeness_at}
use Rattle.law_world.specs.GuardSessions.Attempts.{attempt_likeness_at}
use Rattle.law_world.specs.GuardSessions.Sessions.{sitting_likeness}
use Rattle.law_world.specs.Below.fkv_world.Runs.{World, run}
use Rattle.law_world.specs.Below.fkv_world.World.{Event, Now}
use Rattle.law_world.specs.Guarded.GuardEvents as guard
use Rattle.law_world.specs.Guarded.GuardEvents.{actor_count}
use Rattle.law_world.specs.Guarded.Shows.{IsOpened, Shows, guard_opening, seen_by_guard}
use Rattle.law_world.proofs.OfGuarded.Worlds.{life_shows}
use Rattle.law_refine.specs.Events.Appends.{NewRecord}
use Rattle.law_refine.specs.Events.Reservations.{Reservation, invalidate_reserves, append_reserves, try_reserves, attempt_reserves}
use Rattle.law_refine.specs.Events.Reserved.{HasReserved, ReservationsAreApart, ReservationsAreOpen, sitting_reserves}

-- its address
abbrev addr_of : Option Reservation → Option ℕ
addr_of None = None
addr_of (Some its) = Some its.addr

-- ---- it is the address that the guard has as undecided
invalidate_addr : (a : AppendState) (made : NewRecord) (its : Invalidating) → addr_of (invalidate_reserves a made its) ≡ invalidate_undecided its
invalidate_addr a made invalidating.AtRest = refl
invalidate_addr a made (invalidating.StoresHeader addr header) = refl

append_addr : (a : AppendState) (made : NewRecord) (step : Appending) → addr_of (append_reserves a made step) ≡ append_undecided a step
append_addr a made (appending.Ended its) = refl
append_addr a made appending.Reserves = refl
append_addr a made (appending.Fills addr) = refl
append_addr a made (appending.Publishes addr) = refl
append_addr a made appending.Invalidates = invalidate_addr a made a.invalidating

try_addr : (number : ℕ) (pending : PendingRequest) (seen : LastSeen) (t : TryState) (step : Trying) (addr : ℕ) → addr_of (try_reserves number pending t step) ≡ Some addr → (try_likeness_at seen t step).undecided ≡ Some addr
try_addr number pending seen t (Appends its) addr e = sym (append_addr t.append _ t.append.step) ∙ e
try_addr number pending seen t step addr e = cc

attempt_addr : (number : ℕ) (seen : LastSeen) (a : AttemptState) (step : Attempting) (addr : ℕ) → addr_of (attempt_reserves number a step) ≡ Some addr → (attempt_likeness_at seen a step).undecided ≡ Some addr
attempt_addr number seen a Tries addr e = try_addr number a.pending seen a.trial a.trial.step addr e
attempt_addr number seen a step addr e = cc

sitting_addr : (number : ℕ) (s : SessionState) (step : Sitting) (addr : ℕ) → addr_of (sitting_reserves number s step) ≡ Some addr → (sitting_likeness s step).undecided ≡ Some addr
sitting_addr number s (sitting.Attempts has_shifted) addr e = attempt_addr number (last_seen s.seen) s.attempt s.attempt.step addr e
sitting_addr number s (sitting.Polls index) addr e = attempt_addr number (last_seen s.seen) s.attempt s.attempt.step addr e
sitting_addr number s step addr e = cc

-- ---- of a world that the guard's shows
undecided_so : (n : Now) (w : GuardWorld) (number : ℕ) (its : Reservation) → Shows n w → HasReserved n number its → undecided_of w.now.actors number ≡ Some its.addr
undecided_so n w number its shows has =
    let seat = shows.sessions number has.state has.found in
    ap undecided_at seat.sits.got ∙ (seat.sits.fits.undecided ∙ sitting_addr number has.state has.state.step its.addr (ap addr_of has.reserved))

life_apart : (opening : World) (start : ℕ) (events : List Event) → IsOpened opening.now start → UndecidedApart (seen_by_guard opening start events).now.actors
life_apart opening start events opened =
    run_apart (guard_opening opening.now start) (guard.mapped opening events) (opening_sound opening.now.shape opening.now.places (actor_count opening.now) opening.now.words start opened.words)
    (opening_apart opening.now.shape opening.now.places (actor_count opening.now) opening.now.words start)

pub reserved_apart : (opening : World) (start : ℕ) (events : List Event) → IsOpened opening.now start → ReservationsAreApart (run opening events).now
reserved_apart opening start events opened = λ number other its another has had same.
    let n : Now = (run opening events).now in
    let w : GuardWorld = seen_by_guard opening start events in
    let shows = life_shows opening start events opened in
    life_apart opening start events opened number other its.addr (undecided_so n w number its shows has) (undecided_so n w other another shows had ∙ ap (λ (a : ℕ). Some a) (sym same))

pub reserved_open : (opening : World) (start : ℕ) (events : List Event) → IsOpened opening.now start → ReservationsAreOpen (run opening events).now
reserved_open opening start events opened = λ number its has.
    let n : Now = (run opening events).now in
    let w : GuardWorld = seen_by_guard opening start events in
    let shows = life_shows opening start events opened in
    let fresh = undecided_fresh w shows.sound in
    let there = undecided_so n w number its shows has in (
      subst (λ (words : List ℕ). (levels_of words).safe_read_only ≤ its.addr) shows.words (fresh.safe number its.addr there),
      subst (λ (words : List ℕ). its.addr < (levels_of words).tail) shows.words (fresh.reserved number its.addr there),
    )
