-- Each record that the log's events of a life change in place is published until then.
use Rattle.std.proofs.Common.{◌≡◌, ℕ, refl, sym, subst, Bool, true, false, List, [], ◌∷◌, ◌++◌}
use Rattle.std.specs.Prelude.{map, Option, Some, None, slice_get, if◌then◌else◌}
use Rattle.fkv_map.specs.declared.history.HistoryEntry.{HistoryEntry}
use Rattle.law_log.specs.Ghosts.{Log, Ghosts, GhostEvent, Tells, Changes, ghost_run}
use Rattle.law_log.specs.Trace.{TraceLine}
use Rattle.law_log.proofs.Shown.{run_on}
use Rattle.fkv_plane.specs.declared.asks.Ask.{Ask}
use Rattle.fkv_plane.specs.declared.asks.Ask.TheVariants.{Put, Take, Done}
use Rattle.fkv_plane.specs.Asked.{reply_to}
use Rattle.law_world.specs.Below.fkv_session.Told.{Told}
use Rattle.law_world.specs.Below.fkv_session.Sessions.{SessionState, Seat, session_ask}
use Rattle.law_world.specs.GuardSessions.InPlace.{changed_in_place}
use Rattle.law_world.specs.Below.fkv_world.Runs.{World, happens, run}
use Rattle.law_world.specs.Below.fkv_world.World.{Event, Moves, seat_at}
use Rattle.law_world.specs.Guarded.Shows.{IsOpened}
use Rattle.law_refine.specs.Events.Effects.{is_quiet, AreQuiet, Stepped, TakesEffect, Quietly, Behind, InPlace, ByRecord}
use Rattle.law_refine.specs.Events.GhostEvents.{home_in, moved_ghosts, own_ghosts, safe_at, fixed_ghosts, traced_by, serials_in, ghost_events, mapped, life_ghosts}
use Rattle.law_refine.specs.Events.Lines.{lines_added}
use Rattle.law_refine.specs.Events.Reservations.{Reservation}
use Rattle.law_refine.specs.Events.Reserved.{reserved_by, tail_at, IsUnbornFrom, ReservesNothing}
use Rattle.law_refine.specs.Events.Sessions.{sitting_ghosts, step_ghosts}
use Rattle.law_refine.specs.Events.Published.{IsPublished, AllMeetPublished, meets_published}
use Rattle.law_refine.proofs.OfEvents.SessionEffects.{life_takes}
use Rattle.law_refine.specs.Records.Changes.{SessionChangesPublished, ChangesPublished, AreChangesPublished}
use Rattle.law_refine.proofs.OfRecords.AppendRows.{Standing}
use Rattle.law_refine.proofs.OfRecords.FrameWords.{FrameWord, sitting_word}
use Rattle.law_refine.proofs.OfRecords.GhostFits.{Fit, sitting_fit}
use Rattle.law_refine.proofs.OfRecords.Life.{life_holds}
use Rattle.law_refine.proofs.OfRecords.OneEvent.{told_quiet}
use Rattle.law_refine.proofs.OfRecords.Standing.{stands_in}
use Rattle.law_refine.proofs.OfEvents.EventEffects.{fixed_quiet}
use Rattle.law_refine.proofs.OfEvents.RequestNames.{life_so}

quiet_meet : (log : Log) (event : GhostEvent) → is_quiet event → meets_published log event
quiet_meet log (Changes a entry) quiet = absurd quiet
quiet_meet log event quiet = tt

quiet_meets : (home : ℕ → ℕ) (g : Ghosts) (events : List GhostEvent) → AreQuiet events → AllMeetPublished home g events
unfolding AllMeetPublished
quiet_meets home g [] quiet = tt
quiet_meets home g (event ∷ before) quiet = (quiet_meet (ghost_run home g before).log event quiet.0, quiet_meets home g before quiet.1)

behind_meets : (home : ℕ → ℕ) (g : Ghosts) (later before : List GhostEvent) → AreQuiet later → AllMeetPublished home g before → AllMeetPublished home g (later ++ before)
unfolding AllMeetPublished
behind_meets home g [] before quiet meets = meets
behind_meets home g (event ∷ later) before quiet meets = (quiet_meet (ghost_run home g (later ++ before)).log event quiet.0, behind_meets home g later before quiet.1 meets)

meets_on : (home : ℕ → ℕ) (g : Ghosts) (later before : List GhostEvent) → AllMeetPublished home (ghost_run home g before) later → AllMeetPublished home g before → AllMeetPublished home g (later ++ before)
unfolding AllMeetPublished
meets_on home g [] before one other = other
meets_on home g (event ∷ later) before one other = (subst (λ (x : Ghosts). meets_published x.log event) (sym (run_on home g later before)) one.0, meets_on home g later before one.1 other)

one_meets : (home : ℕ → ℕ) (g : Ghosts) (event : GhostEvent) (before : List GhostEvent) → is_quiet event → AllMeetPublished home g before → AllMeetPublished home g (event ∷ before)
unfolding AllMeetPublished
one_meets home g event before quiet meets = (quiet_meet (ghost_run home g before).log event quiet, meets)

-- a step of a session
takes_meets : (home : ℕ → ℕ) (g : Ghosts) (stands : Standing) (changed : Option ℕ) (reserved : Option Reservation) (word : Option FrameWord) (its_step : Stepped) (events : List GhostEvent) (made : Option HistoryEntry)
    → TakesEffect its_step events made → Fit stands stands ⊥ changed reserved word events → ((a : ℕ) → changed ≡ Some a → IsPublished (g.log.cells a)) → AllMeetPublished home g events
unfolding AllMeetPublished ghost_run
takes_meets home g stands changed reserved word its_step events made (Quietly its quiet) fit its_published = quiet_meets home g its quiet
takes_meets home g stands changed reserved word its_step events made (Behind first quiet rest) fit its_published = one_meets home g first _ quiet (takes_meets home g stands changed reserved word its_step _ made rest fit.1 its_published)
takes_meets home g stands changed reserved word its_step events made (InPlace a entry at) fit its_published = (its_published a fit.0.0, tt)
takes_meets home g stands changed reserved word its_step events made (ByRecord its at) fit its_published = (tt, tt)

module _ (opening : World) (start : ℕ) (ghosts : Ghosts) (opened : IsOpened opening.now start) (none : IsUnbornFrom (tail_at opening.now) ghosts) (free : ReservesNothing ghosts) where
  abbrev H : ℕ → ℕ
  H = home_in opening.now.shape.bucket_bits

  step_meets : (before : List Event) (number : ℕ) (s : SessionState) → slice_get (run opening before).now.sessions number ≡ Some s → AreChangesPublished opening ghosts before → ((a : ℕ) → changed_in_place s ≡ Some a → IsPublished ((life_ghosts opening ghosts before).log.cells a))
      → (ask : Ask Told) → session_ask (seat_at (run opening before).now number) s ≡ ask
      → AllMeetPublished H (life_ghosts opening ghosts before) (step_ghosts (seat_at (run opening before).now number) (run opening before).past.trace s (run opening before).now.words ask)
  unfolding step_ghosts AllMeetPublished
  step_meets before number s found published its (Done told) e = tt
  step_meets before number s found published its (Put slot action) e = tt
  step_meets before number s found published its (Take slot) e = tt
  step_meets before number s found published its ask e =
      let k : Seat = seat_at (run opening before).now number in
      let stands : Standing = stands_in opening start before in
      let reply : ℕ = reply_to (run opening before).now.words ask in
      takes_meets H (life_ghosts opening ghosts before) stands (changed_in_place s) (reserved_by number s) (sitting_word s s.step) _ (sitting_ghosts k (run opening before).past.trace s s.step reply) _
      (life_takes opening start before number s reply opened found)
      (sitting_fit stands stands ⊥ k (run opening before).past.trace s s.step reply (life_so opening start before number s opened found).sits ((life_holds opening start ghosts before opened none free published).rows number s found).sits (λ never. absurd never)) its

  moved_meets : (before : List Event) (number : ℕ) (found : Option SessionState) → slice_get (run opening before).now.sessions number ≡ found → AreChangesPublished opening ghosts before → SessionChangesPublished (life_ghosts opening ghosts before).log found
      → AllMeetPublished H (life_ghosts opening ghosts before) (moved_ghosts (run opening before) number found)
  unfolding AllMeetPublished
  moved_meets before number None e published its = tt
  moved_meets before number (Some s) e published its = step_meets before number s e published its (session_ask (seat_at (run opening before).now number) s) refl

  own_meets : (before : List Event) (event : Event) → AreChangesPublished opening ghosts before → ChangesPublished (run opening before).now (life_ghosts opening ghosts before).log event
      → AllMeetPublished H (life_ghosts opening ghosts before) (own_ghosts (run opening before) event)
  unfolding AllMeetPublished
  own_meets before (Moves number) published its = moved_meets before number (slice_get (run opening before).now.sessions number) refl published its
  own_meets before event published its = tt

  event_meets : (before : List Event) (event : Event) → AreChangesPublished opening ghosts before → ChangesPublished (run opening before).now (life_ghosts opening ghosts before).log event
      → AllMeetPublished H (life_ghosts opening ghosts before) (ghost_events (serials_in opening.now) (run opening before) event)
  unfolding ghost_events AllMeetPublished
  event_meets before event published its = by_test (run opening before).now.crashed
    where
      lines : List TraceLine
      lines = lines_added (serials_in opening.now) (run opening before).past.trace (traced_by (run opening before) event)

      fresh : List GhostEvent
      fresh = fixed_ghosts (safe_at (run opening before).now) (safe_at (happens (run opening before) event).now)

      by_test : (c : Bool) → AllMeetPublished H (life_ghosts opening ghosts before) (if c then [] else map Tells lines ++ (fresh ++ own_ghosts (run opening before) event))
      by_test true = tt
      by_test false =
          behind_meets H (life_ghosts opening ghosts before) (map Tells lines) (fresh ++ own_ghosts (run opening before) event) (told_quiet lines)
          (behind_meets H (life_ghosts opening ghosts before) fresh (own_ghosts (run opening before) event) (fixed_quiet (safe_at (run opening before).now) (safe_at (happens (run opening before) event).now)) (own_meets before event published its))

  pub life_meets_published : (events : List Event) → AreChangesPublished opening ghosts events → AllMeetPublished H ghosts (mapped opening events)
  unfolding mapped AllMeetPublished
  life_meets_published [] published = tt
  life_meets_published (event ∷ before) published =
      meets_on H ghosts (ghost_events (serials_in opening.now) (run opening before) event) (mapped opening before) (event_meets before event published.1 published.0) (life_meets_published before published.1)
