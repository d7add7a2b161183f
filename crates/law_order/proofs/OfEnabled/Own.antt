-- That a session's own events in the log are enabled.
use Rattle.std.proofs.Common.{◌≡◌, ℕ, ◌≤◌, ◌∙◌, List, [], ◌∷◌, ◌++◌, refl, arith, ap, sym, subst, Bool, true, false}
use Rattle.std.specs.Prelude.{map, ◌==◌, if◌then◌else◌, Option, Some, None, slice_get}
use Rattle.fkv_epoch.proofs.Shown.{none_some}
use Rattle.law_commit.specs.Below.fkv_ops.Request.{Request}
use Rattle.law_commit.specs.Below.fkv_ops.Seen.{Seen}
use Rattle.law_log.specs.Ghosts.{Ghosts, GhostEvent, Fixes, Tells}
use Rattle.law_log.specs.Enabled.{AreEnabled, NoneAbove, NoneCopies}
use Rattle.law_log.specs.Trace.{TraceLine}
use Rattle.fkv_plane.specs.declared.asks.Ask.{Ask}
use Rattle.fkv_plane.specs.declared.asks.Ask.TheVariants.{Put, Take, Done}
use Rattle.fkv_plane.specs.Asked.{asked, asked_place, reply_to, word_found}
use Rattle.law_commit.specs.Below.fkv_pending.TheAttempting.{Attempting}
use Rattle.law_commit.specs.Below.fkv_pending.TheAttempting.TheVariants.{Tries}
use Rattle.law_commit.specs.Below.fkv_pending.Attempting.{AttemptState}
use Rattle.law_commit.specs.Below.fkv_session.Told.{Told}
use Rattle.law_commit.specs.Below.fkv_session.Sitting.{Sitting}
use Rattle.law_commit.specs.Below.fkv_session.Sitting.TheVariants.{Attempts, Polls}
use Rattle.law_commit.specs.Below.fkv_session.Sessions.{SessionState, Seat, session_ask, session_next}
use Rattle.law_commit.specs.Below.law_world.GuardSessions.InPlace.{attempt_changes, sitting_changes, try_changes}
use Rattle.law_commit.specs.Below.law_local.Sessions.Inputs.{AttemptsBy}
use Rattle.law_commit.specs.Below.law_local.Sessions.Known.{is_attempting}
use Rattle.law_commit.specs.Below.law_local.Tries.AttemptRows.{AttemptRow, IsTrueOfAttempt, TriesFor}
use Rattle.law_commit.specs.Below.law_local.Tries.Changes.{IsAlone}
use Rattle.law_commit.specs.Below.law_local.Tries.TryRows.{key_in}
use Rattle.law_commit.specs.Below.fkv_world.Runs.{World, happens, run}
use Rattle.law_commit.specs.Below.fkv_world.World.{Event, Calls, Moves, Commits, Turns, KeeperMoves, Crashes, Now, seat_at}
use Rattle.law_commit.specs.Below.law_refine.Heads.Heads.{AllMeetHeads}
use Rattle.law_commit.proofs.Below.law_refine.OfHeads.LifeHeads.{life_meets}
use Rattle.law_order.specs.Known.Begins.{BegunLife, home_of_world}
use Rattle.law_order.specs.Known.Knows.{AllKnowBehind, AreKnown}
use Rattle.law_order.specs.Known.Told.{AreToldTruly}
use Rattle.law_commit.specs.Below.law_refine.Events.Effects.{PublishesIt, Stepped, mover_step, step_at}
use Rattle.law_commit.specs.Below.law_refine.Events.GhostEvents.{fixed_ghosts, ghost_events, life_ghosts, mapped, moved_ghosts, own_ghosts, safe_at, serials_in, traced_by}
use Rattle.law_commit.specs.Below.law_refine.Events.Lines.{lines_added}
use Rattle.law_commit.specs.Below.law_refine.Events.Reservations.{Reservation}
use Rattle.law_commit.specs.Below.law_refine.Events.Reserved.{HasReserved, reserved_by, tail_at}
use Rattle.law_commit.specs.Below.law_refine.Events.Sessions.{sitting_ghosts, step_ghosts}
use Rattle.law_commit.proofs.Below.law_refine.OfEvents.Fixed.{ghost_fixed}
use Rattle.law_commit.proofs.Below.law_refine.OfEvents.Unborn.{ghost_unborn}
use Rattle.law_commit.proofs.Below.law_refine.OfEvents.EventEffects.{life_makes}
use Rattle.law_commit.proofs.Below.law_refine.OfEvents.SessionSteps.{life_on}
use Rattle.law_commit.proofs.Below.law_refine.OfEvents.ReservedLife.{life_reserved}
use Rattle.law_commit.specs.Below.law_refine.Records.Changes.{AreChangesPublished}
use Rattle.law_commit.specs.Below.law_refine.Records.Frames.{IsAttempting}
use Rattle.law_commit.proofs.Below.law_refine.OfRecords.FrameOwners.{sees_safely}
use Rattle.law_order.specs.Apart.Given.{Given}
use Rattle.law_order.specs.Apart.Lives.{AllApartBehind, OpensApart}
use Rattle.law_order.proofs.OfApart.Beside.{changes_none, publishes_none}
use Rattle.law_opening.proofs.OfChanges.OfSessions.Attempting.{life_attempts}
use Rattle.law_order.proofs.OfKnown.Newest.{known_now}
use Rattle.law_order.proofs.OfEnabled.InHand.{made_in_hand}
use Rattle.law_order.proofs.OfEnabled.Ready.{AreTakesEnabled, AllTakeUnborn, behind_enabled, meets_then, takes_enabled, takes_unborn}
use Rattle.law_order.proofs.OfEnabled.Tries.{sitting_enabled}

-- ---- by the session's control state
seen_at : (k : Seat) (s : SessionState) (step : Sitting) → AttemptsBy k s step → is_attempting step ≡ true → s.attempt.seen ≡ s.seen
seen_at k s (Attempts has_shifted) so e = so.goes.its_seen
seen_at k s (Polls index) so e = so.goes.its_seen
seen_at k s step so e = cc

-- what changes a record in place is a try
attempt_tries : (a : AttemptState) (step : Attempting) (at : ℕ) → a.step ≡ step → attempt_changes a step ≡ Some at → (a.step ≡ Tries) × (try_changes a.trial.step ≡ Some at)
attempt_tries a Tries at is e = (is, e)
attempt_tries a step at is e = none_some at e

pub sitting_tries : (s : SessionState) (step : Sitting) (at : ℕ) → sitting_changes s step ≡ Some at → (s.attempt.step ≡ Tries) × (try_changes s.attempt.trial.step ≡ Some at)
sitting_tries s (Attempts has_shifted) at e = attempt_tries s.attempt s.attempt.step at refl e
sitting_tries s (Polls index) at e = attempt_tries s.attempt s.attempt.step at refl e
sitting_tries s step at e = none_some at e

pub sitting_attempts : (s : SessionState) (step : Sitting) (at : ℕ) → sitting_changes s step ≡ Some at → is_attempting step ≡ true
sitting_attempts s (Attempts has_shifted) at e = refl
sitting_attempts s (Polls index) at e = refl
sitting_attempts s step at e = none_some at e

attempting : (step : Sitting) → is_attempting step ≡ true → IsAttempting step
attempting (Attempts has_shifted) e = tt
attempting (Polls index) e = tt
attempting step e = cc

-- ---- lists of the log's events
no_fix_enabled : (home : ℕ → ℕ) (g : Ghosts) (before safe : ℕ) (events : List GhostEvent) → AreEnabled home g events → AreEnabled home g (fixed_ghosts before safe ++ events)
unfolding AreEnabled
no_fix_enabled home g before safe events enabled = by_test (safe == before)
  where
    by_test : (c : Bool) → AreEnabled home g ((if c then [] else Fixes safe ∷ []) ++ events)
    by_test true = enabled
    by_test false = (enabled, tt)

of_alive : (home : ℕ → ℕ) (g : Ghosts) (c : Bool) (events : List GhostEvent) → c ≡ false → AreTakesEnabled home g (if c then [] else events) → AreTakesEnabled home g events
of_alive home g true events e takes = cc
of_alive home g false events e takes = takes

-- what the session that moves has reserved
mover_reserves : (n : Now) (session : ℕ) (found : Option SessionState) (its : Reservation) → slice_get n.sessions session ≡ found → (mover_step n session found).reserved ≡ Some its → HasReserved n session its
mover_reserves n session None its e reserved = none_some its reserved
mover_reserves n session (Some s) its e reserved = record { state = s; found = e; reserved = reserved }

pub step_reserves : (n : Now) (event : Event) (its : Reservation) → (step_at n event).reserved ≡ Some its → (session : ℕ) × HasReserved n session its
step_reserves n (Moves session) its reserved = (session, mover_reserves n session (slice_get n.sessions session) its refl reserved)
step_reserves n (Calls session call) its reserved = none_some its reserved
step_reserves n (Commits kind) its reserved = none_some its reserved
step_reserves n Turns its reserved = none_some its reserved
step_reserves n (KeeperMoves granted done) its reserved = none_some its reserved
step_reserves n Crashes its reserved = none_some its reserved

module _ (life : BegunLife) (before : List Event)
    (given : Given) (opens : OpensApart life) (enabled : AreEnabled (home_of_world life.opening) life.ghosts (mapped life.opening before)) (all_apart : AllApartBehind life.opening life.ghosts before)
    (published : AreChangesPublished life.opening life.ghosts before) (known : AreKnown life.opening life.ghosts before)
    (told : AreToldTruly (home_of_world life.opening) (life_ghosts life.opening life.ghosts before).log (run life.opening before).now) where
  abbrev W : World
  W = run life.opening before

  abbrev N : Now
  N = W.now

  abbrev G : Ghosts
  G = life_ghosts life.opening life.ghosts before

  abbrev H : ℕ → ℕ
  H = home_of_world life.opening

  all_know : AllKnowBehind life.opening life.ghosts before
  all_know session s found = known_now life.opening life.ghosts before known session s found

  -- ---- a record that is published stands above all others of its home
  abbrev AboveAll : Stepped → Type 0
  AboveAll its_step = (its : Reservation) → PublishesIt its_step its → NoneAbove G.log (H its.cell.key) its.cell.version

  mover_above : (session : ℕ) (found : Option SessionState) → slice_get N.sessions session ≡ found → AboveAll (mover_step N session found)
  mover_above session None e = λ its publishes. none_some its publishes.reserved
  mover_above session (Some s) e = λ its publishes. publishes_none given life opens before enabled all_know all_apart session s e its publishes

  step_above : (event : Event) → AboveAll (step_at N event)
  step_above (Moves session) = mover_above session (slice_get N.sessions session) refl
  step_above (Calls session call) = λ its publishes. none_some its publishes.reserved
  step_above (Commits kind) = λ its publishes. none_some its publishes.reserved
  step_above Turns = λ its publishes. none_some its publishes.reserved
  step_above (KeeperMoves granted done) = λ its publishes. none_some its publishes.reserved
  step_above Crashes = λ its publishes. none_some its publishes.reserved

  -- ---- what takes effect by an event
  event_takes : (event : Event) → AreTakesEnabled H G (ghost_events (serials_in life.opening.now) W event)
  unfolding mapped
  event_takes event =
      let events : List GhostEvent = ghost_events (serials_in life.opening.now) W event in
      let makes = life_makes life.opening life.start before event life.begins.store.now in
      let meets : AllMeetHeads H life.ghosts (events ++ mapped life.opening before) = life_meets life.opening life.start life.lists life.ghosts (event ∷ before) life.begins.store.now life.begins.index life.begins.unborn life.begins.reserves life.begins.heads in
      takes_enabled H G (step_at N event) events makes.made makes.takes (meets_then H life.ghosts events (mapped life.opening before) meets)
      (λ its reserved. life_reserved life.opening life.start life.ghosts before life.begins.store.now life.begins.unborn life.begins.reserves (step_reserves N event its reserved).0 its (step_reserves N event its reserved).1)
      (step_above event)
      (λ entry is. made_in_hand life before event makes.made (step_at N event).version entry published makes.history is)

  own_takes : (event : Event) → N.crashed ≡ false → AreTakesEnabled H G (own_ghosts W event)
  unfolding ghost_events
  own_takes event alive =
      let lines : List TraceLine = lines_added (serials_in life.opening.now) W.past.trace (traced_by W event) in
      let fresh : List GhostEvent = fixed_ghosts (safe_at N) (safe_at (happens W event).now) in
      behind_enabled H G fresh (own_ghosts W event)
      (behind_enabled H G (map Tells lines) (fresh ++ own_ghosts W event) (of_alive H G N.crashed (map Tells lines ++ (fresh ++ own_ghosts W event)) alive (event_takes event)))

  -- ---- the address that a step takes is the tail
  tail_unborn : (session : ℕ) (s : SessionState) (ask : Ask Told) → session_ask (seat_at N session) s ≡ ask → slice_get N.sessions session ≡ Some s
      → AllTakeUnborn G.log (sitting_ghosts (seat_at N session) W.past.trace s s.step (reply_to N.words ask))
  tail_unborn session s ask e found =
      let k : Seat = seat_at N session in
      let reply : ℕ = reply_to N.words ask in
      takes_unborn G.log (asked_place (session_ask k s)) (asked (session_ask k s)) reply (sitting_ghosts k W.past.trace s s.step reply) (reserved_by session s) (reserved_by session (session_next k s reply))
      (life_on life.opening life.start before session s reply life.begins.store.now found)
      (λ a takes.
      let at_tail : reply ≡ tail_at N = ap (λ (x : Ask Told). reply_to N.words x) (sym e) ∙ ap (word_found N.words) takes.at in
      let same : a ≡ tail_at N = takes.found ∙ at_tail in
      ghost_unborn life.opening life.start life.ghosts before life.begins.store.now life.begins.unborn a (omega (arith, same)))

  -- ---- a session's step
  none_beside : (session : ℕ) (s : SessionState) → slice_get N.sessions session ≡ Some s → is_attempting s.step ≡ true → (at : ℕ) → sitting_changes s s.step ≡ Some at → IsAlone H G.log s.attempt.pending.request s.attempt.seen at
  none_beside session s found attempts at changes =
      let fixed : G.log.fixed ≡ safe_at N = ghost_fixed life.opening life.start life.ghosts before life.begins.store.now life.begins.fixed in
      let safe : safe_at N ≤ s.seen.offsets.read_only.0 = (sees_safely life.opening life.start before session s life.begins.store.now found (attempting s.step attempts)).read_only in
      let seen : s.attempt.seen ≡ s.seen = seen_at (seat_at life.opening.now session) s s.step (life_attempts life.opening before session s life.begins.world found) attempts in
      let low : G.log.fixed ≤ s.seen.offsets.read_only.0 = omega (arith, fixed, safe) in
      let tries = sitting_tries s s.step at changes in
      let row : TriesFor H G.log s.attempt.pending s.attempt.seen s.attempt.trial = subst (AttemptRow H G.log s.attempt) tries.0 ((all_know session s found).attempted attempts).row in
      let none = changes_none given life opens before enabled all_know all_apart session s found attempts tries.0 at tries.1 in
      record {
        not_fixed = subst (λ (x : Seen). G.log.fixed ≤ x.offsets.read_only.0) (sym seen) low;
        newest = subst (λ (r : Request). NoneAbove G.log (H (key_in r)) r.version.0) row.its_request none.0;
        no_copies = subst (λ (r : Request). NoneCopies H G.log at r.version.0) row.its_request none.1;
      }

  step_enabled : (session : ℕ) (s : SessionState) → slice_get N.sessions session ≡ Some s → (ask : Ask Told) → session_ask (seat_at N session) s ≡ ask
      → AreTakesEnabled H G (step_ghosts (seat_at N session) W.past.trace s N.words ask) → AreEnabled H G (step_ghosts (seat_at N session) W.past.trace s N.words ask)
  unfolding step_ghosts AreEnabled
  step_enabled session s found (Done its) e takes = tt
  step_enabled session s found (Put slot action) e takes = tt
  step_enabled session s found (Take slot) e takes = tt
  step_enabled session s found ask e takes =
      let k : Seat = seat_at N session in
      let reply : ℕ = reply_to N.words ask in
      sitting_enabled H G k W.past.trace s s.step reply (λ attempts. (known_now life.opening life.ghosts before known session s found).attempted attempts)
      (λ attempts. subst (λ (x : Ask Told). IsTrueOfAttempt H G.log N.places s.attempt s.attempt.step (reply_to N.words x)) e (told session s found attempts))
      (none_beside session s found) (record { takes = takes; unborn = tail_unborn session s ask e found })

  moved_enabled : (session : ℕ) (found : Option SessionState) → slice_get N.sessions session ≡ found → AreTakesEnabled H G (moved_ghosts W session found) → AreEnabled H G (moved_ghosts W session found)
  unfolding AreEnabled
  moved_enabled session None e takes = tt
  moved_enabled session (Some s) e takes = step_enabled session s e (session_ask (seat_at N session) s) refl takes

  event_enabled : (event : Event) → AreTakesEnabled H G (own_ghosts W event) → AreEnabled H G (own_ghosts W event)
  unfolding AreEnabled
  event_enabled (Moves session) takes = moved_enabled session (slice_get N.sessions session) refl takes
  event_enabled event takes = tt

  pub events_enabled : (event : Event) → N.crashed ≡ false → AreEnabled H G (own_ghosts W event)
  events_enabled event alive = event_enabled event (own_takes event alive)

pub own_enabled : (life : BegunLife) (before : List Event) (event : Event)
    → Given → OpensApart life → AllApartBehind life.opening life.ghosts before → AreEnabled (home_of_world life.opening) life.ghosts (mapped life.opening before)
    → AreChangesPublished life.opening life.ghosts before → AreKnown life.opening life.ghosts before → AreToldTruly (home_of_world life.opening) (life_ghosts life.opening life.ghosts before).log (run life.opening before).now
    → (run life.opening before).now.crashed ≡ false
    → AreEnabled (home_of_world life.opening) (life_ghosts life.opening life.ghosts before) (fixed_ghosts (safe_at (run life.opening before).now) (safe_at (run life.opening (event ∷ before)).now) ++ own_ghosts (run life.opening before) event)
own_enabled life before event given opens all_apart enabled published known told alive =
    no_fix_enabled (home_of_world life.opening) (life_ghosts life.opening life.ghosts before) (safe_at (run life.opening before).now) (safe_at (run life.opening (event ∷ before)).now) (own_ghosts (run life.opening before) event)
    (events_enabled life before given opens enabled all_apart published known told event alive)
