-- What the sessions of a life know of versions goes on by each event.
use Rattle.std.proofs.Common.{arith, ◌≡◌, ◌≢◌, ℕ, refl, sym, ap, ◌∙◌, subst, eqb-true, Bool, true, false, List, ◌∷◌, Option, Some, None}
use Rattle.std.specs.Prelude.{slice_get}
use Rattle.fkv_base.specs.declared.numbers.Version.{Version}
use Rattle.fkv_plane.specs.declared.places.Places.{Places}
use Rattle.fkv_epoch.proofs.Shown.{none_some, some_same}
use Rattle.law_commit.specs.Below.fkv_ops.Request.{Request}
use Rattle.law_commit.specs.Below.fkv_ops.Requests.{is_read}
use Rattle.law_commit.specs.Below.fkv_pending.TheAttempting.{Attempting}
use Rattle.law_commit.specs.Below.fkv_pending.TheAttempting.TheVariants.{Ended, Looks, Puts, Tries}
use Rattle.law_commit.specs.Below.fkv_pending.PendingRequest.{PendingRequest}
use Rattle.law_commit.specs.Below.fkv_pending.Attempting.{AttemptState}
use Rattle.law_commit.specs.Below.fkv_session.Catching.TheVariants.{Latches}
use Rattle.law_commit.specs.Below.fkv_session.CatchCause.{CatchCause}
use Rattle.law_commit.specs.Below.fkv_session.Sitting.TheVariants.{CatchesUp, Polls}
use Rattle.law_commit.specs.Below.fkv_session.Sessions.{Seat, SessionState, bits_of, room_of, session_next}
use Rattle.law_commit.proofs.Below.fkv_session.Shown.{attempt_keeps}
use Rattle.law_commit.specs.Below.fkv_world.Moves.{Near, session_moved}
use Rattle.law_commit.specs.Below.fkv_world.Opened.{HasBecome}
use Rattle.law_commit.specs.Below.fkv_world.Actors.{is_of_session}
use Rattle.law_commit.specs.Below.fkv_world.Runs.{World, run}
use Rattle.law_commit.specs.Below.fkv_world.World.{Calls, Commits, Crashes, Event, KeeperMoves, Moves, Now, Turns, near, seat_at}
use Rattle.law_commit.proofs.Below.fkv_world.Shown.{places_stay, session_apart}
use Rattle.law_apart.specs.Apart.Rows.{AttemptApart, PendingApart, RaisesNone, SessionApart, shares_now}
use Rattle.law_apart.proofs.OfApart.Sessions.{ApartFacts, call_apart, step_apart}
use Rattle.law_apart.proofs.OfApart.Stays as stays
use Rattle.law_opening.proofs.OfChanges.OfSessions.Calm.{calm_known, is_calm, not_calm}
use Rattle.law_opening.proofs.OfChanges.OfSessions.Comes.{Begins, SessionComes, Stays, Steps, session_comes}
use Rattle.law_commit.specs.PhaseVersions.{phase_version}
use Rattle.law_commit.proofs.OfVersions.Requests.{update_at}
use Rattle.law_commit.specs.Below.law_local.Sessions.Known.{attempt_after, is_attempting}
use Rattle.law_commit.specs.Below.law_local.Tries.AttemptRows.{AttemptRow, IsTrueOfAttempt}
use Rattle.law_commit.specs.Below.law_local.Tries.AttemptRows as local
use Rattle.law_commit.specs.Below.law_local.Tries.Replies.{IsTrueReply}
use Rattle.law_commit.specs.Below.law_local.Tries.TryRows.{MarksTell, NoneIsLater, NoneLaterPast, floor_in, key_in}
use Rattle.law_commit.proofs.Below.law_local.OfTries.AttemptSteps.{attempt_leads}
use Rattle.law_commit.proofs.Below.law_local.OfTries.OnWay.{orderly}
use Rattle.law_commit.proofs.Below.law_local.OfTries.TrySteps.{try_leads}
use Rattle.law_log.specs.Begins.{Live}
use Rattle.law_log.specs.Enabled.{AreEnabled}
use Rattle.law_log.specs.Ghosts.{Log}
use Rattle.law_log.proofs.Shown.{Grows, Held, enabled_before}
use Rattle.law_order.specs.Apart.Given.{Given}
use Rattle.law_order.specs.Apart.Lives.{AllApartBehind, NoneHasShifted, OpensApart}
use Rattle.law_order.specs.Known.Begins.{BegunLife, begin_in, home_of_world}
use Rattle.law_order.specs.Known.Floors.{GoesByBegin}
use Rattle.law_order.specs.Known.Knows.{AllKnowBehind}
use Rattle.law_order.specs.Known.Told.{AreToldTruly, reply_in}
use Rattle.law_order.proofs.OfApart.Along.{PublishesApart, takes_along}
use Rattle.law_order.proofs.OfKnown.Begins.{live_below}
use Rattle.law_order.proofs.OfApart.Heart.{Sharer, became, making_of, publishes_apart, publishes_own}
use Rattle.law_order.proofs.OfApart.Moments.{attempt_left, waiting_left}
use Rattle.law_order.proofs.OfApart.Newest.{held, marks, none_said, passes, phase_tells, tells, versions_near}
use Rattle.law_order.proofs.OfApart.Sharers.{attempts_held, waits_held}
use Rattle.law_commit.specs.Below.law_refine.Events.Effects.{Stepped, mover_step, no_step, step_at}
use Rattle.law_commit.specs.Below.law_refine.Events.GhostEvents.{ghost_events, life_ghosts, mapped, serials_in}
use Rattle.law_commit.proofs.Below.law_refine.OfEvents.EventEffects.{life_makes}
use Rattle.law_commit.proofs.Below.law_refine.OfSeen.Alone.{moves_alone}
use Rattle.law_commit.proofs.Below.law_refine.OfSeen.There.{there_before}

module _ (given : Given) (life : BegunLife) (apart : OpensApart life) (before : List Event) (event : Event)
    (enabled : AreEnabled (home_of_world life.opening) life.ghosts (mapped life.opening (event ∷ before))) (known : AllKnowBehind life.opening life.ghosts before)
    (told : AreToldTruly (home_of_world life.opening) (life_ghosts life.opening life.ghosts before).log (run life.opening before).now) (none : NoneHasShifted life.opening (event ∷ before)) (all_apart : AllApartBehind life.opening life.ghosts before)
    (begin : GoesByBegin life.opening life.ghosts before) where
  abbrev W : World
  W = run life.opening before

  abbrev N : Now
  N = W.now

  abbrev H : ℕ → ℕ
  H = home_of_world life.opening

  abbrev L : Log
  L = (life_ghosts life.opening life.ghosts before).log

  abbrev L' : Log
  L' = (life_ghosts life.opening life.ghosts (event ∷ before)).log

  enabled_so : AreEnabled H life.ghosts (mapped life.opening before)
  unfolding mapped
  enabled_so = enabled_before H life.ghosts (ghost_events (serials_in life.opening.now) W event) (mapped life.opening before) enabled

  is_held : Held H life.map L
  is_held = held given life apart before enabled_so

  -- ---- what the event publishes
  none_published : (h w : ℕ) → PublishesApart H (no_step N) L h w
  none_published h w its entry cell publishes there here older = none_some its publishes.reserved

  event_apart : (h w : ℕ) → Sharer given life apart before h w → PublishesApart H (step_at N event) L h w
  event_apart h w sharer = by_event event
    where
      by_mover : (number : ℕ) (found : Option SessionState) → slice_get N.sessions number ≡ found → PublishesApart H (step_at N (Moves number)) L h w
      by_mover number None e = subst (λ (x : Option SessionState). PublishesApart H (mover_step N number x) L h w) (sym e) (none_published h w)
      by_mover number (Some s) e = subst (λ (x : Option SessionState). PublishesApart H (mover_step N number x) L h w) (sym e) (publishes_apart given life apart before number s e (known number s e) (all_apart number s e) is_held.chains h w sharer)

      by_event : (x : Event) → PublishesApart H (step_at N x) L h w
      by_event (Moves number) = by_mover number (slice_get N.sessions number) refl
      by_event (Calls number call) = none_published h w
      by_event (Commits kind) = none_published h w
      by_event Turns = none_published h w
      by_event (KeeperMoves granted done) = none_published h w
      by_event Crashes = none_published h w

  -- ---- what stays along the events of the log that the event is
  along : (P : Log → Type 0) (S : Type 0) (h w : ℕ) → ((log log' : Log) → Held H life.map log → Grows H life.map log log' → (S → RaisesNone log log' h w) → P log → P log') → (S → PublishesApart H (step_at N event) L h w) → P L → P L'
  unfolding mapped
  along P S h w grows publishes its =
      let makes = life_makes life.opening life.start before event life.begins.store.now in
      takes_along H life.map life.number life.ghosts life.begins.log P S h w grows (step_at N event) (ghost_events (serials_in life.opening.now) W event) (mapped life.opening before) makes.made makes.takes enabled publishes its

  module _ (session : ℕ) (s : SessionState) (was : slice_get N.sessions session ≡ Some s) where
    abbrev K : Seat
    K = seat_at N session

    abbrev Knows : Log → SessionState → Type 0
    Knows log x = SessionApart H N.places log x

    became_so : (first : SessionState) × HasBecome life.opening before session first s
    became_so = became given life apart before session s was

    unread : (read : Bool) {X : Type 0} → (read ≡ true → X) → (read ≡ false → X) → X
    unread true one other = one refl
    unread false one other = other refl

    shared_update : (read has : Bool) → (read ≡ true → has ≡ false) → has ≡ true → read ≡ false
    shared_update true has free e = let clash : true ≡ false = sym e ∙ free refl in cc
    shared_update false has free e = refl

    -- ---- a request that waits
    waiting_on : (index : ℕ) (pending : PendingRequest) → slice_get s.requests index ≡ Some pending → s.step ≢ Polls index → PendingApart H L pending → PendingApart H L' pending
    waiting_on index pending got other its =
        along (λ log. PendingApart H log pending) (pending.request.has_latch ≡ true) (H (key_in pending.request)) pending.request.version.0
        (λ log log' is grows raises so. stays.pending_stays H life.map log log' is grows pending raises so) (λ has. event_apart (H (key_in pending.request)) pending.request.version.0 (sharer has)) its
      where
        sharer : pending.request.has_latch ≡ true → Sharer given life apart before (H (key_in pending.request)) pending.request.version.0
        sharer has = record {
          session = session;
          state = s;
          got = was;
          op = pending.request.op;
          its_home = refl;
          left = waiting_left given.floors given.left life.opening life.start before apart.quiet session became_so.0 s index pending became_so.1 got
              (shared_update (is_read pending.request.op) pending.request.has_latch ((known session s was).waiting index pending got other).unlatched has);
          held = waits_held K s index pending got other has;
        }

    -- ---- what it attempts
    live : is_attempting s.step ≡ true → Live (floor_in s.attempt.pending.request) H L
    live attempts = live_below (begin_in W) (floor_in s.attempt.pending.request) H L ((begin.floors session s was).theirs.attempted attempts) begin.live

    row_of : is_attempting s.step ≡ true → s.attempt.step ≡ Tries → local.TriesFor H L s.attempt.pending s.attempt.seen s.attempt.trial
    row_of attempts tries = subst (AttemptRow H L s.attempt) tries ((known session s was).attempted attempts).row

    attempt_update : is_attempting s.step ≡ true → (step : Attempting) → s.attempt.step ≡ step → shares_now s.attempt step ≡ true → is_read s.attempt.pending.request.op ≡ false
    attempt_update attempts Tries at has =
        let row = row_of attempts at in
        subst (λ (r : Request). is_read r.op ≡ false) row.its_request (shared_update (is_read s.attempt.trial.request.op) s.attempt.trial.has_shared (λ read. (row.knows.free read).0) has)
    attempt_update attempts (Ended its) at has = shared_update (is_read s.attempt.pending.request.op) s.attempt.pending.request.has_latch ((known session s was).attempted attempts).pending.unlatched has
    attempt_update attempts Looks at has = shared_update (is_read s.attempt.pending.request.op) s.attempt.pending.request.has_latch ((known session s was).attempted attempts).pending.unlatched has
    attempt_update attempts Puts at has = shared_update (is_read s.attempt.pending.request.op) s.attempt.pending.request.has_latch ((known session s was).attempted attempts).pending.unlatched has

    attempting_on : is_attempting s.step ≡ true → AttemptApart H N.places L s.attempt s.attempt.step → AttemptApart H N.places L' s.attempt s.attempt.step
    attempting_on attempts its =
        along (λ log. AttemptApart H N.places log s.attempt s.attempt.step) (shares_now s.attempt s.attempt.step ≡ true) (H (key_in s.attempt.pending.request)) s.attempt.pending.request.version.0
        (λ log log' is grows raises so. stays.attempt_stays H life.map log log' is grows N.places s.attempt s.attempt.step (λ tries. (row_of attempts tries).its_request) raises so)
        (λ has. event_apart (H (key_in s.attempt.pending.request)) s.attempt.pending.request.version.0 (record {
          session = session;
          state = s;
          got = was;
          op = s.attempt.pending.request.op;
          its_home = refl;
          left = attempt_left given.floors given.left life.opening life.start before apart.quiet session became_so.0 s became_so.1 attempts (attempt_update attempts s.attempt.step refl has);
          held = attempts_held K s attempts has;
        })) its

    -- where it makes no step
    stays_apart : Knows L' s
    stays_apart = record {
      waiting = λ index pending got other. waiting_on index pending got other ((all_apart session s was).rows.waiting index pending got other);
      attempted = λ attempts. attempting_on attempts ((all_apart session s was).rows.attempted attempts);
    }

    -- ---- by an event of its own
    module _ (own : is_of_session session event ≡ true) where
      -- what it publishes itself, if the event is a step
      publishes_by : (Q : Stepped → Type 0) → Q (no_step N) → Q (mover_step N session (Some s)) → Q (step_at N event)
      publishes_by Q none its = by_event event own
        where
          by_event : (x : Event) → is_of_session session x ≡ true → Q (step_at N x)
          by_event (Moves number) e =
              let same : number ≡ session = eqb-true number session e in
              subst (λ (i : ℕ). Q (mover_step N i (slice_get N.sessions i))) (sym same) (subst (λ (x : Option SessionState). Q (mover_step N session x)) (sym was) its)
          by_event (Calls number call) e = none
          by_event (Commits kind) e = none
          by_event Turns e = none
          by_event (KeeperMoves granted done) e = none
          by_event Crashes e = none

      -- that is of its own version
      own_apart : (h : ℕ) → PublishesApart H (step_at N event) L h s.attempt.pending.request.version.0
      own_apart h = publishes_by (λ x. PublishesApart H x L h s.attempt.pending.request.version.0) (none_published h s.attempt.pending.request.version.0)
          (publishes_own given life apart before session s was (known session s was) (all_apart session s was) is_held.chains h)

      -- it publishes nothing as it catches up
      caught_none : (cause : CatchCause) → s.step ≡ CatchesUp cause → (h w : ℕ) → PublishesApart H (step_at N event) L h w
      caught_none cause at h w = publishes_by (λ x. PublishesApart H x L h w) (none_published h w)
          (λ its entry cell publishes there here older.
          let making = (making_of session s its publishes.reserved).makes in
          let clash : false ≡ true = sym (ap is_attempting at) ∙ making.attempts in
          cc)

      abbrev reply : ℕ
      reply = reply_in N session s

      says_so : is_attempting s.step ≡ true → s.attempt.step ≡ Tries → IsTrueReply H L N.places s.attempt.trial s.attempt.trial.step reply
      says_so attempts tries = subst (λ (x : Attempting). IsTrueOfAttempt H L N.places s.attempt x reply) tries (told session s was attempts)

      passes_so : (attempts : is_attempting s.step ≡ true) (tries : s.attempt.step ≡ Tries) → NoneLaterPast H L N.places s.attempt.trial reply
      passes_so attempts tries = passes given life apart before enabled_so session s was attempts tries (known session s was) (all_apart session s was) (says_so attempts tries)

      marks_so : (attempts : is_attempting s.step ≡ true) (tries : s.attempt.step ≡ Tries) → MarksTell L N.places s.attempt.trial reply
      marks_so attempts tries = marks given life apart before enabled_so session s was attempts tries (known session s was) (all_apart session s was) (says_so attempts tries)

      same_request : is_attempting s.step ≡ true → (attempt_after K s reply).step ≡ Tries → (attempt_after K s reply).trial.request ≡ (attempt_after K s reply).pending.request
      same_request attempts tries =
          let after = attempt_leads H L K.places (bits_of K) (room_of K) K.number s.attempt reply (orderly H life.map L is_held) (live attempts) (passes_so attempts) (marks_so attempts) ((known session s was).attempted attempts) (told session s was attempts) in
          let row : local.TriesFor H L (attempt_after K s reply).pending (attempt_after K s reply).seen (attempt_after K s reply).trial = subst (AttemptRow H L (attempt_after K s reply)) tries after.row in
          row.its_request

      trying_on : is_attempting s.step ≡ true → AttemptApart H N.places L (attempt_after K s reply) (attempt_after K s reply).step → AttemptApart H N.places L' (attempt_after K s reply) (attempt_after K s reply).step
      trying_on attempts its =
          let a : AttemptState = attempt_after K s reply in
          let same = (attempt_keeps K.places (bits_of K) (room_of K) K.number s.attempt reply).version in
          along (λ log. AttemptApart H N.places log a a.step) (shares_now a a.step ≡ true) (H (key_in a.pending.request)) a.pending.request.version.0
          (λ log log' is grows raises so. stays.attempt_stays H life.map log log' is grows N.places a a.step (same_request attempts) raises so)
          (λ has. subst (λ (v : Version). PublishesApart H (step_at N event) L (H (key_in a.pending.request)) v.0) (sym same) (own_apart (H (key_in a.pending.request)))) its

      facts : ApartFacts H K L L' s reply
      facts = record {
        orderly = orderly H life.map L is_held;
        falls = is_held.falls;
        near = λ attempts tries. versions_near given life apart before enabled_so session s was attempts tries (known session s was) (all_apart session s was);
        attempt = λ attempts. (known session s was).attempted attempts;
        says = λ attempts. told session s was attempts;
        tells = λ attempts tries. tells given life apart before enabled_so session s was attempts tries (known session s was) (all_apart session s was);
        phase = λ attempts tries. phase_tells given life apart before enabled_so session s was attempts tries (known session s was) (all_apart session s was);
        leads = λ attempts tries. try_leads H L N.places (room_of K) s.attempt.trial reply (orderly H life.map L is_held) (subst (λ (r : Request). Live (floor_in r) H L) (sym (row_of attempts tries).its_request) (live attempts)) (passes_so attempts tries) (marks_so attempts tries) (row_of attempts tries).knows (says_so attempts tries);
        waiting = waiting_on;
        trying = trying_on;
        latches = λ cause i at takes index pending got. latched cause i at takes index pending got;
      }
        where
          latched : (cause : CatchCause) (i : ℕ) → s.step ≡ CatchesUp cause → s.catching.step ≡ Latches i → (index : ℕ) (pending : PendingRequest) → slice_get s.requests index ≡ Some pending → NoneIsLater H L' pending.request
          latched cause i at takes index pending got update =
              along (λ log. NoneIsLater H log pending.request) (Unit {0}) (H (key_in pending.request)) pending.request.version.0 (λ log log' is grows raises so. stays.none_stays H life.map log log' is grows pending.request (raises tt) so)
              (λ unit. caught_none cause at (H (key_in pending.request)) pending.request.version.0)
              (λ updates. none_said given life apart before enabled_so (H (key_in pending.request)) pending.request.version.0 (let is : pending.request.version.0 ≡ phase_version N.words = update_at (λ (v : ℕ). v ≡ phase_version N.words) s.requests index pending got (given.latches life.opening life.start before session became_so.0 s cause i apart.quiet became_so.1 at takes) updates in omega (arith, is))) update

      replied : (after : SessionState) → after ≡ session_next K s reply → Knows L' after
      replied after is = subst (Knows L') (sym is) (step_apart H K L L' s reply facts (all_apart session s was).rows)

      moved : (after : SessionState) → after ≡ (session_moved K (near N s)).machine → (calm : Bool) → is_calm s.step ≡ calm → Knows L' after
      moved after is true e = subst (Knows L') (sym is) (calm_known (PendingApart H L') (λ a. AttemptApart H N.places L' a a.step) K (near N s) e stays_apart)
      moved after is false e = let busy = not_calm s.step e in replied after (is ∙ ap (λ (x : Near SessionState). x.machine) (moves_alone life.opening life.start before session s life.begins.store.now was busy.0 busy.1))

      comes : (after : SessionState) → SessionComes W session s after → Knows L' after
      comes after (Stays is) = subst (Knows L') (sym is) stays_apart
      comes after (Begins its idle is) = subst (Knows L') (sym is) (call_apart H K L' s its idle stays_apart)
      comes after (Steps is) = moved after is (is_calm s.step) refl

    goes : (after : SessionState) → slice_get (run life.opening (event ∷ before)).now.sessions session ≡ Some after → Knows L' after
    unfolding run
    goes after is_now = by_owner (is_of_session session event) refl
      where
        by_owner : (b : Bool) → is_of_session session event ≡ b → Knows L' after
        by_owner true own = comes own after (session_comes W event session s after was is_now)
        by_owner false other = subst (Knows L') (sym (some_same after s (sym is_now ∙ (session_apart W event session other ∙ was)))) stays_apart

  pub apart_goes_on : AllApartBehind life.opening life.ghosts (event ∷ before)
  unfolding run
  apart_goes_on session after is_now =
      let s = there_before W event session after is_now in
      record { none = none; rows = subst (λ (p : Places). SessionApart H p L' after) (places_stay life.opening before ∙ sym (places_stay life.opening (event ∷ before))) (goes session s.0 s.1 after is_now) }
