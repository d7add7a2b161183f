-- What sessions know of the log beside a life goes on by each event.
use Rattle.std.proofs.Common.{◌≡◌, ◌≢◌, ℕ, ◌<◌, ◌≤◌, ◌∙◌, List, ◌∷◌, refl, arith, ap, sym, subst, Bool, true, false, eqb-true, []}
use Rattle.std.specs.Prelude.{Some, None, slice_get}
use Rattle.fkv_map.specs.Map.{is_reserved}
use Rattle.law_log.specs.Begins.{Live}
use Rattle.law_log.specs.Chains.{value_at, version_at}
use Rattle.law_log.specs.Ghosts.{Changes, Log, log_after}
use Rattle.law_log.specs.Enabled.{AreEnabled}
use Rattle.law_log.proofs.Shown.{run_held}
use Rattle.law_commit.specs.Below.fkv_ops.Seen.{Seen}
use Rattle.fkv_epoch.proofs.Shown.{none_some, some_same}
use Rattle.fkv_map.specs.declared.history.HistoryEntry.{HistoryEntry}
use Rattle.law_commit.specs.Below.fkv_ops.TheTrying.{Trying}
use Rattle.law_commit.specs.Below.fkv_ops.TheTrying.TheVariants.{ChangesValue, SwapsValue}
use Rattle.law_commit.specs.Below.fkv_pending.TheAttempting.{Attempting}
use Rattle.law_commit.specs.Below.fkv_pending.TheAttempting.TheVariants.{Tries}
use Rattle.law_commit.specs.Below.fkv_pending.PendingRequest.{PendingRequest}
use Rattle.law_commit.specs.Below.fkv_pending.Attempting.{AttemptState}
use Rattle.fkv_plane.specs.declared.asks.Ask.{Ask}
use Rattle.fkv_plane.specs.declared.asks.Ask.TheVariants.{Done}
use Rattle.law_commit.specs.Below.fkv_session.CatchCause.TheVariants.{Shifts}
use Rattle.law_commit.specs.Below.fkv_session.Sitting.{Sitting}
use Rattle.law_commit.specs.Below.fkv_session.Sitting.TheVariants.{CatchesUp}
use Rattle.law_commit.specs.Below.fkv_session.Sessions.{SessionState, Seat, bits_of, room_of, asks_after, attempts, catch_ledto, caught, is_word_ask, session_ask, session_next, sitting_next}
use Rattle.law_commit.specs.Below.law_local.Sessions.Inputs.{AttemptsSo}
use Rattle.law_commit.specs.Below.law_local.Sessions.Known.{KnowsRequests, attempt_after, catch_after, catch_comes_to, is_attempting}
use Rattle.law_commit.proofs.Below.law_local.OfSessions.Known.{stays_known}
use Rattle.law_commit.specs.Below.law_local.Tries.AttemptRows.{AttemptKnows, IsTrueOfAttempt, KeepsForAttempt, PendingKnows}
use Rattle.law_commit.specs.Below.law_local.Tries.Kept.{ChangesLog, KeepsSource, Swaps}
use Rattle.law_commit.specs.Below.law_local.Tries.Kept.{Changes as ChangesOne}
use Rattle.law_commit.specs.Below.law_local.Tries.Replies.{IsTrueReply}
use Rattle.law_commit.specs.Below.law_local.Tries.TryRows.{cell_of, floor_in, head_in}
use Rattle.law_commit.proofs.Below.law_local.OfTries.OwnEvents.{attempt_needs}
use Rattle.law_commit.proofs.Below.law_local.OfTries.OnWay.{orderly}
use Rattle.law_commit.proofs.Below.law_local.OfTries.AttemptGrows.{pending_later}
use Rattle.law_commit.specs.Below.fkv_world.Moves.{Near, session_moved}
use Rattle.law_commit.specs.Below.fkv_world.Runs.{World, run}
use Rattle.law_commit.specs.Below.fkv_world.Actors.{is_of_session}
use Rattle.law_commit.specs.Below.fkv_world.World.{Calls, Event, Moves, Now, near, seat_at}
use Rattle.law_commit.proofs.Below.fkv_world.Shown.{same_seat, session_apart}
use Rattle.law_order.specs.Known.Begins.{BegunLife, begin_in, home_of_world}
use Rattle.law_order.specs.Known.Floors.{GoesByBegin}
use Rattle.law_order.specs.Known.Knows.{AllKnowBehind, AreKnown, SessionKnows}
use Rattle.law_order.specs.Known.Told.{AreToldTruly, reply_in}
use Rattle.law_commit.specs.Below.law_refine.Events.GhostEvents.{life_ghosts, mapped}
use Rattle.law_order.proofs.OfKnown.Begins.{begin_fixed, begin_rises, live_below}
use Rattle.law_order.proofs.OfKnown.Newest.{known_now}
use Rattle.law_opening.proofs.OfChanges.OfSessions.Attempting.{life_attempts}
use Rattle.law_opening.proofs.OfChanges.OfSessions.Calm.{calm_known, is_calm, not_calm}
use Rattle.law_opening.proofs.OfChanges.OfSessions.Comes.{SessionComes, Stays, Begins, Steps, session_comes}
use Rattle.law_commit.specs.Below.law_world.GuardSessions.InPlace.{try_changes}
use Rattle.law_order.specs.Apart.Given.{Given}
use Rattle.law_order.specs.Apart.Lives.{AllApartBehind, OpensApart}
use Rattle.law_order.proofs.OfApart.Beside.{spares}
use Rattle.law_order.proofs.OfApart.Heart.{Makes}
use Rattle.law_order.proofs.OfApart.Newest.{marks, passes}
use Rattle.law_order.proofs.OfEnabled.Own.{sitting_attempts, sitting_tries}
use Rattle.law_commit.specs.Below.law_refine.Seen.Ops.{HasPlainOp, OpIsPlain}
use Rattle.law_commit.proofs.Below.law_refine.OfSeen.Lives.{head_rises, life_head_fixed}
use Rattle.law_commit.proofs.Below.law_refine.OfSeen.Ops.{life_op_kept}
use Rattle.law_commit.proofs.Below.law_refine.OfSeen.Alone.{moves_alone}
use Rattle.law_commit.proofs.Below.law_refine.OfSeen.There.{there_before}
use Rattle.law_order.specs.Rows.Asked.{SeeksWhereAsked, AttemptSeeks}
use Rattle.law_order.proofs.OfRows.Changed.{IsChangedBy}
use Rattle.law_order.proofs.OfRows.Kept.{Copies, changed_else, copied, keeps_by}
use Rattle.law_order.proofs.OfRows.Stays.{attempt_stays, enabled_until, pending_stays}
use Rattle.law_order.proofs.OfRows.Lives.{life_seeks, life_unlatched}
use Rattle.fkv_map.proofs.Shown.{free_by_test}
use Rattle.law_order.proofs.OfRows.Replies.{KnowsSo, StepFacts, TriesSo, WaitsSo, call_so, step_so}

-- ---- control states
-- behind a shift the session goes by what it has caught up with
led_seen : (k : Seat) (s : SessionState) (ask : Ask (Unit {0})) (its : Unit {0}) → ask ≡ Done its → (catch_ledto k s Shifts ask).seen ≡ s.catching.seen
unfolding catch_ledto attempts
led_seen k s (Done through) its e = refl
led_seen k s ask its e = cc

caught_seen : (k : Seat) (s : SessionState) (reply : ℕ) (its : Unit {0}) → s.step ≡ CatchesUp Shifts → catch_comes_to k s reply ≡ Done its → (session_next k s reply).seen ≡ (catch_after k s reply).seen
unfolding sitting_next
caught_seen k s reply its at done =
    let asks : ℕ = asks_after s.asks (is_word_ask (session_ask k s)) in
    ap (λ (step : Sitting). (sitting_next k (record s { asks = asks; effect = None }) step reply).seen) at
    ∙ led_seen k (caught k (record s { asks = asks; effect = None }) reply) (catch_comes_to k s reply) its done

plain_in_hand : (s : SessionState) → s.step ≡ CatchesUp Shifts → HasPlainOp s → is_reserved s.op ≡ false
plain_in_hand s at plain = subst (λ (step : Sitting). OpIsPlain s step) at plain

both : (P P' : PendingRequest → Type 0) (Q Q' : AttemptState → Type 0) (s : SessionState) → KnowsRequests P Q s → KnowsRequests P' Q' s → KnowsRequests (λ pending. P pending × P' pending) (λ a. Q a × Q' a) s
both P P' Q Q' s one other = record {
  waiting = λ index pending got polled. (one.waiting index pending got polled, other.waiting index pending got polled);
  attempted = λ attempting. (one.attempted attempting, other.attempted attempting);
}

module _ (life : BegunLife) (before : List Event) (event : Event)
    (given : Given) (opens : OpensApart life) (all_apart : AllApartBehind life.opening life.ghosts before) (begin : GoesByBegin life.opening life.ghosts before) (enabled : AreEnabled (home_of_world life.opening) life.ghosts (mapped life.opening (event ∷ before))) (known : AreKnown life.opening life.ghosts before)
    (told : AreToldTruly (home_of_world life.opening) (life_ghosts life.opening life.ghosts before).log (run life.opening before).now) where
  abbrev W : World
  W = run life.opening before

  abbrev N : Now
  N = W.now

  abbrev H : ℕ → ℕ
  H = home_of_world life.opening

  abbrev L : Log
  L = (life_ghosts life.opening life.ghosts before).log

  abbrev L' : Log
  L' = (life_ghosts life.opening life.ghosts (event ∷ before)).log

  all_know : AllKnowBehind life.opening life.ghosts before
  all_know session s found = known_now life.opening life.ghosts before known session s found

  enabled_so : AreEnabled H life.ghosts (mapped life.opening before)
  enabled_so = enabled_until life.opening life.ghosts before event enabled

  -- what is changed in place by the event is of a session's try, and leaves what others copy
  leaves_others : (session : ℕ) (s : SessionState) → slice_get N.sessions session ≡ Some s → is_attempting s.step ≡ true → (at : ℕ) (entry : HistoryEntry) → IsChangedBy W event at
      → KeepsForAttempt H L (log_after H L (Changes at entry)) s.attempt s.attempt.step
  leaves_others session s was attempts at entry by = keeps_by H L (log_after H L (Changes at entry)) s.attempt source_kept
    where
      changing : (by.state.attempt.step ≡ Tries) × (try_changes by.state.attempt.trial.step ≡ Some at)
      changing = sitting_tries by.state by.state.step at by.changes

      source_kept : Copies s.attempt → KeepsSource H L (log_after H L (Changes at entry)) (cell_of s.attempt.trial.request.version.0 s.attempt.trial.append.its_words)
      source_kept copies older = ap value_at (changed_else L at entry (copied H L s.attempt) apart_so)
        where
          makes : Makes s
          makes = record { attempts = attempts; tries = copies.tries; reply = copies.reply; appends = copies.appends }

          apart_so : copied H L s.attempt ≢ at
          apart_so same =
              spares given life opens before enabled_so all_know all_apart by.number by.state by.got (sitting_attempts by.state by.state.step at by.changes) changing.0 at changing.1 session s was makes same
              (subst (λ (x : ℕ). version_at (L.cells x) < (cell_of s.attempt.trial.request.version.0 s.attempt.trial.append.its_words).version) same older)

  module _ (session : ℕ) (s after : SessionState) (was : slice_get N.sessions session ≡ Some s) (is_now : slice_get (run life.opening (event ∷ before)).now.sessions session ≡ Some after) where
    abbrev K : Seat
    K = seat_at N session

    -- the head that it has seen
    rises : head_in s.seen ≤ head_in after.seen
    rises = head_rises life.opening life.start before event session s after life.begins.store.now was is_now

    below : head_in after.seen ≤ L'.fixed
    below = life_head_fixed life.opening life.start life.ghosts (event ∷ before) session after life.begins.store.now life.begins.fixed is_now

    -- no floor lies above the begin, below which all is fixed
    floor_fixed : s.floor.0 ≤ L'.fixed
    floor_fixed =
        let own = (begin.floors session s was).own in
        let up : begin_in W ≤ begin_in (run life.opening (event ∷ before)) = begin_rises life (event ∷ []) before in
        let fixed = begin_fixed life (event ∷ before) in
        omega (arith, own, up, fixed)

    live : is_attempting s.step ≡ true → Live (floor_in s.attempt.pending.request) H L
    live attempting = live_below (begin_in W) (floor_in s.attempt.pending.request) H L ((begin.floors session s was).theirs.attempted attempting) begin.live

    knows : KnowsSo H L s.seen s
    knows =
        both (λ pending. PendingKnows H L pending s.seen) SeeksWhereAsked (λ a. AttemptKnows H L a) AttemptSeeks s (known_now life.opening life.ghosts before known session s was)
        (life_seeks life.opening before session s life.begins.world was)

    waiting : (pending : PendingRequest) → PendingKnows H L pending s.seen → PendingKnows H L' pending s.seen
    waiting pending its = pending_stays life before event pending s.seen enabled its

    -- the attempt, where it makes no step
    trying : is_attempting s.step ≡ true → AttemptKnows H L s.attempt → AttemptKnows H L' s.attempt
    trying attempting its = attempt_stays life before event s.attempt enabled (leaves_others session s was attempting) its

    -- where it makes no step
    stays : KnowsSo H L' s.seen s
    stays =
        stays_known (WaitsSo H L s.seen) (WaitsSo H L' s.seen) (TriesSo H L) (TriesSo H L') s (λ pending its. (waiting pending its.0, its.1)) (λ attempting its. (trying attempting its.0, its.1)) knows

    -- by its step
    module _ (own : is_of_session session event ≡ true) where
      abbrev reply : ℕ
      reply = reply_in N session s

      says : is_attempting s.step ≡ true → s.attempt.step ≡ Tries → IsTrueReply H L N.places s.attempt.trial s.attempt.trial.step reply
      says attempts tries = subst (λ (x : Attempting). IsTrueOfAttempt H L N.places s.attempt x reply) tries (told session s was attempts)

      -- what it changes itself it doesn't copy
      leaves_own : (at : ℕ) (entry : HistoryEntry) → IsChangedBy W event at → KeepsForAttempt H L (log_after H L (Changes at entry)) (attempt_after K s reply) (attempt_after K s reply).step
      leaves_own at entry by = by_try s.attempt.trial.step refl changing.1
        where
          number_same : (x : Event) → x ≡ Moves by.number → is_of_session session x ≡ true → by.number ≡ session
          number_same (Moves number) e is = let one : number ≡ session = eqb-true number session is in let other : number ≡ by.number = cc in sym other ∙ one
          number_same (Calls number call) e is = cc
          number_same x e is = cc

          same : by.state ≡ s
          same = some_same by.state s (sym by.got ∙ (ap (slice_get N.sessions) (number_same event by.moves own) ∙ was))

          changing : (s.attempt.step ≡ Tries) × (try_changes s.attempt.trial.step ≡ Some at)
          changing = subst (λ (x : SessionState). (x.attempt.step ≡ Tries) × (try_changes x.attempt.trial.step ≡ Some at)) same (sitting_tries by.state by.state.step at by.changes)

          needs : ChangesLog (room_of K) s.attempt.trial reply → KeepsForAttempt H L (log_after H L (Changes at entry)) (attempt_after K s reply) (attempt_after K s reply).step
          needs changes = attempt_needs H L (log_after H L (Changes at entry)) K.places (bits_of K) (room_of K) K.number s.attempt reply changing.0 changes

          by_try : (step : Trying) → s.attempt.trial.step ≡ step → try_changes step ≡ Some at → KeepsForAttempt H L (log_after H L (Changes at entry)) (attempt_after K s reply) (attempt_after K s reply).step
          by_try (SwapsValue addr) at_step is = needs (Swaps at_step)
          by_try (ChangesValue addr old) at_step is = needs (ChangesOne at_step)
          by_try step at_step is = none_some at is

      facts : after ≡ session_next K s reply → StepFacts H L L' K s reply
      facts is = record {
        orderly = orderly H life.map L (run_held H life.map life.number life.ghosts (mapped life.opening before) life.begins.log enabled_so);
        inputs = subst (λ (k : Seat). AttemptsSo k s) (sym (same_seat life.opening before session)) (life_attempts life.opening before session s life.begins.world was);
        newest = λ attempting tries. passes given life opens before enabled_so session s was attempting tries (all_know session s was) (all_apart session s was) (says attempting tries);
        marks = λ attempting tries. marks given life opens before enabled_so session s was attempting tries (all_know session s was) (all_apart session s was) (says attempting tries);
        live = live;
        floor = floor_fixed;
        says = λ attempting. told session s was attempting;
        waiting = waiting;
        trying = λ attempting its. attempt_stays life before event (attempt_after K s reply) enabled leaves_own its;
        unlatched = λ index pending got.
            life_unlatched life.opening (event ∷ before) session after index pending life.begins.world life.begins.store.now.buckets is_now (ap (λ (x : SessionState). slice_get x.requests index) is ∙ got);
        plain = λ at. free_by_test s.op (plain_in_hand s at (life_op_kept life.opening life.start before session s life.begins.store.now was));
        caught = λ its at done.
            subst (λ (seen : Seen). head_in seen ≤ L'.fixed) (ap (λ (x : SessionState). x.seen) is ∙ caught_seen K s reply its at done) below;
      }

      replied : after ≡ session_next K s reply → KnowsSo H L' s.seen after
      replied is = subst (KnowsSo H L' s.seen) (sym is) (step_so H L L' K s reply (facts is) knows)

      moved : after ≡ (session_moved K (near N s)).machine → (calm : Bool) → is_calm s.step ≡ calm → KnowsSo H L' s.seen after
      moved is true e = subst (KnowsSo H L' s.seen) (sym is) (calm_known (WaitsSo H L' s.seen) (TriesSo H L') K (near N s) e stays)
      moved is false e = let busy = not_calm s.step e in replied (is ∙ ap (λ (x : Near SessionState). x.machine) (moves_alone life.opening life.start before session s life.begins.store.now was busy.0 busy.1))

      comes : SessionComes W session s after → KnowsSo H L' s.seen after
      comes (Stays is) = subst (KnowsSo H L' s.seen) (sym is) stays
      comes (Begins its idle is) = subst (KnowsSo H L' s.seen) (sym is) (call_so H L' K s its idle (omega (arith, rises, below)) floor_fixed stays)
      comes (Steps is) = moved is (is_calm s.step) refl

    goes : (b : Bool) → is_of_session session event ≡ b → KnowsSo H L' s.seen after
    unfolding run
    goes true own = comes own (session_comes W event session s after was is_now)
    goes false other = subst (KnowsSo H L' s.seen) (sym (some_same after s (sym is_now ∙ (session_apart W event session other ∙ was)))) stays

    -- by the head that it has seen then
    session_knows : SessionKnows H L' after
    session_knows =
        stays_known (WaitsSo H L' s.seen) (λ pending. PendingKnows H L' pending after.seen) (TriesSo H L') (λ a. AttemptKnows H L' a) after
        (λ pending its. pending_later H L' pending s.seen after.seen rises below its.0) (λ attempting its. its.0) (goes (is_of_session session event) refl)

  pub rows_go_on : AllKnowBehind life.opening life.ghosts (event ∷ before)
  unfolding run
  rows_go_on session after is_now =
      let s = there_before W event session after is_now in
      session_knows session s.0 after s.1 is_now
