-- What a session knows of versions goes on by each reply to it and each call that begins.
use Rattle.std.proofs.Common.{◌≡◌, ◌≢◌, ℕ, refl, sym, ap, ◌∙◌, subst, true, false, Some, None, List}
use Rattle.std.specs.Prelude.{slice_get}
use Rattle.fkv_map.specs.declared.operations.Call.{Call}
use Rattle.fkv_plane.specs.declared.asks.Ask.{Ask}
use Rattle.fkv_plane.specs.declared.asks.Ask.TheVariants.{Done}
use Rattle.fkv_plane.specs.declared.places.Places.{Places}
use Rattle.fkv_plane.specs.Passing.{is_done, passed}
use Rattle.law_log.specs.Chains.{VersionsFall}
use Rattle.law_log.specs.Ghosts.{Log}
use Rattle.law_local.specs.Below.fkv_ops.TryAnswer.{TryAnswer}
use Rattle.law_local.specs.Below.fkv_ops.TryAnswer.TheVariants as answer
use Rattle.law_local.specs.Below.fkv_ops.Occasion.TheVariants.{Call as AtCall, Poll as AtPoll}
use Rattle.law_local.specs.Below.fkv_ops.Bounds.{bounds_of}
use Rattle.law_local.specs.Below.fkv_ops.Seen.{Seen}
use Rattle.law_local.specs.Below.fkv_ops.Trying.{is_prepare, try_ask, try_next}
use Rattle.law_local.specs.Below.fkv_pending.TheAttempting.{Attempting}
use Rattle.law_local.specs.Below.fkv_pending.TheAttempting.TheVariants.{Ended, Looks, Puts, Tries}
use Rattle.law_local.specs.Below.fkv_pending.PendingRequest.{PendingRequest}
use Rattle.law_local.specs.Below.fkv_pending.Attempting.{AttemptState, attempt_ask, attempt_next, attempting_ask}
use Rattle.law_local.specs.Below.fkv_pending.Pending.{with_latch}
use Rattle.law_local.specs.Below.fkv_session.Catching.{Catching}
use Rattle.law_local.specs.Below.fkv_session.Catching.TheVariants.{Latches}
use Rattle.law_local.specs.Below.fkv_session.CatchCause.{CatchCause}
use Rattle.law_local.specs.Below.fkv_session.CatchCause.TheVariants.{Shifts}
use Rattle.law_local.specs.Below.fkv_session.Sitting.{Sitting}
use Rattle.law_local.specs.Below.fkv_session.Sitting.TheVariants.{Attempts, CatchesUp, Polls}
use Rattle.law_local.specs.Below.fkv_session.CatchingUp.{CatchState, catch_requests, catching_requests}
use Rattle.law_local.specs.Below.fkv_session.Refused.{is_catching_up}
use Rattle.law_local.specs.Below.fkv_session.Sessions.{SessionState, Seat, bits_of, is_busy, request_in_hand, room_of, session_begun, session_next}
use Rattle.law_local.specs.Sessions.Known.{IsHandedOver, IsKnownAnew, KnowsRequests, attempt_after, attempt_comes_to, catch_after, caught_up_at, is_attempting, is_polling, with_op}
use Rattle.law_local.specs.Sessions.Moves.{requests_at}
use Rattle.law_local.specs.Tries.AttemptRows.{AttemptKnows, IsTrueOfAttempt}
use Rattle.law_local.specs.Tries.OnWay.{IsOrderly}
use Rattle.law_local.specs.Tries.TryRows.{NoneIsLater, TryKnows, key_in}
use Rattle.law_local.proofs.OfSessions.Known.{begun_known, next_known, stays_known}
use Rattle.law_local.proofs.OfSessions.Moves.{next_requests}
use Rattle.law_apart.specs.Apart.Rows.{AttemptApart, PendingApart, SessionApart, TellsPhase, TellsSharer, VersionsNear}
use Rattle.law_apart.proofs.OfApart.Attempts.{attempt_apart, attempt_begins_apart, latch_apart}

never : {X : Type 0} → false ≡ true → X
never e = cc

-- what asks goes on asking, by whatever passes it on
passes_on : {A B : Type 0} {X : Type 0} (ask : Ask A) (a its : B) → is_done ask ≡ false → passed ask a ≡ Done its → X
unfolding passed
passes_on (Done inner) a its asks e = cc
passes_on ask a its asks e = cc

module _ (home : ℕ → ℕ) (k : Seat) where
  abbrev Waits : Log → PendingRequest → Type 0
  Waits log pending = PendingApart home log pending

  abbrev Tried : Log → AttemptState → Type 0
  Tried log a = AttemptApart home k.places log a a.step

  abbrev Knows : Log → SessionState → Type 0
  Knows log s = SessionApart home k.places log s

  -- an attempt that is at its end has its request
  left_apart : (log : Log) (a : AttemptState) (step : Attempting) (its : TryAnswer) → attempting_ask k.places k.number a step ≡ Done its → AttemptApart home k.places log a step → Waits log a.pending
  unfolding attempting_ask
  left_apart log a Tries its e apart = passes_on (try_ask k.places a.trial) answer.Shift its apart.1 e
  left_apart log a (Ended told) its e apart = apart
  left_apart log a Looks its e apart = apart
  left_apart log a Puts its e apart = apart

  -- ---- an attempt begins
  hands_over : (log : Log) (seen : Seen) → IsHandedOver k seen (Waits log) (Tried log)
  hands_over log seen pending spare is_orphaned waits = attempt_begins_apart home k.places log (bits_of k) pending seen AtPoll spare is_orphaned waits

  begins_anew : (log : Log) (s : SessionState) (seen : Seen) → IsKnownAnew k (request_in_hand s) seen (Tried log)
  begins_anew log s seen spare is_orphaned = attempt_begins_apart home k.places log (bits_of k) (request_in_hand s) seen (AtCall (bounds_of k.shape)) spare is_orphaned (λ latched. never latched)

  -- ---- a call begins
  pub call_apart : (log : Log) (s : SessionState) (its : Call) → is_busy s.step ≡ false → Knows log s → Knows log (session_begun k s its)
  call_apart log s its idle knows = begun_known (Waits log) (Tried log) k s its idle knows (record { calls = λ made is none. begins_anew log (with_op s made) s.seen; polls = λ is awake. hands_over log s.seen })

  -- ---- a session makes its ask: what is given of the log before the step and of the one behind it
  module _ (log log' : Log) (s : SessionState) (reply : ℕ) where
    pub record ApartFacts : Type 0 where
      pub orderly : IsOrderly home log
      pub falls : (h : ℕ) → VersionsFall log.cells (log.chains h)
      pub near : is_attempting s.step ≡ true → s.attempt.step ≡ Tries → VersionsNear log s.attempt.trial
      pub attempt : is_attempting s.step ≡ true → AttemptKnows home log s.attempt
      pub says : is_attempting s.step ≡ true → IsTrueOfAttempt home log k.places s.attempt s.attempt.step reply
      pub tells : is_attempting s.step ≡ true → s.attempt.step ≡ Tries → TellsSharer home log k.places s.attempt.trial reply
      pub phase : is_attempting s.step ≡ true → s.attempt.step ≡ Tries → TellsPhase home log s.attempt.trial reply
      pub leads : is_attempting s.step ≡ true → s.attempt.step ≡ Tries → TryKnows home log (try_next k.places (room_of k) s.attempt.trial reply)
      -- what is known stays
      pub waiting : (index : ℕ) (pending : PendingRequest) → slice_get s.requests index ≡ Some pending → s.step ≢ Polls index → Waits log pending → Waits log' pending
      pub trying : is_attempting s.step ≡ true → Tried log (attempt_after k s reply) → Tried log' (attempt_after k s reply)
      -- as it takes up prepare, each request that waits has none later in its home
      pub latches : (cause : CatchCause) (i : ℕ) → s.step ≡ CatchesUp cause → s.catching.step ≡ Latches i → (index : ℕ) (pending : PendingRequest) → slice_get s.requests index ≡ Some pending → NoneIsLater home log' pending.request

    module _ (facts : ApartFacts) (knows : Knows log s) where
      -- what waits then
      waits_then : KnowsRequests (Waits log') (Tried log) s
      waits_then = record { waiting = λ index pending got other. facts.waiting index pending got other (knows.waiting index pending got other); attempted = knows.attempted }

      goes : (attempting : is_attempting s.step ≡ true) → Tried log s.attempt → Tried log' (attempt_after k s reply)
      goes attempting its =
          facts.trying attempting
          (attempt_apart home k.places log (bits_of k) (room_of k) k.number s.attempt reply facts.orderly (facts.falls (home (key_in s.attempt.trial.request))) (facts.near attempting) (facts.tells attempting) (facts.phase attempting) (facts.leads attempting) (facts.attempt attempting) (facts.says attempting) its)

      left : (its : TryAnswer) → attempt_comes_to k s reply ≡ Done its → Tried log' (attempt_after k s reply) → Waits log' (attempt_after k s reply).pending
      left its e after = left_apart log' (attempt_after k s reply) (attempt_after k s reply).step its e after

      no_catch : {X : Type 0} (cause : CatchCause) → is_catching_up s.step ≡ false → s.step ≡ CatchesUp cause → X
      no_catch cause other at = never (sym other ∙ ap is_catching_up at)

      moves_apart : is_catching_up s.step ≡ false → Knows log' (session_next k s reply)
      moves_apart other =
          next_known (Waits log') (Waits log') (Tried log) (Tried log') k s reply waits_then
          (record {
            waits = λ pending its. its;
            attempts = λ attempting its. goes attempting its;
            accepts = λ has_shifted told at comes accepted after. left told comes after;
            keeps = λ index told at comes waits after. left told comes after;
            hands_over = λ polling. hands_over log' s.seen;
            begins_anew = λ its at done. no_catch Shifts other at;
            latches = λ cause pending at its. no_catch cause other at;
          })

      -- ---- in catching up
      module _ (cause : CatchCause) (at : s.step ≡ CatchesUp cause) where
        not_so : {X : Type 0} (step : Sitting) → s.step ≡ step → is_catching_up step ≡ false → X
        not_so step e other = never (sym other ∙ (ap is_catching_up (sym e) ∙ ap is_catching_up at))

        idle : {X : Type 0} → is_attempting s.step ≡ true → X
        idle attempting = never (sym (ap is_attempting at) ∙ attempting)

        no_poll : {X : Type 0} → is_polling s.step ≡ true → X
        no_poll polling = never (sym (ap is_polling at) ∙ polling)

        -- whatever is known of what waits, if it goes on as a latch is taken
        catches : (P : PendingRequest → Type 0) → ((pending : PendingRequest) → P pending → P (with_latch pending true)) → ((index : ℕ) (pending : PendingRequest) → slice_get s.requests index ≡ Some pending → P pending)
            → KnowsRequests P (Tried log') (session_next k s reply)
        catches P latches all =
            next_known P P (Tried log) (Tried log') k s reply (record { waiting = λ index pending got other. all index pending got; attempted = λ attempting. idle attempting })
            (record {
              waits = λ pending its. its;
              attempts = λ attempting its. idle attempting;
              accepts = λ has_shifted told e comes accepted after. not_so (Attempts has_shifted) e refl;
              keeps = λ index told e comes waits after. not_so (Polls index) e refl;
              hands_over = λ polling. no_poll polling;
              begins_anew = λ its shifts done. begins_anew log' (caught_up_at k s reply) (catch_after k s reply).seen;
              latches = λ why pending e its. latches pending its;
            })

        -- the requests take their latches
        latched_apart : (i : ℕ) → s.catching.step ≡ Latches i → Knows log' (session_next k s reply)
        unfolding with_latch
        latched_apart i takes =
            stays_known (λ pending. NoneIsLater home log' pending.request) (Waits log') (Tried log') (Tried log') (session_next k s reply) (λ pending none has. none) (λ attempting its. its)
            (catches (λ pending. NoneIsLater home log' pending.request) none_on (facts.latches cause i at takes))
          where
            none_on : (pending : PendingRequest) → NoneIsLater home log' pending.request → NoneIsLater home log' (with_latch pending true).request
            none_on pending none = none

        -- or they stay
        kept_apart : catch_requests s.catching s.requests reply ≡ s.requests → Knows log' (session_next k s reply)
        kept_apart kept = record {
          waiting = λ index pending got other.
              waits_then.waiting index pending (sym (ap (λ (requests : List PendingRequest). slice_get requests index) same) ∙ got) (λ e. not_so (Polls index) e refl);
          attempted = (catches (λ pending. Unit {0}) (λ pending its. tt) (λ index pending got. tt)).attempted;
        }
          where
            same : (session_next k s reply).requests ≡ s.requests
            same = next_requests k s reply ∙ (ap (λ (step : Sitting). requests_at k s step reply) at ∙ kept)

        caught_apart : Knows log' (session_next k s reply)
        unfolding catching_requests
        caught_apart = by_step s.catching.step refl
          where
            none_taken : (c : CatchState) (requests : List PendingRequest) (step : Catching) → c.step ≡ step → ((i : ℕ) → step ≡ Latches i → Knows log' (session_next k s reply)) → (catching_requests c requests step reply ≡ requests → Knows log' (session_next k s reply)) → Knows log' (session_next k s reply)
            none_taken c requests (Latches i) e takes kept = takes i refl
            none_taken c requests step e takes kept = kept refl

            by_step : (step : Catching) → s.catching.step ≡ step → Knows log' (session_next k s reply)
            by_step step e = none_taken s.catching s.requests step e (λ i is. latched_apart i (e ∙ is)) (λ kept. kept_apart (ap (λ (x : Catching). catching_requests s.catching s.requests x reply) e ∙ kept))

      by_sitting : (step : Sitting) → s.step ≡ step → Knows log' (session_next k s reply)
      by_sitting (CatchesUp cause) at = caught_apart cause at
      by_sitting step at = moves_apart (ap is_catching_up at)

      pub step_apart : Knows log' (session_next k s reply)
      step_apart = by_sitting s.step refl
