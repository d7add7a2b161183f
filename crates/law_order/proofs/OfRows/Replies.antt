-- What a session knows of the log before a step, or a call that begins, it knows of the log behind it, by the head that it had seen until then.
use Rattle.std.proofs.Common.{◌≡◌, ℕ, ◌≤◌, ◌∙◌, refl, sym, ap, subst, Bool, true, false}
use Rattle.std.specs.Prelude.{Some, None, if◌then◌else◌, not, slice_get}
use Rattle.fkv_base.specs.declared.faults.Fault.TheVariants as fault
use Rattle.fkv_map.specs.declared.operations.Call.{Call}
use Rattle.fkv_map.specs.declared.operations.Op.{Op}
use Rattle.fkv_map.specs.Map.{IsReserved, is_reserved}
use Rattle.fkv_map.proofs.Shown.{free_by_test}
use Rattle.law_log.specs.Begins.{Live}
use Rattle.law_log.specs.Ghosts.{Log}
use Rattle.law_commit.specs.Below.fkv_ops.Occasion.TheVariants.{Call as AtCall, Poll as AtPoll}
use Rattle.law_commit.specs.Below.fkv_ops.Bounds.{bounds_of}
use Rattle.law_commit.specs.Below.fkv_ops.Seen.{Seen}
use Rattle.law_commit.specs.Below.fkv_pending.TheAttempting.TheVariants.{Tries}
use Rattle.law_commit.specs.Below.fkv_pending.PendingRequest.{PendingRequest}
use Rattle.law_commit.specs.Below.fkv_pending.Attempting.{AttemptState}
use Rattle.law_commit.specs.Below.fkv_pending.Pending.{with_latch}
use Rattle.law_commit.specs.Below.fkv_ops.Requests.{is_read}
use Rattle.fkv_plane.specs.declared.asks.Ask.TheVariants.{Done}
use Rattle.law_commit.specs.Below.fkv_session.CatchCause.{CatchCause}
use Rattle.law_commit.specs.Below.fkv_session.CatchCause.TheVariants.{Shifts}
use Rattle.law_commit.specs.Below.fkv_session.Sitting.{Sitting}
use Rattle.law_commit.specs.Below.fkv_session.Sitting.TheVariants.{Attempts, CatchesUp, Polls}
use Rattle.law_commit.specs.Below.fkv_session.Refused.{is_catching_up}
use Rattle.law_commit.specs.Below.fkv_session.Sessions.{SessionState, Seat, bits_of, room_of, is_busy, is_full, is_spent, refusal_of, request_in_hand, session_begun, session_next}
use Rattle.law_commit.specs.Below.law_local.Sessions.Inputs.{AttemptsBy, AttemptsSo}
use Rattle.law_commit.specs.Below.law_local.Sessions.Known.{IsHandedOver, IsKnownAnew, KnowsRequests, attempt_after, catch_after, catch_comes_to, caught_up_at, is_attempting, is_polling, with_op}
use Rattle.law_commit.proofs.Below.law_local.OfSessions.AttemptInputs.{attempt_goes}
use Rattle.law_commit.proofs.Below.law_local.OfSessions.Known.{begun_known, next_known}
use Rattle.law_commit.specs.Below.law_local.Tries.AttemptRows.{AttemptKnows, IsTrueOfAttempt, PendingKnows}
use Rattle.law_commit.specs.Below.law_local.Tries.HeldRows.{SoughtKnows}
use Rattle.law_commit.specs.Below.law_local.Tries.OnWay.{IsOrderly}
use Rattle.law_commit.specs.Below.law_local.Tries.TryRows.{MarksTell, NoneLaterPast, RequestKnows, floor_in, head_in, key_in}
use Rattle.law_commit.proofs.Below.law_local.OfTries.AttemptSteps.{attempt_begins, attempt_leads}
use Rattle.law_order.specs.Rows.Asked.{SeeksWhereAsked, AttemptSeeks}
use Rattle.law_order.proofs.OfRows.Seeks.{attempt_seeks, attempt_begun_seeks}

never : {X : Type 0} → false ≡ true → X
never e = cc

after_seen : (k : Seat) (s : SessionState) (step : Sitting) (reply : ℕ) → AttemptsBy k s step → is_attempting step ≡ true → (attempt_after k s reply).seen ≡ s.seen
after_seen k s (Attempts has_shifted) reply so e = (attempt_goes (bits_of k) s.seen (AtCall (bounds_of k.shape)) k.places (room_of k) k.number s.attempt reply so.goes).its_seen
after_seen k s (Polls index) reply so e = (attempt_goes (bits_of k) s.seen AtPoll k.places (room_of k) k.number s.attempt reply so.goes).its_seen
after_seen k s step reply so e = cc

not_refused : (s : SessionState) (its : Op) → refusal_of s its ≡ None → is_reserved its ≡ false
not_refused s its e = by_tests s.is_awake (is_reserved its) refl e
  where
    by_tests : (awake reserved : Bool) → is_reserved its ≡ reserved
        → (if not awake then Some fault.Asleep else if reserved then Some fault.ValueReserved else if is_full s.requests then Some fault.PendingFull else if is_spent s its then Some fault.SerialsSpent else None) ≡ None → is_reserved its ≡ false
    by_tests false reserved is e = cc
    by_tests true true is e = cc
    by_tests true false is e = is

-- ---- what is known of a log, and that reads which have asked seek a record
module _ (home : ℕ → ℕ) where
  abbrev pub WaitsSo : Log → Seen → PendingRequest → Type 0
  WaitsSo log seen pending = PendingKnows home log pending seen × SeeksWhereAsked pending

  abbrev pub TriesSo : Log → AttemptState → Type 0
  TriesSo log a = AttemptKnows home log a × AttemptSeeks a

  abbrev pub KnowsSo : Log → Seen → SessionState → Type 0
  KnowsSo log seen s = KnowsRequests (WaitsSo log seen) (TriesSo log) s

  -- of a request that waits, whatever latch it has
  record WaitsFree (log : Log) (seen : Seen) (pending : PendingRequest) : Type 0 where
    request : RequestKnows home log pending.request seen
    sought : SoughtKnows home log (floor_in pending.request) (key_in pending.request) (head_in seen) pending.sought
    seeks : SeeksWhereAsked pending

  free_latch : (log : Log) (seen : Seen) (pending : PendingRequest) → WaitsFree log seen pending → WaitsFree log seen (with_latch pending true)
  unfolding with_latch
  free_latch log seen pending its = record { request = record { plain = its.request.plain; low = its.request.low; low_floor = its.request.low_floor; held = its.request.held }; sought = its.sought; seeks = its.seeks }

  -- ---- an attempt begins
  hands_over : (log : Log) (k : Seat) (seen : Seen) → IsHandedOver k seen (WaitsSo log seen) (TriesSo log)
  hands_over log k seen pending spare is_orphaned knows = (
    attempt_begins home log k.places (bits_of k) pending seen AtPoll spare is_orphaned knows.0 (λ read asked. (refl, knows.1 read asked)),
    attempt_begun_seeks k.places (bits_of k) pending seen AtPoll spare is_orphaned knows.1,
  )

  begins_anew : (log : Log) (k : Seat) (s : SessionState) (seen : Seen) → (IsReserved s.op → ⊥) → head_in seen ≤ log.fixed → s.floor.0 ≤ log.fixed → IsKnownAnew k (request_in_hand s) seen (TriesSo log)
  begins_anew log k s seen plain low floor spare is_orphaned = (
    attempt_begins home log k.places (bits_of k) (request_in_hand s) seen (AtCall (bounds_of k.shape)) spare is_orphaned (record { request = record { plain = plain; low = low; low_floor = floor; held = tt }; sought = tt; unlatched = λ read. refl }) (λ read asked. never asked),
    attempt_begun_seeks k.places (bits_of k) (request_in_hand s) seen (AtCall (bounds_of k.shape)) spare is_orphaned (λ read asked. never asked),
  )

  -- ---- a call begins
  pub call_so : (log : Log) (k : Seat) (s : SessionState) (its : Call) → is_busy s.step ≡ false → head_in s.seen ≤ log.fixed → s.floor.0 ≤ log.fixed → KnowsSo log s.seen s → KnowsSo log s.seen (session_begun k s its)
  call_so log k s its idle low floor knows =
      begun_known (WaitsSo log s.seen) (TriesSo log) k s its idle knows
      (record {
        calls = λ made is none. begins_anew log k (with_op s made) s.seen (free_by_test made (not_refused s made none)) low floor;
        polls = λ is awake. hands_over log k s.seen;
      })

  -- ---- a session makes its ask: what is given of the log before the step and of the one behind it
  module _ (log log' : Log) (k : Seat) (s : SessionState) (reply : ℕ) where
    pub record StepFacts : Type 0 where
      pub orderly : IsOrderly home log
      pub inputs : AttemptsSo k s
      pub newest : is_attempting s.step ≡ true → s.attempt.step ≡ Tries → NoneLaterPast home log k.places s.attempt.trial reply
      pub marks : is_attempting s.step ≡ true → s.attempt.step ≡ Tries → MarksTell log k.places s.attempt.trial reply
      -- the log does without what lies below the floor of what is attempted, and all below the session's is fixed
      pub live : is_attempting s.step ≡ true → Live (floor_in s.attempt.pending.request) home log
      pub floor : s.floor.0 ≤ log'.fixed
      pub says : is_attempting s.step ≡ true → IsTrueOfAttempt home log k.places s.attempt s.attempt.step reply
      -- what is known stays
      pub waiting : (pending : PendingRequest) → PendingKnows home log pending s.seen → PendingKnows home log' pending s.seen
      pub trying : is_attempting s.step ≡ true → AttemptKnows home log (attempt_after k s reply) → AttemptKnows home log' (attempt_after k s reply)
      -- no read takes a latch, and where the call in hand begins anew it may
      pub unlatched : (index : ℕ) (pending : PendingRequest) → slice_get (session_next k s reply).requests index ≡ Some pending → is_read pending.request.op ≡ true → pending.request.has_latch ≡ false
      pub plain : s.step ≡ CatchesUp Shifts → IsReserved s.op → ⊥
      pub caught : (its : Unit {0}) → s.step ≡ CatchesUp Shifts → catch_comes_to k s reply ≡ Done its → head_in (catch_after k s reply).seen ≤ log'.fixed

    module _ (facts : StepFacts) (knows : KnowsSo log s.seen s) where
      goes : (attempting : is_attempting s.step ≡ true) → TriesSo log s.attempt → TriesSo log' (attempt_after k s reply)
      goes attempting its = (
        facts.trying attempting
            (attempt_leads home log k.places (bits_of k) (room_of k) k.number s.attempt reply facts.orderly (facts.live attempting) (facts.newest attempting) (facts.marks attempting) its.0 (facts.says attempting)),
        attempt_seeks k.places (bits_of k) (room_of k) k.number s.attempt reply its.1,
      )

      left : (attempting : is_attempting s.step ≡ true) → TriesSo log' (attempt_after k s reply) → WaitsSo log' s.seen (attempt_after k s reply).pending
      left attempting its = (subst (λ (seen : Seen). PendingKnows home log' (attempt_after k s reply).pending seen) (after_seen k s s.step reply facts.inputs attempting) its.0.pending, its.1.pending)

      no_catch : {X : Type 0} (cause : CatchCause) → is_catching_up s.step ≡ false → s.step ≡ CatchesUp cause → X
      no_catch cause other at = never (sym other ∙ ap is_catching_up at)

      moves_so : is_catching_up s.step ≡ false → KnowsSo log' s.seen (session_next k s reply)
      moves_so other =
          next_known (WaitsSo log s.seen) (WaitsSo log' s.seen) (TriesSo log) (TriesSo log') k s reply knows
          (record {
            waits = λ pending its. (facts.waiting pending its.0, its.1);
            attempts = λ attempting its. goes attempting its;
            accepts = λ has_shifted told at comes accepted after. left (ap is_attempting at) after;
            keeps = λ index told at comes waits after. left (ap is_attempting at) after;
            hands_over = λ polling. hands_over log' k s.seen;
            begins_anew = λ its at done. no_catch Shifts other at;
            latches = λ cause pending at its. no_catch cause other at;
          })

      -- in catching up updates take latches
      caught_so : (cause : CatchCause) → s.step ≡ CatchesUp cause → KnowsSo log' s.seen (session_next k s reply)
      caught_so cause at = record {
        waiting = λ index pending got other.
            let free : WaitsFree log' s.seen pending = frees.waiting index pending got other in
            (record { request = free.request; sought = free.sought; unlatched = facts.unlatched index pending got }, free.seeks);
        attempted = tries.attempted;
      }
        where
          not_so : {X : Type 0} (step : Sitting) → s.step ≡ step → is_catching_up step ≡ false → X
          not_so step e other = never (sym other ∙ (ap is_catching_up (sym e) ∙ ap is_catching_up at))

          frees : KnowsRequests (WaitsFree log' s.seen) (λ a. Unit {0}) (session_next k s reply)
          frees =
              next_known (WaitsSo log s.seen) (WaitsFree log' s.seen) (TriesSo log) (λ a. Unit {0}) k s reply knows
              (record {
                waits = λ pending its. let stays = facts.waiting pending its.0 in record { request = stays.request; sought = stays.sought; seeks = its.1 };
                attempts = λ attempting its. tt;
                accepts = λ has_shifted told e comes accepted after. not_so (Attempts has_shifted) e refl;
                keeps = λ index told e comes waits after. not_so (Polls index) e refl;
                hands_over = λ polling. never (sym (ap is_polling at) ∙ polling);
                begins_anew = λ its shifts done spare is_orphaned. tt;
                latches = λ cause pending e its. free_latch log' s.seen pending its;
              })

          tries : KnowsRequests (λ pending. Unit {0}) (TriesSo log') (session_next k s reply)
          tries =
              next_known (WaitsSo log s.seen) (λ pending. Unit {0}) (TriesSo log) (TriesSo log') k s reply knows
              (record {
                waits = λ pending its. tt;
                attempts = λ attempting its. never (sym (ap is_attempting at) ∙ attempting);
                accepts = λ has_shifted told e comes accepted after. tt;
                keeps = λ index told e comes waits after. tt;
                hands_over = λ polling. never (sym (ap is_polling at) ∙ polling);
                begins_anew = λ its shifts done. begins_anew log' k (caught_up_at k s reply) (catch_after k s reply).seen (facts.plain shifts) (facts.caught its shifts done) facts.floor;
                latches = λ cause pending e its. tt;
              })

      by_step : (step : Sitting) → s.step ≡ step → KnowsSo log' s.seen (session_next k s reply)
      by_step (CatchesUp cause) at = caught_so cause at
      by_step step at = moves_so (ap is_catching_up at)

      pub step_so : KnowsSo log' s.seen (session_next k s reply)
      step_so = by_step s.step refl
