-- By an event of a session its updates go on to share their latches just from prepare of their versions on.
use Rattle.std.proofs.Common.{◌≡◌, ◌⊎◌, inl, inr, ℕ, zero, suc, ◌<◌, ◌≤◌, ◌∙◌, refl, arith, ap, sym, subst, List, [], ◌∷◌, Bool, true, false}
use Rattle.std.specs.Prelude.{⊤, Some, None, nat_lt, slice_get}
use Rattle.std.proofs.lemmas.Bool.Decides.{nat_tests}
use Rattle.fkv_map.specs.declared.operations.Call.{Call}
use Rattle.law_refine.specs.Below.fkv_ops.TryAnswer.{TryAnswer}
use Rattle.law_refine.specs.Below.fkv_ops.TryAnswer.TheVariants as tried
use Rattle.law_refine.specs.Below.fkv_ops.Occasion.TheVariants.{Call as AtCall, Poll as AtPoll}
use Rattle.law_refine.specs.Below.fkv_ops.Seen.{Seen}
use Rattle.law_refine.specs.Below.fkv_ops.Requests.{is_read}
use Rattle.law_refine.specs.Below.fkv_ops.Trying.{is_prepare, is_wait}
use Rattle.law_refine.specs.Below.fkv_pending.PendingRequest.{PendingRequest}
use Rattle.law_refine.specs.Below.fkv_pending.TheAttempting.{Attempting}
use Rattle.law_refine.specs.Below.fkv_pending.Attempting.{attempt_begun}
use Rattle.law_refine.specs.Below.fkv_pending.Pending.{with_latch}
use Rattle.fkv_plane.specs.declared.actions.Action.{Action}
use Rattle.fkv_plane.specs.declared.asks.Ask.{Ask}
use Rattle.fkv_plane.specs.declared.asks.Ask.TheVariants.{Done}
use Rattle.law_refine.specs.Below.fkv_session.Catching.{Catching}
use Rattle.law_refine.specs.Below.fkv_session.Catching.TheVariants.{Ended, Finishes, Latches, Protects, Refreshes as LoadsAll, StoresCut as StoresCutWord, StoresOwing as StoresOwingWord}
use Rattle.law_refine.specs.Below.fkv_session.CatchCause.{CatchCause}
use Rattle.law_refine.specs.Below.fkv_session.CatchCause.TheVariants.{Refreshes, Shifts, Wakes}
use Rattle.law_refine.specs.Below.fkv_session.Sitting.{Sitting}
use Rattle.law_refine.specs.Below.fkv_session.Sitting.TheVariants.{Attempts, CatchesUp, ClearsMail, Idle, Leaves, LoadsDurable, Polls, StoresCut, StoresOwing, Turns}
use Rattle.law_refine.specs.Below.fkv_session.SessionRun.{Begins, Gets, Replies, SessionEvent, begins, session_happens}
use Rattle.law_refine.specs.Below.fkv_session.Sessions.{Seat, SessionState, asks_after, attempts, bits_of, catch_ledto, caught, is_busy, is_finished, is_word_ask, request_in_hand, session_ask, session_begun, session_given, session_next, sitting_given, sitting_next}
use Rattle.law_refine.specs.Below.fkv_session.Shares.{AllUpdatesShare, HasItsBuckets, is_shift}
use Rattle.law_refine.specs.Below.fkv_session.Versions.{IsVersion}
use Rattle.law_refine.proofs.Below.fkv_session.Shown.{StepLatched, attempt_ends}
use Rattle.law_refine.specs.Below.law_local.Sessions.Known.{KnowsRequests, attempt_after, attempt_comes_to, catch_after, caught_up_at, is_accepted, is_attempting, is_polling, with_op}
use Rattle.law_refine.proofs.Below.law_local.OfSessions.Known.{begun_known, given_known, next_known, stays_known}
use Rattle.law_commit.specs.Shares.Since.{HasPrepared}
use Rattle.law_commit.specs.Shares.Waiting.{is_shifted, shifts_at, shifts_by}
use Rattle.law_commit.proofs.Goes.{call_calm, given_on, moves_on}
use Rattle.law_commit.proofs.Sights.{IsPlain, idle_plain}
use Rattle.law_commit.proofs.OfQuiet.Sessions.{shifted_seen}
use Rattle.law_commit.proofs.OfShares.AttemptsSince.{IsAttemptSharing, IsOlder, IsSharing, KnowsSharing, attempt_sharing, begun_sharing, left_full, polled_sharing}
use Rattle.law_commit.proofs.OfShares.Onward.{IsOnward}
use Rattle.law_commit.proofs.OfShares.CatchesSince.{IsLatching, TakesPrepare, catch_takes, none_stay, stay_caught, takes_so}
use Rattle.law_refine.specs.Below.fkv_ops.Bounds.{bounds_of}

-- ---- how what is seen goes on
-- only from prepare a version is left
abbrev pub LeavesSo : Seen → Seen → Type 0
LeavesSo seen after = (after.version.0 ≡ seen.version.0) ⊎ (is_prepare seen.phase ≡ true)

-- what has come to prepare stays so
same_or_less : (low high : ℕ) → low ≤ high → (high ≡ low) ⊎ (low < high)
same_or_less low high up = by_test (nat_lt low high) refl
  where
    by_test : (b : Bool) → nat_lt low high ≡ b → (high ≡ low) ⊎ (low < high)
    by_test true e = inr (grind (arith, nat_tests, e))
    by_test false e = let down : high ≤ low = grind (arith, nat_tests, e) in inl (omega (arith, up, down))

pub prepared_on : (seen after : Seen) (version : ℕ) → IsOnward seen after → version ≤ seen.version.0 → HasPrepared seen version → HasPrepared after version
prepared_on seen after version on upto (inr less) = let up = on.rises in inr (omega (arith, less, up))
prepared_on seen after version on upto (inl prepares) = elim (same_or_less seen.version.0 after.version.0 on.rises) [
  | inl same ↦ inl (on.stays same prepares)
  | inr later ↦ inr (omega (arith, upto, later))
]

-- and what comes to it by a later version had come to it before
prepared_back : (seen after : Seen) (version : ℕ) → LeavesSo seen after → version < after.version.0 → HasPrepared seen version
prepared_back seen after version leaves less = elim leaves [
  | inl same ↦ inr (omega (arith, less, same))
  | inr prepares ↦ inl prepares
]

-- ---- what is known of a session
-- it takes up prepare
abbrev pub SitsTaking : SessionState → Sitting → Type 0
SitsTaking s (CatchesUp cause) = TakesPrepare s.catching s.catching.step
SitsTaking s step = ⊥

plain_takes : (s : SessionState) (step : Sitting) → IsPlain step → SitsTaking s step → ⊥
plain_takes s (CatchesUp cause) plain takes = plain
plain_takes s (Idle told) plain takes = takes
plain_takes s (Attempts has_shifted) plain takes = takes
plain_takes s ClearsMail plain takes = takes
plain_takes s (Polls i) plain takes = takes
plain_takes s (StoresOwing i) plain takes = takes
plain_takes s (Turns told) plain takes = takes
plain_takes s StoresCut plain takes = takes
plain_takes s Leaves plain takes = takes
plain_takes s LoadsDurable plain takes = takes

-- since less, or since more
since_map : (unshifted : Bool) (seen : Seen) (T U : Type 0) (p : PendingRequest) → (T → U) → IsSharing unshifted seen T p → IsSharing unshifted seen U p
since_map unshifted seen T U p so sharing = λ updates.
    record { upto = (sharing updates).upto; only = λ has. elim ((sharing updates).only has) [ inl prepared ↦ inl prepared | inr t ↦ inr (so t) ]; since = (sharing updates).since }

latched_sharing : (unshifted : Bool) (seen : Seen) (T : Type 0) (p : PendingRequest) → T → IsSharing unshifted seen T p → IsSharing unshifted seen T (with_latch p true)
unfolding with_latch
latched_sharing unshifted seen T p t sharing = λ updates. record { upto = (sharing updates).upto; only = λ has. inr t; since = λ c. refl }

-- as what it has taken up is what it goes by
caught_sharing : (unshifted : Bool) (seen after : Seen) (T : Type 0) (p : PendingRequest) → IsOnward seen after → LeavesSo seen after → (T → is_prepare after.phase ≡ true) → (unshifted ≡ true → is_prepare after.phase ≡ true → is_read p.request.op ≡ false → p.request.has_latch ≡ true)
    → IsSharing unshifted seen T p → IsSharing unshifted after ⊥ p
caught_sharing unshifted seen after T p on leaves takes shares sharing updates =
    let its = sharing updates in
    let up = on.rises in
    let upto = its.upto in
    record {
      upto = omega (arith, up, upto);
      only = λ has. elim (its.only has) [ inl prepared ↦ inl (prepared_on seen after p.request.version.0 on upto prepared) | inr t ↦ inl (inl (takes t)) ];
      since = λ c. elim c.1 [ inl prepares ↦ shares c.0 prepares updates | inr less ↦ its.since (c.0, prepared_back seen after p.request.version.0 leaves less) ];
    }

-- ---- the update of a call
hand_older : (unshifted : Bool) (s : SessionState) → IsVersion s.seen.version.0 → IsOlder unshifted s.seen (request_in_hand s)
hand_older unshifted s fits updates =
    let some = fits.0 in
    let few = fits.1 in
    record { upto = omega (arith, some, few); only = λ has. cc; since = λ c. (let less = c.1 in absurd (omega (arith, less, some, few))) }

none_in : {X : Type 0} (index : ℕ) (p : PendingRequest) → slice_get [] index ≡ Some p → X
none_in index p got = cc

module _ (k : Seat) (its : HasItsBuckets k) (unshifted : Bool) where
  abbrev pub Waits : SessionState → PendingRequest → Type 0
  Waits s p = IsSharing unshifted s.seen (SitsTaking s s.step) p

  abbrev pub Knows : SessionState → Type 0
  Knows s = KnowsRequests (Waits s) (IsAttemptSharing k its unshifted s.seen) s

  abbrev Plainly : Seen → SessionState → Type 0
  Plainly seen s = KnowsRequests (IsSharing unshifted seen ⊥) (IsAttemptSharing k its unshifted seen) s

  plain_known : (s : SessionState) → IsPlain s.step → Knows s → Plainly s.seen s
  plain_known s plain knows =
      stays_known (Waits s) (IsSharing unshifted s.seen ⊥) (IsAttemptSharing k its unshifted s.seen) (IsAttemptSharing k its unshifted s.seen) s (λ p so. since_map unshifted s.seen (SitsTaking s s.step) ⊥ p (plain_takes s s.step plain) so) (λ attempting so. so) knows

  known_plainly : (s : SessionState) (seen : Seen) → s.seen ≡ seen → Plainly seen s → Knows s
  known_plainly s seen same knows =
      let here : Plainly s.seen s = subst (λ (x : Seen). Plainly x s) (sym same) knows in
      stays_known (IsSharing unshifted s.seen ⊥) (Waits s) (IsAttemptSharing k its unshifted s.seen) (IsAttemptSharing k its unshifted s.seen) s (λ p so. since_map unshifted s.seen ⊥ (SitsTaking s s.step) p (λ never. absurd never) so) (λ attempting so. so) here

  -- ---- a reply where it doesn't catch up
  hand_sharing : (s : SessionState) → IsVersion s.seen.version.0 → (spare : ℕ) (is_orphaned : Bool) → IsAttemptSharing k its unshifted s.seen (attempt_begun k.places (bits_of k) (request_in_hand s) s.seen (AtCall (bounds_of k.shape)) spare is_orphaned)
  hand_sharing s fits spare is_orphaned = begun_sharing k its unshifted s.seen (request_in_hand s) (AtCall (bounds_of k.shape)) spare is_orphaned (λ asked. cc) (hand_older unshifted s fits)

  call_waits : (s : SessionState) (has_shifted : Bool) (reply : ℕ) (found : TryAnswer) → shifts_at k s (Attempts has_shifted) reply ≡ false → attempt_comes_to k s reply ≡ Done found → is_accepted has_shifted found ≡ true → is_wait found ≡ true
  call_waits s has_shifted reply (tried.Wait why) none comes accepted = refl
  call_waits s has_shifted reply (tried.AwaitsDisk sought) none comes accepted = refl
  call_waits s true reply tried.Shift none comes accepted = let clash : is_shifted (Done tried.Shift) ≡ false = subst (λ (ask : Ask TryAnswer). is_shifted ask ≡ false) comes none in cc
  call_waits s has_shifted reply found none comes accepted = cc

  poll_waits : (s : SessionState) (i reply : ℕ) (found : TryAnswer) → shifts_at k s (Polls i) reply ≡ false → attempt_comes_to k s reply ≡ Done found → is_finished found ≡ false → is_wait found ≡ true
  poll_waits s i reply found none comes waits = by_found found (subst (λ (ask : Ask TryAnswer). is_shift ask ≡ false) comes none) waits
    where
      by_found : (its : TryAnswer) → is_shift (Done its) ≡ false → is_finished its ≡ false → is_wait its ≡ true
      by_found (tried.Done reply) none waits = cc
      by_found (tried.Found value) none waits = cc
      by_found tried.Absent none waits = cc
      by_found (tried.Wait why) none waits = refl
      by_found (tried.AwaitsDisk sought) none waits = refl
      by_found tried.Shift none waits = cc
      by_found tried.IndexFull none waits = cc
      by_found tried.LogFull none waits = cc

  -- what is left of the attempt goes on waiting
  left_sharing : (s : SessionState) (reply : ℕ) (found : TryAnswer) → attempt_comes_to k s reply ≡ Done found → (unshifted ≡ true → is_wait found ≡ true) → IsAttemptSharing k its unshifted s.seen (attempt_after k s reply)
      → IsSharing unshifted s.seen ⊥ (attempt_after k s reply).pending
  left_sharing s reply found comes waits so =
      let at = attempt_ends k.places k.number (attempt_after k s reply) found so.rests comes in
      left_full unshifted s.seen found (attempt_after k s reply).pending waits (subst (λ (step : Attempting). KnowsSharing k its unshifted s.seen (attempt_after k s reply) step) at so.knows)

  plain_next : (s : SessionState) (reply : ℕ) → IsPlain s.step → (unshifted ≡ true → shifts_by k s (Replies reply) ≡ false) → Plainly s.seen s → Plainly s.seen (session_next k s reply)
  plain_next s reply plain none knows =
      next_known (IsSharing unshifted s.seen ⊥) (IsSharing unshifted s.seen ⊥) (IsAttemptSharing k its unshifted s.seen) (IsAttemptSharing k its unshifted s.seen) k s reply knows (record {
        waits = λ p so. so;
        attempts = λ attempting so. attempt_sharing k its unshifted s.seen s.attempt reply so;
        accepts = λ has_shifted found at comes accepted so.
            left_sharing s reply found comes (λ f. call_waits s has_shifted reply found (subst (λ (step : Sitting). shifts_at k s step reply ≡ false) at (none f)) comes accepted) so;
        keeps = λ i found at comes waits so. left_sharing s reply found comes (λ f. poll_waits s i reply found (subst (λ (step : Sitting). shifts_at k s step reply ≡ false) at (none f)) comes waits) so;
        hands_over = λ polling p spare is_orphaned so. polled_sharing k its unshifted s.seen p AtPoll spare is_orphaned so;
        begins_anew = λ unit at done. absurd (subst IsPlain at plain);
        latches = λ cause p at so. absurd (subst IsPlain at plain);
      })

  -- it goes by what it went by
  plain_seen : (s : SessionState) (asks : ℕ) (step : Sitting) (reply : ℕ) → IsPlain step → s.step ≡ step → (sitting_next k (record s { asks = asks; effect = None }) step reply).seen ≡ s.seen
  plain_seen s asks (CatchesUp cause) reply plain at = absurd plain
  plain_seen s asks (Idle told) reply plain at = (moves_on k s asks (Idle told) reply at).seen
  plain_seen s asks (Attempts has_shifted) reply plain at = (moves_on k s asks (Attempts has_shifted) reply at).seen
  plain_seen s asks ClearsMail reply plain at = (moves_on k s asks ClearsMail reply at).seen
  plain_seen s asks (Polls i) reply plain at = (moves_on k s asks (Polls i) reply at).seen
  plain_seen s asks (StoresOwing i) reply plain at = (moves_on k s asks (StoresOwing i) reply at).seen
  plain_seen s asks (Turns told) reply plain at = (moves_on k s asks (Turns told) reply at).seen
  plain_seen s asks StoresCut reply plain at = (moves_on k s asks StoresCut reply at).seen
  plain_seen s asks Leaves reply plain at = (moves_on k s asks Leaves reply at).seen
  plain_seen s asks LoadsDurable reply plain at = (moves_on k s asks LoadsDurable reply at).seen

  plain_replied : (s : SessionState) (reply : ℕ) → IsPlain s.step → (unshifted ≡ true → shifts_by k s (Replies reply) ≡ false) → Knows s → Knows (session_next k s reply)
  plain_replied s reply plain none knows =
      known_plainly (session_next k s reply) s.seen (plain_seen s (asks_after s.asks (is_word_ask (session_ask k s))) s.step reply plain refl) (plain_next s reply plain none (plain_known s plain knows))

  -- ---- a reply where it does
  -- What is known as it catches up. What waits is known of by what the session goes by, and by whether it takes up prepare.
  pub record CatchesSo (s : SessionState) (reply : ℕ) : Type 0 where
    -- how it goes on
    pub onward : (s.requests ≡ []) ⊎ (IsOnward s.seen (session_next k s reply).seen × LeavesSo s.seen (session_next k s reply).seen)
    -- only as it takes up prepare does it add shares
    pub latching : IsLatching s.catching.step → TakesPrepare s.catching s.catching.step
    -- and once it is through with it all share
    pub shares : unshifted ≡ true → StepLatched k its (session_next k s reply) (session_next k s reply).step

  latched_all : (s : SessionState) (step : Sitting) → IsPlain step → StepLatched k its s step → is_prepare s.seen.phase ≡ true → AllUpdatesShare s.requests
  latched_all s (CatchesUp cause) plain holds prepare = absurd plain
  latched_all s (Attempts has_shifted) plain holds prepare = holds.all prepare
  latched_all s (Polls i) plain holds prepare = holds.all prepare
  latched_all s (Idle told) plain holds prepare = holds prepare
  latched_all s ClearsMail plain holds prepare = holds prepare
  latched_all s (StoresOwing i) plain holds prepare = holds prepare
  latched_all s (Turns told) plain holds prepare = holds prepare
  latched_all s StoresCut plain holds prepare = holds prepare
  latched_all s Leaves plain holds prepare = holds prepare
  latched_all s LoadsDurable plain holds prepare = holds prepare

  latched_at : (requests : List PendingRequest) (i : ℕ) (p : PendingRequest) → slice_get requests i ≡ Some p → AllUpdatesShare requests → is_read p.request.op ≡ false → p.request.has_latch ≡ true
  latched_at [] i p got all updates = cc
  latched_at (o ∷ rest) zero p got all updates = let same : o ≡ p = cc in (subst (λ (x : PendingRequest). is_read x.request.op ≡ false → x.request.has_latch ≡ true) same all.0) updates
  latched_at (o ∷ rest) (suc i) p got all updates = latched_at rest i p got all.1 updates

  -- where the reply leaves it
  waits_led : (t : SessionState) (cause : CatchCause) (ask : Ask (Unit {0})) (p : PendingRequest) → t.step ≡ CatchesUp cause → IsOnward t.seen (catch_ledto k t cause ask).seen → LeavesSo t.seen (catch_ledto k t cause ask).seen
      → (IsPlain (catch_ledto k t cause ask).step → unshifted ≡ true → is_prepare (catch_ledto k t cause ask).seen.phase ≡ true → is_read p.request.op ≡ false → p.request.has_latch ≡ true)
      → IsSharing unshifted t.seen (TakesPrepare t.catching t.catching.step) p → Waits (catch_ledto k t cause ask) p
  unfolding catch_ledto attempts
  waits_led t Refreshes (Done through) p at on leaves shares so = caught_sharing unshifted t.seen t.catching.seen (TakesPrepare t.catching t.catching.step) p on leaves (takes_so t.catching t.catching.step) (shares tt) so
  waits_led t Wakes (Done through) p at on leaves shares so = caught_sharing unshifted t.seen t.catching.seen (TakesPrepare t.catching t.catching.step) p on leaves (takes_so t.catching t.catching.step) (shares tt) so
  waits_led t Shifts (Done through) p at on leaves shares so = caught_sharing unshifted t.seen t.catching.seen (TakesPrepare t.catching t.catching.step) p on leaves (takes_so t.catching t.catching.step) (shares tt) so
  waits_led t cause ask p at on leaves shares so = subst (λ (step : Sitting). IsSharing unshifted t.seen (SitsTaking t step) p) (sym at) so

  module _ (s : SessionState) (cause : CatchCause) (reply : ℕ) (at : s.step ≡ CatchesUp cause) where
    abbrev So : PendingRequest → Type 0
    So p = IsSharing unshifted s.seen (TakesPrepare s.catching s.catching.step) p

    abbrev after : SessionState
    after = session_next k s reply

    abbrev quiet : SessionState
    quiet = record s { asks = asks_after s.asks (is_word_ask (session_ask k s)); effect = None }

    -- what waits is marked, or stays
    was_so : Knows s → KnowsRequests So (λ a. ⊤) s
    was_so knows = stays_known (Waits s) So (IsAttemptSharing k its unshifted s.seen) (λ a. ⊤) s (λ p so. subst (λ (step : Sitting). IsSharing unshifted s.seen (SitsTaking s step) p) at so) (λ attempting so. tt) knows

    no_attempt : (has_shifted : Bool) → s.step ≡ Attempts has_shifted → ⊥
    no_attempt has_shifted is = let clash : ◌≡◌ {A = Sitting} (CatchesUp cause) (Attempts has_shifted) = sym at ∙ is in cc

    no_poll : (i : ℕ) → s.step ≡ Polls i → ⊥
    no_poll i is = let clash : ◌≡◌ {A = Sitting} (CatchesUp cause) (Polls i) = sym at ∙ is in cc

    marked : TakesPrepare s.catching s.catching.step → KnowsRequests So (λ a. ⊤) s → KnowsRequests So (λ a. ⊤) after
    marked takes was = next_known So So (λ a. ⊤) (λ a. ⊤) k s reply was (record {
      waits = λ p so. so;
      attempts = λ attempting so. tt;
      accepts = λ has_shifted found is comes accepted so. absurd (no_attempt has_shifted is);
      keeps = λ i found is comes waits so. absurd (no_poll i is);
      hands_over = λ polling p spare is_orphaned so. tt;
      begins_anew = λ unit is done spare is_orphaned. tt;
      latches = λ other p is so. latched_sharing unshifted s.seen (TakesPrepare s.catching s.catching.step) p takes so;
    })

    stayed : (IsLatching s.catching.step → ⊥) → KnowsRequests So (λ a. ⊤) s → KnowsRequests So (λ a. ⊤) after
    stayed none was = record {
      waiting = λ index p got other. was.waiting index p (ap (λ (requests : List PendingRequest). slice_get requests index) (sym (stay_caught k s cause reply at none)) ∙ got) (λ is. no_poll index is);
      attempted = λ attempting. tt;
    }

    caught_waits : (step : Catching) → s.catching.step ≡ step → (IsLatching s.catching.step → TakesPrepare s.catching s.catching.step) → KnowsRequests So (λ a. ⊤) s → KnowsRequests So (λ a. ⊤) after
    caught_waits (Latches i) is latching was = marked (latching (subst IsLatching (sym is) tt)) was
    caught_waits Ended is latching was = stayed (λ latches. subst IsLatching is latches) was
    caught_waits LoadsAll is latching was = stayed (λ latches. subst IsLatching is latches) was
    caught_waits Protects is latching was = stayed (λ latches. subst IsLatching is latches) was
    caught_waits StoresCutWord is latching was = stayed (λ latches. subst IsLatching is latches) was
    caught_waits StoresOwingWord is latching was = stayed (λ latches. subst IsLatching is latches) was
    caught_waits Finishes is latching was = stayed (λ latches. subst IsLatching is latches) was

    -- the attempt that begins anew
    caught_attempts : IsVersion after.seen.version.0 → KnowsRequests (λ p. ⊤) (IsAttemptSharing k its unshifted after.seen) after
    caught_attempts fits =
        next_known (λ p. ⊤) (λ p. ⊤) (λ a. ⊤) (IsAttemptSharing k its unshifted after.seen) k s reply (record { waiting = λ index p got other. tt; attempted = λ attempting. tt }) (record {
          waits = λ p so. tt;
          attempts = λ attempting so. let clash : is_attempting (CatchesUp cause) ≡ true = subst (λ (step : Sitting). is_attempting step ≡ true) at attempting in cc;
          accepts = λ has_shifted found is comes accepted so. tt;
          keeps = λ i found is comes waits so. tt;
          hands_over = λ polling p spare is_orphaned so. let clash : is_polling (CatchesUp cause) ≡ true = subst (λ (step : Sitting). is_polling step ≡ true) at polling in cc;
          begins_anew = λ unit shifts done spare is_orphaned.
              let seen : after.seen ≡ (catch_after k s reply).seen = shifted_seen k s reply unit shifts done in
              subst (λ (x : Seen). IsAttemptSharing k its unshifted x (attempt_begun k.places (bits_of k) (request_in_hand (caught_up_at k s reply)) (catch_after k s reply).seen (AtCall (bounds_of k.shape)) spare is_orphaned)) (sym seen)
              (hand_sharing (caught_up_at k s reply) (subst (λ (x : Seen). IsVersion x.version.0) seen fits) spare is_orphaned);
          latches = λ other p is so. tt;
        })

    -- all of it
    abbrev Led : PendingRequest → Sitting → Type 0
    Led p step =
        IsOnward s.seen (sitting_next k quiet step reply).seen → LeavesSo s.seen (sitting_next k quiet step reply).seen
        → (IsPlain (sitting_next k quiet step reply).step → unshifted ≡ true → is_prepare (sitting_next k quiet step reply).seen.phase ≡ true → is_read p.request.op ≡ false → p.request.has_latch ≡ true)
        → So p → Waits (sitting_next k quiet step reply) p

    led_known : (p : PendingRequest) → Led p (CatchesUp cause)
    unfolding sitting_next
    led_known p on leaves shares so =
        waits_led (caught k quiet reply) cause _ p at on leaves shares
        (since_map unshifted s.seen (TakesPrepare s.catching s.catching.step) (TakesPrepare (catch_after k s reply) (catch_after k s reply).step) p (catch_takes k.places (bits_of k) k.number s.catching s.requests reply) so)

    led : (p : PendingRequest) → Led p s.step
    led p = subst (λ (step : Sitting). Led p step) (sym at) (led_known p)

    none_there : (index : ℕ) (p : PendingRequest) → slice_get after.requests index ≡ Some p → s.requests ≡ [] → Waits after p
    none_there index p got none =
        none_in index p (ap (λ (requests : List PendingRequest). slice_get requests index) (sym (none_stay k s cause reply at none)) ∙ got)

    waits_then : CatchesSo s reply → (index : ℕ) (p : PendingRequest) → slice_get after.requests index ≡ Some p → So p → Waits after p
    waits_then so index p got sharing = elim so.onward [
      | inl none ↦ none_there index p got none
      | inr on ↦ led p on.0 on.1 (λ plain f prepare updates. latched_at after.requests index p got (latched_all after after.step plain (so.shares f) prepare) updates) sharing
    ]

    caught_replied : CatchesSo s reply → IsVersion after.seen.version.0 → Knows s → Knows after
    caught_replied so fits knows = record {
      waiting = λ index p got other. waits_then so index p got ((caught_waits s.catching.step refl so.latching (was_so knows)).waiting index p got other);
      attempted = (caught_attempts fits).attempted;
    }

  -- ---- a call, and an action
  called_known : (s : SessionState) (its_call : Call) → is_busy s.step ≡ false → IsVersion s.seen.version.0 → Knows s → Knows (session_begun k s its_call)
  called_known s its_call idle fits knows =
      known_plainly (session_begun k s its_call) s.seen (call_calm k (record s { asks = 0; effect = None; wants_turn = false }) its_call).seen
      (begun_known (IsSharing unshifted s.seen ⊥) (IsAttemptSharing k its unshifted s.seen) k s its_call idle (plain_known s (idle_plain s.step idle) knows) (record {
        calls = λ op is none spare is_orphaned. hand_sharing (with_op s op) fits spare is_orphaned;
        polls = λ is awake p spare is_orphaned so. polled_sharing k its unshifted s.seen p AtPoll spare is_orphaned so;
      }))

  begins_known : (s : SessionState) (its_call : Call) (busy : Bool) → is_busy s.step ≡ busy → IsVersion s.seen.version.0 → Knows s → Knows (begins k s busy its_call)
  begins_known s its_call true busy fits knows = knows
  begins_known s its_call false idle fits knows = called_known s its_call idle fits knows

  gets_known : (s : SessionState) (step : Sitting) (action : Action) → s.step ≡ step → Knows s → Knows (sitting_given k s step action)
  gets_known s (Turns told) action at knows =
      let plain : IsPlain s.step = subst IsPlain (sym at) tt in
      let given : Plainly s.seen (session_given k s action) = given_known (IsSharing unshifted s.seen ⊥) (IsAttemptSharing k its unshifted s.seen) k s action (plain_known s plain knows) in
      known_plainly (sitting_given k s (Turns told) action) s.seen (given_on k s (Turns told) action at).seen (subst (λ (step : Sitting). Plainly s.seen (sitting_given k s step action)) at given)
  gets_known s (Idle told) action at knows = subst Knows (sym (given_on k s (Idle told) action at)) knows
  gets_known s (Attempts has_shifted) action at knows = subst Knows (sym (given_on k s (Attempts has_shifted) action at)) knows
  gets_known s (CatchesUp cause) action at knows = subst Knows (sym (given_on k s (CatchesUp cause) action at)) knows
  gets_known s ClearsMail action at knows = subst Knows (sym (given_on k s ClearsMail action at)) knows
  gets_known s (Polls i) action at knows = subst Knows (sym (given_on k s (Polls i) action at)) knows
  gets_known s (StoresOwing i) action at knows = subst Knows (sym (given_on k s (StoresOwing i) action at)) knows
  gets_known s StoresCut action at knows = subst Knows (sym (given_on k s StoresCut action at)) knows
  gets_known s Leaves action at knows = subst Knows (sym (given_on k s Leaves action at)) knows
  gets_known s LoadsDurable action at knows = subst Knows (sym (given_on k s LoadsDurable action at)) knows

  -- ---- an event
  pub record FitsReply (s : SessionState) (reply : ℕ) : Type 0 where
    pub catches : (cause : CatchCause) → s.step ≡ CatchesUp cause → CatchesSo s reply
    pub not_shifted : unshifted ≡ true → shifts_by k s (Replies reply) ≡ false

  abbrev pub FitsEvent : SessionState → SessionEvent → Type 0
  FitsEvent s (Replies reply) = FitsReply s reply
  FitsEvent s event = ⊤

  replied_known : (s : SessionState) (step : Sitting) (reply : ℕ) → s.step ≡ step → FitsReply s reply → IsVersion (session_next k s reply).seen.version.0 → Knows s → Knows (session_next k s reply)
  replied_known s (CatchesUp cause) reply at so fits knows = caught_replied s cause reply at (so.catches cause at) fits knows
  replied_known s (Idle told) reply at so fits knows = plain_replied s reply (subst IsPlain (sym at) tt) so.not_shifted knows
  replied_known s (Attempts has_shifted) reply at so fits knows = plain_replied s reply (subst IsPlain (sym at) tt) so.not_shifted knows
  replied_known s ClearsMail reply at so fits knows = plain_replied s reply (subst IsPlain (sym at) tt) so.not_shifted knows
  replied_known s (Polls i) reply at so fits knows = plain_replied s reply (subst IsPlain (sym at) tt) so.not_shifted knows
  replied_known s (StoresOwing i) reply at so fits knows = plain_replied s reply (subst IsPlain (sym at) tt) so.not_shifted knows
  replied_known s (Turns told) reply at so fits knows = plain_replied s reply (subst IsPlain (sym at) tt) so.not_shifted knows
  replied_known s StoresCut reply at so fits knows = plain_replied s reply (subst IsPlain (sym at) tt) so.not_shifted knows
  replied_known s Leaves reply at so fits knows = plain_replied s reply (subst IsPlain (sym at) tt) so.not_shifted knows
  replied_known s LoadsDurable reply at so fits knows = plain_replied s reply (subst IsPlain (sym at) tt) so.not_shifted knows

  pub event_known : (s : SessionState) (event : SessionEvent) → FitsEvent s event → IsVersion s.seen.version.0 → IsVersion (session_happens k s event).seen.version.0 → Knows s → Knows (session_happens k s event)
  unfolding session_happens
  event_known s (Begins its_call) so fits behind knows = begins_known s its_call (is_busy s.step) refl fits knows
  event_known s (Replies reply) so fits behind knows = replied_known s s.step reply refl so behind knows
  event_known s (Gets action) so fits behind knows = gets_known s s.step action refl knows
