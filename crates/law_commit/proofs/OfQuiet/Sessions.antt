-- What an event of a session leaves of its requests: no update of an earlier version comes in, where the session goes by a later one while it is awake.
use Rattle.std.proofs.Common.{◌≡◌, ◌⊎◌, inl, inr, ℕ, ◌<◌, ◌≤◌, ◌∙◌, List, [], ◌∷◌, ◌++◌, refl, arith, ap, sym, subst, Bool, true, false}
use Rattle.std.specs.Prelude.{⊤, not, Option, Some, None, if◌then◌else◌}
use Rattle.fkv_base.specs.declared.faults.Fault.{Fault}
use Rattle.fkv_base.specs.declared.numbers.Version.{Version}
use Rattle.fkv_map.specs.declared.operations.Call.{Call}
use Rattle.fkv_map.specs.declared.operations.Op.{Op}
use Rattle.law_refine.specs.Below.fkv_ops.Requests.{is_read}
use Rattle.law_refine.specs.Below.fkv_ops.Occasion.{Occasion}
use Rattle.law_refine.specs.Below.fkv_ops.Occasion.TheVariants.{Call as AtCall, Poll as AtPoll}
use Rattle.law_refine.specs.Below.fkv_ops.Seen.{Seen}
use Rattle.law_refine.specs.Below.fkv_pending.PendingRequest.{PendingRequest}
use Rattle.law_refine.specs.Below.fkv_pending.Attempting.{AttemptState, attempt_begun}
use Rattle.law_refine.specs.Below.fkv_pending.Pending.{with_latch}
use Rattle.fkv_plane.specs.declared.asks.Ask.{Ask}
use Rattle.fkv_plane.specs.declared.asks.Ask.TheVariants.{Done}
use Rattle.law_refine.specs.Below.fkv_session.CatchCause.TheVariants.{Refreshes, Shifts, Wakes}
use Rattle.law_refine.specs.Below.fkv_session.Sitting.{Sitting}
use Rattle.law_refine.specs.Below.fkv_session.Sitting.TheVariants.{CatchesUp, Idle, LoadsDurable}
use Rattle.law_refine.specs.Below.fkv_session.Asleep.{IsStepAsleep}
use Rattle.law_refine.specs.Below.fkv_session.Sessions.{IsOpened, Seat, SessionState, asks_after, attempts, bits_of, catch_ledto, caught, is_busy, is_word_ask, request_in_hand, room_of, session_ask, session_begun, session_next, sitting_given, sitting_next}
use Rattle.law_refine.specs.Below.fkv_session.SessionRun.{Begins, Gets, Replies, SessionEvent, begins, session_happens, session_run}
use Rattle.law_refine.specs.Below.fkv_session.Versions.{IsVersion}
use Rattle.law_refine.proofs.Below.fkv_session.Shown.{IsSameRequest}
use Rattle.law_refine.proofs.Below.fkv_session.Shown.{attempt_keeps, run_asleep, run_version}
use Rattle.law_refine.specs.Below.law_local.Sessions.Known.{KnowsRequests, attempt_after, catch_after, catch_comes_to, with_op}
use Rattle.law_refine.proofs.Below.law_local.OfSessions.AttemptInputs.{begun_pending}
use Rattle.law_refine.proofs.Below.law_local.OfSessions.Known.{begun_known, given_known, next_known}
use Rattle.law_commit.specs.Accepted.{HasRisingVersion}
use Rattle.law_commit.specs.Quiet.{IsLater, IsLiveLater}
use Rattle.law_commit.specs.Versions.Requests.{IsUpdateSo}
use Rattle.law_refine.specs.Below.fkv_ops.Bounds.{bounds_of}

-- ---- one that shifts goes by what it has caught up with
shift_led : (k : Seat) (t : SessionState) (ask : Ask (Unit {0})) (its : Unit {0}) → ask ≡ Done its → (catch_ledto k t Shifts ask).seen ≡ t.catching.seen
unfolding catch_ledto attempts
shift_led k t (Done through) its done = refl
shift_led k t ask its done = cc

shift_seen : (k : Seat) (s : SessionState) (asks : ℕ) (step : Sitting) (reply : ℕ) (its : Unit {0}) → step ≡ CatchesUp Shifts → catch_comes_to k s reply ≡ Done its
    → (sitting_next k (record s { asks = asks; effect = None }) step reply).seen ≡ (catch_after k s reply).seen
unfolding sitting_next
shift_seen k s asks (CatchesUp Shifts) reply its at done = shift_led k (caught k (record s { asks = asks; effect = None }) reply) (catch_comes_to k s reply) its done
shift_seen k s asks step reply its at done = cc

pub shifted_seen : (k : Seat) (s : SessionState) (reply : ℕ) (its : Unit {0}) → s.step ≡ CatchesUp Shifts → catch_comes_to k s reply ≡ Done its → (session_next k s reply).seen ≡ (catch_after k s reply).seen
shifted_seen k s reply its at done = shift_seen k s (asks_after s.asks (is_word_ask (session_ask k s))) s.step reply its at done

-- ---- where it sleeps it attempts nothing
-- it has no call in hand, or it sleeps
abbrev pub IsAway : SessionState → Sitting → Type 0
IsAway s step = (is_busy step ≡ false) ⊎ (s.is_awake ≡ false)

wakes_led : (k : Seat) (t : SessionState) (ask : Ask (Unit {0})) → t.step ≡ CatchesUp Wakes → t.is_awake ≡ false → IsAway (catch_ledto k t Wakes ask) (catch_ledto k t Wakes ask).step
unfolding catch_ledto
wakes_led k t (Done its) at asleep = inl refl
wakes_led k t ask at asleep = inr asleep

pub asleep_next : (k : Seat) (s : SessionState) (asks : ℕ) (step : Sitting) (reply : ℕ) → s.step ≡ step → s.is_awake ≡ false → IsStepAsleep step
    → IsAway (sitting_next k (record s { asks = asks; effect = None }) step reply) (sitting_next k (record s { asks = asks; effect = None }) step reply).step
unfolding sitting_next
asleep_next k s asks (Idle its) reply at asleep away = inr asleep
asleep_next k s asks LoadsDurable reply at asleep away = inl refl
asleep_next k s asks (CatchesUp Wakes) reply at asleep away = wakes_led k (caught k (record s { asks = asks; effect = None }) reply) _ at asleep
asleep_next k s asks (CatchesUp Refreshes) reply at asleep away = absurd away
asleep_next k s asks (CatchesUp Shifts) reply at asleep away = absurd away
asleep_next k s asks step reply at asleep away = absurd away

pub idle_next : (k : Seat) (s : SessionState) (asks : ℕ) (step : Sitting) (reply : ℕ) → s.step ≡ step → is_busy step ≡ false
    → IsAway (sitting_next k (record s { asks = asks; effect = None }) step reply) (sitting_next k (record s { asks = asks; effect = None }) step reply).step
unfolding sitting_next
idle_next k s asks (Idle its) reply at idle = inl (ap is_busy at)
idle_next k s asks step reply at idle = cc

pub asleep_given : (k : Seat) (s : SessionState) (step : Sitting) (action : _) → s.step ≡ step → s.is_awake ≡ false → IsStepAsleep step → IsAway (sitting_given k s step action) (sitting_given k s step action).step
unfolding sitting_given
asleep_given k s (Idle its) action at asleep away = inr asleep
asleep_given k s LoadsDurable action at asleep away = inr asleep
asleep_given k s (CatchesUp cause) action at asleep away = inr asleep
asleep_given k s step action at asleep away = absurd away

pub idle_given : (k : Seat) (s : SessionState) (step : Sitting) (action : _) → s.step ≡ step → is_busy step ≡ false → IsAway (sitting_given k s step action) (sitting_given k s step action).step
unfolding sitting_given
idle_given k s (Idle its) action at idle = inl (ap is_busy at)
idle_given k s step action at idle = cc

pub here_or_away : (s : SessionState) → ((is_busy s.step ≡ true) × (s.is_awake ≡ true)) ⊎ IsAway s s.step
here_or_away s = by_both (is_busy s.step) s.is_awake refl refl
  where
    by_both : (b c : Bool) → is_busy s.step ≡ b → s.is_awake ≡ c → ((is_busy s.step ≡ true) × (s.is_awake ≡ true)) ⊎ IsAway s s.step
    by_both true true busy awake = inl (busy, awake)
    by_both true false busy asleep = inr (inr asleep)
    by_both false c idle is = inr (inl idle)

-- ---- events but calls
abbrev pub HasNoCall : List SessionEvent → Type 0
HasNoCall [] = ⊤
HasNoCall (Begins call ∷ before) = ⊥
HasNoCall (Replies reply ∷ before) = HasNoCall before
HasNoCall (Gets action ∷ before) = HasNoCall before

pub not_both : {X : Type 0} (c : Bool) → c ≡ true → c ≡ false → X
not_both true is not_so = cc
not_both false is not_so = cc

awake_called : (s : SessionState) (op : Op) (c : Bool) (other : Option Fault) (why : Fault) → s.is_awake ≡ c → (if not c then Some why else other) ≡ None → s.is_awake ≡ true
awake_called s op true other why same none = same
awake_called s op false other why same none = cc

module _ (version : ℕ) where
  abbrev pub WaitsLater : PendingRequest → Type 0
  WaitsLater pending = IsUpdateSo (IsLater version) pending

  abbrev pub TriesLater : AttemptState → Type 0
  TriesLater a = WaitsLater a.pending

  abbrev pub KnowsLater : SessionState → Type 0
  KnowsLater s = KnowsRequests WaitsLater TriesLater s

  -- while a call is in hand and it is awake it goes by a later version
  abbrev pub IsBusyLater : SessionState → Type 0
  IsBusyLater s = is_busy s.step ≡ true → IsLiveLater version s

  pub same_later : (p q : PendingRequest) → IsSameRequest p q → WaitsLater q → WaitsLater p
  same_later p q same so = λ updates. subst (λ (v : Version). version < v.0) (sym same.version) (so (sym (ap is_read same.op) ∙ updates))

  begun_later : (k : Seat) (pending : PendingRequest) (seen : Seen) (occasion : Occasion) (spare : ℕ) (is_orphaned : Bool) → WaitsLater pending → TriesLater (attempt_begun k.places (bits_of k) pending seen occasion spare is_orphaned)
  begun_later k pending seen occasion spare is_orphaned its = subst WaitsLater (sym (begun_pending k.places (bits_of k) pending seen occasion spare is_orphaned)) its

  hand_later : (s : SessionState) → version < s.seen.version.0 → IsVersion s.seen.version.0 → WaitsLater (request_in_hand s)
  hand_later s later fits updates = let some = fits.0 in let few = fits.1 in omega (arith, later, some, few)

  latched_later : (pending : PendingRequest) → WaitsLater pending → WaitsLater (with_latch pending true)
  unfolding with_latch
  latched_later pending so = so

  -- a reply
  replied_later : (k : Seat) (s : SessionState) (reply : ℕ) → (s.step ≡ CatchesUp Shifts → (version < (session_next k s reply).seen.version.0) × IsVersion (session_next k s reply).seen.version.0) → KnowsLater s
      → KnowsLater (session_next k s reply)
  replied_later k s reply lives knows =
      next_known WaitsLater WaitsLater TriesLater TriesLater k s reply knows (record {
        waits = λ pending so. so;
        attempts = λ attempting so. same_later (attempt_after k s reply).pending s.attempt.pending (attempt_keeps k.places (bits_of k) (room_of k) k.number s.attempt reply) so;
        accepts = λ has_shifted its at comes accepted so. so;
        keeps = λ index its at comes waits so. so;
        hands_over = λ polling pending spare is_orphaned so. begun_later k pending s.seen AtPoll spare is_orphaned so;
        begins_anew = λ its at done spare is_orphaned.
            let seen = shifted_seen k s reply its at done in
            let live = subst (λ (x : Seen). (version < x.version.0) × IsVersion x.version.0) seen (lives at) in
            begun_later k (request_in_hand (record s { seen = (catch_after k s reply).seen })) (catch_after k s reply).seen (AtCall (bounds_of k.shape)) spare is_orphaned
            (hand_later (record s { seen = (catch_after k s reply).seen }) live.0 live.1);
        latches = λ cause pending at so. latched_later pending so;
      })

  -- a call
  called_later : (k : Seat) (s : SessionState) (its : Call) → is_busy s.step ≡ false → IsLiveLater version s → IsVersion s.seen.version.0 → KnowsLater s → KnowsLater (session_begun k s its)
  called_later k s its idle live fits knows =
      begun_known WaitsLater TriesLater k s its idle knows (record {
        calls = λ op is none spare is_orphaned.
            begun_later k (request_in_hand (with_op s op)) s.seen (AtCall (bounds_of k.shape)) spare is_orphaned (hand_later (with_op s op) (live (awake_called s op s.is_awake _ _ refl none)) fits);
        polls = λ is awake pending spare is_orphaned so. begun_later k pending s.seen AtPoll spare is_orphaned so;
      })

  begins_later : (k : Seat) (s : SessionState) (its : Call) → IsLiveLater version s → IsVersion s.seen.version.0 → KnowsLater s → KnowsLater (session_happens k s (Begins its))
  unfolding session_happens
  begins_later k s its live fits knows = by_busy (is_busy s.step) refl
    where
      by_busy : (b : Bool) → is_busy s.step ≡ b → KnowsLater (begins k s b its)
      by_busy true busy = knows
      by_busy false idle = called_later k s its idle live fits knows

  -- ---- in a run
  away_busy : (s : SessionState) → IsAway s s.step → IsBusyLater s
  away_busy s (inl idle) busy awake = not_both (is_busy s.step) busy idle
  away_busy s (inr asleep) busy awake = not_both s.is_awake awake asleep

  higher : (low high : ℕ) → low ≤ high → version < low → version < high
  higher low high up below = omega (arith, up, below)

  module _ (k : Seat) (first : SessionState) (opened : IsOpened first) (fit : IsVersion first.seen.version.0) where
    pub record Still (events : List SessionEvent) : Type 0 where
      pub knows : KnowsLater (session_run k first events)
      pub busy : IsBusyLater (session_run k first events)

    abbrev Rises : SessionEvent → List SessionEvent → Type 0
    Rises event before = (session_run k first before).seen.version.0 ≤ (session_run k first (event ∷ before)).seen.version.0

    sleeps : (events : List SessionEvent) → (session_run k first events).is_awake ≡ false → IsStepAsleep (session_run k first events).step
    sleeps events asleep = (run_asleep k first events opened asleep).accepts_none

    shifts_awake : (events : List SessionEvent) → (session_run k first events).step ≡ CatchesUp Shifts → (session_run k first events).is_awake ≡ true
    shifts_awake events shifts = by_awake (session_run k first events).is_awake refl
      where
        by_awake : (c : Bool) → (session_run k first events).is_awake ≡ c → (session_run k first events).is_awake ≡ true
        by_awake true is = is
        by_awake false is = absurd (subst IsStepAsleep shifts (sleeps events is))

    replied_busy : (reply : ℕ) (before : List SessionEvent) → Rises (Replies reply) before → IsBusyLater (session_run k first before) → IsBusyLater (session_run k first (Replies reply ∷ before))
    unfolding session_run session_happens
    replied_busy reply before rises busy_before =
        let s : SessionState = session_run k first before in
        let after : SessionState = session_run k first (Replies reply ∷ before) in
        elim (here_or_away s) [
          | inl here ↦ λ busy awake. higher s.seen.version.0 after.seen.version.0 rises (busy_before here.0 here.1)
          | inr away ↦ away_busy after (elim away [
            | inl idle ↦ idle_next k s (asks_after s.asks (is_word_ask (session_ask k s))) s.step reply refl idle
            | inr asleep ↦ asleep_next k s (asks_after s.asks (is_word_ask (session_ask k s))) s.step reply refl asleep (sleeps before asleep)
          ])
        ]

    given_busy : (action : _) (before : List SessionEvent) → Rises (Gets action) before → IsBusyLater (session_run k first before) → IsBusyLater (session_run k first (Gets action ∷ before))
    unfolding session_run session_happens
    given_busy action before rises busy_before =
        let s : SessionState = session_run k first before in
        let after : SessionState = session_run k first (Gets action ∷ before) in
        elim (here_or_away s) [
          | inl here ↦ λ busy awake. higher s.seen.version.0 after.seen.version.0 rises (busy_before here.0 here.1)
          | inr away ↦ away_busy after (elim away [
            | inl idle ↦ idle_given k s s.step action refl idle
            | inr asleep ↦ asleep_given k s s.step action refl asleep (sleeps before asleep)
          ])
        ]

    pub busy_calls : (later own : List SessionEvent) → HasNoCall later → HasRisingVersion k first (later ++ own) → IsBusyLater (session_run k first own) → IsBusyLater (session_run k first (later ++ own))
    unfolding HasRisingVersion
    busy_calls [] own none rises busy = busy
    busy_calls (Begins call ∷ later) own none rises busy = absurd none
    busy_calls (Replies reply ∷ later) own none rises busy = replied_busy reply (later ++ own) rises.0 (busy_calls later own none rises.1 busy)
    busy_calls (Gets action ∷ later) own none rises busy = given_busy action (later ++ own) rises.0 (busy_calls later own none rises.1 busy)

    replied_still : (reply : ℕ) (before : List SessionEvent) → Rises (Replies reply) before → Still before → Still (Replies reply ∷ before)
    unfolding session_run session_happens
    replied_still reply before rises still =
        let s : SessionState = session_run k first before in
        let after : SessionState = session_run k first (Replies reply ∷ before) in
        record {
          knows = replied_later k s reply (λ shifts. (higher s.seen.version.0 after.seen.version.0 rises (still.busy (ap is_busy shifts) (shifts_awake before shifts)), run_version k first (Replies reply ∷ before) opened fit)) still.knows;
          busy = replied_busy reply before rises still.busy;
        }

    given_still : (action : _) (before : List SessionEvent) → Rises (Gets action) before → Still before → Still (Gets action ∷ before)
    unfolding session_run session_happens
    given_still action before rises still =
        record { knows = given_known WaitsLater TriesLater k (session_run k first before) action still.knows; busy = given_busy action before rises still.busy }

    pub no_calls : (later own : List SessionEvent) → HasNoCall later → HasRisingVersion k first (later ++ own) → Still own → Still (later ++ own)
    unfolding HasRisingVersion
    no_calls [] own none rises still = still
    no_calls (Begins call ∷ later) own none rises still = absurd none
    no_calls (Replies reply ∷ later) own none rises still = replied_still reply (later ++ own) rises.0 (no_calls later own none rises.1 still)
    no_calls (Gets action ∷ later) own none rises still = given_still action (later ++ own) rises.0 (no_calls later own none rises.1 still)

    pub one_call : (call : Call) (own : List SessionEvent) → IsLiveLater version (session_run k first own) → KnowsLater (session_run k first own) → KnowsLater (session_run k first (Begins call ∷ own))
    unfolding session_run
    one_call call own live knows = begins_later k (session_run k first own) call live (run_version k first own opened fit) knows
