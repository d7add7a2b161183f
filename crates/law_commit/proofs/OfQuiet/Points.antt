-- From wait-pending of a commit on each session's point of its number stays, and splits the session's effects by version.
use Rattle.std.proofs.Common.{◌≡◌, ◌⊎◌, inl, inr, ℕ, ◌+◌, ◌<◌, ◌≤◌, ◌∙◌, List, [], ◌∷◌, ◌++◌, length, refl, arith, ap, sym, subst, Bool, true, false}
use Rattle.std.specs.Prelude.{nat_le, Some, slice_get}
use Rattle.std.proofs.lemmas.Bool.Decides.{nat_tests}
use Rattle.fkv_map.specs.declared.operations.Call.{Call}
use Rattle.law_refine.specs.Below.fkv_session.Sitting.TheVariants.{Attempts}
use Rattle.law_refine.specs.Below.fkv_session.Asleep.{IsStepAsleep}
use Rattle.law_refine.specs.Below.fkv_session.Replies.{op_called}
use Rattle.law_refine.specs.Below.fkv_session.Sessions.{IsOpened, Seat, SessionState, is_busy}
use Rattle.law_refine.specs.Below.fkv_session.SessionRun.{Begins, Gets, Replies, SessionEvent, session_run}
use Rattle.law_refine.specs.Below.fkv_session.Versions.{IsVersion, TakenAt, versions_taken}
use Rattle.law_refine.proofs.Below.fkv_session.Shown.{run_asleep, run_call}
use Rattle.law_refine.specs.Below.fkv_world.Opened.{HasBecome}
use Rattle.law_refine.specs.Below.fkv_world.OwnEvents.{session_events}
use Rattle.law_refine.specs.Below.fkv_world.Runs.{World, run}
use Rattle.law_refine.specs.Below.fkv_world.World.{Event, seat_at}
use Rattle.law_refine.proofs.Below.fkv_world.Shown.{session_runs}
use Rattle.law_refine.proofs.Below.law_world.OfSessions.OwnRun.{opened_so}
use Rattle.law_commit.specs.Accepted.{HasRisingVersion, NeverFall, count_upto, point, versions_of}
use Rattle.law_commit.specs.LastSerials.{serial_at, serial_of}
use Rattle.law_commit.specs.Quiet.{LiveAreLater, OpensQuiet, PointSplitsAt, PointsAlwaysSplit, PointsStay, pending_rank, rank_now}
use Rattle.law_commit.proofs.Counted.{Takes, found_so, life_counted, life_point, life_risen, none_taken, one_taken, run_moves}
use Rattle.law_commit.proofs.OfPhases.LifeStages.{first_version, rising_version}
use Rattle.law_commit.proofs.OfQuiet.Life.{by_event, rank_stays}
use Rattle.law_commit.proofs.OfQuiet.Sessions.{HasNoCall, IsBusyLater, busy_calls}
use Rattle.law_commit.proofs.OfVersions.History.{life_so}
use Rattle.law_commit.proofs.OfVersions.Points.{le_so, lengths, point_splits, run_follow, taken_low}

-- ---- an event of a session that goes by a later version while it has a call in hand
counts_less : (version its : ℕ) (before : List ℕ) → version < its → count_upto version (its ∷ before) ≡ count_upto version before
counts_less version its before later = let above : nat_le its version ≡ false = grind (arith, nat_tests, later) in rw above refl

higher : (version low high : ℕ) → low ≤ high → version < low → version < high
higher version low high up below = omega (arith, up, below)

module _ (version : ℕ) (k : Seat) (first : SessionState) (opened : IsOpened first) (fit : IsVersion first.seen.version.0) where
  abbrev counted : List SessionEvent → ℕ
  counted events = count_upto version (versions_of (versions_taken k first events))

  attempts_awake : (before : List SessionEvent) (has_shifted : Bool) → (session_run k first before).step ≡ Attempts has_shifted → (session_run k first before).is_awake ≡ true
  attempts_awake before has_shifted at = by_awake (session_run k first before).is_awake refl
    where
      by_awake : (c : Bool) → (session_run k first before).is_awake ≡ c → (session_run k first before).is_awake ≡ true
      by_awake true is = is
      by_awake false is = absurd (subst IsStepAsleep at (run_asleep k first before opened is).accepts_none)

  moved_count : (event : SessionEvent) (before : List SessionEvent) → (session_run k first before).seen.version.0 ≤ (session_run k first (event ∷ before)).seen.version.0 → IsBusyLater version (session_run k first before)
      → ((session_run k first (event ∷ before)).serial ≡ (session_run k first before).serial) ⊎ Takes (session_run k first before) event (session_run k first (event ∷ before)).serial → counted (event ∷ before) ≡ counted before
  unfolding versions_taken op_called
  moved_count event before rises busy (inl same) =
      ap (λ (x : List TakenAt). count_upto version (versions_of x)) (none_taken (session_run k first (event ∷ before)) (session_run k first before).serial _ (versions_taken k first before) same)
  moved_count (Replies reply) before rises busy (inr takes) =
      let a : SessionState = session_run k first (Replies reply ∷ before) in
      let more = one_taken a (session_run k first before).serial _ (op_called k first before) (versions_taken k first before) takes.2 (run_call k first before takes.0 opened takes.1).op in
      let later = busy (ap is_busy takes.1) (attempts_awake before takes.0 takes.1) in
      ap (λ (x : List ℕ). count_upto version x) more ∙ counts_less version a.seen.version.0 (versions_of (versions_taken k first before)) (higher version (session_run k first before).seen.version.0 a.seen.version.0 rises later)
  moved_count (Begins call) before rises busy (inr takes) = absurd takes
  moved_count (Gets action) before rises busy (inr takes) = absurd takes

  event_count : (event : SessionEvent) (before : List SessionEvent) → (session_run k first before).seen.version.0 ≤ (session_run k first (event ∷ before)).seen.version.0 → IsBusyLater version (session_run k first before) → counted (event ∷ before) ≡ counted before
  event_count event before rises busy = moved_count event before rises busy (run_moves k first event before)

  part_count : (later own : List SessionEvent) → HasNoCall later → HasRisingVersion k first (later ++ own) → IsBusyLater version (session_run k first own) → counted (later ++ own) ≡ counted own
  unfolding HasRisingVersion
  part_count [] own none rises busy = refl
  part_count (Begins call ∷ later) own none rises busy = absurd none
  part_count (Replies reply ∷ later) own none rises busy = event_count (Replies reply) (later ++ own) rises.0 (busy_calls version k first opened fit later own none rises.1 busy) ∙ part_count later own none rises.1 busy
  part_count (Gets action ∷ later) own none rises busy = event_count (Gets action) (later ++ own) rises.0 (busy_calls version k first opened fit later own none rises.1 busy) ∙ part_count later own none rises.1 busy

  call_count : (call : Call) (own : List SessionEvent) → HasRisingVersion k first (Begins call ∷ own) → IsBusyLater version (session_run k first own) → counted (Begins call ∷ own) ≡ counted own
  unfolding HasRisingVersion
  call_count call own rises busy = event_count (Begins call) own rises.0 busy

-- ---- a life
module _ (live : LiveAreLater) (opening : World) (start : ℕ) (opens : OpensQuiet opening start) (version session : ℕ) (first : SessionState) (was : slice_get opening.now.sessions session ≡ Some first) where
  abbrev k : Seat
  k = seat_at opening.now session

  abbrev own : List Event → List SessionEvent
  own events = session_events opening session events

  abbrev at : List Event → SessionState
  at events = session_run k first (own events)

  become : (events : List Event) → HasBecome opening events session first (at events)
  become events = record { opened = opens.opened; was = was; is_now = session_runs opening session first events was }

  event_point : (event : Event) (before : List Event) → pending_rank version ≤ rank_now opening before → point opening (event ∷ before) session version ≡ point opening before session version
  unfolding session_events
  event_point event before high =
      let opened : IsOpened first = opened_so opening before session first (at before) (become before) in
      let fit : IsVersion first.seen.version.0 = first_version opening session first (at before) before (become before) opens.seen.rests in
      let rises : HasRisingVersion k first (own (event ∷ before)) = rising_version opening start (event ∷ before) session first (at (event ∷ before)) (become (event ∷ before)) opens.guarded opens.seen.rests in
      let busy : IsBusyLater version (at before) = λ is. live opening start before version session first (at before) opens (become before) high in
      let same : counted version k first opened fit (own (event ∷ before)) ≡ counted version k first opened fit (own before) =
      by_event (λ (part : List SessionEvent). HasRisingVersion k first (part ++ own before) → count_upto version (versions_of (versions_taken k first (part ++ own before))) ≡ count_upto version (versions_of (versions_taken k first (own before))))
      (run opening before).now session event (λ call up. call_count version k first opened fit call (own before) up busy) (λ part none up. part_count version k first opened fit part (own before) none up busy) rises in
      rw (found_so opening (event ∷ before) session first was, found_so opening before session first was) (ap (λ (n : ℕ). serial_at opening.now session + n) same)

  pub point_stays : (later before : List Event) → pending_rank version ≤ rank_now opening before → point opening (later ++ before) session version ≡ point opening before session version
  point_stays [] before high = refl
  point_stays (event ∷ later) before high = event_point event (later ++ before) (rank_stays live opening start opens version session first was later before high) ∙ point_stays later before high

  -- one that sleeps has no effect of a later version
  asleep_splits : (events : List Event) → (at events).is_awake ≡ false → (at events).seen.version.0 ≤ version → PointSplitsAt opening session version events
  asleep_splits events asleep up effect there its = elim (life_so opening start events session first effect opens.guarded opens.opened opens.seen.rests was its there) [
    | inl taken ↦
        let opened = opened_so opening events session first (at events) (become events) in
        let rises = rising_version opening start events session first (at events) (become events) opens.guarded opens.seen.rests in
        let falls = subst (λ (versions : List ℕ). NeverFall (at events).seen.version.0 versions) (found_so opening events session first was) (life_risen opening events session first (at events) (become events) rises) in
        let low = taken_low first.serial (at events).seen.version.0 effect.entry.serial.0 effect.version.0 (versions_taken k first (own events)) (run_follow k first (own events) opened) falls taken in
        let counts = life_counted opening events session first (at events) (become events) in
        let found = ap length (found_so opening events session first was) in
        let all = lengths (versions_taken k first (own events)) in
        let begun : serial_at opening.now session ≡ first.serial = ap serial_of was in
        let is = life_point opening events session first (at events) version (become events) rises up in
        let serial_low = low.serial_low in
        let version_low = low.version_low in
        le_so effect.entry.serial.0 (point opening events session version) (omega (arith, is, counts, found, all, begun, serial_low)) ∙ sym (le_so effect.version.0 version (omega (arith, version_low, up)))
    | inr hand ↦ absurd (subst IsStepAsleep hand.at (run_asleep k first (own events) (opened_so opening events session first (at events) (become events)) asleep).accepts_none)
  ]

  pub always_splits : (events : List Event) → pending_rank version ≤ rank_now opening events → PointSplitsAt opening session version events
  always_splits events high = by_awake (at events).is_awake refl (nat_le (at events).seen.version.0 version) refl
    where
      by_awake : (c : Bool) → (at events).is_awake ≡ c → (d : Bool) → nat_le (at events).seen.version.0 version ≡ d → PointSplitsAt opening session version events
      by_awake true awake d low = λ effect there its. point_splits opening start events session first (at events) opens.guarded opens.seen.rests (become events) effect version (live opening start events version session first (at events) opens (become events) high awake) there its
      by_awake false asleep true low = asleep_splits events asleep (grind (arith, nat_tests, low))
      by_awake false asleep false above = λ effect there its. point_splits opening start events session first (at events) opens.guarded opens.seen.rests (become events) effect version (grind (arith, nat_tests, above)) there its

pub points_stay : LiveAreLater → PointsStay
points_stay live opening start later before version session first its opens high became = point_stays live opening start opens version session first became.was later before high

pub points_split : LiveAreLater → PointsAlwaysSplit
points_split live opening start events version session first its opens became high = always_splits live opening start opens version session first became.was events high
