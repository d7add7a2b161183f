-- What a life gives of each event of a session, for how its updates share.
use Rattle.std.proofs.Common.{◌≡◌, ◌⊎◌, inl, inr, ℕ, ◌+◌, ◌*◌, ◌<◌, ◌≤◌, List, [], ◌∷◌, ◌++◌, refl, arith, ap, sym, subst, Bool, true, false}
use Rattle.std.specs.Prelude.{⊤}
use Rattle.fkv_base.specs.declared.numbers.Version.{Version}
use Rattle.law_refine.specs.Below.fkv_ops.Seen.{Seen}
use Rattle.law_refine.specs.Below.fkv_pending.PendingRequest.{PendingRequest}
use Rattle.fkv_plane.specs.declared.actions.Action.{Action}
use Rattle.fkv_plane.specs.declared.places.Places.{Places}
use Rattle.law_refine.specs.Below.fkv_session.Catching.{Catching}
use Rattle.law_refine.specs.Below.fkv_session.Catching.TheVariants.{Latches}
use Rattle.law_refine.specs.Below.fkv_session.CatchCause.{CatchCause}
use Rattle.law_refine.specs.Below.fkv_session.Sitting.{Sitting}
use Rattle.law_refine.specs.Below.fkv_session.Sitting.TheVariants.{CatchesUp}
use Rattle.law_refine.specs.Below.fkv_session.Asleep.{IsStepAsleep}
use Rattle.law_refine.specs.Below.fkv_session.CatchingUp.{CatchState}
use Rattle.law_refine.specs.Below.fkv_session.SessionRun.{Begins, Gets, Replies, SessionEvent, session_happens, session_run}
use Rattle.law_refine.specs.Below.fkv_session.Sessions.{IsOpened, Seat, SessionState, asks_after, is_busy, is_word_ask, session_ask}
use Rattle.law_refine.specs.Below.fkv_session.Shares.{HasItsBuckets}
use Rattle.law_refine.specs.Below.fkv_session.Versions.{IsVersion}
use Rattle.law_refine.proofs.Below.fkv_session.Shown.{run_asleep, run_version}
use Rattle.law_refine.proofs.Below.fkv_world.Shown.{session_runs_on}
use Rattle.law_refine.proofs.Below.law_local.OfSessions.Known.{opened_known}
use Rattle.law_commit.specs.Floor.Stands.{stage_number}
use Rattle.law_commit.specs.Phases.Staged.{Stage}
use Rattle.law_commit.specs.Shares.Waiting.{has_shifted, shifts_by}
use Rattle.law_commit.proofs.OfQuiet.Sessions.{HasNoCall, IsAway, asleep_given, asleep_next, here_or_away, idle_given, idle_next, not_both}
use Rattle.law_commit.proofs.OfShares.Alone.{enters_so, homes_so}
use Rattle.law_commit.proofs.OfShares.AttemptsSince.{IsAttemptSharing}
use Rattle.law_commit.proofs.OfShares.CatchesSince.{IsLatching, TakesPrepare}
use Rattle.law_commit.proofs.OfShares.Enters.{CatchEnters}
use Rattle.law_commit.proofs.OfShares.Leaving.{IsFloored, leaves_so}
use Rattle.law_commit.proofs.OfShares.Onward.{IsOn, IsOnward, OwnOn, rank_onward, seen_rank}
use Rattle.law_commit.proofs.OfShares.SessionsMove.{SittingMoving, session_run_moving}
use Rattle.law_commit.proofs.OfShares.SessionsSince.{CatchesSo, FitsEvent, Knows, LeavesSo, Waits, event_known}
use Rattle.law_commit.proofs.OfShares.Waiting.{Latched, MeetNone, both_none, through_so}

-- ---- each event of a session's own fits, so all of it is known
unfoldable pub AllFit : (k : Seat) → HasItsBuckets k → Bool → SessionState → List SessionEvent → Type 0
AllFit k its unshifted first [] = ⊤
AllFit k its unshifted first (event ∷ before) = FitsEvent k its unshifted (session_run k first before) event × AllFit k its unshifted first before

pub run_known : (k : Seat) (its : HasItsBuckets k) (unshifted : Bool) (first : SessionState) (events : List SessionEvent) → IsOpened first → IsVersion first.seen.version.0 → AllFit k its unshifted first events → Knows k its unshifted (session_run k first events)
unfolding session_run AllFit
run_known k its unshifted first [] opened fit all = opened_known (Waits k its unshifted first) (IsAttemptSharing k its unshifted first.seen) first opened
run_known k its unshifted first (event ∷ before) opened fit all =
    event_known k its unshifted (session_run k first before) event all.0 (run_version k first before opened fit) (run_version k first (event ∷ before) opened fit) (run_known k its unshifted first before opened fit all.1)

-- ---- in prepare all share behind each of them, and none has shifted
unfoldable pub OwnLatched : (k : Seat) → HasItsBuckets k → SessionState → List SessionEvent → List SessionEvent → Type 0
OwnLatched k its first own [] = ⊤
OwnLatched k its first own (event ∷ later) =
    (shifts_by k (session_run k first (later ++ own)) event ≡ false) × (Latched k its (session_run k first (event ∷ later ++ own)) × OwnLatched k its first own later)

pub own_latched : (k : Seat) (its : HasItsBuckets k) (first : SessionState) (own part : List SessionEvent) → MeetNone k (session_run k first own) part → has_shifted k (session_run k first own) part ≡ false → Latched k its (session_run k first own)
    → OwnLatched k its first own part
unfolding OwnLatched MeetNone has_shifted
own_latched k its first own [] meets none holds = tt
own_latched k its first own (event ∷ later) meets none holds =
    let s : SessionState = session_run k first own in
    let both = both_none (shifts_by k (session_run k s later) event) (has_shifted k s later) none in (
      rw (session_runs_on k first later own) both.0,
      (subst (λ (x : SessionState). Latched k its x) (sym (session_runs_on k first (event ∷ later) own)) (through_so k its s (event ∷ later) meets none holds), own_latched k its first own later meets.1 both.1 holds),
    )

-- ---- in the part of a session in one event
latching_so : (p : Places) (seen : Seen) (requests : List PendingRequest) (c : CatchState) (step : Catching) → CatchEnters p seen requests c step → IsLatching step → TakesPrepare c step
latching_so p seen requests c (Latches i) enters latches = (enters_so seen c.seen enters.0).0
latching_so p seen requests c step enters latches = absurd latches

away_none : {X : Type 0} (s : SessionState) → IsAway s s.step → is_busy s.step ≡ true → s.is_awake ≡ true → X
away_none s (inl idle) busy awake = not_both (is_busy s.step) busy idle
away_none s (inr asleep) busy awake = not_both s.is_awake awake asleep

module _ (number : Version) (stage : Stage) (some : 0 < number.0) (top : ℕ) (top_is : top ≡ 5 * number.0 + stage_number stage) (k : Seat) (its : HasItsBuckets k) (unshifted : Bool) (first : SessionState) (opened : IsOpened first) where
  abbrev at : List SessionEvent → SessionState
  at events = session_run k first events

  -- who is awake with a call in hand goes by a rank that a live view may have
  abbrev pub IsBusyFloored : List SessionEvent → Type 0
  IsBusyFloored events = is_busy (at events).step ≡ true → (at events).is_awake ≡ true → IsFloored number stage (seen_rank (at events).seen)

  floored_up : (low high : ℕ) → low ≤ high → IsFloored number stage low → IsFloored number stage high
  floored_up low high up floor = let rest = floor.rest in record { rest = omega (arith, up, rest); in_progress = λ far. (let far_on = floor.in_progress far in omega (arith, up, far_on)) }

  busy_by : (event : SessionEvent) (before : List SessionEvent) → IsOn top (at before).seen (at (event ∷ before)).seen → (IsAway (at before) (at before).step → IsAway (at (event ∷ before)) (at (event ∷ before)).step)
      → IsBusyFloored before → IsBusyFloored (event ∷ before)
  busy_by event before on away was = elim (here_or_away (at before)) [
    | inl here ↦ λ busy awake. floored_up (seen_rank (at before).seen) (seen_rank (at (event ∷ before)).seen) on.rises (was here.0 here.1)
    | inr gone ↦ λ busy awake. away_none (at (event ∷ before)) (away gone) busy awake
  ]

  sleeps : (before : List SessionEvent) → (at before).is_awake ≡ false → IsStepAsleep (at before).step
  sleeps before asleep = (run_asleep k first before opened asleep).accepts_none

  replied_away : (reply : ℕ) (before : List SessionEvent) → IsAway (at before) (at before).step → IsAway (at (Replies reply ∷ before)) (at (Replies reply ∷ before)).step
  unfolding session_run session_happens
  replied_away reply before (inl idle) = idle_next k (at before) (asks_after (at before).asks (is_word_ask (session_ask k (at before)))) (at before).step reply refl idle
  replied_away reply before (inr asleep) = asleep_next k (at before) (asks_after (at before).asks (is_word_ask (session_ask k (at before)))) (at before).step reply refl asleep (sleeps before asleep)

  given_away : (action : Action) (before : List SessionEvent) → IsAway (at before) (at before).step → IsAway (at (Gets action ∷ before)) (at (Gets action ∷ before)).step
  unfolding session_run session_happens
  given_away action before (inl idle) = idle_given k (at before) (at before).step action refl idle
  given_away action before (inr asleep) = asleep_given k (at before) (at before).step action refl asleep (sleeps before asleep)

  -- how it goes on, where it catches up
  goes_on : (event : SessionEvent) (before : List SessionEvent) (cause : CatchCause) → (at before).step ≡ CatchesUp cause → IsOn top (at before).seen (at (event ∷ before)).seen → IsBusyFloored before
      → ((at before).requests ≡ []) ⊎ (IsOnward (at before).seen (at (event ∷ before)).seen × LeavesSo (at before).seen (at (event ∷ before)).seen)
  goes_on event before cause catches on busy = by_awake (at before).is_awake refl
    where
      awake_so : IsFloored number stage (seen_rank (at before).seen) → IsOnward (at before).seen (at (event ∷ before)).seen × LeavesSo (at before).seen (at (event ∷ before)).seen
      awake_so floor =
          let onward = rank_onward (at before).seen (at (event ∷ before)).seen on.rises in
          let low = on.low in
          (onward, leaves_so number stage (at before).seen.phase (at (event ∷ before)).seen.phase (at before).seen.version.0 (at (event ∷ before)).seen.version.0 floor (omega (arith, low, top_is)) onward.rises)

      by_awake : (awake : Bool) → (at before).is_awake ≡ awake → ((at before).requests ≡ []) ⊎ (IsOnward (at before).seen (at (event ∷ before)).seen × LeavesSo (at before).seen (at (event ∷ before)).seen)
      by_awake true awake = inr (awake_so (busy (ap is_busy catches) awake))
      by_awake false asleep = inl (run_asleep k first before opened asleep).none_wait

  catches_so : (reply : ℕ) (before : List SessionEvent) → IsOn top (at before).seen (at (Replies reply ∷ before)).seen → IsBusyFloored before → (unshifted ≡ true → Latched k its (at (Replies reply ∷ before)))
      → (cause : CatchCause) → (at before).step ≡ CatchesUp cause → CatchesSo k its unshifted (at before) reply
  unfolding session_run session_happens
  catches_so reply before on busy latched cause catches = record {
    onward = goes_on (Replies reply) before cause catches on busy;
    latching = λ latches. latching_so k.places (at before).seen (at before).requests (at before).catching (at before).catching.step
        (subst (λ (step : Sitting). SittingMoving k (homes_so k its) (at before) step) catches (session_run_moving k (homes_so k its) first before opened)) latches;
    shares = latched;
  }

  fits_so : (event : SessionEvent) (before : List SessionEvent) → IsOn top (at before).seen (at (event ∷ before)).seen → IsBusyFloored before
      → (unshifted ≡ true → (shifts_by k (at before) event ≡ false) × Latched k its (at (event ∷ before))) → FitsEvent k its unshifted (at before) event
  fits_so (Begins call) before on busy latched = tt
  fits_so (Gets action) before on busy latched = tt
  fits_so (Replies reply) before on busy latched = record { catches = catches_so reply before on busy (λ f. (latched f).1); not_shifted = λ f. (latched f).0 }

  record Fits (events : List SessionEvent) : Type 0 where
    all : AllFit k its unshifted first events
    busy : IsBusyFloored events

  through_fits : (own part : List SessionEvent) → HasNoCall part → OwnOn top k first own part → (unshifted ≡ true → OwnLatched k its first own part) → IsBusyFloored own → AllFit k its unshifted first own → Fits (part ++ own)
  unfolding OwnOn OwnLatched AllFit
  through_fits own [] calls on latched busy all = record { all = all; busy = busy }
  through_fits own (Begins call ∷ later) calls on latched busy all = absurd calls
  through_fits own (Replies reply ∷ later) calls on latched busy all =
      let past = through_fits own later calls on.1 (λ f. (latched f).1.1) busy all in
      record {
        all = (fits_so (Replies reply) (later ++ own) on.0 past.busy (λ f. ((latched f).0, (latched f).1.0)), past.all);
        busy = busy_by (Replies reply) (later ++ own) on.0 (replied_away reply (later ++ own)) past.busy;
      }
  through_fits own (Gets action ∷ later) calls on latched busy all =
      let past = through_fits own later calls on.1 (λ f. (latched f).1.1) busy all in
      record { all = (tt, past.all); busy = busy_by (Gets action) (later ++ own) on.0 (given_away action (later ++ own)) past.busy }

  pub part_fits : (own part : List SessionEvent) → HasNoCall part → OwnOn top k first own part → (unshifted ≡ true → OwnLatched k its first own part) → IsBusyFloored own → AllFit k its unshifted first own → AllFit k its unshifted first (part ++ own)
  part_fits own part calls on latched busy all = (through_fits own part calls on latched busy all).all
