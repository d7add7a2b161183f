-- An update that waits is of its session's version; or of the one before, as long as the phase word says in-progress or wait-pending of the session's.
use Rattle.std.proofs.Common.{◌≡◌, ◌⊎◌, inl, inr, ℕ, ◌+◌, ◌*◌, ◌<◌, ◌≤◌, List, refl, arith, ap, subst, Bool, true, false}
use Rattle.std.specs.Prelude.{nat_le, Some, slice_get}
use Rattle.std.proofs.lemmas.Bool.Decides.{nat_tests}
use Rattle.fkv_base.specs.declared.numbers.Version.{Version}
use Rattle.fkv_base.specs.declared.phases.Phase.TheVariants.{Rest, Prepare, InProgress, WaitPending, WaitFlush}
use Rattle.law_refine.specs.Below.fkv_pending.PendingRequest.{PendingRequest}
use Rattle.law_refine.specs.Below.fkv_session.Sitting.{Sitting}
use Rattle.law_refine.specs.Below.fkv_session.Sitting.TheVariants.{Attempts, Polls}
use Rattle.law_refine.specs.Below.fkv_session.Sessions.{SessionState}
use Rattle.fkv_words.specs.declared.phase_words.PhaseSaid.{PhaseSaid}
use Rattle.fkv_words.specs.declared.phase_words.PhaseSaid.TheVariants.{Says, Spoiled}
use Rattle.fkv_words.specs.PhaseWords.{phase_said}
use Rattle.law_refine.specs.Below.fkv_world.Opened.{HasBecome}
use Rattle.law_refine.specs.Below.fkv_world.Runs.{World, run}
use Rattle.law_refine.specs.Below.fkv_world.World.{Event}
use Rattle.law_commit.specs.PhaseStores.{phase_at}
use Rattle.law_commit.specs.PhaseVersions.{phase_version, version_said}
use Rattle.law_commit.specs.Quiet.{HasNoneUpto, HasOwnOrBefore, IsLater, IsOwnOrBefore, NoneIsLeft, OpensQuiet, SaysMovingTo, WaitsFromBefore, flush_rank, rank_said}
use Rattle.law_commit.specs.Versions.Cells.{IsFromUpto}
use Rattle.law_commit.specs.Versions.Requests.{AttemptsSo, IsUpdateSo, RequestsFrom}
use Rattle.law_commit.proofs.Rising.{version_below}
use Rattle.law_commit.proofs.OfPhases.LifeStages.{none_ahead, rising_phase}
use Rattle.law_commit.proofs.OfVersions.Requests.{all_so, life_requests, same_version, update_at}

-- ---- by the phase word
-- a version that the word has come to has its first rank behind it
come_to : (said : PhaseSaid) (own : ℕ) → 0 < own → own ≤ version_said said → 5 * own ≤ rank_said said + 3
come_to Spoiled own some up = omega (arith, some, up)
come_to (Says Rest version) own some up = omega (arith, some, up)
come_to (Says Prepare version) own some up = omega (arith, some, up)
come_to (Says InProgress version) own some up = omega (arith, some, up)
come_to (Says WaitPending version) own some up = omega (arith, some, up)
come_to (Says WaitFlush version) own some up = omega (arith, some, up)

-- and before its wait-flush it says in-progress or wait-pending of it
moving : (said : PhaseSaid) (own : Version) → 0 < own.0 → own.0 ≤ version_said said → rank_said said + 2 ≤ 5 * own.0 → SaysMovingTo said own
moving Spoiled own some up low = absurd (omega (arith, some, up))
moving (Says Rest version) own some up low = absurd (omega (arith, some, up, low))
moving (Says Prepare version) own some up low = absurd (omega (arith, some, up, low))
moving (Says WaitFlush version) own some up low = absurd (omega (arith, some, up, low))
moving (Says InProgress version) own some up low = inl (ap (λ (x : Version). Says InProgress x) (same_version version own (omega (arith, some, up, low))))
moving (Says WaitPending version) own some up low = inr (ap (λ (x : Version). Says WaitPending x) (same_version version own (omega (arith, some, up, low))))

pub lower_or : (m n : ℕ) → (m ≤ n) ⊎ (n < m)
lower_or m n = by_test (nat_le m n) refl
  where
    by_test : (b : Bool) → nat_le m n ≡ b → (m ≤ n) ⊎ (n < m)
    by_test true e = inl (grind (arith, nat_tests, e))
    by_test false e = inr (grind (arith, nat_tests, e))

none_less : (n : ℕ) → n < n → ⊥
none_less n low = omega (arith, low)

version_so : (said : PhaseSaid) (own : Version) (its : ℕ) → its ≤ own.0 → own.0 ≤ version_said said → (flush_rank its ≤ rank_said said → ⊥) → IsOwnOrBefore said own its
version_so said own its upto below none = elim (lower_or own.0 its) [
  | inl up ↦ inl (omega (arith, upto, up))
  | inr less ↦ elim (lower_or (flush_rank its) (rank_said said)) [
    | inl high ↦ absurd (none high)
    | inr few ↦
        let come = come_to said own.0 (omega (arith, less)) below in
        inr (omega (arith, less, few, come), moving said own (omega (arith, less)) below (omega (arith, less, few)))
  ]
]

-- ---- in a life
module _ (left : NoneIsLeft) (opening : World) (start : ℕ) (events : List Event) (session : ℕ) (first its : SessionState) (opens : OpensQuiet opening start) (became : HasBecome opening events session first its) where
  abbrev said : PhaseSaid
  said = phase_said (phase_at (run opening events).now)

  abbrev IsSo : ℕ → Type 0
  IsSo = IsOwnOrBefore said its.seen.version

  abbrev IsUpto : ℕ → Type 0
  IsUpto = IsFromUpto (phase_version opening.now.words) its.seen.version.0

  requests : RequestsFrom (phase_version opening.now.words) its
  requests = life_requests opening start events session first its opens.guarded opens.seen.rests became

  below : its.seen.version.0 ≤ version_said said
  below = version_below opening events session first its became (none_ahead opening.now opens.seen.rests) (rising_phase opening start events session first its became opens.guarded opens.seen.rests)

  gone : (version : ℕ) → flush_rank version ≤ rank_said said → HasNoneUpto version its
  gone version high = left opening start events version session first its opens became high

  waits : (i : ℕ) (pending : PendingRequest) → slice_get its.requests i ≡ Some pending → IsUpdateSo IsSo pending
  waits i pending got updates =
      let version : ℕ = pending.request.version.0 in
      version_so said its.seen.version version (update_at IsUpto its.requests i pending got requests.waiting updates).1 below
      (λ high. none_less version (update_at (IsLater version) its.requests i pending got (gone version high).waiting updates))

  -- what is attempted
  tried : IsUpdateSo IsUpto its.attempt.pending → ((version : ℕ) → flush_rank version ≤ rank_said said → IsUpdateSo (IsLater version) its.attempt.pending) → IsUpdateSo IsSo its.attempt.pending
  tried upto later updates =
      let version : ℕ = its.attempt.pending.request.version.0 in
      version_so said its.seen.version version (upto updates).1 below (λ high. none_less version (later version high updates))

  attempts : (step : Sitting) → its.step ≡ step → AttemptsSo IsSo its step
  attempts (Attempts has_shifted) at =
      tried (subst (AttemptsSo IsUpto its) at requests.attempted) (λ version high. subst (AttemptsSo (IsLater version) its) at (gone version high).attempted)
  attempts (Polls i) at =
      tried (subst (AttemptsSo IsUpto its) at requests.attempted) (λ version high. subst (AttemptsSo (IsLater version) its) at (gone version high).attempted)
  attempts step at = tt

  pub own_or_before : HasOwnOrBefore said its
  own_or_before = record { waiting = all_so IsSo its.requests (λ i pending got. waits i pending got); attempted = attempts its.step refl }

pub waits_from_before : NoneIsLeft → WaitsFromBefore
waits_from_before left opening start events session first its opens became = own_or_before left opening start events session first its opens became
