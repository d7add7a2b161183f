-- As a session takes shares for what waits, each update that waits is of the version that the phase word says: nobody has come to in-progress then.
use Rattle.std.proofs.Common.{◌≡◌, inl, inr, ℕ, ◌+◌, ◌*◌, ◌<◌, ◌≤◌, ◌∙◌, List, arith, ap, sym, subst, true}
use Rattle.std.specs.Prelude.{Option, Some, None}
use Rattle.fkv_base.specs.declared.numbers.Version.{Version}
use Rattle.fkv_base.specs.declared.phases.Phase.{Phase}
use Rattle.fkv_base.specs.declared.phases.Phase.TheVariants.{InProgress, Prepare, Rest, WaitFlush, WaitPending}
use Rattle.law_refine.specs.Below.fkv_ops.Trying.{is_prepare}
use Rattle.law_refine.specs.Below.fkv_session.Catching.{Catching}
use Rattle.law_refine.specs.Below.fkv_session.Catching.TheVariants.{Latches}
use Rattle.law_refine.specs.Below.fkv_session.CatchCause.{CatchCause}
use Rattle.law_refine.specs.Below.fkv_session.Sitting.{Sitting}
use Rattle.law_refine.specs.Below.fkv_session.Sitting.TheVariants.{CatchesUp}
use Rattle.law_refine.specs.Below.fkv_session.Sessions.{Seat, SessionState}
use Rattle.fkv_words.specs.declared.phase_words.PhaseSaid.{PhaseSaid}
use Rattle.fkv_words.specs.declared.phase_words.PhaseSaid.TheVariants.{Says, Spoiled}
use Rattle.fkv_words.specs.PhaseWords.{phase_said}
use Rattle.law_refine.specs.Below.fkv_world.Opened.{HasBecome}
use Rattle.law_refine.specs.Below.fkv_world.Runs.{World, run}
use Rattle.law_refine.specs.Below.fkv_world.World.{Event, seat_at}
use Rattle.law_commit.specs.Floor.Stands.{FloorAlwaysStands, HasFloor, stage_number}
use Rattle.law_commit.specs.PhaseStores.{phase_at}
use Rattle.law_commit.specs.PhaseVersions.{version_said}
use Rattle.law_commit.specs.Phases.Staged.{Stage}
use Rattle.law_commit.specs.Quiet.{IsOwnOrBefore, LatchesAtItsVersion, OpensQuiet, SaysMovingTo, WaitsFromBefore, rank_now, rank_said}
use Rattle.law_commit.specs.Ranks.{rank}
use Rattle.law_commit.specs.Versions.Requests.{AreUpdatesSo}
use Rattle.law_commit.specs.Views.{IsComing, IsTakenFrom, Sight, TakesUp, View, rank_of, sight_found, sight_in, sight_of}
use Rattle.law_commit.proofs.Measured.{ComesBetween}
use Rattle.law_commit.proofs.Sights.{coming_seen, view_seen}
use Rattle.law_commit.proofs.OfQuiet.Before.{lower_or}
use Rattle.law_commit.proofs.OfQuiet.Ranks.{staged_rank}
use Rattle.law_commit.proofs.OfShares.Alone.{awake_at, enters_so, homes_so, moving_at, never_enters, prepare_is}
use Rattle.law_commit.proofs.OfShares.Enters.{CatchEnters}
use Rattle.law_commit.proofs.OfShares.Onward.{life_under, rank_high}
use Rattle.law_commit.proofs.OfShares.SessionsMove.{SittingMoving}
use Rattle.law_commit.proofs.OfVersions.Requests.{all_so, update_at}

-- ---- ranks
-- at the rank of prepare of a number the phase word says that number
word_so : (said : PhaseSaid) (number : ℕ) → rank_said said ≡ 5 * number + 1 → version_said said ≡ number
word_so Spoiled number e = absurd (omega (arith, e))
word_so (Says Rest version) number e = absurd (omega (arith, e))
word_so (Says Prepare version) number e = omega (arith, e)
word_so (Says InProgress version) number e = absurd (omega (arith, e))
word_so (Says WaitPending version) number e = absurd (omega (arith, e))
word_so (Says WaitFlush version) number e = absurd (omega (arith, e))

-- and a view at it, or up to two ranks below, is of that version
view_so : (phase : Phase) (version number : ℕ) → 0 < number → 5 * number ≤ rank phase version + 1 → rank phase version ≤ 5 * number + 1 → version ≡ number
view_so Rest version number some low high = omega (arith, some, low, high)
view_so Prepare version number some low high = omega (arith, some, low, high)
view_so InProgress version number some low high = absurd (omega (arith, some, low, high))
view_so WaitPending version number some low high = absurd (omega (arith, some, low, high))
view_so WaitFlush version number some low high = omega (arith, some, low, high)

-- the phase word is at prepare of this version
record IsAtPrepare (said : PhaseSaid) (version : ℕ) : Type 0 where
  its_rank : rank_said said ≡ 5 * version + 1
  its_version : version_said said ≡ version

at_prepare : (number : Version) (stage : Stage) (said : PhaseSaid) (view : View) (coming : ℕ) → 0 < number.0 → rank_said said ≡ 5 * number.0 + stage_number stage → HasFloor number stage view → rank_of view ≤ 5 * coming + 1
    → 5 * coming + 1 ≤ rank_said said → (is_prepare view.phase ≡ true → view.version.0 ≡ coming → ⊥) → IsAtPrepare said view.version.0
at_prepare number stage said view coming some rank_is floor up high other = elim (lower_or 2 (stage_number stage)) [
  | inl far ↦
      let from = rank_high view.phase view.version.0 in
      absurd (never_enters number stage view.phase view.version.0 coming far (floor.in_progress far) (omega (arith, high, rank_is)) (omega (arith, from, up)) other)
  | inr few ↦
      let rest = floor.rest in
      let same : coming ≡ number.0 = omega (arith, few, rest, up, high, rank_is) in
      let here : rank_said said ≡ 5 * number.0 + 1 = omega (arith, few, rest, up, high, rank_is) in
      let own = view_so view.phase view.version.0 number.0 some rest (omega (arith, up, same)) in
      record { its_rank = omega (arith, here, own); its_version = word_so said number.0 here ∙ sym own }
]

-- so it says in-progress and wait-pending of no version
not_moving : (said : PhaseSaid) (own : Version) → rank_said said ≡ 5 * own.0 + 1 → SaysMovingTo said own → ⊥
not_moving said own e (inl moves) = let its = ap rank_said moves in omega (arith, e, its)
not_moving said own e (inr moves) = let its = ap rank_said moves in omega (arith, e, its)

own_so : (said : PhaseSaid) (own : Version) (version : ℕ) → IsAtPrepare said own.0 → IsOwnOrBefore said own version → version ≡ version_said said
own_so said own version at (inl same) = same ∙ sym at.its_version
own_so said own version at (inr before) = absurd (not_moving said own at.its_rank before.1)

-- ---- in a life
module _ (floors : FloorAlwaysStands) (before : WaitsFromBefore) (opening : World) (start : ℕ) (events : List Event) (session : ℕ) (first its : SessionState) (opens : OpensQuiet opening start) (became : HasBecome opening events session first its) where
  abbrev k : Seat
  k = seat_at opening.now session

  abbrev said : PhaseSaid
  said = phase_said (phase_at (run opening events).now)

  abbrev sight : Sight
  sight = sight_of opening events session

  under : ComesBetween rank_of (rank_of (sight_of opening events session).view) (rank_now opening events) (sight_of opening events session).coming
  under =
      let same : sight_of opening events session ≡ sight_in opening session first events = ap (sight_found opening events session) became.was in
      subst (λ (x : Sight). ComesBetween rank_of (rank_of x.view) (rank_now opening events) x.coming) (sym same) (life_under opening start session first opens.guarded opens.opened opens.seen became.was events).coming

  by_coming : (found : Option View) → IsTakenFrom found its.catching.seen → ComesBetween rank_of (rank_of sight.view) (rank_now opening events) found → its.is_awake ≡ true → is_prepare its.catching.seen.phase ≡ true
      → (is_prepare its.seen.phase ≡ true → its.seen.version.0 ≡ its.catching.seen.version.0 → ⊥) → IsAtPrepare said its.seen.version.0
  by_coming None taken between awake prepares other = absurd taken
  by_coming (Some view) taken between awake prepares other =
      let stands = floors opening start events opens.guarded opens.opened opens.seen in
      let floor = stands.floor session first its became awake in
      let saw = view_seen opening events session first its became in
      let prepare : view.phase ≡ Prepare = prepare_is view.phase (subst (λ (phase : Phase). is_prepare phase ≡ true) taken.phase prepares) in
      let rank_is : rank_of view ≡ 5 * view.version.0 + 1 = ap (λ (phase : Phase). rank phase view.version.0) prepare in
      let up = between.0 in
      let high = between.1 in
      let here = at_prepare stands.number stands.stage said sight.view view.version.0 stands.staged.fits.some (staged_rank (run opening events).now stands.number stands.stage stands.staged) floor (omega (arith, up, rank_is)) (omega (arith, high, rank_is))
      (λ was same. other (subst (λ (phase : Phase). is_prepare phase ≡ true) (sym saw.phase) was) (ap (λ (v : Version). v.0) saw.version ∙ (same ∙ sym (ap (λ (v : Version). v.0) taken.version)))) in
      subst (λ (v : Version). IsAtPrepare said v.0) (sym saw.version) here

  pub latches_so : (cause : CatchCause) (i : ℕ) → its.step ≡ CatchesUp cause → its.catching.step ≡ Latches i → AreUpdatesSo (λ version. version ≡ version_said said) its.requests
  latches_so cause i at is =
      let moving : SittingMoving k (homes_so k opens.guarded.buckets) its (CatchesUp cause) =
      subst (λ (step : Sitting). SittingMoving k (homes_so k opens.guarded.buckets) its step) at (moving_at opening events session first its opens.guarded.buckets became) in
      let enters : CatchEnters k.places its.seen its.requests its.catching (Latches i) = subst (λ (step : Catching). CatchEnters k.places its.seen its.requests its.catching step) is moving in
      let takes : TakesUp sight its.catching its.catching.step = subst (λ (step : Sitting). IsComing sight its step) at (coming_seen opening events session first its became) in
      let taken : IsTakenFrom sight.coming its.catching.seen = subst (λ (step : Catching). TakesUp sight its.catching step) is takes in
      let awake = awake_at opening events session first its became (λ asleep. enters.1 asleep.none_wait) in
      let entered = enters_so its.seen its.catching.seen enters.0 in
      let here = by_coming sight.coming taken under awake entered.0 entered.1 in
      let own = before opening start events session first its opens became in
      all_so (λ version. version ≡ version_said said) its.requests
      (λ index pending got updates. own_so said its.seen.version pending.request.version.0 here (update_at (IsOwnOrBefore said its.seen.version) its.requests index pending got own.waiting updates))

pub latches_at_its_version : FloorAlwaysStands → WaitsFromBefore → LatchesAtItsVersion
latches_at_its_version floors before opening start events session first its cause i opens became at is = latches_so floors before opening start events session first its opens became cause i at is
