-- How the versions of a session's updates lie at a moment of a life, by what its session has seen of the phase.
use Rattle.std.proofs.Common.{◌≡◌, ℕ, ◌+◌, ◌*◌, ◌-◌, ◌<◌, ◌≤◌, refl, sym, ap, ◌∙◌, subst, arith, Bool, true, false, List}
use Rattle.std.specs.Prelude.{Some, nat_le, nat_lt, slice_get}
use Rattle.std.proofs.lemmas.Bool.Decides.{nat_tests}
use Rattle.fkv_base.specs.declared.numbers.Version.{Version}
use Rattle.fkv_base.specs.declared.phases.Phase.{Phase}
use Rattle.fkv_base.specs.declared.phases.Phase.TheVariants.{InProgress, Prepare, Rest, WaitFlush, WaitPending}
use Rattle.law_commit.specs.Below.fkv_ops.Requests.{is_read}
use Rattle.law_commit.specs.Below.fkv_ops.Trying.{is_moving_on, is_prepare}
use Rattle.law_commit.specs.Below.fkv_pending.PendingRequest.{PendingRequest}
use Rattle.law_commit.specs.Below.fkv_session.Sitting.{Sitting}
use Rattle.law_commit.specs.Below.fkv_session.Sitting.TheVariants.{Attempts, Polls}
use Rattle.law_commit.specs.Below.fkv_session.Sessions.{SessionState}
use Rattle.law_commit.specs.Below.fkv_world.Opened.{HasBecome}
use Rattle.law_commit.specs.Below.fkv_world.Runs.{World, run}
use Rattle.law_commit.specs.Below.fkv_world.World.{Event}
use Rattle.law_commit.specs.Floor.Stands.{FloorAlwaysStands, FloorStands, HasFloor, stage_number}
use Rattle.law_commit.specs.PhaseVersions.{phase_version, version_said}
use Rattle.law_commit.specs.Phases.Staged.{DefersPending, DefersProgress, FitsVersion, Flushes, Pends, Prepares, Progresses, Rests, Stage, stage_version}
use Rattle.law_commit.specs.Quiet.{HasNoneUpto, IsLater, NoneIsLeft, OpensQuiet, flush_rank}
use Rattle.law_commit.specs.Ranks.{rank}
use Rattle.law_commit.specs.Versions.Cells.{IsFromUpto}
use Rattle.law_commit.specs.Versions.Requests.{AttemptsSo, IsUpdateSo, RequestsFrom}
use Rattle.law_commit.specs.Views.{View, rank_of, sight_of}
use Rattle.law_commit.proofs.OfPhases.Awake.{life_so}
use Rattle.law_commit.proofs.OfQuiet.Ranks.{few_stages, staged_rank}
use Rattle.law_commit.proofs.OfVersions.Requests.{life_requests, update_at}
use Rattle.law_commit.proofs.Shown.{view_seen}
use Rattle.law_commit.specs.Phases.Projected.{SitsAwake}
use Rattle.law_commit.specs.Below.law_local.Sessions.Known.{is_attempting}

-- ---- by the stage
-- the last version of which no update is left
abbrev pub gone_by : ℕ → Stage → ℕ
gone_by number Flushes = number
gone_by number stage = number - 1

-- the version that the phase word says
abbrev pub said_by : ℕ → Stage → ℕ
said_by number Rests = number
said_by number Prepares = number
said_by number DefersProgress = number
said_by number stage = number + 1

said_so : (number : Version) (stage : Stage) → FitsVersion number stage → (stage_version number stage).0 ≡ said_by number.0 stage
said_so number Rests fits = refl
said_so number Prepares fits = refl
said_so number DefersProgress fits = refl
said_so number Progresses fits = let low = fits.lower refl in omega (arith, low)
said_so number DefersPending fits = let low = fits.lower refl in omega (arith, low)
said_so number Pends fits = let low = fits.lower refl in omega (arith, low)
said_so number Flushes fits = let low = fits.lower refl in omega (arith, low)

gone_low : (number : ℕ) (stage : Stage) → 0 < number → flush_rank (gone_by number stage) ≤ 5 * number + stage_number stage
gone_low number Rests some = omega (arith, some)
gone_low number Prepares some = omega (arith, some)
gone_low number DefersProgress some = omega (arith, some)
gone_low number Progresses some = omega (arith, some)
gone_low number DefersPending some = omega (arith, some)
gone_low number Pends some = omega (arith, some)
gone_low number Flushes some = omega (arith, some)

-- what is gone, by how far the stage is: the commit's number from wait-flush on
gone_more : (number : ℕ) (stage : Stage) → 0 < number → number ≤ gone_by number stage + 1
gone_more number Rests some = omega (arith, some)
gone_more number Prepares some = omega (arith, some)
gone_more number DefersProgress some = omega (arith, some)
gone_more number Progresses some = omega (arith, some)
gone_more number DefersPending some = omega (arith, some)
gone_more number Pends some = omega (arith, some)
gone_more number Flushes some = omega (arith, some)

gone_most : (number : ℕ) (stage : Stage) → 4 ≤ stage_number stage → gone_by number stage ≡ number
gone_most number Flushes far = refl
gone_most number Rests far = absurd (omega (arith, far))
gone_most number Prepares far = absurd (omega (arith, far))
gone_most number DefersProgress far = absurd (omega (arith, far))
gone_most number Progresses far = absurd (omega (arith, far))
gone_most number DefersPending far = absurd (omega (arith, far))
gone_most number Pends far = absurd (omega (arith, far))

-- the version that the word says is the commit's up to prepare, and the next one from in-progress on
said_low : (number : ℕ) (stage : Stage) → stage_number stage ≤ 1 → said_by number stage ≡ number
said_low number Rests near = refl
said_low number Prepares near = refl
said_low number DefersProgress near = refl
said_low number Progresses near = absurd (omega (arith, near))
said_low number DefersPending near = absurd (omega (arith, near))
said_low number Pends near = absurd (omega (arith, near))
said_low number Flushes near = absurd (omega (arith, near))

said_most : (number : ℕ) (stage : Stage) → said_by number stage ≤ number + 1
said_most number Rests = omega arith
said_most number Prepares = omega arith
said_most number DefersProgress = omega arith
said_most number Progresses = omega arith
said_most number DefersPending = omega arith
said_most number Pends = omega arith
said_most number Flushes = omega arith

-- ---- by the phase
-- an update that isn't of the version to which its session goes on is of the first version that is left
module _ (number : ℕ) (stage : Stage) (some : 0 < number) where
  settled : (phase : Phase) (its w : ℕ) → rank phase its ≤ 5 * number + stage_number stage → w ≤ its → (is_moving_on phase ≡ true → w ≡ its → ⊥) → w ≤ gone_by number stage + 1
  settled phase its w low most other = by_far (nat_lt (stage_number stage) 4) refl
    where
      goes_below : is_moving_on phase ≡ true → w < its
      goes_below moves = let off = other moves in grind (arith, most, off)

      by_far : (b : Bool) → nat_lt (stage_number stage) 4 ≡ b → w ≤ gone_by number stage + 1
      by_far true e = let near : stage_number stage < 4 = grind (arith, nat_tests, e) in let more = gone_more number stage some in below phase low goes_below near more
        where
          below : (phase : Phase) → rank phase its ≤ 5 * number + stage_number stage → (is_moving_on phase ≡ true → w < its) → stage_number stage < 4 → number ≤ gone_by number stage + 1 → w ≤ gone_by number stage + 1
          below Rest low goes near more = omega (arith, low, most, near, more)
          below Prepare low goes near more = omega (arith, low, most, near, more)
          below WaitFlush low goes near more = omega (arith, low, most, near, more)
          below InProgress low goes near more = let less = goes refl in omega (arith, low, less, near, more)
          below WaitPending low goes near more = let less = goes refl in omega (arith, low, less, near, more)
      by_far false e =
          let far : 4 ≤ stage_number stage = grind (arith, nat_tests, e) in
          let few = few_stages stage in
          let is = gone_most number stage far in
          above phase low goes_below few is
        where
          above : (phase : Phase) → rank phase its ≤ 5 * number + stage_number stage → (is_moving_on phase ≡ true → w < its) → stage_number stage ≤ 4 → gone_by number stage ≡ number → w ≤ gone_by number stage + 1
          above Rest low goes few is = omega (arith, low, most, few, is)
          above Prepare low goes few is = omega (arith, low, most, few, is)
          above WaitFlush low goes few is = omega (arith, low, most, few, is)
          above InProgress low goes few is = omega (arith, low, most, few, is)
          above WaitPending low goes few is = omega (arith, low, most, few, is)

  -- one that doesn't share its latch is of the phase word's version
  unshared : (phase : Phase) (its w : ℕ) → rank phase its ≤ 5 * number + stage_number stage → 5 * number ≤ rank phase its + 1 → (2 ≤ stage_number stage → 5 * number + 1 ≤ rank phase its) → is_prepare phase ≡ false → (is_moving_on phase ≡ true → w ≡ its)
      → gone_by number stage < w → said_by number stage ≤ w
  unshared phase its w low rest progress unprepared moves left = by_near (nat_le (stage_number stage) 1) refl
    where
      more : number ≤ gone_by number stage + 1
      more = gone_more number stage some

      most : said_by number stage ≤ number + 1
      most = said_most number stage

      by_near : (b : Bool) → nat_le (stage_number stage) 1 ≡ b → said_by number stage ≤ w
      by_near true e = let near : stage_number stage ≤ 1 = grind (arith, nat_tests, e) in let is = said_low number stage near in omega (arith, is, more, left)
      by_near false e =
          let far : 2 ≤ stage_number stage = grind (arith, nat_tests, e) in
          let few = few_stages stage in
          far_off phase low (progress far) unprepared moves few (λ end. gone_most number stage end)
        where
          by_flush : 5 * its ≤ 5 * number + stage_number stage + 1 → 5 * number + 2 ≤ 5 * its → stage_number stage ≤ 4 → (4 ≤ stage_number stage → gone_by number stage ≡ number) → said_by number stage ≤ w
          by_flush low high few end = let last : 4 ≤ stage_number stage = omega (arith, low, high, few) in let is = end last in omega (arith, is, most, left)

          far_off : (phase : Phase) → rank phase its ≤ 5 * number + stage_number stage → 5 * number + 1 ≤ rank phase its → is_prepare phase ≡ false → (is_moving_on phase ≡ true → w ≡ its) → stage_number stage ≤ 4 → (4 ≤ stage_number stage → gone_by number stage ≡ number)
              → said_by number stage ≤ w
          far_off Rest low high unprepared moves few end = absurd (omega (arith, low, high, few))
          far_off Prepare low high unprepared moves few end = cc
          far_off WaitFlush low high unprepared moves few end = by_flush (omega (arith, low)) (omega (arith, high)) few end
          far_off InProgress low high unprepared moves few end = let is = moves refl in omega (arith, is, most, high)
          far_off WaitPending low high unprepared moves few end = let is = moves refl in omega (arith, is, most, high)

never_both : (phase : Phase) → is_prepare phase ≡ true → is_moving_on phase ≡ true → ⊥
never_both Prepare prepares moves = cc
never_both Rest prepares moves = cc
never_both InProgress prepares moves = cc
never_both WaitPending prepares moves = cc
never_both WaitFlush prepares moves = cc

-- ---- what a session attempts
attempt_so : (P : ℕ → Type 0) (s : SessionState) (step : Sitting) → is_attempting step ≡ true → AttemptsSo P s step → IsUpdateSo P s.attempt.pending
attempt_so P s (Attempts has_shifted) attempts so = so
attempt_so P s (Polls index) attempts so = so
attempt_so P s step attempts so = cc

attempts_awake : (s : SessionState) (step : Sitting) → is_attempting step ≡ true → SitsAwake s step → s.is_awake ≡ true
attempts_awake s (Attempts has_shifted) attempts awake = awake
attempts_awake s (Polls index) attempts awake = awake
attempts_awake s step attempts awake = cc

module _ (floors : FloorAlwaysStands) (left : NoneIsLeft) (opening : World) (start : ℕ) (events : List Event) (quiet : OpensQuiet opening start) where
  abbrev pub stands : FloorStands opening events
  stands = floors opening start events quiet.guarded quiet.opened quiet.seen

  abbrev pub number : ℕ
  number = stands.number.0

  some : 0 < number
  some = stands.staged.fits.some

  -- the last version of which no update is left at this moment, and the version of the phase word
  abbrev pub gone : ℕ
  gone = gone_by number stands.stage

  pub said : phase_version (run opening events).now.words ≡ said_by number stands.stage
  said = ap version_said stands.staged.word ∙ said_so stands.number stands.stage stands.staged.fits

  -- which is that of the commit that is next, or the one behind it
  pub said_next : phase_version (run opening events).now.words ≤ number + 1
  said_next = let is = said in let most = said_most number stands.stage in omega (arith, is, most)

  none_gone : (session : ℕ) (first its : SessionState) → HasBecome opening events session first its → HasNoneUpto gone its
  none_gone session first its became =
      let is = staged_rank (run opening events).now stands.number stands.stage stands.staged in
      let low = gone_low number stands.stage some in
      left opening start events gone session first its quiet became (omega (arith, is, low))

  -- each update that waits is left
  pub waiting_left : (session : ℕ) (first its : SessionState) (index : ℕ) (pending : PendingRequest) → HasBecome opening events session first its → slice_get its.requests index ≡ Some pending → is_read pending.request.op ≡ false
      → gone < pending.request.version.0
  waiting_left session first its index pending became got update = update_at (IsLater gone) its.requests index pending got (none_gone session first its became).waiting update

  module _ (session : ℕ) (first its : SessionState) (became : HasBecome opening events session first its) (attempts : is_attempting its.step ≡ true) where
    pub awake : its.is_awake ≡ true
    awake = attempts_awake its its.step attempts (life_so opening events session first its became)

    abbrev pub view : View
    view = (sight_of opening events session).view

    floor : HasFloor stands.number stands.stage view
    floor = stands.floor session first its became awake

    -- its view is what it goes by
    low_rank : rank its.seen.phase its.seen.version.0 ≤ 5 * number + stage_number stands.stage
    low_rank = subst (λ (r : ℕ). r ≤ 5 * number + stage_number stands.stage) (sym same_rank) floor.low
      where
        same_rank : rank its.seen.phase its.seen.version.0 ≡ rank_of view
        same_rank = let saw = view_seen opening events session first its became in ap (λ (p : Phase). rank p its.seen.version.0) saw.phase ∙ ap (λ (v : Version). rank view.phase v.0) saw.version

    same_rank : rank_of view ≡ rank its.seen.phase its.seen.version.0
    same_rank = let saw = view_seen opening events session first its became in sym (ap (λ (p : Phase). rank p its.seen.version.0) saw.phase ∙ ap (λ (v : Version). rank view.phase v.0) saw.version)

    pub attempt_left : is_read its.attempt.pending.request.op ≡ false → gone < its.attempt.pending.request.version.0
    attempt_left update = attempt_so (IsLater gone) its its.step attempts (none_gone session first its became).attempted update

    -- so it is of the version of the commit that is next, or of a later one
    pub attempt_next : is_read its.attempt.pending.request.op ≡ false → number ≤ its.attempt.pending.request.version.0
    attempt_next update = let left_over = attempt_left update in let more = gone_more number stands.stage some in omega (arith, left_over, more)

    requests : RequestsFrom (phase_version opening.now.words) its
    requests = life_requests opening start events session first its quiet.guarded quiet.seen.rests became

    pub attempt_upto : is_read its.attempt.pending.request.op ≡ false → its.attempt.pending.request.version.0 ≤ its.seen.version.0
    attempt_upto update = (attempt_so (IsFromUpto (phase_version opening.now.words) its.seen.version.0) its its.step attempts requests.attempted update).1

    -- one that isn't of the version to which its session goes on has no older one beside it
    pub attempt_settled : is_read its.attempt.pending.request.op ≡ false → (is_moving_on its.seen.phase ≡ true → its.attempt.pending.request.version.0 ≡ its.seen.version.0 → ⊥) → its.attempt.pending.request.version.0 ≤ gone + 1
    attempt_settled update other = settled number stands.stage some its.seen.phase its.seen.version.0 its.attempt.pending.request.version.0 low_rank (attempt_upto update) other

    -- out of prepare, one that isn't older than its session is of the phase word's version
    pub attempt_newest : is_read its.attempt.pending.request.op ≡ false → is_prepare its.seen.phase ≡ false → (is_moving_on its.seen.phase ≡ true → its.attempt.pending.request.version.0 ≡ its.seen.version.0)
        → phase_version (run opening events).now.words ≤ its.attempt.pending.request.version.0
    attempt_newest update unprepared moves =
        let rest : 5 * number ≤ rank its.seen.phase its.seen.version.0 + 1 = (let high = floor.rest in let same = same_rank in omega (arith, high, same)) in
        let newest = unshared number stands.stage some its.seen.phase its.seen.version.0 its.attempt.pending.request.version.0 low_rank rest (λ far. let high = floor.in_progress far in let same = same_rank in omega (arith, high, same)) unprepared moves (attempt_left update) in
        let is = said in
        omega (arith, newest, is)

    -- in prepare it is of its session's version
    pub attempt_prepared : is_read its.attempt.pending.request.op ≡ false → is_prepare its.seen.phase ≡ true → its.attempt.pending.request.version.0 ≡ its.seen.version.0
    attempt_prepared update prepares =
        let most = settled number stands.stage some its.seen.phase its.seen.version.0 its.seen.version.0 low_rank (omega arith) (λ moves same. never_both its.seen.phase prepares moves) in
        let left_over = attempt_left update in
        let upto = attempt_upto update in
        omega (arith, most, left_over, upto)
