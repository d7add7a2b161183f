-- What is made from an address on is of a later version than a commit's, if all that is attempted is.
use Rattle.std.proofs.Common.{◌≡◌, inl, inr, ℕ, ◌+◌, ◌*◌, ◌<◌, ◌≤◌, ◌∙◌, List, [], ◌∷◌, ◌++◌, ap, sym, subst, arith, true}
use Rattle.std.specs.Prelude.{Some, None}
use Rattle.fkv_base.specs.declared.numbers.Version.{Version}
use Rattle.fkv_base.specs.declared.phases.Phase.{Phase}
use Rattle.fkv_base.specs.declared.phases.Phase.TheVariants as phases
use Rattle.law_refine.specs.Below.fkv_commit.Commit.{Commit}
use Rattle.law_refine.specs.Below.fkv_session.Sitting.{Sitting}
use Rattle.law_refine.specs.Below.fkv_session.Sitting.TheVariants.{Attempts, Polls}
use Rattle.law_refine.specs.Below.fkv_session.Sessions.{SessionState}
use Rattle.fkv_words.specs.PhaseWords.{phase_said}
use Rattle.fkv_words.specs.declared.phase_words.PhaseSaid.TheVariants.{Says}
use Rattle.law_refine.specs.Below.fkv_world.Opened.{HasBecome, IsOpenedWorld}
use Rattle.law_refine.specs.Below.fkv_world.Runs.{World, run}
use Rattle.law_refine.specs.Below.fkv_world.World.{Event}
use Rattle.law_refine.specs.Below.law_world.Guarded.Shows as guard
use Rattle.law_log.specs.Chains.{Logged, Unborn}
use Rattle.law_log.specs.Ghosts.{Ghosts}
use Rattle.law_refine.specs.Events.GhostEvents.{ghost_events, home_in, life_ghosts, mapped, serials_in}
use Rattle.law_refine.specs.Events.Reserved.{IsUnbornFrom, tail_at}
use Rattle.law_refine.proofs.OfEvents.Unborn.{ghost_unborn}
use Rattle.law_refine.proofs.OfSeen.There.{was_there}
use Rattle.law_commit.specs.Decided.Later.{AttemptLater, AttemptedLater, IsFromPending, PollLater, PollsSo}
use Rattle.law_commit.specs.Floor.Stands.{FloorAlwaysStands, FloorStands, OpensSeen, stage_number}
use Rattle.law_commit.specs.PhaseStores.{phase_at}
use Rattle.law_commit.specs.Phases.Projected.{SitsAwake}
use Rattle.law_commit.specs.Phases.Staged.{DefersPending, DefersProgress, Flushes, Pends, Prepares, Progresses, Rests, Stage, stage_phase}
use Rattle.law_commit.specs.Ranks.{rank}
use Rattle.law_commit.specs.Versions.Cells.{CellsFrom, made_in}
use Rattle.law_commit.specs.Versions.Requests.{AttemptsAtItsVersion, AttemptsSo}
use Rattle.law_commit.specs.Views.{View, sight_of}
use Rattle.law_commit.proofs.Sights.{view_seen}
use Rattle.law_commit.proofs.OfPhases.Awake.{life_so}
use Rattle.law_commit.proofs.OfVersions.Cells.{made_so}
use Rattle.law_commit.proofs.OfVersions.Requests.{life_requests}
use Rattle.law_commit.proofs.OfVersions.Reserves.{life_reserves}

-- ---- records
none_made : (logged : Logged) (version low : ℕ) → logged ≡ Unborn → made_in logged ≡ Some version → low ≤ version
none_made logged version low none made = let clash : None ≡ Some version = sym (ap made_in none) ∙ made in cc

pub makes_later : (opening : World) (start : ℕ) (ghosts : Ghosts) (later before : List Event) (bound version : ℕ) → guard.IsOpened opening.now start → IsUnbornFrom (tail_at opening.now) ghosts → tail_at (run opening before).now ≤ bound
    → AttemptedLater version opening later before → CellsFrom bound (version + 1) (life_ghosts opening ghosts (later ++ before)).log
unfolding mapped
makes_later opening start ghosts [] before bound version opened none low attempted a its high made =
    none_made ((life_ghosts opening ghosts before).log.cells a) its (version + 1) (ghost_unborn opening start ghosts before opened none a (omega (arith, low, high))) made
makes_later opening start ghosts (event ∷ later) before bound version opened none low attempted a its high made =
    elim (made_so (λ v. version < v) (home_in opening.now.shape.bucket_bits) ghosts (ghost_events (serials_in opening.now) (run opening (later ++ before)) event) (mapped opening (later ++ before)) a its
    (life_reserves (λ v. version < v) opening start (later ++ before) event opened attempted.0) made) [
      | inl was ↦ makes_later opening start ghosts later before bound version opened none low attempted.1 a its high was
      | inr above ↦ omega (arith, above)
    ]

-- ---- the commit in hand
from_stage : (stage : Stage) (version : Version) → IsFromPending (Says (stage_phase stage) version) → 3 ≤ stage_number stage
from_stage Rests version from = absurd from
from_stage Prepares version from = absurd from
from_stage DefersProgress version from = absurd from
from_stage Progresses version from = absurd from
from_stage DefersPending version from = absurd from
from_stage Pends version from = omega arith
from_stage Flushes version from = omega arith

later_ranked : (phase : Phase) (number version : ℕ) → 5 * number + 2 ≤ rank phase version → number < version
later_ranked phases.Rest number version low = omega (arith, low)
later_ranked phases.Prepare number version low = omega (arith, low)
later_ranked phases.InProgress number version low = omega (arith, low)
later_ranked phases.WaitPending number version low = omega (arith, low)
later_ranked phases.WaitFlush number version low = omega (arith, low)

pub goes_by_later : FloorAlwaysStands → (opening : World) (start : ℕ) (events : List Event) (c : Commit) (session : ℕ) (first its : SessionState) → guard.IsOpened opening.now start → OpensSeen opening.now
    → (run opening events).now.keeper.commit ≡ Some c → IsFromPending (phase_said (phase_at (run opening events).now)) → HasBecome opening events session first its → its.is_awake ≡ true
    → c.number.0 < its.seen.version.0
goes_by_later floor opening start events c session first its opened seen in_hand from became awake =
    let stands : FloorStands opening events = floor opening start events opened became.opened seen in
    let high = from_stage stands.stage _ (subst IsFromPending stands.staged.word from) in
    let view : View = (sight_of opening events session).view in
    let low = (stands.floor session first its became awake).wait_pending high in
    let later : stands.number.0 < view.version.0 = later_ranked view.phase stands.number.0 view.version.0 low in
    let same : c.number.0 ≡ stands.number.0 = ap (λ (v : Version). v.0) (stands.staged.keeper.has.hand c in_hand).0 in
    let by : its.seen.version.0 ≡ view.version.0 = ap (λ (v : Version). v.0) (view_seen opening events session first its became).version in
    omega (arith, later, same, by)

attempts_later : (version : ℕ) (s : SessionState) (step : Sitting) → (s.is_awake ≡ true → version < s.seen.version.0) → SitsAwake s step → AttemptsAtItsVersion s step → PollsSo (λ its. version < its) s step → AttemptsSo (λ its. version < its) s step
attempts_later version s (Attempts has_shifted) later sits its polls = λ updates. let mine : s.attempt.pending.request.version.0 ≡ s.seen.version.0 = ap (λ (v : Version). v.0) its in let above = later sits in omega (arith, above, mine)
attempts_later version s (Polls index) later sits its polls = polls
attempts_later version s step later sits its polls = tt

pub later_but_polls : FloorAlwaysStands → (opening : World) (start : ℕ) (events : List Event) (c : Commit) → guard.IsOpened opening.now start → IsOpenedWorld opening → OpensSeen opening.now → (run opening events).now.keeper.commit ≡ Some c
    → IsFromPending (phase_said (phase_at (run opening events).now)) → PollLater c.number.0 (run opening events).now → AttemptLater c.number.0 (run opening events).now
later_but_polls floor opening start events c opened world seen in_hand from polls session s found =
    let was = was_there opening events session s found in
    let became : HasBecome opening events session was.first s = record { opened = world; was = was.was; is_now = found } in
    attempts_later c.number.0 s s.step (goes_by_later floor opening start events c session was.first s opened seen in_hand from became) (life_so opening events session was.first s became)
    (life_requests opening start events session was.first s opened seen.rests became).in_hand (polls session s found)
