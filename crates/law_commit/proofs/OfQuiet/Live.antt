-- From wait-pending of a commit on each live session goes by a later version than the commit's.
use Rattle.std.proofs.Common.{ℕ, ◌+◌, ◌*◌, ◌≤◌, arith, ap}
use Rattle.fkv_base.specs.declared.numbers.Version.{Version}
use Rattle.fkv_base.specs.declared.phases.Phase.{Phase}
use Rattle.fkv_base.specs.declared.phases.Phase.TheVariants.{Rest, Prepare, InProgress, WaitPending, WaitFlush}
use Rattle.law_refine.specs.Below.fkv_world.Runs.{run}
use Rattle.law_commit.specs.Floor.Stands.{FloorAlwaysStands, HasFloor, stage_number}
use Rattle.law_commit.specs.Phases.Staged.{DefersPending, DefersProgress, Flushes, Pends, Prepares, Progresses, Rests, Stage}
use Rattle.law_commit.specs.Quiet.{LiveAreLater, pending_rank}
use Rattle.law_commit.specs.Ranks.{rank}
use Rattle.law_commit.specs.Views.{View, rank_of, sight_of}
use Rattle.law_commit.proofs.Sights.{view_seen}
use Rattle.law_commit.proofs.OfQuiet.Ranks.{staged_rank}

far : (number : Version) (stage : Stage) (its : View) (version : ℕ) → HasFloor number stage its → pending_rank version ≤ 5 * number.0 + stage_number stage → 5 * version + 2 ≤ rank_of its
far number Pends its version floor high = let rest = floor.rest in let wait = floor.wait_pending (omega arith) in omega (arith, rest, wait, high)
far number Flushes its version floor high = let rest = floor.rest in let wait = floor.wait_pending (omega arith) in omega (arith, rest, wait, high)
far number Rests its version floor high = let rest = floor.rest in omega (arith, rest, high)
far number Prepares its version floor high = let rest = floor.rest in omega (arith, rest, high)
far number DefersProgress its version floor high = let rest = floor.rest in omega (arith, rest, high)
far number Progresses its version floor high = let rest = floor.rest in omega (arith, rest, high)
far number DefersPending its version floor high = let rest = floor.rest in omega (arith, rest, high)

pub rank_low : (phase : Phase) (version : ℕ) → rank phase version ≤ 5 * version + 1
rank_low Rest version = omega arith
rank_low Prepare version = omega arith
rank_low InProgress version = omega arith
rank_low WaitPending version = omega arith
rank_low WaitFlush version = omega arith

pub live_later : FloorAlwaysStands → LiveAreLater
live_later floors opening start events version session first its opens became high awake =
    let stands = floors opening start events opens.guarded opens.opened opens.seen in
    let view : View = (sight_of opening events session).view in
    let said = staged_rank (run opening events).now stands.number stands.stage stands.staged in
    let up = far stands.number stands.stage view version (stands.floor session first its became awake) (omega (arith, high, said)) in
    let low = rank_low view.phase view.version.0 in
    let same = ap (λ (v : Version). v.0) (view_seen opening events session first its became).version in
    omega (arith, up, low, same)
