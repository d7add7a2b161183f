-- The records of an opened store's log are of its commit's version.
use Rattle.std.proofs.Common.{◌≡◌, ℕ, ◌+◌, List, arith, ap, Bool, true, false}
use Rattle.std.specs.Prelude.{Some, cond}
use Rattle.law_opening.specs.Below.fkv_core.Openings.{IsOpeningWorld}
use Rattle.law_commit.specs.Below.fkv_keeper.Keeping.{Finality}
use Rattle.law_opening.specs.Below.fkv_opening.TheOpened.{Opened}
use Rattle.law_commit.specs.Below.fkv_world.World.{Now}
use Rattle.law_commit.specs.PhaseVersions.{phase_version, version_said}
use Rattle.law_commit.specs.Phases.Staged.{OpensAtRest}
use Rattle.law_commit.specs.Versions.Cells.{CellsUpto, made_in}
use Rattle.law_log.specs.Chains.{Cell, Published, Unborn}
use Rattle.law_opening.specs.Log.OpeningLog.{cell_at, logged_at, opening_log}

either_made : (stands : Bool) (cell : Cell) (version : ℕ) → made_in (cond stands (Published cell) Unborn) ≡ Some version → version ≡ cell.version
either_made true cell version made = cc
either_made false cell version made = cc

logged_made : (bytes : List ℕ) (o : Opened) (a version : ℕ) → made_in (logged_at bytes o a) ≡ Some version → version ≡ o.number.0
unfolding logged_at cell_at
logged_made bytes o a version made = either_made _ (cell_at bytes o a) version made

-- it rests in the version behind that
pub opened_version : (o : Opened) (n : Now) → IsOpeningWorld o n → OpensAtRest n → phase_version n.words ≡ o.number.0 + 1
opened_version o n its rests =
    let same : n.keeper.last.number.0 ≡ o.number.0 = ap (λ (last : Finality). last.number.0) its.its_keeper.newest in
    let said : phase_version n.words ≡ n.keeper.last.number.0 + 1 = ap version_said rests.says in
    omega (arith, same, said)

pub opens_upto : (bytes : List ℕ) (o : Opened) (n : Now) → IsOpeningWorld o n → OpensAtRest n → CellsUpto (phase_version n.words) (opening_log bytes o)
opens_upto bytes o n its rests a version made =
    let is = logged_made bytes o a version made in
    let said = opened_version o n its rests in
    omega (arith, is, said)
