-- The worked runs, by computing them.
use Rattle.std.proofs.Common.{refl}
use Rattle.fkv_words.specs.PhaseWords.{phase_said}
use Rattle.fkv_plane.specs.Passing.{passed}
use Rattle.fkv_epoch.specs.Arming.{arm_ask, arm_next}
use Rattle.fkv_epoch.specs.Raising.{raise_ask, raise_next, raise_next_ask, raise_on, free_after}
use Rattle.law_refine.specs.Below.fkv_commit.Deferring.{deferring_ask, seek_ledto, raise_ledto, arm_ledto, deferring_next, deferring_on}
use Rattle.law_refine.specs.Below.fkv_commit.Entering as enter
use Rattle.law_refine.specs.Below.fkv_commit.Seeking as seek
use Rattle.law_refine.specs.Below.fkv_commit.Starting as start
use Rattle.law_refine.specs.Below.fkv_keeper.KeeperRun.{keeper_happens, keeper_run}
use Rattle.law_refine.specs.Below.fkv_keeper.Keeping.{keeping_ask, start_ledto, enter_ledto, keeping_next}
use Rattle.law_refine.specs.Below.fkv_keeper.Keeping as keeping
use Rattle.law_commit.specs.Raises.{raises}
use Rattle.law_commit.specs.WorkedRuns.{RaisesOfRuns}

pub runs_so : RaisesOfRuns
unfolding phase_said passed arm_ask arm_next raise_ask raise_next raise_next_ask raise_on free_after deferring_ask seek_ledto raise_ledto arm_ledto deferring_next deferring_on enter.entering_ask enter.seek_led enter.defer_led enter.entering_next seek.seeking_ask seek.slot_led seek.defer_led seek.seeking_next start.starting_ask start.seek_led start.defer_led start.starting_next keeper_happens keeper_run keeping_ask start_ledto enter_ledto keeping.seek_ledto keeping_next raises
runs_so = record { before = λ shape p s. refl; first = λ shape p s. refl; stays = λ shape p s. refl; second = λ shape p s. refl; third = λ shape p s. refl }
