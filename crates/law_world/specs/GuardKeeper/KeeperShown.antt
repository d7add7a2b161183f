-- What the guard has of the keeper, by what it is at: the machine of the epochs and the work of the machine inside that is under way, and what is known of it.
use Rattle.std.specs.Prelude.{◌≡◌, Option, None, ⊤}
use Rattle.fkv_index.proofs.Shown.{IsReading}
use Rattle.fkv_plane.specs.declared.places.Places.{Places}
use Rattle.fkv_epoch.specs.EpochWorld.{EpochMachine}
use Rattle.fkv_flush.specs.GuardLevels.{Levels}
use Rattle.fkv_flush.specs.GuardWorld.{Work}
use Rattle.fkv_keeper.specs.declared.keepers.Keeping.{Keeping}
use Rattle.fkv_keeper.specs.declared.keepers.Keeping.TheVariants as keeping
use Rattle.fkv_keeper.specs.Keeping.{KeeperState}
use Rattle.law_world.specs.GuardKeeper.CommitShown.{starting_machine, entering_machine, seeking_machine, StartKnows, EnterKnows, SeekKnows, FinishKnows}
use Rattle.law_world.specs.GuardKeeper.MaintainShown.{maintain_machine, maintain_work, IsUnderWay}

abbrev pub keeping_machine : KeeperState → Keeping → Option EpochMachine
keeping_machine s keeping.Starts = starting_machine s.start s.start.step
keeping_machine s keeping.Maintains = maintain_machine s.maintain
keeping_machine s keeping.Enters = entering_machine s.enter s.enter.step
keeping_machine s keeping.Seeks = seeking_machine s.seek s.seek.step
keeping_machine s step = None

abbrev pub keeping_work : KeeperState → Keeping → Option Work
keeping_work s keeping.Maintains = maintain_work s.maintain
keeping_work s step = None

abbrev pub keeper_machine : KeeperState → Option EpochMachine
keeper_machine s = keeping_machine s s.step

abbrev pub keeper_work : KeeperState → Option Work
keeper_work s = keeping_work s s.step

abbrev pub KeepingKnows : Levels → KeeperState → Keeping → Type 0
KeepingKnows l s keeping.Starts = StartKnows l s.start s.start.step
KeepingKnows l s keeping.Maintains = IsUnderWay (maintain_machine s.maintain) (maintain_work s.maintain)
KeepingKnows l s keeping.Enters = EnterKnows l s.enter s.enter.step
KeepingKnows l s keeping.Seeks = SeekKnows l s.seek s.seek.step
KeepingKnows l s keeping.Finishes = FinishKnows s.finish s.finish.step
KeepingKnows l s step = ⊤

-- It finishes commits of as many sessions as the store has, and the search inside its sweep is one for a read.
abbrev pub OfStore : Places → KeeperState → Type 0
OfStore p s = (s.finish.sessions ≡ p.sessions) × IsReading s.sweep.finding

pub record KeeperKnows (l : Levels) (p : Places) (s : KeeperState) : Type 0 where
  pub sessions : s.finish.sessions ≡ p.sessions
  pub loads : IsReading s.sweep.finding
  pub its : KeepingKnows l s s.step
