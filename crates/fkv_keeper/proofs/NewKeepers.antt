-- A new keeper is where a run begins.
use Rattle.std.proofs.Common.{◌≡◌, ◌∙◌, ap, sym, subst, List}
use Rattle.fkv_base.specs.declared.shapes.Shape.{Shape}
use Rattle.fkv_record.specs.declared.lost_ranges.LostRange.{LostRange}
use Rattle.fkv_sweep.specs.Sweeping.{sweep_begun}
use Rattle.fkv_keeper.specs.Keeping.{Finality, KeeperModel}
use Rattle.fkv_keeper.specs.KeeperRun.{IsOpened, is_in_hand}
use Rattle.fkv_keeper.specs.NewKeepers.{IsNewKeeper}

pub new_is_opened : (shape : Shape) (last : Finality) (lost : List LostRange) (k : KeeperModel) → IsNewKeeper shape last lost k → IsOpened k.state
new_is_opened shape last lost k its = record { none_in_hand = ap is_in_hand its.no_call; no_commit = its.no_commit; none_rest = its.none_rest; none_flushed = its.none_flushed; works = its.works; turns_rest = its.turns_rest; serves_from = its.serves_from ∙ sym (ap (λ (l : Finality). l.begin) its.newest); none_swept = (k.shape, k.places, subst (λ (l : Finality). k.state.sweep ≡ sweep_begun k.shape k.places l.begin l.begin) (sym its.newest) its.none_swept) }
