-- The file of the path is what is read ahead. What the closed device may leave, its mirror may.
use Rattle.std.proofs.Common.{subst, sym}
use Rattle.fkv_threading.proofs.Written.{opened_again}
use Rattle.fkv_threading.proofs.programs.opened_again.Goals as goal

pub returns : goal.returns
returns g c = record {
  opened = subst (g.S.StorePlaces.is_opened c.args.places.now c.args.path.now) (sym c.new-ahead.ensures) c.in_ok-file.ensures.opened;
  left = opened_again g.S.Disk.Device g.met.S.Disk.Device.leaves_bytes c.args.closed _;
}
