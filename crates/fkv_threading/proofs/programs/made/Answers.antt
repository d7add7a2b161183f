-- The mirror is given of the file that is made.
use Rattle.fkv_threading.proofs.Written.{mirror_of}
use Rattle.fkv_threading.proofs.programs.made.Goals as goal

pub returns : goal.returns
returns g c = mirror_of g.S.Disk.Device (g.S.StorePlaces.is_made c.args.places.now c.args.path.now) _ c.in_ok-device.device c.in_ok-file.ensures.made c.in_ok-device.ensures.bytes c.in_ok-device.ensures.opening c.in_ok-device.ensures.calls c.in_ok-device.ensures.not_lost
