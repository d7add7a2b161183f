use Rattle.std.specs.Prelude.{is_ok}
use Rattle.fkv_disk.proofs.Shown.{after_write}
use Rattle.fkv_flush.specs.Flushing.{flush_calls}
use Rattle.fkv_flush.proofs.flushing.call_device.Goals as goal

pub returns-in-WritesPart-clause-calls : goal.returns-in-WritesPart-clause-calls
unfolding flush_calls
returns-in-WritesPart-clause-calls g c = λ claim opening calls was.
    rw (c.in-WritesPart.is, ← c.record_place.ensures)
    (after_write opening calls _ _ _ _ was c.record_place.result c.args.bytes.now (is_ok c.write.result) (c.write.ensures.seen claim) (c.write.ensures.crash claim))
