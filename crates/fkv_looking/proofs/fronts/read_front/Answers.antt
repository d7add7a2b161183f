use Rattle.fkv_disk.proofs.Shown.{more_reads}
use Rattle.fkv_looking.proofs.fronts.read_front.Goals as goal

pub returns-in_err-slot_0-clause-reads : goal.returns-in_err-slot_0-clause-reads
returns-in_err-slot_0-clause-reads g c =
    more_reads g.D.Device.refuses g.D.Device.expects c.args.d.now c.read_part.new.d c.read_part-2.new.d c.in_ok-block.ensures.reads c.read_part-2.ensures.reads

pub returns-in_err-slot_1-clause-reads : goal.returns-in_err-slot_1-clause-reads
returns-in_err-slot_1-clause-reads g c =
    more_reads g.D.Device.refuses g.D.Device.expects c.args.d.now c.read_part-2.new.d c.read_part-3.new.d
    (more_reads g.D.Device.refuses g.D.Device.expects c.args.d.now c.read_part.new.d c.read_part-2.new.d c.in_ok-block.ensures.reads c.in_ok-slot_0.ensures.reads) c.read_part-3.ensures.reads

pub returns-clause-reads : goal.returns-clause-reads
returns-clause-reads g c =
    more_reads g.D.Device.refuses g.D.Device.expects c.args.d.now c.read_part-2.new.d c.read_part-3.new.d
    (more_reads g.D.Device.refuses g.D.Device.expects c.args.d.now c.read_part.new.d c.read_part-2.new.d c.in_ok-block.ensures.reads c.in_ok-slot_0.ensures.reads) c.in_ok-slot_1.ensures.reads
