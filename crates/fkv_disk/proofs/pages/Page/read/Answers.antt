use Rattle.std.proofs.Common.{sym, subst}
use Rattle.fkv_disk.specs.Kinds.{OnlyReads}
use Rattle.fkv_disk.proofs.Asking.{no_read, one_read, more_reads}
use Rattle.fkv_disk.proofs.pages.Page.read.Goals.{then-not-keeps, else-not-keeps}
use Rattle.fkv_disk.proofs.pages.Page.read.Goals as goal

pub returns-clause-reads : goal.returns-clause-reads
returns-clause-reads g c =
    let refuses = g.D.Device.refuses in
    let expects = g.D.Device.expects in
    let old = c.args.device.now in
    let mid = c.if-not-keeps.device in
    let loaded : OnlyReads refuses expects old mid = elim c.if-not-keeps.branch [
      | then-not-keeps w ↦ subst (OnlyReads refuses expects old) (sym w.device-is) w.load.ensures.reads
      | else-not-keeps w ↦ subst (OnlyReads refuses expects old) (sym w.device-is) (no_read refuses expects old)
    ] in
    more_reads refuses expects old mid c.read.new.self loaded (one_read refuses expects mid c.read.new.self c.read.ensures.counted.counted c.read.ensures.kind)
