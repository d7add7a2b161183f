use Rattle.fkv_base.specs.declared.faults.Fault.TheVariants.{Device}
use Rattle.fkv_cli.specs.Output.{places_of}
use Rattle.fkv_cli.proofs.Appending.{told_alone, when_err}
use Rattle.fkv_cli.proofs.Endings.{file_unsaid, life_breaks_in_file, life_in_file, refusal_breaks, refused_old, report_breaks, unopened_so}
use Rattle.fkv_cli.proofs.file_runs.play_old_file.Goals as goal

pub returns-in-Err-clause-whole : goal.returns-in-Err-clause-whole
returns-in-Err-clause-whole g c = refused_old _ (places_of g.S.Disk.Device.honest g.S.Disk.Device.seen g.S.Disk.Device.may_leave g.S.Disk.Device.failed g.S.Disk.Device.refuses g.S.Disk.Device.expects g.S.Disk.Breaks.broken (g.S.StorePlaces.is_opened c.args.places.now) (g.S.StorePlaces.is_made c.args.places.now)) c.args.path.now Device _ _ c.refuse.result (λ other. tt) c.refuse.ensures.memory c.refuse.ensures.text

pub returns-in-Err-clause-part : goal.returns-in-Err-clause-part
returns-in-Err-clause-part g c = refusal_breaks (places_of g.S.Disk.Device.honest g.S.Disk.Device.seen g.S.Disk.Device.may_leave g.S.Disk.Device.failed g.S.Disk.Device.refuses g.S.Disk.Device.expects g.S.Disk.Breaks.broken (g.S.StorePlaces.is_opened c.args.places.now) (g.S.StorePlaces.is_made c.args.places.now)) c.args.path.now c.args.pieces.now Device _ _ c.refuse.result (λ other. tt) c.refuse.ensures.part

pub returns-in_err-write_report-in-Ok-opened-clause-part : goal.returns-in_err-write_report-in-Ok-opened-clause-part
returns-in_err-write_report-in-Ok-opened-clause-part g c = when_err c.from_residual.result (file_unsaid _ _ c.args.pieces.now _)

pub returns-in_err-write_text-in-Ok-opened-clause-part : goal.returns-in_err-write_text-in-Ok-opened-clause-part
returns-in_err-write_text-in-Ok-opened-clause-part g c =
    when_err c.from_residual-in_err-write_text-in-Ok-opened.result
    (report_breaks _ _ _ _ c.in-Ok-opened.opened c.in-Ok-opened.pairs.items c.in-Ok.ensures.opened c.in-Ok-opened.ensures.found c.args.pieces.now c.deref.result.now c.as_slice.result.now c.as_slice-in-Ok-opened.result.now _ _ c.as_slice.ensures.value c.deref.ensures.value
    (told_alone c.new-report.result.items _ c.write_report.new.output.items _ c.as_slice-in-Ok-opened.ensures.value c.new-report.ensures.items c.in_ok-write_report-in-Ok-opened.ensures)
    c.in_err-write_text-in-Ok-opened.ensures.part)

pub returns-in_err-play_life-in-Ok-opened-clause-part : goal.returns-in_err-play_life-in-Ok-opened-clause-part
returns-in_err-play_life-in-Ok-opened-clause-part g c =
    when_err c.from_residual-in_err-play_life-in-Ok-opened.result
    (life_breaks_in_file _ _ _ _ c.in-Ok-opened.opened c.in-Ok-opened.pairs.items c.in-Ok.ensures.opened c.in-Ok-opened.ensures.found c.args.pieces.now c.deref.result.now c.as_slice.result.now c.as_slice-in-Ok-opened.result.now _ _ _ c.as_slice.ensures.value c.deref.ensures.value
    (told_alone c.new-report.result.items _ c.write_report.new.output.items _ c.as_slice-in-Ok-opened.ensures.value c.new-report.ensures.items c.in_ok-write_report-in-Ok-opened.ensures)
    c.in_ok-write_text-in-Ok-opened.ensures.whole c.in_err-play_life-in-Ok-opened.ensures.part)

pub returns-in_ok-play_life-in-Ok-opened-clause-whole : goal.returns-in_ok-play_life-in-Ok-opened-clause-whole
returns-in_ok-play_life-in-Ok-opened-clause-whole g c =
    life_in_file _ _ _ _ c.in-Ok-opened.opened c.in-Ok-opened.pairs.items c.in-Ok.ensures.opened c.in-Ok-opened.ensures.found c.args.pieces.now c.deref.result.now c.as_slice.result.now c.as_slice-in-Ok-opened.result.now _ _ _ c.as_slice.ensures.value c.deref.ensures.value
    (told_alone c.new-report.result.items _ c.write_report.new.output.items _ c.as_slice-in-Ok-opened.ensures.value c.new-report.ensures.items c.in_ok-write_report-in-Ok-opened.ensures)
    c.in_ok-write_text-in-Ok-opened.ensures.whole c.in_ok-play_life-in-Ok-opened.ensures.whole

pub returns-in-Err-opened-clause-whole : goal.returns-in-Err-opened-clause-whole
returns-in-Err-opened-clause-whole g c =
    let places = (places_of g.S.Disk.Device.honest g.S.Disk.Device.seen g.S.Disk.Device.may_leave g.S.Disk.Device.failed g.S.Disk.Device.refuses g.S.Disk.Device.expects g.S.Disk.Breaks.broken (g.S.StorePlaces.is_opened c.args.places.now) (g.S.StorePlaces.is_made c.args.places.now)) in
    refused_old _ places c.args.path.now c.in-Err-opened.fault _ _ c.refuse-in-Err-opened.result (unopened_so places c.args.path.now c.in-Ok.found.0 c.in-Err-opened.fault c.in-Ok.ensures.opened c.in-Err-opened.ensures.refused) c.refuse-in-Err-opened.ensures.memory
    c.refuse-in-Err-opened.ensures.text

pub returns-in-Err-opened-clause-part : goal.returns-in-Err-opened-clause-part
returns-in-Err-opened-clause-part g c =
    let places = (places_of g.S.Disk.Device.honest g.S.Disk.Device.seen g.S.Disk.Device.may_leave g.S.Disk.Device.failed g.S.Disk.Device.refuses g.S.Disk.Device.expects g.S.Disk.Breaks.broken (g.S.StorePlaces.is_opened c.args.places.now) (g.S.StorePlaces.is_made c.args.places.now)) in
    refusal_breaks places c.args.path.now c.args.pieces.now c.in-Err-opened.fault _ _ c.refuse-in-Err-opened.result (unopened_so places c.args.path.now c.in-Ok.found.0 c.in-Err-opened.fault c.in-Ok.ensures.opened c.in-Err-opened.ensures.refused)
    c.refuse-in-Err-opened.ensures.part
