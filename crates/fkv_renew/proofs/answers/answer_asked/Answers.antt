use Rattle.fkv_renew.specs.Files.{files_of}
use Rattle.fkv_renew.proofs.Answering.{refusal_answers, saved_answers}
use Rattle.fkv_renew.proofs.answers.answer_asked.Goals as goal

pub returns-in_ok-write_saved-in-Ok : goal.returns-in_ok-write_saved-in-Ok
returns-in_ok-write_saved-in-Ok g c =
    saved_answers (files_of g.S.Disk.Device.honest g.S.Disk.Device.seen g.S.Disk.Device.may_leave (g.S.StorePlaces.is_opened c.args.places.now) (g.S.StorePlaces.is_named c.args.places.now)) c.args.asked c.in-Ok.saved c.new-text.result.items c.write_saved.new.output.items c.in-Ok.ensures.ok c.new-text.ensures.items c.in_ok-write_saved-in-Ok.ensures

pub returns-in-Err : goal.returns-in-Err
returns-in-Err g c = refusal_answers (files_of g.S.Disk.Device.honest g.S.Disk.Device.seen g.S.Disk.Device.may_leave (g.S.StorePlaces.is_opened c.args.places.now) (g.S.StorePlaces.is_named c.args.places.now)) c.args.asked c.in-Err.refusal c.in-Err.ensures.err c.refuse.result c.refuse.ensures.status c.refuse.ensures.text
