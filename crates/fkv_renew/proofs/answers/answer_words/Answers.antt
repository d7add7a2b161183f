use Rattle.clap.specs.Walk.{texts}
use Rattle.fkv_renew.specs.Files.{files_of}
use Rattle.fkv_renew.proofs.Answering.{answers_words, refuses_words}
use Rattle.fkv_renew.proofs.answers.answer_words.Goals as goal

pub returns-in-Ok : goal.returns-in-Ok
returns-in-Ok g c = answers_words (files_of g.S.Disk.Device.honest g.S.Disk.Device.seen g.S.Disk.Device.may_leave (g.S.StorePlaces.is_opened c.args.places.now) (g.S.StorePlaces.is_named c.args.places.now)) (texts c.args.words.now) c.in-Ok.asked c.in-Ok.ensures c.answer_asked.result c.answer_asked.ensures

pub returns-in-Err : goal.returns-in-Err
returns-in-Err g c = refuses_words (files_of g.S.Disk.Device.honest g.S.Disk.Device.seen g.S.Disk.Device.may_leave (g.S.StorePlaces.is_opened c.args.places.now) (g.S.StorePlaces.is_named c.args.places.now)) (texts c.args.words.now) c.in-Err.fault c.in-Err.ensures c.refuse_words.result c.refuse_words.ensures.memory c.refuse_words.ensures.status c.refuse_words.ensures.text
