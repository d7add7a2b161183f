use Rattle.std.proofs.Common.{ℕ, List}
use Rattle.clap.specs.Walk.{texts}
use Rattle.fkv_runs.proofs.Shown.{breaks_at_once}
use Rattle.fkv_renew.specs.Answers.{IsAnswer}
use Rattle.fkv_renew.specs.Files.{files_of}
use Rattle.fkv_renew.proofs.Answering.{answered, breaks, when_err}
use Rattle.fkv_renew.proofs.runs.run.Goals as goal

pub returns-in_err-answer-clause-part : goal.returns-in_err-answer-clause-part
returns-in_err-answer-clause-part g c =
    let files = (files_of g.S.Disk.Device.honest g.S.Disk.Device.seen g.S.Disk.Device.may_leave (g.S.StorePlaces.is_opened c.args.places.now) (g.S.StorePlaces.is_named c.args.places.now)) in
    when_err c.from_residual.result (breaks_at_once (λ (text : List ℕ). (status : ℕ) × IsAnswer files (texts c.args.words.now) status text) (g.W.Write.contents c.args.output.now))

pub returns-clause-whole : goal.returns-clause-whole
returns-clause-whole g c =
    let files = (files_of g.S.Disk.Device.honest g.S.Disk.Device.seen g.S.Disk.Device.may_leave (g.S.StorePlaces.is_opened c.args.places.now) (g.S.StorePlaces.is_named c.args.places.now)) in
    let its = c.in_ok-answer.answer in
    answered (IsAnswer files (texts c.args.words.now)) its.status its.text.items c.in_ok-answer.ensures _ _ c.write_answer.result c.write_answer.ensures.status c.write_answer.ensures.whole

pub returns-clause-part : goal.returns-clause-part
returns-clause-part g c =
    let files = (files_of g.S.Disk.Device.honest g.S.Disk.Device.seen g.S.Disk.Device.may_leave (g.S.StorePlaces.is_opened c.args.places.now) (g.S.StorePlaces.is_named c.args.places.now)) in
    let its = c.in_ok-answer.answer in
    breaks (IsAnswer files (texts c.args.words.now)) its.status its.text.items c.in_ok-answer.ensures _ _ c.write_answer.result c.write_answer.ensures.part
