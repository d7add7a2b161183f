-- The answer that says what was told.
use Rattle.std.proofs.Common.{List, refl}
use Rattle.fkv_session.specs.Answers.{IsAnswerTold}
use Rattle.fkv_session.specs.declared.answers.Finished.{Finished}
use Rattle.fkv_session.specs.declared.answers.Told.{Told}
use Rattle.fkv_session.specs.declared.answers.Told.TheVariants as told
use Rattle.fkv_face.specs.Told.{answer_saying}

pub says_so : (its : Told) (finished : List Finished) → IsAnswerTold its finished (answer_saying its finished)
says_so (told.Done serial reply) finished = refl
says_so (told.Pending serial reason) finished = refl
says_so (told.Found value) finished = refl
says_so told.Absent finished = refl
says_so (told.PendingRead ticket) finished = refl
says_so (told.Refreshed phase version) finished = refl
says_so (told.Woken phase version) finished = refl
says_so (told.Polled left) finished = (refl, refl)
says_so told.Slept finished = refl
says_so (told.Durable serial) finished = refl
says_so (told.Refused why) finished = refl
