-- The answer to a call is what was told, and behind a poll the list of what that has finished.
use Rattle.std.specs.Prelude.{◌≡◌, ℕ, List}
use Rattle.fkv_plane.specs.declared.asks.Ask.{Ask}
use Rattle.fkv_plane.specs.declared.asks.Ask.TheVariants.{Done}
use Rattle.fkv_plane.specs.Passing.{passed}
use Rattle.fkv_session.specs.declared.answers.Answer.{Answer}
use Rattle.fkv_session.specs.declared.answers.Answer.TheVariants as answer
use Rattle.fkv_session.specs.declared.answers.Finished.{Finished}
use Rattle.fkv_session.specs.declared.answers.Told.{Told}
use Rattle.fkv_session.specs.declared.answers.Told.TheVariants as told

-- a poll's answer has the requests that it finished, in their order, and how many are left
abbrev pub IsPolled : List Finished → ℕ → Answer → Type 0
IsPolled its left (answer.Polled list count) = (list.items ≡ its) × (count ≡ left)
IsPolled its left given = ⊥

abbrev pub IsAnswerTold : Told → List Finished → Answer → Type 0
IsAnswerTold (told.Done serial reply) its given = given ≡ answer.Done serial reply
IsAnswerTold (told.Pending serial reason) its given = given ≡ answer.Pending serial reason
IsAnswerTold (told.Found value) its given = given ≡ answer.Found value
IsAnswerTold told.Absent its given = given ≡ answer.Absent
IsAnswerTold (told.PendingRead ticket) its given = given ≡ answer.PendingRead ticket
IsAnswerTold (told.Refreshed phase version) its given = given ≡ answer.Refreshed phase version
IsAnswerTold (told.Woken phase version) its given = given ≡ answer.Woken phase version
IsAnswerTold (told.Polled left) its given = IsPolled its left given
IsAnswerTold told.Slept its given = given ≡ answer.Slept
IsAnswerTold (told.Durable serial) its given = given ≡ answer.Durable serial
IsAnswerTold (told.Refused why) its given = given ≡ answer.Refused why

abbrev pub IsDoneTold : Told → List Finished → Ask Answer → Type 0
IsDoneTold its list (Done given) = IsAnswerTold its list given
IsDoneTold its list ask = ⊥

-- an ask stays as it is, and the end of a call is its answer
abbrev pub IsAnswered : Ask Told → List Finished → Ask Answer → Type 0
IsAnswered (Done its) list given = IsDoneTold its list given
IsAnswered ask list given = given ≡ passed ask answer.Slept
