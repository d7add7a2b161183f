-- What a poll has finished, by the history.
use Rattle.std.specs.Prelude.{◌≡◌, ℕ, List, ◌∷◌, ◌++◌, Some, slice_get}
use Rattle.fkv_base.specs.declared.numbers.Serial.{Serial}
use Rattle.law_order.specs.Below.fkv_core.TheTold as tells
use Rattle.law_order.specs.Below.fkv_core.TheTold.TheVariants as told
use Rattle.fkv_map.specs.History.{content}
use Rattle.fkv_map.specs.Map.{reply_to}
use Rattle.fkv_map.specs.declared.operations.Reply.{Reply}
use Rattle.law_order.specs.Below.fkv_opening.TheOpened.{Opened}
use Rattle.fkv_runs.specs.Below.fkv_playing.Seats.{SeatState}
use Rattle.law_order.specs.Below.fkv_session.Answer.{Answer}
use Rattle.law_order.specs.Below.fkv_session.Finished.TheVariants as finished
use Rattle.fkv_texts.specs.Sessions.{finished_by}
use Rattle.law_order.specs.Below.fkv_world.World.{Event, Now}
use Rattle.law_log.specs.Trace.{Effect, IsIn, called_as, history_of}
use Rattle.law_order.specs.Below.law_opening.Log.Maps.{opening_map}
use Rattle.law_order.specs.Rules.Ordered.{effects_so_far, lines_so_far}
use Rattle.law_program.specs.PlayedCalls.Waiting.{AreKeptAndRead}

-- The update that the session called under this serial has taken effect in this life, and is replied so by the map that it found.
pub record IsRepliedAtEffect (bytes : List ℕ) (o : Opened) (first : Now) (life : List Event) (number serial : ℕ) (reply : Reply) : Type 0 where
  pub newer : List Effect
  pub older : List Effect
  pub effect : Effect
  pub all : effects_so_far first bytes life ≡ newer ++ effect ∷ older
  pub its_session : effect.entry.session ≡ number
  pub its_serial : effect.entry.serial.0 ≡ serial
  pub called : called_as (lines_so_far first bytes life) effect.entry.session effect.entry.serial.0 ≡ Some effect.entry.op
  pub its_reply : reply ≡ reply_to (content (opening_map bytes o) (history_of older)) effect.entry.op

-- So is each update that an answer says is finished.
abbrev pub AreRepliedAtEffects : List ℕ → Opened → Now → List Event → ℕ → Answer → Type 0
AreRepliedAtEffects bytes o first life number answer =
    (serial : Serial) (reply : Reply) → IsIn (finished.Update serial reply) (finished_by answer) → IsRepliedAtEffect bytes o first life number serial.0 reply

-- The session is answered. Each update that is finished with it is replied by the map at its effect. Each read that is finished gives a value that
-- its key has had since its call.
pub record IsCallAnswered (bytes : List ℕ) (o : Opened) (first : Now) (life later : List Event) (number : ℕ) (seats : List SeatState) (said : tells.Told) : Type 0 where
  pub answer : Answer
  pub same : said ≡ told.Session number answer
  pub updates : AreRepliedAtEffects bytes o first later number answer
  pub reads : (seat : SeatState) → slice_get seats number ≡ Some seat → AreKeptAndRead bytes o first life later number seat.waiting answer
