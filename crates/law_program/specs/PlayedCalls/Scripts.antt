-- Scripts of operations alone, one behind the other: what they print, by the plain map.
use Rattle.std.specs.Prelude.{◌≡◌, ◌⊎◌, ◌-◌, ◌^◌, ◌<◌, ⊤, ℕ, Bool, false, List, [], ◌∷◌, ◌++◌, length, map, Option}
use Rattle.std.specs.FinMap.{empty}
use Rattle.fkv_base.specs.declared.faults.Fault.TheVariants.{NoSession}
use Rattle.fkv_base.specs.declared.shapes.Shape.{Shape}
use Rattle.law_order.specs.Below.fkv_core.Worlds.{WorldModel}
use Rattle.law_order.specs.Below.fkv_core.Event as events
use Rattle.law_order.specs.Below.fkv_core.TheTold as tells
use Rattle.law_order.specs.Below.fkv_creating.Created.{IsNewStore}
use Rattle.fkv_lines.specs.declared.scripts.Line.{Line}
use Rattle.fkv_lines.specs.declared.scripts.Line.TheVariants as line
use Rattle.fkv_map.specs.Map.{Map}
use Rattle.fkv_map.specs.declared.history.HistoryEntry.{HistoryEntry}
use Rattle.fkv_map.specs.declared.operations.Call.TheVariants as call
use Rattle.fkv_map.specs.declared.operations.Op.{Op}
use Rattle.law_order.specs.Below.fkv_opening.Opened.{IsStoreOf}
use Rattle.law_order.specs.Below.fkv_opening.TheOpened.{Opened}
use Rattle.law_order.specs.Below.law_opening.Log.Maps.{opening_map}
use Rattle.fkv_runs.specs.Below.fkv_playing.Players.{PlayerState}
use Rattle.fkv_runs.specs.Files.{IsRunOfLife}
use Rattle.fkv_runs.specs.Openings.{Begins, Medium}
use Rattle.fkv_runs.specs.Pieces.{ArePieces}
use Rattle.fkv_runs.specs.Runs.{IsRun}
use Rattle.fkv_runs.specs.declared.pieces.Piece.{Piece}
use Rattle.fkv_runs.specs.declared.settings.Settings.{Settings}
use Rattle.law_order.specs.Below.fkv_session.Answers.{IsAnswerTold}
use Rattle.law_order.specs.Below.fkv_session.Answer.{Answer}
use Rattle.law_order.specs.Below.fkv_session.Finished.{Finished}
use Rattle.law_order.specs.Below.fkv_session.Told.{Told}
use Rattle.fkv_texts.specs.Refusals.{session_refusal}
use Rattle.fkv_texts.specs.Sessions.{session_text}
use Rattle.fkv_texts.specs.declared.polls.WaitingRead.{WaitingRead}
use Rattle.law_program.specs.WholeCalls.WholeCalls.{IsMapsReply, LeavesMap}
use Rattle.fkv_map.specs.Fits.{OpFits}
use Rattle.law_program.specs.PlayedCalls.PlayedCalls.{IsToldTo}

-- ---- by the plain map
-- The line of an answer that is what this map replies, behind which the map is as the answer says: with the operation applied, if it is an update that is
-- told as done, and else the same.
pub record IsAnswerOfMap (before after : Map) (number : ℕ) (op : Op) (text : List ℕ) : Type 0 where
  pub answer : Answer
  pub its : Told
  pub finished : List Finished
  pub is_told : IsAnswerTold its finished answer
  pub told_to : IsToldTo op its
  pub waiting : List WaitingRead
  pub says : text ≡ session_text number (call.Op op) waiting answer
  pub reply : IsMapsReply before op its
  pub leaves : LeavesMap before after op its

-- or the store hasn't the session
abbrev pub IsLineOfMap : Map → Map → ℕ → Op → List ℕ → Type 0
IsLineOfMap before after number op text = ((after ≡ before) × (text ≡ session_refusal number NoSession)) ⊎ IsAnswerOfMap before after number op text

-- an operation, and the number of the session that calls it
abbrev pub SessionOp : Type 0
SessionOp = ℕ × Op

-- the lines of these operations, one behind the other, each by the map that those before it have left
abbrev pub IsPlayOfMap : Map → List SessionOp → List ℕ → Type 0
IsPlayOfMap m [] text = text ≡ []
IsPlayOfMap m (one ∷ later) text = (after : Map) × (first : List ℕ) × (rest : List ℕ) × IsLineOfMap m after one.0 one.1 first × IsPlayOfMap after later rest × (text ≡ first ++ rest)

-- ---- the scripts
-- the line of an operation
abbrev pub op_line : SessionOp → Line
op_line one = line.Call one.0 (call.Op one.1)

-- these lines, each a piece of its own
abbrev pub ArePiecesOf : List SessionOp → List Piece → Type 0
ArePiecesOf ops pieces = ArePieces false (map op_line ops) pieces

-- their numbers fit in words, as all do that a script can name
abbrev pub EachFits : List SessionOp → Type 0
EachFits [] = ⊤
EachFits (one ∷ later) = OpFits one.1 × EachFits later

-- The pieces of such lines that are played over a life of a store in memory print what the map says that the store holds as the life begins.
abbrev pub LivesPlayMap : {D : Type 0} → Medium D → Type 0
LivesPlayMap {D} medium =
    (image : List ℕ) (opened : Opened) (device : D) (history : List HistoryEntry) (keeps_history agrees : Bool) (player : PlayerState D) (settings : Settings) (pieces : List Piece) (ops : List SessionOp) (status : ℕ) (text : List ℕ)
    → IsStoreOf image opened → Begins opened device history keeps_history player → ArePiecesOf ops pieces → EachFits ops → length ops < 2 ^ 64 - 1
    → IsRun medium settings pieces (record { player = player; agrees = agrees }) status text → IsPlayOfMap (opening_map image opened) ops text

-- so do those over the life of a store in a file, where that holds this image
abbrev pub FilesPlayMap : {D : Type 0} → (events.Event → WorldModel D → WorldModel D → Option tells.Told → Bool → Type 0) → Type 0
FilesPlayMap {D} engine =
    (image : List ℕ) (opened : Opened) (device : D) (history : List HistoryEntry) (keeps_history : Bool) (player : PlayerState D) (pieces : List Piece) (ops : List SessionOp) (text : List ℕ)
    → IsStoreOf image opened → Begins opened device history keeps_history player → ArePiecesOf ops pieces → EachFits ops → length ops < 2 ^ 64 - 1
    → IsRunOfLife engine pieces player text → IsPlayOfMap (opening_map image opened) ops text

-- So the map of a new store is empty, and such pieces that are played over it print what a map says that begins empty.
abbrev pub NewStoresPlayMap : {D : Type 0} → Medium D → Type 0
NewStoresPlayMap {D} medium =
    (shape : Shape) (image : List ℕ) (opened : Opened) (device : D) (history : List HistoryEntry) (keeps_history agrees : Bool) (player : PlayerState D) (settings : Settings) (pieces : List Piece) (ops : List SessionOp) (status : ℕ) (text : List ℕ)
    → IsNewStore shape opened → IsStoreOf image opened → Begins opened device history keeps_history player → ArePiecesOf ops pieces → EachFits ops → length ops < 2 ^ 64 - 1
    → IsRun medium settings pieces (record { player = player; agrees = agrees }) status text → IsPlayOfMap empty ops text
