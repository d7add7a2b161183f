-- A script of operations alone for a new store, in memory or in a file, played one by one: what is written is the plain map's.
use Rattle.std.specs.Prelude.{◌≡◌, ℕ, Bool, true, List, is_some, map, take, Option, Some, None, Ok}
use Rattle.std.specs.FinMap.{empty}
use Rattle.fkv_core.specs.Worlds.{WorldModel}
use Rattle.fkv_core.specs.declared.events.Event.{Event}
use Rattle.fkv_core.specs.declared.events.Told.{Told}
use Rattle.fkv_lines.specs.Script.{script_of}
use Rattle.fkv_lines.specs.declared.scripts.Mode.{Mode}
use Rattle.fkv_lines.specs.declared.scripts.Mode.TheVariants as mode
use Rattle.fkv_lines.specs.declared.scripts.Opening.TheVariants as opening
use Rattle.fkv_lines.specs.declared.scripts.Sizes.{Sizes}
use Rattle.fkv_options.specs.Options.{file_in, seed_in}
use Rattle.law_program.specs.PlayedCalls.PlayedCalls.{LinesGoOn, LinesReplyAsMap}
use Rattle.law_program.specs.PlayedCalls.Scripts.{IsPlayOfMap, SessionOp, op_line}
use Rattle.fkv_cli.specs.Output.{script_limit}

-- clap's matches of these words hold no file, and no seed by which calls are interleaved
abbrev pub NameNoFileOrSeed : List (List ℕ) → Type 0
NameNoFileOrSeed words = (file_in words ≡ None) × (seed_in words ≡ None)

-- they hold a file, and no seed
abbrev pub NameFileWithoutSeed : List (List ℕ) → Type 0
NameFileWithoutSeed words = (is_some (file_in words) ≡ true) × (seed_in words ≡ None)

-- a script of operations alone: behind the line that makes a store of these sizes come just the lines of these operations
abbrev pub IsScriptOf : Mode → List ℕ → Sizes → List SessionOp → Type 0
IsScriptOf its_mode bytes sizes ops = script_of its_mode (take script_limit bytes) ≡ Ok (record { opening = Some (opening.Shape sizes); lines = map op_line ops })

-- Such a script, by such words, prints what a map says that begins empty: each reply is the map's on the operations so far, and each read gives its key's value.
abbrev pub PrintsMapOfScript : List (List ℕ) → Option (List ℕ) → List ℕ → Type 0
PrintsMapOfScript words known text = NameNoFileOrSeed words → (bytes : List ℕ) (sizes : Sizes) (ops : List SessionOp) → known ≡ Some bytes → IsScriptOf mode.Memory bytes sizes ops → IsPlayOfMap empty ops text

-- So does one that makes a new store in a file.
abbrev pub PrintsMapOfFileScript : List (List ℕ) → Option (List ℕ) → List ℕ → Type 0
PrintsMapOfFileScript words known text = NameFileWithoutSeed words → (bytes : List ℕ) (sizes : Sizes) (ops : List SessionOp) → known ≡ Some bytes → IsScriptOf mode.File bytes sizes ops → IsPlayOfMap empty ops text

-- By these steps of the engine each line of an operation is replied as the map of the history so far does, in every script whose lines aren't interleaved, where a life
-- shows the world before it and no session has a call in hand; and such a life goes on by each line of a session.
abbrev pub ReplyLineByLine : {D : Type 0} → (Event → WorldModel D → WorldModel D → Option Told → Bool → Type 0) → Type 0
ReplyLineByLine engine = LinesReplyAsMap engine × LinesGoOn engine
