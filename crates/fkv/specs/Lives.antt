-- A script for a new store in memory, none of whose calls is interleaved with another: its pieces are played in lives, each line as that life says.
use Rattle.std.specs.Prelude.{◌≡◌, ◌⊎◌, ℕ, true, false, List, [], codes, take, Option, Some, Ok}
use Rattle.fkv_base.specs.declared.faults.Fault.{Fault}
use Rattle.fkv_lines.specs.Script.{script_of}
use Rattle.fkv_lines.specs.declared.scripts.Line.{Line}
use Rattle.fkv_lines.specs.declared.scripts.Mode.TheVariants as mode
use Rattle.fkv_lines.specs.declared.scripts.Opening.TheVariants as opening
use Rattle.fkv_lines.specs.declared.scripts.Sizes.{Sizes}
use Rattle.fkv_opening.specs.declared.opened_store.Opened.{Opened}
use Rattle.fkv_playing.specs.Players.{PlayerState}
use Rattle.fkv_runs.specs.Openings.{Medium}
use Rattle.fkv_runs.specs.Pieces.{ArePieces}
use Rattle.fkv_runs.specs.Runs.{IsRun}
use Rattle.fkv_runs.specs.declared.pieces.Piece.{Piece}
use Rattle.fkv_runs.specs.declared.settings.Settings.{Settings}
use Rattle.fkv_texts.specs.Lines.{line_of}
use Rattle.fkv_texts.specs.Refusals.{last_refusal}
use Rattle.fkv_world.specs.World.{Now}
use Rattle.fkv_cli.specs.Output.{script_limit}
use Rattle.law_program.specs.PlayedCalls.EachLine.{IsLifeOver}
use Rattle.law_program.specs.PlayedCalls.Runs.{ArePlayedInLives, LifeInHand}
use Rattle.fkv.specs.Replies.{NameNoFileOrSeed}

-- the first life as it begins
abbrev pub first_life : List ℕ → Opened → Now → LifeInHand
first_life image opened first = record { bytes = image; opened = opened; first = first; events = [] }

-- no store was made, since words or sizes are refused, or the device has failed
abbrev pub IsRefusedRun : List ℕ → Type 0
IsRefusedRun text = (text ≡ line_of (codes "options")) ⊎ ((fault : Fault) × (text ≡ last_refusal fault))

module _ {M : Type 0} (seen : M → List ℕ) (may_leave : M → List ℕ → Type 0) (medium : Medium M) where
  -- The lines are played, each a piece of its own, from a life of the store in which nothing has happened yet; and what is played is so in its lives.
  pub record IsRunInLives (settings : Settings) (lines : List Line) (status : ℕ) (text : List ℕ) : Type 0 where
    pub pieces : List Piece
    pub are_pieces : ArePieces false lines pieces
    pub image : List ℕ
    pub opened : Opened
    pub player : PlayerState M
    pub shown : IsLifeOver seen may_leave image opened player.world.now [] player
    pub run : IsRun medium settings pieces (record { player = player; agrees = true }) status text
    pub in_lives : ArePlayedInLives seen may_leave medium settings (take run.count pieces) (first_life image opened player.world.now) (record { player = player; agrees = true }) run.last run.refused run.said

  -- So it is of each such script that comes to its end, by words without file and seed.
  abbrev pub PrintsInLives : List (List ℕ) → Option (List ℕ) → ℕ → List ℕ → Type 0
  PrintsInLives words known status text =
      NameNoFileOrSeed words → (bytes : List ℕ) (sizes : Sizes) (lines : List Line) → known ≡ Some bytes → script_of mode.Memory (take script_limit bytes) ≡ Ok (record { opening = Some (opening.Shape sizes); lines = lines })
      → IsRefusedRun text ⊎ ((settings : Settings) × IsRunInLives settings lines status text)
