-- A script for a new store in memory, with a seed or without: what its crashes report is kept of all lives of the run.
use Rattle.std.specs.Prelude.{◌≡◌, ◌≢◌, ◌⊎◌, ℕ, Bool, true, false, List, [], is_some, take, Option, Some, None, Ok}
use Rattle.fkv_cli.specs.Output.{script_limit}
use Rattle.fkv_lines.specs.Script.{script_of}
use Rattle.fkv_lines.specs.declared.scripts.Line.{Line}
use Rattle.fkv_lines.specs.declared.scripts.Mode.TheVariants as mode
use Rattle.fkv_lines.specs.declared.scripts.Opening.TheVariants as opening
use Rattle.fkv_lines.specs.declared.scripts.Sizes.{Sizes}
use Rattle.fkv_opening.specs.declared.opened_store.Opened.{Opened}
use Rattle.fkv_options.specs.Options.{check_in, file_in, seed_in, torn_in}
use Rattle.fkv_playing.specs.InTurn.{InTurn}
use Rattle.fkv_playing.specs.Players.{PlayerState}
use Rattle.fkv_runs.specs.Openings.{Medium}
use Rattle.fkv_runs.specs.Pieces.{ArePieces}
use Rattle.fkv_runs.specs.Runs.{IsRun, is_due}
use Rattle.fkv_runs.specs.declared.pieces.Piece.{Piece}
use Rattle.fkv_runs.specs.declared.settings.Settings.{Settings}
use Rattle.law_program.specs.PlayedCalls.AllLives.{AreShown, EndsLivesWhere, IsPieceOverLives, RunInLives, first_life, first_run}
use Rattle.fkv.specs.Lives.{IsRefusedRun}

-- clap's matches of these words hold no file
abbrev pub NameNoFile : List (List ℕ) → Type 0
NameNoFile words = file_in words ≡ None

-- what these words say of crashes: the byte for what isn't synced, and whether reports are checked
abbrev pub settings_in : List (List ℕ) → Settings
settings_in words = record { torn = torn_in words; checks = check_in words }

module _ {M : Type 0} (seen : M → List ℕ) (may_leave : M → List ℕ → Type 0) (medium : Medium M) where
  -- The pieces of the lines are played over all lives of the run, and so is the crash that still is to come behind them. No check has differed, so the status isn't 1.
  pub record IsRunOverLives (settings : Settings) (interleaved : Bool) (lines : List Line) (status : ℕ) (text : List ℕ) : Type 0 where
    pub pieces : List Piece
    pub are_pieces : ArePieces interleaved lines pieces
    pub image : List ℕ
    pub opened : Opened
    pub player : PlayerState M
    pub shown : AreShown seen may_leave settings.checks (first_life image opened player.world.now) [] player
    pub is_run : IsRun medium settings pieces (record { player = player; agrees = true }) status text
    pub lives : RunInLives M
    pub ends : lives.run ≡ is_run.last
    pub played : InTurn (IsPieceOverLives seen may_leave medium settings) false (take is_run.count pieces) (first_run image opened player) lives is_run.refused is_run.said
    pub crashed : is_run.refused ≡ false → EndsLivesWhere seen may_leave medium settings (is_due is_run.last.player.waits) lives is_run.after is_run.over is_run.reported
    pub agrees : status ≢ 1

  -- So it is of each script that comes to its end, by words without a file.
  abbrev pub ReportsOfAllLives : List (List ℕ) → Option (List ℕ) → ℕ → List ℕ → Type 0
  ReportsOfAllLives words known status text =
      NameNoFile words → (bytes : List ℕ) (sizes : Sizes) (lines : List Line) → known ≡ Some bytes → script_of mode.Memory (take script_limit bytes) ≡ Ok (record { opening = Some (opening.Shape sizes); lines = lines })
      → IsRefusedRun text ⊎ IsRunOverLives (settings_in words) (is_some (seed_in words)) lines status text
