-- What the bytes of a script say, or its first faulty line.
use Rattle.std.specs.Prelude.{ℕ, ◌+◌, List, [], ◌∷◌, if◌then◌else◌, Option, Some, None, Result, Ok, Err}
use Rattle.fkv_base.specs.declared.faults.ScriptFault.{ScriptFault}
use Rattle.fkv_base.specs.declared.faults.ScriptFault.TheVariants.{Size}
use Rattle.fkv_lines.specs.declared.scripts.Line.{Line}
use Rattle.fkv_lines.specs.declared.scripts.Mode.{Mode}
use Rattle.fkv_lines.specs.declared.scripts.Opening.{Opening}
use Rattle.fkv_lines.specs.Words.{lines_of, words_of, says_nothing, is_oversized}
use Rattle.fkv_lines.specs.Numbers.{◌>>=◌}
use Rattle.fkv_lines.specs.Lines.{opening_line, later_line}

-- a script as it was read: the line that opens the store, if there is one, and the later lines that say something
pub record ScriptText : Type 0 where
  pub opening : Option Opening
  pub lines : List Line

-- the first faulty line, counted from 1, and what is wrong with it
pub record LineFault : Type 0 where
  pub line : ℕ
  pub kind : ScriptFault

-- a fault of a line, with the line's number
abbrev pub at_line : {A : Type 0} → ℕ → Result A ScriptFault → Result A LineFault
at_line number (Ok x) = Ok x
at_line number (Err kind) = Err (record { line = number; kind = kind })

-- what the lines from this number on say, behind this line that opens the store
unfoldable pub lines_from : Mode → Opening → ℕ → List (List ℕ) → Result (List Line) LineFault
lines_from mode opening number [] = Ok []
lines_from mode opening number (line ∷ lines) =
    if is_oversized number line then Err (record { line = number; kind = Size })
    else if says_nothing line then lines_from mode opening (number + 1) lines
    else (do
      said ← at_line number (later_line mode opening (words_of line))
      rest ← lines_from mode opening (number + 1) lines
      Ok (said ∷ rest))

-- the same from the script's beginning, whose first line that says something opens the store
unfoldable pub script_from : Mode → ℕ → List (List ℕ) → Result ScriptText LineFault
script_from mode number [] = Ok (record { opening = None; lines = [] })
script_from mode number (line ∷ lines) =
    if is_oversized number line then Err (record { line = number; kind = Size })
    else if says_nothing line then script_from mode (number + 1) lines
    else (do
      opening ← at_line number (opening_line mode (words_of line))
      rest ← lines_from mode opening (number + 1) lines
      Ok (record { opening = Some opening; lines = rest }))

-- what a script says to a store that lies where the mode says, or its first faulty line
unfoldable pub script_of : Mode → List ℕ → Result ScriptText LineFault
script_of mode bytes = script_from mode 1 (lines_of bytes)
