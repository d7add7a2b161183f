-- The lines that threads serve, and what is told of a script that they don't.
use Rattle.std.specs.Prelude.{◌≡◌, ◌⊎◌, ℕ, Bool, true, false, not, ◌&&◌, List, [], ◌∷◌, Ok, Err}
use Rattle.fkv_base.specs.declared.faults.Fault.{Fault}
use Rattle.fkv_base.specs.declared.faults.Fault.TheVariants.{Memory, Script}
use Rattle.fkv_base.specs.declared.faults.ScriptFault.TheVariants.{Mode}
use Rattle.fkv_lines.specs.Script.{LineFault, ScriptText, script_of}
use Rattle.fkv_lines.specs.declared.scripts.Line.{Line}
use Rattle.fkv_lines.specs.declared.scripts.Line.TheVariants as line
use Rattle.fkv_lines.specs.declared.scripts.Mode.TheVariants as mode
use Rattle.fkv_map.specs.declared.operations.Call.TheVariants as call

-- operations, refreshes and polls of sessions, and the keeper's commits and finishes
abbrev pub is_served : Line → Bool
is_served (line.Call number (call.Op op)) = true
is_served (line.Call number call.Refresh) = true
is_served (line.Call number call.Poll) = true
is_served (line.Commit kind) = true
is_served line.Trim = true
is_served line.Finish = true
is_served its = false

abbrev pub is_commit : Line → Bool
is_commit (line.Commit kind) = true
is_commit line.Trim = true
is_commit its = false

-- whether a commit's finish hasn't come behind this line, by whether it hadn't before
abbrev pub runs_behind : Bool → Line → Bool
runs_behind runs (line.Commit kind) = true
runs_behind runs line.Trim = true
runs_behind runs line.Finish = false
runs_behind runs its = runs

-- Each line is served, and the keeper's next line behind each commit is a finish.
abbrev pub are_served : Bool → List Line → Bool
are_served runs [] = not runs
are_served runs (its ∷ lines) = is_served its && (not (runs && is_commit its) && are_served (runs_behind runs its) lines)

-- bytes say a script, and threads serve its lines
pub record IsServedScript (bytes : List ℕ) (script : ScriptText) : Type 0 where
  pub said : script_of mode.Memory bytes ≡ Ok script
  pub served : are_served false script.lines ≡ true

-- A line has this fault: the first that is faulty by itself, or, with `Mode`, one of a script that threads don't serve.
abbrev pub IsRefused : List ℕ → LineFault → Type 0
IsRefused bytes fault = (script_of mode.Memory bytes ≡ Err fault) ⊎ ((fault.kind ≡ Mode) × ((script : ScriptText) → IsServedScript bytes script → ⊥))

-- what is told where no script is given: a line's fault, or that memory was refused
abbrev pub TellsRefusal : List ℕ → Fault → Type 0
TellsRefusal bytes Memory = Unit {0}
TellsRefusal bytes (Script line kind) = IsRefused bytes (record { line = line; kind = kind })
TellsRefusal bytes _ = ⊥

-- a line that threads don't serve is told, or that memory was refused
abbrev pub TellsUnserved : Fault → Type 0
TellsUnserved Memory = Unit {0}
TellsUnserved (Script line kind) = kind ≡ Mode
TellsUnserved _ = ⊥
