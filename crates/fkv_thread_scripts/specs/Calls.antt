-- The calls of one session in a script.
use Rattle.std.specs.Prelude.{ℕ, List, [], ◌∷◌, nat_eq, if◌then◌else◌}
use Rattle.std.specs.List.{flat_map}
use Rattle.fkv_lines.specs.declared.scripts.Line.{Line}
use Rattle.fkv_lines.specs.declared.scripts.Line.TheVariants as line
use Rattle.fkv_map.specs.declared.operations.Call.{Call}

-- the call of a line, if it is one of this session
abbrev pub call_in : ℕ → Line → List Call
call_in session (line.Call number call) = if nat_eq number session then call ∷ [] else []
call_in session its = []

-- those of all lines, in order
abbrev pub calls_of : ℕ → List Line → List Call
calls_of session lines = flat_map (call_in session) lines
