-- What the reader of a script answers, in the terms of what the script says.
use Rattle.std.specs.Prelude.{◌≡◌, ℕ, List, map, Result, Ok, Err}
use Rattle.std.specs.Borrow.{Bor}
use Rattle.fkv_base.specs.declared.faults.Fault.{Fault}
use Rattle.fkv_base.specs.declared.faults.Fault.TheVariants.{Script, Memory}
use Rattle.fkv_lines.specs.Script.{ScriptText, LineFault}
use Rattle.fkv_lines.specs.declared.scripts.Script as declared

-- words, without where they lie in memory
abbrev pub texts : List (Bor (List ℕ)) → List (List ℕ)
texts words = map (λ word. word.now) words

-- the script as contracts see it
abbrev pub script_text : declared.Script → ScriptText
script_text script = record { opening = script.opening; lines = script.lines.items }

-- the script's fault, or memory was refused
abbrev pub TellsFault : Result ScriptText LineFault → Fault → Type 0
TellsFault read Memory = Unit {0}
TellsFault read (Script line kind) = read ≡ Err (record { line = line; kind = kind })
TellsFault read _ = ⊥

-- the script that the bytes say, or why there is none
abbrev pub Reads : Result ScriptText LineFault → Result declared.Script Fault → Type 0
Reads read (Ok script) = read ≡ Ok (script_text script)
Reads read (Err fault) = TellsFault read fault
