-- What the program writes that runs a script on threads, and its status, by what its input gives.
use Rattle.std.specs.Prelude.{◌≡◌, ◌⊎◌, ◌*◌, ◌+◌, ℕ, List, [], ◌++◌, codes, decimal, take, Option, Some, None, Result, IfSome}
use Rattle.fkv_base.specs.Fault.{script_fault_name}
use Rattle.fkv_base.specs.declared.faults.Fault.{Fault}
use Rattle.fkv_base.specs.declared.faults.Fault.TheVariants.{Script}
use Rattle.fkv_base.specs.declared.faults.ScriptFault.{ScriptFault}
use Rattle.fkv_lines.specs.Script.{LineFault, ScriptText}
use Rattle.fkv_lines.specs.declared.scripts.Line.{Line}
use Rattle.fkv_lines.specs.declared.scripts.Opening.{Opening}
use Rattle.fkv_lines.specs.declared.scripts.Sizes.{Sizes}
use Rattle.fkv_thread_scripts.specs.Reports.{ended}
use Rattle.fkv_thread_scripts.specs.Served.{IsRefused, IsServedScript}
use Rattle.fkv_thread_scripts.specs.declared.reports.Report.{Report}
use Rattle.fkv_threading.specs.Written.{IsRunOnThreads}

-- a longer script has its first faulty line among its first so many bytes
abbrev pub script_limit : ℕ
script_limit = 65536 * 201 + 1

-- `script line 7 Count`
abbrev pub line_fault_text : LineFault → List ℕ
line_fault_text fault = ended (codes "script line " ++ decimal fault.line ++ codes " " ++ script_fault_name fault.kind)

-- a line's fault is told
abbrev pub TellsLine : Fault → List ℕ → Type 0
TellsLine fault text = (line : ℕ) × (kind : ScriptFault) × (fault ≡ Script line kind) × (text ≡ line_fault_text (record { line = line; kind = kind }))

-- a run of a script writes this text, and has this status
abbrev pub IsTextOnThreads : (Sizes → Result Report Fault → Type 0) → Option Opening → ℕ → List ℕ → Type 0
IsTextOnThreads Ends opening status text = IsRunOnThreads Ends opening (λ its. its ≡ text) status

-- a run ends in memory, or in the file of a path
abbrev pub IsEndIn : (List Line → Sizes → Result Report Fault → Type 0) → (List ℕ → List Line → Sizes → Result Report Fault → Type 0) → Option (List ℕ) → List Line → Sizes → Result Report Fault → Type 0
IsEndIn OfMemory OfFile None = OfMemory
IsEndIn OfMemory OfFile (Some path) = OfFile path

-- These bytes are a script that threads serve, and a run of it writes the text. Else the text is a line's fault, and the status 2.
abbrev pub IsRunOfBytes : (List Line → Sizes → Result Report Fault → Type 0) → List ℕ → ℕ → List ℕ → Type 0
IsRunOfBytes Ends bytes status text =
    ((script : ScriptText) × IsServedScript bytes script × IsTextOnThreads (Ends script.lines) script.opening status text)
    ⊎ ((fault : LineFault) × IsRefused bytes fault × (status ≡ 2) × (text ≡ line_fault_text fault))

-- The input can't be read: nothing is written, and the status is 4. Else some bytes are run: its first ones, if it says which it has.
abbrev pub IsRunOfInput : (List Line → Sizes → Result Report Fault → Type 0) → Option (List ℕ) → ℕ → List ℕ → Type 0
IsRunOfInput Ends known status text =
    ((status ≡ 4) × (text ≡ []))
    ⊎ ((bytes : List ℕ) × IfSome known (λ all. bytes ≡ take script_limit all) × IsRunOfBytes Ends bytes status text)

-- whatever the status
abbrev pub WithSomeStatus : (ℕ → List ℕ → Type 0) → List ℕ → Type 0
WithSomeStatus Its text = (status : ℕ) × Its status text
