-- How a run ends.
use Rattle.std.specs.Prelude.{◌≡◌, ℕ, List, [], ◌∷◌, ◌++◌, Result, Ok, Err, codes, string_bytes}
use Rattle.fkv_options.specs.declared.endings.RunFault.{RunFault}
use Rattle.fkv_options.specs.declared.endings.Verdict.{Verdict}
use Rattle.fkv_options.specs.declared.endings.Verdict.TheVariants.{Agrees, Differs}

-- the exit status of a run that ended so
abbrev pub ended_status : Result Verdict RunFault → ℕ
ended_status (Ok Agrees) = 0
ended_status (Ok Differs) = 1
ended_status (Err fault) = fault.status

-- memory, or a standard stream, failed: status 4, and nothing is left to print
abbrev pub IsWant : RunFault → Type 0
IsWant fault = (fault.status ≡ 4) × (string_bytes fault.text ≡ [])

-- options or a script are refused: status 2, and this line is left to print, with its end
abbrev pub LeavesLine : List ℕ → RunFault → Type 0
LeavesLine line fault = (fault.status ≡ 2) × (string_bytes fault.text ≡ line ++ (10 ∷ []))

-- the words after the program's name are refused: the line `options`
abbrev pub IsOptionsFault : RunFault → Type 0
IsOptionsFault = LeavesLine (codes "options")
