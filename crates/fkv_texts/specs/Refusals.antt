-- The text of a refusal, and the lines that are one.
use Rattle.std.specs.Prelude.{ℕ, List, [], ◌++◌, codes}
use Rattle.std.specs.Fmt.{decimal}
use Rattle.fkv_base.specs.declared.faults.Fault.{Fault}
use Rattle.fkv_base.specs.declared.faults.Fault.TheVariants.{Damaged}
use Rattle.fkv_base.specs.Fault.{number_of, name_of, damage_name}
use Rattle.fkv_texts.specs.Lines.{line_of, session_line, keeper_line}

-- `(Record, 1)`: what is damaged of an image, and where; no other fault has data in its text
abbrev pub data_text : Fault → List ℕ
data_text (Damaged part place) = codes "(" ++ damage_name part ++ codes ", " ++ decimal place ++ codes ")"
data_text other = []

-- `refused 19 NoSession`, `refused 16 Damaged(Record, 1)`
abbrev pub refusal_text : Fault → List ℕ
refusal_text fault = codes "refused " ++ decimal (number_of fault) ++ codes " " ++ name_of fault ++ data_text fault

-- the refusal of a session's line: `0 refused 12 Asleep`
abbrev pub session_refusal : ℕ → Fault → List ℕ
session_refusal session fault = session_line session (refusal_text fault)

-- the refusal of a line of the keeper: `k refused 10 CommitRunning`
abbrev pub keeper_refusal : Fault → List ℕ
keeper_refusal fault = keeper_line (refusal_text fault)

-- the refusal that ends a run: `refused 1 BadShape`
abbrev pub last_refusal : Fault → List ℕ
last_refusal fault = line_of (refusal_text fault)
