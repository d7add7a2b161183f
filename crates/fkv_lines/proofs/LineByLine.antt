-- Reading a script line by line.
use Rattle.std.proofs.Common.{◌≡◌, ℕ, ◌+◌, ◌≤◌, length, nat_lt, MatchResult, ltb-false, true, false, List, [], ◌∷◌, ◌++◌, Option, Some, None, Result, Ok, Err, refl, sym, ap, ◌∙◌, append_assoc}
use Rattle.std.proofs.lemmas.Bool.{or_parts}
use Rattle.std.proofs.lemmas.List.{append-nil}
use Rattle.fkv_base.specs.declared.faults.Fault.{Fault}
use Rattle.fkv_base.specs.declared.faults.Fault.TheVariants.{Script}
use Rattle.fkv_base.specs.declared.faults.ScriptFault.{ScriptFault}
use Rattle.fkv_base.specs.declared.faults.ScriptFault.TheVariants.{Size}
use Rattle.fkv_lines.specs.Words.{most_bytes, most_lines, is_oversized, says_nothing, words_of, lines_of}
use Rattle.fkv_lines.specs.Numbers.{◌>>=◌}
use Rattle.fkv_lines.specs.Lines.{opening_line, later_line}
use Rattle.fkv_lines.specs.Script.{ScriptText, LineFault, lines_from, script_from, script_of}
use Rattle.fkv_lines.specs.declared.scripts.Line.{Line}
use Rattle.fkv_lines.specs.declared.scripts.Mode.{Mode}
use Rattle.fkv_lines.specs.declared.scripts.Opening.{Opening}

abbrev pub failed : {A : Type 0} → Fault → Result A Fault
failed fault = Err fault

abbrev pub done : {A : Type 0} → A → Result A Fault
done x = Ok x

-- the opening and the lines that were read, and what the later lines say
abbrev with_front : Opening → List Line → Result (List Line) LineFault → Result ScriptText LineFault
with_front opening front read = read >>= λ rest. Ok (record { opening = Some opening; lines = front ++ rest })

-- the same before the store is opened
abbrev unopened : List Line → Result ScriptText LineFault → Result ScriptText LineFault
unopened front read = read >>= λ text. Ok (record { opening = text.opening; lines = front ++ text.lines })

-- what was read, and what the lines from this number on say
abbrev pub continued : Mode → Option Opening → List Line → ℕ → List (List ℕ) → Result ScriptText LineFault
continued mode None front number lines = unopened front (script_from mode number lines)
continued mode (Some opening) front number lines = with_front opening front (lines_from mode opening number lines)

abbrev faulty : ℕ → ScriptFault → Result ScriptText LineFault
faulty number kind = Err (record { line = number; kind = kind })

opened : (front : List Line) (opening : Opening) (read : Result (List Line) LineFault) → unopened front (with_front opening [] read) ≡ with_front opening front read
opened front opening (Ok rest) = refl
opened front opening (Err fault) = refl

unopened-nil : (read : Result ScriptText LineFault) → unopened [] read ≡ read
unopened-nil (Ok text) = refl
unopened-nil (Err fault) = refl

regroup : (opening : Opening) (front : List Line) (said : Line) (read : Result (List Line) LineFault)
    → with_front opening front (read >>= λ rest. Ok (said ∷ rest)) ≡ with_front opening (front ++ said ∷ []) read
regroup opening front said (Ok rest) = ap (λ (ls : List Line). Ok (record { opening = Some opening; lines = ls })) (simp append_assoc)
regroup opening front said (Err fault) = refl

pub begins : (mode : Mode) (front : List Line) (bytes : List ℕ) → front ≡ [] → continued mode None front 1 (lines_of bytes) ≡ script_of mode bytes
unfolding script_of
begins mode front bytes empty = rw empty (unopened-nil (script_from mode 1 (lines_of bytes)))

pub in_number : (number : ℕ) (line : List ℕ) → is_oversized number line ≡ false → number ≤ most_lines
in_number number line small = ltb-false _ _ (or_parts (nat_lt most_bytes (length line)) (nat_lt most_lines number) small).1

-- a fault of a line, and what there is without one
pub at_line-err : {A : Type 0} (number : ℕ) (read : Result A ScriptFault) (fault : Fault) → MatchResult read (λ x. failed {A = A} fault ≡ Ok x) (λ kind. failed {A = A} fault ≡ Err (Script number kind))
    → (kind : ScriptFault) × (read ≡ Err kind) × (fault ≡ Script number kind)
at_line-err number (Ok x) fault e = absurd (cc)
at_line-err number (Err kind) fault e = (kind, refl, cc)

pub at_line-ok : {A : Type 0} (number : ℕ) (read : Result A ScriptFault) (x : A) → MatchResult read (λ y. done x ≡ Ok y) (λ kind. done x ≡ Err (Script number kind)) → read ≡ Ok x
at_line-ok number (Ok y) x e = cc
at_line-ok number (Err kind) x e = absurd (cc)

pub oversized_line : (mode : Mode) (opening : Option Opening) (front : List Line) (number : ℕ) (line : List ℕ) (lines : List (List ℕ)) (total : Result ScriptText LineFault) → is_oversized number line ≡ true
    → continued mode opening front number (line ∷ lines) ≡ total → total ≡ faulty number Size
unfolding script_from lines_from
oversized_line mode None front number line lines total big so_far = sym so_far ∙ rw big refl
oversized_line mode (Some opening) front number line lines total big so_far = sym so_far ∙ rw big refl

pub skipped_line : (mode : Mode) (opening : Option Opening) (front : List Line) (number : ℕ) (line : List ℕ) (lines : List (List ℕ)) (total : Result ScriptText LineFault) → is_oversized number line ≡ false
    → says_nothing line ≡ true → continued mode opening front number (line ∷ lines) ≡ total → continued mode opening front (number + 1) lines ≡ total
unfolding script_from lines_from
skipped_line mode None front number line lines total small nothing so_far =
    let one : continued mode None front number (line ∷ lines) ≡ continued mode None front (number + 1) lines = rw (small, nothing) refl in
    sym one ∙ so_far
skipped_line mode (Some opening) front number line lines total small nothing so_far =
    let one : continued mode (Some opening) front number (line ∷ lines) ≡ continued mode (Some opening) front (number + 1) lines = rw (small, nothing) refl in
    sym one ∙ so_far

pub faulty_opening : (mode : Mode) (front : List Line) (number : ℕ) (line : List ℕ) (lines : List (List ℕ)) (kind : ScriptFault) (total : Result ScriptText LineFault) → is_oversized number line ≡ false
    → says_nothing line ≡ false → opening_line mode (words_of line) ≡ Err kind → continued mode None front number (line ∷ lines) ≡ total → total ≡ faulty number kind
unfolding script_from
faulty_opening mode front number line lines kind total small something read so_far = sym so_far ∙ rw (small, something, read) refl

pub read_opening : (mode : Mode) (front : List Line) (number : ℕ) (line : List ℕ) (lines : List (List ℕ)) (opening : Opening) (total : Result ScriptText LineFault) → is_oversized number line ≡ false
    → says_nothing line ≡ false → opening_line mode (words_of line) ≡ Ok opening → continued mode None front number (line ∷ lines) ≡ total → continued mode (Some opening) front (number + 1) lines ≡ total
unfolding script_from
read_opening mode front number line lines opening total small something read so_far =
    let one : continued mode None front number (line ∷ lines) ≡ continued mode (Some opening) front (number + 1) lines = rw (small, something, read) (opened front opening (lines_from mode opening (number + 1) lines)) in
    sym one ∙ so_far

pub faulty_later : (mode : Mode) (opening : Opening) (front : List Line) (number : ℕ) (line : List ℕ) (lines : List (List ℕ)) (kind : ScriptFault) (total : Result ScriptText LineFault) → is_oversized number line ≡ false
    → says_nothing line ≡ false → later_line mode opening (words_of line) ≡ Err kind → continued mode (Some opening) front number (line ∷ lines) ≡ total → total ≡ faulty number kind
unfolding lines_from
faulty_later mode opening front number line lines kind total small something read so_far = sym so_far ∙ rw (small, something, read) refl

pub read_later : (mode : Mode) (opening : Opening) (front : List Line) (number : ℕ) (line : List ℕ) (lines : List (List ℕ)) (said : Line) (total : Result ScriptText LineFault) → is_oversized number line ≡ false
    → says_nothing line ≡ false → later_line mode opening (words_of line) ≡ Ok said → continued mode (Some opening) front number (line ∷ lines) ≡ total → continued mode (Some opening) (front ++ said ∷ []) (number + 1) lines ≡ total
unfolding lines_from
read_later mode opening front number line lines said total small something read so_far =
    let one : continued mode (Some opening) front number (line ∷ lines) ≡ continued mode (Some opening) (front ++ said ∷ []) (number + 1) lines = rw (small, something, read) (regroup opening front said (lines_from mode opening (number + 1) lines)) in
    sym one ∙ so_far

pub last_line : (mode : Mode) (opening : Option Opening) (front : List Line) (number : ℕ) (total : Result ScriptText LineFault) → continued mode opening front number [] ≡ total → total ≡ Ok (record { opening = opening; lines = front })
unfolding script_from lines_from
last_line mode None front number total so_far = sym so_far ∙ ap (λ (ls : List Line). Ok (record { opening = None; lines = ls })) (append-nil front)
last_line mode (Some opening) front number total so_far = sym so_far ∙ ap (λ (ls : List Line). Ok (record { opening = Some opening; lines = ls })) (append-nil front)
