-- One served line more, and one that isn't.
use Rattle.std.proofs.Common.{◌≡◌, suc, ◌∙◌, ap, sym, subst, inl, inr, ◌⊎◌, ℕ, ◌<◌, ◌+◌, arith, Bool, true, false, not, List, ◌∷◌, refl, length, drop, get_or, Ok, Err, true≢false}
use Rattle.std.proofs.Math.Seq.{drop-cons}
use Rattle.std.specs.Prelude.{◌&&◌, Option, is_some}
use Rattle.fkv_base.specs.declared.faults.Fault.{Fault}
use Rattle.fkv_base.specs.declared.faults.Fault.TheVariants.{Memory, Script}
use Rattle.fkv_base.specs.declared.faults.ScriptFault.{ScriptFault}
use Rattle.fkv_lines.specs.Reading.{TellsFault}
use Rattle.fkv_lines.specs.Script.{LineFault, ScriptText, script_of}
use Rattle.fkv_lines.specs.declared.scripts.Line.{Line}
use Rattle.fkv_lines.specs.declared.scripts.Mode.TheVariants as mode
use Rattle.fkv_thread_scripts.specs.Served.{IsServedScript, TellsRefusal, TellsUnserved, are_served, is_commit, is_served, runs_behind}

one_served : (runs runs' : Bool) (its : Line) (lines : List Line) → is_served its ≡ true → (runs && is_commit its) ≡ false → runs' ≡ runs_behind runs its → are_served runs (its ∷ lines) ≡ are_served runs' lines
one_served runs runs' its lines served apart behind = rw (served, apart, behind) refl

-- the lines from this place on
lines_from : (lines : List Line) (at : ℕ) (line : Line) → at < length lines → drop at lines ≡ get_or lines at line ∷ drop (at + 1) lines
lines_from lines at line within =
    let step : suc at ≡ at + 1 = omega arith in
    let next : drop (suc at) lines ≡ drop (at + 1) lines = ap (λ (n : ℕ). drop n lines) step in
    drop-cons lines at line within ∙ ap (λ (l : List Line). get_or lines at line ∷ l) next

-- the lines behind this one are served behind it, if it and they are
pub served_on : (begun begun' : Option ℕ) (lines : List Line) (at : ℕ) (line : Line) → at < length lines → is_served (get_or lines at line) ≡ true → (is_some begun && is_commit (get_or lines at line)) ≡ false → is_some begun' ≡ runs_behind (is_some begun) (get_or lines at line)
    → are_served false lines ≡ are_served (is_some begun) (drop at lines) → are_served false lines ≡ are_served (is_some begun') (drop (at + 1) lines)
served_on begun begun' lines at line within served apart behind so =
    so
    ∙ (ap (λ (l : List Line). are_served (is_some begun) l) (lines_from lines at line within)
    ∙ one_served (is_some begun) (is_some begun') (get_or lines at line) (drop (at + 1) lines) served apart behind)

unserved_so : (served apart rest : Bool) → (served && apart) ≡ false → (served && (apart && rest)) ≡ false
unserved_so true true rest h = absurd (true≢false h)
unserved_so true false rest h = refl
unserved_so false apart rest h = refl

-- lines of which this one isn't served are not
pub unserved_here : (begun : Option ℕ) (lines : List Line) (at : ℕ) (line : Line) → at < length lines → (is_served (get_or lines at line) && not (is_some begun && is_commit (get_or lines at line))) ≡ false
    → are_served false lines ≡ are_served (is_some begun) (drop at lines) → are_served false lines ≡ false
unserved_here begun lines at line within unserved so =
    let its : Line = get_or lines at line in
    so
    ∙ (ap (λ (l : List Line). are_served (is_some begun) l) (lines_from lines at line within)
    ∙ unserved_so (is_served its) (not (is_some begun && is_commit its)) (are_served (runs_behind (is_some begun) its) (drop (at + 1) lines)) unserved)

-- ---- a script that threads don't serve

-- bytes of a script whose lines they don't serve are those of no script that they do
not_served : (bytes : List ℕ) (script its : ScriptText) → script_of mode.Memory bytes ≡ Ok script → are_served false script.lines ≡ false → IsServedScript bytes its → ⊥
not_served bytes script its read unserved is =
    let same : script ≡ its = cc (read, is.said) in
    true≢false (sym is.served ∙ (ap (λ (s : ScriptText). are_served false s.lines) (sym same) ∙ unserved))

-- nor are those of a line that is faulty by itself
faulty_not_served : (bytes : List ℕ) (fault : LineFault) (its : ScriptText) → script_of mode.Memory bytes ≡ Err fault → IsServedScript bytes its → ⊥
faulty_not_served bytes fault its read is = cc (read, is.said)

tells_unserved : (bytes : List ℕ) (fault : Fault) → TellsUnserved fault → ((script : ScriptText) → IsServedScript bytes script → ⊥) → TellsRefusal bytes fault
tells_unserved bytes Memory told none = tt
tells_unserved bytes (Script line kind) told none = inr (told, none)
tells_unserved bytes fault told none = absurd told

-- so a line of them is told
pub refused_mode : (bytes : List ℕ) (script : ScriptText) (fault : Fault) → script_of mode.Memory bytes ≡ Ok script → are_served false script.lines ≡ false → TellsUnserved fault → TellsRefusal bytes fault
refused_mode bytes script fault read unserved told = tells_unserved bytes fault told (λ its. not_served bytes script its read unserved)

-- or the line that is faulty by itself
pub refused_first : (bytes : List ℕ) (read fault : Fault) (line : ℕ) (kind : ScriptFault) → read ≡ Script line kind → TellsFault (script_of mode.Memory bytes) read → (fault ≡ Script line kind) ⊎ TellsUnserved fault → TellsRefusal bytes fault
refused_first bytes read fault line kind is tells (inl same) = subst (TellsRefusal bytes) (sym same) (inl (subst (TellsFault (script_of mode.Memory bytes)) is tells))
refused_first bytes read fault line kind is tells (inr told) =
    let faulty : script_of mode.Memory bytes ≡ Err (record { line = line; kind = kind }) = subst (TellsFault (script_of mode.Memory bytes)) is tells in
    tells_unserved bytes fault told (λ its. faulty_not_served bytes (record { line = line; kind = kind }) its faulty)

-- any other fault of a reader is refused memory
pub refused_else : (bytes : List ℕ) (fault : Fault) → TellsFault (script_of mode.Memory bytes) fault → TellsRefusal bytes fault
refused_else bytes Memory tells = tt
refused_else bytes (Script line kind) tells = inl tells
refused_else bytes fault tells = absurd tells
