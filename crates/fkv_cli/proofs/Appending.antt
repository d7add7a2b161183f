-- What is written stays; and what the first bytes of a reader were.
use Rattle.std.proofs.Common.{◌≡◌, ℕ, List, [], ◌++◌, ◌∙◌, Option, Some, None, take, inr, sym, ap, subst, append-nil, IfSome, option_map, Result, Ok, Err, OnErr}
use Rattle.std.specs.Io.KnownBytes.{Keeps}
use Rattle.fkv_runs.specs.Below.fkv_playing.InTurn.{Writes}
use Rattle.fkv_runs.specs.Beginnings.{BreaksOff}
use Rattle.fkv_runs.proofs.Shown.{appends_kept}

-- what was written stands, and a flush keeps it
pub writes_kept : (Its : List ℕ → Type 0) (a b c : Option (List ℕ)) → Writes Its a b → Keeps b c → Writes Its a c
writes_kept Its a b c h k = (h.0, h.1, appends_kept a b c h.0 h.2 k)

-- a whole text is a beginning of itself
pub writes_broken : (Its : List ℕ → Type 0) (a b : Option (List ℕ)) → Writes Its a b → BreaksOff Its a b
writes_broken Its a b h = (h.0, inr ([], subst Its (sym (append-nil h.0)) h.1), h.2)

-- what is of one kind is of another
pub writes_weaker : (Its Other : List ℕ → Type 0) (a b : Option (List ℕ)) → ((text : List ℕ) → Its text → Other text) → Writes Its a b → Writes Other a b
writes_weaker Its Other a b weaker h = (h.0, weaker h.0 h.1, h.2)

-- what a reader's first bytes were, where it says what it has
known_taken : (known : Option (List ℕ)) (limit : ℕ) (bytes : List ℕ) → IfSome (option_map (take limit) known) (λ xs. bytes ≡ xs) → IfSome known (λ script. bytes ≡ take limit script)
known_taken None limit bytes h = tt
known_taken (Some script) limit bytes h = h

pub first_bytes : {R : Type 0} (remaining : R → Option (List ℕ)) (inner input : R) (limit : ℕ) (front bytes : List ℕ) → inner ≡ input → front ≡ [] → IfSome (option_map (take limit) (remaining inner)) (λ xs. bytes ≡ front ++ xs) → IfSome (remaining input) (λ script. bytes ≡ take limit script)
first_bytes remaining inner input limit front bytes same none h =
    known_taken (remaining input) limit bytes
    (subst (λ r. IfSome (option_map (take limit) (remaining r)) (λ xs. bytes ≡ xs)) same
    (subst (λ (start : List ℕ). IfSome (option_map (take limit) (remaining inner)) (λ xs. bytes ≡ start ++ xs)) none h))

-- what is said of an error stands of each
pub when_err : {T E P : Type 0} (r : Result T E) → P → OnErr r P
when_err (Ok value) h = tt
when_err (Err error) h = h

-- what was written into memory, behind nothing
pub told_alone : (front text items slice : List ℕ) → slice ≡ items → front ≡ [] → items ≡ front ++ text → slice ≡ text
told_alone front text items slice same nothing h = same ∙ h ∙ ap (λ (its : List ℕ). its ++ text) nothing
