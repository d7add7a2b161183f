-- Reading a line's numbers one after the other.
use Rattle.std.proofs.Common.{◌≡◌, ℕ, zero, suc, ◌+◌, ◌<◌, ◌≤◌, List, [], ◌∷◌, ◌++◌, length, get_or, take, drop, set, Result, Ok, Err, Bor, refl, sym, ap, ◌∙◌, append_assoc, add-one, nat_eq, true, eq-eqb, arith}
use Rattle.std.proofs.Math.Seq.{drop-cons, take-suc-set}
use Rattle.std.proofs.Math.ListN.{drop_of_length-le}
use Rattle.std.proofs.lemmas.List.{append-nil, length-map}
use Rattle.fkv_base.specs.declared.faults.ScriptFault.{ScriptFault}
use Rattle.fkv_lines.specs.Reading.{texts}
use Rattle.fkv_lines.specs.Numbers.{◌>>=◌, number_of, numbers_of, arguments_of}

-- the numbers that were read, and what is still to be read
abbrev pub with_front : List ℕ → Result (List ℕ) ScriptFault → Result (List ℕ) ScriptFault
with_front front read = read >>= λ rest. Ok (front ++ rest)

regroup : (front : List ℕ) (n : ℕ) (read : Result (List ℕ) ScriptFault) → with_front front (read >>= λ rest. Ok (n ∷ rest)) ≡ with_front (front ++ n ∷ []) read
regroup front n (Ok rest) = ap (λ (ns : List ℕ). Ok ns) (simp append_assoc)
regroup front n (Err kind) = refl

pub goes_on : (words : List (Bor (List ℕ))) (i : ℕ) (d : Bor (List ℕ)) (numbers : List ℕ) (n : ℕ) (total : Result (List ℕ) ScriptFault) → i < length words → length numbers ≡ length words
    → Ok n ≡ number_of (get_or words i d).now → with_front (take i numbers) (numbers_of (texts (drop i words))) ≡ total
    → with_front (take (i + 1) (set numbers i n)) (numbers_of (texts (drop (i + 1) words))) ≡ total
goes_on words i d numbers n total lt same read so_far =
    let cells : drop i words ≡ get_or words i d ∷ drop (i + 1) words = rw add-one (drop-cons words i d lt) in
    let front : take (i + 1) (set numbers i n) ≡ take i numbers ++ n ∷ [] = rw add-one (take-suc-set numbers i n (omega arith)) in
    let one : with_front (take i numbers) (numbers_of (texts (drop i words))) ≡ with_front (take i numbers ++ n ∷ []) (numbers_of (texts (drop (i + 1) words))) = rw (cells, ← read) (regroup (take i numbers) n (numbers_of (texts (drop (i + 1) words)))) in
    rw front (sym one ∙ so_far)

pub ends : (words : List (Bor (List ℕ))) (i : ℕ) (d : Bor (List ℕ)) (numbers : List ℕ) (kind : ScriptFault) (total : Result (List ℕ) ScriptFault) → i < length words
    → Err kind ≡ number_of (get_or words i d).now → with_front (take i numbers) (numbers_of (texts (drop i words))) ≡ total → total ≡ Err kind
ends words i d numbers kind total lt read so_far =
    let cells : drop i words ≡ get_or words i d ∷ drop (i + 1) words = rw add-one (drop-cons words i d lt) in
    let one : with_front (take i numbers) (numbers_of (texts (drop i words))) ≡ Err kind = rw (cells, ← read) refl in
    sym so_far ∙ one

pub take_all : (numbers : List ℕ) (i : ℕ) → length numbers ≤ i → take i numbers ≡ numbers
take_all [] zero le = refl
take_all [] (suc i) le = refl
take_all (n ∷ numbers) zero le = absurd (omega arith)
take_all (n ∷ numbers) (suc i) le = ap (λ (ns : List ℕ). n ∷ ns) (take_all numbers i (omega arith))

pub is_done : (words : List (Bor (List ℕ))) (i : ℕ) (numbers : List ℕ) (total : Result (List ℕ) ScriptFault) → length words ≤ i → length numbers ≡ length words
    → with_front (take i numbers) (numbers_of (texts (drop i words))) ≡ total → total ≡ Ok numbers
is_done words i numbers total le same so_far =
    let nothing : drop i words ≡ [] = drop_of_length-le words le in
    let all : take i numbers ≡ numbers = take_all numbers i (omega arith) in
    let one : with_front (take i numbers) (numbers_of (texts (drop i words))) ≡ Ok numbers = rw (nothing, all) (ap (λ (ns : List ℕ). Ok ns) (append-nil numbers)) in
    sym so_far ∙ one

pub arguments_of-counted : (wanted : ℕ) (words : List (Bor (List ℕ))) → length words ≡ wanted → arguments_of wanted (texts words) ≡ numbers_of (texts words)
unfolding arguments_of
arguments_of-counted wanted words same =
    let many : nat_eq (length (texts words)) wanted ≡ true = eq-eqb _ _ (simp length-map same) in
    rw many refl

pub with_front-nil : (read : Result (List ℕ) ScriptFault) → with_front [] read ≡ read
with_front-nil (Ok rest) = refl
with_front-nil (Err kind) = refl
