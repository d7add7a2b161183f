-- Each place has a position of its own, and a word that changes does so at its position and nowhere else.
use Rattle.std.proofs.Common.{◌≡◌, ◌≢◌, ℕ, zero, suc, ◌+◌, ◌<◌, ◌∙◌, refl, sym, ap, arith, List, [], ◌∷◌, length, set, get_or, length-set, get_or-set_same, get_or-set_other}
use Rattle.std.specs.Prelude.{Option, Some, None}
use Rattle.std.proofs.lemmas.Bool.Decides.{nat_tests}
use Rattle.fkv_plane.specs.Asked.{word_at, word_found}
use Rattle.fkv_table.specs.Positions.{gaps, laid, laid_from, place_at, position}

-- the place of a position, and back
pub place_back : (place : ℕ) → place_at (position place) ≡ Some place
place_back place = grind (arith, nat_tests)

pub place_is : (at place : ℕ) → place_at at ≡ Some place → at ≡ position place
place_is at place e = grind (arith, nat_tests)

same_some : (i j : ℕ) → ◌≡◌ {A = Option ℕ} (Some i) (Some j) → i ≡ j
same_some i j e = cc

-- no two places have one position
pub apart : (place other : ℕ) → position place ≡ position other → place ≡ other
apart place other e = same_some place other (sym (place_back place) ∙ (ap place_at e ∙ place_back other))

-- and each lies below the count
pub below : (place count : ℕ) → place < count → position place < count + gaps
below place count low = grind (arith, nat_tests)

-- the word at a position
laid_at : (words : List ℕ) (at left k : ℕ) → k < left → get_or (laid_from words at left) k 0 ≡ word_found words (place_at (at + k))
unfolding laid_from
laid_at words at zero k low = absurd (omega arith)
laid_at words at (suc left) zero low = let e : at ≡ at + 0 = omega arith in ap (λ (n : ℕ). word_found words (place_at n)) e
laid_at words at (suc left) (suc k) low = let e : suc at + k ≡ at + suc k = omega arith in laid_at words (suc at) left k (omega arith) ∙ ap (λ (n : ℕ). word_found words (place_at n)) e

pub laid_found : (words : List ℕ) (place : ℕ) → place < length words → get_or (laid words) (position place) 0 ≡ word_at words place
laid_found words place low =
    let e : 0 + position place ≡ position place = omega arith in
    laid_at words 0 (length words + gaps) (position place) (below place (length words) low) ∙ (ap (λ (n : ℕ). word_found words (place_at n)) e ∙ ap (word_found words) (place_back place))

-- a word that changes
found_spared : (words : List ℕ) (place word : ℕ) (its : Option ℕ) → its ≢ Some place → word_found (set words place word) its ≡ word_found words its
found_spared words place word None other = refl
found_spared words place word (Some k) other = get_or-set_other words place k word 0 (λ e. other (ap (λ (n : ℕ). Some n) e))

not_there : (at place : ℕ) → at ≢ position place → place_at at ≢ Some place
not_there at place other e = other (place_is at place e)

laid_behind : (words : List ℕ) (place word at left : ℕ) → position place < at → laid_from (set words place word) at left ≡ laid_from words at left
unfolding laid_from
laid_behind words place word at zero behind = refl
laid_behind words place word at (suc left) behind =
    let head = found_spared words place word (place_at at) (not_there at place (λ e. absurd (omega (arith, e, behind)))) in
    let tail = laid_behind words place word (suc at) left (omega arith) in
    λ i. head i ∷ tail i

laid_in : (words : List ℕ) (place word at left d : ℕ) → place < length words → position place ≡ at + d → laid_from (set words place word) at left ≡ set (laid_from words at left) d word
unfolding laid_from
laid_in words place word at zero d low e = refl
laid_in words place word at (suc left) zero low e =
    let here : at ≡ position place = omega (arith, e) in
    let head : word_found (set words place word) (place_at at) ≡ word =
    ap (word_found (set words place word)) (ap place_at here ∙ place_back place) ∙ get_or-set_same words place word 0 low in
    let tail = laid_behind words place word (suc at) left (omega (arith, e)) in
    λ i. head i ∷ tail i
laid_in words place word at (suc left) (suc d) low e =
    let head = found_spared words place word (place_at at) (not_there at place (λ same. absurd (omega (arith, e, same)))) in
    let tail = laid_in words place word (suc at) left d low (omega (arith, e)) in
    λ i. head i ∷ tail i

pub laid_set : (words : List ℕ) (place word : ℕ) → place < length words → laid (set words place word) ≡ set (laid words) (position place) word
laid_set words place word low =
    ap (λ (count : ℕ). laid_from (set words place word) 0 (count + gaps)) (length-set words place word) ∙ laid_in words place word 0 (length words + gaps) (position place) low (omega arith)

pub laid_length : (words : List ℕ) (at left : ℕ) → length (laid_from words at left) ≡ left
unfolding laid_from
laid_length words at zero = refl
laid_length words at (suc left) = ap suc (laid_length words (suc at) left)

-- a word that is written as it was
pub set_found : (words : List ℕ) (at : ℕ) → set words at (get_or words at 0) ≡ words
set_found [] at = refl
set_found (word ∷ words) zero = refl
set_found (word ∷ words) (suc at) = ap (λ (rest : List ℕ). word ∷ rest) (set_found words at)
