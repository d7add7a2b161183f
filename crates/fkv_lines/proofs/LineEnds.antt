-- The first line of a script, and the lines after it.
use Rattle.std.proofs.Common.{◌≡◌, ◌==◌, ℕ, ◌+◌, ◌<◌, ◌≤◌, Bool, true, false, cond, nat_lt, nat_eq, List, [], ◌∷◌, length, take, drop, position, Some, None, refl, ap, ◌∙◌, ltb-true, ltb-false, ne_eqb, arith}
use Rattle.std.specs.List.{slice_split, position_or_len}
use Rattle.std.proofs.lemmas.List.Splits.{slice_split_first, slice_split_none, length-slice_split}
use Rattle.std.proofs.lemmas.List.Elements.{All-from_get_or}
use Rattle.std.proofs.lemmas.List.Sums.{fails_before_first}
use Rattle.fkv_lines.specs.Words.{ended_lines, lines_of}

abbrev ends : ℕ → Bool
ends byte = byte == 10

-- where another part stands behind a line, the line has ended
ended-more : (line : List ℕ) (parts : List (List ℕ)) → 0 < length parts → ended_lines (line ∷ parts) ≡ line ∷ ended_lines parts
ended-more line [] h = absurd (omega arith)
ended-more line (next ∷ more) h = refl

found_at : (b : Bool) (n end : ℕ) → cond b (Some n) None ≡ Some end → (b ≡ true) × (n ≡ end)
found_at true n end e = (refl, cc)
found_at false n end e = absurd cc

not_found : (b : Bool) (n : ℕ) → cond b (Some n) None ≡ None → b ≡ false
not_found true n e = absurd cc
not_found false n e = refl

pub lines_of-ended : (bytes : List ℕ) (end : ℕ) → position ends bytes ≡ Some end → lines_of bytes ≡ take end bytes ∷ lines_of (drop (end + 1) bytes)
unfolding lines_of
lines_of-ended bytes end found =
    let at = found_at (nat_lt (position_or_len ends bytes) (length bytes)) (position_or_len ends bytes) end found in
    let parts = slice_split_first ends bytes 0 (ltb-true _ _ at.0) in
    let more : 0 < length (slice_split ends (drop (end + 1) bytes)) = omega (arith, length-slice_split ends (drop (end + 1) bytes)) in
    ap ended_lines (rw at.1 at parts) ∙ ended-more (take end bytes) (slice_split ends (drop (end + 1) bytes)) more

pub lines_of-whole : (bytes : List ℕ) → 0 < length bytes → position ends bytes ≡ None → lines_of bytes ≡ bytes ∷ lines_of []
unfolding lines_of
lines_of-whole bytes some none =
    let past : length bytes ≤ position_or_len ends bytes = ltb-false _ _ (not_found (nat_lt (position_or_len ends bytes) (length bytes)) (position_or_len ends bytes) none) in
    let all = All-from_get_or (λ byte. ends byte ≡ false) bytes 0 (λ i lt. fails_before_first ends bytes i 0 (omega arith)) in
    let full : nat_eq (length bytes) 0 ≡ false = ne_eqb _ _ (λ e. absurd (omega arith)) in
    ap ended_lines (slice_split_none ends bytes all) ∙ rw full refl

pub lines_of-nil : (bytes : List ℕ) → length bytes ≡ 0 → lines_of bytes ≡ []
unfolding lines_of
lines_of-nil [] none = refl
lines_of-nil (byte ∷ bytes) none = absurd (omega arith)
