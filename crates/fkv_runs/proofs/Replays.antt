-- Recovered pairs against a replay.
use Rattle.std.specs.Prelude.{◌≡◌, ◌↔◌, ℕ, Bool, ◌&&◌, List, [], ◌∷◌, IsTrue, nat_eq}
use Rattle.std.specs.Bool.{Decides}
use Rattle.std.proofs.Common.{refl, sym, ◌∙◌, ap, arith}
use Rattle.std.proofs.lemmas.Grind.{common_steps}
use Rattle.std.proofs.lemmas.Slice.Eq.{slice_eq-Decides}
use lib.Pointwise.{pointwise}
use Rattle.fkv_base.specs.declared.numbers.Key.{Key}
use Rattle.fkv_base.specs.declared.numbers.Value.{Value}
use Rattle.fkv_map.specs.Map.{as_numbers}

abbrev is_pair : Key × Value → Key × Value → Bool
is_pair a b = nat_eq a.0.0 b.0.0 && nat_eq a.1.0 b.1.0

same_pair : (a b : Key × Value) → a.0.0 ≡ b.0.0 → a.1.0 ≡ b.1.0 → a ≡ b
same_pair a b keys values =
    let its_key : a.0 ≡ b.0 = ap (λ (n : ℕ). let its : Key = record { 0 = n } in its) keys in
    let its_value : a.1 ≡ b.1 = ap (λ (n : ℕ). let its : Value = record { 0 = n } in its) values in
    ap (λ (its : Key). let p : Key × Value = (its, a.1) in p) its_key ∙ ap (λ (its : Value). let p : Key × Value = (b.0, its) in p) its_value

is_pair-Decides : (a b : Key × Value) → Decides (is_pair a b) (a ≡ b)
is_pair-Decides a b = grind (arith, common_steps, same_pair)

same_pairs : (xs ys : List (Key × Value)) → as_numbers xs ≡ as_numbers ys → xs ≡ ys
same_pairs [] [] same = refl
same_pairs [] (y ∷ ys) same = cc
same_pairs (x ∷ xs) [] same = cc
same_pairs (x ∷ xs) (y ∷ ys) same =
    let rest : xs ≡ ys = same_pairs xs ys (cc) in
    let both : ◌≡◌ {A = ℕ × ℕ} (x.0.0, x.1.0) (y.0.0, y.1.0) = cc in
    let first : x ≡ y = same_pair x y (ap (λ (p : ℕ × ℕ). p.0) both) (ap (λ (p : ℕ × ℕ). p.1) both) in
    cc

-- The pairs that a map was told as, against others: they are the same exactly where these are the map's entries too.
pub replay_agrees : (entries : List (ℕ × ℕ)) (told pairs : List (Key × Value)) (agrees : Bool) → as_numbers told ≡ entries → agrees ≡ pointwise is_pair told pairs
    → IsTrue agrees ↔ (as_numbers pairs ≡ entries)
replay_agrees entries told pairs agrees are_told is =
    let tested : Decides agrees (told ≡ pairs) = slice_eq-Decides is_pair-Decides told pairs agrees is in (
      λ holds. let same : told ≡ pairs = tested.0 holds in sym (ap as_numbers same) ∙ are_told,
      λ same. tested.1 (same_pairs told pairs (are_told ∙ sym same)),
    )
