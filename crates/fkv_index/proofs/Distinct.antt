-- Lists in which no number stands twice.
use Rattle.std.proofs.Common.{◌≡◌, ℕ, zero, suc, ◌+◌, ◌<◌, ◌≤◌, ◌⊎◌, List, [], ◌∷◌, length, refl, inl, inr, arith, sym, subst, Bool, true, false, eqb-true}
use Rattle.std.specs.Prelude.{nat_lt, ◌==◌, if◌then◌else◌}
use Rattle.std.proofs.lemmas.Bool.Decides.{nat_tests}
use Rattle.fkv_index.specs.Buckets.{IsMember, IsOnce}
use Rattle.fkv_index.proofs.Orders.{truth, same_or_not}

-- a list without one of its numbers
without : List ℕ → ℕ → List ℕ
without [] n = []
without (r ∷ rest) n = if r == n then rest else r ∷ without rest n

without_member : (list : List ℕ) (n m : ℕ) → IsMember m (without list n) → IsMember m list
unfolding without
without_member [] n m none = none
without_member (r ∷ rest) n m found = tested (without_member rest n m) (r == n) found
  where
    tested : (IsMember m (without rest n) → IsMember m rest) → (b : Bool) → IsMember m (if b then rest else r ∷ without rest n) → IsMember m (r ∷ rest)
    tested rec true found = inr found
    tested rec false (inl same) = inl same
    tested rec false (inr there) = inr (rec there)

without_once : (list : List ℕ) (n : ℕ) → IsOnce list → IsOnce (without list n) × (IsMember n (without list n) → ⊥)
unfolding without
without_once [] n once = (tt, λ none. none)
without_once (r ∷ rest) n once = tested (without_once rest n once.1) (r == n) refl
  where
    absent : (r == n) ≡ false → (IsMember n (without rest n) → ⊥) → (n ≡ r) ⊎ IsMember n (without rest n) → ⊥
    absent e out (inl same) = absurd (grind (arith, nat_tests, e, same))
    absent e out (inr there) = out there

    tested : IsOnce (without rest n) × (IsMember n (without rest n) → ⊥) → (b : Bool) → (r == n) ≡ b → IsOnce (if b then rest else r ∷ without rest n) × (IsMember n (if b then rest else r ∷ without rest n) → ⊥)
    tested less true e = (once.1, λ found. once.0 (subst (λ x. IsMember x rest) (sym (eqb-true r n e)) found))
    tested less false e = (((λ found. once.0 (without_member rest n r found)), less.0), absent e less.1)

without_length : (list : List ℕ) (n : ℕ) → length list ≤ length (without list n) + 1
unfolding without
without_length [] n = omega arith
without_length (r ∷ rest) n = tested (without_length rest n) (r == n)
  where
    tested : length rest ≤ length (without rest n) + 1 → (b : Bool) → length (r ∷ rest) ≤ length (if b then rest else r ∷ without rest n) + 1
    tested h true = omega arith
    tested h false = omega (arith, h)

-- a list in which no number stands twice is no longer than there are numbers
pub once_few : (most : ℕ) (list : List ℕ) → IsOnce list → ((n : ℕ) → IsMember n list → (1 ≤ n) × (n ≤ most)) → length list ≤ most
once_few zero [] once within = omega arith
once_few zero (r ∷ rest) once within = let h = within r (inl refl) in absurd (omega (arith, h.0, h.1))
once_few (suc most) list once within =
    let less = without_once list (suc most) once in
    let long = without_length list (suc most) in
    let few = once_few most (without list (suc most)) less.0 (λ n found.
    let h = within n (without_member list (suc most) n found) in (
      h.0,
      elim (same_or_not n (suc most)) [
        | inl same ↦ absurd (less.1 (subst (λ x. IsMember x (without list (suc most))) same found))
        | inr other ↦ (let high = h.1 in below n most high other)
      ],
    )) in
    omega (arith, long, few)
  where
    below : (n most : ℕ) → n ≤ suc most → (n ≡ suc most → ⊥) → n ≤ most
    below n most high other = elim (truth (nat_lt most n)) [
      | inl e ↦ let above : most < n = grind (arith, nat_tests, e) in absurd (other (omega (arith, above, high)))
      | inr e ↦ grind (arith, nat_tests, e)
    ]
