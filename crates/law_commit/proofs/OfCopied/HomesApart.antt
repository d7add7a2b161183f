-- Triples of entries that were copied: no two of one home, if no two of the entries are.
use Rattle.std.proofs.Common.{◌≡◌, ℕ, zero, suc, ◌+◌, ◌*◌, ◌<◌, ◌^◌, arith, ◌∙◌, refl, sym, ap, subst, List, [], ◌∷◌, map}
use Rattle.std.specs.List.{AllByRecursion}
use Rattle.std.specs.Prelude.{slice_get, Some}
use Rattle.law_refine.specs.Below.fkv_checkpoint.Fuzzy.{AreApart as AreHomesApart}
use Rattle.law_refine.specs.Below.fkv_checkpoint.Triples.{CopiedEntry, copied_of}
use Rattle.fkv_record.specs.declared.triples.Triple.{Triple}
use Rattle.law_paper.specs.Below.fkv_scan.Log.{AreApart, triple_home}

same_bucket : (a b s t : ℕ) → s < 2 ^ 15 → t < 2 ^ 15 → a * 2 ^ 15 + s ≡ b * 2 ^ 15 + t → a ≡ b
same_bucket a b s t one other same = omega (arith, one, other, same)

same_tag : (a b s t : ℕ) → s < 2 ^ 15 → t < 2 ^ 15 → a * 2 ^ 15 + s ≡ b * 2 ^ 15 + t → s ≡ t
same_tag a b s t one other same = omega (arith, one, other, same)

-- the number of a home names it
same_home : (x y : Triple) → triple_home x ≡ triple_home y → (copied_of x).home ≡ (copied_of y).home
same_home x y same =
    let bucket : x.bucket ≡ y.bucket = same_bucket x.bucket y.bucket x.tag y.tag x.tag_fits y.tag_fits same in
    let tag : x.tag ≡ y.tag = same_tag x.bucket y.bucket x.tag y.tag x.tag_fits y.tag_fits same in
    let parts : ◌≡◌ {A = ℕ × ℕ} (x.bucket, x.tag) (y.bucket, y.tag) = cc in
    ap (λ (p : ℕ × ℕ). record { bucket = p.0; tag = p.1 }) parts

-- what holds of all entries that were copied holds of that of each triple
pub one_of : (P : CopiedEntry → Type 0) (triples : List Triple) (i : ℕ) (x : Triple) → AllByRecursion P (map copied_of triples) → slice_get triples i ≡ Some x → P (copied_of x)
one_of P [] i x all e = cc
one_of P (y ∷ triples) zero x all e = let same : y ≡ x = cc in subst (λ (z : Triple). P (copied_of z)) same all.0
one_of P (y ∷ triples) (suc i) x all e = one_of P triples i x all.1 e

pub triples_apart : (triples : List Triple) → AreHomesApart (map copied_of triples) → AreApart triples
triples_apart [] apart i j x y one other same = cc
triples_apart (z ∷ triples) apart zero zero x y one other same = refl
triples_apart (z ∷ triples) apart zero (suc j) x y one other same =
    let is : z ≡ x = cc in
    absurd (one_of (λ (e : CopiedEntry). e.home ≡ (copied_of z).home → ⊥) triples j y apart.0 other (same_home y z (sym (ap triple_home is ∙ same))))
triples_apart (z ∷ triples) apart (suc i) zero x y one other same =
    let is : z ≡ y = cc in
    absurd (one_of (λ (e : CopiedEntry). e.home ≡ (copied_of z).home → ⊥) triples i x apart.0 one (same_home x z (same ∙ sym (ap triple_home is))))
triples_apart (z ∷ triples) apart (suc i) (suc j) x y one other same = ap suc (triples_apart triples apart.1 i j x y one other same)
