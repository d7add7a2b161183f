-- The greatest address whose record has a property.
use Rattle.std.proofs.Common.{◌≡◌, ◌⊎◌, inl, inr, ⊎_elim, ℕ, ◌+◌, ◌<◌, ◌≤◌, Bool, true, false, Option, Some, None, refl, subst, arith}
use Rattle.std.specs.Prelude.{nat_lt}
use Rattle.std.proofs.lemmas.Bool.Decides.{nat_tests}
use Rattle.fkv_base.specs.declared.numbers.Addr.{Addr}
use Rattle.fkv_record.specs.declared.records.Record.{Record}
use Rattle.fkv_scan.specs.Scan.{HasNone, Has, IsGreatest}
use Rattle.fkv_scan.specs.Scanned.{IsGreatestOf}

split : (b a : ℕ) (less : Bool) → nat_lt b a ≡ less → (b < a) ⊎ (a ≤ b)
split b a true is = inl (grind (arith, nat_tests, is))
split b a false is = inr (grind (arith, nat_tests, is))

pub below_or_not : (b a : ℕ) → (b < a) ⊎ (a ≤ b)
below_or_not b a = split b a (nat_lt b a) refl

-- an address that is at most a number is below it or is it
pub at_or_below : (b a : ℕ) → b < a + 1 → (b < a) ⊎ (b ≡ a)
at_or_below b a less = ⊎_elim inl (λ more. inr (omega (arith, less, more))) (below_or_not b a)

module _ (P : ℕ → Record → Type 0) where
  pub none_at_start : (from : ℕ) → HasNone P from from
  none_at_start from b y on below this = absurd (omega (arith, on, below))

  pub none_more : (from a : ℕ) → HasNone P from a → ((y : Record) → P a y → ⊥) → HasNone P from (a + 1)
  none_more from a none here b y on below this =
      ⊎_elim (λ less. none b y on less this) (λ same. here y (subst (λ n. P n y) same this)) (at_or_below b a below)

  pub greatest_here : (from a : ℕ) → from ≤ a → Has P a → IsGreatest P from (a + 1) a
  greatest_here from a on has = record {
    from_on = on;
    below = omega arith;
    here = has;
    none_above = λ b y above below this. absurd (omega (arith, above, below));
  }

  pub greatest_more : (from a b : ℕ) → IsGreatest P from a b → ((y : Record) → P a y → ⊥) → IsGreatest P from (a + 1) b
  greatest_more from a b greatest here =
      let low = greatest.below in
      record {
        from_on = greatest.from_on;
        below = omega (arith, low);
        here = greatest.here;
        none_above = none_more (b + 1) a greatest.none_above here;
      }

  pub known_more : (from a : ℕ) (o : Option Addr) → IsGreatestOf P from a o → ((y : Record) → P a y → ⊥) → IsGreatestOf P from (a + 1) o
  known_more from a None none here = none_more from a none here
  known_more from a (Some b) greatest here = greatest_more from a b.0 greatest here

  -- two greatest ones are one
  not_above : (from a b c : ℕ) → IsGreatest P from a b → IsGreatest P from a c → b < c → ⊥
  not_above from a b c first second less = first.none_above c second.here.0 (omega (arith, less)) second.below second.here.1

  pub greatest_same : (from a b c : ℕ) → IsGreatest P from a b → IsGreatest P from a c → b ≡ c
  greatest_same from a b c first second =
      ⊎_elim (λ less. absurd (not_above from a b c first second less))
      (λ more. ⊎_elim (λ greater. absurd (not_above from a c b second first greater)) (λ no_more. omega (arith, more, no_more)) (below_or_not c b)) (below_or_not b c)

  pub greatest_is_some : (from a b : ℕ) → IsGreatest P from a b → HasNone P from a → ⊥
  greatest_is_some from a b greatest none = none b greatest.here.0 greatest.from_on greatest.below greatest.here.1
