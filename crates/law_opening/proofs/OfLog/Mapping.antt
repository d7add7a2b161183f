-- The map of keys with their values has just these values.
use Rattle.std.proofs.Common.{◌≡◌, ⊎_elim, ℕ, zero, suc, ◌<◌, Bool, true, false, cond, Option, Some, None, refl, sym, ap, ◌∙◌, arith}
use Rattle.std.specs.FinMap.{find, from_entries, get, get-from_entries}
use Rattle.std.specs.Ordering.{eq_by_cmp, nat_cmp}
use Rattle.std.proofs.lemmas.Cmp.{nat_cmp_total}
use Rattle.law_paper.proofs.Below.fkv_scan.Shown.{at_or_below, at_same, is_same}
use Rattle.law_opening.specs.Log.Maps.{values_below, with_value}

module _ (value_of : ℕ → Option ℕ) (key_at : ℕ → ℕ) where
  found_value : (n key v : ℕ) → find nat_cmp key (values_below value_of key_at n) ≡ Some v → value_of key ≡ Some v
  unfolding values_below
  found_value zero key v is = absurd (cc)
  found_value (suc a) key v is = by_value (value_of (key_at a)) refl (found_value a key v) is
    where
      by_test : (t : Bool) (w : ℕ) → eq_by_cmp nat_cmp key (key_at a) ≡ t → value_of (key_at a) ≡ Some w → (find nat_cmp key (values_below value_of key_at a) ≡ Some v → value_of key ≡ Some v)
          → cond t (Some w) (find nat_cmp key (values_below value_of key_at a)) ≡ Some v → value_of key ≡ Some v
      by_test true w same has rest is = ap value_of (is_same key (key_at a) same) ∙ has ∙ is
      by_test false w other has rest is = rest is

      by_value : (w : Option ℕ) → value_of (key_at a) ≡ w → (find nat_cmp key (values_below value_of key_at a) ≡ Some v → value_of key ≡ Some v)
          → find nat_cmp key (with_value (key_at a) w (values_below value_of key_at a)) ≡ Some v → value_of key ≡ Some v
      by_value None has rest is = rest is
      by_value (Some w) has rest is = by_test (eq_by_cmp nat_cmp key (key_at a)) w refl has rest is

  none_found : (n key v b : ℕ) → find nat_cmp key (values_below value_of key_at n) ≡ None → b < n → key_at b ≡ key → value_of key ≡ Some v → ⊥
  unfolding values_below
  none_found zero key v b none low its has = omega (arith, low)
  none_found (suc a) key v b none low its has = by_value (value_of (key_at a)) refl (λ rest less. none_found a key v b rest less its has) none
    where
      here : b ≡ a → key_at a ≡ key
      here same = ap key_at (sym same) ∙ its

      by_test : (t : Bool) (w : ℕ) → eq_by_cmp nat_cmp key (key_at a) ≡ t → (find nat_cmp key (values_below value_of key_at a) ≡ None → b < a → ⊥)
          → cond t (Some w) (find nat_cmp key (values_below value_of key_at a)) ≡ None → ⊥
      by_test true w same rest is = absurd (cc)
      by_test false w other rest is = ⊎_elim (rest is)
          (λ last. let off : true ≡ false = sym (at_same key (key_at a) (sym (here last))) ∙ other in absurd (cc))
          (at_or_below b a (omega (arith, low)))

      by_value : (w : Option ℕ) → value_of (key_at a) ≡ w → (find nat_cmp key (values_below value_of key_at a) ≡ None → b < a → ⊥)
          → find nat_cmp key (with_value (key_at a) w (values_below value_of key_at a)) ≡ None → ⊥
      by_value None none_there rest is = ⊎_elim (rest is)
          (λ last. let off : None ≡ Some v = sym none_there ∙ ap value_of (here last) ∙ has in absurd (cc))
          (at_or_below b a (omega (arith, low)))
      by_value (Some w) there rest is = by_test (eq_by_cmp nat_cmp key (key_at a)) w refl rest is

  -- where each key with a value is met
  pub get_value : (n : ℕ) → ((key v : ℕ) → value_of key ≡ Some v → (b : ℕ) × (b < n) × (key_at b ≡ key)) → (key : ℕ) → value_of key ≡ get (from_entries {R = nat_cmp} (values_below value_of key_at n)) key
  get_value n met key = by_found (find nat_cmp key (values_below value_of key_at n)) refl ∙ sym (get-from_entries nat_cmp_total (values_below value_of key_at n) key)
    where
      by_none : (w : Option ℕ) → value_of key ≡ w → find nat_cmp key (values_below value_of key_at n) ≡ None → w ≡ None
      by_none None is none = refl
      by_none (Some v) is none = (let at = met key v is in absurd (none_found n key v at.0 none at.1 at.2 is))

      by_found : (found : Option ℕ) → find nat_cmp key (values_below value_of key_at n) ≡ found → value_of key ≡ find nat_cmp key (values_below value_of key_at n)
      by_found None none = by_none (value_of key) refl none ∙ sym none
      by_found (Some v) is = found_value n key v is ∙ sym is
