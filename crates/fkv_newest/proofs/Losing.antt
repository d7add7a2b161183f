-- The lost ranges of a slot, one after another.
use Rattle.std.proofs.Common.{◌≡◌, ◌⊎◌, inl, inr, ⊎_elim, ℕ, ◌+◌, ◌-◌, ◌<◌, List, length, get_or, sym, subst, arith}
use Rattle.std.proofs.lemmas.List.{get_or_read}
use Rattle.fkv_record.specs.declared.lost_ranges.LostRange.{LostRange}
use Rattle.fkv_record.specs.declared.manifest_slots.ManifestSlot.{ManifestSlot}
use Rattle.fkv_newest.specs.Manifest.{IsLostIn, Follows, HasLost}

-- the first ranges of a list are in order
pub record AreInOrder (slot : ManifestSlot) (ranges : List LostRange) (n : ℕ) : Type 0 where
  pub each : (k : ℕ) (d : LostRange) → k < n → IsLostIn slot (get_or ranges k d)
  pub rising : (i j : ℕ) (d : LostRange) → i < j → j < n → Follows (get_or ranges i d) (get_or ranges j d)

pub none_lost : (slot : ManifestSlot) (ranges : List LostRange) → AreInOrder slot ranges 0
none_lost slot ranges = record { each = λ k d below. absurd (omega (arith, below)); rising = λ i j d lower below. absurd (omega (arith, below)) }

last_or_below : (k n : ℕ) → k < n + 1 → (k < n) ⊎ (k ≡ n)
last_or_below k n below = grind arith

on_to : (a b c : LostRange) → Follows a b → Follows b c → Follows a c
on_to a b c first second = record { newer = omega (arith, first.newer, second.newer); no_lower = omega (arith, first.no_lower, second.no_lower) }

module _ (slot : ManifestSlot) (ranges : List LostRange) (n : ℕ) (before : AreInOrder slot ranges n) (x : LostRange) (within : n < length ranges) (is : x ≡ get_or ranges n x) where
  here : (d : LostRange) → x ≡ get_or ranges n d
  here d = get_or_read ranges n x within is d

  module _ (lost : IsLostIn slot x) (follows : 0 < n → (d : LostRange) → Follows (get_or ranges (n - 1) d) x) where
    follow_last : (i : ℕ) (d : LostRange) → i < n → (i < n - 1) ⊎ (i ≡ n - 1) → Follows (get_or ranges i d) x
    follow_last i d lower (inl far) = on_to (get_or ranges i d) (get_or ranges (n - 1) d) x (before.rising i (n - 1) d far (omega (arith, lower))) (follows (omega (arith, lower)) d)
    follow_last i d lower (inr next) = subst (λ k. Follows (get_or ranges k d) x) (sym next) (follows (omega (arith, lower)) d)

    far_or_next : (i : ℕ) → i < n → (i < n - 1) ⊎ (i ≡ n - 1)
    far_or_next i lower = grind arith

    pub one_more : AreInOrder slot ranges (n + 1)
    one_more = record {
      each = λ k d below. ⊎_elim (before.each k d)
          (λ last. subst (λ m. IsLostIn slot (get_or ranges m d)) (sym last) (subst (λ y. IsLostIn slot y) (here d) lost)) (last_or_below k n below);
      rising = λ i j d lower below. ⊎_elim (λ low. before.rising i j d lower low)
          (λ last. subst (λ m. Follows (get_or ranges i d) (get_or ranges m d)) (sym last)
          (subst (λ y. Follows (get_or ranges i d) y) (here d) (follow_last i d (omega (arith, lower, last)) (far_or_next i (omega (arith, lower, last)))))) (last_or_below j n below);
    }

  -- a slot in whose order the range isn't
  pub off_alone : (ranges ≡ slot.lost.ranges.items) → (IsLostIn slot x → ⊥) → HasLost slot → ⊥
  off_alone same off all = off (subst (λ y. IsLostIn slot y) (sym (here x)) (subst (λ l. IsLostIn slot (get_or l n x)) (sym same) (all.each n x (subst (λ l. n < length l) same within))))

  pub off_after : (ranges ≡ slot.lost.ranges.items) → (y : LostRange) → y ≡ get_or ranges (n - 1) y → 0 < n → (Follows y x → ⊥) → HasLost slot → ⊥
  off_after same y is_y some off all =
      let low : n - 1 < length ranges = omega (arith, within, some) in
      let y_here : y ≡ get_or ranges (n - 1) x = get_or_read ranges (n - 1) y low is_y x in
      let rising : Follows (get_or ranges (n - 1) x) (get_or ranges n x) =
      subst (λ l. Follows (get_or l (n - 1) x) (get_or l n x)) (sym same) (all.rising (n - 1) n x (omega (arith, some)) (subst (λ l. n < length l) same within)) in
      off (subst (λ z. Follows z x) (sym y_here) (subst (λ z. Follows (get_or ranges (n - 1) x) z) (sym (here x)) rising))

pub all_in_order : (slot : ManifestSlot) (ranges : List LostRange) → ranges ≡ slot.lost.ranges.items → AreInOrder slot ranges (length ranges) → HasLost slot
all_in_order slot ranges same all =
    let here = subst (λ l. AreInOrder slot l (length l)) same all in
    record { each = λ k d below. here.each k d below; rising = λ i j d lower below. here.rising i j d lower below }
