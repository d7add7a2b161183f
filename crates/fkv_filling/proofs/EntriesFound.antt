-- The entry that a home has in an index that is laid out so.
use Rattle.std.proofs.Common.{◌≡◌, inl, inr, ℕ, Bool, zero, suc, ◌+◌, ◌*◌, ◌<◌, ◌≤◌, List, [], ◌∷◌, ◌++◌, true, false, length, get_or, refl, sym, ap, subst, ◌∙◌, arith}
use Rattle.std.specs.Prelude.{◌==◌, ◌&&◌, not, if◌then◌else◌}
use Rattle.std.proofs.lemmas.Bool.Decides.{nat_tests}
use Rattle.fkv_index.specs.Slots.{entry_tag}
use Rattle.fkv_index.specs.Entries.{slots_from, order_of, entry_in}
use Rattle.fkv_index.specs.Buckets.{overflow_bucket}
use Rattle.fkv_entries.specs.Room.{needed}
use Rattle.fkv_filling.specs.OpeningIndex.{numbers_from}
use Rattle.fkv_filling.proofs.Positions.{truth, same_or_not}
use Rattle.fkv_filling.proofs.Laid.{IsLaid, link_bucket, rest_of, slot_at, along_is}

-- so many words of a list, from one on, and 0 past its end
unfoldable pub words_from : List ℕ → ℕ → ℕ → List ℕ
words_from c first zero = []
words_from c first (suc count) = get_or c first 0 ∷ words_from c (first + 1) count

from_is : (c : List ℕ) (first second count : ℕ) → first ≡ second → words_from c first count ≡ words_from c second count
from_is c first second count is = ap (λ s. words_from c s count) is

words_more : (c : List ℕ) (first m n : ℕ) → words_from c first (m + n) ≡ words_from c first m ++ words_from c (first + m) n
unfolding words_from
words_more c first zero n =
    let e : zero + n ≡ n = omega arith in
    let f : first ≡ first + zero = omega arith in
    ap (words_from c first) e ∙ from_is c first (first + zero) n f
words_more c first (suc m) n =
    let e : suc m + n ≡ suc (m + n) = omega arith in
    let f : first + 1 + m ≡ first + suc m = omega arith in
    ap (words_from c first) e ∙ ap (λ ws. get_or c first 0 ∷ ws) (words_more c (first + 1) m n ∙ ap (λ ws. words_from c (first + 1) m ++ ws) (from_is c (first + 1 + m) (first + suc m) n f))

slots_are : {k v t : ℕ} {chain : ℕ → List ℕ} {below : ℕ → ℕ} {g : ℕ → ℕ → ℕ} (laid : IsLaid k v t chain below g) (b j first count : ℕ) → b < k → j ≤ needed (length (chain b)) → first + count ≤ 7
    → slots_from g (link_bucket k below b j) first count ≡ words_from (chain b) (7 * j + first) count
unfolding slots_from words_from
slots_are laid b j first zero low few it = refl
slots_are {k} {v} {t} {chain} {below} {g} laid b j first (suc count) low few it =
    let e : 7 * j + (first + 1) ≡ 7 * j + first + 1 = omega arith in
    ap (λ w. w ∷ slots_from g (link_bucket k below b j) (first + 1) count) (slot_at laid b j first low few (omega (arith, it)))
    ∙ ap (λ ws. get_or (chain b) (7 * j + first) 0 ∷ ws) (slots_are laid b j (first + 1) count low few (omega (arith, it)) ∙ from_is (chain b) (7 * j + (first + 1)) (7 * j + first + 1) count e)

seven_are : {k v t : ℕ} {chain : ℕ → List ℕ} {below : ℕ → ℕ} {g : ℕ → ℕ → ℕ} (laid : IsLaid k v t chain below g) (b j : ℕ) → b < k → j ≤ needed (length (chain b))
    → slots_from g (link_bucket k below b j) 0 7 ≡ words_from (chain b) (7 * j) 7
seven_are {k} {v} {t} {chain} {below} laid b j low few =
    let e : 7 * j + 0 ≡ 7 * j = omega arith in
    slots_are laid b j 0 7 low few (omega arith) ∙ from_is (chain b) (7 * j + 0) (7 * j) 7 e

-- the words of a bucket and of the overflow buckets behind it are its chain, and empty slots
pub order_is : {k v t : ℕ} {chain : ℕ → List ℕ} {below : ℕ → ℕ} {g : ℕ → ℕ → ℕ} (laid : IsLaid k v t chain below g) (b j count : ℕ) → b < k → j + count ≡ needed (length (chain b))
    → order_of k g (link_bucket k below b j) (rest_of below b j count) ≡ words_from (chain b) (7 * j) (7 * (count + 1))
unfolding order_of numbers_from
order_is {k} {v} {t} {chain} {below} {g} laid b j zero low are =
    let e : 7 ≡ 7 * (zero + 1) = omega arith in
    seven_are laid b j low (omega (arith, are)) ∙ ap (words_from (chain b) (7 * j)) e
order_is {k} {v} {t} {chain} {below} {g} laid b j (suc count) low are =
    let e : 7 * suc j ≡ 7 * j + 7 = omega arith in
    let f : 7 + 7 * (count + 1) ≡ 7 * (suc count + 1) = omega arith in
    ap (λ ws. ws ++ order_of k g (overflow_bucket k (below b + j + 1)) (numbers_from (below b + j + 1 + 1) count)) (seven_are laid b j low (omega (arith, are)))
    ∙ ap (λ ws. words_from (chain b) (7 * j) 7 ++ ws)
    (along_is k below (order_of k g) b j count ∙ order_is laid b (suc j) count low (omega (arith, are)) ∙ from_is (chain b) (7 * suc j) (7 * j + 7) (7 * (count + 1)) e)
    ∙ sym (words_more (chain b) (7 * j) 7 (7 * (count + 1))) ∙ ap (words_from (chain b) (7 * j)) f

abbrev is_its : ℕ → ℕ → Bool
is_its tag word = not (word == 0) && entry_tag word == tag

both_so : (a b : Bool) → (not a && b) ≡ true → (a ≡ false) × (b ≡ true)
both_so true b e = absurd (cc)
both_so false b e = (refl, e)

so_both : (a b : Bool) → a ≡ false → b ≡ true → (not a && b) ≡ true
so_both true b e f = absurd (cc)
so_both false b e f = f

no_zero : (n : ℕ) → (n == 0) ≡ false → n ≡ 0 → ⊥
no_zero n e none = grind (arith, nat_tests, e, none)

zero_not : (n : ℕ) → (n ≡ 0 → ⊥) → (n == 0) ≡ false
zero_not n some = elim (truth (n == 0)) [ inl e ↦ absurd (some (grind (arith, nat_tests, e))) | inr e ↦ e ]

equal_so : (a b : ℕ) → (a == b) ≡ true → a ≡ b
equal_so a b e = grind (arith, nat_tests, e)

so_equal : (a b : ℕ) → a ≡ b → (a == b) ≡ true
so_equal a b e = grind (arith, nat_tests, e)

its_so : (tag word : ℕ) → is_its tag word ≡ true → (word ≡ 0 → ⊥) × (entry_tag word ≡ tag)
its_so tag word e = let h = both_so (word == 0) (entry_tag word == tag) e in (no_zero word h.0, equal_so (entry_tag word) tag h.1)

so_its : (tag word : ℕ) → (word ≡ 0 → ⊥) → entry_tag word ≡ tag → is_its tag word ≡ true
so_its tag word some its = so_both (word == 0) (entry_tag word == tag) (zero_not word some) (so_equal (entry_tag word) tag its)

choose : (t : Bool) (a b : ℕ) → t ≡ true → (if t then a else b) ≡ a
choose true a b e = refl
choose false a b e = absurd (cc)

pass : (t : Bool) (a b : ℕ) → t ≡ false → (if t then a else b) ≡ b
pass true a b e = absurd (cc)
pass false a b e = refl

pub entry_found : (tag : ℕ) (c : List ℕ) (first count at : ℕ) → first ≤ at → at < first + count → (get_or c at 0 ≡ 0 → ⊥) → entry_tag (get_or c at 0) ≡ tag
    → ((m : ℕ) → (get_or c m 0 ≡ 0 → ⊥) → entry_tag (get_or c m 0) ≡ tag → m ≡ at) → entry_in tag (words_from c first count) ≡ get_or c at 0
unfolding words_from entry_in
entry_found tag c first zero at low high some its one = absurd (omega (arith, low, high))
entry_found tag c first (suc count) at low high some its one = elim (same_or_not first at) [
  | inl here ↦ choose (is_its tag (get_or c first 0)) (get_or c first 0) (entry_in tag (words_from c (first + 1) count)) (subst (λ n. is_its tag (get_or c n 0) ≡ true) (sym here) (so_its tag (get_or c at 0) some its)) ∙ ap (λ n. get_or c n 0) here
  | inr other ↦ elim (truth (is_its tag (get_or c first 0))) [
    | inl e ↦ let h = its_so tag (get_or c first 0) e in absurd (other (one first h.0 h.1))
    | inr e ↦ pass (is_its tag (get_or c first 0)) (get_or c first 0) (entry_in tag (words_from c (first + 1) count)) e ∙ entry_found tag c (first + 1) count at (omega (arith, low, other)) (omega (arith, high)) some its one
  ]
]

pub no_entry_found : (tag : ℕ) (c : List ℕ) (first count : ℕ) → ((m : ℕ) → (get_or c m 0 ≡ 0 → ⊥) → entry_tag (get_or c m 0) ≡ tag → ⊥) → entry_in tag (words_from c first count) ≡ 0
unfolding words_from entry_in
no_entry_found tag c first zero none = refl
no_entry_found tag c first (suc count) none = elim (truth (is_its tag (get_or c first 0))) [
  | inl e ↦ let h = its_so tag (get_or c first 0) e in absurd (none first h.0 h.1)
  | inr e ↦ pass (is_its tag (get_or c first 0)) (get_or c first 0) (entry_in tag (words_from c (first + 1) count)) e ∙ no_entry_found tag c (first + 1) count none
]
