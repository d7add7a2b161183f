-- Where a slot stands in the order of its bucket's slots, and what stays of it.
use Rattle.std.proofs.Common.{◌≡◌, ℕ, zero, suc, ◌+◌, ◌-◌, ◌*◌, ◌<◌, ◌≤◌, ◌⊎◌, List, [], ◌∷◌, ◌++◌, length, refl, inl, inr, arith, sym, ap, ◌∙◌, append-nil, Bool, true, false, eqb-true}
use Rattle.std.specs.Prelude.{slice_index, nat_lt, ◌==◌, ◌&&◌, not, if◌then◌else◌}
use Rattle.std.proofs.lemmas.Bool.Decides.{nat_tests}
use Rattle.std.proofs.lemmas.List.{length-append, get_or_append_left, get_or-append-add}
use Rattle.fkv_plane.specs.declared.places.Places.{Places}
use Rattle.fkv_index.specs.Slots.{entry_addr, entry_tag}
use Rattle.fkv_index.specs.Buckets.{bucket_words, overflow_bucket, IsAmong}
use Rattle.fkv_index.specs.OneEntry.{IsIndex, KeepsEntries, KeepsLists}
use Rattle.fkv_index.specs.Entries.{slots_from, order_of, entry_in}
use Rattle.fkv_index.specs.SlotOrders.{slot_order, HasTagsOnce}
use Rattle.fkv_index.proofs.Shown.{IsDeep, among_real}

pub truth : (b : Bool) → (b ≡ true) ⊎ (b ≡ false)
truth true = inl refl
truth false = inr refl

slots_long : (g : ℕ → ℕ → ℕ) (b first count : ℕ) → length (slots_from g b first count) ≡ count
unfolding slots_from
slots_long g b first zero = refl
slots_long g b first (suc count) = ap suc (slots_long g b (first + 1) count)

slots_word : (g : ℕ → ℕ → ℕ) (b first count i at : ℕ) → i < count → at ≡ first + i → slice_index (slots_from g b first count) i ≡ g b at
unfolding slots_from
slots_word g b first zero i at low e = absurd (omega (arith, low))
slots_word g b first (suc count) zero at low e = ap (g b) (omega (arith, e))
slots_word g b first (suc count) (suc i) at low e = slots_word g b (first + 1) count i at (omega (arith, low)) (omega (arith, e))

-- seven words for each bucket
pub order_long : (k : ℕ) (g : ℕ → ℕ → ℕ) (c : ℕ) (list : List ℕ) → length (order_of k g c list) ≡ 7 * (length list + 1)
unfolding order_of
order_long k g c [] = slots_long g c 0 7
order_long k g c (n ∷ rest) =
    let row = slots_long g c 0 7 in
    let behind = order_long k g (overflow_bucket k n) rest in
    let sum = length-append (slots_from g c 0 7) (order_of k g (overflow_bucket k n) rest) in
    omega (arith, row, behind, sum)

-- a word of the first bucket, and one behind it
row_word : (g : ℕ → ℕ → ℕ) (c : ℕ) (rest : List ℕ) (i : ℕ) → i < 7 → slice_index (slots_from g c 0 7 ++ rest) i ≡ g c i
row_word g c rest i low =
    let row = slots_long g c 0 7 in
    get_or_append_left (slots_from g c 0 7) rest 0 i (omega (arith, row, low)) ∙ slots_word g c 0 7 i i low (omega arith)

behind_word : (g : ℕ → ℕ → ℕ) (c : ℕ) (rest : List ℕ) (j o : ℕ) → j ≡ 7 + o → slice_index (slots_from g c 0 7 ++ rest) j ≡ slice_index rest o
behind_word g c rest j o its =
    let row = slots_long g c 0 7 in
    let e : j ≡ length (slots_from g c 0 7) + o = omega (arith, its, row) in
    ap (slice_index (slots_from g c 0 7 ++ rest)) e ∙ get_or-append-add (slots_from g c 0 7) rest o 0

first_word : (k : ℕ) (g : ℕ → ℕ → ℕ) (c : ℕ) (list : List ℕ) (i : ℕ) → i < 7 → slice_index (order_of k g c list) i ≡ g c i
unfolding order_of
first_word k g c [] i low = slots_word g c 0 7 i i low (omega arith)
first_word k g c (n ∷ rest) i low = row_word g c (order_of k g (overflow_bucket k n) rest) i low

-- so many links lead to a bucket: its words stand behind as many sevens
pub deep_word : (k : ℕ) (g : ℕ → ℕ → ℕ) (c : ℕ) (list : List ℕ) (m d i j : ℕ) → IsDeep k c list m d → i < 7 → j ≡ 7 * d + i → slice_index (order_of k g c list) j ≡ g m i
unfolding order_of
deep_word k g c [] m d i j deep low its =
    let none = deep.1 in
    let e : j ≡ i = omega (arith, its, none) in
    ap (slice_index (slots_from g c 0 7)) e ∙ slots_word g c 0 7 i i low (omega arith) ∙ ap (λ x. g x i) (sym deep.0)
deep_word k g c (n ∷ rest) m d i j (inl deep) low its =
    let none = deep.1 in
    let e : j ≡ i = omega (arith, its, none) in
    ap (slice_index (slots_from g c 0 7 ++ order_of k g (overflow_bucket k n) rest)) e ∙ row_word g c (order_of k g (overflow_bucket k n) rest) i low ∙ ap (λ x. g x i) (sym deep.0)
deep_word k g c (n ∷ rest) m d i j (inr deep) low its =
    let one = deep.1 in
    behind_word g c (order_of k g (overflow_bucket k n) rest) j (7 * deep.0 + i) (omega (arith, its, one))
    ∙ deep_word k g (overflow_bucket k n) rest m deep.0 i (7 * deep.0 + i) deep.2 low refl

-- each place of the order is a slot of one bucket, also when the list has grown at its end
abbrev pub IsSlotOf : ℕ → ℕ → List ℕ → ℕ → Type 0
IsSlotOf k c list j = (m : ℕ) × (i : ℕ) × IsAmong k c list m × (i < 7) × ((g : ℕ → ℕ → ℕ) (more : List ℕ) → slice_index (order_of k g c (list ++ more)) j ≡ g m i)

pub slot_of : (k c : ℕ) (list : List ℕ) (j : ℕ) → j < 7 * (length list + 1) → IsSlotOf k c list j
unfolding order_of
slot_of k c [] j low = (c, j, refl, omega (arith, low), λ g more. first_word k g c more j (omega (arith, low)))
slot_of k c (n ∷ rest) j low = elim (truth (nat_lt j 7)) [
  | inl e ↦ let here : j < 7 = grind (arith, nat_tests, e) in (c, j, inl refl, here, λ g more. row_word g c (order_of k g (overflow_bucket k n) (rest ++ more)) j here)
  | inr e ↦
      let past : 7 ≤ j = grind (arith, nat_tests, e) in
      let its = slot_of k (overflow_bucket k n) rest (j - 7) (omega (arith, low, past)) in
      (its.0, its.1, inr its.2, its.3, λ g more. behind_word g c (order_of k g (overflow_bucket k n) (rest ++ more)) j (j - 7) (omega (arith, past)) ∙ its.4 g more)
]

-- an entry stays, with its tag, and its address does not fall
abbrev pub Keeps : ℕ → ℕ → Type 0
Keeps word after = (word ≡ 0 → ⊥) → (after ≡ 0 → ⊥) × (entry_tag after ≡ entry_tag word) × (entry_addr word ≤ entry_addr after)

-- what stays from one moment to a later one
pub record HasGrown (p : Places) (words after : List ℕ) (lists lists_after : ℕ → List ℕ) : Type 0 where
  pub its_entries : KeepsEntries p words after
  pub its_lists : KeepsLists lists lists_after

pub order_keeps : (p : Places) (words after : List ℕ) (lists lists' : ℕ → List ℕ) (spares : ℕ → ℕ) (c j : ℕ) → IsIndex p words lists spares → HasGrown p words after lists lists' → c < p.buckets → j < length (slot_order p words lists c)
    → (j < length (slot_order p after lists' c)) × Keeps (slice_index (slot_order p words lists c) j) (slice_index (slot_order p after lists' c) j)
order_keeps p words after lists lists' spares c j index grown low few =
    let more = grown.its_lists c in
    let long = order_long p.buckets (bucket_words p words) c (lists c) in
    let long' = order_long p.buckets (bucket_words p after) c (lists' c) in
    let sum : length (lists' c) ≡ length (lists c) + length more.0 = ap length more.1 ∙ length-append (lists c) more.0 in
    let slot = slot_of p.buckets c (lists c) j (omega (arith, few, long)) in
    let before : slice_index (slot_order p words lists c) j ≡ bucket_words p words slot.0 slot.1 = ap (λ x. slice_index (order_of p.buckets (bucket_words p words) c x) j) (sym (append-nil (lists c))) ∙ slot.4 (bucket_words p words) [] in
    let now : slice_index (slot_order p after lists' c) j ≡ bucket_words p after slot.0 slot.1 = ap (λ x. slice_index (order_of p.buckets (bucket_words p after) c x) j) more.1 ∙ slot.4 (bucket_words p after) more.0 in (
      omega (arith, few, long, long', sum),
      rw (before, now) (grown.its_entries slot.0 slot.1 (among_real c slot.0 index low slot.2) slot.3),
    )

-- a word of the order is the entry of the tag
abbrev pub IsFoundAt : ℕ → List ℕ → ℕ → Type 0
IsFoundAt tag order entry = (j : ℕ) × (j < length order) × (slice_index order j ≡ entry) × (entry_tag entry ≡ tag)

-- the entry of a tag stands in a slot
pub entry_found : (tag : ℕ) (order : List ℕ) → (entry_in tag order ≡ 0 → ⊥) → IsFoundAt tag order (entry_in tag order)
unfolding entry_in
entry_found tag [] some = absurd (some refl)
entry_found tag (word ∷ rest) some = tested (entry_found tag rest) (word == 0) (entry_tag word == tag) refl some
  where
    tested : ((entry_in tag rest ≡ 0 → ⊥) → IsFoundAt tag rest (entry_in tag rest)) → (a b : Bool) → (entry_tag word == tag) ≡ b → ((if not a && b then word else entry_in tag rest) ≡ 0 → ⊥)
        → IsFoundAt tag (word ∷ rest) (if not a && b then word else entry_in tag rest)
    tested behind false true y some = (0, omega arith, refl, eqb-true (entry_tag word) tag y)
    tested behind true b y some = let its = behind some in let low = its.1 in (suc its.0, omega (arith, low), its.2, its.3)
    tested behind false false y some = let its = behind some in let low = its.1 in (suc its.0, omega (arith, low), its.2, its.3)

entry_some : (tag : ℕ) (order : List ℕ) (j : ℕ) → j < length order → (slice_index order j ≡ 0 → ⊥) → entry_tag (slice_index order j) ≡ tag → entry_in tag order ≡ 0 → ⊥
unfolding entry_in
entry_some tag [] j low some its none = absurd (omega (arith, low))
entry_some tag (word ∷ rest) zero low some its none = tested (word == 0) (entry_tag word == tag) refl refl none
  where
    tested : (a b : Bool) → (word == 0) ≡ a → (entry_tag word == tag) ≡ b → (if not a && b then word else entry_in tag rest) ≡ 0 → ⊥
    tested true b x y none = some (eqb-true word 0 x)
    tested false true x y none = some none
    tested false false x y none = absurd (grind (arith, nat_tests, y, its))
entry_some tag (word ∷ rest) (suc j) low some its none = tested (entry_some tag rest j (omega (arith, low)) some its) (word == 0) (entry_tag word == tag) refl none
  where
    tested : (entry_in tag rest ≡ 0 → ⊥) → (a b : Bool) → (word == 0) ≡ a → (if not a && b then word else entry_in tag rest) ≡ 0 → ⊥
    tested behind true b x none = behind none
    tested behind false true x none = absurd (grind (arith, nat_tests, x, none))
    tested behind false false x none = behind none

-- and no other slot has it
pub entry_there : (tag : ℕ) (order : List ℕ) (j : ℕ) → HasTagsOnce order → j < length order → (slice_index order j ≡ 0 → ⊥) → entry_tag (slice_index order j) ≡ tag → entry_in tag order ≡ slice_index order j
entry_there tag order j once low some its =
    let found = entry_found tag order (entry_some tag order j low some its) in
    let same = once found.0 j found.1 low (λ none. entry_some tag order j low some its (sym found.2 ∙ none)) some (ap entry_tag found.2 ∙ found.3 ∙ sym its) in
    sym found.2 ∙ ap (slice_index order) same
