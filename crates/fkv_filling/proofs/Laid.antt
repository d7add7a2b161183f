-- An index that is laid out so: each bucket has a chain of words, seven to a bucket, and takes the overflow buckets behind those of the buckets below it.
use Rattle.std.proofs.Common.{◌≡◌, inl, inr, ℕ, Bool, zero, suc, ◌+◌, ◌-◌, ◌*◌, ◌^◌, ◌<◌, ◌≤◌, List, true, false, length, get_or, refl, sym, ap, subst, ◌∙◌, arith}
use Rattle.std.specs.Prelude.{nat_lt, if◌then◌else◌}
use Rattle.std.proofs.lemmas.List.{get_or_past}
use Rattle.std.proofs.lemmas.Bool.Decides.{nat_tests}
use Rattle.fkv_base.specs.Limits.{max_overflow}
use Rattle.fkv_index.specs.Slots.{entry_tag, entry_addr, link_of}
use Rattle.fkv_index.specs.Buckets.{overflow_bucket, IsLinked, IsAmong, AreFilled, HasOneEntry, IsMember, IsOnce}
use Rattle.fkv_index.specs.OneEntry.{Owner, Nobody, ListedAt}
use Rattle.fkv_entries.specs.Room.{needed}
use Rattle.fkv_filling.specs.Filled.{link_words}
use Rattle.fkv_filling.specs.OpeningIndex.{numbers_from}
use Rattle.fkv_filling.proofs.Positions.{truth, below_or_not, same_or_not, link_slot, link_next}

-- a word of a slot that has an entry
pub record IsEntry (word : ℕ) : Type 0 where
  pub some : word ≡ 0 → ⊥
  pub address : 0 < entry_addr word
  pub its_tag : entry_tag word < 2 ^ 15

pub record IsLaid (buckets overflow taken : ℕ) (chain : ℕ → List ℕ) (below : ℕ → ℕ) (g : ℕ → ℕ → ℕ) : Type 0 where
  pub start : below 0 ≡ 0
  pub step : (b : ℕ) → below (suc b) ≡ below b + needed (length (chain b))
  pub all : below buckets ≡ taken
  pub room : taken ≤ overflow
  pub small : overflow ≤ max_overflow
  pub bucket : (b i : ℕ) → b < buckets → i < 8 → g b i ≡ get_or (link_words (chain b) (below b) 0) i 0
  pub behind : (b j i : ℕ) → b < buckets → j < needed (length (chain b)) → i < 8 → g (buckets + (below b + j)) i ≡ get_or (link_words (chain b) (below b) (suc j)) i 0
  pub nothing : (n i : ℕ) → taken ≤ n → n < overflow → i < 8 → g (buckets + n) i ≡ 0
  pub entries : (b k : ℕ) → b < buckets → k < length (chain b) → IsEntry (get_or (chain b) k 0)
  pub tags : (b k l : ℕ) → b < buckets → k < length (chain b) → l < length (chain b) → entry_tag (get_or (chain b) k 0) ≡ entry_tag (get_or (chain b) l 0) → k ≡ l

-- link 0 of a bucket's chain is the bucket, and the others are its overflow buckets
abbrev pub link_bucket : ℕ → (ℕ → ℕ) → ℕ → ℕ → ℕ
link_bucket buckets below b zero = b
link_bucket buckets below b (suc j) = buckets + (below b + j)

pub link_at : {k v t : ℕ} {chain : ℕ → List ℕ} {below : ℕ → ℕ} {g : ℕ → ℕ → ℕ} (laid : IsLaid k v t chain below g) (b j i : ℕ) → b < k → j ≤ needed (length (chain b)) → i < 8
    → g (link_bucket k below b j) i ≡ get_or (link_words (chain b) (below b) j) i 0
link_at laid b zero i low few it = laid.bucket b i low it
link_at laid b (suc j) i low few it = laid.behind b j i low (omega (arith, few)) it

pub slot_at : {k v t : ℕ} {chain : ℕ → List ℕ} {below : ℕ → ℕ} {g : ℕ → ℕ → ℕ} (laid : IsLaid k v t chain below g) (b j i : ℕ) → b < k → j ≤ needed (length (chain b)) → i < 7
    → g (link_bucket k below b j) i ≡ get_or (chain b) (7 * j + i) 0
slot_at {k} {v} {t} {chain} {below} {g} laid b j i low few it = link_at laid b j i low few (omega (arith, it)) ∙ link_slot (chain b) (below b) j i it

if_so : (b : Bool) (n : ℕ) → b ≡ true → (if b then n else 0) ≡ n
if_so true n e = refl
if_so false n e = absurd (cc)

if_not : (b : Bool) (n : ℕ) → b ≡ false → (if b then n else 0) ≡ 0
if_not false n e = refl
if_not true n e = absurd (cc)

pub is_below : (a b : ℕ) → a < b → nat_lt a b ≡ true
is_below a b low = grind (arith, nat_tests, low)

pub not_below : (a b : ℕ) → b ≤ a → nat_lt a b ≡ false
not_below a b high = grind (arith, nat_tests, high)

pub leads_on : {k v t : ℕ} {chain : ℕ → List ℕ} {below : ℕ → ℕ} {g : ℕ → ℕ → ℕ} (laid : IsLaid k v t chain below g) (b j : ℕ) → b < k → j < needed (length (chain b))
    → g (link_bucket k below b j) 7 ≡ below b + j + 1
leads_on {k} {v} {t} {chain} {below} {g} laid b j low few =
    link_at laid b j 7 low (omega (arith, few)) (omega arith) ∙ link_next (chain b) (below b) j ∙ if_so _ (below b + j + 1) (is_below j (needed (length (chain b))) few)

pub leads_nowhere : {k v t : ℕ} {chain : ℕ → List ℕ} {below : ℕ → ℕ} {g : ℕ → ℕ → ℕ} (laid : IsLaid k v t chain below g) (b : ℕ) → b < k
    → g (link_bucket k below b (needed (length (chain b)))) 7 ≡ 0
leads_nowhere {k} {v} {t} {chain} {below} {g} laid b low =
    link_at laid b (needed (length (chain b))) 7 low (omega arith) (omega arith) ∙ link_next (chain b) (below b) (needed (length (chain b)))
    ∙ if_not _ (below b + needed (length (chain b)) + 1) (not_below (needed (length (chain b))) (needed (length (chain b))) (omega arith))

-- what the buckets below take grows
pub below_grows : (chain : ℕ → List ℕ) (below : ℕ → ℕ) → ((b : ℕ) → below (suc b) ≡ below b + needed (length (chain b))) → (b more : ℕ) → below b ≤ below (b + more)
below_grows chain below step b zero = let e : below (b + 0) ≡ below b = ap below (let z : b + 0 ≡ b = omega arith in z) in omega (arith, e)
below_grows chain below step b (suc more) =
    let e : below (b + suc more) ≡ below (suc (b + more)) = ap below (let z : b + suc more ≡ suc (b + more) = omega arith in z) in
    omega (arith, e, step (b + more), below_grows chain below step b more)

pub below_most : {k v t : ℕ} {chain : ℕ → List ℕ} {below : ℕ → ℕ} {g : ℕ → ℕ → ℕ} (laid : IsLaid k v t chain below g) (b c : ℕ) → b ≤ c → below b ≤ below c
below_most {k} {v} {t} {chain} {below} laid b c low = subst (λ n. below b ≤ below n) (let e : b + (c - b) ≡ c = omega (arith, low) in e) (below_grows chain below laid.step b (c - b))

pub below_small : {k v t : ℕ} {chain : ℕ → List ℕ} {below : ℕ → ℕ} {g : ℕ → ℕ → ℕ} (laid : IsLaid k v t chain below g) (b j : ℕ) → b < k → j ≤ needed (length (chain b)) → below b + j ≤ t
below_small {k} {v} {t} {chain} {below} laid b j low few = omega (arith, few, laid.step b, below_most laid (suc b) k (omega (arith, low)), laid.all)

-- the numbers of a list, from link j on
abbrev pub rest_of : (ℕ → ℕ) → ℕ → ℕ → ℕ → List ℕ
rest_of below b j count = numbers_from (below b + j + 1) count

next_bucket : (k : ℕ) (below : ℕ → ℕ) (b j : ℕ) → overflow_bucket k (below b + j + 1) ≡ link_bucket k below b (suc j)
next_bucket k below b j = omega arith

next_rest : (below : ℕ → ℕ) (b j count : ℕ) → numbers_from (below b + j + 1 + 1) count ≡ rest_of below b (suc j) count
next_rest below b j count = ap (λ n. numbers_from n count) (let e : below b + j + 1 + 1 ≡ below b + suc j + 1 = omega arith in e)

-- a step along a list
along : (k : ℕ) (below : ℕ → ℕ) (P : ℕ → List ℕ → Type 0) (b j count : ℕ) → P (link_bucket k below b (suc j)) (rest_of below b (suc j) count)
    → P (overflow_bucket k (below b + j + 1)) (numbers_from (below b + j + 1 + 1) count)
along k below P b j count h =
    subst (λ m. P m (numbers_from (below b + j + 1 + 1) count)) (sym (next_bucket k below b j)) (subst (λ ns. P (link_bucket k below b (suc j)) ns) (sym (next_rest below b j count)) h)

pub along_is : (k : ℕ) (below : ℕ → ℕ) (f : ℕ → List ℕ → List ℕ) (b j count : ℕ)
    → f (overflow_bucket k (below b + j + 1)) (numbers_from (below b + j + 1 + 1) count) ≡ f (link_bucket k below b (suc j)) (rest_of below b (suc j) count)
along_is k below f b j count =
    ap (λ m. f m (numbers_from (below b + j + 1 + 1) count)) (next_bucket k below b j) ∙ ap (f (link_bucket k below b (suc j))) (next_rest below b j count)

back : (k : ℕ) (below : ℕ → ℕ) (P : ℕ → List ℕ → Type 0) (b j count : ℕ) → P (overflow_bucket k (below b + j + 1)) (numbers_from (below b + j + 1 + 1) count)
    → P (link_bucket k below b (suc j)) (rest_of below b (suc j) count)
back k below P b j count h =
    subst (λ m. P m (rest_of below b (suc j) count)) (next_bucket k below b j) (subst (λ ns. P (overflow_bucket k (below b + j + 1)) ns) (next_rest below b j count) h)

pub linked_from : {k v t : ℕ} {chain : ℕ → List ℕ} {below : ℕ → ℕ} {g : ℕ → ℕ → ℕ} (laid : IsLaid k v t chain below g) (b j count : ℕ) → b < k → j + count ≡ needed (length (chain b))
    → IsLinked k g (link_bucket k below b j) (rest_of below b j count)
unfolding numbers_from
linked_from {k} {v} {t} {chain} {below} {g} laid b j zero low are =
    let e : needed (length (chain b)) ≡ j = omega (arith, are) in
    ap link_of (subst (λ n. g (link_bucket k below b n) 7 ≡ 0) e (leads_nowhere laid b low))
linked_from {k} {v} {t} {chain} {below} {g} laid b j (suc count) low are =
    let on = leads_on laid b j low (omega (arith, are)) in
    let few = below_small laid b j low (omega (arith, are)) in (
      (let some : 1 ≤ below b + j + 1 = omega arith in some),
      ap link_of on ∙ (let e : link_of (below b + j + 1) ≡ below b + j + 1 = omega (arith, few, laid.room, laid.small) in e),
      along k below (IsLinked k g) b j count (linked_from laid b (suc j) count low (omega (arith, are))),
    )

pub filled_from : {k v t : ℕ} {chain : ℕ → List ℕ} {below : ℕ → ℕ} {g : ℕ → ℕ → ℕ} (laid : IsLaid k v t chain below g) (b j count : ℕ) → b < k → j + count ≡ needed (length (chain b))
    → AreFilled k g (link_bucket k below b j) (rest_of below b j count)
unfolding numbers_from
filled_from {k} {v} {t} {chain} {below} {g} laid b j zero low are = λ i l before few empty. elim (below_or_not (7 * j + i) (length (chain b))) [
  | inl there ↦ absurd ((laid.entries b (7 * j + i) low there).some (sym (slot_at laid b j i low (omega (arith, are)) (omega (arith, before, few))) ∙ empty))
  | inr past ↦ slot_at laid b j l low (omega (arith, are)) few ∙ get_or_past (chain b) (7 * j + l) 0 (omega (arith, past, before))
]
filled_from {k} {v} {t} {chain} {below} {g} laid b j (suc count) low are = (
  (λ i few empty. (laid.entries b (7 * j + i) low (omega (arith, few, are))).some (sym (slot_at laid b j i low (omega (arith, are)) few) ∙ empty)),
  along k below (AreFilled k g) b j count (filled_from laid b (suc j) count low (omega (arith, are))),
)

-- one of the list is a link
pub record IsLink (k : ℕ) (below : ℕ → ℕ) (b most m : ℕ) : Type 0 where
  pub j : ℕ
  pub few : j ≤ most
  pub is : m ≡ link_bucket k below b j

pub among_from : (k : ℕ) (below : ℕ → ℕ) (b j count m : ℕ) → IsAmong k (link_bucket k below b j) (rest_of below b j count) m → IsLink k below b (j + count) m
unfolding numbers_from
among_from k below b j zero m is = record { j = j; few = omega arith; is = is }
among_from k below b j (suc count) m is = elim is [
  | inl here ↦ record { j = j; few = omega arith; is = here }
  | inr later ↦
      let h = among_from k below b (suc j) count m (back k below (λ o ns. IsAmong k o ns m) b j count later) in
      record { j = h.j; few = (let e = h.few in omega (arith, e)); is = h.is }
]

pub there_if_some : (words : List ℕ) (n : ℕ) → (get_or words n 0 ≡ 0 → ⊥) → n < length words
there_if_some words n some = elim (below_or_not n (length words)) [ inl low ↦ low | inr past ↦ absurd (some (get_or_past words n 0 past)) ]

pub one_from : {k v t : ℕ} {chain : ℕ → List ℕ} {below : ℕ → ℕ} {g : ℕ → ℕ → ℕ} (laid : IsLaid k v t chain below g) (b : ℕ) (list : List ℕ) → b < k
    → ((m : ℕ) → IsAmong k b list m → IsLink k below b (needed (length (chain b))) m) → HasOneEntry k g b list
one_from {k} {v} {t} {chain} {below} {g} laid b list low links m o i l here there few high some other same =
    let x = links m here in
    let y = links o there in
    let at_x : g m i ≡ get_or (chain b) (7 * x.j + i) 0 = ap (λ n. g n i) x.is ∙ slot_at laid b x.j i low x.few few in
    let at_y : g o l ≡ get_or (chain b) (7 * y.j + l) 0 = ap (λ n. g n l) y.is ∙ slot_at laid b y.j l low y.few high in
    let k_in = there_if_some (chain b) (7 * x.j + i) (λ none. some (at_x ∙ none)) in
    let l_in = there_if_some (chain b) (7 * y.j + l) (λ none. other (at_y ∙ none)) in
    let one : 7 * x.j + i ≡ 7 * y.j + l = laid.tags b (7 * x.j + i) (7 * y.j + l) low k_in l_in (sym (ap entry_tag at_x) ∙ same ∙ ap entry_tag at_y) in
    let links_same : x.j ≡ y.j = omega (arith, one, few, high) in
    (x.is ∙ ap (link_bucket k below b) links_same ∙ sym y.is, (let e : i ≡ l = omega (arith, one, links_same) in e))

-- the members of a list
pub member_in : (first count n : ℕ) → IsMember n (numbers_from first count) → (first ≤ n) × (n < first + count)
unfolding numbers_from
member_in first zero n is = absurd is
member_in first (suc count) n is = elim is [
  | inl here ↦ ((let e : first ≤ n = omega (arith, here) in e), (let e : n < first + suc count = omega (arith, here) in e))
  | inr later ↦ let h = member_in (first + 1) count n later in ((let e : first ≤ n = omega (arith, h.0) in e), (let e : n < first + suc count = omega (arith, h.1) in e))
]

pub member_of : (first count n : ℕ) → first ≤ n → n < first + count → IsMember n (numbers_from first count)
unfolding numbers_from
member_of first zero n low high = omega (arith, low, high)
member_of first (suc count) n low high = elim (same_or_not n first) [
  | inl here ↦ inl here
  | inr other ↦ inr (member_of (first + 1) count n (omega (arith, low, other)) (omega (arith, high)))
]

pub numbers_once : (first count : ℕ) → IsOnce (numbers_from first count)
unfolding numbers_from
numbers_once first zero = tt
numbers_once first (suc count) = ((λ is. let h = member_in (first + 1) count first is in omega (arith, h.0)), numbers_once (first + 1) count)

-- the last of the first buckets below which no more than n overflow buckets are taken
unfoldable pub holder : (ℕ → ℕ) → ℕ → ℕ → ℕ
holder below zero n = 0
holder below (suc k) n = if nat_lt n (below k) then holder below k n else k

pub record Holds (below : ℕ → ℕ) (k n b : ℕ) : Type 0 where
  pub there : b < k
  pub from : below b ≤ n
  pub to : n < below (suc b)

pub holder_holds : (below : ℕ → ℕ) (k n : ℕ) → below 0 ≡ 0 → n < below k → Holds below k n (holder below k n)
unfolding holder
holder_holds below zero n start low = absurd (omega (arith, start, low))
holder_holds below (suc k) n start low = elim (truth (nat_lt n (below k))) [
  | inl e ↦
      let before : n < below k = grind (arith, nat_tests, e) in
      let h = holder_holds below k n start before in
      rw e (record { there = (let f = h.there in omega (arith, f)); from = h.from; to = h.to })
  | inr e ↦ rw e (record { there = omega arith; from = (let f : below k ≤ n = grind (arith, nat_tests, e) in f); to = low })
]

pub one_holds : {k v t : ℕ} {chain : ℕ → List ℕ} {below : ℕ → ℕ} {g : ℕ → ℕ → ℕ} (laid : IsLaid k v t chain below g) (n b c : ℕ) → Holds below k n b → Holds below k n c → b ≡ c
one_holds {k} {v} {t} {chain} {below} laid n b c x y = elim (below_or_not b c) [
  | inl low ↦ absurd (let e = below_most laid (suc b) c (omega (arith, low)) in let f = x.to in let h = y.from in omega (arith, e, f, h))
  | inr high ↦ elim (below_or_not c b) [
    | inl low ↦ absurd (let e = below_most laid (suc c) b (omega (arith, low)) in let f = y.to in let h = x.from in omega (arith, e, f, h))
    | inr same ↦ omega (arith, high, same)
  ]
]

-- who has an overflow bucket as the store opens
unfoldable pub owner_of : (ℕ → ℕ) → ℕ → ℕ → ℕ → Owner
owner_of below k t zero = Nobody
owner_of below k t (suc n) = if nat_lt n t then ListedAt (holder below k n) else Nobody

pub owner_there : (below : ℕ → ℕ) (k t n : ℕ) → n < t → owner_of below k t (suc n) ≡ ListedAt (holder below k n)
unfolding owner_of
owner_there below k t n low = let e : nat_lt n t ≡ true = grind (arith, nat_tests, low) in rw e refl

pub owner_else : (below : ℕ → ℕ) (k t n : ℕ) → t ≤ n → owner_of below k t (suc n) ≡ Nobody
unfolding owner_of
owner_else below k t n high = let e : nat_lt n t ≡ false = grind (arith, nat_tests, high) in rw e refl

pub owner_zero : (below : ℕ → ℕ) (k t : ℕ) → owner_of below k t zero ≡ Nobody
unfolding owner_of
owner_zero below k t = refl
