-- The index stays in order, with one entry for each home, at each kind of change.
use Rattle.std.proofs.Common.{◌≡◌, ℕ, ◌+◌, ◌<◌, ◌≤◌, List, [], length, refl, inl, inr, arith, sym, ap, ◌∙◌, subst, append-nil}
use Rattle.fkv_plane.specs.declared.places.Places.{Places}
use Rattle.fkv_index.specs.Slots.{entry_addr, entry_tag, link_of}
use Rattle.fkv_index.specs.Buckets.{bucket_words, overflow_bucket, IsAmong}
use Rattle.fkv_index.specs.IndexWorld.{taken_of}
use Rattle.fkv_index.specs.OneEntry.{ListedAt, AreOwned, IsFresh, IsSlotWord, IsIndex, KeepsLists, Grows}
use Rattle.fkv_index.proofs.Orders.{linked_same, filled_same, among_member, one_entry_same}
use Rattle.fkv_index.proofs.Owned.{listed_taken, owned_same}

-- the buckets of a list are there
pub among_real : {p : Places} {words : List ℕ} {lists : ℕ → List ℕ} {spares : ℕ → ℕ} (c o : ℕ) → IsIndex p words lists spares → c < p.buckets → IsAmong p.buckets c (lists c) o → o < p.buckets + p.overflow
among_real {p} {words} {lists} c o index low among = elim (among_member p.buckets c (lists c) o among) [
  | inl here ↦ omega (arith, here, low)
  | inr found ↦
      let high = listed_taken c found.0 index.owned found.1 in
      let few = index.few_taken in
      omega (arith, found.2, high.0, high.1, few)
]

-- an overflow bucket of a list is listed there
pub among_listed : {p : Places} {words : List ℕ} {lists : ℕ → List ℕ} {spares : ℕ → ℕ} (c n : ℕ) (index : IsIndex p words lists spares) → c < p.buckets → 1 ≤ n
    → IsAmong p.buckets c (lists c) (overflow_bucket p.buckets n) → index.owner n ≡ ListedAt c
among_listed {p} {words} {lists} c n index low some among = elim (among_member p.buckets c (lists c) (overflow_bucket p.buckets n) among) [
  | inl here ↦ absurd (omega (arith, here, low))
  | inr found ↦
      let high = listed_taken c found.0 index.owned found.1 in
      let same : found.0 ≡ n = omega (arith, found.2, high.0, some) in
      subst (λ x. index.owner x ≡ ListedAt c) same (index.owned.listed c found.0 found.1)
]

-- and no bucket is in two
pub among_apart : {p : Places} {words : List ℕ} {lists : ℕ → List ℕ} {spares : ℕ → ℕ} (b c o : ℕ) → IsIndex p words lists spares → b < p.buckets → c < p.buckets
    → IsAmong p.buckets b (lists b) o → IsAmong p.buckets c (lists c) o → b ≡ c
among_apart {p} {words} {lists} b c o index low few here there = elim (among_member p.buckets b (lists b) o here) [
  | inl first ↦ elim (among_member p.buckets c (lists c) o there) [
    | inl other ↦ sym first ∙ other
    | inr other ↦ absurd (omega (arith, first, low, other.2))
  ]
  | inr first ↦ elim (among_member p.buckets c (lists c) o there) [
    | inl other ↦ absurd (omega (arith, other, few, first.2))
    | inr other ↦
        let a = (listed_taken b first.0 index.owned first.1).0 in
        let z = (listed_taken c other.0 index.owned other.1).0 in
        let same : first.0 ≡ other.0 = omega (arith, first.2, other.2, a, z) in
        same_bucket b c (sym (index.owned.listed b first.0 first.1) ∙ ap index.owner same ∙ index.owned.listed c other.0 other.1)
  ]
]
  where
    same_bucket : (x y : ℕ) → ListedAt x ≡ ListedAt y → x ≡ y
    same_bucket x y e = cc

pub lists_stay : (lists : ℕ → List ℕ) → KeepsLists lists lists
lists_stay lists bucket = ([], sym (append-nil (lists bucket)))

-- words that keep all slots, all links and the count
pub record IsQuiet (p : Places) (words after : List ℕ) : Type 0 where
  pub same_length : length after ≡ length words
  pub same_taken : taken_of after ≡ taken_of words
  pub same_slots : (m i : ℕ) → m < p.buckets + p.overflow → i < 7 → bucket_words p after m i ≡ bucket_words p words m i
  pub same_links : (m : ℕ) → m < p.buckets + p.overflow → link_of (bucket_words p after m 7) ≡ link_of (bucket_words p words m 7)

pub quiet_same : (p : Places) (words : List ℕ) → IsQuiet p words words
quiet_same p words = record { same_length = refl; same_taken = refl; same_slots = λ m i real low. refl; same_links = λ m real. refl }

pub index_quiet : (p : Places) (words after : List ℕ) (lists : ℕ → List ℕ) (spares spares' : ℕ → ℕ) → IsQuiet p words after → ((o : ℕ) → spares' o ≡ spares o)
    → IsIndex p words lists spares → IsIndex p after lists spares'
index_quiet p words after lists spares spares' quiet same index = record {
  enough_words = let e = quiet.same_length in let h = index.enough_words in omega (arith, e, h);
  few_taken = let e = quiet.same_taken in let h = index.few_taken in omega (arith, e, h);
  linked = λ c low. linked_same p.buckets g g' c (lists c) (λ o among. quiet.same_links o (among_real c o index low among)) (index.linked c low);
  filled = λ c low. filled_same p.buckets g g' c (lists c)
      (λ o among fills i j before few empty. let real = among_real c o index low among in quiet.same_slots o j real few ∙ fills i j before few (sym (quiet.same_slots o i real (omega (arith, before, few))) ∙ empty))
      (λ o among full i few empty. full i few (sym (quiet.same_slots o i (among_real c o index low among) few) ∙ empty)) (index.filled c low);
  one_entry = λ c low. one_entry_same p.buckets g g' c (lists c)
      (λ o i among few some. let e = quiet.same_slots o i (among_real c o index low among) few in ((λ none. some (e ∙ none)), ap entry_tag e)) (index.one_entry c low);
  no_others = index.no_others;
  entries = λ m i real low. subst IsSlotWord (sym (quiet.same_slots m i real low)) (index.entries m i real low);
  owner = index.owner;
  owned = subst (λ x. AreOwned x lists spares' index.owner) (sym quiet.same_taken) (owned_same (taken_of words) lists spares spares' index.owner same index.owned);
  fresh = λ n some few unlisted. fresh_same n some few (index.fresh n some few unlisted);
}
  where
    g : ℕ → ℕ → ℕ
    g = bucket_words p words

    g' : ℕ → ℕ → ℕ
    g' = bucket_words p after

    fresh_same : (n : ℕ) → 1 ≤ n → n ≤ p.overflow → IsFresh (bucket_words p words) (overflow_bucket p.buckets n) → IsFresh (bucket_words p after) (overflow_bucket p.buckets n)
    fresh_same n some few fresh = record {
      no_entry = λ i low. quiet.same_slots (overflow_bucket p.buckets n) i (omega (arith, some, few)) low ∙ fresh.no_entry i low;
      no_link = quiet.same_links (overflow_bucket p.buckets n) (omega (arith, some, few)) ∙ fresh.no_link;
    }

pub quiet_grows : (p : Places) (words after : List ℕ) (lists : ℕ → List ℕ) → IsQuiet p words after → Grows p words after lists lists
quiet_grows p words after lists quiet = record {
  its_entries = λ m i real low some.
      let e = quiet.same_slots m i real low in
      (λ none. some (sym e ∙ none), ap entry_tag e, (let same : entry_addr (bucket_words p after m i) ≡ entry_addr (bucket_words p words m i) = ap entry_addr e in omega (arith, same)));
  its_lists = lists_stay lists;
  more_taken = let e = quiet.same_taken in omega (arith, e);
}
