-- The index stays in order, with one entry for each home, where a bucket is taken, where one is linked, and where an entry is published.
use Rattle.std.proofs.Common.{◌≡◌, ℕ, ◌+◌, ◌%◌, ◌^◌, ◌<◌, ◌≤◌, ◌⊎◌, List, [], ◌∷◌, ◌++◌, length, inl, inr, arith, sym, ap, ◌∙◌, subst}
use Rattle.std.specs.Prelude.{slice_set}
use Rattle.std.proofs.lemmas.List.{length-set, get_or-set_same, append-nil}
use Rattle.fkv_plane.specs.declared.places.Places.{Places}
use Rattle.fkv_plane.specs.Places.{bucket_place, frames_start}
use Rattle.fkv_plane.specs.Asked.{word_at}
use Rattle.fkv_index.specs.declared.homes.Home.{Home}
use Rattle.fkv_index.specs.Slots.{entry_addr, entry_tag, link_of}
use Rattle.fkv_index.specs.Buckets.{bucket_words, overflow_bucket, IsLinked, IsAmong, IsFull, FillsUp, AreFilled, HasOneEntry, IsOther, HasPassed}
use Rattle.fkv_index.specs.IndexWorld.{taken_of, with_link}
use Rattle.fkv_index.specs.OneEntry.{Nobody, SpareOf, ListedAt, AreOwned, IsFresh, IsSlotWord, IsIndex, HasSlot, Grows}
use Rattle.fkv_index.proofs.Orders.{same_or_not, passed_among, passed_all, passed_row, beside, linked_same, linked_more, filled_same, filled_more, among_more, one_entry_same}
use Rattle.fkv_index.proofs.BucketWords.{set_there, set_else, set_outside, set_spares_taken}
use Rattle.fkv_index.proofs.Owned.{SpareBecomes, owner_set, owner_there, owner_else, link_there, link_else, spare_taken, owned_same, owned_took, owned_linked}
use Rattle.fkv_index.proofs.Index.{among_real, among_listed, among_apart, lists_stay}

-- the count of taken buckets rises by one
pub index_took : (p : Places) (words : List ℕ) (lists : ℕ → List ℕ) (spares spares' : ℕ → ℕ) (actor : ℕ) → taken_of words < p.overflow → spares actor ≡ 0 → SpareBecomes spares spares' actor (taken_of words + 1)
    → IsIndex p words lists spares → IsIndex p (slice_set words 10 (taken_of words + 1)) lists spares'
index_took p words lists spares spares' actor left none becomes index = record {
  enough_words = let e = length-set words 10 (taken_of words + 1) in let h = index.enough_words in omega (arith, e, h);
  few_taken = omega (arith, counted, left);
  linked = λ c low. linked_same p.buckets (bucket_words p words) (bucket_words p after) c (lists c) (λ o among. ap link_of (same o 7)) (index.linked c low);
  filled = λ c low. filled_same p.buckets (bucket_words p words) (bucket_words p after) c (lists c)
      (λ o among fills i j before few empty. same o j ∙ fills i j before few (sym (same o i) ∙ empty)) (λ o among full i few empty. full i few (sym (same o i) ∙ empty)) (index.filled c low);
  one_entry = λ c low. one_entry_same p.buckets (bucket_words p words) (bucket_words p after) c (lists c) (λ o i among few some. ((λ empty. some (same o i ∙ empty)), ap entry_tag (same o i))) (index.one_entry c low);
  no_others = index.no_others;
  entries = λ m i real low. subst IsSlotWord (sym (same m i)) (index.entries m i real low);
  owner = owner_set index.owner (taken_of words + 1) (SpareOf actor);
  owned = subst (λ x. AreOwned x lists spares' (owner_set index.owner (taken_of words + 1) (SpareOf actor))) (sym counted) (owned_took (taken_of words) lists spares spares' index.owner actor none becomes index.owned);
  fresh = λ n some few unlisted. fresh_same n (index.fresh n some few (λ c its. unlisted c (listed_before n c its)));
}
  where
    after : List ℕ
    after = slice_set words 10 (taken_of words + 1)

    counted : taken_of (slice_set words 10 (taken_of words + 1)) ≡ taken_of words + 1
    counted = let h = index.enough_words in get_or-set_same words 10 (taken_of words + 1) 0 (omega (arith, h))

    same : (o j : ℕ) → bucket_words p (slice_set words 10 (taken_of words + 1)) o j ≡ bucket_words p words o j
    same o j = set_outside p words 10 o j (taken_of words + 1) (λ e. omega (arith, e))

    spare_not_listed : (c : ℕ) → SpareOf actor ≡ ListedAt c → ⊥
    spare_not_listed c e = cc

    never_listed : (c : ℕ) → ListedAt c ≡ Nobody → ⊥
    never_listed c e = cc

    listed_before : (n c : ℕ) → index.owner n ≡ ListedAt c → owner_set index.owner (taken_of words + 1) (SpareOf actor) n ≡ ListedAt c
    listed_before n c its = owner_else index.owner (taken_of words + 1) (SpareOf actor) n (λ e. never_listed c (sym its ∙ index.owned.none_else n (λ low high. absurd (omega (arith, e, high))))) ∙ its

    fresh_same : (n : ℕ) → IsFresh (bucket_words p words) (overflow_bucket p.buckets n) → IsFresh (bucket_words p (slice_set words 10 (taken_of words + 1))) (overflow_bucket p.buckets n)
    fresh_same n fresh = record {
      no_entry = λ i low. same (overflow_bucket p.buckets n) i ∙ fresh.no_entry i low;
      no_link = ap link_of (same (overflow_bucket p.buckets n) 7) ∙ fresh.no_link;
    }

pub took_grows : (p : Places) (words : List ℕ) (lists : ℕ → List ℕ) → frames_start p ≤ length words → Grows p words (slice_set words 10 (taken_of words + 1)) lists lists
took_grows p words lists enough = record {
  its_entries = λ m i real low some.
      let e = same m i in
      (λ none. some (sym e ∙ none), ap entry_tag e, (let a : entry_addr (bucket_words p (slice_set words 10 (taken_of words + 1)) m i) ≡ entry_addr (bucket_words p words m i) = ap entry_addr e in omega (arith, a)));
  its_lists = lists_stay lists;
  more_taken = let counted : taken_of (slice_set words 10 (taken_of words + 1)) ≡ taken_of words + 1 = get_or-set_same words 10 (taken_of words + 1) 0 (omega (arith, enough)) in omega (arith, counted);
}
  where
    same : (o j : ℕ) → bucket_words p (slice_set words 10 (taken_of words + 1)) o j ≡ bucket_words p words o j
    same o j = set_outside p words 10 o j (taken_of words + 1) (λ e. omega (arith, e))

-- a spare is linked, and is the last of the list from then on
pub index_linked : (p : Places) (words : List ℕ) (lists : ℕ → List ℕ) (spares spares' : ℕ → ℕ) (actor : ℕ) (home : Home) (m word number : ℕ)
    → home.bucket < p.buckets → HasPassed p.buckets (bucket_words p words) home.tag home.bucket (lists home.bucket) m 7 → bucket_words p words m 7 ≡ word → link_of word ≡ 0
    → spares actor ≡ number → 1 ≤ number → SpareBecomes spares spares' actor 0
    → IsIndex p words lists spares → IsIndex p (slice_set words (bucket_place p m 7) (word + number)) (with_link lists home.bucket number) spares'
index_linked p words lists spares spares' actor home m word number low passed its_word none its_number some becomes index = record {
  enough_words = let e = length-set words (bucket_place p m 7) (word + number) in let h = index.enough_words in omega (arith, e, h);
  few_taken = let e = set_spares_taken p words m 7 (word + number) in let h = index.few_taken in omega (arith, e, h);
  linked = linked_after;
  filled = filled_after;
  one_entry = one_entry_after;
  no_others = λ c high. link_else lists home.bucket number c (λ e. omega (arith, e, high, low)) ∙ index.no_others c high;
  entries = λ o i real few. subst IsSlotWord (sym (slots o i few)) (index.entries o i real few);
  owner = owner_set index.owner number (ListedAt home.bucket);
  owned = subst (λ x. AreOwned x (with_link lists home.bucket number) spares' (owner_set index.owner number (ListedAt home.bucket))) (sym (set_spares_taken p words m 7 (word + number)))
      (owned_linked (taken_of words) lists spares spares' index.owner actor home.bucket number its_number some becomes index.owned);
  fresh = λ n first few unlisted. fresh_after n first few unlisted;
}
  where
    k : ℕ
    k = p.buckets

    g : ℕ → ℕ → ℕ
    g = bucket_words p words

    after : List ℕ
    after = slice_set words (bucket_place p m 7) (word + number)

    g' : ℕ → ℕ → ℕ
    g' = bucket_words p (slice_set words (bucket_place p m 7) (word + number))

    here : IsAmong p.buckets home.bucket (lists home.bucket) m
    here = passed_among p.buckets (bucket_words p words) home.tag home.bucket (lists home.bucket) m 7 passed

    real : m < p.buckets + p.overflow
    real = among_real home.bucket m index low here

    few_number : number ≤ p.overflow
    few_number =
        let h = index.few_taken in
        let t = spare_taken actor index.owned (subst (λ x. 1 ≤ x) (sym its_number) some) in
        omega (arith, h, t, its_number)

    slots : (o i : ℕ) → i < 7 → bucket_words p (slice_set words (bucket_place p m 7) (word + number)) o i ≡ bucket_words p words o i
    slots o i few = set_else p words m 7 o i (word + number) (omega arith) (omega (arith, few)) (λ a e. omega (arith, e, few))

    eighth : (o : ℕ) → (o ≡ m → ⊥) → bucket_words p (slice_set words (bucket_place p m 7) (word + number)) o 7 ≡ bucket_words p words o 7
    eighth o apart = set_else p words m 7 o 7 (word + number) (omega arith) (omega arith) (λ a e. apart a)

    its_link : link_of (bucket_words p (slice_set words (bucket_place p m 7) (word + number)) m 7) ≡ number
    its_link =
        let e = set_there p words m 7 (word + number) index.enough_words real (omega arith) in
        let small = p.few_overflow in
        let sum : (word + number) % 2 ^ 48 ≡ number = omega (arith, none, few_number, small) in
        ap link_of e ∙ sum

    no_link : link_of (bucket_words p words m 7) ≡ 0
    no_link = ap link_of its_word ∙ none

    unlisted : (c : ℕ) → index.owner number ≡ ListedAt c → ⊥
    unlisted c its = spare_not_listed c (sym (subst (λ x. index.owner x ≡ SpareOf actor) its_number (index.owned.spared actor (subst (λ x. 1 ≤ x) (sym its_number) some))) ∙ its)
      where
        spare_not_listed : (x : ℕ) → SpareOf actor ≡ ListedAt x → ⊥
        spare_not_listed x e = cc

    is_fresh : IsFresh (bucket_words p words) (overflow_bucket p.buckets number)
    is_fresh = index.fresh number some few_number unlisted

    -- the bucket that is linked is in no list yet
    new_apart : overflow_bucket p.buckets number ≡ m → ⊥
    new_apart e = unlisted home.bucket (among_listed home.bucket number index low some (subst (IsAmong p.buckets home.bucket (lists home.bucket)) (sym e) here))

    all_others : (o i : ℕ) → IsAmong p.buckets home.bucket (lists home.bucket) o → i < 7 → IsOther home.tag (bucket_words p words o i)
    all_others = passed_all p.buckets (bucket_words p words) home.tag home.bucket (lists home.bucket) m (index.linked home.bucket low) passed no_link

    elsewhere : (c o : ℕ) → c < p.buckets → (c ≡ home.bucket → ⊥) → IsAmong p.buckets c (lists c) o → o ≡ m → ⊥
    elsewhere c o few apart among e = apart (among_apart c home.bucket m index few low (subst (IsAmong p.buckets c (lists c)) e among) here)

    linked_after : (c : ℕ) → c < p.buckets → IsLinked p.buckets (bucket_words p (slice_set words (bucket_place p m 7) (word + number))) c (with_link lists home.bucket number c)
    linked_after c few = elim (same_or_not c home.bucket) [
      | inl e ↦ subst (λ x. IsLinked p.buckets (bucket_words p (slice_set words (bucket_place p m 7) (word + number))) x (with_link lists home.bucket number x)) (sym e)
          (subst (IsLinked p.buckets (bucket_words p (slice_set words (bucket_place p m 7) (word + number))) home.bucket) (sym (link_there lists home.bucket number))
          (linked_more p.buckets (bucket_words p words) (bucket_words p (slice_set words (bucket_place p m 7) (word + number))) home.bucket (lists home.bucket) m number (index.linked home.bucket low) here no_link its_link some
          (ap link_of (eighth (overflow_bucket p.buckets number) new_apart) ∙ is_fresh.no_link) (λ o among apart. ap link_of (eighth o apart))))
      | inr apart ↦ subst (IsLinked p.buckets (bucket_words p (slice_set words (bucket_place p m 7) (word + number))) c) (sym (link_else lists home.bucket number c apart))
          (linked_same p.buckets (bucket_words p words) (bucket_words p (slice_set words (bucket_place p m 7) (word + number))) c (lists c) (λ o among. ap link_of (eighth o (elsewhere c o few apart among))) (index.linked c few))
    ]

    filled_after : (c : ℕ) → c < p.buckets → AreFilled p.buckets (bucket_words p (slice_set words (bucket_place p m 7) (word + number))) c (with_link lists home.bucket number c)
    filled_after c few = elim (same_or_not c home.bucket) [
      | inl e ↦ subst (λ x. AreFilled p.buckets (bucket_words p (slice_set words (bucket_place p m 7) (word + number))) x (with_link lists home.bucket number x)) (sym e)
          (subst (AreFilled p.buckets (bucket_words p (slice_set words (bucket_place p m 7) (word + number))) home.bucket) (sym (link_there lists home.bucket number))
          (filled_more p.buckets (bucket_words p (slice_set words (bucket_place p m 7) (word + number))) home.bucket (lists home.bucket) number
          (λ o among i high empty. (all_others o i among high).0 (sym (slots o i high) ∙ empty)) (λ i j before high empty. slots (overflow_bucket p.buckets number) j high ∙ is_fresh.no_entry j high)))
      | inr apart ↦ subst (AreFilled p.buckets (bucket_words p (slice_set words (bucket_place p m 7) (word + number))) c) (sym (link_else lists home.bucket number c apart))
          (filled_same p.buckets (bucket_words p words) (bucket_words p (slice_set words (bucket_place p m 7) (word + number))) c (lists c)
          (λ o among fills i j before high empty. slots o j high ∙ fills i j before high (sym (slots o i (omega (arith, before, high))) ∙ empty)) (λ o among full i high empty. full i high (sym (slots o i high) ∙ empty)) (index.filled c few))
    ]

    -- an entry of the list that has grown stood there before
    stood : (o i : ℕ) → IsAmong p.buckets home.bucket (lists home.bucket ++ number ∷ []) o → i < 7 → (bucket_words p (slice_set words (bucket_place p m 7) (word + number)) o i ≡ 0 → ⊥) → IsAmong p.buckets home.bucket (lists home.bucket) o
    stood o i among high full = elim (among_more p.buckets home.bucket (lists home.bucket) number o among) [
      | inl before ↦ before
      | inr last ↦ absurd (full (slots o i high ∙ subst (λ x. bucket_words p words x i ≡ 0) (sym last) (is_fresh.no_entry i high)))
    ]

    one_more : HasOneEntry p.buckets (bucket_words p (slice_set words (bucket_place p m 7) (word + number))) home.bucket (lists home.bucket ++ number ∷ [])
    one_more o q i j a z high top full filled e =
        index.one_entry home.bucket low o q i j (stood o i a high full) (stood q j z top filled) high top (λ empty. full (slots o i high ∙ empty)) (λ empty. filled (slots q j top ∙ empty))
        (ap entry_tag (sym (slots o i high)) ∙ e ∙ ap entry_tag (slots q j top))

    one_entry_after : (c : ℕ) → c < p.buckets → HasOneEntry p.buckets (bucket_words p (slice_set words (bucket_place p m 7) (word + number))) c (with_link lists home.bucket number c)
    one_entry_after c few = elim (same_or_not c home.bucket) [
      | inl e ↦ subst (λ x. HasOneEntry p.buckets (bucket_words p (slice_set words (bucket_place p m 7) (word + number))) x (with_link lists home.bucket number x)) (sym e)
          (subst (HasOneEntry p.buckets (bucket_words p (slice_set words (bucket_place p m 7) (word + number))) home.bucket) (sym (link_there lists home.bucket number)) one_more)
      | inr apart ↦ subst (HasOneEntry p.buckets (bucket_words p (slice_set words (bucket_place p m 7) (word + number))) c) (sym (link_else lists home.bucket number c apart))
          (one_entry_same p.buckets (bucket_words p words) (bucket_words p (slice_set words (bucket_place p m 7) (word + number))) c (lists c) (λ o i among high full. ((λ empty. full (slots o i high ∙ empty)), ap entry_tag (slots o i high))) (index.one_entry c few))
    ]

    fresh_after : (n : ℕ) → 1 ≤ n → n ≤ p.overflow → ((c : ℕ) → owner_set index.owner number (ListedAt home.bucket) n ≡ ListedAt c → ⊥) → IsFresh (bucket_words p (slice_set words (bucket_place p m 7) (word + number))) (overflow_bucket p.buckets n)
    fresh_after n first few not_listed =
        let apart : n ≡ number → ⊥ = λ e. not_listed home.bucket (subst (λ x. owner_set index.owner number (ListedAt home.bucket) x ≡ ListedAt home.bucket) (sym e) (owner_there index.owner number (ListedAt home.bucket))) in
        let old : (c : ℕ) → index.owner n ≡ ListedAt c → ⊥ = λ c its. not_listed c (owner_else index.owner number (ListedAt home.bucket) n apart ∙ its) in
        let fresh = index.fresh n first few old in
        let off : overflow_bucket p.buckets n ≡ m → ⊥ = λ e. old home.bucket (among_listed home.bucket n index low first (subst (IsAmong p.buckets home.bucket (lists home.bucket)) (sym e) here)) in
        record {
          no_entry = λ i high. slots (overflow_bucket p.buckets n) i high ∙ fresh.no_entry i high;
          no_link = ap link_of (eighth (overflow_bucket p.buckets n) off) ∙ fresh.no_link;
        }

pub linked_grows : (p : Places) (words : List ℕ) (lists : ℕ → List ℕ) (bucket m word number : ℕ) → Grows p words (slice_set words (bucket_place p m 7) (word + number)) lists (with_link lists bucket number)
linked_grows p words lists bucket m word number = record {
  its_entries = λ o i real low some.
      let e = slots o i low in
      (λ none. some (sym e ∙ none), ap entry_tag e, (let a : entry_addr (bucket_words p (slice_set words (bucket_place p m 7) (word + number)) o i) ≡ entry_addr (bucket_words p words o i) = ap entry_addr e in omega (arith, a)));
  its_lists = λ c. elim (same_or_not c bucket) [
    | inl e ↦ (number ∷ [], subst (λ x. with_link lists bucket number x ≡ lists x ++ number ∷ []) (sym e) (link_there lists bucket number))
    | inr e ↦ ([], link_else lists bucket number c e ∙ sym (append-nil (lists c)))
  ];
  more_taken = let e = set_spares_taken p words m 7 (word + number) in omega (arith, e);
}
  where
    slots : (o i : ℕ) → i < 7 → bucket_words p (slice_set words (bucket_place p m 7) (word + number)) o i ≡ bucket_words p words o i
    slots o i few = set_else p words m 7 o i (word + number) (omega arith) (omega (arith, few)) (λ a e. omega (arith, e, few))

-- an entry takes the place of an empty slot behind entries of other tags, or of an older entry of its tag
pub index_published : (p : Places) (words : List ℕ) (lists : ℕ → List ℕ) (spares spares' : ℕ → ℕ) (home : Home) (place word entry : ℕ) (its : HasSlot p (bucket_words p words) lists home place word)
    → word_at words place ≡ word → entry_tag entry ≡ home.tag → entry_addr word < entry_addr entry → ((o : ℕ) → spares' o ≡ spares o)
    → IsIndex p words lists spares → IsIndex p (slice_set words place entry) lists spares'
index_published p words lists spares spares' home place word entry its won its_tag rises same index = subst (λ x. IsIndex p (slice_set words x entry) lists spares') (sym its.its_place) (record {
  enough_words = let e = length-set words (bucket_place p its.bucket its.slot) entry in let h = index.enough_words in omega (arith, e, h);
  few_taken = let e = set_spares_taken p words its.bucket its.slot entry in let h = index.few_taken in omega (arith, e, h);
  linked = λ c low. linked_same p.buckets (bucket_words p words) (bucket_words p (slice_set words (bucket_place p its.bucket its.slot) entry)) c (lists c) (λ o among. ap link_of (eighth o)) (index.linked c low);
  filled = λ c low. filled_same p.buckets (bucket_words p words) (bucket_words p (slice_set words (bucket_place p its.bucket its.slot) entry)) c (lists c) (λ o among. fills o) (λ o among. full o) (index.filled c low);
  one_entry = one_after;
  no_others = index.no_others;
  entries = λ o i real low. elim (here_or_not o i) [
    | inl e ↦ inr (subst (λ x. 0 < entry_addr x) (sym (there o i e.0 e.1)) (omega (arith, rises)), subst (λ x. entry_tag x < 2 ^ 15) (sym (there o i e.0 e.1)) (let h = its.its_home.fits in omega (arith, h, its_tag)))
    | inr e ↦ subst IsSlotWord (sym (else o i low e)) (index.entries o i real low)
  ];
  owner = index.owner;
  owned = subst (λ x. AreOwned x lists spares' index.owner) (sym (set_spares_taken p words its.bucket its.slot entry)) (owned_same (taken_of words) lists spares spares' index.owner same index.owned);
  fresh = λ n some few unlisted. fresh_after n some few unlisted;
})
  where
    low_home : home.bucket < p.buckets
    low_home = its.its_home.few

    among : IsAmong p.buckets home.bucket (lists home.bucket) its.bucket
    among = passed_among p.buckets (bucket_words p words) home.tag home.bucket (lists home.bucket) its.bucket its.slot its.passed

    in_words : its.bucket < p.buckets + p.overflow
    in_words = among_real home.bucket its.bucket index low_home among

    here_or_not : (o i : ℕ) → ((o ≡ its.bucket) × (i ≡ its.slot)) ⊎ (o ≡ its.bucket → i ≡ its.slot → ⊥)
    here_or_not o i = elim (same_or_not o its.bucket) [
      | inl a ↦ elim (same_or_not i its.slot) [
        | inl b ↦ inl (a, b)
        | inr b ↦ inr (λ x y. b y)
      ]
      | inr a ↦ inr (λ x y. a x)
    ]

    there : (o i : ℕ) → o ≡ its.bucket → i ≡ its.slot → bucket_words p (slice_set words (bucket_place p its.bucket its.slot) entry) o i ≡ entry
    there o i a b =
        let low = its.in_bucket in
        subst (λ x. bucket_words p (slice_set words (bucket_place p its.bucket its.slot) entry) x i ≡ entry) (sym a)
        (subst (λ x. bucket_words p (slice_set words (bucket_place p its.bucket its.slot) entry) its.bucket x ≡ entry) (sym b) (set_there p words its.bucket its.slot entry index.enough_words in_words (omega (arith, low))))

    else : (o i : ℕ) → i < 7 → (o ≡ its.bucket → i ≡ its.slot → ⊥) → bucket_words p (slice_set words (bucket_place p its.bucket its.slot) entry) o i ≡ bucket_words p words o i
    else o i few apart = let low = its.in_bucket in set_else p words its.bucket its.slot o i entry (omega (arith, low)) (omega (arith, few)) apart

    eighth : (o : ℕ) → bucket_words p (slice_set words (bucket_place p its.bucket its.slot) entry) o 7 ≡ bucket_words p words o 7
    eighth o = let low = its.in_bucket in set_else p words its.bucket its.slot o 7 entry (omega (arith, low)) (omega arith) (λ a e. omega (arith, e, low))

    some : entry ≡ 0 → ⊥
    some e = let none : entry_addr entry ≡ 0 = ap entry_addr e in omega (arith, none, rises)

    now : bucket_words p words its.bucket its.slot ≡ word
    now = subst (λ x. word_at words x ≡ word) its.its_place won

    fills : (o : ℕ) → FillsUp (bucket_words p words) o → FillsUp (bucket_words p (slice_set words (bucket_place p its.bucket its.slot) entry)) o
    fills o old i j before few empty = elim (here_or_not o i) [
      | inl e ↦ absurd (some (sym (there o i e.0 e.1) ∙ empty))
      | inr e ↦
          let was : bucket_words p words o i ≡ 0 = sym (else o i (omega (arith, before, few)) e) ∙ empty in
          elim (here_or_not o j) [
            | inl a ↦
                let passed = passed_row p.buckets (bucket_words p words) home.tag home.bucket (lists home.bucket) its.bucket its.slot its.passed in
                let behind = a.1 in
                absurd ((passed i (omega (arith, before, behind))).0 (subst (λ x. bucket_words p words x i ≡ 0) a.0 was))
            | inr a ↦ else o j few a ∙ old i j before few was
          ]
    ]

    full : (o : ℕ) → IsFull (bucket_words p words) o → IsFull (bucket_words p (slice_set words (bucket_place p its.bucket its.slot) entry)) o
    full o old i few empty = elim (here_or_not o i) [
      | inl e ↦ some (sym (there o i e.0 e.1) ∙ empty)
      | inr e ↦ old i few (sym (else o i few e) ∙ empty)
    ]

    -- beside the slot no other has an entry of the tag
    lonely : (o i : ℕ) → IsAmong p.buckets home.bucket (lists home.bucket) o → i < 7 → (o ≡ its.bucket → i ≡ its.slot → ⊥) → (bucket_words p words o i ≡ 0 → ⊥) → entry_tag (bucket_words p words o i) ≡ home.tag → ⊥
    lonely o i here few apart has e = elim its.held [
      | inl none ↦ elim (beside p.buckets (bucket_words p words) home.tag home.bucket (lists home.bucket) its.bucket its.slot (index.filled home.bucket low_home) its.passed its.in_bucket (now ∙ none) o i here few) [
        | inl a ↦ apart a.0 a.1
        | inr a ↦ elim a [
          | inl b ↦ has b
          | inr b ↦ b.1 e
        ]
      ]
      | inr held ↦
          let one = index.one_entry home.bucket low_home o its.bucket i its.slot here among few its.in_bucket has held.some_now (e ∙ sym held.tag_now) in
          apart one.0 one.1
    ]

    one_here : HasOneEntry p.buckets (bucket_words p (slice_set words (bucket_place p its.bucket its.slot) entry)) home.bucket (lists home.bucket)
    one_here o q i j a z few low has holds e = elim (here_or_not o i) [
      | inl x ↦ elim (here_or_not q j) [
        | inl y ↦ (x.0 ∙ sym y.0, x.1 ∙ sym y.1)
        | inr y ↦ absurd (lonely q j z low y (λ empty. holds (else q j low y ∙ empty)) (ap entry_tag (sym (else q j low y)) ∙ sym e ∙ ap entry_tag (there o i x.0 x.1) ∙ its_tag))
      ]
      | inr x ↦ elim (here_or_not q j) [
        | inl y ↦ absurd (lonely o i a few x (λ empty. has (else o i few x ∙ empty)) (ap entry_tag (sym (else o i few x)) ∙ e ∙ ap entry_tag (there q j y.0 y.1) ∙ its_tag))
        | inr y ↦ index.one_entry home.bucket low_home o q i j a z few low (λ empty. has (else o i few x ∙ empty)) (λ empty. holds (else q j low y ∙ empty)) (ap entry_tag (sym (else o i few x)) ∙ e ∙ ap entry_tag (else q j low y))
      ]
    ]

    one_after : (c : ℕ) → c < p.buckets → HasOneEntry p.buckets (bucket_words p (slice_set words (bucket_place p its.bucket its.slot) entry)) c (lists c)
    one_after c few = elim (same_or_not c home.bucket) [
      | inl e ↦ subst (λ x. HasOneEntry p.buckets (bucket_words p (slice_set words (bucket_place p its.bucket its.slot) entry)) x (lists x)) (sym e) one_here
      | inr apart ↦ one_entry_same p.buckets (bucket_words p words) (bucket_words p (slice_set words (bucket_place p its.bucket its.slot) entry)) c (lists c)
          (λ o i here low has.
          let off : o ≡ its.bucket → i ≡ its.slot → ⊥ = λ a b. apart (among_apart c home.bucket its.bucket index few low_home (subst (IsAmong p.buckets c (lists c)) a here) among) in
          ((λ empty. has (else o i low off ∙ empty)), ap entry_tag (else o i low off))) (index.one_entry c few)
    ]

    fresh_after : (n : ℕ) → 1 ≤ n → n ≤ p.overflow → ((c : ℕ) → index.owner n ≡ ListedAt c → ⊥) → IsFresh (bucket_words p (slice_set words (bucket_place p its.bucket its.slot) entry)) (overflow_bucket p.buckets n)
    fresh_after n first few unlisted =
        let fresh = index.fresh n first few unlisted in
        let off : overflow_bucket p.buckets n ≡ its.bucket → ⊥ = λ e. unlisted home.bucket (among_listed home.bucket n index low_home first (subst (IsAmong p.buckets home.bucket (lists home.bucket)) (sym e) among)) in
        record {
          no_entry = λ i low. else (overflow_bucket p.buckets n) i low (λ a b. off a) ∙ fresh.no_entry i low;
          no_link = ap link_of (eighth (overflow_bucket p.buckets n)) ∙ fresh.no_link;
        }

pub published_grows : (p : Places) (words : List ℕ) (lists : ℕ → List ℕ) (spares : ℕ → ℕ) (home : Home) (place word entry : ℕ) (its : HasSlot p (bucket_words p words) lists home place word)
    → word_at words place ≡ word → entry_tag entry ≡ home.tag → entry_addr word < entry_addr entry → IsIndex p words lists spares → Grows p words (slice_set words place entry) lists lists
published_grows p words lists spares home place word entry its won its_tag rises index = subst (λ x. Grows p words (slice_set words x entry) lists lists) (sym its.its_place) (record {
  its_entries = λ o i real few has. elim (same_or_not o its.bucket) [
    | inl a ↦ elim (same_or_not i its.slot) [
      | inl b ↦ at_it o i a b has
      | inr b ↦ other o i few (λ x y. b y) has
    ]
    | inr a ↦ other o i few (λ x y. a x) has
  ];
  its_lists = lists_stay lists;
  more_taken = let e = set_spares_taken p words its.bucket its.slot entry in omega (arith, e);
})
  where
    after : ℕ → ℕ → ℕ
    after = bucket_words p (slice_set words (bucket_place p its.bucket its.slot) entry)

    other : (o i : ℕ) → i < 7 → (o ≡ its.bucket → i ≡ its.slot → ⊥) → (bucket_words p words o i ≡ 0 → ⊥)
        → (bucket_words p (slice_set words (bucket_place p its.bucket its.slot) entry) o i ≡ 0 → ⊥) × (entry_tag (bucket_words p (slice_set words (bucket_place p its.bucket its.slot) entry) o i) ≡ entry_tag (bucket_words p words o i))
        × (entry_addr (bucket_words p words o i) ≤ entry_addr (bucket_words p (slice_set words (bucket_place p its.bucket its.slot) entry) o i))
    other o i few apart has =
        let low = its.in_bucket in
        let e = set_else p words its.bucket its.slot o i entry (omega (arith, low)) (omega (arith, few)) apart in
        let a : entry_addr (bucket_words p (slice_set words (bucket_place p its.bucket its.slot) entry) o i) ≡ entry_addr (bucket_words p words o i) = ap entry_addr e in
        (λ none. has (sym e ∙ none), ap entry_tag e, omega (arith, a))

    at_it : (o i : ℕ) → o ≡ its.bucket → i ≡ its.slot → (bucket_words p words o i ≡ 0 → ⊥)
        → (bucket_words p (slice_set words (bucket_place p its.bucket its.slot) entry) o i ≡ 0 → ⊥) × (entry_tag (bucket_words p (slice_set words (bucket_place p its.bucket its.slot) entry) o i) ≡ entry_tag (bucket_words p words o i))
        × (entry_addr (bucket_words p words o i) ≤ entry_addr (bucket_words p (slice_set words (bucket_place p its.bucket its.slot) entry) o i))
    at_it o i a b has =
        let low = its.in_bucket in
        let few : home.bucket < p.buckets = its.its_home.few in
        let in_words = among_real home.bucket its.bucket index few (passed_among p.buckets (bucket_words p words) home.tag home.bucket (lists home.bucket) its.bucket its.slot its.passed) in
        let new : bucket_words p (slice_set words (bucket_place p its.bucket its.slot) entry) o i ≡ entry = rw (a, b) (set_there p words its.bucket its.slot entry index.enough_words in_words (omega (arith, low))) in
        let now : bucket_words p words o i ≡ word = rw (a, b) (subst (λ x. word_at words x ≡ word) its.its_place won) in
        let old_tag : entry_tag (bucket_words p words o i) ≡ home.tag = elim its.held [
          | inl none ↦ absurd (has (now ∙ none))
          | inr held ↦ ap entry_tag now ∙ held.its_tag
        ] in
        let new_addr : entry_addr (bucket_words p (slice_set words (bucket_place p its.bucket its.slot) entry) o i) ≡ entry_addr entry = ap entry_addr new in
        let old_addr : entry_addr (bucket_words p words o i) ≡ entry_addr word = ap entry_addr now in
        let none_new : entry ≡ 0 → ⊥ = λ e. (let none : entry_addr entry ≡ 0 = ap entry_addr e in omega (arith, none, rises)) in
        (λ none. none_new (sym new ∙ none), ap entry_tag new ∙ its_tag ∙ sym old_tag, omega (arith, new_addr, old_addr, rises))
