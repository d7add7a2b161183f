-- The words of a bucket's entries: each is an entry's, and no tag stands twice.
use Rattle.std.proofs.Common.{◌≡◌, inl, inr, ℕ, Bool, zero, suc, ◌+◌, ◌*◌, ◌^◌, ◌<◌, ◌≤◌, List, [], ◌∷◌, true, false, cond, length, map, get_or, refl, sym, ap, subst, ◌∙◌, arith}
use Rattle.std.specs.Prelude.{nat_eq, sum_by, All, AllPairs, Contains}
use Rattle.std.specs.List.{filter, AllByRecursion}
use Rattle.std.specs.List.Sorted.{IsPermutation}
use Rattle.std.proofs.lemmas.Bool.Decides.{nat_tests}
use Rattle.std.proofs.lemmas.List.Sums.{sum_by-cons}
use Rattle.std.proofs.lemmas.List.Sorted.{sum_by-IsPermutation}
use Rattle.std.proofs.lemmas.List.Elements.{All-map, All-filter, All-contains_itself, filter_passes, recursion_from_All}
use Rattle.fkv_words.specs.Layout.{entry_word}
use Rattle.fkv_index.specs.Slots.{entry_tag, entry_addr}
use Rattle.fkv_entries.specs.Room.{bucket_words, AreApart}
use Rattle.fkv_entries.specs.declared.home_entries.HomeEntry.{HomeEntry}
use Rattle.fkv_filling.proofs.Laid.{IsEntry}
use Rattle.fkv_filling.proofs.Positions.{below_or_not}

abbrev pub word_of : HomeEntry → ℕ
word_of x = entry_word x.entry

tag_in : (addr tag : ℕ) → addr < 2 ^ 48 → entry_tag (addr + tag * 2 ^ 48) ≡ tag
tag_in addr tag few = omega (arith, few)

addr_in : (addr tag : ℕ) → addr < 2 ^ 48 → entry_addr (addr + tag * 2 ^ 48) ≡ addr
addr_in addr tag few = omega (arith, few)

pub tag_of : (x : HomeEntry) → entry_tag (word_of x) ≡ x.entry.tag
tag_of x = tag_in x.entry.addr.0 x.entry.tag x.entry.addr_fits

pub is_entry : (x : HomeEntry) → IsEntry (word_of x)
is_entry x =
    let at = addr_in x.entry.addr.0 x.entry.tag x.entry.addr_fits in
    let high = x.entry.some_addr in
    let of = tag_of x in
    let low = x.entry.tag_fits in
    record { some = λ none. omega (arith, none, high); address = omega (arith, at, high); its_tag = omega (arith, of, low) }

abbrev mark : Bool → ℕ
mark true = 1
mark false = 0

abbrev has_tag : ℕ → ℕ → ℕ
has_tag tag word = mark (nat_eq (entry_tag word) tag)

abbrev count : ℕ → List ℕ → ℕ
count tag words = sum_by (has_tag tag) words

with_one : (t : Bool) (x : HomeEntry) (rest : List HomeEntry) → map word_of (cond t (x ∷ rest) rest) ≡ cond t (word_of x ∷ map word_of rest) (map word_of rest)
with_one true x rest = refl
with_one false x rest = refl

words_cons : (b : ℕ) (x : HomeEntry) (xs : List HomeEntry) → bucket_words b (x ∷ xs) ≡ cond (nat_eq x.bucket b) (word_of x ∷ bucket_words b xs) (bucket_words b xs)
words_cons b x xs = with_one (nat_eq x.bucket b) x (filter (λ y. nat_eq y.bucket b) xs)

count_cond : (tag : ℕ) (t : Bool) (word : ℕ) (words : List ℕ) → count tag (cond t (word ∷ words) words) ≡ cond t (has_tag tag word + count tag words) (count tag words)
count_cond tag true word words = sum_by-cons (has_tag tag) word words
count_cond tag false word words = refl

count_cons : (tag b : ℕ) (x : HomeEntry) (xs : List HomeEntry) → count tag (bucket_words b (x ∷ xs)) ≡ cond (nat_eq x.bucket b) (has_tag tag (word_of x) + count tag (bucket_words b xs)) (count tag (bucket_words b xs))
count_cons tag b x xs = ap (count tag) (words_cons b x xs) ∙ count_cond tag (nat_eq x.bucket b) (word_of x) (bucket_words b xs)

none_more : (t s : Bool) (n : ℕ) → n ≡ 0 → (t ≡ true → s ≡ true → ⊥) → cond t (mark s + n) n ≡ 0
none_more true true n none apart = absurd (apart refl refl)
none_more true false n none apart = let e : 0 + n ≡ 0 = omega (arith, none) in e
none_more false s n none apart = none

one_more : (t s : Bool) (n : ℕ) → n ≤ 1 → (t ≡ true → s ≡ true → n ≡ 0) → cond t (mark s + n) n ≤ 1
one_more true true n few none = let e = none refl refl in (let f : 1 + n ≤ 1 = omega (arith, e) in f)
one_more true false n few none = let e : 0 + n ≤ 1 = omega (arith, few) in e
one_more false s n few none = few

same_of : (a b : ℕ) → nat_eq a b ≡ true → a ≡ b
same_of a b e = grind (arith, nat_tests, e)

of_same : (a b : ℕ) → a ≡ b → nat_eq a b ≡ true
of_same a b e = grind (arith, nat_tests, e)

none_left : (b tag : ℕ) (xs : List HomeEntry) → AllByRecursion (λ y. y.bucket ≡ b → y.entry.tag ≡ tag → ⊥) xs → count tag (bucket_words b xs) ≡ 0
none_left b tag [] apart = refl
none_left b tag (x ∷ xs) apart =
    count_cons tag b x xs
    ∙ none_more (nat_eq x.bucket b) (nat_eq (entry_tag (word_of x)) tag) (count tag (bucket_words b xs)) (none_left b tag xs apart.1)
    (λ here same. apart.0 (same_of x.bucket b here) (sym (tag_of x) ∙ same_of (entry_tag (word_of x)) tag same))

tags_few : (b tag : ℕ) (xs : List HomeEntry) → AllPairs AreApart xs → count tag (bucket_words b xs) ≤ 1
tags_few b tag [] apart = let e : 0 ≤ 1 = omega arith in e
tags_few b tag (x ∷ xs) apart =
    subst (λ n. n ≤ 1) (sym (count_cons tag b x xs))
    (one_more (nat_eq x.bucket b) (nat_eq (entry_tag (word_of x)) tag) (count tag (bucket_words b xs))
    (tags_few b tag xs (λ i j d low within. apart (suc i) (suc j) d (omega (arith, low)) (omega (arith, within))))
    (λ here same. none_left b tag xs (recursion_from_All (λ y. y.bucket ≡ b → y.entry.tag ≡ tag → ⊥) xs
    (λ k d within in_b its. apart zero (suc k) d (omega arith) (omega (arith, within)) (same_of x.bucket b here ∙ sym in_b) (sym (tag_of x) ∙ same_of (entry_tag (word_of x)) tag same ∙ sym its)))))

one_count : (tag : ℕ) (words : List ℕ) (j : ℕ) → j < length words → entry_tag (get_or words j 0) ≡ tag → 1 ≤ count tag words
one_count tag [] j low is = absurd (omega (arith, low))
one_count tag (w ∷ words) zero low is = let e : has_tag tag w ≡ 1 = ap mark (of_same (entry_tag w) tag is) in omega (arith, sum_by-cons (has_tag tag) w words, e)
one_count tag (w ∷ words) (suc j) low is = let h = one_count tag words j (omega (arith, low)) is in omega (arith, sum_by-cons (has_tag tag) w words, h)

two_count : (tag : ℕ) (words : List ℕ) (i j : ℕ) → i < j → j < length words → entry_tag (get_or words i 0) ≡ tag → entry_tag (get_or words j 0) ≡ tag → 2 ≤ count tag words
two_count tag [] i j before low is its = absurd (omega (arith, low))
two_count tag (w ∷ words) i zero before low is its = absurd (omega (arith, before))
two_count tag (w ∷ words) zero (suc j) before low is its =
    let e : has_tag tag w ≡ 1 = ap mark (of_same (entry_tag w) tag is) in
    let h = one_count tag words j (omega (arith, low)) its in
    omega (arith, sum_by-cons (has_tag tag) w words, e, h)
two_count tag (w ∷ words) (suc i) (suc j) before low is its =
    let h = two_count tag words i j (omega (arith, before)) (omega (arith, low)) is its in omega (arith, sum_by-cons (has_tag tag) w words, h)

-- two places of one tag among the words in another order are one
pub tags_once : (b : ℕ) (xs : List HomeEntry) (words : List ℕ) → AllPairs AreApart xs → IsPermutation (bucket_words b xs) words → (k l : ℕ) → k < length words → l < length words
    → entry_tag (get_or words k 0) ≡ entry_tag (get_or words l 0) → k ≡ l
tags_once b xs words apart same k l few low is =
    let tag : ℕ = entry_tag (get_or words l 0) in
    let one = tags_few b (entry_tag (get_or words l 0)) xs apart in
    let perm = sum_by-IsPermutation (has_tag (entry_tag (get_or words l 0))) (bucket_words b xs) words same in
    elim (below_or_not k l) [
      | inl before ↦ let two = two_count (entry_tag (get_or words l 0)) words k l before low is refl in absurd (omega (arith, two, one, perm))
      | inr behind ↦ elim (below_or_not l k) [
        | inl before ↦ let two = two_count (entry_tag (get_or words l 0)) words l k before few refl is in absurd (omega (arith, two, one, perm))
        | inr at ↦ omega (arith, at, behind)
      ]
    ]

-- the word of an entry of the bucket
pub record IsWordOf (b : ℕ) (xs : List HomeEntry) (word : ℕ) : Type 0 where
  pub x : HomeEntry
  pub among : Contains xs x
  pub its_bucket : x.bucket ≡ b
  pub is : word ≡ word_of x

pub words_are : (b : ℕ) (xs : List HomeEntry) → All (IsWordOf b xs) (bucket_words b xs)
words_are b xs =
    let p : HomeEntry → Bool = λ x. nat_eq x.bucket b in
    All-map (IsWordOf b xs) word_of (filter (λ x. nat_eq x.bucket b) xs) (λ k d low. record {
      x = get_or (filter (λ x. nat_eq x.bucket b) xs) k d;
      among = All-filter (λ x. nat_eq x.bucket b) (Contains xs) xs (All-contains_itself xs) k d low;
      its_bucket = same_of _ b (filter_passes (λ x. nat_eq x.bucket b) xs k d low);
      is = refl;
    })

in_cond : (t : Bool) (w v : ℕ) (words : List ℕ) → Contains words v → Contains (cond t (w ∷ words) words) v
in_cond true w v words has = (suc has.0, (let h = has.1 in omega (arith, h)), has.2)
in_cond false w v words has = has

at_front : (t : Bool) (w : ℕ) (words : List ℕ) → t ≡ true → Contains (cond t (w ∷ words) words) w
at_front true w words is = (0, omega arith, refl)
at_front false w words is = absurd (cc)

pub words_have : (b : ℕ) (xs : List HomeEntry) (k : ℕ) (x : HomeEntry) → k < length xs → get_or xs k x ≡ x → x.bucket ≡ b → Contains (bucket_words b xs) (word_of x)
words_have b [] k x low is here = absurd (omega (arith, low))
words_have b (y ∷ ys) zero x low is here =
    subst (λ ws. Contains ws (word_of x)) (sym (words_cons b y ys))
    (subst (λ (z : HomeEntry). Contains (cond (nat_eq y.bucket b) (word_of y ∷ bucket_words b ys) (bucket_words b ys)) (word_of z)) is
    (at_front (nat_eq y.bucket b) (word_of y) (bucket_words b ys) (of_same y.bucket b (ap (λ (z : HomeEntry). z.bucket) is ∙ here))))
words_have b (y ∷ ys) (suc k) x low is here =
    subst (λ ws. Contains ws (word_of x)) (sym (words_cons b y ys))
    (in_cond (nat_eq y.bucket b) (word_of y) (word_of x) (bucket_words b ys) (words_have b ys k x (omega (arith, low)) is here))
