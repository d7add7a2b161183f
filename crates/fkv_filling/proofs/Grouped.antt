-- Going once over entries by bucket.
use Rattle.std.proofs.Common.{◌≡◌, ◌≢◌, ◌⊎◌, inl, inr, ℕ, Bool, zero, suc, ◌+◌, ◌-◌, ◌*◌, ◌^◌, ◌<◌, ◌≤◌, List, [], ◌∷◌, ◌++◌, true, false, length, map, take, drop, get_or, cond, refl, sym, ap, subst, ◌∙◌, arith}
use Rattle.std.specs.Prelude.{nat_eq, nat_lt, not, ◌&&◌}
use Rattle.std.specs.Ordering.{nat_cmp, is_lt}
use Rattle.std.specs.declared.cmp.Ordering.{Ordering}
use Rattle.std.specs.declared.cmp.Ordering.TheVariants.{Less, Equal, Greater}
use Rattle.std.specs.Cmp.{nat_cmp_is}
use Rattle.std.specs.List.{filter, take_while, prefix_len}
use Rattle.std.specs.List.Sorted.{IsNonDecreasingBy, IsStableByKey, ties}
use Rattle.std.proofs.Math.ListN.{drop_of_length-le}
use Rattle.std.proofs.lemmas.Bool.Decides.{nat_tests}
use Rattle.std.proofs.lemmas.List.{append-nil, append_assoc, length-map, length-take, drop_more, drop-drop, get_or-drop, length-drop}
use Rattle.std.proofs.lemmas.List.Sums.{take_while-cons}
use Rattle.std.proofs.lemmas.List.Elements.{filter_agree}
use Rattle.fkv_words.specs.Layout.{entry_word}
use Rattle.fkv_entries.specs.Room.{needed, bucket_words}
use Rattle.fkv_entries.specs.declared.home_entries.HomeEntry.{HomeEntry}
use Rattle.fkv_filling.specs.Filled.{AreByBucket, AreByTag, first_words, first_link, other_links, all_slots}
use Rattle.fkv_filling.proofs.FilledBuckets.{IsFilling, filling_start, filling_step}

abbrev word_of : HomeEntry → ℕ
word_of x = entry_word x.entry

eq_true : (a b : ℕ) → a ≡ b → nat_eq a b ≡ true
eq_true a b h = grind (arith, nat_tests)

eq_false : (a b : ℕ) → a ≢ b → nat_eq a b ≡ false
eq_false a b h = grind (arith, nat_tests)

true_eq : (a b : ℕ) → nat_eq a b ≡ true → a ≡ b
true_eq a b h = grind (arith, nat_tests)

false_eq : (a b : ℕ) → nat_eq a b ≡ false → a ≢ b
false_eq a b h = grind (arith, nat_tests)

-- an entry of the bucket comes first, or one of another does
first_with : (b : ℕ) (x : HomeEntry) (xs : List HomeEntry) → x.bucket ≡ b → first_words b (x ∷ xs) ≡ word_of x ∷ first_words b xs
first_with b x xs same =
    ap (map word_of) (take_while-cons (λ y. nat_eq y.bucket b) x xs ∙ ap (λ t. cond t (x ∷ take_while (λ y. nat_eq y.bucket b) xs) []) (eq_true x.bucket b same))

first_without : (b : ℕ) (x : HomeEntry) (xs : List HomeEntry) → x.bucket ≢ b → first_words b (x ∷ xs) ≡ []
first_without b x xs other =
    ap (map word_of) (take_while-cons (λ y. nat_eq y.bucket b) x xs ∙ ap (λ t. cond t (x ∷ take_while (λ y. nat_eq y.bucket b) xs) []) (eq_false x.bucket b other))

-- and no more words come first than there are entries
pub first_few : (b : ℕ) (xs : List HomeEntry) → length (first_words b xs) ≤ length xs
first_few b xs = omega (arith, length-map (take_while (λ x. nat_eq x.bucket b) xs) word_of, take_few (λ x. nat_eq x.bucket b) xs)
  where
    take_few : (p : HomeEntry → Bool) (ys : List HomeEntry) → length (take_while p ys) ≤ length ys
    take_few p ys = omega (arith, length-take (prefix_len p ys) ys)

-- the same of all entries of the bucket
bucket_with : (b : ℕ) (x : HomeEntry) (xs : List HomeEntry) → x.bucket ≡ b → bucket_words b (x ∷ xs) ≡ word_of x ∷ bucket_words b xs
bucket_with b x xs same = ap (λ t. map word_of (cond t (x ∷ filter (λ y. nat_eq y.bucket b) xs) (filter (λ y. nat_eq y.bucket b) xs))) (eq_true x.bucket b same)

bucket_without : (b : ℕ) (x : HomeEntry) (xs : List HomeEntry) → x.bucket ≢ b → bucket_words b (x ∷ xs) ≡ bucket_words b xs
bucket_without b x xs other = ap (λ t. map word_of (cond t (x ∷ filter (λ y. nat_eq y.bucket b) xs) (filter (λ y. nat_eq y.bucket b) xs))) (eq_false x.bucket b other)

-- The words that are pushed, and those that still come.
abbrev pub ArePushed : ℕ → List HomeEntry → ℕ → List ℕ → Type 0
ArePushed b xs i words = words ++ first_words b (drop i xs) ≡ first_words b xs

pub words_more : (b : ℕ) (xs : List HomeEntry) (i : ℕ) (d : HomeEntry) (words words' : List ℕ) → i < length xs → (let x = get_or xs i d in x.bucket ≡ b)
    → ArePushed b xs i words → words' ≡ words ++ entry_word (let x = get_or xs i d in x.entry) ∷ [] → ArePushed b xs (i + 1) words'
words_more b xs i d words words' low same so_far more =
    ap (λ ws. ws ++ first_words b (drop (i + 1) xs)) more ∙ append_assoc words (word_of (get_or xs i d) ∷ []) (first_words b (drop (i + 1) xs))
    ∙ ap (λ ws. words ++ ws) (sym (first_with b (get_or xs i d) (drop (i + 1) xs) same) ∙ ap (first_words b) (sym (drop_more xs i d low))) ∙ so_far

pub words_stop : (b : ℕ) (xs : List HomeEntry) (i : ℕ) (d : HomeEntry) (words : List ℕ) → i < length xs → (let x = get_or xs i d in x.bucket ≢ b) → ArePushed b xs i words → words ≡ first_words b xs
words_stop b xs i d words low other so_far =
    sym (append-nil words) ∙ ap (λ ws. words ++ ws) (sym (ap (first_words b) (drop_more xs i d low) ∙ first_without b (get_or xs i d) (drop (i + 1) xs) other)) ∙ so_far

pub words_whole : (b : ℕ) (xs : List HomeEntry) (i : ℕ) (words : List ℕ) → length xs ≤ i → ArePushed b xs i words → words ≡ first_words b xs
words_whole b xs i words all so_far = sym (append-nil words) ∙ ap (λ ws. words ++ ws) (sym (ap (first_words b) (drop_of_length-le xs all))) ∙ so_far

-- no entry is in a bucket below this one
abbrev pub AreFrom : ℕ → List HomeEntry → Type 0
AreFrom b xs = (k : ℕ) (d : HomeEntry) → k < length xs → (let x = get_or xs k d in b ≤ x.bucket)

none_below : (b : ℕ) (xs : List HomeEntry) → AreFrom (b + 1) xs → bucket_words b xs ≡ []
none_below b [] from = refl
none_below b (x ∷ xs) from =
    let above : b + 1 ≤ x.bucket = from 0 x (omega arith) in
    bucket_without b x xs (λ same. omega (arith, same, above)) ∙ none_below b xs (λ k d low. from (suc k) d (omega (arith, low)))

-- the entries of a bucket come first, and behind them those of the buckets above it
pub record AreFirst (b : ℕ) (xs : List HomeEntry) : Type 0 where
  pub words : first_words b xs ≡ bucket_words b xs
  pub fits : length (first_words b xs) ≤ length xs
  pub others : (c : ℕ) → b < c → bucket_words c (drop (length (first_words b xs)) xs) ≡ bucket_words c xs
  pub from : AreFrom (b + 1) (drop (length (first_words b xs)) xs)

pub are_first : (b : ℕ) (xs : List HomeEntry) → IsNonDecreasingBy (λ x. x.bucket) xs → AreFrom b xs → AreFirst b xs
are_first b [] rising from = record { words = refl; fits = omega arith; others = λ c above. refl; from = λ k d low. absurd (omega (arith, low)) }
are_first b (x ∷ xs) rising from =
    by_test (are_first b xs (λ i j d le low. rising (suc i) (suc j) d (omega (arith, le)) (omega (arith, low))) (λ k d low. from (suc k) d (omega (arith, low)))) (nat_eq x.bucket b) refl
  where
    by_test : AreFirst b xs → (t : Bool) → nat_eq x.bucket b ≡ t → AreFirst b (x ∷ xs)
    by_test rest true e =
        let same : x.bucket ≡ b = true_eq x.bucket b e in
        let first : first_words b (x ∷ xs) ≡ word_of x ∷ first_words b xs = first_with b x xs same in
        let many : length (first_words b (x ∷ xs)) ≡ suc (length (first_words b xs)) = ap length first in
        record {
          words = first ∙ ap (λ ws. word_of x ∷ ws) rest.words ∙ sym (bucket_with b x xs same);
          fits = omega (arith, many, rest.fits);
          others = λ c above. ap (λ n. bucket_words c (drop n (x ∷ xs))) many ∙ rest.others c above ∙ sym (bucket_without c x xs (λ it. omega (arith, it, same, above)));
          from = subst (λ n. AreFrom (b + 1) (drop n (x ∷ xs))) (sym many) rest.from;
        }
    by_test rest false e =
        let other : x.bucket ≢ b = false_eq x.bucket b e in
        let here : b ≤ x.bucket = from 0 x (omega arith) in
        let above : AreFrom (b + 1) (x ∷ xs) = λ k d low. (let rise : x.bucket ≤ (let y = get_or (x ∷ xs) k d in y.bucket) = rising 0 k d (omega arith) low in omega (arith, rise, here, other)) in
        let first : first_words b (x ∷ xs) ≡ [] = first_without b x xs other in
        let none : length (first_words b (x ∷ xs)) ≡ 0 = ap length first in
        record {
          words = first ∙ sym (none_below b (x ∷ xs) above);
          fits = omega (arith, none);
          others = λ c up. ap (λ n. bucket_words c (drop n (x ∷ xs))) none;
          from = subst (λ n. AreFrom (b + 1) (drop n (x ∷ xs))) (sym none) above;
        }

-- entries that a stable sort by bucket leaves
cmp_less : (x y : ℕ) → x < y → nat_cmp x y ≡ Less
cmp_less x y low = sym (nat_cmp_is x y Less low)

cmp_same : (x y : ℕ) → x ≡ y → nat_cmp x y ≡ Equal
cmp_same x y same = sym (nat_cmp_is x y Equal same)

cmp_more : (x y : ℕ) → y < x → nat_cmp x y ≡ Greater
cmp_more x y high = sym (nat_cmp_is x y Greater high)

ties_so : (a b : ℕ) (one other : Ordering) → nat_cmp b a ≡ one → nat_cmp a b ≡ other → (not (is_lt (nat_cmp b a)) && not (is_lt (nat_cmp a b))) ≡ (not (is_lt one) && not (is_lt other))
ties_so a b one other e f =
    ap (λ (o : Ordering). not (is_lt o) && not (is_lt (nat_cmp a b))) e ∙ ap (λ (o : Ordering). not (is_lt one) && not (is_lt o)) f

tie_is : (a b : ℕ) → nat_eq a b ≡ (not (is_lt (nat_cmp b a)) && not (is_lt (nat_cmp a b)))
tie_is a b = by_test (nat_lt a b) (nat_lt b a) refl refl
  where
    is_below : (x y : ℕ) → nat_lt x y ≡ true → x < y
    is_below x y e = grind (arith, nat_tests)

    are_same : (x y : ℕ) → nat_lt x y ≡ false → nat_lt y x ≡ false → x ≡ y
    are_same x y e f = grind (arith, nat_tests)

    by_test : (l m : Bool) → nat_lt a b ≡ l → nat_lt b a ≡ m → nat_eq a b ≡ (not (is_lt (nat_cmp b a)) && not (is_lt (nat_cmp a b)))
    by_test true m e f =
        let low : a < b = is_below a b e in
        eq_false a b (λ same. omega (arith, low, same)) ∙ sym (ties_so a b Greater Less (cmp_more b a low) (cmp_less a b low))
    by_test false true e f =
        let low : b < a = is_below b a f in
        eq_false a b (λ same. omega (arith, low, same)) ∙ sym (ties_so a b Less Greater (cmp_less b a low) (cmp_more a b low))
    by_test false false e f =
        let same : a ≡ b = are_same a b e f in
        eq_true a b same ∙ sym (ties_so a b Equal Equal (cmp_same b a (sym same)) (cmp_same a b same))

-- entries in the bucket of one are those that tie with it
same_words : (w : HomeEntry) (entries grouped : List HomeEntry) → IsStableByKey (λ x. x.bucket) nat_cmp entries grouped → bucket_words w.bucket grouped ≡ bucket_words w.bucket entries
same_words w entries grouped stable =
    let agree : (x : HomeEntry) → nat_eq x.bucket w.bucket ≡ ties (λ y z. is_lt (nat_cmp y.bucket z.bucket)) w x = λ x. tie_is x.bucket w.bucket in
    ap (map word_of) (filter_agree (λ x. nat_eq x.bucket w.bucket) (ties (λ y z. is_lt (nat_cmp y.bucket z.bucket)) w) agree grouped
    ∙ stable w ∙ sym (filter_agree (λ x. nat_eq x.bucket w.bucket) (ties (λ y z. is_lt (nat_cmp y.bucket z.bucket)) w) agree entries))

grouped_words : (entries grouped : List HomeEntry) → IsStableByKey (λ x. x.bucket) nat_cmp entries grouped → length grouped ≡ length entries → (b : ℕ) → bucket_words b grouped ≡ bucket_words b entries
grouped_words [] [] stable many b = refl
grouped_words [] (y ∷ grouped) stable many b = absurd (omega (arith, many))
grouped_words (x ∷ entries) grouped stable many b = same_words (record x { bucket = b }) (x ∷ entries) grouped stable

pub grouped_by : (entries grouped : List HomeEntry) → IsStableByKey (λ x. x.bucket) nat_cmp entries grouped → length grouped ≡ length entries → IsNonDecreasingBy (λ x. x.bucket) grouped → AreByBucket entries grouped
grouped_by entries grouped stable many rising = record { same = grouped_words entries grouped stable many; many = many; ascending = rising }

-- up to which entry the buckets below this one go
pub record IsStart (bucket : ℕ) (grouped : List HomeEntry) (next : ℕ) : Type 0 where
  pub within : next ≤ length grouped
  pub others : (c : ℕ) → bucket ≤ c → bucket_words c (drop next grouped) ≡ bucket_words c grouped
  pub from : AreFrom bucket (drop next grouped)

rest_rises : (grouped : List HomeEntry) (next : ℕ) → IsNonDecreasingBy (λ x. x.bucket) grouped → IsNonDecreasingBy (λ x. x.bucket) (drop next grouped)
rest_rises grouped next rising i j d le low =
    let at : next + j < length grouped = omega (arith, low, length-drop next grouped) in
    let rise = rising (next + i) (next + j) d (omega (arith, le)) at in
    rw (get_or-drop next grouped i d, get_or-drop next grouped j d) rise

pub first_at : (b : ℕ) (entries grouped : List HomeEntry) (next : ℕ) → AreByBucket entries grouped → IsStart b grouped next → AreFirst b (drop next grouped)
first_at b entries grouped next by at = are_first b (drop next grouped) (rest_rises grouped next by.ascending) at.from

pub start_more : (b : ℕ) (entries grouped : List HomeEntry) (next n : ℕ) → AreByBucket entries grouped → IsStart b grouped next → n ≡ length (first_words b (drop next grouped)) → IsStart (b + 1) grouped (next + n)
start_more b entries grouped next n by at is =
    let first = first_at b entries grouped next by at in
    let there : drop n (drop next grouped) ≡ drop (next + n) grouped = drop-drop n next grouped in
    record {
      within = omega (arith, is, first.fits, length-drop next grouped, at.within);
      others = λ c above. ap (bucket_words c) (sym there) ∙ ap (λ m. bucket_words c (drop m (drop next grouped))) is ∙ first.others c (omega (arith, above)) ∙ at.others c (omega (arith, above));
      from = subst (AreFrom (b + 1)) (ap (λ m. drop m (drop next grouped)) (sym is) ∙ there) first.from;
    }

-- the index as far as the first buckets fill it, and the entry that comes next
pub record IsGoing (bucket : ℕ) (entries grouped : List HomeEntry) (words behind : List ℕ) (taken next : ℕ) : Type 0 where
  pub filling : IsFilling bucket entries words behind taken
  pub at : IsStart bucket grouped next

pub going_start : (entries grouped : List HomeEntry) (words behind : List ℕ) → words ≡ [] → behind ≡ [] → IsGoing 0 entries grouped words behind 0 0
going_start entries grouped words behind none none' = record {
  filling = filling_start entries words behind none none';
  at = record { within = omega arith; others = λ c above. refl; from = λ k d low. omega arith };
}

pub going_step : (b : ℕ) (entries grouped : List HomeEntry) (words behind : List ℕ) (taken next : ℕ) (c words' behind' : List ℕ) (taken' next' : ℕ) → AreByBucket entries grouped
    → IsGoing b entries grouped words behind taken next → AreByTag (first_words b (drop next grouped)) c → length c ≡ length (first_words b (drop next grouped)) → length c ≤ all_slots
    → words' ≡ words ++ first_link c taken → behind' ≡ behind ++ other_links c taken → taken' ≡ taken + needed (length c) → next' ≡ next + length c → IsGoing (b + 1) entries grouped words' behind' taken' next'
going_step b entries grouped words behind taken next c words' behind' taken' next' by so_far sorted many few one others more onward =
    let first = first_at b entries grouped next by so_far.at in
    let its : first_words b (drop next grouped) ≡ bucket_words b entries = first.words ∙ so_far.at.others b (omega arith) ∙ by.same b in
    record {
      filling = filling_step b entries words behind taken c words' behind' taken' so_far.filling (subst (λ ws. AreByTag ws c) its sorted) few one others more;
      at = subst (IsStart (b + 1) grouped) (sym onward) (start_more b entries grouped next (length c) by so_far.at many);
    }
