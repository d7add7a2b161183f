-- Filling an index, bucket after bucket.
use Rattle.std.proofs.Common.{◌≡◌, ◌≢◌, ◌⊎◌, inl, inr, ⊎_elim, ℕ, Bool, zero, suc, ◌+◌, ◌-◌, ◌*◌, ◌^◌, ◌<◌, ◌≤◌, List, [], ◌∷◌, ◌++◌, true, false, length, map, take, min, get_or, cond, refl, sym, ap, subst, ◌∙◌, arith}
use Rattle.std.specs.Prelude.{nat_eq, replicate}
use Rattle.std.specs.List.{filter}
use Rattle.std.proofs.Math.Nat.{add-zero}
use Rattle.std.proofs.Math.ListN.{get_or-append}
use Rattle.std.proofs.Math.Seq.{get_or-append_seam}
use Rattle.std.proofs.lemmas.List.{append-nil, append_assoc, take_all, take_min, map-append, length-append, length-map}
use Rattle.std.proofs.lemmas.List.Sums.{length-filter, count_by-le-length}
use Rattle.std.proofs.lemmas.List.Elements.{filter_more}
use Rattle.std.proofs.lemmas.Bool.Decides.{nat_tests}
use Rattle.std.proofs.Math.Pow.{pow_mono}
use Rattle.fkv_base.specs.Limits.{max_bucket_bits, max_overflow}
use Rattle.fkv_words.specs.Layout.{entry_word}
use Rattle.fkv_entries.specs.Room.{needed, bucket_words}
use Rattle.fkv_filling.specs.Filled.{all_slots, AreByTag, eight_words, IsFilled, up_to, filled_by, all_needed, link_words, links_behind, first_link, other_links}
use Rattle.fkv_entries.specs.declared.home_entries.HomeEntry.{HomeEntry}

truth : (b : Bool) → (b ≡ true) ⊎ (b ≡ false)
truth true = inl refl
truth false = inr refl

equal_or_not : (a b : ℕ) → (a ≡ b) ⊎ (a ≢ b)
equal_or_not a b = elim (truth (nat_eq a b)) [ inl e ↦ inl (by_true e) | inr e ↦ inr (by_false e) ]
  where
    by_true : nat_eq a b ≡ true → a ≡ b
    by_true e = grind (arith, nat_tests)

    by_false : nat_eq a b ≡ false → a ≢ b
    by_false e = grind (arith, nat_tests)

-- zeros for the empty slots
pub zeros_taken : (n : ℕ) → n ≤ 7 → take {A = ℕ} n (replicate 7 0) ≡ replicate n 0
zeros_taken zero few = refl
zeros_taken (suc zero) few = refl
zeros_taken (suc (suc zero)) few = refl
zeros_taken (suc (suc (suc zero))) few = refl
zeros_taken (suc (suc (suc (suc zero)))) few = refl
zeros_taken (suc (suc (suc (suc (suc zero))))) few = refl
zeros_taken (suc (suc (suc (suc (suc (suc zero)))))) few = refl
zeros_taken (suc (suc (suc (suc (suc (suc (suc zero))))))) few = refl
zeros_taken (suc (suc (suc (suc (suc (suc (suc (suc n)))))))) few = absurd (omega (arith, few))

-- one bucket more
pub filled_more : (part : List ℕ → ℕ → List ℕ) (t : ℕ) (chains : List (List ℕ)) (c : List ℕ) → filled_by part t (chains ++ c ∷ []) ≡ filled_by part t chains ++ part c (t + all_needed chains)
unfolding filled_by all_needed
filled_more part t [] c = append-nil (part c t) ∙ ap (part c) (sym (add-zero t))
filled_more part t (d ∷ chains) c =
    ap (λ xs. part d t ++ xs) (filled_more part (t + needed (length d)) chains c)
    ∙ ap (λ n. part d t ++ (filled_by part (t + needed (length d)) chains ++ part c n)) (let e : t + needed (length d) + all_needed chains ≡ t + (needed (length d) + all_needed chains) = omega arith in e)
    ∙ sym (append_assoc (part d t) _ _)

pub needed_more : (chains : List (List ℕ)) (c : List ℕ) → all_needed (chains ++ c ∷ []) ≡ all_needed chains + needed (length c)
unfolding all_needed
needed_more [] c = let e : needed (length c) + 0 ≡ 0 + needed (length c) = omega arith in e
needed_more (d ∷ chains) c = ap (λ n. needed (length d) + n) (needed_more chains c) ∙ sym (let e : needed (length d) + all_needed chains + needed (length c) ≡ needed (length d) + (all_needed chains + needed (length c)) = omega arith in e)

-- the index as far as the first buckets fill it
pub record IsFilling (buckets : ℕ) (entries : List HomeEntry) (words behind : List ℕ) (taken : ℕ) : Type 0 where
  pub chains : List (List ℕ)
  pub many : length chains ≡ buckets
  pub each : (b : ℕ) → b < buckets → AreByTag (bucket_words b entries) (get_or chains b [])
  pub filled : words ≡ filled_by first_link 0 chains
  pub overflowed : behind ≡ filled_by other_links 0 chains
  pub all_taken : taken ≡ all_needed chains
  pub few : taken ≤ 33554432 * buckets

-- one bucket more, with the words of its entries by tag
pub filling_more : (b : ℕ) (entries : List HomeEntry) (words behind : List ℕ) (taken : ℕ) (c : List ℕ) → IsFilling b entries words behind taken → AreByTag (bucket_words b entries) c
    → length c ≤ all_slots → IsFilling (b + 1) entries (words ++ first_link c taken) (behind ++ other_links c taken) (taken + needed (length c))
filling_more b entries words behind taken c so_far by_tag few = record {
  chains = so_far.chains ++ c ∷ [];
  many = length-append so_far.chains (c ∷ []) ∙ ap (λ n. n + 1) so_far.many;
  each = λ k below. ⊎_elim
      (λ same. subst (λ n. AreByTag (bucket_words n entries) (get_or (so_far.chains ++ c ∷ []) n [])) (sym same)
      (subst (λ ws. AreByTag (bucket_words b entries) ws) (sym last) by_tag))
      (λ other. let low : k < b = omega (arith, below, other) in
      subst (λ ws. AreByTag (bucket_words k entries) ws) (sym (get_or-append so_far.chains (c ∷ []) [] k (omega (arith, low, so_far.many)))) (so_far.each k low))
      (equal_or_not k b);
  filled = ap (λ ws. ws ++ first_link c taken) so_far.filled ∙ (ap (λ n. filled_by first_link 0 so_far.chains ++ first_link c n) from_none ∙ sym (filled_more first_link 0 so_far.chains c));
  overflowed = ap (λ ws. ws ++ other_links c taken) so_far.overflowed ∙ (ap (λ n. filled_by other_links 0 so_far.chains ++ other_links c n) from_none ∙ sym (filled_more other_links 0 so_far.chains c));
  all_taken = ap (λ n. n + needed (length c)) so_far.all_taken ∙ sym (needed_more so_far.chains c);
  few = omega (arith, so_far.few, small);
}
  where
    from_none : taken ≡ 0 + all_needed so_far.chains
    from_none = omega (arith, so_far.all_taken)

    last : get_or (so_far.chains ++ c ∷ []) b [] ≡ c
    last = ap (λ n. get_or (so_far.chains ++ c ∷ []) n []) (sym so_far.many) ∙ get_or-append_seam so_far.chains c [] []

    small : needed (length c) ≤ 33554432
    small = omega (arith, few)

pub behind_start : (index words : List ℕ) (taken : ℕ) → index ≡ index ++ links_behind words taken 0
unfolding links_behind
behind_start index words taken = sym (append-nil index)

behind_more : (words : List ℕ) (taken j : ℕ) → links_behind words taken (suc j) ≡ links_behind words taken j ++ link_words words taken (suc j)
unfolding links_behind
behind_more words taken j = refl

pub behind_step : (start index index' words : List ℕ) (taken j : ℕ) → index ≡ start ++ links_behind words taken j → index' ≡ index ++ link_words words taken (j + 1)
    → index' ≡ start ++ links_behind words taken (j + 1)
behind_step start index index' words taken j so_far more =
    let next : suc j ≡ j + 1 = omega arith in
    more ∙ ap (λ xs. xs ++ link_words words taken (j + 1)) so_far ∙ append_assoc start (links_behind words taken j) (link_words words taken (j + 1))
    ∙ ap (λ xs. start ++ xs) (subst (λ k. links_behind words taken j ++ link_words words taken k ≡ links_behind words taken k) next (sym (behind_more words taken j)))

-- the words of a bucket, pushed in three parts
pub eight_pushed : (index words : List ℕ) (next slots : ℕ) (one two three : List ℕ) → slots ≡ min 7 (length words) → one ≡ index ++ take slots words → two ≡ one ++ take (7 - slots) (replicate 7 0)
    → three ≡ two ++ next ∷ [] → three ≡ index ++ eight_words words next
eight_pushed index words next slots one two three is first second third =
    let filled : take slots words ≡ take 7 words = ap (λ n. take n words) is ∙ take_min 7 words in
    let few : 7 - slots ≤ 7 = omega arith in
    let rest : 7 - slots ≡ 7 - length words = omega (arith, is) in
    let empty : take (7 - slots) (replicate 7 0) ≡ replicate (7 - length words) 0 = zeros_taken (7 - slots) few ∙ ap (λ n. replicate n 0) rest in
    third ∙ ap (λ xs. xs ++ next ∷ []) (second ∙ (ap (λ xs. xs ++ take (7 - slots) (replicate 7 0)) (first ∙ ap (λ xs. index ++ xs) filled)
    ∙ (ap (λ xs. (index ++ take 7 words) ++ xs) empty ∙ append_assoc index (take 7 words) (replicate (7 - length words) 0))))
    ∙ append_assoc index (take 7 words ++ replicate (7 - length words) 0) (next ∷ [])

-- a link that a bucket needs begins within its words
pub link_in_words : (n j : ℕ) → j < needed n → 7 * (j + 1) ≤ n
link_in_words n j low = omega (arith, low)

pub needed_few : (n : ℕ) → n ≤ all_slots → needed n ≤ 33554432
needed_few n few = omega (arith, few)

pub filling_none : (entries : List HomeEntry) → IsFilling 0 entries [] [] 0
unfolding filled_by all_needed
filling_none entries = record {
  chains = [];
  many = refl;
  each = λ b below. absurd (omega (arith, below));
  filled = refl;
  overflowed = refl;
  all_taken = refl;
  few = omega arith;
}

pub filling_start : (entries : List HomeEntry) (words behind : List ℕ) → words ≡ [] → behind ≡ [] → IsFilling 0 entries words behind 0
filling_start entries words behind none none' = subst (λ ws. IsFilling 0 entries ws behind 0) (sym none) (subst (λ bs. IsFilling 0 entries [] bs 0) (sym none') (filling_none entries))

pub filling_step : (b : ℕ) (entries : List HomeEntry) (words behind : List ℕ) (taken : ℕ) (c words' behind' : List ℕ) (taken' : ℕ) → IsFilling b entries words behind taken → AreByTag (bucket_words b entries) c
    → length c ≤ all_slots → words' ≡ words ++ first_link c taken → behind' ≡ behind ++ other_links c taken → taken' ≡ taken + needed (length c) → IsFilling (b + 1) entries words' behind' taken'
filling_step b entries words behind taken c words' behind' taken' so_far by_tag few one others more =
    subst (λ ws. IsFilling (b + 1) entries ws behind' taken') (sym one)
    (subst (λ bs. IsFilling (b + 1) entries (words ++ first_link c taken) bs taken') (sym others)
    (subst (λ t. IsFilling (b + 1) entries (words ++ first_link c taken) (behind ++ other_links c taken) t) (sym more) (filling_more b entries words behind taken c so_far by_tag few)))

-- after the last bucket
pub filling_done : (buckets overflow : ℕ) (entries : List HomeEntry) (words behind words' : List ℕ) (taken : ℕ) → IsFilling buckets entries words behind taken
    → words' ≡ words ++ up_to (8 * overflow) behind → IsFilled buckets overflow entries words' taken
filling_done buckets overflow entries words behind words' taken done all = record {
  chains = done.chains;
  many = done.many;
  each = done.each;
  filled = all ∙ (ap (λ ws. ws ++ up_to (8 * overflow) behind) done.filled ∙ ap (λ bs. filled_by first_link 0 done.chains ++ up_to (8 * overflow) bs) done.overflowed);
  all_taken = done.all_taken;
}
