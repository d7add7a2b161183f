-- Where each word of a filled index stands.
use Rattle.std.proofs.Common.{◌≡◌, ◌⊎◌, inl, inr, ℕ, Bool, zero, suc, ◌+◌, ◌-◌, ◌*◌, ◌<◌, ◌≤◌, List, [], ◌∷◌, ◌++◌, true, false, length, take, drop, get_or, refl, sym, ap, ◌∙◌, arith}
use Rattle.std.specs.Prelude.{nat_lt, nat_eq, replicate, if◌then◌else◌}
use Rattle.std.proofs.Math.ListN.{get_or-append}
use Rattle.std.proofs.lemmas.List.{get_or-take, get_or-drop, get_or_past, get_or-append_right, get_or-replicate, length-append, length-take, length-replicate}
use Rattle.std.proofs.lemmas.Bool.Decides.{nat_tests}
use Rattle.fkv_entries.specs.Room.{needed}
use Rattle.fkv_filling.specs.Filled.{eight_words, up_to, filled_by, all_needed, link_words, links_behind, first_link, other_links}

pub truth : (b : Bool) → (b ≡ true) ⊎ (b ≡ false)
truth true = inl refl
truth false = inr refl

pub below_or_not : (a b : ℕ) → (a < b) ⊎ (b ≤ a)
below_or_not a b = elim (truth (nat_lt a b)) [ inl e ↦ inl (grind (arith, nat_tests, e)) | inr e ↦ inr (grind (arith, nat_tests, e)) ]

pub same_or_not : (a b : ℕ) → (a ≡ b) ⊎ (a ≡ b → ⊥)
same_or_not a b = elim (truth (nat_eq a b)) [ inl e ↦ inl (grind (arith, nat_tests, e)) | inr e ↦ inr (grind (arith, nat_tests, e)) ]

zero_at : (n i : ℕ) → get_or {A = ℕ} (replicate n 0) i 0 ≡ 0
zero_at n i = elim (below_or_not i n) [
  | inl low ↦ get_or-replicate n i 0 0 low
  | inr high ↦ get_or_past (replicate n 0) i 0 (omega (arith, high, length-replicate {A = ℕ} n 0))
]

-- so many words and then zeros
padded : (n : ℕ) (words : List ℕ) (zeros i : ℕ) → i < n → get_or (take n words ++ replicate zeros 0) i 0 ≡ get_or words i 0
padded n words zeros i low = elim (below_or_not i (length words)) [
  | inl some ↦ get_or-append (take n words) (replicate zeros 0) 0 i (omega (arith, low, some, length-take n words)) ∙ get_or-take n words i 0 low
  | inr past ↦
      get_or-append_right (take n words) (replicate zeros 0) (length (take n words)) i 0 refl (omega (arith, low, past, length-take n words))
      ∙ zero_at zeros (i - length (take n words)) ∙ sym (get_or_past words i 0 past)
]

length-seven : (words : List ℕ) → length (take 7 words ++ replicate (7 - length words) 0) ≡ 7
length-seven words = omega (arith, length-append (take 7 words) (replicate (7 - length words) 0), length-take 7 words, length-replicate {A = ℕ} (7 - length words) 0)

eight_slot : (words : List ℕ) (next i : ℕ) → i < 7 → get_or (eight_words words next) i 0 ≡ get_or words i 0
eight_slot words next i low =
    get_or-append (take 7 words ++ replicate (7 - length words) 0) (next ∷ []) 0 i (omega (arith, low, length-seven words)) ∙ padded 7 words (7 - length words) i low

eight_link : (words : List ℕ) (next : ℕ) → get_or (eight_words words next) 7 0 ≡ next
eight_link words next = get_or-append_right (take 7 words ++ replicate (7 - length words) 0) (next ∷ []) 7 7 0 (length-seven words) (omega arith)

length-eight : (words : List ℕ) (next : ℕ) → length (eight_words words next) ≡ 8
length-eight words next = omega (arith, length-append (take 7 words ++ replicate (7 - length words) 0) (next ∷ []), length-seven words)

length-link : (words : List ℕ) (taken j : ℕ) → length (link_words words taken j) ≡ 8
unfolding link_words
length-link words taken j = length-eight (drop (7 * j) words) _

-- slot i of link j, and what link j leads to
pub link_slot : (words : List ℕ) (taken j i : ℕ) → i < 7 → get_or (link_words words taken j) i 0 ≡ get_or words (7 * j + i) 0
unfolding link_words
link_slot words taken j i low = eight_slot (drop (7 * j) words) _ i low ∙ get_or-drop (7 * j) words i 0

pub link_next : (words : List ℕ) (taken j : ℕ) → get_or (link_words words taken j) 7 0 ≡ (if nat_lt j (needed (length words)) then taken + j + 1 else 0)
unfolding link_words
link_next words taken j = eight_link (drop (7 * j) words) _

length-behind : (words : List ℕ) (taken n : ℕ) → length (links_behind words taken n) ≡ 8 * n
unfolding links_behind
length-behind words taken zero = refl
length-behind words taken (suc n) = omega (arith, length-append (links_behind words taken n) (link_words words taken (suc n)), length-behind words taken n, length-link words taken (suc n))

behind_at : (words : List ℕ) (taken n j i : ℕ) → j < n → i < 8 → get_or (links_behind words taken n) (8 * j + i) 0 ≡ get_or (link_words words taken (suc j)) i 0
unfolding links_behind
behind_at words taken zero j i low few = absurd (omega (arith, low))
behind_at words taken (suc n) j i low few = elim (below_or_not j n) [
  | inl before ↦
      get_or-append (links_behind words taken n) (link_words words taken (suc n)) 0 (8 * j + i) (omega (arith, before, few, length-behind words taken n)) ∙ behind_at words taken n j i before few
  | inr last ↦
      let same : n ≡ j = omega (arith, low, last) in
      let left : 8 * j + i - 8 * n ≡ i = omega (arith, same) in
      get_or-append_right (links_behind words taken n) (link_words words taken (suc n)) (8 * n) (8 * j + i) 0 (length-behind words taken n) (omega (arith, same))
      ∙ ap (λ k. get_or (link_words words taken (suc n)) k 0) left ∙ ap (λ k. get_or (link_words words taken (suc k)) i 0) same
]

-- how many overflow buckets the chains before chain b take
unfoldable pub below_chain : List (List ℕ) → ℕ → ℕ
below_chain [] b = 0
below_chain (c ∷ chains) zero = 0
below_chain (c ∷ chains) (suc b) = needed (length c) + below_chain chains b

pub below_start : (chains : List (List ℕ)) → below_chain chains 0 ≡ 0
unfolding below_chain
below_start [] = refl
below_start (c ∷ chains) = refl

pub below_step : (chains : List (List ℕ)) (b : ℕ) → below_chain chains (suc b) ≡ below_chain chains b + needed (length (get_or chains b []))
unfolding below_chain
below_step [] b = refl
below_step (c ∷ chains) zero = omega (arith, below_start chains)
below_step (c ∷ chains) (suc b) = omega (arith, below_step chains b)

pub below_all : (chains : List (List ℕ)) → below_chain chains (length chains) ≡ all_needed chains
unfolding below_chain all_needed
below_all [] = refl
below_all (c ∷ chains) = ap (λ n. needed (length c) + n) (below_all chains)

length-first : (taken : ℕ) (chains : List (List ℕ)) → length (filled_by first_link taken chains) ≡ 8 * length chains
unfolding filled_by
length-first taken [] = refl
length-first taken (c ∷ chains) =
    let here = length-link c taken 0 in
    let rest = length-first (taken + needed (length c)) chains in
    omega (arith, length-append (first_link c taken) (filled_by first_link (taken + needed (length c)) chains), here, rest)

length-others : (taken : ℕ) (chains : List (List ℕ)) → length (filled_by other_links taken chains) ≡ 8 * all_needed chains
unfolding filled_by all_needed
length-others taken [] = refl
length-others taken (c ∷ chains) =
    let here = length-behind c taken (needed (length c)) in
    let rest = length-others (taken + needed (length c)) chains in
    omega (arith, length-append (other_links c taken) (filled_by other_links (taken + needed (length c)) chains), here, rest)

first_at : (taken : ℕ) (chains : List (List ℕ)) (b i : ℕ) → b < length chains → i < 8
    → get_or (filled_by first_link taken chains) (8 * b + i) 0 ≡ get_or (link_words (get_or chains b []) (taken + below_chain chains b) 0) i 0
unfolding filled_by below_chain
first_at taken [] b i low few = absurd (omega (arith, low))
first_at taken (c ∷ chains) zero i low few =
    let here : 8 * 0 + i ≡ i = omega arith in
    let from : taken ≡ taken + 0 = omega arith in
    ap (λ k. get_or (first_link c taken ++ filled_by first_link (taken + needed (length c)) chains) k 0) here
    ∙ get_or-append (first_link c taken) (filled_by first_link (taken + needed (length c)) chains) 0 i (omega (arith, few, length-link c taken 0))
    ∙ ap (λ n. get_or (link_words c n 0) i 0) from
first_at taken (c ∷ chains) (suc b) i low few =
    let left : 8 * suc b + i - 8 ≡ 8 * b + i = omega arith in
    let from : taken + needed (length c) + below_chain chains b ≡ taken + (needed (length c) + below_chain chains b) = omega arith in
    get_or-append_right (first_link c taken) (filled_by first_link (taken + needed (length c)) chains) 8 (8 * suc b + i) 0 (length-link c taken 0) (omega arith)
    ∙ ap (λ k. get_or (filled_by first_link (taken + needed (length c)) chains) k 0) left
    ∙ first_at (taken + needed (length c)) chains b i (omega (arith, low)) few
    ∙ ap (λ n. get_or (link_words (get_or chains b []) n 0) i 0) from

other_at : (taken : ℕ) (chains : List (List ℕ)) (b j i : ℕ) → j < needed (length (get_or chains b [])) → i < 8
    → get_or (filled_by other_links taken chains) (8 * (below_chain chains b + j) + i) 0 ≡ get_or (link_words (get_or chains b []) (taken + below_chain chains b) (suc j)) i 0
unfolding filled_by below_chain
other_at taken [] b j i low few = absurd (omega (arith, low))
other_at taken (c ∷ chains) zero j i low few =
    let here : 8 * (0 + j) + i ≡ 8 * j + i = omega arith in
    let from : taken ≡ taken + 0 = omega arith in
    ap (λ k. get_or (other_links c taken ++ filled_by other_links (taken + needed (length c)) chains) k 0) here
    ∙ get_or-append (other_links c taken) (filled_by other_links (taken + needed (length c)) chains) 0 (8 * j + i) (omega (arith, low, few, length-behind c taken (needed (length c))))
    ∙ behind_at c taken (needed (length c)) j i low few
    ∙ ap (λ n. get_or (link_words c n (suc j)) i 0) from
other_at taken (c ∷ chains) (suc b) j i low few =
    let many : ℕ = needed (length c) in
    let left : 8 * (needed (length c) + below_chain chains b + j) + i - 8 * needed (length c) ≡ 8 * (below_chain chains b + j) + i = omega arith in
    let from : taken + needed (length c) + below_chain chains b ≡ taken + (needed (length c) + below_chain chains b) = omega arith in
    get_or-append_right (other_links c taken) (filled_by other_links (taken + needed (length c)) chains) (8 * needed (length c)) (8 * (needed (length c) + below_chain chains b + j) + i) 0
    (length-behind c taken (needed (length c))) (omega arith)
    ∙ ap (λ k. get_or (filled_by other_links (taken + needed (length c)) chains) k 0) left
    ∙ other_at (taken + needed (length c)) chains b j i low few
    ∙ ap (λ n. get_or (link_words (get_or chains b []) n (suc j)) i 0) from

-- the words of all buckets, and then of the overflow buckets
abbrev pub index_of : ℕ → List (List ℕ) → List ℕ
index_of overflow chains = filled_by first_link 0 chains ++ up_to (8 * overflow) (filled_by other_links 0 chains)

pub bucket_at : (overflow : ℕ) (chains : List (List ℕ)) (b i : ℕ) → b < length chains → i < 8
    → get_or (index_of overflow chains) (8 * b + i) 0 ≡ get_or (link_words (get_or chains b []) (below_chain chains b) 0) i 0
bucket_at overflow chains b i low few =
    get_or-append (filled_by first_link 0 chains) (up_to (8 * overflow) (filled_by other_links 0 chains)) 0 (8 * b + i) (omega (arith, low, few, length-first 0 chains))
    ∙ first_at 0 chains b i low few ∙ (let e : 0 + below_chain chains b ≡ below_chain chains b = omega arith in ap (λ n. get_or (link_words (get_or chains b []) n 0) i 0) e)

behind_buckets : (overflow : ℕ) (chains : List (List ℕ)) (n i : ℕ) → n < overflow → i < 8
    → get_or (index_of overflow chains) (8 * (length chains + n) + i) 0 ≡ get_or (filled_by other_links 0 chains) (8 * n + i) 0
behind_buckets overflow chains n i low few =
    let left : 8 * (length chains + n) + i - 8 * length chains ≡ 8 * n + i = omega arith in
    get_or-append_right (filled_by first_link 0 chains) (up_to (8 * overflow) (filled_by other_links 0 chains)) (8 * length chains) (8 * (length chains + n) + i) 0 (length-first 0 chains) (omega arith)
    ∙ ap (λ k. get_or (up_to (8 * overflow) (filled_by other_links 0 chains)) k 0) left
    ∙ padded (8 * overflow) (filled_by other_links 0 chains) (8 * overflow - length (filled_by other_links 0 chains)) (8 * n + i) (omega (arith, low, few))

pub overflow_at : (overflow : ℕ) (chains : List (List ℕ)) (b j i : ℕ) → below_chain chains b + j < overflow → j < needed (length (get_or chains b [])) → i < 8
    → get_or (index_of overflow chains) (8 * (length chains + (below_chain chains b + j)) + i) 0 ≡ get_or (link_words (get_or chains b []) (below_chain chains b) (suc j)) i 0
overflow_at overflow chains b j i room low few =
    behind_buckets overflow chains (below_chain chains b + j) i room few ∙ other_at 0 chains b j i low few
    ∙ (let e : 0 + below_chain chains b ≡ below_chain chains b = omega arith in ap (λ n. get_or (link_words (get_or chains b []) n (suc j)) i 0) e)

pub nothing_at : (overflow : ℕ) (chains : List (List ℕ)) (n i : ℕ) → all_needed chains ≤ n → n < overflow → i < 8 → get_or (index_of overflow chains) (8 * (length chains + n) + i) 0 ≡ 0
nothing_at overflow chains n i past room few =
    behind_buckets overflow chains n i room few ∙ get_or_past (filled_by other_links 0 chains) (8 * n + i) 0 (omega (arith, past, length-others 0 chains))
