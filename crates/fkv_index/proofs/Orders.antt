-- The order of a bucket's slots: how a search goes along it, and what stays of it as words change.
use Rattle.std.proofs.Common.{◌≡◌, ℕ, suc, ◌+◌, ◌<◌, ◌≤◌, ◌⊎◌, List, [], ◌∷◌, ◌++◌, length, refl, inl, inr, arith, sym, ◌∙◌, subst, Bool, true, false}
use Rattle.std.specs.Prelude.{nat_lt, ◌==◌}
use Rattle.std.proofs.lemmas.Bool.Decides.{nat_tests}
use Rattle.fkv_index.specs.Slots.{entry_tag, link_of}
use Rattle.fkv_index.specs.Buckets.{overflow_bucket, IsLinked, IsAmong, IsFull, FillsUp, AreFilled, HasOneEntry, IsOther, AreOthers, HasPassed, IsMember, IsOnce}

pub truth : (b : Bool) → (b ≡ true) ⊎ (b ≡ false)
truth true = inl refl
truth false = inr refl

-- below, or the same
pub below_or_same : (j i : ℕ) → j < i + 1 → (j < i) ⊎ (j ≡ i)
below_or_same j i h = elim (truth (nat_lt j i)) [
  | inl e ↦ inl (grind (arith, nat_tests, e))
  | inr e ↦ inr (grind (arith, nat_tests, e))
]

pub same_or_not : (i j : ℕ) → (i ≡ j) ⊎ (i ≡ j → ⊥)
same_or_not i j = elim (truth (i == j)) [
  | inl e ↦ inl (grind (arith, nat_tests, e))
  | inr e ↦ inr (grind (arith, nat_tests, e))
]

-- a search stands in a bucket of the list
pub passed_among : (k : ℕ) (g : ℕ → ℕ → ℕ) (tag c : ℕ) (list : List ℕ) (m i : ℕ) → HasPassed k g tag c list m i → IsAmong k c list m
passed_among k g tag c [] m i h = h.0
passed_among k g tag c (n ∷ rest) m i (inl h) = inl h.0
passed_among k g tag c (n ∷ rest) m i (inr h) = inr (passed_among k g tag (overflow_bucket k n) rest m i h.1)

pub passed_here : (k : ℕ) (g : ℕ → ℕ → ℕ) (tag c : ℕ) (list : List ℕ) (m i : ℕ) → m ≡ c → AreOthers g tag c i → HasPassed k g tag c list m i
passed_here k g tag c [] m i same others = (same, others)
passed_here k g tag c (n ∷ rest) m i same others = inl (same, others)

-- the slots of its own bucket that it has passed
pub passed_row : (k : ℕ) (g : ℕ → ℕ → ℕ) (tag c : ℕ) (list : List ℕ) (m i : ℕ) → HasPassed k g tag c list m i → AreOthers g tag m i
passed_row k g tag c [] m i h = subst (λ x. AreOthers g tag x i) (sym h.0) h.1
passed_row k g tag c (n ∷ rest) m i (inl h) = subst (λ x. AreOthers g tag x i) (sym h.0) h.1
passed_row k g tag c (n ∷ rest) m i (inr h) = passed_row k g tag (overflow_bucket k n) rest m i h.1

-- it begins at the first slot
pub passed_none : (k : ℕ) (g : ℕ → ℕ → ℕ) (tag c : ℕ) (list : List ℕ) → HasPassed k g tag c list c 0
passed_none k g tag c list = passed_here k g tag c list c 0 refl (λ j h. absurd (omega (arith, h)))

others_next : (g : ℕ → ℕ → ℕ) (tag c i : ℕ) → AreOthers g tag c i → IsOther tag (g c i) → AreOthers g tag c (i + 1)
others_next g tag c i others its j h = elim (below_or_same j i h) [
  | inl low ↦ others j low
  | inr same ↦ subst (λ x. IsOther tag (g c x)) (sym same) its
]

-- and goes on past an entry of another tag
pub passed_next : (k : ℕ) (g : ℕ → ℕ → ℕ) (tag c : ℕ) (list : List ℕ) (m i : ℕ) → HasPassed k g tag c list m i → IsOther tag (g m i) → HasPassed k g tag c list m (i + 1)
passed_next k g tag c [] m i h its = (h.0, others_next g tag c i h.1 (subst (λ x. IsOther tag (g x i)) h.0 its))
passed_next k g tag c (n ∷ rest) m i (inl h) its = inl (h.0, others_next g tag c i h.1 (subst (λ x. IsOther tag (g x i)) h.0 its))
passed_next k g tag c (n ∷ rest) m i (inr h) its = inr (h.0, passed_next k g tag (overflow_bucket k n) rest m i h.1 its)

-- and over a link
pub passed_link : (k : ℕ) (g : ℕ → ℕ → ℕ) (tag c : ℕ) (list : List ℕ) (m n : ℕ) → IsLinked k g c list → HasPassed k g tag c list m 7 → link_of (g m 7) ≡ n → 1 ≤ n
    → HasPassed k g tag c list (overflow_bucket k n) 0
passed_link k g tag c [] m n linked h its some =
    let none : link_of (g m 7) ≡ 0 = subst (λ x. link_of (g x 7) ≡ 0) (sym h.0) linked in
    absurd (omega (arith, none, its, some))
passed_link k g tag c (r ∷ rest) m n linked (inl h) its some =
    let next : link_of (g m 7) ≡ r = subst (λ x. link_of (g x 7) ≡ r) (sym h.0) linked.1 in
    let same : r ≡ n = sym next ∙ its in
    inr (h.1, subst (λ x. HasPassed k g tag (overflow_bucket k r) rest (overflow_bucket k x) 0) same (passed_none k g tag (overflow_bucket k r) rest))
passed_link k g tag c (r ∷ rest) m n linked (inr h) its some = inr (h.0, passed_link k g tag (overflow_bucket k r) rest m n linked.2 h.1 its some)

-- where no link follows it has passed all slots
pub passed_all : (k : ℕ) (g : ℕ → ℕ → ℕ) (tag c : ℕ) (list : List ℕ) (m : ℕ) → IsLinked k g c list → HasPassed k g tag c list m 7 → link_of (g m 7) ≡ 0
    → (o i : ℕ) → IsAmong k c list o → i < 7 → IsOther tag (g o i)
passed_all k g tag c [] m linked h none o i here low = subst (λ x. IsOther tag (g x i)) (sym here) (h.1 i low)
passed_all k g tag c (r ∷ rest) m linked (inl h) none o i here low =
    let next : link_of (g m 7) ≡ r = subst (λ x. link_of (g x 7) ≡ r) (sym h.0) linked.1 in
    let some = linked.0 in
    absurd (omega (arith, next, none, some))
passed_all k g tag c (r ∷ rest) m linked (inr h) none o i (inl here) low = subst (λ x. IsOther tag (g x i)) (sym here) (h.0 i low)
passed_all k g tag c (r ∷ rest) m linked (inr h) none o i (inr there) low = passed_all k g tag (overflow_bucket k r) rest m linked.2 h.1 none o i there low

-- the other slots, where the one that a search has come to is empty: those before it have other tags, and those behind it are empty
pub beside : (k : ℕ) (g : ℕ → ℕ → ℕ) (tag c : ℕ) (list : List ℕ) (m i : ℕ) → AreFilled k g c list → HasPassed k g tag c list m i → i < 7 → g m i ≡ 0
    → (o j : ℕ) → IsAmong k c list o → j < 7 → ((o ≡ m) × (j ≡ i)) ⊎ ((g o j ≡ 0) ⊎ IsOther tag (g o j))
beside k g tag c [] m i fills h low empty o j here few = elim (same_or_not j i) [
  | inl same ↦ inl (here ∙ sym h.0, same)
  | inr other ↦ elim (truth (nat_lt j i)) [
    | inl e ↦ let before : j < i = grind (arith, nat_tests, e) in inr (inr (subst (λ x. IsOther tag (g x j)) (sym here) (h.1 j before)))
    | inr e ↦
        let behind : i < j = grind (arith, nat_tests, e) in
        let empty_here : g c i ≡ 0 = subst (λ x. g x i ≡ 0) h.0 empty in
        inr (inl (subst (λ x. g x j ≡ 0) (sym here) (fills i j behind few empty_here)))
  ]
]
beside k g tag c (r ∷ rest) m i fills (inl h) low empty o j here few = absurd (fills.0 i low (subst (λ x. g x i ≡ 0) h.0 empty))
beside k g tag c (r ∷ rest) m i fills (inr h) low empty o j (inl here) few = inr (inr (subst (λ x. IsOther tag (g x j)) (sym here) (h.0 j few)))
beside k g tag c (r ∷ rest) m i fills (inr h) low empty o j (inr there) few = beside k g tag (overflow_bucket k r) rest m i fills.1 h.1 low empty o j there few

-- how many links lead to a bucket of the list
abbrev pub IsDeep : ℕ → ℕ → List ℕ → ℕ → ℕ → Type 0
IsDeep k c [] m d = (m ≡ c) × (d ≡ 0)
IsDeep k c (n ∷ rest) m d = ((m ≡ c) × (d ≡ 0)) ⊎ ((e : ℕ) × (d ≡ suc e) × IsDeep k (overflow_bucket k n) rest m e)

-- no bucket is deeper than the list is long
pub deep_few : (k c : ℕ) (list : List ℕ) (m d : ℕ) → IsDeep k c list m d → d ≤ length list
deep_few k c [] m d h = let none = h.1 in omega (arith, none)
deep_few k c (r ∷ rest) m d (inl h) = let none = h.1 in omega (arith, none)
deep_few k c (r ∷ rest) m d (inr h) = let one = h.1 in let few = deep_few k (overflow_bucket k r) rest m h.0 h.2 in omega (arith, one, few)

pub deep_first : (k c : ℕ) (list : List ℕ) → IsDeep k c list c 0
deep_first k c [] = (refl, refl)
deep_first k c (r ∷ rest) = inl (refl, refl)

pub deep_more : (k c : ℕ) (list more : List ℕ) (m d : ℕ) → IsDeep k c list m d → IsDeep k c (list ++ more) m d
deep_more k c [] more m d h = here more
  where
    here : (more : List ℕ) → IsDeep k c more m d
    here [] = h
    here (r ∷ rest) = inl h
deep_more k c (r ∷ rest) more m d (inl h) = inl h
deep_more k c (r ∷ rest) more m d (inr h) = inr (h.0, h.1, deep_more k (overflow_bucket k r) rest more m h.0 h.2)

-- a link leads one deeper, and not past the list
pub deep_link : (k : ℕ) (g : ℕ → ℕ → ℕ) (c : ℕ) (list : List ℕ) (m d n : ℕ) → IsLinked k g c list → IsDeep k c list m d → link_of (g m 7) ≡ n → 1 ≤ n
    → IsDeep k c list (overflow_bucket k n) (d + 1) × (d + 1 ≤ length list)
deep_link k g c [] m d n linked h its some =
    let none : link_of (g m 7) ≡ 0 = subst (λ x. link_of (g x 7) ≡ 0) (sym h.0) linked in
    absurd (omega (arith, none, its, some))
deep_link k g c (r ∷ rest) m d n linked (inl h) its some =
    let next : link_of (g m 7) ≡ r = subst (λ x. link_of (g x 7) ≡ r) (sym h.0) linked.1 in
    let same : r ≡ n = sym next ∙ its in
    let none = h.1 in
    (inr (0, omega (arith, none), subst (λ x. IsDeep k (overflow_bucket k r) rest (overflow_bucket k x) 0) same (deep_first k (overflow_bucket k r) rest)), omega (arith, none))
deep_link k g c (r ∷ rest) m d n linked (inr h) its some =
    let deeper = deep_link k g (overflow_bucket k r) rest m h.0 n linked.2 h.2 its some in
    let one = h.1 in
    let few = deeper.1 in
    (inr (h.0 + 1, omega (arith, one), deeper.0), omega (arith, one, few))

-- what stays of it while slots with entries of other tags keep such entries, and the list grows at its end
pub passed_more : (k : ℕ) (g g' : ℕ → ℕ → ℕ) (tag c : ℕ) (list more : List ℕ) (m i : ℕ) → i ≤ 7
    → ((o j : ℕ) → IsAmong k c list o → j < 7 → IsOther tag (g o j) → IsOther tag (g' o j)) → HasPassed k g tag c list m i → HasPassed k g' tag c (list ++ more) m i
passed_more k g g' tag c [] more m i few kept h = passed_here k g' tag c more m i h.0 (λ j low. kept c j refl (omega (arith, low, few)) (h.1 j low))
passed_more k g g' tag c (r ∷ rest) more m i few kept (inl h) = inl (h.0, λ j low. kept c j (inl refl) (omega (arith, low, few)) (h.1 j low))
passed_more k g g' tag c (r ∷ rest) more m i few kept (inr h) =
    inr (λ j low. kept c j (inl refl) low (h.0 j low), passed_more k g g' tag (overflow_bucket k r) rest more m i few (λ o j there. kept o j (inr there)) h.1)

-- links that stay
pub linked_same : (k : ℕ) (g g' : ℕ → ℕ → ℕ) (c : ℕ) (list : List ℕ) → ((o : ℕ) → IsAmong k c list o → link_of (g' o 7) ≡ link_of (g o 7)) → IsLinked k g c list → IsLinked k g' c list
linked_same k g g' c [] same linked = same c refl ∙ linked
linked_same k g g' c (r ∷ rest) same linked = (linked.0, same c (inl refl) ∙ linked.1, linked_same k g g' (overflow_bucket k r) rest (λ o there. same o (inr there)) linked.2)

-- one more link, at the end
pub linked_more : (k : ℕ) (g g' : ℕ → ℕ → ℕ) (c : ℕ) (list : List ℕ) (m n : ℕ) → IsLinked k g c list → IsAmong k c list m → link_of (g m 7) ≡ 0 → link_of (g' m 7) ≡ n → 1 ≤ n
    → link_of (g' (overflow_bucket k n) 7) ≡ 0 → ((o : ℕ) → IsAmong k c list o → (o ≡ m → ⊥) → link_of (g' o 7) ≡ link_of (g o 7)) → IsLinked k g' c (list ++ n ∷ [])
linked_more k g g' c [] m n linked here none its some last same = (some, subst (λ x. link_of (g' x 7) ≡ n) here its, last)
linked_more k g g' c (r ∷ rest) m n linked here none its some last same =
    (linked.0, same c (inl refl) apart ∙ linked.1, linked_more k g g' (overflow_bucket k r) rest m n linked.2 (there here) none its some last (λ o among. same o (inr among)))
  where
    apart : c ≡ m → ⊥
    apart e =
        let next : link_of (g m 7) ≡ r = subst (λ x. link_of (g x 7) ≡ r) e linked.1 in
        let first = linked.0 in
        omega (arith, next, none, first)

    there : (m ≡ c) ⊎ IsAmong k (overflow_bucket k r) rest m → IsAmong k (overflow_bucket k r) rest m
    there (inl e) = absurd (apart (sym e))
    there (inr among) = among

-- slots that stay filled
pub filled_same : (k : ℕ) (g g' : ℕ → ℕ → ℕ) (c : ℕ) (list : List ℕ) → ((o : ℕ) → IsAmong k c list o → FillsUp g o → FillsUp g' o) → ((o : ℕ) → IsAmong k c list o → IsFull g o → IsFull g' o)
    → AreFilled k g c list → AreFilled k g' c list
filled_same k g g' c [] fills full h = fills c refl h
filled_same k g g' c (r ∷ rest) fills full h = (full c (inl refl) h.0, filled_same k g g' (overflow_bucket k r) rest (λ o there. fills o (inr there)) (λ o there. full o (inr there)) h.1)

-- an empty bucket behind full ones
pub filled_more : (k : ℕ) (g : ℕ → ℕ → ℕ) (c : ℕ) (list : List ℕ) (n : ℕ) → ((o : ℕ) → IsAmong k c list o → IsFull g o) → FillsUp g (overflow_bucket k n) → AreFilled k g c (list ++ n ∷ [])
filled_more k g c [] n full last = (full c refl, last)
filled_more k g c (r ∷ rest) n full last = (full c (inl refl), filled_more k g (overflow_bucket k r) rest n (λ o there. full o (inr there)) last)

-- entries that keep their tags
pub one_entry_same : (k : ℕ) (g g' : ℕ → ℕ → ℕ) (c : ℕ) (list : List ℕ) → ((o i : ℕ) → IsAmong k c list o → i < 7 → (g' o i ≡ 0 → ⊥) → (g o i ≡ 0 → ⊥) × (entry_tag (g' o i) ≡ entry_tag (g o i)))
    → HasOneEntry k g c list → HasOneEntry k g' c list
one_entry_same k g g' c list same one m o i j here there low few some other e =
    let first = same m i here low some in
    let second = same o j there few other in
    one m o i j here there low few first.0 second.0 (sym first.1 ∙ e ∙ second.1)

-- the buckets of a list that has grown
pub among_more : (k c : ℕ) (list : List ℕ) (n o : ℕ) → IsAmong k c (list ++ n ∷ []) o → IsAmong k c list o ⊎ (o ≡ overflow_bucket k n)
among_more k c [] n o (inl here) = inl here
among_more k c [] n o (inr there) = inr there
among_more k c (r ∷ rest) n o (inl here) = inl (inl here)
among_more k c (r ∷ rest) n o (inr there) = elim (among_more k (overflow_bucket k r) rest n o there) [
  | inl among ↦ inl (inr among)
  | inr last ↦ inr last
]

pub among_kept : (k c : ℕ) (list : List ℕ) (n o : ℕ) → IsAmong k c list o → IsAmong k c (list ++ n ∷ []) o
among_kept k c [] n o here = inl here
among_kept k c (r ∷ rest) n o (inl here) = inl here
among_kept k c (r ∷ rest) n o (inr there) = inr (among_kept k (overflow_bucket k r) rest n o there)

-- a bucket of the list is the first, or one of its overflow buckets
pub among_member : (k c : ℕ) (list : List ℕ) (o : ℕ) → IsAmong k c list o → (o ≡ c) ⊎ ((n : ℕ) × IsMember n list × (o ≡ overflow_bucket k n))
among_member k c [] o here = inl here
among_member k c (r ∷ rest) o (inl here) = inl here
among_member k c (r ∷ rest) o (inr there) = elim (among_member k (overflow_bucket k r) rest o there) [
  | inl here ↦ inr (r, inl refl, here)
  | inr found ↦ inr (found.0, inr found.1, found.2)
]

pub member_more : (list : List ℕ) (n m : ℕ) → IsMember m (list ++ n ∷ []) → IsMember m list ⊎ (m ≡ n)
member_more [] n m (inl same) = inr same
member_more [] n m (inr none) = absurd none
member_more (r ∷ rest) n m (inl same) = inl (inl same)
member_more (r ∷ rest) n m (inr there) = elim (member_more rest n m there) [
  | inl found ↦ inl (inr found)
  | inr last ↦ inr last
]

pub member_kept : (list : List ℕ) (n m : ℕ) → IsMember m list → IsMember m (list ++ n ∷ [])
member_kept [] n m none = absurd none
member_kept (r ∷ rest) n m (inl same) = inl same
member_kept (r ∷ rest) n m (inr there) = inr (member_kept rest n m there)

pub member_last : (list : List ℕ) (n : ℕ) → IsMember n (list ++ n ∷ [])
member_last [] n = inl refl
member_last (r ∷ rest) n = inr (member_last rest n)

pub once_more : (list : List ℕ) (n : ℕ) → (IsMember n list → ⊥) → IsOnce list → IsOnce (list ++ n ∷ [])
once_more [] n new once = (λ none. none, tt)
once_more (r ∷ rest) n new once = (apart, once_more rest n (λ found. new (inr found)) once.1)
  where
    apart : IsMember r (rest ++ n ∷ []) → ⊥
    apart found = elim (member_more rest n r found) [
      | inl before ↦ once.0 before
      | inr last ↦ new (inl (sym last))
    ]
