-- What a copy has at each step, while the index grows.
use Rattle.std.proofs.Common.{◌≡◌, ℕ, ◌+◌, ◌*◌, ◌^◌, ◌<◌, ◌≤◌, ◌⊎◌, List, [], ◌∷◌, ◌++◌, length, refl, inl, inr, arith, sym, ap, ◌∙◌, subst, append-nil, append_assoc, Bool, true, false}
use Rattle.std.specs.Prelude.{slice_index, nat_lt, if◌then◌else◌}
use Rattle.std.specs.List.{AllByRecursion}
use Rattle.std.proofs.lemmas.Bool.Decides.{nat_tests}
use Rattle.fkv_plane.specs.declared.places.Places.{Places}
use Rattle.fkv_plane.specs.Places.{bucket_place}
use Rattle.fkv_plane.specs.Asked.{word_at}
use Rattle.fkv_index.specs.declared.homes.Home.{Home}
use Rattle.fkv_index.specs.Slots.{entry_addr, entry_tag}
use Rattle.fkv_index.specs.Buckets.{bucket_words, overflow_bucket, IsAmong}
use Rattle.fkv_index.specs.OneEntry.{IsSlotWord, IsIndex, KeepsLists, Grows}
use Rattle.fkv_index.specs.SlotOrders.{slot_order, HasTagsOnce}
use Rattle.fkv_index.proofs.Shown.{IsDeep, deep_few, deep_first, deep_more, among_real}
use Rattle.fkv_checkpoint.specs.declared.copying.CopyStep.{CopyStep}
use Rattle.fkv_checkpoint.specs.declared.copying.CopyStep.TheVariants.{Ended, LoadsSlot, LoadsLink}
use Rattle.fkv_checkpoint.specs.declared.copying.Copying.{Copying}
use Rattle.fkv_checkpoint.specs.Triples.{CopiedEntry}
use Rattle.fkv_checkpoint.specs.Copying.{bucket_entered, first_copying, slot_copied}
use Rattle.fkv_checkpoint.specs.Fuzzy.{AreApart, HasCopy}
use Rattle.fkv_checkpoint.proofs.SlotPlaces.{truth, order_long, deep_word, HasGrown, order_keeps}
use Rattle.fkv_checkpoint.proofs.Links.{total, total_none, total_grows}

-- The load stands at a place of the order of its bucket's slots, so many links from the bucket. It may follow as many more links as lie
-- ahead.
pub record StandsIn (p : Places) (lists : ℕ → List ℕ) (base its_bucket links slot k : ℕ) : Type 0 where
  pub bucket : ℕ
  pub depth : ℕ
  pub its_base : base ≡ bucket_place p bucket 0
  pub deep : IsDeep p.buckets its_bucket (lists its_bucket) bucket depth
  pub its_slot : k ≡ 7 * depth + slot
  pub budget : p.overflow ≤ links + depth + total lists its_bucket

-- the bucket and the place in its order of what is loaded next; at the end all is behind
abbrev pub StandsHere : Places → (ℕ → List ℕ) → Copying → CopyStep → ℕ → ℕ → Type 0
StandsHere p lists c Ended b k = (b ≡ p.buckets) × (k ≡ 0)
StandsHere p lists c (LoadsSlot slot) b k = (b ≡ c.bucket) × (c.bucket < p.buckets) × (slot < 7) × StandsIn p lists c.base c.bucket c.links slot k
StandsHere p lists c LoadsLink b k = (b ≡ c.bucket) × (c.bucket < p.buckets) × StandsIn p lists c.base c.bucket c.links 7 k

-- a place before another, in the order of the copy
abbrev pub IsBefore : ℕ → ℕ → ℕ → ℕ → Type 0
IsBefore o j b k = (o < b) ⊎ ((o ≡ b) × (j < k))

-- a triple comes from a place that the copy has passed, where an entry of its tag is
pub record IsTold (p : Places) (words : List ℕ) (lists : ℕ → List ℕ) (b k : ℕ) (e : CopiedEntry) : Type 0 where
  pub place : ℕ
  pub few : e.home.bucket < p.buckets
  pub in_order : place < length (slot_order p words lists e.home.bucket)
  pub passed : IsBefore e.home.bucket place b k
  pub some : slice_index (slot_order p words lists e.home.bucket) place ≡ 0 → ⊥
  pub its_tag : entry_tag (slice_index (slot_order p words lists e.home.bucket) place) ≡ e.home.tag

-- the entry that a word is, of a bucket
abbrev pub home_at : ℕ → ℕ → Home
home_at bucket word = record { bucket = bucket; tag = entry_tag word }

-- what a copy has, with the words as they were when it began, and as they are
pub record IsCopied (p : Places) (first : List ℕ) (first_lists : ℕ → List ℕ) (words : List ℕ) (lists : ℕ → List ℕ) (c : Copying) (step : CopyStep) (triples : List CopiedEntry) : Type 0 where
  pub bucket : ℕ
  pub place : ℕ
  pub stands : StandsHere p lists c step bucket place
  pub grown : HasGrown p first words first_lists lists
  -- each entry that was there at first, at a place that the copy has passed, was copied
  pub covers : (o j : ℕ) → o < p.buckets → j < length (slot_order p first first_lists o) → IsBefore o j bucket place → (slice_index (slot_order p first first_lists o) j ≡ 0 → ⊥)
      → HasCopy triples (home_at o (slice_index (slot_order p first first_lists o) j)) (entry_addr (slice_index (slot_order p first first_lists o) j))
  pub told : AllByRecursion (IsTold p words lists bucket place) triples
  pub apart : AreApart triples

pub all_more : (P Q : CopiedEntry → Type 0) (xs : List CopiedEntry) → ((e : CopiedEntry) → P e → Q e) → AllByRecursion P xs → AllByRecursion Q xs
all_more P Q [] more all = tt
all_more P Q (x ∷ xs) more all = (more x all.0, all_more P Q xs more all.1)

pub all_last : (P : CopiedEntry → Type 0) (xs : List CopiedEntry) (e : CopiedEntry) → AllByRecursion P xs → P e → AllByRecursion P (xs ++ e ∷ [])
all_last P [] e all its = (its, tt)
all_last P (x ∷ xs) e all its = (all.0, all_last P xs e all.1 its)

apart_last : (xs : List CopiedEntry) (e : CopiedEntry) → AreApart xs → AllByRecursion (λ x. e.home ≡ x.home → ⊥) xs → AreApart (xs ++ e ∷ [])
apart_last [] e apart other = (tt, tt)
apart_last (x ∷ xs) e apart other = (all_last (λ o. o.home ≡ x.home → ⊥) xs e apart.0 other.0, apart_last xs e apart.1 other.1)

has_more : (xs ys : List CopiedEntry) (home : Home) (addr : ℕ) → HasCopy xs home addr → HasCopy (xs ++ ys) home addr
has_more [] ys home addr has = absurd has
has_more (x ∷ xs) ys home addr (inl here) = inl here
has_more (x ∷ xs) ys home addr (inr there) = inr (has_more xs ys home addr there)

has_last : (xs : List CopiedEntry) (e : CopiedEntry) (home : Home) (addr : ℕ) → e.home ≡ home → addr ≤ e.addr → HasCopy (xs ++ e ∷ []) home addr
has_last [] e home addr same low = inl (same, low)
has_last (x ∷ xs) e home addr same low = inr (has_last xs e home addr same low)

-- as the index grows
in_grown : (p : Places) (lists after : ℕ → List ℕ) (base c links slot k : ℕ) → KeepsLists lists after → StandsIn p lists base c links slot k → StandsIn p after base c links slot k
in_grown p lists after base c links slot k kept its = record {
  bucket = its.bucket;
  depth = its.depth;
  its_base = its.its_base;
  deep = let more = kept c in subst (λ x. IsDeep p.buckets c x its.bucket its.depth) (sym more.1) (deep_more p.buckets c (lists c) more.0 its.bucket its.depth its.deep);
  its_slot = its.its_slot;
  budget = let h = its.budget in let rises = total_grows lists after c kept in omega (arith, h, rises);
}

stands_grown : (p : Places) (lists after : ℕ → List ℕ) (c : Copying) (step : CopyStep) (b k : ℕ) → KeepsLists lists after → StandsHere p lists c step b k → StandsHere p after c step b k
stands_grown p lists after c Ended b k kept its = its
stands_grown p lists after c (LoadsSlot slot) b k kept its = (its.0, its.1, its.2, in_grown p lists after c.base c.bucket c.links slot k kept its.3)
stands_grown p lists after c LoadsLink b k kept its = (its.0, its.1, in_grown p lists after c.base c.bucket c.links 7 k kept its.2)

pub grown_none : (p : Places) (words : List ℕ) (lists : ℕ → List ℕ) → HasGrown p words words lists lists
grown_none p words lists = record { its_entries = λ m i real low some. (some, refl, omega arith); its_lists = λ c. ([], sym (append-nil (lists c))) }

grown_on : (p : Places) (first words after : List ℕ) (first_lists lists lists' : ℕ → List ℕ) → HasGrown p first words first_lists lists → Grows p words after lists lists' → HasGrown p first after first_lists lists'
grown_on p first words after first_lists lists lists' grown grows = record {
  its_entries = λ m i real low some.
      let a = grown.its_entries m i real low some in
      let b = grows.its_entries m i real low a.0 in
      let x = a.2 in
      let y = b.2 in
      (b.0, b.1 ∙ a.1, omega (arith, x, y));
  its_lists = λ c.
      let a = grown.its_lists c in
      let b = grows.its_lists c in
      (a.0 ++ b.0, b.1 ∙ ap (λ x. x ++ b.0) a.1 ∙ append_assoc (first_lists c) a.0 b.0);
}

pub index_grown : (p : Places) (first words after : List ℕ) (first_lists lists lists' : ℕ → List ℕ) (spares : ℕ → ℕ) (c : Copying) (step : CopyStep) (triples : List CopiedEntry) → IsIndex p words lists spares → Grows p words after lists lists'
    → IsCopied p first first_lists words lists c step triples → IsCopied p first first_lists after lists' c step triples
index_grown p first words after first_lists lists lists' spares c step triples index grows its = record {
  bucket = its.bucket;
  place = its.place;
  stands = stands_grown p lists lists' c step its.bucket its.place grows.its_lists its.stands;
  grown = grown_on p first words after first_lists lists lists' its.grown grows;
  covers = its.covers;
  told = all_more (IsTold p words lists its.bucket its.place) (IsTold p after lists' its.bucket its.place) triples still its.told;
  apart = its.apart;
}
  where
    still : (e : CopiedEntry) → IsTold p words lists its.bucket its.place e → IsTold p after lists' its.bucket its.place e
    still e told =
        let kept = order_keeps p words after lists lists' spares e.home.bucket told.place index (record { its_entries = grows.its_entries; its_lists = grows.its_lists }) told.few told.in_order in
        let now = kept.1 told.some in
        record { place = told.place; few = told.few; in_order = kept.0; passed = told.passed; some = now.0; its_tag = now.1 ∙ told.its_tag }

-- a copy begins at a bucket
pub entered_stands : (p : Places) (lists : ℕ → List ℕ) (c : Copying) (bucket : ℕ) → bucket ≤ p.buckets → p.overflow ≤ c.links + total lists bucket → StandsHere p lists (bucket_entered p c bucket) (bucket_entered p c bucket).step bucket 0
entered_stands p lists c bucket low budget = cases (nat_lt bucket p.buckets) refl
  where
    cases : (b : Bool) → nat_lt bucket p.buckets ≡ b
        → StandsHere p lists (if b then record c { bucket = bucket; base = bucket_place p bucket 0; step = LoadsSlot 0 } else record c { step = Ended }) (if b then record c { bucket = bucket; base = bucket_place p bucket 0; step = LoadsSlot 0 } else record c { step = Ended }).step bucket 0
    cases true e = (refl, grind (arith, nat_tests, e), omega arith, record { bucket = bucket; depth = 0; its_base = refl; deep = deep_first p.buckets bucket (lists bucket); its_slot = omega arith; budget = omega (arith, budget) })
    cases false e = (grind (arith, nat_tests, e, low), refl)

pub copy_begins : (p : Places) (words : List ℕ) (lists : ℕ → List ℕ) → IsCopied p words lists words lists (first_copying p) (first_copying p).step []
copy_begins p words lists = record {
  bucket = 0;
  place = 0;
  stands = let none = total_none lists in entered_stands p lists (record { bucket = 0; base = 0; links = p.overflow; step = Ended }) 0 (omega arith) (omega (arith, none));
  grown = grown_none p words lists;
  covers = λ o j few low passed some. elim passed [
    | inl h ↦ absurd (omega (arith, h))
    | inr h ↦ let none = h.1 in absurd (omega (arith, none))
  ];
  told = tt;
  apart = tt;
}

-- an entry is copied, and an empty slot is not
pub slot_cases : (bucket word : ℕ) → IsSlotWord word → ((word ≡ 0) × (slot_copied bucket word ≡ [])) ⊎ ((word ≡ 0 → ⊥) × (entry_tag word < 2 ^ 15) × (slot_copied bucket word ≡ record { home = home_at bucket word; addr = entry_addr word } ∷ []))
unfolding slot_copied
slot_cases bucket word (inl none) = let e : nat_lt 0 (entry_addr word) ≡ false = grind (arith, nat_tests, none) in inl (none, rw e refl)
slot_cases bucket word (inr its) =
    let low = its.0 in
    let fits = its.1 in
    let a : nat_lt 0 (entry_addr word) ≡ true = grind (arith, nat_tests, low) in
    let b : nat_lt (entry_tag word) (2 ^ 15) ≡ true = grind (arith, nat_tests, fits) in
    inr ((λ none. omega (arith, none, low)), fits, rw (a, b) refl)

-- the word that a copy loads from a slot
abbrev pub LoadedWord : Places → List ℕ → (ℕ → List ℕ) → ℕ → ℕ → ℕ → Type 0
LoadedWord p words lists bucket k word = (k < length (slot_order p words lists bucket)) × (slice_index (slot_order p words lists bucket) k ≡ word) × IsSlotWord word

pub deep_among : (k c : ℕ) (list : List ℕ) (m d : ℕ) → IsDeep k c list m d → IsAmong k c list m
deep_among k c [] m d deep = deep.0
deep_among k c (n ∷ rest) m d (inl here) = inl here.0
deep_among k c (n ∷ rest) m d (inr there) = inr (deep_among k (overflow_bucket k n) rest m there.0 there.2)

pub slot_loaded : (p : Places) (words : List ℕ) (lists : ℕ → List ℕ) (spares : ℕ → ℕ) (base bucket links slot k : ℕ) → IsIndex p words lists spares → bucket < p.buckets → slot < 7 → StandsIn p lists base bucket links slot k
    → LoadedWord p words lists bucket k (word_at words (base + slot))
slot_loaded p words lists spares base bucket links slot k index few low its =
    let there : base + slot ≡ bucket_place p its.bucket slot = (let e = its.its_base in omega (arith, e)) in
    let word : word_at words (base + slot) ≡ bucket_words p words its.bucket slot = ap (word_at words) there in
    let deep = deep_few p.buckets bucket (lists bucket) its.bucket its.depth its.deep in
    let long = order_long p.buckets (bucket_words p words) bucket (lists bucket) in
    let at = its.its_slot in (
      omega (arith, long, deep, at, low),
      deep_word p.buckets (bucket_words p words) bucket (lists bucket) its.bucket its.depth slot k its.deep low its.its_slot ∙ sym word,
      subst IsSlotWord (sym word) (index.entries its.bucket slot (among_real bucket its.bucket index few (deep_among p.buckets bucket (lists bucket) its.bucket its.depth its.deep)) low),
    )

-- one place further, or not
further : (o j b k : ℕ) → IsBefore o j b (k + 1) → IsBefore o j b k ⊎ ((o ≡ b) × (j ≡ k))
further o j b k (inl low) = inl (inl low)
further o j b k (inr here) = elim (truth (nat_lt j k)) [
  | inl e ↦ inl (inr (here.0, grind (arith, nat_tests, e)))
  | inr e ↦ let low = here.1 in inr (here.0, grind (arith, nat_tests, e, low))
]

pub told_further : (p : Places) (words : List ℕ) (lists : ℕ → List ℕ) (b k b' k' : ℕ) → ((o j : ℕ) → o < p.buckets → j < length (slot_order p words lists o) → IsBefore o j b k → IsBefore o j b' k') → (e : CopiedEntry) → IsTold p words lists b k e → IsTold p words lists b' k' e
told_further p words lists b k b' k' more e its = record { place = its.place; few = its.few; in_order = its.in_order; passed = more e.home.bucket its.place its.few its.in_order its.passed; some = its.some; its_tag = its.its_tag }

one_more : (o j b k : ℕ) → IsBefore o j b k → IsBefore o j b (k + 1)
one_more o j b k (inl low) = inl low
one_more o j b k (inr here) = let low = here.1 in inr (here.0, omega (arith, low))

-- no triple that was copied before is of the home that is loaded
is_new : (p : Places) (words : List ℕ) (lists : ℕ → List ℕ) (b k word : ℕ) → ((c : ℕ) → c < p.buckets → HasTagsOnce (slot_order p words lists c)) → LoadedWord p words lists b k word → (word ≡ 0 → ⊥) → (x : CopiedEntry) → IsTold p words lists b k x → home_at b word ≡ x.home → ⊥
is_new p words lists b k word once loaded some x told same = apart x.home.bucket (ap (λ (h : Home). h.bucket) same) told.place told.few told.in_order told.passed told.some (told.its_tag ∙ sym (ap (λ (h : Home). h.tag) same))
  where
    apart : (c : ℕ) → b ≡ c → (j : ℕ) → c < p.buckets → j < length (slot_order p words lists c) → IsBefore c j b k → (slice_index (slot_order p words lists c) j ≡ 0 → ⊥) → entry_tag (slice_index (slot_order p words lists c) j) ≡ entry_tag word → ⊥
    apart c here j few low (inl before) full its = absurd (omega (arith, here, before))
    apart c here j few low (inr before) full its =
        let there : LoadedWord p words lists c k word = subst (λ x. LoadedWord p words lists x k word) here loaded in
        let e = once c few j k low there.0 full (λ none. some (sym there.1 ∙ none)) (its ∙ ap entry_tag (sym there.1)) in
        let less = before.1 in
        omega (arith, e, less)

-- a slot was loaded
pub slot_copies : (p : Places) (first words : List ℕ) (first_lists lists : ℕ → List ℕ) (spares : ℕ → ℕ) (triples : List CopiedEntry) (b k word : ℕ) → IsIndex p first first_lists spares → b < p.buckets → ((c : ℕ) → c < p.buckets → HasTagsOnce (slot_order p words lists c)) → HasGrown p first words first_lists lists → LoadedWord p words lists b k word
    → ((o j : ℕ) → o < p.buckets → j < length (slot_order p first first_lists o) → IsBefore o j b k → (slice_index (slot_order p first first_lists o) j ≡ 0 → ⊥) → HasCopy triples (home_at o (slice_index (slot_order p first first_lists o) j)) (entry_addr (slice_index (slot_order p first first_lists o) j)))
    → AllByRecursion (IsTold p words lists b k) triples → AreApart triples
    → ((o j : ℕ) → o < p.buckets → j < length (slot_order p first first_lists o) → IsBefore o j b (k + 1) → (slice_index (slot_order p first first_lists o) j ≡ 0 → ⊥) → HasCopy (triples ++ slot_copied b word) (home_at o (slice_index (slot_order p first first_lists o) j)) (entry_addr (slice_index (slot_order p first first_lists o) j)))
    × AllByRecursion (IsTold p words lists b (k + 1)) (triples ++ slot_copied b word) × AreApart (triples ++ slot_copied b word)
slot_copies p first words first_lists lists spares triples b k word index few once grown loaded covers told apart = elim (slot_cases b word loaded.2) [
  | inl none ↦ rw none.1 (rw (append-nil triples) (
    (λ o j low in_order passed some. elim (further o j b k passed) [
      | inl before ↦ covers o j low in_order before some
      | inr here ↦ absurd (was_there o j low in_order here.0 here.1 some none.0)
    ]),
    all_more (IsTold p words lists b k) (IsTold p words lists b (k + 1)) triples (told_further p words lists b k b (k + 1) (λ o j low in_order before. one_more o j b k before)) told,
    apart,
  ))
  | inr entry ↦ rw entry.2 (
    (λ o j low in_order passed some. elim (further o j b k passed) [
      | inl before ↦ has_more triples (record { home = home_at b word; addr = entry_addr word } ∷ []) _ _ (covers o j low in_order before some)
      | inr here ↦
          let now = is_there o j low in_order here.0 here.1 some in
          has_last triples (record { home = home_at b word; addr = entry_addr word }) _ _ (homes_same b o word _ (sym here.0) now.1) now.2
    ]),
    all_last (IsTold p words lists b (k + 1)) triples (record { home = home_at b word; addr = entry_addr word })
        (all_more (IsTold p words lists b k) (IsTold p words lists b (k + 1)) triples (told_further p words lists b k b (k + 1) (λ o j low in_order before. one_more o j b k before)) told)
        (record { place = k; few = few; in_order = loaded.0; passed = inr (refl, omega arith); some = λ none. entry.0 (sym loaded.1 ∙ none); its_tag = ap entry_tag loaded.1 }),
    apart_last triples (record { home = home_at b word; addr = entry_addr word }) apart
        (all_more (IsTold p words lists b k) (λ x. home_at b word ≡ x.home → ⊥) triples (is_new p words lists b k word once loaded entry.0) told),
  )
]
  where
    -- what stood there at first stands there yet
    is_there : (o j : ℕ) → o < p.buckets → j < length (slot_order p first first_lists o) → o ≡ b → j ≡ k → (slice_index (slot_order p first first_lists o) j ≡ 0 → ⊥)
        → (word ≡ 0 → ⊥) × (entry_tag word ≡ entry_tag (slice_index (slot_order p first first_lists o) j)) × (entry_addr (slice_index (slot_order p first first_lists o) j) ≤ entry_addr word)
    is_there o j low in_order same at some =
        let kept = (order_keeps p first words first_lists lists spares o j index grown low in_order).1 some in
        let now : slice_index (slot_order p words lists o) j ≡ word = ap (slice_index (slot_order p words lists o)) at ∙ ap (λ x. slice_index (slot_order p words lists x) k) same ∙ loaded.1 in
        subst (λ x. (x ≡ 0 → ⊥) × (entry_tag x ≡ entry_tag (slice_index (slot_order p first first_lists o) j)) × (entry_addr (slice_index (slot_order p first first_lists o) j) ≤ entry_addr x)) now kept

    was_there : (o j : ℕ) → o < p.buckets → j < length (slot_order p first first_lists o) → o ≡ b → j ≡ k → (slice_index (slot_order p first first_lists o) j ≡ 0 → ⊥) → word ≡ 0 → ⊥
    was_there o j low in_order same at some none = (is_there o j low in_order same at some).0 none

    homes_same : (x y word first : ℕ) → x ≡ y → entry_tag word ≡ entry_tag first → home_at x word ≡ home_at y first
    homes_same x y word first same its = ap (λ n. record { bucket = n; tag = entry_tag word }) same ∙ ap (λ n. record { bucket = y; tag = n }) its
