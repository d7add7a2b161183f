-- What a copy has behind the last slot of a bucket, and after each of its asks.
use Rattle.std.proofs.Common.{◌≡◌, ℕ, ◌+◌, ◌<◌, ◌≤◌, ◌⊎◌, List, [], ◌∷◌, ◌++◌, length, refl, inl, inr, arith, sym, ap, ◌∙◌, subst, append-nil, Bool, true, false}
use Rattle.std.specs.Prelude.{slice_index, nat_lt, nat_le, ◌&&◌, if◌then◌else◌}
use Rattle.std.specs.List.{AllByRecursion}
use Rattle.std.proofs.lemmas.Bool.Decides.{nat_tests}
use Rattle.fkv_plane.specs.declared.places.Places.{Places}
use Rattle.fkv_plane.specs.Asked.{word_at, reply_to}
use Rattle.fkv_index.specs.Slots.{entry_addr, link_of}
use Rattle.fkv_index.specs.Buckets.{bucket_words, overflow_bucket, IsLinked}
use Rattle.fkv_index.specs.OneEntry.{IsIndex}
use Rattle.fkv_index.specs.SlotOrders.{slot_order, HasTagsOnce}
use Rattle.fkv_index.proofs.Shown.{IsDeep, deep_link, among_real}
use Rattle.fkv_checkpoint.specs.declared.copying.CopyStep.{CopyStep}
use Rattle.fkv_checkpoint.specs.declared.copying.CopyStep.TheVariants.{Ended, LoadsSlot, LoadsLink}
use Rattle.fkv_checkpoint.specs.declared.copying.Copying.{Copying}
use Rattle.fkv_checkpoint.specs.Triples.{CopiedEntry}
use Rattle.fkv_checkpoint.specs.Copying.{copy_step_ask, link_led, copy_step_next, copied_at}
use Rattle.fkv_checkpoint.specs.Fuzzy.{HasCopy}
use Rattle.fkv_checkpoint.proofs.SlotPlaces.{truth, order_long, order_keeps}
use Rattle.fkv_checkpoint.proofs.Links.{total, total_next, total_few}
use Rattle.fkv_checkpoint.proofs.CopySteps.{StandsIn, StandsHere, IsBefore, IsTold, home_at, IsCopied, all_more, deep_among, entered_stands, slot_loaded, slot_copies, told_further}

-- the last bucket of a list leads nowhere, and no other
deep_ends : (k : ℕ) (g : ℕ → ℕ → ℕ) (c : ℕ) (list : List ℕ) (m d : ℕ) → IsLinked k g c list → IsDeep k c list m d → link_of (g m 7) ≡ 0 → d ≡ length list
deep_ends k g c [] m d linked deep none = deep.1
deep_ends k g c (n ∷ rest) m d linked (inl here) none =
    let next : link_of (g m 7) ≡ n = subst (λ x. link_of (g x 7) ≡ n) (sym here.0) linked.1 in
    let some = linked.0 in
    absurd (omega (arith, next, none, some))
deep_ends k g c (n ∷ rest) m d linked (inr there) none =
    let one = there.1 in
    let ends = deep_ends k g (overflow_bucket k n) rest m there.0 linked.2 there.2 none in
    omega (arith, one, ends)

-- as many links may be followed as lie ahead
link_budget : (p : Places) (words : List ℕ) (lists : ℕ → List ℕ) (spares : ℕ → ℕ) (links depth bucket : ℕ) → IsIndex p words lists spares → p.overflow ≤ links + depth + total lists bucket → depth + 1 ≤ length (lists bucket) → 0 < links
link_budget p words lists spares links depth bucket index budget deep =
    let all = total_few p words lists spares (bucket + 1) index in
    let next = total_next lists bucket in
    omega (arith, budget, deep, all, next)

test_so : (n overflow links : ℕ) → 0 < n → n ≤ overflow → 0 < links → (nat_lt 0 n && nat_le n overflow && nat_lt 0 links) ≡ true
test_so n overflow links some few left =
    let a : nat_lt 0 n ≡ true = grind (arith, nat_tests, some) in
    let b : nat_le n overflow ≡ true = grind (arith, nat_tests, few) in
    let d : nat_lt 0 links ≡ true = grind (arith, nat_tests, left) in
    rw (a, b, d) refl

-- where a link leads, a copy stands at the same place of the order of slots; where none does, at the next bucket
link_stands : (p : Places) (words : List ℕ) (lists : ℕ → List ℕ) (spares : ℕ → ℕ) (c : Copying) (k : ℕ) → IsIndex p words lists spares → c.bucket < p.buckets → (its : StandsIn p lists c.base c.bucket c.links 7 k)
    → StandsHere p lists (link_led p c (link_of (word_at words (c.base + 7)))) (link_led p c (link_of (word_at words (c.base + 7)))).step c.bucket k
    ⊎ (StandsHere p lists (link_led p c (link_of (word_at words (c.base + 7)))) (link_led p c (link_of (word_at words (c.base + 7)))).step (c.bucket + 1) 0 × (k ≡ length (slot_order p words lists c.bucket)))
link_stands p words lists spares c k index few its = cases (link_of (word_at words (c.base + 7))) (ap link_of word)
  where
    word : word_at words (c.base + 7) ≡ bucket_words p words its.bucket 7
    word = ap (word_at words) (let e = its.its_base in omega (arith, e))

    led : (n : ℕ) → link_of (bucket_words p words its.bucket 7) ≡ n → 0 < n → StandsHere p lists (link_led p c n) (link_led p c n).step c.bucket k
    led n its_link some =
        let deeper = deep_link p.buckets (bucket_words p words) c.bucket (lists c.bucket) its.bucket its.depth n (index.linked c.bucket few) its.deep its_link some in
        let left = link_budget p words lists spares c.links its.depth c.bucket index its.budget deeper.1 in
        let real = among_real c.bucket (overflow_bucket p.buckets n) index few (deep_among p.buckets c.bucket (lists c.bucket) (overflow_bucket p.buckets n) (its.depth + 1) deeper.0) in
        let budget = its.budget in
        let at = its.its_slot in
        rw (test_so n p.overflow c.links some (omega (arith, real, some)) left)
        (refl, few, omega arith, record { bucket = overflow_bucket p.buckets n; depth = its.depth + 1; its_base = refl; deep = deeper.0; its_slot = omega (arith, at); budget = omega (arith, budget, left) })

    ended : link_of (bucket_words p words its.bucket 7) ≡ 0 → StandsHere p lists (link_led p c 0) (link_led p c 0).step (c.bucket + 1) 0 × (k ≡ length (slot_order p words lists c.bucket))
    ended none =
        let deep = deep_ends p.buckets (bucket_words p words) c.bucket (lists c.bucket) its.bucket its.depth (index.linked c.bucket few) its.deep none in
        let long = order_long p.buckets (bucket_words p words) c.bucket (lists c.bucket) in
        let at = its.its_slot in
        let next = total_next lists c.bucket in
        let budget = its.budget in
        (entered_stands p lists c (c.bucket + 1) (omega (arith, few)) (omega (arith, next, budget, deep)), omega (arith, at, deep, long))

    cases : (n : ℕ) → n ≡ link_of (bucket_words p words its.bucket 7)
        → StandsHere p lists (link_led p c n) (link_led p c n).step c.bucket k ⊎ (StandsHere p lists (link_led p c n) (link_led p c n).step (c.bucket + 1) 0 × (k ≡ length (slot_order p words lists c.bucket)))
    cases n e = elim (truth (nat_lt 0 n)) [
      | inl t ↦ inl (led n (sym e) (grind (arith, nat_tests, t)))
      | inr t ↦
          let none : n ≡ 0 = grind (arith, nat_tests, t) in
          inr (subst (λ x. StandsHere p lists (link_led p c x) (link_led p c x).step (c.bucket + 1) 0 × (k ≡ length (slot_order p words lists c.bucket))) (sym none) (ended (sym e ∙ none)))
    ]

-- the next slot, or the link
slot_stands : (p : Places) (lists : ℕ → List ℕ) (c : Copying) (slot k : ℕ) → c.bucket < p.buckets → slot < 7 → StandsIn p lists c.base c.bucket c.links slot k
    → StandsHere p lists (copy_step_next p c (LoadsSlot slot) 0) (copy_step_next p c (LoadsSlot slot) 0).step c.bucket (k + 1)
unfolding copy_step_next
slot_stands p lists c slot k few low its = cases (nat_lt (slot + 1) 7) refl
  where
    cases : (b : Bool) → nat_lt (slot + 1) 7 ≡ b → StandsHere p lists (record c { step = if b then LoadsSlot (slot + 1) else LoadsLink }) (if b then LoadsSlot (slot + 1) else LoadsLink) c.bucket (k + 1)
    cases true e = let at = its.its_slot in (refl, few, grind (arith, nat_tests, e), record { bucket = its.bucket; depth = its.depth; its_base = its.its_base; deep = its.deep; its_slot = omega (arith, at); budget = its.budget })
    cases false e =
        let at = its.its_slot in
        let last : slot ≡ 6 = grind (arith, nat_tests, e, low) in
        (refl, few, record { bucket = its.bucket; depth = its.depth; its_base = its.its_base; deep = its.deep; its_slot = omega (arith, at, last); budget = its.budget })

-- each ask of a copy
pub step_copied : (p : Places) (first words : List ℕ) (first_lists lists : ℕ → List ℕ) (first_spares spares : ℕ → ℕ) (c : Copying) (step : CopyStep) (triples : List CopiedEntry) → c.step ≡ step → IsIndex p first first_lists first_spares → IsIndex p words lists spares
    → ((o : ℕ) → o < p.buckets → HasTagsOnce (slot_order p words lists o)) → IsCopied p first first_lists words lists c step triples
    → IsCopied p first first_lists words lists (copy_step_next p c step (reply_to words (copy_step_ask c.base step))) (copy_step_next p c step (reply_to words (copy_step_ask c.base step))).step (triples ++ copied_at c step (reply_to words (copy_step_ask c.base step)))
unfolding copy_step_ask copy_step_next copied_at
step_copied p first words first_lists lists first_spares spares c Ended triples at first_index index once its =
    rw (append-nil triples) (subst (λ x. IsCopied p first first_lists words lists c x triples) (sym at) its)
step_copied p first words first_lists lists first_spares spares c (LoadsSlot slot) triples at first_index index once its =
    let here = its.stands in
    let loaded = slot_loaded p words lists spares c.base c.bucket c.links slot its.place index here.1 here.2 here.3 in
    let more = slot_copies p first words first_lists lists first_spares triples c.bucket its.place (word_at words (c.base + slot)) first_index here.1 once its.grown loaded
    (subst (λ b. (o j : ℕ) → o < p.buckets → j < length (slot_order p first first_lists o) → IsBefore o j b its.place → (slice_index (slot_order p first first_lists o) j ≡ 0 → ⊥)
    → HasCopy triples (home_at o (slice_index (slot_order p first first_lists o) j)) (entry_addr (slice_index (slot_order p first first_lists o) j))) here.0 its.covers)
    (subst (λ b. AllByRecursion (IsTold p words lists b its.place) triples) here.0 its.told) its.apart in
    record {
      bucket = c.bucket;
      place = its.place + 1;
      stands = slot_stands p lists c slot its.place here.1 here.2 here.3;
      grown = its.grown;
      covers = more.0;
      told = more.1;
      apart = more.2;
    }
step_copied p first words first_lists lists first_spares spares c LoadsLink triples at first_index index once its =
    rw (append-nil triples) (linked (link_stands p words lists spares c its.place index its.stands.1 its.stands.2))
  where
    next : Copying
    next = link_led p c (link_of (word_at words (c.base + 7)))

    back : (o j : ℕ) → its.place ≡ length (slot_order p words lists c.bucket) → j < length (slot_order p words lists o) → IsBefore o j (c.bucket + 1) 0 → IsBefore o j its.bucket its.place
    back o j whole low (inl below) = elim (truth (nat_lt o c.bucket)) [
      | inl e ↦ let here = its.stands.0 in let less : o < c.bucket = grind (arith, nat_tests, e) in inl (omega (arith, here, less))
      | inr e ↦
          let here = its.stands.0 in
          let same : o ≡ c.bucket = grind (arith, nat_tests, e, below) in
          inr (same ∙ sym here, subst (λ x. j < x) (sym whole) (subst (λ x. j < length (slot_order p words lists x)) same low))
    ]
    back o j whole low (inr none) = let h = none.1 in absurd (omega (arith, h))

    on : (o j : ℕ) → IsBefore o j its.bucket its.place → IsBefore o j (c.bucket + 1) 0
    on o j (inl below) = let here = its.stands.0 in inl (omega (arith, here, below))
    on o j (inr same) = let here = its.stands.0 in let at = same.0 in inl (omega (arith, here, at))

    linked : StandsHere p lists next next.step c.bucket its.place ⊎ (StandsHere p lists next next.step (c.bucket + 1) 0 × (its.place ≡ length (slot_order p words lists c.bucket))) → IsCopied p first first_lists words lists next next.step triples
    linked (inl stands) = record { bucket = its.bucket; place = its.place; stands = subst (λ b. StandsHere p lists next next.step b its.place) (sym its.stands.0) stands; grown = its.grown; covers = its.covers; told = its.told; apart = its.apart }
    linked (inr ends) = record {
      bucket = c.bucket + 1;
      place = 0;
      stands = ends.0;
      grown = its.grown;
      covers = λ o j few low passed some. its.covers o j few low (back o j ends.1 (order_keeps p first words first_lists lists first_spares o j first_index its.grown few low).0 passed) some;
      told = all_more (IsTold p words lists its.bucket its.place) (IsTold p words lists (c.bucket + 1) 0) triples (told_further p words lists its.bucket its.place (c.bucket + 1) 0 (λ o j few low passed. on o j passed)) its.told;
      apart = its.apart;
    }
