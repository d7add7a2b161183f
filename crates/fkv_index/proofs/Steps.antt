-- Each ask of an actor keeps the index, and leads to a state of which it knows what it has to.
use Rattle.std.proofs.Common.{◌≡◌, ℕ, ◌+◌, ◌-◌, ◌%◌, ◌^◌, ◌<◌, ◌≤◌, ◌⊎◌, List, refl, inl, inr, arith, sym, ap, ◌∙◌, subst, Bool, true, false, eqb-true}
use Rattle.std.specs.Prelude.{slice_set, ◌==◌, ◌&&◌, nat_lt, nat_le, if◌then◌else◌}
use Rattle.std.proofs.lemmas.Bool.Decides.{nat_tests}
use Rattle.std.proofs.lemmas.List.{set-get_or}
use Rattle.fkv_plane.specs.declared.places.Places.{Places}
use Rattle.fkv_plane.specs.Places.{bucket_place, overflow_place}
use Rattle.fkv_plane.specs.Asked.{word_at, words_after, reply_to}
use Rattle.fkv_index.specs.declared.homes.Home.{Home}
use Rattle.fkv_index.specs.declared.slot_words.SlotWord.TheVariants.{Empty, Tagged, Spoiled}
use Rattle.fkv_index.specs.declared.finding.Linking.{Linking}
use Rattle.fkv_index.specs.declared.finding.Linking.TheVariants.{Never, Once, Within, Made}
use Rattle.fkv_index.specs.declared.finding.Found.TheVariants.{Slot, NoSlot, Full, Kept, Contended}
use Rattle.fkv_index.specs.declared.finding.FindStep.{FindStep}
use Rattle.fkv_index.specs.declared.finding.FindStep.TheVariants.{AtRest, LoadsSlot, LoadsLink, LoadsTaken, TakesBucket, LinksBucket}
use Rattle.fkv_index.specs.declared.finding.Finding.{Finding}
use Rattle.fkv_index.specs.declared.finding.Led.{Led}
use Rattle.fkv_index.specs.declared.finding.Led.TheVariants.{On, Ends}
use Rattle.fkv_index.specs.declared.publishing.Publishing.{Publishing}
use Rattle.fkv_index.specs.declared.publishing.Publishing.TheVariants as publish
use Rattle.fkv_index.specs.Slots.{slot_word, entry_addr, entry_tag, link_of}
use Rattle.fkv_index.specs.Finding.{find_step_ask, find_led, slot_led, slot_after, entered, ended_list, link_led, taken_led, led_to, led_ask, takes_led, is_kept}
use Rattle.fkv_index.specs.Publishing.{publish_ask, publish_next}
use Rattle.fkv_index.specs.Buckets.{bucket_words, overflow_bucket, HasPassed}
use Rattle.fkv_index.specs.IndexWorld.{SlotWork, Seeks, Holds, Enters, IndexNear, near, answer_work, taken_of, with_link, lists_sought, lists_by, actor_step}
use Rattle.fkv_index.specs.OneEntry.{IsSlotWord, IsIndex, IsHome, HasHeld, HasSlot, LacksEntry, IsTrue, IsTrueAnswer, Grows}
use Rattle.fkv_index.proofs.Orders.{IsDeep, deep_link, same_or_not, passed_link, passed_next, passed_all, passed_among, beside}
use Rattle.fkv_index.proofs.BucketWords.{set_there}
use Rattle.fkv_index.proofs.Owned.{SpareBecomes, spares_less, less_there, less_else, spare_taken}
use Rattle.fkv_index.proofs.Index.{among_real, quiet_same, index_quiet, quiet_grows}
use Rattle.fkv_index.proofs.IndexSteps.{index_took, took_grows, index_linked, linked_grows, index_published, published_grows}
use Rattle.fkv_index.proofs.Rows.{Stands, SeekKnows, EnterKnows, WorkKnows, passed_grows, deep_grows, stands_more}

-- what a step leaves
pub record Stepped (p : Places) (actor : ℕ) (words : List ℕ) (lists : ℕ → List ℕ) (spares : ℕ → ℕ) (here : IndexNear) (lists' : ℕ → List ℕ) : Type 0 where
  pub its_index : (spares' : ℕ → ℕ) → SpareBecomes spares spares' actor here.finding.spare → IsIndex p here.words lists' spares'
  pub its_grows : Grows p words here.words lists lists'
  pub its_row : WorkKnows p (bucket_words p here.words) lists' here.finding here.work

pub becomes_same : (spares spares' : ℕ → ℕ) (actor number : ℕ) → SpareBecomes spares spares' actor number → spares actor ≡ number → (o : ℕ) → spares' o ≡ spares o
becomes_same spares spares' actor number becomes its o = elim (same_or_not o actor) [
  | inl e ↦ subst (λ x. spares' x ≡ spares x) (sym e) (becomes.its_spare ∙ sym its)
  | inr e ↦ becomes.others o e
]

-- what is known where a reply leads
abbrev pub LedRow : Places → List ℕ → (ℕ → List ℕ) → Home → Led → Type 0
LedRow p words lists home (On f) = SeekKnows p (bucket_words p words) lists f f.step
LedRow p words lists home (Ends f found) = IsTrue p words lists home found

pub record LedKnows (p : Places) (words : List ℕ) (lists : ℕ → List ℕ) (home : Home) (spare : ℕ) (led : Led) : Type 0 where
  pub same_home : (led_to led).home ≡ home
  pub same_spare : (led_to led).spare ≡ spare
  pub its_row : LedRow p words lists home led

-- what is asked is no answer
asks_seek : (f : Finding) (step : FindStep) → answer_work (find_step_ask f step) ≡ Seeks
unfolding find_step_ask
asks_seek f AtRest = refl
asks_seek f (LoadsSlot slot) = refl
asks_seek f LoadsLink = refl
asks_seek f (LoadsTaken word) = refl
asks_seek f (TakesBucket word taken) = refl
asks_seek f (LinksBucket word) = refl

asks_true : (p : Places) (words : List ℕ) (lists : ℕ → List ℕ) (home : Home) (f : Finding) (step : FindStep) → IsTrueAnswer p words lists home (find_step_ask f step)
unfolding find_step_ask
asks_true p words lists home f AtRest = tt
asks_true p words lists home f (LoadsSlot slot) = tt
asks_true p words lists home f LoadsLink = tt
asks_true p words lists home f (LoadsTaken word) = tt
asks_true p words lists home f (TakesBucket word taken) = tt
asks_true p words lists home f (LinksBucket word) = tt

led_row : (p : Places) (words : List ℕ) (lists : ℕ → List ℕ) (home : Home) (spare : ℕ) (led : Led) → LedKnows p words lists home spare led → WorkKnows p (bucket_words p words) lists (led_to led) (answer_work (led_ask led))
led_row p words lists home spare (On f) knows = subst (WorkKnows p (bucket_words p words) lists f) (sym (asks_seek f f.step)) knows.its_row
led_row p words lists home spare (Ends f (Slot place word)) knows = subst (λ x. HasSlot p (bucket_words p words) lists x place word) (sym knows.same_home) knows.its_row.1
led_row p words lists home spare (Ends f NoSlot) knows = tt
led_row p words lists home spare (Ends f Full) knows = tt
led_row p words lists home spare (Ends f Kept) knows = tt
led_row p words lists home spare (Ends f Contended) knows = tt

pub led_true : (p : Places) (words : List ℕ) (lists : ℕ → List ℕ) (home : Home) (spare : ℕ) (led : Led) → LedKnows p words lists home spare led → IsTrueAnswer p words lists home (led_ask led)
led_true p words lists home spare (On f) knows = asks_true p words lists home f f.step
led_true p words lists home spare (Ends f found) knows = knows.its_row

-- a step that changes no word
led_stepped : (p : Places) (actor : ℕ) (words : List ℕ) (lists : ℕ → List ℕ) (spares : ℕ → ℕ) (home : Home) (spare : ℕ) (led : Led) → IsIndex p words lists spares → spares actor ≡ spare
    → LedKnows p words lists home spare led → Stepped p actor words lists spares (near words (led_to led) (answer_work (led_ask led))) lists
led_stepped p actor words lists spares home spare led index its knows = record {
  its_index = λ spares' becomes. index_quiet p words words lists spares spares' (quiet_same p words) (becomes_same spares spares' actor (led_to led).spare becomes (its ∙ sym knows.same_spare)) index;
  its_grows = quiet_grows p words words lists (quiet_same p words);
  its_row = led_row p words lists home spare led knows;
}

-- what a slot's word may be
pub slot_words : (word : ℕ) → ((slot_word word ≡ Empty) × (word ≡ 0)) ⊎ (((slot_word word ≡ Tagged (entry_tag word)) × (word ≡ 0 → ⊥) × (0 < entry_addr word) × (entry_tag word < 2 ^ 15)) ⊎ ((slot_word word ≡ Spoiled) × (IsSlotWord word → ⊥)))
unfolding slot_word
slot_words word = tested (word == 0) (nat_lt 0 (entry_addr word)) (nat_lt (entry_tag word) (2 ^ 15)) refl refl refl
  where
    tested : (a b c : Bool) → (word == 0) ≡ a → nat_lt 0 (entry_addr word) ≡ b → nat_lt (entry_tag word) (2 ^ 15) ≡ c
        → (((if a then Empty else if b && c then Tagged (entry_tag word) else Spoiled) ≡ Empty) × (word ≡ 0))
        ⊎ ((((if a then Empty else if b && c then Tagged (entry_tag word) else Spoiled) ≡ Tagged (entry_tag word)) × (word ≡ 0 → ⊥) × (0 < entry_addr word) × (entry_tag word < 2 ^ 15))
        ⊎ (((if a then Empty else if b && c then Tagged (entry_tag word) else Spoiled) ≡ Spoiled) × (IsSlotWord word → ⊥)))
    tested true b c x y z = inl (refl, eqb-true word 0 x)
    tested false true true x y z = inr (inl (refl, (λ e. absurd (grind (arith, nat_tests, x, e))), grind (arith, nat_tests, y), grind (arith, nat_tests, z)))
    tested false true false x y z = inr (inr (
      refl,
      λ its. elim its [
        | inl none ↦ absurd (grind (arith, nat_tests, x, none))
        | inr entry ↦ (let fits = entry.1 in absurd (grind (arith, nat_tests, z, fits)))
      ],
    ))
    tested false false c x y z = inr (inr (
      refl,
      λ its. elim its [
        | inl none ↦ absurd (grind (arith, nat_tests, x, none))
        | inr entry ↦ (let some = entry.0 in absurd (grind (arith, nat_tests, y, some)))
      ],
    ))

-- a slot that was loaded
slot_knows : (p : Places) (words : List ℕ) (lists : ℕ → List ℕ) (spares : ℕ → ℕ) (f : Finding) (slot : ℕ) → IsIndex p words lists spares → slot < 7 → Stands p (bucket_words p words) lists f slot
    → LedKnows p words lists f.home f.spare (slot_led f slot (word_at words (f.base + slot)) (slot_word (word_at words (f.base + slot))))
slot_knows p words lists spares f slot index low stands = elim (slot_words (word_at words (f.base + slot))) [
  | inl empty ↦ rw empty.0 (record { same_home = refl; same_spare = refl; its_row = (empty.1, has_slot 0 (inl refl), λ none. lacks (its_word ∙ empty.1)) })
  | inr full ↦ elim full [
    | inl entry ↦ rw entry.0 (tagged entry.1 entry.2 (entry_tag (word_at words (f.base + slot)) == f.home.tag) refl)
    | inr spoiled ↦ rw spoiled.0 (record { same_home = refl; same_spare = refl; its_row = tt })
  ]
]
  where
    its_place : f.base + slot ≡ bucket_place p stands.bucket slot
    its_place = let e = stands.its_base in omega (arith, e)

    its_word : bucket_words p words stands.bucket slot ≡ word_at words (f.base + slot)
    its_word = ap (word_at words) (sym its_place)

    has_slot : (word : ℕ) → (word ≡ 0) ⊎ HasHeld f.home.tag word (bucket_words p words stands.bucket slot) → HasSlot p (bucket_words p words) lists f.home (f.base + slot) word
    has_slot word held = record { its_home = stands.its_home; bucket = stands.bucket; slot = slot; in_bucket = low; its_place = its_place; passed = stands.passed; held = held }

    lacks : bucket_words p words stands.bucket slot ≡ 0 → LacksEntry p words lists f.home
    lacks empty m i among few has e =
        elim (beside p.buckets (bucket_words p words) f.home.tag f.home.bucket (lists f.home.bucket) stands.bucket slot (index.filled f.home.bucket stands.its_home.few) stands.passed low empty m i among few) [
          | inl here ↦ has (subst (λ x. bucket_words p words x i ≡ 0) (sym here.0) (subst (λ x. bucket_words p words stands.bucket x ≡ 0) (sym here.1) empty))
          | inr other ↦ elim other [
            | inl none ↦ has none
            | inr tag ↦ tag.1 e
          ]
        ]

    after_knows : (b : Bool) → nat_lt (slot + 1) 7 ≡ b → Stands p (bucket_words p words) lists f (slot + 1) → SeekKnows p (bucket_words p words) lists f (if b then LoadsSlot (slot + 1) else LoadsLink)
    after_knows true e next = (grind (arith, nat_tests, e), next)
    after_knows false e next = let last : slot + 1 ≡ 7 = grind (arith, nat_tests, e, low) in subst (Stands p (bucket_words p words) lists f) last next

    on_knows : (step : FindStep) → SeekKnows p (bucket_words p words) lists f step → SeekKnows p (bucket_words p words) lists (record f { step = step }) step
    on_knows AtRest knows = tt
    on_knows (LoadsSlot i) knows = (knows.0, record { its_home = knows.1.its_home; bucket = knows.1.bucket; its_base = knows.1.its_base; passed = knows.1.passed; depth = knows.1.depth; deep = knows.1.deep; budget = knows.1.budget })
    on_knows LoadsLink knows = record { its_home = knows.its_home; bucket = knows.bucket; its_base = knows.its_base; passed = knows.passed; depth = knows.depth; deep = knows.deep; budget = knows.budget }
    on_knows (LoadsTaken word) knows = (record { its_home = knows.0.its_home; bucket = knows.0.bucket; its_base = knows.0.its_base; passed = knows.0.passed; depth = knows.0.depth; deep = knows.0.deep; budget = knows.0.budget }, knows.1)
    on_knows (TakesBucket word taken) knows = (record { its_home = knows.0.its_home; bucket = knows.0.bucket; its_base = knows.0.its_base; passed = knows.0.passed; depth = knows.0.depth; deep = knows.0.deep; budget = knows.0.budget }, knows.1, knows.2, knows.3)
    on_knows (LinksBucket word) knows = (record { its_home = knows.0.its_home; bucket = knows.0.bucket; its_base = knows.0.its_base; passed = knows.0.passed; depth = knows.0.depth; deep = knows.0.deep; budget = knows.0.budget }, knows.1, knows.2)

    tagged : (word_at words (f.base + slot) ≡ 0 → ⊥) → 0 < entry_addr (word_at words (f.base + slot)) → (b : Bool) → (entry_tag (word_at words (f.base + slot)) == f.home.tag) ≡ b
        → LedKnows p words lists f.home f.spare (if b then Ends f (Slot (f.base + slot) (word_at words (f.base + slot))) else On (record f { step = slot_after slot }))
    tagged some addr true e =
        let its_tag : entry_tag (word_at words (f.base + slot)) ≡ f.home.tag = eqb-true (entry_tag (word_at words (f.base + slot))) f.home.tag e in
        record {
          same_home = refl;
          same_spare = refl;
          its_row = (
            refl,
            has_slot (word_at words (f.base + slot)) (inr (record {
              some = addr;
              its_tag = its_tag;
              some_now = λ none. some (sym its_word ∙ none);
              tag_now = ap entry_tag its_word ∙ its_tag;
              rises = let same : entry_addr (bucket_words p words stands.bucket slot) ≡ entry_addr (word_at words (f.base + slot)) = ap entry_addr its_word in omega (arith, same);
            })),
            λ none. absurd (some none),
          );
        }
    tagged some addr false e =
        let other : entry_tag (bucket_words p words stands.bucket slot) ≡ f.home.tag → ⊥ = λ same. absurd (grind (arith, nat_tests, e, sym (ap entry_tag its_word) ∙ same)) in
        let next : Stands p (bucket_words p words) lists f (slot + 1) = record {
          its_home = stands.its_home;
          bucket = stands.bucket;
          its_base = stands.its_base;
          passed = passed_next p.buckets (bucket_words p words) f.home.tag f.home.bucket (lists f.home.bucket) stands.bucket slot stands.passed ((λ none. some (sym its_word ∙ none)), other);
          depth = stands.depth;
          deep = stands.deep;
          budget = stands.budget;
        } in
        record { same_home = refl; same_spare = refl; its_row = on_knows (slot_after slot) (after_knows (nat_lt (slot + 1) 7) refl next) }

-- a bucket that is entered is the next of the list
entered_knows : (p : Places) (words : List ℕ) (lists : ℕ → List ℕ) (f : Finding) (number depth : ℕ) → IsHome p f.home
    → HasPassed p.buckets (bucket_words p words) f.home.tag f.home.bucket (lists f.home.bucket) (overflow_bucket p.buckets number) 0
    → IsDeep p.buckets f.home.bucket (lists f.home.bucket) (overflow_bucket p.buckets number) (depth + 1) → f.links + depth ≡ p.overflow → LedKnows p words lists f.home f.spare (entered p f number)
entered_knows p words lists f number depth home passed deep budget = tested (nat_lt 0 f.links) (nat_le number p.overflow) refl
  where
    tested : (a b : Bool) → nat_lt 0 f.links ≡ a
        → LedKnows p words lists f.home f.spare (if a && b then On (record f { base = overflow_place p number 0; links = f.links - 1; step = LoadsSlot 0 }) else Ends f Contended)
    tested true true e =
        let some : 0 < f.links = grind (arith, nat_tests, e) in
        record {
          same_home = refl;
          same_spare = refl;
          its_row = (
            omega arith,
            record {
              its_home = home;
              bucket = overflow_bucket p.buckets number;
              its_base = refl;
              passed = passed;
              depth = depth + 1;
              deep = deep;
              budget = omega (arith, some, budget);
            },
          );
        }
    tested true false e = record { same_home = refl; same_spare = refl; its_row = tt }
    tested false b e = record { same_home = refl; same_spare = refl; its_row = tt }

-- an eighth word that was loaded
link_knows : (p : Places) (words : List ℕ) (lists : ℕ → List ℕ) (spares : ℕ → ℕ) (f : Finding) → IsIndex p words lists spares → Stands p (bucket_words p words) lists f 7
    → LedKnows p words lists f.home f.spare (link_led p f (word_at words (f.base + 7)))
link_knows p words lists spares f index stands = tested (link_of (word_at words (f.base + 7)) == 0) refl
  where
    its_word : bucket_words p words stands.bucket 7 ≡ word_at words (f.base + 7)
    its_word = let e = stands.its_base in let same : bucket_place p stands.bucket 7 ≡ f.base + 7 = omega (arith, e) in ap (word_at words) same

    lacks : link_of (word_at words (f.base + 7)) ≡ 0 → LacksEntry p words lists f.home
    lacks none m i among few has e =
        (passed_all p.buckets (bucket_words p words) f.home.tag f.home.bucket (lists f.home.bucket) stands.bucket (index.linked f.home.bucket stands.its_home.few) stands.passed (ap link_of its_word ∙ none) m i among few).1 e

    here : (step : FindStep) → Stands p (bucket_words p words) lists (record f { step = step }) 7
    here step = record { its_home = stands.its_home; bucket = stands.bucket; its_base = stands.its_base; passed = stands.passed; depth = stands.depth; deep = stands.deep; budget = stands.budget }

    links : (b : Bool) → (f.spare == 0) ≡ b → link_of (word_at words (f.base + 7)) ≡ 0
        → LedKnows p words lists f.home f.spare (On (record f { step = if b then LoadsTaken (word_at words (f.base + 7)) else LinksBucket (word_at words (f.base + 7)) }))
    links true e none = record { same_home = refl; same_spare = refl; its_row = (here (LoadsTaken (word_at words (f.base + 7))), none) }
    links false e none = record { same_home = refl; same_spare = refl; its_row = (here (LinksBucket (word_at words (f.base + 7))), none, grind (arith, nat_tests, e)) }

    ended : (linking : Linking) → link_of (word_at words (f.base + 7)) ≡ 0 → LedKnows p words lists f.home f.spare (ended_list f (word_at words (f.base + 7)) linking)
    ended Never none = record { same_home = refl; same_spare = refl; its_row = lacks none }
    ended Once none = links (f.spare == 0) refl none
    ended (Within bound) none = record { same_home = refl; same_spare = refl; its_row = (here (LoadsTaken (word_at words (f.base + 7))), none) }
    ended Made none = record { same_home = refl; same_spare = refl; its_row = tt }

    tested : (b : Bool) → (link_of (word_at words (f.base + 7)) == 0) ≡ b
        → LedKnows p words lists f.home f.spare (if b then ended_list f (word_at words (f.base + 7)) f.linking else entered p f (link_of (word_at words (f.base + 7))))
    tested true e = ended f.linking (eqb-true (link_of (word_at words (f.base + 7))) 0 e)
    tested false e =
        let some : 1 ≤ link_of (word_at words (f.base + 7)) = grind (arith, nat_tests, e) in
        entered_knows p words lists f (link_of (word_at words (f.base + 7))) stands.depth stands.its_home
        (passed_link p.buckets (bucket_words p words) f.home.tag f.home.bucket (lists f.home.bucket) stands.bucket (link_of (word_at words (f.base + 7))) (index.linked f.home.bucket stands.its_home.few) stands.passed
        (ap link_of its_word) some)
        (deep_link p.buckets (bucket_words p words) f.home.bucket (lists f.home.bucket) stands.bucket stands.depth (link_of (word_at words (f.base + 7))) (index.linked f.home.bucket stands.its_home.few) stands.deep (ap link_of its_word) some).0
        stands.budget

-- the count that was loaded
taken_knows : (p : Places) (words : List ℕ) (lists : ℕ → List ℕ) (f : Finding) (word : ℕ) → Stands p (bucket_words p words) lists f 7 → link_of word ≡ 0
    → LedKnows p words lists f.home f.spare (taken_led p f word (taken_of words))
taken_knows p words lists f word stands none = kept (is_kept f.linking (taken_of words))
  where
    here : (step : FindStep) → Stands p (bucket_words p words) lists (record f { step = step }) 7
    here step = record { its_home = stands.its_home; bucket = stands.bucket; its_base = stands.its_base; passed = stands.passed; depth = stands.depth; deep = stands.deep; budget = stands.budget }

    takes : (b : Bool) → nat_lt (taken_of words) p.overflow ≡ b → f.spare ≡ 0 → LedKnows p words lists f.home f.spare (if b then On (record f { step = TakesBucket word (taken_of words) }) else Ends f Full)
    takes true e no_spare = record { same_home = refl; same_spare = refl; its_row = (here (TakesBucket word (taken_of words)), none, no_spare, grind (arith, nat_tests, e)) }
    takes false e no_spare = record { same_home = refl; same_spare = refl; its_row = grind (arith, nat_tests, e) }

    spares : (b : Bool) → (f.spare == 0) ≡ b → LedKnows p words lists f.home f.spare (if b then takes_led p f word (taken_of words) else On (record f { step = LinksBucket word }))
    spares true e = takes (nat_lt (taken_of words) p.overflow) refl (eqb-true f.spare 0 e)
    spares false e = record { same_home = refl; same_spare = refl; its_row = (here (LinksBucket word), none, grind (arith, nat_tests, e)) }

    kept : (b : Bool) → LedKnows p words lists f.home f.spare (if b then Ends f Kept else if f.spare == 0 then takes_led p f word (taken_of words) else On (record f { step = LinksBucket word }))
    kept true = record { same_home = refl; same_spare = refl; its_row = tt }
    kept false = spares (f.spare == 0) refl

abbrev seek_near : Places → List ℕ → Finding → FindStep → IndexNear
seek_near p words f step = near (words_after words (find_step_ask f step)) (led_to (find_led p f step (reply_to words (find_step_ask f step)))) (answer_work (led_ask (find_led p f step (reply_to words (find_step_ask f step)))))

-- a bucket is taken, or the Cas is lost
takes_stepped : (p : Places) (actor : ℕ) (words : List ℕ) (lists : ℕ → List ℕ) (spares : ℕ → ℕ) (f : Finding) (word taken : ℕ) → IsIndex p words lists spares → spares actor ≡ f.spare
    → SeekKnows p (bucket_words p words) lists f (TakesBucket word taken) → Stepped p actor words lists spares (seek_near p words f (TakesBucket word taken)) lists
unfolding find_step_ask find_led
takes_stepped p actor words lists spares f word taken index its knows = won (taken_of words == taken) refl
  where
    won : (b : Bool) → (taken_of words == taken) ≡ b
        → Stepped p actor words lists spares (near (slice_set words 10 (if b then taken + 1 else taken_of words)) (led_to (if b then On (record f { spare = taken + 1; step = LinksBucket word }) else Ends f Contended))
        (answer_work (led_ask (if b then On (record f { spare = taken + 1; step = LinksBucket word }) else Ends f Contended)))) lists
    won true e =
        let same : taken_of words ≡ taken = eqb-true (taken_of words) taken e in
        let left = knows.3 in
        let grows : Grows p words (slice_set words 10 (taken + 1)) lists lists = subst (λ x. Grows p words (slice_set words 10 (x + 1)) lists lists) same (took_grows p words lists index.enough_words) in
        let stands = stands_more p words (slice_set words 10 (taken + 1)) lists lists spares f 7 index grows (omega arith) knows.0 in
        record {
          its_index = λ spares' becomes. subst (λ x. IsIndex p (slice_set words 10 (x + 1)) lists spares') same
              (index_took p words lists spares spares' actor (omega (arith, same, left)) (its ∙ knows.2) (subst (λ x. SpareBecomes spares spares' actor (x + 1)) (sym same) becomes) index);
          its_grows = grows;
          its_row = subst (WorkKnows p (bucket_words p (slice_set words 10 (taken + 1))) lists (record f { spare = taken + 1; step = LinksBucket word })) (sym (asks_seek (record f { spare = taken + 1; step = LinksBucket word }) (LinksBucket word)))
              (record { its_home = stands.its_home; bucket = stands.bucket; its_base = stands.its_base; passed = stands.passed; depth = stands.depth; deep = stands.deep; budget = stands.budget }, knows.1, omega arith);
        }
    won false e = rw (set-get_or words 10 0) (led_stepped p actor words lists spares f.home f.spare (Ends f Contended) index its (record { same_home = refl; same_spare = refl; its_row = tt }))

-- a bucket is linked, or the Cas is lost
links_stepped : (p : Places) (actor : ℕ) (words : List ℕ) (lists : ℕ → List ℕ) (spares : ℕ → ℕ) (f : Finding) (word : ℕ) → IsIndex p words lists spares → spares actor ≡ f.spare
    → SeekKnows p (bucket_words p words) lists f (LinksBucket word) → Stepped p actor words lists spares (seek_near p words f (LinksBucket word)) (lists_sought words lists f (LinksBucket word))
unfolding find_step_ask find_led
links_stepped p actor words lists spares f word index its knows = won (word_at words (f.base + 7) == word) refl
  where
    stands : Stands p (bucket_words p words) lists f 7
    stands = knows.0

    its_place : f.base + 7 ≡ bucket_place p stands.bucket 7
    its_place = let e = stands.its_base in omega (arith, e)

    real : stands.bucket < p.buckets + p.overflow
    real = among_real f.home.bucket stands.bucket index stands.its_home.few (passed_among p.buckets (bucket_words p words) f.home.tag f.home.bucket (lists f.home.bucket) stands.bucket 7 stands.passed)

    few_spare : f.spare ≤ p.overflow
    few_spare =
        let h = index.few_taken in
        let some = knows.2 in
        let t = spare_taken actor index.owned (subst (λ x. 1 ≤ x) (sym its) some) in
        omega (arith, h, t, its)

    its_link : link_of (bucket_words p (slice_set words (bucket_place p stands.bucket 7) (word + f.spare)) stands.bucket 7) ≡ f.spare
    its_link =
        let none = knows.1 in
        let few = few_spare in
        let small = p.few_overflow in
        let e = set_there p words stands.bucket 7 (word + f.spare) index.enough_words real (omega arith) in
        let sum : (word + f.spare) % 2 ^ 48 ≡ f.spare = omega (arith, none, few, small) in
        ap link_of e ∙ sum

    linked : word_at words (f.base + 7) ≡ word
        → Stepped p actor words lists spares (near (slice_set words (bucket_place p stands.bucket 7) (word + f.spare)) (led_to (entered p (record f { linking = Made; spare = 0 }) f.spare)) (answer_work (led_ask (entered p (record f { linking = Made; spare = 0 }) f.spare))))
        (with_link lists f.home.bucket f.spare)
    linked won_it =
        let after : List ℕ = slice_set words (bucket_place p stands.bucket 7) (word + f.spare) in
        let lists' : ℕ → List ℕ = with_link lists f.home.bucket f.spare in
        let grows : Grows p words after lists lists' = linked_grows p words lists f.home.bucket stands.bucket word f.spare in
        let new : (spares' : ℕ → ℕ) → SpareBecomes spares spares' actor 0 → IsIndex p after lists' spares' = λ spares' becomes.
        index_linked p words lists spares spares' actor f.home stands.bucket word f.spare stands.its_home.few stands.passed (ap (word_at words) (sym its_place) ∙ won_it) knows.1 its knows.2 becomes index in
        let index' : IsIndex p after lists' (spares_less spares actor) = new (spares_less spares actor) (record { its_spare = less_there spares actor; others = less_else spares actor }) in
        let passed = passed_grows p words after lists lists' spares f.home stands.bucket 7 index grows stands.its_home.few (omega arith) stands.passed in
        let next = passed_link p.buckets (bucket_words p after) f.home.tag f.home.bucket (lists' f.home.bucket) stands.bucket f.spare (index'.linked f.home.bucket stands.its_home.few) passed its_link knows.2 in
        let deeper = (deep_link p.buckets (bucket_words p after) f.home.bucket (lists' f.home.bucket) stands.bucket stands.depth f.spare (index'.linked f.home.bucket stands.its_home.few)
        (deep_grows p words after lists lists' f.home.bucket stands.bucket stands.depth grows stands.deep) its_link knows.2).0 in
        let knows' : LedKnows p after lists' f.home 0 (entered p (record f { linking = Made; spare = 0 }) f.spare) = entered_knows p after lists' (record f { linking = Made; spare = 0 }) f.spare stands.depth stands.its_home next deeper stands.budget in
        record {
          its_index = λ spares' becomes. new spares' (subst (SpareBecomes spares spares' actor) knows'.same_spare becomes);
          its_grows = grows;
          its_row = led_row p after lists' f.home 0 (entered p (record f { linking = Made; spare = 0 }) f.spare) knows';
        }

    won : (b : Bool) → (word_at words (f.base + 7) == word) ≡ b
        → Stepped p actor words lists spares (near (slice_set words (f.base + 7) (if b then word + f.spare else word_at words (f.base + 7))) (led_to (if b then entered p (record f { linking = Made; spare = 0 }) f.spare else Ends f Contended))
        (answer_work (led_ask (if b then entered p (record f { linking = Made; spare = 0 }) f.spare else Ends f Contended)))) (if b then with_link lists f.home.bucket f.spare else lists)
    won true e = rw its_place (linked (eqb-true (word_at words (f.base + 7)) word e))
    won false e = rw (set-get_or words (f.base + 7) 0) (led_stepped p actor words lists spares f.home f.spare (Ends f Contended) index its (record { same_home = refl; same_spare = refl; its_row = tt }))

seek_stepped : (p : Places) (actor : ℕ) (words : List ℕ) (lists : ℕ → List ℕ) (spares : ℕ → ℕ) (f : Finding) (step : FindStep) → IsIndex p words lists spares → spares actor ≡ f.spare
    → SeekKnows p (bucket_words p words) lists f step → Stepped p actor words lists spares (seek_near p words f step) (lists_sought words lists f step)
unfolding find_step_ask find_led
seek_stepped p actor words lists spares f AtRest index its knows = led_stepped p actor words lists spares f.home f.spare (Ends f Contended) index its (record { same_home = refl; same_spare = refl; its_row = tt })
seek_stepped p actor words lists spares f (LoadsSlot slot) index its knows =
    rw (set-get_or words (f.base + slot) 0) (led_stepped p actor words lists spares f.home f.spare (slot_led f slot (word_at words (f.base + slot)) (slot_word (word_at words (f.base + slot)))) index its (slot_knows p words lists spares f slot index knows.0 knows.1))
seek_stepped p actor words lists spares f LoadsLink index its knows =
    rw (set-get_or words (f.base + 7) 0) (led_stepped p actor words lists spares f.home f.spare (link_led p f (word_at words (f.base + 7))) index its (link_knows p words lists spares f index knows))
seek_stepped p actor words lists spares f (LoadsTaken word) index its knows =
    rw (set-get_or words 10 0) (led_stepped p actor words lists spares f.home f.spare (taken_led p f word (taken_of words)) index its (taken_knows p words lists f word knows.0 knows.1))
seek_stepped p actor words lists spares f (TakesBucket word taken) index its knows = takes_stepped p actor words lists spares f word taken index its knows
seek_stepped p actor words lists spares f (LinksBucket word) index its knows = links_stepped p actor words lists spares f word index its knows

-- each answer is true
pub seek_true : (p : Places) (words : List ℕ) (lists : ℕ → List ℕ) (spares : ℕ → ℕ) (f : Finding) (step : FindStep) → IsIndex p words lists spares → SeekKnows p (bucket_words p words) lists f step
    → IsTrueAnswer p words lists f.home (led_ask (find_led p f step (reply_to words (find_step_ask f step))))
unfolding find_step_ask find_led
seek_true p words lists spares f AtRest index knows = tt
seek_true p words lists spares f (LoadsSlot slot) index knows = led_true p words lists f.home f.spare (slot_led f slot (word_at words (f.base + slot)) (slot_word (word_at words (f.base + slot)))) (slot_knows p words lists spares f slot index knows.0 knows.1)
seek_true p words lists spares f LoadsLink index knows = led_true p words lists f.home f.spare (link_led p f (word_at words (f.base + 7))) (link_knows p words lists spares f index knows)
seek_true p words lists spares f (LoadsTaken word) index knows = led_true p words lists f.home f.spare (taken_led p f word (taken_of words)) (taken_knows p words lists f word knows.0 knows.1)
seek_true p words lists spares f (TakesBucket word taken) index knows = tested (taken_of words == taken)
  where
    tested : (b : Bool) → IsTrueAnswer p words lists f.home (led_ask (if b then On (record f { spare = taken + 1; step = LinksBucket word }) else Ends f Contended))
    tested true = asks_true p words lists f.home (record f { spare = taken + 1; step = LinksBucket word }) (LinksBucket word)
    tested false = tt
seek_true p words lists spares f (LinksBucket word) index knows = tested (word_at words (f.base + 7) == word)
  where
    enters : (b : Bool) → IsTrueAnswer p words lists f.home (led_ask (if b then On (record f { linking = Made; spare = 0; base = overflow_place p f.spare 0; links = f.links - 1; step = LoadsSlot 0 }) else Ends (record f { linking = Made; spare = 0 }) Contended))
    enters true = asks_true p words lists f.home (record f { linking = Made; spare = 0; base = overflow_place p f.spare 0; links = f.links - 1; step = LoadsSlot 0 }) (LoadsSlot 0)
    enters false = tt

    tested : (b : Bool) → IsTrueAnswer p words lists f.home (led_ask (if b then entered p (record f { linking = Made; spare = 0 }) f.spare else Ends f Contended))
    tested true = enters (nat_lt 0 f.links && nat_le f.spare p.overflow)
    tested false = tt

-- an entry is published, or the Cas is lost
enter_stepped : (p : Places) (actor : ℕ) (words : List ℕ) (lists : ℕ → List ℕ) (spares : ℕ → ℕ) (f : Finding) (step : Publishing) → IsIndex p words lists spares → spares actor ≡ f.spare
    → EnterKnows p (bucket_words p words) lists f.home step → Stepped p actor words lists spares (actor_step p words f (Enters step)) lists
unfolding publish_ask publish_next
enter_stepped p actor words lists spares f publish.AtRest index its knows = record {
  its_index = λ spares' becomes. index_quiet p words words lists spares spares' (quiet_same p words) (becomes_same spares spares' actor f.spare becomes its) index;
  its_grows = quiet_grows p words words lists (quiet_same p words);
  its_row = tt;
}
enter_stepped p actor words lists spares f (publish.SwapsEntry place word entry) index its knows = won (word_at words place == word) refl
  where
    won : (b : Bool) → (word_at words place == word) ≡ b → Stepped p actor words lists spares (near (slice_set words place (if b then entry else word_at words place)) f (Enters publish.AtRest)) lists
    won true e =
        let here : word_at words place ≡ word = eqb-true (word_at words place) word e in
        record {
          its_index = λ spares' becomes. index_published p words lists spares spares' f.home place word entry knows.0 here knows.1 knows.2 (becomes_same spares spares' actor f.spare becomes its) index;
          its_grows = published_grows p words lists spares f.home place word entry knows.0 here knows.1 knows.2 index;
          its_row = tt;
        }
    won false e = rw (set-get_or words place 0) (record {
      its_index = λ spares' becomes. index_quiet p words words lists spares spares' (quiet_same p words) (becomes_same spares spares' actor f.spare becomes its) index;
      its_grows = quiet_grows p words words lists (quiet_same p words);
      its_row = tt;
    })

pub actor_stepped : (p : Places) (actor : ℕ) (words : List ℕ) (lists : ℕ → List ℕ) (spares : ℕ → ℕ) (f : Finding) (work : SlotWork) → IsIndex p words lists spares → spares actor ≡ f.spare
    → WorkKnows p (bucket_words p words) lists f work → Stepped p actor words lists spares (actor_step p words f work) (lists_by words lists f work)
actor_stepped p actor words lists spares f Seeks index its knows = seek_stepped p actor words lists spares f f.step index its knows
actor_stepped p actor words lists spares f (Holds place word) index its knows = record {
  its_index = λ spares' becomes. index_quiet p words words lists spares spares' (quiet_same p words) (becomes_same spares spares' actor f.spare becomes its) index;
  its_grows = quiet_grows p words words lists (quiet_same p words);
  its_row = knows;
}
actor_stepped p actor words lists spares f (Enters step) index its knows = enter_stepped p actor words lists spares f step index its knows
