-- What a search does to the words.
use Rattle.std.proofs.Common.{◌≡◌, ℕ, ◌+◌, ◌-◌, ◌^◌, ◌<◌, ◌≤◌, ◌⊎◌, List, refl, inl, inr, arith, sym, ap, ◌∙◌, subst, Bool, true, false, eqb-true}
use Rattle.std.specs.Prelude.{Option, Some, None, slice_get, slice_set, ◌==◌, ◌&&◌, nat_lt, nat_le, if◌then◌else◌}
use Rattle.std.proofs.lemmas.List.{set-get_or, get_or-set_other}
use Rattle.fkv_plane.specs.declared.places.Places.{Places}
use Rattle.fkv_plane.specs.declared.asks.Ask.TheVariants.{Done}
use Rattle.fkv_plane.specs.Places.{bucket_place, overflow_place}
use Rattle.std.proofs.lemmas.Bool.Decides.{nat_tests}
use Rattle.fkv_index.specs.declared.finding.Found.TheVariants.{Contended}
use Rattle.fkv_index.specs.declared.finding.Led.TheVariants.{On, Ends}
use Rattle.fkv_plane.specs.Asked.{word_at, words_after}
use Rattle.fkv_index.specs.declared.finding.FindStep.{FindStep}
use Rattle.fkv_index.specs.declared.finding.FindStep.TheVariants.{AtRest, LoadsSlot, LoadsLink, LoadsTaken, TakesBucket, LinksBucket}
use Rattle.fkv_index.specs.declared.finding.Finding.{Finding}
use Rattle.fkv_index.specs.Slots.{link_of, slot_word}
use Rattle.fkv_index.specs.Finding.{find_step_ask, find_led, slot_led, led_ask, find_next_ask}
use Rattle.fkv_index.specs.Buckets.{bucket_words}
use Rattle.fkv_index.specs.IndexWorld.{SlotWork, Seeks, Holds, Enters, BeginsFind, BeginsPublish, Moves, Changes, IndexActor, IndexWorld, taken_of, with_link, lists_sought, lists_by, lists_moved, actor_step, index_happens}
use Rattle.fkv_index.specs.OneEntry.{spare_at, spare_in, IsIndex, IsSlotWord}
use Rattle.fkv_index.specs.Searches.{LinksOne, IsSearchStep, SearchesWrite, IsLinkBy, ListsMove, SpoiledEnd}
use Rattle.fkv_index.proofs.Orders.{passed_among}
use Rattle.fkv_index.proofs.BucketWords.{set_there}
use Rattle.fkv_index.proofs.Owned.{link_there, link_else, spare_taken}
use Rattle.fkv_index.proofs.Index.{among_real}
use Rattle.fkv_index.proofs.Rows.{Stands, SeekKnows, WorkKnows}
use Rattle.fkv_index.proofs.Steps.{slot_words}
use Rattle.fkv_index.proofs.Runs.{IsSound}

link_writes : (p : Places) (actor : ℕ) (words : List ℕ) (lists : ℕ → List ℕ) (spares : ℕ → ℕ) (f : Finding) (word : ℕ) → IsIndex p words lists spares → spares actor ≡ f.spare → SeekKnows p (bucket_words p words) lists f (LinksBucket word)
    → word_at words (f.base + 7) ≡ word → LinksOne p words (slice_set words (f.base + 7) (word + f.spare)) lists (with_link lists f.home.bucket f.spare) f.home.bucket f.spare
link_writes p actor words lists spares f word index its knows won = rw its_place (record {
  last = stands.bucket;
  its_last = passed_among p.buckets (bucket_words p words) f.home.tag f.home.bucket (lists f.home.bucket) stands.bucket 7 stands.passed;
  led_nowhere = ap link_of was ∙ knows.1;
  leads_there = rw there (let none = knows.1 in omega (arith, none, few, small));
  same_upper = rw (there, was) (let none = knows.1 in omega (arith, none, few, small));
  other_words = λ place apart. get_or-set_other words (bucket_place p stands.bucket 7) place (word + f.spare) 0 apart;
  its_list = link_there lists f.home.bucket f.spare;
  other_lists = λ other apart. link_else lists f.home.bucket f.spare other apart;
})
  where
    stands : Stands p (bucket_words p words) lists f 7
    stands = knows.0

    its_place : f.base + 7 ≡ bucket_place p stands.bucket 7
    its_place = let e = stands.its_base in omega (arith, e)

    was : bucket_words p words stands.bucket 7 ≡ word
    was = ap (word_at words) (sym its_place) ∙ won

    real : stands.bucket < p.buckets + p.overflow
    real = among_real f.home.bucket stands.bucket index stands.its_home.few (passed_among p.buckets (bucket_words p words) f.home.tag f.home.bucket (lists f.home.bucket) stands.bucket 7 stands.passed)

    there : bucket_words p (slice_set words (bucket_place p stands.bucket 7) (word + f.spare)) stands.bucket 7 ≡ word + f.spare
    there = set_there p words stands.bucket 7 (word + f.spare) index.enough_words real (omega arith)

    few : f.spare ≤ p.overflow
    few =
        let h = index.few_taken in
        let some = knows.2 in
        let t = spare_taken actor index.owned (subst (λ x. 1 ≤ x) (sym its) some) in
        omega (arith, h, t, its)

    small : p.overflow < 2 ^ 48
    small = let h = p.few_overflow in omega (arith, h)

seek_writes : (p : Places) (actor : ℕ) (words : List ℕ) (lists : ℕ → List ℕ) (spares : ℕ → ℕ) (f : Finding) (step : FindStep) → IsIndex p words lists spares → spares actor ≡ f.spare → SeekKnows p (bucket_words p words) lists f step
    → IsSearchStep p words (words_after words (find_step_ask f step)) lists (lists_sought words lists f step) f.home.bucket f.spare
unfolding find_step_ask
seek_writes p actor words lists spares f AtRest index its knows = inl (record { same_words = refl; same_lists = refl })
seek_writes p actor words lists spares f (LoadsSlot slot) index its knows = inl (record { same_words = set-get_or words (f.base + slot) 0; same_lists = refl })
seek_writes p actor words lists spares f LoadsLink index its knows = inl (record { same_words = set-get_or words (f.base + 7) 0; same_lists = refl })
seek_writes p actor words lists spares f (LoadsTaken word) index its knows = inl (record { same_words = set-get_or words 10 0; same_lists = refl })
seek_writes p actor words lists spares f (TakesBucket word taken) index its knows = won (taken_of words == taken) refl
  where
    won : (b : Bool) → (taken_of words == taken) ≡ b → IsSearchStep p words (slice_set words 10 (if b then taken + 1 else taken_of words)) lists lists f.home.bucket f.spare
    won true e = inr (inl (record { one_more = ap (λ n. slice_set words 10 (n + 1)) (sym (eqb-true (taken_of words) taken e)); same_lists = refl }))
    won false e = inl (record { same_words = set-get_or words 10 0; same_lists = refl })
seek_writes p actor words lists spares f (LinksBucket word) index its knows = won (word_at words (f.base + 7) == word) refl
  where
    won : (b : Bool) → (word_at words (f.base + 7) == word) ≡ b
        → IsSearchStep p words (slice_set words (f.base + 7) (if b then word + f.spare else word_at words (f.base + 7))) lists (if b then with_link lists f.home.bucket f.spare else lists) f.home.bucket f.spare
    won true e = inr (inr (link_writes p actor words lists spares f word index its knows (eqb-true (word_at words (f.base + 7)) word e)))
    won false e = inl (record { same_words = set-get_or words (f.base + 7) 0; same_lists = refl })

work_writes : (p : Places) (actor : ℕ) (words : List ℕ) (lists : ℕ → List ℕ) (spares : ℕ → ℕ) (f : Finding) (work : SlotWork) → work ≡ Seeks → IsIndex p words lists spares → spares actor ≡ f.spare → WorkKnows p (bucket_words p words) lists f work
    → IsSearchStep p words (actor_step p words f work).words lists (lists_by words lists f work) f.home.bucket f.spare
work_writes p actor words lists spares f work seeks index its knows =
    rw seeks (seek_writes p actor words lists spares f f.step index its (subst (WorkKnows p (bucket_words p words) lists f) seeks knows))

pub sound_writes : (w : IndexWorld) → IsSound w → SearchesWrite w
unfolding index_happens
sound_writes w sound actor x got seeks =
    rw got (work_writes w.now.places actor w.now.words w.lists (spare_at w.now.actors) x.finding x.work seeks sound.its_index (ap spare_in got) (sound.rows actor x got))

moved_lists : (w : IndexWorld) (actor : ℕ) (found : Option IndexActor) → slice_get w.now.actors actor ≡ found → IsSound w → ((index_happens w (Moves actor)).lists ≡ w.lists) ⊎ IsLinkBy w (Moves actor)
unfolding index_happens
moved_lists w actor None got sound = inl (rw got refl)
moved_lists w actor (Some x) got sound = works x.work refl
  where
    works : (work : SlotWork) → x.work ≡ work → (lists_moved w.now w.lists (slice_get w.now.actors actor) ≡ w.lists) ⊎ IsLinkBy w (Moves actor)
    works Seeks same = elim (sound_writes w sound actor x got same) [
      | inl none ↦ inl none.same_lists
      | inr some ↦ elim some [
        | inl takes ↦ inl takes.same_lists
        | inr links ↦ inr (record { actor = actor; its_event = refl; x = x; got = got; seeks = same; links = links })
      ]
    ]
    works (Holds place word) same = inl (rw (got, same) refl)
    works (Enters step) same = inl (rw (got, same) refl)

pub sound_lists : (w : IndexWorld) → IsSound w → ListsMove w
unfolding index_happens
sound_lists w sound (BeginsFind actor home purpose) = inl refl
sound_lists w sound (BeginsPublish actor addr) = inl refl
sound_lists w sound (Moves actor) = moved_lists w actor (slice_get w.now.actors actor) refl sound
sound_lists w sound (Changes place word) = inl refl

-- what no store gives
slot_spoiled : (f : Finding) (slot word : ℕ) → (IsSlotWord word → ⊥) → slot_led f slot word (slot_word word) ≡ Ends f Contended
slot_spoiled f slot word spoiled = elim (slot_words word) [
  | inl empty ↦ absurd (spoiled (inl empty.1))
  | inr full ↦ elim full [
    | inl entry ↦ absurd (spoiled (inr (entry.2, entry.3)))
    | inr its ↦ rw its.0 refl
  ]
]

spoiled_ends : (p : Places) (f : Finding) (step : FindStep) (reply : ℕ) → f.step ≡ step → (find_led p f step reply ≡ Ends f Contended) → find_next_ask p f reply ≡ Done (record { found = Contended; spare = f.spare })
spoiled_ends p f step reply same its = ap led_ask (ap (λ it. find_led p f it reply) same ∙ its)

pub spoiled_end : SpoiledEnd
unfolding find_led
spoiled_end p f reply = record {
  slots = λ slot at spoiled. spoiled_ends p f (LoadsSlot slot) reply at (slot_spoiled f slot reply spoiled);
  far_links = λ at far. (
      let a : (link_of reply == 0) ≡ false = grind (arith, nat_tests, far) in
      let b : nat_le (link_of reply) p.overflow ≡ false = grind (arith, nat_tests, far) in
      spoiled_ends p f LoadsLink reply at (rw (a, b) (neither (nat_lt 0 f.links))));
  many_links = λ at some none. (
      let a : (link_of reply == 0) ≡ false = grind (arith, nat_tests, some) in
      let b : nat_lt 0 f.links ≡ false = grind (arith, nat_tests, none) in
      spoiled_ends p f LoadsLink reply at (rw (a, b) refl));
}
  where
    neither : (b : Bool) → (if b && false then On (record f { base = overflow_place p (link_of reply) 0; links = f.links - 1; step = LoadsSlot 0 }) else Ends f Contended) ≡ Ends f Contended
    neither true = refl
    neither false = refl
