-- What a search finds is its home's entry, and a publish that is won changes that entry alone.
use Rattle.std.proofs.Common.{◌≡◌, ℕ, ◌+◌, ◌<◌, ◌≤◌, List, refl, inl, inr, arith, sym, ap, ◌∙◌, subst, Bool, true, false, eqb-true}
use Rattle.std.specs.Prelude.{Option, Some, None, slice_get, slice_set, ◌==◌, if◌then◌else◌}
use Rattle.std.proofs.lemmas.Bool.Decides.{nat_tests}
use Rattle.std.proofs.lemmas.List.{set-get_or}
use Rattle.fkv_plane.specs.declared.asks.Ask.{Ask}
use Rattle.fkv_plane.specs.declared.asks.Ask.TheVariants.{Done}
use Rattle.fkv_plane.specs.declared.places.Places.{Places}
use Rattle.fkv_plane.specs.Places.{bucket_place}
use Rattle.fkv_plane.specs.Asked.{word_at, words_after, reply_to}
use Rattle.fkv_index.specs.declared.homes.Home.{Home}
use Rattle.fkv_index.specs.declared.finding.Purpose.{Purpose}
use Rattle.fkv_index.specs.declared.finding.Found.{Found}
use Rattle.fkv_index.specs.declared.finding.Found.TheVariants.{Slot, NoSlot, Full, Kept, Contended}
use Rattle.fkv_index.specs.declared.finding.FindAnswer.{FindAnswer}
use Rattle.fkv_index.specs.declared.finding.FindStep.{FindStep}
use Rattle.fkv_index.specs.declared.finding.FindStep.TheVariants.{AtRest, LoadsSlot, LoadsLink, LoadsTaken, TakesBucket, LinksBucket}
use Rattle.fkv_index.specs.declared.finding.Finding.{Finding}
use Rattle.fkv_index.specs.declared.publishing.PublishAnswer.TheVariants.{Won, Lost}
use Rattle.fkv_index.specs.declared.publishing.Publishing.TheVariants as publish
use Rattle.fkv_index.specs.Slots.{entry_addr, entry_tag}
use Rattle.fkv_index.specs.Finding.{find_step_ask, find_ask, find_next_ask, first_finding}
use Rattle.fkv_index.specs.Publishing.{publish_ask, publish_next_ask}
use Rattle.fkv_index.specs.Buckets.{bucket_words, overflow_bucket, IsAmong, HasOneEntry}
use Rattle.fkv_index.specs.IndexWorld.{SlotWork, Seeks, Holds, Enters, IndexActor, IndexEvent, BeginsFind, BeginsPublish, Moves, Changes, IndexWorld, taken_of, is_barred, may_find, find_begun, publish_begun, with_link, lists_sought, lists_by, actor_step, actor_after, moved, lists_moved, index_happens}
use Rattle.fkv_index.specs.OneEntry.{SpareOf, ListedAt, spare_at, spare_in, IsFresh, IsIndex, IsHome, HasSlot, IsTrue, IsTrueAnswer}
use Rattle.fkv_index.specs.Entries.{entry_at, entry_of, IsEntryFound, IsEntryAnswered, AnswersEntry, IsPublishTrue, PublishesTrue, won_entry, published_in, published_by, published, IsPublished, EntriesMove}
use Rattle.fkv_index.proofs.Orders.{same_or_not, passed_among, among_more, among_kept, beside}
use Rattle.fkv_index.proofs.BucketWords.{set_there, set_else, set_outside}
use Rattle.fkv_index.proofs.Owned.{link_there, link_else, spare_taken}
use Rattle.fkv_index.proofs.Index.{IsQuiet, among_real, among_apart}
use Rattle.fkv_index.proofs.EntryLists.{IsOf, entry_is, entry_none, entry_same}
use Rattle.fkv_index.proofs.Rows.{SeekKnows, WorkKnows}
use Rattle.fkv_index.proofs.Runs.{IsSound, event_happened, changed_quiet, sound_answers}

-- what is found is the entry
found_entry : (p : Places) (words : List ℕ) (lists : ℕ → List ℕ) (spares : ℕ → ℕ) (home : Home) (found : Found) → IsIndex p words lists spares → IsTrue p words lists home found → IsEntryFound (entry_at p words lists home) found
found_entry p words lists spares home (Slot place word) index its = elim its.1.held [
  | inl none ↦ entry_none p.buckets (bucket_words p words) home.tag home.bucket (lists home.bucket) (its.2 none) ∙ sym none
  | inr held ↦
      let slot = its.1 in
      let among = passed_among p.buckets (bucket_words p words) home.tag home.bucket (lists home.bucket) slot.bucket slot.slot slot.passed in
      entry_is p.buckets (bucket_words p words) home.tag home.bucket (lists home.bucket) slot.bucket slot.slot (index.one_entry home.bucket slot.its_home.few) among slot.in_bucket (record { some = held.some_now; its_tag = held.tag_now })
      ∙ ap (word_at words) (sym slot.its_place) ∙ its.0
]
found_entry p words lists spares home NoSlot index its = entry_none p.buckets (bucket_words p words) home.tag home.bucket (lists home.bucket) its
found_entry p words lists spares home Full index its = tt
found_entry p words lists spares home Kept index its = tt
found_entry p words lists spares home Contended index its = tt

answered_entry : (p : Places) (words : List ℕ) (lists : ℕ → List ℕ) (spares : ℕ → ℕ) (home : Home) (ask : Ask FindAnswer) → IsIndex p words lists spares → IsTrueAnswer p words lists home ask → IsEntryAnswered (entry_at p words lists home) ask
answered_entry p words lists spares home (Done answer) index its = found_entry p words lists spares home answer.found index its
answered_entry p words lists spares home ask index its = tt

pub sound_entries : (w : IndexWorld) → IsSound w → AnswersEntry w
sound_entries w sound actor x got seeks =
    answered_entry w.now.places w.now.words w.lists (spare_at w.now.actors) x.finding.home (find_next_ask w.now.places x.finding (reply_to w.now.words (find_ask x.finding))) sound.its_index (sound_answers w sound actor x got seeks)

-- what a publish is answered is so
pub sound_publishes : (w : IndexWorld) → PublishesTrue w
unfolding index_happens publish_ask publish_next_ask
sound_publishes w actor x place word entry got its = rw (got, its) (tested (word_at w.now.words place == word) refl)
  where
    tested : (b : Bool) → (word_at w.now.words place == word) ≡ b → IsPublishTrue w.now.words place word entry (slice_set w.now.words place (if b then entry else word_at w.now.words place)) (Done (if b then Won else Lost))
    tested true e = (eqb-true (word_at w.now.words place) word e, refl)
    tested false e = (λ same. absurd (grind (arith, nat_tests, e, same)), set-get_or w.now.words place 0)

-- all entries stay in their slots, and there are no others
pub record KeepsSlots (p : Places) (words after : List ℕ) (lists lists' : ℕ → List ℕ) : Type 0 where
  pub stay : (c m i : ℕ) → c < p.buckets → IsAmong p.buckets c (lists c) m → i < 7 → (bucket_words p words m i ≡ 0 → ⊥) → IsAmong p.buckets c (lists' c) m × (bucket_words p after m i ≡ bucket_words p words m i)
  pub stood : (c m i : ℕ) → c < p.buckets → IsAmong p.buckets c (lists' c) m → i < 7 → (bucket_words p after m i ≡ 0 → ⊥) → IsAmong p.buckets c (lists c) m × (bucket_words p after m i ≡ bucket_words p words m i)

keeps_entries : (p : Places) (words after : List ℕ) (lists lists' : ℕ → List ℕ) (home : Home) → home.bucket < p.buckets → HasOneEntry p.buckets (bucket_words p after) home.bucket (lists' home.bucket) → KeepsSlots p words after lists lists'
    → entry_at p after lists' home ≡ entry_at p words lists home
keeps_entries p words after lists lists' home low one keeps =
    entry_same p.buckets (bucket_words p words) (bucket_words p after) home.tag home.bucket (lists home.bucket) (lists' home.bucket) one
    (λ m i among few its. keeps.stay home.bucket m i low among few its.some) (λ m i among few its. keeps.stood home.bucket m i low among few its.some)

-- slots that have the same words, in the same lists
same_slots : (p : Places) (words after : List ℕ) (lists : ℕ → List ℕ) → ((c m i : ℕ) → c < p.buckets → IsAmong p.buckets c (lists c) m → i < 7 → bucket_words p after m i ≡ bucket_words p words m i) → KeepsSlots p words after lists lists
same_slots p words after lists same = record {
  stay = λ c m i low among few some. (among, same c m i low among few);
  stood = λ c m i low among few some. (among, same c m i low among few);
}

quiet_slots : (p : Places) (words after : List ℕ) (lists : ℕ → List ℕ) (spares : ℕ → ℕ) → IsIndex p words lists spares → IsQuiet p words after → KeepsSlots p words after lists lists
quiet_slots p words after lists spares index quiet = same_slots p words after lists (λ c m i low among few. quiet.same_slots m i (among_real c m index low among) few)

-- a bucket that somebody has to spare is empty
pub spare_fresh : (p : Places) (words : List ℕ) (lists : ℕ → List ℕ) (spares : ℕ → ℕ) (actor number : ℕ) → IsIndex p words lists spares → spares actor ≡ number → 1 ≤ number → IsFresh (bucket_words p words) (overflow_bucket p.buckets number)
spare_fresh p words lists spares actor number index its some =
    let had : 1 ≤ spares actor = subst (λ x. 1 ≤ x) (sym its) some in
    let high = spare_taken actor index.owned had in
    let few = index.few_taken in
    let owner : index.owner number ≡ SpareOf actor = subst (λ x. index.owner x ≡ SpareOf actor) its (index.owned.spared actor had) in
    index.fresh number some (omega (arith, high, few, its)) (λ c listed. apart c (sym owner ∙ listed))
  where
    apart : (c : ℕ) → SpareOf actor ≡ ListedAt c → ⊥
    apart c e = cc

linked_slots : (p : Places) (words : List ℕ) (lists : ℕ → List ℕ) (bucket m word number : ℕ) → IsFresh (bucket_words p words) (overflow_bucket p.buckets number)
    → KeepsSlots p words (slice_set words (bucket_place p m 7) word) lists (with_link lists bucket number)
linked_slots p words lists bucket m word number fresh = record {
  stay = λ c o i low among few some. elim (same_or_not c bucket) [
    | inl e ↦ (subst (λ x. IsAmong p.buckets x (with_link lists bucket number x) o) (sym e) (subst (λ x. IsAmong p.buckets bucket x o) (sym (link_there lists bucket number)) (among_kept p.buckets bucket (lists bucket) number o (subst (λ x. IsAmong p.buckets x (lists x) o) e among))), slots o i few)
    | inr e ↦ (subst (λ x. IsAmong p.buckets c x o) (sym (link_else lists bucket number c e)) among, slots o i few)
  ];
  stood = λ c o i low among few some. elim (same_or_not c bucket) [
    | inl e ↦ elim (among_more p.buckets bucket (lists bucket) number o (subst (λ x. IsAmong p.buckets bucket x o) (link_there lists bucket number) (subst (λ x. IsAmong p.buckets x (with_link lists bucket number x) o) e among))) [
      | inl before ↦ (subst (λ x. IsAmong p.buckets x (lists x) o) (sym e) before, slots o i few)
      | inr last ↦ absurd (some (slots o i few ∙ subst (λ x. bucket_words p words x i ≡ 0) (sym last) (fresh.no_entry i few)))
    ]
    | inr e ↦ (subst (λ x. IsAmong p.buckets c x o) (link_else lists bucket number c e) among, slots o i few)
  ];
}
  where
    slots : (o i : ℕ) → i < 7 → bucket_words p (slice_set words (bucket_place p m 7) word) o i ≡ bucket_words p words o i
    slots o i few = set_else p words m 7 o i word (omega arith) (omega (arith, few)) (λ a e. omega (arith, e, few))

seek_slots : (p : Places) (actor : ℕ) (words : List ℕ) (lists : ℕ → List ℕ) (spares : ℕ → ℕ) (f : Finding) (step : FindStep) → IsIndex p words lists spares → spares actor ≡ f.spare → SeekKnows p (bucket_words p words) lists f step
    → KeepsSlots p words (words_after words (find_step_ask f step)) lists (lists_sought words lists f step)
unfolding find_step_ask
seek_slots p actor words lists spares f AtRest index its knows = same_slots p words words lists (λ c m i low among few. refl)
seek_slots p actor words lists spares f (LoadsSlot slot) index its knows = rw (set-get_or words (f.base + slot) 0) (same_slots p words words lists (λ c m i low among few. refl))
seek_slots p actor words lists spares f LoadsLink index its knows = rw (set-get_or words (f.base + 7) 0) (same_slots p words words lists (λ c m i low among few. refl))
seek_slots p actor words lists spares f (LoadsTaken word) index its knows = rw (set-get_or words 10 0) (same_slots p words words lists (λ c m i low among few. refl))
seek_slots p actor words lists spares f (TakesBucket word taken) index its knows = counts (if taken_of words == taken then taken + 1 else taken_of words)
  where
    counts : (number : ℕ) → KeepsSlots p words (slice_set words 10 number) lists lists
    counts number = same_slots p words (slice_set words 10 number) lists (λ c m i low among few. set_outside p words 10 m i number (λ e. omega (arith, e)))
seek_slots p actor words lists spares f (LinksBucket word) index its knows = won (word_at words (f.base + 7) == word)
  where
    its_place : f.base + 7 ≡ bucket_place p knows.0.bucket 7
    its_place = let e = knows.0.its_base in omega (arith, e)

    won : (b : Bool) → KeepsSlots p words (slice_set words (f.base + 7) (if b then word + f.spare else word_at words (f.base + 7))) lists (if b then with_link lists f.home.bucket f.spare else lists)
    won true = rw its_place (linked_slots p words lists f.home.bucket knows.0.bucket (word + f.spare) f.spare (spare_fresh p words lists spares actor f.spare index its knows.2))
    won false = rw (set-get_or words (f.base + 7) 0) (same_slots p words words lists (λ c m i low among few. refl))

abbrev home_made : ℕ → ℕ → Home
home_made bucket tag = record { bucket = bucket; tag = tag }

-- a publish that is won
publish_entries : (p : Places) (words : List ℕ) (lists : ℕ → List ℕ) (spares spares' : ℕ → ℕ) (home : Home) (place word entry : ℕ) (its : HasSlot p (bucket_words p words) lists home place word)
    → word_at words place ≡ word → entry_tag entry ≡ home.tag → entry_addr word < entry_addr entry → IsIndex p words lists spares → IsIndex p (slice_set words place entry) lists spares'
    → IsPublished (record { home = home; before = word; entry = entry }) (entry_at p words lists) (entry_at p (slice_set words place entry) lists) p
publish_entries p words lists spares spares' home place word entry its won its_tag rises index index' = record {
  had = elim its.held [
    | inl none ↦ entry_none p.buckets (bucket_words p words) home.tag home.bucket (lists home.bucket) (lacks none) ∙ sym none
    | inr held ↦ entry_is p.buckets (bucket_words p words) home.tag home.bucket (lists home.bucket) its.bucket its.slot (index.one_entry home.bucket its.its_home.few) among its.in_bucket (record { some = held.some_now; its_tag = held.tag_now }) ∙ now
  ];
  has = entry_is p.buckets (bucket_words p (slice_set words place entry)) home.tag home.bucket (lists home.bucket) its.bucket its.slot (index'.one_entry home.bucket its.its_home.few) among its.in_bucket
      (record { some = λ none. some (sym new ∙ none); its_tag = ap entry_tag new ∙ its_tag }) ∙ new;
  others = λ other real apart. entry_same p.buckets (bucket_words p words) (bucket_words p (slice_set words place entry)) other.tag other.bucket (lists other.bucket) (lists other.bucket) (index'.one_entry other.bucket real.few)
      (λ m i there few of. (there, kept m i few (λ a b. off_old other apart real m i there of a b)))
      (λ m i there few of. (there, kept m i few (λ a b. off_new other apart real m i there of a b)));
}
  where
    among : IsAmong p.buckets home.bucket (lists home.bucket) its.bucket
    among = passed_among p.buckets (bucket_words p words) home.tag home.bucket (lists home.bucket) its.bucket its.slot its.passed

    now : bucket_words p words its.bucket its.slot ≡ word
    now = subst (λ x. word_at words x ≡ word) its.its_place won

    new : bucket_words p (slice_set words place entry) its.bucket its.slot ≡ entry
    new =
        let low = its.in_bucket in
        subst (λ x. bucket_words p (slice_set words x entry) its.bucket its.slot ≡ entry) (sym its.its_place)
        (set_there p words its.bucket its.slot entry index.enough_words (among_real home.bucket its.bucket index its.its_home.few among) (omega (arith, low)))

    kept : (m i : ℕ) → i < 7 → (m ≡ its.bucket → i ≡ its.slot → ⊥) → bucket_words p (slice_set words place entry) m i ≡ bucket_words p words m i
    kept m i few apart =
        let low = its.in_bucket in
        subst (λ x. bucket_words p (slice_set words x entry) m i ≡ bucket_words p words m i) (sym its.its_place) (set_else p words its.bucket its.slot m i entry (omega (arith, low)) (omega (arith, few)) apart)

    some : entry ≡ 0 → ⊥
    some e = let none : entry_addr entry ≡ 0 = ap entry_addr e in omega (arith, none, rises)

    lacks : word ≡ 0 → (m i : ℕ) → IsAmong p.buckets home.bucket (lists home.bucket) m → i < 7 → (bucket_words p words m i ≡ 0 → ⊥) → entry_tag (bucket_words p words m i) ≡ home.tag → ⊥
    lacks none m i there few full e =
        elim (beside p.buckets (bucket_words p words) home.tag home.bucket (lists home.bucket) its.bucket its.slot (index.filled home.bucket its.its_home.few) its.passed its.in_bucket (now ∙ none) m i there few) [
          | inl here ↦ full (subst (λ x. bucket_words p words x i ≡ 0) (sym here.0) (subst (λ x. bucket_words p words its.bucket x ≡ 0) (sym here.1) (now ∙ none)))
          | inr other ↦ elim other [
            | inl empty ↦ full empty
            | inr tag ↦ tag.1 e
          ]
        ]

    same_home : (other : Home) → other.bucket ≡ home.bucket → other.tag ≡ home.tag → other ≡ home
    same_home other a b = ap (λ x. home_made x other.tag) a ∙ ap (home_made home.bucket) b

    -- the slot has no entry of another home, before the step or after it
    off_old : (other : Home) → (other ≡ home → ⊥) → IsHome p other → (m i : ℕ) → IsAmong p.buckets other.bucket (lists other.bucket) m → IsOf other.tag (bucket_words p words m i) → m ≡ its.bucket → i ≡ its.slot → ⊥
    off_old other apart real m i there of a b =
        let bucket : other.bucket ≡ home.bucket = among_apart other.bucket home.bucket its.bucket index real.few its.its_home.few (subst (IsAmong p.buckets other.bucket (lists other.bucket)) a there) among in
        let at_it : bucket_words p words m i ≡ word = subst (λ x. bucket_words p words x i ≡ word) (sym a) (subst (λ x. bucket_words p words its.bucket x ≡ word) (sym b) now) in
        elim its.held [
          | inl none ↦ of.some (at_it ∙ none)
          | inr held ↦ apart (same_home other bucket (sym of.its_tag ∙ ap entry_tag at_it ∙ held.its_tag))
        ]

    off_new : (other : Home) → (other ≡ home → ⊥) → IsHome p other → (m i : ℕ) → IsAmong p.buckets other.bucket (lists other.bucket) m → IsOf other.tag (bucket_words p (slice_set words place entry) m i) → m ≡ its.bucket → i ≡ its.slot → ⊥
    off_new other apart real m i there of a b =
        let bucket : other.bucket ≡ home.bucket = among_apart other.bucket home.bucket its.bucket index real.few its.its_home.few (subst (IsAmong p.buckets other.bucket (lists other.bucket)) a there) among in
        let at_it : bucket_words p (slice_set words place entry) m i ≡ entry = subst (λ x. bucket_words p (slice_set words place entry) x i ≡ entry) (sym a) (subst (λ x. bucket_words p (slice_set words place entry) its.bucket x ≡ entry) (sym b) new) in
        apart (same_home other bucket (sym of.its_tag ∙ ap entry_tag at_it ∙ its_tag))

-- one ask of an actor
work_entries : (p : Places) (actor : ℕ) (words : List ℕ) (lists : ℕ → List ℕ) (spares spares' : ℕ → ℕ) (f : Finding) (work : SlotWork) → IsIndex p words lists spares → spares actor ≡ f.spare → WorkKnows p (bucket_words p words) lists f work
    → IsIndex p (actor_step p words f work).words (lists_by words lists f work) spares'
    → EntriesMove (published_in words f.home work) (entry_at p words lists) (entry_at p (actor_step p words f work).words (lists_by words lists f work)) p
unfolding publish_ask publish_next_ask
work_entries p actor words lists spares spares' f Seeks index its knows index' = λ home real.
    keeps_entries p words (words_after words (find_ask f)) lists (lists_sought words lists f f.step) home real.few (index'.one_entry home.bucket real.few) (seek_slots p actor words lists spares f f.step index its knows)
work_entries p actor words lists spares spares' f (Holds place word) index its knows index' = λ home real. refl
work_entries p actor words lists spares spares' f (Enters publish.AtRest) index its knows index' = λ home real. refl
work_entries p actor words lists spares spares' f (Enters (publish.SwapsEntry place word entry)) index its knows index' = won (word_at words place == word) refl index'
  where
    won : (b : Bool) → (word_at words place == word) ≡ b → IsIndex p (slice_set words place (if b then entry else word_at words place)) lists spares'
        → EntriesMove (won_entry (record { home = f.home; before = word; entry = entry }) (Done (if b then Won else Lost))) (entry_at p words lists) (entry_at p (slice_set words place (if b then entry else word_at words place)) lists) p
    won true e index' = publish_entries p words lists spares spares' f.home place word entry knows.0 (eqb-true (word_at words place) word e) knows.1 knows.2 index index'
    won false e index' = rw (set-get_or words place 0) (λ home real. refl)

moved_entries : (w : IndexWorld) (actor : ℕ) (found : Option IndexActor) → slice_get w.now.actors actor ≡ found → IsSound w → IsSound (record { now = moved w.now actor found; lists = lists_moved w.now w.lists found })
    → EntriesMove (published_by w.now found) (entry_of w) (entry_of (record { now = moved w.now actor found; lists = lists_moved w.now w.lists found })) w.now.places
moved_entries w actor None got sound after = λ home real. refl
moved_entries w actor (Some x) got sound after =
    work_entries w.now.places actor w.now.words w.lists (spare_at w.now.actors) (spare_at (slice_set w.now.actors actor (actor_after w.now.places w.now.words x x.work))) x.finding x.work sound.its_index (ap spare_in got) (sound.rows actor x got) after.its_index

-- the beginning of a search or a publish changes no word
begun_same : (w : IndexWorld) (actor : ℕ) (home : Home) (purpose : Purpose) (found : Option IndexActor) (its : Home) → entry_of (record w { now = find_begun w.now actor home purpose found }) its ≡ entry_of w its
begun_same w actor home purpose None its = refl
begun_same w actor home purpose (Some x) its = tested (may_find w.now.places home x)
  where
    tested : (b : Bool) → entry_of (record w { now = if b then record w.now { actors = slice_set w.now.actors actor (record x { finding = first_finding w.now.places home purpose x.spare; work = Seeks; purpose = purpose }) } else w.now }) its ≡ entry_of w its
    tested true = refl
    tested false = refl

publish_same : (w : IndexWorld) (actor addr : ℕ) (found : Option IndexActor) (its : Home) → entry_of (record w { now = publish_begun w.now actor addr found }) its ≡ entry_of w its
publish_same w actor addr None its = refl
publish_same w actor addr (Some x) its = refl

pub event_entries : (w : IndexWorld) (event : IndexEvent) → IsSound w → EntriesMove (published w.now event) (entry_of w) (entry_of (index_happens w event)) w.now.places
unfolding index_happens
event_entries w (BeginsFind actor home purpose) sound = λ its real. begun_same w actor home purpose (slice_get w.now.actors actor) its
event_entries w (BeginsPublish actor addr) sound = λ its real. publish_same w actor addr (slice_get w.now.actors actor) its
event_entries w (Moves actor) sound = moved_entries w actor (slice_get w.now.actors actor) refl sound (event_happened w (Moves actor) sound).sound
event_entries w (Changes place word) sound = cases (is_barred w.now.places w.now.words place word) refl
  where
    one_kept : KeepsSlots w.now.places w.now.words (slice_set w.now.words place word) w.lists w.lists → (home : Home) → IsHome w.now.places home
        → HasOneEntry w.now.places.buckets (bucket_words w.now.places (slice_set w.now.words place word)) home.bucket (w.lists home.bucket)
    one_kept keeps home real m k i j a z low few some other e =
        let here = keeps.stood home.bucket m i real.few a low some in
        let there = keeps.stood home.bucket k j real.few z few other in
        sound.its_index.one_entry home.bucket real.few m k i j a z low few (λ none. some (here.1 ∙ none)) (λ none. other (there.1 ∙ none)) (ap entry_tag (sym here.1) ∙ e ∙ ap entry_tag there.1)

    cases : (b : Bool) → is_barred w.now.places w.now.words place word ≡ b → (home : Home) → IsHome w.now.places home → entry_of (record w { now = if b then w.now else record w.now { words = slice_set w.now.words place word } }) home ≡ entry_of w home
    cases true e home real = refl
    cases false e home real =
        let p : Places = w.now.places in
        let quiet = changed_quiet p w.now.words place word sound.its_index.enough_words e in
        let keeps = quiet_slots p w.now.words (slice_set w.now.words place word) w.lists (spare_at w.now.actors) sound.its_index quiet in
        entry_same p.buckets (bucket_words p w.now.words) (bucket_words p (slice_set w.now.words place word)) home.tag home.bucket (w.lists home.bucket) (w.lists home.bucket)
        (one_kept keeps home real)
        (λ m i among few its. keeps.stay home.bucket m i real.few among few its.some) (λ m i among few its. keeps.stood home.bucket m i real.few among few its.some)
