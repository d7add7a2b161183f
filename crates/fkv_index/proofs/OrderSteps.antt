-- What each event does to the order of a bucket's slots.
use Rattle.std.proofs.Common.{◌≡◌, ℕ, ◌+◌, ◌<◌, List, [], ◌∷◌, ◌++◌, refl, inl, inr, arith, sym, ap, ◌∙◌, subst, Bool, true, false, eqb-true}
use Rattle.std.specs.Prelude.{Option, Some, None, slice_get, slice_set, replicate, ◌==◌, if◌then◌else◌}
use Rattle.std.proofs.lemmas.List.{set-get_or}
use Rattle.fkv_plane.specs.declared.asks.Ask.TheVariants.{Done}
use Rattle.fkv_plane.specs.declared.places.Places.{Places}
use Rattle.fkv_plane.specs.Places.{bucket_place}
use Rattle.fkv_plane.specs.Asked.{word_at, words_after}
use Rattle.fkv_index.specs.declared.homes.Home.{Home}
use Rattle.fkv_index.specs.declared.finding.Purpose.{Purpose}
use Rattle.fkv_index.specs.declared.finding.FindStep.{FindStep}
use Rattle.fkv_index.specs.declared.finding.FindStep.TheVariants.{AtRest, LoadsSlot, LoadsLink, LoadsTaken, TakesBucket, LinksBucket}
use Rattle.fkv_index.specs.declared.finding.Finding.{Finding}
use Rattle.fkv_index.specs.declared.publishing.PublishAnswer.TheVariants.{Won, Lost}
use Rattle.fkv_index.specs.declared.publishing.Publishing.TheVariants as publish
use Rattle.fkv_index.specs.Finding.{find_step_ask, first_finding}
use Rattle.fkv_index.specs.Publishing.{publish_ask, publish_next_ask}
use Rattle.fkv_index.specs.Buckets.{bucket_words, overflow_bucket, IsAmong}
use Rattle.fkv_index.specs.IndexWorld.{SlotWork, Seeks, Holds, Enters, IndexActor, IndexEvent, BeginsFind, BeginsPublish, Moves, Changes, IndexWorld, taken_of, is_barred, may_find, find_begun, publish_begun, with_link, lists_sought, lists_by, actor_step, moved, lists_moved, index_happens}
use Rattle.fkv_index.specs.OneEntry.{spare_at, spare_in, IsFresh, IsIndex, HasSlot}
use Rattle.fkv_index.specs.Entries.{slots_from, order_of, won_entry, published_in, published_by, published}
use Rattle.fkv_index.specs.SlotOrders.{OrdersFilled, OrdersHaveTagsOnce, IsOneChanged, OrdersMove}
use Rattle.fkv_index.proofs.Orders.{same_or_not, passed_among}
use Rattle.fkv_index.proofs.BucketWords.{set_there, set_else, set_outside}
use Rattle.fkv_index.proofs.Owned.{listed_taken, link_there, link_else}
use Rattle.fkv_index.proofs.Index.{among_real, among_apart}
use Rattle.fkv_index.proofs.OrderLists.{slots_empty, order_same, order_more, AllApart, all_apart, order_set, order_filled, order_once}
use Rattle.fkv_index.proofs.Rows.{SeekKnows, WorkKnows}
use Rattle.fkv_index.proofs.Runs.{IsSound, changed_quiet}
use Rattle.fkv_index.proofs.EntrySteps.{spare_fresh}

pub sound_filled : (w : IndexWorld) → IsSound w → OrdersFilled w
sound_filled w sound bucket low = order_filled w.now.places.buckets (bucket_words w.now.places w.now.words) bucket (w.lists bucket) (sound.its_index.filled bucket low)

apart_at : (p : Places) (words : List ℕ) (lists : ℕ → List ℕ) (spares : ℕ → ℕ) (c : ℕ) → IsIndex p words lists spares → c < p.buckets → AllApart p.buckets c (lists c)
apart_at p words lists spares c index low = all_apart p.buckets c (lists c) (index.owned.once c) (λ n member. (listed_taken c n index.owned member).0) (λ n member e. omega (arith, e, low))

pub sound_tags : (w : IndexWorld) → IsSound w → OrdersHaveTagsOnce w
sound_tags w sound bucket low =
    order_once w.now.places.buckets (bucket_words w.now.places w.now.words) bucket (w.lists bucket) (apart_at w.now.places w.now.words w.lists (spare_at w.now.actors) bucket sound.its_index low) (sound.its_index.one_entry bucket low)

-- slots that have the same words, in the same lists
kept : (p : Places) (words after : List ℕ) (lists : ℕ → List ℕ) → ((c m i : ℕ) → c < p.buckets → IsAmong p.buckets c (lists c) m → i < 7 → bucket_words p after m i ≡ bucket_words p words m i) → OrdersMove None p words after lists lists
kept p words after lists same c low = inl (refl, order_same p.buckets (bucket_words p words) (bucket_words p after) c (lists c) (λ m i among few. same c m i low among few))

same_words : (p : Places) (words : List ℕ) (lists : ℕ → List ℕ) → OrdersMove None p words words lists lists
same_words p words lists = kept p words words lists (λ c m i low among few. refl)

-- a bucket that is linked is empty
linked : (p : Places) (words : List ℕ) (lists : ℕ → List ℕ) (bucket m word number : ℕ) → IsFresh (bucket_words p words) (overflow_bucket p.buckets number)
    → OrdersMove None p words (slice_set words (bucket_place p m 7) word) lists (with_link lists bucket number)
linked p words lists bucket m word number fresh c low = elim (same_or_not c bucket) [
  | inl e ↦ inr (number, its_list e, ap (order_of p.buckets (bucket_words p (slice_set words (bucket_place p m 7) word)) c) (its_list e) ∙ longer)
  | inr e ↦ inl (link_else lists bucket number c e, ap (order_of p.buckets (bucket_words p (slice_set words (bucket_place p m 7) word)) c) (link_else lists bucket number c e) ∙ stays)
]
  where
    slots : (o i : ℕ) → i < 7 → bucket_words p (slice_set words (bucket_place p m 7) word) o i ≡ bucket_words p words o i
    slots o i few = set_else p words m 7 o i word (omega arith) (omega (arith, few)) (λ a e. omega (arith, e, few))

    its_list : c ≡ bucket → with_link lists bucket number c ≡ lists c ++ number ∷ []
    its_list e = subst (λ x. with_link lists bucket number x ≡ lists x ++ number ∷ []) (sym e) (link_there lists bucket number)

    stays : order_of p.buckets (bucket_words p (slice_set words (bucket_place p m 7) word)) c (lists c) ≡ order_of p.buckets (bucket_words p words) c (lists c)
    stays = order_same p.buckets (bucket_words p words) (bucket_words p (slice_set words (bucket_place p m 7) word)) c (lists c) (λ o i among few. slots o i few)

    longer : order_of p.buckets (bucket_words p (slice_set words (bucket_place p m 7) word)) c (lists c ++ number ∷ []) ≡ order_of p.buckets (bucket_words p words) c (lists c) ++ replicate 7 0
    longer =
        order_more p.buckets (bucket_words p (slice_set words (bucket_place p m 7) word)) c (lists c) number
        ∙ ap (λ x. x ++ slots_from (bucket_words p (slice_set words (bucket_place p m 7) word)) (overflow_bucket p.buckets number) 0 7) stays
        ∙ ap (λ x. order_of p.buckets (bucket_words p words) c (lists c) ++ x)
        (slots_empty (bucket_words p (slice_set words (bucket_place p m 7) word)) (overflow_bucket p.buckets number) 0 7 (λ i first few. slots (overflow_bucket p.buckets number) i (omega (arith, few)) ∙ fresh.no_entry i (omega (arith, few))))

seek_orders : (p : Places) (actor : ℕ) (words : List ℕ) (lists : ℕ → List ℕ) (spares : ℕ → ℕ) (f : Finding) (step : FindStep) → IsIndex p words lists spares → spares actor ≡ f.spare → SeekKnows p (bucket_words p words) lists f step
    → OrdersMove None p words (words_after words (find_step_ask f step)) lists (lists_sought words lists f step)
unfolding find_step_ask
seek_orders p actor words lists spares f AtRest index its knows = same_words p words lists
seek_orders p actor words lists spares f (LoadsSlot slot) index its knows = rw (set-get_or words (f.base + slot) 0) (same_words p words lists)
seek_orders p actor words lists spares f LoadsLink index its knows = rw (set-get_or words (f.base + 7) 0) (same_words p words lists)
seek_orders p actor words lists spares f (LoadsTaken word) index its knows = rw (set-get_or words 10 0) (same_words p words lists)
seek_orders p actor words lists spares f (TakesBucket word taken) index its knows = counts (if taken_of words == taken then taken + 1 else taken_of words)
  where
    counts : (number : ℕ) → OrdersMove None p words (slice_set words 10 number) lists lists
    counts number = kept p words (slice_set words 10 number) lists (λ c m i low among few. set_outside p words 10 m i number (λ e. omega (arith, e)))
seek_orders p actor words lists spares f (LinksBucket word) index its knows = won (word_at words (f.base + 7) == word)
  where
    its_place : f.base + 7 ≡ bucket_place p knows.0.bucket 7
    its_place = let e = knows.0.its_base in omega (arith, e)

    won : (b : Bool) → OrdersMove None p words (slice_set words (f.base + 7) (if b then word + f.spare else word_at words (f.base + 7))) lists (if b then with_link lists f.home.bucket f.spare else lists)
    won true = rw its_place (linked p words lists f.home.bucket knows.0.bucket (word + f.spare) f.spare (spare_fresh p words lists spares actor f.spare index its knows.2))
    won false = rw (set-get_or words (f.base + 7) 0) (same_words p words lists)

-- a publish that is won
publish_orders : (p : Places) (words : List ℕ) (lists : ℕ → List ℕ) (spares : ℕ → ℕ) (home : Home) (place word entry : ℕ) (its : HasSlot p (bucket_words p words) lists home place word)
    → word_at words place ≡ word → IsIndex p words lists spares → OrdersMove (Some (record { home = home; before = word; entry = entry })) p words (slice_set words place entry) lists lists
publish_orders p words lists spares home place word entry its won index c low = record {
  same_list = refl;
  here = λ e. subst (λ x. IsOneChanged x entry (order_of p.buckets (bucket_words p words) c (lists c)) (order_of p.buckets (bucket_words p (slice_set words place entry)) c (lists c))) now
      (order_set p.buckets (bucket_words p words) (bucket_words p (slice_set words place entry)) c (lists c) its.bucket its.slot entry (apart_at p words lists spares c index low) (subst (λ x. IsAmong p.buckets x (lists x) its.bucket) (sym e) among) its.in_bucket new
      (λ o i there few other. stays o i few other));
  elsewhere = λ e. order_same p.buckets (bucket_words p words) (bucket_words p (slice_set words place entry)) c (lists c)
      (λ o i there few. stays o i few (λ a b. e (among_apart c home.bucket its.bucket index low its.its_home.few (subst (IsAmong p.buckets c (lists c)) a there) among)));
}
  where
    among : IsAmong p.buckets home.bucket (lists home.bucket) its.bucket
    among = passed_among p.buckets (bucket_words p words) home.tag home.bucket (lists home.bucket) its.bucket its.slot its.passed

    now : bucket_words p words its.bucket its.slot ≡ word
    now = subst (λ x. word_at words x ≡ word) its.its_place won

    new : bucket_words p (slice_set words place entry) its.bucket its.slot ≡ entry
    new =
        let small = its.in_bucket in
        subst (λ x. bucket_words p (slice_set words x entry) its.bucket its.slot ≡ entry) (sym its.its_place)
        (set_there p words its.bucket its.slot entry index.enough_words (among_real home.bucket its.bucket index its.its_home.few among) (omega (arith, small)))

    stays : (o i : ℕ) → i < 7 → (o ≡ its.bucket → i ≡ its.slot → ⊥) → bucket_words p (slice_set words place entry) o i ≡ bucket_words p words o i
    stays o i few other =
        let small = its.in_bucket in
        subst (λ x. bucket_words p (slice_set words x entry) o i ≡ bucket_words p words o i) (sym its.its_place) (set_else p words its.bucket its.slot o i entry (omega (arith, small)) (omega (arith, few)) other)

-- one ask of an actor
work_orders : (p : Places) (actor : ℕ) (words : List ℕ) (lists : ℕ → List ℕ) (spares : ℕ → ℕ) (f : Finding) (work : SlotWork) → IsIndex p words lists spares → spares actor ≡ f.spare → WorkKnows p (bucket_words p words) lists f work
    → OrdersMove (published_in words f.home work) p words (actor_step p words f work).words lists (lists_by words lists f work)
unfolding publish_ask publish_next_ask
work_orders p actor words lists spares f Seeks index its knows = seek_orders p actor words lists spares f f.step index its knows
work_orders p actor words lists spares f (Holds place word) index its knows = same_words p words lists
work_orders p actor words lists spares f (Enters publish.AtRest) index its knows = same_words p words lists
work_orders p actor words lists spares f (Enters (publish.SwapsEntry place word entry)) index its knows = won (word_at words place == word) refl
  where
    won : (b : Bool) → (word_at words place == word) ≡ b
        → OrdersMove (won_entry (record { home = f.home; before = word; entry = entry }) (Done (if b then Won else Lost))) p words (slice_set words place (if b then entry else word_at words place)) lists lists
    won true e = publish_orders p words lists spares f.home place word entry knows.0 (eqb-true (word_at words place) word e) index
    won false e = rw (set-get_or words place 0) (same_words p words lists)

moved_orders : (w : IndexWorld) (actor : ℕ) (found : Option IndexActor) → slice_get w.now.actors actor ≡ found → IsSound w
    → OrdersMove (published_by w.now found) w.now.places w.now.words (moved w.now actor found).words w.lists (lists_moved w.now w.lists found)
moved_orders w actor None got sound = same_words w.now.places w.now.words w.lists
moved_orders w actor (Some x) got sound = work_orders w.now.places actor w.now.words w.lists (spare_at w.now.actors) x.finding x.work sound.its_index (ap spare_in got) (sound.rows actor x got)

-- the beginning of a search or a publish changes no word
begun_words : (w : IndexWorld) (actor : ℕ) (home : Home) (purpose : Purpose) (found : Option IndexActor) → (find_begun w.now actor home purpose found).words ≡ w.now.words
begun_words w actor home purpose None = refl
begun_words w actor home purpose (Some x) = tested (may_find w.now.places home x)
  where
    tested : (b : Bool) → (if b then record w.now { actors = slice_set w.now.actors actor (record x { finding = first_finding w.now.places home purpose x.spare; work = Seeks; purpose = purpose }) } else w.now).words ≡ w.now.words
    tested true = refl
    tested false = refl

publish_words : (w : IndexWorld) (actor addr : ℕ) (found : Option IndexActor) → (publish_begun w.now actor addr found).words ≡ w.now.words
publish_words w actor addr None = refl
publish_words w actor addr (Some x) = refl

pub event_orders : (w : IndexWorld) (event : IndexEvent) → IsSound w → OrdersMove (published w.now event) w.now.places w.now.words (index_happens w event).now.words w.lists (index_happens w event).lists
unfolding index_happens
event_orders w (BeginsFind actor home purpose) sound = subst (λ x. OrdersMove None w.now.places w.now.words x w.lists w.lists) (sym (begun_words w actor home purpose (slice_get w.now.actors actor))) (same_words w.now.places w.now.words w.lists)
event_orders w (BeginsPublish actor addr) sound = subst (λ x. OrdersMove None w.now.places w.now.words x w.lists w.lists) (sym (publish_words w actor addr (slice_get w.now.actors actor))) (same_words w.now.places w.now.words w.lists)
event_orders w (Moves actor) sound = moved_orders w actor (slice_get w.now.actors actor) refl sound
event_orders w (Changes place word) sound = cases (is_barred w.now.places w.now.words place word) refl
  where
    cases : (b : Bool) → is_barred w.now.places w.now.words place word ≡ b → OrdersMove None w.now.places w.now.words (if b then w.now else record w.now { words = slice_set w.now.words place word }).words w.lists w.lists
    cases true e = same_words w.now.places w.now.words w.lists
    cases false e =
        let quiet = changed_quiet w.now.places w.now.words place word sound.its_index.enough_words e in
        kept w.now.places w.now.words (slice_set w.now.words place word) w.lists (λ c m i low among few. quiet.same_slots m i (among_real c m sound.its_index low among) few)
