-- A search that loads an eighth word with no link behind it has met no entry of its home: as a search that may link none, it would find no slot.
use Rattle.std.proofs.Common.{◌≡◌, ℕ, zero, suc, ◌+◌, ◌≤◌, ◌∙◌, List, [], ◌∷◌, refl, ap, subst}
use Rattle.std.specs.Prelude.{Some, if◌then◌else◌, ◌==◌, map, slice_get}
use Rattle.fkv_plane.specs.declared.asks.Ask.TheVariants.{Done}
use Rattle.fkv_plane.specs.declared.places.Places.{Places}
use Rattle.fkv_plane.specs.Asked.{reply_to, word_at}
use Rattle.fkv_index.specs.declared.finding.FindStep.{FindStep}
use Rattle.fkv_index.specs.declared.finding.FindStep.TheVariants.{AtRest, LoadsSlot, LoadsLink, LoadsTaken, TakesBucket, LinksBucket}
use Rattle.fkv_index.specs.declared.finding.Finding.{Finding}
use Rattle.fkv_index.specs.declared.finding.Found.TheVariants.{NoSlot}
use Rattle.fkv_index.specs.declared.finding.Linking.TheVariants.{Never}
use Rattle.fkv_index.specs.Buckets.{bucket_words}
use Rattle.fkv_index.specs.Entries.{IsEntryAnswered, entry_of}
use Rattle.fkv_index.specs.Finding.{ended_list, entered, find_ask, find_led, find_next_ask, find_step_ask, led_ask}
use Rattle.fkv_index.specs.IndexWorld.{Enters, Holds, IndexActor, IndexWorld, Seeks, SlotWork}
use Rattle.fkv_index.specs.OneEntry.{IsIndex, spare_at}
use Rattle.fkv_index.specs.Slots.{link_of}
use Rattle.fkv_index.proofs.Shown.{IsBegun, IsSound, SeekKnows, Stands, WorkKnows, sound_entries}

-- the search that may link none
abbrev unlinked_search : Finding → Finding
unlinked_search f = record f { linking = Never }

abbrev unlinked : IndexActor → IndexActor
unlinked x = record x { finding = unlinked_search x.finding }

abbrev all_unlinked : IndexWorld → IndexWorld
all_unlinked w = record w { now = record w.now { actors = map unlinked w.now.actors } }

-- ---- the actors
got_unlinked : (actors : List IndexActor) (i : ℕ) (x : IndexActor) → slice_get actors i ≡ Some x → slice_get (map unlinked actors) i ≡ Some (unlinked x)
got_unlinked [] i x got = cc
got_unlinked (y ∷ rest) zero x got = let same : y ≡ x = cc in ap (λ (z : IndexActor). Some (unlinked z)) same
got_unlinked (y ∷ rest) (suc i) x got = got_unlinked rest i x got

record IsUnlinked (actors : List IndexActor) (i : ℕ) (y : IndexActor) : Type 0 where
  x : IndexActor
  got : slice_get actors i ≡ Some x
  is_so : unlinked x ≡ y

was_unlinked : (actors : List IndexActor) (i : ℕ) (y : IndexActor) → slice_get (map unlinked actors) i ≡ Some y → IsUnlinked actors i y
was_unlinked [] i y got = cc
was_unlinked (x ∷ rest) zero y got = let same : unlinked x ≡ y = cc in record { x = x; got = refl; is_so = same }
was_unlinked (x ∷ rest) (suc i) y got = let its = was_unlinked rest i y got in record { x = its.x; got = its.got; is_so = its.is_so }

spare_same : (actors : List IndexActor) (i : ℕ) → spare_at (map unlinked actors) i ≡ spare_at actors i
spare_same [] i = refl
spare_same (x ∷ rest) zero = refl
spare_same (x ∷ rest) (suc i) = spare_same rest i

-- ---- the index
index_same : (p : Places) (words : List ℕ) (lists : ℕ → List ℕ) (spares other : ℕ → ℕ) → ((i : ℕ) → other i ≡ spares i) → IsIndex p words lists spares → IsIndex p words lists other
index_same p words lists spares other same its = record {
  enough_words = its.enough_words;
  few_taken = its.few_taken;
  linked = its.linked;
  filled = its.filled;
  one_entry = its.one_entry;
  no_others = its.no_others;
  entries = its.entries;
  owner = its.owner;
  owned = record {
    listed = its.owned.listed;
    in_list = its.owned.in_list;
    once = its.owned.once;
    spared = λ actor some. rw (same actor) (its.owned.spared actor (subst (λ (n : ℕ). 1 ≤ n) (same actor) some));
    is_spare = λ actor number owns. same actor ∙ its.owned.is_spare actor number owns;
    taken_some = its.owned.taken_some;
    none_else = its.owned.none_else;
  };
  fresh = its.fresh;
}

-- ---- and what each knows
stands_so : (p : Places) (g : ℕ → ℕ → ℕ) (lists : ℕ → List ℕ) (f : Finding) (slot : ℕ) → Stands p g lists f slot → Stands p g lists (unlinked_search f) slot
stands_so p g lists f slot its = record { its_home = its.its_home; bucket = its.bucket; its_base = its.its_base; passed = its.passed; depth = its.depth; deep = its.deep; budget = its.budget }

seeks_so : (p : Places) (g : ℕ → ℕ → ℕ) (lists : ℕ → List ℕ) (f : Finding) (step : FindStep) → SeekKnows p g lists f step → SeekKnows p g lists (unlinked_search f) step
seeks_so p g lists f AtRest knows = tt
seeks_so p g lists f (LoadsSlot slot) knows = (knows.0, stands_so p g lists f slot knows.1)
seeks_so p g lists f LoadsLink knows = stands_so p g lists f 7 knows
seeks_so p g lists f (LoadsTaken word) knows = (stands_so p g lists f 7 knows.0, knows.1)
seeks_so p g lists f (TakesBucket word taken) knows = (stands_so p g lists f 7 knows.0, knows.1, knows.2, knows.3)
seeks_so p g lists f (LinksBucket word) knows = (stands_so p g lists f 7 knows.0, knows.1, knows.2)

knows_so : (p : Places) (g : ℕ → ℕ → ℕ) (lists : ℕ → List ℕ) (f : Finding) (work : SlotWork) → WorkKnows p g lists f work → WorkKnows p g lists (unlinked_search f) work
knows_so p g lists f Seeks knows = seeks_so p g lists f f.step knows
knows_so p g lists f (Holds place word) knows = knows
knows_so p g lists f (Enters step) knows = knows

begun_so : (x : IndexActor) → IsBegun x → IsBegun (unlinked x)
begun_so x its = record { its_spare = its.its_spare; its_reading = λ reads. record { never = refl; loads = (its.its_reading reads).loads } }

sound_so : (w : IndexWorld) → IsSound w → IsSound (all_unlinked w)
sound_so w sound = record {
  its_index = index_same w.now.places w.now.words w.lists (spare_at w.now.actors) (spare_at (map unlinked w.now.actors)) (spare_same w.now.actors) sound.its_index;
  rows = λ i y got.
      let its = was_unlinked w.now.actors i y got in
      subst (λ (z : IndexActor). WorkKnows w.now.places (bucket_words w.now.places w.now.words) w.lists z.finding z.work) its.is_so
      (knows_so w.now.places (bucket_words w.now.places w.now.words) w.lists its.x.finding its.x.work (sound.rows i its.x its.got));
  begun = λ i y got. let its = was_unlinked w.now.actors i y got in subst IsBegun its.is_so (begun_so its.x (sound.begun i its.x its.got));
}

-- ---- it finds no slot
asks_none : (p : Places) (words : List ℕ) (f : Finding) → f.linking ≡ Never → f.step ≡ LoadsLink → link_of (word_at words (f.base + 7)) ≡ 0
    → find_next_ask p f (reply_to words (find_ask f)) ≡ Done (record { found = NoSlot; spare = f.spare })
unfolding find_led find_step_ask
asks_none p words f none at nowhere =
    ap (λ (step : FindStep). led_ask (find_led p f step (reply_to words (find_step_ask f step)))) at
    ∙ ap (λ (n : ℕ). led_ask (if n == 0 then ended_list f (word_at words (f.base + 7)) f.linking else entered p f n)) nowhere
    ∙ ap (λ (linking : _). led_ask (ended_list f (word_at words (f.base + 7)) linking)) none

pub no_entry : (w : IndexWorld) (i : ℕ) (x : IndexActor) → IsSound w → slice_get w.now.actors i ≡ Some x → x.work ≡ Seeks → x.finding.step ≡ LoadsLink → link_of (word_at w.now.words (x.finding.base + 7)) ≡ 0
    → entry_of w x.finding.home ≡ 0
no_entry w i x sound got seeks at nowhere =
    let f : Finding = unlinked_search x.finding in
    subst (IsEntryAnswered (entry_of w x.finding.home)) (asks_none w.now.places w.now.words f refl at nowhere)
    (sound_entries (all_unlinked w) (sound_so w sound) i (unlinked x) (got_unlinked w.now.actors i x got) seeks)
