-- What a copy has at each moment of a run.
use Rattle.std.proofs.Common.{◌≡◌, ℕ, ◌+◌, ◌^◌, ◌<◌, List, [], ◌∷◌, ◌++◌, length, refl, inl, inr, arith, sym, ap, ◌∙◌, subst}
use Rattle.std.specs.Prelude.{slice_index}
use Rattle.std.specs.List.{AllByRecursion}
use Rattle.fkv_plane.specs.declared.places.Places.{Places}
use Rattle.fkv_plane.specs.Asked.{word_at, reply_to}
use Rattle.fkv_index.specs.declared.homes.Home.{Home}
use Rattle.fkv_index.specs.Slots.{entry_addr, entry_tag}
use Rattle.fkv_index.specs.IndexWorld.{IndexEvent, index_happens, index_opening}
use Rattle.fkv_index.specs.OneEntry.{IsIndex, IsIndexAt, IsHome, spare_at}
use Rattle.fkv_index.specs.Entries.{entry_at}
use Rattle.fkv_index.specs.SlotOrders.{slot_order}
use Rattle.fkv_index.proofs.Shown.{IsSound, event_happened, opening_sound, sound_tags}
use Rattle.fkv_checkpoint.specs.declared.copying.CopyStep.{CopyStep}
use Rattle.fkv_checkpoint.specs.declared.copying.CopyStep.TheVariants.{Ended, LoadsSlot, LoadsLink}
use Rattle.fkv_checkpoint.specs.declared.copying.Copying.{Copying}
use Rattle.fkv_checkpoint.specs.Triples.{CopiedEntry}
use Rattle.fkv_checkpoint.specs.Copying.{copy_step_ask, copied_at}
use Rattle.fkv_checkpoint.specs.CopyWorld.{CopyWorld, CopyEvent, CopyBegins, CopyMoves, IndexMoves, copy_happens, copy_run, copy_opening}
use Rattle.fkv_checkpoint.specs.Fuzzy.{begun_at, IsEntryThen, HasStood, CopiedHaveStood, HasCopy, NoneLeftOut}
use Rattle.fkv_checkpoint.proofs.SlotPlaces.{entry_found, entry_there}
use Rattle.fkv_checkpoint.proofs.CopySteps.{StandsHere, IsBefore, home_at, IsCopied, all_more, index_grown, copy_begins, slot_cases, slot_loaded}
use Rattle.fkv_checkpoint.proofs.CopyLinks.{step_copied}

-- the index is in order, as it was when the copy began, and the copy has what it should
pub record IsCopySound (opening : CopyWorld) (events : List CopyEvent) : Type 0 where
  pub its_index : IsSound (copy_run opening events).index
  pub its_begin : IsSound (begun_at opening events)
  pub same_places : (begun_at opening events).now.places ≡ (copy_run opening events).index.now.places
  pub copied : IsCopied (copy_run opening events).index.now.places (begun_at opening events).now.words (begun_at opening events).lists (copy_run opening events).index.now.words (copy_run opening events).index.lists
      (copy_run opening events).copying (copy_run opening events).copying.step (copy_run opening events).triples
  pub stood : CopiedHaveStood opening events

-- what a load copies is the entry of its home at that step
slot_stood : (w : CopyWorld) (c : Copying) (k word : ℕ) → c.bucket < w.index.now.places.buckets → IsSound w.index → (k < length (slot_order w.index.now.places w.index.now.words w.index.lists c.bucket))
    → slice_index (slot_order w.index.now.places w.index.now.words w.index.lists c.bucket) k ≡ word → (word ≡ 0 → ⊥) → entry_tag word < 2 ^ 15 → IsEntryThen w.index (record { home = home_at c.bucket word; addr = entry_addr word })
slot_stood w c k word few sound low its some fits =
    let there = entry_there (entry_tag word) (slot_order w.index.now.places w.index.now.words w.index.lists c.bucket) k (sound_tags w.index sound c.bucket few) low (λ none. some (sym its ∙ none)) (ap entry_tag its) ∙ its in
    record { its_home = record { few = few; fits = fits }; some = λ none. some (sym there ∙ none); its_addr = ap entry_addr there }

step_stood : (w : CopyWorld) (step : CopyStep) (b k : ℕ) → IsSound w.index → StandsHere w.index.now.places w.index.lists w.copying step b k
    → AllByRecursion (IsEntryThen w.index) (copied_at w.copying step (reply_to w.index.now.words (copy_step_ask w.copying.base step)))
unfolding copy_step_ask copied_at
step_stood w Ended b k sound stands = tt
step_stood w (LoadsSlot slot) b k sound stands =
    let c = w.copying in
    let word = word_at w.index.now.words (c.base + slot) in
    let loaded = slot_loaded w.index.now.places w.index.now.words w.index.lists (spare_at w.index.now.actors) c.base c.bucket c.links slot k sound.its_index stands.1 stands.2 stands.3 in
    elim (slot_cases c.bucket word loaded.2) [
      | inl none ↦ subst (AllByRecursion (IsEntryThen w.index)) (sym none.1) tt
      | inr entry ↦ subst (AllByRecursion (IsEntryThen w.index)) (sym entry.2) (slot_stood w c k word stands.1 sound loaded.0 loaded.1 entry.0 entry.1, tt)
    ]
step_stood w LoadsLink b k sound stands = tt

all_joined : (P : CopiedEntry → Type 0) (xs ys : List CopiedEntry) → AllByRecursion P xs → AllByRecursion P ys → AllByRecursion P (xs ++ ys)
all_joined P [] ys a b = b
all_joined P (x ∷ xs) ys a b = (a.0, all_joined P xs ys a.1 b)

begins_sound : (opening : CopyWorld) (before : List CopyEvent) → IsSound (copy_run opening before).index → IsCopySound opening (CopyBegins ∷ before)
unfolding copy_run copy_happens begun_at
begins_sound opening before sound = record {
  its_index = sound;
  its_begin = sound;
  same_places = refl;
  copied = copy_begins (copy_run opening before).index.now.places (copy_run opening before).index.now.words (copy_run opening before).index.lists;
  stood = tt;
}

moves_sound : (opening : CopyWorld) (before : List CopyEvent) → IsCopySound opening before → IsCopySound opening (CopyMoves ∷ before)
unfolding copy_run copy_happens begun_at
moves_sound opening before its =
    let w = copy_run opening before in
    let first = begun_at opening before in
    record {
      its_index = its.its_index;
      its_begin = its.its_begin;
      same_places = its.same_places;
      copied = step_copied w.index.now.places first.now.words w.index.now.words first.lists w.index.lists (spare_at first.now.actors) (spare_at w.index.now.actors) w.copying w.copying.step w.triples refl
          (subst (λ p. IsIndex p first.now.words first.lists (spare_at first.now.actors)) its.same_places its.its_begin.its_index) its.its_index.its_index (sound_tags w.index its.its_index) its.copied;
      stood = all_joined (HasStood opening (CopyMoves ∷ before)) w.triples (copied_at w.copying w.copying.step (reply_to w.index.now.words (copy_step_ask w.copying.base w.copying.step)))
          (all_more (HasStood opening before) (HasStood opening (CopyMoves ∷ before)) w.triples (λ e stood. inr stood) its.stood)
          (all_more (IsEntryThen w.index) (HasStood opening (CopyMoves ∷ before)) (copied_at w.copying w.copying.step (reply_to w.index.now.words (copy_step_ask w.copying.base w.copying.step))) (λ e then_so. inl then_so)
          (step_stood w w.copying.step its.copied.bucket its.copied.place its.its_index its.copied.stands));
    }

index_sound : (opening : CopyWorld) (before : List CopyEvent) (event : IndexEvent) → IsCopySound opening before → IsCopySound opening (IndexMoves event ∷ before)
unfolding copy_run copy_happens begun_at
index_sound opening before event its =
    let w = copy_run opening before in
    let first = begun_at opening before in
    let happened = event_happened w.index event its.its_index in
    record {
      its_index = happened.sound;
      its_begin = its.its_begin;
      same_places = its.same_places ∙ sym happened.same_places;
      copied = subst (λ p. IsCopied p first.now.words first.lists (index_happens w.index event).now.words (index_happens w.index event).lists w.copying w.copying.step w.triples) (sym happened.same_places)
          (index_grown w.index.now.places first.now.words w.index.now.words (index_happens w.index event).now.words first.lists w.index.lists (index_happens w.index event).lists (spare_at w.index.now.actors) w.copying w.copying.step w.triples its.its_index.its_index happened.grows its.copied);
      stood = its.stood;
    }

pub copy_sound : (opening : CopyWorld) (events : List CopyEvent) → IsCopySound opening [] → IsCopySound opening events
copy_sound opening [] its = its
copy_sound opening (CopyBegins ∷ before) its = begins_sound opening before (copy_sound opening before its).its_index
copy_sound opening (CopyMoves ∷ before) its = moves_sound opening before (copy_sound opening before its)
copy_sound opening (IndexMoves event ∷ before) its = index_sound opening before event (copy_sound opening before its)

pub copy_opens : (p : Places) (words : List ℕ) (lists : ℕ → List ℕ) (actors : ℕ) → IsIndexAt (index_opening p words lists actors) → IsCopySound (copy_opening p words lists actors) []
unfolding copy_run begun_at
copy_opens p words lists actors index = record {
  its_index = opening_sound p words lists actors index;
  its_begin = opening_sound p words lists actors index;
  same_places = refl;
  copied = copy_begins p words lists;
  stood = tt;
}

-- at the end of a copy every place lies behind it
ended_all : (p : Places) (lists : ℕ → List ℕ) (c : Copying) (step : CopyStep) (b k o j : ℕ) → step ≡ Ended → StandsHere p lists c step b k → o < p.buckets → IsBefore o j b k
ended_all p lists c Ended b k o j its stands few = let all = stands.0 in inl (omega (arith, all, few))
ended_all p lists c (LoadsSlot slot) b k o j its stands few = let never : ⊥ = cc in absurd never
ended_all p lists c LoadsLink b k o j its stands few = let never : ⊥ = cc in absurd never

left_out : (p : Places) (first : List ℕ) (first_lists : ℕ → List ℕ) (words : List ℕ) (lists : ℕ → List ℕ) (c : Copying) (triples : List CopiedEntry) (home : Home) → IsCopied p first first_lists words lists c c.step triples → c.step ≡ Ended
    → IsHome p home → (entry_at p first first_lists home ≡ 0 → ⊥) → HasCopy triples home (entry_addr (entry_at p first first_lists home))
left_out p first first_lists words lists c triples home its ended there some =
    let found = entry_found home.tag (slot_order p first first_lists home.bucket) some in
    let has = its.covers home.bucket found.0 there.few found.1 (ended_all p lists c c.step its.bucket its.place home.bucket found.0 ended its.stands there.few) (λ none. some (sym found.2 ∙ none)) in
    let same : home_at home.bucket (slice_index (slot_order p first first_lists home.bucket) found.0) ≡ home = ap (home_at home.bucket) found.2 ∙ ap (λ n. record { bucket = home.bucket; tag = n }) found.3 in
    subst (λ x. HasCopy triples x (entry_addr (entry_at p first first_lists home))) same (subst (λ x. HasCopy triples (home_at home.bucket (slice_index (slot_order p first first_lists home.bucket) found.0)) (entry_addr x)) found.2 has)

pub sound_left_out : (opening : CopyWorld) (events : List CopyEvent) → IsCopySound opening events → NoneLeftOut opening events
sound_left_out opening events its home ended there some =
    let w = copy_run opening events in
    let first = begun_at opening events in
    subst (λ p. HasCopy w.triples home (entry_addr (entry_at p first.now.words first.lists home))) (sym its.same_places)
    (left_out w.index.now.places first.now.words first.lists w.index.now.words w.index.lists w.copying w.triples home its.copied ended (subst (λ p. IsHome p home) its.same_places there)
    (λ none. some (subst (λ p. entry_at p first.now.words first.lists home ≡ 0) (sym its.same_places) none)))
