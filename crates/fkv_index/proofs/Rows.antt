-- What an actor knows at each step, and that it stays so while others go on.
use Rattle.std.proofs.Common.{◌≡◌, ℕ, ◌+◌, ◌<◌, ◌≤◌, List, inl, inr, arith, sym, ◌∙◌, subst}
use Rattle.std.specs.Prelude.{⊤}
use Rattle.fkv_plane.specs.declared.places.Places.{Places}
use Rattle.fkv_plane.specs.Places.{bucket_place}
use Rattle.fkv_index.specs.declared.homes.Home.{Home}
use Rattle.fkv_index.specs.declared.finding.FindStep.{FindStep}
use Rattle.fkv_index.specs.declared.finding.FindStep.TheVariants.{AtRest, LoadsSlot, LoadsLink, LoadsTaken, TakesBucket, LinksBucket}
use Rattle.fkv_index.specs.declared.finding.Finding.{Finding}
use Rattle.fkv_index.specs.declared.publishing.Publishing.{Publishing}
use Rattle.fkv_index.specs.declared.publishing.Publishing.TheVariants as publish
use Rattle.fkv_index.specs.Slots.{entry_addr, entry_tag, link_of}
use Rattle.fkv_index.specs.Buckets.{bucket_words, HasPassed}
use Rattle.fkv_index.specs.IndexWorld.{SlotWork, Seeks, Holds, Enters}
use Rattle.fkv_index.specs.OneEntry.{IsIndex, IsHome, HasHeld, HasSlot, Grows}
use Rattle.fkv_index.proofs.Orders.{IsDeep, deep_more, passed_among, passed_more}
use Rattle.fkv_index.proofs.Index.{among_real}

-- a search stands in a bucket of its home's list, and has passed entries of other tags alone
pub record Stands (p : Places) (g : ℕ → ℕ → ℕ) (lists : ℕ → List ℕ) (f : Finding) (slot : ℕ) : Type 0 where
  pub its_home : IsHome p f.home
  pub bucket : ℕ
  pub its_base : f.base ≡ bucket_place p bucket 0
  pub passed : HasPassed p.buckets g f.home.tag f.home.bucket (lists f.home.bucket) bucket slot
  -- so many links led there, and the search may follow as many more as there can be
  pub depth : ℕ
  pub deep : IsDeep p.buckets f.home.bucket (lists f.home.bucket) bucket depth
  pub budget : f.links + depth ≡ p.overflow

abbrev pub SeekKnows : Places → (ℕ → ℕ → ℕ) → (ℕ → List ℕ) → Finding → FindStep → Type 0
SeekKnows p g lists f AtRest = ⊤
SeekKnows p g lists f (LoadsSlot slot) = (slot < 7) × Stands p g lists f slot
SeekKnows p g lists f LoadsLink = Stands p g lists f 7
SeekKnows p g lists f (LoadsTaken word) = Stands p g lists f 7 × (link_of word ≡ 0)
SeekKnows p g lists f (TakesBucket word taken) = Stands p g lists f 7 × (link_of word ≡ 0) × (f.spare ≡ 0) × (taken < p.overflow)
SeekKnows p g lists f (LinksBucket word) = Stands p g lists f 7 × (link_of word ≡ 0) × (1 ≤ f.spare)

abbrev pub EnterKnows : Places → (ℕ → ℕ → ℕ) → (ℕ → List ℕ) → Home → Publishing → Type 0
EnterKnows p g lists home publish.AtRest = ⊤
EnterKnows p g lists home (publish.SwapsEntry place word entry) = HasSlot p g lists home place word × (entry_tag entry ≡ home.tag) × (entry_addr word < entry_addr entry)

abbrev pub WorkKnows : Places → (ℕ → ℕ → ℕ) → (ℕ → List ℕ) → Finding → SlotWork → Type 0
WorkKnows p g lists f Seeks = SeekKnows p g lists f f.step
WorkKnows p g lists f (Holds place word) = HasSlot p g lists f.home place word
WorkKnows p g lists f (Enters step) = EnterKnows p g lists f.home step

-- what has been passed stays so
pub passed_grows : (p : Places) (words after : List ℕ) (lists lists' : ℕ → List ℕ) (spares : ℕ → ℕ) (home : Home) (m i : ℕ) → IsIndex p words lists spares → Grows p words after lists lists'
    → home.bucket < p.buckets → i ≤ 7 → HasPassed p.buckets (bucket_words p words) home.tag home.bucket (lists home.bucket) m i → HasPassed p.buckets (bucket_words p after) home.tag home.bucket (lists' home.bucket) m i
passed_grows p words after lists lists' spares home m i index grows low few passed =
    let more = grows.its_lists home.bucket in
    subst (λ x. HasPassed p.buckets (bucket_words p after) home.tag home.bucket x m i) (sym more.1)
    (passed_more p.buckets (bucket_words p words) (bucket_words p after) home.tag home.bucket (lists home.bucket) more.0 m i few
    (λ o j among below other.
    let kept = grows.its_entries o j (among_real home.bucket o index low among) below other.0 in
    (kept.0, λ e. other.1 (sym kept.1 ∙ e))) passed)

pub deep_grows : (p : Places) (words after : List ℕ) (lists lists' : ℕ → List ℕ) (bucket m d : ℕ) → Grows p words after lists lists' → IsDeep p.buckets bucket (lists bucket) m d → IsDeep p.buckets bucket (lists' bucket) m d
deep_grows p words after lists lists' bucket m d grows deep =
    let more = grows.its_lists bucket in
    subst (λ x. IsDeep p.buckets bucket x m d) (sym more.1) (deep_more p.buckets bucket (lists bucket) more.0 m d deep)

pub stands_more : (p : Places) (words after : List ℕ) (lists lists' : ℕ → List ℕ) (spares : ℕ → ℕ) (f : Finding) (slot : ℕ) → IsIndex p words lists spares → Grows p words after lists lists' → slot ≤ 7
    → Stands p (bucket_words p words) lists f slot → Stands p (bucket_words p after) lists' f slot
stands_more p words after lists lists' spares f slot index grows few stands = record {
  its_home = stands.its_home;
  bucket = stands.bucket;
  its_base = stands.its_base;
  passed = passed_grows p words after lists lists' spares f.home stands.bucket slot index grows stands.its_home.few few stands.passed;
  depth = stands.depth;
  deep = deep_grows p words after lists lists' f.home.bucket stands.bucket stands.depth grows stands.deep;
  budget = stands.budget;
}

slot_more : (p : Places) (words after : List ℕ) (lists lists' : ℕ → List ℕ) (spares : ℕ → ℕ) (home : Home) (place word : ℕ) → IsIndex p words lists spares → Grows p words after lists lists'
    → HasSlot p (bucket_words p words) lists home place word → HasSlot p (bucket_words p after) lists' home place word
slot_more p words after lists lists' spares home place word index grows its = record {
  its_home = its.its_home;
  bucket = its.bucket;
  slot = its.slot;
  in_bucket = its.in_bucket;
  its_place = its.its_place;
  passed = let low = its.in_bucket in passed_grows p words after lists lists' spares home its.bucket its.slot index grows its.its_home.few (omega (arith, low)) its.passed;
  held = elim its.held [
    | inl none ↦ inl none
    | inr held ↦ inr (held_more held)
  ];
}
  where
    held_more : HasHeld home.tag word (bucket_words p words its.bucket its.slot) → HasHeld home.tag word (bucket_words p after its.bucket its.slot)
    held_more held =
        let real = among_real home.bucket its.bucket index its.its_home.few (passed_among p.buckets (bucket_words p words) home.tag home.bucket (lists home.bucket) its.bucket its.slot its.passed) in
        let kept = grows.its_entries its.bucket its.slot real its.in_bucket held.some_now in
        record {
          some = held.some;
          its_tag = held.its_tag;
          some_now = kept.0;
          tag_now = kept.1 ∙ held.tag_now;
          rises = let a = held.rises in let b = kept.2 in omega (arith, a, b);
        }

seek_more : (p : Places) (words after : List ℕ) (lists lists' : ℕ → List ℕ) (spares : ℕ → ℕ) (f : Finding) (step : FindStep) → IsIndex p words lists spares → Grows p words after lists lists'
    → SeekKnows p (bucket_words p words) lists f step → SeekKnows p (bucket_words p after) lists' f step
seek_more p words after lists lists' spares f AtRest index grows knows = tt
seek_more p words after lists lists' spares f (LoadsSlot slot) index grows knows = let low = knows.0 in (low, stands_more p words after lists lists' spares f slot index grows (omega (arith, low)) knows.1)
seek_more p words after lists lists' spares f LoadsLink index grows knows = stands_more p words after lists lists' spares f 7 index grows (omega arith) knows
seek_more p words after lists lists' spares f (LoadsTaken word) index grows knows = (stands_more p words after lists lists' spares f 7 index grows (omega arith) knows.0, knows.1)
seek_more p words after lists lists' spares f (TakesBucket word taken) index grows knows = (stands_more p words after lists lists' spares f 7 index grows (omega arith) knows.0, knows.1, knows.2, knows.3)
seek_more p words after lists lists' spares f (LinksBucket word) index grows knows = (stands_more p words after lists lists' spares f 7 index grows (omega arith) knows.0, knows.1, knows.2)

pub knows_more : (p : Places) (words after : List ℕ) (lists lists' : ℕ → List ℕ) (spares : ℕ → ℕ) (f : Finding) (work : SlotWork) → IsIndex p words lists spares → Grows p words after lists lists'
    → WorkKnows p (bucket_words p words) lists f work → WorkKnows p (bucket_words p after) lists' f work
knows_more p words after lists lists' spares f Seeks index grows knows = seek_more p words after lists lists' spares f f.step index grows knows
knows_more p words after lists lists' spares f (Holds place word) index grows knows = slot_more p words after lists lists' spares f.home place word index grows knows
knows_more p words after lists lists' spares f (Enters publish.AtRest) index grows knows = tt
knows_more p words after lists lists' spares f (Enters (publish.SwapsEntry place word entry)) index grows knows = (slot_more p words after lists lists' spares f.home place word index grows knows.0, knows.1, knows.2)
