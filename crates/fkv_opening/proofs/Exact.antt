-- Where an image holds a store no fault stands.
use Rattle.std.proofs.Common.{◌≡◌, ◌⊎◌, inl, inr, ℕ, ◌<◌, ◌≤◌, List, Some, None, length, refl, sym, ap, subst, ◌∙◌, arith, get_or}
use Rattle.std.specs.Prelude.{slice_get, IsSome}
use Rattle.std.proofs.lemmas.List.{same_lists}
use Rattle.std.proofs.lemmas.Option.{slice_get-get_or, slice_get_cases}
use Rattle.fkv_base.specs.declared.faults.Fault.{Fault}
use Rattle.fkv_base.specs.declared.faults.Fault.TheVariants as fault
use Rattle.fkv_base.specs.declared.faults.Damage.TheVariants as damage
use Rattle.fkv_base.specs.declared.shapes.Shape.{Shape}
use Rattle.fkv_words.specs.Fields.{SpellsApart}
use Rattle.fkv_manifest.specs.Newest.{slot_in}
use Rattle.fkv_record.specs.declared.formats.Format.{Format}
use Rattle.fkv_record.specs.declared.manifest_slots.ManifestSlot.{ManifestSlot}
use Rattle.fkv_record.specs.declared.triples.Triple.{Triple}
use Rattle.fkv_record.specs.Layout.{record_bytes, triple_bytes, shape_bytes}
use Rattle.fkv_record.specs.Manifest.{manifest_bytes, SpelledOnce}
use Rattle.fkv_scan.specs.Checkpoint.{Checkpoint, checkpoint_in, IsTripleAt, AreTriples, IsTripleFault}
use Rattle.fkv_scan.specs.Log.{log_in, triple_home, AreApart}
use Rattle.fkv_scan.proofs.Shown.{no_fault as no_scan_fault}
use Rattle.fkv_chains.proofs.Shown.{no_fault as no_chain_fault}
use Rattle.fkv_room.proofs.Shown.{no_fault as no_room_fault}
use Rattle.fkv_newest.specs.declared.newest_slots.Newest.{Newest}
use Rattle.fkv_newest.specs.Newest.{slot_place, IsNewestOf}
use Rattle.fkv_newest.proofs.Shown.{one_index, no_fault as no_newest_fault}
use Rattle.fkv_opening.specs.Faults.{log_of, HasCheckpoint, IsSound, IsTriplesFault, IsLogFault, of_scan, of_chains, of_room, IsFaultOf, of_newest, of_triples, of_log}

-- what tells spellings apart
pub record Apart : Type 0 where
  pub records : SpellsApart record_bytes
  pub triples : SpellsApart triple_bytes
  pub shapes : SpellsApart shape_bytes
  pub slots : SpelledOnce manifest_bytes

module _ (apart : Apart) where
  one_triple : (at : Checkpoint) (i : ℕ) (x y : Triple) → IsTripleAt at i x → IsTripleAt at i y → x ≡ y
  one_triple at i x y first second = apart.triples x y (first.stands ∙ sym second.stands)

  -- a checkpoint has one list of triples
  pub one_list : (at : Checkpoint) (xs ys : List Triple) → AreTriples at xs → AreTriples at ys → xs ≡ ys
  one_list at xs ys first second = same_lists xs ys same_many (λ k d low.
      let low_y : k < length ys = omega (arith, low, same_many) in
      one_triple at k (get_or xs k d) (get_or ys k d) (first.each k (get_or xs k d) (slice_get-get_or xs k d low)) (second.each k (get_or ys k d) (slice_get-get_or ys k d low_y)))
    where
      same_many : length xs ≡ length ys
      same_many = first.many ∙ sym second.many

  pub no_triple_fault : (at : Checkpoint) (triples : List Triple) (i : ℕ) → AreTriples at triples → AreApart triples → IsTripleFault at i → ⊥
  no_triple_fault at triples i are alone found = by_cases (slice_get_cases triples i).1
    where
      counted : i < length triples
      counted = (let many = are.many in let low = found.counted in omega (arith, many, low))

      by_cases : ((x : Triple) × (i < length triples) × (slice_get triples i ≡ Some x) × (get_or triples i x ≡ x)) ⊎ ((length triples ≤ i) × (slice_get triples i ≡ None)) → ⊥
      by_cases (inr past) = (let high = past.0 in omega (arith, high, counted))
      by_cases (inl its) = found.here (record {
        held = its.0;
        fits = are.each i its.0 its.2;
        first = λ j y low there same.
            let low_j : j < length triples = omega (arith, low, counted) in
            let z = get_or triples j y in
            let got : slice_get triples j ≡ Some z = slice_get-get_or triples j y low_j in
            let is : y ≡ z = one_triple at j y z there (are.each j z got) in
            let equal : j ≡ i = alone j i z its.0 got its.2 (ap triple_home (sym is) ∙ same) in
            omega (arith, equal, low);
      })

  module _ (image : List ℕ) (n m : Newest) (first : IsNewestOf image n) (second : IsNewestOf image m) where
    pub same_shape : n.shape ≡ m.shape
    same_shape = apart.shapes n.shape m.shape (first.block ∙ sym second.block)

    same_index : n.index ≡ m.index
    same_index = one_index n.index m.index (sym first.in_force ∙ second.in_force)

    same_bytes : manifest_bytes (n.format, n.slot) ≡ manifest_bytes (m.format, m.slot)
    same_bytes = first.manifest.stands ∙ ap (λ i. Some (slot_in image (slot_place i))) same_index ∙ sym second.manifest.stands

    pub same_slot : n.slot ≡ m.slot
    same_slot = ap (λ (p : Format × ManifestSlot). p.1) (apart.slots (n.format, n.slot) (m.format, m.slot) (subst (λ o. IsSome o) (sym first.manifest.stands) refl) same_bytes)

    pub same_checkpoint : checkpoint_in image m.shape m.slot ≡ checkpoint_in image n.shape n.slot
    same_checkpoint = ap (λ (s : Shape). checkpoint_in image s m.slot) (sym same_shape) ∙ ap (λ (s : ManifestSlot). checkpoint_in image n.shape s) (sym same_slot)

    pub same_log : (xs ys : List Triple) → ys ≡ xs → log_of image m ys ≡ log_of image n xs
    same_log xs ys same =
        ap (λ (s : Shape). log_in image s m.slot ys) (sym same_shape)
        ∙ ap (λ (s : ManifestSlot). log_in image n.shape s ys) (sym same_slot)
        ∙ ap (λ (ts : List Triple). log_in image n.shape n.slot ts) same

  -- whatever newest slot and triples an image has, its log is one
  pub one_log : (image : List ℕ) (n m : Newest) (xs ys : List Triple) → HasCheckpoint image n xs → HasCheckpoint image m ys → log_of image m ys ≡ log_of image n xs
  one_log image n m xs ys has its =
      let stored : AreTriples (checkpoint_in image n.shape n.slot) ys = subst (λ at. AreTriples at ys) (same_checkpoint image n m has.newest its.newest) its.stored in
      same_log image n m has.newest its.newest xs ys (one_list (checkpoint_in image n.shape n.slot) ys xs stored has.stored)

  module _ (image : List ℕ) (n : Newest) (triples : List Triple) (has : HasCheckpoint image n triples) (sound : IsSound (log_of image n triples)) where
    no_triples_fault : (why : Fault) → IsTriplesFault (checkpoint_in image n.shape n.slot) why → ⊥
    no_triples_fault (fault.Damaged damage.Triple i) found = no_triple_fault (checkpoint_in image n.shape n.slot) triples i has.stored has.apart found
    no_triples_fault other found = absurd (found)

    no_log_fault : (why : Fault) → IsLogFault (log_of image n triples) why → ⊥
    no_log_fault why (of_scan found) = no_scan_fault apart.records (log_of image n triples) why sound.scan found
    no_log_fault why (of_chains scanned found) = no_chain_fault apart.records (log_of image n triples) why sound.chains found
    no_log_fault why (of_room scanned chained found) = no_room_fault (log_of image n triples) why sound.room found

    pub no_fault : (why : Fault) → IsFaultOf image why → ⊥
    no_fault why (of_newest found) = no_newest_fault apart.shapes image n why has.newest found
    no_fault why (of_triples m is found) = no_triples_fault why (subst (λ at. IsTriplesFault at why) (same_checkpoint image n m has.newest is) found)
    no_fault why (of_log m ys its found) = no_log_fault why (subst (λ log. IsLogFault log why) (one_log image n m triples ys has its) found)
