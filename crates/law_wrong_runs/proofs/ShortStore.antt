-- The store that an image holds whose newest slot says that the log begins and ends at address 2, whatever stands in its log.
use Rattle.std.proofs.Common.{◌≡◌, ℕ, zero, suc, ◌-◌, ◌*◌, ◌<◌, ◌≤◌, ◌∙◌, List, [], ◌∷◌, length, refl, sym, ap, subst, arith, false}
use Rattle.std.specs.Option.{is_some}
use Rattle.std.specs.Prelude.{Contains, Some, slice_get, slice_index_or}
use Rattle.fkv_base.specs.Limits.{last_serial}
use Rattle.fkv_base.specs.declared.numbers.Serial.{Serial}
use Rattle.fkv_base.specs.declared.shapes.Shape.{Shape}
use Rattle.fkv_creating.specs.Created.{IsNewStore}
use Rattle.fkv_manifest.specs.Newest.{newest, slot_in}
use Rattle.fkv_marks.proofs.Shown.{window_small}
use Rattle.fkv_newest.specs.Manifest.{Suits}
use Rattle.fkv_newest.specs.Newest.{HasShape, IsNewestOf}
use Rattle.fkv_newest.specs.declared.newest_slots.Newest.{Newest}
use Rattle.fkv_opening.specs.Entries.{AreEntries}
use Rattle.fkv_opening.specs.Faults.{HasCheckpoint, IsSound, log_of}
use Rattle.fkv_opening.specs.Lost.{AreInHand}
use Rattle.fkv_opening.specs.Opened.{IsStoreOf, Tells}
use Rattle.fkv_opening.specs.declared.opened_store.Opened.{Opened}
use Rattle.fkv_opening.proofs.Shown.{Apart, nothing_warm, one_log, room_in_ring, same_shape, same_slot}
use Rattle.fkv_record.proofs.Shown.{third_spelled}
use Rattle.fkv_record.specs.Manifest.{manifest_bytes, newest_bytes}
use Rattle.fkv_record.specs.Places.{open_number}
use Rattle.fkv_record.specs.Points.{serial_numbers}
use Rattle.fkv_record.specs.declared.formats.Format.TheVariants as format
use Rattle.fkv_record.specs.declared.lost_ranges.LostRange.{LostRange}
use Rattle.fkv_record.specs.declared.manifest_slots.ManifestSlot.{ManifestSlot}
use Rattle.fkv_record.specs.declared.points.Points.{Points}
use Rattle.law_log.specs.Worked.{no_map}
use Rattle.law_order.specs.Below.fkv_chains.Reached.{Reached, in_scan, led_to, linked}
use Rattle.law_order.specs.Below.fkv_pairs.Pairs.{ArePairs}
use Rattle.law_order.specs.Below.fkv_scan.Log.{HasTriple, Log}
use Rattle.law_order.specs.Below.law_opening.Log.Laws.{BeginsFromItsPairs}
use Rattle.law_order.specs.Below.law_opening.Log.Maps.{opening_map}
use Rattle.law_order.proofs.OfOneHistory.WorkedShape.{shape}
use Rattle.law_wrong_runs.proofs.ShortRun.{no_points, said}

-- ---- the slot
pub small_points : (k : ℕ) (d : Serial) → k < 2 → (slice_index_or no_points k d).0 ≤ last_serial
small_points zero d low = omega arith
small_points (suc zero) d low = omega arith
small_points (suc (suc k)) d low = absurd (omega (arith, low))

abbrev its_points : Points
its_points = record { serials = record { items = no_points }; some_session = omega arith; few_sessions = omega arith; serials_fit = small_points }

abbrev pub its_slot : ManifestSlot
its_slot = record {
  number = 1;
  first = record { 0 = 2 };
  end = record { 0 = 2 };
  triples = 0;
  area = 1;
  points = its_points;
  checkpoint = 1;
  lost = record { ranges = record { items = [] }; few_ranges = omega arith };
  begin = record { 0 = 1 };
  number_fits = omega arith;
  first_fits = omega arith;
  end_fits = omega arith;
  triples_fit = omega arith;
  area_fits = omega arith;
  checkpoint_fits = omega arith;
  begin_fits = omega arith;
}

spelled : manifest_bytes (format.Third, its_slot) ≡ Some (newest_bytes said)
spelled = sym (third_spelled its_slot refl)

third_only : format.Third ≡ format.First → ⊥
third_only e = cc

pub suits : Suits shape 1 format.Third its_slot
unfolding shape
suits = record {
  number = record { few = omega arith; parity = refl };
  log = record { some = omega arith; upwards = omega arith; on_disk = omega arith };
  begin = record { some = omega arith; before_scan = omega arith; whole = λ specified. (refl, λ fourth. cc) };
  checkpoint = record { few = omega arith; area = omega arith; own_area = λ first. absurd (third_only first); no_newer = omega arith; in_window = window_small shape.class 1 1 (omega arith) };
  sessions = refl;
  lost = record { each = λ k d below. absurd (omega (arith, below)); rising = λ i j d above in_list. absurd (omega (arith, in_list)) };
}

abbrev pub newest_said : List ℕ → Newest
newest_said image = record { shape = shape; index = 1; format = format.Third; slot = its_slot; open_numbers = (open_number (slot_in image 512), open_number (slot_in image 1024)); fits = suits }

pub newest_told : (image : List ℕ) → HasShape image shape → newest image ≡ Some 1024 → slot_in image 1024 ≡ newest_bytes said → IsNewestOf image (newest_said image)
newest_told image block in_force bytes = record {
  block = block;
  in_force = in_force;
  manifest = record { stands = spelled ∙ ap (λ (s : List ℕ). Some s) (sym bytes); suits = suits };
  open_0 = refl;
  open_1 = refl;
}

-- ---- nothing is met in its log
no_triple : (log : Log) (its_home addr : ℕ) → log.triples ≡ [] → HasTriple log its_home addr → ⊥
no_triple log its_home addr none has = none_at (subst (λ ts. ◌≡◌ (slice_get ts has.place) (Some has.triple)) none has.stands)
  where
    none_at : slice_get [] has.place ≡ Some has.triple → ⊥
    none_at e = cc

none_reached : (log : Log) (a : ℕ) → log.triples ≡ [] → log.tail ≤ log.start → Reached log a → ⊥
none_reached log a none empty (in_scan _ x from below stands valid) = omega (arith, from, below, empty)
none_reached log a none empty (led_to its_home _ has) = no_triple log its_home a none has
none_reached log a none empty (linked b _ x reached stands same some) = none_reached log b none empty reached

none_in : (p : ℕ × ℕ) → Contains [] p → ⊥
none_in p is = omega (arith, is.1)

module _ (image : List ℕ) where
  unreached : (a : ℕ) → Reached (log_of image (newest_said image) []) a → ⊥
  unreached a reached = none_reached (log_of image (newest_said image) []) a refl (omega arith) reached

  pub is_checkpoint : IsNewestOf image (newest_said image) → HasCheckpoint image (newest_said image) []
  is_checkpoint told = record { newest = told; stored = record { many = refl; each = λ i x e. absurd (cc) }; apart = λ i j x y one. absurd (cc) }

  pub is_sound : IsSound (log_of image (newest_said image) [])
  unfolding shape
  is_sound = record {
    scan = record { records = λ c from below. absurd (omega (arith, from, below)); triples = λ i triple e. absurd (cc) };
    chains = λ a reached below. absurd (unreached a reached);
    room = record {
      homes = [];
      are_homes = record { once = λ i j d above in_list same. absurd (omega (arith, in_list)); all = λ its_home. ((λ has. absurd (omega (arith, has.1))), (λ entry. absurd (unreached entry.0 entry.1.counts.1.reached))) };
      enough = omega arith;
    };
  }

  no_entries : AreEntries (log_of image (newest_said image) []) []
  no_entries = record {
    all = λ its_home a. ((λ is. absurd (none_in (its_home, a) is)), (λ entry. absurd (unreached a entry.counts.1.reached)));
    ascending = λ k below. absurd (omega (arith, below));
  }

  none_in_hand : AreInHand (log_of image (newest_said image) []) []
  none_in_hand = record { left_out = false; tells = λ b y from below. absurd (omega (arith, from, below)); extends = refl }

  no_pairs : ArePairs (log_of image (newest_said image) []) []
  no_pairs = record { ascending = λ k below. absurd (omega (arith, below)); all = λ pair. ((λ is. absurd (omega (arith, is.1))), (λ has. absurd (unreached has.addr has.newest.counts.reached))) }

-- ---- a store that it holds, by a new one of the shape
two_serials : (xs : List Serial) → serial_numbers xs ≡ 0 ∷ 0 ∷ [] → xs ≡ no_points
two_serials [] e = cc
two_serials (x ∷ []) e = cc
two_serials (x ∷ y ∷ []) e = let first : x.0 ≡ 0 = cc in let second : y.0 ≡ 0 = cc in λ i. record { 0 = first i } ∷ record { 0 = second i } ∷ []
two_serials (x ∷ y ∷ z ∷ rest) e = cc

module _ (image : List ℕ) (o : Opened) (new : IsNewStore shape o) where
  points_are : o.points.items ≡ no_points
  unfolding shape
  points_are = two_serials o.points.items new.points

  pub on_disk : 2 ≤ o.shape.disk_pages * o.shape.page
  unfolding shape
  on_disk = subst (λ (s : Shape). 2 ≤ s.disk_pages * s.page) (sym new.its_shape) (omega arith)

  pub no_frames : length o.frames.items ≡ 3 * (2 - 2)
  no_frames = let words = o.three_words in let tail = new.tail in let some = o.some_warm in omega (arith, words, tail, some)

  abbrev pub short_store : Opened
  short_store = record {
    shape = o.shape;
    number = record { 0 = 1 };
    begin = record { 0 = 1 };
    tail = record { 0 = 2 };
    points = o.points;
    gates = (is_some (open_number (slot_in image 512)), is_some (open_number (slot_in image 1024)));
    checkpoint = record { number = record { 0 = 1 }; first = record { 0 = 2 }; triples = 0; area = 1 };
    lost = o.lost;
    entries = o.entries;
    warm = record { 0 = 2 };
    frames = o.frames;
    room = o.room;
    few_entries = o.few_entries;
    few_commits = omega arith;
    some_tail = omega arith;
    tail_on_disk = on_disk;
    some_warm = omega arith;
    warm_from_begin = omega arith;
    warm_in_log = omega arith;
    warm_in_ring = room_in_ring o.shape 2;
    three_words = no_frames;
    each_session = o.each_session;
    small_points = o.small_points;
    some_begin = omega arith;
    begin_before_scan = omega arith;
    whole = λ specified. refl;
    some_first = omega arith;
    upwards = omega arith;
    few_triples = omega arith;
    two_areas = omega arith;
    no_newer = omega arith;
  }

  tells : Tells (newest_said image) short_store
  tells = record {
    shape = new.its_shape;
    number = refl;
    begin = refl;
    tail = refl;
    points = points_are;
    gate_0 = refl;
    gate_1 = refl;
    checkpoint = refl;
    first = refl;
    triples = refl;
    area = refl;
  }

  pub is_store : IsNewestOf image (newest_said image) → IsStoreOf image short_store
  is_store told = record {
    newest = newest_said image;
    triples = [];
    checkpoint = is_checkpoint image told;
    sound = is_sound image;
    tells = tells;
    entries = subst (λ xs. AreEntries (log_of image (newest_said image) []) xs) (sym new.entries) (no_entries image);
    lost = subst (λ (xs : List LostRange). AreInHand (log_of image (newest_said image) []) xs) (sym new.lost) (none_in_hand image);
    warm = nothing_warm image short_store (omega arith);
  }

-- ---- any store that it holds
module _ (apart : Apart) (from_pairs : BeginsFromItsPairs) (image : List ℕ) (told : IsNewestOf image (newest_said image)) (r : Opened) (held : IsStoreOf image r) where
  slot_is : its_slot ≡ held.newest.slot
  slot_is = same_slot apart image (newest_said image) held.newest told held.checkpoint.newest

  pub shape_is : r.shape ≡ shape
  shape_is = held.tells.shape ∙ sym (same_shape apart image (newest_said image) held.newest told held.checkpoint.newest)

  pub number_is : r.number.0 ≡ 1
  number_is = held.tells.number ∙ sym (ap (λ (s : ManifestSlot). s.number) slot_is)

  pub its_points_are : r.points.items ≡ no_points
  its_points_are = held.tells.points ∙ sym (ap (λ (s : ManifestSlot). s.points.serials.items) slot_is)

  pub map_is : opening_map image r ≡ no_map
  map_is =
      let same = one_log apart image (newest_said image) held.newest [] held.triples (is_checkpoint image told) held.checkpoint in
      sym (from_pairs image r held [] (subst (λ (its : Log). ArePairs its []) (sym same) (no_pairs image)))
