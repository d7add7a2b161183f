-- What the bytes have at each stage of a commit's writes, also where the write under way is torn.
use Rattle.std.proofs.Common.{◌≡◌, ◌≢◌, ◌⊎◌, inl, inr, ℕ, zero, suc, ◌+◌, ◌-◌, ◌<◌, ◌≤◌, List, [], ◌∷◌, length, drop, false, refl, sym, ◌∙◌, ap, arith}
use Rattle.std.specs.Prelude.{Some, None}
use Rattle.std.proofs.Common.{length-drop}
use Rattle.std.proofs.lemmas.List.{get_or-drop}
use Rattle.fkv_record.specs.Places.{open_number, number_at}
use Rattle.fkv_disk.specs.Bytes.{byte_at, covers, written}
use Rattle.fkv_disk.specs.Device.{Torn}
use Rattle.fkv_disk.proofs.Shown.{length-written, byte_at-written_in, byte_at-written_out, in_range, before_range, after_range, range_end_is, is_listed, byte_at-bytes_at, length-bytes_at}
use Rattle.fkv_manifest.specs.Gating.{open_gate, closed_gate}
use Rattle.fkv_manifest.specs.Committing.{CommitWriter}
use Rattle.fkv_manifest.specs.Kept.{AreTheSlots, IsReady, IsElsewhere, SparesRest, LastStands, NewStands}
use Rattle.fkv_manifest.specs.Newest.{slot_in}
use Rattle.fkv_manifest.proofs.NewestSlot.{slot_is, gate_in, number_told, none_told, newest_by, chosen_alone, chosen_greater, newest_open, gate_is}

-- a write that was made is one that is torn, with its bytes in its range
pub written_torn : (old : List ℕ) (at : ℕ) (bytes : List ℕ) → Torn at (length bytes) old (written old at bytes)
written_torn old at bytes = record {
  no_shorter = omega (arith, length-written old at bytes);
  no_longer = omega (arith, length-written old at bytes);
  outside = λ i below out. byte_at-written_out old at bytes i out;
}

-- its bytes stand in its range
pub written_in : (old : List ℕ) (at : ℕ) (bytes : List ℕ) (k : ℕ) → k < length bytes → byte_at (written old at bytes) (at + k) ≡ byte_at bytes k
written_in old at bytes k below =
    byte_at-written_in old at bytes (at + k) (in_range at (length bytes) (at + k) (omega arith) (omega (arith, below)))
    ∙ ap (λ (i : ℕ). byte_at bytes i) (let same : (at + k) - at ≡ k = omega arith in same)

pub written_reaches : (old : List ℕ) (at : ℕ) (bytes : List ℕ) (k : ℕ) → k < length bytes → at + k < length (written old at bytes)
written_reaches old at bytes k below = let end = range_end_is at (length bytes) (omega (arith, below)) in omega (arith, length-written old at bytes, end, below)

module _ (w : CommitWriter) (base : List ℕ) (other : ℕ) (ready : IsReady w base other) where
  -- a write within the new slot, or of its triples
  pub record IsWithin (at n : ℕ) : Type 0 where
    pub elsewhere : (i : ℕ) → IsElsewhere w i → covers at n i ≡ false

  -- the triples stand
  pub record HasTriples (image : List ℕ) : Type 0 where
    pub reaches : (k : ℕ) → k < length w.triples → w.area + k < length image
    pub whole : (k : ℕ) → k < length w.triples → byte_at image (w.area + k) ≡ byte_at w.triples k

  -- the new slot's place is as it was
  abbrev pub HasOldSlot : List ℕ → Type 0
  HasOldSlot image = (k : ℕ) → k < 512 → byte_at image (w.gate.place + k) ≡ byte_at base (w.gate.place + k)

  -- the new slot stands behind its gate
  abbrev pub HasBody : List ℕ → Type 0
  HasBody image = (k : ℕ) → 0 < k → k < 512 → byte_at image (w.gate.place + k) ≡ byte_at w.gate.slot k

  pub low : w.gate.place ≤ 1024
  low = by_slot ready.slots
    where
      by_slot : AreTheSlots w.gate.place other → w.gate.place ≤ 1024
      by_slot (inl first) = omega (arith, first.0)
      by_slot (inr second) = omega (arith, second.0)

  apart : (k : ℕ) → k < 512 → ((other + k < w.gate.place) ⊎ (w.gate.place + 512 ≤ other + k)) × (other + k < 1536)
  apart k below = by_slot ready.slots
    where
      by_slot : AreTheSlots w.gate.place other → ((other + k < w.gate.place) ⊎ (w.gate.place + 512 ≤ other + k)) × (other + k < 1536)
      by_slot (inl first) = (inr (omega (arith, first.0, first.1)), omega (arith, below, first.1))
      by_slot (inr second) = (inl (omega (arith, below, second.0, second.1)), omega (arith, below, second.1))

  -- each write of a commit is one of these
  pub slot_within : (from n : ℕ) → from + n ≤ 512 → IsWithin (w.gate.place + from) n
  slot_within from n fits = record { elsewhere = λ i is. by_side i is.0 }
    where
      by_side : (i : ℕ) → (i < w.gate.place) ⊎ (w.gate.place + 512 ≤ i) → covers (w.gate.place + from) n i ≡ false
      by_side i (inl before) = before_range (w.gate.place + from) n i (omega (arith, before))
      by_side i (inr after) = after_range (w.gate.place + from) n i (omega (arith, after, fits))

  pub gate_within : IsWithin w.gate.place 1
  gate_within = record { elsewhere = λ i is. by_side i is.0 }
    where
      by_side : (i : ℕ) → (i < w.gate.place) ⊎ (w.gate.place + 512 ≤ i) → covers w.gate.place 1 i ≡ false
      by_side i (inl before) = before_range w.gate.place 1 i before
      by_side i (inr after) = after_range w.gate.place 1 i (omega (arith, after))

  pub triples_within : IsWithin w.area (length w.triples)
  triples_within = record { elsewhere = λ i is. by_side i is.1 }
    where
      by_side : (i : ℕ) → (i < w.area) ⊎ (w.area + length w.triples ≤ i) → covers w.area (length w.triples) i ≡ false
      by_side i (inl before) = before_range w.area (length w.triples) i before
      by_side i (inr after) = after_range w.area (length w.triples) i after

  -- the rest is spared by each of them
  pub spared_none : SparesRest w base base
  spared_none = record { no_shorter = omega arith; same = λ i below is. refl }

  pub spared_on : (at n : ℕ) (old image : List ℕ) → IsWithin at n → SparesRest w base old → Torn at n old image → SparesRest w base image
  spared_on at n old image within was torn = record {
    no_shorter = omega (arith, was.no_shorter, torn.no_shorter);
    same = λ i below is. torn.outside i (omega (arith, below, was.no_shorter)) (within.elsewhere i is) ∙ was.same i below is;
  }

  -- and the triples by those of the slot
  pub triples_on : (at n : ℕ) (old image : List ℕ) → at + n ≤ 1536 → HasTriples old → Torn at n old image → HasTriples image
  triples_on at n old image fits was torn = record {
    reaches = λ k below. omega (arith, was.reaches k below, torn.no_shorter);
    whole = λ k below. torn.outside (w.area + k) (was.reaches k below) (after_range at n (w.area + k) (omega (arith, fits, ready.behind))) ∙ was.whole k below;
  }

  pub triples_put : (old : List ℕ) → HasTriples (written old w.area w.triples)
  triples_put old = record { reaches = λ k below. written_reaches old w.area w.triples k below; whole = λ k below. written_in old w.area w.triples k below }

  pub no_triples : (image : List ℕ) → w.triples ≡ [] → HasTriples image
  no_triples image none =
      let size : length w.triples ≡ 0 = ap (λ (s : List ℕ). length s) none in
      record { reaches = λ k below. absurd (omega (arith, below, size)); whole = λ k below. absurd (omega (arith, below, size)) }

  -- a byte of the slot's place that a write leaves out
  pub slot_on : (at n : ℕ) (old image : List ℕ) (k : ℕ) → SparesRest w base old → Torn at n old image → k < 512 → (w.gate.place + k < at) ⊎ (at + n ≤ w.gate.place + k) → byte_at image (w.gate.place + k) ≡ byte_at old (w.gate.place + k)
  slot_on at n old image k was torn below (inl before) = torn.outside (w.gate.place + k) (omega (arith, below, low, ready.long, was.no_shorter)) (before_range at n (w.gate.place + k) before)
  slot_on at n old image k was torn below (inr after) = torn.outside (w.gate.place + k) (omega (arith, below, low, ready.long, was.no_shorter)) (after_range at n (w.gate.place + k) after)

  -- the other slot's bytes
  pub other_same : (image : List ℕ) → SparesRest w base image → slot_in image other ≡ slot_in base other
  other_same image spares =
      slot_is image other (slot_in base other) (length-bytes_at base other 512)
      (λ k below. spares.same (other + k) (omega (arith, (apart k below).1, ready.long)) ((apart k below).0, inl (omega (arith, (apart k below).1, ready.behind))) ∙ sym (byte_at-bytes_at base other 512 k below))

  other_told : (image : List ℕ) → SparesRest w base image → open_number (slot_in image other) ≡ Some (number_at (slot_in base other) 8)
  other_told image spares =
      ap (λ (s : List ℕ). open_number s) (other_same image spares)
      ∙ number_told (slot_in base other) (newest_open base w.gate.place other ready.slots ready.in_force)

  -- where the new slot's gate isn't open the last commit stands
  pub stands_closed : (image : List ℕ) → SparesRest w base image → byte_at image w.gate.place ≢ 165 → LastStands base other image
  stands_closed image spares closed = record {
    in_force =
        newest_by w.gate.place other image ready.slots None (Some (number_at (slot_in base other) 8)) (none_told (slot_in image w.gate.place) (λ is. closed (sym (gate_in image w.gate.place) ∙ is))) (other_told image spares)
        ∙ chosen_alone w.gate.place other ready.slots (number_at (slot_in base other) 8);
    slot = other_same image spares;
  }

  -- and so it does where that slot is as it was
  pub stands_old : (image : List ℕ) → SparesRest w base image → HasOldSlot image → LastStands base other image
  stands_old image spares old = record {
    in_force =
        newest_by w.gate.place other image ready.slots (open_number (slot_in base w.gate.place)) (open_number (slot_in base other))
        (ap (λ (s : List ℕ). open_number s) (slot_is image w.gate.place (slot_in base w.gate.place) (length-bytes_at base w.gate.place 512) (λ k below. old k below ∙ sym (byte_at-bytes_at base w.gate.place 512 k below))))
        (ap (λ (s : List ℕ). open_number s) (other_same image spares))
        ∙ sym (newest_by w.gate.place other base ready.slots (open_number (slot_in base w.gate.place)) (open_number (slot_in base other)) refl refl)
        ∙ ready.in_force;
    slot = other_same image spares;
  }

  -- where it is whole, and its triples are, the new commit stands
  pub stands_new : (image : List ℕ) → SparesRest w base image → HasTriples image → HasBody image → byte_at image w.gate.place ≡ 165 → NewStands w image
  stands_new image spares triples body gate = record {
    in_force =
        newest_by w.gate.place other image ready.slots (Some (number_at w.gate.slot 8)) (Some (number_at (slot_in base other) 8)) (ap (λ (s : List ℕ). open_number s) whole ∙ number_told w.gate.slot ready.is_open) (other_told image spares)
        ∙ chosen_greater w.gate.place other ready.slots (number_at w.gate.slot 8) (number_at (slot_in base other) 8) ready.greater;
    slot = whole;
    reaches = triples.reaches;
    triples = sym (is_listed w.triples (length w.triples) (λ k. byte_at image (w.area + k)) refl (λ k below. sym (triples.whole k below)));
  }
    where
      each : (k : ℕ) → k < 512 → byte_at image (w.gate.place + k) ≡ byte_at w.gate.slot k
      each zero below = ap (λ (i : ℕ). byte_at image i) (let none : w.gate.place + 0 ≡ w.gate.place = omega arith in none) ∙ gate ∙ sym ready.is_open
      each (suc k) below = body (suc k) (omega arith) below

      whole : slot_in image w.gate.place ≡ w.gate.slot
      whole = slot_is image w.gate.place w.gate.slot ready.whole each

  -- The stages: the triples are written; the gate is closed, too; the slot stands behind it; the gate is open.
  pub record IsStored (bytes : List ℕ) : Type 0 where
    pub spares : SparesRest w base bytes
    pub triples : HasTriples bytes
    pub old : HasOldSlot bytes

  pub record IsShut (bytes : List ℕ) : Type 0 where
    pub spares : SparesRest w base bytes
    pub triples : HasTriples bytes
    pub closed : byte_at bytes w.gate.place ≢ 165

  pub record IsBehind (bytes : List ℕ) : Type 0 where
    pub spares : SparesRest w base bytes
    pub triples : HasTriples bytes
    pub closed : byte_at bytes w.gate.place ≢ 165
    pub body : HasBody bytes

  pub record IsOpen (bytes : List ℕ) : Type 0 where
    pub spares : SparesRest w base bytes
    pub triples : HasTriples bytes
    pub gate : byte_at bytes w.gate.place ≡ 165
    pub body : HasBody bytes

  at_gate : (image : List ℕ) → byte_at image (w.gate.place + 0) ≡ byte_at image w.gate.place
  at_gate image = ap (λ (i : ℕ). byte_at image i) (let none : w.gate.place + 0 ≡ w.gate.place = omega arith in none)

  body_size : length (drop w.gate.start w.gate.slot) ≡ 511
  body_size = omega (arith, length-drop w.gate.start w.gate.slot, ready.whole, ready.body)

  body_fits : (w.gate.place + w.gate.start) + length (drop w.gate.start w.gate.slot) ≡ w.gate.place + 512
  body_fits = omega (arith, body_size, ready.body)

  body_within : IsWithin (w.gate.place + w.gate.start) (length (drop w.gate.start w.gate.slot))
  body_within = slot_within w.gate.start (length (drop w.gate.start w.gate.slot)) (omega (arith, body_size, ready.body))

  -- what a torn write leaves at each stage
  pub torn_triples : (image : List ℕ) → Torn w.area (length w.triples) base image → SparesRest w base image × LastStands base other image
  torn_triples image torn = (spares, stands_old image spares (λ k below. slot_on w.area (length w.triples) base image k spared_none torn below (inl (omega (arith, below, low, ready.behind)))))
    where
      spares : SparesRest w base image
      spares = spared_on w.area (length w.triples) base image triples_within spared_none torn

  pub torn_closing : (bytes image : List ℕ) → IsStored bytes → byte_at base w.gate.place ≡ 165 → Torn w.gate.place 1 bytes image → SparesRest w base image × LastStands base other image
  torn_closing bytes image was stood torn = (spares, by_gate (gate_is image w.gate.place))
    where
      spares : SparesRest w base image
      spares = spared_on w.gate.place 1 bytes image gate_within was.spares torn

      old : byte_at image w.gate.place ≡ 165 → HasOldSlot image
      old is zero below = at_gate image ∙ is ∙ sym stood ∙ sym (at_gate base)
      old is (suc k) below = slot_on w.gate.place 1 bytes image (suc k) was.spares torn below (inr (omega arith)) ∙ was.old (suc k) below

      by_gate : (byte_at image w.gate.place ≡ 165) ⊎ (byte_at image w.gate.place ≢ 165) → LastStands base other image
      by_gate (inl is) = stands_old image spares (old is)
      by_gate (inr isnt) = stands_closed image spares isnt

  pub torn_body : (bytes image : List ℕ) → IsShut bytes → Torn (w.gate.place + w.gate.start) (length (drop w.gate.start w.gate.slot)) bytes image → SparesRest w base image × LastStands base other image
  torn_body bytes image was torn = (spares, stands_closed image spares (λ is. was.closed (sym same ∙ is)))
    where
      spares : SparesRest w base image
      spares = spared_on (w.gate.place + w.gate.start) (length (drop w.gate.start w.gate.slot)) bytes image body_within was.spares torn

      same : byte_at image w.gate.place ≡ byte_at bytes w.gate.place
      same =
          sym (at_gate image)
          ∙ slot_on (w.gate.place + w.gate.start) (length (drop w.gate.start w.gate.slot)) bytes image 0 was.spares torn (omega arith) (inl (omega (arith, ready.body)))
          ∙ at_gate bytes

  pub torn_opening : (bytes image : List ℕ) → IsBehind bytes → Torn w.gate.place 1 bytes image → SparesRest w base image × (LastStands base other image ⊎ NewStands w image)
  torn_opening bytes image was torn = (spares, by_gate (gate_is image w.gate.place))
    where
      spares : SparesRest w base image
      spares = spared_on w.gate.place 1 bytes image gate_within was.spares torn

      by_gate : (byte_at image w.gate.place ≡ 165) ⊎ (byte_at image w.gate.place ≢ 165) → LastStands base other image ⊎ NewStands w image
      by_gate (inl is) =
          inr (stands_new image spares (triples_on w.gate.place 1 bytes image (omega (arith, low)) was.triples torn)
          (λ k some below. slot_on w.gate.place 1 bytes image k was.spares torn below (inr (omega (arith, some))) ∙ was.body k some below)
          is)
      by_gate (inr isnt) = inl (stands_closed image spares isnt)

  -- and what each write makes once it is synced
  pub stored : IsStored (written base w.area w.triples)
  stored = record {
    spares = spared_on w.area (length w.triples) base (written base w.area w.triples) triples_within spared_none torn;
    triples = triples_put base;
    old = λ k below. slot_on w.area (length w.triples) base (written base w.area w.triples) k spared_none torn below (inl (omega (arith, below, low, ready.behind)));
  }
    where
      torn : Torn w.area (length w.triples) base (written base w.area w.triples)
      torn = written_torn base w.area w.triples

  pub stored_none : w.triples ≡ [] → IsStored base
  stored_none none = record { spares = spared_none; triples = no_triples base none; old = λ k below. refl }

  pub stored_gate : (bytes : List ℕ) → IsStored bytes → byte_at bytes w.gate.place ≡ byte_at base w.gate.place
  stored_gate bytes was = sym (at_gate bytes) ∙ was.old 0 (omega arith) ∙ at_gate base

  pub shut_already : (bytes : List ℕ) → IsStored bytes → byte_at base w.gate.place ≢ 165 → IsShut bytes
  shut_already bytes was closed = record {
    spares = was.spares;
    triples = was.triples;
    closed = λ is. closed (sym (stored_gate bytes was) ∙ is);
  }

  pub shut : (bytes : List ℕ) → IsStored bytes → IsShut (written bytes w.gate.place (closed_gate ∷ []))
  shut bytes was = record {
    spares = spared_on w.gate.place 1 bytes (written bytes w.gate.place (closed_gate ∷ [])) gate_within was.spares torn;
    triples = triples_on w.gate.place 1 bytes (written bytes w.gate.place (closed_gate ∷ [])) (omega (arith, low)) was.triples torn;
    closed = λ is. let zero_is : 0 ≡ 165 = sym (sym (at_gate (written bytes w.gate.place (closed_gate ∷ []))) ∙ written_in bytes w.gate.place (closed_gate ∷ []) 0 (omega arith)) ∙ is in absurd (omega (arith, zero_is));
  }
    where
      torn : Torn w.gate.place 1 bytes (written bytes w.gate.place (closed_gate ∷ []))
      torn = written_torn bytes w.gate.place (closed_gate ∷ [])

  abbrev pub with_body : List ℕ → List ℕ
  with_body bytes = written bytes (w.gate.place + w.gate.start) (drop w.gate.start w.gate.slot)

  pub behind : (bytes : List ℕ) → IsShut bytes → IsBehind (with_body bytes)
  behind bytes was = record {
    spares = spared_on (w.gate.place + w.gate.start) (length (drop w.gate.start w.gate.slot)) bytes (with_body bytes) body_within was.spares torn;
    triples = triples_on (w.gate.place + w.gate.start) (length (drop w.gate.start w.gate.slot)) bytes (with_body bytes) (omega (arith, body_fits, low)) was.triples torn;
    closed = λ is. was.closed (sym (sym (at_gate (with_body bytes)) ∙ slot_on (w.gate.place + w.gate.start) (length (drop w.gate.start w.gate.slot)) bytes (with_body bytes) 0 was.spares torn (omega arith) (inl (omega (arith, ready.body))) ∙ at_gate bytes) ∙ is);
    body = λ k some below.
        ap (λ (i : ℕ). byte_at (with_body bytes) i) (let here : w.gate.place + k ≡ (w.gate.place + w.gate.start) + (k - w.gate.start) = omega (arith, some, ready.body) in here)
        ∙ written_in bytes (w.gate.place + w.gate.start) (drop w.gate.start w.gate.slot) (k - w.gate.start) (omega (arith, body_size, below, some, ready.body))
        ∙ get_or-drop w.gate.start w.gate.slot (k - w.gate.start) 0
        ∙ ap (λ (i : ℕ). byte_at w.gate.slot i) (let there : w.gate.start + (k - w.gate.start) ≡ k = omega (arith, some, ready.body) in there);
  }
    where
      torn : Torn (w.gate.place + w.gate.start) (length (drop w.gate.start w.gate.slot)) bytes (with_body bytes)
      torn = written_torn bytes (w.gate.place + w.gate.start) (drop w.gate.start w.gate.slot)

  pub opened_gate : (bytes : List ℕ) → IsBehind bytes → IsOpen (written bytes w.gate.place (open_gate ∷ []))
  opened_gate bytes was = record {
    spares = spared_on w.gate.place 1 bytes (written bytes w.gate.place (open_gate ∷ [])) gate_within was.spares torn;
    triples = triples_on w.gate.place 1 bytes (written bytes w.gate.place (open_gate ∷ [])) (omega (arith, low)) was.triples torn;
    gate = sym (at_gate (written bytes w.gate.place (open_gate ∷ []))) ∙ written_in bytes w.gate.place (open_gate ∷ []) 0 (omega arith);
    body = λ k some below. slot_on w.gate.place 1 bytes (written bytes w.gate.place (open_gate ∷ [])) k was.spares torn below (inr (omega (arith, some))) ∙ was.body k some below;
  }
    where
      torn : Torn w.gate.place 1 bytes (written bytes w.gate.place (open_gate ∷ []))
      torn = written_torn bytes w.gate.place (open_gate ∷ [])

  pub new_in_force : (bytes : List ℕ) → IsOpen bytes → NewStands w bytes
  new_in_force bytes is = stands_new bytes is.spares is.triples is.body is.gate
