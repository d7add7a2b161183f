-- Images that agree on what recovery reads hold the same store, or have the same fault.
use Rattle.std.proofs.Common.{◌≡◌, inl, inr, ℕ, ◌<◌, ◌≤◌, List, Some, refl, sym, ap, subst, ◌∙◌, arith}
use Rattle.std.specs.Prelude.{length, slice_get}
use Rattle.std.proofs.lemmas.Option.{slice_get_within}
use Rattle.fkv_base.specs.declared.faults.Fault.{Fault}
use Rattle.fkv_base.specs.declared.numbers.Addr.{Addr}
use Rattle.fkv_base.specs.declared.shapes.Shape.{Shape}
use Rattle.fkv_disk.specs.Bytes.{bytes_at}
use Rattle.fkv_base.specs.declared.faults.Fault.TheVariants as fault
use Rattle.fkv_base.specs.declared.faults.Damage.TheVariants as damage
use Rattle.fkv_words.specs.Fields.{SpellsApart}
use Rattle.fkv_manifest.specs.Newest.{slot_in, newer, newest}
use Rattle.fkv_record.specs.declared.triples.Triple.{Triple}
use Rattle.fkv_record.specs.Layout.{record_bytes}
use Rattle.fkv_record.specs.Places.{open_number, record_place}
use Rattle.fkv_scan.specs.Checkpoint.{checkpoint_in, IsTripleAt, IsSoundTriple, AreTriples}
use Rattle.fkv_scan.specs.Log.{AreBelow}
use Rattle.fkv_newest.specs.declared.newest_slots.Newest.{Newest}
use Rattle.fkv_newest.specs.Newest.{ShowSame}
use Rattle.fkv_newest.proofs.Shown.{told_alike, faults_alike}
use Rattle.fkv_opening.specs.declared.opened_store.Opened.{Opened}
use Rattle.fkv_opening.specs.Alike.{ShareLog, Agree, AreOne}
use Rattle.fkv_opening.specs.Faults.{log_of, HasCheckpoint, IsSound, IsTriplesFault, IsLogFault, of_scan, of_chains, of_room, IsFaultOf, of_newest, of_triples, of_log}
use Rattle.fkv_opening.specs.Opened.{IsStoreOf, Tells}
use Rattle.fkv_opening.proofs.Shared.{Share, scan_on, scan_fault_on}
use Rattle.fkv_opening.proofs.Warming.{warm_on}
use Rattle.fkv_opening.proofs.SharedChains.{chains_on, room_on, room_fault_on, entries_on, in_hand_on, chain_fault_on}

flip_front : (i j : List ℕ) → ShowSame i j → ShowSame j i
flip_front i j same = record {
  block = sym same.block;
  open_0 = sym same.open_0;
  open_1 = sym same.open_1;
  slot = λ index is. sym (same.slot index (newest_same ∙ is));
}
  where
    newest_same : newest i ≡ newest j
    newest_same =
        ap (λ n. newer n (open_number (slot_in i 1024))) same.open_0
        ∙ ap (λ n. newer (open_number (slot_in j 512)) n) same.open_1

flip_log : (n : Newest) (i j : List ℕ) → ShareLog n i j → ShareLog n j i
flip_log n i j same = record { triples = λ k low. sym (same.triples k low); records = λ a low high. sym (same.records a low high) }

module _ (n : Newest) where
  triple_on : (i j : List ℕ) → ShareLog n i j → (k : ℕ) (x : Triple) → k < n.slot.triples → IsTripleAt (checkpoint_in i n.shape n.slot) k x → IsTripleAt (checkpoint_in j n.shape n.slot) k x
  triple_on i j same k x low is = record { stands = is.stands ∙ same.triples k low; in_index = is.in_index; in_log = is.in_log }

  sound_on : (i j : List ℕ) → ShareLog n i j → (k : ℕ) → k < n.slot.triples → IsSoundTriple (checkpoint_in i n.shape n.slot) k → IsSoundTriple (checkpoint_in j n.shape n.slot) k
  sound_on i j same k low is = record {
    held = is.held;
    fits = triple_on i j same k is.held low is.fits;
    first = λ m y less there. is.first m y less (triple_on j i (flip_log n i j same) m y (omega (arith, less, low)) there);
  }

  module _ (i j : List ℕ) (same : ShareLog n i j) where
    triples_on : (ts : List Triple) → AreTriples (checkpoint_in i n.shape n.slot) ts → AreTriples (checkpoint_in j n.shape n.slot) ts
    triples_on ts are = record { many = are.many; each = λ k x is. triple_on i j same k x (counted k x is) (are.each k x is) }
      where
        counted : (k : ℕ) (x : Triple) → slice_get ts k ≡ Some x → k < n.slot.triples
        counted k x is = (let low : k < length ts = slice_get_within ts k x is in let many = are.many in omega (arith, low, many))

    triples_fault_on : (why : Fault) → IsTriplesFault (checkpoint_in i n.shape n.slot) why → IsTriplesFault (checkpoint_in j n.shape n.slot) why
    triples_fault_on (fault.Damaged damage.Triple k) found = record {
      counted = found.counted;
      before = λ m low. (let high = found.counted in sound_on i j same m (omega (arith, low, high)) (found.before m low));
      here = λ sound. found.here (sound_on j i (flip_log n i j same) k found.counted sound);
    }
    triples_fault_on why found = absurd (found)

module _ (i j : List ℕ) (same : Agree i j) where
  checkpoint_on : (n : Newest) (ts : List Triple) → HasCheckpoint i n ts → HasCheckpoint j n ts
  checkpoint_on n ts has = record { newest = told_alike i j same.front n has.newest; stored = triples_on n i j (same.behind n has.newest) ts has.stored; apart = has.apart }

  module _ (apart : SpellsApart record_bytes) (n : Newest) (ts : List Triple) (has : HasCheckpoint i n ts) where
    some : n.slot.begin.0 ≤ n.slot.first.0
    some = has.newest.manifest.suits.begin.before_scan

    upwards : n.slot.first.0 ≤ n.slot.end.0
    upwards = has.newest.manifest.suits.log.upwards

    in_log : AreBelow n.slot.end.0 ts
    in_log k x is = (has.stored.each k x is).in_log

    shared : Share n.shape n.slot i j
    shared = (same.behind n has.newest).records

    sound_there : IsSound (log_of i n ts) → IsSound (log_of j n ts)
    sound_there sound = record {
      scan = scan_on n.shape n.slot ts some in_log i j shared sound.scan;
      chains = chains_on apart n.shape n.slot ts some upwards in_log i sound.scan j shared sound.chains;
      room = room_on apart n.shape n.slot ts some upwards in_log i j shared sound.scan sound.chains sound.room;
    }

    of_log_there : (why : Fault) → IsLogFault (log_of j n ts) why → IsFaultOf j why
    of_log_there why found = of_log n ts (checkpoint_on n ts has) found

    -- a fault of the log
    log_fault_there : (why : Fault) → IsLogFault (log_of i n ts) why → (found : Fault) × IsFaultOf j found × AreOne i why j found
    log_fault_there why (of_scan found) = (why, of_log_there why (of_scan (scan_fault_on n.shape n.slot ts some in_log i j shared why found)), inl refl)
    log_fault_there why (of_room scan chains found) = (
      why,
      of_log_there why (of_room
          (scan_on n.shape n.slot ts some in_log i j shared scan)
          (chains_on apart n.shape n.slot ts some upwards in_log i scan j shared chains)
          (room_fault_on apart n.shape n.slot ts some upwards in_log i j shared scan chains why found)),
      inl refl,
    )
    log_fault_there why (of_chains scan found) =
        let scan_there = scan_on n.shape n.slot ts some in_log i j shared scan in
        let other = chain_fault_on apart n.shape n.slot ts some upwards in_log i j shared scan_there why found in (
          other.0,
          of_log_there other.0 (of_chains scan_there other.1),
          inr (
            record { newest = n; triples = ts; checkpoint = has; scan = scan; found = found },
            record { newest = n; triples = ts; checkpoint = checkpoint_on n ts has; scan = scan_there; found = other.1 },
          ),
        )

  same_log : (o : Opened) (n : Newest) → Tells n o → Share n.shape n.slot i j → (a : ℕ) → o.begin.0 ≤ a → a < o.tail.0 → bytes_at i (record_place o.shape a) 24 ≡ bytes_at j (record_place o.shape a) 24
  same_log o n tells shared = λ a some below.
      let end : o.tail.0 ≡ n.slot.end.0 = ap (λ (x : Addr). x.0) tells.tail in
      let begin : o.begin.0 ≡ n.slot.begin.0 = ap (λ (x : Addr). x.0) tells.begin in
      subst (λ (s : Shape). bytes_at i (record_place s a) 24 ≡ bytes_at j (record_place s a) 24) (sym tells.shape) (shared a (omega (arith, some, begin)) (omega (arith, below, end)))

  pub store_alike : SpellsApart record_bytes → (opened : Opened) → IsStoreOf i opened → IsStoreOf j opened
  store_alike apart opened store =
      let n = store.newest in
      let ts = store.triples in
      let has = store.checkpoint in
      let same_records = shared apart n ts has in
      record {
        newest = store.newest;
        triples = store.triples;
        checkpoint = checkpoint_on n ts has;
        sound = sound_there apart n ts has store.sound;
        tells = store.tells;
        entries = entries_on apart n.shape n.slot ts (some apart n ts has) (upwards apart n ts has) (in_log apart n ts has) i j same_records store.sound.scan store.sound.chains opened.entries.items store.entries;
        lost = in_hand_on apart n.shape n.slot ts (some apart n ts has) (upwards apart n ts has) (in_log apart n ts has) i j same_records opened.lost.items store.lost;
        warm = warm_on i j opened (same_log opened n store.tells same_records) store.warm;
      }

  pub fault_alike : SpellsApart record_bytes → (why : Fault) → IsFaultOf i why → (found : Fault) × IsFaultOf j found × AreOne i why j found
  fault_alike apart why (of_newest found) = (why, of_newest (faults_alike i j same.front why found), inl refl)
  fault_alike apart why (of_triples n is found) = (why, of_triples n (told_alike i j same.front n is) (triples_fault_on n i j (same.behind n is) why found), inl refl)
  fault_alike apart why (of_log n ts has found) = log_fault_there apart n ts has why found

pub flip : (i j : List ℕ) → Agree i j → Agree j i
flip i j same = record { front = front; behind = λ n is. flip_log n i j (same.behind n (told_alike j i front n is)) }
  where
    front : ShowSame j i
    front = flip_front i j same.front
