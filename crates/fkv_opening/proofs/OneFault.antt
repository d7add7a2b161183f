-- An image has one fault, or several of its chains.
use Rattle.std.proofs.Common.{◌≡◌, ◌⊎◌, inl, inr, ⊎_elim, ℕ, ◌<◌, ◌≤◌, false, List, sym, ap, subst, ◌∙◌, arith}
use Rattle.std.specs.Prelude.{slice_get}
use Rattle.std.proofs.lemmas.Bool.{cases_lt}
use Rattle.fkv_base.specs.declared.faults.Fault.{Fault}
use Rattle.fkv_base.specs.declared.faults.Fault.TheVariants as fault
use Rattle.fkv_base.specs.declared.faults.Damage.TheVariants as damage
use Rattle.fkv_record.specs.declared.records.Record.{Record}
use Rattle.fkv_record.specs.declared.triples.Triple.{Triple}
use Rattle.fkv_scan.specs.Checkpoint.{Checkpoint, checkpoint_in, AreTriples, IsTripleFault}
use Rattle.fkv_scan.specs.Log.{Log}
use Rattle.fkv_scan.specs.Scan.{IsLinked, IsOff, IsScanned, IsScannedTo, IsRecordFault, IsRecordLinkFault, IsTripleLinkFault, IsScanFault}
use Rattle.fkv_scan.proofs.Shown.{no_fault as no_scan_fault, some_is}
use Rattle.fkv_chains.proofs.Shown.{no_fault as no_chain_fault}
use Rattle.fkv_room.specs.Room.{IsRoomFault}
use Rattle.fkv_room.proofs.Shown.{one_full}
use Rattle.fkv_newest.specs.declared.newest_slots.Newest.{Newest}
use Rattle.fkv_newest.specs.Newest.{IsNewestOf}
use Rattle.fkv_newest.proofs.Shown.{no_fault as no_newest_fault, one_fault as one_newest_fault}
use Rattle.fkv_opening.specs.Alike.{AreOne}
use Rattle.fkv_opening.specs.Faults.{log_of, HasCheckpoint, IsTriplesFault, IsLogFault, of_scan, of_chains, of_room, IsFaultOf, of_newest, of_triples, of_log}
use Rattle.fkv_opening.proofs.Exact.{Apart, one_list, no_triple_fault, same_checkpoint, same_log}

-- the first triple that is faulty
pub one_triple_fault : (at : Checkpoint) (k m : ℕ) → IsTripleFault at k → IsTripleFault at m → k ≡ m
one_triple_fault at k m first second = ⊎_elim
    (λ low. absurd (first.here (second.before k low)))
    (λ up. ⊎_elim (λ low. absurd (second.here (first.before m low))) (λ down. omega (arith, up, down)) (cases_lt m k))
    (cases_lt k m)

one_triples_fault : (at : Checkpoint) (why other : Fault) → IsTriplesFault at why → IsTriplesFault at other → why ≡ other
one_triples_fault at (fault.Damaged damage.Triple k) (fault.Damaged damage.Triple m) first second = ap (λ (n : ℕ). fault.Damaged damage.Triple n) (one_triple_fault at k m first second)
one_triples_fault at (fault.Damaged damage.Triple k) other first second = absurd (second)
one_triples_fault at why other first second = absurd (first)

one_room_fault : (log : Log) (why other : Fault) → IsRoomFault log why → IsRoomFault log other → why ≡ other
one_room_fault log (fault.Damaged damage.Full a) (fault.Damaged damage.Full b) first second = ap (λ (n : ℕ). fault.Damaged damage.Full n) (one_full log a b first second)
one_room_fault log (fault.Damaged damage.Full a) other first second = absurd (second)
one_room_fault log why other first second = absurd (first)

module _ (apart : Apart) where
  module _ (log : Log) where
    not_off : (a : ℕ) → IsScanned log a → IsOff log a → ⊥
    not_off a scanned off =
        let same : off.held ≡ scanned.held = apart.records off.held scanned.held (off.fits.stands ∙ sym scanned.fits.stands) in
        let valid : scanned.held.header.invalid ≡ false = ap (λ (x : Record). x.header.invalid) (sym same) ∙ off.valid in
        off.here (subst (λ (x : Record). IsLinked log a x) (sym same) (scanned.linked valid))

    -- an address of the scan is the first faulty one
    record IsFirst (a : ℕ) : Type 0 where
      from_start : log.start ≤ a
      in_log : a < log.tail
      before : IsScannedTo log a
      here : IsScanned log a → ⊥

    by_record : (a : ℕ) → IsRecordFault log a → IsFirst a
    by_record a found = record { from_start = found.from_start; in_log = found.in_log; before = found.before; here = λ scanned. found.here scanned.held scanned.fits }

    by_link : (a : ℕ) → IsRecordLinkFault log a → IsFirst a
    by_link a found = record { from_start = found.from_start; in_log = found.in_log; before = found.before; here = λ scanned. not_off a scanned found.here }

    one_first : (a b : ℕ) → IsFirst a → IsFirst b → a ≡ b
    one_first a b first second = ⊎_elim
        (λ low. absurd (first.here (second.before a first.from_start low)))
        (λ up. ⊎_elim (λ low. absurd (second.here (first.before b second.from_start low))) (λ down. omega (arith, up, down)) (cases_lt b a))
        (cases_lt a b)

    record_or_link : (a b : ℕ) → IsRecordFault log a → IsRecordLinkFault log b → ⊥
    record_or_link a b first second =
        let same : b ≡ a = one_first b a (by_link b second) (by_record a first) in
        let off : IsOff log a = subst (λ (c : ℕ). IsOff log c) same second.here in
        first.here off.held off.fits

    first_or_triple : (a b : ℕ) → IsFirst a → IsTripleLinkFault log b → ⊥
    first_or_triple a b first second = first.here (second.records a first.from_start first.in_log)

    one_led : (a b : ℕ) → IsTripleLinkFault log a → IsTripleLinkFault log b → a ≡ b
    one_led a b first second = ⊎_elim
        (λ low. absurd (first.here (second.before first.place first.triple low first.stands)))
        (λ up. ⊎_elim (λ low. absurd (second.here (first.before second.place second.triple low second.stands)))
        (λ down. same_addr (omega (arith, up, down))) (cases_lt second.place first.place))
        (cases_lt first.place second.place)
      where
        same_addr : first.place ≡ second.place → a ≡ b
        same_addr same =
            let is : first.triple ≡ second.triple = some_is first.triple second.triple (sym first.stands ∙ ap (λ k. slice_get log.triples k) same ∙ second.stands) in
            sym first.address ∙ ap (λ (t : Triple). t.addr.0) is ∙ second.address

    one_link : (a b : ℕ) → IsRecordLinkFault log a ⊎ IsTripleLinkFault log a → IsRecordLinkFault log b ⊎ IsTripleLinkFault log b → a ≡ b
    one_link a b (inl first) (inl second) = one_first a b (by_link a first) (by_link b second)
    one_link a b (inl first) (inr second) = absurd (first_or_triple a b (by_link a first) second)
    one_link a b (inr first) (inl second) = absurd (first_or_triple b a (by_link b second) first)
    one_link a b (inr first) (inr second) = one_led a b first second

    not_link : (a b : ℕ) → IsRecordFault log a → IsRecordLinkFault log b ⊎ IsTripleLinkFault log b → ⊥
    not_link a b first (inl second) = record_or_link a b first second
    not_link a b first (inr second) = first_or_triple a b (by_record a first) second

    pub one_scan_fault : (why other : Fault) → IsScanFault log why → IsScanFault log other → why ≡ other
    one_scan_fault (fault.Damaged damage.Record a) (fault.Damaged damage.Record b) first second =
        ap (λ (n : ℕ). fault.Damaged damage.Record n) (one_first a b (by_record a first) (by_record b second))
    one_scan_fault (fault.Damaged damage.Record a) (fault.Damaged damage.Link b) first second = absurd (not_link a b first second)
    one_scan_fault (fault.Damaged damage.Record a) other first second = absurd (second)
    one_scan_fault (fault.Damaged damage.Link a) (fault.Damaged damage.Record b) first second = absurd (not_link b a second first)
    one_scan_fault (fault.Damaged damage.Link a) (fault.Damaged damage.Link b) first second = ap (λ (n : ℕ). fault.Damaged damage.Link n) (one_link a b first second)
    one_scan_fault (fault.Damaged damage.Link a) other first second = absurd (second)
    one_scan_fault why other first second = absurd (first)

  module _ (image : List ℕ) (n : Newest) (ts : List Triple) (has : HasCheckpoint image n ts) where
    one_log_fault : (why other : Fault) → IsLogFault (log_of image n ts) why → IsLogFault (log_of image n ts) other → AreOne image why image other
    one_log_fault why other (of_scan first) (of_scan second) = inl (one_scan_fault (log_of image n ts) why other first second)
    one_log_fault why other (of_scan first) (of_chains scan second) = absurd (no_scan_fault apart.records (log_of image n ts) why scan first)
    one_log_fault why other (of_scan first) (of_room scan chains second) = absurd (no_scan_fault apart.records (log_of image n ts) why scan first)
    one_log_fault why other (of_chains scan first) (of_scan second) = absurd (no_scan_fault apart.records (log_of image n ts) other scan second)
    one_log_fault why other (of_chains scan first) (of_chains scan' second) = inr (
      record { newest = n; triples = ts; checkpoint = has; scan = scan; found = first },
      record { newest = n; triples = ts; checkpoint = has; scan = scan'; found = second },
    )
    one_log_fault why other (of_chains scan first) (of_room scan' chains second) = absurd (no_chain_fault apart.records (log_of image n ts) why chains first)
    one_log_fault why other (of_room scan chains first) (of_scan second) = absurd (no_scan_fault apart.records (log_of image n ts) other scan second)
    one_log_fault why other (of_room scan chains first) (of_chains scan' second) = absurd (no_chain_fault apart.records (log_of image n ts) other chains second)
    one_log_fault why other (of_room scan chains first) (of_room scan' chains' second) = inl (one_room_fault (log_of image n ts) why other first second)

  module _ (image : List ℕ) where
    same_triples_fault : (n m : Newest) (why other : Fault) → IsNewestOf image n → IsNewestOf image m → IsTriplesFault (checkpoint_in image n.shape n.slot) why
        → IsTriplesFault (checkpoint_in image m.shape m.slot) other → why ≡ other
    same_triples_fault n m why other is also first second =
        one_triples_fault (checkpoint_in image n.shape n.slot) why other first (subst (λ at. IsTriplesFault at other) (same_checkpoint apart image n m is also) second)

    no_triples_fault : (n m : Newest) (ts : List Triple) (why : Fault) → IsNewestOf image n → HasCheckpoint image m ts → IsTriplesFault (checkpoint_in image n.shape n.slot) why → ⊥
    no_triples_fault n m ts (fault.Damaged damage.Triple i) is has found =
        no_triple_fault apart (checkpoint_in image n.shape n.slot) ts i (subst (λ at. AreTriples at ts) (same_checkpoint apart image n m is has.newest) has.stored) has.apart found
    no_triples_fault n m ts why is has found = absurd (found)

    same_log_fault : (n m : Newest) (xs ys : List Triple) (why other : Fault) → HasCheckpoint image n xs → HasCheckpoint image m ys → IsLogFault (log_of image n xs) why
        → IsLogFault (log_of image m ys) other → AreOne image why image other
    same_log_fault n m xs ys why other has also first second =
        let stored : AreTriples (checkpoint_in image n.shape n.slot) ys = subst (λ at. AreTriples at ys) (same_checkpoint apart image n m has.newest also.newest) also.stored in
        let same : ys ≡ xs = one_list apart (checkpoint_in image n.shape n.slot) ys xs stored has.stored in
        one_log_fault image n xs has why other first (subst (λ log. IsLogFault log other) (same_log apart image n m has.newest also.newest xs ys same) second)

    pub one_fault : (why other : Fault) → IsFaultOf image why → IsFaultOf image other → AreOne image why image other
    one_fault why other (of_newest first) (of_newest second) = inl (one_newest_fault image why other first second)
    one_fault why other (of_newest first) (of_triples m also second) = absurd (no_newest_fault apart.shapes image m why also first)
    one_fault why other (of_newest first) (of_log m ys also second) = absurd (no_newest_fault apart.shapes image m why also.newest first)
    one_fault why other (of_triples n is first) (of_newest second) = absurd (no_newest_fault apart.shapes image n other is second)
    one_fault why other (of_triples n is first) (of_triples m also second) = inl (same_triples_fault n m why other is also first second)
    one_fault why other (of_triples n is first) (of_log m ys also second) = absurd (no_triples_fault n m ys why is also first)
    one_fault why other (of_log n xs has first) (of_newest second) = absurd (no_newest_fault apart.shapes image n other has.newest second)
    one_fault why other (of_log n xs has first) (of_triples m also second) = absurd (no_triples_fault m n xs other also has second)
    one_fault why other (of_log n xs has first) (of_log m ys also second) = same_log_fault n m xs ys why other has also first second
