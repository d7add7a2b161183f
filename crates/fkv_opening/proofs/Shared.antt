-- Images with the same records from the log's begin to its end have the same scan.
use Rattle.std.proofs.Common.{◌≡◌, inl, inr, ℕ, ◌+◌, ◌<◌, ◌≤◌, List, sym, ◌∙◌, arith}
use Rattle.fkv_base.specs.declared.faults.Fault.{Fault}
use Rattle.fkv_base.specs.declared.faults.Fault.TheVariants as fault
use Rattle.fkv_base.specs.declared.faults.Damage.TheVariants as damage
use Rattle.fkv_base.specs.declared.shapes.Shape.{Shape}
use Rattle.fkv_disk.specs.Bytes.{bytes_at}
use Rattle.fkv_record.specs.declared.manifest_slots.ManifestSlot.{ManifestSlot}
use Rattle.fkv_record.specs.declared.records.Record.{Record}
use Rattle.fkv_record.specs.declared.triples.Triple.{Triple}
use Rattle.fkv_record.specs.Places.{record_place}
use Rattle.fkv_scan.specs.Log.{Log, log_in, record_home, triple_home, HasTriple, AreBelow}
use Rattle.fkv_scan.specs.Records.{Stands, next_of, IsValid, IsKept, IsNewer}
use Rattle.fkv_scan.specs.Scan.{Has, HasNone, IsGreatest, GoesOn, by_triple, by_none, by_record, IsLinked, IsFit, IsScanned, IsScannedTo, IsLed, HasScan, IsOff, IsScanFault}

-- two images share the records of a log
abbrev pub Share : Shape → ManifestSlot → List ℕ → List ℕ → Type 0
Share s slot i j = (a : ℕ) → slot.begin.0 ≤ a → a < slot.end.0 → bytes_at i (record_place s a) 24 ≡ bytes_at j (record_place s a) 24

pub flip : (s : Shape) (slot : ManifestSlot) (i j : List ℕ) → Share s slot i j → Share s slot j i
flip s slot i j same = λ a low high. sym (same a low high)

-- what is said of a record goes over to an image that shares it
abbrev pub Moves : Shape → ManifestSlot → (List ℕ → ℕ → Record → Type 0) → Type 0
Moves s slot P = (i j : List ℕ) → Share s slot i j → (a : ℕ) (x : Record) → slot.begin.0 ≤ a → a < slot.end.0 → P i a x → P j a x

module _ (s : Shape) (slot : ManifestSlot) (P : List ℕ → ℕ → Record → Type 0) (moves : Moves s slot P) (i j : List ℕ) (same : Share s slot i j) where
  pub has_on : (a : ℕ) → slot.begin.0 ≤ a → a < slot.end.0 → Has (P i) a → Has (P j) a
  has_on a low high has = (has.0, moves i j same a has.0 low high has.1)

  pub none_on : (from to : ℕ) → slot.begin.0 ≤ from → to ≤ slot.end.0 → HasNone (P i) from to → HasNone (P j) from to
  none_on from to low high none = λ b y up below there. none b y up below (moves j i (flip s slot i j same) b y (omega (arith, low, up)) (omega (arith, high, below)) there)

  pub greatest_on : (from to a : ℕ) → slot.begin.0 ≤ from → to ≤ slot.end.0 → IsGreatest (P i) from to a → IsGreatest (P j) from to a
  greatest_on from to a low high is = record {
    from_on = is.from_on;
    below = is.below;
    here = (let up = is.from_on in let under = is.below in has_on a (omega (arith, low, up)) (omega (arith, under, high)) is.here);
    none_above = (let up = is.from_on in none_on (a + 1) to (omega (arith, low, up)) high is.none_above);
  }

module _ (s : Shape) (slot : ManifestSlot) (ts : List Triple) where
  -- the log in an image
  abbrev log : List ℕ → Log
  log i = log_in i s slot ts

  pub stands_on : Moves s slot (λ i. Stands (log i))
  stands_on i j same a x low high there = there ∙ same a low high

  pub valid_on : (h : ℕ) → Moves s slot (λ i. IsValid (log i) h)
  valid_on h i j same a x low high is = record { stands = stands_on i j same a x low high is.stands; valid = is.valid; same = is.same }

  pub kept_on : (h : ℕ) → Moves s slot (λ i. IsKept (log i) h)
  kept_on h i j same a x low high is = record { here = valid_on h i j same a x low high is.here; not_lost = is.not_lost }

  pub newer_on : Moves s slot (λ i. IsNewer (log i))
  newer_on i j same a x low high is = record { stands = stands_on i j same a x low high is.stands; valid = is.valid; newer = is.newer }

  fit_on : Moves s slot (λ i. IsFit (log i))
  fit_on i j same a x low high is = record { stands = stands_on i j same a x low high is.stands; new_enough = is.new_enough; old_enough = is.old_enough; falls = is.falls }

  pub triple_on : (i j : List ℕ) (h q : ℕ) → HasTriple (log i) h q → HasTriple (log j) h q
  triple_on i j h q has = record { place = has.place; triple = has.triple; stands = has.stands; same = has.same; address = has.address; in_log = has.in_log }

  module _ (some : slot.begin.0 ≤ slot.first.0) where
    goes_on : (i j : List ℕ) → Share s slot i j → (h to q : ℕ) → to ≤ slot.end.0 → GoesOn (log i) h to q → GoesOn (log j) h to q
    goes_on i j same h to q high (by_triple has low) = by_triple (triple_on i j h q has) low
    goes_on i j same h to q high (by_none none is) = by_none (λ addr has. none addr (triple_on j i h addr has)) is
    goes_on i j same h to q high (by_record c x from below valid is low) =
        by_record c x from below (valid_on h i j same c x (omega (arith, some, from)) (omega (arith, below, high)) valid) is low

    linked_on : (i j : List ℕ) → Share s slot i j → (a : ℕ) (x : Record) → a < slot.end.0 → next_of (log i) x < a → IsLinked (log i) a x → IsLinked (log j) a x
    linked_on i j same a x high falls linked = record {
      nearest = λ kept b great.
          let up = great.from_on in
          let under = great.below in
          let is = linked.nearest kept b (greatest_on s slot (λ k. IsKept (log k) h) (kept_on h) j i back slot.first.0 a b some to great) in
          (is.0, λ y there. is.1 y (stands_on j i back b y (omega (arith, some, up)) (omega (arith, under, high)) there));
      first = λ kept none. linked.first kept (none_on s slot (λ k. IsKept (log k) h) (kept_on h) j i back slot.first.0 a some to none);
      lost = λ lost up. has_on s slot (λ k. IsValid (log k) h) (valid_on h) i j same (next_of (log i) x) (omega (arith, some, up)) (omega (arith, falls, high)) (linked.lost lost up);
      below = λ low q goes. linked.below low q (goes_on j i back h a q to goes);
    }
      where
        h : ℕ
        h = record_home s.bucket_bits x

        back : Share s slot j i
        back = flip s slot i j same

        to : a ≤ slot.end.0
        to = omega (arith, high)

    scanned_on : (i j : List ℕ) → Share s slot i j → (a : ℕ) → slot.begin.0 ≤ a → a < slot.end.0 → IsScanned (log i) a → IsScanned (log j) a
    scanned_on i j same a low high is = record {
      held = is.held;
      fits = fit_on i j same a is.held low high is.fits;
      linked = λ valid. linked_on i j same a is.held high is.fits.falls (is.linked valid);
    }

    pub scanned_to : (i j : List ℕ) → Share s slot i j → (to : ℕ) → to ≤ slot.end.0 → IsScannedTo (log i) to → IsScannedTo (log j) to
    scanned_to i j same to high are = λ c from below. scanned_on i j same c (omega (arith, some, from)) (omega (arith, below, high)) (are c from below)

    led_on : (i j : List ℕ) → Share s slot i j → (t : Triple) → t.addr.0 < slot.end.0 → IsLed (log i) t → IsLed (log j) t
    led_on i j same t high led = λ from. has_on s slot (λ k. IsValid (log k) (triple_home t)) (valid_on (triple_home t)) i j same t.addr.0 (omega (arith, some, from)) high (led from)

    module _ (in_log : AreBelow slot.end.0 ts) (i j : List ℕ) (same : Share s slot i j) where
      pub scan_on : HasScan (log i) → HasScan (log j)
      scan_on scan = record {
        records = scanned_to i j same slot.end.0 (omega arith) scan.records;
        triples = λ k t is. led_on i j same t (in_log k t is) (scan.triples k t is);
      }

      off_on : (a : ℕ) → slot.begin.0 ≤ a → a < slot.end.0 → IsOff (log i) a → IsOff (log j) a
      off_on a low high off = record {
        held = off.held;
        fits = fit_on i j same a off.held low high off.fits;
        valid = off.valid;
        here = λ linked. off.here (linked_on j i (flip s slot i j same) a off.held high off.fits.falls linked);
      }

      pub scan_fault_on : (why : Fault) → IsScanFault (log i) why → IsScanFault (log j) why
      scan_fault_on (fault.Damaged damage.Record a) found =
          let from = found.from_start in
          let low = found.in_log in
          record {
            from_start = found.from_start;
            in_log = found.in_log;
            before = scanned_to i j same a (omega (arith, low)) found.before;
            here = λ x fits. found.here x (fit_on j i (flip s slot i j same) a x (omega (arith, some, from)) low fits);
          }
      scan_fault_on (fault.Damaged damage.Link a) (inl found) =
          let from = found.from_start in
          let low = found.in_log in
          inl (record {
            from_start = found.from_start;
            in_log = found.in_log;
            before = scanned_to i j same a (omega (arith, low)) found.before;
            here = off_on a (omega (arith, some, from)) low found.here;
          })
      scan_fault_on (fault.Damaged damage.Link a) (inr found) = inr (record {
        records = scanned_to i j same slot.end.0 (omega arith) found.records;
        place = found.place;
        triple = found.triple;
        stands = found.stands;
        address = found.address;
        before = λ k t low is. led_on i j same t (in_log k t is) (found.before k t low is);
        here = λ led. found.here (led_on j i (flip s slot i j same) found.triple (in_log found.place found.triple found.stands) led);
      })
      scan_fault_on why found = absurd (found)
