-- And the same chains, entries and room.
use Rattle.std.proofs.Common.{◌≡◌, ◌≢◌, ◌⊎◌, inl, inr, ⊎_elim, ℕ, ◌<◌, ◌≤◌, Bool, true, false, List, sym, subst, ◌∙◌, arith}
use Rattle.std.proofs.lemmas.Bool.{cases_lt}
use Rattle.fkv_base.specs.declared.faults.Fault.{Fault}
use Rattle.fkv_base.specs.declared.faults.Fault.TheVariants as fault
use Rattle.fkv_base.specs.declared.faults.Damage.TheVariants as damage
use Rattle.fkv_base.specs.declared.shapes.Shape.{Shape}
use Rattle.fkv_words.specs.Fields.{SpellsApart}
use Rattle.fkv_record.specs.declared.lost_ranges.LostRange.{LostRange}
use Rattle.fkv_record.specs.declared.manifest_slots.ManifestSlot.{ManifestSlot}
use Rattle.fkv_record.specs.declared.records.Record.{Record}
use Rattle.fkv_record.specs.declared.triples.Triple.{Triple}
use Rattle.fkv_record.specs.Layout.{record_bytes}
use Rattle.fkv_record.proofs.Shown.{from_some}
use Rattle.fkv_scan.specs.Log.{Log, log_in, AreBelow, HasTriple, record_home}
use Rattle.fkv_scan.specs.Records.{Stands, next_of, IsNewer}
use Rattle.fkv_scan.specs.Scan.{HasScan}
use Rattle.fkv_scan.specs.Scanned.{TellsNewer}
use Rattle.fkv_chains.specs.Chains.{IsChained, HasChains, IsChainFault}
use Rattle.fkv_chains.specs.Entries.{Counts, IsEntry}
use Rattle.fkv_chains.specs.Reached.{Reached, in_scan, led_to, linked, LeadsTo, from_triple, from_record}
use Rattle.fkv_chains.proofs.Shown.{no_fault as no_chain_fault}
use Rattle.fkv_entries.specs.declared.home_entries.HomeEntry.{HomeEntry}
use Rattle.fkv_room.specs.Room.{AreHomes, HasRoom, IsRoomFault}
use Rattle.fkv_opening.specs.Entries.{AreEntries}
use Rattle.fkv_opening.specs.Lost.{Extends, AreInHand}
use Rattle.fkv_opening.proofs.Shared.{Share, flip, has_on, none_on, stands_on, valid_on, newer_on, triple_on, scan_on}

-- a log has a fault of the chains
abbrev pub HasChainFault : Log → Type 0
HasChainFault log = (why : Fault) × IsChainFault log why

module _ (apart : SpellsApart record_bytes) (s : Shape) (slot : ManifestSlot) (ts : List Triple) (some : slot.begin.0 ≤ slot.first.0) (upwards : slot.first.0 ≤ slot.end.0)
    (in_log : AreBelow slot.end.0 ts) where
  abbrev log : List ℕ → Log
  log i = log_in i s slot ts

  -- an address of the log is reached
  abbrev IsWithin : List ℕ → ℕ → Type 0
  IsWithin i a = (slot.begin.0 ≤ a) × (a < slot.end.0) × Reached (log i) a

  module _ (i : List ℕ) (scan : HasScan (log i)) where
    off_below : (a : ℕ) (x : Record) → Reached (log i) a → Stands (log i) a x → a ≤ next_of (log i) x → a < slot.first.0 → HasChainFault (log i)
    off_below a x reached there up below = (
      fault.Damaged damage.Record a,
      record {
        reached = reached;
        below_start = below;
        here = λ y old.
            let same : y ≡ x = apart y x (old.stands ∙ sym there) in
            let falls : next_of (log i) x < a = subst (λ (z : Record). next_of (log i) z < a) same old.falls in
            omega (arith, up, falls);
      },
    )

    falls_above : (a : ℕ) (x : Record) → a < slot.end.0 → Stands (log i) a x → slot.first.0 ≤ a → next_of (log i) x < a
    falls_above a x high there from =
        let scanned = scan.records a from high in
        let same : scanned.held ≡ x = apart scanned.held x (scanned.fits.stands ∙ sym there) in
        subst (λ (y : Record). next_of (log i) y < a) same scanned.fits.falls

    -- a record that is reached leads below itself, or the chains have a fault
    leads_down : (a : ℕ) (x : Record) → IsWithin i a → Stands (log i) a x → (next_of (log i) x < a) ⊎ HasChainFault (log i)
    leads_down a x is there = ⊎_elim inl
        (λ up. ⊎_elim (λ below. inr (off_below a x is.2 there up below)) (λ from. inl (falls_above a x is.1 there from)) (cases_lt a slot.first.0))
        (cases_lt (next_of (log i) x) a)

    led_within : (h q : ℕ) → HasTriple (log i) h q → IsWithin i q
    led_within h q has =
        let t = has.triple in
        let is : t.addr.0 ≡ q = has.address in
        let high : t.addr.0 < slot.end.0 = in_log has.place t has.stands in
        (has.in_log, omega (arith, is, high), led_to h q has)

    module _ (j : List ℕ) (same : Share s slot i j) where
      back : Share s slot j i
      back = flip s slot i j same

      goes_within : (a b : ℕ) (x : Record) → IsWithin i a → Stands (log j) a x → next_of (log i) x ≡ b → b ≢ 0 → IsWithin i b ⊎ HasChainFault (log i)
      goes_within a b x is there leads off =
          let here : Stands (log i) a x = stands_on s slot ts j i back a x is.0 is.1 there in
          let high = is.1 in
          let low : slot.begin.0 ≤ next_of (log i) x = from_some slot.begin.0 x.header.previous.0 (λ none. off (sym leads ∙ none)) in
          ⊎_elim (λ falls. inl (omega (arith, leads, low), omega (arith, leads, falls, high), linked a b x is.2 here leads off)) inr (leads_down a x is here)

      -- what the other image reaches is of the log and reached here, or the chains have a fault
      pub reached_or : (a : ℕ) → Reached (log j) a → IsWithin i a ⊎ HasChainFault (log i)
      reached_or a (in_scan _ x from below there valid) =
          let low : slot.begin.0 ≤ a = omega (arith, some, from) in
          inl (low, below, in_scan a x from below (stands_on s slot ts j i back a x low below there) valid)
      reached_or a (led_to h _ has) = inl (led_within h a (triple_on s slot ts j i h a has))
      reached_or b (linked a _ x reached there leads off) = ⊎_elim (λ is. goes_within a b x is there leads off) inr (reached_or a reached)

      pub leads_or : (h a : ℕ) → LeadsTo (log j) h a → LeadsTo (log i) h a ⊎ HasChainFault (log i)
      leads_or h a (from_triple has) = inl (from_triple (triple_on s slot ts j i h a has))
      leads_or h a (from_record b x reached there its leads off) =
          ⊎_elim (λ is. inl (from_record b x is.2 (stands_on s slot ts j i back b x is.0 is.1 there) its leads off)) inr (reached_or b reached)

      module _ (chains : HasChains (log i)) where
        none_here : HasChainFault (log i) → ⊥
        none_here found = no_chain_fault apart (log i) found.0 chains found.1

        pub reached_on : (a : ℕ) → Reached (log j) a → IsWithin i a
        reached_on a reached = ⊎_elim (λ is. is) (λ found. absurd (none_here found)) (reached_or a reached)

        leads_on : (h a : ℕ) → LeadsTo (log j) h a → LeadsTo (log i) h a
        leads_on h a leads = ⊎_elim (λ is. is) (λ found. absurd (none_here found)) (leads_or h a leads)

        chained_on : (a : ℕ) → IsWithin i a → IsChained (log i) a → IsChained (log j) a
        chained_on a is chained = record {
          held = chained.held;
          old = record { stands = stands_on s slot ts i j same a chained.held is.0 is.1 chained.old.stands; old_enough = chained.old.old_enough; falls = chained.old.falls };
          valid = chained.valid;
          same = λ h leads. chained.same h (leads_on h a leads);
        }

        pub chains_on : HasChains (log j)
        chains_on a reached below = (let is = reached_on a reached in chained_on a is (chains a is.2 below))

        pub counts_on : (h a : ℕ) (x : Record) → Counts (log j) h a x → Counts (log i) h a x
        counts_on h a x is =
            let within = reached_on a is.reached in
            record { reached = within.2; valid = valid_on s slot ts h j i back a x within.0 within.1 is.valid; old_enough = is.old_enough; version = is.version; not_lost = is.not_lost }

  module _ (i j : List ℕ) (same : Share s slot i j) (scan : HasScan (log i)) (chains : HasChains (log i)) where
    there : HasScan (log j)
    there = scan_on s slot ts some in_log i j same scan

    chains_there : HasChains (log j)
    chains_there = chains_on i scan j same chains

    pub entry_on : (h a : ℕ) → IsEntry (log i) h a → IsEntry (log j) h a
    entry_on h a is = record {
      counts = (is.counts.0, counts_on j there i (flip s slot i j same) chains_there h a is.counts.0 is.counts.1);
      greatest = λ b y other. is.greatest b y (counts_on i scan j same chains h b y other);
    }

  module _ (i j : List ℕ) (same : Share s slot i j) (scan : HasScan (log i)) (chains : HasChains (log i)) where
    entry_back : (h a : ℕ) → IsEntry (log j) h a → IsEntry (log i) h a
    entry_back = entry_on j i (flip s slot i j same) (scan_on s slot ts some in_log i j same scan) (chains_on i scan j same chains)

    homes_on : (hs : List ℕ) → AreHomes (log i) hs → AreHomes (log j) hs
    homes_on hs are = record {
      once = are.once;
      all = λ h. (λ has. let is = (are.all h).0 has in (is.0, entry_on i j same scan chains h is.0 is.1), λ is. (are.all h).1 (is.0, entry_back h is.0 is.1));
    }

    pub room_on : HasRoom (log i) → HasRoom (log j)
    room_on room = record { homes = room.homes; are_homes = homes_on room.homes room.are_homes; enough = room.enough }

    pub room_fault_on : (why : Fault) → IsRoomFault (log i) why → IsRoomFault (log j) why
    room_fault_on (fault.Damaged damage.Full b) full =
        record { homes = full.homes; are_homes = homes_on full.homes full.are_homes; in_index = full.in_index; before = full.before; here = full.here }
    room_fault_on why found = absurd (found)

    pub entries_on : (es : List HomeEntry) → AreEntries (log i) es → AreEntries (log j) es
    entries_on es are = record {
      all = λ h a. (λ has. entry_on i j same scan chains h a ((are.all h a).0 has), λ is. (are.all h a).1 (entry_back h a is));
      ascending = are.ascending;
    }

  module _ (i j : List ℕ) (same : Share s slot i j) where
    tells_on : (b : Bool) → TellsNewer (log i) slot.end.0 b → TellsNewer (log j) slot.end.0 b
    tells_on true is =
        let from = is.1 in
        (is.0, is.1, is.2, has_on s slot (λ k. IsNewer (log k)) (newer_on s slot ts) i j same is.0 (omega (arith, some, from)) is.2 is.3)
    tells_on false none = none_on s slot (λ k. IsNewer (log k)) (newer_on s slot ts) i j same slot.first.0 slot.end.0 some (omega arith) none

    extends_on : (b : Bool) (ranges : List LostRange) → Extends (log i) b ranges → Extends (log j) b ranges
    extends_on true ranges is = is
    extends_on false ranges is = is

    pub in_hand_on : (ranges : List LostRange) → AreInHand (log i) ranges → AreInHand (log j) ranges
    in_hand_on ranges are = record { left_out = are.left_out; tells = tells_on are.left_out are.tells; extends = extends_on are.left_out ranges are.extends }

    -- a fault of the chains is one there too, or another one is
    module _ (scan : HasScan (log j)) where
      record_fault : (a : ℕ) → IsWithin j a → IsChainFault (log i) (fault.Damaged damage.Record a) → HasChainFault (log j)
      record_fault a is found = (
        fault.Damaged damage.Record a,
        record {
          reached = is.2;
          below_start = found.below_start;
          here = λ x old. found.here x (record { stands = stands_on s slot ts j i (flip s slot i j same) a x is.0 is.1 old.stands; old_enough = old.old_enough; falls = old.falls });
        },
      )

      link_fault : (a : ℕ) → IsWithin j a → IsChainFault (log i) (fault.Damaged damage.Link a) → HasChainFault (log j)
      link_fault a is found = by_cause found.here
        where
          moved : ((let x = found.held in x.header.invalid ≡ true) ⊎ ((h : ℕ) × LeadsTo (log j) h a × (record_home s.bucket_bits found.held ≢ h))) → HasChainFault (log j)
          moved why = (
            fault.Damaged damage.Link a,
            record {
              reached = is.2;
              below_start = found.below_start;
              held = found.held;
              stands = stands_on s slot ts i j same a found.held is.0 is.1 found.stands;
              here = why;
            },
          )

          by_cause : ((let x = found.held in x.header.invalid ≡ true) ⊎ ((h : ℕ) × LeadsTo (log i) h a × (record_home s.bucket_bits found.held ≢ h))) → HasChainFault (log j)
          by_cause (inl invalid) = moved (inl invalid)
          by_cause (inr other) = ⊎_elim (λ leads. moved (inr (other.0, leads, other.2))) (λ another. another) (leads_or j scan i (flip s slot i j same) other.0 a other.1)

      pub chain_fault_on : (why : Fault) → IsChainFault (log i) why → HasChainFault (log j)
      chain_fault_on (fault.Damaged damage.Record a) found = ⊎_elim (λ is. record_fault a is found) (λ another. another) (reached_or j scan i (flip s slot i j same) a found.reached)
      chain_fault_on (fault.Damaged damage.Link a) found = ⊎_elim (λ is. link_fault a is found) (λ another. another) (reached_or j scan i (flip s slot i j same) a found.reached)
      chain_fault_on why found = absurd (found)
