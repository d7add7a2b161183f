-- Images that share a log: if recovery finds no fault in the scan, the chains and the room of the one, it finds none in those of the other.
use Rattle.std.proofs.Common.{ℕ, ◌+◌, ◌<◌, ◌≤◌, List, refl, sym, ◌∙◌, arith}
use Rattle.fkv_chains.specs.Chains.{HasChains}
use Rattle.fkv_chains.specs.Entries.{Counts, IsEntry}
use Rattle.fkv_chains.specs.Reached.{Reached, in_scan, led_to, linked, LeadsTo, from_triple, from_record}
use Rattle.fkv_newest.specs.declared.newest_slots.Newest.{Newest}
use Rattle.fkv_opening.specs.Alike.{ShareLog}
use Rattle.fkv_opening.specs.Faults.{IsSound, log_of}
use Rattle.fkv_record.specs.Layout.{record_bytes}
use Rattle.fkv_record.specs.declared.records.Record.{Record}
use Rattle.fkv_record.specs.declared.triples.Triple.{Triple}
use Rattle.fkv_room.specs.Room.{HasRoom}
use Rattle.fkv_scan.specs.Log as scan
use Rattle.fkv_scan.specs.Log.{record_home, triple_home}
use Rattle.fkv_scan.specs.Records.{next_of, IsKept}
use Rattle.fkv_scan.specs.Scan.{HasNone, IsGreatest, IsLinked, HasScan}
use Rattle.fkv_words.specs.Fields.{SpellsApart}
use Rattle.law_paper.specs.Paper.Old.{GoesOnFrom, WasSound}
use Rattle.law_paper.proofs.OfPaper.Reach.{start_some, was_low, was_some, same_triple, stood, stands_now, valid_was, valid_now, again, goes_was}

module _ (n : Newest) (xs : List Triple) where
  abbrev log : List ℕ → scan.Log
  log bytes = log_of bytes n xs

  goes_on : (bytes other : List ℕ) → ShareLog n bytes other → GoesOnFrom (log bytes) (log other)
  goes_on bytes other share = record {
    begin = refl;
    start = refl;
    oldest = refl;
    bits = refl;
    triples = refl;
    longer = omega arith;
    newer = omega arith;
    bytes = λ a x some low. (let same = share.records a some low in (λ stands. stands ∙ same, λ stands. stands ∙ sym same));
  }

  module _ (spells : SpellsApart record_bytes) (bytes other : List ℕ) (share : ShareLog n bytes other) (was : WasSound (log bytes)) where
    abbrev tail : ℕ
    tail = n.slot.end.0

    on : GoesOnFrom (log bytes) (log other)
    on = goes_on bytes other share

    -- ---- the scan
    kept_now : (h a : ℕ) (x : Record) → n.slot.begin.0 ≤ a → a < tail → IsKept (log bytes) h a x → IsKept (log other) h a x
    kept_now h a x some low kept = record { here = valid_now spells was on h a x some low kept.here; not_lost = kept.not_lost }

    kept_was : (h a : ℕ) (x : Record) → n.slot.begin.0 ≤ a → a < tail → IsKept (log other) h a x → IsKept (log bytes) h a x
    kept_was h a x some low kept = record { here = valid_was spells was on h a x some low kept.here; not_lost = kept.not_lost }

    none_was : (h from to : ℕ) → n.slot.first.0 ≤ from → to ≤ tail → HasNone (IsKept (log other) h) from to → HasNone (IsKept (log bytes) h) from to
    none_was h from to least most none = λ b y above below kept.
        none b y above below (kept_now h b y (start_some spells was b (omega (arith, least, above))) (omega (arith, below, most)) kept)

    greatest_was : (h a b : ℕ) → a ≤ tail → IsGreatest (IsKept (log other) h) n.slot.first.0 a b → IsGreatest (IsKept (log bytes) h) n.slot.first.0 a b
    greatest_was h a b most greatest =
        let least = greatest.from_on in
        let below = greatest.below in
        let has = greatest.here in
        record {
          from_on = least;
          below = below;
          here = (has.0, kept_was h b has.0 (start_some spells was b least) (omega (arith, below, most)) has.1);
          none_above = none_was h (b + 1) a (omega (arith, least)) most greatest.none_above;
        }

    linked_now : (a : ℕ) (x : Record) → a < tail → next_of (log bytes) x < a → IsLinked (log bytes) a x → IsLinked (log other) a x
    linked_now a x low falls links = record {
      nearest = λ kept b greatest.
          let most = greatest_was h a b to greatest in
          let near = links.nearest kept b most in
          let below = most.below in
          (near.0, λ y stands. near.1 y (stood spells was on b y (start_some spells was b most.from_on) (omega (arith, below, low)) stands));
      first = λ kept none. links.first kept (none_was h n.slot.first.0 a (omega arith) to none);
      lost = λ gone from.
          let led = links.lost gone from in
          (led.0, valid_now spells was on h (next_of (log bytes) x) led.0 (start_some spells was (next_of (log bytes) x) from) (omega (arith, falls, low)) led.1);
      below = λ under q goes. links.below under q (goes_was spells was on h a q to goes);
    }
      where
        h : ℕ
        h = record_home n.shape.bucket_bits x

        to : a ≤ tail
        to = omega (arith, low)

    scan_now : HasScan (log other)
    scan_now = record {
      records = λ a from low.
          let it = was.scan.records a from low in
          let fits = it.fits in
          record {
            held = it.held;
            fits = record { stands = stands_now spells was on a it.held (start_some spells was a from) low fits.stands; new_enough = fits.new_enough; old_enough = fits.old_enough; falls = fits.falls };
            linked = λ valid. linked_now a it.held low fits.falls (it.linked valid);
          };
      triples = λ i t is from.
          let led = was.scan.triples i t is from in
          (led.0, valid_now spells was on (triple_home t) t.addr.0 led.0 (start_some spells was t.addr.0 from) (was.below i t is) led.1);
    }

    -- ---- the chains
    reached_was : (a : ℕ) → Reached (log other) a → Reached (log bytes) a
    reached_was a (in_scan _ x from low stands valid) = in_scan a x from low (stood spells was on a x (start_some spells was a from) low stands) valid
    reached_was a (led_to h _ t) = led_to h a (same_triple spells was on h a t)
    reached_was b (linked a _ x reached stands is some) =
        let r = reached_was a reached in
        linked a b x r (stood spells was on a x (was_some spells was a r) (was_low spells was a r) stands) is some

    leads_was : (h a : ℕ) → LeadsTo (log other) h a → LeadsTo (log bytes) h a
    leads_was h a (from_triple t) = from_triple (same_triple spells was on h a t)
    leads_was h a (from_record b x reached stands at leads some) =
        let r = reached_was b reached in
        from_record b x r (stood spells was on b x (was_some spells was b r) (was_low spells was b r) stands) at leads some

    chains_now : HasChains (log other)
    chains_now a reached under =
        let r = reached_was a reached in
        let it = was.chains a r under in
        let old = it.old in
        record {
          held = it.held;
          old = record { stands = stands_now spells was on a it.held (was_some spells was a r) (was_low spells was a r) old.stands; old_enough = old.old_enough; falls = old.falls };
          valid = it.valid;
          same = λ h leads. it.same h (leads_was h a leads);
        }

    -- ---- what counts
    pub counts_now : (h a : ℕ) (x : Record) → Counts (log bytes) h a x → Counts (log other) h a x
    counts_now h a x counts =
        let r = counts.reached in
        record {
          reached = again spells was on a r;
          valid = valid_now spells was on h a x (was_some spells was a r) (was_low spells was a r) counts.valid;
          old_enough = counts.old_enough;
          version = counts.version;
          not_lost = counts.not_lost;
        }

    pub counts_was : (h a : ℕ) (x : Record) → Counts (log other) h a x → Counts (log bytes) h a x
    counts_was h a x counts =
        let r = reached_was a counts.reached in
        record {
          reached = r;
          valid = valid_was spells was on h a x (was_some spells was a r) (was_low spells was a r) counts.valid;
          old_enough = counts.old_enough;
          version = counts.version;
          not_lost = counts.not_lost;
        }

    entry_now : (h a : ℕ) → IsEntry (log bytes) h a → IsEntry (log other) h a
    entry_now h a is = record { counts = (let c = is.counts in (c.0, counts_now h a c.0 c.1)); greatest = λ b y counts. is.greatest b y (counts_was h b y counts) }

    entry_was : (h a : ℕ) → IsEntry (log other) h a → IsEntry (log bytes) h a
    entry_was h a is = record { counts = (let c = is.counts in (c.0, counts_was h a c.0 c.1)); greatest = λ b y counts. is.greatest b y (counts_now h b y counts) }

    pub sound_now : HasRoom (log bytes) → IsSound (log other)
    sound_now room =
        let are = room.are_homes in
        record {
          scan = scan_now;
          chains = chains_now;
          room = record {
            homes = room.homes;
            are_homes = record {
              once = are.once;
              all = λ h. (λ has. (let it = (are.all h).0 has in (it.0, entry_now h it.0 it.1)), λ has. (are.all h).1 (has.0, entry_was h has.0 has.1));
            };
            enough = room.enough;
          };
        }
