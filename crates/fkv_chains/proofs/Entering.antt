-- The entry that the scan tells is the greatest record that counts.
use Rattle.std.proofs.Common.{◌≡◌, ◌≢◌, inl, inr, ⊎_elim, ℕ, ◌<◌, ◌≤◌, Option, Some, None, refl, sym, ap, subst, ◌∙◌, arith}
use Rattle.std.proofs.lemmas.Bool.{cases_lt}
use Rattle.fkv_base.specs.declared.numbers.Addr.{Addr}
use Rattle.fkv_marks.proofs.Shown.{version_least}
use Rattle.fkv_words.specs.Fields.{SpellsApart}
use Rattle.fkv_record.specs.declared.records.Record.{Record}
use Rattle.fkv_record.specs.Layout.{record_bytes}
use Rattle.fkv_scan.specs.declared.scans.Scanned.{Scanned}
use Rattle.fkv_scan.specs.Log.{Log, AreBelow, record_home}
use Rattle.fkv_scan.specs.Records.{next_of, IsCounted}
use Rattle.fkv_scan.specs.Scan.{HasNone, IsGreatest}
use Rattle.fkv_scan.specs.Scanned.{AreScanned, GoesOnAt, IsEntryOf}
use Rattle.fkv_chains.specs.Reached.{Reached, in_scan, linked, LeadsTo, from_record}
use Rattle.fkv_chains.specs.Along.{IsAlong, here, on, IsOf, IsFollowed}
use Rattle.fkv_chains.specs.Chains.{HasChains}
use Rattle.fkv_chains.specs.Entries.{Counts, IsEntry, HasEntry}
use Rattle.fkv_chains.proofs.FollowedTo.{none_along}
use Rattle.fkv_chains.proofs.Ways.{to_follow}
use Rattle.fkv_chains.proofs.Reaching.{Told, of_scan, of_chain, told_of}

pub along_some : (log : Log) (a b : ℕ) → IsAlong log a b → a ≢ 0
along_some log a b (here _ some) = some
along_some log a b (on _ _ x some stands rest) = some

module _ (apart : SpellsApart record_bytes) (log : Log) (chains : HasChains log) where
  -- where the chains have no fault, each is of its home
  of_home : (its_home a b : ℕ) → Reached log a → a < log.start → LeadsTo log its_home a → IsAlong log a b → IsOf log its_home b
  of_home its_home a b reached low leads (here _ some) =
      let this = chains a reached low in
      record { held = this.held; old = this.old; valid = this.valid; same = this.same its_home leads }
  of_home its_home a b reached low leads (on _ _ x some stands rest) =
      let this = chains a reached low in
      let equal : this.held ≡ x = apart this.held x (this.old.stands ∙ sym stands) in
      let more = along_some log (next_of log x) b rest in
      let falls : next_of log x < a = subst (λ (y : Record). next_of log y < a) equal this.old.falls in
      let same : record_home log.shape.bucket_bits x ≡ its_home = ap (λ (y : Record). record_home log.shape.bucket_bits y) (sym equal) ∙ this.same its_home leads in
      of_home its_home (next_of log x) b (linked a (next_of log x) x reached stands refl more) (omega (arith, low, falls)) (from_record a x reached stands same refl more) rest

  pub followed : (its_home w : ℕ) → GoesOnAt log its_home log.tail w → IsFollowed log its_home w
  followed its_home w at b along =
      let way = to_follow log its_home w at.there in
      let some = along_some log w b along in
      of_home its_home w b (way.reached some) (way.below_start some) (way.led some) along

  -- along a chain the addresses fall
  lower : (its_home a b : ℕ) → ((c : ℕ) → IsAlong log a c → IsOf log its_home c) → IsAlong log a b → b ≤ a
  lower its_home a b sound (here _ some) = omega arith
  lower its_home a b sound (on _ _ x some stands rest) =
      let this = sound a (here a some) in
      let equal : this.held ≡ x = apart this.held x (this.old.stands ∙ sym stands) in
      let falls : next_of log x < a = subst (λ (y : Record). next_of log y < a) equal this.old.falls in
      let rest_low = lower its_home (next_of log x) b (λ c along. sound c (on a c x some stands along)) rest in
      omega (arith, falls, rest_low)

  module _ (in_log : AreBelow log.tail log.triples) (scan : Scanned) (are : AreScanned log scan) where
    told_here : (b : ℕ) → Reached log b → Told log b
    told_here b reached = told_of apart log in_log scan are followed b reached

    counted : (its_home b : ℕ) (y : Record) → log.start ≤ b → Counts log its_home b y → IsCounted log its_home b y
    counted its_home b y from counts = record { kept = record { here = counts.valid; not_lost = counts.not_lost from }; old_enough = counts.version from }

    -- a record that counts below the start lies on the chain of its home
    on_its_chain : (its_home other w b : ℕ) (y : Record) → Counts log its_home b y → GoesOnAt log other log.tail w → IsAlong log w b → GoesOnAt log its_home log.tail w
    on_its_chain its_home other w b y counts at along =
        let this = followed other w at b along in
        let equal : this.held ≡ y = apart this.held y (this.old.stands ∙ sym counts.valid.stands) in
        let same : other ≡ its_home = sym this.same ∙ ap (λ (x : Record). record_home log.shape.bucket_bits x) equal ∙ counts.valid.same in
        subst (λ (h : ℕ). GoesOnAt log h log.tail w) same at

    module _ (its_home : ℕ) where
      at_most : (a b : ℕ) (y : Record) → IsGreatest (IsCounted log its_home) log.start log.tail a → Counts log its_home b y → Told log b → b ≤ a
      at_most a b y greatest counts (of_scan from within x stands valid) = ⊎_elim
          (λ above. absurd (greatest.none_above b y (omega (arith, above)) within (counted its_home b y from counts))) (λ low. low) (cases_lt a b)
      at_most a b y greatest counts (of_chain low other w at along) = (let from = greatest.from_on in omega (arith, low, from))

      entry_of_scan : (a : ℕ) → IsGreatest (IsCounted log its_home) log.start log.tail a → IsEntry log its_home a
      entry_of_scan a greatest =
          let x = greatest.here.0 in
          let this = greatest.here.1 in
          record {
            counts = (
              x,
              record {
                reached = in_scan a x greatest.from_on greatest.below this.kept.here.stands this.kept.here.valid;
                valid = this.kept.here;
                old_enough = (let least = version_least log.version x.header.version.0 in let old = this.old_enough in omega (arith, least, old));
                version = λ from. this.old_enough;
                not_lost = λ from. this.kept.not_lost;
              },
            );
            greatest = λ b y counts. at_most a b y greatest counts (told_here b counts.reached);
          }

      module _ (none : HasNone (IsCounted log its_home) log.start log.tail) where
        below : (a b : ℕ) (y : Record) → GoesOnAt log its_home log.tail a → Counts log its_home b y → Told log b → IsAlong log a b
        below a b y at counts (of_scan from within x stands valid) = absurd (none b y from within (counted its_home b y from counts))
        below a b y at counts (of_chain low other w goes along) =
            let its = on_its_chain its_home other w b y counts goes along in
            subst (λ (n : ℕ). IsAlong log n b) (at.alone w its.there) along

        entry_below : (a : ℕ) → GoesOnAt log its_home log.tail a → a ≢ 0 → IsEntry log its_home a
        entry_below a at some =
            let way = to_follow log its_home a at.there in
            let this = followed its_home a at a (here a some) in
            let low = way.below_start some in
            record {
              counts = (
                this.held,
                record {
                  reached = way.reached some;
                  valid = record { stands = this.old.stands; valid = this.valid; same = this.same };
                  old_enough = this.old.old_enough;
                  version = λ from. absurd (omega (arith, from, low));
                  not_lost = λ from. absurd (omega (arith, from, low));
                },
              );
              greatest = λ b y counts. lower its_home a b (followed its_home a at) (below a b y at counts (told_here b counts.reached));
            }

        no_entry : GoesOnAt log its_home log.tail 0 → (a : ℕ) → IsEntry log its_home a → ⊥
        no_entry at a entry = none_along log a (below 0 a entry.counts.0 at entry.counts.1 (told_here a entry.counts.1.reached))

      pub has_entry : (o : Option Addr) → IsEntryOf log its_home o → HasEntry log its_home o
      has_entry None is = no_entry is.0 is.1
      has_entry (Some a) (inl greatest) = entry_of_scan a.0 greatest
      has_entry (Some a) (inr is) = entry_below is.0 a.0 is.1 is.2
