-- An image whose newest slot names a commit holds that commit's store alone.
use Rattle.std.proofs.Common.{◌≡◌, ℕ, List, Some, sym, ap, subst, ◌∙◌}
use Rattle.std.specs.Prelude.{◌↔◌}
use Rattle.fkv_chains.specs.Chains.{HasChains}
use Rattle.fkv_newest.specs.declared.newest_slots.Newest.{Newest}
use Rattle.fkv_opening.specs.Faults.{log_of, HasCheckpoint, IsSound}
use Rattle.fkv_opening.proofs.Shown.{Apart, same_shape, same_slot, one_log, no_fault}
use Rattle.law_log.specs.Ghosts.{Log, shown_upto}
use Rattle.fkv_pairs.specs.Pairs.{HasValue}
use Rattle.fkv_record.specs.declared.manifest_slots.ManifestSlot.{ManifestSlot}
use Rattle.fkv_record.specs.declared.triples.Triple.{Triple}
use Rattle.fkv_scan.specs.Log as scan
use Rattle.fkv_scan.specs.Scan.{HasScan}
use Rattle.law_paper.specs.Paper.Named.{HoldsCommit}
use Rattle.law_paper.specs.Paper.Slots.{HasSlots}
use Rattle.law_paper.specs.Paper.Values.{CountsAsLog, ShowsUpto}
use Rattle.law_paper.proofs.OfPaper.Room.{has_room}
use Rattle.law_paper.proofs.OfPaper.Stored.{is_store, opened}
use Rattle.law_paper.proofs.OfPaper.Values.{shows_upto}

module _ (apart : Apart) (bytes : List ℕ) (n : Newest) (xs : List Triple) (has : HasCheckpoint bytes n xs) where
  named_alone : (home : ℕ → ℕ) (g : Log) → IsSound (log_of bytes n xs) → ShowsUpto home (log_of bytes n xs) g → HoldsCommit home bytes n g
  named_alone home g sound shows = record {
    faultless = no_fault apart bytes n xs has sound;
    store = record { opened = opened apart.records bytes n xs has sound; is = is_store apart.records bytes n xs has sound };
    each = λ r store.
        let m = store.newest in
        let its = store.checkpoint in
        let tells = store.tells in
        let same = one_log apart bytes n m xs store.triples has its in
        let shape = sym (same_shape apart bytes n m has.newest its.newest) in
        let slot = sym (same_slot apart bytes n m has.newest its.newest) in
        record {
          shape = tells.shape ∙ shape;
          number = tells.number ∙ ap (λ (s : ManifestSlot). s.number) slot;
          points = tells.points ∙ ap (λ (s : ManifestSlot). s.points.serials.items) slot;
          values = λ key value. subst (λ (log : scan.Log). (shown_upto home g n.slot.number key.0 ≡ Some value.0) ↔ HasValue log key value) (sym same) (shows key value);
        };
  }

  -- so it is where what counts is what the log has
  pub holds_with : (home : ℕ → ℕ) (g : Log) → IsSound (log_of bytes n xs) → CountsAsLog home (log_of bytes n xs) g → HoldsCommit home bytes n g
  holds_with home g sound counts = named_alone home g sound (shows_upto home (log_of bytes n xs) g apart.records counts)

  -- and each home has a slot
  pub holds_commit : (home : ℕ → ℕ) (g : Log) → HasScan (log_of bytes n xs) → HasChains (log_of bytes n xs) → CountsAsLog home (log_of bytes n xs) g → HasSlots (log_of bytes n xs) g
      → HoldsCommit home bytes n g
  holds_commit home g scanned chained counts slots = holds_with home g (record { scan = scanned; chains = chained; room = has_room home (log_of bytes n xs) g counts slots }) counts
