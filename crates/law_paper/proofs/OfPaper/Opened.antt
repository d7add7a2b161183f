-- While the opening's commit is in force, an image that recovery answers as the opened one holds that commit's store alone.
use Rattle.std.proofs.Common.{◌≡◌, ⊎_elim, ℕ, ◌<◌, ◌≤◌, List, ap, ◌∙◌, arith}
use Rattle.std.specs.Prelude.{Option}
use Rattle.std.proofs.lemmas.Bool.{cases_lt}
use Rattle.std.proofs.lemmas.Option.{slice_get_within}
use Rattle.fkv_chains.specs.Entries.{Counts}
use Rattle.fkv_newest.proofs.Shown.{told_alike}
use Rattle.fkv_newest.specs.Newest.{IsNewestOf}
use Rattle.fkv_newest.specs.declared.newest_slots.Newest.{Newest}
use Rattle.fkv_opening.specs.Alike.{Agree, ShareLog}
use Rattle.fkv_opening.specs.Faults.{HasCheckpoint, IsSound, log_of}
use Rattle.fkv_opening.specs.Opened.{IsStoreOf}
use Rattle.fkv_opening.specs.declared.opened_store.Opened.{Opened}
use Rattle.law_log.proofs.Shown.{above_live}
use Rattle.law_log.specs.Chains.{Cell, Published, version_at}
use Rattle.law_log.specs.Ghosts.{Log}
use Rattle.fkv_record.specs.declared.records.Record.{Record}
use Rattle.fkv_record.specs.declared.triples.Triple.{Triple}
use Rattle.fkv_scan.specs.Checkpoint.{AreTriples, checkpoint_in}
use Rattle.law_paper.specs.Paper.Named.{HoldsCommit}
use Rattle.law_paper.specs.Paper.Old.{WasSound}
use Rattle.law_paper.specs.Paper.Opened.{StandsAsOpened, with_numbers}
use Rattle.law_paper.specs.Paper.Values.{CountsAsLog}
use Rattle.fkv_opening.proofs.Shown.{Apart}
use Rattle.law_paper.proofs.OfPaper.Alike.{counts_now, counts_was, sound_now}
use Rattle.law_paper.proofs.OfPaper.Named.{holds_with}
use Rattle.law_paper.proofs.OfPaper.Reach.{was_low, was_some}

-- an opened store's recovery found no fault
pub was_sound : (bytes : List ℕ) (o : Opened) (store : IsStoreOf bytes o) → WasSound (log_of bytes store.newest store.triples)
was_sound bytes o store =
    let newest = (let has = store.checkpoint in has.newest) in
    let stored = (let has = store.checkpoint in has.stored) in
    record {
      scan = store.sound.scan;
      chains = store.sound.chains;
      apart = (let has = store.checkpoint in has.apart);
      below = λ i x is. (let at = stored.each i x is in at.in_log);
      some_start = newest.manifest.suits.log.some;
      begins = newest.manifest.suits.begin.before_scan;
      upwards = newest.manifest.suits.log.upwards;
    }

-- ---- an image in which the opening's commit is in force
module _ (spellings : Apart) (bytes image : List ℕ) (o : Opened) (store : IsStoreOf bytes o) (numbers : Option ℕ × Option ℕ) (kept : HasCheckpoint image (with_numbers store.newest numbers) store.triples) (shared : ShareLog store.newest bytes image) where
  abbrev n : Newest
  n = store.newest

  abbrev xs : List Triple
  xs = store.triples

  was : WasSound (log_of bytes n xs)
  was = was_sound bytes o store

  sound_kept : IsSound (log_of image n xs)
  sound_kept = sound_now n xs spellings.records bytes image shared was store.sound.room

  module _ (home : ℕ → ℕ) (g : Log) (paper : StandsAsOpened home (log_of bytes n xs) g) where
    back : (h a : ℕ) (x : Record) → Counts (log_of image n xs) h a x → Counts (log_of bytes n xs) h a x
    back = counts_was n xs spellings.records bytes image shared was

    -- the log has nothing below the begin
    above : (a : ℕ) (cell : Cell) → g.cells a ≡ Published cell → n.slot.begin.0 ≤ a
    above a cell is =
        let low = was.begins in
        let up = was.upwards in
        ⊎_elim
        (λ old. let counts = (paper.before.counted (home cell.key) a old).0 (paper.orderly.chains.its_chain a cell is) in was_some spellings.records was a counts.1.reached)
        (λ new. omega (arith, low, up, new))
        (cases_lt a n.slot.end.0)

    counts_as_opened : CountsAsLog home (log_of image n xs) g
    counts_as_opened = record {
      orderly = paper.orderly;
      homes = paper.homes;
      counts = λ h a has old begun.
          let its = paper.orderly.chains.in_chain h a has in
          let low : a < n.slot.end.0 = ⊎_elim
          (λ low. low)
          (λ high. absurd (let late = paper.later a its.cell its.its high in let is = ap version_at its.its in omega (arith, late, is, old)))
          (cases_lt a n.slot.end.0) in
          let counts = (paper.before.counted h a low).0 has in
          (counts.0, counts_now n xs spellings.records bytes image shared was h a counts.0 counts.1);
      stands = λ h a x counts.
          let counted = back h a x counts in
          let low = was_low spellings.records was a counted.reached in
          let has = (paper.before.counted h a low).1 (x, counted) in
          let its = paper.orderly.chains.in_chain h a has in
          (has, (let version = paper.before.one_version a its.cell low its.its in let is = ap version_at its.its in omega (arith, version, is)), above a its.cell its.its);
      tells = λ h a x counts. paper.tells h a x (back h a x counts);
      live = (above_live home n.slot.begin.0 g paper.orderly.chains paper.orderly.none above).1 n.slot.number;
    }

    pub holds_kept : HoldsCommit home image (with_numbers n numbers) g
    holds_kept = holds_with spellings image (with_numbers n numbers) xs kept home g sound_kept counts_as_opened

-- ---- the image of which the opening's commit is told
module _ (spellings : Apart) (bytes image : List ℕ) (o : Opened) (store : IsStoreOf bytes o) (agree : Agree bytes image) where
  its_newest : IsNewestOf image store.newest
  its_newest = told_alike bytes image agree.front store.newest (let has = store.checkpoint in has.newest)

  pub share_log : ShareLog store.newest bytes image
  share_log = agree.behind store.newest (let has = store.checkpoint in has.newest)

  its_triples : AreTriples (checkpoint_in image store.newest.shape store.newest.slot) store.triples
  its_triples =
      let stored = (let has = store.checkpoint in has.stored) in
      record {
        many = stored.many;
        each = λ i x is.
            let at = stored.each i x is in
            let low : i < store.newest.slot.triples = (let within = slice_get_within store.triples i x is in let many = stored.many in omega (arith, within, many)) in
            record { stands = at.stands ∙ share_log.triples i low; in_index = at.in_index; in_log = at.in_log };
      }

  pub checkpoint_here : HasCheckpoint image store.newest store.triples
  checkpoint_here = record { newest = its_newest; stored = its_triples; apart = (let has = store.checkpoint in has.apart) }

  pub holds_opened : (home : ℕ → ℕ) (g : Log) → StandsAsOpened home (log_of bytes store.newest store.triples) g → HoldsCommit home image store.newest g
  holds_opened home g paper = holds_kept spellings bytes image o store store.newest.open_numbers checkpoint_here share_log home g paper
