use Rattle.fkv_opening.specs.Faults.{log_of}
use Rattle.law_paper.proofs.OfPaper.Sound.{has_scan, has_chains, counts_of, of_counts, counts_as_log, paper_shows}
use Rattle.fkv_opening.proofs.Shown.{Apart}
use Rattle.law_paper.proofs.OfPaper.Named.{holds_commit}
use Rattle.law_paper.proofs.OfPaper.Room.{has_room}
use Rattle.law_paper.proofs.paper.law_paper_is_sound.Goals as goal

pub returns : goal.returns
returns c =
    let apart = c.law_spellings_apart.ensures in
    let spells = apart.records in
    let spellings : Apart = record { records = spells; triples = apart.triples; shapes = apart.shapes; slots = c.law_formats_apart.ensures } in
    record {
      scan = λ home image g paper. has_scan home image g spells paper;
      chains = λ home image g paper. has_chains home image g spells paper;
      room = λ home image g paper slots. has_room home image g (counts_as_log home image g spells paper) slots;
      counts = λ home image g h a paper. (
        λ has. (let its = of_counts home image g spells paper h a has.0 has.1 in (its.0, its.1, its.2)),
        λ its. counts_of home image g spells paper h a its.0 its.1 its.2,
      );
      shows = λ home image g paper. paper_shows home image g spells paper;
      named = λ home bytes n triples g its paper slots.
          let image = log_of bytes n triples in
          holds_commit spellings bytes n triples its home g (has_scan home image g spells paper) (has_chains home image g spells paper) (counts_as_log home image g spells paper) slots;
    }
