use Rattle.fkv_opening.proofs.Shown.{Apart}
use Rattle.law_paper.proofs.OfPaper.Opened.{holds_opened}
use Rattle.law_paper.proofs.paper.law_opened_paper_is_sound.Goals as goal

pub returns : goal.returns
returns c = λ home bytes image o store g agree paper.
    let apart = c.law_spellings_apart.ensures in
    let spellings : Apart = record { records = apart.records; triples = apart.triples; shapes = apart.shapes; slots = c.law_formats_apart.ensures } in
    holds_opened spellings bytes image o store agree home g paper
