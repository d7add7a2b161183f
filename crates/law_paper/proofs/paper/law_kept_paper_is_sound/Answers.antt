use Rattle.fkv_opening.proofs.Shown.{Apart}
use Rattle.law_paper.proofs.OfPaper.Opened.{holds_kept}
use Rattle.law_paper.proofs.paper.law_kept_paper_is_sound.Goals as goal

pub returns : goal.returns
returns c = λ home bytes image o store numbers g kept share paper.
    let apart = c.law_spellings_apart.ensures in
    let spellings : Apart = record { records = apart.records; triples = apart.triples; shapes = apart.shapes; slots = c.law_formats_apart.ensures } in
    holds_kept spellings bytes image o store numbers kept share home g paper
