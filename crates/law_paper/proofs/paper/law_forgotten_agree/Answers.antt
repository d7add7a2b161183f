use Rattle.fkv_opening.proofs.Shown.{Apart}
use Rattle.law_paper.proofs.OfPaper.Forgotten.{agree_from}
use Rattle.law_paper.proofs.paper.law_forgotten_agree.Goals as goal

pub returns : goal.returns
returns c = λ image other agree.
    let apart = c.law_spellings_apart.ensures in
    let spellings : Apart = record { records = apart.records; triples = apart.triples; shapes = apart.shapes; slots = c.law_formats_apart.ensures } in
    agree_from spellings image other agree
