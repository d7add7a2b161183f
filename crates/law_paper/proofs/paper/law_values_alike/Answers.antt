use Rattle.fkv_opening.proofs.Shown.{Apart}
use Rattle.law_paper.proofs.OfPaper.SameValues.{same_values}
use Rattle.law_paper.proofs.paper.law_values_alike.Goals as goal

pub returns : goal.returns
returns c = λ image other o store its agree key value.
    let apart = c.law_spellings_apart.ensures in
    let spellings : Apart = record { records = apart.records; triples = apart.triples; shapes = apart.shapes; slots = c.law_formats_apart.ensures } in
    same_values spellings image other o store agree its key value
