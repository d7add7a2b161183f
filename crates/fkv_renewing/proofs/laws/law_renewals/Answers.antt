use Rattle.fkv_opening.proofs.Shown.{Apart}
use Rattle.fkv_renewing.proofs.Recovered.{is_renewal}
use Rattle.fkv_renewing.proofs.laws.law_renewals.Goals as goal

pub returns : goal.returns
returns c = λ image shape points pairs records n renewed told are stored slots long some.
    let apart : Apart = record {
      records = c.law_spellings_apart.ensures.records;
      triples = c.law_spellings_apart.ensures.triples;
      shapes = c.law_spellings_apart.ensures.shapes;
      slots = c.law_formats_apart.ensures;
    } in
    is_renewal apart image shape points pairs records n renewed told are stored slots long some
