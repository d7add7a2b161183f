use Rattle.fkv_opening.proofs.Exact.{Apart, no_fault}
use Rattle.fkv_opening.proofs.OneFault.{one_fault, one_scan_fault, one_triple_fault}
use Rattle.fkv_opening.proofs.laws.law_one_fault.Goals as goal

pub returns-clause-one : goal.returns-clause-one
returns-clause-one c =
    let spellings = c.law_spellings_apart.ensures in
    let apart : Apart = record { records = spellings.records; triples = spellings.triples; shapes = spellings.shapes; slots = c.law_formats_apart.ensures } in
    one_fault apart

pub returns-clause-none : goal.returns-clause-none
returns-clause-none c = λ image opened why store found.
    let spellings = c.law_spellings_apart.ensures in
    let apart : Apart = record { records = spellings.records; triples = spellings.triples; shapes = spellings.shapes; slots = c.law_formats_apart.ensures } in
    no_fault apart image store.newest store.triples store.checkpoint store.sound why found

pub returns-clause-triple : goal.returns-clause-triple
returns-clause-triple c = one_triple_fault

pub returns-clause-scan : goal.returns-clause-scan
returns-clause-scan c =
    let spellings = c.law_spellings_apart.ensures in
    let apart : Apart = record { records = spellings.records; triples = spellings.triples; shapes = spellings.shapes; slots = c.law_formats_apart.ensures } in
    one_scan_fault apart
