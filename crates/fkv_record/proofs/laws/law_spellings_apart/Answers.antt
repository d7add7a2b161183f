use Rattle.fkv_record.proofs.RecordApart.{record_apart}
use Rattle.fkv_record.proofs.TripleApart.{triple_apart}
use Rattle.fkv_record.proofs.SlotApart.{slot_apart}
use Rattle.fkv_record.proofs.ShapeApart.{shape_apart}
use Rattle.fkv_record.proofs.laws.law_spellings_apart.Goals as goal

pub returns : goal.returns
returns c = record { records = record_apart; triples = triple_apart; slots = slot_apart; shapes = shape_apart }
