use Rattle.fkv_record.proofs.ManifestBytes.{first_bytes}
use Rattle.fkv_record.proofs.laws.law_first_format.Goals as goal

pub returns : goal.returns
returns c = first_bytes
