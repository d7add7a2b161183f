use Rattle.fkv_record.proofs.ManifestBytes.{manifest_apart}
use Rattle.fkv_record.proofs.laws.law_formats_apart.Goals as goal

pub returns : goal.returns
returns c = manifest_apart
