use Rattle.std.proofs.Common.{rules}
use Rattle.fkv_record.proofs.Spelling.{words_at}
use Rattle.fkv_record.proofs.ManifestBytes.{bytes_read}
use Rattle.fkv_record.proofs.manifest_bytes.read_manifest_slot.Goals as goal

pub returns : goal.returns
returns c = bytes_read c.args.bytes.now c.numbers.result c.manifest_of.result (search rules) (words_at c.numbers.result c.numbers.ensures.words) c.numbers.ensures.same c.manifest_of.ensures
