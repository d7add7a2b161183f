-- Each has its count.
use Rattle.std.proofs.Common.{sym, ap, ◌∙◌, length}
use Rattle.fkv_checkpoint.specs.Triples.{HeldTriples}
use Rattle.fkv_checkpoint.proofs.Buffers.{entries_length}
use Rattle.fkv_checkpoint.proofs.triple_buffers.TripleBuffer.count.Goals as goal

pub returns : goal.returns
returns c = sym (entries_length c.self.inside.count c.self.inside.bytes.items) ∙ ap (λ (x : HeldTriples). length x.entries) c.self.view_is
