use Rattle.std.proofs.Common.{ap, ◌∙◌, ℕ, List, arith}
use Rattle.std.specs.Prelude.{slice_range}
use Rattle.fkv_newest.proofs.Heading.{part_is}
use Rattle.fkv_newest.proofs.heads.head_in.Goals as goal

pub returns : goal.returns
returns c = λ image same. record {
  block = c.part.ensures ∙ ap (λ (bs : List ℕ). slice_range bs 0 64) same ∙ part_is image 1536 0 64 (omega arith);
  slot_0 = c.part-2.ensures ∙ ap (λ (bs : List ℕ). slice_range bs 512 1024) same ∙ part_is image 1536 512 512 (omega arith);
  slot_1 = c.part-3.ensures ∙ ap (λ (bs : List ℕ). slice_range bs 1024 1536) same ∙ part_is image 1536 1024 512 (omega arith);
}
