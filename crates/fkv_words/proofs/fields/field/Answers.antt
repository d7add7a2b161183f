-- The mask keeps the low bits of the word that was shifted.
use Rattle.std.proofs.Common.{arith}
use Rattle.std.proofs.lemmas.Nat.{one_shl, and_mask, pow_pos}
use Rattle.fkv_words.proofs.fields.field.Goals as goal

pub overflow_sub-result : goal.overflow_sub-result
overflow_sub-result c = omega (arith, one_shl c.args.len 64 c.requires.short, pow_pos c.args.len)

pub returns : goal.returns
returns c = rw (one_shl c.args.len 64 c.requires.short) (and_mask _ c.args.len)
