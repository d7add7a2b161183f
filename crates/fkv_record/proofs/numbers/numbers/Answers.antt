use Rattle.std.proofs.Common.{ℕ, arith, rules}
use Rattle.std.proofs.lemmas.List.{length-replicate}
use Rattle.fkv_record.proofs.Spelling.{one_more, words_set, words_zero}
use Rattle.fkv_record.proofs.numbers.numbers.Goals as goal

pub loop-i-init : goal.loop-i-init
loop-i-init g c = record { all = length-replicate {A = ℕ} g.row.N 0; words = words_zero g.row.N; so_far = search rules }

pub loop-i-preserved : goal.loop-i-preserved
loop-i-preserved g c = record {
  all = search rules;
  words = words_set c.loop-i.numbers c.loop-i.i c.number_at.result c.loop-i.invariant.words (omega arith);
  so_far = one_more c.args.bytes.now c.loop-i.numbers c.loop-i.i c.number_at.result (omega arith) c.number_at.ensures.bytes c.loop-i.invariant.so_far;
}
