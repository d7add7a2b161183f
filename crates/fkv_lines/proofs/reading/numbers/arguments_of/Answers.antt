use Rattle.std.proofs.Common.{ℕ, sym, arith}
use Rattle.std.proofs.Math.ListN.{length-set, length-replicate}
use Rattle.std.proofs.lemmas.Result.{err_from_is_err_and}
use Rattle.fkv_lines.proofs.Arguments.{goes_on, ends, is_done, arguments_of-counted, with_front-nil}
use Rattle.fkv_lines.proofs.reading.numbers.arguments_of.Goals as goal

pub returns-in_err-numbers : goal.returns-in_err-numbers
returns-in_err-numbers g c =
    let p = err_from_is_err_and c.from_residual.result c.from_residual.ensures.1 in
    rw (p.1, p.2, arguments_of-counted g.row.N c.args.words.now c.if-words.false)
    (sym (ends c.args.words.now c.loop-i.i _ c.loop-i.numbers c.in_err-numbers.field-0.0 _ c.loop-i-test.true c.in_err-numbers.ensures c.loop-i.invariant.1))

pub loop-i-init : goal.loop-i-init
loop-i-init g c = (omega (arith, length-replicate {A = ℕ} g.row.N 0), with_front-nil _)

pub loop-i-preserved : goal.loop-i-preserved
loop-i-preserved g c = (
  omega (arith, length-set c.loop-i.numbers c.loop-i.i c.in_ok-numbers.field-0),
  goes_on c.args.words.now c.loop-i.i _ c.loop-i.numbers c.in_ok-numbers.field-0 _ c.loop-i-test.true c.loop-i.invariant.0 c.in_ok-numbers.ensures c.loop-i.invariant.1,
)

pub returns : goal.returns
returns g c =
    rw (arguments_of-counted g.row.N c.args.words.now c.if-words.false)
    (sym (is_done c.args.words.now c.loop-i.i c.loop-i.numbers _ c.loop-i-test.false c.loop-i.invariant.0 c.loop-i.invariant.1))
