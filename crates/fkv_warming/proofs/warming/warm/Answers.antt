-- The store is the same, but for what memory has.
use Rattle.std.proofs.Common.{ℕ, ◌-◌, ◌∙◌, ap, arith}
use Rattle.fkv_opening.proofs.Shown.{log_short}
use Rattle.fkv_warming.specs.Records.{records_from}
use Rattle.fkv_warming.proofs.From.{from_begin, from_in_log, from_in_ring, from_some}
use Rattle.fkv_warming.proofs.Words.{is_warm}
use Rattle.fkv_warming.proofs.warming.warm.Goals as goal

pub records_from-requires-clause-upwards : goal.records_from-requires-clause-upwards
records_from-requires-clause-upwards g c = let first = c.first_warm-first.ensures in let low = from_in_log c.args.opened c.args.most in omega (arith, first, low)

pub records_from-requires-clause-end : goal.records_from-requires-clause-end
records_from-requires-clause-end g c = log_short c.args.opened.shape c.args.opened.tail.0 c.args.opened.tail_on_disk

pub invariant_of-result-clause-some_warm : goal.invariant_of-result-clause-some_warm
invariant_of-result-clause-some_warm g c = let first = c.first_warm-first.ensures in let some = from_some c.args.opened c.args.most in omega (arith, first, some)

pub invariant_of-result-clause-warm_from_begin : goal.invariant_of-result-clause-warm_from_begin
invariant_of-result-clause-warm_from_begin g c = let first = c.first_warm-first.ensures in let begin = from_begin c.args.opened c.args.most in omega (arith, first, begin)

pub invariant_of-result-clause-warm_in_log : goal.invariant_of-result-clause-warm_in_log
invariant_of-result-clause-warm_in_log g c = let first = c.first_warm-first.ensures in let low = from_in_log c.args.opened c.args.most in omega (arith, first, low)

pub invariant_of-result-clause-warm_in_ring : goal.invariant_of-result-clause-warm_in_ring
invariant_of-result-clause-warm_in_ring g c = let first = c.first_warm-first.ensures in let near = from_in_ring c.args.opened c.args.most in omega (arith, first, near)

pub returns-clause-ok : goal.returns-clause-ok
returns-clause-ok g c = λ claim store. record {
  newest = store.newest;
  triples = store.triples;
  checkpoint = store.checkpoint;
  sound = store.sound;
  tells = record {
    shape = store.tells.shape;
    number = store.tells.number;
    begin = store.tells.begin;
    tail = store.tells.tail;
    points = store.tells.points;
    gate_0 = store.tells.gate_0;
    gate_1 = store.tells.gate_1;
    checkpoint = store.tells.checkpoint;
    first = store.tells.first;
    triples = store.tells.triples;
    area = store.tells.area;
  };
  entries = store.entries;
  lost = store.lost;
  warm = is_warm (g.D.Device.seen c.args.d.now) _
      (c.in_ok-words.ensures.ok claim ∙ (let first = c.first_warm-first.result in ap (λ (v : ℕ). records_from (g.D.Device.seen c.args.d.now) c.args.opened.shape c.args.opened.begin.0 v first.0 (c.args.opened.tail.0 - first.0)) c.mark-version.ensures.mark));
}
