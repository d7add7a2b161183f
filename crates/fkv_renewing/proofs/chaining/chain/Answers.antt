use Rattle.std.proofs.Common.{◌≡◌, ◌+◌, List, [], ◌∷◌, ◌++◌, Some, sym, ap, subst, ◌∙◌}
use Rattle.std.specs.Prelude.{slice_get}
use Rattle.std.specs.Ordering.{nat_cmp}
use Rattle.std.specs.BTreeMap.{get}
use Rattle.fkv_base.specs.declared.numbers.Addr.{Addr}
use Rattle.fkv_record.specs.declared.records.Record.{Record}
use Rattle.fkv_renewing.proofs.Growing.{IsChainedTo, chained_more}
use Rattle.fkv_renewing.proofs.chaining.chain.Goals as goal

pub loop-i-preserved : goal.loop-i-preserved
loop-i-preserved c =
    let n = c.loop-i.i in
    let pairs = c.args.pairs.now in
    let pair = c.pair_at-pair.result in
    let x = c.record_of.result in
    let stands : slice_get pairs n ≡ Some pair = c.pair_at-pair.ensures in
    let pushed : c.push.new.self.items ≡ c.loop-i.records.items ++ x ∷ [] = c.in_ok-push.ensures.items in
    subst (λ (records : List Record). IsChainedTo c.args.bits pairs (n + 1) records (get nat_cmp c.insert.new.self)) (sym pushed)
    (chained_more c.args.bits pairs n c.loop-i.records.items (get nat_cmp c.loop-i.latest) c.loop-i.invariant pair stands x (get nat_cmp c.insert.new.self) c.home_of-home.result c.home_of-home.ensures
    c.record_of.ensures.key c.record_of.ensures.value c.record_of.ensures.version c.record_of.ensures.valid (ap (λ (a : Addr). a.0) c.record_of.ensures.leads ∙ c.last_of-previous.ensures) c.in_ok-insert.ensures.updates.0)
