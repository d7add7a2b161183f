use Rattle.fkv_pairs.specs.Pairs.{log_of_store}
use Rattle.fkv_pairs.proofs.Faultless.{is_faultless}
use Rattle.fkv_pairs.proofs.Pairing.{are_pairs}
use Rattle.fkv_pairs.proofs.contents.content.Goals as goal

pub returns-clause-ok : goal.returns-clause-ok
returns-clause-ok g c = λ claim store.
    let image = g.D.Device.seen c.args.d.now in
    are_pairs c.law_spellings_apart.ensures.records (log_of_store image c.args.opened.now store) (is_faultless image c.args.opened.now store) c.args.opened.now.entries.items store.entries
    c.in_ok-values.values c.in_ok-pairs.pairs.items (c.in_ok-values.ensures.ok claim store) c.in_ok-pairs.ensures.ok
