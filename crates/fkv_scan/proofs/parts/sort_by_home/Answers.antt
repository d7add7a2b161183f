use Rattle.std.proofs.Common.{◌≡◌, rules}
use Rattle.std.proofs.lemmas.Fn.{always_returns_same}
use Rattle.fkv_scan.proofs.Sorting.{rise_sorted}
use Rattle.fkv_scan.proofs.parts.sort_by_home.Goals as goal

pub returns-clause-by_home : goal.returns-clause-by_home
returns-clause-by_home c = λ rise.
    rise_sorted c.args.mets.now.items c.sort_by_key.new.self.items rise (c.in_ok-sort_by_key.ensures.stable (λ m. m.home) (always_returns_same _ (λ a r. r ≡ a.0.now.home) _ (λ a r q k. search rules)))
