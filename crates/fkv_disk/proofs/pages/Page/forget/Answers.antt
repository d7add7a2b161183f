use Rattle.std.proofs.Common.{◌⊎◌, inl, inr, ◌+◌, ◌≤◌, length, rules, ◌∙◌}
use Rattle.fkv_disk.proofs.Paged.{alike_apart}
use Rattle.fkv_disk.proofs.pages.Page.forget.Goals.{then-at-self, else-at-self}
use Rattle.fkv_disk.proofs.pages.Page.forget.Goals as goal

pub returns-else-touches-clause-apart : goal.returns-else-touches-clause-apart
returns-else-touches-clause-apart c = λ old new alike was kept.
    let page = c.args.self.now in
    let size = length page.bytes.items in
    let apart : (page.at + size ≤ c.args.at) ⊎ (c.args.at + c.args.n ≤ page.at) = elim c.if-at-self.branch [
      | then-at-self w ↦ inr (search rules)
      | else-at-self w ↦ inl (search rules)
    ] in
    was kept ∙ alike_apart c.args.at c.args.n old new page.at size alike apart
