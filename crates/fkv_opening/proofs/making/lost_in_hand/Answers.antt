use Rattle.std.proofs.Common.{[], ◌∷◌, ◌++◌, sym, ap, subst, ◌∙◌}
use Rattle.fkv_scan.specs.Log.{log_in}
use Rattle.fkv_opening.specs.Lost.{Extends}
use Rattle.fkv_opening.proofs.making.lost_in_hand.Goals as goal

pub returns-then-newer : goal.returns-then-newer
returns-then-newer c = λ image shape triples. subst (λ b. Extends (log_in image shape c.args.slot.now triples) b c.push.new.self.items) (sym c.if-newer.true) (
  c.newer_range-added.result,
  ap (λ a. a.0) c.newer_range-added.ensures.to,
  c.newer_range-added.ensures.version,
  c.push.ensures.items ∙ ap (λ rs. rs ++ c.newer_range-added.result ∷ []) c.named_ranges-lost.ensures.ranges,
)
