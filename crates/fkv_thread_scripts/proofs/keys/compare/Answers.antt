-- One key more agrees.
use Rattle.std.proofs.Common.{◌∙◌, ◌<◌, sym, subst, ℕ}
use Rattle.fkv_thread_scripts.proofs.Compared.{count_on, key_on}
use Rattle.fkv_thread_scripts.proofs.keys.compare.Goals as goal

pub loop-key-preserved-then-is_compared : goal.loop-key-preserved-then-is_compared
loop-key-preserved-then-is_compared c =
    let inv = c.loop-key.invariant in
    let next = c.in-Some.ensures.steps in
    let same = c.in_ok-are_same.ensures in (
      same.told ∙ inv.0,
      same.stored ∙ inv.1,
      key_on c.loop-key.told _ c.loop-key.stored _ c.in-Some.key.now c.in-Some.claim.now c.loop-key.key-iterator c.next.new.self c.args.claims.now.entries c.in_ok-are_same.field-0 same.told same.stored next c.if-not-branch.false same.same inv.2,
      count_on c.loop-key.count c.saturating_add-count.result c.in-Some.key.now c.in-Some.claim.now c.loop-key.key-iterator c.next.new.self c.args.claims.now.entries next (sym c.is_compared.ensures ∙ c.if-is_compared.true) c.saturating_add-count.ensures (subst (λ (n : ℕ). n < 9223372036854775808) c.len-most.ensures.len c.len-most.ensures.small) inv.3,
    )
