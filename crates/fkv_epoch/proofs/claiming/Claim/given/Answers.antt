-- Fewer asks are left.
use Rattle.std.proofs.Common.{rules, ◌≡◌, ◌-◌, ◌≤◌, subst}
use Rattle.fkv_epoch.specs.declared.claiming.Claiming.{Claiming}
use Rattle.fkv_epoch.specs.Claiming.{claim_given, claim_asks_left}
use Rattle.fkv_epoch.proofs.AsksLeft.{claim_given_fewer}
use Rattle.fkv_epoch.proofs.claiming.Claim.given.Goals as goal

pub returns-clause-fewer : goal.returns-clause-fewer
unfolding claim_given
returns-clause-fewer c takes =
    let its : claim_given c.args.self.now.step c.args.action ≡ c.match-self.self.step = search rules in
    subst (λ (s : Claiming). claim_asks_left s ≤ claim_asks_left c.args.self.now.step - 1) its (claim_given_fewer c.args.self.now.step c.args.action takes)
