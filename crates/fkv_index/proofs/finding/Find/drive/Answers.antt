-- Fewer asks are left.
use Rattle.std.proofs.Common.{◌≡◌, ◌<◌, refl, subst}
use Rattle.fkv_index.specs.declared.finding.Led.{Led}
use Rattle.fkv_index.specs.declared.finding.Led.TheVariants.{On, Ends}
use Rattle.fkv_index.specs.Finding.{step_asks_left, asks_left, led_to, find_led}
use Rattle.fkv_index.proofs.Asks.{next_fewer}
use Rattle.fkv_index.proofs.finding.Find.drive.Goals as goal

pub returns-in-On-clause-fewer : goal.returns-in-On-clause-fewer
returns-in-On-clause-fewer c =
    let f = c.self.inside.finding in
    let its : find_led c.self.inside.places f f.step c.args.reply ≡ On c.in-On.finding = cc in
    rw (← c.self.view_is) (λ some. subst (λ (led : Led). asks_left (led_to led) < asks_left f) its (next_fewer c.self.inside.places f c.args.reply some))

pub returns-in-Ends-clause-fewer : goal.returns-in-Ends-clause-fewer
returns-in-Ends-clause-fewer c =
    let f = c.self.inside.finding in
    let its : find_led c.self.inside.places f f.step c.args.reply ≡ Ends c.in-Ends.finding c.in-Ends.found = cc in
    rw (← c.self.view_is) (λ some. subst (λ (led : Led). asks_left (led_to led) < asks_left f) its (next_fewer c.self.inside.places f c.args.reply some))

pub returns-in-Ends-clause-counted : goal.returns-in-Ends-clause-counted
unfolding step_asks_left
returns-in-Ends-clause-counted c = refl
