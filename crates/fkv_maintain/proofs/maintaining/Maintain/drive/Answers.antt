-- It asks or calls where some are left, and fewer are.
use Rattle.std.proofs.Common.{rules, ◌≡◌}
use Rattle.fkv_maintain.specs.Maintaining.{maintaining_next, maintain_ask, maintain_next}
use Rattle.fkv_maintain.proofs.MaintainLeft.{maintain_asked, maintain_fewer}
use Rattle.fkv_maintain.proofs.maintaining.Maintain.drive.Goals as goal

pub returns-clause-left : goal.returns-clause-left
unfolding maintaining_next
returns-clause-left c =
    let before = c.args.self.now in
    let next = maintain_next before.shape before.places before.state c.args.reply in
    let its : c.match-self.self ≡ record before { state = next } = search rules in
    let asked : c.ask.result ≡ maintain_ask before.shape before.places next = rw its at c.ask.ensures in
    rw its (maintain_asked before.shape before.places next c.ask.result asked)

pub returns-clause-fewer : goal.returns-clause-fewer
unfolding maintaining_next
returns-clause-fewer c =
    let before = c.args.self.now in
    let its : c.match-self.self ≡ record before { state = maintain_next before.shape before.places before.state c.args.reply } = search rules in
    rw its (maintain_fewer before.shape before.places before.state c.args.reply)

pub returns-in-Flushes-clause-left : goal.returns-in-Flushes-clause-left
returns-in-Flushes-clause-left c = let before = c.args.self.now in maintain_asked before.shape before.places c.go_on_flushing.new.self.state c.go_on_flushing.result c.go_on_flushing.ensures.ask

pub returns-in-Flushes-clause-fewer : goal.returns-in-Flushes-clause-fewer
returns-in-Flushes-clause-fewer c = let before = c.args.self.now in rw c.go_on_flushing.ensures.next (maintain_fewer before.shape before.places before.state c.args.reply)
