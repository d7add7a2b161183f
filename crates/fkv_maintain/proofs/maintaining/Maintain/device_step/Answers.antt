-- It asks or calls where some are left, fewer are, and none where the device failed.
use Rattle.std.proofs.Common.{refl, rules, ◌≡◌, ℕ, List, true}
use Rattle.fkv_maintain.specs.Maintaining.{maintaining_called, maintain_ask, maintain_called}
use Rattle.fkv_maintain.proofs.MaintainLeft.{maintain_asked, maintain_asked_calls, maintain_called_fewer, broken_none, broken_fewer}
use Rattle.fkv_maintain.proofs.maintaining.Maintain.device_step.Goals as goal

pub returns-in-Err-clause-fewer : goal.returns-in-Err-clause-fewer
returns-in-Err-clause-fewer g c = rw c.breaks.ensures.next (broken_fewer c.args.self.now.shape c.args.self.now.places c.args.self.now.state _ refl)

pub returns-in-Err-clause-none : goal.returns-in-Err-clause-none
returns-in-Err-clause-none g c = rw (c.breaks.ensures.told, c.breaks.ensures.next) (broken_none c.args.self.now.shape _ refl)

pub returns-in-Err-device_step-clause-fewer : goal.returns-in-Err-device_step-clause-fewer
returns-in-Err-device_step-clause-fewer g c =
    rw c.breaks-in-Err-device_step.ensures.next (broken_fewer c.args.self.now.shape c.args.self.now.places c.args.self.now.state _ refl)

pub returns-in-Err-device_step-clause-none : goal.returns-in-Err-device_step-clause-none
returns-in-Err-device_step-clause-none g c = rw (c.breaks-in-Err-device_step.ensures.told, c.breaks-in-Err-device_step.ensures.next) (broken_none c.args.self.now.shape _ refl)

pub returns-clause-left : goal.returns-clause-left
unfolding maintaining_called
returns-clause-left g c =
    let before = c.args.self.now in
    let its : (bytes : List ℕ) × (c.match-self.self ≡ record before { state = maintain_called before.shape before.places before.state true bytes }) = search rules in
    let next = maintain_called before.shape before.places before.state true its.0 in
    let asked : c.ask.result ≡ maintain_ask before.shape before.places next = rw its.1 at c.ask.ensures in
    rw its.1 (maintain_asked before.shape before.places next c.ask.result asked)

pub returns-clause-fewer : goal.returns-clause-fewer
unfolding maintaining_called
returns-clause-fewer g c =
    let before = c.args.self.now in
    let its : (bytes : List ℕ) × (c.match-self.self ≡ record before { state = maintain_called before.shape before.places before.state true bytes }) = search rules in
    rw its.1 (maintain_called_fewer before.shape before.places before.state true its.0)

pub returns-clause-asked : goal.returns-clause-asked
returns-clause-asked g c = maintain_asked_calls c.args.self.now.shape c.args.self.now.places c.args.self.now.state

pub returns-in-Err-clause-asked : goal.returns-in-Err-clause-asked
returns-in-Err-clause-asked g c = maintain_asked_calls c.args.self.now.shape c.args.self.now.places c.args.self.now.state

pub returns-in-Err-device_step-clause-asked : goal.returns-in-Err-device_step-clause-asked
returns-in-Err-device_step-clause-asked g c = maintain_asked_calls c.args.self.now.shape c.args.self.now.places c.args.self.now.state
