-- What is read leads on.
use Rattle.std.proofs.Common.{◌≡◌, ◌≤◌, ◌-◌, [], refl, sym, subst, ◌∙◌}
use Rattle.fkv_sweep.specs.Sweeping.{Sweeper, IsSweepInRange, sweep_ask, sweep_read, read_place, piece_bytes}
use Rattle.fkv_disk.specs.Bytes.{bytes_at}
use Rattle.fkv_sweep.specs.AsksLeft.{steps_asked, sweep_asks_left}
use Rattle.fkv_sweep.proofs.AsksLeft.{sweep_asked, sweep_read_fewer}
use Rattle.fkv_sweep.proofs.Reading.{reads, stays}
use Rattle.fkv_sweep.proofs.sweeping.Sweep.device_step.Goals as goal

pub returns-in_default-clause-next : goal.returns-in_default-clause-next
returns-in_default-clause-next g c = ([], sym (stays c.args.self.now [] (sym (sym c.in_default.is ∙ c.read_addr.ensures.addr))))

pub returns-in_default-clause-read : goal.returns-in_default-clause-read
returns-in_default-clause-read g c = λ honest. sym (stays c.args.self.now (bytes_at (g.D.Device.seen c.args.d.now) (read_place c.args.self.now) piece_bytes) (sym (sym c.in_default.is ∙ c.read_addr.ensures.addr)))

pub returns-in_default-clause-left : goal.returns-in_default-clause-left
returns-in_default-clause-left g c = sweep_asked c.args.self.now c.ask.result c.ask.ensures.ask

pub returns-in_default-clause-fewer : goal.returns-in_default-clause-fewer
returns-in_default-clause-fewer g c =
    subst (λ (s : Sweeper). sweep_asks_left s ≤ sweep_asks_left c.args.self.now - steps_asked (sweep_ask c.args.self.now)) (stays c.args.self.now [] (sym (sym c.in_default.is ∙ c.read_addr.ensures.addr))) (sweep_read_fewer c.args.self.now [])

pub record_place-requires : goal.record_place-requires
record_place-requires g c =
    let range : IsSweepInRange c.args.self.now = rw (← c.self.view_is) c.self.invariant.2 in
    (reads c.args.self.now c.in-Some.addr range c.in-Some.ensures.addr).fits

pub returns-clause-next : goal.returns-clause-next
returns-clause-next g c =
    let its : c.after_read.new.self ≡ sweep_read c.args.self.now c.read.new.into = rw (c.after_read.ensures, ← c.self.view_is) refl in
    (c.read.new.into, its)

pub returns-clause-left : goal.returns-clause-left
returns-clause-left g c = sweep_asked c.after_read.new.self c.ask-2.result c.ask-2.ensures.ask

pub returns-clause-fewer : goal.returns-clause-fewer
returns-clause-fewer g c =
    let its : c.after_read.new.self ≡ sweep_read c.args.self.now c.read.new.into = rw (c.after_read.ensures, ← c.self.view_is) refl in
    subst (λ (s : Sweeper). sweep_asks_left s ≤ sweep_asks_left c.args.self.now - steps_asked (sweep_ask c.args.self.now)) (sym its) (sweep_read_fewer c.args.self.now c.read.new.into)
