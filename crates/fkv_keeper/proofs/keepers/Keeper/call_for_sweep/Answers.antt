-- A sweep reads, and so a device reads as before, and may leave no more.
use Rattle.std.proofs.Common.{◌≡◌, ap, rules, ◌∙◌}
use Rattle.std.specs.Prelude.{None}
use Rattle.fkv_sweep.proofs.Shown.{sweep_read_same}
use Rattle.fkv_sweep.specs.Sweeping.{Sweeper, piece_bytes, read_place}
use Rattle.fkv_disk.specs.Bytes.{bytes_at}
use Rattle.fkv_keeper.specs.declared.keepers.Keeping.{Keeping}
use Rattle.fkv_keeper.specs.KeeperAsks.{keeper_read, keeping_read}
use Rattle.fkv_keeper.proofs.KeeperDevice.{does_adds}
use Rattle.fkv_keeper.proofs.keepers.Keeper.call_for_sweep.Goals as goal

pub invariant_of-self : goal.invariant_of-self
invariant_of-self g c =
    let its = c.in-Ok.ensures.next in
    let same = sweep_read_same c.self.inside.sweep its.0 in
    let all = c.self.invariant in
    (all.0, all.1, all.2, all.3, ap (λ (w : Sweeper). w.shape) its.1 ∙ same.shape ∙ all.4, ap (λ (w : Sweeper). w.places) its.1 ∙ same.places ∙ all.5, all.6)

pub returns-in-Ok-clause-read : goal.returns-in-Ok-clause-read
unfolding keeping_read
returns-in-Ok-clause-read g c =
    let now = c.args.self.now in
    let seen = g.D.Device.seen c.args.d.now in
    let read : keeper_read now seen ≡ bytes_at seen (read_place now.state.sweep) piece_bytes = ap (λ (step : Keeping). keeping_read now step seen) c.requires in
    λ honest. rw read (let its = c.in-Ok.ensures.read honest in search rules)

pub returns-in-Ok-clause-calls : goal.returns-in-Ok-clause-calls
returns-in-Ok-clause-calls g c honest = does_adds None _ _ _ _ (c.device_step.ensures.seen honest, c.device_step.ensures.crash honest)

pub returns-in-Err-clause-calls : goal.returns-in-Err-clause-calls
returns-in-Err-clause-calls g c honest = does_adds None _ _ _ _ (c.device_step.ensures.seen honest, c.device_step.ensures.crash honest)
