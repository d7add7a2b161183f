-- A record that is read lies below 2^48.
use Rattle.fkv_sweep.specs.Sweeping.{IsSweepInRange}
use Rattle.fkv_sweep.proofs.Reading.{reads}
use Rattle.fkv_sweep.proofs.sweeping.Sweep.device_ask.Goals as goal

pub record_place-requires : goal.record_place-requires
record_place-requires c =
    let range : IsSweepInRange c.args.self.now = rw (← c.self.view_is) c.self.invariant.2 in
    (reads c.args.self.now c.in_ok-addr.addr range c.in_ok-addr.ensures.addr).fits
