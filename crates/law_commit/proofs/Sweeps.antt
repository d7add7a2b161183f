-- A step of a sweep changes the sweep and maybe ends the turn, and changes nothing else.
use Rattle.std.proofs.Common.{ℕ, List, Bool, true, false}
use Rattle.std.specs.Prelude.{◌&&◌, if◌then◌else◌}
use Rattle.fkv_plane.specs.declared.asks.Ask.{Ask}
use Rattle.fkv_plane.specs.declared.asks.Ask.TheVariants.{Done}
use Rattle.fkv_sweep.specs.declared.sweeping.SweepAnswer.{SweepAnswer}
use Rattle.fkv_sweep.specs.declared.sweeping.SweepAnswer.TheVariants as sweep
use Rattle.fkv_sweep.specs.Sweeping.{Sweeper, is_sweeping, sweep_ask, sweep_failed, sweep_next, sweep_read, turn_begun}
use Rattle.law_refine.specs.Below.fkv_keeper.TheKeeping.TheVariants.{Sweeps}
use Rattle.law_refine.specs.Below.fkv_keeper.Keeping.{KeeperState, broken, sweep_called, sweep_ledto, sweeps_next, turned}

swept_to : (P : KeeperState → Type 0) (s : KeeperState) (ask : Ask SweepAnswer) → P s → P (turned s) → P (sweep_ledto s ask)
unfolding sweep_ledto
swept_to P s (Done sweep.Through) on over = over
swept_to P s (Done sweep.Device) on over = on
swept_to P s ask on over = on

-- by a reply it goes on, or the turn is over
pub sweep_moves : (P : KeeperState → Type 0) (s : KeeperState) (reply : ℕ) → ((w : Sweeper) → P (record s { sweep = w })) → ((w : Sweeper) → P (turned (record s { sweep = w })))
    → P (sweep_ledto (record s { sweep = sweep_next s.sweep reply }) (sweep_ask (sweep_next s.sweep reply)))
sweep_moves P s reply on over = let w : Sweeper = sweep_next s.sweep reply in swept_to P (record s { sweep = w }) (sweep_ask w) (on w) (over w)

-- so it does by a read; and where that fails the keeper is broken
pub sweep_reads : (P : KeeperState → Type 0) (s : KeeperState) (done : Bool) (bytes : List ℕ) → ((w : Sweeper) → P (record s { sweep = w })) → ((w : Sweeper) → P (turned (record s { sweep = w }))) → ((w : Sweeper) → P (broken (record s { sweep = w })))
    → P (sweep_called s done bytes)
sweep_reads P s true bytes on over breaks = let w : Sweeper = sweep_read s.sweep bytes in swept_to P (record s { sweep = w }) (sweep_ask w) (on w) (over w)
sweep_reads P s false bytes on over breaks = breaks (sweep_failed s.sweep)

-- its turn begins where it is let, and else the turn is over
pub sweep_begins : (P : KeeperState → Type 0) (s : KeeperState) (granted : Bool) → P (record s { sweep = turn_begun s.sweep; is_granted = true; step = Sweeps }) → P (turned (record s { is_granted = granted })) → P (sweeps_next s granted)
sweep_begins P s granted begins over = by (granted && is_sweeping s.sweep)
  where
    by : (b : Bool) → P (if b then record s { sweep = turn_begun s.sweep; is_granted = true; step = Sweeps } else turned (record s { is_granted = granted }))
    by true = begins
    by false = over
