-- A sweep waits for no action of a drain slot, and puts none there.
use Rattle.std.proofs.Common.{◌≡◌, ℕ}
use Rattle.fkv_plane.specs.declared.actions.Action.{Action}
use Rattle.fkv_plane.specs.declared.asks.Ask.TheVariants.{Put, Take}
use Rattle.fkv_plane.specs.Passing.{passed}
use Rattle.fkv_index.specs.declared.finding.FindStep.{FindStep}
use Rattle.fkv_index.specs.declared.finding.FindStep.TheVariants as find
use Rattle.fkv_index.specs.declared.finding.Finding.{Finding}
use Rattle.fkv_index.specs.Finding.{find_step_ask}
use Rattle.fkv_sweep.specs.declared.sweeping.SweepAnswer.TheVariants as answer
use Rattle.fkv_sweep.specs.declared.sweeping.Sweeping.{Sweeping}
use Rattle.fkv_sweep.specs.declared.sweeping.Sweeping.TheVariants.{AtRest, LoadsHead, Takes, Meets, Finds, LoadsKey, LoadsHeader, Reads}
use Rattle.fkv_sweep.specs.Sweeping.{Sweeper, sweeping_ask, sweep_ask}

find_takes_none : (f : Finding) (step : FindStep) (slot : ℕ) → passed (find_step_ask f step) answer.Through ≡ Take slot → ⊥
unfolding find_step_ask passed
find_takes_none f find.AtRest slot e = cc
find_takes_none f (find.LoadsSlot of) slot e = cc
find_takes_none f find.LoadsLink slot e = cc
find_takes_none f (find.LoadsTaken taken) slot e = cc
find_takes_none f (find.TakesBucket at taken) slot e = cc
find_takes_none f (find.LinksBucket at) slot e = cc

step_takes_none : (s : Sweeper) (step : Sweeping) (slot : ℕ) → sweeping_ask s step ≡ Take slot → ⊥
unfolding sweeping_ask
step_takes_none s AtRest slot e = cc
step_takes_none s LoadsHead slot e = cc
step_takes_none s Takes slot e = cc
step_takes_none s Meets slot e = cc
step_takes_none s (Finds key) slot e = find_takes_none s.finding s.finding.step slot e
step_takes_none s (LoadsKey key addr) slot e = cc
step_takes_none s (LoadsHeader key addr) slot e = cc
step_takes_none s (Reads key addr) slot e = cc

pub sweep_takes_none : (s : Sweeper) (slot : ℕ) → sweep_ask s ≡ Take slot → ⊥
sweep_takes_none s slot e = step_takes_none s s.step slot e

find_puts_none : (f : Finding) (step : FindStep) (slot : ℕ) (action : Action) → passed (find_step_ask f step) answer.Through ≡ Put slot action → ⊥
unfolding find_step_ask passed
find_puts_none f find.AtRest slot action e = cc
find_puts_none f (find.LoadsSlot of) slot action e = cc
find_puts_none f find.LoadsLink slot action e = cc
find_puts_none f (find.LoadsTaken taken) slot action e = cc
find_puts_none f (find.TakesBucket at taken) slot action e = cc
find_puts_none f (find.LinksBucket at) slot action e = cc

step_puts_none : (s : Sweeper) (step : Sweeping) (slot : ℕ) (action : Action) → sweeping_ask s step ≡ Put slot action → ⊥
unfolding sweeping_ask
step_puts_none s AtRest slot action e = cc
step_puts_none s LoadsHead slot action e = cc
step_puts_none s Takes slot action e = cc
step_puts_none s Meets slot action e = cc
step_puts_none s (Finds key) slot action e = find_puts_none s.finding s.finding.step slot action e
step_puts_none s (LoadsKey key addr) slot action e = cc
step_puts_none s (LoadsHeader key addr) slot action e = cc
step_puts_none s (Reads key addr) slot action e = cc

pub sweep_puts_none : (s : Sweeper) (slot : ℕ) (action : Action) → sweep_ask s ≡ Put slot action → ⊥
sweep_puts_none s slot action e = step_puts_none s s.step slot action e
