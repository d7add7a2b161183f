-- Behind a word the sweep is one of the same store still.
use Rattle.std.proofs.Common.{◌∙◌, ap}
use Rattle.fkv_sweep.specs.Sweeping.{Sweeper}
use Rattle.fkv_sweep.proofs.Shown.{sweep_next_same}
use Rattle.fkv_keeper.proofs.keepers.Keeper.keep.Goals as goal

pub invariant_of-self-then-is_through : goal.invariant_of-self-then-is_through
invariant_of-self-then-is_through c =
    let its = c.keep-in-Sweeps.ensures.next in
    let same = sweep_next_same c.self.inside.sweep c.args.word in
    let all = c.self.invariant in
    (all.0, all.1, all.2, all.3, ap (λ (w : Sweeper). w.shape) its ∙ same.shape ∙ all.4, ap (λ (w : Sweeper). w.places) its ∙ same.places ∙ all.5, all.6)

pub invariant_of-self-else-is_through : goal.invariant_of-self-else-is_through
invariant_of-self-else-is_through c =
    let its = c.keep-in-Sweeps.ensures.next in
    let same = sweep_next_same c.self.inside.sweep c.args.word in
    let all = c.self.invariant in
    (all.0, all.1, all.2, all.3, ap (λ (w : Sweeper). w.shape) its ∙ same.shape ∙ all.4, ap (λ (w : Sweeper). w.places) its ∙ same.places ∙ all.5, all.6)
