-- Runs of a log behind one another: when each is enabled, and whose numbers are free.
use Rattle.std.proofs.Common.{◌≡◌, ℕ, List, [], ◌∷◌, ◌++◌, refl, sym, subst}
use Rattle.fkv_map.specs.Map.{Map}
use Rattle.law_log.specs.Ghosts.{Log, Reading, NotCalled, Called, Walks, HasValue, Ghosts, GhostEvent, ghost_run}
use Rattle.law_log.specs.Enabled.{AreEnabled, IsEnabled}
use Rattle.law_log.specs.Trace.{TraceLine, CallsRead, IsIn}
use Rattle.law_log.proofs.Shown.{run_on, KnowsRead}

-- what is enabled after a run that is enabled is enabled with it
pub enabled_on : (home : ℕ → ℕ) (g : Ghosts) (later before : List GhostEvent) → AreEnabled home g before → AreEnabled home (ghost_run home g before) later → AreEnabled home g (later ++ before)
unfolding AreEnabled
enabled_on home g [] before enabled its = enabled
enabled_on home g (event ∷ later) before enabled its = (enabled_on home g later before enabled its.0, subst (λ (x : Ghosts). IsEnabled home x event) (sym (run_on home g later before)) its.1)

-- and a run's beginning with it
-- a number by which no read was called is no read's
pub free_read : (home : ℕ → ℕ) (m : Map) (log : Log) (trace : List TraceLine) (reader : ℕ) (reading : Reading) → KnowsRead home m log trace reader reading → ((key : ℕ) → IsIn (CallsRead reader key) trace → ⊥) → reading ≡ NotCalled
free_read home m log trace reader NotCalled knows none = refl
free_read home m log trace reader (Called key seen) knows none = absurd (none key knows.0.called)
free_read home m log trace reader (Walks key seen a) knows none = absurd (none key knows.0.called)
free_read home m log trace reader (HasValue key seen value) knows none = absurd (none key knows.0.called)
