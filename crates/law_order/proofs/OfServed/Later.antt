-- A published record that is fixed stays as it is.
use Rattle.std.proofs.Common.{◌≡◌, ℕ, ◌<◌, ◌≤◌, ◌∙◌, inl, inr, ap, arith, List, [], ◌∷◌, ◌++◌}
use Rattle.std.specs.Prelude.{Option}
use Rattle.fkv_map.specs.Map.{Map}
use Rattle.law_log.specs.Chains.{Cell, Published}
use Rattle.law_log.specs.Ghosts.{Log, Ghosts, GhostEvent, log_after, ghosts_after, ghost_run}
use Rattle.law_log.specs.Enabled.{AreEnabled, IsOpened}
use Rattle.law_log.proofs.Shown.{enabled_before, Grows}
use Rattle.law_commit.specs.Below.fkv_world.Runs.{World, run}
use Rattle.law_commit.specs.Below.fkv_world.World.{Event}
use Rattle.law_order.specs.Known.Begins.{home_of_world}
use Rattle.law_commit.specs.Below.law_refine.Events.GhostEvents.{serials_in, ghost_events, mapped, life_ghosts}
use Rattle.law_commit.proofs.Below.law_refine.OfEvents.Below.{one_step}

-- it is there, and changes no more
pub record IsFixedAs (log : Log) (a : ℕ) (cell : Cell) : Type 0 where
  pub there : log.cells a ≡ Published cell
  pub fixed : a < log.fixed

not_both : (a b : ℕ) → b ≤ a → a < b → ⊥
not_both a b high low = omega (arith, high, low)

below : (a b c : ℕ) → a < b → b ≤ c → a < c
below a b c low high = omega (arith, low, high)

fixed_grows : (home : ℕ → ℕ) (m : Map) (log log' : Log) (a : ℕ) (cell : Cell) → Grows home m log log' → IsFixedAs log a cell → IsFixedAs log' a cell
fixed_grows home m log log' a cell grows its =
    let stays = grows.published a cell its.there in
    record {
      there = elim stays.kept [
        | inl same ↦ stays.still ∙ ap (λ (value : Option ℕ). Published (record cell { value = value })) same
        | inr now ↦ absurd (not_both a log.fixed now.0 its.fixed)
      ];
      fixed = below a log.fixed log'.fixed its.fixed grows.fixed;
    }

run_stays : (home : ℕ → ℕ) (m : Map) (number : ℕ) (first : Ghosts) (later before : List GhostEvent) (a : ℕ) (cell : Cell) → IsOpened home m number first → AreEnabled home first (later ++ before)
    → IsFixedAs (ghost_run home first before).log a cell → IsFixedAs (ghost_run home first (later ++ before)).log a cell
unfolding ghost_run ghosts_after AreEnabled
run_stays home m number first [] before a cell opened enabled its = its
run_stays home m number first (event ∷ later) before a cell opened enabled its =
    let log : Log = (ghost_run home first (later ++ before)).log in
    fixed_grows home m log (log_after home log event) a cell (one_step home m number first event (later ++ before) opened enabled).grows
    (run_stays home m number first later before a cell opened enabled.0 its)

pub life_stays : (opening : World) (m : Map) (number : ℕ) (ghosts : Ghosts) (later earlier : List Event) (a : ℕ) (cell : Cell) → IsOpened (home_of_world opening) m number ghosts
    → AreEnabled (home_of_world opening) ghosts (mapped opening (later ++ earlier)) → IsFixedAs (life_ghosts opening ghosts earlier).log a cell → IsFixedAs (life_ghosts opening ghosts (later ++ earlier)).log a cell
unfolding mapped
life_stays opening m number ghosts [] earlier a cell opened enabled its = its
life_stays opening m number ghosts (event ∷ later) earlier a cell opened enabled its =
    let events : List GhostEvent = ghost_events (serials_in opening.now) (run opening (later ++ earlier)) event in
    run_stays (home_of_world opening) m number ghosts events (mapped opening (later ++ earlier)) a cell opened enabled
    (life_stays opening m number ghosts later earlier a cell opened (enabled_before (home_of_world opening) ghosts events (mapped opening (later ++ earlier)) enabled) its)

-- and if all are enabled so are the earlier
pub life_enabled_before : (opening : World) (ghosts : Ghosts) (later earlier : List Event) → AreEnabled (home_of_world opening) ghosts (mapped opening (later ++ earlier)) → AreEnabled (home_of_world opening) ghosts (mapped opening earlier)
unfolding mapped
life_enabled_before opening ghosts [] earlier enabled = enabled
life_enabled_before opening ghosts (event ∷ later) earlier enabled =
    life_enabled_before opening ghosts later earlier
    (enabled_before (home_of_world opening) ghosts (ghost_events (serials_in opening.now) (run opening (later ++ earlier)) event) (mapped opening (later ++ earlier)) enabled)
