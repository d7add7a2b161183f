-- A log whose events were enabled is in order.
use Rattle.std.proofs.Common.{ℕ, List}
use Rattle.fkv_map.specs.Map.{Map}
use Rattle.law_log.specs.Enabled.{AreEnabled, IsOpened}
use Rattle.law_log.specs.Ghosts.{GhostEvent, Ghosts, ghost_run}
use Rattle.law_log.proofs.Shown.{Held, run_held}
use Rattle.law_commit.specs.Below.law_paper.Paper.Images.{IsOrderly}

pub in_order : (home : ℕ → ℕ) (m : Map) (version : ℕ) (opening : Ghosts) (events : List GhostEvent) → IsOpened home m version opening → AreEnabled home opening events → IsOrderly home (ghost_run home opening events).log
in_order home m version opening events opened enabled =
    let held : Held home m (ghost_run home opening events).log = run_held home m version opening events opened enabled in
    record { chains = held.chains; falls = held.falls; none = held.none }
