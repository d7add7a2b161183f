-- When the answers of reads are enabled among the lines that an event tells.
use Rattle.std.specs.Prelude.{ℕ, ⊤, map, List, [], ◌∷◌, ◌++◌}
use Rattle.law_log.specs.Ghosts.{Ghosts, GhostEvent, Tells, ghost_run}
use Rattle.law_log.specs.Enabled.{IsLineEnabled}
use Rattle.law_log.specs.Trace.{TraceLine, AnswersRead}
use Rattle.law_commit.specs.Below.fkv_world.Runs.{World, run}
use Rattle.law_commit.specs.Below.fkv_world.World.{Event}
use Rattle.law_commit.specs.Below.law_refine.Events.GhostEvents.{fixed_ghosts, life_ghosts, own_ghosts, safe_at}
use Rattle.law_order.specs.Known.Begins.{home_of_world}

-- What an event is to the log before it tells its lines: what its session does, then a raise of the safe read-only offset.
abbrev pub acted : World → List Event → Event → List GhostEvent
acted opening before event = fixed_ghosts (safe_at (run opening before).now) (safe_at (run opening (event ∷ before)).now) ++ own_ghosts (run opening before) event

-- and the log then
abbrev pub acted_ghosts : World → Ghosts → List Event → Event → Ghosts
acted_ghosts opening ghosts before event = ghost_run (home_of_world opening) (life_ghosts opening ghosts before) (acted opening before event)

-- the answer of a read is enabled; of other lines nothing is said
abbrev pub IsAnswerEnabled : Ghosts → TraceLine → Type 0
IsAnswerEnabled g (AnswersRead reader reply) = IsLineEnabled g (AnswersRead reader reply)
IsAnswerEnabled g line = ⊤

-- so of each of these lines, where it is told: behind the earlier ones of them
abbrev pub EachAnswered : (ℕ → ℕ) → Ghosts → List TraceLine → Type 0
EachAnswered home base [] = ⊤
EachAnswered home base (line ∷ earlier) = IsAnswerEnabled (ghost_run home base (map Tells earlier)) line × EachAnswered home base earlier
