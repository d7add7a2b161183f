-- Records that the log's events change in place are published ones.
use Rattle.std.specs.Prelude.{⊤, ℕ, List, [], ◌∷◌}
use Rattle.law_log.specs.Chains.{Logged, Published}
use Rattle.law_log.specs.Ghosts.{Log, Ghosts, GhostEvent, Changes, ghost_run}

-- what stands at an address is a published record
abbrev pub IsPublished : Logged → Type 0
IsPublished (Published cell) = ⊤
IsPublished logged = ⊥

-- what an event changes in place is published before it
abbrev pub meets_published : Log → GhostEvent → Type 0
meets_published log (Changes a entry) = IsPublished (log.cells a)
meets_published log event = ⊤

-- each record that these events change in place was published until then
unfoldable pub AllMeetPublished : (ℕ → ℕ) → Ghosts → List GhostEvent → Type 0
AllMeetPublished home ghosts [] = ⊤
AllMeetPublished home ghosts (event ∷ before) = meets_published (ghost_run home ghosts before).log event × AllMeetPublished home ghosts before
