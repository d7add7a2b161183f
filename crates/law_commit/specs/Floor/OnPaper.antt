-- A life as a run of the phases on paper.
use Rattle.std.specs.Prelude.{◌≡◌, ◌+◌, ◌++◌, ℕ, List, [], ◌∷◌}
use Rattle.law_refine.specs.Below.fkv_world.Opened.{IsOpenedWorld}
use Rattle.law_refine.specs.Below.fkv_world.Runs.{World}
use Rattle.law_refine.specs.Below.fkv_world.World.{Event, Now}
use Rattle.law_refine.specs.Below.law_world.Guarded.Shows.{IsOpened}
use Rattle.law_paper.specs.Phases.{AreEnabled, PhaseEvent, Phasing, phase_run}
use Rattle.law_commit.specs.Floor.Stands.{OpensSeen}
use Rattle.law_commit.specs.Phases.Projected.{ShowsLife, phasing_opened}

-- what is on paper as a life begins: rest of the version behind the newest finished commit's number
abbrev pub phasing_first : Now → Phasing
phasing_first n = phasing_opened n (record { 0 = n.keeper.last.number.0 + 1 })

-- Each event of a life is some on paper, behind those of the life before. What is on paper shows the life at each moment.
unfoldable pub AreOnPaper : World → List Event → List PhaseEvent → Type 0
AreOnPaper opening [] paper_events = (paper_events ≡ []) × ShowsLife (phasing_first opening.now) opening []
AreOnPaper opening (event ∷ before) paper_events =
    (own : List PhaseEvent) × (past : List PhaseEvent) × (paper_events ≡ own ++ past) × AreOnPaper opening before past × ShowsLife (phase_run (phasing_first opening.now) paper_events) opening (event ∷ before)

-- and they are enabled there
pub record IsOnPaper (opening : World) (events : List Event) : Type 0 where
  pub paper_events : List PhaseEvent
  pub enabled : AreEnabled (phasing_first opening.now) paper_events
  pub shows : AreOnPaper opening events paper_events

-- so it is with each life of a store that opened at rest
abbrev pub LivesAreOnPaper : Type 0
LivesAreOnPaper = (opening : World) (start : ℕ) (events : List Event) → IsOpened opening.now start → IsOpenedWorld opening → OpensSeen opening.now → IsOnPaper opening events
