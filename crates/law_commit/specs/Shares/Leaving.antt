-- A live session leaves a version from its prepare alone.
use Rattle.std.specs.Prelude.{◌≡◌, ◌⊎◌, ⊤, ℕ, true, List}
use Rattle.law_refine.specs.Below.fkv_ops.Trying.{is_prepare}
use Rattle.law_refine.specs.Below.fkv_session.Catching.{Catching}
use Rattle.law_refine.specs.Below.fkv_session.Catching.TheVariants.{Protects, Refreshes}
use Rattle.law_refine.specs.Below.fkv_session.CatchCause.{CatchCause}
use Rattle.law_refine.specs.Below.fkv_session.Sitting.TheVariants.{CatchesUp}
use Rattle.law_refine.specs.Below.fkv_session.Sessions.{SessionState}
use Rattle.law_refine.specs.Below.fkv_world.Opened.{HasBecome}
use Rattle.law_refine.specs.Below.fkv_world.Runs.{World}
use Rattle.law_refine.specs.Below.fkv_world.World.{Event}
use Rattle.law_refine.specs.Below.law_world.Guarded.Shows as guard
use Rattle.law_commit.specs.Floor.Stands.{OpensSeen}

-- it has loaded what it takes up
abbrev pub HasLoaded : Catching → Type 0
HasLoaded Refreshes = ⊥
HasLoaded Protects = ⊥
HasLoaded step = ⊤

-- What a live session takes up is of the version by which it went, or it went by prepare. So none goes on to the next version without having taken up prepare.
abbrev pub LeavesFromPrepare : Type 0
LeavesFromPrepare =
    (opening : World) (start : ℕ) (events : List Event) (session : ℕ) (first its : SessionState) (cause : CatchCause) → guard.IsOpened opening.now start → OpensSeen opening.now → HasBecome opening events session first its
    → its.is_awake ≡ true → its.step ≡ CatchesUp cause → HasLoaded its.catching.step → (its.catching.seen.version.0 ≡ its.seen.version.0) ⊎ (is_prepare its.seen.phase ≡ true)
