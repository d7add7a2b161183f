-- Whose answer comes.
use Rattle.std.specs.Prelude.{◌≡◌, ⊤, ◌∷◌, Option, Some, None}
use Rattle.law_opening.specs.Below.fkv_core.Actor.{Actor}
use Rattle.law_opening.specs.Below.fkv_core.Actor.TheVariants.{Session, Keeper}
use Rattle.law_opening.specs.Below.fkv_core.TheTold.{Told}
use Rattle.law_opening.specs.Below.fkv_core.TheTold.TheVariants as told
use Rattle.law_opening.specs.Below.fkv_core.Lives.{answers_of}
use Rattle.law_opening.specs.Below.fkv_world.Past.{TraceEvent, Answered, KeeperAnswered}
use Rattle.law_opening.specs.Below.fkv_world.Runs.{World}

-- an answer of the trace is to a call of this actor
abbrev pub IsAnswerOf : Actor → TraceEvent → Type 0
IsAnswerOf (Session number) (Answered session its) = session ≡ number
IsAnswerOf Keeper (KeeperAnswered its last) = ⊤
IsAnswerOf actor its = ⊥

-- the trace gets one answer, to a call of this actor
abbrev pub GetsAnswer : Actor → World → World → Type 0
GetsAnswer actor before after = (its : TraceEvent) × (answers_of after.past.trace ≡ its ∷ answers_of before.past.trace) × IsAnswerOf actor its

-- what is told is an answer to a call of this actor
abbrev pub IsToldOf : Actor → Told → Type 0
IsToldOf (Session number) (told.Session session answer) = session ≡ number
IsToldOf Keeper (told.Commit its) = ⊤
IsToldOf Keeper (told.Turn its) = ⊤
IsToldOf actor its = ⊥

-- such an answer is told
abbrev pub TellsAnswer : Actor → Option Told → Type 0
TellsAnswer actor None = ⊥
TellsAnswer actor (Some its) = IsToldOf actor its
