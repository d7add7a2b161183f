-- The events of one step of an actor: the first is the actor's, or nobody's, and each other one writes no word. The keeper has two actors.
use Rattle.std.proofs.Common.{◌≡◌, ◌≢◌, ◌<◌, ◌≤◌, ℕ, List, [], ◌∷◌, refl, arith, ◌⊎◌, inl, inr, Bool, true, false}
use Rattle.std.specs.Prelude.{⊤, Some, if◌then◌else◌}
use Rattle.fkv_epoch.proofs.Shown.{some_same, none_some}
use Rattle.fkv_flush.specs.GuardCalm.{IsOther, AreOther}
use Rattle.fkv_flush.specs.GuardFlushed.{FlushesAlone, OneFlushes}
use Rattle.fkv_flush.specs.Guarded.{IsPermittedEvent, ArePermittedEvents}
use Rattle.fkv_flush.specs.GuardWorld.{GuardNow, GuardWorld, GuardEvent, Begins, Resumes, Publishes, Updates, CallsElse, ToFlush, guard_run}
use Rattle.fkv_disk.specs.Calls.{Call}

abbrev pub IsOwn : ℕ → GuardEvent → Type 0
IsOwn a event = (b : ℕ) → a ≢ b → IsOther event b

-- what only begins a machine, or lets one go on, or publishes a record
abbrev pub IsQuiet : GuardEvent → Type 0
IsQuiet (Begins actor task) = ⊤
IsQuiet (Resumes actor) = ⊤
IsQuiet (Publishes session) = ⊤
IsQuiet event = ⊥

pub record Comes (P : GuardEvent → Type 0) (a : ℕ) (event : GuardEvent) (before : List GuardEvent) : Type 0 where
  pub place : IsQuiet event ⊎ ((before ≡ []) × IsOwn a event)
  -- and so is each event of the step
  pub its : P event

abbrev pub IsStepOf : (GuardEvent → Type 0) → ℕ → List GuardEvent → Type 0
IsStepOf P a [] = ⊤
IsStepOf P a (event ∷ before) = Comes P a event before × IsStepOf P a before

-- the event is none of another actor, where both aren't the keeper's
abbrev pub IsApart : ℕ → ℕ → ℕ → Type 0
IsApart keeper a b = (a < keeper) ⊎ (b < keeper)

abbrev pub IsNear : ℕ → ℕ → GuardEvent → Type 0
IsNear keeper a event = (b : ℕ) → a ≢ b → IsApart keeper a b → IsOther event b

-- and nobody but the keeper begins to flush
abbrev pub IsStep : ℕ → ℕ → List GuardEvent → Type 0
IsStep keeper a events = IsStepOf (λ (event : GuardEvent). IsNear keeper a event × FlushesAlone keeper event) a events

-- what the keeper makes: its first actor alone flushes, and nothing is changed in place
abbrev pub OfKeeper : ℕ → GuardEvent → Type 0
OfKeeper k (Begins actor ToFlush) = actor ≡ k
OfKeeper k (Updates session addr word) = ⊥
OfKeeper k event = ⊤

-- an event of one of its actors, or nobody's
abbrev pub OfKeepers : ℕ → ℕ → GuardEvent → Type 0
OfKeepers k a event = IsNear k a event × OfKeeper k event

keeper_alone : (k : ℕ) (event : GuardEvent) → OfKeeper k event → FlushesAlone k event
keeper_alone k (Begins actor ToFlush) its = its
keeper_alone k event its = tt

keeper_owes_none : (n : GuardNow) (k : ℕ) (event : GuardEvent) → OfKeeper k event → IsPermittedEvent n event
keeper_owes_none n k (Updates session addr word) its = absurd its
keeper_owes_none n k event its = tt

pub keeper_step : (k a : ℕ) (events : List GuardEvent) → IsStepOf (OfKeepers k a) a events → IsStep k a events
keeper_step k a [] s = tt
keeper_step k a (event ∷ before) s = (record { place = s.0.place; its = (s.0.its.0, keeper_alone k event s.0.its.1) }, keeper_step k a before s.1)

pub keeper_is_permitted : (w : GuardWorld) (k a : ℕ) (events : List GuardEvent) → IsStepOf (OfKeepers k a) a events → ArePermittedEvents w events
keeper_is_permitted w k a [] s = tt
keeper_is_permitted w k a (event ∷ before) s = (keeper_owes_none (guard_run w before).now k event s.0.its.1, keeper_is_permitted w k a before s.1)

-- they are none of another actor
pub of_others : (keeper a : ℕ) (events : List GuardEvent) → IsStep keeper a events → (b : ℕ) → a ≢ b → IsApart keeper a b → AreOther events b
of_others keeper a [] s b other apart = tt
of_others keeper a (event ∷ before) s b other apart = (s.0.its.0 b other apart, of_others keeper a before s.1 b other apart)

pub mine : (a b : ℕ) → a ≢ b → Some a ≢ Some b
mine a b other e = other (some_same a b e)

-- nor is an event of the keeper's other actor
pub beside : (k a c b : ℕ) → k ≤ a → k ≤ c → a ≢ b → IsApart k a b → Some c ≢ Some b
beside k a c b low lower other (inl below) e = absurd (omega (arith, low, below))
beside k a c b low lower other (inr below) e = let same : c ≡ b = some_same c b e in absurd (omega (arith, lower, below, same))

-- and nobody else of them begins to flush
pub flush_alone : (keeper a : ℕ) (events : List GuardEvent) → IsStep keeper a events → OneFlushes keeper events
flush_alone keeper a [] s = tt
flush_alone keeper a (event ∷ before) s = (s.0.its.1, flush_alone keeper a before s.1)

-- an actor's own event is near it
pub own_near : (keeper a : ℕ) (event : GuardEvent) → IsOwn a event → IsNear keeper a event
own_near keeper a event own = λ b other apart. own b other

pub one_of : (k a : ℕ) (event : GuardEvent) → IsOwn a event → OfKeeper k event → IsStepOf (OfKeepers k a) a (event ∷ [])
one_of k a event own its = (record { place = inr (refl, own); its = (own_near k a event own, its) }, tt)

pub then_quiet_of : (k a : ℕ) (event : GuardEvent) (before : List GuardEvent) → IsNear k a event → IsQuiet event → OfKeeper k event → IsStepOf (OfKeepers k a) a before → IsStepOf (OfKeepers k a) a (event ∷ before)
then_quiet_of k a event before near quiet its s = (record { place = inl quiet; its = (near, its) }, s)

pub then_own : (k a : ℕ) (event : GuardEvent) (before : List GuardEvent) → IsOwn a event → IsQuiet event → OfKeeper k event → IsStepOf (OfKeepers k a) a before → IsStepOf (OfKeepers k a) a (event ∷ before)
then_own k a event before own quiet its s = then_quiet_of k a event before (own_near k a event own) quiet its s

pub by_test_of : (P : GuardEvent → Type 0) (a : ℕ) (b : Bool) (events others : List GuardEvent) → IsStepOf P a events → IsStepOf P a others → IsStepOf P a (if b then events else others)
by_test_of P a true events others s t = s
by_test_of P a false events others s t = t

pub one : (keeper a : ℕ) (event : GuardEvent) → IsOwn a event → FlushesAlone keeper event → IsStep keeper a (event ∷ [])
one keeper a event own alone = (record { place = inr (refl, own); its = (own_near keeper a event own, alone) }, tt)

pub then_quiet : (keeper a : ℕ) (event : GuardEvent) (before : List GuardEvent) → IsOwn a event → IsQuiet event → FlushesAlone keeper event → IsStep keeper a before → IsStep keeper a (event ∷ before)
then_quiet keeper a event before own quiet alone s = (record { place = inl quiet; its = (own_near keeper a event own, alone) }, s)

pub nobodys : (k a : ℕ) (call : Call) → IsStepOf (OfKeepers k a) a (CallsElse call ∷ [])
nobodys k a call = one_of k a (CallsElse call) (λ b other e. none_some b e) tt

pub by_test : (keeper a : ℕ) (b : Bool) (events others : List GuardEvent) → IsStep keeper a events → IsStep keeper a others → IsStep keeper a (if b then events else others)
by_test keeper a b events others s t = by_test_of (λ (event : GuardEvent). IsNear keeper a event × FlushesAlone keeper event) a b events others s t
