-- What no event lets fall, and whose epoch word an event may change.
use Rattle.std.specs.Prelude.{◌≡◌, ◌≢◌, ℕ, ◌<◌, ◌≤◌, List, [], ◌∷◌, Option, Some, None, ⊤}
use Rattle.fkv_epoch.specs.EpochWorld.{epoch_of, safe_of, own_epoch}
use Rattle.fkv_flush.specs.GuardLevels.{levels_of, Rises}
use Rattle.fkv_flush.specs.GuardWorld.{GuardEvent, Begins, Resumes, Moves, Calls, Reads, Sees, Publishes, Updates, RaisesReadOnly, RaisesFor, Changes, CallsElse}

-- the actor whose event it is
abbrev pub actor_of : GuardEvent → Option ℕ
actor_of (Begins actor task) = Some actor
actor_of (Resumes actor) = Some actor
actor_of (Moves actor) = Some actor
actor_of (Calls actor done) = Some actor
actor_of (Reads actor bytes) = Some actor
actor_of (Sees session sight) = Some session
actor_of (Publishes session) = Some session
actor_of (Updates session addr word) = Some session
actor_of (RaisesReadOnly actor to) = Some actor
actor_of (RaisesFor actor action) = Some actor
actor_of (Changes actor place word) = Some actor
actor_of (CallsElse call) = None

-- the event is not one of this actor
abbrev pub IsOther : GuardEvent → ℕ → Type 0
IsOther event actor = actor_of event ≢ Some actor

-- no event of the list is one of this actor
abbrev pub AreOther : List GuardEvent → ℕ → Type 0
AreOther [] actor = ⊤
AreOther (event ∷ before) actor = IsOther event actor × AreOther before actor

-- No offset falls, nor the epoch, nor the safe epoch; and the epoch word of a session that does nothing itself stays.
pub record IsCalm (sessions : ℕ) (DoesNothing : ℕ → Type 0) (words words' : List ℕ) : Type 0 where
  pub offsets : Rises (levels_of words) (levels_of words')
  pub epoch : epoch_of words ≤ epoch_of words'
  pub safe_epoch : safe_of words ≤ safe_of words'
  pub others : (session : ℕ) → session < sessions → DoesNothing session → own_epoch words' session ≡ own_epoch words session
