-- What a step of the engine is to the guard: what the actor does, and then what it begins or lets go on.
use Rattle.std.specs.Prelude.{◌≡◌, ⊤, ℕ, false, List, [], ◌∷◌, Option, Some, None}
use Rattle.fkv_plane.specs.declared.asks.Ask.{Ask}
use Rattle.fkv_plane.specs.declared.places.Places.{Places}
use Rattle.fkv_plane.specs.Asked.{asked, word_at}
use Rattle.fkv_flush.specs.GuardAsks.{writes}
use Rattle.fkv_flush.specs.GuardWorld.{GuardTask, GuardEvent, Begins, Resumes, Changes, is_guarded}

-- behind its step the actor's machine stays as the step leaves it, or the actor begins one, or lets its refresh go on
pub data Onward : Type 0 where
  Stays : Onward
  Starts : GuardTask → Onward
  GoesOn : Onward

abbrev pub onward_events : ℕ → Onward → List GuardEvent
onward_events number Stays = []
onward_events number (Starts task) = Begins number task ∷ []
onward_events number GoesOn = Resumes number ∷ []

-- the change of the word that an ask may write, if only to what it was
abbrev pub changed_at : ℕ → List ℕ → Option ℕ → (ℕ → ℕ) → List GuardEvent
changed_at number words None f = []
changed_at number words (Some place) f = Changes number place (f (word_at words place)) ∷ []

-- an ask of a word that is none of the guard's
abbrev pub outer_events : {A : Type 0} → ℕ → List ℕ → Ask A → List GuardEvent
outer_events number words ask = changed_at number words (writes ask) (asked ask)

-- the word that an ask may write is none of the guard's
abbrev pub IsOuterPlace : Places → Option ℕ → Type 0
IsOuterPlace p None = ⊤
IsOuterPlace p (Some place) = is_guarded p place ≡ false

abbrev pub IsOuter : {A : Type 0} → Places → Ask A → Type 0
IsOuter p ask = IsOuterPlace p (writes ask)
