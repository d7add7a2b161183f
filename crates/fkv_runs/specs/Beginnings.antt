-- What is written where a run breaks off.
use Rattle.std.specs.Prelude.{◌≡◌, ◌⊎◌, ℕ, List, [], ◌++◌, Option}
use Rattle.fkv_playing.specs.InTurn.{Writes}

-- nothing, or a beginning of a text of this kind
abbrev pub IsBeginning : (List ℕ → Type 0) → List ℕ → Type 0
IsBeginning Its text = (text ≡ []) ⊎ ((rest : List ℕ) × Its (text ++ rest))

-- nothing is written, or a beginning of a text of this kind
abbrev pub BreaksOff : (List ℕ → Type 0) → Option (List ℕ) → Option (List ℕ) → Type 0
BreaksOff Its before after = Writes (IsBeginning Its) before after
