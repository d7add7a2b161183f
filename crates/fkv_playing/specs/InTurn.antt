-- Parts of a play, one behind the other.
use Rattle.std.specs.Prelude.{◌≡◌, ℕ, List, [], ◌∷◌, ◌++◌, Option}
use Rattle.std.specs.Io.KnownBytes.{Appends}

-- From one state to another these parts lead, in their order, each from what the one before it left, and what they write stands one behind the other. Behind
-- each but the last the play goes on, as this outcome says; the last has this one. No parts leave all as it is.
abbrev pub InTurn : {Part State Outcome : Type 0} → (Part → State → State → Outcome → List ℕ → Type 0) → Outcome → List Part → State → State → Outcome → List ℕ → Type 0
InTurn Its goes_on [] before after outcome text = (after ≡ before) × (outcome ≡ goes_on) × (text ≡ [])
InTurn Its goes_on (part ∷ []) before after outcome text = Its part before after outcome text
InTurn {Part} {State} {Outcome} Its goes_on (part ∷ next ∷ later) before after outcome text =
    (between : State) × (first : List ℕ) × (rest : List ℕ) × Its part before between goes_on first
    × InTurn Its goes_on (next ∷ later) between after outcome rest × (text ≡ first ++ rest)

-- something is written, which is a text of this kind
abbrev pub Writes : (List ℕ → Type 0) → Option (List ℕ) → Option (List ℕ) → Type 0
Writes Its before after = (text : List ℕ) × Its text × Appends before after text
