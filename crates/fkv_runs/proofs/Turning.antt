-- Parts of a play, one behind the other, of a list that is read.
use Rattle.std.proofs.Common.{◌≡◌, ℕ, ◌+◌, ◌<◌, List, ◌++◌, Option, length, get_or, take, subst, sym}
use Rattle.fkv_playing.specs.InTurn.{InTurn, Writes}
use Rattle.std.proofs.lemmas.List.{take_more}
use Rattle.fkv_playing.proofs.Shown.{one_more}
pub use Rattle.fkv_playing.proofs.Shown.{next_taken, none_written, one_more_written}

-- what the next part writes that was read comes behind what those before it have written
pub next_read : {Part State Outcome : Type 0} (Its : Part → State → State → Outcome → List ℕ → Type 0) (goes_on : Outcome) (parts : List Part) (count : ℕ) (part : Part)
    (before between after : State) (outcome : Outcome) (a b c : Option (List ℕ)) → count < length parts → part ≡ get_or parts count part
    → Writes (InTurn Its goes_on (take count parts) before between goes_on) a b → Writes (Its part between after outcome) b c
    → Writes (InTurn Its goes_on (take (count + 1) parts) before after outcome) a c
next_read {Part} Its goes_on parts count part before between after outcome a b c below read h k =
    next_taken Its goes_on parts count part before between after outcome a b c below h (subst (λ (it : Part). Writes (Its it between after outcome) b c) read k)

-- of a list of parts the next one comes
pub next_played : {Part State Outcome : Type 0} (Its : Part → State → State → Outcome → List ℕ → Type 0) (goes_on : Outcome) (parts : List Part) (count : ℕ) (part : Part)
    (before between after : State) (outcome : Outcome) (said more : List ℕ) → count < length parts → part ≡ get_or parts count part
    → InTurn Its goes_on (take count parts) before between goes_on said → Its part between after outcome more
    → InTurn Its goes_on (take (count + 1) parts) before after outcome (said ++ more)
next_played {Part} Its goes_on parts count part before between after outcome said more below read h k =
    subst (λ (its : List Part). InTurn Its goes_on its before after outcome (said ++ more)) (sym (take_more parts count part below))
    (one_more Its goes_on (take count parts) (get_or parts count part) before between after outcome said more h (subst (λ (it : Part). Its it between after outcome more) read k))
