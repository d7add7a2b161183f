-- Parts of a play, one behind the other.
use Rattle.std.proofs.Common.{ℕ, ◌+◌, ◌<◌, List, [], ◌∷◌, ◌++◌, Option, length, get_or, take, replicate, refl, sym, ap, subst, ◌∙◌, append_assoc}
use Rattle.std.proofs.lemmas.List.{replicate_more, take_more}
use Rattle.fkv_playing.specs.InTurn.{InTurn, Writes}
use Rattle.fkv_texts.proofs.Shown.{appends_both, appends_nothing}

-- behind parts that go on comes one more
pub one_more : {Part State Outcome : Type 0} (Its : Part → State → State → Outcome → List ℕ → Type 0) (goes_on : Outcome) (parts : List Part) (part : Part)
    (before between after : State) (outcome : Outcome) (said more : List ℕ)
    → InTurn Its goes_on parts before between goes_on said → Its part between after outcome more → InTurn Its goes_on (parts ++ part ∷ []) before after outcome (said ++ more)
one_more {Part} {State} {Outcome} Its goes_on [] part before between after outcome said more h k =
    let its : Its part before after outcome more = subst (λ (state : State). Its part state after outcome more) h.0 k in
    subst (λ (text : List ℕ). Its part before after outcome (text ++ more)) (sym h.2) its
one_more Its goes_on (first ∷ []) part before between after outcome said more h k = (between, said, more, h, k, refl)
one_more Its goes_on (first ∷ next ∷ later) part before between after outcome said more h k = (
  h.0,
  h.1,
  h.2 ++ more,
  h.3,
  one_more Its goes_on (next ∷ later) part h.0 between after outcome h.2 more h.4 k,
  ap (λ (text : List ℕ). text ++ more) h.5 ∙ append_assoc h.1 h.2 more,
)

-- no parts write nothing
pub none_written : {Part State Outcome : Type 0} (Its : Part → State → State → Outcome → List ℕ → Type 0) (goes_on : Outcome) (state : State) (known : Option (List ℕ))
    → Writes (InTurn Its goes_on [] state state goes_on) known known
none_written Its goes_on state known = ([], (refl, refl, refl), appends_nothing known)

-- and what the one more writes comes behind what those have written
pub one_more_written : {Part State Outcome : Type 0} (Its : Part → State → State → Outcome → List ℕ → Type 0) (goes_on : Outcome) (parts : List Part) (part : Part)
    (before between after : State) (outcome : Outcome) (a b c : Option (List ℕ))
    → Writes (InTurn Its goes_on parts before between goes_on) a b → Writes (Its part between after outcome) b c
    → Writes (InTurn Its goes_on (parts ++ part ∷ []) before after outcome) a c
one_more_written Its goes_on parts part before between after outcome a b c h k =
    (h.0 ++ k.0, one_more Its goes_on parts part before between after outcome h.0 k.0 h.1 k.1, appends_both a b c h.0 k.0 h.2 k.2)

-- behind a first part and so many alike comes one more like those
pub one_more_alike : {Part State Outcome : Type 0} (Its : Part → State → State → Outcome → List ℕ → Type 0) (goes_on : Outcome) (first part : Part) (count : ℕ)
    (before between after : State) (outcome : Outcome) (a b c : Option (List ℕ))
    → Writes (InTurn Its goes_on (first ∷ replicate count part) before between goes_on) a b → Writes (Its part between after outcome) b c
    → Writes (InTurn Its goes_on (first ∷ replicate (count + 1) part) before after outcome) a c
one_more_alike {Part} Its goes_on first part count before between after outcome a b c h k =
    subst (λ (parts : List Part). Writes (InTurn Its goes_on (first ∷ parts) before after outcome) a c) (replicate_more count part)
    (one_more_written Its goes_on (first ∷ replicate count part) part before between after outcome a b c h k)

-- of a list of parts the next one comes
pub next_taken : {Part State Outcome : Type 0} (Its : Part → State → State → Outcome → List ℕ → Type 0) (goes_on : Outcome) (parts : List Part) (count : ℕ) (d : Part)
    (before between after : State) (outcome : Outcome) (a b c : Option (List ℕ)) → count < length parts
    → Writes (InTurn Its goes_on (take count parts) before between goes_on) a b → Writes (Its (get_or parts count d) between after outcome) b c
    → Writes (InTurn Its goes_on (take (count + 1) parts) before after outcome) a c
next_taken {Part} Its goes_on parts count d before between after outcome a b c below h k =
    subst (λ (its : List Part). Writes (InTurn Its goes_on its before after outcome) a c) (sym (take_more parts count d below))
    (one_more_written Its goes_on (take count parts) (get_or parts count d) before between after outcome a b c h k)
