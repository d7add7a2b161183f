-- What holds of every spelling.
use Rattle.std.proofs.Common.{◌≡◌, Some, sym, ap, subst, ◌∙◌}
use Rattle.fkv_words.specs.Fields.{Reads, SpellsApart}

-- two values of the same parts are one, since of each fact that they keep there is one proof
pub same_made : {A B : Type 0} {P : A → Type 0} (mk : (a : A) → P a → B) → ((a : A) → IsProp (P a)) → (a b : A) (p : P a) (q : P b) → a ≡ b → mk a p ≡ mk b q
same_made {A} {B} {P} mk prop a b p q e =
    let F : A → Type 0 = λ c. (r : P c) → mk a p ≡ mk c r in
    subst F e (λ r. ap (mk a) (prop a p r)) q

-- a value whose spelling stands there is the one that is read
pub reads_made : {A B : Type 0} (spelling : A → B) → SpellsApart spelling → (made : A) (given : B) → spelling made ≡ given → Reads spelling given (Some made)
reads_made spelling apart made given e x =
    (λ s. let same : made ≡ x = cc in ap spelling (sym same) ∙ e, λ h. ap Some (apart made x (e ∙ sym h)))
