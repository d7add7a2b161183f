-- Words that spell numbers, and sizes.
use Rattle.std.proofs.Common.{◌≡◌, ◌∙◌, ◌<◌, ℕ, Bor, List, [], Option, Some, None, IsSomeAnd, ap, get_or, length, option_map, sym, subst, unwrap_or}
use Rattle.std.proofs.lemmas.Option.{slice_get-get_or, slice_get-map}
use Rattle.clap.specs.Walk.{Text, texts}
use Rattle.fkv_base.specs.declared.classes.StoreClass.TheVariants.{Specified, Living}
use Rattle.fkv_lines.specs.declared.scripts.Sizes.{Sizes}
use Rattle.fkv_renew.specs.Asked.{AreAskedSizes, AreSizesOf, IsSpelledAt, Spells}

-- where a word spells no number, its place spells none
pub spells_none : (words : List (Bor Text)) (place : ℕ) (other : Bor Text) → ((n : ℕ) → Spells (get_or words place other).now n → ⊥) → place < length words → (n : ℕ) → IsSpelledAt (texts words) place n → ⊥
spells_none words place other never within n h =
    let there = slice_get-map (λ (w : Bor Text). w.now) words place ∙ ap (option_map (λ (w : Bor Text). w.now)) (slice_get-get_or words place other within) in
    never n (subst (λ (t : Text). Spells t n) (ap (λ (o : Option Text). unwrap_or o []) (sym h.1 ∙ there)) h.2)

nothing : {X : Type 0} {P : X → Type 0} (o : Option X) → ((x : X) → P x → ⊥) → IsSomeAnd o P → ⊥
nothing None never h = absurd h
nothing (Some x) never h = never x h

-- where the words of one option spell no sizes, none are asked for
pub none_small : (small large : Option (List Text)) (words : List Text) → small ≡ Some words → large ≡ None → ((sizes : Sizes) → AreSizesOf Specified words sizes → ⊥) → (sizes : Option Sizes) → AreAskedSizes small large sizes → ⊥
none_small small large words here there never sizes h =
    nothing sizes never (subst (λ (o : Option (List Text)). AreAskedSizes o None sizes) here (subst (λ (o : Option (List Text)). AreAskedSizes small o sizes) there h))

pub none_large : (small large : Option (List Text)) (words : List Text) → small ≡ None → large ≡ Some words → ((sizes : Sizes) → AreSizesOf Living words sizes → ⊥) → (sizes : Option Sizes) → AreAskedSizes small large sizes → ⊥
none_large small large words there here never sizes h =
    nothing sizes never (subst (λ (o : Option (List Text)). AreAskedSizes None o sizes) here (subst (λ (o : Option (List Text)). AreAskedSizes o large sizes) there h))
