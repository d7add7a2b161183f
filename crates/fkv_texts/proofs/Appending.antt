-- Texts that are written one after another.
use Rattle.std.proofs.Common.{◌≡◌, ℕ, ◌+◌, ◌<◌, ◌≤◌, List, [], ◌++◌, sym, ap, subst, ◌∙◌, append_assoc, append-nil, Option, Some, None, drop, get_or, length, add-one}
use Rattle.std.proofs.Math.Seq.{drop-cons}
use Rattle.std.proofs.lemmas.List.{drop_all}
use Rattle.std.specs.List.{flat_map}
use Rattle.std.specs.Io.KnownBytes.{Appends}

pub appends_both : (a b c : Option (List ℕ)) (x y : List ℕ) → Appends a b x → Appends b c y → Appends a c (x ++ y)
appends_both None b c x y h k = tt
appends_both (Some a) None c x y h k = absurd h
appends_both (Some a) (Some b) None x y h k = absurd k
appends_both (Some a) (Some b) (Some c) x y h k = k ∙ ap (λ xs. xs ++ y) h ∙ append_assoc a x y

pub appends_three : (a b c d : Option (List ℕ)) (x y z all : List ℕ) → Appends a b x → Appends b c y → Appends c d z → x ++ (y ++ z) ≡ all → Appends a d all
appends_three a b c d x y z all h k l e = subst (λ (text : List ℕ). Appends a d text) e (appends_both a b d x (y ++ z) h (appends_both b c d y z k l))

pub appends_nothing : (a : Option (List ℕ)) → Appends a a []
appends_nothing None = tt
appends_nothing (Some a) = sym (append-nil a)

-- what is written so far and what the rest gives is all: so it is after the next one too
pub rest_joined : {X : Type 0} (f : X → List ℕ) (xs : List X) (i : ℕ) (d : X) (text all : List ℕ) → i < length xs → text ++ flat_map f (drop i xs) ≡ all → (text ++ f (get_or xs i d)) ++ flat_map f (drop (i + 1) xs) ≡ all
rest_joined f xs i d text all h e =
    append_assoc text (f (get_or xs i d)) (flat_map f (drop (i + 1) xs))
    ∙ ap (λ rest. text ++ rest) (ap (λ n. f (get_or xs i d) ++ flat_map f (drop n xs)) (add-one i) ∙ sym (ap (flat_map f) (drop-cons xs i d h)))
    ∙ e

-- where no rest is left, what is written is all
pub rest_is_nothing : {X : Type 0} (f : X → List ℕ) (xs : List X) (i : ℕ) (text all : List ℕ) → length xs ≤ i → text ++ flat_map f (drop i xs) ≡ all → text ≡ all
rest_is_nothing f xs i text all h e = sym (append-nil text) ∙ ap (λ rest. text ++ flat_map f rest) (sym (drop_all i xs h)) ∙ e
