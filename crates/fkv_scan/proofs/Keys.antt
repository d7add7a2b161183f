-- Maps by numbers: what a test of keys says.
use Rattle.std.proofs.Common.{◌≡◌, ◌⊎◌, inl, inr, ⊎_elim, ℕ, Bool, true, false, cond, Option, Some, None, refl, sym, ap, ◌∙◌}
use Rattle.std.specs.Ordering.{nat_cmp, is_eq}
use Rattle.std.specs.declared.cmp.Ordering.{Ordering}
use Rattle.std.specs.declared.cmp.Ordering.TheVariants.{Less, Equal, Greater}
use Rattle.std.specs.Cmp.{nat_cmp_is}
use Rattle.std.proofs.lemmas.Map.Lookups.{exact_unsigned}
use Rattle.std.specs.Option.{is_some}

pub bool_is : (b : Bool) → (b ≡ true) ⊎ (b ≡ false)
bool_is true = inl refl
bool_is false = inr refl

equal_of : (o : Ordering) → is_eq o ≡ true → o ≡ Equal
equal_of Less same = absurd (cc)
equal_of Equal same = refl
equal_of Greater same = absurd (cc)

pub is_same : (h q : ℕ) → is_eq (nat_cmp h q) ≡ true → h ≡ q
is_same h q same = exact_unsigned h q (equal_of (nat_cmp h q) same)

pub at_itself : (h : ℕ) → is_eq (nat_cmp h h) ≡ true
at_itself h = ap is_eq (sym (nat_cmp_is h h Equal refl))

pub at_same : (h q : ℕ) → h ≡ q → is_eq (nat_cmp h q) ≡ true
at_same h q same = ap (λ n. is_eq (nat_cmp h n)) (sym same) ∙ at_itself h

pub some_is : {X : Type 0} (new x : X) → Some new ≡ Some x → new ≡ x
some_is new x is = cc

-- after a key got a value, each key has that or what it had
got_by : {X : Type 0} (b : Bool) (new : X) (was : Option X) (x : X) → cond b (Some new) was ≡ Some x → ((b ≡ true) × (new ≡ x)) ⊎ (was ≡ Some x)
got_by true new was x is = inl (refl, some_is new x is)
got_by false new was x is = inr is

pub got : {X : Type 0} (h q : ℕ) (new : X) (was : Option X) (x : X) → cond (is_eq (nat_cmp h q)) (Some new) was ≡ Some x → ((h ≡ q) × (new ≡ x)) ⊎ (was ≡ Some x)
got h q new was x is = ⊎_elim (λ this. inl (is_same h q this.0, this.1)) inr (got_by (is_eq (nat_cmp h q)) new was x is)

-- and a key that had one has one
kept_by : {X : Type 0} (b : Bool) (new : X) (was : Option X) → is_some was ≡ true → is_some (cond b (Some new) was) ≡ true
kept_by true new was had = refl
kept_by false new was had = had

pub kept_some : {X : Type 0} (h q : ℕ) (new : X) (was : Option X) → is_some was ≡ true → is_some (cond (is_eq (nat_cmp h q)) (Some new) was) ≡ true
kept_some h q new was had = kept_by (is_eq (nat_cmp h q)) new was had

pub new_some : {X : Type 0} (h q : ℕ) (new : X) (was : Option X) → h ≡ q → is_some (cond (is_eq (nat_cmp h q)) (Some new) was) ≡ true
new_some h q new was same = ap (λ b. is_some (cond b (Some new) was)) (at_same h q same)

pub some_of : {X : Type 0} (o : Option X) → is_some o ≡ true → (x : X) × (o ≡ Some x)
some_of (Some x) is = (x, refl)
some_of None is = absurd (cc)
