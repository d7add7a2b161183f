-- Two steps of a table are one, if the first leaves the word as it was.
use Rattle.std.proofs.Common.{◌≡◌, ℕ, ◌<◌, refl, sym, ap, subst, ◌∙◌, ⊎_elim, Bool, List, [], ◌∷◌, length, set, get_or, length-set, ne_eqb, zero, suc}
use Rattle.std.specs.Prelude.{◌==◌}
use Rattle.std.proofs.lemmas.List.{set-get_or}
use mathlib.Core.Option.{some}
use mathlib.Core.Option as maybe
use prog.Atomic.{either}
use lib.ListN.{get_elem?}
use Rattle.atomic_table.specs.Table.{State, Me, Act, keeps, takes, gives, chain, homes_after, carried_after, Valid, stepped, Allows}
use Rattle.atomic_table.proofs.Lists.{set_again}
use Rattle.fkv_seats.proofs.Keeps.{at_here, same_or}

set_twice : {A : Type 0} (l : List A) (i : ℕ) (a b : A) → set (set l i a) i b ≡ set l i b
set_twice [] i a b = refl
set_twice (x ∷ xs) zero a b = refl
set_twice (x ∷ xs) (suc i) a b = ap (λ (l : List _). x ∷ l) (set_twice xs i a b)

-- an act leaves as many homes as there were
as_many : {S : Type 0} (homes : List (maybe.Option S)) (c : List (ℕ × S)) (a : Act S) → length (homes_after homes c a) ≡ length homes
as_many homes c keeps = refl
as_many homes c (takes k y) = length-set homes k _
as_many homes [] gives = refl
as_many homes (x ∷ xs) gives = length-set homes x.0 _
as_many homes c (chain a b) = as_many (homes_after homes c a) (carried_after c a) b ∙ as_many homes c a

-- what a step tells, of the number found and of the seat behind it
abbrev pub Then : (S V : Type 0) → Type 1
Then S V = ℕ → Me S V → Type 0

module _ {S V : Type 0} where
  -- what both steps tell, where the word is the old one, and else nothing
  abbrev pub Both : ℕ → Then S V → (Me S V → Then S V) → Me S V → Then S V
  Both old first second me n me' = (n ≡ old → (between : Me S V) × first n between × second between n me') × ((n ≡ old → ⊥) → me' ≡ me)

  module _ (holds : State S V → Type 0) (slots id : ℕ) (me : Me S V) (i old new : ℕ) (first : Then S V) (second : Me S V → Then S V) (loads : Allows holds slots id me i (λ n. n) first)
      (changes : (between : Me S V) → first old between → Allows holds slots id between i (λ n. either (n == old) new n) (second between)) where
    abbrev Goal : State S V → Type 0
    Goal s = (w : V) × (a : Act S) × Valid s.homes me.1 a × holds (stepped s i (either (get_or s.words i 0 == old) new (get_or s.words i 0)) id me.1 w a) × Both old first second me (get_or s.words i 0) (w, carried_after me.1 a)

    -- the word is as it was
    same_word : (s : State S V) → set s.words i (get_or s.words i 0) ≡ s.words
    same_word s = set-get_or s.words i 0

    raised : (s : State S V) → holds s → length s.homes ≡ slots → get_elem? s.views id ≡ some me.0 → get_or s.words i 0 < 18446744073709551616 → get_or s.words i 0 ≡ old → Goal s
    raised s h l at small is =
        let n : ℕ = get_or s.words i 0 in
        let one = loads s h l at small in
        let s1 : State S V = stepped s i n id me.1 one.0 one.1 in
        let between : Me S V = (one.0, carried_after me.1 one.1) in
        let found : get_or s1.words i 0 ≡ n = ap (λ (ws : List ℕ). get_or ws i 0) (same_word s) in
        let two = changes between (subst (λ (m : ℕ). first m between) is one.4) s1 one.3 (as_many s.homes me.1 one.1 ∙ l) (at_here s.views id one.0 me.0 at) (subst (λ (m : ℕ). m < 18446744073709551616) (sym found) small) in (
          two.0,
          chain one.1 two.1,
          (one.2, two.2),
          subst (λ (x : State S V). holds x)
              (λ k. record {
                words = (ap (λ (m : ℕ). set s1.words i (either (m == old) new m)) found ∙ set_twice s.words i n (either (n == old) new n)) k;
                homes = homes_after s1.homes between.1 two.1;
                views = set_twice s.views id one.0 two.0 k;
              })
              two.3,
          ((λ _. (between, one.4, subst (λ (m : ℕ). second between m (two.0, carried_after between.1 two.1)) found two.4)), (λ other. absurd (other is))),
        )

    left : (s : State S V) → holds s → get_elem? s.views id ≡ some me.0 → (get_or s.words i 0 ≡ old → ⊥) → Goal s
    left s h at other =
        let n : ℕ = get_or s.words i 0 in
        let no : either (n == old) new n ≡ n = ap (λ (b : Bool). either b new n) (ne_eqb n old other) in (
          me.0,
          keeps,
          tt,
          subst (λ (x : State S V). holds x)
              (λ k. record {
                words = sym (ap (λ (m : ℕ). set s.words i m) no ∙ same_word s) k;
                homes = s.homes;
                views = sym (set_again s.views id me.0 at) k;
              })
              h,
          ((λ is. absurd (other is)), (λ _. refl)),
        )

    pub both : Allows holds slots id me i (λ n. either (n == old) new n) (Both old first second me)
    both s h l at small = ⊎_elim (raised s h l at small) (left s h at) (same_or (get_or s.words i 0) old)
