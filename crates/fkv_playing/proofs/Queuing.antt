-- What is left of a queue of calls, and lists with an element more or a written one.
use Rattle.std.proofs.Common.{◌≡◌, ◌<◌, ◌≤◌, ℕ, zero, suc, Bool, false, cond, List, [], ◌∷◌, ◌++◌, Option, Some, None, refl, sym, ap, ◌∙◌, arith, inl, inr, ⊎_elim, ◌⊎◌, length, drop, nat_lt, is_some, slice_get, filter}
use Rattle.std.specs.List.{insert, slice_set}
use Rattle.std.proofs.lemmas.Bool.{lt-ltb, le-ltb, cases_lt, false≢true}
use Rattle.std.proofs.lemmas.Option.{none-some, same_Some}
use Rattle.fkv_playing.specs.declared.calls.ActorCall.{ActorCall}
use Rattle.fkv_playing.specs.Queues.{step_of}

-- what is dropped up to a place has an element just where the place is within the list
some_left : (calls : List ActorCall) (next : ℕ) → (nat_lt next (length calls) ≡ is_some (step_of None (drop next calls)))
some_left [] zero = le-ltb 0 0 (omega arith)
some_left [] (suc next) = le-ltb (suc next) 0 (omega arith)
some_left (call ∷ later) zero = lt-ltb 0 (length (call ∷ later)) (omega arith)
some_left (call ∷ later) (suc next) =
    ⊎_elim
    (λ (h : next < length later). lt-ltb (suc next) (suc (length later)) (omega arith) ∙ sym (lt-ltb next (length later) h) ∙ some_left later next)
    (λ (h : length later ≤ next). le-ltb (suc next) (suc (length later)) (omega arith) ∙ sym (le-ltb next (length later) h) ∙ some_left later next)
    (cases_lt next (length later))

-- a queue with no call in hand has a step left where a call is
pub steps_left : (hand : Option ActorCall) (calls : List ActorCall) (next : ℕ) → is_some hand ≡ false → nat_lt next (length calls) ≡ is_some (step_of hand (drop next calls))
steps_left (Some call) calls next h = absurd (false≢true (sym h))
steps_left None calls next h = some_left calls next

module _ {X : Type 0} where
  -- where an element of a list stands behind an insertion, and the other way round
  pub insert_below : (xs : List X) (i : ℕ) (y : X) (k : ℕ) → k < i → i ≤ length xs → slice_get (insert xs i y) k ≡ slice_get xs k
  insert_below xs zero y k lt le = absurd (omega arith)
  insert_below [] (suc i) y k lt le = absurd (omega arith)
  insert_below (x ∷ xs) (suc i) y zero lt le = refl
  insert_below (x ∷ xs) (suc i) y (suc k) lt le = insert_below xs i y k (omega arith) (omega arith)

  pub insert_at : (xs : List X) (i : ℕ) (y : X) → i ≤ length xs → slice_get (insert xs i y) i ≡ Some y
  insert_at xs zero y le = refl
  insert_at [] (suc i) y le = absurd (omega arith)
  insert_at (x ∷ xs) (suc i) y le = insert_at xs i y (omega arith)

  pub insert_above : (xs : List X) (i : ℕ) (y : X) (k : ℕ) → i ≤ k → i ≤ length xs → slice_get (insert xs i y) (suc k) ≡ slice_get xs k
  insert_above xs zero y k from le = refl
  insert_above [] (suc i) y k from le = absurd (omega arith)
  insert_above (x ∷ xs) (suc i) y zero from le = absurd (omega arith)
  insert_above (x ∷ xs) (suc i) y (suc k) from le = insert_above xs i y k (omega arith) (omega arith)

  -- an element behind an insertion at i: one before it, the new one, or one that it has moved
  pub from_insert : {P : Type 0} (xs : List X) (i : ℕ) (y : X) (k : ℕ) (x : X) → i ≤ length xs → slice_get (insert xs i y) k ≡ Some x
      → (k < i → slice_get xs k ≡ Some x → P) → (k ≡ i → y ≡ x → P) → ((j : ℕ) → k ≡ suc j → i ≤ j → slice_get xs j ≡ Some x → P) → P
  from_insert xs zero y zero x le h before here behind = here refl (same_Some y x h)
  from_insert xs zero y (suc k) x le h before here behind = behind k refl (omega arith) h
  from_insert [] (suc i) y k x le h before here behind = absurd (omega arith)
  from_insert (z ∷ xs) (suc i) y zero x le h before here behind = before (omega arith) h
  from_insert (z ∷ xs) (suc i) y (suc k) x le h before here behind =
      from_insert xs i y k x (omega arith) h (λ lt e. before (omega arith) e) (λ e s. here (ap suc e) s) (λ j e from g. behind (suc j) (ap suc e) (omega arith) g)

  -- an element behind a write: the one that is written, and another
  pub set_at_same : (xs : List X) (i : ℕ) (y : X) → i < length xs → slice_get (slice_set xs i y) i ≡ Some y
  set_at_same [] i y lt = absurd (omega arith)
  set_at_same (x ∷ xs) zero y lt = refl
  set_at_same (x ∷ xs) (suc i) y lt = set_at_same xs i y (omega arith)

  pub set_at_other : (xs : List X) (i k : ℕ) (y : X) → (k ≡ i → ⊥) → slice_get (slice_set xs i y) k ≡ slice_get xs k
  set_at_other [] i k y ne = refl
  set_at_other (x ∷ xs) zero zero y ne = absurd (ne refl)
  set_at_other (x ∷ xs) zero (suc k) y ne = refl
  set_at_other (x ∷ xs) (suc i) zero y ne = refl
  set_at_other (x ∷ xs) (suc i) (suc k) y ne = set_at_other xs i k y (λ e. ne (ap suc e))

  -- an element written where it stands
  pub set_same : (xs : List X) (i : ℕ) (x : X) → slice_get xs i ≡ Some x → slice_set xs i x ≡ xs
  set_same [] i x h = refl
  set_same (z ∷ xs) zero x h = ap (λ y. y ∷ xs) (sym (same_Some z x h))
  set_same (z ∷ xs) (suc i) x h = ap (λ l. z ∷ l) (set_same xs i x h)

  -- an element behind a write at i: the one that is written, or another of the list
  pub from_set : {P : Type 0} (xs : List X) (i : ℕ) (y : X) (k : ℕ) (x : X) → slice_get (slice_set xs i y) k ≡ Some x → (k ≡ i → y ≡ x → P) → ((k ≡ i → ⊥) → slice_get xs k ≡ Some x → P) → P
  from_set [] i y k x h here other = absurd (none-some x h)
  from_set (z ∷ xs) zero y zero x h here other = here refl (same_Some y x h)
  from_set (z ∷ xs) zero y (suc k) x h here other = other (λ e. absurd (omega arith)) h
  from_set (z ∷ xs) (suc i) y zero x h here other = other (λ e. absurd (omega arith)) h
  from_set (z ∷ xs) (suc i) y (suc k) x h here other = from_set xs i y k x h (λ e. here (ap suc e)) (λ ne. other (λ (e : suc k ≡ suc i). ne (omega arith)))

  -- an element of a list with one more behind it is one of the list, or the last
  pub append_cases : (xs : List X) (y : X) (k : ℕ) (x : X) → slice_get (xs ++ y ∷ []) k ≡ Some x → (slice_get xs k ≡ Some x) ⊎ (y ≡ x)
  append_cases [] y zero x h = inr (same_Some y x h)
  append_cases [] y (suc k) x h = absurd (none-some x h)
  append_cases (z ∷ xs) y zero x h = inl h
  append_cases (z ∷ xs) y (suc k) x h = append_cases xs y k x h

  -- a test that no element passes keeps none
  pub filter_nothing : (p : X → Bool) (xs : List X) → ((k : ℕ) (x : X) → slice_get xs k ≡ Some x → p x ≡ false) → filter p xs ≡ []
  filter_nothing p [] none = refl
  filter_nothing p (x ∷ xs) none = ap (λ b. cond b (x ∷ filter p xs) (filter p xs)) (none 0 x refl) ∙ filter_nothing p xs (λ k. none (suc k))
