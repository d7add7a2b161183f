-- Calls one behind the other.
use Rattle.std.proofs.Common.{ℕ, zero, suc, ◌+◌, ◌<◌, List, [], ◌∷◌, length, take, slice_index_or, slice_set, refl, sym, subst, add-one, arith}
use Rattle.fkv_handles.specs.declared.sessions.Session.{Session}
use Rattle.fkv_face.specs.Many.{AreCalled}

module _ {A : Type 0} {T : Type 0} (one : Session → A → T → Session → Type 0) where
  appended : (d : A) (calls : List A) (room now : List T) (i : ℕ) (told : T) (before between after : Session) → i < length calls → i < length room
      → AreCalled one before (take i calls) room now between → one between (slice_index_or calls i d) told after → AreCalled one before (take (suc i) calls) room (slice_set now i told) after
  appended d [] room now i told before between after below has chain next = absurd (omega arith)
  appended d (its ∷ calls) [] now i told before between after below has chain next = absurd (omega arith)
  appended d (its ∷ calls) (old ∷ room) now zero told before between after below has chain next =
      subst (λ (ts : List T). AreCalled one before (its ∷ []) (old ∷ room) (slice_set ts zero told) after) (sym chain.0) (after, subst (λ (s : Session). one s its told after) chain.1 next, (refl, refl))
  appended d (its ∷ calls) (old ∷ room) [] (suc i) told before between after below has chain next = absurd chain
  appended d (its ∷ calls) (old ∷ room) (first ∷ now) (suc i) told before between after below has chain next =
      (chain.0, chain.1, appended d calls room now i told chain.0 between after (omega arith) (omega arith) chain.2 next)

  -- one call more
  pub one_more_call : (d : A) (calls : List A) (room now : List T) (i : ℕ) (told : T) (before between after : Session) → i < length calls → i < length room
      → AreCalled one before (take i calls) room now between → one between (slice_index_or calls i d) told after → AreCalled one before (take (i + 1) calls) room (slice_set now i told) after
  one_more_call d calls room now i told before between after below has chain next =
      subst (λ (n : ℕ). AreCalled one before (take n calls) room (slice_set now i told) after) (sym (add-one i)) (appended d calls room now i told before between after below has chain next)
