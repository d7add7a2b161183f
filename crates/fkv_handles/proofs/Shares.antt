-- What lies at the places of a store.
use Rattle.std.proofs.Common.{◌≡◌, ℕ, zero, suc, List, [], ◌∷◌, map, Option, Some, slice_get, slice_set, unwrap_or, refl, sym, ap, subst, ◌∙◌}
use Rattle.std.proofs.lemmas.Option.{none-some}
use Rattle.atomic_table.specs.Seated.{TableId}
use Rattle.fkv_opening.specs.declared.opened_store.Opened.{Opened}
use Rattle.fkv_threads.specs.Begun as begun
use Rattle.fkv_threads.specs.Below.fkv_world.Runs.{World}
use Rattle.fkv_handles.specs.Handles.{Opening, Sitting}
use Rattle.fkv_handles.specs.Opens.{AreFirst}

-- what a list has at a place that another one maps to
got_of_map : {X : Type 0} {Y : Type 0} (f : X → Y) (xs : List X) (i : ℕ) (y : Y) → slice_get (map f xs) i ≡ Some y → (x : X) × (slice_get xs i ≡ Some x) × (y ≡ f x)
got_of_map f [] zero y there = absurd (none-some y there)
got_of_map f [] (suc i) y there = absurd (none-some y there)
got_of_map {X} {Y} f (x ∷ xs) zero y there = (x, refl, sym (ap (λ (o : Option Y). unwrap_or o y) there))
got_of_map f (x ∷ xs) (suc i) y there = got_of_map f xs i y there

-- what is there already is set again
pub set_same : {X : Type 0} (xs : List X) (i : ℕ) (x : X) → slice_get xs i ≡ Some x → slice_set xs i x ≡ xs
set_same [] zero x there = refl
set_same [] (suc i) x there = refl
set_same {X} (y ∷ ys) zero x there = ap (λ (o : Option X). unwrap_or o x ∷ ys) (sym there)
set_same (y ∷ ys) (suc i) x there = ap (λ rest. y ∷ rest) (set_same ys i x there)

-- Each session that sits at the table is at its number's place, and has seen nothing.
pub first_places : (key : Opening) (table : TableId) (xs : List Sitting) (places : List (Option Sitting)) → places ≡ map Some xs → begun.AreFirst key table xs → AreFirst key table places
first_places key table xs places are first =
    subst (λ (l : List (Option Sitting)). AreFirst key table l) (sym are)
    (λ i its there. let got = got_of_map Some xs i its there in let so = first i got.0 got.1 in (so.0, got.2 ∙ ap Some so.1))

-- It lies over the same store, whatever the bytes are called.
pub over_at : (at : Opening → World) (key : Opening) (opened : Opened) (bytes bytes' : List ℕ) → bytes ≡ bytes' → begun.IsOverStore at key opened bytes → begun.IsOverStore at key opened bytes'
over_at at key opened bytes bytes' read over = subst (λ (b : List ℕ). begun.IsOverStore at key opened b) read over
