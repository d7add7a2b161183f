-- Each share of a table is of the same table.
use Rattle.std.proofs.Common.{◌≡◌, ℕ, zero, suc, List, [], ◌∷◌, map, Option, Some, slice_get, unwrap_or, refl, sym, ap, subst, ◌∙◌}
use Rattle.std.proofs.lemmas.Option.{none-some}
use Rattle.atomic_table.specs.Seated.{TableId}
use Rattle.atomic_table.specs.Table.{Me}
use Rattle.fkv_session.specs.Sessions.{Sitter}
use Rattle.law_threads.specs.Below.fkv_table.Calls.{IsReady}
use Rattle.law_threads.specs.Below.fkv_table.Desks.{Slot, Knows}
use Rattle.law_threads.specs.Below.fkv_table.Pass.{Pass}
use Rattle.law_threads.specs.Below.fkv_table.Session.{Session}
use Rattle.law_threads.specs.Below.fkv_table.Starts.{EachAt}
use Rattle.law_threads.specs.Below.fkv_world.Runs.{World}
use Rattle.fkv_threads.specs.Begun.{AreFirst, HasBegun}
use Rattle.fkv_threads.specs.Models.{Opening, Sitting, sitting_at}

-- a session is ready there too
pub ready_at : {K : Type 0} (at : K → World) (key key' : K) (table table' seat : TableId) (me : Me Slot (Knows K)) (m : Sitter) (desk : ℕ) → key' ≡ key → table' ≡ table → IsReady at key table seat me m desk → IsReady at key' table' seat me m desk
ready_at {K} at key key' table table' seat me m desk same_key same_table ready = subst (λ (z : K × TableId). IsReady at z.0 z.1 seat me m desk) (λ i. (sym same_key i, sym same_table i)) ready

-- what a list has at a place that another one maps to
got_of_map : {X : Type 0} {Y : Type 0} (f : X → Y) (xs : List X) (i : ℕ) (y : Y) → slice_get (map f xs) i ≡ Some y → (x : X) × (slice_get xs i ≡ Some x) × (y ≡ f x)
got_of_map f [] zero y there = absurd (none-some y there)
got_of_map f [] (suc i) y there = absurd (none-some y there)
got_of_map {X} {Y} f (x ∷ xs) zero y there = (x, refl, sym (ap (λ (o : Option Y). unwrap_or o y) there))
got_of_map f (x ∷ xs) (suc i) y there = got_of_map f xs i y there

-- A session that has begun is at its number's place, and has seen nothing.
first_of : {D : Type 0} (at : Opening D → World) (key : Opening D) (table : TableId) (xs : List (Session × Pass D)) → EachAt xs (λ i x. HasBegun at key table i x.0.machine x.0.desk x.1.seat.table_id x.1.seat.me)
    → AreFirst key table (map (sitting_at key table) xs)
first_of at key table xs each i its there =
    let got = got_of_map (sitting_at key table) xs i its there in
    let begun = each i got.0 got.1 in
    let finished = (let x = got.0.0 in x.machine.state.finished) in
    (finished, got.2 ∙ (λ j. record { key = key; table = table; number = begun.numbered j; seen = begun.nothing_seen j; finished = finished }))

-- and a session that has begun
pub begun_at : {K : Type 0} (at : K → World) (key key' : K) (table table' : TableId) (number : ℕ) (m : Sitter) (desk : ℕ) (seat : TableId) (me : Me Slot (Knows K)) → key' ≡ key → table' ≡ table → HasBegun at key table number m desk seat me
    → HasBegun at key' table' number m desk seat me
begun_at {K} at key key' table table' number m desk seat me same_key same_table begun = subst (λ (z : K × TableId). HasBegun at z.0 z.1 number m desk seat me) (λ i. (sym same_key i, sym same_table i)) begun

-- so of the seats that are made of them
pub first_from : {D : Type 0} (at : Opening D → World) (key : Opening D) (table : TableId) (xs : List (Session × Pass D)) (seats : List (Sitting (Opening D))) → seats ≡ map (sitting_at key table) xs
    → EachAt xs (λ i x. HasBegun at key table i x.0.machine x.0.desk x.1.seat.table_id x.1.seat.me) → AreFirst key table seats
first_from {D} at key table xs seats are each = subst (λ (l : List (Sitting (Opening D))). AreFirst key table l) (sym are) (first_of at key table xs each)
