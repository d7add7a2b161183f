-- The map of a new store is empty.
use Rattle.std.proofs.Common.{◌≡◌, ◌∙◌, ◌<◌, ◌≤◌, ℕ, List, [], ◌∷◌, ap, arith, length, refl, sym}
use Rattle.std.specs.FinMap.{empty}
use Rattle.std.specs.Prelude.{Contains, Some, slice_get}
use Rattle.fkv_base.specs.declared.numbers.Addr.{Addr}
use Rattle.fkv_base.specs.declared.numbers.Key.{Key}
use Rattle.fkv_base.specs.declared.numbers.Value.{Value}
use Rattle.fkv_base.specs.declared.shapes.Shape.{Shape}
use Rattle.law_order.specs.Below.fkv_chains.Reached.{Reached, in_scan, led_to, linked}
use Rattle.law_order.specs.Below.fkv_creating.Created.{IsNewStore}
use Rattle.law_order.specs.Below.fkv_opening.Opened.{IsStoreOf}
use Rattle.law_order.specs.Below.fkv_opening.TheOpened.{Opened}
use Rattle.law_order.specs.Below.law_opening.Log.Maps.{opening_map}
use Rattle.law_order.specs.Below.law_opening.Log.Records.{map_of}
use Rattle.law_order.specs.Below.fkv_pairs.Pairs.{ArePairs, HasValue, log_of_store}
use Rattle.fkv_record.specs.declared.triples.Triple.{Triple}
use Rattle.law_order.specs.Below.fkv_scan.Log.{HasTriple, Log}

-- ---- a log that has no room for a record
abbrev no_triples : List Triple
no_triples = []

no_triple : (log : Log) (its_home a : ℕ) → log.triples ≡ [] → HasTriple log its_home a → ⊥
no_triple log its_home a none its = let found : slice_get log.triples its.place ≡ Some its.triple = its.stands in none_there its.place (ap (λ (x : List Triple). slice_get x its.place) (sym none) ∙ found)
  where
    none_there : (place : ℕ) → slice_get no_triples place ≡ Some its.triple → ⊥
    none_there place e = cc

none_reached : (log : Log) (a : ℕ) → log.tail ≤ log.start → log.triples ≡ [] → Reached log a → ⊥
none_reached log at short none (in_scan a x from below stands valid) = omega (arith, short, from, below)
none_reached log at short none (led_to its_home a has) = no_triple log its_home a none has
none_reached log at short none (linked a b x reached stands leads other) = none_reached log a short none reached

no_length : (xs : List Triple) → length xs ≡ 0 → xs ≡ []
no_length [] e = refl
no_length (x ∷ xs) e = cc

-- ---- so it has no pairs
new_log : (shape : Shape) (image : List ℕ) (opened : Opened) (store : IsStoreOf image opened) → IsNewStore shape opened → (log_of_store image opened store).tail ≤ (log_of_store image opened store).start
new_log shape image opened store new =
    let tail : opened.tail.0 ≡ 1 = new.tail in
    let first : opened.checkpoint.first.0 ≡ 1 = new.first in
    let its_tail = ap (λ (x : Addr). x.0) store.tells.tail in
    let its_first = ap (λ (x : Addr). x.0) store.tells.first in
    omega (arith, tail, first, its_tail, its_first)

new_triples : (shape : Shape) (image : List ℕ) (opened : Opened) (store : IsStoreOf image opened) → IsNewStore shape opened → store.triples ≡ []
new_triples shape image opened store new = no_length store.triples (store.checkpoint.stored.many ∙ (sym store.tells.triples ∙ new.triples))

no_value : (shape : Shape) (image : List ℕ) (opened : Opened) (store : IsStoreOf image opened) (key : Key) (value : Value) → IsNewStore shape opened → HasValue (log_of_store image opened store) key value → ⊥
no_value shape image opened store key value new has =
    none_reached (log_of_store image opened store) has.addr (new_log shape image opened store new) (new_triples shape image opened store new) has.newest.counts.reached

no_pairs : (shape : Shape) (image : List ℕ) (opened : Opened) (store : IsStoreOf image opened) → IsNewStore shape opened → ArePairs (log_of_store image opened store) []
no_pairs shape image opened store new = record { ascending = λ k small. absurd (omega (arith, small)); all = λ pair. (λ is. absurd (none_in pair is), λ has. absurd (no_value shape image opened store pair.0 pair.1 new has)) }
  where
    none_in : (pair : Key × Value) → Contains [] pair → ⊥
    none_in pair is = let small : is.0 < 0 = is.1 in omega (arith, small)

-- what the law of an opened store's log says of its pairs
abbrev pub PairsAreMap : Type 0
PairsAreMap = (image : List ℕ) (o : Opened) (store : IsStoreOf image o) (pairs : List (Key × Value)) → ArePairs (log_of_store image o store) pairs → map_of pairs ≡ opening_map image o

pub new_is_empty : PairsAreMap → (shape : Shape) (image : List ℕ) (opened : Opened) → IsStoreOf image opened → IsNewStore shape opened → opening_map image opened ≡ empty
new_is_empty pairs shape image opened store new = sym (pairs image opened store [] (no_pairs shape image opened store new))
