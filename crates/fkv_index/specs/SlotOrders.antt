-- The order of a bucket's slots, the bucket and its overflow buckets one after another: it is filled from the left, and what an event does to it.
use Rattle.std.specs.Prelude.{◌≡◌, ℕ, ◌<◌, ◌⊎◌, List, [], ◌∷◌, ◌++◌, length, replicate, slice_index, slice_set, Option, Some, None}
use Rattle.fkv_plane.specs.declared.places.Places.{Places}
use Rattle.fkv_index.specs.Slots.{bucket_slots, entry_tag}
use Rattle.fkv_index.specs.Buckets.{bucket_words}
use Rattle.fkv_index.specs.IndexWorld.{IndexEvent, IndexWorld, index_happens}
use Rattle.fkv_index.specs.Entries.{order_of, NewEntry, published}

abbrev pub slot_order : Places → List ℕ → (ℕ → List ℕ) → ℕ → List ℕ
slot_order p words lists bucket = order_of p.buckets (bucket_words p words) bucket (lists bucket)

-- where a slot is empty all later ones are
abbrev pub IsFilled : List ℕ → Type 0
IsFilled order = (i j : ℕ) → i < j → j < length order → slice_index order i ≡ 0 → slice_index order j ≡ 0

abbrev pub OrdersFilled : IndexWorld → Type 0
OrdersFilled w = (bucket : ℕ) → bucket < w.now.places.buckets → IsFilled (slot_order w.now.places w.now.words w.lists bucket)

-- no two slots have entries of one tag
abbrev pub HasTagsOnce : List ℕ → Type 0
HasTagsOnce order = (i j : ℕ) → i < length order → j < length order → (slice_index order i ≡ 0 → ⊥) → (slice_index order j ≡ 0 → ⊥) → entry_tag (slice_index order i) ≡ entry_tag (slice_index order j) → i ≡ j

abbrev pub OrdersHaveTagsOnce : IndexWorld → Type 0
OrdersHaveTagsOnce w = (bucket : ℕ) → bucket < w.now.places.buckets → HasTagsOnce (slot_order w.now.places w.now.words w.lists bucket)

-- one slot has another word
abbrev pub IsOneChanged : ℕ → ℕ → List ℕ → List ℕ → Type 0
IsOneChanged before new order after = (i : ℕ) × (i < length order) × (slice_index order i ≡ before) × (after ≡ slice_set order i new)

-- the order is as it was, or one more overflow bucket follows and seven empty slots with it
abbrev pub IsKeptOrLonger : List ℕ → List ℕ → List ℕ → List ℕ → Type 0
IsKeptOrLonger list list_after order after =
    ((list_after ≡ list) × (after ≡ order)) ⊎ ((number : ℕ) × (list_after ≡ list ++ number ∷ []) × (after ≡ order ++ replicate bucket_slots 0))

-- where an entry is published the order of its home's bucket changes in one slot, and no other does
pub record IsPublishedIn (its : NewEntry) (bucket : ℕ) (list list_after order after : List ℕ) : Type 0 where
  pub same_list : list_after ≡ list
  pub here : bucket ≡ its.home.bucket → IsOneChanged its.before its.entry order after
  pub elsewhere : (bucket ≡ its.home.bucket → ⊥) → after ≡ order

abbrev pub OrderMoves : Option NewEntry → ℕ → List ℕ → List ℕ → List ℕ → List ℕ → Type 0
OrderMoves None bucket list list_after order after = IsKeptOrLonger list list_after order after
OrderMoves (Some its) bucket list list_after order after = IsPublishedIn its bucket list list_after order after

abbrev pub OrdersMove : Option NewEntry → Places → List ℕ → List ℕ → (ℕ → List ℕ) → (ℕ → List ℕ) → Type 0
OrdersMove its p words words_after lists lists_after = (bucket : ℕ) → bucket < p.buckets
    → OrderMoves its bucket (lists bucket) (lists_after bucket) (slot_order p words lists bucket) (slot_order p words_after lists_after bucket)

-- a publish that is answered as won changes one slot of one order, a link adds seven empty slots to one, and nothing else changes an order
abbrev pub EachMovesOrders : IndexWorld → Type 0
EachMovesOrders w = (event : IndexEvent) → OrdersMove (published w.now event) w.now.places w.now.words (index_happens w event).now.words w.lists (index_happens w event).lists
