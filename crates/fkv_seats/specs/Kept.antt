-- What the laws of the rule say, of any world of events that a table shows.
use Rattle.std.specs.Prelude.{◌≡◌, ◌+◌, ◌<◌, ◌≤◌, ◌⊎◌, ℕ, true, false, List, ◌∷◌, length, Some, None}
use mathlib.Core.Option.{some}
use lib.ListN.{get_elem?}
use Rattle.atomic_table.specs.Table.{State, Allows, opening, Splits, Joins}
use Rattle.fkv_seats.specs.declared.views.Role.TheVariants.{Sits}
use Rattle.fkv_seats.specs.declared.views.View.{View}
use Rattle.fkv_seats.specs.declared.held.Held.{Held}
use Rattle.fkv_seats.specs.declared.held.Held.TheVariants.{Drain}
use Rattle.fkv_seats.specs.Rule.{Plane, Ruled, SlotFacts, AreAllowed, AreOwn, AreStarts, AreApart, KeepsDesk, HandFits, Changes, Stepped, SatDown, GotUp, IsSeenBy, GoesOn, HasMet, action_in, behind, desk_of, desk_slot, longer, first_view, left_view, right_view, both_view, spent_view}

module _ {W E A K : Type 0} (p : Plane W E A K) where
  -- A table whose words are the opening world's, and whose slots hold its actions, meets the rule.
  abbrev pub OpensByRule : Type 0
  OpensByRule = (key : K) (words : List ℕ) (xs : List (Held A E)) → words ≡ p.words (p.opening key) → p.slots ≤ length xs
      → ((k : ℕ) (x : Held A E) → k < p.slots → get_elem? xs k ≡ some x → x ≡ Drain (action_in (p.actions (p.opening key)) k))
      → Ruled p key (opening words xs (first_view p key))

  -- A step on a word may add an event of the seat's own, behind starts of its own and all that others have done, if these may stand in the list.
  abbrev pub StepsByRule : Type 0
  StepsByRule = (key : K) (slots id : ℕ) (v : View E K) (c : List (ℕ × Held A E)) (i : ℕ) (f : ℕ → ℕ) (own : List E) (e : E) → SlotFacts p (p.opening key)
      → AreOwn p v.role (e ∷ own) → AreAllowed p (e ∷ own) → AreStarts p (p.opening key) own → HandFits p (p.opening key) v.seen v.hand c → Changes p key v own e i f
      → Allows (Ruled p key) slots id (v, c) i f (λ n m. Stepped p (p.opening key) v c i own e n m)

  -- A seat with no action in hand may be cut in two, which speak for whom it spoke. The first of them stays at its desk, if it was at one.
  abbrev pub SplitsByRule : Type 0
  SplitsByRule = (key : K) (id : ℕ) (v : View E K) → v.hand ≡ None → (v.desk ≡ true → KeepsDesk v.role) → AreApart v.role
      → Splits (Ruled p key) id v (left_view p v) (right_view p v)

  -- Two seats of sessions may be made one, which has seen what either has. It stays at the first one's desk.
  abbrev pub JoinsByRule : Type 0
  JoinsByRule = (key : K) (id other a b : ℕ) (v u : View E K) → v.role ≡ Sits a → u.role ≡ Sits b → v.hand ≡ None → u.hand ≡ None → u.desk ≡ false
      → Joins (Ruled p key) id v other u (both_view p v u) (spent_view p)

  -- Where a seat that was made one of two has seen what the one had seen that was behind, it has seen what either had, and no event of theirs behind it.
  abbrev pub MeetsByRule : Type 0
  MeetsByRule = (v u : View E K) → HasMet p (Some (behind p v u)) (longer p v.seen u.seen)
      → GoesOn p v.role v.seen (longer p v.seen u.seen) × GoesOn p u.role u.seen (longer p v.seen u.seen)

  -- A seat that isn't at its desk finds that at home, and may sit down at it in a step that changes nothing else.
  abbrev pub SitsByRule : Type 0
  SitsByRule = (key : K) (slots id number i : ℕ) (v : View E K) (c : List (ℕ × Held A E)) → desk_of v.role ≡ Some number → v.desk ≡ false → desk_slot p.slots number < slots
      → Allows (Ruled p key) slots id (v, c) i (λ n. n) (λ n m. SatDown p number v c m)

  -- A seat whose desk's slot is the newest that it has in hand may get up in a step that changes nothing else, and that slot goes home.
  abbrev pub GetsUpByRule : Type 0
  GetsUpByRule = (key : K) (slots id number i : ℕ) (v : View E K) (c : List (ℕ × Held A E)) (note : Held A E) → desk_of v.role ≡ Some number
      → Allows (Ruled p key) slots id (v, (desk_slot p.slots number, note) ∷ c) i (λ n. n) (λ n m. GotUp p v c m)

  -- Between the desks of two numbers lie two other slots at least.
  abbrev pub DesksApart : Type 0
  DesksApart = (number other : ℕ) → number < other → desk_slot p.slots number + 2 < desk_slot p.slots other

  -- Of any two views in one state, what the one has seen is a beginning of what the other has.
  abbrev pub SeesInOrder : Type 0
  SeesInOrder = (key : K) (s : State (Held A E) (View E K)) (id other : ℕ) (v u : View E K) → Ruled p key s → get_elem? s.views id ≡ some v
      → get_elem? s.views other ≡ some u → IsSeenBy p v.seen u.seen ⊎ IsSeenBy p u.seen v.seen
