-- A Cas may be two steps of a session, if these are a load of its word and the Cas.
use Rattle.std.proofs.Common.{◌≡◌, ℕ, refl, ap, ◌∙◌, List, [], ◌∷◌, ◌++◌}
use Rattle.std.specs.Prelude.{◌==◌}
use mathlib.Core.Option.{none}
use prog.Atomic.{either}
use Rattle.atomic_table.specs.Table.{Me, step, Allows}
use Rattle.fkv_map.specs.declared.operations.Call.{Call}
use Rattle.fkv_plane.specs.declared.asks.Ask.{Ask}
use Rattle.fkv_plane.specs.declared.asks.Ask.TheVariants.{Load, Cas}
use Rattle.fkv_session.specs.declared.answers.Told.{Told}
use Rattle.fkv_session.specs.Sessions.{Seat}
use Rattle.fkv_straight.specs.Standing.{asked, leads}
use Rattle.law_world.specs.Below.fkv_world.Runs.{World}
use Rattle.fkv_seats.specs.Rule.{Ruled}
use Rattle.fkv_seats.proofs.Twice.{both}
use Rattle.fkv_table.specs.Asks.{step_of}
use Rattle.fkv_table.specs.Desks.{Slot, Knows, turned}
use Rattle.fkv_table.specs.Lines.{HasLed, IsAlong, LineModel, sitter, stands}
use Rattle.fkv_table.specs.Planes.{plane}
use Rattle.fkv_table.specs.Positions.{position}
use Rattle.fkv_table.specs.Raises.{raising}
use Rattle.fkv_table.proofs.LineSteps.{IsLineStep, asked_is, here, made, next_line}
use Rattle.fkv_table.proofs.Steps.{allowed}

module _ {K : Type 0} (at : K → World) where
  -- what is so of a line behind both
  pub record HasRaised (l l' : LineModel K) (reply : ℕ) : Type 0 where
    pub along : IsAlong at l'
    pub next : stands at l' ≡ leads l.machine.seat (leads l.machine.seat (stands at l) reply) reply
    pub led : (start : LineModel K) (call : Call) → HasLed at start call l → HasLed at start call l'
    pub machine : l'.machine ≡ l.machine

  module _ (l : LineModel K) (along : IsAlong at l) (place old new : ℕ) (loads : asked l.machine.seat (stands at l) ≡ Load place) (then : asked l.machine.seat (leads l.machine.seat (stands at l) old) ≡ Cas place old new) where
    abbrev k : Seat
    k = l.machine.seat

    abbrev Load_ : Ask Told
    Load_ = Load place

    abbrev Cas_ : Ask Told
    Cas_ = Cas place old new

    -- the line behind the load
    module _ (slots : ℕ) (between : Me Slot (Knows K)) (told : turned at (λ _. []) (step_of slots Load_) l.me old between) where
      abbrev mid : LineModel K
      mid = record l { me = between; replies = l.replies ++ old ∷ [] }

      mid_step : IsLineStep at l mid old (stands at l)
      mid_step = next_line at l along Load_ loads (place, refl) slots old between told (l.replies ++ old ∷ []) refl

      mid_asks : asked k (stands at mid) ≡ Cas_
      mid_asks = ap (asked k) mid_step.next ∙ then

      mid_allows : (id : ℕ) → Allows (Ruled (plane at) l.key) slots id between (position place) (λ n. either (n == old) new n) (turned at (λ _. []) (step_of slots Cas_) between)
      mid_allows id =
          allowed at l.key slots id between (λ _. []) (sitter at mid) Cas_ along.opened.opening (here at mid mid_step.along Cas_ mid_asks (place, refl)) (asked_is k (stands at mid) Cas_ mid_asks) place refl

    pub raise_allowed : (slots id : ℕ) → Allows (Ruled (plane at) l.key) slots id l.me (position place) (λ n. either (n == old) new n) (raising at (step slots (position place) old new none) l.me)
    raise_allowed slots id =
        both (Ruled (plane at) l.key) slots id l.me (position place) old new (turned at (λ _. []) (step_of slots Load_) l.me) (λ between. turned at (λ _. []) (step_of slots Cas_) between)
        (allowed at l.key slots id l.me (λ _. []) (sitter at l) Load_ along.opened.opening (here at l along Load_ loads (place, refl)) (asked_is k (stands at l) Load_ loads) place refl)
        (λ between told. mid_allows slots between told id)

    -- the line behind both
    pub raised_line : (slots : ℕ) (me' : Me Slot (Knows K)) → raising at (step slots (position place) old new none) l.me old me' → (replies' : List ℕ) → replies' ≡ (l.replies ++ old ∷ []) ++ old ∷ []
        → HasRaised l (record l { me = me'; replies = replies' }) old
    raised_line slots me' told replies' more =
        let t = told.0 refl in
        let one = made at l along Load_ loads (place, refl) slots old t.0 t.1 (l.replies ++ old ∷ []) refl in
        let m = mid slots t.0 t.1 in
        let beside = mid_step slots t.0 t.1 in
        let asks = mid_asks slots t.0 t.1 in
        let two = made at m beside.along Cas_ asks (place, refl) slots old me' t.2 replies' more in
        record {
          along = (next_line at m beside.along Cas_ asks (place, refl) slots old me' t.2 replies' more).along;
          next = two.next ∙ ap (λ s. leads k s old) one.next;
          led = λ start call led. two.led start call (one.led start call led);
          machine = refl;
        }
