-- Lists of permitted events: those without a change in place, and one list behind another.
use Rattle.std.proofs.Common.{◌≡◌, refl, sym, ap, subst, List, [], ◌∷◌, ◌++◌}
use Rattle.std.specs.Prelude.{⊤}
use Rattle.fkv_flush.specs.GuardWorld.{GuardNow, GuardWorld, GuardEvent, Updates, guard_happens, guard_run}
use Rattle.fkv_flush.specs.Guarded.{IsPermittedEvent, ArePermittedEvents}

abbrev pub IsNoUpdate : GuardEvent → Type 0
IsNoUpdate (Updates session addr word) = ⊥
IsNoUpdate event = ⊤

-- what changes nothing in place is permitted
pub no_update_permitted : (n : GuardNow) (event : GuardEvent) → IsNoUpdate event → IsPermittedEvent n event
no_update_permitted n (Updates session addr word) none = absurd none
no_update_permitted n event none = tt

-- the events of two lists, one after the other
runs_both : (w : GuardWorld) (later before : List GuardEvent) → guard_run w (later ++ before) ≡ guard_run (guard_run w before) later
unfolding guard_run
runs_both w [] before = refl
runs_both w (event ∷ later) before = ap (λ (v : GuardWorld). guard_happens v event) (runs_both w later before)

pub permitted_on : (w : GuardWorld) (later before : List GuardEvent) → ArePermittedEvents (guard_run w before) later → ArePermittedEvents w before → ArePermittedEvents w (later ++ before)
permitted_on w [] before permitted permitted_before = permitted_before
permitted_on w (event ∷ later) before permitted permitted_before =
    (subst (λ (v : GuardWorld). IsPermittedEvent v.now event) (sym (runs_both w later before)) permitted.0, permitted_on w later before permitted.1 permitted_before)

-- a list of one event
pub one_permitted : (w : GuardWorld) (event : GuardEvent) → IsPermittedEvent w.now event → ArePermittedEvents w (event ∷ [])
unfolding guard_run
one_permitted w event permitted = (permitted, tt)
