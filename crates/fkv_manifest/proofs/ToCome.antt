-- The calls that a slot's machine has yet to make, where each succeeds.
use Rattle.std.proofs.Common.{◌≡◌, ℕ, suc, ◌+◌, List, [], ◌∷◌, ◌++◌, drop, Bool, true, false, refl, ap}
use Rattle.std.specs.Prelude.{Some, None}
use Rattle.fkv_disk.specs.Calls.{Call, Write, Sync}
use Rattle.fkv_manifest.specs.Gating.{GateWriter, gate_start, gate_call, gate_step_call, gate_next, gate_calls_left, open_gate, closed_gate}
use Rattle.fkv_manifest.specs.Made.{whole_gate}
use Rattle.fkv_manifest.specs.declared.gates.Gating.{Gating}
use Rattle.fkv_manifest.specs.declared.gates.Gating.TheVariants.{Closes, SyncsClosed, WritesBody, SyncsBody, Opens, SyncsOpen, Written, Broken}

-- from a state on, the newest first
abbrev calls_from : ℕ → ℕ → List ℕ → Gating → List Call
calls_from place start slot Closes = Sync true ∷ Write place (open_gate ∷ []) true ∷ Sync true ∷ Write (place + start) (drop start slot) true ∷ Sync true ∷ Write place (closed_gate ∷ []) true ∷ []
calls_from place start slot SyncsClosed = Sync true ∷ Write place (open_gate ∷ []) true ∷ Sync true ∷ Write (place + start) (drop start slot) true ∷ Sync true ∷ []
calls_from place start slot WritesBody = Sync true ∷ Write place (open_gate ∷ []) true ∷ Sync true ∷ Write (place + start) (drop start slot) true ∷ []
calls_from place start slot SyncsBody = Sync true ∷ Write place (open_gate ∷ []) true ∷ Sync true ∷ []
calls_from place start slot Opens = Sync true ∷ Write place (open_gate ∷ []) true ∷ []
calls_from place start slot SyncsOpen = Sync true ∷ []
calls_from place start slot Written = []
calls_from place start slot (Broken why) = []

abbrev pub calls_to_come : GateWriter → List Call
calls_to_come w = calls_from w.place w.start w.slot w.step

-- before the first one these are all of them
pub all_to_come : (place start : ℕ) (slot : List ℕ) (is_open : Bool) → calls_from place start slot (gate_start is_open) ≡ whole_gate (record { place = place; start = start; slot = slot; step = gate_start is_open }) is_open
all_to_come place start slot true = refl
all_to_come place start slot false = refl

-- a call that is made is the next one of them
made_next : (front calls : List Call) (made call : Call) → Some made ≡ Some call → front ++ (call ∷ calls) ≡ front ++ (made ∷ calls)
made_next front calls made call is = let same : call ≡ made = cc in ap (λ (c : Call). front ++ (c ∷ calls)) same

come_from : (place start : ℕ) (slot : List ℕ) (step : Gating) (calls : List Call) (call : Call) → gate_step_call place start slot step true ≡ Some call
    → calls_from place start slot (gate_next step true) ++ (call ∷ calls) ≡ calls_from place start slot step ++ calls
unfolding gate_step_call gate_next
come_from place start slot Closes calls call is = made_next (calls_from place start slot SyncsClosed) calls (Write place (closed_gate ∷ []) true) call is
come_from place start slot SyncsClosed calls call is = made_next (calls_from place start slot WritesBody) calls (Sync true) call is
come_from place start slot WritesBody calls call is = made_next (calls_from place start slot SyncsBody) calls (Write (place + start) (drop start slot) true) call is
come_from place start slot SyncsBody calls call is = made_next (calls_from place start slot Opens) calls (Sync true) call is
come_from place start slot Opens calls call is = made_next (calls_from place start slot SyncsOpen) calls (Write place (open_gate ∷ []) true) call is
come_from place start slot SyncsOpen calls call is = made_next [] calls (Sync true) call is
come_from place start slot Written calls call is = absurd (cc)
come_from place start slot (Broken why) calls call is = absurd (cc)

pub come_next : (w : GateWriter) (calls : List Call) (call : Call) → gate_call w true ≡ Some call → calls_to_come (record w { step = gate_next w.step true }) ++ (call ∷ calls) ≡ calls_to_come w ++ calls
come_next w calls call is = come_from w.place w.start w.slot w.step calls call is

-- and there is one fewer
fewer_from : (place start : ℕ) (slot : List ℕ) (step : Gating) (call : Call) → gate_step_call place start slot step true ≡ Some call → gate_calls_left step ≡ suc (gate_calls_left (gate_next step true))
unfolding gate_step_call gate_next
fewer_from place start slot Closes call is = refl
fewer_from place start slot SyncsClosed call is = refl
fewer_from place start slot WritesBody call is = refl
fewer_from place start slot SyncsBody call is = refl
fewer_from place start slot Opens call is = refl
fewer_from place start slot SyncsOpen call is = refl
fewer_from place start slot Written call is = absurd (cc)
fewer_from place start slot (Broken why) call is = absurd (cc)

pub fewer_to_come : (w : GateWriter) (call : Call) → gate_call w true ≡ Some call → gate_calls_left w.step ≡ suc (gate_calls_left (gate_next w.step true))
fewer_to_come w call is = fewer_from w.place w.start w.slot w.step call is

-- where no call comes next none is left
none_from : (place start : ℕ) (slot : List ℕ) (step : Gating) → gate_step_call place start slot step true ≡ None → calls_from place start slot step ≡ []
unfolding gate_step_call
none_from place start slot Closes is = absurd (cc)
none_from place start slot SyncsClosed is = absurd (cc)
none_from place start slot WritesBody is = absurd (cc)
none_from place start slot SyncsBody is = absurd (cc)
none_from place start slot Opens is = absurd (cc)
none_from place start slot SyncsOpen is = absurd (cc)
none_from place start slot Written is = refl
none_from place start slot (Broken why) is = refl

pub none_to_come : (w : GateWriter) → gate_call w true ≡ None → calls_to_come w ≡ []
none_to_come w is = none_from w.place w.start w.slot w.step is
