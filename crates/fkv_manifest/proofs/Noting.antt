-- What a device says of itself while a slot comes into force.
use Rattle.std.proofs.Common.{◌≡◌, ℕ, List, [], true, sym, ap, ◌∙◌}
use Rattle.std.specs.Prelude.{◌++◌}
use Rattle.fkv_disk.specs.Asks.{first_asked, kinds_by}
use Rattle.fkv_disk.specs.Kinds.{Foretold, Kind}
use Rattle.fkv_manifest.specs.Gating.{GateWriter, gate_answer, gate_call, gate_kinds, gate_next, gate_step_call}
use Rattle.fkv_manifest.specs.Made.{with_call}
use Rattle.fkv_manifest.specs.declared.answers.WriteAnswer.TheVariants as answer
use Rattle.fkv_manifest.specs.declared.gates.Gating.{Gating}
use Rattle.fkv_manifest.specs.declared.gates.Gating.TheVariants.{Closes, SyncsClosed, WritesBody, SyncsBody, Opens, SyncsOpen, Written, Broken}

-- a device has met what has come of the calls from the first state on
abbrev pub IsNoted : List Kind → (List Kind → Foretold) → (List Kind → Foretold) → GateWriter → Type 0
IsNoted all expects expects' w = (later : List Kind) → expects' (gate_kinds w.place w.start w.slot w.step ++ later) ≡ expects (all ++ later)

step_noted : (place start : ℕ) (slot : List ℕ) (step : Gating) (expects expects' : List Kind → Foretold) (later : List Kind) → gate_answer step ≡ answer.Device
    → expects' ≡ kinds_by (first_asked (with_call (gate_step_call place start slot step true) [])) true expects
    → expects' (gate_kinds place start slot (gate_next step true) ++ later) ≡ expects (gate_kinds place start slot step ++ later)
unfolding gate_answer gate_step_call gate_next gate_kinds
step_noted place start slot Closes expects expects' later calls kind = ap (λ (says : List Kind → Foretold). says (gate_kinds place start slot SyncsClosed ++ later)) kind
step_noted place start slot SyncsClosed expects expects' later calls kind = ap (λ (says : List Kind → Foretold). says (gate_kinds place start slot WritesBody ++ later)) kind
step_noted place start slot WritesBody expects expects' later calls kind = ap (λ (says : List Kind → Foretold). says (gate_kinds place start slot SyncsBody ++ later)) kind
step_noted place start slot SyncsBody expects expects' later calls kind = ap (λ (says : List Kind → Foretold). says (gate_kinds place start slot Opens ++ later)) kind
step_noted place start slot Opens expects expects' later calls kind = ap (λ (says : List Kind → Foretold). says (gate_kinds place start slot SyncsOpen ++ later)) kind
step_noted place start slot SyncsOpen expects expects' later calls kind = ap (λ (says : List Kind → Foretold). says later) kind
step_noted place start slot Written expects expects' later calls kind = absurd (cc)
step_noted place start slot (Broken why) expects expects' later calls kind = absurd (cc)

-- one call more, which succeeded
pub noted_on : (all : List Kind) (expects expects' expects'' : List Kind → Foretold) (w w' : GateWriter) → IsNoted all expects expects' w
    → gate_answer w.step ≡ answer.Device → w' ≡ record w { step = gate_next w.step true } → expects'' ≡ kinds_by (first_asked (with_call (gate_call w true) [])) true expects'
    → IsNoted all expects expects'' w'
noted_on all expects expects' expects'' w w' was calls next kind later =
    ap (λ (v : GateWriter). expects'' (gate_kinds v.place v.start v.slot v.step ++ later)) next ∙ step_noted w.place w.start w.slot w.step expects' expects'' later calls kind ∙ was later

-- and at the end all of them
pub all_noted : (all : List Kind) (expects expects' : List Kind → Foretold) (at from : ℕ) (bytes : List ℕ) (step : Gating) → IsNoted all expects expects' (record { place = at; start = from; slot = bytes; step = step })
    → step ≡ Written → (later : List Kind) → expects' later ≡ expects (all ++ later)
unfolding gate_kinds
all_noted all expects expects' at from bytes step was is later = ap (λ (s : Gating). expects' (gate_kinds at from bytes s ++ later)) (sym is) ∙ was later
