-- The calls of a commit of which none fails.
use Rattle.std.proofs.Common.{◌≡◌, ℕ, zero, suc, ◌+◌, List, [], ◌∷◌, ◌++◌, Bool, true, false, refl, sym, ◌∙◌, ap, subst}
use Rattle.std.specs.Prelude.{replicate, Option, None}
use Rattle.std.proofs.lemmas.List.{replicate-append-replicate}
use Rattle.fkv_disk.specs.Calls.{Call}
use Rattle.fkv_manifest.specs.declared.answers.WriteAnswer.TheVariants as answer
use Rattle.fkv_manifest.specs.declared.commits.Committing.{Committing}
use Rattle.fkv_manifest.specs.declared.commits.Committing.TheVariants as to
use Rattle.fkv_manifest.specs.declared.gates.Gating.{Gating}
use Rattle.fkv_manifest.specs.declared.gates.Gating.TheVariants.{Closes, SyncsClosed, WritesBody, SyncsBody, Opens, SyncsOpen, Written, Broken}
use Rattle.fkv_manifest.specs.Gating.{GateWriter}
use Rattle.fkv_manifest.specs.Committing.{CommitWriter, commit_start, commit_call, commit_next, commit_answer, commit_step_call, commit_step_next, commit_step_answer, gate_after}
use Rattle.fkv_manifest.specs.Gating.{gate_start, gate_step_call, gate_next, gate_answer}
use Rattle.fkv_manifest.specs.Made.{commit_run, commit_made, with_call, whole_commit}

-- a machine that has come so far
abbrev pub HasCome : CommitWriter → List Bool → CommitWriter → List Call → Type 0
HasCome w steps v made = (commit_run w steps ≡ v) × (commit_made w steps ≡ made)

-- one step more
pub come_on : (w : CommitWriter) (steps : List Bool) (v : CommitWriter) (made : List Call) → HasCome w steps v made → HasCome w (true ∷ steps) (commit_next v true) (with_call (commit_call v true) made)
unfolding commit_run commit_made
come_on w steps v made come = (ap (λ (u : CommitWriter). commit_next u true) come.0, ap (λ (u : CommitWriter). with_call (commit_call u true) (commit_made w steps)) come.0 ∙ ap (λ (m : List Call). with_call (commit_call v true) m) come.1)

-- at the end nothing more is made
pub come_to_rest : (w : CommitWriter) (steps : List Bool) (area : ℕ) (triples : List ℕ) (place start : ℕ) (slot : List ℕ) (made : List Call) (more : ℕ)
    → HasCome w steps (record { area = area; triples = triples; gate = record { place = place; start = start; slot = slot; step = Written }; step = to.PutsSlot }) made
    → HasCome w (replicate more true ++ steps) (record { area = area; triples = triples; gate = record { place = place; start = start; slot = slot; step = Written }; step = to.PutsSlot }) made
unfolding commit_step_call commit_step_next gate_after gate_step_call gate_next
come_to_rest w steps area triples place start slot made zero come = come
come_to_rest w steps area triples place start slot made (suc more) come = come_on w (replicate more true ++ steps) _ made (come_to_rest w steps area triples place start slot made more come)

abbrev all_true : ℕ → List Bool
all_true n = replicate n true

-- from the first step on
pub whole : (area place start : ℕ) (triples slot : List ℕ) (is_open : Bool)
    → let w : CommitWriter = record { area = area; triples = triples; gate = record { place = place; start = start; slot = slot; step = gate_start is_open }; step = commit_start triples } in
    HasCome w (replicate 8 true) (record w { gate = record w.gate { step = Written }; step = to.PutsSlot }) (whole_commit w is_open)
unfolding commit_run commit_made commit_step_call commit_step_next gate_after gate_step_call gate_next
whole area place start [] slot true = (refl, refl)
whole area place start [] slot false = (refl, refl)
whole area place start (b ∷ rest) slot true = (refl, refl)
whole area place start (b ∷ rest) slot false = (refl, refl)

-- the machine before its first step
abbrev pub first_of : CommitWriter → Bool → CommitWriter
first_of w is_open = record w { gate = record w.gate { step = gate_start is_open }; step = commit_start w.triples }

first_is : (w : CommitWriter) (is_open : Bool) → w.step ≡ commit_start w.triples → w.gate.step ≡ gate_start is_open → w ≡ first_of w is_open
first_is w is_open begins gate_begins =
    ap (λ (s : Committing). let u : CommitWriter = record w { step = s } in u) begins
    ∙ ap (λ (g : Gating). let u : CommitWriter = record w { gate = record w.gate { step = g }; step = commit_start w.triples } in u) gate_begins

pub in_order : (w : CommitWriter) (is_open : Bool) (more : ℕ) → w.step ≡ commit_start w.triples → w.gate.step ≡ gate_start is_open
    → HasCome w (replicate (more + 8) true) (record w { gate = record w.gate { step = Written }; step = to.PutsSlot }) (whole_commit w is_open)
in_order w is_open more begins gate_begins =
    subst (λ (steps : List Bool). HasCome w steps (record w { gate = record w.gate { step = Written }; step = to.PutsSlot }) (whole_commit w is_open)) (replicate-append-replicate more 8 true)
    (subst (λ (u : CommitWriter). HasCome u (replicate more true ++ replicate 8 true) (record w { gate = record w.gate { step = Written }; step = to.PutsSlot }) (whole_commit w is_open)) (sym (first_is w is_open begins gate_begins))
    (come_to_rest (first_of w is_open) (replicate 8 true) w.area w.triples w.gate.place w.gate.start w.gate.slot (whole_commit w is_open) more (whole w.area w.gate.place w.gate.start w.triples w.gate.slot is_open)))

pub all_written : (w : CommitWriter) (is_open : Bool) (more : ℕ) → w.step ≡ commit_start w.triples → w.gate.step ≡ gate_start is_open
    → commit_answer (commit_run w (replicate (more + 8) true)) ≡ answer.Written
unfolding commit_step_answer gate_answer
all_written w is_open more begins gate_begins = ap (λ (u : CommitWriter). commit_answer u) (in_order w is_open more begins gate_begins).0

-- no call is made from here on, whatever is told
abbrev HasNone : CommitWriter → Type 0
HasNone w = (done : Bool) → commit_call w done ≡ None

-- so it stays
abbrev IsOver : CommitWriter → Type 0
IsOver w = HasNone w × ((done : Bool) → commit_next w done ≡ w)

-- a machine is over once a call has failed
over_gate : (area : ℕ) (triples : List ℕ) (place start : ℕ) (slot : List ℕ) (step : Gating) → IsOver (commit_next (record { area = area; triples = triples; gate = record { place = place; start = start; slot = slot; step = step }; step = to.PutsSlot }) false)
unfolding commit_step_call commit_step_next gate_after gate_step_call gate_next
over_gate area triples place start slot Closes = (λ done. refl, λ done. refl)
over_gate area triples place start slot SyncsClosed = (λ done. refl, λ done. refl)
over_gate area triples place start slot WritesBody = (λ done. refl, λ done. refl)
over_gate area triples place start slot SyncsBody = (λ done. refl, λ done. refl)
over_gate area triples place start slot Opens = (λ done. refl, λ done. refl)
over_gate area triples place start slot SyncsOpen = (λ done. refl, λ done. refl)
over_gate area triples place start slot Written = (λ done. refl, λ done. refl)
over_gate area triples place start slot (Broken why) = (λ done. refl, λ done. refl)

over_step : (area : ℕ) (triples : List ℕ) (gate : GateWriter) (step : Committing) → IsOver (commit_next (record { area = area; triples = triples; gate = gate; step = step }) false)
unfolding commit_step_call commit_step_next gate_after
over_step area triples gate to.WritesTriples = (λ done. refl, λ done. refl)
over_step area triples gate to.SyncsTriples = (λ done. refl, λ done. refl)
over_step area triples gate to.PutsSlot = over_gate area triples gate.place gate.start gate.slot gate.step
over_step area triples gate (to.Broken why) = (λ done. refl, λ done. refl)

over_failed : (w : CommitWriter) → IsOver (commit_next w false)
over_failed w = over_step w.area w.triples w.gate w.step

-- and it stays over, and makes no call
stays_over : (w : CommitWriter) (before later : List Bool) → (commit_run w (later ++ false ∷ before) ≡ commit_next (commit_run w before) false) × (commit_made w (later ++ false ∷ before) ≡ commit_made w (false ∷ before))
unfolding commit_run commit_made
stays_over w before [] = (refl, refl)
stays_over w before (done ∷ later) =
    let was = stays_over w before later in
    let over = over_failed (commit_run w before) in (
      ap (λ (u : CommitWriter). commit_next u done) was.0 ∙ over.1 done,
      ap (λ (u : CommitWriter). with_call (commit_call u done) (commit_made w (later ++ false ∷ before))) was.0
          ∙ ap (λ (call : Option Call). with_call call (commit_made w (later ++ false ∷ before))) (over.0 done)
          ∙ was.1,
    )

pub failed_last : (w : CommitWriter) (before later : List Bool) → commit_made w (later ++ false ∷ before) ≡ commit_made w (false ∷ before)
failed_last w before later = (stays_over w before later).1
