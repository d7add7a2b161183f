-- How a slot comes into force behind its gate.
use Rattle.std.specs.Prelude.{ℕ, ◌+◌, List, [], ◌∷◌, drop, Bool, true, false, if◌then◌else◌, Option, Some, None}
use Rattle.fkv_base.specs.declared.faults.Fault.TheVariants as fault
use Rattle.fkv_disk.specs.Bytes.{written}
use Rattle.fkv_disk.specs.Calls.{Call, Write, Sync}
use Rattle.fkv_disk.specs.Kinds.{Kind, Writing, Syncing}
use Rattle.fkv_manifest.specs.declared.answers.WriteAnswer.{WriteAnswer}
use Rattle.fkv_manifest.specs.declared.answers.WriteAnswer.TheVariants as answer
use Rattle.fkv_manifest.specs.declared.gates.Gating.{Gating}
use Rattle.fkv_manifest.specs.declared.gates.Gating.TheVariants.{Closes, SyncsClosed, WritesBody, SyncsBody, Opens, SyncsOpen, Written, Broken}

-- where the slot lies, from which of its bytes on they are written behind the gate, and its bytes
pub record GateWriter : Type 0 where
  pub place : ℕ
  pub start : ℕ
  pub slot : List ℕ
  pub step : Gating

-- a gate that stands open is closed first, and one that stands closed isn't written
abbrev pub gate_start : Bool → Gating
gate_start is_open = if is_open then Closes else WritesBody

-- the byte of a closed gate, and that of an open one
abbrev pub closed_gate : ℕ
closed_gate = 0

abbrev pub open_gate : ℕ
open_gate = 165

-- the call that a state makes, and whether it succeeded
unfoldable pub gate_step_call : ℕ → ℕ → List ℕ → Gating → Bool → Option Call
gate_step_call place start slot Closes done = Some (Write place (closed_gate ∷ []) done)
gate_step_call place start slot SyncsClosed done = Some (Sync done)
gate_step_call place start slot WritesBody done = Some (Write (place + start) (drop start slot) done)
gate_step_call place start slot SyncsBody done = Some (Sync done)
gate_step_call place start slot Opens done = Some (Write place (open_gate ∷ []) done)
gate_step_call place start slot SyncsOpen done = Some (Sync done)
gate_step_call place start slot Written done = None
gate_step_call place start slot (Broken why) done = None

abbrev pub gate_call : GateWriter → Bool → Option Call
gate_call w done = gate_step_call w.place w.start w.slot w.step done

-- where the call leads; a failure ends it all
unfoldable pub gate_next : Gating → Bool → Gating
gate_next Closes true = SyncsClosed
gate_next SyncsClosed true = WritesBody
gate_next WritesBody true = SyncsBody
gate_next SyncsBody true = Opens
gate_next Opens true = SyncsOpen
gate_next SyncsOpen true = Written
gate_next Written done = Written
gate_next (Broken why) done = Broken why
gate_next step false = Broken fault.Device

-- what it answers
unfoldable pub gate_answer : Gating → WriteAnswer
gate_answer Written = answer.Written
gate_answer (Broken why) = answer.Broken why
gate_answer step = answer.Device

-- how many calls it has left, at most
abbrev pub gate_calls_left : Gating → ℕ
gate_calls_left Closes = 6
gate_calls_left SyncsClosed = 5
gate_calls_left WritesBody = 4
gate_calls_left SyncsBody = 3
gate_calls_left Opens = 2
gate_calls_left SyncsOpen = 1
gate_calls_left Written = 0
gate_calls_left (Broken why) = 0

-- the calls that it makes from a state on, where each succeeds
unfoldable pub gate_kinds : ℕ → ℕ → List ℕ → Gating → List Kind
gate_kinds place start slot Closes =
    Writing place (closed_gate ∷ []) true ∷ Syncing true ∷ Writing (place + start) (drop start slot) true ∷ Syncing true ∷ Writing place (open_gate ∷ []) true ∷ Syncing true ∷ []
gate_kinds place start slot SyncsClosed = Syncing true ∷ Writing (place + start) (drop start slot) true ∷ Syncing true ∷ Writing place (open_gate ∷ []) true ∷ Syncing true ∷ []
gate_kinds place start slot WritesBody = Writing (place + start) (drop start slot) true ∷ Syncing true ∷ Writing place (open_gate ∷ []) true ∷ Syncing true ∷ []
gate_kinds place start slot SyncsBody = Syncing true ∷ Writing place (open_gate ∷ []) true ∷ Syncing true ∷ []
gate_kinds place start slot Opens = Writing place (open_gate ∷ []) true ∷ Syncing true ∷ []
gate_kinds place start slot SyncsOpen = Syncing true ∷ []
gate_kinds place start slot step = []

-- what the device reads as at the end, from a state on, where each call succeeds
unfoldable pub gate_leads : ℕ → ℕ → List ℕ → Gating → List ℕ → List ℕ
gate_leads place start slot Closes seen = written (written (written seen place (closed_gate ∷ [])) (place + start) (drop start slot)) place (open_gate ∷ [])
gate_leads place start slot SyncsClosed seen = written (written seen (place + start) (drop start slot)) place (open_gate ∷ [])
gate_leads place start slot WritesBody seen = written (written seen (place + start) (drop start slot)) place (open_gate ∷ [])
gate_leads place start slot SyncsBody seen = written seen place (open_gate ∷ [])
gate_leads place start slot Opens seen = written seen place (open_gate ∷ [])
gate_leads place start slot step seen = seen
