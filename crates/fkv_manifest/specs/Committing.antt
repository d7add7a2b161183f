-- What a commit writes once its records are flushed.
use Rattle.std.specs.Prelude.{ℕ, List, [], ◌∷◌, Bool, true, false, Option, Some, None}
use Rattle.fkv_base.specs.declared.faults.Fault.TheVariants as fault
use Rattle.fkv_disk.specs.Calls.{Call, Write, Sync}
use Rattle.fkv_manifest.specs.Gating.{GateWriter, gate_call, gate_next, gate_answer}
use Rattle.fkv_manifest.specs.declared.answers.WriteAnswer.{WriteAnswer}
use Rattle.fkv_manifest.specs.declared.answers.WriteAnswer.TheVariants as answer
use Rattle.fkv_manifest.specs.declared.commits.Committing.{Committing}
use Rattle.fkv_manifest.specs.declared.commits.Committing.TheVariants.{WritesTriples, SyncsTriples, PutsSlot, Broken}

-- where the triples lie, their bytes, and the slot with its machine
pub record CommitWriter : Type 0 where
  pub area : ℕ
  pub triples : List ℕ
  pub gate : GateWriter
  pub step : Committing

-- where there are no triples their write is left out, and the sync stays
abbrev pub commit_start : List ℕ → Committing
commit_start [] = SyncsTriples
commit_start (b ∷ rest) = WritesTriples

-- the call that a state makes, and whether it succeeded
unfoldable pub commit_step_call : ℕ → List ℕ → GateWriter → Committing → Bool → Option Call
commit_step_call area triples gate WritesTriples done = Some (Write area triples done)
commit_step_call area triples gate SyncsTriples done = Some (Sync done)
commit_step_call area triples gate PutsSlot done = gate_call gate done
commit_step_call area triples gate (Broken why) done = None

abbrev pub commit_call : CommitWriter → Bool → Option Call
commit_call w done = commit_step_call w.area w.triples w.gate w.step done

-- where the call leads; a failure ends it all
unfoldable pub commit_step_next : Committing → Bool → Committing
commit_step_next WritesTriples true = SyncsTriples
commit_step_next SyncsTriples true = PutsSlot
commit_step_next WritesTriples false = Broken fault.Device
commit_step_next SyncsTriples false = Broken fault.Device
commit_step_next PutsSlot done = PutsSlot
commit_step_next (Broken why) done = Broken why

-- behind the triples the slot's machine makes the calls
unfoldable pub gate_after : GateWriter → Committing → Bool → GateWriter
gate_after gate PutsSlot done = record gate { step = gate_next gate.step done }
gate_after gate step done = gate

abbrev pub commit_next : CommitWriter → Bool → CommitWriter
commit_next w done = record w { gate = gate_after w.gate w.step done; step = commit_step_next w.step done }

-- what it answers
unfoldable pub commit_step_answer : GateWriter → Committing → WriteAnswer
commit_step_answer gate WritesTriples = answer.Device
commit_step_answer gate SyncsTriples = answer.Device
commit_step_answer gate PutsSlot = gate_answer gate.step
commit_step_answer gate (Broken why) = answer.Broken why

abbrev pub commit_answer : CommitWriter → WriteAnswer
commit_answer w = commit_step_answer w.gate w.step
