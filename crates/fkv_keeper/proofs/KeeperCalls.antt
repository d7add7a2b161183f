-- A step at the device makes one write or sync at most, and what a success makes has succeeded.
use Rattle.std.proofs.Common.{◌≡◌, ◌⊎◌, inl, inr, refl, List, [], ◌∷◌, Bool, true}
use Rattle.std.specs.Prelude.{Option, Some, None}
use Rattle.fkv_base.specs.declared.shapes.Shape.{Shape}
use Rattle.fkv_disk.specs.Calls.{AllDone, Call}
use Rattle.fkv_flush.specs.declared.flushing.Flushing.{Flushing}
use Rattle.fkv_flush.specs.declared.flushing.Flushing.TheVariants.{WritesPart, Syncs}
use Rattle.fkv_flush.specs.Flushing.{flush_calls}
use Rattle.fkv_maintain.specs.declared.maintaining.Maintaining.{Maintaining}
use Rattle.fkv_maintain.specs.declared.maintaining.Maintaining.TheVariants as part
use Rattle.fkv_maintain.specs.Maintaining.{MaintainState, maintaining_calls}
use Rattle.fkv_manifest.specs.declared.commits.Committing.{Committing}
use Rattle.fkv_manifest.specs.declared.commits.Committing.TheVariants as to
use Rattle.fkv_manifest.specs.declared.gates.Gating.{Gating}
use Rattle.fkv_manifest.specs.declared.gates.Gating.TheVariants as gate
use Rattle.fkv_manifest.specs.Committing.{commit_step_call}
use Rattle.fkv_manifest.specs.Gating.{GateWriter, gate_step_call}
use Rattle.fkv_manifest.specs.Made.{with_call}
use Rattle.fkv_keeper.specs.declared.keepers.Keeping.{Keeping}
use Rattle.fkv_keeper.specs.declared.keepers.Keeping.TheVariants.{Maintains, Writes}
use Rattle.fkv_keeper.specs.Keeping.{KeeperState}
use Rattle.fkv_keeper.specs.KeeperAsks.{keeper_calls, keeping_calls}

flush_done_calls : (shape : Shape) (bytes : List _) (step : Flushing) → AllDone (flush_calls shape bytes step true)
unfolding flush_calls
flush_done_calls shape bytes (WritesPart its) = tt
flush_done_calls shape bytes (Syncs end) = tt
flush_done_calls shape bytes step = tt

maintain_done_calls : (shape : Shape) (s : MaintainState) (step : Maintaining) → AllDone (maintaining_calls shape s step true)
unfolding maintaining_calls
maintain_done_calls shape s part.Flushes = flush_done_calls shape s.bytes s.flushing
maintain_done_calls shape s step = tt

gate_done_calls : (place start : _) (slot : List _) (step : Gating) → AllDone (with_call (gate_step_call place start slot step true) [])
unfolding gate_step_call
gate_done_calls place start slot gate.Closes = tt
gate_done_calls place start slot gate.SyncsClosed = tt
gate_done_calls place start slot gate.WritesBody = tt
gate_done_calls place start slot gate.SyncsBody = tt
gate_done_calls place start slot gate.Opens = tt
gate_done_calls place start slot gate.SyncsOpen = tt
gate_done_calls place start slot gate.Written = tt
gate_done_calls place start slot (gate.Broken why) = tt

write_done_calls : (area : _) (triples : List _) (w : GateWriter) (step : Committing) → AllDone (with_call (commit_step_call area triples w step true) [])
unfolding commit_step_call
write_done_calls area triples w to.WritesTriples = tt
write_done_calls area triples w to.SyncsTriples = tt
write_done_calls area triples w to.PutsSlot = gate_done_calls w.place w.start w.slot w.step
write_done_calls area triples w (to.Broken why) = tt

keeping_done_calls : (shape : Shape) (s : KeeperState) (step : Keeping) → AllDone (keeping_calls shape s step true)
unfolding keeping_calls
keeping_done_calls shape s Maintains = maintain_done_calls shape s.maintain s.maintain.step
keeping_done_calls shape s Writes = write_done_calls s.writes.area s.writes.triples s.writes.gate s.writes.step
keeping_done_calls shape s step = tt

pub done_calls : (shape : Shape) (s : KeeperState) → AllDone (keeper_calls shape s true)
done_calls shape s = keeping_done_calls shape s s.step

-- at most one
abbrev AtMostOne : List Call → Type 0
AtMostOne calls = (calls ≡ []) ⊎ ((its : Call) × (calls ≡ its ∷ []))

one_call : (found : Option Call) → AtMostOne (with_call found [])
one_call None = inl refl
one_call (Some its) = inr (its, refl)

flush_one : (shape : Shape) (bytes : List _) (step : Flushing) (done : Bool) → AtMostOne (flush_calls shape bytes step done)
unfolding flush_calls
flush_one shape bytes (WritesPart its) done = inr (_, refl)
flush_one shape bytes (Syncs end) done = inr (_, refl)
flush_one shape bytes step done = inl refl

maintain_one : (shape : Shape) (s : MaintainState) (step : Maintaining) (done : Bool) → AtMostOne (maintaining_calls shape s step done)
unfolding maintaining_calls
maintain_one shape s part.Flushes done = flush_one shape s.bytes s.flushing done
maintain_one shape s step done = inl refl

keeping_one : (shape : Shape) (s : KeeperState) (step : Keeping) (done : Bool) → AtMostOne (keeping_calls shape s step done)
unfolding keeping_calls
keeping_one shape s Maintains done = maintain_one shape s.maintain s.maintain.step done
keeping_one shape s Writes done = one_call (commit_step_call s.writes.area s.writes.triples s.writes.gate s.writes.step done)
keeping_one shape s step done = inl refl

pub calls_one : (shape : Shape) (s : KeeperState) (done : Bool) → (keeper_calls shape s done ≡ []) ⊎ ((its : Call) × (keeper_calls shape s done ≡ its ∷ []))
calls_one shape s done = keeping_one shape s s.step done
