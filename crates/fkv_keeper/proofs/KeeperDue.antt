-- The call of the device that is due is all that a step makes of it.
use Rattle.std.proofs.Common.{◌≡◌, ℕ, List, [], ◌∷◌, Bool, true, refl}
use Rattle.std.specs.Prelude.{Option, Some, None}
use Rattle.fkv_base.specs.declared.numbers.Addr.{Addr}
use Rattle.fkv_base.specs.declared.shapes.Shape.{Shape}
use Rattle.fkv_disk.specs.Asks.{AskedCall, Reads, first_asked, calls_by, count_by}
use Rattle.fkv_disk.specs.Bytes.{bytes_at}
use Rattle.fkv_disk.specs.Calls.{Call, Write, Sync}
use Rattle.fkv_plane.specs.declared.places.Places.{Places}
use Rattle.fkv_flush.specs.declared.flushing.Flushing.{Flushing}
use Rattle.fkv_flush.specs.declared.flushing.Flushing.TheVariants as flush
use Rattle.fkv_flush.specs.declared.serving.Serving.{Serving}
use Rattle.fkv_flush.specs.declared.serving.Serving.TheVariants as serve
use Rattle.fkv_flush.specs.Devices.{calls_asked}
use Rattle.fkv_flush.specs.Flushing.{flush_ask, flush_calls}
use Rattle.fkv_flush.specs.Serving.{serve_ask, mail_place, mail_read}
use Rattle.fkv_maintain.specs.declared.maintaining.Maintaining.{Maintaining}
use Rattle.fkv_maintain.specs.declared.maintaining.Maintaining.TheVariants as part
use Rattle.fkv_maintain.specs.Maintaining.{MaintainState, maintaining_asked, maintaining_calls, maintaining_made}
use Rattle.fkv_manifest.specs.declared.commits.Committing.{Committing}
use Rattle.fkv_manifest.specs.declared.commits.Committing.TheVariants as writing
use Rattle.fkv_manifest.specs.declared.gates.Gating.{Gating}
use Rattle.fkv_manifest.specs.declared.gates.Gating.TheVariants as gate
use Rattle.fkv_manifest.specs.Committing.{CommitWriter, commit_step_call, commit_step_answer}
use Rattle.fkv_manifest.specs.Devices.{calls_next}
use Rattle.fkv_manifest.specs.Gating.{GateWriter, gate_step_call, gate_answer}
use Rattle.fkv_manifest.specs.Made.{with_call}
use Rattle.fkv_sweep.specs.Sweeping.{piece_bytes, place_of, read_addr, read_of, read_place}
use Rattle.fkv_keeper.specs.declared.keepers.Keeping.{Keeping}
use Rattle.fkv_keeper.specs.declared.keepers.Keeping.TheVariants.{Maintains, Writes as WritesCommit, Sweeps}
use Rattle.fkv_keeper.specs.Keeping.{KeeperModel, KeeperState}
use Rattle.fkv_keeper.specs.KeeperAsks.{MakesDue, keeping_calls, keeping_due, keeping_made, keeping_read}

-- what a step makes of the device, by the call that is due
record IsDue (due : Option AskedCall) (made : ℕ) (calls : Bool → List Call) : Type 0 where
  counted : made ≡ count_by due
  its : (done : Bool) → calls done ≡ calls_by due done

flush_due : (shape : Shape) (p : Places) (bytes : List ℕ) (step : Flushing) → IsDue (first_asked (flush_calls shape bytes step true)) (calls_asked (flush_ask p step)) (flush_calls shape bytes step)
unfolding flush_calls flush_ask
flush_due shape p bytes (flush.WritesPart part) = record { counted = refl; its = λ done. refl }
flush_due shape p bytes (flush.Syncs end) = record { counted = refl; its = λ done. refl }
flush_due shape p bytes flush.AtRest = record { counted = refl; its = λ done. refl }
flush_due shape p bytes flush.LoadsFlushed = record { counted = refl; its = λ done. refl }
flush_due shape p bytes (flush.LoadsEnd end) = record { counted = refl; its = λ done. refl }
flush_due shape p bytes (flush.LoadsWord part addr word) = record { counted = refl; its = λ done. refl }
flush_due shape p bytes (flush.RaisesFlushed end) = record { counted = refl; its = λ done. refl }

serve_due : (shape : Shape) (step : Serving) → IsDue (mail_read shape step) (calls_asked (serve_ask step)) (λ done. [])
unfolding mail_read serve_ask
serve_due shape (serve.Reads session addr) = record { counted = refl; its = λ done. refl }
serve_due shape serve.AtRest = record { counted = refl; its = λ done. refl }
serve_due shape (serve.LoadsState session) = record { counted = refl; its = λ done. refl }
serve_due shape (serve.LoadsAddress session) = record { counted = refl; its = λ done. refl }
serve_due shape (serve.StoresHeader session mail) = record { counted = refl; its = λ done. refl }
serve_due shape (serve.StoresKey session mail) = record { counted = refl; its = λ done. refl }
serve_due shape (serve.StoresValue session mail) = record { counted = refl; its = λ done. refl }
serve_due shape (serve.StoresReady session) = record { counted = refl; its = λ done. refl }

maintain_due : (shape : Shape) (p : Places) (s : MaintainState) (step : Maintaining) → IsDue (maintaining_asked shape s step) (maintaining_made p s step) (maintaining_calls shape s step)
unfolding maintaining_asked maintaining_made maintaining_calls
maintain_due shape p s part.Flushes = flush_due shape p s.bytes s.flushing
maintain_due shape p s part.Serves = serve_due shape s.serving
maintain_due shape p s step = record { counted = refl; its = λ done. refl }

gate_due : (w : GateWriter) (step : Gating) → IsDue (first_asked (with_call (gate_step_call w.place w.start w.slot step true) [])) (calls_next (gate_answer step)) (λ done. with_call (gate_step_call w.place w.start w.slot step done) [])
unfolding gate_step_call gate_answer
gate_due w gate.Closes = record { counted = refl; its = λ done. refl }
gate_due w gate.SyncsClosed = record { counted = refl; its = λ done. refl }
gate_due w gate.WritesBody = record { counted = refl; its = λ done. refl }
gate_due w gate.SyncsBody = record { counted = refl; its = λ done. refl }
gate_due w gate.Opens = record { counted = refl; its = λ done. refl }
gate_due w gate.SyncsOpen = record { counted = refl; its = λ done. refl }
gate_due w gate.Written = record { counted = refl; its = λ done. refl }
gate_due w (gate.Broken why) = record { counted = refl; its = λ done. refl }

commit_due : (w : CommitWriter) (step : Committing) → IsDue (first_asked (with_call (commit_step_call w.area w.triples w.gate step true) [])) (calls_next (commit_step_answer w.gate step)) (λ done. with_call (commit_step_call w.area w.triples w.gate step done) [])
unfolding commit_step_call commit_step_answer
commit_due w writing.WritesTriples = record { counted = refl; its = λ done. refl }
commit_due w writing.SyncsTriples = record { counted = refl; its = λ done. refl }
commit_due w writing.PutsSlot = gate_due w.gate w.gate.step
commit_due w (writing.Broken why) = record { counted = refl; its = λ done. refl }

-- a sweep reads
read_due : (shape : Shape) (found : Option Addr) → IsDue (read_of shape found) (count_by (read_of shape found)) (λ done. [])
read_due shape None = record { counted = refl; its = λ done. refl }
read_due shape (Some addr) = record { counted = refl; its = λ done. refl }

keeping_is_due : (shape : Shape) (p : Places) (s : KeeperState) (step : Keeping) → IsDue (keeping_due shape s step) (keeping_made p s step) (keeping_calls shape s step)
unfolding keeping_due keeping_made keeping_calls
keeping_is_due shape p s Maintains = maintain_due shape p s.maintain s.maintain.step
keeping_is_due shape p s WritesCommit = commit_due s.writes s.writes.step
keeping_is_due shape p s Sweeps = read_due s.sweep.shape (read_addr s.sweep)
keeping_is_due shape p s step = record { counted = refl; its = λ done. refl }

-- a read of what every turn does is a mailbox's
abbrev ReadsMail : Shape → Serving → Option AskedCall → Type 0
ReadsMail shape step due = (at count : ℕ) → due ≡ Some (Reads at count) → (at ≡ mail_place shape step) × (count ≡ 24)

calls_read_none : (shape : Shape) (step : Serving) (calls : List Call) → ReadsMail shape step (first_asked calls)
calls_read_none shape step [] at count its = cc
calls_read_none shape step (Write place bytes done ∷ rest) at count its = cc
calls_read_none shape step (Sync done ∷ rest) at count its = cc

serve_reads : (shape : Shape) (step : Serving) → ReadsMail shape step (mail_read shape step)
unfolding mail_read mail_place
serve_reads shape (serve.Reads session addr) at count its = (cc, cc)
serve_reads shape step at count its = cc

maintain_reads : (shape : Shape) (s : MaintainState) (step : Maintaining) → ReadsMail shape s.serving (maintaining_asked shape s step)
unfolding maintaining_asked
maintain_reads shape s part.Flushes at count its = calls_read_none shape s.serving (flush_calls shape s.bytes s.flushing true) at count its
maintain_reads shape s part.Serves at count its = serve_reads shape s.serving at count its
maintain_reads shape s step at count its = cc

sweep_reads : (shape : Shape) (found : Option Addr) (at count : ℕ) → read_of shape found ≡ Some (Reads at count) → (at ≡ place_of shape found) × (count ≡ piece_bytes)
sweep_reads shape None at count its = cc
sweep_reads shape (Some addr) at count its = (cc, cc)

read_as : (seen : List ℕ) (at count place most : ℕ) → (at ≡ place) × (count ≡ most) → bytes_at seen place most ≡ bytes_at seen at count
read_as seen at count place most same = rw (same.0, same.1) refl

-- what it reads is what its step reads of a device
keeping_reads : (k : KeeperModel) (step : Keeping) (seen : List ℕ) (at count : ℕ) → keeping_due k.shape k.state step ≡ Some (Reads at count) → keeping_read k step seen ≡ bytes_at seen at count
unfolding keeping_due keeping_read
keeping_reads k Maintains seen at count its = read_as seen at count (mail_place k.shape k.state.maintain.serving) 24 (maintain_reads k.shape k.state.maintain k.state.maintain.step at count its)
keeping_reads k WritesCommit seen at count its =
    let w = k.state.writes in
    read_as seen at count (mail_place k.shape k.state.maintain.serving) 24 (calls_read_none k.shape k.state.maintain.serving (with_call (commit_step_call w.area w.triples w.gate w.step true) []) at count its)
keeping_reads k Sweeps seen at count its = read_as seen at count (read_place k.state.sweep) piece_bytes (sweep_reads k.state.sweep.shape (read_addr k.state.sweep) at count its)
keeping_reads k step seen at count its = cc

pub makes_due : (k : KeeperModel) → MakesDue k
makes_due k =
    let due = keeping_is_due k.shape k.places k.state k.state.step in
    record { counted = due.counted; calls = due.its; read = λ seen at count its. keeping_reads k k.state.step seen at count its }
