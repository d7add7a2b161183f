-- What the keeper makes of the device, and how many asks and calls of the device a call in hand has left.
use Rattle.std.specs.Prelude.{◌≡◌, ℕ, ◌+◌, ◌*◌, ◌<◌, ◌↔◌, List, [], Bool, true, Option, Some, None, Result, is_ok}
use Rattle.fkv_base.specs.Limits.{drain_slots}
use Rattle.fkv_base.specs.declared.faults.Fault.{Fault}
use Rattle.fkv_base.specs.declared.shapes.Shape.{Shape}
use Rattle.fkv_disk.specs.Bytes.{bytes_at}
use Rattle.fkv_disk.specs.Asks.{AskedCall, Reads, first_asked, calls_by, count_by, kinds_by}
use Rattle.fkv_disk.specs.Calls.{Call}
use Rattle.fkv_disk.specs.Device.{HasCause, MakesCalls}
use Rattle.fkv_disk.specs.Kinds.{Kind, Foretold}
use Rattle.fkv_plane.specs.declared.asks.Ask.{Ask}
use Rattle.fkv_plane.specs.declared.asks.Ask.TheVariants.{Done}
use Rattle.fkv_plane.specs.declared.places.Places.{Places}
use Rattle.fkv_checkpoint.specs.Copying.{Copier, most_at_once, part_asks_left}
use Rattle.fkv_plane.specs.AsksLeft.{sum_left}
use Rattle.fkv_commit.specs.AsksLeft.{start_asks_left, enter_asks_left, seek_asks_left, wait_asks_left, finish_asks_left}
use Rattle.fkv_flush.specs.Devices.{Adds}
use Rattle.fkv_flush.specs.Serving.{mail_place}
use Rattle.fkv_manifest.specs.declared.commits.Committing.{Committing}
use Rattle.fkv_manifest.specs.declared.commits.Committing.TheVariants as writing
use Rattle.fkv_manifest.specs.Committing.{CommitWriter, commit_answer, commit_call}
use Rattle.fkv_manifest.specs.Gating.{GateWriter, gate_calls_left}
use Rattle.fkv_manifest.specs.Devices.{calls_next}
use Rattle.fkv_manifest.specs.Made.{with_call}
use Rattle.fkv_keeper.specs.declared.answers.KeeperTold.{KeeperTold}
use Rattle.fkv_keeper.specs.declared.answers.KeeperTold.TheVariants.{Device}
use Rattle.fkv_keeper.specs.declared.keepers.Keeping.{Keeping}
use Rattle.fkv_keeper.specs.declared.keepers.Keeping.TheVariants.{Ended, Starts, Maintains, LoadsPhase, Enters, Copies, Seeks, Waits, Writes, Finishes, Sweeps}
use Rattle.fkv_keeper.specs.Answers.{is_busy}
use Rattle.fkv_maintain.specs.AsksLeft.{maintain_asks_left, most_maintain_asks}
use Rattle.fkv_keeper.specs.Keeping.{KeeperModel, KeeperState, keeper_called}
use Rattle.fkv_sweep.specs.AsksLeft.{most_sweep_asks, sweep_asks_left}
use Rattle.fkv_sweep.specs.Sweeping.{read_asked, read_place, piece_bytes}
use Rattle.fkv_maintain.specs.Maintaining.{maintain_asked, maintain_calls, maintain_made}

-- how many calls of the device it makes
unfoldable pub keeping_made : Places → KeeperState → Keeping → ℕ
keeping_made p s Maintains = maintain_made p s.maintain
keeping_made p s Writes = calls_next (commit_answer s.writes)
keeping_made p s Sweeps = count_by (read_asked s.sweep)
keeping_made p s step = 0

abbrev pub keeper_made : Places → KeeperState → ℕ
keeper_made p s = keeping_made p s s.step

-- one where it asks for one, and else none
abbrev pub keeper_calls_asked : Ask KeeperTold → ℕ
keeper_calls_asked (Done Device) = 1
keeper_calls_asked ask = 0

-- the write or sync that it makes of the device, and whether it succeeded
unfoldable pub keeping_calls : Shape → KeeperState → Keeping → Bool → List Call
keeping_calls shape s Maintains done = maintain_calls shape s.maintain done
keeping_calls shape s Writes done = with_call (commit_call s.writes done) []
keeping_calls shape s step done = []

abbrev pub keeper_calls : Shape → KeeperState → Bool → List Call
keeper_calls shape s done = keeping_calls shape s s.step done

-- The call of the device that it makes next, if it makes one.
unfoldable pub keeping_due : Shape → KeeperState → Keeping → Option AskedCall
keeping_due shape s Maintains = maintain_asked shape s.maintain
keeping_due shape s Writes = first_asked (with_call (commit_call s.writes true) [])
keeping_due shape s Sweeps = read_asked s.sweep
keeping_due shape s step = None

abbrev pub keeper_due : KeeperModel → Option AskedCall
keeper_due k = keeping_due k.shape k.state k.state.step

-- what a device of these bytes gives: a sweep the records that it reads in a row, and else the one at the address of the mailbox that is served
unfoldable pub keeping_read : KeeperModel → Keeping → List ℕ → List ℕ
keeping_read k Sweeps seen = bytes_at seen (read_place k.state.sweep) piece_bytes
keeping_read k step seen = bytes_at seen (mail_place k.shape k.state.maintain.serving) 24

abbrev pub keeper_read : KeeperModel → List ℕ → List ℕ
keeper_read k seen = keeping_read k k.state.step seen

-- A step at the device: it was called, and what the device counts and refuses says with what result; by this the keeper went on. Any device has
-- met the call that is due, with its place and bytes and this outcome, and no other one. An honest device took what the keeper writes, and gave
-- what it reads as.
pub record IsDeviceStep (k : KeeperModel) (honest : Type 0) (failed failed' : ℕ) (refuses refuses' : ℕ → Bool) (expects expects' : List Kind → Foretold) (seen seen' : List ℕ) (may_leave may_leave' : List ℕ → Type 0) (next : KeeperModel) : Type 0 where
  pub called : Result (Ask KeeperTold) Fault
  pub bytes : List ℕ
  pub went_on : next ≡ record k { state = keeper_called k.shape k.places k.state (is_ok called) bytes }
  pub cause : HasCause failed failed' called
  pub counted : MakesCalls (keeper_made k.places k.state) refuses refuses' called
  pub kind : expects' ≡ kinds_by (keeper_due k) (is_ok called) expects
  pub read : honest → next ≡ record k { state = keeper_called k.shape k.places k.state (is_ok called) (keeper_read k seen) }
  pub wrote : honest → Adds (keeper_calls k.shape k.state (is_ok called)) seen seen' may_leave may_leave'

-- What a step makes of the device is the call that is due, and nothing else. The calls that the step counts, and those that it writes and syncs, are
-- this one, and what it reads of a device is what this one reads.
pub record MakesDue (k : KeeperModel) : Type 0 where
  pub counted : keeper_made k.places k.state ≡ count_by (keeper_due k)
  pub calls : (done : Bool) → keeper_calls k.shape k.state done ≡ calls_by (keeper_due k) done
  pub read : (seen : List ℕ) (at count : ℕ) → keeper_due k ≡ Some (Reads at count) → keeper_read k seen ≡ bytes_at seen at count

-- the calls that the writes of a commit have left, at most: two for the triples, and those of the slot
abbrev pub committing_calls_left : GateWriter → Committing → ℕ
committing_calls_left gate writing.WritesTriples = gate_calls_left gate.step + 2
committing_calls_left gate writing.SyncsTriples = gate_calls_left gate.step + 1
committing_calls_left gate writing.PutsSlot = gate_calls_left gate.step
committing_calls_left gate (writing.Broken why) = 0

abbrev pub writes_left : CommitWriter → ℕ
writes_left w = committing_calls_left w.gate w.step

-- up to its next rest
abbrev pub copy_left : Option Copier → ℕ
copy_left None = 0
copy_left (Some m) = part_asks_left m.places m.copying

-- eight for each of the buckets and of the overflow buckets that are copied without a rest
abbrev pub most_copy_asks : ℕ
most_copy_asks = 8 * (most_at_once + most_at_once)

-- behind the wait come eight calls, the durable words and rest
abbrev pub most_write_asks : ℕ → ℕ
most_write_asks sessions = 8 + (sessions + 1)

-- what is done for the commit in hand, whichever part it is: wait-pending is deferred, the index is copied, the points are sought, or the commit
-- waits and is written
abbrev pub most_part_asks : ℕ → ℕ → ℕ
most_part_asks seeks finishes = (2 * drain_slots + 4) + most_copy_asks + (4 * seeks + 2 * drain_slots + 7) + (2 + most_write_asks finishes)

-- a turn does one thing for the commit, or it sweeps
abbrev pub most_behind_phase : Places → ℕ → ℕ → ℕ
most_behind_phase p seeks finishes = most_part_asks seeks finishes + most_sweep_asks p

-- The asks and calls that are left, at most: those of the machine inside that is under way, and of what may come behind it. A machine that is at its
-- end asks for nothing, and nothing comes behind it.
unfoldable pub keeping_asks_left : Shape → Places → KeeperState → Keeping → ℕ
keeping_asks_left shape p s (Ended its) = 0
keeping_asks_left shape p s Starts = start_asks_left s.start
keeping_asks_left shape p s Maintains = sum_left (maintain_asks_left shape s.maintain) (most_behind_phase s.sweep.places s.seek.sessions s.finish.sessions + 1)
keeping_asks_left shape p s LoadsPhase = most_behind_phase s.sweep.places s.seek.sessions s.finish.sessions + 1
keeping_asks_left shape p s Enters = enter_asks_left s.enter
keeping_asks_left shape p s Copies = copy_left s.copy
keeping_asks_left shape p s Seeks = seek_asks_left s.seek
keeping_asks_left shape p s Waits = sum_left (wait_asks_left s.wait) (most_write_asks s.finish.sessions)
keeping_asks_left shape p s Writes = sum_left (writes_left s.writes) (s.finish.sessions + 1)
keeping_asks_left shape p s Finishes = finish_asks_left s.finish
keeping_asks_left shape p s Sweeps = sweep_asks_left s.sweep

abbrev pub keeper_asks_left : Shape → Places → KeeperState → ℕ
keeper_asks_left shape p s = keeping_asks_left shape p s s.step

-- a commit's beginning, and a turn: but for a sweep, which follows chains, it has as many in a large index as in a small one
abbrev pub most_begin_asks : ℕ
most_begin_asks = 2 * drain_slots + 7

abbrev pub most_turn_asks : Shape → Places → ℕ
most_turn_asks shape p = most_maintain_asks shape + (most_behind_phase p shape.sessions shape.sessions + 1)

-- a call is in hand just where some are left
abbrev pub IsBusyWhereLeft : ℕ → Ask KeeperTold → Type 0
IsBusyWhereLeft left ask = (is_busy ask ≡ true) ↔ (0 < left)
