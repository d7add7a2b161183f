-- A log of cells and chains, and how events change it, its history and what is told.
use Rattle.std.specs.Prelude.{ℕ, max, nat_eq, cond, Option, List, [], ◌∷◌}
use Rattle.fkv_map.specs.declared.history.HistoryEntry.{HistoryEntry}
use Rattle.fkv_map.specs.Keys.{value_applied}
use Rattle.law_log.specs.Trace.{Effect, TraceLine, CallsRead}
use Rattle.law_log.specs.Chains.{Cell, Logged, Reserved, Published, Dropped, value_at, head_of, chain_from, first_such, has_key, has_key_in, has_key_upto}

pub record Log : Type 0 where
  pub cells : ℕ → Logged
  -- by home
  pub chains : ℕ → List ℕ
  -- records below this address change no more in place
  pub fixed : ℕ
  -- the newest first
  pub history : List Effect

-- How far a read has come. It keeps its key, and what had taken effect when it was called.
pub data Reading : Type 0 where
  NotCalled : Reading
  Called : ℕ → List Effect → Reading
  -- it goes down its chain from an address
  Walks : ℕ → List Effect → ℕ → Reading
  -- it has the value that it will answer
  HasValue : ℕ → List Effect → Option ℕ → Reading

-- The log, the trace, the newest line first, and each read.
pub record Ghosts : Type 0 where
  pub log : Log
  pub trace : List TraceLine
  pub reads : ℕ → Reading

pub data GhostEvent : Type 0 where
  -- a call tells something
  Tells : TraceLine → GhostEvent
  -- the read finds where its chain begins, the first time or again
  FindsEntry : ℕ → GhostEvent
  -- the read takes the value of its record
  TakesValue : ℕ → GhostEvent
  -- an address is taken for a record
  Reserves : ℕ → HistoryEntry → Cell → GhostEvent
  -- the record at the address comes to stand at the head of its chain: its update takes effect
  Publishes : ℕ → GhostEvent
  -- the record at the address is given up
  Drops : ℕ → GhostEvent
  -- the record at the address changes in place, by an update that takes effect so
  Changes : ℕ → HistoryEntry → GhostEvent
  -- records below the address change no more in place
  Fixes : ℕ → GhostEvent

-- a function changed at one place
unfoldable pub set_at : {X : Type 0} → (ℕ → X) → ℕ → X → ℕ → X
set_at f i x j = cond (nat_eq j i) x (f j)

-- the first record of a key down its home's chain from an address
abbrev pub first_from : (ℕ → ℕ) → Log → ℕ → ℕ → ℕ
first_from home log key a = first_such (has_key key) log.cells (chain_from a (log.chains (home key)))

-- its newest record
abbrev pub newest_of : (ℕ → ℕ) → Log → ℕ → ℕ
newest_of home log key = first_such (has_key key) log.cells (log.chains (home key))

-- the value that its newest record shows
abbrev pub shown : (ℕ → ℕ) → Log → ℕ → Option ℕ
shown home log key = value_at (log.cells (newest_of home log key))

-- the newest one of a version
abbrev pub newest_in : (ℕ → ℕ) → Log → ℕ → ℕ → ℕ
newest_in home log version key = first_such (has_key_in version key) log.cells (log.chains (home key))

-- of the versions up to one
abbrev pub newest_upto : (ℕ → ℕ) → Log → ℕ → ℕ → ℕ
newest_upto home log version key = first_such (has_key_upto version key) log.cells (log.chains (home key))

-- and its value
abbrev pub shown_upto : (ℕ → ℕ) → Log → ℕ → ℕ → Option ℕ
shown_upto home log version key = value_at (log.cells (newest_upto home log version key))

-- ---- how an event changes the log
-- the effect of an update by a record, in the record's version
abbrev pub effect_of : HistoryEntry → Cell → Effect
effect_of entry cell = record { entry = entry; version = cell.version }

-- a record that was being made stands at the head of its chain, and its update has taken effect
abbrev pub published : (ℕ → ℕ) → Log → ℕ → Logged → Log
published home log a (Reserved entry cell) = record log {
  cells = set_at log.cells a (Published cell);
  chains = set_at log.chains (home cell.key) (a ∷ log.chains (home cell.key));
  history = effect_of entry cell ∷ log.history;
}
published home log a logged = log

-- a record that was being made is given up
abbrev pub dropped : Log → ℕ → Logged → Log
dropped log a (Reserved entry cell) = record log { cells = set_at log.cells a (Dropped cell) }
dropped log a logged = log

-- the record with the value that an operation makes of its own
abbrev pub changed_by : HistoryEntry → Cell → Cell
changed_by entry cell = record cell { value = value_applied cell.value entry.op }

-- a published record is changed, and the update has taken effect
abbrev pub changed : Log → ℕ → HistoryEntry → Logged → Log
changed log a entry (Published cell) = record log { cells = set_at log.cells a (Published (changed_by entry cell)); history = effect_of entry cell ∷ log.history }
changed log a entry logged = log

-- what an event leaves of the log
abbrev pub log_after : (ℕ → ℕ) → Log → GhostEvent → Log
log_after home log (Tells line) = log
log_after home log (FindsEntry reader) = log
log_after home log (TakesValue reader) = log
log_after home log (Reserves a entry cell) = record log { cells = set_at log.cells a (Reserved entry cell) }
log_after home log (Publishes a) = published home log a (log.cells a)
log_after home log (Drops a) = dropped log a (log.cells a)
log_after home log (Changes a entry) = changed log a entry (log.cells a)
log_after home log (Fixes a) = record log { fixed = max log.fixed a }

-- ---- and what is told
-- one line more, where an event tells one
abbrev pub trace_after : List TraceLine → GhostEvent → List TraceLine
trace_after trace (Tells line) = line ∷ trace
trace_after trace event = trace

-- the read goes from where its chain begins now
abbrev pub found : (ℕ → ℕ) → Log → Reading → Reading
found home log (Called key seen) = Walks key seen (head_of (log.chains (home key)))
found home log (Walks key seen a) = Walks key seen (head_of (log.chains (home key)))
found home log reading = reading

-- the read has the value of the first record of its key from there
abbrev pub took : (ℕ → ℕ) → Log → Reading → Reading
took home log (Walks key seen a) = HasValue key seen (value_at (log.cells (first_from home log key a)))
took home log reading = reading

-- a read that is called has seen what had taken effect
abbrev pub read_called : List Effect → TraceLine → (ℕ → Reading) → ℕ → Reading
read_called history (CallsRead reader key) reads = set_at reads reader (Called key history)
read_called history line reads = reads

-- how far each read has come then
abbrev pub reads_after : (ℕ → ℕ) → Log → (ℕ → Reading) → GhostEvent → ℕ → Reading
reads_after home log reads (Tells line) = read_called log.history line reads
reads_after home log reads (FindsEntry reader) = set_at reads reader (found home log (reads reader))
reads_after home log reads (TakesValue reader) = set_at reads reader (took home log (reads reader))
reads_after home log reads event = reads

-- ---- a whole run
-- one event
unfoldable pub ghosts_after : (ℕ → ℕ) → Ghosts → GhostEvent → Ghosts
ghosts_after home g event = record { log = log_after home g.log event; trace = trace_after g.trace event; reads = reads_after home g.log g.reads event }

-- a list of them, the newest first
unfoldable pub ghost_run : (ℕ → ℕ) → Ghosts → List GhostEvent → Ghosts
ghost_run home opening [] = opening
ghost_run home opening (event ∷ before) = ghosts_after home (ghost_run home opening before) event
