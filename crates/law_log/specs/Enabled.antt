-- What a log is opened with, and when each event is enabled.
use Rattle.std.specs.Prelude.{◌≡◌, ◌≢◌, ◌⊎◌, ℕ, ◌<◌, ◌≤◌, ⊤, Option, Some, None, List, [], ◌∷◌}
use Rattle.std.specs.FinMap.{get}
use Rattle.fkv_map.specs.declared.history.HistoryEntry.{HistoryEntry}
use Rattle.fkv_map.specs.Map.{Map, reply_to_read}
use Rattle.fkv_map.specs.Keys.{key_of, value_applied, reply_from}
use Rattle.law_log.specs.Trace.{Effect, TraceLine, CallsUpdate, RefusesUpdate, GivesResult, CallsRead, AnswersRead, IsIn, called_as, HasUpdate, HasReply}
use Rattle.law_log.specs.Chains.{Cell, Logged, Unborn, Reserved, Published, value_at, version_at, head_of, IsWithin, NoneLater}
use Rattle.law_log.specs.Ghosts.{Log, NotCalled, HasValue, Ghosts, GhostEvent, Tells, FindsEntry, TakesValue, Reserves, Publishes, Drops, Changes, Fixes, first_from, shown, ghost_run}

-- each record of a chain is published, leads to the next one, and its address is above that
abbrev pub previous_of : Logged → Option ℕ
previous_of (Published cell) = Some cell.previous
previous_of logged = None

abbrev pub IsLinked : (ℕ → Logged) → List ℕ → Type 0
IsLinked cells [] = ⊤
IsLinked cells (a ∷ older) = (previous_of (cells a) ≡ Some (head_of older)) × (head_of older < a) × IsLinked cells older

-- a published record, of a key of this home
pub record IsOfHome (home : ℕ → ℕ) (at : ℕ) (logged : Logged) : Type 0 where
  pub cell : Cell
  pub its : logged ≡ Published cell
  pub its_home : home cell.key ≡ at

-- what chains and cells of a log have in common
pub record AreChains (home : ℕ → ℕ) (log : Log) : Type 0 where
  pub in_chain : (h a : ℕ) → IsIn a (log.chains h) → IsOfHome home h (log.cells a)
  pub its_chain : (a : ℕ) (cell : Cell) → log.cells a ≡ Published cell → IsIn a (log.chains (home cell.key))
  pub linked : (h : ℕ) → IsLinked log.cells (log.chains h)

-- the record changes no more in place: 0 is none, and below whatever is fixed
abbrev pub IsFixed : Log → ℕ → Type 0
IsFixed log a = a < log.fixed

-- it changes no more before a record of this version is made of it: it is fixed, or of an older version
abbrev pub StandsStill : Log → ℕ → ℕ → Type 0
StandsStill log a version = IsFixed log a ⊎ (version_at (log.cells a) < version)

-- What one knows who makes a record for an update. It leads to an address at which its chain begins or began; and the record of its key that
-- stands first from there stands still. Of that one's value the operation has made the record's value and the reply.
pub record IsMade (home : ℕ → ℕ) (log : Log) (entry : HistoryEntry) (cell : Cell) : Type 0 where
  pub its_key : cell.key ≡ (key_of entry.op).0
  pub leads : IsWithin cell.previous (log.chains (home cell.key))
  pub still : StandsStill log (first_from home log cell.key cell.previous) cell.version
  pub its_value : cell.value ≡ value_applied (value_at (log.cells (first_from home log cell.key cell.previous))) entry.op
  pub its_reply : entry.reply ≡ reply_from (value_at (log.cells (first_from home log cell.key cell.previous))) entry.op

-- no record of a later version is being made of the one at the address
abbrev pub NoneCopies : (ℕ → ℕ) → Log → ℕ → ℕ → Type 0
NoneCopies home log a version = (b : ℕ) (entry : HistoryEntry) (cell : Cell) → log.cells b ≡ Reserved entry cell → version < cell.version → first_from home log cell.key cell.previous ≢ a

-- an update of this version comes behind no later one in the chain of the home
abbrev pub NoneAbove : Log → ℕ → ℕ → Type 0
NoneAbove log h version = NoneLater log.cells (log.chains h) version

-- the update was called and not refused, and has not taken effect
pub record IsInHand (g : Ghosts) (entry : HistoryEntry) : Type 0 where
  pub called : called_as g.trace entry.session entry.serial.0 ≡ Some entry.op
  pub none_yet : HasUpdate g.log.history entry.session entry.serial.0 → ⊥

-- a call's name is free; what is refused has not taken effect; what is given is the reply of the history, or the value that a read has
abbrev pub IsLineEnabled : Ghosts → TraceLine → Type 0
IsLineEnabled g (CallsUpdate session serial op) = called_as g.trace session serial ≡ None
IsLineEnabled g (RefusesUpdate session serial) = HasUpdate g.log.history session serial → ⊥
IsLineEnabled g (GivesResult session serial reply) = HasReply g.log.history session serial reply
IsLineEnabled g (CallsRead reader key) = g.reads reader ≡ NotCalled
IsLineEnabled g (AnswersRead reader reply) = (key : ℕ) × (seen : List Effect) × (value : Option ℕ) × (g.reads reader ≡ HasValue key seen value) × (reply ≡ reply_to_read value)

-- a record is published where its chain begins with what it leads to and has no later version, and where its update is in hand
abbrev pub IsPublishEnabled : (ℕ → ℕ) → Ghosts → Logged → Type 0
IsPublishEnabled home g (Reserved entry cell) = (head_of (g.log.chains (home cell.key)) ≡ cell.previous) × NoneAbove g.log (home cell.key) cell.version × IsInHand g entry
IsPublishEnabled home g logged = ⊤

-- An update that may change a record in place: the record isn't fixed, and nobody makes one of a later version of it. The update is of its
-- key, takes its version, and none of a later version stands in the chain; it is replied to by the record's value.
pub record IsChange (home : ℕ → ℕ) (log : Log) (a : ℕ) (entry : HistoryEntry) (cell : Cell) : Type 0 where
  pub not_fixed : log.fixed ≤ a
  pub no_copies : NoneCopies home log a cell.version
  pub none_above : NoneAbove log (home cell.key) cell.version
  pub its_key : cell.key ≡ (key_of entry.op).0
  pub its_reply : entry.reply ≡ reply_from cell.value entry.op

abbrev pub IsChangeEnabled : (ℕ → ℕ) → Ghosts → ℕ → HistoryEntry → Logged → Type 0
IsChangeEnabled home g a entry (Published cell) = IsChange home g.log a entry cell × IsInHand g entry
IsChangeEnabled home g a entry logged = ⊤

abbrev pub IsEnabled : (ℕ → ℕ) → Ghosts → GhostEvent → Type 0
IsEnabled home g (Tells line) = IsLineEnabled g line
IsEnabled home g (FindsEntry reader) = ⊤
IsEnabled home g (TakesValue reader) = ⊤
IsEnabled home g (Reserves a entry cell) = (g.log.cells a ≡ Unborn) × (cell.previous < a) × IsMade home g.log entry cell
IsEnabled home g (Publishes a) = IsPublishEnabled home g (g.log.cells a)
IsEnabled home g (Drops a) = ⊤
IsEnabled home g (Changes a entry) = IsChangeEnabled home g a entry (g.log.cells a)
IsEnabled home g (Fixes a) = ⊤

-- each event of a run is enabled where it happens
unfoldable pub AreEnabled : (ℕ → ℕ) → Ghosts → List GhostEvent → Type 0
AreEnabled home opening [] = ⊤
AreEnabled home opening (event ∷ before) = AreEnabled home opening before × IsEnabled home (ghost_run home opening before) event

-- A log is opened with what its chains lead to: published records, all fixed and of the opening's version, which show the opening map. Nothing
-- has been told.
pub record IsOpened (home : ℕ → ℕ) (m : Map) (version : ℕ) (g : Ghosts) : Type 0 where
  pub chains : AreChains home g.log
  pub none : g.log.cells 0 ≡ Unborn
  pub some_fixed : 0 < g.log.fixed
  pub all_fixed : (a : ℕ) (cell : Cell) → g.log.cells a ≡ Published cell → IsFixed g.log a
  pub one_version : (a : ℕ) (cell : Cell) → g.log.cells a ≡ Published cell → cell.version ≡ version
  pub none_reserved : (a : ℕ) (entry : HistoryEntry) (cell : Cell) → g.log.cells a ≡ Reserved entry cell → ⊥
  pub shows : (key : ℕ) → shown home g.log key ≡ get m key
  pub no_history : g.log.history ≡ []
  pub no_trace : g.trace ≡ []
  pub no_reads : (reader : ℕ) → g.reads reader ≡ NotCalled
