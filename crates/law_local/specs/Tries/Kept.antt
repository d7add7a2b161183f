-- What others' steps have to leave to a try.
use Rattle.std.specs.Prelude.{◌≡◌, ℕ, ◌<◌, ⊤}
use Rattle.fkv_base.specs.declared.numbers.Addr.{Addr}
use Rattle.fkv_map.specs.declared.operations.Reply.{Reply}
use Rattle.fkv_plane.specs.declared.asks.Ask.TheVariants.{Done}
use Rattle.fkv_log.specs.declared.reserving.ReserveAnswer.TheVariants.{Reserved}
use Rattle.fkv_log.specs.Reserving.{reserve_next_ask}
use Rattle.law_log.specs.Chains.{Cell, Published, value_at, version_at}
use Rattle.law_log.specs.Ghosts.{Log, first_from}
use Rattle.law_log.specs.Enabled.{IsFixed}
use Rattle.fkv_ops.specs.declared.appending.Appending.{Appending}
use Rattle.fkv_ops.specs.declared.appending.Appending.TheVariants.{Reserves, Invalidates}
use Rattle.fkv_ops.specs.declared.appending.Appending.TheVariants.{Publishes as PublishesAt}
use Rattle.fkv_ops.specs.declared.trying.Trying.{Trying}
use Rattle.fkv_ops.specs.declared.trying.Trying.TheVariants.{SwapsValue, ChangesValue, Appends}
use Rattle.fkv_ops.specs.Trying.{TryState}
use Rattle.law_local.specs.Tries.TryRows.{cell_of}

-- the record that a new one leads to, of its key
abbrev pub source_of : (ℕ → ℕ) → Log → Cell → ℕ
source_of home log cell = first_from home log cell.key cell.previous

-- where that is of an older version, and may not be fixed, it keeps its value. What is fixed does so anyway
abbrev pub KeepsSource : (ℕ → ℕ) → Log → Log → Cell → Type 0
KeepsSource home log after cell = version_at (log.cells (source_of home log cell)) < cell.version → value_at (after.cells (source_of home log cell)) ≡ value_at (log.cells (source_of home log cell))

-- as long as the record is to be written and has no address
abbrev pub KeepsForAppend : (ℕ → ℕ) → Log → Log → Cell → Appending → Type 0
KeepsForAppend home log after cell Reserves = KeepsSource home log after cell
KeepsForAppend home log after cell step = ⊤

abbrev pub KeepsForTry : (ℕ → ℕ) → Log → Log → TryState → Trying → Type 0
KeepsForTry home log after t (Appends its) = KeepsForAppend home log after (cell_of t.request.version.0 t.append.its_words) t.append.step
KeepsForTry home log after t step = ⊤

-- so it is where all records of older versions than the request's are fixed, as where no commit runs
abbrev pub OlderAreFixed : Log → ℕ → Type 0
OlderAreFixed log version = (a : ℕ) (cell : Cell) → log.cells a ≡ Published cell → cell.version < version → IsFixed log a

-- ---- a try's own step
-- what a try's step does to a record: it changes one in place, takes an address for one, or publishes it or gives it up
pub data ChangesLog (room : ℕ) (t : TryState) (reply : ℕ) : Type 0 where
  Swaps : {addr : Addr} → t.step ≡ SwapsValue addr → ChangesLog room t reply
  Changes : {addr : Addr} {old : ℕ} → t.step ≡ ChangesValue addr old → ChangesLog room t reply
  TakesAddress : {its : Reply} {addr : Addr} → t.step ≡ Appends its → t.append.step ≡ Reserves → reserve_next_ask room t.append.reserving reply ≡ Done (Reserved addr) → ChangesLog room t reply
  Publishes : {its : Reply} {addr : Addr} → t.step ≡ Appends its → t.append.step ≡ PublishesAt addr → ChangesLog room t reply
  GivesUp : {its : Reply} → t.step ≡ Appends its → t.append.step ≡ Invalidates → ChangesLog room t reply
