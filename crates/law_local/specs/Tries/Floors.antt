-- What a request's floor does for what it knows of the log: below it each address counts as 0.
use Rattle.std.specs.Prelude.{◌≡◌, ◌⊎◌, ◌≤◌, ℕ, None}
use Rattle.fkv_base.specs.declared.numbers.Addr.{Addr}
use Rattle.fkv_base.specs.declared.numbers.Version.{Version}
use Rattle.fkv_ops.specs.declared.header_words.HeaderSaid.TheVariants.{Says}
use Rattle.fkv_ops.specs.HeaderWords.{header_said}
use Rattle.fkv_begin.specs.Begin.{from_or_none}
use Rattle.law_log.specs.Begins.{IsWalkLive, Live}
use Rattle.law_log.specs.Chains.{value_at, IsWithin}
use Rattle.law_log.specs.Ghosts.{Log, first_from}
use Rattle.law_log.specs.Enabled.{IsFixed}
use Rattle.law_local.specs.Tries.OnWay.{ComesBelow}

-- A request goes by a floor below which all is fixed. The log does without its records there.
pub record HasFloor (home : ℕ → ℕ) (log : Log) (floor : ℕ) : Type 0 where
  pub fixed : floor ≤ log.fixed
  pub live : Live floor home log

-- The way from an address comes to a record below `low`, and a walk from that address does without the records below the floor.
pub record ComesLive (home : ℕ → ℕ) (log : Log) (floor key from to low : ℕ) : Type 0 where
  pub comes : ComesBelow home log key from to low
  pub live : IsWalkLive floor home log key from

-- From an address on the key reads as absent, and goes on to: there is no record of it, or the first one is fixed and shows none.
pub record FindsAbsent (home : ℕ → ℕ) (log : Log) (key from : ℕ) : Type 0 where
  pub begins : IsWithin from (log.chains (home key))
  pub fixed : IsFixed log (first_from home log key from)
  pub absent : value_at (log.cells (first_from home log key from)) ≡ None

-- The word is a header that leads to an address as one who goes by this floor has it: to that, or nowhere if it lies below the floor. Bytes of a store whose log
-- begins above that address may say another one below its begin.
pub record LeadsByFloor (floor previous word : ℕ) : Type 0 where
  pub said : Addr
  pub version : Version
  pub says : header_said word ≡ Says said version
  pub same : from_or_none floor said.0 ≡ from_or_none floor previous

-- Where one goes on behind a record of another key, by what its header says: the chain ends there, at 0 or below the floor, and the key reads as absent. Or the
-- next record lies on the device too.
abbrev pub GoesOnByFloor : (ℕ → ℕ) → Log → ℕ → ℕ → ℕ → ℕ → ℕ → Type 0
GoesOnByFloor home log floor key from said low = ((from_or_none floor said ≡ 0) × FindsAbsent home log key from) ⊎ ComesLive home log floor key from said low
