-- The log of the order law as a sweep sees it.
use Rattle.std.specs.Prelude.{is_none, Option, Some, None}
use Rattle.fkv_sweep.specs.SweptLogs.{Standing, SweptLog}
use Rattle.law_commit.specs.Below.law_refine.Events.GhostEvents.{home_number}
use Rattle.law_log.specs.Chains.{Logged, Published}
use Rattle.law_log.specs.Ghosts.{Log}

-- a published record stands, with its key, and it is absent where it shows no value
abbrev pub standing_at : Logged → Option Standing
standing_at (Published cell) = Some (record { key = record { 0 = cell.key }; absent = is_none cell.value })
standing_at logged = None

-- each address has what stands there, and each home the chain of its number
abbrev pub swept_log : Log → SweptLog
swept_log log = record { cells = λ a. standing_at (log.cells a); chains = λ home. log.chains (home_number home) }
