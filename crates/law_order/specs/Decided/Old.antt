-- What a life leaves of the records with which the store was opened, in the words of `law_paper`.
use Rattle.std.specs.Prelude.{◌≡◌, ◌+◌, ◌<◌, ◌≤◌, ℕ, List}
use Rattle.law_opening.specs.Below.fkv_core.Openings.{IsOpeningWorld}
use Rattle.law_opening.specs.Below.fkv_opening.Opened.{IsStoreOf}
use Rattle.law_opening.specs.Below.fkv_opening.TheOpened.{Opened}
use Rattle.law_opening.specs.Below.fkv_pairs.Pairs.{log_of_store}
use Rattle.fkv_record.specs.declared.lost_ranges.LostRange.{LostRange}
use Rattle.law_opening.specs.Below.fkv_scan.Log as scan
use Rattle.law_commit.specs.Below.fkv_world.World.{Event, Now}
use Rattle.law_log.specs.Chains.{Cell, Published}
use Rattle.law_log.specs.Ghosts.{Log}
use Rattle.law_opening.specs.Log.OpeningLog.{opening_log}
use Rattle.law_commit.specs.Below.law_paper.Paper.Old.{HasWhatCounted, LosesTheRest}
use Rattle.law_commit.specs.Versions.Cells.{CellsFrom}
use Rattle.law_order.specs.Decided.Cut.{log_beside}

-- so it is in each life of an opened store: of what recovery met in its image, of the log with which the life began, and of the log beside it now
abbrev pub OfEachLife : (scan.Log → Log → Log → Type 0) → Type 0
OfEachLife P = (bytes : List ℕ) (o : Opened) (n : Now) (events : List Event) (store : IsStoreOf bytes o) → IsOpeningWorld o n → P (log_of_store bytes o store) (opening_log bytes o) (log_beside o n bytes events)

-- below the opened end the log has what counted
abbrev pub KeepsWhatCounted : scan.Log → Log → Log → Type 0
KeepsWhatCounted was first log = HasWhatCounted was log

-- from there on what is published is of later versions
abbrev pub IsLaterAbove : scan.Log → Log → Log → Type 0
IsLaterAbove was first log = (a : ℕ) (cell : Cell) → log.cells a ≡ Published cell → was.tail ≤ a → was.version < cell.version

-- and so is what was given up
abbrev pub MakesLaterAbove : scan.Log → Log → Log → Type 0
MakesLaterAbove was first log = CellsFrom was.tail (was.version + 1) log

-- ranges that lost just what the first log left out lose just what this one does
abbrev pub LosesAsBefore : scan.Log → Log → Log → Type 0
LosesAsBefore was first log = (lost : List LostRange) → LosesTheRest lost was first → LosesTheRest lost was log
