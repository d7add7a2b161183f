-- The numbers of an opened store's log fit in words, since its records stand in the image.
use Rattle.std.proofs.Common.{ℕ, sym, subst, List}
use Rattle.law_paper.specs.Below.fkv_opening.Opened.{IsStoreOf}
use Rattle.law_paper.specs.Below.fkv_opening.TheOpened.{Opened}
use Rattle.law_paper.specs.Below.fkv_pairs.Pairs.{log_of_store}
use Rattle.fkv_record.specs.declared.records.Record.{Record}
use Rattle.law_paper.specs.Below.fkv_scan.Log.{Log}
use Rattle.law_opening.specs.Log.OpeningLog.{opening_ghosts, opening_log}
use Rattle.law_opening.specs.Log.Records.{HasWhatCounts, IsCellOf, cell_of}
use Rattle.law_opening.proofs.OfChanges.OfFits.Numbers.{said_fits}
use Rattle.law_opening.specs.Changes.Fits.{CellFits, CellsFit}

-- a record as a cell
record_fits : (log : Log) (x : Record) → CellFits (cell_of log x)
record_fits log x = (x.key_fits, said_fits x.value x.value_fits)

-- where the log has the records of the image that count, and no others
pub cells_fit_opened : (bytes : List ℕ) (o : Opened) (store : IsStoreOf bytes o) → HasWhatCounts (log_of_store bytes o store) (opening_log bytes o) → CellsFit (opening_ghosts bytes o).log
cells_fit_opened bytes o store has a cell is =
    let its : IsCellOf (log_of_store bytes o store) a cell = has.published a cell is in
    subst CellFits (sym its.its) (record_fits (log_of_store bytes o store) its.held)
