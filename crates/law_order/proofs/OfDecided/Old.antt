-- What a life leaves of the records with which the store was opened.
use Rattle.std.proofs.Common.{◌≡◌, ℕ, ◌+◌, ◌<◌, ◌≤◌, ◌∙◌, List, arith, ap, sym}
use Rattle.std.specs.Prelude.{◌↔◌}
use Rattle.fkv_record.specs.declared.lost_ranges.LostRange.{LostRange}
use Rattle.law_opening.specs.Below.fkv_scan.Log as scan
use Rattle.law_log.specs.Chains.{Cell, Published}
use Rattle.law_log.specs.Ghosts.{Log}
use Rattle.law_log.specs.Trace.{IsIn}
use Rattle.law_opening.specs.Log.Records.{HasWhatCounts}
use Rattle.law_commit.specs.Below.law_paper.Paper.Old.{HasWhatCounted, LosesTheRest}
use Rattle.law_commit.specs.Versions.Cells.{CellsFrom, made_in}

-- the chains are as they were below an address
abbrev pub KeepChains : ℕ → Log → Log → Type 0
KeepChains bound first log = (h a : ℕ) → a < bound → IsIn a (log.chains h) ↔ IsIn a (first.chains h)

abbrev pub KeepCells : ℕ → Log → Log → Type 0
KeepCells bound first log = (a : ℕ) → a < bound → log.cells a ≡ first.cells a

pub keeps_counted : (was : scan.Log) (first log : Log) → HasWhatCounts was first → KeepChains was.tail first log → KeepCells was.tail first log → HasWhatCounted was log
keeps_counted was first log has chains cells = record {
  counted = λ h a low.
      (let old = chains h a low in
      let counts = has.chains h a in
      (λ is_in. counts.0 (old.0 is_in), λ its. old.1 (counts.1 its)));
  one_version = λ a cell low is. let its = has.published a cell (sym (cells a low) ∙ is) in ap (λ (c : Cell). c.version) its.its;
}

pub keeps_lost : (was : scan.Log) (first log : Log) → KeepChains was.tail first log → (lost : List LostRange) → LosesTheRest lost was first → LosesTheRest lost was log
keeps_lost was first log chains lost loses a x from low stands valid =
    let old = chains _ a low in
    let its = loses a x from low stands valid in
    (λ is_in. its.0 (old.0 is_in), λ none. old.1 (its.1 none))

pub is_later : (was : scan.Log) (log : Log) (tail number : ℕ) → tail ≡ was.tail → number ≡ was.version → CellsFrom tail (number + 1) log → (a : ℕ) (cell : Cell) → log.cells a ≡ Published cell → was.tail ≤ a → was.version < cell.version
is_later was log tail number same version from a cell is high =
    let low = from a cell.version (omega (arith, same, high)) (ap made_in is) in
    omega (arith, low, version)
