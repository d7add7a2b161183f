-- How a commit that a life has begun cuts the log beside it.
use Rattle.std.proofs.Common.{◌≡◌, inl, inr, ℕ, ◌+◌, ◌<◌, ◌≤◌, List, refl, arith, ap}
use Rattle.std.specs.Prelude.{Some}
use Rattle.std.proofs.lemmas.Bool.{cases_lt}
use Rattle.law_opening.specs.Below.fkv_core.Openings.{IsOpeningWorld}
use Rattle.law_opening.specs.Below.fkv_opening.TheOpened.{Opened}
use Rattle.fkv_plane.specs.declared.places.SharedWord.TheVariants as one
use Rattle.fkv_plane.specs.Asked.{word_at}
use Rattle.fkv_plane.specs.Places.{shared_place}
use Rattle.law_opening.specs.Below.fkv_scan.Log as scan
use Rattle.law_commit.specs.Below.fkv_world.World.{Now}
use Rattle.law_log.specs.Chains.{Cell, Logged, Unborn, Reserved, Published, Dropped}
use Rattle.law_log.specs.Ghosts.{Log}
use Rattle.law_commit.specs.Below.law_refine.Events.Reserved.{tail_at}
use Rattle.law_commit.specs.Below.law_paper.Paper.Images.{IsCut, IsDecided}
use Rattle.law_commit.specs.BegunCommits.{BegunCommit}
use Rattle.law_commit.specs.Decided.Below.{CellsBelow}
use Rattle.law_commit.specs.Decided.Cells.{IsSettled}
use Rattle.law_commit.specs.Versions.Cells.{CellsFrom, made_in}
use Rattle.law_order.specs.Decided.Cut.{NamesEnd, StartsAt}

pub opened_tail : (o : Opened) (n : Now) → IsOpeningWorld o n → tail_at n ≡ o.tail.0
opened_tail o n its = ap (λ (all : List ℕ). word_at all (shared_place one.Tail)) its.its_words.whole

made_of : (logged : Logged) (cell : Cell) → logged ≡ Published cell → made_in logged ≡ Some cell.version
made_of logged cell is = ap made_in is

pub decided_so : (logged : Logged) → IsSettled logged → IsDecided logged
decided_so Unborn settled = absurd settled
decided_so (Reserved entry cell) settled = absurd settled
decided_so (Published cell) settled = inl (cell, refl)
decided_so (Dropped cell) settled = inr (cell, refl)

pub cut_so : (log : Log) (c : BegunCommit) (image : scan.Log) → NamesEnd image c → CellsFrom c.parts.end.0 (c.number.0 + 1) log → CellsBelow c.parts.end.0 (c.number.0 + 1) log → IsCut image log
cut_so log c image names later young = record {
  covered = λ a cell is low.
      (let version = names.version in
      let tail = names.tail in
      elim (cases_lt a c.parts.end.0) [
        | inl below ↦ omega (arith, below, tail)
        | inr above ↦ (let high = later a cell.version above (made_of (log.cells a) cell is) in absurd (omega (arith, high, low, version)))
      ]);
  young = λ a cell is below.
      (let version = names.version in
      let tail = names.tail in
      let most = young a cell.version (omega (arith, below, tail)) (made_of (log.cells a) cell is) in
      omega (arith, most, version));
}

pub old_so : (log : Log) (c : BegunCommit) (image : scan.Log) (a : ℕ) (cell : Cell) → StartsAt image c → CellsBelow c.parts.first.0 c.number.0 log → log.cells a ≡ Published cell → a < image.start → cell.version ≤ image.version
old_so log c image a cell at old is low =
    let start = at.start in
    let version = at.version in
    let most = old a cell.version (omega (arith, low, start)) (made_of (log.cells a) cell is) in
    omega (arith, most, version)
