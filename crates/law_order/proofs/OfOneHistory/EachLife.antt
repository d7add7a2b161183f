-- Each life of an opened store keeps order. So what holds where a life keeps to its rules holds in each of them.
use Rattle.std.specs.Prelude.{ℕ, List}
use Rattle.law_opening.specs.Below.fkv_core.Openings.{IsOpeningWorld, beginning}
use Rattle.law_opening.specs.Below.fkv_filling.OpeningIndex.{opening_lists}
use Rattle.law_opening.specs.Below.fkv_opening.Opened.{IsStoreOf}
use Rattle.law_opening.specs.Below.fkv_opening.TheOpened.{Opened}
use Rattle.law_opening.specs.Log.Maps.{opening_map}
use Rattle.law_opening.specs.Log.OpeningLog.{opening_ghosts}
use Rattle.law_order.specs.Rules.Ordered.{OfEachKept}
use Rattle.law_commit.specs.Below.fkv_world.Runs.{World}
use Rattle.law_commit.specs.Below.fkv_world.World.{Event, Now}
use Rattle.law_log.specs.Ghosts.{Ghosts}
use Rattle.law_order.specs.Known.Begins.{BeginStays, BeginsLife, BegunLife}
use Rattle.law_order.specs.Known.Told.{TicketsAreApart}
use Rattle.law_order.specs.Ordered.Keeps.{KeepsItsOrder, KeepsOrder}
use Rattle.law_order.specs.Ordered.Laws.{PollsTryNoReadInLives, PollsTryWhatIsGoneInLives, SeeksInLives, SeeksOrWasToldInLives}
use Rattle.law_order.specs.Ordered.Met.{AllReadsSeek, PollsTryNoRead, PollsTryWhatIsGone, ReadsSeekOrWereTold, SeeksItsReads}
use Rattle.law_order.specs.Apart.Given.{Given}
use Rattle.law_order.specs.Apart.Lives.{OpensApart}
use Rattle.law_order.specs.Rules.Openings.{OpensItsEnds, OpensItsVersions}
use Rattle.law_commit.specs.Below.law_refine.Latches.Shows as latches
use Rattle.law_order.specs.Served.Fits.{CallsFit, CellsFit}
use Rattle.law_order.proofs.OfTickets.Life.{tickets_apart}
use Rattle.law_order.specs.OneHistory.EachLife.{InEachLife, IsLife, Life}

-- what a life begins with
abbrev pub LivesBegin : Type 0
LivesBegin = (bytes : List ℕ) (o : Opened) (n : Now) → IsStoreOf bytes o → IsOpeningWorld o n
    → BeginsLife (beginning n bytes) o.tail.0 (opening_lists o.entries.items) (opening_map bytes o) o.number.0 (opening_ghosts bytes o)

-- the numbers of the log that it begins with
abbrev pub OpeningsFit : Type 0
OpeningsFit = (bytes : List ℕ) (o : Opened) → IsStoreOf bytes o → CellsFit (opening_ghosts bytes o).log

-- and that it keeps to its rules
abbrev pub LivesKeepOrder : Type 0
LivesKeepOrder = (life : BegunLife) (events : List Event) → Given → OpensApart life → CellsFit life.ghosts.log → CallsFit events → TicketsAreApart life.opening events
    → KeepsOrder life.opening life.ghosts events

-- what it begins with besides
pub record OpensSo : Type 0 where
  pub ends : OpensItsEnds
  pub versions : OpensItsVersions
  pub latches : (o : Opened) (n : Now) → IsOpeningWorld o n → latches.IsOpened n

abbrev pub begun_life : LivesBegin → (its : Life) → IsLife its → BegunLife
begun_life lives its is = record {
  opening = beginning its.world its.bytes;
  start = (let o = its.opened in o.tail.0);
  lists = (let o = its.opened in opening_lists o.entries.items);
  map = opening_map its.bytes its.opened;
  number = (let o = its.opened in o.number.0);
  ghosts = opening_ghosts its.bytes its.opened;
  begins = lives its.bytes its.opened its.world is.store is.begins;
}

-- what holds of each life that begins so holds of each
abbrev HoldsInLives : (World → Ghosts → List Event → Type 0) → Type 0
HoldsInLives P = (life : BegunLife) (events : List Event) → Given → OpensApart life → CellsFit life.ghosts.log → CallsFit events → TicketsAreApart life.opening events → P life.opening life.ghosts events

pub holds_in_each : (P : World → Ghosts → List Event → Type 0) → LivesBegin → OpensSo → Given → OpeningsFit → HoldsInLives P → InEachLife (λ o n bytes events. P (beginning n bytes) (opening_ghosts bytes o) events)
holds_in_each P lives opens given fit keep = λ its is.
    let n : Now = its.world in
    let bytes : List ℕ = its.bytes in
    let o : Opened = its.opened in
    let life : BegunLife = begun_life lives its is in
    let apart : OpensApart life = record { quiet = opens.ends bytes o n is.store is.begins; latches = opens.latches o n is.begins; upto = (opens.versions bytes o n is.store is.begins).upto } in
    keep life its.events given apart (fit bytes o is.store) is.fits (tickets_apart (beginning n bytes) its.events life.begins.world is.few)

pub keeps_its_order : LivesBegin → OpensSo → Given → OpeningsFit → LivesKeepOrder → InEachLife KeepsItsOrder
keeps_its_order lives opens given fit keep = holds_in_each KeepsOrder lives opens given fit keep

pub seeks_its_reads : LivesBegin → OpensSo → Given → OpeningsFit → SeeksOrWasToldInLives → PollsTryWhatIsGoneInLives → SeeksInLives → PollsTryNoReadInLives → InEachLife SeeksItsReads
seeks_its_reads lives opens given fit seeking_or_told tried_if_gone seeking untried = λ its is. record {
  seek_or_told = holds_in_each (λ opening ghosts events. ReadsSeekOrWereTold opening events) lives opens given fit seeking_or_told its is;
  try_gone = holds_in_each (λ opening ghosts events. PollsTryWhatIsGone opening events) lives opens given fit tried_if_gone its is;
  seek = holds_in_each (λ opening ghosts events. BeginStays opening events → AllReadsSeek opening events) lives opens given fit seeking its is;
  try_none = holds_in_each (λ opening ghosts events. BeginStays opening events → PollsTryNoRead opening events) lives opens given fit untried its is;
}

pub of_each_life : (P : Opened → Now → List ℕ → List Event → Type 0) → InEachLife KeepsItsOrder → OfEachKept P → InEachLife P
of_each_life P keep kept = λ its is.
    let keeps : KeepsItsOrder its.opened its.world its.bytes its.events = keep its is in
    kept its.bytes its.opened its.world its.events is.store is.begins keeps.enabled keeps.published
