-- An image that shows the flushed part of a log shows the log up to the end of the commit that it names.
use Rattle.std.proofs.Common.{◌≡◌, ℕ, ◌+◌, ◌<◌, ◌≤◌, arith, sym, ap, subst, List}
use Rattle.law_opening.specs.Below.fkv_core.Openings.{IsOpeningWorld}
use Rattle.law_commit.specs.Below.fkv_keeper.Keeping.{Finality}
use Rattle.law_commit.specs.Below.fkv_keeper.LastCommits.{lost_written}
use Rattle.law_opening.specs.Below.fkv_opening.TheOpened.{Opened}
use Rattle.fkv_record.specs.declared.lost_ranges.LostRange.{LostRange}
use Rattle.law_opening.specs.Below.fkv_scan.Log as scan
use Rattle.law_opening.specs.Below.fkv_scan.Records.{version_of, losses}
use Rattle.law_commit.specs.Below.fkv_world.World.{Event, Now}
use Rattle.law_commit.specs.BegunCommits.{BegunCommit, commit_opened}
use Rattle.law_commit.specs.Decided.Below.{CellsBelow}
use Rattle.law_commit.specs.Versions.Cells.{made_in}
use Rattle.law_order.specs.Images.Fits.{FitsLife}
use Rattle.law_order.specs.Images.Left.{flushed_so_far}
use Rattle.law_order.specs.Images.Lost.{LosesNoneFrom}
use Rattle.law_order.specs.Images.Records.{ShowsFlushed}
use Rattle.law_log.specs.Ghosts.{Log}
use Rattle.law_order.specs.Decided.Cut.{NamesEnd, log_beside}
use Rattle.law_commit.specs.Below.law_paper.Paper.Images.{IsDecided, ShowsLog}
use Rattle.law_order.proofs.OfRecovered.OfShows.Opened.{of_homes}
use Rattle.law_commit.specs.Below.law_refine.Events.GhostEvents.{home_in}

-- a log that is shown from an address on is shown from each later one on
pub shows_later : (home : ℕ → ℕ) (from later : ℕ) (image : scan.Log) (g : Log) → from ≤ later → ShowsLog home from image g → ShowsLog home later image g
shows_later home from later image g up shows = record {
  homes = shows.homes;
  published = λ a cell is begun low. (let its = shows.published a cell is begun low in record {
    held = its.held;
    stands = its.stands;
    valid = its.valid;
    its_key = its.its_key;
    its_value = its.its_value;
    leads = its.leads;
    low = its.low;
    same = λ on. its.same (omega (arith, up, on));
  });
  decided = λ a on. shows.decided a (omega (arith, up, on));
  dropped = λ a cell is on. shows.dropped a cell is (omega (arith, up, on));
  none_lost = λ a x on. shows.none_lost a x (omega (arith, up, on));
}

-- a commit that is newer than the opening's isn't that
pub newer_commit : (o : Opened) (n : Now) (bytes : List ℕ) (c : BegunCommit) → IsOpeningWorld o n → o.number.0 < c.number.0 → c ≡ commit_opened n bytes → ⊥
newer_commit o n bytes c begins newer same =
    let number : c.number.0 ≡ n.keeper.last.number.0 = ap (λ (x : BegunCommit). x.number.0) same in
    let opened : n.keeper.last.number.0 ≡ o.number.0 = ap (λ (last : Finality). last.number.0) begins.its_keeper.newest in
    omega (arith, newer, number, opened)

-- from the opened tail on all is decided below the image's end
abbrev DecidesTo : Opened → Now → List ℕ → List Event → scan.Log → Type 0
DecidesTo o n bytes events image = (a : ℕ) → o.tail.0 ≤ a → a < image.tail → IsDecided ((let log = log_beside o n bytes events in log.cells) a)

pub shows_log : (o : Opened) (n : Now) (bytes : List ℕ) (events : List Event) (image : scan.Log) (c : BegunCommit) → image.shape ≡ n.shape → NamesEnd image c → image.lost ≡ lost_written c.parts.lost → FitsLife o n (flushed_so_far n bytes events) c
    → ShowsFlushed o n bytes events image → DecidesTo o n bytes events image → CellsBelow c.parts.end.0 (c.number.0 + 1) (log_beside o n bytes events) → LosesNoneFrom o.tail.0 (lost_written c.parts.lost)
    → ShowsLog (home_in n.shape.bucket_bits) o.tail.0 image (log_beside o n bytes events)
shows_log o n bytes events image c shape names lost fits shows decides young none =
    let end = names.tail in
    let version = names.version in
    let flushed = fits.is_flushed in
    record {
      homes = of_homes image n.shape (sym shape);
      published = λ a cell is begun low. shows.published a cell is begun (omega (arith, low, end, flushed));
      decided = decides;
      dropped = λ a cell is on low.
          let most = young a cell.version (omega (arith, low, end)) (ap made_in is) in
          shows.dropped a cell is on (omega (arith, low, end, flushed)) (omega (arith, most, version));
      none_lost = λ a x on stands. subst (λ (ranges : List LostRange). losses ranges a (version_of image x) ≡ 0) (sym lost) (none a (version_of image x) on);
    }
