-- What the log and the slot of an image are to `law_paper`.
use Rattle.std.proofs.Common.{◌≡◌, ℕ, ◌<◌, ◌≤◌, arith, ap, sym, subst, List}
use Rattle.law_opening.specs.Below.fkv_opening.TheOpened.{Opened}
use Rattle.fkv_record.specs.Manifest.{SlotSaid}
use Rattle.fkv_record.specs.declared.triples.Triple.{Triple}
use Rattle.law_opening.specs.Below.fkv_scan.Log as scan
use Rattle.law_commit.specs.Below.fkv_world.World.{Event, Now}
use Rattle.law_commit.specs.BegunCommits.{BegunCommit}
use Rattle.law_log.specs.Begins.{LiveUpto}
use Rattle.law_log.specs.Chains.{Cell}
use Rattle.law_log.specs.Ghosts.{Log}
use Rattle.law_order.specs.Decided.Cut.{NamesEnd}
use Rattle.law_commit.specs.Below.law_paper.Paper.Images.{ShowsCell, ShowsLog}
use Rattle.law_order.specs.Recovered.Leaves.{NamesNew, log_named}

-- ---- what an image shows from an address on it shows from a higher one
shows_cell_from : (least from : ℕ) (image : scan.Log) (a : ℕ) (cell : Cell) → least ≤ from → ShowsCell least image a cell → ShowsCell from image a cell
shows_cell_from least from image a cell up its = record {
  held = its.held;
  stands = its.stands;
  valid = its.valid;
  its_key = its.its_key;
  its_value = its.its_value;
  leads = its.leads;
  low = its.low;
  same = λ high. its.same (omega (arith, up, high));
}

pub shows_from : (home : ℕ → ℕ) (least from : ℕ) (image : scan.Log) (g : Log) → least ≤ from → ShowsLog home least image g → ShowsLog home from image g
shows_from home least from image g up its = record {
  homes = its.homes;
  published = λ a cell at begun below. shows_cell_from least from image a cell up (its.published a cell at begun below);
  decided = λ a high below. its.decided a (omega (arith, up, high)) below;
  dropped = λ a cell at high below. its.dropped a cell at (omega (arith, up, high)) below;
  none_lost = λ a x high stands. its.none_lost a x (omega (arith, up, high)) stands;
}

-- ---- what the slot says
pub names_end : (o : Opened) (n : Now) (bytes : List ℕ) (events : List Event) (image : List ℕ) (names : NamesNew o n bytes events image) (triples : List Triple) → NamesEnd (log_named names triples) names.commit
names_end o n bytes events image names triples =
    let says = names.says in
    record { version = ap (λ (s : SlotSaid). s.number) says.said; tail = ap (λ (s : SlotSaid). s.end.0) says.said }

pub starts_some : (o : Opened) (n : Now) (bytes : List ℕ) (events : List Event) (image : List ℕ) (names : NamesNew o n bytes events image) (triples : List Triple) → (let log = log_named names triples in 0 < log.start)
starts_some o n bytes events image names triples =
    let says = names.says in
    let fits = says.fits in
    let some = fits.some in
    let first = ap (λ (s : SlotSaid). s.first.0) says.said in
    omega (arith, some, first)

-- its log begins where the commit's does: where that of the opened store does, or further on
pub begins_there : (o : Opened) (n : Now) (bytes : List ℕ) (events : List Event) (image : List ℕ) (names : NamesNew o n bytes events image) (triples : List Triple)
    → (let log = log_named names triples in let c = names.commit in log.begin ≡ c.parts.begin.0)
begins_there o n bytes events image names triples =
    let says = names.says in
    ap (λ (s : SlotSaid). s.begin.0) says.said

pub begins_on : (o : Opened) (n : Now) (bytes : List ℕ) (events : List Event) (image : List ℕ) (names : NamesNew o n bytes events image) (triples : List Triple) → (let log = log_named names triples in o.begin.0 ≤ log.begin)
begins_on o n bytes events image names triples =
    let says = names.says in
    let fits = says.fits in
    let on = fits.begins in
    let there = begins_there o n bytes events image names triples in
    omega (arith, on, there)

-- so the log does without what lies below the image's begin, in the versions up to the image's
pub live_there : (home : ℕ → ℕ) (image : scan.Log) (c : BegunCommit) (g : Log) → NamesEnd image c → image.begin ≡ c.parts.begin.0 → LiveUpto c.number.0 c.parts.begin.0 home g → LiveUpto image.version image.begin home g
live_there home image c g names begin live = subst (λ (v : ℕ). LiveUpto v image.begin home g) (sym names.version) (subst (λ (b : ℕ). LiveUpto c.number.0 b home g) (sym begin) live)
