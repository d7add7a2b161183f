-- What an image that names the opening's commit shares with the opened bytes.
use Rattle.std.proofs.Common.{◌≡◌, ℕ, ◌+◌, ◌*◌, ◌<◌, ◌≤◌, ◌∙◌, ap, arith, sym, subst, List}
use Rattle.fkv_base.specs.declared.numbers.Addr.{Addr}
use Rattle.fkv_base.specs.declared.shapes.Shape.{Shape}
use Rattle.fkv_disk.specs.Bytes.{bytes_at}
use Rattle.law_opening.specs.Below.fkv_newest.TheNewest.{Newest}
use Rattle.law_opening.specs.Below.fkv_opening.Alike.{ShareLog}
use Rattle.law_opening.specs.Below.fkv_opening.Faults.{HasCheckpoint}
use Rattle.law_opening.specs.Below.fkv_opening.Opened.{IsStoreOf}
use Rattle.law_opening.specs.Below.fkv_opening.TheOpened.{Opened}
use Rattle.fkv_record.specs.Places.{area_place, record_place}
use Rattle.fkv_record.specs.declared.triples.Triple.{Triple}
use Rattle.law_opening.specs.Below.fkv_scan.Checkpoint.{AreTriples, checkpoint_in}
use Rattle.law_commit.proofs.OfPoints.Taken.{some_there}
use Rattle.law_order.specs.Images.Opened.{newest_in}

-- the same triples have the same bytes
triples_same : (bytes image : List ℕ) (n : Newest) (triples : List Triple) → AreTriples (checkpoint_in bytes n.shape n.slot) triples → AreTriples (checkpoint_in image n.shape n.slot) triples → (i : ℕ) → i < n.slot.triples
    → bytes_at bytes (area_place n.shape n.slot.area + 16 * i) 16 ≡ bytes_at image (area_place n.shape n.slot.area + 16 * i) 16
triples_same bytes image n triples was is i low =
    let many = was.many in
    let there = some_there triples i (omega (arith, low, many)) in
    let one = was.each i there.0 there.1 in
    let other = is.each i there.0 there.1 in
    sym one.stands ∙ other.stands

pub shares_log : (bytes image : List ℕ) (o : Opened) (store : IsStoreOf bytes o) → HasCheckpoint image (newest_in image store.newest) store.triples
    → ((a : ℕ) → 1 ≤ a → a < o.tail.0 → bytes_at bytes (record_place o.shape a) 24 ≡ bytes_at image (record_place o.shape a) 24) → ShareLog store.newest bytes image
shares_log bytes image o store kept records =
    let shape = store.tells.shape in
    let tail = ap (λ (t : Addr). t.0) store.tells.tail in
    let its = store.checkpoint in
    let first = its.newest.manifest.suits.begin.some in
    record {
      triples = triples_same bytes image store.newest store.triples store.checkpoint.stored kept.stored;
      records = λ a some low. subst (λ (s : Shape). bytes_at bytes (record_place s a) 24 ≡ bytes_at image (record_place s a) 24) shape (records a (omega (arith, first, some)) (omega (arith, low, tail)));
    }
