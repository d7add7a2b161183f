-- What the opened bytes are long for: an image has one newest slot, and it is the store's.
use Rattle.std.proofs.Common.{◌≡◌, ◌∙◌, ap, sym, refl, subst, arith, ℕ, ◌+◌, ◌-◌, ◌*◌, ◌<◌, ◌≤◌, List, length, Option, Some}
use Rattle.std.specs.Prelude.{IsSome}
use Rattle.fkv_base.specs.declared.numbers.Addr.{Addr}
use Rattle.fkv_base.specs.declared.shapes.Shape.{Shape}
use Rattle.law_opening.specs.Below.fkv_creating.Long.{IsLong}
use Rattle.law_commit.specs.Below.fkv_manifest.Newest.{slot_in}
use Rattle.law_opening.specs.Below.fkv_newest.Newest.{IsNewestOf, slot_place}
use Rattle.law_opening.specs.Below.fkv_newest.TheNewest.{Newest}
use Rattle.law_opening.proofs.Below.fkv_newest.Shown.{one_index}
use Rattle.law_opening.specs.Below.fkv_opening.Opened.{IsStoreOf}
use Rattle.law_opening.specs.Below.fkv_opening.TheOpened.{Opened}
use Rattle.fkv_record.specs.Layout.{shape_bytes}
use Rattle.fkv_record.specs.Manifest.{manifest_bytes}
use Rattle.fkv_record.specs.Places.{area_place, record_place}
use Rattle.fkv_record.specs.declared.formats.Format.{Format}
use Rattle.fkv_record.specs.declared.manifest_slots.ManifestSlot.{ManifestSlot}
use Rattle.fkv_record.proofs.Shown.{manifest_apart}
use Rattle.fkv_words.specs.Fields.{SpellsApart}
use Rattle.law_opening.specs.Lives.Reaching.{ReachesFar}

pub same_slot : (bytes : List ℕ) (one other : Newest) → IsNewestOf bytes one → IsNewestOf bytes other → one.slot ≡ other.slot
same_slot bytes one other first second =
    let index : one.index ≡ other.index = one_index one.index other.index (sym first.in_force ∙ second.in_force) in
    let stands = first.manifest.stands in
    let there = second.manifest.stands in
    let spelled : manifest_bytes (one.format, one.slot) ≡ manifest_bytes (other.format, other.slot) = stands ∙ ap (λ (i : ℕ). Some (slot_in bytes (slot_place i))) index ∙ sym there in
    let same : ◌≡◌ {A = Format × ManifestSlot} (one.format, one.slot) (other.format, other.slot) = manifest_apart (one.format, one.slot) (other.format, other.slot) (subst (λ (o : Option (List ℕ)). IsSome o) (sym stands) refl) spelled in
    ap (λ (p : Format × ManifestSlot). p.1) same

pub same_shape : SpellsApart shape_bytes → (bytes : List ℕ) (one other : Newest) → IsNewestOf bytes one → IsNewestOf bytes other → one.shape ≡ other.shape
same_shape apart bytes one other first second = apart one.shape other.shape (first.block ∙ sym second.block)

-- so they are long for any newest slot that they have
pub long_for : SpellsApart shape_bytes → (bytes : List ℕ) (n : Newest) → ReachesFar bytes → IsNewestOf bytes n → IsLong bytes n.shape n.slot
long_for apart bytes n long its =
    let there = long.newest in
    subst (λ (s : Shape). IsLong bytes s n.slot) (same_shape apart bytes there n long.its its) (subst (λ (s : ManifestSlot). IsLong bytes there.shape s) (same_slot bytes there n long.its its) long.long)

-- and for the records below the opened tail
below_end : (base tail a size : ℕ) → (1 < tail → base + 24 * (tail - 1) + 24 ≤ size) → 0 < a → a < tail → base + 24 * a + 24 ≤ size
below_end base tail a size long some low = let most = long (omega (arith, some, low)) in omega (arith, most, some, low)

pub holds_below : SpellsApart shape_bytes → (bytes : List ℕ) (o : Opened) → IsStoreOf bytes o → ReachesFar bytes → (a : ℕ) → 0 < a → a < o.tail.0 → record_place o.shape a + 24 ≤ length bytes
holds_below apart bytes o store long a some low =
    let n = store.newest in
    let its : IsLong bytes n.shape n.slot = long_for apart bytes n long store.checkpoint.newest in
    let shape : o.shape ≡ n.shape = store.tells.shape in
    let tail : o.tail ≡ n.slot.end = store.tells.tail in
    let at : IsLong bytes o.shape n.slot = subst (λ (s : Shape). IsLong bytes s n.slot) (sym shape) its in
    let slot_end : ℕ = (let slot = n.slot in slot.end.0) in
    let same : o.tail.0 ≡ slot_end = ap (λ (a : Addr). a.0) tail in
    below_end (area_place o.shape 2) slot_end a (length bytes) at.records some (omega (arith, low, same))

-- an image that is no shorter is as long
pub longer : (bytes image : List ℕ) (shape : Shape) (slot : ManifestSlot) → length bytes ≤ length image → IsLong bytes shape slot → IsLong image shape slot
longer bytes image shape slot more long = record {
  slots = (let its = long.slots in omega (arith, its, more));
  records = λ some. (let its = long.records some in omega (arith, its, more));
  triples = λ some. (let its = long.triples some in omega (arith, its, more));
}
