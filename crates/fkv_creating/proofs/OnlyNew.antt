-- An image of a new store holds no store but a new one.
use Rattle.std.proofs.Common.{◌≡◌, ℕ, ◌≤◌, List, [], ◌∷◌, length, Option, Some, refl, sym, ◌∙◌, ap, subst, arith}
use Rattle.std.specs.Prelude.{Bool, true, false, IsSome}
use Rattle.std.specs.Option.{is_some}
use Rattle.fkv_base.specs.declared.numbers.Addr.{Addr}
use Rattle.fkv_base.specs.declared.shapes.Shape.{Shape}
use Rattle.fkv_chains.specs.Reached.{Reached}
use Rattle.fkv_entries.specs.declared.home_entries.HomeEntry.{HomeEntry}
use Rattle.fkv_manifest.specs.Newest.{slot_in}
use Rattle.fkv_newest.specs.declared.newest_slots.Newest.{Newest}
use Rattle.fkv_newest.specs.Newest.{IsNewestOf, slot_place}
use Rattle.fkv_newest.proofs.Shown.{one_index}
use Rattle.fkv_opening.specs.Entries.{AreEntries, place_of}
use Rattle.fkv_opening.specs.Faults.{log_of}
use Rattle.fkv_opening.specs.Lost.{Extends}
use Rattle.fkv_opening.specs.Opened.{IsStoreOf}
use Rattle.fkv_opening.specs.declared.opened_store.Opened.{Opened}
use Rattle.fkv_record.specs.Layout.{shape_bytes}
use Rattle.fkv_record.specs.Manifest.{manifest_bytes}
use Rattle.fkv_record.specs.Points.{serial_numbers}
use Rattle.fkv_record.specs.declared.formats.Format.{Format}
use Rattle.fkv_record.specs.declared.lost_ranges.LostRange.{LostRange}
use Rattle.fkv_record.specs.declared.manifest_slots.ManifestSlot.{ManifestSlot}
use Rattle.fkv_record.specs.declared.triples.Triple.{Triple}
use Rattle.fkv_record.proofs.Shown.{manifest_apart}
use Rattle.fkv_scan.specs.Log.{Log}
use Rattle.fkv_scan.specs.Scanned.{TellsNewer}
use Rattle.fkv_creating.specs.Created.{IsNew, IsNewSlot, IsNewStore}
use Rattle.fkv_creating.proofs.Sound.{none_reached}

no_length : (xs : List Triple) → length xs ≡ 0 → xs ≡ []
no_length [] e = refl
no_length (x ∷ xs) e = cc

none_listed : (log : Log) (entries : List HomeEntry) → ((a : ℕ) → Reached log a → ⊥) → AreEntries log entries → entries ≡ []
none_listed log [] unreached are = refl
none_listed log (x ∷ xs) unreached are =
    let entry = (are.all (place_of x).0 (place_of x).1).0 (0, omega arith, refl) in
    absurd (unreached (place_of x).1 entry.counts.1.reached)

none_lost : (log : Log) (left_out : Bool) (ranges : List LostRange) → log.tail ≤ log.start → log.lost ≡ [] → TellsNewer log log.tail left_out → Extends log left_out ranges → ranges ≡ []
none_lost log true ranges short none tells extends = absurd (omega (arith, short, tells.1, tells.2))
none_lost log false ranges short none tells extends = extends ∙ none

module _ (image : List ℕ) (shape : Shape) (n : Newest) (o : Opened) (apart : (x y : Shape) → shape_bytes x ≡ shape_bytes y → x ≡ y) (new : IsNew shape n) (told : IsNewestOf image n) (held : IsStoreOf image o) where
  its : IsNewestOf image held.newest
  its = held.checkpoint.newest

  same_index : n.index ≡ held.newest.index
  same_index = one_index n.index held.newest.index (sym told.in_force ∙ its.in_force)

  same_bytes : manifest_bytes (n.format, n.slot) ≡ manifest_bytes (held.newest.format, held.newest.slot)
  same_bytes = told.manifest.stands ∙ ap (λ (index : ℕ). Some (slot_in image (slot_place index))) same_index ∙ sym its.manifest.stands

  same_slot : n.slot ≡ held.newest.slot
  same_slot =
      let some = told.manifest.stands in
      let same : ◌≡◌ {A = Format × ManifestSlot} (n.format, n.slot) (held.newest.format, held.newest.slot) =
      manifest_apart (n.format, n.slot) (held.newest.format, held.newest.slot) (subst (λ (bytes : Option (List ℕ)). IsSome bytes) (sym some) refl) same_bytes in
      ap (λ (p : Format × ManifestSlot). p.1) same

  same_shape : held.newest.shape ≡ shape
  same_shape = apart held.newest.shape n.shape (its.block ∙ sym told.block) ∙ new.its_shape

  slot : IsNewSlot shape.sessions held.newest.slot
  slot = subst (λ (s : ManifestSlot). IsNewSlot shape.sessions s) same_slot new.slot

  none : held.triples ≡ []
  none = no_length held.triples (held.checkpoint.stored.many ∙ slot.triples)

  short : held.newest.slot.end.0 ≤ held.newest.slot.first.0
  short = omega (arith, slot.end, slot.first)

  unreached : (a : ℕ) → Reached (log_of image held.newest held.triples) a → ⊥
  unreached a reached = none_reached (log_of image held.newest held.triples) a none short reached

  gate_0 : is_some held.newest.open_numbers.0 ≡ true
  gate_0 = ap is_some (its.open_0 ∙ sym told.open_0 ∙ new.open_0)

  gate_1 : is_some held.newest.open_numbers.1 ≡ false
  gate_1 = ap is_some (its.open_1 ∙ sym told.open_1 ∙ new.open_1)

  pub only_new : IsNewStore shape o
  only_new = record {
    its_shape = held.tells.shape ∙ same_shape;
    number = held.tells.number ∙ slot.number;
    begin = ap (λ (x : Addr). x.0) held.tells.begin ∙ slot.begin;
    tail = ap (λ (x : Addr). x.0) held.tells.tail ∙ slot.end;
    points = ap serial_numbers held.tells.points ∙ slot.points;
    gate_0 = held.tells.gate_0 ∙ gate_0;
    gate_1 = held.tells.gate_1 ∙ gate_1;
    checkpoint = held.tells.checkpoint ∙ slot.checkpoint;
    first = ap (λ (x : Addr). x.0) held.tells.first ∙ slot.first;
    triples = held.tells.triples ∙ slot.triples;
    area = held.tells.area ∙ slot.area;
    entries = none_listed (log_of image held.newest held.triples) o.entries.items unreached held.entries;
    lost = none_lost (log_of image held.newest held.triples) held.lost.left_out o.lost.items short slot.lost held.lost.tells held.lost.extends;
  }
