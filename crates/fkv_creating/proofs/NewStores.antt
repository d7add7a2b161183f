-- A new store of each shape: its slot, the bytes that `create` leaves, and the store opened.
use Rattle.std.proofs.Common.{◌≡◌, ℕ, zero, suc, ◌*◌, ◌^◌, ◌<◌, ◌≤◌, List, [], ◌∷◌, length, Vec, Global, Some, None, true, false, refl, sym, ◌∙◌, ap, subst, arith}
use Rattle.std.specs.Prelude.{replicate}
use Rattle.std.specs.Option.{is_some}
use Rattle.std.proofs.Math.Nat.{mul-le-mul}
use denote.RawPtr.{null_ptr}
use Rattle.fkv_base.specs.declared.numbers.Addr.{Addr}
use Rattle.fkv_base.specs.declared.numbers.Serial.{Serial}
use Rattle.fkv_base.specs.declared.shapes.Shape.{Shape}
use Rattle.fkv_newest.specs.declared.newest_slots.Newest.{Newest}
use Rattle.fkv_newest.specs.Newest.{IsNewestOf}
use Rattle.fkv_opening.specs.Opened.{IsStoreOf, Tells}
use Rattle.fkv_opening.specs.declared.opened_store.Opened.{Opened}
use Rattle.fkv_record.specs.declared.formats.Format.TheVariants.{Third}
use Rattle.fkv_record.specs.declared.manifest_slots.ManifestSlot.{ManifestSlot}
use Rattle.fkv_record.specs.declared.points.Points.{Points}
use Rattle.fkv_record.specs.Layout.{shape_bytes}
use Rattle.fkv_record.specs.Manifest.{SlotSaid, newest_bytes, said_in}
use Rattle.fkv_record.proofs.Shown.{third_spelled}
use Rattle.fkv_record.specs.Points.{serial_numbers}
use Rattle.fkv_creating.specs.Created.{IsCreated, IsNew, IsNewSlot, IsNewStore, created_bytes, laid, new_said}
use Rattle.fkv_creating.specs.Long.{IsLong}
use Rattle.fkv_creating.proofs.Entryless.{is_checkpoint, is_sound, no_entries, no_entry_room, none_in_hand}
use Rattle.fkv_creating.proofs.Newly.{is_long, newest_told}
use Rattle.fkv_opening.proofs.Shown.{nothing_warm, room_in_ring}
use Rattle.fkv_creating.proofs.Suiting.{many_points, page_some, points_fit, suits_new}

-- ---- the slot
-- so many points, each 0
no_serials : ℕ → List Serial
no_serials sessions = replicate sessions (record { 0 = 0 })

numbers_of : (sessions : ℕ) → serial_numbers (no_serials sessions) ≡ replicate sessions 0
unfolding no_serials
numbers_of zero = refl
numbers_of (suc sessions) = ap (λ (numbers : List ℕ). 0 ∷ numbers) (numbers_of sessions)

many : (sessions : ℕ) → length (no_serials sessions) ≡ sessions
many sessions = many_points (no_serials sessions) sessions (numbers_of sessions)

new_points : Shape → Points
new_points shape = record {
  serials = record { items = no_serials shape.sessions };
  some_session = omega (arith, many shape.sessions, shape.limits.some_session);
  few_sessions = omega (arith, many shape.sessions, shape.limits.few_sessions);
  serials_fit = points_fit (no_serials shape.sessions) shape.sessions (numbers_of shape.sessions);
}

new_slot : Shape → ManifestSlot
new_slot shape = record {
  number = 0;
  first = record { 0 = 1 };
  end = record { 0 = 1 };
  triples = 0;
  area = 0;
  points = new_points shape;
  checkpoint = 0;
  lost = record { ranges = record { items = [] }; few_ranges = omega arith };
  begin = record { 0 = 1 };
  number_fits = omega arith;
  first_fits = omega arith;
  end_fits = omega arith;
  triples_fit = omega arith;
  area_fits = omega arith;
  checkpoint_fits = omega arith;
  begin_fits = omega arith;
}

is_new_slot : (shape : Shape) → IsNewSlot shape.sessions (new_slot shape)
unfolding new_slot new_points
is_new_slot shape = record { number = refl; first = refl; end = refl; triples = refl; area = refl; points = numbers_of shape.sessions; checkpoint = refl; lost = refl; begin = refl }

new_newest : Shape → Newest
new_newest shape = record { shape = shape; index = 0; format = Third; slot = new_slot shape; open_numbers = (Some 0, None); fits = suits_new shape (new_slot shape) (is_new_slot shape) }

newest_is_new : (shape : Shape) → IsNew shape (new_newest shape)
unfolding new_newest
newest_is_new shape = record { its_shape = refl; index = refl; format = refl; slot = is_new_slot shape; open_0 = refl; open_1 = refl }

-- ---- what two stores say alike
serial_at : ℕ → Serial
serial_at n = record { 0 = n }

serial_is : (x y : Serial) → x.0 ≡ y.0 → x ≡ y
unfolding serial_at
serial_is x y e = ap serial_at e

addr_at : ℕ → Addr
addr_at n = record { 0 = n }

addr_is : (x y : Addr) → x.0 ≡ y.0 → x ≡ y
unfolding addr_at
addr_is x y e = ap addr_at e

same_serials : (xs ys : List Serial) → serial_numbers xs ≡ serial_numbers ys → xs ≡ ys
same_serials [] [] e = refl
same_serials [] (y ∷ ys) e = cc
same_serials (x ∷ xs) [] e = cc
same_serials (x ∷ xs) (y ∷ ys) e =
    let first : x ≡ y = serial_is x y (cc) in
    let rest : xs ≡ ys = same_serials xs ys (cc) in
    cc

-- what a new slot says
pub said_new : (sessions : ℕ) (slot : ManifestSlot) → IsNewSlot sessions slot → said_in slot ≡ new_said sessions
unfolding addr_at no_serials
said_new sessions slot new = λ i. record { number = new.number i; first = first i; end = end i; triples = new.triples i; area = new.area i; points = points i; checkpoint = new.checkpoint i; lost = new.lost i; begin = begin i }
  where
    first : slot.first ≡ addr_at 1
    first = addr_is slot.first (addr_at 1) new.first

    begin : slot.begin ≡ addr_at 1
    begin = addr_is slot.begin (addr_at 1) new.begin

    end : slot.end ≡ addr_at 1
    end = addr_is slot.end (addr_at 1) new.end

    points : slot.points.serials.items ≡ no_serials sessions
    points = same_serials slot.points.serials.items (no_serials sessions) (new.points ∙ sym (numbers_of sessions))

-- ---- the bytes
pub is_created : (old : List ℕ) (shape : Shape) → IsCreated shape (created_bytes old shape)
is_created old shape =
    let n : Newest = new_newest shape in
    let new : IsNew shape n = newest_is_new shape in
    let as_said : laid old (shape_bytes shape) (newest_bytes (said_in n.slot)) ≡ created_bytes old shape = ap (λ (said : SlotSaid). laid old (shape_bytes shape) (newest_bytes said)) (said_new shape.sessions n.slot new.slot) in
    record {
      newest = n;
      is_new = new;
      told = subst (λ (image : List ℕ). IsNewestOf image n) as_said (newest_told old n shape new (third_spelled n.slot new.slot.begin));
      long = subst (λ (image : List ℕ). IsLong image n.shape n.slot) as_said (is_long old n shape new);
    }

-- ---- the store
-- a vector with these items, where they are no more than there can be
vec_of : {X : Type 0} → (items : List X) → length items < 2 ^ 63 → Vec X Global
vec_of items few = record { ptr = null_ptr; len = length items; cap = length items; alloc = record { memory = record { seal = tt } }; items = items; ok = (refl, omega arith); small = few }

few_points : (shape : Shape) → length (no_serials shape.sessions) < 2 ^ 63
few_points shape = omega (arith, many shape.sessions, shape.limits.few_sessions)

on_disk : (shape : Shape) → 1 ≤ shape.disk_pages * shape.page
on_disk shape = mul-le-mul shape.limits.some_disk (page_some shape.page shape.limits.page_size)

pub new_opened : Shape → Opened
unfolding vec_of
new_opened shape = record {
  shape = shape;
  number = record { 0 = 0 };
  begin = record { 0 = 1 };
  tail = record { 0 = 1 };
  points = vec_of (no_serials shape.sessions) (few_points shape);
  gates = (true, false);
  checkpoint = record { number = record { 0 = 0 }; first = record { 0 = 1 }; triples = 0; area = 0 };
  lost = record { items = [] };
  entries = vec_of [] (omega arith);
  warm = record { 0 = 1 };
  frames = vec_of [] (omega arith);
  room = no_entry_room (2 ^ shape.bucket_bits) shape.overflow [] refl;
  few_entries = omega arith;
  few_commits = omega arith;
  some_tail = omega arith;
  tail_on_disk = on_disk shape;
  some_warm = omega arith;
  warm_from_begin = omega arith;
  warm_in_log = omega arith;
  warm_in_ring = room_in_ring shape 1;
  three_words = refl;
  each_session = many shape.sessions;
  small_points = points_fit (no_serials shape.sessions) shape.sessions (numbers_of shape.sessions);
  some_begin = omega arith;
  begin_before_scan = omega arith;
  whole = λ specified. refl;
  some_first = omega arith;
  upwards = omega arith;
  few_triples = omega arith;
  two_areas = omega arith;
  no_newer = omega arith;
}

pub opened_is_new : (shape : Shape) → IsNewStore shape (new_opened shape)
unfolding new_opened vec_of
opened_is_new shape = record {
  its_shape = refl;
  number = refl;
  begin = refl;
  tail = refl;
  points = numbers_of shape.sessions;
  gate_0 = refl;
  gate_1 = refl;
  checkpoint = refl;
  first = refl;
  triples = refl;
  area = refl;
  entries = refl;
  lost = refl;
}

-- ---- an image of a new store holds each new store of its shape
module _ (image : List ℕ) (shape : Shape) (n : Newest) (o : Opened) (new : IsNew shape n) (store : IsNewStore shape o) where
  tells : Tells n o
  tells = record {
    shape = store.its_shape ∙ sym new.its_shape;
    number = store.number ∙ sym new.slot.number;
    begin = addr_is o.begin n.slot.begin (store.begin ∙ sym new.slot.begin);
    tail = addr_is o.tail n.slot.end (store.tail ∙ sym new.slot.end);
    points = same_serials o.points.items n.slot.points.serials.items (store.points ∙ sym new.slot.points);
    gate_0 = store.gate_0 ∙ sym (ap is_some new.open_0);
    gate_1 = store.gate_1 ∙ sym (ap is_some new.open_1);
    checkpoint = store.checkpoint ∙ sym new.slot.checkpoint;
    first = addr_is o.checkpoint.first n.slot.first (store.first ∙ sym new.slot.first);
    triples = store.triples ∙ sym new.slot.triples;
    area = store.area ∙ sym new.slot.area;
  }

  pub holds_new : IsNewestOf image n → IsStoreOf image o
  holds_new told = record {
    newest = n;
    triples = [];
    checkpoint = is_checkpoint image shape n new told;
    sound = is_sound image shape n new;
    tells = tells;
    entries = no_entries image shape n new o.entries.items store.entries;
    lost = none_in_hand image shape n new o.lost.items store.lost;
    warm = (let tail = store.tail in let some = o.some_warm in nothing_warm image o (omega (arith, tail, some)));
  }
