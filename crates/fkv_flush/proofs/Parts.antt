-- The part that is flushed next, and how much of it is in hand.
use Rattle.std.proofs.Common.{◌≡◌, ℕ, ◌+◌, ◌*◌, ◌/◌, ◌<◌, ◌≤◌, ◌^◌, Bool, true, false, refl, arith}
use Rattle.std.specs.Prelude.{nat_lt, ◌&&◌, if◌then◌else◌}
use Rattle.std.proofs.lemmas.Bool.Decides.{nat_tests}
use Rattle.std.proofs.Math.Nat.{div-mul-le_self, lt-div-mul-add}
use Rattle.fkv_base.specs.Limits.{max_page}
use Rattle.fkv_plane.specs.declared.places.RecordWord.TheVariants as rec
use Rattle.fkv_flush.specs.declared.flushing.Part.{Part}
use Rattle.fkv_flush.specs.declared.flushing.Flushing.{Flushing}
use Rattle.fkv_flush.specs.declared.flushing.Flushing.TheVariants.{AtRest, LoadsFlushed, LoadsEnd, LoadsWord, WritesPart, Syncs, RaisesFlushed}
use Rattle.fkv_flush.specs.Flushing.{part_from, part_begun, flush_next, flush_done, count_next, count_done, IsPart, IsInHand, IsFlushInRange, HasRoom, IsWithin}

-- the end of a page fits
pub page_end_fits : (from page : ℕ) → page ≤ max_page → from < 2 ^ 48 → (from / page + 1) * page < 2 ^ 64
page_end_fits from page small fits =
    let under : from / page * page ≤ from = div-mul-le_self from page in
    let next : (from / page + 1) * page ≡ from / page * page + page = omega arith in
    omega (arith, next, under, small, fits)

part_is : (page from end : ℕ) → 0 < page → from < end → end < 2 ^ 48 → IsPart page (part_from page from end)
part_is page from end some below fits =
    let over : from < from / page * page + page = lt-div-mul-add some in
    let under : from / page * page ≤ from = div-mul-le_self from page in
    let next : (from / page + 1) * page ≡ from / page * page + page = omega arith in
    record {
      some_records = grind (arith, next, over, below);
      within = grind (arith);
      one_page = grind (arith, next, under);
      are_addresses = fits;
    }

begun_in_range : (page from end : ℕ) → 0 < page → from < end → end < 2 ^ 48 → IsFlushInRange page 0 (part_begun page from end)
begun_in_range page from end some below fits =
    let part = part_is page from end some below fits in
    record { is_part = part; after = omega arith; before = part.some_records; in_hand = omega arith }

end_where : (page flushed end n : ℕ) (lower fits : Bool) → nat_lt flushed end ≡ lower → nat_lt end (2 ^ 48) ≡ fits → 0 < page → n ≡ 0
    → IsFlushInRange page n (if lower && fits then part_begun page flushed end else AtRest)
end_where page flushed end n true true below fits some none =
    rw none (begun_in_range page flushed end some (let e : flushed < end = grind (arith, nat_tests, below) in e) (let e : end < 2 ^ 48 = grind (arith, nat_tests, fits) in e))
end_where page flushed end n true false below fits some none = tt
end_where page flushed end n false true below fits some none = tt
end_where page flushed end n false false below fits some none = tt

record_where : (page : ℕ) (part : Part) (addr n : ℕ) (more : Bool) → nat_lt (addr + 1) part.stop ≡ more → IsInHand page part addr 2 n
    → IsFlushInRange page (n + 8) (if more then LoadsWord part (addr + 1) rec.Header else WritesPart part)
record_where page part addr n true e h = record {
  is_part = h.is_part;
  after = omega (arith, h.after);
  before = (let below : addr + 1 < part.stop = grind (arith, nat_tests, e) in below);
  in_hand = omega (arith, h.after, h.in_hand);
}
record_where page part addr n false e h = h.is_part

-- the bytes in hand after a reply
pub after_reply : (page : ℕ) (step : Flushing) (n reply : ℕ) → 0 < page → IsFlushInRange page n step → IsFlushInRange page (count_next step n) (flush_next page step reply)
unfolding count_next flush_next
after_reply page AtRest n reply some h = tt
after_reply page LoadsFlushed n reply some h = h
after_reply page (LoadsEnd flushed) n reply some h = end_where page flushed reply n (nat_lt flushed reply) (nat_lt reply (2 ^ 48)) refl refl some h
after_reply page (LoadsWord part addr rec.Header) n reply some h = record { is_part = h.is_part; after = h.after; before = h.before; in_hand = omega (arith, h.in_hand) }
after_reply page (LoadsWord part addr rec.Key) n reply some h = record { is_part = h.is_part; after = h.after; before = h.before; in_hand = omega (arith, h.in_hand) }
after_reply page (LoadsWord part addr rec.Value) n reply some h = record_where page part addr n (nat_lt (addr + 1) part.stop) refl h
after_reply page (WritesPart part) n reply some h = h
after_reply page (Syncs end) n reply some h = tt
after_reply page (RaisesFlushed end) n reply some h = tt

written_where : (page : ℕ) (part : Part) (more : Bool) → nat_lt part.stop part.end ≡ more → 0 < page → IsPart page part
    → IsFlushInRange page 0 (if more then part_begun page part.stop part.end else Syncs part.end)
written_where page part true e some h = begun_in_range page part.stop part.end some (let below : part.stop < part.end = grind (arith, nat_tests, e) in below) h.are_addresses
written_where page part false e some h = tt

-- the bytes in hand after a call of the device
pub after_call : (page : ℕ) (step : Flushing) (done : Bool) (n : ℕ) → 0 < page → IsFlushInRange page n step → IsFlushInRange page (count_done step n) (flush_done page step done)
unfolding count_done flush_done
after_call page (WritesPart part) true n some h = written_where page part (nat_lt part.stop part.end) refl some h
after_call page (WritesPart part) false n some h = tt
after_call page (Syncs end) true n some h = tt
after_call page (Syncs end) false n some h = tt
after_call page AtRest done n some h = tt
after_call page LoadsFlushed done n some h = h
after_call page (LoadsEnd flushed) done n some h = h
after_call page (LoadsWord part addr word) done n some h = h
after_call page (RaisesFlushed end) done n some h = tt

-- the buffer has room for another word
pub has_room : (page : ℕ) (step : Flushing) (n room : ℕ) → 24 * page ≤ room → IsFlushInRange page n step → HasRoom step n room
has_room page AtRest n room many h = tt
has_room page LoadsFlushed n room many h = tt
has_room page (LoadsEnd flushed) n room many h = tt
has_room page (LoadsWord part addr rec.Header) n room many h = omega (arith, many, h.in_hand, h.after, h.before, h.is_part.one_page)
has_room page (LoadsWord part addr rec.Key) n room many h = omega (arith, many, h.in_hand, h.after, h.before, h.is_part.one_page)
has_room page (LoadsWord part addr rec.Value) n room many h = omega (arith, many, h.in_hand, h.after, h.before, h.is_part.one_page)
has_room page (WritesPart part) n room many h = tt
has_room page (Syncs end) n room many h = tt
has_room page (RaisesFlushed end) n room many h = tt

pub is_within : (page : ℕ) (step : Flushing) (n : ℕ) → IsFlushInRange page n step → IsWithin step
is_within page AtRest n h = tt
is_within page LoadsFlushed n h = tt
is_within page (LoadsEnd flushed) n h = tt
is_within page (LoadsWord part addr word) n h = h.before
is_within page (WritesPart part) n h = (omega (arith, h.some_records, h.within, h.are_addresses), omega (arith, h.within, h.are_addresses))
is_within page (Syncs end) n h = tt
is_within page (RaisesFlushed end) n h = tt
