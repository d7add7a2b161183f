use Rattle.std.proofs.Common.{arith, ℕ, ◌+◌, ◌*◌, ◌^◌, ◌<◌, ◌≤◌, subst, sym}
use Rattle.fkv_base.proofs.Shown.{slots_few}
use Rattle.fkv_base.specs.Limits.{most_slots}
use Rattle.fkv_looking.specs.Buckets.{bucket_of, greatest}
use Rattle.fkv_looking.proofs.Tallies.{greatest_few}
use Rattle.fkv_looking.proofs.index_looks.index_look.Goals as goal

-- what is no more than the entries is below what a number of the machine can be
small : (n entries slots : ℕ) → n ≤ entries → entries ≤ slots → slots ≤ most_slots → n < 2 ^ 63
small n entries slots few in_slots few_slots = omega (arith, few, in_slots, few_slots)

pub buckets_by_entries-requires : goal.buckets_by_entries-requires
buckets_by_entries-requires c =
    let opened = c.args.opened.now in
    let s = opened.shape in
    let few = greatest_few bucket_of (2 ^ s.bucket_bits) opened.entries.items c.in_ok-entries.entries.items c.in_ok-entries.ensures.ok in
    subst (λ xs. greatest xs < 2 ^ 63) (sym c.deref.ensures.value)
    (small _ _ (7 * (2 ^ s.bucket_bits + s.overflow)) few opened.few_entries (slots_few s.bucket_bits s.overflow s.limits.few_buckets s.limits.few_overflow))
