-- What the session has seen fits what its straight calls go by.
use Rattle.std.proofs.Common.{◌≡◌, ℕ, ◌-◌, ◌^◌, ◌∙◌, sym, ap, arith, rules}
use Rattle.std.specs.Int.Bits.{bit_and}
use Rattle.std.proofs.lemmas.Nat.{and_mask}
use Rattle.fkv_base.specs.declared.shapes.Shape.{Shape}
use Rattle.fkv_straight.proofs.going.Going.look.Goals as goal

pub invariant_of-result : goal.invariant_of-result
invariant_of-result c =
    let counted : c.places-places.result.buckets ≡ 2 ^ c.shape-shape.result.bucket_bits = c.places-places.ensures.buckets ∙ ap (λ (s : Shape). 2 ^ s.bucket_bits) (sym c.shape-shape.ensures) in
    record {
      buckets = counted;
      mark_fits = c.mark-own.ensures.fits;
      starts = search rules;
      starts_first = c.bucket-first_bucket.ensures;
      masks = λ n. ap (λ (count : ℕ). bit_and n (count - 1)) counted ∙ and_mask n c.shape-shape.result.bucket_bits;
      few_bits = (let h = c.shape-shape.result.limits.few_buckets in omega (arith, h));
      some_head = (let h = c.if-head-eq0.false in omega (arith, h));
      low_head = (let h = c.if-head.false in omega (arith, h));
    }
