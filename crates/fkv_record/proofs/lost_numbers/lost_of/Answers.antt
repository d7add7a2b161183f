use Rattle.std.proofs.Common.{◌≡◌, ℕ, ◌-◌, ◌*◌, length, replicate, arith, refl, sym, ap, ◌∙◌}
use Rattle.fkv_record.proofs.RangePlaces.{lost_read_in, lost_none_in}
use Rattle.fkv_record.proofs.lost_numbers.lost_of.Goals as goal

pub returns-then-not-are_zero : goal.returns-then-not-are_zero
returns-then-not-are_zero c =
    lost_none_in (length c.args.places.now) c.args.count c.args.places.now (λ x f.
    let rest : length c.split_at.result.1.now ≡ length c.args.places.now - 2 * c.args.count = omega (arith, c.split_at.ensures.back_len) in
    let zero = c.split_at.ensures.back ∙ f.unused ∙ ap (λ (n : ℕ). replicate n 0) (sym rest) in
    let never = c.if-not-are_zero.ensures.1 zero in
    let absent : ⊥ = cc in
    absent)

pub returns : goal.returns
returns c =
    let rest : length c.split_at.result.1.now ≡ length c.args.places.now - 2 * c.args.count = omega (arith, c.split_at.ensures.back_len) in
    lost_read_in (length c.args.places.now) _ c.args.count c.args.places.now (record {
      count = c.ranges_of.ensures.count;
      used = sym c.split_at.ensures.front ∙ sym c.ranges_of.ensures.same;
      unused = sym c.split_at.ensures.back ∙ c.if-not-are_zero.ensures.0 refl ∙ ap (λ (n : ℕ). replicate n 0) rest;
    })
