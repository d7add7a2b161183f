-- A new buffer holds none.
use Rattle.std.proofs.Common.{rules, ◌≡◌, ◌*◌, ◌≤◌, [], arith, refl, sym, subst}
use Rattle.std.specs.Prelude.{vec_len}
use Rattle.std.specs.Vec.{vec_capacity}
use Rattle.fkv_checkpoint.specs.Triples.{HeldTriples, IsSpelled, entries_in}
use Rattle.fkv_checkpoint.proofs.Buffers.{none_spelled}
use Rattle.fkv_checkpoint.proofs.triple_buffers.TripleBuffer.new.Goals as goal

pub invariant_of-result : goal.invariant_of-result
invariant_of-result c =
    let exact : vec_capacity c.in_ok-bytes.bytes ≡ 16 * c.args.most = search rules in
    let none : vec_len c.in_ok-bytes.bytes ≡ 0 = search rules in
    let empty : c.in_ok-bytes.bytes.items ≡ [] = search rules in
    (omega (arith, exact), none, subst (IsSpelled 0) (sym empty) none_spelled)

pub returns-clause-made : goal.returns-clause-made
unfolding entries_in
returns-clause-made c = refl
