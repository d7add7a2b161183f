-- Fewer asks are left, and what may still come has room.
use Rattle.std.proofs.Common.{arith}
use Rattle.fkv_checkpoint.specs.Copying.{most_copied}
use Rattle.fkv_checkpoint.proofs.CopyAsks.{copy_fewer, copy_slots, fits_after}
use Rattle.fkv_checkpoint.proofs.copying.IndexCopy.drive.Goals as goal

pub put-requires : goal.put-requires
put-requires c =
    let few = copy_slots c.self.inside.places c.self.inside.copying c.args.reply c.self.invariant.its_copying.its_step in
    let fits = c.self.invariant.fits in
    let space = c.self.invariant.its_space in
    rw c.copied_at-triple.ensures (omega (arith, few, fits, space))

pub invariant_of-self : goal.invariant_of-self
invariant_of-self c =
    rw (c.put.ensures, c.copied_at-triple.ensures)
    (record {
      its_copying = c.copy_next-self-inside.ensures.range;
      its_space = c.self.invariant.its_space;
      fits = fits_after c.self.inside.places c.self.inside.copying c.copy_next-self-inside.result c.args.reply (most_copied c.self.inside.places) c.self.inside.triples.entries c.copy_next-self-inside.ensures.next c.self.invariant.its_copying.its_step c.self.invariant.fits;
    })

pub returns-clause-fewer : goal.returns-clause-fewer
returns-clause-fewer c = rw (c.copy_next-self-inside.ensures.next, ← c.self.view_is) (copy_fewer c.self.inside.places c.self.inside.copying c.args.reply)
