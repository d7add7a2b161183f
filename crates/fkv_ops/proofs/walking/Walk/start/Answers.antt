-- A walk begins with the asks of a search, and two for each record of a ring.
use Rattle.std.proofs.Common.{◌≡◌, ◌*◌, rules}
use Rattle.fkv_index.specs.Slots.{home_of}
use Rattle.fkv_index.specs.Finding.{asks_left, first_finding}
use Rattle.fkv_ops.specs.declared.walking.WalkAnswer.TheVariants.{Contended}
use Rattle.fkv_ops.specs.AsksLeft.{walking_asks_left}
use Rattle.fkv_plane.proofs.Shown.{passed_left}
use Rattle.fkv_ops.proofs.AsksLeft.{counted_left}
use Rattle.fkv_ops.proofs.WalkAsks.{walk_begun_left}
use Rattle.fkv_ops.proofs.walking.Walk.start.Goals as goal

pub returns-clause-asks : goal.returns-clause-asks
unfolding walking_asks_left
returns-clause-asks c =
    let left = asks_left c.start.new.self.finding in
    rw c.passed.ensures (passed_left left (2 * c.args.self.now.places.ring) c.start.result Contended (counted_left left c.start.result c.start.ensures.counted))

pub returns-clause-bounded : goal.returns-clause-bounded
unfolding walking_asks_left
returns-clause-bounded c =
    let now = c.args.self.now in
    let a = c.args in
    let next : c.start.new.self.finding ≡ first_finding now.places (home_of now.bits a.key) a.purpose a.spare = search rules in
    rw next (walk_begun_left now.places (home_of now.bits a.key) a.key a.purpose a.head a.spare)
