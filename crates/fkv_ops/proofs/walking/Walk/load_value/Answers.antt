-- The value is loaded by two asks at most.
use Rattle.std.proofs.Common.{◌≡◌, rules}
use Rattle.fkv_ops.specs.Walking.{walking_on, walk_on}
use Rattle.fkv_ops.proofs.WalkAsks.{walk_on_left}
use Rattle.fkv_ops.proofs.walking.Walk.load_value.Goals as goal

pub returns-clause-bounded : goal.returns-clause-bounded
unfolding walking_on
returns-clause-bounded c =
    let next : c.match-self.self.state ≡ walk_on c.args.self.now.state = search rules in
    rw next (walk_on_left c.args.self.now.places c.args.self.now.state)
