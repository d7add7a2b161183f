-- Where an action is put into its slot memory doesn't count.
use Rattle.std.proofs.Common.{◌≡◌, ◌∙◌, ap, rules}
use Rattle.std.specs.Prelude.{slice_set, Some}
use Rattle.fkv_keeper.specs.Keeping.{KeeperState, keeper_ask, keeper_next}
use Rattle.fkv_keeper.specs.declared.answers.KeeperTold.{KeeperTold}
use Rattle.fkv_plane.specs.Plane.{Plane}
use Rattle.fkv_plane.specs.declared.asks.Ask.{Ask}
use Rattle.fkv_plane.specs.declared.asks.Ask.TheVariants.{Put}
use Rattle.fkv_world.specs.Moves.{Near, keeper_settled}
use Rattle.fkv_core.specs.Worlds.{beside}
use Rattle.fkv_core.proofs.Granted.{put_settled}
use Rattle.fkv_core.proofs.keeper_moves.settle.Goals as goal

pub returns-in-Put-clause-next : goal.returns-in-Put-clause-next
returns-in-Put-clause-next c = λ granted.
    let k = c.args.keeper.now in
    let n : Near KeeperState = beside c.args.words.now k.state in
    let after : KeeperState = c.go_on.new.self.state in
    let asked : Ask KeeperTold = c.args.next in
    let is : asked ≡ keeper_ask k.shape k.places n.machine = search rules in
    let puts : asked ≡ Put c.in-Put.slot c.in-Put.action = search rules in
    let goes : after ≡ keeper_next k.shape k.places n.machine 0 after.is_granted = search rules in
    let plane : c.put.new.self ≡ record c.args.words.now { actions = slice_set n.actions c.in-Put.slot (Some c.in-Put.action) } = search rules in
    ap (λ (p : Plane). beside p after) plane ∙ put_settled k.shape k.places n after asked c.in-Put.slot c.in-Put.action after.is_granted granted is puts goes
    ∙ ap (λ (ask : Ask KeeperTold). keeper_settled k.shape k.places granted n ask) is
