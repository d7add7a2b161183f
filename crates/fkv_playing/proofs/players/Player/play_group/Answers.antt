use Rattle.std.proofs.Common.{rules, ◌≡◌, true, false}
use Rattle.fkv_playing.specs.Groups.{is_struck_by}
use Rattle.fkv_playing.proofs.Picking.{one_more_pick, pick_found, struck_picked}
use Rattle.fkv_playing.proofs.players.Player.play_group.Goals as goal

pub returns-then-eq : goal.returns-then-eq
returns-then-eq g c =
    let struck : is_struck_by c.in_ok-pick_at.field-0 ≡ true = search rules in
    struck_picked _ c.in-Some.at _ _ _ _ _ _ _ _ c.loop.invariant
    (pick_found _ _ _ _ c.deref-in-loop.result.now _ _ _ _ c.deref-in-loop.ensures.value c.in-Some.ensures.some c.in_ok-pick_at.ensures struck)
    c.give_up.ensures

pub loop-preserved : goal.loop-preserved
loop-preserved g c =
    let goes_on : is_struck_by c.in_ok-pick_at.field-0 ≡ false = search rules in
    one_more_pick _ c.in-Some.at _ _ _ _ _ _ c.loop.invariant
    (pick_found _ _ _ _ c.deref-in-loop.result.now _ _ _ _ c.deref-in-loop.ensures.value c.in-Some.ensures.some c.in_ok-pick_at.ensures goes_on)
