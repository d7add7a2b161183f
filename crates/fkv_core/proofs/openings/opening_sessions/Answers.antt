-- One more session sits down.
use Rattle.std.proofs.Common.{◌≡◌, arith, ap, subst, sym, ℕ, ◌+◌, ◌<◌, List, [], ◌∷◌, ◌++◌, length}
use Rattle.std.proofs.lemmas.List.{length-append}
use Rattle.fkv_keeper.specs.NewKeepers.{ArePlacesOfStore}
use Rattle.fkv_opening.specs.declared.opened_store.Opened.{Opened}
use Rattle.fkv_session.specs.Sessions.{Sitter}
use Rattle.fkv_core.specs.Openings.{AreOpeningSitters, IsOpeningSitter}
use Rattle.fkv_core.proofs.Sitters.{one_more_sits, sits_down}
use Rattle.fkv_core.proofs.openings.opening_sessions.Goals as goal

pub loop-number-preserved : goal.loop-number-preserved
loop-number-preserved c =
    let o : Opened = c.args.opened.now in
    let n : ℕ = c.loop-number.number in
    let before : List Sitter = c.loop-number.sessions.items in
    let next : Sitter = c.new.result in
    let its = c.new.ensures in
    let store : ArePlacesOfStore o.shape next.seat.places = record { sessions = its.sessions; buckets = its.buckets; overflow = its.overflow; ring = its.ring } in
    let below : n < length c.deref-point-items.result.now = omega arith in
    let sits : IsOpeningSitter o n next =
    sits_down o n c.seen_at_opening-seen.result c.deref-point-items.result.now _ next c.seen_at_opening-seen.ensures c.deref-point-items.ensures.value below its.shape its.number store its.seen its.serial its.floor its.opened in
    let all : c.push.new.self.items ≡ before ++ next ∷ [] = c.in_ok-push.ensures.items in
    let many : length before ≡ n = c.loop-number.invariant.0 in
    let more : length c.push.new.self.items ≡ n + 1 = omega (arith, ap length all, length-append before (next ∷ []), many) in
    (more, subst (λ (sitters : List Sitter). AreOpeningSitters o sitters) (sym all) (one_more_sits o before n next many c.loop-number.invariant.1 sits))
