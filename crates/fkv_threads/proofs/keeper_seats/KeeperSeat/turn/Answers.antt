-- The keeper was ready, and has made a turn with its pass: so the thread law speaks of it.
use Rattle.std.proofs.Common.{◌≡◌, false, sym, ap, ◌∙◌}
use Rattle.law_threads.specs.Below.fkv_table.Planes.{opening_of}
use Rattle.fkv_threads.specs.Watches.{IsTurnOf}
use Rattle.fkv_threads.proofs.Watching.{at_rest, at_there, ready_of, there, turn_of}
use Rattle.fkv_threads.proofs.keeper_seats.KeeperSeat.turn.Goals as goal

pub make_turn-requires : goal.make_turn-requires
make_turn-requires g c =
    let d = g.D.Device in
    let idle : c.self.inside.in_turn ≡ false = ap (λ w. w.in_turn) c.self.view_is ∙ c.requires.idle in
    let here = at_there d _ _ _ _ _ _ _ _ _ (λ i. (sym c.deref.ensures i).table.shared.key) (λ i. (sym c.deref.ensures i).table.shared.table_id) c.self.invariant in
    record { ready = ready_of d _ _ _ _ _ _ _ idle here; honest = here.honest; after = here.after }

pub invariant_of-self : goal.invariant_of-self
invariant_of-self g c =
    let d = g.D.Device in let ran = c.make_turn.ensures in
    let idle : c.self.inside.in_turn ≡ false = ap (λ w. w.in_turn) c.self.view_is ∙ c.requires.idle in
    at_there d _ _ _ _ _ _ _ _ _ (λ i. (c.deref.ensures i).table.shared.key) (λ i. (c.deref.ensures i).table.shared.table_id) (at_rest d _ _ _ _ _ _ _ idle ran.ready ran.honest ran.after)

pub returns : goal.returns
returns g c =
    let k = c.self.inside.keeper.machine in let k' = c.make_turn.new.self.machine in let me = c.self.inside.pass.seat.me in let me' = c.make_turn.new.pass.seat.me in
    let medium = c.self.inside.device in let medium' = c.make_turn.new.d in
    let d = g.D.Device in let ran = c.make_turn.ensures in let law = c.law_threads.ensures in
    let idle : c.self.inside.in_turn ≡ false = ap (λ w. w.in_turn) c.self.view_is ∙ c.requires.idle in
    let here = at_there d _ _ _ _ _ _ _ _ _ (λ i. (sym c.deref.ensures i).table.shared.key) (λ i. (sym c.deref.ensures i).table.shared.table_id) c.self.invariant in
    record {
      turned = there d (λ w w'. IsTurnOf d w c.make_turn.result w') _ _ _ _ k k' me me' medium medium' _ _ _ (λ i. (c.deref.ensures i).table.shared.key) (λ i. (c.deref.ensures i).table.shared.table_id) c.self.view_is
          (turn_of d _ _ _ _ k k' me me' medium medium' _ _ idle here ran.ready ran.honest ran.after ran.kept ran.moments ran.told ran.counted (law.turns (opening_of d.seen) _ _ _ ran.ready.keeping.allowed) (law.finished (opening_of d.seen)) (law.refused (opening_of d.seen)));
    }
