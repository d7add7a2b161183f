-- The epoch is stored, and the machine has caught up.
use Rattle.std.proofs.Common.{◌≡◌, sym, ap, ◌∙◌}
use Rattle.fkv_plane.specs.declared.asks.Ask.TheVariants.{Store}
use Rattle.fkv_plane.specs.declared.places.SessionWord.TheVariants as own
use Rattle.fkv_plane.specs.Places.{session_place}
use Rattle.fkv_straight.proofs.Refreshes.{last_asks, last_comes, refreshed_asks, refreshed_caught_up}
use Rattle.fkv_straight.proofs.refreshing.finish.Goals as goal

pub store-requires-clause-asked : goal.store-requires-clause-asked
store-requires-clause-asked g c =
    let k = g.L.Line.seat c.args.line.now in
    let at = c.requires.at in
    let number : c.number-session.result ≡ k.number = c.number-session.ensures.value ∙ ap (λ x. x.number) c.requires.seat in
    let place : c.place-epoch_place.result ≡ session_place k.number own.Epoch = c.place-epoch_place.ensures ∙ (λ i. session_place (number i) own.Epoch) in
    last_asks k at.0 (g.L.Line.stands c.args.line.now) c.args.epoch c.args.after at.2 ∙ (λ i. Store (sym place i) c.args.epoch)

pub returns-clause-told : goal.returns-clause-told
returns-clause-told g c =
    let k = g.L.Line.seat c.args.line.now in
    let at = c.requires.at in
    let v = g.L.Line.stands c.store.new.self in
    refreshed_asks k at.0 v c.args.after (last_comes k at.0 (g.L.Line.stands c.args.line.now) v c.args.epoch c.store.result c.args.after at.2 c.store.ensures.next)

pub returns-clause-caught_up : goal.returns-clause-caught_up
returns-clause-caught_up g c =
    let k = g.L.Line.seat c.args.line.now in
    let at = c.requires.at in
    let v = g.L.Line.stands c.store.new.self in
    refreshed_caught_up c.args.machine.now.state c.take_seen.new.self.state at.0 v c.args.after at.1 c.requires.free (ap (λ x. x.state) c.take_seen.ensures)
    (last_comes k at.0 (g.L.Line.stands c.args.line.now) v c.args.epoch c.store.result c.args.after at.2 c.store.ensures.next)
