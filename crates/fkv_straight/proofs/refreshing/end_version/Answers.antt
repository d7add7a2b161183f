-- The cut is stored, and then that nothing is owed.
use Rattle.std.proofs.Common.{◌≡◌, ◌-◌, sym, ap, ◌∙◌}
use Rattle.fkv_plane.specs.declared.asks.Ask.TheVariants.{Store}
use Rattle.fkv_plane.specs.declared.places.SessionWord.TheVariants as own
use Rattle.fkv_plane.specs.Places.{session_place}
use Rattle.fkv_session.specs.CatchingUp.{cut_at, cut_of}
use Rattle.fkv_straight.proofs.Refreshes.{asks_here, cut_asks, cut_comes, leads_here, owing_asks, owing_comes}
use Rattle.fkv_straight.proofs.refreshing.end_version.Goals as goal

pub store-requires-clause-asked : goal.store-requires-clause-asked
store-requires-clause-asked g c =
    let k = g.L.Line.seat c.args.line.now in
    let at = c.requires.at in
    let number : c.number-session.result ≡ k.number = c.number-session.ensures.value ∙ ap (λ x. x.number) c.requires.seat in
    let serial : c.serial-serial.result.0 ≡ at.0.serial = c.serial-serial.ensures.value ∙ at.2 in
    let before : c.saturating_sub-before.result ≡ c.args.after.version.0 - 1 = c.saturating_sub-before.ensures in
    let word : c.cut_of-cut_word.result ≡ cut_of (c.args.after.version.0 - 1) = c.cut_of-cut_word.ensures ∙ (λ i. cut_of (before i)) in
    let place : c.place-cut_place.result ≡ session_place k.number (cut_of (c.args.after.version.0 - 1)) = c.place-cut_place.ensures ∙ (λ i. session_place (number i) (word i)) in
    let cut : c.cut_at-cut.result ≡ cut_at at.0.serial (c.args.after.version.0 - 1) = c.cut_at-cut.ensures ∙ (λ i. cut_at (serial i) (before i)) in
    cut_asks k at.0 (g.L.Line.stands c.args.line.now) at.1 c.args.after at.3 ∙ (λ i. Store (sym place i) (sym cut i))

pub store-requires-2-clause-asked : goal.store-requires-2-clause-asked
store-requires-2-clause-asked g c =
    let k = g.L.Line.seat c.args.line.now in
    let at = c.requires.at in
    let v = g.L.Line.stands c.store.new.self in
    let number : c.number-session.result ≡ k.number = c.number-session.ensures.value ∙ ap (λ x. x.number) c.requires.seat in
    let place : c.place-owing_place.result ≡ session_place k.number own.Owing = c.place-owing_place.ensures ∙ (λ i. session_place (number i) own.Owing) in
    asks_here k (g.L.Line.seat c.store.new.self) v _ c.store.ensures.seat
    (owing_asks k at.0 v at.1 c.args.after (cut_comes k at.0 (g.L.Line.stands c.args.line.now) v at.1 c.store.result c.args.after at.3 c.store.ensures.next) ∙ (λ i. Store (sym place i) 0))

pub returns-clause-ends : goal.returns-clause-ends
returns-clause-ends g c = λ s epoch serial at.
    let k = g.L.Line.seat c.args.line.now in
    let v = g.L.Line.stands c.store.new.self in
    let w = g.L.Line.stands c.store-2.new.self in
    owing_comes k s v w epoch c.store-2.result c.args.after (cut_comes k s (g.L.Line.stands c.args.line.now) v epoch c.store.result c.args.after at c.store.ensures.next)
    (leads_here k (g.L.Line.seat c.store.new.self) v w c.store-2.result c.store.ensures.seat c.store-2.ensures.next)
