-- The address of the record before is put into the mailbox, and the machine has caught up.
use Rattle.std.proofs.Common.{◌≡◌, sym, ap, ◌∙◌}
use Rattle.fkv_plane.specs.declared.asks.Ask.TheVariants.{Store}
use Rattle.fkv_plane.specs.declared.places.SessionWord.TheVariants as own
use Rattle.fkv_plane.specs.Places.{session_place}
use Rattle.fkv_session.specs.Sessions.{Sitter}
use Rattle.fkv_straight.proofs.Endings.{read_asks}
use Rattle.fkv_straight.proofs.Mailboxes.{address_on_asks, address_on_stored, asked_on_asks, asked_on_stored}
use Rattle.fkv_straight.proofs.Readers.{look_alike, on_by, on_caught_up}
use Rattle.fkv_straight.proofs.Refreshes.{asks_here, leads_here}
use Rattle.fkv_straight.proofs.mailbox.ask_on.Goals as goal

pub store-requires-clause-asked : goal.store-requires-clause-asked
store-requires-clause-asked g c =
    let k = g.L.Line.seat c.args.line.now in
    let number : c.number-session.result ≡ k.number = c.number-session.ensures.value ∙ ap (λ x. x.number) c.requires.seat in
    let place : c.place-address_place.result ≡ session_place k.number own.MailAddress = c.place-address_place.ensures ∙ (λ i. session_place (number i) own.MailAddress) in
    address_on_asks k c.requires.at.0 (g.L.Line.stands c.args.line.now) c.args.its.pending c.args.before c.requires.at.2 ∙ (λ i. Store (sym place i) c.args.before.addr.0)

pub store-requires-2-clause-asked : goal.store-requires-2-clause-asked
store-requires-2-clause-asked g c =
    let k = g.L.Line.seat c.args.line.now in
    let s = c.requires.at.0 in
    let p = c.args.its.pending in
    let u = g.L.Line.stands c.args.line.now in
    let v = g.L.Line.stands c.store.new.self in
    let number : c.number-session.result ≡ k.number = c.number-session.ensures.value ∙ ap (λ x. x.number) c.requires.seat in
    let place : c.place-state_place.result ≡ session_place k.number own.MailState = c.place-state_place.ensures ∙ (λ i. session_place (number i) own.MailState) in
    let stored = address_on_stored k s u v p c.args.before c.store.result c.requires.at.2 c.store.ensures.next in
    asks_here k (g.L.Line.seat c.store.new.self) v _ c.store.ensures.seat (asked_on_asks k s v p c.args.before stored ∙ (λ i. Store (sym place i) 1))

pub returns-clause-goes_by : goal.returns-clause-goes_by
returns-clause-goes_by g c = λ its by. on_by c.args.machine.now c.take_polled_on.new.self c.args.its _ its c.requires.may c.take_polled_on.ensures by

pub returns-clause-told : goal.returns-clause-told
returns-clause-told g c =
    let k = g.L.Line.seat c.args.line.now in
    let s = c.requires.at.0 in
    let p = c.args.its.pending in
    let u = g.L.Line.stands c.args.line.now in
    let v = g.L.Line.stands c.store.new.self in
    let w = g.L.Line.stands c.store-2.new.self in
    let stored = address_on_stored k s u v p c.args.before c.store.result c.requires.at.2 c.store.ensures.next in
    read_asks k w _ _ (asked_on_stored k s v w p c.args.before c.store-2.result (look_alike c.args.machine.now.state s c.args.its c.requires.at.1 c.requires.may).floor stored (leads_here k (g.L.Line.seat c.store.new.self) v w c.store-2.result c.store.ensures.seat c.store-2.ensures.next))

pub returns-clause-caught_up : goal.returns-clause-caught_up
returns-clause-caught_up g c =
    let k = g.L.Line.seat c.args.line.now in
    let s = c.requires.at.0 in
    let p = c.args.its.pending in
    let u = g.L.Line.stands c.args.line.now in
    let v = g.L.Line.stands c.store.new.self in
    let w = g.L.Line.stands c.store-2.new.self in
    let stored = address_on_stored k s u v p c.args.before c.store.result c.requires.at.2 c.store.ensures.next in
    on_caught_up c.args.machine.now.state c.take_polled_on.new.self.state s w c.args.its c.args.before c.requires.at.1 c.requires.may (ap (λ (x : Sitter). x.state) c.take_polled_on.ensures)
    (asked_on_stored k s v w p c.args.before c.store-2.result (look_alike c.args.machine.now.state s c.args.its c.requires.at.1 c.requires.may).floor stored (leads_here k (g.L.Line.seat c.store.new.self) v w c.store-2.result c.store.ensures.seat c.store-2.ensures.next))
