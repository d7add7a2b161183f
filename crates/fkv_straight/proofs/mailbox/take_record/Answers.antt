-- Each word is loaded in its turn, and then the mailbox is emptied.
use Rattle.std.proofs.Common.{◌≡◌, sym, ap, ◌∙◌}
use Rattle.fkv_plane.specs.declared.asks.Ask.TheVariants.{Load, Store}
use Rattle.fkv_plane.specs.declared.places.SessionWord.TheVariants as own
use Rattle.fkv_plane.specs.Places.{session_place}
use Rattle.fkv_straight.proofs.Mailboxes.{empty_asks, empty_stored, header_asks, header_comes, key_asks, key_comes, value_asks, value_comes}
use Rattle.fkv_straight.proofs.Refreshes.{asks_here, leads_here}
use Rattle.fkv_straight.proofs.mailbox.take_record.Goals as goal

pub load-header-requires-clause-asked : goal.load-header-requires-clause-asked
load-header-requires-clause-asked g c =
    let k = g.L.Line.seat c.args.line.now in
    let number : c.number-session.result ≡ k.number = c.number-session.ensures.value ∙ ap (λ x. x.number) c.requires.seat in
    let place : c.place-header_place.result ≡ session_place k.number own.MailHeader = c.place-header_place.ensures ∙ (λ i. session_place (number i) own.MailHeader) in
    header_asks k c.requires.at.0 (g.L.Line.stands c.args.line.now) c.args.its.pending c.requires.at.1 ∙ ap Load (sym place)

pub load-key-requires-clause-asked : goal.load-key-requires-clause-asked
load-key-requires-clause-asked g c =
    let k = g.L.Line.seat c.args.line.now in
    let s = c.requires.at.0 in
    let p = c.args.its.pending in
    let u = g.L.Line.stands c.args.line.now in
    let v = g.L.Line.stands c.load-header.new.self in
    let number : c.number-session.result ≡ k.number = c.number-session.ensures.value ∙ ap (λ x. x.number) c.requires.seat in
    let place : c.place-key_place.result ≡ session_place k.number own.MailKey = c.place-key_place.ensures ∙ (λ i. session_place (number i) own.MailKey) in
    let one = header_comes k s u v p c.load-header.result c.requires.at.1 c.load-header.ensures.next in
    asks_here k (g.L.Line.seat c.load-header.new.self) v _ c.load-header.ensures.seat (key_asks k s v p c.load-header.result one ∙ ap Load (sym place))

pub load-value-requires-clause-asked : goal.load-value-requires-clause-asked
load-value-requires-clause-asked g c =
    let k = g.L.Line.seat c.args.line.now in
    let s = c.requires.at.0 in
    let p = c.args.its.pending in
    let u = g.L.Line.stands c.args.line.now in
    let v = g.L.Line.stands c.load-header.new.self in
    let w = g.L.Line.stands c.load-key.new.self in
    let number : c.number-session.result ≡ k.number = c.number-session.ensures.value ∙ ap (λ x. x.number) c.requires.seat in
    let place : c.place-value_place.result ≡ session_place k.number own.MailValue = c.place-value_place.ensures ∙ (λ i. session_place (number i) own.MailValue) in
    let one = header_comes k s u v p c.load-header.result c.requires.at.1 c.load-header.ensures.next in
    let two = key_comes k s v w p c.load-header.result c.load-key.result one (leads_here k (g.L.Line.seat c.load-header.new.self) v w c.load-key.result c.load-header.ensures.seat c.load-key.ensures.next) in
    asks_here k (g.L.Line.seat c.load-key.new.self) w _ (c.load-key.ensures.seat ∙ c.load-header.ensures.seat) (value_asks k s w p c.load-header.result c.load-key.result two ∙ ap Load (sym place))

pub store-requires-clause-asked : goal.store-requires-clause-asked
store-requires-clause-asked g c =
    let k = g.L.Line.seat c.args.line.now in
    let s = c.requires.at.0 in
    let p = c.args.its.pending in
    let u = g.L.Line.stands c.args.line.now in
    let v = g.L.Line.stands c.load-header.new.self in
    let w = g.L.Line.stands c.load-key.new.self in
    let x = g.L.Line.stands c.load-value.new.self in
    let number : c.number-session.result ≡ k.number = c.number-session.ensures.value ∙ ap (λ x. x.number) c.requires.seat in
    let place : c.place-state_place.result ≡ session_place k.number own.MailState = c.place-state_place.ensures ∙ (λ i. session_place (number i) own.MailState) in
    let one = header_comes k s u v p c.load-header.result c.requires.at.1 c.load-header.ensures.next in
    let two = key_comes k s v w p c.load-header.result c.load-key.result one (leads_here k (g.L.Line.seat c.load-header.new.self) v w c.load-key.result c.load-header.ensures.seat c.load-key.ensures.next) in
    let three = value_comes k s w x p c.load-header.result c.load-key.result c.load-value.result two
    (leads_here k (g.L.Line.seat c.load-key.new.self) w x c.load-value.result (c.load-key.ensures.seat ∙ c.load-header.ensures.seat) c.load-value.ensures.next) in
    asks_here k (g.L.Line.seat c.load-value.new.self) x _ (c.load-value.ensures.seat ∙ (c.load-key.ensures.seat ∙ c.load-header.ensures.seat)) (empty_asks k s x p _ three ∙ (λ i. Store (sym place i) 0))

pub returns-clause-taken : goal.returns-clause-taken
returns-clause-taken g c = λ s at.
    let k = g.L.Line.seat c.args.line.now in
    let p = c.args.its.pending in
    let u = g.L.Line.stands c.args.line.now in
    let v = g.L.Line.stands c.load-header.new.self in
    let w = g.L.Line.stands c.load-key.new.self in
    let x = g.L.Line.stands c.load-value.new.self in
    let y = g.L.Line.stands c.store.new.self in
    let one = header_comes k s u v p c.load-header.result at c.load-header.ensures.next in
    let two = key_comes k s v w p c.load-header.result c.load-key.result one (leads_here k (g.L.Line.seat c.load-header.new.self) v w c.load-key.result c.load-header.ensures.seat c.load-key.ensures.next) in
    let three = value_comes k s w x p c.load-header.result c.load-key.result c.load-value.result two
    (leads_here k (g.L.Line.seat c.load-key.new.self) w x c.load-value.result (c.load-key.ensures.seat ∙ c.load-header.ensures.seat) c.load-value.ensures.next) in
    empty_stored k s x y p _ c.store.result three (leads_here k (g.L.Line.seat c.load-value.new.self) x y c.store.result (c.load-value.ensures.seat ∙ (c.load-key.ensures.seat ∙ c.load-header.ensures.seat)) c.store.ensures.next)
