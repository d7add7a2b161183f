-- By the state of the mailbox the address is put there or isn't.
use Rattle.std.proofs.Common.{◌≡◌, refl, sym, ap, ◌∙◌}
use Rattle.fkv_map.specs.declared.operations.Call.TheVariants as call
use Rattle.fkv_plane.specs.declared.asks.Ask.TheVariants.{Load, Store}
use Rattle.fkv_plane.specs.declared.places.SessionWord.TheVariants as own
use Rattle.fkv_plane.specs.Places.{session_place}
use Rattle.fkv_straight.specs.Course.{course_of}
use Rattle.fkv_straight.proofs.Mailboxes.{address_asks, address_stored, asked_asks, asked_stored, found_empty, found_occupied, sought_puts, state_asks}
use Rattle.fkv_straight.proofs.Readers.{reads_share_none}
use Rattle.fkv_straight.proofs.Refreshes.{asks_here, leads_here}
use Rattle.fkv_straight.proofs.mailbox.put.Goals as goal

pub load-state-requires-clause-asked : goal.load-state-requires-clause-asked
load-state-requires-clause-asked g c =
    let k = g.L.Line.seat c.args.line.now in
    let its = course_of k c.requires.at.0 c.args._op (call.Op c.args._op) in
    let u = g.L.Line.stands c.args.line.now in
    let number : c.number-session.result ≡ k.number = c.number-session.ensures.value ∙ ap (λ x. x.number) c.requires.seat in
    let place : c.place-state_place.result ≡ session_place k.number own.MailState = c.place-state_place.ensures ∙ (λ i. session_place (number i) own.MailState) in
    state_asks its c.args.sought u refl (sought_puts its c.args.sought u refl c.requires.at.1 (reads_share_none its c.requires.reads) c.requires.reads) ∙ ap Load (sym place)

pub returns-then-state-ne-EMPTY-clause-asks : goal.returns-then-state-ne-EMPTY-clause-asks
returns-then-state-ne-EMPTY-clause-asks g c = λ s at.
    let k = g.L.Line.seat c.args.line.now in
    let its = course_of k s c.args._op (call.Op c.args._op) in
    let u = g.L.Line.stands c.args.line.now in
    let v = g.L.Line.stands c.load-state.new.self in
    found_occupied its c.args.sought c.load-state.result u v refl c.requires.reads (sought_puts its c.args.sought u refl at (reads_share_none its c.requires.reads) c.requires.reads) c.load-state.ensures.next c.if-state-ne-EMPTY.true

pub store-requires-clause-asked : goal.store-requires-clause-asked
store-requires-clause-asked g c =
    let k = g.L.Line.seat c.args.line.now in
    let its = course_of k c.requires.at.0 c.args._op (call.Op c.args._op) in
    let u = g.L.Line.stands c.args.line.now in
    let v = g.L.Line.stands c.load-state.new.self in
    let number : c.number-session.result ≡ k.number = c.number-session.ensures.value ∙ ap (λ x. x.number) c.requires.seat in
    let place : c.place-address_place.result ≡ session_place k.number own.MailAddress = c.place-address_place.ensures ∙ (λ i. session_place (number i) own.MailAddress) in
    let puts = sought_puts its c.args.sought u refl c.requires.at.1 (reads_share_none its c.requires.reads) c.requires.reads in
    let empty = found_empty its c.args.sought c.load-state.result u v refl puts c.load-state.ensures.next c.if-state-ne-EMPTY.false in
    asks_here k (g.L.Line.seat c.load-state.new.self) v _ c.load-state.ensures.seat (address_asks its c.args.sought v refl empty ∙ (λ i. Store (sym place i) c.args.sought.addr.0))

pub store-requires-2-clause-asked : goal.store-requires-2-clause-asked
store-requires-2-clause-asked g c =
    let k = g.L.Line.seat c.args.line.now in
    let its = course_of k c.requires.at.0 c.args._op (call.Op c.args._op) in
    let u = g.L.Line.stands c.args.line.now in
    let v = g.L.Line.stands c.load-state.new.self in
    let w = g.L.Line.stands c.store.new.self in
    let number : c.number-session.result ≡ k.number = c.number-session.ensures.value ∙ ap (λ x. x.number) c.requires.seat in
    let place : c.place-state_place.result ≡ session_place k.number own.MailState = c.place-state_place.ensures ∙ (λ i. session_place (number i) own.MailState) in
    let puts = sought_puts its c.args.sought u refl c.requires.at.1 (reads_share_none its c.requires.reads) c.requires.reads in
    let empty = found_empty its c.args.sought c.load-state.result u v refl puts c.load-state.ensures.next c.if-state-ne-EMPTY.false in
    let stored = address_stored its c.args.sought c.store.result v w refl empty (leads_here k (g.L.Line.seat c.load-state.new.self) v w c.store.result c.load-state.ensures.seat c.store.ensures.next) in
    asks_here k (g.L.Line.seat c.store.new.self) w _ (c.store.ensures.seat ∙ c.load-state.ensures.seat) (asked_asks its c.args.sought w refl stored ∙ (λ i. Store (sym place i) 1))

pub returns-clause-asks : goal.returns-clause-asks
returns-clause-asks g c = λ s at.
    let k = g.L.Line.seat c.args.line.now in
    let its = course_of k s c.args._op (call.Op c.args._op) in
    let u = g.L.Line.stands c.args.line.now in
    let v = g.L.Line.stands c.load-state.new.self in
    let w = g.L.Line.stands c.store.new.self in
    let x = g.L.Line.stands c.store-2.new.self in
    let puts = sought_puts its c.args.sought u refl at (reads_share_none its c.requires.reads) c.requires.reads in
    let empty = found_empty its c.args.sought c.load-state.result u v refl puts c.load-state.ensures.next c.if-state-ne-EMPTY.false in
    let stored = address_stored its c.args.sought c.store.result v w refl empty (leads_here k (g.L.Line.seat c.load-state.new.self) v w c.store.result c.load-state.ensures.seat c.store.ensures.next) in
    asked_stored its c.args.sought c.store-2.result w x refl c.requires.reads stored (leads_here k (g.L.Line.seat c.store.new.self) w x c.store-2.result (c.store.ensures.seat ∙ c.load-state.ensures.seat) c.store-2.ensures.next)
