-- The poll looks into the mailbox first. Where no record is ready it ends.
use Rattle.std.proofs.Common.{◌≡◌, sym, ap, ◌∙◌, subst}
use Rattle.fkv_map.specs.declared.operations.Call.TheVariants as call
use Rattle.fkv_pending.specs.declared.mailing.Mailing.TheVariants.{LoadsHeader}
use Rattle.fkv_plane.specs.declared.asks.Ask.TheVariants.{Load}
use Rattle.fkv_plane.specs.declared.places.SessionWord.TheVariants as own
use Rattle.fkv_plane.specs.Places.{session_place}
use Rattle.fkv_session.specs.Sessions.{Seat, Sitter}
use Rattle.fkv_straight.specs.Mailbox.{HasTaken, Looks}
use Rattle.fkv_straight.specs.Standing.{begins}
use Rattle.fkv_straight.proofs.Endings.{read_asks}
use Rattle.fkv_straight.proofs.Mailboxes.{found_none, found_ready, looks_asks, looks_begun}
use Rattle.fkv_straight.proofs.Readers.{look_alike, none_by, none_caught_up, seeks_so}
use Rattle.fkv_straight.proofs.mailbox.poll_asker.Goals as goal

pub first-state-requires-clause-asked : goal.first-state-requires-clause-asked
first-state-requires-clause-asked g c =
    let k = g.L.Line.seat c.args.line.now in
    let s = g.L.Line.stands c.args.line.now in
    let may = look_alike c.args.machine.now.state s c.args.its c.requires.alike c.requires.may in
    let number : c.number-session.result ≡ k.number = c.number-session.ensures.value ∙ ap (λ x. x.number) c.requires.seat in
    let place : c.place-state_place.result ≡ session_place k.number own.MailState = c.place-state_place.ensures ∙ (λ i. session_place (number i) own.MailState) in
    looks_asks k s (begins k s call.Poll) c.args.its.pending (looks_begun k s c.args.its.pending may.awake may.no_orphan may.waits may.has_asked) ∙ ap Load (sym place)

pub returns-then-state-ne-READY-clause-goes_by : goal.returns-then-state-ne-READY-clause-goes_by
returns-then-state-ne-READY-clause-goes_by g c = λ going by. none_by c.args.machine.now c.take_unpolled.new.self going c.take_unpolled.ensures by

pub returns-then-state-ne-READY-clause-ended : goal.returns-then-state-ne-READY-clause-ended
returns-then-state-ne-READY-clause-ended g c =
    let k = g.L.Line.seat c.args.line.now in
    let s = g.L.Line.stands c.args.line.now in
    let its = c.args.its in
    let u = g.L.Line.stands c.first-state.new.self in
    let m = c.args.machine.now in
    let n = c.take_unpolled.new.self in
    let may = look_alike m.state s its c.requires.alike c.requires.may in
    let ended = found_none k s (begins k s call.Poll) u its.pending its.sought c.first-state.result (seeks_so s its may) (looks_begun k s its.pending may.awake may.no_orphan may.waits may.has_asked) c.first-state.ensures.next c.if-state-ne-READY.true in
    (read_asks k u _ _ ended, none_caught_up m.state n.state s u its c.requires.alike c.requires.may (ap (λ (x : Sitter). x.state) c.take_unpolled.ensures) ended)

pub take_record-taken-requires-clause-at : goal.take_record-taken-requires-clause-at
take_record-taken-requires-clause-at g c =
    let k = g.L.Line.seat c.args.line.now in
    let s = g.L.Line.stands c.args.line.now in
    let its = c.args.its in
    let u = g.L.Line.stands c.first-state.new.self in
    let may = look_alike c.args.machine.now.state s its c.requires.alike c.requires.may in
    let ready = found_ready k s (begins k s call.Poll) u its.pending c.first-state.result (looks_begun k s its.pending may.awake may.no_orphan may.waits may.has_asked) c.first-state.ensures.next c.if-state-ne-READY.false in
    (s, subst (λ (x : Seat). Looks x s its.pending LoadsHeader u) (sym c.first-state.ensures.seat) ready)

pub judge-requires-clause-at : goal.judge-requires-clause-at
judge-requires-clause-at g c =
    let k = g.L.Line.seat c.args.line.now in
    let s = g.L.Line.stands c.args.line.now in
    let its = c.args.its in
    let u = g.L.Line.stands c.first-state.new.self in
    let v = g.L.Line.stands c.take_record-taken.new.line in
    let may = look_alike c.args.machine.now.state s its c.requires.alike c.requires.may in
    let ready = found_ready k s (begins k s call.Poll) u its.pending c.first-state.result (looks_begun k s its.pending may.awake may.no_orphan may.waits may.has_asked) c.first-state.ensures.next c.if-state-ne-READY.false in
    let at = subst (λ (x : Seat). Looks x s its.pending LoadsHeader u) (sym c.first-state.ensures.seat) ready in
    (s, c.requires.alike, subst (λ (x : Seat). HasTaken x s its.pending c.take_record-taken.result v) (sym c.take_record-taken.ensures.seat) (c.take_record-taken.ensures.taken s at))
