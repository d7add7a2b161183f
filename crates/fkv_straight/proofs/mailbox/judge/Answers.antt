-- By whose record it is the poll ends, or asks for the one before.
use Rattle.std.proofs.Common.{◌≡◌, sym, ap, ◌∙◌, None}
use Rattle.fkv_base.specs.declared.numbers.Key.{Key}
use Rattle.fkv_map.specs.Keys.{key_of}
use Rattle.fkv_session.specs.Sessions.{Sitter}
use Rattle.fkv_straight.proofs.Endings.{read_asks}
use Rattle.fkv_straight.proofs.Mailboxes.{goes_on, last_ends, mine_ends}
use Rattle.fkv_straight.proofs.Readers.{look_alike, read_by, read_ends, seeks_so}
use Rattle.fkv_straight.proofs.mailbox.judge.Goals as goal

pub returns-then-taken-key-clause-goes_by : goal.returns-then-taken-key-clause-goes_by
returns-then-taken-key-clause-goes_by g c = λ going by. read_by c.args.machine.now c.take_polled_read.new.self c.args.its c.value_of_word-value.result going c.requires.may c.take_polled_read.ensures by

pub returns-then-taken-key-clause-ended : goal.returns-then-taken-key-clause-ended
returns-then-taken-key-clause-ended g c =
    let k = g.L.Line.seat c.args.line.now in
    let s = c.requires.at.0 in
    let its = c.args.its in
    let u = g.L.Line.stands c.args.line.now in
    let m = c.args.machine.now in
    let n = c.take_polled_read.new.self in
    let mine : c.args.taken.key.0 ≡ (key_of its.pending.request.op).0 = c.if-taken-key.true ∙ ap (λ (x : Key). x.0) c.key-key.ensures in
    let ended = mine_ends k s u its.pending its.sought c.args.taken c.in-Says.previous c.in-Says.field-1 its.ticket c.value_of_word-value.result (seeks_so s its (look_alike m.state s its c.requires.at.1 c.requires.may)) c.requires.may.named c.requires.at.2
    (sym c.header_said-said.ensures ∙ c.in-Says.is) mine c.value_of_word-value.ensures in
    (read_asks k u _ _ ended, read_ends m.state n.state s u its c.value_of_word-value.result c.requires.at.1 c.requires.may (ap (λ (x : Sitter). x.state) c.take_polled_read.ensures) ended)

pub returns-then-ends-clause-goes_by : goal.returns-then-ends-clause-goes_by
returns-then-ends-clause-goes_by g c = λ going by. read_by c.args.machine.now c.take_polled_read-then-ends.new.self c.args.its None going c.requires.may c.take_polled_read-then-ends.ensures by

pub returns-then-ends-clause-ended : goal.returns-then-ends-clause-ended
returns-then-ends-clause-ended g c =
    let k = g.L.Line.seat c.args.line.now in
    let s = c.requires.at.0 in
    let its = c.args.its in
    let u = g.L.Line.stands c.args.line.now in
    let m = c.args.machine.now in
    let n = c.take_polled_read-then-ends.new.self in
    let ended = last_ends k s u its.pending its.sought c.args.taken c.in-Says.previous c.in-Says.field-1 its.ticket (seeks_so s its (look_alike m.state s its c.requires.at.1 c.requires.may)) c.requires.may.named c.requires.at.2
    (sym c.header_said-said.ensures ∙ c.in-Says.is) (λ e. c.if-taken-key.false (e ∙ ap (λ (x : Key). x.0) (sym c.key-key.ensures))) (sym c.is_chain_end-ends.ensures ∙ c.if-ends.true) in
    (read_asks k u _ _ ended, read_ends m.state n.state s u its None c.requires.at.1 c.requires.may (ap (λ (x : Sitter). x.state) c.take_polled_read-then-ends.ensures) ended)

pub ask_on-told-requires-clause-at : goal.ask_on-told-requires-clause-at
ask_on-told-requires-clause-at g c =
    let k = g.L.Line.seat c.args.line.now in
    let s = c.requires.at.0 in
    let its = c.args.its in (
      s,
      c.requires.at.1,
      goes_on k s (g.L.Line.stands c.args.line.now) its.pending its.sought c.args.taken c.in-Says.previous c.in-Says.field-1 (seeks_so s its (look_alike c.args.machine.now.state s its c.requires.at.1 c.requires.may)) c.requires.at.2 (sym c.header_said-said.ensures ∙ c.in-Says.is)
          (λ e. c.if-taken-key.false (e ∙ ap (λ (x : Key). x.0) (sym c.key-key.ensures))) (sym c.is_chain_end-ends.ensures ∙ c.if-ends.false),
    )
