-- What waits for nothing but the poll.
use Rattle.std.proofs.Common.{refl, sym, ◌∙◌}
use Rattle.fkv_straight.proofs.Polls.{IsPlain, may_poll, none_of}
use Rattle.fkv_straight.proofs.going.Going.lone.Goals as goal

pub returns : goal.returns
returns c = λ by.
    let p = c.in-Some.pending in
    let plain : IsPlain p (record { op = p.request.op; serial = c.in-Update.serial }) c.args.self.now.version c.args.machine.now.state.floor = record {
      name = c.in-Update.is;
      op = refl;
      version = c.if-request-self.false;
      floor = (λ i. record { 0 = c.if-request-floor.false i }) ∙ c.floor-floor.ensures;
      free = c.if-request.false;
      none_held = none_of p.request.held (sym c.is_some-else-request.ensures ∙ c.if-is_some-2.false);
      none_sought = none_of p.sought (sym c.is_some.ensures ∙ c.if-is_some.false);
      none_asked = c.if-pending.false;
    } in
    may_poll c.args.machine.now.seat c.args.machine.now.state (record { op = p.request.op; serial = c.in-Update.serial }) c.args.self.now p by (sym c.in-Some.is ∙ c.only_request-only.ensures) plain c.if-self.false
    (sym c.is_orphaned-orphaned.ensures ∙ c.if-orphaned.false) (sym c.is_read-reads.ensures ∙ c.if-reads.false)
