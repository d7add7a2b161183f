-- What waits alone, and has asked.
use Rattle.std.proofs.Common.{ap, arith, sym, ◌∙◌}
use Rattle.fkv_base.specs.declared.numbers.Addr.{Addr}
use Rattle.fkv_straight.proofs.Polls.{only_is}
use Rattle.fkv_straight.proofs.Tests.{not_false}
use Rattle.fkv_straight.proofs.mailbox.asking_read.Goals as goal

pub returns : goal.returns
returns c =
    let p = c.in-Some.pending in
    record {
      waits = only_is c.args.machine.now.state.requests p (sym c.only_request-only.ensures ∙ c.in-Some.is);
      named = c.in-Read.is;
      reads = sym c.is_read-reads.ensures ∙ c.if-not-reads.false;
      seeks = c.in-Some-sought.is;
      has_asked = not_false p.has_asked c.if-not-pending.false;
      floor = (let low = c.if-pending-floor.false in let same = c.floor-floor.ensures in omega (arith, low, ap (λ (x : Addr). x.0) same));
      awake = sym c.is_awake-awake.ensures ∙ c.if-not-awake.false;
      no_orphan = sym c.is_orphaned-orphaned.ensures ∙ c.if-orphaned.false;
    }
