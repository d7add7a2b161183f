-- It begins with the first mailbox, asks or calls where some are left, and no more are than of a whole turn.
use Rattle.std.proofs.Common.{◌≡◌, ◌∙◌, ap, false}
use Rattle.fkv_maintain.specs.Maintaining.{MaintainState, maintain_ask, maintain_serving}
use Rattle.fkv_maintain.proofs.MaintainLeft.{maintain_asked, maintain_serving_left}
use Rattle.fkv_maintain.proofs.PartsFollow.{serve_begins}
use Rattle.fkv_maintain.proofs.maintaining.Maintain.start_serving.Goals as goal

pub returns-clause-next : goal.returns-clause-next
returns-clause-next c =
    let m = c.self.inside in
    let before : MaintainState = record {
      scanning = m.scan.step;
      claiming = m.claim.step;
      bytes = m.flush.bytes;
      flushing = m.flush.step;
      shift = m.shift.state;
      turn = m.turn.state;
      begin = m.serve.begin;
      serving = m.serve.step;
      is_drain_full = false;
      step = m.step;
    } in
    rw (← c.self.view_is) (c.serves.ensures ∙ ap (λ (s : MaintainState). record { shape = m.shape; places = m.places; state = s }) (serve_begins m.shape before))

pub returns-clause-left : goal.returns-clause-left
returns-clause-left c =
    let before = c.args.self.now in
    let next = maintain_serving before.state in
    let its : c.serves.new.self ≡ record before { state = next } = returns-clause-next c in
    let asked : c.ask.result ≡ maintain_ask before.shape before.places next = rw its at c.ask.ensures in
    rw its (maintain_asked before.shape before.places next c.ask.result asked)

pub returns-clause-bounded : goal.returns-clause-bounded
returns-clause-bounded c =
    let before = c.args.self.now in
    let its : c.serves.new.self ≡ record before { state = maintain_serving before.state } = returns-clause-next c in
    rw its (maintain_serving_left before.shape before.state)
