use Rattle.std.proofs.Common.{[], refl, rules, arith}
use Rattle.fkv_flush.specs.Serving.{serve_read}
use Rattle.fkv_flush.proofs.AsksLeft.{serve_asked, serve_none, serve_read_fewer, on_err}
use Rattle.fkv_flush.proofs.serving.Serve.device_step.Goals.{in-Reads+in_ok-read, in_default}
use Rattle.fkv_flush.proofs.serving.Serve.device_step.Goals as goal

pub returns-clause-next : goal.returns-clause-next
unfolding serve_read
returns-clause-next g c = elim c.match-self.branch [
  | in-Reads+in_ok-read w ↦ (w.read.new.into, rw (w.self-is, ← c.self.view_is, w.in-Reads.is, w.mail_of.ensures) refl)
  | in_default w ↦ ([], search rules)
]

pub returns-in_err-read-clause-none : goal.returns-in_err-read-clause-none
returns-in_err-read-clause-none g c = on_err c.from_residual.result (serve_none c.args.self.now.shape.sessions)

pub returns-clause-left : goal.returns-clause-left
returns-clause-left g c = serve_asked c.args.self.now.shape.sessions c.match-self.self.step c.ask.result c.ask.ensures

pub returns-clause-fewer : goal.returns-clause-fewer
returns-clause-fewer g c =
    let read = returns-clause-next g c in
    rw read.1 (serve_read_fewer c.args.self.now.shape.sessions c.args.self.now.step read.0)

pub returns-in_err-read-clause-fewer : goal.returns-in_err-read-clause-fewer
returns-in_err-read-clause-fewer g c = let none = serve_none c.args.self.now.shape.sessions in omega (arith, none)
