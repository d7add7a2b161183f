-- It asks where some are left, and fewer are.
use Rattle.std.proofs.Common.{rules, ◌≡◌, ◌-◌, ◌≤◌, subst}
use Rattle.fkv_flush.specs.declared.serving.Serving.{Serving}
use Rattle.fkv_flush.specs.Serving.{serve_next}
use Rattle.fkv_flush.specs.AsksLeft.{serve_asks_left}
use Rattle.fkv_flush.proofs.AsksLeft.{serve_asked, serve_fewer}
use Rattle.fkv_flush.proofs.serving.Serve.drive.Goals as goal

pub returns-clause-left : goal.returns-clause-left
returns-clause-left c = serve_asked c.args.self.now.shape.sessions c.match-self.self c.ask.result c.ask.ensures

pub returns-clause-fewer : goal.returns-clause-fewer
unfolding serve_next
returns-clause-fewer c calls =
    let sessions = c.args.self.now.shape.sessions in
    let begin = c.args.self.now.begin.0 in
    let its : serve_next sessions begin c.args.self.now.step c.args.reply ≡ c.match-self.self = search rules in
    subst (λ (s : Serving). serve_asks_left sessions s ≤ serve_asks_left sessions c.args.self.now.step - 1) its (serve_fewer sessions begin c.args.self.now.step c.args.reply calls)
