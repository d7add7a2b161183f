-- A run without a fault of the keeper, in which no session was stopped; or why it wasn't played to its end.
use Rattle.std.proofs.Common.{refl, rules}
use Rattle.fkv_threading.proofs.Refused.{unmade, unplayed, unstarted, whole_played}
use Rattle.fkv_threading.proofs.programs.play_new.Goals as goal

pub returns-in_err-opened-clause-err : goal.returns-in_err-opened-clause-err
returns-in_err-opened-clause-err g c =
    let why = unmade g.D.Device c.args.device c.args.shape c.args.lines.now c.create_opened.new.d c.in_err-opened.field-0.0 c.in_err-opened.ensures.err in
    search (rules, why)

pub returns-in_err-played-clause-err : goal.returns-in_err-played-clause-err
returns-in_err-played-clause-err g c =
    let why = unstarted g.D.Device c.args.device c.args.shape c.args.lines.now _ c.in_err-played.field-0.0 refl c.in_err-played.ensures.err in
    search (rules, why)

pub returns-clause-ok : goal.returns-clause-ok
returns-clause-ok g c =
    let its = c.in_ok-played.played in
    whole_played g.D.Device c.args.device c.args.shape c.args.lines.now c.in_ok-opened.opened c.create_opened.new.d its its.is_whole (λ x. x.logs.items) (λ x. x.keeper.device) (λ x. x.keeper.finished) its.keeper.begun its.keeper.fault
    c.whole.result c.in_ok-opened.ensures.new c.in_ok-opened.ensures.bytes c.in_ok-played.ensures.ok c.whole.ensures.ok

pub returns-clause-err : goal.returns-clause-err
returns-clause-err g c =
    let its = c.in_ok-played.played in
    unplayed g.D.Device c.args.device c.args.shape c.args.lines.now c.in_ok-opened.opened c.create_opened.new.d its.is_whole its.logs.items its.keeper.device its.keeper.finished its.keeper.begun its.keeper.fault
    c.whole.result c.in_ok-opened.ensures.new c.in_ok-opened.ensures.bytes c.in_ok-played.ensures.ok c.whole.ensures.err
