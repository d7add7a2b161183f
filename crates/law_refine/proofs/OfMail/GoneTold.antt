-- What tells that a record is gone tells a begin of the log, which that had at an earlier moment of the life. It never goes back.
use Rattle.std.proofs.Common.{◌≤◌, ap, arith, List, [], ◌∷◌, append-nil}
use Rattle.fkv_base.specs.declared.numbers.Addr.{Addr}
use Rattle.law_world.specs.Below.fkv_pending.MailRecord.{MailRecord}
use Rattle.law_world.specs.Below.fkv_pending.Mailing.{is_gone}
use Rattle.law_world.specs.Below.fkv_world.Opened.{IsOpenedWorld}
use Rattle.law_world.specs.Below.fkv_world.Runs.{World, run}
use Rattle.law_world.specs.Below.fkv_world.World.{Event}
use Rattle.law_world.proofs.OfKeeper.OwnRun.{keeper_begins, keeper_goes_on}
use Rattle.law_refine.specs.Mail.Reads.{GoneTellsBegin}

-- from the opening on
pub begin_above : (opening : World) (events : List Event) → IsOpenedWorld opening → opening.now.keeper.last.begin.0 ≤ (run opening events).now.keeper.last.begin.0
unfolding run
begin_above opening events opened =
    let on = keeper_goes_on opening events [] opened in
    let same = ap (λ (es : List Event). (run opening es).now.keeper.last.begin.0) (append-nil events) in
    omega (arith, on, same)

pub gone_tells : GoneTellsBegin
gone_tells opening session events addr its asked opened gone =
    let serves = ap (λ (a : Addr). a.0) (keeper_begins opening gone.earlier opened).serves in
    let told = ap (λ (r : MailRecord). r.key.0) gone.gives in
    let below = gone.below in
    let first = begin_above opening gone.earlier opened in
    let then_on = keeper_goes_on opening (gone.event ∷ []) gone.earlier opened in
    let later_on = keeper_goes_on opening gone.later (gone.event ∷ gone.earlier) opened in
    let now = ap (λ (es : List Event). (run opening es).now.keeper.last.begin.0) gone.cut in
    record {
      gone = ap is_gone gone.gives;
      from = omega (arith, told, serves, first);
      key = omega (arith, told, serves, then_on, later_on, now);
      above = omega (arith, told, below);
    }
