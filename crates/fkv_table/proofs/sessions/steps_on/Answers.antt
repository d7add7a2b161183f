-- Each step is one more, and the last is the call's end.
use Rattle.std.proofs.Common.{[], sym, ap, subst, ◌∙◌}
use Rattle.fkv_session.specs.Sessions.{Seat}
use Rattle.fkv_seats.specs.declared.views.Role.TheVariants.{Sits}
use Rattle.fkv_table.specs.Planes.{opening_of}
use Rattle.fkv_table.specs.Sits.{Went}
use Rattle.fkv_table.proofs.Called.{one_more}
use Rattle.fkv_table.proofs.StandIns.{rests_in, word_in}
use Rattle.fkv_table.proofs.sessions.steps_on.Goals as goal

pub step-ask-requires : goal.step-ask-requires
step-ask-requires g c = let inv = c.loop-ask.invariant in record {
  table = (inv.0 ∙ c.requires.table.0, c.requires.table.1);
  seated = inv.5;
  ask = inv.9;
  word = word_in (opening_of g.D.Device.seen) c.args.words.now.key c.loop-ask.seat.me [] c.loop-ask.machine c.loop-ask.ask c.law_of_standing.ensures.asks c.requires.table.1.opening inv.5 inv.9 c.in_default.not-Done;
}

pub loop-ask-preserved : goal.loop-ask-preserved
loop-ask-preserved g c = let inv = c.loop-ask.invariant in let did = c.step-ask.ensures in (
  did.seat.0 ∙ inv.0,
  did.seat.1 ∙ inv.1,
  one_more (opening_of g.D.Device.seen) c.args.machine.now.seat.number c.args.seat.now.me.0.seen c.loop-ask.seat.me c.step-ask.new.seat.me inv.2 (inv.5.seated.role ∙ ap (λ (k : Seat). Sits k.number) inv.6)
      (subst (λ (k : Seat). Went (opening_of g.D.Device.seen) c.loop-ask.seat.me [] k.number c.step-ask.new.seat.me) inv.6 did.went),
  did.went.base ∙ inv.3,
  did.went.desk ∙ inv.4,
  did.seated.0,
  did.seated.1 ∙ inv.6,
  did.idle,
  did.told,
  did.ask,
)

pub returns-in-Done-clause-rests : goal.returns-in-Done-clause-rests
returns-in-Done-clause-rests g c = let inv = c.loop-ask.invariant in (
  rests_in (opening_of g.D.Device.seen) c.args.words.now.key c.loop-ask.seat.me c.loop-ask.machine c.in-Done.told c.law_of_standing.ensures.asks c.law_of_standing.ensures.lasts c.requires.table.1.opening inv.5 (sym inv.9 ∙ c.in-Done.is),
  inv.6,
)
