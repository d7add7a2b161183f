-- A commit that is asked for is one call more.
use Rattle.std.proofs.Common.{sym, subst}
use Rattle.fkv_threading.specs.Told.{WasKept}
use Rattle.fkv_threading.proofs.Told.{asked_more, has_asked}
use Rattle.fkv_threading.proofs.keeping.Keeping.ask_commit.Goals as goal

pub invariant_of-self : goal.invariant_of-self
invariant_of-self g c =
    let did = c.ask_commit-answer.ensures.asked.between c.self.invariant.0 in
    let was = c.self.inside in let seat = c.ask_commit-answer.new.self in (
      did.over,
      subst (λ key. WasKept g.D.Device key was.first.value was.finished c.note_begun.new.begun was.fault seat.seen seat.device) (sym did.same.key)
          (asked_more g.D.Device _ was.first.value c.args.kind _ _ c.note_begun.new.begun _ c.ask_commit-answer.result _ _ _ _ (has_asked g.D.Device c.args.kind _ _ _ did) did.kept did.medium c.note_begun.ensures c.self.invariant.1),
    )
