-- The turn is one more that the keeper has made.
use Rattle.std.proofs.Common.{sym, subst}
use Rattle.fkv_threading.specs.Told.{WasKept}
use Rattle.fkv_threading.proofs.Told.{has_turned, turned_more}
use Rattle.fkv_threading.proofs.keeping.Keeping.turn.Goals as goal

pub invariant_of-self : goal.invariant_of-self
invariant_of-self g c =
    let did = c.turn-answer.ensures.turned in
    let was = c.self.inside in let seat = c.turn-answer.new.self in (
      did.over,
      subst (λ key. WasKept g.D.Device key was.first.value c.note.new.finished was.begun c.note.new.fault seat.seen seat.device) (sym did.same.key)
          (turned_more g.D.Device _ was.first.value _ c.note.new.finished _ _ c.note.new.fault c.turn-answer.result _ _ _ _ (has_turned g.D.Device _ _ _ did) did.kept did.counted c.note.ensures.finished c.note.ensures.fault c.self.invariant.1),
    )
