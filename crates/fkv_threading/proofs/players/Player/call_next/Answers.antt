-- The call is one more that the session has made: the next one of its lines, or a try of it.
use Rattle.std.proofs.Common.{◌≡◌, ◌∙◌, List, ap, arith, refl, sym}
use Rattle.std.specs.Prelude.{Some, slice_get}
use Rattle.std.proofs.lemmas.Option.{slice_get_within}
use Rattle.fkv_map.specs.declared.operations.Call.{Call}
use Rattle.fkv_threads.specs.Below.fkv_table.Planes.{opening_of}
use Rattle.fkv_threading.proofs.Told.{told_next}
use Rattle.fkv_threading.proofs.players.Player.call_next.Goals as goal

pub count_behind-answered-requires : goal.count_behind-answered-requires
count_behind-answered-requires g c =
    let found : slice_get c.self.inside.calls.items c.self.inside.answered ≡ Some c.in-Some.call = ap (λ (xs : List Call). slice_get xs c.self.inside.answered) (sym c.deref.ensures.value) ∙ (sym c.call_at.ensures ∙ c.in-Some.is) in
    omega (arith, slice_get_within c.self.inside.calls.items c.self.inside.answered c.in-Some.call found, c.self.inside.calls.small)

pub invariant_of-next : goal.invariant_of-next
invariant_of-next g c =
    let found : slice_get c.self.inside.calls.items c.self.inside.answered ≡ Some c.in-Some.call = ap (λ (xs : List Call). slice_get xs c.self.inside.answered) (sym c.deref.ensures.value) ∙ (sym c.call_at.ensures ∙ c.in-Some.is) in
    told_next (opening_of g.D.Device.seen) c.self.inside.seat c.make.new.seat c.self.inside.point c.self.inside.calls.items c.self.inside.answered c.count_behind-answered.result c.self.inside.log c.make.new.log c.in-Some.call c.in_ok-answer.answer
    c.is_full-is_answered.result _ c.in_ok-answer.ensures.ok found c.is_full-is_answered.ensures refl c.count_behind-answered.ensures c.self.invariant
