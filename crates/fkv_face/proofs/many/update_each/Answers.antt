-- One update more.
use Rattle.std.proofs.Common.{ℕ, List, subst, sym, slice_index_or, arith}
use Rattle.std.proofs.lemmas.List.{take_all}
use Rattle.std.proofs.lemmas.Slice.Zip.{get_or-zip, length-zip}
use Rattle.fkv_posted.specs.contracts.posted.PostedDevice.TheImpl as medium
use Rattle.fkv_handles.specs.Below.fkv_table.Planes.{opening_of}
use Rattle.fkv_handles.specs.declared.sessions.Session.{Session}
use Rattle.fkv_face.specs.Many as says
use Rattle.fkv_face.proofs.InOrder.{one_more_call}
use Rattle.fkv_face.proofs.many.update_each.Goals as goal

pub loop-i-preserved : goal.loop-i-preserved
loop-i-preserved c =
    let one = says.IsEachUpdate (opening_of medium.seen-value.it) (says.making c.args.kind) in
    let pairs = says.zip c.args.keys.now c.args.numbers.now in
    one_more_call one (0, 0) pairs c.args.told.now c.loop-i.told c.loop-i.i c.update_one.result c.args.session.now.value c.loop-i.session.value c.update_one.new.session.value
    (omega (arith, c.loop-i-test.true, c.requires.numbers, length-zip c.args.keys.now c.args.numbers.now)) (omega (arith, c.loop-i-test.true, c.requires.room)) c.loop-i.invariant
    (subst (λ (s : Session). one s (slice_index_or pairs c.loop-i.i (0, 0)) c.update_one.result c.update_one.new.session.value) c.fetch_ahead.ensures.same
    (subst (λ (p : ℕ × ℕ). one c.fetch_ahead.new.session.value p c.update_one.result c.update_one.new.session.value) (sym (get_or-zip c.args.keys.now c.args.numbers.now c.loop-i.i (0, 0) (omega (arith, c.loop-i-test.true)) (omega (arith, c.loop-i-test.true, c.requires.numbers)))) c.update_one.ensures))

pub returns : goal.returns
returns c =
    let pairs = says.zip c.args.keys.now c.args.numbers.now in
    subst (λ (its : List (ℕ × ℕ)). says.AreCalled (says.IsEachUpdate (opening_of medium.seen-value.it) (says.making c.args.kind)) c.args.session.now.value its c.args.told.now c.loop-i.told c.loop-i.session.value)
    (take_all c.loop-i.i pairs (omega (arith, c.loop-i-test.false, length-zip c.args.keys.now c.args.numbers.now))) c.loop-i.invariant
