use Rattle.std.proofs.Common.{◌≡◌, sym, subst, ◌∙◌}
use Rattle.fkv_disk.proofs.Shown.{reads_behind}
use Rattle.fkv_looking.specs.Damages.{area_in_force}
use Rattle.fkv_looking.specs.Fronts.{IsFront}
use Rattle.fkv_looking.specs.Looks.{HasPartBytes, IsFound}
use Rattle.fkv_looking.specs.Recovered.{IsRecovered}
use Rattle.fkv_looking.proofs.looking.look.Goals as goal

pub returns-in_err-front-clause-asked : goal.returns-in_err-front-clause-asked
returns-in_err-front-clause-asked g c =
    reads_behind g.D.Device.refuses g.D.Device.expects c.args.d.now c.find_store.new.d c.read_front.new.d c.in_ok-recovered.ensures.asked c.read_front.ensures.reads

pub returns-in_err-found-clause-asked : goal.returns-in_err-found-clause-asked
returns-in_err-found-clause-asked g c =
    reads_behind g.D.Device.refuses g.D.Device.expects c.args.d.now c.read_front.new.d c.found_look.new.d
    (reads_behind g.D.Device.refuses g.D.Device.expects c.args.d.now c.find_store.new.d c.read_front.new.d c.in_ok-recovered.ensures.asked c.in_ok-front.ensures.reads) c.found_look.ensures.reads

pub returns-clause-asked : goal.returns-clause-asked
returns-clause-asked g c =
    reads_behind g.D.Device.refuses g.D.Device.expects c.args.d.now c.read_front.new.d c.found_look.new.d
    (reads_behind g.D.Device.refuses g.D.Device.expects c.args.d.now c.find_store.new.d c.read_front.new.d c.in_ok-recovered.ensures.asked c.in_ok-front.ensures.reads) c.in_ok-found.ensures.reads

pub returns-clause-ok : goal.returns-clause-ok
returns-clause-ok g c = λ claim.
    let old = g.D.Device.seen c.args.d.now in
    let first = g.D.Device.seen c.find_store.new.d in
    let second = g.D.Device.seen c.read_front.new.d in
    let quiet = c.in_ok-recovered.ensures.quiet in
    let quiet_front = c.in_ok-front.ensures.quiet in
    let here = quiet.premise.0 claim in
    let same : first ≡ old = quiet.same_bytes claim in
    let all_same : second ≡ old = quiet_front.same_bytes here ∙ same in
    let front = subst (λ image. IsFront image c.in_ok-front.front) same (c.in_ok-front.ensures.ok here) in
    let is = subst (λ image. IsRecovered image c.in_ok-recovered.recovered) (sym all_same) (c.in_ok-recovered.ensures.ok claim) in
    let shown = c.in_ok-found.ensures.ok (quiet_front.premise.0 here) is in
    let area = area_in_force c.in_ok-front.front.in_force c.in_ok-front.front.slots.0 c.in_ok-front.front.slots.1 in
    record {
      block = front.block;
      slot_0 = front.slot_0;
      slot_1 = front.slot_1;
      newest = front.newest;
      found = subst (λ image. IsFound image c.in_ok-found.found) all_same shown.0;
      part = subst (λ image. HasPartBytes image c.in_ok-front.front.shape area c.in_ok-found.found) all_same shown.1;
    }
