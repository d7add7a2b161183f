use Rattle.std.proofs.Common.{◌≡◌, sym, ap, subst, ◌∙◌, refl, ◌+◌, ◌++◌, arith}
use Rattle.std.specs.Prelude.{◌∷◌, [], ◌||◌, nat_lt}
use Rattle.fkv_disk.proofs.Shown.{more_reads, quiet_on}
use Rattle.fkv_scan.specs.Log.{log_in}
use Rattle.fkv_scan.specs.Parts.{IsFound}
use Rattle.fkv_scan.proofs.Meets.{newer_is}
use Rattle.fkv_scan.proofs.Upwards.{IsReadTo, read_past, read_one, gathered_to}
use Rattle.fkv_scan.proofs.gathering.gather.Goals as goal
use Rattle.fkv_scan.proofs.gathering.gather.Goals.{then-newer, else-newer}

pub returns-in-Unfit-clause-ok : goal.returns-in-Unfit-clause-ok
returns-in-Unfit-clause-ok g c = λ triples claim.
    let old = g.D.Device.seen c.args.d.now in
    let mid = g.D.Device.seen c.loop-addr.d in
    let log = log_in old c.args.shape c.args.slot.now triples in
    let log_mid = log_in mid c.args.shape c.args.slot.now triples in
    let quiet = c.loop-addr.invariant.quiet in
    let same : log_mid ≡ log = ap (λ image. log_in image c.args.shape c.args.slot.now triples) (quiet.same_bytes claim) in
    let found = subst (λ l. IsFound l c.loop-addr.addr c.in_ok-found.found) same (c.in_ok-found.ensures.ok triples (quiet.premise.0 claim)) in
    gathered_to log c.args.from.0 c.loop-addr.addr c.loop-addr.auto.addr c.loop-addr.mets.items c.loop-addr.newer (c.loop-addr.invariant.read triples claim) c.args.to.0
    (record { mets = c.loop-addr.mets; newer = c.loop-addr.newer; end = record { 0 = c.loop-addr.addr } }) refl refl refl (let low = c.loop-addr-test.true in omega (arith, low))
    (λ less. subst (λ f. IsFound log c.loop-addr.addr f) c.in-Unfit.is found)

pub loop-addr-preserved-in-GivenUp : goal.loop-addr-preserved-in-GivenUp
loop-addr-preserved-in-GivenUp g c =
    let quiet = c.loop-addr.invariant.quiet in
    record {
      quiet = quiet_on g.D.Device.honest g.D.Device.seen g.D.Device.may_leave g.D.Device.moment g.D.Device.left_since g.D.Device.failed c.args.d.now c.loop-addr.d c.found_at.new.d quiet c.in_ok-found.ensures.quiet;
      reads = more_reads g.D.Device.refuses g.D.Device.expects c.args.d.now c.loop-addr.d c.found_at.new.d c.loop-addr.invariant.reads c.in_ok-found.ensures.reads;
      read = λ triples claim.
          let old = g.D.Device.seen c.args.d.now in
          let mid = g.D.Device.seen c.loop-addr.d in
          let log = log_in old c.args.shape c.args.slot.now triples in
          let log_mid = log_in mid c.args.shape c.args.slot.now triples in
          let quiet = c.loop-addr.invariant.quiet in
          let same : log_mid ≡ log = ap (λ image. log_in image c.args.shape c.args.slot.now triples) (quiet.same_bytes claim) in
          let found = subst (λ l. IsFound l c.loop-addr.addr c.in_ok-found.found) same (c.in_ok-found.ensures.ok triples (quiet.premise.0 claim)) in
          read_past log c.args.from.0 c.loop-addr.addr c.loop-addr.auto.addr c.loop-addr.mets.items c.loop-addr.newer (c.loop-addr.invariant.read triples claim)
          (subst (λ f. IsFound log c.loop-addr.addr f) c.in-GivenUp.is found);
    }

pub loop-addr-preserved : goal.loop-addr-preserved
loop-addr-preserved g c =
    let quiet = c.loop-addr.invariant.quiet in
    let m = c.in-Valid.met in
    let pushed : c.push.new.self.items ≡ c.loop-addr.mets.items ++ m ∷ [] = c.in_ok-push.ensures.items in
    let this = nat_lt c.args.slot.now.number m.version.0 in
    let either : c.if-newer.newer ≡ (c.loop-addr.newer || this) = elim c.if-newer.branch [
      | then-newer w ↦ w.newer-is ∙ w.if-newer.true ∙ sym (ap (λ b. b || this) w.if-newer.true)
      | else-newer w ↦ w.newer-is ∙ sym (ap (λ b. b || this) w.if-newer.false)
    ] in
    record {
      quiet = quiet_on g.D.Device.honest g.D.Device.seen g.D.Device.may_leave g.D.Device.moment g.D.Device.left_since g.D.Device.failed c.args.d.now c.loop-addr.d c.found_at.new.d quiet c.in_ok-found.ensures.quiet;
      reads = more_reads g.D.Device.refuses g.D.Device.expects c.args.d.now c.loop-addr.d c.found_at.new.d c.loop-addr.invariant.reads c.in_ok-found.ensures.reads;
      read = λ triples claim.
          let old = g.D.Device.seen c.args.d.now in
          let mid = g.D.Device.seen c.loop-addr.d in
          let log = log_in old c.args.shape c.args.slot.now triples in
          let log_mid = log_in mid c.args.shape c.args.slot.now triples in
          let quiet = c.loop-addr.invariant.quiet in
          let same : log_mid ≡ log = ap (λ image. log_in image c.args.shape c.args.slot.now triples) (quiet.same_bytes claim) in
          let found = subst (λ l. IsFound l c.loop-addr.addr c.in_ok-found.found) same (c.in_ok-found.ensures.ok triples (quiet.premise.0 claim)) in
          let valid = subst (λ f. IsFound log c.loop-addr.addr f) c.in-Valid.is found in
          subst (λ ms. IsReadTo log c.args.from.0 (c.loop-addr.addr + 1) ms c.if-newer.newer) (sym pushed)
          (subst (λ b. IsReadTo log c.args.from.0 (c.loop-addr.addr + 1) (c.loop-addr.mets.items ++ m ∷ []) b) (sym either)
          (read_one log c.args.from.0 c.loop-addr.addr c.loop-addr.auto.addr c.loop-addr.mets.items c.loop-addr.newer (c.loop-addr.invariant.read triples claim) m valid.0 valid.1
          this (newer_is log m valid.1)));
    }

pub returns-clause-ok : goal.returns-clause-ok
returns-clause-ok g c = λ triples claim.
    let log = log_in (g.D.Device.seen c.args.d.now) c.args.shape c.args.slot.now triples in
    let last = c.loop-addr-test.false in
    let most = c.loop-addr.auto.addr-end c.requires.upwards in
    let at_end : c.loop-addr.addr ≡ c.args.to.0 = omega (arith, last, most) in
    gathered_to log c.args.from.0 c.args.to.0 c.requires.upwards c.loop-addr.mets.items c.loop-addr.newer
    (subst (λ n. IsReadTo log c.args.from.0 n c.loop-addr.mets.items c.loop-addr.newer) at_end (c.loop-addr.invariant.read triples claim)) c.args.to.0
    (record { mets = c.loop-addr.mets; newer = c.loop-addr.newer; end = c.args.to }) refl refl refl (omega arith) (λ less. absurd (omega (arith, less)))

pub returns-in_err-found-clause-reads : goal.returns-in_err-found-clause-reads
returns-in_err-found-clause-reads g c =
    more_reads g.D.Device.refuses g.D.Device.expects c.args.d.now c.loop-addr.d c.found_at.new.d c.loop-addr.invariant.reads c.found_at.ensures.reads

pub returns-in-Unfit-clause-reads : goal.returns-in-Unfit-clause-reads
returns-in-Unfit-clause-reads g c =
    more_reads g.D.Device.refuses g.D.Device.expects c.args.d.now c.loop-addr.d c.found_at.new.d c.loop-addr.invariant.reads c.in_ok-found.ensures.reads

pub returns-in_err-push-clause-reads : goal.returns-in_err-push-clause-reads
returns-in_err-push-clause-reads g c =
    more_reads g.D.Device.refuses g.D.Device.expects c.args.d.now c.loop-addr.d c.found_at.new.d c.loop-addr.invariant.reads c.in_ok-found.ensures.reads
