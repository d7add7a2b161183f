use Rattle.std.proofs.Common.{◌≡◌, ℕ, ◌<◌, refl, subst}
use Rattle.fkv_scan.specs.Log.{log_in}
use Rattle.fkv_scan.proofs.Meets.{given_up, is_valid}
use Rattle.fkv_scan.proofs.gathering.found_at.Goals as goal

falls : {n p a : ℕ} → n ≡ p → n < a → p < a
falls {n} {p} {a} is low = subst (λ (m : ℕ). m < a) is low

pub returns-then-found-clause-ok : goal.returns-then-found-clause-ok
returns-then-found-clause-ok g c = λ triples claim.
    given_up (log_in (g.D.Device.seen c.args.d.now) c.args.shape c.args.slot.now triples) c.args.addr.0 c.in_ok-found.field-0 (c.in_ok-found.ensures.ok claim) c.in-Some.found c.in-Some.is
    c.version_in-version.result.0 c.oldest.result c.version_in-version.ensures
    c.oldest.ensures c.if-version-oldest.false c.if-version-slot.false (falls c.from_or_none-previous.ensures.place c.if-previous-addr.false) c.if-found.true

pub returns-clause-ok : goal.returns-clause-ok
returns-clause-ok g c = λ triples claim.
    is_valid (log_in (g.D.Device.seen c.args.d.now) c.args.shape c.args.slot.now triples) c.args.addr.0 c.in_ok-found.field-0 (c.in_ok-found.ensures.ok claim) c.in-Some.found c.in-Some.is
    c.version_in-version.result.0 c.oldest.result c.version_in-version.ensures
    c.oldest.ensures c.if-version-oldest.false c.if-version-slot.false (falls c.from_or_none-previous.ensures.place c.if-previous-addr.false) c.requires.from_start c.if-found.false
    _ refl c.record_home.ensures c.from_or_none-previous.ensures.place refl
