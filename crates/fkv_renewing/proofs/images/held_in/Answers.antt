-- The store that the bytes hold, or why they hold none.
use Rattle.std.proofs.Common.{subst, sym}
use Rattle.fkv_renewing.specs.Bytes.{IsUnopened, in_memory}
use Rattle.fkv_renewing.proofs.Held.{held_by, hindered, is_honest, reads, refused_by}
use Rattle.fkv_renewing.proofs.images.held_in.Goals as goal

pub returns-in-Err-clause-refused : goal.returns-in-Err-clause-refused
returns-in-Err-clause-refused c =
    let new = c.new-shown.ensures in
    let honest = is_honest c.new-shown.result c.args.bytes.now new.opened new.outcomes new.told new.failures in
    let same = reads c.new-shown.result c.args.bytes.now new.opened new.outcomes new.told new.failures in
    let so = subst (λ bytes. IsUnopened bytes (in_memory c.in-Err.fault)) same (refused_by _ _ _ _ c.in-Err.fault honest c.in-Err.ensures.err) in
    subst (IsUnopened c.args.bytes.now) (sym c.fault_in_memory.ensures) so

pub returns-in-Ok-content-clause-held : goal.returns-in-Ok-content-clause-held
returns-in-Ok-content-clause-held c =
    let new = c.new-shown.ensures in
    let honest = is_honest c.new-shown.result c.args.bytes.now new.opened new.outcomes new.told new.failures in
    let same = reads c.new-shown.result c.args.bytes.now new.opened new.outcomes new.told new.failures in
    held_by _ _ _ c.in-Ok.opened c.in-Ok-content.pairs.items same (c.recover.ensures.quiet.same_bytes honest) (c.in-Ok.ensures.ok honest) (c.in-Ok-content.ensures.ok (c.recover.ensures.quiet.premise.0 honest))

pub returns-in-Err-content-clause-refused : goal.returns-in-Err-content-clause-refused
returns-in-Err-content-clause-refused c = subst (IsUnopened c.args.bytes.now) (sym c.fault_in_memory-in-Err-content.ensures) (hindered _ _ c.args.bytes.now c.in-Err-content.fault c.in-Err-content.ensures.err)
