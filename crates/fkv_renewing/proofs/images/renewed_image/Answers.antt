-- A renewal of the store that the bytes hold, or why there is none.
use Rattle.std.proofs.Common.{inl, subst, sym}
use Rattle.fkv_renewing.specs.Renewed.{IsRenewal}
use Rattle.fkv_renewing.proofs.Held.{no_room, renewed_so}
use Rattle.fkv_renewing.proofs.images.renewed_image.Goals as goal

pub returns-in-Err-clause-refused : goal.returns-in-Err-clause-refused
returns-in-Err-clause-refused c = inl c.in-Err.ensures.refused

pub returns-in-Ok-renew-clause-renewed : goal.returns-in-Ok-renew-clause-renewed
returns-in-Ok-renew-clause-renewed c =
    renewed_so c.args.bytes.now c.args.wanted c.args.keys c.in-Ok.found.0 c.in-Ok.found.1.items c.lay.new.pairs.items c.deref.result.now c.unwrap_or-shape.result c.in-Ok.ensures.held c.lay.ensures c.unwrap_or-shape.ensures
    c.deref.ensures.value c.into_bytes.result.items c.in-Ok-renew.ensures.room (λ some. subst (IsRenewal _ _ _) (sym c.into_bytes.ensures) (c.in-Ok-renew.ensures.renewed tt some))

pub returns-clause-refused : goal.returns-clause-refused
returns-clause-refused c =
    no_room c.args.bytes.now c.args.wanted c.args.keys c.in-Ok.found.0 c.in-Ok.found.1.items c.lay.new.pairs.items c.deref.result.now c.unwrap_or-shape.result c.in-Ok.ensures.held c.lay.ensures c.unwrap_or-shape.ensures
    c.deref.ensures.value _ _ c.in-Err-renew.fault c.fault_in_memory.result c.in-Err-renew.ensures.err c.fault_in_memory.ensures
