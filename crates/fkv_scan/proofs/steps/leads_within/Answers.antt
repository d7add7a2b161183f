use Rattle.fkv_scan.proofs.steps.leads_within.Goals as goal

pub returns-then-slot-previous-clause-ok : goal.returns-then-slot-previous-clause-ok
returns-then-slot-previous-clause-ok g c = λ claim triples is from. c.in_ok-there.ensures.ok claim c.args.slot.now triples
