-- The law, by what each event of a life moves in the index and in the log.
use Rattle.law_refine.proofs.OfHeads.LifeHeads.{life_leads, life_meets}
use Rattle.law_refine.proofs.heads.law_heads.Goals as goal

pub returns-clause-leads : goal.returns-clause-leads
returns-clause-leads c = λ opening start lists ghosts events opened in_order none free leads. life_leads opening start lists ghosts events opened in_order none free leads

pub returns-clause-meets : goal.returns-clause-meets
returns-clause-meets c = λ opening start lists ghosts events opened in_order none free leads. life_meets opening start lists ghosts events opened in_order none free leads
