-- The law, by the home of each session's try and by what the index answers.
use Rattle.law_refine.proofs.OfHeads.AtHome.{life_at_home}
use Rattle.law_refine.proofs.OfHeads.LifeHeads.{life_found}
use Rattle.law_refine.proofs.heads.law_heads_found.Goals as goal

pub returns-clause-homes : goal.returns-clause-homes
returns-clause-homes c = λ opening lists events opened. life_at_home opening lists events opened

pub returns-clause-found : goal.returns-clause-found
returns-clause-found c = λ opening start lists ghosts events opened in_order none free leads. life_found opening start lists ghosts events opened in_order none free leads
