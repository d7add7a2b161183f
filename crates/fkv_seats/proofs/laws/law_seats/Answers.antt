-- The law, by what each thing that a seat may do keeps.
use Rattle.fkv_seats.proofs.Keeps.{allows}
use Rattle.fkv_seats.proofs.Seats.{splits, joins, both_go_on, opens}
use Rattle.fkv_seats.proofs.Desks.{desks_apart, sits_down, gets_up}
use Rattle.fkv_seats.proofs.laws.law_seats.Goals as goal

pub returns-clause-opens : goal.returns-clause-opens
returns-clause-opens g c = λ plane. opens plane

pub returns-clause-steps : goal.returns-clause-steps
returns-clause-steps g c = λ plane. allows plane

pub returns-clause-splits : goal.returns-clause-splits
returns-clause-splits g c = λ plane. splits plane

pub returns-clause-joins : goal.returns-clause-joins
returns-clause-joins g c = λ plane. joins plane

pub returns-clause-meets : goal.returns-clause-meets
returns-clause-meets g c = λ plane. both_go_on plane

pub returns-clause-sits : goal.returns-clause-sits
returns-clause-sits g c = λ plane. sits_down plane

pub returns-clause-gets_up : goal.returns-clause-gets_up
returns-clause-gets_up g c = λ plane. gets_up plane

pub returns-clause-desks : goal.returns-clause-desks
returns-clause-desks g c = λ plane. desks_apart plane.slots
