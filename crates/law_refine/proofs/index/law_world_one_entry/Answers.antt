-- The law, by what the run of the index shows of a life, each of whose steps is permitted.
use Rattle.law_world.specs.Below.fkv_world.Runs.{run}
use Rattle.law_refine.specs.Index.Shows.{seen_by_index}
use Rattle.law_refine.proofs.OfIndex.Permitted.{are_permitted}
use Rattle.law_refine.proofs.OfIndex.LifeFacts.{life_sound, index_shown, answers_shown, slots_shown, orders_shown, life_asks}
use Rattle.law_refine.proofs.OfIndex.LifeMoves.{life_moves}
use Rattle.law_refine.proofs.OfIndex.Worlds.{life_shows}
use Rattle.law_refine.proofs.index.law_world_one_entry.Goals as goal

pub returns-clause-permitted : goal.returns-clause-permitted
returns-clause-permitted c = λ opening lists events opened. are_permitted opening lists events opened

pub returns-clause-shows : goal.returns-clause-shows
returns-clause-shows c = λ opening lists events opened. life_shows opening lists events opened (are_permitted opening lists events opened)

pub returns-clause-index : goal.returns-clause-index
returns-clause-index c = λ opening lists events opened. index_shown (run opening events).now (seen_by_index opening lists events) (life_sound opening lists events opened) (life_shows opening lists events opened (are_permitted opening lists events opened))

pub returns-clause-answers : goal.returns-clause-answers
returns-clause-answers c = λ opening lists events opened. answers_shown (run opening events).now (seen_by_index opening lists events) (life_sound opening lists events opened) (life_shows opening lists events opened (are_permitted opening lists events opened))

pub returns-clause-slots : goal.returns-clause-slots
returns-clause-slots c = λ opening lists events opened. slots_shown (run opening events).now (seen_by_index opening lists events) (life_sound opening lists events opened) (life_shows opening lists events opened (are_permitted opening lists events opened))

pub returns-clause-orders : goal.returns-clause-orders
returns-clause-orders c = λ opening lists events opened. orders_shown (run opening events).now (seen_by_index opening lists events) (life_sound opening lists events opened) (life_shows opening lists events opened (are_permitted opening lists events opened))

pub returns-clause-asks : goal.returns-clause-asks
returns-clause-asks c = λ opening lists events opened. life_asks opening lists events opened (are_permitted opening lists events opened)

pub returns-clause-moves : goal.returns-clause-moves
returns-clause-moves c = life_moves
