-- The law, by clauses of the order law and of the law of prefixes.
use Rattle.fkv_seats.proofs.Seats.{in_order}
use Rattle.fkv_table.specs.Planes.{plane}
use Rattle.law_threads.proofs.OfDurable.{durable_never_falls, recovers_durable, tells_durable}
use Rattle.law_threads.proofs.OfImages.{recovers_within}
use Rattle.law_threads.proofs.OfKinds.{tells_kinds}
use Rattle.law_threads.proofs.OfLaws.{goes_on, in_lives, shares, thread_law}
use Rattle.law_threads.proofs.OfRefusals.{each_refusal}
use Rattle.law_threads.proofs.OfTurns.{tells_finish}
use Rattle.law_threads.proofs.law_threads.Goals as goal

pub returns-clause-in_lives : goal.returns-clause-in_lives
returns-clause-in_lives g c = λ at. in_lives at c.law_order.ensures.legal c.law_order.ensures.ordered c.law_order.ensures.in_time (thread_law c.law_world_sessions.ensures.serials c.law_world_requests.ensures.tickets at)

pub returns-clause-durable : goal.returns-clause-durable
returns-clause-durable g c = λ at. tells_durable at c.law_prefix.ensures

pub returns-clause-never_falls : goal.returns-clause-never_falls
returns-clause-never_falls g c = λ at. durable_never_falls at c.law_durable_never_falls.ensures

pub returns-clause-recovered : goal.returns-clause-recovered
returns-clause-recovered g c = λ at. recovers_durable at c.law_prefix.ensures

pub returns-clause-turns : goal.returns-clause-turns
returns-clause-turns g c = λ at key seen seen'. recovers_within at key seen seen' c.law_prefix.ensures

pub returns-clause-finished : goal.returns-clause-finished
returns-clause-finished g c = λ at. tells_finish at c.law_prefix.ensures

pub returns-clause-kinds : goal.returns-clause-kinds
returns-clause-kinds g c = λ at. tells_kinds at

pub returns-clause-refused : goal.returns-clause-refused
returns-clause-refused g c = λ at. each_refusal at c.law_of_last_calls.ensures

pub returns-clause-goes_on : goal.returns-clause-goes_on
returns-clause-goes_on g c = λ at. goes_on at

pub returns-clause-views : goal.returns-clause-views
returns-clause-views g c = λ at. shares at (in_order (plane at))
