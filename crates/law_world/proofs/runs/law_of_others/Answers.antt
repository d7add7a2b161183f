-- Others' events, by what each event changes.
use Rattle.fkv_world.proofs.Shown.{keeper_apart, keeper_aparts, places_stay, session_apart, session_aparts, shape_stays}
use Rattle.law_world.proofs.OfRuns.Added.{all_calls_stay, calls_stay}
use Rattle.law_world.proofs.runs.law_of_others.Goals as goal

pub returns-clause-session : goal.returns-clause-session
returns-clause-session c = λ w event session other. session_apart w event session other

pub returns-clause-keeper : goal.returns-clause-keeper
returns-clause-keeper c = λ w event other. keeper_apart w event other

pub returns-clause-sessions : goal.returns-clause-sessions
returns-clause-sessions c = λ opening later before session none. session_aparts opening later before session none

pub returns-clause-keepers : goal.returns-clause-keepers
returns-clause-keepers c = λ opening later before none. keeper_aparts opening later before none

pub returns-clause-calls : goal.returns-clause-calls
returns-clause-calls c = λ w event other. calls_stay w event other

pub returns-clause-all_calls : goal.returns-clause-all_calls
returns-clause-all_calls c = λ opening later before none. all_calls_stay opening later before none

pub returns-clause-shape : goal.returns-clause-shape
returns-clause-shape c = λ opening events. shape_stays opening events

pub returns-clause-places : goal.returns-clause-places
returns-clause-places c = λ opening events. places_stay opening events
