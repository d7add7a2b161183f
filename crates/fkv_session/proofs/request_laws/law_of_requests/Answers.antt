-- What holds of accepted requests at every moment.
use Rattle.fkv_session.proofs.AsksCounted.{run_counted}
use Rattle.fkv_session.proofs.AsleepKept.{run_asleep}
use Rattle.fkv_session.proofs.Polled.{run_polled}
use Rattle.fkv_session.proofs.Ticketed.{run_tickets}
use Rattle.fkv_session.proofs.VersionFits.{run_version}
use Rattle.fkv_session.proofs.Versioned.{run_taken, run_call, run_request}
use Rattle.fkv_session.proofs.request_laws.law_of_requests.Goals as goal

pub returns-clause-tickets : goal.returns-clause-tickets
returns-clause-tickets c = λ seat opening events opened. run_tickets seat opening events opened

pub returns-clause-counted : goal.returns-clause-counted
returns-clause-counted c = λ seat opening events opened. run_counted seat opening events opened

pub returns-clause-versions : goal.returns-clause-versions
returns-clause-versions c = λ seat opening events opened. run_taken seat opening events opened

pub returns-clause-at_calls : goal.returns-clause-at_calls
returns-clause-at_calls c = λ seat opening events has_shifted opened at. run_call seat opening events has_shifted opened at

pub returns-clause-in_polls : goal.returns-clause-in_polls
returns-clause-in_polls c = λ seat opening events index opened at. run_request seat opening events index opened at

pub returns-clause-asleep : goal.returns-clause-asleep
returns-clause-asleep c = λ seat opening events opened asleep. run_asleep seat opening events opened asleep

pub returns-clause-polls : goal.returns-clause-polls
returns-clause-polls c = λ seat opening event before left opened calling ends. run_polled seat opening event before left opened calling ends

pub returns-clause-version_fits : goal.returns-clause-version_fits
returns-clause-version_fits c = λ seat opening events opened fit. run_version seat opening events opened fit
