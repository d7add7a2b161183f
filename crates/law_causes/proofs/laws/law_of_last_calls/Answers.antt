-- A call ends as its kind does, so what it tells as refused is its own refusal, and that has its cause.
use Rattle.law_causes.proofs.OfCauses.Ends.{commits_refused, device_in_turn, turns_refused}
use Rattle.law_causes.proofs.laws.law_of_last_calls.Goals as goal

pub returns : goal.returns
returns c = record {
  turns = λ shape p opening events why opened turn over told. turns_refused shape p opening events why opened turn over told;
  commits = λ shape p opening events kind why opened commit over told. commits_refused shape p opening events kind why opened commit over told;
  device = λ shape p opening events opened asks. device_in_turn shape p opening events opened asks;
}
