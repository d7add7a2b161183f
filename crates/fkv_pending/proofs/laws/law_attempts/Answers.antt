-- The law, by what each run tells.
use Rattle.fkv_pending.proofs.AttemptAnswers.{answers_so}
use Rattle.fkv_pending.proofs.AttemptEffects.{effects_told}
use Rattle.fkv_pending.proofs.AttemptPuts.{puts_where_free}
use Rattle.fkv_pending.proofs.AttemptRuns.{run_true}
use Rattle.fkv_pending.proofs.AttemptSpares.{spare_is_kept}
use Rattle.fkv_pending.proofs.AttemptTries.{held_is_kept, tries_are_kept}
use Rattle.fkv_pending.proofs.laws.law_attempts.Goals as goal

pub returns-clause-mail : goal.returns-clause-mail
returns-clause-mail c = run_true

pub returns-clause-effects : goal.returns-clause-effects
returns-clause-effects c = effects_told

pub returns-clause-tries : goal.returns-clause-tries
returns-clause-tries c = tries_are_kept

pub returns-clause-answers : goal.returns-clause-answers
returns-clause-answers c = answers_so

pub returns-clause-puts : goal.returns-clause-puts
returns-clause-puts c = puts_where_free

pub returns-clause-held : goal.returns-clause-held
returns-clause-held c = held_is_kept

pub returns-clause-spare : goal.returns-clause-spare
returns-clause-spare c = spare_is_kept
