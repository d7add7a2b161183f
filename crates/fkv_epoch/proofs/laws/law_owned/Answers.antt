use Rattle.fkv_epoch.specs.Once.{opening}
use Rattle.fkv_epoch.specs.EpochWorld.{epoch_run}
use Rattle.fkv_epoch.proofs.Runs.{run_sound, opening_sound}
use Rattle.fkv_epoch.proofs.Facts.{bearer_finds_none, claimer_finds_action, no_claim_waits}
use Rattle.fkv_epoch.proofs.Held.{held_alone}
use Rattle.fkv_epoch.proofs.laws.law_owned.Goals as goal

pub returns-clause-put : goal.returns-clause-put
returns-clause-put c = λ sessions actors words events o actor slot epoch got.
    bearer_finds_none (epoch_run (opening sessions actors words) events) actor slot epoch (run_sound (opening sessions actors words) events (opening_sound sessions actors words o)) got

pub returns-clause-claim : goal.returns-clause-claim
returns-clause-claim c = λ sessions actors words events o.
    let sound = run_sound (opening sessions actors words) events (opening_sound sessions actors words o) in
    record {
      finds = λ actor slot word safe got found. claimer_finds_action (epoch_run (opening sessions actors words) events) actor slot word safe sound got found;
      waits = λ actor slot epoch safe got. no_claim_waits (epoch_run (opening sessions actors words) events) actor slot epoch safe sound got;
    }

pub returns-clause-held : goal.returns-clause-held
returns-clause-held c = λ sessions actors words events o.
    held_alone (epoch_run (opening sessions actors words) events) (run_sound (opening sessions actors words) events (opening_sound sessions actors words o))
