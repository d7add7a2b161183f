use Rattle.fkv_epoch.proofs.Runs.{run_sound, opening_sound, safe_is_seen, safe_is_in_force, claim_is_safe}
use Rattle.std.proofs.Common.{arith}
use Rattle.fkv_epoch.specs.EpochWorld.{epoch_run, safe_of}
use Rattle.fkv_epoch.specs.Once.{opening}
use Rattle.fkv_epoch.proofs.laws.law_once.Goals as goal

pub returns-clause-once : goal.returns-clause-once
returns-clause-once c = λ sessions actors words events o. (run_sound (opening sessions actors words) events (opening_sound sessions actors words o)).once

pub returns-clause-seen : goal.returns-clause-seen
returns-clause-seen c = λ sessions actors words events event claim o among.
    let sound = run_sound (opening sessions actors words) events (opening_sound sessions actors words o) in
    safe_is_seen (epoch_run (opening sessions actors words) events) claim.epoch sound (claim_is_safe (epoch_run (opening sessions actors words) events) event claim sound among)

pub returns-clause-safe : goal.returns-clause-safe
returns-clause-safe c = λ sessions actors words events o.
    let w = epoch_run (opening sessions actors words) events in
    let sound = run_sound (opening sessions actors words) events (opening_sound sessions actors words o) in
    safe_is_seen (epoch_run (opening sessions actors words) events) (safe_of (epoch_run (opening sessions actors words) events).now.words) sound (omega arith)

pub returns-clause-claimed_in_force : goal.returns-clause-claimed_in_force
returns-clause-claimed_in_force c = λ sessions actors words events event claim o among.
    let sound = run_sound (opening sessions actors words) events (opening_sound sessions actors words o) in
    safe_is_in_force (epoch_run (opening sessions actors words) events) claim.epoch sound (claim_is_safe (epoch_run (opening sessions actors words) events) event claim sound among)

pub returns-clause-safe_in_force : goal.returns-clause-safe_in_force
returns-clause-safe_in_force c = λ sessions actors words events o.
    let sound = run_sound (opening sessions actors words) events (opening_sound sessions actors words o) in
    safe_is_in_force (epoch_run (opening sessions actors words) events) (safe_of (epoch_run (opening sessions actors words) events).now.words) sound (omega arith)
