use Rattle.std.proofs.Common.{◌∙◌}
use Rattle.fkv_disk.specs.Calls.{Sync}
use Rattle.fkv_posted.specs.Outcomes.{calls_in}
use Rattle.fkv_posted.proofs.Calling.{always_on, called, elapses_by, sync_no_more, sync_shows}
use Rattle.fkv_posted.proofs.posted.PostedDevice.sync.Goals as goal

pub invariant_of-self : goal.invariant_of-self
invariant_of-self c =
    let old = c.args.self.now in
    let same = c.then-self.ensures.0 ∙ c.take-told.ensures.opened in
    let calls = called old.failures old.told old.log.outcomes _ _ (Sync c.if-matches.done) c.take-told.ensures.outcomes c.then-self.ensures.1 in
    record {
      is_shown = sync_shows old.log.opened _ (calls_in old.log.outcomes) _ c.if-matches.done same calls old.shown old.is_shown;
      are_bytes = always_on old.log.opened _ (calls_in old.log.outcomes) _ (Sync c.if-matches.done) same calls (old.are_bytes 0) old.are_bytes;
    }

pub returns-clause-crash : goal.returns-clause-crash
returns-clause-crash c = λ claim.
    let old = c.args.self.now in
    let same = c.then-self.ensures.0 ∙ c.take-told.ensures.opened in
    let calls = called old.failures old.told old.log.outcomes _ _ (Sync c.if-matches.done) c.take-told.ensures.outcomes c.then-self.ensures.1 in
    sync_no_more old.log.opened _ (calls_in old.log.outcomes) _ c.if-matches.done same calls old.are_bytes

pub returns-clause-time : goal.returns-clause-time
returns-clause-time c = λ claim.
    let old = c.args.self.now in
    let same = c.then-self.ensures.0 ∙ c.take-told.ensures.opened in
    let calls = called old.failures old.told old.log.outcomes _ _ (Sync c.if-matches.done) c.take-told.ensures.outcomes c.then-self.ensures.1 in
    elapses_by old.log.opened _ (calls_in old.log.outcomes) _ (Sync c.if-matches.done) same calls
