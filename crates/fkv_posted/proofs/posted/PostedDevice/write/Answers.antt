use Rattle.std.proofs.Common.{◌∙◌, refl}
use Rattle.fkv_disk.specs.Calls.{Write}
use Rattle.fkv_posted.specs.Outcomes.{calls_in}
use Rattle.fkv_posted.proofs.Calling.{always_on, called, elapses_by, write_bytes}
use Rattle.fkv_posted.proofs.posted.PostedDevice.write.Goals as goal

pub invariant_of-self : goal.invariant_of-self
invariant_of-self c =
    let old = c.args.self.now in
    let done = c.match-matches.matches in
    let same = c.then-self.ensures.0 ∙ c.take-told.ensures.opened in
    let calls = called old.failures old.told old.log.outcomes _ _ (Write c.args.at c.args.bytes.now done) c.take-told.ensures.outcomes c.then-self.ensures.1 in
    record {
      is_shown = refl;
      are_bytes = always_on old.log.opened _ (calls_in old.log.outcomes) _ (Write c.args.at c.args.bytes.now done) same calls
          (write_bytes old.log.opened (calls_in old.log.outcomes) c.args.at c.args.bytes.now done (old.are_bytes 0) c.are_bytes.ensures) old.are_bytes;
    }

pub returns-clause-time : goal.returns-clause-time
returns-clause-time c = λ claim.
    let old = c.args.self.now in
    let done = c.match-matches.matches in
    let same = c.then-self.ensures.0 ∙ c.take-told.ensures.opened in
    let calls = called old.failures old.told old.log.outcomes _ _ (Write c.args.at c.args.bytes.now done) c.take-told.ensures.outcomes c.then-self.ensures.1 in
    elapses_by old.log.opened _ (calls_in old.log.outcomes) _ (Write c.args.at c.args.bytes.now done) same calls
