-- Over each run.
use Rattle.fkv_checkpoint.specs.CopyWorld.{copy_opening}
use Rattle.fkv_checkpoint.proofs.CopyRuns.{copy_sound, copy_opens, sound_left_out}
use Rattle.fkv_checkpoint.proofs.laws.law_fuzzy_copy.Goals as goal

pub returns-clause-stood : goal.returns-clause-stood
returns-clause-stood c = λ p words lists actors events index. (copy_sound (copy_opening p words lists actors) events (copy_opens p words lists actors index)).stood

pub returns-clause-once : goal.returns-clause-once
returns-clause-once c = λ p words lists actors events index. (copy_sound (copy_opening p words lists actors) events (copy_opens p words lists actors index)).copied.apart

pub returns-clause-whole : goal.returns-clause-whole
returns-clause-whole c = λ p words lists actors events index. sound_left_out (copy_opening p words lists actors) events (copy_sound (copy_opening p words lists actors) events (copy_opens p words lists actors index))
