-- The law, by the law of a copy while others go on.
use Rattle.law_refine.proofs.Below.fkv_checkpoint.Shown.{sound_left_out}
use Rattle.law_commit.specs.Copied.Runs.{copy_events, opening_copy}
use Rattle.law_commit.proofs.OfCopied.Lives.{life_copies, life_keeps, life_writes}
use Rattle.law_commit.proofs.OfCopied.Sound.{life_sound}
use Rattle.law_commit.proofs.copied.law_world_copied.Goals as goal

pub returns-clause-index : goal.returns-clause-index
returns-clause-index c = λ opening lists events opened. (life_copies opening lists events opened).same

pub returns-clause-replies : goal.returns-clause-replies
returns-clause-replies c = λ opening lists events opened. (life_copies opening lists events opened).told

pub returns-clause-held : goal.returns-clause-held
returns-clause-held c = λ opening lists events opened. life_keeps opening lists events opened

pub returns-clause-written : goal.returns-clause-written
returns-clause-written c = λ opening lists events opened. life_writes opening lists events opened

pub returns-clause-stood : goal.returns-clause-stood
returns-clause-stood c = λ opening lists events opened. (life_sound opening lists events opened).stood

pub returns-clause-once : goal.returns-clause-once
returns-clause-once c = λ opening lists events opened. (life_sound opening lists events opened).copied.apart

pub returns-clause-whole : goal.returns-clause-whole
returns-clause-whole c = λ opening lists events opened. sound_left_out (opening_copy opening lists) (copy_events opening events) (life_sound opening lists events opened)
