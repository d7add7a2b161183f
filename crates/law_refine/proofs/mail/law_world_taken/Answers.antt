-- The law, by what was given over the events of the mailbox's world, by where the log begins, and by what the guard keeps on the device.
use Rattle.law_refine.proofs.OfMail.GoneTold.{gone_tells}
use Rattle.law_refine.proofs.OfMail.StoodThere.{reads_stood}
use Rattle.law_refine.proofs.OfMail.Takes.{takes_read}
use Rattle.law_refine.proofs.mail.law_world_taken.Goals as goal

pub returns-clause-takes : goal.returns-clause-takes
returns-clause-takes c = takes_read

pub returns-clause-gone : goal.returns-clause-gone
returns-clause-gone c = gone_tells

pub returns-clause-stood : goal.returns-clause-stood
returns-clause-stood c = reads_stood c.law_world_flushed_is_synced.ensures.synced
