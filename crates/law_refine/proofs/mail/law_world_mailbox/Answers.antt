-- The law, by what stands between events, and by that of mailboxes.
use Rattle.law_refine.specs.Mail.MailEvents.{mapped}
use Rattle.law_refine.proofs.OfMail.Changes.{each_changes}
use Rattle.law_refine.proofs.OfMail.Permitted.{are_permitted}
use Rattle.law_refine.proofs.OfMail.Lives.{life_shows}
use Rattle.law_refine.proofs.mail.law_world_mailbox.Goals as goal

pub returns-clause-permitted : goal.returns-clause-permitted
returns-clause-permitted c = λ opening session events opened. are_permitted opening session events opened

pub returns-clause-shows : goal.returns-clause-shows
returns-clause-shows c = λ opening session events opened. life_shows opening session events opened

pub returns-clause-turns : goal.returns-clause-turns
returns-clause-turns c = λ opening session events opened. c.law_mailbox.ensures.turns session opening.now.words (mapped opening session events) opened.mail

pub returns-clause-changes : goal.returns-clause-changes
returns-clause-changes c = each_changes c.law_mailbox.ensures.changes
