-- The law, by what stands at every moment.
use Rattle.fkv_pending.specs.MailWorld.{mail_run}
use Rattle.fkv_pending.specs.Mailbox.{opening, past_of}
use Rattle.fkv_pending.proofs.MailRuns.{moment_sound, sound_changes, sound_others, sound_answers, sound_rests}
use Rattle.fkv_pending.proofs.laws.law_mailbox.Goals as goal

pub returns-clause-turns : goal.returns-clause-turns
returns-clause-turns c = λ session words events opened. (moment_sound session words events opened).kept.turns

pub returns-clause-changes : goal.returns-clause-changes
returns-clause-changes c = λ session words events opened.
    sound_changes (mail_run (opening session words) events) (past_of (opening session words) events) (moment_sound session words events opened)

pub returns-clause-others : goal.returns-clause-others
returns-clause-others c = λ session words events opened. sound_others (mail_run (opening session words) events) (past_of (opening session words) events)

pub returns-clause-answers : goal.returns-clause-answers
returns-clause-answers c = λ session words events opened.
    sound_answers (mail_run (opening session words) events) (past_of (opening session words) events) (moment_sound session words events opened)

pub returns-clause-rest : goal.returns-clause-rest
returns-clause-rest c = λ session words events opened.
    sound_rests (mail_run (opening session words) events) (past_of (opening session words) events) (moment_sound session words events opened)
