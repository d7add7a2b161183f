-- The machine with which a session works on its mailbox, by its control state.
use Rattle.std.specs.Prelude.{◌≡◌, true, false, Option, Some, None}
use Rattle.law_world.specs.Below.fkv_pending.TheAttempting.{Attempting}
use Rattle.law_world.specs.Below.fkv_pending.TheAttempting.TheVariants.{Looks, Puts}
use Rattle.law_world.specs.Below.fkv_pending.TheMailing.{Mailing}
use Rattle.law_world.specs.Below.fkv_pending.Attempting.{AttemptState}
use Rattle.law_world.specs.Below.fkv_pending.MailWorld.{is_at_end}
use Rattle.law_world.specs.Below.fkv_session.Sitting.{Sitting}
use Rattle.law_world.specs.Below.fkv_session.Sitting.TheVariants.{Attempts, ClearsMail, Polls}
use Rattle.law_world.specs.Below.fkv_session.Sessions.{SessionState}

-- an attempt works on the mailbox where it looks for a record there, and where it puts an address there
abbrev pub attempt_mailing : AttemptState → Attempting → Option Mailing
attempt_mailing a Looks = Some a.mailing
attempt_mailing a Puts = Some a.mailing
attempt_mailing a step = None

-- and a poll that begins where it lets a record go
abbrev pub sitting_mailing : SessionState → Sitting → Option Mailing
sitting_mailing s (Attempts has_shifted) = attempt_mailing s.attempt s.attempt.step
sitting_mailing s (Polls index) = attempt_mailing s.attempt s.attempt.step
sitting_mailing s ClearsMail = Some s.mailing
sitting_mailing s step = None

-- of a session, none where no task with its mailbox is under way
abbrev pub session_mailing : SessionState → Option Mailing
session_mailing s = sitting_mailing s s.step

-- where the session has a machine under way, which isn't at its end, the mailbox's world has just this one, and else one that is at its end
abbrev pub IsAsFar : Option Mailing → Mailing → Type 0
IsAsFar None its = is_at_end its ≡ true
IsAsFar (Some step) its = (its ≡ step) × (is_at_end step ≡ false)
