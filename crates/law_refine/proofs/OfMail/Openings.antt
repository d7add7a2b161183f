-- What a store that was just opened owes for a session's mailbox.
use Rattle.std.proofs.Common.{ℕ, ◌<◌, arith}
use Rattle.law_world.specs.Below.fkv_flush.GuardMail.{AreEmpty}
use Rattle.law_world.specs.Below.fkv_world.World.{Now}
use Rattle.law_world.specs.Guarded.Shows as guard
use Rattle.law_refine.specs.Mail.Shows.{IsOpened}

-- nothing is asked for there
pub opened_mailbox : (n : Now) (start session : ℕ) → guard.IsOpened n start → AreEmpty n.places n.words → session < n.places.sessions → IsOpened n session
opened_mailbox n start session opened empty there =
    let enough = opened.words.enough_words in
    record { mail = record { enough_words = omega (arith, enough, there); is_empty = empty session there }; its_seat = there; sessions = opened.sessions; keeper = opened.keeper }
