-- What is shown of the mailboxes of a life.
use Rattle.std.specs.Prelude.{◌≡◌, ℕ, List, Some, slice_get, true}
use Rattle.law_commit.specs.Below.fkv_session.Sessions.{SessionState}
use Rattle.law_commit.specs.Below.law_local.Sessions.Known.{is_attempting}
use Rattle.law_commit.specs.Below.fkv_world.Runs.{World, run}
use Rattle.law_commit.specs.Below.fkv_world.World.{Event}
use Rattle.law_order.specs.Asked.Asked.{AsksForSought, HaveAskedSought, LooksForAsked}
use Rattle.law_commit.specs.Below.law_world.Guarded.Shows as guard
use Rattle.law_commit.specs.Below.law_refine.Mail.Reads.{mail_notes, mail_past}
use Rattle.law_commit.specs.Below.law_refine.Mail.Shows.{IsOpened}

-- an attempt that looks into the mailbox looks for what was asked for there last
abbrev pub LooksForWhatIsAsked : Type 0
LooksForWhatIsAsked =
    (opening : World) (start : ℕ) (session : ℕ) (events : List Event) (s : SessionState)
    → IsOpened opening.now session → guard.IsOpened opening.now start
    → slice_get (run opening events).now.sessions session ≡ Some s → is_attempting s.step ≡ true
    → LooksForAsked (mail_notes opening session events) s.attempt s.attempt.step

-- one that is about to say that it asks has put the address there that it seeks
abbrev pub AsksForWhatIsSought : Type 0
AsksForWhatIsSought =
    (opening : World) (start : ℕ) (session : ℕ) (events : List Event) (s : SessionState)
    → IsOpened opening.now session → guard.IsOpened opening.now start
    → slice_get (run opening events).now.sessions session ≡ Some s → is_attempting s.step ≡ true
    → AsksForSought (mail_past opening session events).task s.attempt s.attempt.step

-- each request that has asked seeks the record that is asked for
abbrev pub SeeksWhatIsAsked : Type 0
SeeksWhatIsAsked =
    (opening : World) (start : ℕ) (session : ℕ) (events : List Event) (s : SessionState)
    → IsOpened opening.now session → guard.IsOpened opening.now start
    → slice_get (run opening events).now.sessions session ≡ Some s
    → HaveAskedSought (mail_notes opening session events) s
