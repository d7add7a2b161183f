-- The floors by which sessions and their requests go.
use Rattle.std.specs.Prelude.{◌≡◌, ◌≤◌, ⊤, ℕ, List, [], ◌∷◌, Some, slice_get, false, true}
use Rattle.law_world.specs.Below.fkv_pending.Attempting.{AttemptState}
use Rattle.law_world.specs.Below.fkv_pending.MailRecord.{MailRecord}
use Rattle.law_world.specs.Below.fkv_pending.Mailing.{is_gone}
use Rattle.law_world.specs.Below.fkv_pending.PendingRequest.{PendingRequest}
use Rattle.law_world.specs.Below.fkv_session.Sessions as sessions
use Rattle.law_world.specs.Below.fkv_session.Sessions.{SessionState}
use Rattle.law_local.specs.Sessions.Known.{KnowsRequests}
use Rattle.law_world.specs.Below.fkv_world.Runs.{World, run}
use Rattle.law_world.specs.Below.fkv_world.World.{Event, Now}
use Rattle.law_refine.specs.Mail.Reads.{IsTaking}

-- a request goes by a floor at or below this begin of the log
abbrev pub GoesUpto : ℕ → PendingRequest → Type 0
GoesUpto begin pending = pending.request.floor.0 ≤ begin

-- and so does the request of an attempt
abbrev pub TriesUpto : ℕ → AttemptState → Type 0
TriesUpto begin a = GoesUpto begin a.pending

-- the floor of a session is at or below this begin, and so is that of each of its requests, and of its attempt
pub record HasFloorsUpto (begin : ℕ) (s : SessionState) : Type 0 where
  pub own : s.floor.0 ≤ begin
  pub theirs : KnowsRequests (GoesUpto begin) (TriesUpto begin) s

-- and so it is with each session
abbrev pub HaveFloorsUpto : ℕ → Now → Type 0
HaveFloorsUpto begin n = (session : ℕ) (s : SessionState) → slice_get n.sessions session ≡ Some s → HasFloorsUpto begin s

-- as a store was opened
abbrev pub OpensUpto : ℕ → Now → Type 0
OpensUpto begin n = (session : ℕ) (s : SessionState) → slice_get n.sessions session ≡ Some s → sessions.IsOpened s × (s.floor.0 ≤ begin)

-- whoever is told now that a record is gone, is told a begin at or below this one
abbrev pub TellsUpto : ℕ → Now → Type 0
TellsUpto begin n = n.crashed ≡ false → (session : ℕ) (its : MailRecord) → IsTaking n session its → is_gone its ≡ true → its.key.0 ≤ begin

-- at each earlier moment of a life
abbrev pub HasToldUpto : ℕ → World → List Event → Type 0
HasToldUpto begin opening [] = ⊤
HasToldUpto begin opening (event ∷ before) = TellsUpto begin (run opening before).now × HasToldUpto begin opening before
