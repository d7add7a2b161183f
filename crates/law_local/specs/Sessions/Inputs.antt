-- What the attempt that is under way goes by: the request that it is for, and what the session has seen.
use Rattle.std.specs.Prelude.{◌≡◌, ⊤, ℕ}
use Rattle.fkv_map.specs.Keys.{key_of}
use Rattle.fkv_index.specs.Slots.{home_of}
use Rattle.fkv_ops.specs.declared.requests.Occasion.{Occasion}
use Rattle.fkv_ops.specs.declared.requests.Occasion.TheVariants.{Call as AtCall, Poll as AtPoll}
use Rattle.fkv_ops.specs.declared.requests.Request.{Request}
use Rattle.fkv_ops.specs.declared.requests.Seen.{Seen}
use Rattle.fkv_ops.specs.declared.trying.Trying.{Trying}
use Rattle.fkv_ops.specs.declared.trying.Trying.TheVariants.{Ended, TakesShared, LoadsPhase, LoadsTail, LoadsTaken, DropsExclusive, DropsShared}
use Rattle.fkv_ops.specs.Trying.{TryState}
use Rattle.fkv_ops.specs.Walking.{WalkState}
use Rattle.fkv_pending.specs.declared.attempting.Attempting.{Attempting}
use Rattle.fkv_pending.specs.declared.attempting.Attempting.TheVariants.{Tries}
use Rattle.fkv_pending.specs.Attempting.{AttemptState}
use Rattle.fkv_session.specs.declared.sessions.Sitting.{Sitting}
use Rattle.fkv_session.specs.declared.sessions.Sitting.TheVariants.{Attempts, Polls}
use Rattle.fkv_session.specs.Polls.{IsSameRequest}
use Rattle.fkv_session.specs.Sessions.{SessionState, Seat, bits_of, request_in_hand}
use Rattle.fkv_session.specs.Versions.{IsAttemptOfRequest}
use Rattle.law_local.specs.Tries.TryRows.{IsWalkFor}
use Rattle.fkv_ops.specs.Bounds.{bounds_of}

-- the walk of a try is for its request, from where it has begun up to the end
abbrev pub WalksFor : Request → Seen → WalkState → Trying → Type 0
WalksFor request seen w (Ended its) = ⊤
WalksFor request seen w TakesShared = ⊤
WalksFor request seen w LoadsPhase = ⊤
WalksFor request seen w (LoadsTail waiting) = ⊤
WalksFor request seen w (LoadsTaken waiting) = ⊤
WalksFor request seen w (DropsExclusive its) = ⊤
WalksFor request seen w (DropsShared its) = ⊤
WalksFor request seen w step = IsWalkFor request seen w

-- a try is of this request, by what was seen, at this occasion and at the home of its key
pub record IsTryFor (bits : ℕ) (request : Request) (seen : Seen) (occasion : Occasion) (t : TryState) : Type 0 where
  pub its_request : t.request ≡ request
  pub its_seen : t.seen ≡ seen
  pub its_occasion : t.occasion ≡ occasion
  pub its_home : t.home ≡ home_of bits (key_of request.op)
  pub its_walk : WalksFor request seen t.walk t.step

-- while an attempt tries, its try is of its request, by what it has seen
abbrev pub TriesFor : ℕ → AttemptState → Attempting → Type 0
TriesFor bits a Tries = IsTryFor bits a.pending.request a.seen a.occasion a.trial
TriesFor bits a step = ⊤

-- an attempt goes by what was seen, at this occasion
pub record GoesBy (bits : ℕ) (seen : Seen) (occasion : Occasion) (a : AttemptState) : Type 0 where
  pub its_seen : a.seen ≡ seen
  pub its_occasion : a.occasion ≡ occasion
  pub its_try : TriesFor bits a a.step

-- at a call it is of the operation in hand, as a request by the session's next name and of its version
pub record IsAttemptAtCall (k : Seat) (s : SessionState) : Type 0 where
  pub goes : GoesBy (bits_of k) s.seen (AtCall (bounds_of k.shape)) s.attempt
  pub same : IsSameRequest (request_in_hand s) s.attempt.pending

-- and in a poll of the request that waits at an index
pub record IsAttemptInPoll (k : Seat) (s : SessionState) (index : ℕ) : Type 0 where
  pub goes : GoesBy (bits_of k) s.seen AtPoll s.attempt
  pub same : IsAttemptOfRequest s.requests index s.attempt.pending

-- by the session's control state
abbrev pub AttemptsBy : Seat → SessionState → Sitting → Type 0
AttemptsBy k s (Attempts has_shifted) = IsAttemptAtCall k s
AttemptsBy k s (Polls index) = IsAttemptInPoll k s index
AttemptsBy k s step = ⊤

-- so the session attempts what it should
abbrev pub AttemptsSo : Seat → SessionState → Type 0
AttemptsSo k s = AttemptsBy k s s.step
