-- For which home a session tries, searches, keeps a slot and publishes, and that a search finds where that home's chain begins.
use Rattle.std.specs.Prelude.{◌≡◌, ⊤, ℕ, slice_get, Some}
use Rattle.fkv_map.specs.Keys.{key_of}
use Rattle.fkv_plane.specs.declared.asks.Ask.{Ask}
use Rattle.fkv_plane.specs.declared.asks.Ask.TheVariants.{Done}
use Rattle.fkv_plane.specs.Asked.{reply_to}
use Rattle.fkv_index.specs.declared.finding.FindAnswer.{FindAnswer}
use Rattle.fkv_index.specs.declared.finding.Found.{Found}
use Rattle.fkv_index.specs.declared.finding.Found.TheVariants.{Slot, NoSlot}
use Rattle.fkv_index.specs.declared.homes.Home.{Home}
use Rattle.fkv_index.specs.Finding.{find_ask, find_next_ask}
use Rattle.fkv_index.specs.Slots.{entry_addr, home_of}
use Rattle.law_log.specs.Ghosts.{Log}
use Rattle.law_world.specs.Below.fkv_pending.TheAttempting.{Attempting}
use Rattle.law_world.specs.Below.fkv_pending.TheAttempting.TheVariants.{Tries}
use Rattle.law_world.specs.Below.fkv_pending.Attempting.{AttemptState}
use Rattle.law_world.specs.Below.fkv_session.Sitting.{Sitting}
use Rattle.law_world.specs.Below.fkv_session.Sitting.TheVariants.{Attempts, Polls}
use Rattle.law_world.specs.Below.fkv_session.Sessions.{SessionState, session_ask}
use Rattle.law_world.specs.Below.fkv_world.World.{Now, seat_at}
use Rattle.law_refine.specs.Index.Finders.{Search, SessionWork, Searches, KeepsSlot, PublishesEntry, session_part, session_search}
use Rattle.law_refine.specs.Heads.Heads.{head_at}

-- a try that is under way goes by this home
abbrev pub TriesFor : Home → AttemptState → Attempting → Type 0
TriesFor home a Tries = a.trial.home ≡ home
TriesFor home a step = ⊤

abbrev pub AttemptsFor : Home → SessionState → Sitting → Type 0
AttemptsFor home s (Attempts has_shifted) = TriesFor home s.attempt s.attempt.step
AttemptsFor home s (Polls index) = TriesFor home s.attempt s.attempt.step
AttemptsFor home s step = ⊤

-- what a session is about in the index is of this home
abbrev pub IsWorkAt : Home → SessionWork → Type 0
IsWorkAt home (Searches its) = its.finding.home ≡ home
IsWorkAt home (KeepsSlot slot) = slot.home ≡ home
IsWorkAt home (PublishesEntry slot addr) = slot.home ≡ home
IsWorkAt home work = ⊤

-- the home of the key of the request that a session attempts
abbrev pub home_attempted : Now → SessionState → Home
home_attempted n s = home_of n.shape.bucket_bits (key_of s.attempt.pending.request.op)

-- so it is with each session, and that home
pub record IsAtHome (home : Home) (s : SessionState) : Type 0 where
  pub tries : AttemptsFor home s s.step
  pub work : IsWorkAt home (session_part s).work

abbrev pub AreAtHome : Now → Type 0
AreAtHome n = (session : ℕ) (s : SessionState) → slice_get n.sessions session ≡ Some s → IsAtHome (home_attempted n s) s

-- the slot that was found has an entry of this address, or none where it is 0; and where there is no slot it is 0
abbrev pub IsHeadFound : ℕ → Found → Type 0
IsHeadFound head (Slot place word) = entry_addr word ≡ head
IsHeadFound head NoSlot = head ≡ 0
IsHeadFound head its = ⊤

abbrev pub IsHeadAnswered : ℕ → Ask FindAnswer → Type 0
IsHeadAnswered head (Done answer) = IsHeadFound head answer.found
IsHeadAnswered head ask = ⊤

-- At the step that ends a search it finds where the chain of its home begins: so by the reply to its own ask, and by the reply to the session's, in
-- the chain of the home that is attempted.
pub record FindsHead (n : Now) (log : Log) (session : ℕ) (s : SessionState) (its : Search) : Type 0 where
  pub found : IsHeadAnswered (head_at log its.finding.home) (find_next_ask n.places its.finding (reply_to n.words (find_ask its.finding)))
  pub replied : IsHeadAnswered (head_at log (home_attempted n s)) (find_next_ask n.places its.finding (reply_to n.words (session_ask (seat_at n session) s)))

abbrev pub AreHeadsFound : Now → Log → Type 0
AreHeadsFound n log = (session : ℕ) (s : SessionState) (its : Search) → slice_get n.sessions session ≡ Some s → session_search s ≡ Some its → FindsHead n log session s its
