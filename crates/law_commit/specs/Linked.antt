-- What an update's search met that goes on to link an overflow bucket.
use Rattle.std.specs.Prelude.{◌≡◌, ◌⊎◌, ⊤, ℕ, List, [], ◌∷◌, ◌++◌, slice_get, Some}
use Rattle.fkv_plane.specs.Asked.{reply_to}
use Rattle.fkv_index.specs.declared.finding.FindStep.{FindStep}
use Rattle.fkv_index.specs.declared.finding.FindStep.TheVariants.{LoadsLink, LoadsTaken, TakesBucket, LinksBucket}
use Rattle.fkv_index.specs.declared.finding.Finding.{Finding}
use Rattle.fkv_index.specs.declared.finding.Linking.TheVariants.{Made}
use Rattle.fkv_index.specs.declared.homes.Home.{Home}
use Rattle.fkv_index.specs.Slots.{link_of}
use Rattle.law_refine.specs.Below.fkv_session.Sessions.{SessionState, session_ask}
use Rattle.law_refine.specs.Below.fkv_world.Runs.{World, run}
use Rattle.law_refine.specs.Below.fkv_world.World.{Event, Now, seat_at}
use Rattle.law_log.specs.Ghosts.{Ghosts, Log}
use Rattle.law_refine.specs.Index.Finders.{Search, Searches, session_part}
use Rattle.law_refine.specs.Events.GhostEvents.{life_ghosts}
use Rattle.law_refine.specs.Heads.Heads.{head_at}

-- Where a session's search loads an eighth word that leads nowhere, the chain of its home is empty.
abbrev pub MeetEmpty : Now → Log → Type 0
MeetEmpty n log = (number : ℕ) (s : SessionState) (its : Search) → slice_get n.sessions number ≡ Some s → (session_part s).work ≡ Searches its → its.finding.step ≡ LoadsLink
    → link_of (reply_to n.words (session_ask (seat_at n number) s)) ≡ 0 → head_at log its.finding.home ≡ 0

-- a search takes an overflow bucket or links one, or it has linked one
abbrev pub IsLinkStep : FindStep → Type 0
IsLinkStep (LoadsTaken word) = ⊤
IsLinkStep (TakesBucket word taken) = ⊤
IsLinkStep (LinksBucket word) = ⊤
IsLinkStep step = ⊥

abbrev pub IsLinking : Finding → Type 0
IsLinking f = IsLinkStep f.step ⊎ (f.linking ≡ Made)

-- the session's search of this home does so
pub record LinksFor (n : Now) (number : ℕ) (home : Home) : Type 0 where
  pub s : SessionState
  pub got : slice_get n.sessions number ≡ Some s
  pub its : Search
  pub searches : (session_part s).work ≡ Searches its
  pub of_home : its.finding.home ≡ home
  pub links : IsLinking its.finding

-- so it has been at each moment after the first of these events
abbrev pub LinksSince : World → ℕ → Home → List Event → List Event → Type 0
LinksSince opening number home [] before = ⊤
LinksSince opening number home (event ∷ later) before = LinksFor (run opening (event ∷ (later ++ before))).now number home × LinksSince opening number home later before

-- There was a moment at which the home's chain was empty, and the session's search has been linking ever since.
pub record HasMetEmpty (opening : World) (ghosts : Ghosts) (events : List Event) (number : ℕ) (home : Home) : Type 0 where
  pub moment : List Event
  pub later : List Event
  pub split : events ≡ later ++ moment
  pub empty : head_at (life_ghosts opening ghosts moment).log home ≡ 0
  pub since : LinksSince opening number home later moment

-- so it is with each session's search that links
abbrev pub HaveMetEmpty : World → Ghosts → List Event → Type 0
HaveMetEmpty opening ghosts events = (number : ℕ) (s : SessionState) (its : Search) → slice_get (run opening events).now.sessions number ≡ Some s → (session_part s).work ≡ Searches its → IsLinking its.finding
    → HasMetEmpty opening ghosts events number its.finding.home
