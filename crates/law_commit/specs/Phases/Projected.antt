-- What a session's events are among the phases on paper.
use Rattle.std.specs.Prelude.{◌≡◌, ◌≢◌, ◌≤◌, ◌-◌, ◌*◌, replicate, ⊤, ℕ, Bool, true, false, List, [], ◌∷◌, ◌++◌, Option, Some, None, slice_get}
use Rattle.fkv_base.specs.declared.numbers.Version.{Version}
use Rattle.fkv_base.specs.declared.phases.Phase.{Phase}
use Rattle.fkv_base.specs.declared.phases.Phase.TheVariants.{Rest}
use Rattle.fkv_words.specs.declared.phase_words.PhaseSaid.TheVariants.{Says}
use Rattle.fkv_words.specs.PhaseWords.{phase_said}
use Rattle.fkv_epoch.specs.EpochWorld as epochs
use Rattle.fkv_plane.specs.declared.places.SharedWord.TheVariants as one
use Rattle.fkv_plane.specs.Asked.{word_at}
use Rattle.fkv_plane.specs.Places.{shared_place}
use Rattle.law_refine.specs.Below.fkv_session.CatchCause.TheVariants.{Wakes}
use Rattle.law_refine.specs.Below.fkv_session.Sitting.{Sitting}
use Rattle.law_refine.specs.Below.fkv_session.Sitting.TheVariants.{CatchesUp, Idle, LoadsDurable}
use Rattle.law_refine.specs.Below.fkv_session.Sessions.{Seat, SessionState, session_next}
use Rattle.law_refine.specs.Below.fkv_session.SessionRun.{Replies, SessionEvent, session_run}
use Rattle.law_refine.specs.Below.fkv_world.Opened.{HasBecome, IsOpenedWorld}
use Rattle.law_refine.specs.Below.fkv_world.OwnEvents.{session_part_of}
use Rattle.law_refine.specs.Below.fkv_world.Runs.{World, run}
use Rattle.law_refine.specs.Below.fkv_world.World.{Event, Moves, Now, seat_at}
use Rattle.law_refine.specs.Below.law_world.Guarded.Shows as guard
use Rattle.law_paper.specs.Phases as paper
use Rattle.law_paper.specs.Phases.{AreEnabled, Completes, Leaves, Loads, PhaseEvent, Phasing, phase_run}
use Rattle.law_commit.specs.Phases.Stamped.{SessionStamped}
use Rattle.law_commit.specs.Ranks.{rank}
use Rattle.law_commit.specs.Views.{Sight, View, loads_phase, rank_of, sight_moved, sight_of, view_at}

-- ---- a session is awake but while it sleeps and wakes; and it refreshes where it doesn't wake
abbrev pub SitsAwake : SessionState → Sitting → Type 0
SitsAwake s (Idle told) = ⊤
SitsAwake s LoadsDurable = ⊤
SitsAwake s (CatchesUp Wakes) = (s.is_awake ≡ false) × (s.catching.is_refresh ≡ false)
SitsAwake s (CatchesUp cause) = (s.is_awake ≡ true) × (s.catching.is_refresh ≡ true)
SitsAwake s step = s.is_awake ≡ true

-- ---- the events of a reply
-- it is to the load of the phase word
abbrev pub loads_now : SessionState → Sitting → Bool
loads_now s (CatchesUp cause) = loads_phase s.catching s.catching.step
loads_now s step = false

abbrev pub loaded_events : ℕ → Bool → List PhaseEvent
loaded_events session true = Loads session ∷ []
loaded_events session false = []

-- the session is through with catching up
abbrev pub completed_events : ℕ → Sitting → Sitting → List PhaseEvent
completed_events session (CatchesUp cause) (CatchesUp other) = []
completed_events session (CatchesUp cause) after = Completes session ∷ []
completed_events session step after = []

-- it was awake and isn't any more
abbrev pub left_events : ℕ → Bool → Bool → List PhaseEvent
left_events session true false = Leaves session ∷ []
left_events session before after = []

-- from what it was to what it is; the newest first
abbrev pub reply_events : ℕ → SessionState → SessionState → List PhaseEvent
reply_events session s after = left_events session s.is_awake after.is_awake ++ (completed_events session s.step after.step ++ loaded_events session (loads_now s s.step))

-- ---- what is on paper shows a session
abbrev pub paper_view : View → paper.View
paper_view its = record { stamp = its.stamp; rank = rank_of its; tail = its.tail }

abbrev pub is_coming : Option View → Bool
is_coming None = false
is_coming (Some view) = true

pub record SameSession (x y : paper.Sessions) (session : ℕ) : Type 0 where
  pub live : x.live session ≡ y.live session
  pub view : x.view session ≡ y.view session
  pub comes : x.comes session ≡ y.comes session
  pub coming : x.coming session ≡ y.coming session

pub record ShowsSession (x : paper.Sessions) (session : ℕ) (its : Sight) (awake : Bool) : Type 0 where
  pub live : x.live session ≡ awake
  pub view : awake ≡ true → x.view session ≡ paper_view its.view
  pub comes : x.comes session ≡ is_coming its.coming
  pub coming : (view : View) → its.coming ≡ Some view → x.coming session ≡ paper_view view

-- and the words: the phase word says a phase of its rank
pub record ShowsWords (p : Phasing) (words : List ℕ) : Type 0 where
  pub epoch : p.epoch ≡ word_at words (shared_place one.Epoch)
  pub tail : p.tail ≡ word_at words (shared_place one.Tail)
  pub phase : Phase
  pub version : Version
  pub says : phase_said (word_at words (shared_place one.Phase)) ≡ Says phase version
  pub rank : paper.rank_of p ≡ rank phase version.0

-- These events are enabled, and then this session is so; and the others are as they were.
pub record Shown (p : Phasing) (session : ℕ) (events : List PhaseEvent) (its : Sight) (awake : Bool) : Type 0 where
  pub enabled : AreEnabled p events
  pub shows : ShowsSession (phase_run p events).sessions session its awake
  pub others : (other : ℕ) → other ≢ session → SameSession (phase_run p events).sessions p.sessions other

-- Each reply is such events, as long as one to the load of the phase word is that word.
abbrev pub RepliesAreShown : Type 0
RepliesAreShown =
    (p : Phasing) (words : List ℕ) (its : Sight) (l f : epochs.Loads) (k : Seat) (s : SessionState) (reply : ℕ) → SessionStamped its l f s → SitsAwake s s.step → ShowsWords p words
    → (loads_now s s.step ≡ true → reply ≡ word_at words (shared_place one.Phase)) → ShowsSession p.sessions k.number its s.is_awake
    → Shown p k.number (reply_events k.number s (session_next k s reply)) (sight_moved words s s.step reply (session_next k s reply).step its) (session_next k s reply).is_awake

-- ---- a life's events of sessions
abbrev pub phase_events_by : Seat → SessionState → SessionEvent → List PhaseEvent
phase_events_by k s (Replies reply) = reply_events k.number s (session_next k s reply)
phase_events_by k s event = []

unfoldable pub phase_events_through : Seat → SessionState → List SessionEvent → List PhaseEvent
phase_events_through k s [] = []
phase_events_through k s (event ∷ before) = phase_events_by k (session_run k s before) event ++ phase_events_through k s before

-- of the session that there is
abbrev pub events_found : Now → ℕ → List SessionEvent → Option SessionState → List PhaseEvent
events_found n session own None = []
events_found n session own (Some s) = phase_events_through (seat_at n session) s own

unfoldable pub session_phase_events : Now → Event → List PhaseEvent
session_phase_events n (Moves session) = events_found n session (session_part_of n session (Moves session)) (slice_get n.sessions session)
session_phase_events n event = []

-- what is on paper shows each session of a life so far
-- and a session that isn't there is neither live nor coming
pub record ShowsSessions (x : paper.Sessions) (opening : World) (events : List Event) : Type 0 where
  pub there : (session : ℕ) (first its : SessionState) → HasBecome opening events session first its → ShowsSession x session (sight_of opening events session) its.is_awake
  pub none : (session : ℕ) → slice_get opening.now.sessions session ≡ None → (x.live session ≡ false) × (x.comes session ≡ false)

-- As a life begins each session is awake, and its view is of the words as they stand.
abbrev pub first_seen : Option SessionState → List ℕ → paper.View
first_seen None words = record { stamp = 0; rank = 0; tail = 0 }
first_seen (Some first) words = paper_view (view_at words first.seen.phase first.seen.version)

abbrev pub is_there : Option SessionState → Bool
is_there None = false
is_there (Some first) = true

abbrev pub sessions_opened : Now → paper.Sessions
sessions_opened n = record {
  live = λ session. is_there (slice_get n.sessions session);
  view = λ session. first_seen (slice_get n.sessions session) n.words;
  comes = λ session. false;
  coming = λ session. first_seen (slice_get n.sessions session) n.words;
}

-- One event of a life is enabled as those of its session, and shows each session again.
pub record EventShown (p : Phasing) (opening : World) (events : List Event) (event : Event) : Type 0 where
  pub enabled : AreEnabled p (session_phase_events (run opening events).now event)
  pub shows : ShowsSessions (phase_run p (session_phase_events (run opening events).now event)).sessions opening (event ∷ events)

abbrev pub EventsAreShown : Type 0
EventsAreShown = (p : Phasing) (opening : World) (events : List Event) (event : Event) → IsOpenedWorld opening → ShowsWords p (run opening events).now.words → ShowsSessions p.sessions opening events → EventShown p opening events event

-- An epoch that is safe in a life may be so on paper.
abbrev pub SafeIsEnabled : Type 0
SafeIsEnabled =
    (p : Phasing) (opening : World) (start : ℕ) (events : List Event) (m : ℕ) → guard.IsOpened opening.now start → IsOpenedWorld opening → p.epoch ≡ epochs.epoch_of (run opening events).now.words → ShowsSessions p.sessions opening events
    → m ≤ epochs.safe_of (run opening events).now.words → paper.IsEnabled p (paper.IsSafe m)

-- ---- as a life begins
-- the phase word says rest in this version, and each session has seen that
pub record BeginsAtRest (n : Now) (version : Version) : Type 0 where
  pub says : phase_said (word_at n.words (shared_place one.Phase)) ≡ Says Rest version
  pub phase : (session : ℕ) (first : SessionState) → slice_get n.sessions session ≡ Some first → first.seen.phase ≡ Rest
  pub version_seen : (session : ℕ) (first : SessionState) → slice_get n.sessions session ≡ Some first → first.seen.version ≡ version

-- what is on paper then: nothing is raised
abbrev pub phasing_opened : Now → Version → Phasing
phasing_opened n version = record {
  base = 5 * version.0;
  stage = 0;
  epoch = epochs.epoch_of n.words;
  safe = epochs.safe_of n.words;
  tail = word_at n.words (shared_place one.Tail);
  raises = record { progress = 0; first = 0; pending = 0; ending = 0; end = 0; due = 0 };
  sessions = sessions_opened n;
}

-- It is sound, and shows the words.
pub record OpensSound (n : Now) (version : Version) : Type 0 where
  pub sound : paper.IsSound (phasing_opened n version)
  pub words : ShowsWords (phasing_opened n version) n.words

abbrev pub OpeningsAreSound : Type 0
OpeningsAreSound = (n : Now) (start : ℕ) (version : Version) → guard.IsOpened n start → BeginsAtRest n version → OpensSound n version

-- ---- what is on paper shows a life: its words, what is safe, and its sessions
pub record ShowsLife (p : Phasing) (opening : World) (events : List Event) : Type 0 where
  pub words : ShowsWords p (run opening events).now.words
  pub safe : p.safe ≡ epochs.safe_of (run opening events).now.words
  pub sessions : ShowsSessions p.sessions opening events

-- an event that leaves the phase word as it is, from these words to those: its session's, then raises, reservations, and what is safe then
abbrev pub word_events : List ℕ → List ℕ → List PhaseEvent → List PhaseEvent
word_events words after events =
    paper.IsSafe (epochs.safe_of after) ∷ (replicate (word_at after (shared_place one.Tail) - word_at words (shared_place one.Tail)) paper.Reserves ++ (replicate (epochs.epoch_of after - epochs.epoch_of words) paper.RaisesElse ++ events))

abbrev pub quiet_events : World → List Event → Event → List PhaseEvent
quiet_events opening events event = word_events (run opening events).now.words (run opening (event ∷ events)).now.words (session_phase_events (run opening events).now event)

-- Those are enabled, and show the life again.
pub record LifeShown (p : Phasing) (opening : World) (events : List Event) (event : Event) : Type 0 where
  pub enabled : AreEnabled p (quiet_events opening events event)
  pub shows : ShowsLife (phase_run p (quiet_events opening events event)) opening (event ∷ events)

abbrev pub QuietEventsAreShown : Type 0
QuietEventsAreShown =
    (p : Phasing) (opening : World) (start : ℕ) (events : List Event) (event : Event) → guard.IsOpened opening.now start → IsOpenedWorld opening → ShowsLife p opening events
    → word_at (run opening (event ∷ events)).now.words (shared_place one.Phase) ≡ word_at (run opening events).now.words (shared_place one.Phase) → LifeShown p opening events event
