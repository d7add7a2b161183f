-- What a session saw of the store as it loaded the phase: at its last refresh or wake that is complete, and at the one under way.
use Rattle.std.specs.Prelude.{◌≡◌, ◌⊎◌, ⊤, ℕ, Bool, true, false, List, [], ◌∷◌, Option, Some, None, slice_get}
use Rattle.fkv_base.specs.declared.numbers.Version.{Version}
use Rattle.fkv_base.specs.declared.phases.Phase.{Phase}
use Rattle.fkv_base.specs.declared.phases.Phase.TheVariants.{Rest}
use Rattle.fkv_words.specs.declared.phase_words.PhaseSaid.{PhaseSaid}
use Rattle.fkv_words.specs.declared.phase_words.PhaseSaid.TheVariants.{Says, Spoiled}
use Rattle.fkv_words.specs.PhaseWords.{phase_said}
use Rattle.fkv_plane.specs.declared.places.SharedWord.TheVariants as one
use Rattle.fkv_plane.specs.Asked.{word_at}
use Rattle.fkv_plane.specs.Places.{shared_place}
use Rattle.fkv_epoch.specs.declared.refreshing.Refreshing.{Refreshing}
use Rattle.fkv_epoch.specs.declared.refreshing.Refreshing.TheVariants as refresh
use Rattle.fkv_epoch.specs.declared.protecting.Protecting.{Protecting}
use Rattle.fkv_epoch.specs.declared.protecting.Protecting.TheVariants as protect
use Rattle.law_refine.specs.Below.fkv_ops.Seen.{Seen}
use Rattle.law_refine.specs.Below.fkv_session.Catching.{Catching}
use Rattle.law_refine.specs.Below.fkv_session.Catching.TheVariants.{Refreshes, Protects}
use Rattle.law_refine.specs.Below.fkv_session.Sitting.{Sitting}
use Rattle.law_refine.specs.Below.fkv_session.Sitting.TheVariants.{CatchesUp}
use Rattle.law_refine.specs.Below.fkv_session.CatchingUp.{CatchState}
use Rattle.law_refine.specs.Below.fkv_session.Sessions.{SessionState, Seat}
use Rattle.law_refine.specs.Below.fkv_session.SessionRun.{SessionEvent, Replies, session_happens, session_run}
use Rattle.law_refine.specs.Below.fkv_world.OwnEvents.{session_part_of, session_events}
use Rattle.law_refine.specs.Below.fkv_world.Runs.{World, run}
use Rattle.law_refine.specs.Below.fkv_world.World.{Event, Now, seat_at}
use Rattle.law_commit.specs.Ranks.{rank}

-- the epoch and the tail as they stood, and what the phase word said
pub record View : Type 0 where
  pub stamp : ℕ
  pub phase : Phase
  pub version : Version
  pub tail : ℕ

abbrev pub rank_of : View → ℕ
rank_of its = rank its.phase its.version.0

-- the view that is complete, and the one that is coming once the phase of it is loaded
pub record Sight : Type 0 where
  pub view : View
  pub coming : Option View

-- a phase and a version, seen where the words are these
abbrev pub view_at : List ℕ → Phase → Version → View
view_at words phase version = record { stamp = word_at words (shared_place one.Epoch); phase = phase; version = version; tail = word_at words (shared_place one.Tail) }

-- a word that says no phase leaves what was seen before
abbrev pub view_said : List ℕ → View → PhaseSaid → View
view_said words before Spoiled = view_at words before.phase before.version
view_said words before (Says phase version) = view_at words phase version

-- the phase is what is loaded next: by a refresh, by a wake, and by a session that catches up
abbrev pub is_at_phase : Refreshing → Bool
is_at_phase (refresh.LoadsPhase epoch) = true
is_at_phase step = false

abbrev pub wakes_at_phase : Protecting → Bool
wakes_at_phase protect.LoadsPhase = true
wakes_at_phase step = false

abbrev pub loads_phase : CatchState → Catching → Bool
loads_phase c Refreshes = is_at_phase c.refreshing
loads_phase c Protects = wakes_at_phase c.protecting
loads_phase c step = false

-- the reply to that load
abbrev pub with_loaded : List ℕ → Bool → ℕ → Sight → Sight
with_loaded words true reply its = record its { coming = Some (view_said words its.view (phase_said reply)) }
with_loaded words false reply its = its

-- once the session catches up no more, what was coming is its view
abbrev pub completed : Option View → Sight → Sight
completed None its = its
completed (Some view) its = record { view = view; coming = None }

abbrev pub sight_left : Sitting → Sight → Sight
sight_left (CatchesUp cause) its = its
sight_left step its = completed its.coming its

-- a reply moves the sight of a session that catches up
abbrev pub sight_moved : List ℕ → SessionState → Sitting → ℕ → Sitting → Sight → Sight
sight_moved words s (CatchesUp cause) reply after its = sight_left after (with_loaded words (loads_phase s.catching s.catching.step) reply its)
sight_moved words s step reply after its = its

-- one event of its own, where the words are these
abbrev pub sight_by : List ℕ → Seat → SessionState → SessionEvent → Sight → Sight
sight_by words k s (Replies reply) its = sight_moved words s s.step reply (session_happens k s (Replies reply)).step its
sight_by words k s event its = its

-- the events of its own that an event of the world is
unfoldable pub sight_through : List ℕ → Seat → SessionState → List SessionEvent → Sight → Sight
sight_through words k s [] its = its
sight_through words k s (event ∷ before) its = sight_by words k (session_run k s before) event (sight_through words k s before its)

-- as a store opens a session has seen what it goes by, with the epoch and the tail that stand then
abbrev pub sight_opened : Now → SessionState → Sight
sight_opened n first = record { view = view_at n.words first.seen.phase first.seen.version; coming = None }

-- in a life, of a session that was this one at first
unfoldable pub sight_in : World → ℕ → SessionState → List Event → Sight
sight_in opening session first [] = sight_opened opening.now first
sight_in opening session first (event ∷ before) =
    sight_through (run opening before).now.words (seat_at opening.now session) (session_run (seat_at opening.now session) first (session_events opening session before))
    (session_part_of (run opening before).now session event) (sight_in opening session first before)

-- a session that isn't there has seen nothing
abbrev pub no_sight : Sight
no_sight = record { view = view_at [] Rest (record { 0 = 0 }); coming = None }

abbrev pub sight_found : World → List Event → ℕ → Option SessionState → Sight
sight_found opening events session None = no_sight
sight_found opening events session (Some first) = sight_in opening session first events

abbrev pub sight_of : World → List Event → ℕ → Sight
sight_of opening events session = sight_found opening events session (slice_get opening.now.sessions session)

-- a session goes by the phase and the version of a view
pub record IsSeenAs (its : View) (seen : Seen) : Type 0 where
  pub phase : seen.phase ≡ its.phase
  pub version : seen.version ≡ its.version

-- what is coming is what is taken up
abbrev pub IsTakenFrom : Option View → Seen → Type 0
IsTakenFrom None seen = ⊥
IsTakenFrom (Some its) seen = IsSeenAs its seen

-- so it is where a session that catches up has loaded all
abbrev pub TakesUp : Sight → CatchState → Catching → Type 0
TakesUp its c Refreshes = ⊤
TakesUp its c Protects = ⊤
TakesUp its c step = IsTakenFrom its.coming c.seen

-- nothing is coming to one that doesn't catch up
abbrev pub IsComing : Sight → SessionState → Sitting → Type 0
IsComing its s (CatchesUp cause) = TakesUp its s.catching s.catching.step
IsComing its s step = its.coming ≡ None

-- a view of the epoch and the tail as these words have them
pub record IsStamped (words : List ℕ) (its : View) : Type 0 where
  pub stamp : its.stamp ≡ word_at words (shared_place one.Epoch)
  pub tail : its.tail ≡ word_at words (shared_place one.Tail)

-- what is coming was coming before, or has come with the epoch and the tail of these words
abbrev pub ComesFrom : List ℕ → Option View → Option View → Type 0
ComesFrom words before None = ⊤
ComesFrom words before (Some its) = (before ≡ Some its) ⊎ IsStamped words its

-- A sight and the one behind an event, where the words stood so before it: no view is made up, and none gets another epoch or tail later.
pub record IsSightAfter (words : List ℕ) (before after : Sight) : Type 0 where
  pub view : (after.view ≡ before.view) ⊎ ((before.coming ≡ Some after.view) ⊎ IsStamped words after.view)
  pub coming : ComesFrom words before.coming after.coming
