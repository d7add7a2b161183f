-- Over a life the phases on paper show each session.
use Rattle.std.proofs.Common.{◌≡◌, ◌≢◌, ℕ, ◌∙◌, List, [], ◌∷◌, ◌++◌, refl, arith, sym, ap, subst, Bool, true, false}
use Rattle.std.specs.Prelude.{Option, Some, None, if◌then◌else◌, not, ◌==◌, slice_get}
use Rattle.std.proofs.lemmas.Bool.Decides.{nat_tests}
use Rattle.fkv_base.specs.declared.faults.Fault.{Fault}
use Rattle.fkv_base.specs.declared.faults.Fault.TheVariants as fault
use Rattle.fkv_map.specs.declared.operations.Call.{Call}
use Rattle.fkv_map.specs.declared.operations.Call.TheVariants as call
use Rattle.fkv_map.specs.declared.operations.Op.{Op}
use Rattle.fkv_plane.specs.declared.actions.Action.{Action}
use Rattle.fkv_plane.specs.declared.asks.Ask.{Ask}
use Rattle.fkv_plane.specs.declared.asks.Ask.TheVariants.{Done}
use Rattle.fkv_plane.specs.declared.places.SharedWord.TheVariants as one
use Rattle.fkv_plane.specs.Asked.{word_at}
use Rattle.fkv_plane.specs.Places.{shared_place}
use Rattle.fkv_epoch.specs.EpochWorld as epochs
use Rattle.fkv_epoch.specs.EpochWorld.{epoch_of}
use Rattle.fkv_epoch.proofs.Shown.{some_same}
use Rattle.law_refine.specs.Below.fkv_pending.PendingRequest.{PendingRequest}
use Rattle.law_refine.specs.Below.fkv_session.Told.{Told}
use Rattle.law_refine.specs.Below.fkv_session.Sitting.{Sitting}
use Rattle.law_refine.specs.Below.fkv_session.Sitting.TheVariants.{Idle, Attempts, CatchesUp, ClearsMail, Polls, StoresOwing, Turns, StoresCut, Leaves, LoadsDurable}
use Rattle.law_refine.specs.Below.fkv_session.OwnTurns.{own_turn_ask, own_turn_given}
use Rattle.law_refine.specs.Below.fkv_session.Sessions.{IsOpened, Seat, SessionState, answers, answers_after_turn, asks_after, attempts, call_begun, is_busy, is_word_ask, op_begun, poll_begun, poll_call, polls_at, polls_request, refresh_call, refusal_of, refuses, session_ask, session_next, sitting_given, sleep_call, turn_ledto, wake_call}
use Rattle.law_refine.specs.Below.fkv_session.SessionRun.{Begins, Gets, Replies, SessionEvent, begins, session_happens, session_run}
use Rattle.law_refine.specs.Below.fkv_world.Opened.{HasBecome, IsOpenedWorld}
use Rattle.law_refine.specs.Below.fkv_world.OwnEvents.{session_events, session_part, session_part_found, session_part_of}
use Rattle.law_refine.specs.Below.fkv_world.Runs.{World, run}
use Rattle.law_refine.specs.Below.fkv_world.World as world
use Rattle.law_refine.specs.Below.fkv_world.World.{Calls, Commits, Crashes, Event, KeeperMoves, Moves, Now, near, seat_at}
use Rattle.law_refine.proofs.Below.fkv_world.Shown.{same_seat, session_runs, session_runs_on}
use Rattle.law_refine.proofs.Below.law_world.OfRuns.Nothing.{none_ever}
use Rattle.law_refine.proofs.Below.law_world.OfSessions.OwnRun.{here}
use Rattle.law_paper.specs.Phases as paper
use Rattle.law_paper.specs.Phases.{AreEnabled, IsEnabled, PhaseEvent, Phasing, phase_after, phase_run}
use Rattle.law_commit.specs.Phases.Projected.{EventShown, EventsAreShown, SameSession, ShowsSession, ShowsSessions, ShowsWords, Shown, completed_events, events_found, first_seen, is_there, left_events, loaded_events, loads_now, phase_events_by, phase_events_through, reply_events, session_phase_events, sessions_opened}
use Rattle.law_commit.specs.Phases.Stamped.{SessionStamped, SittingStamped, force_by, loads_by}
use Rattle.law_commit.specs.Views.{Sight, sight_by, sight_found, sight_in, sight_of, sight_opened, sight_through}
use Rattle.law_commit.proofs.OfPhases.Awake.{SitsSo, happens_so, run_so}
use Rattle.law_commit.proofs.OfPhases.RepliesShown.{none_shown, replies_shown}
use Rattle.law_commit.proofs.OfPhases.SessionStamps.{begins_stamped, given_stamped, next_stamped, sitting_driven}
use Rattle.law_commit.proofs.Telling.{TellAll, Tells, TellsBy, found_all}

-- ---- a call that begins and an action leave it awake, or asleep
either_same : (c awake : Bool) (a b : SessionState) → a.is_awake ≡ awake → b.is_awake ≡ awake → (if c then a else b).is_awake ≡ awake
either_same true awake a b one other = one
either_same false awake a b one other = other

turn_same : (s : SessionState) (its : Told) → (answers_after_turn s its).is_awake ≡ s.is_awake
turn_same s its = either_same s.wants_turn s.is_awake _ (answers s its) refl refl

found_same : (k : Seat) (s : SessionState) (i : ℕ) (found : Option PendingRequest) → (polls_request k s i found).is_awake ≡ s.is_awake
found_same k s i None = turn_same s _
found_same k s i (Some pending) = refl

polls_same : (k : Seat) (s : SessionState) (i : ℕ) → (polls_at k s i).is_awake ≡ s.is_awake
unfolding polls_at
polls_same k s i = found_same k s i (slice_get s.requests i)

op_same : (k : Seat) (s : SessionState) (op : Op) (why : Option Fault) → (op_begun k s op why).is_awake ≡ s.is_awake
unfolding op_begun attempts
op_same k s op (Some why) = refl
op_same k s op None = refl

call_same : (k : Seat) (s : SessionState) (its : Call) → (call_begun k s its).is_awake ≡ s.is_awake
unfolding refresh_call poll_call sleep_call wake_call
call_same k s (call.Op op) = op_same k s op (refusal_of s op)
call_same k s call.Refresh = either_same s.is_awake s.is_awake _ (refuses s fault.Asleep) refl refl
call_same k s call.Poll =
    either_same s.is_awake s.is_awake (poll_begun k (record s { finished = [] })) (refuses s fault.Asleep) (either_same s.is_orphaned s.is_awake _ (polls_at k (record s { finished = [] }) 0) refl (polls_same k (record s { finished = [] }) 0)) refl
call_same k s call.Sleep = either_same (not s.is_awake) s.is_awake (refuses s fault.Asleep) _ refl (either_same _ s.is_awake (record s { step = StoresCut }) (refuses s fault.PendingLeft) refl refl)
call_same k s call.Wake = either_same s.is_awake s.is_awake (refuses s fault.Awake) _ refl refl
call_same k s call.Durable = refl

begins_same : (k : Seat) (s : SessionState) (its : Call) (busy : Bool) → (begins k s busy its).is_awake ≡ s.is_awake
begins_same k s its true = refl
begins_same k s its false = call_same k (record s { asks = 0; effect = None; wants_turn = false }) its

turned_same : (s : SessionState) (its : Told) (ask : Ask (Unit {0})) → (turn_ledto s its ask).is_awake ≡ s.is_awake
unfolding turn_ledto
turned_same s its (Done through) = refl
turned_same s its ask = refl

given_same : (k : Seat) (s : SessionState) (step : Sitting) (action : Action) → (sitting_given k s step action).is_awake ≡ s.is_awake
unfolding sitting_given
given_same k s (Turns its) action = turned_same (record s { own_turn = own_turn_given s.own_turn action }) its (own_turn_ask k.shape (own_turn_given s.own_turn action))
given_same k s step action = refl

-- ---- one list of events behind another
pub runs_on : (p : Phasing) (later before : List PhaseEvent) → phase_run p (later ++ before) ≡ phase_run (phase_run p before) later
unfolding phase_run
runs_on p [] before = refl
runs_on p (event ∷ later) before = ap (λ (q : Phasing). phase_after q event) (runs_on p later before)

pub enabled_on : (p : Phasing) (later before : List PhaseEvent) → AreEnabled (phase_run p before) later → AreEnabled p before → AreEnabled p (later ++ before)
unfolding AreEnabled phase_run
enabled_on p [] before later_enabled enabled = enabled
enabled_on p (event ∷ later) before later_enabled enabled = (enabled_on p later before later_enabled.0 enabled, subst (λ (q : Phasing). IsEnabled q event) (sym (runs_on p later before)) later_enabled.1)

same_on : (x y z : paper.Sessions) (session : ℕ) → SameSession x y session → SameSession y z session → SameSession x z session
same_on x y z session one other = record { live = one.live ∙ other.live; view = one.view ∙ other.view; comes = one.comes ∙ other.comes; coming = one.coming ∙ other.coming }

shown_on : (p : Phasing) (session : ℕ) (later before : List PhaseEvent) (was its : Sight) (awake after : Bool) → Shown (phase_run p before) session later its after → Shown p session before was awake → Shown p session (later ++ before) its after
shown_on p session later before was its awake after one past =
    let same = runs_on p later before in
    record {
      enabled = enabled_on p later before one.enabled past.enabled;
      shows = subst (λ (q : Phasing). ShowsSession q.sessions session its after) (sym same) one.shows;
      others = λ other apart. subst (λ (q : Phasing). SameSession q.sessions p.sessions other) (sym same) (same_on _ (phase_run p before).sessions p.sessions other (one.others other apart) (past.others other apart));
    }

-- ---- the words stay as they are
pub record SameWords (q p : Phasing) : Type 0 where
  pub epoch : q.epoch ≡ p.epoch
  pub tail : q.tail ≡ p.tail
  pub rank : paper.rank_of q ≡ paper.rank_of p
  pub safe : q.safe ≡ p.safe
  pub base : q.base ≡ p.base
  pub stage : q.stage ≡ p.stage
  pub raises : q.raises ≡ p.raises

words_on : (q p : Phasing) (words : List ℕ) → SameWords q p → ShowsWords p words → ShowsWords q words
words_on q p words same holds = record { epoch = same.epoch ∙ holds.epoch; tail = same.tail ∙ holds.tail; phase = holds.phase; version = holds.version; says = holds.says; rank = same.rank ∙ holds.rank }

left_words : (p : Phasing) (session : ℕ) (before after : Bool) (events : List PhaseEvent) → SameWords (phase_run p events) p → SameWords (phase_run p (left_events session before after ++ events)) p
unfolding phase_run phase_after
left_words p session true false events same = record { epoch = same.epoch; tail = same.tail; rank = same.rank; safe = same.safe; base = same.base; stage = same.stage; raises = same.raises }
left_words p session true true events same = same
left_words p session false true events same = same
left_words p session false false events same = same

loaded_words : (p : Phasing) (session : ℕ) (loads : Bool) → SameWords (phase_run p (loaded_events session loads)) p
unfolding phase_run phase_after
loaded_words p session true = record { epoch = refl; tail = refl; rank = refl; safe = refl; base = refl; stage = refl; raises = refl }
loaded_words p session false = record { epoch = refl; tail = refl; rank = refl; safe = refl; base = refl; stage = refl; raises = refl }

none_words : (p : Phasing) (events : List PhaseEvent) → SameWords (phase_run p events) p → SameWords (phase_run p ([] ++ events)) p
none_words p events same = same

one_words : (p : Phasing) (session : ℕ) (events : List PhaseEvent) → SameWords (phase_run p events) p → SameWords (phase_run p (paper.Completes session ∷ events)) p
unfolding phase_run phase_after
one_words p session events same = record { epoch = same.epoch; tail = same.tail; rank = same.rank; safe = same.safe; base = same.base; stage = same.stage; raises = same.raises }

caught_words : (p : Phasing) (session : ℕ) (cause : _) (after : Sitting) (events : List PhaseEvent) → SameWords (phase_run p events) p → SameWords (phase_run p (completed_events session (CatchesUp cause) after ++ events)) p
caught_words p session cause (CatchesUp other) events same = same
caught_words p session cause (Idle told) events same = one_words p session events same
caught_words p session cause (Attempts has_shifted) events same = one_words p session events same
caught_words p session cause ClearsMail events same = one_words p session events same
caught_words p session cause (Polls i) events same = one_words p session events same
caught_words p session cause (StoresOwing i) events same = one_words p session events same
caught_words p session cause (Turns told) events same = one_words p session events same
caught_words p session cause StoresCut events same = one_words p session events same
caught_words p session cause Leaves events same = one_words p session events same
caught_words p session cause LoadsDurable events same = one_words p session events same

completed_words : (p : Phasing) (session : ℕ) (step after : Sitting) (events : List PhaseEvent) → SameWords (phase_run p events) p → SameWords (phase_run p (completed_events session step after ++ events)) p
completed_words p session (CatchesUp cause) after events same = caught_words p session cause after events same
completed_words p session (Idle told) after events same = same
completed_words p session (Attempts has_shifted) after events same = same
completed_words p session ClearsMail after events same = same
completed_words p session (Polls i) after events same = same
completed_words p session (StoresOwing i) after events same = same
completed_words p session (Turns told) after events same = same
completed_words p session StoresCut after events same = same
completed_words p session Leaves after events same = same
completed_words p session LoadsDurable after events same = same

reply_words : (p : Phasing) (session : ℕ) (s after : SessionState) → SameWords (phase_run p (reply_events session s after)) p
reply_words p session s after =
    left_words p session s.is_awake after.is_awake _ (completed_words p session s.step after.step (loaded_events session (loads_now s s.step)) (loaded_words p session (loads_now s s.step)))

-- ---- a session's own stamps, with some loads
record Stampedly (its : Sight) (s : SessionState) : Type 0 where
  l : epochs.Loads
  f : epochs.Loads
  stamped : SessionStamped its l f s

happens_stampedly : (words : List ℕ) (its : Sight) (k : Seat) (s : SessionState) (event : SessionEvent) → Stampedly its s → Stampedly (sight_by words k s event its) (session_happens k s event)
unfolding session_happens
happens_stampedly words its k s (Begins call) so = record { l = so.l; f = so.f; stamped = begins_stamped so.l so.f its k s call (is_busy s.step) refl so.stamped }
happens_stampedly words its k s (Replies reply) so = record {
  l = loads_by so.l (sitting_driven s s.step) (epoch_of words);
  f = force_by so.l so.f (sitting_driven s s.step) (epoch_of words);
  stamped = next_stamped words its so.l so.f k s (asks_after s.asks (is_word_ask (session_ask k s))) s.step reply refl so.stamped;
}
happens_stampedly words its k s (Gets action) so = record { l = so.l; f = so.f; stamped = given_stamped so.l so.f its k s s.step action refl so.stamped }

through_stampedly : (words : List ℕ) (its : Sight) (k : Seat) (s : SessionState) (own : List SessionEvent) → Stampedly its s → Stampedly (sight_through words k s own its) (session_run k s own)
unfolding sight_through session_run
through_stampedly words its k s [] so = so
through_stampedly words its k s (event ∷ before) so = happens_stampedly words (sight_through words k s before its) k (session_run k s before) event (through_stampedly words its k s before so)

opened_stampedly : (n : Now) (first : SessionState) (step : Sitting) → first.step ≡ step → is_busy step ≡ false → Stampedly (sight_opened n first) first
opened_stampedly n first (Idle told) at idle =
    let l : epochs.Loads = record { phase = epoch_of n.words; read_only = 0; head = 0 } in
    record { l = l; f = l; stamped = subst (λ (x : Sitting). SittingStamped (sight_opened n first) l l first x) (sym at) (refl, refl) }
opened_stampedly n first step at idle = cc

-- the session of a life
abbrev own_run : World → List Event → ℕ → SessionState → SessionState
own_run opening events session first = session_run (seat_at opening.now session) first (session_events opening session events)

life_stampedly : (opening : World) (session : ℕ) (first : SessionState) (events : List Event) → IsOpened first → Stampedly (sight_in opening session first events) (own_run opening events session first)
unfolding sight_in session_events session_run
life_stampedly opening session first [] opened = opened_stampedly opening.now first first.step refl opened.none_in_hand
life_stampedly opening session first (event ∷ before) opened =
    let k : Seat = seat_at opening.now session in
    let part : List SessionEvent = session_part_of (run opening before).now session event in
    subst (λ (x : SessionState). Stampedly (sight_in opening session first (event ∷ before)) x) (sym (session_runs_on k first part (session_events opening session before)))
    (through_stampedly (run opening before).now.words (sight_in opening session first before) k (own_run opening before session first) part (life_stampedly opening session first before opened))

-- ---- a list of a session's events
tells_right : (words : List ℕ) (s : SessionState) (step : Sitting) (reply : ℕ) → Tells words s step reply → loads_now s step ≡ true → reply ≡ word_at words (shared_place one.Phase)
tells_right words s (CatchesUp cause) reply tells loads = tells loads
tells_right words s (Idle told) reply tells loads = cc
tells_right words s (Attempts has_shifted) reply tells loads = cc
tells_right words s ClearsMail reply tells loads = cc
tells_right words s (Polls i) reply tells loads = cc
tells_right words s (StoresOwing i) reply tells loads = cc
tells_right words s (Turns told) reply tells loads = cc
tells_right words s StoresCut reply tells loads = cc
tells_right words s Leaves reply tells loads = cc
tells_right words s LoadsDurable reply tells loads = cc

record Went (p : Phasing) (words : List ℕ) (its : Sight) (k : Seat) (s : SessionState) (own : List SessionEvent) : Type 0 where
  shown : Shown p k.number (phase_events_through k s own) (sight_through words k s own its) (session_run k s own).is_awake
  words_stay : SameWords (phase_run p (phase_events_through k s own)) p
  sits : SitsSo (session_run k s own)

same_words : (p q r : Phasing) → SameWords r q → SameWords q p → SameWords r p
same_words p q r one other = record { epoch = one.epoch ∙ other.epoch; tail = one.tail ∙ other.tail; rank = one.rank ∙ other.rank; safe = one.safe ∙ other.safe; base = one.base ∙ other.base; stage = one.stage ∙ other.stage; raises = one.raises ∙ other.raises }

module _ (p : Phasing) (words : List ℕ) (holds : ShowsWords p words) (its : Sight) (k : Seat) (s : SessionState) (so : Stampedly its s) (sits : SitsSo s) (shows : ShowsSession p.sessions k.number its s.is_awake) where
  none_went : Went p words its k s []
  unfolding sight_through session_run phase_events_through phase_run
  none_went = record { shown = none_shown p k.number its s.is_awake shows; words_stay = record { epoch = refl; tail = refl; rank = refl; safe = refl; base = refl; stage = refl; raises = refl }; sits = sits }

  one_went : (event : SessionEvent) (own : List SessionEvent) → Went p words its k s own → TellsBy words (session_run k s own) event → Went p words its k s (event ∷ own)
  unfolding sight_through session_run phase_events_through session_happens
  one_went (Replies reply) own past tells =
      let a : SessionState = session_run k s own in
      let before : List PhaseEvent = phase_events_through k s own in
      let q : Phasing = phase_run p before in
      let seen : Sight = sight_through words k s own its in
      let stamps = through_stampedly words its k s own so in
      let later : List PhaseEvent = reply_events k.number a (session_happens k a (Replies reply)) in
      let one = replies_shown q words seen stamps.l stamps.f k a reply stamps.stamped past.sits (words_on q p words past.words_stay holds) (tells_right words a a.step reply tells) past.shown.shows in
      record {
        shown = shown_on p k.number later before seen _ a.is_awake _ one past.shown;
        words_stay = subst (λ (r : Phasing). SameWords r p) (sym (runs_on p later before)) (same_words p q (phase_run q later) (reply_words q k.number a (session_happens k a (Replies reply))) past.words_stay);
        sits = happens_so k a (Replies reply) past.sits;
      }
  one_went (Begins call) own past tells = record {
    shown = subst (λ (awake : Bool). Shown p k.number (phase_events_through k s own) (sight_through words k s own its) awake) (sym (begins_same k (session_run k s own) call (is_busy (session_run k s own).step))) past.shown;
    words_stay = past.words_stay;
    sits = happens_so k (session_run k s own) (Begins call) past.sits;
  }
  one_went (Gets action) own past tells = record {
    shown = subst (λ (awake : Bool). Shown p k.number (phase_events_through k s own) (sight_through words k s own its) awake) (sym (given_same k (session_run k s own) (session_run k s own).step action)) past.shown;
    words_stay = past.words_stay;
    sits = happens_so k (session_run k s own) (Gets action) past.sits;
  }

  went : (own : List SessionEvent) → TellAll words k s own → Went p words its k s own
  unfolding TellAll
  went [] tells = none_went
  went (event ∷ before) tells = one_went event before (went before tells.1) tells.0

-- ---- one event of a life
same_shows : (x y : paper.Sessions) (session : ℕ) (its : Sight) (awake : Bool) → SameSession x y session → ShowsSession y session its awake → ShowsSession x session its awake
same_shows x y session its awake same shows = record { live = same.live ∙ shows.live; view = λ is. same.view ∙ shows.view is; comes = same.comes ∙ shows.comes; coming = λ view e. same.coming ∙ shows.coming view e }

found_so : (opening : World) (events : List Event) (session : ℕ) (first : SessionState) → slice_get opening.now.sessions session ≡ Some first → sight_of opening events session ≡ sight_in opening session first events
found_so opening events session first found = ap (sight_found opening events session) found

-- an event of another session is none of its own
other_part : (n : Now) (i j : ℕ) (found : Option SessionState) → (j == i) ≡ false → session_part_found n i (Moves j) found ≡ []
other_part n i j None other = refl
other_part n i j (Some s) other = rw other refl

crashed_part : (n : Now) (i j : ℕ) (crashed : Bool) → (j == i) ≡ false → (if crashed then [] else session_part_found n i (Moves j) (slice_get n.sessions i)) ≡ []
crashed_part n i j true other = refl
crashed_part n i j false other = other_part n i j (slice_get n.sessions i) other

-- one that moves no session is none of these events
abbrev MovesNone : Event → Type 0
MovesNone (Moves session) = ⊥
MovesNone event = Unit {0}

begun_none : (k : Seat) (s : SessionState) (n : Now) (t : SessionState) (i j : ℕ) (call : Call) (mine : Bool) → phase_events_through k s (if mine then session_part (seat_at n i) (near n t) (Calls j call) else []) ≡ []
unfolding phase_events_through session_part
begun_none k s n t i j call true = refl
begun_none k s n t i j call false = refl

found_none : (k : Seat) (s : SessionState) (n : Now) (i : ℕ) (event : Event) (found : Option SessionState) → MovesNone event → phase_events_through k s (session_part_found n i event found) ≡ []
unfolding phase_events_through
found_none k s n i event None none = refl
found_none k s n i (Calls j call) (Some t) none = begun_none k s n t i j call (j == i)
found_none k s n i (Moves j) (Some t) none = absurd none
found_none k s n i (Commits kind) (Some t) none = refl
found_none k s n i world.Turns (Some t) none = refl
found_none k s n i (KeeperMoves granted done) (Some t) none = refl
found_none k s n i Crashes (Some t) none = refl

part_none : (k : Seat) (s : SessionState) (n : Now) (i : ℕ) (event : Event) (crashed : Bool) → MovesNone event → phase_events_through k s (if crashed then [] else session_part_found n i event (slice_get n.sessions i)) ≡ []
unfolding phase_events_through
part_none k s n i event true none = refl
part_none k s n i event false none = found_none k s n i event (slice_get n.sessions i) none

event_none : (n : Now) (event : Event) → MovesNone event → session_phase_events n event ≡ []
unfolding session_phase_events
event_none n (Calls j call) none = refl
event_none n (Moves j) none = absurd none
event_none n (Commits kind) none = refl
event_none n world.Turns none = refl
event_none n (KeeperMoves granted done) none = refl
event_none n Crashes none = refl

no_events : (p : Phasing) → phase_run p [] ≡ p
unfolding phase_run
no_events p = refl

-- a session that isn't there
abbrev IsNone : paper.Sessions → ℕ → Type 0
IsNone x session = (x.live session ≡ false) × (x.comes session ≡ false)

none_enabled : (p : Phasing) → AreEnabled p []
unfolding AreEnabled
none_enabled p = tt

module _ (p : Phasing) (opening : World) (events : List Event) (event : Event) (opened : IsOpenedWorld opening) (holds : ShowsWords p (run opening events).now.words) (shows : ShowsSessions p.sessions opening events) where
  abbrev n : Now
  n = (run opening events).now

  abbrev part : ℕ → List SessionEvent
  part i = session_part_of n i event

  abbrev seat : ℕ → Seat
  seat i = seat_at opening.now i

  session_went : (i : ℕ) (first : SessionState) → slice_get opening.now.sessions i ≡ Some first → Went p n.words (sight_in opening i first events) (seat i) (own_run opening events i first) (part i)
  session_went i first was =
      let s : SessionState = own_run opening events i first in
      let is = opened.sessions i first was in
      let there = session_runs opening i first events was in
      let now_shows = shows.there i first s (record { opened = opened; was = was; is_now = there }) in
      let own_shows = subst (λ (x : Sight). ShowsSession p.sessions i x s.is_awake) (found_so opening events i first was) now_shows in
      went p n.words holds (sight_in opening i first events) (seat i) s (life_stampedly opening i first events is) (run_so (seat i) first (session_events opening i events) is) own_shows (part i)
      (found_all n (seat i) s i event (slice_get n.sessions i) there (same_seat opening events i))

  -- what the session is, and what it has seen
  become : (i : ℕ) (first its : SessionState) (x : paper.Sessions) → HasBecome opening (event ∷ events) i first its
      → ShowsSession x i (sight_through n.words (seat i) (own_run opening events i first) (part i) (sight_in opening i first events)) (session_run (seat i) (own_run opening events i first) (part i)).is_awake
      → ShowsSession x i (sight_of opening (event ∷ events) i) its.is_awake
  unfolding sight_in session_events
  become i first its x became shown =
      let same = here opening (event ∷ events) i first its became ∙ session_runs_on (seat i) first (part i) (session_events opening i events) in
      subst (λ (y : Sight). ShowsSession x i y its.is_awake) (sym (found_so opening (event ∷ events) i first became.was))
      (subst (λ (s : SessionState). ShowsSession x i (sight_in opening i first (event ∷ events)) s.is_awake) (sym same) shown)

  -- where the events are those of the session
  by_own : (i : ℕ) (first its : SessionState) (own : List PhaseEvent) → HasBecome opening (event ∷ events) i first its → phase_events_through (seat i) (own_run opening events i first) (part i) ≡ own
      → ShowsSession (phase_run p own).sessions i (sight_of opening (event ∷ events) i) its.is_awake
  by_own i first its own became same =
      subst (λ (own : List PhaseEvent). ShowsSession (phase_run p own).sessions i (sight_of opening (event ∷ events) i) its.is_awake) same
      (become i first its (phase_run p (phase_events_through (seat i) (own_run opening events i first) (part i))).sessions became (session_went i first became.was).shown.shows)

  quiet_shown : MovesNone event → EventShown p opening events event
  quiet_shown none = record {
    enabled = subst (λ (own : List PhaseEvent). AreEnabled p own) (sym (event_none n event none)) (none_enabled p);
    shows = record {
      there = λ i first its became.
          subst (λ (own : List PhaseEvent). ShowsSession (phase_run p own).sessions i (sight_of opening (event ∷ events) i) its.is_awake) (sym (event_none n event none))
          (by_own i first its [] became (part_none (seat i) (own_run opening events i first) n i event n.crashed none));
      none = λ i gone. subst (λ (own : List PhaseEvent). IsNone (phase_run p own).sessions i) (sym (event_none n event none)) (subst (λ (q : Phasing). IsNone q.sessions i) (sym (no_events p)) (shows.none i gone));
    };
  }

through_none : (k : Seat) (s : SessionState) → phase_events_through k s [] ≡ []
unfolding phase_events_through
through_none k s = refl

same_number : (i j : ℕ) → (j == i) ≡ true → j ≡ i
same_number i j e = grind (arith, nat_tests, e)

other_number : (i j : ℕ) → (j == i) ≡ false → i ≢ j
other_number i j e = λ same. absurd (grind (arith, nat_tests, e, same))

first_same : (found : Option SessionState) (a b : SessionState) → found ≡ Some a → found ≡ Some b → a ≡ b
first_same found a b one other = some_same a b (sym one ∙ other)

not_there : {A : Type 0} (found : Option SessionState) (a : SessionState) → found ≡ None → found ≡ Some a → A
not_there found a none there = let clash : None ≡ Some a = sym none ∙ there in cc

-- a session's own step
module _ (p : Phasing) (opening : World) (events : List Event) (j : ℕ) (opened : IsOpenedWorld opening) (holds : ShowsWords p (run opening events).now.words) (shows : ShowsSessions p.sessions opening events) where
  abbrev here_now : Now
  here_now = (run opening events).now

  abbrev j_part : List SessionEvent
  j_part = session_part_of here_now j (Moves j)

  mine_events : (first : SessionState) → slice_get opening.now.sessions j ≡ Some first → session_phase_events here_now (Moves j) ≡ phase_events_through (seat_at opening.now j) (own_run opening events j first) j_part
  unfolding session_phase_events
  mine_events first was =
      ap (λ (found : Option SessionState). events_found here_now j j_part found) (session_runs opening j first events was)
      ∙ ap (λ (k : Seat). phase_events_through k (own_run opening events j first) j_part) (same_seat opening events j)

  none_events : slice_get opening.now.sessions j ≡ None → session_phase_events here_now (Moves j) ≡ []
  unfolding session_phase_events
  none_events none = ap (λ (found : Option SessionState). events_found here_now j j_part found) (none_ever opening events j none)

  -- another session
  else_shown : (i : ℕ) (first its : SessionState) → (j == i) ≡ false → HasBecome opening (Moves j ∷ events) i first its → ShowsSession p.sessions i (sight_of opening (Moves j ∷ events) i) its.is_awake
  else_shown i first its other became =
      subst (λ (q : Phasing). ShowsSession q.sessions i (sight_of opening (Moves j ∷ events) i) its.is_awake) (no_events p)
      (by_own p opening events (Moves j) opened holds shows i first its [] became
      (ap (λ (own : List SessionEvent). phase_events_through (seat_at opening.now i) (own_run opening events i first) own) (crashed_part here_now i j here_now.crashed other) ∙ through_none (seat_at opening.now i) (own_run opening events i first)))

  mine_shown : (first other its : SessionState) → slice_get opening.now.sessions j ≡ Some first → HasBecome opening (Moves j ∷ events) j other its
      → ShowsSession (phase_run p (phase_events_through (seat_at opening.now j) (own_run opening events j first) j_part)).sessions j (sight_of opening (Moves j ∷ events) j) its.is_awake
  mine_shown first other its was became =
      by_own p opening events (Moves j) opened holds shows j first its (phase_events_through (seat_at opening.now j) (own_run opening events j first) j_part)
      (subst (λ (x : SessionState). HasBecome opening (Moves j ∷ events) j x its) (first_same (slice_get opening.now.sessions j) other first became.was was) became) refl

  mine_number : (i : ℕ) (first other its : SessionState) → slice_get opening.now.sessions j ≡ Some first → j ≡ i → HasBecome opening (Moves j ∷ events) i other its
      → ShowsSession (phase_run p (phase_events_through (seat_at opening.now j) (own_run opening events j first) j_part)).sessions i (sight_of opening (Moves j ∷ events) i) its.is_awake
  mine_number i first other its was same =
      subst (λ (x : ℕ). HasBecome opening (Moves j ∷ events) x other its → ShowsSession (phase_run p (phase_events_through (seat_at opening.now j) (own_run opening events j first) j_part)).sessions x (sight_of opening (Moves j ∷ events) x) its.is_awake) same
      (λ became. mine_shown first other its was became)

  there_shown : (first : SessionState) → slice_get opening.now.sessions j ≡ Some first → EventShown p opening events (Moves j)
  there_shown first was =
      let own : List PhaseEvent = phase_events_through (seat_at opening.now j) (own_run opening events j first) j_part in
      let went = session_went p opening events (Moves j) opened holds shows j first was in
      record {
        enabled = subst (λ (its : List PhaseEvent). AreEnabled p its) (sym (mine_events first was)) went.shown.enabled;
        shows = record {
          there = λ i other its became.
              subst (λ (x : List PhaseEvent). ShowsSession (phase_run p x).sessions i (sight_of opening (Moves j ∷ events) i) its.is_awake) (sym (mine_events first was)) (by_number i other its became (j == i) refl);
          none = λ i gone. subst (λ (x : List PhaseEvent). IsNone (phase_run p x).sessions i) (sym (mine_events first was)) (none_number i gone (j == i) refl);
        };
      }
    where
      none_number : (i : ℕ) → slice_get opening.now.sessions i ≡ None → (mine : Bool) → (j == i) ≡ mine → IsNone (phase_run p (phase_events_through (seat_at opening.now j) (own_run opening events j first) j_part)).sessions i
      none_number i gone true e = not_there (slice_get opening.now.sessions j) first (subst (λ (x : ℕ). slice_get opening.now.sessions x ≡ None) (sym (same_number i j e)) gone) was
      none_number i gone false e =
          let same = (session_went p opening events (Moves j) opened holds shows j first was).shown.others i (other_number i j e) in
          let none = shows.none i gone in
          (same.live ∙ none.0, same.comes ∙ none.1)

      by_number : (i : ℕ) (other its : SessionState) → HasBecome opening (Moves j ∷ events) i other its → (mine : Bool) → (j == i) ≡ mine
          → ShowsSession (phase_run p (phase_events_through (seat_at opening.now j) (own_run opening events j first) j_part)).sessions i (sight_of opening (Moves j ∷ events) i) its.is_awake
      by_number i other its became true e = mine_number i first other its was (same_number i j e) became
      by_number i other its became false e =
          same_shows _ p.sessions i (sight_of opening (Moves j ∷ events) i) its.is_awake ((session_went p opening events (Moves j) opened holds shows j first was).shown.others i (other_number i j e)) (else_shown i other its e became)

  gone_shown : slice_get opening.now.sessions j ≡ None → EventShown p opening events (Moves j)
  gone_shown none = record {
    enabled = subst (λ (its : List PhaseEvent). AreEnabled p its) (sym (none_events none)) (none_enabled p);
    shows = record {
      there = λ i other its became.
          subst (λ (x : List PhaseEvent). ShowsSession (phase_run p x).sessions i (sight_of opening (Moves j ∷ events) i) its.is_awake) (sym (none_events none))
          (subst (λ (q : Phasing). ShowsSession q.sessions i (sight_of opening (Moves j ∷ events) i) its.is_awake) (sym (no_events p)) (by_number i other its became (j == i) refl));
      none = λ i gone. subst (λ (x : List PhaseEvent). IsNone (phase_run p x).sessions i) (sym (none_events none)) (subst (λ (q : Phasing). IsNone q.sessions i) (sym (no_events p)) (shows.none i gone));
    };
  }
    where
      by_number : (i : ℕ) (other its : SessionState) → HasBecome opening (Moves j ∷ events) i other its → (mine : Bool) → (j == i) ≡ mine → ShowsSession p.sessions i (sight_of opening (Moves j ∷ events) i) its.is_awake
      by_number i other its became true e = not_there (slice_get opening.now.sessions i) other (subst (λ (x : ℕ). slice_get opening.now.sessions x ≡ None) (same_number i j e) none) became.was
      by_number i other its became false e = else_shown i other its e became

  moves_shown : EventShown p opening events (Moves j)
  moves_shown = by_found (slice_get opening.now.sessions j) refl
    where
      by_found : (found : Option SessionState) → slice_get opening.now.sessions j ≡ found → EventShown p opening events (Moves j)
      by_found None none = gone_shown none
      by_found (Some first) was = there_shown first was

pub events_shown : EventsAreShown
events_shown p opening events (Moves j) opened holds shows = moves_shown p opening events j opened holds shows
events_shown p opening events (Calls j call) opened holds shows = quiet_shown p opening events (Calls j call) opened holds shows tt
events_shown p opening events (Commits kind) opened holds shows = quiet_shown p opening events (Commits kind) opened holds shows tt
events_shown p opening events world.Turns opened holds shows = quiet_shown p opening events world.Turns opened holds shows tt
events_shown p opening events (KeeperMoves granted done) opened holds shows = quiet_shown p opening events (KeeperMoves granted done) opened holds shows tt
events_shown p opening events Crashes opened holds shows = quiet_shown p opening events Crashes opened holds shows tt

-- and as a life begins
opening_so : (opening : World) (session : ℕ) (first its : SessionState) → HasBecome opening [] session first its → its ≡ first
unfolding session_events session_run
opening_so opening session first its became = here opening [] session first its became

opening_seen : (opening : World) (session : ℕ) (first its : SessionState) → HasBecome opening [] session first its → ShowsSession (sessions_opened opening.now) session (sight_opened opening.now first) its.is_awake
opening_seen opening session first its became =
    let same = opening_so opening session first its became in
    let awake : its.is_awake ≡ true = ap (λ (s : SessionState). s.is_awake) same ∙ (became.opened.sessions session first became.was).awake in
    record { live = ap is_there became.was ∙ sym awake; view = λ is. ap (λ (found : Option SessionState). first_seen found opening.now.words) became.was; comes = refl; coming = λ view none. cc }

opening_sight : (opening : World) (session : ℕ) (first : SessionState) → slice_get opening.now.sessions session ≡ Some first → sight_of opening [] session ≡ sight_opened opening.now first
unfolding sight_in
opening_sight opening session first was = found_so opening [] session first was

pub opening_shown : (opening : World) → ShowsSessions (sessions_opened opening.now) opening []
opening_shown opening = record {
  there = λ session first its became.
      subst (λ (x : Sight). ShowsSession (sessions_opened opening.now) session x its.is_awake) (sym (opening_sight opening session first became.was)) (opening_seen opening session first its became);
  none = λ session gone. (ap is_there gone, refl);
}

-- ---- sessions' events change neither the words nor what is safe
same_still : (p : Phasing) → SameWords (phase_run p []) p
unfolding phase_run
same_still p = record { epoch = refl; tail = refl; rank = refl; safe = refl; base = refl; stage = refl; raises = refl }

through_same : (p : Phasing) (k : Seat) (s : SessionState) (own : List SessionEvent) → SameWords (phase_run p (phase_events_through k s own)) p
unfolding phase_events_through
through_same p k s [] = same_still p
through_same p k s (Replies reply ∷ own) =
    let before : List PhaseEvent = phase_events_through k s own in
    let a : SessionState = session_run k s own in
    let later : List PhaseEvent = phase_events_by k a (Replies reply) in
    subst (λ (r : Phasing). SameWords r p) (sym (runs_on p later before)) (same_words p (phase_run p before) (phase_run (phase_run p before) later) (reply_words (phase_run p before) k.number a (session_next k a reply)) (through_same p k s own))
through_same p k s (Begins call ∷ own) = through_same p k s own
through_same p k s (Gets action ∷ own) = through_same p k s own

found_events : (p : Phasing) (n : Now) (j : ℕ) (own : List SessionEvent) (found : Option SessionState) → SameWords (phase_run p (events_found n j own found)) p
found_events p n j own None = same_still p
found_events p n j own (Some s) = through_same p (seat_at n j) s own

pub events_same : (p : Phasing) (n : Now) (event : Event) → SameWords (phase_run p (session_phase_events n event)) p
unfolding session_phase_events
events_same p n (Moves j) = found_events p n j (session_part_of n j (Moves j)) (slice_get n.sessions j)
events_same p n (Calls j call) = same_still p
events_same p n (Commits kind) = same_still p
events_same p n world.Turns = same_still p
events_same p n (KeeperMoves granted done) = same_still p
events_same p n Crashes = same_still p
