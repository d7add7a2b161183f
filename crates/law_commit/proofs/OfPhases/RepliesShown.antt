-- Each reply of a session is a list of enabled events of the phases on paper.
use Rattle.std.proofs.Common.{◌≡◌, ℕ, ◌∙◌, List, [], ◌∷◌, ◌++◌, refl, sym, ap, subst, Bool, true, false}
use Rattle.std.specs.Prelude.{Option, Some, None}
use Rattle.fkv_plane.specs.declared.asks.Ask.{Ask}
use Rattle.fkv_plane.specs.declared.asks.Ask.TheVariants.{Done}
use Rattle.fkv_plane.specs.declared.places.SharedWord.TheVariants as one
use Rattle.fkv_plane.specs.Asked.{word_at}
use Rattle.fkv_plane.specs.Places.{shared_place}
use Rattle.fkv_words.specs.declared.phase_words.PhaseSaid.{PhaseSaid}
use Rattle.fkv_words.specs.declared.phase_words.PhaseSaid.TheVariants.{Says}
use Rattle.fkv_words.specs.PhaseWords.{phase_said}
use Rattle.fkv_epoch.specs.EpochWorld as epochs
use Rattle.fkv_epoch.specs.EpochWorld.{epoch_of}
use Rattle.law_refine.specs.Below.fkv_session.CatchCause.{CatchCause}
use Rattle.law_refine.specs.Below.fkv_session.CatchCause.TheVariants.{Refreshes, Wakes, Shifts}
use Rattle.law_refine.specs.Below.fkv_session.Sitting.{Sitting}
use Rattle.law_refine.specs.Below.fkv_session.Sitting.TheVariants.{Idle, Attempts, CatchesUp, ClearsMail, Polls, StoresOwing, Turns, StoresCut, Leaves, LoadsDurable}
use Rattle.law_refine.specs.Below.fkv_session.CatchingUp.{catch_ask, catch_requests}
use Rattle.law_refine.specs.Below.fkv_session.Sessions.{Seat, SessionState, asks_after, attempts, bits_of, catch_ledto, caught, caught_up, is_word_ask, session_ask, sitting_next}
use Rattle.law_log.proofs.Shown.{set_else, set_there}
use Rattle.law_paper.specs.Phases as paper
use Rattle.law_paper.specs.Phases.{AreEnabled, Completes, Leaves, Loads, PhaseEvent, Phasing, phase_after, phase_run, view_now}
use Rattle.law_commit.specs.Phases.Projected.{RepliesAreShown, SameSession, ShowsSession, ShowsWords, Shown, SitsAwake, completed_events, is_coming, left_events, loaded_events, loads_now, paper_view}
use Rattle.law_commit.specs.Phases.Stamped.{CatchStamped, IsOf, SittingStamped, driven, force_by, loads_by}
use Rattle.law_commit.specs.Views.{Sight, View, completed, loads_phase, sight_left, sight_moved, view_at, view_said, with_loaded}
use Rattle.law_commit.proofs.OfPhases.CatchStamps.{done_stamped, replies_keep}

same_session : (x : paper.Sessions) (session : ℕ) → SameSession x x session
same_session x session = record { live = refl; view = refl; comes = refl; coming = refl }

-- nothing happens
pub none_shown : (p : Phasing) (session : ℕ) (its : Sight) (awake : Bool) → ShowsSession p.sessions session its awake → Shown p session [] its awake
unfolding AreEnabled phase_run
none_shown p session its awake shows = record { enabled = tt; shows = shows; others = λ other apart. same_session p.sessions other }

-- ---- the load of the phase word
seen_now : (p : Phasing) (words : List ℕ) (shows : ShowsWords p words) → view_now p ≡ paper_view (view_at words shows.phase shows.version)
seen_now p words shows = rw (shows.epoch, shows.tail, shows.rank) refl

said_now : (p : Phasing) (words : List ℕ) (before : View) (said : PhaseSaid) (shows : ShowsWords p words) → said ≡ Says shows.phase shows.version → view_now p ≡ paper_view (view_said words before said)
said_now p words before said shows e = seen_now p words shows ∙ sym (ap (λ (x : PhaseSaid). paper_view (view_said words before x)) e)

some_view : (a b : View) → Some a ≡ Some b → a ≡ b
some_view a b e = cc

loaded_shown : (p : Phasing) (words : List ℕ) (session : ℕ) (its : Sight) (awake : Bool) (reply : ℕ) (loads : Bool) → ShowsWords p words → (loads ≡ true → reply ≡ word_at words (shared_place one.Phase)) → ShowsSession p.sessions session its awake
    → Shown p session (loaded_events session loads) (with_loaded words loads reply its) awake
unfolding AreEnabled phase_run phase_after
loaded_shown p words session its awake reply false holds right shows = none_shown p session its awake shows
loaded_shown p words session its awake reply true holds right shows =
    let said : phase_said reply ≡ Says holds.phase holds.version = ap phase_said (right refl) ∙ holds.says in
    record {
      enabled = (tt, tt);
      shows = record {
        live = shows.live;
        view = shows.view;
        comes = set_there p.sessions.comes session true;
        coming = λ view e.
            set_there p.sessions.coming session (view_now p) ∙ (said_now p words its.view (phase_said reply) holds said ∙ ap paper_view (some_view (view_said words its.view (phase_said reply)) view e));
      };
      others = λ other apart. record { live = refl; view = refl; comes = set_else p.sessions.comes session true other apart; coming = set_else p.sessions.coming session (view_now p) other apart };
    }

-- ---- one more event
comes_true : (coming : Option View) (view : View) → coming ≡ Some view → is_coming coming ≡ true
comes_true coming view e = ap is_coming e

completed_shown : (p : Phasing) (session : ℕ) (events : List PhaseEvent) (its : Sight) (awake : Bool) (view : View) → its.coming ≡ Some view → Shown p session events its awake
    → Shown p session (Completes session ∷ events) (completed its.coming its) true
unfolding AreEnabled phase_run phase_after
completed_shown p session events its awake view e shown =
    let q : Phasing = phase_run p events in
    let shows = shown.shows in
    subst (λ (c : Option View). Shown p session (Completes session ∷ events) (completed c its) true) (sym e)
    (record {
      enabled = (shown.enabled, shows.comes ∙ comes_true its.coming view e);
      shows = record {
        live = set_there q.sessions.live session true;
        view = λ is. set_there q.sessions.view session (q.sessions.coming session) ∙ shows.coming view e;
        comes = set_there q.sessions.comes session false;
        coming = λ other none. cc;
      };
      others = λ other apart.
          let same = shown.others other apart in
          record {
            live = set_else q.sessions.live session true other apart ∙ same.live;
            view = set_else q.sessions.view session (q.sessions.coming session) other apart ∙ same.view;
            comes = set_else q.sessions.comes session false other apart ∙ same.comes;
            coming = same.coming;
          };
    })

left_shown : (p : Phasing) (session : ℕ) (events : List PhaseEvent) (its : Sight) (before after : Bool) → (after ≡ true → before ≡ true) → Shown p session events its before → Shown p session (left_events session before after ++ events) its after
unfolding AreEnabled phase_run phase_after
left_shown p session events its true true falls shown = shown
left_shown p session events its false false falls shown = shown
left_shown p session events its false true falls shown = let rose = falls refl in cc
left_shown p session events its true false falls shown =
    let q : Phasing = phase_run p events in
    let shows = shown.shows in
    record {
      enabled = (shown.enabled, tt);
      shows = record { live = set_there q.sessions.live session false; view = λ is. cc; comes = shows.comes; coming = shows.coming };
      others = λ other apart. let same = shown.others other apart in record { live = set_else q.sessions.live session false other apart ∙ same.live; view = same.view; comes = same.comes; coming = same.coming };
    }

-- none leaves that is awake then
awake_shown : (p : Phasing) (session : ℕ) (events : List PhaseEvent) (its : Sight) (before after : Bool) → after ≡ true → Shown p session events its true → Shown p session (left_events session before after ++ events) its after
awake_shown p session events its true true is shown = shown
awake_shown p session events its false true is shown = shown
awake_shown p session events its before false is shown = cc

same_shown : (p : Phasing) (session : ℕ) (events : List PhaseEvent) (its : Sight) (awake : Bool) → Shown p session events its awake → Shown p session (left_events session awake awake ++ events) its awake
same_shown p session events its awake shown = left_shown p session events its awake awake (λ e. e) shown

-- ---- a reply
module _ (p : Phasing) (words : List ℕ) (its : Sight) (l f : epochs.Loads) (k : Seat) (s : SessionState) (holds : ShowsWords p words) (shows : ShowsSession p.sessions k.number its s.is_awake) where
  -- with these behind it
  abbrev Behind : Sitting → ℕ → SessionState → Type 0
  Behind step reply after =
      Shown p k.number (left_events k.number s.is_awake after.is_awake ++ (completed_events k.number step after.step ++ loaded_events k.number (loads_now s step))) (sight_moved words s step reply after.step its) after.is_awake

  -- where it doesn't catch up
  plain_shown : (awake : Bool) → (awake ≡ true → s.is_awake ≡ true) → Shown p k.number (left_events k.number s.is_awake awake ++ []) its awake
  plain_shown awake falls = left_shown p k.number [] its s.is_awake awake falls (none_shown p k.number its s.is_awake shows)

  -- where it is through
  through_shown : (cause : CatchCause) (now : Sight) (t : SessionState) (loaded : List PhaseEvent) (view : View) → now.coming ≡ Some view → t.is_awake ≡ s.is_awake → SitsAwake s (CatchesUp cause) → Shown p k.number loaded now s.is_awake
      → Shown p k.number (left_events k.number s.is_awake (caught_up k t cause).is_awake ++ (completed_events k.number (CatchesUp cause) (caught_up k t cause).step ++ loaded)) (sight_left (caught_up k t cause).step now) (caught_up k t cause).is_awake
  unfolding attempts
  through_shown Refreshes now t loaded view e same sits shown = awake_shown p k.number _ _ s.is_awake t.is_awake (same ∙ sits.0) (completed_shown p k.number loaded now s.is_awake view e shown)
  through_shown Wakes now t loaded view e same sits shown = awake_shown p k.number _ _ s.is_awake true refl (completed_shown p k.number loaded now s.is_awake view e shown)
  through_shown Shifts now t loaded view e same sits shown = awake_shown p k.number _ _ s.is_awake t.is_awake (same ∙ sits.0) (completed_shown p k.number loaded now s.is_awake view e shown)

  ended_shown : (cause : CatchCause) (now : Sight) (t : SessionState) (loaded : List PhaseEvent) (coming : Option View) (phase : ℕ) → now.coming ≡ coming → IsOf coming phase → t.is_awake ≡ s.is_awake → SitsAwake s (CatchesUp cause)
      → Shown p k.number loaded now s.is_awake
      → Shown p k.number (left_events k.number s.is_awake (caught_up k t cause).is_awake ++ (completed_events k.number (CatchesUp cause) (caught_up k t cause).step ++ loaded)) (sight_left (caught_up k t cause).step now) (caught_up k t cause).is_awake
  ended_shown cause now t loaded None phase e of same sits shown = absurd of
  ended_shown cause now t loaded (Some view) phase e of same sits shown = through_shown cause now t loaded view e same sits shown

  -- by what it asks then
  left_by : (cause : CatchCause) (now : Sight) (t : SessionState) (loaded : List PhaseEvent) (after after_force : epochs.Loads) (ask : Ask (Unit {0})) → t.step ≡ CatchesUp cause → t.is_awake ≡ s.is_awake → SitsAwake s (CatchesUp cause)
      → CatchStamped now after after_force t.catching t.catching.step → catch_ask k.places k.number t.catching t.requests ≡ ask → Shown p k.number loaded now s.is_awake
      → Shown p k.number (left_events k.number s.is_awake (catch_ledto k t cause ask).is_awake ++ (completed_events k.number (CatchesUp cause) (catch_ledto k t cause ask).step ++ loaded)) (sight_left (catch_ledto k t cause ask).step now)
      (catch_ledto k t cause ask).is_awake
  unfolding catch_ledto
  left_by cause now t loaded after after_force (Done through) at same sits stamped asks shown =
      ended_shown cause now (record t { seen = t.catching.seen }) loaded now.coming after_force.phase refl (done_stamped k.places k.number now after after_force t.catching t.requests t.catching.step through stamped asks) same sits shown
  left_by cause now t loaded after after_force ask at same sits stamped asks shown = rw (at, same) (same_shown p k.number loaded now s.is_awake shown)

  caught_shown : (asks : ℕ) (cause : CatchCause) (reply : ℕ) → s.step ≡ CatchesUp cause → SitsAwake s (CatchesUp cause) → CatchStamped its l f s.catching s.catching.step
      → (loads_phase s.catching s.catching.step ≡ true → reply ≡ word_at words (shared_place one.Phase)) → Behind (CatchesUp cause) reply (sitting_next k (record s { asks = asks; effect = None }) (CatchesUp cause) reply)
  unfolding sitting_next
  caught_shown asks cause reply at sits stamped right =
      let t : SessionState = caught k (record s { asks = asks; effect = None }) reply in
      let loads : Bool = loads_phase s.catching s.catching.step in
      left_by cause (with_loaded words loads reply its) t (loaded_events k.number loads) (loads_by l (driven s.catching s.catching.step) (epoch_of words)) (force_by l f (driven s.catching s.catching.step) (epoch_of words))
      (catch_ask k.places k.number t.catching t.requests) at refl sits (replies_keep words k.places (bits_of k) k.number its l f s.catching (catch_requests s.catching s.requests reply) reply stamped) refl
      (loaded_shown p words k.number its s.is_awake reply loads holds right shows)

  pub next_shown : (asks : ℕ) (step : Sitting) (reply : ℕ) → s.step ≡ step → SitsAwake s step → SittingStamped its l f s step → (loads_now s step ≡ true → reply ≡ word_at words (shared_place one.Phase))
      → Behind step reply (sitting_next k (record s { asks = asks; effect = None }) step reply)
  unfolding sitting_next
  next_shown asks (CatchesUp cause) reply at sits stamped right = caught_shown asks cause reply at sits stamped.0 right
  next_shown asks (Idle told) reply at sits stamped right = plain_shown _ (λ e. e)
  next_shown asks LoadsDurable reply at sits stamped right = plain_shown _ (λ e. e)
  next_shown asks (Attempts has_shifted) reply at sits stamped right = plain_shown _ (λ e. sits)
  next_shown asks ClearsMail reply at sits stamped right = plain_shown _ (λ e. sits)
  next_shown asks (Polls i) reply at sits stamped right = plain_shown _ (λ e. sits)
  next_shown asks (StoresOwing i) reply at sits stamped right = plain_shown _ (λ e. sits)
  next_shown asks (Turns told) reply at sits stamped right = plain_shown _ (λ e. sits)
  next_shown asks StoresCut reply at sits stamped right = plain_shown _ (λ e. sits)
  next_shown asks Leaves reply at sits stamped right = plain_shown _ (λ e. sits)

pub replies_shown : RepliesAreShown
replies_shown p words its l f k s reply stamped sits holds right shows = next_shown p words its l f k s holds shows (asks_after s.asks (is_word_ask (session_ask k s))) s.step reply refl sits stamped right
