-- An event of a life that leaves the phase word is a list of enabled events on paper, which show the life again.
use Rattle.std.proofs.Common.{◌≡◌, ℕ, zero, suc, ◌+◌, ◌-◌, ◌≤◌, ◌∙◌, max, List, ◌∷◌, ◌++◌, refl, arith, sym, ap, subst}
use Rattle.std.specs.Prelude.{replicate}
use Rattle.fkv_base.specs.declared.numbers.Version.{Version}
use Rattle.fkv_base.specs.declared.phases.Phase.{Phase}
use Rattle.fkv_words.specs.declared.phase_words.PhaseSaid.TheVariants.{Says}
use Rattle.fkv_words.specs.PhaseWords.{phase_said}
use Rattle.fkv_plane.specs.declared.places.SharedWord.TheVariants as one
use Rattle.fkv_plane.specs.Asked.{word_at}
use Rattle.fkv_plane.specs.Places.{shared_place}
use Rattle.fkv_epoch.specs.EpochWorld.{epoch_of, safe_of}
use Rattle.law_refine.specs.Below.fkv_flush.GuardWorld.{GuardEvent, GuardWorld, guard_run}
use Rattle.law_refine.proofs.Below.fkv_flush.Shown.{events_calm}
use Rattle.law_refine.specs.Below.fkv_world.Opened.{IsOpenedWorld}
use Rattle.law_refine.specs.Below.fkv_world.Runs.{World, read_by_keeper, run}
use Rattle.law_refine.specs.Below.fkv_world.World.{Event}
use Rattle.law_refine.specs.Below.law_world.Guarded.GuardEvents.{guard_events, mapped}
use Rattle.law_refine.specs.Below.law_world.Guarded.Shows as guard
use Rattle.law_refine.specs.Below.law_world.Guarded.Shows.{guard_opening, seen_by_guard}
use Rattle.law_refine.proofs.Below.law_world.OfGuarded.Worlds.{life_shows, runs_on}
use Rattle.law_paper.specs.Phases as paper
use Rattle.law_paper.specs.Phases.{AreEnabled, PhaseEvent, Phasing, RaisesElse, Reserves, phase_after, phase_run}
use Rattle.law_commit.specs.Phases.Projected.{QuietEventsAreShown, ShowsLife, ShowsSessions, session_phase_events}
use Rattle.law_commit.specs.Ranks.{rank}
use Rattle.law_commit.proofs.OfPhases.SafeEnabled.{safe_enabled}
use Rattle.law_commit.proofs.OfPhases.SessionsShown.{events_same, events_shown}

-- ---- nothing falls
pub record Risen (words after : List ℕ) : Type 0 where
  pub epoch : epoch_of words ≤ epoch_of after
  pub safe : safe_of words ≤ safe_of after
  pub tail : word_at words (shared_place one.Tail) ≤ word_at after (shared_place one.Tail)

pub life_on : (opening : World) (start : ℕ) (events : List Event) (event : Event)
    → seen_by_guard opening start (event ∷ events) ≡ guard_run (seen_by_guard opening start events) (guard_events (run opening events).now (read_by_keeper (run opening events)) event)
unfolding mapped
life_on opening start events event = runs_on (guard_opening opening.now start) (guard_events (run opening events).now (read_by_keeper (run opening events)) event) (mapped opening events)

pub risen : (opening : World) (start : ℕ) (events : List Event) (event : Event) → guard.IsOpened opening.now start → Risen (run opening events).now.words (run opening (event ∷ events)).now.words
risen opening start events event opened =
    let w : GuardWorld = seen_by_guard opening start events in
    let was = life_shows opening start events opened in
    let is = life_shows opening start (event ∷ events) opened in
    let its : List GuardEvent = guard_events (run opening events).now (read_by_keeper (run opening events)) event in
    let calm = events_calm w its was.sound in
    let up : Risen w.now.words (guard_run w its).now.words = record { epoch = calm.epoch; safe = calm.safe_epoch; tail = calm.offsets.tail } in
    let there = subst (λ (v : GuardWorld). Risen w.now.words v.now.words) (sym (life_on opening start events event)) up in
    subst (λ (x : List ℕ). Risen x (run opening (event ∷ events)).now.words) was.words (subst (λ (x : List ℕ). Risen w.now.words x) is.words there)

-- ---- raises and reservations
-- the same phase, with the same raises for its commit
pub record SameCommit (q p : Phasing) : Type 0 where
  pub base : q.base ≡ p.base
  pub stage : q.stage ≡ p.stage
  pub raises : q.raises ≡ p.raises

same_commit : (p : Phasing) → SameCommit p p
same_commit p = record { base = refl; stage = refl; raises = refl }

-- how much higher the epoch and the tail are; all else is the same
record IsHigher (p q : Phasing) (raises reserves : ℕ) : Type 0 where
  epoch : q.epoch ≡ p.epoch + raises
  tail : q.tail ≡ p.tail + reserves
  rank : paper.rank_of q ≡ paper.rank_of p
  safe : q.safe ≡ p.safe
  sessions : q.sessions ≡ p.sessions
  commit : SameCommit q p

raised : (p : Phasing) (events : List PhaseEvent) (count : ℕ) → IsHigher (phase_run p events) (phase_run p (replicate count RaisesElse ++ events)) count 0
unfolding phase_run phase_after
raised p events zero = record { epoch = omega arith; tail = omega arith; rank = refl; safe = refl; sessions = refl; commit = same_commit (phase_run p events) }
raised p events (suc count) =
    let its = raised p events count in
    let epoch = its.epoch in
    record { epoch = omega (arith, epoch); tail = its.tail; rank = its.rank; safe = its.safe; sessions = its.sessions; commit = (let c = its.commit in record { base = c.base; stage = c.stage; raises = c.raises }) }

reserved : (p : Phasing) (events : List PhaseEvent) (count : ℕ) → IsHigher (phase_run p events) (phase_run p (replicate count Reserves ++ events)) 0 count
unfolding phase_run phase_after
reserved p events zero = record { epoch = omega arith; tail = omega arith; rank = refl; safe = refl; sessions = refl; commit = same_commit (phase_run p events) }
reserved p events (suc count) =
    let its = reserved p events count in
    let tail = its.tail in
    record { epoch = its.epoch; tail = omega (arith, tail); rank = its.rank; safe = its.safe; sessions = its.sessions; commit = (let c = its.commit in record { base = c.base; stage = c.stage; raises = c.raises }) }

raises_enabled : (p : Phasing) (events : List PhaseEvent) (count : ℕ) → AreEnabled p events → AreEnabled p (replicate count RaisesElse ++ events)
unfolding AreEnabled
raises_enabled p events zero enabled = enabled
raises_enabled p events (suc count) enabled = (raises_enabled p events count enabled, tt)

reserves_enabled : (p : Phasing) (events : List PhaseEvent) (count : ℕ) → AreEnabled p events → AreEnabled p (replicate count Reserves ++ events)
unfolding AreEnabled
reserves_enabled p events zero enabled = enabled
reserves_enabled p events (suc count) enabled = (reserves_enabled p events count enabled, tt)

-- what is safe then
record IsSafer (q r : Phasing) (m : ℕ) : Type 0 where
  epoch : r.epoch ≡ q.epoch
  tail : r.tail ≡ q.tail
  rank : paper.rank_of r ≡ paper.rank_of q
  safe : r.safe ≡ max q.safe m
  sessions : r.sessions ≡ q.sessions
  commit : SameCommit r q

safer : (p : Phasing) (events : List PhaseEvent) (m : ℕ) → IsSafer (phase_run p events) (phase_run p (paper.IsSafe m ∷ events)) m
unfolding phase_run phase_after
safer p events m = record { epoch = refl; tail = refl; rank = refl; safe = refl; sessions = refl; commit = record { base = refl; stage = refl; raises = refl } }

safe_first : (p : Phasing) (events : List PhaseEvent) (m : ℕ) → AreEnabled p events → paper.IsEnabled (phase_run p events) (paper.IsSafe m) → AreEnabled p (paper.IsSafe m ∷ events)
unfolding AreEnabled
safe_first p events m enabled may = (enabled, may)

up_to : (from to : ℕ) → from ≤ to → from + (to - from) ≡ to
up_to from to up = omega (arith, up)

highest : (low high : ℕ) → low ≤ high → max low high ≡ high
highest low high up = omega (arith, up)

pub quiet_shown : QuietEventsAreShown
quiet_shown p opening start events event guarded opened shows same =
    let words : List ℕ = (run opening events).now.words in
    let after : List ℕ = (run opening (event ∷ events)).now.words in
    let own : List PhaseEvent = session_phase_events (run opening events).now event in
    let raises : ℕ = epoch_of after - epoch_of words in
    let reserves : ℕ = word_at after (shared_place one.Tail) - word_at words (shared_place one.Tail) in
    let one_list : List PhaseEvent = replicate raises RaisesElse ++ own in
    let two_list : List PhaseEvent = replicate reserves Reserves ++ one_list in
    let up = risen opening start events event guarded in
    let its = events_shown p opening events event opened shows.words shows.sessions in
    let still = events_same p (run opening events).now event in
    let first = raised p own raises in
    let second = reserved p one_list reserves in
    let third = safer p two_list (safe_of after) in
    let q : Phasing = phase_run p two_list in
    let epoch_so : q.epoch ≡ epoch_of after =
    let a = second.epoch in let b = first.epoch in let c = still.epoch in let d = shows.words.epoch in let e = up.epoch in omega (arith, a, b, c, d, e) in
    let tail_so : q.tail ≡ word_at after (shared_place one.Tail) =
    let a = second.tail in let b = first.tail in let c = still.tail in let d = shows.words.tail in let e = up.tail in omega (arith, a, b, c, d, e) in
    let sessions_so : q.sessions ≡ (phase_run p own).sessions = second.sessions ∙ first.sessions in
    let shown : ShowsSessions q.sessions opening (event ∷ events) = subst (λ (x : paper.Sessions). ShowsSessions x opening (event ∷ events)) (sym sessions_so) its.shows in
    let may = safe_enabled q opening start (event ∷ events) (safe_of after) guarded opened epoch_so shown (omega arith) in
    record {
      enabled = safe_first p two_list (safe_of after) (reserves_enabled p one_list reserves (raises_enabled p own raises its.enabled)) may;
      shows = record {
        words = record {
          epoch = third.epoch ∙ epoch_so;
          tail = third.tail ∙ tail_so;
          phase = shows.words.phase;
          version = shows.words.version;
          says = ap phase_said same ∙ shows.words.says;
          rank = third.rank ∙ (second.rank ∙ (first.rank ∙ (still.rank ∙ shows.words.rank)));
        };
        safe = let a = third.safe in let b = second.safe in let c = first.safe in let d = still.safe in let e = shows.safe in let f = up.safe in omega (arith, a, b, c, d, e, f);
        sessions = subst (λ (x : paper.Sessions). ShowsSessions x opening (event ∷ events)) (sym third.sessions) shown;
      };
    }

-- ---- behind any events that show the phase word and the sessions, raises, reservations and what is safe show the life
abbrev pub rest_events : List ℕ → Phasing → List PhaseEvent → List PhaseEvent
rest_events after q events = paper.IsSafe (safe_of after) ∷ (replicate (word_at after (shared_place one.Tail) - q.tail) Reserves ++ (replicate (epoch_of after - q.epoch) RaisesElse ++ events))

pub record RestShown (p : Phasing) (opening : World) (events : List Event) (event : Event) (first : List PhaseEvent) : Type 0 where
  pub enabled : AreEnabled p (rest_events (run opening (event ∷ events)).now.words (phase_run p first) first)
  pub shows : ShowsLife (phase_run p (rest_events (run opening (event ∷ events)).now.words (phase_run p first) first)) opening (event ∷ events)
  pub commit : SameCommit (phase_run p (rest_events (run opening (event ∷ events)).now.words (phase_run p first) first)) (phase_run p first)

module _ (p : Phasing) (opening : World) (start : ℕ) (events : List Event) (event : Event) (guarded : guard.IsOpened opening.now start) (opened : IsOpenedWorld opening) (first : List PhaseEvent) (phase : Phase) (version : Version)
    (says : phase_said (word_at (run opening (event ∷ events)).now.words (shared_place one.Phase)) ≡ Says phase version) (is_rank : paper.rank_of (phase_run p first) ≡ rank phase version.0)
    (shown : ShowsSessions (phase_run p first).sessions opening (event ∷ events)) (epoch_low : (phase_run p first).epoch ≤ epoch_of (run opening (event ∷ events)).now.words)
    (tail_low : (phase_run p first).tail ≤ word_at (run opening (event ∷ events)).now.words (shared_place one.Tail)) (safe_low : (phase_run p first).safe ≤ safe_of (run opening (event ∷ events)).now.words) where
  pub rest_shown : AreEnabled p first → RestShown p opening events event first
  rest_shown enabled =
      let after : List ℕ = (run opening (event ∷ events)).now.words in
      let p1 : Phasing = phase_run p first in
      let raises : ℕ = epoch_of after - p1.epoch in
      let reserves : ℕ = word_at after (shared_place one.Tail) - p1.tail in
      let one_list : List PhaseEvent = replicate raises RaisesElse ++ first in
      let two_list : List PhaseEvent = replicate reserves Reserves ++ one_list in
      let up_one = raised p first raises in
      let up_two = reserved p one_list reserves in
      let up_three = safer p two_list (safe_of after) in
      let q : Phasing = phase_run p two_list in
      let epoch_so : q.epoch ≡ epoch_of after = let a = up_two.epoch in let b = up_one.epoch in omega (arith, a, b, epoch_low) in
      let tail_so : q.tail ≡ word_at after (shared_place one.Tail) = let a = up_two.tail in let b = up_one.tail in omega (arith, a, b, tail_low) in
      let sessions_so : q.sessions ≡ p1.sessions = up_two.sessions ∙ up_one.sessions in
      let here : ShowsSessions q.sessions opening (event ∷ events) = subst (λ (x : paper.Sessions). ShowsSessions x opening (event ∷ events)) (sym sessions_so) shown in
      let may = safe_enabled q opening start (event ∷ events) (safe_of after) guarded opened epoch_so here (omega arith) in
      let c_one = up_one.commit in
      let c_two = up_two.commit in
      let c_three = up_three.commit in
      record {
        enabled = safe_first p two_list (safe_of after) (reserves_enabled p one_list reserves (raises_enabled p first raises enabled)) may;
        shows = record {
          words = record {
            epoch = up_three.epoch ∙ epoch_so;
            tail = up_three.tail ∙ tail_so;
            phase = phase;
            version = version;
            says = says;
            rank = up_three.rank ∙ (up_two.rank ∙ (up_one.rank ∙ is_rank));
          };
          safe = let a = up_three.safe in let b = up_two.safe in let c = up_one.safe in omega (arith, a, b, c, safe_low);
          sessions = subst (λ (x : paper.Sessions). ShowsSessions x opening (event ∷ events)) (sym up_three.sessions) here;
        };
        commit = record { base = c_three.base ∙ (c_two.base ∙ c_one.base); stage = c_three.stage ∙ (c_two.stage ∙ c_one.stage); raises = c_three.raises ∙ (c_two.raises ∙ c_one.raises) };
      }
