-- The events on paper of one step of a life, one behind the other.
use Rattle.std.proofs.Common.{◌≡◌, ℕ, ◌+◌, ◌<◌, ◌≤◌, ◌∙◌, List, ◌∷◌, refl, arith, sym, ap, subst}
use Rattle.std.specs.Prelude.{Some}
use Rattle.fkv_base.specs.Limits.{last_version}
use Rattle.fkv_base.specs.declared.numbers.Version.{Version}
use Rattle.fkv_plane.specs.declared.actions.Action.{Action}
use Rattle.law_refine.specs.Below.fkv_commit.Commits.{version_after}
use Rattle.law_paper.specs.Phases as paper
use Rattle.law_paper.specs.Phases.{AreEnabled, PhaseEvent, Phasing, RaisesEnding, RaisesPending, RaisesProgress, StoresNext, WaitsFlush, phase_after, phase_run}
use Rattle.law_commit.specs.Phases.Staged.{DefersPending, DefersProgress, Flushes, Pends, Prepares, Progresses, Rests, Stage, stage_out, stage_run}
use Rattle.law_commit.proofs.OfFloor.Armed.{Onward, none_onward, onward_on, pending_onward, progress_onward}
use Rattle.law_commit.proofs.OfFloor.Papers.{Leads, Papers, one_more, prepares, raises_ending, raises_pending, raises_progress, rests, runs_pending, runs_progress, then_event, waits}

-- an event leaves the tail, what is safe, and the sessions
pub record Beside (q r : Phasing) : Type 0 where
  pub tail : r.tail ≡ q.tail
  pub safe : r.safe ≡ q.safe
  pub sessions : r.sessions ≡ q.sessions

-- These events are enabled, and lead from the first stage to this one; the epoch is no higher than the top.
pub record Path (p : Phasing) (number0 : Version) (stage0 : Stage) (due0 epoch0 top : ℕ) (own events : List PhaseEvent) (number : Version) (stage : Stage) : Type 0 where
  pub enabled : AreEnabled p events
  pub papers : Papers (phase_run p events) number stage
  pub tail : (phase_run p events).tail ≡ (phase_run p own).tail
  pub safe : (phase_run p events).safe ≡ (phase_run p own).safe
  pub sessions : (phase_run p events).sessions ≡ (phase_run p own).sessions
  pub epoch : (phase_run p events).epoch ≤ top
  pub onward : Onward number0 number stage0 stage due0 (phase_run p events).raises.due epoch0

-- one event more
pub record Step (q : Phasing) (event : PhaseEvent) (epoch0 : ℕ) (number next : Version) (stage after : Stage) : Type 0 where
  pub leads : Leads q event next after
  pub beside : Beside q (phase_after q event)
  pub onward : Onward number next stage after q.raises.due (phase_after q event).raises.due epoch0

module _ (p : Phasing) (number0 : Version) (stage0 : Stage) (due0 epoch0 top : ℕ) (own : List PhaseEvent) where
  pub one_on : (events : List PhaseEvent) (number next : Version) (stage after : Stage) (event : PhaseEvent) → Path p number0 stage0 due0 epoch0 top own events number stage → Step (phase_run p events) event epoch0 number next stage after
      → (phase_after (phase_run p events) event).epoch ≤ top → Path p number0 stage0 due0 epoch0 top own (event ∷ events) next after
  one_on events number next stage after event path step low =
      let q : Phasing = phase_run p events in
      let same = one_more p events event in
      let beside = step.beside in
      record {
        enabled = then_event p events event path.enabled step.leads.enabled;
        papers = subst (λ (r : Phasing). Papers r next after) (sym same) step.leads.papers;
        tail = ap (λ (r : Phasing). r.tail) same ∙ (beside.tail ∙ path.tail);
        safe = ap (λ (r : Phasing). r.safe) same ∙ (beside.safe ∙ path.safe);
        sessions = ap (λ (r : Phasing). r.sessions) same ∙ (beside.sessions ∙ path.sessions);
        epoch = subst (λ (r : Phasing). r.epoch ≤ top) (sym same) low;
        onward = subst (λ (r : Phasing). Onward number0 next stage0 after due0 r.raises.due epoch0) (sym same)
            (onward_on number0 number next stage0 stage after due0 q.raises.due (phase_after q event).raises.due epoch0 path.onward step.onward);
      }

-- ---- the events that there are: what each does, and what it leaves
module _ (q : Phasing) (number : Version) (epoch0 : ℕ) (due : q.raises.due ≤ epoch0) where
  pub prepares_step : Papers q number Rests → Step q paper.Prepares epoch0 number number Rests Prepares
  unfolding phase_after
  prepares_step its = record { leads = prepares q number its; beside = record { tail = refl; safe = refl; sessions = refl }; onward = none_onward number number Rests Prepares q.raises.due q.raises.due epoch0 (omega arith) due refl }

  pub waits_step : Papers q number Pends → Step q WaitsFlush epoch0 number number Pends Flushes
  unfolding phase_after
  waits_step its = record { leads = waits q number its; beside = record { tail = refl; safe = refl; sessions = refl }; onward = none_onward number number Pends Flushes q.raises.due q.raises.due epoch0 (omega arith) due refl }

  pub rests_step : number.0 < last_version → Papers q number Flushes → 0 < q.raises.ending → q.raises.ending ≤ q.safe → Step q paper.Rests epoch0 number (version_after number) Flushes Rests
  unfolding phase_after
  rests_step fits its some safe = record {
    leads = rests q number fits its some safe;
    beside = record { tail = refl; safe = refl; sessions = refl };
    onward = none_onward number (version_after number) Flushes Rests q.raises.due q.raises.due epoch0 (omega (arith, fits)) due refl;
  }

  pub ending_step : (end : ℕ) → Papers q number Flushes → q.raises.ending ≡ 0 → end ≤ q.tail → Step q (RaisesEnding end) epoch0 number number Flushes Flushes
  unfolding phase_after
  ending_step end its none low = record {
    leads = raises_ending q number end its none low;
    beside = record { tail = refl; safe = refl; sessions = refl };
    onward = none_onward number number Flushes Flushes q.raises.due q.raises.due epoch0 (omega arith) due refl;
  }

  -- the action that is out runs
  pub runs_step : (stage : Stage) (action : Action) → Some action ≡ stage_out number stage → Papers q number stage → q.raises.due ≤ q.safe → Step q (StoresNext q.raises.due) epoch0 number number stage (stage_run stage)
  unfolding phase_after
  runs_step DefersProgress action is its safe = record {
    leads = runs_progress q number its safe;
    beside = record { tail = refl; safe = refl; sessions = refl };
    onward = none_onward number number DefersProgress Progresses q.raises.due 0 epoch0 (omega arith) (omega arith) refl;
  }
  runs_step DefersPending action is its safe = record {
    leads = runs_pending q number its safe;
    beside = record { tail = refl; safe = refl; sessions = refl };
    onward = none_onward number number DefersPending Pends q.raises.due 0 epoch0 (omega arith) (omega arith) refl;
  }
  runs_step Rests action is its safe = cc
  runs_step Prepares action is its safe = cc
  runs_step Progresses action is its safe = cc
  runs_step Pends action is its safe = cc
  runs_step Flushes action is its safe = cc

  -- its action is put behind the raise
  module _ (fits : number.0 < last_version) (some : 0 < q.epoch) (low : q.epoch ≤ epoch0) where
    pub progress_step : (first : ℕ) → Papers q number Prepares → first ≤ q.tail → Step q (RaisesProgress first) epoch0 number number Prepares DefersProgress
    unfolding phase_after
    progress_step first its below = record {
      leads = raises_progress q number first some its below;
      beside = record { tail = refl; safe = refl; sessions = refl };
      onward = progress_onward number q.raises.due q.epoch epoch0 fits low;
    }

    pub pending_step : Papers q number Progresses → Step q RaisesPending epoch0 number number Progresses DefersPending
    unfolding phase_after
    pending_step its = record { leads = raises_pending q number some its; beside = record { tail = refl; safe = refl; sessions = refl }; onward = pending_onward number q.raises.due q.epoch epoch0 fits low }

-- ---- what an event makes of the raises, and of the epoch
pub stored_raises : (q : Phasing) → (phase_after q paper.Prepares).raises ≡ q.raises
unfolding phase_after
stored_raises q = refl

pub waited_raises : (q : Phasing) → (phase_after q WaitsFlush).raises ≡ q.raises
unfolding phase_after
waited_raises q = refl

pub record SameAddresses (r s : paper.Raises) : Type 0 where
  pub first : s.first ≡ r.first
  pub ending : s.ending ≡ r.ending
  pub end : s.end ≡ r.end

pub run_raises : (q : Phasing) (c : ℕ) → SameAddresses q.raises (phase_after q (StoresNext c)).raises
unfolding phase_after
run_raises q c = record { first = refl; ending = refl; end = refl }

pub pending_raises : (q : Phasing) → SameAddresses q.raises (phase_after q RaisesPending).raises
unfolding phase_after
pending_raises q = record { first = refl; ending = refl; end = refl }

pub progress_first : (q : Phasing) (first : ℕ) → (phase_after q (RaisesProgress first)).raises.first ≡ first
unfolding phase_after
progress_first q first = refl

pub record RaisedEnding (q r : Phasing) (end : ℕ) : Type 0 where
  pub first : r.raises.first ≡ q.raises.first
  pub ending : r.raises.ending ≡ q.epoch
  pub end_is : r.raises.end ≡ end

pub ending_raises : (q : Phasing) (end : ℕ) → RaisedEnding q (phase_after q (RaisesEnding end)) end
unfolding phase_after
ending_raises q end = record { first = refl; ending = refl; end_is = refl }

-- a store leaves the epoch, and a raise makes it one higher
pub stores_epoch : (q : Phasing) (c : ℕ) → ((phase_after q paper.Prepares).epoch ≡ q.epoch) × ((phase_after q WaitsFlush).epoch ≡ q.epoch) × ((phase_after q paper.Rests).epoch ≡ q.epoch) × ((phase_after q (StoresNext c)).epoch ≡ q.epoch)
unfolding phase_after
stores_epoch q c = (refl, refl, refl, refl)

pub raises_epoch : (q : Phasing) (x : ℕ) → ((phase_after q (RaisesProgress x)).epoch ≡ q.epoch + 1) × ((phase_after q RaisesPending).epoch ≡ q.epoch + 1) × ((phase_after q (RaisesEnding x)).epoch ≡ q.epoch + 1)
unfolding phase_after
raises_epoch q x = (refl, refl, refl)
