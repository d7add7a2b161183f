-- What is on paper at each stage of a commit, and which events lead on.
use Rattle.std.proofs.Common.{◌≡◌, ℕ, ◌*◌, ◌<◌, ◌≤◌, List, ◌∷◌, refl, arith}
use Rattle.std.specs.Prelude.{⊤}
use Rattle.fkv_base.specs.Limits.{last_version}
use Rattle.fkv_base.specs.declared.numbers.Version.{Version}
use Rattle.law_refine.specs.Below.fkv_commit.Commits.{version_after}
use Rattle.law_paper.specs.Phases as paper
use Rattle.law_paper.specs.Phases.{AreEnabled, IsEnabled, PhaseEvent, Phasing, RaisesEnding, RaisesPending, RaisesProgress, StoresNext, WaitsFlush, phase_after, phase_run}
use Rattle.law_commit.specs.Floor.Stands.{stage_number}
use Rattle.law_commit.specs.Phases.Staged.{DefersPending, DefersProgress, FitsVersion, Flushes, Pends, Prepares, Progresses, Rests, Stage, stage_phase, stage_version}
use Rattle.law_commit.specs.Ranks.{rank}

-- what is raised at a stage
abbrev pub RaisedAt : Stage → paper.Raises → Type 0
RaisedAt Rests r = (r.progress ≡ 0) × (r.pending ≡ 0) × (r.ending ≡ 0)
RaisedAt Prepares r = (r.progress ≡ 0) × (r.pending ≡ 0) × (r.ending ≡ 0)
RaisedAt DefersProgress r = (0 < r.progress) × (r.due ≡ r.progress) × (r.pending ≡ 0) × (r.ending ≡ 0)
RaisedAt Progresses r = (r.pending ≡ 0) × (r.ending ≡ 0)
RaisedAt DefersPending r = (0 < r.pending) × (r.due ≡ r.pending) × (r.ending ≡ 0)
RaisedAt Pends r = r.ending ≡ 0
RaisedAt Flushes r = ⊤

pub record Papers (p : Phasing) (number : Version) (stage : Stage) : Type 0 where
  pub base : p.base ≡ 5 * number.0
  pub at : p.stage ≡ stage_number stage
  pub raised : RaisedAt stage p.raises

-- an enabled event leads there
pub record Leads (p : Phasing) (event : PhaseEvent) (number : Version) (stage : Stage) : Type 0 where
  pub enabled : IsEnabled p event
  pub papers : Papers (phase_after p event) number stage

pub prepares : (p : Phasing) (number : Version) → Papers p number Rests → Leads p paper.Prepares number Prepares
unfolding phase_after
prepares p number its = record { enabled = its.at; papers = record { base = its.base; at = refl; raised = its.raised } }

pub waits : (p : Phasing) (number : Version) → Papers p number Pends → Leads p WaitsFlush number Flushes
unfolding phase_after
waits p number its = record { enabled = its.at; papers = record { base = its.base; at = refl; raised = tt } }

pub rests : (p : Phasing) (number : Version) → number.0 < last_version → Papers p number Flushes → 0 < p.raises.ending → p.raises.ending ≤ p.safe → Leads p paper.Rests (version_after number) Rests
unfolding phase_after
rests p number fits its some safe = record { enabled = (its.at, some, safe); papers = record { base = (let base = its.base in omega (arith, base, fits)); at = refl; raised = (refl, refl, refl) } }

pub raises_progress : (p : Phasing) (number : Version) (first : ℕ) → 0 < p.epoch → Papers p number Prepares → first ≤ p.tail → Leads p (RaisesProgress first) number DefersProgress
unfolding phase_after
raises_progress p number first some its low = record { enabled = (its.at, its.raised.0, low); papers = record { base = its.base; at = its.at; raised = (some, refl, its.raised.1, its.raised.2) } }

pub raises_pending : (p : Phasing) (number : Version) → 0 < p.epoch → Papers p number Progresses → Leads p RaisesPending number DefersPending
unfolding phase_after
raises_pending p number some its = record { enabled = (its.at, its.raised.0); papers = record { base = its.base; at = its.at; raised = (some, refl, its.raised.1) } }

pub raises_ending : (p : Phasing) (number : Version) (end : ℕ) → Papers p number Flushes → p.raises.ending ≡ 0 → end ≤ p.tail → Leads p (RaisesEnding end) number Flushes
unfolding phase_after
raises_ending p number end its none low = record { enabled = (its.at, none, low); papers = record { base = its.base; at = its.at; raised = tt } }

-- the action that is out runs
pub runs_progress : (p : Phasing) (number : Version) → Papers p number DefersProgress → p.raises.due ≤ p.safe → Leads p (StoresNext p.raises.due) number Progresses
unfolding phase_after
runs_progress p number its safe =
    let some = its.raised.0 in
    let due = its.raised.1 in
    record { enabled = (refl, omega (arith, some, due), safe); papers = record { base = its.base; at = (let at = its.at in omega (arith, at)); raised = (its.raised.2, its.raised.3) } }

pub runs_pending : (p : Phasing) (number : Version) → Papers p number DefersPending → p.raises.due ≤ p.safe → Leads p (StoresNext p.raises.due) number Pends
unfolding phase_after
runs_pending p number its safe =
    let some = its.raised.0 in
    let due = its.raised.1 in
    record { enabled = (refl, omega (arith, some, due), safe); papers = record { base = its.base; at = (let at = its.at in omega (arith, at)); raised = its.raised.2 } }

-- the phase word has the rank that is on paper
pub staged_rank : (p : Phasing) (number : Version) (stage : Stage) → Papers p number stage → FitsVersion number stage → paper.rank_of p ≡ rank (stage_phase stage) (stage_version number stage).0
staged_rank p number Rests its fits = let base = its.base in let at = its.at in omega (arith, base, at)
staged_rank p number Prepares its fits = let base = its.base in let at = its.at in omega (arith, base, at)
staged_rank p number DefersProgress its fits = let base = its.base in let at = its.at in omega (arith, base, at)
staged_rank p number Progresses its fits = let base = its.base in let at = its.at in let low = fits.lower refl in omega (arith, base, at, low)
staged_rank p number DefersPending its fits = let base = its.base in let at = its.at in let low = fits.lower refl in omega (arith, base, at, low)
staged_rank p number Pends its fits = let base = its.base in let at = its.at in let low = fits.lower refl in omega (arith, base, at, low)
staged_rank p number Flushes its fits = let base = its.base in let at = its.at in let low = fits.lower refl in omega (arith, base, at, low)

-- ---- a list of them
pub then_event : (p : Phasing) (before : List PhaseEvent) (event : PhaseEvent) → AreEnabled p before → IsEnabled (phase_run p before) event → AreEnabled p (event ∷ before)
unfolding AreEnabled
then_event p before event enabled may = (enabled, may)

pub one_more : (p : Phasing) (before : List PhaseEvent) (event : PhaseEvent) → phase_run p (event ∷ before) ≡ phase_after (phase_run p before) event
unfolding phase_run
one_more p before event = refl
