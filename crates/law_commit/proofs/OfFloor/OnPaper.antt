-- What goes on paper with one more event of a life.
use Rattle.std.proofs.Common.{◌≡◌, ◌++◌, ◌∙◌, List, [], ◌∷◌, refl, sym, ap, subst}
use Rattle.law_refine.specs.Below.fkv_world.Runs.{World}
use Rattle.law_refine.specs.Below.fkv_world.World.{Event}
use Rattle.law_paper.specs.Phases.{AreEnabled, PhaseEvent, Phasing, phase_run}
use Rattle.law_commit.specs.Floor.OnPaper.{AreOnPaper, IsOnPaper, phasing_first}
use Rattle.law_commit.specs.Phases.Projected.{ShowsLife}
use Rattle.law_commit.proofs.OfPhases.SessionsShown.{enabled_on, runs_on}

-- a life is on paper, and that leads here
pub record LeadsHere (opening : World) (events : List Event) (p : Phasing) : Type 0 where
  pub paper : IsOnPaper opening events
  pub leads : phase_run (phasing_first opening.now) paper.paper_events ≡ p

pub begins_on_paper : (opening : World) → ShowsLife (phasing_first opening.now) opening [] → LeadsHere opening [] (phasing_first opening.now)
unfolding AreEnabled AreOnPaper phase_run
begins_on_paper opening shows = record { paper = record { paper_events = []; enabled = tt; shows = (refl, shows) }; leads = refl }

pub goes_on_paper : (opening : World) (events : List Event) (event : Event) (p : Phasing) (own : List PhaseEvent) → LeadsHere opening events p → AreEnabled p own → ShowsLife (phase_run p own) opening (event ∷ events)
    → LeadsHere opening (event ∷ events) (phase_run p own)
unfolding AreOnPaper
goes_on_paper opening events event p own was enabled shows =
    let first : Phasing = phasing_first opening.now in
    let past : List PhaseEvent = was.paper.paper_events in
    let same : phase_run first (own ++ past) ≡ phase_run p own = runs_on first own past ∙ ap (λ (q : Phasing). phase_run q own) was.leads in
    record {
      paper = record {
        paper_events = own ++ past;
        enabled = enabled_on first own past (subst (λ (q : Phasing). AreEnabled q own) (sym was.leads) enabled) was.paper.enabled;
        shows = (own, past, refl, was.paper.shows, subst (λ (q : Phasing). ShowsLife q opening (event ∷ events)) (sym same) shows);
      };
      leads = same;
    }
