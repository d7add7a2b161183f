-- The points of each commit that has begun are the sessions' points of its number, for ever.
use Rattle.std.proofs.Common.{◌≡◌, ℕ, ◌≤◌, ◌∙◌, List, [], ◌∷◌, refl, arith, ap, sym}
use Rattle.std.specs.Prelude.{Option, Some, None, slice_get}
use Rattle.fkv_base.specs.declared.numbers.Serial.{Serial}
use Rattle.law_refine.specs.Below.fkv_commit.Commit.{Commit}
use Rattle.law_refine.specs.Below.fkv_keeper.TheKeeping.TheVariants.{Writes}
use Rattle.law_refine.specs.Below.fkv_session.Sessions.{SessionState}
use Rattle.law_refine.specs.Below.fkv_world.Runs.{World, run}
use Rattle.law_refine.specs.Below.fkv_world.World.{Event}
use Rattle.law_refine.proofs.Below.fkv_world.Shown.{session_runs}
use Rattle.law_commit.specs.Accepted.{point}
use Rattle.law_commit.specs.BegunCommits.{life_begun}
use Rattle.law_commit.specs.Decided.Ended.{Span}
use Rattle.law_commit.specs.Floor.Stands.{PaperIsSound}
use Rattle.law_commit.specs.Points.{ArePointsOf, BegunHavePoints, OpensPointed}
use Rattle.law_commit.specs.Quiet.{CutsShowPoints, LiveAreLater, pending_rank, rank_now, rank_said}
use Rattle.law_commit.proofs.OfPoints.Rises.{point_opens}
use Rattle.law_commit.proofs.OfPoints.Taken.{takes_points, writes_taken}
use Rattle.law_commit.proofs.AllBegun.{AllBegun, event_begun, one_of, opened_begun, weaker}
use Rattle.law_commit.proofs.OfQuiet.Begun.{written}
use Rattle.law_commit.proofs.OfQuiet.Points.{points_stay}
use Rattle.law_commit.proofs.OfQuiet.Ranks.{ranks_rise}

module _ (live : LiveAreLater) (paper_sound : PaperIsSound) (cuts_show : CutsShowPoints) (opening : World) (start : ℕ) (opens : OpensPointed opening start) where
  -- from wait-pending on a point stays, of whatever session
  pub same_point : (event : Event) (before : List Event) (version session : ℕ) → pending_rank version ≤ rank_now opening before → point opening (event ∷ before) session version ≡ point opening before session version
  same_point event before version session high = by_found (slice_get opening.now.sessions session) refl
    where
      by_found : (found : Option SessionState) → slice_get opening.now.sessions session ≡ found → point opening (event ∷ before) session version ≡ point opening before session version
      by_found None none = rw none refl
      by_found (Some first) found =
          points_stay live opening start (event ∷ []) before version session first _ opens.quiet high (record { opened = opens.quiet.opened; was = found; is_now = session_runs opening session first before found })

  abbrev Pointed : List Event → ℕ → List Serial → Type 0
  Pointed events number points = (pending_rank number ≤ rank_now opening events) × ArePointsOf opening events number points

  higher : (low mid high : ℕ) → low ≤ mid → mid ≤ high → low ≤ high
  higher low mid high one other = omega (arith, one, other)

  pointed_on : (event : Event) (before : List Event) (number : ℕ) (points : List Serial) → Pointed before number points → Pointed (event ∷ before) number points
  pointed_on event before number points its =
      (higher (pending_rank number) (rank_now opening before) (rank_now opening (event ∷ before)) its.0 (ranks_rise opening start before event opens.quiet), λ session. its.1 session ∙ sym (same_point event before number session its.0))

  -- the commit that is written
  writes_pointed : (events : List Event) → (run opening events).now.keeper.step ≡ Writes → (c : Commit) → (run opening events).now.keeper.commit ≡ Some c → Pointed events c.number.0 (run opening events).now.keeper.seek.points
  writes_pointed events writes c in_hand =
      let flushed = written opening start opens.quiet events writes c in_hand in
      let has_them = writes_taken live paper_sound cuts_show opening start opens.quiet opens.cuts opens.points events writes in
      (omega (arith, flushed), takes_points live paper_sound cuts_show opening start events c opens in_hand has_them)

  -- so has each that has begun
  abbrev PointedSpan : List Event → Span → List Serial → Type 0
  PointedSpan events x points = Pointed events x.number.0 points

  all_pointed : (events : List Event) → AllBegun (PointedSpan events) (life_begun opening events)
  unfolding run
  all_pointed [] =
      let said = ap rank_said opens.quiet.seen.rests.says in
      opened_begun (PointedSpan []) opening (omega (arith, said), λ session. opens.points session ∙ sym (point_opens opening session opening.now.keeper.last.number.0))
  all_pointed (event ∷ before) =
      event_begun (PointedSpan (event ∷ before)) opening before event
      (λ writes c is. pointed_on event before c.number.0 (run opening before).now.keeper.seek.points (writes_pointed before writes c is))
      (weaker (PointedSpan before) (PointedSpan (event ∷ before)) (life_begun opening before) (λ x points. pointed_on event before x.number.0 points) (all_pointed before))

pub begun_have_points : LiveAreLater → PaperIsSound → CutsShowPoints → BegunHavePoints
begun_have_points live paper_sound cuts_show opening start events c opens there =
    (one_of (PointedSpan live paper_sound cuts_show opening start opens events) c (life_begun opening events) there (all_pointed live paper_sound cuts_show opening start opens events)).1
