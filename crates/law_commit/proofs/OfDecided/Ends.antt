-- A commit's first address and its end lie at or below the tail; so what is decided below them is settled.
use Rattle.std.proofs.Common.{◌≡◌, ◌⊎◌, ℕ, ◌<◌, ◌≤◌, inl, inr, List, refl, subst, arith, Bool, true, false}
use Rattle.std.specs.Prelude.{Some, if◌then◌else◌}
use Rattle.law_refine.specs.Below.fkv_commit.Commit.{Commit}
use Rattle.law_refine.specs.Below.fkv_keeper.TheKeeping.{Keeping}
use Rattle.law_refine.specs.Below.fkv_keeper.TheKeeping.TheVariants.{Ended, Starts, Maintains, LoadsPhase, Enters, Copies, Seeks, Waits, Writes, Finishes, Sweeps}
use Rattle.law_refine.specs.Below.fkv_keeper.Keeping.{KeeperState, come_to}
use Rattle.fkv_words.specs.PhaseWords.{phase_said}
use Rattle.law_refine.specs.Below.fkv_world.Runs.{World, run}
use Rattle.law_refine.specs.Below.fkv_world.World.{Event}
use Rattle.law_log.specs.Ghosts.{Ghosts}
use Rattle.law_paper.specs.Phases as paper
use Rattle.law_refine.specs.Events.GhostEvents.{life_ghosts}
use Rattle.law_refine.specs.Events.Reserved.{tail_at}
use Rattle.law_commit.specs.Decided.Cells.{SettledFrom}
use Rattle.law_commit.specs.Decided.Laws.{EndIsSafe, IsFromProgress, OpensDecided}
use Rattle.law_commit.specs.Floor.Stands.{FloorAlwaysStands, IsWritten, OpensSeen, PaperIsSound}
use Rattle.law_commit.specs.PhaseStores.{phase_at}
use Rattle.law_commit.proofs.OfDecided.Lives.{below_end, below_first, from_stage, settles}
use Rattle.law_commit.proofs.OfFloor.KeeperFits.{Ground, KeeperFits, KeepingFits}
use Rattle.law_commit.proofs.OfFloor.LifeFloor.{LifeFloored, ground_of}
use Rattle.law_commit.proofs.OfFloor.Stands.{life_floored}

-- ---- on paper
first_low : (stage safe tail : ℕ) (r : paper.Raises) → paper.FitStage stage safe tail r → 2 ≤ stage → r.first ≤ tail
first_low stage safe tail r (paper.rests at progress pending ending due) far = absurd (omega (arith, at, far))
first_low stage safe tail r (paper.prepares at progress pending ending due) far = absurd (omega (arith, at, far))
first_low stage safe tail r (paper.defers at progress first pending ending due) far = first
first_low stage safe tail r (paper.goes_on at progress low first pending ending due) far = first
first_low stage safe tail r (paper.enters at progress low first pending ending due) far = first
first_low stage safe tail r (paper.pends at progress low first pending is_safe ending due) far = first
first_low stage safe tail r (paper.flushes at progress low first pending is_safe end due) far = first

end_low : (stage safe tail : ℕ) (r : paper.Raises) → paper.FitStage stage safe tail r → 0 < r.ending → r.end ≤ tail
end_low stage safe tail r (paper.rests at progress pending ending due) some = absurd (omega (arith, ending, some))
end_low stage safe tail r (paper.prepares at progress pending ending due) some = absurd (omega (arith, ending, some))
end_low stage safe tail r (paper.defers at progress first pending ending due) some = absurd (omega (arith, ending, some))
end_low stage safe tail r (paper.goes_on at progress low first pending ending due) some = absurd (omega (arith, ending, some))
end_low stage safe tail r (paper.enters at progress low first pending ending due) some = absurd (omega (arith, ending, some))
end_low stage safe tail r (paper.pends at progress low first pending is_safe ending due) some = absurd (omega (arith, ending, some))
end_low stage safe tail r (paper.flushes at progress low first pending is_safe end due) some = end some

-- ---- the keeper has its points
has_points : (g : Ground) (s : KeeperState) (step : Keeping) → s.step ≡ step → KeeperFits g s → IsWritten step → s.has_points ≡ true
has_points g s Writes at fits written = (subst (λ (x : Keeping). KeepingFits g s x) at fits.step).0
has_points g s Finishes at fits written = (subst (λ (x : Keeping). KeepingFits g s x) at fits.step).0
has_points g s (Ended told) at fits written = absurd written
has_points g s Starts at fits written = absurd written
has_points g s Maintains at fits written = absurd written
has_points g s LoadsPhase at fits written = absurd written
has_points g s Enters at fits written = absurd written
has_points g s Copies at fits written = absurd written
has_points g s Sweeps at fits written = absurd written
has_points g s Seeks at fits written = absurd written
has_points g s Waits at fits written = absurd written

come_points : (g : Ground) (s : KeeperState) → KeeperFits g s → IsWritten (come_to s) → s.has_points ≡ true
come_points g s fits written = by s.rests refl written
  where
    by : (rests : Bool) → s.rests ≡ rests → IsWritten (if rests then Writes else s.step) → s.has_points ≡ true
    by true rests written = (fits.hand.rests rests).0
    by false awake written = has_points g s s.step refl fits written

module _ (paper_sound : PaperIsSound) (floor : FloorAlwaysStands) (opening : World) (start : ℕ) (ghosts : Ghosts) (events : List Event) (c : Commit) (opens : OpensDecided opening start ghosts) (seen : OpensSeen opening.now)
    (in_hand : (run opening events).now.keeper.commit ≡ Some c) where
  lived : LifeFloored opening start events
  lived = life_floored opening start events opens.guarded opens.opened seen paper_sound

  first_below : IsFromProgress (phase_said (phase_at (run opening events).now)) → c.first.0 ≤ tail_at (run opening events).now
  first_below from =
      let its = lived.its in
      let far = from_stage lived.stage _ (subst IsFromProgress its.staged.word from) in
      let at = its.papers.at in
      let low = first_low _ _ _ _ its.sound.staged (omega (arith, far, at)) in
      let same = its.fits.hand.first c in_hand in
      let tail = its.life.words.tail in
      omega (arith, low, same, tail)

  end_below : (run opening events).now.keeper.has_points ≡ true → c.end.0 ≤ tail_at (run opening events).now
  end_below has =
      let its = lived.its in
      let ending = its.fits.hand.points c in_hand has in
      let low = end_low _ _ _ _ its.sound.staged ending.some in
      let same = ending.end_is in
      let tail = its.life.words.tail in
      omega (arith, low, same, tail)

  pub settled_first : IsFromProgress (phase_said (phase_at (run opening events).now)) → (c.first.0 ≤ tail_at (run opening events).now) × SettledFrom (tail_at opening.now) c.first.0 (life_ghosts opening ghosts events).log
  settled_first from = (first_below from, settles opening start ghosts events c.first.0 opens.guarded (first_below from) (below_first floor opening start ghosts events c opens seen in_hand from))

  points_there : EndIsSafe (run opening events).now c ⊎ IsWritten (come_to (run opening events).now.keeper) → (run opening events).now.keeper.has_points ≡ true
  points_there (inl safe) = safe.0
  points_there (inr written) = come_points (ground_of lived.p lived.p.epoch) (run opening events).now.keeper lived.its.fits written

  pub settled_end : EndIsSafe (run opening events).now c ⊎ IsWritten (come_to (run opening events).now.keeper) → (c.end.0 ≤ tail_at (run opening events).now) × SettledFrom (tail_at opening.now) c.end.0 (life_ghosts opening ghosts events).log
  settled_end so = (end_below (points_there so), settles opening start ghosts events c.end.0 opens.guarded (end_below (points_there so)) (below_end floor opening start ghosts events c opens seen in_hand so))
