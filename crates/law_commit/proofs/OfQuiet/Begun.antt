-- Each commit that has begun in a life has come to wait-flush. So each session's point of its number stays and splits the session's effects, for ever.
use Rattle.std.proofs.Common.{◌≡◌, ℕ, ◌≤◌, List, [], ◌∷◌, arith, ap}
use Rattle.std.specs.Prelude.{Some}
use Rattle.fkv_base.specs.declared.numbers.Serial.{Serial}
use Rattle.fkv_base.specs.declared.numbers.Version.{Version}
use Rattle.law_refine.specs.Below.fkv_commit.Commit.{Commit}
use Rattle.law_refine.specs.Below.fkv_keeper.TheKeeping.{Keeping}
use Rattle.law_refine.specs.Below.fkv_keeper.TheKeeping.TheVariants.{Writes}
use Rattle.law_refine.specs.Below.fkv_keeper.Keeping.{KeeperState}
use Rattle.law_refine.specs.Below.fkv_world.Runs.{World, run}
use Rattle.law_refine.specs.Below.fkv_world.World.{Event, Now}
use Rattle.law_commit.specs.BegunCommits.{life_begun}
use Rattle.law_commit.specs.Decided.Ended.{Span}
use Rattle.law_commit.specs.Floor.Stands.{stage_number}
use Rattle.law_commit.specs.Phases.Staged.{Flushes, Stage, StepAt}
use Rattle.law_commit.specs.Quiet.{BegunHaveFlushed, OpensQuiet, flush_rank, rank_now, rank_said}
use Rattle.law_commit.proofs.AllBegun.{AllBegun, event_begun, one_of, opened_begun, weaker}
use Rattle.law_commit.proofs.OfPhases.LifeStages.{life_staged}
use Rattle.law_commit.proofs.OfQuiet.Ranks.{ranks_rise, staged_rank}

-- ---- a life
higher : (number low high : ℕ) → low ≤ high → flush_rank number ≤ low → flush_rank number ≤ high
higher number low high up below = omega (arith, up, below)

writes_flush : (number : Version) (stage : Stage) (s : KeeperState) (step : Keeping) → step ≡ Writes → StepAt number stage s step → stage ≡ Flushes
writes_flush number stage s Writes at is = is.0
writes_flush number stage s step at is = cc

module _ (opening : World) (start : ℕ) (opens : OpensQuiet opening start) where
  abbrev HasFlushed : List Event → ℕ → Type 0
  HasFlushed events number = flush_rank number ≤ rank_now opening events

  -- the commit that is written
  pub written : (events : List Event) → (run opening events).now.keeper.step ≡ Writes → (c : Commit) → (run opening events).now.keeper.commit ≡ Some c → HasFlushed events c.number.0
  written events writes c is =
      let n : Now = (run opening events).now in
      let lived = life_staged opening start events opens.guarded opens.opened opens.seen.rests in
      let said = staged_rank n lived.number lived.stage lived.staged in
      let flushes = ap stage_number (writes_flush lived.number lived.stage n.keeper n.keeper.step writes lived.staged.keeper.step) in
      let same = ap (λ (v : Version). v.0) (lived.staged.keeper.has.hand c is).0 in
      omega (arith, said, flushes, same)

  -- so has each that has begun
  abbrev Flushed : List Event → Span → List Serial → Type 0
  Flushed events x points = HasFlushed events x.number.0

  all_flushed : (events : List Event) → AllBegun (Flushed events) (life_begun opening events)
  unfolding run
  all_flushed [] = opened_begun (Flushed []) opening (let said = ap rank_said opens.seen.rests.says in omega (arith, said))
  all_flushed (event ∷ before) =
      let up = ranks_rise opening start before event opens in
      let all = weaker (Flushed before) (Flushed (event ∷ before)) (life_begun opening before) (λ x points. higher x.number.0 (rank_now opening before) (rank_now opening (event ∷ before)) up) (all_flushed before) in
      event_begun (Flushed (event ∷ before)) opening before event (λ writes c is. higher c.number.0 (rank_now opening before) (rank_now opening (event ∷ before)) up (written before writes c is)) all

pub begun_have_flushed : BegunHaveFlushed
begun_have_flushed opening start events c opens there = one_of (Flushed opening start opens events) c (life_begun opening events) there (all_flushed opening start opens events)
