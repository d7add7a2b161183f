-- The log of a sweep beside a life: it grows with each event, and once the sweep has come to its end the log does without what lies below that.
use Rattle.std.proofs.Common.{◌≡◌, ℕ, ◌≤◌, inl, inr, subst, sym, ap, arith, List, ◌++◌}
use Rattle.fkv_sweep.proofs.Shown.{IsSweepSound, sweep_grown_sound}
use Rattle.fkv_sweep.specs.Sweeping.{Sweeper}
use Rattle.fkv_sweep.specs.SweptLogs as swept
use Rattle.fkv_sweep.specs.SweptLogs.{Swept, SweptLog}
use Rattle.law_commit.specs.Below.fkv_flush.GuardLevels.{levels_of}
use Rattle.law_commit.specs.Below.fkv_world.Runs.{run}
use Rattle.law_commit.specs.Below.fkv_world.World.{Event}
use Rattle.law_commit.specs.Below.law_refine.Events.GhostEvents.{home_in, life_ghosts, mapped}
use Rattle.law_commit.proofs.Below.law_world.OfGuarded.Worlds.{life_shows}
use Rattle.law_log.specs.Begins.{Live}
use Rattle.law_log.specs.Enabled.{AreChains, AreEnabled}
use Rattle.law_log.specs.Ghosts.{Log}
use Rattle.law_log.proofs.Shown.{run_held}
use Rattle.law_order.specs.Known.Begins.{BegunLife, home_of_world}
use Rattle.law_order.specs.Swept.Logs.{swept_log}
use Rattle.law_order.proofs.OfOneHistory.StaysLive.{life_stays}
use Rattle.law_order.proofs.OfSwept.Grows.{grown_same, stays_grown}
use Rattle.law_order.proofs.OfSwept.Live.{live_swept}

-- what is swept stays so as the log grows
pub swept_stays : (s : Sweeper) (before after : SweptLog) → s.at.0 ≤ s.to.0 → swept.Grows s.to.0 before after → Swept s before → Swept s after
swept_stays s before after upto grows passed = λ a cell from below e. elim (passed a cell from below (grows.old a cell (omega (arith, below, upto)) e)) [
  | inl gone ↦ inl gone
  | inr above ↦ inr (record {
    addr = above.addr;
    above = above.above;
    in_chain = grows.chains _ above.addr above.in_chain;
    its_key = grows.keys above.addr cell.key above.above above.its_key;
  })
]

module _ (life : BegunLife) where
  abbrev H : ℕ → ℕ
  H = home_of_world life.opening

  abbrev log_behind : List Event → Log
  log_behind events = (life_ghosts life.opening life.ghosts events).log

  -- from a moment on at which all below an address is fixed
  pub life_grows : (to : ℕ) (later before : List Event) → AreEnabled H life.ghosts (mapped life.opening (later ++ before)) → to ≤ (log_behind before).fixed
      → swept.Grows to (swept_log (log_behind before)) (swept_log (log_behind (later ++ before)))
  life_grows to later before enabled low =
      life_stays life (λ begin home log. swept.Grows begin (swept_log (log_behind before)) (swept_log log)) to later before (stays_grown (swept_log (log_behind before))) enabled low (grown_same to (swept_log (log_behind before)))

  -- so what a sweep has swept stays swept
  pub life_swept : (s : Sweeper) (later before : List Event) → AreEnabled H life.ghosts (mapped life.opening (later ++ before)) → s.at.0 ≤ s.to.0 → s.to.0 ≤ (log_behind before).fixed → Swept s (swept_log (log_behind before))
      → Swept s (swept_log (log_behind (later ++ before)))
  life_swept s later before enabled upto low passed = swept_stays s (swept_log (log_behind before)) (swept_log (log_behind (later ++ before))) upto (life_grows s.to.0 later before enabled low) passed

  -- and one whose turn goes on stays sound
  pub life_sound : (s : Sweeper) (later before : List Event) → AreEnabled H life.ghosts (mapped life.opening (later ++ before)) → s.to.0 ≤ (log_behind before).fixed → IsSweepSound s (swept_log (log_behind before))
      → IsSweepSound s (swept_log (log_behind (later ++ before)))
  life_sound s later before enabled low sound = sweep_grown_sound s (swept_log (log_behind before)) (swept_log (log_behind (later ++ before))) (life_grows s.to.0 later before enabled low) sound

  -- once all is passed the log does without the records below the end
  pub life_live_swept : (s : Sweeper) (events : List Event) → AreEnabled H life.ghosts (mapped life.opening events) → s.shape.bucket_bits ≡ life.opening.now.shape.bucket_bits → s.at.0 ≡ s.to.0 → Swept s (swept_log (log_behind events))
      → Live s.from.0 H (log_behind events) → Live s.to.0 H (log_behind events)
  life_live_swept s events enabled bits done passed live =
      let held = run_held H life.map life.number life.ghosts (mapped life.opening events) life.begins.log enabled in
      let log : Log = log_behind events in
      let same : H ≡ home_in s.shape.bucket_bits = ap home_in (sym bits) in
      subst (λ (home : ℕ → ℕ). Live s.to.0 home log) (sym same)
      (live_swept s log (subst (λ (home : ℕ → ℕ). AreChains home log) same held.chains) held.none done passed (subst (λ (home : ℕ → ℕ). Live s.from.0 home log) same live))

  -- the head lies at or below the flushed offset, so each record below it is on the device
  pub head_flushed : (events : List Event) → (levels_of (run life.opening events).now.words).head ≤ (levels_of (run life.opening events).now.words).flushed
  head_flushed events =
      let shows = life_shows life.opening life.start events life.begins.store.now in
      subst (λ (words : List ℕ). (levels_of words).head ≤ (levels_of words).flushed) shows.words shows.sound.guard.in_order.head_below
