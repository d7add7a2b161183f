-- That the log's events of a step are enabled, but for what its session knows: by what takes effect by them, and by the address that they take.
use Rattle.std.proofs.Common.{◌≡◌, ℕ, List, [], ◌∷◌, ◌++◌, refl, sym, subst}
use Rattle.std.specs.Prelude.{⊤, Option, Some}
use Rattle.fkv_map.specs.declared.history.HistoryEntry.{HistoryEntry}
use Rattle.law_log.specs.Chains.{Unborn, Reserved as HoldsReserved}
use Rattle.law_log.specs.Ghosts.{Log, Ghosts, GhostEvent, Reserves, Publishes, Changes, ghost_run}
use Rattle.law_log.specs.Enabled.{IsInHand, NoneAbove, IsPublishEnabled}
use Rattle.law_log.proofs.Shown.{run_on}
use Rattle.law_commit.specs.Below.law_refine.Heads.Heads.{AllMeetHeads, IsAtHead, meets_head}
use Rattle.law_commit.specs.Below.law_refine.Events.Effects.{AreQuiet, Behind, ByRecord, InPlace, PublishesIt, Quietly, Stepped, TakesEffect, is_quiet}
use Rattle.law_commit.specs.Below.law_refine.Events.Reservations as moved
use Rattle.law_commit.specs.Below.law_refine.Events.Reservations.{AreStill, DropsOne, Keeps, LosesOne, MovesOn, PublishesOne, Reservation, TakesOne, TakesTail, is_still}

-- ---- by what takes effect
-- what is published stands where it has to, and its update is in hand; so is that of a change
abbrev pub IsTakeEnabled : (ℕ → ℕ) → Ghosts → GhostEvent → Type 0
IsTakeEnabled home g (Publishes a) = IsPublishEnabled home g (g.log.cells a)
IsTakeEnabled home g (Changes a entry) = IsInHand g entry
IsTakeEnabled home g event = ⊤

abbrev pub AreTakesEnabled : (ℕ → ℕ) → Ghosts → List GhostEvent → Type 0
AreTakesEnabled home g [] = ⊤
AreTakesEnabled home g (event ∷ before) = IsTakeEnabled home g event × AreTakesEnabled home g before

quiet_enabled : (home : ℕ → ℕ) (g : Ghosts) (event : GhostEvent) → is_quiet event → IsTakeEnabled home g event
quiet_enabled home g (Publishes a) quiet = absurd quiet
quiet_enabled home g (Changes a entry) quiet = absurd quiet
quiet_enabled home g event quiet = tt

all_quiet_enabled : (home : ℕ → ℕ) (g : Ghosts) (events : List GhostEvent) → AreQuiet events → AreTakesEnabled home g events
all_quiet_enabled home g [] quiet = tt
all_quiet_enabled home g (event ∷ before) quiet = (quiet_enabled home g event quiet.0, all_quiet_enabled home g before quiet.1)

published_enabled : (home : ℕ → ℕ) (g : Ghosts) (its : Reservation) → meets_head home g.log (Publishes its.addr) → g.log.cells its.addr ≡ HoldsReserved its.entry its.cell → NoneAbove g.log (home its.cell.key) its.cell.version → IsInHand g its.entry
    → IsPublishEnabled home g (g.log.cells its.addr)
published_enabled home g its meets there above in_hand = subst (IsPublishEnabled home g) (sym there) (subst (IsAtHead home g.log) there meets, above, in_hand)

pub takes_enabled : (home : ℕ → ℕ) (g : Ghosts) (its_step : Stepped) (events : List GhostEvent) (made : Option HistoryEntry) → TakesEffect its_step events made → AllMeetHeads home g events
    → ((its : Reservation) → its_step.reserved ≡ Some its → g.log.cells its.addr ≡ HoldsReserved its.entry its.cell)
    → ((its : Reservation) → PublishesIt its_step its → NoneAbove g.log (home its.cell.key) its.cell.version)
    → ((entry : HistoryEntry) → made ≡ Some entry → IsInHand g entry) → AreTakesEnabled home g events
unfolding AllMeetHeads ghost_run
takes_enabled home g its_step events made (Quietly its quiet) meets reserved above in_hand = all_quiet_enabled home g its quiet
takes_enabled home g its_step events made (Behind event quiet rest) meets reserved above in_hand = (quiet_enabled home g event quiet, takes_enabled home g its_step _ made rest meets.1 reserved above in_hand)
takes_enabled home g its_step events made (InPlace a entry changes) meets reserved above in_hand = (in_hand entry refl, tt)
takes_enabled home g its_step events made (ByRecord its publishes) meets reserved above in_hand =
    let there : g.log.cells its.addr ≡ HoldsReserved its.entry its.cell = reserved its publishes.reserved in
    (published_enabled home g its meets.0 there (above its publishes) (in_hand its.entry refl), tt)

pub behind_enabled : (home : ℕ → ℕ) (g : Ghosts) (later before : List GhostEvent) → AreTakesEnabled home g (later ++ before) → AreTakesEnabled home g before
behind_enabled home g [] before enabled = enabled
behind_enabled home g (event ∷ later) before enabled = behind_enabled home g later before enabled.1

-- ---- by the address that is taken: nothing is there yet
abbrev pub TakesUnborn : Log → GhostEvent → Type 0
TakesUnborn log (Reserves a entry cell) = log.cells a ≡ Unborn
TakesUnborn log event = ⊤

abbrev pub AllTakeUnborn : Log → List GhostEvent → Type 0
AllTakeUnborn log [] = ⊤
AllTakeUnborn log (event ∷ before) = TakesUnborn log event × AllTakeUnborn log before

still_unborn : (log : Log) (event : GhostEvent) → is_still event → TakesUnborn log event
still_unborn log (Reserves a entry cell) still = absurd still
still_unborn log event still = tt

all_still_unborn : (log : Log) (events : List GhostEvent) → AreStill events → AllTakeUnborn log events
all_still_unborn log [] still = tt
all_still_unborn log (event ∷ before) still = (still_unborn log event still.0, all_still_unborn log before still.1)

pub takes_unborn : (log : Log) (place : Option ℕ) (change : ℕ → ℕ) (reply : ℕ) (events : List GhostEvent) (before after : Option Reservation) → MovesOn place change reply events before after
    → ((a : ℕ) → TakesTail place change reply a → log.cells a ≡ Unborn) → AllTakeUnborn log events
takes_unborn log place change reply events before after (Keeps its kept still) unborn = all_still_unborn log its still
takes_unborn log place change reply events before after (moved.Behind event still rest) unborn = (still_unborn log event still, takes_unborn log place change reply _ before after rest unborn)
takes_unborn log place change reply events before after (TakesOne its takes) unborn = (unborn its.addr takes, tt)
takes_unborn log place change reply events before after (LosesOne its takes) unborn = (tt, (unborn its.addr takes, tt))
takes_unborn log place change reply events before after (PublishesOne its) unborn = (tt, tt)
takes_unborn log place change reply events before after (DropsOne its) unborn = (tt, tt)

pub behind_unborn : (log : Log) (later before : List GhostEvent) → AllTakeUnborn log (later ++ before) → AllTakeUnborn log before
behind_unborn log [] before unborn = unborn
behind_unborn log (event ∷ later) before unborn = behind_unborn log later before unborn.1

-- ---- both
pub record IsReady (home : ℕ → ℕ) (g : Ghosts) (events : List GhostEvent) : Type 0 where
  pub takes : AreTakesEnabled home g events
  pub unborn : AllTakeUnborn g.log events

pub ready_behind : (home : ℕ → ℕ) (g : Ghosts) (later before : List GhostEvent) → IsReady home g (later ++ before) → IsReady home g before
ready_behind home g later before ready = record { takes = behind_enabled home g later before ready.takes; unborn = behind_unborn g.log later before ready.unborn }

-- ---- records are published at the heads of their chains, in a part of a run too
pub meets_then : (home : ℕ → ℕ) (g : Ghosts) (later before : List GhostEvent) → AllMeetHeads home g (later ++ before) → AllMeetHeads home (ghost_run home g before) later
unfolding AllMeetHeads
meets_then home g [] before meets = tt
meets_then home g (event ∷ later) before meets = (subst (λ (x : Ghosts). meets_head home x.log event) (run_on home g later before) meets.0, meets_then home g later before meets.1)
