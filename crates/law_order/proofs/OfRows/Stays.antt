-- What requests and attempts know stays along the log's events of the next event of a life.
use Rattle.std.proofs.Common.{ℕ, List, ◌∷◌}
use Rattle.fkv_map.specs.declared.history.HistoryEntry.{HistoryEntry}
use Rattle.law_log.specs.Ghosts.{Changes, Ghosts, GhostEvent, log_after}
use Rattle.law_log.specs.Enabled.{AreEnabled}
use Rattle.law_log.proofs.Shown.{enabled_before}
use Rattle.law_commit.specs.Below.fkv_ops.Seen.{Seen}
use Rattle.law_commit.specs.Below.fkv_pending.PendingRequest.{PendingRequest}
use Rattle.law_commit.specs.Below.fkv_pending.Attempting.{AttemptState}
use Rattle.law_commit.specs.Below.law_local.Tries.AttemptRows.{AttemptKnows, KeepsForAttempt, PendingKnows}
use Rattle.law_commit.specs.Below.fkv_world.Runs.{World, run}
use Rattle.law_commit.specs.Below.fkv_world.World.{Event}
use Rattle.law_order.specs.Known.Begins.{BegunLife, home_of_world}
use Rattle.law_commit.specs.Below.law_refine.Events.Effects.{step_at}
use Rattle.law_commit.specs.Below.law_refine.Events.GhostEvents.{ghost_events, life_ghosts, mapped, serials_in}
use Rattle.law_commit.proofs.Below.law_refine.OfEvents.EventEffects.{life_makes}
use Rattle.law_order.proofs.OfRows.Along.{attempt_along, pending_along}
use Rattle.law_order.proofs.OfRows.Changed.{IsChangedBy, event_change}

-- the log's events until then were enabled
pub enabled_until : (opening : World) (ghosts : Ghosts) (before : List Event) (event : Event) → AreEnabled (home_of_world opening) ghosts (mapped opening (event ∷ before)) → AreEnabled (home_of_world opening) ghosts (mapped opening before)
unfolding mapped
enabled_until opening ghosts before event enabled = enabled_before (home_of_world opening) ghosts (ghost_events (serials_in opening.now) (run opening before) event) (mapped opening before) enabled

pub pending_stays : (life : BegunLife) (before : List Event) (event : Event) (pending : PendingRequest) (seen : Seen)
    → AreEnabled (home_of_world life.opening) life.ghosts (mapped life.opening (event ∷ before))
    → PendingKnows (home_of_world life.opening) (life_ghosts life.opening life.ghosts before).log pending seen → PendingKnows (home_of_world life.opening) (life_ghosts life.opening life.ghosts (event ∷ before)).log pending seen
unfolding mapped
pending_stays life before event pending seen enabled knows =
    pending_along (home_of_world life.opening) life.map life.number life.ghosts life.begins.log pending seen (ghost_events (serials_in life.opening.now) (run life.opening before) event) (mapped life.opening before) enabled knows

-- what is changed in place by the event has to leave what the attempt copies
pub attempt_stays : (life : BegunLife) (before : List Event) (event : Event) (a : AttemptState)
    → AreEnabled (home_of_world life.opening) life.ghosts (mapped life.opening (event ∷ before))
    → ((at : ℕ) (entry : HistoryEntry) → IsChangedBy (run life.opening before) event at
    → KeepsForAttempt (home_of_world life.opening) (life_ghosts life.opening life.ghosts before).log (log_after (home_of_world life.opening) (life_ghosts life.opening life.ghosts before).log (Changes at entry)) a a.step)
    → AttemptKnows (home_of_world life.opening) (life_ghosts life.opening life.ghosts before).log a → AttemptKnows (home_of_world life.opening) (life_ghosts life.opening life.ghosts (event ∷ before)).log a
unfolding mapped
attempt_stays life before event a enabled keeps knows =
    let own : List GhostEvent = ghost_events (serials_in life.opening.now) (run life.opening before) event in
    let makes = life_makes life.opening life.start before event life.begins.store.now in
    attempt_along (home_of_world life.opening) life.map life.number life.ghosts life.begins.log a (IsChangedBy (run life.opening before) event) (step_at (run life.opening before).now event) own (mapped life.opening before) makes.made makes.takes
    (event_change (serials_in life.opening.now) (run life.opening before) event) enabled keeps knows
