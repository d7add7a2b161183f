-- The log beside a life has the life's history, each effect in its version.
use Rattle.std.proofs.Common.{◌≡◌, ℕ, ◌∙◌, refl, sym, ap, List, [], ◌∷◌, ◌++◌}
use Rattle.std.specs.Prelude.{Option, Some, None}
use Rattle.fkv_base.specs.declared.numbers.Version.{Version}
use Rattle.fkv_map.specs.declared.history.HistoryEntry.{HistoryEntry}
use Rattle.law_commit.specs.Below.fkv_world.Opened.{IsOpenedWorld}
use Rattle.law_commit.specs.Below.fkv_world.Past as world
use Rattle.law_commit.specs.Below.fkv_world.Runs.{World, happens, run}
use Rattle.law_commit.specs.Below.fkv_world.World.{Event}
use Rattle.law_commit.specs.Below.law_world.Guarded.Shows as guard
use Rattle.law_log.specs.Chains.{Cell, Dropped, Logged, Published, Reserved, Unborn}
use Rattle.law_log.specs.Ghosts.{Changes, Drops, GhostEvent, Ghosts, Log, Publishes, changed, dropped, effect_of, ghost_run, ghosts_after, log_after, published}
use Rattle.law_log.specs.Trace.{Effect}
use Rattle.law_order.specs.Known.Knows.{AreKnown}
use Rattle.law_order.proofs.OfEnabled.Own.{step_reserves}
use Rattle.law_order.proofs.OfKnown.Newest.{known_now}
use Rattle.law_order.proofs.OfOneHistory.InVersions.{AllChangeSo, IsOfVersion, event_so}
use Rattle.law_commit.specs.Below.law_refine.Calls.Calls.{effects_in_log, effects_of_life}
use Rattle.law_commit.specs.Below.law_refine.Events.Effects.{AreQuiet, Behind, ByRecord, InPlace, MakesEffect, Quietly, Stepped, TakesEffect, is_quiet, step_at}
use Rattle.law_commit.specs.Below.law_refine.Events.GhostEvents.{ghost_events, home_in, life_ghosts, mapped, serials_in}
use Rattle.law_commit.specs.Below.law_refine.Events.Reservations.{Reservation}
use Rattle.law_commit.specs.Below.law_refine.Events.Reserved.{IsUnbornFrom, ReservesNothing, tail_at}
use Rattle.law_commit.proofs.Below.law_refine.OfEvents.EventEffects.{life_makes}
use Rattle.law_commit.proofs.Below.law_refine.OfEvents.ReservedLife.{life_reserved}

-- ---- one event
dropped_history : (log : Log) (a : ℕ) (logged : Logged) → (dropped log a logged).history ≡ log.history
dropped_history log a (Reserved entry cell) = refl
dropped_history log a logged = refl

quiet_history : (home : ℕ → ℕ) (log : Log) (event : GhostEvent) → is_quiet event → (log_after home log event).history ≡ log.history
quiet_history home log (Drops a) quiet = dropped_history log a (log.cells a)
quiet_history home log (Publishes a) quiet = absurd quiet
quiet_history home log (Changes a entry) quiet = absurd quiet
quiet_history home log event quiet = refl

-- an effect in a version; and in front of others, if there is one
abbrev in_version : HistoryEntry → ℕ → Effect
in_version made its = record { entry = made; version = its }

abbrev with_made : Option HistoryEntry → ℕ → List Effect → List Effect
with_made None its before = before
with_made (Some made) its before = in_version made its ∷ before

changed_history : (log : Log) (a : ℕ) (entry : HistoryEntry) (its : ℕ) (logged : Logged) → IsOfVersion its logged → (changed log a entry logged).history ≡ in_version entry its ∷ log.history
changed_history log a entry its (Published cell) is = ap (λ (v : ℕ). in_version entry v ∷ log.history) is
changed_history log a entry its Unborn is = absurd is
changed_history log a entry its (Reserved other cell) is = absurd is
changed_history log a entry its (Dropped cell) is = absurd is

published_history : (home : ℕ → ℕ) (log : Log) (a : ℕ) (entry : HistoryEntry) (cell : Cell) (logged : Logged) → logged ≡ Reserved entry cell → (published home log a logged).history ≡ effect_of entry cell ∷ log.history
published_history home log a entry cell logged e = rw e refl

-- ---- the events of a step
quiet_histories : (home : ℕ → ℕ) (g : Ghosts) (events before : List GhostEvent) → AreQuiet events → (ghost_run home g (events ++ before)).log.history ≡ (ghost_run home g before).log.history
unfolding ghost_run ghosts_after
quiet_histories home g [] before quiet = refl
quiet_histories home g (event ∷ events) before quiet = quiet_history home (ghost_run home g (events ++ before)).log event quiet.0 ∙ quiet_histories home g events before quiet.1

takes_history : (home : ℕ → ℕ) (g : Ghosts) (its_step : Stepped) (events before : List GhostEvent) (made : Option HistoryEntry) → TakesEffect its_step events made → AllChangeSo its_step.version.0 (ghost_run home g before).log events
    → ((its : Reservation) → its_step.reserved ≡ Some its → (ghost_run home g before).log.cells its.addr ≡ Reserved its.entry its.cell)
    → (ghost_run home g (events ++ before)).log.history ≡ with_made made its_step.version.0 (ghost_run home g before).log.history
unfolding ghost_run ghosts_after
takes_history home g its_step events before made (Quietly all quiet) so reserved = quiet_histories home g all before quiet
takes_history home g its_step events before made (Behind event quiet rest) so reserved = quiet_history home _ event quiet ∙ takes_history home g its_step _ before _ rest so.1 reserved
takes_history home g its_step events before made (InPlace a entry changes) so reserved = changed_history (ghost_run home g before).log a entry its_step.version.0 ((ghost_run home g before).log.cells a) so.0
takes_history home g its_step events before made (ByRecord its publishes) so reserved =
    published_history home (ghost_run home g before).log its.addr its.entry its.cell ((ghost_run home g before).log.cells its.addr) (reserved its publishes.reserved)
    ∙ ap (λ (v : ℕ). in_version its.entry v ∷ (ghost_run home g before).log.history) publishes.its_version

made_history : (made : Option HistoryEntry) (version : Version) (history : List world.Effect) → effects_in_log (world.effect_made made version history) ≡ with_made made version.0 (effects_in_log history)
made_history None version history = refl
made_history (Some its) version history = refl

-- ---- a life
earlier_known : (opening : World) (ghosts : Ghosts) (before : List Event) (event : Event) → AreKnown opening ghosts (event ∷ before) → AreKnown opening ghosts before
unfolding AreKnown
earlier_known opening ghosts before event known = known.0

pub life_history : (opening : World) (start : ℕ) (ghosts : Ghosts) (events : List Event) → IsOpenedWorld opening → guard.IsOpened opening.now start → IsUnbornFrom (tail_at opening.now) ghosts → ReservesNothing ghosts
    → ghosts.log.history ≡ [] → AreKnown opening ghosts events → (life_ghosts opening ghosts events).log.history ≡ effects_of_life opening events
unfolding mapped run ghost_run
life_history opening start ghosts [] opened guarded unborn free none known = none ∙ sym (ap effects_in_log opened.no_history)
life_history opening start ghosts (event ∷ before) opened guarded unborn free none known =
    takes_history home ghosts (step_at w.now event) its_events (mapped opening before) its.made its.takes (event_so (serials_in opening.now) home (life_ghosts opening ghosts before).log w event (known_now opening ghosts before was))
    (λ it reserved. life_reserved opening start ghosts before guarded unborn free (step_reserves w.now event it reserved).0 it (step_reserves w.now event it reserved).1)
    ∙ (ap (with_made its.made (step_at w.now event).version.0) (life_history opening start ghosts before opened guarded unborn free none was)
    ∙ (sym (made_history its.made (step_at w.now event).version w.past.history) ∙ sym (ap effects_in_log its.history)))
  where
    home : ℕ → ℕ
    home = home_in opening.now.shape.bucket_bits

    w : World
    w = run opening before

    its_events : List GhostEvent
    its_events = ghost_events (serials_in opening.now) w event

    was : AreKnown opening ghosts before
    was = earlier_known opening ghosts before event known

    its : MakesEffect w.past.history (happens w event).past.history (step_at w.now event) its_events
    its = life_makes opening start before event guarded
