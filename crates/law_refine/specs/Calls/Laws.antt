-- What the laws of `calls` say.
use Rattle.std.specs.Prelude.{◌≡◌, ◌∷◌, ℕ, List, []}
use Rattle.law_log.specs.Ghosts.{Ghosts}
use Rattle.law_log.specs.Trace.{history_of}
use Rattle.law_world.specs.Runs.Added.{IsEffectOf}
use Rattle.law_world.specs.Below.fkv_world.Opened.{IsOpenedWorld}
use Rattle.law_world.specs.Below.fkv_world.Past.{Effect}
use Rattle.law_world.specs.Below.fkv_world.Runs.{World, run}
use Rattle.law_world.specs.Below.fkv_world.World.{Event}
use Rattle.law_refine.specs.Calls.Calls.{EachIsEnabled, IsUpdateInHand, IsCallEnabled, effects_of_life, entries_of, event_adds, lines_of_life}
use Rattle.law_world.specs.Guarded.Shows as guard
use Rattle.law_refine.specs.Events.GhostEvents.{home_in, life_ghosts, mapped}
use Rattle.law_refine.specs.Events.Published.{AllMeetPublished}
use Rattle.law_refine.specs.Events.Reserved.{IsUnbornFrom, ReservesNothing, tail_at}

-- an update that takes effect was called, not refused since, and has not taken effect before
abbrev pub EffectsAreOfUpdatesInHand : Type 0
EffectsAreOfUpdatesInHand =
    (opening : World) (before : List Event) (event : Event) (its : Effect) → IsOpenedWorld opening → IsEffectOf (run opening before) event its
    → IsUpdateInHand (effects_of_life opening before) (lines_of_life opening before) its.entry

-- each line that an event adds is enabled beside the lines before it
abbrev pub CallsAreEnabled : Type 0
CallsAreEnabled =
    (opening : World) (before : List Event) (event : Event) → IsOpenedWorld opening
    → EachIsEnabled (IsCallEnabled (effects_of_life opening (event ∷ before))) (lines_of_life opening before) (event_adds opening before event)

-- the history of the log has the entries of the life's
abbrev pub HistoryHasTheEntries : Type 0
HistoryHasTheEntries =
    (opening : World) (start : ℕ) (ghosts : Ghosts) (events : List Event) → IsOpenedWorld opening → guard.IsOpened opening.now start → IsUnbornFrom (tail_at opening.now) ghosts → ReservesNothing ghosts
    → ghosts.log.history ≡ [] → AllMeetPublished (home_in opening.now.shape.bucket_bits) ghosts (mapped opening events)
    → entries_of (life_ghosts opening ghosts events).log.history ≡ entries_of (effects_of_life opening events)

-- in their order
abbrev pub HistoryIsTheLifes : Type 0
HistoryIsTheLifes =
    (opening : World) (start : ℕ) (ghosts : Ghosts) (events : List Event) → IsOpenedWorld opening → guard.IsOpened opening.now start → IsUnbornFrom (tail_at opening.now) ghosts → ReservesNothing ghosts
    → ghosts.log.history ≡ [] → AllMeetPublished (home_in opening.now.shape.bucket_bits) ghosts (mapped opening events)
    → history_of (life_ghosts opening ghosts events).log.history ≡ history_of (effects_of_life opening events)
