-- When calls and answers are enabled, in the log's words, beside what has taken effect and what was told before.
use Rattle.std.specs.Prelude.{◌≡◌, ⊤, ℕ, Some, None, List, [], ◌∷◌, ◌++◌}
use Rattle.fkv_map.specs.declared.history.HistoryEntry.{HistoryEntry}
use Rattle.law_log.specs.Trace.{Effect, TraceLine, CallsUpdate, RefusesUpdate, GivesResult, CallsRead, AnswersRead, IsIn, called_as, HasUpdate, HasReply}
use Rattle.law_world.specs.Below.fkv_world.Past as world
use Rattle.law_world.specs.Below.fkv_world.Runs.{World, run}
use Rattle.law_world.specs.Below.fkv_world.World.{Event}
use Rattle.law_refine.specs.Events.GhostEvents.{serials_in, traced_by}
use Rattle.law_refine.specs.Events.Lines.{lines_of, lines_added}

-- what has taken effect in a life, as the log's effects
abbrev pub effect_in_log : world.Effect → Effect
effect_in_log its = record { entry = its.entry; version = its.version.0 }

abbrev pub effects_in_log : List world.Effect → List Effect
effects_in_log [] = []
effects_in_log (its ∷ before) = effect_in_log its ∷ effects_in_log before

-- in a life so far, and the lines of its trace
abbrev pub effects_of_life : World → List Event → List Effect
effects_of_life opening events = effects_in_log (run opening events).past.history

abbrev pub lines_of_life : World → List Event → List TraceLine
lines_of_life opening events = lines_of (serials_in opening.now) (run opening events).past.trace

-- the lines that an event adds to those
abbrev pub event_adds : World → List Event → Event → List TraceLine
event_adds opening before event = lines_added (serials_in opening.now) (run opening before).past.trace (traced_by (run opening before) event)

-- what took effect, whatever the versions, the newest first
abbrev pub entries_of : List Effect → List HistoryEntry
entries_of [] = []
entries_of (effect ∷ before) = effect.entry ∷ entries_of before

-- an update was called, and not refused since, and has not taken effect
pub record IsUpdateInHand (effects : List Effect) (lines : List TraceLine) (entry : HistoryEntry) : Type 0 where
  pub called : called_as lines entry.session entry.serial.0 ≡ Some entry.op
  pub none_yet : HasUpdate effects entry.session entry.serial.0 → ⊥

-- A call's name is free; an update that is refused has not taken effect; a result is the reply of the update's effect. A read is called by a number that
-- no earlier line calls.
abbrev pub IsCallEnabled : List Effect → List TraceLine → TraceLine → Type 0
IsCallEnabled effects lines (CallsUpdate session serial op) = called_as lines session serial ≡ None
IsCallEnabled effects lines (RefusesUpdate session serial) = HasUpdate effects session serial → ⊥
IsCallEnabled effects lines (GivesResult session serial reply) = HasReply effects session serial reply
IsCallEnabled effects lines (CallsRead reader key) = (other : ℕ) → IsIn (CallsRead reader other) lines → ⊥
IsCallEnabled effects lines (AnswersRead reader reply) = ⊤

-- each of these lines, behind others and those of them before it
abbrev pub EachIsEnabled : (List TraceLine → TraceLine → Type 0) → List TraceLine → List TraceLine → Type 0
EachIsEnabled IsEnabled lines [] = ⊤
EachIsEnabled IsEnabled lines (line ∷ before) = IsEnabled (before ++ lines) line × EachIsEnabled IsEnabled lines before
