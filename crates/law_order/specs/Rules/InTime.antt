-- A read gives a value that its key had between its call and its answer.
use Rattle.std.specs.Prelude.{◌≡◌, ℕ, List, ◌∷◌, ◌++◌}
use Rattle.std.specs.FinMap.{get}
use Rattle.law_opening.specs.Below.fkv_core.Openings.{beginning}
use Rattle.fkv_map.specs.History.{content}
use Rattle.fkv_map.specs.Map.{Map, reply_to_read}
use Rattle.fkv_map.specs.declared.history.HistoryEntry.{HistoryEntry}
use Rattle.fkv_map.specs.declared.operations.Reply.{Reply}
use Rattle.law_opening.specs.Below.fkv_opening.TheOpened.{Opened}
use Rattle.law_opening.specs.Log.Maps.{opening_map}
use Rattle.law_log.specs.Trace.{AnswersRead, CallsRead, IsIn, history_of}
use Rattle.law_order.specs.Rules.Ordered.{effects_so_far}
use Rattle.law_commit.specs.Below.fkv_world.World.{Event, Now}
use Rattle.law_commit.specs.Below.law_refine.Calls.Calls.{event_adds}

-- the reply is the key's value after all of a history at one moment, and some of what it has more at a later one
pub record IsInTime (m : Map) (first last : List HistoryEntry) (key : ℕ) (reply : Reply) : Type 0 where
  pub between : List HistoryEntry
  pub newer : List HistoryEntry
  pub all : last ≡ first ++ (between ++ newer)
  pub value : reply ≡ reply_to_read (get (content m (first ++ between)) key)

-- Each read that was answered gives its key's value at some moment between its call and its answer.
abbrev pub ReadsInTime : Opened → Now → List ℕ → List Event → Type 0
ReadsInTime o n bytes events =
    (later between earlier : List Event) (call answer : Event) (reader key : ℕ) (reply : Reply) → events ≡ later ++ answer ∷ (between ++ call ∷ earlier)
    → IsIn (CallsRead reader key) (event_adds (beginning n bytes) earlier call) → IsIn (AnswersRead reader reply) (event_adds (beginning n bytes) (between ++ call ∷ earlier) answer)
    → IsInTime (opening_map bytes o) (history_of (effects_so_far n bytes (call ∷ earlier))) (history_of (effects_so_far n bytes (answer ∷ (between ++ call ∷ earlier)))) key reply
