-- What a step of a try is to the log: where a read's chain begins, a change in place, and what its append is.
use Rattle.std.specs.Prelude.{ℕ, ◌==◌, if◌then◌else◌, List, [], ◌∷◌, None}
use Rattle.fkv_map.specs.declared.operations.Op.{Op}
use Rattle.fkv_map.specs.declared.operations.Op.TheVariants.{Read}
use Rattle.fkv_map.specs.Keys.{reply_from}
use Rattle.law_log.specs.Ghosts.{GhostEvent, FindsEntry, Changes}
use Rattle.fkv_plane.specs.declared.asks.Ask.{Ask}
use Rattle.fkv_plane.specs.declared.asks.Ask.TheVariants.{Done}
use Rattle.fkv_plane.specs.declared.places.Places.{Places}
use Rattle.fkv_index.specs.declared.finding.Found.{Found}
use Rattle.fkv_index.specs.declared.finding.Found.TheVariants.{Slot, NoSlot}
use Rattle.fkv_index.specs.declared.finding.FindAnswer.{FindAnswer}
use Rattle.fkv_index.specs.Finding.{find_next_ask}
use Rattle.law_world.specs.Below.fkv_ops.TheTrying.{Trying}
use Rattle.law_world.specs.Below.fkv_ops.TheTrying.TheVariants.{Walks, SwapsValue, ChangesValue, Appends}
use Rattle.law_world.specs.Below.fkv_ops.TheWalking.{Walking}
use Rattle.law_world.specs.Below.fkv_ops.TheWalking.TheVariants.{Finds}
use Rattle.law_world.specs.Below.fkv_ops.Trying.{TryState}
use Rattle.law_world.specs.Below.fkv_ops.Values.{value_of}
use Rattle.law_world.specs.Below.fkv_ops.Walking.{WalkState}
use Rattle.law_world.specs.Below.fkv_pending.PendingRequest.{PendingRequest}
use Rattle.law_refine.specs.Events.Appends.{entry_made, new_record, append_ghosts}

-- the load that ends a search tells where the chain begins: at the entry's record, or nowhere
abbrev pub found_ghosts : ℕ → Found → List GhostEvent
found_ghosts reader (Slot place word) = FindsEntry reader ∷ []
found_ghosts reader NoSlot = FindsEntry reader ∷ []
found_ghosts reader its = []

abbrev pub find_ghosts : ℕ → Ask FindAnswer → List GhostEvent
find_ghosts reader (Done its) = found_ghosts reader its.found
find_ghosts reader ask = []

abbrev pub walk_ghosts : Places → ℕ → WalkState → Walking → ℕ → List GhostEvent
walk_ghosts p reader w Finds reply = find_ghosts reader (find_next_ask p w.finding reply)
walk_ghosts p reader w step reply = []

-- of a read; an update's search is none
abbrev pub search_ghosts : Places → Op → ℕ → WalkState → ℕ → List GhostEvent
search_ghosts p (Read key) reader w reply = walk_ghosts p reader w w.step reply
search_ghosts p op reader w reply = []

-- by the try's control state, for this request of a session: a Swap changes a value in place, and so does a Cas that is won
abbrev pub try_ghosts : Places → ℕ → ℕ → ℕ → PendingRequest → TryState → Trying → ℕ → List GhostEvent
try_ghosts p room session reader pending t Walks reply = search_ghosts p pending.request.op reader t.walk reply
try_ghosts p room session reader pending t (SwapsValue addr) reply = Changes addr.0 (entry_made session pending (reply_from None t.request.op)) ∷ []
try_ghosts p room session reader pending t (ChangesValue addr old) reply = if reply == old then Changes addr.0 (entry_made session pending (reply_from (value_of old) t.request.op)) ∷ [] else []
try_ghosts p room session reader pending t (Appends its) reply = append_ghosts room t.append (new_record session pending its) t.append.step reply
try_ghosts p room session reader pending t step reply = []
