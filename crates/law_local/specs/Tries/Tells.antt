-- What the answer of a try tells of the log.
use Rattle.std.specs.Prelude.{◌≡◌, ℕ, ⊤, Some, None}
use Rattle.fkv_plane.specs.declared.asks.Ask.{Ask}
use Rattle.fkv_plane.specs.declared.asks.Ask.TheVariants.{Done}
use Rattle.fkv_plane.specs.declared.places.Places.{Places}
use Rattle.fkv_index.specs.declared.finding.Found.{Found}
use Rattle.fkv_index.specs.declared.finding.Found.TheVariants.{Slot, NoSlot}
use Rattle.fkv_index.specs.declared.finding.FindAnswer.{FindAnswer}
use Rattle.fkv_index.specs.Slots.{entry_addr}
use Rattle.fkv_index.specs.Finding.{find_next_ask}
use Rattle.law_log.specs.Chains.{value_at, head_of}
use Rattle.law_log.specs.Ghosts.{Log}
use Rattle.fkv_ops.specs.declared.answers.Reason.TheVariants.{Disk}
use Rattle.fkv_ops.specs.declared.answers.TryAnswer.{TryAnswer}
use Rattle.fkv_ops.specs.declared.answers.TryAnswer.TheVariants as answer
use Rattle.fkv_ops.specs.declared.requests.Request.{Request}
use Rattle.fkv_ops.specs.declared.requests.Seen.{Seen}
use Rattle.fkv_ops.specs.declared.trying.Trying.{Trying}
use Rattle.fkv_ops.specs.declared.trying.Trying.TheVariants.{Walks, LoadsAnswer}
use Rattle.fkv_ops.specs.declared.walking.Walking.{Walking}
use Rattle.fkv_ops.specs.declared.walking.Walking.TheVariants.{Finds}
use Rattle.fkv_ops.specs.Trying.{TryState, try_ask, try_next}
use Rattle.fkv_ops.specs.Walking.{WalkState, walk_next}
use Rattle.law_local.specs.Tries.WalkRows.{begin_of}
use Rattle.law_local.specs.Tries.HeldRows.{IsSoughtFrom}
use Rattle.law_local.specs.Tries.TryRows.{key_in, head_in, floor_in, first_of}

-- A read finds the value of the first record of its key from an address on, or that it has none, or it awaits a record of the device on the way
-- from there: then it says which.
abbrev pub ReadTells : (ℕ → ℕ) → Log → Request → Seen → ℕ → TryAnswer → Type 0
ReadTells home log request seen from (answer.Found value) = value_at (log.cells (first_of home log request from)) ≡ Some value.0
ReadTells home log request seen from answer.Absent = value_at (log.cells (first_of home log request from)) ≡ None
ReadTells home log request seen from (answer.AwaitsDisk it) = (entry_addr it.entry ≡ from) × IsSoughtFrom home log (floor_in request) (key_in request) (head_in seen) it
ReadTells home log request seen from (answer.Wait Disk) = ⊥
ReadTells home log request seen from its = ⊤

-- of a try of a read that has come to its end: from where its walk went down
abbrev pub TryTells : (ℕ → ℕ) → Log → Places → TryState → Type 0
TryTells home log p t = (its : TryAnswer) → try_ask p t ≡ Done its → ReadTells home log t.request t.seen (begin_of t.walk) its

-- ---- where a walk goes down from: from where its chain begins as the search ends, and from there on it stays
abbrev pub BeginsAtFound : ℕ → ℕ → Found → Type 0
BeginsAtFound head begin (Slot place word) = begin ≡ head
BeginsAtFound head begin NoSlot = begin ≡ head
BeginsAtFound head begin its = ⊤

abbrev pub BeginsBehind : ℕ → ℕ → Ask FindAnswer → Type 0
BeginsBehind head begin (Done its) = BeginsAtFound head begin its.found
BeginsBehind head begin ask = ⊤

abbrev pub WalkBegins : (ℕ → ℕ) → Log → Places → WalkState → Walking → ℕ → Type 0
WalkBegins home log p w Finds reply = BeginsBehind (head_of (log.chains (home w.key.0))) (begin_of (walk_next p w reply)) (find_next_ask p w.finding reply)
WalkBegins home log p w step reply = (walk_next p w reply).entry ≡ w.entry

-- a try goes by the entry by which its walk does
abbrev pub TryGoesFrom : Places → ℕ → TryState → Trying → ℕ → Type 0
TryGoesFrom p room t Walks reply = (try_next p room t reply).walk.entry ≡ (walk_next p t.walk reply).entry
TryGoesFrom p room t LoadsAnswer reply = (try_next p room t reply).walk.entry ≡ (walk_next p t.walk reply).entry
TryGoesFrom p room t step reply = ⊤
