-- What the reply to each ask tells where it is true of the log.
use Rattle.std.specs.Prelude.{◌≡◌, ℕ, ◌<◌, ⊤}
use Rattle.fkv_marks.specs.Marks.{mark}
use Rattle.fkv_plane.specs.declared.asks.Ask.{Ask}
use Rattle.fkv_plane.specs.declared.asks.Ask.TheVariants.{Done}
use Rattle.fkv_plane.specs.declared.places.Places.{Places}
use Rattle.fkv_log.specs.declared.loading.Loading.{Loading}
use Rattle.fkv_log.specs.declared.loading.Loading.TheVariants as load
use Rattle.fkv_log.specs.declared.reserving.Reserving.{Reserving}
use Rattle.fkv_log.specs.declared.reserving.Reserving.TheVariants.{TakesTail}
use Rattle.fkv_index.specs.declared.finding.FindStep.{FindStep}
use Rattle.fkv_index.specs.declared.finding.FindStep.TheVariants.{LoadsLink}
use Rattle.fkv_index.specs.declared.finding.Found.{Found}
use Rattle.fkv_index.specs.declared.finding.Found.TheVariants.{Slot, NoSlot}
use Rattle.fkv_index.specs.declared.finding.FindAnswer.{FindAnswer}
use Rattle.fkv_index.specs.Finding.{find_next_ask}
use Rattle.fkv_index.specs.Slots.{entry_addr, link_of}
use Rattle.law_log.specs.Trace.{IsIn}
use Rattle.law_log.specs.Chains.{Cell, Logged, Published, head_of}
use Rattle.law_log.specs.Ghosts.{Log}
use Rattle.fkv_ops.specs.declared.appending.Appending.{Appending}
use Rattle.fkv_ops.specs.declared.appending.Appending.TheVariants.{Reserves}
use Rattle.fkv_ops.specs.declared.header_words.HeaderSaid.TheVariants.{Says}
use Rattle.fkv_ops.specs.declared.trying.Trying.{Trying}
use Rattle.fkv_ops.specs.declared.trying.Trying.TheVariants.{Walks, LoadsSafe, SwapsValue, ChangesValue, LoadsAnswer, LoadsOld, Appends}
use Rattle.fkv_ops.specs.declared.walking.Walking.{Walking}
use Rattle.fkv_ops.specs.declared.walking.Walking.TheVariants as walk
use Rattle.fkv_ops.specs.HeaderWords.{header_said}
use Rattle.fkv_ops.specs.Values.{value_of}
use Rattle.fkv_ops.specs.Walking.{WalkState}
use Rattle.fkv_ops.specs.Trying.{TryState}

-- ---- a word of a record, where the record is published
-- the header says what the record leads to, and the mark of its version
abbrev pub SaysHeader : Logged → ℕ → Type 0
SaysHeader logged word = (cell : Cell) → logged ≡ Published cell → header_said word ≡ Says (record { 0 = cell.previous }) (record { 0 = mark cell.version })

abbrev pub SaysKey : Logged → ℕ → Type 0
SaysKey logged word = (cell : Cell) → logged ≡ Published cell → word ≡ cell.key

abbrev pub SaysValue : Logged → ℕ → Type 0
SaysValue logged word = (cell : Cell) → logged ≡ Published cell → value_of word ≡ cell.value

-- by the load's control state
abbrev pub IsTrueOfLoad : Log → Loading → ℕ → Type 0
IsTrueOfLoad log (load.LoadsHeader addr) reply = SaysHeader (log.cells addr.0) reply
IsTrueOfLoad log (load.LoadsKey addr header) reply = SaysKey (log.cells addr.0) reply
IsTrueOfLoad log (load.LoadsValue addr header key) reply = SaysValue (log.cells addr.0) reply
IsTrueOfLoad log step reply = ⊤

-- ---- a search: the entry that it finds leads to where the chain begins now, and where it finds no slot the chain is empty
abbrev pub LeadsToHead : ℕ → Found → Type 0
LeadsToHead head (Slot place word) = entry_addr word ≡ head
LeadsToHead head NoSlot = head ≡ 0
LeadsToHead head its = ⊤

abbrev pub EndsAtHead : ℕ → Ask FindAnswer → Type 0
EndsAtHead head (Done its) = LeadsToHead head its.found
EndsAtHead head ask = ⊤

-- the reply is an eighth word, and names no link
abbrev pub HasNoLink : FindStep → ℕ → Type 0
HasNoLink step reply = (step ≡ LoadsLink) × (link_of reply ≡ 0)

-- by the walk's control state
abbrev pub IsTrueOfWalk : (ℕ → ℕ) → Log → Places → WalkState → Walking → ℕ → Type 0
IsTrueOfWalk home log p w walk.Finds reply = EndsAtHead (head_of (log.chains (home w.key.0))) (find_next_ask p w.finding reply)
IsTrueOfWalk home log p w (walk.Meets addr) reply = IsTrueOfLoad log w.loading reply
IsTrueOfWalk home log p w walk.LoadsValue reply = IsTrueOfLoad log w.loading reply
IsTrueOfWalk home log p w step reply = ⊤

-- ---- a reservation: the tail lies above all records
pub record IsAboveAll (log : Log) (tail : ℕ) : Type 0 where
  pub some : 0 < tail
  pub above : (h a : ℕ) → IsIn a (log.chains h) → a < tail

abbrev pub IsTrueOfReserve : Log → Reserving → ℕ → Type 0
IsTrueOfReserve log (TakesTail tail) reply = IsAboveAll log reply
IsTrueOfReserve log step reply = ⊤

abbrev pub IsTrueOfAppend : Log → Reserving → Appending → ℕ → Type 0
IsTrueOfAppend log reserving Reserves reply = IsTrueOfReserve log reserving reply
IsTrueOfAppend log reserving step reply = ⊤

-- ---- by the try's control state. Of latches nothing is told, nor of a value that a Cas tests behind its load
abbrev pub IsTrueReply : (ℕ → ℕ) → Log → Places → TryState → Trying → ℕ → Type 0
IsTrueReply home log p t Walks reply = IsTrueOfWalk home log p t.walk t.walk.step reply
IsTrueReply home log p t (LoadsSafe addr version) reply = reply ≡ log.fixed
IsTrueReply home log p t (SwapsValue addr) reply = SaysValue (log.cells addr.0) reply
IsTrueReply home log p t (ChangesValue addr old) reply = SaysValue (log.cells addr.0) reply
IsTrueReply home log p t LoadsAnswer reply = IsTrueOfWalk home log p t.walk t.walk.step reply
IsTrueReply home log p t LoadsOld reply = IsTrueOfWalk home log p t.walk t.walk.step reply
IsTrueReply home log p t (Appends its) reply = IsTrueOfAppend log t.append.reserving t.append.step reply
IsTrueReply home log p t step reply = ⊤
