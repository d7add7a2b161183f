-- Where a try stands on the ways of a straight call: along its bucket, along its chain, at the record that is changed, and at the record
-- that is appended.
use Rattle.std.specs.Prelude.{◌≡◌, ◌<◌, ◌≤◌, ◌&&◌, not, if◌then◌else◌, ℕ, true, false, Option, None}
use Rattle.fkv_base.specs.declared.numbers.Version.{Version}
use Rattle.fkv_base.specs.Limits.{last_serial}
use Rattle.fkv_map.specs.declared.operations.Call.{Call}
use Rattle.fkv_map.specs.declared.operations.Call.TheVariants as call
use Rattle.fkv_map.specs.declared.operations.Op.{Op}
use Rattle.fkv_map.specs.declared.operations.Reply.{Reply}
use Rattle.fkv_map.specs.Keys.{key_of, reply_from}
use Rattle.fkv_plane.specs.declared.places.RecordWord.TheVariants.{Header}
use Rattle.fkv_plane.specs.Places.{bucket_place, record_place}
use Rattle.fkv_latch.specs.declared.latching.Latching.TheVariants as latch
use Rattle.fkv_log.specs.declared.filling.Filling.{Filling}
use Rattle.fkv_log.specs.declared.filling.Filling.TheVariants as fill
use Rattle.fkv_log.specs.declared.invalidating.Invalidating.TheVariants as invalidate
use Rattle.fkv_log.specs.declared.loading.Loading.{Loading}
use Rattle.fkv_log.specs.declared.loading.Loading.TheVariants as load
use Rattle.fkv_log.specs.declared.reserving.Reserving.{Reserving}
use Rattle.fkv_log.specs.declared.reserving.Reserving.TheVariants as reserve
use Rattle.fkv_index.specs.declared.finding.Finding.{Finding}
use Rattle.fkv_index.specs.declared.finding.FindStep.{FindStep}
use Rattle.fkv_index.specs.declared.finding.FindStep.TheVariants.{AtRest, LoadsSlot, LoadsLink}
use Rattle.fkv_index.specs.declared.publishing.Publishing.{Publishing}
use Rattle.fkv_index.specs.declared.publishing.Publishing.TheVariants as publish
use Rattle.fkv_index.specs.Finding.{linking_for}
use Rattle.fkv_index.specs.IndexWorld.{new_entry}
use Rattle.fkv_index.specs.Slots.{entry_addr}
use Rattle.fkv_ops.specs.declared.answers.Reason.TheVariants as reason
use Rattle.fkv_ops.specs.declared.answers.TryAnswer.TheVariants as tried
use Rattle.fkv_ops.specs.declared.appending.Appending.{Appending}
use Rattle.fkv_ops.specs.declared.appending.Appending.TheVariants as append
use Rattle.fkv_ops.specs.declared.header_words.HeaderSaid.TheVariants.{Says}
use Rattle.fkv_ops.specs.declared.trying.OldValue.TheVariants.{InMemory}
use Rattle.fkv_ops.specs.declared.trying.Trying.{Trying}
use Rattle.fkv_ops.specs.declared.trying.Trying.TheVariants.{TakesShared, Walks, LoadsSafe, SwapsValue, LoadsCurrent, ChangesValue, LoadsAnswer, LoadsOld, Appends}
use Rattle.fkv_ops.specs.declared.walking.Walking.{Walking}
use Rattle.fkv_ops.specs.declared.walking.Walking.TheVariants.{Finds, Meets, HasFound, LoadsValue}
use Rattle.fkv_ops.specs.Bounds.{bounds_at, tail_bound}
use Rattle.fkv_ops.specs.HeaderWords.{header_said, previous_in}
use Rattle.fkv_ops.specs.Requests.{is_read, purpose_at}
use Rattle.fkv_ops.specs.Walking.{WalkState, first_met, reached, walk_ask, walk_rested}
use Rattle.fkv_ops.specs.Appending.{AppendState, append_rested}
use Rattle.fkv_ops.specs.Trying.{TryState, words_of, walk_ledto, copies_from, ends, takes_effect, is_above, is_next_marked}
use Rattle.fkv_pending.specs.declared.pending_requests.RequestName.TheVariants.{Update}
use Rattle.fkv_session.specs.Sessions.{Seat, SessionState, refusal_of}
use Rattle.fkv_straight.specs.declared.searching.Met.{Met}
use Rattle.fkv_straight.specs.declared.searching.Met.TheVariants.{Found, Nowhere, OnDisk}
use Rattle.fkv_straight.specs.declared.searching.Record.{Record}
use Rattle.fkv_straight.specs.declared.going.Going.{Going}
use Rattle.fkv_straight.specs.declared.going.Lone.{Lone}
use Rattle.fkv_straight.specs.Course.{Course, course_of, counts, first_name, home_in, head_in, request_in, shares, Goes}
use Rattle.fkv_straight.specs.Memory.{is_in_memory}
use Rattle.fkv_straight.specs.Standing.{Tries, IsLed, attempting, begins, next_try, sitting}

-- an address of the chain lies in memory
abbrev pub IsInMemory : Course → ℕ → Type 0
IsInMemory c addr = is_in_memory c.seat.places.ring (head_in c) addr ≡ true

-- the try of the operation, with its walk and its append. It shares the latch of its bucket where it has to, and holds none alone
abbrev pub trying : Course → WalkState → AppendState → Trying → TryState
trying c walk a step = record { request = request_in c; seen = c.lasts.seen; occasion = c.occasion; home = home_in c; has_shared = shares c; has_exclusive = false; effect = None; spare = c.lasts.spare; walk = walk; latching = latch.AtRest; append = a; step = step }

-- ---- along the bucket
-- the search among the slots from this place on, which may still follow so many links
abbrev pub finding_at : Course → ℕ → ℕ → FindStep → Finding
finding_at c base links step = record { home = home_in c; base = base; links = links; linking = linking_for (purpose_at c.occasion c.op); spare = c.lasts.spare; step = step }

abbrev pub seeking : Course → ℕ → ℕ → FindStep → TryState
seeking c base links step =
    trying c (record { key = key_of c.op; head = c.lasts.seen.offsets.head; place = 0; entry = 0; first = None; spare = c.lasts.spare; finding = finding_at c base links step; loading = load.AtRest; step = Finds }) append_rested Walks

-- ---- at its bucket's latch
abbrev pub latch_in : Course → ℕ
latch_in c = bucket_place c.seat.places (home_in c).bucket 7

-- it takes a share of that
abbrev pub sharing : Course → TryState
sharing c = record { request = request_in c; seen = c.lasts.seen; occasion = c.occasion; home = home_in c; has_shared = false; has_exclusive = false; effect = None; spare = c.lasts.spare; walk = walk_rested; latching = latch.AddsShare (latch_in c); append = append_rested; step = TakesShared }

-- or is at the bucket's first slot
abbrev pub entering : Course → TryState
entering c = seeking c (bucket_place c.seat.places (home_in c).bucket 0) c.seat.places.overflow (LoadsSlot 0)

-- where the call begins
abbrev pub begun_in : Course → SessionState
begun_in c = sitting c 0 (attempting c (if shares c then sharing c else entering c))

abbrev pub Begins : Course → Call → SessionState → Type 0
Begins c its s = begins c.seat s its ≡ begun_in c

-- A call of the operation may go straight by these numbers: it isn't refused, and an update has a serial left.
pub record MayGo (k : Seat) (s : SessionState) (op : Op) (g : Going) : Type 0 where
  pub goes : Goes (course_of k s op (call.Op op)) k op g
  pub allowed : refusal_of s op ≡ None
  pub serial_left : is_read op ≡ false → s.serial < last_serial

-- So may a poll in which this update alone waits, and it has no bound. No record is on its way that nobody waits for, and the session isn't in prepare.
pub record MayPoll (k : Seat) (s : SessionState) (l : Lone) (g : Going) : Type 0 where
  pub goes : Goes (course_of k s l.op call.Poll) k l.op (record g { bound = None })
  pub awake : s.is_awake ≡ true
  pub no_orphan : s.is_orphaned ≡ false
  pub updates : is_read l.op ≡ false
  pub calm : g.is_preparing ≡ false
  pub named : first_name s.requests ≡ Update l.serial

-- a slot is loaded; its word has come and isn't judged yet. The same of the word that leads to an overflow bucket
unfoldable pub IsAtSlot : Course → ℕ → ℕ → ℕ → SessionState → Type 0
IsAtSlot c base links slot s = Tries c (seeking c base links (LoadsSlot slot)) s

-- the search begins
abbrev pub IsAtFirst : Course → SessionState → Type 0
IsAtFirst c s = IsAtSlot c (bucket_place c.seat.places (home_in c).bucket 0) c.seat.places.overflow 0 s

unfoldable pub HasSlot : Course → ℕ → ℕ → ℕ → ℕ → SessionState → Type 0
HasSlot c base links slot word s = IsLed c (next_try c (seeking c base links (LoadsSlot slot)) word) s

unfoldable pub IsAtLink : Course → ℕ → ℕ → SessionState → Type 0
IsAtLink c base links s = Tries c (seeking c base links LoadsLink) s

unfoldable pub HasLink : Course → ℕ → ℕ → ℕ → SessionState → Type 0
HasLink c base links word s = IsLed c (next_try c (seeking c base links LoadsLink) word) s

-- ---- along the chain
-- what of the walk no later word goes by but for its table: where the search has ended, and the version of the first record
pub record Trail : Type 0 where
  pub base : ℕ
  pub links : ℕ
  pub first : Option Version

-- The chain was walked to this address from the slot's entry. Addresses fall along it, and at the first record no version was met before. An
-- update that has bounds comes to no empty slot of an overflow bucket.
pub record IsTrail (c : Course) (trail : Trail) (entry addr : ℕ) : Type 0 where
  pub falls : addr ≤ entry_addr entry
  pub fresh : addr ≡ entry_addr entry → trail.first ≡ None
  pub its_own : counts c ≡ true → entry ≡ 0 → c.seat.places.overflow ≤ trail.links

abbrev pub walking : Course → Trail → ℕ → ℕ → Loading → Walking → WalkState
walking c trail place entry loading step =
    record { key = key_of c.op; head = c.lasts.seen.offsets.head; place = place; entry = entry; first = trail.first; spare = c.lasts.spare; finding = finding_at c trail.base trail.links AtRest; loading = loading; step = step }

abbrev pub meeting : Course → Trail → ℕ → ℕ → ℕ → Loading → TryState
meeting c trail place entry addr loading = trying c (walking c trail place entry loading (Meets (record { 0 = addr }))) append_rested Walks

-- what a walk that stands so makes of its try
abbrev pub judged : Course → WalkState → TryState
judged c walk = walk_ledto c.seat.places (trying c walk append_rested Walks) (walk_ask c.seat.places walk)

-- The walk from the entry at this place has come to an address, which isn't judged yet.
unfoldable pub IsReached : Course → ℕ → ℕ → ℕ → SessionState → Type 0
IsReached c place entry addr s = (trail : Trail) × IsTrail c trail entry addr × (loading : Loading) × (step : Walking) × IsLed c (judged c (reached c.seat.places (walking c trail place entry loading step) addr)) s

-- the header of the record is loaded, then its key, and then both have come and aren't judged yet
unfoldable pub IsAtHeader : Course → ℕ → ℕ → ℕ → SessionState → Type 0
IsAtHeader c place entry addr s = (trail : Trail) × IsTrail c trail entry addr × Tries c (meeting c trail place entry addr (load.LoadsHeader (record { 0 = addr }))) s

unfoldable pub IsAtKey : Course → ℕ → ℕ → ℕ → ℕ → SessionState → Type 0
IsAtKey c place entry addr header s = (trail : Trail) × IsTrail c trail entry addr × Tries c (meeting c trail place entry addr (load.LoadsKey (record { 0 = addr }) header)) s

unfoldable pub HasKey : Course → ℕ → ℕ → ℕ → ℕ → ℕ → SessionState → Type 0
HasKey c place entry addr header key s = (trail : Trail) × IsTrail c trail entry addr × IsLed c (next_try c (meeting c trail place entry addr (load.LoadsKey (record { 0 = addr }) header)) key) s

-- the record of the operation's key was met in memory
pub record IsMet (c : Course) (r : Record) (s : SessionState) : Type 0 where
  pub key : HasKey c r.place r.entry r.addr r.header (key_of c.op).0 s
  pub said : header_said r.header ≡ Says (record { 0 = previous_in r.header }) (record { 0 = r.mark })
  pub below : previous_in r.header < r.addr
  pub here : IsInMemory c r.addr
  pub at : r.at ≡ record_place c.seat.places r.addr Header

-- by whatever trail it was met, the update stays at its version: in prepare the chain's first record is of no later one, or its mark doesn't tell
abbrev pub IsUnshifted : Course → Record → Type 0
IsUnshifted c r = (trail : Trail) → IsTrail c trail r.entry r.addr → (shares c && not (is_next_marked (request_in c).version) && is_above (first_met trail.first (record { 0 = r.mark })) (request_in c).version) ≡ false

-- what a search has met: its key's record; the chain's end; or where the chain leaves memory
abbrev pub HasMet : Course → Met → SessionState → Type 0
HasMet c (Found r) s = IsMet c r s
HasMet c (Nowhere slot) s = IsReached c slot.place slot.entry 0 s
HasMet c (OnDisk slot addr) s = (0 < addr) × (addr < head_in c) × IsReached c slot.place slot.entry addr s

-- ---- at the record
abbrev pub holding : Course → Trail → Record → Trying → TryState
holding c trail r step = trying c (walking c trail r.place r.entry (load.LoadsValue (record { 0 = r.addr }) r.header (key_of c.op).0) LoadsValue) append_rested step

-- the value is loaded that a read is told
unfoldable pub IsAtAnswer : Course → Record → SessionState → Type 0
IsAtAnswer c r s = (trail : Trail) × Tries c (holding c trail r LoadsAnswer) s

-- the value is swapped; or it is loaded, and then changed by a Cas
unfoldable pub IsAtSwap : Course → ℕ → SessionState → Type 0
IsAtSwap c addr s = (walk : WalkState) × Tries c (trying c walk append_rested (SwapsValue (record { 0 = addr }))) s

unfoldable pub IsAtCurrent : Course → Record → SessionState → Type 0
IsAtCurrent c r s = (trail : Trail) × Tries c (holding c trail r (LoadsCurrent (record { 0 = r.addr }))) s

unfoldable pub IsAtChange : Course → ℕ → ℕ → SessionState → Type 0
IsAtChange c addr old s = (walk : WalkState) × Tries c (trying c walk append_rested (ChangesValue (record { 0 = addr }) old)) s

-- the value is changed, and the try tells this; it drops its share next, if it has one
unfoldable pub HasChanged : Course → Reply → SessionState → Type 0
HasChanged c its s = (walk : WalkState) × (step : Trying) × IsLed c (takes_effect c.seat.places (trying c walk append_rested step) its) s

-- another session was quicker
unfoldable pub HasLost : Course → SessionState → Type 0
HasLost c s = (walk : WalkState) × (step : Trying) × IsLed c (ends c.seat.places (trying c walk append_rested step) (tried.Wait reason.Contended)) s

-- the try that has found the record, and goes by neither its region nor its version yet
abbrev pub finding : Course → Trail → Record → Trying → TryState
finding c trail r step = trying c (walking c trail r.place r.entry (load.HasKey (record { 0 = r.addr }) r.header (key_of c.op).0) (HasFound (record { 0 = r.addr }) (record { 0 = r.mark }))) append_rested step

-- the safe read-only offset is loaded; the word has come and isn't judged yet
unfoldable pub IsAtSafe : Course → Record → SessionState → Type 0
IsAtSafe c r s = (trail : Trail) × Tries c (finding c trail r (LoadsSafe (record { 0 = r.addr }) (record { 0 = r.mark }))) s

unfoldable pub HasSafe : Course → Record → ℕ → SessionState → Type 0
HasSafe c r safe s = (trail : Trail) × IsLed c (next_try c (finding c trail r (LoadsSafe (record { 0 = r.addr }) (record { 0 = r.mark }))) safe) s

-- the record is copied; its value is loaded, where it counts
unfoldable pub IsCopied : Course → Record → SessionState → Type 0
IsCopied c r s = (trail : Trail) × (step : Trying) × IsLed c (copies_from (finding c trail r step) InMemory) s

unfoldable pub IsAtOld : Course → Record → SessionState → Type 0
IsAtOld c r s = (trail : Trail) × Tries c (holding c trail r LoadsOld) s

-- ---- at the record that is appended
-- A new record of the key, made of this old value. Its entry takes the place of the one in the slot at this place
abbrev pub append_at : Course → ℕ → ℕ → Option ℕ → Reserving → Filling → Publishing → Appending → AppendState
append_at c place entry old reserving filling publishing step =
    record { slot = record { place = place; entry = entry; tag = (home_in c).tag }; its_words = words_of (request_in c) entry old; reserving = reserving; filling = filling; publishing = publishing; invalidating = invalidate.AtRest; step = step }

abbrev pub Appending_at : Course → AppendState → Option ℕ → SessionState → Type 0
Appending_at c a old s = (walk : WalkState) × Tries c (trying c walk a (Appends (reply_from old c.op))) s

-- the limit is loaded, which counts up to the call's bound
abbrev pub limit_of : Course → Reserving
limit_of c = reserve.LoadsLimit (tail_bound (bounds_at c.occasion))

-- its address is reserved, it is written, and its entry is published
unfoldable pub IsAtReserve : Course → ℕ → ℕ → Option ℕ → Reserving → SessionState → Type 0
IsAtReserve c place entry old step s = Appending_at c (append_at c place entry old step fill.AtRest publish.AtRest append.Reserves) old s

unfoldable pub IsAtFill : Course → ℕ → ℕ → Option ℕ → ℕ → Filling → SessionState → Type 0
IsAtFill c place entry old addr step s = Appending_at c (append_at c place entry old reserve.AtRest step publish.AtRest (append.Fills (record { 0 = addr }))) old s

-- its address is reserved, and none of its words is stored yet
abbrev pub IsReserved : Course → ℕ → ℕ → Option ℕ → ℕ → SessionState → Type 0
IsReserved c place entry old addr s = IsAtFill c place entry old addr (fill.StoresValue (record { 0 = addr }) (words_of (request_in c) entry old)) s

unfoldable pub IsAtPublish : Course → ℕ → ℕ → Option ℕ → ℕ → SessionState → Type 0
IsAtPublish c place entry old addr s = Appending_at c (append_at c place entry old reserve.AtRest fill.AtRest (publish.SwapsEntry place entry (new_entry addr (home_in c).tag)) (append.Publishes (record { 0 = addr }))) old s
