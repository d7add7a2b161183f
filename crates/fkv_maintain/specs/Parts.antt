-- The parts of a turn come in their order, each once and none left out: the scan, the claims, the flush, the shift, the page and the
-- mailboxes.
use Rattle.std.specs.Prelude.{◌≡◌, ⊤, ◌⊎◌, ◌<◌, ◌≤◌, ℕ, List, [], ◌∷◌, Bool, true, false, ◌||◌, if◌then◌else◌, None}
use Rattle.fkv_base.specs.declared.numbers.Addr.{Addr}
use Rattle.fkv_base.specs.declared.shapes.Shape.{Shape}
use Rattle.fkv_plane.specs.declared.asks.Ask.{Ask}
use Rattle.fkv_plane.specs.declared.asks.Ask.TheVariants.{Done}
use Rattle.fkv_plane.specs.declared.places.Places.{Places}
use Rattle.fkv_plane.specs.Passing.{is_done}
use Rattle.fkv_epoch.specs.declared.claiming.Claiming.TheVariants.{MeetsSlot}
use Rattle.fkv_epoch.specs.Scanning.{scan_ask, scan_next}
use Rattle.fkv_epoch.specs.Claiming.{claim_ask, claim_next, claim_given}
use Rattle.fkv_log.specs.declared.moving.MoveAnswer.{MoveAnswer}
use Rattle.fkv_log.specs.declared.moving.MoveAnswer.TheVariants as moved
use Rattle.fkv_log.specs.declared.shifting.ShiftAnswer.{ShiftAnswer}
use Rattle.fkv_log.specs.declared.shifting.ShiftAnswer.TheVariants as shift
use Rattle.fkv_log.specs.declared.turning.TurnForm.TheVariants.{Whole}
use Rattle.fkv_log.specs.Shifting.{shift_begun, shift_next, shift_next_ask}
use Rattle.fkv_log.specs.Turning.{turn_begun, turn_next, turn_next_ask}
use Rattle.fkv_flush.specs.declared.answers.DeviceAnswer.TheVariants as device
use Rattle.fkv_flush.specs.declared.serving.Serving.{Serving}
use Rattle.fkv_flush.specs.declared.serving.Serving.TheVariants as serving
use Rattle.fkv_flush.specs.Flushing.{flush_ask, flush_next, flush_done, bytes_next, bytes_done}
use Rattle.fkv_flush.specs.Serving.{serve_ask, serve_next, serve_read, mailbox_from}
use Rattle.fkv_maintain.specs.declared.maintaining.Maintaining.{Maintaining}
use Rattle.fkv_maintain.specs.declared.maintaining.Maintaining.TheVariants.{Through, Spent, Broken, Scans, Claims, Flushes, Shifts, Turns, Serves}
use Rattle.fkv_maintain.specs.Maintaining.{MaintainState, flush_told, flush_begun, bytes_begun, maintain_calls, maintain_made}
use Rattle.fkv_maintain.specs.MaintainRun.{MaintainEvent, Replies, Gets, Calls, maintain_happens, maintain_run}

-- the scan is at its end, and the claims begin with the first drain slot
pub record IsClaimBegun (next : MaintainState) : Type 0 where
  pub comes : next.step ≡ Claims
  pub scanned : is_done (scan_ask next.scanning) ≡ true
  pub first : next.claiming ≡ MeetsSlot 0 None

-- the claims are at their end, and a flush that rests is taken up, or one begins
pub record IsFlushBegun (s next : MaintainState) : Type 0 where
  pub comes : next.step ≡ Flushes
  pub claimed : is_done (claim_ask next.claiming) ≡ true
  pub first : next.flushing ≡ flush_begun s.flushing
  pub in_hand : next.bytes ≡ bytes_begun s.flushing s.bytes

-- the flush is through or rests, and the shift begins
pub record IsShiftBegun (shape : Shape) (p : Places) (next : MaintainState) : Type 0 where
  pub comes : next.step ≡ Shifts
  pub flushed : flush_told shape p next.flushing ≡ Done device.Through
  pub first : next.shift ≡ shift_begun

-- the reply ends the shift, with or without a drain slot, and the whole turn of a page begins with the tail that the shift told
pub record IsPageBegun (shape : Shape) (s : MaintainState) (event : MaintainEvent) (next : MaintainState) : Type 0 where
  pub reply : ℕ
  pub tail : Addr
  pub replied : event ≡ Replies reply
  pub shifted : (shift_next_ask shape s.shift reply ≡ Done (shift.Through tail)) ⊎ (shift_next_ask shape s.shift reply ≡ Done (shift.NoSlot tail))
  pub comes : next.step ≡ Turns
  pub first : next.turn ≡ turn_begun Whole tail.0

-- the reply ends the turn of the page, with or without a drain slot, and the mailboxes begin with the first; without sessions
-- that is the end
pub record IsServeBegun (shape : Shape) (s : MaintainState) (event : MaintainEvent) (next : MaintainState) : Type 0 where
  pub reply : ℕ
  pub replied : event ≡ Replies reply
  pub turned : (turn_next_ask shape s.turn reply ≡ Done moved.Through) ⊎ (turn_next_ask shape s.turn reply ≡ Done moved.NoSlot)
  pub comes : (next.step ≡ Serves) ⊎ ((next.step ≡ Through) × (shape.sessions ≡ 0))
  pub first : next.serving ≡ mailbox_from shape.sessions 0

-- the mailboxes are served
pub record IsServed (next : MaintainState) : Type 0 where
  pub comes : next.step ≡ Through
  pub served : serve_ask next.serving ≡ Done device.Through

-- the shift, or the turn of the page, met the last epoch
pub record IsShiftSpent (shape : Shape) (s : MaintainState) (event : MaintainEvent) (next : MaintainState) : Type 0 where
  pub reply : ℕ
  pub tail : Addr
  pub replied : event ≡ Replies reply
  pub spent : shift_next_ask shape s.shift reply ≡ Done (shift.Spent tail)
  pub comes : next.step ≡ Spent

pub record IsPageSpent (shape : Shape) (s : MaintainState) (event : MaintainEvent) (next : MaintainState) : Type 0 where
  pub reply : ℕ
  pub replied : event ≡ Replies reply
  pub spent : turn_next_ask shape s.turn reply ≡ Done moved.Spent
  pub comes : next.step ≡ Spent

-- a call of the device failed
pub record IsBreak (event : MaintainEvent) (next : MaintainState) : Type 0 where
  pub bytes : List ℕ
  pub failed : event ≡ Calls false bytes
  pub comes : next.step ≡ Broken

-- Which part may follow which: a part is left only where its own machine is at its end, or the flush rests, or the device failed. What follows begins
-- with its machine's first step, but a flush that rests goes on. At rest all stays as it is.
abbrev pub MayFollow : Shape → Places → MaintainState → Maintaining → MaintainEvent → MaintainState → Type 0
MayFollow shape p s Scans event next = (next.step ≡ Scans) ⊎ IsClaimBegun next
MayFollow shape p s Claims event next = (next.step ≡ Claims) ⊎ IsFlushBegun s next
MayFollow shape p s Flushes event next = (next.step ≡ Flushes) ⊎ (IsShiftBegun shape p next ⊎ IsBreak event next)
MayFollow shape p s Shifts event next = (next.step ≡ Shifts) ⊎ (IsPageBegun shape s event next ⊎ IsShiftSpent shape s event next)
MayFollow shape p s Turns event next = (next.step ≡ Turns) ⊎ (IsServeBegun shape s event next ⊎ IsPageSpent shape s event next)
MayFollow shape p s Serves event next = (next.step ≡ Serves) ⊎ (IsServed next ⊎ IsBreak event next)
MayFollow shape p s step event next = next ≡ s

abbrev pub FollowsInOrder : Type 0
FollowsInOrder = (shape : Shape) (p : Places) (s : MaintainState) (event : MaintainEvent) → MayFollow shape p s s.step event (maintain_happens shape p s event)

-- In a part its own machine goes on, and by what happens: with the reply, with the action, or past the call of the device. What isn't for it changes nothing.
abbrev pub Drives : Shape → MaintainState → Maintaining → MaintainEvent → MaintainState → Type 0
Drives shape s Scans (Replies reply) next = next.scanning ≡ scan_next shape.sessions s.scanning reply
Drives shape s Claims (Replies reply) next = next.claiming ≡ claim_next s.claiming reply
Drives shape s Claims (Gets action) next = next.claiming ≡ claim_given s.claiming action
Drives shape s Flushes (Replies reply) next = (next.flushing ≡ flush_next shape.page s.flushing reply) × (next.bytes ≡ bytes_next s.flushing s.bytes reply)
Drives shape s Flushes (Calls done bytes) next = (next.flushing ≡ flush_done shape.page s.flushing done) × (next.bytes ≡ bytes_done s.flushing s.bytes)
Drives shape s Shifts (Replies reply) next = next.shift ≡ shift_next shape s.shift reply
Drives shape s Turns (Replies reply) next = next.turn ≡ turn_next shape s.turn reply
Drives shape s Serves (Replies reply) next = next.serving ≡ serve_next shape.sessions s.begin.0 s.serving reply
Drives shape s Serves (Calls true bytes) next = next.serving ≡ serve_read s.serving bytes
Drives shape s Serves (Calls false bytes) next = next.step ≡ Broken
Drives shape s step event next = next ≡ s

-- A read for a mailbox is at or above the log's begin.
abbrev pub ServesAbove : ℕ → Serving → Type 0
ServesAbove begin (serving.Reads session addr) = begin ≤ addr
ServesAbove begin step = ⊤

abbrev pub AboveAt : MaintainState → Maintaining → Type 0
AboveAt s Serves = ServesAbove s.begin.0 s.serving
AboveAt s step = ⊤

abbrev pub ReadsAbove : MaintainState → Type 0
ReadsAbove s = AboveAt s s.step

abbrev pub StaysAbove : Type 0
StaysAbove = (shape : Shape) (p : Places) (s : MaintainState) (event : MaintainEvent) → ReadsAbove s → ReadsAbove (maintain_happens shape p s event)

-- nothing moves the log's begin
abbrev pub KeepsBegin : Type 0
KeepsBegin = (shape : Shape) (p : Places) (s : MaintainState) (event : MaintainEvent) → (maintain_happens shape p s event).begin ≡ s.begin

abbrev pub DrivesItsParts : Type 0
DrivesItsParts = (shape : Shape) (p : Places) (s : MaintainState) (event : MaintainEvent) → Drives shape s s.step event (maintain_happens shape p s event)

-- one part, or one end of a turn
abbrev pub is_same : Maintaining → Maintaining → Bool
is_same Through Through = true
is_same Spent Spent = true
is_same Broken Broken = true
is_same Scans Scans = true
is_same Claims Claims = true
is_same Flushes Flushes = true
is_same Shifts Shifts = true
is_same Turns Turns = true
is_same Serves Serves = true
is_same one other = false

-- a part that is entered is listed
abbrev pub entered : Maintaining → Maintaining → List Maintaining → List Maintaining
entered before now parts = if is_same before now then parts else now ∷ parts

-- the parts that a turn has been in, and how it ended, the newest first
unfoldable pub parts_of : Shape → Places → MaintainState → List MaintainEvent → List Maintaining
parts_of shape p s [] = Scans ∷ []
parts_of shape p s (event ∷ before) = entered (maintain_run shape p s before).step (maintain_run shape p s (event ∷ before)).step (parts_of shape p s before)

-- the order, the newest first
abbrev pub up_to_flush : List Maintaining
up_to_flush = Flushes ∷ Claims ∷ Scans ∷ []

abbrev pub up_to_shift : List Maintaining
up_to_shift = Shifts ∷ up_to_flush

abbrev pub up_to_page : List Maintaining
up_to_page = Turns ∷ up_to_shift

abbrev pub up_to_mailboxes : List Maintaining
up_to_mailboxes = Serves ∷ up_to_page

-- In each part a turn has been in those before it, each once. Where it is through it has been in all of them; without sessions it is
-- through at the page's end, as there is no mailbox.
abbrev pub AreInOrder : Shape → Maintaining → List Maintaining → Type 0
AreInOrder shape Scans parts = parts ≡ Scans ∷ []
AreInOrder shape Claims parts = parts ≡ Claims ∷ Scans ∷ []
AreInOrder shape Flushes parts = parts ≡ up_to_flush
AreInOrder shape Shifts parts = parts ≡ up_to_shift
AreInOrder shape Turns parts = parts ≡ up_to_page
AreInOrder shape Serves parts = parts ≡ up_to_mailboxes
AreInOrder shape Through parts = (parts ≡ Through ∷ up_to_mailboxes) ⊎ ((parts ≡ Through ∷ up_to_page) × (shape.sessions ≡ 0))
AreInOrder shape Spent parts = (parts ≡ Spent ∷ up_to_shift) ⊎ (parts ≡ Spent ∷ up_to_page)
AreInOrder shape Broken parts = (parts ≡ Broken ∷ up_to_flush) ⊎ (parts ≡ Broken ∷ up_to_mailboxes)

-- a shift, or the turn of a page, ended because no drain slot was free
abbrev pub is_shift_slotless : Ask ShiftAnswer → Bool
is_shift_slotless (Done (shift.NoSlot tail)) = true
is_shift_slotless ask = false

abbrev pub is_page_slotless : Ask MoveAnswer → Bool
is_page_slotless (Done moved.NoSlot) = true
is_page_slotless ask = false

-- this event ends such a part for want of a slot
abbrev pub lacks_slot : Shape → MaintainState → Maintaining → MaintainEvent → Bool
lacks_slot shape s Shifts (Replies reply) = is_shift_slotless (shift_next_ask shape s.shift reply)
lacks_slot shape s Turns (Replies reply) = is_page_slotless (turn_next_ask shape s.turn reply)
lacks_slot shape s step event = false

-- some event of the turn has
unfoldable pub has_lacked_slot : Shape → Places → MaintainState → List MaintainEvent → Bool
has_lacked_slot shape p s [] = false
has_lacked_slot shape p s (event ∷ before) =
    lacks_slot shape (maintain_run shape p s before) (maintain_run shape p s before).step event || has_lacked_slot shape p s before

-- the device is called by the flush and for the mailboxes alone, and written and synced by the flush alone
pub record CallsInItsParts (shape : Shape) (p : Places) (s : MaintainState) : Type 0 where
  pub made : 0 < maintain_made p s → (s.step ≡ Flushes) ⊎ (s.step ≡ Serves)
  pub writes : (done : Bool) → (maintain_calls shape s done ≡ [] → ⊥) → s.step ≡ Flushes

-- the mailboxes are served, or were; or a read for one has failed
abbrev pub IsServing : Maintaining → Type 0
IsServing Serves = ⊤
IsServing Through = ⊤
IsServing Broken = ⊤
IsServing step = ⊥

-- Such a turn is in no other part. It leaves none out for want of a slot, and the device is read alone.
pub record ServesAlone (shape : Shape) (s : MaintainState) : Type 0 where
  pub part : IsServing s.step
  pub full : s.is_drain_full ≡ false
  pub reads : (done : Bool) → maintain_calls shape s done ≡ []
