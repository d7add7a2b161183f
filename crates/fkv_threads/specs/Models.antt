-- What a contract sees of a session and of the keeper at a table.
use Rattle.std.specs.Prelude.{◌≡◌, ℕ, Bool, true, false, List}
use Rattle.atomic_table.specs.Seated.{TableId}
use Rattle.atomic_table.specs.Table.{Me}
use Rattle.fkv_disk.specs.declared.devices.Device.{Ghosts}
use Rattle.fkv_keeper.specs.Keeping.{KeeperModel, keeper_ask}
use Rattle.fkv_keeper.specs.KeeperRun.{is_in_hand}
use Rattle.fkv_session.specs.declared.answers.Finished.{Finished}
use Rattle.fkv_session.specs.Sessions.{Sitter}
use Rattle.law_threads.specs.Below.fkv_core.Worlds.{WorldModel}
use Rattle.law_threads.specs.Below.fkv_table.Calls.{IsReady}
use Rattle.law_threads.specs.Below.fkv_table.Desks.{Slot, Knows}
use Rattle.law_threads.specs.Below.fkv_table.Happening.{Happening}
use Rattle.law_threads.specs.Below.fkv_table.Keeps.{IsAfterSeen, IsKeeperAtWork}
use Rattle.law_threads.specs.Below.fkv_table.Pass.{Pass}
use Rattle.law_threads.specs.Below.fkv_table.Planes.{opening_of}
use Rattle.law_threads.specs.Below.fkv_table.Session.{Session}
use Rattle.law_threads.specs.Below.fkv_table.Turns.{asks_device}
use Rattle.law_threads.specs.Below.fkv_world.Runs.{World}
use Rattle.std.specs.declared.snapshot.Snapshot.{Snapshot}

-- by what a table over such a device knows how its store was opened
abbrev pub Opening : Type 0 → Type 0
Opening D = Snapshot (WorldModel D)

-- and the world of that opening
abbrev pub opening : {D : Type 0} → Ghosts D → Opening D → World
opening device = opening_of device.seen

-- A session between two calls: at which table of which store, its number, the events up to the last one of its own, the newest first, and what its last poll has finished.
pub record Sitting (K : Type 0) : Type 0 where
  pub key : K
  pub table : TableId
  pub number : ℕ
  pub seen : List Happening
  pub finished : List Finished

abbrev pub sitting_of : {K : Type 0} → K → TableId → Sitter → Me Slot (Knows K) → Sitting K
sitting_of key table m me = record { key = key; table = table; number = m.seat.number; seen = me.0.seen; finished = m.state.finished }

-- a session of a table with its pass
abbrev pub sitting_at : {D : Type 0} → Opening D → TableId → (Session × Pass D) → Sitting (Opening D)
sitting_at key table x = sitting_of key table x.0.machine x.1.seat.me

-- The keeper: at which table of which store, the events that it has seen, how far its call has come, the device, and whether a turn is in hand whose
-- next piece is a call of the device.
pub record Watch (K D : Type 0) : Type 0 where
  pub key : K
  pub table : TableId
  pub seen : List Happening
  pub machine : KeeperModel
  pub device : D
  pub in_turn : Bool

abbrev pub watch_of : {K D : Type 0} → K → TableId → KeeperModel → Me Slot (Knows K) → D → Bool → Watch K D
watch_of key table k me device in_turn = record { key = key; table = table; seen = me.0.seen; machine = k; device = device; in_turn = in_turn }

-- in the middle of a turn the keeper asks for the device, and else no call of it is in hand
pub record StandsSo (in_turn : Bool) (k : KeeperModel) : Type 0 where
  pub idle : in_turn ≡ false → is_in_hand k.state.step ≡ false
  pub asks : in_turn ≡ true → asks_device (keeper_ask k.shape k.places k.state) ≡ true

module _ {K : Type 0} (at : K → World) where
  -- The session sits at its table: it is ready for its next call, with its pass.
  pub record IsSitting (s : Sitting K) : Type 0 where
    pub pass : TableId
    pub me : Me Slot (Knows K)
    pub machine : Sitter
    pub desk : ℕ
    pub ready : IsReady at s.key s.table pass me machine desk
    pub number : (let m = machine in m.seat.number ≡ s.number)
    pub seen : (let its = me in its.0.seen ≡ s.seen)
    pub finished : (let m = machine in m.state.finished ≡ s.finished)

-- The keeper's parts at a table: it goes on with its call, or is ready for the next one. Its device is honest, and is as the calls leave it that the keeper has seen.
pub record IsAtTable {D : Type 0} (device : Ghosts D) (key : Opening D) (table : TableId) (k : KeeperModel) (pass : TableId) (me : Me Slot (Knows (Opening D))) (medium : D) (in_turn : Bool) : Type 0 where
  pub work : IsKeeperAtWork (opening device) key table pass me k
  pub so : StandsSo in_turn k
  pub honest : device.honest medium
  pub after : IsAfterSeen (opening device) key me.0.seen (device.seen medium) (device.may_leave medium)

-- so it is of the keeper as a contract sees it, with its pass
pub record IsWatching {D : Type 0} (device : Ghosts D) (w : Watch (Opening D) D) : Type 0 where
  pub pass : TableId
  pub me : Me Slot (Knows (Opening D))
  pub its : IsAtTable device w.key w.table w.machine pass me w.device w.in_turn
  pub seen : (let its = me in its.0.seen ≡ w.seen)
