-- A life of the engine: the world after a list of events.
use Rattle.std.specs.Prelude.{ℕ, if◌then◌else◌, List, [], ◌∷◌}
use Rattle.fkv_disk.specs.Calls.{reads_as}
use Rattle.fkv_keeper.specs.KeeperAsks.{keeper_read}
use Rattle.fkv_world.specs.World.{Event, Now, happens_now}
use Rattle.fkv_world.specs.Past.{Past, life_past}

pub record World : Type 0 where
  pub now : Now
  pub past : Past

-- what the device gives the keeper for the mailbox that it serves, or for its sweep
abbrev pub read_by_keeper : World → List ℕ
read_by_keeper w = keeper_read (record { shape = w.now.shape; places = w.now.places; state = w.now.keeper }) (reads_as w.past.opened w.past.calls)

abbrev pub past_after : World → Now → Event → Past
past_after w after event = if w.now.crashed then w.past else life_past w.now after event w.past

abbrev pub happens : World → Event → World
happens w event =
    let after : Now = happens_now w.now (read_by_keeper w) event in
    record { now = after; past = past_after w after event }

-- the world after a list of events, the newest first
unfoldable pub run : World → List Event → World
run opening [] = opening
run opening (event ∷ before) = happens (run opening before) event
