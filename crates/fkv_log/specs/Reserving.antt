-- How an address is reserved at the tail: the limit, then the tail, then one Cas.
use Rattle.std.specs.Prelude.{ℕ, ◌+◌, ◌^◌, ◌<◌, ◌==◌, nat_lt, if◌then◌else◌, Option, Some, None, ⊤}
use Rattle.fkv_plane.specs.declared.asks.Ask.{Ask}
use Rattle.fkv_plane.specs.declared.asks.Ask.TheVariants.{Load, Cas, Done}
use Rattle.fkv_plane.specs.declared.places.SharedWord.TheVariants as one
use Rattle.fkv_plane.specs.Places.{shared_place}
use Rattle.fkv_log.specs.declared.reserving.ReserveAnswer.{ReserveAnswer}
use Rattle.fkv_log.specs.declared.reserving.ReserveAnswer.TheVariants.{Reserved, Full, NoRoom, Contended}
use Rattle.fkv_log.specs.declared.reserving.Reserving.{Reserving}
use Rattle.fkv_log.specs.declared.reserving.Reserving.TheVariants.{AtRest, LoadsLimit, LoadsTail, TakesTail}

pub record Reserver : Type 0 where
  -- how many addresses the log has on the device
  pub room : ℕ
  pub step : Reserving

-- the tail that is taken was below a limit
abbrev pub IsReserveInRange : Reserving → Type 0
IsReserveInRange AtRest = ⊤
IsReserveInRange (LoadsLimit bound) = ⊤
IsReserveInRange (LoadsTail limit) = limit < 2 ^ 64
IsReserveInRange (TakesTail tail) = tail + 1 < 2 ^ 64

-- what each state asks
unfoldable pub reserve_ask : Reserving → Ask ReserveAnswer
reserve_ask AtRest = Done Contended
reserve_ask (LoadsLimit bound) = Load (shared_place one.Limit)
reserve_ask (LoadsTail limit) = Load (shared_place one.Tail)
reserve_ask (TakesTail tail) = Cas (shared_place one.Tail) tail (tail + 1)

-- a call of a living store has a bound, from which on it takes no address: so the limit counts up to that
abbrev pub limit_within : Option ℕ → ℕ → ℕ
limit_within None limit = limit
limit_within (Some bound) limit = if nat_lt bound limit then bound else limit

-- where the reply leads
unfoldable pub reserve_next : Reserving → ℕ → Reserving
reserve_next AtRest reply = AtRest
reserve_next (LoadsLimit bound) reply = LoadsTail (limit_within bound reply)
reserve_next (LoadsTail limit) reply = if nat_lt reply limit then TakesTail reply else AtRest
reserve_next (TakesTail tail) reply = AtRest

-- at the end of the log no limit will ever be above the tail
abbrev pub no_room_at : ℕ → ℕ → ReserveAnswer
no_room_at room tail = if tail == room then Full else NoRoom

-- the Cas was won where it found the tail
abbrev pub reserved_where : ℕ → ℕ → ReserveAnswer
reserved_where tail found = if found == tail then Reserved (record { 0 = tail }) else Contended

-- what is asked next: at an end its answer, and else what the next state asks
unfoldable pub reserve_next_ask : ℕ → Reserving → ℕ → Ask ReserveAnswer
reserve_next_ask room (LoadsTail limit) reply = if nat_lt reply limit then reserve_ask (TakesTail reply) else Done (no_room_at room reply)
reserve_next_ask room (TakesTail tail) reply = Done (reserved_where tail reply)
reserve_next_ask room step reply = reserve_ask (reserve_next step reply)

-- how many asks it has left, at most
unfoldable pub reserve_asks_left : Reserving → ℕ
reserve_asks_left AtRest = 0
reserve_asks_left (LoadsLimit bound) = 3
reserve_asks_left (LoadsTail limit) = 2
reserve_asks_left (TakesTail tail) = 1
