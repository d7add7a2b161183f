-- How a latch is taken and dropped, shared or exclusive: one try each, in the last word of its bucket.
use Rattle.std.specs.Prelude.{◌≡◌, ℕ, ◌+◌, ◌-◌, ◌^◌, ◌<◌, ◌==◌, ◌↔◌, nat_le, nat_lt, if◌then◌else◌, Bool, false, ⊤}
use Rattle.fkv_plane.specs.declared.asks.Ask.{Ask}
use Rattle.fkv_plane.specs.declared.asks.Ask.TheVariants.{Load, Cas, Add, Done}
use Rattle.fkv_plane.specs.Passing.{is_done}
use Rattle.fkv_latch.specs.declared.latching.LatchAnswer.{LatchAnswer}
use Rattle.fkv_latch.specs.declared.latching.LatchAnswer.TheVariants.{Taken, Busy, Dropped}
use Rattle.fkv_latch.specs.declared.latching.LatchTask.{LatchTask}
use Rattle.fkv_latch.specs.declared.latching.LatchTask.TheVariants.{TakeShared, DropShared, TakeExclusive, DropExclusive}
use Rattle.fkv_latch.specs.declared.latching.Latching.{Latching}
use Rattle.fkv_latch.specs.declared.latching.Latching.TheVariants.{AtRest, AddsShare, GivesBack, DropsShare, LoadsWord, SetsExclusive, DropsExclusive}

-- one of those that share the latch: they are counted from bit 48 on
abbrev pub one_share : ℕ
one_share = 2 ^ 48

-- bit 63, which is set where one holds it alone
abbrev pub exclusive_bit : ℕ
exclusive_bit = 2 ^ 63

abbrev pub is_exclusive : ℕ → Bool
is_exclusive word = nat_le exclusive_bit word

-- nobody holds it, neither together nor alone
abbrev pub is_free : ℕ → Bool
is_free word = nat_lt word one_share

-- the exclusive latch is taken from a word that was free
abbrev pub IsLatchInRange : Latching → Type 0
IsLatchInRange (SetsExclusive place word) = word < one_share
IsLatchInRange step = ⊤

-- where a task begins
abbrev pub latch_first : LatchTask → ℕ → Latching
latch_first TakeShared place = AddsShare place
latch_first DropShared place = DropsShare place
latch_first TakeExclusive place = LoadsWord place
latch_first DropExclusive place = DropsExclusive place

-- what each state asks. To take one off is to add 2^64 less one, modulo 2^64
unfoldable pub latch_ask : Latching → Ask LatchAnswer
latch_ask AtRest = Done Dropped
latch_ask (AddsShare place) = Add place one_share
latch_ask (GivesBack place) = Add place (2 ^ 64 - one_share)
latch_ask (DropsShare place) = Add place (2 ^ 64 - one_share)
latch_ask (LoadsWord place) = Load place
latch_ask (SetsExclusive place word) = Cas place word (word + exclusive_bit)
latch_ask (DropsExclusive place) = Add place exclusive_bit

-- where the reply leads
unfoldable pub latch_next : Latching → ℕ → Latching
latch_next (AddsShare place) reply = if is_exclusive reply then GivesBack place else AtRest
latch_next (LoadsWord place) reply = if is_free reply then SetsExclusive place reply else AtRest
latch_next step reply = AtRest

-- what is asked next: at an end its answer, and else what the next state asks
unfoldable pub latch_next_ask : Latching → ℕ → Ask LatchAnswer
latch_next_ask (AddsShare place) reply = if is_exclusive reply then latch_ask (GivesBack place) else Done Taken
latch_next_ask (GivesBack place) reply = Done Busy
latch_next_ask (LoadsWord place) reply = if is_free reply then latch_ask (SetsExclusive place reply) else Done Busy
latch_next_ask (SetsExclusive place word) reply = Done (if reply == word then Taken else Busy)
latch_next_ask step reply = Done Dropped

-- how many asks it has left, at most
unfoldable pub asks_left : Latching → ℕ
asks_left AtRest = 0
asks_left (AddsShare place) = 2
asks_left (LoadsWord place) = 2
asks_left step = 1

-- it asks for something just where it has asks left, and else is at its end
abbrev pub AsksWhereLeft : Latching → Ask LatchAnswer → Type 0
AsksWhereLeft step ask = (is_done ask ≡ false) ↔ (0 < asks_left step)
