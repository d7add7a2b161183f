-- An append that has begun is at its end, or it asks.
use Rattle.std.proofs.Common.{◌≡◌, ℕ, ◌+◌, ◌<◌, ◌^◌, refl, sym, ◌∙◌, arith, Bool, true, false, Option}
use Rattle.std.specs.Prelude.{◌&&◌, nat_lt, if◌then◌else◌, ⊤}
use Rattle.fkv_base.specs.declared.numbers.Addr.{Addr}
use Rattle.fkv_plane.specs.declared.asks.Ask.{Ask}
use Rattle.fkv_plane.specs.declared.asks.Ask.TheVariants.{Done}
use Rattle.fkv_plane.specs.declared.places.Places.{Places}
use Rattle.fkv_plane.specs.Passing.{is_done}
use Rattle.fkv_log.specs.declared.record_words.RecordWords.{RecordWords}
use Rattle.fkv_log.specs.declared.reserving.ReserveAnswer.{ReserveAnswer}
use Rattle.fkv_log.specs.declared.reserving.ReserveAnswer.TheVariants as reserve
use Rattle.fkv_log.specs.declared.reserving.Reserving.{Reserving}
use Rattle.fkv_log.specs.declared.reserving.Reserving.TheVariants as reserving
use Rattle.fkv_log.specs.Reserving.{reserve_ask, reserve_next, reserve_next_ask, reserve_asks_left, no_room_at}
use Rattle.fkv_log.specs.Filling.{fill_begun, fill_ask, fill_next, fill_asks_left}
use Rattle.fkv_log.specs.Invalidating.{invalidate_ask, invalidate_next, invalidate_asks_left}
use Rattle.fkv_log.proofs.Shown.{fill_left, invalidate_left}
use Rattle.fkv_index.specs.declared.publishing.PublishAnswer.{PublishAnswer}
use Rattle.fkv_index.specs.declared.publishing.PublishAnswer.TheVariants as publish
use Rattle.fkv_index.specs.Publishing.{publish_next, publish_next_ask, publish_asks_left}
use Rattle.fkv_index.proofs.Shown.{publish_next_counted}
use Rattle.fkv_ops.specs.declared.appending.AppendAnswer.TheVariants as answer
use Rattle.fkv_ops.specs.declared.appending.Appending.{Appending}
use Rattle.fkv_ops.specs.declared.appending.Appending.TheVariants.{Ended, Reserves, Fills, Publishes, Invalidates}
use Rattle.fkv_ops.specs.declared.appending.FoundSlot.{FoundSlot}
use Rattle.fkv_ops.specs.Appending.{AppendState, append_begun, append_ended, appending_ask, append_ask, addr_reserved, reserve_ledto, fill_ledto, publish_ledto, invalidate_ledto, appending_next, append_next}
use Rattle.fkv_plane.specs.AsksLeft.{AsksWhereLeft}
use Rattle.fkv_ops.specs.AsksLeft.{appending_asks_left}
use Rattle.fkv_plane.proofs.Shown.{never, some_sum}
use Rattle.fkv_ops.proofs.AsksLeft.{counted_left}
use Rattle.fkv_ops.proofs.AppendAsks.{appending_left}

abbrev pub is_append_end : Appending → Bool
is_append_end (Ended its) = true
is_append_end step = false

-- the machine inside that is driven has asks left
abbrev pub AppendAsksAt : AppendState → Appending → Type 0
AppendAsksAt a (Ended its) = ⊤
AppendAsksAt a Reserves = 0 < reserve_asks_left a.reserving
AppendAsksAt a (Fills addr) = 0 < fill_asks_left a.filling
AppendAsksAt a (Publishes addr) = 0 < publish_asks_left a.publishing
AppendAsksAt a Invalidates = 0 < invalidate_asks_left a.invalidating

abbrev pub AppendRestsOrAsks : AppendState → Type 0
AppendRestsOrAsks a = AppendAsksAt a a.step

pub record IsAppendUnderWay (a : AppendState) : Type 0 where
  pub asks : AppendRestsOrAsks a
  pub goes_on : is_append_end a.step ≡ false

appending_done : (p : Places) (a : AppendState) (step : Appending) → AppendAsksAt a step → is_done (appending_ask p a step) ≡ is_append_end step
unfolding appending_ask appending_asks_left
appending_done p a (Ended its) at = refl
appending_done p a Reserves at = (appending_left p a Reserves).1 (some_sum (reserve_asks_left a.reserving) (3 + 1 + 1) at)
appending_done p a (Fills addr) at = (appending_left p a (Fills addr)).1 (some_sum (fill_asks_left a.filling) (1 + 1) at)
appending_done p a (Publishes addr) at = (appending_left p a (Publishes addr)).1 (some_sum (publish_asks_left a.publishing) 1 at)
appending_done p a Invalidates at = (appending_left p a Invalidates).1 at

-- it is at an end exactly where it has ended
pub append_done : (p : Places) (a : AppendState) → AppendRestsOrAsks a → is_done (append_ask p a) ≡ is_append_end a.step
append_done p a at = appending_done p a a.step at

-- as it begins it asks
pub append_begun_under_way : (slot : FoundSlot) (its_words : RecordWords) (bound : Option ℕ) → IsAppendUnderWay (append_begun slot its_words bound)
unfolding reserve_asks_left
append_begun_under_way slot its_words bound = record { asks = omega arith; goes_on = refl }

pub append_begun_asks : (p : Places) (slot : FoundSlot) (its_words : RecordWords) (bound : Option ℕ) → is_done (append_ask p (append_begun slot its_words bound)) ≡ false
append_begun_asks p slot its_words bound = append_done p (append_begun slot its_words bound) (append_begun_under_way slot its_words bound).asks

addr_reserved_rests : (a : AppendState) (addr : Addr) → AppendRestsOrAsks (addr_reserved a addr)
unfolding fill_asks_left
addr_reserved_rests a addr = tested (nat_lt a.its_words.header.previous.0 addr.0 && nat_lt addr.0 (2 ^ 48))
  where
    tested : (b : Bool) → AppendRestsOrAsks (if b then record a { filling = fill_begun addr a.its_words; step = Fills addr } else append_ended a answer.Contended)
    tested true = omega arith
    tested false = tt

reserve_next_some : (room : ℕ) (step : Reserving) (reply : ℕ) → is_done (reserve_next_ask room step reply) ≡ false → 0 < reserve_asks_left (reserve_next step reply)
unfolding reserve_ask reserve_next reserve_next_ask reserve_asks_left
reserve_next_some room reserving.AtRest reply asks = never asks
reserve_next_some room (reserving.LoadsLimit bound) reply asks = omega arith
reserve_next_some room (reserving.LoadsTail limit) reply asks = tested (nat_lt reply limit) asks
  where
    tested : (b : Bool) → is_done (if b then reserve_ask (reserving.TakesTail reply) else Done (no_room_at room reply)) ≡ false → 0 < reserve_asks_left (if b then reserving.TakesTail reply else reserving.AtRest)
    tested true asks = omega arith
    tested false asks = never asks
reserve_next_some room (reserving.TakesTail tail) reply asks = never asks

reserve_led_rests : (a : AppendState) (ask : Ask ReserveAnswer) → a.step ≡ Reserves → (is_done ask ≡ false → 0 < reserve_asks_left a.reserving) → AppendRestsOrAsks (reserve_ledto a ask)
unfolding reserve_ledto
reserve_led_rests a (Done (reserve.Reserved addr)) at some = addr_reserved_rests a addr
reserve_led_rests a (Done reserve.Full) at some = tt
reserve_led_rests a (Done reserve.NoRoom) at some = tt
reserve_led_rests a (Done reserve.Contended) at some = tt
reserve_led_rests a ask at some = rw at (some refl)

fill_led_rests : (a : AppendState) (addr : Addr) (ask : Ask (Unit {0})) → a.step ≡ Fills addr → AsksWhereLeft (fill_asks_left a.filling) ask → AppendRestsOrAsks (fill_ledto a addr ask)
unfolding fill_ledto publish_asks_left
fill_led_rests a addr (Done its) at left = omega arith
fill_led_rests a addr ask at left = rw at (left.0 refl)

publish_led_rests : (a : AppendState) (addr : Addr) (ask : Ask PublishAnswer) → a.step ≡ Publishes addr → AsksWhereLeft (publish_asks_left a.publishing) ask → AppendRestsOrAsks (publish_ledto a addr ask)
unfolding publish_ledto invalidate_asks_left
publish_led_rests a addr (Done publish.Won) at left = tt
publish_led_rests a addr (Done publish.Lost) at left = omega arith
publish_led_rests a addr ask at left = rw at (left.0 refl)

invalidate_led_rests : (a : AppendState) (ask : Ask (Unit {0})) → a.step ≡ Invalidates → AsksWhereLeft (invalidate_asks_left a.invalidating) ask → AppendRestsOrAsks (invalidate_ledto a ask)
unfolding invalidate_ledto
invalidate_led_rests a (Done its) at left = tt
invalidate_led_rests a ask at left = rw at (left.0 refl)

appending_rests : (p : Places) (room : ℕ) (a : AppendState) (step : Appending) (reply : ℕ) → a.step ≡ step → AppendAsksAt a step → AppendRestsOrAsks (appending_next p room a step reply)
unfolding appending_next
appending_rests p room a (Ended its) reply at its_asks = rw at tt
appending_rests p room a Reserves reply at its_asks = reserve_led_rests (record a { reserving = reserve_next a.reserving reply }) (reserve_next_ask room a.reserving reply) at (reserve_next_some room a.reserving reply)
appending_rests p room a (Fills addr) reply at its_asks = fill_led_rests (record a { filling = fill_next a.filling }) addr (fill_ask p (fill_next a.filling)) at (fill_left p (fill_next a.filling))
appending_rests p room a (Publishes addr) reply at its_asks =
    let its = publish_next a.publishing reply in
    let ask = publish_next_ask a.publishing reply in
    publish_led_rests (record a { publishing = its }) addr ask at (counted_left (publish_asks_left its) ask (publish_next_counted a.publishing reply))
appending_rests p room a Invalidates reply at its_asks =
    invalidate_led_rests (record a { invalidating = invalidate_next a.invalidating }) (invalidate_ask p (invalidate_next a.invalidating)) at (invalidate_left p (invalidate_next a.invalidating))

-- it stays so behind each reply
pub append_rests : (p : Places) (room : ℕ) (a : AppendState) (reply : ℕ) → AppendRestsOrAsks a → AppendRestsOrAsks (append_next p room a reply)
append_rests p room a reply its_asks = appending_rests p room a a.step reply refl its_asks

-- and is under way while it asks
pub append_goes_on : (p : Places) (a : AppendState) → AppendRestsOrAsks a → is_done (append_ask p a) ≡ false → IsAppendUnderWay a
append_goes_on p a its_asks asks = record { asks = its_asks; goes_on = sym (append_done p a its_asks) ∙ asks }
