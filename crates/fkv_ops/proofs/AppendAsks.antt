-- An append asks just where it has asks left, and each reply leaves fewer.
use Rattle.std.proofs.Common.{◌≡◌, ℕ, ◌+◌, ◌<◌, ◌≤◌, ◌^◌, refl, arith, Bool, true, false, Option}
use Rattle.std.specs.Prelude.{◌&&◌, nat_lt, if◌then◌else◌}
use Rattle.fkv_base.specs.declared.numbers.Addr.{Addr}
use Rattle.fkv_plane.specs.declared.asks.Ask.{Ask}
use Rattle.fkv_plane.specs.declared.asks.Ask.TheVariants.{Done}
use Rattle.fkv_plane.specs.declared.places.Places.{Places}
use Rattle.fkv_log.specs.declared.record_words.RecordWords.{RecordWords}
use Rattle.fkv_log.specs.declared.reserving.ReserveAnswer.{ReserveAnswer}
use Rattle.fkv_log.specs.declared.reserving.ReserveAnswer.TheVariants as reserve
use Rattle.fkv_log.specs.Reserving.{reserve_ask, reserve_next, reserve_next_ask, reserve_asks_left}
use Rattle.fkv_log.specs.Filling.{fill_begun, fill_ask, fill_next, fill_asks_left}
use Rattle.fkv_log.specs.Invalidating.{invalidate_ask, invalidate_next, invalidate_asks_left}
use Rattle.fkv_log.proofs.Shown.{reserve_left, reserve_fewer, fill_left, fill_fewer, invalidate_left, invalidate_fewer}
use Rattle.fkv_index.specs.declared.publishing.PublishAnswer.{PublishAnswer}
use Rattle.fkv_index.specs.declared.publishing.PublishAnswer.TheVariants as publish
use Rattle.fkv_index.specs.Publishing.{publish_ask, publish_next, publish_next_ask, publish_asks_left}
use Rattle.fkv_index.proofs.Shown.{publish_counted, publish_fewer}
use Rattle.fkv_ops.specs.declared.appending.AppendAnswer.{AppendAnswer}
use Rattle.fkv_ops.specs.declared.appending.AppendAnswer.TheVariants as answer
use Rattle.fkv_ops.specs.declared.appending.Appending.{Appending}
use Rattle.fkv_ops.specs.declared.appending.Appending.TheVariants.{Ended, Reserves, Fills, Publishes, Invalidates}
use Rattle.fkv_ops.specs.declared.appending.FoundSlot.{FoundSlot}
use Rattle.fkv_ops.specs.Appending.{AppendState, append_begun, append_ended, appending_ask, append_ask, addr_reserved, reserve_ledto, fill_ledto, publish_ledto, invalidate_ledto, appending_next, append_next}
use Rattle.fkv_plane.specs.AsksLeft.{AsksWhereLeft, sum_left}
use Rattle.fkv_ops.specs.AsksLeft.{appending_asks_left, append_asks_left}
use Rattle.fkv_plane.proofs.Shown.{none, done_left, some_inside, passed_left, passed_alone, inside_fewer, behind_fewer}
use Rattle.fkv_ops.proofs.AsksLeft.{counted_left}

pub appending_left : (p : Places) (a : AppendState) (step : Appending) → AsksWhereLeft (appending_asks_left a step) (appending_ask p a step)
unfolding appending_ask appending_asks_left
appending_left p a (Ended its) = done_left its
appending_left p a Reserves = passed_left (reserve_asks_left a.reserving) _ (reserve_ask a.reserving) answer.Contended (reserve_left a.reserving)
appending_left p a (Fills addr) = passed_left (fill_asks_left a.filling) _ (fill_ask p a.filling) answer.Contended (fill_left p a.filling)
appending_left p a (Publishes addr) = passed_left (publish_asks_left a.publishing) 1 (publish_ask a.publishing) answer.Contended (counted_left (publish_asks_left a.publishing) (publish_ask a.publishing) (publish_counted a.publishing))
appending_left p a Invalidates = passed_alone (invalidate_asks_left a.invalidating) (invalidate_ask p a.invalidating) answer.Contended (invalidate_left p a.invalidating)

-- it asks just where it has asks left
pub append_left : (p : Places) (a : AppendState) → AsksWhereLeft (append_asks_left a) (append_ask p a)
append_left p a = appending_left p a a.step

pub append_begun_left : (slot : FoundSlot) (its_words : RecordWords) (bound : Option ℕ) → append_asks_left (append_begun slot its_words bound) ≡ 8
unfolding appending_asks_left sum_left reserve_asks_left
append_begun_left slot its_words bound = refl

addr_reserved_left : (a : AppendState) (addr : Addr) → append_asks_left (addr_reserved a addr) ≤ 3 + 1 + 1
unfolding appending_asks_left sum_left fill_asks_left
addr_reserved_left a addr = tested (nat_lt a.its_words.header.previous.0 addr.0 && nat_lt addr.0 (2 ^ 48))
  where
    tested : (b : Bool) → append_asks_left (if b then record a { filling = fill_begun addr a.its_words; step = Fills addr } else append_ended a answer.Contended) ≤ 3 + 1 + 1
    tested true = omega arith
    tested false = omega arith

reserve_led_fewer : (a : AppendState) (old : ℕ) (ask : Ask ReserveAnswer) → a.step ≡ Reserves → reserve_asks_left a.reserving < old → append_asks_left (reserve_ledto a ask) < sum_left old (3 + 1 + 1)
unfolding reserve_ledto appending_asks_left
reserve_led_fewer a old (Done (reserve.Reserved addr)) at fewer = behind_fewer _ old (3 + 1 + 1) (omega (arith, fewer)) (addr_reserved_left a addr)
reserve_led_fewer a old (Done reserve.Full) at fewer = behind_fewer 0 old (3 + 1 + 1) (omega (arith, fewer)) (omega arith)
reserve_led_fewer a old (Done reserve.NoRoom) at fewer = behind_fewer 0 old (3 + 1 + 1) (omega (arith, fewer)) (omega arith)
reserve_led_fewer a old (Done reserve.Contended) at fewer = behind_fewer 0 old (3 + 1 + 1) (omega (arith, fewer)) (omega arith)
reserve_led_fewer a old ask at fewer = rw at (inside_fewer (reserve_asks_left a.reserving) old (3 + 1 + 1) fewer)

fill_led_fewer : (a : AppendState) (addr : Addr) (old : ℕ) (ask : Ask (Unit {0})) → a.step ≡ Fills addr → fill_asks_left a.filling < old → append_asks_left (fill_ledto a addr ask) < sum_left old (1 + 1)
unfolding fill_ledto appending_asks_left sum_left publish_asks_left
fill_led_fewer a addr old (Done its) at fewer = behind_fewer 2 old (1 + 1) (omega (arith, fewer)) (omega arith)
fill_led_fewer a addr old ask at fewer = rw at (inside_fewer (fill_asks_left a.filling) old (1 + 1) fewer)

publish_led_fewer : (a : AppendState) (addr : Addr) (old : ℕ) (ask : Ask PublishAnswer) → a.step ≡ Publishes addr → publish_asks_left a.publishing < old → append_asks_left (publish_ledto a addr ask) < sum_left old 1
unfolding publish_ledto appending_asks_left invalidate_asks_left
publish_led_fewer a addr old (Done publish.Won) at fewer = behind_fewer 0 old 1 (omega (arith, fewer)) (omega arith)
publish_led_fewer a addr old (Done publish.Lost) at fewer = behind_fewer 1 old 1 (omega (arith, fewer)) (omega arith)
publish_led_fewer a addr old ask at fewer = rw at (inside_fewer (publish_asks_left a.publishing) old 1 fewer)

invalidate_led_fewer : (a : AppendState) (old : ℕ) (ask : Ask (Unit {0})) → a.step ≡ Invalidates → invalidate_asks_left a.invalidating < old → append_asks_left (invalidate_ledto a ask) < old
unfolding invalidate_ledto appending_asks_left
invalidate_led_fewer a old (Done its) at fewer = omega (arith, fewer)
invalidate_led_fewer a old ask at fewer = rw at fewer

appending_fewer : (p : Places) (room : ℕ) (a : AppendState) (step : Appending) (reply : ℕ) → a.step ≡ step → 0 < appending_asks_left a step → append_asks_left (appending_next p room a step reply) < appending_asks_left a step
unfolding appending_next appending_asks_left
appending_fewer p room a (Ended its) reply at some = none some
appending_fewer p room a Reserves reply at some =
    let inside = some_inside (reserve_asks_left a.reserving) (3 + 1 + 1) some in
    let fewer = reserve_fewer a.reserving reply in
    reserve_led_fewer (record a { reserving = reserve_next a.reserving reply }) (reserve_asks_left a.reserving) (reserve_next_ask room a.reserving reply) at (omega (arith, inside, fewer))
appending_fewer p room a (Fills addr) reply at some =
    let inside = some_inside (fill_asks_left a.filling) (1 + 1) some in
    let fewer = fill_fewer a.filling in
    fill_led_fewer (record a { filling = fill_next a.filling }) addr (fill_asks_left a.filling) (fill_ask p (fill_next a.filling)) at (omega (arith, inside, fewer))
appending_fewer p room a (Publishes addr) reply at some =
    let inside = some_inside (publish_asks_left a.publishing) 1 some in
    publish_led_fewer (record a { publishing = publish_next a.publishing reply }) addr (publish_asks_left a.publishing) (publish_next_ask a.publishing reply) at (publish_fewer a.publishing reply inside)
appending_fewer p room a Invalidates reply at some =
    let fewer = invalidate_fewer a.invalidating in
    invalidate_led_fewer (record a { invalidating = invalidate_next a.invalidating }) (invalidate_asks_left a.invalidating) (invalidate_ask p (invalidate_next a.invalidating)) at (omega (arith, some, fewer))

-- each reply leaves fewer
pub append_fewer : (p : Places) (room : ℕ) (a : AppendState) (reply : ℕ) → 0 < append_asks_left a → append_asks_left (append_next p room a reply) < append_asks_left a
append_fewer p room a reply some = appending_fewer p room a a.step reply refl some

-- what it asks, wherever that is given
pub asked_left : (p : Places) (a : AppendState) (ask : Ask AppendAnswer) → ask ≡ append_ask p a → AsksWhereLeft (append_asks_left a) ask
asked_left p a ask e = rw e (append_left p a)
