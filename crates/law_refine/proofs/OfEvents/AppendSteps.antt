-- How a reply to an append moves what it has reserved, beside the log's events of the step.
use Rattle.std.proofs.Common.{◌≡◌, ℕ, ◌+◌, refl, arith, Bool, true, false, List, [], ◌∷◌}
use Rattle.std.specs.Prelude.{◌&&◌, nat_lt, ◌^◌, ◌==◌, if◌then◌else◌, Option, Some, None}
use Rattle.std.proofs.lemmas.Bool.Decides.{nat_tests}
use Rattle.fkv_base.specs.declared.numbers.Addr.{Addr}
use Rattle.law_log.specs.Ghosts.{GhostEvent, Reserves, Drops}
use Rattle.fkv_plane.specs.declared.asks.Ask.{Ask}
use Rattle.fkv_plane.specs.declared.asks.Ask.TheVariants.{Load, Store, Swap, Cas, Add, Max, Put, Take, Done}
use Rattle.fkv_plane.specs.declared.places.Places.{Places}
use Rattle.fkv_plane.specs.declared.places.SharedWord.TheVariants as one
use Rattle.fkv_plane.specs.Asked.{asked, asked_place}
use Rattle.fkv_plane.specs.Passing.{passed}
use Rattle.fkv_plane.specs.Places.{shared_place}
use Rattle.law_world.specs.Below.fkv_log.TheInvalidating.{Invalidating}
use Rattle.law_world.specs.Below.fkv_log.TheInvalidating.TheVariants as invalidating
use Rattle.law_world.specs.Below.fkv_log.ReserveAnswer.TheVariants as reserve
use Rattle.law_world.specs.Below.fkv_log.TheReserving.{Reserving}
use Rattle.law_world.specs.Below.fkv_log.TheReserving.TheVariants as reserving
use Rattle.law_world.specs.Below.fkv_log.Reserving.{reserve_ask, reserve_next, reserve_next_ask, no_room_at}
use Rattle.law_world.specs.Below.fkv_log.Filling.{fill_begun, fill_ask, fill_next}
use Rattle.law_world.specs.Below.fkv_log.Invalidating.{invalidate_ask, invalidate_next}
use Rattle.fkv_index.specs.declared.publishing.PublishAnswer.{PublishAnswer}
use Rattle.fkv_index.specs.declared.publishing.PublishAnswer.TheVariants as publish
use Rattle.fkv_index.specs.Publishing.{publish_next, publish_next_ask}
use Rattle.law_world.specs.Below.fkv_ops.AppendAnswer.TheVariants as answer
use Rattle.law_world.specs.Below.fkv_ops.TheAppending.{Appending}
use Rattle.law_world.specs.Below.fkv_ops.TheAppending.TheVariants.{Ended, Reserves as Taking, Fills, Publishes as Publishing, Invalidates}
use Rattle.law_world.specs.Below.fkv_ops.Appending.{AppendState, append_ended, appending_ask, append_ask, addr_reserved, reserve_ledto, fill_ledto, publish_ledto, invalidate_ledto, appending_next, append_next}
use Rattle.law_refine.specs.Events.Appends.{reserved_ghosts, publish_ghosts, invalidate_ghosts, append_ghosts, NewRecord}
use Rattle.law_local.specs.Tries.TryRows.{cell_of}
use Rattle.law_refine.specs.Events.Reservations.{Reservation, MovesOn, TakesTail, Keeps, TakesOne, LosesOne, PublishesOne, DropsOne, reservation, invalidate_reserves, append_reserves}

-- so it is of an ask that is passed on
pub passes : {A B : Type 0} (ask : Ask A) (told : B) (reply : ℕ) (events : List GhostEvent) (before after : Option Reservation)
    → MovesOn (asked_place ask) (asked ask) reply events before after → MovesOn (asked_place (passed ask told)) (asked (passed ask told)) reply events before after
unfolding passed
passes (Load place) told reply events before after its = its
passes (Store place new) told reply events before after its = its
passes (Swap place new) told reply events before after its = its
passes (Cas place old new) told reply events before after its = its
passes (Add place k) told reply events before after its = its
passes (Max place k) told reply events before after its = its
passes (Put slot action) told reply events before after its = its
passes (Take slot) told reply events before after its = its
passes (Done inner) told reply events before after its = its

-- what an append has reserved
abbrev holding : NewRecord → AppendState → Option Reservation
holding made a = append_reserves a made a.step

-- ---- the address is taken
addr_taken : (place : Option ℕ) (change : ℕ → ℕ) (reply : ℕ) (a : AppendState) (made : NewRecord) (addr : Addr) → TakesTail place change reply addr.0
    → MovesOn place change reply (reserved_ghosts a made (Done (reserve.Reserved addr))) None (holding made (addr_reserved a addr))
addr_taken place change reply a made addr takes = by_test (nat_lt a.its_words.header.previous.0 addr.0 && nat_lt addr.0 (2 ^ 48))
  where
    by_test : (c : Bool) → MovesOn place change reply (if c then Reserves addr.0 made.entry (cell_of made.version a.its_words) ∷ [] else Drops addr.0 ∷ Reserves addr.0 made.entry (cell_of made.version a.its_words) ∷ []) None
        (holding made (if c then record a { filling = fill_begun addr a.its_words; step = Fills addr } else append_ended a answer.Contended))
    by_test true = TakesOne (reservation a made addr.0) takes
    by_test false = LosesOne (reservation a made addr.0) takes

reserve_on : (room : ℕ) (a : AppendState) (made : NewRecord) (its : Reserving) (reply : ℕ) → a.step ≡ Taking
    → MovesOn (asked_place (reserve_ask its)) (asked (reserve_ask its)) reply (reserved_ghosts a made (reserve_next_ask room its reply)) None (holding made (reserve_ledto (record a { reserving = reserve_next its reply }) (reserve_next_ask room its reply)))
unfolding reserve_ask reserve_next reserve_next_ask reserve_ledto
reserve_on room a made reserving.AtRest reply at = Keeps [] None tt
reserve_on room a made (reserving.LoadsLimit bound) reply at = rw at (Keeps [] None tt)
reserve_on room a made (reserving.LoadsTail limit) reply at = by_test (nat_lt reply limit)
  where
    by_room : (c : Bool) → MovesOn (Some (shared_place one.Tail)) (λ n. n) reply (reserved_ghosts a made (Done (if c then reserve.Full else reserve.NoRoom))) None
        (holding made (reserve_ledto (record a { reserving = reserving.AtRest }) (Done (if c then reserve.Full else reserve.NoRoom))))
    by_room true = Keeps [] None tt
    by_room false = Keeps [] None tt

    by_test : (c : Bool) → MovesOn (Some (shared_place one.Tail)) (λ n. n) reply (reserved_ghosts a made (if c then reserve_ask (reserving.TakesTail reply) else Done (no_room_at room reply))) None
        (holding made (reserve_ledto (record a { reserving = if c then reserving.TakesTail reply else reserving.AtRest }) (if c then reserve_ask (reserving.TakesTail reply) else Done (no_room_at room reply))))
    by_test true = rw at (Keeps [] None tt)
    by_test false = by_room (reply == room)
reserve_on room a made (reserving.TakesTail tail) reply at = by_found (reply == tail) refl
  where
    takes : (reply == tail) ≡ true → TakesTail (Some (shared_place one.Tail)) (λ n. if n == tail then tail + 1 else n) reply tail
    takes e = record { at = refl; found = grind (arith, nat_tests, e); raised = rw e (let same : reply ≡ tail = grind (arith, nat_tests, e) in omega (arith, same)) }

    by_found : (c : Bool) → (reply == tail) ≡ c → MovesOn (Some (shared_place one.Tail)) (λ n. if n == tail then tail + 1 else n) reply
        (reserved_ghosts a made (Done (if c then reserve.Reserved (record { 0 = tail }) else reserve.Contended))) None
        (holding made (reserve_ledto (record a { reserving = reserving.AtRest }) (Done (if c then reserve.Reserved (record { 0 = tail }) else reserve.Contended))))
    by_found true e = addr_taken (Some (shared_place one.Tail)) (λ n. if n == tail then tail + 1 else n) reply (record a { reserving = reserving.AtRest }) made (record { 0 = tail }) (takes e)
    by_found false e = Keeps [] None tt

-- ---- it is filled, published or lost
fill_on : (place : Option ℕ) (change : ℕ → ℕ) (reply : ℕ) (a : AppendState) (made : NewRecord) (addr : Addr) (ask : Ask (Unit {0})) → a.step ≡ Fills addr
    → MovesOn place change reply [] (Some (reservation a made addr.0)) (holding made (fill_ledto a addr ask))
unfolding fill_ledto
fill_on place change reply a made addr (Done its) at = Keeps [] (Some (reservation a made addr.0)) tt
fill_on place change reply a made addr ask at = rw at (Keeps [] (Some (reservation a made addr.0)) tt)

publish_on : (place : Option ℕ) (change : ℕ → ℕ) (reply : ℕ) (a : AppendState) (made : NewRecord) (addr : Addr) (ask : Ask PublishAnswer) → a.step ≡ Publishing addr
    → MovesOn place change reply (publish_ghosts addr.0 ask) (Some (reservation a made addr.0)) (holding made (publish_ledto a addr ask))
unfolding publish_ledto
publish_on place change reply a made addr (Done publish.Won) at = PublishesOne (reservation a made addr.0)
publish_on place change reply a made addr (Done publish.Lost) at = Keeps [] (Some (reservation a made addr.0)) tt
publish_on place change reply a made addr ask at = rw at (Keeps [] (Some (reservation a made addr.0)) tt)

invalidate_on : (place : Option ℕ) (change : ℕ → ℕ) (reply : ℕ) (p : Places) (a : AppendState) (made : NewRecord) (its : Invalidating)
    → MovesOn place change reply (invalidate_ghosts its) (invalidate_reserves a made its) (holding made (invalidate_ledto (record a { invalidating = invalidate_next its }) (invalidate_ask p (invalidate_next its))))
unfolding invalidate_ledto invalidate_ask invalidate_next
invalidate_on place change reply p a made invalidating.AtRest = Keeps [] None tt
invalidate_on place change reply p a made (invalidating.StoresHeader addr header) = DropsOne (reservation a made addr.0)

-- ---- each reply to an append
appending_on : (p : Places) (room : ℕ) (a : AppendState) (made : NewRecord) (step : Appending) (reply : ℕ) → a.step ≡ step
    → MovesOn (asked_place (appending_ask p a step)) (asked (appending_ask p a step)) reply (append_ghosts room a made step reply) (append_reserves a made step) (holding made (appending_next p room a step reply))
unfolding appending_next appending_ask
appending_on p room a made (Ended its) reply at = rw at (Keeps [] None tt)
appending_on p room a made Taking reply at = passes (reserve_ask a.reserving) answer.Contended reply _ _ _ (reserve_on room a made a.reserving reply at)
appending_on p room a made (Fills addr) reply at = fill_on _ _ reply (record a { filling = fill_next a.filling }) made addr (fill_ask p (fill_next a.filling)) at
appending_on p room a made (Publishing addr) reply at = publish_on _ _ reply (record a { publishing = publish_next a.publishing reply }) made addr (publish_next_ask a.publishing reply) at
appending_on p room a made Invalidates reply at = invalidate_on _ _ reply p a made a.invalidating

pub append_on : (p : Places) (room : ℕ) (a : AppendState) (made : NewRecord) (reply : ℕ)
    → MovesOn (asked_place (append_ask p a)) (asked (append_ask p a)) reply (append_ghosts room a made a.step reply) (append_reserves a made a.step) (append_reserves (append_next p room a reply) made (append_next p room a reply).step)
append_on p room a made reply = appending_on p room a made a.step reply refl
