-- An append publishes its entry at the slot that was found.
use Rattle.std.proofs.Common.{◌≡◌, ℕ, ◌^◌, refl, sym, subst, Bool, true, false}
use Rattle.std.specs.Prelude.{if◌then◌else◌, ◌&&◌, nat_lt, ⊤, Option}
use Rattle.fkv_base.specs.declared.numbers.Addr.{Addr}
use Rattle.fkv_plane.specs.declared.asks.Ask.{Ask}
use Rattle.fkv_plane.specs.declared.asks.Ask.TheVariants.{Done}
use Rattle.fkv_plane.specs.declared.places.Places.{Places}
use Rattle.fkv_index.specs.declared.publishing.PublishAnswer.{PublishAnswer}
use Rattle.fkv_index.specs.declared.publishing.PublishAnswer.TheVariants as publish
use Rattle.fkv_index.specs.declared.publishing.Publishing.{Publishing}
use Rattle.fkv_index.specs.declared.publishing.Publishing.TheVariants as publishing
use Rattle.fkv_index.specs.Publishing.{publish_ask, publish_next, publish_next_ask}
use Rattle.fkv_flush.specs.GuardWorld.{is_guarded}
use Rattle.fkv_log.specs.declared.record_words.RecordWords.{RecordWords}
use Rattle.fkv_log.specs.declared.reserving.ReserveAnswer.{ReserveAnswer}
use Rattle.fkv_log.specs.declared.reserving.ReserveAnswer.TheVariants as reserve
use Rattle.fkv_log.specs.Filling.{fill_begun, fill_ask, fill_next}
use Rattle.fkv_log.specs.Invalidating.{invalidate_ask, invalidate_next}
use Rattle.fkv_log.specs.Reserving.{reserve_next, reserve_next_ask}
use Rattle.fkv_ops.specs.declared.appending.AppendAnswer.{AppendAnswer}
use Rattle.fkv_ops.specs.declared.appending.AppendAnswer.TheVariants as answer
use Rattle.fkv_ops.specs.declared.appending.Appending.{Appending}
use Rattle.fkv_ops.specs.declared.appending.Appending.TheVariants.{Ended, Reserves, Fills, Publishes, Invalidates}
use Rattle.fkv_ops.specs.declared.appending.FoundSlot.{FoundSlot}
use Rattle.fkv_ops.specs.Appending.{AppendState, append_begun, appending_ask, append_ended, addr_reserved, reserve_ledto, fill_ledto, publish_ledto, invalidate_ledto, appending_next, append_next}
use Rattle.fkv_plane.specs.Passing.{passed}
use Rattle.law_world.specs.GuardSessions.Steps.{IsOuter}
use Rattle.law_world.specs.GuardSessions.Tries.{AppendWritesOuter}
use Rattle.law_world.proofs.OfGuardSessions.OuterAsks.{passed_is_outer}

-- the entry is published at a slot
abbrev pub PublishesOuter : Places → Publishing → Type 0
PublishesOuter p publishing.AtRest = ⊤
PublishesOuter p (publishing.SwapsEntry place word entry) = is_guarded p place ≡ false

abbrev pub StepPublishes : Places → AppendState → Appending → Type 0
StepPublishes p a (Publishes addr) = PublishesOuter p a.publishing
StepPublishes p a step = ⊤

pub record IsAppendOuter (p : Places) (a : AppendState) : Type 0 where
  pub place : is_guarded p a.slot.place ≡ false
  pub publishes : StepPublishes p a a.step

publish_outer : (p : Places) (step : Publishing) → PublishesOuter p step → IsOuter p (publish_ask step)
unfolding publish_ask
publish_outer p publishing.AtRest outer = tt
publish_outer p (publishing.SwapsEntry place word entry) outer = outer

-- what an append owes, as its ask is passed on
pub append_owes : {A B C : Type 0} (p : Places) (a : AppendState) (step : Appending) (x : A) (y : B) (z : C) → StepPublishes p a step → AppendWritesOuter p step (passed (passed (passed (appending_ask p a step) x) y) z)
unfolding appending_ask
append_owes p a (Publishes addr) x y z outer = passed_is_outer p _ z (passed_is_outer p _ y (passed_is_outer p _ x (passed_is_outer p _ answer.Contended (publish_outer p a.publishing outer))))
append_owes p a (Ended its) x y z outer = tt
append_owes p a Reserves x y z outer = tt
append_owes p a (Fills addr) x y z outer = tt
append_owes p a Invalidates x y z outer = tt

-- where a reply leads
ended_outer : (p : Places) (a : AppendState) (its : AppendAnswer) → is_guarded p a.slot.place ≡ false → IsAppendOuter p (append_ended a its)
ended_outer p a its outer = record { place = outer; publishes = tt }

either_outer : (c : Bool) (p : Places) (a b : AppendState) → IsAppendOuter p a → IsAppendOuter p b → IsAppendOuter p (if c then a else b)
either_outer true p a b one other = one
either_outer false p a b one other = other

stays_outer : (p : Places) (a : AppendState) (step : Appending) → a.step ≡ step → is_guarded p a.slot.place ≡ false → StepPublishes p a step → IsAppendOuter p a
stays_outer p a step at outer publishes = record { place = outer; publishes = subst (λ x. StepPublishes p a x) (sym at) publishes }

reserved_outer : (p : Places) (a : AppendState) (addr : Addr) → is_guarded p a.slot.place ≡ false → IsAppendOuter p (addr_reserved a addr)
reserved_outer p a addr outer =
    either_outer (nat_lt a.its_words.header.previous.0 addr.0 && nat_lt addr.0 (2 ^ 48)) p (record a { filling = fill_begun addr a.its_words; step = Fills addr }) (append_ended a answer.Contended)
    (record { place = outer; publishes = tt }) (ended_outer p a answer.Contended outer)

reserve_ledto_outer : (p : Places) (a : AppendState) (ask : Ask ReserveAnswer) → a.step ≡ Reserves → is_guarded p a.slot.place ≡ false → IsAppendOuter p (reserve_ledto a ask)
unfolding reserve_ledto
reserve_ledto_outer p a (Done (reserve.Reserved addr)) at outer = reserved_outer p a addr outer
reserve_ledto_outer p a (Done reserve.Full) at outer = ended_outer p a answer.Full outer
reserve_ledto_outer p a (Done reserve.NoRoom) at outer = ended_outer p a answer.NoRoom outer
reserve_ledto_outer p a (Done reserve.Contended) at outer = ended_outer p a answer.Contended outer
reserve_ledto_outer p a ask at outer = stays_outer p a Reserves at outer tt

fill_ledto_outer : (p : Places) (a : AppendState) (addr : Addr) (ask : Ask (Unit {0})) → a.step ≡ Fills addr → is_guarded p a.slot.place ≡ false → IsAppendOuter p (fill_ledto a addr ask)
unfolding fill_ledto
fill_ledto_outer p a addr (Done its) at outer = record { place = outer; publishes = outer }
fill_ledto_outer p a addr ask at outer = stays_outer p a (Fills addr) at outer tt

publish_ledto_outer : (p : Places) (a : AppendState) (addr : Addr) (ask : Ask PublishAnswer) → a.step ≡ Publishes addr → is_guarded p a.slot.place ≡ false → PublishesOuter p a.publishing → IsAppendOuter p (publish_ledto a addr ask)
unfolding publish_ledto
publish_ledto_outer p a addr (Done publish.Won) at outer publishes = ended_outer p a answer.Published outer
publish_ledto_outer p a addr (Done publish.Lost) at outer publishes = record { place = outer; publishes = tt }
publish_ledto_outer p a addr ask at outer publishes = stays_outer p a (Publishes addr) at outer publishes

invalidate_ledto_outer : (p : Places) (a : AppendState) (ask : Ask (Unit {0})) → a.step ≡ Invalidates → is_guarded p a.slot.place ≡ false → IsAppendOuter p (invalidate_ledto a ask)
unfolding invalidate_ledto
invalidate_ledto_outer p a (Done its) at outer = ended_outer p a answer.Contended outer
invalidate_ledto_outer p a ask at outer = stays_outer p a Invalidates at outer tt

published_outer : (p : Places) (step : Publishing) (reply : ℕ) → PublishesOuter p (publish_next step reply)
unfolding publish_next
published_outer p publishing.AtRest reply = tt
published_outer p (publishing.SwapsEntry place word entry) reply = tt

next_outer : (p : Places) (room : ℕ) (a : AppendState) (step : Appending) (reply : ℕ) → a.step ≡ step → is_guarded p a.slot.place ≡ false → IsAppendOuter p (appending_next p room a step reply)
unfolding appending_next
next_outer p room a (Ended its) reply at outer = stays_outer p a (Ended its) at outer tt
next_outer p room a Reserves reply at outer = reserve_ledto_outer p (record a { reserving = reserve_next a.reserving reply }) (reserve_next_ask room a.reserving reply) at outer
next_outer p room a (Fills addr) reply at outer = fill_ledto_outer p (record a { filling = fill_next a.filling }) addr (fill_ask p (fill_next a.filling)) at outer
next_outer p room a (Publishes addr) reply at outer = publish_ledto_outer p (record a { publishing = publish_next a.publishing reply }) addr (publish_next_ask a.publishing reply) at outer (published_outer p a.publishing reply)
next_outer p room a Invalidates reply at outer = invalidate_ledto_outer p (record a { invalidating = invalidate_next a.invalidating }) (invalidate_ask p (invalidate_next a.invalidating)) at outer

-- each reply
pub append_next_outer : (p : Places) (room : ℕ) (a : AppendState) (reply : ℕ) → IsAppendOuter p a → IsAppendOuter p (append_next p room a reply)
append_next_outer p room a reply its = next_outer p room a a.step reply refl its.place

-- as it begins
pub append_begun_outer : (p : Places) (slot : FoundSlot) (its : RecordWords) (bound : Option ℕ) → is_guarded p slot.place ≡ false → IsAppendOuter p (append_begun slot its bound)
append_begun_outer p slot its bound outer = record { place = outer; publishes = tt }
