-- Where the machines inside an append lead it, in what the guard's actor is like.
use Rattle.std.proofs.Common.{◌≡◌, ◌⊎◌, ℕ, refl, ap, inl, inr, Bool, true, false}
use Rattle.std.specs.Prelude.{Option, Some, None, nat_lt, if◌then◌else◌}
use Rattle.fkv_base.specs.declared.numbers.Addr.{Addr}
use Rattle.fkv_plane.specs.declared.asks.Ask.{Ask}
use Rattle.fkv_plane.specs.declared.asks.Ask.TheVariants.{Done}
use Rattle.fkv_plane.specs.declared.places.Places.{Places}
use Rattle.fkv_plane.specs.Passing.{is_done}
use Rattle.fkv_log.specs.declared.reserving.ReserveAnswer.{ReserveAnswer}
use Rattle.fkv_log.specs.declared.reserving.ReserveAnswer.TheVariants as answer
use Rattle.fkv_log.specs.declared.reserving.Reserving.{Reserving}
use Rattle.fkv_log.specs.declared.reserving.Reserving.TheVariants as reserving
use Rattle.fkv_log.specs.declared.filling.Filling.{Filling}
use Rattle.fkv_log.specs.declared.filling.Filling.TheVariants as filling
use Rattle.fkv_log.specs.Reserving.{reserve_ask, reserve_next, reserve_next_ask, no_room_at}
use Rattle.fkv_log.specs.Filling.{fill_ask, fill_next}
use Rattle.fkv_flush.specs.GuardSeen.{LastSeen}
use Rattle.fkv_flush.specs.GuardWorld.{ToFill}
use Rattle.fkv_ops.specs.declared.appending.Appending.TheVariants.{Reserves, Fills}
use Rattle.fkv_ops.specs.Appending.{AppendState, reserve_ledto, fill_ledto}
use Rattle.law_world.specs.GuardSessions.Likenesses.{likeness, reserve_work, fill_work, reserve_onward, fill_onward, append_onward, append_likeness}
use Rattle.law_world.specs.GuardSessions.Steps.{Stays}
use Rattle.law_world.specs.GuardSessions.Tries.{is_for_entry}
use Rattle.law_world.proofs.OfGuardSessions.Onwards.{Leads, Keeps, Begins}

pub truth : (b : Bool) → (b ≡ true) ⊎ (b ≡ false)
truth true = inl refl
truth false = inr refl

-- the address that is undecided behind a step of the reservation
abbrev pub reserved_then : AppendState → Ask ReserveAnswer → Option ℕ
reserved_then s (Done (answer.Reserved addr)) = if is_for_entry s addr then Some addr.0 else None
reserved_then s ask = None

-- at its end the reservation is through, and before it is past its first step
pub reserve_ends : (room : ℕ) (r : Reserving) (reply : ℕ) → is_done (reserve_next_ask room r reply) ≡ true → reserve_work (reserve_next r reply) ≡ None
unfolding reserve_ask reserve_next reserve_next_ask
reserve_ends room reserving.AtRest reply e = refl
reserve_ends room (reserving.LoadsLimit bound) reply e = cc
reserve_ends room (reserving.LoadsTail limit) reply e = by_test (nat_lt reply limit) e
  where
    by_test : (b : Bool) → is_done (if b then reserve_ask (reserving.TakesTail reply) else Done (no_room_at room reply)) ≡ true → reserve_work (if b then reserving.TakesTail reply else reserving.AtRest) ≡ None
    by_test true e = cc
    by_test false e = refl
reserve_ends room (reserving.TakesTail tail) reply e = refl

pub reserve_goes : (room : ℕ) (r : Reserving) (reply : ℕ) → is_done (reserve_next_ask room r reply) ≡ false → reserve_onward (reserve_next r reply) ≡ Stays
unfolding reserve_ask reserve_next reserve_next_ask
reserve_goes room reserving.AtRest reply e = refl
reserve_goes room (reserving.LoadsLimit bound) reply e = refl
reserve_goes room (reserving.LoadsTail limit) reply e = elim (truth (nat_lt reply limit)) [ inl t ↦ rw t refl | inr t ↦ rw t refl ]
reserve_goes room (reserving.TakesTail tail) reply e = refl

pub reserve_led : (s : AppendState) (seen : LastSeen) (ask : Ask ReserveAnswer) → s.step ≡ Reserves → (is_done ask ≡ true → reserve_work s.reserving ≡ None) → (is_done ask ≡ false → reserve_onward s.reserving ≡ Stays)
    → Leads true (likeness None (reserve_work s.reserving) seen (reserved_then s ask)) (append_onward (reserve_ledto s ask) (reserve_ledto s ask).step) (append_likeness seen (reserve_ledto s ask))
unfolding reserve_ledto
reserve_led s seen (Done (answer.Reserved addr)) at none goes = elim (truth (is_for_entry s addr)) [
  | inl e ↦ rw e (Begins (ToFill s.its_words) refl tt refl (none refl) (addr.0, refl) refl)
  | inr e ↦ rw e (Keeps refl (ap (λ w. likeness None w seen None) (none refl)))
]
reserve_led s seen (Done answer.Full) at none goes = Keeps refl (ap (λ w. likeness None w seen None) (none refl))
reserve_led s seen (Done answer.NoRoom) at none goes = Keeps refl (ap (λ w. likeness None w seen None) (none refl))
reserve_led s seen (Done answer.Contended) at none goes = Keeps refl (ap (λ w. likeness None w seen None) (none refl))
reserve_led s seen ask at none goes = rw at (Keeps (goes refl) refl)

pub fill_ends : (p : Places) (f : Filling) → is_done (fill_ask p (fill_next f)) ≡ true → fill_work (fill_next f) ≡ None
unfolding fill_ask fill_next
fill_ends p filling.AtRest e = refl
fill_ends p (filling.StoresValue addr its_words) e = cc
fill_ends p (filling.StoresKey addr its_words) e = cc
fill_ends p (filling.StoresHeader addr its_words) e = refl

pub fill_goes : (p : Places) (f : Filling) → fill_onward (fill_next f) ≡ Stays
unfolding fill_next
fill_goes p filling.AtRest = refl
fill_goes p (filling.StoresValue addr its_words) = refl
fill_goes p (filling.StoresKey addr its_words) = refl
fill_goes p (filling.StoresHeader addr its_words) = refl

pub fill_led : (s : AppendState) (seen : LastSeen) (addr : Addr) (ask : Ask (Unit {0})) → s.step ≡ Fills addr → (is_done ask ≡ true → fill_work s.filling ≡ None) → fill_onward s.filling ≡ Stays
    → Leads true (likeness None (fill_work s.filling) seen (Some addr.0)) (append_onward (fill_ledto s addr ask) (fill_ledto s addr ask).step) (append_likeness seen (fill_ledto s addr ask))
unfolding fill_ledto
fill_led s seen addr (Done its) at none goes = Keeps refl (ap (λ w. likeness None w seen (Some addr.0)) (none refl))
fill_led s seen addr ask at none goes = rw at (Keeps goes refl)
