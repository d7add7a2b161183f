-- A machine asks for something exactly where asks are left to it, and each reply leaves fewer.
use Rattle.std.proofs.Common.{◌≡◌, ℕ, ◌+◌, ◌-◌, ◌<◌, ◌≤◌, refl, arith, Bool, true, false}
use Rattle.std.specs.Prelude.{◌↔◌, nat_lt, if◌then◌else◌}
use Rattle.fkv_plane.specs.declared.places.Places.{Places}
use Rattle.fkv_plane.specs.Passing.{is_done}
use Rattle.fkv_log.specs.declared.reserving.Reserving.{Reserving}
use Rattle.fkv_log.specs.declared.reserving.Reserving.TheVariants as reserve
use Rattle.fkv_log.specs.declared.filling.Filling.{Filling}
use Rattle.fkv_log.specs.declared.filling.Filling.TheVariants as fill
use Rattle.fkv_log.specs.declared.invalidating.Invalidating.{Invalidating}
use Rattle.fkv_log.specs.declared.invalidating.Invalidating.TheVariants as invalidate
use Rattle.fkv_log.specs.declared.loading.Loading.{Loading}
use Rattle.fkv_log.specs.declared.loading.Loading.TheVariants as load
use Rattle.fkv_log.specs.Reserving.{reserve_ask, reserve_next, reserve_next_ask, reserve_asks_left}
use Rattle.fkv_log.specs.Filling.{fill_ask, fill_next, fill_asks_left}
use Rattle.fkv_log.specs.Invalidating.{invalidate_ask, invalidate_next, invalidate_asks_left}
use Rattle.fkv_log.specs.Loading.{load_ask, load_next, load_next_ask, load_on, load_asks_left, load_asks_later}
use Rattle.fkv_log.proofs.Asks.{never}

-- less than none
pub none : {X : Type 0} → 0 < 0 → X
none h = let no : ⊥ = omega (arith, h) in absurd no

pub reserve_left : (step : Reserving) → (is_done (reserve_ask step) ≡ false) ↔ (0 < reserve_asks_left step)
unfolding reserve_ask reserve_asks_left
reserve_left reserve.AtRest = (never, none)
reserve_left step = (λ asks. omega arith, λ some. refl)

pub reserve_fewer : (step : Reserving) (reply : ℕ) → reserve_asks_left (reserve_next step reply) ≤ reserve_asks_left step - 1
unfolding reserve_next reserve_asks_left
reserve_fewer (reserve.LoadsTail limit) reply = tested (nat_lt reply limit)
  where
    tested : (b : Bool) → reserve_asks_left (if b then reserve.TakesTail reply else reserve.AtRest) ≤ 1
    tested true = omega arith
    tested false = omega arith
reserve_fewer step reply = omega arith

-- where it goes on with a reply, asks were left
pub reserve_falls : (room : ℕ) (step : Reserving) (reply : ℕ) → is_done (reserve_next_ask room step reply) ≡ false → reserve_asks_left (reserve_next step reply) < reserve_asks_left step
unfolding reserve_ask reserve_next reserve_next_ask reserve_asks_left
reserve_falls room reserve.AtRest reply asks = never asks
reserve_falls room (reserve.LoadsLimit bound) reply asks = omega arith
reserve_falls room (reserve.LoadsTail limit) reply asks = tested (nat_lt reply limit)
  where
    tested : (b : Bool) → reserve_asks_left (if b then reserve.TakesTail reply else reserve.AtRest) < 2
    tested true = omega arith
    tested false = omega arith
reserve_falls room (reserve.TakesTail tail) reply asks = omega arith

pub fill_left : (places : Places) (step : Filling) → (is_done (fill_ask places step) ≡ false) ↔ (0 < fill_asks_left step)
unfolding fill_ask fill_asks_left
fill_left places fill.AtRest = (never, none)
fill_left places step = (λ asks. omega arith, λ some. refl)

pub fill_fewer : (step : Filling) → fill_asks_left (fill_next step) ≤ fill_asks_left step - 1
unfolding fill_next fill_asks_left
fill_fewer fill.AtRest = omega arith
fill_fewer step = omega arith

pub fill_falls : (places : Places) (step : Filling) → is_done (fill_ask places (fill_next step)) ≡ false → fill_asks_left (fill_next step) < fill_asks_left step
unfolding fill_ask fill_next fill_asks_left
fill_falls places fill.AtRest asks = never asks
fill_falls places step asks = omega arith

pub invalidate_left : (places : Places) (step : Invalidating) → (is_done (invalidate_ask places step) ≡ false) ↔ (0 < invalidate_asks_left step)
unfolding invalidate_ask invalidate_asks_left
invalidate_left places invalidate.AtRest = (never, none)
invalidate_left places (invalidate.StoresHeader addr header) = (λ asks. omega arith, λ some. refl)

pub invalidate_fewer : (step : Invalidating) → invalidate_asks_left (invalidate_next step) ≤ invalidate_asks_left step - 1
unfolding invalidate_next invalidate_asks_left
invalidate_fewer invalidate.AtRest = omega arith
invalidate_fewer (invalidate.StoresHeader addr header) = omega arith

pub invalidate_falls : (places : Places) (step : Invalidating) → is_done (invalidate_ask places (invalidate_next step)) ≡ false → invalidate_asks_left (invalidate_next step) < invalidate_asks_left step
unfolding invalidate_ask invalidate_next invalidate_asks_left
invalidate_falls places invalidate.AtRest asks = never asks
invalidate_falls places (invalidate.StoresHeader addr header) asks = never asks

-- none are left to a load that waits
pub load_left : (places : Places) (step : Loading) → (is_done (load_ask places step) ≡ false) ↔ (0 < load_asks_left step)
unfolding load_ask load_asks_left
load_left places load.AtRest = (never, none)
load_left places (load.HasKey addr header key) = (never, none)
load_left places step = (λ asks. omega arith, λ some. refl)

pub load_fewer : (step : Loading) (reply : ℕ) → load_asks_left (load_next step reply) ≤ load_asks_left step - 1
unfolding load_next load_asks_left
load_fewer load.AtRest reply = omega arith
load_fewer step reply = omega arith

pub load_falls : (places : Places) (step : Loading) (reply : ℕ) → is_done (load_next_ask places step reply) ≡ false → load_asks_left (load_next step reply) < load_asks_left step
unfolding load_ask load_next load_next_ask load_asks_left
load_falls places load.AtRest reply asks = never asks
load_falls places (load.HasKey addr header key) reply asks = never asks
load_falls places step reply asks = omega arith

-- no more come later, and what its actor lets go on was to come later
pub load_later : (step : Loading) (reply : ℕ) → load_asks_later (load_next step reply) ≤ load_asks_later step
unfolding load_next load_asks_later
load_later load.AtRest reply = omega arith
load_later step reply = omega arith

pub load_on_left : (step : Loading) → load_asks_left (load_on step) + load_asks_later (load_on step) ≤ load_asks_left step + load_asks_later step
unfolding load_on load_asks_left load_asks_later
load_on_left (load.HasKey addr header key) = omega arith
load_on_left step = omega arith
