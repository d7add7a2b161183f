-- Where a chain ends for a request: at 0, or below its floor.
use Rattle.std.proofs.Common.{◌≡◌, ◌<◌, ◌≤◌, refl, arith, ◌⊎◌, inl, inr, Bool, true, false}
use Rattle.std.specs.Prelude.{◌||◌}
use Rattle.std.proofs.lemmas.Bool.Decides.{nat_tests}
use Rattle.fkv_base.specs.declared.numbers.Addr.{Addr}
use Rattle.fkv_begin.specs.Begin.{from_or_none}
use Rattle.fkv_ops.specs.Requests.{is_chain_end}

-- it goes on at an address that there is, from the floor on
pub goes_on_from : (floor addr : Addr) → is_chain_end floor addr ≡ false → floor.0 ≤ addr.0
unfolding from_or_none
goes_on_from floor addr e = grind (arith, nat_tests, e)

pub goes_on_some : (floor addr : Addr) → is_chain_end floor addr ≡ false → 0 < addr.0
unfolding from_or_none
goes_on_some floor addr e = grind (arith, nat_tests, e)

-- where an address ends it that isn't 0, that lies below the floor
pub ends_below : (floor addr : Addr) → 0 < addr.0 → is_chain_end floor addr ≡ true → addr.0 < floor.0
unfolding from_or_none
ends_below floor addr some e = grind (arith, nat_tests, some, e)

-- from the floor on no address ends it but 0
pub ends_not : (floor addr : Addr) → 0 < addr.0 → floor.0 ≤ addr.0 → is_chain_end floor addr ≡ false
unfolding from_or_none
ends_not floor addr some on = grind (arith, nat_tests, some, on)

-- and below it each does
pub ends_there : (floor addr : Addr) → addr.0 < floor.0 → is_chain_end floor addr ≡ true
unfolding from_or_none
ends_there floor addr below = grind (arith, nat_tests, below)

pub either : (a b : Bool) → (a || b) ≡ true → (a ≡ true) ⊎ (b ≡ true)
either true b e = inl refl
either false b e = inr e

pub neither : (a b : Bool) → (a || b) ≡ false → (a ≡ false) × (b ≡ false)
neither true b e = cc
neither false b e = (refl, e)
