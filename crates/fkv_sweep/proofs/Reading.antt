-- What a step needs of the device, and of the records that were read.
use Rattle.std.proofs.Common.{◌≡◌, ℕ, ◌+◌, ◌^◌, ◌<◌, refl, subst, arith, Bool, true, false}
use Rattle.std.specs.Prelude.{nat_lt, nat_le, if◌then◌else◌, List, Some, None}
use Rattle.std.proofs.lemmas.Bool.Decides.{nat_tests}
use Rattle.fkv_base.specs.declared.numbers.Addr.{Addr}
use Rattle.fkv_sweep.specs.declared.sweeping.Sweeping.{Sweeping}
use Rattle.fkv_sweep.specs.declared.sweeping.Sweeping.TheVariants.{AtRest, LoadsHead, Takes, Meets, Finds, LoadsKey, LoadsHeader, Reads}
use Rattle.fkv_sweep.specs.Sweeping.{Sweeper, IsUnderWay, IsStepInRange, IsSweepInRange, coming, piece_read, piece_records, holds, sweeping_read, sweep_read, sweeping_addr, read_addr}

-- what is known where it reads at an address
pub record IsRead (s : Sweeper) (addr : Addr) : Type 0 where
  pub way : IsUnderWay s
  pub fits : addr.0 < 2 ^ 48

step_reads : (s : Sweeper) (step : Sweeping) (addr : Addr) → IsStepInRange s step → Some addr ≡ sweeping_addr s step → IsRead s addr
unfolding sweeping_addr
step_reads s AtRest addr range e = let never : ⊥ = cc in absurd never
step_reads s LoadsHead addr range e = let never : ⊥ = cc in absurd never
step_reads s Takes addr range e = let never : ⊥ = cc in absurd never
step_reads s Meets addr range e =
    let same : s.next ≡ addr = cc in
    let low = range.below in
    let end = range.low in
    subst (IsRead s) same (record { way = range; fits = omega (arith, low, end) })
step_reads s (Finds key) addr range e = let never : ⊥ = cc in absurd never
step_reads s (LoadsKey key at) addr range e = let never : ⊥ = cc in absurd never
step_reads s (LoadsHeader key at) addr range e = let never : ⊥ = cc in absurd never
step_reads s (Reads key at) addr range e = let same : at ≡ addr = cc in subst (IsRead s) same (record { way = range.0; fits = range.1 })

pub reads : (s : Sweeper) (addr : Addr) → IsSweepInRange s → Some addr ≡ read_addr s → IsRead s addr
reads s addr range e = step_reads s s.step addr range.its_step e

-- where it reads nothing it stays where it is
step_stays : (s : Sweeper) (step : Sweeping) (bytes : List ℕ) → sweeping_addr s step ≡ None → sweeping_read s step bytes ≡ s
unfolding sweeping_addr sweeping_read
step_stays s AtRest bytes none = refl
step_stays s LoadsHead bytes none = refl
step_stays s Takes bytes none = refl
step_stays s Meets bytes none = let never : ⊥ = cc in absurd never
step_stays s (Finds key) bytes none = refl
step_stays s (LoadsKey key at) bytes none = refl
step_stays s (LoadsHeader key at) bytes none = refl
step_stays s (Reads key at) bytes none = let never : ⊥ = cc in absurd never

pub stays : (s : Sweeper) (bytes : List ℕ) → read_addr s ≡ None → sweep_read s bytes ≡ s
stays s bytes none = step_stays s s.step bytes none

-- a piece has the record that it was read at
pub first_held : (addr : Addr) (bytes : List ℕ) → holds (piece_read addr bytes) addr ≡ true
first_held addr bytes =
    let a : nat_le addr.0 addr.0 ≡ true = grind (arith, nat_tests) in
    let b : nat_lt addr.0 (addr.0 + piece_records) ≡ true = grind (arith, nat_tests) in
    rw (a, b) refl

-- a record that there is may come next
pub coming_range : (s : Sweeper) → IsUnderWay s → IsStepInRange s (coming s.piece s.next)
coming_range s way = cases (holds s.piece s.next) refl
  where
    cases : (b : Bool) → holds s.piece s.next ≡ b → IsStepInRange s (if b then Takes else Meets)
    cases true e = (way, e)
    cases false e = way
