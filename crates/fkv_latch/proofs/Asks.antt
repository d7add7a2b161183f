-- The machine is at rest, or it asks, and each reply leaves fewer asks.
use Rattle.std.proofs.Common.{◌≡◌, ℕ, ◌-◌, ◌<◌, ◌≤◌, ◌⊎◌, refl, arith, inl, inr, Bool, true, false}
use Rattle.std.specs.Prelude.{if◌then◌else◌}
use Rattle.fkv_plane.specs.declared.asks.Ask.TheVariants.{Done}
use Rattle.fkv_plane.specs.Passing.{is_done}
use Rattle.fkv_latch.specs.declared.latching.LatchAnswer.TheVariants.{Taken, Busy}
use Rattle.fkv_latch.specs.declared.latching.LatchTask.{LatchTask}
use Rattle.fkv_latch.specs.declared.latching.LatchTask.TheVariants.{TakeShared, DropShared, TakeExclusive, DropExclusive}
use Rattle.fkv_latch.specs.declared.latching.Latching.{Latching}
use Rattle.fkv_latch.specs.declared.latching.Latching.TheVariants.{AtRest, AddsShare, GivesBack, LoadsWord, SetsExclusive}
use Rattle.fkv_latch.specs.Latching.{is_exclusive, is_free, latch_first, latch_ask, latch_next, latch_next_ask, asks_left, AsksWhereLeft}

pub latch_asks : (step : Latching) → (step ≡ AtRest) ⊎ (is_done (latch_ask step) ≡ false)
unfolding latch_ask
latch_asks AtRest = inl refl
latch_asks step = inr refl

-- as it begins it asks, twice at most
pub latch_begun_asks : (task : LatchTask) (place : ℕ) → is_done (latch_ask (latch_first task place)) ≡ false
unfolding latch_ask
latch_begun_asks TakeShared place = refl
latch_begun_asks DropShared place = refl
latch_begun_asks TakeExclusive place = refl
latch_begun_asks DropExclusive place = refl

pub latch_begun_left : (task : LatchTask) (place : ℕ) → asks_left (latch_first task place) ≤ 2
unfolding asks_left
latch_begun_left TakeShared place = omega arith
latch_begun_left DropShared place = omega arith
latch_begun_left TakeExclusive place = omega arith
latch_begun_left DropExclusive place = omega arith

-- at its end it is at rest, and else it asks what its state asks
pub latch_goes_on : (step : Latching) (reply : ℕ) → ((is_done (latch_next_ask step reply) ≡ true) × (latch_next step reply ≡ AtRest)) ⊎ (latch_next_ask step reply ≡ latch_ask (latch_next step reply))
unfolding latch_ask latch_next latch_next_ask
latch_goes_on (AddsShare place) reply = tested (is_exclusive reply)
  where
    tested : (b : Bool) → ((is_done (if b then latch_ask (GivesBack place) else Done Taken) ≡ true) × ((if b then GivesBack place else AtRest) ≡ AtRest))
        ⊎ ((if b then latch_ask (GivesBack place) else Done Taken) ≡ latch_ask (if b then GivesBack place else AtRest))
    tested true = inr refl
    tested false = inl (refl, refl)
latch_goes_on (LoadsWord place) reply = tested (is_free reply)
  where
    tested : (b : Bool) → ((is_done (if b then latch_ask (SetsExclusive place reply) else Done Busy) ≡ true) × ((if b then SetsExclusive place reply else AtRest) ≡ AtRest))
        ⊎ ((if b then latch_ask (SetsExclusive place reply) else Done Busy) ≡ latch_ask (if b then SetsExclusive place reply else AtRest))
    tested true = inr refl
    tested false = inl (refl, refl)
latch_goes_on step reply = inl (refl, refl)

-- short of its end
pub latch_left : (step : Latching) → (step ≡ AtRest) ⊎ (0 < asks_left step)
unfolding asks_left
latch_left AtRest = inl refl
latch_left (AddsShare place) = inr (omega arith)
latch_left (LoadsWord place) = inr (omega arith)
latch_left step = inr (omega arith)

pub latch_fewer : (step : Latching) (reply : ℕ) → asks_left (latch_next step reply) ≤ asks_left step - 1
unfolding latch_next asks_left
latch_fewer (AddsShare place) reply = tested (is_exclusive reply)
  where
    tested : (b : Bool) → asks_left (if b then GivesBack place else AtRest) ≤ 1
    tested true = omega arith
    tested false = omega arith
latch_fewer (LoadsWord place) reply = tested (is_free reply)
  where
    tested : (b : Bool) → asks_left (if b then SetsExclusive place reply else AtRest) ≤ 1
    tested true = omega arith
    tested false = omega arith
latch_fewer step reply = omega arith

-- it asks just where it has asks left: as it stands, and behind each reply
pub latch_ask_left : (step : Latching) → AsksWhereLeft step (latch_ask step)
unfolding latch_ask asks_left
latch_ask_left AtRest = ((λ e. cc), (λ some. absurd (omega (arith, some))))
latch_ask_left (AddsShare place) = ((λ e. omega arith), (λ some. refl))
latch_ask_left (LoadsWord place) = ((λ e. omega arith), (λ some. refl))
latch_ask_left step = ((λ e. omega arith), (λ some. refl))

pub latch_next_left : (step : Latching) (reply : ℕ) → AsksWhereLeft (latch_next step reply) (latch_next_ask step reply)
unfolding latch_ask latch_next latch_next_ask asks_left
latch_next_left (AddsShare place) reply = tested (is_exclusive reply)
  where
    tested : (b : Bool) → AsksWhereLeft (if b then GivesBack place else AtRest) (if b then latch_ask (GivesBack place) else Done Taken)
    tested true = latch_ask_left (GivesBack place)
    tested false = ((λ e. cc), (λ some. absurd (omega (arith, some))))
latch_next_left (LoadsWord place) reply = tested (is_free reply)
  where
    tested : (b : Bool) → AsksWhereLeft (if b then SetsExclusive place reply else AtRest) (if b then latch_ask (SetsExclusive place reply) else Done Busy)
    tested true = latch_ask_left (SetsExclusive place reply)
    tested false = ((λ e. cc), (λ some. absurd (omega (arith, some))))
latch_next_left step reply = ((λ e. cc), (λ some. absurd (omega (arith, some))))
