-- A chain is followed, record by record.
use Rattle.std.proofs.Common.{◌≡◌, ◌≢◌, ◌⊎◌, inl, inr, ⊎_elim, ℕ, ◌<◌, true, Option, Some, refl, subst, ◌∙◌, sym, arith}
use Rattle.fkv_words.specs.Fields.{Reads}
use Rattle.fkv_disk.specs.Bytes.{bytes_at}
use Rattle.fkv_record.specs.declared.records.Record.{Record}
use Rattle.fkv_record.specs.Layout.{record_bytes}
use Rattle.fkv_record.specs.Places.{record_place}
use Rattle.fkv_scan.specs.Log.{Log, record_home}
use Rattle.fkv_scan.specs.Records.{Stands, next_of}
use Rattle.fkv_chains.specs.Reached.{linked, from_record}
use Rattle.fkv_chains.specs.Along.{IsAlong, here, on, IsOf, IsFollowed, IsToFollow}
use Rattle.fkv_chains.specs.Chains.{IsOld, IsChainRecordFault, IsChainLinkFault}

-- what was read at an address stands there, and nothing else does
pub read_stands : (log : Log) (a : ℕ) (read : Option Record) (x : Record) → Reads record_bytes (bytes_at log.image (record_place log.shape a) 24) read → read ≡ Some x → Stands log a x
read_stands log a read x reads is = (reads x).0 is

some_is : {A : Type 0} (x y : A) → Some x ≡ Some y → x ≡ y
some_is x y is = cc

pub read_alone : (log : Log) (a : ℕ) (read : Option Record) (x : Record) → Reads record_bytes (bytes_at log.image (record_place log.shape a) 24) read → read ≡ Some x → (y : Record) → Stands log a y → y ≡ x
read_alone log a read x reads is y stands = some_is y x (sym ((reads y).1 stands) ∙ is)

-- of a chain, what is left to be followed, and that all above is of the home
abbrev pub IsFollowedTo : Log → ℕ → ℕ → ℕ → Type 0
IsFollowedTo log its_home from a = (b : ℕ) → IsAlong log from b → IsOf log its_home b ⊎ IsAlong log a b

pub follow_first : (log : Log) (its_home from : ℕ) → IsFollowedTo log its_home from from
follow_first log its_home from b along = inr along

nothing_along : (log : Log) (a b : ℕ) → a ≡ 0 → IsAlong log a b → ⊥
nothing_along log a b end (here _ some) = some end
nothing_along log a b end (on _ _ x some stands rest) = some end

-- nothing is on a chain from nowhere
pub none_along : (log : Log) (b : ℕ) → IsAlong log 0 b → ⊥
none_along log b along = nothing_along log 0 b refl along

pub all_followed : (log : Log) (its_home from : ℕ) → IsFollowedTo log its_home from 0 → IsFollowed log its_home from
all_followed log its_home from to b along = ⊎_elim (λ is_of. is_of) (λ left. absurd (none_along log b left)) (to b along)

module _ (log : Log) (its_home from a : ℕ) (some : a ≢ 0) where
  -- what stands at the address is this record alone
  module _ (x : Record) (stands : Stands log a x) (alone : (y : Record) → Stands log a y → y ≡ x) where
    step : (b : ℕ) → IsOf log its_home a → IsAlong log a b → IsOf log its_home b ⊎ IsAlong log (next_of log x) b
    step b is_of (here _ _) = inl is_of
    step b is_of (on _ _ y more its rest) = inr (subst (λ (z : Record). IsAlong log (next_of log z) b) (alone y its) rest)

    pub follow_on : IsOf log its_home a → IsFollowedTo log its_home from a → IsFollowedTo log its_home from (next_of log x)
    follow_on is_of so_far b along = ⊎_elim inl (λ left. step b is_of left) (so_far b along)

    pub led_on : next_of log x < a → record_home log.shape.bucket_bits x ≡ its_home → IsToFollow log its_home a → IsToFollow log its_home (next_of log x)
    led_on falls same led = record {
      below_start = λ more. (let low = led.below_start some in omega (arith, low, falls));
      reached = λ more. linked a (next_of log x) x (led.reached some) stands refl more;
      led = λ more. from_record a x (led.reached some) stands same refl more;
    }

    pub not_old : IsToFollow log its_home a → (IsOld log a x → ⊥) → IsChainRecordFault log a
    not_old led off = record {
      reached = led.reached some;
      below_start = led.below_start some;
      here = λ y old. off (subst (λ (z : Record). IsOld log a z) (alone y old.stands) old);
    }

    pub invalid_fault : IsToFollow log its_home a → x.header.invalid ≡ true → IsChainLinkFault log a
    invalid_fault led off = record { reached = led.reached some; below_start = led.below_start some; held = x; stands = stands; here = inl off }

    pub home_fault : IsToFollow log its_home a → (record_home log.shape.bucket_bits x ≢ its_home) → IsChainLinkFault log a
    home_fault led off = record { reached = led.reached some; below_start = led.below_start some; held = x; stands = stands; here = inr (its_home, led.led some, off) }

  pub none_stands : IsToFollow log its_home a → ((y : Record) → Stands log a y → ⊥) → IsChainRecordFault log a
  none_stands led off = record { reached = led.reached some; below_start = led.below_start some; here = λ y old. off y old.stands }
