-- Where a link leads, the numbers of the search are in range.
use Rattle.std.proofs.Common.{◌≡◌, ℕ, ◌+◌, ◌-◌, ◌^◌, ◌<◌, ◌≤◌, refl, arith, Bool, true, false}
use Rattle.std.specs.Prelude.{◌==◌, ◌&&◌, nat_lt, nat_le, if◌then◌else◌}
use Rattle.std.proofs.lemmas.Bool.Decides.{nat_tests}
use Rattle.fkv_plane.specs.declared.places.Places.{Places}
use Rattle.fkv_base.specs.Limits.{max_overflow}
use Rattle.fkv_plane.specs.Places.{overflow_place}
use Rattle.fkv_index.specs.declared.finding.Linking.{Linking}
use Rattle.fkv_index.specs.declared.finding.Linking.TheVariants.{Never, Once, Within, Made}
use Rattle.fkv_index.specs.declared.finding.Found.TheVariants.{Full, Kept, Contended}
use Rattle.fkv_index.specs.declared.finding.FindStep.TheVariants.{LoadsSlot, LoadsTaken, TakesBucket, LinksBucket}
use Rattle.fkv_index.specs.declared.finding.Finding.{Finding}
use Rattle.fkv_index.specs.declared.finding.Led.TheVariants.{On, Ends}
use Rattle.fkv_index.specs.Slots.{link_of}
use Rattle.fkv_index.specs.Finding.{entered, ended_list, link_led, is_kept, takes_led, taken_led, IsInRange, IsLedInRange}

entered_in_range : (p : Places) (f : Finding) (number : ℕ) → f.base < 2 ^ 32 → f.spare ≤ p.overflow → IsLedInRange p (entered p f number)
entered_in_range p f number fits its = tested (nat_lt 0 f.links) (nat_le number p.overflow) refl
  where
    tested : (some few : Bool) → nat_le number p.overflow ≡ few → IsLedInRange p (if some && few then On (record f { base = overflow_place p number 0; links = f.links - 1; step = LoadsSlot 0 }) else Ends f Contended)
    tested true true e =
        let h : number ≤ p.overflow = grind (arith, nat_tests, e) in
        record { base_fits = omega (arith, h, p.few_sessions, p.few_buckets, p.few_overflow); its_spare = its; its_step = omega arith }
    tested true false e = record { base_fits = fits; its_spare = its; its_step = tt }
    tested false few e = record { base_fits = fits; its_spare = its; its_step = tt }

pub link_in_range : (p : Places) (f : Finding) (word : ℕ) → f.base < 2 ^ 32 → f.spare ≤ p.overflow → word < 2 ^ 64 → IsLedInRange p (link_led p f word)
link_in_range p f word fits its low = tested (link_of word == 0) refl
  where
    links : (b : Bool) → link_of word ≡ 0 → (f.spare == 0) ≡ b → IsInRange p (record f { step = if b then LoadsTaken word else LinksBucket word })
    links true none e = record { base_fits = fits; its_spare = its; its_step = omega (arith, none, low) }
    links false none e =
        let some : 1 ≤ f.spare = grind (arith, nat_tests, e) in
        record { base_fits = fits; its_spare = its; its_step = (omega (arith, none, low), some) }

    ended : (linking : Linking) → link_of word ≡ 0 → IsLedInRange p (ended_list f word linking)
    ended Never none = record { base_fits = fits; its_spare = its; its_step = tt }
    ended Once none = links (f.spare == 0) none refl
    ended (Within bound) none = record { base_fits = fits; its_spare = its; its_step = omega (arith, none, low) }
    ended Made none = record { base_fits = fits; its_spare = its; its_step = tt }

    tested : (b : Bool) → (link_of word == 0) ≡ b → IsLedInRange p (if b then ended_list f word f.linking else entered p f (link_of word))
    tested true e = ended f.linking (grind (arith, nat_tests, e))
    tested false e = entered_in_range p f (link_of word) fits its

-- so they are where the count leads
pub taken_in_range : (p : Places) (f : Finding) (word taken : ℕ) → f.base < 2 ^ 32 → f.spare ≤ p.overflow → word + max_overflow < 2 ^ 64 → IsLedInRange p (taken_led p f word taken)
taken_in_range p f word taken fits its low = kept (is_kept f.linking taken)
  where
    takes : (b : Bool) → nat_lt taken p.overflow ≡ b → IsLedInRange p (if b then On (record f { step = TakesBucket word taken }) else Ends f Full)
    takes true e = record { base_fits = fits; its_spare = its; its_step = (low, grind (arith, nat_tests, e)) }
    takes false e = record { base_fits = fits; its_spare = its; its_step = tt }

    spares : (b : Bool) → (f.spare == 0) ≡ b → IsLedInRange p (if b then takes_led p f word taken else On (record f { step = LinksBucket word }))
    spares true e = takes (nat_lt taken p.overflow) refl
    spares false e = record { base_fits = fits; its_spare = its; its_step = (low, grind (arith, nat_tests, e)) }

    kept : (b : Bool) → IsLedInRange p (if b then Ends f Kept else if f.spare == 0 then takes_led p f word taken else On (record f { step = LinksBucket word }))
    kept true = record { base_fits = fits; its_spare = its; its_step = tt }
    kept false = spares (f.spare == 0) refl
