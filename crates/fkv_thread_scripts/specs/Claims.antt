-- Who updates a key, as it is noted of each.
use Rattle.std.specs.Prelude.{◌≡◌, ℕ, ◌+◌, min, Bool, true, false, not, ◌&&◌, ◌||◌, List, [], ◌∷◌, ◌++◌, length, filter, nat_eq, nat_lt, Option, Some, None, Contains}
use Rattle.std.specs.FinMap.{get}
use Rattle.std.specs.List.{flat_map, list_all}
use Rattle.std.specs.Option.{option_eq}
use Rattle.fkv_map.specs.Map.{Map, absent_word}
use Rattle.fkv_thread_scripts.specs.Keys.{Update, are_alone, at_key, is_add, number_added, sum_added}
use Rattle.fkv_thread_scripts.specs.declared.claims.Claim.{Claim}
use Rattle.fkv_thread_scripts.specs.declared.reports.Keys.{Keys}
use Rattle.fkv_thread_scripts.specs.declared.reports.Keys.TheVariants.{Agree, Differs}

-- what is noted of a key's updates; a sum that is too great stops at the greatest number
abbrev pub claim_of : List Update → Option Claim
claim_of [] = None
claim_of (first ∷ later) = Some (record { session = first.session; is_alone = are_alone (first ∷ later); only_adds = list_all (λ its. is_add its.op) (first ∷ later); sum = min (sum_added (first ∷ later)) absent_word })

-- behind one update more
abbrev pub claim_with : Option Claim → Update → Option Claim
claim_with None its = Some (record { session = its.session; is_alone = true; only_adds = is_add its.op; sum = min (number_added its.op) absent_word })
claim_with (Some claim) its = Some (record { session = claim.session; is_alone = claim.is_alone && nat_eq its.session claim.session; only_adds = claim.only_adds && is_add its.op; sum = min (claim.sum + number_added its.op) absent_word })

-- what is noted of each key of these updates
abbrev pub AreClaims : (ℕ → Option Claim) → List Update → Type 0
AreClaims claims updates = (key : ℕ) → claims key ≡ claim_of (flat_map (at_key key) updates)

-- so it is behind these updates too
abbrev pub AreClaimed : (ℕ → Option Claim) → (ℕ → Option Claim) → List Update → Type 0
AreClaimed before behind more = (updates : List Update) → AreClaims before updates → AreClaims behind (updates ++ more)

-- ---- the comparison
-- whether a key with this claim is compared
abbrev pub compares : Claim → Bool
compares claim = claim.is_alone || (claim.only_adds && nat_lt claim.sum absent_word)

-- whether two maps have the same value of a key, if it is compared
abbrev pub holds : Map → Map → ℕ × Claim → Bool
holds told stored entry = not (compares entry.1) || option_eq nat_eq (get stored entry.0) (get told entry.0)

-- Each of these keys that is compared has the same value in both maps, and so many are compared. Or this one hasn't.
abbrev pub IsLineOfClaims : List (ℕ × Claim) → Map → Map → Keys → Type 0
IsLineOfClaims entries told stored (Agree count) = (list_all (holds told stored) entries ≡ true) × (count ≡ length (filter (λ entry. compares entry.1) entries))
IsLineOfClaims entries told stored (Differs key) = (claim : Claim) × Contains entries (key.0, claim) × (holds told stored (key.0, claim) ≡ false)
