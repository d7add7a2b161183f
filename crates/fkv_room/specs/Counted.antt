-- How many homes with an entry the scan tells of.
use Rattle.std.specs.Prelude.{◌≡◌, ℕ, ◌^◌, ◌<◌, Bool, false, cond, ◌||◌, nat_lt, Option, Some, None, List, [], ◌∷◌, length, slice_index}
use Rattle.std.specs.Option.{is_some}
use Rattle.fkv_base.specs.declared.numbers.Addr.{Addr}
use Rattle.fkv_scan.specs.declared.home_scans.HomeScan.{HomeScan}
use Rattle.fkv_room.specs.Room.{in_bucket}

-- whether a chain goes on below the scan's start
abbrev pub goes_on : Option Addr → Bool
goes_on None = false
goes_on (Some a) = nat_lt 0 a.0

-- whether a home has an entry, by what the scan told of it
unfoldable pub has_entry : HomeScan → Bool
has_entry s = is_some s.newest || goes_on s.below

-- the homes that have one
abbrev pub homes_of : List (ℕ × HomeScan) → List ℕ
homes_of [] = []
homes_of (e ∷ es) = cond (has_entry e.1) (e.0 ∷ homes_of es) (homes_of es)

-- how many of the homes are in each bucket
pub record AreCounts (bits : ℕ) (homes counts : List ℕ) : Type 0 where
  pub each_bucket : length counts ≡ 2 ^ bits
  pub counted : (bucket : ℕ) → bucket < 2 ^ bits → slice_index counts bucket ≡ in_bucket homes bucket
  pub few : length homes < 2 ^ 63
