-- Where the chain of a home is followed from.
use Rattle.std.specs.Prelude.{ℕ, nat_lt, if◌then◌else◌, Option, Some, None}
use Rattle.fkv_base.specs.declared.numbers.Addr.{Addr}
use Rattle.fkv_scan.specs.declared.home_scans.HomeScan.{HomeScan}

-- an address below the start, or else 0
abbrev pub address_below : Option Addr → ℕ → ℕ
address_below None start = 0
address_below (Some a) start = if nat_lt a.0 start then a.0 else 0

-- the address below the start that the scan knows of a home, or else 0
unfoldable pub way_below : Option HomeScan → ℕ → ℕ
way_below None start = 0
way_below (Some s) start = address_below s.below start
