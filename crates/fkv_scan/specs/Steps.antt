-- What one record makes of what is known of its home.
use Rattle.std.specs.Prelude.{ℕ, Bool, true, false, ◌&&◌, ◌||◌, nat_lt, nat_le, ◌==◌, if◌then◌else◌, Option, Some, None}
use Rattle.fkv_base.specs.declared.numbers.Addr.{Addr}
use Rattle.fkv_base.specs.declared.numbers.Version.{Version}
use Rattle.fkv_scan.specs.declared.home_scans.HomeScan.{HomeScan}

-- an address below the start is the one that is known, if one is
abbrev pub is_way : Option Addr → ℕ → Bool
is_way None q = true
is_way (Some a) q = a.0 == q

-- a record of this version leads to the last one of its home, whose version isn't above its own
abbrev pub is_next : Option Addr → ℕ → Addr → ℕ → Bool
is_next None last previous version = false
is_next (Some b) last previous version = b.0 == previous.0 && nat_le last version

-- there is no last record
abbrev pub is_first : Option Addr → Bool
is_first None = true
is_first (Some b) = false

-- Whether a valid record of this version that leads to this address is on the chain of its home, by what is known of that. A lost one may lead to any valid
-- record of the home, and `leads` says whether it does.
unfoldable pub links : HomeScan → Addr → ℕ → Bool → Bool → ℕ → Bool
links s previous version is_lost leads start =
    if nat_lt previous.0 start then is_way s.below previous.0 && (is_lost || is_first s.last)
    else if is_lost then leads else is_next s.last s.last_version.0 previous version

-- what is known once a valid record of this version was met on the chain at this address, behind the commit of this number
unfoldable pub met : HomeScan → Addr → Addr → Version → Bool → ℕ → ℕ → HomeScan
met s a previous version is_lost start number = record {
  newest = if is_lost || nat_lt number version.0 then s.newest else Some a;
  below = if nat_lt previous.0 start then Some previous else s.below;
  last = if is_lost then s.last else Some a;
  last_version = if is_lost then s.last_version else version;
}

-- what is known of a home before the scan, by its triple
abbrev pub led : Addr → ℕ → HomeScan
led addr start = record { newest = None; below = if nat_lt addr.0 start then Some addr else None; last = None; last_version = record { 0 = 0 } }

-- and where it has none
abbrev pub unled : HomeScan
unled = record { newest = None; below = Some (record { 0 = 0 }); last = None; last_version = record { 0 = 0 } }

-- what is known of a home that may not be met yet
abbrev pub known_or : Option HomeScan → HomeScan
known_or None = unled
known_or (Some s) = s
