-- Pages of what a device reads as, kept in memory.
use Rattle.std.specs.Prelude.{◌≡◌, ℕ, ◌+◌, ◌-◌, ◌/◌, ◌%◌, ◌≤◌, List, length, Bool, true, false, ◌&&◌, nat_le, slice_index_or}
use Rattle.std.specs.List.{All}
use Rattle.fkv_disk.specs.Bytes.{byte_at, bytes_at, covers}
use Rattle.fkv_disk.specs.declared.pages.Page.{Page}

-- what it keeps, if anything, is what the device reads as from its place on
abbrev pub IsPageOf : List ℕ → Page → Type 0
IsPageOf seen page = page.kept ≡ true → page.bytes.items ≡ bytes_at seen page.at (length page.bytes.items)

-- each of them is such a page
abbrev pub ArePagesOf : List ℕ → List Page → Type 0
ArePagesOf seen pages = All (IsPageOf seen) pages

-- it keeps nothing
abbrev pub IsBlank : Page → Type 0
IsBlank page = page.kept ≡ false

-- whether it keeps the n bytes from an offset on
abbrev pub keeps : Page → ℕ → ℕ → Bool
keeps page at n = page.kept && (nat_le page.at at && nat_le (at + n) (page.at + length page.bytes.items))

-- the n bytes from an offset on lie in one page, and the place in memory that the page has keeps them
abbrev pub AreKept : ℕ → List Page → ℕ → ℕ → Type 0
AreKept size pages at n = (n ≤ size - at % size) × ((other : Page) → keeps (slice_index_or pages ((at / size) % length pages) other) at n ≡ true)

-- bytes that are alike outside the n from an offset on
abbrev pub AlikeOutside : ℕ → ℕ → List ℕ → List ℕ → Type 0
AlikeOutside at n old new = (i : ℕ) → covers at n i ≡ false → byte_at new i ≡ byte_at old i
