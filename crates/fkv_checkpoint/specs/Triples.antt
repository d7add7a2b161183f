-- Entries of the index as a checkpoint keeps them, and the bytes that spell them one after another.
use Rattle.std.specs.Prelude.{ℕ, zero, suc, ◌*◌, ◌≤◌, ◌≡◌, List, [], ◌∷◌, ◌++◌, length, take, drop, Option, Some, None}
use Rattle.std.specs.List.{flat_map}
use Rattle.std.specs.Int.{w16, w32, w64, to_le_bytes, from_le_bytes}
use Rattle.fkv_record.specs.declared.triples.Triple.{Triple}
use Rattle.fkv_index.specs.declared.homes.Home.{Home}

-- an entry that was copied: its home, and the address that it had
pub record CopiedEntry : Type 0 where
  pub home : Home
  pub addr : ℕ

-- what a triple says
abbrev pub copied_of : Triple → CopiedEntry
copied_of x = record { home = record { bucket = x.bucket; tag = x.tag }; addr = x.addr.0 }

abbrev pub copied_list : Option Triple → List CopiedEntry
copied_list None = []
copied_list (Some x) = copied_of x ∷ []

-- the bytes of its triple
unfoldable pub copied_bytes : CopiedEntry → List ℕ
copied_bytes e = to_le_bytes w32 e.home.bucket ++ to_le_bytes w16 e.home.tag ++ 0 ∷ 0 ∷ [] ++ to_le_bytes w64 e.addr

-- the bytes of all, one after another
unfoldable pub all_bytes : List CopiedEntry → List ℕ
all_bytes entries = flat_map copied_bytes entries

-- the entry that sixteen bytes spell
unfoldable pub entry_read : List ℕ → CopiedEntry
entry_read bytes = record { home = record { bucket = from_le_bytes w32 (take 4 bytes); tag = from_le_bytes w16 (take 2 (drop 4 bytes)) }; addr = from_le_bytes w64 (take 8 (drop 8 bytes)) }

-- so many entries, from the first byte on
unfoldable pub entries_in : ℕ → List ℕ → List CopiedEntry
entries_in zero bytes = []
entries_in (suc count) bytes = entry_read (take 16 bytes) ∷ entries_in count (drop 16 bytes)

-- a buffer: how many bytes it has room for, and the entries whose triples it holds
pub record HeldTriples : Type 0 where
  pub space : ℕ
  pub entries : List CopiedEntry

-- the bytes spell so many entries
pub record IsSpelled (count : ℕ) (bytes : List ℕ) : Type 0 where
  pub long : length bytes ≡ 16 * count
  pub spelled : bytes ≡ all_bytes (entries_in count bytes)
