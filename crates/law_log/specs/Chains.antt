-- Records by their addresses, and the chains in which the records of a home stand.
use Rattle.std.specs.Prelude.{◌≤◌, ◌&&◌, nat_le, ⊤, ◌≡◌, ℕ, ◌⊎◌, Bool, false, nat_eq, cond, Option, None, List, [], ◌∷◌}
use Rattle.fkv_map.specs.declared.history.HistoryEntry.{HistoryEntry}
use Rattle.law_log.specs.Trace.{IsIn}

-- a record: its key, the key's value, the version that it was made in, and the address of the record behind it, 0 for none
pub record Cell : Type 0 where
  pub key : ℕ
  pub value : Option ℕ
  pub version : ℕ
  pub previous : ℕ

-- What an address of the log has.
pub data Logged : Type 0 where
  Unborn : Logged
  -- one has taken it for this record, by which this update would take effect
  Reserved : HistoryEntry → Cell → Logged
  -- the record stands in its chain
  Published : Cell → Logged
  -- another was published first, and the record counts for nothing
  Dropped : Cell → Logged

-- the value that a record shows
abbrev pub value_at : Logged → Option ℕ
value_at (Published cell) = cell.value
value_at logged = None

-- a published record has this key
abbrev pub has_key : ℕ → Logged → Bool
has_key key (Published cell) = nat_eq cell.key key
has_key key logged = false

-- the version of a published record
abbrev pub version_at : Logged → ℕ
version_at (Published cell) = cell.version
version_at logged = 0

-- a published record has this key, and was made in this version
abbrev pub has_key_in : ℕ → ℕ → Logged → Bool
has_key_in version key logged = has_key key logged && nat_eq (version_at logged) version

-- and was made in this version or an older one
abbrev pub has_key_upto : ℕ → ℕ → Logged → Bool
has_key_upto version key logged = has_key key logged && nat_le (version_at logged) version

-- A chain is a list of addresses, the newest first; this is where it begins, 0 where it is empty.
abbrev pub head_of : List ℕ → ℕ
head_of [] = 0
head_of (a ∷ older) = a

-- the chain from an address on
abbrev pub chain_from : ℕ → List ℕ → List ℕ
chain_from a [] = []
chain_from a (b ∷ older) = cond (nat_eq b a) (b ∷ older) (chain_from a older)

-- the first address of a chain whose record passes a test, 0 where there is none
abbrev pub first_such : (Logged → Bool) → (ℕ → Logged) → List ℕ → ℕ
first_such test cells [] = 0
first_such test cells (a ∷ older) = cond (test (cells a)) a (first_such test cells older)

-- one may go down a chain from here: the address stands in it, or is 0
abbrev pub IsWithin : ℕ → List ℕ → Type 0
IsWithin a chain = (a ≡ 0) ⊎ IsIn a chain

-- no record of the chain is of a later version
abbrev pub NoneLater : (ℕ → Logged) → List ℕ → ℕ → Type 0
NoneLater cells chain version = (a : ℕ) → IsIn a chain → version_at (cells a) ≤ version

-- versions never rise down the chain
abbrev pub VersionsFall : (ℕ → Logged) → List ℕ → Type 0
VersionsFall cells [] = ⊤
VersionsFall cells (a ∷ older) = NoneLater cells older (version_at (cells a)) × VersionsFall cells older
