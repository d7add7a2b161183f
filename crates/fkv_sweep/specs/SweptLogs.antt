-- The log beside a sweep: what stands where, how it may grow meanwhile, and what a reply shows of it.
use Rattle.std.specs.Prelude.{◌≡◌, ℕ, ◌<◌, ◌≤◌, ◌⊎◌, Bool, true, false, List, [], ◌∷◌, ⊤, Option, Some}
use Rattle.fkv_base.specs.declared.numbers.Addr.{Addr}
use Rattle.fkv_base.specs.declared.numbers.Key.{Key}
use Rattle.fkv_plane.specs.declared.asks.Ask.TheVariants.{Done}
use Rattle.fkv_index.specs.declared.homes.Home.{Home}
use Rattle.fkv_index.specs.declared.finding.Found.TheVariants.{Slot}
use Rattle.fkv_index.specs.declared.finding.FindAnswer.{FindAnswer}
use Rattle.fkv_index.specs.Slots.{home_of, entry_addr}
use Rattle.fkv_index.specs.Finding.{find_next_ask}
use Rattle.fkv_sweep.specs.declared.record_words.Piece.{Piece}
use Rattle.fkv_sweep.specs.declared.record_words.RecordWords.{RecordWords}
use Rattle.fkv_sweep.specs.declared.sweeping.Sweeping.{Sweeping}
use Rattle.fkv_sweep.specs.declared.sweeping.Sweeping.TheVariants.{Meets, Finds, LoadsKey, LoadsHeader, Reads}
use Rattle.fkv_sweep.specs.Sweeping.{Sweeper, words_at, is_counted, previous_in, piece_read, holds, words_held}

-- a record that stands in its chain: its key, and whether that was deleted by it
pub record Standing : Type 0 where
  pub key : Key
  pub absent : Bool

pub record SweptLog : Type 0 where
  -- the record that stands at an address, if one does
  pub cells : ℕ → Option Standing
  -- the addresses of the records of each home
  pub chains : Home → List ℕ

abbrev pub IsIn : ℕ → List ℕ → Type 0
IsIn a [] = ⊥
IsIn a (b ∷ rest) = (b ≡ a) ⊎ IsIn a rest

-- the address stands in the chain of the key's home, in an index of 2^bits buckets
abbrev pub IsInChain : ℕ → SweptLog → Key → ℕ → Type 0
IsInChain bits log key a = IsIn a (log.chains (home_of bits key))

-- a record of this key stands at an address
pub record HasKeyAt (log : SweptLog) (key : Key) (a : ℕ) : Type 0 where
  pub cell : Standing
  pub stands : log.cells a ≡ Some cell
  pub same : cell.key ≡ key

-- one stands where a sweep ends or above, in the chain of its home
pub record StandsAbove (bits to : ℕ) (log : SweptLog) (key : Key) : Type 0 where
  pub addr : ℕ
  pub above : to ≤ addr
  pub in_chain : IsInChain bits log key addr
  pub its_key : HasKeyAt log key addr

-- Each record that the sweep has passed deleted its key, or a record of the same key stands where the sweep ends or above.
abbrev pub Swept : Sweeper → SweptLog → Type 0
Swept s log = (a : ℕ) (cell : Standing) → s.from.0 ≤ a → a < s.at.0 → log.cells a ≡ Some cell → (cell.absent ≡ true) ⊎ StandsAbove s.shape.bucket_bits s.to.0 log cell.key

-- The log grows: below an address no record comes to stand, and none there changes. From there on records keep their keys, and all stay in their chains.
pub record Grows (to : ℕ) (before after : SweptLog) : Type 0 where
  pub old : (a : ℕ) (cell : Standing) → a < to → after.cells a ≡ Some cell → before.cells a ≡ Some cell
  pub keys : (a : ℕ) (key : Key) → to ≤ a → HasKeyAt before key a → HasKeyAt after key a
  pub chains : (home : Home) (a : ℕ) → IsIn a (before.chains home) → IsIn a (after.chains home)

-- ---- what a reply shows
-- The search that was begun for the key's home, and ends with an entry, has come to an address in that home's chain. Below the sweep's end nothing is said of it.
abbrev pub ShowsEntry : SweptLog → Sweeper → Key → ℕ → Type 0
ShowsEntry log s key word = (answer : FindAnswer) (place entry : ℕ) → find_next_ask s.places s.finding word ≡ Done answer → answer.found ≡ Slot place entry → s.to.0 ≤ entry_addr entry
    → IsInChain s.shape.bucket_bits log key (entry_addr entry)

-- the words of a record that is in memory, of one in the chain where the sweep ends or above: the key is the record's, and it leads on in the chain
abbrev pub ShowsReply : SweptLog → Sweeper → Sweeping → ℕ → Type 0
ShowsReply log s (Finds key) word = ShowsEntry log s key word
ShowsReply log s (LoadsKey key addr) word = s.head.0 ≤ addr.0 → s.to.0 ≤ addr.0 → IsInChain s.shape.bucket_bits log key addr.0 → word ≡ key.0 → HasKeyAt log key addr.0
ShowsReply log s (LoadsHeader key addr) word = s.head.0 ≤ addr.0 → s.to.0 ≤ addr.0 → IsInChain s.shape.bucket_bits log key addr.0 → s.to.0 ≤ previous_in word → IsInChain s.shape.bucket_bits log key (previous_in word)
ShowsReply log s step word = ⊤

-- the words of a record say its key, and count unless the record deleted that
pub record ShowsCell (words : RecordWords) (cell : Standing) : Type 0 where
  pub its_key : words.key ≡ cell.key
  pub counts : cell.absent ≡ false → is_counted words ≡ true

-- the words of a record of the chain that is on the device
pub record ShowsChained (log : SweptLog) (s : Sweeper) (key : Key) (addr : ℕ) (words : RecordWords) : Type 0 where
  pub its_key : words.key.0 ≡ key.0 → HasKeyAt log key addr
  pub leads : s.to.0 ≤ previous_in words.header → IsInChain s.shape.bucket_bits log key (previous_in words.header)

-- the words that a piece has of each record below the sweep's end
abbrev pub ShowsPiece : ℕ → SweptLog → Piece → Type 0
ShowsPiece to log piece = (a : Addr) (cell : Standing) → holds piece a ≡ true → a.0 < to → log.cells a.0 ≡ Some cell → ShowsCell (words_held piece a) cell

abbrev pub ShowsRead : SweptLog → Sweeper → Sweeping → List ℕ → Type 0
ShowsRead log s Meets bytes = ShowsPiece s.to.0 log (piece_read s.next bytes)
ShowsRead log s (Reads key addr) bytes = addr.0 < s.head.0 → s.to.0 ≤ addr.0 → IsInChain s.shape.bucket_bits log key addr.0 → ShowsChained log s key addr.0 (words_at bytes 0)
ShowsRead log s step bytes = ⊤
