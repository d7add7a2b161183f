-- What a copy has copied, over every list of replies.
use Rattle.std.specs.Prelude.{◌≡◌, ℕ, ◌+◌, ◌-◌, ◌*◌, ◌≤◌, true, false, if◌then◌else◌, List, [], ◌∷◌, ◌++◌, length, map}
use Rattle.std.specs.List.{flat_map}
use Rattle.fkv_plane.specs.declared.asks.Ask.{Ask}
use Rattle.fkv_plane.specs.declared.asks.Ask.TheVariants.{Load}
use Rattle.fkv_plane.specs.declared.places.Places.{Places}
use Rattle.fkv_record.specs.declared.triples.Triple.{Triple}
use Rattle.fkv_record.specs.Layout.{triple_bytes}
use Rattle.fkv_index.specs.IndexWorld.{is_link_place}
use Rattle.fkv_checkpoint.specs.declared.copying.CopyStep.TheVariants.{Ended}
use Rattle.fkv_checkpoint.specs.declared.copying.Copying.{Copying}
use Rattle.fkv_checkpoint.specs.Triples.{CopiedEntry, copied_of, all_bytes}
use Rattle.fkv_checkpoint.specs.Copying.{first_copying, copy_ask, copy_next, slot_copied, copied_at, most_at_once, copy_rests, part_asks_left}

-- how far a copy has come after these replies, the newest first
unfoldable pub copying_after : Places → List ℕ → Copying
copying_after p [] = first_copying p
copying_after p (reply ∷ before) = copy_next p (copying_after p before) reply

-- and what it has copied
unfoldable pub copied_after : Places → List ℕ → List CopiedEntry
copied_after p [] = []
copied_after p (reply ∷ before) = copied_after p before ++ copied_at (copying_after p before) (copying_after p before).step reply

-- the entry that a reply tells: a load from any place but a link's is one of a slot
abbrev pub entry_told : Places → ℕ → Ask (Unit {0}) → ℕ → List CopiedEntry
entry_told p bucket (Load place) reply = if is_link_place p place then [] else slot_copied bucket reply
entry_told p bucket ask reply = []

-- all entries that the replies tell, in their order
unfoldable pub entries_told : Places → List ℕ → List CopiedEntry
entries_told p [] = []
entries_told p (reply ∷ before) = entries_told p before ++ entry_told p (copying_after p before).bucket (copy_ask (copying_after p before)) reply

-- a copy has the entries that it was told, each once, and no others
abbrev pub CopiesAllTold : Type 0
CopiesAllTold = (p : Places) (replies : List ℕ) → copied_after p replies ≡ entries_told p replies

-- it ends, whatever the replies: eight for each bucket are enough
abbrev pub CopyEnds : Type 0
CopyEnds = (p : Places) (replies : List ℕ) → 8 * (p.buckets + p.overflow) ≤ length replies → (copying_after p replies).step ≡ Ended

-- triples that say these entries, one by one, and whose bytes are theirs
pub record AreTriplesOf (entries : List CopiedEntry) : Type 0 where
  pub triples : List Triple
  pub said : map copied_of triples ≡ entries
  pub spelled : flat_map triple_bytes triples ≡ all_bytes entries

-- the entries that were copied are said by triples, and their bytes are those triples', one after another
abbrev pub CopiesTriples : Type 0
CopiesTriples = (p : Places) (replies : List ℕ) → AreTriplesOf (copied_after p replies)

-- whatever the replies, no more is copied than an index has slots: seven for each bucket
abbrev pub CopyFits : Type 0
CopyFits = (p : Places) (replies : List ℕ) → length (copied_after p replies) ≤ 7 * (p.buckets + p.overflow)

-- Up to its next rest it has at most eight asks for each of 1,024 buckets and 1,024 overflow buckets as it begins, and for each of 1,024 of both
-- together where it rests. Each reply that leads to no rest leaves fewer.
pub record RestsInTime (p : Places) (c : Copying) : Type 0 where
  pub begins : part_asks_left p (first_copying p) ≤ 8 * (most_at_once + most_at_once)
  pub rests : copy_rests p c ≡ true → part_asks_left p c ≤ 8 * most_at_once
  pub fewer : (reply : ℕ) → copy_rests p (copy_next p c reply) ≡ false → part_asks_left p (copy_next p c reply) ≤ part_asks_left p c - 1

-- a store with no more than that of either is copied without a rest, as each specified one is
abbrev pub RestsInParts : Type 0
RestsInParts = (p : Places) (c : Copying) → p.buckets ≤ most_at_once → p.overflow ≤ most_at_once → copy_rests p c ≡ false
