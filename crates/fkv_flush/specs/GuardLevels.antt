-- The offsets of the log, and what is said of them at every moment.
use Rattle.std.specs.Prelude.{ℕ, ◌≤◌, List}
use Rattle.fkv_plane.specs.declared.places.SharedWord.TheVariants as one
use Rattle.fkv_plane.specs.Places.{shared_place}
use Rattle.fkv_plane.specs.Asked.{word_at}

-- the offsets, the lowest first
pub record Levels : Type 0 where
  pub closed : ℕ
  pub head : ℕ
  pub flushed : ℕ
  pub safe_read_only : ℕ
  pub read_only : ℕ
  pub tail : ℕ
  pub limit : ℕ

abbrev pub levels_of : List ℕ → Levels
levels_of words = record {
  closed = word_at words (shared_place one.Closed);
  head = word_at words (shared_place one.Head);
  flushed = word_at words (shared_place one.Flushed);
  safe_read_only = word_at words (shared_place one.SafeReadOnly);
  read_only = word_at words (shared_place one.ReadOnly);
  tail = word_at words (shared_place one.Tail);
  limit = word_at words (shared_place one.Limit);
}

-- the order that the offsets keep
pub record AreInOrder (l : Levels) : Type 0 where
  pub closed_below : l.closed ≤ l.head
  pub head_below : l.head ≤ l.flushed
  pub flushed_below : l.flushed ≤ l.safe_read_only
  pub safe_below : l.safe_read_only ≤ l.read_only
  pub read_only_below : l.read_only ≤ l.tail
  pub tail_below : l.tail ≤ l.limit

-- no offset falls
pub record Rises (l l' : Levels) : Type 0 where
  pub closed : l.closed ≤ l'.closed
  pub head : l.head ≤ l'.head
  pub flushed : l.flushed ≤ l'.flushed
  pub safe_read_only : l.safe_read_only ≤ l'.safe_read_only
  pub read_only : l.read_only ≤ l'.read_only
  pub tail : l.tail ≤ l'.tail
  pub limit : l.limit ≤ l'.limit
