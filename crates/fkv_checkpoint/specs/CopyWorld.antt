-- The world of a copy: the index, on which others act, and how far the copy has come.
use Rattle.std.specs.Prelude.{ℕ, List, [], ◌∷◌, ◌++◌}
use Rattle.fkv_plane.specs.declared.places.Places.{Places}
use Rattle.fkv_plane.specs.Asked.{reply_to}
use Rattle.fkv_index.specs.IndexWorld.{IndexEvent, IndexWorld, index_happens, index_opening}
use Rattle.fkv_checkpoint.specs.declared.copying.Copying.{Copying}
use Rattle.fkv_checkpoint.specs.Triples.{CopiedEntry}
use Rattle.fkv_checkpoint.specs.Copying.{first_copying, copy_ask, copy_next, copied_at}

pub record CopyWorld : Type 0 where
  pub index : IndexWorld
  pub copying : Copying
  pub triples : List CopiedEntry

-- What may happen next.
pub data CopyEvent : Type 0 where
  -- a copy begins anew
  CopyBegins : CopyEvent
  -- the copy makes its one ask, which changes no word
  CopyMoves : CopyEvent
  -- somebody acts on the index
  IndexMoves : IndexEvent → CopyEvent

-- the reply to its ask, by the words as they are then
abbrev pub copy_reply : CopyWorld → ℕ
copy_reply w = reply_to w.index.now.words (copy_ask w.copying)

abbrev pub copy_begun_at : IndexWorld → CopyWorld
copy_begun_at index = record { index = index; copying = first_copying index.now.places; triples = [] }

unfoldable pub copy_happens : CopyWorld → CopyEvent → CopyWorld
copy_happens w CopyBegins = copy_begun_at w.index
copy_happens w CopyMoves = record w { copying = copy_next w.index.now.places w.copying (copy_reply w); triples = w.triples ++ copied_at w.copying w.copying.step (copy_reply w) }
copy_happens w (IndexMoves event) = record w { index = index_happens w.index event }

-- a whole run, the newest event first
unfoldable pub copy_run : CopyWorld → List CopyEvent → CopyWorld
copy_run opening [] = opening
copy_run opening (event ∷ before) = copy_happens (copy_run opening before) event

-- all actors rest, and a copy has begun
abbrev pub copy_opening : Places → List ℕ → (ℕ → List ℕ) → ℕ → CopyWorld
copy_opening p words lists actors = copy_begun_at (index_opening p words lists actors)
