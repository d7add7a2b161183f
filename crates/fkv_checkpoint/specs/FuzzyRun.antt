-- A copy while entries are published in front of it and behind it, event by event.
use Rattle.std.specs.Prelude.{◌≡◌, ℕ, ◌≤◌, List, [], ◌∷◌, ◌++◌, replicate}
use Rattle.fkv_plane.specs.declared.places.Places.{Places}
use Rattle.fkv_plane.specs.Places.{frames_start}
use Rattle.fkv_index.specs.declared.finding.Purpose.TheVariants.{Update}
use Rattle.fkv_index.specs.IndexWorld.{IndexEvent, BeginsFind, BeginsPublish, Moves, new_entry}
use Rattle.fkv_index.specs.Entries.{entry_of}
use Rattle.fkv_index.specs.EighthEntry.{empty_index, home, enters}
use Rattle.fkv_checkpoint.specs.declared.copying.CopyStep.TheVariants.{Ended}
use Rattle.fkv_checkpoint.specs.Triples.{CopiedEntry}
use Rattle.fkv_checkpoint.specs.CopyWorld.{CopyWorld, CopyEvent, CopyBegins, CopyMoves, IndexMoves, copy_begun_at, copy_run}

abbrev pub index_moves : List IndexEvent → List CopyEvent
index_moves [] = []
index_moves (event ∷ before) = IndexMoves event ∷ index_moves before

-- Session 0 publishes a newer entry of tag 1. (The newest event stands first.)
abbrev pub renews : List IndexEvent
renews = Moves 0 ∷ BeginsPublish 0 20 ∷ Moves 0 ∷ BeginsFind 0 (home 1) Update ∷ []

-- Tags 1 and 2 have entries as the copy begins. It loads the first slot; then tag 3 gets an entry, in the third slot, and tag 1 a newer
-- one, in the first; and the copy goes on to its end.
abbrev pub events : List CopyEvent
events = replicate 7 CopyMoves ++ index_moves (renews ++ enters 3) ++ CopyMoves ∷ CopyBegins ∷ index_moves (enters 2 ++ enters 1)

abbrev pub copied : ℕ → ℕ → CopiedEntry
copied tag addr = record { home = home tag; addr = addr }

-- the copy has tag 3, and of tag 1 the entry that it met
pub record HasThree (w : CopyWorld) : Type 0 where
  pub ended : w.copying.step ≡ Ended
  pub three : w.triples ≡ copied 1 10 ∷ copied 2 11 ∷ copied 3 12 ∷ []
  pub newer : entry_of w.index (home 1) ≡ new_entry 20 1

-- there is such a store: one bucket, two overflow buckets, two sessions
pub record FuzzyRun : Type 0 where
  pub places : Places
  pub few : frames_start places ≤ 104
  pub its_run : HasThree (copy_run (copy_begun_at (empty_index places 104 2)) events)
