-- Two actors meet at a latch, event by event: a share that is added while one holds it alone is given back.
use Rattle.std.specs.Prelude.{◌≡◌, ℕ, ◌+◌, List, [], ◌∷◌, replicate, slice_get, Some}
use Rattle.fkv_plane.specs.declared.places.Places.{Places}
use Rattle.fkv_plane.specs.Places.{bucket_place, word_count}
use Rattle.fkv_plane.specs.Asked.{word_at}
use Rattle.fkv_latch.specs.declared.latching.LatchTask.TheVariants.{TakeShared, TakeExclusive, DropExclusive}
use Rattle.fkv_latch.specs.declared.latching.Latching.TheVariants.{AtRest, GivesBack}
use Rattle.fkv_latch.specs.Latching.{one_share, exclusive_bit}
use Rattle.fkv_latch.specs.LatchWorld.{LatchEvent, Begins, Moves, LatchWorld, latch_run}
use Rattle.fkv_latch.specs.Latched.{IsOpened, opening}

-- actor 1 takes the latch alone, and actor 0 adds a share. (The newest event stands first.)
abbrev pub they_meet : ℕ → List LatchEvent
they_meet place = Moves 0 ∷ Begins 0 TakeShared place ∷ Moves 1 ∷ Moves 1 ∷ Begins 1 TakeExclusive place ∷ []

-- actor 1 drops it, actor 0 takes its share off and then tries once more
abbrev pub they_part : ℕ → List LatchEvent
they_part place = Moves 0 ∷ Begins 0 TakeShared place ∷ Moves 0 ∷ Moves 1 ∷ Begins 1 DropExclusive place ∷ they_meet place

-- one holds the latch alone, the other's share is counted beside it, and is about to be given back
pub record HaveMet (w : LatchWorld) (place : ℕ) : Type 0 where
  pub gives_back : slice_get w.actors 0 ≡ Some (record { step = GivesBack place; shared = []; exclusive = [] })
  pub holds : slice_get w.actors 1 ≡ Some (record { step = AtRest; shared = []; exclusive = place ∷ [] })
  pub both : word_at w.words place ≡ exclusive_bit + one_share

-- the other shares the latch, and nobody else has it
pub record HaveParted (w : LatchWorld) (place : ℕ) : Type 0 where
  pub shares : slice_get w.actors 0 ≡ Some (record { step = AtRest; shared = place ∷ []; exclusive = [] })
  pub has_dropped : slice_get w.actors 1 ≡ Some (record { step = AtRest; shared = []; exclusive = [] })
  pub one : word_at w.words place ≡ one_share

-- there is such a store
pub record Meet : Type 0 where
  pub places : Places
  pub opened : IsOpened places (replicate (word_count places) 0)
  pub met : HaveMet (latch_run (opening places 2 (replicate (word_count places) 0)) (they_meet (bucket_place places 0 7))) (bucket_place places 0 7)
  pub parted : HaveParted (latch_run (opening places 2 (replicate (word_count places) 0)) (they_part (bucket_place places 0 7))) (bucket_place places 0 7)
