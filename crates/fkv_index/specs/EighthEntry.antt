-- An eighth entry of a bucket, event by event, while two sessions link at once.
use Rattle.std.specs.Prelude.{◌≡◌, ℕ, ◌+◌, ◌≤◌, List, [], ◌∷◌, ◌++◌, replicate}
use Rattle.fkv_plane.specs.declared.places.Places.{Places}
use Rattle.fkv_plane.specs.Places.{frames_start}
use Rattle.fkv_index.specs.declared.homes.Home.{Home}
use Rattle.fkv_index.specs.declared.finding.Purpose.TheVariants.{Update}
use Rattle.fkv_index.specs.IndexWorld.{IndexEvent, BeginsFind, BeginsPublish, Moves, IndexWorld, taken_of, new_entry, index_run, index_opening}
use Rattle.fkv_index.specs.OneEntry.{IsIndexAt, spare_at}
use Rattle.fkv_index.specs.Entries.{entry_of}

-- no entry, and nothing linked
abbrev pub empty_index : Places → ℕ → ℕ → IndexWorld
empty_index p words actors = index_opening p (replicate words 0) (λ bucket. []) actors

-- an empty index is in order
abbrev pub EmptyIsIndex : Type 0
EmptyIsIndex = (p : Places) (words actors : ℕ) → frames_start p ≤ words → IsIndexAt (empty_index p words actors)

-- the homes of the one bucket
abbrev pub home : ℕ → Home
home tag = record { bucket = 0; tag = tag }

-- Session 0 finds the slot behind the entries of lower tags, and publishes an entry there. (The newest event stands first.)
abbrev pub enters : ℕ → List IndexEvent
enters tag = Moves 0 ∷ BeginsPublish 0 (9 + tag) ∷ replicate tag (Moves 0) ++ BeginsFind 0 (home tag) Update ∷ []

-- Seven entries fill the bucket. Then both sessions seek one more slot, and each takes an overflow bucket. Session 0 links the one that it
-- took, finds its first slot empty and publishes an entry there; the Cas of session 1 comes too late.
abbrev pub links_once : List IndexEvent
links_once =
    Moves 1 ∷ Moves 0 ∷ BeginsPublish 0 17 ∷ replicate 2 (Moves 0)
    ++ replicate 10 (Moves 1) ++ BeginsFind 1 (home 9) Update ∷ replicate 10 (Moves 0) ++ BeginsFind 0 (home 8) Update
    ∷ enters 7 ++ enters 6 ++ enters 5 ++ enters 4 ++ enters 3 ++ enters 2 ++ enters 1

-- the bucket is followed by one overflow bucket, and session 1 has the other to spare
pub record HasLinked (w : IndexWorld) : Type 0 where
  pub first : entry_of w (home 1) ≡ new_entry 10 1
  pub eighth : entry_of w (home 8) ≡ new_entry 17 8
  pub ninth : entry_of w (home 9) ≡ 0
  pub list : w.lists 0 ≡ 1 ∷ []
  pub taken : taken_of w.now.words ≡ 2
  pub spare : spare_at w.now.actors 1 ≡ 2

-- there is such a store: one bucket, two overflow buckets, two sessions
pub record LinksOnce : Type 0 where
  pub places : Places
  pub few : frames_start places ≤ 104
  pub linked : HasLinked (index_run (empty_index places 104 2) links_once)
