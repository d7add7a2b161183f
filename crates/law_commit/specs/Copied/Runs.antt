-- What a life is to the copies of the index that the keeper makes: a run of the world of a copy, beside the index's own.
use Rattle.std.specs.Prelude.{◌≡◌, ℕ, List, [], ◌∷◌, ◌++◌, map, length, Some, false, true, Bool, if◌then◌else◌}
use Rattle.fkv_base.specs.declared.shapes.Shape.{Shape}
use Rattle.fkv_plane.specs.declared.places.Places.{Places}
use Rattle.law_refine.specs.Below.fkv_checkpoint.CopyStep.TheVariants as copy
use Rattle.law_refine.specs.Below.fkv_checkpoint.Copied.{copying_after, copied_after}
use Rattle.law_refine.specs.Below.fkv_checkpoint.CopyWorld.{CopyWorld, CopyEvent, CopyBegins, CopyMoves, IndexMoves, copy_run, copy_opening}
use Rattle.law_refine.specs.Below.fkv_checkpoint.Triples.{all_bytes}
use Rattle.law_refine.specs.Below.fkv_commit.Commit.{Commit}
use Rattle.fkv_base.specs.declared.commits.CommitKind.TheVariants.{Full}
use Rattle.law_refine.specs.Below.fkv_keeper.TheKeeping.{Keeping}
use Rattle.law_refine.specs.Below.fkv_keeper.TheKeeping.TheVariants.{LoadsPhase, Copies}
use Rattle.law_refine.specs.Below.fkv_keeper.CheckpointLaws.{IsBeforeWrites, IsBehindWait}
use Rattle.law_refine.specs.Below.fkv_keeper.Keeping.{KeeperState, come_to, is_copy_resting}
use Rattle.law_refine.specs.Below.fkv_keeper.KeeperRun.{KeeperEvent, Replies, Writing, keeper_run}
use Rattle.law_refine.specs.Below.fkv_world.OwnEvents.{keeper_part_of}
use Rattle.law_refine.specs.Below.fkv_world.Runs.{World, run}
use Rattle.law_refine.specs.Below.fkv_world.World.{Event}
use Rattle.law_refine.specs.Index.IndexEvents.{index_events}

-- A copy begins where a reply leads the keeper to copy and none rests that it takes up. Each reply from there on is a step of it.
abbrev pub copy_moves : Bool → Keeping → KeeperEvent → Keeping → List CopyEvent
copy_moves rests LoadsPhase (Replies reply granted) Copies = if rests then [] else CopyBegins ∷ []
copy_moves rests Copies (Replies reply granted) after = CopyMoves ∷ []
copy_moves rests step event after = []

-- what these events of a keeper are to its copies
unfoldable pub keeper_copies : Shape → Places → KeeperState → List KeeperEvent → List CopyEvent
keeper_copies shape p s [] = []
keeper_copies shape p s (event ∷ before) = copy_moves (is_copy_resting (keeper_run shape p s before).copy) (keeper_run shape p s before).step event (keeper_run shape p s (event ∷ before)).step ++ keeper_copies shape p s before

-- What an event of a life is to them: the keeper's part in it by the words as they were, and then what it is to the index.
abbrev pub copies_at : World → Event → List CopyEvent
copies_at w event = map IndexMoves (index_events w.now event) ++ keeper_copies w.now.shape w.now.places w.now.keeper (keeper_part_of w event)

-- and what a life is, beside its run
unfoldable pub copy_events : World → List Event → List CopyEvent
copy_events opening [] = []
copy_events opening (event ∷ before) = copies_at (run opening before) event ++ copy_events opening before

-- the world of a copy as a life begins: its index is the life's
abbrev pub opening_copy : World → (ℕ → List ℕ) → CopyWorld
opening_copy opening lists = copy_opening opening.now.places opening.now.words lists (length opening.now.sessions)

-- the copy that the keeper has begun last, beside the index that it copies
abbrev pub seen_by_copy : World → (ℕ → List ℕ) → List Event → CopyWorld
seen_by_copy opening lists events = copy_run (opening_copy opening lists) (copy_events opening events)

-- A copy has come as far as these replies lead, and has the triples that they tell.
pub record IsCopyBy (p : Places) (replies : List ℕ) (w : CopyWorld) : Type 0 where
  pub copying : w.copying ≡ copying_after p replies
  pub triples : w.triples ≡ copied_after p replies

-- the keeper has this copy in hand, and it is finished
pub record HasInHand (p : Places) (s : KeeperState) (w : CopyWorld) : Type 0 where
  pub in_hand : s.copy ≡ Some (record { places = p; copying = w.copying; triples = w.triples })
  pub finished : w.copying.step ≡ copy.Ended

-- where the device works, and the writes of a full commit that counts as copied have not begun, the keeper has the finished copy in hand
abbrev pub KeepsCopy : Places → KeeperState → CopyWorld → Type 0
KeepsCopy p s w = (c : Commit) → s.commit ≡ Some c → c.kind ≡ Full → c.is_copied ≡ true → s.is_broken ≡ false → IsBeforeWrites (come_to s) → HasInHand p s w

-- a full commit's checkpoint is this copy, which is finished: its triples are what is written
pub record IsCheckpointOf (s : KeeperState) (its : Writing) (w : CopyWorld) : Type 0 where
  pub finished : w.copying.step ≡ copy.Ended
  pub count : s.used.triples ≡ length w.triples
  pub written : its.first.triples ≡ all_bytes w.triples

abbrev pub WritesCopy : KeeperState → Writing → CopyWorld → Type 0
WritesCopy s its w = (c : Commit) → s.commit ≡ Some c → c.kind ≡ Full → IsBehindWait (come_to s) → IsCheckpointOf s its w
