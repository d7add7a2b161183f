-- How far the commits that have begun have come, by the step to which the keeper has come.
use Rattle.std.specs.Prelude.{◌≡◌, ⊤, ◌⊎◌, Bool, true, false, List, [], ◌∷◌, Some}
use Rattle.law_refine.specs.Below.fkv_commit.Commit.{Commit}
use Rattle.law_refine.specs.Below.fkv_keeper.TheKeeping.{Keeping}
use Rattle.law_refine.specs.Below.fkv_keeper.TheKeeping.TheVariants.{Ended, Writes, Finishes}
use Rattle.law_refine.specs.Below.fkv_keeper.Keeping.{Finality, KeeperState, lost_left}
use Rattle.law_commit.specs.BegunCommits.{BegunCommit}

-- each of these is sealed and finished
abbrev pub AreFinished : List BegunCommit → Type 0
AreFinished [] = ⊤
AreFinished (c ∷ before) = (c.is_sealed ≡ true) × (c.is_finished ≡ true) × AreFinished before

-- this commit says what the newest finished one says
pub record IsAsLast (last : Finality) (c : BegunCommit) : Type 0 where
  pub number : c.number ≡ last.number
  pub begin : c.parts.begin ≡ last.begin
  pub points : c.points ≡ last.points
  pub checkpoint : c.parts.checkpoint ≡ last.checkpoint

-- All have finished, and the newest says what the keeper has as the newest finished one.
pub record HaveFinished (begun : List BegunCommit) (finality : Finality) : Type 0 where
  pub newest : BegunCommit
  pub older : List BegunCommit
  pub its : begun ≡ newest ∷ older
  pub finished : AreFinished begun
  pub last : IsAsLast finality newest

-- So it is of all but the newest, which is neither sealed nor finished.
pub record OneIsOpen (begun : List BegunCommit) (finality : Finality) : Type 0 where
  pub newest : BegunCommit
  pub older : List BegunCommit
  pub its : begun ≡ newest ∷ older
  pub unfinished : newest.is_finished ≡ false
  pub unsealed : newest.is_sealed ≡ false
  pub others : HaveFinished older finality

-- The newest is the commit in hand, with the triples, the points, the checkpoint and the lost ranges that are written, and it is sealed or not; all others
-- have finished.
pub record IsInHand (begun : List BegunCommit) (s : KeeperState) (sealed : Bool) : Type 0 where
  pub commit : Commit
  pub in_hand : s.commit ≡ Some commit
  pub newest : BegunCommit
  pub older : List BegunCommit
  pub its : begun ≡ newest ∷ older
  pub number : newest.number ≡ commit.number
  pub kind : newest.parts.kind ≡ commit.kind
  pub begin : newest.parts.begin ≡ commit.begin
  pub first : newest.parts.first ≡ commit.first
  pub end : newest.parts.end ≡ commit.end
  pub triples : newest.parts.triples ≡ s.writes.triples
  pub points : newest.points ≡ s.seek.points
  pub checkpoint : newest.parts.checkpoint ≡ s.used
  pub lost : newest.parts.lost ≡ lost_left commit.kind s.lost
  pub unfinished : newest.is_finished ≡ false
  pub is_so : newest.is_sealed ≡ sealed
  pub others : HaveFinished older s.last

-- where a commit's words are stored it is sealed; where one is written at most the newest is open; so it stays where a call of the device has
-- failed; and elsewhere all have finished
abbrev pub AtEnd : List BegunCommit → KeeperState → Bool → Type 0
AtEnd begun s true = HaveFinished begun s.last ⊎ OneIsOpen begun s.last
AtEnd begun s false = HaveFinished begun s.last

abbrev pub AtKeeping : List BegunCommit → KeeperState → Keeping → Type 0
AtKeeping begun s Finishes = IsInHand begun s true
AtKeeping begun s Writes = HaveFinished begun s.last ⊎ OneIsOpen begun s.last
AtKeeping begun s (Ended its) = AtEnd begun s s.is_broken
AtKeeping begun s step = HaveFinished begun s.last
