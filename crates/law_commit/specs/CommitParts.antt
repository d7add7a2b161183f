-- What a commit that has begun writes beside its number and its points.
use Rattle.std.specs.Prelude.{ℕ, ◌==◌, if◌then◌else◌, List, []}
use Rattle.fkv_base.specs.declared.numbers.Addr.{Addr}
use Rattle.fkv_base.specs.declared.commits.CommitKind.{CommitKind}
use Rattle.fkv_base.specs.declared.commits.CommitKind.TheVariants.{Full, Log}
use Rattle.fkv_record.specs.declared.lost_ranges.LostRange.{LostRange}
use Rattle.fkv_plane.specs.declared.places.SharedWord.TheVariants as one
use Rattle.fkv_plane.specs.Asked.{word_at}
use Rattle.fkv_plane.specs.Places.{shared_place}
use Rattle.law_refine.specs.Below.fkv_commit.Commit.{Commit}
use Rattle.law_refine.specs.Below.fkv_keeper.Checkpoint.{Checkpoint}
use Rattle.law_refine.specs.Below.fkv_keeper.Keeping.{Finality, KeeperState, lost_left}
use Rattle.law_refine.specs.Below.law_world.Standing.Standing.{standing_opened}
use Rattle.law_refine.specs.Below.fkv_world.World.{Now}

pub record CommitParts : Type 0 where
  pub kind : CommitKind
  -- the address at which its log begins
  pub begin : Addr
  -- the tail as it was in prepare, as its own start has told it. The slot of a full commit says it; that of a log commit says the first address of the
  -- checkpoint that it uses
  pub first : Addr
  pub end : Addr
  -- the bytes of the triples that it wrote: a log commit writes none
  pub triples : List ℕ
  -- the checkpoint that it uses, with the area in which this lies; and the lost ranges that it names, or of the opening's commit those in hand,
  -- behind which recovery may have added one
  pub checkpoint : Checkpoint
  pub lost : List LostRange

-- as its gate is opened
abbrev pub parts_opening : KeeperState → Commit → CommitParts
parts_opening s c = record {
  kind = c.kind;
  begin = c.begin;
  first = c.first;
  end = c.end;
  triples = s.writes.triples;
  checkpoint = s.used;
  lost = lost_left c.kind s.lost;
}

-- The commit with which a store opens: its log ends at the tail, and it is a full one where it has made its own checkpoint. Where it is a log commit
-- the first address is its checkpoint's, since nothing tells its own.
abbrev pub kind_opened : Finality → CommitKind
kind_opened last = if last.checkpoint.number.0 == last.number.0 then Full else Log

abbrev pub triples_opened : CommitKind → List ℕ → List ℕ
triples_opened Full triples = triples
triples_opened Log triples = []

abbrev pub parts_opened : Now → List ℕ → CommitParts
parts_opened n opened = record {
  kind = kind_opened n.keeper.last;
  begin = n.keeper.last.begin;
  first = n.keeper.last.checkpoint.first;
  end = record { 0 = word_at n.words (shared_place one.Tail) };
  triples = triples_opened (kind_opened n.keeper.last) (standing_opened n.shape opened n.keeper.last).triples;
  checkpoint = n.keeper.last.checkpoint;
  lost = n.keeper.lost;
}
