-- The images that a crash may leave of a life, and the commit of this life that the newest slot of one names.
use Rattle.std.specs.Prelude.{◌≡◌, ℕ, List}
use Rattle.law_opening.specs.Below.fkv_core.Openings.{IsOpeningWorld}
use Rattle.law_opening.specs.Below.fkv_newest.Newest.{IsNewestOf}
use Rattle.law_opening.specs.Below.fkv_newest.TheNewest.{Newest}
use Rattle.law_opening.specs.Below.fkv_opening.Faults.{log_of}
use Rattle.law_opening.specs.Below.fkv_opening.Opened.{IsStoreOf}
use Rattle.law_opening.specs.Below.fkv_opening.TheOpened.{Opened}
use Rattle.law_opening.specs.Below.fkv_pairs.Pairs.{log_of_store}
use Rattle.fkv_record.specs.declared.triples.Triple.{Triple}
use Rattle.law_opening.specs.Below.fkv_scan.Log as scan
use Rattle.law_commit.specs.Below.fkv_world.World.{Event, Now}
use Rattle.law_opening.specs.Changes.Fits.{CallsFit}
use Rattle.law_commit.specs.BegunCommits.{BegunCommit, commit_opened}
use Rattle.law_order.specs.Images.Left.{IsLeft, flushed_so_far}
use Rattle.law_order.specs.Images.Named.{AreTriplesOf, begun_so_far}
use Rattle.law_order.specs.Images.Read.{SaysCommit}
use Rattle.law_log.specs.Trace.{IsIn}
use Rattle.law_opening.specs.Lives.Reaching.{ReachesFar}
use Rattle.law_order.specs.Tickets.Few.{HasFewCalls}
use Rattle.law_commit.specs.Below.law_refine.Events.GhostEvents.{home_in}
use Rattle.law_commit.specs.Below.law_world.Standing.Standing.{triples_in}

-- A crash may leave this image of a life, behind these events. The life is one of an opened store whose image reached far.
pub record Leaves (o : Opened) (n : Now) (bytes : List ℕ) (events : List Event) (image : List ℕ) : Type 0 where
  pub store : IsStoreOf bytes o
  pub begins : IsOpeningWorld o n
  pub fits : CallsFit events
  pub few : HasFewCalls events
  pub far : ReachesFar bytes
  pub left : IsLeft n bytes events image

-- The newest slot of an image says a commit of this life, which isn't the opening's. The area that it names holds the triples of the commit's checkpoint.
pub record NamesNew (o : Opened) (n : Now) (bytes : List ℕ) (events : List Event) (image : List ℕ) : Type 0 where
  pub commit : BegunCommit
  pub begun : IsIn commit (begun_so_far n bytes events)
  pub newest : Newest
  pub its : IsNewestOf image newest
  pub shape : (let is = newest in is.shape ≡ n.shape)
  pub says : SaysCommit o n (flushed_so_far n bytes events) commit newest
  pub made : (let c = commit in AreTriplesOf n.shape bytes (commit_opened n bytes) (begun_so_far n bytes events) c.parts.checkpoint (triples_in n.shape image c.parts.checkpoint))

-- ---- what is said of an image that a life leaves, and of one that names a commit of its life
abbrev pub SaidOfLeft : Type 1
SaidOfLeft = (o : Opened) (n : Now) (bytes : List ℕ) (events : List Event) (image : List ℕ) → Leaves o n bytes events image → Type 0

abbrev pub SaidOfNamed : Type 1
SaidOfNamed = (o : Opened) (n : Now) (bytes : List ℕ) (events : List Event) (image : List ℕ) → Leaves o n bytes events image → NamesNew o n bytes events image → Type 0

-- so it is of each image that names a commit of its life
abbrev pub OfEachNamed : SaidOfNamed → Type 0
OfEachNamed P =
    (o : Opened) (n : Now) (bytes : List ℕ) (events : List Event) (image : List ℕ) (leaves : Leaves o n bytes events image) (names : NamesNew o n bytes events image) → P o n bytes events image leaves names

-- and of each image that a life leaves
abbrev pub OfEachLeft : SaidOfLeft → Type 0
OfEachLeft P =
    (o : Opened) (n : Now) (bytes : List ℕ) (events : List Event) (image : List ℕ) (leaves : Leaves o n bytes events image) → P o n bytes events image leaves

-- the homes of a store's keys
abbrev pub homes_of : Now → ℕ → ℕ
homes_of n = home_in n.shape.bucket_bits

-- what recovery goes by in an image that names a commit of this life, behind these triples
abbrev pub log_named : {o : Opened} {n : Now} {bytes : List ℕ} {events : List Event} {image : List ℕ} → NamesNew o n bytes events image → List Triple → scan.Log
log_named {image = image} names triples = log_of image names.newest triples

-- what recovery went by as the store was opened
abbrev pub log_then : {o : Opened} {n : Now} {bytes : List ℕ} {events : List Event} {image : List ℕ} → Leaves o n bytes events image → scan.Log
log_then {o = o} {bytes = bytes} leaves = log_of_store bytes o leaves.store
