-- At which moments of a life a commit's first address and its end were the tail, and at which it was written.
use Rattle.std.specs.Prelude.{◌≡◌, ◌⊎◌, ℕ, true, false, List, ◌++◌, Some}
use Rattle.fkv_base.specs.declared.commits.CommitKind.{CommitKind}
use Rattle.fkv_base.specs.declared.numbers.Addr.{Addr}
use Rattle.fkv_base.specs.declared.numbers.Version.{Version}
use Rattle.law_refine.specs.Below.fkv_commit.Commit.{Commit}
use Rattle.law_refine.specs.Below.fkv_commit.TheSeeking.TheVariants as seek
use Rattle.law_refine.specs.Below.fkv_commit.TheStarting.TheVariants as start
use Rattle.law_refine.specs.Below.fkv_keeper.TheKeeping.TheVariants.{Seeks, Starts, Writes}
use Rattle.law_refine.specs.Below.fkv_keeper.Keeping.{triples_written}
use Rattle.law_refine.specs.Below.fkv_world.Runs.{World, run}
use Rattle.law_refine.specs.Below.fkv_world.World.{Event, Now}
use Rattle.law_log.specs.Trace.{IsIn}
use Rattle.law_refine.specs.Events.Reserved.{tail_at}
use Rattle.law_commit.specs.BegunCommits.{BegunCommit, commit_opened, life_begun}
use Rattle.law_commit.specs.Quiet.{OpensQuiet}

-- What stays of a commit from its end on: its number and kind, where its log begins, its first address and its end, and the bytes of the triples that it
-- writes.
pub record Span : Type 0 where
  pub number : Version
  pub kind : CommitKind
  pub begin : Addr
  pub first : Addr
  pub end : Addr
  pub triples : List ℕ

-- of a commit in hand with this end and these triples
abbrev pub span_in : Commit → Addr → List ℕ → Span
span_in c end triples = record { number = c.number; kind = c.kind; begin = c.begin; first = c.first; end = end; triples = triples }

abbrev pub span_of : BegunCommit → Span
span_of c = record { number = c.number; kind = c.parts.kind; begin = c.parts.begin; first = c.parts.first; end = c.parts.end; triples = c.parts.triples }

-- It was so at a moment of the life.
pub record HadMoment (P : Now → Type 0) (opening : World) (events : List Event) : Type 0 where
  pub moment : List Event
  pub later : List Event
  pub split : events ≡ later ++ moment
  pub was : P (run opening moment).now

-- The keeper starts a commit of this number, and loads the tail, which is its first address.
pub record LoadsFirst (number : Version) (first : Addr) (n : Now) : Type 0 where
  pub starts : n.keeper.step ≡ Starts
  pub loads : n.keeper.start.step ≡ start.LoadsTail number
  pub tail : first.0 ≡ tail_at n

-- The points of the commit in hand are taken, and it is copied. The keeper loads the tail, which is its end. The triples that it will write are those of the
-- copy in hand.
pub record LoadsEnd (x : Span) (n : Now) : Type 0 where
  pub seeks : n.keeper.step ≡ Seeks
  pub loads : n.keeper.seek.step ≡ seek.LoadsTail
  pub works : n.keeper.is_broken ≡ false
  pub commit : Commit
  pub in_hand : n.keeper.commit ≡ Some commit
  pub copied : commit.is_copied ≡ true
  pub its : x ≡ span_in commit x.end x.triples
  pub tail : x.end.0 ≡ tail_at n
  pub triples : x.triples ≡ triples_written x.kind n.keeper.copy

-- The commit in hand is written.
pub record IsWrittenNow (x : Span) (n : Now) : Type 0 where
  pub writes : n.keeper.step ≡ Writes
  pub commit : Commit
  pub in_hand : n.keeper.commit ≡ Some commit
  pub its : x ≡ span_in commit commit.end n.keeper.writes.triples

-- A commit has come through these moments: its first address was the tail as it started, and its end was the tail before it was written.
pub record HasEnded (opening : World) (events : List Event) (x : Span) : Type 0 where
  pub first : HadMoment (LoadsFirst x.number x.first) opening events
  pub end : HadMoment (LoadsEnd x) opening events
  pub written : HadMoment (IsWrittenNow x) opening events

-- the commit with which the store was opened
abbrev pub span_opened : World → Span
span_opened opening = span_of (commit_opened opening.now opening.past.opened)

-- each commit that has begun in a life has come through them, but the opening's
abbrev pub CommitsHaveEnded : Type 0
CommitsHaveEnded =
    (opening : World) (start : ℕ) (events : List Event) (c : BegunCommit) → OpensQuiet opening start → IsIn c (life_begun opening events)
    → HasEnded opening events (span_of c) ⊎ (span_of c ≡ span_opened opening)
