-- What of the log lies below the end of a commit that has begun, and what from there on.
use Rattle.std.specs.List.{AllByRecursion, flat_map}
use Rattle.std.specs.Prelude.{◌≡◌, ◌⊎◌, ◌<◌, ◌+◌, ◌≤◌, ℕ, List, ◌++◌, Some, map}
use Rattle.fkv_base.specs.declared.commits.CommitKind.TheVariants.{Full}
use Rattle.law_refine.specs.Below.fkv_checkpoint.Triples.{CopiedEntry, copied_of}
use Rattle.fkv_index.specs.OneEntry.{IsHome}
use Rattle.fkv_plane.specs.declared.places.Places.{Places}
use Rattle.fkv_record.specs.Layout.{triple_bytes}
use Rattle.fkv_record.specs.declared.triples.Triple.{Triple}
use Rattle.law_paper.specs.Below.fkv_scan.Log.{AreApart}
use Rattle.law_refine.specs.Below.fkv_world.Runs.{World}
use Rattle.law_refine.specs.Below.fkv_world.World.{Event}
use Rattle.law_log.specs.Ghosts.{Ghosts, Log}
use Rattle.law_log.specs.Trace.{IsIn}
use Rattle.law_refine.specs.Index.Shows as index
use Rattle.law_refine.specs.Events.GhostEvents.{life_ghosts}
use Rattle.law_refine.specs.Events.Reserved.{IsUnbornFrom, ReservesNothing, tail_at}
use Rattle.law_refine.specs.Heads.Heads.{LeadToHeads}
use Rattle.law_commit.specs.BegunCommits.{BegunCommit, life_begun}
use Rattle.law_commit.specs.Copied.Covers.{CoverHeads, LeadIntoChains}
use Rattle.law_commit.specs.Decided.Cells.{ChainsTaken, SettledFrom}
use Rattle.law_commit.specs.Decided.Ended.{Span, span_of, span_opened}
use Rattle.law_commit.specs.Decided.Laws.{LieBelow}
use Rattle.law_commit.specs.Quiet.{OpensQuiet}
use Rattle.law_commit.specs.Versions.Cells.{CellsFrom, CellsUpto, made_in}
use Rattle.law_commit.specs.Versions.Laws.{first_version}

-- below an address no record is of a later version than this
abbrev pub CellsBelow : ℕ → ℕ → Log → Type 0
CellsBelow bound high log = (a version : ℕ) → a < bound → made_in (log.cells a) ≡ Some version → version ≤ high

-- A store was just opened at rest, as its sessions have seen, and its keeper seeks the points of all of them. The log reserves nothing, and has no record from
-- its tail up, and none of a later version than the phase word's.
pub record OpensWhole (opening : World) (start : ℕ) (ghosts : Ghosts) : Type 0 where
  pub quiet : OpensQuiet opening start
  pub unborn : IsUnbornFrom (tail_at opening.now) ghosts
  pub decided : ReservesNothing ghosts
  pub upto : CellsUpto (first_version opening) ghosts.log

-- so it is of each commit that has begun in its lives, with the opening's
abbrev pub OfEachBegun : (World → Span → Log → Type 0) → Type 0
OfEachBegun P =
    (opening : World) (start : ℕ) (ghosts : Ghosts) (events : List Event) (c : BegunCommit) → OpensWhole opening start ghosts → IsIn c (life_begun opening events)
    → P opening (span_of c) (life_ghosts opening ghosts events).log

-- or of each but the opening's
abbrev pub ButOpenings : (World → Span → Log → Type 0) → World → Span → Log → Type 0
ButOpenings P opening x log = P opening x log ⊎ (x ≡ span_opened opening)

-- from its end on each record is of a later version
abbrev pub IsLaterFromEnd : World → Span → Log → Type 0
IsLaterFromEnd opening x log = CellsFrom x.end.0 (x.number.0 + 1) log

-- below its end none is of a version past the next one
abbrev pub IsYoungBelowEnd : World → Span → Log → Type 0
IsYoungBelowEnd opening x log = CellsBelow x.end.0 (x.number.0 + 1) log

-- from the first tail up to its end each record stands or was given up
abbrev pub IsSettledBelowEnd : World → Span → Log → Type 0
IsSettledBelowEnd opening x log = SettledFrom (tail_at opening.now) x.end.0 log

-- below its first address none is of a later version
abbrev pub IsOldBelowFirst : World → Span → Log → Type 0
IsOldBelowFirst opening x log = CellsBelow x.first.0 x.number.0 log

-- and from there on none is of an earlier one
abbrev pub IsRecentFromFirst : World → Span → Log → Type 0
IsRecentFromFirst opening x log = CellsFrom x.first.0 x.number.0 log

-- a newer one ends no lower
abbrev pub EndsRise : Type 0
EndsRise =
    (opening : World) (start : ℕ) (events : List Event) (older newer : BegunCommit) → OpensQuiet opening start → IsIn older (life_begun opening events) → IsIn newer (life_begun opening events) → older.number.0 < newer.number.0
    → older.parts.end.0 ≤ newer.parts.end.0

-- ---- the triples of a full commit
-- These triples stand one after another in what the commit writes. Each is of a bucket of the index and leads into its home's chain, below the commit's end, and
-- no two are of one home. They cover the chains as these were when its copy began. Below its first address the chains have no more now than they had then.
pub record SpellsChains (p : Places) (opening : World) (ghosts : Ghosts) (events : List Event) (x : Span) : Type 0 where
  pub triples : List Triple
  pub spelled : flat_map triple_bytes triples ≡ x.triples
  pub in_index : AllByRecursion (λ (e : CopiedEntry). IsHome p e.home) (map copied_of triples)
  pub in_chains : LeadIntoChains (map copied_of triples) (life_ghosts opening ghosts events).log
  pub below : LieBelow x.end.0 (map copied_of triples)
  pub apart : AreApart triples
  pub begun : List Event
  pub later : List Event
  pub split : events ≡ later ++ begun
  pub covers : CoverHeads p (map copied_of triples) (life_ghosts opening ghosts begun).log
  pub none_new : (h a : ℕ) → IsIn a ((life_ghosts opening ghosts events).log.chains h) → a < x.first.0 → IsIn a ((life_ghosts opening ghosts begun).log.chains h)

-- so does each full commit of a life, but the opening's
abbrev pub FullCommitsSpellChains : Type 0
FullCommitsSpellChains =
    (opening : World) (start : ℕ) (lists : ℕ → List ℕ) (ghosts : Ghosts) (events : List Event) (c : BegunCommit) → OpensWhole opening start ghosts → index.IsOpened opening lists
    → LeadToHeads opening.now lists ghosts.log → ChainsTaken ghosts.log → IsIn c (life_begun opening events) → c.parts.kind ≡ Full
    → SpellsChains opening.now.places opening ghosts events (span_of c) ⊎ (span_of c ≡ span_opened opening)
