-- When the last copy of a life began, and what its triples are to the chains of the log.
use Rattle.std.specs.Prelude.{◌≡◌, ℕ, if◌then◌else◌, Bool, true, false, List, [], ◌∷◌, ◌++◌, Some}
use Rattle.std.specs.List.{AllByRecursion}
use Rattle.fkv_words.specs.PhaseWords.{phase_said}
use Rattle.fkv_plane.specs.declared.places.Places.{Places}
use Rattle.fkv_index.specs.declared.homes.Home.{Home}
use Rattle.fkv_index.specs.OneEntry.{IsHome}
use Rattle.law_refine.specs.Below.fkv_checkpoint.CopyWorld.{CopyEvent, CopyBegins}
use Rattle.law_refine.specs.Below.fkv_checkpoint.Fuzzy.{HasCopy, IsEntryThen}
use Rattle.law_refine.specs.Below.fkv_checkpoint.Triples.{CopiedEntry}
use Rattle.law_refine.specs.Below.fkv_commit.Commit.{Commit}
use Rattle.fkv_base.specs.declared.commits.CommitKind.TheVariants.{Full}
use Rattle.law_refine.specs.Below.fkv_keeper.TheKeeping.TheVariants.{LoadsPhase}
use Rattle.law_refine.specs.Below.fkv_keeper.CheckpointLaws.{IsCopyPhase}
use Rattle.law_refine.specs.Below.fkv_world.OwnEvents.{keeper_part_of}
use Rattle.law_refine.specs.Below.fkv_world.Runs.{World, run}
use Rattle.law_refine.specs.Below.fkv_world.World.{Event, Now}
use Rattle.law_log.specs.Ghosts.{Log}
use Rattle.law_log.specs.Trace.{IsIn}
use Rattle.law_refine.specs.Index.Shows.{seen_by_index}
use Rattle.law_refine.specs.Events.GhostEvents.{home_number}
use Rattle.law_refine.specs.Heads.Heads.{head_at}
use Rattle.law_commit.specs.Copied.Runs.{keeper_copies}
use Rattle.law_commit.specs.PhaseStores.{phase_at}

-- a copy begins by one of these
abbrev pub begins_copy : List CopyEvent → Bool
begins_copy [] = false
begins_copy (CopyBegins ∷ before) = true
begins_copy (event ∷ before) = begins_copy before

abbrev pub begins_at : World → Event → Bool
begins_at w event = begins_copy (keeper_copies w.now.shape w.now.places w.now.keeper (keeper_part_of w event))

-- the events of a life before the one by which its last copy began; none, where none began
unfoldable pub before_copy : World → List Event → List Event
before_copy opening [] = []
before_copy opening (event ∷ before) = if begins_at (run opening before) event then before else before_copy opening before

-- The entry stood in the index at a moment of the life since then.
pub record HasStoodSince (opening : World) (lists : ℕ → List ℕ) (events : List Event) (e : CopiedEntry) : Type 0 where
  pub moment : List Event
  pub later : List Event
  pub split : events ≡ later ++ moment
  pub between : List Event
  pub since : moment ≡ between ++ before_copy opening events
  pub stood : IsEntryThen (seen_by_index opening lists moment) e

-- each triple leads into the chain of its home
abbrev pub LeadIntoChains : List CopiedEntry → Log → Type 0
LeadIntoChains triples log = AllByRecursion (λ e. IsIn e.addr (log.chains (home_number e.home))) triples

-- each home whose chain isn't empty has a triple that leads to where the chain begins, or above it
abbrev pub CoverHeads : Places → List CopiedEntry → Log → Type 0
CoverHeads p triples log = (home : Home) → IsHome p home → (head_at log home ≡ 0 → ⊥) → HasCopy triples home (head_at log home)

-- At this moment a copy for this commit may begin: the commit is in hand and not copied, and the phase word says in-progress or wait-pending.
pub record MayBeCopied (n : Now) (c : Commit) : Type 0 where
  pub loads : n.keeper.step ≡ LoadsPhase
  pub phase : IsCopyPhase (phase_said (phase_at n))
  pub commit : Commit
  pub in_hand : n.keeper.commit ≡ Some commit
  pub not_copied : commit.is_copied ≡ false
  pub number : commit.number ≡ c.number
  pub kind : commit.kind ≡ c.kind
  pub first : commit.first ≡ c.first

-- the copy of a full commit in hand that is copied began at such a moment, by the event after it
abbrev pub HasBegunFor : World → List Event → Type 0
HasBegunFor opening events = (c : Commit) → (run opening events).now.keeper.commit ≡ Some c → c.kind ≡ Full → c.is_copied ≡ true → MayBeCopied (run opening (before_copy opening events)).now c
