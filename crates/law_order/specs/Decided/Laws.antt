-- What the law says of decided addresses in the lives of opened stores.
use Rattle.std.specs.Prelude.{◌≡◌, ◌⊎◌, ◌<◌, ◌≤◌, ℕ, true, List, Some}
use Rattle.fkv_base.specs.declared.commits.CommitKind.TheVariants.{Full}
use Rattle.law_commit.specs.Below.fkv_commit.Commit.{Commit}
use Rattle.law_opening.specs.Below.fkv_filling.OpeningIndex.{opening_lists}
use Rattle.law_opening.specs.Below.fkv_core.Openings.{IsOpeningWorld, beginning}
use Rattle.law_opening.specs.Below.fkv_opening.Opened.{IsStoreOf}
use Rattle.law_opening.specs.Below.fkv_opening.TheOpened.{Opened}
use Rattle.fkv_words.specs.PhaseWords.{phase_said}
use Rattle.law_commit.specs.Below.fkv_keeper.Keeping.{come_to}
use Rattle.law_commit.specs.Below.fkv_world.Runs.{World, run}
use Rattle.law_commit.specs.Below.fkv_world.World.{Event, Now}
use Rattle.law_log.specs.Ghosts.{Ghosts}
use Rattle.law_log.specs.Trace.{IsIn}
use Rattle.law_opening.specs.Log.OpeningLog.{opening_ghosts}
use Rattle.law_commit.specs.Below.law_refine.Events.GhostEvents.{life_ghosts}
use Rattle.law_commit.specs.Below.law_refine.Events.Reserved.{tail_at}
use Rattle.law_commit.specs.Copied.Covers.{before_copy}
use Rattle.law_commit.specs.Copied.Runs.{seen_by_copy}
use Rattle.law_commit.specs.Decided.Cells.{DecidedBelow, SettledFrom, TakenFrom}
use Rattle.law_commit.specs.Decided.Laws.{EndIsSafe, HaveSeenTail, IsFromProgress, LieBelow}
use Rattle.law_commit.specs.Floor.Stands.{IsWritten}
use Rattle.law_commit.specs.PhaseStores.{phase_at}

-- so it is in each life of an opened store, with the log of its image beside it
abbrev pub InItsLife : (World → Ghosts → List Event → Type 0) → Type 0
InItsLife P = (bytes : List ℕ) (o : Opened) (n : Now) (events : List Event) → IsStoreOf bytes o → IsOpeningWorld o n → P (beginning n bytes) (opening_ghosts bytes o) events

-- each address from the first tail up to the tail is taken
abbrev pub HasTaken : World → Ghosts → List Event → Type 0
HasTaken opening ghosts events = TakenFrom (tail_at opening.now) (tail_at (run opening events).now) (life_ghosts opening ghosts events).log

-- below what each session that is awake has seen as tail all is decided
abbrev pub HasDecidedSeen : World → Ghosts → List Event → Type 0
HasDecidedSeen opening ghosts events = (bound : ℕ) → HaveSeenTail opening events bound → DecidedBelow bound (life_ghosts opening ghosts events).log

-- below the first address of the commit in hand, from in-progress on
abbrev pub HasDecidedFirst : World → Ghosts → List Event → Type 0
HasDecidedFirst opening ghosts events =
    (c : Commit) → (run opening events).now.keeper.commit ≡ Some c → IsFromProgress (phase_said (phase_at (run opening events).now)) → DecidedBelow c.first.0 (life_ghosts opening ghosts events).log

-- so it was as a full commit's copy began
abbrev pub HadDecidedFirst : World → Ghosts → List Event → Type 0
HadDecidedFirst opening ghosts events =
    (c : Commit) → (run opening events).now.keeper.commit ≡ Some c → c.kind ≡ Full → c.is_copied ≡ true → DecidedBelow c.first.0 (life_ghosts opening ghosts (before_copy opening events)).log

-- and below its end, as it is written
abbrev pub HasDecidedEnd : World → Ghosts → List Event → Type 0
HasDecidedEnd opening ghosts events =
    (c : Commit) → (run opening events).now.keeper.commit ≡ Some c → EndIsSafe (run opening events).now c ⊎ IsWritten (come_to (run opening events).now.keeper) → DecidedBelow c.end.0 (life_ghosts opening ghosts events).log

-- so each record from the first tail to its first address stands or was given up
abbrev pub HasSettledFirst : World → Ghosts → List Event → Type 0
HasSettledFirst opening ghosts events =
    (c : Commit) → (run opening events).now.keeper.commit ≡ Some c → IsFromProgress (phase_said (phase_at (run opening events).now))
    → (c.first.0 ≤ tail_at (run opening events).now) × SettledFrom (tail_at opening.now) c.first.0 (life_ghosts opening ghosts events).log

-- and to its end
abbrev pub HasSettledEnd : World → Ghosts → List Event → Type 0
HasSettledEnd opening ghosts events =
    (c : Commit) → (run opening events).now.keeper.commit ≡ Some c → EndIsSafe (run opening events).now c ⊎ IsWritten (come_to (run opening events).now.keeper)
    → (c.end.0 ≤ tail_at (run opening events).now) × SettledFrom (tail_at opening.now) c.end.0 (life_ghosts opening ghosts events).log

-- each address that stands in a chain lies below the tail
abbrev pub HasChainsBelow : World → Ghosts → List Event → Type 0
HasChainsBelow opening ghosts events = (h a : ℕ) → IsIn a ((life_ghosts opening ghosts events).log.chains h) → a < tail_at (run opening events).now

-- so does where each triple of the copy that began last leads
abbrev pub CopiesBelowTail : Type 0
CopiesBelowTail =
    (bytes : List ℕ) (o : Opened) (n : Now) (events : List Event) → IsStoreOf bytes o → IsOpeningWorld o n
    → LieBelow (tail_at (run (beginning n bytes) events).now) (seen_by_copy (beginning n bytes) (opening_lists o.entries.items) events).triples
