-- What the law of decided addresses says.
use Rattle.std.specs.List.{AllByRecursion}
use Rattle.std.specs.Prelude.{◌≡◌, ◌⊎◌, ◌↔◌, ◌<◌, ◌≤◌, ⊤, ℕ, true, List, ◌++◌, Some}
use Rattle.fkv_base.specs.declared.commits.CommitKind.TheVariants.{Full}
use Rattle.fkv_base.specs.declared.phases.Phase.TheVariants.{InProgress, WaitFlush, WaitPending}
use Rattle.fkv_map.specs.declared.history.HistoryEntry.{HistoryEntry}
use Rattle.fkv_words.specs.PhaseWords.{phase_said}
use Rattle.fkv_words.specs.declared.phase_words.PhaseSaid.{PhaseSaid}
use Rattle.fkv_words.specs.declared.phase_words.PhaseSaid.TheVariants.{Says}
use Rattle.law_refine.specs.Below.fkv_commit.Commit.{Commit}
use Rattle.fkv_epoch.specs.EpochWorld.{safe_of}
use Rattle.law_refine.specs.Below.fkv_keeper.Keeping.{come_to}
use Rattle.law_refine.specs.Below.fkv_session.Sessions.{SessionState}
use Rattle.law_refine.specs.Below.fkv_world.Opened.{HasBecome, IsOpenedWorld}
use Rattle.law_refine.specs.Below.fkv_world.Runs.{World, run}
use Rattle.law_refine.specs.Below.fkv_world.World.{Event, Now}
use Rattle.law_refine.specs.Below.law_world.Guarded.Shows as guard
use Rattle.law_log.specs.Chains.{Cell, Reserved}
use Rattle.law_log.specs.Ghosts.{Ghosts}
use Rattle.law_log.specs.Trace.{IsIn}
use Rattle.law_refine.specs.Index.Shows as index
use Rattle.law_refine.specs.Heads.Heads.{LeadToHeads}
use Rattle.law_refine.specs.Below.fkv_checkpoint.Triples.{CopiedEntry}
use Rattle.law_refine.specs.Events.GhostEvents.{life_ghosts}
use Rattle.law_refine.specs.Events.Reserved.{IsUnbornFrom, ReservesNothing, tail_at}
use Rattle.law_commit.specs.Copied.Covers.{before_copy}
use Rattle.law_commit.specs.Copied.Runs.{seen_by_copy}
use Rattle.law_commit.specs.Decided.Cells.{ChainsTaken, DecidedBelow, SettledFrom, TakenFrom}
use Rattle.law_commit.specs.Floor.Stands.{IsWritten, OpensSeen}
use Rattle.law_commit.specs.PhaseStores.{phase_at}
use Rattle.law_commit.specs.Views.{sight_of}

-- A store was just opened, with its records' end at `start`. The log reserves nothing, and has no record from its tail up.
pub record OpensDecided (opening : World) (start : ℕ) (ghosts : Ghosts) : Type 0 where
  pub guarded : guard.IsOpened opening.now start
  pub opened : IsOpenedWorld opening
  pub unborn : IsUnbornFrom (tail_at opening.now) ghosts
  pub decided : ReservesNothing ghosts

-- each address from the tail with which the life began up to the tail is taken
abbrev pub TakesUptoTail : Type 0
TakesUptoTail =
    (opening : World) (start : ℕ) (ghosts : Ghosts) (events : List Event) → guard.IsOpened opening.now start
    → TakenFrom (tail_at opening.now) (tail_at (run opening events).now) (life_ghosts opening ghosts events).log

-- a record that is being made lies at or above the tail of its session's view
abbrev pub MakesAboveItsView : Type 0
MakesAboveItsView =
    (opening : World) (start : ℕ) (ghosts : Ghosts) (events : List Event) (first its : SessionState) (a : ℕ) (entry : HistoryEntry) (cell : Cell) → OpensDecided opening start ghosts
    → HasBecome opening events entry.session first its → (life_ghosts opening ghosts events).log.cells a ≡ Reserved entry cell
    → (sight_of opening events entry.session).view.tail ≤ a

-- each session that is awake has seen a tail at or above this address
abbrev pub HaveSeenTail : World → List Event → ℕ → Type 0
HaveSeenTail opening events bound = (session : ℕ) (first its : SessionState) → HasBecome opening events session first its → its.is_awake ≡ true → bound ≤ (sight_of opening events session).view.tail

-- so below what each of them has seen as tail all is decided
abbrev pub DecidesBelowViews : Type 0
DecidesBelowViews =
    (opening : World) (start : ℕ) (ghosts : Ghosts) (events : List Event) (bound : ℕ) → OpensDecided opening start ghosts → HaveSeenTail opening events bound
    → DecidedBelow bound (life_ghosts opening ghosts events).log

-- what is decided below the tail stays so
abbrev pub StaysDecided : Type 0
StaysDecided =
    (opening : World) (start : ℕ) (ghosts : Ghosts) (later before : List Event) (bound : ℕ) → guard.IsOpened opening.now start → bound ≤ tail_at (run opening before).now
    → DecidedBelow bound (life_ghosts opening ghosts before).log → DecidedBelow bound (life_ghosts opening ghosts (later ++ before)).log

-- from the first tail on each record there stands or was given up
abbrev pub SettlesDecided : Type 0
SettlesDecided =
    (opening : World) (start : ℕ) (ghosts : Ghosts) (events : List Event) (bound : ℕ) → guard.IsOpened opening.now start → bound ≤ tail_at (run opening events).now
    → DecidedBelow bound (life_ghosts opening ghosts events).log → SettledFrom (tail_at opening.now) bound (life_ghosts opening ghosts events).log

-- ---- the commit in hand
-- the phase word says in-progress or a later phase of a commit
abbrev pub IsFromProgress : PhaseSaid → Type 0
IsFromProgress (Says InProgress version) = ⊤
IsFromProgress (Says WaitPending version) = ⊤
IsFromProgress (Says WaitFlush version) = ⊤
IsFromProgress said = ⊥

-- from in-progress on all is decided below its first address, which isn't above the tail
abbrev pub DecidesBelowFirst : Type 0
DecidesBelowFirst =
    (opening : World) (start : ℕ) (ghosts : Ghosts) (events : List Event) (c : Commit) → OpensDecided opening start ghosts → OpensSeen opening.now
    → (run opening events).now.keeper.commit ≡ Some c → IsFromProgress (phase_said (phase_at (run opening events).now))
    → DecidedBelow c.first.0 (life_ghosts opening ghosts events).log

-- so it was as a full commit's copy began
abbrev pub DecidesBeforeCopies : Type 0
DecidesBeforeCopies =
    (opening : World) (start : ℕ) (ghosts : Ghosts) (events : List Event) (c : Commit) → OpensDecided opening start ghosts → OpensSeen opening.now
    → (run opening events).now.keeper.commit ≡ Some c → c.kind ≡ Full → c.is_copied ≡ true
    → DecidedBelow c.first.0 (life_ghosts opening ghosts (before_copy opening events)).log

-- the points of the commit in hand are taken, and the epoch of its last arming is safe
abbrev pub EndIsSafe : Now → Commit → Type 0
EndIsSafe n c = (n.keeper.has_points ≡ true) × (c.epoch ≤ safe_of n.words)

-- then, and as it is written or finished, all is decided below its end
abbrev pub DecidesBelowEnd : Type 0
DecidesBelowEnd =
    (opening : World) (start : ℕ) (ghosts : Ghosts) (events : List Event) (c : Commit) → OpensDecided opening start ghosts → OpensSeen opening.now
    → (run opening events).now.keeper.commit ≡ Some c → EndIsSafe (run opening events).now c ⊎ IsWritten (come_to (run opening events).now.keeper)
    → DecidedBelow c.end.0 (life_ghosts opening ghosts events).log

-- so each record from the first tail to its first address stands or was given up, from in-progress on
abbrev pub SettlesBelowFirst : Type 0
SettlesBelowFirst =
    (opening : World) (start : ℕ) (ghosts : Ghosts) (events : List Event) (c : Commit) → OpensDecided opening start ghosts → OpensSeen opening.now
    → (run opening events).now.keeper.commit ≡ Some c → IsFromProgress (phase_said (phase_at (run opening events).now))
    → (c.first.0 ≤ tail_at (run opening events).now) × SettledFrom (tail_at opening.now) c.first.0 (life_ghosts opening ghosts events).log

-- and to its end, as it is written
abbrev pub SettlesBelowEnd : Type 0
SettlesBelowEnd =
    (opening : World) (start : ℕ) (ghosts : Ghosts) (events : List Event) (c : Commit) → OpensDecided opening start ghosts → OpensSeen opening.now
    → (run opening events).now.keeper.commit ≡ Some c → EndIsSafe (run opening events).now c ⊎ IsWritten (come_to (run opening events).now.keeper)
    → (c.end.0 ≤ tail_at (run opening events).now) × SettledFrom (tail_at opening.now) c.end.0 (life_ghosts opening ghosts events).log

-- ---- chains and copies
-- each address that stands in a chain lies below the tail
abbrev pub ChainsLieBelowTail : Type 0
ChainsLieBelowTail =
    (opening : World) (start : ℕ) (ghosts : Ghosts) (events : List Event) (h a : ℕ) → guard.IsOpened opening.now start → IsUnbornFrom (tail_at opening.now) ghosts → ChainsTaken ghosts.log
    → IsIn a ((life_ghosts opening ghosts events).log.chains h) → a < tail_at (run opening events).now

-- below the tail with which the life began each chain has just what it had then
abbrev pub ChainsKeepTheOld : Type 0
ChainsKeepTheOld =
    (opening : World) (start : ℕ) (ghosts : Ghosts) (events : List Event) (h a : ℕ) → guard.IsOpened opening.now start → ReservesNothing ghosts → a < tail_at opening.now
    → IsIn a ((life_ghosts opening ghosts events).log.chains h) ↔ IsIn a (ghosts.log.chains h)

-- so does where each triple of the copy that began last leads
abbrev pub LieBelow : ℕ → List CopiedEntry → Type 0
LieBelow tail triples = AllByRecursion (λ e. e.addr < tail) triples

abbrev pub TriplesLieBelowTail : Type 0
TriplesLieBelowTail =
    (opening : World) (start : ℕ) (lists : ℕ → List ℕ) (ghosts : Ghosts) (events : List Event) → guard.IsOpened opening.now start → index.IsOpened opening lists → IsUnbornFrom (tail_at opening.now) ghosts
    → ReservesNothing ghosts → LeadToHeads opening.now lists ghosts.log → ChainsTaken ghosts.log → LieBelow (tail_at (run opening events).now) (seen_by_copy opening lists events).triples
