-- One piece for each way in which something of the past changes.
use Rattle.std.specs.Prelude.{◌≡◌, ℕ, Bool, true, false, List, [], ◌∷◌, Some, None}
use Rattle.fkv_base.specs.declared.phases.Phase.TheVariants.{Rest, Prepare, InProgress, WaitPending, WaitFlush}
use Rattle.fkv_map.specs.declared.operations.Call.TheVariants as call
use Rattle.fkv_plane.specs.declared.actions.Action.{Action}
use Rattle.fkv_plane.specs.declared.asks.Ask.TheVariants.{Load, Put}
use Rattle.fkv_epoch.specs.declared.refreshing.Refreshing.TheVariants as refresh
use Rattle.fkv_epoch.specs.declared.protecting.Protecting.TheVariants as protect
use Rattle.law_refine.specs.Below.fkv_commit.Commit.{Commit}
use Rattle.fkv_base.specs.declared.commits.CommitKind.TheVariants.{Full, Log}
use Rattle.law_refine.specs.Below.fkv_manifest.TheGating.TheVariants.{WritesBody, Opens, SyncsOpen}
use Rattle.law_refine.specs.Below.fkv_keeper.KeeperTold.TheVariants.{Turned}
use Rattle.law_refine.specs.Below.fkv_keeper.TheKeeping.TheVariants.{Ended, Starts, Maintains, Enters, Seeks, Finishes}
use Rattle.law_refine.specs.Below.fkv_keeper.Checkpoint.{Checkpoint}
use Rattle.law_refine.specs.Below.fkv_keeper.Keeping.{Finality, KeeperState}
use Rattle.law_refine.specs.Below.fkv_session.Told.{Told}
use Rattle.law_refine.specs.Below.fkv_session.Told.TheVariants.{Durable, Slept}
use Rattle.law_refine.specs.Below.fkv_session.Catching.TheVariants.{Refreshes, Protects, StoresCut}
use Rattle.law_refine.specs.Below.fkv_session.CatchCause.{CatchCause}
use Rattle.law_refine.specs.Below.fkv_session.Sitting.TheVariants.{Idle, CatchesUp}
use Rattle.law_refine.specs.Below.fkv_session.CatchingUp.{CatchState}
use Rattle.law_refine.specs.Below.fkv_world.Past.{Traced, Called, Answered, TurnAsked, KeeperAnswered}
use Rattle.law_refine.specs.Below.fkv_world.World.{Turns, Now}
use Rattle.law_commit.specs.Accepted.{count_upto}
use Rattle.law_commit.specs.LastSerials.{serial_at}
use Rattle.law_commit.specs.BegunCommits.{BegunCommit, commit_opened, commit_opening, begun_at_gate, begun_at_end}
use Rattle.law_commit.specs.CommitParts.{kind_opened, triples_opened}
use Rattle.law_commit.specs.PrefixPast.{asked_where, asked_by}
use Rattle.law_commit.specs.Raises.{Raises, no_raises, raises_with, raises_left}
use Rattle.law_commit.specs.Ranks.{rank, version_at}
use Rattle.law_commit.specs.ToldPoints.{points_told}
use Rattle.law_commit.specs.Views.{View, Sight, loads_phase, with_loaded, sight_left}

-- A commit of version 4 goes through six ranks: it rests and prepares in version 4, and then comes what is of version 5.
pub record RanksInTurn : Type 0 where
  pub rests : rank Rest 4 ≡ 20
  pub prepares : rank Prepare 4 ≡ 21
  pub in_progress : rank InProgress 5 ≡ 22
  pub wait_pending : rank WaitPending 5 ≡ 23
  pub wait_flush : rank WaitFlush 5 ≡ 24
  pub rests_again : rank Rest 5 ≡ 25
  pub of_prepare : version_at 21 ≡ 4
  pub of_in_progress : version_at 22 ≡ 5

-- of updates of versions 1, 2, 2 and 3, the newest first, these are of version 2 or an earlier one
abbrev pub CountsUpto : Type 0
CountsUpto = count_upto 2 (3 ∷ 2 ∷ 2 ∷ 1 ∷ []) ≡ 3

-- epoch 9, epoch 8 safe, prepare of version 3, and the tail at 40
abbrev pub words_in_prepare : List ℕ
words_in_prepare = 9 ∷ 8 ∷ 65539 ∷ 40 ∷ []

abbrev pub view_in_prepare : View
view_in_prepare = record { stamp = 9; phase = Prepare; version = record { 0 = 3 }; tail = 40 }

-- The phase is loaded by a refresh and by a wake; a word that says no phase leaves what was seen; and the view is complete once the session
-- catches up no more.
pub record ViewsChange : Type 0 where
  pub refreshes : (c : CatchState) (epoch : ℕ) → loads_phase (record c { refreshing = refresh.LoadsPhase epoch }) Refreshes ≡ true
  pub wakes : (c : CatchState) → loads_phase (record c { protecting = protect.LoadsPhase }) Protects ≡ true
  pub loads_others : (c : CatchState) → loads_phase (record c { refreshing = refresh.LoadsEpoch }) Refreshes ≡ false
  pub cuts : (c : CatchState) → loads_phase c StoresCut ≡ false
  pub comes : (view : View) → with_loaded words_in_prepare true 65539 (record { view = view; coming = None }) ≡ record { view = view; coming = Some view_in_prepare }
  pub spoiled : (view : View) → with_loaded words_in_prepare true 0 (record { view = view; coming = None }) ≡ record { view = view; coming = Some (record { stamp = 9; phase = view.phase; version = view.version; tail = 40 }) }
  pub goes_on : (its : Sight) (cause : CatchCause) → sight_left (CatchesUp cause) its ≡ its
  pub completes : (view next : View) (told : Told) → sight_left (Idle told) (record { view = view; coming = Some next }) ≡ record { view = next; coming = None }

-- The keeper puts an action into its slot behind each of a commit's three raises, in other parts of its turns behind none of these; and a finish
-- leaves none.
pub record RaisesChange : Type 0 where
  pub first : (slot epoch : ℕ) (action : Action) (its : Raises) → raises_with Starts (Put slot action) epoch its ≡ record its { in_progress = Some epoch }
  pub second : (slot epoch : ℕ) (action : Action) (its : Raises) → raises_with Enters (Put slot action) epoch its ≡ record its { wait_pending = Some epoch }
  pub third : (slot epoch : ℕ) (action : Action) (its : Raises) → raises_with Seeks (Put slot action) epoch its ≡ record its { read_only = Some epoch }
  pub turn : (slot epoch : ℕ) (action : Action) (its : Raises) → raises_with Maintains (Put slot action) epoch its ≡ its
  pub loads : (place epoch : ℕ) (its : Raises) → raises_with Starts (Load place) epoch its ≡ its
  pub finish : (full : Bool) (its : Raises) → raises_left Finishes (Ended (Turned true full)) its ≡ no_raises
  pub unfinished : (full : Bool) (its : Raises) → raises_left Maintains (Ended (Turned false full)) its ≡ its

-- A commit has begun with the call that opens its gate, whether this succeeds or not; it is sealed where the sync behind it succeeds, and finished
-- where its turn ends so.
pub record BegunChange : Type 0 where
  pub opens : (s : KeeperState) (c : Commit) (done : Bool) (before : List BegunCommit) → begun_at_gate (record s { commit = Some c }) Opens done before ≡ commit_opening (record s { commit = Some c }) c ∷ before
  pub seals : (s : KeeperState) (c : BegunCommit) (before : List BegunCommit) → begun_at_gate s SyncsOpen true (c ∷ before) ≡ record c { is_sealed = true } ∷ before
  pub fails : (s : KeeperState) (before : List BegunCommit) → begun_at_gate s SyncsOpen false before ≡ before
  pub writes : (s : KeeperState) (done : Bool) (before : List BegunCommit) → begun_at_gate s WritesBody done before ≡ before
  pub finishes : (c : BegunCommit) (before : List BegunCommit) (full : Bool) → begun_at_end (Ended (Turned true full)) (c ∷ before) ≡ record c { is_finished = true } ∷ before
  pub goes_on : (before : List BegunCommit) → begun_at_end Finishes before ≡ before

-- The opening's commit is a full one where its number is its checkpoint's, and a log commit where that is an earlier one's, whose triples aren't its own.
-- It ends at the tail.
pub record OpenedWith : Type 0 where
  pub full : (last : Finality) (used : Checkpoint) → kind_opened (record last { number = record { 0 = 4 }; checkpoint = record used { number = record { 0 = 4 } } }) ≡ Full
  pub log : (last : Finality) (used : Checkpoint) → kind_opened (record last { number = record { 0 = 4 }; checkpoint = record used { number = record { 0 = 3 } } }) ≡ Log
  pub full_triples : triples_opened Full (7 ∷ 9 ∷ []) ≡ 7 ∷ 9 ∷ []
  pub log_triples : triples_opened Log (7 ∷ 9 ∷ []) ≡ []
  pub end : (n : Now) (opened : List ℕ) → (commit_opened (record n { words = words_in_prepare }) opened).parts.end ≡ record { 0 = 40 }

-- What each session had accepted is asked where a commit may begin; a call that is refused for the one in hand leaves it.
pub record AskedChanges : Type 0 where
  pub asks : (n : Now) (before : ℕ → ℕ) → asked_where (record n { keeper = record n.keeper { step = Ended (Turned true false) } }) None before ≡ serial_at (record n { keeper = record n.keeper { step = Ended (Turned true false) } })
  pub in_hand : (n : Now) (c : Commit) (before : ℕ → ℕ) → asked_where n (Some c) before ≡ before
  pub turns : (n : Now) (before : ℕ → ℕ) → asked_by n Turns before ≡ before

-- Session 1 asks, a commit is finished, and the session is told; it asks once more, and is told again. Session 0 is told that it sleeps.
abbrev pub told_trace : Finality → List Traced
told_trace last =
    record { its = Answered 0 (record { its = Slept; finished = [] }); effects = 0 }
    ∷ record { its = Answered 1 (record { its = Durable (record { 0 = 7 }); finished = [] }); effects = 0 }
    ∷ record { its = Called 1 call.Durable; effects = 0 }
    ∷ record { its = Answered 1 (record { its = Durable (record { 0 = 6 }); finished = [] }); effects = 0 }
    ∷ record { its = KeeperAnswered (Turned true false) last; effects = 0 }
    ∷ record { its = Called 0 call.Sleep; effects = 0 }
    ∷ record { its = Called 1 call.Durable; effects = 0 }
    ∷ record { its = TurnAsked; effects = 0 }
    ∷ []

pub record ToldChanges : Type 0 where
  pub told : (last : Finality) → points_told 1 (told_trace last) ≡ record { point = 7; finished = 1 } ∷ record { point = 6; finished = 0 } ∷ []
  pub others : (last : Finality) → points_told 0 (told_trace last) ≡ []
