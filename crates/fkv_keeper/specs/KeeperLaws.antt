-- What holds of a keeper at every moment of a run.
use Rattle.std.specs.Prelude.{◌≡◌, ℕ, ⊤, Bool, true, false, Option, Some, None}
use Rattle.fkv_base.specs.declared.faults.Fault.TheVariants as fault
use Rattle.fkv_base.specs.Limits.{is_specified}
use Rattle.fkv_base.specs.declared.shapes.Shape.{Shape}
use Rattle.fkv_record.specs.Places.{area_place}
use Rattle.fkv_plane.specs.declared.asks.Ask.TheVariants.{Done}
use Rattle.fkv_plane.specs.declared.places.Places.{Places}
use Rattle.fkv_base.specs.declared.phases.Phase.TheVariants as phase
use Rattle.fkv_words.specs.declared.phase_words.PhaseSaid.TheVariants.{Says}
use Rattle.fkv_words.specs.PhaseWords.{phase_said}
use Rattle.fkv_checkpoint.specs.Copying.{copy_begun}
use Rattle.fkv_commit.specs.declared.commits.Commit.{Commit}
use Rattle.fkv_base.specs.declared.commits.CommitKind.{CommitKind}
use Rattle.fkv_manifest.specs.declared.answers.WriteAnswer.TheVariants as write
use Rattle.fkv_maintain.specs.Parts.{IsServing}
use Rattle.fkv_manifest.specs.Committing.{CommitWriter, commit_start, commit_answer, commit_call}
use Rattle.fkv_manifest.specs.Made.{commit_run}
use Rattle.fkv_keeper.specs.declared.answers.KeeperTold.{KeeperTold}
use Rattle.fkv_keeper.specs.declared.answers.KeeperTold.TheVariants.{Turned, TurnRefused, CommitRefused}
use Rattle.fkv_keeper.specs.declared.keepers.Keeping.{Keeping}
use Rattle.fkv_keeper.specs.declared.keepers.Keeping.TheVariants.{Ended, Maintains, LoadsPhase, Copies, Finishes}
use Rattle.fkv_base.specs.declared.numbers.Version.{Version}
use Rattle.fkv_keeper.specs.LastCommits.{area_number}
use Rattle.fkv_keeper.specs.Keeping.{KeeperState, is_sync, is_resting, is_copy_resting, gate_writes_of, ended, turn_asked, commit_asked, keeper_ask, keeper_next}
use Rattle.fkv_keeper.specs.KeeperRun.{KeeperEvent, Writing, keeper_happens}

-- a refusal of a turn, or of a commit
abbrev pub IsRefusal : KeeperTold → Type 0
IsRefusal (TurnRefused why) = ⊤
IsRefusal (CommitRefused why) = ⊤
IsRefusal told = ⊥

-- The last call was refused, nothing is asked for any more, and each turn and each commit that is begun is refused.
pub record IsBrokenForGood (shape : Shape) (p : Places) (s : KeeperState) : Type 0 where
  pub told : KeeperTold
  pub refused : IsRefusal told
  pub asks_nothing : keeper_ask shape p s ≡ Done told
  pub no_turn : keeper_ask shape p (turn_asked s) ≡ Done (TurnRefused fault.Broken)
  pub no_commit : (kind : CommitKind) → keeper_ask shape p (commit_asked s kind) ≡ Done (CommitRefused fault.Broken)

-- These are the writes of the commit, with the checkpoint that it uses and the triples that it writes, as they begin.
pub record AreWritesOfCommit (shape : Shape) (s : KeeperState) (c : Commit) (first : CommitWriter) : Type 0 where
  pub area : first.area ≡ area_place shape (area_number s.used.area)
  pub step : first.step ≡ commit_start first.triples
  pub gate : first.gate ≡ gate_writes_of shape s c s.used

-- All writes of the commit in hand were made, and each call of the device since they began has succeeded: the last sync has answered.
pub record IsWritten (shape : Shape) (s : KeeperState) (w : Writing) : Type 0 where
  pub commit : Commit
  pub in_hand : s.commit ≡ Some commit
  pub writes : AreWritesOfCommit shape s commit w.first
  pub answered : commit_answer (commit_run w.first w.answers) ≡ write.Written

-- the steps at which writes rest: a turn is over that has finished nothing, a commit was refused, or a turn serves
abbrev pub MayRest : Keeping → Type 0
MayRest (Ended (Turned false full)) = ⊤
MayRest (Ended (TurnRefused why)) = ⊤
MayRest (Ended (CommitRefused why)) = ⊤
MayRest (Ended told) = ⊥
MayRest Maintains = ⊤
MayRest LoadsPhase = ⊤
MayRest step = ⊥

-- Writes rest in a living store, before a sync. The device works, a turn serves and does nothing else, and the commit in hand has been written so far.
pub record IsResting (shape : Shape) (s : KeeperState) (w : Writing) : Type 0 where
  pub works : s.is_broken ≡ false
  pub living : is_specified s.start.asked.class ≡ false
  pub rests : MayRest s.step
  pub serves : s.step ≡ Maintains → IsServing s.maintain.step
  pub commit : Commit
  pub in_hand : s.commit ≡ Some commit
  pub writes : AreWritesOfCommit shape s commit w.first
  pub run : s.writes ≡ commit_run w.first w.answers
  pub due : is_sync (commit_call s.writes true) ≡ true

-- Nothing but this has changed: the turn has ended, and memory was refused. A commit is in hand that isn't copied, and no copy rests.
pub record IsMemoryRefused (s after : KeeperState) : Type 0 where
  pub commit : Commit
  pub in_hand : s.commit ≡ Some commit
  pub not_copied : commit.is_copied ≡ false
  pub none_rests : is_copy_resting s.copy ≡ false
  pub same : after ≡ ended (record s { is_granted = false }) (TurnRefused fault.Memory)

-- the number of the commit in hand
abbrev pub number_in_hand : Option Commit → Option Version
number_in_hand None = None
number_in_hand (Some c) = Some c.number

-- A turn that tells a commit as finished has stored the last of its words, and the commit's number is the one that is open.
pub record IsFinishOfBegun (number : Option Version) (s after : KeeperState) : Type 0 where
  pub finishes : s.step ≡ Finishes
  pub its_number : number ≡ Some after.last.number
  pub told : after.has_finished ≡ true

-- no call is in hand, or a turn has not come to its part for the commit
abbrev pub IsBeforePhase : Keeping → Type 0
IsBeforePhase (Ended its) = ⊤
IsBeforePhase Maintains = ⊤
IsBeforePhase step = ⊥

-- A turn keeps the commit up to its part for it. There, where no writes and no flush rest and the commit isn't copied in wait-pending, a copy that rests is taken up as it is,
-- whether or not memory is granted. Where none rests, one begins from its first slot where memory is granted.
pub record CopiesAgain (shape : Shape) (p : Places) (s : KeeperState) : Type 0 where
  pub kept : (event : KeeperEvent) → IsBeforePhase s.step → (keeper_happens shape p s event).commit ≡ s.commit
  pub begins : (c : Commit) (reply : ℕ) (version : Version) → is_resting s ≡ false → s.step ≡ LoadsPhase → s.commit ≡ Some c → c.is_copied ≡ false
      → phase_said reply ≡ Says phase.WaitPending version → is_copy_resting s.copy ≡ false
      → keeper_next shape p s reply true ≡ record s { copy = Some (copy_begun p); is_granted = true; step = Copies }
  pub taken_up : (c : Commit) (reply : ℕ) (version : Version) (granted : Bool) → is_resting s ≡ false → s.step ≡ LoadsPhase → s.commit ≡ Some c → c.is_copied ≡ false
      → phase_said reply ≡ Says phase.WaitPending version → is_copy_resting s.copy ≡ true
      → keeper_next shape p s reply granted ≡ record s { is_granted = true; step = Copies }
