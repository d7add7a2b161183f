-- What each part of a commit begins with, and what is known of the commit in hand by what its parts have come to.
use Rattle.std.specs.Prelude.{◌≡◌, ⊤, ◌⊎◌, ℕ, Bool, false, true, List, [], ◌∷◌, Option, Some, None}
use Rattle.fkv_base.specs.declared.numbers.Addr.{Addr}
use Rattle.fkv_base.specs.declared.numbers.Serial.{Serial}
use Rattle.fkv_base.specs.declared.numbers.Version.{Version}
use Rattle.fkv_base.specs.declared.phases.Phase.{Phase}
use Rattle.fkv_base.specs.declared.phases.Phase.TheVariants as phase
use Rattle.fkv_base.specs.declared.shapes.Shape.{Shape}
use Rattle.fkv_words.specs.declared.phase_words.PhaseSaid.TheVariants.{Says}
use Rattle.fkv_words.specs.PhaseWords.{phase_said}
use Rattle.fkv_plane.specs.declared.asks.Ask.{Ask}
use Rattle.fkv_plane.specs.declared.asks.Ask.TheVariants.{Done}
use Rattle.fkv_plane.specs.declared.places.Places.{Places}
use Rattle.fkv_commit.specs.declared.commits.Commit.{Commit}
use Rattle.fkv_base.specs.declared.commits.CommitKind.{CommitKind}
use Rattle.fkv_commit.specs.declared.entering.EnterAnswer.{EnterAnswer}
use Rattle.fkv_commit.specs.declared.entering.EnterAnswer.TheVariants as enter
use Rattle.fkv_commit.specs.declared.seeking.SeekAnswer.{SeekAnswer}
use Rattle.fkv_commit.specs.declared.seeking.SeekAnswer.TheVariants as seek
use Rattle.fkv_commit.specs.declared.starting.StartAnswer.{StartAnswer}
use Rattle.fkv_commit.specs.declared.starting.StartAnswer.TheVariants as start
use Rattle.fkv_commit.specs.declared.waiting.WaitAnswer.TheVariants as wait
use Rattle.fkv_commit.specs.Entering.{enter_begun, enter_ask, enter_next}
use Rattle.fkv_commit.specs.Finishing.{finish_begun}
use Rattle.fkv_commit.specs.Seeking.{SeekState, seek_begun, seek_ask, seek_next}
use Rattle.fkv_commit.specs.Starting.{start_begun, start_ask, start_next}
use Rattle.fkv_commit.specs.Waiting.{wait_begun, wait_ask, wait_next}
use Rattle.fkv_manifest.specs.declared.answers.WriteAnswer.TheVariants as write
use Rattle.fkv_manifest.specs.Committing.{commit_next, commit_answer}
use Rattle.fkv_keeper.specs.declared.keepers.Keeping.{Keeping}
use Rattle.fkv_keeper.specs.declared.keepers.Keeping.TheVariants.{Starts, LoadsPhase, Enters, Seeks, Waits, Writes, Finishes}
use Rattle.fkv_keeper.specs.Keeping.{asked_for, KeeperState}
use Rattle.fkv_keeper.specs.KeeperRun.{KeeperEvent, BeginsCommit, Replies, Calls, keeper_run}

-- The phase word was just loaded, and it says this phase.
pub record SaysPhase (its : Phase) (s : KeeperState) (event : KeeperEvent) : Type 0 where
  pub loads : s.step ≡ LoadsPhase
  pub reply : ℕ
  pub granted : Bool
  pub loaded : event ≡ Replies reply granted
  pub version : Version
  pub says : phase_said reply ≡ Says its version

-- A commit is about to start: one of the kind that was asked for, with as many lost ranges as are in hand.
pub record IsStartBegun (s : KeeperState) (event : KeeperEvent) (a : KeeperState) : Type 0 where
  pub kind : CommitKind
  pub asked : event ≡ BeginsCommit kind
  pub start : a.start ≡ start_begun s.start (asked_for s kind)

-- Wait-pending is about to be deferred, in in-progress, for the commit in hand, for which it isn't deferred yet.
pub record IsEnterBegun (s : KeeperState) (event : KeeperEvent) (a : KeeperState) : Type 0 where
  pub phase : SaysPhase phase.InProgress s event
  pub commit : Commit
  pub in_hand : s.commit ≡ Some commit
  pub not_entered : s.has_entered ≡ false
  pub enter : a.enter ≡ enter_begun s.enter commit.number

-- The points of the commit in hand, which is copied, are about to be sought, in wait-pending. Their floors are the points of the newest
-- finished commit. None count as taken any more.
pub record IsSeekBegun (s : KeeperState) (event : KeeperEvent) (a : KeeperState) : Type 0 where
  pub phase : SaysPhase phase.WaitPending s event
  pub commit : Commit
  pub in_hand : s.commit ≡ Some commit
  pub copied : commit.is_copied ≡ true
  pub seek : a.seek ≡ seek_begun s.seek commit.number s.last.points
  pub anew : a.has_points ≡ false

-- The flush up to the end of the commit in hand is about to be waited for, in wait-flush, and its points were taken.
pub record IsWaitBegun (s : KeeperState) (event : KeeperEvent) (a : KeeperState) : Type 0 where
  pub phase : SaysPhase phase.WaitFlush s event
  pub commit : Commit
  pub in_hand : s.commit ≡ Some commit
  pub taken : s.has_points ≡ true
  pub wait : a.wait ≡ wait_begun commit.end commit.epoch

-- The writes are about to begin: the wait has just told that the log is flushed.
pub record IsWriteBegun (s : KeeperState) (event : KeeperEvent) : Type 0 where
  pub waits : s.step ≡ Waits
  pub reply : ℕ
  pub granted : Bool
  pub replied : event ≡ Replies reply granted
  pub flushed : wait_ask (wait_next s.wait reply) ≡ Done wait.Flushed

-- The writes that rest are about to go on, as they were.
pub record IsWriteTakenUp (s : KeeperState) (event : KeeperEvent) (a : KeeperState) : Type 0 where
  pub loads : s.step ≡ LoadsPhase
  pub rests : s.rests ≡ true
  pub reply : ℕ
  pub let_on : event ≡ Replies reply true
  pub awake : a.rests ≡ false
  pub same : a ≡ record s { rests = false; is_granted = true; step = Writes }

-- The commit in hand is about to be finished: a call of its writes has succeeded, and they are written.
pub record IsFinishBegun (s : KeeperState) (event : KeeperEvent) (a : KeeperState) : Type 0 where
  pub writes : s.step ≡ Writes
  pub bytes : List ℕ
  pub called : event ≡ Calls true bytes
  pub written : commit_answer (commit_next s.writes true) ≡ write.Written
  pub commit : Commit
  pub in_hand : s.commit ≡ Some commit
  pub finish : a.finish ≡ finish_begun s.finish commit.number

-- a part is under way, or it begins as it should
abbrev pub IsPartBegun : Keeping → KeeperState → KeeperEvent → KeeperState → Type 0
IsPartBegun Starts s event a = (s.step ≡ Starts) ⊎ IsStartBegun s event a
IsPartBegun Enters s event a = (s.step ≡ Enters) ⊎ IsEnterBegun s event a
IsPartBegun Seeks s event a = (s.step ≡ Seeks) ⊎ IsSeekBegun s event a
IsPartBegun Waits s event a = (s.step ≡ Waits) ⊎ IsWaitBegun s event a
IsPartBegun Writes s event a = (s.step ≡ Writes) ⊎ (IsWriteBegun s event ⊎ IsWriteTakenUp s event a)
IsPartBegun Finishes s event a = (s.step ≡ Finishes) ⊎ IsFinishBegun s event a
IsPartBegun step s event a = ⊤

-- nothing is done yet for a commit that has just begun
abbrev pub undone_by : Ask StartAnswer → Bool → Bool
undone_by (Done (start.Begun number first)) was = false
undone_by ask was = was

-- wait-pending is deferred once it was entered
abbrev pub entered_by : Ask EnterAnswer → Bool → Bool
entered_by (Done enter.Entered) was = true
entered_by ask was = was

abbrev pub taken_by : Ask SeekAnswer → Bool → Bool
taken_by (Done (seek.Taken end epoch)) was = true
taken_by ask was = was

-- whether wait-pending is deferred for the commit in hand, by what its parts come to with this event
abbrev pub entered_after : KeeperEvent → Keeping → KeeperState → Bool
entered_after (Replies reply granted) Starts s = undone_by (start_ask (start_next s.start reply)) s.has_entered
entered_after (Replies reply granted) Enters s = entered_by (enter_ask (enter_next s.enter reply)) s.has_entered
entered_after event step s = s.has_entered

-- and whether its points are taken
abbrev pub taken_after : KeeperEvent → Keeping → KeeperState → Bool
taken_after (Replies reply granted) Starts s = undone_by (start_ask (start_next s.start reply)) s.has_points
taken_after (Replies reply granted) Seeks s = taken_by (seek_ask (seek_next s.seek reply)) s.has_points
taken_after event step s = s.has_points

-- the end of a commit, and the epoch with which it is safe
pub record SafeEnd : Type 0 where
  pub end : Addr
  pub epoch : ℕ

abbrev pub end_of : Commit → SafeEnd
end_of c = record { end = c.end; epoch = c.epoch }

-- a commit that has just begun has no end yet
abbrev pub end_begun : Ask StartAnswer → SafeEnd → SafeEnd
end_begun (Done (start.Begun number first)) was = record { end = record { 0 = 0 }; epoch = 0 }
end_begun ask was = was

-- and its end is the one that was told with its points
abbrev pub end_taken : Ask SeekAnswer → SafeEnd → SafeEnd
end_taken (Done (seek.Taken end epoch)) was = record { end = end; epoch = epoch }
end_taken ask was = was

abbrev pub end_after : KeeperEvent → Keeping → KeeperState → SafeEnd → SafeEnd
end_after (Replies reply granted) Starts s was = end_begun (start_ask (start_next s.start reply)) was
end_after (Replies reply granted) Seeks s was = end_taken (seek_ask (seek_next s.seek reply)) was
end_after event step s was = was

-- the search for the points goes on by its replies, and by nothing else
abbrev pub seek_after : KeeperEvent → Keeping → SeekState → SeekState
seek_after (Replies reply granted) Seeks m = seek_next m reply
seek_after event step m = m

-- What is known of the commit in hand changes only by what its parts come to, but that a search for points begins anew.
pub record KnowsParts (event : KeeperEvent) (step : Keeping) (s a : KeeperState) : Type 0 where
  pub entered : a.has_entered ≡ entered_after event step s
  pub taken : (step ≡ LoadsPhase → a.step ≡ Seeks → ⊥) → a.has_points ≡ taken_after event step s
  pub end : (was is : Commit) → s.commit ≡ Some was → a.commit ≡ Some is → end_of is ≡ end_after event step s (end_of was)
  pub seek : (step ≡ LoadsPhase → a.step ≡ Seeks → ⊥) → a.seek ≡ seek_after event step s.seek

-- what a search for points has come to: the number of the commit for which it was, its points, and the end and epoch that it has told
pub record Found : Type 0 where
  pub number : Version
  pub points : List Serial
  pub end : SafeEnd

abbrev pub found_by : Ask SeekAnswer → SeekState → Option Found
found_by (Done (seek.Taken end epoch)) m = Some (record { number = m.number; points = m.points; end = record { end = end; epoch = epoch } })
found_by ask m = None

-- by the search that has begun last: nothing while it is under way, nor where it has taken no points
abbrev pub found_after : KeeperEvent → Keeping → Keeping → SeekState → Option Found → Option Found
found_after (Replies reply granted) LoadsPhase Seeks m was = None
found_after (Replies reply granted) Seeks after m was = found_by (seek_ask m) m
found_after event step after m was = was

unfoldable pub points_found : Shape → Places → KeeperState → List KeeperEvent → Option Found
points_found shape p opening [] = None
points_found shape p opening (event ∷ before) =
    found_after event (keeper_run shape p opening before).step (keeper_run shape p opening (event ∷ before)).step (keeper_run shape p opening (event ∷ before)).seek (points_found shape p opening before)

-- the points in hand, as those of this commit, with its end and epoch
abbrev pub found_of : KeeperState → Commit → Found
found_of s c = record { number = c.number; points = s.seek.points; end = end_of c }

-- The search is as it was at its end, where it has taken points.
pub record IsAsFound (f : Found) (s : KeeperState) : Type 0 where
  pub points : s.seek.points ≡ f.points
  pub told : seek_ask s.seek ≡ Done (seek.Taken f.end.end f.end.epoch)

-- What the search has found that has begun last, it has still. While the points of the commit in hand count as taken that search has found
-- them, for its number, and has told its end and epoch.
pub record HasFound (found : Option Found) (s : KeeperState) : Type 0 where
  pub still : (f : Found) → found ≡ Some f → IsAsFound f s
  pub taken : (c : Commit) → s.commit ≡ Some c → s.has_points ≡ true → found ≡ Some (found_of s c)
