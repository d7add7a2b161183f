-- The law of prefixes: what each image holds that a crash may leave of a life, and what points a commit has.
use Rattle.std.specs.Prelude.{◌≡◌, ⊤, ℕ, ◌+◌, ◌≤◌, true, false, List, [], ◌∷◌, ◌++◌, Some}
use Rattle.fkv_base.specs.declared.faults.Fault.{Fault}
use Rattle.fkv_base.specs.declared.numbers.Serial.{Serial}
use Rattle.law_commit.specs.Below.fkv_commit.Commit.{Commit}
use Rattle.law_opening.specs.Below.fkv_core.Openings.{beginning, newest_commit}
use Rattle.fkv_disk.specs.Calls.{Call, MayLeave}
use Rattle.fkv_map.specs.History.{AreAtMost, IsLegal, IsWhole, content, kept, point_of}
use Rattle.fkv_map.specs.Map.{Map}
use Rattle.fkv_map.specs.declared.history.HistoryEntry.{HistoryEntry}
use Rattle.law_opening.specs.Below.fkv_newest.Newest.{IsNewestOf}
use Rattle.law_opening.specs.Below.fkv_newest.TheNewest.{Newest}
use Rattle.law_opening.specs.Below.fkv_opening.Faults.{IsFaultOf}
use Rattle.law_opening.specs.Below.fkv_opening.Opened.{IsStoreOf}
use Rattle.law_opening.specs.Below.fkv_opening.TheOpened.{Opened}
use Rattle.law_commit.specs.Below.fkv_world.Past.{Traced}
use Rattle.law_commit.specs.Below.fkv_world.Runs.{run}
use Rattle.law_commit.specs.Below.fkv_world.World.{Event, Now}
use Rattle.law_commit.specs.LastSerials.{serial_at}
use Rattle.law_commit.specs.BegunCommits.{AreInTurn, BegunCommit}
use Rattle.law_commit.specs.FinishedCommits.{commits_finished, commits_told, told_of}
use Rattle.law_commit.specs.PrefixPast.{PrefixPast, prefix_past}
use Rattle.law_commit.specs.ToldPoints.{ToldPoint}
use Rattle.law_commit.specs.Below.law_paper.Paper.Forgotten.{AgreeFrom}
use Rattle.law_commit.specs.Below.law_paper.Paper.Named.{HoldsStore}
use Rattle.law_log.specs.Trace.{IsIn, history_of}
use Rattle.law_opening.specs.Lives.Reaching.{ReachesFar}
use Rattle.law_opening.specs.Log.Maps.{opening_map}
use Rattle.law_order.specs.OneHistory.EachLife.{InEachLife, IsLife, Life}
use Rattle.law_order.specs.Rules.InTime.{ReadsInTime}
use Rattle.law_order.specs.Rules.Ordered.{HasLegalHistory, IsGuarded, OrdersItsCalls, ReadsFreshly, RunsActionsOnce, effects_so_far, now_after}

-- ---- a life so far
-- Of a life, `o` is the store with which it begins, and `n` the world that this opens with. `bytes` are those that its file held. `events` are those so far,
-- the newest first.

-- its updates in their order of effect
abbrev pub history_so_far : Now → List ℕ → List Event → List HistoryEntry
history_so_far n bytes events = history_of (effects_so_far n bytes events)

-- its writes and syncs of the device
abbrev pub calls_so_far : Now → List ℕ → List Event → List Call
calls_so_far n bytes events = (run (beginning n bytes) events).past.calls

-- its calls and answers
abbrev pub trace_so_far : Now → List ℕ → List Event → List Traced
trace_so_far n bytes events = (run (beginning n bytes) events).past.trace

-- its commits, and what sessions were told of them
abbrev pub past_so_far : Now → List ℕ → List Event → PrefixPast
past_so_far n bytes events = prefix_past (beginning n bytes) events

-- ---- recovered
-- A commit is current: it has begun, no finished one is newer, and its points are no less than what sessions were told as durable.
pub record IsCurrent (past : PrefixPast) (c : BegunCommit) : Type 0 where
  pub begun : IsIn c past.begun
  pub newest : (d : BegunCommit) → IsIn d past.begun → d.is_finished ≡ true → d.number.0 ≤ c.number.0
  pub durable : (session : ℕ) (told : ToldPoint) → IsIn told (past.told session) → told.point ≤ point_of c.points session

-- the updates of a life so far that these points keep
abbrev pub kept_so_far : Now → List ℕ → List Event → List Serial → List HistoryEntry
kept_so_far n bytes events points = kept (history_so_far n bytes events) points

-- A store is what a commit keeps of a life. It has the commit's number and points. Its map is the one with which the life began, after a replay in order of
-- effect. The replay has just each session's updates up to its point, and is legal with the replies that were given. No point has fallen in the life.
pub record IsKeptOf (o : Opened) (n : Now) (bytes : List ℕ) (events : List Event) (c : BegunCommit) (image : List ℕ) (r : Opened) : Type 0 where
  pub shape : r.shape ≡ o.shape
  pub number : r.number ≡ c.number
  pub points : (session : ℕ) → point_of r.points.items session ≡ point_of c.points session
  pub pairs : opening_map image r ≡ content (opening_map bytes o) (kept_so_far n bytes events r.points.items)
  pub legal : IsLegal (opening_map bytes o) (kept_so_far n bytes events r.points.items)
  pub whole : IsWhole (history_so_far n bytes events) o.points.items r.points.items
  pub risen : AreAtMost o.points.items r.points.items

-- An image names a commit: its newest slot says the commit's number and its points.
pub record NamesCommit (image : List ℕ) (c : BegunCommit) : Type 0 where
  pub newest : Newest
  pub its : IsNewestOf image newest
  pub number : (let n = newest in let s = n.slot in s.number ≡ c.number.0)
  pub points : (let n = newest in let s = n.slot in (session : ℕ) → point_of s.points.serials.items session ≡ point_of c.points session)

-- An image holds a prefix of a life. It names a current commit, has no fault, and holds a store. Any store that it holds is what the commit keeps. So `recover`
-- refuses it for the device or want of memory alone, and `content` answers this map. It reaches as far as the next life asks.
pub record HoldsPrefix (o : Opened) (n : Now) (bytes : List ℕ) (events : List Event) (image : List ℕ) : Type 0 where
  pub commit : BegunCommit
  pub current : IsCurrent (past_so_far n bytes events) commit
  pub named : (let c = commit in NamesCommit image c)
  pub faultless : (fault : Fault) → IsFaultOf image fault → ⊥
  pub store : HoldsStore image
  pub each : (r : Opened) → IsStoreOf image r → IsKeptOf o n bytes events commit image r
  pub reaches : ReachesFar image

-- So may the next life find the bytes: a crash may leave an image that they agree with, but at what lies below the begin of its newest slot. That may have been
-- given back, and may read as anything then.
pub record MayBeFound (bytes : List ℕ) (calls : List Call) (found : List ℕ) : Type 0 where
  pub image : List ℕ
  pub left : MayLeave bytes calls image
  pub agrees : AgreeFrom image found

-- If a life began with an image that reaches far, each image holds a prefix of it that may be found behind a crash.
abbrev pub RecoversPrefix : Opened → Now → List ℕ → List Event → Type 0
RecoversPrefix o n bytes events = ReachesFar bytes → (image : List ℕ) → MayBeFound bytes (calls_so_far n bytes events) image → HoldsPrefix o n bytes events image

-- What is forgotten makes no difference: where an image holds a prefix of a life, so does each that agrees with it but there.
abbrev pub ForgottenHolds : Type 0
ForgottenHolds =
    (o : Opened) (n : Now) (bytes : List ℕ) (events : List Event) (image other : List ℕ) → HoldsPrefix o n bytes events image → AgreeFrom image other → HoldsPrefix o n bytes events other

-- ---- finished
-- The commits that are finished are the opening's and those that the keeper has told as finished. They are so in their order, each with its number and points.
abbrev pub TellsFinished : Opened → Now → List ℕ → List Event → Type 0
TellsFinished o n bytes events = commits_finished (past_so_far n bytes events).begun ≡ commits_told (trace_so_far n bytes events) (told_of (newest_commit o) ∷ [])

-- Each commit has the number after that of the one before, from the opening's on.
abbrev pub HasCommitsInTurn : Opened → Now → List ℕ → List Event → Type 0
HasCommitsInTurn o n bytes events = AreInTurn (past_so_far n bytes events).begun

-- ---- fair
-- A session's point is fair. It is at least the last serial that the session had given as the commit was asked for. It is at most the last that it has given,
-- and no less than its point in the commit that the keeper has as its last one. Of any two commits that have begun, `rising` says the like.
pub record IsFairPoint (asked given before point : ℕ) : Type 0 where
  pub since_asked : asked ≤ point
  pub till_now : point ≤ given
  pub risen : before ≤ point

-- The points of the commit in hand are fair, from the moment at which they are taken.
abbrev pub TakesFairPoints : Now → PrefixPast → Type 0
TakesFairPoints now past = (c : Commit) → now.keeper.commit ≡ Some c → now.keeper.has_points ≡ true
    → (session : ℕ) → IsFairPoint (past.asked session) (serial_at now session) (point_of now.keeper.last.points session) (point_of now.keeper.seek.points session)

-- A commit that has begun is the one in hand, with the points that were taken.
pub record IsInHandAsTaken (now : Now) (c : BegunCommit) : Type 0 where
  pub commit : Commit
  pub in_hand : now.keeper.commit ≡ Some commit
  pub number : (let it = commit in it.number ≡ c.number)
  pub taken : now.keeper.has_points ≡ true
  pub points : c.points ≡ now.keeper.seek.points

-- So is the newest that has begun, as long as it isn't finished.
abbrev pub BeginsWithTaken : Now → List BegunCommit → Type 0
BeginsWithTaken now [] = ⊤
BeginsWithTaken now (c ∷ older) = c.is_finished ≡ false → IsInHandAsTaken now c

-- So it is at each moment of a life. A commit's points never change, so each that has begun has fair points.
abbrev pub HasFairPoints : Opened → Now → List ℕ → List Event → Type 0
HasFairPoints o n bytes events = (later before : List Event) → events ≡ later ++ before
    → TakesFairPoints (now_after n bytes before) (past_so_far n bytes before) × BeginsWithTaken (now_after n bytes before) (past_so_far n bytes before).begun

-- No point of a commit that has begun, or of the opening's, is more than that of a newer one.
abbrev pub HasRisingPoints : Opened → Now → List ℕ → List Event → Type 0
HasRisingPoints o n bytes events =
    (older newer : BegunCommit) → IsIn older (past_so_far n bytes events).begun → IsIn newer (past_so_far n bytes events).begun → older.number.0 ≤ newer.number.0 → AreAtMost older.points newer.points

-- ---- durable
-- A commit has one of so many numbers after the opening's. If numbers are in turn (`in_turn`), these are the commits that were told as finished first.
abbrev pub IsAmongFinished : Opened → ℕ → BegunCommit → Type 0
IsAmongFinished o finished c = c.number.0 ≤ o.number.0 + finished

-- What a session was told as durable is its point in a commit whose open gate is synced. It is no less than its point in each commit that was told as finished
-- before its call.
pub record IsToldDurable (o : Opened) (past : PrefixPast) (session : ℕ) (told : ToldPoint) : Type 0 where
  pub commit : BegunCommit
  pub begun : IsIn commit past.begun
  pub is_sealed : (let c = commit in c.is_sealed ≡ true)
  pub point : (let c = commit in told.point ≡ point_of c.points session)
  pub since : (d : BegunCommit) → IsIn d past.begun → IsAmongFinished o told.finished d → point_of d.points session ≤ told.point

-- So is each answer.
abbrev pub TellsDurable : Opened → Now → List ℕ → List Event → Type 0
TellsDurable o n bytes events = (session : ℕ) (told : ToldPoint) → IsIn told ((past_so_far n bytes events).told session) → IsToldDurable o (past_so_far n bytes events) session told

-- ---- lives that follow one another
-- the map with which a life begins
abbrev pub map_of : Life → Map
map_of its = opening_map its.bytes its.opened

-- and the points
abbrev pub points_of : Life → List Serial
points_of its = its.opened.points.items

-- The first of them begins with an image that reaches far. Each other one begins with an image that may be found behind the life before it.
abbrev pub BeginsBehind : Life → List Life → Type 0
BeginsBehind its [] = ReachesFar its.bytes
BeginsBehind its (last ∷ before) = MayBeFound last.bytes (calls_so_far last.world last.bytes last.events) its.bytes

-- lives that follow one another, the newest first
abbrev pub AreLives : List Life → Type 0
AreLives [] = ⊤
AreLives (its ∷ before) = IsLife its × BeginsBehind its before × AreLives before

-- the first of a life and those before it
abbrev pub first_of : Life → List Life → Life
first_of its [] = its
first_of its (last ∷ before) = first_of last before

-- What the points of a store keep of all lives before it: of what the last of them began with, and of the last one's own updates.
abbrev pub kept_of_all : List Serial → List Life → List HistoryEntry
kept_of_all points [] = []
kept_of_all points (last ∷ before) = kept (kept_of_all (points_of last) before ++ history_so_far last.world last.bytes last.events) points

-- A life begins with all that was kept. Its map is the first life's, after a replay of what is kept of all lives before. The replay is legal with the replies
-- that were given. It has each session's serials above the first life's point, up to the point now, once each, and no others.
pub record BeginsWithKept (its : Life) (before : List Life) : Type 0 where
  pub pairs : map_of its ≡ content (map_of (first_of its before)) (kept_of_all (points_of its) before)
  pub legal : IsLegal (map_of (first_of its before)) (kept_of_all (points_of its) before)
  pub whole : IsWhole (kept_of_all (points_of its) before) (points_of (first_of its before)) (points_of its)

-- So does each of the lives that follow one another.
abbrev pub LivesFollow : Type 0
LivesFollow = (its : Life) (before : List Life) → AreLives (its ∷ before) → BeginsWithKept its before

-- And each begins with an image that reaches far.
abbrev pub LivesReachFar : Type 0
LivesReachFar = (its : Life) (before : List Life) → AreLives (its ∷ before) → ReachesFar its.bytes

-- ---- The law of prefixes, by its thirteen clauses
-- All are of lives with commits, crashes and failing calls of the device. `law_order` shows the first six. `law_finished_is_told` shows `told`,
-- `law_commits_in_turn` `in_turn`, `law_points_are_fair` `fair`, `law_points_keep` `rising`, and `law_durable_is_sealed` `durable`. `law_lives` shows the last, by `recovered`.
pub record PrefixLaw : Type 0 where
  -- the updates of a life take effect in one order, legal with the replies that were given, and reads are answered from it
  pub legal : InEachLife HasLegalHistory
  pub ordered : InEachLife OrdersItsCalls
  pub fresh : InEachLife ReadsFreshly
  pub in_time : InEachLife ReadsInTime
  -- no step asks to write a flushed record or a frame that an epoch protects
  pub guarded : InEachLife IsGuarded
  pub once : InEachLife RunsActionsOnce
  -- what is recovered of any image left is what the newest finished commit keeps, or the one that is being finished
  pub recovered : InEachLife RecoversPrefix
  -- finished commits are those that the keeper has told as finished, with these numbers and points, and numbers are in turn
  pub told : InEachLife TellsFinished
  pub in_turn : InEachLife HasCommitsInTurn
  -- and points are what sessions had given, never fall from a commit to a newer one, and are what sessions were told
  pub fair : InEachLife HasFairPoints
  pub rising : InEachLife HasRisingPoints
  pub durable : InEachLife TellsDurable
  pub lives : LivesFollow
