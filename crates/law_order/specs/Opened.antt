-- What the laws of phases, versions, cuts, copies and links say of the lives of opened stores.
use Rattle.std.specs.List.{AllByRecursion}
use Rattle.std.specs.Prelude.{◌≡◌, ◌≢◌, ◌⊎◌, ◌<◌, ◌≤◌, ◌+◌, ◌-◌, ◌++◌, ℕ, List, Some, false, length, true}
use Rattle.fkv_base.specs.declared.commits.CommitKind.TheVariants.{Full}
use Rattle.law_commit.specs.Below.fkv_checkpoint.Fuzzy.{CopiedHaveStood, HomesOnce, NoneLeftOut, begun_at}
use Rattle.law_commit.specs.Below.fkv_checkpoint.Triples.{all_bytes}
use Rattle.law_commit.specs.Below.fkv_checkpoint.CopyStep.TheVariants.{Ended}
use Rattle.law_commit.specs.Below.fkv_commit.Cuts.{serial_said}
use Rattle.law_commit.specs.Below.fkv_commit.Commit.{Commit}
use Rattle.law_opening.specs.Below.fkv_core.Openings.{IsOpeningWorld, beginning}
use Rattle.fkv_epoch.specs.EpochWorld.{safe_of}
use Rattle.law_opening.specs.Below.fkv_filling.OpeningIndex.{opening_lists}
use Rattle.law_opening.specs.Below.fkv_opening.Opened.{IsStoreOf}
use Rattle.law_opening.specs.Below.fkv_opening.TheOpened.{Opened}
use Rattle.fkv_plane.specs.Places.{session_place}
use Rattle.fkv_plane.specs.declared.places.SessionWord.TheVariants.{Durable}
use Rattle.law_commit.specs.Below.fkv_session.InOrder.{AreToldInOrder}
use Rattle.law_commit.specs.Below.fkv_session.Sessions.{SessionState}
use Rattle.law_commit.specs.Below.fkv_session.Words.{IsCutAsleep, IsMark}
use Rattle.law_commit.specs.Below.fkv_session.CatchCause.TheVariants.{Wakes}
use Rattle.law_commit.specs.Below.fkv_session.Sitting.TheVariants.{CatchesUp}
use Rattle.law_commit.specs.Below.fkv_world.Opened.{HasBecome}
use Rattle.law_commit.specs.Below.fkv_world.OwnEvents.{keeper_events, session_events}
use Rattle.law_commit.specs.Below.fkv_world.Runs.{World, run}
use Rattle.law_commit.specs.Below.fkv_world.World.{Event, Now, seat_at}
use Rattle.law_commit.specs.Accepted.{HasRisingVersion, NeverFall, point, versions_accepted}
use Rattle.law_commit.specs.LastSerials.{serial_at}
use Rattle.law_commit.specs.BegunCommits.{BegunCommit, life_begun}
use Rattle.law_commit.specs.Copied.Covers.{CoverHeads, HasBegunFor, HasStoodSince, LeadIntoChains, MayBeCopied, before_copy}
use Rattle.law_commit.specs.Copied.Runs.{IsCopyBy, KeepsCopy, WritesCopy, copy_events, opening_copy, seen_by_copy}
use Rattle.law_commit.specs.Cuts.{IsCutPlace, durable_at, life_leaving, serial_before, stored_by_keeper, stored_by_session, word_now}
use Rattle.law_commit.specs.Decided.Ended.{span_in, span_of, span_opened}
use Rattle.law_commit.specs.Linked.{HaveMetEmpty, MeetEmpty}
use Rattle.law_commit.specs.PhaseVersions.{phase_version}
use Rattle.law_commit.specs.Phases.Staged.{HasStage}
use Rattle.law_commit.specs.Phases.Stamped.{SessionStamped, is_live}
use Rattle.law_commit.specs.Views.{View, sight_of}
use Rattle.law_commit.specs.Below.law_world.Guarded.Shows.{seen_by_guard}
use Rattle.law_log.specs.Ghosts.{Ghosts}
use Rattle.law_log.specs.Trace.{IsIn}
use Rattle.law_opening.specs.Log.OpeningLog.{opening_ghosts}
use Rattle.law_commit.specs.Below.law_refine.Index.Shows.{seen_by_index}
use Rattle.law_commit.specs.Below.law_refine.Events.GhostEvents.{life_ghosts}
use Rattle.law_commit.specs.Below.law_world.Keeper.Lives.{life_writing, replies_copied}

-- ---- of a session
-- so it is of each session in each life of an opened store, as it began and as it is now
abbrev pub OfItsSessions : (World → List Event → ℕ → SessionState → SessionState → Type 0) → Type 0
OfItsSessions P =
    (bytes : List ℕ) (o : Opened) (n : Now) (events : List Event) (session : ℕ) (first its : SessionState) → IsStoreOf bytes o → IsOpeningWorld o n → HasBecome (beginning n bytes) events session first its
    → P (beginning n bytes) events session first its

-- its cut words and its owing word are what it has stored there last
abbrev pub HasItsMarks : World → List Event → ℕ → SessionState → SessionState → Type 0
HasItsMarks opening events session first its = (place : ℕ) → IsMark session place → word_now opening events place ≡ stored_by_session opening session first events place

-- its durable word is what the keeper has stored there last
abbrev pub HasItsDurable : World → List Event → ℕ → SessionState → SessionState → Type 0
HasItsDurable opening events session first its = word_now opening events (session_place session Durable) ≡ stored_by_keeper opening events (session_place session Durable)

-- and shows a point of the newest finished commit, or of the one whose words are stored
abbrev pub ShowsItsPoint : World → List Event → ℕ → SessionState → SessionState → Type 0
ShowsItsPoint opening events session first its = word_now opening events (session_place session Durable) ≡ durable_at (run opening events).now.keeper (run opening events).now.keeper.step session

-- its marks tell where it has left the version before, but for what it is about to store
abbrev pub TellsItsLeaving : World → List Event → ℕ → SessionState → SessionState → Type 0
TellsItsLeaving opening events session first its = AreToldInOrder (seat_at opening.now session) its (λ place. word_now opening events place) (life_leaving opening session first events its)

-- it has left that at its point
abbrev pub LeavesAtItsPoint : World → List Event → ℕ → SessionState → SessionState → Type 0
LeavesAtItsPoint opening events session first its = serial_before (seat_at opening.now session) first (session_events opening session events) ≡ point opening events session (its.seen.version.0 - 1)

-- if it sleeps its cut word shows its serial, but in a wake
abbrev pub ShowsItsCutAsleep : World → List Event → ℕ → SessionState → SessionState → Type 0
ShowsItsCutAsleep opening events session first its = its.is_awake ≡ false → its.step ≢ CatchesUp Wakes → IsCutAsleep (seat_at opening.now session) its (λ place. word_now opening events place)

-- neither of its cut words shows a serial above its own
abbrev pub CutsNoLater : World → List Event → ℕ → SessionState → SessionState → Type 0
CutsNoLater opening events session first its = (place : ℕ) → IsCutPlace session place → serial_said (word_now opening events place) ≤ its.serial

-- ---- of the phases
-- so it is of each life of an opened store
abbrev pub OfItsLives : (World → List Event → Type 0) → Type 0
OfItsLives P =
    (bytes : List ℕ) (o : Opened) (n : Now) (events : List Event) → IsStoreOf bytes o → IsOpeningWorld o n → P (beginning n bytes) events

-- the store is at a stage of the commit that is next
abbrev pub IsAtAStage : World → List Event → Type 0
IsAtAStage opening events = HasStage (run opening events).now

-- the stamps of a session's views are the guard's loads of the phase
abbrev pub StampsItsLoads : Type 0
StampsItsLoads =
    (bytes : List ℕ) (o : Opened) (n : Now) (events : List Event) (session : ℕ) (first its : SessionState) → IsStoreOf bytes o → IsOpeningWorld o n → HasBecome (beginning n bytes) events session first its
    → SessionStamped (sight_of (beginning n bytes) events session) ((seen_by_guard (beginning n bytes) o.tail.0 events).past.loads session) ((seen_by_guard (beginning n bytes) o.tail.0 events).past.in_force session) its

-- the view by which a live session goes was loaded after each safe epoch was raised
abbrev pub GoesAboveSafe : World → List Event → ℕ → SessionState → SessionState → Type 0
GoesAboveSafe opening events session first its = (epoch : ℕ) → is_live its ≡ true → epoch ≤ safe_of (run opening events).now.words → epoch < (sight_of opening events session).view.stamp

-- and so was the one that is coming
abbrev pub ComesAboveSafe : World → List Event → ℕ → SessionState → SessionState → Type 0
ComesAboveSafe opening events session first its = (epoch : ℕ) (view : View) → (sight_of opening events session).coming ≡ Some view → epoch ≤ safe_of (run opening events).now.words → epoch < view.stamp

-- ---- of versions and serials
-- its serial counts its updates
abbrev pub CountsItsUpdates : World → List Event → ℕ → SessionState → SessionState → Type 0
CountsItsUpdates opening events session first its = its.serial ≡ serial_at opening.now session + length (versions_accepted opening events session)

-- their versions never fall, and none is above its own
abbrev pub UpdatesInOrder : World → List Event → ℕ → SessionState → SessionState → Type 0
UpdatesInOrder opening events session first its = NeverFall its.seen.version.0 (versions_accepted opening events session)

-- its serial is its point of each version from its own on
abbrev pub HasItsPoint : World → List Event → ℕ → SessionState → SessionState → Type 0
HasItsPoint opening events session first its = (version : ℕ) → its.seen.version.0 ≤ version → point opening events session version ≡ its.serial

-- its own never falls
abbrev pub GoesUp : World → List Event → ℕ → SessionState → SessionState → Type 0
GoesUp opening events session first its = HasRisingVersion (seat_at opening.now session) first (session_events opening session events)

-- and is never above that of the phase word
abbrev pub IsNotAhead : World → List Event → ℕ → SessionState → SessionState → Type 0
IsNotAhead opening events session first its = its.seen.version.0 ≤ phase_version (run opening events).now.words

-- ---- of the copies of the index, and of searches
-- so it is in each such life, with the overflow buckets and the log of its image
abbrev pub WithItsIndex : (World → (ℕ → List ℕ) → Ghosts → List Event → Type 0) → Type 0
WithItsIndex P =
    (bytes : List ℕ) (o : Opened) (n : Now) (events : List Event) → IsStoreOf bytes o → IsOpeningWorld o n → P (beginning n bytes) (opening_lists o.entries.items) (opening_ghosts bytes o) events

-- the copy that the keeper has begun last goes over the index of the life
abbrev pub CopiesItsIndex : World → (ℕ → List ℕ) → Ghosts → List Event → Type 0
CopiesItsIndex opening lists ghosts events = (seen_by_copy opening lists events).index ≡ seen_by_index opening lists events

-- it began with the index as that was then
abbrev pub BeginsWithItsIndex : World → (ℕ → List ℕ) → Ghosts → List Event → Type 0
BeginsWithItsIndex opening lists ghosts events = begun_at (opening_copy opening lists) (copy_events opening events) ≡ seen_by_index opening lists (before_copy opening events)

-- and has come as far as the keeper's replies lead
abbrev pub CopiesByReplies : World → (ℕ → List ℕ) → Ghosts → List Event → Type 0
CopiesByReplies opening lists ghosts events = IsCopyBy opening.now.places (replies_copied opening (keeper_events opening events)) (seen_by_copy opening lists events)

-- it is finished and in hand, as long as the device works and the writes of a full commit that counts as copied have not begun
abbrev pub KeepsItsCopy : World → (ℕ → List ℕ) → Ghosts → List Event → Type 0
KeepsItsCopy opening lists ghosts events = KeepsCopy opening.now.places (run opening events).now.keeper (seen_by_copy opening lists events)

-- then its triples are what is written
abbrev pub WritesItsCopy : World → (ℕ → List ℕ) → Ghosts → List Event → Type 0
WritesItsCopy opening lists ghosts events = WritesCopy (run opening events).now.keeper (life_writing opening events) (seen_by_copy opening lists events)

-- each entry that was copied has stood at a step of its copy, and so in the index of the life since the copy began
abbrev pub CopiesWhatStood : World → (ℕ → List ℕ) → Ghosts → List Event → Type 0
CopiesWhatStood opening lists ghosts events = CopiedHaveStood (opening_copy opening lists) (copy_events opening events) × AllByRecursion (HasStoodSince opening lists events) (seen_by_copy opening lists events).triples

-- no home was copied twice
abbrev pub CopiesHomesOnce : World → (ℕ → List ℕ) → Ghosts → List Event → Type 0
CopiesHomesOnce opening lists ghosts events = HomesOnce (opening_copy opening lists) (copy_events opening events)

-- none is left out that had an entry as the copy began
abbrev pub LeavesNoneOut : World → (ℕ → List ℕ) → Ghosts → List Event → Type 0
LeavesNoneOut opening lists ghosts events = NoneLeftOut (opening_copy opening lists) (copy_events opening events)

-- its triples lead into the chains of the log
abbrev pub LeadsIntoChains : World → (ℕ → List ℕ) → Ghosts → List Event → Type 0
LeadsIntoChains opening lists ghosts events = LeadIntoChains (seen_by_copy opening lists events).triples (life_ghosts opening ghosts events).log

-- and cover them as they were when it began, if it is finished
abbrev pub CoversItsChains : World → (ℕ → List ℕ) → Ghosts → List Event → Type 0
CoversItsChains opening lists ghosts events =
    (seen_by_copy opening lists events).copying.step ≡ Ended → CoverHeads opening.now.places (seen_by_copy opening lists events).triples (life_ghosts opening ghosts (before_copy opening events)).log

-- the copy of a full commit in hand began while it was in hand
abbrev pub BeginsItsCopy : World → (ℕ → List ℕ) → Ghosts → List Event → Type 0
BeginsItsCopy opening lists ghosts events = HasBegunFor opening events

-- A full commit has written the copy that the keeper had begun last at a moment. It was finished then, with the commit in hand, for which it had begun.
pub record HasWrittenCopy (opening : World) (lists : ℕ → List ℕ) (events : List Event) (c : BegunCommit) : Type 0 where
  pub moment : List Event
  pub later : List Event
  pub split : events ≡ later ++ moment
  pub commit : Commit
  pub in_hand : (run opening moment).now.keeper.commit ≡ Some commit
  pub its : span_of c ≡ span_in commit c.parts.end c.parts.triples
  pub begun : MayBeCopied (run opening (before_copy opening moment)).now commit
  pub finished : (let copy = seen_by_copy opening lists moment in copy.copying.step ≡ Ended)
  pub written : (let copy = seen_by_copy opening lists moment in c.parts.triples ≡ all_bytes copy.triples)

-- so has each full commit that has begun, but the opening's
abbrev pub CommitsWriteCopies : World → (ℕ → List ℕ) → Ghosts → List Event → Type 0
CommitsWriteCopies opening lists ghosts events = (c : BegunCommit) → IsIn c (life_begun opening events) → c.parts.kind ≡ Full → HasWrittenCopy opening lists events c ⊎ (span_of c ≡ span_opened opening)

-- a search that loads an eighth word which leads nowhere meets an empty chain
abbrev pub LinksWhereEmpty : World → (ℕ → List ℕ) → Ghosts → List Event → Type 0
LinksWhereEmpty opening lists ghosts events = MeetEmpty (run opening events).now (life_ghosts opening ghosts events).log

-- and one that takes or links an overflow bucket has met one
abbrev pub HasMetEmpty : World → (ℕ → List ℕ) → Ghosts → List Event → Type 0
HasMetEmpty opening lists ghosts events = HaveMetEmpty opening ghosts events
