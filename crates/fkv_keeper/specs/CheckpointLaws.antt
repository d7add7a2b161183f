-- What holds of a keeper's commits at each moment of a run, and of each of its steps.
use Rattle.std.specs.Prelude.{◌≡◌, ◌≢◌, ℕ, ◌<◌, ⊤, ◌⊎◌, Bool, false, true, if◌then◌else◌, List, [], ◌∷◌, length, Option, Some, None}
use Rattle.fkv_base.specs.Limits.{drain_slots}
use Rattle.fkv_base.specs.declared.numbers.Addr.{Addr}
use Rattle.fkv_base.specs.declared.numbers.Version.{Version}
use Rattle.fkv_base.specs.declared.phases.Phase.{Phase}
use Rattle.fkv_base.specs.declared.phases.Phase.TheVariants as phase
use Rattle.fkv_base.specs.declared.shapes.Shape.{Shape}
use Rattle.fkv_words.specs.declared.phase_words.PhaseSaid.{PhaseSaid}
use Rattle.fkv_words.specs.declared.phase_words.PhaseSaid.TheVariants.{Says}
use Rattle.fkv_words.specs.PhaseWords.{phase_said}
use Rattle.fkv_record.specs.Places.{area_place}
use Rattle.fkv_plane.specs.declared.asks.Ask.{Ask}
use Rattle.fkv_plane.specs.declared.actions.Action.TheVariants as act
use Rattle.fkv_plane.specs.declared.asks.Ask.TheVariants.{Load, Store, Swap, Cas, Add, Max, Done}
use Rattle.fkv_plane.specs.declared.places.Places.{Places}
use Rattle.fkv_plane.specs.declared.places.SessionWord.TheVariants as own
use Rattle.fkv_plane.specs.declared.places.SharedWord.TheVariants as one
use Rattle.fkv_plane.specs.Asked.{asked_place}
use Rattle.fkv_plane.specs.Places.{Name, Shared, Drain, Session, shared_place, session_place, place as place_of}
use Rattle.fkv_epoch.specs.declared.claiming.Claiming.TheVariants as claim
use Rattle.fkv_epoch.specs.Claiming.{phase_stored}
use Rattle.fkv_checkpoint.specs.Copied.{copying_after, copied_after}
use Rattle.fkv_checkpoint.specs.Copying.{Copier, copy_begun, copy_ask}
use Rattle.fkv_checkpoint.specs.Triples.{all_bytes}
use Rattle.fkv_commit.specs.declared.commits.Commit.{Commit}
use Rattle.fkv_base.specs.declared.commits.CommitKind.{CommitKind}
use Rattle.fkv_base.specs.declared.commits.CommitKind.TheVariants.{Full, Log}
use Rattle.fkv_commit.specs.declared.starting.StartAnswer.{StartAnswer}
use Rattle.fkv_commit.specs.declared.starting.StartAnswer.TheVariants as start
use Rattle.fkv_commit.specs.Commits.{is_log}
use Rattle.fkv_commit.specs.Starting.{start_ask}
use Rattle.fkv_keeper.specs.declared.answers.KeeperTold.TheVariants.{Turned, Begun}
use Rattle.fkv_keeper.specs.declared.keepers.Keeping.{Keeping}
use Rattle.fkv_keeper.specs.declared.keepers.Keeping.TheVariants.{Ended, Starts, Maintains, LoadsPhase, Enters, Copies, Seeks, Waits, Writes, Finishes, Sweeps}
use Rattle.fkv_maintain.specs.declared.maintaining.Maintaining.TheVariants.{Claims}
use Rattle.fkv_maintain.specs.Maintaining.{MaintainState}
use Rattle.fkv_keeper.specs.LastCommits.{other_area, area_number, gate_opened, slot_written}
use Rattle.fkv_keeper.specs.Keeping.{KeeperState, come_to, is_copy_resting, copy_driven, lost_left, keeper_ask}
use Rattle.fkv_keeper.specs.KeeperRun.{KeeperEvent, BeginsCommit, Replies, keeper_run, Writing}

-- the replies to the copy that began last, the newest first; one that rests is taken up
abbrev pub replies_after : Bool → Keeping → KeeperEvent → Keeping → List ℕ → List ℕ
replies_after rests LoadsPhase (Replies reply granted) Copies was = if rests then was else []
replies_after rests Copies (Replies reply granted) after was = reply ∷ was
replies_after rests step event after was = was

unfoldable pub copy_replies : Shape → Places → KeeperState → List KeeperEvent → List ℕ
copy_replies shape p opening [] = []
copy_replies shape p opening (event ∷ before) =
    replies_after (is_copy_resting (keeper_run shape p opening before).copy) (keeper_run shape p opening before).step event (keeper_run shape p opening (event ∷ before)).step (copy_replies shape p opening before)

-- the kind of a commit as it was asked for, and its number and first address as its start has told them
pub record BegunWith : Type 0 where
  pub kind : CommitKind
  pub number : Version
  pub first : Addr

abbrev pub begun_of : Option CommitKind → Version → Addr → Option BegunWith
begun_of None number first = None
begun_of (Some kind) number first = Some (record { kind = kind; number = number; first = first })

-- the kind that was asked for last, and the commit that has begun last
pub record LastBegin : Type 0 where
  pub asked : Option CommitKind
  pub begun : Option BegunWith

abbrev pub begun_by : Ask StartAnswer → LastBegin → LastBegin
begun_by (Done (start.Begun number first)) was = record was { begun = begun_of was.asked number first }
begun_by ask was = was

abbrev pub last_begin_after : Keeping → KeeperEvent → KeeperState → LastBegin → LastBegin
last_begin_after (Ended its) (BeginsCommit kind) after was = record was { asked = Some kind }
last_begin_after Starts (Replies reply granted) after was = begun_by (start_ask after.start) was
last_begin_after step event after was = was

unfoldable pub last_begin : Shape → Places → KeeperState → List KeeperEvent → LastBegin
last_begin shape p opening [] = record { asked = None; begun = None }
last_begin shape p opening (event ∷ before) =
    last_begin_after (keeper_run shape p opening before).step event (keeper_run shape p opening (event ∷ before)) (last_begin shape p opening before)

-- what was told of the commit that has begun last
abbrev pub begun_with : Shape → Places → KeeperState → List KeeperEvent → Option BegunWith
begun_with shape p opening events = (last_begin shape p opening events).begun

-- the copy that began with no triple and has had these replies
abbrev pub copy_by : Places → List ℕ → Copier
copy_by p replies = record { places = p; copying = copying_after p replies; triples = copied_after p replies }

-- That copy is in hand, and it is finished.
pub record HasCopied (p : Places) (replies : List ℕ) (copy : Option Copier) : Type 0 where
  pub in_hand : copy ≡ Some (copy_by p replies)
  pub finished : copy_ask (copying_after p replies) ≡ Done tt

-- a commit's writes are not under way
abbrev pub IsBeforeWrites : Keeping → Type 0
IsBeforeWrites Writes = ⊥
IsBeforeWrites Finishes = ⊥
IsBeforeWrites step = ⊤

-- Where the device works, and the writes of a full commit that counts as copied have not begun, its finished copy is in hand.
abbrev pub HoldsCopy : Places → List ℕ → KeeperState → Type 0
HoldsCopy p replies s =
    (c : Commit) → s.commit ≡ Some c → c.kind ≡ Full → c.is_copied ≡ true → s.is_broken ≡ false → IsBeforeWrites (come_to s) → HasCopied p replies s.copy

-- A full commit writes the triples of its finished copy into the area that the newest finished commit's checkpoint doesn't use. They are its
-- checkpoint, which has the commit's own number and first address, and its slot names no lost range.
pub record IsFullWritten (shape : Shape) (p : Places) (replies : List ℕ) (s a : KeeperState) (c : Commit) : Type 0 where
  pub copy : HasCopied p replies s.copy
  pub triples : a.writes.triples ≡ all_bytes (copied_after p replies)
  pub area : a.writes.area ≡ area_place shape (area_number (other_area s.last.checkpoint.area))
  pub used : a.used ≡ record { number = c.number; first = c.first; triples = length (copied_after p replies); area = other_area s.last.checkpoint.area }
  pub slot : a.writes.gate.slot ≡ slot_written shape.sessions c.number c.begin c.end a.used s.seek.points []

-- A log commit writes no triples: it uses the newest finished commit's checkpoint, and its slot names the first eight lost ranges in hand.
pub record IsLogWritten (shape : Shape) (s a : KeeperState) (c : Commit) : Type 0 where
  pub triples : a.writes.triples ≡ []
  pub used : a.used ≡ s.last.checkpoint
  pub slot : a.writes.gate.slot ≡ slot_written shape.sessions c.number c.begin c.end a.used s.seek.points s.lost

abbrev pub IsWrittenAs : CommitKind → Shape → Places → List ℕ → KeeperState → KeeperState → Commit → Type 0
IsWrittenAs Full shape p replies s a c = IsFullWritten shape p replies s a c
IsWrittenAs Log shape p replies s a c = IsLogWritten shape s a c

-- The writes begin of the commit in hand, which is copied: it is of the kind that was asked for, and has the number and the
-- first address that its start has told.
pub record AreWritesBegun (shape : Shape) (p : Places) (replies : List ℕ) (told : Option BegunWith) (s a : KeeperState) : Type 0 where
  pub commit : Commit
  pub in_hand : s.commit ≡ Some commit
  pub stays : a.commit ≡ Some commit
  pub begun : told ≡ Some (record { kind = commit.kind; number = commit.number; first = commit.first })
  pub copied : commit.is_copied ≡ true
  pub written : IsWrittenAs commit.kind shape p replies s a commit

-- a commit's writes have begun
abbrev pub IsBehindWait : Keeping → Type 0
IsBehindWait Writes = ⊤
IsBehindWait Finishes = ⊤
IsBehindWait step = ⊥

-- A full commit uses its own checkpoint, and all triples of its finished copy are what is written.
pub record UsesItsCopy (p : Places) (replies : List ℕ) (w : Writing) (s : KeeperState) (c : Commit) : Type 0 where
  pub finished : copy_ask (copying_after p replies) ≡ Done tt
  pub used : s.used ≡ record { number = c.number; first = c.first; triples = length (copied_after p replies); area = other_area s.last.checkpoint.area }
  pub triples : w.first.triples ≡ all_bytes (copied_after p replies)

-- A log commit uses the checkpoint of the newest finished commit, and writes no triples.
pub record UsesNewest (w : Writing) (s : KeeperState) : Type 0 where
  pub used : s.used ≡ s.last.checkpoint
  pub triples : w.first.triples ≡ []

abbrev pub UsesAs : CommitKind → Places → List ℕ → Writing → KeeperState → Commit → Type 0
UsesAs Full p replies w s c = UsesItsCopy p replies w s c
UsesAs Log p replies w s c = UsesNewest w s

-- The commit in hand is being written: it is the one of which its start has told, and it uses its checkpoint.
pub record IsBeingWritten (p : Places) (replies : List ℕ) (told : Option BegunWith) (w : Writing) (s : KeeperState) : Type 0 where
  pub commit : Commit
  pub in_hand : s.commit ≡ Some commit
  pub begun : told ≡ Some (record { kind = commit.kind; number = commit.number; first = commit.first })
  pub uses : UsesAs commit.kind p replies w s commit

-- the phases in which the index is copied
abbrev pub IsCopyPhase : PhaseSaid → Type 0
IsCopyPhase (Says phase.InProgress version) = ⊤
IsCopyPhase (Says phase.WaitPending version) = ⊤
IsCopyPhase said = ⊥

-- The copy has had a reply.
pub record IsCopyDriven (s : KeeperState) (event : KeeperEvent) (a : KeeperState) : Type 0 where
  pub copies : s.step ≡ Copies
  pub reply : ℕ
  pub granted : Bool
  pub replied : event ≡ Replies reply granted
  pub copy : a.copy ≡ copy_driven s.copy reply

-- A copy begins, from its first slot: the phase word that was just loaded says in-progress or wait-pending, the commit in hand isn't copied, and
-- no copy rests.
pub record IsCopyBegun (p : Places) (s : KeeperState) (event : KeeperEvent) (a : KeeperState) : Type 0 where
  pub loads : s.step ≡ LoadsPhase
  pub reply : ℕ
  pub loaded : event ≡ Replies reply true
  pub phase : IsCopyPhase (phase_said reply)
  pub commit : Commit
  pub in_hand : s.commit ≡ Some commit
  pub not_copied : commit.is_copied ≡ false
  pub none_rests : is_copy_resting s.copy ≡ false
  pub copies : a.step ≡ Copies
  pub copy : a.copy ≡ Some (copy_begun p)

-- The copy that rests is taken up as it is, where one might begin.
pub record IsCopyTakenUp (s : KeeperState) (event : KeeperEvent) (a : KeeperState) : Type 0 where
  pub loads : s.step ≡ LoadsPhase
  pub reply : ℕ
  pub granted : Bool
  pub loaded : event ≡ Replies reply granted
  pub phase : IsCopyPhase (phase_said reply)
  pub commit : Commit
  pub in_hand : s.commit ≡ Some commit
  pub not_copied : commit.is_copied ≡ false
  pub rests : is_copy_resting s.copy ≡ true
  pub copy : a.copy ≡ s.copy

-- the copy in hand after an event: it stays, is given up for what it has copied, or has had a reply; or one begins
abbrev pub IsCopyAfter : Places → KeeperState → KeeperEvent → KeeperState → Type 0
IsCopyAfter p s event a = (a.copy ≡ s.copy) ⊎ ((a.copy ≡ None) ⊎ (IsCopyDriven s event a ⊎ IsCopyBegun p s event a))

-- A commit has begun: it is in hand, and where it is a full one it isn't copied. No copy is in hand.
pub record IsBegun (s a : KeeperState) : Type 0 where
  pub starts : s.step ≡ Starts
  pub commit : Commit
  pub in_hand : a.commit ≡ Some commit
  pub copied : commit.is_copied ≡ is_log commit.kind
  pub no_copy : a.copy ≡ None
  pub told : a.step ≡ Ended (Begun commit.number)

-- The commit in hand is finished: it is the newest finished one now, with its begin, its points, its checkpoint and the gate that it opened. A full one
-- leaves no lost range, and a log commit leaves all.
pub record IsFinished (s a : KeeperState) (c : Commit) : Type 0 where
  pub finishes : s.step ≡ Finishes
  pub none_in_hand : a.commit ≡ None
  pub told : a.step ≡ Ended (Turned true s.is_drain_full)
  pub last : a.last ≡ record { number = c.number; begin = c.begin; points = s.seek.points; checkpoint = s.used; gates = gate_opened s.last.gates c.number }
  pub lost : a.lost ≡ lost_left c.kind s.lost

-- The commit in hand stays, as it was begun, and copied where it was so.
pub record GoesOn (c : Commit) (found : Option Commit) : Type 0 where
  pub commit : Commit
  pub in_hand : found ≡ Some commit
  pub number : commit.number ≡ c.number
  pub kind : commit.kind ≡ c.kind
  pub first : commit.first ≡ c.first
  pub copied : c.is_copied ≡ true → commit.is_copied ≡ true

-- the commit in hand after an event: only one that begins puts another in its place, and only its finish takes it away
abbrev pub IsCommitAfter : Option Commit → KeeperState → KeeperState → Type 0
IsCommitAfter None s a = (a.commit ≡ None) ⊎ IsBegun s a
IsCommitAfter (Some c) s a = GoesOn c a.commit ⊎ (IsFinished s a c ⊎ IsBegun s a)

-- Where a copy begins or is taken up, and what becomes of it and of the commit in hand.
pub record CopiesOnce (p : Places) (s : KeeperState) (event : KeeperEvent) (a : KeeperState) : Type 0 where
  pub begins : a.step ≡ Copies → (s.step ≡ Copies) ⊎ (IsCopyTakenUp s event a ⊎ IsCopyBegun p s event a)
  pub copy : IsCopyAfter p s event a
  pub commit : IsCommitAfter s.commit s a

-- The newest finished commit and the lost ranges in hand change where the commit in hand is finished, and nowhere else. The checkpoint that
-- is used changes only behind the wait, and the points only as they are sought.
pub record KeepsLists (s a : KeeperState) : Type 0 where
  pub lists : ((a.last ≡ s.last) × (a.lost ≡ s.lost)) ⊎ ((c : Commit) × (s.commit ≡ Some c) × IsFinished s a c)
  pub used : (s.step ≡ Waits → ⊥) → a.used ≡ s.used
  pub points : (s.step ≡ Seeks → ⊥) → (a.step ≡ Seeks → ⊥) → a.seek.points ≡ s.seek.points

-- which step may follow which: after what every turn does, and the phase, comes at most one thing for the commit in hand, or a sweep
abbrev pub MayFollow : Keeping → Keeping → Type 0
MayFollow step (Ended told) = ⊤
MayFollow (Ended its) Starts = ⊤
MayFollow (Ended its) Maintains = ⊤
MayFollow Starts Starts = ⊤
MayFollow Maintains Maintains = ⊤
MayFollow Maintains LoadsPhase = ⊤
MayFollow LoadsPhase LoadsPhase = ⊤
MayFollow LoadsPhase Enters = ⊤
MayFollow LoadsPhase Copies = ⊤
MayFollow LoadsPhase Seeks = ⊤
MayFollow LoadsPhase Waits = ⊤
MayFollow LoadsPhase Sweeps = ⊤
MayFollow Enters Enters = ⊤
MayFollow Copies Copies = ⊤
MayFollow Seeks Seeks = ⊤
MayFollow Waits Waits = ⊤
MayFollow Waits Writes = ⊤
MayFollow Writes Writes = ⊤
MayFollow Writes Finishes = ⊤
MayFollow Finishes Finishes = ⊤
MayFollow Sweeps Sweeps = ⊤
MayFollow step after = ⊥

-- the phase is loaded once in a turn
abbrev pub IsPhaseLoaded : Keeping → KeeperEvent → Type 0
IsPhaseLoaded LoadsPhase (Replies reply granted) = ⊤
IsPhaseLoaded step event = ⊥

-- writes that rest are taken up where the phase is loaded, and else steps follow as they may
abbrev pub MayStep : Bool → Keeping → Keeping → Type 0
MayStep true LoadsPhase Writes = ⊤
MayStep rests step after = MayFollow step after

-- One thing for the commit in a turn. To where its writes rest, and to the turns there, the same applies as to the writes.
pub record DoesOneThing (s : KeeperState) (event : KeeperEvent) (a : KeeperState) : Type 0 where
  pub follows : MayFollow (come_to s) (come_to a)
  pub steps : MayStep s.rests s.step a.step
  pub once : IsPhaseLoaded s.step event → a.step ≡ LoadsPhase → ⊥

-- Which words a step may change: no step but a finish changes a session's durable word, and of a session only what its mailbox tells.
abbrev pub MayChange : Keeping → Name → Type 0
MayChange Starts (Shared one.Epoch) = ⊤
MayChange Starts (Drain slot) = slot < drain_slots
MayChange Maintains (Shared one.Epoch) = ⊤
MayChange Maintains (Shared one.SafeEpoch) = ⊤
MayChange Maintains (Shared one.Limit) = ⊤
MayChange Maintains (Shared one.ReadOnly) = ⊤
MayChange Maintains (Shared one.SafeReadOnly) = ⊤
MayChange Maintains (Shared one.Flushed) = ⊤
MayChange Maintains (Shared one.Head) = ⊤
MayChange Maintains (Shared one.Closed) = ⊤
MayChange Maintains (Drain slot) = slot < drain_slots
MayChange Maintains (Session session own.MailState) = ⊤
MayChange Maintains (Session session own.MailHeader) = ⊤
MayChange Maintains (Session session own.MailKey) = ⊤
MayChange Maintains (Session session own.MailValue) = ⊤
MayChange Enters (Shared one.Epoch) = ⊤
MayChange Enters (Drain slot) = slot < drain_slots
MayChange Seeks (Shared one.Epoch) = ⊤
MayChange Seeks (Shared one.ReadOnly) = ⊤
MayChange Seeks (Drain slot) = slot < drain_slots
MayChange Finishes (Session session own.Durable) = ⊤
MayChange step name = ⊥

-- A turn stores the phase that an action says which it has claimed.
pub record IsClaimed (s : MaintainState) (its : Phase) (version : Version) : Type 0 where
  pub slot : ℕ
  pub epoch : ℕ
  pub safe : ℕ
  pub claims : s.step ≡ Claims
  pub runs : s.claiming ≡ claim.Runs slot epoch safe (act.Phase its version)

-- which phases a step may store: prepare as a commit starts, wait-flush where its points are taken, rest as it is finished, and what is claimed
abbrev pub MayStore : KeeperState → Keeping → Phase → Version → Type 0
MayStore s Starts phase.Prepare version = ⊤
MayStore s Maintains its version = IsClaimed s.maintain its version
MayStore s Seeks phase.WaitFlush version = ⊤
MayStore s Finishes phase.Rest version = ⊤
MayStore s step its version = ⊥

-- the place is that of such a word
abbrev pub IsPlaceOf : (Name → Type 0) → Places → ℕ → Type 0
IsPlaceOf words p place = (name : Name) × words name × (place ≡ place_of p name)

-- the phase word becomes such a phase's
abbrev pub IsPhaseStore : (Phase → Version → Type 0) → ℕ → ℕ → Type 0
IsPhaseStore phases place new = (its : Phase) × (version : Version) × phases its version × (place ≡ shared_place one.Phase) × (new ≡ phase_stored its version)

-- an ask changes one of these words, stores one of these phases, or changes no word
abbrev pub ChangesOnly : {A : Type 0} → (Name → Type 0) → (Phase → Version → Type 0) → Places → Ask A → Type 0
ChangesOnly words phases p (Store place new) = IsPlaceOf words p place ⊎ IsPhaseStore phases place new
ChangesOnly words phases p (Swap place new) = IsPlaceOf words p place
ChangesOnly words phases p (Cas place old new) = IsPlaceOf words p place
ChangesOnly words phases p (Add place k) = IsPlaceOf words p place
ChangesOnly words phases p (Max place k) = IsPlaceOf words p place
ChangesOnly words phases p ask = ⊤

-- What a keeper asks for changes only the words, and stores only the phases, of its step.
abbrev pub ChangesItsWords : Shape → Places → KeeperState → Type 0
ChangesItsWords shape p s = ChangesOnly (MayChange s.step) (MayStore s s.step) p (keeper_ask shape p s)

-- an ask that may change a word is of another one
abbrev pub SparesWord : {A : Type 0} → ℕ → Ask A → Type 0
SparesWord word (Load place) = ⊤
SparesWord word ask = asked_place ask ≢ Some word

-- Outside of a finish no session's durable word is changed.
abbrev pub SparesDurable : Shape → Places → KeeperState → Type 0
SparesDurable shape p s = (session : ℕ) → s.step ≢ Finishes → SparesWord (session_place session own.Durable) (keeper_ask shape p s)
