-- What the keeper does: it begins commits, and makes turns, in each of which it does what every turn does and then at most one thing for the
-- commit in hand.
use Rattle.std.specs.Prelude.{ℕ, ◌^◌, ◌==◌, nat_le, List, [], length, replicate, Bool, true, false, not, ◌&&◌, ◌||◌, if◌then◌else◌, Option, Some, None}
use Rattle.std.specs.Option.{is_some}
use Rattle.fkv_base.specs.declared.faults.Fault.TheVariants as fault
use Rattle.fkv_base.specs.declared.numbers.Addr.{Addr}
use Rattle.fkv_base.specs.declared.numbers.Serial.{Serial}
use Rattle.fkv_base.specs.declared.numbers.Version.{Version}
use Rattle.fkv_base.specs.Limits.{is_specified}
use Rattle.fkv_base.specs.declared.phases.Phase.TheVariants as phase
use Rattle.fkv_base.specs.declared.shapes.Shape.{Shape}
use Rattle.fkv_words.specs.declared.phase_words.PhaseSaid.{PhaseSaid}
use Rattle.fkv_words.specs.declared.phase_words.PhaseSaid.TheVariants.{Says}
use Rattle.fkv_words.specs.PhaseWords.{phase_said}
use Rattle.fkv_record.specs.declared.lost_ranges.LostRange.{LostRange}
use Rattle.fkv_record.specs.Places.{area_place}
use Rattle.fkv_plane.specs.declared.actions.Action.{Action}
use Rattle.fkv_plane.specs.declared.asks.Ask.{Ask}
use Rattle.fkv_plane.specs.declared.asks.Ask.TheVariants.{Load, Done}
use Rattle.fkv_plane.specs.declared.places.Places.{Places}
use Rattle.fkv_plane.specs.declared.places.SharedWord.TheVariants as one
use Rattle.fkv_plane.specs.Passing.{passed}
use Rattle.fkv_plane.specs.Places.{shared_place}
use Rattle.fkv_checkpoint.specs.Copying.{Copier, copy_begun, copy_ask, copy_after, copy_rests, copy_word_due}
use Rattle.fkv_checkpoint.specs.Triples.{all_bytes}
use Rattle.fkv_commit.specs.declared.commits.Commit.{Commit}
use Rattle.fkv_base.specs.declared.commits.CommitKind.{CommitKind}
use Rattle.fkv_base.specs.declared.commits.CommitKind.TheVariants.{Full, Log}
use Rattle.fkv_commit.specs.declared.entering.EnterAnswer.{EnterAnswer}
use Rattle.fkv_commit.specs.declared.entering.EnterAnswer.TheVariants as enter
use Rattle.fkv_commit.specs.declared.finishing.FinishAnswer.{FinishAnswer}
use Rattle.fkv_commit.specs.declared.seeking.SeekAnswer.{SeekAnswer}
use Rattle.fkv_commit.specs.declared.seeking.SeekAnswer.TheVariants as seek
use Rattle.fkv_commit.specs.declared.starting.StartAnswer.{StartAnswer}
use Rattle.fkv_commit.specs.declared.starting.StartAsked.{StartAsked}
use Rattle.fkv_commit.specs.declared.starting.StartAnswer.TheVariants as start
use Rattle.fkv_commit.specs.declared.waiting.WaitAnswer.{WaitAnswer}
use Rattle.fkv_commit.specs.declared.waiting.WaitAnswer.TheVariants as wait
use Rattle.fkv_commit.specs.Commits.{commit_begun}
use Rattle.fkv_commit.specs.Entering.{EnterState, enter_begun, enter_ask, enter_next}
use Rattle.fkv_commit.specs.Finishing.{FinishState, finish_begun, finish_ask, finish_next}
use Rattle.fkv_commit.specs.Seeking.{SeekState, seek_begun, seek_ask, seek_next}
use Rattle.fkv_commit.specs.Starting.{StartState, start_begun, start_ask, start_next}
use Rattle.fkv_commit.specs.Waiting.{WaitState, wait_begun, wait_ask, wait_next}
use Rattle.fkv_manifest.specs.declared.answers.WriteAnswer.{WriteAnswer}
use Rattle.fkv_manifest.specs.declared.answers.WriteAnswer.TheVariants as write
use Rattle.fkv_disk.specs.Calls.{Call, Sync}
use Rattle.fkv_manifest.specs.Committing.{CommitWriter, commit_start, commit_next, commit_answer, commit_call}
use Rattle.fkv_manifest.specs.Gating.{GateWriter, gate_start}
use Rattle.fkv_keeper.specs.declared.answers.KeeperTold.{KeeperTold}
use Rattle.fkv_keeper.specs.declared.answers.KeeperTold.TheVariants.{Device, Turned, TurnRefused, Begun, CommitRefused}
use Rattle.fkv_keeper.specs.declared.keepers.Keeping.{Keeping}
use Rattle.fkv_keeper.specs.declared.keepers.Keeping.TheVariants.{Ended, Starts, Maintains, LoadsPhase, Enters, Copies, Seeks, Waits, Writes, Finishes, Sweeps}
use Rattle.fkv_keeper.specs.declared.last_commits.Checkpoint.{Checkpoint}
use Rattle.fkv_maintain.specs.declared.maintaining.MaintainAnswer.{MaintainAnswer}
use Rattle.fkv_maintain.specs.declared.maintaining.MaintainAnswer.TheVariants as maintain
use Rattle.fkv_keeper.specs.LastCommits.{other_area, area_number, is_gate_open, gate_opened, slot_place, slot_written}
use Rattle.fkv_sweep.specs.declared.sweeping.SweepAnswer.{SweepAnswer}
use Rattle.fkv_sweep.specs.declared.sweeping.SweepAnswer.TheVariants as sweep
use Rattle.fkv_sweep.specs.Sweeping.{Sweeper, is_sweeping, sweep_begun, sweep_ask, sweep_next, sweep_read, sweep_failed, sweep_word_due}
use Rattle.fkv_sweep.specs.Sweeping as sweeping
use Rattle.fkv_maintain.specs.Maintaining.{MaintainState, is_flush_resting, maintain_begun, maintain_from, maintain_serving, maintain_ask, maintain_next, maintain_given, maintain_called, maintain_word_due}

-- a finished commit
pub record Finality : Type 0 where
  pub number : Version
  -- the address at which its log begins
  pub begin : Addr
  pub points : List Serial
  pub checkpoint : Checkpoint
  pub gates : Bool × Bool

pub record KeeperState : Type 0 where
  pub maintain : MaintainState
  pub start : StartState
  pub enter : EnterState
  -- the copy of the index, from its beginning up to where it is written
  pub copy : Option Copier
  pub seek : SeekState
  pub wait : WaitState
  pub writes : CommitWriter
  pub finish : FinishState
  -- the sweep of the log's front, which finds where the log may come to begin
  pub sweep : Sweeper
  -- the commit in hand
  pub commit : Option Commit
  -- wait-pending was deferred
  pub has_entered : Bool
  -- its points were taken
  pub has_points : Bool
  -- what was asked for last was granted: memory for a copy, or that what rests goes on
  pub is_granted : Bool
  -- the device has failed
  pub is_broken : Bool
  -- a part of this turn was left out, since no drain slot was free
  pub is_drain_full : Bool
  -- a commit was finished since the store was opened
  pub has_finished : Bool
  -- the writes of the commit in hand rest: no turn is in hand that may go on with them
  pub rests : Bool
  -- the checkpoint that the commit uses whose writes are under way
  pub used : Checkpoint
  -- the newest finished commit
  pub last : Finality
  -- lost ranges in hand
  pub lost : List LostRange
  pub step : Keeping

pub record KeeperModel : Type 0 where
  pub shape : Shape
  pub places : Places
  pub state : KeeperState

-- what the copy asks for, where there is one
abbrev pub copy_asked : Option Copier → Ask (Unit {0})
copy_asked None = Done tt
copy_asked (Some m) = copy_ask m.copying

-- the place of the word that it loads, where there is one
abbrev pub copy_due : Option Copier → Option ℕ
copy_due None = None
copy_due (Some m) = copy_word_due m.copying

-- whether the copy rests: the turn ends there, and a later one takes it up
abbrev pub is_copy_resting : Option Copier → Bool
is_copy_resting None = false
is_copy_resting (Some m) = copy_rests m.places m.copying

-- what it asks for next in a turn: nothing more where it rests
abbrev pub copy_told : Option Copier → Ask (Unit {0})
copy_told copy = if is_copy_resting copy then Done tt else copy_asked copy

-- The call of the device that a part of every turn needs is the keeper's. A part's other end, which is never met here, would be the call's.
unfoldable pub device_passed : Ask MaintainAnswer → KeeperTold → Ask KeeperTold
device_passed (Done maintain.Device) told = Done Device
device_passed ask told = passed ask told

-- so is the read that a sweep needs
unfoldable pub sweep_passed : Ask SweepAnswer → KeeperTold → Ask KeeperTold
sweep_passed (Done sweep.Device) told = Done Device
sweep_passed ask told = passed ask told

-- so is the one that the writes of a commit need
abbrev pub write_asked : WriteAnswer → KeeperTold → Ask KeeperTold
write_asked write.Device told = Done Device
write_asked answer told = Done told

-- a call that is at its end needs no device
abbrev pub end_told : KeeperTold → KeeperTold → KeeperTold
end_told Device told = told
end_told its told = its

-- how a turn ends that finishes no commit
abbrev pub turn_over : KeeperState → KeeperTold
turn_over s = Turned false s.is_drain_full

-- what each state asks
unfoldable pub keeping_ask : Shape → Places → KeeperState → Keeping → Ask KeeperTold
keeping_ask shape p s (Ended its) = Done (end_told its (turn_over s))
keeping_ask shape p s Starts = passed (start_ask s.start) (CommitRefused fault.CommitRunning)
keeping_ask shape p s Maintains = device_passed (maintain_ask shape p s.maintain) (turn_over s)
keeping_ask shape p s LoadsPhase = Load (shared_place one.Phase)
keeping_ask shape p s Enters = passed (enter_ask s.enter) (turn_over s)
keeping_ask shape p s Copies = passed (copy_asked s.copy) (turn_over s)
keeping_ask shape p s Seeks = passed (seek_ask s.seek) (turn_over s)
keeping_ask shape p s Waits = passed (wait_ask s.wait) (turn_over s)
keeping_ask shape p s Writes = write_asked (commit_answer s.writes) (turn_over s)
keeping_ask shape p s Finishes = passed (finish_ask s.seek.points s.finish) (turn_over s)
keeping_ask shape p s Sweeps = sweep_passed (sweep_ask s.sweep) (turn_over s)

abbrev pub keeper_ask : Shape → Places → KeeperState → Ask KeeperTold
keeper_ask shape p s = keeping_ask shape p s s.step

-- how far the commit in hand has come: where its writes rest that is the writes, whatever call is in hand
abbrev pub come_to : KeeperState → Keeping
come_to s = if s.rests then Writes else s.step

abbrev pub ended : KeeperState → KeeperTold → KeeperState
ended s told = record s { step = Ended told }

-- the turn is over
abbrev pub turned : KeeperState → KeeperState
turned s = ended s (turn_over s)

-- it is over, and a part of it was left out
abbrev pub turned_full : KeeperState → KeeperState
turned_full s = ended (record s { is_drain_full = true }) (Turned false true)

-- what a commit of this kind is asked for with
abbrev pub asked_for : KeeperState → CommitKind → StartAsked
asked_for s kind = record { class = s.start.asked.class; kind = kind; lost = length s.lost; checkpoint = s.last.checkpoint.number }

-- A commit begins, of this kind. A device that has failed is never used again, and where the writes of a commit rest it is running.
abbrev pub commit_asked : KeeperState → CommitKind → KeeperState
commit_asked s kind =
    if s.is_broken then ended s (CommitRefused fault.Broken)
    else (if s.rests then ended s (CommitRefused fault.CommitRunning) else record s { start = start_begun s.start (asked_for s kind); step = Starts })

-- whether the writes of a commit rest, or a flush does
abbrev pub is_resting : KeeperState → Bool
is_resting s = s.rests || is_flush_resting s.maintain

-- A turn only serves where writes rest, and where a flush does that wasn't granted to go on.
abbrev pub serves_alone : KeeperState → Bool
serves_alone s = s.rests || (is_flush_resting s.maintain && not s.is_granted)

-- so it begins
abbrev pub parts_begun : Bool → MaintainState → MaintainState
parts_begun alone s = if alone then maintain_serving s else maintain_begun s

abbrev pub turn_asked : KeeperState → KeeperState
turn_asked s = if s.is_broken then ended s (TurnRefused fault.Broken) else record s { maintain = parts_begun (serves_alone s) s.maintain; is_drain_full = false; step = Maintains }

-- a sweep has passed all its records
abbrev pub is_swept : Sweeper → Bool
is_swept w = w.at.0 == w.to.0

-- Where the log of a commit begins that starts with this first address: where the sweep ends, if that is done and lies behind neither the checkpoint in force nor the
-- commit. Else it is where the log of the newest finished commit begins.
abbrev pub begin_next : KeeperState → Addr → Addr
begin_next s first = if is_swept s.sweep && nat_le s.sweep.to.0 s.last.checkpoint.first.0 && nat_le s.sweep.to.0 first.0 then s.sweep.to else s.last.begin

-- By what the machines inside ask next.
unfoldable pub start_ledto : KeeperState → Ask StartAnswer → KeeperState
start_ledto s (Done (start.Begun number first)) =
    ended (record s { commit = Some (commit_begun number s.start.asked.kind (begin_next s first) first); copy = None; has_entered = false; has_points = false; rests = false }) (Begun number)
start_ledto s (Done (start.Refused why)) = ended s (CommitRefused why)
start_ledto s (Done start.Idle) = ended s (CommitRefused fault.CommitRunning)
start_ledto s ask = s

-- the place of the word that its flush loads of a record, or that its copy of the index or its sweep loads, if it loads one
abbrev pub word_due_at : Places → KeeperState → Keeping → Option ℕ
word_due_at p s Maintains = maintain_word_due p s.maintain
word_due_at p s Copies = copy_due s.copy
word_due_at p s Sweeps = sweep_word_due s.sweep
word_due_at p s step = None

abbrev pub keeper_word_due : Places → KeeperState → Option ℕ
keeper_word_due p s = word_due_at p s s.step

-- the device has failed, and nothing goes on any more
abbrev pub broken : KeeperState → KeeperState
broken s = ended (record s { is_broken = true; rests = false }) (TurnRefused fault.Device)

unfoldable pub maintain_ledto : KeeperState → Ask MaintainAnswer → KeeperState
maintain_ledto s (Done maintain.Through) = record s { is_drain_full = s.maintain.is_drain_full; step = LoadsPhase }
maintain_ledto s (Done maintain.Spent) = ended s (TurnRefused fault.EpochsSpent)
maintain_ledto s (Done maintain.Broken) = broken s
maintain_ledto s ask = s

-- the copy that a turn goes on with: the one that rests, or else a new one
abbrev pub copy_taken : Places → Option Copier → Option Copier
copy_taken p copy = if is_copy_resting copy then copy else Some (copy_begun p)

-- a new one begins where memory is granted for it
abbrev pub copies : Places → KeeperState → Bool → KeeperState
copies p s granted =
    if granted || is_copy_resting s.copy then record s { copy = copy_taken p s.copy; is_granted = true; step = Copies } else ended (record s { is_granted = false }) (TurnRefused fault.Memory)

abbrev pub copies_next : Places → KeeperState → Commit → Bool → KeeperState → KeeperState
copies_next p s c granted else_next = if c.is_copied then else_next else copies p s granted

-- what the phase calls for
abbrev pub part_begun : Places → KeeperState → Commit → PhaseSaid → Bool → KeeperState
part_begun p s c (Says phase.InProgress version) granted =
    if s.has_entered then copies_next p s c granted (turned s) else record s { enter = enter_begun s.enter c.number; step = Enters }
part_begun p s c (Says phase.WaitPending version) granted = copies_next p s c granted (record s { seek = seek_begun s.seek c.number s.last.points; has_points = false; step = Seeks })
part_begun p s c (Says phase.WaitFlush version) granted = if s.has_points then record s { wait = wait_begun c.end c.epoch; step = Waits } else turned s
part_begun p s c said granted = turned s

-- writes that rest go on where they are let, and else they rest still
abbrev pub writes_taken_up : KeeperState → Bool → KeeperState
writes_taken_up s granted = if granted then record s { rests = false; is_granted = true; step = Writes } else turned (record s { is_granted = false })

-- Where a flush rests the turn is over, with no part of a commit. What is granted here counts for the next turn.
abbrev pub unless_flush_rests : KeeperState → Bool → KeeperState → KeeperState
unless_flush_rests s granted its = if is_flush_resting s.maintain then turned (record s { is_granted = granted }) else its

-- With no commit in hand a sweep that isn't done goes on, where it is let.
abbrev pub sweeps_next : KeeperState → Bool → KeeperState
sweeps_next s granted =
    if granted && is_sweeping s.sweep then record s { sweep = sweeping.turn_begun s.sweep; is_granted = true; step = Sweeps } else turned (record s { is_granted = granted })

-- where writes rest, they are next, whatever the phase is
unfoldable pub phase_ledto : Places → KeeperState → Option Commit → PhaseSaid → Bool → KeeperState
phase_ledto p s None said granted = unless_flush_rests s granted (sweeps_next s granted)
phase_ledto p s (Some c) said granted = if s.rests then writes_taken_up s granted else unless_flush_rests s granted (part_begun p s c said granted)

unfoldable pub enter_ledto : KeeperState → Ask EnterAnswer → KeeperState
enter_ledto s (Done enter.Entered) = turned (record s { has_entered = true })
enter_ledto s (Done enter.DrainFull) = turned_full s
enter_ledto s (Done enter.EpochsSpent) = ended s (TurnRefused fault.EpochsSpent)
enter_ledto s (Done enter.Idle) = turned s
enter_ledto s ask = s

-- at its end the commit counts as copied, at a rest it doesn't
abbrev pub copied : Bool → Option Commit → Option Commit
copied rests None = None
copied rests (Some c) = Some (record c { is_copied = c.is_copied || not rests })

unfoldable pub copy_ledto : KeeperState → Ask (Unit {0}) → KeeperState
copy_ledto s (Done its) = turned (record s { commit = copied (is_copy_resting s.copy) s.commit })
copy_ledto s ask = s

abbrev pub points_known : Option Commit → Addr → ℕ → Option Commit
points_known None end epoch = None
points_known (Some c) end epoch = Some (record c { end = end; epoch = epoch })

unfoldable pub seek_ledto : KeeperState → Ask SeekAnswer → KeeperState
seek_ledto s (Done (seek.Taken end epoch)) = turned (record s { commit = points_known s.commit end epoch; has_points = true })
seek_ledto s (Done seek.DrainFull) = turned_full s
seek_ledto s (Done seek.EpochsSpent) = ended s (TurnRefused fault.EpochsSpent)
seek_ledto s (Done seek.Owing) = turned s
seek_ledto s (Done seek.Idle) = turned s
seek_ledto s ask = s

-- how many triples were copied
abbrev pub triples_copied : Option Copier → ℕ
triples_copied None = 0
triples_copied (Some m) = length m.triples

abbrev pub bytes_copied : Option Copier → List ℕ
bytes_copied None = []
bytes_copied (Some m) = all_bytes m.triples

-- a full commit uses the checkpoint that it has made, in the area that the newest finished commit doesn't use, and a log commit that of the newest
abbrev pub checkpoint_used : Commit → CommitKind → Finality → Option Copier → Checkpoint
checkpoint_used c Full last copy = record { number = c.number; first = c.first; triples = triples_copied copy; area = other_area last.checkpoint.area }
checkpoint_used c Log last copy = last.checkpoint

-- a log commit writes no triples
abbrev pub triples_written : CommitKind → Option Copier → List ℕ
triples_written Full copy = bytes_copied copy
triples_written Log copy = []

-- the lost ranges lie behind a log commit's checkpoint still, and behind a full one's no more
abbrev pub lost_left : CommitKind → List LostRange → List LostRange
lost_left Full lost = []
lost_left Log lost = lost

-- The writes of the slot of a commit that uses this checkpoint: in its place, behind a gate that may stand open.
abbrev pub gate_writes_of : Shape → KeeperState → Commit → Checkpoint → GateWriter
gate_writes_of shape s c used = record {
  place = slot_place c.number;
  start = 1;
  slot = slot_written shape.sessions c.number c.begin c.end used s.seek.points (lost_left c.kind s.lost);
  step = gate_start (is_gate_open s.last.gates c.number);
}

-- What a commit writes: its triples into their area, and its slot.
abbrev pub writes_of : Shape → KeeperState → Commit → Checkpoint → CommitWriter
writes_of shape s c used = record {
  area = area_place shape (area_number used.area);
  triples = triples_written c.kind s.copy;
  gate = gate_writes_of shape s c used;
  step = commit_start (triples_written c.kind s.copy);
}

-- where the log is flushed up to the commit's end, the commit in hand is written
abbrev pub writes_begun : Shape → KeeperState → Option Commit → KeeperState
writes_begun shape s None = turned s
writes_begun shape s (Some c) = record s {
  writes = writes_of shape s c (checkpoint_used c c.kind s.last s.copy);
  used = checkpoint_used c c.kind s.last s.copy;
  copy = None;
  step = Writes;
}

unfoldable pub wait_ledto : Shape → KeeperState → Ask WaitAnswer → KeeperState
wait_ledto shape s (Done wait.Flushed) = writes_begun shape s s.commit
wait_ledto shape s (Done wait.NotYet) = turned s
wait_ledto shape s (Done wait.Idle) = turned s
wait_ledto shape s ask = s

-- the commit is finished
abbrev pub finality_of : KeeperState → Commit → Finality
finality_of s c = record { number = c.number; begin = c.begin; points = s.seek.points; checkpoint = s.used; gates = gate_opened s.last.gates c.number }

-- writes of nothing, which keep no bytes of triples
unfoldable pub no_writes : CommitWriter
no_writes = record { area = 0; triples = []; gate = record { place = 0; start = 0; slot = replicate 512 0; step = gate_start false }; step = commit_start [] }

-- a commit of this kind has made a checkpoint of its own
abbrev pub is_full : CommitKind → Bool
is_full Full = true
is_full Log = false

-- A full commit of a living store sets how far the next sweep goes: from where its log begins to its first address. A sweep that is under way goes on to its own
-- end, and so it stays until the log of a finished commit begins there. No address is above what 48 bits hold.
abbrev pub may_set : KeeperState → Commit → Bool
may_set s c =
    not (is_specified s.start.asked.class) && is_full c.kind && (s.sweep.at.0 == s.sweep.from.0 || s.sweep.to.0 == c.begin.0) && nat_le c.begin.0 c.first.0 && nat_le c.first.0 (2 ^ 48)

abbrev pub sweep_set : KeeperState → Commit → Sweeper
sweep_set s c = if may_set s c then sweep_begun s.sweep.shape s.sweep.places c.begin c.first else s.sweep

-- What it has written isn't kept. From here on mailboxes are served by where its log begins.
abbrev pub finished : KeeperState → Option Commit → KeeperState
finished s None = turned s
finished s (Some c) =
    ended (record s { maintain = maintain_from c.begin s.maintain; writes = no_writes; sweep = sweep_set s c; commit = None; last = finality_of s c; lost = lost_left c.kind s.lost; has_finished = true }) (Turned true s.is_drain_full)

unfoldable pub finish_ledto : KeeperState → Ask FinishAnswer → KeeperState
finish_ledto s (Done its) = finished s s.commit
finish_ledto s ask = s

-- a sweep's turn is over where its own is through
unfoldable pub sweep_ledto : KeeperState → Ask SweepAnswer → KeeperState
sweep_ledto s (Done sweep.Through) = turned s
sweep_ledto s ask = s

-- the copy after a reply
abbrev pub copy_driven : Option Copier → ℕ → Option Copier
copy_driven None reply = None
copy_driven (Some m) reply = Some (copy_after m reply)

-- A copy may begin by the reply: the phase is loaded, wait-pending is deferred, the commit in hand isn't copied, and no copy rests.
unfoldable pub step_may_copy : Keeping → Option Commit → Bool → Bool → Bool
step_may_copy LoadsPhase (Some c) has_entered rests = has_entered && not c.is_copied && not rests
step_may_copy step commit has_entered rests = false

abbrev pub may_copy : KeeperState → Bool
may_copy s = step_may_copy s.step s.commit s.has_entered (is_copy_resting s.copy)

-- A step goes by the caller's word where writes or a flush rest, or no commit is in hand: whether they or a sweep go on.
abbrev pub goes_by_word : KeeperState → Bool
goes_by_word s = is_resting s || not (is_some s.commit)

-- What it is granted: there what the caller says, and elsewhere memory for a copy.
abbrev pub granted_for : KeeperState → Bool → Bool → Bool
granted_for s has_room goes_on = if goes_by_word s then goes_on else has_room

-- Where the reply leads. Where a copy begins, or writes or a flush rest, it goes by what was granted.
unfoldable pub keeping_next : Shape → Places → KeeperState → Keeping → ℕ → Bool → KeeperState
keeping_next shape p s (Ended its) reply granted = s
keeping_next shape p s Starts reply granted = start_ledto (record s { start = start_next s.start reply }) (start_ask (start_next s.start reply))
keeping_next shape p s Maintains reply granted = maintain_ledto (record s { maintain = maintain_next shape p s.maintain reply }) (maintain_ask shape p (maintain_next shape p s.maintain reply))
keeping_next shape p s LoadsPhase reply granted = phase_ledto p s s.commit (phase_said reply) granted
keeping_next shape p s Enters reply granted = enter_ledto (record s { enter = enter_next s.enter reply }) (enter_ask (enter_next s.enter reply))
keeping_next shape p s Copies reply granted = copy_ledto (record s { copy = copy_driven s.copy reply }) (copy_told (copy_driven s.copy reply))
keeping_next shape p s Seeks reply granted = seek_ledto (record s { seek = seek_next s.seek reply }) (seek_ask (seek_next s.seek reply))
keeping_next shape p s Waits reply granted = wait_ledto shape (record s { wait = wait_next s.wait reply }) (wait_ask (wait_next s.wait reply))
keeping_next shape p s Writes reply granted = s
keeping_next shape p s Finishes reply granted = finish_ledto (record s { finish = finish_next s.finish reply }) (finish_ask s.seek.points (finish_next s.finish reply))
keeping_next shape p s Sweeps reply granted = sweep_ledto (record s { sweep = sweep_next s.sweep reply }) (sweep_ask (sweep_next s.sweep reply))

abbrev pub keeper_next : Shape → Places → KeeperState → ℕ → Bool → KeeperState
keeper_next shape p s reply granted = keeping_next shape p s s.step reply granted

-- what the action of a claimed slot leads to
unfoldable pub keeping_given : Shape → Places → KeeperState → Keeping → Action → KeeperState
keeping_given shape p s Maintains action = maintain_ledto (record s { maintain = maintain_given s.maintain action }) (maintain_ask shape p (maintain_given s.maintain action))
keeping_given shape p s step action = s

abbrev pub keeper_given : Shape → Places → KeeperState → Action → KeeperState
keeper_given shape p s action = keeping_given shape p s s.step action

-- a call is a sync
abbrev pub is_sync : Option Call → Bool
is_sync (Some (Sync done)) = true
is_sync call = false

-- Before a sync a living store's writes rest. So mailboxes are served while the bytes become durable.
abbrev pub must_rest : KeeperState → Bool
must_rest s = not (is_specified s.start.asked.class) && is_sync (commit_call s.writes true)

-- and the turn is over there
abbrev pub rested : KeeperState → KeeperState
rested s = if must_rest s then turned (record s { rests = true }) else s

-- behind the last sync the commit finishes
unfoldable pub write_ledto : KeeperState → Option Commit → WriteAnswer → KeeperState
write_ledto s None answer = turned s
write_ledto s (Some c) write.Written = record s { finish = finish_begun s.finish c.number; step = Finishes }
write_ledto s (Some c) write.Device = rested s
write_ledto s (Some c) (write.Broken why) = s

-- where a call of the device leads that a part of every turn makes
abbrev pub turn_called : Shape → Places → KeeperState → Bool → List ℕ → KeeperState
turn_called shape p s done bytes =
    maintain_ledto (record s { maintain = maintain_called shape p s.maintain done bytes }) (maintain_ask shape p (maintain_called shape p s.maintain done bytes))

-- where one leads that the writes of a commit make
abbrev pub writes_called : KeeperState → Bool → KeeperState
writes_called s true = write_ledto (record s { writes = commit_next s.writes true }) s.commit (commit_answer (commit_next s.writes true))
writes_called s false = broken (record s { writes = commit_next s.writes false })

-- where one leads that a sweep makes
abbrev pub sweep_called : KeeperState → Bool → List ℕ → KeeperState
sweep_called s true bytes = sweep_ledto (record s { sweep = sweep_read s.sweep bytes }) (sweep_ask (sweep_read s.sweep bytes))
sweep_called s false bytes = broken (record s { sweep = sweep_failed s.sweep })

-- where a call of the device leads, whether it succeeded, and what it read
unfoldable pub keeping_called : Shape → Places → KeeperState → Keeping → Bool → List ℕ → KeeperState
keeping_called shape p s Maintains done bytes = turn_called shape p s done bytes
keeping_called shape p s Writes done bytes = writes_called s done
keeping_called shape p s Sweeps done bytes = sweep_called s done bytes
keeping_called shape p s step done bytes = s

abbrev pub keeper_called : Shape → Places → KeeperState → Bool → List ℕ → KeeperState
keeper_called shape p s done bytes = keeping_called shape p s s.step done bytes
