-- Where a commit's scan begins and its log ends: both are tails that the keeper has loaded, and the tail never falls.
use Rattle.std.proofs.Common.{◌≡◌, ℕ, ◌+◌, ◌<◌, ◌≤◌, ◌∙◌, arith, refl, sym, ap, subst, Bool, true, false, List, [], ◌∷◌, length}
use Rattle.std.specs.Prelude.{⊤, ◌==◌, max, nat_le, nat_lt, if◌then◌else◌, Option, Some, None, ◌||◌, not}
use Rattle.fkv_base.specs.Limits.{last_of}
use Rattle.fkv_base.specs.declared.commits.CommitKind.{CommitKind}
use Rattle.fkv_base.specs.declared.commits.CommitKind.TheVariants.{Full, Log}
use Rattle.fkv_base.specs.declared.faults.Fault.TheVariants as fault
use Rattle.fkv_base.specs.declared.numbers.Addr.{Addr}
use Rattle.fkv_base.specs.declared.numbers.Version.{Version}
use Rattle.fkv_base.specs.declared.phases.Phase.TheVariants as phase
use Rattle.fkv_base.specs.declared.shapes.Shape.{Shape}
use Rattle.law_commit.specs.Below.fkv_checkpoint.Copying.{Copier}
use Rattle.law_commit.specs.Below.fkv_commit.Commit.{Commit}
use Rattle.law_commit.specs.Below.fkv_commit.DeferAnswer.{DeferAnswer}
use Rattle.law_commit.specs.Below.fkv_commit.DeferAnswer.TheVariants.{Armed, Held, Spent}
use Rattle.law_commit.specs.Below.fkv_commit.EnterAnswer.{EnterAnswer}
use Rattle.law_commit.specs.Below.fkv_commit.EnterAnswer.TheVariants as enter
use Rattle.law_commit.specs.Below.fkv_commit.FinishAnswer.{FinishAnswer}
use Rattle.law_commit.specs.Below.fkv_commit.SeekAnswer.{SeekAnswer}
use Rattle.law_commit.specs.Below.fkv_commit.SeekAnswer.TheVariants as seek
use Rattle.law_commit.specs.Below.fkv_commit.TheSeeking.{Seeking}
use Rattle.law_commit.specs.Below.fkv_commit.TheSeeking.TheVariants as seeking
use Rattle.law_commit.specs.Below.fkv_commit.StartAnswer.{StartAnswer}
use Rattle.law_commit.specs.Below.fkv_commit.StartAnswer.TheVariants as start
use Rattle.law_commit.specs.Below.fkv_commit.TheStarting.{Starting}
use Rattle.law_commit.specs.Below.fkv_commit.TheStarting.TheVariants as starting
use Rattle.law_commit.specs.Below.fkv_commit.WaitAnswer.{WaitAnswer}
use Rattle.law_commit.specs.Below.fkv_commit.WaitAnswer.TheVariants as wait
use Rattle.law_commit.specs.Below.fkv_commit.Cuts.{serial_said, is_cut_of}
use Rattle.law_commit.specs.Below.fkv_commit.Deferring.{defer_ask, defer_next}
use Rattle.law_commit.specs.Below.fkv_commit.Entering.{enter_ask, enter_next}
use Rattle.law_commit.specs.Below.fkv_commit.Finishing.{finish_ask, finish_next}
use Rattle.law_commit.specs.Below.fkv_commit.Seeking as search
use Rattle.law_commit.specs.Below.fkv_commit.Seeking.{SeekState, cut_met, other_met, owing_from, point_taken, with_point, points_from, seek_ask, seek_next, seeking_ask, seeking_next, slot_led}
use Rattle.law_commit.specs.Below.fkv_commit.Starting as begin
use Rattle.law_commit.specs.Below.fkv_commit.Starting.{StartState, is_lost_full, phase_found, seek_led, start_ask, start_next, starting_ask, starting_next}
use Rattle.law_commit.specs.Below.fkv_commit.Waiting.{wait_ask, wait_begun, wait_next}
use Rattle.law_commit.specs.Below.fkv_keeper.KeeperTold.TheVariants.{CommitRefused, TurnRefused}
use Rattle.law_commit.specs.Below.fkv_keeper.TheKeeping.{Keeping}
use Rattle.law_commit.specs.Below.fkv_keeper.TheKeeping.TheVariants.{Ended, Starts, Maintains, LoadsPhase, Enters, Copies, Seeks, Waits, Writes, Finishes, Sweeps}
use Rattle.law_commit.specs.Below.fkv_keeper.Checkpoint.{Checkpoint}
use Rattle.law_commit.specs.Below.fkv_keeper.Keeping.{Finality, KeeperState, checkpoint_used, come_to, commit_asked, copied, copies, copies_next, copy_driven, copy_ledto, enter_ledto, finish_ledto, finished, keeping_ask, keeping_called, keeping_given, keeping_next, maintain_ledto, must_rest, part_begun, phase_ledto, points_known, seek_ledto, start_ledto, sweeps_next, turn_asked, turn_over, turned, unless_flush_rests, wait_ledto, write_ledto, writes_begun, writes_called, writes_taken_up, is_copy_resting, copy_told}
use Rattle.law_commit.proofs.Below.fkv_keeper.Shown.{BreaksInRest}
use Rattle.law_commit.specs.Below.fkv_keeper.KeeperRun.{BeginsCommit, BeginsTurn, Calls, Gets, KeeperEvent, Replies, begins, is_in_hand, keeper_happens, keeper_run}
use Rattle.law_commit.specs.Below.fkv_maintain.MaintainAnswer.{MaintainAnswer}
use Rattle.law_commit.specs.Below.fkv_maintain.MaintainAnswer.TheVariants as maintain
use Rattle.law_commit.specs.Below.fkv_maintain.Maintaining.{is_flush_resting, maintain_ask, maintain_called, maintain_given, maintain_next}
use Rattle.law_commit.specs.Below.fkv_manifest.WriteAnswer.{WriteAnswer}
use Rattle.law_commit.specs.Below.fkv_manifest.WriteAnswer.TheVariants as write
use Rattle.law_commit.specs.Below.fkv_manifest.Committing.{commit_answer, commit_next}
use Rattle.fkv_plane.specs.declared.actions.Action.{Action}
use Rattle.fkv_plane.specs.declared.asks.Ask.{Ask}
use Rattle.fkv_plane.specs.declared.asks.Ask.TheVariants.{Done}
use Rattle.fkv_plane.specs.declared.places.Places.{Places}
use Rattle.fkv_plane.specs.declared.places.SharedWord.TheVariants as one
use Rattle.fkv_plane.specs.Asked.{word_at}
use Rattle.fkv_plane.specs.Passing.{passed}
use Rattle.fkv_plane.specs.Places.{shared_place}
use Rattle.fkv_words.specs.declared.phase_words.PhaseSaid.{PhaseSaid}
use Rattle.fkv_words.specs.declared.phase_words.PhaseSaid.TheVariants.{Says}
use Rattle.fkv_words.specs.PhaseWords.{phase_said}
use Rattle.law_commit.proofs.Shown.{sweep_begins, sweep_moves, sweep_reads}
use Rattle.law_order.proofs.OfImages.Resting.{IsSameInHand, RestsWell, happens_well, kept_on}
use Rattle.law_order.proofs.OfImages.WordsRead.{AllRead, Always, ReadsWord, always_last}
use Rattle.law_commit.specs.Below.law_world.Standing.Opening.{AreNumbersInTurn, IsNumberInTurn}

-- ---- what is known below a tail
-- the begin, the tail and the commit's number with which the store was opened, and the tail now
pub record Bounds : Type 0 where
  pub begin : ℕ
  pub base : ℕ
  pub least : ℕ
  pub tail : ℕ
  pub some : 1 ≤ begin
  pub on : begin ≤ base
  pub up : base ≤ tail

abbrev pub raised : (t : Bounds) (tail : ℕ) → t.tail ≤ tail → Bounds
raised t its_tail more = record { begin = t.begin; base = t.base; least = t.least; tail = its_tail; some = t.some; on = t.on; up = (let up = t.up in omega (arith, up, more)) }

-- of the newest finished commit, and of the one in hand
abbrev pub LastBelow : Bounds → Finality → Type 0
LastBelow t last = (t.begin ≤ last.checkpoint.first.0) × (last.checkpoint.first.0 ≤ t.tail) × (last.checkpoint.number.0 ≤ last.number.0) × (t.least ≤ last.number.0)

abbrev pub HandBelow : Bounds → Finality → Option Commit → Type 0
HandBelow t last None = ⊤
HandBelow t last (Some c) = (t.base ≤ c.first.0) × (c.first.0 ≤ t.tail) × (c.number.0 ≡ last.number.0 + 1)

-- its end lies above both scans' first addresses
abbrev pub EndsAbove : ℕ → Finality → Option Commit → Type 0
EndsAbove end last None = ⊤
EndsAbove end last (Some c) = (c.first.0 ≤ end) × (last.checkpoint.first.0 ≤ end)

abbrev pub TakenAbove : Bool → Finality → Option Commit → Type 0
TakenAbove false last found = ⊤
TakenAbove true last None = ⊤
TakenAbove true last (Some c) = (c.first.0 ≤ c.end.0) × (last.checkpoint.first.0 ≤ c.end.0)

abbrev pub Below : Bounds → Bool → Finality → Option Commit → Type 0
Below t points last found = HandBelow t last found × TakenAbove points last found × LastBelow t last

-- the checkpoint that the commit in hand uses
abbrev pub UsedBelow : Bounds → Checkpoint → Option Commit → Type 0
UsedBelow t used None = ⊤
UsedBelow t used (Some c) = (t.begin ≤ used.first.0) × (used.first.0 ≤ t.tail) × (used.number.0 ≤ c.number.0) × (used.first.0 ≤ c.end.0) × (t.base ≤ c.end.0) × (t.least < c.number.0)

-- as a commit starts, and as its end is sought
abbrev pub StartsBelow : Bounds → Starting → Type 0
StartsBelow t (starting.Defers number first) = (t.base ≤ first.0) × (first.0 ≤ t.tail)
StartsBelow t (starting.Ended (start.Begun number first)) = (t.base ≤ first.0) × (first.0 ≤ t.tail)
StartsBelow t step = ⊤

abbrev pub SeeksAbove : Finality → Option Commit → Seeking → Type 0
SeeksAbove last found (seeking.RaisesReadOnly end) = EndsAbove end.0 last found
SeeksAbove last found (seeking.Defers end) = EndsAbove end.0 last found
SeeksAbove last found (seeking.Ended (seek.Taken end epoch)) = EndsAbove end.0 last found
SeeksAbove last found step = ⊤

abbrev pub AtTail : Bounds → KeeperState → Keeping → Type 0
AtTail t s Starts = Below t s.has_points s.last s.commit × StartsBelow t s.start.step
AtTail t s Seeks = Below t s.has_points s.last s.commit × SeeksAbove s.last s.commit s.seek.step
AtTail t s Waits = Below t s.has_points s.last s.commit × (s.has_points ≡ true)
AtTail t s Writes = Below t true s.last s.commit × UsedBelow t s.used s.commit
AtTail t s Finishes = Below t true s.last s.commit × UsedBelow t s.used s.commit
AtTail t s step = Below t s.has_points s.last s.commit

abbrev IsNowAt : Bounds → KeeperState → Type 0
IsNowAt t s = AtTail t s s.step

-- and so it is where the keeper has come to
pub record IsAtTail (t : Bounds) (s : KeeperState) : Type 0 where
  pub well : RestsWell s
  pub at : AtTail t s (come_to s)

either : (t : Bounds) (c : Bool) (a b : KeeperState) → IsNowAt t a → IsNowAt t b → IsNowAt t (if c then a else b)
either t true a b one other = one
either t false a b one other = other

still : (t : Bounds) (s : KeeperState) (step : Keeping) → s.step ≡ step → AtTail t s step → IsNowAt t s
still t s step at is = subst (λ (k : Keeping). AtTail t s k) (sym at) is

-- ---- a commit starts
starts_either : (t : Bounds) (c : Bool) (a b : StartState) → StartsBelow t a.step → StartsBelow t b.step → StartsBelow t (if c then a else b).step
starts_either t true a b one other = one
starts_either t false a b one other = other

found_below : (t : Bounds) (m : StartState) (said : PhaseSaid) → StartsBelow t (phase_found m said).step
found_below t m (Says phase.Rest number) = starts_either t (nat_le (last_of m.asked.class) number.0) _ _ tt (starts_either t (is_lost_full m.asked number.0) _ _ tt tt)
found_below t m said = tt

sought_below : (t : Bounds) (number : Version) (m : StartState) (ask : Ask DeferAnswer) → StartsBelow t m.step → StartsBelow t (seek_led number m ask).step
unfolding seek_led
sought_below t number m (Done Held) is = tt
sought_below t number m (Done Spent) is = tt
sought_below t number m (Done its) is = tt
sought_below t number m ask is = is

deferred_below : (t : Bounds) (number : Version) (first : Addr) (m : StartState) (ask : Ask DeferAnswer) → (t.base ≤ first.0) × (first.0 ≤ t.tail) → StartsBelow t m.step → StartsBelow t (begin.defer_led number first m ask).step
unfolding begin.defer_led
deferred_below t number first m (Done (Armed epoch)) low is = low
deferred_below t number first m (Done its) low is = tt
deferred_below t number first m ask low is = is

starts_below : (t : Bounds) (m : StartState) (step : Starting) (reply : ℕ) → m.step ≡ step → ((number : Version) → step ≡ starting.LoadsTail number → reply ≡ t.tail) → StartsBelow t step → StartsBelow t (starting_next m step reply).step
unfolding starting_next
starts_below t m (starting.Ended its) reply e reads is = rw e is
starts_below t m starting.LoadsPhase reply e reads is = found_below t m (phase_said reply)
starts_below t m (starting.Seeks number) reply e reads is = sought_below t number (record m { defer = defer_next m.defer reply }) _ (rw e is)
starts_below t m (starting.StoresPrepare number) reply e reads is = tt
starts_below t m (starting.LoadsTail number) reply e reads is = let there = reads number refl in let up = t.up in (omega (arith, up, there), omega (arith, there))
starts_below t m (starting.Defers number first) reply e reads is = deferred_below t number first (record m { defer = defer_next m.defer reply }) _ is (rw e is)

abbrev TellsBelow : Bounds → Ask StartAnswer → Type 0
TellsBelow t (Done (start.Begun number first)) = (t.base ≤ first.0) × (first.0 ≤ t.tail)
TellsBelow t ask = ⊤

passed_below : (t : Bounds) (ask : Ask DeferAnswer) → TellsBelow t (passed ask start.Idle)
unfolding passed
passed_below t (Done its) = tt
passed_below t ask = tt

tells_below : (t : Bounds) (m : StartState) (step : Starting) → StartsBelow t step → TellsBelow t (starting_ask m step)
unfolding starting_ask
tells_below t m (starting.Ended (start.Begun number first)) is = is
tells_below t m (starting.Ended its) is = tt
tells_below t m (starting.Seeks number) is = passed_below t (defer_ask m.defer)
tells_below t m (starting.Defers number first) is = passed_below t (defer_ask m.defer)
tells_below t m step is = tt

start_on : (t : Bounds) (s : KeeperState) (ask : Ask StartAnswer) → s.step ≡ Starts → Below t s.has_points s.last s.commit → StartsBelow t s.start.step → TellsBelow t ask → IsNumberInTurn s.last.number Starts (start_ledto s ask).step → IsNowAt t (start_ledto s ask)
unfolding start_ledto
start_on t s (Done (start.Begun number first)) at is starts tells turn = ((tells.0, tells.1, turn.0), tt, is.2)
start_on t s (Done (start.Refused why)) at is starts tells turn = is
start_on t s (Done start.Idle) at is starts tells turn = is
start_on t s ask at is starts tells turn = still t s Starts at (is, starts)

-- ---- its parts
turn_on : (t : Bounds) (s : KeeperState) → Below t s.has_points s.last s.commit → IsNowAt t (turn_asked s)
turn_on t s is = either t s.is_broken _ _ is is

commit_on : (t : Bounds) (s : KeeperState) (kind : CommitKind) → Below t s.has_points s.last s.commit → IsNowAt t (commit_asked s kind)
commit_on t s kind is = either t s.is_broken _ _ is (either t s.rests _ _ is (is, tt))

maintain_on : (t : Bounds) (s : KeeperState) (ask : Ask MaintainAnswer) → s.step ≡ Maintains → Below t s.has_points s.last s.commit → IsNowAt t (maintain_ledto s ask)
unfolding maintain_ledto
maintain_on t s (Done maintain.Through) at is = is
maintain_on t s (Done maintain.Spent) at is = is
maintain_on t s (Done maintain.Broken) at is = is
maintain_on t s ask at is = still t s Maintains at is

copies_on : (t : Bounds) (p : Places) (s : KeeperState) (c : Commit) (granted : Bool) (other : KeeperState) → Below t s.has_points s.last s.commit → IsNowAt t other → IsNowAt t (copies_next p s c granted other)
copies_on t p s c granted other is goes = either t c.is_copied other (copies p s granted) goes (either t (granted || is_copy_resting s.copy) _ _ is is)

seek_either : (last : Finality) (found : Option Commit) (c : Bool) (a b : SeekState) → SeeksAbove last found a.step → SeeksAbove last found b.step → SeeksAbove last found (if c then a else b).step
seek_either last found true a b one other = one
seek_either last found false a b one other = other

owing_above : (last : Finality) (found : Option Commit) (m : SeekState) (session : ℕ) → SeeksAbove last found (owing_from m session).step
owing_above last found m session = seek_either last found (nat_lt session m.sessions) _ _ tt tt

points_above : (last : Finality) (found : Option Commit) (m : SeekState) → SeeksAbove last found (points_from m).step
points_above last found m = seek_either last found (nat_lt (length m.points) m.sessions) (record m { step = seeking.LoadsCut }) (record m { step = seeking.StoresWaitFlush }) tt tt

taken_above : (last : Finality) (found : Option Commit) (m : SeekState) (serial : ℕ) → SeeksAbove last found (point_taken m serial).step
taken_above last found m serial = points_above last found (with_point m serial)

cut_above : (last : Finality) (found : Option Commit) (m : SeekState) (word : ℕ) → SeeksAbove last found (cut_met m word).step
cut_above last found m word = seek_either last found (is_cut_of m.number.0 word) (point_taken m (serial_said word)) (record m { step = seeking.LoadsOther word }) (taken_above last found m (serial_said word)) tt

other_above : (last : Finality) (found : Option Commit) (m : SeekState) (first word : ℕ) → SeeksAbove last found (other_met m first word).step
other_above last found m first word =
    seek_either last found (not (is_cut_of (m.number.0 + 1) word)) (point_taken m (max (serial_said first) (serial_said word))) (record m { step = seeking.LoadsAgain }) (taken_above last found m (max (serial_said first) (serial_said word))) tt

untaken : (t : Bounds) (points : Bool) (last : Finality) (found : Option Commit) → Below t points last found → Below t false last found
untaken t points last found is = (is.0, tt, is.2)

part_waits : (t : Bounds) (s : KeeperState) (c : Commit) (points : Bool) → s.has_points ≡ points → Below t s.has_points s.last s.commit → IsNowAt t (if points then record s { wait = wait_begun c.end c.epoch; step = Waits } else turned s)
part_waits t s c true e is = (is, e)
part_waits t s c false e is = is

part_on : (t : Bounds) (p : Places) (s : KeeperState) (c : Commit) (said : PhaseSaid) (granted : Bool) → Below t s.has_points s.last s.commit → IsNowAt t (part_begun p s c said granted)
part_on t p s c (Says phase.InProgress version) granted is = either t s.has_entered _ _ (copies_on t p s c granted (turned s) is is) is
part_on t p s c (Says phase.WaitPending version) granted is = copies_on t p s c granted _ is (untaken t s.has_points s.last s.commit is, owing_above s.last s.commit (let its = s.seek in record its { number = c.number; floor = s.last.points; points = [] }) 0)
part_on t p s c (Says phase.WaitFlush version) granted is = part_waits t s c s.has_points refl is
part_on t p s c said granted is = is

phase_on : (t : Bounds) (p : Places) (s : KeeperState) (found : Option Commit) (said : PhaseSaid) (granted : Bool) → s.rests ≡ false → Below t s.has_points s.last s.commit → IsNowAt t (phase_ledto p s found said granted)
unfolding phase_ledto
phase_on t p s None said granted none is = either t (is_flush_resting s.maintain) _ (sweeps_next s granted) is (sweep_begins (IsNowAt t) s granted is is)
phase_on t p s (Some c) said granted none is = by s.rests none
  where
    by : (rests : Bool) → rests ≡ false → IsNowAt t (if rests then writes_taken_up s granted else unless_flush_rests s granted (part_begun p s c said granted))
    by true none = cc
    by false none = either t (is_flush_resting s.maintain) _ _ is (part_on t p s c said granted is)

enter_on : (t : Bounds) (s : KeeperState) (ask : Ask EnterAnswer) → s.step ≡ Enters → Below t s.has_points s.last s.commit → IsNowAt t (enter_ledto s ask)
unfolding enter_ledto
enter_on t s (Done enter.Entered) at is = is
enter_on t s (Done enter.DrainFull) at is = is
enter_on t s (Done enter.EpochsSpent) at is = is
enter_on t s (Done enter.Idle) at is = is
enter_on t s ask at is = still t s Enters at is

copied_below : (t : Bounds) (points : Bool) (last : Finality) (rests : Bool) (found : Option Commit) → Below t points last found → Below t points last (copied rests found)
copied_below t points last rests None is = is
copied_below t true last rests (Some c) is = is
copied_below t false last rests (Some c) is = is

copy_on : (t : Bounds) (s : KeeperState) (ask : Ask (Unit {0})) → s.step ≡ Copies → Below t s.has_points s.last s.commit → IsNowAt t (copy_ledto s ask)
unfolding copy_ledto
copy_on t s (Done its) at is = copied_below t s.has_points s.last (is_copy_resting s.copy) s.commit is
copy_on t s ask at is = still t s Copies at is

-- ---- its end is sought
slot_above : (last : Finality) (found : Option Commit) (m : SeekState) (ask : Ask DeferAnswer) → SeeksAbove last found m.step → SeeksAbove last found (slot_led m ask).step
unfolding slot_led
slot_above last found m (Done Held) is = points_above last found m
slot_above last found m (Done Spent) is = tt
slot_above last found m (Done its) is = tt
slot_above last found m ask is = is

ended_above : (last : Finality) (found : Option Commit) (end : Addr) (m : SeekState) (ask : Ask DeferAnswer) → EndsAbove end.0 last found → SeeksAbove last found m.step → SeeksAbove last found (search.defer_led end m ask).step
unfolding search.defer_led
ended_above last found end m (Done (Armed epoch)) above is = above
ended_above last found end m (Done its) above is = tt
ended_above last found end m ask above is = is

loaded_above : (t : Bounds) (reply : ℕ) (last : Finality) (found : Option Commit) → reply ≡ t.tail → HandBelow t last found → LastBelow t last → EndsAbove reply last found
loaded_above t reply last None there hand is = tt
loaded_above t reply last (Some c) there hand is = let a = hand.1 in let b = is.1 in (omega (arith, there, a), omega (arith, there, b))

seeks_above : (t : Bounds) (last : Finality) (found : Option Commit) (m : SeekState) (step : Seeking) (reply : ℕ) → m.step ≡ step → (step ≡ seeking.LoadsTail → reply ≡ t.tail) → HandBelow t last found → LastBelow t last → SeeksAbove last found step
    → SeeksAbove last found (seeking_next m step reply).step
unfolding seeking_next
seeks_above t last found m (seeking.Ended its) reply e reads hand below is = rw e is
seeks_above t last found m (seeking.LoadsOwing session) reply e reads hand below is = seek_either last found (reply == 0) (owing_from m (session + 1)) _ (owing_above last found m (session + 1)) tt
seeks_above t last found m seeking.SeeksSlot reply e reads hand below is = slot_above last found (record m { defer = defer_next m.defer reply }) _ (rw e is)
seeks_above t last found m seeking.LoadsCut reply e reads hand below is = cut_above last found m reply
seeks_above t last found m (seeking.LoadsOther first) reply e reads hand below is = other_above last found m first reply
seeks_above t last found m seeking.LoadsAgain reply e reads hand below is = taken_above last found m (serial_said reply)
seeks_above t last found m seeking.StoresWaitFlush reply e reads hand below is = tt
seeks_above t last found m seeking.LoadsTail reply e reads hand below is = loaded_above t reply last found (reads refl) hand below
seeks_above t last found m (seeking.RaisesReadOnly end) reply e reads hand below is = is
seeks_above t last found m (seeking.Defers end) reply e reads hand below is = ended_above last found end (record m { defer = defer_next m.defer reply }) _ is (rw e is)

abbrev FoundAbove : Finality → Option Commit → Ask SeekAnswer → Type 0
FoundAbove last found (Done (seek.Taken end epoch)) = EndsAbove end.0 last found
FoundAbove last found ask = ⊤

passed_above : (last : Finality) (found : Option Commit) (ask : Ask DeferAnswer) → FoundAbove last found (passed ask seek.Idle)
unfolding passed
passed_above last found (Done its) = tt
passed_above last found ask = tt

found_above : (last : Finality) (found : Option Commit) (m : SeekState) (step : Seeking) → SeeksAbove last found step → FoundAbove last found (seeking_ask m step)
unfolding seeking_ask
found_above last found m (seeking.Ended (seek.Taken end epoch)) is = is
found_above last found m (seeking.Ended its) is = tt
found_above last found m seeking.SeeksSlot is = passed_above last found (defer_ask m.defer)
found_above last found m (seeking.Defers end) is = passed_above last found (defer_ask m.defer)
found_above last found m step is = tt

taken_below : (t : Bounds) (points : Bool) (last : Finality) (found : Option Commit) (end : Addr) (epoch : ℕ) → EndsAbove end.0 last found → Below t points last found → Below t true last (points_known found end epoch)
taken_below t points last None end epoch above is = (tt, tt, is.2)
taken_below t points last (Some c) end epoch above is = (is.0, above, is.2)

seek_on : (t : Bounds) (s : KeeperState) (ask : Ask SeekAnswer) → s.step ≡ Seeks → Below t s.has_points s.last s.commit → SeeksAbove s.last s.commit s.seek.step → FoundAbove s.last s.commit ask → IsNowAt t (seek_ledto s ask)
unfolding seek_ledto
seek_on t s (Done (seek.Taken end epoch)) at is seeks found = taken_below t s.has_points s.last s.commit end epoch found is
seek_on t s (Done seek.DrainFull) at is seeks found = is
seek_on t s (Done seek.EpochsSpent) at is seeks found = is
seek_on t s (Done seek.Owing) at is seeks found = is
seek_on t s (Done seek.Idle) at is seeks found = is
seek_on t s ask at is seeks found = still t s Seeks at (is, seeks)

-- ---- it is written
used_below : (t : Bounds) (c : Commit) (last : Finality) (copy : Option Copier) (kind : CommitKind) → HandBelow t last (Some c) → TakenAbove true last (Some c) → LastBelow t last → UsedBelow t (checkpoint_used c kind last copy) (Some c)
used_below t c last copy Full hand taken is =
    let on = t.on in
    let a = hand.0 in
    let b = hand.2 in
    let d = taken.0 in
    let e = is.3 in
    (omega (arith, on, a), hand.1, omega arith, d, omega (arith, a, d), omega (arith, b, e))
used_below t c last copy Log hand taken is =
    let a = hand.0 in
    let b = hand.2 in
    let d = taken.0 in
    let e = is.3 in
    let f = is.2 in
    (is.0, is.1, omega (arith, f, b), taken.1, omega (arith, a, d), omega (arith, b, e))

taken_at : (points : Bool) (last : Finality) (found : Option Commit) → points ≡ true → TakenAbove points last found → TakenAbove true last found
taken_at true last found e is = is
taken_at false last found e is = cc

begun_on : (t : Bounds) (shape : Shape) (s : KeeperState) (found : Option Commit) → s.commit ≡ found → s.has_points ≡ true → Below t s.has_points s.last s.commit → IsNowAt t (writes_begun shape s found)
begun_on t shape s None here points is = is
begun_on t shape s (Some c) here points is =
    let hand : HandBelow t s.last (Some c) = subst (λ (x : Option Commit). HandBelow t s.last x) here is.0 in
    let taken : TakenAbove true s.last (Some c) = subst (λ (x : Option Commit). TakenAbove true s.last x) here (taken_at s.has_points s.last s.commit points is.1) in
    ((is.0, taken_at s.has_points s.last s.commit points is.1, is.2), subst (λ (x : Option Commit). UsedBelow t (checkpoint_used c c.kind s.last s.copy) x) (sym here) (used_below t c s.last s.copy c.kind hand taken is.2))

wait_on : (t : Bounds) (shape : Shape) (s : KeeperState) (ask : Ask WaitAnswer) → s.step ≡ Waits → s.has_points ≡ true → Below t s.has_points s.last s.commit → IsNowAt t (wait_ledto shape s ask)
unfolding wait_ledto
wait_on t shape s (Done wait.Flushed) at points is = begun_on t shape s s.commit refl points is
wait_on t shape s (Done wait.NotYet) at points is = is
wait_on t shape s (Done wait.Idle) at points is = is
wait_on t shape s ask at points is = still t s Waits at (is, points)

none_taken : (points : Bool) (last : Finality) → TakenAbove points last None
none_taken true last = tt
none_taken false last = tt

-- what holds with the points taken holds whether or not they are
not_taken : (points : Bool) (last : Finality) (found : Option Commit) → TakenAbove true last found → TakenAbove points last found
not_taken true last found is = is
not_taken false last found is = tt

whichever : (t : Bounds) (points : Bool) (last : Finality) (found : Option Commit) → Below t true last found → Below t points last found
whichever t points last found is = (is.0, not_taken points last found is.1, is.2)

finished_on : (t : Bounds) (s : KeeperState) (found : Option Commit) → s.commit ≡ found → Below t true s.last s.commit → UsedBelow t s.used s.commit → IsNowAt t (finished s found)
finished_on t s None here is used = whichever t s.has_points s.last s.commit is
finished_on t s (Some c) here is used =
    let its : UsedBelow t s.used (Some c) = subst (λ (x : Option Commit). UsedBelow t s.used x) here used in
    (tt, none_taken s.has_points _, (its.0, its.1, its.2, (let more = its.5 in omega (arith, more))))

finish_on : (t : Bounds) (s : KeeperState) (ask : Ask FinishAnswer) → s.step ≡ Finishes → Below t true s.last s.commit → UsedBelow t s.used s.commit → IsNowAt t (finish_ledto s ask)
unfolding finish_ledto
finish_on t s (Done its) at is used = finished_on t s s.commit refl is used
finish_on t s ask at is used = still t s Finishes at (is, used)

written_on : (t : Bounds) (s : KeeperState) (found : Option Commit) (answer : WriteAnswer) → s.step ≡ Writes → Below t true s.last s.commit → UsedBelow t s.used s.commit → IsNowAt t (write_ledto s found answer)
unfolding write_ledto
written_on t s None answer at is used = whichever t s.has_points s.last s.commit is
written_on t s (Some c) write.Written at is used = (is, used)
written_on t s (Some c) write.Device at is used = either t (must_rest s) (turned (record s { rests = true })) s (whichever t s.has_points s.last s.commit is) (still t s Writes at (is, used))
written_on t s (Some c) (write.Broken why) at is used = still t s Writes at (is, used)

called_on : (t : Bounds) (s : KeeperState) (done : Bool) → s.step ≡ Writes → Below t true s.last s.commit → UsedBelow t s.used s.commit → IsNowAt t (writes_called s done)
called_on t s true at is used = written_on t (record s { writes = commit_next s.writes true }) s.commit (commit_answer (commit_next s.writes true)) at is used
called_on t s false at is used = whichever t s.has_points s.last s.commit is

-- ---- each event
-- a load of the tail is told it
starts_read : (words : List ℕ) (shape : Shape) (p : Places) (s : KeeperState) (step : Starting) (reply : ℕ) (granted : Bool) → s.step ≡ Starts → s.start.step ≡ step → ReadsWord words shape p s (Replies reply granted) → (number : Version) → step ≡ starting.LoadsTail number
    → reply ≡ word_at words (shared_place one.Tail)
unfolding keeping_ask starting_ask passed
starts_read words shape p s step reply granted at here reads number e =
    reads (shared_place one.Tail) (ap (λ (k : Keeping). keeping_ask shape p s k) at ∙ ap (λ (x : Starting). passed (starting_ask s.start x) (CommitRefused fault.CommitRunning)) (here ∙ e))

seeks_read : (words : List ℕ) (shape : Shape) (p : Places) (s : KeeperState) (step : Seeking) (reply : ℕ) (granted : Bool) → s.step ≡ Seeks → s.seek.step ≡ step → ReadsWord words shape p s (Replies reply granted) → step ≡ seeking.LoadsTail
    → reply ≡ word_at words (shared_place one.Tail)
unfolding keeping_ask seeking_ask passed
seeks_read words shape p s step reply granted at here reads e =
    reads (shared_place one.Tail) (ap (λ (k : Keeping). keeping_ask shape p s k) at ∙ ap (λ (x : Seeking). passed (seeking_ask s.seek x) (turn_over s)) (here ∙ e))

module _ (words : List ℕ) (tail : Bounds) (here : tail.tail ≡ word_at words (shared_place one.Tail)) (shape : Shape) (p : Places) where
  read_at : (reply : ℕ) → reply ≡ word_at words (shared_place one.Tail) → reply ≡ tail.tail
  read_at reply e = e ∙ sym here

  reply_on : (s : KeeperState) (step : Keeping) (reply : ℕ) (granted : Bool) → s.rests ≡ false → s.step ≡ step → ReadsWord words shape p s (Replies reply granted) → IsNumberInTurn s.last.number step (keeping_next shape p s step reply granted).step → AtTail tail s step
      → IsNowAt tail (keeping_next shape p s step reply granted)
  unfolding keeping_next
  reply_on s (Ended its) reply granted none at reads turn is = still tail s (Ended its) at is
  reply_on s Starts reply granted none at reads turn is =
      let after : StartState = start_next s.start reply in
      let starts : StartsBelow tail after.step = starts_below tail s.start s.start.step reply refl (λ number e. read_at reply (starts_read words shape p s s.start.step reply granted at refl reads number e)) is.1 in
      start_on tail (record s { start = after }) (start_ask after) at is.0 starts (tells_below tail after after.step starts) turn
  reply_on s Maintains reply granted none at reads turn is = maintain_on tail _ (maintain_ask shape p (maintain_next shape p s.maintain reply)) at is
  reply_on s LoadsPhase reply granted none at reads turn is = phase_on tail p s s.commit (phase_said reply) granted none is
  reply_on s Enters reply granted none at reads turn is = enter_on tail _ (enter_ask (enter_next s.enter reply)) at is
  reply_on s Copies reply granted none at reads turn is = copy_on tail _ (copy_told (copy_driven s.copy reply)) at is
  reply_on s Seeks reply granted none at reads turn is =
      let after : SeekState = seek_next s.seek reply in
      let below = is.0 in
      let seeks : SeeksAbove s.last s.commit after.step = seeks_above tail s.last s.commit s.seek s.seek.step reply refl (λ e. read_at reply (seeks_read words shape p s s.seek.step reply granted at refl reads e)) below.0 below.2 is.1 in
      seek_on tail (record s { seek = after }) (seek_ask after) at is.0 seeks (found_above s.last s.commit after after.step seeks)
  reply_on s Waits reply granted none at reads turn is = wait_on tail shape _ (wait_ask (wait_next s.wait reply)) at is.1 is.0
  reply_on s Writes reply granted none at reads turn is = still tail s Writes at is
  reply_on s Finishes reply granted none at reads turn is = finish_on tail _ (finish_ask s.seek.points (finish_next s.finish reply)) at is.0 is.1
  reply_on s Sweeps reply granted none at reads turn is = sweep_moves (IsNowAt tail) s reply (λ w. still tail (record s { sweep = w }) Sweeps at is) (λ w. is)

  given_on : (s : KeeperState) (step : Keeping) (action : Action) → s.step ≡ step → AtTail tail s step → IsNowAt tail (keeping_given shape p s step action)
  unfolding keeping_given
  given_on s Maintains action at is = maintain_on tail _ (maintain_ask shape p (maintain_given s.maintain action)) at is
  given_on s step action at is = still tail s step at is

  call_on : (s : KeeperState) (step : Keeping) (done : Bool) (bytes : List ℕ) → s.step ≡ step → AtTail tail s step → IsNowAt tail (keeping_called shape p s step done bytes)
  unfolding keeping_called
  call_on s Maintains done bytes at is = maintain_on tail _ (maintain_ask shape p (maintain_called shape p s.maintain done bytes)) at is
  call_on s Writes done bytes at is = called_on tail s done at is.0 is.1
  call_on s Sweeps done bytes at is = sweep_reads (IsNowAt tail) s done bytes (λ w. still tail (record s { sweep = w }) Sweeps at is) (λ w. is) (λ w. is)
  call_on s step done bytes at is = still tail s step at is

  begins_on : (s begun : KeeperState) (step : Keeping) → s.step ≡ step → AtTail tail s step → (Below tail s.has_points s.last s.commit → IsNowAt tail begun) → IsNowAt tail (begins s (is_in_hand step) begun)
  begins_on s begun (Ended its) at is goes = goes is
  begins_on s begun Starts at is goes = still tail s Starts at is
  begins_on s begun Maintains at is goes = still tail s Maintains at is
  begins_on s begun LoadsPhase at is goes = still tail s LoadsPhase at is
  begins_on s begun Enters at is goes = still tail s Enters at is
  begins_on s begun Copies at is goes = still tail s Copies at is
  begins_on s begun Seeks at is goes = still tail s Seeks at is
  begins_on s begun Waits at is goes = still tail s Waits at is
  begins_on s begun Writes at is goes = still tail s Writes at is
  begins_on s begun Finishes at is goes = still tail s Finishes at is
  begins_on s begun Sweeps at is goes = still tail s Sweeps at is

  step_on : (s : KeeperState) (event : KeeperEvent) → ReadsWord words shape p s event → IsNumberInTurn s.last.number s.step (keeper_happens shape p s event).step → s.rests ≡ false → IsNowAt tail s → IsNowAt tail (keeper_happens shape p s event)
  unfolding keeper_happens
  step_on s BeginsTurn reads turn none is = begins_on s (turn_asked s) s.step refl is (λ below. turn_on tail s below)
  step_on s (BeginsCommit kind) reads turn none is = begins_on s (commit_asked s kind) s.step refl is (λ below. commit_on tail s kind below)
  step_on s (Replies reply granted) reads turn none is = reply_on s s.step reply granted none refl reads turn is
  step_on s (Gets action) reads turn none is = given_on s s.step action refl is
  step_on s (Calls done bytes) reads turn none is = call_on s s.step done bytes refl is

  -- and so it is where the keeper has come to
  same_at : (s a : KeeperState) → IsSameInHand s a → AtTail tail s Writes → AtTail tail a Writes
  same_at s a same is =
      subst (λ (x : Option Commit). Below tail true a.last x × UsedBelow tail a.used x) (sym same.commit)
      (subst (λ (x : Finality). Below tail true x s.commit × UsedBelow tail a.used s.commit) (sym same.last)
      (subst (λ (x : Checkpoint). Below tail true s.last s.commit × UsedBelow tail x s.commit) (sym same.used) is))

  breaks_at : (s a : KeeperState) → BreaksInRest s a → AtTail tail s Writes → IsNowAt tail a
  breaks_at s a broken is =
      still tail a (Ended (TurnRefused fault.Device)) broken.step
      (subst (λ (x : Option Commit). Below tail a.has_points a.last x) (sym broken.commit)
      (subst (λ (x : Finality). Below tail a.has_points x s.commit) (sym broken.last) (whichever tail a.has_points s.last s.commit is.0)))

  happens_on : (s : KeeperState) (event : KeeperEvent) → ReadsWord words shape p s event → IsNumberInTurn s.last.number s.step (keeper_happens shape p s event).step → IsAtTail tail s → IsAtTail tail (keeper_happens shape p s event)
  happens_on s event reads turn is = record {
    well = happens_well shape p s event is.well;
    at = kept_on (AtTail tail) shape p s event is.well (step_on s event reads turn) (λ a begun now. subst (λ (x : KeeperState). AtTail tail x Writes) (sym begun.same) now) (same_at s) (breaks_at s) is.at;
  }

  -- at each moment of these events it is at this tail
  pub run_on : (s : KeeperState) (events : List KeeperEvent) → AllRead words shape p s events → AreNumbersInTurn shape p s events → IsAtTail tail s → Always (λ (x : KeeperState). IsAtTail tail x) shape p s events
  unfolding keeper_run AllRead AreNumbersInTurn Always
  run_on s [] reads turn is = is
  run_on s (event ∷ before) reads turn is =
      let past = run_on s before reads.1 turn.1 is in
      (happens_on (keeper_run shape p s before) event reads.0 turn.0 (always_last (λ (x : KeeperState). IsAtTail tail x) shape p s before past), past)

-- ---- and at each higher one
hand_higher : (t : Bounds) (high : ℕ) (up : t.tail ≤ high) (last : Finality) (found : Option Commit) → HandBelow t last found → HandBelow (raised t high up) last found
hand_higher t high up last None is = is
hand_higher t high up last (Some c) is = let a = is.1 in (is.0, omega (arith, a, up), is.2)

below_higher : (t : Bounds) (high : ℕ) (up : t.tail ≤ high) (points : Bool) (last : Finality) (found : Option Commit) → Below t points last found → Below (raised t high up) points last found
below_higher t high up points last found is = (hand_higher t high up last found is.0, is.1, (let l = is.2 in let a = l.1 in (l.0, omega (arith, a, up), l.2, l.3)))

starts_higher : (t : Bounds) (high : ℕ) (up : t.tail ≤ high) (step : Starting) → StartsBelow t step → StartsBelow (raised t high up) step
starts_higher t high up (starting.Defers number first) is = let a = is.1 in (is.0, omega (arith, a, up))
starts_higher t high up (starting.Ended (start.Begun number first)) is = let a = is.1 in (is.0, omega (arith, a, up))
starts_higher t high up (starting.Ended its) is = tt
starts_higher t high up starting.LoadsPhase is = tt
starts_higher t high up (starting.Seeks number) is = tt
starts_higher t high up (starting.StoresPrepare number) is = tt
starts_higher t high up (starting.LoadsTail number) is = tt

used_higher : (t : Bounds) (high : ℕ) (up : t.tail ≤ high) (used : Checkpoint) (found : Option Commit) → UsedBelow t used found → UsedBelow (raised t high up) used found
used_higher t high up used None is = is
used_higher t high up used (Some c) is = let a = is.1 in (is.0, omega (arith, a, up), is.2, is.3, is.4, is.5)

higher : (t : Bounds) (high : ℕ) (up : t.tail ≤ high) (s : KeeperState) (step : Keeping) → AtTail t s step → AtTail (raised t high up) s step
higher t high up s Starts is = (below_higher t high up s.has_points s.last s.commit is.0, starts_higher t high up s.start.step is.1)
higher t high up s Seeks is = (below_higher t high up s.has_points s.last s.commit is.0, is.1)
higher t high up s Waits is = (below_higher t high up s.has_points s.last s.commit is.0, is.1)
higher t high up s Writes is = (below_higher t high up true s.last s.commit is.0, used_higher t high up s.used s.commit is.1)
higher t high up s Finishes is = (below_higher t high up true s.last s.commit is.0, used_higher t high up s.used s.commit is.1)
higher t high up s (Ended its) is = below_higher t high up s.has_points s.last s.commit is
higher t high up s Maintains is = below_higher t high up s.has_points s.last s.commit is
higher t high up s LoadsPhase is = below_higher t high up s.has_points s.last s.commit is
higher t high up s Enters is = below_higher t high up s.has_points s.last s.commit is
higher t high up s Copies is = below_higher t high up s.has_points s.last s.commit is
higher t high up s Sweeps is = below_higher t high up s.has_points s.last s.commit is

pub all_higher : (t : Bounds) (high : ℕ) (up : t.tail ≤ high) (s : KeeperState) → IsAtTail t s → IsAtTail (raised t high up) s
all_higher t high up s is = record { well = is.well; at = higher t high up s (come_to s) is.at }
