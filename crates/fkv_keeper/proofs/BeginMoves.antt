-- Where the log begins, whatever happens: for the newest finished commit, for the one in hand, and where mailboxes are served. It moves only to the end of a sweep that is done.
use Rattle.std.proofs.Common.{◌≡◌, ◌∙◌, ◌≤◌, ◌^◌, ◌⊎◌, inl, inr, ℕ, List, [], ◌∷◌, refl, ap, sym, subst, arith, Bool, true, false}
use Rattle.std.proofs.lemmas.Bool.Decides.{nat_tests}
use Rattle.std.specs.Prelude.{Option, Some, None, ◌==◌, nat_le, if◌then◌else◌, ◌&&◌, ◌||◌, not}
use Rattle.fkv_base.specs.declared.numbers.Addr.{Addr}
use Rattle.fkv_base.specs.declared.phases.Phase.TheVariants as phase
use Rattle.fkv_base.specs.declared.shapes.Shape.{Shape}
use Rattle.fkv_words.specs.declared.phase_words.PhaseSaid.{PhaseSaid}
use Rattle.fkv_words.specs.declared.phase_words.PhaseSaid.TheVariants.{Says}
use Rattle.fkv_words.specs.PhaseWords.{phase_said}
use Rattle.fkv_plane.specs.declared.actions.Action.{Action}
use Rattle.fkv_plane.specs.declared.asks.Ask.{Ask}
use Rattle.fkv_plane.specs.declared.asks.Ask.TheVariants.{Done}
use Rattle.fkv_plane.specs.declared.places.Places.{Places}
use Rattle.fkv_commit.specs.declared.commits.Commit.{Commit}
use Rattle.fkv_commit.specs.declared.entering.EnterAnswer.{EnterAnswer}
use Rattle.fkv_commit.specs.declared.entering.EnterAnswer.TheVariants as enter
use Rattle.fkv_commit.specs.declared.finishing.FinishAnswer.{FinishAnswer}
use Rattle.fkv_commit.specs.declared.seeking.SeekAnswer.{SeekAnswer}
use Rattle.fkv_commit.specs.declared.seeking.SeekAnswer.TheVariants as seek
use Rattle.fkv_commit.specs.declared.starting.StartAnswer.{StartAnswer}
use Rattle.fkv_commit.specs.declared.starting.StartAnswer.TheVariants as start
use Rattle.fkv_commit.specs.declared.waiting.WaitAnswer.{WaitAnswer}
use Rattle.fkv_commit.specs.declared.waiting.WaitAnswer.TheVariants as wait
use Rattle.fkv_base.specs.declared.commits.CommitKind.{CommitKind}
use Rattle.fkv_base.specs.declared.numbers.Version.{Version}
use Rattle.fkv_base.specs.Limits.{is_specified}
use Rattle.fkv_commit.specs.Commits.{commit_begun}
use Rattle.fkv_commit.specs.Entering.{enter_ask, enter_next}
use Rattle.fkv_commit.specs.Finishing.{finish_ask, finish_next}
use Rattle.fkv_commit.specs.Seeking.{seek_ask, seek_next}
use Rattle.fkv_commit.specs.Starting.{start_ask, start_next}
use Rattle.fkv_commit.specs.Waiting.{wait_ask, wait_next}
use Rattle.fkv_maintain.proofs.Shown.{maintain_next_begin, maintain_given_begin, maintain_called_begin, maintain_next_above, maintain_given_above, maintain_called_above}
use Rattle.fkv_maintain.specs.declared.maintaining.Maintaining.{Maintaining}
use Rattle.fkv_maintain.specs.declared.maintaining.MaintainAnswer.{MaintainAnswer}
use Rattle.fkv_maintain.specs.declared.maintaining.MaintainAnswer.TheVariants as maintain
use Rattle.fkv_maintain.specs.declared.maintaining.Maintaining.TheVariants.{Serves}
use Rattle.fkv_maintain.specs.Parts.{AboveAt, ReadsAbove}
use Rattle.fkv_maintain.specs.Maintaining.{is_flush_resting, MaintainState, maintain_ask, maintain_called, maintain_from, maintain_given, maintain_next}
use Rattle.fkv_sweep.proofs.Shown.{IsSameSweep, sweep_failed_same, sweep_next_same, sweep_read_same, sweep_turn_same}
use Rattle.fkv_sweep.specs.declared.sweeping.SweepAnswer.{SweepAnswer}
use Rattle.fkv_sweep.specs.declared.sweeping.SweepAnswer.TheVariants as sweep
use Rattle.fkv_sweep.specs.Sweeping.{Sweeper, is_sweeping, sweep_ask, sweep_begun, sweep_failed, sweep_next, sweep_read}
use Rattle.fkv_sweep.specs.Sweeping as sweeping
use Rattle.fkv_manifest.specs.declared.answers.WriteAnswer.{WriteAnswer}
use Rattle.fkv_manifest.specs.declared.answers.WriteAnswer.TheVariants as write
use Rattle.fkv_manifest.specs.Committing.{commit_answer, commit_next}
use Rattle.fkv_keeper.specs.declared.keepers.Keeping.{Keeping}
use Rattle.fkv_keeper.specs.declared.keepers.Keeping.TheVariants.{Ended, Starts, Maintains, LoadsPhase, Enters, Copies, Seeks, Waits, Writes, Finishes, Sweeps}
use Rattle.fkv_keeper.specs.Keeping.{Finality, KeeperState, begin_next, finality_of, is_full, is_swept, may_set, sweep_called, sweep_ledto, sweep_set, sweeps_next, must_rest, commit_asked, turn_asked, parts_begun, copied, points_known, copies, copies_next, copy_driven, copy_ledto, copy_told, enter_ledto, finish_ledto, finished, is_copy_resting, keeping_called, keeping_given, keeping_next, maintain_ledto, part_begun, phase_ledto, seek_ledto, start_ledto, turned, wait_ledto, write_ledto, writes_begun, writes_called, serves_alone}
use Rattle.fkv_keeper.specs.KeeperRun.{BeginsCommit, BeginsTurn, Calls, Gets, IsOpened, KeeperEvent, Replies, begins, is_in_hand, keeper_happens, keeper_run}
use Rattle.fkv_keeper.specs.SlotLaws.{HasBegin, HasMoved}

-- the commit's log begins where the sweep ends, which is done and began where the log of the newest finished one does
record IsMoved (w : Sweeper) (last : Finality) (c : Commit) : Type 0 where
  swept : is_swept w ≡ true
  from : w.from ≡ last.begin
  to : c.begin ≡ w.to
  in_force : c.begin.0 ≤ last.checkpoint.first.0
  before : c.begin.0 ≤ c.first.0

-- what holds of the mailboxes, of the sweep, and of the commit in hand
record Holds (m : MaintainState) (w : Sweeper) (last : Finality) (found : Option Commit) : Type 0 where
  serves : m.begin ≡ last.begin
  reads : ReadsAbove m
  on : w.from.0 ≤ w.to.0
  sweeps : (w.from ≡ last.begin) ⊎ ((is_swept w ≡ true) × (w.to ≡ last.begin))
  commit : (c : Commit) → found ≡ Some c → (c.begin ≡ last.begin) ⊎ IsMoved w last c

-- a sweep's turn has no commit beside it
record IsAlone (w : Sweeper) (last : Finality) (found : Option Commit) : Type 0 where
  none : found ≡ None
  from : w.from ≡ last.begin

abbrev HoldsAll : KeeperState → Type 0
HoldsAll s = Holds s.maintain s.sweep s.last s.commit

abbrev Good : KeeperState → Type 0
Good s = HoldsAll s × (s.step ≡ Sweeps → IsAlone s.sweep s.last s.commit)

some_same : (its c : Commit) → Some its ≡ Some c → its ≡ c
some_same its c both = cc

none_some : {X : Type 0} (c : Commit) → None ≡ Some c → X
none_some c e = cc

either : (c : Bool) (a b : KeeperState) → Good a → Good b → Good (if c then a else b)
either true a b one other = one
either false a b one other = other

begins_good : (s begun : KeeperState) (busy : Bool) → Good s → Good begun → Good (begins s busy begun)
begins_good s begun true one other = one
begins_good s begun false one other = other

-- ---- another commit in hand, another turn's part, and another sweep
-- a commit that begins where the one in hand does, and has its first address
commit_holds : (m : MaintainState) (w : Sweeper) (last : Finality) (found after : Option Commit)
    → ((c : Commit) → after ≡ Some c → (its : Commit) × (found ≡ Some its) × (c.begin ≡ its.begin) × (c.first ≡ its.first))
    → Holds m w last found → Holds m w last after
commit_holds m w last found after was holds = record {
  serves = holds.serves;
  reads = holds.reads;
  on = holds.on;
  sweeps = holds.sweeps;
  commit = λ c e. begins c (was c e);
}
  where
    moves : (c its : Commit) → c.begin ≡ its.begin → c.first ≡ its.first → (its.begin ≡ last.begin) ⊎ IsMoved w last its → (c.begin ≡ last.begin) ⊎ IsMoved w last c
    moves c its begin first (inl same) = inl (begin ∙ same)
    moves c its begin first (inr moved) = inr (record {
      swept = moved.swept;
      from = moved.from;
      to = begin ∙ moved.to;
      in_force = subst (λ (a : Addr). a.0 ≤ last.checkpoint.first.0) (sym begin) moved.in_force;
      before = let its_first : c.begin.0 ≤ its.first.0 = subst (λ (a : Addr). a.0 ≤ its.first.0) (sym begin) moved.before in subst (λ (a : Addr). c.begin.0 ≤ a.0) (sym first) its_first;
    })

    begins : (c : Commit) → (its : Commit) × (found ≡ Some its) × (c.begin ≡ its.begin) × (c.first ≡ its.first) → (c.begin ≡ last.begin) ⊎ IsMoved w last c
    begins c (its, e, begin, first) = moves c its begin first (holds.commit its e)

-- none
none_holds : (m : MaintainState) (w : Sweeper) (last : Finality) (found : Option Commit) → Holds m w last found → Holds m w last None
none_holds m w last found holds = record { serves = holds.serves; reads = holds.reads; on = holds.on; sweeps = holds.sweeps; commit = λ c e. none_some c e }

maintain_holds : (m after : MaintainState) (w : Sweeper) (last : Finality) (found : Option Commit) → after.begin ≡ m.begin → (ReadsAbove m → ReadsAbove after) → Holds m w last found → Holds after w last found
maintain_holds m after w last found same above holds = record { serves = same ∙ holds.serves; reads = above holds.reads; on = holds.on; sweeps = holds.sweeps; commit = holds.commit }

-- while it is alone, the sweep goes on
sweep_holds : (m : MaintainState) (w after : Sweeper) (last : Finality) (found : Option Commit) → IsSameSweep w after → IsAlone w last found → Holds m w last found → Holds m after last found
sweep_holds m w after last found same alone holds = record {
  serves = holds.serves;
  reads = holds.reads;
  on = let from = ap (λ (a : Addr). a.0) same.from in let to = ap (λ (a : Addr). a.0) same.to in let on = holds.on in omega (arith, from, to, on);
  sweeps = inl (same.from ∙ alone.from);
  commit = λ c e. none_some c (sym alone.none ∙ e);
}

still_alone : (w after : Sweeper) (last : Finality) (found : Option Commit) → IsSameSweep w after → IsAlone w last found → IsAlone after last found
still_alone w after last found same alone = record { none = alone.none; from = same.from ∙ alone.from }

-- ---- a commit begins
all_true : (a b c : Bool) → (a && b && c) ≡ true → (a ≡ true) × (b ≡ true) × (c ≡ true)
all_true true true true e = (refl, refl, refl)
all_true true true false e = cc
all_true true false c e = cc
all_true false b c e = cc

abbrev is_taken : Sweeper → Finality → Addr → Bool
is_taken w last first = is_swept w && nat_le w.to.0 last.checkpoint.first.0 && nat_le w.to.0 first.0

next_begin : (m : MaintainState) (w : Sweeper) (last : Finality) (found : Option Commit) (c : Commit) → Holds m w last found → c.begin ≡ (if is_taken w last c.first then w.to else last.begin) → (c.begin ≡ last.begin) ⊎ IsMoved w last c
next_begin m w last found c holds begins = cases (is_taken w last c.first) refl begins
  where
    moves : is_taken w last c.first ≡ true → c.begin ≡ w.to → (w.from ≡ last.begin) ⊎ ((is_swept w ≡ true) × (w.to ≡ last.begin)) → (c.begin ≡ last.begin) ⊎ IsMoved w last c
    moves taken to (inr swept) = inl (to ∙ swept.1)
    moves taken to (inl from) =
        let its = all_true (is_swept w) (nat_le w.to.0 last.checkpoint.first.0) (nat_le w.to.0 c.first.0) taken in
        let force = its.1 in
        let first = its.2 in
        let in_force : w.to.0 ≤ last.checkpoint.first.0 = grind (arith, nat_tests, force) in
        let before : w.to.0 ≤ c.first.0 = grind (arith, nat_tests, first) in
        inr (record {
          swept = its.0;
          from = from;
          to = to;
          in_force = subst (λ (a : Addr). a.0 ≤ last.checkpoint.first.0) (sym to) in_force;
          before = subst (λ (a : Addr). a.0 ≤ c.first.0) (sym to) before;
        })

    cases : (b : Bool) → is_taken w last c.first ≡ b → c.begin ≡ (if b then w.to else last.begin) → (c.begin ≡ last.begin) ⊎ IsMoved w last c
    cases true taken to = moves taken to holds.sweeps
    cases false other same = inl same

begun_holds : (s : KeeperState) (number : Version) (kind : CommitKind) (first : Addr) → HoldsAll s → Holds s.maintain s.sweep s.last (Some (commit_begun number kind (begin_next s first) first))
begun_holds s number kind first holds = record {
  serves = holds.serves;
  reads = holds.reads;
  on = holds.on;
  sweeps = holds.sweeps;
  commit = λ c e. subst (λ (x : Commit). (x.begin ≡ s.last.begin) ⊎ IsMoved s.sweep s.last x) (some_same its c e) (next_begin s.maintain s.sweep s.last s.commit its holds refl);
}
  where
    its : Commit
    its = commit_begun number kind (begin_next s first) first

start_good : (s : KeeperState) (ask : Ask StartAnswer) → Good s → Good (start_ledto s ask)
unfolding start_ledto
start_good s (Done (start.Begun number first)) was = (begun_holds s number s.start.asked.kind first was.0, λ e. cc)
start_good s (Done (start.Refused why)) was = (was.0, λ e. cc)
start_good s (Done start.Idle) was = (was.0, λ e. cc)
start_good s ask was = was

maintain_good : (s : KeeperState) (ask : Ask MaintainAnswer) → Good s → Good (maintain_ledto s ask)
unfolding maintain_ledto
maintain_good s (Done maintain.Through) was = (was.0, λ e. cc)
maintain_good s (Done maintain.Spent) was = (was.0, λ e. cc)
maintain_good s (Done maintain.Broken) was = (was.0, λ e. cc)
maintain_good s ask was = was

-- ---- what comes behind the phase
copies_good : (p : Places) (s : KeeperState) (granted : Bool) → Good s → Good (copies p s granted)
copies_good p s granted was = either (granted || is_copy_resting s.copy) _ _ (was.0, λ e. cc) (was.0, λ e. cc)

next_good : (p : Places) (s : KeeperState) (c : Commit) (granted : Bool) (other : KeeperState) → Good s → Good other → Good (copies_next p s c granted other)
next_good p s c granted other was its = either c.is_copied other (copies p s granted) its (copies_good p s granted was)

part_good : (p : Places) (s : KeeperState) (c : Commit) (said : PhaseSaid) (granted : Bool) → Good s → Good (part_begun p s c said granted)
part_good p s c (Says phase.InProgress version) granted was = either s.has_entered _ _ (next_good p s c granted (turned s) was (was.0, λ e. cc)) (was.0, λ e. cc)
part_good p s c (Says phase.WaitPending version) granted was = next_good p s c granted _ was (was.0, λ e. cc)
part_good p s c (Says phase.WaitFlush version) granted was = either s.has_points _ _ (was.0, λ e. cc) (was.0, λ e. cc)
part_good p s c said granted was = (was.0, λ e. cc)

-- a sweep that isn't done began where the log of the newest finished commit does
not_done : (m : MaintainState) (w : Sweeper) (last : Finality) (found : Option Commit) → is_sweeping w ≡ true → Holds m w last found → w.from ≡ last.begin
not_done m w last found goes_on holds = from holds.sweeps
  where
    from : (w.from ≡ last.begin) ⊎ ((is_swept w ≡ true) × (w.to ≡ last.begin)) → w.from ≡ last.begin
    from (inl same) = same
    from (inr swept) = let done = swept.0 in absurd (grind (arith, nat_tests, done, goes_on))

sweeps_good : (s : KeeperState) (granted : Bool) → s.commit ≡ None → Good s → Good (sweeps_next s granted)
sweeps_good s granted none was = cases granted (is_sweeping s.sweep) refl
  where
    cases : (granted goes_on : Bool) → is_sweeping s.sweep ≡ goes_on
        → Good (if granted && goes_on then record s { sweep = sweeping.turn_begun s.sweep; is_granted = true; step = Sweeps } else turned (record s { is_granted = granted }))
    cases true true at =
        let alone : IsAlone s.sweep s.last s.commit = record { none = none; from = not_done s.maintain s.sweep s.last s.commit at was.0 } in
        let same = sweep_turn_same s.sweep in
        (sweep_holds s.maintain s.sweep (sweeping.turn_begun s.sweep) s.last s.commit same alone was.0, λ e. still_alone s.sweep (sweeping.turn_begun s.sweep) s.last s.commit same alone)
    cases true false at = (was.0, λ e. cc)
    cases false goes_on at = (was.0, λ e. cc)

phase_good : (p : Places) (s : KeeperState) (found : Option Commit) (said : PhaseSaid) (granted : Bool) → s.commit ≡ found → Good s → Good (phase_ledto p s found said granted)
unfolding phase_ledto
phase_good p s None said granted in_hand was = either (is_flush_resting s.maintain) _ _ (was.0, λ e. cc) (sweeps_good s granted in_hand was)
phase_good p s (Some c) said granted in_hand was =
    either s.rests _ _ (either granted _ _ (was.0, λ e. cc) (was.0, λ e. cc)) (either (is_flush_resting s.maintain) _ _ (was.0, λ e. cc) (part_good p s c said granted was))

-- ---- the commit's parts
enter_good : (s : KeeperState) (ask : Ask EnterAnswer) → Good s → Good (enter_ledto s ask)
unfolding enter_ledto
enter_good s (Done enter.Entered) was = (was.0, λ e. cc)
enter_good s (Done enter.DrainFull) was = (was.0, λ e. cc)
enter_good s (Done enter.EpochsSpent) was = (was.0, λ e. cc)
enter_good s (Done enter.Idle) was = (was.0, λ e. cc)
enter_good s ask was = was

copied_holds : (m : MaintainState) (w : Sweeper) (last : Finality) (rests : Bool) (found : Option Commit) → Holds m w last found → Holds m w last (copied rests found)
copied_holds m w last rests None holds = holds
copied_holds m w last rests (Some its) holds =
    let now = record its { is_copied = its.is_copied || not rests } in
    commit_holds m w last (Some its) (Some now) (λ c e. let same = some_same now c e in (its, refl, ap (λ (x : Commit). x.begin) (sym same), ap (λ (x : Commit). x.first) (sym same))) holds

copy_good : (s : KeeperState) (ask : Ask (Unit {0})) → Good s → Good (copy_ledto s ask)
unfolding copy_ledto
copy_good s (Done its) was = (copied_holds s.maintain s.sweep s.last (is_copy_resting s.copy) s.commit was.0, λ e. cc)
copy_good s ask was = was

known_holds : (m : MaintainState) (w : Sweeper) (last : Finality) (found : Option Commit) (end : Addr) (epoch : ℕ) → Holds m w last found → Holds m w last (points_known found end epoch)
known_holds m w last None end epoch holds = holds
known_holds m w last (Some its) end epoch holds =
    let now = record its { end = end; epoch = epoch } in
    commit_holds m w last (Some its) (Some now) (λ c e. let same = some_same now c e in (its, refl, ap (λ (x : Commit). x.begin) (sym same), ap (λ (x : Commit). x.first) (sym same))) holds

seek_good : (s : KeeperState) (ask : Ask SeekAnswer) → Good s → Good (seek_ledto s ask)
unfolding seek_ledto
seek_good s (Done (seek.Taken end epoch)) was = (known_holds s.maintain s.sweep s.last s.commit end epoch was.0, λ e. cc)
seek_good s (Done seek.DrainFull) was = (was.0, λ e. cc)
seek_good s (Done seek.EpochsSpent) was = (was.0, λ e. cc)
seek_good s (Done seek.Owing) was = (was.0, λ e. cc)
seek_good s (Done seek.Idle) was = (was.0, λ e. cc)
seek_good s ask was = was

begun_good : (shape : Shape) (s : KeeperState) (found : Option Commit) → Good s → Good (writes_begun shape s found)
begun_good shape s None was = (was.0, λ e. cc)
begun_good shape s (Some c) was = (was.0, λ e. cc)

wait_good : (shape : Shape) (s : KeeperState) (ask : Ask WaitAnswer) → Good s → Good (wait_ledto shape s ask)
unfolding wait_ledto
wait_good shape s (Done wait.Flushed) was = begun_good shape s s.commit was
wait_good shape s (Done wait.NotYet) was = (was.0, λ e. cc)
wait_good shape s (Done wait.Idle) was = (was.0, λ e. cc)
wait_good shape s ask was = was

write_good : (s : KeeperState) (found : Option Commit) (answer : WriteAnswer) → Good s → Good (write_ledto s found answer)
unfolding write_ledto
write_good s None answer was = (was.0, λ e. cc)
write_good s (Some c) write.Written was = (was.0, λ e. cc)
write_good s (Some c) write.Device was = either (must_rest s) _ _ (was.0, λ e. cc) was
write_good s (Some c) (write.Broken why) was = was

called_good : (s : KeeperState) (done : Bool) → Good s → Good (writes_called s done)
called_good s true was = write_good (record s { writes = commit_next s.writes true }) s.commit (commit_answer (commit_next s.writes true)) was
called_good s false was = (was.0, λ e. cc)

-- ---- the commit in hand is finished: its log's begin is the newest
from_above : (begin : Addr) (m : MaintainState) (step : Maintaining) → AboveAt (maintain_from begin m) step
from_above begin m Serves = tt
from_above begin m step = tt

pub fourth_true : (a b c d e : Bool) → (a && b && c && d && e) ≡ true → d ≡ true
fourth_true true true true true e t = refl
fourth_true true true true false e t = cc
fourth_true true true false d e t = cc
fourth_true true false c d e t = cc
fourth_true false b c d e t = cc

finished_holds : (s : KeeperState) (c : Commit) → s.commit ≡ Some c → HoldsAll s → Holds (maintain_from c.begin s.maintain) (sweep_set s c) (finality_of s c) None
finished_holds s c in_hand holds = cases (may_set s c) refl
  where
    stays : (c.begin ≡ s.last.begin) ⊎ IsMoved s.sweep s.last c → (s.sweep.from ≡ s.last.begin) ⊎ ((is_swept s.sweep ≡ true) × (s.sweep.to ≡ s.last.begin))
        → (s.sweep.from ≡ c.begin) ⊎ ((is_swept s.sweep ≡ true) × (s.sweep.to ≡ c.begin))
    stays (inl same) (inl from) = inl (from ∙ sym same)
    stays (inl same) (inr swept) = inr (swept.0, swept.1 ∙ sym same)
    stays (inr moved) its = inr (moved.swept, sym moved.to)

    cases : (b : Bool) → may_set s c ≡ b → Holds (maintain_from c.begin s.maintain) (if b then sweep_begun s.sweep.shape s.sweep.places c.begin c.first else s.sweep) (finality_of s c) None
    cases true set =
        let t = fourth_true (not (is_specified s.start.asked.class)) (is_full c.kind) (s.sweep.at.0 == s.sweep.from.0 || s.sweep.to.0 == c.begin.0) (nat_le c.begin.0 c.first.0) (nat_le c.first.0 (2 ^ 48)) set in
        record { serves = refl; reads = from_above c.begin s.maintain s.maintain.step; on = grind (arith, nat_tests, t); sweeps = inl refl; commit = λ c e. none_some c e }
    cases false none = record { serves = refl; reads = from_above c.begin s.maintain s.maintain.step; on = holds.on; sweeps = stays (holds.commit c in_hand) holds.sweeps; commit = λ c e. none_some c e }

finished_good : (s : KeeperState) (found : Option Commit) → s.commit ≡ found → Good s → Good (finished s found)
finished_good s None in_hand was = (was.0, λ e. cc)
finished_good s (Some c) in_hand was = (finished_holds s c in_hand was.0, λ e. cc)

finish_good : (s : KeeperState) (ask : Ask FinishAnswer) → Good s → Good (finish_ledto s ask)
unfolding finish_ledto
finish_good s (Done its) was = finished_good s s.commit refl was
finish_good s ask was = was

-- ---- a sweep's turn goes on
led_good : (s : KeeperState) (ask : Ask SweepAnswer) → Good s → Good (sweep_ledto s ask)
unfolding sweep_ledto
led_good s (Done sweep.Through) was = (was.0, λ e. cc)
led_good s ask was = was

-- by another sweep of the same records
sweep_good : (s : KeeperState) (after : Sweeper) (ask : Ask SweepAnswer) → s.step ≡ Sweeps → IsSameSweep s.sweep after → Good s → Good (sweep_ledto (record s { sweep = after }) ask)
sweep_good s after ask at same was =
    let alone = was.1 at in
    led_good (record s { sweep = after }) ask (sweep_holds s.maintain s.sweep after s.last s.commit same alone was.0, λ e. still_alone s.sweep after s.last s.commit same alone)

read_good : (s : KeeperState) (done : Bool) (bytes : List ℕ) → s.step ≡ Sweeps → Good s → Good (sweep_called s done bytes)
read_good s true bytes at was = sweep_good s (sweep_read s.sweep bytes) (sweep_ask (sweep_read s.sweep bytes)) at (sweep_read_same s.sweep bytes) was
read_good s false bytes at was = (sweep_holds s.maintain s.sweep (sweep_failed s.sweep) s.last s.commit (sweep_failed_same s.sweep) (was.1 at) was.0, λ e. cc)

-- ---- each event of the keeper
turn_good : (shape : Shape) (p : Places) (s : KeeperState) (after : MaintainState) (ask : Ask MaintainAnswer) → s.step ≡ Maintains → after.begin ≡ s.maintain.begin → (ReadsAbove s.maintain → ReadsAbove after) → Good s → Good (maintain_ledto (record s { maintain = after }) ask)
turn_good shape p s after ask at same above was =
    maintain_good (record s { maintain = after }) ask (maintain_holds s.maintain after s.sweep s.last s.commit same above was.0, λ e. let clash : Maintains ≡ Sweeps = sym at ∙ e in cc)

reply_good : (shape : Shape) (p : Places) (s : KeeperState) (step : Keeping) (reply : ℕ) (granted : Bool) → s.step ≡ step → Good s → Good (keeping_next shape p s step reply granted)
unfolding keeping_next
reply_good shape p s (Ended its) reply granted at was = was
reply_good shape p s Starts reply granted at was = start_good _ (start_ask (start_next s.start reply)) was
reply_good shape p s Maintains reply granted at was =
    turn_good shape p s (maintain_next shape p s.maintain reply) (maintain_ask shape p (maintain_next shape p s.maintain reply)) at (maintain_next_begin shape p s.maintain reply) (maintain_next_above shape p s.maintain reply) was
reply_good shape p s LoadsPhase reply granted at was = phase_good p s s.commit (phase_said reply) granted refl was
reply_good shape p s Enters reply granted at was = enter_good _ (enter_ask (enter_next s.enter reply)) was
reply_good shape p s Copies reply granted at was = copy_good _ (copy_told (copy_driven s.copy reply)) was
reply_good shape p s Seeks reply granted at was = seek_good _ (seek_ask (seek_next s.seek reply)) was
reply_good shape p s Waits reply granted at was = wait_good shape _ (wait_ask (wait_next s.wait reply)) was
reply_good shape p s Writes reply granted at was = was
reply_good shape p s Finishes reply granted at was = finish_good _ (finish_ask s.seek.points (finish_next s.finish reply)) was
reply_good shape p s Sweeps reply granted at was = sweep_good s (sweep_next s.sweep reply) (sweep_ask (sweep_next s.sweep reply)) at (sweep_next_same s.sweep reply) was

given_good : (shape : Shape) (p : Places) (s : KeeperState) (step : Keeping) (action : Action) → s.step ≡ step → Good s → Good (keeping_given shape p s step action)
unfolding keeping_given
given_good shape p s Maintains action at was = turn_good shape p s (maintain_given s.maintain action) (maintain_ask shape p (maintain_given s.maintain action)) at (maintain_given_begin s.maintain action) (maintain_given_above s.maintain action) was
given_good shape p s step action at was = was

device_good : (shape : Shape) (p : Places) (s : KeeperState) (step : Keeping) (done : Bool) (bytes : List ℕ) → s.step ≡ step → Good s → Good (keeping_called shape p s step done bytes)
unfolding keeping_called
device_good shape p s Maintains done bytes at was =
    turn_good shape p s (maintain_called shape p s.maintain done bytes) (maintain_ask shape p (maintain_called shape p s.maintain done bytes)) at (maintain_called_begin shape p s.maintain done bytes) (maintain_called_above shape p s.maintain done bytes) was
device_good shape p s Writes done bytes at was = called_good s done was
device_good shape p s Sweeps done bytes at was = read_good s done bytes at was
device_good shape p s step done bytes at was = was

-- the parts of a turn begin
parts_holds : (alone : Bool) (m : MaintainState) (w : Sweeper) (last : Finality) (found : Option Commit) → Holds m w last found → Holds (parts_begun alone m) w last found
parts_holds true m w last found holds = record { serves = holds.serves; reads = tt; on = holds.on; sweeps = holds.sweeps; commit = holds.commit }
parts_holds false m w last found holds = record { serves = holds.serves; reads = tt; on = holds.on; sweeps = holds.sweeps; commit = holds.commit }

happens_good : (shape : Shape) (p : Places) (s : KeeperState) (event : KeeperEvent) → Good s → Good (keeper_happens shape p s event)
unfolding keeper_happens
happens_good shape p s BeginsTurn was = begins_good s (turn_asked s) (is_in_hand s.step) was (either s.is_broken _ _ (was.0, λ e. cc) (parts_holds (serves_alone s) s.maintain s.sweep s.last s.commit was.0, λ e. cc))
happens_good shape p s (BeginsCommit kind) was = begins_good s (commit_asked s kind) (is_in_hand s.step) was (either s.is_broken _ _ (was.0, λ e. cc) (either s.rests _ _ (was.0, λ e. cc) (was.0, λ e. cc)))
happens_good shape p s (Replies reply granted) was = reply_good shape p s s.step reply granted refl was
happens_good shape p s (Gets action) was = given_good shape p s s.step action refl was
happens_good shape p s (Calls done bytes) was = device_good shape p s s.step done bytes refl was

run_good : (shape : Shape) (p : Places) (opening : KeeperState) (events : List KeeperEvent) → Good opening → Good (keeper_run shape p opening events)
unfolding keeper_run
run_good shape p opening [] was = was
run_good shape p opening (event ∷ before) was = happens_good shape p (keeper_run shape p opening before) event (run_good shape p opening before was)

-- as it is opened
opened_good : (opening : KeeperState) → IsOpened opening → Good opening
opened_good opening opened = (
  record {
    serves = opened.serves_from;
    reads = subst (λ (step : Maintaining). AboveAt opening.maintain step) (sym opened.turns_rest) tt;
    on = subst (λ (w : Sweeper). w.from.0 ≤ w.to.0) (sym opened.none_swept.2) (omega arith);
    sweeps = inl (ap (λ (w : Sweeper). w.from) opened.none_swept.2);
    commit = λ c in_hand. none_some c (sym opened.no_commit ∙ in_hand);
  },
  λ e. let clash : true ≡ false = sym (ap is_in_hand e) ∙ opened.none_in_hand in cc,
)

-- it says what crates above speak of
begin_on : (w : Sweeper) (last : Finality) (c : Commit) → w.from.0 ≤ w.to.0 → IsMoved w last c → last.begin.0 ≤ c.begin.0
begin_on w last c on moved = let from = ap (λ (a : Addr). a.0) moved.from in let to = ap (λ (a : Addr). a.0) moved.to in omega (arith, from, to, on)

has_begin : (s : KeeperState) → Good s → HasBegin s
has_begin s good = record {
  serves = good.0.serves;
  reads = good.0.reads;
  on = good.0.on;
  sweeps = good.0.sweeps;
  alone = λ e. (good.1 e).none;
  from = λ e. (good.1 e).from;
  commit = λ c in_hand. moves c (good.0.commit c in_hand);
}
  where
    moves : (c : Commit) → (c.begin ≡ s.last.begin) ⊎ IsMoved s.sweep s.last c → (c.begin ≡ s.last.begin) ⊎ HasMoved s c
    moves c (inl same) = inl same
    moves c (inr moved) = inr (record { swept = moved.swept; from = moved.from; to = moved.to; on = begin_on s.sweep s.last c good.0.on moved; in_force = moved.in_force; before = moved.before })

pub run_begins : (shape : Shape) (p : Places) (opening : KeeperState) (events : List KeeperEvent) → IsOpened opening → HasBegin (keeper_run shape p opening events)
run_begins shape p opening events opened = has_begin (keeper_run shape p opening events) (run_good shape p opening events (opened_good opening opened))
