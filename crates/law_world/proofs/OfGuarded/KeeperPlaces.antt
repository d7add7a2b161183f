-- Over every run of a keeper the buckets that its copy of the index and its sweep are at are there, and so are the sessions whose points it seeks.
use Rattle.std.proofs.Common.{◌≡◌, ℕ, ◌+◌, ◌-◌, ◌<◌, ◌≤◌, ◌^◌, refl, sym, subst, arith, List, [], ◌∷◌, length, Bool, true, false, ◌∙◌, ap, inl, inr}
use Rattle.std.specs.Prelude.{◌&&◌, ◌==◌, nat_lt, nat_le, max, ⊤, if◌then◌else◌, Option, Some, None, ◌||◌, not}
use Rattle.std.proofs.lemmas.Bool.Decides.{nat_tests}
use Rattle.fkv_base.specs.declared.numbers.Addr.{Addr}
use Rattle.fkv_plane.specs.Places.{bucket_place}
use Rattle.fkv_index.specs.Slots.{bucket_slots, link_of}
use Rattle.fkv_checkpoint.specs.declared.copying.CopyStep.{CopyStep}
use Rattle.fkv_checkpoint.specs.declared.copying.CopyStep.TheVariants as copy
use Rattle.fkv_checkpoint.specs.declared.copying.Copying.{Copying}
use Rattle.fkv_checkpoint.specs.Copying.{Copier, bucket_entered, copy_next, copy_step_next, link_led, slot_after, copy_begun, first_copying}
use Rattle.fkv_commit.specs.declared.deferring.DeferAnswer.{DeferAnswer}
use Rattle.fkv_commit.specs.declared.deferring.DeferAnswer.TheVariants as defer
use Rattle.fkv_commit.specs.declared.seeking.Seeking.{Seeking}
use Rattle.fkv_commit.specs.declared.seeking.Seeking.TheVariants as seeking
use Rattle.fkv_commit.specs.Cuts.{serial_said, is_cut_of}
use Rattle.fkv_commit.specs.Deferring.{defer_next}
use Rattle.fkv_commit.specs.Seeking.{SeekState, cut_met, defer_led, other_met, owing_from, point_taken, with_point, points_from, seek_next, seeking_next, slot_led}
use Rattle.fkv_keeper.specs.CheckpointLaws.{CopiesOnce, IsCopyAfter}
use Rattle.fkv_keeper.specs.KeeperRun.{BeginsCommit, BeginsTurn, Calls, Gets, IsOpened, KeeperEvent, Replies, begins, is_in_hand, keeper_happens, keeper_run}
use Rattle.fkv_keeper.specs.Keeping.{must_rest, KeeperState, commit_asked, copies, copies_next, copy_driven, copy_ledto, enter_ledto, finish_ledto, finished, keeping_called, keeping_given, keeping_next, maintain_ledto, part_begun, phase_ledto, seek_ledto, start_ledto, sweep_called, sweep_ledto, turn_asked, wait_ledto, write_ledto, writes_begun, writes_called, is_copy_resting}
use Rattle.fkv_base.specs.declared.phases.Phase.TheVariants as phase
use Rattle.fkv_base.specs.declared.shapes.Shape.{Shape}
use Rattle.fkv_words.specs.declared.phase_words.PhaseSaid.{PhaseSaid}
use Rattle.fkv_words.specs.declared.phase_words.PhaseSaid.TheVariants.{Says}
use Rattle.fkv_words.specs.PhaseWords.{phase_said}
use Rattle.fkv_plane.specs.declared.actions.Action.{Action}
use Rattle.fkv_plane.specs.declared.asks.Ask.{Ask}
use Rattle.fkv_plane.specs.declared.asks.Ask.TheVariants.{Done}
use Rattle.fkv_plane.specs.declared.places.Places.{Places}
use Rattle.fkv_commit.specs.declared.commits.Commit.{Commit}
use Rattle.fkv_commit.specs.declared.entering.EnterAnswer.{EnterAnswer}
use Rattle.fkv_commit.specs.declared.entering.EnterAnswer.TheVariants as enter
use Rattle.fkv_commit.specs.declared.finishing.FinishAnswer.{FinishAnswer}
use Rattle.fkv_commit.specs.declared.seeking.SeekAnswer.{SeekAnswer}
use Rattle.fkv_commit.specs.declared.seeking.SeekAnswer.TheVariants as seek
use Rattle.fkv_commit.specs.declared.starting.StartAnswer.{StartAnswer}
use Rattle.fkv_commit.specs.declared.starting.StartAnswer.TheVariants as start
use Rattle.fkv_commit.specs.declared.waiting.WaitAnswer.{WaitAnswer}
use Rattle.fkv_commit.specs.declared.waiting.WaitAnswer.TheVariants as wait
use Rattle.fkv_commit.specs.Entering.{enter_next}
use Rattle.fkv_commit.specs.Finishing.{finish_next}
use Rattle.fkv_commit.specs.Starting.{start_next}
use Rattle.fkv_commit.specs.Waiting.{wait_next}
use Rattle.fkv_manifest.specs.declared.answers.WriteAnswer.{WriteAnswer}
use Rattle.fkv_manifest.specs.declared.answers.WriteAnswer.TheVariants as write
use Rattle.fkv_manifest.specs.Committing.{commit_answer, commit_next}
use Rattle.fkv_maintain.specs.declared.maintaining.MaintainAnswer.{MaintainAnswer}
use Rattle.fkv_maintain.specs.declared.maintaining.MaintainAnswer.TheVariants as maintain
use Rattle.fkv_maintain.specs.Maintaining.{maintain_called, maintain_given, maintain_next, is_flush_resting}
use Rattle.fkv_keeper.specs.declared.keepers.Keeping.{Keeping}
use Rattle.fkv_keeper.specs.declared.keepers.Keeping.TheVariants.{Ended, Starts, Maintains, LoadsPhase, Enters, Copies, Seeks, Waits, Writes, Finishes, Sweeps}
use Rattle.fkv_keeper.proofs.Shown.{IsOfStore, each_move, run_of_store, was_in_hand}
use Rattle.fkv_sweep.specs.declared.sweeping.SweepAnswer.{SweepAnswer}
use Rattle.fkv_sweep.specs.declared.sweeping.SweepAnswer.TheVariants as swept
use Rattle.fkv_sweep.specs.Sweeping.{is_sweeping, sweep_ask, sweep_next, sweep_read}
use Rattle.fkv_sweep.proofs.Shown.{sweep_next_same, sweep_read_same}
use Rattle.law_world.proofs.OfGuarded.SweepPlaces.{IsSweepRow, sweep_next_row, sweep_read_row, turn_begun_row}

-- the seek is at a session whose points it seeks
abbrev pub SeekRow : SeekState → Seeking → Type 0
SeekRow s (seeking.LoadsOwing session) = session < s.sessions
SeekRow s seeking.LoadsCut = length s.points < s.sessions
SeekRow s (seeking.LoadsOther first) = length s.points < s.sessions
SeekRow s seeking.LoadsAgain = length s.points < s.sessions
SeekRow s step = ⊤

abbrev IsSeekRow : SeekState → Type 0
IsSeekRow s = SeekRow s s.step

either_seek : (b : Bool) (x y : SeekState) → (b ≡ true → IsSeekRow x) → (b ≡ false → IsSeekRow y) → IsSeekRow (if b then x else y)
either_seek true x y first second = first refl
either_seek false x y first second = second refl

owing_row : (s : SeekState) (session : ℕ) → IsSeekRow (owing_from s session)
owing_row s session = either_seek (nat_lt session s.sessions) _ _ (λ e. grind (arith, nat_tests, e)) (λ e. tt)

points_row : (s : SeekState) → IsSeekRow (points_from s)
points_row s = either_seek (nat_lt (length s.points) s.sessions) _ _ (λ e. grind (arith, nat_tests, e)) (λ e. tt)

taken_row : (s : SeekState) (serial : ℕ) → IsSeekRow (point_taken s serial)
taken_row s serial = points_row (with_point s serial)

slot_row : (s : SeekState) (ask : Ask DeferAnswer) → s.step ≡ seeking.SeeksSlot → IsSeekRow (slot_led s ask)
unfolding slot_led
slot_row s (Done defer.Held) at = points_row s
slot_row s (Done defer.Spent) at = tt
slot_row s (Done its) at = tt
slot_row s ask at = subst (λ (step : Seeking). SeekRow s step) (sym at) tt

defer_row : (end : Addr) (s : SeekState) (ask : Ask DeferAnswer) → s.step ≡ seeking.Defers end → IsSeekRow (defer_led end s ask)
unfolding defer_led
defer_row end s (Done (defer.Armed epoch)) at = tt
defer_row end s (Done its) at = tt
defer_row end s ask at = subst (λ (step : Seeking). SeekRow s step) (sym at) tt

cut_row : (s : SeekState) (word : ℕ) → length s.points < s.sessions → IsSeekRow (cut_met s word)
cut_row s word few = either_seek (is_cut_of s.number.0 word) _ _ (λ e. taken_row s (serial_said word)) (λ e. few)

other_row : (s : SeekState) (first word : ℕ) → length s.points < s.sessions → IsSeekRow (other_met s first word)
other_row s first word few = either_seek (not (is_cut_of (s.number.0 + 1) word)) _ _ (λ e. taken_row s (max (serial_said first) (serial_said word))) (λ e. few)

seeks_row : (s : SeekState) (step : Seeking) (reply : ℕ) → s.step ≡ step → SeekRow s step → IsSeekRow (seeking_next s step reply)
unfolding seeking_next
seeks_row s (seeking.Ended its) reply at row = subst (λ (step : Seeking). SeekRow s step) (sym at) tt
seeks_row s (seeking.LoadsOwing session) reply at row = either_seek (reply == 0) _ _ (λ e. owing_row s (session + 1)) (λ e. tt)
seeks_row s seeking.SeeksSlot reply at row = slot_row (record s { defer = defer_next s.defer reply }) _ at
seeks_row s seeking.LoadsCut reply at row = cut_row s reply row
seeks_row s (seeking.LoadsOther first) reply at row = other_row s first reply row
seeks_row s seeking.LoadsAgain reply at row = taken_row s (serial_said reply)
seeks_row s seeking.StoresWaitFlush reply at row = tt
seeks_row s seeking.LoadsTail reply at row = tt
seeks_row s (seeking.RaisesReadOnly end) reply at row = tt
seeks_row s (seeking.Defers end) reply at row = defer_row end (record s { defer = defer_next s.defer reply }) _ at

-- The copy is at a bucket or at an overflow bucket.
pub record IsAtBucket (p : Places) (c : Copying) : Type 0 where
  pub bucket : ℕ
  pub few : bucket < p.buckets + p.overflow
  pub its_base : c.base ≡ bucket_place p bucket 0

abbrev pub CopyRow : Places → Copying → CopyStep → Type 0
CopyRow p c copy.Ended = ⊤
CopyRow p c (copy.LoadsSlot slot) = IsAtBucket p c × (slot < bucket_slots)
CopyRow p c copy.LoadsLink = IsAtBucket p c

abbrev IsCopyRow : Places → Copying → Type 0
IsCopyRow p c = CopyRow p c c.step

either_copy : (b : Bool) (p : Places) (x y : Copying) → (b ≡ true → IsCopyRow p x) → (b ≡ false → IsCopyRow p y) → IsCopyRow p (if b then x else y)
either_copy true p x y first second = first refl
either_copy false p x y first second = second refl

entered_row : (p : Places) (c : Copying) (bucket : ℕ) → IsCopyRow p (bucket_entered p c bucket)
entered_row p c bucket = either_copy (nat_lt bucket p.buckets) p _ _
    (λ e. let low : bucket < p.buckets = grind (arith, nat_tests, e) in (record { bucket = bucket; few = omega (arith, low); its_base = refl }, omega arith)) (λ e. tt)

all_three : (a b c : Bool) → (a && b && c) ≡ true → (a ≡ true) × (b ≡ true)
all_three true true true e = (refl, refl)
all_three true true false e = cc
all_three true false true e = cc
all_three true false false e = cc
all_three false true true e = cc
all_three false true false e = cc
all_three false false true e = cc
all_three false false false e = cc

first_row : (p : Places) → IsCopyRow p (first_copying p)
first_row p = entered_row p (record { bucket = 0; base = 0; links = p.overflow; step = copy.Ended }) 0

link_row : (p : Places) (c : Copying) (number : ℕ) → IsCopyRow p (link_led p c number)
link_row p c number = either_copy (nat_lt 0 number && nat_le number p.overflow && nat_lt 0 c.links) p _ _
    (λ e.
    let both = all_three (nat_lt 0 number) (nat_le number p.overflow) (nat_lt 0 c.links) e in
    let some : 0 < number = grind (arith, nat_tests, both.0) in
    let low : number ≤ p.overflow = grind (arith, nat_tests, both.1) in
    (record { bucket = p.buckets + (number - 1); few = omega (arith, some, low); its_base = refl }, omega arith))
    (λ e. entered_row p c (c.bucket + 1))

after_row : (p : Places) (c : Copying) (slot : ℕ) → IsAtBucket p c → IsCopyRow p (record c { step = slot_after slot })
after_row p c slot its = by (nat_lt (slot + 1) bucket_slots) refl
  where
    there : (step : CopyStep) → IsAtBucket p (record c { step = step })
    there step = record { bucket = its.bucket; few = its.few; its_base = its.its_base }

    by : (b : Bool) → nat_lt (slot + 1) bucket_slots ≡ b → IsCopyRow p (record c { step = if b then copy.LoadsSlot (slot + 1) else copy.LoadsLink })
    by true e = (there (copy.LoadsSlot (slot + 1)), grind (arith, nat_tests, e))
    by false e = there copy.LoadsLink

copy_row : (p : Places) (c : Copying) (step : CopyStep) (reply : ℕ) → c.step ≡ step → CopyRow p c step → IsCopyRow p (copy_step_next p c step reply)
unfolding copy_step_next
copy_row p c copy.Ended reply at row = subst (λ (step : CopyStep). CopyRow p c step) (sym at) tt
copy_row p c (copy.LoadsSlot slot) reply at row = after_row p c slot row.0
copy_row p c copy.LoadsLink reply at row = link_row p c (link_of reply)

-- the copy in hand is one of the store's index
abbrev pub CopierRow : Places → Option Copier → Type 0
CopierRow p None = ⊤
CopierRow p (Some m) = (m.places ≡ p) × CopyRow p m.copying m.copying.step

driven_row : (p : Places) (m : Option Copier) (reply : ℕ) → CopierRow p m → CopierRow p (copy_driven m reply)
driven_row p None reply row = tt
driven_row p (Some m) reply row = (row.0, subst (λ (q : Places). IsCopyRow p (copy_next q m.copying reply)) (sym row.0) (copy_row p m.copying m.copying.step reply refl row.1))

-- what is so of a keeper, by what it is at
abbrev pub KeeperRow : Places → KeeperState → Keeping → Type 0
KeeperRow p s Copies = CopierRow p s.copy
KeeperRow p s Seeks = SeekRow s.seek s.seek.step
KeeperRow p s Sweeps = (s.sweep.places ≡ p) × IsSweepRow p s.sweep
KeeperRow p s step = ⊤

abbrev pub IsKeeperRow : Places → KeeperState → Type 0
IsKeeperRow p s = KeeperRow p s s.step

-- a copy that rests is one of the store's index, while a commit is in hand
abbrev RestRow : Places → KeeperState → Type 0
RestRow p s = (c : Commit) → s.commit ≡ Some c → is_copy_resting s.copy ≡ true → CopierRow p s.copy

stays : (p : Places) (s : KeeperState) (step : Keeping) → s.step ≡ step → KeeperRow p s step → IsKeeperRow p s
stays p s step at row = subst (λ (its : Keeping). KeeperRow p s its) (sym at) row

either : (b : Bool) (p : Places) (x y : KeeperState) → IsKeeperRow p x → IsKeeperRow p y → IsKeeperRow p (if b then x else y)
either true p x y first second = first
either false p x y first second = second

-- by what the machines inside ask next
start_led : (p : Places) (s : KeeperState) (ask : Ask StartAnswer) → s.step ≡ Starts → IsKeeperRow p (start_ledto s ask)
unfolding start_ledto
start_led p s (Done (start.Begun number first)) at = tt
start_led p s (Done (start.Refused why)) at = tt
start_led p s (Done start.Idle) at = tt
start_led p s ask at = stays p s Starts at tt

maintain_led : (p : Places) (s : KeeperState) (ask : Ask MaintainAnswer) → s.step ≡ Maintains → IsKeeperRow p (maintain_ledto s ask)
unfolding maintain_ledto
maintain_led p s (Done maintain.Through) at = tt
maintain_led p s (Done maintain.Spent) at = tt
maintain_led p s (Done maintain.Broken) at = tt
maintain_led p s ask at = stays p s Maintains at tt

copier_row : (p : Places) (copy : Option Copier) (rests : Bool) → is_copy_resting copy ≡ rests → (is_copy_resting copy ≡ true → CopierRow p copy) → CopierRow p (if rests then copy else Some (copy_begun p))
copier_row p copy true is row = row is
copier_row p copy false is row = (refl, first_row p)

copies_led : (p : Places) (s : KeeperState) (granted : Bool) → (is_copy_resting s.copy ≡ true → CopierRow p s.copy) → IsKeeperRow p (copies p s granted)
copies_led p s granted rest = either (granted || is_copy_resting s.copy) p _ _ (copier_row p s.copy (is_copy_resting s.copy) refl rest) tt

next_led : (p : Places) (s : KeeperState) (c : Commit) (granted : Bool) (else_next : KeeperState) → (is_copy_resting s.copy ≡ true → CopierRow p s.copy) → IsKeeperRow p else_next → IsKeeperRow p (copies_next p s c granted else_next)
next_led p s c granted else_next rest row = either c.is_copied p else_next (copies p s granted) row (copies_led p s granted rest)

part_led : (p : Places) (s : KeeperState) (c : Commit) (said : PhaseSaid) (granted : Bool) → (is_copy_resting s.copy ≡ true → CopierRow p s.copy) → IsKeeperRow p (part_begun p s c said granted)
part_led p s c (Says phase.InProgress version) granted rest = either s.has_entered p _ _ (next_led p s c granted _ rest tt) tt
part_led p s c (Says phase.WaitPending version) granted rest = next_led p s c granted _ rest (owing_row (record s.seek { number = c.number; floor = s.last.points; points = [] }) 0)
part_led p s c (Says phase.WaitFlush version) granted rest = either s.has_points p _ _ tt tt
part_led p s c said granted rest = tt

phase_led : (p : Places) (s : KeeperState) (commit : Option Commit) (said : PhaseSaid) (granted : Bool) → s.commit ≡ commit → RestRow p s → s.sweep.places ≡ p → IsKeeperRow p (phase_ledto p s commit said granted)
unfolding phase_ledto
phase_led p s None said granted in_hand rest of = either (is_flush_resting s.maintain) p _ _ tt (either (granted && is_sweeping s.sweep) p _ _ (of, turn_begun_row p s.sweep) tt)
phase_led p s (Some c) said granted in_hand rest of = either s.rests p _ _ (either granted p _ _ tt tt) (either (is_flush_resting s.maintain) p _ _ tt (part_led p s c said granted (rest c in_hand)))

enter_led : (p : Places) (s : KeeperState) (ask : Ask EnterAnswer) → s.step ≡ Enters → IsKeeperRow p (enter_ledto s ask)
unfolding enter_ledto
enter_led p s (Done enter.Entered) at = tt
enter_led p s (Done enter.DrainFull) at = tt
enter_led p s (Done enter.EpochsSpent) at = tt
enter_led p s (Done enter.Idle) at = tt
enter_led p s ask at = stays p s Enters at tt

copy_led : (p : Places) (s : KeeperState) (ask : Ask (Unit {0})) → s.step ≡ Copies → CopierRow p s.copy → IsKeeperRow p (copy_ledto s ask)
unfolding copy_ledto
copy_led p s (Done its) at row = tt
copy_led p s ask at row = stays p s Copies at row

seek_led : (p : Places) (s : KeeperState) (ask : Ask SeekAnswer) → s.step ≡ Seeks → SeekRow s.seek s.seek.step → IsKeeperRow p (seek_ledto s ask)
unfolding seek_ledto
seek_led p s (Done (seek.Taken end epoch)) at row = tt
seek_led p s (Done seek.DrainFull) at row = tt
seek_led p s (Done seek.EpochsSpent) at row = tt
seek_led p s (Done seek.Owing) at row = tt
seek_led p s (Done seek.Idle) at row = tt
seek_led p s ask at row = stays p s Seeks at row

writes_led : (p : Places) (shape : Shape) (s : KeeperState) (commit : Option Commit) → IsKeeperRow p (writes_begun shape s commit)
writes_led p shape s None = tt
writes_led p shape s (Some c) = tt

wait_led : (p : Places) (shape : Shape) (s : KeeperState) (ask : Ask WaitAnswer) → s.step ≡ Waits → IsKeeperRow p (wait_ledto shape s ask)
unfolding wait_ledto
wait_led p shape s (Done wait.Flushed) at = writes_led p shape s s.commit
wait_led p shape s (Done wait.NotYet) at = tt
wait_led p shape s (Done wait.Idle) at = tt
wait_led p shape s ask at = stays p s Waits at tt

finished_led : (p : Places) (s : KeeperState) (commit : Option Commit) → IsKeeperRow p (finished s commit)
finished_led p s None = tt
finished_led p s (Some c) = tt

finish_led : (p : Places) (s : KeeperState) (ask : Ask FinishAnswer) → s.step ≡ Finishes → IsKeeperRow p (finish_ledto s ask)
unfolding finish_ledto
finish_led p s (Done its) at = finished_led p s s.commit
finish_led p s ask at = stays p s Finishes at tt

write_led : (p : Places) (s : KeeperState) (commit : Option Commit) (answer : WriteAnswer) → s.step ≡ Writes → IsKeeperRow p (write_ledto s commit answer)
unfolding write_ledto
write_led p s None answer at = tt
write_led p s (Some c) write.Written at = tt
write_led p s (Some c) write.Device at = either (must_rest s) p _ _ tt (stays p s Writes at tt)
write_led p s (Some c) (write.Broken why) at = stays p s Writes at tt

sweep_led : (p : Places) (s : KeeperState) (ask : Ask SweepAnswer) → s.step ≡ Sweeps → KeeperRow p s Sweeps → IsKeeperRow p (sweep_ledto s ask)
unfolding sweep_ledto
sweep_led p s (Done swept.Through) at row = tt
sweep_led p s ask at row = stays p s Sweeps at row

-- so it is behind each event
next_row : (shape : Shape) (p : Places) (s : KeeperState) (step : Keeping) (reply : ℕ) (granted : Bool) → p.buckets ≡ 2 ^ shape.bucket_bits → IsOfStore shape p s.sweep → s.step ≡ step → RestRow p s → KeeperRow p s step
    → IsKeeperRow p (keeping_next shape p s step reply granted)
unfolding keeping_next
next_row shape p s (Ended its) reply granted buckets of at rest row = stays p s (Ended its) at tt
next_row shape p s Starts reply granted buckets of at rest row = start_led p (record s { start = start_next s.start reply }) _ at
next_row shape p s Maintains reply granted buckets of at rest row = maintain_led p (record s { maintain = maintain_next shape p s.maintain reply }) _ at
next_row shape p s LoadsPhase reply granted buckets of at rest row = phase_led p s s.commit (phase_said reply) granted refl rest of.its_places
next_row shape p s Enters reply granted buckets of at rest row = enter_led p (record s { enter = enter_next s.enter reply }) _ at
next_row shape p s Copies reply granted buckets of at rest row = copy_led p (record s { copy = copy_driven s.copy reply }) _ at (driven_row p s.copy reply row)
next_row shape p s Seeks reply granted buckets of at rest row = seek_led p (record s { seek = seek_next s.seek reply }) _ at (seeks_row s.seek s.seek.step reply refl row)
next_row shape p s Waits reply granted buckets of at rest row = wait_led p shape (record s { wait = wait_next s.wait reply }) _ at
next_row shape p s Writes reply granted buckets of at rest row = stays p s Writes at tt
next_row shape p s Finishes reply granted buckets of at rest row = finish_led p (record s { finish = finish_next s.finish reply }) _ at
next_row shape p s Sweeps reply granted buckets of at rest row = sweep_led p (record s { sweep = sweep_next s.sweep reply }) _ at ((sweep_next_same s.sweep reply).places ∙ of.its_places, sweep_next_row shape p buckets s.sweep reply of row.1)

given_row : (shape : Shape) (p : Places) (s : KeeperState) (step : Keeping) (action : Action) → s.step ≡ step → KeeperRow p s step → IsKeeperRow p (keeping_given shape p s step action)
unfolding keeping_given
given_row shape p s Maintains action at row = maintain_led p (record s { maintain = maintain_given s.maintain action }) _ at
given_row shape p s (Ended its) action at row = stays p s (Ended its) at row
given_row shape p s Starts action at row = stays p s Starts at row
given_row shape p s LoadsPhase action at row = stays p s LoadsPhase at row
given_row shape p s Enters action at row = stays p s Enters at row
given_row shape p s Copies action at row = stays p s Copies at row
given_row shape p s Seeks action at row = stays p s Seeks at row
given_row shape p s Waits action at row = stays p s Waits at row
given_row shape p s Writes action at row = stays p s Writes at row
given_row shape p s Finishes action at row = stays p s Finishes at row
given_row shape p s Sweeps action at row = stays p s Sweeps at row

writes_row : (p : Places) (s : KeeperState) (done : Bool) → s.step ≡ Writes → IsKeeperRow p (writes_called s done)
writes_row p s true at = write_led p (record s { writes = commit_next s.writes true }) s.commit (commit_answer (commit_next s.writes true)) at
writes_row p s false at = tt

swept_row : (shape : Shape) (p : Places) (s : KeeperState) (done : Bool) (bytes : List ℕ) → p.buckets ≡ 2 ^ shape.bucket_bits → IsOfStore shape p s.sweep → s.step ≡ Sweeps → KeeperRow p s Sweeps → IsKeeperRow p (sweep_called s done bytes)
swept_row shape p s true bytes buckets of at row =
    sweep_led p (record s { sweep = sweep_read s.sweep bytes }) (sweep_ask (sweep_read s.sweep bytes)) at ((sweep_read_same s.sweep bytes).places ∙ of.its_places, sweep_read_row shape p buckets s.sweep bytes of row.1)
swept_row shape p s false bytes buckets of at row = tt

called_row : (shape : Shape) (p : Places) (s : KeeperState) (step : Keeping) (done : Bool) (bytes : List ℕ) → p.buckets ≡ 2 ^ shape.bucket_bits → IsOfStore shape p s.sweep → s.step ≡ step → KeeperRow p s step
    → IsKeeperRow p (keeping_called shape p s step done bytes)
unfolding keeping_called
called_row shape p s Maintains done bytes buckets of at row = maintain_led p (record s { maintain = maintain_called shape p s.maintain done bytes }) _ at
called_row shape p s Writes done bytes buckets of at row = writes_row p s done at
called_row shape p s Sweeps done bytes buckets of at row = swept_row shape p s done bytes buckets of at row
called_row shape p s (Ended its) done bytes buckets of at row = stays p s (Ended its) at row
called_row shape p s Starts done bytes buckets of at row = stays p s Starts at row
called_row shape p s LoadsPhase done bytes buckets of at row = stays p s LoadsPhase at row
called_row shape p s Enters done bytes buckets of at row = stays p s Enters at row
called_row shape p s Copies done bytes buckets of at row = stays p s Copies at row
called_row shape p s Seeks done bytes buckets of at row = stays p s Seeks at row
called_row shape p s Waits done bytes buckets of at row = stays p s Waits at row
called_row shape p s Finishes done bytes buckets of at row = stays p s Finishes at row

begins_row : (p : Places) (s begun : KeeperState) (busy : Bool) → IsKeeperRow p s → IsKeeperRow p begun → IsKeeperRow p (begins s busy begun)
begins_row p s begun true row other = row
begins_row p s begun false row other = other

happens_row : (shape : Shape) (p : Places) (s : KeeperState) (event : KeeperEvent) → p.buckets ≡ 2 ^ shape.bucket_bits → IsOfStore shape p s.sweep → RestRow p s → IsKeeperRow p s → IsKeeperRow p (keeper_happens shape p s event)
unfolding keeper_happens
happens_row shape p s BeginsTurn buckets of rest row = begins_row p s (turn_asked s) (is_in_hand s.step) row (either s.is_broken p _ _ tt tt)
happens_row shape p s (BeginsCommit kind) buckets of rest row = begins_row p s (commit_asked s kind) (is_in_hand s.step) row (either s.is_broken p _ _ tt (either s.rests p _ _ tt tt))
happens_row shape p s (Replies reply granted) buckets of rest row = next_row shape p s s.step reply granted buckets of refl rest row
happens_row shape p s (Gets action) buckets of rest row = given_row shape p s s.step action refl row
happens_row shape p s (Calls done bytes) buckets of rest row = called_row shape p s s.step done bytes buckets of refl row

opened_row : (p : Places) (s : KeeperState) (step : Keeping) → is_in_hand step ≡ false → KeeperRow p s step
opened_row p s (Ended its) none = tt
opened_row p s step none = cc

-- what becomes of a copy that rests
no_copy : (p : Places) (a : KeeperState) → a.copy ≡ None → is_copy_resting a.copy ≡ true → CopierRow p a.copy
no_copy p a none rests = let wrong : false ≡ true = sym (ap is_copy_resting none) ∙ rests in cc

driven_from : (p : Places) (s a : KeeperState) (reply : ℕ) (step : Keeping) → s.step ≡ step → step ≡ Copies → KeeperRow p s step → a.copy ≡ copy_driven s.copy reply → CopierRow p a.copy
driven_from p s a reply Copies at copies row same = subst (λ (x : Option Copier). CopierRow p x) (sym same) (driven_row p s.copy reply row)
driven_from p s a reply step at copies row same = cc

happens_rest : (shape : Shape) (p : Places) (s : KeeperState) (event : KeeperEvent) → IsKeeperRow p s → RestRow p s → RestRow p (keeper_happens shape p s event)
happens_rest shape p s event row rest = by_copy move.copy
  where
    a : KeeperState
    a = keeper_happens shape p s event

    move : CopiesOnce p s event a
    move = (each_move shape p s event).copies

    by_copy : IsCopyAfter p s event a → RestRow p a
    by_copy (inl same) = λ c is rests.
        let was = was_in_hand p s a event c move is rests in
        subst (λ (x : Option Copier). CopierRow p x) (sym same) (rest was.commit was.in_hand (ap is_copy_resting (sym same) ∙ rests))
    by_copy (inr (inl none)) = λ c is rests. no_copy p a none rests
    by_copy (inr (inr (inl driven))) = λ c is rests. driven_from p s a driven.reply s.step refl driven.copies row driven.copy
    by_copy (inr (inr (inr begun))) = λ c is rests. subst (λ (x : Option Copier). CopierRow p x) (sym begun.copy) (refl, first_row p)

run_both : (shape : Shape) (p : Places) (first : KeeperState) (events : List KeeperEvent) → p.buckets ≡ 2 ^ shape.bucket_bits → IsOfStore shape p first.sweep → IsOpened first
    → IsKeeperRow p (keeper_run shape p first events) × RestRow p (keeper_run shape p first events)
unfolding keeper_run
run_both shape p first [] buckets of opened = (opened_row p first first.step opened.none_in_hand, λ c is rests. let wrong : None ≡ Some c = sym opened.no_commit ∙ is in cc)
run_both shape p first (event ∷ before) buckets of opened =
    let both = run_both shape p first before buckets of opened in (
      happens_row shape p (keeper_run shape p first before) event buckets (run_of_store shape p shape p first before of) both.1 both.0,
      happens_rest shape p (keeper_run shape p first before) event both.0 both.1,
    )

pub run_row : (shape : Shape) (p : Places) (first : KeeperState) (events : List KeeperEvent) → p.buckets ≡ 2 ^ shape.bucket_bits → IsOfStore shape p first.sweep → IsOpened first → IsKeeperRow p (keeper_run shape p first events)
run_row shape p first events buckets of opened = (run_both shape p first events buckets of opened).0
