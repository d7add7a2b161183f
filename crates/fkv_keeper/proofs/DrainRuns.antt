-- A call of the keeper that ends for want of a drain slot has sought all of them in vain.
use Rattle.std.proofs.Common.{◌≡◌, ℕ, ◌∙◌, List, [], ◌∷◌, refl, ap, sym, subst, Bool, true, false}
use Rattle.std.specs.Prelude.{◌&&◌, ⊤, ◌||◌, Option, Some, None, if◌then◌else◌}
use Rattle.fkv_base.specs.declared.faults.Fault.{Fault}
use Rattle.fkv_base.specs.declared.faults.Fault.TheVariants as fault
use Rattle.fkv_base.specs.declared.phases.Phase.TheVariants as phase
use Rattle.fkv_base.specs.declared.shapes.Shape.{Shape}
use Rattle.fkv_words.specs.declared.phase_words.PhaseSaid.{PhaseSaid}
use Rattle.fkv_words.specs.declared.phase_words.PhaseSaid.TheVariants.{Says}
use Rattle.fkv_words.specs.PhaseWords.{phase_said}
use Rattle.fkv_plane.specs.declared.actions.Action.{Action}
use Rattle.fkv_plane.specs.declared.asks.Ask.{Ask}
use Rattle.fkv_plane.specs.declared.asks.Ask.TheVariants.{Done}
use Rattle.fkv_plane.specs.declared.places.Places.{Places}
use Rattle.fkv_commit.specs.declared.commits.Commit.{Commit}
use Rattle.fkv_base.specs.declared.commits.CommitKind.{CommitKind}
use Rattle.fkv_commit.specs.declared.entering.EnterAnswer.{EnterAnswer}
use Rattle.fkv_commit.specs.declared.entering.EnterAnswer.TheVariants as enter
use Rattle.fkv_commit.specs.declared.finishing.FinishAnswer.{FinishAnswer}
use Rattle.fkv_commit.specs.declared.seeking.SeekAnswer.{SeekAnswer}
use Rattle.fkv_commit.specs.declared.seeking.SeekAnswer.TheVariants as seek
use Rattle.fkv_commit.specs.declared.starting.StartAnswer.{StartAnswer}
use Rattle.fkv_commit.specs.declared.starting.StartAnswer.TheVariants as start
use Rattle.fkv_commit.specs.declared.waiting.WaitAnswer.{WaitAnswer}
use Rattle.fkv_commit.specs.declared.waiting.WaitAnswer.TheVariants as wait
use Rattle.fkv_commit.specs.Entering.{enter_ask, enter_next}
use Rattle.fkv_commit.specs.Exchanges.{Exchange, exchanged}
use Rattle.fkv_commit.specs.Finishing.{finish_ask, finish_next}
use Rattle.fkv_commit.specs.Seeking.{seek_begun, seek_ask, seek_next}
use Rattle.fkv_commit.specs.Starting.{start_begun, start_ask, start_next}
use Rattle.fkv_commit.specs.Waiting.{wait_ask, wait_next}
use Rattle.fkv_manifest.specs.declared.answers.WriteAnswer.{WriteAnswer}
use Rattle.fkv_manifest.specs.declared.answers.WriteAnswer.TheVariants as write
use Rattle.fkv_manifest.specs.Committing.{commit_next, commit_answer}
use Rattle.fkv_maintain.specs.declared.maintaining.MaintainAnswer.{MaintainAnswer}
use Rattle.fkv_maintain.specs.declared.maintaining.MaintainAnswer.TheVariants as maintain
use Rattle.fkv_maintain.specs.Maintaining.{is_flush_resting, MaintainState, maintain_ask, maintain_next, maintain_given, maintain_called}
use Rattle.fkv_keeper.specs.declared.answers.KeeperTold.{KeeperTold}
use Rattle.fkv_keeper.specs.declared.answers.KeeperTold.TheVariants.{Turned, CommitRefused}
use Rattle.fkv_keeper.specs.declared.keepers.Keeping.{Keeping}
use Rattle.fkv_keeper.specs.declared.keepers.Keeping.TheVariants.{Ended, Starts, Maintains, LoadsPhase, Enters, Copies, Seeks, Waits, Writes, Finishes, Sweeps}
use Rattle.fkv_keeper.specs.Keeping.{asked_for, KeeperState, must_rest, parts_begun, is_copy_resting, copy_driven, copy_told, device_passed, end_told, keeping_ask, ended, turned, turn_over, turn_asked, commit_asked, start_ledto, maintain_ledto, copies, part_begun, phase_ledto, enter_ledto, copy_ledto, seek_ledto, writes_begun, wait_ledto, finished, finish_ledto, keeping_next, keeping_given, write_ledto, writes_called, keeping_called, serves_alone, sweep_ledto, sweep_called}
use Rattle.fkv_keeper.specs.KeeperRun.{KeeperEvent, BeginsTurn, BeginsCommit, Replies, Gets, Calls, is_in_hand, is_calling, keeper_happens, keeper_run, IsOpened}
use Rattle.fkv_keeper.specs.DrainLaws.{HasSoughtAll, told_anew, told_after, call_told}
use Rattle.fkv_keeper.proofs.DrainSought.{passed_told, still_sought, now_sought}
use Rattle.fkv_keeper.proofs.DrainCommits.{EnterKnows, enter_step, enter_begins, enter_none, SeekKnows, seek_step, seek_begins, seek_none, StartKnows, start_step, start_none}
use Rattle.fkv_keeper.proofs.DrainParts.{IsLeftOut, maintain_replied, maintain_got, maintain_made_call}
use Rattle.fkv_keeper.proofs.Happens.{happens_at, happens_so}
use Rattle.fkv_sweep.specs.Sweeping.{is_sweeping, sweep_ask, sweep_next, sweep_read}
use Rattle.fkv_sweep.specs.declared.sweeping.SweepAnswer.{SweepAnswer}
use Rattle.fkv_sweep.specs.declared.sweeping.SweepAnswer.TheVariants as sweep

-- the turn was told to have left a part out
abbrev Full : KeeperState → List Exchange → Type 0
Full s told = s.is_drain_full ≡ true → HasSoughtAll told

-- what holds while a call is in hand, and as it ends
abbrev KnowsAt : KeeperState → Keeping → List Exchange → Type 0
KnowsAt s (Ended (Turned done true)) told = HasSoughtAll told
KnowsAt s (Ended (CommitRefused fault.DrainFull)) told = HasSoughtAll told
KnowsAt s (Ended its) told = ⊤
KnowsAt s Starts told = StartKnows s.start s.start.step told
KnowsAt s Maintains told = IsLeftOut s.maintain told
KnowsAt s Enters told = EnterKnows s.enter s.enter.step told × Full s told
KnowsAt s Seeks told = SeekKnows s.seek s.seek.step told × Full s told
KnowsAt s step told = Full s told

abbrev Knows : KeeperState → List Exchange → Type 0
Knows s told = KnowsAt s s.step told

at_step : (s : KeeperState) (step : Keeping) (told : List Exchange) → s.step ≡ step → KnowsAt s step told → Knows s told
at_step s step told e knows = subst (λ (x : Keeping). KnowsAt s x told) (sym e) knows

full_told : (s : KeeperState) (done full : Bool) (told : List Exchange) → (full ≡ true → HasSoughtAll told) → KnowsAt s (Ended (Turned done full)) told
full_told s done true told full = full refl
full_told s done false told full = tt

over : (s : KeeperState) (told : List Exchange) → Full s told → Knows (turned s) told
over s told full = full_told (turned s) false s.is_drain_full told full

refused_told : (s : KeeperState) (why : Fault) (told : List Exchange) → (why ≡ fault.DrainFull → HasSoughtAll told) → KnowsAt s (Ended (CommitRefused why)) told
refused_told s fault.DrainFull told none = none refl
refused_told s why told none = tt

either : (b : Bool) (x y : KeeperState) (told : List Exchange) → Knows x told → Knows y told → Knows (if b then x else y) told
either true x y told one other = one
either false x y told one other = other

-- by what the machines inside come to
start_led : (t : KeeperState) (ask : Ask StartAnswer) (told : List Exchange) → t.step ≡ Starts → start_ask t.start ≡ ask → StartKnows t.start t.start.step told → Knows (start_ledto t ask) told
unfolding start_ledto
start_led t (Done (start.Begun number first)) told e asks knows = tt
start_led t (Done (start.Refused why)) told e asks knows =
    refused_told (ended t (CommitRefused why)) why told (λ full. now_sought told (start_none t.start t.start.step told (asks ∙ ap (λ (x : Fault). Done (start.Refused x)) full) knows))
start_led t (Done start.Idle) told e asks knows = tt
start_led t ask told e asks knows = at_step t Starts told e knows

maintain_led : (t : KeeperState) (ask : Ask MaintainAnswer) (told : List Exchange) → t.step ≡ Maintains → IsLeftOut t.maintain told → Knows (maintain_ledto t ask) told
unfolding maintain_ledto
maintain_led t (Done maintain.Through) told e its = its.full
maintain_led t (Done maintain.Spent) told e its = tt
maintain_led t (Done maintain.Broken) told e its = tt
maintain_led t ask told e its = at_step t Maintains told e its

copies_led : (p : Places) (s : KeeperState) (granted : Bool) (told : List Exchange) → Full s told → Knows (copies p s granted) told
copies_led p s granted told full = either (granted || is_copy_resting s.copy) _ _ told full tt

part_led : (p : Places) (s : KeeperState) (c : Commit) (said : PhaseSaid) (granted : Bool) (told : List Exchange) → Full s told → Knows (part_begun p s c said granted) told
part_led p s c (Says phase.InProgress version) granted told full =
    either s.has_entered _ _ told (either c.is_copied _ _ told (over s told full) (copies_led p s granted told full)) (enter_begins s.enter c.number told, full)
part_led p s c (Says phase.WaitPending version) granted told full =
    either c.is_copied (record s { seek = seek_begun s.seek c.number s.last.points; has_points = false; step = Seeks }) _ told (seek_begins s.seek c.number s.last.points told, full) (copies_led p s granted told full)
part_led p s c (Says phase.WaitFlush version) granted told full = either s.has_points _ _ told full (over s told full)
part_led p s c said granted told full = over s told full

phase_led : (p : Places) (s : KeeperState) (found : Option Commit) (said : PhaseSaid) (granted : Bool) (told : List Exchange) → Full s told → Knows (phase_ledto p s found said granted) told
unfolding phase_ledto
phase_led p s None said granted told full = either (is_flush_resting s.maintain) _ _ told (over (record s { is_granted = granted }) told full) (either (granted && is_sweeping s.sweep) _ _ told full (over (record s { is_granted = granted }) told full))
phase_led p s (Some c) said granted told full = either s.rests _ _ told (either granted _ _ told full (over (record s { is_granted = false }) told full))
    (either (is_flush_resting s.maintain) _ _ told (over (record s { is_granted = granted }) told full) (part_led p s c said granted told full))

enter_led : (t : KeeperState) (ask : Ask EnterAnswer) (told : List Exchange) → t.step ≡ Enters → enter_ask t.enter ≡ ask → EnterKnows t.enter t.enter.step told → Full t told → Knows (enter_ledto t ask) told
unfolding enter_ledto
enter_led t (Done enter.Entered) told e asks knows full = over (record t { has_entered = true }) told full
enter_led t (Done enter.DrainFull) told e asks knows full = now_sought told (enter_none t.enter t.enter.step told asks knows)
enter_led t (Done enter.EpochsSpent) told e asks knows full = tt
enter_led t (Done enter.Idle) told e asks knows full = over t told full
enter_led t ask told e asks knows full = at_step t Enters told e (knows, full)

copy_led : (t : KeeperState) (ask : Ask (Unit {0})) (told : List Exchange) → t.step ≡ Copies → Full t told → Knows (copy_ledto t ask) told
unfolding copy_ledto
copy_led t (Done its) told e full = full_told (copy_ledto t (Done its)) false t.is_drain_full told full
copy_led t ask told e full = at_step t Copies told e full

seek_led : (t : KeeperState) (ask : Ask SeekAnswer) (told : List Exchange) → t.step ≡ Seeks → seek_ask t.seek ≡ ask → SeekKnows t.seek t.seek.step told → Full t told → Knows (seek_ledto t ask) told
unfolding seek_ledto
seek_led t (Done (seek.Taken end epoch)) told e asks knows full = full_told (seek_ledto t (Done (seek.Taken end epoch))) false t.is_drain_full told full
seek_led t (Done seek.DrainFull) told e asks knows full = now_sought told (seek_none t.seek t.seek.step told asks knows)
seek_led t (Done seek.EpochsSpent) told e asks knows full = tt
seek_led t (Done seek.Owing) told e asks knows full = over t told full
seek_led t (Done seek.Idle) told e asks knows full = over t told full
seek_led t ask told e asks knows full = at_step t Seeks told e (knows, full)

begun_led : (shape : Shape) (t : KeeperState) (found : Option Commit) (told : List Exchange) → Full t told → Knows (writes_begun shape t found) told
begun_led shape t None told full = over t told full
begun_led shape t (Some c) told full = full

wait_led : (shape : Shape) (t : KeeperState) (ask : Ask WaitAnswer) (told : List Exchange) → t.step ≡ Waits → Full t told → Knows (wait_ledto shape t ask) told
unfolding wait_ledto
wait_led shape t (Done wait.Flushed) told e full = begun_led shape t t.commit told full
wait_led shape t (Done wait.NotYet) told e full = over t told full
wait_led shape t (Done wait.Idle) told e full = over t told full
wait_led shape t ask told e full = at_step t Waits told e full

finished_led : (t : KeeperState) (found : Option Commit) (told : List Exchange) → Full t told → Knows (finished t found) told
finished_led t None told full = over t told full
finished_led t (Some c) told full = full_told (finished t (Some c)) true t.is_drain_full told full

finish_led : (t : KeeperState) (ask : Ask FinishAnswer) (told : List Exchange) → t.step ≡ Finishes → Full t told → Knows (finish_ledto t ask) told
unfolding finish_ledto
finish_led t (Done its) told e full = finished_led t t.commit told full
finish_led t ask told e full = at_step t Finishes told e full

write_led : (t : KeeperState) (found : Option Commit) (answer : WriteAnswer) (told : List Exchange) → t.step ≡ Writes → Full t told → Knows (write_ledto t found answer) told
unfolding write_ledto
write_led t None answer told e full = over t told full
write_led t (Some c) write.Written told e full = full
write_led t (Some c) write.Device told e full = either (must_rest t) _ _ told (over (record t { rests = true }) told full) (at_step t Writes told e full)
write_led t (Some c) (write.Broken why) told e full = at_step t Writes told e full

write_called : (s : KeeperState) (done : Bool) (told : List Exchange) → s.step ≡ Writes → Full s told → Knows (writes_called s done) told
write_called s true told e full = write_led (record s { writes = commit_next s.writes true }) s.commit (commit_answer (commit_next s.writes true)) told e full
write_called s false told e full = tt

sweep_led : (t : KeeperState) (ask : Ask SweepAnswer) (told : List Exchange) → t.step ≡ Sweeps → Full t told → Knows (sweep_ledto t ask) told
unfolding sweep_ledto
sweep_led t (Done sweep.Through) told e full = over t told full
sweep_led t ask told e full = at_step t Sweeps told e full

read_called : (s : KeeperState) (done : Bool) (bytes : List ℕ) (told : List Exchange) → s.step ≡ Sweeps → Full s told → Knows (sweep_called s done bytes) told
read_called s true bytes told e full = sweep_led (record s { sweep = sweep_read s.sweep bytes }) (sweep_ask (sweep_read s.sweep bytes)) told e full
read_called s false bytes told e full = tt

-- the keeper passes on what they ask
device_told : (ask : Ask MaintainAnswer) (other : KeeperTold) (reply : ℕ) (told : List Exchange) → exchanged (device_passed ask other) reply told ≡ exchanged ask reply told
unfolding device_passed exchanged
device_told (Done maintain.Device) other reply told = refl
device_told ask other reply told = passed_told ask other reply told

-- a call that is at its end tells nothing more
ended_same : (s : KeeperState) (its told_as : KeeperTold) (reply : ℕ) (told : List Exchange) → KnowsAt s (Ended its) told → KnowsAt s (Ended its) (exchanged (Done told_as) reply told)
unfolding exchanged
ended_same s its told_as reply told knows = knows

-- a reply, an action, and a call of the device
reply_at : (shape : Shape) (p : Places) (s : KeeperState) (step : Keeping) (reply : ℕ) (granted : Bool) (told : List Exchange) → s.step ≡ step → KnowsAt s step told
    → Knows (keeping_next shape p s step reply granted) (exchanged (keeping_ask shape p s step) reply told)
unfolding keeping_next keeping_ask
reply_at shape p s (Ended its) reply granted told e knows = at_step s (Ended its) _ e (ended_same s its (end_told its (turn_over s)) reply told knows)
reply_at shape p s Starts reply granted told e knows =
    subst (λ (x : List Exchange). Knows (start_ledto (record s { start = start_next s.start reply }) (start_ask (start_next s.start reply))) x) (sym (passed_told (start_ask s.start) (CommitRefused fault.CommitRunning) reply told))
    (start_led (record s { start = start_next s.start reply }) (start_ask (start_next s.start reply)) (exchanged (start_ask s.start) reply told) e refl (start_step s.start told reply knows))
reply_at shape p s Maintains reply granted told e knows =
    subst (λ (x : List Exchange). Knows (maintain_ledto (record s { maintain = maintain_next shape p s.maintain reply }) (maintain_ask shape p (maintain_next shape p s.maintain reply))) x) (sym (device_told (maintain_ask shape p s.maintain) (turn_over s) reply told))
    (maintain_led (record s { maintain = maintain_next shape p s.maintain reply }) (maintain_ask shape p (maintain_next shape p s.maintain reply)) (exchanged (maintain_ask shape p s.maintain) reply told) e (maintain_replied shape p s.maintain told reply knows))
reply_at shape p s LoadsPhase reply granted told e knows = phase_led p s s.commit (phase_said reply) granted _ (λ full. still_sought _ reply told (knows full))
reply_at shape p s Enters reply granted told e knows =
    subst (λ (x : List Exchange). Knows (enter_ledto (record s { enter = enter_next s.enter reply }) (enter_ask (enter_next s.enter reply))) x) (sym (passed_told (enter_ask s.enter) (turn_over s) reply told))
    (enter_led (record s { enter = enter_next s.enter reply }) (enter_ask (enter_next s.enter reply)) (exchanged (enter_ask s.enter) reply told) e refl (enter_step s.enter told reply knows.0) (λ full. still_sought (enter_ask s.enter) reply told (knows.1 full)))
reply_at shape p s Copies reply granted told e knows = copy_led (record s { copy = copy_driven s.copy reply }) (copy_told (copy_driven s.copy reply)) _ e (λ full. still_sought _ reply told (knows full))
reply_at shape p s Seeks reply granted told e knows =
    subst (λ (x : List Exchange). Knows (seek_ledto (record s { seek = seek_next s.seek reply }) (seek_ask (seek_next s.seek reply))) x) (sym (passed_told (seek_ask s.seek) (turn_over s) reply told))
    (seek_led (record s { seek = seek_next s.seek reply }) (seek_ask (seek_next s.seek reply)) (exchanged (seek_ask s.seek) reply told) e refl (seek_step s.seek told reply knows.0) (λ full. still_sought (seek_ask s.seek) reply told (knows.1 full)))
reply_at shape p s Waits reply granted told e knows = wait_led shape (record s { wait = wait_next s.wait reply }) (wait_ask (wait_next s.wait reply)) _ e (λ full. still_sought _ reply told (knows full))
reply_at shape p s Writes reply granted told e knows = at_step s Writes _ e (λ full. still_sought _ reply told (knows full))
reply_at shape p s Finishes reply granted told e knows = finish_led (record s { finish = finish_next s.finish reply }) (finish_ask s.seek.points (finish_next s.finish reply)) _ e (λ full. still_sought _ reply told (knows full))
reply_at shape p s Sweeps reply granted told e knows = sweep_led (record s { sweep = sweep_next s.sweep reply }) (sweep_ask (sweep_next s.sweep reply)) _ e (λ full. still_sought _ reply told (knows full))

given_at : (shape : Shape) (p : Places) (s : KeeperState) (step : Keeping) (action : Action) (told : List Exchange) → s.step ≡ step → KnowsAt s step told → Knows (keeping_given shape p s step action) told
unfolding keeping_given
given_at shape p s Maintains action told e knows = maintain_led (record s { maintain = maintain_given s.maintain action }) (maintain_ask shape p (maintain_given s.maintain action)) told e (maintain_got s.maintain told action knows)
given_at shape p s step action told e knows = at_step s step told e knows

called_at : (shape : Shape) (p : Places) (s : KeeperState) (step : Keeping) (done : Bool) (bytes : List ℕ) (told : List Exchange) → s.step ≡ step → KnowsAt s step told → Knows (keeping_called shape p s step done bytes) told
unfolding keeping_called
called_at shape p s Maintains done bytes told e knows =
    maintain_led (record s { maintain = maintain_called shape p s.maintain done bytes }) (maintain_ask shape p (maintain_called shape p s.maintain done bytes)) told e (maintain_made_call shape p s.maintain told done bytes knows)
called_at shape p s Writes done bytes told e knows = write_called s done told e knows
called_at shape p s Sweeps done bytes told e knows = read_called s done bytes told e knows
called_at shape p s step done bytes told e knows = at_step s step told e knows

-- a turn and a commit that begin
parts_begin : (rests : Bool) (m : MaintainState) (told : List Exchange) → IsLeftOut (parts_begun rests m) told
parts_begin true m told = record { knows = tt; full = λ e. cc }
parts_begin false m told = record { knows = tt; full = λ e. cc }

turn_begins : (s : KeeperState) (told : List Exchange) → Knows (turn_asked s) told
turn_begins s told = either s.is_broken _ _ told tt (parts_begin (serves_alone s) s.maintain told)

commit_begins : (s : KeeperState) (kind : CommitKind) (told : List Exchange) → Knows (commit_asked s kind) told
commit_begins s kind told = either s.is_broken _ _ told tt (either s.rests _ (record s { start = start_begun s.start (asked_for s kind); step = Starts }) told tt tt)

-- by the step of the keeper
abbrev told_at : Shape → Places → KeeperState → Keeping → KeeperEvent → List Exchange → List Exchange
told_at shape p s step BeginsTurn told = told_anew (is_in_hand step) told
told_at shape p s step (BeginsCommit kind) told = told_anew (is_in_hand step) told
told_at shape p s step (Replies reply granted) told = exchanged (keeping_ask shape p s step) reply told
told_at shape p s step event told = told

told_so : (shape : Shape) (p : Places) (s : KeeperState) (event : KeeperEvent) (told : List Exchange) → told_at shape p s s.step event told ≡ told_after shape p s event told
told_so shape p s BeginsTurn told = refl
told_so shape p s (BeginsCommit kind) told = refl
told_so shape p s (Replies reply granted) told = refl
told_so shape p s (Gets action) told = refl
told_so shape p s (Calls done bytes) told = refl

hand_at : (shape : Shape) (p : Places) (s : KeeperState) (step : Keeping) (event : KeeperEvent) (told : List Exchange) → s.step ≡ step → is_in_hand step ≡ true → KnowsAt s step told
    → Knows (happens_at shape p s step event) (told_at shape p s step event told)
hand_at shape p s step BeginsTurn told e in_hand knows = rw in_hand (at_step s step told e knows)
hand_at shape p s step (BeginsCommit kind) told e in_hand knows = rw in_hand (at_step s step told e knows)
hand_at shape p s step (Replies reply granted) told e in_hand knows = reply_at shape p s step reply granted told e knows
hand_at shape p s step (Gets action) told e in_hand knows = given_at shape p s step action told e knows
hand_at shape p s step (Calls done bytes) told e in_hand knows = called_at shape p s step done bytes told e knows

begin_at : (shape : Shape) (p : Places) (s : KeeperState) (step : Keeping) (event : KeeperEvent) (told : List Exchange) → is_in_hand step ≡ false → is_calling step event ≡ true
    → Knows (happens_at shape p s step event) (told_at shape p s step event told)
begin_at shape p s (Ended its) BeginsTurn told none calling = turn_begins s []
begin_at shape p s (Ended its) (BeginsCommit kind) told none calling = commit_begins s kind []
begin_at shape p s (Ended its) (Replies reply granted) told none calling = cc
begin_at shape p s (Ended its) (Gets action) told none calling = cc
begin_at shape p s (Ended its) (Calls done bytes) told none calling = cc
begin_at shape p s step event told none calling = cc

called_by : (shape : Shape) (p : Places) (s : KeeperState) (event : KeeperEvent) (told : List Exchange) (b : Bool) → is_in_hand s.step ≡ b → is_calling s.step event ≡ true → (is_in_hand s.step ≡ true → Knows s told)
    → Knows (happens_at shape p s s.step event) (told_at shape p s s.step event told)
called_by shape p s event told true e calling knows = hand_at shape p s s.step event told refl e (knows e)
called_by shape p s event told false e calling knows = begin_at shape p s s.step event told e calling

event_knows : (shape : Shape) (p : Places) (s : KeeperState) (event : KeeperEvent) (told : List Exchange) → is_calling s.step event ≡ true → (is_in_hand s.step ≡ true → Knows s told)
    → Knows (keeper_happens shape p s event) (told_after shape p s event told)
event_knows shape p s event told calling knows =
    subst (λ (x : KeeperState). Knows x (told_after shape p s event told)) (happens_so shape p s event)
    (subst (λ (x : List Exchange). Knows (happens_at shape p s s.step event) x) (told_so shape p s event told) (called_by shape p s event told (is_in_hand s.step) refl calling knows))

-- where no call goes on, and none begins, none is in hand
ended_not : (step : Keeping) (its : KeeperTold) → step ≡ Ended its → is_in_hand step ≡ true → ⊥
ended_not step its e in_hand = let clash : true ≡ false = sym in_hand ∙ ap is_in_hand e in cc

idle_not : (shape : Shape) (p : Places) (s : KeeperState) (step : Keeping) (event : KeeperEvent) → s.step ≡ step → is_calling step event ≡ false → is_in_hand (happens_at shape p s step event).step ≡ true → ⊥
unfolding keeping_next keeping_given keeping_called
idle_not shape p s (Ended its) BeginsTurn e idles in_hand = cc
idle_not shape p s (Ended its) (BeginsCommit kind) e idles in_hand = cc
idle_not shape p s (Ended its) (Replies reply granted) e idles in_hand = ended_not s.step its e in_hand
idle_not shape p s (Ended its) (Gets action) e idles in_hand = ended_not s.step its e in_hand
idle_not shape p s (Ended its) (Calls done bytes) e idles in_hand = ended_not s.step its e in_hand
idle_not shape p s step event e idles in_hand = cc

after_knows : (shape : Shape) (p : Places) (s : KeeperState) (event : KeeperEvent) (told : List Exchange) (b : Bool) → is_calling s.step event ≡ b → (is_in_hand s.step ≡ true → Knows s told)
    → is_in_hand (keeper_happens shape p s event).step ≡ true → Knows (keeper_happens shape p s event) (told_after shape p s event told)
after_knows shape p s event told true e knows in_hand = event_knows shape p s event told e knows
after_knows shape p s event told false e knows in_hand =
    absurd (idle_not shape p s s.step event refl e (ap (λ (x : KeeperState). is_in_hand x.step) (happens_so shape p s event) ∙ in_hand))

none_yet : (b : Bool) → b ≡ false → b ≡ true → ⊥
none_yet b one other = let clash : false ≡ true = sym one ∙ other in cc

run_knows : (shape : Shape) (p : Places) (opening : KeeperState) (events : List KeeperEvent) → IsOpened opening → is_in_hand (keeper_run shape p opening events).step ≡ true
    → Knows (keeper_run shape p opening events) (call_told shape p opening events)
unfolding keeper_run call_told
run_knows shape p opening [] opened in_hand = absurd (none_yet (is_in_hand opening.step) opened.none_in_hand in_hand)
run_knows shape p opening (event ∷ before) opened in_hand =
    after_knows shape p (keeper_run shape p opening before) event (call_told shape p opening before) (is_calling (keeper_run shape p opening before).step event) refl (run_knows shape p opening before opened) in_hand

calling_knows : (shape : Shape) (p : Places) (opening : KeeperState) (events : List KeeperEvent) (event : KeeperEvent) → IsOpened opening → is_calling (keeper_run shape p opening events).step event ≡ true
    → Knows (keeper_run shape p opening (event ∷ events)) (call_told shape p opening (event ∷ events))
unfolding keeper_run call_told
calling_knows shape p opening events event opened calling = event_knows shape p (keeper_run shape p opening events) event (call_told shape p opening events) calling (run_knows shape p opening events opened)

-- the clauses of the law
pub run_full : (shape : Shape) (p : Places) (opening : KeeperState) (events : List KeeperEvent) (event : KeeperEvent) (done : Bool) → IsOpened opening → is_calling (keeper_run shape p opening events).step event ≡ true
    → (keeper_run shape p opening (event ∷ events)).step ≡ Ended (Turned done true) → HasSoughtAll (call_told shape p opening (event ∷ events))
run_full shape p opening events event done opened calling ends =
    subst (λ (x : Keeping). KnowsAt (keeper_run shape p opening (event ∷ events)) x (call_told shape p opening (event ∷ events))) ends (calling_knows shape p opening events event opened calling)

pub run_refused : (shape : Shape) (p : Places) (opening : KeeperState) (events : List KeeperEvent) (event : KeeperEvent) → IsOpened opening → is_calling (keeper_run shape p opening events).step event ≡ true
    → (keeper_run shape p opening (event ∷ events)).step ≡ Ended (CommitRefused fault.DrainFull) → HasSoughtAll (call_told shape p opening (event ∷ events))
run_refused shape p opening events event opened calling ends =
    subst (λ (x : Keeping). KnowsAt (keeper_run shape p opening (event ∷ events)) x (call_told shape p opening (event ∷ events))) ends (calling_knows shape p opening events event opened calling)
