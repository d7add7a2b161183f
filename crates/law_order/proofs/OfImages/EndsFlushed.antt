-- The wait of a commit ends once the log is flushed up to its end; so it is at each moment of its writes.
use Rattle.std.proofs.Common.{◌≡◌, ℕ, ◌*◌, ◌≤◌, ◌∙◌, arith, refl, sym, ap, subst, Bool, true, false, List, [], ◌∷◌, ◌++◌}
use Rattle.std.specs.Prelude.{⊤, nat_le, if◌then◌else◌, Option, Some, None, ◌||◌}
use Rattle.std.proofs.Math.Nat.{mul-le-mul}
use Rattle.std.proofs.lemmas.Bool.Decides.{nat_tests}
use Rattle.fkv_base.specs.declared.numbers.Addr.{Addr}
use Rattle.fkv_base.specs.declared.phases.Phase.TheVariants as phase
use Rattle.fkv_base.specs.declared.shapes.Shape.{Shape}
use Rattle.law_commit.specs.Below.fkv_commit.Commit.{Commit}
use Rattle.fkv_base.specs.declared.commits.CommitKind.{CommitKind}
use Rattle.law_commit.specs.Below.fkv_commit.EnterAnswer.{EnterAnswer}
use Rattle.law_commit.specs.Below.fkv_commit.EnterAnswer.TheVariants as enter
use Rattle.law_commit.specs.Below.fkv_commit.FinishAnswer.{FinishAnswer}
use Rattle.law_commit.specs.Below.fkv_commit.SeekAnswer.{SeekAnswer}
use Rattle.law_commit.specs.Below.fkv_commit.SeekAnswer.TheVariants as seek
use Rattle.law_commit.specs.Below.fkv_commit.StartAnswer.{StartAnswer}
use Rattle.law_commit.specs.Below.fkv_commit.StartAnswer.TheVariants as start
use Rattle.law_commit.specs.Below.fkv_commit.WaitAnswer.TheVariants as wait
use Rattle.law_commit.specs.Below.fkv_commit.TheWaiting.{Waiting}
use Rattle.law_commit.specs.Below.fkv_commit.TheWaiting.TheVariants as waits
use Rattle.law_commit.specs.Below.fkv_commit.Entering.{enter_ask, enter_next}
use Rattle.law_commit.specs.Below.fkv_commit.Finishing.{finish_ask, finish_next}
use Rattle.law_commit.specs.Below.fkv_commit.Seeking.{seek_ask, seek_next}
use Rattle.law_commit.specs.Below.fkv_commit.Starting.{start_ask, start_next}
use Rattle.law_commit.specs.Below.fkv_commit.Waiting.{waiting_ask, waiting_next}
use Rattle.law_commit.specs.Below.fkv_flush.GuardLevels.{levels_of}
use Rattle.law_commit.specs.Below.fkv_keeper.KeeperTold.{KeeperTold}
use Rattle.law_commit.specs.Below.fkv_keeper.KeeperTold.TheVariants.{Device}
use Rattle.law_commit.specs.Below.fkv_keeper.TheKeeping.{Keeping}
use Rattle.law_commit.specs.Below.fkv_keeper.TheKeeping.TheVariants.{Ended, Starts, Maintains, LoadsPhase, Enters, Copies, Seeks, Waits, Writes, Finishes, Sweeps}
use Rattle.law_commit.specs.Below.fkv_keeper.Keeping.{KeeperState, come_to, commit_asked, must_rest, turn_asked, turn_over, copies, copies_next, copy_driven, copy_ledto, enter_ledto, finish_ledto, finished, keeper_ask, keeper_next, keeping_ask, keeping_called, keeping_given, keeping_next, maintain_ledto, part_begun, phase_ledto, seek_ledto, start_ledto, sweeps_next, turned, unless_flush_rests, wait_ledto, write_ledto, writes_begun, writes_called, writes_taken_up, is_copy_resting, copy_told}
use Rattle.law_commit.proofs.Below.fkv_keeper.Shown.{BeginsRest}
use Rattle.law_commit.specs.Below.fkv_keeper.KeeperRun.{BeginsCommit, BeginsTurn, Calls, Gets, IsOpened, KeeperEvent, Replies, begins, is_in_hand, keeper_happens, keeper_run}
use Rattle.law_commit.specs.Below.fkv_maintain.MaintainAnswer.{MaintainAnswer}
use Rattle.law_commit.specs.Below.fkv_maintain.MaintainAnswer.TheVariants as maintain
use Rattle.law_commit.specs.Below.fkv_maintain.Maintaining.{is_flush_resting, maintain_ask, maintain_called, maintain_given, maintain_next}
use Rattle.law_commit.specs.Below.fkv_manifest.WriteAnswer.{WriteAnswer}
use Rattle.law_commit.specs.Below.fkv_manifest.WriteAnswer.TheVariants as write
use Rattle.law_commit.specs.Below.fkv_manifest.Committing.{commit_answer, commit_next}
use Rattle.fkv_plane.specs.declared.actions.Action.{Action}
use Rattle.fkv_plane.specs.declared.asks.Ask.{Ask}
use Rattle.fkv_plane.specs.declared.asks.Ask.TheVariants.{Put, Take, Done}
use Rattle.fkv_plane.specs.declared.places.Places.{Places}
use Rattle.fkv_plane.specs.Asked.{reply_to}
use Rattle.fkv_plane.specs.Passing.{passed}
use Rattle.fkv_plane.specs.Plane.{action_at}
use Rattle.fkv_words.specs.declared.phase_words.PhaseSaid.{PhaseSaid}
use Rattle.fkv_words.specs.declared.phase_words.PhaseSaid.TheVariants.{Says}
use Rattle.fkv_words.specs.PhaseWords.{phase_said}
use Rattle.law_commit.specs.Below.fkv_world.Moves.{Near}
use Rattle.law_commit.specs.Below.fkv_world.OwnEvents.{keeper_got, keeper_part, keeper_part_of, keeper_slots, keeper_steps}
use Rattle.law_commit.specs.Below.fkv_world.Runs.{World, happens, read_by_keeper, run}
use Rattle.law_commit.specs.Below.fkv_world.World as world
use Rattle.law_commit.specs.Below.fkv_world.World.{Event, near}
use Rattle.law_commit.proofs.Below.fkv_world.Shown.{happens_keeper}
use Rattle.law_commit.proofs.Shown.{sweep_begins, sweep_moves, sweep_reads}
use Rattle.law_order.specs.Images.Ends.{CommitEndsBy, WrittenEndsBy}
use Rattle.law_order.proofs.OfImages.Resting.{RestsWell, happens_well, kept_on, opened_at, opened_well}

-- ---- in its wait it waits for its own end
abbrev pub IsWaiting : Waiting → Type 0
IsWaiting (waits.Ended its) = ⊥
IsWaiting step = ⊤

pub record WaitsForEnd (s : KeeperState) : Type 0 where
  pub waiting : IsWaiting s.wait.step
  pub its_end : (c : Commit) → s.commit ≡ Some c → s.wait.end ≡ c.end

abbrev pub EndsAt : ℕ → KeeperState → Keeping → Type 0
EndsAt most s Waits = WaitsForEnd s
EndsAt most s step = WrittenEndsBy most s step

abbrev EndsNow : ℕ → KeeperState → Type 0
EndsNow most s = EndsAt most s s.step

either : (most : ℕ) (c : Bool) (a b : KeeperState) → EndsNow most a → EndsNow most b → EndsNow most (if c then a else b)
either most true a b one other = one
either most false a b one other = other

still : (most : ℕ) (s : KeeperState) (step : Keeping) → s.step ≡ step → EndsAt most s step → EndsNow most s
still most s step at ends = subst (EndsAt most s) (sym at) ends

turn_ends : (most : ℕ) (s : KeeperState) → EndsNow most (turn_asked s)
turn_ends most s = either most s.is_broken _ _ tt tt

commit_ends : (most : ℕ) (s : KeeperState) (kind : CommitKind) → EndsNow most (commit_asked s kind)
commit_ends most s kind = either most s.is_broken _ _ tt (either most s.rests _ _ tt tt)

begins_ends : (most : ℕ) (s begun : KeeperState) (busy : Bool) → EndsNow most s → EndsNow most begun → EndsNow most (begins s busy begun)
begins_ends most s begun true one other = one
begins_ends most s begun false one other = other

start_ends : (most : ℕ) (s : KeeperState) (ask : Ask StartAnswer) → s.step ≡ Starts → EndsNow most (start_ledto s ask)
unfolding start_ledto
start_ends most s (Done (start.Begun number first)) at = tt
start_ends most s (Done its) at = tt
start_ends most s ask at = still most s Starts at tt

maintain_ends : (most : ℕ) (s : KeeperState) (ask : Ask MaintainAnswer) → s.step ≡ Maintains → EndsNow most (maintain_ledto s ask)
unfolding maintain_ledto
maintain_ends most s (Done maintain.Through) at = tt
maintain_ends most s (Done maintain.Spent) at = tt
maintain_ends most s (Done maintain.Broken) at = tt
maintain_ends most s ask at = still most s Maintains at tt

copies_ends : (most : ℕ) (p : Places) (s : KeeperState) (c : Commit) (granted : Bool) (other : KeeperState) → EndsNow most other → EndsNow most (copies_next p s c granted other)
copies_ends most p s c granted other ends = either most c.is_copied other (copies p s granted) ends (either most (granted || is_copy_resting s.copy) _ _ tt tt)

same_end : (one other : Commit) (found : Option Commit) → found ≡ Some one → found ≡ Some other → one.end ≡ other.end
same_end one other found here there = let same : one ≡ other = (let both : Some one ≡ Some other = sym here ∙ there in cc) in ap (λ (c : Commit). c.end) same

part_ends : (most : ℕ) (p : Places) (s : KeeperState) (c : Commit) (said : PhaseSaid) (granted : Bool) → s.commit ≡ Some c → EndsNow most (part_begun p s c said granted)
part_ends most p s c (Says phase.InProgress version) granted here = either most s.has_entered _ _ (copies_ends most p s c granted (turned s) tt) tt
part_ends most p s c (Says phase.WaitPending version) granted here = copies_ends most p s c granted _ tt
part_ends most p s c (Says phase.WaitFlush version) granted here = either most s.has_points _ _ (record { waiting = tt; its_end = λ other there. same_end c other s.commit here there }) tt
part_ends most p s c said granted here = tt

phase_ends : (most : ℕ) (p : Places) (s : KeeperState) (found : Option Commit) (said : PhaseSaid) (granted : Bool) → s.rests ≡ false → s.commit ≡ found → EndsNow most (phase_ledto p s found said granted)
unfolding phase_ledto
phase_ends most p s None said granted none here = either most (is_flush_resting s.maintain) _ (sweeps_next s granted) tt (sweep_begins (EndsNow most) s granted tt tt)
phase_ends most p s (Some c) said granted none here = by s.rests none
  where
    by : (rests : Bool) → rests ≡ false → EndsNow most (if rests then writes_taken_up s granted else unless_flush_rests s granted (part_begun p s c said granted))
    by true none = cc
    by false none = either most (is_flush_resting s.maintain) _ _ tt (part_ends most p s c said granted here)

enter_ends : (most : ℕ) (s : KeeperState) (ask : Ask EnterAnswer) → s.step ≡ Enters → EndsNow most (enter_ledto s ask)
unfolding enter_ledto
enter_ends most s (Done enter.Entered) at = tt
enter_ends most s (Done enter.DrainFull) at = tt
enter_ends most s (Done enter.EpochsSpent) at = tt
enter_ends most s (Done enter.Idle) at = tt
enter_ends most s ask at = still most s Enters at tt

copy_ends : (most : ℕ) (s : KeeperState) (ask : Ask (Unit {0})) → s.step ≡ Copies → EndsNow most (copy_ledto s ask)
unfolding copy_ledto
copy_ends most s (Done its) at = tt
copy_ends most s ask at = still most s Copies at tt

seek_ends : (most : ℕ) (s : KeeperState) (ask : Ask SeekAnswer) → s.step ≡ Seeks → EndsNow most (seek_ledto s ask)
unfolding seek_ledto
seek_ends most s (Done (seek.Taken end epoch)) at = tt
seek_ends most s (Done seek.DrainFull) at = tt
seek_ends most s (Done seek.EpochsSpent) at = tt
seek_ends most s (Done seek.Owing) at = tt
seek_ends most s (Done seek.Idle) at = tt
seek_ends most s ask at = still most s Seeks at tt

-- the writes begin
begun_ends : (most : ℕ) (shape : Shape) (s : KeeperState) (found : Option Commit) → s.commit ≡ found → CommitEndsBy most s → EndsNow most (writes_begun shape s found)
begun_ends most shape s None here ends = tt
begun_ends most shape s (Some c) here ends = ends

wait_ends : (most : ℕ) (shape : Shape) (s : KeeperState) (step : Waiting) (reply : ℕ) → s.step ≡ Waits → IsWaiting step → ((c : Commit) → s.commit ≡ Some c → s.wait.end ≡ c.end) → (step ≡ waits.LoadsFlushed → reply ≤ most)
    → EndsNow most (wait_ledto shape (record s { wait = (let w = s.wait in record w { step = waiting_next w.end w.epoch step reply }) }) (waiting_ask (waiting_next s.wait.end s.wait.epoch step reply)))
unfolding wait_ledto waiting_ask waiting_next
wait_ends most shape s (waits.Ended its) reply at waiting its_end fits = absurd waiting
wait_ends most shape s waits.LoadsSafe reply at waiting its_end fits = by_test (nat_le s.wait.epoch reply)
  where
    by_test : (c : Bool) → EndsNow most (wait_ledto shape (record s { wait = (let w = s.wait in record w { step = if c then waits.LoadsFlushed else waits.Ended wait.NotYet }) }) (waiting_ask (if c then waits.LoadsFlushed else waits.Ended wait.NotYet)))
    by_test true = still most (record s { wait = (let w = s.wait in record w { step = waits.LoadsFlushed }) }) Waits at (record { waiting = tt; its_end = its_end })
    by_test false = tt
wait_ends most shape s waits.LoadsFlushed reply at waiting its_end fits = by_test (nat_le s.wait.end.0 reply) refl
  where
    by_test : (c : Bool) → nat_le s.wait.end.0 reply ≡ c → EndsNow most (wait_ledto shape (record s { wait = (let w = s.wait in record w { step = if c then waits.Ended wait.Flushed else waits.Ended wait.NotYet }) }) (waiting_ask (if c then waits.Ended wait.Flushed else waits.Ended wait.NotYet)))
    by_test true e =
        let low : s.wait.end.0 ≤ reply = grind (arith, nat_tests, e) in
        let reached = fits refl in
        begun_ends most shape (record s { wait = (let w = s.wait in record w { step = waits.Ended wait.Flushed }) }) s.commit refl (λ c here. let same : s.wait.end.0 ≡ c.end.0 = ap (λ (a : Addr). a.0) (its_end c here) in omega (arith, low, reached, same))
    by_test false e = tt

finished_ends : (most : ℕ) (s : KeeperState) (found : Option Commit) → EndsNow most (finished s found)
finished_ends most s None = tt
finished_ends most s (Some c) = tt

finish_ends : (most : ℕ) (s : KeeperState) (ask : Ask FinishAnswer) → s.step ≡ Finishes → CommitEndsBy most s → EndsNow most (finish_ledto s ask)
unfolding finish_ledto
finish_ends most s (Done its) at ends = finished_ends most s s.commit
finish_ends most s ask at ends = still most s Finishes at ends

written_ends : (most : ℕ) (s : KeeperState) (found : Option Commit) (answer : WriteAnswer) → s.step ≡ Writes → CommitEndsBy most s → EndsNow most (write_ledto s found answer)
unfolding write_ledto
written_ends most s None answer at ends = tt
written_ends most s (Some c) write.Written at ends = ends
written_ends most s (Some c) write.Device at ends = either most (must_rest s) (turned (record s { rests = true })) s tt (still most s Writes at ends)
written_ends most s (Some c) (write.Broken why) at ends = still most s Writes at ends

called_writes_end : (most : ℕ) (s : KeeperState) (done : Bool) → s.step ≡ Writes → CommitEndsBy most s → EndsNow most (writes_called s done)
called_writes_end most s true at ends = written_ends most (record s { writes = commit_next s.writes true }) s.commit (commit_answer (commit_next s.writes true)) at ends
called_writes_end most s false at ends = tt

-- ---- each event of the keeper; what it loads as flushed is no more than this
abbrev pub LoadsUpTo : ℕ → KeeperState → ℕ → Type 0
LoadsUpTo most s reply = s.step ≡ Waits → s.wait.step ≡ waits.LoadsFlushed → reply ≤ most

reply_ends : (most : ℕ) (shape : Shape) (p : Places) (s : KeeperState) (step : Keeping) (reply : ℕ) (granted : Bool) → s.rests ≡ false → s.step ≡ step → LoadsUpTo most s reply → EndsAt most s step → EndsNow most (keeping_next shape p s step reply granted)
unfolding keeping_next
reply_ends most shape p s (Ended its) reply granted none at loads ends = still most s (Ended its) at tt
reply_ends most shape p s Starts reply granted none at loads ends = start_ends most _ (start_ask (start_next s.start reply)) at
reply_ends most shape p s Maintains reply granted none at loads ends = maintain_ends most _ (maintain_ask shape p (maintain_next shape p s.maintain reply)) at
reply_ends most shape p s LoadsPhase reply granted none at loads ends = phase_ends most p s s.commit (phase_said reply) granted none refl
reply_ends most shape p s Enters reply granted none at loads ends = enter_ends most _ (enter_ask (enter_next s.enter reply)) at
reply_ends most shape p s Copies reply granted none at loads ends = copy_ends most _ (copy_told (copy_driven s.copy reply)) at
reply_ends most shape p s Seeks reply granted none at loads ends = seek_ends most _ (seek_ask (seek_next s.seek reply)) at
reply_ends most shape p s Waits reply granted none at loads ends = wait_ends most shape s s.wait.step reply at ends.waiting ends.its_end (loads at)
reply_ends most shape p s Writes reply granted none at loads ends = still most s Writes at ends
reply_ends most shape p s Finishes reply granted none at loads ends = finish_ends most _ (finish_ask s.seek.points (finish_next s.finish reply)) at ends
reply_ends most shape p s Sweeps reply granted none at loads ends = sweep_moves (EndsNow most) s reply (λ w. still most (record s { sweep = w }) Sweeps at tt) (λ w. tt)

given_ends : (most : ℕ) (shape : Shape) (p : Places) (s : KeeperState) (step : Keeping) (action : Action) → s.step ≡ step → EndsAt most s step → EndsNow most (keeping_given shape p s step action)
unfolding keeping_given
given_ends most shape p s Maintains action at ends = maintain_ends most _ (maintain_ask shape p (maintain_given s.maintain action)) at
given_ends most shape p s step action at ends = still most s step at ends

called_ends : (most : ℕ) (shape : Shape) (p : Places) (s : KeeperState) (step : Keeping) (done : Bool) (bytes : List ℕ) → s.step ≡ step → EndsAt most s step → EndsNow most (keeping_called shape p s step done bytes)
unfolding keeping_called
called_ends most shape p s Maintains done bytes at ends = maintain_ends most _ (maintain_ask shape p (maintain_called shape p s.maintain done bytes)) at
called_ends most shape p s Writes done bytes at ends = called_writes_end most s done at ends
called_ends most shape p s Sweeps done bytes at ends = sweep_reads (EndsNow most) s done bytes (λ w. still most (record s { sweep = w }) Sweeps at tt) (λ w. tt) (λ w. tt)
called_ends most shape p s step done bytes at ends = still most s step at ends

abbrev pub EventLoads : ℕ → KeeperState → KeeperEvent → Type 0
EventLoads most s (Replies reply granted) = LoadsUpTo most s reply
EventLoads most s event = ⊤

step_ends : (most : ℕ) (shape : Shape) (p : Places) (s : KeeperState) (event : KeeperEvent) → EventLoads most s event → s.rests ≡ false → EndsNow most s → EndsNow most (keeper_happens shape p s event)
unfolding keeper_happens
step_ends most shape p s BeginsTurn loads none ends = begins_ends most s (turn_asked s) (is_in_hand s.step) ends (turn_ends most s)
step_ends most shape p s (BeginsCommit kind) loads none ends = begins_ends most s (commit_asked s kind) (is_in_hand s.step) ends (commit_ends most s kind)
step_ends most shape p s (Replies reply granted) loads none ends = reply_ends most shape p s s.step reply granted none refl loads ends
step_ends most shape p s (Gets action) loads none ends = given_ends most shape p s s.step action refl ends
step_ends most shape p s (Calls done bytes) loads none ends = called_ends most shape p s s.step done bytes refl ends

-- and so it is where the keeper has come to
pub record Ends (most : ℕ) (s : KeeperState) : Type 0 where
  pub well : RestsWell s
  pub ends : EndsAt most s (come_to s)

pub happens_ends : (most : ℕ) (shape : Shape) (p : Places) (s : KeeperState) (event : KeeperEvent) → EventLoads most s event → Ends most s → Ends most (keeper_happens shape p s event)
happens_ends most shape p s event loads is = record {
  well = happens_well shape p s event is.well;
  ends = kept_on (EndsAt most) shape p s event is.well (step_ends most shape p s event loads) resting (λ a same ends c here. ends c (sym same.commit ∙ here)) (λ a broken ends. subst (EndsAt most a) (sym broken.step) tt) is.ends;
}
  where
    resting : (a : KeeperState) → BeginsRest s event a → CommitEndsBy most s → CommitEndsBy most a
    resting a begun ends c here = ends c (ap (λ (x : KeeperState). x.commit) (sym begun.same) ∙ here)

abbrev pub AllLoad : ℕ → Shape → Places → KeeperState → List KeeperEvent → Type 0
AllLoad most shape p s [] = ⊤
AllLoad most shape p s (event ∷ before) = EventLoads most (keeper_run shape p s before) event × AllLoad most shape p s before

run_ends : (most : ℕ) (shape : Shape) (p : Places) (s : KeeperState) (events : List KeeperEvent) → AllLoad most shape p s events → Ends most s → Ends most (keeper_run shape p s events)
unfolding keeper_run
run_ends most shape p s [] loads ends = ends
run_ends most shape p s (event ∷ before) loads ends = happens_ends most shape p (keeper_run shape p s before) event loads.0 (run_ends most shape p s before loads.1 ends)

-- ---- an event of a life
got_load : (most : ℕ) (shape : Shape) (p : Places) (s : KeeperState) (found : Option Action) (before : List KeeperEvent) → AllLoad most shape p s before → AllLoad most shape p s (keeper_got found ++ before)
got_load most shape p s None before loads = loads
got_load most shape p s (Some action) before loads = (tt, loads)

slots_load : (most : ℕ) (shape : Shape) (p : Places) (s : KeeperState) (actions : List (Option Action)) (granted : Bool) (ask : Ask KeeperTold) (before : List KeeperEvent) → AllLoad most shape p s before → AllLoad most shape p s (keeper_slots actions granted ask ++ before)
unfolding keeper_slots
slots_load most shape p s actions granted (Put slot action) before loads = (λ at step. omega arith, loads)
slots_load most shape p s actions granted (Take slot) before loads = got_load most shape p s (action_at actions slot) before loads
slots_load most shape p s actions granted ask before loads = loads

got_alone : (most : ℕ) (shape : Shape) (p : Places) (s : KeeperState) (found : Option Action) → AllLoad most shape p s (keeper_got found)
got_alone most shape p s None = tt
got_alone most shape p s (Some action) = (tt, tt)

slots_alone : (most : ℕ) (shape : Shape) (p : Places) (s : KeeperState) (actions : List (Option Action)) (granted : Bool) (ask : Ask KeeperTold) → AllLoad most shape p s (keeper_slots actions granted ask)
unfolding keeper_slots
slots_alone most shape p s actions granted (Put slot action) = (λ at step. omega arith, tt)
slots_alone most shape p s actions granted (Take slot) = got_alone most shape p s (action_at actions slot)
slots_alone most shape p s actions granted ask = tt

-- its reply in the wait is the flushed offset
waits_load : (shape : Shape) (p : Places) (s : KeeperState) (words : List ℕ) → s.step ≡ Waits → s.wait.step ≡ waits.LoadsFlushed → reply_to words (keeper_ask shape p s) ≡ (levels_of words).flushed
unfolding keeping_ask waiting_ask passed
waits_load shape p s words at step =
    ap (λ (k : Keeping). reply_to words (keeping_ask shape p s k)) at ∙ ap (λ (w : Waiting). reply_to words (passed (waiting_ask w) (turn_over s))) step

steps_load : (most : ℕ) (shape : Shape) (p : Places) (granted done : Bool) (read : List ℕ) (n : Near KeeperState) (ask : Ask KeeperTold) → keeper_ask shape p n.machine ≡ ask → (levels_of n.words).flushed ≤ most
    → AllLoad most shape p n.machine (keeper_steps shape p granted done read n ask)
unfolding keeper_steps keeper_run
steps_load most shape p granted done read n (Done Device) e high = (tt, tt)
steps_load most shape p granted done read n (Done its) e high = tt
steps_load most shape p granted done read n (Put slot action) e high = slots_alone most shape p n.machine n.actions granted (Put slot action)
steps_load most shape p granted done read n (Take slot) e high = slots_alone most shape p n.machine n.actions granted (Take slot)
steps_load most shape p granted done read n ask e high =
    slots_load most shape p n.machine n.actions granted (keeper_ask shape p (keeper_next shape p n.machine (reply_to n.words ask) granted)) (Replies (reply_to n.words ask) granted ∷ [])
    (λ at step. let is : reply_to n.words ask ≡ (levels_of n.words).flushed = ap (reply_to n.words) (sym e) ∙ waits_load shape p n.machine n.words at step in omega (arith, is, high), tt)

part_load : (most : ℕ) (shape : Shape) (p : Places) (read : List ℕ) (n : Near KeeperState) (event : Event) → (levels_of n.words).flushed ≤ most → AllLoad most shape p n.machine (keeper_part shape p read n event)
unfolding keeper_part
part_load most shape p read n (world.Commits kind) high = (tt, tt)
part_load most shape p read n world.Turns high = (tt, tt)
part_load most shape p read n (world.KeeperMoves granted done) high = steps_load most shape p granted done read n (keeper_ask shape p n.machine) refl high
part_load most shape p read n (world.Calls session call) high = tt
part_load most shape p read n (world.Moves session) high = tt
part_load most shape p read n world.Crashes high = tt

pub event_load : (most : ℕ) (w : World) (event : Event) → (levels_of w.now.words).flushed ≤ most → AllLoad most w.now.shape w.now.places w.now.keeper (keeper_part_of w event)
event_load most w event high = by_crash w.now.crashed
  where
    by_crash : (c : Bool) → AllLoad most w.now.shape w.now.places w.now.keeper (if c then [] else keeper_part w.now.shape w.now.places (read_by_keeper w) (near w.now w.now.keeper) event)
    by_crash true = tt
    by_crash false = part_load most w.now.shape w.now.places (read_by_keeper w) (near w.now w.now.keeper) event high

-- ---- a life
higher : (low most : ℕ) (s : KeeperState) (step : Keeping) → low ≤ most → EndsAt low s step → EndsAt most s step
higher low most s Waits up ends = ends
higher low most s Writes up ends = λ c here. let its = ends c here in omega (arith, up, its)
higher low most s Finishes up ends = λ c here. let its = ends c here in omega (arith, up, its)
higher low most s (Ended its) up ends = tt
higher low most s Starts up ends = tt
higher low most s Maintains up ends = tt
higher low most s LoadsPhase up ends = tt
higher low most s Enters up ends = tt
higher low most s Copies up ends = tt
higher low most s Sweeps up ends = tt
higher low most s Seeks up ends = tt

pub all_higher : (low most : ℕ) (s : KeeperState) → low ≤ most → Ends low s → Ends most s
all_higher low most s up is = record { well = is.well; ends = higher low most s (come_to s) up is.ends }

opened_ends : (most : ℕ) (s : KeeperState) (step : Keeping) → s.step ≡ step → is_in_hand step ≡ false → EndsNow most s
opened_ends most s (Ended its) e free = still most s (Ended its) e tt
opened_ends most s Starts e free = cc
opened_ends most s Maintains e free = cc
opened_ends most s LoadsPhase e free = cc
opened_ends most s Enters e free = cc
opened_ends most s Copies e free = cc
opened_ends most s Sweeps e free = cc
opened_ends most s Seeks e free = cc
opened_ends most s Waits e free = cc
opened_ends most s Writes e free = cc
opened_ends most s Finishes e free = cc

pub opening_ends : (most : ℕ) (s : KeeperState) → IsOpened s → Ends most s
opening_ends most s opened = record { well = opened_well s opened; ends = opened_at (EndsAt most) s opened (opened_ends most s s.step refl opened.none_in_hand) }

abbrev pub flushed_at : World → ℕ
flushed_at w = (levels_of w.now.words).flushed

pub life_ends : (opening : World) (events : List Event) → IsOpened opening.now.keeper → ((before : List Event) (event : Event) → flushed_at (run opening before) ≤ flushed_at (happens (run opening before) event))
    → Ends (flushed_at (run opening events)) (run opening events).now.keeper
unfolding run
life_ends opening [] opened rises = opening_ends _ opening.now.keeper opened
life_ends opening (event ∷ before) opened rises =
    let w : World = run opening before in
    let most : ℕ = flushed_at (happens w event) in
    let was = all_higher (flushed_at w) most w.now.keeper (rises before event) (life_ends opening before opened rises) in
    subst (Ends most) (sym (happens_keeper w event)) (run_ends most w.now.shape w.now.places w.now.keeper (keeper_part_of w event) (event_load most w event (rises before event)) was)

-- of what is written
pub written : (most : ℕ) (s : KeeperState) (step : Keeping) → EndsAt most s step → WrittenEndsBy most s step
written most s Waits ends = tt
written most s step ends = ends

-- and so by any greater address
pub ends_higher : (low most : ℕ) (s : KeeperState) (step : Keeping) → low ≤ most → WrittenEndsBy low s step → WrittenEndsBy most s step
ends_higher low most s Writes up ends = λ c here. let its = ends c here in omega (arith, up, its)
ends_higher low most s Finishes up ends = λ c here. let its = ends c here in omega (arith, up, its)
ends_higher low most s (Ended its) up ends = tt
ends_higher low most s Starts up ends = tt
ends_higher low most s Maintains up ends = tt
ends_higher low most s LoadsPhase up ends = tt
ends_higher low most s Enters up ends = tt
ends_higher low most s Copies up ends = tt
ends_higher low most s Sweeps up ends = tt
ends_higher low most s Seeks up ends = tt
ends_higher low most s Waits up ends = tt

-- the flushed offset lies below the limit, which ends whole pages of the device
pub on_device : (flushed safe read_only tail limit pages page disk : ℕ) → flushed ≤ safe → safe ≤ read_only → read_only ≤ tail → tail ≤ limit → limit ≡ pages * page → pages ≤ disk → flushed ≤ disk * page
on_device flushed safe read_only tail limit pages page disk a b d e whole few = let most : pages * page ≤ disk * page = mul-le-mul few (omega arith) in omega (arith, a, b, d, e, whole, most)
