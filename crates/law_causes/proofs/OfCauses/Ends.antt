-- A call ends as its kind does: a turn is turned or refused, and a commit has begun or is refused. So each refusal that is told has its cause.
use Rattle.std.proofs.Common.{◌≡◌, ℕ, refl, ap, sym, subst, ◌∙◌, List, [], ◌∷◌, ◌++◌, Bool, true, false}
use Rattle.std.specs.Prelude.{⊤, Option, Some, None, Result, Ok, Err, if◌then◌else◌, ◌||◌, ◌&&◌}
use Rattle.fkv_base.specs.declared.commits.CommitKind.{CommitKind}
use Rattle.fkv_base.specs.declared.faults.Fault.{Fault}
use Rattle.fkv_base.specs.declared.faults.Fault.TheVariants as fault
use Rattle.fkv_base.specs.declared.numbers.Version.{Version}
use Rattle.fkv_base.specs.declared.phases.Phase.TheVariants as phase
use Rattle.fkv_base.specs.declared.shapes.Shape.{Shape}
use Rattle.fkv_words.specs.declared.phase_words.PhaseSaid.{PhaseSaid}
use Rattle.fkv_words.specs.declared.phase_words.PhaseSaid.TheVariants.{Says}
use Rattle.fkv_words.specs.PhaseWords.{phase_said}
use Rattle.fkv_plane.specs.declared.asks.Ask.{Ask}
use Rattle.fkv_plane.specs.declared.asks.Ask.TheVariants.{Done}
use Rattle.fkv_plane.specs.declared.places.Places.{Places}
use Rattle.fkv_commit.specs.declared.commits.Commit.{Commit}
use Rattle.fkv_commit.specs.declared.entering.EnterAnswer.{EnterAnswer}
use Rattle.fkv_commit.specs.declared.entering.EnterAnswer.TheVariants as enter
use Rattle.fkv_commit.specs.declared.finishing.FinishAnswer.{FinishAnswer}
use Rattle.fkv_commit.specs.declared.seeking.SeekAnswer.{SeekAnswer}
use Rattle.fkv_commit.specs.declared.seeking.SeekAnswer.TheVariants as seek
use Rattle.fkv_commit.specs.declared.starting.StartAnswer.{StartAnswer}
use Rattle.fkv_commit.specs.declared.starting.StartAnswer.TheVariants as start
use Rattle.fkv_commit.specs.declared.waiting.WaitAnswer.{WaitAnswer}
use Rattle.fkv_commit.specs.declared.waiting.WaitAnswer.TheVariants as wait
use Rattle.fkv_commit.specs.Entering.{enter_ask, enter_next}
use Rattle.fkv_commit.specs.Finishing.{finish_ask, finish_next}
use Rattle.fkv_commit.specs.Seeking.{seek_ask, seek_next}
use Rattle.fkv_commit.specs.Starting.{start_ask, start_next}
use Rattle.fkv_commit.specs.Waiting.{wait_ask, wait_next}
use Rattle.fkv_sweep.specs.declared.sweeping.SweepAnswer.{SweepAnswer}
use Rattle.fkv_sweep.specs.declared.sweeping.SweepAnswer.TheVariants as swept
use Rattle.fkv_sweep.specs.Sweeping.{is_sweeping, sweep_ask, sweep_next, sweep_read}
use Rattle.fkv_manifest.specs.declared.answers.WriteAnswer.{WriteAnswer}
use Rattle.fkv_manifest.specs.declared.answers.WriteAnswer.TheVariants as write
use Rattle.fkv_manifest.specs.Committing.{commit_answer, commit_next}
use Rattle.fkv_maintain.specs.declared.maintaining.MaintainAnswer.{MaintainAnswer}
use Rattle.fkv_maintain.specs.declared.maintaining.MaintainAnswer.TheVariants as maintain
use Rattle.fkv_maintain.specs.Maintaining.{maintain_ask, maintain_called, maintain_given, maintain_next, is_flush_resting}
use Rattle.fkv_keeper.specs.declared.answers.KeeperTold.TheVariants.{Begun, CommitRefused, Device, Turned, TurnRefused}
use Rattle.fkv_keeper.specs.declared.answers.Turn.{Turn}
use Rattle.fkv_keeper.specs.declared.keepers.Keeping.{Keeping}
use Rattle.fkv_keeper.specs.declared.keepers.Keeping.TheVariants.{Copies, Ended, Enters, Finishes, LoadsPhase, Maintains, Seeks, Starts, Sweeps, Waits, Writes}
use Rattle.fkv_keeper.specs.DrainLaws.{call_told}
use Rattle.fkv_keeper.specs.Keeping.{must_rest, KeeperState, copies, copies_next, copy_driven, copy_ledto, copy_taken, copy_told, ended, enter_ledto, finish_ledto, finished, is_copy_resting, keeping_ask, keeping_called, keeping_given, keeping_next, maintain_ledto, part_begun, phase_ledto, seek_ledto, start_ledto, sweep_called, sweep_ledto, turned, wait_ledto, write_ledto, writes_begun, writes_called}
use Rattle.fkv_keeper.specs.KeeperRun.{BeginsCommit, BeginsTurn, Calls, Gets, IsOpened, KeeperEvent, Replies, is_calling, is_in_hand, keeper_run}
use Rattle.fkv_keeper.specs.Running.{IsBeginTold, IsTurnTold}
use Rattle.law_causes.specs.Causes.{HasCommitCause, kind_after, kind_asked}
use Rattle.law_causes.specs.Ends as ends
use Rattle.law_causes.specs.Ends.{CallNothing, IsCommitRefused, IsTurnRefused, LastEvent, begun_after, last_call}
use Rattle.law_causes.proofs.OfCauses.Asking.{passed_alone}
use Rattle.law_causes.proofs.OfCauses.Runs.{happens_at, happens_so, idle, run_comes}

-- ---- by which call has begun last
abbrev OnTurn : Keeping → Type 0
OnTurn Starts = ⊥
OnTurn (Ended (Turned its full)) = ⊤
OnTurn (Ended (TurnRefused why)) = ⊤
OnTurn (Ended its) = ⊥
OnTurn step = ⊤

abbrev OnCommit : Keeping → Type 0
OnCommit Starts = ⊤
OnCommit (Ended (Begun number)) = ⊤
OnCommit (Ended (CommitRefused why)) = ⊤
OnCommit step = ⊥

abbrev On : Option ends.Begun → Keeping → Type 0
On None step = is_in_hand step ≡ false
On (Some ends.Turn) step = OnTurn step
On (Some (ends.Commit kind)) step = OnCommit step

-- ---- a turn stays one
either : (b : Bool) (x y : KeeperState) → OnTurn x.step → OnTurn y.step → OnTurn (if b then x else y).step
either true x y one other = one
either false x y one other = other

still : (s : KeeperState) (step : Keeping) → s.step ≡ step → OnTurn step → OnTurn s.step
still s step e on = subst OnTurn (sym e) on

maintain_on : (t : KeeperState) (ask : Ask MaintainAnswer) → t.step ≡ Maintains → OnTurn (maintain_ledto t ask).step
unfolding maintain_ledto
maintain_on t (Done maintain.Through) e = tt
maintain_on t (Done maintain.Spent) e = tt
maintain_on t (Done maintain.Broken) e = tt
maintain_on t ask e = still t Maintains e tt

granted_on : (p : Places) (s : KeeperState) (granted : Bool) → OnTurn (copies p s granted).step
granted_on p s granted = by granted (is_copy_resting s.copy)
  where
    by : (g rests : Bool) → OnTurn (if g || rests then record s { copy = copy_taken p s.copy; is_granted = true; step = Copies } else ended (record s { is_granted = false }) (TurnRefused fault.Memory)).step
    by true rests = tt
    by false true = tt
    by false false = tt

copies_on : (p : Places) (s : KeeperState) (c : Commit) (granted : Bool) (t : KeeperState) → OnTurn t.step → OnTurn (copies_next p s c granted t).step
copies_on p s c granted t on = either c.is_copied t (copies p s granted) on (granted_on p s granted)

part_on : (p : Places) (s : KeeperState) (c : Commit) (said : PhaseSaid) (granted : Bool) → OnTurn (part_begun p s c said granted).step
part_on p s c (Says phase.InProgress version) granted = either s.has_entered _ _ (copies_on p s c granted (turned s) tt) tt
part_on p s c (Says phase.WaitPending version) granted = copies_on p s c granted _ tt
part_on p s c (Says phase.WaitFlush version) granted = either s.has_points _ _ tt tt
part_on p s c said granted = tt

phase_on : (p : Places) (s : KeeperState) (found : Option Commit) (said : PhaseSaid) (granted : Bool) → OnTurn (phase_ledto p s found said granted).step
unfolding phase_ledto
phase_on p s None said granted = either (is_flush_resting s.maintain) _ _ tt (either (granted && is_sweeping s.sweep) _ _ tt tt)
phase_on p s (Some c) said granted = either s.rests _ _ (either granted _ _ tt tt) (either (is_flush_resting s.maintain) _ _ tt (part_on p s c said granted))

enter_on : (t : KeeperState) (ask : Ask EnterAnswer) → t.step ≡ Enters → OnTurn (enter_ledto t ask).step
unfolding enter_ledto
enter_on t (Done enter.Entered) e = tt
enter_on t (Done enter.DrainFull) e = tt
enter_on t (Done enter.EpochsSpent) e = tt
enter_on t (Done enter.Idle) e = tt
enter_on t ask e = still t Enters e tt

copy_on : (t : KeeperState) (ask : Ask (Unit {0})) → t.step ≡ Copies → OnTurn (copy_ledto t ask).step
unfolding copy_ledto
copy_on t (Done its) e = tt
copy_on t ask e = still t Copies e tt

seek_on : (t : KeeperState) (ask : Ask SeekAnswer) → t.step ≡ Seeks → OnTurn (seek_ledto t ask).step
unfolding seek_ledto
seek_on t (Done (seek.Taken end epoch)) e = tt
seek_on t (Done seek.DrainFull) e = tt
seek_on t (Done seek.EpochsSpent) e = tt
seek_on t (Done seek.Owing) e = tt
seek_on t (Done seek.Idle) e = tt
seek_on t ask e = still t Seeks e tt

begun_on : (shape : Shape) (t : KeeperState) (found : Option Commit) → OnTurn (writes_begun shape t found).step
begun_on shape t None = tt
begun_on shape t (Some c) = tt

wait_on : (shape : Shape) (t : KeeperState) (ask : Ask WaitAnswer) → t.step ≡ Waits → OnTurn (wait_ledto shape t ask).step
unfolding wait_ledto
wait_on shape t (Done wait.Flushed) e = begun_on shape t t.commit
wait_on shape t (Done wait.NotYet) e = tt
wait_on shape t (Done wait.Idle) e = tt
wait_on shape t ask e = still t Waits e tt

finished_on : (t : KeeperState) (found : Option Commit) → OnTurn (finished t found).step
finished_on t None = tt
finished_on t (Some c) = tt

finish_on : (t : KeeperState) (ask : Ask FinishAnswer) → t.step ≡ Finishes → OnTurn (finish_ledto t ask).step
unfolding finish_ledto
finish_on t (Done its) e = finished_on t t.commit
finish_on t ask e = still t Finishes e tt

sweep_on : (t : KeeperState) (ask : Ask SweepAnswer) → t.step ≡ Sweeps → OnTurn (sweep_ledto t ask).step
unfolding sweep_ledto
sweep_on t (Done swept.Through) e = tt
sweep_on t ask e = still t Sweeps e tt

swept_on : (s : KeeperState) (done : Bool) (bytes : List ℕ) → s.step ≡ Sweeps → OnTurn (sweep_called s done bytes).step
swept_on s true bytes e = sweep_on (record s { sweep = sweep_read s.sweep bytes }) (sweep_ask (sweep_read s.sweep bytes)) e
swept_on s false bytes e = tt

write_on : (t : KeeperState) (found : Option Commit) (its : WriteAnswer) → t.step ≡ Writes → OnTurn (write_ledto t found its).step
unfolding write_ledto
write_on t None its e = tt
write_on t (Some c) write.Written e = tt
write_on t (Some c) write.Device e = either (must_rest t) _ _ tt (still t Writes e tt)
write_on t (Some c) (write.Broken why) e = still t Writes e tt

written_on : (s : KeeperState) (done : Bool) → s.step ≡ Writes → OnTurn (writes_called s done).step
written_on s true e = write_on (record s { writes = commit_next s.writes true }) s.commit (commit_answer (commit_next s.writes true)) e
written_on s false e = tt

-- ---- and so does a commit's beginning
start_on : (t : KeeperState) (ask : Ask StartAnswer) → t.step ≡ Starts → OnCommit (start_ledto t ask).step
unfolding start_ledto
start_on t (Done (start.Begun number first)) e = tt
start_on t (Done (start.Refused why)) e = tt
start_on t (Done start.Idle) e = tt
start_on t ask e = subst OnCommit (sym e) tt

pick : (b : Bool) (x y : KeeperState) → OnCommit x.step → OnCommit y.step → OnCommit (if b then x else y).step
pick true x y one other = one
pick false x y one other = other

module _ (shape : Shape) (p : Places) where
  turn_at : (s : KeeperState) (step : Keeping) (event : KeeperEvent) → s.step ≡ step → is_in_hand step ≡ true → OnTurn step → OnTurn (happens_at shape p s step event).step
  unfolding keeping_next keeping_given keeping_called
  turn_at s (Ended its) event e busy on = absurd (let clash : true ≡ false = sym busy in cc)
  turn_at s Starts event e busy on = absurd on
  turn_at s Maintains (Replies reply granted) e busy on = maintain_on (record s { maintain = maintain_next shape p s.maintain reply }) (maintain_ask shape p (maintain_next shape p s.maintain reply)) e
  turn_at s LoadsPhase (Replies reply granted) e busy on = phase_on p s s.commit (phase_said reply) granted
  turn_at s Enters (Replies reply granted) e busy on = enter_on (record s { enter = enter_next s.enter reply }) (enter_ask (enter_next s.enter reply)) e
  turn_at s Copies (Replies reply granted) e busy on = copy_on (record s { copy = copy_driven s.copy reply }) (copy_told (copy_driven s.copy reply)) e
  turn_at s Seeks (Replies reply granted) e busy on = seek_on (record s { seek = seek_next s.seek reply }) (seek_ask (seek_next s.seek reply)) e
  turn_at s Waits (Replies reply granted) e busy on = wait_on shape (record s { wait = wait_next s.wait reply }) (wait_ask (wait_next s.wait reply)) e
  turn_at s Finishes (Replies reply granted) e busy on = finish_on (record s { finish = finish_next s.finish reply }) (finish_ask s.seek.points (finish_next s.finish reply)) e
  turn_at s Sweeps (Replies reply granted) e busy on = sweep_on (record s { sweep = sweep_next s.sweep reply }) (sweep_ask (sweep_next s.sweep reply)) e
  turn_at s Maintains (Gets action) e busy on = maintain_on (record s { maintain = maintain_given s.maintain action }) (maintain_ask shape p (maintain_given s.maintain action)) e
  turn_at s Maintains (Calls done bytes) e busy on = maintain_on (record s { maintain = maintain_called shape p s.maintain done bytes }) (maintain_ask shape p (maintain_called shape p s.maintain done bytes)) e
  turn_at s Writes (Calls done bytes) e busy on = written_on s done e
  turn_at s Sweeps (Calls done bytes) e busy on = swept_on s done bytes e
  turn_at s step event e busy on = still s step e on

  commit_at : (s : KeeperState) (step : Keeping) (event : KeeperEvent) → s.step ≡ step → is_in_hand step ≡ true → OnCommit step → OnCommit (happens_at shape p s step event).step
  unfolding keeping_next keeping_given keeping_called
  commit_at s Starts (Replies reply granted) e busy on = start_on (record s { start = start_next s.start reply }) (start_ask (start_next s.start reply)) e
  commit_at s Starts event e busy on = subst OnCommit (sym e) tt
  commit_at s (Ended its) event e busy on = absurd (let clash : true ≡ false = sym busy in cc)
  commit_at s step event e busy on = absurd on

  busy_at : (call : Option ends.Begun) (s : KeeperState) (step : Keeping) (event : KeeperEvent) → s.step ≡ step → is_in_hand step ≡ true → On call step → On call (happens_at shape p s step event).step
  busy_at None s step event e busy on = absurd (let clash : true ≡ false = sym busy ∙ on in cc)
  busy_at (Some ends.Turn) s step event e busy on = turn_at s step event e busy on
  busy_at (Some (ends.Commit kind)) s step event e busy on = commit_at s step event e busy on

  event_at : (call : Option ends.Begun) (s : KeeperState) (step : Keeping) (event : KeeperEvent) → s.step ≡ step → On call step → On (begun_after (is_in_hand step) event call) (happens_at shape p s step event).step
  unfolding keeping_next keeping_given keeping_called
  event_at call s (Ended its) BeginsTurn e on = either s.is_broken _ _ tt tt
  event_at call s (Ended its) (BeginsCommit kind) e on = pick s.is_broken _ _ tt (pick s.rests _ _ tt tt)
  event_at call s (Ended its) (Replies reply granted) e on = subst (On call) (sym e) on
  event_at call s (Ended its) (Gets action) e on = subst (On call) (sym e) on
  event_at call s (Ended its) (Calls done bytes) e on = subst (On call) (sym e) on
  event_at call s step event e on = busy_at call s step event e refl on

  module _ (opening : KeeperState) where
    abbrev state : List KeeperEvent → KeeperState
    state events = keeper_run shape p opening events

    abbrev last : List KeeperEvent → Option ends.Begun
    last events = last_call shape p opening events

    on_run : IsOpened opening → (events : List KeeperEvent) → On (last events) (state events).step
    unfolding last_call keeper_run
    on_run opened [] = opened.none_in_hand
    on_run opened (event ∷ before) = subst (λ (x : KeeperState). On (last (event ∷ before)) x.step) (happens_so shape p (state before) event) (event_at (last before) (state before) (state before).step event refl (on_run opened before))

    -- ---- the last event of a call
    begins_none : (step : Keeping) (event : KeeperEvent) (was : Option ends.Begun) → is_calling step event ≡ false → begun_after (is_in_hand step) event was ≡ was
    begins_none (Ended its) BeginsTurn was idles = absurd (let clash : false ≡ true = sym idles in cc)
    begins_none (Ended its) (BeginsCommit kind) was idles = absurd (let clash : false ≡ true = sym idles in cc)
    begins_none (Ended its) event was idles = refl
    begins_none step event was idles = absurd (let clash : false ≡ true = sym idles in cc)

    last_still : (event : KeeperEvent) (before : List KeeperEvent) → is_calling (state before).step event ≡ false → last (event ∷ before) ≡ last before
    unfolding last_call
    last_still event before idles = begins_none (state before).step event (last before) idles

    state_still : (event : KeeperEvent) (before : List KeeperEvent) → is_calling (state before).step event ≡ false → state (event ∷ before) ≡ state before
    unfolding keeper_run
    state_still event before idles = sym (happens_so shape p (state before) event) ∙ (idle shape p (state before) (state before).step event idles).0

    one_behind : (event : KeeperEvent) (before : List KeeperEvent) → is_calling (state before).step event ≡ false → LastEvent shape p opening before → LastEvent shape p opening (event ∷ before)
    one_behind event before idles its = record {
      behind = event ∷ its.behind;
      event = its.event;
      before = its.before;
      so = ap (λ (es : List KeeperEvent). event ∷ es) its.so;
      calls = its.calls;
      idle = (subst (λ (es : List KeeperEvent). is_calling (state es).step event ≡ false) its.so idles, its.idle);
    }

    last_event : (events : List KeeperEvent) (call : ends.Begun) → last events ≡ Some call → LastEvent shape p opening events
    unfolding last_call
    last_event [] call is = absurd (cc)
    last_event (event ∷ before) call is = by (λ earlier. last_event before call earlier) (is_calling (state before).step event) refl
      where
        by : (last before ≡ Some call → LastEvent shape p opening before) → (b : Bool) → is_calling (state before).step event ≡ b → LastEvent shape p opening (event ∷ before)
        by earlier true calling = record { behind = []; event = event; before = before; so = refl; calls = calling; idle = tt }
        by earlier false idles = one_behind event before idles (earlier (sym (last_still event before idles) ∙ is))

    -- behind it nothing changes
    ended_there : (behind older : List KeeperEvent) → CallNothing shape p opening behind older → (state (behind ++ older) ≡ state older) × (last (behind ++ older) ≡ last older)
    ended_there [] older idles = (refl, refl)
    ended_there (event ∷ behind) older idles =
        let rest = ended_there behind older idles.1 in (
          state_still event (behind ++ older) idles.0 ∙ rest.0,
          last_still event (behind ++ older) idles.0 ∙ rest.1,
        )

    module _ (events : List KeeperEvent) (its : LastEvent shape p opening events) where
      abbrev pub upto : List KeeperEvent
      upto = its.event ∷ its.before

      same_state : state upto ≡ state events
      same_state = sym (ap state its.so ∙ (ended_there its.behind upto its.idle).0)

      same_last : last upto ≡ last events
      same_last = sym (ap last its.so ∙ (ended_there its.behind upto its.idle).1)

    -- ---- a refusal
    no_turn : (its : Turn) (why : Fault) → ◌≡◌ {A = Result Turn Fault} (Err why) (Ok its) → ⊥
    no_turn its why e = cc

    no_number : (its : Version) (why : Fault) → ◌≡◌ {A = Result Version Fault} (Err why) (Ok its) → ⊥
    no_number its why e = cc

    turn_refused : (s : KeeperState) (step : Keeping) (why : Fault) → is_in_hand step ≡ false → OnTurn step → IsTurnTold s.last (keeping_ask shape p s step) (Err why) → step ≡ Ended (TurnRefused why)
    unfolding keeping_ask
    turn_refused s (Ended (Turned finished full)) why over on told = absurd (no_turn told.0 why told.1)
    turn_refused s (Ended (TurnRefused its)) why over on told = let same : its ≡ why = cc in ap (λ (x : Fault). Ended (TurnRefused x)) same
    turn_refused s (Ended its) why over on told = absurd on
    turn_refused s step why over on told = absurd (let clash : true ≡ false = over in cc)

    commit_refused : (s : KeeperState) (step : Keeping) (why : Fault) → is_in_hand step ≡ false → OnCommit step → IsBeginTold (keeping_ask shape p s step) (Err why) → step ≡ Ended (CommitRefused why)
    unfolding keeping_ask
    commit_refused s (Ended (Begun number)) why over on told = absurd (no_number number why told)
    commit_refused s (Ended (CommitRefused its)) why over on told = let same : its ≡ why = cc in ap (λ (x : Fault). Ended (CommitRefused x)) same
    commit_refused s (Ended its) why over on told = absurd on
    commit_refused s step why over on told = absurd (let clash : true ≡ false = over in cc)

    -- the kind of the commit that was asked for last
    kind_at : (in_hand : Bool) (event : KeeperEvent) (asked : Option CommitKind) (was : Option ends.Begun) (kind : CommitKind) → (was ≡ Some (ends.Commit kind) → asked ≡ Some kind)
        → begun_after in_hand event was ≡ Some (ends.Commit kind) → kind_after in_hand event asked ≡ Some kind
    kind_at false BeginsTurn asked was kind before is = absurd (cc)
    kind_at false (BeginsCommit its) asked was kind before is = cc
    kind_at false event asked was kind before is = before is
    kind_at true event asked was kind before is = before is

    kind_so : (events : List KeeperEvent) (kind : CommitKind) → last events ≡ Some (ends.Commit kind) → kind_asked shape p opening events ≡ Some kind
    unfolding last_call kind_asked
    kind_so [] kind is = absurd (cc)
    kind_so (event ∷ before) kind is = kind_at (is_in_hand (state before).step) event (kind_asked shape p opening before) (last before) kind (kind_so before kind) is

    pub turns_refused : (events : List KeeperEvent) (why : Fault) → IsOpened opening → last events ≡ Some ends.Turn → is_in_hand (state events).step ≡ false
        → IsTurnTold (state events).last (keeping_ask shape p (state events) (state events).step) (Err why) → IsTurnRefused shape p opening events why
    turns_refused events why opened turn over told =
        let its : LastEvent shape p opening events = last_event events ends.Turn turn in
        let on : OnTurn (state events).step = subst (λ (call : Option ends.Begun). On call (state events).step) turn (on_run opened events) in
        record {
          last = its;
          turn = turn;
          cause = run_comes shape p opening its.before its.event (Ended (TurnRefused why)) opened its.calls (ap (λ (s : KeeperState). s.step) (same_state events its) ∙ turn_refused (state events) (state events).step why over on told);
        }

    pub commits_refused : (events : List KeeperEvent) (kind : CommitKind) (why : Fault) → IsOpened opening → last events ≡ Some (ends.Commit kind) → is_in_hand (state events).step ≡ false
        → IsBeginTold (keeping_ask shape p (state events) (state events).step) (Err why) → IsCommitRefused shape p opening events kind why
    commits_refused events kind why opened commit over told =
        let its : LastEvent shape p opening events = last_event events (ends.Commit kind) commit in
        let on : OnCommit (state events).step = subst (λ (call : Option ends.Begun). On call (state events).step) commit (on_run opened events) in
        record {
          last = its;
          commit = commit;
          cause = subst (λ (asked : Option CommitKind). HasCommitCause its.before asked (state (upto events its)) (call_told shape p opening (upto events its)) why) (kind_so (upto events its) kind (same_last events its ∙ commit))
              (run_comes shape p opening its.before its.event (Ended (CommitRefused why)) opened its.calls (ap (λ (s : KeeperState). s.step) (same_state events its) ∙ commit_refused (state events) (state events).step why over on told));
        }

    -- ---- who asks for the device is in a turn
    asks_by : (call : Option ends.Begun) (s : KeeperState) (step : Keeping) → On call step → keeping_ask shape p s step ≡ Done Device → call ≡ Some ends.Turn
    unfolding keeping_ask
    asks_by (Some ends.Turn) s step on asks = refl
    asks_by None s (Ended Device) on asks = absurd (cc)
    asks_by None s (Ended its) on asks = absurd (cc)
    asks_by None s step on asks = absurd (let clash : true ≡ false = on in cc)
    asks_by (Some (ends.Commit kind)) s Starts on asks = absurd (let same : CommitRefused fault.CommitRunning ≡ Device = passed_alone (start_ask s.start) (CommitRefused fault.CommitRunning) Device asks in cc)
    asks_by (Some (ends.Commit kind)) s (Ended (Begun number)) on asks = absurd (cc)
    asks_by (Some (ends.Commit kind)) s (Ended (CommitRefused why)) on asks = absurd (cc)
    asks_by (Some (ends.Commit kind)) s step on asks = absurd on

    pub device_in_turn : (events : List KeeperEvent) → IsOpened opening → keeping_ask shape p (state events) (state events).step ≡ Done Device → last events ≡ Some ends.Turn
    device_in_turn events opened asks = asks_by (last events) (state events) (state events).step (on_run opened events) asks
