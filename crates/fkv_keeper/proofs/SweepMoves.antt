-- What becomes of the sweep of the log's front, and of the begin of the commit in hand, with each event.
use Rattle.std.proofs.Common.{◌≡◌, ◌⊎◌, inl, inr, ℕ, List, refl, subst, Bool, true, false}
use Rattle.std.specs.Prelude.{Option, Some, None, if◌then◌else◌, ◌&&◌, ◌||◌, not}
use Rattle.fkv_base.specs.declared.numbers.Addr.{Addr}
use Rattle.fkv_base.specs.declared.commits.CommitKind.{CommitKind}
use Rattle.fkv_base.specs.declared.phases.Phase.TheVariants as phase
use Rattle.fkv_base.specs.declared.shapes.Shape.{Shape}
use Rattle.fkv_words.specs.declared.phase_words.PhaseSaid.{PhaseSaid}
use Rattle.fkv_words.specs.declared.phase_words.PhaseSaid.TheVariants.{Says}
use Rattle.fkv_words.specs.PhaseWords.{phase_said}
use Rattle.fkv_plane.specs.declared.actions.Action.{Action}
use Rattle.fkv_plane.specs.declared.asks.Ask.{Ask}
use Rattle.fkv_plane.specs.declared.asks.Ask.TheVariants.{Done}
use Rattle.fkv_plane.specs.declared.places.Places.{Places}
use Rattle.fkv_commit.specs.declared.commits.Commit.{Commit}
use Rattle.fkv_commit.specs.declared.entering.EnterAnswer.{EnterAnswer}
use Rattle.fkv_commit.specs.declared.entering.EnterAnswer.TheVariants as enter
use Rattle.fkv_commit.specs.declared.finishing.FinishAnswer.{FinishAnswer}
use Rattle.fkv_commit.specs.declared.seeking.SeekAnswer.{SeekAnswer}
use Rattle.fkv_commit.specs.declared.seeking.SeekAnswer.TheVariants as seek
use Rattle.fkv_commit.specs.declared.starting.StartAnswer.{StartAnswer}
use Rattle.fkv_commit.specs.declared.starting.StartAnswer.TheVariants as start
use Rattle.fkv_commit.specs.declared.waiting.WaitAnswer.{WaitAnswer}
use Rattle.fkv_commit.specs.declared.waiting.WaitAnswer.TheVariants as wait
use Rattle.fkv_commit.specs.Entering.{enter_ask, enter_next}
use Rattle.fkv_commit.specs.Finishing.{finish_ask, finish_next}
use Rattle.fkv_commit.specs.Seeking.{seek_ask, seek_next}
use Rattle.fkv_commit.specs.Starting.{StartState, start_ask, start_next}
use Rattle.fkv_commit.specs.Waiting.{wait_ask, wait_next}
use Rattle.fkv_maintain.specs.declared.maintaining.MaintainAnswer.{MaintainAnswer}
use Rattle.fkv_maintain.specs.declared.maintaining.MaintainAnswer.TheVariants as maintain
use Rattle.fkv_maintain.specs.Maintaining.{is_flush_resting, maintain_ask, maintain_called, maintain_given, maintain_next}
use Rattle.fkv_manifest.specs.declared.answers.WriteAnswer.{WriteAnswer}
use Rattle.fkv_manifest.specs.declared.answers.WriteAnswer.TheVariants as write
use Rattle.fkv_manifest.specs.Committing.{commit_answer, commit_next}
use Rattle.fkv_sweep.specs.declared.sweeping.SweepAnswer.{SweepAnswer}
use Rattle.fkv_sweep.specs.declared.sweeping.SweepAnswer.TheVariants as sweep
use Rattle.fkv_sweep.specs.Sweeping.{is_sweeping, sweep_ask, sweep_next, sweep_read}
use Rattle.fkv_sweep.specs.Sweeping as sweeping
use Rattle.fkv_keeper.specs.declared.keepers.Keeping.{Keeping}
use Rattle.fkv_keeper.specs.declared.keepers.Keeping.TheVariants.{Ended, Starts, Maintains, LoadsPhase, Enters, Copies, Seeks, Waits, Writes, Finishes, Sweeps}
use Rattle.fkv_keeper.specs.Keeping.{KeeperState, commit_asked, copied, copies, copies_next, copy_driven, copy_ledto, copy_told, enter_ledto, finish_ledto, finished, is_copy_resting, keeping_called, keeping_given, keeping_next, maintain_ledto, must_rest, part_begun, phase_ledto, points_known, seek_ledto, start_ledto, sweep_called, sweep_ledto, sweeps_next, turn_asked, turn_called, turned, wait_ledto, write_ledto, writes_begun, writes_called}
use Rattle.fkv_keeper.specs.KeeperRun.{BeginsCommit, BeginsTurn, Calls, Gets, KeeperEvent, Replies, begins, is_in_hand, keeper_happens}
use Rattle.fkv_keeper.specs.SweepLaws.{IsBeginAfter, IsBeginChosen, IsSweepAfter, IsSweepBegun, IsSweepLeft, IsSweepSet}
use Rattle.fkv_keeper.proofs.Happens.{happens_at, happens_so}

-- the commit in hand stays, and where its log begins
record Stays (found after : Option Commit) : Type 0 where
  none : found ≡ None → after ≡ None
  kept : (c : Commit) → found ≡ Some c → (its : Commit) × (after ≡ Some its) × (its.number ≡ c.number) × (its.begin ≡ c.begin) × (its.first ≡ c.first)

stay : (found : Option Commit) → Stays found found
stay found = record { none = λ e. e; kept = λ c e. (c, e, refl, refl, refl) }

none_some : {X : Type 0} (c : Commit) → None ≡ Some c → X
none_some c e = cc

some_none : {X : Type 0} (c : Commit) → Some c ≡ None → X
some_none c e = cc

some_same : (its c : Commit) → Some its ≡ Some c → its ≡ c
some_same its c both = cc

stay_some : (c after : Commit) → after.number ≡ c.number → after.begin ≡ c.begin → after.first ≡ c.first → Stays (Some c) (Some after)
stay_some c after number begin first = record { none = λ e. some_none c e; kept = λ its e. subst (λ (x : Commit). (now : Commit) × (Some after ≡ Some now) × (now.number ≡ x.number) × (now.begin ≡ x.begin) × (now.first ≡ x.first)) (some_same c its e) (after, refl, number, begin, first) }

-- the sweep stays, and so do the newest finished commit and the one in hand
abbrev Left : KeeperState → KeeperState → Type 0
Left s a = (a.sweep ≡ s.sweep) × (a.last ≡ s.last) × (a.step ≡ Sweeps → s.step ≡ Sweeps) × Stays s.commit a.commit

is_left : (s a : KeeperState) → Left s a → IsSweepLeft s a
is_left s a left = record { same = left.0; newest = left.1; none_begins = left.2 }

either : (s : KeeperState) (c : Bool) (a b : KeeperState) → Left s a → Left s b → Left s (if c then a else b)
either s true a b one other = one
either s false a b one other = other

begins_left : (s begun : KeeperState) (busy : Bool) → Left s begun → Left s (begins s busy begun)
begins_left s begun true left = (refl, refl, λ e. e, stay s.commit)
begins_left s begun false left = left

start_left : (s : KeeperState) (ask : Ask StartAnswer) → IsSweepLeft s (start_ledto s ask)
unfolding start_ledto
start_left s (Done (start.Begun number first)) = record { same = refl; newest = refl; none_begins = λ e. cc }
start_left s (Done (start.Refused why)) = is_left s _ (refl, refl, λ e. cc, stay s.commit)
start_left s (Done start.Idle) = is_left s _ (refl, refl, λ e. cc, stay s.commit)
start_left s ask = is_left s _ (refl, refl, λ e. e, stay s.commit)

maintain_left : (s : KeeperState) (ask : Ask MaintainAnswer) → Left s (maintain_ledto s ask)
unfolding maintain_ledto
maintain_left s (Done maintain.Through) = (refl, refl, λ e. cc, stay s.commit)
maintain_left s (Done maintain.Spent) = (refl, refl, λ e. cc, stay s.commit)
maintain_left s (Done maintain.Broken) = (refl, refl, λ e. cc, stay s.commit)
maintain_left s ask = (refl, refl, λ e. e, stay s.commit)

copies_left : (p : Places) (s : KeeperState) (granted : Bool) → Left s (copies p s granted)
copies_left p s granted = either s (granted || is_copy_resting s.copy) _ _ (refl, refl, λ e. cc, stay s.commit) (refl, refl, λ e. cc, stay s.commit)

next_left : (p : Places) (s : KeeperState) (c : Commit) (granted : Bool) (other : KeeperState) → Left s other → Left s (copies_next p s c granted other)
next_left p s c granted other its = either s c.is_copied other (copies p s granted) its (copies_left p s granted)

part_left : (p : Places) (s : KeeperState) (c : Commit) (said : PhaseSaid) (granted : Bool) → Left s (part_begun p s c said granted)
part_left p s c (Says phase.InProgress version) granted = either s s.has_entered _ _ (next_left p s c granted (turned s) (refl, refl, λ e. cc, stay s.commit)) (refl, refl, λ e. cc, stay s.commit)
part_left p s c (Says phase.WaitPending version) granted = next_left p s c granted _ (refl, refl, λ e. cc, stay s.commit)
part_left p s c (Says phase.WaitFlush version) granted = either s s.has_points _ _ (refl, refl, λ e. cc, stay s.commit) (refl, refl, λ e. cc, stay s.commit)
part_left p s c said granted = (refl, refl, λ e. cc, stay s.commit)

-- its turn begins with no commit in hand
abbrev Next : KeeperState → KeeperState → Type 0
Next s a = IsSweepLeft s a ⊎ IsSweepBegun s a

sweeps_begun : (s : KeeperState) (granted : Bool) → s.commit ≡ None → IsSweepLeft s (sweeps_next s granted) ⊎ IsSweepBegun s (sweeps_next s granted)
sweeps_begun s granted none = cases granted (is_sweeping s.sweep) refl
  where
    cases : (granted goes_on : Bool) → is_sweeping s.sweep ≡ goes_on
        → Next s (if granted && goes_on then record s { sweep = sweeping.turn_begun s.sweep; is_granted = true; step = Sweeps } else turned (record s { is_granted = granted }))
    cases true true at = inr (record { comes = refl; no_commit = none; goes_on = at; same = refl })
    cases true false at = inl (is_left s _ (refl, refl, λ e. cc, stay s.commit))
    cases false goes_on at = inl (is_left s _ (refl, refl, λ e. cc, stay s.commit))

unless_rests : (s a b : KeeperState) (c : Bool) → Left s a → IsSweepLeft s b ⊎ IsSweepBegun s b → IsSweepLeft s (if c then a else b) ⊎ IsSweepBegun s (if c then a else b)
unless_rests s a b true left other = inl (is_left s a left)
unless_rests s a b false left other = other

some_left : (p : Places) (s : KeeperState) (c : Commit) (said : PhaseSaid) (granted : Bool) → Left s (phase_ledto p s (Some c) said granted)
unfolding phase_ledto
some_left p s c said granted =
    either s s.rests _ _ (either s granted _ _ (refl, refl, λ e. cc, stay s.commit) (refl, refl, λ e. cc, stay s.commit)) (either s (is_flush_resting s.maintain) _ _ (refl, refl, λ e. cc, stay s.commit) (part_left p s c said granted))

none_begun : (p : Places) (s : KeeperState) (said : PhaseSaid) (granted : Bool) → s.commit ≡ None → IsSweepLeft s (phase_ledto p s None said granted) ⊎ IsSweepBegun s (phase_ledto p s None said granted)
unfolding phase_ledto
none_begun p s said granted none = unless_rests s _ (sweeps_next s granted) (is_flush_resting s.maintain) (refl, refl, λ e. cc, stay s.commit) (sweeps_begun s granted none)

phase_begun : (p : Places) (s : KeeperState) (found : Option Commit) (said : PhaseSaid) (granted : Bool) → s.commit ≡ found → IsSweepLeft s (phase_ledto p s found said granted) ⊎ IsSweepBegun s (phase_ledto p s found said granted)
phase_begun p s None said granted in_hand = none_begun p s said granted in_hand
phase_begun p s (Some c) said granted in_hand = inl (is_left s _ (some_left p s c said granted))

enter_left : (s : KeeperState) (ask : Ask EnterAnswer) → Left s (enter_ledto s ask)
unfolding enter_ledto
enter_left s (Done enter.Entered) = (refl, refl, λ e. cc, stay s.commit)
enter_left s (Done enter.DrainFull) = (refl, refl, λ e. cc, stay s.commit)
enter_left s (Done enter.EpochsSpent) = (refl, refl, λ e. cc, stay s.commit)
enter_left s (Done enter.Idle) = (refl, refl, λ e. cc, stay s.commit)
enter_left s ask = (refl, refl, λ e. e, stay s.commit)

copied_stays : (rests : Bool) (found : Option Commit) → Stays found (copied rests found)
copied_stays rests None = stay None
copied_stays rests (Some c) = stay_some c (record c { is_copied = c.is_copied || not rests }) refl refl refl

copy_left : (s : KeeperState) (ask : Ask (Unit {0})) → Left s (copy_ledto s ask)
unfolding copy_ledto
copy_left s (Done its) = (refl, refl, λ e. cc, copied_stays (is_copy_resting s.copy) s.commit)
copy_left s ask = (refl, refl, λ e. e, stay s.commit)

known_stays : (found : Option Commit) (end : Addr) (epoch : ℕ) → Stays found (points_known found end epoch)
known_stays None end epoch = stay None
known_stays (Some c) end epoch = stay_some c (record c { end = end; epoch = epoch }) refl refl refl

seek_left : (s : KeeperState) (ask : Ask SeekAnswer) → Left s (seek_ledto s ask)
unfolding seek_ledto
seek_left s (Done (seek.Taken end epoch)) = (refl, refl, λ e. cc, known_stays s.commit end epoch)
seek_left s (Done seek.DrainFull) = (refl, refl, λ e. cc, stay s.commit)
seek_left s (Done seek.EpochsSpent) = (refl, refl, λ e. cc, stay s.commit)
seek_left s (Done seek.Owing) = (refl, refl, λ e. cc, stay s.commit)
seek_left s (Done seek.Idle) = (refl, refl, λ e. cc, stay s.commit)
seek_left s ask = (refl, refl, λ e. e, stay s.commit)

begun_left : (shape : Shape) (s : KeeperState) (found : Option Commit) → Left s (writes_begun shape s found)
begun_left shape s None = (refl, refl, λ e. cc, stay s.commit)
begun_left shape s (Some c) = (refl, refl, λ e. cc, stay s.commit)

wait_left : (shape : Shape) (s : KeeperState) (ask : Ask WaitAnswer) → Left s (wait_ledto shape s ask)
unfolding wait_ledto
wait_left shape s (Done wait.Flushed) = begun_left shape s s.commit
wait_left shape s (Done wait.NotYet) = (refl, refl, λ e. cc, stay s.commit)
wait_left shape s (Done wait.Idle) = (refl, refl, λ e. cc, stay s.commit)
wait_left shape s ask = (refl, refl, λ e. e, stay s.commit)

write_left : (s : KeeperState) (found : Option Commit) (answer : WriteAnswer) → Left s (write_ledto s found answer)
unfolding write_ledto
write_left s None answer = (refl, refl, λ e. cc, stay s.commit)
write_left s (Some c) write.Written = (refl, refl, λ e. cc, stay s.commit)
write_left s (Some c) write.Device = either s (must_rest s) _ _ (refl, refl, λ e. cc, stay s.commit) (refl, refl, λ e. e, stay s.commit)
write_left s (Some c) (write.Broken why) = (refl, refl, λ e. e, stay s.commit)

called_left : (s : KeeperState) (done : Bool) → Left s (writes_called s done)
called_left s true = write_left (record s { writes = commit_next s.writes true }) s.commit (commit_answer (commit_next s.writes true))
called_left s false = (refl, refl, λ e. cc, stay s.commit)

-- a finished commit may set it
finished_set : (s : KeeperState) (found : Option Commit) → s.commit ≡ found → IsSweepLeft s (finished s found) ⊎ IsSweepSet s (finished s found)
finished_set s None in_hand = inl (is_left s (turned s) (refl, refl, λ e. cc, stay s.commit))
finished_set s (Some c) in_hand = inr (record { commit = c; in_hand = in_hand; newest = refl; none_left = refl; same = refl })

finish_set : (s : KeeperState) (reply : ℕ) (ask : Ask FinishAnswer) → let a = finish_ledto (record s { finish = finish_next s.finish reply }) ask in IsSweepLeft s a ⊎ IsSweepSet s a
unfolding finish_ledto
finish_set s reply (Done its) = cases (finished_set (record s { finish = finish_next s.finish reply }) s.commit refl)
  where
    t : KeeperState
    t = record s { finish = finish_next s.finish reply }

    cases : IsSweepLeft t (finished t s.commit) ⊎ IsSweepSet t (finished t s.commit) → IsSweepLeft s (finished t s.commit) ⊎ IsSweepSet s (finished t s.commit)
    cases (inl left) = inl (record { same = left.same; newest = left.newest; none_begins = left.none_begins })
    cases (inr set) = inr (record { commit = set.commit; in_hand = set.in_hand; newest = set.newest; none_left = set.none_left; same = set.same })
finish_set s reply ask = inl (is_left s (record s { finish = finish_next s.finish reply }) (refl, refl, λ e. e, stay s.commit))

sweep_after : (s : KeeperState) (ask : Ask SweepAnswer) → (sweep_ledto s ask).sweep ≡ s.sweep
unfolding sweep_ledto
sweep_after s (Done sweep.Through) = refl
sweep_after s ask = refl

-- each event
reply_after : (shape : Shape) (p : Places) (s : KeeperState) (step : Keeping) (reply : ℕ) (granted : Bool) → IsSweepAfter (Replies reply granted) step s (keeping_next shape p s step reply granted)
unfolding keeping_next
reply_after shape p s (Ended its) reply granted = is_left s s (refl, refl, λ e. e, stay s.commit)
reply_after shape p s Starts reply granted = let left = start_left (record s { start = start_next s.start reply }) (start_ask (start_next s.start reply)) in record { same = left.same; newest = left.newest; none_begins = left.none_begins }
reply_after shape p s Maintains reply granted = is_left s _ (maintain_left (record s { maintain = maintain_next shape p s.maintain reply }) (maintain_ask shape p (maintain_next shape p s.maintain reply)))
reply_after shape p s LoadsPhase reply granted = phase_begun p s s.commit (phase_said reply) granted refl
reply_after shape p s Enters reply granted = is_left s _ (enter_left (record s { enter = enter_next s.enter reply }) (enter_ask (enter_next s.enter reply)))
reply_after shape p s Copies reply granted = is_left s _ (copy_left (record s { copy = copy_driven s.copy reply }) (copy_told (copy_driven s.copy reply)))
reply_after shape p s Seeks reply granted = is_left s _ (seek_left (record s { seek = seek_next s.seek reply }) (seek_ask (seek_next s.seek reply)))
reply_after shape p s Waits reply granted = is_left s _ (wait_left shape (record s { wait = wait_next s.wait reply }) (wait_ask (wait_next s.wait reply)))
reply_after shape p s Writes reply granted = is_left s s (refl, refl, λ e. e, stay s.commit)
reply_after shape p s Finishes reply granted = finish_set s reply (finish_ask s.seek.points (finish_next s.finish reply))
reply_after shape p s Sweeps reply granted = sweep_after (record s { sweep = sweep_next s.sweep reply }) (sweep_ask (sweep_next s.sweep reply))

given_left : (shape : Shape) (p : Places) (s : KeeperState) (step : Keeping) (action : Action) → Left s (keeping_given shape p s step action)
unfolding keeping_given
given_left shape p s Maintains action = maintain_left (record s { maintain = maintain_given s.maintain action }) (maintain_ask shape p (maintain_given s.maintain action))
given_left shape p s step action = (refl, refl, λ e. e, stay s.commit)

read_after : (s : KeeperState) (done : Bool) (bytes : List ℕ) → IsSweepAfter (Calls done bytes) Sweeps s (sweep_called s done bytes)
read_after s true bytes = sweep_after (record s { sweep = sweep_read s.sweep bytes }) (sweep_ask (sweep_read s.sweep bytes))
read_after s false bytes = refl

turn_called_left : (shape : Shape) (p : Places) (s : KeeperState) (done : Bool) (bytes : List ℕ) → Left s (turn_called shape p s done bytes)
turn_called_left shape p s done bytes = maintain_left (record s { maintain = maintain_called shape p s.maintain done bytes }) (maintain_ask shape p (maintain_called shape p s.maintain done bytes))

device_after : (shape : Shape) (p : Places) (s : KeeperState) (step : Keeping) (done : Bool) (bytes : List ℕ) → IsSweepAfter (Calls done bytes) step s (keeping_called shape p s step done bytes)
unfolding keeping_called
device_after shape p s Maintains true bytes = is_left s _ (turn_called_left shape p s true bytes)
device_after shape p s Maintains false bytes = is_left s _ (turn_called_left shape p s false bytes)
device_after shape p s Writes true bytes = is_left s _ (called_left s true)
device_after shape p s Writes false bytes = is_left s _ (called_left s false)
device_after shape p s Sweeps done bytes = read_after s done bytes
device_after shape p s step true bytes = is_left s s (refl, refl, λ e. e, stay s.commit)
device_after shape p s step false bytes = is_left s s (refl, refl, λ e. e, stay s.commit)

turn_left : (s : KeeperState) (step : Keeping) → Left s (begins s (is_in_hand step) (turn_asked s))
turn_left s step = begins_left s (turn_asked s) (is_in_hand step) (either s s.is_broken _ _ (refl, refl, λ e. cc, stay s.commit) (refl, refl, λ e. cc, stay s.commit))

commit_left : (s : KeeperState) (step : Keeping) (kind : CommitKind) → Left s (begins s (is_in_hand step) (commit_asked s kind))
commit_left s step kind =
    begins_left s (commit_asked s kind) (is_in_hand step) (either s s.is_broken _ _ (refl, refl, λ e. cc, stay s.commit) (either s s.rests _ _ (refl, refl, λ e. cc, stay s.commit) (refl, refl, λ e. cc, stay s.commit)))

happens_after : (shape : Shape) (p : Places) (s : KeeperState) (step : Keeping) (event : KeeperEvent) → IsSweepAfter event step s (happens_at shape p s step event)
happens_after shape p s step BeginsTurn = is_left s _ (turn_left s step)
happens_after shape p s step (BeginsCommit kind) = is_left s _ (commit_left s step kind)
happens_after shape p s step (Replies reply granted) = reply_after shape p s step reply granted
happens_after shape p s step (Gets action) = is_left s _ (given_left shape p s step action)
happens_after shape p s step (Calls done bytes) = device_after shape p s step done bytes

pub sweep_moves : (shape : Shape) (p : Places) (s : KeeperState) (event : KeeperEvent) → IsSweepAfter event s.step s (keeper_happens shape p s event)
sweep_moves shape p s event = subst (λ (a : KeeperState). IsSweepAfter event s.step s a) (happens_so shape p s event) (happens_after shape p s s.step event)

-- ---- the commit in hand
after_stays : (s a : KeeperState) (found : Option Commit) → Stays found a.commit → IsBeginAfter found s a
after_stays s a None stays = inl (stays.none refl)
after_stays s a (Some c) stays = let its = stays.kept c refl in inl (record { commit = its.0; in_hand = its.1; number = its.2; begin = its.3; first = its.4 })

after_left : (s a : KeeperState) → Left s a → IsBeginAfter s.commit s a
after_left s a left = after_stays s a s.commit left.3

start_chosen : (s : KeeperState) (next : StartState) (ask : Ask StartAnswer) → s.step ≡ Starts → IsBeginAfter s.commit s (start_ledto (record s { start = next }) ask)
unfolding start_ledto
start_chosen s next (Done (start.Begun number first)) at = chosen s.commit
  where
    a : KeeperState
    a = start_ledto (record s { start = next }) (Done (start.Begun number first))

    its : IsBeginChosen s a
    its = record { starts = at; commit = _; in_hand = refl; begin = refl }

    chosen : (found : Option Commit) → IsBeginAfter found s a
    chosen None = inr its
    chosen (Some c) = inr (inr its)
start_chosen s next (Done (start.Refused why)) at = after_stays s _ s.commit (stay s.commit)
start_chosen s next (Done start.Idle) at = after_stays s _ s.commit (stay s.commit)
start_chosen s next ask at = after_stays s _ s.commit (stay s.commit)

either_stays : (found : Option Commit) (c : Bool) (a b : KeeperState) → Stays found a.commit → Stays found b.commit → Stays found (if c then a else b).commit
either_stays found true a b one other = one
either_stays found false a b one other = other

none_stays : (p : Places) (s : KeeperState) (said : PhaseSaid) (granted : Bool) → Stays s.commit (phase_ledto p s None said granted).commit
unfolding phase_ledto
none_stays p s said granted = either_stays s.commit (is_flush_resting s.maintain) _ _ (stay s.commit) (either_stays s.commit (granted && is_sweeping s.sweep) _ _ (stay s.commit) (stay s.commit))

phase_stays : (p : Places) (s : KeeperState) (found : Option Commit) (said : PhaseSaid) (granted : Bool) → Stays s.commit (phase_ledto p s found said granted).commit
phase_stays p s None said granted = none_stays p s said granted
phase_stays p s (Some c) said granted = (some_left p s c said granted).3

finished_after : (s t : KeeperState) (found : Option Commit) → t.commit ≡ found → IsBeginAfter found s (finished t found)
finished_after s t None in_hand = inl in_hand
finished_after s t (Some c) in_hand = inr (inl (refl, refl))

finish_after : (s : KeeperState) (reply : ℕ) (ask : Ask FinishAnswer) → IsBeginAfter s.commit s (finish_ledto (record s { finish = finish_next s.finish reply }) ask)
unfolding finish_ledto
finish_after s reply (Done its) = finished_after s (record s { finish = finish_next s.finish reply }) s.commit refl
finish_after s reply ask = after_stays s _ s.commit (stay s.commit)

sweep_stays : (s : KeeperState) (ask : Ask SweepAnswer) → Stays s.commit (sweep_ledto s ask).commit
unfolding sweep_ledto
sweep_stays s (Done sweep.Through) = stay s.commit
sweep_stays s ask = stay s.commit

-- each event
reply_begin : (shape : Shape) (p : Places) (s : KeeperState) (step : Keeping) (reply : ℕ) (granted : Bool) → s.step ≡ step → IsBeginAfter s.commit s (keeping_next shape p s step reply granted)
unfolding keeping_next
reply_begin shape p s (Ended its) reply granted at = after_stays s s s.commit (stay s.commit)
reply_begin shape p s Starts reply granted at = start_chosen s (start_next s.start reply) (start_ask (start_next s.start reply)) at
reply_begin shape p s Maintains reply granted at = after_stays s _ s.commit (maintain_left (record s { maintain = maintain_next shape p s.maintain reply }) (maintain_ask shape p (maintain_next shape p s.maintain reply))).3
reply_begin shape p s LoadsPhase reply granted at = after_stays s _ s.commit (phase_stays p s s.commit (phase_said reply) granted)
reply_begin shape p s Enters reply granted at = after_stays s _ s.commit (enter_left (record s { enter = enter_next s.enter reply }) (enter_ask (enter_next s.enter reply))).3
reply_begin shape p s Copies reply granted at = after_stays s _ s.commit (copy_left (record s { copy = copy_driven s.copy reply }) (copy_told (copy_driven s.copy reply))).3
reply_begin shape p s Seeks reply granted at = after_stays s _ s.commit (seek_left (record s { seek = seek_next s.seek reply }) (seek_ask (seek_next s.seek reply))).3
reply_begin shape p s Waits reply granted at = after_stays s _ s.commit (wait_left shape (record s { wait = wait_next s.wait reply }) (wait_ask (wait_next s.wait reply))).3
reply_begin shape p s Writes reply granted at = after_stays s s s.commit (stay s.commit)
reply_begin shape p s Finishes reply granted at = finish_after s reply (finish_ask s.seek.points (finish_next s.finish reply))
reply_begin shape p s Sweeps reply granted at = after_stays s _ s.commit (sweep_stays (record s { sweep = sweep_next s.sweep reply }) (sweep_ask (sweep_next s.sweep reply)))

read_stays : (s : KeeperState) (done : Bool) (bytes : List ℕ) → Stays s.commit (sweep_called s done bytes).commit
read_stays s true bytes = sweep_stays (record s { sweep = sweep_read s.sweep bytes }) (sweep_ask (sweep_read s.sweep bytes))
read_stays s false bytes = stay s.commit

device_stays : (shape : Shape) (p : Places) (s : KeeperState) (step : Keeping) (done : Bool) (bytes : List ℕ) → Stays s.commit (keeping_called shape p s step done bytes).commit
unfolding keeping_called
device_stays shape p s Maintains done bytes = (turn_called_left shape p s done bytes).3
device_stays shape p s Writes done bytes = (called_left s done).3
device_stays shape p s Sweeps done bytes = read_stays s done bytes
device_stays shape p s step done bytes = stay s.commit

happens_begin : (shape : Shape) (p : Places) (s : KeeperState) (step : Keeping) (event : KeeperEvent) → s.step ≡ step → IsBeginAfter s.commit s (happens_at shape p s step event)
happens_begin shape p s step BeginsTurn at = after_stays s _ s.commit (turn_left s step).3
happens_begin shape p s step (BeginsCommit kind) at = after_stays s _ s.commit (commit_left s step kind).3
happens_begin shape p s step (Replies reply granted) at = reply_begin shape p s step reply granted at
happens_begin shape p s step (Gets action) at = after_stays s _ s.commit (given_left shape p s step action).3
happens_begin shape p s step (Calls done bytes) at = after_stays s _ s.commit (device_stays shape p s step done bytes)

pub begin_moves : (shape : Shape) (p : Places) (s : KeeperState) (event : KeeperEvent) → IsBeginAfter s.commit s (keeper_happens shape p s event)
begin_moves shape p s event = subst (λ (a : KeeperState). IsBeginAfter s.commit s a) (happens_so shape p s event) (happens_begin shape p s s.step event refl)
