-- Where writes begin to rest and cease to, and what an event leaves of them while they rest.
use Rattle.std.proofs.Common.{◌≡◌, ℕ, ◌∙◌, ◌⊎◌, inl, inr, List, refl, ap, sym, subst, Bool, true, false}
use Rattle.std.specs.Prelude.{◌||◌, ◌&&◌, not, Option, Some, None, ⊤, if◌then◌else◌}
use Rattle.fkv_base.specs.declared.faults.Fault.TheVariants as fault
use Rattle.fkv_base.specs.declared.phases.Phase.TheVariants as phase
use Rattle.fkv_base.specs.declared.shapes.Shape.{Shape}
use Rattle.fkv_words.specs.declared.phase_words.PhaseSaid.{PhaseSaid}
use Rattle.fkv_words.specs.declared.phase_words.PhaseSaid.TheVariants.{Says}
use Rattle.fkv_words.specs.PhaseWords.{phase_said}
use Rattle.fkv_plane.specs.declared.actions.Action.{Action}
use Rattle.fkv_plane.specs.declared.asks.Ask.{Ask}
use Rattle.fkv_plane.specs.declared.asks.Ask.TheVariants.{Done}
use Rattle.fkv_plane.specs.declared.places.Places.{Places}
use Rattle.fkv_commit.specs.declared.commits.Commit.{Commit}
use Rattle.fkv_base.specs.declared.commits.CommitKind.{CommitKind}
use Rattle.fkv_commit.specs.declared.entering.EnterAnswer.{EnterAnswer}
use Rattle.fkv_commit.specs.declared.entering.EnterAnswer.TheVariants as enter
use Rattle.fkv_commit.specs.declared.finishing.FinishAnswer.{FinishAnswer}
use Rattle.fkv_commit.specs.declared.seeking.SeekAnswer.{SeekAnswer}
use Rattle.fkv_commit.specs.declared.seeking.SeekAnswer.TheVariants as seek
use Rattle.fkv_commit.specs.declared.starting.StartAnswer.{StartAnswer}
use Rattle.fkv_commit.specs.declared.starting.StartAnswer.TheVariants as start
use Rattle.fkv_commit.specs.declared.waiting.WaitAnswer.{WaitAnswer}
use Rattle.fkv_commit.specs.declared.waiting.WaitAnswer.TheVariants as wait
use Rattle.fkv_commit.specs.Entering.{enter_ask, enter_next}
use Rattle.fkv_commit.specs.Finishing.{finish_ask, finish_next}
use Rattle.fkv_commit.specs.Seeking.{seek_ask, seek_next}
use Rattle.fkv_commit.specs.Starting.{start_begun, start_ask, start_next}
use Rattle.fkv_commit.specs.Waiting.{wait_ask, wait_next}
use Rattle.fkv_manifest.specs.declared.answers.WriteAnswer.{WriteAnswer}
use Rattle.fkv_manifest.specs.declared.answers.WriteAnswer.TheVariants as write
use Rattle.fkv_manifest.specs.Committing.{commit_next, commit_answer}
use Rattle.fkv_maintain.specs.declared.maintaining.MaintainAnswer.{MaintainAnswer}
use Rattle.fkv_maintain.specs.declared.maintaining.MaintainAnswer.TheVariants as maintain
use Rattle.fkv_maintain.specs.Maintaining.{is_flush_resting, MaintainState, maintain_ask, maintain_next, maintain_given, maintain_called}
use Rattle.fkv_maintain.specs.MaintainRun.{maintain_happens}
use Rattle.fkv_maintain.specs.MaintainRun as turn
use Rattle.fkv_maintain.specs.Parts.{IsServing}
use Rattle.fkv_maintain.proofs.Shown.{serving_goes}
use Rattle.fkv_keeper.specs.declared.answers.KeeperTold.{KeeperTold}
use Rattle.fkv_keeper.specs.declared.answers.KeeperTold.TheVariants.{TurnRefused, CommitRefused}
use Rattle.fkv_keeper.specs.declared.keepers.Keeping.{Keeping}
use Rattle.fkv_keeper.specs.declared.keepers.Keeping.TheVariants.{Ended, Starts, Maintains, LoadsPhase, Enters, Copies, Seeks, Waits, Writes, Finishes, Sweeps}
use Rattle.fkv_keeper.specs.Keeping.{KeeperState, come_to, is_copy_resting, copy_driven, copy_told, asked_for, ended, turned, parts_begun, turn_asked, commit_asked, start_ledto, maintain_ledto, copies, copies_next, part_begun, writes_taken_up, phase_ledto, enter_ledto, copy_ledto, seek_ledto, writes_begun, wait_ledto, finished, finish_ledto, keeping_next, keeping_given, must_rest, rested, write_ledto, writes_called, keeping_called, unless_flush_rests, serves_alone, sweeps_next, sweep_ledto}
use Rattle.fkv_keeper.specs.KeeperRun.{KeeperEvent, BeginsTurn, BeginsCommit, Replies, Gets, Calls, keeper_happens}
use Rattle.fkv_keeper.specs.KeeperLaws.{MayRest}
use Rattle.fkv_keeper.specs.CheckpointLaws.{MayFollow, MayStep}
use Rattle.fkv_keeper.proofs.Happens.{happens_at, happens_so}
use Rattle.fkv_sweep.specs.Sweeping.{is_sweeping, sweep_ask, sweep_next, sweep_read}
use Rattle.std.specs.Option.{is_some}
use Rattle.fkv_sweep.specs.declared.sweeping.SweepAnswer.{SweepAnswer}
use Rattle.fkv_sweep.specs.declared.sweeping.SweepAnswer.TheVariants as sweep

-- Writes begin to rest by a call of theirs that succeeds, behind which a sync is due.
pub record BeginsRest (s : KeeperState) (event : KeeperEvent) (a : KeeperState) : Type 0 where
  pub writes : s.step ≡ Writes
  pub bytes : List ℕ
  pub called : event ≡ Calls true bytes
  pub commit : Commit
  pub in_hand : s.commit ≡ Some commit
  pub answers : commit_answer (commit_next s.writes true) ≡ write.Device
  pub due : must_rest (record s { writes = commit_next s.writes true }) ≡ true
  pub same : a ≡ turned (record s { writes = commit_next s.writes true; rests = true })

-- it stays whether they rest, or they rest no more, where the writes go on or the call ends
abbrev pub RestsAs : KeeperState → KeeperState → Type 0
RestsAs s a = (a.rests ≡ s.rests) ⊎ ((a.rests ≡ false) × MayFollow Writes a.step)

start_rests : (t : KeeperState) (ask : Ask StartAnswer) → RestsAs t (start_ledto t ask)
unfolding start_ledto
start_rests t (Done (start.Begun number first)) = inr (refl, tt)
start_rests t (Done (start.Refused why)) = inl refl
start_rests t (Done start.Idle) = inl refl
start_rests t ask = inl refl

maintain_rests : (t : KeeperState) (ask : Ask MaintainAnswer) → RestsAs t (maintain_ledto t ask)
unfolding maintain_ledto
maintain_rests t (Done maintain.Through) = inl refl
maintain_rests t (Done maintain.Spent) = inl refl
maintain_rests t (Done maintain.Broken) = inr (refl, tt)
maintain_rests t ask = inl refl

either_same : (b : Bool) (s x y : KeeperState) → x.rests ≡ s.rests → y.rests ≡ s.rests → (if b then x else y).rests ≡ s.rests
either_same true s x y one other = one
either_same false s x y one other = other

copies_rests : (p : Places) (s : KeeperState) (granted : Bool) → (copies p s granted).rests ≡ s.rests
copies_rests p s granted = either_same (granted || is_copy_resting s.copy) s _ _ refl refl

next_rests : (p : Places) (s : KeeperState) (c : Commit) (granted : Bool) (other : KeeperState) → other.rests ≡ s.rests → (copies_next p s c granted other).rests ≡ s.rests
next_rests p s c granted other same = either_same c.is_copied s other (copies p s granted) same (copies_rests p s granted)

part_rests : (p : Places) (s : KeeperState) (c : Commit) (said : PhaseSaid) (granted : Bool) → (part_begun p s c said granted).rests ≡ s.rests
part_rests p s c (Says phase.InProgress version) granted = either_same s.has_entered s _ _ (next_rests p s c granted (turned s) refl) refl
part_rests p s c (Says phase.WaitPending version) granted = next_rests p s c granted _ refl
part_rests p s c (Says phase.WaitFlush version) granted = either_same s.has_points s _ _ refl refl
part_rests p s c said granted = refl

either_as : (b : Bool) (s x y : KeeperState) → RestsAs s x → RestsAs s y → RestsAs s (if b then x else y)
either_as true s x y one other = one
either_as false s x y one other = other

phase_rests : (p : Places) (s : KeeperState) (found : Option Commit) (said : PhaseSaid) (granted : Bool) → RestsAs s (phase_ledto p s found said granted)
unfolding phase_ledto
phase_rests p s None said granted = inl (either_same (is_flush_resting s.maintain) s _ _ refl (either_same (granted && is_sweeping s.sweep) s _ _ refl refl))
phase_rests p s (Some c) said granted = either_as s.rests s (writes_taken_up s granted) (unless_flush_rests s granted (part_begun p s c said granted)) (either_as granted s _ _ (inr (refl, tt)) (inl refl))
    (inl (either_same (is_flush_resting s.maintain) s _ _ refl (part_rests p s c said granted)))

enter_rests : (t : KeeperState) (ask : Ask EnterAnswer) → (enter_ledto t ask).rests ≡ t.rests
unfolding enter_ledto
enter_rests t (Done enter.Entered) = refl
enter_rests t (Done enter.DrainFull) = refl
enter_rests t (Done enter.EpochsSpent) = refl
enter_rests t (Done enter.Idle) = refl
enter_rests t ask = refl

copy_rests : (t : KeeperState) (ask : Ask (Unit {0})) → (copy_ledto t ask).rests ≡ t.rests
unfolding copy_ledto
copy_rests t (Done its) = refl
copy_rests t ask = refl

seek_rests : (t : KeeperState) (ask : Ask SeekAnswer) → (seek_ledto t ask).rests ≡ t.rests
unfolding seek_ledto
seek_rests t (Done (seek.Taken end epoch)) = refl
seek_rests t (Done seek.DrainFull) = refl
seek_rests t (Done seek.EpochsSpent) = refl
seek_rests t (Done seek.Owing) = refl
seek_rests t (Done seek.Idle) = refl
seek_rests t ask = refl

begun_rests : (shape : Shape) (t : KeeperState) (found : Option Commit) → (writes_begun shape t found).rests ≡ t.rests
begun_rests shape t None = refl
begun_rests shape t (Some c) = refl

wait_rests : (shape : Shape) (t : KeeperState) (ask : Ask WaitAnswer) → (wait_ledto shape t ask).rests ≡ t.rests
unfolding wait_ledto
wait_rests shape t (Done wait.Flushed) = begun_rests shape t t.commit
wait_rests shape t (Done wait.NotYet) = refl
wait_rests shape t (Done wait.Idle) = refl
wait_rests shape t ask = refl

finished_rests : (t : KeeperState) (found : Option Commit) → (finished t found).rests ≡ t.rests
finished_rests t None = refl
finished_rests t (Some c) = refl

finish_rests : (t : KeeperState) (ask : Ask FinishAnswer) → (finish_ledto t ask).rests ≡ t.rests
unfolding finish_ledto
finish_rests t (Done its) = finished_rests t t.commit
finish_rests t ask = refl

sweep_rests : (t : KeeperState) (ask : Ask SweepAnswer) → (sweep_ledto t ask).rests ≡ t.rests
unfolding sweep_ledto
sweep_rests t (Done sweep.Through) = refl
sweep_rests t ask = refl

-- by a call of the writes
abbrev RestsBy : KeeperState → KeeperEvent → KeeperState → Type 0
RestsBy s event a = RestsAs s a ⊎ BeginsRest s event a

write_rests : (s : KeeperState) (bytes : List ℕ) (found : Option Commit) (answer : WriteAnswer) → s.step ≡ Writes → s.commit ≡ found → commit_answer (commit_next s.writes true) ≡ answer
    → RestsBy s (Calls true bytes) (write_ledto (record s { writes = commit_next s.writes true }) found answer)
unfolding write_ledto
write_rests s bytes None answer e in_hand answers = inl (inl refl)
write_rests s bytes (Some c) write.Written e in_hand answers = inl (inl refl)
write_rests s bytes (Some c) write.Device e in_hand answers = by (must_rest t) refl
  where
    t : KeeperState
    t = record s { writes = commit_next s.writes true }

    by : (rests : Bool) → must_rest t ≡ rests → RestsBy s (Calls true bytes) (if rests then turned (record t { rests = true }) else t)
    by true due = inr (record { writes = e; bytes = bytes; called = refl; commit = c; in_hand = in_hand; answers = answers; due = due; same = refl })
    by false due = inl (inl refl)
write_rests s bytes (Some c) (write.Broken why) e in_hand answers = inl (inl refl)

call_rests : (s : KeeperState) (done : Bool) (bytes : List ℕ) → s.step ≡ Writes → RestsBy s (Calls done bytes) (writes_called s done)
call_rests s true bytes e = write_rests s bytes s.commit (commit_answer (commit_next s.writes true)) e refl refl
call_rests s false bytes e = inl (inr (refl, tt))

reply_rests : (shape : Shape) (p : Places) (s : KeeperState) (step : Keeping) (reply : ℕ) (granted : Bool) → RestsAs s (keeping_next shape p s step reply granted)
unfolding keeping_next
reply_rests shape p s (Ended its) reply granted = inl refl
reply_rests shape p s Starts reply granted = start_rests (record s { start = start_next s.start reply }) (start_ask (start_next s.start reply))
reply_rests shape p s Maintains reply granted = maintain_rests (record s { maintain = maintain_next shape p s.maintain reply }) (maintain_ask shape p (maintain_next shape p s.maintain reply))
reply_rests shape p s LoadsPhase reply granted = phase_rests p s s.commit (phase_said reply) granted
reply_rests shape p s Enters reply granted = inl (enter_rests (record s { enter = enter_next s.enter reply }) (enter_ask (enter_next s.enter reply)))
reply_rests shape p s Copies reply granted = inl (copy_rests (record s { copy = copy_driven s.copy reply }) (copy_told (copy_driven s.copy reply)))
reply_rests shape p s Seeks reply granted = inl (seek_rests (record s { seek = seek_next s.seek reply }) (seek_ask (seek_next s.seek reply)))
reply_rests shape p s Waits reply granted = inl (wait_rests shape (record s { wait = wait_next s.wait reply }) (wait_ask (wait_next s.wait reply)))
reply_rests shape p s Writes reply granted = inl refl
reply_rests shape p s Finishes reply granted = inl (finish_rests (record s { finish = finish_next s.finish reply }) (finish_ask s.seek.points (finish_next s.finish reply)))
reply_rests shape p s Sweeps reply granted = inl (sweep_rests (record s { sweep = sweep_next s.sweep reply }) (sweep_ask (sweep_next s.sweep reply)))

given_rests : (shape : Shape) (p : Places) (s : KeeperState) (step : Keeping) (action : Action) → RestsAs s (keeping_given shape p s step action)
unfolding keeping_given
given_rests shape p s Maintains action = maintain_rests (record s { maintain = maintain_given s.maintain action }) (maintain_ask shape p (maintain_given s.maintain action))
given_rests shape p s step action = inl refl

called_rests : (shape : Shape) (p : Places) (s : KeeperState) (step : Keeping) (done : Bool) (bytes : List ℕ) → s.step ≡ step → RestsBy s (Calls done bytes) (keeping_called shape p s step done bytes)
unfolding keeping_called
called_rests shape p s Maintains done bytes e = inl (maintain_rests (record s { maintain = maintain_called shape p s.maintain done bytes }) (maintain_ask shape p (maintain_called shape p s.maintain done bytes)))
called_rests shape p s Writes done bytes e = call_rests s done bytes e
called_rests shape p s Sweeps true bytes e = inl (inl (sweep_rests (record s { sweep = sweep_read s.sweep bytes }) (sweep_ask (sweep_read s.sweep bytes))))
called_rests shape p s Sweeps false bytes e = inl (inr (refl, tt))
called_rests shape p s step done bytes e = inl (inl refl)

happens_rests : (shape : Shape) (p : Places) (s : KeeperState) (step : Keeping) (event : KeeperEvent) → s.step ≡ step → RestsBy s event (happens_at shape p s step event)
happens_rests shape p s (Ended its) BeginsTurn e = inl (either_as s.is_broken s _ _ (inl refl) (inl refl))
happens_rests shape p s (Ended its) (BeginsCommit kind) e = inl (either_as s.is_broken s _ _ (inl refl) (either_as s.rests s _ _ (inl refl) (inl refl)))
happens_rests shape p s step BeginsTurn e = inl (inl refl)
happens_rests shape p s step (BeginsCommit kind) e = inl (inl refl)
happens_rests shape p s step (Replies reply granted) e = inl (reply_rests shape p s step reply granted)
happens_rests shape p s step (Gets action) e = inl (given_rests shape p s step action)
happens_rests shape p s step (Calls done bytes) e = called_rests shape p s step done bytes e

pub each_rests : (shape : Shape) (p : Places) (s : KeeperState) (event : KeeperEvent) → RestsBy s event (keeper_happens shape p s event)
each_rests shape p s event = subst (λ (x : KeeperState). RestsBy s event x) (happens_so shape p s event) (happens_rests shape p s s.step event refl)

not_both : {X : Type 0} (b : Bool) → b ≡ false → b ≡ true → X
not_both b low high = let clash : true ≡ false = sym high ∙ low in cc

-- so they begin to rest in one way alone
pub begins_rest : (shape : Shape) (p : Places) (s : KeeperState) (event : KeeperEvent) → s.rests ≡ false → (keeper_happens shape p s event).rests ≡ true → BeginsRest s event (keeper_happens shape p s event)
begins_rest shape p s event awake rests = by (each_rests shape p s event)
  where
    a : KeeperState
    a = keeper_happens shape p s event

    by : RestsBy s event a → BeginsRest s event a
    by (inl (inl same)) = not_both a.rests (same ∙ awake) rests
    by (inl (inr (none, follows))) = not_both a.rests none rests
    by (inr begins) = begins

-- the steps of a keeper whose writes rest are those of the writes
pub may_step : (rests : Bool) (step after : Keeping) → MayFollow step after → MayStep rests step after
may_step true LoadsPhase Writes follows = tt
may_step rests step after follows = follows

writes_follow : (step : Keeping) → step ≡ Writes → MayFollow step Writes
writes_follow step e = subst (λ (x : Keeping). MayFollow x Writes) (sym e) tt

pub come_follows : (s : KeeperState) (event : KeeperEvent) (a : KeeperState) → RestsBy s event a → MayStep s.rests s.step a.step → MayFollow (come_to s) (come_to a)
come_follows s event a rests steps = by s.rests a.rests refl refl steps
  where
    ends : s.rests ≡ true → a.rests ≡ false → MayFollow Writes a.step
    ends rested awake = from rests
      where
        from : RestsBy s event a → MayFollow Writes a.step
        from (inl (inl same)) = not_both a.rests awake (same ∙ rested)
        from (inl (inr (none, follows))) = follows
        from (inr begins) = not_both a.rests awake (ap (λ (x : KeeperState). x.rests) begins.same)

    begins : s.rests ≡ false → a.rests ≡ true → MayFollow s.step Writes
    begins awake rested = from rests
      where
        from : RestsBy s event a → MayFollow s.step Writes
        from (inl (inl same)) = not_both a.rests (same ∙ awake) rested
        from (inl (inr (none, follows))) = not_both a.rests none rested
        from (inr its) = writes_follow s.step its.writes

    by : (was is : Bool) → s.rests ≡ was → a.rests ≡ is → MayStep was s.step a.step → MayFollow (if was then Writes else s.step) (if is then Writes else a.step)
    by true true was is steps = tt
    by true false was is steps = ends was is
    by false true was is steps = begins was is
    by false false was is steps = steps

-- What an event leaves where they rest before it and behind it.
pub record RestsStill (s a : KeeperState) : Type 0 where
  pub rests : MayRest a.step
  pub works : a.is_broken ≡ s.is_broken
  pub serves : a.step ≡ Maintains → IsServing a.maintain.step
  pub commit : a.commit ≡ s.commit
  pub copy : a.copy ≡ s.copy
  pub writes : a.writes ≡ s.writes
  pub used : a.used ≡ s.used
  pub seek : a.seek ≡ s.seek
  pub last : a.last ≡ s.last
  pub lost : a.lost ≡ s.lost

-- a turn serves, if one is in hand
abbrev pub Serves : KeeperState → Keeping → Type 0
Serves s Maintains = IsServing s.maintain.step
Serves s step = ⊤

at_serves : (s : KeeperState) (step : Keeping) → s.step ≡ step → (s.step ≡ Maintains → IsServing s.maintain.step) → Serves s step
at_serves s Maintains e serves = serves e
at_serves s (Ended its) e serves = tt
at_serves s Starts e serves = tt
at_serves s LoadsPhase e serves = tt
at_serves s Enters e serves = tt
at_serves s Copies e serves = tt
at_serves s Seeks e serves = tt
at_serves s Waits e serves = tt
at_serves s Writes e serves = tt
at_serves s Finishes e serves = tt
at_serves s Sweeps e serves = tt

at_maintains : (s : KeeperState) (step : Keeping) → s.step ≡ step → Serves s step → s.step ≡ Maintains → IsServing s.maintain.step
at_maintains s step e serves maintains = subst (λ (x : Keeping). Serves s x) (sym e ∙ maintains) serves

as_it_was : (s : KeeperState) (step : Keeping) → s.step ≡ step → MayRest step → Serves s step → RestsStill s s
as_it_was s step e may serves = record {
  rests = subst MayRest (sym e) may;
  works = refl;
  serves = at_maintains s step e serves;
  commit = refl;
  copy = refl;
  writes = refl;
  used = refl;
  seek = refl;
  last = refl;
  lost = refl;
}

maintain_still : (s : KeeperState) (m : MaintainState) (ask : Ask MaintainAnswer) → s.step ≡ Maintains → IsServing m.step → (maintain_ledto (record s { maintain = m }) ask).rests ≡ true → RestsStill s (maintain_ledto (record s { maintain = m }) ask)
unfolding maintain_ledto
maintain_still s m (Done maintain.Through) e serving is = record { rests = tt; works = refl; serves = λ at. cc; commit = refl; copy = refl; writes = refl; used = refl; seek = refl; last = refl; lost = refl }
maintain_still s m (Done maintain.Spent) e serving is = record { rests = tt; works = refl; serves = λ at. cc; commit = refl; copy = refl; writes = refl; used = refl; seek = refl; last = refl; lost = refl }
maintain_still s m (Done maintain.Broken) e serving is = cc
maintain_still s m ask e serving is = record { rests = rw e tt; works = refl; serves = λ at. serving; commit = refl; copy = refl; writes = refl; used = refl; seek = refl; last = refl; lost = refl }

phase_still : (p : Places) (s : KeeperState) (found : Option Commit) (said : PhaseSaid) (granted : Bool) → s.rests ≡ true → is_some found ≡ true → (phase_ledto p s found said granted).rests ≡ true → RestsStill s (phase_ledto p s found said granted)
unfolding phase_ledto
phase_still p s None said granted was held is = cc
phase_still p s (Some c) said granted was held is = by s.rests was granted is
  where
    by : (rests : Bool) → rests ≡ true → (granted : Bool) → (if rests then writes_taken_up s granted else unless_flush_rests s granted (part_begun p s c said granted)).rests ≡ true
        → RestsStill s (if rests then writes_taken_up s granted else unless_flush_rests s granted (part_begun p s c said granted))
    by true so true is = cc
    by true so false is = record { rests = tt; works = refl; serves = λ at. cc; commit = refl; copy = refl; writes = refl; used = refl; seek = refl; last = refl; lost = refl }
    by false so granted is = cc

-- a part's own machine goes on serving
next_serves : (shape : Shape) (p : Places) (m : MaintainState) (reply : ℕ) → IsServing m.step → IsServing (maintain_next shape p m reply).step
unfolding maintain_happens
next_serves shape p m reply its = serving_goes shape p m (turn.Replies reply) its

given_serves : (shape : Shape) (p : Places) (m : MaintainState) (action : Action) → IsServing m.step → IsServing (maintain_given m action).step
unfolding maintain_happens
given_serves shape p m action its = serving_goes shape p m (turn.Gets action) its

called_serves : (shape : Shape) (p : Places) (m : MaintainState) (done : Bool) (bytes : List ℕ) → IsServing m.step → IsServing (maintain_called shape p m done bytes).step
unfolding maintain_happens
called_serves shape p m done bytes its = serving_goes shape p m (turn.Calls done bytes) its

turn_still : (s : KeeperState) (its : KeeperTold) → s.step ≡ Ended its → s.rests ≡ true → RestsStill s (turn_asked s)
turn_still s its e was = by s.is_broken
  where
    begun : KeeperState
    begun = record s { maintain = parts_begun (serves_alone s) s.maintain; is_drain_full = false; step = Maintains }

    serving : (rests : Bool) → rests ≡ true → IsServing (parts_begun rests s.maintain).step
    serving true so = tt
    serving false so = cc

    by : (broken : Bool) → RestsStill s (if broken then ended s (TurnRefused fault.Broken) else begun)
    by true = record { rests = tt; works = refl; serves = λ at. cc; commit = refl; copy = refl; writes = refl; used = refl; seek = refl; last = refl; lost = refl }
    by false = record { rests = tt; works = refl; serves = λ at. serving (serves_alone s) (ap (λ (x : Bool). x || (is_flush_resting s.maintain && not s.is_granted)) was); commit = refl; copy = refl; writes = refl; used = refl; seek = refl; last = refl; lost = refl }

commit_still : (s : KeeperState) (kind : CommitKind) → s.rests ≡ true → RestsStill s (commit_asked s kind)
commit_still s kind was = by s.is_broken s.rests was
  where
    by : (broken rests : Bool) → rests ≡ true
        → RestsStill s (if broken then ended s (CommitRefused fault.Broken) else (if rests then ended s (CommitRefused fault.CommitRunning) else record s { start = start_begun s.start (asked_for s kind); step = Starts }))
    by true rests so = record { rests = tt; works = refl; serves = λ at. cc; commit = refl; copy = refl; writes = refl; used = refl; seek = refl; last = refl; lost = refl }
    by false true so = record { rests = tt; works = refl; serves = λ at. cc; commit = refl; copy = refl; writes = refl; used = refl; seek = refl; last = refl; lost = refl }
    by false false so = cc

happens_still : (shape : Shape) (p : Places) (s : KeeperState) (step : Keeping) (event : KeeperEvent) → s.step ≡ step → s.rests ≡ true → is_some s.commit ≡ true → MayRest step → Serves s step
    → (happens_at shape p s step event).rests ≡ true → RestsStill s (happens_at shape p s step event)
unfolding keeping_next keeping_given keeping_called
happens_still shape p s (Ended its) BeginsTurn e was held may serves is = turn_still s its e was
happens_still shape p s (Ended its) (BeginsCommit kind) e was held may serves is = commit_still s kind was
happens_still shape p s (Ended its) (Replies reply granted) e was held may serves is = as_it_was s (Ended its) e may tt
happens_still shape p s (Ended its) (Gets action) e was held may serves is = as_it_was s (Ended its) e may tt
happens_still shape p s (Ended its) (Calls done bytes) e was held may serves is = as_it_was s (Ended its) e may tt
happens_still shape p s Maintains (Replies reply granted) e was held may serves is =
    maintain_still s (maintain_next shape p s.maintain reply) (maintain_ask shape p (maintain_next shape p s.maintain reply)) e (next_serves shape p s.maintain reply serves) is
happens_still shape p s Maintains (Gets action) e was held may serves is =
    maintain_still s (maintain_given s.maintain action) (maintain_ask shape p (maintain_given s.maintain action)) e (given_serves shape p s.maintain action serves) is
happens_still shape p s Maintains (Calls done bytes) e was held may serves is =
    maintain_still s (maintain_called shape p s.maintain done bytes) (maintain_ask shape p (maintain_called shape p s.maintain done bytes)) e (called_serves shape p s.maintain done bytes serves) is
happens_still shape p s Maintains BeginsTurn e was held may serves is = as_it_was s Maintains e tt serves
happens_still shape p s Maintains (BeginsCommit kind) e was held may serves is = as_it_was s Maintains e tt serves
happens_still shape p s LoadsPhase (Replies reply granted) e was held may serves is = phase_still p s s.commit (phase_said reply) granted was held is
happens_still shape p s LoadsPhase BeginsTurn e was held may serves is = as_it_was s LoadsPhase e tt tt
happens_still shape p s LoadsPhase (BeginsCommit kind) e was held may serves is = as_it_was s LoadsPhase e tt tt
happens_still shape p s LoadsPhase (Gets action) e was held may serves is = as_it_was s LoadsPhase e tt tt
happens_still shape p s LoadsPhase (Calls done bytes) e was held may serves is = as_it_was s LoadsPhase e tt tt
happens_still shape p s step event e was held may serves is = absurd may

pub rests_still : (shape : Shape) (p : Places) (s : KeeperState) (event : KeeperEvent) → s.rests ≡ true → is_some s.commit ≡ true → MayRest s.step → (s.step ≡ Maintains → IsServing s.maintain.step)
    → (keeper_happens shape p s event).rests ≡ true → RestsStill s (keeper_happens shape p s event)
rests_still shape p s event was held may serves is =
    subst (λ (x : KeeperState). RestsStill s x) same (happens_still shape p s s.step event refl was held may (at_serves s s.step refl serves) (ap (λ (x : KeeperState). x.rests) same ∙ is))
  where
    same : happens_at shape p s s.step event ≡ keeper_happens shape p s event
    same = happens_so shape p s event

-- the device has failed
pub record BreaksInRest (s a : KeeperState) : Type 0 where
  pub broken : a.is_broken ≡ true
  pub step : a.step ≡ Ended (TurnRefused fault.Device)
  pub commit : a.commit ≡ s.commit
  pub copy : a.copy ≡ s.copy
  pub last : a.last ≡ s.last

-- they cease to rest in two ways: they are taken up, or the device fails
abbrev pub EndsRest : KeeperState → KeeperEvent → KeeperState → Type 0
EndsRest s event a = (a ≡ record s { rests = false; is_granted = true; step = Writes }) ⊎ BreaksInRest s a

maintain_ended : (s : KeeperState) (event : KeeperEvent) (m : MaintainState) (ask : Ask MaintainAnswer) → s.rests ≡ true → (maintain_ledto (record s { maintain = m }) ask).rests ≡ false → EndsRest s event (maintain_ledto (record s { maintain = m }) ask)
unfolding maintain_ledto
maintain_ended s event m (Done maintain.Through) was is = not_both s.rests is was
maintain_ended s event m (Done maintain.Spent) was is = not_both s.rests is was
maintain_ended s event m (Done maintain.Broken) was is = inr (record { broken = refl; step = refl; commit = refl; copy = refl; last = refl })
maintain_ended s event m ask was is = not_both s.rests is was

phase_ended : (p : Places) (s : KeeperState) (event : KeeperEvent) (found : Option Commit) (said : PhaseSaid) (granted : Bool) → s.rests ≡ true → (phase_ledto p s found said granted).rests ≡ false → EndsRest s event (phase_ledto p s found said granted)
unfolding phase_ledto
phase_ended p s event None said granted was is = not_both s.rests (sym (either_same (is_flush_resting s.maintain) s (turned (record s { is_granted = granted })) (sweeps_next s granted) refl (either_same (granted && is_sweeping s.sweep) s _ _ refl refl)) ∙ is) was
phase_ended p s event (Some c) said granted was is = by s.rests was granted is
  where
    by : (rests : Bool) → rests ≡ true → (granted : Bool) → (if rests then writes_taken_up s granted else unless_flush_rests s granted (part_begun p s c said granted)).rests ≡ false
        → EndsRest s event (if rests then writes_taken_up s granted else unless_flush_rests s granted (part_begun p s c said granted))
    by true so true is = inl refl
    by true so false is = not_both s.rests is was
    by false so granted is = cc

happens_ended : (shape : Shape) (p : Places) (s : KeeperState) (step : Keeping) (event : KeeperEvent) → s.step ≡ step → s.rests ≡ true → MayRest step → (happens_at shape p s step event).rests ≡ false
    → EndsRest s event (happens_at shape p s step event)
unfolding keeping_next keeping_given keeping_called
happens_ended shape p s (Ended its) BeginsTurn e was may is = not_both s.rests (sym (either_same s.is_broken s _ _ refl refl) ∙ is) was
happens_ended shape p s (Ended its) (BeginsCommit kind) e was may is = not_both s.rests (sym (either_same s.is_broken s _ _ refl (either_same s.rests s _ _ refl refl)) ∙ is) was
happens_ended shape p s (Ended its) (Replies reply granted) e was may is = not_both s.rests is was
happens_ended shape p s (Ended its) (Gets action) e was may is = not_both s.rests is was
happens_ended shape p s (Ended its) (Calls done bytes) e was may is = not_both s.rests is was
happens_ended shape p s Maintains (Replies reply granted) e was may is =
    maintain_ended s (Replies reply granted) (maintain_next shape p s.maintain reply) (maintain_ask shape p (maintain_next shape p s.maintain reply)) was is
happens_ended shape p s Maintains (Gets action) e was may is = maintain_ended s (Gets action) (maintain_given s.maintain action) (maintain_ask shape p (maintain_given s.maintain action)) was is
happens_ended shape p s Maintains (Calls done bytes) e was may is =
    maintain_ended s (Calls done bytes) (maintain_called shape p s.maintain done bytes) (maintain_ask shape p (maintain_called shape p s.maintain done bytes)) was is
happens_ended shape p s Maintains event e was may is = not_both s.rests is was
happens_ended shape p s LoadsPhase (Replies reply granted) e was may is = phase_ended p s (Replies reply granted) s.commit (phase_said reply) granted was is
happens_ended shape p s LoadsPhase event e was may is = not_both s.rests is was
happens_ended shape p s step event e was may is = absurd may

pub rest_ends : (shape : Shape) (p : Places) (s : KeeperState) (event : KeeperEvent) → s.rests ≡ true → MayRest s.step → (keeper_happens shape p s event).rests ≡ false → EndsRest s event (keeper_happens shape p s event)
rest_ends shape p s event was may is =
    subst (λ (x : KeeperState). EndsRest s event x) same (happens_ended shape p s s.step event refl was may (ap (λ (x : KeeperState). x.rests) same ∙ is))
  where
    same : happens_at shape p s s.step event ≡ keeper_happens shape p s event
    same = happens_so shape p s event
