-- What holds of a keeper at every moment of a run.
use Rattle.std.proofs.Common.{◌≡◌, ℕ, ◌∙◌, List, [], ◌∷◌, refl, ap, sym, subst, Bool, true, false}
use Rattle.std.specs.Prelude.{◌&&◌, ◌||◌, Option, Some, None, if◌then◌else◌, ⊤}
use Rattle.fkv_base.specs.declared.faults.Fault.TheVariants as fault
use Rattle.fkv_base.specs.declared.numbers.Addr.{Addr}
use Rattle.fkv_base.specs.declared.numbers.Version.{Version}
use Rattle.fkv_base.specs.declared.phases.Phase.TheVariants as phase
use Rattle.fkv_base.specs.declared.shapes.Shape.{Shape}
use Rattle.fkv_words.specs.declared.phase_words.PhaseSaid.{PhaseSaid}
use Rattle.fkv_words.specs.declared.phase_words.PhaseSaid.TheVariants.{Says}
use Rattle.fkv_words.specs.PhaseWords.{phase_said}
use Rattle.fkv_plane.specs.declared.actions.Action.{Action}
use Rattle.fkv_plane.specs.declared.asks.Ask.{Ask}
use Rattle.fkv_plane.specs.declared.asks.Ask.TheVariants.{Done}
use Rattle.fkv_plane.specs.declared.places.Places.{Places}
use Rattle.fkv_commit.specs.declared.commits.Commit.{Commit}
use Rattle.fkv_base.specs.declared.commits.CommitKind.{CommitKind}
use Rattle.fkv_commit.specs.declared.entering.EnterAnswer.{EnterAnswer}
use Rattle.fkv_commit.specs.declared.entering.EnterAnswer.TheVariants as enter
use Rattle.fkv_commit.specs.declared.finishing.FinishAnswer.{FinishAnswer}
use Rattle.fkv_commit.specs.declared.seeking.SeekAnswer.{SeekAnswer}
use Rattle.fkv_commit.specs.declared.seeking.SeekAnswer.TheVariants as seek
use Rattle.fkv_commit.specs.declared.starting.StartAnswer.{StartAnswer}
use Rattle.fkv_commit.specs.declared.starting.StartAnswer.TheVariants as start
use Rattle.fkv_commit.specs.declared.waiting.WaitAnswer.{WaitAnswer}
use Rattle.fkv_commit.specs.declared.waiting.WaitAnswer.TheVariants as wait
use Rattle.fkv_commit.specs.Entering.{enter_ask, enter_next}
use Rattle.fkv_commit.specs.Finishing.{finish_begun, finish_ask, finish_next}
use Rattle.fkv_commit.specs.Seeking.{seek_begun, seek_ask, seek_next}
use Rattle.fkv_commit.specs.Starting.{start_begun, start_ask, start_next}
use Rattle.fkv_commit.specs.Waiting.{wait_ask, wait_next}
use Rattle.fkv_manifest.specs.declared.answers.WriteAnswer.{WriteAnswer}
use Rattle.fkv_manifest.specs.declared.answers.WriteAnswer.TheVariants as write
use Rattle.fkv_manifest.specs.Committing.{CommitWriter, commit_next, commit_answer}
use Rattle.fkv_manifest.specs.Made.{commit_run}
use Rattle.fkv_keeper.specs.declared.answers.KeeperTold.{KeeperTold}
use Rattle.fkv_keeper.specs.declared.answers.KeeperTold.TheVariants.{Turned, TurnRefused, CommitRefused}
use Rattle.fkv_keeper.specs.declared.keepers.Keeping.{Keeping}
use Rattle.fkv_keeper.specs.declared.keepers.Keeping.TheVariants.{Ended, Starts, Maintains, LoadsPhase, Enters, Copies, Seeks, Waits, Writes, Finishes, Sweeps}
use Rattle.fkv_maintain.specs.declared.maintaining.MaintainAnswer.{MaintainAnswer}
use Rattle.fkv_maintain.specs.declared.maintaining.MaintainAnswer.TheVariants as maintain
use Rattle.fkv_maintain.specs.Maintaining.{is_flush_resting, maintain_ask, maintain_next, maintain_given, maintain_called}
use Rattle.fkv_keeper.specs.Keeping.{KeeperState, is_copy_resting, copy_taken, copy_driven, copy_told, copied, points_known, ended, turned, start_ledto, maintain_ledto, copies, part_begun, parts_begun, writes_taken_up, phase_ledto, enter_ledto, copy_ledto, seek_ledto, writes_begun, wait_ledto, finished, finish_ledto, keeping_next, keeping_given, must_rest, write_ledto, writes_called, keeping_called, asked_for, unless_flush_rests, serves_alone, sweeps_next, sweep_ledto, sweep_called}
use Rattle.fkv_record.specs.Places.{area_place}
use Rattle.fkv_keeper.specs.declared.last_commits.Checkpoint.{Checkpoint}
use Rattle.fkv_keeper.specs.LastCommits.{area_number}
use Rattle.fkv_keeper.specs.KeeperRun.{Replies, Gets, Calls, Writing, writing_after, open_after}
use Rattle.fkv_keeper.specs.KeeperLaws.{IsRefusal, AreWritesOfCommit, IsWritten, IsMemoryRefused, number_in_hand, IsFinishOfBegun}
use Rattle.fkv_sweep.specs.Sweeping.{is_sweeping, sweep_ask, sweep_next, sweep_read}
use Rattle.fkv_sweep.specs.declared.sweeping.SweepAnswer.{SweepAnswer}
use Rattle.fkv_sweep.specs.declared.sweeping.SweepAnswer.TheVariants as sweep

-- a call has been refused
abbrev pub IsRefused : Keeping → Type 0
IsRefused (Ended told) = IsRefusal told
IsRefused step = ⊥

-- what is written is the commit's
pub record KnowsWrites (shape : Shape) (s : KeeperState) (w : Writing) : Type 0 where
  pub commit : Commit
  pub in_hand : s.commit ≡ Some commit
  pub writes : AreWritesOfCommit shape s commit w.first
  pub run : s.writes ≡ commit_run w.first w.answers

-- what is known by how far the call has come; while one is in hand the device works
abbrev pub Knows : Shape → KeeperState → Writing → Keeping → Type 0
Knows shape s w (Ended its) = ⊤
Knows shape s w Writes = (s.is_broken ≡ false) × KnowsWrites shape s w
Knows shape s w Finishes = (s.is_broken ≡ false) × IsWritten shape s w
Knows shape s w step = s.is_broken ≡ false

-- what a step of a call leads to
pub record IsStep (shape : Shape) (w : Writing) (s a : KeeperState) : Type 0 where
  pub broken : a.is_broken ≡ true → IsRefused a.step
  pub knows : Knows shape a w a.step
  pub number : number_in_hand a.commit ≡ open_after a.step (number_in_hand s.commit)
  pub memory : a.step ≡ Ended (TurnRefused fault.Memory) → IsMemoryRefused s a
  pub told : (full : Bool) → a.step ≡ Ended (Turned true full) → IsFinishOfBegun (number_in_hand s.commit) s a

abbrev pub IsGoing : Keeping → Type 0
IsGoing (Ended its) = ⊥
IsGoing step = ⊤

pub not_ended : (step : Keeping) (its : KeeperTold) → IsGoing step → step ≡ Ended its → ⊥
not_ended step its going e = subst IsGoing e going

open_going : (step : Keeping) (number : Option Version) → IsGoing step → open_after step number ≡ number
open_going (Ended its) number going = absurd going
open_going step number going = refl

pub works_not : (b : Bool) → b ≡ false → b ≡ true → ⊥
works_not b works broken = let clash : true ≡ false = sym broken ∙ works in cc

going : (shape : Shape) (w : Writing) (s a : KeeperState) (step : Keeping) → IsGoing step → a.step ≡ step → a.is_broken ≡ false → number_in_hand a.commit ≡ number_in_hand s.commit → Knows shape a w step → IsStep shape w s a
going shape w s a step goes e works same knows = record {
  broken = λ broken. absurd (works_not a.is_broken works broken);
  knows = subst (λ (x : Keeping). Knows shape a w x) (sym e) knows;
  number = same ∙ sym (ap (λ (x : Keeping). open_after x (number_in_hand s.commit)) e ∙ open_going step (number_in_hand s.commit) goes);
  memory = λ ends. absurd (not_ended step (TurnRefused fault.Memory) goes (sym e ∙ ends));
  told = λ full ends. absurd (not_ended step (Turned true full) goes (sym e ∙ ends));
}

turns : (shape : Shape) (w : Writing) (s t : KeeperState) (full : Bool) → t.is_broken ≡ false → number_in_hand t.commit ≡ number_in_hand s.commit → IsStep shape w s (ended t (Turned false full))
turns shape w s t full works same = record { broken = λ broken. absurd (works_not t.is_broken works broken); knows = tt; number = same; memory = λ ends. cc; told = λ other ends. cc }

-- by what the machines inside come to
start_step : (shape : Shape) (w : Writing) (s t : KeeperState) (ask : Ask StartAnswer) → t.step ≡ Starts → t.is_broken ≡ false → t.commit ≡ s.commit → IsStep shape w s (start_ledto t ask)
unfolding start_ledto
start_step shape w s t (Done (start.Begun number first)) e works same = record { broken = λ broken. absurd (works_not t.is_broken works broken); knows = tt; number = refl; memory = λ ends. cc; told = λ full ends. cc }
start_step shape w s t (Done (start.Refused why)) e works same = record { broken = λ broken. tt; knows = tt; number = ap number_in_hand same; memory = λ ends. cc; told = λ full ends. cc }
start_step shape w s t (Done start.Idle) e works same = record { broken = λ broken. tt; knows = tt; number = ap number_in_hand same; memory = λ ends. cc; told = λ full ends. cc }
start_step shape w s t ask e works same = going shape w s t Starts tt e works (ap number_in_hand same) works

maintain_step : (shape : Shape) (w : Writing) (s t : KeeperState) (ask : Ask MaintainAnswer) → t.step ≡ Maintains → t.is_broken ≡ false → t.commit ≡ s.commit → IsStep shape w s (maintain_ledto t ask)
unfolding maintain_ledto
maintain_step shape w s t (Done maintain.Through) e works same = going shape w s _ LoadsPhase tt refl works (ap number_in_hand same) works
maintain_step shape w s t (Done maintain.Spent) e works same = record { broken = λ broken. tt; knows = tt; number = ap number_in_hand same; memory = λ ends. cc; told = λ full ends. cc }
maintain_step shape w s t (Done maintain.Broken) e works same = record { broken = λ broken. tt; knows = tt; number = ap number_in_hand same; memory = λ ends. cc; told = λ full ends. cc }
maintain_step shape w s t ask e works same = going shape w s t Maintains tt e works (ap number_in_hand same) works

-- what the phase calls for
copies_step : (shape : Shape) (p : Places) (w : Writing) (s : KeeperState) (c : Commit) (granted : Bool) → s.is_broken ≡ false → s.commit ≡ Some c → c.is_copied ≡ false → IsStep shape w s (copies p s granted)
copies_step shape p w s c granted works in_hand not_copied = by_rest (is_copy_resting s.copy) refl granted
  where
    by_rest : (rests : Bool) → is_copy_resting s.copy ≡ rests → (granted : Bool)
        → IsStep shape w s (if granted || rests then record s { copy = copy_taken p s.copy; is_granted = true; step = Copies } else ended (record s { is_granted = false }) (TurnRefused fault.Memory))
    by_rest true rests true = going shape w s _ Copies tt refl works refl works
    by_rest true rests false = going shape w s _ Copies tt refl works refl works
    by_rest false none true = going shape w s _ Copies tt refl works refl works
    by_rest false none false = record { broken = λ broken. tt; knows = tt; number = refl; memory = λ ends. record { commit = c; in_hand = in_hand; not_copied = not_copied; none_rests = none; same = refl }; told = λ full ends. cc }

else_step : (shape : Shape) (p : Places) (w : Writing) (s : KeeperState) (c : Commit) (granted : Bool) (other : KeeperState) (is_copied : Bool) → c.is_copied ≡ is_copied → s.is_broken ≡ false → s.commit ≡ Some c → IsStep shape w s other → IsStep shape w s (if is_copied then other else copies p s granted)
else_step shape p w s c granted other true e works in_hand its = its
else_step shape p w s c granted other false e works in_hand its = copies_step shape p w s c granted works in_hand e

either_step : (b : Bool) (shape : Shape) (w : Writing) (s a o : KeeperState) → IsStep shape w s a → IsStep shape w s o → IsStep shape w s (if b then a else o)
either_step true shape w s a o one other = one
either_step false shape w s a o one other = other

part_step : (shape : Shape) (p : Places) (w : Writing) (s : KeeperState) (c : Commit) (said : PhaseSaid) (granted : Bool) → s.is_broken ≡ false → s.commit ≡ Some c → IsStep shape w s (part_begun p s c said granted)
part_step shape p w s c (Says phase.InProgress version) granted works in_hand =
    either_step s.has_entered shape w s _ _
    (else_step shape p w s c granted (turned s) c.is_copied refl works in_hand (turns shape w s s s.is_drain_full works refl))
    (going shape w s _ Enters tt refl works refl works)
part_step shape p w s c (Says phase.WaitPending version) granted works in_hand =
    else_step shape p w s c granted (record s { seek = seek_begun s.seek c.number s.last.points; has_points = false; step = Seeks }) c.is_copied refl works in_hand (going shape w s _ Seeks tt refl works refl works)
part_step shape p w s c (Says phase.WaitFlush version) granted works in_hand =
    either_step s.has_points shape w s _ _ (going shape w s _ Waits tt refl works refl works) (turns shape w s s s.is_drain_full works refl)
part_step shape p w s c said granted works in_hand = turns shape w s s s.is_drain_full works refl

-- the commit's writes are the same in a state that has the same of it
pub kept_writes : (shape : Shape) (s a : KeeperState) (w : Writing) → a.commit ≡ s.commit → a.writes ≡ s.writes → a.used ≡ s.used → a.seek ≡ s.seek → a.last ≡ s.last → a.lost ≡ s.lost → KnowsWrites shape s w → KnowsWrites shape a w
kept_writes shape s a w commit writes used seek last lost known = record {
  commit = known.commit;
  in_hand = commit ∙ known.in_hand;
  writes = record {
    area = known.writes.area ∙ ap (λ (x : Checkpoint). area_place shape (area_number x.area)) (sym used);
    step = known.writes.step;
    gate = known.writes.gate ∙ rw (used, seek, last, lost) refl;
  };
  run = writes ∙ known.run;
}

-- writes that rest are taken up, or rest still
take_up_step : (shape : Shape) (w : Writing) (s : KeeperState) (granted : Bool) → s.is_broken ≡ false → KnowsWrites shape s w → IsStep shape w s (writes_taken_up s granted)
take_up_step shape w s true works known =
    going shape w s a Writes tt refl works refl (works, kept_writes shape s a w refl refl refl refl refl refl known)
  where
    a : KeeperState
    a = record s { rests = false; is_granted = true; step = Writes }
take_up_step shape w s false works known = turns shape w s (record s { is_granted = false }) s.is_drain_full works refl

-- where a flush rests the turn is over
lets_step : (shape : Shape) (w : Writing) (s its : KeeperState) (granted rests : Bool) → s.is_broken ≡ false → IsStep shape w s its → IsStep shape w s (if rests then turned (record s { is_granted = granted }) else its)
lets_step shape w s its granted true works led = turns shape w s (record s { is_granted = granted }) s.is_drain_full works refl
lets_step shape w s its granted false works led = led

-- a sweep goes on, or the turn is over
sweeps_step : (shape : Shape) (w : Writing) (s : KeeperState) (granted : Bool) → s.is_broken ≡ false → IsStep shape w s (sweeps_next s granted)
sweeps_step shape w s granted works = either_step (granted && is_sweeping s.sweep) shape w s _ _ (going shape w s _ Sweeps tt refl works refl works) (turns shape w s (record s { is_granted = granted }) s.is_drain_full works refl)

phase_step : (shape : Shape) (p : Places) (w : Writing) (s : KeeperState) (found : Option Commit) (said : PhaseSaid) (granted : Bool) → s.is_broken ≡ false → s.commit ≡ found → (s.rests ≡ true → KnowsWrites shape s w) → IsStep shape w s (phase_ledto p s found said granted)
unfolding phase_ledto
phase_step shape p w s None said granted works in_hand resting = lets_step shape w s _ granted (is_flush_resting s.maintain) works (sweeps_step shape w s granted works)
phase_step shape p w s (Some c) said granted works in_hand resting = by s.rests refl
  where
    by : (rests : Bool) → s.rests ≡ rests → IsStep shape w s (if rests then writes_taken_up s granted else unless_flush_rests s granted (part_begun p s c said granted))
    by true rests = take_up_step shape w s granted works (resting rests)
    by false awake = lets_step shape w s _ granted (is_flush_resting s.maintain) works (part_step shape p w s c said granted works in_hand)

enter_step : (shape : Shape) (w : Writing) (s t : KeeperState) (ask : Ask EnterAnswer) → t.step ≡ Enters → t.is_broken ≡ false → t.commit ≡ s.commit → IsStep shape w s (enter_ledto t ask)
unfolding enter_ledto
enter_step shape w s t (Done enter.Entered) e works same = turns shape w s (record t { has_entered = true }) t.is_drain_full works (ap number_in_hand same)
enter_step shape w s t (Done enter.DrainFull) e works same = turns shape w s (record t { is_drain_full = true }) true works (ap number_in_hand same)
enter_step shape w s t (Done enter.EpochsSpent) e works same = record { broken = λ broken. tt; knows = tt; number = ap number_in_hand same; memory = λ ends. cc; told = λ full ends. cc }
enter_step shape w s t (Done enter.Idle) e works same = turns shape w s t t.is_drain_full works (ap number_in_hand same)
enter_step shape w s t ask e works same = going shape w s t Enters tt e works (ap number_in_hand same) works

copied_number : (rests : Bool) (found : Option Commit) → number_in_hand (copied rests found) ≡ number_in_hand found
copied_number rests None = refl
copied_number rests (Some c) = refl

copy_step : (shape : Shape) (w : Writing) (s t : KeeperState) (ask : Ask (Unit {0})) → t.step ≡ Copies → t.is_broken ≡ false → t.commit ≡ s.commit → IsStep shape w s (copy_ledto t ask)
unfolding copy_ledto
copy_step shape w s t (Done its) e works same = turns shape w s (record t { commit = copied (is_copy_resting t.copy) t.commit }) t.is_drain_full works (copied_number (is_copy_resting t.copy) t.commit ∙ ap number_in_hand same)
copy_step shape w s t ask e works same = going shape w s t Copies tt e works (ap number_in_hand same) works

known_number : (found : Option Commit) (end : Addr) (epoch : ℕ) → number_in_hand (points_known found end epoch) ≡ number_in_hand found
known_number None end epoch = refl
known_number (Some c) end epoch = refl

seek_step : (shape : Shape) (w : Writing) (s t : KeeperState) (ask : Ask SeekAnswer) → t.step ≡ Seeks → t.is_broken ≡ false → t.commit ≡ s.commit → IsStep shape w s (seek_ledto t ask)
unfolding seek_ledto
seek_step shape w s t (Done (seek.Taken end epoch)) e works same = turns shape w s (record t { commit = points_known t.commit end epoch; has_points = true }) t.is_drain_full works (known_number t.commit end epoch ∙ ap number_in_hand same)
seek_step shape w s t (Done seek.DrainFull) e works same = turns shape w s (record t { is_drain_full = true }) true works (ap number_in_hand same)
seek_step shape w s t (Done seek.EpochsSpent) e works same = record { broken = λ broken. tt; knows = tt; number = ap number_in_hand same; memory = λ ends. cc; told = λ full ends. cc }
seek_step shape w s t (Done seek.Owing) e works same = turns shape w s t t.is_drain_full works (ap number_in_hand same)
seek_step shape w s t (Done seek.Idle) e works same = turns shape w s t t.is_drain_full works (ap number_in_hand same)
seek_step shape w s t ask e works same = going shape w s t Seeks tt e works (ap number_in_hand same) works

-- the writes begin
ran : (w : Writing) → w.answers ≡ [] → w.first ≡ commit_run w.first w.answers
unfolding commit_run
ran w none = sym (ap (commit_run w.first) none)

begun_step : (shape : Shape) (w : Writing) (s t : KeeperState) (found : Option Commit) → t.is_broken ≡ false → t.commit ≡ found → t.commit ≡ s.commit → w.first ≡ (writes_begun shape t found).writes → w.answers ≡ [] → IsStep shape w s (writes_begun shape t found)
begun_step shape w s t None works in_hand same first none = turns shape w s t t.is_drain_full works (ap number_in_hand same)
begun_step shape w s t (Some c) works in_hand same first none = going shape w s a Writes tt refl works (ap number_in_hand same) (works, known)
  where
    a : KeeperState
    a = writes_begun shape t (Some c)

    its : AreWritesOfCommit shape a c w.first
    its = record { area = ap (λ (x : CommitWriter). x.area) first; step = rw first refl; gate = ap (λ (x : CommitWriter). x.gate) first }

    known : KnowsWrites shape a w
    known = record { commit = c; in_hand = in_hand; writes = its; run = sym first ∙ ran w none }

wait_step : (shape : Shape) (w : Writing) (s t : KeeperState) (ask : Ask WaitAnswer) → t.step ≡ Waits → t.is_broken ≡ false → t.commit ≡ s.commit → w.first ≡ (wait_ledto shape t ask).writes → w.answers ≡ [] → IsStep shape w s (wait_ledto shape t ask)
unfolding wait_ledto
wait_step shape w s t (Done wait.Flushed) e works same first none = begun_step shape w s t t.commit works refl same first none
wait_step shape w s t (Done wait.NotYet) e works same first none = turns shape w s t t.is_drain_full works (ap number_in_hand same)
wait_step shape w s t (Done wait.Idle) e works same first none = turns shape w s t t.is_drain_full works (ap number_in_hand same)
wait_step shape w s t ask e works same first none = going shape w s t Waits tt e works (ap number_in_hand same) works

-- a call of the writes
write_step : (shape : Shape) (w : Writing) (s t : KeeperState) (found : Option Commit) (answer : WriteAnswer) → t.step ≡ Writes → t.is_broken ≡ false → t.commit ≡ s.commit → commit_answer t.writes ≡ answer → KnowsWrites shape t w → IsStep shape w s (write_ledto t found answer)
unfolding write_ledto
write_step shape w s t None answer e works same its known = turns shape w s t t.is_drain_full works (ap number_in_hand same)
write_step shape w s t (Some c) write.Written e works same its known = going shape w s a Finishes tt refl works (ap number_in_hand same) (works, whole)
  where
    a : KeeperState
    a = record t { finish = finish_begun t.finish c.number; step = Finishes }

    writes : AreWritesOfCommit shape a known.commit w.first
    writes = record {
      area = known.writes.area;
      step = known.writes.step;
      gate = known.writes.gate;
    }

    whole : IsWritten shape a w
    whole = record { commit = known.commit; in_hand = known.in_hand; writes = writes; answered = ap commit_answer (sym known.run) ∙ its }
write_step shape w s t (Some c) write.Device e works same its known =
    either_step (must_rest t) shape w s _ _ (turns shape w s (record t { rests = true }) t.is_drain_full works (ap number_in_hand same)) (going shape w s t Writes tt e works (ap number_in_hand same) (works, known))
write_step shape w s t (Some c) (write.Broken why) e works same its known = going shape w s t Writes tt e works (ap number_in_hand same) (works, known)

call_step : (shape : Shape) (w : Writing) (s : KeeperState) (done : Bool) → s.step ≡ Writes → s.is_broken ≡ false → KnowsWrites shape s w → IsStep shape (record w { answers = done ∷ w.answers }) s (writes_called s done)
unfolding commit_run
call_step shape w s true e works known = write_step shape (record w { answers = true ∷ w.answers }) s t s.commit (commit_answer t.writes) e works refl refl after
  where
    t : KeeperState
    t = record s { writes = commit_next s.writes true }

    writes : AreWritesOfCommit shape t known.commit w.first
    writes = record {
      area = known.writes.area;
      step = known.writes.step;
      gate = known.writes.gate;
    }

    after : KnowsWrites shape t (record w { answers = true ∷ w.answers })
    after = record { commit = known.commit; in_hand = known.in_hand; writes = writes; run = ap (λ (x : CommitWriter). commit_next x true) known.run }
call_step shape w s false e works known = record { broken = λ broken. tt; knows = tt; number = refl; memory = λ ends. cc; told = λ full ends. cc }

-- the commit is finished
finished_step : (shape : Shape) (w : Writing) (s t : KeeperState) (found : Option Commit) → s.step ≡ Finishes → t.is_broken ≡ false → t.commit ≡ s.commit → t.commit ≡ found → IsStep shape w s (finished t found)
finished_step shape w s t None e works same in_hand = turns shape w s t t.is_drain_full works (ap number_in_hand same)
finished_step shape w s t (Some c) e works same in_hand = record {
  broken = λ broken. absurd (works_not t.is_broken works broken);
  knows = tt;
  number = refl;
  memory = λ ends. cc;
  told = λ full ends. record { finishes = e; its_number = ap number_in_hand (sym same ∙ in_hand); told = refl };
}

finish_step : (shape : Shape) (w : Writing) (s : KeeperState) (reply : ℕ) (ask : Ask FinishAnswer) → s.step ≡ Finishes → s.is_broken ≡ false → IsWritten shape s w → IsStep shape w s (finish_ledto (record s { finish = finish_next s.finish reply }) ask)
unfolding finish_ledto
finish_step shape w s reply (Done its) e works known = finished_step shape w s (record s { finish = finish_next s.finish reply }) s.commit e works refl refl
finish_step shape w s reply ask e works known = going shape w s t Finishes tt e works refl (works, after)
  where
    t : KeeperState
    t = record s { finish = finish_next s.finish reply }

    writes : AreWritesOfCommit shape t known.commit w.first
    writes = record {
      area = known.writes.area;
      step = known.writes.step;
      gate = known.writes.gate;
    }

    after : IsWritten shape t w
    after = record { commit = known.commit; in_hand = known.in_hand; writes = writes; answered = known.answered }

-- the sweep's turn goes on, or is through
sweep_step : (shape : Shape) (w : Writing) (s t : KeeperState) (ask : Ask SweepAnswer) → t.step ≡ Sweeps → t.is_broken ≡ false → t.commit ≡ s.commit → IsStep shape w s (sweep_ledto t ask)
unfolding sweep_ledto
sweep_step shape w s t (Done sweep.Through) e works same = turns shape w s t t.is_drain_full works (ap number_in_hand same)
sweep_step shape w s t ask e works same = going shape w s t Sweeps tt e works (ap number_in_hand same) works

read_step : (shape : Shape) (w : Writing) (s : KeeperState) (done : Bool) (bytes : List ℕ) → s.step ≡ Sweeps → s.is_broken ≡ false → IsStep shape w s (sweep_called s done bytes)
read_step shape w s true bytes e works = sweep_step shape w s _ (sweep_ask (sweep_read s.sweep bytes)) e works refl
read_step shape w s false bytes e works = record { broken = λ broken. tt; knows = tt; number = refl; memory = λ ends. cc; told = λ full ends. cc }

-- a reply, an action, and a call of the device, where a call is in hand
pub reply_step : (shape : Shape) (p : Places) (w : Writing) (s : KeeperState) (step : Keeping) (reply : ℕ) (granted : Bool) → IsGoing step → s.step ≡ step → (s.rests ≡ true → KnowsWrites shape s w) → Knows shape s w step → IsStep shape (writing_after step (Replies reply granted) (keeping_next shape p s step reply granted) w) s (keeping_next shape p s step reply granted)
unfolding keeping_next
reply_step shape p w s (Ended its) reply granted goes e resting known = absurd goes
reply_step shape p w s Starts reply granted goes e resting known = start_step shape w s _ (start_ask (start_next s.start reply)) e known refl
reply_step shape p w s Maintains reply granted goes e resting known = maintain_step shape w s _ (maintain_ask shape p (maintain_next shape p s.maintain reply)) e known refl
reply_step shape p w s LoadsPhase reply granted goes e resting known = phase_step shape p w s s.commit (phase_said reply) granted known refl resting
reply_step shape p w s Enters reply granted goes e resting known = enter_step shape w s _ (enter_ask (enter_next s.enter reply)) e known refl
reply_step shape p w s Copies reply granted goes e resting known = copy_step shape w s _ (copy_told (copy_driven s.copy reply)) e known refl
reply_step shape p w s Seeks reply granted goes e resting known = seek_step shape w s _ (seek_ask (seek_next s.seek reply)) e known refl
reply_step shape p w s Waits reply granted goes e resting known =
    let t = record s { wait = wait_next s.wait reply } in
    wait_step shape (record { first = (wait_ledto shape t (wait_ask (wait_next s.wait reply))).writes; answers = [] }) s t (wait_ask (wait_next s.wait reply)) e known refl refl refl
reply_step shape p w s Writes reply granted goes e resting known = going shape w s s Writes tt e known.0 refl known
reply_step shape p w s Finishes reply granted goes e resting known = finish_step shape w s reply (finish_ask s.seek.points (finish_next s.finish reply)) e known.0 known.1
reply_step shape p w s Sweeps reply granted goes e resting known = sweep_step shape w s _ (sweep_ask (sweep_next s.sweep reply)) e known refl

-- where nothing happens
pub stays : (shape : Shape) (w : Writing) (s : KeeperState) (step : Keeping) → IsGoing step → s.step ≡ step → Knows shape s w step → IsStep shape w s s
stays shape w s (Ended its) goes e known = absurd goes
stays shape w s Writes goes e known = going shape w s s Writes tt e known.0 refl known
stays shape w s Finishes goes e known = going shape w s s Finishes tt e known.0 refl known
stays shape w s Starts goes e known = going shape w s s Starts tt e known refl known
stays shape w s Maintains goes e known = going shape w s s Maintains tt e known refl known
stays shape w s LoadsPhase goes e known = going shape w s s LoadsPhase tt e known refl known
stays shape w s Enters goes e known = going shape w s s Enters tt e known refl known
stays shape w s Copies goes e known = going shape w s s Copies tt e known refl known
stays shape w s Seeks goes e known = going shape w s s Seeks tt e known refl known
stays shape w s Waits goes e known = going shape w s s Waits tt e known refl known
stays shape w s Sweeps goes e known = going shape w s s Sweeps tt e known refl known

pub given_step : (shape : Shape) (p : Places) (w : Writing) (s : KeeperState) (step : Keeping) (action : Action) → IsGoing step → s.step ≡ step → Knows shape s w step → IsStep shape (writing_after step (Gets action) (keeping_given shape p s step action) w) s (keeping_given shape p s step action)
unfolding keeping_given
given_step shape p w s Maintains action goes e known = maintain_step shape w s _ (maintain_ask shape p (maintain_given s.maintain action)) e known refl
given_step shape p w s step action goes e known = stays shape w s step goes e known

pub called_step : (shape : Shape) (p : Places) (w : Writing) (s : KeeperState) (step : Keeping) (done : Bool) (bytes : List ℕ) → IsGoing step → s.step ≡ step → Knows shape s w step → IsStep shape (writing_after step (Calls done bytes) (keeping_called shape p s step done bytes) w) s (keeping_called shape p s step done bytes)
unfolding keeping_called
called_step shape p w s Maintains done bytes goes e known = maintain_step shape w s _ (maintain_ask shape p (maintain_called shape p s.maintain done bytes)) e known refl
called_step shape p w s Writes done bytes goes e known = call_step shape w s done e known.0 known.1
called_step shape p w s Sweeps done bytes goes e known = read_step shape w s done bytes e known
called_step shape p w s step done bytes goes e known = stays shape w s step goes e known

-- where a turn or a commit is begun
pub turn_step : (shape : Shape) (w : Writing) (s : KeeperState) (broken : Bool) → s.is_broken ≡ broken → IsStep shape w s (if broken then ended s (TurnRefused fault.Broken) else record s { maintain = parts_begun (serves_alone s) s.maintain; is_drain_full = false; step = Maintains })
turn_step shape w s true e = record { broken = λ broken. tt; knows = tt; number = refl; memory = λ ends. cc; told = λ full ends. cc }
turn_step shape w s false e = going shape w s _ Maintains tt refl e refl e

pub commit_step : (shape : Shape) (w : Writing) (s : KeeperState) (kind : CommitKind) (broken rests : Bool) → s.is_broken ≡ broken
    → IsStep shape w s (if broken then ended s (CommitRefused fault.Broken) else (if rests then ended s (CommitRefused fault.CommitRunning) else record s { start = start_begun s.start (asked_for s kind); step = Starts }))
commit_step shape w s kind true rests e = record { broken = λ broken. tt; knows = tt; number = refl; memory = λ ends. cc; told = λ full ends. cc }
commit_step shape w s kind false true e = record { broken = λ broken. tt; knows = tt; number = refl; memory = λ ends. cc; told = λ full ends. cc }
commit_step shape w s kind false false e = going shape w s _ Starts tt refl e refl e
