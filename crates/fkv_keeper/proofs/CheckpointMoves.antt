-- What one event leaves of the commit in hand, of the lists, and which step follows.
use Rattle.std.proofs.Common.{◌≡◌, ℕ, ◌∙◌, ◌⊎◌, inl, inr, List, refl, ap, sym, subst, Bool, true, false}
use Rattle.std.specs.Prelude.{◌&&◌, not, ◌||◌, Option, Some, None, if◌then◌else◌}
use Rattle.fkv_base.specs.declared.faults.Fault.TheVariants as fault
use Rattle.fkv_base.specs.declared.numbers.Addr.{Addr}
use Rattle.fkv_base.specs.declared.phases.Phase.TheVariants as phase
use Rattle.fkv_base.specs.declared.shapes.Shape.{Shape}
use Rattle.fkv_words.specs.declared.phase_words.PhaseSaid.{PhaseSaid}
use Rattle.fkv_words.specs.declared.phase_words.PhaseSaid.TheVariants.{Says}
use Rattle.fkv_words.specs.PhaseWords.{phase_said}
use Rattle.fkv_plane.specs.declared.actions.Action.{Action}
use Rattle.fkv_plane.specs.declared.asks.Ask.{Ask}
use Rattle.fkv_plane.specs.declared.asks.Ask.TheVariants.{Done}
use Rattle.fkv_plane.specs.declared.places.Places.{Places}
use Rattle.fkv_checkpoint.specs.Copying.{copy_begun}
use Rattle.fkv_commit.specs.declared.commits.Commit.{Commit}
use Rattle.fkv_base.specs.declared.commits.CommitKind.{CommitKind}
use Rattle.fkv_commit.specs.declared.entering.EnterAnswer.{EnterAnswer}
use Rattle.fkv_commit.specs.declared.entering.EnterAnswer.TheVariants as enter
use Rattle.fkv_commit.specs.declared.finishing.FinishAnswer.{FinishAnswer}
use Rattle.fkv_commit.specs.declared.seeking.SeekAnswer.{SeekAnswer}
use Rattle.fkv_commit.specs.declared.seeking.SeekAnswer.TheVariants as seek
use Rattle.fkv_commit.specs.declared.starting.StartAnswer.{StartAnswer}
use Rattle.fkv_commit.specs.declared.starting.StartAnswer.TheVariants as start
use Rattle.fkv_commit.specs.declared.waiting.WaitAnswer.{WaitAnswer}
use Rattle.fkv_commit.specs.declared.waiting.WaitAnswer.TheVariants as wait
use Rattle.fkv_commit.specs.Entering.{enter_ask, enter_next}
use Rattle.fkv_commit.specs.Finishing.{finish_ask, finish_next}
use Rattle.fkv_commit.specs.Seeking.{seek_begun, seek_ask, seek_next}
use Rattle.fkv_commit.specs.Starting.{start_ask, start_next}
use Rattle.fkv_commit.specs.Waiting.{wait_ask, wait_next}
use Rattle.fkv_manifest.specs.declared.answers.WriteAnswer.{WriteAnswer}
use Rattle.fkv_manifest.specs.declared.answers.WriteAnswer.TheVariants as write
use Rattle.fkv_manifest.specs.Committing.{commit_next, commit_answer}
use Rattle.fkv_maintain.specs.declared.maintaining.MaintainAnswer.{MaintainAnswer}
use Rattle.fkv_maintain.specs.declared.maintaining.MaintainAnswer.TheVariants as maintain
use Rattle.fkv_maintain.specs.Maintaining.{is_flush_resting, maintain_ask, maintain_next, maintain_given, maintain_called}
use Rattle.fkv_keeper.specs.declared.answers.KeeperTold.{KeeperTold}
use Rattle.fkv_keeper.specs.declared.answers.KeeperTold.TheVariants.{TurnRefused}
use Rattle.fkv_keeper.specs.declared.keepers.Keeping.{Keeping}
use Rattle.fkv_keeper.specs.declared.keepers.Keeping.TheVariants.{Ended, Starts, Maintains, LoadsPhase, Enters, Copies, Seeks, Waits, Writes, Finishes, Sweeps}
use Rattle.fkv_keeper.specs.Keeping.{KeeperState, is_copy_resting, copy_driven, copy_told, copied, points_known, ended, turned, turn_asked, commit_asked, start_ledto, maintain_ledto, copies, part_begun, must_rest, writes_taken_up, phase_ledto, enter_ledto, copy_ledto, seek_ledto, writes_begun, wait_ledto, finished, finish_ledto, keeping_next, keeping_given, write_ledto, writes_called, keeping_called, unless_flush_rests, sweeps_next, sweep_ledto, sweep_called}
use Rattle.fkv_keeper.specs.KeeperRun.{KeeperEvent, BeginsTurn, BeginsCommit, Replies, Gets, Calls, begins, keeper_happens}
use Rattle.fkv_keeper.specs.CheckpointLaws.{IsCopyPhase, IsCopyTakenUp, IsCopyBegun, IsBegun, IsFinished, IsCommitAfter, CopiesOnce, KeepsLists, MayFollow, MayStep, IsPhaseLoaded, DoesOneThing}
use Rattle.fkv_keeper.proofs.Happens.{happens_at, happens_so}
use Rattle.fkv_keeper.proofs.Rests.{come_follows, each_rests, may_step}
use Rattle.fkv_sweep.specs.Sweeping.{is_sweeping, sweep_ask, sweep_next, sweep_read, sweep_failed}
use Rattle.fkv_sweep.specs.declared.sweeping.SweepAnswer.{SweepAnswer}
use Rattle.fkv_sweep.specs.declared.sweeping.SweepAnswer.TheVariants as sweep

-- the step of one event
record IsStepped (s : KeeperState) (event : KeeperEvent) (a : KeeperState) : Type 0 where
  follows : MayStep s.rests s.step a.step
  once : IsPhaseLoaded s.step event → a.step ≡ LoadsPhase → ⊥

-- what one event does, whether or not writes rest
record IsMoved (p : Places) (s : KeeperState) (event : KeeperEvent) (a : KeeperState) : Type 0 where
  copies : CopiesOnce p s event a
  lists : KeepsLists s a
  one : IsStepped s event a

-- where it is by no writes that rest
stepped : (s : KeeperState) (after : Keeping) → MayFollow s.step after → MayStep s.rests s.step after
stepped s after follows = may_step s.rests s.step after follows

-- a state with this commit, this copy, these lists and these points
record IsQuiet (step : Keeping) (s t : KeeperState) : Type 0 where
  pub commit : t.commit ≡ s.commit
  pub copy : t.copy ≡ s.copy
  pub last : t.last ≡ s.last
  pub lost : t.lost ≡ s.lost
  pub used : t.used ≡ s.used
  pub points : (step ≡ Seeks → ⊥) → t.seek.points ≡ s.seek.points

same_commit : (s a : KeeperState) (found : Option Commit) → a.commit ≡ found → IsCommitAfter found s a
same_commit s a None same = inl same
same_commit s a (Some c) same = inl (record { commit = c; in_hand = same; number = refl; kind = refl; first = refl; copied = λ e. e })

-- an event that leaves the commit and the lists
quiet : (p : Places) (s : KeeperState) (step : Keeping) (event : KeeperEvent) (a : KeeperState) → s.step ≡ step → IsQuiet step s a → MayFollow step a.step → (a.step ≡ Copies → (s.step ≡ Copies) ⊎ (IsCopyTakenUp s event a ⊎ IsCopyBegun p s event a)) → (IsPhaseLoaded step event → a.step ≡ LoadsPhase → ⊥) → IsMoved p s event a
quiet p s step event a e its follows begins once = record {
  copies = record { begins = begins; copy = inl its.copy; commit = same_commit s a s.commit its.commit };
  lists = record { lists = inl (its.last, its.lost); used = λ other. its.used; points = λ other next. its.points (λ seeks. other (e ∙ seeks)) };
  one = record { follows = stepped s a.step (subst (λ (x : Keeping). MayFollow x a.step) (sym e) follows); once = λ loads. once (subst (λ (x : Keeping). IsPhaseLoaded x event) e loads) };
}

-- one with which a call ends
ends : (p : Places) (s : KeeperState) (step : Keeping) (event : KeeperEvent) (t : KeeperState) (told : KeeperTold) → s.step ≡ step → IsQuiet step s t → IsMoved p s event (ended t told)
ends p s step event t told e its = quiet p s step event (ended t told) e (record { commit = its.commit; copy = its.copy; last = its.last; lost = its.lost; used = its.used; points = its.points }) tt (λ copies. cc) (λ loads phase. cc)

-- one after which the call is as far as before
follows_itself : (step : Keeping) → MayFollow step step
follows_itself (Ended its) = tt
follows_itself Starts = tt
follows_itself Maintains = tt
follows_itself LoadsPhase = tt
follows_itself Enters = tt
follows_itself Copies = tt
follows_itself Seeks = tt
follows_itself Waits = tt
follows_itself Writes = tt
follows_itself Finishes = tt
follows_itself Sweeps = tt

remains : (p : Places) (s : KeeperState) (step : Keeping) (event : KeeperEvent) (t : KeeperState) → s.step ≡ step → t.step ≡ step → IsQuiet step s t → (IsPhaseLoaded step event → ⊥) → IsMoved p s event t
remains p s step event t e still its once =
    quiet p s step event t e its (subst (λ (x : Keeping). MayFollow step x) (sym still) (follows_itself step)) (λ copies. inl (e ∙ sym still ∙ copies)) (λ loads phase. absurd (once loads))

nothing : (step : Keeping) (s : KeeperState) → IsQuiet step s s
nothing step s = record { commit = refl; copy = refl; last = refl; lost = refl; used = refl; points = λ other. refl }

-- by what the machines inside come to
start_move : (p : Places) (s : KeeperState) (reply : ℕ) (granted : Bool) (t : KeeperState) (ask : Ask StartAnswer) → s.step ≡ Starts → t.step ≡ Starts → IsQuiet Starts s t → IsMoved p s (Replies reply granted) (start_ledto t ask)
unfolding start_ledto
start_move p s reply granted t (Done (start.Begun number first)) e still its = record {
  copies = record { begins = λ copies. cc; copy = inr (inl refl); commit = begun s.commit };
  lists = record { lists = inl (its.last, its.lost); used = λ other. its.used; points = λ other next. its.points (λ seeks. cc) };
  one = record { follows = stepped s _ tt; once = λ loads phase. cc };
}
  where
    a : KeeperState
    a = start_ledto t (Done (start.Begun number first))

    is_begun : IsBegun s a
    is_begun = record { starts = e; commit = _; in_hand = refl; copied = refl; no_copy = refl; told = refl }

    begun : (found : Option Commit) → IsCommitAfter found s a
    begun None = inr is_begun
    begun (Some c) = inr (inr is_begun)
start_move p s reply granted t (Done (start.Refused why)) e still its = ends p s Starts (Replies reply granted) t _ e its
start_move p s reply granted t (Done start.Idle) e still its = ends p s Starts (Replies reply granted) t _ e its
start_move p s reply granted t ask e still its = remains p s Starts (Replies reply granted) t e still its (λ loads. loads)

maintain_move : (p : Places) (s : KeeperState) (event : KeeperEvent) (t : KeeperState) (ask : Ask MaintainAnswer) → s.step ≡ Maintains → t.step ≡ Maintains → IsQuiet Maintains s t → IsMoved p s event (maintain_ledto t ask)
unfolding maintain_ledto
maintain_move p s event t (Done maintain.Through) e still its =
    quiet p s Maintains event _ e (record { commit = its.commit; copy = its.copy; last = its.last; lost = its.lost; used = its.used; points = its.points }) tt (λ copies. cc) (λ loads phase. loads)
maintain_move p s event t (Done maintain.Spent) e still its = ends p s Maintains event t _ e its
maintain_move p s event t (Done maintain.Broken) e still its = ends p s Maintains event (record t { is_broken = true; rests = false }) _ e (record { commit = its.commit; copy = its.copy; last = its.last; lost = its.lost; used = its.used; points = its.points })
maintain_move p s event t ask e still its = remains p s Maintains event t e still its (λ loads. loads)

-- what the phase calls for
copies_move : (p : Places) (s : KeeperState) (c : Commit) (reply : ℕ) (granted : Bool) → s.step ≡ LoadsPhase → s.commit ≡ Some c → c.is_copied ≡ false → IsCopyPhase (phase_said reply) → IsMoved p s (Replies reply granted) (copies p s granted)
copies_move p s c reply granted e in_hand not_copied said = by_rest (is_copy_resting s.copy) refl granted
  where
    taken_up : (granted : Bool) → is_copy_resting s.copy ≡ true → IsMoved p s (Replies reply granted) (record s { is_granted = true; step = Copies })
    taken_up granted rests =
        quiet p s LoadsPhase (Replies reply granted) _ e (record { commit = refl; copy = refl; last = refl; lost = refl; used = refl; points = λ other. refl }) tt
        (λ copies. inr (inl (record { loads = e; reply = reply; granted = granted; loaded = refl; phase = said; commit = c; in_hand = in_hand; not_copied = not_copied; rests = rests; copy = refl }))) (λ loads phase. cc)

    begun : is_copy_resting s.copy ≡ false → IsMoved p s (Replies reply true) (record s { copy = Some (copy_begun p); is_granted = true; step = Copies })
    begun none =
        let its : IsCopyBegun p s (Replies reply true) (record s { copy = Some (copy_begun p); is_granted = true; step = Copies }) =
        record { loads = e; reply = reply; loaded = refl; phase = said; commit = c; in_hand = in_hand; not_copied = not_copied; none_rests = none; copies = refl; copy = refl } in
        record {
          copies = record { begins = λ copies. inr (inr its); copy = inr (inr (inr its)); commit = same_commit s _ s.commit refl };
          lists = record { lists = inl (refl, refl); used = λ other. refl; points = λ other next. refl };
          one = record { follows = stepped s _ (rw e tt); once = λ loads phase. cc };
        }

    by_rest : (rests : Bool) → is_copy_resting s.copy ≡ rests → (granted : Bool)
        → IsMoved p s (Replies reply granted) (if granted || rests then record s { copy = if rests then s.copy else Some (copy_begun p); is_granted = true; step = Copies } else ended (record s { is_granted = false }) (TurnRefused fault.Memory))
    by_rest true rests true = taken_up true rests
    by_rest true rests false = taken_up false rests
    by_rest false none true = begun none
    by_rest false none false =
        ends p s LoadsPhase (Replies reply false) (record s { is_granted = false }) _ e (record { commit = refl; copy = refl; last = refl; lost = refl; used = refl; points = λ other. refl })

else_move : (p : Places) (s : KeeperState) (c : Commit) (reply : ℕ) (granted : Bool) (other : KeeperState) (is_copied : Bool) → c.is_copied ≡ is_copied → s.step ≡ LoadsPhase → s.commit ≡ Some c → IsCopyPhase (phase_said reply)
    → IsMoved p s (Replies reply granted) other → IsMoved p s (Replies reply granted) (if is_copied then other else copies p s granted)
else_move p s c reply granted other true so e in_hand said its = its
else_move p s c reply granted other false so e in_hand said its = copies_move p s c reply granted e in_hand so said

either_move : (b : Bool) (p : Places) (s : KeeperState) (event : KeeperEvent) (a o : KeeperState) → IsMoved p s event a → IsMoved p s event o → IsMoved p s event (if b then a else o)
either_move true p s event a o one other = one
either_move false p s event a o one other = other

-- a state that differs in the machine that begins
goes_to : (p : Places) (s : KeeperState) (reply : ℕ) (granted : Bool) (a : KeeperState) → s.step ≡ LoadsPhase → IsQuiet LoadsPhase s a → MayFollow LoadsPhase a.step → (a.step ≡ Copies → ⊥) → (a.step ≡ LoadsPhase → ⊥) → IsMoved p s (Replies reply granted) a
goes_to p s reply granted a e its follows not_copies on = quiet p s LoadsPhase (Replies reply granted) a e its follows (λ copies. absurd (not_copies copies)) (λ loads phase. on phase)

over : (p : Places) (s : KeeperState) (reply : ℕ) (granted : Bool) → s.step ≡ LoadsPhase → IsMoved p s (Replies reply granted) (turned s)
over p s reply granted e = ends p s LoadsPhase (Replies reply granted) s _ e (nothing LoadsPhase s)

seeks_move : (p : Places) (s : KeeperState) (c : Commit) (reply : ℕ) (granted : Bool) → s.step ≡ LoadsPhase → IsMoved p s (Replies reply granted) (record s { seek = seek_begun s.seek c.number s.last.points; has_points = false; step = Seeks })
seeks_move p s c reply granted e = record {
  copies = record { begins = λ copies. cc; copy = inl refl; commit = same_commit s _ s.commit refl };
  lists = record { lists = inl (refl, refl); used = λ other. refl; points = λ other next. absurd (next refl) };
  one = record { follows = stepped s _ (rw e tt); once = λ loads phase. cc };
}

part_move : (p : Places) (s : KeeperState) (c : Commit) (reply : ℕ) (said : PhaseSaid) (granted : Bool) → phase_said reply ≡ said → s.step ≡ LoadsPhase → s.commit ≡ Some c → IsMoved p s (Replies reply granted) (part_begun p s c said granted)
part_move p s c reply (Says phase.InProgress version) granted says e in_hand =
    either_move s.has_entered p s (Replies reply granted) _ _
    (else_move p s c reply granted (turned s) c.is_copied refl e in_hand (rw says tt) (over p s reply granted e))
    (goes_to p s reply granted _ e (record { commit = refl; copy = refl; last = refl; lost = refl; used = refl; points = λ other. refl }) tt (λ copies. cc) (λ loads. cc))
part_move p s c reply (Says phase.WaitPending version) granted says e in_hand =
    else_move p s c reply granted (record s { seek = seek_begun s.seek c.number s.last.points; has_points = false; step = Seeks }) c.is_copied refl e in_hand (rw says tt) (seeks_move p s c reply granted e)
part_move p s c reply (Says phase.WaitFlush version) granted says e in_hand =
    either_move s.has_points p s (Replies reply granted) _ _
    (goes_to p s reply granted _ e (record { commit = refl; copy = refl; last = refl; lost = refl; used = refl; points = λ other. refl }) tt (λ copies. cc) (λ loads. cc))
    (over p s reply granted e)
part_move p s c reply said granted says e in_hand = over p s reply granted e

-- a flush that rests is let go on, or rests still
lets_move : (p : Places) (s : KeeperState) (reply : ℕ) (granted : Bool) (its : KeeperState) → s.step ≡ LoadsPhase → IsMoved p s (Replies reply granted) its → IsMoved p s (Replies reply granted) (unless_flush_rests s granted its)
lets_move p s reply granted its e moved = either_move (is_flush_resting s.maintain) p s (Replies reply granted) _ _
    (ends p s LoadsPhase (Replies reply granted) (record s { is_granted = granted }) _ e (record { commit = refl; copy = refl; last = refl; lost = refl; used = refl; points = λ other. refl })) moved

-- a sweep goes on, or the turn is over
sweeps_move : (p : Places) (s : KeeperState) (reply : ℕ) (granted : Bool) → s.step ≡ LoadsPhase → IsMoved p s (Replies reply granted) (sweeps_next s granted)
sweeps_move p s reply granted e = either_move (granted && is_sweeping s.sweep) p s (Replies reply granted) _ _
    (goes_to p s reply granted _ e (record { commit = refl; copy = refl; last = refl; lost = refl; used = refl; points = λ other. refl }) tt (λ copies. cc) (λ loads. cc))
    (ends p s LoadsPhase (Replies reply granted) (record s { is_granted = granted }) _ e (record { commit = refl; copy = refl; last = refl; lost = refl; used = refl; points = λ other. refl }))

phase_move : (p : Places) (s : KeeperState) (found : Option Commit) (reply : ℕ) (granted : Bool) → s.step ≡ LoadsPhase → s.commit ≡ found → IsMoved p s (Replies reply granted) (phase_ledto p s found (phase_said reply) granted)
unfolding phase_ledto
phase_move p s None reply granted e in_hand = lets_move p s reply granted _ e (sweeps_move p s reply granted e)
phase_move p s (Some c) reply granted e in_hand = by s.rests refl granted
  where
    by : (rests : Bool) → s.rests ≡ rests → (granted : Bool) → IsMoved p s (Replies reply granted) (if rests then writes_taken_up s granted else unless_flush_rests s granted (part_begun p s c (phase_said reply) granted))
    by true rests true = record {
      copies = record { begins = λ copies. cc; copy = inl refl; commit = same_commit s _ s.commit refl };
      lists = record { lists = inl (refl, refl); used = λ other. refl; points = λ other next. refl };
      one = record { follows = rw (rests, e) tt; once = λ loads phase. cc };
    }
    by true rests false = ends p s LoadsPhase (Replies reply false) (record s { is_granted = false }) _ e (record { commit = refl; copy = refl; last = refl; lost = refl; used = refl; points = λ other. refl })
    by false awake granted = lets_move p s reply granted _ e (part_move p s c reply (phase_said reply) granted refl e in_hand)

enter_move : (p : Places) (s : KeeperState) (reply : ℕ) (granted : Bool) (t : KeeperState) (ask : Ask EnterAnswer) → s.step ≡ Enters → t.step ≡ Enters → IsQuiet Enters s t → IsMoved p s (Replies reply granted) (enter_ledto t ask)
unfolding enter_ledto
enter_move p s reply granted t (Done enter.Entered) e still its = ends p s Enters (Replies reply granted) (record t { has_entered = true }) _ e (record { commit = its.commit; copy = its.copy; last = its.last; lost = its.lost; used = its.used; points = its.points })
enter_move p s reply granted t (Done enter.DrainFull) e still its = ends p s Enters (Replies reply granted) (record t { is_drain_full = true }) _ e (record { commit = its.commit; copy = its.copy; last = its.last; lost = its.lost; used = its.used; points = its.points })
enter_move p s reply granted t (Done enter.EpochsSpent) e still its = ends p s Enters (Replies reply granted) t _ e its
enter_move p s reply granted t (Done enter.Idle) e still its = ends p s Enters (Replies reply granted) t _ e its
enter_move p s reply granted t ask e still its = remains p s Enters (Replies reply granted) t e still its (λ loads. loads)

-- a call ends, and the commit in hand has become known in a part
ends_known : (p : Places) (s : KeeperState) (step : Keeping) (event : KeeperEvent) (t : KeeperState) (told : KeeperTold) → s.step ≡ step → IsCommitAfter s.commit s (ended t told) → t.copy ≡ s.copy → t.last ≡ s.last → t.lost ≡ s.lost → t.used ≡ s.used → ((step ≡ Seeks → ⊥) → t.seek.points ≡ s.seek.points) → IsMoved p s event (ended t told)
ends_known p s step event t told e after copy last lost used points = record {
  copies = record { begins = λ copies. cc; copy = inl copy; commit = after };
  lists = record { lists = inl (last, lost); used = λ other. used; points = λ other next. points (λ seeks. other (e ∙ seeks)) };
  one = record { follows = stepped s _ tt; once = λ loads phase. cc };
}

copied_commit : (s a : KeeperState) (rests : Bool) (found : Option Commit) → a.commit ≡ copied rests found → IsCommitAfter found s a
copied_commit s a rests None same = inl same
copied_commit s a rests (Some c) same = inl (record { commit = _; in_hand = same; number = refl; kind = refl; first = refl; copied = λ e. ap (λ (x : Bool). x || not rests) e })

copy_move : (p : Places) (s : KeeperState) (reply : ℕ) (granted : Bool) (ask : Ask (Unit {0})) → s.step ≡ Copies → IsMoved p s (Replies reply granted) (copy_ledto (record s { copy = copy_driven s.copy reply }) ask)
unfolding copy_ledto
copy_move p s reply granted (Done done) e = record {
  copies = record { begins = λ copies. cc; copy = inr (inr (inl (record { copies = e; reply = reply; granted = granted; replied = refl; copy = refl }))); commit = copied_commit s _ (is_copy_resting (copy_driven s.copy reply)) s.commit refl };
  lists = record { lists = inl (refl, refl); used = λ other. refl; points = λ other next. refl };
  one = record { follows = stepped s _ tt; once = λ loads phase. cc };
}
copy_move p s reply granted ask e = record {
  copies = record { begins = λ copies. inl e; copy = inr (inr (inl (record { copies = e; reply = reply; granted = granted; replied = refl; copy = refl }))); commit = same_commit s _ s.commit refl };
  lists = record { lists = inl (refl, refl); used = λ other. refl; points = λ other next. refl };
  one = record { follows = stepped s _ (follows_itself s.step); once = λ loads phase. let clash : Copies ≡ LoadsPhase = sym e ∙ phase in cc };
}

known_commit : (s a : KeeperState) (found : Option Commit) (end : Addr) (epoch : ℕ) → a.commit ≡ points_known found end epoch → IsCommitAfter found s a
known_commit s a None end epoch same = inl same
known_commit s a (Some c) end epoch same = inl (record { commit = _; in_hand = same; number = refl; kind = refl; first = refl; copied = λ e. e })

seek_move : (p : Places) (s : KeeperState) (reply : ℕ) (granted : Bool) (t : KeeperState) (ask : Ask SeekAnswer) → s.step ≡ Seeks → t.step ≡ Seeks → IsQuiet Seeks s t → IsMoved p s (Replies reply granted) (seek_ledto t ask)
unfolding seek_ledto
seek_move p s reply granted t (Done (seek.Taken end epoch)) e still its =
    ends_known p s Seeks (Replies reply granted) (record t { commit = points_known t.commit end epoch; has_points = true }) _ e (known_commit s _ s.commit end epoch (ap (λ (x : Option Commit). points_known x end epoch) its.commit)) its.copy its.last its.lost its.used its.points
seek_move p s reply granted t (Done seek.DrainFull) e still its = ends p s Seeks (Replies reply granted) (record t { is_drain_full = true }) _ e (record { commit = its.commit; copy = its.copy; last = its.last; lost = its.lost; used = its.used; points = its.points })
seek_move p s reply granted t (Done seek.EpochsSpent) e still its = ends p s Seeks (Replies reply granted) t _ e its
seek_move p s reply granted t (Done seek.Owing) e still its = ends p s Seeks (Replies reply granted) t _ e its
seek_move p s reply granted t (Done seek.Idle) e still its = ends p s Seeks (Replies reply granted) t _ e its
seek_move p s reply granted t ask e still its = remains p s Seeks (Replies reply granted) t e still its (λ loads. loads)

-- the writes begin
begun_move : (shape : Shape) (p : Places) (s : KeeperState) (reply : ℕ) (granted : Bool) (t : KeeperState) (found : Option Commit) → s.step ≡ Waits → IsQuiet Waits s t → IsMoved p s (Replies reply granted) (writes_begun shape t found)
begun_move shape p s reply granted t None e its = ends p s Waits (Replies reply granted) t _ e its
begun_move shape p s reply granted t (Some c) e its = record {
  copies = record { begins = λ copies. cc; copy = inr (inl refl); commit = same_commit s _ s.commit its.commit };
  lists = record { lists = inl (its.last, its.lost); used = λ other. absurd (other e); points = λ other next. its.points (λ seeks. cc) };
  one = record { follows = stepped s _ (rw e tt); once = λ loads phase. cc };
}

wait_move : (shape : Shape) (p : Places) (s : KeeperState) (reply : ℕ) (granted : Bool) (t : KeeperState) (ask : Ask WaitAnswer) → s.step ≡ Waits → t.step ≡ Waits → IsQuiet Waits s t → IsMoved p s (Replies reply granted) (wait_ledto shape t ask)
unfolding wait_ledto
wait_move shape p s reply granted t (Done wait.Flushed) e still its = begun_move shape p s reply granted t t.commit e its
wait_move shape p s reply granted t (Done wait.NotYet) e still its = ends p s Waits (Replies reply granted) t _ e its
wait_move shape p s reply granted t (Done wait.Idle) e still its = ends p s Waits (Replies reply granted) t _ e its
wait_move shape p s reply granted t ask e still its = remains p s Waits (Replies reply granted) t e still its (λ loads. loads)

-- a call of the writes
write_move : (p : Places) (s : KeeperState) (bytes : List ℕ) (t : KeeperState) (found : Option Commit) (answer : WriteAnswer) → s.step ≡ Writes → t.step ≡ Writes → IsQuiet Writes s t → IsMoved p s (Calls true bytes) (write_ledto t found answer)
unfolding write_ledto
write_move p s bytes t None answer e still its = ends p s Writes (Calls true bytes) t _ e its
write_move p s bytes t (Some c) write.Written e still its =
    quiet p s Writes (Calls true bytes) _ e (record { commit = its.commit; copy = its.copy; last = its.last; lost = its.lost; used = its.used; points = its.points }) tt (λ copies. cc) (λ loads phase. loads)
write_move p s bytes t (Some c) write.Device e still its =
    either_move (must_rest t) p s (Calls true bytes) _ _
    (ends p s Writes (Calls true bytes) (record t { rests = true }) _ e (record { commit = its.commit; copy = its.copy; last = its.last; lost = its.lost; used = its.used; points = its.points }))
    (remains p s Writes (Calls true bytes) t e still its (λ loads. loads))
write_move p s bytes t (Some c) (write.Broken why) e still its = remains p s Writes (Calls true bytes) t e still its (λ loads. loads)

call_move : (p : Places) (s : KeeperState) (done : Bool) (bytes : List ℕ) → s.step ≡ Writes → IsMoved p s (Calls done bytes) (writes_called s done)
call_move p s true bytes e = write_move p s bytes (record s { writes = commit_next s.writes true }) s.commit (commit_answer (commit_next s.writes true)) e e (record { commit = refl; copy = refl; last = refl; lost = refl; used = refl; points = λ other. refl })
call_move p s false bytes e = ends p s Writes (Calls false bytes) (record s { writes = commit_next s.writes false; is_broken = true; rests = false }) _ e (record { commit = refl; copy = refl; last = refl; lost = refl; used = refl; points = λ other. refl })

-- the commit is finished
finished_move : (p : Places) (s : KeeperState) (reply : ℕ) (granted : Bool) (found : Option Commit) → s.step ≡ Finishes → s.commit ≡ found → IsMoved p s (Replies reply granted) (finished (record s { finish = finish_next s.finish reply }) found)
finished_move p s reply granted None e in_hand = ends p s Finishes (Replies reply granted) (record s { finish = finish_next s.finish reply }) _ e (record { commit = refl; copy = refl; last = refl; lost = refl; used = refl; points = λ other. refl })
finished_move p s reply granted (Some c) e in_hand = record {
  copies = record { begins = λ copies. cc; copy = inl refl; commit = subst (λ (x : Option Commit). IsCommitAfter x s a) (sym in_hand) (inr (inl its)) };
  lists = record { lists = inr (c, in_hand, its); used = λ other. refl; points = λ other next. refl };
  one = record { follows = stepped s _ tt; once = λ loads phase. cc };
}
  where
    a : KeeperState
    a = finished (record s { finish = finish_next s.finish reply }) (Some c)

    its : IsFinished s a c
    its = record { finishes = e; none_in_hand = refl; told = refl; last = refl; lost = refl }

finish_move : (p : Places) (s : KeeperState) (reply : ℕ) (granted : Bool) (ask : Ask FinishAnswer) → s.step ≡ Finishes → IsMoved p s (Replies reply granted) (finish_ledto (record s { finish = finish_next s.finish reply }) ask)
unfolding finish_ledto
finish_move p s reply granted (Done its) e = finished_move p s reply granted s.commit e refl
finish_move p s reply granted ask e =
    remains p s Finishes (Replies reply granted) (record s { finish = finish_next s.finish reply }) e e (record { commit = refl; copy = refl; last = refl; lost = refl; used = refl; points = λ other. refl }) (λ loads. loads)

-- the sweep's turn goes on, or is through
sweep_move : (p : Places) (s : KeeperState) (event : KeeperEvent) (t : KeeperState) (ask : Ask SweepAnswer) → s.step ≡ Sweeps → t.step ≡ Sweeps → IsQuiet Sweeps s t → IsMoved p s event (sweep_ledto t ask)
unfolding sweep_ledto
sweep_move p s event t (Done sweep.Through) e still its = ends p s Sweeps event t _ e its
sweep_move p s event t ask e still its = remains p s Sweeps event t e still its (λ loads. loads)

read_move : (p : Places) (s : KeeperState) (done : Bool) (bytes : List ℕ) → s.step ≡ Sweeps → IsMoved p s (Calls done bytes) (sweep_called s done bytes)
read_move p s true bytes e = sweep_move p s (Calls true bytes) (record s { sweep = sweep_read s.sweep bytes }) (sweep_ask (sweep_read s.sweep bytes)) e e (record { commit = refl; copy = refl; last = refl; lost = refl; used = refl; points = λ other. refl })
read_move p s false bytes e = ends p s Sweeps (Calls false bytes) (record s { sweep = sweep_failed s.sweep; is_broken = true; rests = false }) _ e (record { commit = refl; copy = refl; last = refl; lost = refl; used = refl; points = λ other. refl })

-- where nothing happens
still_move : (p : Places) (s : KeeperState) (event : KeeperEvent) → (IsPhaseLoaded s.step event → ⊥) → IsMoved p s event s
still_move p s event once = remains p s s.step event s refl refl (nothing s.step s) once

-- a reply, an action, and a call of the device
reply_move : (shape : Shape) (p : Places) (s : KeeperState) (step : Keeping) (reply : ℕ) (granted : Bool) → s.step ≡ step → IsMoved p s (Replies reply granted) (keeping_next shape p s step reply granted)
unfolding keeping_next
reply_move shape p s (Ended its) reply granted e = remains p s (Ended its) (Replies reply granted) s e e (nothing (Ended its) s) (λ loads. loads)
reply_move shape p s Starts reply granted e = start_move p s reply granted _ (start_ask (start_next s.start reply)) e e (record { commit = refl; copy = refl; last = refl; lost = refl; used = refl; points = λ other. refl })
reply_move shape p s Maintains reply granted e = maintain_move p s (Replies reply granted) _ (maintain_ask shape p (maintain_next shape p s.maintain reply)) e e (record { commit = refl; copy = refl; last = refl; lost = refl; used = refl; points = λ other. refl })
reply_move shape p s LoadsPhase reply granted e = phase_move p s s.commit reply granted e refl
reply_move shape p s Enters reply granted e = enter_move p s reply granted _ (enter_ask (enter_next s.enter reply)) e e (record { commit = refl; copy = refl; last = refl; lost = refl; used = refl; points = λ other. refl })
reply_move shape p s Copies reply granted e = copy_move p s reply granted (copy_told (copy_driven s.copy reply)) e
reply_move shape p s Seeks reply granted e = seek_move p s reply granted _ (seek_ask (seek_next s.seek reply)) e e (record { commit = refl; copy = refl; last = refl; lost = refl; used = refl; points = λ other. absurd (other refl) })
reply_move shape p s Waits reply granted e = wait_move shape p s reply granted _ (wait_ask (wait_next s.wait reply)) e e (record { commit = refl; copy = refl; last = refl; lost = refl; used = refl; points = λ other. refl })
reply_move shape p s Writes reply granted e = remains p s Writes (Replies reply granted) s e e (nothing Writes s) (λ loads. loads)
reply_move shape p s Finishes reply granted e = finish_move p s reply granted (finish_ask s.seek.points (finish_next s.finish reply)) e
reply_move shape p s Sweeps reply granted e = sweep_move p s (Replies reply granted) _ (sweep_ask (sweep_next s.sweep reply)) e e (record { commit = refl; copy = refl; last = refl; lost = refl; used = refl; points = λ other. refl })

no_reply : (step : Keeping) (action : Action) → IsPhaseLoaded step (Gets action) → ⊥
no_reply LoadsPhase action loads = loads
no_reply step action loads = loads

given_move : (p : Places) (shape : Shape) (s : KeeperState) (step : Keeping) (action : Action) → s.step ≡ step → IsMoved p s (Gets action) (keeping_given shape p s step action)
unfolding keeping_given
given_move p shape s Maintains action e = maintain_move p s (Gets action) _ (maintain_ask shape p (maintain_given s.maintain action)) e e (record { commit = refl; copy = refl; last = refl; lost = refl; used = refl; points = λ other. refl })
given_move p shape s step action e = still_move p s (Gets action) (no_reply s.step action)

no_call : (step : Keeping) (done : Bool) (bytes : List ℕ) → IsPhaseLoaded step (Calls done bytes) → ⊥
no_call LoadsPhase done bytes loads = loads
no_call step done bytes loads = loads

called_move : (p : Places) (shape : Shape) (s : KeeperState) (step : Keeping) (done : Bool) (bytes : List ℕ) → s.step ≡ step → IsMoved p s (Calls done bytes) (keeping_called shape p s step done bytes)
unfolding keeping_called
called_move p shape s Maintains done bytes e = maintain_move p s (Calls done bytes) _ (maintain_ask shape p (maintain_called shape p s.maintain done bytes)) e e (record { commit = refl; copy = refl; last = refl; lost = refl; used = refl; points = λ other. refl })
called_move p shape s Writes done bytes e = call_move p s done bytes e
called_move p shape s Sweeps done bytes e = read_move p s done bytes e
called_move p shape s step done bytes e = still_move p s (Calls done bytes) (no_call s.step done bytes)

-- where a turn or a commit is begun
no_turn : (step : Keeping) → IsPhaseLoaded step BeginsTurn → ⊥
no_turn LoadsPhase loads = loads
no_turn step loads = loads

no_commit : (step : Keeping) (kind : CommitKind) → IsPhaseLoaded step (BeginsCommit kind) → ⊥
no_commit LoadsPhase kind loads = loads
no_commit step kind loads = loads

turn_move : (p : Places) (s : KeeperState) (its : KeeperTold) → s.step ≡ Ended its → IsMoved p s BeginsTurn (turn_asked s)
turn_move p s its e =
    either_move s.is_broken p s BeginsTurn _ _ (ends p s (Ended its) BeginsTurn s _ e (nothing (Ended its) s))
    (quiet p s (Ended its) BeginsTurn _ e (record { commit = refl; copy = refl; last = refl; lost = refl; used = refl; points = λ other. refl }) tt (λ copies. cc) (λ loads phase. loads))

commit_move : (p : Places) (s : KeeperState) (kind : CommitKind) (its : KeeperTold) → s.step ≡ Ended its → IsMoved p s (BeginsCommit kind) (commit_asked s kind)
commit_move p s kind its e =
    either_move s.is_broken p s (BeginsCommit kind) _ _ (ends p s (Ended its) (BeginsCommit kind) s _ e (nothing (Ended its) s))
    (either_move s.rests p s (BeginsCommit kind) _ _ (ends p s (Ended its) (BeginsCommit kind) s _ e (nothing (Ended its) s))
    (quiet p s (Ended its) (BeginsCommit kind) _ e (record { commit = refl; copy = refl; last = refl; lost = refl; used = refl; points = λ other. refl }) tt (λ copies. cc) (λ loads phase. loads)))

happens_move : (shape : Shape) (p : Places) (s : KeeperState) (step : Keeping) (event : KeeperEvent) → s.step ≡ step → IsMoved p s event (happens_at shape p s step event)
happens_move shape p s (Ended its) BeginsTurn e = turn_move p s its e
happens_move shape p s (Ended its) (BeginsCommit kind) e = commit_move p s kind its e
happens_move shape p s step BeginsTurn e = still_move p s BeginsTurn (no_turn s.step)
happens_move shape p s step (BeginsCommit kind) e = still_move p s (BeginsCommit kind) (no_commit s.step kind)
happens_move shape p s step (Replies reply granted) e = reply_move shape p s step reply granted e
happens_move shape p s step (Gets action) e = given_move p shape s step action e
happens_move shape p s step (Calls done bytes) e = called_move p shape s step done bytes e

-- all that one event is said to do
pub record IsMove (p : Places) (s : KeeperState) (event : KeeperEvent) (a : KeeperState) : Type 0 where
  pub copies : CopiesOnce p s event a
  pub lists : KeepsLists s a
  pub one : DoesOneThing s event a

pub each_move : (shape : Shape) (p : Places) (s : KeeperState) (event : KeeperEvent) → IsMove p s event (keeper_happens shape p s event)
each_move shape p s event =
    let a = keeper_happens shape p s event in
    let its : IsMoved p s event a = subst (λ (x : KeeperState). IsMoved p s event x) (happens_so shape p s event) (happens_move shape p s s.step event refl) in
    record {
      copies = its.copies;
      lists = its.lists;
      one = record { follows = come_follows s event a (each_rests shape p s event) its.one.follows; steps = its.one.follows; once = its.one.once };
    }

-- the commit that is in hand behind an event where a copy rests was in hand before it
pub record WasInHand (s : KeeperState) (c : Commit) : Type 0 where
  pub commit : Commit
  pub in_hand : s.commit ≡ Some commit
  pub number : commit.number ≡ c.number
  pub kind : commit.kind ≡ c.kind
  pub first : commit.first ≡ c.first

no_copy : {X : Type 0} (a : KeeperState) → a.copy ≡ None → is_copy_resting a.copy ≡ true → X
no_copy a none rests = let wrong : false ≡ true = sym (ap is_copy_resting none) ∙ rests in cc

found_in_hand : (s a : KeeperState) (c : Commit) (found : Option Commit) → s.commit ≡ found → IsCommitAfter found s a → a.commit ≡ Some c → is_copy_resting a.copy ≡ true → WasInHand s c
found_in_hand s a c None was (inl none) is rests = let wrong : None ≡ Some c = sym none ∙ is in cc
found_in_hand s a c None was (inr begun) is rests = no_copy a begun.no_copy rests
found_in_hand s a c (Some its) was (inl goes) is rests =
    let both : Some goes.commit ≡ Some c = sym goes.in_hand ∙ is in
    let same : goes.commit ≡ c = cc in
    record {
      commit = its;
      in_hand = was;
      number = sym goes.number ∙ ap (λ (x : Commit). x.number) same;
      kind = sym goes.kind ∙ ap (λ (x : Commit). x.kind) same;
      first = sym goes.first ∙ ap (λ (x : Commit). x.first) same;
    }
found_in_hand s a c (Some its) was (inr (inl finished)) is rests = let wrong : None ≡ Some c = sym finished.none_in_hand ∙ is in cc
found_in_hand s a c (Some its) was (inr (inr begun)) is rests = no_copy a begun.no_copy rests

pub was_in_hand : (p : Places) (s a : KeeperState) (event : KeeperEvent) (c : Commit) → CopiesOnce p s event a → a.commit ≡ Some c → is_copy_resting a.copy ≡ true → WasInHand s c
was_in_hand p s a event c copies is rests = found_in_hand s a c s.commit refl copies.commit is rests
