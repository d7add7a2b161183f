-- What one event begins, and what is known of the commit in hand after it.
use Rattle.std.proofs.Common.{◌≡◌, ℕ, ◌∙◌, inl, inr, List, refl, ap, sym, subst, Bool, true, false}
use Rattle.std.specs.Prelude.{◌&&◌, not, ◌||◌, Option, Some, None, if◌then◌else◌}
use Rattle.fkv_base.specs.declared.phases.Phase.TheVariants as phase
use Rattle.fkv_base.specs.declared.shapes.Shape.{Shape}
use Rattle.fkv_words.specs.declared.phase_words.PhaseSaid.{PhaseSaid}
use Rattle.fkv_words.specs.declared.phase_words.PhaseSaid.TheVariants.{Says}
use Rattle.fkv_words.specs.PhaseWords.{phase_said}
use Rattle.fkv_plane.specs.declared.actions.Action.{Action}
use Rattle.fkv_plane.specs.declared.asks.Ask.{Ask}
use Rattle.fkv_plane.specs.declared.asks.Ask.TheVariants.{Done}
use Rattle.fkv_plane.specs.declared.places.Places.{Places}
use Rattle.fkv_commit.specs.declared.commits.Commit.{Commit}
use Rattle.fkv_base.specs.declared.commits.CommitKind.{CommitKind}
use Rattle.fkv_commit.specs.declared.entering.EnterAnswer.{EnterAnswer}
use Rattle.fkv_commit.specs.declared.entering.EnterAnswer.TheVariants as enter
use Rattle.fkv_commit.specs.declared.finishing.FinishAnswer.{FinishAnswer}
use Rattle.fkv_commit.specs.declared.seeking.SeekAnswer.{SeekAnswer}
use Rattle.fkv_commit.specs.declared.seeking.SeekAnswer.TheVariants as seek
use Rattle.fkv_commit.specs.declared.starting.StartAnswer.{StartAnswer}
use Rattle.fkv_commit.specs.declared.starting.StartAnswer.TheVariants as start
use Rattle.fkv_commit.specs.declared.waiting.WaitAnswer.{WaitAnswer}
use Rattle.fkv_commit.specs.declared.waiting.WaitAnswer.TheVariants as wait
use Rattle.fkv_commit.specs.Entering.{enter_ask, enter_next}
use Rattle.fkv_commit.specs.Finishing.{finish_ask, finish_next}
use Rattle.fkv_commit.specs.Seeking.{seek_ask, seek_next}
use Rattle.fkv_commit.specs.Starting.{start_ask, start_next}
use Rattle.fkv_commit.specs.Waiting.{wait_ask, wait_next}
use Rattle.fkv_manifest.specs.declared.answers.WriteAnswer.{WriteAnswer}
use Rattle.fkv_manifest.specs.declared.answers.WriteAnswer.TheVariants as write
use Rattle.fkv_manifest.specs.Committing.{commit_next, commit_answer}
use Rattle.fkv_maintain.specs.declared.maintaining.MaintainAnswer.{MaintainAnswer}
use Rattle.fkv_maintain.specs.declared.maintaining.MaintainAnswer.TheVariants as maintain
use Rattle.fkv_maintain.specs.Maintaining.{is_flush_resting, maintain_ask, maintain_next, maintain_given, maintain_called}
use Rattle.fkv_keeper.specs.declared.answers.KeeperTold.{KeeperTold}
use Rattle.fkv_keeper.specs.declared.keepers.Keeping.{Keeping}
use Rattle.fkv_keeper.specs.declared.keepers.Keeping.TheVariants.{Ended, Starts, Maintains, LoadsPhase, Enters, Copies, Seeks, Waits, Writes, Finishes, Sweeps}
use Rattle.fkv_keeper.specs.Keeping.{KeeperState, is_copy_resting, copy_driven, copy_told, copied, points_known, ended, turned, turn_asked, commit_asked, start_ledto, maintain_ledto, copies, part_begun, must_rest, writes_taken_up, phase_ledto, enter_ledto, copy_ledto, seek_ledto, writes_begun, wait_ledto, finished, finish_ledto, keeping_next, keeping_given, write_ledto, writes_called, keeping_called, unless_flush_rests, sweeps_next, sweep_ledto, sweep_called}
use Rattle.fkv_keeper.specs.KeeperRun.{KeeperEvent, BeginsTurn, BeginsCommit, Replies, Gets, Calls, keeper_happens}
use Rattle.fkv_keeper.specs.PartLaws.{IsPartBegun, end_of, entered_after, taken_after, end_after, seek_after, KnowsParts}
use Rattle.fkv_keeper.proofs.Happens.{happens_at, happens_so}
use Rattle.fkv_sweep.specs.Sweeping.{is_sweeping, sweep_ask, sweep_next, sweep_read, sweep_failed}
use Rattle.fkv_sweep.specs.declared.sweeping.SweepAnswer.{SweepAnswer}
use Rattle.fkv_sweep.specs.declared.sweeping.SweepAnswer.TheVariants as sweep

-- what one event is said to do
pub record IsPart (event : KeeperEvent) (step : Keeping) (s a : KeeperState) : Type 0 where
  pub begins : IsPartBegun a.step s event a
  pub knows : KnowsParts event step s a

-- a state in which as much is known as the event tells, and in which no search has begun
record IsKnown (event : KeeperEvent) (step : Keeping) (s a : KeeperState) : Type 0 where
  pub entered : a.has_entered ≡ entered_after event step s
  pub taken : a.has_points ≡ taken_after event step s
  pub end : (was is : Commit) → s.commit ≡ Some was → a.commit ≡ Some is → end_of is ≡ end_after event step s (end_of was)
  pub seek : a.seek ≡ seek_after event step s.seek

known : (event : KeeperEvent) (step : Keeping) (s a : KeeperState) → IsKnown event step s a → KnowsParts event step s a
known event step s a its = record { entered = its.entered; taken = λ other. its.taken; end = its.end; seek = λ other. its.seek }

some_same : (its c : Commit) → Some its ≡ Some c → its ≡ c
some_same its c both = cc

-- the same commit has the same end
same_end : (s a : KeeperState) → a.commit ≡ s.commit → (was is : Commit) → s.commit ≡ Some was → a.commit ≡ Some is → end_of is ≡ end_of was
same_end s a same was is before after = ap end_of (some_same is was (sym after ∙ same ∙ before))

-- a call ends
ends : (event : KeeperEvent) (step : Keeping) (s t : KeeperState) (told : KeeperTold) → IsKnown event step s t → IsPart event step s (ended t told)
ends event step s t told its = record { begins = tt; knows = record { entered = its.entered; taken = λ other. its.taken; end = its.end; seek = λ other. its.seek } }

-- it stays in its part
stays : (event : KeeperEvent) (step : Keeping) (s t : KeeperState) → s.step ≡ step → IsPartBegun step s event t
stays event Starts s t e = inl e
stays event Enters s t e = inl e
stays event Seeks s t e = inl e
stays event Waits s t e = inl e
stays event Writes s t e = inl e
stays event Finishes s t e = inl e
stays event step s t e = tt

remains : (event : KeeperEvent) (step : Keeping) (s t : KeeperState) → s.step ≡ step → t.step ≡ step → IsKnown event step s t → IsPart event step s t
remains event step s t e still its = record { begins = subst (λ (x : Keeping). IsPartBegun x s event t) (sym still) (stays event step s t e); knows = known event step s t its }

-- by what the machines inside come to
start_part : (s : KeeperState) (reply : ℕ) (granted : Bool) (t : KeeperState) (ask : Ask StartAnswer) → s.step ≡ Starts → t.step ≡ Starts → start_ask (start_next s.start reply) ≡ ask
    → t.commit ≡ s.commit → t.has_entered ≡ s.has_entered → t.has_points ≡ s.has_points → t.seek ≡ s.seek → IsPart (Replies reply granted) Starts s (start_ledto t ask)
unfolding start_ledto
start_part s reply granted t (Done (start.Begun number first)) e still asks commit entered points seek = record {
  begins = tt;
  knows = record { entered = rw asks refl; taken = λ other. rw asks refl; end = λ was is before after. rw asks (let same : _ ≡ is = some_same _ is after in ap end_of (sym same)); seek = λ other. seek };
}
start_part s reply granted t (Done (start.Refused why)) e still asks commit entered points seek =
    ends (Replies reply granted) Starts s t _ (record { entered = rw asks entered; taken = rw asks points; end = rw asks (same_end s t commit); seek = seek })
start_part s reply granted t (Done start.Idle) e still asks commit entered points seek =
    ends (Replies reply granted) Starts s t _ (record { entered = rw asks entered; taken = rw asks points; end = rw asks (same_end s t commit); seek = seek })
start_part s reply granted t ask e still asks commit entered points seek =
    remains (Replies reply granted) Starts s t e still (record { entered = rw asks entered; taken = rw asks points; end = rw asks (same_end s t commit); seek = seek })

maintain_part : (event : KeeperEvent) (s t : KeeperState) (ask : Ask MaintainAnswer) → s.step ≡ Maintains → t.step ≡ Maintains → IsKnown event Maintains s t → IsPart event Maintains s (maintain_ledto t ask)
unfolding maintain_ledto
maintain_part event s t (Done maintain.Through) e still its = record { begins = tt; knows = record { entered = its.entered; taken = λ other. its.taken; end = its.end; seek = λ other. its.seek } }
maintain_part event s t (Done maintain.Spent) e still its = ends event Maintains s t _ its
maintain_part event s t (Done maintain.Broken) e still its = ends event Maintains s (record t { is_broken = true; rests = false }) _ (record { entered = its.entered; taken = its.taken; end = its.end; seek = its.seek })
maintain_part event s t ask e still its = remains event Maintains s t e still its

-- what the phase calls for
either : (b : Bool) (event : KeeperEvent) (step : Keeping) (s a o : KeeperState) → (b ≡ true → IsPart event step s a) → (b ≡ false → IsPart event step s o) → IsPart event step s (if b then a else o)
either true event step s a o one other = one refl
either false event step s a o one other = other refl

copies_part : (p : Places) (s : KeeperState) (reply : ℕ) (granted : Bool) → IsPart (Replies reply granted) LoadsPhase s (copies p s granted)
copies_part p s reply granted =
    either (granted || is_copy_resting s.copy) (Replies reply granted) LoadsPhase s _ _
    (λ goes. record { begins = tt; knows = record { entered = refl; taken = λ other. refl; end = λ was is before after. same_end s s refl was is before after; seek = λ other. refl } })
    (λ not. ends (Replies reply granted) LoadsPhase s (record s { is_granted = false }) _ (record { entered = refl; taken = refl; end = λ was is before after. same_end s s refl was is before after; seek = refl }))

over : (s : KeeperState) (reply : ℕ) (granted : Bool) → IsPart (Replies reply granted) LoadsPhase s (turned s)
over s reply granted = ends (Replies reply granted) LoadsPhase s s _ (record { entered = refl; taken = refl; end = same_end s s refl; seek = refl })

part_part : (p : Places) (s : KeeperState) (c : Commit) (reply : ℕ) (said : PhaseSaid) (granted : Bool) → phase_said reply ≡ said → s.step ≡ LoadsPhase → s.commit ≡ Some c → IsPart (Replies reply granted) LoadsPhase s (part_begun p s c said granted)
part_part p s c reply (Says phase.InProgress version) granted says e in_hand =
    either s.has_entered (Replies reply granted) LoadsPhase s _ _
    (λ entered. either c.is_copied (Replies reply granted) LoadsPhase s _ _ (λ copied. over s reply granted) (λ not. copies_part p s reply granted))
    (λ not_entered. record {
      begins = inr (record { phase = record { loads = e; reply = reply; granted = granted; loaded = refl; version = version; says = says }; commit = c; in_hand = in_hand; not_entered = not_entered; enter = refl });
      knows = record { entered = refl; taken = λ other. refl; end = λ was is before after. same_end s s refl was is before after; seek = λ other. refl };
    })
part_part p s c reply (Says phase.WaitPending version) granted says e in_hand =
    either c.is_copied (Replies reply granted) LoadsPhase s _ _
    (λ copied. record {
      begins = inr (record { phase = record { loads = e; reply = reply; granted = granted; loaded = refl; version = version; says = says }; commit = c; in_hand = in_hand; copied = copied; seek = refl; anew = refl });
      knows = record { entered = refl; taken = λ other. absurd (other refl refl); end = λ was is before after. same_end s s refl was is before after; seek = λ other. absurd (other refl refl) };
    })
    (λ not. copies_part p s reply granted)
part_part p s c reply (Says phase.WaitFlush version) granted says e in_hand =
    either s.has_points (Replies reply granted) LoadsPhase s _ _
    (λ taken. record {
      begins = inr (record { phase = record { loads = e; reply = reply; granted = granted; loaded = refl; version = version; says = says }; commit = c; in_hand = in_hand; taken = taken; wait = refl });
      knows = record { entered = refl; taken = λ other. refl; end = λ was is before after. same_end s s refl was is before after; seek = λ other. refl };
    })
    (λ not. over s reply granted)
part_part p s c reply said granted says e in_hand = over s reply granted

-- where a flush rests the turn is over
lets_part : (s its : KeeperState) (reply : ℕ) (granted : Bool) → IsPart (Replies reply granted) LoadsPhase s its → IsPart (Replies reply granted) LoadsPhase s (unless_flush_rests s granted its)
lets_part s its reply granted led = either (is_flush_resting s.maintain) (Replies reply granted) LoadsPhase s _ _
    (λ rests. ends (Replies reply granted) LoadsPhase s (record s { is_granted = granted }) _ (record { entered = refl; taken = refl; end = λ was is before after. same_end s s refl was is before after; seek = refl })) (λ awake. led)

-- a sweep goes on, or the turn is over
sweeps_part : (s : KeeperState) (reply : ℕ) (granted : Bool) → IsPart (Replies reply granted) LoadsPhase s (sweeps_next s granted)
sweeps_part s reply granted =
    either (granted && is_sweeping s.sweep) (Replies reply granted) LoadsPhase s _ _
    (λ goes. record { begins = tt; knows = record { entered = refl; taken = λ other. refl; end = λ was is before after. same_end s s refl was is before after; seek = λ other. refl } })
    (λ not. ends (Replies reply granted) LoadsPhase s (record s { is_granted = granted }) _ (record { entered = refl; taken = refl; end = λ was is before after. same_end s s refl was is before after; seek = refl }))

phase_part : (p : Places) (s : KeeperState) (found : Option Commit) (reply : ℕ) (granted : Bool) → s.step ≡ LoadsPhase → s.commit ≡ found → IsPart (Replies reply granted) LoadsPhase s (phase_ledto p s found (phase_said reply) granted)
unfolding phase_ledto
phase_part p s None reply granted e in_hand = lets_part s _ reply granted (sweeps_part s reply granted)
phase_part p s (Some c) reply granted e in_hand = by s.rests refl granted
  where
    by : (rests : Bool) → s.rests ≡ rests → (granted : Bool) → IsPart (Replies reply granted) LoadsPhase s (if rests then writes_taken_up s granted else unless_flush_rests s granted (part_begun p s c (phase_said reply) granted))
    by true rests true = record {
      begins = inr (inr (record { loads = e; rests = rests; reply = reply; let_on = refl; awake = refl; same = refl }));
      knows = record { entered = refl; taken = λ other. refl; end = λ was is before after. same_end s s refl was is before after; seek = λ other. refl };
    }
    by true rests false =
        ends (Replies reply false) LoadsPhase s (record s { is_granted = false }) _ (record { entered = refl; taken = refl; end = λ was is before after. same_end s s refl was is before after; seek = refl })
    by false awake granted = lets_part s _ reply granted (part_part p s c reply (phase_said reply) granted refl e in_hand)

enter_part : (s : KeeperState) (reply : ℕ) (granted : Bool) (t : KeeperState) (ask : Ask EnterAnswer) → s.step ≡ Enters → t.step ≡ Enters → enter_ask (enter_next s.enter reply) ≡ ask
    → t.commit ≡ s.commit → t.has_entered ≡ s.has_entered → t.has_points ≡ s.has_points → t.seek ≡ s.seek → IsPart (Replies reply granted) Enters s (enter_ledto t ask)
unfolding enter_ledto
enter_part s reply granted t (Done enter.Entered) e still asks commit entered points seek =
    ends (Replies reply granted) Enters s (record t { has_entered = true }) _ (record { entered = rw asks refl; taken = points; end = same_end s t commit; seek = seek })
enter_part s reply granted t (Done enter.DrainFull) e still asks commit entered points seek =
    ends (Replies reply granted) Enters s (record t { is_drain_full = true }) _ (record { entered = rw asks entered; taken = points; end = same_end s t commit; seek = seek })
enter_part s reply granted t (Done enter.EpochsSpent) e still asks commit entered points seek = ends (Replies reply granted) Enters s t _ (record { entered = rw asks entered; taken = points; end = same_end s t commit; seek = seek })
enter_part s reply granted t (Done enter.Idle) e still asks commit entered points seek = ends (Replies reply granted) Enters s t _ (record { entered = rw asks entered; taken = points; end = same_end s t commit; seek = seek })
enter_part s reply granted t ask e still asks commit entered points seek = remains (Replies reply granted) Enters s t e still (record { entered = rw asks entered; taken = points; end = same_end s t commit; seek = seek })

-- a commit that has become copied has the same end
copied_end : (s : KeeperState) (rests : Bool) (found : Option Commit) → found ≡ s.commit → (was is : Commit) → s.commit ≡ Some was → copied rests found ≡ Some is → end_of is ≡ end_of was
copied_end s rests None same was is before after = cc
copied_end s rests (Some c) same was is before after = ap end_of (sym (some_same (record c { is_copied = c.is_copied || not rests }) is after)) ∙ ap end_of (some_same c was (same ∙ before))

copy_part : (s : KeeperState) (reply : ℕ) (granted : Bool) (t : KeeperState) (ask : Ask (Unit {0})) → s.step ≡ Copies → t.step ≡ Copies → t.commit ≡ s.commit → t.has_entered ≡ s.has_entered → t.has_points ≡ s.has_points → t.seek ≡ s.seek
    → IsPart (Replies reply granted) Copies s (copy_ledto t ask)
unfolding copy_ledto
copy_part s reply granted t (Done its) e still commit entered points seek =
    ends (Replies reply granted) Copies s (record t { commit = copied (is_copy_resting t.copy) t.commit }) _ (record { entered = entered; taken = points; end = copied_end s (is_copy_resting t.copy) t.commit commit; seek = seek })
copy_part s reply granted t ask e still commit entered points seek = remains (Replies reply granted) Copies s t e still (record { entered = entered; taken = points; end = same_end s t commit; seek = seek })

-- one of which the points are taken has the end that was told
taken_end : (found : Option Commit) (end : _) (epoch : ℕ) (is : Commit) → points_known found end epoch ≡ Some is → end_of is ≡ record { end = end; epoch = epoch }
taken_end None end epoch is after = cc
taken_end (Some c) end epoch is after = ap end_of (sym (some_same (record c { end = end; epoch = epoch }) is after))

seek_part : (s : KeeperState) (reply : ℕ) (granted : Bool) (t : KeeperState) (ask : Ask SeekAnswer) → s.step ≡ Seeks → t.step ≡ Seeks → seek_ask (seek_next s.seek reply) ≡ ask
    → t.commit ≡ s.commit → t.has_entered ≡ s.has_entered → t.has_points ≡ s.has_points → t.seek ≡ seek_next s.seek reply → IsPart (Replies reply granted) Seeks s (seek_ledto t ask)
unfolding seek_ledto
seek_part s reply granted t (Done (seek.Taken end epoch)) e still asks commit entered points driven =
    ends (Replies reply granted) Seeks s (record t { commit = points_known t.commit end epoch; has_points = true }) _
    (record { entered = entered; taken = rw asks refl; end = λ was is before after. rw asks (taken_end t.commit end epoch is after); seek = driven })
seek_part s reply granted t (Done seek.DrainFull) e still asks commit entered points driven =
    ends (Replies reply granted) Seeks s (record t { is_drain_full = true }) _ (record { entered = entered; taken = rw asks points; end = rw asks (same_end s t commit); seek = driven })
seek_part s reply granted t (Done seek.EpochsSpent) e still asks commit entered points driven = ends (Replies reply granted) Seeks s t _ (record { entered = entered; taken = rw asks points; end = rw asks (same_end s t commit); seek = driven })
seek_part s reply granted t (Done seek.Owing) e still asks commit entered points driven = ends (Replies reply granted) Seeks s t _ (record { entered = entered; taken = rw asks points; end = rw asks (same_end s t commit); seek = driven })
seek_part s reply granted t (Done seek.Idle) e still asks commit entered points driven = ends (Replies reply granted) Seeks s t _ (record { entered = entered; taken = rw asks points; end = rw asks (same_end s t commit); seek = driven })
seek_part s reply granted t ask e still asks commit entered points driven = remains (Replies reply granted) Seeks s t e still (record { entered = entered; taken = rw asks points; end = rw asks (same_end s t commit); seek = driven })

-- the writes begin
begun_part : (shape : Shape) (s : KeeperState) (reply : ℕ) (granted : Bool) (t : KeeperState) (found : Option Commit) → s.step ≡ Waits → wait_ask (wait_next s.wait reply) ≡ Done wait.Flushed → IsKnown (Replies reply granted) Waits s t
    → IsPart (Replies reply granted) Waits s (writes_begun shape t found)
begun_part shape s reply granted t None e flushed its = ends (Replies reply granted) Waits s t _ its
begun_part shape s reply granted t (Some c) e flushed its = record {
  begins = inr (inl (record { waits = e; reply = reply; granted = granted; replied = refl; flushed = flushed }));
  knows = record { entered = its.entered; taken = λ other. its.taken; end = its.end; seek = λ other. its.seek };
}

wait_part : (shape : Shape) (s : KeeperState) (reply : ℕ) (granted : Bool) (t : KeeperState) (ask : Ask WaitAnswer) → s.step ≡ Waits → t.step ≡ Waits → wait_ask (wait_next s.wait reply) ≡ ask → IsKnown (Replies reply granted) Waits s t
    → IsPart (Replies reply granted) Waits s (wait_ledto shape t ask)
unfolding wait_ledto
wait_part shape s reply granted t (Done wait.Flushed) e still asks its = begun_part shape s reply granted t t.commit e asks its
wait_part shape s reply granted t (Done wait.NotYet) e still asks its = ends (Replies reply granted) Waits s t _ its
wait_part shape s reply granted t (Done wait.Idle) e still asks its = ends (Replies reply granted) Waits s t _ its
wait_part shape s reply granted t ask e still asks its = remains (Replies reply granted) Waits s t e still its

-- a call of the writes
write_part : (s : KeeperState) (bytes : List ℕ) (found : Option Commit) (answer : WriteAnswer) → s.step ≡ Writes → s.commit ≡ found → commit_answer (commit_next s.writes true) ≡ answer
    → IsPart (Calls true bytes) Writes s (write_ledto (record s { writes = commit_next s.writes true }) found answer)
unfolding write_ledto
write_part s bytes None answer e in_hand answers = ends (Calls true bytes) Writes s (record s { writes = commit_next s.writes true }) _ (record { entered = refl; taken = refl; end = λ was is before after. same_end s s refl was is before after; seek = refl })
write_part s bytes (Some c) write.Written e in_hand answers = record {
  begins = inr (record { writes = e; bytes = bytes; called = refl; written = answers; commit = c; in_hand = in_hand; finish = refl });
  knows = record { entered = refl; taken = λ other. refl; end = λ was is before after. same_end s s refl was is before after; seek = λ other. refl };
}
write_part s bytes (Some c) write.Device e in_hand answers =
    either (must_rest t) (Calls true bytes) Writes s _ _
    (λ rests. ends (Calls true bytes) Writes s (record t { rests = true }) _ (record { entered = refl; taken = refl; end = λ was is before after. same_end s s refl was is before after; seek = refl }))
    (λ awake. remains (Calls true bytes) Writes s t e e (record { entered = refl; taken = refl; end = λ was is before after. same_end s s refl was is before after; seek = refl }))
  where
    t : KeeperState
    t = record s { writes = commit_next s.writes true }
write_part s bytes (Some c) (write.Broken why) e in_hand answers =
    remains (Calls true bytes) Writes s (record s { writes = commit_next s.writes true }) e e (record { entered = refl; taken = refl; end = λ was is before after. same_end s s refl was is before after; seek = refl })

call_part : (s : KeeperState) (done : Bool) (bytes : List ℕ) → s.step ≡ Writes → IsPart (Calls done bytes) Writes s (writes_called s done)
call_part s true bytes e = write_part s bytes s.commit (commit_answer (commit_next s.writes true)) e refl refl
call_part s false bytes e =
    ends (Calls false bytes) Writes s (record s { writes = commit_next s.writes false; is_broken = true; rests = false }) _ (record { entered = refl; taken = refl; end = λ was is before after. same_end s s refl was is before after; seek = refl })

-- the commit is finished
finished_part : (s : KeeperState) (reply : ℕ) (granted : Bool) (found : Option Commit) → IsPart (Replies reply granted) Finishes s (finished (record s { finish = finish_next s.finish reply }) found)
finished_part s reply granted None = ends (Replies reply granted) Finishes s (record s { finish = finish_next s.finish reply }) _ (record { entered = refl; taken = refl; end = λ was is before after. same_end s s refl was is before after; seek = refl })
finished_part s reply granted (Some c) = record { begins = tt; knows = record { entered = refl; taken = λ other. refl; end = λ was is before after. cc; seek = λ other. refl } }

finish_part : (s : KeeperState) (reply : ℕ) (granted : Bool) (ask : Ask FinishAnswer) → s.step ≡ Finishes → IsPart (Replies reply granted) Finishes s (finish_ledto (record s { finish = finish_next s.finish reply }) ask)
unfolding finish_ledto
finish_part s reply granted (Done its) e = finished_part s reply granted s.commit
finish_part s reply granted ask e =
    remains (Replies reply granted) Finishes s (record s { finish = finish_next s.finish reply }) e e (record { entered = refl; taken = refl; end = λ was is before after. same_end s s refl was is before after; seek = refl })

-- the sweep's turn goes on, or is through
sweep_part : (event : KeeperEvent) (s t : KeeperState) (ask : Ask SweepAnswer) → s.step ≡ Sweeps → t.step ≡ Sweeps → IsKnown event Sweeps s t → IsPart event Sweeps s (sweep_ledto t ask)
unfolding sweep_ledto
sweep_part event s t (Done sweep.Through) e still its = ends event Sweeps s t _ its
sweep_part event s t ask e still its = remains event Sweeps s t e still its

read_part : (s : KeeperState) (done : Bool) (bytes : List ℕ) → s.step ≡ Sweeps → IsPart (Calls done bytes) Sweeps s (sweep_called s done bytes)
read_part s true bytes e = sweep_part (Calls true bytes) s (record s { sweep = sweep_read s.sweep bytes }) (sweep_ask (sweep_read s.sweep bytes)) e e (record { entered = refl; taken = refl; end = λ was is before after. same_end s s refl was is before after; seek = refl })
read_part s false bytes e = ends (Calls false bytes) Sweeps s (record s { sweep = sweep_failed s.sweep; is_broken = true; rests = false }) _ (record { entered = refl; taken = refl; end = λ was is before after. same_end s s refl was is before after; seek = refl })

-- a reply, an action, and a call of the device
reply_part : (shape : Shape) (p : Places) (s : KeeperState) (step : Keeping) (reply : ℕ) (granted : Bool) → s.step ≡ step → IsPart (Replies reply granted) step s (keeping_next shape p s step reply granted)
unfolding keeping_next
reply_part shape p s (Ended its) reply granted e = remains (Replies reply granted) (Ended its) s s e e (record { entered = refl; taken = refl; end = same_end s s refl; seek = refl })
reply_part shape p s Starts reply granted e = start_part s reply granted (record s { start = start_next s.start reply }) (start_ask (start_next s.start reply)) e e refl refl refl refl refl
reply_part shape p s Maintains reply granted e =
    maintain_part (Replies reply granted) s _ (maintain_ask shape p (maintain_next shape p s.maintain reply)) e e (record { entered = refl; taken = refl; end = λ was is before after. same_end s s refl was is before after; seek = refl })
reply_part shape p s LoadsPhase reply granted e = phase_part p s s.commit reply granted e refl
reply_part shape p s Enters reply granted e = enter_part s reply granted (record s { enter = enter_next s.enter reply }) (enter_ask (enter_next s.enter reply)) e e refl refl refl refl refl
reply_part shape p s Copies reply granted e = copy_part s reply granted (record s { copy = copy_driven s.copy reply }) (copy_told (copy_driven s.copy reply)) e e refl refl refl refl
reply_part shape p s Seeks reply granted e = seek_part s reply granted (record s { seek = seek_next s.seek reply }) (seek_ask (seek_next s.seek reply)) e e refl refl refl refl refl
reply_part shape p s Waits reply granted e =
    wait_part shape s reply granted (record s { wait = wait_next s.wait reply }) (wait_ask (wait_next s.wait reply)) e e refl (record { entered = refl; taken = refl; end = λ was is before after. same_end s s refl was is before after; seek = refl })
reply_part shape p s Writes reply granted e = remains (Replies reply granted) Writes s s e e (record { entered = refl; taken = refl; end = same_end s s refl; seek = refl })
reply_part shape p s Finishes reply granted e = finish_part s reply granted (finish_ask s.seek.points (finish_next s.finish reply)) e
reply_part shape p s Sweeps reply granted e = sweep_part (Replies reply granted) s _ (sweep_ask (sweep_next s.sweep reply)) e e (record { entered = refl; taken = refl; end = λ was is before after. same_end s s refl was is before after; seek = refl })

given_part : (p : Places) (shape : Shape) (s : KeeperState) (step : Keeping) (action : Action) → s.step ≡ step → IsPart (Gets action) step s (keeping_given shape p s step action)
unfolding keeping_given
given_part p shape s Maintains action e =
    maintain_part (Gets action) s _ (maintain_ask shape p (maintain_given s.maintain action)) e e (record { entered = refl; taken = refl; end = λ was is before after. same_end s s refl was is before after; seek = refl })
given_part p shape s step action e = remains (Gets action) step s s e e (record { entered = refl; taken = refl; end = same_end s s refl; seek = refl })

called_part : (p : Places) (shape : Shape) (s : KeeperState) (step : Keeping) (done : Bool) (bytes : List ℕ) → s.step ≡ step → IsPart (Calls done bytes) step s (keeping_called shape p s step done bytes)
unfolding keeping_called
called_part p shape s Maintains done bytes e =
    maintain_part (Calls done bytes) s _ (maintain_ask shape p (maintain_called shape p s.maintain done bytes)) e e (record { entered = refl; taken = refl; end = λ was is before after. same_end s s refl was is before after; seek = refl })
called_part p shape s Writes done bytes e = call_part s done bytes e
called_part p shape s Sweeps done bytes e = read_part s done bytes e
called_part p shape s step done bytes e = remains (Calls done bytes) step s s e e (record { entered = refl; taken = refl; end = same_end s s refl; seek = refl })

-- where a turn or a commit is begun
turn_part : (s : KeeperState) (its : KeeperTold) → IsPart BeginsTurn (Ended its) s (turn_asked s)
turn_part s its =
    either s.is_broken BeginsTurn (Ended its) s _ _ (λ broken. ends BeginsTurn (Ended its) s s _ (record { entered = refl; taken = refl; end = same_end s s refl; seek = refl }))
    (λ works. record { begins = tt; knows = record { entered = refl; taken = λ other. refl; end = λ was is before after. same_end s s refl was is before after; seek = λ other. refl } })

commit_part : (s : KeeperState) (kind : CommitKind) (its : KeeperTold) → IsPart (BeginsCommit kind) (Ended its) s (commit_asked s kind)
commit_part s kind its =
    either s.is_broken (BeginsCommit kind) (Ended its) s _ _ (λ broken. ends (BeginsCommit kind) (Ended its) s s _ (record { entered = refl; taken = refl; end = same_end s s refl; seek = refl }))
    (λ works. either s.rests (BeginsCommit kind) (Ended its) s _ _ (λ rests. ends (BeginsCommit kind) (Ended its) s s _ (record { entered = refl; taken = refl; end = same_end s s refl; seek = refl }))
    (λ awake. record { begins = inr (record { kind = kind; asked = refl; start = refl }); knows = record { entered = refl; taken = λ other. refl; end = λ was is before after. same_end s s refl was is before after; seek = λ other. refl } }))

happens_part : (shape : Shape) (p : Places) (s : KeeperState) (step : Keeping) (event : KeeperEvent) → s.step ≡ step → IsPart event step s (happens_at shape p s step event)
happens_part shape p s (Ended its) BeginsTurn e = turn_part s its
happens_part shape p s (Ended its) (BeginsCommit kind) e = commit_part s kind its
happens_part shape p s step BeginsTurn e = remains BeginsTurn step s s e e (record { entered = refl; taken = refl; end = same_end s s refl; seek = refl })
happens_part shape p s step (BeginsCommit kind) e = remains (BeginsCommit kind) step s s e e (record { entered = refl; taken = refl; end = same_end s s refl; seek = refl })
happens_part shape p s step (Replies reply granted) e = reply_part shape p s step reply granted e
happens_part shape p s step (Gets action) e = given_part p shape s step action e
happens_part shape p s step (Calls done bytes) e = called_part p shape s step done bytes e

pub each_part : (shape : Shape) (p : Places) (s : KeeperState) (event : KeeperEvent) → IsPart event s.step s (keeper_happens shape p s event)
each_part shape p s event = subst (λ (x : KeeperState). IsPart event s.step s x) (happens_so shape p s event) (happens_part shape p s s.step event refl)
