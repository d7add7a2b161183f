-- What holds of a keeper while a call is in hand, and how the call ends.
use Rattle.std.proofs.Common.{◌≡◌, ℕ, refl, inl, inr, ap, sym, subst, ◌∙◌, List, Bool, true, false}
use Rattle.std.specs.Prelude.{⊤, [], ◌∷◌, ◌++◌, length, Option, Some, None, if◌then◌else◌, ◌||◌, ◌&&◌}
use Rattle.fkv_base.specs.declared.commits.CommitKind.{CommitKind}
use Rattle.fkv_base.specs.declared.faults.Fault.{Fault}
use Rattle.fkv_base.specs.declared.faults.Fault.TheVariants as fault
use Rattle.fkv_base.specs.declared.numbers.Serial.{Serial}
use Rattle.fkv_base.specs.declared.numbers.Version.{Version}
use Rattle.fkv_base.specs.declared.phases.Phase.TheVariants as phase
use Rattle.fkv_base.specs.declared.shapes.Shape.{Shape}
use Rattle.fkv_words.specs.declared.phase_words.PhaseSaid.{PhaseSaid}
use Rattle.fkv_words.specs.declared.phase_words.PhaseSaid.TheVariants.{Says}
use Rattle.fkv_words.specs.PhaseWords.{phase_said}
use Rattle.fkv_plane.specs.declared.actions.Action.{Action}
use Rattle.fkv_plane.specs.declared.asks.Ask.{Ask}
use Rattle.fkv_plane.specs.declared.asks.Ask.TheVariants.{Done, Load}
use Rattle.fkv_plane.specs.declared.places.Places.{Places}
use Rattle.fkv_plane.specs.declared.places.SharedWord.TheVariants as one
use Rattle.fkv_plane.specs.Passing.{passed}
use Rattle.fkv_plane.specs.Places.{shared_place}
use Rattle.fkv_epoch.specs.Once.{Among}
use Rattle.fkv_commit.specs.declared.commits.Commit.{Commit}
use Rattle.fkv_commit.specs.declared.entering.EnterAnswer.{EnterAnswer}
use Rattle.fkv_commit.specs.declared.entering.EnterAnswer.TheVariants as enter
use Rattle.fkv_commit.specs.declared.entering.Entering.{Entering}
use Rattle.fkv_commit.specs.declared.entering.Entering.TheVariants as enters
use Rattle.fkv_commit.specs.declared.finishing.FinishAnswer.{FinishAnswer}
use Rattle.fkv_commit.specs.declared.seeking.SeekAnswer.{SeekAnswer}
use Rattle.fkv_commit.specs.declared.seeking.SeekAnswer.TheVariants as seek
use Rattle.fkv_commit.specs.declared.seeking.Seeking.{Seeking}
use Rattle.fkv_commit.specs.declared.seeking.Seeking.TheVariants as seeks
use Rattle.fkv_commit.specs.declared.starting.StartAnswer.{StartAnswer}
use Rattle.fkv_commit.specs.declared.starting.StartAnswer.TheVariants as start
use Rattle.fkv_commit.specs.declared.waiting.WaitAnswer.{WaitAnswer}
use Rattle.fkv_commit.specs.declared.waiting.WaitAnswer.TheVariants as wait
use Rattle.fkv_base.specs.declared.classes.StoreClass.{StoreClass}
use Rattle.fkv_commit.specs.declared.starting.StartAsked.{StartAsked}
use Rattle.fkv_commit.proofs.Shown.{enters_end, seeks_end, start_asked}
use Rattle.fkv_commit.specs.Deferring.{defer_ask}
use Rattle.fkv_commit.specs.Entering.{EnterState, enter_ask, enter_begun, enter_next, entering_ask}
use Rattle.fkv_commit.specs.Exchanges.{AreIdle, Exchange, WasEpochLast, exchange, exchanged, exchanges, run_of}
use Rattle.fkv_commit.specs.Finishing.{finish_ask, finish_next}
use Rattle.fkv_commit.specs.Phases.{enter_told, entered}
use Rattle.fkv_commit.specs.Points.{seek_told, sought}
use Rattle.fkv_commit.specs.Seeking.{SeekState, seek_ask, seek_begun, seek_next, seeking_ask}
use Rattle.fkv_commit.specs.Starting.{start_ask, start_begun, start_next}
use Rattle.fkv_commit.specs.Waiting.{wait_ask, wait_next}
use Rattle.fkv_sweep.specs.declared.sweeping.SweepAnswer.{SweepAnswer}
use Rattle.fkv_sweep.specs.declared.sweeping.SweepAnswer.TheVariants as swept
use Rattle.fkv_sweep.specs.Sweeping.{is_sweeping, sweep_ask, sweep_next, sweep_read}
use Rattle.fkv_manifest.specs.declared.answers.WriteAnswer.{WriteAnswer}
use Rattle.fkv_manifest.specs.declared.answers.WriteAnswer.TheVariants as write
use Rattle.fkv_manifest.specs.Committing.{commit_answer, commit_next}
use Rattle.fkv_maintain.specs.declared.maintaining.MaintainAnswer.{MaintainAnswer}
use Rattle.fkv_maintain.specs.declared.maintaining.MaintainAnswer.TheVariants as maintain
use Rattle.fkv_maintain.specs.Maintaining.{MaintainState, maintain_ask, maintain_called, maintain_given, maintain_next, is_flush_resting}
use Rattle.fkv_keeper.specs.declared.answers.KeeperTold.{KeeperTold}
use Rattle.fkv_keeper.specs.declared.answers.KeeperTold.TheVariants.{CommitRefused, TurnRefused}
use Rattle.fkv_keeper.specs.declared.keepers.Keeping.{Keeping}
use Rattle.fkv_keeper.specs.declared.keepers.Keeping.TheVariants.{Copies, Ended, Enters, Finishes, LoadsPhase, Maintains, Seeks, Starts, Sweeps, Waits, Writes}
use Rattle.fkv_keeper.specs.DrainLaws.{call_told, told_after, told_anew}
use Rattle.fkv_keeper.specs.Keeping.{must_rest, parts_begun, asked_for, KeeperState, commit_asked, copies, copies_next, copy_driven, copy_ledto, device_passed, ended, enter_ledto, finish_ledto, finished, keeping_ask, keeping_called, keeping_given, keeping_next, maintain_ledto, part_begun, phase_ledto, seek_ledto, start_ledto, sweep_called, sweep_ledto, turn_asked, turn_over, turned, wait_ledto, write_ledto, writes_begun, writes_called, is_copy_resting, copy_taken, copy_told, serves_alone}
use Rattle.fkv_keeper.specs.KeeperRun.{BeginsCommit, BeginsTurn, Calls, Gets, IsOpened, KeeperEvent, Replies, begins, is_calling, is_in_hand, keeper_happens, keeper_run}
use Rattle.fkv_keeper.proofs.Shown.{run_rests}
use Rattle.law_causes.specs.Causes.{HasCommitCause, HasFailed, HasRestingWrites, HasTurnCause, IsFailure, IsMemoryRefusal, IsShown, kind_after, kind_asked}
use Rattle.law_causes.proofs.OfCauses.Asking.{among_first, passed_alone, passed_told, told_behind}
use Rattle.law_causes.proofs.OfCauses.Maintaining.{HasComeTo, IsUnderWay, LoadsLast, by_broken, by_spent, goes_on, maintain_got, maintain_made_call, maintain_replied}
use Rattle.law_causes.proofs.OfCauses.Starting.{StartKnows, start_begins, start_not_idle, start_refused, start_replied}

-- ---- the step to wait-pending, and the search for points, over the replies so far
pub record EnterKnows (s : EnterState) (told : List Exchange) : Type 0 where
  pub opening : EnterState
  pub number : Version
  pub replies : List ℕ
  pub before : List Exchange
  pub is : s ≡ entered opening number replies
  pub its : told ≡ enter_told opening number replies ++ before

enter_begins : (s : EnterState) (number : Version) (told : List Exchange) → EnterKnows (enter_begun s number) told
unfolding run_of exchanges
enter_begins s number told = record { opening = s; number = number; replies = []; before = told; is = refl; its = refl }

enter_replied : (s : EnterState) (told : List Exchange) (reply : ℕ) → EnterKnows s told → EnterKnows (enter_next s reply) (exchanged (enter_ask s) reply told)
unfolding run_of exchanges
enter_replied s told reply knows = record {
  opening = knows.opening;
  number = knows.number;
  replies = reply ∷ knows.replies;
  before = knows.before;
  is = ap (λ (x : EnterState). enter_next x reply) knows.is;
  its = ap (λ (x : EnterState). exchanged (enter_ask x) reply told) knows.is
      ∙ (ap (λ (x : List Exchange). exchanged (enter_ask (entered knows.opening knows.number knows.replies)) reply x) knows.its
      ∙ told_behind (enter_ask (entered knows.opening knows.number knows.replies)) reply (enter_told knows.opening knows.number knows.replies) knows.before);
}

enter_at_end : (s : EnterState) (step : Entering) → entering_ask s step ≡ Done enter.EpochsSpent → step ≡ enters.Ended enter.EpochsSpent
unfolding entering_ask
enter_at_end s (enters.Ended it) e = let same : it ≡ enter.EpochsSpent = cc in ap (λ (x : EnterAnswer). enters.Ended x) same
enter_at_end s enters.Seeks e = absurd (let same : enter.Idle ≡ enter.EpochsSpent = passed_alone (defer_ask s.defer) enter.Idle enter.EpochsSpent e in cc)
enter_at_end s enters.Defers e = absurd (let same : enter.Idle ≡ enter.EpochsSpent = passed_alone (defer_ask s.defer) enter.Idle enter.EpochsSpent e in cc)

last_first : (told all before : List Exchange) → all ≡ told ++ before → WasEpochLast told → WasEpochLast all
last_first told all before e was = (was.0, was.1, subst (λ (x : List Exchange). Among (exchange (Load (shared_place one.Epoch)) was.0) x) (sym e) (among_first _ told before was.2))

enter_last : (s : EnterState) (told : List Exchange) → EnterKnows s told → enter_ask s ≡ Done enter.EpochsSpent → WasEpochLast told
enter_last s told knows e =
    let at : (entered knows.opening knows.number knows.replies).step ≡ enters.Ended enter.EpochsSpent = sym (ap (λ (x : EnterState). x.step) knows.is) ∙ enter_at_end s s.step e in
    let end : AreIdle (enter_told knows.opening knows.number knows.replies) × WasEpochLast (enter_told knows.opening knows.number knows.replies) = enters_end knows.opening knows.number knows.replies enter.EpochsSpent at in
    last_first (enter_told knows.opening knows.number knows.replies) told knows.before knows.its end.1

pub record SeekKnows (s : SeekState) (told : List Exchange) : Type 0 where
  pub opening : SeekState
  pub number : Version
  pub floor : List Serial
  pub replies : List ℕ
  pub before : List Exchange
  pub is : s ≡ sought opening number floor replies
  pub its : told ≡ seek_told opening number floor replies ++ before

seek_begins : (s : SeekState) (number : Version) (floor : List Serial) (told : List Exchange) → SeekKnows (seek_begun s number floor) told
unfolding run_of exchanges
seek_begins s number floor told = record { opening = s; number = number; floor = floor; replies = []; before = told; is = refl; its = refl }

seek_replied : (s : SeekState) (told : List Exchange) (reply : ℕ) → SeekKnows s told → SeekKnows (seek_next s reply) (exchanged (seek_ask s) reply told)
unfolding run_of exchanges
seek_replied s told reply knows = record {
  opening = knows.opening;
  number = knows.number;
  floor = knows.floor;
  replies = reply ∷ knows.replies;
  before = knows.before;
  is = ap (λ (x : SeekState). seek_next x reply) knows.is;
  its = ap (λ (x : SeekState). exchanged (seek_ask x) reply told) knows.is
      ∙ (ap (λ (x : List Exchange). exchanged (seek_ask (sought knows.opening knows.number knows.floor knows.replies)) reply x) knows.its
      ∙ told_behind (seek_ask (sought knows.opening knows.number knows.floor knows.replies)) reply (seek_told knows.opening knows.number knows.floor knows.replies) knows.before);
}

seek_at_end : (s : SeekState) (step : Seeking) → seeking_ask s step ≡ Done seek.EpochsSpent → step ≡ seeks.Ended seek.EpochsSpent
unfolding seeking_ask
seek_at_end s (seeks.Ended it) e = let same : it ≡ seek.EpochsSpent = cc in ap (λ (x : SeekAnswer). seeks.Ended x) same
seek_at_end s seeks.SeeksSlot e = absurd (let same : seek.Idle ≡ seek.EpochsSpent = passed_alone (defer_ask s.defer) seek.Idle seek.EpochsSpent e in cc)
seek_at_end s (seeks.Defers end) e = absurd (let same : seek.Idle ≡ seek.EpochsSpent = passed_alone (defer_ask s.defer) seek.Idle seek.EpochsSpent e in cc)
seek_at_end s step e = absurd (cc)

seek_last : (s : SeekState) (told : List Exchange) → SeekKnows s told → seek_ask s ≡ Done seek.EpochsSpent → WasEpochLast told
seek_last s told knows e =
    let at : (sought knows.opening knows.number knows.floor knows.replies).step ≡ seeks.Ended seek.EpochsSpent = sym (ap (λ (x : SeekState). x.step) knows.is) ∙ seek_at_end s s.step e in
    let end = seeks_end knows.opening knows.number knows.floor knows.replies seek.EpochsSpent at in
    last_first (seek_told knows.opening knows.number knows.floor knows.replies) told knows.before knows.its end.2

-- ---- while a call is in hand
abbrev pub During : Option CommitKind → KeeperState → Keeping → List Exchange → Type 0
During asked s Starts told = StartKnows asked (asked_for s) s.start told
During asked s Maintains told = IsUnderWay s.maintain.step
During asked s Enters told = EnterKnows s.enter told
During asked s Seeks told = SeekKnows s.seek told
During asked s step told = ⊤

-- ---- how it ends: by causes of a commit's refusals and of a turn's
module _ (before : List KeeperEvent) (was : KeeperState) (event : KeeperEvent) (asked : Option CommitKind) (told : List Exchange) where
  abbrev EndsBy : KeeperState → KeeperTold → Type 0
  EndsBy s (CommitRefused why) = HasCommitCause before asked s told why
  EndsBy s (TurnRefused why) = HasTurnCause before was event told why
  EndsBy s its = ⊤

  abbrev pub Comes : KeeperState → Keeping → Type 0
  Comes s (Ended its) = EndsBy s its
  Comes s step = During asked s step told

  -- and if it is broken now, a call of the device has failed
  pub record Outcome (s : KeeperState) : Type 0 where
    pub broken : s.is_broken ≡ true → HasFailed (event ∷ before)
    pub comes : Comes s s.step

  abbrev Works : KeeperState → Type 0
  Works s = s.is_broken ≡ true → HasFailed (event ∷ before)

  at : (s : KeeperState) (step : Keeping) → s.step ≡ step → Works s → Comes s step → Outcome s
  at s step e works comes = record { broken = works; comes = subst (λ (x : Keeping). Comes s x) (sym e) comes }

  either : (b : Bool) (x y : KeeperState) → Outcome x → Outcome y → Outcome (if b then x else y)
  either true x y one other = one
  either false x y one other = other

  shown : (s : KeeperState) (why : Fault) → IsShown asked (asked_for s) why told → HasCommitCause before asked s told why
  shown s fault.Broken is = absurd is.shown
  shown s fault.CommitRunning is = inl is
  shown s why is = is

  start_led : (t : KeeperState) (ask : Ask StartAnswer) → t.step ≡ Starts → start_ask t.start ≡ ask → Works t → StartKnows asked (asked_for t) t.start told → Outcome (start_ledto t ask)
  unfolding start_ledto
  start_led t (Done (start.Begun number first)) e asks works knows = record { broken = works; comes = tt }
  start_led t (Done (start.Refused why)) e asks works knows = record { broken = works; comes = shown (ended t (CommitRefused why)) why (start_refused asked (asked_for t) t.start told why knows asks) }
  start_led t (Done start.Idle) e asks works knows = absurd (start_not_idle asked (asked_for t) t.start told knows asks)
  start_led t ask e asks works knows = at t Starts e works knows

  maintain_led : (shape : Shape) (p : Places) (t : KeeperState) (ask : Ask MaintainAnswer) → t.step ≡ Maintains → maintain_ask shape p t.maintain ≡ ask → Works t
      → HasComeTo (WasEpochLast told) (IsFailure event) t.maintain.step → Outcome (maintain_ledto t ask)
  unfolding maintain_ledto
  maintain_led shape p t (Done maintain.Through) e asks works comes = record { broken = works; comes = tt }
  maintain_led shape p t (Done maintain.Spent) e asks works comes = record { broken = works; comes = by_spent (WasEpochLast told) (IsFailure event) shape p t.maintain asks comes }
  maintain_led shape p t (Done maintain.Broken) e asks works comes =
      let failed : IsFailure event = by_broken (WasEpochLast told) (IsFailure event) shape p t.maintain asks comes in
      record { broken = λ is. (failed.0, inl (sym failed.1)); comes = failed }
  maintain_led shape p t ask e asks works comes = at t Maintains e works (goes_on shape p t.maintain ask asks tt)

  over : (s : KeeperState) → Works s → Outcome (turned s)
  over s works = record { broken = works; comes = tt }

  copies_led : (p : Places) (s : KeeperState) (granted : Bool) → Works s → (granted ≡ false → is_copy_resting s.copy ≡ false → IsMemoryRefusal was event) → Outcome (copies p s granted)
  copies_led p s granted works refused = by granted (is_copy_resting s.copy) refl refl
    where
      by : (g rests : Bool) → granted ≡ g → is_copy_resting s.copy ≡ rests
          → Outcome (if g || rests then record s { copy = copy_taken p s.copy; is_granted = true; step = Copies } else ended (record s { is_granted = false }) (TurnRefused fault.Memory))
      by true rests is so = record { broken = works; comes = tt }
      by false true is so = record { broken = works; comes = tt }
      by false false is so = record { broken = works; comes = refused is so }

  enter_led : (t : KeeperState) (ask : Ask EnterAnswer) → t.step ≡ Enters → enter_ask t.enter ≡ ask → Works t → EnterKnows t.enter told → Outcome (enter_ledto t ask)
  unfolding enter_ledto
  enter_led t (Done enter.Entered) e asks works knows = over (record t { has_entered = true }) works
  enter_led t (Done enter.DrainFull) e asks works knows = record { broken = works; comes = tt }
  enter_led t (Done enter.EpochsSpent) e asks works knows = record { broken = works; comes = enter_last t.enter told knows asks }
  enter_led t (Done enter.Idle) e asks works knows = over t works
  enter_led t ask e asks works knows = at t Enters e works knows

  copy_led : (t : KeeperState) (ask : Ask (Unit {0})) → t.step ≡ Copies → Works t → Outcome (copy_ledto t ask)
  unfolding copy_ledto
  copy_led t (Done its) e works = record { broken = works; comes = tt }
  copy_led t ask e works = at t Copies e works tt

  seek_led : (t : KeeperState) (ask : Ask SeekAnswer) → t.step ≡ Seeks → seek_ask t.seek ≡ ask → Works t → SeekKnows t.seek told → Outcome (seek_ledto t ask)
  unfolding seek_ledto
  seek_led t (Done (seek.Taken end epoch)) e asks works knows = record { broken = works; comes = tt }
  seek_led t (Done seek.DrainFull) e asks works knows = record { broken = works; comes = tt }
  seek_led t (Done seek.EpochsSpent) e asks works knows = record { broken = works; comes = seek_last t.seek told knows asks }
  seek_led t (Done seek.Owing) e asks works knows = over t works
  seek_led t (Done seek.Idle) e asks works knows = over t works
  seek_led t ask e asks works knows = at t Seeks e works knows

  begun_led : (shape : Shape) (t : KeeperState) (found : Option Commit) → Works t → Outcome (writes_begun shape t found)
  begun_led shape t None works = over t works
  begun_led shape t (Some c) works = record { broken = works; comes = tt }

  wait_led : (shape : Shape) (t : KeeperState) (ask : Ask WaitAnswer) → t.step ≡ Waits → Works t → Outcome (wait_ledto shape t ask)
  unfolding wait_ledto
  wait_led shape t (Done wait.Flushed) e works = begun_led shape t t.commit works
  wait_led shape t (Done wait.NotYet) e works = over t works
  wait_led shape t (Done wait.Idle) e works = over t works
  wait_led shape t ask e works = at t Waits e works tt

  finished_led : (t : KeeperState) (found : Option Commit) → Works t → Outcome (finished t found)
  finished_led t None works = over t works
  finished_led t (Some c) works = record { broken = works; comes = tt }

  finish_led : (t : KeeperState) (ask : Ask FinishAnswer) → t.step ≡ Finishes → Works t → Outcome (finish_ledto t ask)
  unfolding finish_ledto
  finish_led t (Done its) e works = finished_led t t.commit works
  finish_led t ask e works = at t Finishes e works tt

  sweep_led : (t : KeeperState) (ask : Ask SweepAnswer) → t.step ≡ Sweeps → Works t → Outcome (sweep_ledto t ask)
  unfolding sweep_ledto
  sweep_led t (Done swept.Through) e works = over t works
  sweep_led t ask e works = at t Sweeps e works tt

  write_led : (t : KeeperState) (found : Option Commit) (its : WriteAnswer) → t.step ≡ Writes → Works t → Outcome (write_ledto t found its)
  unfolding write_ledto
  write_led t None its e works = over t works
  write_led t (Some c) write.Written e works = record { broken = works; comes = tt }
  write_led t (Some c) write.Device e works = either (must_rest t) _ _ (over (record t { rests = true }) works) (at t Writes e works tt)
  write_led t (Some c) (write.Broken why) e works = at t Writes e works tt

  next_led : (p : Places) (s : KeeperState) (c : Commit) (granted : Bool) (t : KeeperState) → Works s → Outcome t → (c.is_copied ≡ false → granted ≡ false → is_copy_resting s.copy ≡ false → IsMemoryRefusal was event) → Outcome (copies_next p s c granted t)
  next_led p s c granted t works its refused = by c.is_copied refl
    where
      by : (b : Bool) → c.is_copied ≡ b → Outcome (if b then t else copies p s granted)
      by true e = its
      by false e = copies_led p s granted works (refused e)

  part_led : (p : Places) (s : KeeperState) (c : Commit) (said : PhaseSaid) (granted : Bool) → Works s → (c.is_copied ≡ false → granted ≡ false → is_copy_resting s.copy ≡ false → IsMemoryRefusal was event) → Outcome (part_begun p s c said granted)
  part_led p s c (Says phase.InProgress version) granted works refused =
      either s.has_entered _ _ (next_led p s c granted (turned s) works (over s works) refused) (record { broken = works; comes = enter_begins s.enter c.number told })
  part_led p s c (Says phase.WaitPending version) granted works refused =
      next_led p s c granted (record s { seek = seek_begun s.seek c.number s.last.points; has_points = false; step = Seeks }) works (record { broken = works; comes = seek_begins s.seek c.number s.last.points told }) refused
  part_led p s c (Says phase.WaitFlush version) granted works refused = either s.has_points _ _ (record { broken = works; comes = tt }) (over s works)
  part_led p s c said granted works refused = over s works

  phase_led : (p : Places) (s : KeeperState) (found : Option Commit) (said : PhaseSaid) (granted : Bool) → Works s → ((c : Commit) → found ≡ Some c → c.is_copied ≡ false → granted ≡ false → is_copy_resting s.copy ≡ false → IsMemoryRefusal was event)
      → Outcome (phase_ledto p s found said granted)
  unfolding phase_ledto
  phase_led p s None said granted works refused = either (is_flush_resting s.maintain) _ _ (over (record s { is_granted = granted }) works)
      (either (granted && is_sweeping s.sweep) _ _ (record { broken = works; comes = tt }) (over (record s { is_granted = granted }) works))
  phase_led p s (Some c) said granted works refused =
      either s.rests _ _ (either granted _ _ (record { broken = works; comes = tt }) (over (record s { is_granted = false }) works))
      (either (is_flush_resting s.maintain) _ _ (over (record s { is_granted = granted }) works) (part_led p s c said granted works (refused c refl)))

-- ---- an event, from a state with a call in hand
-- the keeper passes on what its parts ask
device_told : (ask : Ask MaintainAnswer) (other : KeeperTold) (reply : ℕ) (told : List Exchange) → exchanged (device_passed ask other) reply told ≡ exchanged ask reply told
unfolding device_passed exchanged
device_told (Done maintain.Device) other reply told = refl
device_told ask other reply told = passed_told ask other reply told

-- the last epoch was loaded
loaded_last : (ask : Ask MaintainAnswer) (reply : ℕ) (told : List Exchange) → LoadsLast ask reply → WasEpochLast (exchanged ask reply told)
unfolding exchanged passed
loaded_last ask reply told is = rw is.1 (reply, is.0, inl refl)

module _ (shape : Shape) (p : Places) (before : List KeeperEvent) (asked : Option CommitKind) where
  -- what is known of a state before an event
  abbrev Broken : KeeperState → Type 0
  Broken s = s.is_broken ≡ true → HasFailed before

  sooner : (event : KeeperEvent) (s : KeeperState) → Broken s → s.is_broken ≡ true → HasFailed (event ∷ before)
  sooner event s works is = (let had = works is in (had.0, inr had.1))

  reply_at : (s : KeeperState) (step : Keeping) (reply : ℕ) (granted : Bool) (told : List Exchange) → s.step ≡ step → is_in_hand step ≡ true → Broken s → During asked s step told
      → Outcome before s (Replies reply granted) asked (exchanged (keeping_ask shape p s step) reply told) (keeping_next shape p s step reply granted)
  unfolding keeping_next keeping_ask
  reply_at s (Ended its) reply granted told e in_hand works knows = absurd (let clash : true ≡ false = sym in_hand in cc)
  reply_at s Starts reply granted told e in_hand works knows =
      let t : KeeperState = record s { start = start_next s.start reply } in
      subst (λ (x : List Exchange). Outcome before s (Replies reply granted) asked x (start_ledto t (start_ask t.start))) (sym (passed_told (start_ask s.start) (CommitRefused fault.CommitRunning) reply told))
      (start_led before s (Replies reply granted) asked (exchanged (start_ask s.start) reply told) t (start_ask t.start) e refl (sooner (Replies reply granted) s works)
      (subst (λ (class : StoreClass). StartKnows asked (λ kind. record { class = class; kind = kind; lost = length s.lost; checkpoint = s.last.checkpoint.number }) t.start (exchanged (start_ask s.start) reply told)) (ap (λ (x : StartAsked). x.class) (sym (start_asked s.start reply)))
      (start_replied asked (asked_for s) s.start told reply knows)))
  reply_at s Maintains reply granted told e in_hand works knows =
      let t : KeeperState = record s { maintain = maintain_next shape p s.maintain reply } in
      subst (λ (x : List Exchange). Outcome before s (Replies reply granted) asked x (maintain_ledto t (maintain_ask shape p t.maintain))) (sym (device_told (maintain_ask shape p s.maintain) (turn_over s) reply told))
      (maintain_led before s (Replies reply granted) asked (exchanged (maintain_ask shape p s.maintain) reply told) shape p t (maintain_ask shape p t.maintain) e refl (sooner (Replies reply granted) s works)
      (maintain_replied (WasEpochLast (exchanged (maintain_ask shape p s.maintain) reply told)) (IsFailure (Replies reply granted)) shape p s.maintain reply knows (λ is. loaded_last (maintain_ask shape p s.maintain) reply told is)))
  reply_at s LoadsPhase reply granted told e in_hand works knows =
      phase_led before s (Replies reply granted) asked _ p s s.commit (phase_said reply) granted (sooner (Replies reply granted) s works)
      (λ c some not_copied refused none. record { reply = reply; refused = ap (λ (g : Bool). Replies reply g) refused; loads = e; commit = c; in_hand = some; not_copied = not_copied; none_rests = none })
  reply_at s Enters reply granted told e in_hand works knows =
      let t : KeeperState = record s { enter = enter_next s.enter reply } in
      subst (λ (x : List Exchange). Outcome before s (Replies reply granted) asked x (enter_ledto t (enter_ask t.enter))) (sym (passed_told (enter_ask s.enter) (turn_over s) reply told))
      (enter_led before s (Replies reply granted) asked (exchanged (enter_ask s.enter) reply told) t (enter_ask t.enter) e refl (sooner (Replies reply granted) s works) (enter_replied s.enter told reply knows))
  reply_at s Copies reply granted told e in_hand works knows =
      let t : KeeperState = record s { copy = copy_driven s.copy reply } in
      copy_led before s (Replies reply granted) asked _ t (copy_told t.copy) e (sooner (Replies reply granted) s works)
  reply_at s Seeks reply granted told e in_hand works knows =
      let t : KeeperState = record s { seek = seek_next s.seek reply } in
      subst (λ (x : List Exchange). Outcome before s (Replies reply granted) asked x (seek_ledto t (seek_ask t.seek))) (sym (passed_told (seek_ask s.seek) (turn_over s) reply told))
      (seek_led before s (Replies reply granted) asked (exchanged (seek_ask s.seek) reply told) t (seek_ask t.seek) e refl (sooner (Replies reply granted) s works) (seek_replied s.seek told reply knows))
  reply_at s Waits reply granted told e in_hand works knows =
      let t : KeeperState = record s { wait = wait_next s.wait reply } in
      wait_led before s (Replies reply granted) asked _ shape t (wait_ask t.wait) e (sooner (Replies reply granted) s works)
  reply_at s Writes reply granted told e in_hand works knows = at before s (Replies reply granted) asked _ s Writes e (sooner (Replies reply granted) s works) tt
  reply_at s Finishes reply granted told e in_hand works knows =
      let t : KeeperState = record s { finish = finish_next s.finish reply } in
      finish_led before s (Replies reply granted) asked _ t (finish_ask s.seek.points t.finish) e (sooner (Replies reply granted) s works)
  reply_at s Sweeps reply granted told e in_hand works knows =
      let t : KeeperState = record s { sweep = sweep_next s.sweep reply } in
      sweep_led before s (Replies reply granted) asked _ t (sweep_ask t.sweep) e (sooner (Replies reply granted) s works)

  still_at : (s : KeeperState) (event : KeeperEvent) (step : Keeping) (told : List Exchange) → s.step ≡ step → is_in_hand step ≡ true → Broken s → During asked s step told → Outcome before s event asked told s
  still_at s event (Ended its) told e in_hand works knows = absurd (let clash : true ≡ false = sym in_hand in cc)
  still_at s event step told e in_hand works knows = at before s event asked told s step e (sooner event s works) knows

  given_at : (s : KeeperState) (step : Keeping) (action : Action) (told : List Exchange) → s.step ≡ step → is_in_hand step ≡ true → Broken s → During asked s step told
      → Outcome before s (Gets action) asked told (keeping_given shape p s step action)
  unfolding keeping_given
  given_at s Maintains action told e in_hand works knows =
      let t : KeeperState = record s { maintain = maintain_given s.maintain action } in
      maintain_led before s (Gets action) asked told shape p t (maintain_ask shape p t.maintain) e refl (sooner (Gets action) s works) (maintain_got (WasEpochLast told) (IsFailure (Gets action)) s.maintain action knows)
  given_at s step action told e in_hand works knows = still_at s (Gets action) step told e in_hand works knows

  written_at : (s : KeeperState) (done : Bool) (bytes : List ℕ) (told : List Exchange) → s.step ≡ Writes → Broken s → Outcome before s (Calls done bytes) asked told (writes_called s done)
  written_at s true bytes told e works =
      let t : KeeperState = record s { writes = commit_next s.writes true } in
      write_led before s (Calls true bytes) asked told t s.commit (commit_answer t.writes) e (sooner (Calls true bytes) s works)
  written_at s false bytes told e works = record { broken = λ is. (bytes, inl refl); comes = (bytes, refl) }

  swept_at : (s : KeeperState) (done : Bool) (bytes : List ℕ) (told : List Exchange) → s.step ≡ Sweeps → Broken s → Outcome before s (Calls done bytes) asked told (sweep_called s done bytes)
  swept_at s true bytes told e works =
      let t : KeeperState = record s { sweep = sweep_read s.sweep bytes } in
      sweep_led before s (Calls true bytes) asked told t (sweep_ask t.sweep) e (sooner (Calls true bytes) s works)
  swept_at s false bytes told e works = record { broken = λ is. (bytes, inl refl); comes = (bytes, refl) }

  called_at : (s : KeeperState) (step : Keeping) (done : Bool) (bytes : List ℕ) (told : List Exchange) → s.step ≡ step → is_in_hand step ≡ true → Broken s → During asked s step told
      → Outcome before s (Calls done bytes) asked told (keeping_called shape p s step done bytes)
  unfolding keeping_called
  called_at s Maintains done bytes told e in_hand works knows =
      let t : KeeperState = record s { maintain = maintain_called shape p s.maintain done bytes } in
      maintain_led before s (Calls done bytes) asked told shape p t (maintain_ask shape p t.maintain) e refl (sooner (Calls done bytes) s works)
      (maintain_made_call (WasEpochLast told) (IsFailure (Calls done bytes)) shape p s.maintain done bytes knows (λ failed. (bytes, ap (λ (d : Bool). Calls d bytes) failed)))
  called_at s Writes done bytes told e in_hand works knows = written_at s done bytes told e works
  called_at s Sweeps done bytes told e in_hand works knows = swept_at s done bytes told e works
  called_at s step done bytes told e in_hand works knows = still_at s (Calls done bytes) step told e in_hand works knows

-- ---- an event that begins a call or goes on with one
-- the state with its step beside it, so that tables by step compute
abbrev pub happens_at : Shape → Places → KeeperState → Keeping → KeeperEvent → KeeperState
happens_at shape p s step BeginsTurn = begins s (is_in_hand step) (turn_asked s)
happens_at shape p s step (BeginsCommit kind) = begins s (is_in_hand step) (commit_asked s kind)
happens_at shape p s step (Replies reply granted) = keeping_next shape p s step reply granted
happens_at shape p s step (Gets action) = keeping_given shape p s step action
happens_at shape p s step (Calls done bytes) = keeping_called shape p s step done bytes

pub happens_so : (shape : Shape) (p : Places) (s : KeeperState) (event : KeeperEvent) → happens_at shape p s s.step event ≡ keeper_happens shape p s event
unfolding keeper_happens
happens_so shape p s BeginsTurn = refl
happens_so shape p s (BeginsCommit kind) = refl
happens_so shape p s (Replies reply granted) = refl
happens_so shape p s (Gets action) = refl
happens_so shape p s (Calls done bytes) = refl

abbrev told_at : Shape → Places → KeeperState → Keeping → KeeperEvent → List Exchange → List Exchange
told_at shape p s step BeginsTurn told = told_anew (is_in_hand step) told
told_at shape p s step (BeginsCommit kind) told = told_anew (is_in_hand step) told
told_at shape p s step (Replies reply granted) told = exchanged (keeping_ask shape p s step) reply told
told_at shape p s step event told = told

told_so : (shape : Shape) (p : Places) (s : KeeperState) (event : KeeperEvent) (told : List Exchange) → told_at shape p s s.step event told ≡ told_after shape p s event told
told_so shape p s BeginsTurn told = refl
told_so shape p s (BeginsCommit kind) told = refl
told_so shape p s (Replies reply granted) told = refl
told_so shape p s (Gets action) told = refl
told_so shape p s (Calls done bytes) told = refl

still_rests : (s : KeeperState) → HasRestingWrites s [] → HasRestingWrites (ended s (CommitRefused fault.CommitRunning)) []
still_rests s its = record { none_asked = refl; living = its.living; commit = its.commit; in_hand = its.in_hand; rests = its.rests }

module _ (shape : Shape) (p : Places) (before : List KeeperEvent) where
  commit_begun : (s : KeeperState) (kind : CommitKind) (b rests : Bool) → s.is_broken ≡ b → s.rests ≡ rests → Broken shape p before (Some kind) s → (s.rests ≡ true → HasRestingWrites s [])
      → Outcome before s (BeginsCommit kind) (Some kind) [] (if b then ended s (CommitRefused fault.Broken) else (if rests then ended s (CommitRefused fault.CommitRunning) else record s { start = start_begun s.start (asked_for s kind); step = Starts }))
  commit_begun s kind true rests e is works resting = record { broken = sooner shape p before (Some kind) (BeginsCommit kind) s works; comes = works e }
  commit_begun s kind false true e is works resting = record { broken = sooner shape p before (Some kind) (BeginsCommit kind) s works; comes = inr (still_rests s (resting is)) }
  commit_begun s kind false false e is works resting = record { broken = sooner shape p before (Some kind) (BeginsCommit kind) s works; comes = start_begins s.start kind (asked_for s) }

  parts_under_way : (rests : Bool) (m : MaintainState) → IsUnderWay (parts_begun rests m).step
  parts_under_way true m = tt
  parts_under_way false m = tt

  turn_begun : (s : KeeperState) (asked : Option CommitKind) (b : Bool) → s.is_broken ≡ b → Broken shape p before asked s
      → Outcome before s BeginsTurn asked [] (if b then ended s (TurnRefused fault.Broken) else record s { maintain = parts_begun (serves_alone s) s.maintain; is_drain_full = false; step = Maintains })
  turn_begun s asked true e works = record { broken = sooner shape p before asked BeginsTurn s works; comes = works e }
  turn_begun s asked false e works = record { broken = sooner shape p before asked BeginsTurn s works; comes = parts_under_way (serves_alone s) s.maintain }

  abbrev Follows : KeeperState → Keeping → KeeperEvent → Option CommitKind → List Exchange → Type 0
  Follows s step event asked told = Outcome before s event (kind_after (is_in_hand step) event asked) (told_at shape p s step event told) (happens_at shape p s step event)

  event_at : (s : KeeperState) (step : Keeping) (event : KeeperEvent) (asked : Option CommitKind) (told : List Exchange) → s.step ≡ step → is_calling step event ≡ true → Broken shape p before asked s
      → (is_in_hand step ≡ true → During asked s step told) → (s.rests ≡ true → HasRestingWrites s []) → Follows s step event asked told
  event_at s (Ended its) BeginsTurn asked told e calling works knows resting = turn_begun s asked s.is_broken refl works
  event_at s (Ended its) (BeginsCommit kind) asked told e calling works knows resting = commit_begun s kind s.is_broken s.rests refl refl works resting
  event_at s (Ended its) (Replies reply granted) asked told e calling works knows resting = absurd (let clash : true ≡ false = sym calling in cc)
  event_at s (Ended its) (Gets action) asked told e calling works knows resting = absurd (let clash : true ≡ false = sym calling in cc)
  event_at s (Ended its) (Calls done bytes) asked told e calling works knows resting = absurd (let clash : true ≡ false = sym calling in cc)
  event_at s step BeginsTurn asked told e calling works knows resting = still_at shape p before asked s BeginsTurn step told e refl works (knows refl)
  event_at s step (BeginsCommit kind) asked told e calling works knows resting = still_at shape p before asked s (BeginsCommit kind) step told e refl works (knows refl)
  event_at s step (Replies reply granted) asked told e calling works knows resting = reply_at shape p before asked s step reply granted told e refl works (knows refl)
  event_at s step (Gets action) asked told e calling works knows resting = given_at shape p before asked s step action told e refl works (knows refl)
  event_at s step (Calls done bytes) asked told e calling works knows resting = called_at shape p before asked s step done bytes told e refl works (knows refl)

-- ---- what holds at every moment
record Sound (shape : Shape) (p : Places) (opening : KeeperState) (events : List KeeperEvent) : Type 0 where
  works : (keeper_run shape p opening events).is_broken ≡ true → HasFailed events
  knows : is_in_hand (keeper_run shape p opening events).step ≡ true → During (kind_asked shape p opening events) (keeper_run shape p opening events) (keeper_run shape p opening events).step (call_told shape p opening events)

-- what is known where writes rest
rests_in_hand : (shape : Shape) (p : Places) (opening : KeeperState) (events : List KeeperEvent) → IsOpened opening → (keeper_run shape p opening events).rests ≡ true → HasRestingWrites (keeper_run shape p opening events) []
rests_in_hand shape p opening events opened is =
    let its = run_rests shape p opening events opened is in
    record { none_asked = refl; living = its.living; commit = its.commit; in_hand = its.in_hand; rests = is }

follows : (shape : Shape) (p : Places) (opening : KeeperState) (before : List KeeperEvent) (event : KeeperEvent) → IsOpened opening → Sound shape p opening before → is_calling (keeper_run shape p opening before).step event ≡ true
    → Outcome before (keeper_run shape p opening before) event (kind_asked shape p opening (event ∷ before)) (call_told shape p opening (event ∷ before)) (keeper_run shape p opening (event ∷ before))
unfolding keeper_run call_told kind_asked
follows shape p opening before event opened sound calling =
    let s : KeeperState = keeper_run shape p opening before in
    let told : List Exchange = call_told shape p opening before in
    let asked : Option CommitKind = kind_asked shape p opening before in
    subst (λ (x : KeeperState). Outcome before s event (kind_after (is_in_hand s.step) event asked) (told_after shape p s event told) x) (happens_so shape p s event)
    (subst (λ (x : List Exchange). Outcome before s event (kind_after (is_in_hand s.step) event asked) x (happens_at shape p s s.step event)) (told_so shape p s event told)
    (event_at shape p before s s.step event asked told refl calling sound.works sound.knows (λ is. rests_in_hand shape p opening before opened is)))

during : (before : List KeeperEvent) (was : KeeperState) (event : KeeperEvent) (asked : Option CommitKind) (told : List Exchange) (s : KeeperState) (step : Keeping) → is_in_hand step ≡ true → Comes before was event asked told s step → During asked s step told
during before was event asked told s (Ended its) in_hand comes = absurd (let clash : true ≡ false = sym in_hand in cc)
during before was event asked told s step in_hand comes = comes

-- where no call is in hand, and none is begun, nothing happens
pub idle : (shape : Shape) (p : Places) (s : KeeperState) (step : Keeping) (event : KeeperEvent) → is_calling step event ≡ false → (happens_at shape p s step event ≡ s) × (is_in_hand step ≡ false)
unfolding keeping_next keeping_given keeping_called
idle shape p s (Ended its) BeginsTurn idles = absurd (let clash : false ≡ true = sym idles in cc)
idle shape p s (Ended its) (BeginsCommit kind) idles = absurd (let clash : false ≡ true = sym idles in cc)
idle shape p s (Ended its) (Replies reply granted) idles = (refl, refl)
idle shape p s (Ended its) (Gets action) idles = (refl, refl)
idle shape p s (Ended its) (Calls done bytes) idles = (refl, refl)
idle shape p s step event idles = absurd (let clash : false ≡ true = sym idles in cc)

still_sound : (shape : Shape) (p : Places) (opening : KeeperState) (before : List KeeperEvent) (event : KeeperEvent) → Sound shape p opening before → is_calling (keeper_run shape p opening before).step event ≡ false → Sound shape p opening (event ∷ before)
unfolding keeper_run
still_sound shape p opening before event sound idles =
    let s : KeeperState = keeper_run shape p opening before in
    let none = idle shape p s s.step event idles in
    let same : keeper_happens shape p s event ≡ s = sym (happens_so shape p s event) ∙ none.0 in
    record {
      works = λ is. (let had = sound.works (sym (ap (λ (x : KeeperState). x.is_broken) same) ∙ is) in (had.0, inr had.1));
      knows = λ in_hand. absurd (let clash : false ≡ true = sym none.1 ∙ (sym (ap (λ (x : KeeperState). is_in_hand x.step) same) ∙ in_hand) in cc);
    }

run_sound : (shape : Shape) (p : Places) (opening : KeeperState) (events : List KeeperEvent) → IsOpened opening → Sound shape p opening events
unfolding keeper_run
run_sound shape p opening [] opened = record {
  works = λ is. absurd (let clash : true ≡ false = sym is ∙ opened.works in cc);
  knows = λ is. absurd (let clash : true ≡ false = sym is ∙ opened.none_in_hand in cc);
}
run_sound shape p opening (event ∷ before) opened = by (is_calling (keeper_run shape p opening before).step event) refl (run_sound shape p opening before opened)
  where
    by : (b : Bool) → is_calling (keeper_run shape p opening before).step event ≡ b → Sound shape p opening before → Sound shape p opening (event ∷ before)
    by true calling sound =
        let its = follows shape p opening before event opened sound calling in
        record { works = its.broken; knows = λ in_hand. during before (keeper_run shape p opening before) event _ _ (keeper_run shape p opening (event ∷ before)) (keeper_run shape p opening (event ∷ before)).step in_hand its.comes }
    by false idles sound = still_sound shape p opening before event sound idles

-- ---- the clauses of the law
pub run_comes : (shape : Shape) (p : Places) (opening : KeeperState) (before : List KeeperEvent) (event : KeeperEvent) (step : Keeping) → IsOpened opening → is_calling (keeper_run shape p opening before).step event ≡ true
    → (keeper_run shape p opening (event ∷ before)).step ≡ step
    → Comes before (keeper_run shape p opening before) event (kind_asked shape p opening (event ∷ before)) (call_told shape p opening (event ∷ before)) (keeper_run shape p opening (event ∷ before)) step
run_comes shape p opening before event step opened calling e =
    let its = follows shape p opening before event opened (run_sound shape p opening before opened) calling in
    subst (λ (x : Keeping). Comes before (keeper_run shape p opening before) event (kind_asked shape p opening (event ∷ before)) (call_told shape p opening (event ∷ before)) (keeper_run shape p opening (event ∷ before)) x) e its.comes
