-- As the keeper seeks the points of a commit, the sessions whose owing words it has read as 0 leave the commit's version, whatever that is.
use Rattle.std.proofs.Common.{◌≡◌, ℕ, ◌+◌, ◌<◌, ◌≤◌, List, [], length, refl, arith, sym, subst, Bool, true, false}
use Rattle.std.specs.Prelude.{⊤, nat_lt, max, ◌==◌, if◌then◌else◌, Option, Some, None, ◌||◌, not}
use Rattle.std.proofs.lemmas.Bool.Decides.{nat_tests}
use Rattle.fkv_base.specs.declared.commits.CommitKind.{CommitKind}
use Rattle.fkv_base.specs.declared.faults.Fault.TheVariants as fault
use Rattle.fkv_base.specs.declared.numbers.Addr.{Addr}
use Rattle.fkv_base.specs.declared.phases.Phase.TheVariants as phase
use Rattle.fkv_base.specs.declared.shapes.Shape.{Shape}
use Rattle.fkv_words.specs.declared.phase_words.PhaseSaid.{PhaseSaid}
use Rattle.fkv_words.specs.declared.phase_words.PhaseSaid.TheVariants.{Says, Spoiled}
use Rattle.fkv_words.specs.PhaseWords.{phase_said}
use Rattle.fkv_plane.specs.declared.actions.Action.{Action}
use Rattle.fkv_plane.specs.declared.asks.Ask.{Ask}
use Rattle.fkv_plane.specs.declared.asks.Ask.TheVariants.{Done}
use Rattle.fkv_plane.specs.declared.places.Places.{Places}
use Rattle.law_refine.specs.Below.fkv_commit.Commit.{Commit}
use Rattle.law_refine.specs.Below.fkv_commit.DeferAnswer.{DeferAnswer}
use Rattle.law_refine.specs.Below.fkv_commit.DeferAnswer.TheVariants.{Armed, Held, Spent}
use Rattle.law_refine.specs.Below.fkv_commit.EnterAnswer.{EnterAnswer}
use Rattle.law_refine.specs.Below.fkv_commit.EnterAnswer.TheVariants as enter
use Rattle.law_refine.specs.Below.fkv_commit.FinishAnswer.{FinishAnswer}
use Rattle.law_refine.specs.Below.fkv_commit.SeekAnswer.{SeekAnswer}
use Rattle.law_refine.specs.Below.fkv_commit.SeekAnswer.TheVariants as sought
use Rattle.law_refine.specs.Below.fkv_commit.TheSeeking.{Seeking}
use Rattle.law_refine.specs.Below.fkv_commit.TheSeeking.TheVariants as seek
use Rattle.law_refine.specs.Below.fkv_commit.StartAnswer.{StartAnswer}
use Rattle.law_refine.specs.Below.fkv_commit.StartAnswer.TheVariants as started
use Rattle.law_refine.specs.Below.fkv_commit.WaitAnswer.{WaitAnswer}
use Rattle.law_refine.specs.Below.fkv_commit.WaitAnswer.TheVariants as wait
use Rattle.law_refine.specs.Below.fkv_commit.Cuts.{serial_said, is_cut_of}
use Rattle.law_refine.specs.Below.fkv_commit.Deferring.{defer_ask, defer_begun, defer_next}
use Rattle.law_refine.specs.Below.fkv_commit.Entering.{enter_ask, enter_begun, enter_next}
use Rattle.law_refine.specs.Below.fkv_commit.Finishing.{finish_ask, finish_next}
use Rattle.law_refine.specs.Below.fkv_commit.Seeking.{SeekState, defer_led, owing_from, point_taken, with_point, points_from, seek_ask, seek_begun, seek_next, seeking_next, slot_led}
use Rattle.law_refine.specs.Below.fkv_commit.Starting.{start_ask, start_begun, start_next}
use Rattle.law_refine.specs.Below.fkv_commit.Waiting.{wait_ask, wait_begun, wait_next}
use Rattle.law_refine.specs.Below.fkv_manifest.WriteAnswer.{WriteAnswer}
use Rattle.law_refine.specs.Below.fkv_manifest.WriteAnswer.TheVariants as write
use Rattle.law_refine.specs.Below.fkv_manifest.Committing.{commit_answer, commit_next}
use Rattle.law_refine.specs.Below.fkv_maintain.MaintainAnswer.{MaintainAnswer}
use Rattle.law_refine.specs.Below.fkv_maintain.MaintainAnswer.TheVariants as maintain
use Rattle.law_refine.specs.Below.fkv_maintain.Maintaining.{is_flush_resting, maintain_ask, maintain_called, maintain_given, maintain_next}
use Rattle.law_refine.specs.Below.fkv_keeper.KeeperTold.TheVariants.{CommitRefused, TurnRefused}
use Rattle.law_refine.specs.Below.fkv_keeper.TheKeeping.{Keeping}
use Rattle.law_refine.specs.Below.fkv_keeper.TheKeeping.TheVariants.{Ended, Starts, Maintains, LoadsPhase, Enters, Copies, Seeks, Waits, Writes, Finishes, Sweeps}
use Rattle.law_refine.specs.Below.fkv_keeper.KeeperRun.{is_in_hand}
use Rattle.law_refine.specs.Below.fkv_keeper.Keeping.{KeeperState, commit_asked, copies, copies_next, copy_driven, copy_ledto, ended, enter_ledto, finish_ledto, finished, keeping_called, keeping_given, keeping_next, maintain_ledto, part_begun, phase_ledto, seek_ledto, start_ledto, turn_asked, turned, wait_ledto, write_ledto, writes_begun, writes_called, copy_taken, is_copy_resting, copy_told, asked_for, must_rest, parts_begun, serves_alone, unless_flush_rests, writes_taken_up, sweeps_next}
use Rattle.law_refine.specs.Below.fkv_world.World.{keeper_asked}
use Rattle.law_commit.proofs.Sweeps.{sweep_begins, sweep_moves, sweep_reads}

module _ (N : ℕ → ℕ → Type 0) (count : ℕ) where
  -- each session leaves this version, or each below this one
  abbrev pub AllLeave : ℕ → Type 0
  AllLeave version = (session : ℕ) → session < count → N version session

  abbrev pub FirstLeave : ℕ → ℕ → Type 0
  FirstLeave version first = (session : ℕ) → session < first → N version session

  abbrev pub SeekLeaves : SeekState → Seeking → Type 0
  SeekLeaves s (seek.LoadsOwing session) = FirstLeave s.number.0 session
  SeekLeaves s seek.SeeksSlot = AllLeave s.number.0
  SeekLeaves s seek.LoadsCut = AllLeave s.number.0
  SeekLeaves s (seek.LoadsOther first) = AllLeave s.number.0
  SeekLeaves s seek.LoadsAgain = AllLeave s.number.0
  SeekLeaves s seek.StoresWaitFlush = AllLeave s.number.0
  SeekLeaves s step = ⊤

  abbrev pub KeepingLeaves : KeeperState → Keeping → Type 0
  KeepingLeaves s Seeks = SeekLeaves s.seek s.seek.step
  KeepingLeaves s step = ⊤

  record SeekKnows (s : SeekState) : Type 0 where
    sessions : s.sessions ≡ count
    step : SeekLeaves s s.step

  pub record KeeperKnows (s : KeeperState) : Type 0 where
    pub sessions : s.seek.sessions ≡ count
    pub step : KeepingLeaves s s.step

  -- ---- as it seeks
  either_seek : (c : Bool) (a b : SeekState) → (c ≡ true → SeekKnows a) → (c ≡ false → SeekKnows b) → SeekKnows (if c then a else b)
  either_seek true a b one other = one refl
  either_seek false a b one other = other refl

  last_met : (session sessions other : ℕ) → nat_lt session sessions ≡ false → sessions ≡ count → other < count → other < session
  last_met session sessions other met same below = let all : sessions ≤ session = grind (arith, nat_tests, met) in omega (arith, all, same, below)

  owing_knows : (s : SeekState) (session : ℕ) → s.sessions ≡ count → FirstLeave s.number.0 session → SeekKnows (owing_from s session)
  owing_knows s session sessions below =
      either_seek (nat_lt session s.sessions) (record s { step = seek.LoadsOwing session }) (record s { defer = defer_begun s.defer; step = seek.SeeksSlot }) (λ yes. record { sessions = sessions; step = below })
      (λ no. record { sessions = sessions; step = λ other inside. below other (last_met session s.sessions other no sessions inside) })

  one_more : (version session other : ℕ) → FirstLeave version session → N version session → other < session + 1 → N version other
  one_more version session other below its low = by_test (other == session) refl
    where
      by_test : (c : Bool) → (other == session) ≡ c → N version other
      by_test true same = let e : session ≡ other = grind (arith, nat_tests, same) in subst (N version) e its
      by_test false apart = below other (under (grind (arith, nat_tests, apart)))
        where
          under : (other ≡ session → ⊥) → other < session
          under not_so = omega (arith, not_so, low)

  points_knows : (s : SeekState) → s.sessions ≡ count → AllLeave s.number.0 → SeekKnows (points_from s)
  points_knows s sessions all = either_seek (nat_lt (length s.points) s.sessions) (record s { step = seek.LoadsCut }) (record s { step = seek.StoresWaitFlush }) (λ yes. record { sessions = sessions; step = all }) (λ no. record { sessions = sessions; step = all })

  taken_knows : (s : SeekState) (serial : ℕ) → s.sessions ≡ count → AllLeave s.number.0 → SeekKnows (point_taken s serial)
  taken_knows s serial sessions all = points_knows (with_point s serial) sessions all

  slot_knows : (s : SeekState) (ask : Ask DeferAnswer) → s.step ≡ seek.SeeksSlot → s.sessions ≡ count → AllLeave s.number.0 → SeekKnows (slot_led s ask)
  unfolding slot_led
  slot_knows s (Done Held) at sessions all = points_knows s sessions all
  slot_knows s (Done Spent) at sessions all = record { sessions = sessions; step = tt }
  slot_knows s (Done its) at sessions all = record { sessions = sessions; step = tt }
  slot_knows s ask at sessions all = record { sessions = sessions; step = subst (SeekLeaves s) (sym at) all }

  defer_knows : (end : Addr) (s : SeekState) (ask : Ask DeferAnswer) → s.step ≡ seek.Defers end → s.sessions ≡ count → SeekKnows (defer_led end s ask)
  unfolding defer_led
  defer_knows end s (Done (Armed epoch)) at sessions = record { sessions = sessions; step = tt }
  defer_knows end s (Done its) at sessions = record { sessions = sessions; step = tt }
  defer_knows end s ask at sessions = record { sessions = sessions; step = subst (SeekLeaves s) (sym at) tt }

  seek_knows : (s : SeekState) (step : Seeking) (reply : ℕ) → s.step ≡ step → s.sessions ≡ count → SeekLeaves s step → ((session : ℕ) → step ≡ seek.LoadsOwing session → reply ≡ 0 → N s.number.0 session)
      → SeekKnows (seeking_next s step reply)
  unfolding seeking_next
  seek_knows s (seek.Ended its) reply at sessions leaves owes = record { sessions = sessions; step = subst (SeekLeaves s) (sym at) tt }
  seek_knows s (seek.LoadsOwing session) reply at sessions leaves owes =
      either_seek (reply == 0) (owing_from s (session + 1)) (record s { step = seek.Ended sought.Owing })
      (λ zero. owing_knows s (session + 1) sessions (λ other low. one_more s.number.0 session other leaves (owes session refl (grind (arith, nat_tests, zero))) low)) (λ some. record { sessions = sessions; step = tt })
  seek_knows s seek.SeeksSlot reply at sessions leaves owes = slot_knows (record s { defer = defer_next s.defer reply }) (defer_ask (defer_next s.defer reply)) at sessions leaves
  seek_knows s seek.LoadsCut reply at sessions leaves owes =
      either_seek (is_cut_of s.number.0 reply) (point_taken s (serial_said reply)) (record s { step = seek.LoadsOther reply }) (λ yes. taken_knows s (serial_said reply) sessions leaves) (λ no. record { sessions = sessions; step = leaves })
  seek_knows s (seek.LoadsOther first) reply at sessions leaves owes =
      either_seek (not (is_cut_of (s.number.0 + 1) reply)) (point_taken s (max (serial_said first) (serial_said reply))) (record s { step = seek.LoadsAgain })
      (λ yes. taken_knows s (max (serial_said first) (serial_said reply)) sessions leaves) (λ no. record { sessions = sessions; step = leaves })
  seek_knows s seek.LoadsAgain reply at sessions leaves owes = taken_knows s (serial_said reply) sessions leaves
  seek_knows s seek.StoresWaitFlush reply at sessions leaves owes = record { sessions = sessions; step = tt }
  seek_knows s seek.LoadsTail reply at sessions leaves owes = record { sessions = sessions; step = tt }
  seek_knows s (seek.RaisesReadOnly end) reply at sessions leaves owes = record { sessions = sessions; step = tt }
  seek_knows s (seek.Defers end) reply at sessions leaves owes = defer_knows end (record s { defer = defer_next s.defer reply }) (defer_ask (defer_next s.defer reply)) at sessions

  -- ---- the keeper
  abbrev HasSessions : KeeperState → Type 0
  HasSessions s = s.seek.sessions ≡ count

  either_knows : (c : Bool) (a b : KeeperState) → KeeperKnows a → KeeperKnows b → KeeperKnows (if c then a else b)
  either_knows true a b one other = one
  either_knows false a b one other = other

  calm : (s : KeeperState) (step : Keeping) → s.step ≡ step → HasSessions s → KeepingLeaves s step → KeeperKnows s
  calm s step at sessions leaves = record { sessions = sessions; step = subst (KeepingLeaves s) (sym at) leaves }

  start_knows : (s : KeeperState) (ask : Ask StartAnswer) → s.step ≡ Starts → HasSessions s → KeeperKnows (start_ledto s ask)
  unfolding start_ledto
  start_knows s (Done (started.Begun number first)) at sessions = record { sessions = sessions; step = tt }
  start_knows s (Done (started.Refused why)) at sessions = record { sessions = sessions; step = tt }
  start_knows s (Done started.Idle) at sessions = record { sessions = sessions; step = tt }
  start_knows s ask at sessions = calm s Starts at sessions tt

  maintain_knows : (s : KeeperState) (ask : Ask MaintainAnswer) → s.step ≡ Maintains → HasSessions s → KeeperKnows (maintain_ledto s ask)
  unfolding maintain_ledto
  maintain_knows s (Done maintain.Through) at sessions = record { sessions = sessions; step = tt }
  maintain_knows s (Done maintain.Spent) at sessions = record { sessions = sessions; step = tt }
  maintain_knows s (Done maintain.Broken) at sessions = record { sessions = sessions; step = tt }
  maintain_knows s (Done maintain.Device) at sessions = calm s Maintains at sessions tt
  maintain_knows s ask at sessions = calm s Maintains at sessions tt

  copies_knows : (p : Places) (s : KeeperState) (granted : Bool) → HasSessions s → KeeperKnows (copies p s granted)
  copies_knows p s granted sessions =
      either_knows (granted || is_copy_resting s.copy) (record s { copy = copy_taken p s.copy; is_granted = true; step = Copies }) (ended (record s { is_granted = false }) (TurnRefused fault.Memory)) (record { sessions = sessions; step = tt }) (record { sessions = sessions; step = tt })

  copies_next_knows : (p : Places) (s : KeeperState) (c : Commit) (granted : Bool) (other : KeeperState) → HasSessions s → KeeperKnows other → KeeperKnows (copies_next p s c granted other)
  copies_next_knows p s c granted other sessions its = either_knows c.is_copied other (copies p s granted) its (copies_knows p s granted sessions)

  turned_knows : (s : KeeperState) → HasSessions s → KeeperKnows (turned s)
  turned_knows s sessions = record { sessions = sessions; step = tt }

  seek_begins : (s : KeeperState) (c : Commit) → HasSessions s → KeeperKnows (record s { seek = seek_begun s.seek c.number s.last.points; has_points = false; step = Seeks })
  seek_begins s c sessions =
      let its = owing_knows (record s.seek { number = c.number; floor = s.last.points; points = [] }) 0 sessions (λ session low. absurd (omega (arith, low))) in
      record { sessions = its.sessions; step = its.step }

  part_knows : (p : Places) (s : KeeperState) (c : Commit) (said : PhaseSaid) (granted : Bool) → HasSessions s → KeeperKnows (part_begun p s c said granted)
  part_knows p s c (Says phase.InProgress version) granted sessions =
      either_knows s.has_entered (copies_next p s c granted (turned s)) (record s { enter = enter_begun s.enter c.number; step = Enters }) (copies_next_knows p s c granted (turned s) sessions (turned_knows s sessions)) (record { sessions = sessions; step = tt })
  part_knows p s c (Says phase.WaitPending version) granted sessions = copies_next_knows p s c granted (record s { seek = seek_begun s.seek c.number s.last.points; has_points = false; step = Seeks }) sessions (seek_begins s c sessions)
  part_knows p s c (Says phase.WaitFlush version) granted sessions = either_knows s.has_points (record s { wait = wait_begun c.end c.epoch; step = Waits }) (turned s) (record { sessions = sessions; step = tt }) (turned_knows s sessions)
  part_knows p s c (Says phase.Rest version) granted sessions = turned_knows s sessions
  part_knows p s c (Says phase.Prepare version) granted sessions = turned_knows s sessions
  part_knows p s c Spoiled granted sessions = turned_knows s sessions

  -- where a flush rests the turn is over
  lets_know : (s : KeeperState) (granted : Bool) (its : KeeperState) → HasSessions s → KeeperKnows its → KeeperKnows (unless_flush_rests s granted its)
  lets_know s granted its sessions led = either_knows (is_flush_resting s.maintain) (turned (record s { is_granted = granted })) its (record { sessions = sessions; step = tt }) led

  phase_knows : (p : Places) (s : KeeperState) (found : Option Commit) (said : PhaseSaid) (granted : Bool) → HasSessions s → KeeperKnows (phase_ledto p s found said granted)
  unfolding phase_ledto
  phase_knows p s None said granted sessions = lets_know s granted (sweeps_next s granted) sessions (sweep_begins KeeperKnows s granted (record { sessions = sessions; step = tt }) (record { sessions = sessions; step = tt }))
  phase_knows p s (Some c) said granted sessions =
      either_knows s.rests (writes_taken_up s granted) (unless_flush_rests s granted (part_begun p s c said granted))
      (either_knows granted (record s { rests = false; is_granted = true; step = Writes }) (turned (record s { is_granted = false })) (record { sessions = sessions; step = tt }) (record { sessions = sessions; step = tt }))
      (lets_know s granted (part_begun p s c said granted) sessions (part_knows p s c said granted sessions))

  enter_knows : (s : KeeperState) (ask : Ask EnterAnswer) → s.step ≡ Enters → HasSessions s → KeeperKnows (enter_ledto s ask)
  unfolding enter_ledto
  enter_knows s (Done enter.Entered) at sessions = record { sessions = sessions; step = tt }
  enter_knows s (Done enter.DrainFull) at sessions = record { sessions = sessions; step = tt }
  enter_knows s (Done enter.EpochsSpent) at sessions = record { sessions = sessions; step = tt }
  enter_knows s (Done enter.Idle) at sessions = record { sessions = sessions; step = tt }
  enter_knows s ask at sessions = calm s Enters at sessions tt

  copied_knows : (s : KeeperState) (ask : Ask (Unit {0})) → s.step ≡ Copies → HasSessions s → KeeperKnows (copy_ledto s ask)
  unfolding copy_ledto
  copied_knows s (Done its) at sessions = record { sessions = sessions; step = tt }
  copied_knows s ask at sessions = calm s Copies at sessions tt

  sought_knows : (s : KeeperState) (ask : Ask SeekAnswer) → s.step ≡ Seeks → SeekKnows s.seek → KeeperKnows (seek_ledto s ask)
  unfolding seek_ledto
  sought_knows s (Done (sought.Taken end epoch)) at its = record { sessions = its.sessions; step = tt }
  sought_knows s (Done sought.DrainFull) at its = record { sessions = its.sessions; step = tt }
  sought_knows s (Done sought.EpochsSpent) at its = record { sessions = its.sessions; step = tt }
  sought_knows s (Done sought.Owing) at its = record { sessions = its.sessions; step = tt }
  sought_knows s (Done sought.Idle) at its = record { sessions = its.sessions; step = tt }
  sought_knows s ask at its = calm s Seeks at its.sessions its.step

  written_knows : (shape : Shape) (s : KeeperState) (found : Option Commit) → HasSessions s → KeeperKnows (writes_begun shape s found)
  written_knows shape s None sessions = turned_knows s sessions
  written_knows shape s (Some c) sessions = record { sessions = sessions; step = tt }

  waited_knows : (shape : Shape) (s : KeeperState) (ask : Ask WaitAnswer) → s.step ≡ Waits → HasSessions s → KeeperKnows (wait_ledto shape s ask)
  unfolding wait_ledto
  waited_knows shape s (Done wait.Flushed) at sessions = written_knows shape s s.commit sessions
  waited_knows shape s (Done wait.NotYet) at sessions = turned_knows s sessions
  waited_knows shape s (Done wait.Idle) at sessions = turned_knows s sessions
  waited_knows shape s ask at sessions = calm s Waits at sessions tt

  finished_knows : (s : KeeperState) (found : Option Commit) → HasSessions s → KeeperKnows (finished s found)
  finished_knows s None sessions = turned_knows s sessions
  finished_knows s (Some c) sessions = record { sessions = sessions; step = tt }

  finish_knows : (s : KeeperState) (ask : Ask FinishAnswer) → s.step ≡ Finishes → HasSessions s → KeeperKnows (finish_ledto s ask)
  unfolding finish_ledto
  finish_knows s (Done told) at sessions = finished_knows s s.commit sessions
  finish_knows s ask at sessions = calm s Finishes at sessions tt

  -- ---- a reply
  pub replied_knows : (shape : Shape) (p : Places) (s : KeeperState) (step : Keeping) (reply : ℕ) (granted : Bool) → s.step ≡ step → HasSessions s → KeepingLeaves s step
      → ((session : ℕ) → step ≡ Seeks → s.seek.step ≡ seek.LoadsOwing session → reply ≡ 0 → N s.seek.number.0 session) → KeeperKnows (keeping_next shape p s step reply granted)
  unfolding keeping_next
  replied_knows shape p s (Ended told) reply granted at sessions leaves owes = calm s (Ended told) at sessions tt
  replied_knows shape p s Starts reply granted at sessions leaves owes = start_knows (record s { start = start_next s.start reply }) (start_ask (start_next s.start reply)) at sessions
  replied_knows shape p s Maintains reply granted at sessions leaves owes = maintain_knows (record s { maintain = maintain_next shape p s.maintain reply }) (maintain_ask shape p (maintain_next shape p s.maintain reply)) at sessions
  replied_knows shape p s LoadsPhase reply granted at sessions leaves owes = phase_knows p s s.commit (phase_said reply) granted sessions
  replied_knows shape p s Enters reply granted at sessions leaves owes = enter_knows (record s { enter = enter_next s.enter reply }) (enter_ask (enter_next s.enter reply)) at sessions
  replied_knows shape p s Copies reply granted at sessions leaves owes = copied_knows (record s { copy = copy_driven s.copy reply }) (copy_told (copy_driven s.copy reply)) at sessions
  replied_knows shape p s Seeks reply granted at sessions leaves owes =
      sought_knows (record s { seek = seek_next s.seek reply }) (seek_ask (seek_next s.seek reply)) at (seek_knows s.seek s.seek.step reply refl sessions leaves (λ session loads zero. owes session refl loads zero))
  replied_knows shape p s Waits reply granted at sessions leaves owes = waited_knows shape (record s { wait = wait_next s.wait reply }) (wait_ask (wait_next s.wait reply)) at sessions
  replied_knows shape p s Writes reply granted at sessions leaves owes = calm s Writes at sessions tt
  replied_knows shape p s Finishes reply granted at sessions leaves owes = finish_knows (record s { finish = finish_next s.finish reply }) (finish_ask s.seek.points (finish_next s.finish reply)) at sessions
  replied_knows shape p s Sweeps reply granted at sessions leaves owes = sweep_moves KeeperKnows s reply (λ w. calm (record s { sweep = w }) Sweeps at sessions tt) (λ w. record { sessions = sessions; step = tt })

  -- an action is taken, and the device is called
  pub given_knows : (shape : Shape) (p : Places) (s : KeeperState) (step : Keeping) (action : Action) → s.step ≡ step → KeeperKnows s → KeeperKnows (keeping_given shape p s step action)
  unfolding keeping_given
  given_knows shape p s Maintains action at its = maintain_knows (record s { maintain = maintain_given s.maintain action }) (maintain_ask shape p (maintain_given s.maintain action)) at its.sessions
  given_knows shape p s step action at its = its

  write_knows : (s : KeeperState) (found : Option Commit) (answer : WriteAnswer) → s.step ≡ Writes → HasSessions s → KeeperKnows (write_ledto s found answer)
  unfolding write_ledto
  write_knows s None answer at sessions = turned_knows s sessions
  write_knows s (Some c) write.Written at sessions = record { sessions = sessions; step = tt }
  write_knows s (Some c) write.Device at sessions = either_knows (must_rest s) (turned (record s { rests = true })) s (record { sessions = sessions; step = tt }) (calm s Writes at sessions tt)
  write_knows s (Some c) (write.Broken why) at sessions = calm s Writes at sessions tt

  writes_know : (s : KeeperState) (done : Bool) → s.step ≡ Writes → HasSessions s → KeeperKnows (writes_called s done)
  writes_know s true at sessions = write_knows (record s { writes = commit_next s.writes true }) s.commit (commit_answer (commit_next s.writes true)) at sessions
  writes_know s false at sessions = record { sessions = sessions; step = tt }

  pub called_knows : (shape : Shape) (p : Places) (s : KeeperState) (step : Keeping) (done : Bool) (bytes : List ℕ) → s.step ≡ step → KeeperKnows s → KeeperKnows (keeping_called shape p s step done bytes)
  unfolding keeping_called
  called_knows shape p s Maintains done bytes at its = maintain_knows (record s { maintain = maintain_called shape p s.maintain done bytes }) (maintain_ask shape p (maintain_called shape p s.maintain done bytes)) at its.sessions
  called_knows shape p s Writes done bytes at its = writes_know s done at its.sessions
  called_knows shape p s Sweeps done bytes at its =
      sweep_reads KeeperKnows s done bytes (λ w. calm (record s { sweep = w }) Sweeps at its.sessions tt) (λ w. record { sessions = its.sessions; step = tt }) (λ w. record { sessions = its.sessions; step = tt })
  called_knows shape p s step done bytes at its = its

  -- what is begun where no call is in hand
  pub turn_knows : (s : KeeperState) → HasSessions s → KeeperKnows (turn_asked s)
  turn_knows s sessions =
      either_knows s.is_broken (ended s (TurnRefused fault.Broken)) (record s { maintain = parts_begun (serves_alone s) s.maintain; is_drain_full = false; step = Maintains }) (record { sessions = sessions; step = tt }) (record { sessions = sessions; step = tt })

  pub commit_knows : (s : KeeperState) (kind : CommitKind) → HasSessions s → KeeperKnows (commit_asked s kind)
  commit_knows s kind sessions =
      either_knows s.is_broken (ended s (CommitRefused fault.Broken)) (if s.rests then ended s (CommitRefused fault.CommitRunning) else record s { start = start_begun s.start (asked_for s kind); step = Starts }) (record { sessions = sessions; step = tt })
      (either_knows s.rests (ended s (CommitRefused fault.CommitRunning)) (record s { start = start_begun s.start (asked_for s kind); step = Starts }) (record { sessions = sessions; step = tt }) (record { sessions = sessions; step = tt }))

  pub asked_knows : (s begun : KeeperState) → KeeperKnows s → KeeperKnows begun → KeeperKnows (keeper_asked s begun)
  asked_knows s begun its next = by_hand (is_in_hand s.step)
    where
      by_hand : (b : Bool) → KeeperKnows (if b then s else begun)
      by_hand true = its
      by_hand false = next

  -- as a life begins
  pub opened_knows : (s : KeeperState) (step : Keeping) → s.step ≡ step → is_in_hand step ≡ false → HasSessions s → KeeperKnows s
  opened_knows s (Ended told) at idle sessions = calm s (Ended told) at sessions tt
  opened_knows s step at idle sessions = cc
