-- What the keeper knows of the points that it takes, whatever a point is, and whatever is known of words that it has met.
use Rattle.std.proofs.Common.{◌≡◌, ℕ, zero, suc, ◌+◌, ◌<◌, ◌≤◌, ◌∙◌, List, [], ◌∷◌, ◌++◌, length, refl, arith, sym, ap, subst, Bool, true, false}
use Rattle.std.specs.Prelude.{⊤, nat_lt, max, ◌==◌, if◌then◌else◌, Option, Some, None, slice_get, ◌||◌, not}
use Rattle.std.proofs.lemmas.Bool.Decides.{nat_tests}
use Rattle.fkv_base.specs.declared.commits.CommitKind.{CommitKind}
use Rattle.fkv_base.specs.declared.faults.Fault.TheVariants as fault
use Rattle.fkv_base.specs.declared.numbers.Addr.{Addr}
use Rattle.fkv_base.specs.declared.numbers.Serial.{Serial}
use Rattle.fkv_base.specs.declared.numbers.Version.{Version}
use Rattle.fkv_base.specs.declared.phases.Phase.TheVariants as phase
use Rattle.fkv_base.specs.declared.shapes.Shape.{Shape}
use Rattle.fkv_words.specs.declared.phase_words.PhaseSaid.{PhaseSaid}
use Rattle.fkv_words.specs.declared.phase_words.PhaseSaid.TheVariants.{Says, Spoiled}
use Rattle.fkv_words.specs.PhaseWords.{phase_said}
use Rattle.fkv_marks.specs.Marks.{mark}
use Rattle.fkv_plane.specs.declared.actions.Action.{Action}
use Rattle.fkv_plane.specs.declared.asks.Ask.{Ask}
use Rattle.fkv_plane.specs.declared.asks.Ask.TheVariants.{Load, Store, Swap, Cas, Add, Max, Put, Take, Done}
use Rattle.fkv_plane.specs.declared.places.Places.{Places}
use Rattle.fkv_plane.specs.Passing.{passed}
use Rattle.law_refine.specs.Below.fkv_commit.Commit.{Commit}
use Rattle.law_refine.specs.Below.fkv_commit.DeferAnswer.{DeferAnswer}
use Rattle.law_refine.specs.Below.fkv_commit.DeferAnswer.TheVariants.{Armed, Held, Spent}
use Rattle.law_refine.specs.Below.fkv_commit.EnterAnswer.{EnterAnswer}
use Rattle.law_refine.specs.Below.fkv_commit.EnterAnswer.TheVariants as enter
use Rattle.law_refine.specs.Below.fkv_commit.FinishAnswer.{FinishAnswer}
use Rattle.law_refine.specs.Below.fkv_commit.SeekAnswer.{SeekAnswer}
use Rattle.law_refine.specs.Below.fkv_commit.SeekAnswer.TheVariants as sought
use Rattle.law_refine.specs.Below.fkv_commit.TheSeeking.{Seeking}
use Rattle.law_refine.specs.Below.fkv_commit.TheSeeking.TheVariants as seek
use Rattle.law_refine.specs.Below.fkv_commit.StartAnswer.{StartAnswer}
use Rattle.law_refine.specs.Below.fkv_commit.StartAnswer.TheVariants as started
use Rattle.law_refine.specs.Below.fkv_commit.WaitAnswer.{WaitAnswer}
use Rattle.law_refine.specs.Below.fkv_commit.WaitAnswer.TheVariants as wait
use Rattle.law_refine.specs.Below.fkv_commit.Cuts.{serial_said, version_said, is_cut_of}
use Rattle.law_refine.specs.Below.fkv_commit.Deferring.{defer_ask, defer_begun, defer_next}
use Rattle.law_refine.specs.Below.fkv_commit.Entering.{enter_ask, enter_begun, enter_next}
use Rattle.law_refine.specs.Below.fkv_commit.Finishing.{finish_ask, finish_next}
use Rattle.law_refine.specs.Below.fkv_commit.Seeking.{SeekState, defer_led, owing_from, point_taken, with_point, points_from, seek_ask, seek_begun, seek_next, seeking_ask, seeking_next, slot_led, floor_of}
use Rattle.law_refine.specs.Below.fkv_commit.Starting.{start_ask, start_begun, start_next}
use Rattle.law_refine.specs.Below.fkv_commit.Waiting.{wait_ask, wait_begun, wait_next}
use Rattle.law_refine.specs.Below.fkv_manifest.WriteAnswer.{WriteAnswer}
use Rattle.law_refine.specs.Below.fkv_manifest.WriteAnswer.TheVariants as write
use Rattle.law_refine.specs.Below.fkv_manifest.Committing.{commit_answer, commit_next}
use Rattle.law_refine.specs.Below.fkv_maintain.MaintainAnswer.{MaintainAnswer}
use Rattle.law_refine.specs.Below.fkv_maintain.MaintainAnswer.TheVariants as maintain
use Rattle.law_refine.specs.Below.fkv_maintain.Maintaining.{is_flush_resting, maintain_ask, maintain_called, maintain_given, maintain_next}
use Rattle.law_refine.specs.Below.fkv_keeper.KeeperTold.TheVariants.{CommitRefused, TurnRefused}
use Rattle.law_refine.specs.Below.fkv_keeper.TheKeeping.{Keeping}
use Rattle.law_refine.specs.Below.fkv_keeper.TheKeeping.TheVariants.{Ended, Starts, Maintains, LoadsPhase, Enters, Copies, Seeks, Waits, Writes, Finishes, Sweeps}
use Rattle.law_refine.specs.Below.fkv_keeper.KeeperRun.{is_in_hand}
use Rattle.law_refine.specs.Below.fkv_keeper.Keeping.{Finality, KeeperState, commit_asked, copied, copies, copies_next, copy_driven, copy_ledto, ended, enter_ledto, finish_ledto, finished, keeping_called, keeping_given, keeping_next, maintain_ledto, must_rest, part_begun, parts_begun, phase_ledto, points_known, seek_ledto, serves_alone, start_ledto, turn_asked, turned, unless_flush_rests, wait_ledto, write_ledto, writes_begun, writes_called, writes_taken_up, copy_taken, is_copy_resting, copy_told, asked_for, sweeps_next}
use Rattle.law_refine.specs.Below.fkv_world.World.{keeper_asked}
use Rattle.law_commit.proofs.InTurn.{some_commit}
use Rattle.law_commit.proofs.Sweeps.{sweep_begins, sweep_moves, sweep_reads}

-- ---- a machine inside is at its end
pub passed_end : {A B : Type 0} (ask : Ask A) (end told : B) → passed ask end ≡ Done told → end ≡ told
unfolding passed
passed_end (Done its) end told is = cc
passed_end (Load at) end told is = cc
passed_end (Store at word) end told is = cc
passed_end (Swap at word) end told is = cc
passed_end (Cas at old new) end told is = cc
passed_end (Add at n) end told is = cc
passed_end (Max at n) end told is = cc
passed_end (Put slot action) end told is = cc
passed_end (Take slot) end told is = cc

-- ---- a list that gets one more
some_serial : (x y : Serial) → Some x ≡ Some y → x ≡ y
some_serial x y same = cc

appended : (Q : ℕ → Serial → Type 0) (points : List Serial) (it : Serial) → ((i : ℕ) (x : Serial) → slice_get points i ≡ Some x → Q i x) → Q (length points) it → (i : ℕ) (x : Serial) → slice_get (points ++ it ∷ []) i ≡ Some x → Q i x
appended Q [] it each new zero x got = subst (Q zero) (some_serial it x got) new
appended Q [] it each new (suc i) x got = cc
appended Q (y ∷ rest) it each new zero x got = each zero x got
appended Q (y ∷ rest) it each new (suc i) x got = appended (λ (n : ℕ) (z : Serial). Q (suc n) z) rest it (λ n z there. each (suc n) z there) new i x got

each_floor : (Q : ℕ → ℕ → Type 0) (points : List Serial) → ((i : ℕ) (x : Serial) → slice_get points i ≡ Some x → Q i x.0) → (i : ℕ) → i < length points → Q i (floor_of points i)
each_floor Q [] each i low = absurd (omega (arith, low))
each_floor Q (x ∷ rest) each zero low = each zero x refl
each_floor Q (x ∷ rest) each (suc i) low = each_floor (λ (n point : ℕ). Q (suc n) point) rest (λ n z there. each (suc n) z there) i (omega (arith, low))

one_longer : (points : List Serial) (it : Serial) → length (points ++ it ∷ []) ≡ length points + 1
one_longer [] it = refl
one_longer (y ∷ rest) it = let more = one_longer rest it in omega (arith, more)

-- `F version session word`: the word was met as the session's first; `A version session`: its first word says the point by now; `P version session serial`: the
-- serial is its point.
module _ (count : ℕ) (F : ℕ → ℕ → ℕ → Type 0) (A : ℕ → ℕ → Type 0) (P : ℕ → ℕ → ℕ → Type 0) where
  abbrev pub AreTaken : ℕ → List Serial → Type 0
  AreTaken version points = (session : ℕ) (it : Serial) → slice_get points session ≡ Some it → P version session it.0

  all_floors : (version : ℕ) (points : List Serial) → AreTaken version points → length points ≡ count → (session : ℕ) → session < count → P version session (floor_of points session)
  all_floors version points taken all session low = each_floor (λ (n point : ℕ). P version n point) points taken session (omega (arith, all, low))

  -- while it seeks
  abbrev pub StepTakes : SeekState → Seeking → Type 0
  StepTakes s seek.LoadsCut = length s.points < count
  StepTakes s (seek.LoadsOther first) = (length s.points < count) × F s.number.0 (length s.points) first
  StepTakes s seek.LoadsAgain = (length s.points < count) × A s.number.0 (length s.points)
  StepTakes s seek.StoresWaitFlush = length s.points ≡ count
  StepTakes s seek.LoadsTail = length s.points ≡ count
  StepTakes s (seek.RaisesReadOnly end) = length s.points ≡ count
  StepTakes s (seek.Defers end) = length s.points ≡ count
  StepTakes s (seek.Ended (sought.Taken end epoch)) = length s.points ≡ count
  StepTakes s (seek.LoadsOwing session) = s.points ≡ []
  StepTakes s seek.SeeksSlot = s.points ≡ []
  StepTakes s step = ⊤

  pub record SeekTakes (s : SeekState) : Type 0 where
    pub sessions : s.sessions ≡ count
    pub taken : AreTaken s.number.0 s.points
    pub step : StepTakes s s.step

  -- all are taken for a commit of this number
  pub record HasAll (s : SeekState) (c : Commit) : Type 0 where
    pub number : s.number ≡ c.number
    pub taken : AreTaken s.number.0 s.points
    pub all : length s.points ≡ count

  abbrev HandTakes : SeekState → Option Commit → Bool → Type 0
  HandTakes s commit has_points = (c : Commit) → commit ≡ Some c → has_points ≡ true → HasAll s c

  -- what the keeper is at
  pub record IsSought (s : SeekState) (last : Finality) (commit : Option Commit) (has_points : Bool) : Type 0 where
    pub its : SeekTakes s
    pub floor : s.floor ≡ last.points
    pub number : (c : Commit) → commit ≡ Some c → s.number ≡ c.number
    pub none : has_points ≡ false

  abbrev pub KeepingTakes : KeeperState → Keeping → Type 0
  KeepingTakes s Seeks = IsSought s.seek s.last s.commit s.has_points
  KeepingTakes s Waits = s.has_points ≡ true
  KeepingTakes s Writes = s.has_points ≡ true
  KeepingTakes s Finishes = s.has_points ≡ true
  KeepingTakes s step = ⊤

  -- the points of the newest finished commit were taken too, all of them
  abbrev pub LastTaken : Finality → Type 0
  LastTaken last = (session : ℕ) → session < count → P last.number.0 session (floor_of last.points session)

  pub record KeeperTakes (s : KeeperState) : Type 0 where
    pub sessions : s.seek.sessions ≡ count
    pub last : LastTaken s.last
    pub hand : HandTakes s.seek s.commit s.has_points
    pub rests : s.rests ≡ true → s.has_points ≡ true
    pub step : KeepingTakes s s.step

  -- ---- as it seeks
  either_seek : (c : Bool) (a b : SeekState) → (c ≡ true → SeekTakes a) → (c ≡ false → SeekTakes b) → SeekTakes (if c then a else b)
  either_seek true a b one other = one refl
  either_seek false a b one other = other refl

  none_taken : (version : ℕ) (points : List Serial) → points ≡ [] → AreTaken version points
  none_taken version [] none session it got = cc
  none_taken version (x ∷ rest) none session it got = cc

  owing_takes : (s : SeekState) (session : ℕ) → s.sessions ≡ count → s.points ≡ [] → SeekTakes (owing_from s session)
  owing_takes s session sessions none =
      either_seek (nat_lt session s.sessions) (record s { step = seek.LoadsOwing session }) (record s { defer = defer_begun s.defer; step = seek.SeeksSlot })
      (λ yes. record { sessions = sessions; taken = none_taken s.number.0 s.points none; step = none }) (λ no. record { sessions = sessions; taken = none_taken s.number.0 s.points none; step = none })

  under : (n sessions : ℕ) → sessions ≡ count → nat_lt n sessions ≡ true → n < count
  under n sessions same less = let low : n < sessions = grind (arith, nat_tests, less) in omega (arith, low, same)

  full : (n sessions : ℕ) → sessions ≡ count → n ≤ count → nat_lt n sessions ≡ false → n ≡ count
  full n sessions same few not_less = let high : sessions ≤ n = grind (arith, nat_tests, not_less) in omega (arith, high, same, few)

  points_take : (s : SeekState) → s.sessions ≡ count → AreTaken s.number.0 s.points → length s.points ≤ count → SeekTakes (points_from s)
  points_take s sessions taken few =
      either_seek (nat_lt (length s.points) s.sessions) (record s { step = seek.LoadsCut }) (record s { step = seek.StoresWaitFlush })
      (λ yes. record { sessions = sessions; taken = taken; step = under (length s.points) s.sessions sessions yes }) (λ no. record { sessions = sessions; taken = taken; step = full (length s.points) s.sessions sessions few no })

  -- the serial that the words say makes the next session's point, with its floor
  abbrev pub Makes : SeekState → ℕ → Type 0
  Makes s serial = P s.number.0 (length s.points) (max (floor_of s.floor (length s.points)) serial)

  point_takes : (s : SeekState) (serial : ℕ) → s.sessions ≡ count → AreTaken s.number.0 s.points → length s.points < count → Makes s serial → SeekTakes (point_taken s serial)
  point_takes s serial sessions taken few its =
      let it : Serial = record { 0 = max (floor_of s.floor (length s.points)) serial } in
      let more = one_longer s.points it in
      points_take (with_point s serial) sessions (appended (λ (session : ℕ) (x : Serial). P s.number.0 session x.0) s.points it taken its) (omega (arith, more, few))

  slot_takes : (s : SeekState) (ask : Ask DeferAnswer) → s.step ≡ seek.SeeksSlot → s.sessions ≡ count → s.points ≡ [] → SeekTakes (slot_led s ask)
  unfolding slot_led
  slot_takes s (Done Held) at sessions none = points_take s sessions (none_taken s.number.0 s.points none) (let empty = ap length none in omega (arith, empty))
  slot_takes s (Done Spent) at sessions none = record { sessions = sessions; taken = none_taken s.number.0 s.points none; step = tt }
  slot_takes s (Done its) at sessions none = record { sessions = sessions; taken = none_taken s.number.0 s.points none; step = tt }
  slot_takes s ask at sessions none = record { sessions = sessions; taken = none_taken s.number.0 s.points none; step = subst (StepTakes s) (sym at) none }

  defer_takes : (end : Addr) (s : SeekState) (ask : Ask DeferAnswer) → s.step ≡ seek.Defers end → s.sessions ≡ count → AreTaken s.number.0 s.points → length s.points ≡ count → SeekTakes (defer_led end s ask)
  unfolding defer_led
  defer_takes end s (Done (Armed epoch)) at sessions taken all = record { sessions = sessions; taken = taken; step = all }
  defer_takes end s (Done its) at sessions taken all = record { sessions = sessions; taken = taken; step = tt }
  defer_takes end s ask at sessions taken all = record { sessions = sessions; taken = taken; step = subst (StepTakes s) (sym at) all }

  -- what a reply tells, by what was known
  abbrev pub SeekReply : SeekState → Seeking → ℕ → Type 0
  SeekReply s seek.LoadsCut reply = (version_said reply ≡ mark s.number.0 → Makes s (serial_said reply)) × ((version_said reply ≡ mark s.number.0 → ⊥) → F s.number.0 (length s.points) reply)
  SeekReply s (seek.LoadsOther first) reply = ((version_said reply ≡ mark (s.number.0 + 1) → ⊥) → Makes s (max (serial_said first) (serial_said reply))) × (version_said reply ≡ mark (s.number.0 + 1) → A s.number.0 (length s.points))
  SeekReply s seek.LoadsAgain reply = Makes s (serial_said reply)
  SeekReply s step reply = ⊤

  seek_takes : (s : SeekState) (step : Seeking) (reply : ℕ) → s.step ≡ step → s.sessions ≡ count → AreTaken s.number.0 s.points → StepTakes s step → SeekReply s step reply → SeekTakes (seeking_next s step reply)
  unfolding seeking_next
  seek_takes s (seek.Ended its) reply at sessions taken knows tells = record { sessions = sessions; taken = taken; step = subst (StepTakes s) (sym at) knows }
  seek_takes s (seek.LoadsOwing session) reply at sessions taken knows tells =
      either_seek (reply == 0) (owing_from s (session + 1)) (record s { step = seek.Ended sought.Owing }) (λ zero. owing_takes s (session + 1) sessions knows) (λ some. record { sessions = sessions; taken = taken; step = tt })
  seek_takes s seek.SeeksSlot reply at sessions taken knows tells = slot_takes (record s { defer = defer_next s.defer reply }) (defer_ask (defer_next s.defer reply)) at sessions knows
  seek_takes s seek.LoadsCut reply at sessions taken knows tells =
      either_seek (is_cut_of s.number.0 reply) (point_taken s (serial_said reply)) (record s { step = seek.LoadsOther reply })
      (λ yes. point_takes s (serial_said reply) sessions taken knows (tells.0 (grind (arith, nat_tests, yes))))
      (λ no. record { sessions = sessions; taken = taken; step = (knows, tells.1 (grind (arith, nat_tests, no))) })
  seek_takes s (seek.LoadsOther first) reply at sessions taken knows tells =
      either_seek (not (is_cut_of (s.number.0 + 1) reply)) (point_taken s (max (serial_said first) (serial_said reply))) (record s { step = seek.LoadsAgain })
      (λ yes. point_takes s (max (serial_said first) (serial_said reply)) sessions taken knows.0 (tells.0 (grind (arith, nat_tests, yes))))
      (λ no. record { sessions = sessions; taken = taken; step = (knows.0, tells.1 (grind (arith, nat_tests, no))) })
  seek_takes s seek.LoadsAgain reply at sessions taken knows tells = point_takes s (serial_said reply) sessions taken knows.0 tells
  seek_takes s seek.StoresWaitFlush reply at sessions taken knows tells = record { sessions = sessions; taken = taken; step = knows }
  seek_takes s seek.LoadsTail reply at sessions taken knows tells = record { sessions = sessions; taken = taken; step = knows }
  seek_takes s (seek.RaisesReadOnly end) reply at sessions taken knows tells = record { sessions = sessions; taken = taken; step = knows }
  seek_takes s (seek.Defers end) reply at sessions taken knows tells = defer_takes end (record s { defer = defer_next s.defer reply }) (defer_ask (defer_next s.defer reply)) at sessions taken knows

  -- its number and its floors stay
  abbrev Keeps : SeekState → SeekState → Type 0
  Keeps was s = (s.number ≡ was.number) × (s.floor ≡ was.floor)

  either_keeps : (c : Bool) (was a b : SeekState) → Keeps was a → Keeps was b → Keeps was (if c then a else b)
  either_keeps true was a b one other = one
  either_keeps false was a b one other = other

  owing_keeps : (s : SeekState) (session : ℕ) → Keeps s (owing_from s session)
  owing_keeps s session = either_keeps (nat_lt session s.sessions) s (record s { step = seek.LoadsOwing session }) (record s { defer = defer_begun s.defer; step = seek.SeeksSlot }) (refl, refl) (refl, refl)

  points_keeps : (s : SeekState) → Keeps s (points_from s)
  points_keeps s = either_keeps (nat_lt (length s.points) s.sessions) s (record s { step = seek.LoadsCut }) (record s { step = seek.StoresWaitFlush }) (refl, refl) (refl, refl)

  taken_keeps : (s : SeekState) (serial : ℕ) → Keeps s (point_taken s serial)
  taken_keeps s serial = points_keeps (with_point s serial)

  slot_keeps : (s : SeekState) (ask : Ask DeferAnswer) → Keeps s (slot_led s ask)
  unfolding slot_led
  slot_keeps s (Done Held) = points_keeps s
  slot_keeps s (Done Spent) = (refl, refl)
  slot_keeps s (Done its) = (refl, refl)
  slot_keeps s ask = (refl, refl)

  defer_keeps : (end : Addr) (s : SeekState) (ask : Ask DeferAnswer) → Keeps s (defer_led end s ask)
  unfolding defer_led
  defer_keeps end s (Done (Armed epoch)) = (refl, refl)
  defer_keeps end s (Done its) = (refl, refl)
  defer_keeps end s ask = (refl, refl)

  seek_keeps : (s : SeekState) (step : Seeking) (reply : ℕ) → Keeps s (seeking_next s step reply)
  unfolding seeking_next
  seek_keeps s (seek.Ended its) reply = (refl, refl)
  seek_keeps s (seek.LoadsOwing session) reply = either_keeps (reply == 0) s (owing_from s (session + 1)) (record s { step = seek.Ended sought.Owing }) (owing_keeps s (session + 1)) (refl, refl)
  seek_keeps s seek.SeeksSlot reply = slot_keeps (record s { defer = defer_next s.defer reply }) (defer_ask (defer_next s.defer reply))
  seek_keeps s seek.LoadsCut reply = either_keeps (is_cut_of s.number.0 reply) s (point_taken s (serial_said reply)) (record s { step = seek.LoadsOther reply }) (taken_keeps s (serial_said reply)) (refl, refl)
  seek_keeps s (seek.LoadsOther first) reply =
      either_keeps (not (is_cut_of (s.number.0 + 1) reply)) s (point_taken s (max (serial_said first) (serial_said reply))) (record s { step = seek.LoadsAgain }) (taken_keeps s (max (serial_said first) (serial_said reply))) (refl, refl)
  seek_keeps s seek.LoadsAgain reply = taken_keeps s (serial_said reply)
  seek_keeps s seek.StoresWaitFlush reply = (refl, refl)
  seek_keeps s seek.LoadsTail reply = (refl, refl)
  seek_keeps s (seek.RaisesReadOnly end) reply = (refl, refl)
  seek_keeps s (seek.Defers end) reply = defer_keeps end (record s { defer = defer_next s.defer reply }) (defer_ask (defer_next s.defer reply))

  -- ---- the keeper
  either_takes : (c : Bool) (a b : KeeperState) → (c ≡ true → KeeperTakes a) → (c ≡ false → KeeperTakes b) → KeeperTakes (if c then a else b)
  either_takes true a b one other = one refl
  either_takes false a b one other = other refl

  -- what it has of its points, whatever it is at
  pub record Has (s : KeeperState) : Type 0 where
    pub sessions : s.seek.sessions ≡ count
    pub last : LastTaken s.last
    pub hand : HandTakes s.seek s.commit s.has_points
    pub rests : s.rests ≡ true → s.has_points ≡ true

  has_of : (s : KeeperState) → KeeperTakes s → Has s
  has_of s its = record { sessions = its.sessions; last = its.last; hand = its.hand; rests = its.rests }

  stays : (s : KeeperState) (step : Keeping) → s.step ≡ step → Has s → KeepingTakes s step → KeeperTakes s
  stays s step at has its = record { sessions = has.sessions; last = has.last; hand = has.hand; rests = has.rests; step = subst (KeepingTakes s) (sym at) its }

  none_has : (s : SeekState) (commit : Option Commit) (has_points : Bool) → has_points ≡ false → HandTakes s commit has_points
  none_has s commit has_points none = λ c is yes. let clash : false ≡ true = sym none ∙ yes in cc

  none_hand : (s : SeekState) (has_points : Bool) → HandTakes s None has_points
  none_hand s has_points = λ c is yes. cc

  start_takes : (s : KeeperState) (ask : Ask StartAnswer) → s.step ≡ Starts → Has s → KeeperTakes (start_ledto s ask)
  unfolding start_ledto
  start_takes s (Done (started.Begun number first)) at has = record { sessions = has.sessions; last = has.last; hand = λ c is yes. cc; rests = λ e. cc; step = tt }
  start_takes s (Done (started.Refused why)) at has = record { sessions = has.sessions; last = has.last; hand = has.hand; rests = has.rests; step = tt }
  start_takes s (Done started.Idle) at has = record { sessions = has.sessions; last = has.last; hand = has.hand; rests = has.rests; step = tt }
  start_takes s ask at has = stays s Starts at has tt

  maintain_takes : (s : KeeperState) (ask : Ask MaintainAnswer) → s.step ≡ Maintains → Has s → KeeperTakes (maintain_ledto s ask)
  unfolding maintain_ledto
  maintain_takes s (Done maintain.Through) at has = record { sessions = has.sessions; last = has.last; hand = has.hand; rests = has.rests; step = tt }
  maintain_takes s (Done maintain.Spent) at has = record { sessions = has.sessions; last = has.last; hand = has.hand; rests = has.rests; step = tt }
  maintain_takes s (Done maintain.Broken) at has = record { sessions = has.sessions; last = has.last; hand = has.hand; rests = λ e. cc; step = tt }
  maintain_takes s (Done maintain.Device) at has = stays s Maintains at has tt
  maintain_takes s ask at has = stays s Maintains at has tt

  copies_take : (p : Places) (s : KeeperState) (granted : Bool) → Has s → KeeperTakes (copies p s granted)
  copies_take p s granted has =
      either_takes (granted || is_copy_resting s.copy) (record s { copy = copy_taken p s.copy; is_granted = true; step = Copies }) (ended (record s { is_granted = false }) (TurnRefused fault.Memory)) (λ yes. record { sessions = has.sessions; last = has.last; hand = has.hand; rests = has.rests; step = tt })
      (λ no. record { sessions = has.sessions; last = has.last; hand = has.hand; rests = has.rests; step = tt })

  copies_next_take : (p : Places) (s : KeeperState) (c : Commit) (granted : Bool) (other : KeeperState) → Has s → KeeperTakes other → KeeperTakes (copies_next p s c granted other)
  copies_next_take p s c granted other has its = either_takes c.is_copied other (copies p s granted) (λ yes. its) (λ no. copies_take p s granted has)

  turned_takes : (s : KeeperState) → Has s → KeeperTakes (turned s)
  turned_takes s has = record { sessions = has.sessions; last = has.last; hand = has.hand; rests = has.rests; step = tt }

  seek_begins : (s : KeeperState) (c : Commit) → s.rests ≡ false → s.commit ≡ Some c → Has s → KeeperTakes (record s { seek = seek_begun s.seek c.number s.last.points; has_points = false; step = Seeks })
  seek_begins s c awake is has =
      let its = owing_takes (record s.seek { number = c.number; floor = s.last.points; points = [] }) 0 has.sessions refl in
      let kept = owing_keeps (record s.seek { number = c.number; floor = s.last.points; points = [] }) 0 in
      record {
        sessions = its.sessions;
        last = has.last;
        hand = none_has (seek_begun s.seek c.number s.last.points) s.commit false refl;
        rests = λ rests. let clash : false ≡ true = sym awake ∙ rests in cc;
        step = record { its = its; floor = kept.1; number = λ d found. kept.0 ∙ ap (λ (x : Commit). x.number) (some_commit s.commit c d is found); none = refl };
      }

  part_takes : (p : Places) (s : KeeperState) (c : Commit) (said : PhaseSaid) (granted : Bool) → s.rests ≡ false → s.commit ≡ Some c → Has s → KeeperTakes (part_begun p s c said granted)
  part_takes p s c (Says phase.InProgress version) granted awake is has =
      either_takes s.has_entered (copies_next p s c granted (turned s)) (record s { enter = enter_begun s.enter c.number; step = Enters }) (λ yes. copies_next_take p s c granted (turned s) has (turned_takes s has))
      (λ no. record { sessions = has.sessions; last = has.last; hand = has.hand; rests = has.rests; step = tt })
  part_takes p s c (Says phase.WaitPending version) granted awake is has =
      copies_next_take p s c granted (record s { seek = seek_begun s.seek c.number s.last.points; has_points = false; step = Seeks }) has (seek_begins s c awake is has)
  part_takes p s c (Says phase.WaitFlush version) granted awake is has =
      either_takes s.has_points (record s { wait = wait_begun c.end c.epoch; step = Waits }) (turned s) (λ yes. record { sessions = has.sessions; last = has.last; hand = has.hand; rests = has.rests; step = yes }) (λ no. turned_takes s has)
  part_takes p s c (Says phase.Rest version) granted awake is has = turned_takes s has
  part_takes p s c (Says phase.Prepare version) granted awake is has = turned_takes s has
  part_takes p s c Spoiled granted awake is has = turned_takes s has

  taken_up_takes : (s : KeeperState) (granted : Bool) → Has s → s.has_points ≡ true → KeeperTakes (writes_taken_up s granted)
  taken_up_takes s granted has has_them =
      either_takes granted (record s { rests = false; is_granted = true; step = Writes }) (turned (record s { is_granted = false })) (λ yes. record { sessions = has.sessions; last = has.last; hand = has.hand; rests = λ e. cc; step = has_them })
      (λ no. record { sessions = has.sessions; last = has.last; hand = has.hand; rests = has.rests; step = tt })

  -- where a flush rests the turn is over
  lets_take : (s : KeeperState) (granted : Bool) (its : KeeperState) → Has s → KeeperTakes its → KeeperTakes (unless_flush_rests s granted its)
  lets_take s granted its has led =
      either_takes (is_flush_resting s.maintain) (turned (record s { is_granted = granted })) its (λ rests. record { sessions = has.sessions; last = has.last; hand = has.hand; rests = has.rests; step = tt }) (λ calm. led)

  phase_takes : (p : Places) (s : KeeperState) (found : Option Commit) (said : PhaseSaid) (granted : Bool) → s.commit ≡ found → Has s → KeeperTakes (phase_ledto p s found said granted)
  unfolding phase_ledto
  phase_takes p s None said granted is has =
      lets_take s granted (sweeps_next s granted) has (sweep_begins KeeperTakes s granted (record { sessions = has.sessions; last = has.last; hand = has.hand; rests = has.rests; step = tt }) (record { sessions = has.sessions; last = has.last; hand = has.hand; rests = has.rests; step = tt }))
  phase_takes p s (Some c) said granted is has =
      either_takes s.rests (writes_taken_up s granted) (unless_flush_rests s granted (part_begun p s c said granted)) (λ rests. taken_up_takes s granted has (has.rests rests))
      (λ awake. lets_take s granted (part_begun p s c said granted) has (part_takes p s c said granted awake is has))

  enter_takes : (s : KeeperState) (ask : Ask EnterAnswer) → s.step ≡ Enters → Has s → KeeperTakes (enter_ledto s ask)
  unfolding enter_ledto
  enter_takes s (Done enter.Entered) at has = record { sessions = has.sessions; last = has.last; hand = has.hand; rests = has.rests; step = tt }
  enter_takes s (Done enter.DrainFull) at has = record { sessions = has.sessions; last = has.last; hand = has.hand; rests = has.rests; step = tt }
  enter_takes s (Done enter.EpochsSpent) at has = record { sessions = has.sessions; last = has.last; hand = has.hand; rests = has.rests; step = tt }
  enter_takes s (Done enter.Idle) at has = record { sessions = has.sessions; last = has.last; hand = has.hand; rests = has.rests; step = tt }
  enter_takes s ask at has = stays s Enters at has tt

  copied_hand : (s : SeekState) (rests : Bool) (found : Option Commit) (has_points : Bool) → HandTakes s found has_points → HandTakes s (copied rests found) has_points
  copied_hand s rests None has_points hand = hand
  copied_hand s rests (Some its) has_points hand = λ c is yes.
      let all = hand its refl yes in
      let same : its.number ≡ c.number = cc in
      record { number = all.number ∙ same; taken = all.taken; all = all.all }

  copied_takes : (s : KeeperState) (ask : Ask (Unit {0})) → s.step ≡ Copies → Has s → KeeperTakes (copy_ledto s ask)
  unfolding copy_ledto
  copied_takes s (Done its) at has = record { sessions = has.sessions; last = has.last; hand = copied_hand s.seek (is_copy_resting s.copy) s.commit s.has_points has.hand; rests = has.rests; step = tt }
  copied_takes s ask at has = stays s Copies at has tt

  known_hand : (s : SeekState) (found : Option Commit) (end : Addr) (epoch : ℕ) → ((c : Commit) → found ≡ Some c → s.number ≡ c.number) → AreTaken s.number.0 s.points → length s.points ≡ count
      → HandTakes s (points_known found end epoch) true
  known_hand s None end epoch number taken all = λ c is yes. cc
  known_hand s (Some its) end epoch number taken all = λ c is yes.
      let same : its.number ≡ c.number = cc in
      record { number = number its refl ∙ same; taken = taken; all = all }

  -- where the search tells that it has taken them
  all_told : (s : SeekState) (step : Seeking) (end : Addr) (epoch : ℕ) → StepTakes s step → seeking_ask s step ≡ Done (sought.Taken end epoch) → length s.points ≡ count
  unfolding seeking_ask
  all_told s (seek.Ended (sought.Taken to at)) end epoch knows is = knows
  all_told s (seek.Ended sought.Idle) end epoch knows is = cc
  all_told s (seek.Ended sought.Owing) end epoch knows is = cc
  all_told s (seek.Ended sought.DrainFull) end epoch knows is = cc
  all_told s (seek.Ended sought.EpochsSpent) end epoch knows is = cc
  all_told s (seek.LoadsOwing session) end epoch knows is = cc
  all_told s seek.SeeksSlot end epoch knows is = (let same : sought.Idle ≡ sought.Taken end epoch = passed_end (defer_ask s.defer) sought.Idle (sought.Taken end epoch) is in cc)
  all_told s seek.LoadsCut end epoch knows is = cc
  all_told s (seek.LoadsOther first) end epoch knows is = cc
  all_told s seek.LoadsAgain end epoch knows is = cc
  all_told s seek.StoresWaitFlush end epoch knows is = cc
  all_told s seek.LoadsTail end epoch knows is = cc
  all_told s (seek.RaisesReadOnly to) end epoch knows is = cc
  all_told s (seek.Defers to) end epoch knows is = (let same : sought.Idle ≡ sought.Taken end epoch = passed_end (defer_ask s.defer) sought.Idle (sought.Taken end epoch) is in cc)

  sought_takes : (s : KeeperState) (ask : Ask SeekAnswer) → s.step ≡ Seeks → seek_ask s.seek ≡ ask → LastTaken s.last → (s.rests ≡ true → s.has_points ≡ true) → IsSought s.seek s.last s.commit s.has_points → KeeperTakes (seek_ledto s ask)
  unfolding seek_ledto
  sought_takes s (Done (sought.Taken end epoch)) at asks last rests its =
      record { sessions = its.its.sessions; last = last; hand = known_hand s.seek s.commit end epoch its.number its.its.taken (all_told s.seek s.seek.step end epoch its.its.step asks); rests = λ e. refl; step = tt }
  sought_takes s (Done sought.DrainFull) at asks last rests its = record { sessions = its.its.sessions; last = last; hand = none_has s.seek s.commit s.has_points its.none; rests = rests; step = tt }
  sought_takes s (Done sought.EpochsSpent) at asks last rests its = record { sessions = its.its.sessions; last = last; hand = none_has s.seek s.commit s.has_points its.none; rests = rests; step = tt }
  sought_takes s (Done sought.Owing) at asks last rests its = record { sessions = its.its.sessions; last = last; hand = none_has s.seek s.commit s.has_points its.none; rests = rests; step = tt }
  sought_takes s (Done sought.Idle) at asks last rests its = record { sessions = its.its.sessions; last = last; hand = none_has s.seek s.commit s.has_points its.none; rests = rests; step = tt }
  sought_takes s ask at asks last rests its = record { sessions = its.its.sessions; last = last; hand = none_has s.seek s.commit s.has_points its.none; rests = rests; step = subst (KeepingTakes s) (sym at) its }

  seeks_take : (s : KeeperState) (reply : ℕ) → s.step ≡ Seeks → LastTaken s.last → (s.rests ≡ true → s.has_points ≡ true) → IsSought s.seek s.last s.commit s.has_points → SeekReply s.seek s.seek.step reply
      → KeeperTakes (seek_ledto (record s { seek = seek_next s.seek reply }) (seek_ask (seek_next s.seek reply)))
  seeks_take s reply at last rests its tells =
      let kept = seek_keeps s.seek s.seek.step reply in
      let next = seek_takes s.seek s.seek.step reply refl its.its.sessions its.its.taken its.its.step tells in
      sought_takes (record s { seek = seek_next s.seek reply }) (seek_ask (seek_next s.seek reply)) at refl last rests
      (record { its = next; floor = kept.1 ∙ its.floor; number = λ c is. kept.0 ∙ its.number c is; none = its.none })

  -- ---- what follows on points
  writes_take : (shape : Shape) (s : KeeperState) (found : Option Commit) → Has s → s.has_points ≡ true → KeeperTakes (writes_begun shape s found)
  writes_take shape s None has has_them = turned_takes s has
  writes_take shape s (Some c) has has_them = record { sessions = has.sessions; last = has.last; hand = has.hand; rests = has.rests; step = has_them }

  waited_takes : (shape : Shape) (s : KeeperState) (ask : Ask WaitAnswer) → s.step ≡ Waits → Has s → s.has_points ≡ true → KeeperTakes (wait_ledto shape s ask)
  unfolding wait_ledto
  waited_takes shape s (Done wait.Flushed) at has has_them = writes_take shape s s.commit has has_them
  waited_takes shape s (Done wait.NotYet) at has has_them = turned_takes s has
  waited_takes shape s (Done wait.Idle) at has has_them = turned_takes s has
  waited_takes shape s ask at has has_them = stays s Waits at has has_them

  finished_takes : (s : KeeperState) (found : Option Commit) → s.commit ≡ found → Has s → s.has_points ≡ true → KeeperTakes (finished s found)
  finished_takes s None in_hand has has_them = turned_takes s has
  finished_takes s (Some c) in_hand has has_them =
      let all = has.hand c in_hand has_them in
      record { sessions = has.sessions; last = subst (λ (v : Version). (session : ℕ) → session < count → P v.0 session (floor_of s.seek.points session)) all.number (all_floors s.seek.number.0 s.seek.points all.taken all.all); hand = none_hand s.seek s.has_points; rests = has.rests; step = tt }

  finish_takes : (s : KeeperState) (ask : Ask FinishAnswer) → s.step ≡ Finishes → Has s → s.has_points ≡ true → KeeperTakes (finish_ledto s ask)
  unfolding finish_ledto
  finish_takes s (Done told) at has has_them = finished_takes s s.commit refl has has_them
  finish_takes s ask at has has_them = stays s Finishes at has has_them

  -- ---- a reply
  abbrev pub KeepingReply : KeeperState → Keeping → ℕ → Type 0
  KeepingReply s Seeks reply = SeekReply s.seek s.seek.step reply
  KeepingReply s step reply = ⊤

  pub replied_takes : (shape : Shape) (p : Places) (s : KeeperState) (step : Keeping) (reply : ℕ) (granted : Bool) → s.step ≡ step → Has s → KeepingTakes s step → KeepingReply s step reply → KeeperTakes (keeping_next shape p s step reply granted)
  unfolding keeping_next
  replied_takes shape p s (Ended told) reply granted at has its tells = stays s (Ended told) at has tt
  replied_takes shape p s Starts reply granted at has its tells = start_takes (record s { start = start_next s.start reply }) (start_ask (start_next s.start reply)) at (record { sessions = has.sessions; last = has.last; hand = has.hand; rests = has.rests })
  replied_takes shape p s Maintains reply granted at has its tells =
      maintain_takes (record s { maintain = maintain_next shape p s.maintain reply }) (maintain_ask shape p (maintain_next shape p s.maintain reply)) at (record { sessions = has.sessions; last = has.last; hand = has.hand; rests = has.rests })
  replied_takes shape p s LoadsPhase reply granted at has its tells = phase_takes p s s.commit (phase_said reply) granted refl has
  replied_takes shape p s Enters reply granted at has its tells = enter_takes (record s { enter = enter_next s.enter reply }) (enter_ask (enter_next s.enter reply)) at (record { sessions = has.sessions; last = has.last; hand = has.hand; rests = has.rests })
  replied_takes shape p s Copies reply granted at has its tells = copied_takes (record s { copy = copy_driven s.copy reply }) (copy_told (copy_driven s.copy reply)) at (record { sessions = has.sessions; last = has.last; hand = has.hand; rests = has.rests })
  replied_takes shape p s Seeks reply granted at has its tells = seeks_take s reply at has.last has.rests its tells
  replied_takes shape p s Waits reply granted at has its tells = waited_takes shape (record s { wait = wait_next s.wait reply }) (wait_ask (wait_next s.wait reply)) at (record { sessions = has.sessions; last = has.last; hand = has.hand; rests = has.rests }) its
  replied_takes shape p s Writes reply granted at has its tells = stays s Writes at has its
  replied_takes shape p s Finishes reply granted at has its tells =
      finish_takes (record s { finish = finish_next s.finish reply }) (finish_ask s.seek.points (finish_next s.finish reply)) at (record { sessions = has.sessions; last = has.last; hand = has.hand; rests = has.rests }) its
  replied_takes shape p s Sweeps reply granted at has its tells =
      sweep_moves KeeperTakes s reply (λ w. stays (record s { sweep = w }) Sweeps at (record { sessions = has.sessions; last = has.last; hand = has.hand; rests = has.rests }) tt) (λ w. record { sessions = has.sessions; last = has.last; hand = has.hand; rests = has.rests; step = tt })

  -- an action is taken, and the device is called
  pub given_takes : (shape : Shape) (p : Places) (s : KeeperState) (step : Keeping) (action : Action) → s.step ≡ step → KeeperTakes s → KeeperTakes (keeping_given shape p s step action)
  unfolding keeping_given
  given_takes shape p s Maintains action at its =
      maintain_takes (record s { maintain = maintain_given s.maintain action }) (maintain_ask shape p (maintain_given s.maintain action)) at (record { sessions = its.sessions; last = its.last; hand = its.hand; rests = its.rests })
  given_takes shape p s step action at its = its

  write_takes : (s : KeeperState) (found : Option Commit) (answer : WriteAnswer) → s.step ≡ Writes → Has s → s.has_points ≡ true → KeeperTakes (write_ledto s found answer)
  unfolding write_ledto
  write_takes s None answer at has has_them = turned_takes s has
  write_takes s (Some c) write.Written at has has_them = record { sessions = has.sessions; last = has.last; hand = has.hand; rests = has.rests; step = has_them }
  write_takes s (Some c) write.Device at has has_them =
      either_takes (must_rest s) (turned (record s { rests = true })) s (λ yes. record { sessions = has.sessions; last = has.last; hand = has.hand; rests = λ e. has_them; step = tt }) (λ no. stays s Writes at has has_them)
  write_takes s (Some c) (write.Broken why) at has has_them = stays s Writes at has has_them

  called_writes : (s : KeeperState) (done : Bool) → s.step ≡ Writes → Has s → s.has_points ≡ true → KeeperTakes (writes_called s done)
  called_writes s true at has has_them = write_takes (record s { writes = commit_next s.writes true }) s.commit (commit_answer (commit_next s.writes true)) at (record { sessions = has.sessions; last = has.last; hand = has.hand; rests = has.rests }) has_them
  called_writes s false at has has_them = record { sessions = has.sessions; last = has.last; hand = has.hand; rests = λ e. cc; step = tt }

  pub called_takes : (shape : Shape) (p : Places) (s : KeeperState) (step : Keeping) (done : Bool) (bytes : List ℕ) → s.step ≡ step → KeeperTakes s → KeeperTakes (keeping_called shape p s step done bytes)
  unfolding keeping_called
  called_takes shape p s Maintains done bytes at its =
      maintain_takes (record s { maintain = maintain_called shape p s.maintain done bytes }) (maintain_ask shape p (maintain_called shape p s.maintain done bytes)) at (record { sessions = its.sessions; last = its.last; hand = its.hand; rests = its.rests })
  called_takes shape p s Writes done bytes at its = called_writes s done at (has_of s its) (subst (KeepingTakes s) at its.step)
  called_takes shape p s Sweeps done bytes at its =
      sweep_reads KeeperTakes s done bytes (λ w. stays (record s { sweep = w }) Sweeps at (record { sessions = its.sessions; last = its.last; hand = its.hand; rests = its.rests }) tt) (λ w. record { sessions = its.sessions; last = its.last; hand = its.hand; rests = its.rests; step = tt })
      (λ w. record { sessions = its.sessions; last = its.last; hand = its.hand; rests = λ e. cc; step = tt })
  called_takes shape p s step done bytes at its = its

  -- what is begun where no call is in hand
  pub turn_takes : (s : KeeperState) → Has s → KeeperTakes (turn_asked s)
  turn_takes s has =
      either_takes s.is_broken (ended s (TurnRefused fault.Broken)) (record s { maintain = parts_begun (serves_alone s) s.maintain; is_drain_full = false; step = Maintains }) (λ broken. record { sessions = has.sessions; last = has.last; hand = has.hand; rests = has.rests; step = tt })
      (λ works. record { sessions = has.sessions; last = has.last; hand = has.hand; rests = has.rests; step = tt })

  pub commit_takes : (s : KeeperState) (kind : CommitKind) → Has s → KeeperTakes (commit_asked s kind)
  commit_takes s kind has =
      either_takes s.is_broken (ended s (CommitRefused fault.Broken)) (if s.rests then ended s (CommitRefused fault.CommitRunning) else record s { start = start_begun s.start (asked_for s kind); step = Starts }) (λ broken. record { sessions = has.sessions; last = has.last; hand = has.hand; rests = has.rests; step = tt })
      (λ works. either_takes s.rests (ended s (CommitRefused fault.CommitRunning)) (record s { start = start_begun s.start (asked_for s kind); step = Starts }) (λ rests. record { sessions = has.sessions; last = has.last; hand = has.hand; rests = has.rests; step = tt }) (λ awake. record { sessions = has.sessions; last = has.last; hand = has.hand; rests = has.rests; step = tt }))

  pub asked_takes : (s begun : KeeperState) → KeeperTakes s → KeeperTakes begun → KeeperTakes (keeper_asked s begun)
  asked_takes s begun its next = by_hand (is_in_hand s.step)
    where
      by_hand : (b : Bool) → KeeperTakes (if b then s else begun)
      by_hand true = its
      by_hand false = next

  pub has_taken : (s : KeeperState) → KeeperTakes s → Has s
  has_taken s its = has_of s its

  -- as a life begins
  pub opened_takes : (s : KeeperState) (step : Keeping) → s.step ≡ step → is_in_hand step ≡ false → s.commit ≡ None → s.rests ≡ false → s.seek.sessions ≡ count → LastTaken s.last → KeeperTakes s
  opened_takes s (Ended told) at idle none awake sessions last =
      stays s (Ended told) at (record { sessions = sessions; last = last; hand = λ c is yes. let clash : None ≡ Some c = sym none ∙ is in cc; rests = λ rests. let clash : false ≡ true = sym awake ∙ rests in cc }) tt
  opened_takes s step at idle none awake sessions last = cc

-- ---- what is known goes on
module _ (count : ℕ) (F G : ℕ → ℕ → ℕ → Type 0) (A B : ℕ → ℕ → Type 0) (P Q : ℕ → ℕ → ℕ → Type 0) (met : (version session word : ℕ) → F version session word → G version session word)
    (again : (version session : ℕ) → A version session → B version session) (point : (version session serial : ℕ) → P version session serial → Q version session serial) where
  step_on : (s : SeekState) (step : Seeking) → StepTakes count F A P s step → StepTakes count G B Q s step
  step_on s seek.LoadsCut its = its
  step_on s (seek.LoadsOther first) its = (its.0, met s.number.0 (length s.points) first its.1)
  step_on s seek.LoadsAgain its = (its.0, again s.number.0 (length s.points) its.1)
  step_on s seek.StoresWaitFlush its = its
  step_on s seek.LoadsTail its = its
  step_on s (seek.RaisesReadOnly end) its = its
  step_on s (seek.Defers end) its = its
  step_on s (seek.Ended (sought.Taken end epoch)) its = its
  step_on s (seek.Ended sought.Idle) its = tt
  step_on s (seek.Ended sought.Owing) its = tt
  step_on s (seek.Ended sought.DrainFull) its = tt
  step_on s (seek.Ended sought.EpochsSpent) its = tt
  step_on s (seek.LoadsOwing session) its = its
  step_on s seek.SeeksSlot its = its

  keeping_on : (s : KeeperState) (step : Keeping) → KeepingTakes count F A P s step → KeepingTakes count G B Q s step
  keeping_on s Seeks its = record {
    its = record { sessions = its.its.sessions; taken = λ session it got. point s.seek.number.0 session it.0 (its.its.taken session it got); step = step_on s.seek s.seek.step its.its.step };
    floor = its.floor;
    number = its.number;
    none = its.none;
  }
  keeping_on s Waits its = its
  keeping_on s Writes its = its
  keeping_on s Finishes its = its
  keeping_on s (Ended told) its = tt
  keeping_on s Starts its = tt
  keeping_on s Maintains its = tt
  keeping_on s LoadsPhase its = tt
  keeping_on s Enters its = tt
  keeping_on s Copies its = tt
  keeping_on s Sweeps its = tt

  pub takes_on : (s : KeeperState) → KeeperTakes count F A P s → KeeperTakes count G B Q s
  takes_on s its = record {
    sessions = its.sessions;
    last = λ session low. point s.last.number.0 session (floor_of s.last.points session) (its.last session low);
    hand = λ c is yes. let all = its.hand c is yes in record { number = all.number; taken = λ session it got. point s.seek.number.0 session it.0 (all.taken session it got); all = all.all };
    rests = its.rests;
    step = keeping_on s s.step its.step;
  }
