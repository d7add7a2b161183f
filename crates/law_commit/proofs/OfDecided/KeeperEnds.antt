-- What the keeper knows of the moments at which a commit's first address and its end were the tail; and that each of its steps keeps it.
use Rattle.std.proofs.Common.{◌≡◌, ℕ, ◌+◌, ◌∙◌, List, [], length, refl, ap, sym, subst, Bool, true, false}
use Rattle.std.specs.Prelude.{⊤, nat_le, nat_lt, max, ◌==◌, if◌then◌else◌, Option, Some, None, ◌||◌, not}
use Rattle.fkv_base.specs.Limits.{last_of}
use Rattle.fkv_base.specs.declared.commits.CommitKind.{CommitKind}
use Rattle.fkv_base.specs.declared.faults.Fault.TheVariants as fault
use Rattle.fkv_base.specs.declared.numbers.Addr.{Addr}
use Rattle.fkv_base.specs.declared.numbers.Version.{Version}
use Rattle.fkv_base.specs.declared.phases.Phase.TheVariants as phase
use Rattle.fkv_base.specs.declared.shapes.Shape.{Shape}
use Rattle.fkv_words.specs.declared.phase_words.PhaseSaid.{PhaseSaid}
use Rattle.fkv_words.specs.declared.phase_words.PhaseSaid.TheVariants.{Says, Spoiled}
use Rattle.fkv_words.specs.PhaseWords.{phase_said}
use Rattle.fkv_plane.specs.declared.actions.Action.{Action}
use Rattle.fkv_plane.specs.declared.asks.Ask.{Ask}
use Rattle.fkv_plane.specs.declared.asks.Ask.TheVariants.{Load, Store, Swap, Cas, Add, Max, Put, Take, Done}
use Rattle.fkv_plane.specs.declared.places.Places.{Places}
use Rattle.fkv_plane.specs.Passing.{passed}
use Rattle.law_refine.specs.Below.fkv_checkpoint.Copying.{Copier}
use Rattle.law_refine.specs.Below.fkv_commit.Commit.{Commit}
use Rattle.law_refine.specs.Below.fkv_commit.DeferAnswer.{DeferAnswer}
use Rattle.law_refine.specs.Below.fkv_commit.DeferAnswer.TheVariants.{Armed, Held, Spent}
use Rattle.law_refine.specs.Below.fkv_commit.EnterAnswer.{EnterAnswer}
use Rattle.law_refine.specs.Below.fkv_commit.EnterAnswer.TheVariants as enter
use Rattle.law_refine.specs.Below.fkv_commit.FinishAnswer.{FinishAnswer}
use Rattle.law_refine.specs.Below.fkv_commit.SeekAnswer.{SeekAnswer}
use Rattle.law_refine.specs.Below.fkv_commit.SeekAnswer.TheVariants as sought
use Rattle.law_refine.specs.Below.fkv_commit.TheSeeking.{Seeking}
use Rattle.law_refine.specs.Below.fkv_commit.TheSeeking.TheVariants as seek
use Rattle.law_refine.specs.Below.fkv_commit.StartAnswer.{StartAnswer}
use Rattle.law_refine.specs.Below.fkv_commit.StartAnswer.TheVariants as started
use Rattle.law_refine.specs.Below.fkv_commit.TheStarting.{Starting}
use Rattle.law_refine.specs.Below.fkv_commit.TheStarting.TheVariants as start
use Rattle.law_refine.specs.Below.fkv_commit.WaitAnswer.{WaitAnswer}
use Rattle.law_refine.specs.Below.fkv_commit.WaitAnswer.TheVariants as wait
use Rattle.law_refine.specs.Below.fkv_commit.Cuts.{serial_said, is_cut_of}
use Rattle.law_refine.specs.Below.fkv_commit.Deferring.{defer_ask, defer_begun, defer_next}
use Rattle.law_refine.specs.Below.fkv_commit.Entering.{enter_ask, enter_begun, enter_next}
use Rattle.law_refine.specs.Below.fkv_commit.Finishing.{finish_ask, finish_next}
use Rattle.law_refine.specs.Below.fkv_commit.Seeking.{SeekState, defer_led, owing_from, point_taken, with_point, points_from, seek_ask, seek_begun, seek_next, seeking_ask, seeking_next, slot_led}
use Rattle.law_refine.specs.Below.fkv_commit.Starting.{StartState, defer_led as start_led, is_lost_full, phase_found, refused, seek_led, start_ask, start_begun, start_next, starting_ask, starting_next}
use Rattle.law_refine.specs.Below.fkv_commit.Waiting.{wait_ask, wait_begun, wait_next}
use Rattle.law_refine.specs.Below.fkv_manifest.WriteAnswer.{WriteAnswer}
use Rattle.law_refine.specs.Below.fkv_manifest.WriteAnswer.TheVariants as write
use Rattle.law_refine.specs.Below.fkv_manifest.Committing.{commit_answer, commit_next}
use Rattle.law_refine.specs.Below.fkv_maintain.MaintainAnswer.{MaintainAnswer}
use Rattle.law_refine.specs.Below.fkv_maintain.MaintainAnswer.TheVariants as maintain
use Rattle.law_refine.specs.Below.fkv_maintain.Maintaining.{is_flush_resting, maintain_ask, maintain_called, maintain_given, maintain_next}
use Rattle.law_refine.specs.Below.fkv_keeper.KeeperTold.TheVariants.{CommitRefused, TurnRefused}
use Rattle.law_refine.specs.Below.fkv_keeper.TheKeeping.{Keeping}
use Rattle.law_refine.specs.Below.fkv_keeper.TheKeeping.TheVariants.{Ended, Starts, Maintains, LoadsPhase, Enters, Copies, Seeks, Waits, Writes, Finishes, Sweeps}
use Rattle.law_refine.specs.Below.fkv_keeper.KeeperRun.{is_in_hand}
use Rattle.law_refine.specs.Below.fkv_keeper.Keeping.{KeeperState, commit_asked, copied, copies, copies_next, copy_driven, copy_ledto, ended, enter_ledto, finish_ledto, finished, keeping_called, keeping_given, keeping_next, maintain_ledto, must_rest, part_begun, parts_begun, phase_ledto, points_known, seek_ledto, serves_alone, start_ledto, sweeps_next, triples_written, turn_asked, turned, unless_flush_rests, wait_ledto, write_ledto, writes_begun, writes_called, writes_taken_up, copy_taken, is_copy_resting, copy_told, asked_for}
use Rattle.law_refine.specs.Below.fkv_world.World.{keeper_asked}
use Rattle.law_commit.specs.Decided.Ended.{Span, span_in}
use Rattle.law_commit.proofs.Sweeps.{sweep_begins, sweep_moves, sweep_reads}

some_same : {X : Type 0} {x y : X} → ◌≡◌ {A = Option X} (Some x) (Some y) → x ≡ y
some_same e = cc

clash : {X : Type 0} (b : Bool) → b ≡ false → b ≡ true → X
clash b off on = let both : false ≡ true = sym off ∙ on in cc

-- F says that a commit of this number began at this address, and E that one came to its end so
module _ (F : Version → Addr → Type 0) (E : Span → Type 0) where
  -- ---- the commit in hand
  abbrev pub HandFirst : Option Commit → Type 0
  HandFirst commit = (c : Commit) → commit ≡ Some c → F c.number c.first

  -- once its points are taken it is copied, and its end is known
  pub record HandEnds (commit : Option Commit) (has_points : Bool) (copy : Option Copier) : Type 0 where
    pub first : HandFirst commit
    pub end : (c : Commit) → commit ≡ Some c → has_points ≡ true → (c.is_copied ≡ true) × E (span_in c c.end (triples_written c.kind copy))

  abbrev pub Hand : KeeperState → Type 0
  Hand s = HandEnds s.commit s.has_points s.copy

  -- its end would be there
  abbrev pub EndsAt : Option Commit → Option Copier → Addr → Type 0
  EndsAt commit copy end = (c : Commit) → commit ≡ Some c → E (span_in c end (triples_written c.kind copy))

  abbrev pub IsCopied : Option Commit → Type 0
  IsCopied commit = (c : Commit) → commit ≡ Some c → c.is_copied ≡ true

  -- ---- what is known at each state
  abbrev pub StartEnds : Starting → Type 0
  StartEnds (start.Defers number first) = F number first
  StartEnds (start.Ended (started.Begun number first)) = F number first
  StartEnds step = ⊤

  abbrev pub SeekEnds : Option Commit → Option Copier → Seeking → Type 0
  SeekEnds commit copy (seek.RaisesReadOnly end) = EndsAt commit copy end
  SeekEnds commit copy (seek.Defers end) = EndsAt commit copy end
  SeekEnds commit copy (seek.Ended (sought.Taken end epoch)) = EndsAt commit copy end
  SeekEnds commit copy step = ⊤

  pub record SeeksSo (s : KeeperState) (step : Seeking) : Type 0 where
    pub works : s.is_broken ≡ false
    pub awake : s.rests ≡ false
    pub none_yet : s.has_points ≡ false
    pub first : HandFirst s.commit
    pub copied : IsCopied s.commit
    pub ends : SeekEnds s.commit s.copy step

  -- as it is written its triples are those that are being written
  pub record WritesEnds (commit : Option Commit) (triples : List ℕ) : Type 0 where
    pub first : HandFirst commit
    pub end : (c : Commit) → commit ≡ Some c → E (span_in c c.end triples)

  abbrev pub WritesSo : KeeperState → Type 0
  WritesSo s = WritesEnds s.commit s.writes.triples

  -- so it is while its writes rest
  abbrev pub InHand : Bool → Option Commit → Bool → Option Copier → List ℕ → Type 0
  InHand true commit has_points copy triples = WritesEnds commit triples
  InHand false commit has_points copy triples = HandEnds commit has_points copy

  abbrev pub IsHeld : KeeperState → Type 0
  IsHeld s = InHand s.rests s.commit s.has_points s.copy s.writes.triples

  held_awake : (s : KeeperState) → s.rests ≡ false → Hand s → IsHeld s
  held_awake s awake hand = subst (λ (x : Bool). InHand x s.commit s.has_points s.copy s.writes.triples) (sym awake) hand

  held_at : (s : KeeperState) (rests : Bool) → s.rests ≡ rests → IsHeld s → InHand rests s.commit s.has_points s.copy s.writes.triples
  held_at s rests so held = subst (λ (x : Bool). InHand x s.commit s.has_points s.copy s.writes.triples) so held

  -- a device that has failed is never used again
  abbrev pub KeepingEnds : KeeperState → Keeping → Type 0
  KeepingEnds s (Ended told) = s.is_broken ≡ false → IsHeld s
  KeepingEnds s Starts = IsHeld s × StartEnds s.start.step
  KeepingEnds s Maintains = (s.is_broken ≡ false) × IsHeld s
  KeepingEnds s LoadsPhase = (s.is_broken ≡ false) × IsHeld s
  KeepingEnds s Sweeps = (s.is_broken ≡ false) × IsHeld s
  KeepingEnds s Copies = HandFirst s.commit × (s.has_points ≡ true → ⊥) × (s.rests ≡ false)
  KeepingEnds s Seeks = SeeksSo s s.seek.step
  KeepingEnds s Waits = (s.has_points ≡ true) × Hand s × (s.rests ≡ false)
  KeepingEnds s Writes = WritesSo s × (s.rests ≡ false)
  KeepingEnds s Finishes = s.rests ≡ false
  KeepingEnds s Enters = Hand s × (s.rests ≡ false)

  abbrev pub KeeperEnds : KeeperState → Type 0
  KeeperEnds s = KeepingEnds s s.step

  stays : (s : KeeperState) (step : Keeping) → s.step ≡ step → KeepingEnds s step → KeeperEnds s
  stays s step at its = subst (KeepingEnds s) (sym at) its

  either_ends : (c : Bool) (a b : KeeperState) → (c ≡ true → KeeperEnds a) → (c ≡ false → KeeperEnds b) → KeeperEnds (if c then a else b)
  either_ends true a b one other = one refl
  either_ends false a b one other = other refl

  none_hand : (commit : Option Commit) (has_points : Bool) (copy : Option Copier) → commit ≡ None → HandEnds commit has_points copy
  none_hand commit has_points copy none = record { first = λ c is. never c is; end = λ c is points. never c is }
    where
      never : {X : Type 0} (c : Commit) → commit ≡ Some c → X
      never c is = let both : None ≡ Some c = sym none ∙ is in cc

  -- before its points are taken no end is known
  no_end : (commit : Option Commit) (has_points : Bool) (copy : Option Copier) → HandFirst commit → has_points ≡ false → HandEnds commit has_points copy
  no_end commit has_points copy first none = record { first = first; end = λ c is points. clash has_points none points }

  -- ---- as it starts
  either_start : (c : Bool) (a b : StartState) → StartEnds a.step → StartEnds b.step → StartEnds (if c then a else b).step
  either_start true a b one other = one
  either_start false a b one other = other

  found_ends : (s : StartState) (said : PhaseSaid) → StartEnds (phase_found s said).step
  found_ends s (Says phase.Rest number) =
      either_start (nat_le (last_of s.asked.class) number.0) (refused s fault.VersionsSpent) (if is_lost_full s.asked number.0 then refused s fault.LostFull else record s { defer = defer_begun s.defer; step = start.Seeks number }) tt
      (either_start (is_lost_full s.asked number.0) (refused s fault.LostFull) (record s { defer = defer_begun s.defer; step = start.Seeks number }) tt tt)
  found_ends s (Says phase.Prepare number) = tt
  found_ends s (Says phase.InProgress number) = tt
  found_ends s (Says phase.WaitPending number) = tt
  found_ends s (Says phase.WaitFlush number) = tt
  found_ends s Spoiled = tt

  slot_ends : (number : Version) (s : StartState) (ask : Ask DeferAnswer) → s.step ≡ start.Seeks number → StartEnds (seek_led number s ask).step
  unfolding seek_led
  slot_ends number s (Done Held) at = tt
  slot_ends number s (Done Spent) at = tt
  slot_ends number s (Done its) at = tt
  slot_ends number s ask at = subst StartEnds (sym at) tt

  defers_ends : (number : Version) (first : Addr) (s : StartState) (ask : Ask DeferAnswer) → s.step ≡ start.Defers number first → F number first → StartEnds (start_led number first s ask).step
  unfolding start_led
  defers_ends number first s (Done (Armed epoch)) at began = began
  defers_ends number first s (Done its) at began = tt
  defers_ends number first s ask at began = subst StartEnds (sym at) began

  start_ends : (s : StartState) (step : Starting) (reply : ℕ) → s.step ≡ step → StartEnds step → ((number : Version) → step ≡ start.LoadsTail number → F number (record { 0 = reply })) → StartEnds (starting_next s step reply).step
  unfolding starting_next
  start_ends s (start.Ended its) reply at ends tail = subst StartEnds (sym at) ends
  start_ends s start.LoadsPhase reply at ends tail = found_ends s (phase_said reply)
  start_ends s (start.Seeks number) reply at ends tail = slot_ends number (record s { defer = defer_next s.defer reply }) (defer_ask (defer_next s.defer reply)) at
  start_ends s (start.StoresPrepare number) reply at ends tail = tt
  start_ends s (start.LoadsTail number) reply at ends tail = tail number refl
  start_ends s (start.Defers number first) reply at ends tail = defers_ends number first (record s { defer = defer_next s.defer reply }) (defer_ask (defer_next s.defer reply)) at ends

  -- what it tells at its end
  abbrev StartTells : Ask StartAnswer → Type 0
  StartTells (Done (started.Begun number first)) = F number first
  StartTells ask = ⊤

  passed_start : (ask : Ask DeferAnswer) → StartTells (passed ask started.Idle)
  unfolding passed
  passed_start (Done its) = tt
  passed_start (Load place) = tt
  passed_start (Store place new) = tt
  passed_start (Swap place new) = tt
  passed_start (Cas place old new) = tt
  passed_start (Add place count) = tt
  passed_start (Max place count) = tt
  passed_start (Put slot action) = tt
  passed_start (Take slot) = tt

  start_tells : (s : StartState) (step : Starting) → StartEnds step → StartTells (starting_ask s step)
  unfolding starting_ask
  start_tells s (start.Ended (started.Begun number first)) ends = ends
  start_tells s (start.Ended (started.Refused why)) ends = tt
  start_tells s (start.Ended started.Idle) ends = tt
  start_tells s start.LoadsPhase ends = tt
  start_tells s (start.Seeks number) ends = passed_start (defer_ask s.defer)
  start_tells s (start.StoresPrepare number) ends = tt
  start_tells s (start.LoadsTail number) ends = tt
  start_tells s (start.Defers number first) ends = passed_start (defer_ask s.defer)

  started_ends : (s : KeeperState) (ask : Ask StartAnswer) → s.step ≡ Starts → IsHeld s → StartEnds s.start.step → StartTells ask → KeeperEnds (start_ledto s ask)
  unfolding start_ledto
  started_ends s (Done (started.Begun number first)) at hand ends tells = λ works. record {
    first = λ c is. subst (λ (x : Commit). F x.number x.first) (some_same is) tells;
    end = λ c is points. cc;
  }
  started_ends s (Done (started.Refused why)) at hand ends tells = λ works. hand
  started_ends s (Done started.Idle) at hand ends tells = λ works. hand
  started_ends s ask at hand ends tells = stays s Starts at (hand, ends)

  -- ---- a turn
  maintained_ends : (s : KeeperState) (ask : Ask MaintainAnswer) → s.step ≡ Maintains → (s.is_broken ≡ false) × IsHeld s → KeeperEnds (maintain_ledto s ask)
  unfolding maintain_ledto
  maintained_ends s (Done maintain.Through) at its = its
  maintained_ends s (Done maintain.Spent) at its = λ works. its.1
  maintained_ends s (Done maintain.Broken) at its = λ works. cc
  maintained_ends s (Done maintain.Device) at its = stays s Maintains at its
  maintained_ends s ask at its = stays s Maintains at its

  copies_ends : (p : Places) (s : KeeperState) (c : Commit) (granted : Bool) → s.rests ≡ false → s.commit ≡ Some c → c.is_copied ≡ false → Hand s → KeeperEnds (copies p s granted)
  copies_ends p s c granted awake in_hand not_copied hand =
      either_ends (granted || is_copy_resting s.copy) (record s { copy = copy_taken p s.copy; is_granted = true; step = Copies }) (ended (record s { is_granted = false }) (TurnRefused fault.Memory))
      (λ yes. (hand.first, λ points. clash c.is_copied not_copied (hand.end c in_hand points).0, awake)) (λ no. (λ works. held_awake s awake hand))

  copies_next_ends : (p : Places) (s : KeeperState) (c : Commit) (granted : Bool) (other : KeeperState) → s.rests ≡ false → s.commit ≡ Some c → Hand s → (c.is_copied ≡ true → KeeperEnds other) → KeeperEnds (copies_next p s c granted other)
  copies_next_ends p s c granted other awake in_hand hand its = either_ends c.is_copied other (copies p s granted) its (λ no. copies_ends p s c granted awake in_hand no hand)

  -- as its points are about to be sought
  either_seek : (commit : Option Commit) (copy : Option Copier) (c : Bool) (a b : SeekState) → SeekEnds commit copy a.step → SeekEnds commit copy b.step → SeekEnds commit copy (if c then a else b).step
  either_seek commit copy true a b one other = one
  either_seek commit copy false a b one other = other

  owing_ends : (commit : Option Commit) (copy : Option Copier) (s : SeekState) (session : ℕ) → SeekEnds commit copy (owing_from s session).step
  owing_ends commit copy s session = either_seek commit copy (nat_lt session s.sessions) (record s { step = seek.LoadsOwing session }) (record s { defer = defer_begun s.defer; step = seek.SeeksSlot }) tt tt

  seeks_ends : (s : KeeperState) (c : Commit) → s.rests ≡ false → s.is_broken ≡ false → s.commit ≡ Some c → Hand s → c.is_copied ≡ true → KeeperEnds (record s { seek = seek_begun s.seek c.number s.last.points; has_points = false; step = Seeks })
  seeks_ends s c awake works in_hand hand is_copied = record {
    works = works;
    awake = awake;
    none_yet = refl;
    first = hand.first;
    copied = λ d is. subst (λ (x : Commit). x.is_copied ≡ true) (some_same (sym in_hand ∙ is)) is_copied;
    ends = owing_ends s.commit s.copy (record s.seek { number = c.number; floor = s.last.points; points = [] }) 0;
  }

  part_ends : (p : Places) (s : KeeperState) (c : Commit) (said : PhaseSaid) (granted : Bool) → s.rests ≡ false → s.commit ≡ Some c → s.is_broken ≡ false → Hand s → KeeperEnds (part_begun p s c said granted)
  part_ends p s c (Says phase.InProgress version) granted awake in_hand works hand =
      either_ends s.has_entered (copies_next p s c granted (turned s)) (record s { enter = enter_begun s.enter c.number; step = Enters })
      (λ yes. copies_next_ends p s c granted (turned s) awake in_hand hand (λ is_copied. (λ still. held_awake s awake hand))) (λ no. (hand, awake))
  part_ends p s c (Says phase.WaitPending version) granted awake in_hand works hand =
      copies_next_ends p s c granted (record s { seek = seek_begun s.seek c.number s.last.points; has_points = false; step = Seeks }) awake in_hand hand (seeks_ends s c awake works in_hand hand)
  part_ends p s c (Says phase.WaitFlush version) granted awake in_hand works hand =
      either_ends s.has_points (record s { wait = wait_begun c.end c.epoch; step = Waits }) (turned s) (λ yes. (yes, hand, awake)) (λ no. (λ still. held_awake s awake hand))
  part_ends p s c (Says phase.Rest version) granted awake in_hand works hand = λ still. held_awake s awake hand
  part_ends p s c (Says phase.Prepare version) granted awake in_hand works hand = λ still. held_awake s awake hand
  part_ends p s c Spoiled granted awake in_hand works hand = λ still. held_awake s awake hand

  -- writes that rest go on, or rest still
  taken_up_ends : (s : KeeperState) (granted : Bool) → IsHeld s → WritesSo s → KeeperEnds (writes_taken_up s granted)
  taken_up_ends s granted held writes = either_ends granted (record s { rests = false; is_granted = true; step = Writes }) (turned (record s { is_granted = false })) (λ yes. (writes, refl)) (λ no. (λ works. held))

  -- where a flush rests the turn is over
  lets_ends : (s : KeeperState) (granted : Bool) (its : KeeperState) → IsHeld s → KeeperEnds its → KeeperEnds (unless_flush_rests s granted its)
  lets_ends s granted its held led = either_ends (is_flush_resting s.maintain) (turned (record s { is_granted = granted })) its (λ rests. (λ works. held)) (λ calm. led)

  phase_ends : (p : Places) (s : KeeperState) (found : Option Commit) (said : PhaseSaid) (granted : Bool) → s.commit ≡ found → (s.is_broken ≡ false) × IsHeld s → KeeperEnds (phase_ledto p s found said granted)
  unfolding phase_ledto
  phase_ends p s None said granted is its = lets_ends s granted (sweeps_next s granted) its.1 (sweep_begins KeeperEnds s granted its (λ works. its.1))
  phase_ends p s (Some c) said granted is its =
      either_ends s.rests (writes_taken_up s granted) (unless_flush_rests s granted (part_begun p s c said granted)) (λ rests. taken_up_ends s granted its.1 (held_at s true rests its.1))
      (λ awake. lets_ends s granted (part_begun p s c said granted) its.1 (part_ends p s c said granted awake is its.0 (held_at s false awake its.1)))

  entered_ends : (s : KeeperState) (ask : Ask EnterAnswer) → s.step ≡ Enters → Hand s × (s.rests ≡ false) → KeeperEnds (enter_ledto s ask)
  unfolding enter_ledto
  entered_ends s (Done enter.Entered) at its = λ works. held_awake s its.1 its.0
  entered_ends s (Done enter.DrainFull) at its = λ works. held_awake s its.1 its.0
  entered_ends s (Done enter.EpochsSpent) at its = λ works. held_awake s its.1 its.0
  entered_ends s (Done enter.Idle) at its = λ works. held_awake s its.1 its.0
  entered_ends s ask at its = stays s Enters at its

  copied_first : (rests : Bool) (found : Option Commit) → HandFirst found → HandFirst (copied rests found)
  copied_first rests None first c is = cc
  copied_first rests (Some d) first c is = subst (λ (x : Commit). F x.number x.first) (some_same is) (first d refl)

  copied_ends : (s : KeeperState) (ask : Ask (Unit {0})) → s.step ≡ Copies → HandFirst s.commit × (s.has_points ≡ true → ⊥) × (s.rests ≡ false) → KeeperEnds (copy_ledto s ask)
  unfolding copy_ledto
  copied_ends s (Done its) at known = λ works. held_awake (record s { commit = copied (is_copy_resting s.copy) s.commit }) known.2 (record { first = copied_first (is_copy_resting s.copy) s.commit known.0; end = λ c is points. absurd (known.1 points) })
  copied_ends s ask at known = stays s Copies at known

  -- ---- as its points are sought
  points_ends : (commit : Option Commit) (copy : Option Copier) (s : SeekState) → SeekEnds commit copy (points_from s).step
  points_ends commit copy s = either_seek commit copy (nat_lt (length s.points) s.sessions) (record s { step = seek.LoadsCut }) (record s { step = seek.StoresWaitFlush }) tt tt

  taken_ends : (commit : Option Commit) (copy : Option Copier) (s : SeekState) (serial : ℕ) → SeekEnds commit copy (point_taken s serial).step
  taken_ends commit copy s serial = points_ends commit copy (with_point s serial)

  held_ends : (commit : Option Commit) (copy : Option Copier) (s : SeekState) (ask : Ask DeferAnswer) → s.step ≡ seek.SeeksSlot → SeekEnds commit copy (slot_led s ask).step
  unfolding slot_led
  held_ends commit copy s (Done Held) at = points_ends commit copy s
  held_ends commit copy s (Done Spent) at = tt
  held_ends commit copy s (Done its) at = tt
  held_ends commit copy s ask at = subst (SeekEnds commit copy) (sym at) tt

  armed_ends : (commit : Option Commit) (copy : Option Copier) (end : Addr) (s : SeekState) (ask : Ask DeferAnswer) → s.step ≡ seek.Defers end → EndsAt commit copy end → SeekEnds commit copy (defer_led end s ask).step
  unfolding defer_led
  armed_ends commit copy end s (Done (Armed epoch)) at ends = ends
  armed_ends commit copy end s (Done its) at ends = tt
  armed_ends commit copy end s ask at ends = subst (SeekEnds commit copy) (sym at) ends

  seek_ends : (commit : Option Commit) (copy : Option Copier) (s : SeekState) (step : Seeking) (reply : ℕ) → s.step ≡ step → SeekEnds commit copy step → (step ≡ seek.LoadsTail → EndsAt commit copy (record { 0 = reply }))
      → SeekEnds commit copy (seeking_next s step reply).step
  unfolding seeking_next
  seek_ends commit copy s (seek.Ended its) reply at ends tail = subst (SeekEnds commit copy) (sym at) ends
  seek_ends commit copy s (seek.LoadsOwing session) reply at ends tail = either_seek commit copy (reply == 0) (owing_from s (session + 1)) (record s { step = seek.Ended sought.Owing }) (owing_ends commit copy s (session + 1)) tt
  seek_ends commit copy s seek.SeeksSlot reply at ends tail = held_ends commit copy (record s { defer = defer_next s.defer reply }) (defer_ask (defer_next s.defer reply)) at
  seek_ends commit copy s seek.LoadsCut reply at ends tail =
      either_seek commit copy (is_cut_of s.number.0 reply) (point_taken s (serial_said reply)) (record s { step = seek.LoadsOther reply }) (taken_ends commit copy s (serial_said reply)) tt
  seek_ends commit copy s (seek.LoadsOther first) reply at ends tail =
      either_seek commit copy (not (is_cut_of (s.number.0 + 1) reply)) (point_taken s (max (serial_said first) (serial_said reply))) (record s { step = seek.LoadsAgain }) (taken_ends commit copy s (max (serial_said first) (serial_said reply))) tt
  seek_ends commit copy s seek.LoadsAgain reply at ends tail = taken_ends commit copy s (serial_said reply)
  seek_ends commit copy s seek.StoresWaitFlush reply at ends tail = tt
  seek_ends commit copy s seek.LoadsTail reply at ends tail = tail refl
  seek_ends commit copy s (seek.RaisesReadOnly end) reply at ends tail = ends
  seek_ends commit copy s (seek.Defers end) reply at ends tail = armed_ends commit copy end (record s { defer = defer_next s.defer reply }) (defer_ask (defer_next s.defer reply)) at ends

  -- what it tells at its end
  abbrev SeekTells : Option Commit → Option Copier → Ask SeekAnswer → Type 0
  SeekTells commit copy (Done (sought.Taken end epoch)) = EndsAt commit copy end
  SeekTells commit copy ask = ⊤

  passed_seek : (commit : Option Commit) (copy : Option Copier) (ask : Ask DeferAnswer) → SeekTells commit copy (passed ask sought.Idle)
  unfolding passed
  passed_seek commit copy (Done its) = tt
  passed_seek commit copy (Load place) = tt
  passed_seek commit copy (Store place new) = tt
  passed_seek commit copy (Swap place new) = tt
  passed_seek commit copy (Cas place old new) = tt
  passed_seek commit copy (Add place count) = tt
  passed_seek commit copy (Max place count) = tt
  passed_seek commit copy (Put slot action) = tt
  passed_seek commit copy (Take slot) = tt

  seek_tells : (commit : Option Commit) (copy : Option Copier) (s : SeekState) (step : Seeking) → SeekEnds commit copy step → SeekTells commit copy (seeking_ask s step)
  unfolding seeking_ask
  seek_tells commit copy s (seek.Ended (sought.Taken end epoch)) ends = ends
  seek_tells commit copy s (seek.Ended sought.Idle) ends = tt
  seek_tells commit copy s (seek.Ended sought.Owing) ends = tt
  seek_tells commit copy s (seek.Ended sought.DrainFull) ends = tt
  seek_tells commit copy s (seek.Ended sought.EpochsSpent) ends = tt
  seek_tells commit copy s (seek.LoadsOwing session) ends = tt
  seek_tells commit copy s seek.SeeksSlot ends = passed_seek commit copy (defer_ask s.defer)
  seek_tells commit copy s seek.LoadsCut ends = tt
  seek_tells commit copy s (seek.LoadsOther first) ends = tt
  seek_tells commit copy s seek.LoadsAgain ends = tt
  seek_tells commit copy s seek.StoresWaitFlush ends = tt
  seek_tells commit copy s seek.LoadsTail ends = tt
  seek_tells commit copy s (seek.RaisesReadOnly end) ends = tt
  seek_tells commit copy s (seek.Defers end) ends = passed_seek commit copy (defer_ask s.defer)

  known_ends : (found : Option Commit) (copy : Option Copier) (end : Addr) (epoch : ℕ) → HandFirst found → IsCopied found → EndsAt found copy end → HandEnds (points_known found end epoch) true copy
  known_ends None copy end epoch first is_copied ends = none_hand None true copy refl
  known_ends (Some c) copy end epoch first is_copied ends = record {
    first = λ d is. subst (λ (x : Commit). F x.number x.first) (some_same is) (first c refl);
    end = λ d is points. subst (λ (x : Commit). (x.is_copied ≡ true) × E (span_in x x.end (triples_written x.kind copy))) (some_same is) (is_copied c refl, ends c refl);
  }

  sought_ends : (s : KeeperState) (ask : Ask SeekAnswer) → s.step ≡ Seeks → SeeksSo s s.seek.step → SeekTells s.commit s.copy ask → KeeperEnds (seek_ledto s ask)
  unfolding seek_ledto
  sought_ends s (Done (sought.Taken end epoch)) at its tells = λ works. held_awake (record s { commit = points_known s.commit end epoch; has_points = true }) its.awake (known_ends s.commit s.copy end epoch its.first its.copied tells)
  sought_ends s (Done sought.DrainFull) at its tells = λ works. held_awake s its.awake (no_end s.commit s.has_points s.copy its.first its.none_yet)
  sought_ends s (Done sought.EpochsSpent) at its tells = λ works. held_awake s its.awake (no_end s.commit s.has_points s.copy its.first its.none_yet)
  sought_ends s (Done sought.Owing) at its tells = λ works. held_awake s its.awake (no_end s.commit s.has_points s.copy its.first its.none_yet)
  sought_ends s (Done sought.Idle) at its tells = λ works. held_awake s its.awake (no_end s.commit s.has_points s.copy its.first its.none_yet)
  sought_ends s ask at its tells = stays s Seeks at its

  -- ---- as it waits, and is written
  begun_ends : (shape : Shape) (s : KeeperState) (found : Option Commit) → s.commit ≡ found → s.has_points ≡ true → Hand s → s.rests ≡ false → KeeperEnds (writes_begun shape s found)
  begun_ends shape s None here points hand awake = λ works. held_awake s awake hand
  begun_ends shape s (Some c) here points hand awake = (
    record {
      first = hand.first;
      end = λ d is. subst (λ (k : CommitKind). E (span_in d d.end (triples_written k s.copy))) (ap (λ (x : Commit). x.kind) (some_same (sym is ∙ here))) (hand.end d is points).1;
    },
    awake,
  )

  waited_ends : (shape : Shape) (s : KeeperState) (ask : Ask WaitAnswer) → s.step ≡ Waits → (s.has_points ≡ true) × Hand s × (s.rests ≡ false) → KeeperEnds (wait_ledto shape s ask)
  unfolding wait_ledto
  waited_ends shape s (Done wait.Flushed) at its = begun_ends shape s s.commit refl its.0 its.1 its.2
  waited_ends shape s (Done wait.NotYet) at its = λ works. held_awake s its.2 its.1
  waited_ends shape s (Done wait.Idle) at its = λ works. held_awake s its.2 its.1
  waited_ends shape s ask at its = stays s Waits at its

  finished_ends : (s : KeeperState) (found : Option Commit) → s.commit ≡ found → s.rests ≡ false → KeeperEnds (finished s found)
  finished_ends s None here awake = λ works. held_awake s awake (none_hand s.commit s.has_points s.copy here)
  finished_ends s (Some c) here awake = λ works. held_awake (finished s (Some c)) awake (none_hand None s.has_points s.copy refl)

  finish_ends : (s : KeeperState) (ask : Ask FinishAnswer) → s.step ≡ Finishes → s.rests ≡ false → KeeperEnds (finish_ledto s ask)
  unfolding finish_ledto
  finish_ends s (Done told) at awake = finished_ends s s.commit refl awake
  finish_ends s ask at awake = stays s Finishes at awake

  written_ends : (s : KeeperState) (found : Option Commit) (answer : WriteAnswer) → s.commit ≡ found → s.step ≡ Writes → WritesSo s × (s.rests ≡ false) → KeeperEnds (write_ledto s found answer)
  unfolding write_ledto
  written_ends s None answer here at its = λ works. held_awake s its.1 (none_hand s.commit s.has_points s.copy here)
  written_ends s (Some c) write.Written here at its = its.1
  written_ends s (Some c) write.Device here at its = either_ends (must_rest s) (turned (record s { rests = true })) s (λ yes. (λ works. its.0)) (λ no. stays s Writes at its)
  written_ends s (Some c) (write.Broken why) here at its = stays s Writes at its

  writes_ends : (s : KeeperState) (done : Bool) → s.step ≡ Writes → WritesSo s × (s.rests ≡ false) → KeeperEnds (writes_called s done)
  writes_ends s true at its = written_ends (record s { writes = commit_next s.writes true }) s.commit (commit_answer (commit_next s.writes true)) refl at its
  writes_ends s false at its = λ works. cc

  -- ---- each event
  seeks_on : (s : KeeperState) (reply : ℕ) → SeeksSo s s.seek.step → (s.seek.step ≡ seek.LoadsTail → EndsAt s.commit s.copy (record { 0 = reply })) → SeeksSo (record s { seek = seek_next s.seek reply }) (seek_next s.seek reply).step
  seeks_on s reply its tail = record { works = its.works; awake = its.awake; none_yet = its.none_yet; first = its.first; copied = its.copied; ends = seek_ends s.commit s.copy s.seek s.seek.step reply refl its.ends tail }

  pub replied_ends : (shape : Shape) (p : Places) (s : KeeperState) (step : Keeping) (reply : ℕ) (granted : Bool) → s.step ≡ step → KeepingEnds s step
      → ((number : Version) → step ≡ Starts → s.start.step ≡ start.LoadsTail number → F number (record { 0 = reply }))
      → (step ≡ Seeks → SeeksSo s s.seek.step → s.seek.step ≡ seek.LoadsTail → EndsAt s.commit s.copy (record { 0 = reply })) → KeeperEnds (keeping_next shape p s step reply granted)
  unfolding keeping_next
  replied_ends shape p s (Ended told) reply granted at its first end = stays s (Ended told) at its
  replied_ends shape p s Starts reply granted at its first end =
      let after : StartState = start_next s.start reply in
      let ends = start_ends s.start s.start.step reply refl its.1 (λ number loads. first number refl loads) in
      started_ends (record s { start = after }) (start_ask after) at its.0 ends (start_tells after after.step ends)
  replied_ends shape p s Maintains reply granted at its first end = maintained_ends (record s { maintain = maintain_next shape p s.maintain reply }) (maintain_ask shape p (maintain_next shape p s.maintain reply)) at its
  replied_ends shape p s LoadsPhase reply granted at its first end = phase_ends p s s.commit (phase_said reply) granted refl its
  replied_ends shape p s Enters reply granted at its first end = entered_ends (record s { enter = enter_next s.enter reply }) (enter_ask (enter_next s.enter reply)) at its
  replied_ends shape p s Copies reply granted at its first end = copied_ends (record s { copy = copy_driven s.copy reply }) (copy_told (copy_driven s.copy reply)) at its
  replied_ends shape p s Seeks reply granted at its first end =
      let after : SeekState = seek_next s.seek reply in
      let ends = seeks_on s reply its (λ loads. end refl its loads) in
      sought_ends (record s { seek = after }) (seek_ask after) at ends (seek_tells s.commit s.copy after after.step ends.ends)
  replied_ends shape p s Waits reply granted at its first end = waited_ends shape (record s { wait = wait_next s.wait reply }) (wait_ask (wait_next s.wait reply)) at its
  replied_ends shape p s Writes reply granted at its first end = stays s Writes at its
  replied_ends shape p s Finishes reply granted at its first end = finish_ends (record s { finish = finish_next s.finish reply }) (finish_ask s.seek.points (finish_next s.finish reply)) at its
  replied_ends shape p s Sweeps reply granted at its first end = sweep_moves KeeperEnds s reply (λ w. stays (record s { sweep = w }) Sweeps at its) (λ w works. its.1)

  pub given_ends : (shape : Shape) (p : Places) (s : KeeperState) (step : Keeping) (action : Action) → s.step ≡ step → KeepingEnds s step → KeeperEnds (keeping_given shape p s step action)
  unfolding keeping_given
  given_ends shape p s Maintains action at its = maintained_ends (record s { maintain = maintain_given s.maintain action }) (maintain_ask shape p (maintain_given s.maintain action)) at its
  given_ends shape p s step action at its = stays s step at its

  pub called_ends : (shape : Shape) (p : Places) (s : KeeperState) (step : Keeping) (done : Bool) (bytes : List ℕ) → s.step ≡ step → KeepingEnds s step → KeeperEnds (keeping_called shape p s step done bytes)
  unfolding keeping_called
  called_ends shape p s Maintains done bytes at its = maintained_ends (record s { maintain = maintain_called shape p s.maintain done bytes }) (maintain_ask shape p (maintain_called shape p s.maintain done bytes)) at its
  called_ends shape p s Writes done bytes at its = writes_ends s done at its
  called_ends shape p s Sweeps done bytes at its = sweep_reads KeeperEnds s done bytes (λ w. stays (record s { sweep = w }) Sweeps at its) (λ w works. its.1) (λ w works. cc)
  called_ends shape p s step done bytes at its = stays s step at its

  -- what is begun where no call is in hand
  turn_ends : (s : KeeperState) → (s.is_broken ≡ false → IsHeld s) → KeeperEnds (turn_asked s)
  turn_ends s hand =
      either_ends s.is_broken (ended s (TurnRefused fault.Broken)) (record s { maintain = parts_begun (serves_alone s) s.maintain; is_drain_full = false; step = Maintains }) (λ yes. hand) (λ no. (no, hand no))

  commit_ends : (s : KeeperState) (kind : CommitKind) → (s.is_broken ≡ false → IsHeld s) → KeeperEnds (commit_asked s kind)
  commit_ends s kind hand =
      either_ends s.is_broken (ended s (CommitRefused fault.Broken)) (if s.rests then ended s (CommitRefused fault.CommitRunning) else record s { start = start_begun s.start (asked_for s kind); step = Starts }) (λ yes. hand)
      (λ no. either_ends s.rests (ended s (CommitRefused fault.CommitRunning)) (record s { start = start_begun s.start (asked_for s kind); step = Starts }) (λ rests. hand) (λ awake. (hand no, tt)))

  idle_hand : (s : KeeperState) (step : Keeping) → is_in_hand step ≡ false → KeepingEnds s step → s.is_broken ≡ false → IsHeld s
  idle_hand s (Ended told) idle its = its
  idle_hand s step idle its = cc

  asked_ends : (s begun : KeeperState) → KeeperEnds s → ((s.is_broken ≡ false → IsHeld s) → KeeperEnds begun) → KeeperEnds (keeper_asked s begun)
  asked_ends s begun its next = by_hand (is_in_hand s.step) refl
    where
      by_hand : (b : Bool) → is_in_hand s.step ≡ b → KeeperEnds (if b then s else begun)
      by_hand true e = its
      by_hand false e = next (idle_hand s s.step e its)

  pub turn_asked_ends : (s : KeeperState) → KeeperEnds s → KeeperEnds (keeper_asked s (turn_asked s))
  turn_asked_ends s its = asked_ends s (turn_asked s) its (turn_ends s)

  pub commit_asked_ends : (s : KeeperState) (kind : CommitKind) → KeeperEnds s → KeeperEnds (keeper_asked s (commit_asked s kind))
  commit_asked_ends s kind its = asked_ends s (commit_asked s kind) its (commit_ends s kind)

  -- as a life begins
  pub opened_ends : (s : KeeperState) (step : Keeping) → s.step ≡ step → is_in_hand step ≡ false → s.commit ≡ None → s.rests ≡ false → KeeperEnds s
  opened_ends s (Ended told) at idle none awake = stays s (Ended told) at (λ works. held_awake s awake (none_hand s.commit s.has_points s.copy none))
  opened_ends s step at idle none awake = cc

-- ---- what is known at a moment is known at each later one
module _ (F G : Version → Addr → Type 0) (E H : Span → Type 0) (firsts : (number : Version) (first : Addr) → F number first → G number first) (ends : (x : Span) → E x → H x) where
  first_map : (commit : Option Commit) → HandFirst F E commit → HandFirst G H commit
  first_map commit its c is = firsts c.number c.first (its c is)

  hand_map : (commit : Option Commit) (has_points : Bool) (copy : Option Copier) → HandEnds F E commit has_points copy → HandEnds G H commit has_points copy
  hand_map commit has_points copy its =
      record { first = first_map commit its.first; end = λ c is points. let known = its.end c is points in (known.0, ends (span_in c c.end (triples_written c.kind copy)) known.1) }

  writes_map : (commit : Option Commit) (triples : List ℕ) → WritesEnds F E commit triples → WritesEnds G H commit triples
  writes_map commit triples its = record { first = first_map commit its.first; end = λ c is. ends (span_in c c.end triples) (its.end c is) }

  in_hand_map : (rests : Bool) (commit : Option Commit) (has_points : Bool) (copy : Option Copier) (triples : List ℕ) → InHand F E rests commit has_points copy triples → InHand G H rests commit has_points copy triples
  in_hand_map true commit has_points copy triples its = writes_map commit triples its
  in_hand_map false commit has_points copy triples its = hand_map commit has_points copy its

  held_map : (s : KeeperState) → IsHeld F E s → IsHeld G H s
  held_map s its = in_hand_map s.rests s.commit s.has_points s.copy s.writes.triples its

  at_map : (commit : Option Commit) (copy : Option Copier) (end : Addr) → EndsAt F E commit copy end → EndsAt G H commit copy end
  at_map commit copy end its c is = ends (span_in c end (triples_written c.kind copy)) (its c is)

  start_map : (step : Starting) → StartEnds F E step → StartEnds G H step
  start_map (start.Defers number first) its = firsts number first its
  start_map (start.Ended (started.Begun number first)) its = firsts number first its
  start_map (start.Ended (started.Refused why)) its = tt
  start_map (start.Ended started.Idle) its = tt
  start_map start.LoadsPhase its = tt
  start_map (start.Seeks number) its = tt
  start_map (start.StoresPrepare number) its = tt
  start_map (start.LoadsTail number) its = tt

  seek_map : (commit : Option Commit) (copy : Option Copier) (step : Seeking) → SeekEnds F E commit copy step → SeekEnds G H commit copy step
  seek_map commit copy (seek.RaisesReadOnly end) its = at_map commit copy end its
  seek_map commit copy (seek.Defers end) its = at_map commit copy end its
  seek_map commit copy (seek.Ended (sought.Taken end epoch)) its = at_map commit copy end its
  seek_map commit copy (seek.Ended sought.Idle) its = tt
  seek_map commit copy (seek.Ended sought.Owing) its = tt
  seek_map commit copy (seek.Ended sought.DrainFull) its = tt
  seek_map commit copy (seek.Ended sought.EpochsSpent) its = tt
  seek_map commit copy (seek.LoadsOwing session) its = tt
  seek_map commit copy seek.SeeksSlot its = tt
  seek_map commit copy seek.LoadsCut its = tt
  seek_map commit copy (seek.LoadsOther first) its = tt
  seek_map commit copy seek.LoadsAgain its = tt
  seek_map commit copy seek.StoresWaitFlush its = tt
  seek_map commit copy seek.LoadsTail its = tt

  pub keeping_map : (s : KeeperState) (step : Keeping) → KeepingEnds F E s step → KeepingEnds G H s step
  keeping_map s (Ended told) its = λ works. held_map s (its works)
  keeping_map s Starts its = (held_map s its.0, start_map s.start.step its.1)
  keeping_map s Maintains its = (its.0, held_map s its.1)
  keeping_map s LoadsPhase its = (its.0, held_map s its.1)
  keeping_map s Sweeps its = (its.0, held_map s its.1)
  keeping_map s Copies its = (first_map s.commit its.0, its.1, its.2)
  keeping_map s Seeks its = record { works = its.works; awake = its.awake; none_yet = its.none_yet; first = first_map s.commit its.first; copied = its.copied; ends = seek_map s.commit s.copy s.seek.step its.ends }
  keeping_map s Waits its = (its.0, hand_map s.commit s.has_points s.copy its.1, its.2)
  keeping_map s Writes its = (writes_map s.commit s.writes.triples its.0, its.1)
  keeping_map s Finishes its = its
  keeping_map s Enters its = (hand_map s.commit s.has_points s.copy its.0, its.1)
