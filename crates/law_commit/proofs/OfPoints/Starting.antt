-- What the keeper knows of the commit that it starts and has in hand, whatever is said of the commit's number.
use Rattle.std.proofs.Common.{◌≡◌, ◌⊎◌, inl, inr, ℕ, ◌∙◌, refl, ap, sym, subst, Bool, true, false}
use Rattle.std.specs.Prelude.{⊤, nat_le, if◌then◌else◌, Option, Some, None}
use Rattle.fkv_base.specs.Limits.{last_of}
use Rattle.fkv_base.specs.declared.faults.Fault.TheVariants as fault
use Rattle.fkv_base.specs.declared.numbers.Addr.{Addr}
use Rattle.fkv_base.specs.declared.numbers.Version.{Version}
use Rattle.fkv_base.specs.declared.phases.Phase.TheVariants as phase
use Rattle.fkv_base.specs.declared.shapes.Shape.{Shape}
use Rattle.fkv_words.specs.declared.phase_words.PhaseSaid.{PhaseSaid}
use Rattle.fkv_words.specs.declared.phase_words.PhaseSaid.TheVariants.{Says, Spoiled}
use Rattle.fkv_words.specs.PhaseWords.{phase_said}
use Rattle.fkv_plane.specs.declared.asks.Ask.{Ask}
use Rattle.fkv_plane.specs.declared.asks.Ask.TheVariants.{Done}
use Rattle.fkv_plane.specs.declared.places.Places.{Places}
use Rattle.law_refine.specs.Below.fkv_commit.Commit.{Commit}
use Rattle.law_refine.specs.Below.fkv_commit.DeferAnswer.{DeferAnswer}
use Rattle.law_refine.specs.Below.fkv_commit.DeferAnswer.TheVariants.{Armed, Held, Spent}
use Rattle.law_refine.specs.Below.fkv_commit.StartAnswer.{StartAnswer}
use Rattle.law_refine.specs.Below.fkv_commit.StartAnswer.TheVariants as started
use Rattle.law_refine.specs.Below.fkv_commit.TheStarting.{Starting}
use Rattle.law_refine.specs.Below.fkv_commit.TheStarting.TheVariants as start
use Rattle.law_refine.specs.Below.fkv_commit.Commits.{commit_begun}
use Rattle.law_refine.specs.Below.fkv_commit.Deferring.{defer_ask, defer_begun, defer_next}
use Rattle.law_refine.specs.Below.fkv_commit.Starting.{StartState, defer_led, is_lost_full, phase_found, refused, seek_led, start_ask, start_begun, start_next, starting_ask, starting_next}
use Rattle.law_refine.specs.Below.fkv_keeper.KeeperTold.TheVariants.{CommitRefused, TurnRefused}
use Rattle.law_refine.specs.Below.fkv_keeper.TheKeeping.{Keeping}
use Rattle.law_refine.specs.Below.fkv_keeper.TheKeeping.TheVariants.{Ended, Starts, Maintains, LoadsPhase, Enters, Copies, Seeks, Waits, Writes, Finishes, Sweeps}
use Rattle.law_refine.specs.Below.fkv_keeper.CheckpointLaws.{IsCommitAfter, MayFollow}
use Rattle.law_refine.specs.Below.fkv_keeper.Keeping.{KeeperState, ended, keeping_called, keeping_given, keeping_next, start_ledto, asked_for, begin_next}
use Rattle.law_refine.specs.Below.fkv_keeper.KeeperRun.{BeginsCommit, BeginsTurn, Calls, Gets, KeeperEvent, Replies, is_in_hand, keeper_happens}
use Rattle.law_refine.proofs.Below.fkv_keeper.Shown.{each_move}
use Rattle.law_refine.proofs.Below.law_world.OfStanding.Runs.{happens_at}
use Rattle.law_commit.proofs.BegunStands.{there}
use Rattle.law_commit.proofs.InRest.{follows_or_writes}
use Rattle.law_commit.proofs.InTurn.{not_none, some_commit}
use Rattle.law_commit.proofs.OfPoints.Taking.{passed_end}

-- `R number`: what is said of the number
module _ (R : ℕ → Type 0) where
  abbrev pub StartSays : Starting → Type 0
  StartSays (start.Seeks number) = R number.0
  StartSays (start.StoresPrepare number) = R number.0
  StartSays (start.LoadsTail number) = R number.0
  StartSays (start.Defers number first) = R number.0
  StartSays (start.Ended (started.Begun number first)) = R number.0
  StartSays step = ⊤

  abbrev pub HandSays : Option Commit → Type 0
  HandSays commit = (c : Commit) → commit ≡ Some c → R c.number.0

  abbrev pub KeepingSays : KeeperState → Keeping → Type 0
  KeepingSays s Starts = StartSays s.start.step
  KeepingSays s step = ⊤

  pub record KeeperSays (s : KeeperState) : Type 0 where
    pub hand : HandSays s.commit
    pub step : KeepingSays s s.step

  -- ---- as it starts
  either_start : (c : Bool) (a b : StartState) → StartSays a.step → StartSays b.step → StartSays (if c then a else b).step
  either_start true a b one other = one
  either_start false a b one other = other

  found_says : (s : StartState) (said : PhaseSaid) → ((number : Version) → said ≡ Says phase.Rest number → R number.0) → StartSays (phase_found s said).step
  found_says s (Says phase.Rest number) on =
      either_start (nat_le (last_of s.asked.class) number.0) (refused s fault.VersionsSpent) (if is_lost_full s.asked number.0 then refused s fault.LostFull else record s { defer = defer_begun s.defer; step = start.Seeks number }) tt
      (either_start (is_lost_full s.asked number.0) (refused s fault.LostFull) (record s { defer = defer_begun s.defer; step = start.Seeks number }) tt (on number refl))
  found_says s (Says phase.Prepare number) on = tt
  found_says s (Says phase.InProgress number) on = tt
  found_says s (Says phase.WaitPending number) on = tt
  found_says s (Says phase.WaitFlush number) on = tt
  found_says s Spoiled on = tt

  seek_says : (number : Version) (s : StartState) (ask : Ask DeferAnswer) → s.step ≡ start.Seeks number → R number.0 → StartSays (seek_led number s ask).step
  unfolding seek_led
  seek_says number s (Done Held) at its = its
  seek_says number s (Done Spent) at its = tt
  seek_says number s (Done other) at its = tt
  seek_says number s ask at its = subst StartSays (sym at) its

  defer_says : (number : Version) (first : Addr) (s : StartState) (ask : Ask DeferAnswer) → s.step ≡ start.Defers number first → R number.0 → StartSays (defer_led number first s ask).step
  unfolding defer_led
  defer_says number first s (Done (Armed epoch)) at its = its
  defer_says number first s (Done other) at its = tt
  defer_says number first s ask at its = subst StartSays (sym at) its

  -- what a reply tells
  abbrev pub StartReply : Starting → ℕ → Type 0
  StartReply start.LoadsPhase reply = (number : Version) → phase_said reply ≡ Says phase.Rest number → R number.0
  StartReply step reply = ⊤

  start_says : (s : StartState) (step : Starting) (reply : ℕ) → s.step ≡ step → StartSays step → StartReply step reply → StartSays (starting_next s step reply).step
  unfolding starting_next
  start_says s (start.Ended its) reply at says tells = subst StartSays (sym at) says
  start_says s start.LoadsPhase reply at says tells = found_says s (phase_said reply) tells
  start_says s (start.Seeks number) reply at says tells = seek_says number (record s { defer = defer_next s.defer reply }) (defer_ask (defer_next s.defer reply)) at says
  start_says s (start.StoresPrepare number) reply at says tells = says
  start_says s (start.LoadsTail number) reply at says tells = says
  start_says s (start.Defers number first) reply at says tells = defer_says number first (record s { defer = defer_next s.defer reply }) (defer_ask (defer_next s.defer reply)) at says

  -- where it tells that the commit has begun
  begun_says : (s : StartState) (step : Starting) (number : Version) (first : Addr) → StartSays step → starting_ask s step ≡ Done (started.Begun number first) → R number.0
  unfolding starting_ask
  begun_says s (start.Ended (started.Begun its at)) number first says is = let same : its ≡ number = cc in subst (λ (v : Version). R v.0) same says
  begun_says s (start.Ended (started.Refused why)) number first says is = cc
  begun_says s (start.Ended started.Idle) number first says is = cc
  begun_says s start.LoadsPhase number first says is = cc
  begun_says s (start.Seeks its) number first says is = (let same : started.Idle ≡ started.Begun number first = passed_end (defer_ask s.defer) started.Idle (started.Begun number first) is in cc)
  begun_says s (start.StoresPrepare its) number first says is = cc
  begun_says s (start.LoadsTail its) number first says is = cc
  begun_says s (start.Defers its at) number first says is = (let same : started.Idle ≡ started.Begun number first = passed_end (defer_ask s.defer) started.Idle (started.Begun number first) is in cc)

  starts_say : (s : KeeperState) (ask : Ask StartAnswer) → s.step ≡ Starts → start_ask s.start ≡ ask → HandSays s.commit → StartSays s.start.step → KeeperSays (start_ledto s ask)
  unfolding start_ledto
  starts_say s (Done (started.Begun number first)) at asks hand says = record {
    hand = λ c is. let its = begun_says s.start s.start.step number first says asks in let same : commit_begun number s.start.asked.kind (begin_next s first) first ≡ c = cc in subst (λ (x : Commit). R x.number.0) same its;
    step = tt;
  }
  starts_say s (Done (started.Refused why)) at asks hand says = record { hand = hand; step = tt }
  starts_say s (Done started.Idle) at asks hand says = record { hand = hand; step = tt }
  starts_say s ask at asks hand says = record { hand = hand; step = subst (KeepingSays s) (sym at) says }

  stays : (s : KeeperState) (step : Keeping) → s.step ≡ step → HandSays s.commit → KeepingSays s step → KeeperSays s
  stays s step at hand says = record { hand = hand; step = subst (KeepingSays s) (sym at) says }

  starts_led : (shape : Shape) (p : Places) (s : KeeperState) (event : KeeperEvent) → s.step ≡ Starts → ((reply : ℕ) (granted : Bool) → event ≡ Replies reply granted → StartReply s.start.step reply) → HandSays s.commit → StartSays s.start.step
      → KeeperSays (happens_at shape p s Starts event)
  unfolding keeping_next keeping_given keeping_called
  starts_led shape p s BeginsTurn at tells hand says = stays s Starts at hand says
  starts_led shape p s (BeginsCommit kind) at tells hand says = stays s Starts at hand says
  starts_led shape p s (Replies reply granted) at tells hand says =
      starts_say (record s { start = start_next s.start reply }) (start_ask (start_next s.start reply)) at refl hand (start_says s.start s.start.step reply refl says (tells reply granted refl))
  starts_led shape p s (Gets action) at tells hand says = stays s Starts at hand says
  starts_led shape p s (Calls done bytes) at tells hand says = stays s Starts at hand says

  -- ---- where no call is in hand
  either_says : (c : Bool) (a b : KeeperState) → KeeperSays a → KeeperSays b → KeeperSays (if c then a else b)
  either_says true a b one other = one
  either_says false a b one other = other

  ended_led : (shape : Shape) (p : Places) (s : KeeperState) (event : KeeperEvent) (told : _) → s.step ≡ Ended told → HandSays s.commit → KeeperSays (happens_at shape p s (Ended told) event)
  unfolding keeping_next keeping_given keeping_called
  ended_led shape p s BeginsTurn told at hand = either_says s.is_broken (ended s (TurnRefused fault.Broken)) _ (record { hand = hand; step = tt }) (record { hand = hand; step = tt })
  ended_led shape p s (BeginsCommit kind) told at hand =
      either_says s.is_broken (ended s (CommitRefused fault.Broken)) (if s.rests then ended s (CommitRefused fault.CommitRunning) else record s { start = start_begun s.start (asked_for s kind); step = Starts }) (record { hand = hand; step = tt })
      (either_says s.rests (ended s (CommitRefused fault.CommitRunning)) (record s { start = start_begun s.start (asked_for s kind); step = Starts }) (record { hand = hand; step = tt }) (record { hand = hand; step = tt }))
  ended_led shape p s (Replies reply granted) told at hand = stays s (Ended told) at hand tt
  ended_led shape p s (Gets action) told at hand = stays s (Ended told) at hand tt
  ended_led shape p s (Calls done bytes) told at hand = stays s (Ended told) at hand tt

  -- ---- elsewhere
  hand_after : (s a : KeeperState) (found : Option Commit) → s.commit ≡ found → (s.step ≡ Starts → ⊥) → HandSays s.commit → IsCommitAfter found s a → HandSays a.commit
  hand_after s a None was other hand (inl none) = λ c is. absurd (not_none a.commit c none is)
  hand_after s a None was other hand (inr begun) = absurd (other begun.starts)
  hand_after s a (Some b) was other hand (inl goes) = λ c is.
      let same : goes.commit ≡ c = some_commit a.commit goes.commit c goes.in_hand is in
      let number : b.number ≡ c.number = sym goes.number ∙ ap (λ (x : Commit). x.number) same in
      subst (λ (v : Version). R v.0) number (hand b was)
  hand_after s a (Some b) was other hand (inr (inl over)) = λ c is. absurd (not_none a.commit c over.none_in_hand is)
  hand_after s a (Some b) was other hand (inr (inr begun)) = absurd (other begun.starts)

  -- no start follows
  abbrev IsElsewhere : Keeping → Type 0
  IsElsewhere (Ended told) = ⊥
  IsElsewhere Starts = ⊥
  IsElsewhere step = ⊤

  no_start : (step : Keeping) → IsElsewhere step → MayFollow step Starts → ⊥
  no_start (Ended told) elsewhere follows = elsewhere
  no_start Starts elsewhere follows = elsewhere
  no_start Maintains elsewhere follows = follows
  no_start LoadsPhase elsewhere follows = follows
  no_start Enters elsewhere follows = follows
  no_start Copies elsewhere follows = follows
  no_start Sweeps elsewhere follows = follows
  no_start Seeks elsewhere follows = follows
  no_start Waits elsewhere follows = follows
  no_start Writes elsewhere follows = follows
  no_start Finishes elsewhere follows = follows

  step_after : (a : KeeperState) (step after : Keeping) → IsElsewhere step → MayFollow step after → KeepingSays a after
  step_after a step Starts elsewhere follows = absurd (no_start step elsewhere follows)
  step_after a step (Ended told) elsewhere follows = tt
  step_after a step Maintains elsewhere follows = tt
  step_after a step LoadsPhase elsewhere follows = tt
  step_after a step Enters elsewhere follows = tt
  step_after a step Copies elsewhere follows = tt
  step_after a step Sweeps elsewhere follows = tt
  step_after a step Seeks elsewhere follows = tt
  step_after a step Waits elsewhere follows = tt
  step_after a step Writes elsewhere follows = tt
  step_after a step Finishes elsewhere follows = tt

  not_start : (step : Keeping) → IsElsewhere step → step ≡ Starts → ⊥
  not_start Starts elsewhere is = elsewhere
  not_start step elsewhere is = cc

  elsewhere_says : (shape : Shape) (p : Places) (s : KeeperState) (event : KeeperEvent) (step : Keeping) → s.step ≡ step → IsElsewhere step → HandSays s.commit → KeeperSays (keeper_happens shape p s event)
  elsewhere_says shape p s event step at elsewhere hand =
      let a : KeeperState = keeper_happens shape p s event in
      let move = each_move shape p s event in
      record {
        hand = hand_after s a s.commit refl (λ starts. not_start step elsewhere (sym at ∙ starts)) hand move.copies.commit;
        step = by a (follows_or_writes s.rests s.step a.step move.one.steps);
      }
    where
      by : (a : KeeperState) → MayFollow s.step a.step ⊎ (a.step ≡ Writes) → KeepingSays a a.step
      by a (inl follows) = step_after a step a.step elsewhere (subst (λ (x : Keeping). MayFollow x a.step) at follows)
      by a (inr writes) = subst (λ (x : Keeping). KeepingSays a x) (sym writes) tt

  -- ---- each of them
  step_says : (shape : Shape) (p : Places) (s : KeeperState) (event : KeeperEvent) (step : Keeping) → s.step ≡ step → ((reply : ℕ) (granted : Bool) → event ≡ Replies reply granted → step ≡ Starts → StartReply s.start.step reply) → HandSays s.commit → KeepingSays s step
      → KeeperSays (keeper_happens shape p s event)
  step_says shape p s event Starts at tells hand says = subst KeeperSays (there shape p s event Starts at) (starts_led shape p s event at (λ reply granted is. tells reply granted is refl) hand says)
  step_says shape p s event (Ended told) at tells hand says = subst KeeperSays (there shape p s event (Ended told) at) (ended_led shape p s event told at hand)
  step_says shape p s event Maintains at tells hand says = elsewhere_says shape p s event Maintains at tt hand
  step_says shape p s event LoadsPhase at tells hand says = elsewhere_says shape p s event LoadsPhase at tt hand
  step_says shape p s event Enters at tells hand says = elsewhere_says shape p s event Enters at tt hand
  step_says shape p s event Copies at tells hand says = elsewhere_says shape p s event Copies at tt hand
  step_says shape p s event Sweeps at tells hand says = elsewhere_says shape p s event Sweeps at tt hand
  step_says shape p s event Seeks at tells hand says = elsewhere_says shape p s event Seeks at tt hand
  step_says shape p s event Waits at tells hand says = elsewhere_says shape p s event Waits at tt hand
  step_says shape p s event Writes at tells hand says = elsewhere_says shape p s event Writes at tt hand
  step_says shape p s event Finishes at tells hand says = elsewhere_says shape p s event Finishes at tt hand

  pub event_says : (shape : Shape) (p : Places) (s : KeeperState) (event : KeeperEvent) → ((reply : ℕ) (granted : Bool) → event ≡ Replies reply granted → s.step ≡ Starts → StartReply s.start.step reply) → KeeperSays s → KeeperSays (keeper_happens shape p s event)
  event_says shape p s event tells its = step_says shape p s event s.step refl tells its.hand its.step

  -- as a life begins, and where neither a call nor a commit is in hand
  idle_step : (s : KeeperState) (step : Keeping) → is_in_hand step ≡ false → KeepingSays s step
  idle_step s (Ended told) idle = tt
  idle_step s step idle = cc

  pub idle_says : (s : KeeperState) → is_in_hand s.step ≡ false → s.commit ≡ None → KeeperSays s
  idle_says s idle none = record { hand = λ c is. absurd (not_none s.commit c none is); step = idle_step s s.step idle }

-- ---- what is said goes on
start_on : (R Q : ℕ → Type 0) (step : Starting) → ((number : ℕ) → R number → Q number) → StartSays R step → StartSays Q step
start_on R Q (start.Seeks number) on says = on number.0 says
start_on R Q (start.StoresPrepare number) on says = on number.0 says
start_on R Q (start.LoadsTail number) on says = on number.0 says
start_on R Q (start.Defers number first) on says = on number.0 says
start_on R Q (start.Ended (started.Begun number first)) on says = on number.0 says
start_on R Q (start.Ended (started.Refused why)) on says = tt
start_on R Q (start.Ended started.Idle) on says = tt
start_on R Q start.LoadsPhase on says = tt

keeping_on : (R Q : ℕ → Type 0) (s : KeeperState) (step : Keeping) → ((number : ℕ) → R number → Q number) → KeepingSays R s step → KeepingSays Q s step
keeping_on R Q s Starts on says = start_on R Q s.start.step on says
keeping_on R Q s (Ended told) on says = tt
keeping_on R Q s Maintains on says = tt
keeping_on R Q s LoadsPhase on says = tt
keeping_on R Q s Enters on says = tt
keeping_on R Q s Copies on says = tt
keeping_on R Q s Sweeps on says = tt
keeping_on R Q s Seeks on says = tt
keeping_on R Q s Waits on says = tt
keeping_on R Q s Writes on says = tt
keeping_on R Q s Finishes on says = tt

pub says_on : (R Q : ℕ → Type 0) (s : KeeperState) → ((number : ℕ) → R number → Q number) → KeeperSays R s → KeeperSays Q s
says_on R Q s on its = record { hand = λ c is. on c.number.0 (its.hand c is); step = keeping_on R Q s s.step on its.step }
