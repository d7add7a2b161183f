-- A commit that begins: as long as it asks nothing is begun, and at its end the commit in hand is the one that has begun, or the one of before.
use Rattle.std.proofs.Common.{◌≡◌, ◌∙◌, ℕ, refl, sym, subst, Bool, true, false}
use Rattle.std.specs.Prelude.{Option, Some, if◌then◌else◌, Result}
use Rattle.fkv_base.specs.declared.faults.Fault.{Fault}
use Rattle.fkv_base.specs.declared.faults.Fault.TheVariants as fault
use Rattle.fkv_base.specs.declared.numbers.Version.{Version}
use Rattle.fkv_base.specs.declared.shapes.Shape.{Shape}
use Rattle.fkv_plane.specs.declared.asks.Ask.{Ask}
use Rattle.fkv_plane.specs.declared.asks.Ask.TheVariants.{Load, Store, Swap, Cas, Add, Max, Put, Take, Done}
use Rattle.fkv_plane.specs.declared.places.Places.{Places}
use Rattle.fkv_plane.specs.Passing.{is_done, passed}
use Rattle.fkv_commit.specs.declared.commits.Commit.{Commit}
use Rattle.fkv_base.specs.declared.commits.CommitKind.{CommitKind}
use Rattle.fkv_commit.specs.declared.starting.StartAnswer.{StartAnswer}
use Rattle.fkv_commit.specs.declared.starting.StartAnswer.TheVariants as start
use Rattle.fkv_commit.specs.Starting.{start_begun, start_ask, start_next}
use Rattle.fkv_keeper.specs.declared.answers.KeeperTold.{KeeperTold}
use Rattle.fkv_keeper.specs.declared.answers.KeeperTold.TheVariants.{Begun, CommitRefused}
use Rattle.fkv_keeper.specs.declared.keepers.Keeping.{Keeping}
use Rattle.fkv_keeper.specs.declared.keepers.Keeping.TheVariants.{Ended, Starts}
use Rattle.fkv_keeper.specs.Keeping.{KeeperState, asked_for, ended, keeping_ask, keeper_ask, start_ledto, keeping_next, keeper_next, commit_asked}
use Rattle.fkv_keeper.specs.Running.{IsBeginTold, IsCommitBegun}
use Rattle.fkv_epoch.specs.Claiming.{takes_action}
use Rattle.fkv_keeper.specs.Answers.{is_busy}
use Rattle.fkv_maintain.proofs.Shown.{passed_takes}
use Rattle.fkv_keeper.proofs.KeeperLeft.{never}
use Rattle.fkv_keeper.proofs.KeeperTakes.{starting_takes}

abbrev pub Begins : Option Commit → KeeperState → Keeping → Type 0
Begins before s Starts = s.commit ≡ before
Begins before s (Ended (Begun number)) = (c : Commit) × (s.commit ≡ Some c) × (c.number ≡ number)
Begins before s (Ended (CommitRefused why)) = s.commit ≡ before
Begins before s step = ⊥

either : (before : Option Commit) (b : Bool) (x y : KeeperState) → Begins before x x.step → Begins before y y.step → Begins before (if b then x else y) (if b then x else y).step
either before true x y one other = one
either before false x y one other = other

pub begins_first : (s : KeeperState) (kind : CommitKind) → Begins s.commit (commit_asked s kind) (commit_asked s kind).step
begins_first s kind = either s.commit s.is_broken _ _ refl (either s.commit s.rests _ _ refl refl)

either_commit : (before : Option Commit) (b : Bool) (x y : KeeperState) → x.commit ≡ before → y.commit ≡ before → (if b then x else y).commit ≡ before
either_commit before true x y one other = one
either_commit before false x y one other = other

pub asked_keeps : (s : KeeperState) (kind : CommitKind) → (commit_asked s kind).commit ≡ s.commit
asked_keeps s kind = either_commit s.commit s.is_broken _ _ refl (either_commit s.commit s.rests _ _ refl refl)

inside : (before : Option Commit) (s : KeeperState) → s.step ≡ Starts → s.commit ≡ before → Begins before s s.step
inside before s at same = rw at same

start_led : (before : Option Commit) (s : KeeperState) (ask : Ask StartAnswer) → s.step ≡ Starts → s.commit ≡ before → Begins before (start_ledto s ask) (start_ledto s ask).step
unfolding start_ledto
start_led before s (Done (start.Begun number first)) at same = (_, refl, refl)
start_led before s (Done (start.Refused why)) at same = same
start_led before s (Done start.Idle) at same = same
start_led before s ask at same = inside before s at same

begins_step : (before : Option Commit) (shape : Shape) (p : Places) (s : KeeperState) (step : Keeping) (reply : ℕ) (granted : Bool) → s.step ≡ step → Begins before s step → is_done (keeping_ask shape p s step) ≡ false
    → Begins before (keeping_next shape p s step reply granted) (keeping_next shape p s step reply granted).step
unfolding keeping_ask keeping_next
begins_step before shape p s Starts reply granted at begins asks = start_led before (record s { start = start_next s.start reply }) (start_ask (start_next s.start reply)) at begins
begins_step before shape p s (Ended its) reply granted at begins asks = never asks
begins_step before shape p s step reply granted at begins asks = absurd begins

pub begins_next : (before : Option Commit) (shape : Shape) (p : Places) (s : KeeperState) (reply : ℕ) (granted : Bool) → Begins before s s.step → is_done (keeper_ask shape p s) ≡ false
    → Begins before (keeper_next shape p s reply granted) (keeper_next shape p s reply granted).step
begins_next before shape p s reply granted begins asks = begins_step before shape p s s.step reply granted refl begins asks

-- at its end
passed_end : (before now : Option Commit) (ask : Ask StartAnswer) (told : KeeperTold) (result : Result Version Fault) → passed ask (CommitRefused fault.CommitRunning) ≡ Done told → IsBeginTold (Done told) result → now ≡ before → IsCommitBegun before now result
unfolding passed
passed_end before now (Done its) told result e ends same = let last : IsBeginTold (Done (CommitRefused fault.CommitRunning)) result = subst (λ (a : Ask KeeperTold). IsBeginTold a result) (sym e) ends in rw last same
passed_end before now (Load place) told result e ends same = cc
passed_end before now (Store place new) told result e ends same = cc
passed_end before now (Swap place new) told result e ends same = cc
passed_end before now (Cas place old new) told result e ends same = cc
passed_end before now (Add place k) told result e ends same = cc
passed_end before now (Max place k) told result e ends same = cc
passed_end before now (Put slot action) told result e ends same = cc
passed_end before now (Take slot) told result e ends same = cc

step_ends : (before : Option Commit) (shape : Shape) (p : Places) (s : KeeperState) (step : Keeping) (told : KeeperTold) (result : Result Version Fault) → Begins before s step → keeping_ask shape p s step ≡ Done told → IsBeginTold (Done told) result
    → IsCommitBegun before s.commit result
unfolding keeping_ask
step_ends before shape p s Starts told result begins e ends = passed_end before s.commit (start_ask s.start) told result e ends begins
step_ends before shape p s (Ended (Begun number)) told result begins e ends =
    let last : IsBeginTold (Done (Begun number)) result = subst (λ (a : Ask KeeperTold). IsBeginTold a result) (sym e) ends in rw last begins
step_ends before shape p s (Ended (CommitRefused why)) told result begins e ends =
    let last : IsBeginTold (Done (CommitRefused why)) result = subst (λ (a : Ask KeeperTold). IsBeginTold a result) (sym e) ends in rw last begins
step_ends before shape p s step told result begins e ends = absurd begins

pub begin_ends : (before : Option Commit) (shape : Shape) (p : Places) (s : KeeperState) (told : KeeperTold) (result : Result Version Fault) → Begins before s s.step → keeper_ask shape p s ≡ Done told → IsBeginTold (Done told) result
    → IsCommitBegun before s.commit result
begin_ends before shape p s told result begins e ends = step_ends before shape p s s.step told result begins e ends

step_stops : (before : Option Commit) (shape : Shape) (p : Places) (s : KeeperState) (step : Keeping) → Begins before s step → is_done (keeping_ask shape p s step) ≡ false → s.commit ≡ before
unfolding keeping_ask
step_stops before shape p s Starts begins asks = begins
step_stops before shape p s (Ended its) begins asks = never asks
step_stops before shape p s step begins asks = absurd begins

pub begin_stops : (before : Option Commit) (shape : Shape) (p : Places) (s : KeeperState) → Begins before s s.step → is_done (keeper_ask shape p s) ≡ false → s.commit ≡ before
begin_stops before shape p s begins asks = step_stops before shape p s s.step begins asks

-- where the device has failed in an earlier call
pub broken_begun : (shape : Shape) (p : Places) (s : KeeperState) (kind : CommitKind) → (commit_asked s kind).is_broken ≡ true
    → (keeper_ask shape p (commit_asked s kind) ≡ Done (CommitRefused fault.Broken)) × ((commit_asked s kind).commit ≡ s.commit)
unfolding keeping_ask
broken_begun shape p s kind broken = cases s.is_broken refl broken
  where
    first : KeeperState
    first = record s { start = start_begun s.start (asked_for s kind); step = Starts }

    asked : Bool → Bool → KeeperState
    asked b rests = if b then ended s (CommitRefused fault.Broken) else (if rests then ended s (CommitRefused fault.CommitRunning) else first)

    as_broken : (rests : Bool) → (asked false rests).is_broken ≡ s.is_broken
    as_broken true = refl
    as_broken false = refl

    cases : (b : Bool) → s.is_broken ≡ b → (asked b s.rests).is_broken ≡ true → (keeper_ask shape p (asked b s.rests) ≡ Done (CommitRefused fault.Broken)) × ((asked b s.rests).commit ≡ s.commit)
    cases true at broken = (refl, refl)
    cases false at broken = never (sym broken ∙ as_broken s.rests ∙ at)

-- it asks for words and slots alone, and at its end for nothing

passed_idle : (ask : Ask StartAnswer) (told : KeeperTold) → passed ask (CommitRefused fault.CommitRunning) ≡ Done told → is_busy (passed ask (CommitRefused fault.CommitRunning)) ≡ false
unfolding passed
passed_idle (Done its) told e = refl
passed_idle (Load place) told e = cc
passed_idle (Store place new) told e = cc
passed_idle (Swap place new) told e = cc
passed_idle (Cas place old new) told e = cc
passed_idle (Add place k) told e = cc
passed_idle (Max place k) told e = cc
passed_idle (Put slot action) told e = cc
passed_idle (Take slot) told e = cc

step_idle : (before : Option Commit) (shape : Shape) (p : Places) (s : KeeperState) (step : Keeping) (told : KeeperTold) → Begins before s step → keeping_ask shape p s step ≡ Done told → is_busy (keeping_ask shape p s step) ≡ false
unfolding keeping_ask
step_idle before shape p s Starts told begins e = passed_idle (start_ask s.start) told e
step_idle before shape p s (Ended (Begun number)) told begins e = refl
step_idle before shape p s (Ended (CommitRefused why)) told begins e = refl
step_idle before shape p s step told begins e = absurd begins

pub begin_idle : (before : Option Commit) (shape : Shape) (p : Places) (s : KeeperState) (told : KeeperTold) → Begins before s s.step → keeper_ask shape p s ≡ Done told → is_busy (keeper_ask shape p s) ≡ false
begin_idle before shape p s told begins e = step_idle before shape p s s.step told begins e

step_takes : (before : Option Commit) (shape : Shape) (p : Places) (s : KeeperState) (step : Keeping) → Begins before s step → takes_action (keeping_ask shape p s step) ≡ false
unfolding keeping_ask
step_takes before shape p s Starts begins = passed_takes (start_ask s.start) (CommitRefused fault.CommitRunning) ∙ starting_takes s.start
step_takes before shape p s (Ended its) begins = refl
step_takes before shape p s step begins = absurd begins

pub begin_takes : (before : Option Commit) (shape : Shape) (p : Places) (s : KeeperState) → Begins before s s.step → takes_action (keeper_ask shape p s) ≡ false
begin_takes before shape p s begins = step_takes before shape p s s.step begins
