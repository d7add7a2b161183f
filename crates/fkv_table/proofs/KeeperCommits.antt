-- A commit's beginning asks for no device, and makes no call of it.
use Rattle.std.proofs.Common.{◌≡◌, refl, sym, ap, subst, ◌∙◌, ℕ, Bool, true, false, List, ◌++◌}
use Rattle.std.specs.Prelude.{Option, Some, None, if◌then◌else◌}
use Rattle.atomic_table.specs.Table.{Me}
use Rattle.fkv_base.specs.declared.commits.CommitKind.{CommitKind}
use Rattle.fkv_base.specs.declared.faults.Fault.{Fault}
use Rattle.fkv_base.specs.declared.faults.Fault.TheVariants.{Broken, CommitRunning}
use Rattle.fkv_base.specs.declared.shapes.Shape.{Shape}
use Rattle.law_world.specs.Below.fkv_commit.StartAnswer.{StartAnswer}
use Rattle.law_world.specs.Below.fkv_commit.StartAnswer.TheVariants as start
use Rattle.law_world.specs.Below.fkv_commit.Starting.{start_ask, start_begun, start_next}
use Rattle.fkv_plane.specs.Passing.{passed}
use Rattle.fkv_plane.specs.declared.actions.Action.{Action}
use Rattle.fkv_plane.specs.declared.asks.Ask.{Ask}
use Rattle.fkv_plane.specs.declared.asks.Ask.TheVariants.{Load, Store, Swap, Cas, Add, Max, Put, Take, Done}
use Rattle.fkv_plane.specs.declared.places.Places.{Places}
use Rattle.fkv_keeper.specs.declared.answers.KeeperTold.{KeeperTold}
use Rattle.fkv_keeper.specs.declared.answers.KeeperTold.TheVariants.{Device, Turned, TurnRefused, Begun, CommitRefused}
use Rattle.fkv_keeper.specs.declared.keepers.Keeping.{Keeping}
use Rattle.fkv_keeper.specs.declared.keepers.Keeping.TheVariants.{Ended, Starts, Maintains, LoadsPhase, Enters, Copies, Seeks, Waits, Writes, Finishes, Sweeps}
use Rattle.fkv_keeper.specs.Answers.{is_busy}
use Rattle.fkv_keeper.specs.Keeping.{KeeperModel, KeeperState, commit_asked, ended, keeper_ask, keeping_ask, keeping_given, keeping_next, start_ledto, asked_for}
use Rattle.law_world.specs.Below.fkv_world.Moves.{keeper_gets}
use Rattle.law_world.specs.Below.fkv_world.Runs.{World, happens, read_by_keeper}
use Rattle.law_world.specs.Below.fkv_world.World.{life_goes}
use Rattle.law_world.proofs.Below.fkv_world.Shown.{added_calls, calls_added, lived}
use Rattle.fkv_seats.specs.Rule.{led}
use Rattle.fkv_table.specs.declared.happenings.Happening.{Happening}
use Rattle.fkv_table.specs.declared.happenings.Happening.TheVariants.{Commits}
use Rattle.fkv_table.specs.Desks.{Slot, Knows}
use Rattle.fkv_table.specs.Events.{event_of}
use Rattle.fkv_table.specs.KeeperCalls.{IsBeginning}
use Rattle.fkv_table.specs.Keeps.{IsKeeping, IsNoted, KeeperReplied, KeeperSettled, LeavesDevice}
use Rattle.fkv_table.specs.Openings.{IsGuardedOpening}
use Rattle.fkv_table.specs.Planes.{plane}
use Rattle.fkv_table.proofs.Lives.{alive}
use Rattle.fkv_table.proofs.KeeperNotes.{opened_so, quiet_calls, quiet_is}

start_stays : (s : KeeperState) (ask : Ask StartAnswer) → IsBeginning s.step → IsBeginning (start_ledto s ask).step
unfolding start_ledto
start_stays s (Done (start.Begun number first)) b = tt
start_stays s (Done (start.Refused why)) b = tt
start_stays s (Done start.Idle) b = tt
start_stays s ask b = b

next_stays : (shape : Shape) (p : Places) (s : KeeperState) (step : Keeping) (reply : ℕ) (granted : Bool) → s.step ≡ step → IsBeginning step → IsBeginning (keeping_next shape p s step reply granted).step
unfolding keeping_next
next_stays shape p s (Ended its) reply granted e b = subst IsBeginning (sym e) tt
next_stays shape p s Starts reply granted e b = start_stays (record s { start = start_next s.start reply }) (start_ask (start_next s.start reply)) (subst IsBeginning (sym e) tt)
next_stays shape p s Maintains reply granted e b = absurd b
next_stays shape p s LoadsPhase reply granted e b = absurd b
next_stays shape p s Enters reply granted e b = absurd b
next_stays shape p s Copies reply granted e b = absurd b
next_stays shape p s Seeks reply granted e b = absurd b
next_stays shape p s Waits reply granted e b = absurd b
next_stays shape p s Writes reply granted e b = absurd b
next_stays shape p s Finishes reply granted e b = absurd b
next_stays shape p s Sweeps reply granted e b = absurd b

given_stays : (shape : Shape) (p : Places) (s : KeeperState) (step : Keeping) (action : Action) → s.step ≡ step → IsBeginning step → IsBeginning (keeping_given shape p s step action).step
unfolding keeping_given
given_stays shape p s Maintains action e b = absurd b
given_stays shape p s step action e b = subst IsBeginning (sym e) b

gets_stays : (shape : Shape) (p : Places) (s : KeeperState) (action : Option Action) → IsBeginning s.step → IsBeginning (keeper_gets shape p s action).step
gets_stays shape p s None b = b
gets_stays shape p s (Some action) b = given_stays shape p s s.step action refl b

no_device : (ask : Ask StartAnswer) (why : Fault) → passed ask (CommitRefused why) ≡ Done Device → ⊥
unfolding passed
no_device (Load place) why e = cc
no_device (Store place new) why e = cc
no_device (Swap place new) why e = cc
no_device (Cas place old new) why e = cc
no_device (Add place k) why e = cc
no_device (Max place k) why e = cc
no_device (Put slot action) why e = cc
no_device (Take slot) why e = cc
no_device (Done inner) why e = cc

not_device : (shape : Shape) (p : Places) (s : KeeperState) (step : Keeping) → IsBeginning step → keeping_ask shape p s step ≡ Done Device → ⊥
unfolding keeping_ask
not_device shape p s (Ended Device) b e = cc
not_device shape p s (Ended (Turned finished full)) b e = cc
not_device shape p s (Ended (TurnRefused why)) b e = cc
not_device shape p s (Ended (Begun number)) b e = cc
not_device shape p s (Ended (CommitRefused why)) b e = cc
not_device shape p s Starts b e = no_device (start_ask s.start) CommitRunning e
not_device shape p s Maintains b e = absurd b
not_device shape p s LoadsPhase b e = absurd b
not_device shape p s Enters b e = absurd b
not_device shape p s Copies b e = absurd b
not_device shape p s Seeks b e = absurd b
not_device shape p s Waits b e = absurd b
not_device shape p s Writes b e = absurd b
not_device shape p s Finishes b e = absurd b
not_device shape p s Sweeps b e = absurd b

-- it is over where no word is asked for
pub commit_over : (k : KeeperModel) (told : KeeperTold) → IsBeginning k.state.step → keeper_ask k.shape k.places k.state ≡ Done told → is_busy (keeper_ask k.shape k.places k.state) ≡ false
commit_over k Device b e = absurd (not_device k.shape k.places k.state k.state.step b e)
commit_over k (Turned finished full) b e = ap is_busy e
commit_over k (TurnRefused why) b e = ap is_busy e
commit_over k (Begun number) b e = ap is_busy e
commit_over k (CommitRefused why) b e = ap is_busy e

begun_by : (s : KeeperState) (kind : CommitKind) (broken rests : Bool)
    → IsBeginning (if broken then ended s (CommitRefused Broken) else (if rests then ended s (CommitRefused CommitRunning) else record s { start = start_begun s.start (asked_for s kind); step = Starts })).step
begun_by s kind true rests = tt
begun_by s kind false true = tt
begun_by s kind false false = tt

pub commit_begins : (k k' : KeeperModel) (kind : CommitKind) → k' ≡ record k { state = commit_asked k.state kind } → IsBeginning k'.state.step
commit_begins k k' kind is = subst (λ (x : KeeperModel). IsBeginning x.state.step) (sym is) (begun_by k.state kind k.state.is_broken k.state.rests)

module _ {K : Type 0} (at : K → World) (key : K) where
  settled_begins : (me me' : Me Slot (Knows K)) (k k' : KeeperModel) (next : Ask KeeperTold) → KeeperSettled at next me k me' k' → IsBeginning k.state.step → IsBeginning k'.state.step
  settled_begins me me' k k' (Put slot action) t b = subst (λ (x : KeeperModel). IsBeginning x.state.step) (sym t.1) (next_stays k.shape k.places k.state k.state.step 0 false refl b)
  settled_begins me me' k k' (Take slot) t b = subst (λ (x : KeeperModel). IsBeginning x.state.step) (sym t.3) (gets_stays k.shape k.places k.state t.0 b)
  settled_begins me me' k k' (Load place) t b = subst (λ (x : KeeperModel). IsBeginning x.state.step) (sym t.1) b
  settled_begins me me' k k' (Store place new) t b = subst (λ (x : KeeperModel). IsBeginning x.state.step) (sym t.1) b
  settled_begins me me' k k' (Swap place new) t b = subst (λ (x : KeeperModel). IsBeginning x.state.step) (sym t.1) b
  settled_begins me me' k k' (Cas place old new) t b = subst (λ (x : KeeperModel). IsBeginning x.state.step) (sym t.1) b
  settled_begins me me' k k' (Add place more) t b = subst (λ (x : KeeperModel). IsBeginning x.state.step) (sym t.1) b
  settled_begins me me' k k' (Max place more) t b = subst (λ (x : KeeperModel). IsBeginning x.state.step) (sym t.1) b
  settled_begins me me' k k' (Done its) t b = subst (λ (x : KeeperModel). IsBeginning x.state.step) (sym t.1) b

  -- a step of the keeper is one of a commit's beginning, if what came before it was
  pub step_begins : (me mid me' : Me Slot (Knows K)) (granted : Bool) (k between k' : KeeperModel) (next : Ask KeeperTold) → KeeperReplied at key me granted k mid between → KeeperSettled at next mid between me' k'
      → IsBeginning k.state.step → IsBeginning k'.state.step
  step_begins me mid me' granted k between k' next r t b =
      settled_begins mid me' between k' next t (subst (λ (x : KeeperState). IsBeginning x.step) (sym r.state) (next_stays k.shape k.places k.state k.state.step _ granted refl b))

  -- a commit's start makes no call of the device
  pub commit_calls : (me me' : Me Slot (Knows K)) (k : KeeperModel) (kind : CommitKind) → IsGuardedOpening (at key) → IsKeeping at key me k → IsNoted at key me (Commits kind) me'
      → (led (plane at) (at key) me'.0.seen).past.calls ≡ (led (plane at) (at key) me.0.seen).past.calls
  unfolding led calls_added
  commit_calls me me' k kind guard its noted =
      let x : World = led (plane at) (at key) (noted.others ++ me.0.seen) in
      let made : (happens x (event_of (Commits kind))).past.calls ≡ x.past.calls =
      ap (λ (y : World). y.past.calls) (lived x (event_of (Commits kind)) (alive at (at key) (noted.others ++ me.0.seen) guard.opened.goes_on))
      ∙ added_calls x (life_goes x.now (read_by_keeper x) (event_of (Commits kind))) (event_of (Commits kind)) in
      ap (λ (es : List Happening). (led (plane at) (at key) es).past.calls) noted.seen
      ∙ (made ∙ quiet_calls at (at key) its.from noted.others me.0.seen (quiet_is at key me k guard its noted.others noted.quiet))

  pub leaves_device : (seen seen' : List Happening) → (led (plane at) (at key) seen').past.calls ≡ (led (plane at) (at key) seen).past.calls → LeavesDevice at key seen seen'
  leaves_device seen seen' calls = (opened_so at (at key) seen' ∙ sym (opened_so at (at key) seen), calls)
