-- How the last call of the keeper has ended, and why it was refused.
use Rattle.std.specs.Prelude.{◌≡◌, ⊤, List, [], ◌∷◌, ◌++◌, Bool, true, false, Option, Some, None, Err}
use Rattle.fkv_base.specs.declared.commits.CommitKind.{CommitKind}
use Rattle.fkv_base.specs.declared.faults.Fault.{Fault}
use Rattle.fkv_base.specs.declared.shapes.Shape.{Shape}
use Rattle.fkv_plane.specs.declared.asks.Ask.TheVariants.{Done}
use Rattle.fkv_plane.specs.declared.places.Places.{Places}
use Rattle.fkv_keeper.specs.DrainLaws.{call_told}
use Rattle.fkv_keeper.specs.declared.answers.KeeperTold.TheVariants.{Device}
use Rattle.fkv_keeper.specs.Keeping.{KeeperState, keeper_ask}
use Rattle.fkv_keeper.specs.KeeperRun.{BeginsCommit, BeginsTurn, IsOpened, KeeperEvent, is_calling, is_in_hand, keeper_run}
use Rattle.fkv_keeper.specs.Running.{IsBeginTold, IsTurnTold}
use Rattle.law_causes.specs.Causes.{HasCommitCause, HasTurnCause}

-- a call that begins: a turn, or a commit of a kind
pub data Begun : Type 0 where
  Turn : Begun
  Commit : CommitKind → Begun

-- it begins where no call is in hand
abbrev pub begun_after : Bool → KeeperEvent → Option Begun → Option Begun
begun_after false BeginsTurn was = Some Turn
begun_after false (BeginsCommit kind) was = Some (Commit kind)
begun_after in_hand event was = was

module _ (shape : Shape) (p : Places) (opening : KeeperState) where
  -- which call has begun last
  unfoldable pub last_call : List KeeperEvent → Option Begun
  last_call [] = None
  last_call (event ∷ before) = begun_after (is_in_hand (keeper_run shape p opening before).step) event (last_call before)

  -- behind the older events none of these begins a call or goes on with one
  abbrev pub CallNothing : List KeeperEvent → List KeeperEvent → Type 0
  CallNothing [] older = ⊤
  CallNothing (event ∷ behind) older = (is_calling (keeper_run shape p opening (behind ++ older)).step event ≡ false) × CallNothing behind older

  -- the last event that began a call or went on with one
  pub record LastEvent (events : List KeeperEvent) : Type 0 where
    pub behind : List KeeperEvent
    pub event : KeeperEvent
    pub before : List KeeperEvent
    pub so : events ≡ behind ++ event ∷ before
    pub calls : is_calling (keeper_run shape p opening before).step event ≡ true
    pub idle : CallNothing behind (event ∷ before)

  -- The last call is a turn, this event is the last of it, and the cause stands at this event.
  pub record IsTurnRefused (events : List KeeperEvent) (why : Fault) : Type 0 where
    pub last : LastEvent events
    pub turn : last_call events ≡ Some Turn
    pub cause : (let e = last in HasTurnCause e.before (keeper_run shape p opening e.before) e.event (call_told shape p opening (e.event ∷ e.before)) why)

  -- The last call has asked for a commit of this kind, this event is the last of it, and the cause stands behind this event.
  pub record IsCommitRefused (events : List KeeperEvent) (kind : CommitKind) (why : Fault) : Type 0 where
    pub last : LastEvent events
    pub commit : last_call events ≡ Some (Commit kind)
    pub cause : (let e = last in HasCommitCause e.before (Some kind) (keeper_run shape p opening (e.event ∷ e.before)) (call_told shape p opening (e.event ∷ e.before)) why)

-- Whatever is begun, replied, given and called: what the keeper tells of its last call as refused is that call's refusal, which has its cause. Who asks for the device is in a turn.
pub record RefusalsHaveCauses : Type 0 where
  pub turns : (shape : Shape) (p : Places) (opening : KeeperState) (events : List KeeperEvent) (why : Fault) → IsOpened opening → last_call shape p opening events ≡ Some Turn → is_in_hand (keeper_run shape p opening events).step ≡ false
      → IsTurnTold (keeper_run shape p opening events).last (keeper_ask shape p (keeper_run shape p opening events)) (Err why) → IsTurnRefused shape p opening events why
  pub commits : (shape : Shape) (p : Places) (opening : KeeperState) (events : List KeeperEvent) (kind : CommitKind) (why : Fault) → IsOpened opening → last_call shape p opening events ≡ Some (Commit kind)
      → is_in_hand (keeper_run shape p opening events).step ≡ false → IsBeginTold (keeper_ask shape p (keeper_run shape p opening events)) (Err why) → IsCommitRefused shape p opening events kind why
  pub device : (shape : Shape) (p : Places) (opening : KeeperState) (events : List KeeperEvent) → IsOpened opening → keeper_ask shape p (keeper_run shape p opening events) ≡ Done Device → last_call shape p opening events ≡ Some Turn
