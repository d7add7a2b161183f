-- Which phases the keeper stores.
use Rattle.std.specs.Prelude.{◌≡◌, ◌≢◌, ◌⊎◌, ⊤, ℕ}
use Rattle.fkv_base.specs.declared.numbers.Version.{Version}
use Rattle.fkv_base.specs.declared.phases.Phase.{Phase}
use Rattle.fkv_plane.specs.declared.actions.Action.TheVariants as act
use Rattle.fkv_plane.specs.declared.asks.Ask.{Ask}
use Rattle.fkv_plane.specs.declared.asks.Ask.TheVariants.{Store, Swap, Cas, Add, Max}
use Rattle.fkv_plane.specs.declared.places.SharedWord.TheVariants as one
use Rattle.fkv_plane.specs.Asked.{word_at}
use Rattle.fkv_plane.specs.Places.{shared_place}
use Rattle.fkv_epoch.specs.declared.claiming.Claiming.TheVariants as claim
use Rattle.fkv_epoch.specs.Claiming.{phase_stored}
use Rattle.law_refine.specs.Below.fkv_keeper.CheckpointLaws.{MayStore}
use Rattle.law_refine.specs.Below.fkv_keeper.Keeping.{KeeperState}
use Rattle.law_refine.specs.Below.fkv_session.OwnTurning.TheVariants.{Claims}
use Rattle.law_refine.specs.Below.fkv_session.OwnTurns.{OwnTurnState, own_turn_ask}
use Rattle.fkv_base.specs.declared.shapes.Shape.{Shape}
use Rattle.law_refine.specs.Below.fkv_world.World.{Now}

abbrev pub phase_at : Now → ℕ
phase_at n = word_at n.words (shared_place one.Phase)

-- the word is that of a phase that a step of the keeper may store
pub record IsPhaseStored (s : KeeperState) (word : ℕ) : Type 0 where
  pub its : Phase
  pub version : Version
  pub may : MayStore s s.step its version
  pub is_so : word ≡ phase_stored its version

-- A step of the keeper leaves the phase word as it was, or makes it such a one.
abbrev pub StoresItsPhase : KeeperState → ℕ → ℕ → Type 0
StoresItsPhase s before after = (after ≡ before) ⊎ IsPhaseStored s after

-- an ask that may change a word is of another one
abbrev pub SparesPhase : {A : Type 0} → Ask A → Type 0
SparesPhase (Store place new) = shared_place one.Phase ≢ place
SparesPhase (Swap place new) = shared_place one.Phase ≢ place
SparesPhase (Cas place old new) = shared_place one.Phase ≢ place
SparesPhase (Add place k) = shared_place one.Phase ≢ place
SparesPhase (Max place k) = shared_place one.Phase ≢ place
SparesPhase ask = ⊤

-- A session stores in its own turn the phase that an action says which it has claimed.
pub record StoresClaimed (shape : Shape) (o : OwnTurnState) : Type 0 where
  pub its : Phase
  pub version : Version
  pub slot : ℕ
  pub epoch : ℕ
  pub safe : ℕ
  pub claims : o.step ≡ Claims
  pub runs : o.claiming ≡ claim.Runs slot epoch safe (act.Phase its version)
  pub asks : own_turn_ask shape o ≡ Store (shared_place one.Phase) (phase_stored its version)
