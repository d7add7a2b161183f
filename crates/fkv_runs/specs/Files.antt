-- A run over one life: of a store in a file, which its script doesn't crash.
use Rattle.std.specs.Prelude.{◌≡◌, ℕ, Bool, false, List, [], take, Option}
use Rattle.fkv_playing.specs.Below.fkv_core.Worlds.{WorldModel}
use Rattle.fkv_playing.specs.Below.fkv_core.Event.{Event}
use Rattle.fkv_playing.specs.Below.fkv_core.TheTold.{Told}
use Rattle.fkv_playing.specs.Finishes.{IsFinish}
use Rattle.fkv_playing.specs.Groups.{IsGroup}
use Rattle.fkv_playing.specs.InTurn.{InTurn}
use Rattle.fkv_playing.specs.Players.{PlayerState}
use Rattle.fkv_playing.specs.Queues.{AreQueuesOf, QueueState}
use Rattle.fkv_playing.specs.declared.calls.ActorCall.{ActorCall}
use Rattle.fkv_playing.specs.declared.calls.Outcome.{Outcome}
use Rattle.fkv_runs.specs.declared.pieces.Piece.{Piece}
use Rattle.fkv_runs.specs.declared.pieces.Piece.TheVariants.{Group, Finish}

-- the calls of a group, each to its end
pub record IsGroupOfLife {D : Type 0} (engine : Event → WorldModel D → WorldModel D → Option Told → Bool → Type 0) (calls : List ActorCall) (before after : PlayerState D) (text : List ℕ) : Type 0 where
  pub queues : List QueueState
  pub are_queues : AreQueuesOf calls queues
  pub left : List QueueState
  pub played : IsGroup engine (record { player = before; queues = queues }) (record { player = after; queues = left }) false text

-- One piece; those that crash or fail a device are none of such a script, and nothing is done where they stand.
abbrev pub IsPieceOfLife : {D : Type 0} → (Event → WorldModel D → WorldModel D → Option Told → Bool → Type 0) → Piece → PlayerState D → PlayerState D → Bool → List ℕ → Type 0
IsPieceOfLife engine (Group calls) before after over text = (over ≡ false) × IsGroupOfLife engine calls.items before after text
IsPieceOfLife engine Finish before after over text = (over ≡ false) × (outcome : Outcome) × IsFinish engine before after outcome text
IsPieceOfLife engine other before after over text = (over ≡ false) × (after ≡ before) × (text ≡ [])

-- the pieces, one behind the other
pub record IsRunOfLife {D : Type 0} (engine : Event → WorldModel D → WorldModel D → Option Told → Bool → Type 0) (pieces : List Piece) (before : PlayerState D) (text : List ℕ) : Type 0 where
  pub after : PlayerState D
  pub played : InTurn (IsPieceOfLife engine) false pieces before after false text

-- the first pieces of such a run
abbrev pub IsPartOfLife : {D : Type 0} → (Event → WorldModel D → WorldModel D → Option Told → Bool → Type 0) → List Piece → PlayerState D → List ℕ → Type 0
IsPartOfLife engine pieces before text = (count : ℕ) × IsRunOfLife engine (take count pieces) before text
