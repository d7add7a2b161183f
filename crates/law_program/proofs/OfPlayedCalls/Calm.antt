-- Where nothing is to come of the device no crash strikes, and a group that is a piece of a run is played in one life.
use Rattle.std.proofs.Common.{◌≡◌, ◌∙◌, ℕ, List, [], ◌∷◌, ◌++◌, Bool, false, ap, sym, subst}
use Rattle.std.specs.Prelude.{Option, Some, None}
use Rattle.std.proofs.lemmas.List.{append-nil}
use Rattle.law_order.specs.Below.fkv_core.Worlds.{WorldModel}
use Rattle.law_order.specs.Below.fkv_core.Event as events
use Rattle.law_order.specs.Below.fkv_core.TheTold as tells
use Rattle.fkv_runs.specs.Below.fkv_playing.Beats.{outcome_of}
use Rattle.fkv_runs.specs.Below.fkv_playing.Groups.{GroupState, IsBeatOf, IsGroup, IsPick, is_struck_by, missing_session, queues_behind}
use Rattle.fkv_runs.specs.Below.fkv_playing.InTurn.{InTurn}
use Rattle.fkv_runs.specs.Below.fkv_playing.Players.{PlayerState, is_struck}
use Rattle.fkv_runs.specs.Below.fkv_playing.Queues.{AreQueuesOf, NobodyHasSteps, QueueState}
use Rattle.fkv_runs.specs.Below.fkv_playing.ActorCall.{ActorCall}
use Rattle.fkv_runs.specs.Below.fkv_playing.Outcome.{Outcome}
use Rattle.fkv_runs.specs.Below.fkv_playing.Stage.{Stage}
use Rattle.fkv_runs.specs.Below.fkv_playing.Waits.{Waits}
use Rattle.fkv_runs.specs.Below.fkv_playing.Waits.TheVariants.{Nothing}
use Rattle.fkv_runs.specs.Openings.{Medium}
use Rattle.fkv_runs.specs.Runs.{IsCrashedWhere, IsGroupPlayed, RunState}
use Rattle.fkv_runs.specs.declared.settings.Settings.{Settings}
use Rattle.law_program.proofs.OfPlayedCalls.Beats.{outcome_calm}
use Rattle.law_program.proofs.OfPlayedCalls.OneCall.{none_played}

-- ---- a group
-- no crash has struck, and nothing is to come
abbrev pub StaysCalm : Bool → Waits → Type 0
StaysCalm struck waits = (struck ≡ false) × (waits ≡ Nothing)

module _ {D : Type 0} (engine : events.Event → WorldModel D → WorldModel D → Option tells.Told → Bool → Type 0) where
  beat_calm : (call : ActorCall) (at : Stage) (before after : PlayerState D) (outcome : Outcome) (text : List ℕ) (missing : Option ℕ) → before.waits ≡ Nothing
      → IsBeatOf engine call at before after outcome text missing → StaysCalm (is_struck_by outcome) after.waits
  beat_calm call at before after outcome text (Some number) calm beat = (ap is_struck_by beat.1, ap (λ (x : PlayerState D). x.waits) beat.0 ∙ calm)
  beat_calm call at before after outcome text None calm beat =
      (ap is_struck_by (beat.ends ∙ ap (λ (x : Waits). outcome_of (is_struck x beat.broken) beat.its) calm) ∙ outcome_calm beat.its, ap (λ (x : PlayerState D). x.waits) beat.same ∙ calm)

  pick_calm : (picked : ℕ) (before after : GroupState D) (struck : Bool) (text : List ℕ) → before.player.waits ≡ Nothing → IsPick engine picked before after struck text → StaysCalm struck after.player.waits
  pick_calm picked before after struck text calm pick =
      let its = beat_calm pick.call pick.stage before.player after.player pick.outcome text (missing_session before.player.seats pick.call) calm pick.beat in
      (pick.ends ∙ its.0, its.1)

  picks_calm : (picks : List ℕ) (before after : GroupState D) (struck : Bool) (text : List ℕ) → before.player.waits ≡ Nothing → InTurn (IsPick engine) false picks before after struck text
      → StaysCalm struck after.player.waits
  picks_calm [] before after struck text calm played = (played.1, ap (λ (x : GroupState D). x.player.waits) played.0 ∙ calm)
  picks_calm (picked ∷ []) before after struck text calm played = pick_calm picked before after struck text calm played
  picks_calm (picked ∷ next ∷ later) before after struck text calm played =
      picks_calm (next ∷ later) played.0 after struck played.2 (pick_calm picked before played.0 false played.1 calm played.3).1 played.4

  pub group_calm : (before after : GroupState D) (struck : Bool) (text : List ℕ) → before.player.waits ≡ Nothing → IsGroup engine before after struck text → StaysCalm struck after.player.waits
  group_calm before after struck text calm group = picks_calm group.picks before (record after { queues = group.last }) struck text calm group.played

-- ---- a group as a piece
-- the calls of a group, played in one life
pub record IsPlayedGroup {D : Type 0} (engine : events.Event → WorldModel D → WorldModel D → Option tells.Told → Bool → Type 0) (calls : List ActorCall) (before after : PlayerState D) (over : Bool) (text : List ℕ) : Type 0 where
  pub goes_on : over ≡ false
  pub queues : List QueueState
  pub are_queues : AreQueuesOf calls queues
  pub left : List QueueState
  pub group : IsGroup engine (record { player = before; queues = queues }) (record { player = after; queues = left }) false text

-- A group in which no crash strikes has ended, so nothing is played behind it.
module _ {D : Type 0} (medium : Medium D) (settings : Settings) (calls : List ActorCall) (before after : RunState D) (over : Bool) (text : List ℕ) (its : IsGroupPlayed medium settings calls before after over text) (none : its.leg.struck ≡ false) where
  leg_over : IsCrashedWhere false medium settings (record before { player = its.leg.player }) its.between over its.leg.reported
  leg_over = subst (λ (x : Bool). IsCrashedWhere x medium settings (record before { player = its.leg.player }) its.between over its.leg.reported) none its.leg.crashed

  none_left : NobodyHasSteps its.left
  none_left = subst NobodyHasSteps (sym (its.leg.part.queues ∙ ap (λ (x : Bool). queues_behind x its.leg.part.last) none)) (its.leg.part.over none)

  nothing_behind : (◌≡◌ {A = PlayerState D} its.between.player after.player) × (its.rest ≡ [])
  nothing_behind =
      let behind = its.goes_on leg_over.1 in
      let ended = none_played medium.engine behind.1.picks (record { player = its.between.player; queues = its.left }) (record { player = after.player; queues = behind.1.last }) its.rest none_left behind.1.played in
      (sym (ap (λ (x : GroupState D). x.player) ended.0), ended.1)

  pub unstruck_player : its.leg.player ≡ after.player
  unstruck_player = ap (λ (x : RunState D). x.player) (sym leg_over.0) ∙ nothing_behind.0

  its_text : its.leg.said ≡ text
  its_text =
      sym (its.says ∙ (ap (λ (x : List ℕ). its.first ++ x) nothing_behind.1 ∙ (append-nil its.first ∙ (its.leg.says ∙ (ap (λ (x : List ℕ). its.leg.said ++ x) leg_over.2 ∙ append-nil its.leg.said)))))

  pub unstruck_group : IsPlayedGroup medium.engine calls before.player after.player over text
  unstruck_group = record {
    goes_on = leg_over.1;
    queues = its.queues;
    are_queues = its.are_queues;
    left = its.left;
    group =
        subst (λ (x : List ℕ). IsGroup medium.engine (record { player = before.player; queues = its.queues }) (record { player = after.player; queues = its.left }) false x) its_text
        (subst (λ (x : PlayerState D). IsGroup medium.engine (record { player = before.player; queues = its.queues }) (record { player = x; queues = its.left }) false its.leg.said) unstruck_player
        (subst (λ (x : Bool). IsGroup medium.engine (record { player = before.player; queues = its.queues }) (record { player = its.leg.player; queues = its.left }) x its.leg.said) none its.leg.part));
  }

-- so it is where nothing is to come of the device
module _ {D : Type 0} (medium : Medium D) (settings : Settings) (calls : List ActorCall) (before after : RunState D) (over : Bool) (text : List ℕ) (calm : before.player.waits ≡ Nothing) (its : IsGroupPlayed medium settings calls before after over text) where
  its_calm : StaysCalm its.leg.struck its.leg.player.waits
  its_calm = group_calm medium.engine (record { player = before.player; queues = its.queues }) (record { player = its.leg.player; queues = its.left }) its.leg.struck its.leg.said calm its.leg.part

  pub played_group : IsPlayedGroup medium.engine calls before.player after.player over text
  played_group = unstruck_group medium settings calls before after over text its its_calm.0

  pub stays_calm : after.player.waits ≡ Nothing
  stays_calm = ap (λ (x : PlayerState D). x.waits) (sym (unstruck_player medium settings calls before after over text its its_calm.0)) ∙ its_calm.1
