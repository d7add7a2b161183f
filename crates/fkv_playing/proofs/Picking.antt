-- Picks of a group, one behind the other, and how a group ends with them.
use Rattle.std.proofs.Common.{◌≡◌, ℕ, Bool, true, false, List, [], ◌∷◌, ◌++◌, Option, Some, map, subst, slice_get}
use Rattle.fkv_core.specs.Worlds.{WorldModel}
use Rattle.fkv_core.specs.declared.events.Event.{Event}
use Rattle.fkv_core.specs.declared.events.Told.{Told}
use Rattle.fkv_playing.specs.Groups.{GroupState, IsGroup, IsPick}
use Rattle.fkv_playing.specs.InTurn.{InTurn, Writes}
use Rattle.fkv_playing.specs.Players.{PlayerState}
use Rattle.fkv_playing.specs.Queues.{HasSteps, QueueState, given_up}
use Rattle.fkv_playing.proofs.Turns.{one_more_written}

-- some picks in turn, behind which the group goes on
abbrev pub SomePicks : {D : Type 0} → (Event → WorldModel D → WorldModel D → Option Told → Bool → Type 0) → GroupState D → GroupState D → Option (List ℕ) → Option (List ℕ) → Type 0
SomePicks engine before after a b = (picks : List ℕ) × Writes (InTurn (IsPick engine) false picks before after false) a b

pub one_more_pick : {D : Type 0} (engine : Event → WorldModel D → WorldModel D → Option Told → Bool → Type 0) (at : ℕ) (before between after : GroupState D) (a b c : Option (List ℕ))
    → SomePicks engine before between a b → Writes (IsPick engine at between after false) b c → SomePicks engine before after a c
one_more_pick engine at before between after a b c h k = (h.0 ++ at ∷ [], one_more_written (IsPick engine) false h.0 at before between after false a b c h.1 k)

-- the step of the actor that was picked, whose queue has a step left
pub pick_found : {D : Type 0} (engine : Event → WorldModel D → WorldModel D → Option Told → Bool → Type 0) (at : ℕ) (between after : GroupState D) (shown : List QueueState) (ends struck : Bool) (b c : Option (List ℕ))
    → shown ≡ between.queues → (queue : QueueState) × (slice_get shown at ≡ Some queue) × HasSteps queue
    → ((queue : QueueState) → slice_get between.queues at ≡ Some queue → HasSteps queue → Writes (IsPick engine at between after ends) b c) → ends ≡ struck
    → Writes (IsPick engine at between after struck) b c
pick_found engine at between after shown ends struck b c e its h f =
    subst (λ (how : Bool). Writes (IsPick engine at between after how) b c) f (h its.0 (subst (λ (queues : List QueueState). slice_get queues at ≡ Some its.0) e its.1) its.2)

true_is_not_false : (X : Type 0) → true ≡ false → X
true_is_not_false X e = absurd (cc)

-- where a crash strikes in one more pick, it is over when each call in hand is given up
pub struck_picked : {D : Type 0} (engine : Event → WorldModel D → WorldModel D → Option Told → Bool → Type 0) (at : ℕ) (before between : GroupState D) (player : PlayerState D)
    (last queues : List QueueState) (a b c : Option (List ℕ))
    → SomePicks engine before between a b → Writes (IsPick engine at between (record { player = player; queues = last }) true) b c → queues ≡ map given_up last
    → Writes (IsGroup engine before (record { player = player; queues = queues }) true) a c
struck_picked engine at before between player last queues a b c h k e =
    let all = one_more_written (IsPick engine) false h.0 at before between (record { player = player; queues = last }) true a b c h.1 k in
    (all.0, record { picks = h.0 ++ at ∷ []; last = last; played = all.1; over = λ no. true_is_not_false _ no; queues = e }, all.2)
