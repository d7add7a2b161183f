-- What a device has met, by what the keeper asks for.
use Rattle.std.proofs.Common.{◌≡◌, ◌⊎◌, inl, inr, ℕ, Bool, true, false, List, [], ◌∷◌, ap, ◌∙◌}
use Rattle.std.specs.Prelude.{◌++◌, if◌then◌else◌}
use Rattle.fkv_disk.specs.Calls.{Call}
use Rattle.fkv_disk.specs.Device.{after}
use Rattle.fkv_keeper.specs.declared.answers.KeeperTold.{KeeperTold}
use Rattle.fkv_keeper.specs.declared.answers.KeeperTold.TheVariants.{Device}
use Rattle.fkv_keeper.specs.KeeperAsks.{keeper_calls, keeper_calls_asked, keeper_made}
use Rattle.fkv_keeper.specs.Keeping.{keeper_ask}
use Rattle.fkv_keeper.proofs.Shown.{calls_one, keeper_asked_calls}
use Rattle.fkv_plane.specs.declared.asks.Ask.{Ask}
use Rattle.fkv_plane.specs.declared.asks.Ask.TheVariants.{Done}
use Rattle.fkv_core.specs.Worlds.{EventUses, UsesDevice, calls_made, event_calls, took_place}
use Rattle.fkv_core.specs.declared.events.Event as event
use Rattle.fkv_core.specs.declared.events.Event.TheVariants as events
use Rattle.fkv_world.specs.Past.{calls_after}
use Rattle.fkv_world.specs.World.{Now}
use Rattle.law_calls.specs.Calls.{HasMet, HasMetNone, HasMetOne}

-- where one call is asked for, at most one is written or synced
met_one : (calls : List Call) (refuses refuses' : ℕ → Bool) → (calls ≡ []) ⊎ ((its : Call) × (calls ≡ its ∷ [])) → HasMetOne refuses refuses' → HasMet (calls ++ []) refuses refuses'
met_one calls refuses refuses' (inl none) met = rw none (inr met)
met_one calls refuses refuses' (inr its) met = rw its.1 met

-- no call was met where none is asked for
same : (refuses refuses' : ℕ → Bool) → refuses' ≡ refuses → HasMetNone refuses refuses'
same refuses refuses' its = λ i. ap (λ (f : ℕ → Bool). f i) its

further : (count : ℕ) (refuses refuses' : ℕ → Bool) → count ≡ 1 → refuses' ≡ after count refuses → HasMetOne refuses refuses'
further count refuses refuses' one its = λ i. ap (λ (f : ℕ → Bool). f i) (its ∙ ap (λ (n : ℕ). after n refuses) one)

by_ask : (ask : Ask KeeperTold) (calls : List Call) (count : ℕ) (done : Bool) (failed failed' : ℕ) (refuses refuses' : ℕ → Bool)
    → (calls ≡ []) ⊎ ((its : Call) × (calls ≡ its ∷ [])) → count ≡ keeper_calls_asked ask
    → UsesDevice ask count done failed failed' refuses refuses' → HasMet (calls_after ask calls []) refuses refuses'
by_ask (Done Device) calls count done failed failed' refuses refuses' few asked uses = met_one calls refuses refuses' few (further count refuses refuses' asked uses.counted)
by_ask ask calls count done failed failed' refuses refuses' few asked uses = inl (same refuses refuses' uses.1)

by_event : (crashed : Bool) (n : Now) (its : event.Event) (granted done : Bool) (failed failed' : ℕ) (refuses refuses' : ℕ → Bool)
    → EventUses crashed n its done failed failed' refuses refuses' → HasMet (if crashed then [] else event_calls n (took_place its granted done)) refuses refuses'
by_event true n its granted done failed failed' refuses refuses' uses = inl (same refuses refuses' uses.1)
by_event false n events.KeeperMove granted done failed failed' refuses refuses' uses =
    by_ask (keeper_ask n.shape n.places n.keeper) (keeper_calls n.shape n.keeper done) (keeper_made n.places n.keeper) done failed failed' refuses refuses'
    (calls_one n.shape n.keeper done) (keeper_asked_calls n.shape n.places n.keeper) uses
by_event false n events.SweepMove granted done failed failed' refuses refuses' uses =
    by_ask (keeper_ask n.shape n.places n.keeper) (keeper_calls n.shape n.keeper done) (keeper_made n.places n.keeper) done failed failed' refuses refuses'
    (calls_one n.shape n.keeper done) (keeper_asked_calls n.shape n.places n.keeper) uses
by_event false n its granted done failed failed' refuses refuses' uses = inl (same refuses refuses' uses.1)

pub steps_make_one : (n : Now) (its : event.Event) (granted done : Bool) (failed failed' : ℕ) (refuses refuses' : ℕ → Bool)
    → EventUses n.crashed n its done failed failed' refuses refuses' → HasMet (calls_made n (took_place its granted done)) refuses refuses'
steps_make_one n its granted done failed failed' refuses refuses' uses = by_event n.crashed n its granted done failed failed' refuses refuses' uses
