-- What a session has seen in the middle of protecting itself or refreshing: what it has loaded so far, and else what it had seen before.
use Rattle.std.proofs.Common.{◌≡◌, ℕ, List, refl}
use Rattle.fkv_plane.specs.Asked.{reply_to}
use Rattle.fkv_epoch.specs.declared.protecting.Protecting.{Protecting}
use Rattle.fkv_epoch.specs.declared.protecting.Protecting.TheVariants as protect
use Rattle.fkv_epoch.specs.declared.refreshing.Refreshing.{Refreshing}
use Rattle.fkv_epoch.specs.declared.refreshing.Refreshing.TheVariants as refresh
use Rattle.fkv_epoch.specs.Protecting.{protect_ask, protect_next}
use Rattle.fkv_epoch.specs.Refreshing.{refresh_ask, refresh_next}
use Rattle.fkv_epoch.specs.EpochWorld.{Protects, Refreshes, sight_of}
use Rattle.fkv_flush.specs.GuardSeen.{LastSeen}
use Rattle.fkv_flush.specs.GuardWorld.{seen_with}

-- in the middle of refreshing; once the session has taken up what it loaded it has seen that, and the machine keeps it no more
abbrev pub refreshed_so_far : LastSeen → Refreshing → LastSeen
refreshed_so_far seen (refresh.LoadsHead epoch phase read_only) = record seen { read_only = read_only }
refreshed_so_far seen (refresh.HasLoaded epoch values) = record { read_only = values.read_only.0; head = values.head.0 }
refreshed_so_far seen step = seen

-- in the middle of protecting itself
abbrev pub protected_so_far : LastSeen → Protecting → LastSeen
protected_so_far seen (protect.LoadsHead phase read_only) = record seen { read_only = read_only }
protected_so_far seen step = seen

-- where one ask of the refresh leads, the session has seen what it loads
pub refreshed_so : (session : ℕ) (seen : LastSeen) (step : Refreshing) (words : List ℕ) → seen_with (refreshed_so_far seen step) (sight_of (Refreshes step)) words ≡ refreshed_so_far seen (refresh_next step (reply_to words (refresh_ask session step)))
unfolding refresh_ask refresh_next
refreshed_so session seen refresh.AtRest words = refl
refreshed_so session seen refresh.LoadsEpoch words = refl
refreshed_so session seen (refresh.LoadsPhase epoch) words = refl
refreshed_so session seen (refresh.LoadsReadOnly epoch phase) words = refl
refreshed_so session seen (refresh.LoadsHead epoch phase read_only) words = refl
refreshed_so session seen (refresh.HasLoaded epoch values) words = refl
refreshed_so session seen (refresh.StoresEpoch epoch) words = refl

-- what a session has seen after this ask, which may be the last one that protects it
abbrev pub protected_then : LastSeen → Protecting → ℕ → LastSeen
protected_then seen (protect.LoadsHead phase read_only) reply = record { read_only = read_only; head = reply }
protected_then seen step reply = protected_so_far seen (protect_next step reply)

pub protected_so : (session : ℕ) (seen : LastSeen) (step : Protecting) (words : List ℕ) → seen_with (protected_so_far seen step) (sight_of (Protects step)) words ≡ protected_then seen step (reply_to words (protect_ask session step))
unfolding protect_ask protect_next
protected_so session seen protect.AtRest words = refl
protected_so session seen protect.LoadsEpoch words = refl
protected_so session seen (protect.StoresEpoch epoch) words = refl
protected_so session seen protect.LoadsPhase words = refl
protected_so session seen (protect.LoadsReadOnly phase) words = refl
protected_so session seen (protect.LoadsHead phase read_only) words = refl
