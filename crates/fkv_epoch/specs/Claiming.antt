-- How armed actions are claimed and run.
use Rattle.std.specs.Prelude.{ℕ, ◌+◌, ◌-◌, ◌*◌, ◌<◌, ◌==◌, nat_lt, nat_le, min, max, if◌then◌else◌, Bool, true, false, Option, Some, None, ⊤}
use Rattle.std.proofs.Common.{arith}
use Rattle.fkv_base.specs.Limits.{drain_slots}
use Rattle.fkv_base.specs.declared.phases.Phase.{Phase}
use Rattle.fkv_base.specs.declared.numbers.Version.{Version}
use Rattle.fkv_words.specs.Layout.{max_version, wide_word}
use Rattle.fkv_plane.specs.declared.actions.Action.{Action}
use Rattle.fkv_plane.specs.declared.actions.Action.TheVariants as act
use Rattle.fkv_plane.specs.declared.asks.Ask.{Ask}
use Rattle.fkv_plane.specs.declared.asks.Ask.TheVariants.{Load, Store, Cas, Max, Take, Done}
use Rattle.fkv_plane.specs.declared.places.SharedWord.TheVariants as one
use Rattle.fkv_plane.specs.Places.{shared_place, drain_place}
use Rattle.fkv_epoch.specs.declared.claiming.Claiming.{Claiming}
use Rattle.fkv_epoch.specs.declared.claiming.Claiming.TheVariants.{AtRest, MeetsSlot, LoadsSafe, TakesSlot, Receives, Runs, FreesSlot}

pub record Claimer : Type 0 where
  pub step : Claiming

-- there are eight slots
abbrev pub IsClaimInRange : Claiming → Type 0
IsClaimInRange AtRest = ⊤
IsClaimInRange (MeetsSlot slot safe) = slot < drain_slots
IsClaimInRange (LoadsSafe slot word) = slot < drain_slots
IsClaimInRange (TakesSlot slot word safe) = slot < drain_slots
IsClaimInRange (Receives slot epoch safe) = slot < drain_slots
IsClaimInRange (Runs slot epoch safe action) = slot < drain_slots
IsClaimInRange (FreesSlot slot safe) = slot < drain_slots

-- a version as it stands, and past the limits of a phase word the nearest that it has room for
abbrev pub version_within : Version → Version
version_within version = record { 0 = max (min version.0 max_version) 1 }

-- the phase word of a phase and a version
abbrev pub phase_stored : Phase → Version → ℕ
phase_stored phase version = wide_word (record { version = version_within version; phase = phase; some_version = omega arith; version_fits = omega arith })

-- what running an action asks
abbrev pub run_of : Action → Ask (Unit {0})
run_of (act.SafeReadOnly addr) = Max (shared_place one.SafeReadOnly) addr.0
run_of (act.Close addr) = Max (shared_place one.Closed) addr.0
run_of (act.Phase phase version) = Store (shared_place one.Phase) (phase_stored phase version)

-- what each state asks
unfoldable pub claim_ask : Claiming → Ask (Unit {0})
claim_ask AtRest = Done tt
claim_ask (MeetsSlot slot safe) = Load (drain_place slot)
claim_ask (LoadsSafe slot word) = Load (shared_place one.SafeEpoch)
claim_ask (TakesSlot slot word safe) = Cas (drain_place slot) word 1
claim_ask (Receives slot epoch safe) = Take slot
claim_ask (Runs slot epoch safe action) = run_of action
claim_ask (FreesSlot slot safe) = Store (drain_place slot) 0

-- the slot after this one is met, up to the last
unfoldable pub slot_after : ℕ → Option ℕ → Claiming
slot_after slot safe = if nat_lt (slot + 1) drain_slots then MeetsSlot (slot + 1) safe else AtRest

-- a slot armed at an epoch, which is its word less 2, is claimed where that epoch is safe
unfoldable pub slot_armed : ℕ → ℕ → ℕ → Claiming
slot_armed slot word safe = if nat_le (word - 2) safe then TakesSlot slot word safe else slot_after slot (Some safe)

-- where the reply leads. The safe epoch is loaded when the first armed slot is met
unfoldable pub claim_next : Claiming → ℕ → Claiming
claim_next AtRest reply = AtRest
claim_next (MeetsSlot slot None) reply = if nat_lt reply 2 then slot_after slot None else LoadsSafe slot reply
claim_next (MeetsSlot slot (Some safe)) reply = if nat_lt reply 2 then slot_after slot (Some safe) else slot_armed slot reply safe
claim_next (LoadsSafe slot word) reply = slot_armed slot word reply
claim_next (TakesSlot slot word safe) reply = if reply == word then Receives slot (word - 2) safe else slot_after slot (Some safe)
claim_next (Receives slot epoch safe) reply = Receives slot epoch safe
claim_next (Runs slot epoch safe action) reply = FreesSlot slot safe
claim_next (FreesSlot slot safe) reply = slot_after slot (Some safe)

-- what the action of a claimed slot leads to
unfoldable pub claim_given : Claiming → Action → Claiming
claim_given (Receives slot epoch safe) action = Runs slot epoch safe action
claim_given step action = step

-- what it asks is an action, which is given to it in place of a reply
abbrev pub takes_action : {A : Type 0} → Ask A → Bool
takes_action (Take slot) = true
takes_action ask = false

-- How many asks it has left, at most: five for each slot that is still to be met, of which one takes the action; and the safe epoch is loaded once.
unfoldable pub claim_asks_left : Claiming → ℕ
claim_asks_left AtRest = 0
claim_asks_left (MeetsSlot slot None) = 5 * (drain_slots - (slot + 1)) + 6
claim_asks_left (MeetsSlot slot (Some safe)) = 5 * (drain_slots - (slot + 1)) + 5
claim_asks_left (LoadsSafe slot word) = 5 * (drain_slots - (slot + 1)) + 5
claim_asks_left (TakesSlot slot word safe) = 5 * (drain_slots - (slot + 1)) + 4
claim_asks_left (Receives slot epoch safe) = 5 * (drain_slots - (slot + 1)) + 3
claim_asks_left (Runs slot epoch safe action) = 5 * (drain_slots - (slot + 1)) + 2
claim_asks_left (FreesSlot slot safe) = 5 * (drain_slots - (slot + 1)) + 1
