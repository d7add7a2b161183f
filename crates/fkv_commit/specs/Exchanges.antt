-- What a machine has asked and was replied, over every list of replies; the newest exchange stands first.
use Rattle.std.specs.Prelude.{◌≡◌, ◌≢◌, ℕ, ◌+◌, ◌<◌, ◌≤◌, ⊤, ◌⊎◌, List, [], ◌∷◌}
use Rattle.fkv_base.specs.Limits.{drain_slots, last_epoch}
use Rattle.fkv_plane.specs.declared.actions.Action.{Action}
use Rattle.fkv_plane.specs.declared.asks.Ask.{Ask}
use Rattle.fkv_plane.specs.declared.asks.Ask.TheVariants.{Load, Store, Cas, Add, Put, Done}
use Rattle.fkv_plane.specs.declared.places.SharedWord.TheVariants as one
use Rattle.fkv_plane.specs.Places.{shared_place, drain_place}
use Rattle.fkv_plane.specs.Passing.{passed}
use Rattle.fkv_epoch.specs.Once.{Among}
use Rattle.fkv_commit.specs.Deferring.{armed_epoch}

-- an ask, and the reply to it
pub record Exchange : Type 0 where
  pub ask : Ask (Unit {0})
  pub reply : ℕ

abbrev pub exchange : Ask (Unit {0}) → ℕ → Exchange
exchange ask reply = record { ask = ask; reply = reply }

-- a machine at its end asks nothing
unfoldable pub exchanged : {A : Type 0} → Ask A → ℕ → List Exchange → List Exchange
exchanged (Done its) reply before = before
exchanged ask reply before = exchange (passed ask tt) reply ∷ before

-- a machine that got these replies, and what it has told then
unfoldable pub run_of : {S : Type 0} → (S → ℕ → S) → S → List ℕ → S
run_of next opening [] = opening
run_of next opening (reply ∷ before) = next (run_of next opening before) reply

unfoldable pub exchanges : {S A : Type 0} → (S → Ask A) → (S → ℕ → S) → S → List ℕ → List Exchange
exchanges ask next opening [] = []
exchanges ask next opening (reply ∷ before) = exchanged (ask (run_of next opening before)) reply (exchanges ask next opening before)

-- a load, or a Cas that is lost
abbrev pub ChangesNothing : Ask (Unit {0}) → ℕ → Type 0
ChangesNothing (Load place) reply = ⊤
ChangesNothing (Cas place old new) reply = reply ≢ old
ChangesNothing ask reply = ⊥

-- nothing is changed, and so no slot is held
abbrev pub AreIdle : List Exchange → Type 0
AreIdle [] = ⊤
AreIdle (its ∷ before) = ChangesNothing its.ask its.reply × AreIdle before

-- a drain slot is held by a Cas that is won, and nothing was changed before
pub record HoldsSlot (slot : ℕ) (told : List Exchange) : Type 0 where
  pub before : List Exchange
  pub idle : AreIdle before
  pub its : told ≡ exchange (Cas (drain_place slot) 0 1) 0 ∷ before

-- a drain slot was met and was not free: its word was loaded and was not 0, or its Cas was lost
abbrev pub WasTaken : ℕ → List Exchange → Type 0
WasTaken slot told = (word : ℕ) × (word ≢ 0) × (Among (exchange (Load (drain_place slot)) word) told ⊎ Among (exchange (Cas (drain_place slot) 0 1) word) told)

-- so was each of the first so many
abbrev pub WereTaken : ℕ → List Exchange → Type 0
WereTaken slots told = (slot : ℕ) → slot < slots → WasTaken slot told

-- the epoch was loaded, and was at its last
abbrev pub WasEpochLast : List Exchange → Type 0
WasEpochLast told = (epoch : ℕ) × (last_epoch ≤ epoch) × Among (exchange (Load (shared_place one.Epoch)) epoch) told

-- it was loaded, and was below its last
abbrev pub WasEpochBelow : List Exchange → Type 0
WasEpochBelow told = (epoch : ℕ) × (epoch < last_epoch) × Among (exchange (Load (shared_place one.Epoch)) epoch) told

-- the word of a drain slot is loaded, or a slot is to be held
abbrev pub MeetsSlot : Ask (Unit {0}) → Type 0
MeetsSlot (Load place) = (slot : ℕ) × (slot < drain_slots) × (place ≡ drain_place slot)
MeetsSlot (Cas place old new) = ⊤
MeetsSlot ask = ⊥

-- each slot was met behind an epoch that was below its last
abbrev pub AreSlotsBehind : List Exchange → Type 0
AreSlotsBehind [] = ⊤
AreSlotsBehind (its ∷ before) = (MeetsSlot its.ask → WasEpochBelow before) × AreSlotsBehind before

-- An action is deferred: the epoch is raised once, the action is put into the slot once, and the slot is armed at the epoch that the raise was
-- replied; all this behind what was told before.
pub record IsDeferred (slot epoch : ℕ) (action : Action) (before told : List Exchange) : Type 0 where
  pub raised : ℕ
  pub at_it : epoch ≡ armed_epoch raised
  pub put_reply : ℕ
  pub arm_reply : ℕ
  pub its : told ≡ exchange (Store (drain_place slot) (epoch + 2)) arm_reply ∷ exchange (Put slot action) put_reply ∷ exchange (Add (shared_place one.Epoch) 1) raised ∷ before
