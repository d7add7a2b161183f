-- What recovery gives, and why it is refused.
use Rattle.std.proofs.Common.{◌≡◌, ◌∙◌, ◌+◌, ℕ, Bool, false, List, Result, ap, subst}
use Rattle.fkv_base.specs.declared.faults.Fault.{Fault}
use Rattle.fkv_base.specs.declared.faults.Fault.TheVariants.{NotAStore, Damaged, Device, Memory}
use Rattle.fkv_base.specs.declared.numbers.Key.{Key}
use Rattle.fkv_base.specs.declared.numbers.Value.{Value}
use Rattle.fkv_disk.specs.Device.{MakesCalls, after}
use Rattle.fkv_disk.specs.Kinds.{Foretold, Kind, OneSyncThenReads, OnlyReads}
use Rattle.fkv_disk.proofs.Shown.{after_is}
use Rattle.fkv_opening.specs.Faults.{IsFaultOf, IsRefused}
use Rattle.fkv_opening.specs.Opened.{IsStoreOf}
use Rattle.fkv_opening.specs.declared.opened_store.Opened.{Opened}
use Rattle.fkv_pairs.specs.Pairs.{ArePairs, log_of_store}
use Rattle.fkv_runs.specs.Crashes.{IsCause}
use Rattle.fkv_runs.specs.Openings.{IsRecovered, RefusesNoCall}

-- a refusal of recovery has its cause
pub cause_of_refusal : (image : List ℕ) (before now : ℕ) (premise : Type 0) (fault : Fault) → IsRefused before now premise (IsFaultOf image) fault → premise → IsCause image fault
cause_of_refusal image before now premise NotAStore refused holds = refused holds
cause_of_refusal image before now premise (Damaged part place) refused holds = refused holds
cause_of_refusal image before now premise Device refused holds = tt
cause_of_refusal image before now premise Memory refused holds = tt
cause_of_refusal image before now premise other refused holds = absurd (refused)

-- a device that refuses no call refuses none behind some calls
refuses_none_later : (count : ℕ) (before now : ℕ → Bool) → now ≡ after count before → ((call : ℕ) → before call ≡ false) → (call : ℕ) → now call ≡ false
refuses_none_later count before now counted none call = ap (λ (refuses : ℕ → Bool). refuses call) counted ∙ after_is count before call ∙ none (call + count)

pub none_behind_calls : {T : Type 0} (count : ℕ) (before now : ℕ → Bool) (result : Result T Fault) → MakesCalls count before now result → ((call : ℕ) → before call ≡ false) → (call : ℕ) → now call ≡ false
none_behind_calls count before now result made none = refuses_none_later count before now made.counted none

pub none_behind_reads : {D : Type 0} (refuses : D → ℕ → Bool) (expects : D → List Kind → Foretold) (old new : D) → OnlyReads refuses expects old new → RefusesNoCall refuses old → RefusesNoCall refuses new
none_behind_reads refuses expects old new made none = refuses_none_later made.reads (refuses old) (refuses new) made.counted none

pub none_behind_sync : {D : Type 0} (refuses : D → ℕ → Bool) (expects : D → List Kind → Foretold) (old new : D) → OneSyncThenReads refuses expects old new → RefusesNoCall refuses old → RefusesNoCall refuses new
none_behind_sync refuses expects old new made none = refuses_none_later (1 + made.reads) (refuses old) (refuses new) made.counted none

-- the pairs are of the image that the device read as before, where it still reads as it did
pub recovered_before : (old new : List ℕ) (opened : Opened) (pairs : List (Key × Value)) → new ≡ old → IsStoreOf old opened
    → ((store : IsStoreOf new opened) → ArePairs (log_of_store new opened store) pairs) → IsRecovered old opened pairs
recovered_before old new opened pairs same store are =
    let told : (its : IsStoreOf old opened) → ArePairs (log_of_store old opened its) pairs =
    subst (λ (image : List ℕ). (its : IsStoreOf image opened) → ArePairs (log_of_store image opened its) pairs) same are in
    record { store = store; are_pairs = told store }
