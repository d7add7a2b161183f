-- Why operations aren't applied.
use Rattle.std.proofs.Common.{◌≡◌, ◌⊎◌, ◌↔◌, ◌<◌, ◌∙◌, inl, inr, ℕ, List, Result, Err, get_or, length, subst, sym}
use Rattle.std.proofs.lemmas.List.Elements.{Contains-get_or}
use Rattle.fkv_base.specs.declared.faults.Fault.{Fault}
use Rattle.fkv_base.specs.declared.faults.Fault.TheVariants.{Memory, ValueReserved}
use Rattle.fkv_base.specs.declared.numbers.Key.{Key}
use Rattle.fkv_base.specs.declared.numbers.Serial.{Serial}
use Rattle.fkv_base.specs.declared.numbers.Value.{Value}
use Rattle.fkv_map.specs.Map.{IsReserved}
use Rattle.fkv_map.specs.declared.operations.Op.{Op}
use Rattle.fkv_thread_scripts.specs.Keys.{HasReserved, IsUnapplied, IsUncompared, told_ops, upserts_of}
use Rattle.fkv_thread_scripts.specs.declared.logs.Log.{Log}

same_error : {T : Type 0} (r : Result T Fault) (why which : Fault) → r ≡ Err why → r ≡ Err which → why ≡ which
same_error r why which is its = cc

-- memory was refused
pub of_memory : {T : Type 0} (ops : List Op) (r : Result T Fault) (why : Fault) → r ≡ Err why → r ≡ Err Memory → IsUnapplied ops why
of_memory ops r why is its = subst (IsUnapplied ops) (sym (same_error r why Memory is its)) tt

-- an operation in its turn is refused
pub of_apply : {T : Type 0} (ops : List Op) (i : ℕ) (d : Op) → i < length ops → (r : Result T Fault) (why : Fault) → r ≡ Err why → (why ≡ ValueReserved) ⊎ (why ≡ Memory) → (r ≡ Err ValueReserved) ↔ IsReserved (get_or ops i d) → IsUnapplied ops why
of_apply ops i d below r why is (inl its) reserved =
    let brings : HasReserved ops = (get_or ops i d, Contains-get_or ops i d below, reserved.0 (is ∙ (λ j. Err (its j)))) in
    subst (IsUnapplied ops) (sym its) brings
of_apply ops i d below r why is (inr its) reserved = subst (IsUnapplied ops) (sym its) tt

-- a read brings no value
pub of_read : {T : Type 0} (r : Result T Fault) (why : Fault) → r ≡ Err why → (why ≡ ValueReserved) ⊎ (why ≡ Memory) → (r ≡ Err ValueReserved → ⊥) → why ≡ Memory
of_read r why is (inl its) none = absurd (none (is ∙ (λ j. Err (its j))))
of_read r why is (inr its) none = its

-- ---- a report
pub untold : (points points' : List Serial) (logs : List Log) (pairs : List (Key × Value)) (why : Fault) → points' ≡ points → IsUnapplied (told_ops points' logs) why → IsUncompared points logs pairs why
untold points points' logs pairs why same its = inl (subst (λ (ps : List Serial). IsUnapplied (told_ops ps logs) why) same its)

pub unstored : (points : List Serial) (logs : List Log) (pairs : List (Key × Value)) (why : Fault) → IsUnapplied (upserts_of pairs) why → IsUncompared points logs pairs why
unstored points logs pairs why its = inr its

pub unmatched : {T : Type 0} (points : List Serial) (logs : List Log) (pairs : List (Key × Value)) (r : Result T Fault) (why : Fault) → r ≡ Err why → r ≡ Err Memory → IsUncompared points logs pairs why
unmatched points logs pairs r why is its = inl (of_memory (told_ops points logs) r why is its)
