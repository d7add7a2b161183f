-- Where the chains have no fault, none stands.
use Rattle.std.proofs.Common.{◌≡◌, ◌≢◌, ◌⊎◌, inl, inr, ℕ, true, false, sym, ap, ◌∙◌}
use Rattle.fkv_base.specs.declared.faults.Fault.{Fault}
use Rattle.fkv_base.specs.declared.faults.Fault.TheVariants as fault
use Rattle.fkv_base.specs.declared.faults.Damage.TheVariants as damage
use Rattle.fkv_words.specs.Fields.{SpellsApart}
use Rattle.fkv_record.specs.declared.records.Record.{Record}
use Rattle.fkv_record.specs.Layout.{record_bytes}
use Rattle.fkv_scan.specs.Log.{Log, record_home}
use Rattle.fkv_chains.specs.Reached.{LeadsTo}
use Rattle.fkv_chains.specs.Chains.{IsChained, HasChains, IsChainLinkFault, IsChainFault}

module _ (apart : SpellsApart record_bytes) (log : Log) where
  not_off : (a : ℕ) → IsChained log a → IsChainLinkFault log a → ⊥
  not_off a chained off = by_cause off.here
    where
      same : off.held ≡ chained.held
      same = apart off.held chained.held (off.stands ∙ sym chained.old.stands)

      by_cause : ((let x = off.held in x.header.invalid ≡ true) ⊎ ((leading : ℕ) × LeadsTo log leading a × (record_home log.shape.bucket_bits off.held ≢ leading))) → ⊥
      by_cause (inl invalid) = (let never : true ≡ false = sym invalid ∙ ap (λ (x : Record). x.header.invalid) same ∙ chained.valid in cc)
      by_cause (inr other) = other.2 (ap (λ (x : Record). record_home log.shape.bucket_bits x) same ∙ chained.same other.0 other.1)

  pub no_fault : (why : Fault) → HasChains log → IsChainFault log why → ⊥
  no_fault (fault.Damaged damage.Record a) sound found = (let chained = sound a found.reached found.below_start in found.here chained.held chained.old)
  no_fault (fault.Damaged damage.Link a) sound found = not_off a (sound a found.reached found.below_start) found
  no_fault other sound found = absurd (found)
