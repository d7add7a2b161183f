-- Where the scan finds no fault, none stands.
use Rattle.std.proofs.Common.{◌≡◌, inl, inr, ℕ, false, sym, ap, subst, ◌∙◌}
use Rattle.fkv_base.specs.declared.faults.Fault.{Fault}
use Rattle.fkv_base.specs.declared.faults.Fault.TheVariants as fault
use Rattle.fkv_base.specs.declared.faults.Damage.TheVariants as damage
use Rattle.fkv_words.specs.Fields.{SpellsApart}
use Rattle.fkv_record.specs.Layout.{record_bytes}
use Rattle.fkv_scan.specs.Log.{Log}
use Rattle.fkv_scan.specs.Scan.{IsLinked, IsOff, IsScanned, HasScan, IsScanFault}

module _ (apart : SpellsApart record_bytes) (log : Log) where
  not_off : (a : ℕ) → IsScanned log a → IsOff log a → ⊥
  not_off a scanned off =
      let same : off.held ≡ scanned.held = apart off.held scanned.held (off.fits.stands ∙ sym scanned.fits.stands) in
      let valid : scanned.held.header.invalid ≡ false = ap (λ x. x.header.invalid) (sym same) ∙ off.valid in
      off.here (subst (λ x. IsLinked log a x) (sym same) (scanned.linked valid))

  pub no_fault : (why : Fault) → HasScan log → IsScanFault log why → ⊥
  no_fault (fault.Damaged damage.Record a) sound found = (let scanned = sound.records a found.from_start found.in_log in found.here scanned.held scanned.fits)
  no_fault (fault.Damaged damage.Link a) sound (inl found) = not_off a (sound.records a found.from_start found.in_log) found.here
  no_fault (fault.Damaged damage.Link a) sound (inr found) = found.here (sound.triples found.place found.triple found.stands)
  no_fault other sound found = absurd (found)
