-- A valid record is taken in.
use Rattle.std.proofs.Common.{◌≡◌, ◌≢◌, ℕ, ◌+◌, ◌≤◌, List, Bool, true, false, Option, Some, refl, sym, ap, subst, ◌∙◌}
use Rattle.std.specs.Prelude.{nat_lt, ◌↔◌}
use Rattle.fkv_base.specs.declared.numbers.Addr.{Addr}
use Rattle.fkv_base.specs.declared.numbers.Version.{Version}
use Rattle.fkv_record.specs.declared.lost_ranges.LostRange.{LostRange}
use Rattle.fkv_record.specs.declared.records.Record.{Record}
use Rattle.fkv_scan.specs.declared.home_scans.HomeScan.{HomeScan}
use Rattle.fkv_scan.specs.declared.met_records.MetRecord.{MetRecord}
use Rattle.fkv_scan.specs.Log.{Log, record_home}
use Rattle.fkv_scan.specs.Records.{next_of, version_of, losses, losses_of, IsValid}
use Rattle.fkv_scan.specs.Scan.{Has, IsLinked}
use Rattle.fkv_scan.specs.Known.{Knows, KnowsOf}
use Rattle.fkv_scan.specs.Parts.{Tells, IsTakenIn}
use Rattle.fkv_scan.specs.Steps.{links, met, known_or}
use Rattle.fkv_scan.proofs.Meeting.{links_is, links_is_not}
use Rattle.fkv_scan.proofs.Knowing.{knows_met, knows_or}

module _ (log : Log) (m : MetRecord) (tells : Tells log m) (at : ℕ → Option HomeScan) (ranges : List LostRange) (is_lost leads : Bool) (ranges_are : ranges ≡ log.lost)
    (lost_is : is_lost ≡ nat_lt 0 (losses ranges m.addr.0 m.version.0)) (leading : is_lost ≡ true → log.start ≤ m.previous.0 → (leads ≡ true) ↔ Has (IsValid log m.home) m.previous.0)
    (knows : KnowsOf log m.home m.addr.0 (at m.home)) where
  abbrev x : Record
  x = tells.held

  abbrev own : ℕ
  own = record_home log.shape.bucket_bits tells.held

  lost_too : is_lost ≡ nat_lt 0 (losses_of log m.addr.0 x)
  lost_too = lost_is ∙ ap (λ r. nat_lt 0 (losses r m.addr.0 m.version.0)) ranges_are ∙ ap (λ n. nat_lt 0 (losses log.lost m.addr.0 n)) tells.version

  abbrev known : HomeScan
  known = known_or (at m.home)

  version_is : m.version ≡ record { 0 = version_of log x }
  version_is = ap (λ n. record { 0 = n }) tells.version

  abbrev previous_addr : Addr
  previous_addr = record { 0 = next_of log x }

  previous_is : m.previous ≡ previous_addr
  previous_is = ap (λ n. record { 0 = n }) tells.previous

  knowing : Knows log own m.addr.0 known
  knowing = subst (λ h. Knows log h m.addr.0 known) tells.home (knows_or log m.home m.addr.0 (at m.home) knows)

  leading_too : is_lost ≡ true → log.start ≤ next_of log x → (leads ≡ true) ↔ Has (IsValid log own) (next_of log x)
  leading_too = subst (λ n. is_lost ≡ true → log.start ≤ n → (leads ≡ true) ↔ Has (IsValid log own) n) tells.previous
      (subst (λ n. is_lost ≡ true → log.start ≤ m.previous.0 → (leads ≡ true) ↔ Has (IsValid log n) m.previous.0) tells.home leading)

  links_too : links known previous_addr (version_of log x) is_lost leads log.start ≡ links known m.previous m.version.0 is_lost leads log.start
  links_too = ap (λ (p : Addr). links known p (version_of log x) is_lost leads log.start) (sym previous_is) ∙ ap (λ n. links known m.previous n is_lost leads log.start) (sym tells.version)

  taken_on : links known m.previous m.version.0 is_lost leads log.start ≡ true → IsLinked log m.addr.0 x
  taken_on on = links_is log m.addr.0 x known leads knowing is_lost lost_too leading_too (links_too ∙ on)

  known_on : links known m.previous m.version.0 is_lost leads log.start ≡ true → Knows log m.home (m.addr.0 + 1) (met known m.addr m.previous m.version is_lost log.start log.version)
  known_on on =
      let of_record = knows_met log m.addr x tells.from_start tells.fits tells.alone tells.valid (taken_on on) known knowing is_lost lost_too in
      subst (λ h. Knows log h (m.addr.0 + 1) (met known m.addr m.previous m.version is_lost log.start log.version)) (sym tells.home)
      (subst (λ (p : Addr). Knows log own (m.addr.0 + 1) (met known m.addr p m.version is_lost log.start log.version)) (sym previous_is)
      (subst (λ (v : Version). Knows log own (m.addr.0 + 1) (met known m.addr previous_addr v is_lost log.start log.version)) (sym version_is) of_record))

  -- whether it is on its chain, with what is known then
  pub taken_in : (next : ℕ → Option HomeScan) (linked : Bool) → linked ≡ links known m.previous m.version.0 is_lost leads log.start
      → (linked ≡ true → next m.home ≡ Some (met known m.addr m.previous m.version is_lost log.start log.version)) → ((q : ℕ) → m.home ≢ q → next q ≡ at q) → IsTakenIn log m at next linked
  taken_in next true is told others = (
    record { held = x; fits = tells.fits; linked = λ valid. taken_on (sym is) },
    subst (λ o. KnowsOf log m.home (m.addr.0 + 1) o) (sym (told refl)) (known_on (sym is)),
    others,
  )
  taken_in next false is told others = (
    record { held = x; fits = tells.fits; valid = tells.valid; here = links_is_not log m.addr.0 x known leads knowing is_lost lost_too leading_too (links_too ∙ sym is) },
    others,
  )
