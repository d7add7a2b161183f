-- What is found at an address.
use Rattle.std.proofs.Common.{◌≡◌, ℕ, ◌+◌, ◌<◌, ◌≤◌, true, false, Option, Some, sym, ap, subst, ◌∙◌, arith}
use Rattle.std.specs.Prelude.{nat_lt, ◌↔◌}
use Rattle.std.proofs.lemmas.Bool.Decides.{nat_tests}
use Rattle.fkv_disk.specs.Device.{Rose}
use Rattle.fkv_record.specs.declared.records.Record.{Record}
use Rattle.fkv_scan.specs.declared.met_records.MetRecord.{MetRecord}
use Rattle.fkv_scan.specs.Log.{Log, record_home}
use Rattle.fkv_scan.specs.Records.{Stands, next_of, version_of, IsNewer}
use Rattle.fkv_scan.specs.Scan.{Has, IsFit}
use Rattle.fkv_scan.specs.Parts.{Tells, IsGivenUp}
use Rattle.fkv_scan.proofs.Standing.{AreRead, stands_read, alone_read}

module _ (log : Log) (a : ℕ) (read : Option Record) (reads : AreRead log a read) (x : Record) (is : read ≡ Some x) (version least : ℕ)
    (told : version ≡ version_of log x) (oldest_is : least ≡ log.oldest) (new_enough : least ≤ version) (old_enough : version ≤ log.version + 1) (falls : next_of log x < a) where
  is_fit : IsFit log a x
  is_fit = record { stands = stands_read log a read reads x is; new_enough = omega (arith, told, oldest_is, new_enough); old_enough = omega (arith, told, old_enough); falls = falls }

  -- an invalid record
  pub given_up : x.header.invalid ≡ true → IsGivenUp log a
  given_up invalid = record { held = x; fits = is_fit; alone = λ y stands. alone_read log a read reads x y is stands; invalid = invalid }

  -- a valid one
  pub is_valid : log.start ≤ a → x.header.invalid ≡ false → (m : MetRecord) → m.addr.0 ≡ a → m.home ≡ record_home log.shape.bucket_bits x → m.previous.0 ≡ next_of log x → m.version.0 ≡ version
      → (m.addr.0 ≡ a) × Tells log m
  is_valid from valid m at home previous its_version = (
    at,
    record {
      held = x;
      from_start = omega (arith, from, at);
      fits = subst (λ n. IsFit log n x) (sym at) is_fit;
      alone = λ y stands. alone_read log a read reads x y is (subst (λ n. Stands log n y) at stands);
      valid = valid;
      home = home;
      previous = previous;
      version = its_version ∙ told;
    },
  )

-- whether it is newer than the commit
pub newer_is : (log : Log) (m : MetRecord) → Tells log m → (nat_lt log.version m.version.0 ≡ true) ↔ Has (IsNewer log) m.addr.0
newer_is log m tells =
    let x = tells.held in
    let told : m.version.0 ≡ version_of log x = tells.version in
    let old_enough = tells.fits.old_enough in (
      λ above. (x, record { stands = tells.fits.stands; valid = tells.valid; newer = (let lower : log.version < m.version.0 = grind (arith, nat_tests, above) in omega (arith, lower, old_enough, told)) }),
      λ has.
          let same : version_of log x ≡ version_of log has.0 = ap (λ r. version_of log r) (sym (tells.alone has.0 has.1.stands)) in
          let newer = has.1.newer in
          let lower : log.version < m.version.0 = omega (arith, same, newer, told) in
          grind (arith, nat_tests, lower),
    )

-- a later count of failures that rose is one of before that rose
pub rose_before : (before mid now : ℕ) → before ≤ mid → Rose mid now → Rose before now
rose_before before mid now later rose = omega (arith, later, rose)
