-- What is read at an address.
use Rattle.std.proofs.Common.{◌≡◌, ℕ, true, false, Option, Some, None, sym, ap, ◌∙◌, arith}
use Rattle.std.specs.Prelude.{nat_eq, ◌↔◌}
use Rattle.std.proofs.lemmas.Bool.Decides.{nat_tests}
use Rattle.fkv_words.specs.Fields.{Reads}
use Rattle.fkv_disk.specs.Bytes.{bytes_at}
use Rattle.fkv_record.specs.declared.records.Record.{Record}
use Rattle.fkv_record.specs.Layout.{record_bytes}
use Rattle.fkv_record.specs.Places.{record_place}
use Rattle.fkv_scan.specs.Log.{Log, record_home}
use Rattle.fkv_scan.specs.Records.{Stands, IsValid}
use Rattle.fkv_scan.specs.Scan.{Has}
use Rattle.fkv_scan.proofs.Keys.{some_is}

-- what is read at an address of an image
abbrev pub AreRead : Log → ℕ → Option Record → Type 0
AreRead log a read = Reads record_bytes (bytes_at log.image (record_place log.shape a) 24) read

module _ (log : Log) (a : ℕ) (read : Option Record) (reads : AreRead log a read) where
  pub stands_read : (x : Record) → read ≡ Some x → Stands log a x
  stands_read x is = (reads x).0 is

  pub alone_read : (x y : Record) → read ≡ Some x → Stands log a y → y ≡ x
  alone_read x y is stands = sym (some_is x y (sym is ∙ (reads y).1 stands))

  pub none_read : (y : Record) → read ≡ None → Stands log a y → ⊥
  none_read y is stands = (let e : None ≡ Some y = sym is ∙ (reads y).1 stands in cc)

  -- a valid record stands there, and of which home it is
  pub valid_there : (x : Record) (its_home found : ℕ) → read ≡ Some x → x.header.invalid ≡ false → found ≡ record_home log.shape.bucket_bits x → (nat_eq found its_home ≡ true) ↔ Has (IsValid log its_home) a
  valid_there x its_home found is valid home_is = (
    λ same. (x, record { stands = stands_read x is; valid = valid; same = (let e : found ≡ its_home = grind (arith, nat_tests, same) in sym home_is ∙ e) }),
    λ has.
        let e : found ≡ its_home = home_is ∙ ap (λ r. record_home log.shape.bucket_bits r) (sym (alone_read x has.0 is has.1.stands)) ∙ has.1.same in
        grind (arith, nat_tests, e),
  )
