-- Where the chain of a home goes on below the scan's start, from one record to the next.
use Rattle.std.proofs.Common.{◌≡◌, ◌⊎◌, inl, inr, ⊎_elim, ℕ, ◌+◌, ◌<◌, ◌≤◌, Option, Some, None, subst, arith}
use Rattle.fkv_base.specs.declared.numbers.Addr.{Addr}
use Rattle.fkv_record.specs.declared.records.Record.{Record}
use Rattle.fkv_scan.specs.Log.{Log}
use Rattle.fkv_scan.specs.Records.{next_of, IsValid}
use Rattle.fkv_scan.specs.Scan.{GoesOn, by_triple, by_none, by_record}
use Rattle.fkv_scan.specs.Known.{IsWay}
use Rattle.fkv_scan.proofs.Greatest.{at_or_below, none_more}

module _ (log : Log) (its_home : ℕ) where
  -- what was known stays
  pub goes_on_more : (a q : ℕ) → GoesOn log its_home a q → GoesOn log its_home (a + 1) q
  goes_on_more a q (by_triple t small) = by_triple t small
  goes_on_more a q (by_none none zero_is) = by_none none zero_is
  goes_on_more a q (by_record c x from below valid is small) = by_record c x from (omega (arith, below)) valid is small

  -- the one record more that may tell of it
  abbrev pub NewWay : ℕ → ℕ → Type 0
  NewWay a q = (x : Record) × IsValid log its_home a x × (next_of log x ≡ q) × (q < log.start)

  goes_by : (a q c : ℕ) (x : Record) → log.start ≤ c → IsValid log its_home c x → next_of log x ≡ q → q < log.start → (c < a) ⊎ (c ≡ a) → GoesOn log its_home a q ⊎ NewWay a q
  goes_by a q c x from valid is small (inl less) = inl (by_record c x from less valid is small)
  goes_by a q c x from valid is small (inr same) = inr (x, subst (λ n. IsValid log its_home n x) same valid, is, small)

  pub goes_on_back : (a q : ℕ) → GoesOn log its_home (a + 1) q → GoesOn log its_home a q ⊎ NewWay a q
  goes_on_back a q (by_triple t small) = inl (by_triple t small)
  goes_on_back a q (by_none none zero_is) = inl (by_none none zero_is)
  goes_on_back a q (by_record c x from below valid is small) = goes_by a q c x from valid is small (at_or_below c a below)

  -- where the record at an address tells nothing
  pub way_more : (a : ℕ) (o : Option Addr) → IsWay log its_home a o → ((y : Record) → IsValid log its_home a y → ⊥) → IsWay log its_home (a + 1) o
  way_more a None way none = (
    λ q goes. ⊎_elim (λ was. way.0 q was) (λ new. none new.0 new.1) (goes_on_back a q goes),
    none_more (IsValid log its_home) log.start a way.1 none,
  )
  way_more a (Some w) way none = record {
    there = goes_on_more a w.0 way.there;
    alone = λ q goes. ⊎_elim (λ was. way.alone q was) (λ new. absurd (none new.0 new.1)) (goes_on_back a q goes);
  }
