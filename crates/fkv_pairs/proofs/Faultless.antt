-- The log of a store has no fault.
use Rattle.std.proofs.Common.{ℕ, ◌≤◌, List, ap, refl, sym, subst}
use Rattle.fkv_base.specs.declared.numbers.Addr.{Addr}
use Rattle.fkv_opening.specs.declared.opened_store.Opened.{Opened}
use Rattle.fkv_opening.specs.Opened.{IsStoreOf}
use Rattle.fkv_pairs.specs.Pairs.{log_of_store}
use Rattle.fkv_pairs.specs.Gathered.{IsFaultless, IsReadFrom}

module _ (image : List ℕ) (opened : Opened) (store : IsStoreOf image opened) where
  some_start : (let log = log_of_store image opened store in 1 ≤ log.start)
  some_start = subst (λ (a : Addr). 1 ≤ a.0) store.tells.first opened.some_first

  pub is_faultless : IsFaultless (log_of_store image opened store)
  is_faultless = record {
    some_start = some_start;
    apart = store.checkpoint.apart;
    below = λ i x stands. (store.checkpoint.stored.each i x stands).in_log;
    scan = store.sound.scan;
    chains = store.sound.chains;
  }

  pub is_read_from : IsReadFrom image opened.shape opened.begin.0 (log_of_store image opened store)
  is_read_from = record { bytes = refl; sizes = sym store.tells.shape; begins = ap (λ (a : Addr). a.0) (sym store.tells.begin); faultless = is_faultless }
