-- Images that agree on what recovery reads have the same values.
use Rattle.std.proofs.Common.{ℕ, List, sym, subst}
use Rattle.std.specs.Prelude.{◌↔◌}
use Rattle.fkv_base.specs.declared.numbers.Key.{Key}
use Rattle.fkv_base.specs.declared.numbers.Value.{Value}
use Rattle.fkv_opening.proofs.Shown.{Apart, one_log}
use Rattle.fkv_opening.specs.Alike.{Agree, ShareLog}
use Rattle.fkv_opening.specs.Faults.{log_of}
use Rattle.fkv_opening.specs.Opened.{IsStoreOf}
use Rattle.fkv_opening.specs.declared.opened_store.Opened.{Opened}
use Rattle.fkv_pairs.specs.Pairs.{HasValue, IsNewest, log_of_store}
use Rattle.fkv_record.specs.declared.records.Record.{Record}
use Rattle.fkv_scan.specs.Log as scan
use Rattle.law_paper.proofs.OfPaper.Alike.{counts_now, counts_was}
use Rattle.law_paper.proofs.OfPaper.Opened.{checkpoint_here, share_log, was_sound}

module _ (spellings : Apart) (image other : List ℕ) (o : Opened) (store : IsStoreOf image o) (agree : Agree image other) where
  -- the log of the one, and of the other behind the same newest slot
  abbrev first : scan.Log
  first = log_of_store image o store

  abbrev second : scan.Log
  second = log_of other store.newest store.triples

  abbrev shared : ShareLog store.newest image other
  shared = share_log spellings image other o store agree

  newest_now : (key : Key) (a : ℕ) (x : Record) → IsNewest first key a x → IsNewest second key a x
  newest_now key a x newest = record {
    counts = counts_now store.newest store.triples spellings.records image other shared (was_sound image o store) _ a x newest.counts;
    of_key = newest.of_key;
    greatest = λ b y counts same. newest.greatest b y (counts_was store.newest store.triples spellings.records image other shared (was_sound image o store) _ b y counts) same;
  }

  newest_was : (key : Key) (a : ℕ) (x : Record) → IsNewest second key a x → IsNewest first key a x
  newest_was key a x newest = record {
    counts = counts_was store.newest store.triples spellings.records image other shared (was_sound image o store) _ a x newest.counts;
    of_key = newest.of_key;
    greatest = λ b y counts same. newest.greatest b y (counts_now store.newest store.triples spellings.records image other shared (was_sound image o store) _ b y counts) same;
  }

  values_there : (key : Key) (value : Value) → HasValue first key value ↔ HasValue second key value
  values_there key value = (
    λ has. record { addr = has.addr; held = has.held; newest = newest_now key has.addr has.held has.newest; written = has.written; present = has.present },
    λ has. record { addr = has.addr; held = has.held; newest = newest_was key has.addr has.held has.newest; written = has.written; present = has.present },
  )

  -- so it is of the other's own log
  pub same_values : (its : IsStoreOf other o) (key : Key) (value : Value) → HasValue first key value ↔ HasValue (log_of_store other o its) key value
  same_values its key value =
      let same = one_log spellings other store.newest its.newest store.triples its.triples (checkpoint_here spellings image other o store agree) its.checkpoint in
      subst (λ (log : scan.Log). HasValue first key value ↔ HasValue log key value) (sym same) (values_there key value)
