-- What is reached in a log lies from its begin on. It lies below its end, and leads below itself, if recovery finds no fault in the scan, the chains and the triples.
use Rattle.std.proofs.Common.{⊎_elim, ℕ, ◌<◌, ◌≤◌, sym, subst, ◌∙◌, arith}
use Rattle.std.proofs.lemmas.Bool.{cases_lt}
use Rattle.fkv_chains.specs.Chains.{HasChains}
use Rattle.fkv_chains.specs.Reached.{Reached, in_scan, led_to, linked}
use Rattle.fkv_record.proofs.Shown.{from_some}
use Rattle.fkv_record.specs.Layout.{record_bytes}
use Rattle.fkv_record.specs.declared.records.Record.{Record}
use Rattle.fkv_scan.specs.Log.{Log, AreBelow}
use Rattle.fkv_scan.specs.Records.{Stands, next_of}
use Rattle.fkv_scan.specs.Scan.{HasScan}
use Rattle.fkv_words.specs.Fields.{SpellsApart}

pub reached_begun : (log : Log) → log.begin ≤ log.start → (a : ℕ) → Reached log a → log.begin ≤ a
reached_begun log begins a (in_scan _ x from within stands valid) = omega (arith, begins, from)
reached_begun log begins a (led_to h _ t) = t.in_log
reached_begun log begins b (linked a _ x reached stands is some) =
    let up : log.begin ≤ next_of log x = from_some log.begin x.header.previous.0 (λ none. some (sym is ∙ none)) in
    omega (arith, up, is)

module _ {log : Log} (spells : SpellsApart record_bytes) (scan : HasScan log) (chains : HasChains log) (below : AreBelow log.tail log.triples) where
  pub leads_down : (a : ℕ) (x : Record) → a < log.tail → Reached log a → Stands log a x → next_of log x < a
  leads_down a x within reached stands = ⊎_elim
      (λ low.
      let this = chains a reached low in
      subst (λ (y : Record). next_of log y < a) (spells this.held x (this.old.stands ∙ sym stands)) this.old.falls)
      (λ from.
      let this = scan.records a from within in
      subst (λ (y : Record). next_of log y < a) (spells this.held x (this.fits.stands ∙ sym stands)) this.fits.falls)
      (cases_lt a log.start)

  pub reached_low : (a : ℕ) → Reached log a → a < log.tail
  reached_low a (in_scan _ x from within stands valid) = within
  reached_low a (led_to h _ t) = (let low = below t.place t.triple t.stands in let at = t.address in omega (arith, low, at))
  reached_low b (linked a _ x reached stands is some) =
      let low = reached_low a reached in
      let falls = leads_down a x low reached stands in
      omega (arith, low, falls, is)
