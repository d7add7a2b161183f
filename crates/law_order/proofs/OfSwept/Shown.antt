-- What bytes that have the records of a log show a sweep of it.
use Rattle.std.proofs.Common.{◌≡◌, ℕ, ◌+◌, ◌<◌, ◌≤◌, ◌^◌, ◌∙◌, inl, inr, refl, sym, ap, subst, arith, Bool, true, false, List}
use Rattle.std.specs.Prelude.{◌==◌, ◌&&◌, if◌then◌else◌, is_none, nat_le, nat_lt, Option, Some, None}
use Rattle.std.proofs.lemmas.Bool.Decides.{nat_tests}
use Rattle.fkv_base.specs.declared.numbers.Addr.{Addr}
use Rattle.fkv_base.specs.declared.numbers.Key.{Key}
use Rattle.fkv_base.specs.declared.shapes.Shape.{Shape}
use Rattle.fkv_disk.specs.Bytes.{bytes_at}
use Rattle.fkv_plane.specs.declared.places.RecordWord.TheVariants as rec
use Rattle.fkv_record.specs.Places.{number_at, record_place}
use Rattle.fkv_sweep.specs.SweptLogs.{IsInChain, ShowsCell, ShowsChained, ShowsPiece, ShowsRead, Standing}
use Rattle.fkv_sweep.specs.Sweeping as sweep
use Rattle.fkv_sweep.specs.Sweeping.{Sweeper, is_counted, piece_bytes, piece_read, place_of, read_place, sweeping_addr, words_at}
use Rattle.fkv_sweep.specs.declared.sweeping.Sweeping.{Sweeping}
use Rattle.fkv_sweep.specs.declared.sweeping.Sweeping.TheVariants.{Meets, Reads}
use Rattle.law_commit.specs.Below.fkv_ops.Values.{value_of}
use Rattle.law_commit.specs.Below.law_local.Tries.Floors.{LeadsByFloor}
use Rattle.law_commit.specs.Below.law_refine.Events.GhostEvents.{home_in}
use Rattle.law_log.specs.Chains.{Cell, Published, IsWithin}
use Rattle.law_log.specs.Enabled.{AreChains, previous_of}
use Rattle.law_log.specs.Ghosts.{Log}
use Rattle.law_log.specs.Trace.{IsIn}
use Rattle.law_log.proofs.Shown.{begins_at}
use Rattle.law_opening.proofs.OfChanges.OfDevice.Words.{header_fits, value_fits}
use Rattle.law_opening.specs.Changes.Images.{IsInImage}
use Rattle.law_order.specs.Swept.Logs.{standing_at, swept_log}
use Rattle.law_order.specs.Swept.Shown.{ShowLog}
use Rattle.law_order.proofs.OfSwept.Headers.{leads_there, says_previous, says_version}
use Rattle.law_order.proofs.OfSwept.Logs.{has_key_at, in_swept, in_trace, stands_as}
use Rattle.law_order.proofs.OfSwept.Words.{counts_so, header_read, words_at_first, words_in_piece, words_read}

module _ (begin : ℕ) (shape : Shape) (seen : List ℕ) (log : Log) (flushed : ℕ) (shows : ShowLog begin shape seen log flushed) where
  -- ---- the words of such a record
  pub record HasWords (a : ℕ) (cell : Cell) : Type 0 where
    pub header : ℕ
    pub key : ℕ
    pub value : ℕ
    pub words : words_at (bytes_at seen (record_place shape a) 24) 0 ≡ record { header = header; key = record { 0 = key }; value = value }
    pub leads : LeadsByFloor begin cell.previous header
    pub valid : header < 2 ^ 61
    pub its_key : key ≡ cell.key
    pub its_value : value_of value ≡ cell.value

  pub words_there : (a : ℕ) (cell : Cell) → log.cells a ≡ Published cell → a < flushed → HasWords a cell
  words_there a cell e to =
      let its : IsInImage begin shape seen a cell = shows.image a cell e to in
      let header : ℕ = its.words rec.Header in
      let key : ℕ = its.words rec.Key in
      let value : ℕ = its.words rec.Value in
      let one : header < 2 ^ 64 = header_fits header its.leads.said its.leads.version its.leads.says in
      let two : key < 2 ^ 64 = subst (λ (n : ℕ). n < 2 ^ 64) (sym its.key) (shows.fits a cell e).0 in
      let three : value < 2 ^ 64 = value_fits value cell.value its.value (shows.fits a cell e).1 in
      let read : number_at (bytes_at seen (record_place shape a) 24) 0 ≡ header = ap (λ (bytes : List ℕ). number_at bytes 0) its.there ∙ header_read header key value one in
      record {
        header = header;
        key = key;
        value = value;
        words = ap (λ (bytes : List ℕ). words_at bytes 0) its.there ∙ words_read header key value one two three;
        leads = its.leads;
        valid = subst (λ (n : ℕ). n < 2 ^ 61) read (shows.valid a cell e to);
        its_key = its.key;
        its_value = its.value;
      }

  -- ---- records that are met in a piece
  counts : (header value : ℕ) (key : Key) (said : Option ℕ) → 2 ^ 48 ≤ header → header < 2 ^ 61 → value_of value ≡ said → is_none said ≡ false → is_counted (record { header = header; key = key; value = value }) ≡ true
  counts header value key said some low is present = by_test (value == sweep.absent_word) refl (ap is_none is ∙ present)
    where
      by_test : (c : Bool) → (value == sweep.absent_word) ≡ c → is_none (if c then None else Some value) ≡ false → is_counted (record { header = header; key = key; value = value }) ≡ true
      by_test false e its = counts_so header value key some low e
      by_test true e its = cc

  cell_shown : (a : ℕ) (it : Standing) → standing_at (log.cells a) ≡ Some it → a < flushed → ShowsCell (words_at (bytes_at seen (record_place shape a) 24) 0) it
  cell_shown a it e to =
      let stands = stands_as (log.cells a) it e in
      let its = words_there a stands.cell stands.its to in
      let key : record { 0 = its.key } ≡ it.key = (let same : its.key ≡ it.key.0 = its.its_key ∙ sym stands.key in ap (λ (n : ℕ). record { 0 = n }) same) in
      subst (λ words. ShowsCell words it) (sym its.words) (record {
        its_key = key;
        counts = λ present. counts its.header its.value (record { 0 = its.key }) stands.cell.value (says_version its.header its.leads.said its.leads.version its.leads.says) its.valid its.its_value (sym stands.absent ∙ present);
      })

  pub piece_shown : (to : ℕ) (first : Addr) → to ≤ flushed → ShowsPiece to (swept_log log) (piece_read first (bytes_at seen (record_place shape first.0) 768))
  piece_shown to first low = λ a it in_piece below e.
      let test : (nat_le first.0 a.0 && nat_lt a.0 (first.0 + 32)) ≡ true = in_piece in
      let on : first.0 ≤ a.0 = grind (arith, nat_tests, test) in
      let under : a.0 < first.0 + 32 = grind (arith, nat_tests, test) in
      subst (λ words. ShowsCell words it) (sym (words_in_piece seen shape first.0 a.0 on under)) (cell_shown a.0 it e (omega (arith, below, low)))

  -- ---- a record of a chain
  module _ (bits : ℕ) (chains : AreChains (home_in bits) log) where
    -- what it leads to stands in the chain too, if it is an address at all
    goes_on : (h a : ℕ) (cell : Cell) → log.cells a ≡ Published cell → IsIn a (log.chains h) → IsWithin cell.previous (log.chains h)
    goes_on h a cell e is_in =
        let its = begins_at log.cells (log.chains h) (chains.linked h) a is_in in
        subst (λ (b : ℕ). IsWithin b (log.chains h)) (the_next _ cell.previous (sym its.leads ∙ ap previous_of e)) its.within
      where
        the_next : (x y : ℕ) → Some x ≡ Some y → x ≡ y
        the_next x y same = cc

    still_in : (h to a : ℕ) → 0 < to → to ≤ a → IsWithin a (log.chains h) → IsIn a (log.chains h)
    still_in h to a some on (inl nowhere) = absurd (omega (arith, some, on, nowhere))
    still_in h to a some on (inr is_in) = is_in

    -- where its header leads from the end of a sweep on
    leads_in : (key : Key) (to a : ℕ) (cell : Cell) (header : ℕ) → log.cells a ≡ Published cell → IsIn a (log.chains (home_in bits key.0)) → begin ≤ to → 0 < to → LeadsByFloor begin cell.previous header → to ≤ sweep.previous_in header
        → IsInChain bits (swept_log log) key (sweep.previous_in header)
    leads_in key to a cell header e is_in low some leads on =
        let h : ℕ = home_in bits key.0 in
        let said : sweep.previous_in header ≡ leads.said.0 = says_previous header leads.said leads.version leads.says in
        let high : to ≤ leads.said.0 = subst (λ (n : ℕ). to ≤ n) said on in
        let next : leads.said.0 ≡ cell.previous = leads_there begin to leads.said.0 cell.previous leads.same low some high in
        let within : IsIn cell.previous (log.chains h) = still_in h to cell.previous some (subst (λ (n : ℕ). to ≤ n) next high) (goes_on h a cell e is_in) in
        subst (λ (n : ℕ). IsInChain bits (swept_log log) key n) (sym (said ∙ next)) (in_swept cell.previous (log.chains h) within)

    pub chained_shown : (s : Sweeper) (key : Key) (a : ℕ) → s.shape.bucket_bits ≡ bits → begin ≤ s.to.0 → 0 < s.to.0 → a < flushed → IsInChain s.shape.bucket_bits (swept_log log) key a
        → ShowsChained (swept_log log) s key a (words_at (bytes_at seen (record_place shape a) 768) 0)
    chained_shown s key a same low some to in_chain =
        let h : ℕ = home_in bits key.0 in
        let is_in : IsIn a (log.chains h) = in_trace a (log.chains h) (subst (λ (b : ℕ). IsInChain b (swept_log log) key a) same in_chain) in
        let there = chains.in_chain h a is_in in
        let its = words_there a there.cell there.its to in
        subst (λ words. ShowsChained (swept_log log) s key a words) (sym (words_at_first seen (record_place shape a) ∙ its.words)) (record {
          its_key = λ own. has_key_at log key a there.cell there.its (sym its.its_key ∙ own);
          leads = λ on.
              subst (λ (b : ℕ). IsInChain b (swept_log log) key (sweep.previous_in its.header)) (sym same)
              (leads_in key s.to.0 a there.cell its.header there.its is_in low some its.leads on);
        })

    -- ---- whatever a sweep reads there shows the log
    pub read_shown : (s : Sweeper) → s.shape ≡ shape → s.shape.bucket_bits ≡ bits → begin ≤ s.to.0 → 0 < s.to.0 → s.to.0 ≤ flushed → s.head.0 ≤ flushed → ShowsRead (swept_log log) s s.step (bytes_at seen (read_place s) piece_bytes)
    unfolding sweeping_addr
    read_shown s its_shape same low some to head = by_step s.step
      where
        by_step : (step : Sweeping) → ShowsRead (swept_log log) s step (bytes_at seen (place_of s.shape (sweeping_addr s step)) piece_bytes)
        by_step Meets = subst (λ (x : Shape). ShowsPiece s.to.0 (swept_log log) (piece_read s.next (bytes_at seen (record_place x s.next.0) 768))) (sym its_shape) (piece_shown s.to.0 s.next to)
        by_step (Reads key addr) = λ under on in_chain.
            subst (λ (x : Shape). ShowsChained (swept_log log) s key addr.0 (words_at (bytes_at seen (record_place x addr.0) 768) 0)) (sym its_shape)
            (chained_shown s key addr.0 same low some (omega (arith, under, head)) in_chain)
        by_step step = tt
