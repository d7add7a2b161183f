-- The image of an opened store has each record of the log with which its life begins.
use Rattle.std.proofs.Common.{◌≡◌, ◌∙◌, ap, arith, inl, inr, refl, sym, subst, ℕ, List}
use Rattle.std.proofs.lemmas.Bool.{cases_lt}
use Rattle.fkv_base.specs.declared.numbers.Addr.{Addr}
use Rattle.fkv_base.specs.declared.shapes.Shape.{Shape}
use Rattle.fkv_disk.specs.Bytes.{bytes_at}
use Rattle.law_refine.specs.Below.fkv_log.RecordWords.{RecordWords}
use Rattle.law_paper.specs.Below.fkv_opening.Opened.{IsStoreOf}
use Rattle.law_paper.specs.Below.fkv_opening.TheOpened.{Opened}
use Rattle.law_opening.specs.Log.OpeningLog.{opening_log}
use Rattle.law_opening.specs.Log.Records.{HasWhatCounts, IsCellOf, cell_of}
use Rattle.law_log.specs.Chains.{Cell, Published}
use Rattle.law_paper.specs.Below.fkv_pairs.Pairs.{log_of_store}
use Rattle.law_paper.specs.Below.fkv_scan.Log.{Log}
use Rattle.law_paper.specs.Below.fkv_scan.Records.{next_of}
use Rattle.fkv_plane.specs.declared.places.RecordWord.{RecordWord}
use Rattle.fkv_plane.specs.declared.places.RecordWord.TheVariants as rec
use Rattle.fkv_core.specs.Openings.{IsOpeningWorld}
use Rattle.fkv_record.proofs.Shown.{from_below, from_lower, from_on, record_numbered}
use Rattle.fkv_record.specs.Begin.{from_or_none}
use Rattle.fkv_record.specs.Layout.{record_bytes}
use Rattle.fkv_record.specs.Places.{record_place}
use Rattle.fkv_record.specs.declared.records.Record.{Record}
use Rattle.law_refine.specs.Below.law_local.Tries.Floors.{LeadsByFloor}
use Rattle.fkv_words.specs.Layout.{header_word}
use Rattle.law_refine.specs.Below.fkv_world.World.{Now}
use Rattle.law_opening.specs.Changes.Images.{IsInImage}
use Rattle.law_opening.specs.Changes.Laws.{begin_at}
use Rattle.law_refine.specs.Below.fkv_keeper.Keeping.{Finality}
use Rattle.law_refine.proofs.OfRecords.Numbers.{header_back}

-- a record's three words
abbrev words_of : Record → RecordWord → ℕ
words_of x rec.Header = header_word x.header
words_of x rec.Key = x.key.0
words_of x rec.Value = x.value

as_written : Record → RecordWords
as_written x = record { header = x.header; key = x.key; value = x.value }

-- nothing lies below the begin twice
once_cut : (begin a : ℕ) → from_or_none begin a ≡ from_or_none begin (from_or_none begin a)
once_cut begin a = elim (cases_lt a begin) [
  | inl below ↦ from_below begin a below ∙ sym (ap (from_or_none begin) (from_below begin a below) ∙ nowhere)
  | inr on ↦ ap (from_or_none begin) (sym (from_on begin a on))
]
  where
    nowhere : from_or_none begin 0 ≡ 0
    nowhere = omega (arith, from_lower begin 0)

-- its header leads where it does, in this log
leads_so : (log : Log) (x : Record) → LeadsByFloor log.begin (next_of log x) (header_word x.header)
unfolding as_written
leads_so log x = record {
  said = x.header.previous;
  version = record { 0 = x.header.version.0 };
  says = header_back x.header;
  same = once_cut log.begin x.header.previous.0;
}

spelled_there : (shape : Shape) (bytes : List ℕ) (a : ℕ) (log : Log) (x : Record) → record_bytes x ≡ bytes_at bytes (record_place shape a) 24 → IsInImage log.begin shape bytes a (cell_of log x)
spelled_there shape bytes a log x stands = record { words = words_of x; leads = leads_so log x; key = refl; value = refl; there = sym stands ∙ record_numbered.same x }

-- the log begins where its keeper has it
pub same_begin : (bytes : List ℕ) (o : Opened) (n : Now) (store : IsStoreOf bytes o) → IsOpeningWorld o n → (let log = log_of_store bytes o store in log.begin) ≡ begin_at n
same_begin bytes o n store world = ap (λ (a : Addr). a.0) (sym store.tells.begin) ∙ sym (ap (λ (last : Finality). last.begin.0) world.its_keeper.newest)

pub in_image : (bytes : List ℕ) (o : Opened) (n : Now) (store : IsStoreOf bytes o) → IsOpeningWorld o n → HasWhatCounts (log_of_store bytes o store) (opening_log bytes o)
    → (a : ℕ) (cell : Cell) → (opening_log bytes o).cells a ≡ Published cell → IsInImage (begin_at n) n.shape bytes a cell
in_image bytes o n store world has a cell is =
    let its : IsCellOf (log_of_store bytes o store) a cell = has.published a cell is in
    let stands = its.counts.valid.stands in
    let shapes : store.newest.shape ≡ n.shape = sym store.tells.shape ∙ sym world.its_shape in
    subst (λ (begin : ℕ). IsInImage begin n.shape bytes a cell) (same_begin bytes o n store world)
    (subst (λ (c : Cell). IsInImage (log_of_store bytes o store).begin n.shape bytes a c) (sym its.its)
    (spelled_there n.shape bytes a (log_of_store bytes o store) its.held (subst (λ (shape : Shape). record_bytes its.held ≡ bytes_at bytes (record_place shape a) 24) shapes stands)))
