-- No record of an opened store's log was given up, as its bytes say.
use Rattle.std.proofs.Common.{◌≡◌, ℕ, ◌<◌, ◌^◌, ◌∙◌, sym, ap, subst, arith, false, List}
use Rattle.fkv_base.specs.declared.shapes.Shape.{Shape}
use Rattle.fkv_disk.specs.Bytes.{bytes_at}
use Rattle.fkv_record.specs.Layout.{record_bytes}
use Rattle.fkv_record.specs.Places.{number_at, record_place}
use Rattle.fkv_record.specs.declared.records.Record.{Record}
use Rattle.fkv_record.proofs.Shown.{record_numbered}
use Rattle.fkv_words.specs.Layout.{header_word}
use Rattle.law_commit.specs.Below.fkv_world.World.{Now}
use Rattle.law_log.specs.Chains.{Cell, Published}
use Rattle.law_opening.specs.Below.fkv_core.Openings.{IsOpeningWorld}
use Rattle.law_opening.specs.Below.fkv_opening.Opened.{IsStoreOf}
use Rattle.law_opening.specs.Below.fkv_opening.TheOpened.{Opened}
use Rattle.law_opening.specs.Below.fkv_pairs.Pairs.{log_of_store}
use Rattle.law_opening.specs.Log.OpeningLog.{opening_log}
use Rattle.law_opening.specs.Log.Records.{HasWhatCounts, IsCellOf}
use Rattle.law_order.specs.Swept.Valid.{IsValidThere}
use Rattle.law_order.proofs.OfSwept.Headers.{valid_low}
use Rattle.law_order.proofs.OfSwept.Words.{header_read}

stands_valid : (x : Record) (bytes : List ℕ) → record_bytes x ≡ bytes → (let header = x.header in header.invalid ≡ false) → number_at bytes 0 < 2 ^ 61
stands_valid x bytes stands valid =
    let low : header_word x.header < 2 ^ 61 = valid_low x.header valid in
    let read : number_at bytes 0 ≡ header_word x.header = ap (λ (b : List ℕ). number_at b 0) (sym stands ∙ record_numbered.same x) ∙ header_read (header_word x.header) x.key.0 x.value (omega (arith, low)) in
    subst (λ (n : ℕ). n < 2 ^ 61) (sym read) low

pub opened_valid : (bytes : List ℕ) (o : Opened) (n : Now) (store : IsStoreOf bytes o) → IsOpeningWorld o n → HasWhatCounts (log_of_store bytes o store) (opening_log bytes o)
    → (a : ℕ) (cell : Cell) → (opening_log bytes o).cells a ≡ Published cell → IsValidThere n.shape bytes a
opened_valid bytes o n store world has a cell is =
    let its : IsCellOf (log_of_store bytes o store) a cell = has.published a cell is in
    let valid = its.counts.valid in
    let shapes : store.newest.shape ≡ n.shape = sym store.tells.shape ∙ sym world.its_shape in
    stands_valid its.held (bytes_at bytes (record_place n.shape a) 24) (subst (λ (shape : Shape). record_bytes its.held ≡ bytes_at bytes (record_place shape a) 24) shapes valid.stands) valid.valid
