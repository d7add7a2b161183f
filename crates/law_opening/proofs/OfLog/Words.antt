-- The words of a record, from its bytes.
use Rattle.std.proofs.Common.{◌≡◌, ℕ, ◌+◌, ◌%◌, ◌^◌, ◌<◌, List, [], ◌∷◌, take, refl, sym, ap, ◌∙◌, arith}
use Rattle.std.proofs.Math.Seq.{drop-append-add}
use Rattle.std.proofs.lemmas.List.{take_at}
use Rattle.std.proofs.lemmas.List.Concat.{flat_map-cons}
use Rattle.std.proofs.lemmas.Nat.{from_le_bytes-to_le_bytes_8}
use Rattle.std.specs.Int.{w64, to_le_bytes, from_le_bytes}
use Rattle.fkv_disk.specs.Bytes.{bytes_at}
use Rattle.law_paper.specs.Below.fkv_opening.TheOpened.{Opened}
use Rattle.law_paper.specs.Below.fkv_opening.Warm.{record_word}
use Rattle.law_log.specs.Chains.{Cell}
use Rattle.law_refine.specs.Below.fkv_ops.Values.{value_of}
use Rattle.fkv_record.proofs.Shown.{record_numbered}
use Rattle.fkv_record.specs.Begin.{from_or_none}
use Rattle.fkv_record.specs.Layout.{record_bytes, record_numbers}
use Rattle.fkv_record.specs.Numbers.{spelled}
use Rattle.fkv_record.specs.Places.{number_at, record_place}
use Rattle.fkv_record.specs.declared.records.Record.{Record}
use Rattle.fkv_words.proofs.Shown.{bit_small}
use Rattle.fkv_words.specs.Layout.{header_word}
use Rattle.fkv_words.specs.declared.headers.Header.{Header}
use Rattle.law_opening.specs.Log.OpeningLog.{cell_at}

-- the first number of some, and the others behind it
first_number : (n : ℕ) (rest : List ℕ) → n < 2 ^ 64 → number_at (spelled (n ∷ rest)) 0 ≡ n
first_number n rest fits =
    ap (λ (bytes : List ℕ). from_le_bytes w64 (take 8 bytes)) (flat_map-cons (to_le_bytes w64) n rest)
    ∙ ap (from_le_bytes w64) (take_at (to_le_bytes w64 n) (spelled rest) 8 refl)
    ∙ from_le_bytes-to_le_bytes_8 n fits

later_number : (n : ℕ) (rest : List ℕ) (at : ℕ) → number_at (spelled (n ∷ rest)) (8 + at) ≡ number_at (spelled rest) at
later_number n rest at =
    ap (λ (bytes : List ℕ). number_at bytes (8 + at)) (flat_map-cons (to_le_bytes w64) n rest)
    ∙ ap (λ (bytes : List ℕ). from_le_bytes w64 (take 8 bytes)) (drop-append-add (to_le_bytes w64 n) (spelled rest) at)

-- the previous address is what the lower bits of the header are
lower_bits : (x : Header) → header_word x % 2 ^ 48 ≡ x.previous.0
lower_bits x =
    let bit = bit_small x.invalid in
    let fits = x.previous_fits in
    let version = x.version_fits in
    omega (arith, bit, fits, version)

-- the record as one of the opened store's log
abbrev pub cell_told : Opened → Record → Cell
cell_told o x = record { key = x.key.0; value = value_of x.value; version = o.number.0; previous = from_or_none o.begin.0 x.header.previous.0 }

module _ (image : List ℕ) (o : Opened) (a : ℕ) (x : Record) (stands : record_bytes x ≡ bytes_at image (record_place o.shape a) 24) where
  its_bytes : bytes_at image (record_place o.shape a) 24 ≡ spelled (record_numbers x)
  its_bytes = sym stands ∙ record_numbered.same x

  word_of : (at n : ℕ) → number_at (spelled (record_numbers x)) at ≡ n → number_at (bytes_at image (record_place o.shape a) 24) at ≡ n
  word_of at n is = ap (λ (bytes : List ℕ). number_at bytes at) its_bytes ∙ is

  header_is : record_word image o.shape a 0 ≡ header_word x.header
  header_is =
      let bit = bit_small x.header.invalid in
      let fits = x.header.previous_fits in
      let version = x.header.version_fits in
      word_of 0 (header_word x.header) (first_number (header_word x.header) (x.key.0 ∷ x.value ∷ []) (omega (arith, bit, fits, version)))

  key_is : record_word image o.shape a 1 ≡ x.key.0
  key_is = word_of 8 x.key.0 (later_number (header_word x.header) (x.key.0 ∷ x.value ∷ []) 0 ∙ first_number x.key.0 (x.value ∷ []) x.key_fits)

  value_is : record_word image o.shape a 2 ≡ x.value
  value_is = word_of 16 x.value (later_number (header_word x.header) (x.key.0 ∷ x.value ∷ []) 8 ∙ later_number x.key.0 (x.value ∷ []) 0 ∙ first_number x.value [] x.value_fits)

  -- the record that stands there is that of the log
  pub cell_is : cell_at image o a ≡ cell_told o x
  unfolding cell_at
  cell_is = rw (key_is, value_is, header_is, lower_bits x.header) refl
