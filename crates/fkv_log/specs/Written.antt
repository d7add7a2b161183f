-- What the words of a record are once it is written, and once it is invalidated.
use Rattle.std.specs.Prelude.{◌≡◌, ◌≢◌, ℕ, zero, suc, ◌≤◌, List, [], ◌∷◌, length}
use Rattle.fkv_base.specs.declared.numbers.Addr.{Addr}
use Rattle.fkv_words.specs.declared.headers.Header.{Header}
use Rattle.fkv_words.specs.Layout.{header_word}
use Rattle.fkv_plane.specs.declared.asks.Ask.{Ask}
use Rattle.fkv_plane.specs.declared.asks.Ask.TheVariants.{Store, Done}
use Rattle.fkv_plane.specs.declared.places.Places.{Places}
use Rattle.fkv_plane.specs.declared.places.RecordWord.{RecordWord}
use Rattle.fkv_plane.specs.declared.places.RecordWord.TheVariants as rec
use Rattle.fkv_plane.specs.Places.{record_place, word_count}
use Rattle.fkv_plane.specs.Asked.{word_at, words_after}
use Rattle.fkv_log.specs.declared.record_words.RecordWords.{RecordWords}
use Rattle.fkv_log.specs.declared.filling.Filling.{Filling}
use Rattle.fkv_log.specs.declared.filling.Filling.TheVariants as fill
use Rattle.fkv_log.specs.declared.invalidating.Invalidating.{Invalidating}
use Rattle.fkv_log.specs.declared.invalidating.Invalidating.TheVariants as invalidate
use Rattle.fkv_log.specs.Filling.{fill_begun, fill_ask, fill_next}
use Rattle.fkv_log.specs.Invalidating.{invalidate_begun, invalidate_ask, invalidate_next, invalidated}

-- the three words of an address
pub record HasWords (places : Places) (words : List ℕ) (addr header key value : ℕ) : Type 0 where
  pub its_header : word_at words (record_place places addr rec.Header) ≡ header
  pub its_key : word_at words (record_place places addr rec.Key) ≡ key
  pub its_value : word_at words (record_place places addr rec.Value) ≡ value

-- no word changes but those of an address
abbrev pub SparesOthers : Places → ℕ → List ℕ → List ℕ → Type 0
SparesOthers places addr words after = (place : ℕ) → ((word : RecordWord) → place ≢ record_place places addr word) → word_at after place ≡ word_at words place

-- a machine that nobody else comes between: the words, and how far it has come
pub record Alone (Step : Type 0) : Type 0 where
  pub words : List ℕ
  pub step : Step

-- after so many of its asks, by its own tables
abbrev pub alone : {A Step : Type 0} → (Step → Ask A) → (Step → Step) → ℕ → List ℕ → Step → Alone Step
alone ask next zero words step = record { words = words; step = step }
alone ask next (suc n) words step = alone ask next n (words_after words (ask step)) (next step)

-- the asks that it has made, the first first
abbrev pub asks_alone : {A Step : Type 0} → (Step → Ask A) → (Step → Step) → ℕ → Step → List (Ask A)
asks_alone ask next zero step = []
asks_alone ask next (suc n) step = ask step ∷ asks_alone ask next n (next step)

abbrev pub fill_alone : Places → ℕ → List ℕ → Addr → RecordWords → Alone Filling
fill_alone places asks words addr its_words = alone (fill_ask places) fill_next asks words (fill_begun addr its_words)

abbrev pub invalidate_alone : Places → ℕ → List ℕ → Addr → Header → Alone Invalidating
invalidate_alone places asks words addr header = alone (invalidate_ask places) invalidate_next asks words (invalidate_begun addr header)

-- A fill comes to rest. Then the record has its three words, and no other word has changed.
pub record IsWritten (places : Places) (words : List ℕ) (addr : Addr) (its_words : RecordWords) : Type 0 where
  pub asks : ℕ
  pub rests : (fill_alone places asks words addr its_words).step ≡ fill.AtRest
  pub has : HasWords places (fill_alone places asks words addr its_words).words addr.0 (header_word its_words.header) its_words.key.0 its_words.value
  pub spares : SparesOthers places addr.0 words (fill_alone places asks words addr its_words).words

-- An invalidation comes to rest. Then the record has its key and value as before, an invalid header, and no other word has changed.
pub record IsInvalidated (places : Places) (words : List ℕ) (addr : Addr) (header : Header) (key value : ℕ) : Type 0 where
  pub asks : ℕ
  pub rests : (invalidate_alone places asks words addr header).step ≡ invalidate.AtRest
  pub has : HasWords places (invalidate_alone places asks words addr header).words addr.0 (header_word (invalidated header)) key value
  pub spares : SparesOthers places addr.0 words (invalidate_alone places asks words addr header).words

-- where the words are all there
abbrev pub AreWritten : Type 0
AreWritten = (places : Places) (words : List ℕ) (addr : Addr) (its_words : RecordWords) → word_count places ≤ length words → IsWritten places words addr its_words

abbrev pub AreInvalidated : Type 0
AreInvalidated = (places : Places) (words : List ℕ) (addr : Addr) (header : Header) (word key value : ℕ) → word_count places ≤ length words → HasWords places words addr.0 word key value
    → IsInvalidated places words addr header key value

-- a fill asks to store the value, the key and then the header
abbrev pub FillsInOrder : Type 0
FillsInOrder = (places : Places) (addr : Addr) (its_words : RecordWords) → asks_alone (fill_ask places) fill_next 4 (fill_begun addr its_words)
    ≡ Store (record_place places addr.0 rec.Value) its_words.value ∷ Store (record_place places addr.0 rec.Key) its_words.key.0 ∷ Store (record_place places addr.0 rec.Header) (header_word its_words.header) ∷ Done tt ∷ []
