-- How a record is written: its value, its key, and then its header.
use Rattle.std.specs.Prelude.{ℕ}
use Rattle.fkv_base.specs.declared.numbers.Addr.{Addr}
use Rattle.fkv_words.specs.Layout.{header_word}
use Rattle.fkv_plane.specs.declared.asks.Ask.{Ask}
use Rattle.fkv_plane.specs.declared.asks.Ask.TheVariants.{Store, Done}
use Rattle.fkv_plane.specs.declared.places.Places.{Places}
use Rattle.fkv_plane.specs.declared.places.RecordWord.TheVariants as rec
use Rattle.fkv_plane.specs.Places.{record_place}
use Rattle.fkv_log.specs.declared.record_words.RecordWords.{RecordWords}
use Rattle.fkv_log.specs.declared.filling.Filling.{Filling}
use Rattle.fkv_log.specs.declared.filling.Filling.TheVariants.{AtRest, StoresValue, StoresKey, StoresHeader}

pub record Filler : Type 0 where
  pub places : Places
  pub step : Filling

-- it begins with the value
abbrev pub fill_begun : Addr → RecordWords → Filling
fill_begun addr its_words = StoresValue addr its_words

-- what each state asks
unfoldable pub fill_ask : Places → Filling → Ask (Unit {0})
fill_ask places AtRest = Done tt
fill_ask places (StoresValue addr its_words) = Store (record_place places addr.0 rec.Value) its_words.value
fill_ask places (StoresKey addr its_words) = Store (record_place places addr.0 rec.Key) its_words.key.0
fill_ask places (StoresHeader addr its_words) = Store (record_place places addr.0 rec.Header) (header_word its_words.header)

-- where the reply leads
unfoldable pub fill_next : Filling → Filling
fill_next AtRest = AtRest
fill_next (StoresValue addr its_words) = StoresKey addr its_words
fill_next (StoresKey addr its_words) = StoresHeader addr its_words
fill_next (StoresHeader addr its_words) = AtRest

-- how many asks it has left
unfoldable pub fill_asks_left : Filling → ℕ
fill_asks_left AtRest = 0
fill_asks_left (StoresValue addr its_words) = 3
fill_asks_left (StoresKey addr its_words) = 2
fill_asks_left (StoresHeader addr its_words) = 1
