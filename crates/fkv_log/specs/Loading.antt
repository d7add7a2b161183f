-- How the words of a record are loaded: header and key, and then the value where it is wanted.
use Rattle.std.specs.Prelude.{◌≡◌, ℕ}
use Rattle.fkv_base.specs.declared.numbers.Addr.{Addr}
use Rattle.fkv_plane.specs.declared.asks.Ask.{Ask}
use Rattle.fkv_plane.specs.declared.asks.Ask.TheVariants.{Load, Done}
use Rattle.fkv_plane.specs.declared.places.Places.{Places}
use Rattle.fkv_plane.specs.declared.places.RecordWord.TheVariants as rec
use Rattle.fkv_plane.specs.Places.{record_place}
use Rattle.fkv_log.specs.declared.loading.LoadAnswer.{LoadAnswer}
use Rattle.fkv_log.specs.declared.loading.LoadAnswer.TheVariants as answer
use Rattle.fkv_log.specs.declared.loading.Loading.{Loading}
use Rattle.fkv_log.specs.declared.loading.Loading.TheVariants.{AtRest, LoadsHeader, LoadsKey, HasKey, LoadsValue}

pub record Loader : Type 0 where
  pub places : Places
  pub step : Loading

-- what each state asks
unfoldable pub load_ask : Places → Loading → Ask LoadAnswer
load_ask places AtRest = Done answer.AtRest
load_ask places (LoadsHeader addr) = Load (record_place places addr.0 rec.Header)
load_ask places (LoadsKey addr header) = Load (record_place places addr.0 rec.Key)
load_ask places (HasKey addr header key) = Done (answer.Met header (record { 0 = key }))
load_ask places (LoadsValue addr header key) = Load (record_place places addr.0 rec.Value)

-- where the reply leads
unfoldable pub load_next : Loading → ℕ → Loading
load_next AtRest reply = AtRest
load_next (LoadsHeader addr) reply = LoadsKey addr reply
load_next (LoadsKey addr header) reply = HasKey addr header reply
load_next (HasKey addr header key) reply = HasKey addr header key
load_next (LoadsValue addr header key) reply = AtRest

-- what is asked next: at the end its answer, and else what the next state asks
unfoldable pub load_next_ask : Places → Loading → ℕ → Ask LoadAnswer
load_next_ask places (LoadsValue addr header key) reply = Done (answer.Whole header (record { 0 = key }) reply)
load_next_ask places step reply = load_ask places (load_next step reply)

-- where it goes on where the value is wanted too
unfoldable pub load_on : Loading → Loading
load_on (HasKey addr header key) = LoadsValue addr header key
load_on step = step

-- how many asks it has left until it ends or waits
unfoldable pub load_asks_left : Loading → ℕ
load_asks_left AtRest = 0
load_asks_left (LoadsHeader addr) = 2
load_asks_left (LoadsKey addr header) = 1
load_asks_left (HasKey addr header key) = 0
load_asks_left (LoadsValue addr header key) = 1

-- how many come later, where its actor lets it go on
unfoldable pub load_asks_later : Loading → ℕ
load_asks_later AtRest = 0
load_asks_later (LoadsValue addr header key) = 0
load_asks_later step = 1

-- where the load of an address is once these two words are replied
abbrev pub load_met : Addr → ℕ → ℕ → Loading
load_met addr header key = load_next (load_next (LoadsHeader addr) header) key

-- Header, key and value are loaded in this order, each from its own place. What is replied is told: header and key
-- where it waits, and all three at its end.
pub record IsLoadedInOrder (places : Places) (addr : Addr) (header key value : ℕ) : Type 0 where
  pub first : load_ask places (LoadsHeader addr) ≡ Load (record_place places addr.0 rec.Header)
  pub second : load_next_ask places (LoadsHeader addr) header ≡ Load (record_place places addr.0 rec.Key)
  pub met : load_next_ask places (load_next (LoadsHeader addr) header) key ≡ Done (answer.Met header (record { 0 = key }))
  pub waits : load_ask places (load_met addr header key) ≡ Done (answer.Met header (record { 0 = key }))
  pub third : load_ask places (load_on (load_met addr header key)) ≡ Load (record_place places addr.0 rec.Value)
  pub whole : load_next_ask places (load_on (load_met addr header key)) value ≡ Done (answer.Whole header (record { 0 = key }) value)
  pub rests : load_next (load_on (load_met addr header key)) value ≡ AtRest

abbrev pub LoadsInOrder : Type 0
LoadsInOrder = (places : Places) (addr : Addr) (header key value : ℕ) → IsLoadedInOrder places addr header key value
