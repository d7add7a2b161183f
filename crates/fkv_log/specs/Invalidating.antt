-- How a record is invalidated: its header is stored with the invalid bit.
use Rattle.std.specs.Prelude.{ℕ, true}
use Rattle.fkv_base.specs.declared.numbers.Addr.{Addr}
use Rattle.fkv_words.specs.declared.headers.Header.{Header}
use Rattle.fkv_words.specs.Layout.{header_word}
use Rattle.fkv_plane.specs.declared.asks.Ask.{Ask}
use Rattle.fkv_plane.specs.declared.asks.Ask.TheVariants.{Store, Done}
use Rattle.fkv_plane.specs.declared.places.Places.{Places}
use Rattle.fkv_plane.specs.declared.places.RecordWord.TheVariants as rec
use Rattle.fkv_plane.specs.Places.{record_place}
use Rattle.fkv_log.specs.declared.invalidating.Invalidating.{Invalidating}
use Rattle.fkv_log.specs.declared.invalidating.Invalidating.TheVariants.{AtRest, StoresHeader}

pub record Invalidator : Type 0 where
  pub places : Places
  pub step : Invalidating

-- the header of the same record, invalidated
abbrev pub invalidated : Header → Header
invalidated header = record header { invalid = true }

abbrev pub invalidate_begun : Addr → Header → Invalidating
invalidate_begun addr header = StoresHeader addr header

-- what each state asks
unfoldable pub invalidate_ask : Places → Invalidating → Ask (Unit {0})
invalidate_ask places AtRest = Done tt
invalidate_ask places (StoresHeader addr header) = Store (record_place places addr.0 rec.Header) (header_word (invalidated header))

-- where the reply leads
unfoldable pub invalidate_next : Invalidating → Invalidating
invalidate_next AtRest = AtRest
invalidate_next (StoresHeader addr header) = AtRest

-- how many asks it has left
unfoldable pub invalidate_asks_left : Invalidating → ℕ
invalidate_asks_left AtRest = 0
invalidate_asks_left (StoresHeader addr header) = 1
