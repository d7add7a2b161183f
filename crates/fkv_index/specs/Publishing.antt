-- How an entry is published: one Cas at its slot, from the word that was found there.
use Rattle.std.specs.Prelude.{ℕ, ◌==◌, if◌then◌else◌}
use Rattle.fkv_plane.specs.declared.asks.Ask.{Ask}
use Rattle.fkv_plane.specs.declared.asks.Ask.TheVariants.{Cas, Done}
use Rattle.fkv_index.specs.declared.publishing.PublishAnswer.{PublishAnswer}
use Rattle.fkv_index.specs.declared.publishing.PublishAnswer.TheVariants.{Won, Lost}
use Rattle.fkv_index.specs.declared.publishing.Publishing.{Publishing}
use Rattle.fkv_index.specs.declared.publishing.Publishing.TheVariants.{AtRest, SwapsEntry}

pub record Publisher : Type 0 where
  pub step : Publishing

-- a publish begins with the slot's place, the word that was found there, and the word of the new entry
abbrev pub publish_first : ℕ → ℕ → ℕ → Publishing
publish_first place word entry = SwapsEntry place word entry

-- what each state asks
unfoldable pub publish_ask : Publishing → Ask PublishAnswer
publish_ask AtRest = Done Lost
publish_ask (SwapsEntry place word entry) = Cas place word entry

-- where the reply leads
unfoldable pub publish_next : Publishing → ℕ → Publishing
publish_next AtRest reply = AtRest
publish_next (SwapsEntry place word entry) reply = AtRest

-- the Cas was won where it found the word
abbrev pub published_where : ℕ → ℕ → PublishAnswer
published_where word found = if found == word then Won else Lost

-- what is asked next: at the end its answer
unfoldable pub publish_next_ask : Publishing → ℕ → Ask PublishAnswer
publish_next_ask AtRest reply = Done Lost
publish_next_ask (SwapsEntry place word entry) reply = Done (published_where word reply)

-- how many asks a publish still makes
unfoldable pub publish_asks_left : Publishing → ℕ
publish_asks_left AtRest = 0
publish_asks_left (SwapsEntry place word entry) = 1
