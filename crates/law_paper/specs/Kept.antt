-- What the points of a commit keep is what is of its version and of those before.
use Rattle.std.specs.Prelude.{◌≡◌, ℕ, nat_le, List}
use Rattle.std.specs.FinMap.{get}
use Rattle.fkv_base.specs.declared.numbers.Serial.{Serial}
use Rattle.fkv_map.specs.Map.{Map}
use Rattle.fkv_map.specs.History.{IsLegal, content, is_kept, kept}
use Rattle.law_log.specs.Ghosts.{Ghosts, shown_upto}
use Rattle.law_log.specs.Trace.{Effect, IsIn, history_of}

-- the points keep just the updates of versions up to this one
abbrev pub PointsSplit : List Serial → ℕ → List Effect → Type 0
PointsSplit points n effects = (effect : Effect) → IsIn effect effects → is_kept points effect.entry ≡ nat_le effect.version n

-- What they keep is legal by itself, and its content is what the log shows of these versions.
pub record KeepsPrefix (home : ℕ → ℕ) (m : Map) (points : List Serial) (n : ℕ) (g : Ghosts) : Type 0 where
  pub legal : IsLegal m (kept (history_of g.log.history) points)
  pub shows : (key : ℕ) → shown_upto home g.log n key ≡ get (content m (kept (history_of g.log.history) points)) key
