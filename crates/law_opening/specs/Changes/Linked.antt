-- Whatever one is led to in a log is published.
use Rattle.std.specs.Prelude.{◌≡◌, ◌⊎◌, ◌<◌, ⊤, ℕ, List, [], ◌∷◌}
use Rattle.law_log.specs.Chains.{Cell, Published, head_of}
use Rattle.law_log.specs.Ghosts.{Log}
use Rattle.law_log.specs.Trace.{IsIn}
use Rattle.law_refine.specs.Events.Published.{IsPublished}

-- a published record stands there, or the address is 0, which is none
abbrev pub IsLed : Log → ℕ → Type 0
IsLed log a = (a ≡ 0) ⊎ IsPublished (log.cells a)

-- Each chain begins at a published record, or is empty. And so is what each published record leads to.
pub record IsLinkedLog (log : Log) : Type 0 where
  pub begins : (home : ℕ) → IsLed log (head_of (log.chains home))
  pub leads : (a : ℕ) (cell : Cell) → log.cells a ≡ Published cell → IsLed log cell.previous

-- addresses fall down a chain
abbrev pub IsFalling : List ℕ → Type 0
IsFalling [] = ⊤
IsFalling (a ∷ older) = (head_of older < a) × IsFalling older

-- So they do down each chain, and none but that of a key's home has any.
pub record ChainsFall (home : ℕ → ℕ) (log : Log) : Type 0 where
  pub falls : (h : ℕ) → IsFalling (log.chains h)
  pub of_home : (h a : ℕ) → IsIn a (log.chains h) → (key : ℕ) × (home key ≡ h)
