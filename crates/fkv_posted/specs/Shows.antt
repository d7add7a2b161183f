-- What a posted medium shows of itself.
use Rattle.std.specs.Prelude.{ℕ, List, Option, option_map}
use Rattle.fkv_posted.specs.Outcomes.{Outcome}
use Rattle.fkv_posted.specs.declared.outcomes.Told.{Told}
use Rattle.fkv_posted.specs.declared.posted.Posted.{Posted}

-- the bytes that it was opened with, all of them synced
abbrev pub posted_opened : Posted → List ℕ
posted_opened p = p.log.opened

-- the bytes that reads give while a store is opened, if they are still shown
abbrev pub posted_shown : Posted → Option (List ℕ)
posted_shown p = option_map (λ bytes. bytes.now) p.shown

-- what came of the calls since, the newest first
abbrev pub posted_outcomes : Posted → List Outcome
posted_outcomes p = p.log.outcomes

-- what was told of the call that comes next
abbrev pub posted_told : Posted → Option Told
posted_told p = p.told

-- how many calls have failed
abbrev pub posted_failures : Posted → ℕ
posted_failures p = p.failures
