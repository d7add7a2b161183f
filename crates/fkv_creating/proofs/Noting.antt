-- The calls that a device has met when a new store was laid.
use Rattle.std.proofs.Common.{◌≡◌, ℕ, List, [], ◌∷◌, true, false, refl, sym, ap, ◌∙◌}
use Rattle.std.specs.Prelude.{◌++◌, replicate}
use Rattle.fkv_disk.specs.Kinds.{Foretold, Kind, Writing, Syncing}
use Rattle.fkv_manifest.specs.Gating.{gate_kinds, gate_start}
use Rattle.fkv_creating.specs.Created.{laid_kinds}
use Rattle.fkv_creating.specs.Filled.{filled_kinds}

-- the block, and then the slot
pub filled_told : (block slot : List ℕ) (later : List Kind) → filled_kinds block slot ++ later ≡ Writing 0 block true ∷ Syncing true ∷ (gate_kinds 512 8 slot (gate_start false) ++ later)
unfolding filled_kinds gate_kinds
filled_told block slot later = refl

-- the zeros before them
pub laid_told : (block slot : List ℕ) (later : List Kind) → laid_kinds block slot ++ later ≡ Writing 0 (replicate 1536 0) true ∷ Syncing true ∷ (filled_kinds block slot ++ later)
unfolding laid_kinds filled_kinds
laid_told block slot later = refl

-- a write and a sync, and then those of the rest
pub first_two : (at : ℕ) (bytes : List ℕ) (expects expects' expects'' : List Kind → Foretold) (rest : List Kind) (all : List Kind → List Kind) → ((later : List Kind) → all later ≡ Writing at bytes true ∷ Syncing true ∷ (rest ++ later))
    → ((later : List Kind) → expects' later ≡ expects (Writing at bytes true ∷ Syncing true ∷ later)) → ((later : List Kind) → expects'' later ≡ expects' (rest ++ later))
    → (later : List Kind) → expects'' later ≡ expects (all later)
first_two at bytes expects expects' expects'' rest all is first others later = others later ∙ first (rest ++ later) ∙ ap expects (sym (is later))
