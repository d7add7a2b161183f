-- The front of a new store, once it is cleared. Only this crate's own functions speak of it.
use Rattle.std.specs.Prelude.{◌≡◌, ◌≢◌, ◌⊎◌, ℕ, ◌≤◌, List, [], ◌∷◌, length, drop, replicate, true}
use Rattle.fkv_disk.specs.Bytes.{byte_at, written}
use Rattle.fkv_disk.specs.Kinds.{Kind, Writing, Syncing}

-- zeros over the first 1,536 bytes
unfoldable pub cleared : List ℕ → List ℕ
cleared old = written old 0 (replicate 1536 0)

-- zeros stand where the two gates are
pub record IsCleared (image : List ℕ) : Type 0 where
  pub long : 1536 ≤ length image
  pub gate_0 : byte_at image 512 ≡ 0
  pub gate_1 : byte_at image 1024 ≡ 0

-- neither gate is open
pub record IsShut (image : List ℕ) : Type 0 where
  pub gate_0 : byte_at image 512 ≢ 165
  pub gate_1 : byte_at image 1024 ≢ 165

-- the bytes after three writes: the block, the slot from its ninth byte on, and its gate
unfoldable pub filled : List ℕ → List ℕ → List ℕ → List ℕ
filled old block slot = written (written (written old 0 block) 520 (drop 8 slot)) 512 (165 ∷ [])

-- the calls that make them, each of which succeeds
unfoldable pub filled_kinds : List ℕ → List ℕ → List Kind
filled_kinds block slot = Writing 0 block true ∷ Syncing true ∷ Writing 520 (drop 8 slot) true ∷ Syncing true ∷ Writing 512 (165 ∷ []) true ∷ Syncing true ∷ []

-- no gate is open, or all is written
abbrev pub IsShutOrFilled : List ℕ → List ℕ → List ℕ → List ℕ → Type 0
IsShutOrFilled old block slot image = IsShut image ⊎ (image ≡ filled old block slot)
