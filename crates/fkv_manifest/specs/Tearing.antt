-- What a crash may leave while a slot is put in force over bytes that are synced.
use Rattle.std.specs.Prelude.{◌⊎◌, ℕ, ◌+◌, List, [], ◌∷◌, length, drop, Bool, true, false}
use Rattle.fkv_disk.specs.Bytes.{written}
use Rattle.fkv_disk.specs.Device.{Torn}
use Rattle.fkv_manifest.specs.Gating.{closed_gate}

-- Over a closed gate the bytes behind it are torn, or they are whole and the gate is torn.
abbrev pub IsTornBehindGate : ℕ → ℕ → List ℕ → List ℕ → List ℕ → Type 0
IsTornBehindGate place start slot bytes image = Torn (place + start) (length (drop start slot)) bytes image ⊎ Torn place 1 (written bytes (place + start) (drop start slot)) image

-- A gate that stood open is torn first, with nothing behind it changed; then it is closed.
abbrev pub IsTornInOrder : ℕ → ℕ → List ℕ → Bool → List ℕ → List ℕ → Type 0
IsTornInOrder place start slot true bytes image = Torn place 1 bytes image ⊎ IsTornBehindGate place start slot (written bytes place (closed_gate ∷ [])) image
IsTornInOrder place start slot false bytes image = IsTornBehindGate place start slot bytes image
