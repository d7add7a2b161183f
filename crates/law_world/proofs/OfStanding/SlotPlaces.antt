-- Where the slot of a commit lies.
use Rattle.std.proofs.Common.{◌≡◌, ◌<◌, ℕ, zero, suc, ◌+◌, ◌*◌, ◌%◌, arith, refl}
use Rattle.std.specs.Prelude.{◌==◌, if◌then◌else◌}
use Rattle.fkv_base.specs.declared.numbers.Version.{Version}
use Rattle.fkv_keeper.specs.LastCommits.{slot_place}

place_in_turn : (m : ℕ) → m < 2 → (if m == 0 then 512 else 1024) ≡ 512 + 512 * m
place_in_turn zero low = refl
place_in_turn (suc zero) low = refl
place_in_turn (suc (suc m)) low = absurd (omega (arith, low))

-- by turns in the first slot and in the second
pub place_by_parity : (number : Version) → slot_place number ≡ 512 + 512 * (number.0 % 2)
place_by_parity number = place_in_turn (number.0 % 2) (omega arith)
