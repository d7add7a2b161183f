-- The parts of what was read of the front of an image.
use Rattle.std.proofs.Common.{◌≡◌, ℕ, ◌+◌, ◌<◌, ◌≤◌, List, length, take, drop, ap, ◌∙◌, arith, length-drop, length-take-le}
use Rattle.std.proofs.lemmas.List.{get_or-take, get_or-drop}
use Rattle.fkv_disk.specs.Bytes.{byte_at, bytes_at}
use Rattle.fkv_disk.proofs.Shown.{is_listed, byte_at-bytes_at, length-bytes_at}

module _ (image : List ℕ) (many at n : ℕ) (within : at + n ≤ many) where
  length_part : length (take n (drop at (bytes_at image 0 many))) ≡ n
  length_part = length-take-le n (drop at (bytes_at image 0 many)) (omega (arith, within, length-drop at (bytes_at image 0 many), length-bytes_at image 0 many))

  byte_in_part : (k : ℕ) → k < n → byte_at (take n (drop at (bytes_at image 0 many))) k ≡ byte_at image (at + k)
  byte_in_part k below =
      get_or-take n (drop at (bytes_at image 0 many)) k 0 below ∙ get_or-drop at (bytes_at image 0 many) k 0 ∙ byte_at-bytes_at image 0 many (at + k) (omega (arith, below, within))
      ∙ ap (λ i. byte_at image i) (let same : 0 + (at + k) ≡ at + k = omega arith in same)

  pub part_is : take n (drop at (bytes_at image 0 many)) ≡ bytes_at image at n
  part_is = is_listed (take n (drop at (bytes_at image 0 many))) n (λ k. byte_at image (at + k)) length_part byte_in_part
