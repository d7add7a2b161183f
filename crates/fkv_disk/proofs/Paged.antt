-- What pages in memory give of the bytes of a device.
use Rattle.std.proofs.Common.{◌≡◌, ◌⊎◌, inl, inr, ℕ, ◌+◌, ◌-◌, ◌<◌, ◌≤◌, List, length, take, drop, ◌++◌, Bool, true, false, sym, ◌∙◌, ap, arith, length-append, length-drop}
use Rattle.std.specs.Prelude.{◌&&◌, nat_le}
use Rattle.std.proofs.lemmas.Bool.Decides.{nat_tests}
use Rattle.std.proofs.lemmas.List.{get_or_append_left, get_or-append_right, get_or-take, get_or-drop, length-take-le}
use Rattle.fkv_disk.specs.Bytes.{byte_at, bytes_at}
use Rattle.fkv_disk.specs.Device.{Writes}
use Rattle.fkv_disk.specs.Pages.{AlikeOutside}
use Rattle.fkv_disk.proofs.BytesLemmas.{is_listed, before_range, after_range, byte_at-written_out, byte_at-bytes_at, length-bytes_at, bytes_at_same}

-- a part of a page
pub part_of : (seen page : List ℕ) (start at n : ℕ) → page ≡ bytes_at seen start (length page) → start ≤ at → at + n ≤ start + length page → take n (drop (at - start) page) ≡ bytes_at seen at n
part_of seen page start at n is from fits = is_listed (take n (drop (at - start) page)) n _ (length-take-le n (drop (at - start) page) (omega (arith, length-drop (at - start) page))) each
  where
    each : (i : ℕ) → i < n → byte_at (take n (drop (at - start) page)) i ≡ byte_at seen (at + i)
    each i below =
        get_or-take n (drop (at - start) page) i 0 below
        ∙ get_or-drop (at - start) page i 0
        ∙ ap (λ (bytes : List ℕ). byte_at bytes ((at - start) + i)) is
        ∙ byte_at-bytes_at seen start (length page) ((at - start) + i) (omega arith)
        ∙ ap (λ (j : ℕ). byte_at seen j) (let same : start + ((at - start) + i) ≡ at + i = omega arith in same)

-- a read of two parts, one behind the other
pub two_parts : (seen head rest : List ℕ) (at n from m total : ℕ) → from ≡ at + n → n + m ≡ total → head ≡ bytes_at seen at n → rest ≡ bytes_at seen from m → head ++ rest ≡ bytes_at seen at total
two_parts seen head rest at n from m total behind all first second = is_listed (head ++ rest) total _ (omega (arith, length-append head rest, head_size, rest_size)) (λ i below. by_place i below (place i))
  where
    head_size : length head ≡ n
    head_size = ap length first ∙ length-bytes_at seen at n

    rest_size : length rest ≡ m
    rest_size = ap length second ∙ length-bytes_at seen from m

    place : (i : ℕ) → (i < n) ⊎ (n ≤ i)
    place i = grind arith

    by_place : (i : ℕ) → i < total → (i < n) ⊎ (n ≤ i) → byte_at (head ++ rest) i ≡ byte_at seen (at + i)
    by_place i below (inl front) = get_or_append_left head rest 0 i (omega (arith, head_size)) ∙ ap (λ (bytes : List ℕ). byte_at bytes i) first ∙ byte_at-bytes_at seen at n i front
    by_place i below (inr back) =
        get_or-append_right head rest n i 0 head_size back
        ∙ ap (λ (bytes : List ℕ). byte_at bytes (i - n)) second
        ∙ byte_at-bytes_at seen from m (i - n) (omega arith)
        ∙ ap (λ (j : ℕ). byte_at seen j) (let same : from + (i - n) ≡ at + i = omega arith in same)

-- a range that lies apart from the one in which the bytes differ
pub alike_apart : (at n : ℕ) (old new : List ℕ) (from m : ℕ) → AlikeOutside at n old new → (from + m ≤ at) ⊎ (at + n ≤ from) → bytes_at old from m ≡ bytes_at new from m
alike_apart at n old new from m alike (inl before) = bytes_at_same old new from m (λ i above below. sym (alike i (before_range at n i (omega arith))))
alike_apart at n old new from m alike (inr after) = bytes_at_same old new from m (λ i above below. sym (alike i (after_range at n i (omega arith))))

-- a write changes no byte outside its range, whether it succeeds or fails
pub alike_written : (at : ℕ) (bytes : List ℕ) (done : Bool) (old new : List ℕ) → Writes at bytes done old new → AlikeOutside at (length bytes) old new
alike_written at bytes true old new writes = λ i out. ap (λ (seen : List ℕ). byte_at seen i) writes ∙ byte_at-written_out old at bytes i out
alike_written at bytes false old new writes = writes.2

-- what it says of a page that it keeps a range
pub keeps_all : (kept : Bool) (start at n size : ℕ) → (kept && (nat_le start at && nat_le (at + n) (start + size))) ≡ true → (kept ≡ true) × (start ≤ at) × (at + n ≤ start + size)
keeps_all true start at n size is = grind (arith, nat_tests)
keeps_all false start at n size is = absurd (cc)
