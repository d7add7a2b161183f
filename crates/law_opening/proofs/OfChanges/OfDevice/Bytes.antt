-- What a device reads as goes by the bytes that it was opened with alone, of which those behind their end are 0; so their end doesn't count.
use Rattle.std.proofs.Common.{◌≡◌, ℕ, ◌+◌, ◌<◌, ◌≤◌, ◌∙◌, inl, inr, refl, sym, ap, arith, Bool, true, false, List, [], ◌∷◌, length}
use Rattle.std.proofs.lemmas.Bool.{cases_lt}
use Rattle.fkv_disk.specs.Bytes.{byte_at, bytes_at, covers, written}
use Rattle.fkv_disk.specs.Calls.{Call, Write, Sync, reads_as}
use Rattle.fkv_disk.proofs.Shown.{byte_at_past, byte_at-bytes_at, byte_at-written_in, byte_at-written_out, is_listed, length-bytes_at}

abbrev pub AreSame : List ℕ → List ℕ → Type 0
AreSame xs ys = (i : ℕ) → byte_at xs i ≡ byte_at ys i

-- the same bytes, with zeros behind them
abbrev pub further : List ℕ → ℕ → List ℕ
further bytes more = bytes_at bytes 0 (length bytes + more)

none_added : (bytes : List ℕ) (i : ℕ) → byte_at bytes (0 + i) ≡ byte_at bytes i
none_added bytes i = let same : 0 + i ≡ i = omega arith in ap (byte_at bytes) same

past_all : (a b i : ℕ) → a + b ≤ i → a ≤ i
past_all a b i past = omega (arith, past)

pub same_further : (bytes : List ℕ) (more : ℕ) → AreSame (further bytes more) bytes
same_further bytes more i = elim (cases_lt i (length bytes + more)) [
  | inl below ↦ byte_at-bytes_at bytes 0 (length bytes + more) i below ∙ none_added bytes i
  | inr past ↦
      let size : length (further bytes more) ≡ length bytes + more = length-bytes_at bytes 0 (length bytes + more) in
      byte_at_past (further bytes more) i (omega (arith, size, past)) ∙ sym (byte_at_past bytes i (past_all (length bytes) more i past))
]

written_same : (xs ys : List ℕ) (at : ℕ) (bytes : List ℕ) → AreSame xs ys → AreSame (written xs at bytes) (written ys at bytes)
written_same xs ys at bytes same i = by_test (covers at (length bytes) i) refl
  where
    by_test : (c : Bool) → covers at (length bytes) i ≡ c → byte_at (written xs at bytes) i ≡ byte_at (written ys at bytes) i
    by_test true e = byte_at-written_in xs at bytes i e ∙ sym (byte_at-written_in ys at bytes i e)
    by_test false e = byte_at-written_out xs at bytes i e ∙ (same i ∙ sym (byte_at-written_out ys at bytes i e))

pub reads_same : (xs ys : List ℕ) (calls : List Call) → AreSame xs ys → AreSame (reads_as xs calls) (reads_as ys calls)
reads_same xs ys [] same = same
reads_same xs ys (Write at bytes true ∷ before) same = written_same (reads_as xs before) (reads_as ys before) at bytes (reads_same xs ys before same)
reads_same xs ys (Write at bytes false ∷ before) same = reads_same xs ys before same
reads_same xs ys (Sync done ∷ before) same = reads_same xs ys before same

-- where the bytes of a range are the same, it reads alike
pub range_same : (xs ys : List ℕ) (at n : ℕ) → ((i : ℕ) → at ≤ i → i < at + n → byte_at xs i ≡ byte_at ys i) → bytes_at xs at n ≡ bytes_at ys at n
range_same xs ys at n each =
    is_listed (bytes_at xs at n) n (λ k. byte_at ys (at + k)) (length-bytes_at xs at n)
    (λ k below. byte_at-bytes_at xs at n k below ∙ each (at + k) (from at k) (within at k n below))
  where
    from : (at k : ℕ) → at ≤ at + k
    from at k = omega arith

    within : (at k n : ℕ) → k < n → at + k < at + n
    within at k n below = omega (arith, below)
