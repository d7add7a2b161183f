-- Bytes put over others in a list are what a write makes, and zeros with the stored bytes over them are what a read gives.
use Rattle.std.proofs.Common.{◌≡◌, ◌⊎◌, inl, inr, ℕ, ◌+◌, ◌-◌, ◌<◌, ◌≤◌, max, min, List, [], ◌∷◌, ◌++◌, length, take, drop, replicate, Bool, true, false, refl, sym, ◌∙◌, ap, arith, length-append, length-drop}
use Rattle.std.specs.Prelude.{if◌then◌else◌}
use Rattle.std.proofs.lemmas.Bool.Decides.{nat_tests}
use Rattle.std.proofs.lemmas.List.{get_or_append_left, get_or-append_right, get_or-take, get_or-drop, get_or-replicate, length-take-le, length-replicate, take_at, drop_all}
use Rattle.fkv_disk.specs.Bytes.{byte_at, bytes_at, covers, range_end, written}
use Rattle.fkv_disk.specs.Stays.{length-written}
use Rattle.fkv_disk.proofs.BytesLemmas.{is_listed, same_bytes, byte_at_past, in_range, before_range, after_range, range_end_is, byte_at-written_in, byte_at-written_out}

where_is : (i a b : ℕ) → (i < a) ⊎ ((a ≤ i) × (i < b)) ⊎ ((a ≤ i) × (b ≤ i))
where_is i a b = grind arith

module _ (old : List ℕ) (at : ℕ) (new : List ℕ) (fits : at + length new ≤ length old) where
  abbrev pub spliced : List ℕ
  spliced = take at old ++ new ++ drop (at + length new) old

  front_size : length (take at old) ≡ at
  front_size = length-take-le at old (omega arith)

  both_size : length (take at old ++ new) ≡ at + length new
  both_size = length-append (take at old) new ∙ ap (λ (n : ℕ). n + length new) front_size

  pub length-spliced : length spliced ≡ length old
  length-spliced = omega (arith, length-append (take at old ++ new) (drop (at + length new) old), both_size, length-drop (at + length new) old)

  pub spliced_before : (i : ℕ) → i < at → byte_at spliced i ≡ byte_at old i
  spliced_before i before =
      get_or_append_left (take at old ++ new) (drop (at + length new) old) 0 i (omega (arith, both_size))
      ∙ get_or_append_left (take at old) new 0 i (omega (arith, front_size))
      ∙ get_or-take at old i 0 before

  pub spliced_in : (i : ℕ) → at ≤ i → i < at + length new → byte_at spliced i ≡ byte_at new (i - at)
  spliced_in i from below =
      get_or_append_left (take at old ++ new) (drop (at + length new) old) 0 i (omega (arith, both_size))
      ∙ get_or-append_right (take at old) new at i 0 front_size from

  pub spliced_after : (i : ℕ) → at + length new ≤ i → byte_at spliced i ≡ byte_at old i
  spliced_after i past =
      get_or-append_right (take at old ++ new) (drop (at + length new) old) (at + length new) i 0 both_size past
      ∙ get_or-drop (at + length new) old (i - (at + length new)) 0
      ∙ ap (λ (j : ℕ). byte_at old j) (let same : (at + length new) + (i - (at + length new)) ≡ i = omega arith in same)

-- bytes over others that have room for them
pub spliced_is_written : (old : List ℕ) (at : ℕ) (new : List ℕ) → at + length new ≤ length old → 0 < length new → take at old ++ new ++ drop (at + length new) old ≡ written old at new
spliced_is_written old at new fits some =
    is_listed (spliced old at new fits) (max (length old) (range_end at (length new))) _ (omega (arith, length-spliced old at new fits, range_end_is at (length new) some)) (λ i below. by_place i (where_is i at (at + length new)))
  where
    by_place : (i : ℕ) → (i < at) ⊎ ((at ≤ i) × (i < at + length new)) ⊎ ((at ≤ i) × (at + length new ≤ i)) → byte_at (spliced old at new fits) i ≡ (if covers at (length new) i then byte_at new (i - at) else byte_at old i)
    by_place i (inl before) = spliced_before old at new fits i before ∙ sym (ap (λ (b : Bool). if b then byte_at new (i - at) else byte_at old i) (before_range at (length new) i before))
    by_place i (inr (inl in_it)) = spliced_in old at new fits i in_it.0 in_it.1 ∙ sym (ap (λ (b : Bool). if b then byte_at new (i - at) else byte_at old i) (in_range at (length new) i in_it.0 in_it.1))
    by_place i (inr (inr past)) = spliced_after old at new fits i past.1 ∙ sym (ap (λ (b : Bool). if b then byte_at new (i - at) else byte_at old i) (after_range at (length new) i past.1))

-- n zeros
abbrev pub zeros : ℕ → List ℕ
zeros n = replicate n 0

pub zeros_size : (n : ℕ) → length (zeros n) ≡ n
zeros_size n = length-replicate {A = ℕ} n 0

zero_in : (n i : ℕ) → byte_at (zeros n) i ≡ 0
zero_in n i = by_place (where_is i 0 n)
  where
    by_place : (i < 0) ⊎ ((0 ≤ i) × (i < n)) ⊎ ((0 ≤ i) × (n ≤ i)) → byte_at (zeros n) i ≡ 0
    by_place (inl none) = absurd (omega arith)
    by_place (inr (inl mid)) = get_or-replicate n i 0 0 mid.1
    by_place (inr (inr past)) = byte_at_past (zeros n) i (omega (arith, zeros_size n))

-- zeros at the end change no byte
pub zeros_change_nothing : (old : List ℕ) (n i : ℕ) → byte_at (old ++ zeros n) i ≡ byte_at old i
zeros_change_nothing old n i = by_place (where_is i 0 (length old))
  where
    by_place : (i < 0) ⊎ ((0 ≤ i) × (i < length old)) ⊎ ((0 ≤ i) × (length old ≤ i)) → byte_at (old ++ zeros n) i ≡ byte_at old i
    by_place (inl none) = absurd (omega arith)
    by_place (inr (inl mid)) = get_or_append_left old (zeros n) 0 i mid.1
    by_place (inr (inr past)) = get_or-append_right old (zeros n) (length old) i 0 refl past.1 ∙ zero_in n (i - length old) ∙ sym (byte_at_past old i past.1)

-- writes over bytes that read alike and end alike are alike
written_alike : (xs ys : List ℕ) (at : ℕ) (new : List ℕ) → max (length xs) (range_end at (length new)) ≡ max (length ys) (range_end at (length new)) → ((i : ℕ) → byte_at xs i ≡ byte_at ys i) → written xs at new ≡ written ys at new
written_alike xs ys at new size each =
    same_bytes (written xs at new) (written ys at new) (length-written xs at new ∙ size ∙ sym (length-written ys at new)) (λ i. by_cover i (bool_is (covers at (length new) i)))
  where
    bool_is : (b : Bool) → (b ≡ true) ⊎ (b ≡ false)
    bool_is true = inl refl
    bool_is false = inr refl

    by_cover : (i : ℕ) → (covers at (length new) i ≡ true) ⊎ (covers at (length new) i ≡ false) → byte_at (written xs at new) i ≡ byte_at (written ys at new) i
    by_cover i (inl in_it) = byte_at-written_in xs at new i in_it ∙ sym (byte_at-written_in ys at new i in_it)
    by_cover i (inr out_it) = byte_at-written_out xs at new i out_it ∙ each i ∙ sym (byte_at-written_out ys at new i out_it)

-- where there is too little room, zeros make it
pub put_is_written : (old grown : List ℕ) (at : ℕ) (new : List ℕ) → grown ≡ old ++ zeros ((at + length new) - length old) → 0 < length new → (at + length new ≤ length grown) × (take at grown ++ new ++ drop (at + length new) grown ≡ written old at new)
put_is_written old grown at new is some =
    let n = (at + length new) - length old in
    let added : length (old ++ zeros n) ≡ length old + n = length-append old (zeros n) ∙ ap (λ (m : ℕ). length old + m) (zeros_size n) in
    let size : length grown ≡ max (length old) (at + length new) = ap length is ∙ added ∙ (let sum : length old + n ≡ max (length old) (at + length new) = omega arith in sum) in
    let fits : at + length new ≤ length grown = omega arith in
    (fits, spliced_is_written grown at new fits some ∙ written_alike grown old at new (omega (arith, size, range_end_is at (length new) some)) (λ i. ap (λ (l : List ℕ). byte_at l i) is ∙ zeros_change_nothing old n i))

pub nothing_written : (old : List ℕ) (at : ℕ) (new : List ℕ) → length new ≡ 0 → old ≡ written old at new
nothing_written old at [] none = same_bytes old (written old at []) (omega (arith, length-written old at [])) (λ i. sym (byte_at-written_out old at [] i (nowhere i)))
  where
    nowhere : (i : ℕ) → covers at 0 i ≡ false
    nowhere i = grind (arith, nat_tests)
nothing_written old at (b ∷ new) none = absurd (omega arith)

-- zeros, with the stored bytes over them
pub fill_is_read : (bytes : List ℕ) (at n count : ℕ) (blank : List ℕ) → blank ≡ zeros n → at < length bytes → count ≡ min (length (drop at bytes)) n → take 0 blank ++ take count (drop at bytes) ++ drop (0 + length (take count (drop at bytes))) blank ≡ bytes_at bytes at n
fill_is_read bytes at n count blank is within counts =
    is_listed (spliced blank 0 front fits) n _ (length-spliced blank 0 front fits ∙ ap length is ∙ zeros_size n) (λ i below. by_place i below (where_is i 0 (0 + length front)))
  where
    front : List ℕ
    front = take count (drop at bytes)

    front_size : length front ≡ count
    front_size = length-take-le count (drop at bytes) (omega arith)

    fits : 0 + length front ≤ length blank
    fits = omega (arith, front_size, ap length is, zeros_size n)

    by_place : (i : ℕ) → i < n → (i < 0) ⊎ ((0 ≤ i) × (i < 0 + length front)) ⊎ ((0 ≤ i) × (0 + length front ≤ i)) → byte_at (spliced blank 0 front fits) i ≡ byte_at bytes (at + i)
    by_place i below (inl none) = absurd (omega arith)
    by_place i below (inr (inl mid)) =
        spliced_in blank 0 front fits i mid.0 mid.1
        ∙ ap (λ (j : ℕ). byte_at front j) (let same : i - 0 ≡ i = omega arith in same)
        ∙ get_or-take count (drop at bytes) i 0 (omega (arith, mid.1, front_size))
        ∙ get_or-drop at bytes i 0
    by_place i below (inr (inr past)) =
        spliced_after blank 0 front fits i past.1
        ∙ ap (λ (l : List ℕ). byte_at l i) is
        ∙ zero_in n i
        ∙ sym (byte_at_past bytes (at + i) (omega (arith, past.1, front_size, length-drop at bytes)))

pub zeros_past : (bytes : List ℕ) (at n : ℕ) (blank : List ℕ) → blank ≡ zeros n → length bytes ≤ at → blank ≡ bytes_at bytes at n
zeros_past bytes at n blank is past = is_listed blank n _ (ap length is ∙ zeros_size n) (λ i below. ap (λ (l : List ℕ). byte_at l i) is ∙ zero_in n i ∙ sym (byte_at_past bytes (at + i) (omega arith)))

-- a list put back whole
pub put_back : {A : Type 0} (new old : List A) (n : ℕ) → length new ≡ length old → length old ≡ n → take n (new ++ drop (length new) old) ≡ new
put_back {A} new old n same size = ap (λ (l : List A). take n (new ++ l)) (drop_all (length new) old (omega arith)) ∙ take_at new [] n (omega arith)
