-- Words that are laid round a ring are found there.
use Rattle.std.proofs.Common.{◌≡◌, ◌≢◌, ◌∙◌, inl, inr, sym, ap, ℕ, zero, suc, ◌+◌, ◌-◌, ◌*◌, ◌/◌, ◌%◌, ◌<◌, ◌≤◌, List, length, arith}
use Rattle.std.specs.Prelude.{slice_index}
use Rattle.std.proofs.Math.Nat.{div-add-mod, mod-lt, mul-le-mul_left}
use Rattle.std.proofs.lemmas.Bool.{cases_lt}
use Rattle.std.proofs.lemmas.Grind.{get_or-set_at}
use Rattle.std.proofs.lemmas.List.{get_or-set_other}
use Rattle.std.proofs.lemmas.Nat.{mod-mul-add}
use Rattle.fkv_plane.specs.Asked.{word_at}
use Rattle.fkv_core.specs.OpeningWords.{laid_round}
use Rattle.fkv_core.proofs.Lengths.{length-laid}

-- two numbers that lie less than a ring apart have two places in it
apart : (size x d : ℕ) → 0 < d → d < size → x % size ≢ (x + d) % size
apart size x d some less same =
    let one : size * (x / size) + x % size ≡ x = div-add-mod x size in
    let other : size * ((x + d) / size) + (x + d) % size ≡ x + d = div-add-mod (x + d) size in
    elim (cases_lt (x / size) ((x + d) / size)) [
      | inl up ↦
          let most : size * (x / size + 1) ≤ size * ((x + d) / size) = mul-le-mul_left size (omega (arith, up)) in
          let wide : size * (x / size + 1) ≡ size * (x / size) + size = omega arith in
          absurd (omega (arith, one, other, same, most, wide, less))
      | inr down ↦
          let most : size * ((x + d) / size) ≤ size * (x / size) = mul-le-mul_left size down in
          absurd (omega (arith, one, other, same, most, some))
    ]

-- each of the words that were laid, where there are no more of them than the ring has
pub laid_there : (size first : ℕ) (laid words : List ℕ) (i n : ℕ) → 0 < size → i < n → n ≤ size → size ≤ length words → word_at (laid_round 0 size first laid words n) ((first + i) % size) ≡ slice_index laid i
unfolding laid_round
laid_there size first laid words i zero some below few room = absurd (omega (arith, below))
laid_there size first laid words i (suc n) some below few room = elim (cases_lt i n) [
  | inl before ↦
      let d : ℕ = n - i in
      let later : first + i + d ≡ first + n = omega (arith, before) in
      let other : (first + i) % size ≢ 0 + (first + n) % size = λ same.
      apart size (first + i) d (omega (arith, before)) (omega (arith, few)) (same ∙ (let e : 0 + (first + n) % size ≡ (first + n) % size = omega arith in e) ∙ ap (λ (x : ℕ). x % size) (sym later)) in
      get_or-set_other (laid_round 0 size first laid words n) (0 + (first + n) % size) ((first + i) % size) (slice_index laid n) 0 other
      ∙ laid_there size first laid words i n some before (omega (arith, few)) room
  | inr last ↦
      let same : i ≡ n = omega (arith, below, last) in
      let many : length (laid_round 0 size first laid words n) ≡ length words = length-laid 0 size first laid words n in
      let inside : (first + n) % size < size = mod-lt (first + n) some in
      ap (λ (x : ℕ). word_at (laid_round 0 size first laid words (suc n)) ((first + x) % size)) same
      ∙ (get_or-set_at (laid_round 0 size first laid words n) (0 + (first + n) % size) ((first + n) % size) (slice_index laid n) 0 (omega arith) (omega (arith, many, inside, room)) ∙ ap (slice_index laid) (sym same))
]

-- a word of a record lies where the record's address lies in the ring
pub wraps : (ring warm a k : ℕ) → 0 < ring → warm ≤ a → k < 3 → (3 * (warm % ring) + (3 * (a - warm) + k)) % (3 * ring) ≡ 3 * (a % ring) + k
wraps ring warm a k some up small =
    let before : ring * (warm / ring) + warm % ring ≡ warm = div-add-mod warm ring in
    let here : ring * (a / ring) + a % ring ≡ a = div-add-mod a ring in
    let less : a % ring < ring = mod-lt a some in
    let turns : ℕ = a / ring - warm / ring in
    let grows : warm / ring ≤ a / ring = elim (cases_lt (a / ring) (warm / ring)) [
      | inl down ↦
          let most : ring * (a / ring + 1) ≤ ring * (warm / ring) = mul-le-mul_left ring (omega (arith, down)) in
          let wide : ring * (a / ring + 1) ≡ ring * (a / ring) + ring = omega arith in
          absurd (omega (arith, before, here, less, most, wide, up))
      | inr its ↦ its
    ] in
    let parts : a / ring ≡ warm / ring + turns = omega (arith, grows) in
    let product : ring * (a / ring) ≡ ring * (warm / ring) + ring * turns = ap (λ (q : ℕ). ring * q) parts ∙ (let e : ring * (warm / ring + turns) ≡ ring * (warm / ring) + ring * turns = omega arith in e) in
    let back : turns * (3 * ring) ≡ 3 * (ring * turns) = omega arith in
    let sum : 3 * (warm % ring) + (3 * (a - warm) + k) ≡ turns * (3 * ring) + (3 * (a % ring) + k) = omega (arith, before, here, product, back, up) in
    ap (λ (x : ℕ). x % (3 * ring)) sum ∙ mod-mul-add turns (3 * ring) (3 * (a % ring) + k) (omega (arith, less, small))
