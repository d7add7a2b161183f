-- The ring of addresses: how many fit between two that have one place.
use Rattle.std.proofs.Common.{◌≡◌, ℕ, ◌+◌, ◌-◌, ◌*◌, ◌/◌, ◌%◌, ◌<◌, ◌≤◌, ◌∙◌, arith, sym, ap}
use Rattle.std.specs.Prelude.{◌↔◌}
use Rattle.std.proofs.Math.Nat.{div-lt_iff_lt-mul, le-div_iff_mul-le, add-mul-div_right, mul_comm}
use Rattle.std.proofs.lemmas.Nat.{div-add-mod', mod-mul-add, mod_below, row_fits, mul-add-lt}

-- the one that is a turn ahead is past the other's limit
turn_ahead : (ring limit p q r : ℕ) → p < q → q * ring + r < limit → limit ≤ p * ring + r + ring → ⊥
turn_ahead ring limit p q r h below within =
    let turn : p * ring + ring ≤ q * ring = row_fits p ring q ring h (omega arith) in
    omega (arith, turn, below, within)

-- of the last addresses below a limit, as many as the ring has places, no two have one place
pub same_place : (ring limit a b : ℕ) → a < limit → limit ≤ a + ring → b < limit → limit ≤ b + ring → a % ring ≡ b % ring → a ≡ b
same_place ring limit a b a_below a_within b_below b_within e =
    let p : ℕ = a / ring in
    let q : ℕ = b / ring in
    let one : p * ring + a % ring ≡ a = div-add-mod' a ring in
    let two : q * ring + b % ring ≡ b = div-add-mod' b ring in
    let not_less : ¬ (p < q) = λ h. turn_ahead ring limit p q (b % ring) h (omega (arith, two, b_below)) (omega (arith, one, e, a_within)) in
    let not_more : ¬ (q < p) = λ h. turn_ahead ring limit q p (a % ring) h (omega (arith, one, a_below)) (omega (arith, two, e, b_within)) in
    let same : p ≡ q = omega (arith, not_less, not_more) in
    sym one ∙ ap (λ x. x * ring + a % ring) same ∙ ap (λ x. q * ring + x) e ∙ two

-- the address of a place that is the last below a limit
abbrev pub last_of : ℕ → ℕ → ℕ → ℕ
last_of ring limit index = limit - 1 - (limit - 1 - index) % ring

pub last_place : (ring limit index : ℕ) → index < ring → index < limit → (last_of ring limit index < limit) × (limit ≤ last_of ring limit index + ring) × (last_of ring limit index % ring ≡ index)
last_place ring limit index small below =
    let gap : ℕ = limit - 1 - index in
    let split : gap / ring * ring + gap % ring ≡ gap = div-add-mod' gap ring in
    let rest : gap % ring < ring = mod_below gap ring (omega (arith, small)) in
    let here : last_of ring limit index ≡ gap / ring * ring + index = omega (arith, split, below) in
    (omega (arith, below), omega (arith, rest, split, below), ap (λ x. x % ring) here ∙ mod-mul-add (gap / ring) ring index small)

-- a page is below another where its addresses are below the other's first
pub page_below : (size page addr : ℕ) → 0 < size → (addr / size < page) ↔ (addr < page * size)
page_below size page addr some = div-lt_iff_lt-mul some

-- and it is among the last so many where its addresses are among the last so many pages of addresses
pub page_within : (size frames page addr : ℕ) → 0 < size → (page ≤ addr / size + frames) ↔ (page * size ≤ addr + frames * size)
page_within size frames page addr some =
    let moved : (addr + frames * size) / size ≡ addr / size + frames = add-mul-div_right addr frames some in
    rw (sym moved) (le-div_iff_mul-le some)

-- a place of the ring by frame and by place in the page
pub ring_by_frames : (frames size addr : ℕ) → 0 < frames → 0 < size → addr % (frames * size) ≡ addr / size % frames * size + addr % size
ring_by_frames frames size addr some_frame some =
    let page : ℕ = addr / size in
    let rest : ℕ = addr % size in
    let frame : ℕ = page % frames in
    let one : page * size + rest ≡ addr = div-add-mod' addr size in
    let two : page / frames * frames + frame ≡ page = div-add-mod' page frames in
    let small : frame * size + rest < size * frames = mul-add-lt frame size rest frames (mod_below page frames some_frame) (mod_below addr size some) in
    let turned : size * frames ≡ frames * size = mul_comm size frames in
    let regrouped : (page / frames * frames + frame) * size + rest ≡ page / frames * (frames * size) + (frame * size + rest) = omega arith in
    let whole : addr ≡ page / frames * (frames * size) + (frame * size + rest) = sym one ∙ ap (λ x. x * size + rest) (sym two) ∙ regrouped in
    ap (λ x. x % (frames * size)) whole ∙ mod-mul-add (page / frames) (frames * size) (frame * size + rest) (omega (arith, small, turned))
