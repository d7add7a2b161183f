-- Words that are written from the first place on.
use Rattle.std.proofs.Common.{◌≡◌, ◌∙◌, refl, sym, ap, ℕ, zero, suc, ◌+◌, ◌-◌, ◌%◌, ◌<◌, ◌≤◌, List, [], ◌∷◌, ◌++◌, length, take, drop, get_or, arith}
use Rattle.std.specs.Prelude.{slice_set}
use Rattle.std.proofs.Math.Seq.{take-suc, drop-cons, set-append_seam}
use Rattle.std.proofs.lemmas.List.{append_assoc, length-take, set-append_right, take_all}
use Rattle.fkv_plane.specs.Plane.{Plane}
use Rattle.fkv_core.specs.OpeningWords.{laid_round}

-- the first words of a list, and behind them those that stood there
abbrev pub written_over : Plane → List ℕ → ℕ → Plane
written_over plane words n = record plane { words = take n words ++ drop n plane.words }

-- a word at the seam
at_seam : (front : List ℕ) (i was word : ℕ) (rest : List ℕ) → length front ≡ i → slice_set (front ++ was ∷ rest) i word ≡ front ++ word ∷ rest
at_seam front i was word rest many = ap (λ (n : ℕ). slice_set (front ++ was ∷ rest) n word) (sym many) ∙ set-append_seam front was rest word

written_more : (words old : List ℕ) (i : ℕ) → i < length words → length words ≤ length old → slice_set (take i words ++ drop i old) i (get_or words i 0) ≡ take (suc i) words ++ drop (suc i) old
written_more words old i below fits =
    let many : length (take i words) ≡ i = omega (arith, length-take i words) in
    let room : i < length old = omega (arith, below, fits) in
    ap (λ (rest : List ℕ). slice_set (take i words ++ rest) i (get_or words i 0)) (drop-cons old i 0 room)
    ∙ at_seam (take i words) i (get_or old i 0) (get_or words i 0) (drop (suc i) old) many
    ∙ sym (append_assoc (take i words) (get_or words i 0 ∷ []) (drop (suc i) old))
    ∙ ap (λ (front : List ℕ). front ++ drop (suc i) old) (sym (take-suc words i 0 below))

-- one word more
pub written_step : (start plane next : Plane) (words : List ℕ) (i : ℕ) → i < length words → length words ≤ length start.words → plane ≡ written_over start words i
    → next ≡ record plane { words = slice_set plane.words i (get_or words i 0) } → next ≡ written_over start words (i + 1)
written_step start plane next words i below fits is goes =
    let more : suc i ≡ i + 1 = omega arith in
    goes ∙ ap (λ (p : Plane). record p { words = slice_set p.words i (get_or words i 0) }) is
    ∙ ap (λ (all : List ℕ). record start { words = all }) (written_more words start.words i below fits)
    ∙ ap (λ (n : ℕ). written_over start words n) more

pub written_whole : (start plane : Plane) (words : List ℕ) (i : ℕ) → i ≡ length words → plane ≡ written_over start words i → plane ≡ record start { words = words ++ drop (length words) start.words }
written_whole start plane words i all is =
    let most : length words ≤ length words = omega arith in
    is ∙ ap (λ (n : ℕ). written_over start words n) all ∙ ap (λ (front : List ℕ). record start { words = front ++ drop (length words) start.words }) (take_all (length words) words most)

-- ---- words that are laid round a ring
abbrev pub laid_over : Plane → ℕ → ℕ → ℕ → List ℕ → ℕ → Plane
laid_over start base size first words n = record start { words = laid_round base size first words start.words n }

pub laid_start : (start : Plane) (base size first : ℕ) (words : List ℕ) → start ≡ laid_over start base size first words 0
unfolding laid_round
laid_start start base size first words = refl

laid_more : (base size first : ℕ) (words all : List ℕ) (n : ℕ) → laid_round base size first words all (suc n) ≡ slice_set (laid_round base size first words all n) (base + (first + n) % size) (get_or words n 0)
unfolding laid_round
laid_more base size first words all n = refl

pub laid_step : (start plane next : Plane) (base size first : ℕ) (words : List ℕ) (i : ℕ) → plane ≡ laid_over start base size first words i
    → next ≡ record plane { words = slice_set plane.words (base + (first + i) % size) (get_or words i 0) } → next ≡ laid_over start base size first words (i + 1)
laid_step start plane next base size first words i is goes =
    let more : suc i ≡ i + 1 = omega arith in
    goes ∙ ap (λ (p : Plane). record p { words = slice_set p.words (base + (first + i) % size) (get_or words i 0) }) is
    ∙ ap (λ (all : List ℕ). record start { words = all }) (sym (laid_more base size first words start.words i))
    ∙ ap (λ (n : ℕ). laid_over start base size first words n) more

-- a ring behind other words
pub laid_behind : (base size first : ℕ) (words front ring : List ℕ) (n : ℕ) → length front ≡ base → laid_round base size first words (front ++ ring) n ≡ front ++ laid_round 0 size first words ring n
unfolding laid_round
laid_behind base size first words front ring zero many = refl
laid_behind base size first words front ring (suc n) many =
    let place : ℕ = (first + n) % size in
    let left : base + place - base ≡ 0 + place = omega arith in
    ap (λ (all : List ℕ). slice_set all (base + place) (get_or words n 0)) (laid_behind base size first words front ring n many)
    ∙ set-append_right front (laid_round 0 size first words ring n) base (base + place) (get_or words n 0) many (omega arith)
    ∙ ap (λ (at : ℕ). front ++ slice_set (laid_round 0 size first words ring n) at (get_or words n 0)) left
