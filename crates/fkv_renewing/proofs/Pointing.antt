-- The points of sessions, session by session.
use Rattle.std.proofs.Common.{◌≡◌, ⊎_elim, ℕ, zero, suc, ◌+◌, ◌<◌, ◌≤◌, List, [], ◌∷◌, ◌++◌, length, refl, sym, ap, ◌∙◌, arith, get_or}
use Rattle.std.specs.Prelude.{All}
use Rattle.std.proofs.lemmas.Bool.{cases_lt}
use Rattle.std.proofs.lemmas.List.{get_or_past, length-map, length-append}
use Rattle.fkv_base.specs.Limits.{last_serial}
use Rattle.fkv_base.specs.declared.numbers.Serial.{Serial}
use Rattle.fkv_base.specs.declared.shapes.Shape.{Shape}
use Rattle.fkv_record.specs.Points.{serial_numbers}
use Rattle.fkv_scan.proofs.Shown.{at_or_below}
use Rattle.fkv_renewing.specs.Room.{HasSessions, point_at}

-- past the end of the list no session has a point
pub none_past : (xs : List Serial) (session : ℕ) → length xs ≤ session → point_at xs session ≡ 0
none_past xs session past = get_or_past (serial_numbers xs) session 0 (omega (arith, past, length-map xs (λ p. p.0)))

pub point_here : (xs : List Serial) (session : ℕ) (x : Serial) → session < length xs → x ≡ get_or xs session x → point_at xs session ≡ x.0
point_here [] session x low is = absurd (omega (arith, low))
point_here (y ∷ ys) zero x low is = ap (λ (p : Serial). p.0) (sym is)
point_here (y ∷ ys) (suc session) x low is = point_here ys session x (omega (arith, low)) is

-- one point more
pub point_before : (xs : List Serial) (x : Serial) (session : ℕ) → session < length xs → point_at (xs ++ x ∷ []) session ≡ point_at xs session
point_before [] x session low = absurd (omega (arith, low))
point_before (y ∷ ys) x zero low = refl
point_before (y ∷ ys) x (suc session) low = point_before ys x session (omega (arith, low))

pub point_last : (xs : List Serial) (x : Serial) → point_at (xs ++ x ∷ []) (length xs) ≡ x.0
point_last [] x = refl
point_last (y ∷ ys) x = point_last ys x

-- the first n sessions have their points
pub record ArePointsTo (points : List Serial) (n : ℕ) (xs : List Serial) : Type 0 where
  pub many : length xs ≡ n
  pub each : (session : ℕ) → session < n → point_at xs session ≡ point_at points session
  pub small : All (λ p. p.0 ≤ last_serial) xs

pub points_more : (points xs : List Serial) (n : ℕ) (x : Serial) → ArePointsTo points n xs → x.0 ≡ point_at points n → x.0 ≤ last_serial → ArePointsTo points (n + 1) (xs ++ x ∷ [])
points_more points xs n x so_far is low = record {
  many = length-append xs (x ∷ []) ∙ ap (λ (m : ℕ). m + 1) so_far.many;
  each = λ session below. ⊎_elim
      (λ before. point_before xs x session (omega (arith, before, so_far.many)) ∙ so_far.each session before)
      (λ last. ap (point_at (xs ++ x ∷ [])) (last ∙ sym so_far.many) ∙ point_last xs x ∙ is ∙ ap (point_at points) (sym last))
      (at_or_below session n below);
  small = small_more xs so_far.small;
}
  where
    small_more : (ys : List Serial) → All (λ p. p.0 ≤ last_serial) ys → All (λ p. p.0 ≤ last_serial) (ys ++ x ∷ [])
    small_more [] all zero d below = low
    small_more [] all (suc k) d below = absurd (omega (arith, below))
    small_more (y ∷ ys) all zero d below = all zero d (omega arith)
    small_more (y ∷ ys) all (suc k) d below = small_more ys (λ j e under. all (suc j) e (omega (arith, under))) k d (omega (arith, below))

-- all sessions have them, where those beyond have none
pub all_points : (shape : Shape) (points xs : List Serial) → length xs ≡ shape.sessions → ((session : ℕ) → session < shape.sessions → point_at xs session ≡ point_at points session) → HasSessions shape points
    → (session : ℕ) → point_at xs session ≡ point_at points session
all_points shape points xs many each beyond session = ⊎_elim
    (λ low. each session low)
    (λ past. none_past xs session (omega (arith, past, many)) ∙ sym (beyond session past))
    (cases_lt session shape.sessions)
