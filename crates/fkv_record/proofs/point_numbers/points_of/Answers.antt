use Rattle.std.proofs.Common.{◌≡◌, ℕ, ◌-◌, ◌≤◌, List, length, All, replicate, arith, refl, sym, ap, subst, ◌∙◌}
use Rattle.std.proofs.lemmas.List.{length-map}
use Rattle.fkv_base.specs.declared.numbers.Serial.{Serial}
use Rattle.fkv_base.specs.Limits.{last_serial}
use Rattle.fkv_record.proofs.PointApart.{numbers_fit}
use Rattle.fkv_record.proofs.PointPlaces.{stands_within, points_read_in, points_none_in}
use Rattle.fkv_record.proofs.point_numbers.points_of.Goals as goal
use Rattle.fkv_record.proofs.point_numbers.points_of.Goals.{then-sessions-eq0-via-then-sessions-eq0, then-sessions-eq0-via-else-sessions-eq0+then-sessions-gt-MAX_SESSIONS, then-sessions-eq0-via-else-sessions-eq0+else-sessions-gt-MAX_SESSIONS+then-sessions-places}

pub returns-then-sessions-eq0 : goal.returns-then-sessions-eq0
returns-then-sessions-eq0 c =
    points_none_in (length c.args.places.now) c.args.sessions c.args.places.now (λ x f.
    let some = x.some_session in
    let few = x.few_sessions in
    let count = f.count in
    let within = stands_within x c.args.sessions c.args.places.now f in
    elim c.then-sessions-eq0.branch [
      | then-sessions-eq0-via-then-sessions-eq0 w ↦ omega arith
      | then-sessions-eq0-via-else-sessions-eq0+then-sessions-gt-MAX_SESSIONS w ↦ omega arith
      | then-sessions-eq0-via-else-sessions-eq0+else-sessions-gt-MAX_SESSIONS+then-sessions-places w ↦ omega arith
    ])

pub returns-then-not-are_zero : goal.returns-then-not-are_zero
returns-then-not-are_zero c =
    points_none_in (length c.args.places.now) c.args.sessions c.args.places.now (λ x f.
    let rest : length c.split_at.result.1.now ≡ length c.args.places.now - c.args.sessions = omega (arith, c.split_at.ensures.back_len) in
    let zero = c.split_at.ensures.back ∙ f.unused ∙ ap (λ (n : ℕ). replicate n 0) (sym rest) in
    let never = c.if-not-are_zero.ensures.1 zero in
    let absent : ⊥ = cc in
    absent)

pub returns-in_err-serials : goal.returns-in_err-serials
returns-in_err-serials c =
    rw c.from_residual.ensures (points_none_in (length c.args.places.now) c.args.sessions c.args.places.now (λ x f.
    let same = c.split_at.ensures.front ∙ f.used in
    let F : List ℕ → Type 0 = λ ns. All (λ n. n ≤ last_serial) ns in
    c.in_err-serials.ensures.none (subst F (sym same) (numbers_fit x.serials.items x.serials_fit))))

pub returns : goal.returns
returns c =
    let same = c.in_ok-serials.ensures.same in
    let count : length c.in_ok-serials.serials.items ≡ c.args.sessions = omega (arith, ap length same, length-map {A = Serial} {B = ℕ} c.in_ok-serials.serials.items (λ s. s.0), c.split_at.ensures.front_len) in
    let rest : length c.split_at.result.1.now ≡ length c.args.places.now - c.args.sessions = omega (arith, c.split_at.ensures.back_len) in
    points_read_in (length c.args.places.now) _ c.args.sessions c.args.places.now (record {
      count = count;
      used = sym c.split_at.ensures.front ∙ sym same;
      unused = sym c.split_at.ensures.back ∙ c.if-not-are_zero.ensures.0 refl ∙ ap (λ (n : ℕ). replicate n 0) rest;
    })
