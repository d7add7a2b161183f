use Rattle.std.proofs.Common.{◌≡◌, ℕ, ◌+◌, get_or, replicate, sym, ap, subst, ◌∙◌, refl}
use Rattle.fkv_record.specs.declared.formats.Format.{Format}
use Rattle.fkv_record.specs.Formats.{point_places}
use Rattle.fkv_record.proofs.ManifestApart.{Tells, checkpoint_at, length-rest_at, points_given, lost_given, not_held, not_named, not_begun, read_some, read_none}
use Rattle.fkv_record.proofs.manifest_bytes.manifest_of.Goals as goal
use Rattle.fkv_record.proofs.manifest_bytes.manifest_of.Goals.{then-not-is_held-via-then-not-is_held, then-not-is_held-via-else-not-is_held+then-named_checkpoint-numbers}

pub returns-in_err-format : goal.returns-in_err-format
returns-in_err-format c =
    rw c.from_residual.ensures (read_none c.args.numbers.now c.requires (λ f x t.
    let here = (c.in_err-format.ensures f).1 t.format in
    let never : ⊥ = cc in
    never))

pub returns-then-numbers-ne-OPEN : goal.returns-then-numbers-ne-OPEN
returns-then-numbers-ne-OPEN c = read_none c.args.numbers.now c.requires (λ f x t. c.if-numbers-ne-OPEN.true t.gate)

pub returns-in_err-points : goal.returns-in_err-points
returns-in_err-points c =
    rw c.from_residual-in_err-points.ensures (read_none c.args.numbers.now c.requires (λ f x t.
    let here = (c.in_ok-format.ensures f).1 t.format in
    let same : f ≡ c.in_ok-format.format = cc in
    let mine : Tells c.in_ok-format.format x c.args.numbers.now = subst (λ (g : Format). Tells g x c.args.numbers.now) same t in
    let none = (points_given c.in_ok-format.format c.point_places-behind.result c.args.numbers.now _ c.requires c.point_places-behind.ensures c.in_err-points.ensures x.points).1 mine.points in
    let never : ⊥ = cc in
    never))

pub returns-in_err-lost : goal.returns-in_err-lost
returns-in_err-lost c =
    rw c.from_residual-in_err-lost.ensures (read_none c.args.numbers.now c.requires (λ f x t.
    let here = (c.in_ok-format.ensures f).1 t.format in
    let same : f ≡ c.in_ok-format.format = cc in
    let mine : Tells c.in_ok-format.format x c.args.numbers.now = subst (λ (g : Format). Tells g x c.args.numbers.now) same t in
    let none = (lost_given c.in_ok-format.format c.point_places-behind.result c.args.numbers.now _ c.requires c.point_places-behind.ensures c.in_err-lost.ensures x.lost).1 mine.lost in
    let never : ⊥ = cc in
    never))

pub returns-then-not-are_zero : goal.returns-then-not-are_zero
returns-then-not-are_zero c =
    read_none c.args.numbers.now c.requires (λ f x t.
    let zero = c.if-not-are_zero.ensures.1 (t.rest ∙ ap (λ (n : ℕ). replicate n 0) (sym (length-rest_at c.args.numbers.now c.requires))) in
    let never : ⊥ = cc in
    never)

pub returns-then-not-is_held : goal.returns-then-not-is_held
returns-then-not-is_held c =
    read_none c.args.numbers.now c.requires (λ f x t.
    let here = (c.in_ok-format.ensures f).1 t.format in
    let same : f ≡ c.in_ok-format.format = cc in
    let mine : Tells c.in_ok-format.format x c.args.numbers.now = subst (λ (g : Format). Tells g x c.args.numbers.now) same t in
    let points = (points_given c.in_ok-format.format c.point_places-behind.result c.args.numbers.now _ c.requires c.point_places-behind.ensures c.in_ok-points.ensures c.in_ok-points.points).0 refl in
    let lost = (lost_given c.in_ok-format.format c.point_places-behind.result c.args.numbers.now _ c.requires c.point_places-behind.ensures c.in_ok-lost.ensures c.in_ok-lost.lost).0 refl in
    let named : get_or c.args.numbers.now (7 + c.point_places-behind.result) 0 ≡ get_or c.args.numbers.now (7 + point_places c.in_ok-format.format) 0 = ap (λ (k : ℕ). get_or c.args.numbers.now (7 + k) 0) c.point_places-behind.ensures in
    let checkpoint : c.checkpoint_of.result ≡ checkpoint_at c.in_ok-format.format c.args.numbers.now = rw (← named) c.checkpoint_of.ensures in
    elim c.then-not-is_held.branch [
      | then-not-is_held-via-then-not-is_held w ↦ not_held c.in_ok-format.format _ c.args.numbers.now (sym c.is_held.ensures ∙ w.if-not-is_held.true) (record { number = refl; first = refl; end = refl; triples = refl; area = refl; points = points; checkpoint = checkpoint; lost = lost; begin = c.begin_of.ensures }) x mine
      | then-not-is_held-via-else-not-is_held+then-named_checkpoint-numbers w ↦ not_named c.in_ok-format.format _ c.args.numbers.now (λ e. w.if-named_checkpoint-numbers.true (w.named_checkpoint.ensures ∙ e ∙ sym named)) (record { number = refl; first = refl; end = refl; triples = refl; area = refl; points = points; checkpoint = checkpoint; lost = lost; begin = c.begin_of.ensures }) x mine
    ])

pub returns-then-named_begin-numbers : goal.returns-then-named_begin-numbers
returns-then-named_begin-numbers c =
    read_none c.args.numbers.now c.requires (λ f x t.
    let here = (c.in_ok-format.ensures f).1 t.format in
    let same : f ≡ c.in_ok-format.format = cc in
    let mine : Tells c.in_ok-format.format x c.args.numbers.now = subst (λ (g : Format). Tells g x c.args.numbers.now) same t in
    let points = (points_given c.in_ok-format.format c.point_places-behind.result c.args.numbers.now _ c.requires c.point_places-behind.ensures c.in_ok-points.ensures c.in_ok-points.points).0 refl in
    let lost = (lost_given c.in_ok-format.format c.point_places-behind.result c.args.numbers.now _ c.requires c.point_places-behind.ensures c.in_ok-lost.ensures c.in_ok-lost.lost).0 refl in
    let named : get_or c.args.numbers.now (7 + c.point_places-behind.result) 0 ≡ get_or c.args.numbers.now (7 + point_places c.in_ok-format.format) 0 = ap (λ (k : ℕ). get_or c.args.numbers.now (7 + k) 0) c.point_places-behind.ensures in
    let checkpoint : c.checkpoint_of.result ≡ checkpoint_at c.in_ok-format.format c.args.numbers.now = rw (← named) c.checkpoint_of.ensures in
    not_begun c.in_ok-format.format _ c.args.numbers.now (λ e. c.if-named_begin-numbers.true (c.named_begin.ensures ∙ e))
    (record { number = refl; first = refl; end = refl; triples = refl; area = refl; points = points; checkpoint = checkpoint; lost = lost; begin = c.begin_of.ensures }) x mine)

pub returns : goal.returns
returns c =
    let here = (c.in_ok-format.ensures c.in_ok-format.format).0 refl in
    let points = (points_given c.in_ok-format.format c.point_places-behind.result c.args.numbers.now _ c.requires c.point_places-behind.ensures c.in_ok-points.ensures c.in_ok-points.points).0 refl in
    let lost = (lost_given c.in_ok-format.format c.point_places-behind.result c.args.numbers.now _ c.requires c.point_places-behind.ensures c.in_ok-lost.ensures c.in_ok-lost.lost).0 refl in
    let named : get_or c.args.numbers.now (7 + c.point_places-behind.result) 0 ≡ get_or c.args.numbers.now (7 + point_places c.in_ok-format.format) 0 = ap (λ (k : ℕ). get_or c.args.numbers.now (7 + k) 0) c.point_places-behind.ensures in
    let checkpoint : c.checkpoint_of.result ≡ checkpoint_at c.in_ok-format.format c.args.numbers.now = rw (← named) c.checkpoint_of.ensures in
    read_some c.in_ok-format.format _ c.args.numbers.now c.requires (record {
      held = sym c.is_held.ensures ∙ c.if-not-is_held.false;
      gate = c.if-numbers-ne-OPEN.false;
      number = refl;
      first = refl;
      end = refl;
      triples = refl;
      area = refl;
      points = points;
      named = sym c.named_checkpoint.ensures ∙ c.if-named_checkpoint-numbers.false ∙ named;
      lost = lost;
      begin = sym c.named_begin.ensures ∙ c.if-named_begin-numbers.false;
      rest = c.if-not-are_zero.ensures.0 refl ∙ ap (λ (n : ℕ). replicate n 0) (length-rest_at c.args.numbers.now c.requires);
      format = here;
    })
