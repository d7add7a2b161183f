-- One line more: a mark, a call that joins the last group, or one that begins a group.
use Rattle.std.proofs.Common.{◌≡◌, ◌∷◌, [], ◌++◌, Ok, ◌-◌, ◌<◌, ◌≤◌, suc, length, Some, arith, refl, ap, ◌∙◌}
use Rattle.std.specs.Prelude.{slice_get}
use Rattle.std.proofs.lemmas.Option.{slice_get_read}
use Rattle.fkv_lines.specs.declared.scripts.Line.{Line}
use Rattle.fkv_runs.specs.declared.pieces.Piece.TheVariants.{Group}
use Rattle.fkv_runs.specs.Pieces.{lines_of}
use Rattle.fkv_runs.proofs.Joining.{call_joined, ends_apart, ends_nowhere, group_more, mark_more, not_both, put_back}
use Rattle.fkv_runs.proofs.pieces.put.Goals as goal
use Rattle.fkv_runs.proofs.pieces.put.Goals.{then-interleaved+in-Some-last_mut+in_ok-join+else-branch, then-interleaved+in_default-last_mut, else-interleaved}

pub returns-in_default : goal.returns-in_default
returns-in_default c lines are =
    rw c.in_ok-push.ensures.items
    (mark_more c.args.interleaved lines c.args.line c.args.pieces.now.items c.mark_of.result are (c.mark_of.ensures.lines c.in_default.ensures.none) (c.mark_of.ensures.alone c.in_default.ensures.none))

pub returns-then-branch : goal.returns-then-branch
returns-then-branch c lines are =
    let pieces = c.args.pieces.now in
    let last = c.in-Some-last_mut.last.now in
    let some = c.in-Some-last_mut.ensures.item in
    let count : pieces.len ≡ length pieces.items = pieces.ok.0 in
    let filled : 0 < length pieces.items = some.3.0 in
    let here : slice_get pieces.items (pieces.len - 1) ≡ Some last = slice_get_read pieces.items pieces.len (pieces.len - 1) last count (omega arith) c.in-Some-last_mut.ensures.value in
    let joined = c.in_ok-join.ensures.joined (ap (λ b. Ok b) c.if-branch.true) in
    call_joined c.args.interleaved lines c.args.line pieces.items (pieces.len - 1) last c.join.new.self c.if-interleaved.true are here (omega arith) joined.0 joined.1
    (joined.2 ∙ ap (λ (line : Line). lines_of last ++ line ∷ []) c.in-Some.ensures.some)

pub returns : goal.returns
returns c lines are =
    let pieces = c.args.pieces.now in
    let count : pieces.len ≡ length pieces.items = pieces.ok.0 in
    let past : length pieces.items ≤ suc (pieces.len - 1) = omega arith in
    let more = group_more c.args.interleaved lines c.args.line pieces.items c.if-interleaved.pieces.items c.push-3.new.self.items c.new-calls.result.items c.push-2.new.self.items c.in-Some.call (Group c.push-2.new.self)
    are c.in-Some.ensures.some c.new-calls.ensures.items c.in_ok-push-2.ensures.items refl (λ one. one) in
    elim c.if-interleaved.branch [
      | then-interleaved+in-Some-last_mut+in_ok-join+else-branch w ↦
          let last = w.in-Some-last_mut.last.now in
          let filled : 0 < length pieces.items = w.in-Some-last_mut.ensures.item.3.0 in
          let here : slice_get pieces.items (pieces.len - 1) ≡ Some last = slice_get_read pieces.items pieces.len (pieces.len - 1) last count (omega arith) w.in-Some-last_mut.ensures.value in
          let other = w.in_ok-join.ensures.other (ap (λ b. Ok b) w.if-branch.false) in
          more (ap (λ it. it.items) w.pieces-is ∙ put_back pieces.items (pieces.len - 1) last w.join.new.self here other.1) c.in_ok-push-3.ensures.items
          (λ _. ends_apart pieces.items (pieces.len - 1) last here past other.0)
      | then-interleaved+in_default-last_mut w ↦ more (ap (λ it. it.items) w.pieces-is) c.in_ok-push-3.ensures.items (λ _. ends_nowhere pieces.items w.in_default-last_mut.ensures.item.3)
      | else-interleaved w ↦ more (ap (λ it. it.items) w.pieces-is) c.in_ok-push-3.ensures.items (λ is. absurd (not_both c.args.interleaved is w.if-interleaved.false))
    ]
