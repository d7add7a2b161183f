use Rattle.std.proofs.Common.{◌≡◌, ◌∙◌, ap, ℕ, List, [], ◌∷◌, ◌++◌, append_assoc, codes}
use Rattle.std.proofs.lemmas.Result.{on_ok_weaker}
use Rattle.std.specs.Fmt.{decimal}
use Rattle.fkv_texts.specs.Lines.{points_text}
use Rattle.fkv_texts.specs.Reports.{report_line}
use Rattle.fkv_texts.proofs.Appending.{appends_three}
use Rattle.fkv_texts.proofs.reports.write_report_line.Goals as goal

joined : (name number points count : List ℕ)
    → (name ++ (codes " commit " ++ (number ++ codes " points"))) ++ (points ++ (codes " pairs " ++ (count ++ 10 ∷ [])))
    ≡ (name ++ codes " commit " ++ number ++ codes " points" ++ points ++ codes " pairs " ++ count) ++ 10 ∷ []
joined name number points count = simp append_assoc

pub returns : goal.returns
returns g c =
    let number : List ℕ = decimal c.args.number.0 in
    let points : List ℕ = points_text c.args.points.now in
    let count : List ℕ = decimal c.args.count in
    let tail : List ℕ = codes " pairs " ++ (count ++ 10 ∷ []) in
    let name : List ℕ = c.name-name.result.now in
    let all : (name ++ (codes " commit " ++ (number ++ codes " points"))) ++ (points ++ tail) ≡ report_line c.args.opening c.args.number c.args.points.now c.args.count =
    joined name number points count ∙ ap (λ (its : List ℕ). (its ++ codes " commit " ++ number ++ codes " points" ++ points ++ codes " pairs " ++ count) ++ 10 ∷ []) c.name-name.ensures in
    on_ok_weaker c.writeln.result
    (λ written. appends_three _ _ _ _ (name ++ (codes " commit " ++ (number ++ codes " points"))) points tail _ c.in_ok-write.ensures.bytes c.in_ok-write_points.ensures written all)
    c.writeln.ensures.bytes
