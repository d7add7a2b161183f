use Rattle.std.proofs.Common.{◌≡◌, ◌∙◌, ap, ℕ, List, [], ◌∷◌, ◌++◌, append_assoc, codes}
use Rattle.std.proofs.lemmas.Result.{on_ok_weaker}
use Rattle.std.specs.Fmt.{decimal}
use Rattle.fkv_base.specs.declared.numbers.Serial.{Serial}
use Rattle.fkv_texts.specs.Lines.{points_text}
use Rattle.fkv_texts.specs.Keeper.{finished_commit_text}
use Rattle.fkv_texts.proofs.Appending.{appends_three}
use Rattle.fkv_texts.proofs.keeper.write_finished_commit.Goals as goal

joined : (number points : List ℕ) → (codes "k finished " ++ (number ++ codes " points")) ++ (points ++ 10 ∷ []) ≡ (codes "k " ++ (codes "finished " ++ number ++ codes " points" ++ points)) ++ 10 ∷ []
joined number points = simp append_assoc

pub returns : goal.returns
returns g c =
    let number : List ℕ = decimal c.args.commit.now.number.0 in
    let head : List ℕ = codes "k finished " ++ (number ++ codes " points") in
    let all : head ++ (points_text c.as_slice.result.now ++ 10 ∷ []) ≡ finished_commit_text c.args.commit.now =
    ap (λ (points : List Serial). head ++ (points_text points ++ 10 ∷ [])) c.as_slice.ensures.value ∙ joined number (points_text c.args.commit.now.points.items) in
    on_ok_weaker c.writeln.result
    (λ written. appends_three _ _ _ _ head (points_text c.as_slice.result.now) (10 ∷ []) _ c.in_ok-write.ensures.bytes c.in_ok-write_points.ensures written all)
    c.writeln.ensures.bytes
