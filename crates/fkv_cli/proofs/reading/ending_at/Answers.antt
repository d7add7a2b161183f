use Rattle.std.proofs.Common.{◌≡◌, ◌∙◌, ◌++◌, ℕ, List, inl, inr, ap, append_assoc, codes, decimal}
use Rattle.fkv_texts.specs.Lines.{line_of}
use Rattle.fkv_cli.proofs.reading.ending_at.Goals as goal

told : (said number name wanted : List ℕ) → said ≡ codes "script line " ++ (number ++ (codes " " ++ name)) → name ≡ wanted → said ≡ codes "script line " ++ number ++ codes " " ++ wanted
told said number name wanted h e = h ∙ ap (λ (its : List ℕ). codes "script line " ++ (number ++ (codes " " ++ its))) e ∙ simp append_assoc

pub returns-in-Ok : goal.returns-in-Ok
returns-in-Ok c = elim c.of_line.ensures [
  | inl want ↦ inl want
  | inr line ↦
      inr (line.0, line.1 ∙ ap line_of (c.as_str.ensures.value ∙ told _ (decimal c.args.line) c.name-name.result.now _ c.in-Ok.ensures.ok c.name-name.ensures))
]
