-- The commits of a life by their numbers: no two have one, and none ends below an older one.
use Rattle.std.proofs.Common.{◌≡◌, inl, inr, ◌<◌, ◌≤◌, ◌∙◌, arith, sym, ap, List, [], ◌∷◌}
use Rattle.std.proofs.lemmas.Bool.{cases_lt}
use Rattle.law_commit.specs.BegunCommits.{AreInTurn, BegunCommit}
use Rattle.law_log.specs.Trace.{IsIn}

-- the newest has the greatest number
pub newest_most : (c : BegunCommit) (before : List BegunCommit) (d : BegunCommit) → AreInTurn (c ∷ before) → IsIn d before → d.number.0 < c.number.0
newest_most c [] d turn is = absurd is
newest_most c (e ∷ before) d turn (inl same) =
    let next = turn.0 in
    let number : e.number.0 ≡ d.number.0 = ap (λ (x : BegunCommit). x.number.0) same in
    omega (arith, next, number)
newest_most c (e ∷ before) d turn (inr is) =
    let next = turn.0 in
    let low = newest_most e before d turn.1 is in
    omega (arith, next, low)

one_number : (begun : List BegunCommit) (c d : BegunCommit) → AreInTurn begun → IsIn c begun → IsIn d begun → c.number.0 ≡ d.number.0 → c ≡ d
one_number [] c d turn is also same = absurd is
one_number (e ∷ before) c d turn (inl one) (inl other) same = sym one ∙ other
one_number (e ∷ before) c d turn (inl one) (inr also) same =
    let low = newest_most e before d turn also in
    let number : e.number.0 ≡ c.number.0 = ap (λ (x : BegunCommit). x.number.0) one in
    absurd (omega (arith, low, number, same))
one_number (e ∷ before) c d turn (inr is) (inl other) same =
    let low = newest_most e before c turn is in
    let number : e.number.0 ≡ d.number.0 = ap (λ (x : BegunCommit). x.number.0) other in
    absurd (omega (arith, low, number, same))
one_number (e ∷ before) c d turn (inr is) (inr also) same = one_number before c d turn.1 is also same

pub ends_by : (begun : List BegunCommit) (c d : BegunCommit) → AreInTurn begun
    → ((older newer : BegunCommit) → IsIn older begun → IsIn newer begun → older.number.0 < newer.number.0 → older.parts.end.0 ≤ newer.parts.end.0)
    → IsIn c begun → IsIn d begun → d.number.0 ≤ c.number.0 → d.parts.end.0 ≤ c.parts.end.0
ends_by begun c d turn rises is also most = elim (cases_lt d.number.0 c.number.0) [
  | inl less ↦ rises d c also is less
  | inr more ↦
      let same = one_number begun c d turn is also (omega (arith, most, more)) in
      let end : c.parts.end.0 ≡ d.parts.end.0 = ap (λ (x : BegunCommit). x.parts.end.0) same in
      omega (arith, end)
]
