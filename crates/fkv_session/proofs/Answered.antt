-- A call's answer comes just where it is told, so its asks are those that are left.
use Rattle.std.proofs.Common.{◌≡◌, ℕ, ◌∙◌, refl, sym, ap, List}
use Rattle.fkv_plane.specs.declared.asks.Ask.{Ask}
use Rattle.fkv_plane.specs.declared.asks.Ask.TheVariants.{Done}
use Rattle.fkv_plane.specs.Passing.{is_done, passed}
use Rattle.fkv_plane.proofs.Shown.{passed_done}
use Rattle.fkv_plane.specs.AsksLeft.{AsksWhereLeft}
use Rattle.fkv_session.specs.declared.answers.Answer.{Answer}
use Rattle.fkv_session.specs.declared.answers.Answer.TheVariants as answer
use Rattle.fkv_session.specs.declared.answers.Finished.{Finished}
use Rattle.fkv_session.specs.declared.answers.Told.{Told}
use Rattle.fkv_session.specs.Answers.{IsAnswered, IsDoneTold}

told_done : (its : Told) (list : List Finished) (given : Ask Answer) → IsDoneTold its list given → is_done given ≡ is_done (Done its)
told_done its list (Done answer) so = refl
told_done its list other so = absurd so

goes_on : (ask : Ask Told) (given : Ask Answer) → given ≡ passed ask answer.Slept → is_done given ≡ is_done ask
goes_on ask given e = ap (λ (its : Ask Answer). is_done its) e ∙ passed_done ask answer.Slept

answered_done : (ask : Ask Told) (list : List Finished) (given : Ask Answer) → IsAnswered ask list given → is_done given ≡ is_done ask
answered_done (Done its) list given so = told_done its list given so
answered_done ask list given so = goes_on ask given so

pub answered_left : (left : ℕ) (ask : Ask Told) (list : List Finished) (given : Ask Answer) → IsAnswered ask list given → AsksWhereLeft left ask → AsksWhereLeft left given
answered_left left ask list given so its =
    let same = answered_done ask list given so in
    (λ e. its.0 (sym same ∙ e), λ some. same ∙ its.1 some)
