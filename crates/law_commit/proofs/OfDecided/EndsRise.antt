-- A newer commit ends no lower: its end was the tail at a later moment.
use Rattle.std.proofs.Common.{◌≡◌, ◌⊎◌, inl, inr, ℕ, ◌<◌, ◌≤◌, ◌∙◌, List, [], ◌∷◌, ◌++◌, arith, ap, sym, subst}
use Rattle.std.proofs.lemmas.List.{append-nil}
use Rattle.law_refine.specs.Below.fkv_world.Runs.{World, run}
use Rattle.law_refine.specs.Below.fkv_world.World.{Event}
use Rattle.law_refine.specs.Events.Reserved.{tail_at}
use Rattle.law_commit.specs.Decided.Below.{EndsRise}
use Rattle.law_commit.specs.Decided.Ended.{HadMoment, HasEnded, LoadsEnd, Span, span_of, span_opened}
use Rattle.law_commit.specs.Quiet.{OpensQuiet, rank_now, rank_said}
use Rattle.law_commit.proofs.OfDecided.BelowEnd.{ending_rank}
use Rattle.law_commit.proofs.OfDecided.Ended.{have_ended}
use Rattle.law_commit.proofs.OfDecided.Lives.{tails_rise}
use Rattle.law_commit.proofs.OfQuiet.Ranks.{rank_first, ranks_rise}

-- ---- of two moments of a life one comes after the other
record ComesAfter (one other : List Event) : Type 0 where
  between : List Event
  split : one ≡ between ++ other

tail_same : (x y : Event) (xs ys : List Event) → x ∷ xs ≡ y ∷ ys → xs ≡ ys
tail_same x y xs ys e = cc

in_order : (later more one other : List Event) → later ++ one ≡ more ++ other → ComesAfter one other ⊎ ComesAfter other one
in_order [] more one other same = inl (record { between = more; split = same })
in_order (event ∷ later) [] one other same = inr (record { between = event ∷ later; split = sym same })
in_order (event ∷ later) (next ∷ more) one other same = in_order later more one other (tail_same event next (later ++ one) (more ++ other) same)

module _ (opening : World) (start : ℕ) (opens : OpensQuiet opening start) where
  ranks_on : (later before : List Event) → rank_now opening before ≤ rank_now opening (later ++ before)
  ranks_on [] before = omega arith
  ranks_on (event ∷ later) before =
      let was = ranks_on later before in
      let up = ranks_rise opening start (later ++ before) event opens in
      omega (arith, was, up)

  tail_on : (one other : List Event) → ComesAfter one other → tail_at (run opening other).now ≤ tail_at (run opening one).now
  tail_on one other after = subst (λ (e : List Event). tail_at (run opening other).now ≤ tail_at (run opening e).now) (sym after.split) (tails_rise opening start after.between other opens.guarded)

  rank_on : (one other : List Event) → ComesAfter one other → rank_now opening other ≤ rank_now opening one
  rank_on one other after = subst (λ (e : List Event). rank_now opening other ≤ rank_now opening e) (sym after.split) (ranks_on after.between other)

  both_rise : (events : List Event) (x y : Span) → HadMoment (LoadsEnd x) opening events → HadMoment (LoadsEnd y) opening events → x.number.0 < y.number.0 → x.end.0 ≤ y.end.0
  both_rise events x y one other low =
      let mine = one.was in
      let its = other.was in
      let tail = mine.tail in
      let more = its.tail in
      elim (in_order other.later one.later other.moment one.moment (sym other.split ∙ one.split)) [
        | inl after ↦ (let up = tail_on other.moment one.moment after in omega (arith, tail, more, up))
        | inr before ↦
            let up = rank_on one.moment other.moment before in
            let rank = ending_rank opening start opens x one.moment mine in
            let high = ending_rank opening start opens y other.moment its in
            absurd (omega (arith, up, rank, high, low))
      ]

  -- the opening's ends at the first tail, and each newer one was written after that
  above_opened : (events : List Event) (y : Span) → HadMoment (LoadsEnd y) opening events → tail_at opening.now ≤ y.end.0
  unfolding run
  above_opened events y other =
      let its = other.was in
      let more = its.tail in
      let up = tail_on other.moment [] (record { between = other.moment; split = sym (append-nil other.moment) }) in
      omega (arith, more, up)

  newer_than_opened : (events : List Event) (x : Span) → HadMoment (LoadsEnd x) opening events → opening.now.keeper.last.number.0 < x.number.0
  newer_than_opened events x one =
      let rank = ending_rank opening start opens x one.moment one.was in
      let first = rank_first opening start one.moment opens in
      let said = ap rank_said opens.seen.rests.says in
      omega (arith, rank, first, said)

  rise : (events : List Event) (x y : Span) → HasEnded opening events x ⊎ (x ≡ span_opened opening) → HasEnded opening events y ⊎ (y ≡ span_opened opening) → x.number.0 < y.number.0 → x.end.0 ≤ y.end.0
  rise events x y (inl one) (inl other) low = both_rise events x y one.end other.end low
  rise events x y (inr first) (inl other) low =
      let up = above_opened events y other.end in
      let end = ap (λ (z : Span). z.end.0) first in
      omega (arith, up, end)
  rise events x y (inl one) (inr first) low =
      let newer = newer_than_opened events x one.end in
      let number = ap (λ (z : Span). z.number.0) first in
      absurd (omega (arith, newer, number, low))
  rise events x y (inr first) (inr other) low =
      let one = ap (λ (z : Span). z.number.0) first in
      let same = ap (λ (z : Span). z.number.0) other in
      absurd (omega (arith, one, same, low))

pub ends_rise : EndsRise
ends_rise opening start events older newer opens there also low =
    rise opening start opens events (span_of older) (span_of newer) (have_ended opening start events older opens there) (have_ended opening start events newer opens also) low
