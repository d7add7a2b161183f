-- The rounds of a finish.
use Rattle.std.proofs.Common.{◌≡◌, ◌≢◌, ◌≤◌, ℕ, Bool, List, ◌++◌, Option, length, take, refl, sym, subst}
use Rattle.std.specs.Io.KnownBytes.{Appends}
use Rattle.fkv_core.specs.Worlds.{WorldModel}
use Rattle.fkv_core.specs.declared.events.Event.{Event}
use Rattle.fkv_core.specs.declared.events.Told.{Told}
use Rattle.fkv_texts.specs.Keeper.{not_finished}
use Rattle.fkv_texts.proofs.Shown.{appends_both, appends_nothing}
use Rattle.fkv_playing.specs.Finishes.{AreRounds, IsPlayedAlone, behind_rounds, most_rounds, round_of, rounds}
use Rattle.fkv_playing.specs.InTurn.{InTurn, Writes}
use Rattle.fkv_playing.specs.Players.{PlayerState}
use Rattle.fkv_playing.specs.declared.calls.ActorCall.{ActorCall}
use Rattle.fkv_playing.specs.declared.calls.Outcome.{Outcome}
use Rattle.fkv_playing.specs.declared.calls.Outcome.TheVariants.{GoesOn, Answered, Closed, Struck}
use Rattle.fkv_playing.specs.declared.calls.Telling.TheVariants.{Finished}

-- where all rounds were not enough, it is said
pub not_enough : (outcome : Outcome) (a b : Option (List ℕ)) → outcome ≡ Answered → Appends a b not_finished → Appends a b (behind_rounds outcome)
not_enough outcome a b e h = subst (λ (its : Outcome). Appends a b (behind_rounds its)) (sym e) h

-- and else nothing
pub enough : (outcome : Outcome) (a : Option (List ℕ)) → outcome ≢ Answered → Appends a a (behind_rounds outcome)
enough GoesOn a e = appends_nothing a
enough Answered a e = absurd (e refl)
enough Closed a e = appends_nothing a
enough Struck a e = appends_nothing a

-- as many calls of all rounds as were played, and what is said behind them
pub rounds_played : {D : Type 0} (engine : Event → WorldModel D → WorldModel D → Option Told → Bool → Type 0) (all : List ActorCall) (count : ℕ)
    (before after : PlayerState D) (outcome : Outcome) (a b c : Option (List ℕ)) → all ≡ rounds most_rounds (round_of before.seats)
    → (outcome ≡ Answered → length all ≤ count) → Writes (InTurn (IsPlayedAlone engine Finished) Answered (take count all) before after outcome) a b
    → Appends b c (behind_rounds outcome) → Writes (AreRounds engine before after outcome) a c
rounds_played engine all count before after outcome a b c e long h k = (
  h.0 ++ behind_rounds outcome,
  record {
    count = count;
    said = h.0;
    calls = subst (λ (calls : List ActorCall). InTurn (IsPlayedAlone engine Finished) Answered (take count calls) before after outcome h.0) e h.1;
    all = subst (λ (calls : List ActorCall). outcome ≡ Answered → length calls ≤ count) e long;
    says = refl;
  },
  appends_both a b c h.0 (behind_rounds outcome) h.2 k,
)
