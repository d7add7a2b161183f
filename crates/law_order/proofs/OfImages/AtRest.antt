-- An opened store opens at rest, so the numbers of its commits are in turn.
use Rattle.std.proofs.Common.{◌≡◌, ℕ, ◌+◌, ◌<◌, ◌≤◌, ◌∙◌, arith, refl, sym, ap, subst, List}
use Rattle.std.specs.Prelude.{max, min}
use Rattle.fkv_base.specs.Limits.{last_version}
use Rattle.fkv_base.specs.declared.phases.Phase.TheVariants.{Rest}
use Rattle.law_opening.specs.Below.fkv_core.OpeningWords.{AreWordsOfOpened}
use Rattle.law_opening.specs.Below.fkv_core.Openings.{IsOpeningWorld, beginning}
use Rattle.fkv_epoch.specs.Claiming.{phase_stored}
use Rattle.law_commit.specs.Below.fkv_keeper.Keeping.{Finality}
use Rattle.law_opening.specs.Below.fkv_opening.TheOpened.{Opened}
use Rattle.fkv_plane.specs.Asked.{word_at}
use Rattle.fkv_plane.specs.Places.{shared_place}
use Rattle.fkv_plane.specs.declared.places.SharedWord.TheVariants as one
use Rattle.fkv_words.specs.Layout.{max_version, phase_spelled}
use Rattle.fkv_words.specs.Phases.{phase_number}
use Rattle.fkv_words.specs.PhaseWords.{phase_said}
use Rattle.fkv_words.specs.declared.phase_words.PhaseSaid.TheVariants.{Says}
use Rattle.law_commit.specs.Below.fkv_world.Opened.{IsOpenedWorld}
use Rattle.law_commit.specs.Below.fkv_world.World.{Now}
use Rattle.law_commit.specs.PhaseStores.{phase_at}
use Rattle.law_commit.specs.Phases.Staged.{OpensAtRest}
use Rattle.law_commit.proofs.OfPhases.StageWords.{stored_says}
use Rattle.law_commit.specs.Below.law_world.Guarded.OpenedStore.{IsOpenedStore}

word_there : (o : Opened) (words : List ℕ) → AreWordsOfOpened o words → word_at words (shared_place one.Phase) ≡ phase_spelled (o.number.0 + 1) (phase_number Rest)
word_there o words are = ap (λ (all : List ℕ). word_at all (shared_place one.Phase)) are.whole

stored_there : (n : ℕ) → 0 < n → n ≤ last_version → phase_spelled n (phase_number Rest) ≡ phase_stored Rest (record { 0 = n })
stored_there n some low = let within : max (min n max_version) 1 ≡ n = omega (arith, some, low) in ap (λ (m : ℕ). phase_spelled m (phase_number Rest)) (sym within)

pub opens_at_rest : (o : Opened) (n : Now) → IsOpeningWorld o n → OpensAtRest n
opens_at_rest o n its =
    let few = o.few_commits in
    let low : o.number.0 + 1 ≤ last_version = omega (arith, few) in
    let same : n.keeper.last.number.0 ≡ o.number.0 = ap (λ (last : Finality). last.number.0) its.its_keeper.newest in
    let word : phase_at n ≡ phase_stored Rest (record { 0 = o.number.0 + 1 }) = word_there o n.words its.its_words ∙ stored_there (o.number.0 + 1) (omega arith) low in
    record {
      says = subst (λ (x : ℕ). phase_said (phase_at n) ≡ Says Rest (record { 0 = x + 1 })) (sym same)
          (ap (λ (w : ℕ). phase_said w) word ∙ stored_says Rest (record { 0 = o.number.0 + 1 }) (omega arith) low);
      seen = λ session first found. (its.its_sessions session first found).saw.version ∙ ap (λ (x : ℕ). x + 1) (sym same);
    }

-- and nothing is past yet
pub world_opens : (o : Opened) (n : Now) (bytes : List ℕ) → IsOpeningWorld o n → IsOpenedStore (beginning n bytes) o.tail.0 → IsOpenedWorld (beginning n bytes)
world_opens o n bytes begins opened = record {
  goes_on = begins.goes_on;
  no_history = refl;
  no_trace = refl;
  no_calls = refl;
  seats = begins.seats ∙ sym begins.its_places.sessions;
  keeper = opened.now.keeper;
  sessions = λ number s found. (begins.its_sessions number s found).opened;
}
