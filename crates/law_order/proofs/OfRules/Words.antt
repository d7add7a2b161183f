-- The words of an opened store say rest in the version behind its commit's, and its sessions have seen that.
use Rattle.std.proofs.Common.{◌≡◌, ◌∙◌, ap, sym, subst, arith, ℕ, ◌+◌, ◌<◌, ◌≤◌, List}
use Rattle.std.specs.Prelude.{max, min}
use Rattle.fkv_base.specs.Limits.{last_version}
use Rattle.fkv_base.specs.declared.phases.Phase.TheVariants.{Rest}
use Rattle.law_opening.specs.Below.fkv_core.OpeningWords.{AreWordsOfOpened}
use Rattle.law_opening.specs.Below.fkv_core.Openings.{IsOpeningWorld}
use Rattle.fkv_epoch.specs.Claiming.{phase_stored}
use Rattle.law_commit.specs.Below.fkv_keeper.Keeping.{Finality}
use Rattle.law_opening.specs.Below.fkv_opening.TheOpened.{Opened}
use Rattle.fkv_plane.specs.Asked.{word_at}
use Rattle.fkv_plane.specs.Places.{shared_place}
use Rattle.fkv_plane.specs.declared.places.SharedWord.TheVariants as one
use Rattle.fkv_words.specs.PhaseWords.{phase_said}
use Rattle.fkv_words.specs.Layout.{max_version, phase_spelled}
use Rattle.fkv_words.specs.Phases.{phase_number}
use Rattle.fkv_words.specs.declared.phase_words.PhaseSaid.TheVariants.{Says}
use Rattle.law_commit.specs.Below.fkv_world.World.{Now}
use Rattle.law_commit.proofs.OfPhases.StageWords.{stored_says}
use Rattle.law_commit.specs.Floor.Stands.{OpensSeen}
use Rattle.law_commit.specs.PhaseStores.{phase_at}

phase_there : (o : Opened) (words : List ℕ) → AreWordsOfOpened o words → word_at words (shared_place one.Phase) ≡ phase_spelled (o.number.0 + 1) (phase_number Rest)
phase_there o words are = ap (λ (all : List ℕ). word_at all (shared_place one.Phase)) are.whole

-- it is the word that a commit stores as it is finished
rest_stored : (version : ℕ) → 0 < version → version ≤ last_version → phase_spelled version (phase_number Rest) ≡ phase_stored Rest (record { 0 = version })
rest_stored version some few = let within : max (min version max_version) 1 ≡ version = omega (arith, some, few) in ap (λ (n : ℕ). phase_spelled n (phase_number Rest)) (sym within)

module _ (o : Opened) (n : Now) (its : IsOpeningWorld o n) where
  says : phase_said (phase_at n) ≡ Says Rest (record { 0 = o.number.0 + 1 })
  says =
      let few = o.few_commits in
      ap phase_said (phase_there o n.words its.its_words ∙ rest_stored (o.number.0 + 1) (omega arith) (omega (arith, few)))
      ∙ stored_says Rest (record { 0 = o.number.0 + 1 }) (omega arith) (omega (arith, few))

  newest : n.keeper.last.number.0 ≡ o.number.0
  newest = ap (λ (last : Finality). last.number.0) its.its_keeper.newest

  pub opens_seen : OpensSeen n
  opens_seen = record {
    rests = record {
      says = subst (λ (number : ℕ). phase_said (phase_at n) ≡ Says Rest (record { 0 = number + 1 })) (sym newest) says;
      seen = λ session first found. let saw = (its.its_sessions session first found).saw in saw.version ∙ ap (λ (number : ℕ). number + 1) (sym newest);
    };
    seen = λ session first found. let saw = (its.its_sessions session first found).saw in saw.phase;
  }
