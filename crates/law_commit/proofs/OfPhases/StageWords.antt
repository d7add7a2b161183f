-- What the phase word says at each stage.
use Rattle.std.proofs.Common.{◌≡◌, ℕ, ◌<◌, ◌≤◌, arith, ap, sym}
use Rattle.std.specs.Prelude.{min, max}
use Rattle.fkv_base.specs.Limits.{last_version}
use Rattle.fkv_base.specs.declared.numbers.Version.{Version}
use Rattle.fkv_base.specs.declared.phases.Phase.{Phase}
use Rattle.fkv_words.specs.declared.phase_words.PhaseSaid.TheVariants.{Says}
use Rattle.fkv_words.specs.Layout.{max_version, phase_spelled}
use Rattle.fkv_words.specs.PhaseWords.{phase_said}
use Rattle.fkv_words.specs.Phases.{phase_number}
use Rattle.fkv_words.proofs.Shown.{said_version, spelled_says}
use Rattle.fkv_epoch.specs.Claiming.{phase_stored}
use Rattle.law_commit.specs.Phases.Staged.{DefersPending, DefersProgress, FitsVersion, Flushes, Pends, Prepares, Progresses, Rests, Stage, stage_phase, stage_version, stage_word}

-- a word that is stored for a phase and a version says them
pub stored_says : (its : Phase) (version : Version) → 0 < version.0 → version.0 ≤ last_version → phase_said (phase_stored its version) ≡ Says its version
stored_says its version some low =
    let within : max (min version.0 max_version) 1 ≡ version.0 = omega (arith, some, low) in
    spelled_says (phase_stored its version) version.0 its (ap (λ (n : ℕ). phase_spelled n (phase_number its)) (sym within)) some low

version_some : (number : Version) (stage : Stage) → FitsVersion number stage → 0 < (stage_version number stage).0
version_some number Rests fits = fits.some
version_some number Prepares fits = fits.some
version_some number DefersProgress fits = fits.some
version_some number Progresses fits = omega arith
version_some number DefersPending fits = omega arith
version_some number Pends fits = omega arith
version_some number Flushes fits = omega arith

version_low : (number : Version) (stage : Stage) → FitsVersion number stage → (stage_version number stage).0 ≤ last_version
version_low number Rests fits = fits.low
version_low number Prepares fits = fits.low
version_low number DefersProgress fits = fits.low
version_low number Progresses fits = omega arith
version_low number DefersPending fits = omega arith
version_low number Pends fits = omega arith
version_low number Flushes fits = omega arith

pub word_says : (number : Version) (stage : Stage) → FitsVersion number stage → phase_said (stage_word number stage) ≡ Says (stage_phase stage) (stage_version number stage)
word_says number stage fits = stored_says (stage_phase stage) (stage_version number stage) (version_some number stage fits) (version_low number stage fits)

pub said_low : (word : ℕ) (its : Phase) (version : Version) → phase_said word ≡ Says its version → version.0 ≤ last_version
said_low word its version is = (said_version word its version is).1
