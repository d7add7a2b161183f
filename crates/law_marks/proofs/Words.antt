-- What words show of a version, and marks of it.
use Rattle.std.proofs.Common.{◌≡◌, ℕ, ◌+◌, ◌<◌, arith, ap, sym}
use Rattle.std.specs.Prelude.{◌*◌, ◌^◌, max, min}
use Rattle.std.proofs.Math.Nat.{min-eq_left}
use Rattle.fkv_marks.specs.Marks.{mark}
use Rattle.fkv_marks.proofs.Shown.{mark_fits, mark_some}
use Rattle.fkv_words.specs.Layout.{max_version, phase_spelled}
use Rattle.fkv_words.specs.Phases.{phase_number}
use Rattle.fkv_words.proofs.Shown.{spelled_says}
use Rattle.fkv_epoch.specs.Claiming.{phase_stored}
use Rattle.law_marks.specs.Words.{CutsShowMarks, HeadersShowMarks, PhasesShowVersions}
use Rattle.law_marks.specs.Telling.{MarksComeAgain}

pub headers_show : HeadersShowMarks
headers_show request entry = omega arith

pub cuts_show : CutsShowMarks
cuts_show serial version small = ap (λ (n : ℕ). n + mark version * 2 ^ 48) (min-eq_left small)

pub phases_show : PhasesShowVersions
phases_show its version some low =
    let within : max (min version.0 max_version) 1 ≡ version.0 = omega (arith, some, low) in
    spelled_says (phase_stored its version) version.0 its (ap (λ (n : ℕ). phase_spelled n (phase_number its)) (sym within)) some low

again : (version : ℕ) → 0 < version → mark (version + 8191) ≡ mark version
unfolding mark
again version some = omega (arith, some)

pub come_again : MarksComeAgain
come_again version some = (again version some, mark_some version some, omega (arith, mark_fits version))
