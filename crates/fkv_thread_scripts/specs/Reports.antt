-- What is told of a script that ran on threads.
use Rattle.std.specs.Prelude.{◌≡◌, ℕ, List, [], ◌∷◌, ◌++◌, Bool, true, false, codes, if◌then◌else◌, Option, Some, None}
use Rattle.std.specs.Fmt.{decimal}
use Rattle.std.specs.List.{All}
use Rattle.fkv_base.specs.declared.numbers.Serial.{Serial}
use Rattle.fkv_base.specs.declared.numbers.Version.{Version}
use Rattle.fkv_keeper.specs.declared.answers.Finished.{Finished}
use Rattle.fkv_thread_scripts.specs.declared.reports.Keys.{Keys}
use Rattle.fkv_thread_scripts.specs.declared.reports.Keys.TheVariants.{Agree, Differs}
use Rattle.fkv_thread_scripts.specs.declared.reports.Report.{Report}

-- whether nothing differs
abbrev pub keys_agree : Keys → Bool
keys_agree (Agree count) = true
keys_agree (Differs key) = false

abbrev pub agrees : Report → Bool
agrees report = if keys_agree report.keys then report.points_agree else false

-- The recovered commit is the last that a turn has told as finished, with its points. Where none was told, it is commit 0, and each point is 0.
abbrev pub IsLastFinished : Option Finished → Version → List Serial → Type 0
IsLastFinished (Some its) number points = (its.number ≡ number) × (its.points.items ≡ points)
IsLastFinished None number points = (number.0 ≡ 0) × All (λ point. point.0 ≡ 0) points

-- a text as a line, with its end
abbrev pub ended : List ℕ → List ℕ
ended text = text ++ 10 ∷ []

abbrev pub points_text : Bool → List ℕ
points_text true = ended (codes "points agree")
points_text false = ended (codes "points differ")

abbrev pub keys_text : Keys → List ℕ
keys_text (Agree count) = ended (codes "keys agree " ++ decimal count)
keys_text (Differs key) = ended (codes "key " ++ (decimal key.0 ++ codes " differs"))

-- `commit 3`, `points agree`, `keys agree 4`
abbrev pub threads_report_text : Report → List ℕ
threads_report_text report = ended (codes "commit " ++ decimal report.number.0) ++ (points_text report.points_agree ++ keys_text report.keys)
