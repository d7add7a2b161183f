-- The report of a recovered store, and what a check says of it.
use Rattle.std.specs.Prelude.{ℕ, List, ◌++◌, codes, length, Bool, true, false}
use Rattle.std.specs.List.{flat_map}
use Rattle.std.specs.Fmt.{decimal}
use Rattle.fkv_base.specs.declared.numbers.Key.{Key}
use Rattle.fkv_base.specs.declared.numbers.Serial.{Serial}
use Rattle.fkv_base.specs.declared.numbers.Value.{Value}
use Rattle.fkv_base.specs.declared.numbers.Version.{Version}
use Rattle.fkv_texts.specs.declared.reports.Opening.{Opening}
use Rattle.fkv_texts.specs.declared.reports.Opening.TheVariants.{Crash, Open}
use Rattle.fkv_texts.specs.Lines.{line_of, points_text}

-- the word that says why a store was recovered
abbrev pub opening_name : Opening → List ℕ
opening_name Crash = codes "crash"
opening_name Open = codes "open"

-- `crash commit 1 points 2 3 pairs 4`
abbrev pub report_line : Opening → Version → List Serial → ℕ → List ℕ
report_line opening number points count =
    line_of (opening_name opening ++ codes " commit " ++ decimal number.0 ++ codes " points" ++ points_text points ++ codes " pairs " ++ decimal count)

-- `pair 7 10`
abbrev pub pair_line : Key × Value → List ℕ
pair_line pair = line_of (codes "pair " ++ decimal pair.0.0 ++ codes " " ++ decimal pair.1.0)

-- the recovered commit, and its pairs in the order in which they are given
abbrev pub report_text : Opening → Version → List Serial → List (Key × Value) → List ℕ
report_text opening number points pairs = report_line opening number points (length pairs) ++ flat_map pair_line pairs

-- whether the recovered pairs are those of a replay
abbrev pub check_text : Bool → List ℕ
check_text true = line_of (codes "check recovered equals replay")
check_text false = line_of (codes "check recovered differs")
