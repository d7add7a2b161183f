-- What the lines are made of.
use Rattle.std.specs.Prelude.{ℕ, List, [], ◌∷◌, ◌++◌, codes, Option, Some, None}
use Rattle.std.specs.List.{flat_map}
use Rattle.std.specs.Fmt.{decimal}
use Rattle.fkv_base.specs.declared.numbers.Key.{Key}
use Rattle.fkv_base.specs.declared.numbers.Serial.{Serial}
use Rattle.fkv_base.specs.declared.numbers.Version.{Version}
use Rattle.fkv_base.specs.declared.phases.Phase.{Phase}
use Rattle.fkv_base.specs.Phase.{phase_name}
use Rattle.fkv_map.specs.declared.operations.Reply.{Reply}
use Rattle.fkv_map.specs.declared.operations.Reply.TheVariants.{Nothing, Number, Found, Absent}

-- a text as a line, with its end
abbrev pub line_of : List ℕ → List ℕ
line_of text = text ++ 10 ∷ []

-- a line of a session: `0`, and behind it what is said
abbrev pub session_line : ℕ → List ℕ → List ℕ
session_line session text = line_of (decimal session ++ codes " " ++ text)

-- a line of the keeper: `k`, and behind it what is said
abbrev pub keeper_line : List ℕ → List ℕ
keeper_line text = line_of (codes "k " ++ text)

-- ` 7`: a word that is a number, with the blank before it
abbrev pub number_word : ℕ → List ℕ
number_word number = codes " " ++ decimal number

-- ` 7` of a key that is known; a line whose key nobody knows has no word for it
abbrev pub key_word : Option Key → List ℕ
key_word (Some key) = number_word key.0
key_word None = []

-- ` done`, ` = 10` or ` absent`: what an operation replied
abbrev pub reply_text : Reply → List ℕ
reply_text Nothing = codes " done"
reply_text (Number value) = codes " = " ++ decimal value.0
reply_text (Found value) = codes " = " ++ decimal value.0
reply_text Absent = codes " absent"

-- ` rest 1`: a phase and a version
abbrev pub phase_text : Phase → Version → List ℕ
phase_text phase version = codes " " ++ phase_name phase ++ number_word version.0

-- ` 7 9`: keys
abbrev pub key_text : Key → List ℕ
key_text key = number_word key.0

abbrev pub keys_text : List Key → List ℕ
keys_text keys = flat_map key_text keys

-- ` 2 3`: the points of a commit, session by session
abbrev pub point_text : Serial → List ℕ
point_text point = number_word point.0

abbrev pub points_text : List Serial → List ℕ
points_text points = flat_map point_text points
