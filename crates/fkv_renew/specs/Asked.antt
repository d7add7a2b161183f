-- What the words after the program's name ask for.
use Rattle.std.specs.Prelude.{◌≡◌, ◌<◌, ◌^◌, ℕ, Bool, true, false, List, [], codes, length, Option, Some, None, IsSomeAnd, slice_get, Result, Ok, Err}
use Rattle.std.specs.Option.{option_map_or}
use Rattle.std.specs.Str.{bytes_eq}
use Rattle.std.specs.Str.Parse.{IsNumeral, digits_value, without_leading_plus}
use Rattle.clap.specs.Faults.{fault_of}
use Rattle.clap.specs.Simple.{App, Shape as CommandShape, matches_of, new_app, new_rule, on_top, with_rule}
use Rattle.clap.specs.Walk.{Row, Rule, Text, all_of, first_of, one_of}
use Rattle.clap.specs.declared.builder.action.ArgAction.TheVariants.{SetTrue}
use Rattle.clap.specs.declared.builder.value_parser.ValueParser.TheVariants as vp
use Rattle.fkv_base.specs.declared.classes.StoreClass.{StoreClass}
use Rattle.fkv_base.specs.declared.classes.StoreClass.TheVariants.{Specified, Living}
use Rattle.fkv_lines.specs.declared.scripts.Sizes.{Sizes}
use Rattle.fkv_spread.specs.declared.keys.Keys.{Keys}
use Rattle.fkv_spread.specs.declared.keys.Keys.TheVariants.{AsTheyAre, Spread}
use Rattle.fkv_renew.specs.declared.words.Asked.{Asked}
use Rattle.fkv_renew.specs.declared.words.WordFault.{WordFault}
use Rattle.fkv_renew.specs.declared.words.WordFault.TheVariants.{Memory}

-- ---- the command line in clap's terms

-- a word that has to be there, and that begins with no dash
abbrev pub word_rule : Text → Rule
word_rule name = record (new_rule name) { required = true }

-- `--NAME K P F M S O D`, where each is a whole number below 2^64
abbrev pub sizes_rule : Text → Rule
sizes_rule name = record (new_rule name) {
  long = Some name;
  range = Some (record { start_inclusive = 7; end_inclusive = 7 });
  parser = Some (vp.Unsigned 0 18446744073709551615);
}

-- the words begin behind the program's name, and no help is served
abbrev pub without_name_or_help : CommandShape → CommandShape
without_name_or_help s = record s { no_binary_name = true; disable_help_flag = true }

-- `--spread`
abbrev pub spread_rule : Rule
spread_rule = record (new_rule (codes "spread")) { long = Some (codes "spread"); action = Some SetTrue }

-- `OLD NEW [--shape ..] [--large ..] [--spread]`
abbrev pub command_line : App
command_line =
    let bare = on_top without_name_or_help (new_app (codes "fkv_renew")) in
    let files = with_rule (with_rule bare (word_rule (codes "OLD"))) (word_rule (codes "NEW")) in
    with_rule (with_rule (with_rule files (sizes_rule (codes "shape"))) (sizes_rule (codes "large"))) spread_rule

-- clap's matches of the words
abbrev pub matches : List Text → List Row
matches words = matches_of command_line words

-- ---- sizes

-- A text spells a number below 2^64 in decimal digits, which a plus may lead.
abbrev pub Spells : Text → ℕ → Type 0
Spells text number = (IsNumeral 10 (without_leading_plus text) × (digits_value 10 (without_leading_plus text) < 2 ^ 64)) × (number ≡ digits_value 10 (without_leading_plus text))

abbrev pub IsSpelledAt : List Text → ℕ → ℕ → Type 0
IsSpelledAt words place number = (text : Text) × (slice_get words place ≡ Some text) × Spells text number

-- Seven words spell sizes, for a store of this class.
pub record AreSizesOf (class : StoreClass) (words : List Text) (sizes : Sizes) : Type 0 where
  pub its_class : sizes.class ≡ class
  pub seven : length words ≡ 7
  pub bucket_bits : IsSpelledAt words 0 sizes.bucket_bits
  pub page : IsSpelledAt words 1 sizes.page
  pub frames : IsSpelledAt words 2 sizes.frames
  pub mutable : IsSpelledAt words 3 sizes.mutable
  pub sessions : IsSpelledAt words 4 sizes.sessions
  pub overflow : IsSpelledAt words 5 sizes.overflow
  pub disk_pages : IsSpelledAt words 6 sizes.disk_pages

-- the sizes that are asked for: those behind `--shape`, or those behind `--large`, which don't go together; or none
abbrev pub AreAskedSizes : Option (List Text) → Option (List Text) → Option Sizes → Type 0
AreAskedSizes None None sizes = sizes ≡ None
AreAskedSizes (Some words) None sizes = IsSomeAnd sizes (AreSizesOf Specified words)
AreAskedSizes None (Some words) sizes = IsSomeAnd sizes (AreSizesOf Living words)
AreAskedSizes (Some small) (Some large) sizes = ⊥

-- ---- keys

-- whether clap's matches of the words hold `true` for the flag
abbrev pub spread_in : List Text → Bool
spread_in words = option_map_or (λ text. bytes_eq text (codes "true")) (one_of (codes "spread") (matches words)) false

-- keys are spread where the flag is there, and otherwise lie as they are
abbrev pub keys_by : Bool → Keys
keys_by true = Spread
keys_by false = AsTheyAre

-- ---- answers

-- The words ask for this: clap accepts them, and what they ask for is its matches of them.
pub record AskFor (words : List Text) (asked : Asked) : Type 0 where
  pub accepted : fault_of command_line words ≡ []
  pub old : first_of (codes "OLD") (matches words) ≡ Some asked.old.now
  pub new : first_of (codes "NEW") (matches words) ≡ Some asked.new.now
  pub sizes : AreAskedSizes (all_of (codes "shape") (matches words)) (all_of (codes "large") (matches words)) asked.sizes
  pub keys : asked.keys ≡ keys_by (spread_in words)

-- they ask for nothing that the program does
abbrev pub AreRefusedWords : List Text → Type 0
AreRefusedWords words = (asked : Asked) → AskFor words asked → ⊥

-- what the words ask for; or they are refused, or memory was
abbrev pub TellsAsked : List Text → Result Asked WordFault → Type 0
TellsAsked words (Ok asked) = AskFor words asked
TellsAsked words (Err Memory) = Unit {0}
TellsAsked words (Err other) = AreRefusedWords words
