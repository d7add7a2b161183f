-- What the words after the program's name ask for: clap's matches of them, option by option.
use Rattle.std.specs.Prelude.{◌≡◌, ◌⊎◌, ◌^◌, ◌&&◌, ℕ, Bool, false, List, codes, if◌then◌else◌, nat_lt, Option, Some, None, option_and_then, option_map, unwrap_or, Result, Ok, Err, string_bytes}
use Rattle.std.specs.Option.{option_map_or}
use Rattle.std.specs.Str.{bytes_eq}
use Rattle.std.specs.Str.Parse.{digits_value, without_leading_plus}
use Rattle.clap.specs.Values.{kind_of}
use Rattle.clap.specs.ValueTests.{is_numeral}
use Rattle.clap.specs.Walk.{Text, first_of, one_of}
use Rattle.clap.specs.declared.error.Error.{Error}
use Rattle.clap.specs.declared.error.kind.ErrorKind.TheVariants as kind
use Rattle.fkv_options.specs.CommandLine.{AreAccepted, matches}
use Rattle.fkv_options.specs.RunFault.{IsWant, IsOptionsFault}
use Rattle.fkv_options.specs.declared.endings.RunFault.{RunFault}
use Rattle.fkv_options.specs.declared.options.Options.{Options}

-- the number below a bound that a text spells in decimal digits, which a plus may lead
abbrev pub number_below : ℕ → Text → Option ℕ
number_below bound text =
    let digits = without_leading_plus text in
    if is_numeral digits && nat_lt (digits_value 10 digits) bound then Some (digits_value 10 digits) else None

-- the number that clap's matches of the words hold for `seed`, if they hold one
abbrev pub seed_in : List Text → Option ℕ
seed_in words = option_and_then (number_below (2 ^ 64)) (one_of (codes "seed") (matches words))

-- whether clap's matches of the words hold `true` for the flag `check`
abbrev pub check_in : List Text → Bool
check_in words = option_map_or (λ text. bytes_eq text (codes "true")) (one_of (codes "check") (matches words)) false

-- the byte that clap's matches of the words hold for `torn`; 0 where they hold none
abbrev pub torn_in : List Text → ℕ
torn_in words = unwrap_or (option_and_then (number_below 256) (one_of (codes "torn") (matches words))) 0

-- the text that clap's matches of the words hold for `file`, if they hold one
abbrev pub file_in : List Text → Option Text
file_in words = first_of (codes "file") (matches words)

-- the options are clap's matches of words that it accepts
pub record AreMatchesOf (words : List Text) (options : Options) : Type 0 where
  pub accepted : AreAccepted words
  pub seed : options.seed ≡ seed_in words
  pub check : options.check ≡ check_in words
  pub torn : options.torn ≡ torn_in words
  pub file : option_map string_bytes options.file ≡ file_in words

-- ---- answers

-- the parse gave clap's matches of the words; or it failed, for want of memory, or since clap refuses the words
abbrev pub Parses : List Text → Result Options Error → Type 0
Parses words (Ok options) = AreMatchesOf words options
Parses words (Err error) = (kind_of error ≡ kind.OutOfMemory) ⊎ (¬ (AreAccepted words))

-- the options are clap's matches of the words; or memory was refused, or clap refuses the words
abbrev pub TellsMatches : List Text → Result Options RunFault → Type 0
TellsMatches words (Ok options) = AreMatchesOf words options
TellsMatches words (Err fault) = IsWant fault ⊎ ((¬ (AreAccepted words)) × IsOptionsFault fault)
