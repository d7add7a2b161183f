-- Which words ask for threads.
use Rattle.std.specs.Prelude.{◌≡◌, ◌⊎◌, ◌^◌, ℕ, Bool, true, false, List, [], codes, Option, Some, None, option_and_then, option_map, is_some, Result, Ok, Err, string_bytes}
use Rattle.std.specs.Option.{option_map_or}
use Rattle.std.specs.Str.{bytes_eq}
use Rattle.clap.specs.Faults.{fault_of}
use Rattle.clap.specs.Simple.{App, matches_of, with_rule}
use Rattle.clap.specs.Values.{kind_of}
use Rattle.clap.specs.Walk.{Row, Rule, Text, first_of, one_of}
use Rattle.clap.specs.declared.builder.action.ArgAction.TheVariants.{SetTrue}
use Rattle.clap.specs.declared.error.Error.{Error}
use Rattle.clap.specs.declared.error.kind.ErrorKind.TheVariants as kind
use Rattle.fkv_options.specs.CommandLine.{command_line, long_rule}
use Rattle.fkv_options.specs.Options.{number_below}
use Rattle.fkv_options.specs.declared.threads.Asked.{Asked}
use Rattle.fkv_options.specs.declared.threads.Asked.TheVariants.{NoThreads, SeedAndThreads, Threads}

-- `--threads`
abbrev pub threads_rule : Rule
threads_rule = record (long_rule (codes "threads")) { action = Some SetTrue }

-- the command line with it
abbrev pub threads_line : App
threads_line = with_rule command_line threads_rule

-- clap's matches of the words
abbrev pub threads_matches : List Text → List Row
threads_matches words = matches_of threads_line words

-- whether they hold `true` for the flag `threads`
abbrev pub flag_in : List Text → Bool
flag_in words = option_map_or (λ text. bytes_eq text (codes "true")) (one_of (codes "threads") (threads_matches words)) false

-- the number that they hold for `seed`, if they hold one
abbrev pub seed_beside : List Text → Option ℕ
seed_beside words = option_and_then (number_below (2 ^ 64)) (one_of (codes "seed") (threads_matches words))

-- the text that they hold for `file`, if they hold one
abbrev pub file_beside : List Text → Option Text
file_beside words = first_of (codes "file") (threads_matches words)

-- clap finds no fault in the words, and the flag is set
pub record AskForThreads (words : List Text) : Type 0 where
  pub accepted : fault_of threads_line words ≡ []
  pub flag : flag_in words ≡ true

abbrev pub IsAsked : List Text → Asked → Type 0
IsAsked words NoThreads = ¬ (AskForThreads words)
IsAsked words SeedAndThreads = AskForThreads words × (is_some (seed_beside words) ≡ true)
IsAsked words (Threads file) = AskForThreads words × (seed_beside words ≡ None) × (option_map string_bytes file ≡ file_beside words)

-- or the parse failed, for want of memory, or since clap refuses the words
abbrev pub IsAskedOrRefused : List Text → Result Asked Error → Type 0
IsAskedOrRefused words (Ok asked) = IsAsked words asked
IsAskedOrRefused words (Err error) = (kind_of error ≡ kind.OutOfMemory) ⊎ (¬ (fault_of threads_line words ≡ []))
