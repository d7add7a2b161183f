-- The command line in clap's terms: its arguments, the words that it accepts, and clap's matches of them.
use Rattle.std.specs.Prelude.{◌≡◌, true, List, [], codes, Some, pos}
use Rattle.clap.specs.Faults.{fault_of}
use Rattle.clap.specs.Simple.{App, Shape, matches_of, new_app, new_rule, on_top, with_rule}
use Rattle.clap.specs.Walk.{Row, Rule, Text}
use Rattle.clap.specs.declared.builder.action.ArgAction.TheVariants.{SetTrue}
use Rattle.clap.specs.declared.builder.value_parser.ValueParser.{ValueParser}
use Rattle.clap.specs.declared.builder.value_parser.ValueParser.TheVariants as vp

-- an argument `--NAME`
abbrev pub long_rule : Text → Rule
long_rule name = record (new_rule name) { long = Some name }

-- `--NAME VALUE`, where the value passes this parser
abbrev pub value_rule : Text → ValueParser → Rule
value_rule name parser = record (long_rule name) { parser = Some parser }

-- `--seed N`, where N is a whole number below 2^64
abbrev pub seed_rule : Rule
seed_rule = value_rule (codes "seed") (vp.Unsigned 0 18446744073709551615)

-- `--check`
abbrev pub check_rule : Rule
check_rule = record (long_rule (codes "check")) { action = Some SetTrue }

-- `--torn B`, where B is a whole number from 0 to 255
abbrev pub torn_rule : Rule
torn_rule = value_rule (codes "torn") (vp.Signed (pos 0) (pos 255))

-- `--file PATH`, where PATH is any text
abbrev pub file_rule : Rule
file_rule = long_rule (codes "file")

-- the words begin behind the program's name, and no help is served
abbrev pub without_name_or_help : Shape → Shape
without_name_or_help s = record s { no_binary_name = true; disable_help_flag = true }

-- the whole command line
abbrev pub command_line : App
command_line =
    let bare = on_top without_name_or_help (new_app (codes "fkv")) in
    with_rule (with_rule (with_rule (with_rule bare seed_rule) check_rule) torn_rule) file_rule

-- clap finds no fault in the words
abbrev pub AreAccepted : List Text → Type 0
AreAccepted words = fault_of command_line words ≡ []

-- clap's matches of the words
abbrev pub matches : List Text → List Row
matches words = matches_of command_line words
