-- The program's command line, as clap's builders make it.
use Rattle.std.proofs.Common.{◌≡◌, ◌∙◌, true, codes, Option, Some, refl, ap, ap₂}
use Rattle.std.specs.Borrow.{Bor}
use Rattle.clap.specs.Faults.{is_simple_and_free}
use Rattle.clap.specs.Simple.{app_of, app_of_fields, is_simple, new_app, new_rule, on_top}
use Rattle.clap.specs.Walk.{Rule, Text, rule_of}
use Rattle.clap.proofs.OnLiterals.{clap_on_literals}
use Rattle.clap.specs.declared.builder.arg.Arg.{Arg}
use Rattle.clap.specs.declared.builder.command.Command.{Command}
use Rattle.clap.specs.declared.builder.command.Command.TheOpen.{Command-F}
use Rattle.clap.specs.declared.builder.command.Command.TheViews.{out-Command}
use Rattle.clap.specs.declared.builder.value_parser.ValueParser.{ValueParser}
use Rattle.fkv_options.specs.CommandLine.{command_line, long_rule, value_rule, without_name_or_help}
use Rattle.fkv_options.specs.Threads.{threads_line}

-- an argument with a long name, from its builders
pub long_rule_is : (name : Text) (new named : Arg) (long : Bor Text) → rule_of new ≡ new_rule name → named ≡ record new { long = Some long } → long.now ≡ name → rule_of named ≡ long_rule name
long_rule_is name new named long plain others is = ap rule_of others ∙ ap₂ (λ (r : Rule) (t : Text). record r { long = Some t }) plain is

-- and a value
pub value_rule_is : (name : Text) (named parsed : Arg) (given wanted : ValueParser) → rule_of named ≡ long_rule name → parsed ≡ record named { value_parser = parsed.value_parser }
    → parsed.value_parser ≡ Some given → given ≡ wanted → rule_of parsed ≡ value_rule name wanted
value_rule_is name named parsed given wanted plain others parser is =
    ap rule_of others ∙ ap₂ (λ (r : Rule) (p : Option ValueParser). record r { parser = p }) plain (parser ∙ ap Some is)

-- the command before its options
pub settings_are : (new unnamed helpless : Command) → app_of new ≡ new_app (codes "fkv")
    → out-Command unnamed ≡ record (out-Command new) { no_binary_name = true }
    → out-Command helpless ≡ record (out-Command unnamed) { disable_help_flag = true }
    → app_of helpless ≡ on_top without_name_or_help (new_app (codes "fkv"))
settings_are new unnamed helpless plain name help =
    ap app_of_fields (help ∙ ap (λ (f : Command-F Command). record f { disable_help_flag = true }) name) ∙ ap (on_top without_name_or_help) plain

pub simple : is_simple command_line ≡ true
unfolding clap_on_literals
simple = refl

pub simple_and_free : is_simple_and_free command_line ≡ true
unfolding clap_on_literals
simple_and_free = refl

-- and with `--threads`
pub threads_simple : is_simple threads_line ≡ true
unfolding clap_on_literals
threads_simple = refl

pub threads_simple_and_free : is_simple_and_free threads_line ≡ true
unfolding clap_on_literals
threads_simple_and_free = refl
