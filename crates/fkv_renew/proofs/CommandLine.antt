-- The program's command line, as clap's builders make it.
use Rattle.std.proofs.Common.{◌≡◌, ◌∙◌, true, codes, Option, Some, None, refl, ap, ap₂}
use Rattle.std.specs.Prelude.{IsSomeAnd}
use Rattle.std.specs.Borrow.{Bor}
use Rattle.clap.specs.Faults.{is_simple_and_free}
use Rattle.clap.specs.Simple.{app_of, app_of_fields, is_simple, new_app, new_rule, on_top}
use Rattle.clap.specs.Walk.{Rule, Text, rule_of}
use Rattle.clap.proofs.OnLiterals.{clap_on_literals}
use Rattle.clap.specs.declared.builder.action.ArgAction.TheVariants.{SetTrue}
use Rattle.clap.specs.declared.builder.arg.Arg.{Arg}
use Rattle.clap.specs.declared.builder.command.Command.{Command}
use Rattle.clap.specs.declared.builder.command.Command.TheOpen.{Command-F}
use Rattle.clap.specs.declared.builder.command.Command.TheViews.{out-Command}
use Rattle.clap.specs.declared.builder.range.ValueRange.{ValueRange}
use Rattle.clap.specs.declared.builder.value_parser.ValueParser.{ValueParser}
use Rattle.clap.specs.declared.builder.value_parser.ValueParser.TheVariants as vp
use Rattle.fkv_renew.specs.Asked.{command_line, sizes_rule, spread_rule, without_name_or_help, word_rule}

-- a word that has to be there, from its builders
pub word_rule_is : (name : Text) (new needed : Arg) → rule_of new ≡ new_rule name → needed ≡ record new { required = true } → rule_of needed ≡ word_rule name
word_rule_is name new needed plain others = ap rule_of others ∙ ap (λ (r : Rule). record r { required = true }) plain

some_is : {X : Type 0} (o : Option X) (x : X) → IsSomeAnd o (λ y. y ≡ x) → o ≡ Some x
some_is None x h = absurd h
some_is (Some y) x h = ap Some h

abbrev seven : ValueRange
seven = record { start_inclusive = 7; end_inclusive = 7 }

-- and seven numbers
pub sizes_rule_is : (name : Text) (new named ranged parsed : Arg) (long : Bor Text) (given : ValueParser) → rule_of new ≡ new_rule name → named ≡ record new { long = Some long } → long.now ≡ name
    → ranged ≡ record named { num_vals = ranged.num_vals } → IsSomeAnd ranged.num_vals (λ range. range ≡ seven) → parsed ≡ record ranged { value_parser = parsed.value_parser } → parsed.value_parser ≡ Some given
    → given ≡ vp.Unsigned 0 18446744073709551615 → rule_of parsed ≡ sizes_rule name
sizes_rule_is name new named ranged parsed long given plain long_is text range_is range parser_is parser numbers =
    let with_name = ap rule_of long_is ∙ ap₂ (λ (r : Rule) (t : Text). record r { long = Some t }) plain text in
    let with_range = ap rule_of range_is ∙ ap₂ (λ (r : Rule) (o : Option ValueRange). record r { range = o }) with_name (some_is ranged.num_vals seven range) in
    ap rule_of parser_is ∙ ap₂ (λ (r : Rule) (p : Option ValueParser). record r { parser = p }) with_range (parser ∙ ap Some numbers)

-- a flag
pub spread_rule_is : (new named flag : Arg) (long : Bor Text) → rule_of new ≡ new_rule (codes "spread") → named ≡ record new { long = Some long } → long.now ≡ codes "spread" → flag ≡ record named { action = Some SetTrue }
    → rule_of flag ≡ spread_rule
spread_rule_is new named flag long plain long_is text acts =
    let with_name = ap rule_of long_is ∙ ap₂ (λ (r : Rule) (t : Text). record r { long = Some t }) plain text in
    ap rule_of acts ∙ ap (λ (r : Rule). record r { action = Some SetTrue }) with_name

-- the command before its arguments
pub settings_are : (new unnamed helpless : Command) → app_of new ≡ new_app (codes "fkv_renew")
    → out-Command unnamed ≡ record (out-Command new) { no_binary_name = true }
    → out-Command helpless ≡ record (out-Command unnamed) { disable_help_flag = true }
    → app_of helpless ≡ on_top without_name_or_help (new_app (codes "fkv_renew"))
settings_are new unnamed helpless plain name help =
    ap app_of_fields (help ∙ ap (λ (f : Command-F Command). record f { disable_help_flag = true }) name) ∙ ap (on_top without_name_or_help) plain

pub simple : is_simple command_line ≡ true
unfolding clap_on_literals
simple = refl

pub simple_and_free : is_simple_and_free command_line ≡ true
unfolding clap_on_literals
simple_and_free = refl
