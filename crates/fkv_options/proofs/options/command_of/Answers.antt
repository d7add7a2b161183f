use Rattle.std.proofs.Common.{◌≡◌, ◌∙◌, Bool, false, Some, refl, ap, ap₂, codes}
use Rattle.std.specs.Prelude.{pos}
use Rattle.std.proofs.lemmas.Result.{IfOk-weaker}
use Rattle.clap.specs.Simple.{with_rule}
use Rattle.clap.specs.Walk.{Rule, rule_of}
use Rattle.clap.specs.declared.builder.action.ArgAction.TheVariants.{SetTrue}
use Rattle.clap.specs.declared.builder.arg.Arg.{Arg}
use Rattle.clap.specs.declared.builder.value_parser.ValueParser.TheVariants as vp
use Rattle.fkv_options.specs.CommandLine.{check_rule, file_rule, seed_rule, torn_rule}
use Rattle.fkv_options.proofs.CommandLine.{long_rule_is, settings_are, value_rule_is}
use Rattle.fkv_options.proofs.options.command_of.Goals as goal

abbrev is_global : Arg → Bool
is_global a = a.global

pub returns : goal.returns
returns c =
    let bare = settings_are c.new-5.result c.no_binary_name.result c.disable_help_flag.result c.new-5.ensures.app c.no_binary_name.ensures c.disable_help_flag.ensures in
    let number = c.value_parser-seed.ensures in
    let seed_named = long_rule_is (codes "seed") c.new.result c.long.result _ c.new.ensures.rule c.long.ensures refl in
    let seed : rule_of c.value_parser-seed.result ≡ seed_rule =
    value_rule_is (codes "seed") c.long.result c.value_parser-seed.result number.given.0 (vp.Unsigned 0 18446744073709551615) seed_named number.others number.given.1 (number.given.2 ∙ c.value_parser.ensures) in
    let seed_local : c.value_parser-seed.result.global ≡ false = ap is_global number.others ∙ ap is_global c.long.ensures ∙ c.new.ensures.optional.1 in
    let check_named = long_rule_is (codes "check") c.new-2.result c.long-2.result _ c.new-2.ensures.rule c.long-2.ensures refl in
    let check : rule_of c.action-check.result ≡ check_rule = ap rule_of c.action-check.ensures ∙ ap (λ (r : Rule). record r { action = Some SetTrue }) check_named in
    let check_local : c.action-check.result.global ≡ false = ap is_global c.action-check.ensures ∙ ap is_global c.long-2.ensures ∙ c.new-2.ensures.optional.1 in
    let byte = c.value_parser-torn.ensures in
    let torn_named = long_rule_is (codes "torn") c.new-3.result c.long-3.result _ c.new-3.ensures.rule c.long-3.ensures refl in
    let torn : rule_of c.value_parser-torn.result ≡ torn_rule =
    value_rule_is (codes "torn") c.long-3.result c.value_parser-torn.result byte.given.0 (vp.Signed (pos 0) (pos 255)) torn_named byte.others byte.given.1 (byte.given.2 ∙ c.value_parser-2.ensures) in
    let torn_local : c.value_parser-torn.result.global ≡ false = ap is_global byte.others ∙ ap is_global c.long-3.ensures ∙ c.new-3.ensures.optional.1 in
    let file : rule_of c.long-file.result ≡ file_rule = long_rule_is (codes "file") c.new-4.result c.long-file.result _ c.new-4.ensures.rule c.long-file.ensures refl in
    let file_local : c.long-file.result.global ≡ false = ap is_global c.long-file.ensures ∙ c.new-4.ensures.optional.1 in
    let one = c.in_ok-arg.ensures.shape seed_local ∙ ap₂ with_rule bare seed in
    let two = c.in_ok-arg-2.ensures.shape check_local ∙ ap₂ with_rule one check in
    let three = c.in_ok-arg-3.ensures.shape torn_local ∙ ap₂ with_rule two torn in
    IfOk-weaker c.arg-4.result _ _ (λ command added. added.shape file_local ∙ ap₂ with_rule three file) c.arg-4.ensures
