use Rattle.std.proofs.Common.{◌≡◌, ◌∙◌, Bool, false, refl, ap, ap₂, codes}
use Rattle.std.proofs.lemmas.Result.{IfOk-weaker}
use Rattle.clap.specs.Simple.{with_rule}
use Rattle.clap.specs.Walk.{rule_of}
use Rattle.clap.specs.declared.builder.arg.Arg.{Arg}
use Rattle.fkv_renew.specs.Asked.{sizes_rule, spread_rule, word_rule}
use Rattle.fkv_renew.proofs.CommandLine.{settings_are, sizes_rule_is, spread_rule_is, word_rule_is}
use Rattle.fkv_renew.proofs.words.command_of.Goals as goal

abbrev is_global : Arg → Bool
is_global a = a.global

pub returns : goal.returns
returns c =
    let bare = settings_are c.new-6.result c.no_binary_name.result c.disable_help_flag.result c.new-6.ensures.app c.no_binary_name.ensures c.disable_help_flag.ensures in
    let old : rule_of c.required-old.result ≡ word_rule (codes "OLD") = word_rule_is (codes "OLD") c.new.result c.required-old.result c.new.ensures.rule c.required-old.ensures in
    let old_local : c.required-old.result.global ≡ false = ap is_global c.required-old.ensures ∙ c.new.ensures.optional.1 in
    let new : rule_of c.required-new.result ≡ word_rule (codes "NEW") = word_rule_is (codes "NEW") c.new-2.result c.required-new.result c.new-2.ensures.rule c.required-new.ensures in
    let new_local : c.required-new.result.global ≡ false = ap is_global c.required-new.ensures ∙ c.new-2.ensures.optional.1 in
    let small = c.value_parser-shape.ensures in
    let shape : rule_of c.value_parser-shape.result ≡ sizes_rule (codes "shape") =
    sizes_rule_is (codes "shape") c.new-3.result c.long.result c.num_args.result c.value_parser-shape.result _ small.given.0 c.new-3.ensures.rule c.long.ensures refl c.num_args.ensures.0 c.num_args.ensures.1 small.others small.given.1
    (small.given.2 ∙ c.value_parser.ensures) in
    let shape_local : c.value_parser-shape.result.global ≡ false = ap is_global small.others ∙ ap is_global c.num_args.ensures.0 ∙ ap is_global c.long.ensures ∙ c.new-3.ensures.optional.1 in
    let wide = c.value_parser-large.ensures in
    let large : rule_of c.value_parser-large.result ≡ sizes_rule (codes "large") =
    sizes_rule_is (codes "large") c.new-4.result c.long-2.result c.num_args-2.result c.value_parser-large.result _ wide.given.0 c.new-4.ensures.rule c.long-2.ensures refl c.num_args-2.ensures.0 c.num_args-2.ensures.1 wide.others wide.given.1
    (wide.given.2 ∙ c.value_parser-2.ensures) in
    let large_local : c.value_parser-large.result.global ≡ false = ap is_global wide.others ∙ ap is_global c.num_args-2.ensures.0 ∙ ap is_global c.long-2.ensures ∙ c.new-4.ensures.optional.1 in
    let spread : rule_of c.action-spread.result ≡ spread_rule = spread_rule_is c.new-5.result c.long-3.result c.action-spread.result _ c.new-5.ensures.rule c.long-3.ensures refl c.action-spread.ensures in
    let spread_local : c.action-spread.result.global ≡ false = ap is_global c.action-spread.ensures ∙ ap is_global c.long-3.ensures ∙ c.new-5.ensures.optional.1 in
    let one = c.in_ok-arg.ensures.shape old_local ∙ ap₂ with_rule bare old in
    let two = c.in_ok-arg-2.ensures.shape new_local ∙ ap₂ with_rule one new in
    let three = c.in_ok-arg-3.ensures.shape shape_local ∙ ap₂ with_rule two shape in
    let four = c.in_ok-arg-4.ensures.shape large_local ∙ ap₂ with_rule three large in
    IfOk-weaker c.arg-5.result _ _ (λ command added. added.shape spread_local ∙ ap₂ with_rule four spread) c.arg-5.ensures
