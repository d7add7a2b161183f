use Rattle.std.proofs.Common.{◌≡◌, ◌∙◌, Bool, false, Some, refl, ap, ap₂, codes}
use Rattle.std.proofs.lemmas.Result.{IfOk-weaker}
use Rattle.clap.specs.Simple.{with_rule}
use Rattle.clap.specs.Walk.{Rule, rule_of}
use Rattle.clap.specs.declared.builder.action.ArgAction.TheVariants.{SetTrue}
use Rattle.clap.specs.declared.builder.arg.Arg.{Arg}
use Rattle.fkv_options.specs.Threads.{threads_rule}
use Rattle.fkv_options.proofs.CommandLine.{long_rule_is}
use Rattle.fkv_options.proofs.threads.threads_command_of.Goals as goal

abbrev is_global : Arg → Bool
is_global a = a.global

pub returns : goal.returns
returns c =
    let named = long_rule_is (codes "threads") c.new.result c.long.result _ c.new.ensures.rule c.long.ensures refl in
    let threads : rule_of c.action-threads.result ≡ threads_rule = ap rule_of c.action-threads.ensures ∙ ap (λ (r : Rule). record r { action = Some SetTrue }) named in
    let is_local : c.action-threads.result.global ≡ false = ap is_global c.action-threads.ensures ∙ ap is_global c.long.ensures ∙ c.new.ensures.optional.1 in
    IfOk-weaker c.arg.result _ _ (λ command added. added.shape is_local ∙ ap₂ with_rule c.in_ok-command_of.ensures threads) c.arg.ensures
