use Rattle.std.proofs.Common.{◌≡◌, Ok, Err, MatchResult, rules}
use Rattle.fkv_base.specs.declared.faults.ScriptFault.TheVariants.{Number}
use Rattle.fkv_lines.proofs.Numerals.{digits_are_text, number_of-parsed}
use Rattle.fkv_lines.proofs.reading.numbers.number_of.Goals as goal

pub returns-in_default : goal.returns-in_default
returns-in_default c = absurd (c.in_default.ensures.cases.0 (digits_are_text c.args.word.now (cc)))

pub returns : goal.returns
returns c =
    let parsed = rw c.in-Ok.ensures.cases.0 at c.parse.ensures.value.0 in
    let told : MatchResult c.parse.result (λ n. c.map_err.result ≡ Ok n) (λ _. c.map_err.result ≡ Err Number) = search rules in
    number_of-parsed c.args.word.now c.parse.result c.map_err.result (cc) parsed told
