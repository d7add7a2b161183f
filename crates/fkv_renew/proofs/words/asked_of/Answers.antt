use Rattle.std.proofs.Common.{◌∙◌, Bor, List, Option, ap, codes, option_map, sym, ℕ}
use Rattle.clap.specs.Matches.{found_of, one_text}
use Rattle.clap.specs.Walk.{texts}
use Rattle.fkv_renew.specs.Asked.{keys_by}
use Rattle.fkv_renew.proofs.Flags.{flag_in_matches}
use Rattle.fkv_renew.proofs.Refusing.{asks_so, file_refused, sizes_refused}
use Rattle.fkv_renew.specs.declared.words.WordFault.TheVariants.{Refused}
use Rattle.fkv_renew.proofs.words.asked_of.Goals as goal

abbrev text_of : Option (Bor (List ℕ)) → Option (List ℕ)
text_of word = option_map (λ w. w.now) word

pub returns-in_default : goal.returns-in_default
returns-in_default c =
    file_refused (texts c.args.words.now) _ c.in-Ok.matches c.in_ok-command.ensures c.in-Ok.ensures.matches Refused (codes "OLD") (ap text_of (sym c.in_default.is) ∙ c.get_str.ensures) (λ asked h. (asked.old.now, h.old))

pub returns-in_default-get_str : goal.returns-in_default-get_str
returns-in_default-get_str c =
    file_refused (texts c.args.words.now) _ c.in-Ok.matches c.in_ok-command.ensures c.in-Ok.ensures.matches Refused (codes "NEW") (ap text_of (sym c.in_default-get_str.is) ∙ c.get_str-2.ensures) (λ asked h. (asked.new.now, h.new))

pub returns-in-Ok-sizes_of : goal.returns-in-Ok-sizes_of
returns-in-Ok-sizes_of c =
    asks_so (texts c.args.words.now) _ c.in-Ok.matches c.in_ok-command.ensures c.in-Ok.ensures.matches (record { old = c.in-Some.old; new = c.in-Some-get_str.new; sizes = c.in-Ok-sizes_of.sizes; keys = c.keys_of-keys.result }) _ _ c.in-Ok.ensures.kinds
    (ap text_of (sym c.in-Some.is) ∙ c.get_str.ensures) (ap text_of (sym c.in-Some-get_str.is) ∙ c.get_str-2.ensures) c.get_strs.ensures c.get_strs-2.ensures c.in-Ok-sizes_of.ensures.ok
    (c.keys_of-keys.ensures ∙ ap keys_by (c.unwrap_or.ensures ∙ flag_in_matches _ (one_text (found_of c.in-Ok.matches) (codes "spread")) c.get_one.result c.get_one.ensures.none c.get_one.ensures.value))

pub returns : goal.returns
returns c =
    sizes_refused (texts c.args.words.now) _ c.in-Ok.matches c.in_ok-command.ensures c.in-Ok.ensures.matches _ _ c.in-Err-sizes_of.fault c.get_strs.ensures c.get_strs-2.ensures c.in-Err-sizes_of.ensures.err.1
