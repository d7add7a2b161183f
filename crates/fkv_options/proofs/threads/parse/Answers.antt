use Rattle.std.proofs.Common.{◌≡◌, ◌∙◌, ◌^◌, ℕ, Bool, true, false, Option, Some, None, refl, ap, sym, codes, true≢false}
use Rattle.std.specs.Prelude.{is_some, option_map, string_bytes}
use Rattle.std.specs.Str.Parse.{ExplainsUnsignedError, HasUnsignedDigitsIfOk, ParsesBool, ParsesUnsigned}
use Rattle.clap.specs.Faults.{fault_of, is_simple_and_free}
use Rattle.clap.specs.Matches.{first_value, found_of, one_text}
use Rattle.clap.specs.Simple.{App, is_simple, matches_of}
use Rattle.clap.specs.Walk.{Text, first_of, one_of, rows_of, texts}
use Rattle.clap.proofs.WalkLemmas.{first_value-rows, one_text-rows}
use Rattle.fkv_options.specs.Options.{number_below}
use Rattle.fkv_options.specs.Threads.{file_beside, flag_in, seed_beside, threads_line, threads_matches}
use Rattle.fkv_options.proofs.CommandLine.{threads_simple, threads_simple_and_free}
use Rattle.fkv_options.proofs.Flags.{asked_so}
use Rattle.fkv_options.proofs.Values.{flag_read, number_read, option_flag_read, option_read}
use Rattle.fkv_options.proofs.threads.parse.Goals as goal

pub returns : goal.returns
returns c =
    let words = texts c.args.words.now in
    let command = c.in_ok-command.ensures in
    let found = found_of c.in_ok-matches.matches in
    let faultless = c.in_ok-matches.ensures.kinds (ap is_simple_and_free command ∙ threads_simple_and_free) in
    let accepted = ap (λ (a : App). fault_of a words) (sym command) ∙ faultless in
    let met = c.in_ok-matches.ensures.matches (ap is_simple command ∙ threads_simple) in
    let rows : rows_of found ≡ threads_matches words = met.0 ∙ ap (λ (a : App). matches_of a words) command in
    let text_of : (id : Text) → one_text found id ≡ one_of id (threads_matches words) = λ id. one_text-rows found id ∙ ap (one_of id) rows in
    let flag = option_flag_read (one_of (codes "threads") (threads_matches words)) c.get_one.result
    (λ e. c.get_one.ensures.none (text_of (codes "threads") ∙ e))
    (λ t e. flag_read ParsesBool t c.get_one.result (c.get_one.ensures.value t (text_of (codes "threads") ∙ e)) (λ u r g. g)) in
    let seed : c.get_one-seed.result ≡ seed_beside words = option_read (number_below (2 ^ 64)) (one_of (codes "seed") (threads_matches words)) c.get_one-seed.result
    (λ e. c.get_one-seed.ensures.none (text_of (codes "seed") ∙ e))
    (λ t e. number_read 64 (λ u r. ParsesUnsigned 64 10 u r × ExplainsUnsignedError 10 u r × HasUnsignedDigitsIfOk u r) t c.get_one-seed.result (c.get_one-seed.ensures.value t (text_of (codes "seed") ∙ e)) (λ u r g. g.0)) in
    let path : first_value found (codes "file") ≡ file_beside words = first_value-rows found (codes "file") ∙ ap (first_of (codes "file")) rows in
    asked_so words c.unwrap_or-threads.result c.get_one-seed.result c.in_ok-file.file c.asked_by.result accepted (c.unwrap_or-threads.ensures ∙ flag) seed (c.in_ok-file.ensures ∙ c.get_str.ensures ∙ path)
    c.asked_by.ensures.none c.asked_by.ensures.seed c.asked_by.ensures.threads
