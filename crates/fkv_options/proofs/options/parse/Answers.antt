use Rattle.std.proofs.Common.{◌≡◌, ◌∙◌, ◌^◌, ℕ, Option, ap, sym, codes}
use Rattle.std.specs.Prelude.{unwrap_or}
use Rattle.std.specs.Str.Parse.{ExplainsUnsignedError, HasUnsignedDigitsIfOk, ParsesBool, ParsesUnsigned}
use Rattle.clap.specs.Faults.{fault_of, is_simple_and_free}
use Rattle.clap.specs.Matches.{first_value, found_of, one_text}
use Rattle.clap.specs.Simple.{App, is_simple, matches_of}
use Rattle.clap.specs.Walk.{Text, first_of, one_of, rows_of, texts}
use Rattle.clap.proofs.WalkLemmas.{first_value-rows, one_text-rows}
use Rattle.fkv_options.specs.CommandLine.{AreAccepted, matches}
use Rattle.fkv_options.specs.Options.{file_in, number_below, seed_in}
use Rattle.fkv_options.proofs.CommandLine.{simple, simple_and_free}
use Rattle.fkv_options.proofs.Values.{flag_read, number_read, option_flag_read, option_read}
use Rattle.fkv_options.proofs.options.parse.Goals as goal

pub returns : goal.returns
returns c =
    let words = texts c.args.words.now in
    let command = c.in_ok-command.ensures in
    let found = found_of c.in_ok-matches.matches in
    let faultless = c.in_ok-matches.ensures.kinds (ap is_simple_and_free command ∙ simple_and_free) in
    let accepted : AreAccepted words = ap (λ (a : App). fault_of a words) (sym command) ∙ faultless in
    let met = c.in_ok-matches.ensures.matches (ap is_simple command ∙ simple) in
    let rows : rows_of found ≡ matches words = met.0 ∙ ap (λ (a : App). matches_of a words) command in
    let text_of : (id : Text) → one_text found id ≡ one_of id (matches words) = λ id. one_text-rows found id ∙ ap (one_of id) rows in
    let seed : c.get_one.result ≡ seed_in words = option_read (number_below (2 ^ 64)) (one_of (codes "seed") (matches words)) c.get_one.result
    (λ e. c.get_one.ensures.none (text_of (codes "seed") ∙ e))
    (λ t e. number_read 64 (λ u r. ParsesUnsigned 64 10 u r × ExplainsUnsignedError 10 u r × HasUnsignedDigitsIfOk u r) t c.get_one.result (c.get_one.ensures.value t (text_of (codes "seed") ∙ e)) (λ u r g. g.0)) in
    let flag = option_flag_read (one_of (codes "check") (matches words)) c.get_one-2.result
    (λ e. c.get_one-2.ensures.none (text_of (codes "check") ∙ e))
    (λ t e. flag_read ParsesBool t c.get_one-2.result (c.get_one-2.ensures.value t (text_of (codes "check") ∙ e)) (λ u r g. g)) in
    let byte = option_read (number_below 256) (one_of (codes "torn") (matches words)) c.get_one-3.result
    (λ e. c.get_one-3.ensures.none (text_of (codes "torn") ∙ e))
    (λ t e. number_read 8 (λ u r. ParsesUnsigned 8 10 u r × ExplainsUnsignedError 10 u r × HasUnsignedDigitsIfOk u r) t c.get_one-3.result (c.get_one-3.ensures.value t (text_of (codes "torn") ∙ e)) (λ u r g. g.0)) in
    let path : first_value found (codes "file") ≡ file_in words = first_value-rows found (codes "file") ∙ ap (first_of (codes "file")) rows in
    record {
      accepted = accepted;
      seed = seed;
      check = c.unwrap_or.ensures ∙ flag;
      torn = c.unwrap_or-2.ensures ∙ ap (λ (o : Option ℕ). unwrap_or o 0) byte;
      file = c.in_ok-owned.ensures ∙ c.get_str.ensures ∙ path;
    }
