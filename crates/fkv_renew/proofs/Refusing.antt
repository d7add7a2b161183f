-- What the words ask for, and words that ask for nothing.
use Rattle.std.proofs.Common.{◌≡◌, ◌∙◌, inl, inr, List, [], true, IfSome, Option, Some, None, Err, false, refl, sym, ap, subst, codes, option_map}
use Rattle.std.specs.Option.{option_map_or}
use Rattle.std.specs.Str.{bytes_eq}
use Rattle.clap.specs.Faults.{fault_of, is_simple_and_free}
use Rattle.clap.specs.Kinds.{HasKind, IsAmong, Kinds}
use Rattle.clap.specs.Matches.{first_value, found_of, matched_of, one_text, raw_values}
use Rattle.clap.specs.Simple.{App, HasMatchesOf, is_simple, matches_of}
use Rattle.clap.specs.Values.{kind_of}
use Rattle.clap.specs.Walk.{Text, all_of, first_of, one_of, rows_of}
use Rattle.clap.proofs.WalkLemmas.{first_value-rows, one_text-rows, raw_values-rows}
use Rattle.clap.specs.declared.error.Error.{Error}
use Rattle.clap.specs.declared.error.kind.ErrorKind.TheVariants as kind
use Rattle.clap.specs.declared.parser.matches.ArgMatches.{ArgMatches}
use Rattle.fkv_lines.specs.declared.scripts.Sizes.{Sizes}
use Rattle.fkv_renew.specs.Asked.{AreAskedSizes, AreRefusedWords, AskFor, TellsAsked, command_line, keys_by, matches}
use Rattle.fkv_renew.specs.declared.words.Asked.{Asked}
use Rattle.fkv_renew.specs.declared.words.WordFault.{WordFault}
use Rattle.fkv_renew.specs.declared.words.WordFault.TheVariants.{Memory}
use Rattle.fkv_renew.proofs.CommandLine.{simple, simple_and_free}

pub tells_refused : (words : List Text) (fault : WordFault) → AreRefusedWords words → TellsAsked words (Err fault)
tells_refused words Memory never = tt
tells_refused words fault never = never

-- clap has refused them, for want of memory or for a fault
pub parse_refused : (words : List Text) (error : Error) (fault : WordFault) → HasKind (fault_of command_line words) error → (kind_of error ≡ kind.OutOfMemory → fault ≡ Memory) → TellsAsked words (Err fault)
parse_refused words error fault (inl memory) is = subst (λ (f : WordFault). TellsAsked words (Err f)) (sym (is memory)) tt
parse_refused words error fault (inr other) is = tells_refused words fault (λ asked h. subst (λ (kinds : Kinds). IsAmong (kind_of error) kinds) h.accepted other)

-- words of which this is told are refused, where memory wasn't
pub tells_back : (words : List Text) (fault : WordFault) → TellsAsked words (Err fault) → (fault ≡ Memory → ⊥) → AreRefusedWords words
tells_back words Memory told other = absurd (other refl)
tells_back words fault told other = told

-- what the matches of the words give
module _ (words : List Text) (app : App) (m : ArgMatches) (is : app ≡ command_line) (met : HasMatchesOf app words m) where
  rows : rows_of (found_of m) ≡ matches words
  rows = (met (ap is_simple is ∙ simple)).0 ∙ ap (λ (a : App). matches_of a words) is

  first : (id : Text) → first_value (found_of m) id ≡ first_of id (matches words)
  first id = first_value-rows (found_of m) id ∙ ap (first_of id) rows

  all : (id : Text) → option_map raw_values (matched_of (found_of m) id) ≡ all_of id (matches words)
  all id = raw_values-rows (found_of m) id ∙ ap (all_of id) rows

  -- they ask for what is read of them
  pub asks_so : (asked : Asked) (small large : Option (List Text)) → (is_simple_and_free app ≡ true → fault_of app words ≡ []) → Some asked.old.now ≡ first_value (found_of m) (codes "OLD")
      → Some asked.new.now ≡ first_value (found_of m) (codes "NEW") → small ≡ option_map raw_values (matched_of (found_of m) (codes "shape")) → large ≡ option_map raw_values (matched_of (found_of m) (codes "large"))
      → AreAskedSizes small large asked.sizes → asked.keys ≡ keys_by (option_map_or (λ text. bytes_eq text (codes "true")) (one_text (found_of m) (codes "spread")) false) → AskFor words asked
  asks_so asked small large free old new small_is large_is sizes keys = record {
    accepted = ap (λ (a : App). fault_of a words) (sym is) ∙ free (ap is_simple_and_free is ∙ simple_and_free);
    old = sym (old ∙ first (codes "OLD"));
    new = sym (new ∙ first (codes "NEW"));
    sizes = subst (λ (its : Option (List Text)). AreAskedSizes its (all_of (codes "large") (matches words)) asked.sizes) (small_is ∙ all (codes "shape"))
        (subst (λ (its : Option (List Text)). AreAskedSizes small its asked.sizes) (large_is ∙ all (codes "large")) sizes);
    keys = keys ∙ ap (λ (o : Option Text). keys_by (option_map_or (λ text. bytes_eq text (codes "true")) o false)) (one_text-rows (found_of m) (codes "spread") ∙ ap (one_of (codes "spread")) rows);
  }

  -- the sizes behind them are none
  pub sizes_refused : (small large : Option (List Text)) (fault : WordFault) → small ≡ option_map raw_values (matched_of (found_of m) (codes "shape")) → large ≡ option_map raw_values (matched_of (found_of m) (codes "large"))
      → ((sizes : Option Sizes) → AreAskedSizes small large sizes → ⊥) → TellsAsked words (Err fault)
  sizes_refused small large fault small_is large_is never =
      tells_refused words fault (λ asked h. never asked.sizes
      (subst (λ (its : Option (List Text)). AreAskedSizes its large asked.sizes) (sym (small_is ∙ all (codes "shape")))
      (subst (λ (its : Option (List Text)). AreAskedSizes (all_of (codes "shape") (matches words)) its asked.sizes) (sym (large_is ∙ all (codes "large"))) h.sizes)))

  -- a file isn't named
  pub file_refused : (fault : WordFault) (id : Text) → None ≡ first_value (found_of m) id → ((asked : Asked) → AskFor words asked → (text : Text) × (first_of id (matches words) ≡ Some text)) → TellsAsked words (Err fault)
  file_refused fault id none named = tells_refused words fault (λ asked h. let its = named asked h in subst (λ (o : Option Text). IfSome o (λ x. ⊥)) (none ∙ first id ∙ its.1) tt)
