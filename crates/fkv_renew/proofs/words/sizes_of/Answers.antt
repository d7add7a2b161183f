use Rattle.std.proofs.Common.{ℕ, Bor, List, Option, ap, option_map, refl}
use Rattle.clap.specs.Walk.{Text, texts}
use Rattle.fkv_renew.proofs.Spelling.{none_large, none_small}
use Rattle.fkv_renew.proofs.words.sizes_of.Goals as goal

abbrev behind : Option (Bor (List (Bor (List ℕ)))) → Option (List Text)
behind option = option_map (λ s. texts s.now) option

pub returns-in-None-clause-err : goal.returns-in-None-clause-err
returns-in-None-clause-err c = (refl, none_large _ _ (texts c.in-None-Some.words.now) (ap behind c.in-None-Some.is-0) (ap behind c.in-None-Some.is-1) (c.in-None.ensures.none refl))

pub returns-in-None-read_sizes-clause-err : goal.returns-in-None-read_sizes-clause-err
returns-in-None-read_sizes-clause-err c = (refl, none_small _ _ (texts c.in-Some-None.words.now) (ap behind c.in-Some-None.is-0) (ap behind c.in-Some-None.is-1) (c.in-None-read_sizes.ensures.none refl))
