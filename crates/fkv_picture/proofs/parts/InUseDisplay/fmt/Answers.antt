use Rattle.std.proofs.Common.{◌≡◌, ℕ, List, ◌++◌, codes, append_assoc}
use Rattle.std.specs.Fmt.{decimal}
use Rattle.fkv_picture.specs.Parts.{in_use_words}
use Rattle.fkv_picture.proofs.parts.InUseDisplay.fmt.Goals as goal

grouped : (pages all : List ℕ) → pages ++ codes " of " ++ all ++ codes " pages in use" ≡ pages ++ (codes " of " ++ (all ++ codes " pages in use"))
grouped pages all = simp append_assoc

is : (pages all : ℕ) → in_use_words pages all ≡ decimal pages ++ (codes " of " ++ (decimal all ++ codes " pages in use"))
unfolding in_use_words
is pages all = grouped (decimal pages) (decimal all)

pub returns-clause-writes : goal.returns-clause-writes
returns-clause-writes g c = let e = is c.args.self.now.used c.args.self.now.on_device in rw e c.write.ensures.writes
