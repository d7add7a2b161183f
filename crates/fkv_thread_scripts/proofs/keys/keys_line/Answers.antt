-- What is noted of each key says whether it is compared.
use Rattle.fkv_thread_scripts.proofs.Compared.{line_of}
use Rattle.fkv_thread_scripts.proofs.keys.keys_line.Goals as goal

pub returns-clause-ok : goal.returns-clause-ok
returns-clause-ok c = line_of c.compare.result c.in_ok-claims.claims c.args.lines.now c.args.told c.args.stored c.in_ok-claims.ensures.ok c.compare.ensures.ordered c.compare.ensures.line
