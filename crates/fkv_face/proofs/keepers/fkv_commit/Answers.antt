-- The commit was refused.
use Rattle.std.proofs.Common.{Err, refl}
use Rattle.fkv_face.proofs.Results.{told_fault}
use Rattle.fkv_face.proofs.keepers.fkv_commit.Goals as goal

pub returns-in-Err : goal.returns-in-Err
returns-in-Err c = record { begun = Err c.in-Err.why; asked = c.in-Err.ensures; told = (told_fault c.in-Err.why c.refused.result c.refused.ensures, refl) }
