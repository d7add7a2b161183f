-- The shape has the class and the sizes that were asked for; where there is none, no store has them.
use Rattle.fkv_base.specs.declared.classes.StoreClass.TheVariants.{Specified, Living}
use Rattle.fkv_threading.proofs.Refused.{no_living, no_specified}
use Rattle.fkv_threading.proofs.Written.{sized}
use Rattle.fkv_threading.proofs.programs.shape_of.Goals as goal

pub returns-in-Specified-clause-ok : goal.returns-in-Specified-clause-ok
returns-in-Specified-clause-ok c =
    let its = c.new.ensures in
    sized c.args.sizes c.new.result Specified c.in-Specified.is its.class its.bucket_bits its.page its.frames its.mutable its.sessions its.overflow its.disk_pages

pub returns-in-Specified-clause-err : goal.returns-in-Specified-clause-err
returns-in-Specified-clause-err c = no_specified c.args.sizes c.new.result c.in-Specified.is c.new.ensures.accepted c.new.ensures.refused

pub returns-in-Living-clause-ok : goal.returns-in-Living-clause-ok
returns-in-Living-clause-ok c =
    let its = c.large.ensures in
    sized c.args.sizes c.large.result Living c.in-Living.is its.class its.bucket_bits its.page its.frames its.mutable its.sessions its.overflow its.disk_pages

pub returns-in-Living-clause-err : goal.returns-in-Living-clause-err
returns-in-Living-clause-err c = no_living c.args.sizes c.large.result c.large.ensures.accepted c.large.ensures.refused
