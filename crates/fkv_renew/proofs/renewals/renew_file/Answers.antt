use Rattle.std.proofs.Common.{List, ℕ, subst}
use Rattle.std.proofs.lemmas.Result.{IfErr-weaker, IfOk-weaker}
use Rattle.fkv_renew.specs.Files.{files_of}
use Rattle.fkv_renew.proofs.Renewing.{refused_so}
use Rattle.fkv_renew.proofs.renewals.renew_file.Goals as goal

pub returns-clause-ok : goal.returns-clause-ok
returns-clause-ok g c =
    IfOk-weaker c.renew_store.result _ _
    (λ saved h. record {
      wanted = c.in-Ok.wanted;
      sized = c.in-Ok.ensures.ok;
      old = c.in-Ok-open_alone.found.0;
      new = h.0;
      opened = c.in-Ok-open_alone.ensures.opened;
      named = subst (λ (z : g.row.S.Denot × List ℕ). g.S.StorePlaces.is_named z.0 z.1 h.0) (λ i. (c.new-place.ensures.places i, c.new-place.ensures.name i)) h.2;
      renews = h.3;
    }) c.renew_store.ensures.ok

pub returns-clause-err : goal.returns-clause-err
returns-clause-err g c =
    let files = files_of g.S.Disk.Device.honest g.S.Disk.Device.seen g.S.Disk.Device.may_leave (g.S.StorePlaces.is_opened c.args.places.now) (g.S.StorePlaces.is_named c.args.places.now) in
    IfErr-weaker c.renew_store.result _ _ (λ its why. refused_so files c.args.asked c.in-Ok.wanted c.in-Ok-open_alone.found.0 its c.in-Ok.ensures.ok c.in-Ok-open_alone.ensures.opened why) c.renew_store.ensures.err
