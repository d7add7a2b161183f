use Rattle.std.proofs.KnownBytes.{Appends-trans}
use Rattle.std.proofs.lemmas.Result.{on_ok_weaker}
use Rattle.fkv_renew.proofs.saved.write_saved.Goals as goal

pub returns : goal.returns
returns g c =
    let first = c.in_ok-writeln.ensures.bytes in
    let second = Appends-trans _ _ _ _ _ first c.in_ok-write_change.ensures in
    let third = Appends-trans _ _ _ _ _ second c.in_ok-write_change-2.ensures in
    on_ok_weaker c.write_change-3.result (λ last. Appends-trans _ _ _ _ _ third last) c.write_change-3.ensures
