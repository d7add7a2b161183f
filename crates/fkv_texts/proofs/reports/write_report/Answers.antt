use Rattle.std.proofs.lemmas.Result.{on_ok_weaker}
use Rattle.fkv_texts.proofs.Appending.{appends_both}
use Rattle.fkv_texts.proofs.reports.write_report.Goals as goal

pub returns : goal.returns
returns g c = on_ok_weaker c.write_pairs.result (λ written. appends_both _ _ _ _ _ c.in_ok-write_report_line.ensures written) c.write_pairs.ensures
