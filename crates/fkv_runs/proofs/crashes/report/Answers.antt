use Rattle.std.proofs.Common.{◌≡◌, sym, ap, ◌∙◌, ℕ, List, Bool, Vec, Global, Option}
use Rattle.fkv_map.specs.History.{kept}
use Rattle.fkv_map.specs.declared.history.HistoryEntry.{HistoryEntry}
use Rattle.fkv_runs.proofs.Reported.{reported_checked, reported_unchecked}
use Rattle.fkv_runs.specs.Crashes.{IsReplay}
use Rattle.fkv_runs.proofs.crashes.report.Goals as goal
use Rattle.fkv_runs.proofs.crashes.report.Goals.{then-settings+in_ok-after+in_ok-agrees+in_ok-write_check, else-settings}

pub returns : goal.returns
returns g c =
    let points = c.as_slice-points.result.now in
    let shown = c.as_slice.result.now in
    let before : Option (List ℕ) = g.W.Write.contents c.args.output.now in
    let mid : Option (List ℕ) = g.W.Write.contents c.write_report.new.output in
    let behind : Option (List ℕ) = g.W.Write.contents c.if-settings.output in
    let its_kept = λ (its : Vec HistoryEntry Global × Bool). let list : List HistoryEntry = its.0.items in list in
    let its_agrees = λ (its : Vec HistoryEntry Global × Bool). let bit : Bool = its.1 in bit in
    elim c.if-settings.branch [
      | then-settings+in_ok-after+in_ok-agrees+in_ok-write_check w ↦
          let are_kept : w.in_ok-after.after.items ≡ kept c.args.history.now points = rw w.in_ok-after.ensures at w.kept.ensures.kept in
          let replay : IsReplay w.in_ok-after.after.items c.args.its.pairs.items w.in_ok-agrees.agrees = rw (w.deref.ensures.value, w.deref-then-settings.ensures.value) at w.in_ok-agrees.ensures in
          let replayed : IsReplay c.if-settings.after.0.items c.args.its.pairs.items w.in_ok-agrees.agrees = rw w.after-is replay in
          let checked = rw (sym w.output-is) at w.in_ok-write_check.ensures in
          reported_checked c.args.settings.checks c.args.its.opened c.args.its.device c.args.history.now c.if-settings.after.0.items c.args.its.pairs.items shown points c.in_ok-player.player
          c.if-settings.after.1 w.in_ok-agrees.agrees before mid behind w.if-settings.true c.as_slice-points.ensures.value c.as_slice.ensures.value
          (ap its_kept w.after-is ∙ are_kept) (ap its_agrees w.after-is) c.in_ok-player.ensures replayed c.in_ok-write_report.ensures checked
      | else-settings w ↦
          let written = rw (sym w.output-is) at c.in_ok-write_report.ensures in
          reported_unchecked c.args.settings.checks c.args.its.opened c.args.its.device c.args.history.now c.if-settings.after.0.items c.args.its.pairs.items shown points c.in_ok-player.player
          c.if-settings.after.1 before behind w.if-settings.false c.as_slice-points.ensures.value c.as_slice.ensures.value
          (ap its_kept w.after-is ∙ w.new.ensures.items) (ap its_agrees w.after-is) c.in_ok-player.ensures written
    ]
