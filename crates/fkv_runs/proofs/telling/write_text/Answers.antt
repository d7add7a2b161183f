use Rattle.std.proofs.Common.{◌≤◌, ℕ, length, take, subst, sym}
use Rattle.std.specs.Io.KnownBytes.{Appends}
use Rattle.fkv_runs.proofs.Told.{appends_kept, first_kept, first_not_more, first_written, more_written}
use Rattle.fkv_runs.proofs.telling.write_text.Goals.{in-Ok, in-Err}
use Rattle.fkv_runs.proofs.telling.write_text.Goals as goal

pub returns-in-Ok-eq0-clause-part : goal.returns-in-Ok-eq0-clause-part
returns-in-Ok-eq0-clause-part g c =
    first_not_more c.args.text.now c.loop.at c.in-Ok-eq0.field-0 _ _ (g.W.Write.contents c.loop.output) _ c.loop.invariant.1 c.in-Ok-eq0.field-0-test (rw c.in-Ok-eq0.is at c.write.ensures.bytes)

pub returns-in-Err-2-clause-part : goal.returns-in-Err-2-clause-part
returns-in-Err-2-clause-part g c = first_kept c.args.text.now c.loop.at _ (g.W.Write.contents c.loop.output) _ c.loop.invariant.1 c.in-Err-2.ensures.bytes

pub loop-preserved : goal.loop-preserved
loop-preserved g c = elim c.match-write.branch [
  | in-Ok w ↦
      subst (λ (n : ℕ). (n ≤ length c.args.text.now) × Appends (g.W.Write.contents c.args.output.now) (g.W.Write.contents c.write.new.self) (take n c.args.text.now)) (sym w.at-is)
      (more_written c.args.text.now c.loop.at w.in-Ok.count _ (g.W.Write.contents c.loop.output) _ c.loop.invariant.0 w.in-Ok.ensures.bound c.loop.invariant.1 w.in-Ok.ensures.bytes)
  | in-Err w ↦
      subst (λ (n : ℕ). (n ≤ length c.args.text.now) × Appends (g.W.Write.contents c.args.output.now) (g.W.Write.contents c.write.new.self) (take n c.args.text.now)) (sym w.at-is)
      (c.loop.invariant.0, appends_kept _ (g.W.Write.contents c.loop.output) _ _ c.loop.invariant.1 w.in-Err.ensures.bytes)
]

pub returns-clause-part : goal.returns-clause-part
returns-clause-part g c = first_written c.args.text.now c.loop.at _ _ c.loop.invariant.1
