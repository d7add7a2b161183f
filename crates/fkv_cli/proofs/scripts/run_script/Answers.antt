use Rattle.std.proofs.Common.{refl}
use Rattle.fkv_cli.proofs.Outputs.{new_breaks, opening_breaks, pieces_said, refuses_shape, runs_new, shape_breaks}
use Rattle.fkv_cli.proofs.scripts.run_script.Goals as goal

pub returns-in-Ok-clause-whole : goal.returns-in-Ok-clause-whole
returns-in-Ok-clause-whole g c =
    runs_new _ c.args.options.now c.args.script.now.opening c.in-Some.opening c.in-Shape.sizes c.in-Ok.shape c.args.script.now.lines.items c.deref-in-Ok.result.now _ _ c.run_new.result
    c.in-Some.is c.in-Shape.is c.in-Ok.ensures.sized
    (pieces_said _ _ _ _ _ _ c.is_some.ensures c.deref.ensures.value c.deref-in-Ok.ensures.value c.in_ok-pieces.ensures)
    c.run_new.ensures.whole

pub returns-in-Ok-clause-part : goal.returns-in-Ok-clause-part
returns-in-Ok-clause-part g c =
    new_breaks _ c.args.options.now c.args.script.now.opening c.in-Some.opening c.in-Shape.sizes c.in-Ok.shape c.args.script.now.lines.items c.deref-in-Ok.result.now _ _ c.run_new.result
    c.in-Some.is c.in-Shape.is c.in-Ok.ensures.sized
    (pieces_said _ _ _ _ _ _ c.is_some.ensures c.deref.ensures.value c.deref-in-Ok.ensures.value c.in_ok-pieces.ensures)
    c.run_new.ensures.part

pub returns-in-Err-clause-whole : goal.returns-in-Err-clause-whole
returns-in-Err-clause-whole g c =
    refuses_shape _ c.args.options.now c.args.script.now.opening c.in-Some.opening c.in-Shape.sizes c.in-Err.fault c.args.script.now.lines.items c.in_ok-pieces.pieces.items _ _ c.refuse.result
    c.in-Some.is c.in-Shape.is c.in-Err.ensures.refused.0 c.in-Err.ensures.refused.1
    (pieces_said _ _ _ _ _ _ c.is_some.ensures c.deref.ensures.value refl c.in_ok-pieces.ensures)
    c.refuse.ensures.text

pub returns-in-Err-clause-part : goal.returns-in-Err-clause-part
returns-in-Err-clause-part g c =
    shape_breaks _ c.args.options.now c.args.script.now.opening c.in-Some.opening c.in-Shape.sizes c.in-Err.fault c.args.script.now.lines.items c.in_ok-pieces.pieces.items _ _ c.refuse.result
    c.in-Some.is c.in-Shape.is c.in-Err.ensures.refused.0 c.in-Err.ensures.refused.1
    (pieces_said _ _ _ _ _ _ c.is_some.ensures c.deref.ensures.value refl c.in_ok-pieces.ensures)
    c.refuse.ensures.part

pub returns-in-Open-clause-part : goal.returns-in-Open-clause-part
returns-in-Open-clause-part g c =
    opening_breaks _ c.args.options.now c.args.script.now.opening c.in-Some.opening c.args.script.now.lines.items c.deref-in-Open.result.now _ _ c.run_old.result
    c.in-Some.is c.in-Open.is
    (pieces_said _ _ _ _ _ _ c.is_some.ensures c.deref.ensures.value c.deref-in-Open.ensures.value c.in_ok-pieces.ensures)
    c.run_old.ensures.part
