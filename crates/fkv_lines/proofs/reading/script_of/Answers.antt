use Rattle.std.proofs.Common.{◌≡◌, ◌+◌, Ok, Err, [], length, eqb-true, arith}
use Rattle.std.proofs.lemmas.Result.{err_from_is_err_and}
use Rattle.fkv_lines.specs.Words.{lines_of, words_of}
use Rattle.fkv_lines.specs.Lines.{opening_line, later_line}
use Rattle.fkv_lines.specs.Script.{script_of}
use Rattle.fkv_lines.proofs.LineEnds.{lines_of-nil}
use Rattle.fkv_lines.proofs.LineByLine.{begins, in_number, at_line-err, at_line-ok, oversized_line, skipped_line, faulty_opening, read_opening, faulty_later, read_later, last_line}
use Rattle.fkv_lines.proofs.reading.script_of.Goals as goal
use Rattle.fkv_lines.proofs.reading.script_of.Goals.{in-None+in_ok-at_line-in-None, in-Some+in_ok-at_line-in-Some+in_ok-push-in-Some}

pub loop-rest-init : goal.loop-rest-init
loop-rest-init c = (omega arith, begins c.args.mode c.new.result.items c.args.bytes.now c.new.ensures.items)

pub returns-then-is_oversized : goal.returns-then-is_oversized
returns-then-is_oversized c =
    let so_far = rw c.first_line.ensures.parts at c.loop-rest.invariant.1 in
    oversized_line c.args.mode c.loop-rest.script.opening c.loop-rest.script.lines.items (c.loop-rest.number + 1) c.first_line.result.0.now _ _ (cc) so_far

pub loop-rest-preserved-then-says_nothing : goal.loop-rest-preserved-then-says_nothing
loop-rest-preserved-then-says_nothing c =
    let so_far = rw c.first_line.ensures.parts at c.loop-rest.invariant.1 in (
      in_number (c.loop-rest.number + 1) c.first_line.result.0.now (cc),
      skipped_line c.args.mode c.loop-rest.script.opening c.loop-rest.script.lines.items (c.loop-rest.number + 1) c.first_line.result.0.now _ _ (cc) (cc) so_far,
    )

pub returns-in_err-at_line-in-None : goal.returns-in_err-at_line-in-None
returns-in_err-at_line-in-None c =
    let so_far = rw (c.first_line.ensures.parts, c.in-None.is) at c.loop-rest.invariant.1 in
    let p = err_from_is_err_and c.from_residual-in_err-at_line-in-None.result c.from_residual-in_err-at_line-in-None.ensures.1 in
    let f = at_line-err (c.loop-rest.number + 1) c.opening_line.result c.in_err-at_line-in-None.field-0.0 c.in_err-at_line-in-None.ensures in
    let read : opening_line c.args.mode (words_of c.first_line.result.0.now) ≡ Err f.0 = cc (f.1, c.in_ok-words.ensures) in
    rw (p.1, p.2, f.2) (faulty_opening c.args.mode c.loop-rest.script.lines.items (c.loop-rest.number + 1) c.first_line.result.0.now _ f.0 _ (cc) (cc) read so_far)

pub returns-in_err-at_line-in-Some : goal.returns-in_err-at_line-in-Some
returns-in_err-at_line-in-Some c =
    let so_far = rw (c.first_line.ensures.parts, c.in-Some.is) at c.loop-rest.invariant.1 in
    let p = err_from_is_err_and c.from_residual-in_err-at_line-in-Some.result c.from_residual-in_err-at_line-in-Some.ensures.1 in
    let f = at_line-err (c.loop-rest.number + 1) c.later_line.result c.in_err-at_line-in-Some.field-0.0 c.in_err-at_line-in-Some.ensures in
    let read : later_line c.args.mode c.in-Some.opening (words_of c.first_line.result.0.now) ≡ Err f.0 = cc (f.1, c.in_ok-words.ensures) in
    rw (p.1, p.2, f.2) (faulty_later c.args.mode c.in-Some.opening c.loop-rest.script.lines.items (c.loop-rest.number + 1) c.first_line.result.0.now _ f.0 _ (cc) (cc) read so_far)

pub loop-rest-preserved : goal.loop-rest-preserved
loop-rest-preserved c = (
  in_number (c.loop-rest.number + 1) c.first_line.result.0.now (cc),
  elim c.match-script.branch [
    | in-None+in_ok-at_line-in-None w ↦
        let so_far = rw (c.first_line.ensures.parts, w.in-None.is) at c.loop-rest.invariant.1 in
        let said = at_line-ok (c.loop-rest.number + 1) w.opening_line.result w.in_ok-at_line-in-None.field-0 w.in_ok-at_line-in-None.ensures in
        let read : opening_line c.args.mode (words_of c.first_line.result.0.now) ≡ Ok w.in_ok-at_line-in-None.field-0 = cc (said, c.in_ok-words.ensures) in
        rw w.script-is (read_opening c.args.mode c.loop-rest.script.lines.items (c.loop-rest.number + 1) c.first_line.result.0.now _ w.in_ok-at_line-in-None.field-0 _ (cc) (cc) read so_far)
    | in-Some+in_ok-at_line-in-Some+in_ok-push-in-Some w ↦
        let so_far = rw (c.first_line.ensures.parts, w.in-Some.is) at c.loop-rest.invariant.1 in
        let said = at_line-ok (c.loop-rest.number + 1) w.later_line.result w.in_ok-at_line-in-Some.field-0 w.in_ok-at_line-in-Some.ensures in
        let read : later_line c.args.mode w.in-Some.opening (words_of c.first_line.result.0.now) ≡ Ok w.in_ok-at_line-in-Some.field-0 = cc (said, c.in_ok-words.ensures) in
        rw (w.script-is, w.in-Some.is, w.in_ok-push-in-Some.ensures.items) (read_later c.args.mode w.in-Some.opening c.loop-rest.script.lines.items (c.loop-rest.number + 1) c.first_line.result.0.now _ w.in_ok-at_line-in-Some.field-0 _ (cc) (cc) read so_far)
  ],
)

pub returns : goal.returns
returns c =
    let nothing : lines_of c.loop-rest.rest.now ≡ [] = lines_of-nil c.loop-rest.rest.now (eqb-true (length c.loop-rest.rest.now) 0 (cc)) in
    let so_far = rw nothing at c.loop-rest.invariant.1 in
    last_line c.args.mode c.loop-rest.script.opening c.loop-rest.script.lines.items (c.loop-rest.number + 1) (script_of c.args.mode c.args.bytes.now) so_far
