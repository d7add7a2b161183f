use Rattle.std.proofs.Common.{◌+◌, ◌-◌, length, drop, arith}
use Rattle.std.proofs.lemmas.List.{length-drop}
use Rattle.fkv_lines.proofs.LineEnds.{lines_of-ended, lines_of-whole}
use Rattle.fkv_lines.proofs.Arguments.{take_all}
use Rattle.fkv_lines.proofs.reading.words.first_line.Goals as goal

pub returns-in-Some-clause-parts : goal.returns-in-Some-clause-parts
returns-in-Some-clause-parts c =
    let bytes = c.args.bytes.now in
    let end = c.in-Some.end in
    rw (take_all (drop (end + 1) bytes) (length bytes - (end + 1)) (omega (arith, length-drop (end + 1) bytes)))
    (lines_of-ended bytes end (cc))

pub returns-in-None-clause-parts : goal.returns-in-None-clause-parts
returns-in-None-clause-parts c = lines_of-whole c.args.bytes.now c.requires (cc)
