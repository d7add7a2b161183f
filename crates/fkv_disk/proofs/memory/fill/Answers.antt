use Rattle.std.proofs.Common.{◌≡◌, length, rules, ap, ◌∙◌}
use Rattle.std.proofs.lemmas.List.{take_rest}
use Rattle.fkv_disk.proofs.Spliced.{zeros, zeros_size, fill_is_read, zeros_past}
use Rattle.fkv_disk.proofs.memory.fill.Goals as goal

pub returns-then-at-bytes : goal.returns-then-at-bytes
returns-then-at-bytes c =
    let size = length c.args.into.now in
    let blank : c.fill.new.self ≡ zeros size = search rules in
    let rest = take_rest c.args.bytes.now c.args.at in
    let same : length c.fill.new.self ≡ size = ap length blank ∙ zeros_size size in
    (rw rest at c.overwrite.ensures) ∙ fill_is_read c.args.bytes.now c.args.at size c.min-count.result c.fill.new.self blank c.if-at-bytes.true (rw (rest, same) at c.min-count.ensures)

pub returns-else-at-bytes : goal.returns-else-at-bytes
returns-else-at-bytes c =
    let blank : c.fill.new.self ≡ zeros (length c.args.into.now) = search rules in
    zeros_past c.args.bytes.now c.args.at (length c.args.into.now) c.fill.new.self blank c.if-at-bytes.false
