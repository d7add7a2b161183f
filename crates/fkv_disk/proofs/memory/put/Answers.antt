use Rattle.std.proofs.Common.{◌≡◌, ℕ, ◌+◌, ◌-◌, ◌<◌, ◌++◌, length, rules, ap, ◌∙◌}
use Rattle.fkv_disk.proofs.Spliced.{zeros, put_is_written, nothing_written, put_back, length-spliced}
use Rattle.fkv_disk.proofs.memory.put.Goals as goal

pub returns-then-is_empty-clause-ok : goal.returns-then-is_empty-clause-ok
returns-then-is_empty-clause-ok c = nothing_written c.args.bytes.now.items c.args.at c.args.new.now (search rules)

pub returns-clause-ok : goal.returns-clause-ok
returns-clause-ok c =
    let old = c.args.bytes.now.items in
    let new = c.args.new.now in
    let room = c.deref_mut.result.now in
    let some : 0 < length new = search rules in
    let is : room ≡ old ++ zeros ((c.args.at + length new) - length old) = c.deref_mut.ensures.value ∙ c.in_ok-grow.ensures.ok ∙ ap (λ (end : ℕ). old ++ zeros (end - length old)) (let e : c.saturating_add-end.result ≡ c.args.at + length new = search rules in e) in
    let put = put_is_written old room c.args.at new is some in
    let size : length c.overwrite.new.bytes ≡ length room = ap length c.overwrite.ensures ∙ length-spliced room c.args.at new put.0 in
    let whole : length c.grow.new.bytes.items ≡ c.grow.new.bytes.len = search rules in
    put_back c.overwrite.new.bytes c.grow.new.bytes.items c.grow.new.bytes.len (size ∙ ap length c.deref_mut.ensures.value) whole ∙ c.overwrite.ensures ∙ put.1
