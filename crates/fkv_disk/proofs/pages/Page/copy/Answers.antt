use Rattle.std.proofs.Common.{◌≡◌, ◌-◌, length, take, drop, rules, ◌∙◌}
use Rattle.fkv_disk.proofs.Paged.{part_of, keeps_all}
use Rattle.fkv_disk.proofs.pages.Page.copy.Goals as goal

pub returns : goal.returns
returns c = λ seen page.
    let kept = c.args.self.now in
    let n = length c.args.into.now in
    let all = keeps_all kept.kept kept.at c.args.at n (length kept.bytes.items) c.requires in
    let copied : c.copy_from_slice.new.self ≡ take n (drop (c.args.at - kept.at) kept.bytes.items) = search rules in
    copied ∙ part_of seen kept.bytes.items kept.at c.args.at n (page all.0) all.1 all.2
