use Rattle.std.proofs.Common.{ℕ, List, true, ◌∙◌, ap, ◌∷◌, ◌≡◌, rules}
use Rattle.fkv_disk.specs.Calls.{Write}
use Rattle.fkv_disk.specs.Done.{calls_of}
use Rattle.fkv_disk.specs.declared.memory.DoneCall.TheVariants.{Wrote}
use Rattle.fkv_disk.proofs.Recorded.{calls_of-push}
use Rattle.fkv_disk.proofs.memory.put_and_record.Goals as goal

pub returns-clause-calls : goal.returns-clause-calls
returns-clause-calls c =
    let copied : c.in_ok-to_vec.field-0.items ≡ c.args.new.now = search rules in
    ap calls_of c.in_ok-push.ensures.items
    ∙ calls_of-push c.args.done.now.items (Wrote c.args.at c.in_ok-to_vec.field-0)
    ∙ ap (λ (bytes : List ℕ). Write c.args.at bytes true ∷ calls_of c.args.done.now.items) copied
