use Rattle.std.proofs.Common.{◌≡◌, ◌+◌, length, sym, ◌∙◌, ap, [], rules, arith}
use Rattle.fkv_disk.specs.Done.{calls_of}
use Rattle.fkv_disk.specs.Forgotten.{since_sync, synced_bytes}
use Rattle.fkv_disk.proofs.Recorded.{all_done}
use Rattle.fkv_disk.proofs.Replayed.{same_moment}
use Rattle.fkv_disk.proofs.Forgotten.{forgotten_reads, forgotten_bytes, forgotten_since}
use Rattle.fkv_disk.proofs.memory.MemDisk.forget_synced.Goals as goal

pub invariant_of-self-2-clause-is_replayed : goal.invariant_of-self-2-clause-is_replayed
invariant_of-self-2-clause-is_replayed c =
    let old = c.args.self.now in
    let opening : c.in_ok-opening.opening.items ≡ synced_bytes old.opening.items (calls_of old.done.items) = search rules in
    let calls : calls_of c.drop-drain.new.self.0.items ≡ since_sync (calls_of old.done.items) = search rules in
    rw (opening, calls) (old.is_replayed ∙ sym (forgotten_reads old.opening.items (calls_of old.done.items) [] (all_done old.done.items)))

pub returns-clause-crash : goal.returns-clause-crash
returns-clause-crash c =
    let old = c.args.self.now in
    let opening : c.in_ok-opening.opening.items ≡ synced_bytes old.opening.items (calls_of old.done.items) = search rules in
    let calls : calls_of c.drop-drain.new.self.0.items ≡ since_sync (calls_of old.done.items) = search rules in
    λ image. rw (opening, calls) (forgotten_bytes old.opening.items (calls_of old.done.items) image (all_done old.done.items))

pub returns-clause-moment : goal.returns-clause-moment
returns-clause-moment c =
    let old = c.args.self.now in
    same_moment old.done.items c.drop-drain.new.self.0.items old.forgotten c.in_ok-forgotten.forgotten c.synced_calls-synced.result (search rules) (search rules) (search rules)

pub returns-clause-since : goal.returns-clause-since
returns-clause-since c =
    let old = c.args.self.now in
    let opening : c.in_ok-opening.opening.items ≡ synced_bytes old.opening.items (calls_of old.done.items) = search rules in
    let calls : calls_of c.drop-drain.new.self.0.items ≡ since_sync (calls_of old.done.items) = search rules in
    let counted : c.in_ok-forgotten.forgotten ≡ old.forgotten + c.synced_calls-synced.result = search rules in
    let moment : c.in_ok-forgotten.forgotten + length (since_sync (calls_of old.done.items)) ≡ old.forgotten + length (calls_of old.done.items) =
    sym (ap (λ calls. c.in_ok-forgotten.forgotten + length calls) calls) ∙ same_moment old.done.items c.drop-drain.new.self.0.items old.forgotten c.in_ok-forgotten.forgotten c.synced_calls-synced.result counted (search rules) (search rules) in
    λ t image le. rw (opening, calls) (forgotten_since old.opening.items (calls_of old.done.items) old.forgotten c.in_ok-forgotten.forgotten t image (all_done old.done.items) moment (omega (arith, counted)) le)
