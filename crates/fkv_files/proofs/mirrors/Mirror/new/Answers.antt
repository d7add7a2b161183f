use Rattle.std.proofs.Common.{◌≡◌, ◌∙◌, ℕ, List, [], length, sym, ap, subst, rules}
use Rattle.fkv_disk.specs.Bytes.{bytes_at}
use Rattle.fkv_disk.specs.Calls.{Call}
use Rattle.fkv_disk.specs.Device.{IsAfter, LeavesOnly}
use Rattle.fkv_disk.specs.Memory.{disk_bytes, disk_calls, disk_opening}
use Rattle.fkv_disk.proofs.Shown.{is_opened, length-bytes_at}
use Rattle.fkv_files.proofs.Mirrored.{all_bytes, put_back}
use Rattle.fkv_files.proofs.mirrors.Mirror.new.Goals as goal

pub invariant_of-result : goal.invariant_of-result
invariant_of-result g c = record {
  after = λ kept claim.
      let synced = c.read.ensures.honest.1 claim in
      let first = c.sync.ensures.honest.1 synced in
      let shown = g.D.Device.seen in
      let leaves = g.D.Device.may_leave c.read.new.self in
      let same : shown c.read.new.self ≡ shown c.args.device = c.in_ok-read.ensures.seen synced ∙ c.in_ok-sync.ensures.seen first in
      let only : LeavesOnly (shown c.read.new.self) leaves = λ image left. c.in_ok-sync.ensures.durable first image (c.in_ok-read.ensures.crash synced image left) ∙ sym same in
      let slice : length c.deref_mut.result.now ≡ c.args.count = search rules in
      let size : length c.deref_mut.result.now ≡ length (shown c.sync.new.self) = slice ∙ sym (c.requires.whole first) ∙ ap length (sym (c.in_ok-sync.ensures.seen first)) in
      let back : c.resize.new.self.len ≡ length c.read.new.into = c.in_ok-resize.ensures.len ∙ sym slice ∙ sym (length-bytes_at (shown c.sync.new.self) 0 _) ∙ ap length (sym (c.in_ok-read.ensures.bytes synced)) in
      let held : disk_opening c.in_ok-memory.memory ≡ c.read.new.into = c.in_ok-memory.ensures.opening ∙ put_back _ _ _ back in
      let whole : disk_opening c.in_ok-memory.memory ≡ shown c.read.new.self =
      held ∙ c.in_ok-read.ensures.bytes synced ∙ all_bytes (shown c.sync.new.self) (length c.deref_mut.result.now) (sym size) ∙ sym (c.in_ok-read.ensures.seen synced) in
      subst (λ (calls : List Call). IsAfter (disk_opening c.in_ok-memory.memory) calls (shown c.read.new.self) leaves) (sym c.in_ok-memory.ensures.calls)
      (subst (λ (opening : List ℕ). IsAfter opening [] (shown c.read.new.self) leaves) (sym whole) (is_opened (shown c.read.new.self) leaves only));
}

pub returns-clause-bytes : goal.returns-clause-bytes
returns-clause-bytes g c = λ first.
    let synced = c.sync.ensures.honest.0 first in
    let shown = g.D.Device.seen in
    let slice : length c.deref_mut.result.now ≡ c.args.count = search rules in
    let size : length c.deref_mut.result.now ≡ length (shown c.sync.new.self) = slice ∙ sym (c.requires.whole first) ∙ ap length (sym (c.in_ok-sync.ensures.seen first)) in
    let back : c.resize.new.self.len ≡ length c.read.new.into = c.in_ok-resize.ensures.len ∙ sym slice ∙ sym (length-bytes_at (shown c.sync.new.self) 0 _) ∙ ap length (sym (c.in_ok-read.ensures.bytes synced)) in
    let held : disk_bytes c.in_ok-memory.memory ≡ c.read.new.into = c.in_ok-memory.ensures.bytes ∙ put_back _ _ _ back in
    held ∙ c.in_ok-read.ensures.bytes synced ∙ all_bytes (shown c.sync.new.self) (length c.deref_mut.result.now) (sym size) ∙ c.in_ok-sync.ensures.seen first
