use Rattle.std.proofs.Common.{◌≡◌, ℕ, List, ◌∷◌, true, sym, subst}
use Rattle.fkv_disk.specs.Calls.{Call, Write}
use Rattle.fkv_disk.specs.Device.{IsAfter}
use Rattle.fkv_disk.specs.Memory.{disk_calls, disk_opening}
use Rattle.fkv_disk.proofs.Shown.{after_write}
use Rattle.fkv_files.proofs.Mirrored.{any_in_range}
use Rattle.fkv_files.proofs.mirrors.MirrorDevice.write.Goals as goal

pub invariant_of-self-in-Ok-write : goal.invariant_of-self-in-Ok-write
invariant_of-self-in-Ok-write g c = record {
  after = λ kept claim.
      let was = c.args.self.now in
      let first = c.write-2.ensures.honest.1 claim in
      let seen = g.D.Device.seen c.write-2.new.self in
      let leaves = g.D.Device.may_leave c.write-2.new.self in
      let now = c.write.new.self in
      let next = after_write (disk_opening was.memory) (disk_calls was.memory) _ _ _ _ (was.after kept first) c.args.at c.args.bytes.now true (c.in-Ok-write.ensures.seen first) (c.in-Ok-write.ensures.crash first) in
      subst (λ (calls : List Call). IsAfter (disk_opening now) calls seen leaves) (sym c.in-Ok.ensures.calls)
      (subst (λ (opening : List ℕ). IsAfter opening (Write c.args.at c.args.bytes.now true ∷ disk_calls was.memory) seen leaves) (sym c.in-Ok.ensures.opening) next);
}

pub returns-in-Err-write-clause-seen : goal.returns-in-Err-write-clause-seen
returns-in-Err-write-clause-seen g c = λ claim. any_in_range c.args.at c.args.bytes.now _ _ (c.in-Ok.ensures.seen tt)
