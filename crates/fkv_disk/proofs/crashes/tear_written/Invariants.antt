use Rattle.std.proofs.Common.{◌≡◌, ℕ, ◌<◌, ◌≤◌, length, take}
use Rattle.std.specs.Prelude.{if◌then◌else◌}
use Rattle.fkv_disk.specs.Bytes.{byte_at}
use Rattle.fkv_disk.specs.Calls.{is_untouched}
use Rattle.fkv_disk.specs.Done.{calls_of}
use Rattle.fkv_disk.proofs.crashes.tear_written.Given as goal

-- what is left to tear leads to the same image
abbrev pub invariant-loop-left : goal.invariant-loop-left
invariant-loop-left l = record {
  within : l.left ≤ length l.done;
  size : length l.image ≡ length l.initial.image;
  each : (i : ℕ) → i < length l.initial.image → (if is_untouched (calls_of (take l.left l.done)) i then byte_at l.image i else l.torn) ≡ (if is_untouched (calls_of l.done) i then byte_at l.initial.image i else l.torn);
}

abbrev pub decreases-loop-left : goal.decreases-loop-left
decreases-loop-left l = l.left
