use Rattle.std.proofs.Common.{◌≡◌, ◌∷◌, ℕ, ◌-◌, true, length, take, List, rules, arith, sym, ap, ◌∙◌}
use Rattle.std.specs.Prelude.{if◌then◌else◌}
use Rattle.fkv_disk.specs.Bytes.{byte_at, covers}
use Rattle.fkv_disk.specs.Calls.{Call, Write, Sync, is_untouched}
use Rattle.fkv_disk.specs.Done.{call_of, calls_of}
use Rattle.fkv_disk.proofs.Replayed.{calls_of-take}
use Rattle.fkv_disk.proofs.Tearing.{tear_step}
use Rattle.fkv_disk.proofs.crashes.tear_written.Goals as goal

pub loop-left-preserved : goal.loop-left-preserved
loop-left-preserved c =
    let done = c.args.done.now in
    let left = c.loop-left.left in
    let call = c.index-done-left.result in
    let before = calls_of (take (left - 1) done) in
    let n = length c.in-Wrote.bytes.items in
    let newest : calls_of (take left done) ≡ Write c.in-Wrote.at c.in-Wrote.bytes.items true ∷ before =
    calls_of-take done left call c.loop-left-test.true c.loop-left.invariant.within c.index-done-left.is ∙ ap (λ d. call_of d ∷ before) c.in-Wrote.is in
    let size : c.len.result ≡ n = search rules in
    record {
      within = omega (arith, c.loop-left.invariant.within);
      size = c.tear.ensures.len ∙ c.loop-left.invariant.size;
      each = λ i below.
          tear_step (covers c.in-Wrote.at n i) (is_untouched before i) (byte_at c.loop-left.image i) c.args.torn (byte_at c.tear.new.image i) _
          (c.tear.ensures.each i (omega (arith, below, c.loop-left.invariant.size)) ∙ ap (λ (m : ℕ). if covers c.in-Wrote.at m i then c.args.torn else byte_at c.loop-left.image i) size)
          (sym (ap (λ (cs : List Call). if is_untouched cs i then byte_at c.loop-left.image i else c.args.torn) newest) ∙ c.loop-left.invariant.each i below);
    }

pub returns-in-Synced-clause-each : goal.returns-in-Synced-clause-each
returns-in-Synced-clause-each c =
    let done = c.args.done.now in
    let left = c.loop-left.left in
    let call = c.index-done-left.result in
    let before = calls_of (take (left - 1) done) in
    let newest : calls_of (take left done) ≡ Sync true ∷ before =
    calls_of-take done left call c.loop-left-test.true c.loop-left.invariant.within c.index-done-left.is ∙ ap (λ d. call_of d ∷ before) c.in-Synced.is in
    λ i below. sym (ap (λ (cs : List Call). if is_untouched cs i then byte_at c.loop-left.image i else c.args.torn) newest) ∙ c.loop-left.invariant.each i below
