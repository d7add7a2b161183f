use Rattle.std.proofs.Common.{◌≡◌, List, inl, inr, sym, ap, ◌∙◌}
use Rattle.fkv_disk.specs.Calls.{Call, torn_image}
use Rattle.fkv_disk.specs.Done.{calls_of}
use Rattle.fkv_disk.specs.Fuse.{with_refused}
use Rattle.fkv_disk.proofs.Tearing.{torn_done, torn_refused}
use Rattle.fkv_disk.proofs.crashes.image_of.Goals as goal

pub returns-in_ok-tear_refused-in-BlownAt-clause-image : goal.returns-in_ok-tear_refused-in-BlownAt-clause-image
returns-in_ok-tear_refused-in-BlownAt-clause-image c =
    let copied = c.in_ok-image.ensures in
    let refused = c.in_ok-tear_refused-in-BlownAt.ensures in
    let calls = calls_of c.args.done.now in
    λ opening replayed.
    torn_refused opening c.args.done.now c.args.bytes.now c.args.torn replayed c.in_ok-image.image.items copied.len copied.each c.in-BlownAt.at c.in-BlownAt.n _ refused.len refused.each
    ∙ ap (λ state. torn_image opening (with_refused state calls) c.args.torn) (sym c.in-BlownAt.is)

pub returns-in-Sound-clause-image : goal.returns-in-Sound-clause-image
returns-in-Sound-clause-image c =
    let copied = c.in_ok-image.ensures in
    let calls = calls_of c.args.done.now in
    let same : with_refused c.args.state calls ≡ calls = elim c.in-Sound.is [
      | inl sound ↦ ap (λ state. with_refused state calls) sound
      | inr (inl some) ↦ ap (λ state. with_refused state calls) some.1
      | inr (inr blown) ↦ ap (λ state. with_refused state calls) blown
    ] in
    λ opening replayed.
    torn_done opening c.args.done.now c.args.bytes.now c.args.torn replayed c.in_ok-image.image.items copied.len copied.each
    ∙ sym (ap (λ (cs : List Call). torn_image opening cs c.args.torn) same)
