use Rattle.std.proofs.Common.{◌≡◌, ◌<◌, ◌≤◌, arith, refl, false}
use Rattle.std.specs.Prelude.{vec_len}
use Rattle.fkv_base.specs.Limits.{min_page, max_page}
use Rattle.fkv_base.proofs.Shown.{ring_between}
use Rattle.fkv_flush.specs.Devices.{calls_asked}
use Rattle.fkv_flush.specs.Flushing.{flush_ask}
use Rattle.fkv_flush.proofs.AsksLeft.{flush_asked, flush_done_fewer, flush_failed_none, on_err}
use Rattle.fkv_flush.proofs.Parts.{after_call}
use Rattle.fkv_flush.proofs.flushing.Flush.device_step.Goals as goal

pub invariant_of-self : goal.invariant_of-self
invariant_of-self g c =
    let page = c.self.inside.shape.page in
    let some : min_page ≤ page = (ring_between page min_page max_page c.self.inside.shape.limits.page_size).0 in (
      omega (arith, c.drop_written.ensures.capacity, c.self.invariant.0),
      rw (c.step_called-self-inside.ensures, c.drop_written.ensures.len) (after_call page c.self.inside.step c.is_ok.result (vec_len c.self.inside.bytes) (omega (arith, some)) c.self.invariant.1),
    )

pub invariant_of-self-2 : goal.invariant_of-self-2
invariant_of-self-2 g c =
    let page = c.self.inside.shape.page in
    let some : min_page ≤ page = (ring_between page min_page max_page c.self.inside.shape.limits.page_size).0 in (
      omega (arith, c.drop_written.ensures.capacity, c.self.invariant.0),
      rw (c.step_called-self-inside.ensures, c.drop_written.ensures.len) (after_call page c.self.inside.step c.is_ok.result (vec_len c.self.inside.bytes) (omega (arith, some)) c.self.invariant.1),
    )

pub returns-in_err-called-clause-none : goal.returns-in_err-called-clause-none
returns-in_err-called-clause-none g c =
    let places = c.self.inside.places in
    let page = c.self.inside.shape.page in
    let failed : c.is_ok.result ≡ false = rw (c.is_ok.ensures.value, c.in_err-called.was) refl in
    let called : 0 < calls_asked (flush_ask places c.self.inside.step) = rw c.in_err-called.was at (c.call_device-called.ensures.called places) in
    on_err c.from_residual.result (rw (c.step_called-self-inside.ensures, failed) (flush_failed_none places page c.self.inside.step called))

pub returns-clause-left : goal.returns-clause-left
returns-clause-left g c = flush_asked c.self.inside.places c.step_called-self-inside.result c.ask.result c.ask.ensures

pub returns-clause-fewer : goal.returns-clause-fewer
returns-clause-fewer g c =
    let page = c.self.inside.shape.page in
    let some : min_page ≤ page = (ring_between page min_page max_page c.self.inside.shape.limits.page_size).0 in
    rw (← c.self.view_is, c.step_called-self-inside.ensures) (flush_done_fewer c.self.inside.places page c.self.inside.step c.is_ok.result (omega (arith, some)))

pub returns-in_err-called-clause-fewer : goal.returns-in_err-called-clause-fewer
returns-in_err-called-clause-fewer g c =
    let page = c.self.inside.shape.page in
    let some : min_page ≤ page = (ring_between page min_page max_page c.self.inside.shape.limits.page_size).0 in
    rw (← c.self.view_is, c.step_called-self-inside.ensures) (flush_done_fewer c.self.inside.places page c.self.inside.step c.is_ok.result (omega (arith, some)))
