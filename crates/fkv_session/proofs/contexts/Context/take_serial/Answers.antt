-- Between two calls nothing goes by the serial.
use Rattle.std.proofs.Common.{◌≡◌, ◌<◌, ◌+◌, ℕ, List, arith, false, subst, sym}
use Rattle.fkv_map.specs.declared.operations.Op.{Op}
use Rattle.fkv_pending.specs.declared.pending_requests.PendingRequest.{PendingRequest}
use Rattle.fkv_session.specs.declared.answers.Finished.{Finished}
use Rattle.fkv_session.specs.declared.sessions.Sitting.{Sitting}
use Rattle.fkv_session.specs.declared.sessions.Sitting.TheVariants.{Idle}
use Rattle.fkv_base.specs.Limits.{last_serial}
use Rattle.fkv_session.specs.Sessions.{IsStepInRange, Sitter, is_busy}
use Rattle.fkv_session.proofs.contexts.Context.take_serial.Goals as goal

idle_in_range : (requests : List PendingRequest) (its : List Finished) (op : Op) (serial : ℕ) (step : Sitting) → is_busy step ≡ false → IsStepInRange requests its op serial step
idle_in_range requests its op serial (Idle told) idle = tt
idle_in_range requests its op serial step idle = cc

pub invariant_of-self : goal.invariant_of-self
invariant_of-self c =
    let s = c.self.inside in
    let i = c.self.invariant in
    let left : s.serial < last_serial = subst (λ (x : Sitter). x.state.serial < last_serial) (sym c.self.view_is) c.requires.left in
    let idle : is_busy s.step ≡ false = subst (λ (x : Sitter). is_busy x.state.step ≡ false) (sym c.self.view_is) c.requires.idle in
    (i.0, i.1, i.2, i.3, i.4, i.5, i.6, i.7, i.8, i.9, i.10, i.11, i.12, omega (arith, left), i.14, idle_in_range s.requests s.finished.items s.op (s.serial + 1) s.step idle)
