-- What a request is while it waits.
use Rattle.std.proofs.Common.{◌≡◌, refl, arith, List, [], ◌∷◌, length}
use Rattle.std.specs.Prelude.{None, slice_get}
use Rattle.fkv_pending.specs.declared.pending_requests.PendingRequest.{PendingRequest}
use Rattle.fkv_session.specs.Sessions.{only_of}

-- its name, its operation and its version stay
pub record IsSameRequest (p q : PendingRequest) : Type 0 where
  pub name : p.name ≡ q.name
  pub op : p.request.op ≡ q.request.op
  pub version : p.request.version ≡ q.request.version

-- where just one request waits it is the first, and else there is none such
pub first_only : (l : List PendingRequest) → length l ≡ 1 → slice_get l 0 ≡ only_of l
first_only [] h = refl
first_only (x ∷ []) h = refl
first_only (x ∷ y ∷ l) h = absurd (omega (arith, h))

pub many_only : (l : List PendingRequest) → ¬ (length l ≡ 1) → None ≡ only_of l
many_only [] h = refl
many_only (x ∷ []) h = absurd (h refl)
many_only (x ∷ y ∷ l) h = refl
