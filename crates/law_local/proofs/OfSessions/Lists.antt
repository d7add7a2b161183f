-- What is known of each request of a list, or of each but one, and of the lists that come of it.
use Rattle.std.proofs.Common.{◌≡◌, ℕ, zero, suc, subst, arith, List, [], ◌∷◌, ◌++◌}
use Rattle.std.specs.Prelude.{Some, slice_get, slice_set}
use Rattle.std.specs.List.{remove}
use Rattle.fkv_pending.specs.declared.pending_requests.PendingRequest.{PendingRequest}

abbrev pub AllKnown : (PendingRequest → Type 0) → List PendingRequest → Type 0
AllKnown P requests = (index : ℕ) (pending : PendingRequest) → slice_get requests index ≡ Some pending → P pending

abbrev pub AllBut : (PendingRequest → Type 0) → List PendingRequest → ℕ → Type 0
AllBut P requests polled = (index : ℕ) (pending : PendingRequest) → slice_get requests index ≡ Some pending → (index ≡ polled → ⊥) → P pending

-- one more
pub all_behind : (P : PendingRequest → Type 0) (requests : List PendingRequest) (last : PendingRequest) → AllKnown P requests → P last → AllKnown P (requests ++ last ∷ [])
all_behind P [] last all its zero pending got = let same : last ≡ pending = cc in subst P same its
all_behind P [] last all its (suc index) pending got = cc
all_behind P (o ∷ rest) last all its zero pending got = all zero pending got
all_behind P (o ∷ rest) last all its (suc index) pending got = all_behind P rest last (λ i p at. all (suc i) p at) its index pending got

-- without the one that is left out
pub all_left : (P : PendingRequest → Type 0) (requests : List PendingRequest) (polled : ℕ) → AllBut P requests polled → AllKnown P (remove requests polled)
all_left P [] zero but index pending got = cc
all_left P [] (suc polled) but index pending got = cc
all_left P (o ∷ rest) zero but index pending got = but (suc index) pending got (λ e. omega (arith, e))
all_left P (o ∷ rest) (suc polled) but zero pending got = but zero pending got (λ e. omega (arith, e))
all_left P (o ∷ rest) (suc polled) but (suc index) pending got = all_left P rest polled (λ i p at other. but (suc i) p at (λ e. other (omega (arith, e)))) index pending got

-- with it set to one that is known
pub all_set : (P : PendingRequest → Type 0) (requests : List PendingRequest) (polled : ℕ) (its : PendingRequest) → AllBut P requests polled → P its → AllKnown P (slice_set requests polled its)
all_set P [] polled its but known index pending got = cc
all_set P (o ∷ rest) zero its but known zero pending got = let same : its ≡ pending = cc in subst P same known
all_set P (o ∷ rest) zero its but known (suc index) pending got = but (suc index) pending got (λ e. omega (arith, e))
all_set P (o ∷ rest) (suc polled) its but known zero pending got = but zero pending got (λ e. omega (arith, e))
all_set P (o ∷ rest) (suc polled) its but known (suc index) pending got = all_set P rest polled its (λ i p at other. but (suc i) p at (λ e. other (omega (arith, e)))) known index pending got

pub but_one : (P : PendingRequest → Type 0) (requests : List PendingRequest) (polled : ℕ) → AllKnown P requests → AllBut P requests polled
but_one P requests polled all index pending got other = all index pending got
