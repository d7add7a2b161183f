-- Requests that have asked: how many there are, and that each seeks the record that is asked for.
use Rattle.std.proofs.Common.{◌≡◌, ◌⊎◌, inl, inr, ℕ, zero, suc, ◌+◌, ◌≤◌, refl, sym, ap, subst, arith, Bool, true, false, List, [], ◌∷◌, ◌++◌}
use Rattle.std.specs.Prelude.{⊤, ◌||◌, Option, Some, None, slice_get, slice_set}
use Rattle.std.specs.List.{remove}
use Rattle.fkv_base.specs.declared.numbers.Addr.{Addr}
use Rattle.law_commit.specs.Below.fkv_pending.PendingRequest.{PendingRequest}
use Rattle.law_commit.specs.Below.fkv_pending.Pending.{with_latch}
use Rattle.law_order.specs.Asked.Asked.{HasAskedSought}

-- who asks counts one
abbrev pub asker : Bool → ℕ
asker true = 1
asker false = 0

abbrev pub askers : List PendingRequest → ℕ
askers [] = 0
askers (pending ∷ rest) = asker pending.has_asked + askers rest

-- and so does a record that is asked for
abbrev pub asked_count : Option Addr → ℕ
asked_count None = 0
asked_count (Some addr) = 1

abbrev pub AllSought : Option Addr → List PendingRequest → Type 0
AllSought asked [] = ⊤
AllSought asked (pending ∷ rest) = HasAskedSought asked pending × AllSought asked rest

-- of the requests of a list, and for nobody: no more has been asked for than there is
pub record Await (asked : Option Addr) (requests : List PendingRequest) (is_orphaned : Bool) : Type 0 where
  pub all : AllSought asked requests
  pub few : askers requests + asker is_orphaned ≤ asked_count asked

pub asked_most : (asked : Option Addr) → asked_count asked ≤ 1
asked_most None = omega arith
asked_most (Some addr) = omega arith

pub asker_or : (a b : Bool) → asker (a || b) ≤ asker b + asker a
asker_or true true = omega arith
asker_or true false = omega arith
asker_or false true = omega arith
asker_or false false = omega arith

-- ---- how many there are
pub askers_behind : (requests : List PendingRequest) (last : PendingRequest) → askers (requests ++ last ∷ []) ≡ askers requests + asker last.has_asked
askers_behind [] last = omega arith
askers_behind (o ∷ rest) last = let more : askers (rest ++ last ∷ []) ≡ askers rest + asker last.has_asked = askers_behind rest last in omega (arith, more)

pub askers_set : (requests : List PendingRequest) (index : ℕ) (its : PendingRequest) → askers (slice_set requests index its) ≤ askers (remove requests index) + asker its.has_asked
askers_set [] index its = omega arith
askers_set (o ∷ rest) zero its = omega arith
askers_set (o ∷ rest) (suc index) its = let more : askers (slice_set rest index its) ≤ askers (remove rest index) + asker its.has_asked = askers_set rest index its in omega (arith, more)

pub askers_left : (requests : List PendingRequest) (index : ℕ) (pending : PendingRequest) → slice_get requests index ≡ Some pending → askers requests ≡ askers (remove requests index) + asker pending.has_asked
askers_left [] index pending got = cc
askers_left (o ∷ rest) zero pending got =
    let same : o ≡ pending = cc in
    let count : asker o.has_asked ≡ asker pending.has_asked = ap (λ (p : PendingRequest). asker p.has_asked) same in
    omega (arith, count)
askers_left (o ∷ rest) (suc index) pending got = let more : askers rest ≡ askers (remove rest index) + asker pending.has_asked = askers_left rest index pending got in omega (arith, more)

-- ---- that each seeks what is asked for
pub none_asked : (asked : Option Addr) (pending : PendingRequest) → asker pending.has_asked ≡ 0 → HasAskedSought asked pending
none_asked asked pending none = λ has. let one : asker pending.has_asked ≡ 1 = ap asker has in absurd (omega (arith, none, one))

pub none_sought : (asked : Option Addr) (requests : List PendingRequest) → askers requests ≡ 0 → AllSought asked requests
none_sought asked [] none = tt
none_sought asked (o ∷ rest) none = (none_asked asked o (omega (arith, none)), none_sought asked rest (omega (arith, none)))

pub all_behind : (asked : Option Addr) (requests : List PendingRequest) (last : PendingRequest) → AllSought asked requests → HasAskedSought asked last → AllSought asked (requests ++ last ∷ [])
all_behind asked [] last all its = (its, tt)
all_behind asked (o ∷ rest) last all its = (all.0, all_behind asked rest last all.1 its)

pub all_set : (asked : Option Addr) (requests : List PendingRequest) (index : ℕ) (its : PendingRequest) → AllSought asked (remove requests index) → HasAskedSought asked its → AllSought asked (slice_set requests index its)
all_set asked [] index its all known = tt
all_set asked (o ∷ rest) zero its all known = (known, all)
all_set asked (o ∷ rest) (suc index) its all known = (all.0, all_set asked rest index its all.1 known)

pub all_left : (asked : Option Addr) (requests : List PendingRequest) (index : ℕ) → AllSought asked requests → AllSought asked (remove requests index)
all_left asked [] zero all = all
all_left asked [] (suc index) all = all
all_left asked (o ∷ rest) zero all = all.1
all_left asked (o ∷ rest) (suc index) all = (all.0, all_left asked rest index all.1)

pub one_of : (asked : Option Addr) (requests : List PendingRequest) (index : ℕ) (pending : PendingRequest) → slice_get requests index ≡ Some pending → AllSought asked requests → HasAskedSought asked pending
one_of asked [] index pending got all = cc
one_of asked (o ∷ rest) zero pending got all = let same : o ≡ pending = cc in subst (HasAskedSought asked) same all.0
one_of asked (o ∷ rest) (suc index) pending got all = one_of asked rest index pending got all.1

-- of those that are left without one
pub one_left : (asked : Option Addr) (requests : List PendingRequest) (polled index : ℕ) (pending : PendingRequest) → slice_get requests index ≡ Some pending → (index ≡ polled → ⊥) → AllSought asked (remove requests polled) → HasAskedSought asked pending
one_left asked [] polled index pending got other all = cc
one_left asked (o ∷ rest) zero zero pending got other all = absurd (other refl)
one_left asked (o ∷ rest) zero (suc index) pending got other all = one_of asked rest index pending got all
one_left asked (o ∷ rest) (suc polled) zero pending got other all = let same : o ≡ pending = cc in subst (HasAskedSought asked) same all.0
one_left asked (o ∷ rest) (suc polled) (suc index) pending got other all = one_left asked rest polled index pending got (λ e. other (ap suc e)) all.1

-- ---- lists that come of others
-- a request that waits takes its latch
pub latched_await : (asked : Option Addr) (requests : List PendingRequest) (is_orphaned : Bool) (index : ℕ) (pending : PendingRequest) → slice_get requests index ≡ Some pending → Await asked requests is_orphaned
    → Await asked (slice_set requests index (with_latch pending true)) is_orphaned
unfolding with_latch
latched_await asked requests is_orphaned index pending got waits =
    let left : askers requests ≡ askers (remove requests index) + asker pending.has_asked = askers_left requests index pending got in
    let set : askers (slice_set requests index (with_latch pending true)) ≤ askers (remove requests index) + asker pending.has_asked = askers_set requests index (with_latch pending true) in
    let few : askers requests + asker is_orphaned ≤ asked_count asked = waits.few in
    record {
      all = all_set asked requests index (with_latch pending true) (all_left asked requests index waits.all) (one_of asked requests index pending got waits.all);
      few = omega (arith, left, set, few);
    }

-- what is asked for stays, or nothing was asked for before, or nothing is then
abbrev pub IsChange : Option Addr → Option Addr → Type 0
IsChange asked asked' = (asked' ≡ asked) ⊎ ((asked' ≡ None) ⊎ (asked ≡ None))

pub all_then : (asked asked' : Option Addr) (requests : List PendingRequest) → IsChange asked asked' → askers requests ≤ asked_count asked → askers requests ≤ asked_count asked' → AllSought asked requests → AllSought asked' requests
all_then asked asked' requests (inl same) before behind all = subst (λ (x : Option Addr). AllSought x requests) (sym same) all
all_then asked asked' requests (inr (inl none)) before behind all = none_sought asked' requests (let zero_then : asked_count asked' ≡ 0 = ap asked_count none in omega (arith, zero_then, behind))
all_then asked asked' requests (inr (inr none)) before behind all = none_sought asked' requests (let zero_before : asked_count asked ≡ 0 = ap asked_count none in omega (arith, zero_before, before))
