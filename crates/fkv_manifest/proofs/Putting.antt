-- How far a slot has come into force, from call to call.
use Rattle.std.proofs.Common.{◌≡◌, ℕ, suc, ◌+◌, ◌-◌, ◌≤◌, List, [], ◌∷◌, drop, Bool, true, false, Result, Ok, refl, sym, ◌∙◌, ap, subst, arith}
use Rattle.std.specs.Prelude.{◌↔◌, ⊤}
use Rattle.fkv_base.specs.declared.faults.Fault.{Fault}
use Rattle.fkv_disk.specs.Bytes.{written}
use Rattle.fkv_disk.specs.Device.{LeavesOnly, MakesCalls}
use Rattle.fkv_disk.proofs.Shown.{no_call, more_calls}
use Rattle.fkv_manifest.specs.Devices.{DoesNext, calls_next}
use Rattle.fkv_manifest.specs.Gating.{GateWriter, gate_start, gate_call, gate_step_call, gate_next, gate_answer, gate_calls_left, gate_leads, open_gate}
use Rattle.fkv_manifest.specs.declared.answers.WriteAnswer.TheVariants as answer
use Rattle.fkv_manifest.specs.declared.gates.Gating.{Gating}
use Rattle.fkv_manifest.specs.declared.gates.Gating.TheVariants.{Closes, SyncsClosed, WritesBody, SyncsBody, Opens, SyncsOpen, Written, Broken}

-- no call has failed
abbrev pub IsUnbroken : Gating → Type 0
IsUnbroken (Broken why) = ⊥
IsUnbroken step = ⊤

-- at the end a crash leaves what is read
abbrev pub IsSyncedAt : Gating → List ℕ → (List ℕ → Type 0) → Type 0
IsSyncedAt Written seen may_leave = LeavesOnly seen may_leave
IsSyncedAt step seen may_leave = ⊤

-- no call was refused
abbrev pub all_passed : Result (Unit {0}) Fault
all_passed = Ok tt

-- What stands after some calls that succeeded, from the first state on.
pub record IsPut (place start : ℕ) (slot : List ℕ) (first : Gating) (honest : Type 0) (seen : List ℕ) (failed : ℕ) (refuses : ℕ → Bool) (honest' : Type 0) (seen' : List ℕ) (may_leave' : List ℕ → Type 0) (failed' : ℕ) (refuses' : ℕ → Bool) (w : GateWriter) : Type 0 where
  pub unbroken : IsUnbroken w.step
  pub leads : honest → gate_leads w.place w.start w.slot w.step seen' ≡ gate_leads place start slot first seen
  pub synced : honest → IsSyncedAt w.step seen' may_leave'
  pub claims : honest ↔ honest'
  pub later : failed ≤ failed'
  pub within : gate_calls_left w.step ≤ gate_calls_left first
  pub counted : MakesCalls (gate_calls_left first - gate_calls_left w.step) refuses refuses' all_passed

-- before the first call
pub started : (place start : ℕ) (slot : List ℕ) (is_open : Bool) (honest : Type 0) (seen : List ℕ) (may_leave : List ℕ → Type 0) (failed : ℕ) (refuses : ℕ → Bool)
    → IsPut place start slot (gate_start is_open) honest seen failed refuses honest seen may_leave failed refuses (record { place = place; start = start; slot = slot; step = gate_start is_open })
started place start slot true honest seen may_leave failed refuses =
    record { unbroken = tt; leads = λ claim. refl; synced = λ claim. tt; claims = (λ claim. claim, λ claim. claim); later = omega arith; within = omega arith; counted = no_call refuses all_passed }
started place start slot false honest seen may_leave failed refuses =
    record { unbroken = tt; leads = λ claim. refl; synced = λ claim. tt; claims = (λ claim. claim, λ claim. claim); later = omega arith; within = omega arith; counted = no_call refuses all_passed }

-- a step that makes a call leaves one fewer
pub one_fewer : (step : Gating) → gate_answer step ≡ answer.Device → gate_calls_left step ≡ suc (gate_calls_left (gate_next step true))
unfolding gate_answer gate_next
one_fewer Closes calls = refl
one_fewer SyncsClosed calls = refl
one_fewer WritesBody calls = refl
one_fewer SyncsBody calls = refl
one_fewer Opens calls = refl
one_fewer SyncsOpen calls = refl
one_fewer Written calls = absurd (cc)
one_fewer (Broken why) calls = absurd (cc)

unbroken_on : (step : Gating) → gate_answer step ≡ answer.Device → IsUnbroken (gate_next step true)
unfolding gate_answer gate_next
unbroken_on Closes calls = tt
unbroken_on SyncsClosed calls = tt
unbroken_on WritesBody calls = tt
unbroken_on SyncsBody calls = tt
unbroken_on Opens calls = tt
unbroken_on SyncsOpen calls = tt
unbroken_on Written calls = tt
unbroken_on (Broken why) calls = absurd (cc)

module _ (place start : ℕ) (slot seen seen' : List ℕ) (may_leave may_leave' : List ℕ → Type 0) where
  leads_on : (step : Gating) → DoesNext (gate_step_call place start slot step true) seen seen' may_leave may_leave' → gate_leads place start slot (gate_next step true) seen' ≡ gate_leads place start slot step seen
  unfolding gate_step_call gate_next gate_leads
  leads_on Closes does = ap (λ (s : List ℕ). written (written s (place + start) (drop start slot)) place (open_gate ∷ [])) does.0
  leads_on SyncsClosed does = ap (λ (s : List ℕ). written (written s (place + start) (drop start slot)) place (open_gate ∷ [])) does.0
  leads_on WritesBody does = ap (λ (s : List ℕ). written s place (open_gate ∷ [])) does.0
  leads_on SyncsBody does = ap (λ (s : List ℕ). written s place (open_gate ∷ [])) does.0
  leads_on Opens does = does.0
  leads_on SyncsOpen does = does.0
  leads_on Written does = does.0
  leads_on (Broken why) does = does.0

  synced_on : (step : Gating) → gate_answer step ≡ answer.Device → DoesNext (gate_step_call place start slot step true) seen seen' may_leave may_leave' → IsSyncedAt (gate_next step true) seen' may_leave'
  unfolding gate_answer gate_step_call gate_next
  synced_on Closes calls does = tt
  synced_on SyncsClosed calls does = tt
  synced_on WritesBody calls does = tt
  synced_on SyncsBody calls does = tt
  synced_on Opens calls does = tt
  synced_on SyncsOpen calls does = λ image left. does.1 image left ∙ sym does.0
  synced_on Written calls does = absurd (cc)
  synced_on (Broken why) calls does = tt

-- where nothing failed and no call is left, all is written
pub is_written : (step : Gating) → (gate_answer step ≡ answer.Device → ⊥) → IsUnbroken step → step ≡ Written
unfolding gate_answer
is_written Closes rests whole = absurd (rests refl)
is_written SyncsClosed rests whole = absurd (rests refl)
is_written WritesBody rests whole = absurd (rests refl)
is_written SyncsBody rests whole = absurd (rests refl)
is_written Opens rests whole = absurd (rests refl)
is_written SyncsOpen rests whole = absurd (rests refl)
is_written Written rests whole = refl
is_written (Broken why) rests whole = absurd whole

-- one call more, which succeeded
pub put_on : (place start : ℕ) (slot : List ℕ) (first : Gating) (honest honest' honest'' : Type 0) (seen seen' seen'' : List ℕ) (may_leave' may_leave'' : List ℕ → Type 0) (failed failed' failed'' : ℕ) (refuses refuses' refuses'' : ℕ → Bool) (w w' : GateWriter)
    → IsPut place start slot first honest seen failed refuses honest' seen' may_leave' failed' refuses' w
    → gate_answer w.step ≡ answer.Device → w' ≡ record w { step = gate_next w.step true }
    → honest' ↔ honest'' → (honest' → DoesNext (gate_call w true) seen' seen'' may_leave' may_leave'') → failed' ≤ failed'' → MakesCalls (calls_next (gate_answer w.step)) refuses' refuses'' all_passed
    → IsPut place start slot first honest seen failed refuses honest'' seen'' may_leave'' failed'' refuses'' w'
put_on place start slot first honest honest' honest'' seen seen' seen'' may_leave' may_leave'' failed failed' failed'' refuses refuses' refuses'' w w' was calls next both does later counted =
    subst (λ (v : GateWriter). IsPut place start slot first honest seen failed refuses honest'' seen'' may_leave'' failed'' refuses'' v) (sym next) (record {
      unbroken = unbroken_on w.step calls;
      leads = λ claim. leads_on w.place w.start w.slot seen' seen'' may_leave' may_leave'' w.step (does (was.claims.0 claim)) ∙ was.leads claim;
      synced = λ claim. synced_on w.place w.start w.slot seen' seen'' may_leave' may_leave'' w.step calls (does (was.claims.0 claim));
      claims = (λ claim. both.0 (was.claims.0 claim), λ claim. was.claims.1 (both.1 claim));
      later = omega (arith, was.later, later);
      within = omega (arith, was.within, one_fewer w.step calls);
      counted = subst (λ (n : ℕ). MakesCalls n refuses refuses'' all_passed) sums
          (more_calls (gate_calls_left first - gate_calls_left w.step) (calls_next (gate_answer w.step)) refuses refuses' refuses'' all_passed all_passed was.counted (λ err. err) counted);
    })
  where
    one : calls_next (gate_answer w.step) ≡ 1
    one = ap calls_next calls

    sums : (gate_calls_left first - gate_calls_left w.step) + calls_next (gate_answer w.step) ≡ gate_calls_left first - gate_calls_left (gate_next w.step true)
    sums = omega (arith, was.within, one_fewer w.step calls, one)

-- and what is known at the end
pub record IsAllPut (place start : ℕ) (slot : List ℕ) (first : Gating) (honest : Type 0) (seen : List ℕ) (failed : ℕ) (refuses : ℕ → Bool) (honest' : Type 0) (seen' : List ℕ) (may_leave' : List ℕ → Type 0) (failed' : ℕ) (refuses' : ℕ → Bool) : Type 0 where
  pub reads : honest → seen' ≡ gate_leads place start slot first seen
  pub synced : honest → LeavesOnly seen' may_leave'
  pub claims : honest ↔ honest'
  pub later : failed ≤ failed'
  pub counted : MakesCalls (gate_calls_left first) refuses refuses' all_passed

pub all_put : (place start : ℕ) (slot : List ℕ) (first : Gating) (honest : Type 0) (seen : List ℕ) (failed : ℕ) (refuses : ℕ → Bool) (honest' : Type 0) (seen' : List ℕ) (may_leave' : List ℕ → Type 0) (failed' : ℕ) (refuses' : ℕ → Bool) (at from : ℕ) (bytes : List ℕ) (step : Gating)
    → IsPut place start slot first honest seen failed refuses honest' seen' may_leave' failed' refuses' (record { place = at; start = from; slot = bytes; step = step }) → step ≡ Written
    → IsAllPut place start slot first honest seen failed refuses honest' seen' may_leave' failed' refuses'
unfolding gate_leads
all_put place start slot first honest seen failed refuses honest' seen' may_leave' failed' refuses' at from bytes step was is = record {
  reads = λ claim. ap (λ (s : Gating). gate_leads at from bytes s seen') (sym is) ∙ was.leads claim;
  synced = λ claim. subst (λ (s : Gating). IsSyncedAt s seen' may_leave') is (was.synced claim);
  claims = was.claims;
  later = was.later;
  counted = subst (λ (n : ℕ). MakesCalls n refuses refuses' all_passed) (let none : gate_calls_left step ≡ 0 = ap gate_calls_left is in omega (arith, none)) was.counted;
}
