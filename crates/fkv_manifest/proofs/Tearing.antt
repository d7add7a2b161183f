-- What a crash may leave of a slot, from call to call.
use Rattle.std.proofs.Common.{◌≡◌, inl, inr, ℕ, ◌+◌, List, [], ◌∷◌, length, drop, Bool, true, false, refl, sym, ◌∙◌, subst, arith}
use Rattle.std.specs.Prelude.{⊤}
use Rattle.fkv_disk.specs.Bytes.{written}
use Rattle.fkv_disk.specs.Device.{Torn, LeavesOnly}
use Rattle.fkv_disk.proofs.Shown.{length-written, byte_at-written_out}
use Rattle.fkv_manifest.specs.Devices.{DoesNext}
use Rattle.fkv_manifest.specs.Gating.{GateWriter, gate_start, gate_call, gate_step_call, gate_next, open_gate}
use Rattle.fkv_manifest.specs.Tearing.{IsTornBehindGate, IsTornInOrder}
use Rattle.fkv_manifest.specs.declared.gates.Gating.{Gating}
use Rattle.fkv_manifest.specs.declared.gates.Gating.TheVariants.{Closes, SyncsClosed, WritesBody, SyncsBody, Opens, SyncsOpen, Written, Broken}

torn_itself : (at n : ℕ) (image : List ℕ) → Torn at n image image
torn_itself at n image = record { no_shorter = omega arith; no_longer = omega arith; outside = λ i below out. refl }

-- a write that is whole is one of those that are torn
torn_whole : (at : ℕ) (old bytes : List ℕ) → Torn at (length bytes) old (written old at bytes)
torn_whole at old bytes = record {
  no_shorter = omega (arith, length-written old at bytes);
  no_longer = omega (arith, length-written old at bytes);
  outside = λ i below out. byte_at-written_out old at bytes i out;
}

-- what the calls to come may leave, from a state and what the device reads as in it
abbrev pub IsAhead : ℕ → ℕ → List ℕ → Gating → List ℕ → List ℕ → Type 0
IsAhead place start slot Closes seen image = IsTornInOrder place start slot true seen image
IsAhead place start slot SyncsClosed seen image = IsTornBehindGate place start slot seen image
IsAhead place start slot WritesBody seen image = IsTornBehindGate place start slot seen image
IsAhead place start slot SyncsBody seen image = Torn place 1 seen image
IsAhead place start slot Opens seen image = Torn place 1 seen image
IsAhead place start slot step seen image = image ≡ seen

-- in these states a crash leaves what is read
abbrev pub IsSettledAt : Gating → List ℕ → (List ℕ → Type 0) → Type 0
IsSettledAt Closes seen may_leave = LeavesOnly seen may_leave
IsSettledAt WritesBody seen may_leave = LeavesOnly seen may_leave
IsSettledAt Opens seen may_leave = LeavesOnly seen may_leave
IsSettledAt step seen may_leave = ⊤

-- What a crash may leave now, and later, are images of this kind.
pub record IsKeptTo (kind : List ℕ → Type 0) (seen : List ℕ) (may_leave : List ℕ → Type 0) (w : GateWriter) : Type 0 where
  pub ahead : (image : List ℕ) → IsAhead w.place w.start w.slot w.step seen image → kind image
  pub now : (image : List ℕ) → may_leave image → kind image
  pub settled : IsSettledAt w.step seen may_leave

module _ (place start : ℕ) (slot seen : List ℕ) (may_leave : List ℕ → Type 0) (only : LeavesOnly seen may_leave) where
  abbrev begin : Bool → GateWriter
  begin is_open = record { place = place; start = start; slot = slot; step = gate_start is_open }

  -- before the first call
  pub kept_first : (is_open : Bool) → IsKeptTo (IsTornInOrder place start slot is_open seen) seen may_leave (begin is_open)
  kept_first true = record { ahead = λ image is. is; now = λ image left. inl (subst (λ b. Torn place 1 b image) (only image left) (torn_itself place 1 image)); settled = only }
  kept_first false = record {
    ahead = λ image is. is;
    now = λ image left. inl (subst (λ b. Torn (place + start) (length (drop start slot)) b image) (only image left) (torn_itself (place + start) (length (drop start slot)) image));
    settled = only;
  }

module _ (place start : ℕ) (slot seen seen' : List ℕ) (may_leave may_leave' : List ℕ → Type 0) where
  -- a call that succeeded: what is ahead of it was ahead before, and what may be left then was
  ahead_on : (step : Gating) → DoesNext (gate_step_call place start slot step true) seen seen' may_leave may_leave' → (image : List ℕ) → IsAhead place start slot (gate_next step true) seen' image → IsAhead place start slot step seen image
  unfolding gate_step_call gate_next
  ahead_on Closes does image is = inr (subst (λ b. IsTornBehindGate place start slot b image) does.0 is)
  ahead_on SyncsClosed does image is = subst (λ b. IsTornBehindGate place start slot b image) does.0 is
  ahead_on WritesBody does image is = inr (subst (λ b. Torn place 1 b image) does.0 is)
  ahead_on SyncsBody does image is = subst (λ b. Torn place 1 b image) does.0 is
  ahead_on Opens does image is = subst (λ b. Torn place 1 seen b) (sym (is ∙ does.0)) (torn_whole place seen (open_gate ∷ []))
  ahead_on SyncsOpen does image is = is ∙ does.0
  ahead_on Written does image is = is ∙ does.0
  ahead_on (Broken why) does image is = is ∙ does.0

  settled_on : (step : Gating) → DoesNext (gate_step_call place start slot step true) seen seen' may_leave may_leave' → IsSettledAt (gate_next step true) seen' may_leave'
  unfolding gate_step_call gate_next
  settled_on Closes does = tt
  settled_on SyncsClosed does = λ image left. does.1 image left ∙ sym does.0
  settled_on WritesBody does = tt
  settled_on SyncsBody does = λ image left. does.1 image left ∙ sym does.0
  settled_on Opens does = tt
  settled_on SyncsOpen does = tt
  settled_on Written does = tt
  settled_on (Broken why) does = tt

  -- what may be left after a call, whether it succeeded or not
  left_on : (step : Gating) (done : Bool) → DoesNext (gate_step_call place start slot step done) seen seen' may_leave may_leave' → IsSettledAt step seen may_leave → (kind : List ℕ → Type 0)
      → ((image : List ℕ) → IsAhead place start slot step seen image → kind image) → ((image : List ℕ) → may_leave image → kind image) → (image : List ℕ) → may_leave' image → kind image
  unfolding gate_step_call
  left_on Closes done does only kind ahead now image left = let was = does.1 image left in ahead image (inl (subst (λ b. Torn place 1 b image) (only was.0 was.1) was.2))
  left_on SyncsClosed true does only kind ahead now image left = ahead image (subst (λ b. IsTornBehindGate place start slot b image) (does.1 image left) (inl (torn_itself (place + start) (length (drop start slot)) image)))
  left_on SyncsClosed false does only kind ahead now image left = now image (does.1 image left)
  left_on WritesBody done does only kind ahead now image left =
      let was = does.1 image left in ahead image (inl (subst (λ b. Torn (place + start) (length (drop start slot)) b image) (only was.0 was.1) was.2))
  left_on SyncsBody true does only kind ahead now image left = ahead image (subst (λ b. Torn place 1 b image) (does.1 image left) (torn_itself place 1 image))
  left_on SyncsBody false does only kind ahead now image left = now image (does.1 image left)
  left_on Opens done does only kind ahead now image left = let was = does.1 image left in ahead image (subst (λ b. Torn place 1 b image) (only was.0 was.1) was.2)
  left_on SyncsOpen true does only kind ahead now image left = ahead image (does.1 image left)
  left_on SyncsOpen false does only kind ahead now image left = now image (does.1 image left)
  left_on Written done does only kind ahead now image left = now image (does.1 image left)
  left_on (Broken why) done does only kind ahead now image left = now image (does.1 image left)

-- one call more
pub kept_on : (kind : List ℕ → Type 0) (seen seen' : List ℕ) (may_leave may_leave' : List ℕ → Type 0) (w w' : GateWriter) → IsKeptTo kind seen may_leave w → w' ≡ record w { step = gate_next w.step true }
    → DoesNext (gate_call w true) seen seen' may_leave may_leave' → IsKeptTo kind seen' may_leave' w'
kept_on kind seen seen' may_leave may_leave' w w' was next does =
    subst (λ (v : GateWriter). IsKeptTo kind seen' may_leave' v) (sym next) (record {
      ahead = λ image is. was.ahead image (ahead_on w.place w.start w.slot seen seen' may_leave may_leave' w.step does image is);
      now = left_on w.place w.start w.slot seen seen' may_leave may_leave' w.step true does was.settled kind was.ahead was.now;
      settled = settled_on w.place w.start w.slot seen seen' may_leave may_leave' w.step does;
    })

-- and what may be left after a call, whether it succeeded or not
pub kept_after : (kind : List ℕ → Type 0) (seen seen' : List ℕ) (may_leave may_leave' : List ℕ → Type 0) (w : GateWriter) (done : Bool) → IsKeptTo kind seen may_leave w
    → DoesNext (gate_call w done) seen seen' may_leave may_leave' → (image : List ℕ) → may_leave' image → kind image
kept_after kind seen seen' may_leave may_leave' w done was does = left_on w.place w.start w.slot seen seen' may_leave may_leave' w.step done does was.settled kind was.ahead was.now
