-- What stands after each step of a commit's writes, by how far the machine has come.
use Rattle.std.proofs.Common.{◌≡◌, ◌⊎◌, inl, inr, ℕ, ◌+◌, List, [], ◌∷◌, ◌++◌, length, drop, Bool, true, false, ◌||◌, ◌&&◌, refl, sym, ◌∙◌, ap, subst, arith}
use Rattle.std.specs.Prelude.{◌==◌, ◌≢◌, Some}
use Rattle.std.proofs.lemmas.Bool.Decides.{nat_tests}
use Rattle.fkv_disk.specs.Bytes.{byte_at, written}
use Rattle.fkv_disk.specs.Calls.{Call, Write, Sync, MayLeave, reads_as}
use Rattle.fkv_disk.specs.Fuse.{torn_same}
use Rattle.fkv_manifest.specs.Committing.{CommitWriter, commit_start, commit_call, commit_next, commit_step_call, commit_step_next, commit_answer, commit_step_answer, gate_after}
use Rattle.fkv_manifest.specs.Gating.{gate_start, gate_step_call, gate_next, gate_answer, open_gate, closed_gate}
use Rattle.fkv_manifest.specs.Kept.{IsReady, SparesRest, LastStands, NewStands}
use Rattle.fkv_manifest.specs.Made.{commit_run, commit_made, with_call, has_begun}
use Rattle.fkv_manifest.specs.declared.answers.WriteAnswer.TheVariants as answer
use Rattle.fkv_manifest.specs.declared.commits.Committing.{Committing}
use Rattle.fkv_manifest.specs.declared.commits.Committing.TheVariants as to
use Rattle.fkv_manifest.specs.declared.gates.Gating.{Gating}
use Rattle.fkv_manifest.specs.declared.gates.Gating.TheVariants.{Closes, SyncsClosed, WritesBody, SyncsBody, Opens, SyncsOpen, Written, Broken}
use Rattle.fkv_manifest.proofs.Settled.{IsSettled, settled_sync, settled_write, left_same, left_torn}
use Rattle.fkv_manifest.proofs.Stages.{IsStored, IsShut, IsBehind, IsOpen, with_body, torn_triples, torn_closing, torn_body, torn_opening, stored, stored_none, shut_already, shut, behind, opened_gate, new_in_force, stands_closed, stored_gate, low}

module _ (w : CommitWriter) (opened : List ℕ) (before : List Call) (base : List ℕ) (other : ℕ) (ready : IsReady w base other) where
  -- all that a crash may leave after these calls
  abbrev pub MayBeLeft : List Call → List ℕ → Type 0
  MayBeLeft made image = MayLeave opened (made ++ before) image

  -- what is told of each of it
  abbrev pub Outcome : List Call → List ℕ → Type 0
  Outcome made image = SparesRest w base image × (LastStands base other image ⊎ ((has_begun w.gate.place made ≡ true) × NewStands w image))

  abbrev pub AllGood : List Call → Type 0
  AllGood made = (image : List ℕ) → MayBeLeft made image → Outcome made image

  abbrev Settles : List Call → List ℕ → Type 0
  Settles made bytes = IsSettled opened (made ++ before) bytes

  -- the newest call is a write that isn't synced
  pub record Flies (at : ℕ) (new : List ℕ) (bytes : List ℕ) (made : List Call) : Type 0 where
    pub earlier : List Call
    pub is : made ≡ Write at new true ∷ earlier
    pub settles : IsSettled opened (earlier ++ before) bytes

  -- while the slot is put
  abbrev pub InGate : Gating → List Call → Type 0
  InGate Closes made = (bytes : List ℕ) × IsStored w base other ready bytes × (byte_at base w.gate.place ≡ 165) × IsSettled opened (made ++ before) bytes
  InGate SyncsClosed made = (bytes : List ℕ) × IsStored w base other ready bytes × (byte_at base w.gate.place ≡ 165) × Flies w.gate.place (closed_gate ∷ []) bytes made
  InGate WritesBody made = (bytes : List ℕ) × IsShut w base other ready bytes × IsSettled opened (made ++ before) bytes
  InGate SyncsBody made = (bytes : List ℕ) × IsShut w base other ready bytes × Flies (w.gate.place + w.gate.start) (drop w.gate.start w.gate.slot) bytes made
  InGate Opens made = (bytes : List ℕ) × IsBehind w base other ready bytes × IsSettled opened (made ++ before) bytes
  InGate SyncsOpen made = (bytes : List ℕ) × IsBehind w base other ready bytes × Flies w.gate.place (open_gate ∷ []) bytes made
  InGate Written made = (bytes : List ℕ) × IsOpen w base other ready bytes × (has_begun w.gate.place made ≡ true) × IsSettled opened (made ++ before) bytes
  InGate (Broken why) made = AllGood made

  abbrev pub first_gate : Gating
  first_gate = gate_start (byte_at base w.gate.place == open_gate)

  -- in a whole commit
  abbrev pub At : Committing → Gating → List Call → Type 0
  At to.WritesTriples gate made = (gate ≡ first_gate) × IsSettled opened (made ++ before) base
  At to.SyncsTriples gate made = (gate ≡ first_gate) × (Flies w.area w.triples base made ⊎ ((w.triples ≡ []) × IsSettled opened (made ++ before) base))
  At to.PutsSlot gate made = InGate gate made
  At (to.Broken why) gate made = AllGood made

  -- the write that opens the gate counts as begun
  begins : (done : Bool) (made : List Call) → has_begun w.gate.place (Write w.gate.place (open_gate ∷ []) done ∷ made) ≡ true
  begins done made = ap (λ (b : Bool). b || has_begun w.gate.place made) (let same : (w.gate.place == w.gate.place) ≡ true = grind (arith, nat_tests) in ap (λ (b : Bool). b && true) same)

  last_outcome : (made : List Call) (image : List ℕ) → SparesRest w base image × LastStands base other image → Outcome made image
  last_outcome made image is = (is.0, inl is.1)

  one_outcome : (made : List Call) (image : List ℕ) → has_begun w.gate.place made ≡ true → SparesRest w base image × (LastStands base other image ⊎ NewStands w image) → Outcome made image
  one_outcome made image begun (spares, inl last) = (spares, inl last)
  one_outcome made image begun (spares, inr new) = (spares, inr (begun, new))

  -- the new one is in force, and nothing else
  new_outcome : (made : List Call) (bytes image : List ℕ) → IsOpen w base other ready bytes → has_begun w.gate.place made ≡ true → image ≡ bytes → Outcome made image
  new_outcome made bytes image is begun same = subst (λ (s : List ℕ). Outcome made s) (sym same) (is.spares, inr (begun, new_in_force w base other ready bytes is))

  -- what a crash may leave where the machine has come so far
  pub gate_good : (gate : Gating) (made : List Call) → InGate gate made → AllGood made
  gate_good Closes made (bytes, is, stood, settles) = λ image left.
      subst (λ (s : List ℕ). Outcome made s) (sym (left_same opened (made ++ before) bytes settles image left)) (last_outcome made bytes (torn_closing w base other ready bytes bytes is stood (torn_same w.gate.place 1 bytes)))
  gate_good SyncsClosed made (bytes, is, stood, flies) = λ image left.
      last_outcome made image (torn_closing w base other ready bytes image is stood
      (left_torn opened (flies.earlier ++ before) bytes flies.settles w.gate.place (closed_gate ∷ []) true image (subst (λ (m : List Call). MayBeLeft m image) flies.is left)))
  gate_good WritesBody made (bytes, is, settles) = λ image left.
      subst (λ (s : List ℕ). Outcome made s) (sym (left_same opened (made ++ before) bytes settles image left)) (is.spares, inl (stands_closed w base other ready bytes is.spares is.closed))
  gate_good SyncsBody made (bytes, is, flies) = λ image left.
      last_outcome made image (torn_body w base other ready bytes image is
      (left_torn opened (flies.earlier ++ before) bytes flies.settles (w.gate.place + w.gate.start) (drop w.gate.start w.gate.slot) true image (subst (λ (m : List Call). MayBeLeft m image) flies.is left)))
  gate_good Opens made (bytes, is, settles) = λ image left.
      subst (λ (s : List ℕ). Outcome made s) (sym (left_same opened (made ++ before) bytes settles image left)) (is.spares, inl (stands_closed w base other ready bytes is.spares is.closed))
  gate_good SyncsOpen made (bytes, is, flies) = λ image left.
      one_outcome made image (ap (λ (m : List Call). has_begun w.gate.place m) flies.is ∙ begins true flies.earlier) (torn_opening w base other ready bytes image is
      (left_torn opened (flies.earlier ++ before) bytes flies.settles w.gate.place (open_gate ∷ []) true image (subst (λ (m : List Call). MayBeLeft m image) flies.is left)))
  gate_good Written made (bytes, is, begun, settles) = λ image left. new_outcome made bytes image is begun (left_same opened (made ++ before) bytes settles image left)
  gate_good (Broken why) made good = good

  pub all_good : (step : Committing) (gate : Gating) (made : List Call) → At step gate made → AllGood made
  all_good to.WritesTriples gate made (first, settles) = λ image left.
      subst (λ (s : List ℕ). Outcome made s) (sym (left_same opened (made ++ before) base settles image left)) (last_outcome made base (torn_triples w base other ready base (torn_same w.area (length w.triples) base)))
  all_good to.SyncsTriples gate made (first, inl flies) = λ image left.
      last_outcome made image (torn_triples w base other ready image
      (left_torn opened (flies.earlier ++ before) base flies.settles w.area w.triples true image (subst (λ (m : List Call). MayBeLeft m image) flies.is left)))
  all_good to.SyncsTriples gate made (first, inr none) = λ image left.
      subst (λ (s : List ℕ). Outcome made s) (sym (left_same opened (made ++ before) base none.1 image left)) (last_outcome made base (torn_triples w base other ready base (torn_same w.area (length w.triples) base)))
  all_good to.PutsSlot gate made is = gate_good gate made is
  all_good (to.Broken why) gate made good = good

  -- a sync that failed leaves what could be left before
  unsynced : (made : List Call) → AllGood made → AllGood (Sync false ∷ made)
  unsynced made good image left = good image (record { no_shorter = left.no_shorter; no_longer = left.no_longer; kept = left.kept })

  -- a write that is synced settles
  landed : (at : ℕ) (new bytes : List ℕ) (made : List Call) → Flies at new bytes made → IsSettled opened ((Sync true ∷ made) ++ before) (written bytes at new)
  landed at new bytes made flies = subst (λ (m : List Call). IsSettled opened ((Sync true ∷ m) ++ before) (written bytes at new)) (sym flies.is) (settled_write opened (flies.earlier ++ before) bytes flies.settles at new)

  -- one step of the slot's machine
  pub gate_on : (gate : Gating) (done : Bool) (made : List Call) → InGate gate made → InGate (gate_next gate done) (with_call (gate_step_call w.gate.place w.gate.start w.gate.slot gate done) made)
  unfolding gate_next gate_step_call
  gate_on Closes true made (bytes, is, stood, settles) = (bytes, is, stood, record { earlier = made; is = refl; settles = settles })
  gate_on Closes false made (bytes, is, stood, settles) = λ image left.
      last_outcome (Write w.gate.place (closed_gate ∷ []) false ∷ made) image (torn_closing w base other ready bytes image is stood (left_torn opened (made ++ before) bytes settles w.gate.place (closed_gate ∷ []) false image left))
  gate_on SyncsClosed true made (bytes, is, stood, flies) = (written bytes w.gate.place (closed_gate ∷ []), shut w base other ready bytes is, landed w.gate.place (closed_gate ∷ []) bytes made flies)
  gate_on SyncsClosed false made is = unsynced made (gate_good SyncsClosed made is)
  gate_on WritesBody true made (bytes, is, settles) = (bytes, is, record { earlier = made; is = refl; settles = settles })
  gate_on WritesBody false made (bytes, is, settles) = λ image left.
      last_outcome (Write (w.gate.place + w.gate.start) (drop w.gate.start w.gate.slot) false ∷ made) image
      (torn_body w base other ready bytes image is (left_torn opened (made ++ before) bytes settles (w.gate.place + w.gate.start) (drop w.gate.start w.gate.slot) false image left))
  gate_on SyncsBody true made (bytes, is, flies) = (with_body w base other ready bytes, behind w base other ready bytes is, landed (w.gate.place + w.gate.start) (drop w.gate.start w.gate.slot) bytes made flies)
  gate_on SyncsBody false made is = unsynced made (gate_good SyncsBody made is)
  gate_on Opens true made (bytes, is, settles) = (bytes, is, record { earlier = made; is = refl; settles = settles })
  gate_on Opens false made (bytes, is, settles) = λ image left.
      one_outcome (Write w.gate.place (open_gate ∷ []) false ∷ made) image (begins false made)
      (torn_opening w base other ready bytes image is (left_torn opened (made ++ before) bytes settles w.gate.place (open_gate ∷ []) false image left))
  gate_on SyncsOpen true made (bytes, is, flies) =
      (written bytes w.gate.place (open_gate ∷ []), opened_gate w base other ready bytes is, ap (λ (m : List Call). has_begun w.gate.place m) flies.is ∙ begins true flies.earlier, landed w.gate.place (open_gate ∷ []) bytes made flies)
  gate_on SyncsOpen false made is = unsynced made (gate_good SyncsOpen made is)
  gate_on Written true made is = is
  gate_on Written false made is = is
  gate_on (Broken why) true made good = good
  gate_on (Broken why) false made good = good

  -- where the triples are synced the slot's machine begins
  gate_begins : (bytes : List ℕ) (made : List Call) (gate : Gating) → gate ≡ first_gate → IsStored w base other ready bytes → IsSettled opened (made ++ before) bytes → InGate gate made
  gate_begins bytes made gate first is settles = subst (λ (g : Gating). InGate g made) (sym first) (by_test (byte_at base w.gate.place == open_gate) refl)
    where
      by_test : (t : Bool) → (byte_at base w.gate.place == open_gate) ≡ t → InGate (gate_start t) made
      by_test true e = (bytes, is, (let stood : byte_at base w.gate.place ≡ 165 = grind (arith, nat_tests, e) in stood), settles)
      by_test false e = (bytes, shut_already w base other ready bytes is (let closed : byte_at base w.gate.place ≢ 165 = grind (arith, nat_tests, e) in closed), settles)

  -- the machine in these states
  abbrev pub stands_at : Committing → Gating → CommitWriter
  stands_at step gate = record w { gate = record w.gate { step = gate }; step = step }

  -- the machine has come so far, and what is made fits
  pub record IsSound (v : CommitWriter) (made : List Call) : Type 0 where
    pub is : v ≡ stands_at v.step v.gate.step
    pub along : At v.step v.gate.step made

  -- one step of a commit
  pub step_on : (step : Committing) (gate : Gating) (done : Bool) (made : List Call) → At step gate made → IsSound (commit_next (stands_at step gate) done) (with_call (commit_call (stands_at step gate) done) made)
  unfolding commit_step_call commit_step_next gate_after
  step_on to.WritesTriples gate true made (first, settles) = record { is = refl; along = (first, inl (record { earlier = made; is = refl; settles = settles })) }
  step_on to.WritesTriples gate false made (first, settles) = record {
    is = refl;
    along = λ image left. last_outcome (Write w.area w.triples false ∷ made) image (torn_triples w base other ready image (left_torn opened (made ++ before) base settles w.area w.triples false image left));
  }
  step_on to.SyncsTriples gate true made (first, inl flies) = record {
    is = refl;
    along = gate_begins (written base w.area w.triples) (Sync true ∷ made) gate first (stored w base other ready) (landed w.area w.triples base made flies);
  }
  step_on to.SyncsTriples gate true made (first, inr none) = record {
    is = refl;
    along = gate_begins base (Sync true ∷ made) gate first (stored_none w base other ready none.0) (settled_sync opened (made ++ before) base none.1);
  }
  step_on to.SyncsTriples gate false made is = record { is = refl; along = unsynced made (all_good to.SyncsTriples gate made is) }
  step_on to.PutsSlot gate done made is = record { is = refl; along = gate_on gate done made is }
  step_on (to.Broken why) gate true made good = record { is = refl; along = good }
  step_on (to.Broken why) gate false made good = record { is = refl; along = good }

  next_sound : (v : CommitWriter) (done : Bool) (made : List Call) → IsSound v made → IsSound (commit_next v done) (with_call (commit_call v done) made)
  next_sound v done made was = subst (λ (u : CommitWriter). IsSound (commit_next u done) (with_call (commit_call u done) made)) (sym was.is) (step_on v.step v.gate.step done made was.along)

  -- before the first step
  begin_sound : IsSettled opened before base → IsSound w []
  begin_sound settles = record { is = refl; along = by_triples w.triples refl }
    where
      by_triples : (triples : List ℕ) → w.triples ≡ triples → At w.step w.gate.step []
      by_triples [] none = subst (λ (s : Committing). At s w.gate.step []) (sym (ready.begins ∙ ap commit_start none)) (ready.gate_begins, inr (none, settles))
      by_triples (b ∷ rest) some = subst (λ (s : Committing). At s w.gate.step []) (sym (ready.begins ∙ ap commit_start some)) (ready.gate_begins, settles)

  -- after any steps
  pub run_sound : IsSettled opened before base → (steps : List Bool) → IsSound (commit_run w steps) (commit_made w steps)
  unfolding commit_run commit_made
  run_sound settles [] = begin_sound settles
  run_sound settles (done ∷ earlier) = next_sound (commit_run w earlier) done (commit_made w earlier) (run_sound settles earlier)

  -- once the last sync has answered, what a crash leaves has the new commit in force
  pub written_new : (v : CommitWriter) (made : List Call) → IsSound v made → commit_answer v ≡ answer.Written → (image : List ℕ) → MayBeLeft made image → NewStands w image
  unfolding commit_step_answer gate_answer
  written_new v made is end image left = by_step v.step v.gate.step is.along (sym (ap (λ (u : CommitWriter). commit_answer u) is.is) ∙ end)
    where
      by_step : (step : Committing) (gate : Gating) → At step gate made → commit_answer (stands_at step gate) ≡ answer.Written → NewStands w image
      by_step to.WritesTriples gate along ends = absurd (cc)
      by_step to.SyncsTriples gate along ends = absurd (cc)
      by_step to.PutsSlot Closes along ends = absurd (cc)
      by_step to.PutsSlot SyncsClosed along ends = absurd (cc)
      by_step to.PutsSlot WritesBody along ends = absurd (cc)
      by_step to.PutsSlot SyncsBody along ends = absurd (cc)
      by_step to.PutsSlot Opens along ends = absurd (cc)
      by_step to.PutsSlot SyncsOpen along ends = absurd (cc)
      by_step to.PutsSlot Written (bytes, stands, begun, settles) ends =
          subst (λ (s : List ℕ). NewStands w s) (sym (left_same opened (made ++ before) bytes settles image left)) (new_in_force w base other ready bytes stands)
      by_step to.PutsSlot (Broken why) along ends = absurd (cc)
      by_step (to.Broken why) gate along ends = absurd (cc)

  -- the gate is closed only where it stands open
  pub closes_open : (v : CommitWriter) (made : List Call) (done : Bool) → IsSound v made → commit_call v done ≡ Some (Write w.gate.place (closed_gate ∷ []) done) → byte_at (reads_as opened (made ++ before)) w.gate.place ≡ open_gate
  unfolding commit_step_call gate_step_call
  closes_open v made done is calls = by_step v.step v.gate.step is.along (sym (ap (λ (u : CommitWriter). commit_call u done) is.is) ∙ calls)
    where
      by_step : (step : Committing) (gate : Gating) → At step gate made → commit_call (stands_at step gate) done ≡ Some (Write w.gate.place (closed_gate ∷ []) done) → byte_at (reads_as opened (made ++ before)) w.gate.place ≡ open_gate
      by_step to.WritesTriples gate along same = let here : w.area ≡ w.gate.place = cc in absurd (omega (arith, here, ready.behind, low w base other ready))
      by_step to.SyncsTriples gate along same = absurd (cc)
      by_step to.PutsSlot Closes (bytes, stands, stood, settles) same = ap (λ (s : List ℕ). byte_at s w.gate.place) settles.reads ∙ stored_gate w base other ready bytes stands ∙ stood
      by_step to.PutsSlot SyncsClosed along same = absurd (cc)
      by_step to.PutsSlot WritesBody along same = let here : w.gate.place + w.gate.start ≡ w.gate.place = cc in absurd (omega (arith, here, ready.body))
      by_step to.PutsSlot SyncsBody along same = absurd (cc)
      by_step to.PutsSlot Opens along same = let zero_is : open_gate ≡ closed_gate = cc in absurd (omega (arith, zero_is))
      by_step to.PutsSlot SyncsOpen along same = absurd (cc)
      by_step to.PutsSlot Written along same = absurd (cc)
      by_step to.PutsSlot (Broken why) along same = absurd (cc)
      by_step (to.Broken why) gate along same = absurd (cc)
