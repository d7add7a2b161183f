-- That commits follow each other: where all is written, each call has succeeded and the newest was a sync.
use Rattle.std.proofs.Common.{◌≡◌, ℕ, List, [], ◌∷◌, ◌++◌, Bool, true, false, refl, sym, ap, subst, arith}
use Rattle.std.specs.Prelude.{⊤, Option, Some, None}
use Rattle.fkv_disk.specs.Bytes.{byte_at}
use Rattle.fkv_disk.specs.Calls.{Call, Sync, AllDone, MayLeave, reads_as}
use Rattle.fkv_disk.specs.Forgotten.{since_sync}
use Rattle.fkv_manifest.specs.declared.answers.WriteAnswer.TheVariants as answer
use Rattle.fkv_manifest.specs.declared.commits.Committing.{Committing}
use Rattle.fkv_manifest.specs.declared.commits.Committing.TheVariants as to
use Rattle.fkv_manifest.specs.declared.gates.Gating.{Gating}
use Rattle.fkv_manifest.specs.declared.gates.Gating.TheVariants.{Closes, SyncsClosed, WritesBody, SyncsBody, Opens, SyncsOpen, Written, Broken}
use Rattle.fkv_manifest.specs.Committing.{CommitWriter, commit_start, commit_call, commit_next, commit_answer, commit_step_call, commit_step_next, commit_step_answer, gate_after}
use Rattle.fkv_manifest.specs.Gating.{gate_step_call, gate_next, gate_answer}
use Rattle.fkv_manifest.specs.Kept.{Begins, IsFinished}
use Rattle.fkv_manifest.specs.Made.{commit_run, commit_made, with_call}
use Rattle.fkv_manifest.proofs.Settled.{IsSettled, settled}
use Rattle.fkv_manifest.proofs.Along.{IsSound, run_sound, all_good, written_new}

-- what is known of the calls, by how far the machine has come
abbrev AllDoneAt : Committing → Gating → List Call → Type 0
AllDoneAt to.WritesTriples gate calls = AllDone calls
AllDoneAt to.SyncsTriples gate calls = AllDone calls
AllDoneAt to.PutsSlot Written calls = AllDone calls × (since_sync calls ≡ [])
AllDoneAt to.PutsSlot (Broken why) calls = ⊤
AllDoneAt to.PutsSlot gate calls = AllDone calls
AllDoneAt (to.Broken why) gate calls = ⊤

-- a sync is behind the triples, wherever the slot's machine stands
slot_begins : (gate : Gating) (calls : List Call) → AllDone calls → AllDoneAt to.PutsSlot gate (Sync true ∷ calls)
slot_begins Closes calls all = all
slot_begins SyncsClosed calls all = all
slot_begins WritesBody calls all = all
slot_begins SyncsBody calls all = all
slot_begins Opens calls all = all
slot_begins SyncsOpen calls all = all
slot_begins Written calls all = (all, refl)
slot_begins (Broken why) calls all = tt

slot_goes_on : (place start : ℕ) (slot : List ℕ) (gate : Gating) (done : Bool) (calls : List Call) → AllDoneAt to.PutsSlot gate calls → AllDoneAt to.PutsSlot (gate_next gate done) (with_call (gate_step_call place start slot gate done) calls)
unfolding gate_next gate_step_call
slot_goes_on place start slot Closes true calls all = all
slot_goes_on place start slot SyncsClosed true calls all = all
slot_goes_on place start slot WritesBody true calls all = all
slot_goes_on place start slot SyncsBody true calls all = all
slot_goes_on place start slot Opens true calls all = all
slot_goes_on place start slot SyncsOpen true calls all = (all, refl)
slot_goes_on place start slot Written true calls all = all
slot_goes_on place start slot (Broken why) true calls all = tt
slot_goes_on place start slot Closes false calls all = tt
slot_goes_on place start slot SyncsClosed false calls all = tt
slot_goes_on place start slot WritesBody false calls all = tt
slot_goes_on place start slot SyncsBody false calls all = tt
slot_goes_on place start slot Opens false calls all = tt
slot_goes_on place start slot SyncsOpen false calls all = tt
slot_goes_on place start slot Written false calls all = all
slot_goes_on place start slot (Broken why) false calls all = tt

goes_on : (v : CommitWriter) (step : Committing) (done : Bool) (calls : List Call) → AllDoneAt step v.gate.step calls
    → AllDoneAt (commit_step_next step done) (gate_after v.gate step done).step (with_call (commit_step_call v.area v.triples v.gate step done) calls)
unfolding commit_step_call commit_step_next gate_after
goes_on v to.WritesTriples true calls all = all
goes_on v to.WritesTriples false calls all = tt
goes_on v to.SyncsTriples true calls all = slot_begins v.gate.step calls all
goes_on v to.SyncsTriples false calls all = tt
goes_on v to.PutsSlot done calls all = slot_goes_on v.gate.place v.gate.start v.gate.slot v.gate.step done calls all
goes_on v (to.Broken why) true calls all = tt
goes_on v (to.Broken why) false calls all = tt

-- the calls of a step before those that came first
appended : (call : Option Call) (made before : List Call) → with_call call made ++ before ≡ with_call call (made ++ before)
appended None made before = refl
appended (Some call) made before = refl

all_along : (w : CommitWriter) (before : List Call) → AllDoneAt w.step w.gate.step before → (steps : List Bool) → AllDoneAt (commit_run w steps).step (commit_run w steps).gate.step (commit_made w steps ++ before)
unfolding commit_run commit_made
all_along w before all [] = all
all_along w before all (done ∷ earlier) =
    subst (λ (calls : List Call). AllDoneAt (commit_next (commit_run w earlier) done).step (commit_next (commit_run w earlier) done).gate.step calls)
    (sym (appended (commit_call (commit_run w earlier) done) (commit_made w earlier) before))
    (goes_on (commit_run w earlier) (commit_run w earlier).step done (commit_made w earlier ++ before) (all_along w before all earlier))

-- at the end
all_at_end : (v : CommitWriter) (step : Committing) (gate : Gating) (calls : List Call) → AllDoneAt step gate calls → commit_step_answer (record v.gate { step = gate }) step ≡ answer.Written → AllDone calls × (since_sync calls ≡ [])
unfolding commit_step_answer gate_answer
all_at_end v to.WritesTriples gate calls all ends = absurd (cc)
all_at_end v to.SyncsTriples gate calls all ends = absurd (cc)
all_at_end v to.PutsSlot Closes calls all ends = absurd (cc)
all_at_end v to.PutsSlot SyncsClosed calls all ends = absurd (cc)
all_at_end v to.PutsSlot WritesBody calls all ends = absurd (cc)
all_at_end v to.PutsSlot SyncsBody calls all ends = absurd (cc)
all_at_end v to.PutsSlot Opens calls all ends = absurd (cc)
all_at_end v to.PutsSlot SyncsOpen calls all ends = absurd (cc)
all_at_end v to.PutsSlot Written calls all ends = all
all_at_end v to.PutsSlot (Broken why) calls all ends = absurd (cc)
all_at_end v (to.Broken why) gate calls all ends = absurd (cc)

begun_all : (w : CommitWriter) (gate : Gating) (before : List Call) (triples : List ℕ) → AllDone before → AllDoneAt (commit_start triples) gate before
begun_all w gate before [] all = all
begun_all w gate before (b ∷ rest) all = all

-- what is settled may be left
pub may_be_left : (opened : List ℕ) (calls : List Call) (bytes : List ℕ) → IsSettled opened calls bytes → MayLeave opened calls bytes
may_be_left opened calls bytes is = record {
  no_shorter = omega (arith, is.end);
  no_longer = omega (arith, is.far);
  kept = λ i below u s. ap (λ (b : List ℕ). byte_at b i) (sym is.reads);
}

pub finishes : (w : CommitWriter) (opened : List ℕ) (before : List Call) (other : ℕ) (steps : List Bool) → Begins w opened before other → commit_answer (commit_run w steps) ≡ answer.Written → IsFinished w opened (commit_made w steps ++ before)
finishes w opened before other steps begins end = record {
  all_done = all.0;
  synced = all.1;
  stands = written_new w opened before (reads_as opened before) other begins.ready (commit_run w steps) (commit_made w steps) sound end (reads_as opened (commit_made w steps ++ before)) left;
  long = omega (arith, begins.ready.long, (all_good w opened before (reads_as opened before) other begins.ready (commit_run w steps).step (commit_run w steps).gate.step (commit_made w steps) sound.along (reads_as opened (commit_made w steps ++ before)) left).0.no_shorter);
}
  where
    sound : IsSound w opened before (reads_as opened before) other begins.ready (commit_run w steps) (commit_made w steps)
    sound = run_sound w opened before (reads_as opened before) other begins.ready (settled opened before begins.all_done begins.synced) steps

    first : AllDoneAt w.step w.gate.step before
    first = subst (λ (s : Committing). AllDoneAt s w.gate.step before) (sym begins.ready.begins) (begun_all w w.gate.step before w.triples begins.all_done)

    all : AllDone (commit_made w steps ++ before) × (since_sync (commit_made w steps ++ before) ≡ [])
    all = all_at_end (commit_run w steps) (commit_run w steps).step (commit_run w steps).gate.step (commit_made w steps ++ before) (all_along w before first steps) end

    left : MayLeave opened (commit_made w steps ++ before) (reads_as opened (commit_made w steps ++ before))
    left = may_be_left opened (commit_made w steps ++ before) (reads_as opened (commit_made w steps ++ before)) (settled opened (commit_made w steps ++ before) all.0 all.1)
