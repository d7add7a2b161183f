-- What a commit writes ends where the log begins: its triples fit an area, and its slot lies before the areas.
use Rattle.std.proofs.Common.{◌≡◌, ◌∙◌, ℕ, zero, suc, ◌+◌, ◌*◌, ◌^◌, ◌≤◌, List, [], ◌∷◌, length, Bool, true, false, refl, sym, ap, subst, arith}
use Rattle.std.specs.Prelude.{◌==◌, ◌%◌, drop, if◌then◌else◌, nat_le}
use Rattle.std.proofs.lemmas.Bool.Decides.{nat_tests}
use Rattle.std.proofs.lemmas.List.{length-append, length-drop, length-take}
use Rattle.std.proofs.lemmas.List.Concat.{flat_map-cons}
use Rattle.std.proofs.lemmas.List.FromFn.{length-map-range_with_len}
use Rattle.fkv_base.specs.declared.numbers.Serial.{Serial}
use Rattle.fkv_base.specs.declared.shapes.Shape.{Shape}
use Rattle.fkv_record.specs.Manifest.{SlotSaid, newest_bytes, newest_numbers}
use Rattle.fkv_record.specs.Places.{most_triples, area_place, record_place}
use Rattle.fkv_record.specs.declared.lost_ranges.LostRange.{LostRange}
use Rattle.fkv_record.proofs.Shown.{length-spelled}
use Rattle.fkv_disk.specs.Bytes.{range_end}
use Rattle.fkv_plane.specs.declared.places.Places.{Places}
use Rattle.fkv_checkpoint.specs.Copied.{copied_after}
use Rattle.fkv_checkpoint.specs.Triples.{CopiedEntry, copied_bytes, all_bytes}
use Rattle.fkv_checkpoint.proofs.Shown.{copy_fits}
use Rattle.fkv_commit.specs.declared.commits.Commit.{Commit}
use Rattle.fkv_base.specs.declared.commits.CommitKind.{CommitKind}
use Rattle.fkv_base.specs.declared.commits.CommitKind.TheVariants.{Full, Log}
use Rattle.fkv_manifest.specs.declared.commits.Committing.{Committing}
use Rattle.fkv_manifest.specs.declared.commits.Committing.TheVariants as writing_step
use Rattle.fkv_manifest.specs.declared.gates.Gating.{Gating}
use Rattle.fkv_manifest.specs.declared.gates.Gating.TheVariants as gating
use Rattle.fkv_manifest.specs.Committing.{CommitWriter, commit_step_call, commit_call, gate_after, commit_next}
use Rattle.fkv_manifest.specs.Gating.{GateWriter, gate_step_call}
use Rattle.fkv_manifest.specs.Made.{commit_run}
use Rattle.fkv_manifest.proofs.Shown.{newest_spelled}
use Rattle.fkv_keeper.specs.declared.keepers.Keeping.{Keeping}
use Rattle.fkv_keeper.specs.declared.keepers.Keeping.TheVariants.{Writes}
use Rattle.fkv_keeper.specs.declared.last_commits.Area.{Area}
use Rattle.fkv_keeper.specs.declared.last_commits.Area.TheVariants.{First, Second}
use Rattle.fkv_keeper.specs.declared.last_commits.Checkpoint.{Checkpoint}
use Rattle.fkv_keeper.specs.CheckpointLaws.{IsBehindWait, UsesAs, copy_replies}
use Rattle.fkv_keeper.specs.KeeperLaws.{AreWritesOfCommit}
use Rattle.fkv_keeper.specs.KeeperRun.{IsOpened, KeeperEvent, Writing, has_failed, keeper_run, number_open, writing}
use Rattle.fkv_keeper.specs.Keeping.{KeeperState, lost_left}
use Rattle.fkv_keeper.specs.LastCommits.{area_number, slot_said, slot_written, point_written}
use Rattle.fkv_keeper.proofs.Shown.{come_behind, IsSound, run_sound, run_used}
use Rattle.law_world.specs.GuardKeeper.DeviceCalls.{SparesLog, WritesSpareLog}

-- sixteen bytes for each triple
length-all : (entries : List CopiedEntry) → length (all_bytes entries) ≡ 16 * length entries
unfolding all_bytes copied_bytes
length-all [] = refl
length-all (e ∷ entries) =
    let rest = length-all entries in
    let both = length-append (copied_bytes e) (all_bytes entries) in
    ap (λ (s : List ℕ). length s) (flat_map-cons copied_bytes e entries) ∙ omega (arith, both, rest)

-- a slot's size doesn't depend on the number that it names
unnumbered : (s : SlotSaid) → length (newest_numbers (record s { number = 0 })) ≡ length (newest_numbers s)
unnumbered s = refl

slot_length : (s : SlotSaid) → length s.points ≤ 32 → length s.lost ≤ 8 → length (newest_bytes s) ≡ 512
unfolding newest_bytes
slot_length s points lost =
    length-spelled (newest_numbers s) ∙ ap (λ (n : ℕ). 8 * n) (sym (unnumbered s)) ∙ sym (length-spelled (newest_numbers (record s { number = 0 })))
    ∙ (newest_spelled (record s { number = 0 }) (omega arith) points lost).whole

slot_whole : (shape : Shape) (c : Commit) (used : Checkpoint) (points : List Serial) (lost : List LostRange) → length (slot_written shape.sessions c.number c.begin c.end used points lost) ≡ 512
slot_whole shape c used points lost =
    slot_length (slot_said shape.sessions c.number c.begin c.end used points lost)
    (omega (arith, length-map-range_with_len (λ (session : ℕ). point_written points session) 0 shape.sessions, shape.limits.few_sessions))
    (omega (arith, length-take 8 lost))

slot_low : (b : Bool) → (if b then 512 else 1024) + 512 ≤ 1536
slot_low true = omega arith
slot_low false = omega arith

area_high : (shape : Shape) (a : Area) → area_place shape (area_number a) + 16 * most_triples shape ≤ record_place shape 0
area_high shape First = omega arith
area_high shape Second = omega arith

-- The triples fit below the log, and the slot, behind its gate, does.
record FitsBelow (shape : Shape) (w : CommitWriter) : Type 0 where
  triples : w.area + length w.triples ≤ record_place shape 0
  slot : w.gate.place + 512 ≤ 1536
  start : w.gate.start ≡ 1
  whole : length w.gate.slot ≡ 512

-- so it is however far they have come
same_gate : (gate : GateWriter) (step : Committing) (done : Bool) → gate_after gate step done ≡ record gate { step = (gate_after gate step done).step }
unfolding gate_after
same_gate gate writing_step.PutsSlot done = refl
same_gate gate step done = refl

next_fits : (shape : Shape) (w : CommitWriter) (done : Bool) → FitsBelow shape w → FitsBelow shape (commit_next w done)
next_fits shape w done fits = record {
  triples = fits.triples;
  slot = subst (λ (gate : GateWriter). gate.place + 512 ≤ 1536) (sym (same_gate w.gate w.step done)) fits.slot;
  start = subst (λ (gate : GateWriter). gate.start ≡ 1) (sym (same_gate w.gate w.step done)) fits.start;
  whole = subst (λ (gate : GateWriter). length gate.slot ≡ 512) (sym (same_gate w.gate w.step done)) fits.whole;
}

run_fits : (shape : Shape) (first : CommitWriter) (answers : List Bool) → FitsBelow shape first → FitsBelow shape (commit_run first answers)
unfolding commit_run
run_fits shape first [] fits = fits
run_fits shape first (done ∷ before) fits = next_fits shape (commit_run first before) done (run_fits shape first before fits)

-- a write that ends at some place
end_low : (at n end : ℕ) → at + n ≤ end → range_end at n ≤ end
end_low at zero end low = omega (arith, low)
end_low at (suc n) end low = low

test_true : (n end : ℕ) → n ≤ end → nat_le n end ≡ true
test_true n end low = grind (arith, nat_tests, low)

ends_low : (shape : Shape) (at : ℕ) (bytes : List ℕ) → at + length bytes ≤ record_place shape 0 → nat_le (range_end at (length bytes)) (record_place shape 0) ≡ true
ends_low shape at bytes low = test_true (range_end at (length bytes)) (record_place shape 0) (end_low at (length bytes) (record_place shape 0) low)

log_high : (shape : Shape) → 1536 ≤ record_place shape 0
log_high shape = omega arith

gate_spares : (shape : Shape) (gate : GateWriter) (step : Gating) (done : Bool) → gate.place + 512 ≤ 1536 → gate.start ≡ 1 → length gate.slot ≡ 512 → SparesLog shape (gate_step_call gate.place gate.start gate.slot step done)
unfolding gate_step_call
gate_spares shape gate gating.Closes done low first whole = ends_low shape gate.place (0 ∷ []) (omega (arith, low, log_high shape))
gate_spares shape gate gating.SyncsClosed done low first whole = refl
gate_spares shape gate gating.WritesBody done low first whole =
    ends_low shape (gate.place + gate.start) (drop gate.start gate.slot) (omega (arith, low, first, whole, length-drop gate.start gate.slot, log_high shape))
gate_spares shape gate gating.SyncsBody done low first whole = refl
gate_spares shape gate gating.Opens done low first whole = ends_low shape gate.place (165 ∷ []) (omega (arith, low, log_high shape))
gate_spares shape gate gating.SyncsOpen done low first whole = refl
gate_spares shape gate gating.Written done low first whole = tt
gate_spares shape gate (gating.Broken why) done low first whole = tt

step_spares : (shape : Shape) (w : CommitWriter) (step : Committing) (done : Bool) → FitsBelow shape w → SparesLog shape (commit_step_call w.area w.triples w.gate step done)
unfolding commit_step_call
step_spares shape w writing_step.WritesTriples done fits = ends_low shape w.area w.triples fits.triples
step_spares shape w writing_step.SyncsTriples done fits = refl
step_spares shape w writing_step.PutsSlot done fits = gate_spares shape w.gate w.gate.step done fits.slot fits.start fits.whole
step_spares shape w (writing_step.Broken why) done fits = tt

call_spares : (shape : Shape) (w : CommitWriter) (done : Bool) → FitsBelow shape w → SparesLog shape (commit_call w done)
call_spares shape w done fits = step_spares shape w w.step done fits

-- As the writes begin: no more triples than an area has room for.
module _ (shape : Shape) (p : Places) (buckets : p.buckets ≡ 2 ^ shape.bucket_bits) (overflow : p.overflow ≡ shape.overflow) where
  triples_few : (replies : List ℕ) (w : Writing) (s : KeeperState) (c : Commit) (kind : CommitKind) → UsesAs kind p replies w s c → length w.first.triples ≤ 16 * most_triples shape
  triples_few replies w s c Full uses =
      let same : length w.first.triples ≡ length (all_bytes (copied_after p replies)) = ap (λ (xs : List ℕ). length xs) uses.triples in
      omega (arith, same, length-all (copied_after p replies), copy_fits p replies, buckets, overflow)
  triples_few replies w s c Log uses =
      let none : length w.first.triples ≡ 0 = ap (λ (xs : List ℕ). length xs) uses.triples in
      omega (arith, none)

  first_fits : (s : KeeperState) (c : Commit) (first : CommitWriter) → AreWritesOfCommit shape s c first → length first.triples ≤ 16 * most_triples shape → FitsBelow shape first
  first_fits s c first are few = record {
    triples = (let high = area_high shape s.used.area in let at = are.area in omega (arith, few, high, at));
    slot = subst (λ (gate : GateWriter). gate.place + 512 ≤ 1536) (sym are.gate) (slot_low (c.number.0 % 2 == 0));
    start = ap (λ (gate : GateWriter). gate.start) are.gate;
    whole = ap (λ (gate : GateWriter). length gate.slot) are.gate ∙ slot_whole shape c s.used s.seek.points (lost_left c.kind s.lost);
  }

  module _ (opening : KeeperState) (events : List KeeperEvent) (opened : IsOpened opening) where
    abbrev now : KeeperState
    now = keeper_run shape p opening events

    abbrev its : Writing
    its = writing shape p opening events

    -- it is known of the state at its writes that they are what is left of the commit's
    writes_fit : now.step ≡ Writes → FitsBelow shape now.writes
    writes_fit at =
        let used = run_used shape p opening events opened (come_behind now (subst IsBehindWait (sym at) tt)) in
        let there : KeeperState = record now { step = Writes } in
        let sound = subst (λ (x : KeeperState). IsSound shape (has_failed shape p opening events) its (number_open shape p opening events) x) (ap (λ (step : Keeping). record now { step = step }) at) (run_sound shape p opening events opened) in
        let knows = sound.knows.1 in
        subst (λ (w : CommitWriter). FitsBelow shape w) (sym knows.run)
        (run_fits shape its.first its.answers (first_fits there knows.commit its.first knows.writes (triples_few (copy_replies shape p opening events) its now used.commit used.commit.kind used.uses)))

    by_step : (step : Keeping) → now.step ≡ step → WritesSpareLog shape now step
    by_step Writes at = λ done. call_spares shape now.writes done (writes_fit at)
    by_step step at = tt

-- at every moment of a keeper's run
pub writes_spare_log : (shape : Shape) (p : Places) (opening : KeeperState) (events : List KeeperEvent) → IsOpened opening → p.buckets ≡ 2 ^ shape.bucket_bits → p.overflow ≡ shape.overflow
    → WritesSpareLog shape (keeper_run shape p opening events) (keeper_run shape p opening events).step
writes_spare_log shape p opening events opened buckets overflow = by_step shape p buckets overflow opening events opened (keeper_run shape p opening events).step refl
