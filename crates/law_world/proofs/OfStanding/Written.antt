-- What stands while a commit is written, and once it is finished.
use Rattle.std.proofs.Common.{◌≡◌, ◌⊎◌, inl, inr, ℕ, ◌+◌, ◌*◌, ◌^◌, ◌<◌, ◌≤◌, List, [], ◌++◌, length, Bool, true, false, refl, sym, ◌∙◌, ap, subst, arith}
use Rattle.std.specs.Prelude.{◌==◌, ◌%◌, Some, if◌then◌else◌}
use Rattle.std.proofs.lemmas.Bool.Decides.{nat_tests}
use Rattle.std.proofs.lemmas.List.{length-take}
use Rattle.std.proofs.lemmas.List.FromFn.{length-map-range_with_len}
use Rattle.fkv_base.specs.declared.numbers.Serial.{Serial}
use Rattle.fkv_base.specs.declared.numbers.Version.{Version}
use Rattle.fkv_base.specs.declared.shapes.Shape.{Shape}
use Rattle.fkv_record.specs.declared.lost_ranges.LostRange.{LostRange}
use Rattle.fkv_record.specs.Places.{number_at, most_triples, area_place}
use Rattle.fkv_disk.specs.Bytes.{byte_at, bytes_at}
use Rattle.fkv_disk.specs.Calls.{Call, MayLeave, reads_as}
use Rattle.fkv_commit.specs.declared.commits.Commit.{Commit}
use Rattle.fkv_base.specs.declared.commits.CommitKind.{CommitKind}
use Rattle.fkv_base.specs.declared.commits.CommitKind.TheVariants.{Full, Log}
use Rattle.fkv_manifest.specs.declared.answers.WriteAnswer.TheVariants as answer
use Rattle.fkv_manifest.specs.Gating.{gate_start, open_gate}
use Rattle.fkv_manifest.specs.Committing.{commit_answer}
use Rattle.fkv_manifest.specs.Kept.{AreTheSlots, Begins, IsElsewhere, SparesRest, LastStands, NewStands, IsFinished, IsSlotOf}
use Rattle.fkv_manifest.specs.Made.{commit_run, commit_made, has_begun}
use Rattle.fkv_manifest.specs.Newest.{slot_in}
use Rattle.fkv_manifest.proofs.Shown.{Outcome, IsSound, run_sound, all_good, written_new, finishes, settled, may_be_left, newest_spelled}
use Rattle.fkv_keeper.specs.declared.last_commits.Area.{Area}
use Rattle.fkv_keeper.specs.declared.last_commits.Area.TheVariants.{First, Second}
use Rattle.fkv_keeper.specs.declared.last_commits.Checkpoint.{Checkpoint}
use Rattle.fkv_keeper.specs.Keeping.{Finality, KeeperState, writes_of, lost_left}
use Rattle.fkv_keeper.specs.KeeperRun.{Writing}
use Rattle.fkv_keeper.specs.LastCommits.{other_area, area_number, is_gate_open, gate_opened, slot_place, slot_said, slot_written, point_written}
use Rattle.law_world.specs.Standing.Standing.{Standing, IsInForce, TriplesStand, triples_in, triples_used}
use Rattle.law_world.proofs.OfStanding.Fronts.{Has, farther, area_low, same_at, slot_byte, gate_same, gate_told}
use Rattle.law_world.proofs.OfStanding.Flushed.{IsCalm}

-- slots take turns
pub slots_apart : (number last : Version) → number.0 ≡ last.0 + 1 → AreTheSlots (slot_place number) (slot_place last)
slots_apart number last next = by_test (last.0 % 2 == 0) refl
  where
    by_test : (t : Bool) → (last.0 % 2 == 0) ≡ t → AreTheSlots (slot_place number) (slot_place last)
    by_test true e =
        let odd : (number.0 % 2 == 0) ≡ false = grind (arith, nat_tests, e) in
        inr (ap (λ (b : Bool). if b then 512 else 1024) odd, ap (λ (b : Bool). if b then 512 else 1024) e)
    by_test false e =
        let even : (number.0 % 2 == 0) ≡ true = grind (arith, nat_tests, e) in
        inl (ap (λ (b : Bool). if b then 512 else 1024) even, ap (λ (b : Bool). if b then 512 else 1024) e)

-- the slot of a commit is that of an open one that names it
pub slot_names : (shape : Shape) (c : Commit) (used : Checkpoint) (points : List Serial) (lost : List LostRange) → c.number.0 < 2 ^ 64 → IsSlotOf c.number.0 (slot_written shape.sessions c.number c.begin c.end used points lost)
slot_names shape c used points lost fits =
    newest_spelled (slot_said shape.sessions c.number c.begin c.end used points lost) fits
    (omega (arith, length-map-range_with_len (λ (session : ℕ). point_written points session) 0 shape.sessions, shape.limits.few_sessions))
    (omega (arith, length-take 8 lost))

-- Where the triples of a commit lie: a full one writes the other area, and uses no more than it has room for; a log one writes none.
abbrev pub Lies : Shape → CommitKind → Checkpoint → Checkpoint → List ℕ → Type 0
Lies shape Full last used triples = (used.area ≡ other_area last.area) × (length triples ≡ 16 * used.triples) × (used.triples ≤ most_triples shape)
Lies shape Log last used triples = (used ≡ last) × (triples ≡ [])

-- the commit in hand is the next one
pub record IsNext (last : Finality) (c : Commit) : Type 0 where
  pub next : c.number.0 ≡ last.number.0 + 1
  pub fits : c.number.0 < 2 ^ 64

module _ (shape : Shape) (opened : List ℕ) (last : Finality) (its : Standing) where
  -- a commit is written, over what stood where its writes began
  pub record IsUnderWay (c : Commit) (used : Checkpoint) (w : Writing) (calls : List Call) : Type 0 where
    pub before : List Call
    pub has : Has shape last its (reads_as opened before)
    pub begins : Begins w.first opened before (slot_place last.number)
    pub made : calls ≡ commit_made w.first w.answers ++ before
    pub place : w.first.gate.place ≡ slot_place c.number
    pub named : number_at w.first.gate.slot 8 ≡ c.number.0
    pub area : w.first.area ≡ area_place shape (area_number used.area)
    pub lies : Lies shape c.kind last.checkpoint used w.first.triples

  -- the writes begin
  pub writes_begin : (s : KeeperState) (c : Commit) (used : Checkpoint) (calls : List Call) → s.last ≡ last → IsCalm shape opened last its calls → IsNext last c → Begins (writes_of shape s c used) opened calls (slot_place last.number)
  writes_begin s c used calls same calm next = record {
    all_done = calm.all_done;
    synced = calm.synced;
    ready = record {
      begins = refl;
      gate_begins = ap (λ (f : Finality). gate_start (is_gate_open f.gates c.number)) same ∙ ap gate_start (sym (gate_told shape last its (reads_as opened calls) c.number calm.has));
      slots = slots_apart c.number last.number next.next;
      body = refl;
      whole = slot.whole;
      is_open = slot.is_open;
      greater = (let old : number_at (slot_in (reads_as opened calls) (slot_place last.number)) 8 ≡ last.number.0 = ap (λ (b : List ℕ). number_at b 8) calm.has.stands.slot ∙ calm.has.named in omega (arith, old, slot.names, next.next));
      behind = area_low shape used.area;
      long = calm.has.long.slots;
      in_force = calm.has.stands.in_force;
    };
  }
    where
      slot : IsSlotOf c.number.0 (slot_written shape.sessions c.number c.begin c.end used s.seek.points (lost_left c.kind s.lost))
      slot = slot_names shape c used s.seek.points (lost_left c.kind s.lost) next.fits

  module _ (c : Commit) (used : Checkpoint) (w : Writing) (calls : List Call) (is : IsUnderWay c used w calls) where
    abbrev base : List ℕ
    base = reads_as opened is.before

    abbrev other : ℕ
    other = slot_place last.number

    sound : IsSound w.first opened is.before base other is.begins.ready (commit_run w.first w.answers) (commit_made w.first w.answers)
    sound = run_sound w.first opened is.before base other is.begins.ready (settled opened is.before is.begins.all_done is.begins.synced) w.answers

    outcome : (image : List ℕ) → MayLeave opened calls image → Outcome w.first opened is.before base other is.begins.ready (commit_made w.first w.answers) image
    outcome image left =
        all_good w.first opened is.before base other is.begins.ready (commit_run w.first w.answers).step (commit_run w.first w.answers).gate.step (commit_made w.first w.answers) sound.along image
        (subst (λ (m : List Call). MayLeave opened m image) is.made left)

    top : w.first.gate.place + 512 ≤ 1536
    top = by_slot is.begins.ready.slots
      where
        by_slot : AreTheSlots w.first.gate.place other → w.first.gate.place + 512 ≤ 1536
        by_slot (inl first) = omega (arith, first.0)
        by_slot (inr second) = omega (arith, second.0)

    -- the last checkpoint's triples are none that are written
    triples_elsewhere : (k : ℕ) → k < 16 * last.checkpoint.triples → IsElsewhere w.first (area_place shape (area_number last.checkpoint.area) + k)
    triples_elsewhere k below = (inr (omega (arith, top, area_low shape last.checkpoint.area)), by_kind c.kind is.lies)
      where
        by_area : (a : Area) (b : Area) → b ≡ other_area a → k < 16 * most_triples shape → (n : ℕ) → n ≤ 16 * most_triples shape
            → (area_place shape (area_number a) + k < area_place shape (area_number b)) ⊎ (area_place shape (area_number b) + n ≤ area_place shape (area_number a) + k)
        by_area First First e small n few = absurd (cc)
        by_area First Second e small n few = inl (omega (arith, small))
        by_area Second First e small n few = inr (omega (arith, few))
        by_area Second Second e small n few = absurd (cc)

        by_kind : (kind : CommitKind) → Lies shape kind last.checkpoint used w.first.triples
            → (area_place shape (area_number last.checkpoint.area) + k < w.first.area) ⊎ (w.first.area + length w.first.triples ≤ area_place shape (area_number last.checkpoint.area) + k)
        by_kind Full lies =
            subst (λ (a : ℕ). (area_place shape (area_number last.checkpoint.area) + k < a) ⊎ (a + length w.first.triples ≤ area_place shape (area_number last.checkpoint.area) + k)) (sym is.area)
            (by_area last.checkpoint.area used.area lies.0 (omega (arith, below, is.has.fit)) (length w.first.triples) (omega (arith, lies.1, lies.2)))
        by_kind Log lies =
            let none : length w.first.triples ≡ 0 = ap (λ (s : List ℕ). length s) lies.1 in
            let there : w.first.area ≡ area_place shape (area_number last.checkpoint.area) = is.area ∙ ap (λ (x : Checkpoint). area_place shape (area_number x.area)) lies.0 in
            inr (omega (arith, none, there))

    triples_spared : (image : List ℕ) → SparesRest w.first base image → triples_in shape image last.checkpoint ≡ its.triples
    triples_spared image spares =
        same_at image base (area_place shape (area_number last.checkpoint.area)) (16 * last.checkpoint.triples)
        (λ k below. spares.same (area_place shape (area_number last.checkpoint.area) + k) (is.has.long.triples k below) (triples_elsewhere k below))
        ∙ is.has.triples

    -- the triples stand, and one commit does
    pub under_way_triples : (image : List ℕ) → MayLeave opened calls image → TriplesStand shape last.checkpoint its image
    under_way_triples image left = record {
      same = triples_spared image (outcome image left).0;
      fit = is.has.fit;
      long = farther shape last.checkpoint (length base) (length image) is.has.long (outcome image left).0.no_shorter;
    }

    pub under_way_stands : (image : List ℕ) → MayLeave opened calls image → IsInForce last its image ⊎ NewStands w.first image
    under_way_stands image left = either (outcome image left).1
      where
        either : LastStands base other image ⊎ ((has_begun w.first.gate.place (commit_made w.first w.answers) ≡ true) × NewStands w.first image) → IsInForce last its image ⊎ NewStands w.first image
        either (inl last_stands) = inl (record { in_force = last_stands.in_force; slot = last_stands.slot ∙ is.has.stands.slot })
        either (inr new) = inr new.1

    -- all is written
    module _ (end : commit_answer (commit_run w.first w.answers) ≡ answer.Written) where
      pub written_stands : (image : List ℕ) → MayLeave opened calls image → NewStands w.first image
      written_stands image left =
          written_new w.first opened is.before base other is.begins.ready (commit_run w.first w.answers) (commit_made w.first w.answers) sound end image
          (subst (λ (m : List Call). MayLeave opened m image) is.made left)

      finished : IsFinished w.first opened calls
      finished = subst (λ (m : List Call). IsFinished w.first opened m) (sym is.made) (finishes w.first opened is.before other w.answers is.begins end)

      abbrev after : List ℕ
      after = reads_as opened calls

      spares : SparesRest w.first base after
      spares = (outcome after (may_be_left opened calls after (settled opened calls finished.all_done finished.synced))).0

      -- the new gate is open, and the other one is as it was
      new_gate : byte_at after w.first.gate.place ≡ 165
      new_gate =
          ap (λ (i : ℕ). byte_at after i) (let none : w.first.gate.place ≡ w.first.gate.place + 0 = omega arith in none)
          ∙ slot_byte after w.first.gate.place w.first.gate.slot 0 finished.stands.slot (omega arith) ∙ is.begins.ready.is_open

      is_open : (at : ℕ) → w.first.gate.place ≡ at → (byte_at after at == open_gate) ≡ true
      is_open at e = let here : byte_at after at ≡ 165 = subst (λ (i : ℕ). byte_at after i ≡ 165) e new_gate in grind (arith, nat_tests, here)

      abbrev opened_last : Bool × Bool
      opened_last = gate_opened last.gates c.number

      abbrev gates_if : Bool → Bool × Bool
      gates_if t = if t then (true, last.gates.1) else (last.gates.0, true)

      gates : ((byte_at after 512 == open_gate) ≡ opened_last.0) × ((byte_at after 1024 == open_gate) ≡ opened_last.1)
      gates = by_test (c.number.0 % 2 == 0) is.place
        where
          by_test : (t : Bool) → w.first.gate.place ≡ (if t then 512 else 1024)
              → ((byte_at after 512 == open_gate) ≡ (gates_if t).0) × ((byte_at after 1024 == open_gate) ≡ (gates_if t).1)
          by_test true e = (
            is_open 512 e,
            gate_same after base 1024 last.gates.1 (spares.same 1024 (omega (arith, is.begins.ready.long)) (inr (omega (arith, e)), inl (omega (arith, is.begins.ready.behind)))) is.has.second_gate,
          )
          by_test false e = (
            gate_same after base 512 last.gates.0 (spares.same 512 (omega (arith, is.begins.ready.long)) (inl (omega (arith, e)), inl (omega (arith, is.begins.ready.behind)))) is.has.first_gate,
            is_open 1024 e,
          )

      -- what stands of the new one
      abbrev pub new_last : List Serial → Finality
      new_last points = record { number = c.number; begin = c.begin; points = points; checkpoint = used; gates = opened_last }

      abbrev pub new_standing : Standing
      new_standing = record { slot = w.first.gate.slot; triples = triples_used c.kind w.first.triples its.triples }

      triples_now : (kind : CommitKind) → Lies shape kind last.checkpoint used w.first.triples
          → (triples_in shape after used ≡ triples_used kind w.first.triples its.triples) × (used.triples ≤ most_triples shape) × ((k : ℕ) → k < 16 * used.triples → area_place shape (area_number used.area) + k < length after)
      triples_now Full lies = (
        subst (λ (n : ℕ). bytes_at after (area_place shape (area_number used.area)) n ≡ w.first.triples) lies.1 (subst (λ (a : ℕ). bytes_at after a (length w.first.triples) ≡ w.first.triples) is.area finished.stands.triples),
        lies.2,
        λ k below. omega (arith, finished.stands.reaches k (omega (arith, below, lies.1)), is.area),
      )
      triples_now Log lies = (
        ap (λ (x : Checkpoint). triples_in shape after x) lies.0 ∙ triples_spared after spares,
        subst (λ (x : Checkpoint). x.triples ≤ most_triples shape) (sym lies.0) is.has.fit,
        subst (λ (x : Checkpoint). (k : ℕ) → k < 16 * x.triples → area_place shape (area_number x.area) + k < length after) (sym lies.0)
            (λ k below. omega (arith, is.has.long.triples k below, spares.no_shorter)),
      )

      pub finished_calm : (points : List Serial) → IsCalm shape opened (new_last points) new_standing calls
      finished_calm points = record {
        all_done = finished.all_done;
        synced = finished.synced;
        has = record {
          stands = record {
            in_force = finished.stands.in_force ∙ ap (λ (n : ℕ). Some n) is.place;
            slot = subst (λ (n : ℕ). slot_in after n ≡ w.first.gate.slot) is.place finished.stands.slot;
          };
          named = is.named;
          first_gate = gates.0;
          second_gate = gates.1;
          triples = (triples_now c.kind is.lies).0;
          fit = (triples_now c.kind is.lies).1;
          long = record { slots = finished.long; triples = (triples_now c.kind is.lies).2 };
        };
      }
