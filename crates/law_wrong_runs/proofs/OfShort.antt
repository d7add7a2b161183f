-- The images that a commit leaves which is written before its log is flushed. They end behind the slots, and all else is as the law of prefixes asks.
use Rattle.std.proofs.Common.{◌≡◌, inl, inr, ℕ, zero, suc, ◌≤◌, ◌∙◌, Bool, true, false, List, [], ◌∷◌, ◌++◌, length, drop, map, refl, sym, ap, subst, arith}
use Rattle.std.proofs.lemmas.Bool.Decides.{nat_tests}
use Rattle.std.proofs.lemmas.List.{length-drop, length-replicate}
use Rattle.std.specs.Int.{w64, from_le_bytes}
use Rattle.std.specs.Prelude.{◌*◌, ◌==◌, ◌&&◌, cond, count_by, if◌then◌else◌, nat_le, nat_lt, replicate}
use Rattle.fkv_base.specs.declared.numbers.Serial.{Serial}
use Rattle.fkv_base.specs.declared.numbers.Version.{Version}
use Rattle.fkv_base.specs.declared.shapes.Shape.{Shape}
use Rattle.fkv_creating.specs.Created.{IsCreated, IsNewStore, created_bytes, laid, new_said}
use Rattle.fkv_disk.specs.Bytes.{range_end, written}
use Rattle.fkv_disk.specs.Calls.{Call, MayLeave, Sync, Write, far_end, reads_as}
use Rattle.fkv_disk.specs.Stays.{reads_itself, reads_may_stay}
use Rattle.fkv_disk.proofs.Shown.{length-written}
use Rattle.fkv_manifest.specs.Kept.{IsSlotOf, NewStands}
use Rattle.fkv_manifest.specs.Made.{commit_made}
use Rattle.fkv_map.specs.History.{IsLegal, content, is_update, kept, point_of}
use Rattle.fkv_map.specs.declared.history.HistoryEntry.{HistoryEntry}
use Rattle.fkv_newest.specs.Newest.{HasShape, IsNewestOf}
use Rattle.fkv_newest.specs.declared.newest_slots.Newest.{Newest}
use Rattle.fkv_opening.specs.Opened.{IsStoreOf}
use Rattle.fkv_opening.specs.declared.opened_store.Opened.{Opened}
use Rattle.fkv_opening.proofs.Shown.{Apart, no_fault, same_slot}
use Rattle.fkv_record.proofs.Shown.{length-spelled, shape_numbered}
use Rattle.fkv_record.specs.Layout.{shape_bytes, shape_text, size_numbers}
use Rattle.fkv_record.specs.Manifest.{newest_bytes}
use Rattle.fkv_record.specs.declared.manifest_slots.ManifestSlot.{ManifestSlot}
use Rattle.law_log.specs.Trace.{Effect, IsIn, history_of}
use Rattle.law_log.specs.Worked.{no_map}
use Rattle.law_order.specs.Below.fkv_keeper.Keeping.{KeeperState}
use Rattle.law_order.specs.Below.fkv_session.Sessions.{SessionState}
use Rattle.law_order.specs.Below.law_commit.BegunCommits.{BegunCommit}
use Rattle.law_order.specs.Below.law_commit.ToldPoints.{ToldPoint}
use Rattle.law_order.specs.Below.law_opening.Lives.Reaching.{ReachesFar}
use Rattle.law_order.specs.Below.law_opening.Log.Laws.{BeginsFromItsPairs}
use Rattle.law_order.specs.Prefix.Law.{IsCurrent, NamesCommit}
use Rattle.law_order.proofs.OfOneHistory.WorkedShape.{places, shape}
use Rattle.law_wrong_runs.proofs.Computed.{effect_70, places_fit, world_opened}
use Rattle.law_wrong_runs.proofs.Gated.{AreCreated, AreNamed, IsWriter, IsWritten, SparesStores, begins, bytes_are, five, in_force, lies, made_so}
use Rattle.law_wrong_runs.proofs.NewBytes.{begins_at_first}
use Rattle.law_wrong_runs.proofs.ShortRun.{IsComputed, computed, left, no_points, said, said_of, world, writer}
use Rattle.law_wrong_runs.proofs.ShortStore.{is_checkpoint, is_sound, is_store, its_points_are, its_slot, map_is, newest_said, newest_told, number_is, shape_is, short_store}
use Rattle.law_wrong_runs.specs.ShortImages.{AreShortImages, BeginAtEnd, HoldsButItsEnd, IsKeptBy, kept_left, past_left, unflushed_calls, with_first_commit}
use Rattle.law_wrong_runs.specs.Tables.{Tables, commit_is_written_unflushed}
use Rattle.law_wrong_runs.specs.WrongPrefixes.{begun_by_table}

abbrev table : Tables
table = commit_is_written_unflushed shape

-- ---- the commit that has begun
-- it is the newest, and keeps nothing
record IsFirst (begun : List BegunCommit) : Type 0 where
  pub its : BegunCommit
  pub is_in : IsIn its begun
  pub number : (let c = its in c.number.0 ≡ 1)
  pub points : (let c = its in c.points ≡ [])
  pub most : (d : BegunCommit) → IsIn d begun → d.number.0 ≤ 1

first_of : (begun : List BegunCommit) → map said_of begun ≡ (1, []) ∷ (0, no_points) ∷ [] → IsFirst begun
first_of [] are = cc
first_of (c ∷ []) are = let none : ◌≡◌ {A = List (ℕ × List Serial)} [] ((0, no_points) ∷ []) = cc in cc
first_of (c ∷ d ∷ []) are =
    let first : said_of c ≡ (1, []) = cc in
    let second : said_of d ≡ (0, no_points) = cc in
    let one : c.number.0 ≡ 1 = ap (λ (x : ℕ × List Serial). x.0) first in
    let none : d.number.0 ≡ 0 = ap (λ (x : ℕ × List Serial). x.0) second in
    record { its = c; is_in = inl refl; number = one; points = ap (λ (x : ℕ × List Serial). x.1) first; most = λ e is. at_most c d e one none is }
  where
    at_most : (c d e : BegunCommit) → c.number.0 ≡ 1 → d.number.0 ≡ 0 → IsIn e (c ∷ d ∷ []) → e.number.0 ≤ 1
    at_most c d e one none (inl same) = let its = ap (λ (x : BegunCommit). x.number.0) same in omega (arith, one, its)
    at_most c d e one none (inr (inl same)) = let its = ap (λ (x : BegunCommit). x.number.0) same in omega (arith, none, its)
    at_most c d e one none (inr (inr other)) = absurd other
first_of (c ∷ d ∷ x ∷ rest) are = let none : ◌≡◌ {A = List (ℕ × List Serial)} (said_of x ∷ map said_of rest) [] = cc in cc

-- ---- points that keep nothing
none_of : (session : ℕ) → point_of [] session ≡ 0
none_of zero = refl
none_of (suc session) = refl

zero_of : (session : ℕ) → point_of no_points session ≡ 0
zero_of zero = refl
zero_of (suc zero) = refl
zero_of (suc (suc session)) = none_of session

keeps_none : kept (history_of (effect_70 ∷ [])) no_points ≡ []
unfolding effect_70
keeps_none = refl

none_whole : (low high serial : ℕ) → low ≡ 0 → high ≡ 0 → ◌≡◌ {A = ℕ} 0 (cond (nat_lt low serial && nat_le serial high) 1 0)
none_whole low high zero none nothing = grind (arith, nat_tests, none, nothing)
none_whole low high (suc serial) none nothing = grind (arith, nat_tests, none, nothing)

both : (b : Bool) → ◌≡◌ {A = List ToldPoint} (if b then [] else []) []
both true = refl
both false = refl

version_is : (x y : Version) → x.0 ≡ y.0 → x ≡ y
version_is x y e = λ i. record { 0 = e i }

-- ---- how long the bytes are
block_long : length (shape_bytes shape) ≡ 64
block_long = ap length (shape_numbered.same shape) ∙ length-spelled (from_le_bytes w64 (shape_text shape) ∷ size_numbers shape) ∙ ap (λ (n : ℕ). 8 * n) (shape_numbered.len shape)

laid_long : (old block slot : List ℕ) → length old ≤ 1536 → length block ≡ 64 → length slot ≡ 512 → length (laid old block slot) ≡ 1536
unfolding laid
laid_long old block slot short its_block its_slot =
    let zeros : length (replicate {A = ℕ} 1536 0) ≡ 1536 = length-replicate {A = ℕ} 1536 0 in
    let body : length (drop 8 slot) ≡ 504 = omega (arith, length-drop 8 slot, its_slot) in
    let first = length-written old 0 (replicate 1536 0) in
    let second = length-written (written old 0 (replicate 1536 0)) 0 block in
    let third = length-written (written (written old 0 (replicate 1536 0)) 0 block) 520 (drop 8 slot) in
    let fourth = length-written (written (written (written old 0 (replicate 1536 0)) 0 block) 520 (drop 8 slot)) 512 (165 ∷ []) in
    let zeros_end = ap (λ (n : ℕ). range_end 0 n) zeros in
    let block_end = ap (λ (n : ℕ). range_end 0 n) its_block in
    let body_end = ap (λ (n : ℕ). range_end 520 n) body in
    omega (arith, short, first, second, third, fourth, zeros_end, block_end, body_end)

-- the calls write no further than the slots
written_far : (bytes slot : List ℕ) → length bytes ≡ 1536 → length slot ≡ 512 → far_end bytes (Sync true ∷ Write 1024 (165 ∷ []) true ∷ Sync true ∷ Write 1025 (drop 1 slot) true ∷ Sync true ∷ []) ≡ 1536
written_far bytes slot long whole =
    let body : length (drop 1 slot) ≡ 511 = omega (arith, length-drop 1 slot, whole) in
    let its_end = ap (λ (n : ℕ). range_end 1025 n) body in
    omega (arith, long, its_end)

module _ (stand : IsWritten) (spares : SparesStores) (named : AreNamed) (created : AreCreated) (opened : (shape : Shape) → (o : Opened) × IsNewStore shape o) (apart : Apart) (from_pairs : BeginsFromItsPairs) (its : KeeperState) (one other : SessionState) where
  run : IsComputed its one other
  run = computed its one other

  whole : IsSlotOf 1 (newest_bytes said)
  whole = named said (omega arith) (omega arith) (omega arith)

  is_writer : IsWriter (writer its one other) 1
  is_writer = record {
    step = run.step;
    triples = run.triples;
    gate = run.gate;
    place = run.place;
    start = run.start;
    slot = subst (λ (s : List ℕ). IsSlotOf 1 s) (sym run.slot) whole;
    area = (let area = run.area in omega (arith, area));
    some = omega arith;
  }

  first : IsFirst (begun_by_table table (world its one other) unflushed_calls)
  first = first_of (begun_by_table table (world its one other) unflushed_calls) run.commits

  none_told : (session : ℕ) (told : ToldPoint) → IsIn told ((past_left table (world its one other) unflushed_calls).told session) → ⊥
  none_told session told is = subst (λ (x : List ToldPoint). IsIn told x) (run.told session ∙ both (0 == session)) is

  current : IsCurrent (past_left table (world its one other) unflushed_calls) first.its
  current = record {
    begun = first.is_in;
    newest = λ d is finished. (let most = first.most d is in let number = first.number in omega (arith, most, number));
    durable = λ session told is. absurd (none_told session told is);
  }

  none_kept : (points : List Serial) → points ≡ no_points → kept_left table (world its one other) unflushed_calls points ≡ []
  none_kept points are = ap (λ (effects : List Effect). kept (history_of effects) points) run.effects ∙ (ap (λ (p : List Serial). kept (history_of (effect_70 ∷ [])) p) are ∙ keeps_none)

  -- ---- what an image holds
  module _ (bytes image : List ℕ) (at_end : BeginAtEnd shape bytes) (may : MayLeave bytes (left its one other).past.calls image) where
    as_made : MayLeave bytes (commit_made (writer its one other) five ++ []) image
    as_made = subst (λ (calls : List Call). MayLeave bytes calls image) (run.calls ∙ sym (made_so (writer its one other) run.step run.gate run.place run.start (newest_bytes said) run.slot)) may

    stands : NewStands (writer its one other) image
    stands = stand (writer its one other) bytes [] 512 five image (begins (writer its one other) 1 is_writer shape bytes at_end.first) as_made run.ends

    has_shape : HasShape image shape
    has_shape =
        let spared = spares shape (writer its one other) bytes [] 512 1 0 five image (begins (writer its one other) 1 is_writer shape bytes at_end.first) as_made (lies (writer its one other) 1 is_writer shape 1 0 (inr (refl, refl)) run.area) in
        let long = at_end.ends in
        at_end.first.block ∙ sym (spared.block 64 (omega arith) (omega (arith, long)))

    told : IsNewestOf image (newest_said image)
    told = newest_told image has_shape (in_force (writer its one other) 1 is_writer image stands) (bytes_are (writer its one other) 1 is_writer image stands ∙ run.slot)

    short : length image ≤ 1536
    short =
        let far = subst (λ (calls : List Call). length image ≤ far_end bytes calls) run.calls may.no_longer in
        let most = written_far bytes (newest_bytes said) at_end.ends whole.whole in
        omega (arith, far, most)

    -- the slot says that the log ends behind the record at address 1, which lies behind the slots
    pub unreached : ReachesFar image → ⊥
    unreached reaches =
        let n : Newest = reaches.newest in
        let slot : its_slot ≡ n.slot = same_slot apart image (newest_said image) n told reaches.its in
        let ends : 2 ≡ n.slot.end.0 = ap (λ (s : ManifestSlot). s.end.0) slot in
        let far = reaches.long.records (omega (arith, ends)) in
        let low = short in
        omega (arith, far, low, ends)

    names : NamesCommit image first.its
    names = record {
      newest = newest_said image;
      its = told;
      number = sym first.number;
      points = λ session. zero_of session ∙ sym (ap (λ (points : List Serial). point_of points session) first.points ∙ none_of session);
    }

    each : (r : Opened) → IsStoreOf image r → IsKeptBy table (world its one other) unflushed_calls first.its image r
    each r held =
        let points : r.points.items ≡ no_points = its_points_are apart from_pairs image told r held in
        let none = none_kept r.points.items points in
        let zero_at : (session : ℕ) → point_of r.points.items session ≡ 0 = λ session. ap (λ (p : List Serial). point_of p session) points ∙ zero_of session in
        record {
          shape = shape_is apart from_pairs image told r held;
          number = version_is r.number first.its.number (number_is apart from_pairs image told r held ∙ sym first.number);
          points = λ session. zero_at session ∙ sym (ap (λ (p : List Serial). point_of p session) first.points ∙ none_of session);
          pairs = map_is apart from_pairs image told r held ∙ ap (λ (h : List HistoryEntry). content no_map h) (sym none);
          legal = subst (λ (h : List HistoryEntry). IsLegal no_map h) (sym none) tt;
          whole = λ session serial. ap (λ (h : List HistoryEntry). count_by (is_update session serial) h) none ∙ none_whole (point_of [] session) (point_of r.points.items session) serial (none_of session) (zero_at session);
          risen = λ session. (let none = none_of session in omega (arith, none));
        }

    pub holds_rest : HoldsButItsEnd table (world its one other) unflushed_calls image
    holds_rest =
        let new = opened shape in
        record {
          commit = first.its;
          current = current;
          named = names;
          faultless = no_fault apart image (newest_said image) [] (is_checkpoint image told) (is_sound image);
          store = (short_store image new.0 new.1, is_store image new.0 new.1 told);
          each = each;
        }

  at_end : (old : List ℕ) → length old ≤ 1536 → BeginAtEnd shape (created_bytes old shape)
  at_end old few =
      let new : IsCreated shape (created_bytes old shape) = created old shape in
      let slot : IsSlotOf 0 (newest_bytes (new_said shape.sessions)) = named (new_said shape.sessions) (omega arith) new_few (omega arith) in
      record {
        first = begins_at_first shape (created_bytes old shape) new;
        reaches = record { newest = new.newest; its = new.told; long = new.long };
        ends = laid_long old (shape_bytes shape) (newest_bytes (new_said shape.sessions)) few block_long slot.whole;
      }
    where
      new_few : length (replicate {A = Serial} shape.sessions (record { 0 = 0 })) ≤ 32
      new_few = let many = length-replicate {A = Serial} shape.sessions (record { 0 = 0 }) in let few = shape.limits.few_sessions in omega (arith, many, few)

  stays_itself : (bytes : List ℕ) (calls : List Call) → MayLeave bytes calls (reads_as bytes calls)
  stays_itself bytes calls = reads_may_stay bytes calls (reads_as bytes calls) (reads_itself bytes calls)

  pub short_images : AreShortImages its one other
  short_images = record {
    shape = shape;
    places = places;
    fits = places_fit;
    opened = world_opened (with_first_commit its) one other;
    begins = at_end;
    levels = run.levels;
    stays = λ bytes. stays_itself bytes (left its one other).past.calls;
    short = λ bytes image at_end may. unreached bytes image at_end may;
    holds = λ bytes image at_end may. holds_rest bytes image at_end may;
  }
