-- Where the walk's end leads a try, and each reply behind it.
use Rattle.std.proofs.Common.{◌≡◌, ℕ, ◌<◌, ◌≤◌, ◌⊎◌, [], refl, inl, inr, arith, sym, ap, ◌∙◌, subst, Bool, true, false}
use Rattle.std.specs.Prelude.{◌≢◌, ◌==◌, ◌&&◌, ◌||◌, not, nat_lt, nat_le, if◌then◌else◌, Option, Some, None}
use Rattle.fkv_base.specs.declared.numbers.Addr.{Addr}
use Rattle.fkv_base.specs.declared.numbers.Version.{Version}
use Rattle.fkv_marks.specs.Marks.{mark}
use Rattle.fkv_map.specs.declared.operations.Op.{Op}
use Rattle.fkv_map.specs.declared.operations.Op.TheVariants.{Upsert, Delete, Add as Adds, Max as Maxes, Read, Merge as Merges}
use Rattle.fkv_map.specs.Map.{absent_word}
use Rattle.fkv_map.specs.Keys.{key_of}
use Rattle.fkv_plane.specs.declared.asks.Ask.{Ask}
use Rattle.fkv_plane.specs.declared.asks.Ask.TheVariants.{Done}
use Rattle.fkv_plane.specs.declared.places.SharedWord.TheVariants as one
use Rattle.fkv_plane.specs.Places.{shared_place}
use Rattle.fkv_plane.specs.Passing.{is_done}
use Rattle.fkv_log.specs.declared.regions.Region.TheVariants as region
use Rattle.fkv_ops.specs.declared.answers.Reason.TheVariants as reason
use Rattle.fkv_ops.specs.declared.answers.TryAnswer.{TryAnswer}
use Rattle.fkv_ops.specs.declared.answers.TryAnswer.TheVariants as answer
use Rattle.fkv_ops.specs.declared.requests.HeldRecord.{HeldRecord}
use Rattle.fkv_ops.specs.declared.requests.Occasion.{Occasion}
use Rattle.fkv_ops.specs.declared.requests.Occasion.TheVariants.{Call, Poll}
use Rattle.fkv_ops.specs.declared.bounds.Bounds.{Bounds}
use Rattle.fkv_ops.specs.Bounds.{bounds_at, has_bounds, IsCall}
use Rattle.fkv_index.specs.Finding.{is_beyond}
use Rattle.fkv_ops.specs.declared.trying.OldValue.TheVariants.{InMemory, Known}
use Rattle.fkv_ops.specs.declared.trying.Trying.TheVariants.{Walks, CountsTaken, SwapsValue, LoadsCurrent, LoadsAnswer}
use Rattle.fkv_ops.specs.declared.walking.WalkAnswer.{WalkAnswer}
use Rattle.fkv_ops.specs.declared.walking.WalkAnswer.TheVariants as walk
use Rattle.fkv_ops.specs.Requests.{is_read, is_blind, is_chain_end}
use Rattle.fkv_ops.specs.Walking.{WalkState, walk_ask, walk_on}
use Rattle.fkv_ops.specs.Trying.{TryState, is_wait, ends, full_at, is_prepare, is_marked, is_next_marked, is_above, must_shift, copies, awaits, held_used, must_count, met_nowhere, met_disk, changes, region_met, met_record, walked, has_walked, walk_ledto, safe_loaded}
use Rattle.fkv_ops.specs.TryRun.{Trial, Told, reply_told}
use Rattle.fkv_ops.specs.Reasons.{Loaded, HasEntry, WalksTo, HasFound, LeavesMemory, EndsBelow, HasNone, AtItsEnd, BelowFloor, WithoutSlot, HoldsFrom, IsOnDisk, AsRead, WithoutHeld, FromAnother, BelowHead, BehindHeld, IsIndexFull, HasNoRoom, tells_own, OthersWentOn, ByRecord, IsTrue}
use Rattle.fkv_ops.specs.Effects.{MayChange, shares_latch, SeesNoneAbove, MayStay, BySight, FirstInMemory, FirstBelowHead, FirstNowhere, OfAnother, BelowSafe, OfNone, OfNoneBelow, OfAny, OfHeld, OfNoneBehind}
use Rattle.fkv_ops.proofs.BoolTests.{lt_true, lt_false, le_true, le_false, eq_true, eq_false, both}
use Rattle.fkv_ops.proofs.ChainEnds.{goes_on_from, goes_on_some, ends_below, either, neither}
use Rattle.fkv_ops.proofs.Walked.{HasFirst, FirstTrue, FirstSome, FirstAt, first_true, NowhereTrue, WalkTrue, WalkKnows, walk_answers, walk_on_loads, walk_on_found, walk_on_same, at_slot}
use Rattle.fkv_ops.proofs.TryRows.{norm, latch_held, owed_at, Under, Stays, Updates, FoundRow, TryRow, told_at, Comes, bounded, Lacks, ends_true}
use Rattle.fkv_ops.proofs.Copied.{copies_true}

-- the try comes to its end, without an effect
pub quiet_end : (c : Trial) (told : Told) (t : TryState) (its : TryAnswer) → t.effect ≡ None → Under c told t.has_shared → reply_told its ≡ [] → IsTrue c told its → Lacks c told t its → Comes c told None [] (latch_held t) (ends c.places (norm c t) its)
quiet_end c told t its quiet under none truth lacks = subst (λ e. Comes c told e [] (latch_held t) (ends c.places (norm c t) its)) quiet (subst (λ l. Comes c told t.effect l (latch_held t) (ends c.places (norm c t) its)) none (ends_true c told t its truth (λ waits. under.shared) lacks))

-- no poll has bounds
free_poll : (o : Occasion) (b : Bool) → o ≡ Poll → (has_bounds (bounds_at o) && b) ≡ true → ⊥
free_poll (Call bounds) b e f = cc
free_poll Poll b e f = cc

pub full_true : (c : Trial) (told : Told) (t : TryState) (refused : TryAnswer) → (c.occasion ≡ Poll → IsIndexFull c told ⊎ HasNoRoom told c.room) → t.effect ≡ None → Under c told t.has_shared → reply_told refused ≡ [] → is_wait refused ≡ false
    → (IsCall c.occasion → IsTrue c told refused) → Comes c told None [] (latch_held t) (ends c.places (norm c t) (full_at c.occasion refused))
full_true c told t refused full quiet under none refuses truth = by_occasion c.occasion refl
  where
    by_occasion : (o : Occasion) → c.occasion ≡ o → Comes c told None [] (latch_held t) (ends c.places (norm c t) (full_at o refused))
    by_occasion (Call bounds) e = quiet_end c told t refused quiet under none (truth (subst IsCall (sym e) tt)) (λ b waits. not_both (sym refuses ∙ waits))
      where
        not_both : {X : Type 0} → false ≡ true → X
        not_both f = cc
    by_occasion Poll e = quiet_end c told t (answer.Wait reason.Full) quiet under refl (e, full e) (λ b waits. absurd (free_poll c.occasion (not (is_read c.request.op)) e b))

awaits_true : (c : Trial) (told : Told) (t : TryState) (addr : Addr) → t.effect ≡ None → Under c told t.has_shared → HasEntry c told t.walk.place t.walk.entry → IsOnDisk c told (record { entry = t.walk.entry; addr = addr }) → Comes c told None [] (latch_held t) (awaits c.places (norm c t) addr)
awaits_true c told t addr quiet under slot disk = quiet_end c told t (answer.AwaitsDisk (record { entry = t.walk.entry; addr = addr })) quiet under refl disk (λ b waits. at_slot c told t.walk.place t.walk.entry slot)

held_true : (c : Trial) (told : Told) (t : TryState) (addr : Addr) (its : Option HeldRecord) → t.effect ≡ None → t.has_exclusive ≡ false → Updates c told t → LeavesMemory c told t.walk.place t.walk.entry addr.0 → c.request.floor.0 ≤ addr.0 → is_blind c.request.op ≡ false → c.request.held ≡ its
    → Comes c told None [] (latch_held t) (held_used c.places (norm c t) addr its)
unfolding held_used
held_true c told t addr None quiet not_alone updates leaves on counts holds = awaits_true c told t addr quiet updates.under leaves.walk.slot (BelowHead leaves on counts (WithoutHeld holds))
held_true c told t addr (Some held) quiet not_alone updates leaves on counts holds = by_entry (held.entry == t.walk.entry) refl
  where
    from : held.entry ≡ t.walk.entry → HoldsFrom c told t.walk.place held
    from same = record { holds = holds; counts = counts; addr = addr.0; leaves = subst (λ e. LeavesMemory c told t.walk.place e addr.0) (sym same) leaves }

    by_end : (b : Bool) → is_chain_end c.request.floor held.previous ≡ b → held.entry ≡ t.walk.entry → held.key.0 ≢ (key_of c.request.op).0
        → Comes c told None [] (latch_held t) (if b then copies c.places (norm c t) (Known absent_word) false else awaits c.places (norm c t) held.previous)
    by_end true e same other = copies_true c told t (Known absent_word) false quiet not_alone updates leaves.walk.slot (OfNoneBehind (from same) same other e)
    by_end false e same other = awaits_true c told t held.previous quiet updates.under leaves.walk.slot
        (BehindHeld (record { update = updates.update; place = t.walk.place; held = held; its_entry = sym same; its_addr = refl; holds = from same; another = other; some = goes_on_some c.request.floor held.previous e; on = goes_on_from c.request.floor held.previous e }))

    by_key : (b : Bool) → (held.key.0 == (key_of c.request.op).0) ≡ b → held.entry ≡ t.walk.entry
        → Comes c told None [] (latch_held t) (if b then copies c.places (norm c t) (Known held.value) false else if is_chain_end c.request.floor held.previous then copies c.places (norm c t) (Known absent_word) false else awaits c.places (norm c t) held.previous)
    by_key true e same = copies_true c told t (Known held.value) false quiet not_alone updates leaves.walk.slot (OfHeld (from same) same (eq_true held.key.0 (key_of c.request.op).0 e))
    by_key false e same = by_end (is_chain_end c.request.floor held.previous) refl same (eq_false held.key.0 (key_of c.request.op).0 e)

    by_entry : (b : Bool) → (held.entry == t.walk.entry) ≡ b
        → Comes c told None [] (latch_held t) (if b then (if held.key.0 == (key_of c.request.op).0 then copies c.places (norm c t) (Known held.value) false else if is_chain_end c.request.floor held.previous then copies c.places (norm c t) (Known absent_word) false else awaits c.places (norm c t) held.previous) else awaits c.places (norm c t) addr)
    by_entry true e = by_key (held.key.0 == (key_of c.request.op).0) refl (eq_true held.entry t.walk.entry e)
    by_entry false e = awaits_true c told t addr quiet updates.under leaves.walk.slot (BelowHead leaves on counts (FromAnother holds (eq_false held.entry t.walk.entry e)))

none_read : (c : Trial) (told : Told) (w : WalkState) → NowhereTrue c told w → HasNone c told
none_read c told w (inl at) = AtItsEnd at.0
none_read c told w (inr without) = WithoutSlot without.1

none_update : (c : Trial) (told : Told) (w : WalkState) → NowhereTrue c told w → is_read c.request.op ≡ false → WalksTo c told w.place w.entry 0
none_update c told w (inl at) update = at.0
none_update c told w (inr without) update = absurd (no (sym update ∙ without.0))
  where
    no : false ≡ true → ⊥
    no e = cc

nowhere_true : (c : Trial) (told : Told) (t : TryState) → t.effect ≡ None → t.has_exclusive ≡ false → Under c told t.has_shared → Stays c told → NowhereTrue c told t.walk → Comes c told None [] (latch_held t) (met_nowhere c.places (norm c t))
nowhere_true c told t quiet not_alone under stays none = by_read (is_read c.request.op) refl
  where
    here : is_read c.request.op ≡ false → WalksTo c told t.walk.place t.walk.entry 0
    here e = none_update c told t.walk none e

    updates : is_read c.request.op ≡ false → Updates c told t
    updates e = record { under = under; update = e; stays = stays; lacks = at_slot c told t.walk.place t.walk.entry (here e).slot }

    empty : must_count c.places (norm c t) ≡ true → t.walk.entry ≡ 0
    empty d = eq_true t.walk.entry 0 (both (bounded c) (t.walk.entry == 0) (both (bounded c && t.walk.entry == 0) (is_beyond c.places t.walk.finding) d).0).1

    by_count : (b : Bool) → must_count c.places (norm c t) ≡ b → is_read c.request.op ≡ false → Comes c told None [] (latch_held t) (if b then record (norm c t) { step = CountsTaken } else copies c.places (norm c t) (Known absent_word) false)
    by_count true d e = record { same = refl; owes = refl; its_effect = quiet; its_told = refl; row = record { not_alone = not_alone; updates = again (updates e); walks = here e; empty = empty d } }
      where
        again : Updates c told t → Updates c told (record (norm c t) { step = CountsTaken })
        again u = record { under = u.under; update = u.update; stays = u.stays; lacks = u.lacks }
    by_count false d e = copies_true c told t (Known absent_word) false quiet not_alone (updates e) (here e).slot (OfNone (here e))

    by_read : (b : Bool) → is_read c.request.op ≡ b
        → Comes c told None [] (latch_held t) (if b then ends c.places (norm c t) answer.Absent else if must_count c.places (norm c t) then record (norm c t) { step = CountsTaken } else copies c.places (norm c t) (Known absent_word) false)
    by_read true e = quiet_end c told t answer.Absent quiet under refl (record { reads = e; none = inr (none_read c told t.walk none) }) (λ b waits. cc)
    by_read false e = by_count (must_count c.places (norm c t)) refl e

-- a read's value counts
read_counts : (op : Op) → is_read op ≡ true → is_blind op ≡ false
read_counts (Upsert key value) e = cc
read_counts (Delete key) e = cc
read_counts (Adds key n) e = cc
read_counts (Maxes key n) e = cc
read_counts (Read key) e = refl
read_counts (Merges key which n) e = cc

disk_true : (c : Trial) (told : Told) (t : TryState) (addr : Addr) → t.effect ≡ None → t.has_exclusive ≡ false → Under c told t.has_shared → Stays c told → LeavesMemory c told t.walk.place t.walk.entry addr.0 → Comes c told None [] (latch_held t) (met_disk c.places (norm c t) addr)
disk_true c told t addr quiet not_alone under stays leaves = by_read (is_read c.request.op) refl
  where
    updates : is_read c.request.op ≡ false → Updates c told t
    updates update = record { under = under; update = update; stays = stays; lacks = at_slot c told t.walk.place t.walk.entry leaves.walk.slot }

    below : is_chain_end c.request.floor addr ≡ true → EndsBelow c told t.walk.place t.walk.entry addr.0
    below e = (leaves, ends_below c.request.floor addr leaves.some e)

    by_end : (b : Bool) → is_chain_end c.request.floor addr ≡ b → is_read c.request.op ≡ true → Comes c told None [] (latch_held t) (if b then ends c.places (norm c t) answer.Absent else awaits c.places (norm c t) addr)
    by_end true e read = quiet_end c told t answer.Absent quiet under refl (record { reads = read; none = inr (BelowFloor (below e)) }) (λ b waits. cc)
    by_end false e read = awaits_true c told t addr quiet under leaves.walk.slot (BelowHead leaves (goes_on_from c.request.floor addr e) (read_counts c.request.op read) (AsRead read))

    made : is_read c.request.op ≡ false → (is_blind c.request.op ≡ true) ⊎ (is_chain_end c.request.floor addr ≡ true) → Comes c told None [] (latch_held t) (copies c.places (norm c t) (Known absent_word) false)
    made update (inl e) = copies_true c told t (Known absent_word) false quiet not_alone (updates update) leaves.walk.slot (OfAny leaves e)
    made update (inr e) = copies_true c told t (Known absent_word) false quiet not_alone (updates update) leaves.walk.slot (OfNoneBelow (below e))

    by_old : (b : Bool) → (is_blind c.request.op || is_chain_end c.request.floor addr) ≡ b → is_read c.request.op ≡ false
        → Comes c told None [] (latch_held t) (if b then copies c.places (norm c t) (Known absent_word) false else held_used c.places (norm c t) addr c.request.held)
    by_old true e update = made update (either (is_blind c.request.op) (is_chain_end c.request.floor addr) e)
    by_old false e update =
        let its = neither (is_blind c.request.op) (is_chain_end c.request.floor addr) e in
        held_true c told t addr c.request.held quiet not_alone (updates update) leaves (goes_on_from c.request.floor addr its.1) its.0 refl

    by_read : (b : Bool) → is_read c.request.op ≡ b
        → Comes c told None [] (latch_held t) (if b then (if is_chain_end c.request.floor addr then ends c.places (norm c t) answer.Absent else awaits c.places (norm c t) addr)
        else if is_blind c.request.op || is_chain_end c.request.floor addr then copies c.places (norm c t) (Known absent_word) false else held_used c.places (norm c t) addr c.request.held)
    by_read true e = by_end (is_chain_end c.request.floor addr) refl e
    by_read false e = by_old (is_blind c.request.op || is_chain_end c.request.floor addr) refl e

may_change : (c : Trial) (told : Told) (w : WalkState) (addr : Addr) (version : Version) → FoundRow c told w addr version → version.0 ≡ mark c.request.version.0 → c.seen.offsets.read_only.0 ≤ addr.0 → MayChange c told addr.0
may_change c told w addr version found own mutable = record { place = w.place; entry = w.entry; found = subst (HasFound c told w.place w.entry addr.0) own found.its.its_record; mutable = mutable }

changes_true : (c : Trial) (told : Told) (t : TryState) (addr : Addr) (version : Version) → t.effect ≡ None → Updates c told t → FoundRow c told t.walk addr version → MayChange c told addr.0 → Comes c told None [] (latch_held t) (changes (norm c t) addr)
changes_true c told t addr version quiet updates found may = by_blind (is_blind c.request.op) refl
  where
    by_blind : (b : Bool) → is_blind c.request.op ≡ b → Comes c told None [] (latch_held t) (if b then record (norm c t) { step = SwapsValue addr } else record (norm c t) { walk = walk_on t.walk; step = LoadsCurrent addr })
    by_blind true e = record { same = refl; owes = refl; its_effect = quiet; its_told = refl; row = (record { under = updates.under; update = updates.update; stays = updates.stays; lacks = updates.lacks }, may, e) }
    by_blind false e = record {
      same = refl;
      owes = refl;
      its_effect = quiet;
      its_told = refl;
      row = (record { under = updates.under; update = updates.update; stays = updates.stays; lacks = λ none. updates.lacks (sym (walk_on_same t.walk).1 ∙ none) }, may, walk_on_loads c told t.walk addr version found.at found.its);
    }

right_false : (a b : Bool) → b ≡ false → (a && b) ≡ false
right_false true b e = e
right_false false b e = refl

region_true : (c : Trial) (told : Told) (t : TryState) (addr : Addr) (version : Version) → t.effect ≡ None → t.has_exclusive ≡ false → Updates c told t → FoundRow c told t.walk addr version
    → Comes c told None [] (latch_held t) (region_met c.places (norm c t) addr version (if nat_lt addr.0 c.seen.offsets.head.0 then Some region.Disk else if nat_le c.seen.offsets.read_only.0 addr.0 then Some region.Mutable else None))
region_true c told t addr version quiet not_alone updates found = by_head (nat_lt addr.0 c.seen.offsets.head.0) refl
  where
    by_version : (b : Bool) → (version.0 == mark c.request.version.0) ≡ b → c.seen.offsets.read_only.0 ≤ addr.0 → Comes c told None [] (latch_held t) (if b then changes (norm c t) addr else copies c.places (norm c t) InMemory false)
    by_version true e mutable = changes_true c told t addr version quiet updates found (may_change c told t.walk addr version found (eq_true version.0 (mark c.request.version.0) e) mutable)
    by_version false e mutable = copies_true c told t InMemory false quiet not_alone updates found.its.its_record.walk.slot
        (record { addr = addr; version = version; found = found; may = OfAnother mutable (eq_false version.0 (mark c.request.version.0) e); current = right_false (not (is_marked c.request.version)) (version.0 == mark c.request.version.0) e })

    by_read_only : (b : Bool) → nat_le c.seen.offsets.read_only.0 addr.0 ≡ b → Comes c told None [] (latch_held t) (region_met c.places (norm c t) addr version (if b then Some region.Mutable else None))
    by_read_only true e = by_version (version.0 == mark c.request.version.0) refl (le_true c.seen.offsets.read_only.0 addr.0 e)
    by_read_only false e = record {
      same = refl;
      owes = refl;
      its_effect = quiet;
      its_told = refl;
      row = record { not_alone = not_alone; updates = record { under = updates.under; update = updates.update; stays = updates.stays; lacks = updates.lacks }; found = found; below = le_false c.seen.offsets.read_only.0 addr.0 e };
    }

    by_head : (b : Bool) → nat_lt addr.0 c.seen.offsets.head.0 ≡ b
        → Comes c told None [] (latch_held t) (region_met c.places (norm c t) addr version (if b then Some region.Disk else if nat_le c.seen.offsets.read_only.0 addr.0 then Some region.Mutable else None))
    by_head true e = let low = lt_true addr.0 c.seen.offsets.head.0 e in let high = found.its.its_record.in_memory in absurd (omega (arith, low, high))
    by_head false e = by_read_only (nat_le c.seen.offsets.read_only.0 addr.0) refl

record_true : (c : Trial) (told : Told) (t : TryState) (addr : Addr) (version : Version) → t.effect ≡ None → t.has_exclusive ≡ false → Under c told t.has_shared → Stays c told → FoundRow c told t.walk addr version → Comes c told None [] (latch_held t) (met_record c.places (norm c t) addr version)
record_true c told t addr version quiet not_alone under stays found = by_read (is_read c.request.op) refl
  where
    by_read : (b : Bool) → is_read c.request.op ≡ b
        → Comes c told None [] (latch_held t) (if b then record (norm c t) { walk = walk_on t.walk; step = LoadsAnswer } else region_met c.places (norm c t) addr version (if nat_lt addr.0 c.seen.offsets.head.0 then Some region.Disk else if nat_le c.seen.offsets.read_only.0 addr.0 then Some region.Mutable else None))
    by_read true e = record {
      same = refl;
      owes = refl;
      its_effect = quiet;
      its_told = refl;
      row = record { under = under; reads = e; addr = addr; version = version.0; found = walk_on_found c told t.walk addr version found.at found.its; loads = walk_on_loads c told t.walk addr version found.at found.its };
    }
    by_read false e = region_true c told t addr version quiet not_alone (record { under = under; update = e; stays = stays; lacks = at_slot c told t.walk.place t.walk.entry found.its.its_record.walk.slot }) found

pub never_kept : (o : Occasion) (bounds : Bounds) → o ≡ Poll → bounds_at o ≡ Some bounds → ⊥
never_kept (Call its) bounds e f = cc
never_kept Poll bounds e f = cc

walked_true : (c : Trial) (told : Told) (t : TryState) (its : WalkAnswer) → t.effect ≡ None → t.has_exclusive ≡ false → Under c told t.has_shared → (has_walked its ≡ true → Stays c told) → WalkTrue c told t.walk its → Comes c told None [] (latch_held t) (walked c.places (norm c t) its)
walked_true c told t (walk.Found addr version) quiet not_alone under stays knows = record_true c told t addr version quiet not_alone under (stays refl) (record { at = knows.0; its = knows.1 })
walked_true c told t walk.Nowhere quiet not_alone under stays knows = nowhere_true c told t quiet not_alone under (stays refl) knows
walked_true c told t (walk.OnDisk addr) quiet not_alone under stays knows = disk_true c told t addr quiet not_alone under (stays refl) knows.0
walked_true c told t (walk.Value value) quiet not_alone under stays knows = absurd knows
walked_true c told t walk.Full quiet not_alone under stays knows = full_true c told t answer.IndexFull (λ at. inl knows) quiet under refl refl (λ call. (call, inl knows))
walked_true c told t walk.Kept quiet not_alone under stays knows = full_true c told t answer.IndexFull (λ at. absurd (never_kept c.occasion knows.past.bounds at knows.past.has)) quiet under refl refl (λ call. (call, inr knows))
walked_true c told t walk.Contended quiet not_alone under stays knows = quiet_end c told t (answer.Wait reason.Contended) quiet under refl knows.0 (λ b waits. knows.1)

first_some : (c : Trial) (told : Told) (place entry : ℕ) (first : Option Version) → FirstSome c told place entry first → FirstTrue c told place entry first
first_some c told place entry None knows = absurd knows
first_some c told place entry (Some version) knows = knows

-- the first record that was met is of no version above
some_stays : (c : Trial) (told : Told) (place entry : ℕ) (version : Version) → HasFirst c told place entry version.0 → is_above (Some version) c.request.version ≡ false → SeesNoneAbove c told
some_stays c told place entry version knows e =
    let low = lt_false (mark c.request.version.0) version.0 e in
    let its = knows.its_version in
    record { place = place; entry = entry; slot = knows.slot; its_first = FirstInMemory knows.header knows.its_header (omega (arith, low, its)) }

found_stays : (c : Trial) (told : Told) (place entry : ℕ) (first : Option Version) → FirstSome c told place entry first → is_above first c.request.version ≡ false → SeesNoneAbove c told
found_stays c told place entry None knows e = absurd knows
found_stays c told place entry (Some version) knows e = some_stays c told place entry version knows e

-- or none was met, as the entry leads out of memory at once
nowhere_stays : (c : Trial) (told : Told) (place entry : ℕ) (first : Option Version) → HasEntry c told place entry → FirstAt c told place entry 0 first → is_above first c.request.version ≡ false → SeesNoneAbove c told
nowhere_stays c told place entry None slot at e = record { place = place; entry = entry; slot = slot; its_first = FirstNowhere (sym at) }
nowhere_stays c told place entry (Some version) slot at e = some_stays c told place entry version at e

below_stays : (c : Trial) (told : Told) (place entry addr : ℕ) (first : Option Version) → HasEntry c told place entry → addr < c.seen.offsets.head.0 → FirstAt c told place entry addr first → is_above first c.request.version ≡ false → SeesNoneAbove c told
below_stays c told place entry addr None slot low at e = record { place = place; entry = entry; slot = slot; its_first = FirstBelowHead (subst (λ a. a < c.seen.offsets.head.0) at low) }
below_stays c told place entry addr (Some version) slot low at e = some_stays c told place entry version at e

stays_known : (c : Trial) (told : Told) (w : WalkState) (its : WalkAnswer) → has_walked its ≡ true → is_read c.request.op ≡ false → WalkTrue c told w its → is_above w.first c.request.version ≡ false → SeesNoneAbove c told
stays_known c told w (walk.Found addr version) e update knows low = found_stays c told w.place w.entry w.first knows.1.first low
stays_known c told w walk.Nowhere e update (inl at) low = nowhere_stays c told w.place w.entry w.first at.0.slot at.1 low
stays_known c told w walk.Nowhere e update (inr without) low = absurd (no (sym update ∙ without.0))
  where
    no : false ≡ true → ⊥
    no f = cc
stays_known c told w (walk.OnDisk addr) e update knows low = below_stays c told w.place w.entry addr.0 w.first knows.0.walk.slot knows.0.below knows.1 low
stays_known c told w (walk.Value value) e update knows low = cc
stays_known c told w walk.Full e update knows low = cc
stays_known c told w walk.Kept e update knows low = cc
stays_known c told w walk.Contended e update knows low = cc

without_shift : (a b : Bool) → (a && b) ≡ false → a ≡ true → b ≡ false
without_shift true b e f = e
without_shift false b e f = cc

tells_by : (a b : Bool) → a ≡ true → b ≡ false → (a && not b) ≡ true
tells_by true false e f = refl
tells_by true true e f = cc
tells_by false b e f = cc

update_shares : (a b : Bool) → (a && not b) ≡ true → b ≡ false
update_shares true true e = cc
update_shares true false e = refl
update_shares false b e = cc

not_walked : {X : Type 0} (b : Bool) → b ≡ false → b ≡ true → X
not_walked true e f = cc
not_walked false e f = cc

first_known : (c : Trial) (told : Told) (w : WalkState) (its : WalkAnswer) → has_walked its ≡ true → WalkTrue c told w its → FirstTrue c told w.place w.entry w.first
first_known c told w (walk.Found addr version) e knows = first_some c told w.place w.entry w.first knows.1.first
first_known c told w walk.Nowhere e (inl at) = first_true c told w.place w.entry 0 w.first at.1
first_known c told w walk.Nowhere e (inr without) = subst (FirstTrue c told w.place w.entry) (sym without.2) tt
first_known c told w (walk.OnDisk addr) e knows = first_true c told w.place w.entry addr.0 w.first knows.1
first_known c told w (walk.Value value) e knows = cc
first_known c told w walk.Full e knows = cc
first_known c told w walk.Kept e knows = cc
first_known c told w walk.Contended e knows = cc

others_by_record : (c : Trial) (told : Told) (place entry : ℕ) (first : Option Version) → FirstTrue c told place entry first → is_above first c.request.version ≡ true → OthersWentOn c told
others_by_record c told place entry None knows e = cc
others_by_record c told place entry (Some version) knows e =
    let high = lt_true (mark c.request.version.0) version.0 e in
    let its = knows.its_version in
    ByRecord knows.header knows.slot knows.its_header (omega (arith, high, its))

pub walk_led_true : (c : Trial) (told : Told) (t : TryState) (ask : Ask WalkAnswer) → t.effect ≡ None → t.has_exclusive ≡ false → t.step ≡ Walks → Under c told t.has_shared → WalkKnows c told t.walk → walk_ask c.places t.walk ≡ ask
    → Comes c told None [] (latch_held t) (walk_ledto c.places (norm c t) ask)
unfolding walk_ledto
walk_led_true c told t (Done its) quiet not_alone at under knows asks = by_walked (has_walked its) (must_shift (norm c t)) refl refl
  where
    here : WalkTrue c told t.walk its
    here = walk_answers c told t.walk its knows asks

    may_stay : (b : Bool) → is_next_marked c.request.version ≡ b → has_walked its ≡ true → must_shift (norm c t) ≡ false → shares_latch c ≡ true → MayStay c told
    may_stay true marked d e wants = under.in_phase marked wants
    may_stay false marked d e wants = BySight (stays_known c told t.walk its d (update_shares (is_prepare c.seen.phase) (is_read c.request.op) wants) here
        (without_shift (is_prepare c.seen.phase && not (is_read c.request.op) && not (is_next_marked c.request.version)) (is_above t.walk.first c.request.version) e
        (tells_by (is_prepare c.seen.phase && not (is_read c.request.op)) (is_next_marked c.request.version) wants marked)))

    by_walked : (a b : Bool) → has_walked its ≡ a → must_shift (norm c t) ≡ b
        → Comes c told None [] (latch_held t) (if a && b then ends c.places (norm c (record t { spare = t.walk.spare })) answer.Shift else walked c.places (norm c (record t { spare = t.walk.spare })) its)
    by_walked true true d e =
        let split = both (is_prepare c.seen.phase && not (is_read c.request.op) && not (is_next_marked c.request.version)) (is_above t.walk.first c.request.version) e in
        let tells = both (is_prepare c.seen.phase && not (is_read c.request.op)) (not (is_next_marked c.request.version)) split.0 in
        let wants = both (is_prepare c.seen.phase) (not (is_read c.request.op)) tells.0 in
        quiet_end c told (record t { spare = t.walk.spare }) answer.Shift quiet under refl
        (record { in_prepare = wants.0; update = negated (is_read c.request.op) wants.1; others = others_by_record c told t.walk.place t.walk.entry t.walk.first (first_known c told t.walk its d here) split.1 })
        (λ b waits. cc)
      where
        negated : (b : Bool) → not b ≡ true → b ≡ false
        negated true e = cc
        negated false e = refl
    by_walked true false d e = walked_true c told (record t { spare = t.walk.spare }) its quiet not_alone under
        (λ met wants. may_stay (is_next_marked c.request.version) refl d e wants) here
    by_walked false b d e = walked_true c told (record t { spare = t.walk.spare }) its quiet not_alone under (λ met. not_walked (has_walked its) d met) here
walk_led_true c told t ask quiet not_alone at under knows asks = record {
  same = refl;
  owes = ap (owed_at t) at;
  its_effect = quiet;
  its_told = ap told_at at;
  row = subst (TryRow c told (norm c t)) (sym at) (record { not_alone = not_alone; under = under; walks = knows; asks = ap is_done asks });
}

pub safe_true : (c : Trial) (told : Told) (t : TryState) (addr : Addr) (version : Version) (safe : ℕ) → t.effect ≡ None → t.has_exclusive ≡ false → Updates c told t → FoundRow c told t.walk addr version → addr.0 < c.seen.offsets.read_only.0
    → Loaded told (shared_place one.SafeReadOnly) safe → Comes c told None [] (latch_held t) (safe_loaded c.places (norm c t) addr version safe)
safe_true c told t addr version safe quiet not_alone updates found below was = by_safe (nat_le safe addr.0) refl
  where
    by_safe : (b : Bool) → nat_le safe addr.0 ≡ b → Comes c told None [] (latch_held t) (if b then ends c.places (norm c t) (answer.Wait reason.Fuzzy) else copies c.places (norm c t) InMemory (tells_own c version.0))
    by_safe true e = quiet_end c told t (answer.Wait reason.Fuzzy) quiet updates.under refl
        (record { place = t.walk.place; entry = t.walk.entry; addr = addr.0; version = version.0; safe = safe; found = found.its.its_record; below_seen = below; its_safe = was; above_safe = le_true safe addr.0 e })
        (λ b waits. updates.lacks)
    by_safe false e = copies_true c told t InMemory (tells_own c version.0) quiet not_alone updates found.its.its_record.walk.slot
        (record { addr = addr; version = version; found = found; may = BelowSafe safe below was (le_false safe addr.0 e); current = refl })
