-- What a walk knows at each of its steps, up to where it ends or has found the record.
use Rattle.std.proofs.Common.{◌≡◌, ℕ, ◌-◌, ◌<◌, ◌≤◌, ◌⊎◌, refl, inl, inr, arith, sym, ap, ◌∙◌, subst, Bool, true, false}
use Rattle.std.specs.Prelude.{◌==◌, nat_lt, if◌then◌else◌, ⊤, Option, Some, None}
use Rattle.fkv_base.specs.declared.numbers.Addr.{Addr}
use Rattle.fkv_base.specs.declared.numbers.Version.{Version}
use Rattle.fkv_map.specs.Keys.{key_of}
use Rattle.fkv_plane.specs.declared.asks.Ask.{Ask}
use Rattle.fkv_plane.specs.declared.asks.Ask.TheVariants.{Load, Done}
use Rattle.fkv_plane.specs.declared.places.Places.{Places}
use Rattle.fkv_plane.specs.declared.places.RecordWord.TheVariants as rec
use Rattle.fkv_plane.specs.Places.{record_place}
use Rattle.fkv_plane.specs.Passing.{passed, is_done}
use Rattle.fkv_log.specs.declared.loading.Loading.{Loading}
use Rattle.fkv_log.specs.declared.loading.Loading.TheVariants.{LoadsHeader, LoadsKey, HasKey, LoadsValue as LoadsItsValue}
use Rattle.fkv_log.specs.Loading.{load_ask, load_next, load_next_ask, load_on}
use Rattle.fkv_index.specs.declared.finding.Found.{Found}
use Rattle.fkv_index.specs.declared.finding.Found.TheVariants as found
use Rattle.fkv_index.specs.declared.finding.FindAnswer.{FindAnswer}
use Rattle.fkv_index.specs.Slots.{entry_addr}
use Rattle.fkv_index.specs.Finding.{find_step_ask, find_next, find_next_ask}
use Rattle.fkv_ops.specs.declared.answers.TryAnswer.TheVariants as answer
use Rattle.fkv_ops.specs.declared.header_words.HeaderSaid.TheVariants.{Says, Spoiled}
use Rattle.fkv_ops.specs.declared.walking.WalkAnswer.{WalkAnswer}
use Rattle.fkv_ops.specs.declared.walking.WalkAnswer.TheVariants as walk
use Rattle.fkv_ops.specs.declared.walking.Walking.{Walking}
use Rattle.fkv_ops.specs.declared.walking.Walking.TheVariants.{Ended, Finds, Meets, HasFound as AtFound, LoadsValue}
use Rattle.fkv_ops.specs.HeaderWords.{previous_in, version_in, is_header, header_said}
use Rattle.fkv_ops.specs.Requests.{is_read, purpose_at}
use Rattle.fkv_ops.specs.Walking.{WalkState, walk_begun, walking_ask, walk_ask, reached, slot_found, find_ledto, first_met, record_met, load_ledto, value_ledto, walking_next, walk_next, walking_on, walk_on}
use Rattle.fkv_ops.specs.TryRun.{Trial, home_at, Told}
use Rattle.fkv_ops.specs.Reasons.{Loaded, HasEntry, HasEnd, IsIndexFull, HasNoEntry, AtEmpty, AreBucketsKept, AtEntry, Behind, WalksTo, HasFound, LeavesMemory, IsContended, NoStore, NoHeader, NotBelow, PastRing}
use Rattle.fkv_ops.proofs.BoolTests.{lt_true, lt_false, eq_true, eq_false, some_where}
use Rattle.fkv_ops.proofs.Searched.{Searches, Leads, FindsTrue, search_true, search_begun, search_asks}

-- an empty slot is no entry
pub at_slot : (c : Trial) (told : Told) (place entry : ℕ) → HasEntry c told place entry → entry ≡ 0 → HasNoEntry c told
at_slot c told place entry slot none = AtEmpty (subst (HasEntry c told place) none slot)

-- the version of the chain's first record
pub record HasFirst (c : Trial) (told : Told) (place entry version : ℕ) : Type 0 where
  pub header : ℕ
  pub slot : HasEntry c told place entry
  pub its_header : Loaded told (record_place c.places (entry_addr entry) rec.Header) header
  pub its_version : version_in header ≡ version

abbrev pub FirstTrue : Trial → Told → ℕ → ℕ → Option Version → Type 0
FirstTrue c told place entry None = ⊤
FirstTrue c told place entry (Some version) = HasFirst c told place entry version.0

-- one was met
abbrev pub FirstSome : Trial → Told → ℕ → ℕ → Option Version → Type 0
FirstSome c told place entry None = ⊥
FirstSome c told place entry (Some version) = HasFirst c told place entry version.0

-- where none was met the address is the entry's own
abbrev pub FirstAt : Trial → Told → ℕ → ℕ → ℕ → Option Version → Type 0
FirstAt c told place entry addr None = addr ≡ entry_addr entry
FirstAt c told place entry addr (Some version) = HasFirst c told place entry version.0

abbrev pub LoadRow : Trial → Told → Addr → Loading → Type 0
LoadRow c told addr (LoadsHeader its) = its ≡ addr
LoadRow c told addr (LoadsKey its header) = (its ≡ addr) × Loaded told (record_place c.places addr.0 rec.Header) header
LoadRow c told addr loading = ⊥

-- the record of the key was found, and its value can be loaded
pub record FoundKnows (c : Trial) (told : Told) (w : WalkState) (addr : Addr) (version : Version) : Type 0 where
  pub its_record : HasFound c told w.place w.entry addr.0 version.0
  pub first : FirstSome c told w.place w.entry w.first
  pub header : ℕ
  pub key : ℕ
  pub its_loading : w.loading ≡ HasKey addr header key

pub record MeetKnows (c : Trial) (told : Told) (w : WalkState) (addr : Addr) : Type 0 where
  pub walks : WalksTo c told w.place w.entry addr.0
  pub in_memory : c.seen.offsets.head.0 ≤ addr.0
  pub first : FirstAt c told w.place w.entry addr.0 w.first
  pub its_load : LoadRow c told addr w.loading

-- the chain has no record of the key
abbrev pub NowhereTrue : Trial → Told → WalkState → Type 0
NowhereTrue c told w = (WalksTo c told w.place w.entry 0 × FirstAt c told w.place w.entry 0 w.first) ⊎ ((is_read c.request.op ≡ true) × HasEnd c told false × (w.first ≡ None))

abbrev pub WalkEnd : Trial → Told → WalkState → WalkAnswer → Type 0
WalkEnd c told w (walk.Found addr version) = ⊥
WalkEnd c told w walk.Nowhere = NowhereTrue c told w
WalkEnd c told w (walk.OnDisk addr) = LeavesMemory c told w.place w.entry addr.0 × FirstAt c told w.place w.entry addr.0 w.first
WalkEnd c told w (walk.Value value) = ⊥
WalkEnd c told w walk.Full = IsIndexFull c told
WalkEnd c told w walk.Kept = AreBucketsKept c told
WalkEnd c told w walk.Contended = IsContended c told × (w.entry ≡ 0 → HasNoEntry c told)

abbrev pub WalkRow : Trial → Told → WalkState → Walking → Type 0
WalkRow c told w (Ended its) = WalkEnd c told w its
WalkRow c told w Finds = Searches c told w.finding × (w.first ≡ None)
WalkRow c told w (Meets addr) = MeetKnows c told w addr
WalkRow c told w (AtFound addr version) = FoundKnows c told w addr version
WalkRow c told w LoadsValue = ⊥

pub record WalkKnows (c : Trial) (told : Told) (w : WalkState) : Type 0 where
  pub its_key : w.key ≡ key_of c.request.op
  pub its_head : w.head ≡ c.seen.offsets.head
  pub its_row : WalkRow c told w w.step

pub first_true : (c : Trial) (told : Told) (place entry addr : ℕ) (first : Option Version) → FirstAt c told place entry addr first → FirstTrue c told place entry first
first_true c told place entry addr None knows = tt
first_true c told place entry addr (Some version) knows = knows

reached_true : (c : Trial) (told : Told) (w : WalkState) (addr : ℕ) → w.key ≡ key_of c.request.op → w.head ≡ c.seen.offsets.head → WalksTo c told w.place w.entry addr → FirstAt c told w.place w.entry addr w.first
    → WalkKnows c told (reached c.places w addr)
reached_true c told w addr its_key its_head walks first = by_zero (addr == 0) refl
  where
    same : w.head.0 ≡ c.seen.offsets.head.0
    same = ap (λ a. a.0) its_head

    by_ring : (b : Bool) → nat_lt (addr - w.head.0) c.places.ring ≡ b → w.head.0 ≤ addr
        → WalkKnows c told (if b then record w { loading = LoadsHeader (record { 0 = addr }); step = Meets (record { 0 = addr }) } else record w { step = Ended walk.Contended })
    by_ring true e high = record { its_key = its_key; its_head = its_head; its_row = record { walks = walks; in_memory = omega (arith, same, high); first = first; its_load = refl } }
    by_ring false e high =
        let far = lt_false (addr - w.head.0) c.places.ring e in
        record { its_key = its_key; its_head = its_head; its_row = (NoStore (PastRing walks (omega (arith, same, high, far))), at_slot c told w.place w.entry walks.slot) }

    by_head : (b : Bool) → nat_lt addr w.head.0 ≡ b → 0 < addr
        → WalkKnows c told (if b then record w { step = Ended (walk.OnDisk (record { 0 = addr })) } else if nat_lt (addr - w.head.0) c.places.ring then record w { loading = LoadsHeader (record { 0 = addr }); step = Meets (record { 0 = addr }) } else record w { step = Ended walk.Contended })
    by_head true e some =
        let low = lt_true addr w.head.0 e in
        record { its_key = its_key; its_head = its_head; its_row = (record { walk = walks; some = some; below = omega (arith, same, low) }, first) }
    by_head false e some = by_ring (nat_lt (addr - w.head.0) c.places.ring) refl (lt_false addr w.head.0 e)

    by_zero : (b : Bool) → (addr == 0) ≡ b → WalkKnows c told (if b then record w { step = Ended walk.Nowhere } else if nat_lt addr w.head.0 then record w { step = Ended (walk.OnDisk (record { 0 = addr })) } else if nat_lt (addr - w.head.0) c.places.ring then record w { loading = LoadsHeader (record { 0 = addr }); step = Meets (record { 0 = addr }) } else record w { step = Ended walk.Contended })
    by_zero true e = record { its_key = its_key; its_head = its_head; its_row = inl (subst (WalksTo c told w.place w.entry) (eq_true addr 0 e) walks, subst (λ a. FirstAt c told w.place w.entry a w.first) (eq_true addr 0 e) first) }
    by_zero false e = by_head (nat_lt addr w.head.0) refl (some_where addr e)

slot_found_true : (c : Trial) (told : Told) (w : WalkState) (its : Found) → w.key ≡ key_of c.request.op → w.head ≡ c.seen.offsets.head → w.first ≡ None → FindsTrue c told its → WalkKnows c told (slot_found c.places w its)
slot_found_true c told w (found.Slot place word) its_key its_head none slot =
    reached_true c told (record w { place = place; entry = word }) (entry_addr word) its_key its_head (record { slot = slot; reached = AtEntry }) (subst (FirstAt c told place word (entry_addr word)) (sym none) refl)
slot_found_true c told w found.NoSlot its_key its_head none ends = record { its_key = its_key; its_head = its_head; its_row = inr (ends.0, ends.1, none) }
slot_found_true c told w found.Full its_key its_head none full = record { its_key = its_key; its_head = its_head; its_row = full }
slot_found_true c told w found.Kept its_key its_head none kept = record { its_key = its_key; its_head = its_head; its_row = kept }
slot_found_true c told w found.Contended its_key its_head none lost = record { its_key = its_key; its_head = its_head; its_row = (lost.0, λ empty. lost.1) }

find_true : (c : Trial) (told : Told) (w : WalkState) (ask : Ask FindAnswer) → w.step ≡ Finds → w.key ≡ key_of c.request.op → w.head ≡ c.seen.offsets.head → w.first ≡ None → Leads c told ask w.finding → WalkKnows c told (find_ledto c.places w ask)
unfolding find_ledto
find_true c told w (Done its) at its_key its_head none leads = slot_found_true c told (record w { spare = its.spare }) its.found its_key its_head none leads
find_true c told w ask at its_key its_head none leads = record { its_key = its_key; its_head = its_head; its_row = subst (WalkRow c told w) (sym at) (leads, none) }

record_true : (c : Trial) (told : Told) (w : WalkState) (addr : Addr) (header key : ℕ) → w.key ≡ key_of c.request.op → w.head ≡ c.seen.offsets.head → WalksTo c told w.place w.entry addr.0 → c.seen.offsets.head.0 ≤ addr.0
    → FirstAt c told w.place w.entry addr.0 w.first → Loaded told (record_place c.places addr.0 rec.Header) header → Loaded told (record_place c.places addr.0 rec.Key) key → w.loading ≡ HasKey addr header key
    → WalkKnows c told (record_met c.places w addr (record { 0 = key }) (header_said header))
unfolding header_said
record_true c told w addr header key its_key its_head walks in_memory first its_header has_key loading = by_header (is_header header) refl
  where
    version : Version
    version = record { 0 = version_in header }

    has_first : (its : Option Version) → FirstAt c told w.place w.entry addr.0 its → FirstSome c told w.place w.entry (first_met its version)
    has_first None at = record { header = header; slot = walks.slot; its_header = subst (λ a. Loaded told (record_place c.places a rec.Header) header) at its_header; its_version = refl }
    has_first (Some its) at = at

    first_at : (its : Option Version) → FirstSome c told w.place w.entry (first_met its version) → FirstAt c told w.place w.entry (previous_in header) (first_met its version)
    first_at None at = at
    first_at (Some its) at = at

    by_key : (b : Bool) → (key == w.key.0) ≡ b
        → WalkKnows c told (if b then record w { first = first_met w.first version; step = AtFound addr version } else reached c.places (record w { first = first_met w.first version }) (previous_in header))
    by_key true e = record {
      its_key = its_key;
      its_head = its_head;
      its_row = record {
        its_record = record { walk = walks; header = header; in_memory = in_memory; its_header = its_header; its_version = refl; its_key = subst (Loaded told (record_place c.places addr.0 rec.Key)) (eq_true key w.key.0 e ∙ ap (λ k. k.0) its_key) has_key };
        first = has_first w.first first;
        header = header;
        key = key;
        its_loading = loading;
      };
    }
    by_key false e = reached_true c told (record w { first = first_met w.first version }) (previous_in header) its_key its_head (record { slot = walks.slot; reached = Behind header key walks.reached its_header has_key (λ same. eq_false key w.key.0 e (same ∙ sym (ap (λ k. k.0) its_key))) }) (first_at w.first (has_first w.first first))

    by_previous : (b : Bool) → nat_lt (previous_in header) addr.0 ≡ b
        → WalkKnows c told (if b then (if key == w.key.0 then record w { first = first_met w.first version; step = AtFound addr version } else reached c.places (record w { first = first_met w.first version }) (previous_in header)) else record w { step = Ended walk.Contended })
    by_previous true e = by_key (key == w.key.0) refl
    by_previous false e = record { its_key = its_key; its_head = its_head; its_row = (NoStore (NotBelow walks its_header (lt_false (previous_in header) addr.0 e)), at_slot c told w.place w.entry walks.slot) }

    by_header : (b : Bool) → is_header header ≡ b → WalkKnows c told (record_met c.places w addr (record { 0 = key }) (if b then Says (record { 0 = previous_in header }) version else Spoiled))
    by_header true e = by_previous (nat_lt (previous_in header) addr.0) refl
    by_header false e = record { its_key = its_key; its_head = its_head; its_row = (NoStore (NoHeader walks its_header e), at_slot c told w.place w.entry walks.slot) }

load_true : (c : Trial) (told : Told) (w : WalkState) (addr : Addr) (loading : Loading) (reply : ℕ) → w.loading ≡ load_next loading reply → w.step ≡ Meets addr → w.key ≡ key_of c.request.op → w.head ≡ c.seen.offsets.head → WalksTo c told w.place w.entry addr.0
    → c.seen.offsets.head.0 ≤ addr.0 → FirstAt c told w.place w.entry addr.0 w.first → LoadRow c told addr loading → told (passed (passed (load_ask c.places loading) walk.Contended) answer.Shift) reply
    → WalkKnows c told (load_ledto c.places w addr (load_next_ask c.places loading reply))
unfolding load_ledto load_ask load_next load_next_ask passed
load_true c told w addr (LoadsHeader its) reply next at its_key its_head walks in_memory first row was = record {
  its_key = its_key;
  its_head = its_head;
  its_row = subst (WalkRow c told w) (sym at) (record { walks = walks; in_memory = in_memory; first = first; its_load = subst (LoadRow c told addr) (sym next) (row, subst (λ a. Loaded told (record_place c.places a.0 rec.Header) reply) row was) });
}
load_true c told w addr (LoadsKey its header) reply next at its_key its_head walks in_memory first row was =
    record_true c told w addr header reply its_key its_head walks in_memory first row.1 (subst (λ a. Loaded told (record_place c.places a.0 rec.Key) reply) row.0 was) (next ∙ ap (λ a. HasKey a header reply) row.0)
load_true c told w addr loading reply next at its_key its_head walks in_memory first row was = absurd row

walk_row_true : (c : Trial) (told : Told) (w : WalkState) (step : Walking) (reply : ℕ) → w.step ≡ step → w.key ≡ key_of c.request.op → w.head ≡ c.seen.offsets.head → WalkRow c told w step
    → told (passed (walking_ask c.places w step) answer.Shift) reply → WalkKnows c told (walking_next c.places w step reply)
unfolding walking_ask walking_next
walk_row_true c told w (Ended its) reply at its_key its_head row was = record { its_key = its_key; its_head = its_head; its_row = subst (WalkRow c told w) (sym at) row }
walk_row_true c told w Finds reply at its_key its_head row was =
    find_true c told (record w { finding = find_next c.places w.finding reply }) (find_next_ask c.places w.finding reply) at its_key its_head row.1 (search_true c told w.finding w.finding.step reply row.0.0 row.0.1 was)
walk_row_true c told w (Meets addr) reply at its_key its_head row was =
    load_true c told (record w { loading = load_next w.loading reply }) addr w.loading reply refl at its_key its_head row.walks row.in_memory row.first row.its_load was
walk_row_true c told w (AtFound addr version) reply at its_key its_head row was = record { its_key = its_key; its_head = its_head; its_row = subst (WalkRow c told w) (sym at) row }
walk_row_true c told w LoadsValue reply at its_key its_head row was = absurd row

-- a reply leads on
pub walk_true : (c : Trial) (told : Told) (w : WalkState) (reply : ℕ) → WalkKnows c told w → told (passed (walk_ask c.places w) answer.Shift) reply → WalkKnows c told (walk_next c.places w reply)
walk_true c told w reply knows was = walk_row_true c told w w.step reply refl knows.its_key knows.its_head knows.its_row was

-- as it begins, it asks
pub walk_begun_true : (c : Trial) (told : Told) (spare : ℕ) → WalkKnows c told (walk_begun c.places (home_at c) (key_of c.request.op) (purpose_at c.occasion c.request.op) c.seen.offsets.head spare)
walk_begun_true c told spare = record { its_key = refl; its_head = refl; its_row = (search_begun c told spare, refl) }

pub walk_begun_asks : (c : Trial) (spare : ℕ) → is_done (walk_ask c.places (walk_begun c.places (home_at c) (key_of c.request.op) (purpose_at c.occasion c.request.op) c.seen.offsets.head spare)) ≡ false
unfolding walking_ask find_step_ask passed
walk_begun_asks c spare = refl

-- where a walk has come to
abbrev pub WalkTrue : Trial → Told → WalkState → WalkAnswer → Type 0
WalkTrue c told w (walk.Found addr version) = (w.step ≡ AtFound addr version) × FoundKnows c told w addr version
WalkTrue c told w its = WalkEnd c told w its

ended_true : (c : Trial) (told : Told) (w : WalkState) (its : WalkAnswer) → WalkEnd c told w its → WalkTrue c told w its
ended_true c told w (walk.Found addr version) knows = absurd knows
ended_true c told w its knows = knows

not_passed : {A B : Type 0} (ask : Ask A) (a b : B) → is_done ask ≡ false → passed ask a ≡ Done b → ⊥
unfolding passed
not_passed (Done its) a b e f = cc
not_passed ask a b e f = cc

load_row_asks : (c : Trial) (told : Told) (addr : Addr) (loading : Loading) → LoadRow c told addr loading → is_done (load_ask c.places loading) ≡ false
unfolding load_ask
load_row_asks c told addr (LoadsHeader its) row = refl
load_row_asks c told addr (LoadsKey its header) row = refl
load_row_asks c told addr loading row = absurd row

walk_row_answers : (c : Trial) (told : Told) (w : WalkState) (step : Walking) (its : WalkAnswer) → w.step ≡ step → WalkRow c told w step → walking_ask c.places w step ≡ Done its → WalkTrue c told w its
unfolding walking_ask
walk_row_answers c told w (Ended it) its at row e = subst (WalkTrue c told w) (the_answer it its e) (ended_true c told w it row)
  where
    the_answer : (a b : WalkAnswer) → Done a ≡ Done b → a ≡ b
    the_answer a b e = cc
walk_row_answers c told w Finds its at row e = absurd (not_passed (find_step_ask w.finding w.finding.step) walk.Contended its (search_asks c told w.finding w.finding.step row.0.1) e)
walk_row_answers c told w (Meets addr) its at row e = absurd (not_passed (load_ask c.places w.loading) walk.Contended its (load_row_asks c told addr w.loading row.its_load) e)
walk_row_answers c told w (AtFound addr version) its at row e = subst (WalkTrue c told w) (the_answer (walk.Found addr version) its e) (at, row)
  where
    the_answer : (a b : WalkAnswer) → Done a ≡ Done b → a ≡ b
    the_answer a b e = cc
walk_row_answers c told w LoadsValue its at row e = absurd row

pub walk_answers : (c : Trial) (told : Told) (w : WalkState) (its : WalkAnswer) → WalkKnows c told w → walk_ask c.places w ≡ Done its → WalkTrue c told w its
walk_answers c told w its knows e = walk_row_answers c told w w.step its refl knows.its_row e

-- the walk loads the value of the record that it has found
pub record LoadsRecord (w : WalkState) (addr : Addr) : Type 0 where
  pub header : ℕ
  pub key : ℕ
  pub its_step : w.step ≡ LoadsValue
  pub its_loading : w.loading ≡ LoadsItsValue addr header key

pub walk_on_loads : (c : Trial) (told : Told) (w : WalkState) (addr : Addr) (version : Version) → w.step ≡ AtFound addr version → FoundKnows c told w addr version → LoadsRecord (walk_on w) addr
unfolding walking_on load_on
walk_on_loads c told w addr version at knows = by_step w.step at
  where
    its_load : load_on w.loading ≡ LoadsItsValue addr knows.header knows.key
    its_load = rw (knows.its_loading, load_on) refl

    by_step : (step : Walking) → step ≡ AtFound addr version → LoadsRecord (walking_on w step) addr
    by_step (AtFound a v) e = record { header = knows.header; key = knows.key; its_step = refl; its_loading = its_load }
    by_step (Ended its) e = cc
    by_step Finds e = cc
    by_step (Meets a) e = cc
    by_step LoadsValue e = cc

pub walk_on_found : (c : Trial) (told : Told) (w : WalkState) (addr : Addr) (version : Version) → w.step ≡ AtFound addr version → FoundKnows c told w addr version
    → HasFound c told (walk_on w).place (walk_on w).entry addr.0 version.0
unfolding walking_on
walk_on_found c told w addr version at knows = by_step w.step at
  where
    by_step : (step : Walking) → step ≡ AtFound addr version → HasFound c told (walking_on w step).place (walking_on w step).entry addr.0 version.0
    by_step (AtFound a v) e = knows.its_record
    by_step (Ended its) e = cc
    by_step Finds e = cc
    by_step (Meets a) e = cc
    by_step LoadsValue e = cc

-- what is sought in the record leaves the slot as it was found
pub walk_on_same : (w : WalkState) → ((walk_on w).place ≡ w.place) × ((walk_on w).entry ≡ w.entry)
unfolding walking_on
walk_on_same w = by_step w.step
  where
    by_step : (step : Walking) → ((walking_on w step).place ≡ w.place) × ((walking_on w step).entry ≡ w.entry)
    by_step (AtFound addr version) = (refl, refl)
    by_step (Ended its) = (refl, refl)
    by_step Finds = (refl, refl)
    by_step (Meets addr) = (refl, refl)
    by_step LoadsValue = (refl, refl)

pub loads_place : (p : Places) (w : WalkState) (addr : Addr) → LoadsRecord w addr → passed (walk_ask p w) answer.Shift ≡ Load (record_place p addr.0 rec.Value)
unfolding walking_ask load_ask passed
loads_place p w addr loads = rw (loads.its_step, walking_ask, loads.its_loading, load_ask, passed) refl

pub loads_asks : (p : Places) (w : WalkState) (addr : Addr) → LoadsRecord w addr → is_done (walk_ask p w) ≡ false
unfolding walking_ask load_ask passed
loads_asks p w addr loads = rw (loads.its_step, walking_ask, loads.its_loading, load_ask, passed) refl

pub loads_value : (p : Places) (w : WalkState) (addr : Addr) (reply : ℕ) → LoadsRecord w addr → walk_ask p (walk_next p w reply) ≡ Done (walk.Value reply)
unfolding walking_ask walking_next load_next load_next_ask value_ledto
loads_value p w addr reply loads = rw (loads.its_step, walking_next, loads.its_loading, load_next_ask, load_next, value_ledto) refl

-- the slot stays as it was found
pub loads_same : (p : Places) (w : WalkState) (addr : Addr) (reply : ℕ) → LoadsRecord w addr → ((walk_next p w reply).place ≡ w.place) × ((walk_next p w reply).entry ≡ w.entry)
unfolding walking_next load_next load_next_ask value_ledto
loads_same p w addr reply loads = (rw (loads.its_step, walking_next, loads.its_loading, load_next_ask, load_next, value_ledto) refl, rw (loads.its_step, walking_next, loads.its_loading, load_next_ask, load_next, value_ledto) refl)
