-- What a walk is about in the index, and how a reply moves it.
use Rattle.std.proofs.Common.{◌≡◌, ℕ, ◌∙◌, refl, sym, ap, subst, Bool, true, false}
use Rattle.std.specs.Prelude.{if◌then◌else◌, ◌==◌, nat_lt, ◌-◌, ⊤}
use Rattle.fkv_base.specs.declared.numbers.Addr.{Addr}
use Rattle.fkv_base.specs.declared.numbers.Key.{Key}
use Rattle.fkv_plane.specs.declared.asks.Ask.{Ask}
use Rattle.fkv_plane.specs.declared.asks.Ask.TheVariants.{Load, Store, Swap, Cas, Add, Max, Put, Take, Done}
use Rattle.fkv_plane.specs.declared.places.Places.{Places}
use Rattle.fkv_plane.specs.Passing.{is_done}
use Rattle.law_world.specs.Below.fkv_log.LoadAnswer.{LoadAnswer}
use Rattle.law_world.specs.Below.fkv_log.LoadAnswer.TheVariants as load
use Rattle.law_world.specs.Below.fkv_log.TheLoading.TheVariants as loading
use Rattle.law_world.specs.Below.fkv_log.Loading.{load_next, load_next_ask}
use Rattle.fkv_index.specs.declared.finding.FindAnswer.{FindAnswer}
use Rattle.fkv_index.specs.declared.finding.Found.{Found}
use Rattle.fkv_index.specs.declared.finding.Found.TheVariants as found
use Rattle.fkv_index.specs.Finding.{find_led, find_next, find_next_ask}
use Rattle.fkv_index.specs.Slots.{entry_addr}
use Rattle.fkv_index.proofs.Shown.{IsNoMiss, MayLink, led_so, update_led, led_may}
use Rattle.law_world.specs.Below.fkv_ops.HeaderSaid.{HeaderSaid}
use Rattle.law_world.specs.Below.fkv_ops.HeaderSaid.TheVariants.{Says, Spoiled}
use Rattle.law_world.specs.Below.fkv_ops.WalkAnswer.{WalkAnswer}
use Rattle.law_world.specs.Below.fkv_ops.WalkAnswer.TheVariants as walk
use Rattle.law_world.specs.Below.fkv_ops.TheWalking.{Walking}
use Rattle.law_world.specs.Below.fkv_ops.TheWalking.TheVariants as walking
use Rattle.law_world.specs.Below.fkv_ops.HeaderWords.{header_said}
use Rattle.law_world.specs.Below.fkv_ops.Requests.{is_read, purpose_at}
use Rattle.law_world.specs.Below.fkv_ops.Trying.{TryState, has_walked}
use Rattle.law_world.specs.Below.fkv_ops.Walking.{WalkState, walk_ask, walking_ask, walking_next, walk_next, walking_on, walk_on, walk_ended, reached, slot_found, find_ledto, first_met, record_met, load_ledto, value_ledto}
use Rattle.law_world.proofs.Below.fkv_ops.Shown.{is_walk_end}
use Rattle.law_refine.specs.Index.Finders.{Search, KeptSlot, SessionWork, NoWork, Searches, KeepsSlot, IndexPart, slot_kept, kept_work, ended_work, walk_work}
use Rattle.law_refine.proofs.OfIndex.FindingFacts.{next_home}
use Rattle.law_refine.proofs.OfIndex.Goes.{spare_by, WorkGoes, SeeksOn, HasFound, Drops, Goes, part, IsQuiet, stays, IsLeft, Gone, Kept, left}

abbrev pub is_finding : Walking → Bool
is_finding walking.Finds = true
is_finding step = false

abbrev pub with_walk : TryState → WalkState → TryState
with_walk t w = record t { walk = w }

abbrev pub IsUpdate : TryState → Type 0
IsUpdate t = is_read t.request.op ≡ false

-- behind its search a walk keeps the slot and what is to spare
pub record IsBehind (w after : WalkState) : Type 0 where
  pub place : after.place ≡ w.place
  pub entry : after.entry ≡ w.entry
  pub spare : after.spare ≡ w.spare
  pub past : is_finding after.step ≡ false

either_behind : (c : Bool) {w : WalkState} (a b : WalkState) → IsBehind w a → IsBehind w b → IsBehind w (if c then a else b)
either_behind true a b one other = one
either_behind false a b one other = other

reached_behind : (p : Places) (w : WalkState) (addr : ℕ) → IsBehind w (reached p w addr)
reached_behind p w addr =
    either_behind (addr == 0) (walk_ended w walk.Nowhere) _ (record { place = refl; entry = refl; spare = refl; past = refl })
    (either_behind (nat_lt addr w.head.0) (walk_ended w (walk.OnDisk (record { 0 = addr }))) _ (record { place = refl; entry = refl; spare = refl; past = refl })
    (either_behind (nat_lt (addr - w.head.0) p.ring) (record w { loading = loading.LoadsHeader (record { 0 = addr }); step = walking.Meets (record { 0 = addr }) }) (walk_ended w walk.Contended)
    (record { place = refl; entry = refl; spare = refl; past = refl }) (record { place = refl; entry = refl; spare = refl; past = refl })))

met_behind : (p : Places) (w : WalkState) (addr : Addr) (key : Key) (said : HeaderSaid) → IsBehind w (record_met p w addr key said)
met_behind p w addr key Spoiled = record { place = refl; entry = refl; spare = refl; past = refl }
met_behind p w addr key (Says previous version) =
    let met : WalkState = record w { first = first_met w.first version } in
    let its = reached_behind p met previous.0 in
    either_behind (nat_lt previous.0 addr.0) _ (walk_ended w walk.Contended)
    (either_behind (key.0 == w.key.0) (record met { step = walking.HasFound addr version }) (reached p met previous.0) (record { place = refl; entry = refl; spare = refl; past = refl })
    (record { place = its.place; entry = its.entry; spare = its.spare; past = its.past }))
    (record { place = refl; entry = refl; spare = refl; past = refl })

load_behind : (p : Places) (w : WalkState) (addr : Addr) (ask : Ask LoadAnswer) → is_finding w.step ≡ false → IsBehind w (load_ledto p w addr ask)
unfolding load_ledto
load_behind p w addr (Done (load.Met header key)) past = met_behind p w addr key (header_said header)
load_behind p w addr (Done other) past = record { place = refl; entry = refl; spare = refl; past = refl }
load_behind p w addr ask past = record { place = refl; entry = refl; spare = refl; past = past }

value_behind : (w : WalkState) (ask : Ask LoadAnswer) → is_finding w.step ≡ false → IsBehind w (value_ledto w ask)
unfolding value_ledto
value_behind w (Done (load.Whole header key value)) past = record { place = refl; entry = refl; spare = refl; past = refl }
value_behind w (Done other) past = record { place = refl; entry = refl; spare = refl; past = refl }
value_behind w ask past = record { place = refl; entry = refl; spare = refl; past = past }

walking_behind : (p : Places) (w : WalkState) (step : Walking) (reply : ℕ) → w.step ≡ step → is_finding step ≡ false → IsBehind w (walking_next p w step reply)
unfolding walking_next
walking_behind p w (walking.Ended its) reply at past = record { place = refl; entry = refl; spare = refl; past = ap is_finding at }
walking_behind p w walking.Finds reply at past = cc
walking_behind p w (walking.Meets addr) reply at past =
    let its = load_behind p (record w { loading = load_next w.loading reply }) addr (load_next_ask p w.loading reply) (ap is_finding at) in
    record { place = its.place; entry = its.entry; spare = its.spare; past = its.past }
walking_behind p w (walking.HasFound addr version) reply at past = record { place = refl; entry = refl; spare = refl; past = ap is_finding at }
walking_behind p w walking.LoadsValue reply at past =
    let its = value_behind (record w { loading = load_next w.loading reply }) (load_next_ask p w.loading reply) (ap is_finding at) in
    record { place = its.place; entry = its.entry; spare = its.spare; past = its.past }

pub walk_behind : (p : Places) (w : WalkState) (reply : ℕ) → is_finding w.step ≡ false → IsBehind w (walk_next p w reply)
walk_behind p w reply past = walking_behind p w w.step reply refl past

-- so it does where it goes on to a value
on_behind : (w : WalkState) (step : Walking) → w.step ≡ step → is_finding step ≡ false → IsBehind w (walking_on w step)
unfolding walking_on
on_behind w (walking.Ended its) at past = record { place = refl; entry = refl; spare = refl; past = ap is_finding at }
on_behind w walking.Finds at past = cc
on_behind w (walking.Meets addr) at past = record { place = refl; entry = refl; spare = refl; past = ap is_finding at }
on_behind w (walking.HasFound addr version) at past = record { place = refl; entry = refl; spare = refl; past = refl }
on_behind w walking.LoadsValue at past = record { place = refl; entry = refl; spare = refl; past = ap is_finding at }

pub walk_on_behind : (w : WalkState) → is_finding w.step ≡ false → IsBehind w (walk_on w)
walk_on_behind w past = on_behind w w.step refl past

pub same_kept : (t : TryState) (w after : WalkState) → IsBehind w after → kept_work (with_walk t after) ≡ kept_work (with_walk t w)
same_kept t w after behind =
    let place = behind.place in
    let entry = behind.entry in
    rw (place, entry) refl

quiet_if : (c : Bool) (slot : KeptSlot) → IsQuiet (if c then NoWork else KeepsSlot slot)
quiet_if true slot = tt
quiet_if false slot = tt

pub kept_quiet : (t : TryState) → IsQuiet (kept_work t)
kept_quiet t = quiet_if (is_read t.request.op) (slot_kept t)

left_if : (c : Bool) (kept : SessionWork) → IsLeft kept (if c then kept else NoWork)
left_if true kept = Kept refl
left_if false kept = Gone refl

past_left : (t : TryState) (w : WalkState) (step : Walking) → is_finding step ≡ false → IsLeft (kept_work (with_walk t w)) (walk_work (with_walk t w) step)
past_left t w (walking.Ended its) past = left_if (has_walked its) (kept_work (with_walk t w))
past_left t w walking.Finds past = cc
past_left t w (walking.Meets addr) past = Kept refl
past_left t w (walking.HasFound addr version) past = Kept refl
past_left t w walking.LoadsValue past = Kept refl

-- while it searches, it searches for the home of the try; and one for an update may link
abbrev pub WalkKnows : TryState → WalkState → Walking → Type 0
WalkKnows t w walking.Finds = (w.finding.home ≡ t.home) × (IsUpdate t → MayLink w.finding)
WalkKnows t w step = ⊤

past_knows : (t : TryState) (w : WalkState) (step : Walking) → is_finding step ≡ false → WalkKnows t w step
past_knows t w (walking.Ended its) past = tt
past_knows t w walking.Finds past = cc
past_knows t w (walking.Meets addr) past = tt
past_knows t w (walking.HasFound addr version) past = tt
past_knows t w walking.LoadsValue past = tt

abbrev pub walk_part : TryState → WalkState → Walking → IndexPart
walk_part t w step = part (walk_work (with_walk t w) step) w.spare

pub record WalkGoes (p : Places) (reply : ℕ) (before : IndexPart) (t : TryState) (w : WalkState) : Type 0 where
  pub knows : WalkKnows t w w.step
  pub goes : Goes p reply before (walk_part t w w.step)

-- from where its slot is found
behind_goes : (p : Places) (reply : ℕ) (before : IndexPart) (t : TryState) (w after : WalkState) → IsBehind w after → Goes p reply before (part (kept_work (with_walk t w)) w.spare) → WalkGoes p reply before t after
behind_goes p reply before t w after behind goes =
    let kept : IsLeft (kept_work (with_walk t w)) (walk_work (with_walk t after) after.step) = subst (λ x. IsLeft x (walk_work (with_walk t after) after.step)) (same_kept t w after behind) (past_left t after after.step behind.past) in
    record {
      knows = past_knows t after after.step behind.past;
      goes = left p reply before (kept_work (with_walk t w)) (walk_work (with_walk t after) after.step) w.spare after.spare (kept_quiet (with_walk t w)) goes kept behind.spare;
    }

-- the search under way
abbrev its_search : TryState → WalkState → Search
its_search t w = record { finding = w.finding; purpose = purpose_at t.occasion t.request.op }

told_spare : (p : Places) (reply : ℕ) (its : Search) (spare : ℕ) (answer : FindAnswer) → find_next_ask p its.finding reply ≡ Done answer → answer.spare ≡ spare_by p reply (Searches its) spare
told_spare p reply its spare answer asks = rw asks refl

lost_goes : (p : Places) (reply : ℕ) (t : TryState) (w : WalkState) (its : Search) (spare : ℕ) (answer : FindAnswer) → find_next_ask p its.finding reply ≡ Done answer → w.spare ≡ answer.spare → Goes p reply (part (Searches its) spare) (part NoWork w.spare)
lost_goes p reply t w its spare answer asks same = record { work = Drops (ap is_done asks) refl; spare = same ∙ told_spare p reply its spare answer asks }

found_goes : (p : Places) (reply : ℕ) (t : TryState) (w : WalkState) (its : Search) (spare : ℕ) (answer : FindAnswer) → find_next_ask p its.finding reply ≡ Done answer → answer.found ≡ found.Slot w.place w.entry → its.finding.home ≡ t.home → w.spare ≡ answer.spare
    → Goes p reply (part (Searches its) spare) (part (kept_work (with_walk t w)) w.spare)
found_goes p reply t w its spare answer asks finds home same = record { work = by_read (is_read t.request.op); spare = same ∙ told_spare p reply its spare answer asks }
  where
    by_read : (c : Bool) → WorkGoes p reply (Searches its) (if c then NoWork else KeepsSlot (slot_kept (with_walk t w))) w.spare
    by_read true = Drops (ap is_done asks) refl
    by_read false = HasFound its answer (slot_kept (with_walk t w)) refl asks finds home refl

-- an update never comes to no slot
none_goes : (p : Places) (reply : ℕ) (t : TryState) (w : WalkState) (its : Search) (spare : ℕ) (answer : FindAnswer) → find_next_ask p its.finding reply ≡ Done answer → answer.found ≡ found.NoSlot → (IsUpdate t → MayLink its.finding) → w.spare ≡ answer.spare
    → Goes p reply (part (Searches its) spare) (part (kept_work (with_walk t w)) w.spare)
none_goes p reply t w its spare answer asks finds may same = record { work = by_read (is_read t.request.op) refl; spare = same ∙ told_spare p reply its spare answer asks }
  where
    by_read : (c : Bool) → is_read t.request.op ≡ c → WorkGoes p reply (Searches its) (if c then NoWork else KeepsSlot (slot_kept (with_walk t w))) w.spare
    by_read true read = Drops (ap is_done asks) refl
    by_read false update = absurd (subst (IsNoMiss) finds (led_so (IsNoMiss) (find_led p its.finding its.finding.step reply) answer (update_led p its.finding its.finding.step reply (may update)) asks))

slot_goes : (p : Places) (reply : ℕ) (t : TryState) (w : WalkState) (its : Search) (spare : ℕ) (answer : FindAnswer) (here : Found) → find_next_ask p its.finding reply ≡ Done answer → answer.found ≡ here → its.finding.home ≡ t.home → (IsUpdate t → MayLink its.finding)
    → w.spare ≡ answer.spare → WalkGoes p reply (part (Searches its) spare) t (slot_found p w here)
slot_goes p reply t w its spare answer (found.Slot place word) asks finds home may same =
    let at : WalkState = record w { place = place; entry = word } in
    behind_goes p reply (part (Searches its) spare) t at (reached p at (entry_addr word)) (reached_behind p at (entry_addr word)) (found_goes p reply t at its spare answer asks finds home same)
slot_goes p reply t w its spare answer found.NoSlot asks finds home may same = record { knows = tt; goes = none_goes p reply t (walk_ended w walk.Nowhere) its spare answer asks finds may same }
slot_goes p reply t w its spare answer found.Full asks finds home may same = record { knows = tt; goes = lost_goes p reply t (walk_ended w walk.Full) its spare answer asks same }
slot_goes p reply t w its spare answer found.Kept asks finds home may same = record { knows = tt; goes = lost_goes p reply t (walk_ended w walk.Kept) its spare answer asks same }
slot_goes p reply t w its spare answer found.Contended asks finds home may same = record { knows = tt; goes = lost_goes p reply t (walk_ended w walk.Contended) its spare answer asks same }

-- the search goes on
more_goes : (p : Places) (reply : ℕ) (t : TryState) (w : WalkState) (its : Search) (spare : ℕ) → w.step ≡ walking.Finds → w.finding ≡ find_next p its.finding reply → its.purpose ≡ purpose_at t.occasion t.request.op → w.spare ≡ spare → its.finding.home ≡ t.home
    → (IsUpdate t → MayLink its.finding) → is_done (find_next_ask p its.finding reply) ≡ false → spare_by p reply (Searches its) spare ≡ spare → WalkGoes p reply (part (Searches its) spare) t w
more_goes p reply t w its spare at same purpose kept home may more told = record {
  knows = subst (λ x. WalkKnows t w x) (sym at) (rw same (next_home p its.finding reply ∙ home), λ update. rw same (led_may p its.finding its.finding.step reply (may update)));
  goes = record { work = SeeksOn its refl more (rw (at, same, purpose) refl); spare = kept ∙ sym told };
}

find_goes : (p : Places) (reply : ℕ) (t : TryState) (w : WalkState) (its : Search) (spare : ℕ) (ask : Ask FindAnswer) → w.step ≡ walking.Finds → w.finding ≡ find_next p its.finding reply → its.purpose ≡ purpose_at t.occasion t.request.op → w.spare ≡ spare → its.finding.home ≡ t.home
    → (IsUpdate t → MayLink its.finding) → find_next_ask p its.finding reply ≡ ask → WalkGoes p reply (part (Searches its) spare) t (find_ledto p w ask)
unfolding find_ledto
find_goes p reply t w its spare (Done answer) at same purpose kept home may asks = slot_goes p reply t (record w { spare = answer.spare }) its spare answer answer.found asks refl home may refl
find_goes p reply t w its spare (Load place) at same purpose kept home may asks = more_goes p reply t w its spare at same purpose kept home may (ap is_done asks) (rw asks refl)
find_goes p reply t w its spare (Store place word) at same purpose kept home may asks = more_goes p reply t w its spare at same purpose kept home may (ap is_done asks) (rw asks refl)
find_goes p reply t w its spare (Swap place word) at same purpose kept home may asks = more_goes p reply t w its spare at same purpose kept home may (ap is_done asks) (rw asks refl)
find_goes p reply t w its spare (Cas place old new) at same purpose kept home may asks = more_goes p reply t w its spare at same purpose kept home may (ap is_done asks) (rw asks refl)
find_goes p reply t w its spare (Add place k) at same purpose kept home may asks = more_goes p reply t w its spare at same purpose kept home may (ap is_done asks) (rw asks refl)
find_goes p reply t w its spare (Max place k) at same purpose kept home may asks = more_goes p reply t w its spare at same purpose kept home may (ap is_done asks) (rw asks refl)
find_goes p reply t w its spare (Put slot action) at same purpose kept home may asks = more_goes p reply t w its spare at same purpose kept home may (ap is_done asks) (rw asks refl)
find_goes p reply t w its spare (Take slot) at same purpose kept home may asks = more_goes p reply t w its spare at same purpose kept home may (ap is_done asks) (rw asks refl)

quiet_goes : (p : Places) (reply : ℕ) (t : TryState) (w : WalkState) (step : Walking) → w.step ≡ step → is_finding step ≡ false → walk_work (with_walk t w) step ≡ kept_work (with_walk t w) → WalkGoes p reply (walk_part t w step) t (walking_next p w step reply)
quiet_goes p reply t w step at past kept =
    behind_goes p reply (walk_part t w step) t w (walking_next p w step reply) (walking_behind p w step reply at past)
    (rw kept (stays p reply (kept_work (with_walk t w)) w.spare (kept_quiet (with_walk t w))))

still_goes : (p : Places) (reply : ℕ) (t : TryState) (w : WalkState) (its : WalkAnswer) → w.step ≡ walking.Ended its → WalkGoes p reply (walk_part t w (walking.Ended its)) t w
still_goes p reply t w its at = record {
  knows = subst (λ x. WalkKnows t w x) (sym at) tt;
  goes = subst (λ x. Goes p reply (walk_part t w (walking.Ended its)) (walk_part t w x)) (sym at) (stays p reply (ended_work (with_walk t w) its) w.spare (by_end (has_walked its)));
}
  where
    by_end : (c : Bool) → IsQuiet (if c then kept_work (with_walk t w) else NoWork)
    by_end true = kept_quiet (with_walk t w)
    by_end false = tt

walking_goes : (p : Places) (reply : ℕ) (t : TryState) (w : WalkState) (step : Walking) → w.step ≡ step → WalkKnows t w step → WalkGoes p reply (walk_part t w step) t (walking_next p w step reply)
unfolding walking_next
walking_goes p reply t w (walking.Ended its) at knows = still_goes p reply t w its at
walking_goes p reply t w walking.Finds at knows =
    find_goes p reply t (record w { finding = find_next p w.finding reply }) (its_search t w) w.spare (find_next_ask p w.finding reply) at refl refl refl knows.0 knows.1 refl
walking_goes p reply t w (walking.Meets addr) at knows = quiet_goes p reply t w (walking.Meets addr) at refl refl
walking_goes p reply t w (walking.HasFound addr version) at knows = quiet_goes p reply t w (walking.HasFound addr version) at refl refl
walking_goes p reply t w walking.LoadsValue at knows = quiet_goes p reply t w walking.LoadsValue at refl refl

-- each reply to a walk
pub walk_goes : (p : Places) (reply : ℕ) (t : TryState) (w : WalkState) → WalkKnows t w w.step → WalkGoes p reply (walk_part t w w.step) t (walk_next p w reply)
walk_goes p reply t w knows = walking_goes p reply t w w.step refl knows

-- a walk at its end is past its search, and goes by its slot where it isn't lost
pub end_past : (step : Walking) → is_walk_end step ≡ true → is_finding step ≡ false
end_past (walking.Ended its) ends = refl
end_past walking.Finds ends = cc
end_past (walking.Meets addr) ends = cc
end_past (walking.HasFound addr version) ends = refl
end_past walking.LoadsValue ends = cc

end_kept : (p : Places) (t : TryState) (w : WalkState) (step : Walking) (its : WalkAnswer) → is_walk_end step ≡ true → walking_ask p w step ≡ Done its → has_walked its ≡ true → walk_work (with_walk t w) step ≡ kept_work (with_walk t w)
unfolding walking_ask
end_kept p t w (walking.Ended other) its ends asks found = let same : other ≡ its = cc in rw (same, found) refl
end_kept p t w walking.Finds its ends asks found = cc
end_kept p t w (walking.Meets addr) its ends asks found = cc
end_kept p t w (walking.HasFound addr version) its ends asks found = refl
end_kept p t w walking.LoadsValue its ends asks found = cc

pub walk_end_kept : (p : Places) (t : TryState) (w : WalkState) (its : WalkAnswer) → is_walk_end w.step ≡ true → walk_ask p w ≡ Done its → has_walked its ≡ true → walk_work (with_walk t w) w.step ≡ kept_work (with_walk t w)
walk_end_kept p t w its ends asks found = end_kept p t w w.step its ends asks found

-- and it searches no more
pub walk_end_quiet : (t : TryState) (w : WalkState) (step : Walking) → is_walk_end step ≡ true → IsQuiet (walk_work (with_walk t w) step)
walk_end_quiet t w step ends = by_left (past_left t w step (end_past step ends))
  where
    by_left : IsLeft (kept_work (with_walk t w)) (walk_work (with_walk t w) step) → IsQuiet (walk_work (with_walk t w) step)
    by_left (Gone none) = rw none tt
    by_left (Kept keeps) = subst IsQuiet (sym keeps) (kept_quiet (with_walk t w))
