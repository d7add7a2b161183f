-- A walk writes only what its search writes; and behind it an update has its slot, which is one of the index.
use Rattle.std.proofs.Common.{◌≡◌, ℕ, ◌<◌, refl, sym, subst, Bool, true, false}
use Rattle.std.specs.Prelude.{if◌then◌else◌, ◌==◌, ◌-◌, nat_lt, ⊤}
use Rattle.fkv_base.specs.declared.numbers.Addr.{Addr}
use Rattle.fkv_base.specs.declared.numbers.Key.{Key}
use Rattle.fkv_plane.specs.declared.asks.Ask.{Ask}
use Rattle.fkv_plane.specs.declared.asks.Ask.TheVariants.{Load, Store, Swap, Cas, Add, Max, Put, Take, Done}
use Rattle.fkv_plane.specs.declared.places.Places.{Places}
use Rattle.fkv_index.specs.declared.finding.FindAnswer.{FindAnswer}
use Rattle.fkv_index.specs.declared.finding.Found.{Found}
use Rattle.fkv_index.specs.declared.finding.Found.TheVariants as found
use Rattle.fkv_index.specs.declared.finding.Linking.TheVariants.{Never}
use Rattle.fkv_index.specs.declared.finding.Purpose.{Purpose}
use Rattle.fkv_index.specs.declared.homes.Home.{Home}
use Rattle.fkv_index.specs.Slots.{entry_addr}
use Rattle.fkv_index.specs.Finding.{linking_for, find_ask, find_next, find_next_ask}
use Rattle.fkv_index.proofs.Shown.{MayLink, led_may, IsNoMiss}
use Rattle.fkv_flush.specs.GuardWorld.{is_guarded}
use Rattle.fkv_log.specs.declared.loading.LoadAnswer.{LoadAnswer}
use Rattle.fkv_log.specs.declared.loading.LoadAnswer.TheVariants as load
use Rattle.fkv_log.specs.declared.loading.Loading.{Loading}
use Rattle.fkv_log.specs.declared.loading.Loading.TheVariants as loading
use Rattle.fkv_log.specs.Loading.{load_ask, load_next, load_next_ask}
use Rattle.fkv_ops.specs.declared.header_words.HeaderSaid.{HeaderSaid}
use Rattle.fkv_ops.specs.declared.header_words.HeaderSaid.TheVariants.{Says, Spoiled}
use Rattle.fkv_ops.specs.declared.walking.WalkAnswer.{WalkAnswer}
use Rattle.fkv_ops.specs.declared.walking.WalkAnswer.TheVariants as answer
use Rattle.fkv_ops.specs.declared.walking.Walking.{Walking}
use Rattle.fkv_ops.specs.declared.walking.Walking.TheVariants.{Ended, Finds, Meets, HasFound, LoadsValue}
use Rattle.fkv_ops.specs.HeaderWords.{header_said}
use Rattle.fkv_ops.specs.Walking.{WalkState, walk_begun, walking_ask, walk_ask, walk_ended, reached, slot_found, find_ledto, first_met, record_met, load_ledto, value_ledto, walking_next, walk_next, walking_on, walk_on}
use Rattle.fkv_plane.specs.Passing.{passed}
use Rattle.law_world.specs.GuardSessions.Steps.{IsOuter}
use Rattle.law_world.proofs.OfGuardSessions.OuterAsks.{passed_is_outer}
use Rattle.law_world.proofs.OfGuardSessions.FindsOuter.{IsAtBucket, FoundOuter, FindsOuter, TellsUpdate, find_outer, finds_outer, first_outer, next_update}

-- where the walk is one of an update its slot is none of the guard's
abbrev pub HasPlace : Places → Bool → WalkState → Type 0
HasPlace p reads w = reads ≡ false → is_guarded p w.place ≡ false

-- behind its search, but where that came to nothing
abbrev pub WalkRow : Places → Bool → WalkState → Walking → Type 0
WalkRow p reads w Finds = IsAtBucket p w.finding × (reads ≡ false → MayLink w.finding)
WalkRow p reads w (Ended answer.Full) = ⊤
WalkRow p reads w (Ended answer.Kept) = ⊤
WalkRow p reads w (Ended answer.Contended) = ⊤
WalkRow p reads w step = HasPlace p reads w

abbrev pub IsWalkOuter : Places → Bool → WalkState → Type 0
IsWalkOuter p reads w = WalkRow p reads w w.step

load_outer : (p : Places) (step : Loading) → IsOuter p (load_ask p step)
unfolding load_ask
load_outer p loading.AtRest = tt
load_outer p (loading.LoadsHeader addr) = tt
load_outer p (loading.LoadsKey addr header) = tt
load_outer p (loading.HasKey addr header key) = tt
load_outer p (loading.LoadsValue addr header key) = tt

walking_outer : (p : Places) (reads : Bool) (w : WalkState) (step : Walking) → WalkRow p reads w step → IsOuter p (walking_ask p w step)
unfolding walking_ask
walking_outer p reads w (Ended its) row = tt
walking_outer p reads w Finds row = passed_is_outer p _ _ (find_outer p w.finding row.0)
walking_outer p reads w (Meets addr) row = passed_is_outer p _ _ (load_outer p w.loading)
walking_outer p reads w (HasFound addr version) row = tt
walking_outer p reads w LoadsValue row = passed_is_outer p _ _ (load_outer p w.loading)

pub walk_outer : (p : Places) (reads : Bool) (w : WalkState) → IsWalkOuter p reads w → IsOuter p (walk_ask p w)
walk_outer p reads w row = walking_outer p reads w w.step row

-- at each end but those of a search that came to nothing
abbrev pub AnswerOuter : Places → Bool → WalkState → WalkAnswer → Type 0
AnswerOuter p reads w answer.Full = ⊤
AnswerOuter p reads w answer.Kept = ⊤
AnswerOuter p reads w answer.Contended = ⊤
AnswerOuter p reads w its = HasPlace p reads w

abbrev pub WalkTells : Places → Bool → WalkState → Ask WalkAnswer → Type 0
WalkTells p reads w (Done its) = AnswerOuter p reads w its
WalkTells p reads w ask = ⊤

passed_tells : {A : Type 0} (p : Places) (reads : Bool) (w : WalkState) (ask : Ask A) → WalkTells p reads w (passed ask answer.Contended)
unfolding passed
passed_tells p reads w (Load place) = tt
passed_tells p reads w (Store place word) = tt
passed_tells p reads w (Swap place word) = tt
passed_tells p reads w (Cas place old new) = tt
passed_tells p reads w (Add place number) = tt
passed_tells p reads w (Max place number) = tt
passed_tells p reads w (Put slot action) = tt
passed_tells p reads w (Take slot) = tt
passed_tells p reads w (Done its) = tt

ended_tells : (p : Places) (reads : Bool) (w : WalkState) (its : WalkAnswer) → WalkRow p reads w (Ended its) → AnswerOuter p reads w its
ended_tells p reads w (answer.Found addr version) row = row
ended_tells p reads w answer.Nowhere row = row
ended_tells p reads w (answer.OnDisk addr) row = row
ended_tells p reads w (answer.Value value) row = row
ended_tells p reads w answer.Full row = tt
ended_tells p reads w answer.Kept row = tt
ended_tells p reads w answer.Contended row = tt

walking_tells : (p : Places) (reads : Bool) (w : WalkState) (step : Walking) → WalkRow p reads w step → WalkTells p reads w (walking_ask p w step)
unfolding walking_ask
walking_tells p reads w (Ended its) row = ended_tells p reads w its row
walking_tells p reads w Finds row = passed_tells p reads w (find_ask w.finding)
walking_tells p reads w (Meets addr) row = passed_tells p reads w (load_ask p w.loading)
walking_tells p reads w (HasFound addr version) row = row
walking_tells p reads w LoadsValue row = passed_tells p reads w (load_ask p w.loading)

pub walk_tells : (p : Places) (reads : Bool) (w : WalkState) → IsWalkOuter p reads w → WalkTells p reads w (walk_ask p w)
walk_tells p reads w row = walking_tells p reads w w.step row

-- where a reply leads
either_outer : (c : Bool) (p : Places) (reads : Bool) (a b : WalkState) → IsWalkOuter p reads a → IsWalkOuter p reads b → IsWalkOuter p reads (if c then a else b)
either_outer true p reads a b one other = one
either_outer false p reads a b one other = other

stays_outer : (p : Places) (reads : Bool) (w : WalkState) (step : Walking) → w.step ≡ step → WalkRow p reads w step → IsWalkOuter p reads w
stays_outer p reads w step at row = subst (λ x. WalkRow p reads w x) (sym at) row

reached_outer : (p : Places) (reads : Bool) (w : WalkState) (addr : ℕ) → HasPlace p reads w → IsWalkOuter p reads (reached p w addr)
reached_outer p reads w addr has =
    either_outer (addr == 0) p reads (walk_ended w answer.Nowhere) _ has
    (either_outer (nat_lt addr w.head.0) p reads (walk_ended w (answer.OnDisk (record { 0 = addr }))) _ has
    (either_outer (nat_lt (addr - w.head.0) p.ring) p reads (record w { loading = loading.LoadsHeader (record { 0 = addr }); step = Meets (record { 0 = addr }) }) (walk_ended w answer.Contended) has tt))

slot_outer : (p : Places) (reads : Bool) (w : WalkState) (its : Found) → FoundOuter p its → (reads ≡ false → IsNoMiss its) → IsWalkOuter p reads (slot_found p w its)
slot_outer p reads w (found.Slot place word) outer update = reached_outer p reads (record w { place = place; entry = word }) (entry_addr word) (λ e. outer)
slot_outer p reads w found.NoSlot outer update = λ e. absurd (update e)
slot_outer p reads w found.Full outer update = tt
slot_outer p reads w found.Kept outer update = tt
slot_outer p reads w found.Contended outer update = tt

-- a search goes on, and for an update it may still link
record Searches (p : Places) (reads : Bool) (w : WalkState) (ask : Ask FindAnswer) : Type 0 where
  at : w.step ≡ Finds
  finds : FindsOuter p w.finding ask
  links : reads ≡ false → MayLink w.finding
  update : reads ≡ false → TellsUpdate ask

still_finds : (p : Places) (reads : Bool) (w : WalkState) → w.step ≡ Finds → IsAtBucket p w.finding → (reads ≡ false → MayLink w.finding) → IsWalkOuter p reads w
still_finds p reads w at its links = stays_outer p reads w Finds at (its, links)

find_ledto_outer : (p : Places) (reads : Bool) (w : WalkState) (ask : Ask FindAnswer) → Searches p reads w ask → IsWalkOuter p reads (find_ledto p w ask)
unfolding find_ledto
find_ledto_outer p reads w (Done its) now = slot_outer p reads (record w { spare = its.spare }) its.found now.finds.tells now.update
find_ledto_outer p reads w (Load place) now = still_finds p reads w now.at (now.finds.its refl) now.links
find_ledto_outer p reads w (Store place word) now = still_finds p reads w now.at (now.finds.its refl) now.links
find_ledto_outer p reads w (Swap place word) now = still_finds p reads w now.at (now.finds.its refl) now.links
find_ledto_outer p reads w (Cas place old new) now = still_finds p reads w now.at (now.finds.its refl) now.links
find_ledto_outer p reads w (Add place number) now = still_finds p reads w now.at (now.finds.its refl) now.links
find_ledto_outer p reads w (Max place number) now = still_finds p reads w now.at (now.finds.its refl) now.links
find_ledto_outer p reads w (Put slot action) now = still_finds p reads w now.at (now.finds.its refl) now.links
find_ledto_outer p reads w (Take slot) now = still_finds p reads w now.at (now.finds.its refl) now.links

record_outer : (p : Places) (reads : Bool) (w : WalkState) (addr : Addr) (key : Key) (said : HeaderSaid) → HasPlace p reads w → IsWalkOuter p reads (record_met p w addr key said)
record_outer p reads w addr key Spoiled has = tt
record_outer p reads w addr key (Says previous version) has =
    either_outer (nat_lt previous.0 addr.0) p reads _ (walk_ended w answer.Contended)
    (either_outer (key.0 == w.key.0) p reads (record w { first = first_met w.first version; step = HasFound addr version }) (reached p (record w { first = first_met w.first version }) previous.0)
    has (reached_outer p reads (record w { first = first_met w.first version }) previous.0 has))
    tt

load_ledto_outer : (p : Places) (reads : Bool) (w : WalkState) (addr : Addr) (ask : Ask LoadAnswer) → w.step ≡ Meets addr → HasPlace p reads w → IsWalkOuter p reads (load_ledto p w addr ask)
unfolding load_ledto
load_ledto_outer p reads w addr (Done (load.Met header key)) at has = record_outer p reads w addr key (header_said header) has
load_ledto_outer p reads w addr (Done other) at has = tt
load_ledto_outer p reads w addr ask at has = stays_outer p reads w (Meets addr) at has

value_ledto_outer : (p : Places) (reads : Bool) (w : WalkState) (ask : Ask LoadAnswer) → w.step ≡ LoadsValue → HasPlace p reads w → IsWalkOuter p reads (value_ledto w ask)
unfolding value_ledto
value_ledto_outer p reads w (Done (load.Whole header key value)) at has = has
value_ledto_outer p reads w (Done other) at has = tt
value_ledto_outer p reads w ask at has = stays_outer p reads w LoadsValue at has

next_outer : (p : Places) (reads : Bool) (w : WalkState) (step : Walking) (reply : ℕ) → w.step ≡ step → WalkRow p reads w step → IsWalkOuter p reads (walking_next p w step reply)
unfolding walking_next
next_outer p reads w (Ended its) reply at row = stays_outer p reads w (Ended its) at row
next_outer p reads w Finds reply at row =
    find_ledto_outer p reads (record w { finding = find_next p w.finding reply }) (find_next_ask p w.finding reply)
    (record { at = at; finds = finds_outer p w.finding reply row.0; links = λ e. led_may p w.finding w.finding.step reply (row.1 e); update = λ e. next_update p w.finding reply (row.1 e) })
next_outer p reads w (Meets addr) reply at row = load_ledto_outer p reads (record w { loading = load_next w.loading reply }) addr (load_next_ask p w.loading reply) at row
next_outer p reads w (HasFound addr version) reply at row = stays_outer p reads w (HasFound addr version) at row
next_outer p reads w LoadsValue reply at row = value_ledto_outer p reads (record w { loading = load_next w.loading reply }) (load_next_ask p w.loading reply) at row

-- each reply
pub walk_next_outer : (p : Places) (reads : Bool) (w : WalkState) (reply : ℕ) → IsWalkOuter p reads w → IsWalkOuter p reads (walk_next p w reply)
walk_next_outer p reads w reply row = next_outer p reads w w.step reply refl row

on_outer : (p : Places) (reads : Bool) (w : WalkState) (step : Walking) → w.step ≡ step → WalkRow p reads w step → IsWalkOuter p reads (walking_on w step)
unfolding walking_on
on_outer p reads w (HasFound addr version) at row = row
on_outer p reads w (Ended told) at row = stays_outer p reads w (Ended told) at row
on_outer p reads w Finds at row = stays_outer p reads w Finds at row
on_outer p reads w (Meets addr) at row = stays_outer p reads w (Meets addr) at row
on_outer p reads w LoadsValue at row = stays_outer p reads w LoadsValue at row

pub walk_on_outer : (p : Places) (reads : Bool) (w : WalkState) → IsWalkOuter p reads w → IsWalkOuter p reads (walk_on w)
walk_on_outer p reads w row = on_outer p reads w w.step refl row

-- as it begins
pub walk_begun_outer : (p : Places) (reads : Bool) (home : Home) (key : Key) (purpose : Purpose) (head : Addr) (spare : ℕ) → home.bucket < p.buckets → (reads ≡ false → linking_for purpose ≡ Never → ⊥)
    → IsWalkOuter p reads (walk_begun p home key purpose head spare)
walk_begun_outer p reads home key purpose head spare low links = (first_outer p home purpose spare low, links)
