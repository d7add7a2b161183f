-- A walk searches the index and loads records, and the slot that it found is one of the index.
use Rattle.std.proofs.Common.{◌≡◌, ◌≢◌, ℕ, refl, sym, subst, Bool, true, false}
use Rattle.std.specs.Prelude.{if◌then◌else◌, ◌==◌, ◌-◌, nat_lt, ⊤}
use Rattle.fkv_base.specs.declared.numbers.Addr.{Addr}
use Rattle.fkv_base.specs.declared.numbers.Key.{Key}
use Rattle.fkv_plane.specs.declared.asks.Ask.{Ask}
use Rattle.fkv_plane.specs.declared.asks.Ask.TheVariants.{Load, Store, Swap, Cas, Add, Max, Put, Take, Done}
use Rattle.fkv_plane.specs.declared.places.Places.{Places}
use Rattle.fkv_index.specs.declared.finding.FindAnswer.{FindAnswer}
use Rattle.fkv_index.specs.declared.finding.Found.{Found}
use Rattle.fkv_index.specs.declared.finding.Found.TheVariants as found
use Rattle.fkv_index.specs.declared.finding.Purpose.{Purpose}
use Rattle.fkv_index.specs.declared.homes.Home.{Home}
use Rattle.fkv_index.specs.Slots.{entry_addr}
use Rattle.fkv_index.specs.Finding.{find_next, find_next_ask}
use Rattle.law_world.specs.Below.fkv_log.LoadAnswer.{LoadAnswer}
use Rattle.law_world.specs.Below.fkv_log.LoadAnswer.TheVariants as load
use Rattle.law_world.specs.Below.fkv_log.TheLoading.{Loading}
use Rattle.law_world.specs.Below.fkv_log.TheLoading.TheVariants as loading
use Rattle.law_world.specs.Below.fkv_log.Loading.{load_ask, load_next, load_next_ask}
use Rattle.law_world.specs.Below.fkv_ops.HeaderSaid.{HeaderSaid}
use Rattle.law_world.specs.Below.fkv_ops.HeaderSaid.TheVariants.{Says, Spoiled}
use Rattle.law_world.specs.Below.fkv_ops.WalkAnswer.TheVariants as answer
use Rattle.law_world.specs.Below.fkv_ops.TheWalking.{Walking}
use Rattle.law_world.specs.Below.fkv_ops.TheWalking.TheVariants.{Ended, Finds, Meets, HasFound, LoadsValue}
use Rattle.law_world.specs.Below.fkv_ops.HeaderWords.{header_said}
use Rattle.law_world.specs.Below.fkv_ops.Walking.{WalkState, walk_begun, walking_ask, walk_ask, walk_ended, reached, slot_found, find_ledto, first_met, record_met, load_ledto, value_ledto, walking_next, walk_next, walking_on, walk_on}
use Rattle.fkv_plane.specs.declared.places.SharedWord.TheVariants as one
use Rattle.law_refine.specs.Footprint.{Part, TheIndex, Spares}
use Rattle.law_refine.proofs.Footprint.Latching.{passed_spares}
use Rattle.law_refine.proofs.Footprint.Outside.{shared_outside}
use Rattle.law_refine.proofs.OfIndex.WalkParts.{is_finding}
use Rattle.law_refine.proofs.Footprint.Finds.{IsIndexAlone, IsAtBucket, find_spares, FoundAlone, FindsOn, finds_spares, first_spares}

-- a search is under way at a bucket
abbrev pub StepFinds : Places → WalkState → Walking → Type 0
StepFinds p w Finds = IsAtBucket p w.finding
StepFinds p w step = ⊤

-- and the slot that it has found is one of the index
pub record IsWalkSparing (p : Places) (w : WalkState) : Type 0 where
  pub place : IsIndexAlone p w.place
  pub finds : StepFinds p w w.step

-- what it asks for
load_spares : (part : Part) (p : Places) (step : Loading) → Spares part p (load_ask p step)
unfolding load_ask
load_spares part p loading.AtRest = tt
load_spares part p step = tt

-- the index is spared behind the search
searches_not : (part : Part) → (part ≡ TheIndex → is_finding Finds ≡ false) → part ≢ TheIndex
searches_not part past = λ index. let clash : true ≡ false = past index in cc

walking_spares : (part : Part) (p : Places) (w : WalkState) (step : Walking) → StepFinds p w step → (part ≡ TheIndex → is_finding step ≡ false) → Spares part p (walking_ask p w step)
unfolding walking_ask
walking_spares part p w (Ended its) finds past = tt
walking_spares part p w Finds finds past = passed_spares part p _ _ (find_spares part p w.finding finds (searches_not part past))
walking_spares part p w (Meets addr) finds past = passed_spares part p _ _ (load_spares part p w.loading)
walking_spares part p w (HasFound addr version) finds past = tt
walking_spares part p w LoadsValue finds past = passed_spares part p _ _ (load_spares part p w.loading)

pub walk_spares : (part : Part) (p : Places) (w : WalkState) → IsWalkSparing p w → (part ≡ TheIndex → is_finding w.step ≡ false) → Spares part p (walk_ask p w)
walk_spares part p w its past = walking_spares part p w w.step its.finds past

-- a walk that has found its entry
ended_spares : (p : Places) (w : WalkState) (its : _) → IsIndexAlone p w.place → IsWalkSparing p (walk_ended w its)
ended_spares p w its none = record { place = none; finds = tt }

either_spares : (c : Bool) (p : Places) (a b : WalkState) → IsWalkSparing p a → IsWalkSparing p b → IsWalkSparing p (if c then a else b)
either_spares true p a b one other = one
either_spares false p a b one other = other

reached_spares : (p : Places) (w : WalkState) (addr : ℕ) → IsIndexAlone p w.place → IsWalkSparing p (reached p w addr)
reached_spares p w addr none =
    either_spares (addr == 0) p (walk_ended w answer.Nowhere) _ (ended_spares p w answer.Nowhere none)
    (either_spares (nat_lt addr w.head.0) p (walk_ended w (answer.OnDisk (record { 0 = addr }))) _ (ended_spares p w (answer.OnDisk (record { 0 = addr })) none)
    (either_spares (nat_lt (addr - w.head.0) p.ring) p (record w { loading = loading.LoadsHeader (record { 0 = addr }); step = Meets (record { 0 = addr }) }) (walk_ended w answer.Contended) (record { place = none; finds = tt }) (ended_spares p w answer.Contended none)))

slot_found_spares : (p : Places) (w : WalkState) (its : Found) → IsIndexAlone p w.place → FoundAlone p its → IsWalkSparing p (slot_found p w its)
slot_found_spares p w (found.Slot place word) none its = reached_spares p (record w { place = place; entry = word }) (entry_addr word) its
slot_found_spares p w found.NoSlot none its = ended_spares p w answer.Nowhere none
slot_found_spares p w found.Full none its = ended_spares p w answer.Full none
slot_found_spares p w found.Kept none its = ended_spares p w answer.Kept none
slot_found_spares p w found.Contended none its = ended_spares p w answer.Contended none

-- a search goes on
still_finds : (p : Places) (w : WalkState) → w.step ≡ Finds → IsIndexAlone p w.place → IsAtBucket p w.finding → IsWalkSparing p w
still_finds p w at none its = record { place = none; finds = subst (λ step. StepFinds p w step) (sym at) its }

find_ledto_spares : (p : Places) (w : WalkState) (ask : Ask FindAnswer) → w.step ≡ Finds → IsIndexAlone p w.place → FindsOn p w.finding ask → IsWalkSparing p (find_ledto p w ask)
unfolding find_ledto
find_ledto_spares p w (Done its) at none found = slot_found_spares p (record w { spare = its.spare }) its.found none found.tells
find_ledto_spares p w (Load place) at none found = still_finds p w at none (found.its refl)
find_ledto_spares p w (Store place word) at none found = still_finds p w at none (found.its refl)
find_ledto_spares p w (Swap place word) at none found = still_finds p w at none (found.its refl)
find_ledto_spares p w (Cas place old new) at none found = still_finds p w at none (found.its refl)
find_ledto_spares p w (Add place number) at none found = still_finds p w at none (found.its refl)
find_ledto_spares p w (Max place number) at none found = still_finds p w at none (found.its refl)
find_ledto_spares p w (Put slot action) at none found = still_finds p w at none (found.its refl)
find_ledto_spares p w (Take slot) at none found = still_finds p w at none (found.its refl)

-- a machine besides the search goes on
stays_spares : (p : Places) (w : WalkState) (step : Walking) → w.step ≡ step → IsIndexAlone p w.place → StepFinds p w step → IsWalkSparing p w
stays_spares p w step at none finds = record { place = none; finds = subst (λ x. StepFinds p w x) (sym at) finds }

record_spares : (p : Places) (w : WalkState) (addr : Addr) (key : Key) (said : HeaderSaid) → IsIndexAlone p w.place → IsWalkSparing p (record_met p w addr key said)
record_spares p w addr key Spoiled none = ended_spares p w answer.Contended none
record_spares p w addr key (Says previous version) none =
    either_spares (nat_lt previous.0 addr.0) p _ (walk_ended w answer.Contended)
    (either_spares (key.0 == w.key.0) p (record w { first = first_met w.first version; step = HasFound addr version }) (reached p (record w { first = first_met w.first version }) previous.0)
    (record { place = none; finds = tt }) (reached_spares p (record w { first = first_met w.first version }) previous.0 none))
    (ended_spares p w answer.Contended none)

load_ledto_spares : (p : Places) (w : WalkState) (addr : Addr) (ask : Ask LoadAnswer) → w.step ≡ Meets addr → IsIndexAlone p w.place → IsWalkSparing p (load_ledto p w addr ask)
unfolding load_ledto
load_ledto_spares p w addr (Done (load.Met header key)) at none = record_spares p w addr key (header_said header) none
load_ledto_spares p w addr (Done other) at none = ended_spares p w answer.Contended none
load_ledto_spares p w addr ask at none = stays_spares p w (Meets addr) at none tt

value_ledto_spares : (p : Places) (w : WalkState) (ask : Ask LoadAnswer) → w.step ≡ LoadsValue → IsIndexAlone p w.place → IsWalkSparing p (value_ledto w ask)
unfolding value_ledto
value_ledto_spares p w (Done (load.Whole header key value)) at none = ended_spares p w (answer.Value value) none
value_ledto_spares p w (Done other) at none = ended_spares p w answer.Contended none
value_ledto_spares p w ask at none = stays_spares p w LoadsValue at none tt

next_spares : (p : Places) (w : WalkState) (step : Walking) (reply : ℕ) → w.step ≡ step → IsIndexAlone p w.place → StepFinds p w step → IsWalkSparing p (walking_next p w step reply)
unfolding walking_next
next_spares p w (Ended its) reply at none finds = stays_spares p w (Ended its) at none tt
next_spares p w Finds reply at none finds = find_ledto_spares p (record w { finding = find_next p w.finding reply }) (find_next_ask p w.finding reply) at none (finds_spares p w.finding reply finds)
next_spares p w (Meets addr) reply at none finds = load_ledto_spares p (record w { loading = load_next w.loading reply }) addr (load_next_ask p w.loading reply) at none
next_spares p w (HasFound addr version) reply at none finds = stays_spares p w (HasFound addr version) at none tt
next_spares p w LoadsValue reply at none finds = value_ledto_spares p (record w { loading = load_next w.loading reply }) (load_next_ask p w.loading reply) at none

-- each reply
pub walk_next_spares : (p : Places) (w : WalkState) (reply : ℕ) → IsWalkSparing p w → IsWalkSparing p (walk_next p w reply)
walk_next_spares p w reply its = next_spares p w w.step reply refl its.place its.finds

on_spares : (p : Places) (w : WalkState) (step : Walking) → w.step ≡ step → IsWalkSparing p w → IsWalkSparing p (walking_on w step)
unfolding walking_on
on_spares p w (HasFound addr version) at its = record { place = its.place; finds = tt }
on_spares p w step at its = its

pub walk_on_spares : (p : Places) (w : WalkState) → IsWalkSparing p w → IsWalkSparing p (walk_on w)
walk_on_spares p w its = on_spares p w w.step refl its

-- as it begins
pub walk_begun_spares : (p : Places) (home : Home) (key : Key) (purpose : Purpose) (head : Addr) (spare : ℕ) → IsWalkSparing p (walk_begun p home key purpose head spare)
walk_begun_spares p home key purpose head spare = record { place = λ part other. shared_outside part p one.Epoch (λ e. cc) (λ e. cc); finds = first_spares p home purpose spare }
