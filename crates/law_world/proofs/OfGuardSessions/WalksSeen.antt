-- The records that a walk meets lie at or above the head that its session has seen.
use Rattle.std.proofs.Common.{◌≡◌, ℕ, ◌≤◌, arith, refl, sym, subst, Bool, true, false}
use Rattle.std.proofs.lemmas.Bool.Decides.{nat_tests}
use Rattle.std.specs.Prelude.{if◌then◌else◌, ◌==◌, ◌-◌, nat_lt, ⊤}
use Rattle.fkv_base.specs.declared.numbers.Addr.{Addr}
use Rattle.fkv_base.specs.declared.numbers.Key.{Key}
use Rattle.fkv_plane.specs.declared.asks.Ask.{Ask}
use Rattle.fkv_plane.specs.declared.asks.Ask.TheVariants.{Load, Store, Swap, Cas, Add, Max, Put, Take, Done}
use Rattle.fkv_plane.specs.declared.places.Places.{Places}
use Rattle.fkv_index.specs.declared.finding.FindAnswer.{FindAnswer}
use Rattle.fkv_index.specs.declared.finding.Found.{Found}
use Rattle.fkv_index.specs.declared.finding.Found.TheVariants as found
use Rattle.fkv_index.specs.Slots.{entry_addr}
use Rattle.fkv_index.specs.Finding.{find_ask, find_next, find_next_ask}
use Rattle.fkv_log.specs.declared.loading.LoadAnswer.{LoadAnswer}
use Rattle.fkv_log.specs.declared.loading.LoadAnswer.TheVariants as load
use Rattle.fkv_log.specs.declared.loading.Loading.TheVariants as loading
use Rattle.fkv_log.specs.Loading.{load_ask, load_next, load_next_ask}
use Rattle.fkv_ops.specs.declared.header_words.HeaderSaid.{HeaderSaid}
use Rattle.fkv_ops.specs.declared.header_words.HeaderSaid.TheVariants.{Says, Spoiled}
use Rattle.fkv_ops.specs.declared.walking.WalkAnswer.{WalkAnswer}
use Rattle.fkv_ops.specs.declared.walking.WalkAnswer.TheVariants as answer
use Rattle.fkv_ops.specs.declared.walking.Walking.{Walking}
use Rattle.fkv_ops.specs.declared.walking.Walking.TheVariants.{Ended, Finds, Meets, HasFound, LoadsValue}
use Rattle.fkv_ops.specs.HeaderWords.{header_said}
use Rattle.fkv_ops.specs.Walking.{WalkState, walking_ask, walk_ask, walk_ended, reached, slot_found, find_ledto, first_met, record_met, load_ledto, value_ledto, walking_next, walk_next}
use Rattle.fkv_plane.specs.Passing.{passed}

-- what it meets and what it has found
abbrev pub WalkAbove : ℕ → Walking → Type 0
WalkAbove head (Meets addr) = head ≤ addr.0
WalkAbove head (HasFound addr version) = head ≤ addr.0
WalkAbove head (Ended (answer.Found addr version)) = head ≤ addr.0
WalkAbove head step = ⊤

pub record IsWalkAbove (head : ℕ) (w : WalkState) : Type 0 where
  pub same : w.head.0 ≡ head
  pub above : WalkAbove head w.step

-- so is what it tells
abbrev pub TellsAbove : ℕ → WalkAnswer → Type 0
TellsAbove head (answer.Found addr version) = head ≤ addr.0
TellsAbove head its = ⊤

abbrev pub AsksAbove : ℕ → Ask WalkAnswer → Type 0
AsksAbove head (Done its) = TellsAbove head its
AsksAbove head ask = ⊤

passed_above : {A : Type 0} (head : ℕ) (ask : Ask A) → AsksAbove head (passed ask answer.Contended)
unfolding passed
passed_above head (Load place) = tt
passed_above head (Store place word) = tt
passed_above head (Swap place word) = tt
passed_above head (Cas place old new) = tt
passed_above head (Add place number) = tt
passed_above head (Max place number) = tt
passed_above head (Put slot action) = tt
passed_above head (Take slot) = tt
passed_above head (Done its) = tt

ended_above : (head : ℕ) (its : WalkAnswer) → WalkAbove head (Ended its) → TellsAbove head its
ended_above head (answer.Found addr version) above = above
ended_above head answer.Nowhere above = tt
ended_above head (answer.OnDisk addr) above = tt
ended_above head (answer.Value value) above = tt
ended_above head answer.Full above = tt
ended_above head answer.Kept above = tt
ended_above head answer.Contended above = tt

walking_tells : (p : Places) (head : ℕ) (w : WalkState) (step : Walking) → WalkAbove head step → AsksAbove head (walking_ask p w step)
unfolding walking_ask
walking_tells p head w (Ended its) above = ended_above head its above
walking_tells p head w Finds above = passed_above head (find_ask w.finding)
walking_tells p head w (Meets addr) above = passed_above head (load_ask p w.loading)
walking_tells p head w (HasFound addr version) above = above
walking_tells p head w LoadsValue above = passed_above head (load_ask p w.loading)

pub walk_tells_above : (p : Places) (head : ℕ) (w : WalkState) → IsWalkAbove head w → AsksAbove head (walk_ask p w)
walk_tells_above p head w its = walking_tells p head w w.step its.above

-- where a reply leads
either_above : (c : Bool) (head : ℕ) (a b : WalkState) → IsWalkAbove head a → IsWalkAbove head b → IsWalkAbove head (if c then a else b)
either_above true head a b one other = one
either_above false head a b one other = other

stays_above : (head : ℕ) (w : WalkState) (step : Walking) → w.step ≡ step → w.head.0 ≡ head → WalkAbove head step → IsWalkAbove head w
stays_above head w step at same above = record { same = same; above = subst (λ x. WalkAbove head x) (sym at) above }

-- an address below the head is not met
met_above : (p : Places) (head : ℕ) (w : WalkState) (addr : ℕ) → w.head.0 ≡ head → IsWalkAbove head (if nat_lt addr w.head.0 then walk_ended w (answer.OnDisk (record { 0 = addr })) else if nat_lt (addr - w.head.0) p.ring then record w { loading = loading.LoadsHeader (record { 0 = addr }); step = Meets (record { 0 = addr }) } else walk_ended w answer.Contended)
met_above p head w addr same = by_test (nat_lt addr w.head.0) refl
  where
    by_test : (b : Bool) → nat_lt addr w.head.0 ≡ b
        → IsWalkAbove head (if b then walk_ended w (answer.OnDisk (record { 0 = addr })) else if nat_lt (addr - w.head.0) p.ring then record w { loading = loading.LoadsHeader (record { 0 = addr }); step = Meets (record { 0 = addr }) } else walk_ended w answer.Contended)
    by_test true e = record { same = same; above = tt }
    by_test false e =
        let high : w.head.0 ≤ addr = grind (arith, nat_tests, e) in
        either_above (nat_lt (addr - w.head.0) p.ring) head (record w { loading = loading.LoadsHeader (record { 0 = addr }); step = Meets (record { 0 = addr }) }) (walk_ended w answer.Contended) (record { same = same; above = omega (arith, high, same) }) (record { same = same; above = tt })

reached_above : (p : Places) (head : ℕ) (w : WalkState) (addr : ℕ) → w.head.0 ≡ head → IsWalkAbove head (reached p w addr)
reached_above p head w addr same = either_above (addr == 0) head (walk_ended w answer.Nowhere) _ (record { same = same; above = tt }) (met_above p head w addr same)

slot_above : (p : Places) (head : ℕ) (w : WalkState) (its : Found) → w.head.0 ≡ head → IsWalkAbove head (slot_found p w its)
slot_above p head w (found.Slot place word) same = reached_above p head (record w { place = place; entry = word }) (entry_addr word) same
slot_above p head w found.NoSlot same = record { same = same; above = tt }
slot_above p head w found.Full same = record { same = same; above = tt }
slot_above p head w found.Kept same = record { same = same; above = tt }
slot_above p head w found.Contended same = record { same = same; above = tt }

find_ledto_above : (p : Places) (head : ℕ) (w : WalkState) (ask : Ask FindAnswer) → w.step ≡ Finds → w.head.0 ≡ head → IsWalkAbove head (find_ledto p w ask)
unfolding find_ledto
find_ledto_above p head w (Done its) at same = slot_above p head (record w { spare = its.spare }) its.found same
find_ledto_above p head w ask at same = stays_above head w Finds at same tt

record_above : (p : Places) (head : ℕ) (w : WalkState) (addr : Addr) (key : Key) (said : HeaderSaid) → w.head.0 ≡ head → head ≤ addr.0 → IsWalkAbove head (record_met p w addr key said)
record_above p head w addr key Spoiled same high = record { same = same; above = tt }
record_above p head w addr key (Says previous version) same high =
    either_above (nat_lt previous.0 addr.0) head _ (walk_ended w answer.Contended)
    (either_above (key.0 == w.key.0) head (record w { first = first_met w.first version; step = HasFound addr version }) (reached p (record w { first = first_met w.first version }) previous.0)
    (record { same = same; above = high }) (reached_above p head (record w { first = first_met w.first version }) previous.0 same))
    (record { same = same; above = tt })

load_ledto_above : (p : Places) (head : ℕ) (w : WalkState) (addr : Addr) (ask : Ask LoadAnswer) → w.step ≡ Meets addr → w.head.0 ≡ head → head ≤ addr.0 → IsWalkAbove head (load_ledto p w addr ask)
unfolding load_ledto
load_ledto_above p head w addr (Done (load.Met header key)) at same high = record_above p head w addr key (header_said header) same high
load_ledto_above p head w addr (Done other) at same high = record { same = same; above = tt }
load_ledto_above p head w addr ask at same high = stays_above head w (Meets addr) at same high

value_ledto_above : (head : ℕ) (w : WalkState) (ask : Ask LoadAnswer) → w.step ≡ LoadsValue → w.head.0 ≡ head → IsWalkAbove head (value_ledto w ask)
unfolding value_ledto
value_ledto_above head w (Done (load.Whole header key value)) at same = record { same = same; above = tt }
value_ledto_above head w (Done other) at same = record { same = same; above = tt }
value_ledto_above head w ask at same = stays_above head w LoadsValue at same tt

next_above : (p : Places) (head : ℕ) (w : WalkState) (step : Walking) (reply : ℕ) → w.step ≡ step → w.head.0 ≡ head → WalkAbove head step → IsWalkAbove head (walking_next p w step reply)
unfolding walking_next
next_above p head w (Ended its) reply at same above = stays_above head w (Ended its) at same above
next_above p head w Finds reply at same above = find_ledto_above p head (record w { finding = find_next p w.finding reply }) (find_next_ask p w.finding reply) at same
next_above p head w (Meets addr) reply at same above = load_ledto_above p head (record w { loading = load_next w.loading reply }) addr (load_next_ask p w.loading reply) at same above
next_above p head w (HasFound addr version) reply at same above = stays_above head w (HasFound addr version) at same above
next_above p head w LoadsValue reply at same above = value_ledto_above head (record w { loading = load_next w.loading reply }) (load_next_ask p w.loading reply) at same

-- each reply
pub walk_next_above : (p : Places) (head : ℕ) (w : WalkState) (reply : ℕ) → IsWalkAbove head w → IsWalkAbove head (walk_next p w reply)
walk_next_above p head w reply its = next_above p head w w.step reply refl its.same its.above
