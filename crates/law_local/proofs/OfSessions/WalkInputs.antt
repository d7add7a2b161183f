-- A walk stays for its key, and leaves memory at its head.
use Rattle.std.proofs.Common.{◌≡◌, ℕ, ◌-◌, ◌∙◌, refl, Bool, true, false}
use Rattle.std.specs.Prelude.{◌==◌, nat_lt, if◌then◌else◌}
use Rattle.fkv_base.specs.declared.numbers.Addr.{Addr}
use Rattle.fkv_base.specs.declared.numbers.Key.{Key}
use Rattle.fkv_plane.specs.declared.asks.Ask.{Ask}
use Rattle.fkv_plane.specs.declared.asks.Ask.TheVariants.{Done}
use Rattle.fkv_plane.specs.declared.places.Places.{Places}
use Rattle.fkv_log.specs.declared.loading.LoadAnswer.{LoadAnswer}
use Rattle.fkv_log.specs.declared.loading.LoadAnswer.TheVariants as load
use Rattle.fkv_log.specs.declared.loading.Loading.TheVariants.{LoadsHeader}
use Rattle.fkv_log.specs.Loading.{load_next, load_next_ask}
use Rattle.fkv_index.specs.declared.finding.Found.{Found}
use Rattle.fkv_index.specs.declared.finding.Found.TheVariants as found
use Rattle.fkv_index.specs.declared.finding.FindAnswer.{FindAnswer}
use Rattle.fkv_index.specs.Slots.{entry_addr}
use Rattle.fkv_index.specs.Finding.{find_next, find_next_ask}
use Rattle.fkv_ops.specs.declared.header_words.HeaderSaid.{HeaderSaid}
use Rattle.fkv_ops.specs.declared.header_words.HeaderSaid.TheVariants.{Says, Spoiled}
use Rattle.fkv_ops.specs.declared.requests.Request.{Request}
use Rattle.fkv_ops.specs.declared.requests.Seen.{Seen}
use Rattle.fkv_ops.specs.declared.walking.WalkAnswer.TheVariants as answer
use Rattle.fkv_ops.specs.declared.walking.Walking.{Walking}
use Rattle.fkv_ops.specs.declared.walking.Walking.TheVariants.{Ended, Finds, Meets, HasFound, LoadsValue}
use Rattle.fkv_ops.specs.HeaderWords.{header_said}
use Rattle.fkv_ops.specs.Walking.{WalkState, walk_ended, reached, slot_found, find_ledto, first_met, record_met, load_ledto, value_ledto, walking_next, walk_next, walking_on, walk_on}
use Rattle.law_local.specs.Tries.TryRows.{IsWalkFor}

-- it has the same key and the same head
abbrev pub IsSameWalk : WalkState → WalkState → Type 0
IsSameWalk w after = (after.key ≡ w.key) × (after.head ≡ w.head)

either_same : (c : Bool) (w a b : WalkState) → IsSameWalk w a → IsSameWalk w b → IsSameWalk w (if c then a else b)
either_same true w a b one other = one
either_same false w a b one other = other

reached_same : (p : Places) (w : WalkState) (addr : ℕ) → IsSameWalk w (reached p w addr)
reached_same p w addr =
    let below : WalkState = walk_ended w (answer.OnDisk (record { 0 = addr })) in
    let meets : WalkState = record w { loading = LoadsHeader (record { 0 = addr }); step = Meets (record { 0 = addr }) } in
    let past : WalkState = if nat_lt (addr - w.head.0) p.ring then meets else walk_ended w answer.Contended in
    either_same (addr == 0) w (walk_ended w answer.Nowhere) (if nat_lt addr w.head.0 then below else past) (refl, refl)
    (either_same (nat_lt addr w.head.0) w below past (refl, refl) (either_same (nat_lt (addr - w.head.0) p.ring) w meets (walk_ended w answer.Contended) (refl, refl) (refl, refl)))

slot_same : (p : Places) (w : WalkState) (its : Found) → IsSameWalk w (slot_found p w its)
slot_same p w (found.Slot place word) = reached_same p (record w { place = place; entry = word }) (entry_addr word)
slot_same p w found.NoSlot = (refl, refl)
slot_same p w found.Full = (refl, refl)
slot_same p w found.Kept = (refl, refl)
slot_same p w found.Contended = (refl, refl)

find_same : (p : Places) (w : WalkState) (ask : Ask FindAnswer) → IsSameWalk w (find_ledto p w ask)
unfolding find_ledto
find_same p w (Done its) = slot_same p (record w { spare = its.spare }) its.found
find_same p w ask = (refl, refl)

met_same : (p : Places) (w : WalkState) (addr : Addr) (key : Key) (said : HeaderSaid) → IsSameWalk w (record_met p w addr key said)
met_same p w addr key Spoiled = (refl, refl)
met_same p w addr key (Says previous version) =
    let finds : WalkState = record w { first = first_met w.first version; step = HasFound addr version } in
    let on : WalkState = record w { first = first_met w.first version } in
    either_same (nat_lt previous.0 addr.0) w (if key.0 == w.key.0 then finds else reached p on previous.0) (walk_ended w answer.Contended)
    (either_same (key.0 == w.key.0) w finds (reached p on previous.0) (refl, refl) (reached_same p on previous.0)) (refl, refl)

load_same : (p : Places) (w : WalkState) (addr : Addr) (ask : Ask LoadAnswer) → IsSameWalk w (load_ledto p w addr ask)
unfolding load_ledto
load_same p w addr (Done (load.Met header key)) = met_same p w addr key (header_said header)
load_same p w addr (Done other) = (refl, refl)
load_same p w addr ask = (refl, refl)

value_same : (w : WalkState) (ask : Ask LoadAnswer) → IsSameWalk w (value_ledto w ask)
unfolding value_ledto
value_same w (Done (load.Whole header key value)) = (refl, refl)
value_same w (Done other) = (refl, refl)
value_same w ask = (refl, refl)

step_same : (p : Places) (w : WalkState) (step : Walking) (reply : ℕ) → IsSameWalk w (walking_next p w step reply)
unfolding walking_next
step_same p w (Ended its) reply = (refl, refl)
step_same p w Finds reply = find_same p (record w { finding = find_next p w.finding reply }) (find_next_ask p w.finding reply)
step_same p w (Meets addr) reply = load_same p (record w { loading = load_next w.loading reply }) addr (load_next_ask p w.loading reply)
step_same p w (HasFound addr version) reply = (refl, refl)
step_same p w LoadsValue reply = value_same (record w { loading = load_next w.loading reply }) (load_next_ask p w.loading reply)

on_same : (w : WalkState) (step : Walking) → IsSameWalk w (walking_on w step)
unfolding walking_on
on_same w (HasFound addr version) = (refl, refl)
on_same w step = (refl, refl)

-- each reply leaves what it is for
pub walk_for : (p : Places) (request : Request) (seen : Seen) (w : WalkState) (reply : ℕ) → IsWalkFor request seen w → IsWalkFor request seen (walk_next p w reply)
walk_for p request seen w reply its = let same = step_same p w w.step reply in record { its_key = same.0 ∙ its.its_key; its_head = same.1 ∙ its.its_head }

pub walk_on_for : (request : Request) (seen : Seen) (w : WalkState) → IsWalkFor request seen w → IsWalkFor request seen (walk_on w)
walk_on_for request seen w its = let same = on_same w w.step in record { its_key = same.0 ∙ its.its_key; its_head = same.1 ∙ its.its_head }
