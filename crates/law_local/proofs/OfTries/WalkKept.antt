-- A walk keeps its key and its head.
use Rattle.std.proofs.Common.{◌≡◌, ℕ, ◌-◌, refl, Bool, true, false}
use Rattle.std.specs.Prelude.{◌==◌, nat_lt, if◌then◌else◌}
use Rattle.fkv_base.specs.declared.numbers.Addr.{Addr}
use Rattle.fkv_base.specs.declared.numbers.Key.{Key}
use Rattle.fkv_plane.specs.declared.asks.Ask.{Ask}
use Rattle.fkv_plane.specs.declared.asks.Ask.TheVariants.{Done}
use Rattle.fkv_plane.specs.declared.places.Places.{Places}
use Rattle.fkv_log.specs.declared.loading.LoadAnswer.{LoadAnswer}
use Rattle.fkv_log.specs.declared.loading.LoadAnswer.TheVariants as load_answer
use Rattle.fkv_log.specs.Loading.{load_next, load_next_ask}
use Rattle.fkv_index.specs.declared.finding.Found.{Found}
use Rattle.fkv_index.specs.declared.finding.Found.TheVariants as found
use Rattle.fkv_index.specs.declared.finding.FindAnswer.{FindAnswer}
use Rattle.fkv_index.specs.Slots.{entry_addr}
use Rattle.fkv_index.specs.Finding.{find_next, find_next_ask}
use Rattle.fkv_ops.specs.declared.header_words.HeaderSaid.{HeaderSaid}
use Rattle.fkv_ops.specs.declared.header_words.HeaderSaid.TheVariants.{Says, Spoiled}
use Rattle.fkv_ops.specs.declared.walking.WalkAnswer.TheVariants as walk
use Rattle.fkv_ops.specs.declared.walking.Walking.{Walking}
use Rattle.fkv_ops.specs.declared.walking.Walking.TheVariants.{Ended, Finds, Meets, HasFound, LoadsValue}
use Rattle.fkv_ops.specs.HeaderWords.{header_said}
use Rattle.fkv_ops.specs.Walking.{WalkState, reached, slot_found, find_ledto, first_met, record_met, load_ledto, value_ledto, walking_next, walk_next}

pub record KeepsKey (w w' : WalkState) : Type 0 where
  pub key : w'.key ≡ w.key
  pub head : w'.head ≡ w.head

by_test : (w : WalkState) (b : Bool) (x y : WalkState) → KeepsKey w x → KeepsKey w y → KeepsKey w (if b then x else y)
by_test w true x y first second = first
by_test w false x y first second = second

reached_keeps : (p : Places) (w w' : WalkState) (addr : ℕ) → KeepsKey w w' → KeepsKey w (reached p w' addr)
reached_keeps p w w' addr keeps =
    let kept : (step : Walking) → KeepsKey w (record w' { step = step }) = λ step. record { key = keeps.key; head = keeps.head } in
    by_test w (addr == 0) _ _ (kept (Ended walk.Nowhere)) (by_test w (nat_lt addr w'.head.0) _ _ (kept (Ended (walk.OnDisk (record { 0 = addr }))))
    (by_test w (nat_lt (addr - w'.head.0) p.ring) _ _ (record { key = keeps.key; head = keeps.head }) (kept (Ended walk.Contended))))

slot_keeps : (p : Places) (w : WalkState) (its : Found) → KeepsKey w (slot_found p w its)
slot_keeps p w (found.Slot place word) = reached_keeps p w (record w { place = place; entry = word }) (entry_addr word) (record { key = refl; head = refl })
slot_keeps p w found.NoSlot = record { key = refl; head = refl }
slot_keeps p w found.Full = record { key = refl; head = refl }
slot_keeps p w found.Kept = record { key = refl; head = refl }
slot_keeps p w found.Contended = record { key = refl; head = refl }

find_keeps : (p : Places) (w : WalkState) (ask : Ask FindAnswer) → KeepsKey w (find_ledto p w ask)
unfolding find_ledto
find_keeps p w (Done its) = let kept = slot_keeps p (record w { spare = its.spare }) its.found in record { key = kept.key; head = kept.head }
find_keeps p w ask = record { key = refl; head = refl }

record_keeps : (p : Places) (w : WalkState) (addr : Addr) (key : Key) (said : HeaderSaid) → KeepsKey w (record_met p w addr key said)
record_keeps p w addr key Spoiled = record { key = refl; head = refl }
record_keeps p w addr key (Says previous version) =
    by_test w (nat_lt previous.0 addr.0) _ _
    (by_test w (key.0 == w.key.0) _ _ (record { key = refl; head = refl }) (reached_keeps p w (record w { first = first_met w.first version }) previous.0 (record { key = refl; head = refl })))
    (record { key = refl; head = refl })

load_keeps : (p : Places) (w : WalkState) (addr : Addr) (ask : Ask LoadAnswer) → KeepsKey w (load_ledto p w addr ask)
unfolding load_ledto
load_keeps p w addr (Done (load_answer.Met header key)) = record_keeps p w addr key (header_said header)
load_keeps p w addr (Done other) = record { key = refl; head = refl }
load_keeps p w addr ask = record { key = refl; head = refl }

value_keeps : (w : WalkState) (ask : Ask LoadAnswer) → KeepsKey w (value_ledto w ask)
unfolding value_ledto
value_keeps w (Done (load_answer.Whole header key value)) = record { key = refl; head = refl }
value_keeps w (Done other) = record { key = refl; head = refl }
value_keeps w ask = record { key = refl; head = refl }

row_keeps : (p : Places) (w : WalkState) (step : Walking) (reply : ℕ) → KeepsKey w (walking_next p w step reply)
unfolding walking_next
row_keeps p w (Ended its) reply = record { key = refl; head = refl }
row_keeps p w Finds reply = let kept = find_keeps p (record w { finding = find_next p w.finding reply }) (find_next_ask p w.finding reply) in record { key = kept.key; head = kept.head }
row_keeps p w (Meets addr) reply = let kept = load_keeps p (record w { loading = load_next w.loading reply }) addr (load_next_ask p w.loading reply) in record { key = kept.key; head = kept.head }
row_keeps p w (HasFound addr version) reply = record { key = refl; head = refl }
row_keeps p w LoadsValue reply = let kept = value_keeps (record w { loading = load_next w.loading reply }) (load_next_ask p w.loading reply) in record { key = kept.key; head = kept.head }

pub walk_keeps : (p : Places) (w : WalkState) (reply : ℕ) → KeepsKey w (walk_next p w reply)
walk_keeps p w reply = row_keeps p w w.step reply
