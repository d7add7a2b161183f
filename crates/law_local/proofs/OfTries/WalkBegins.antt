-- Where a walk goes down from, and that it does without the records below its request's floor.
use Rattle.std.proofs.Common.{◌≡◌, inl, inr, ℕ, ◌-◌, ◌∙◌, refl, sym, ap, subst, Bool, true, false}
use Rattle.std.specs.Prelude.{◌==◌, nat_lt, if◌then◌else◌}
use Rattle.fkv_base.specs.declared.numbers.Addr.{Addr}
use Rattle.fkv_base.specs.declared.numbers.Key.{Key}
use Rattle.fkv_plane.specs.declared.asks.Ask.{Ask}
use Rattle.fkv_plane.specs.declared.asks.Ask.TheVariants.{Done}
use Rattle.fkv_plane.specs.declared.places.Places.{Places}
use Rattle.fkv_log.specs.declared.loading.LoadAnswer.{LoadAnswer}
use Rattle.fkv_log.specs.declared.loading.LoadAnswer.TheVariants as load_answer
use Rattle.fkv_log.specs.Loading.{load_next, load_next_ask}
use Rattle.fkv_index.specs.declared.finding.Found.{Found}
use Rattle.fkv_index.specs.declared.finding.Found.TheVariants as found
use Rattle.fkv_index.specs.declared.finding.FindAnswer.{FindAnswer}
use Rattle.fkv_index.specs.Slots.{entry_addr}
use Rattle.fkv_index.specs.Finding.{find_next, find_next_ask}
use Rattle.law_log.specs.Begins.{IsWalkLive}
use Rattle.law_log.specs.Chains.{head_of, IsWithin}
use Rattle.law_log.specs.Ghosts.{Log}
use Rattle.fkv_ops.specs.declared.header_words.HeaderSaid.{HeaderSaid}
use Rattle.fkv_ops.specs.declared.header_words.HeaderSaid.TheVariants.{Says, Spoiled}
use Rattle.fkv_ops.specs.declared.requests.Request.{Request}
use Rattle.fkv_ops.specs.declared.walking.Walking.{Walking}
use Rattle.fkv_ops.specs.declared.walking.Walking.TheVariants.{Ended, Finds, Meets, HasFound, LoadsValue}
use Rattle.fkv_ops.specs.HeaderWords.{header_said}
use Rattle.fkv_ops.specs.Walking.{WalkState, reached, slot_found, find_ledto, first_met, record_met, load_ledto, value_ledto, walking_next, walk_next}
use Rattle.law_local.specs.Tries.Floors.{HasFloor}
use Rattle.law_local.specs.Tries.Replies.{LeadsToHead, EndsAtHead, IsTrueOfWalk}
use Rattle.law_local.specs.Tries.WalkRows.{begin_of, WalkRow, WalkKnows}
use Rattle.law_local.specs.Tries.TryRows.{floor_in, key_in, WalkIsLive}
use Rattle.law_local.specs.Tries.Tells.{BeginsAtFound, BeginsBehind, WalkBegins}
use Rattle.law_local.proofs.OfTries.Floors.{begins_at_head}

-- ---- where a walk goes down from
abbrev pub KeepsEntry : WalkState → WalkState → Type 0
KeepsEntry w w' = w'.entry ≡ w.entry

by_test : (w : WalkState) (b : Bool) (x y : WalkState) → KeepsEntry w x → KeepsEntry w y → KeepsEntry w (if b then x else y)
by_test w true x y first second = first
by_test w false x y first second = second

reached_same : (p : Places) (w : WalkState) (addr : ℕ) → KeepsEntry w (reached p w addr)
reached_same p w addr = by_test w (addr == 0) _ _ refl (by_test w (nat_lt addr w.head.0) _ _ refl (by_test w (nat_lt (addr - w.head.0) p.ring) _ _ refl refl))

record_same : (p : Places) (w : WalkState) (addr : Addr) (key : Key) (said : HeaderSaid) → KeepsEntry w (record_met p w addr key said)
record_same p w addr key Spoiled = refl
record_same p w addr key (Says previous version) = by_test w (nat_lt previous.0 addr.0) _ _ (by_test w (key.0 == w.key.0) _ _ refl (reached_same p (record w { first = first_met w.first version }) previous.0)) refl

pub load_same : (p : Places) (w : WalkState) (addr : Addr) (ask : Ask LoadAnswer) → KeepsEntry w (load_ledto p w addr ask)
unfolding load_ledto
load_same p w addr (Done (load_answer.Met header key)) = record_same p w addr key (header_said header)
load_same p w addr (Done other) = refl
load_same p w addr ask = refl

pub value_same : (w : WalkState) (ask : Ask LoadAnswer) → KeepsEntry w (value_ledto w ask)
unfolding value_ledto
value_same w (Done (load_answer.Whole header key value)) = refl
value_same w (Done other) = refl
value_same w ask = refl

slot_begins : (home : ℕ → ℕ) (log : Log) (p : Places) (w : WalkState) (its : Found) → w.entry ≡ 0 → LeadsToHead (head_of (log.chains (home w.key.0))) its → BeginsAtFound (head_of (log.chains (home w.key.0))) (begin_of (slot_found p w its)) its
slot_begins home log p w (found.Slot place word) none leads = ap entry_addr (reached_same p (record w { place = place; entry = word }) (entry_addr word)) ∙ leads
slot_begins home log p w found.NoSlot none leads = ap entry_addr none ∙ sym leads
slot_begins home log p w found.Full none leads = tt
slot_begins home log p w found.Kept none leads = tt
slot_begins home log p w found.Contended none leads = tt

pub find_begins : (home : ℕ → ℕ) (log : Log) (p : Places) (w : WalkState) (ask : Ask FindAnswer) → w.entry ≡ 0 → EndsAtHead (head_of (log.chains (home w.key.0))) ask → BeginsBehind (head_of (log.chains (home w.key.0))) (begin_of (find_ledto p w ask)) ask
unfolding find_ledto
find_begins home log p w (Done its) none leads = slot_begins home log p (record w { spare = its.spare }) its.found none leads
find_begins home log p w ask none leads = tt

-- what finds no entry leaves it as it was
slot_lives : (home : ℕ → ℕ) (log : Log) (p : Places) (request : Request) (w : WalkState) (its : Found) → HasFloor home log (floor_in request) → w.key.0 ≡ key_in request → w.entry ≡ 0 → LeadsToHead (head_of (log.chains (home w.key.0))) its
    → WalkIsLive home log request (slot_found p w its)
slot_lives home log p request w (found.Slot place word) has key none leads =
    begins_at_head home log request (slot_found p w (found.Slot place word)) has (slot_begins home log p w (found.Slot place word) none leads ∙ ap (λ (k : ℕ). head_of (log.chains (home k))) key)
slot_lives home log p request w found.NoSlot has key none leads = inl none
slot_lives home log p request w found.Full has key none leads = inl none
slot_lives home log p request w found.Kept has key none leads = inl none
slot_lives home log p request w found.Contended has key none leads = inl none

find_lives : (home : ℕ → ℕ) (log : Log) (p : Places) (request : Request) (w : WalkState) (ask : Ask FindAnswer) → HasFloor home log (floor_in request) → w.key.0 ≡ key_in request → w.entry ≡ 0 → EndsAtHead (head_of (log.chains (home w.key.0))) ask
    → WalkIsLive home log request (find_ledto p w ask)
unfolding find_ledto
find_lives home log p request w (Done its) has key none leads = slot_lives home log p request (record w { spare = its.spare }) its.found has key none leads
find_lives home log p request w ask has key none leads = inl none

row_begins : (home : ℕ → ℕ) (log : Log) (p : Places) (w : WalkState) (step : Walking) (reply : ℕ) → w.step ≡ step → WalkRow home log w step → IsTrueOfWalk home log p w step reply → WalkBegins home log p w step reply
unfolding walking_next
row_begins home log p w (Ended its) reply at row says = ap (λ step. (walking_next p w step reply).entry) at
row_begins home log p w Finds reply at row says =
    subst (λ e. BeginsBehind (head_of (log.chains (home w.key.0))) e (find_next_ask p w.finding reply)) (sym (ap (λ step. begin_of (walking_next p w step reply)) at))
    (find_begins home log p (record w { finding = find_next p w.finding reply }) (find_next_ask p w.finding reply) row says)
row_begins home log p w (Meets addr) reply at row says = ap (λ step. (walking_next p w step reply).entry) at ∙ load_same p (record w { loading = load_next w.loading reply }) addr (load_next_ask p w.loading reply)
row_begins home log p w (HasFound addr version) reply at row says = ap (λ step. (walking_next p w step reply).entry) at
row_begins home log p w LoadsValue reply at row says = ap (λ step. (walking_next p w step reply).entry) at ∙ value_same (record w { loading = load_next w.loading reply }) (load_next_ask p w.loading reply)

pub walk_begins : (home : ℕ → ℕ) (log : Log) (p : Places) (w : WalkState) (reply : ℕ) → WalkKnows home log w → IsTrueOfWalk home log p w w.step reply → WalkBegins home log p w w.step reply
walk_begins home log p w reply knows says = row_begins home log p w w.step reply refl knows says

-- a walk goes on to do without the records below its request's floor
live_same : (home : ℕ → ℕ) (log : Log) (request : Request) (w w' : WalkState) → KeepsEntry w w' → WalkIsLive home log request w → WalkIsLive home log request w'
live_same home log request w w' same (inl none) = inl (same ∙ none)
live_same home log request w w' same (inr its) =
    inr (subst (λ (n : ℕ). IsWithin (entry_addr n) (log.chains (home (key_in request)))) (sym same) its.0, subst (λ (n : ℕ). IsWalkLive (floor_in request) home log (key_in request) (entry_addr n)) (sym same) its.1)

row_lives : (home : ℕ → ℕ) (log : Log) (p : Places) (request : Request) (w : WalkState) (step : Walking) (reply : ℕ) → HasFloor home log (floor_in request) → w.key.0 ≡ key_in request → w.step ≡ step → WalkRow home log w step → IsTrueOfWalk home log p w step reply
    → WalkIsLive home log request w → WalkIsLive home log request (walking_next p w step reply)
unfolding walking_next
row_lives home log p request w (Ended its) reply has key at row says lives = lives
row_lives home log p request w Finds reply has key at row says lives = find_lives home log p request (record w { finding = find_next p w.finding reply }) (find_next_ask p w.finding reply) has key row says
row_lives home log p request w (Meets addr) reply has key at row says lives =
    live_same home log request w (load_ledto p (record w { loading = load_next w.loading reply }) addr (load_next_ask p w.loading reply)) (load_same p (record w { loading = load_next w.loading reply }) addr (load_next_ask p w.loading reply)) lives
row_lives home log p request w (HasFound addr version) reply has key at row says lives = lives
row_lives home log p request w LoadsValue reply has key at row says lives = live_same home log request w (value_ledto (record w { loading = load_next w.loading reply }) (load_next_ask p w.loading reply)) (value_same (record w { loading = load_next w.loading reply }) (load_next_ask p w.loading reply)) lives

pub walk_lives : (home : ℕ → ℕ) (log : Log) (p : Places) (request : Request) (w : WalkState) (reply : ℕ) → HasFloor home log (floor_in request) → w.key.0 ≡ key_in request → WalkKnows home log w → IsTrueOfWalk home log p w w.step reply
    → WalkIsLive home log request w → WalkIsLive home log request (walk_next p w reply)
walk_lives home log p request w reply has key knows says lives = row_lives home log p request w w.step reply has key refl knows says lives
