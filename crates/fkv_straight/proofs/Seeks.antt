-- How the slot of a home is sought.
use Rattle.std.proofs.Common.{◌≡◌, ℕ, ◌+◌, ◌-◌, ◌/◌, ◌^◌, ◌<◌, ◌≤◌, ◌⊎◌, inl, inr, refl, sym, ap, ◌∙◌, subst, arith, Bool, true, false}
use Rattle.std.specs.Prelude.{◌==◌, ◌&&◌, not, nat_lt, nat_le, None, Option, Some, is_some}
use Rattle.std.proofs.lemmas.Bool.Decides.{nat_tests}
use Rattle.fkv_base.specs.declared.numbers.Key.{Key}
use Rattle.fkv_map.specs.declared.operations.Call.{Call}
use Rattle.fkv_map.specs.declared.operations.Call.TheVariants as call
use Rattle.fkv_map.specs.declared.operations.Op.{Op}
use Rattle.fkv_map.specs.Keys.{key_of}
use Rattle.fkv_plane.specs.declared.asks.Ask.TheVariants.{Load}
use Rattle.fkv_plane.specs.declared.places.Places.{Places}
use Rattle.fkv_plane.specs.Passing.{passed}
use Rattle.fkv_plane.specs.Places.{bucket_place, overflow_place}
use Rattle.fkv_log.specs.declared.loading.Loading.TheVariants as load
use Rattle.fkv_index.specs.declared.finding.FindStep.TheVariants.{LoadsSlot, LoadsLink}
use Rattle.fkv_index.specs.declared.homes.Home.{Home}
use Rattle.fkv_index.specs.Finding.{spare_of, find_step_ask, find_led}
use Rattle.fkv_index.specs.Slots.{home_of, entry_addr, entry_tag, is_entry, slot_word, link_of}
use Rattle.fkv_ops.specs.declared.walking.Walking.TheVariants.{Finds}
use Rattle.fkv_ops.specs.Requests.{is_read}
use Rattle.fkv_ops.specs.Trying.{TryState, trying_ask, trying_next, walk_ledto, is_prepare}
use Rattle.fkv_ops.specs.Walking.{reached, walking_ask, walking_next, find_ledto}
use Rattle.fkv_session.specs.Alike.{lasting}
use Rattle.fkv_session.specs.Sessions.{Seat, SessionState, op_begun, attempts, refusal_of}
use Rattle.fkv_straight.specs.declared.going.Going.{Going}
use Rattle.fkv_straight.specs.Course.{Course, course_of, home_in, shares, Goes, counts}
use Rattle.fkv_straight.specs.Met.{IsTrail, seeking, walking, judged, Begins, IsAtFirst, IsAtSlot, HasSlot, IsAtLink, HasLink, IsReached}
use Rattle.fkv_straight.specs.Standing.{asked, leads, begins, Tries, IsLed, next_try}
use Rattle.fkv_straight.proofs.Goings.{spare_same, bucket_is, home_is}
use Rattle.fkv_straight.proofs.Moves.{asks_load, led_on, stays}
use Rattle.fkv_straight.proofs.Tests.{same}
use Rattle.fkv_ops.specs.Bounds.{bounds_at, tail_bound, has_bounds}
use Rattle.fkv_ops.specs.declared.bounds.Bounds.{Bounds}

-- ---- a call begins with its share of the latch, or at the first slot of its home's bucket
begins_by : (k : Seat) (s : SessionState) (op : Op) (b : Bool) → (is_prepare s.seen.phase && not (is_read op)) ≡ b → refusal_of s op ≡ None → spare_of k.places s.spare ≡ s.spare → Begins (course_of k s op (call.Op op)) (call.Op op) s
unfolding begins op_begun attempts lasting
begins_by k s op true e allowed spare = rw (allowed, e) refl
begins_by k s op false e allowed spare = rw (allowed, e, spare) refl

pub begins_call : (k : Seat) (s : SessionState) (op : Op) → refusal_of s op ≡ None → s.spare ≤ k.places.overflow → Begins (course_of k s op (call.Op op)) (call.Op op) s
begins_call k s op allowed fits = begins_by k s op (is_prepare s.seen.phase && not (is_read op)) refl allowed (spare_same k.places s.spare fits)

-- where it shares none
pub begun_at : (c : Course) (its : Call) (s : SessionState) → Begins c its s → shares c ≡ false → IsAtFirst c (begins c.seat s its)
unfolding IsAtSlot Tries
begun_at c its s at calm = (0, at ∙ rw calm refl)

-- the same by the numbers that the call goes by
pub first_at : (c : Course) (k : Seat) (op : Op) (s : SessionState) (g : Going) (h : Home) (key : Key) (base links : ℕ) → Goes c k op g → IsAtFirst c s → key ≡ key_of op → h ≡ home_of g.bits key → base ≡ bucket_place g.places h.bucket 0
    → links ≡ g.places.overflow → IsAtSlot c base links 0 s
first_at c k op s g h key base links goes at same e b l =
    subst (λ (n : ℕ). IsAtSlot c base n 0 s) (ap (λ (p : Places). p.overflow) goes.its_places ∙ sym l)
    (subst (λ (n : ℕ). IsAtSlot c n c.seat.places.overflow 0 s) (bucket_is c k op g h key base goes same e b) at)

-- ---- a slot is loaded
pub slot_asks : (c : Course) (base links slot : ℕ) (s : SessionState) → IsAtSlot c base links slot s → asked c.seat s ≡ Load (base + slot)
unfolding IsAtSlot trying_ask walking_ask find_step_ask passed
slot_asks c base links slot s at = asks_load c (seeking c base links (LoadsSlot slot)) (base + slot) s at refl

pub slot_comes : (c : Course) (base links slot word : ℕ) (s u : SessionState) → IsAtSlot c base links slot s → u ≡ leads c.seat s word → HasSlot c base links slot word u
unfolding IsAtSlot HasSlot
slot_comes c base links slot word s u at e = led_on c (seeking c base links (LoadsSlot slot)) word s u at e

-- another home's entry: on to the next slot, and behind the last one to the link
passes_slot : (c : Course) (base links slot word : ℕ) → is_entry word ≡ true → (word == 0) ≡ false → (entry_tag word == (home_in c).tag) ≡ false → nat_lt (slot + 1) 7 ≡ true
    → next_try c (seeking c base links (LoadsSlot slot)) word ≡ seeking c base links (LoadsSlot (slot + 1))
unfolding trying_next walk_ledto walking_ask walking_next find_ledto find_step_ask find_led slot_word passed
passes_slot c base links slot word its some other few = rw (some, its, other, few) refl

passes_last : (c : Course) (base links slot word : ℕ) → is_entry word ≡ true → (word == 0) ≡ false → (entry_tag word == (home_in c).tag) ≡ false → nat_lt (slot + 1) 7 ≡ false
    → next_try c (seeking c base links (LoadsSlot slot)) word ≡ seeking c base links LoadsLink
unfolding trying_next walk_ledto walking_ask walking_next find_ledto find_step_ask find_led slot_word passed
passes_last c base links slot word its some other few = rw (some, its, other, few) refl

pub slot_passed : (c : Course) (base links slot word : ℕ) (s : SessionState) → HasSlot c base links slot word s → is_entry word ≡ true → (word == 0) ≡ false → (entry_tag word == (home_in c).tag) ≡ false → slot < 6
    → IsAtSlot c base links (slot + 1) s
unfolding HasSlot IsAtSlot trying_ask walking_ask find_step_ask passed
slot_passed c base links slot word s has its some other few =
    stays c (seeking c base links (LoadsSlot (slot + 1))) s (subst (λ (t : TryState). IsLed c t s) (passes_slot c base links slot word its some other (grind (arith, nat_tests))) has) refl refl

pub last_passed : (c : Course) (base links slot word : ℕ) (s : SessionState) → HasSlot c base links slot word s → is_entry word ≡ true → (word == 0) ≡ false → (entry_tag word == (home_in c).tag) ≡ false → 6 ≤ slot
    → IsAtLink c base links s
unfolding HasSlot IsAtLink trying_ask walking_ask find_step_ask passed
last_passed c base links slot word s has its some other few =
    stays c (seeking c base links LoadsLink) s (subst (λ (t : TryState). IsLed c t s) (passes_last c base links slot word its some other (grind (arith, nat_tests))) has) refl refl

-- ---- the word that leads on is loaded
pub link_asks : (c : Course) (base links : ℕ) (s : SessionState) → IsAtLink c base links s → asked c.seat s ≡ Load (base + 7)
unfolding IsAtLink trying_ask walking_ask find_step_ask passed
link_asks c base links s at = asks_load c (seeking c base links LoadsLink) (base + 7) s at refl

pub link_comes : (c : Course) (base links word : ℕ) (s u : SessionState) → IsAtLink c base links s → u ≡ leads c.seat s word → HasLink c base links word u
unfolding IsAtLink HasLink
link_comes c base links word s u at e = led_on c (seeking c base links LoadsLink) word s u at e

-- on to the first slot of the overflow bucket
follows : (c : Course) (base links word : ℕ) → (link_of word == 0) ≡ false → nat_lt 0 links ≡ true → nat_le (link_of word) c.seat.places.overflow ≡ true
    → next_try c (seeking c base links LoadsLink) word ≡ seeking c (overflow_place c.seat.places (link_of word) 0) (links - 1) (LoadsSlot 0)
unfolding trying_next walk_ledto walking_ask walking_next find_ledto find_step_ask find_led passed
follows c base links word some few within = rw (some, few, within) refl

pub link_followed : (c : Course) (base links word : ℕ) (s : SessionState) → HasLink c base links word s → ¬ (link_of word ≡ 0) → 0 < links → link_of word ≤ c.seat.places.overflow
    → IsAtSlot c (overflow_place c.seat.places (link_of word) 0) (links - 1) 0 s
unfolding HasLink IsAtSlot trying_ask walking_ask find_step_ask passed
link_followed c base links word s has some few within =
    stays c (seeking c (overflow_place c.seat.places (link_of word) 0) (links - 1) (LoadsSlot 0)) s
    (subst (λ (t : TryState). IsLed c t s) (follows c base links word (grind (arith, nat_tests)) (grind (arith, nat_tests)) (grind (arith, nat_tests))) has) refl refl

-- ---- the search has come to its slot
finds_entry : (c : Course) (base links slot word : ℕ) → is_entry word ≡ true → (word == 0) ≡ false → (entry_tag word == (home_in c).tag) ≡ true
    → next_try c (seeking c base links (LoadsSlot slot)) word ≡ judged c (reached c.seat.places (walking c (record { base = base; links = links; first = None }) (base + slot) word load.AtRest Finds) (entry_addr word))
unfolding trying_next walking_next find_ledto find_led slot_word
finds_entry c base links slot word its some mine = rw (some, its, mine) refl

finds_empty : (c : Course) (base links slot : ℕ)
    → next_try c (seeking c base links (LoadsSlot slot)) 0 ≡ judged c (reached c.seat.places (walking c (record { base = base; links = links; first = None }) (base + slot) 0 load.AtRest Finds) (entry_addr 0))
unfolding trying_next walking_next find_ledto find_led slot_word
finds_empty c base links slot = refl

-- an update that has bounds comes to an empty slot of its first bucket alone
abbrev pub OwnSlot : Course → ℕ → ℕ → Type 0
OwnSlot c links entry = counts c ≡ true → entry ≡ 0 → c.seat.places.overflow ≤ links

-- no record was met yet
fresh_at : (c : Course) (base links entry : ℕ) → OwnSlot c links entry → IsTrail c (record { base = base; links = links; first = None }) entry (entry_addr entry)
fresh_at c base links entry own = record { falls = omega arith; fresh = λ e. refl; its_own = own }

pub entry_found : (c : Course) (base links slot word : ℕ) (s : SessionState) → HasSlot c base links slot word s → is_entry word ≡ true → (word == 0) ≡ false → (entry_tag word == (home_in c).tag) ≡ true
    → IsReached c (base + slot) word (entry_addr word) s
unfolding HasSlot IsReached
entry_found c base links slot word s has its some mine =
    (record { base = base; links = links; first = None }, fresh_at c base links word (λ counted none. absurd (let e : true ≡ false = subst (λ (n : ℕ). (n == 0) ≡ false) none some in cc e)), load.AtRest, Finds, subst (λ (t : TryState). IsLed c t s) (finds_entry c base links slot word its some mine) has)

empty_slot : (c : Course) (base links slot : ℕ) (s : SessionState) → OwnSlot c links 0 → HasSlot c base links slot 0 s → IsReached c (base + slot) 0 (entry_addr 0) s
unfolding HasSlot IsReached
empty_slot c base links slot s own has =
    (record { base = base; links = links; first = None }, fresh_at c base links 0 own, load.AtRest, Finds, subst (λ (t : TryState). IsLed c t s) (finds_empty c base links slot) has)

pub empty_found : (c : Course) (base links slot word : ℕ) (s : SessionState) → OwnSlot c links word → HasSlot c base links slot word s → word ≡ 0 → IsReached c (base + slot) word (entry_addr word) s
empty_found c base links slot word s own has none =
    subst (λ (n : ℕ). IsReached c (base + slot) n (entry_addr n) s) (sym none) (empty_slot c base links slot s (λ counted same. own counted none) (subst (λ (n : ℕ). HasSlot c base links slot n s) none has))

-- ---- the tests, by the numbers that the call goes by
some_word : (word : ℕ) → ¬ (word ≡ 0) → (word == 0) ≡ false
some_word word h = grind (arith, nat_tests, h)

pub is_other : (c : Course) (k : Seat) (op : Op) (g : Going) (h : Home) (key : Key) (word : ℕ) → Goes c k op g → key ≡ key_of op → h ≡ home_of g.bits key → ¬ (word / 2 ^ 48 ≡ h.tag) → (entry_tag word == (home_in c).tag) ≡ false
is_other c k op g h key word goes its e other =
    let t : ¬ (word / 2 ^ 48 ≡ (home_in c).tag) = (λ same. other (same ∙ ap (λ (x : Home). x.tag) (sym (home_is c k op g h key goes its e)))) in
    grind (arith, nat_tests, t)

pub is_mine : (c : Course) (k : Seat) (op : Op) (g : Going) (h : Home) (key : Key) (word : ℕ) → Goes c k op g → key ≡ key_of op → h ≡ home_of g.bits key → word / 2 ^ 48 ≡ h.tag → (entry_tag word == (home_in c).tag) ≡ true
is_mine c k op g h key word goes its e mine =
    let t : word / 2 ^ 48 ≡ (home_in c).tag = mine ∙ ap (λ (x : Home). x.tag) (home_is c k op g h key goes its e) in
    grind (arith, nat_tests, t)

-- by the tag alone
other_tag : (c : Course) (k : Seat) (op : Op) (g : Going) (tag word : ℕ) → Goes c k op g → tag ≡ (home_of g.bits (key_of op)).tag → ¬ (word / 2 ^ 48 ≡ tag) → (entry_tag word == (home_in c).tag) ≡ false
other_tag c k op g tag word goes its other = is_other c k op g (home_of g.bits (key_of op)) (key_of op) word goes refl refl (λ same. other (same ∙ sym its))

mine_tag : (c : Course) (k : Seat) (op : Op) (g : Going) (tag word : ℕ) → Goes c k op g → tag ≡ (home_of g.bits (key_of op)).tag → word / 2 ^ 48 ≡ tag → (entry_tag word == (home_in c).tag) ≡ true
mine_tag c k op g tag word goes its mine = is_mine c k op g (home_of g.bits (key_of op)) (key_of op) word goes refl refl (mine ∙ its)

some_entry : (word : ℕ) → is_entry word ≡ true → (word == 0) ≡ false
some_entry word its = some_word word (λ none. absurd (let e : false ≡ true = subst (λ (n : ℕ). is_entry n ≡ true) none its in cc e))

-- a search that the machine isn't to count behind
some_bound : (b : Option Bounds) → has_bounds b ≡ true → is_some (tail_bound b) ≡ true
some_bound None h = absurd (cc h)
some_bound (Some bounds) h = refl

counts_so : (b reads : Bool) → (b && not reads) ≡ true → (reads ≡ false) × (b ≡ true)
counts_so true false h = (refl, refl)
counts_so true true h = absurd (cc h)
counts_so false reads h = absurd (cc h)

zero_of : (word links : ℕ) (bounded reads : Bool) → (word == 0 && not (links == 0) && bounded && not reads) ≡ false → word ≡ 0 → bounded ≡ true → reads ≡ false → links ≡ 0
zero_of word links bounded reads h none has updates = by (links == 0) refl
  where
    by : (b : Bool) → (links == 0) ≡ b → links ≡ 0
    by true e = grind (arith, nat_tests, e)
    by false e =
        let zero : (word == 0) ≡ true = grind (arith, nat_tests, none) in
        let all : (word == 0 && not (links == 0) && bounded && not reads) ≡ true = rw (zero, e, has, updates) refl in
        absurd (let clash : true ≡ false = sym all ∙ h in cc clash)

none_behind : (mine its links : ℕ) → mine ≡ its → links ≡ 0 → mine ≤ its - links
none_behind mine its links same first = omega (arith, same, first)

pub owns : (c : Course) (k : Seat) (op : Op) (g : Going) (links word : ℕ) → Goes c k op g → (word == 0 && not (links == 0) && is_some g.bound && not (is_read op)) ≡ false → OwnSlot c (g.places.overflow - links) word
owns c k op g links word goes h = λ counted none.
    let so = counts_so (has_bounds (bounds_at c.occasion)) (is_read c.op) counted in
    let has : is_some g.bound ≡ true = ap (λ (o : Option ℕ). is_some o) (sym goes.its_bound) ∙ some_bound (bounds_at c.occasion) so.1 in
    let updates : is_read op ≡ false = ap (λ (o : Op). is_read o) (sym goes.its_op) ∙ so.0 in
    none_behind c.seat.places.overflow g.places.overflow links (ap (λ (p : Places). p.overflow) goes.its_places) (zero_of word links (is_some g.bound) (is_read op) h none has updates)

-- where the search ends at a slot, and where it goes on behind it
pub ends_here : (c : Course) (k : Seat) (op : Op) (g : Going) (tag base links slot word : ℕ) (s : SessionState) → Goes c k op g → tag ≡ (home_of g.bits (key_of op)).tag → OwnSlot c links word → HasSlot c base links slot word s
    → (word ≡ 0) ⊎ ((is_entry word ≡ true) × (word / 2 ^ 48 ≡ tag)) → IsReached c (base + slot) word (entry_addr word) s
ends_here c k op g tag base links slot word s goes its own has (inl none) = empty_found c base links slot word s own has none
ends_here c k op g tag base links slot word s goes its own has (inr (entry, mine)) = entry_found c base links slot word s has entry (some_entry word entry) (mine_tag c k op g tag word goes its mine)

pub other_passed : (c : Course) (k : Seat) (op : Op) (g : Going) (tag base links slot word : ℕ) (s : SessionState) → Goes c k op g → tag ≡ (home_of g.bits (key_of op)).tag → HasSlot c base links slot word s
    → (is_entry word ≡ true) × ¬ (word / 2 ^ 48 ≡ tag) → slot < 6 → IsAtSlot c base links (slot + 1) s
other_passed c k op g tag base links slot word s goes its has other few = slot_passed c base links slot word s has other.0 (some_entry word other.0) (other_tag c k op g tag word goes its other.1) few

pub all_passed : (c : Course) (k : Seat) (op : Op) (g : Going) (tag base links word : ℕ) (s : SessionState) → Goes c k op g → tag ≡ (home_of g.bits (key_of op)).tag → HasSlot c base links 6 word s
    → (is_entry word ≡ true) × ¬ (word / 2 ^ 48 ≡ tag) → IsAtLink c base links s
all_passed c k op g tag base links word s goes its has other = last_passed c base links 6 word s has other.0 (some_entry word other.0) (other_tag c k op g tag word goes its other.1) (omega arith)

-- a link that is followed, by the number of the bucket
pub link_goes_on : (c : Course) (k : Seat) (op : Op) (g : Going) (base links word number next : ℕ) (s : SessionState) → Goes c k op g → HasLink c base (g.places.overflow - links) word s → number ≡ entry_addr word → ¬ (number ≡ 0) → number ≤ g.places.overflow → links < g.places.overflow
    → next ≡ overflow_place g.places number 0 → IsAtSlot c next (g.places.overflow - (links + 1)) 0 s
link_goes_on c k op g base links word number next s goes has e some within fewer n =
    let there : number ≤ c.seat.places.overflow = subst (λ (p : Places). number ≤ p.overflow) (sym goes.its_places) within in
    let at = link_followed c base (g.places.overflow - links) word s has (λ z. some (e ∙ z)) (omega arith) (subst (λ (m : ℕ). m ≤ c.seat.places.overflow) e there) in
    let place : overflow_place c.seat.places (link_of word) 0 ≡ next = ap (λ (p : Places). overflow_place p (link_of word) 0) goes.its_places ∙ (ap (λ (m : ℕ). overflow_place g.places m 0) (sym e) ∙ sym n) in
    let left : (g.places.overflow - links) - 1 ≡ g.places.overflow - (links + 1) = omega arith in
    subst (λ (m : ℕ). IsAtSlot c m (g.places.overflow - (links + 1)) 0 s) place (subst (λ (m : ℕ). IsAtSlot c (overflow_place c.seat.places (link_of word) 0) m 0 s) left at)
