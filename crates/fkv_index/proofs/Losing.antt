-- A search ends as contended only where it has lost against another.
use Rattle.std.proofs.Common.{◌≡◌, ℕ, ◌+◌, ◌<◌, ◌≤◌, List, [], ◌∷◌, ◌++◌, length, refl, inl, inr, arith, sym, ap, ◌∙◌, subst, Bool, true, false, eqb-true}
use Rattle.std.specs.Prelude.{◌==◌, nat_lt, nat_le, if◌then◌else◌, ⊤}
use Rattle.std.proofs.lemmas.Bool.Decides.{nat_tests}
use Rattle.std.proofs.lemmas.List.{length-append}
use Rattle.fkv_plane.specs.declared.asks.Ask.TheVariants.{Done}
use Rattle.fkv_plane.specs.declared.places.Places.{Places}
use Rattle.fkv_plane.specs.Places.{bucket_place}
use Rattle.fkv_plane.specs.Asked.{word_at, reply_to}
use Rattle.fkv_index.specs.declared.finding.Linking.{Linking}
use Rattle.fkv_index.specs.declared.finding.Linking.TheVariants.{Never, Once, Within, Made}
use Rattle.fkv_index.specs.declared.finding.Found.TheVariants.{Slot, NoSlot, Full, Kept, Contended}
use Rattle.fkv_index.specs.declared.finding.FindAnswer.{FindAnswer}
use Rattle.fkv_index.specs.declared.finding.FindStep.{FindStep}
use Rattle.fkv_index.specs.declared.finding.FindStep.TheVariants.{AtRest, LoadsSlot, LoadsLink, LoadsTaken, TakesBucket, LinksBucket}
use Rattle.fkv_index.specs.declared.finding.Finding.{Finding}
use Rattle.fkv_index.specs.declared.finding.Led.{Led}
use Rattle.fkv_index.specs.declared.finding.Led.TheVariants.{On, Ends}
use Rattle.fkv_index.specs.Slots.{slot_word, entry_tag, link_of}
use Rattle.fkv_index.specs.Finding.{find_step_ask, find_ask, find_led, slot_led, entered, ended_list, link_led, led_ask, is_kept}
use Rattle.fkv_index.specs.Buckets.{bucket_words, overflow_bucket, IsMember}
use Rattle.fkv_index.specs.IndexWorld.{IndexWorld, taken_of}
use Rattle.fkv_index.specs.OneEntry.{SpareOf, ListedAt, spare_at, spare_in, IsSlotWord, IsIndex, HasLost, ContendedHaveLost}
use Rattle.fkv_index.proofs.Orders.{deep_few, deep_link, passed_among, passed_link, member_more, once_more}
use Rattle.fkv_index.proofs.Distinct.{once_few}
use Rattle.fkv_index.proofs.Owned.{listed_taken, spare_taken}
use Rattle.fkv_index.proofs.Index.{among_real}
use Rattle.fkv_index.proofs.Rows.{Stands, SeekKnows, WorkKnows}
use Rattle.fkv_index.proofs.Steps.{slot_words}
use Rattle.fkv_index.proofs.Runs.{IsSound}

-- where a reply leads to an end as contended, the search has lost
abbrev Loses : Type 0 → Led → Type 0
Loses lost (On f) = f.step ≡ AtRest → ⊥
Loses lost (Ends f Contended) = lost
Loses lost (Ends f found) = ⊤

pub asks_on : (f : Finding) (step : FindStep) (answer : FindAnswer) → (step ≡ AtRest → ⊥) → find_step_ask f step ≡ Done answer → ⊥
unfolding find_step_ask
asks_on f AtRest answer under e = under refl
asks_on f (LoadsSlot slot) answer under e = cc
asks_on f LoadsLink answer under e = cc
asks_on f (LoadsTaken word) answer under e = cc
asks_on f (TakesBucket word taken) answer under e = cc
asks_on f (LinksBucket word) answer under e = cc

loses : (lost : Type 0) (led : Led) (answer : FindAnswer) → Loses lost led → led_ask led ≡ Done answer → answer.found ≡ Contended → lost
loses lost (On f) answer knows e its = absurd (asks_on f f.step answer knows e)
loses lost (Ends f Contended) answer knows e its = knows
loses lost (Ends f (Slot place word)) answer knows e its = cc
loses lost (Ends f NoSlot) answer knows e its = cc
loses lost (Ends f Full) answer knows e its = cc
loses lost (Ends f Kept) answer knows e its = cc

-- a slot that was loaded is spelled
slot_loses : (p : Places) (words : List ℕ) (lists : ℕ → List ℕ) (spares : ℕ → ℕ) (f : Finding) (slot : ℕ) → IsIndex p words lists spares → slot < 7 → Stands p (bucket_words p words) lists f slot
    → Loses ⊥ (slot_led f slot (word_at words (f.base + slot)) (slot_word (word_at words (f.base + slot))))
slot_loses p words lists spares f slot index low stands = elim (slot_words (word_at words (f.base + slot))) [
  | inl empty ↦ rw empty.0 tt
  | inr full ↦ elim full [
    | inl entry ↦ rw entry.0 (tagged (entry_tag (word_at words (f.base + slot)) == f.home.tag) (nat_lt (slot + 1) 7))
    | inr spoiled ↦
        let base = stands.its_base in
        let place : bucket_place p stands.bucket slot ≡ f.base + slot = omega (arith, base) in
        let real = among_real f.home.bucket stands.bucket index stands.its_home.few (passed_among p.buckets (bucket_words p words) f.home.tag f.home.bucket (lists f.home.bucket) stands.bucket slot stands.passed) in
        absurd (spoiled.1 (subst (λ x. IsSlotWord (word_at words x)) place (index.entries stands.bucket slot real low)))
  ]
]
  where
    tagged : (a b : Bool) → Loses ⊥ (if a then Ends f (Slot (f.base + slot) (word_at words (f.base + slot))) else On (record f { step = if b then LoadsSlot (slot + 1) else LoadsLink }))
    tagged true b = tt
    tagged false true = λ e. cc
    tagged false false = λ e. cc

-- a bucket that follows may be entered
enters : (p : Places) (f : Finding) (number : ℕ) (lost : Type 0) → 0 < f.links → number ≤ p.overflow → Loses lost (entered p f number)
enters p f number lost some few =
    let a : nat_lt 0 f.links ≡ true = grind (arith, nat_tests, some) in
    let b : nat_le number p.overflow ≡ true = grind (arith, nat_tests, few) in
    rw (a, b) (λ e. cc)

-- a list is no longer than there are overflow buckets
list_few : (p : Places) (words : List ℕ) (lists : ℕ → List ℕ) (spares : ℕ → ℕ) (bucket : ℕ) → IsIndex p words lists spares → length (lists bucket) ≤ p.overflow
list_few p words lists spares bucket index =
    once_few p.overflow (lists bucket) (index.owned.once bucket) (λ n member. let its = listed_taken bucket n index.owned member in (its.0, (let high = its.1 in let few = index.few_taken in omega (arith, high, few))))

-- and with a spare it would be no longer either
spare_few : (p : Places) (words : List ℕ) (lists : ℕ → List ℕ) (spares : ℕ → ℕ) (actor bucket number : ℕ) → IsIndex p words lists spares → spares actor ≡ number → 1 ≤ number → length (lists bucket) + 1 ≤ p.overflow
spare_few p words lists spares actor bucket number index its some =
    let long : length (lists bucket ++ number ∷ []) ≤ p.overflow = once_few p.overflow (lists bucket ++ number ∷ []) (once_more (lists bucket) number unlisted (index.owned.once bucket)) (λ n member. elim (member_more (lists bucket) number n member) [
      | inl before ↦ let own = listed_taken bucket n index.owned before in (own.0, (let high = own.1 in let few = index.few_taken in omega (arith, high, few)))
      | inr last ↦ (omega (arith, last, some), (let high = taken in let few = index.few_taken in omega (arith, last, high, few)))
    ]) in
    let sum = length-append (lists bucket) (number ∷ []) in
    omega (arith, long, sum)
  where
    had : 1 ≤ spares actor
    had = subst (λ x. 1 ≤ x) (sym its) some

    taken : number ≤ taken_of words
    taken = subst (λ x. x ≤ taken_of words) its (spare_taken actor index.owned had)

    apart : SpareOf actor ≡ ListedAt bucket → ⊥
    apart e = cc

    unlisted : IsMember number (lists bucket) → ⊥
    unlisted member = apart (sym (subst (λ x. index.owner x ≡ SpareOf actor) its (index.owned.spared actor had)) ∙ index.owned.listed bucket number member)

link_loses : (p : Places) (words : List ℕ) (lists : ℕ → List ℕ) (spares : ℕ → ℕ) (f : Finding) → IsIndex p words lists spares → Stands p (bucket_words p words) lists f 7
    → Loses (HasLost words f LoadsLink) (link_led p f (word_at words (f.base + 7)))
link_loses p words lists spares f index stands = tested (link_of (word_at words (f.base + 7)) == 0) refl
  where
    links : (b : Bool) → Loses (HasLost words f LoadsLink) (On (record f { step = if b then LoadsTaken (word_at words (f.base + 7)) else LinksBucket (word_at words (f.base + 7)) }))
    links true = λ e. cc
    links false = λ e. cc

    ended : (linking : Linking) → f.linking ≡ linking → link_of (word_at words (f.base + 7)) ≡ 0 → Loses (HasLost words f LoadsLink) (ended_list f (word_at words (f.base + 7)) linking)
    ended Never same none = tt
    ended Once same none = links (f.spare == 0)
    ended (Within bound) same none = links true
    ended Made same none = (same, none)

    tested : (b : Bool) → (link_of (word_at words (f.base + 7)) == 0) ≡ b
        → Loses (HasLost words f LoadsLink) (if b then ended_list f (word_at words (f.base + 7)) f.linking else entered p f (link_of (word_at words (f.base + 7))))
    tested true e = ended f.linking refl (eqb-true (link_of (word_at words (f.base + 7))) 0 e)
    tested false e =
        let some : 1 ≤ link_of (word_at words (f.base + 7)) = grind (arith, nat_tests, e) in
        let base = stands.its_base in
        let place : bucket_place p stands.bucket 7 ≡ f.base + 7 = omega (arith, base) in
        let its : link_of (bucket_words p words stands.bucket 7) ≡ link_of (word_at words (f.base + 7)) = ap (λ x. link_of (word_at words x)) place in
        let low : f.home.bucket < p.buckets = stands.its_home.few in
        let deeper = deep_link p.buckets (bucket_words p words) f.home.bucket (lists f.home.bucket) stands.bucket stands.depth (link_of (word_at words (f.base + 7))) (index.linked f.home.bucket low) stands.deep its some in
        let next = passed_link p.buckets (bucket_words p words) f.home.tag f.home.bucket (lists f.home.bucket) stands.bucket (link_of (word_at words (f.base + 7))) (index.linked f.home.bucket low) stands.passed its some in
        let real = among_real f.home.bucket (overflow_bucket p.buckets (link_of (word_at words (f.base + 7)))) index low
        (passed_among p.buckets (bucket_words p words) f.home.tag f.home.bucket (lists f.home.bucket) (overflow_bucket p.buckets (link_of (word_at words (f.base + 7)))) 0 next) in
        let few = list_few p words lists spares f.home.bucket index in
        let budget = stands.budget in
        let long = deeper.1 in
        enters p f (link_of (word_at words (f.base + 7))) (HasLost words f LoadsLink) (omega (arith, few, budget, long)) (omega (arith, real, some))

seek_loses : (p : Places) (actor : ℕ) (words : List ℕ) (lists : ℕ → List ℕ) (spares : ℕ → ℕ) (f : Finding) (step : FindStep) → IsIndex p words lists spares → spares actor ≡ f.spare → SeekKnows p (bucket_words p words) lists f step
    → Loses (HasLost words f step) (find_led p f step (reply_to words (find_step_ask f step)))
unfolding find_step_ask find_led
seek_loses p actor words lists spares f AtRest index its knows = tt
seek_loses p actor words lists spares f (LoadsSlot slot) index its knows = slot_loses p words lists spares f slot index knows.0 knows.1
seek_loses p actor words lists spares f LoadsLink index its knows = link_loses p words lists spares f index knows
seek_loses p actor words lists spares f (LoadsTaken word) index its knows = tested (is_kept f.linking (taken_of words)) (f.spare == 0) (nat_lt (taken_of words) p.overflow)
  where
    tested : (kept none few : Bool) → Loses ⊥ (if kept then Ends f Kept else if none then (if few then On (record f { step = TakesBucket word (taken_of words) }) else Ends f Full) else On (record f { step = LinksBucket word }))
    tested true none few = tt
    tested false true true = λ e. cc
    tested false true false = tt
    tested false false few = λ e. cc
seek_loses p actor words lists spares f (TakesBucket word taken) index its knows = tested (taken_of words == taken) refl
  where
    tested : (b : Bool) → (taken_of words == taken) ≡ b → Loses (taken_of words ≡ taken → ⊥) (if b then On (record f { spare = taken + 1; step = LinksBucket word }) else Ends f Contended)
    tested true e = λ h. cc
    tested false e = λ same. absurd (grind (arith, nat_tests, e, same))
seek_loses p actor words lists spares f (LinksBucket word) index its knows = tested (word_at words (f.base + 7) == word) refl
  where
    few : f.spare ≤ p.overflow
    few =
        let some = knows.2 in
        let high = spare_taken actor index.owned (subst (λ x. 1 ≤ x) (sym its) some) in
        let taken = index.few_taken in
        omega (arith, its, high, taken)

    left : 0 < f.links
    left =
        let deep = deep_few p.buckets f.home.bucket (lists f.home.bucket) knows.0.bucket knows.0.depth knows.0.deep in
        let long = spare_few p words lists spares actor f.home.bucket f.spare index its knows.2 in
        let budget = knows.0.budget in
        omega (arith, deep, long, budget)

    tested : (b : Bool) → (word_at words (f.base + 7) == word) ≡ b → Loses (word_at words (f.base + 7) ≡ word → ⊥) (if b then entered p (record f { linking = Made; spare = 0 }) f.spare else Ends f Contended)
    tested true e = enters p (record f { linking = Made; spare = 0 }) f.spare (word_at words (f.base + 7) ≡ word → ⊥) left few
    tested false e = λ same. absurd (grind (arith, nat_tests, e, same))

pub sound_lost : (w : IndexWorld) → IsSound w → ContendedHaveLost w
sound_lost w sound actor x answer got seeks e its =
    let row : SeekKnows w.now.places (bucket_words w.now.places w.now.words) w.lists x.finding x.finding.step = subst (WorkKnows w.now.places (bucket_words w.now.places w.now.words) w.lists x.finding) seeks (sound.rows actor x got) in
    loses (HasLost w.now.words x.finding x.finding.step) (find_led w.now.places x.finding x.finding.step (reply_to w.now.words (find_ask x.finding))) answer
    (seek_loses w.now.places actor w.now.words w.lists (spare_at w.now.actors) x.finding x.finding.step sound.its_index (ap spare_in got) row) e its
