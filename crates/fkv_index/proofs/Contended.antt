-- A search is contended only where it meets another word than before, or where what it linked is filled again.
use Rattle.std.proofs.Common.{◌≡◌, ℕ, zero, suc, ◌+◌, ◌-◌, ◌^◌, ◌<◌, ◌≤◌, ◌⊎◌, List, [], ◌∷◌, refl, inl, inr, arith, sym, ap, ◌∙◌, subst, Bool, true, false, eqb-true}
use Rattle.std.specs.Prelude.{Option, Some, None, slice_get, slice_set, replicate, ◌==◌, ◌&&◌, nat_lt, nat_le, if◌then◌else◌, ⊤}
use Rattle.std.proofs.lemmas.Bool.Decides.{nat_tests}
use Rattle.fkv_plane.specs.declared.places.Places.{Places}
use Rattle.fkv_plane.specs.Places.{bucket_place, overflow_place}
use Rattle.fkv_plane.specs.Asked.{asked_place, word_at, reply_to}
use Rattle.fkv_index.specs.declared.homes.Home.{Home}
use Rattle.fkv_index.specs.declared.slot_words.SlotWord.{SlotWord}
use Rattle.fkv_index.specs.declared.slot_words.SlotWord.TheVariants.{Empty, Tagged, Spoiled}
use Rattle.fkv_index.specs.declared.finding.Purpose.{Purpose}
use Rattle.fkv_index.specs.declared.finding.Purpose.TheVariants.{Read, Update, UpdateWithin}
use Rattle.fkv_index.specs.declared.finding.Linking.{Linking}
use Rattle.fkv_index.specs.declared.finding.Linking.TheVariants.{Never, Once, Within, Made}
use Rattle.fkv_index.specs.declared.finding.Found.TheVariants.{Slot, Full, Kept, Contended}
use Rattle.fkv_index.specs.declared.finding.FindStep.{FindStep}
use Rattle.fkv_index.specs.declared.finding.FindStep.TheVariants.{AtRest, LoadsSlot, LoadsLink, LoadsTaken, TakesBucket, LinksBucket}
use Rattle.fkv_index.specs.declared.finding.Finding.{Finding}
use Rattle.fkv_index.specs.declared.finding.Led.{Led}
use Rattle.fkv_index.specs.declared.finding.Led.TheVariants.{On, Ends}
use Rattle.fkv_index.specs.Slots.{slot_word, link_of}
use Rattle.fkv_index.specs.Finding.{find_step_ask, find_led, slot_led, entered, ended_list, link_led, is_kept, led_to, linking_for, first_finding}
use Rattle.fkv_index.specs.Buckets.{bucket_words}
use Rattle.fkv_index.specs.IndexWorld.{SlotWork, Seeks, Holds, Enters, IndexActor, IndexEvent, BeginsFind, BeginsPublish, Moves, Changes, IndexWorld, taken_of, is_barred, may_find, find_begun, work_begun, publish_begun, actor_after, moved, index_happens, index_run, index_opening, rested_actor}
use Rattle.fkv_index.specs.OneEntry.{HasLost, IsIndex, spare_in, spare_at}
use Rattle.fkv_index.specs.Contended.{MetWord, met_at, met_moved, met_begun, met_after, met_of, last_met, HasLinked, MeetsAnother, IsFilledAgain, ContendedHaveMet}
use Rattle.fkv_index.proofs.Orders.{passed_all}
use Rattle.fkv_index.proofs.Owned.{spare_taken}
use Rattle.fkv_index.proofs.Rows.{SeekKnows, WorkKnows}
use Rattle.fkv_index.proofs.Losing.{sound_lost}
use Rattle.fkv_index.proofs.Runs.{IsSound, event_happened}

-- what a search keeps was met last at its place
abbrev WordsMet : ℕ → FindStep → List MetWord → Type 0
WordsMet base (LoadsTaken word) met = last_met (base + 7) met ≡ Some word
WordsMet base (TakesBucket word taken) met = (last_met (base + 7) met ≡ Some word) × (last_met 10 met ≡ Some taken)
WordsMet base (LinksBucket word) met = last_met (base + 7) met ≡ Some word
WordsMet base step met = ⊤

record MetKnows (p : Places) (f : Finding) (met : List MetWord) : Type 0 where
  its_words : WordsMet f.base f.step met
  its_link : f.linking ≡ Made → HasLinked p met

abbrev LedMet : Places → Led → List MetWord → Type 0
LedMet p led met = MetKnows p (led_to led) met

met_here : (place word left : ℕ) (met : List MetWord) → last_met place (record { place = place; word = word; left = left } ∷ met) ≡ Some word
met_here place word left met = let e : (place == place) ≡ true = grind (arith, nat_tests) in rw e refl

met_else : (place other word left : ℕ) (met : List MetWord) → (other ≡ place → ⊥) → last_met place (record { place = other; word = word; left = left } ∷ met) ≡ last_met place met
met_else place other word left met apart = let e : (other == place) ≡ false = grind (arith, nat_tests, apart) in rw e refl

slot_met : (p : Places) (f : Finding) (slot word : ℕ) (its : SlotWord) (met : List MetWord) → (f.linking ≡ Made → HasLinked p met) → LedMet p (slot_led f slot word its) met
slot_met p f slot word Empty met link = record { its_words = tt; its_link = link }
slot_met p f slot word Spoiled met link = record { its_words = tt; its_link = link }
slot_met p f slot word (Tagged tag) met link = tested (tag == f.home.tag) (nat_lt (slot + 1) 7)
  where
    tested : (a b : Bool) → LedMet p (if a then Ends f (Slot (f.base + slot) word) else On (record f { step = if b then LoadsSlot (slot + 1) else LoadsLink })) met
    tested true b = record { its_words = tt; its_link = link }
    tested false true = record { its_words = tt; its_link = link }
    tested false false = record { its_words = tt; its_link = link }

enters_met : (p : Places) (f : Finding) (number : ℕ) (met : List MetWord) → (f.linking ≡ Made → HasLinked p met) → LedMet p (entered p f number) met
enters_met p f number met link = tested (nat_lt 0 f.links && nat_le number p.overflow)
  where
    tested : (b : Bool) → LedMet p (if b then On (record f { base = overflow_place p number 0; links = f.links - 1; step = LoadsSlot 0 }) else Ends f Contended) met
    tested true = record { its_words = tt; its_link = link }
    tested false = record { its_words = tt; its_link = link }

link_met : (p : Places) (f : Finding) (word : ℕ) (met : List MetWord) → last_met (f.base + 7) met ≡ Some word → (f.linking ≡ Made → HasLinked p met) → LedMet p (link_led p f word) met
link_met p f word met here link = tested (link_of word == 0)
  where
    links : (b : Bool) → LedMet p (On (record f { step = if b then LoadsTaken word else LinksBucket word })) met
    links true = record { its_words = here; its_link = link }
    links false = record { its_words = here; its_link = link }

    ended : (linking : Linking) → LedMet p (ended_list f word linking) met
    ended Never = record { its_words = tt; its_link = link }
    ended Once = links (f.spare == 0)
    ended (Within bound) = links true
    ended Made = record { its_words = tt; its_link = link }

    tested : (b : Bool) → LedMet p (if b then ended_list f word f.linking else entered p f (link_of word)) met
    tested true = ended f.linking
    tested false = enters_met p f (link_of word) met link

seek_met : (p : Places) (actor : ℕ) (words : List ℕ) (lists : ℕ → List ℕ) (spares : ℕ → ℕ) (f : Finding) (step : FindStep) (met : List MetWord) → IsIndex p words lists spares → spares actor ≡ f.spare
    → SeekKnows p (bucket_words p words) lists f step → WordsMet f.base step met → (f.linking ≡ Made → HasLinked p met)
    → LedMet p (find_led p f step (reply_to words (find_step_ask f step))) (met_at words (find_step_ask f step) (asked_place (find_step_ask f step)) met)
unfolding find_step_ask find_led
seek_met p actor words lists spares f AtRest met index its knows has link = record { its_words = tt; its_link = link }
seek_met p actor words lists spares f (LoadsSlot slot) met index its knows has link = slot_met p f slot (word_at words (f.base + slot)) (slot_word (word_at words (f.base + slot))) _ (λ e. inr (link e))
seek_met p actor words lists spares f LoadsLink met index its knows has link = link_met p f (word_at words (f.base + 7)) _ (met_here (f.base + 7) (word_at words (f.base + 7)) (word_at words (f.base + 7)) met) (λ e. inr (link e))
seek_met p actor words lists spares f (LoadsTaken word) met index its knows has link = tested (is_kept f.linking (taken_of words)) (f.spare == 0) (nat_lt (taken_of words) p.overflow)
  where
    apart : 10 ≡ f.base + 7 → ⊥
    apart e = let base = knows.0.its_base in omega (arith, e, base)

    tested : (kept none few : Bool)
        → LedMet p (if kept then Ends f Kept else if none then (if few then On (record f { step = TakesBucket word (taken_of words) }) else Ends f Full) else On (record f { step = LinksBucket word }))
        (record { place = 10; word = taken_of words; left = taken_of words } ∷ met)
    tested true none few = record { its_words = tt; its_link = λ e. inr (link e) }
    tested false true true = record { its_words = (met_else (f.base + 7) 10 (taken_of words) (taken_of words) met apart ∙ has, refl); its_link = λ e. inr (link e) }
    tested false true false = record { its_words = tt; its_link = λ e. inr (link e) }
    tested false false few = record { its_words = met_else (f.base + 7) 10 (taken_of words) (taken_of words) met apart ∙ has; its_link = λ e. inr (link e) }
seek_met p actor words lists spares f (TakesBucket word taken) met index its knows has link = tested (taken_of words == taken) (if taken_of words == taken then taken + 1 else taken_of words)
  where
    apart : 10 ≡ f.base + 7 → ⊥
    apart e = let base = knows.0.its_base in omega (arith, e, base)

    tested : (b : Bool) (left : ℕ) → LedMet p (if b then On (record f { spare = taken + 1; step = LinksBucket word }) else Ends f Contended) (record { place = 10; word = taken_of words; left = left } ∷ met)
    tested true left = record { its_words = met_else (f.base + 7) 10 (taken_of words) left met apart ∙ has.0; its_link = λ e. inr (link e) }
    tested false left = record { its_words = tt; its_link = λ e. inr (link e) }
seek_met p actor words lists spares f (LinksBucket word) met index its knows has link = tested (word_at words (f.base + 7) == word) refl
  where
    few : f.spare ≤ p.overflow
    few =
        let h = index.few_taken in
        let some = knows.2 in
        let t = spare_taken actor index.owned (subst (λ x. 1 ≤ x) (sym its) some) in
        omega (arith, h, t, its)

    small : p.overflow < 2 ^ 48
    small = let h = p.few_overflow in omega (arith, h)

    tested : (b : Bool) → (word_at words (f.base + 7) == word) ≡ b
        → LedMet p (if b then entered p (record f { linking = Made; spare = 0 }) f.spare else Ends f Contended) (record { place = f.base + 7; word = word_at words (f.base + 7); left = if b then word + f.spare else word_at words (f.base + 7) } ∷ met)
    tested true e = enters_met p (record f { linking = Made; spare = 0 }) f.spare _ (λ made. inl (record {
      bucket = knows.0.bucket;
      its_place = let base = knows.0.its_base in omega (arith, base);
      led_nowhere = ap link_of (eqb-true (word_at words (f.base + 7)) word e) ∙ knows.1;
      leads_on = let none = knows.1 in let some = knows.2 in omega (arith, none, some, few, small);
    }))
    tested false e = record { its_words = tt; its_link = λ e. inr (link e) }

-- what each actor's last search has met is what it keeps
abbrev AreMet : IndexWorld → (ℕ → List MetWord) → Type 0
AreMet w mets = (actor : ℕ) (x : IndexActor) → slice_get w.now.actors actor ≡ Some x → MetKnows w.now.places x.finding (mets actor)

-- an item after one was put in
set_cases : {X : Type 0} (xs : List X) (i : ℕ) (y : X) (j : ℕ) (z : X) → slice_get (slice_set xs i y) j ≡ Some z → ((j ≡ i) × (z ≡ y)) ⊎ ((i ≡ j → ⊥) × (slice_get xs j ≡ Some z))
set_cases [] i y j z e = cc
set_cases (x ∷ xs) zero y zero z e = inl (refl, cc)
set_cases (x ∷ xs) zero y (suc j) z e = inr ((λ h. cc), e)
set_cases (x ∷ xs) (suc i) y zero z e = inr ((λ h. cc), e)
set_cases (x ∷ xs) (suc i) y (suc j) z e = elim (set_cases xs i y j z e) [
  | inl same ↦ inl (ap suc same.0, same.1)
  | inr other ↦ inr ((λ h. other.0 (cc)), other.1)
]

work_met : (w : IndexWorld) (actor : ℕ) (x : IndexActor) (work : SlotWork) (met : List MetWord) → slice_get w.now.actors actor ≡ Some x → IsSound w → WorkKnows w.now.places (bucket_words w.now.places w.now.words) w.lists x.finding work
    → MetKnows w.now.places x.finding met → MetKnows w.now.places (actor_after w.now.places w.now.words x work).finding (met_moved w.now.words (Some (record x { work = work })) met)
work_met w actor x Seeks met got sound row knows = seek_met w.now.places actor w.now.words w.lists (spare_at w.now.actors) x.finding x.finding.step met sound.its_index (ap spare_in got) row knows.its_words knows.its_link
work_met w actor x (Holds place word) met got sound row knows = knows
work_met w actor x (Enters step) met got sound row knows = knows

moves_met : (w : IndexWorld) (mets : ℕ → List MetWord) (i : ℕ) (found : Option IndexActor) → slice_get w.now.actors i ≡ found → IsSound w → AreMet w mets
    → (actor : ℕ) (z : IndexActor) → slice_get (moved w.now i found).actors actor ≡ Some z → MetKnows w.now.places z.finding (if i == actor then met_moved w.now.words (slice_get w.now.actors actor) (mets actor) else mets actor)
moves_met w mets i None got sound all actor z at = tested (i == actor) refl
  where
    tested : (b : Bool) → (i == actor) ≡ b → MetKnows w.now.places z.finding (if b then met_moved w.now.words (slice_get w.now.actors actor) (mets actor) else mets actor)
    tested true e = let same = eqb-true i actor e in let none : slice_get w.now.actors actor ≡ None = subst (λ a. slice_get w.now.actors a ≡ None) same got in cc
    tested false e = all actor z at
moves_met w mets i (Some x) got sound all actor z at = elim (set_cases w.now.actors i (actor_after w.now.places w.now.words x x.work) actor z at) [
  | inl here ↦
      let e : (i == i) ≡ true = grind (arith, nat_tests) in
      rw (here.0, here.1, e, got) (work_met w i x x.work (mets i) got sound (sound.rows i x got) (all i x got))
  | inr other ↦
      let e : (i == actor) ≡ false = (let apart = other.0 in grind (arith, nat_tests, apart)) in
      rw e (all actor z other.1)
]

begins_met : (w : IndexWorld) (mets : ℕ → List MetWord) (i : ℕ) (home : Home) (purpose : Purpose) (found : Option IndexActor) → slice_get w.now.actors i ≡ found → AreMet w mets
    → (actor : ℕ) (z : IndexActor) → slice_get (find_begun w.now i home purpose found).actors actor ≡ Some z → MetKnows w.now.places z.finding (if i == actor then met_begun w.now.places home (slice_get w.now.actors actor) (mets actor) else mets actor)
begins_met w mets i home purpose None got all actor z at = tested (i == actor) refl
  where
    tested : (b : Bool) → (i == actor) ≡ b → MetKnows w.now.places z.finding (if b then met_begun w.now.places home (slice_get w.now.actors actor) (mets actor) else mets actor)
    tested true e = let same = eqb-true i actor e in let none : slice_get w.now.actors actor ≡ None = subst (λ a. slice_get w.now.actors a ≡ None) same got in cc
    tested false e = all actor z at
begins_met w mets i home purpose (Some x) got all actor z at = begun (may_find w.now.places home x) refl at
  where
    unmade : (purpose : Purpose) → linking_for purpose ≡ Made → ⊥
    unmade Read e = cc
    unmade Update e = cc
    unmade (UpdateWithin bound) e = cc

    begun : (b : Bool) → may_find w.now.places home x ≡ b
        → slice_get (if b then record w.now { actors = slice_set w.now.actors i (record x { finding = first_finding w.now.places home purpose x.spare; work = Seeks; purpose = purpose }) } else w.now).actors actor ≡ Some z
        → MetKnows w.now.places z.finding (if i == actor then met_begun w.now.places home (slice_get w.now.actors actor) (mets actor) else mets actor)
    begun true may at' = elim (set_cases w.now.actors i (record x { finding = first_finding w.now.places home purpose x.spare; work = Seeks; purpose = purpose }) actor z at') [
      | inl here ↦
          let e : (i == i) ≡ true = grind (arith, nat_tests) in
          rw (here.0, here.1, e, got, may) (record { its_words = tt; its_link = λ made. absurd (unmade purpose made) })
      | inr other ↦
          let e : (i == actor) ≡ false = (let apart = other.0 in grind (arith, nat_tests, apart)) in
          rw e (all actor z other.1)
    ]
    begun false may at' = stays (i == actor) refl
      where
        stays : (b : Bool) → (i == actor) ≡ b → MetKnows w.now.places z.finding (if b then met_begun w.now.places home (slice_get w.now.actors actor) (mets actor) else mets actor)
        stays true e =
            let same = eqb-true i actor e in
            let its : slice_get w.now.actors actor ≡ Some x = subst (λ a. slice_get w.now.actors a ≡ Some x) same got in
            rw (its, may) (all actor z at')
        stays false e = all actor z at'

publishes_met : (w : IndexWorld) (mets : ℕ → List MetWord) (i addr : ℕ) (found : Option IndexActor) → slice_get w.now.actors i ≡ found → AreMet w mets
    → (actor : ℕ) (z : IndexActor) → slice_get (publish_begun w.now i addr found).actors actor ≡ Some z → MetKnows w.now.places z.finding (mets actor)
publishes_met w mets i addr None got all actor z at = all actor z at
publishes_met w mets i addr (Some x) got all actor z at = elim (set_cases w.now.actors i (record x { work = work_begun x.finding addr x.work }) actor z at) [
  | inl here ↦ rw (here.0, here.1) (all i x got)
  | inr other ↦ all actor z other.1
]

event_met : (w : IndexWorld) (event : IndexEvent) (mets : ℕ → List MetWord) → IsSound w → AreMet w mets
    → (actor : ℕ) (z : IndexActor) → slice_get (index_happens w event).now.actors actor ≡ Some z → MetKnows w.now.places z.finding (met_after w actor event (mets actor))
unfolding index_happens
event_met w (BeginsFind i home purpose) mets sound all = begins_met w mets i home purpose (slice_get w.now.actors i) refl all
event_met w (BeginsPublish i addr) mets sound all = publishes_met w mets i addr (slice_get w.now.actors i) refl all
event_met w (Moves i) mets sound all = moves_met w mets i (slice_get w.now.actors i) refl sound all
event_met w (Changes place word) mets sound all = tested (is_barred w.now.places w.now.words place word)
  where
    tested : (b : Bool) (actor : ℕ) (z : IndexActor) → slice_get (if b then w.now else record w.now { words = slice_set w.now.words place word }).actors actor ≡ Some z → MetKnows w.now.places z.finding (mets actor)
    tested true actor z at = all actor z at
    tested false actor z at = all actor z at

-- a run, with what it tells
record Told (w : IndexWorld) (mets : ℕ → List MetWord) : Type 0 where
  sound : IsSound w
  are_met : AreMet w mets

rested_met : (p : Places) (count actor : ℕ) (x : IndexActor) → slice_get (replicate count rested_actor) actor ≡ Some x → MetKnows p x.finding []
rested_met p zero actor x got = cc
rested_met p (suc count) zero x got = let same : rested_actor ≡ x = cc in subst (λ y. MetKnows p y.finding []) same (record { its_words = tt; its_link = λ e. cc })
rested_met p (suc count) (suc actor) x got = rested_met p count actor x got

run_told : (p : Places) (words : List ℕ) (lists : ℕ → List ℕ) (actors : ℕ) (events : List IndexEvent) → IsSound (index_opening p words lists actors)
    → Told (index_run (index_opening p words lists actors) events) (met_of (index_opening p words lists actors) events)
unfolding index_run met_of
run_told p words lists actors [] sound = record { sound = sound; are_met = λ actor x got. rested_met p actors actor x got }
run_told p words lists actors (event ∷ before) sound =
    let w = index_run (index_opening p words lists actors) before in
    let told = run_told p words lists actors before sound in
    let happened = event_happened w event told.sound in
    record {
      sound = happened.sound;
      are_met = λ actor z at. subst (λ q. MetKnows q z.finding (met_after w actor event (met_of (index_opening p words lists actors) before actor))) (sym happened.same_places)
          (event_met w event (met_of (index_opening p words lists actors) before) told.sound told.are_met actor z at);
    }

lost_met : (w : IndexWorld) (f : Finding) (step : FindStep) (met : List MetWord) → IsSound w → SeekKnows w.now.places (bucket_words w.now.places w.now.words) w.lists f step → (step ≡ AtRest → ⊥) → WordsMet f.base step met → (f.linking ≡ Made → HasLinked w.now.places met)
    → HasLost w.now.words f step → MeetsAnother w.now.words (find_step_ask f step) met ⊎ IsFilledAgain w f.home met
unfolding find_step_ask
lost_met w f AtRest met sound row under has link lost = absurd (under refl)
lost_met w f (LoadsSlot slot) met sound row under has link lost = absurd lost
lost_met w f LoadsLink met sound row under has link lost =
    let base = row.its_base in
    let place : bucket_place w.now.places row.bucket 7 ≡ f.base + 7 = omega (arith, base) in
    inr (record {
      has_linked = link lost.0;
      all_others = λ m i among few. passed_all w.now.places.buckets (bucket_words w.now.places w.now.words) f.home.tag f.home.bucket (w.lists f.home.bucket) row.bucket (sound.its_index.linked f.home.bucket row.its_home.few) row.passed
          (ap (λ x. link_of (word_at w.now.words x)) place ∙ lost.1) m i among few;
    })
lost_met w f (LoadsTaken word) met sound row under has link lost = absurd lost
lost_met w f (TakesBucket word taken) met sound row under has link lost = inl (record { place = 10; its_place = refl; before = taken; met_before = has.1; another = lost })
lost_met w f (LinksBucket word) met sound row under has link lost = inl (record { place = f.base + 7; its_place = refl; before = word; met_before = has; another = lost })

pub run_contended : (p : Places) (words : List ℕ) (lists : ℕ → List ℕ) (actors : ℕ) (events : List IndexEvent) → IsSound (index_opening p words lists actors)
    → ContendedHaveMet (index_run (index_opening p words lists actors) events) (met_of (index_opening p words lists actors) events)
run_contended p words lists actors events sound actor x answer got seeks under e its =
    let w = index_run (index_opening p words lists actors) events in
    let told = run_told p words lists actors events sound in
    let knows = told.are_met actor x got in
    let row : SeekKnows w.now.places (bucket_words w.now.places w.now.words) w.lists x.finding x.finding.step = subst (WorkKnows w.now.places (bucket_words w.now.places w.now.words) w.lists x.finding) seeks (told.sound.rows actor x got) in
    lost_met w x.finding x.finding.step (met_of (index_opening p words lists actors) events actor) told.sound row under knows.its_words knows.its_link (sound_lost w told.sound actor x answer got seeks e its)
