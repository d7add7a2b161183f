-- What stands after every event.
use Rattle.std.proofs.Common.{◌≡◌, ℕ, zero, suc, ◌+◌, ◌-◌, ◌%◌, ◌^◌, ◌<◌, ◌≤◌, List, [], ◌∷◌, length, refl, inl, inr, arith, sym, ap, ◌∙◌, subst, Bool, true, false, eqb-true}
use Rattle.std.specs.Prelude.{Option, Some, None, slice_get, slice_set, replicate, ◌==◌, ◌&&◌, ◌||◌, not, nat_lt, nat_le, if◌then◌else◌}
use Rattle.std.proofs.lemmas.Bool.Decides.{nat_tests}
use Rattle.std.proofs.lemmas.List.{length-set, get_or-set_other}
use Rattle.fkv_plane.specs.declared.places.Places.{Places}
use Rattle.fkv_plane.specs.Places.{bucket_place, frames_start}
use Rattle.fkv_plane.specs.Asked.{word_at}
use Rattle.fkv_index.specs.declared.homes.Home.{Home}
use Rattle.fkv_index.specs.declared.finding.Purpose.{Purpose}
use Rattle.fkv_index.specs.declared.publishing.Publishing.TheVariants as publish
use Rattle.fkv_index.specs.Slots.{entry_addr, entry_tag, link_of}
use Rattle.fkv_index.specs.Finding.{spare_of, linking_for, first_finding, find_ask}
use Rattle.fkv_index.specs.Buckets.{bucket_words}
use Rattle.fkv_index.specs.IndexWorld.{SlotWork, Seeks, Holds, Enters, IndexActor, IndexEvent, BeginsFind, BeginsPublish, Moves, Changes, IndexWorld, is_bucket_place, is_link_place, is_barred, is_seeking, is_publishing, find_begun, new_entry, work_begun, publish_begun, actor_step, actor_after, lists_by, moved, lists_moved, index_happens, index_run, rested_actor, index_opening}
use Rattle.fkv_index.specs.OneEntry.{spare_at, spare_in, IsIndexAt, IsHome, AnswersTrue, SparesTold, ReadsLoad, HaveSlots, Grows}
use Rattle.fkv_index.proofs.Orders.{truth, same_or_not, passed_none, deep_first}
use Rattle.fkv_index.proofs.BucketWords.{set_there, set_outside}
use Rattle.fkv_index.proofs.Owned.{SpareBecomes, spare_taken}
use Rattle.fkv_index.proofs.Index.{IsQuiet, quiet_same, index_quiet, quiet_grows}
use Rattle.fkv_index.proofs.Rows.{WorkKnows, SeekKnows, knows_more}
use Rattle.fkv_index.proofs.Begun.{IsBegun, at_rest, moved_begun, reads_load, load_same}
use Rattle.fkv_index.proofs.Steps.{becomes_same, actor_stepped, seek_true}

-- what holds of each item holds of each after one write of an item of which it holds
pub each_set : {X : Type 0} (P : X → Type 0) (xs : List X) (i : ℕ) (x : X) → P x → ((j : ℕ) (y : X) → slice_get xs j ≡ Some y → P y) → (j : ℕ) (y : X) → slice_get (slice_set xs i x) j ≡ Some y → P y
each_set P [] i x p all j y e = all j y e
each_set P (z ∷ zs) zero x p all zero y e = let same : y ≡ x = cc in rw same p
each_set P (z ∷ zs) zero x p all (suc j) y e = all (suc j) y e
each_set P (z ∷ zs) (suc i) x p all zero y e = all zero y e
each_set P (z ∷ zs) (suc i) x p all (suc j) y e = each_set P zs i x p (λ k w g. all (suc k) w g) j y e

-- an actor that changes may change its spare, and no other's
spare_there : (actors : List IndexActor) (actor : ℕ) (x y : IndexActor) → slice_get actors actor ≡ Some x → spare_at (slice_set actors actor y) actor ≡ y.finding.spare
spare_there [] actor x y got = cc
spare_there (z ∷ zs) zero x y got = refl
spare_there (z ∷ zs) (suc actor) x y got = spare_there zs actor x y got

spare_else : (actors : List IndexActor) (actor o : ℕ) (y : IndexActor) → (o ≡ actor → ⊥) → spare_at (slice_set actors actor y) o ≡ spare_at actors o
spare_else [] actor o y apart = refl
spare_else (z ∷ zs) zero zero y apart = absurd (apart refl)
spare_else (z ∷ zs) zero (suc o) y apart = refl
spare_else (z ∷ zs) (suc actor) zero y apart = refl
spare_else (z ∷ zs) (suc actor) (suc o) y apart = spare_else zs actor o y (λ e. apart (ap suc e))

becomes : (actors : List IndexActor) (actor : ℕ) (x y : IndexActor) → slice_get actors actor ≡ Some x → SpareBecomes (spare_at actors) (spare_at (slice_set actors actor y)) actor y.finding.spare
becomes actors actor x y got = record { its_spare = spare_there actors actor x y got; others = λ o apart. spare_else actors actor o y apart }

its_spare : (actors : List IndexActor) (actor : ℕ) (x : IndexActor) → slice_get actors actor ≡ Some x → spare_at actors actor ≡ x.finding.spare
its_spare actors actor x got = ap spare_in got

-- the index is in order, and each actor knows what it has to
pub record IsSound (w : IndexWorld) : Type 0 where
  pub its_index : IsIndexAt w
  pub rows : (actor : ℕ) (x : IndexActor) → slice_get w.now.actors actor ≡ Some x → WorkKnows w.now.places (bucket_words w.now.places w.now.words) w.lists x.finding x.work
  pub begun : (actor : ℕ) (x : IndexActor) → slice_get w.now.actors actor ≡ Some x → IsBegun x

-- what stands after an event
pub record HasHappened (w after : IndexWorld) : Type 0 where
  pub sound : IsSound after
  pub grows : Grows w.now.places w.now.words after.now.words w.lists after.lists
  pub same_places : after.now.places ≡ w.now.places

-- one actor's state changes, and no word
put_happened : (w : IndexWorld) (actor : ℕ) (x y : IndexActor) → slice_get w.now.actors actor ≡ Some x → IsSound w → y.finding.spare ≡ x.finding.spare → IsBegun y
    → WorkKnows w.now.places (bucket_words w.now.places w.now.words) w.lists y.finding y.work → HasHappened w (record w { now = record w.now { actors = slice_set w.now.actors actor y } })
put_happened w actor x y got sound same its knows =
    let p : Places = w.now.places in
    record {
      sound = record {
        its_index = index_quiet p w.now.words w.now.words w.lists (spare_at w.now.actors) (spare_at (slice_set w.now.actors actor y)) (quiet_same p w.now.words)
            (becomes_same (spare_at w.now.actors) (spare_at (slice_set w.now.actors actor y)) actor y.finding.spare (becomes w.now.actors actor x y got) (its_spare w.now.actors actor x got ∙ sym same)) sound.its_index;
        rows = each_set (λ z. WorkKnows p (bucket_words p w.now.words) w.lists z.finding z.work) w.now.actors actor y knows sound.rows;
        begun = each_set IsBegun w.now.actors actor y its sound.begun;
      };
      grows = quiet_grows p w.now.words w.now.words w.lists (quiet_same p w.now.words);
      same_places = refl;
    }

nothing_happened : (w : IndexWorld) → IsSound w → HasHappened w w
nothing_happened w sound = record { sound = sound; grows = quiet_grows w.now.places w.now.words w.now.words w.lists (quiet_same w.now.places w.now.words); same_places = refl }

moved_happened : (w : IndexWorld) (actor : ℕ) (found : Option IndexActor) → slice_get w.now.actors actor ≡ found → IsSound w → HasHappened w (record { now = moved w.now actor found; lists = lists_moved w.now w.lists found })
moved_happened w actor None got sound = nothing_happened w sound
moved_happened w actor (Some x) got sound =
    let p : Places = w.now.places in
    let here = actor_step p w.now.words x.finding x.work in
    let y : IndexActor = actor_after p w.now.words x x.work in
    let lists' : ℕ → List ℕ = lists_by w.now.words w.lists x.finding x.work in
    let stepped = actor_stepped p actor w.now.words w.lists (spare_at w.now.actors) x.finding x.work sound.its_index (its_spare w.now.actors actor x got) (sound.rows actor x got) in
    record {
      sound = record {
        its_index = stepped.its_index (spare_at (slice_set w.now.actors actor y)) (becomes w.now.actors actor x y got);
        rows = each_set (λ z. WorkKnows p (bucket_words p here.words) lists' z.finding z.work) w.now.actors actor y stepped.its_row
            (λ o z at_o. knows_more p w.now.words here.words w.lists lists' (spare_at w.now.actors) z.finding z.work sound.its_index stepped.its_grows (sound.rows o z at_o));
        begun = each_set IsBegun w.now.actors actor y (moved_begun p w.now.words x x.work (sound.begun actor x got)) sound.begun;
      };
      grows = stepped.its_grows;
      same_places = refl;
    }

both_true : (a b : Bool) → (a && b) ≡ true → (a ≡ true) × (b ≡ true)
both_true true b e = (refl, e)
both_true false b e = cc

begun_happened : (w : IndexWorld) (actor : ℕ) (home : Home) (purpose : Purpose) (found : Option IndexActor) → slice_get w.now.actors actor ≡ found → IsSound w
    → HasHappened w (record w { now = find_begun w.now actor home purpose found })
begun_happened w actor home purpose None got sound = nothing_happened w sound
begun_happened w actor home purpose (Some x) got sound = tested (nat_lt home.bucket p.buckets) (nat_lt home.tag (2 ^ 15)) refl refl
  where
    p : Places
    p = w.now.places

    few_spare : x.finding.spare ≤ w.now.places.overflow
    few_spare = elim (truth (nat_le 1 x.finding.spare)) [
      | inl e ↦
          let some : 1 ≤ x.finding.spare = grind (arith, nat_tests, e) in
          let its = its_spare w.now.actors actor x got in
          let high = spare_taken actor sound.its_index.owned (subst (λ n. 1 ≤ n) (sym its) some) in
          let few = sound.its_index.few_taken in
          omega (arith, its, high, few)
      | inr e ↦ grind (arith, nat_tests, e)
    ]

    same : is_seeking x.finding.step ≡ false → spare_of w.now.places x.spare ≡ x.finding.spare
    same rests =
        let its = (sound.begun actor x got).its_spare (at_rest x.finding.step rests) in
        let e : nat_le x.finding.spare w.now.places.overflow ≡ true = grind (arith, nat_tests, few_spare) in
        rw (its, e) refl

    tested : (a b : Bool) → nat_lt home.bucket w.now.places.buckets ≡ a → nat_lt home.tag (2 ^ 15) ≡ b
        → HasHappened w (record w { now = if a && b && not (is_seeking x.finding.step) && not (is_publishing x.work) then record w.now { actors = slice_set w.now.actors actor (record x { finding = first_finding w.now.places home purpose x.spare; work = Seeks; purpose = purpose }) } else w.now })
    tested true true d e = begins (is_seeking x.finding.step) refl (not (is_publishing x.work))
      where
        its_home : IsHome w.now.places home
        its_home = record { few = grind (arith, nat_tests, d); fits = grind (arith, nat_tests, e) }

        begins : (a : Bool) → is_seeking x.finding.step ≡ a → (b : Bool) → HasHappened w (record w { now = if true && true && not a && b then record w.now { actors = slice_set w.now.actors actor (record x { finding = first_finding w.now.places home purpose x.spare; work = Seeks; purpose = purpose }) } else w.now })
        begins false rests true = put_happened w actor x (record x { finding = first_finding w.now.places home purpose x.spare; work = Seeks; purpose = purpose }) got sound (same rests) (record { its_spare = λ e. cc; its_reading = λ read. record { never = ap linking_for read; loads = tt } })
            (omega arith, record { its_home = its_home; bucket = home.bucket; its_base = refl; passed = passed_none w.now.places.buckets (bucket_words w.now.places w.now.words) home.tag home.bucket (w.lists home.bucket); depth = 0; deep = deep_first w.now.places.buckets home.bucket (w.lists home.bucket); budget = omega arith })
        begins false rests false = nothing_happened w sound
        begins true seeks b = nothing_happened w sound
    tested true false d e = nothing_happened w sound
    tested false b d e = nothing_happened w sound

-- an entry of an address and a tag
new_tag : (addr tag : ℕ) → addr < 2 ^ 48 → entry_tag (new_entry addr tag) ≡ tag
new_tag addr tag low = omega (arith, low)

new_addr : (addr tag : ℕ) → addr < 2 ^ 48 → entry_addr (new_entry addr tag) ≡ addr
new_addr addr tag low = omega (arith, low)

publish_happened : (w : IndexWorld) (actor addr : ℕ) (found : Option IndexActor) → slice_get w.now.actors actor ≡ found → IsSound w
    → HasHappened w (record w { now = publish_begun w.now actor addr found })
publish_happened w actor addr None got sound = nothing_happened w sound
publish_happened w actor addr (Some x) got sound = put_happened w actor x (record x { work = work_begun x.finding addr x.work }) got sound refl (let its = sound.begun actor x got in record { its_spare = its.its_spare; its_reading = its.its_reading }) (begun x.work (sound.rows actor x got))
  where
    begun : (work : SlotWork) → WorkKnows w.now.places (bucket_words w.now.places w.now.words) w.lists x.finding work → WorkKnows w.now.places (bucket_words w.now.places w.now.words) w.lists x.finding (work_begun x.finding addr work)
    begun Seeks knows = knows
    begun (Enters step) knows = knows
    begun (Holds place word) knows = tested (nat_lt (entry_addr word) addr) (nat_lt addr (2 ^ 48)) refl refl
      where
        tested : (a b : Bool) → nat_lt (entry_addr word) addr ≡ a → nat_lt addr (2 ^ 48) ≡ b
            → WorkKnows w.now.places (bucket_words w.now.places w.now.words) w.lists x.finding (if a && b then Enters (publish.SwapsEntry place word (new_entry addr x.finding.home.tag)) else Holds place word)
        tested true true d e =
            let above : entry_addr word < addr = grind (arith, nat_tests, d) in
            let low : addr < 2 ^ 48 = grind (arith, nat_tests, e) in
            let its = new_addr addr x.finding.home.tag low in
            (knows, new_tag addr x.finding.home.tag low, omega (arith, its, above))
        tested true false d e = knows
        tested false b d e = knows

-- what others may write
neither : (a b : Bool) → (a || b) ≡ false → (a ≡ false) × (b ≡ false)
neither false b e = (refl, e)
neither true b e = cc

pub changed_quiet : (p : Places) (words : List ℕ) (place word : ℕ) → frames_start p ≤ length words → is_barred p words place word ≡ false → IsQuiet p words (slice_set words place word)
changed_quiet p words place word enough free = record {
  same_length = length-set words place word;
  same_taken = get_or-set_other words place 10 word 0 (λ e. absurd (grind (arith, nat_tests, both.0, sym e)));
  same_slots = λ m i real low. set_outside p words place m i word (λ e. off_slot m i real low e (is_link_place p place) refl both.1);
  same_links = λ m real. elim (same_or_not place (bucket_place p m 7)) [
    | inl e ↦ same_link m real e
    | inr e ↦ ap link_of (set_outside p words place m 7 word e)
  ];
}
  where
    both : ((place == 10) ≡ false) × ((is_bucket_place p place && not (is_link_place p place && link_of word == link_of (word_at words place))) ≡ false)
    both = neither (place == 10) (is_bucket_place p place && not (is_link_place p place && link_of word == link_of (word_at words place))) free

    in_buckets : (m i : ℕ) → m < p.buckets + p.overflow → i < 8 → place ≡ bucket_place p m i → is_bucket_place p place ≡ true
    in_buckets m i real low e =
        let a : nat_le (bucket_place p 0 0) place ≡ true = grind (arith, nat_tests, e) in
        let below : place < frames_start p = omega (arith, e, real, low) in
        let b : nat_lt place (frames_start p) ≡ true = grind (arith, nat_tests, below) in
        rw (a, b) refl

    then_false : (a b : Bool) → a ≡ true → (a && not b) ≡ false → b ≡ true
    then_false true true x y = refl
    then_false true false x y = cc
    then_false false b x y = cc

    off_slot : (m i : ℕ) → m < p.buckets + p.overflow → i < 7 → place ≡ bucket_place p m i → (b : Bool) → is_link_place p place ≡ b → (is_bucket_place p place && not (is_link_place p place && link_of word == link_of (word_at words place))) ≡ false → ⊥
    off_slot m i real low e b links bars =
        let t = then_false (is_bucket_place p place) (is_link_place p place && link_of word == link_of (word_at words place)) (in_buckets m i real (omega (arith, low)) e) bars in
        let at_link = (both_true (is_link_place p place) (link_of word == link_of (word_at words place)) t).0 in
        let seventh : (place - bucket_place p 0 0) % 8 ≡ 7 = eqb-true ((place - bucket_place p 0 0) % 8) 7 at_link in
        omega (arith, seventh, e, low)

    same_link : (m : ℕ) → m < p.buckets + p.overflow → place ≡ bucket_place p m 7 → link_of (bucket_words p (slice_set words place word) m 7) ≡ link_of (bucket_words p words m 7)
    same_link m real e =
        let t = then_false (is_bucket_place p place) (is_link_place p place && link_of word == link_of (word_at words place)) (in_buckets m 7 real (omega arith) e) both.1 in
        let same = (both_true (is_link_place p place) (link_of word == link_of (word_at words place)) t).1 in
        let kept : link_of word ≡ link_of (word_at words place) = eqb-true (link_of word) (link_of (word_at words place)) same in
        let new : bucket_words p (slice_set words place word) m 7 ≡ word = subst (λ x. bucket_words p (slice_set words x word) m 7 ≡ word) (sym e) (set_there p words m 7 word enough real (omega arith)) in
        ap link_of new ∙ kept ∙ ap (λ x. link_of (word_at words x)) e

changed_happened : (w : IndexWorld) (place word : ℕ) → is_barred w.now.places w.now.words place word ≡ false → IsSound w → HasHappened w (record w { now = record w.now { words = slice_set w.now.words place word } })
changed_happened w place word free sound =
    let p : Places = w.now.places in
    let after : List ℕ = slice_set w.now.words place word in
    let quiet : IsQuiet p w.now.words after = changed_quiet p w.now.words place word sound.its_index.enough_words free in
    let grown : Grows p w.now.words after w.lists w.lists = quiet_grows p w.now.words after w.lists quiet in
    record {
      sound = record {
        its_index = index_quiet p w.now.words after w.lists (spare_at w.now.actors) (spare_at w.now.actors) quiet (λ o. refl) sound.its_index;
        rows = λ actor x got. knows_more p w.now.words after w.lists w.lists (spare_at w.now.actors) x.finding x.work sound.its_index grown (sound.rows actor x got);
        begun = sound.begun;
      };
      grows = grown;
      same_places = refl;
    }

pub event_happened : (w : IndexWorld) (event : IndexEvent) → IsSound w → HasHappened w (index_happens w event)
unfolding index_happens
event_happened w (BeginsFind actor home purpose) sound = begun_happened w actor home purpose (slice_get w.now.actors actor) refl sound
event_happened w (BeginsPublish actor addr) sound = publish_happened w actor addr (slice_get w.now.actors actor) refl sound
event_happened w (Moves actor) sound = moved_happened w actor (slice_get w.now.actors actor) refl sound
event_happened w (Changes place word) sound = cases (is_barred w.now.places w.now.words place word) refl
  where
    cases : (b : Bool) → is_barred w.now.places w.now.words place word ≡ b → HasHappened w (record w { now = if b then w.now else record w.now { words = slice_set w.now.words place word } })
    cases true e = nothing_happened w sound
    cases false e = changed_happened w place word e sound

pub run_sound : (opening : IndexWorld) (events : List IndexEvent) → IsSound opening → IsSound (index_run opening events)
unfolding index_run
run_sound opening [] sound = sound
run_sound opening (event ∷ before) sound = (event_happened (index_run opening before) event (run_sound opening before sound)).sound

each_rested : (P : IndexActor → Type 0) → P rested_actor → (n actor : ℕ) (x : IndexActor) → slice_get (replicate n rested_actor) actor ≡ Some x → P x
each_rested P its zero actor x e = cc
each_rested P its (suc n) zero x e = let same : x ≡ rested_actor = cc in rw same its
each_rested P its (suc n) (suc actor) x e = each_rested P its n actor x e

pub opening_sound : (p : Places) (words : List ℕ) (lists : ℕ → List ℕ) (actors : ℕ) → IsIndexAt (index_opening p words lists actors) → IsSound (index_opening p words lists actors)
opening_sound p words lists actors index = record {
  its_index = index;
  rows = each_rested (λ x. WorkKnows p (bucket_words p words) lists x.finding x.work) tt actors;
  begun = each_rested IsBegun (record { its_spare = λ e. refl; its_reading = λ read. record { never = refl; loads = tt } }) actors;
}

pub sound_answers : (w : IndexWorld) → IsSound w → AnswersTrue w
sound_answers w sound actor x got seeks =
    let row : SeekKnows w.now.places (bucket_words w.now.places w.now.words) w.lists x.finding x.finding.step = subst (WorkKnows w.now.places (bucket_words w.now.places w.now.words) w.lists x.finding) seeks (sound.rows actor x got) in
    seek_true w.now.places w.now.words w.lists (spare_at w.now.actors) x.finding x.finding.step sound.its_index row

pub sound_slots : (w : IndexWorld) → IsSound w → HaveSlots w
sound_slots w sound actor x place word got holds = subst (WorkKnows w.now.places (bucket_words w.now.places w.now.words) w.lists x.finding) holds (sound.rows actor x got)

pub sound_spares : (w : IndexWorld) → IsSound w → SparesTold w
sound_spares w sound actor x got rests = (sound.begun actor x got).its_spare rests ∙ sym (its_spare w.now.actors actor x got)

pub sound_reads : (w : IndexWorld) → IsSound w → ReadsLoad w
unfolding index_happens
sound_reads w sound actor x got seeks read =
    let loads = reads_load x.finding x.finding.step ((sound.begun actor x got).its_reading read).loads in
    (loads, rw (got, seeks) (load_same w.now.words (find_ask x.finding) loads))
