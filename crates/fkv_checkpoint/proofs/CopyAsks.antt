-- A copy has fewer asks left after each reply, and its triples have room.
use Rattle.std.proofs.Common.{◌≡◌, ℕ, ◌+◌, ◌-◌, ◌*◌, ◌%◌, ◌<◌, ◌≤◌, List, [], ◌∷◌, ◌++◌, length, refl, sym, subst, arith, Bool, true, false}
use Rattle.std.specs.Prelude.{nat_lt, nat_le, ◌==◌, ◌&&◌, ◌||◌, if◌then◌else◌}
use Rattle.std.proofs.lemmas.Bool.{eqb-false}
use Rattle.std.proofs.lemmas.Bool.Decides.{nat_tests}
use Rattle.std.proofs.lemmas.List.{length-append}
use Rattle.fkv_plane.specs.declared.places.Places.{Places}
use Rattle.fkv_plane.specs.Places.{bucket_place, overflow_place}
use Rattle.fkv_index.specs.Slots.{is_entry, entry_addr, entry_tag, link_of}
use Rattle.fkv_checkpoint.specs.declared.copying.CopyStep.{CopyStep}
use Rattle.fkv_checkpoint.specs.declared.copying.CopyStep.TheVariants.{Ended, LoadsSlot, LoadsLink}
use Rattle.fkv_checkpoint.specs.declared.copying.Copying.{Copying}
use Rattle.fkv_checkpoint.specs.Triples.{CopiedEntry}
use Rattle.fkv_checkpoint.specs.Copying.{bucket_entered, first_copying, link_led, copy_step_next, copy_next, slot_copied, copied_at, step_asks_left, copy_asks_left, step_slots_left, slots_left, most_at_once, is_parted, buckets_behind, step_rests, copy_rests, behind_in_part, step_part_left, part_asks_left, IsStepInRange}

last_true : (a b c : Bool) → (a && b && c) ≡ true → c ≡ true
last_true true true c e = e
last_true true false c e = cc
last_true false b c e = cc

entered_asks : (p : Places) (c : Copying) (bucket : ℕ) → copy_asks_left p (bucket_entered p c bucket) ≤ 8 * c.links + 8 * (p.buckets - bucket)
unfolding step_asks_left
entered_asks p c bucket = cases (nat_lt bucket p.buckets) refl
  where
    cases : (b : Bool) → nat_lt bucket p.buckets ≡ b → copy_asks_left p (if b then record c { bucket = bucket; base = bucket_place p bucket 0; step = LoadsSlot 0 } else record c { step = Ended }) ≤ 8 * c.links + 8 * (p.buckets - bucket)
    cases true e = let low : bucket < p.buckets = grind (arith, nat_tests, e) in omega (arith, low)
    cases false e = omega arith

link_asks : (p : Places) (c : Copying) (number : ℕ) → copy_asks_left p (link_led p c number) ≤ 8 * c.links + 8 * (p.buckets - (c.bucket + 1))
unfolding step_asks_left
link_asks p c number = cases (nat_lt 0 number && nat_le number p.overflow && nat_lt 0 c.links) refl
  where
    cases : (b : Bool) → (nat_lt 0 number && nat_le number p.overflow && nat_lt 0 c.links) ≡ b
        → copy_asks_left p (if b then record c { base = overflow_place p number 0; links = c.links - 1; step = LoadsSlot 0 } else bucket_entered p c (c.bucket + 1)) ≤ 8 * c.links + 8 * (p.buckets - (c.bucket + 1))
    cases true e = let t = last_true (nat_lt 0 number) (nat_le number p.overflow) (nat_lt 0 c.links) e in let some : 0 < c.links = grind (arith, nat_tests, t) in omega (arith, some)
    cases false e = entered_asks p c (c.bucket + 1)

step_fewer : (p : Places) (c : Copying) (step : CopyStep) (reply : ℕ) → c.step ≡ step → copy_asks_left p (copy_step_next p c step reply) ≤ step_asks_left p c step - 1
unfolding copy_step_next step_asks_left
step_fewer p c Ended reply its = let none : copy_asks_left p c ≡ 0 = rw its refl in omega (arith, none)
step_fewer p c (LoadsSlot slot) reply its = cases (nat_lt (slot + 1) 7) refl
  where
    cases : (b : Bool) → nat_lt (slot + 1) 7 ≡ b → step_asks_left p (record c { step = if b then LoadsSlot (slot + 1) else LoadsLink }) (if b then LoadsSlot (slot + 1) else LoadsLink) ≤ step_asks_left p c (LoadsSlot slot) - 1
    cases true e = let low : slot + 1 < 7 = grind (arith, nat_tests, e) in omega (arith, low)
    cases false e = omega arith
step_fewer p c LoadsLink reply its = let h = link_asks p c (link_of reply) in omega (arith, h)

pub copy_fewer : (p : Places) (c : Copying) (reply : ℕ) → copy_asks_left p (copy_next p c reply) ≤ copy_asks_left p c - 1
copy_fewer p c reply = step_fewer p c c.step reply refl

pub copy_bounded : (p : Places) → copy_asks_left p (first_copying p) ≤ 8 * (p.buckets + p.overflow)
copy_bounded p = let h = entered_asks p (record { bucket = 0; base = 0; links = p.overflow; step = Ended }) 0 in omega (arith, h)

entered_slots : (p : Places) (c : Copying) (bucket : ℕ) → slots_left p (bucket_entered p c bucket) ≤ 7 * c.links + 7 * (p.buckets - bucket)
entered_slots p c bucket = cases (nat_lt bucket p.buckets) refl
  where
    cases : (b : Bool) → nat_lt bucket p.buckets ≡ b → slots_left p (if b then record c { bucket = bucket; base = bucket_place p bucket 0; step = LoadsSlot 0 } else record c { step = Ended }) ≤ 7 * c.links + 7 * (p.buckets - bucket)
    cases true e = let low : bucket < p.buckets = grind (arith, nat_tests, e) in omega (arith, low)
    cases false e = omega arith

pub first_slots : (p : Places) → slots_left p (first_copying p) ≤ 7 * (p.buckets + p.overflow)
first_slots p = let h = entered_slots p (record { bucket = 0; base = 0; links = p.overflow; step = Ended }) 0 in omega (arith, h)

link_slots : (p : Places) (c : Copying) (number : ℕ) → slots_left p (link_led p c number) ≤ 7 * c.links + 7 * (p.buckets - (c.bucket + 1))
link_slots p c number = cases (nat_lt 0 number && nat_le number p.overflow && nat_lt 0 c.links) refl
  where
    cases : (b : Bool) → (nat_lt 0 number && nat_le number p.overflow && nat_lt 0 c.links) ≡ b
        → slots_left p (if b then record c { base = overflow_place p number 0; links = c.links - 1; step = LoadsSlot 0 } else bucket_entered p c (c.bucket + 1)) ≤ 7 * c.links + 7 * (p.buckets - (c.bucket + 1))
    cases true e = let t = last_true (nat_lt 0 number) (nat_le number p.overflow) (nat_lt 0 c.links) e in let some : 0 < c.links = grind (arith, nat_tests, t) in omega (arith, some)
    cases false e = entered_slots p c (c.bucket + 1)

copied_few : (bucket word : ℕ) → length (slot_copied bucket word) ≤ 1
unfolding slot_copied
copied_few bucket word = cases (is_entry word)
  where
    cases : (b : Bool) → length {A = CopiedEntry} (if b then record { home = record { bucket = bucket; tag = entry_tag word }; addr = entry_addr word } ∷ [] else []) ≤ 1
    cases true = omega arith
    cases false = omega arith

step_slots : (p : Places) (c : Copying) (step : CopyStep) (reply : ℕ) → c.step ≡ step → IsStepInRange p c step → length (copied_at c step reply) + slots_left p (copy_step_next p c step reply) ≤ step_slots_left p c step
unfolding copy_step_next copied_at
step_slots p c Ended reply its range = let none : slots_left p c ≡ 0 = rw its refl in omega (arith, none)
step_slots p c (LoadsSlot slot) reply its range = cases (nat_lt (slot + 1) 7) refl
  where
    cases : (b : Bool) → nat_lt (slot + 1) 7 ≡ b
        → length (slot_copied c.bucket reply) + step_slots_left p (record c { step = if b then LoadsSlot (slot + 1) else LoadsLink }) (if b then LoadsSlot (slot + 1) else LoadsLink) ≤ step_slots_left p c (LoadsSlot slot)
    cases true e = let low : slot + 1 < 7 = grind (arith, nat_tests, e) in let few = copied_few c.bucket reply in omega (arith, low, few)
    cases false e = let low = range.0 in let few = copied_few c.bucket reply in omega (arith, low, few)
step_slots p c LoadsLink reply its range = let h = link_slots p c (link_of reply) in omega (arith, h)

pub copy_slots : (p : Places) (c : Copying) (reply : ℕ) → IsStepInRange p c c.step → length (copied_at c c.step reply) + slots_left p (copy_next p c reply) ≤ slots_left p c
copy_slots p c reply range = step_slots p c c.step reply refl range

-- what may still come has room after a reply too
pub fits_after : (p : Places) (c next : Copying) (reply room : ℕ) (held : List CopiedEntry) → next ≡ copy_next p c reply → IsStepInRange p c c.step → length held + slots_left p c ≤ room → length (held ++ copied_at c c.step reply) + slots_left p next ≤ room
fits_after p c next reply room held its range fits =
    let few = copy_slots p c reply range in
    let more = length-append held (copied_at c c.step reply) in
    subst (λ x. length (held ++ copied_at c c.step reply) + slots_left p x ≤ room) (sym its) (omega (arith, few, fits, more))

-- ---- up to the next rest
-- one bucket fewer is behind the next one, where it doesn't rest there
one_less : (parted : Bool) (next behind : ℕ) → next + 1 ≡ behind → (parted && ((next + 1) % most_at_once == 0)) ≡ false
    → 8 + 8 * (if parted then next % most_at_once else next) ≤ 8 * (if parted then behind % most_at_once else behind)
one_less false next behind same rests = omega (arith, same)
one_less true next behind same rests = let no = eqb-false ((next + 1) % most_at_once) 0 rests in omega (arith, same, no)

entered_part : (p : Places) (c : Copying) → copy_rests p (bucket_entered p c (c.bucket + 1)) ≡ false → part_asks_left p (bucket_entered p c (c.bucket + 1)) ≤ 8 * behind_in_part p c
unfolding step_rests step_part_left
entered_part p c = cases (nat_lt (c.bucket + 1) p.buckets) refl
  where
    there : Bool → Copying
    there b = if b then record c { bucket = c.bucket + 1; base = bucket_place p (c.bucket + 1) 0; step = LoadsSlot 0 } else record c { step = Ended }

    cases : (b : Bool) → nat_lt (c.bucket + 1) p.buckets ≡ b → copy_rests p (there b) ≡ false → part_asks_left p (there b) ≤ 8 * behind_in_part p c
    cases true e rests =
        let low : c.bucket + 1 < p.buckets = grind (arith, nat_tests, e) in
        one_less (is_parted p) (c.links + (p.buckets - (c.bucket + 1 + 1))) (buckets_behind p c) (omega (arith, low)) rests
    cases false e rests = omega arith

link_part : (p : Places) (c : Copying) (number : ℕ) → copy_rests p (link_led p c number) ≡ false → part_asks_left p (link_led p c number) ≤ 8 * behind_in_part p c
unfolding step_rests step_part_left
link_part p c number = cases (nat_lt 0 number && nat_le number p.overflow && nat_lt 0 c.links) refl
  where
    there : Bool → Copying
    there b = if b then record c { base = overflow_place p number 0; links = c.links - 1; step = LoadsSlot 0 } else bucket_entered p c (c.bucket + 1)

    cases : (b : Bool) → (nat_lt 0 number && nat_le number p.overflow && nat_lt 0 c.links) ≡ b → copy_rests p (there b) ≡ false → part_asks_left p (there b) ≤ 8 * behind_in_part p c
    cases true e rests =
        let t = last_true (nat_lt 0 number) (nat_le number p.overflow) (nat_lt 0 c.links) e in
        let some : 0 < c.links = grind (arith, nat_tests, t) in
        one_less (is_parted p) (c.links - 1 + (p.buckets - (c.bucket + 1))) (buckets_behind p c) (omega (arith, some)) rests
    cases false e rests = entered_part p c rests

step_part : (p : Places) (c : Copying) (step : CopyStep) (reply : ℕ) → c.step ≡ step → copy_rests p (copy_step_next p c step reply) ≡ false → part_asks_left p (copy_step_next p c step reply) ≤ step_part_left p c step - 1
unfolding copy_step_next step_part_left
step_part p c Ended reply its rests = let none : part_asks_left p c ≡ 0 = rw its refl in omega (arith, none)
step_part p c (LoadsSlot slot) reply its rests = cases (nat_lt (slot + 1) 7) refl
  where
    cases : (b : Bool) → nat_lt (slot + 1) 7 ≡ b → step_part_left p (record c { step = if b then LoadsSlot (slot + 1) else LoadsLink }) (if b then LoadsSlot (slot + 1) else LoadsLink) ≤ step_part_left p c (LoadsSlot slot) - 1
    cases true e = let low : slot + 1 < 7 = grind (arith, nat_tests, e) in omega (arith, low)
    cases false e = omega arith
step_part p c LoadsLink reply its rests = let h = link_part p c (link_of reply) rests in omega (arith, h)

pub part_fewer : (p : Places) (c : Copying) (reply : ℕ) → copy_rests p (copy_next p c reply) ≡ false → part_asks_left p (copy_next p c reply) ≤ part_asks_left p c - 1
part_fewer p c reply rests = step_part p c c.step reply refl rests

neither : (a b : Bool) → (a || b) ≡ false → (a ≡ false) × (b ≡ false)
neither true b e = cc
neither false b e = (refl, e)

-- at its begin, and where it rests
first_behind : (p : Places) (parted : Bool) → is_parted p ≡ parted → 8 + 8 * (if parted then (p.overflow + (p.buckets - 1)) % most_at_once else p.overflow + (p.buckets - 1)) ≤ 8 * (most_at_once + most_at_once)
first_behind p true e = omega arith
first_behind p false e =
    let both = neither (nat_lt most_at_once p.buckets) (nat_lt most_at_once p.overflow) e in
    let few : p.buckets ≤ most_at_once = grind (arith, nat_tests, both.0) in
    let short : p.overflow ≤ most_at_once = grind (arith, nat_tests, both.1) in
    omega (arith, few, short)

pub part_bounded : (p : Places) → part_asks_left p (first_copying p) ≤ 8 * (most_at_once + most_at_once)
unfolding step_part_left
part_bounded p = cases (nat_lt 0 p.buckets)
  where
    cases : (b : Bool) → part_asks_left p (if b then record { bucket = 0; base = bucket_place p 0 0; links = p.overflow; step = LoadsSlot 0 } else record { bucket = 0; base = 0; links = p.overflow; step = Ended }) ≤ 8 * (most_at_once + most_at_once)
    cases true = first_behind p (is_parted p) refl
    cases false = omega arith

middle_true : (a b c : Bool) → (a && b && c) ≡ true → b ≡ true
middle_true true true c e = refl
middle_true true false c e = cc
middle_true false b c e = cc

few_behind : (parted : Bool) (slot behind : ℕ) → parted ≡ true → 2 + (6 - slot) + 8 * (if parted then behind % most_at_once else behind) ≤ 8 * most_at_once
few_behind true slot behind e = omega arith
few_behind false slot behind e = cc

rests_few : (p : Places) (c : Copying) (step : CopyStep) → step_rests p c step ≡ true → step_part_left p c step ≤ 8 * most_at_once
unfolding step_rests step_part_left
rests_few p c Ended e = cc
rests_few p c (LoadsSlot slot) e = few_behind (is_parted p) slot (buckets_behind p c) (middle_true (slot == 0) (is_parted p) ((buckets_behind p c + 1) % most_at_once == 0) e)
rests_few p c LoadsLink e = cc

pub rests_bounded : (p : Places) (c : Copying) → copy_rests p c ≡ true → part_asks_left p c ≤ 8 * most_at_once
rests_bounded p c e = rests_few p c c.step e

-- one of few buckets rests nowhere
not_parted : (p : Places) → p.buckets ≤ most_at_once → p.overflow ≤ most_at_once → is_parted p ≡ false
not_parted p few short = by_tests (nat_lt most_at_once p.buckets) (nat_lt most_at_once p.overflow) refl refl
  where
    by_tests : (a b : Bool) → nat_lt most_at_once p.buckets ≡ a → nat_lt most_at_once p.overflow ≡ b → (a || b) ≡ false
    by_tests true b one other = let no : ⊥ = grind (arith, nat_tests, one, few) in absurd no
    by_tests false true one other = let no : ⊥ = grind (arith, nat_tests, other, short) in absurd no
    by_tests false false one other = refl

no_middle : (a b c : Bool) → b ≡ false → (a && b && c) ≡ false
no_middle true true c e = cc
no_middle true false c e = refl
no_middle false b c e = refl

step_goes_on : (p : Places) (c : Copying) (step : CopyStep) → is_parted p ≡ false → step_rests p c step ≡ false
unfolding step_rests
step_goes_on p c Ended e = refl
step_goes_on p c (LoadsSlot slot) e = no_middle (slot == 0) (is_parted p) ((buckets_behind p c + 1) % most_at_once == 0) e
step_goes_on p c LoadsLink e = refl

pub rests_in_parts : (p : Places) (c : Copying) → p.buckets ≤ most_at_once → p.overflow ≤ most_at_once → copy_rests p c ≡ false
rests_in_parts p c few short = step_goes_on p c c.step (not_parted p few short)
