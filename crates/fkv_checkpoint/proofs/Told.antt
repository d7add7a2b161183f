-- A copy has what it was told.
use Rattle.std.proofs.Common.{◌≡◌, ℕ, ◌+◌, ◌-◌, ◌*◌, ◌%◌, ◌^◌, ◌<◌, ◌≤◌, List, [], ◌∷◌, ◌++◌, length, refl, sym, ap, ◌∙◌, arith, Bool, true, false}
use Rattle.std.specs.Prelude.{nat_lt, nat_le, ◌&&◌, if◌then◌else◌, map, ⊤}
use Rattle.std.specs.List.{flat_map}
use Rattle.std.proofs.lemmas.Bool.Decides.{nat_tests}
use Rattle.std.proofs.lemmas.List.{map-append, length-append}
use Rattle.std.proofs.lemmas.List.Concat.{flat_map-append}
use Rattle.fkv_plane.specs.declared.places.Places.{Places}
use Rattle.fkv_plane.specs.Places.{bucket_place, overflow_place}
use Rattle.fkv_record.specs.declared.triples.Triple.{Triple}
use Rattle.fkv_record.specs.Layout.{triple_bytes}
use Rattle.fkv_index.specs.Slots.{entry_addr, entry_tag, link_of}
use Rattle.fkv_index.specs.IndexWorld.{is_link_place}
use Rattle.fkv_checkpoint.specs.declared.copying.CopyStep.{CopyStep}
use Rattle.fkv_checkpoint.specs.declared.copying.CopyStep.TheVariants.{Ended, LoadsSlot, LoadsLink}
use Rattle.fkv_checkpoint.specs.declared.copying.Copying.{Copying}
use Rattle.fkv_checkpoint.specs.Triples.{CopiedEntry, copied_of, copied_bytes, all_bytes}
use Rattle.fkv_checkpoint.specs.Copying.{bucket_entered, copy_step_ask, link_led, copy_step_next, copy_next, slot_copied, copied_at, step_asks_left, copy_asks_left, slots_left, IsStepInRange}
use Rattle.fkv_checkpoint.specs.Copied.{copying_after, copied_after, entry_told, entries_told, CopiesAllTold, CopyEnds, AreTriplesOf, CopiesTriples, CopyFits}
use Rattle.fkv_checkpoint.proofs.Buffers.{triple_spelled}
use Rattle.fkv_checkpoint.proofs.CopyAsks.{copy_fewer, copy_bounded, first_slots, copy_slots}

-- it loads words of a bucket
abbrev pub IsAt : Places → Copying → CopyStep → Type 0
IsAt p c Ended = ⊤
IsAt p c (LoadsSlot slot) = (slot < 7) × (c.bucket < p.buckets) × ((m : ℕ) × (c.base ≡ bucket_place p m 0))
IsAt p c LoadsLink = (c.bucket < p.buckets) × ((m : ℕ) × (c.base ≡ bucket_place p m 0))

abbrev pub StandsAt : Places → Copying → Type 0
StandsAt p c = IsAt p c c.step

entered_at : (p : Places) (c : Copying) (bucket : ℕ) → StandsAt p (bucket_entered p c bucket)
entered_at p c bucket = cases (nat_lt bucket p.buckets) refl
  where
    cases : (b : Bool) → nat_lt bucket p.buckets ≡ b → StandsAt p (if b then record c { bucket = bucket; base = bucket_place p bucket 0; step = LoadsSlot 0 } else record c { step = Ended })
    cases true e = (omega arith, grind (arith, nat_tests, e), (bucket, refl))
    cases false e = tt

link_at : (p : Places) (c : Copying) (number : ℕ) → c.bucket < p.buckets → StandsAt p (link_led p c number)
link_at p c number low = cases (nat_lt 0 number && nat_le number p.overflow && nat_lt 0 c.links)
  where
    cases : (b : Bool) → StandsAt p (if b then record c { base = overflow_place p number 0; links = c.links - 1; step = LoadsSlot 0 } else bucket_entered p c (c.bucket + 1))
    cases true = (omega arith, low, (p.buckets + (number - 1), refl))
    cases false = entered_at p c (c.bucket + 1)

step_at : (p : Places) (c : Copying) (step : CopyStep) (reply : ℕ) → c.step ≡ step → IsAt p c step → StandsAt p (copy_step_next p c step reply)
unfolding copy_step_next
step_at p c Ended reply its stands = rw its tt
step_at p c (LoadsSlot slot) reply its stands = cases (nat_lt (slot + 1) 7) refl
  where
    cases : (b : Bool) → nat_lt (slot + 1) 7 ≡ b → IsAt p (record c { step = if b then LoadsSlot (slot + 1) else LoadsLink }) (if b then LoadsSlot (slot + 1) else LoadsLink)
    cases true e = (grind (arith, nat_tests, e), stands.1, stands.2)
    cases false e = (stands.1, stands.2)
step_at p c LoadsLink reply its stands = link_at p c (link_of reply) stands.0

pub next_at : (p : Places) (c : Copying) (reply : ℕ) → StandsAt p c → StandsAt p (copy_next p c reply)
next_at p c reply stands = step_at p c c.step reply refl stands

pub after_at : (p : Places) (replies : List ℕ) → StandsAt p (copying_after p replies)
unfolding copying_after
after_at p [] = entered_at p (record { bucket = 0; base = 0; links = p.overflow; step = Ended }) 0
after_at p (reply ∷ before) = next_at p (copying_after p before) reply (after_at p before)

-- the place tells which word of its bucket is loaded
pub word_number : (p : Places) (base m slot : ℕ) → base ≡ bucket_place p m 0 → slot < 8 → (base + slot - bucket_place p 0 0) % 8 ≡ slot
word_number p base m slot its low = let e : base + slot - bucket_place p 0 0 ≡ 8 * m + slot = omega (arith, its) in omega (arith, e, low)

step_told : (p : Places) (c : Copying) (step : CopyStep) (reply : ℕ) → IsAt p c step → entry_told p c.bucket (copy_step_ask c.base step) reply ≡ copied_at c step reply
unfolding copy_step_ask copied_at
step_told p c Ended reply stands = refl
step_told p c (LoadsSlot slot) reply stands =
    let low = stands.0 in
    let n = word_number p c.base stands.2.0 slot stands.2.1 (omega (arith, low)) in
    let e : is_link_place p (c.base + slot) ≡ false = grind (arith, nat_tests, n, low) in
    rw e refl
step_told p c LoadsLink reply stands =
    let n = word_number p c.base stands.1.0 7 stands.1.1 (omega arith) in
    let e : is_link_place p (c.base + 7) ≡ true = grind (arith, nat_tests, n) in
    rw e refl

pub copies_all : CopiesAllTold
unfolding copied_after entries_told
copies_all p [] = refl
copies_all p (reply ∷ before) =
    ap (λ x. x ++ copied_at (copying_after p before) (copying_after p before).step reply) (copies_all p before)
    ∙ ap (λ x. entries_told p before ++ x) (sym (step_told p (copying_after p before) (copying_after p before).step reply (after_at p before)))

none_left : (p : Places) (c : Copying) (step : CopyStep) → c.step ≡ step → step_asks_left p c step ≡ 0 → c.step ≡ Ended
unfolding step_asks_left
none_left p c Ended its none = its
none_left p c (LoadsSlot slot) its none = absurd (omega (arith, none))
none_left p c LoadsLink its none = absurd (omega (arith, none))

after_asks : (p : Places) (replies : List ℕ) → copy_asks_left p (copying_after p replies) ≤ 8 * (p.buckets + p.overflow) - length replies
unfolding copying_after
after_asks p [] = let h = copy_bounded p in omega (arith, h)
after_asks p (reply ∷ before) = let h = after_asks p before in let f = copy_fewer p (copying_after p before) reply in omega (arith, h, f)

pub copy_ends : CopyEnds
copy_ends p replies many = let h = after_asks p replies in none_left p (copying_after p replies) (copying_after p replies).step refl (omega (arith, h, many))

none_triples : AreTriplesOf []
unfolding all_bytes
none_triples = record { triples = []; said = refl; spelled = refl }

more_triples : (xs ys : List CopiedEntry) → AreTriplesOf xs → AreTriplesOf ys → AreTriplesOf (xs ++ ys)
unfolding all_bytes
more_triples xs ys a b = record {
  triples = a.triples ++ b.triples;
  said = map-append copied_of a.triples b.triples ∙ ap (λ x. x ++ map copied_of b.triples) a.said ∙ ap (λ y. xs ++ y) b.said;
  spelled = flat_map-append triple_bytes a.triples b.triples ∙ ap (λ x. x ++ flat_map triple_bytes b.triples) a.spelled ∙ ap (λ y. flat_map copied_bytes xs ++ y) b.spelled ∙ sym (flat_map-append copied_bytes xs ys);
}

one_triple : (x : Triple) → AreTriplesOf (copied_of x ∷ [])
unfolding all_bytes
one_triple x = record { triples = x ∷ []; said = refl; spelled = ap (λ b. b ++ []) (triple_spelled x) }

-- an entry of a bucket that there is is said by a triple
slot_triple : (p : Places) (bucket word : ℕ) → bucket < p.buckets → AreTriplesOf (slot_copied bucket word)
unfolding slot_copied
slot_triple p bucket word low = cases (nat_lt 0 (entry_addr word)) (nat_lt (entry_tag word) (2 ^ 15)) refl refl
  where
    cases : (a b : Bool) → nat_lt 0 (entry_addr word) ≡ a → nat_lt (entry_tag word) (2 ^ 15) ≡ b
        → AreTriplesOf (if a && b then record { home = record { bucket = bucket; tag = entry_tag word }; addr = entry_addr word } ∷ [] else [])
    cases true true e d =
        let few = p.few_buckets in
        let x : Triple = record { bucket = bucket; tag = entry_tag word; addr = record { 0 = entry_addr word }; bucket_fits = omega (arith, low, few); tag_fits = grind (arith, nat_tests, d); some_addr = grind (arith, nat_tests, e); addr_fits = omega arith } in
        one_triple x
    cases true false e d = none_triples
    cases false b e d = none_triples

step_triple : (p : Places) (c : Copying) (step : CopyStep) (reply : ℕ) → IsAt p c step → AreTriplesOf (copied_at c step reply)
unfolding copied_at
step_triple p c Ended reply stands = none_triples
step_triple p c (LoadsSlot slot) reply stands = slot_triple p c.bucket reply stands.1
step_triple p c LoadsLink reply stands = none_triples

pub copies_triples : CopiesTriples
unfolding copied_after
copies_triples p [] = none_triples
copies_triples p (reply ∷ before) =
    more_triples (copied_after p before) (copied_at (copying_after p before) (copying_after p before).step reply) (copies_triples p before)
    (step_triple p (copying_after p before) (copying_after p before).step reply (after_at p before))

in_range : (p : Places) (c : Copying) (step : CopyStep) → IsAt p c step → IsStepInRange p c step
in_range p c Ended stands = tt
in_range p c (LoadsSlot slot) stands = (stands.0, stands.1)
in_range p c LoadsLink stands = stands.0

-- what is copied and what may still come has room
after_slots : (p : Places) (replies : List ℕ) → length (copied_after p replies) + slots_left p (copying_after p replies) ≤ 7 * (p.buckets + p.overflow)
unfolding copying_after copied_after
after_slots p [] = let h = first_slots p in omega (arith, h)
after_slots p (reply ∷ before) =
    let c = copying_after p before in
    let h = after_slots p before in
    let few = copy_slots p c reply (in_range p c c.step (after_at p before)) in
    let more = length-append (copied_after p before) (copied_at c c.step reply) in
    omega (arith, h, few, more)

pub copy_fits : CopyFits
copy_fits p replies = let h = after_slots p replies in omega (arith, h)
