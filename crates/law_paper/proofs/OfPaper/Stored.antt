-- An image in which no stage of recovery finds a fault holds a store.
use Rattle.std.proofs.Common.{◌≡◌, ◌≢◌, inl, inr, ⊎_elim, ℕ, zero, suc, ◌+◌, ◌-◌, ◌*◌, ◌/◌, ◌^◌, ◌<◌, ◌≤◌, Bool, true, false, cond, List, [], ◌∷◌, ◌++◌, length, map, get_or, refl, sym, ap, subst, ◌∙◌, arith, Less, Vec, Global}
use Rattle.std.specs.Prelude.{◌%◌, ◌||◌, nat_eq, All, AllPairs, Contains, count_by}
use Rattle.std.specs.Option.{is_some}
use denote.RawPtr.{null_ptr}
use Rattle.std.specs.Ordering.{nat_cmp}
use Rattle.std.specs.List.{AllByRecursion}
use Rattle.std.specs.List.Sorted.{IsStrictlySortedBy, IsStrictlyIncreasing}
use Rattle.std.proofs.Math.Nat.{mod-lt, mul-le-mul}
use Rattle.std.proofs.lemmas.Bool.{cases_lt, cases_eq}
use Rattle.std.proofs.lemmas.Bool.Decides.{nat_tests}
use Rattle.std.proofs.lemmas.List.{length-map, get_or-map}
use Rattle.std.proofs.lemmas.List.Elements.{All-cons, All-nil}
use Rattle.std.proofs.lemmas.List.Kept.{AllPairs-from_increasing}
use Rattle.std.proofs.lemmas.List.Sums.{sum_by-cons}
use Rattle.std.proofs.lemmas.Map.Keys.{IsStrictlyIncreasing-from_sorted}
use Rattle.std.proofs.lemmas.Nat.{pow_pos}
use Rattle.fkv_base.proofs.Shown.{ring_between, slots_few}
use Rattle.fkv_base.specs.Limits.{max_disk_pages, max_page, min_page}
use Rattle.fkv_entries.proofs.Shown.{in_room, words_counted}
use Rattle.fkv_entries.specs.Room.{AreApart, HaveRoom, bucket_words, needed, taken_below}
use Rattle.fkv_entries.specs.declared.home_entries.HomeEntry.{HomeEntry}
use Rattle.fkv_chains.specs.Entries.{IsEntry}
use Rattle.fkv_newest.specs.declared.newest_slots.Newest.{Newest}
use Rattle.fkv_opening.proofs.Shown.{nothing_warm, room_in_ring}
use Rattle.fkv_opening.specs.Entries.{AreEntries, entry_home, place_of}
use Rattle.fkv_opening.specs.Faults.{HasCheckpoint, IsSound, log_of}
use Rattle.fkv_opening.specs.Lost.{Extends}
use Rattle.fkv_opening.specs.Opened.{IsStoreOf}
use Rattle.fkv_opening.specs.declared.opened_store.Opened.{Opened}
use Rattle.fkv_record.specs.Layout.{record_bytes}
use Rattle.fkv_record.specs.declared.lost_ranges.LostRange.{LostRange}
use Rattle.fkv_record.specs.declared.records.Record.{Record}
use Rattle.fkv_record.specs.declared.triples.Triple.{Triple}
use Rattle.fkv_room.proofs.Shown.{by_cond, in_head, in_rest, in_tail, same_taken}
use Rattle.fkv_room.specs.Room.{AreHomes, in_bucket, taken}
use Rattle.fkv_scan.proofs.Shown.{bool_is}
use Rattle.fkv_scan.specs.Log.{AreBelow, Log, home, record_home}
use Rattle.fkv_scan.specs.Records.{version_of, IsNewer}
use Rattle.fkv_scan.specs.Scan.{Has}
use Rattle.fkv_scan.specs.Scanned.{TellsNewer}
use Rattle.fkv_words.specs.Fields.{SpellsApart}
use Rattle.law_paper.proofs.Reached.{reached_low}

-- ---- the numbers of a list, in ascending order
-- whether a list has a number
abbrev meets : List ℕ → ℕ → Bool
meets [] h = false
meets (x ∷ xs) h = nat_eq x h || meets xs h

meets_is : (xs : List ℕ) (h : ℕ) → meets xs h ≡ true → Contains xs h
meets_is [] h is = absurd (let off : true ≡ false = sym is in cc)
meets_is (x ∷ xs) h is = ⊎_elim (λ same. in_head x h xs same) (λ other. in_tail x h xs (meets_is xs h (rest other))) (cases_eq x h)
  where
    rest : x ≢ h → meets xs h ≡ true
    rest other = grind (arith, nat_tests, other, is)

meets_has : (xs : List ℕ) (h : ℕ) → Contains xs h → meets xs h ≡ true
meets_has [] h has = absurd (omega (arith, has.1))
meets_has (x ∷ xs) h has = ⊎_elim (λ same. here same) (λ rest. there (meets_has xs h rest)) (in_rest x h xs has)
  where
    here : x ≡ h → meets (x ∷ xs) h ≡ true
    here same = grind (arith, nat_tests, same)

    there : meets xs h ≡ true → meets (x ∷ xs) h ≡ true
    there is = grind (arith, nat_tests, is)

-- so many numbers from one on that pass a test
abbrev upward : (ℕ → Bool) → ℕ → ℕ → List ℕ
upward p from zero = []
upward p from (suc n) = cond (p from) (from ∷ upward p (suc from) n) (upward p (suc from) n)

upward_is : (p : ℕ → Bool) (from n h : ℕ) → Contains (upward p from n) h → p h ≡ true
upward_is p from zero h has = absurd (omega (arith, has.1))
upward_is p from (suc n) h has = by_cond (λ hs. Contains hs h → p h ≡ true) (p from) (from ∷ upward p (suc from) n) (upward p (suc from) n)
    (λ passes has. ⊎_elim (λ same. subst (λ (k : ℕ). p k ≡ true) same passes) (λ rest. upward_is p (suc from) n h rest) (in_rest from h (upward p (suc from) n) has))
    (λ fails has. upward_is p (suc from) n h has)
    has

upward_has : (p : ℕ → Bool) (from n h : ℕ) → from ≤ h → h < from + n → p h ≡ true → Contains (upward p from n) h
upward_has p from zero h least low is = absurd (omega (arith, least, low))
upward_has p from (suc n) h least low is =
    let later : from ≢ h → Contains (upward p (suc from) n) h = λ other. upward_has p (suc from) n h (omega (arith, least, other)) (omega (arith, low)) is in
    by_cond (λ hs. Contains hs h) (p from) (from ∷ upward p (suc from) n) (upward p (suc from) n)
    (λ passes. ⊎_elim (λ same. in_head from h (upward p (suc from) n) same) (λ other. in_tail from h (upward p (suc from) n) (later other)) (cases_eq from h))
    (λ fails. ⊎_elim (λ same. absurd (let off : true ≡ false = sym is ∙ ap p (sym same) ∙ fails in cc)) (λ other. later other) (cases_eq from h))

upward_above : (p : ℕ → Bool) (from n k : ℕ) → k < from → AllByRecursion (λ y. nat_cmp k y ≡ Less) (upward p from n)
upward_above p from zero k less = tt
upward_above p from (suc n) k less = by_cond (λ hs. AllByRecursion (λ y. nat_cmp k y ≡ Less) hs) (p from) (from ∷ upward p (suc from) n) (upward p (suc from) n)
    (λ passes. (grind (arith, nat_tests, less), upward_above p (suc from) n k (omega (arith, less))))
    (λ fails. upward_above p (suc from) n k (omega (arith, less)))

upward_sorted : (p : ℕ → Bool) (from n : ℕ) → IsStrictlySortedBy nat_cmp (upward p from n)
unfolding IsStrictlySortedBy
upward_sorted p from zero = tt
upward_sorted p from (suc n) = by_cond (λ hs. IsStrictlySortedBy nat_cmp hs) (p from) (from ∷ upward p (suc from) n) (upward p (suc from) n)
    (λ passes. (upward_above p (suc from) n from (omega arith), upward_sorted p (suc from) n))
    (λ fails. upward_sorted p (suc from) n)

-- ---- entries of homes
-- the entry of a home at an address
abbrev entry_at : (h a : ℕ) → 0 < a → a < 2 ^ 48 → HomeEntry
entry_at h a some fits = record { bucket = h / 2 ^ 15; entry = record { addr = record { 0 = a }; tag = h % 2 ^ 15; some_addr = some; addr_fits = fits; tag_fits = mod-lt h {m = 2 ^ 15} (omega arith) } }

its_home : (h : ℕ) → home (h / 2 ^ 15) (h % 2 ^ 15) ≡ h
its_home h = omega arith

-- an address that an entry can hold
abbrev IsPlace : (ℕ → ℕ → Type 0) → ℕ → Type 0
IsPlace P h = (a : ℕ) × P h a × (0 < a) × (a < 2 ^ 48)

module _ (P : ℕ → ℕ → Type 0) where
  -- the entries of these homes
  abbrev entries_at : (hs : List ℕ) → ((h : ℕ) → Contains hs h → IsPlace P h) → List HomeEntry
  entries_at [] each = []
  entries_at (h ∷ hs) each =
      let its = each h (in_head h h hs refl) in
      entry_at h its.0 its.2 its.3 ∷ entries_at hs (λ k has. each k (in_tail h k hs has))

  same_homes : (hs : List ℕ) (each : (h : ℕ) → Contains hs h → IsPlace P h) → map entry_home (entries_at hs each) ≡ hs
  same_homes [] each = refl
  same_homes (h ∷ hs) each = ap (λ k. k ∷ map entry_home (entries_at hs (λ k has. each k (in_tail h k hs has)))) (its_home h) ∙ ap (λ ks. h ∷ ks) (same_homes hs (λ k has. each k (in_tail h k hs has)))

  entry_is : (hs : List ℕ) (each : (h : ℕ) → Contains hs h → IsPlace P h) (h a : ℕ) → Contains (map place_of (entries_at hs each)) (h, a) → P h a
  entry_is [] each h a has = absurd (omega (arith, has.1))
  entry_is (k ∷ hs) each h a has =
      let its = each k (in_head k k hs refl) in
      let x = entry_at k its.0 its.2 its.3 in
      ⊎_elim
      (λ same.
      let home_is : k ≡ h = sym (its_home k) ∙ ap (λ (q : ℕ × ℕ). q.0) same in
      subst (λ (b : ℕ). P h b) (ap (λ (q : ℕ × ℕ). q.1) same) (subst (λ (j : ℕ). P j its.0) home_is its.1))
      (λ rest. entry_is hs (λ j there. each j (in_tail k j hs there)) h a rest)
      (in_rest (place_of x) (h, a) (map place_of (entries_at hs (λ j there. each j (in_tail k j hs there)))) has)

  module _ (one : (h a b : ℕ) → P h a → P h b → a ≡ b) where
    entry_has : (hs : List ℕ) (each : (h : ℕ) → Contains hs h → IsPlace P h) (h a : ℕ) → Contains hs h → P h a → Contains (map place_of (entries_at hs each)) (h, a)
    entry_has [] each h a has is = absurd (omega (arith, has.1))
    entry_has (k ∷ hs) each h a has is =
        let its = each k (in_head k k hs refl) in
        let x = entry_at k its.0 its.2 its.3 in
        let later = map place_of (entries_at hs (λ j there. each j (in_tail k j hs there))) in
        ⊎_elim
        (λ same.
        let addr : its.0 ≡ a = one h its.0 a (subst (λ (j : ℕ). P j its.0) same its.1) is in
        in_head (place_of x) (h, a) later (ap (λ (j : ℕ). (j, its.0)) (its_home k ∙ same) ∙ ap (λ (b : ℕ). (h, b)) addr))
        (λ rest. in_tail (place_of x) (h, a) later (entry_has hs (λ j there. each j (in_tail k j hs there)) h a rest is))
        (in_rest k h hs has)

  -- they lie in buckets below a bound if the homes do
  entries_there : (buckets : ℕ) (hs : List ℕ) (each : (h : ℕ) → Contains hs h → IsPlace P h) → ((h : ℕ) → Contains hs h → h / 2 ^ 15 < buckets) → All (λ x. x.bucket < buckets) (entries_at hs each)
  entries_there buckets [] each low = All-nil (λ x. x.bucket < buckets)
  entries_there buckets (h ∷ hs) each low =
      let its = each h (in_head h h hs refl) in
      All-cons (λ x. x.bucket < buckets) (entry_at h its.0 its.2 its.3) (entries_at hs (λ j there. each j (in_tail h j hs there))) (low h (in_head h h hs refl))
      (entries_there buckets hs (λ j there. each j (in_tail h j hs there)) (λ k has. low k (in_tail h k hs has)))

-- ---- room for entries
bucket_is : (x : HomeEntry) → entry_home x / 2 ^ 15 ≡ x.bucket
bucket_is x = let fits = x.entry.tag_fits in omega (arith, fits)

counted_alike : (b : ℕ) (xs : List HomeEntry) → count_by (λ x. nat_eq x.bucket b) xs ≡ in_bucket (map entry_home xs) b
counted_alike b [] = refl
counted_alike b (x ∷ xs) =
    let same : ◌≡◌ {A = ℕ} (cond (nat_eq (entry_home x / 2 ^ 15) b) 1 0) (cond (nat_eq x.bucket b) 1 0) = ap (λ n. cond (nat_eq n b) 1 0) (bucket_is x) in
    omega (
      arith,
      same,
      counted_alike b xs,
      sum_by-cons (λ (y : HomeEntry). cond (nat_eq y.bucket b) 1 0) x xs,
      sum_by-cons (λ h. cond (nat_eq (h / 2 ^ 15) b) 1 0) (entry_home x) (map entry_home xs),
    )

taken_alike : (xs : List HomeEntry) (b : ℕ) → taken_below xs b ≡ taken (map entry_home xs) b
unfolding taken_below
taken_alike xs zero = refl
taken_alike xs (suc b) = ap (λ n. n + needed (length (bucket_words b xs))) (taken_alike xs b) ∙ ap (λ n. taken (map entry_home xs) b + needed n) (words_counted b xs ∙ counted_alike b xs)

entries_apart : (xs : List HomeEntry) → IsStrictlyIncreasing (map entry_home xs) → AllPairs AreApart xs
entries_apart xs rising i j d less low same_bucket same_tag =
    let rises = AllPairs-from_increasing (map entry_home xs) rising i j (entry_home d) less (omega (arith, low, length-map xs entry_home)) in
    let first = get_or-map entry_home xs i d in
    let second = get_or-map entry_home xs j d in
    let same : entry_home (get_or xs i d) ≡ entry_home (get_or xs j d) = ap (λ n. n * 2 ^ 15 + (let x = get_or xs i d in x.entry.tag)) same_bucket ∙ ap (λ n. (let x = get_or xs j d in x.bucket) * 2 ^ 15 + n) same_tag in
    omega (arith, rises, first, second, same)

-- ---- a store without a fault
module _ (spells : SpellsApart record_bytes) (image : List ℕ) (n : Newest) (xs : List Triple) (has : HasCheckpoint image n xs) (sound : IsSound (log_of image n xs)) where
  abbrev log : Log
  log = log_of image n xs

  abbrev buckets : ℕ
  buckets = 2 ^ n.shape.bucket_bits

  tail_short : n.slot.end.0 < 2 ^ 48
  tail_short =
      let page : n.shape.page ≤ max_page = (ring_between n.shape.page min_page max_page n.shape.limits.page_size).1 in
      let most : n.shape.disk_pages * n.shape.page ≤ max_disk_pages * max_page = mul-le-mul n.shape.limits.few_disk page in
      omega (arith, n.fits.log.on_disk, most)

  -- ---- its homes, each once, in ascending order
  one_entry : (h a b : ℕ) → IsEntry log h a → IsEntry log h b → a ≡ b
  one_entry h a b first second =
      let up = first.greatest b second.counts.0 second.counts.1 in
      let down = second.greatest a first.counts.0 first.counts.1 in
      omega (arith, up, down)

  record_bucket : (x : Record) → record_home n.shape.bucket_bits x / 2 ^ 15 < buckets
  unfolding record_home
  record_bucket x =
      let tag : x.key.0 / buckets % 2 ^ 15 < 2 ^ 15 = omega arith in
      let low : x.key.0 % buckets < buckets = mod-lt x.key.0 {m = buckets} (pow_pos n.shape.bucket_bits) in
      omega (arith, tag, low)

  home_low : (h a : ℕ) → IsEntry log h a → h / 2 ^ 15 < buckets
  home_low h a is =
      let counts = is.counts.1 in
      subst (λ (k : ℕ). k / 2 ^ 15 < buckets) counts.valid.same (record_bucket is.counts.0)

  abbrev homes : List ℕ
  homes = upward (meets sound.room.homes) 0 (buckets * 2 ^ 15)

  homes_rise : IsStrictlyIncreasing homes
  homes_rise = IsStrictlyIncreasing-from_sorted homes (upward_sorted (meets sound.room.homes) 0 (buckets * 2 ^ 15))

  home_entry : (h : ℕ) → Contains homes h → (a : ℕ) × IsEntry log h a
  home_entry h there = (sound.room.are_homes.all h).0 (meets_is sound.room.homes h (upward_is (meets sound.room.homes) 0 (buckets * 2 ^ 15) h there))

  entry_home_in : (h a : ℕ) → IsEntry log h a → Contains homes h
  entry_home_in h a is =
      let low = home_low h a is in
      upward_has (meets sound.room.homes) 0 (buckets * 2 ^ 15) h (omega arith) (omega (arith, low)) (meets_has sound.room.homes h ((sound.room.are_homes.all h).1 (a, is)))

  are_homes : AreHomes log homes
  are_homes = record {
    once = λ i j d less low same. (let rises = AllPairs-from_increasing homes homes_rise i j d less low in omega (arith, rises, same));
    all = λ h. (home_entry h, λ its. entry_home_in h its.0 its.1);
  }

  -- ---- its entries
  places : (h : ℕ) → Contains homes h → IsPlace (IsEntry log) h
  places h there =
      let its = home_entry h there in
      let counts = its.1.counts.1 in
      let low = reached_low spells sound.scan sound.chains below its.0 counts.reached in
      let some : 0 < its.0 = ⊎_elim
      (λ under. (let this = sound.chains its.0 counts.reached under in let falls = this.old.falls in omega (arith, falls)))
      (λ from. (let first = n.fits.log.some in omega (arith, from, first)))
      (cases_lt its.0 n.slot.first.0) in
      (its.0, its.1, some, omega (arith, low, tail_short))
    where
      below : AreBelow log.tail xs
      below i x is = (let at = has.stored.each i x is in at.in_log)

  abbrev entries : List HomeEntry
  entries = entries_at (IsEntry log) homes places

  are_entries : AreEntries log entries
  are_entries = record {
    all = λ h a. (entry_is (IsEntry log) homes places h a, λ is. entry_has (IsEntry log) one_entry homes places h a (entry_home_in h a is) is);
    ascending = subst IsStrictlyIncreasing (sym (same_homes (IsEntry log) homes places)) homes_rise;
  }

  have_room : HaveRoom buckets n.shape.overflow entries
  have_room = record {
    homes = record {
      once = entries_apart entries are_entries.ascending;
      there = entries_there (IsEntry log) buckets homes places (λ h there. (let its = home_entry h there in home_low h its.0 its.1));
    };
    enough =
        let same = taken_alike entries buckets ∙ ap (λ hs. taken hs buckets) (same_homes (IsEntry log) homes places) in
        let alike = same_taken log homes sound.room.homes are_homes sound.room.are_homes buckets in
        omega (arith, same, alike, sound.room.enough);
  }

  -- ---- whether a record of the scan is newer than the commit
  one_newer : (c : ℕ) → log.start ≤ c → c < log.tail → (b : Bool) × (b ≡ true → Has (IsNewer log) c) × (b ≡ false → (y : Record) → IsNewer log c y → ⊥)
  one_newer c from low =
      let this = sound.scan.records c from low in
      let x : Record = this.held in
      let fits = this.fits in
      let same : (y : Record) → IsNewer log c y → y ≡ x = λ y is. spells y x (is.stands ∙ sym fits.stands) in
      elim (bool_is x.header.invalid) [
        | inl off ↦ (false, (λ is. absurd (let no : true ≡ false = sym is in cc)), λ _ y is. absurd (let no : true ≡ false = sym off ∙ ap (λ (z : Record). z.header.invalid) (sym (same y is)) ∙ is.valid in cc))
        | inr valid ↦ elim (cases_eq (version_of log x) (log.version + 1)) [
          | inl next ↦ (true, (λ _. (x, record { stands = fits.stands; valid = valid; newer = next })), λ is. absurd (cc))
          | inr other ↦ (false, (λ is. absurd (let no : true ≡ false = sym is in cc)), λ _ y is. other (ap (λ (z : Record). version_of log z) (sym (same y is)) ∙ is.newer))
        ]
      ]

  newer_to : (k : ℕ) → log.start + k ≤ log.tail → (b : Bool) × TellsNewer log (log.start + k) b
  newer_to zero low = (false, λ c y from below is. omega (arith, from, below))
  newer_to (suc k) low =
      let before = newer_to k (omega (arith, low)) in
      let here = one_newer (log.start + k) (omega arith) (omega (arith, low)) in
      with_one k before.0 here.0 before.1 here.1 here.2
    where
      with_one : (k : ℕ) (b d : Bool) → TellsNewer log (log.start + k) b → (d ≡ true → Has (IsNewer log) (log.start + k)) → (d ≡ false → (y : Record) → IsNewer log (log.start + k) y → ⊥)
          → (r : Bool) × TellsNewer log (log.start + suc k) r
      with_one k true d told one none = (true, (told.0, told.1, (let low = told.2 in omega (arith, low)), told.3))
      with_one k false true told one none = (true, (log.start + k, omega arith, omega arith, one refl))
      with_one k false false told one none = (
        false,
        λ c y from below is. elim (cases_eq c (log.start + k)) [
          | inl same ↦ none refl y (subst (λ (a : ℕ). IsNewer log a y) same is)
          | inr other ↦ told c y from (omega (arith, below, other)) is
        ],
      )

  tells_newer : (b : Bool) × TellsNewer log log.tail b
  tells_newer =
      let up : n.slot.first.0 ≤ n.slot.end.0 = n.fits.log.upwards in
      let whole : log.start + (log.tail - log.start) ≡ log.tail = omega (arith, up) in
      let told = newer_to (log.tail - log.start) (omega (arith, whole)) in
      (told.0, subst (λ (to : ℕ). TellsNewer log to told.0) whole told.1)

  -- ---- the lost ranges in hand
  added : LostRange
  added = (let few = n.fits.number.few in record { to = n.slot.end; version = record { 0 = n.slot.number + 1 }; to_fits = n.slot.end_fits; version_fits = omega (arith, few) })

  in_hand : (b : Bool) → (ranges : List LostRange) × Extends log b ranges
  unfolding added
  in_hand false = (log.lost, refl)
  in_hand true = (log.lost ++ added ∷ [], (added, refl, refl, refl))

  -- ---- the store
  vec_of : {X : Type 0} → (items : List X) → length items < 2 ^ 63 → Vec X Global
  vec_of items few = record { ptr = null_ptr; len = length items; cap = length items; alloc = record { memory = record { seal = tt } }; items = items; ok = (refl, omega arith); small = few }

  entries_few : length entries ≤ 7 * (buckets + n.shape.overflow)
  entries_few = in_room buckets n.shape.overflow entries have_room

  entries_small : length entries < 2 ^ 63
  entries_small = (let slots = slots_few n.shape.bucket_bits n.shape.overflow n.shape.limits.few_buckets n.shape.limits.few_overflow in omega (arith, entries_few, slots))

  points_small : length n.slot.points.serials.items < 2 ^ 63
  points_small = (let few = n.slot.points.few_sessions in omega (arith, few))

  pub opened : Opened
  unfolding vec_of
  opened = record {
    shape = n.shape;
    number = record { 0 = n.slot.number };
    begin = n.slot.begin;
    tail = n.slot.end;
    points = vec_of n.slot.points.serials.items points_small;
    gates = (is_some n.open_numbers.0, is_some n.open_numbers.1);
    checkpoint = record { number = record { 0 = n.slot.checkpoint }; first = n.slot.first; triples = n.slot.triples; area = n.slot.area };
    lost = record { items = (in_hand tells_newer.0).0 };
    entries = vec_of entries entries_small;
    warm = n.slot.end;
    frames = vec_of [] (omega arith);
    room = have_room;
    few_entries = entries_few;
    few_commits = n.fits.number.few;
    some_tail = (let some = n.fits.log.some in let up = n.fits.log.upwards in omega (arith, some, up));
    tail_on_disk = n.fits.log.on_disk;
    some_warm = (let some = n.fits.log.some in let up = n.fits.log.upwards in omega (arith, some, up));
    warm_from_begin = (let begin = n.fits.begin.before_scan in let up = n.fits.log.upwards in omega (arith, begin, up));
    warm_in_log = omega arith;
    warm_in_ring = room_in_ring n.shape n.slot.end.0;
    three_words = omega arith;
    each_session = n.fits.sessions;
    small_points = n.slot.points.serials_fit;
    some_begin = n.fits.begin.some;
    begin_before_scan = n.fits.begin.before_scan;
    whole = λ is. (n.fits.begin.whole is).0;
    some_first = n.fits.log.some;
    upwards = n.fits.log.upwards;
    few_triples = n.fits.checkpoint.few;
    two_areas = n.fits.checkpoint.area;
    no_newer = n.fits.checkpoint.no_newer;
  }

  pub is_store : IsStoreOf image opened
  unfolding opened vec_of
  is_store = record {
    newest = n;
    triples = xs;
    checkpoint = has;
    sound = sound;
    tells = record { shape = refl; number = refl; begin = refl; tail = refl; points = refl; gate_0 = refl; gate_1 = refl; checkpoint = refl; first = refl; triples = refl; area = refl };
    entries = are_entries;
    lost = record { left_out = tells_newer.0; tells = tells_newer.1; extends = (in_hand tells_newer.0).1 };
    warm = nothing_warm image opened (omega arith);
  }
