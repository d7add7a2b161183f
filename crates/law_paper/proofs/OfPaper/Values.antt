-- The values of an image in which what counts is what the log has of versions up to the commit's.
use Rattle.std.proofs.Common.{◌≡◌, ◌≢◌, inl, inr, ⊎_elim, ℕ, ◌<◌, ◌≤◌, Bool, true, false, Some, None, refl, sym, ap, subst, ◌∙◌, arith}
use Rattle.std.specs.Prelude.{◌↔◌, ◌==◌, ◌&&◌, if◌then◌else◌, nat_eq, nat_le}
use Rattle.std.proofs.lemmas.Bool.{cases_lt}
use Rattle.std.proofs.lemmas.Bool.Decides.{nat_tests}
use Rattle.fkv_base.specs.declared.numbers.Key.{Key}
use Rattle.fkv_chains.specs.Entries.{Counts}
use Rattle.law_log.proofs.Shown.{first_is}
use Rattle.law_log.specs.Chains.{Cell, Logged, Unborn, Reserved, Published, Dropped, has_key_upto, value_at, version_at}
use Rattle.law_log.specs.Ghosts.{Log, newest_upto, shown_upto}
use Rattle.law_log.specs.Trace.{IsIn}
use Rattle.fkv_record.specs.Layout.{record_bytes}
use Rattle.fkv_record.specs.declared.records.Record.{Record}
use Rattle.fkv_scan.specs.Log as scan
use Rattle.fkv_scan.specs.Log.{record_home}
use Rattle.fkv_scan.specs.Records.{Stands}
use Rattle.fkv_words.specs.Fields.{SpellsApart}
use Rattle.fkv_ops.specs.Values.{value_of}
use Rattle.fkv_pairs.specs.Pairs.{CountsAtHome, IsNewest, HasValue, absent_word}
use Rattle.law_paper.specs.Paper.Values.{CountsAsLog, TellsCell, ShowsUpto}
use Rattle.law_paper.proofs.OfPaper.Down.{first_newest}

value_some : (word v : ℕ) → word ≡ v → v ≢ absent_word → value_of word ≡ Some v
value_some word v same some = let off : (word == absent_word) ≡ false = grind (arith, nat_tests) in rw off (ap Some same)

value_is : (word v : ℕ) → value_of word ≡ Some v → (word ≡ v) × (v ≢ absent_word)
value_is word v is = by_test (word == absent_word) refl is
  where
    by_test : (t : Bool) → (word == absent_word) ≡ t → (if t then None else Some word) ≡ Some v → (word ≡ v) × (v ≢ absent_word)
    by_test true e is = absurd (cc)
    by_test false e is =
        let same : word ≡ v = cc in
        let other : word ≢ absent_word = grind (arith, nat_tests, e) in
        (same, subst (λ (n : ℕ). n ≢ absent_word) same other)

passes : (key version k v : ℕ) → k ≡ key → v ≤ version → (nat_eq k key && nat_le v version) ≡ true
passes key version k v same low = grind (arith, nat_tests, same, low)

its_key : (key version k v : ℕ) → (nat_eq k key && nat_le v version) ≡ true → (k ≡ key) × (v ≤ version)
its_key key version k v is = (grind (arith, nat_tests, is), grind (arith, nat_tests, is))

module _ (home : ℕ → ℕ) (image : scan.Log) (g : Log) (spells : SpellsApart record_bytes) (paper : CountsAsLog home image g) where
  abbrev newest : ℕ → ℕ
  newest key = newest_upto home g image.version key

  -- a record that counts, of a key, stands in the chain of the key's home from the begin on, and passes
  key_chain : (key b : ℕ) (y : Record) → CountsAtHome image b y → y.key ≡ record { 0 = key } → IsIn b (g.chains (home key)) × (has_key_upto image.version key (g.cells b) ≡ true) × (image.begin ≤ b)
  key_chain key b y counts of_key =
      let c = paper.stands (record_home image.shape.bucket_bits y) b y counts in
      let s : TellsCell (g.cells b) y = paper.tells (record_home image.shape.bucket_bits y) b y counts in
      let same : y.key.0 ≡ key = ap (λ (k : Key). k.0) of_key in
      let at : record_home image.shape.bucket_bits y ≡ home key = paper.homes y ∙ ap home same in
      let key_is : (let d = s.cell in d.key) ≡ key = sym s.its_key ∙ same in
      let version_is : (let d = s.cell in d.version) ≤ image.version = subst (λ (n : ℕ). n ≤ image.version) (ap version_at s.its) c.1 in (
        subst (λ (h : ℕ). IsIn b (g.chains h)) at c.0,
        ap (has_key_upto image.version key) s.its ∙ passes key image.version _ _ key_is version_is,
        c.2,
      )

  is_newest : (key a : ℕ) (x : Record) → CountsAtHome image a x → x.key ≡ record { 0 = key } → newest key ≡ a → IsNewest image (record { 0 = key }) a x
  is_newest key a x counts of_key is = record {
    counts = counts;
    of_key = of_key;
    greatest = λ b y other same.
        let there = key_chain key b y other same in
        let most = (first_newest (has_key_upto image.version key) g.cells _ (paper.orderly.chains.linked _) b there.0 there.1).1 in
        omega (arith, most, is);
  }

  same_newest : (key : Key) (a b : ℕ) (x y : Record) → IsNewest image key a x → IsNewest image key b y → x ≡ y
  same_newest key a b x y first second =
      let up = first.greatest b y second.counts second.of_key in
      let down = second.greatest a x first.counts first.of_key in
      let at : a ≡ b = omega (arith, up, down) in
      spells x y (subst (λ (n : ℕ). Stands image n x) at first.counts.valid.stands ∙ sym second.counts.valid.stands)

  module _ (key : ℕ) where
    abbrev ShowsValue : Type 0
    ShowsValue = (v : ℕ) → (shown_upto home g image.version key ≡ Some v) ↔ HasValue image (record { 0 = key }) (record { 0 = v })

    -- its newest record lies at or above the begin, if the image has a value for it
    begun : (v : ℕ) → HasValue image (record { 0 = key }) (record { 0 = v }) → IsIn (newest key) (g.chains (home key)) × (image.begin ≤ newest key)
    begun v has =
        let there = key_chain key has.addr has.held has.newest.counts has.newest.of_key in
        let found = first_newest (has_key_upto image.version key) g.cells _ (paper.orderly.chains.linked _) has.addr there.0 there.1 in
        let low = there.2 in
        let up = found.1 in
        (found.0, omega (arith, low, up))

    -- a key that the log shows as absent, and for which the image has no value
    by_absent : shown_upto home g image.version key ≡ None → ((v : ℕ) → HasValue image (record { 0 = key }) (record { 0 = v }) → ⊥) → ShowsValue
    by_absent value none v = (λ shows. let off : None ≡ Some v = sym value ∙ shows in absurd (cc), λ has. absurd (none v has))

    by_none : newest key ≡ 0 → ShowsValue
    by_none is = by_absent (ap (λ (n : ℕ). value_at (g.cells n)) is ∙ ap value_at paper.orderly.none) (λ v has.
        let its = paper.orderly.chains.in_chain _ _ (begun v has).0 in
        let off : Unborn ≡ Published its.cell = sym paper.orderly.none ∙ ap g.cells (sym is) ∙ its.its in
        absurd (cc))

    by_below : newest key < image.begin → ShowsValue
    by_below low = by_absent (elim (paper.live key) [ inl above ↦ absurd (omega (arith, above, low)) | inr absent ↦ absent ]) (λ v has. (let above = (begun v has).1 in omega (arith, above, low)))

    by_cell : (a : ℕ) (logged : Logged) → newest key ≡ a → image.begin ≤ a → g.cells a ≡ logged → has_key_upto image.version key logged ≡ true → ShowsValue
    by_cell a (Published cell) is on there own v =
        let its = its_key key image.version cell.key cell.version own in
        let at : IsIn a (g.chains (home key)) = subst (λ (n : ℕ). IsIn a (g.chains (home n))) its.0 (paper.orderly.chains.its_chain a cell there) in
        let has = paper.counts (home key) a at (subst (λ (n : ℕ). n ≤ image.version) (ap version_at (sym there)) its.1) on in
        let x : Record = has.0 in
        let s : TellsCell (g.cells a) x = paper.tells (home key) a x has.1 in
        let same_cell : s.cell ≡ cell = (let both : Published s.cell ≡ Published cell = sym s.its ∙ there in cc) in
        let key_is : x.key.0 ≡ key = s.its_key ∙ ap (λ (d : Cell). d.key) same_cell ∙ its.0 in
        let counts : CountsAtHome image a x = subst (λ (h : ℕ). Counts image h a x) (sym has.1.valid.same) has.1 in
        let most = is_newest key a x counts (ap (λ (n : ℕ). let k : Key = record { 0 = n } in k) key_is) is in
        let value : shown_upto home g image.version key ≡ value_of x.value =
        ap (λ (n : ℕ). value_at (g.cells n)) is ∙ ap value_at there ∙ sym (s.its_value ∙ ap (λ (d : Cell). d.value) same_cell) in (
          λ shows. (let word = value_is x.value v (sym value ∙ shows) in record { addr = a; held = x; newest = most; written = word.0; present = word.1 }),
          λ given.
              let same = same_newest (record { 0 = key }) a given.addr x given.held most given.newest in
              value ∙ value_some x.value v (ap (λ (y : Record). y.value) same ∙ given.written) given.present,
        )
    by_cell a Unborn is on there own v = absurd (cc)
    by_cell a (Reserved entry cell) is on there own v = absurd (cc)
    by_cell a (Dropped cell) is on there own v = absurd (cc)

    pub shows_value : ShowsValue
    shows_value = elim (first_is (has_key_upto image.version key) g.cells (g.chains (home key))) [
      | inl none ↦ by_none none
      | inr some ↦ ⊎_elim (λ low. by_below low) (λ on. by_cell _ _ refl on refl some.1) (cases_lt (newest key) image.begin)
    ]

  pub shows_upto : ShowsUpto home image g
  shows_upto key value = shows_value key.0 value.0
