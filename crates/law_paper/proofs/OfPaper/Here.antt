-- The published records that an image shows, by their addresses and their chains.
use Rattle.std.proofs.Common.{◌≡◌, ◌≢◌, ◌⊎◌, inl, inr, ⊎_elim, ℕ, ◌+◌, ◌<◌, ◌≤◌, List, false, sym, ap, subst, ◌∙◌, arith, true≢false}
use Rattle.std.proofs.lemmas.Bool.{cases_lt}
use Rattle.fkv_marks.specs.Marks.{mark}
use Rattle.fkv_marks.specs.Window.{version_in}
use Rattle.fkv_marks.proofs.Shown.{version_told}
use Rattle.law_log.specs.Chains.{Cell, Dropped, Published, IsWithin}
use Rattle.law_log.specs.Ghosts.{Log}
use Rattle.law_log.specs.Trace.{IsIn}
use Rattle.fkv_record.proofs.Shown.{from_below, from_on, from_lower}
use Rattle.fkv_record.specs.Begin.{from_or_none}
use Rattle.fkv_record.specs.Layout.{record_bytes}
use Rattle.fkv_record.specs.declared.records.Record.{Record}
use Rattle.fkv_scan.specs.Log as scan
use Rattle.fkv_scan.specs.Log.{record_home}
use Rattle.fkv_scan.specs.Records.{Stands, next_of, version_of, IsKept}
use Rattle.fkv_scan.specs.Scan.{Has, HasNone, IsGreatest, IsScanned}
use Rattle.fkv_words.specs.Fields.{SpellsApart}
use Rattle.law_paper.specs.Paper.Images.{IsOrderly, IsRecent, ShowsCell, ShowsDropped, ShowsLog}
use Rattle.law_paper.proofs.OfPaper.Down.{below_next, next_within}

-- an image shows the log from an address on
pub record Showing (home : ℕ → ℕ) (from : ℕ) (image : scan.Log) (g : Log) : Type 0 where
  pub spells : SpellsApart record_bytes
  pub orderly : IsOrderly home g
  pub shows : ShowsLog home from image g
  pub begins : image.begin ≤ from

-- a published record from the begin to below the end
pub record IsHere (from : ℕ) (image : scan.Log) (g : Log) (a : ℕ) : Type 0 where
  pub cell : Cell
  pub its : g.cells a ≡ Published cell
  pub begun : image.begin ≤ a
  pub low : a < image.tail
  pub shown : ShowsCell from image a cell

-- where a record of a chain leads from the begin on: into the chain, or nowhere
abbrev pub IsNext : ℕ → List ℕ → ℕ → Type 0
IsNext begin chain next = (next ≡ 0) ⊎ (IsIn next chain × (begin ≤ next))

next_from : (begin p : ℕ) (chain : List ℕ) → IsWithin p chain → IsNext begin chain (from_or_none begin p)
next_from begin p chain within = ⊎_elim
    (λ below. inl (from_below begin p below))
    (λ on.
    let same = from_on begin p on in
    elim within [
      | inl none ↦ inl (same ∙ none)
      | inr has ↦ inr (subst (λ (n : ℕ). IsIn n chain) (sym same) has, subst (λ (n : ℕ). begin ≤ n) (sym same) on)
    ])
    (cases_lt p begin)

module _ (from : ℕ) (image : scan.Log) (g : Log) (recent : IsRecent from image g) where
  -- a mark of a version of the window is read as that
  pub is_read : (x : Record) (version : ℕ) → x.header.version.0 ≡ mark version → image.oldest ≤ version → version ≤ image.version + 1 → version_of image x ≡ version
  is_read x version is least most = ap (λ (n : ℕ). version_in image.version n) is ∙ version_told image.version image.oldest version recent.some recent.in_window least most

  -- one that was given up has no fault
  pub dropped_scanned : (a : ℕ) (cell : Cell) → g.cells a ≡ Dropped cell → from ≤ a → ShowsDropped image a cell → IsScanned image a
  dropped_scanned a cell is on d =
      let least = recent.dropped a cell is on in
      let most = d.young in
      let version = is_read d.held cell.version d.same least most in
      record {
        held = d.held;
        fits = record { stands = d.stands; new_enough = omega (arith, version, least); old_enough = omega (arith, version, most); falls = d.falls };
        linked = λ valid. absurd (true≢false (sym d.invalid ∙ valid));
      }

module _ {home : ℕ → ℕ} {from : ℕ} {image : scan.Log} {g : Log} (it : Showing home from image g) where
  abbrev pub Here : ℕ → Type 0
  Here a = IsHere from image g a

  pub one : (a : ℕ) (x y : Record) → Stands image a x → Stands image a y → x ≡ y
  one a x y first second = it.spells x y (first ∙ sym second)

  abbrev pub here : (a : ℕ) (cell : Cell) → g.cells a ≡ Published cell → image.begin ≤ a → a < image.tail → Here a
  here a cell is begun low = record { cell = cell; its = is; begun = begun; low = low; shown = it.shows.published a cell is begun low }

  -- what stands there is what is shown
  pub as_shown : (a : ℕ) (p : Here a) (x : Record) → Stands image a x → x ≡ (let s = p.shown in s.held)
  as_shown a p x stands = one a x _ stands (let s = p.shown in s.stands)

  pub in_own : (a : ℕ) (p : Here a) → IsIn a (g.chains (home (let c = p.cell in c.key)))
  in_own a p = it.orderly.chains.its_chain a p.cell p.its

  -- of a chain
  pub of_chain : (h a : ℕ) → IsIn a (g.chains h) → image.begin ≤ a → a < image.tail → (p : Here a) × (home (let c = p.cell in c.key) ≡ h)
  of_chain h a has begun low = let its = it.orderly.chains.in_chain h a has in (here a its.cell its.its begun low, its.its_home)

  -- the home of what stands there
  pub its_home : (a : ℕ) (p : Here a) (x : Record) → Stands image a x → record_home image.shape.bucket_bits x ≡ home (let c = p.cell in c.key)
  its_home a p x stands =
      let is = as_shown a p x stands in
      it.shows.homes x ∙ ap (λ (y : Record). home y.key.0) is ∙ ap home (let s = p.shown in s.its_key)

  -- from that address on a valid record is published
  pub since_here : (a : ℕ) (x : Record) → from ≤ a → a < image.tail → Stands image a x → x.header.invalid ≡ false → Here a
  since_here a x on low stands valid = elim (it.shows.decided a on low) [
    | inl published ↦ (let begins = it.begins in here a published.0 published.1 (omega (arith, begins, on)) low)
    | inr dropped ↦
        let d = it.shows.dropped a dropped.0 dropped.1 on low in
        let is : x ≡ d.held = one a x d.held stands d.stands in
        absurd (true≢false (sym d.invalid ∙ ap (λ (y : Record). y.header.invalid) (sym is) ∙ valid))
  ]

  -- ---- a record in the chain of a home
  module _ (h a : ℕ) (p : Here a) (in_h : IsIn a (g.chains h)) where
    abbrev x : Record
    x = let s = p.shown in s.held

    leads_x : next_of image x ≡ from_or_none image.begin (let c = p.cell in c.previous)
    leads_x = let s = p.shown in s.leads

    -- it leads to one below it in the chain, or to none
    pub next_in : IsNext image.begin (g.chains h) (next_of image x) × (next_of image x < a)
    next_in =
        let n = next_within g.cells (g.chains h) (it.orderly.chains.linked h) a p.cell in_h p.its in (
          subst (IsNext image.begin (g.chains h)) (sym leads_x) (next_from image.begin _ (g.chains h) n.0),
          (let low = n.1 in let is = leads_x in let lower = from_lower image.begin (let c = p.cell in c.previous) in omega (arith, low, is, lower)),
        )

    -- and what lies below it in the chain from the begin on is no higher than that
    pub below_in : (b : ℕ) → IsIn b (g.chains h) → image.begin ≤ b → b < a → b ≤ next_of image x
    below_in b has begun low =
        let most = below_next g.cells (g.chains h) (it.orderly.chains.linked h) a b p.cell in_h has low p.its in
        let same = from_on image.begin (let c = p.cell in c.previous) (omega (arith, begun, most)) in
        let is = leads_x in
        omega (arith, most, is, same)

    -- where what is kept from an address on is what stands in the chain
    module _ (start : ℕ) (begins : image.begin ≤ start) (kept_in : (b : ℕ) (y : Record) → start ≤ b → b < image.tail → IsKept image h b y → IsIn b (g.chains h))
        (in_kept : (b : ℕ) → IsIn b (g.chains h) → start ≤ b → b < image.tail → Has (IsKept image h) b) where
      -- it leads to the nearest that is kept
      pub leads_nearest : (b : ℕ) → IsGreatest (IsKept image h) start a b → next_of image x ≡ b
      leads_nearest b greatest =
          let least = greatest.from_on in
          let low = greatest.below in
          let below = p.low in
          let up = below_in b (kept_in b greatest.here.0 least (omega (arith, low, below)) greatest.here.1) (omega (arith, begins, least)) low in
          let falls = next_in.1 in
          let at : next_of image x ≤ b = ⊎_elim
          (λ high. absurd (elim next_in.0 [
            | inl none ↦ omega (arith, none, high)
            | inr has ↦
                let kept = in_kept (next_of image x) has.0 (omega (arith, least, high)) (omega (arith, falls, below)) in
                greatest.none_above (next_of image x) kept.0 (omega (arith, high)) falls kept.1
          ]))
          (λ most. most)
          (cases_lt b (next_of image x)) in
          omega (arith, up, at)

      -- and where none is, below that address
      pub leads_first : 0 < start → HasNone (IsKept image h) start a → next_of image x < start
      leads_first some none = ⊎_elim
          (λ low. low)
          (λ high.
          let falls = next_in.1 in
          let below = p.low in
          absurd (elim next_in.0 [
            | inl zero_is ↦ omega (arith, zero_is, high, some)
            | inr has ↦ (let kept = in_kept (next_of image x) has.0 high (omega (arith, falls, below)) in none (next_of image x) kept.0 high falls kept.1)
          ]))
          (cases_lt (next_of image x) start)

  -- what a record of the log leads to stands in its chain, below it, from the begin on
  pub leads_in : (a b : ℕ) (p : Here a) (x : Record) → Stands image a x → next_of image x ≡ b → b ≢ 0 → IsIn b (g.chains (home (let c = p.cell in c.key))) × (b < a) × (image.begin ≤ b)
  leads_in a b p x stands is some =
      let own = home (let c = p.cell in c.key) in
      let next = next_in own a p (in_own a p) in
      let at : next_of image (let s = p.shown in s.held) ≡ b = ap (λ (y : Record). next_of image y) (sym (as_shown a p x stands)) ∙ is in
      elim next.0 [
        | inl none ↦ absurd (some (sym at ∙ none))
        | inr has ↦ (subst (λ (n : ℕ). IsIn n (g.chains own)) at has.0, (let low = next.1 in omega (arith, low, at)), subst (λ (n : ℕ). image.begin ≤ n) at has.1)
      ]
