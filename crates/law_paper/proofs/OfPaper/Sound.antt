-- A commit is in force with a checkpoint of its life: recovery finds no fault in scan and chains. What counts is what the log has of versions up to the commit's.
use Rattle.std.proofs.Common.{◌≡◌, ◌≢◌, inl, inr, ⊎_elim, ℕ, ◌<◌, ◌≤◌, Some, List, [], ◌∷◌, refl, sym, ap, subst, ◌∙◌, arith}
use Rattle.std.specs.Prelude.{slice_get}
use Rattle.std.proofs.lemmas.Bool.{cases_lt}
use Rattle.fkv_chains.specs.Chains.{HasChains}
use Rattle.fkv_chains.specs.Entries.{Counts}
use Rattle.fkv_chains.specs.Reached.{LeadsTo, from_triple, from_record, Reached, in_scan, led_to, linked}
use Rattle.law_log.specs.Chains.{Cell, Unborn, Published, head_of, version_at}
use Rattle.law_log.specs.Ghosts.{Log}
use Rattle.law_log.specs.Enabled.{IsLinked}
use Rattle.law_log.specs.Trace.{IsIn}
use Rattle.fkv_record.proofs.Shown.{from_on}
use Rattle.fkv_record.specs.Begin.{from_or_none}
use Rattle.fkv_record.specs.Layout.{record_bytes}
use Rattle.fkv_record.specs.declared.records.Record.{Record}
use Rattle.fkv_record.specs.declared.triples.Triple.{Triple}
use Rattle.fkv_scan.specs.Log as scan
use Rattle.fkv_scan.specs.Log.{HasTriple, HasNoTriple, record_home, triple_home}
use Rattle.fkv_scan.specs.Records.{Stands, next_of, version_of, losses_of, IsKept}
use Rattle.fkv_scan.specs.Scan.{Has, HasNone, IsGreatest, GoesOn, by_triple, by_none, by_record, IsLinked as IsScanLinked, IsScanned, IsLed, HasScan}
use Rattle.fkv_words.specs.Fields.{SpellsApart}
use Rattle.fkv_ops.specs.Values.{value_of}
use Rattle.law_paper.specs.Paper.Images.{ShowsCell}
use Rattle.law_paper.specs.Paper.Stands.{StandsOnPaper}
use Rattle.law_paper.specs.Paper.Values.{ShowsUpto, CountsAsLog}
use Rattle.law_paper.proofs.OfPaper.Here.{Showing, IsHere, IsNext, is_read, dropped_scanned, one, here, as_shown, in_own, of_chain, its_home, since_here, next_in, below_in, leads_nearest, leads_first, leads_in}
use Rattle.law_paper.proofs.OfPaper.Values.{shows_upto}
use Rattle.law_paper.proofs.OfPaper.Down.{head_in, in_below, in_low, leads_to, versions_fall}

same_cell : (c d : Cell) → Published c ≡ Published d → c ≡ d
same_cell c d is = cc

not_published : (cell : Cell) → Unborn ≡ Published cell → ⊥
not_published cell is = absurd (cc)

-- a triple of a home, once: its address
pub triple_once : (image : scan.Log) (h t u : ℕ) → ((i j : ℕ) (x y : Triple) → slice_get image.triples i ≡ Some x → slice_get image.triples j ≡ Some y → triple_home x ≡ triple_home y → i ≡ j)
    → HasTriple image h t → HasTriple image h u → t ≡ u
triple_once image h t u apart one other =
    let at : one.place ≡ other.place = apart one.place other.place one.triple other.triple one.stands other.stands (one.same ∙ sym other.same) in
    let both : Some one.triple ≡ Some other.triple = sym one.stands ∙ ap (slice_get image.triples) at ∙ other.stands in
    let same : one.triple ≡ other.triple = cc in
    sym one.address ∙ ap (λ (x : Triple). x.addr.0) same ∙ other.address

module _ (home : ℕ → ℕ) (image : scan.Log) (g : Log) (spells : SpellsApart record_bytes) (paper : StandsOnPaper home image g) where
  abbrev it : Showing home image.start image g
  it = record { spells = spells; orderly = paper.orderly; shows = paper.shows; begins = paper.begins }

  -- from the start on a header is read as the version of its record
  version_read : (a : ℕ) → image.start ≤ a → (p : IsHere image.start image g a) → version_of image (let s = p.shown in s.held) ≡ (let c = p.cell in c.version)
  version_read a from p =
      let s : ShowsCell image.start image a p.cell = p.shown in
      is_read image.start image g paper.recent s.held (let c = p.cell in c.version) (s.same from) (paper.recent.published a p.cell p.its from) (paper.cut.young a p.cell p.its p.low)

  -- ---- what is reached is published
  pub reached_here : (a : ℕ) → Reached image a → IsHere image.start image g a
  reached_here a (in_scan _ x from low stands valid) = since_here it a x from low stands valid
  reached_here a (led_to h _ t) = (of_chain it h a (paper.triples.in_chain h a t) t.in_log (paper.triples.below h a t)).0
  reached_here b (linked a _ x reached stands is some) =
      let p = reached_here a reached in
      let to = leads_in it a b p x stands is some in
      let below = p.low in
      let low = to.1 in
      (of_chain it _ b to.0 to.2 (omega (arith, low, below))).0

  -- ---- and what is published of these versions is reached
  -- down a chain, as far as the begin
  down : (chain : List ℕ) → IsLinked g.cells chain → (t a : ℕ) → IsIn t chain → IsIn a chain → image.begin ≤ a → a ≤ t → t < image.tail → ((b : ℕ) → IsIn b chain → image.begin ≤ b → b < image.tail → IsHere image.start image g b)
      → Reached image t → Reached image a
  down [] links t a has other begun low below there reached = absurd has
  down (c ∷ older) links t a (inl same) (inl at) begun low below there reached = subst (Reached image) (sym same ∙ at) reached
  down (c ∷ older) links t a (inl same) (inr rest) begun low below there reached =
      let p : IsHere image.start image g c = there c (inl refl) (omega (arith, same, begun, low)) (omega (arith, same, below)) in
      let s : ShowsCell image.start image c p.cell = p.shown in
      let next : (let c = p.cell in c.previous) ≡ head_of older = leads_to (g.cells c) p.cell (head_of older) p.its links.0 in
      let most = in_low g.cells older links.2 a rest in
      let falls = links.1 in
      let some : head_of older ≢ 0 = λ none. not_published _ (sym paper.orderly.none ∙ ap g.cells (sym none) ∙ (let q = there (head_of older) (inr (head_in older a rest)) (omega (arith, begun, most)) (omega (arith, falls, same, below)) in q.its)) in
      let leads : next_of image s.held ≡ head_of older = s.leads ∙ ap (from_or_none image.begin) next ∙ from_on image.begin (head_of older) (omega (arith, begun, most)) in
      down older links.2 (head_of older) a (head_in older a rest) rest begun most (omega (arith, falls, same, below)) (λ b has. there b (inr has))
      (Reached.linked c (head_of older) s.held (subst (Reached image) (sym same) reached) s.stands leads some)
  down (c ∷ older) links t a (inr has) (inl at) begun low below there reached =
      let high = in_below g.cells c older links.1 links.2 t has in absurd (omega (arith, high, at, low))
  down (c ∷ older) links t a (inr has) (inr rest) begun low below there reached = down older links.2 t a has rest begun low below (λ b its. there b (inr its)) reached

  pub here_reached : (a : ℕ) (cell : Cell) → g.cells a ≡ Published cell → image.begin ≤ a → cell.version ≤ image.version → Reached image a
  here_reached a cell is begun old =
      let low = paper.cut.covered a cell is old in
      let p : IsHere image.start image g a = here it a cell is begun low in
      let s : ShowsCell image.start image a cell = p.shown in
      ⊎_elim
      (λ under.
      let t = paper.triples.covers (home cell.key) a (paper.orderly.chains.its_chain a cell is) begun under in
      down (g.chains (home cell.key)) (paper.orderly.chains.linked _) t.0 a (paper.triples.in_chain _ t.0 t.1) (paper.orderly.chains.its_chain a cell is) begun t.2 (paper.triples.below _ t.0 t.1)
      (λ b has on within. (of_chain it _ b has on within).0) (led_to (home cell.key) t.0 t.1))
      (λ from. in_scan a s.held from low s.stands s.valid)
      (cases_lt a image.start)

  -- ---- what counts
  pub counts_of : (h a : ℕ) → IsIn a (g.chains h) → version_at (g.cells a) ≤ image.version → image.begin ≤ a → Has (Counts image h) a
  counts_of h a has old begun =
      let its = paper.orderly.chains.in_chain h a has in
      let cell : Cell = its.cell in
      let young : cell.version ≤ image.version = subst (λ (n : ℕ). n ≤ image.version) (ap version_at its.its) old in
      let low = paper.cut.covered a cell its.its young in
      let p : IsHere image.start image g a = here it a cell its.its begun low in
      let s : ShowsCell image.start image a cell = p.shown in
      let less = s.low in (
        s.held,
        record {
          reached = here_reached a cell its.its begun young;
          valid = record { stands = s.stands; valid = s.valid; same = its_home it a p s.held s.stands ∙ its.its_home };
          old_enough = omega (arith, less, young);
          version = λ from. (let same = version_read a from p in omega (arith, same, young));
          not_lost = λ from. paper.shows.none_lost a s.held from s.stands;
        },
      )

  pub of_counts : (h a : ℕ) (x : Record) → Counts image h a x → IsIn a (g.chains h) × (version_at (g.cells a) ≤ image.version) × (image.begin ≤ a) × (p : IsHere image.start image g a) × (x ≡ (let s = p.shown in s.held))
  of_counts h a x counts =
      let p : IsHere image.start image g a = reached_here a counts.reached in
      let is = as_shown it a p x counts.valid.stands in
      let at : home (let c = p.cell in c.key) ≡ h = sym (its_home it a p x counts.valid.stands) ∙ counts.valid.same in
      let version : version_at (g.cells a) ≡ (let c = p.cell in c.version) = ap version_at p.its in
      let old : (let c = p.cell in c.version) ≤ image.version = ⊎_elim
      (λ under. paper.old_below a p.cell p.its under)
      (λ from.
      let same = version_read a from p in
      let as_is : version_of image x ≡ version_of image (let s = p.shown in s.held) = ap (λ (y : Record). version_of image y) is in
      let enough = counts.version from in
      omega (arith, same, as_is, enough))
      (cases_lt a image.start) in
      (subst (λ (n : ℕ). IsIn a (g.chains n)) at (in_own it a p), omega (arith, version, old), p.begun, p, is)

  -- ---- the scan
  -- a kept record of a home
  kept_here : (h b : ℕ) (y : Record) → image.start ≤ b → b < image.tail → IsKept image h b y → (p : IsHere image.start image g b) × IsIn b (g.chains h)
  kept_here h b y from low kept =
      let p : IsHere image.start image g b = since_here it b y from low kept.here.stands kept.here.valid in
      let at : home (let c = p.cell in c.key) ≡ h = sym (its_home it b p y kept.here.stands) ∙ kept.here.same in
      (p, subst (λ (n : ℕ). IsIn b (g.chains n)) at (in_own it b p))

  is_kept : (h b : ℕ) → IsIn b (g.chains h) → image.start ≤ b → b < image.tail → Has (IsKept image h) b
  is_kept h b has from low =
      let p = of_chain it h b has (let begins = paper.begins in omega (arith, begins, from)) low in
      let s : ShowsCell image.start image b (let q = p.0 in q.cell) = (let q = p.0 in q.shown) in
      (s.held, record { here = record { stands = s.stands; valid = s.valid; same = its_home it b p.0 s.held s.stands ∙ p.1 }; not_lost = paper.shows.none_lost b s.held from s.stands })

  module _ (a : ℕ) (from : image.start ≤ a) (p : IsHere image.start image g a) where
    abbrev x : Record
    x = let s = p.shown in s.held

    abbrev h : ℕ
    h = record_home image.shape.bucket_bits x

    stands_x : Stands image a x
    stands_x = let s = p.shown in s.stands

    at_home : home (let c = p.cell in c.key) ≡ h
    at_home = sym (its_home it a p x stands_x)

    in_h : IsIn a (g.chains h)
    in_h = subst (λ (n : ℕ). IsIn a (g.chains n)) at_home (in_own it a p)

    next : IsNext image.begin (g.chains h) (next_of image x) × (next_of image x < a)
    next = next_in it h a p in_h

    below_is : (b : ℕ) → IsIn b (g.chains h) → image.begin ≤ b → b < a → b ≤ next_of image x
    below_is = below_in it h a p in_h

    version_x : version_of image x ≡ version_at (g.cells a)
    version_x = version_read a from p ∙ ap version_at (sym p.its)

    lower : a < image.tail
    lower = p.low

    nearest : losses_of image a x ≡ 0 → (b : ℕ) → IsGreatest (IsKept image h) image.start a b → (next_of image x ≡ b) × ((y : Record) → Stands image b y → version_of image y ≤ version_of image x)
    nearest not_lost b greatest =
        let least = greatest.from_on in
        let low = greatest.below in
        let below = lower in
        let k = kept_here h b greatest.here.0 least (omega (arith, low, below)) greatest.here.1 in (
          leads_nearest it h a p in_h image.start paper.begins (λ c z on less its. (kept_here h c z on less its).1) (is_kept h) b greatest,
          λ y stands.
              let s = (let q : IsHere image.start image g b = k.0 in q.shown) in
              let is : y ≡ s.held = one it b y s.held stands s.stands in
              let version : version_of image y ≡ version_at (g.cells b) = ap (λ (z : Record). version_of image z) is ∙ version_read b least k.0 ∙ ap version_at (sym (let q : IsHere image.start image g b = k.0 in q.its)) in
              let fall = versions_fall g.cells (g.chains h) (paper.orderly.chains.linked h) (paper.orderly.falls h) a b in_h k.1 low in
              let own = version_x in
              omega (arith, version, fall, own),
        )

    first : HasNone (IsKept image h) image.start a → next_of image x < image.start
    first = leads_first it h a p in_h image.start paper.begins (λ c z on less its. (kept_here h c z on less its).1) (is_kept h) paper.some_start

    -- a record of the chain below the start has its triple at or above it
    its_triple : (b : ℕ) → IsIn b (g.chains h) × (image.begin ≤ b) → b < image.start → (t : ℕ) × HasTriple image h t × (b ≤ t)
    its_triple b has low = paper.triples.covers h b has.0 has.1 low

    below : next_of image x < image.start → (q : ℕ) → GoesOn image h a q → next_of image x ≡ q
    below low q (by_triple triple under) =
        let up = below_is q (paper.triples.in_chain h q triple) triple.in_log (omega (arith, under, from)) in
        elim next.0 [
          | inl none ↦ omega (arith, none, up)
          | inr has ↦
              let t = its_triple (next_of image x) has low in
              let same : t.0 ≡ q = triple_once image h t.0 q paper.triples.apart t.1 triple in
              let high = t.2 in
              omega (arith, up, same, high)
        ]
    below low q (by_none none is) = elim next.0 [
      | inl zero_is ↦ omega (arith, zero_is, is)
      | inr has ↦ (let t = its_triple (next_of image x) has low in absurd (none t.0 t.1))
    ]
    below low q (by_record c y least within valid leads under) =
        let most = lower in
        let k = since_here it c y least (omega (arith, within, most)) valid.stands valid.valid in
        let at : home (let d = k.cell in d.key) ≡ h = sym (its_home it c k y valid.stands) ∙ valid.same in
        let up = below_is c (subst (λ (n : ℕ). IsIn c (g.chains n)) at (in_own it c k)) k.begun within in
        omega (arith, up, least, low)

    pub is_linked : IsScanLinked image a x
    is_linked = record {
      nearest = nearest;
      first = λ not_lost none. first none;
      lost = λ is_lost from_on. absurd (is_lost (paper.shows.none_lost a x from stands_x));
      below = below;
    }

  scanned : (a : ℕ) → image.start ≤ a → a < image.tail → IsScanned image a
  scanned a from low = elim (paper.shows.decided a from low) [
    | inl published ↦
        let p : IsHere image.start image g a = here it a published.0 published.1 (let begins = paper.begins in omega (arith, begins, from)) low in
        let s : ShowsCell image.start image a published.0 = p.shown in
        let version = version_read a from p in
        let least = paper.recent.published a published.0 published.1 from in
        let young = paper.cut.young a published.0 published.1 low in
        record {
          held = s.held;
          fits = record { stands = s.stands; new_enough = omega (arith, version, least); old_enough = omega (arith, version, young); falls = (next a from p).1 };
          linked = λ valid. is_linked a from p;
        }
    | inr dropped ↦ dropped_scanned image.start image g paper.recent a dropped.0 dropped.1 from (paper.shows.dropped a dropped.0 dropped.1 from low)
  ]

  led : (i : ℕ) (triple : Triple) → slice_get image.triples i ≡ Some triple → IsLed image triple
  led i triple stands from =
      let t : HasTriple image (triple_home triple) triple.addr.0 = record { place = i; triple = triple; stands = stands; same = refl; address = refl; in_log = (let b = paper.begins in omega (arith, b, from)) } in
      (let kept = is_kept (triple_home triple) triple.addr.0 (paper.triples.in_chain _ _ t) from (paper.triples.below _ _ t) in (kept.0, kept.1.here))

  pub has_scan : HasScan image
  has_scan = record { records = scanned; triples = led }

  -- ---- the chains below
  leading_is : (a : ℕ) (p : IsHere image.start image g a) (leading : ℕ) → LeadsTo image leading a → home (let c = p.cell in c.key) ≡ leading
  leading_is a p leading (from_triple t) =
      let q = of_chain it leading a (paper.triples.in_chain leading a t) p.begun p.low in
      ap (λ (c : Cell). home c.key) (same_cell p.cell (let r = q.0 in r.cell) (sym p.its ∙ (let r = q.0 in r.its))) ∙ q.1
  leading_is a p leading (from_record b y reached stands at leads some) =
      let r : IsHere image.start image g b = reached_here b reached in
      let own : home (let c = r.cell in c.key) ≡ leading = sym (its_home it b r y stands) ∙ at in
      let q = of_chain it (home (let c = r.cell in c.key)) a (leads_in it b a r y stands leads some).0 p.begun p.low in
      ap (λ (c : Cell). home c.key) (same_cell p.cell (let t = q.0 in t.cell) (sym p.its ∙ (let t = q.0 in t.its))) ∙ q.1 ∙ own

  pub has_chains : HasChains image
  has_chains a reached under =
      let p : IsHere image.start image g a = reached_here a reached in
      let s : ShowsCell image.start image a p.cell = p.shown in
      let less = s.low in
      let old = paper.old_below a p.cell p.its under in
      let falls = (next_in it _ a p (in_own it a p)).1 in
      record {
        held = s.held;
        old = record { stands = s.stands; old_enough = omega (arith, less, old); falls = falls };
        valid = s.valid;
        same = λ leading leads_to. its_home it a p s.held s.stands ∙ leading_is a p leading leads_to;
      }

  pub counts_as_log : CountsAsLog home image g
  counts_as_log = record {
    homes = paper.shows.homes;
    orderly = paper.orderly;
    counts = counts_of;
    stands = λ h a x counts. (let c = of_counts h a x counts in (c.0, c.1, c.2));
    tells = λ h a x counts.
        let c = of_counts h a x counts in
        let s = (let p = c.3 in p.shown) in
        record { cell = (let p = c.3 in p.cell); its = (let p = c.3 in p.its); its_key = ap (λ (y : Record). y.key.0) c.4 ∙ s.its_key; its_value = ap (λ (y : Record). value_of y.value) c.4 ∙ s.its_value };
    live = paper.live;
  }

  pub paper_shows : ShowsUpto home image g
  paper_shows = shows_upto home image g spells counts_as_log
