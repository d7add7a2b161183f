-- From the entry of a home its chain leads to just the records that count.
use Rattle.std.proofs.Common.{◌≡◌, ◌≢◌, inl, inr, ⊎_elim, ℕ, zero, suc, ◌<◌, ◌≤◌, refl, sym, subst, ◌∙◌, arith}
use Rattle.std.proofs.lemmas.Bool.{cases_lt}
use Rattle.fkv_words.specs.Fields.{SpellsApart}
use Rattle.fkv_record.specs.declared.records.Record.{Record}
use Rattle.fkv_record.specs.Layout.{record_bytes}
use Rattle.fkv_marks.proofs.Shown.{version_least}
use Rattle.fkv_scan.specs.Log.{Log}
use Rattle.fkv_scan.specs.Records.{next_of, version_of, Stands, IsKept, IsCounted}
use Rattle.fkv_scan.specs.Scan.{Has, HasNone, IsGreatest, IsLinked, GoesOn, by_record}
use Rattle.fkv_chains.specs.Reached.{Reached, in_scan, linked, LeadsTo, from_record}
use Rattle.fkv_chains.specs.Along.{IsAlong, here, on}
use Rattle.fkv_chains.specs.Entries.{Counts, IsEntry}
use Rattle.fkv_chains.proofs.Shown.{along_some, to_follow}
use Rattle.fkv_pairs.specs.Gathered.{IsFaultless}
use Rattle.fkv_pairs.specs.Pairs.{IsChainOf}
use Rattle.fkv_pairs.proofs.Meeting.{one, met, nearest, newest, links, scan_falls, chain_falls, some_reached, Greatest}
use Rattle.fkv_pairs.proofs.Ways.{IsOnWay, on_way, one_way}

module _ (spelled : SpellsApart record_bytes) (log : Log) (sound : IsFaultless log) where
  -- below the start what a home leads to counts
  below_counts : (its_home a : ℕ) → Reached log a → a < log.start → LeadsTo log its_home a → Has (Counts log its_home) a
  below_counts its_home a reached low leads =
      let this = sound.chains a reached low in (
        this.held,
        record {
          reached = reached;
          valid = record { stands = this.old.stands; valid = this.valid; same = this.same its_home leads };
          old_enough = this.old.old_enough;
          version = λ from. absurd (omega (arith, from, low));
          not_lost = λ from. absurd (omega (arith, from, low));
        },
      )

  module _ (its_home : ℕ) where
    counts_kept : (a : ℕ) (x : Record) → log.start ≤ a → Counts log its_home a x → IsKept log its_home a x
    counts_kept a x from counts = record { here = counts.valid; not_lost = counts.not_lost from }

    pub falls : (a : ℕ) (x : Record) → Counts log its_home a x → next_of log x < a
    falls a x counts = ⊎_elim
        (λ low. chain_falls spelled log sound a x counts.reached low counts.valid.stands)
        (λ from. scan_falls spelled log sound a x from (met spelled log sound a counts.reached from).0 counts.valid.stands)
        (cases_lt a log.start)

    -- a record of the scan that counts
    module _ (a : ℕ) (x : Record) (from : log.start ≤ a) (counts : Counts log its_home a x) where
      within : a < log.tail
      within = (met spelled log sound a counts.reached from).0

      its_links : IsLinked log a x
      its_links = links spelled log sound a x from within counts.valid.stands counts.valid.valid

      to_nearest : (c : ℕ) → IsGreatest (IsKept log its_home) log.start a c → (next_of log x ≡ c) × ((y : Record) → Stands log c y → version_of log y ≤ version_of log x)
      to_nearest c greatest = its_links.nearest (counts.not_lost from) c (subst (λ (h : ℕ). IsGreatest (IsKept log h) log.start a c) (sym counts.valid.same) greatest)

      to_below : HasNone (IsKept log its_home) log.start a → next_of log x < log.start
      to_below none = its_links.first (counts.not_lost from) (subst (λ (h : ℕ). HasNone (IsKept log h) log.start a) (sym counts.valid.same) none)

      its_nearest : Greatest (IsKept log its_home) log.start a
      its_nearest = nearest spelled log sound its_home a (let low = within in omega (arith, low))

    reached_next : (a : ℕ) (x : Record) → Counts log its_home a x → next_of log x ≢ 0 → Reached log (next_of log x)
    reached_next a x counts some = linked a (next_of log x) x counts.reached counts.valid.stands refl some

    leads_next : (a : ℕ) (x : Record) → Counts log its_home a x → next_of log x ≢ 0 → LeadsTo log its_home (next_of log x)
    leads_next a x counts some = from_record a x counts.reached counts.valid.stands counts.valid.same refl some

    next_in_scan : (a : ℕ) (x : Record) → log.start ≤ a → Counts log its_home a x → next_of log x ≢ 0 → Greatest (IsKept log its_home) log.start a → Has (Counts log its_home) (next_of log x)
    next_in_scan a x from counts some (inl found) =
        let leads = to_nearest a x from counts found.0 found.1 in
        let kept = found.1.here in
        let older = leads.1 kept.0 kept.1.here.stands in
        let old = counts.version from in
        let least = version_least log.version (let y = kept.0 in y.header.version.0) in
        subst (λ (n : ℕ). Has (Counts log its_home) n) (sym leads.0) (
          kept.0,
          record {
            reached = subst (λ (n : ℕ). Reached log n) leads.0 (reached_next a x counts some);
            valid = kept.1.here;
            old_enough = omega (arith, least, older, old);
            version = λ on. omega (arith, older, old);
            not_lost = λ on. kept.1.not_lost;
          },
        )
    next_in_scan a x from counts some (inr none) =
        below_counts its_home (next_of log x) (reached_next a x counts some) (to_below a x from counts none) (leads_next a x counts some)

    -- a record that counts leads to one that counts
    pub next_counts : (a : ℕ) (x : Record) → Counts log its_home a x → next_of log x ≢ 0 → Has (Counts log its_home) (next_of log x)
    next_counts a x counts some = ⊎_elim
        (λ low.
        let lower = chain_falls spelled log sound a x counts.reached low counts.valid.stands in
        below_counts its_home (next_of log x) (reached_next a x counts some) (omega (arith, lower, low)) (leads_next a x counts some))
        (λ from. next_in_scan a x from counts some (its_nearest a x from counts))
        (cases_lt a log.start)

    -- and so on, downwards
    pub along_counts : (a b : ℕ) → Has (Counts log its_home) a → IsAlong log a b → Has (Counts log its_home) b × (b ≤ a)
    along_counts a b has (here _ some) = (has, omega arith)
    along_counts a b has (on _ _ x some stands rest) =
        let equal : has.0 ≡ x = one spelled log sound a has.0 x has.1.valid.stands stands in
        let counts : Counts log its_home a x = subst (λ (y : Record). Counts log its_home a y) equal has.1 in
        let further = along_counts (next_of log x) b (next_counts a x counts (along_some log (next_of log x) b rest)) rest in
        let low = further.1 in
        let lower = falls a x counts in
        (further.0, omega (arith, low, lower))

    -- below the start a record that counts is on the one way there
    way_of : (b : ℕ) (y : Record) → b < log.start → Counts log its_home b y → IsOnWay log its_home b
    way_of b y low counts = subst (λ (h : ℕ). IsOnWay log h b) counts.valid.same (on_way spelled log sound b y counts.reached low counts.valid.stands)

    -- where the chain goes on there counts too
    way_counts : (b : ℕ) (way : IsOnWay log its_home b) → Has (Counts log its_home) way.way × (b ≤ way.way)
    way_counts b way =
        let follow = to_follow log its_home way.way way.goes in
        let some = along_some log way.way b way.along in
        let has = below_counts its_home way.way (follow.reached some) (follow.below_start some) (follow.led some) in
        (has, (along_counts way.way b has way.along).1)

    -- from a record of the scan that counts the chain leads to each below that counts
    module _ (b : ℕ) (y : Record) (counted : Counts log its_home b y) where
      below_nearest : (a c : ℕ) → IsGreatest (IsKept log its_home) log.start a c → b < a → b ≤ c
      below_nearest a c greatest less = ⊎_elim
          (λ above. ⊎_elim
          (λ low. (let from = greatest.from_on in absurd (omega (arith, above, low, from))))
          (λ from. absurd (greatest.none_above b y (omega (arith, above)) less (counts_kept b y from counted)))
          (cases_lt b log.start))
          (λ most. most)
          (cases_lt c b)

      below_start : (a : ℕ) → HasNone (IsKept log its_home) log.start a → b < a → b < log.start
      below_start a none less = ⊎_elim (λ low. low) (λ from. absurd (none b y from less (counts_kept b y from counted))) (cases_lt b log.start)

      last_step : (a : ℕ) (x : Record) → log.start ≤ a → Counts log its_home a x → HasNone (IsKept log its_home) log.start a → b < a → IsAlong log (next_of log x) b
      last_step a x from counts none less =
          let way = way_of b y (below_start a none less) counted in
          let goes : GoesOn log its_home log.tail (next_of log x) = by_record a x from (within a x from counts) counts.valid refl (to_below a x from counts none) in
          subst (λ (n : ℕ). IsAlong log n b) (one_way spelled log sound its_home way.way (next_of log x) way.goes goes) way.along

      by_step : (a : ℕ) (x : Record) → log.start ≤ a → Counts log its_home a x → b < a → ((c : ℕ) → c < a → Has (Counts log its_home) c → log.start ≤ c → b ≤ c → IsAlong log c b) → Greatest (IsKept log its_home) log.start a → IsAlong log (next_of log x) b
      by_step a x from counts less go (inr none) = last_step a x from counts none less
      by_step a x from counts less go (inl found) =
          let leads = (to_nearest a x from counts found.0 found.1).0 in
          let on_from = found.1.from_on in
          let low = below_nearest a found.0 found.1 less in
          let start = sound.some_start in
          go (next_of log x) (falls a x counts) (next_counts a x counts (λ none. omega (arith, none, leads, on_from, start))) (omega (arith, leads, on_from)) (omega (arith, leads, low))

      -- by steps, at most n of them
      downwards : (n a : ℕ) → a < n → Has (Counts log its_home) a → log.start ≤ a → b ≤ a → IsAlong log a b
      downwards zero a few has from most = absurd (omega (arith, few))
      downwards (suc n) a few has from most = ⊎_elim
          (λ less. on a b has.0 (some_reached spelled log sound a has.1.reached) has.1.valid.stands
          (by_step a has.0 from has.1 less (λ c lower has_c from_c most_c. downwards n c (omega (arith, lower, few)) has_c from_c most_c) (its_nearest a has.0 from has.1)))
          (λ no_less. (let same : a ≡ b = omega (arith, most, no_less) in subst (λ (m : ℕ). IsAlong log a m) same (here a (some_reached spelled log sound a has.1.reached))))
          (cases_lt b a)

    -- from the entry to each that counts
    pub entry_along : (e b : ℕ) (y : Record) → IsEntry log its_home e → Counts log its_home b y → IsAlong log e b
    entry_along e b y entry counts = ⊎_elim
        (λ low.
        let way = way_of e entry.counts.0 low entry.counts.1 in
        let first = way_counts e way in
        let up = first.1 in
        let down = entry.greatest way.way first.0.0 first.0.1 in
        let most = entry.greatest b y counts in
        let its = way_of b y (omega (arith, low, most)) counts in
        let same : its.way ≡ e = one_way spelled log sound its_home its.way way.way its.goes way.goes ∙ (omega (arith, up, down)) in
        subst (λ (n : ℕ). IsAlong log n b) same its.along)
        (λ from. downwards b y counts (suc e) e (omega arith) entry.counts from (entry.greatest b y counts))
        (cases_lt e log.start)

    -- a home with a record that counts has an entry
    from_scan : (c : ℕ) → IsGreatest (IsCounted log its_home) log.start log.tail c → IsEntry log its_home c
    from_scan c greatest = record {
      counts = (
        greatest.here.0,
        (let this = greatest.here.1 in
            record {
              reached = in_scan c greatest.here.0 greatest.from_on greatest.below this.kept.here.stands this.kept.here.valid;
              valid = this.kept.here;
              old_enough = (let least = version_least log.version (let x = greatest.here.0 in x.header.version.0) in let old = this.old_enough in omega (arith, least, old));
              version = λ on. this.old_enough;
              not_lost = λ on. this.kept.not_lost;
            }),
      );
      greatest = λ b y counts. ⊎_elim
          (λ above.
          let on = greatest.from_on in
          let from : log.start ≤ b = omega (arith, above, on) in
          absurd (greatest.none_above b y (omega (arith, above)) (met spelled log sound b counts.reached from).0 (record { kept = counts_kept b y from counts; old_enough = counts.version from })))
          (λ most. most)
          (cases_lt c b);
    }

    under : HasNone (IsCounted log its_home) log.start log.tail → (b : ℕ) (y : Record) → Counts log its_home b y → b < log.start
    under none b y counts = ⊎_elim (λ low. low)
        (λ from. absurd (none b y from (met spelled log sound b counts.reached from).0 (record { kept = counts_kept b y from counts; old_enough = counts.version from })))
        (cases_lt b log.start)

    pub has_entry : (b : ℕ) (y : Record) → Counts log its_home b y → (e : ℕ) × IsEntry log its_home e
    has_entry b y counts = ⊎_elim
        (λ found. (found.0, from_scan found.0 found.1))
        (λ none.
        let way = way_of b y (under none b y counts) counts in (
          way.way,
          record {
            counts = (way_counts b way).0;
            greatest = λ c z other.
                let its = way_of c z (under none c z other) other in
                let most = (way_counts c its).1 in
                let same = one_way spelled log sound its_home its.way way.way its.goes way.goes in
                omega (arith, most, same);
          },
        ))
        (newest spelled log sound its_home)

    pub is_chain_of : (e : ℕ) → IsEntry log its_home e → IsChainOf log its_home e
    is_chain_of e entry = record {
      all = λ b. (λ along. (along_counts e b entry.counts along).0, λ has. entry_along e b has.0 entry has.1);
      falls = λ b c first second. (along_counts b c (along_counts e b entry.counts first).0 second).1;
    }
