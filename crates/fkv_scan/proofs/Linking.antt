-- The records of a part are taken in by their homes.
use Rattle.std.proofs.Common.{◌≡◌, ◌≢◌, ◌⊎◌, inl, inr, ⊎_elim, ℕ, ◌+◌, ◌<◌, ◌≤◌, List, length, true, false, Option, Some, None, refl, sym, ap, subst, ◌∙◌, arith}
use Rattle.std.specs.Prelude.{slice_get, nat_eq}
use Rattle.std.proofs.lemmas.Bool.Decides.{nat_tests}
use Rattle.std.proofs.lemmas.Option.{slice_get_past, slice_get_within}
use Rattle.fkv_record.specs.declared.records.Record.{Record}
use Rattle.fkv_scan.specs.declared.home_scans.HomeScan.{HomeScan}
use Rattle.fkv_scan.specs.declared.met_records.MetRecord.{MetRecord}
use Rattle.fkv_scan.specs.Log.{Log, record_home}
use Rattle.fkv_scan.specs.Records.{Stands, IsValid}
use Rattle.fkv_scan.specs.Scan.{IsOff, IsScanned, IsFit}
use Rattle.fkv_scan.specs.Known.{KnowsOf, KnowsAll}
use Rattle.fkv_scan.specs.Parts.{AreMet, RiseByHome, IsTakenIn, AreLinked}
use Rattle.fkv_scan.proofs.Greatest.{at_or_below, below_or_not}
use Rattle.fkv_scan.proofs.Keys.{some_is, bool_is}
use Rattle.fkv_scan.proofs.Knowing.{knows_up_to}

-- all records of a home before a place of the list are below an address, and all from that place on aren't
pub record IsUpTo (mets : List MetRecord) (i its_home to : ℕ) : Type 0 where
  pub before : (j : ℕ) (m : MetRecord) → j < i → slice_get mets j ≡ Some m → m.home ≡ its_home → m.addr.0 < to
  pub after : (j : ℕ) (m : MetRecord) → i ≤ j → slice_get mets j ≡ Some m → m.home ≡ its_home → to ≤ m.addr.0

-- So many records were taken in. All below this address are on their chains, and that of this address isn't if it is one of the part. Up to this address it is
-- known of a home what its records tell.
pub record AreTaken (log : Log) (from to : ℕ) (mets : List MetRecord) (i linked : ℕ) (at : ℕ → Option HomeScan) : Type 0 where
  pub at_most : linked ≤ to
  pub off : linked < to → (from ≤ linked) × IsOff log linked
  pub scanned : (j : ℕ) (m : MetRecord) → j < i → slice_get mets j ≡ Some m → m.addr.0 < linked → IsScanned log m.addr.0
  pub known : (its_home a : ℕ) → from ≤ a → a ≤ linked → IsUpTo mets i its_home a → KnowsOf log its_home a (at its_home)

same_or_other : (a b : ℕ) → (a ≡ b) ⊎ (a ≢ b)
same_or_other a b = ⊎_elim (λ yes. inl (grind (arith, nat_tests, yes))) (λ no. inr (λ same. (let yes : nat_eq a b ≡ true = grind (arith, nat_tests, same) in let never : true ≡ false = sym yes ∙ no in absurd (cc)))) (bool_is (nat_eq a b))

module _ (log : Log) (from to : ℕ) (mets : List MetRecord) (are : AreMet log from to mets) where
  -- a valid record of a home is in the list
  listed : (its_home c : ℕ) (y : Record) → from ≤ c → c < to → IsValid log its_home c y → (j : ℕ) × (m : MetRecord) × (slice_get mets j ≡ Some m) × (m.addr.0 ≡ c) × (m.home ≡ its_home)
  listed its_home c y on below valid =
      let has = are.all c y on below valid.stands valid.valid in
      let tells = (are.each has.place has.met has.stands).0 in
      let same : y ≡ tells.held = tells.alone y (subst (λ n. Stands log n y) (sym has.address) valid.stands) in
      (has.place, has.met, has.stands, has.address, tells.home ∙ ap (λ r. record_home log.shape.bucket_bits r) (sym same) ∙ valid.same)

  -- none of a home is between two addresses
  none_between : (its_home i low high : ℕ) → from ≤ low → high ≤ to → ((j : ℕ) (m : MetRecord) → j < i → slice_get mets j ≡ Some m → m.home ≡ its_home → m.addr.0 < low) → ((j : ℕ) (m : MetRecord) → i ≤ j → slice_get mets j ≡ Some m → m.home ≡ its_home → high ≤ m.addr.0)
      → (c : ℕ) (y : Record) → low ≤ c → c < high → IsValid log its_home c y → ⊥
  none_between its_home i low high on most before after c y from_low below valid =
      let its = listed its_home c y (omega (arith, on, from_low)) (omega (arith, below, most)) valid in
      let address = its.3 in
      ⊎_elim (λ earlier. (let less = before its.0 its.1 earlier its.2 its.4 in omega (arith, less, address, from_low)))
      (λ later. (let more = after its.0 its.1 later its.2 its.4 in omega (arith, more, address, below))) (below_or_not its.0 i)

  pub none_taken : (at : ℕ → Option HomeScan) → KnowsAll log from at → AreTaken log from to mets 0 to at
  none_taken at all = record {
    at_most = omega arith;
    off = λ less. absurd (omega (arith, less));
    scanned = λ j m less. absurd (omega (arith, less));
    known = λ its_home a on most up. knows_up_to log its_home from a (at its_home) on (all its_home)
        (none_between its_home 0 from a (omega arith) most (λ j m less. absurd (omega (arith, less))) (λ j m later is same. up.after j m later is same));
  }

  -- the next record
  module _ (rise : RiseByHome mets) (i linked : ℕ) (at : ℕ → Option HomeScan) (taken : AreTaken log from to mets i linked at) (m : MetRecord) (here : slice_get mets i ≡ Some m) where
    is_at : (j : ℕ) (n : MetRecord) → slice_get mets j ≡ Some n → j ≡ i → m ≡ n
    is_at j n is same = some_is m n (sym here ∙ ap (λ k. slice_get mets k) (sym same) ∙ is)

    lower : (j : ℕ) (n : MetRecord) → j < i → slice_get mets j ≡ Some n → n.home ≡ m.home → n.addr.0 < m.addr.0
    lower j n less is same = rise j i n m is here less same

    upper : (j : ℕ) (n : MetRecord) → i + 1 ≤ j → slice_get mets j ≡ Some n → n.home ≡ m.home → m.addr.0 < n.addr.0
    upper j n later is same = rise i j m n here is (omega (arith, later)) (sym same)

    up_to_here : IsUpTo mets i m.home m.addr.0
    up_to_here = record {
      before = lower;
      after = λ j n later is same. ⊎_elim (λ less. absurd (omega (arith, less, later)))
          (λ more. ⊎_elim (λ at_i. (let equal : m.addr.0 ≡ n.addr.0 = ap (λ (r : MetRecord). r.addr.0) (is_at j n is at_i) in omega (arith, equal))) (λ past. (let low = upper j n past is same in omega (arith, low))) (here_or_past j more))
          (below_or_not j i);
    }
      where
        here_or_past : (j : ℕ) → i ≤ j → (j ≡ i) ⊎ (i + 1 ≤ j)
        here_or_past j on = ⊎_elim (λ less. inl (omega (arith, on, less))) inr (below_or_not j (i + 1))

    -- what is known of its home
    pub known_here : m.addr.0 < linked → KnowsOf log m.home m.addr.0 (at m.home)
    known_here below = taken.known m.home m.addr.0 (are.each i m here).1 (omega (arith, below)) up_to_here

    -- the others
    up_to_before : (its_home a : ℕ) → m.home ≢ its_home → IsUpTo mets (i + 1) its_home a → IsUpTo mets i its_home a
    up_to_before its_home a other up = record {
      before = λ j n less is same. up.before j n (omega (arith, less)) is same;
      after = λ j n later is same. ⊎_elim (λ less. absurd (other (ap (λ (r : MetRecord). r.home) (is_at j n is (omega (arith, less, later))) ∙ same))) (λ past. up.after j n past is same) (below_or_not j (i + 1));
    }

    known_other : (next : ℕ → Option HomeScan) → ((q : ℕ) → m.home ≢ q → next q ≡ at q) → (its_home a : ℕ) → m.home ≢ its_home → from ≤ a → a ≤ linked → IsUpTo mets (i + 1) its_home a → KnowsOf log its_home a (next its_home)
    known_other next others its_home a other on most up = subst (λ o. KnowsOf log its_home a o) (sym (others its_home other)) (taken.known its_home a on most (up_to_before its_home a other up))

    passed : (its_home a : ℕ) → m.home ≡ its_home → IsUpTo mets (i + 1) its_home a → m.addr.0 < a
    passed its_home a same up = up.before i m (omega arith) here same

    scanned_before : (bound : ℕ) → bound ≤ linked → bound ≤ m.addr.0 → (j : ℕ) (n : MetRecord) → j < i + 1 → slice_get mets j ≡ Some n → n.addr.0 < bound → IsScanned log n.addr.0
    scanned_before bound most low j n less is below = ⊎_elim (λ earlier. taken.scanned j n earlier is (omega (arith, below, most)))
        (λ same. (let equal : m.addr.0 ≡ n.addr.0 = ap (λ (r : MetRecord). r.addr.0) (is_at j n is same) in absurd (omega (arith, equal, below, low)))) (at_or_below j i less)

    -- it lies past a faulty one
    pub taken_past : linked ≤ m.addr.0 → AreTaken log from to mets (i + 1) linked at
    taken_past past = record {
      at_most = taken.at_most;
      off = taken.off;
      scanned = scanned_before linked (omega arith) past;
      known = λ its_home a on most up. ⊎_elim (λ same. (let low = passed its_home a same up in absurd (omega (arith, low, most, past)))) (λ other. known_other at (λ q apart. refl) its_home a other on most up)
          (same_or_other m.home its_home);
    }

    -- it isn't on its chain
    pub taken_off : m.addr.0 < linked → (next : ℕ → Option HomeScan) → IsTakenIn log m at next false → AreTaken log from to mets (i + 1) m.addr.0 next
    taken_off below next off = record {
      at_most = (let most = taken.at_most in omega (arith, most, below));
      off = λ less. ((are.each i m here).1, off.0);
      scanned = scanned_before m.addr.0 (omega (arith, below)) (omega arith);
      known = λ its_home a on most up. ⊎_elim (λ same. (let low = passed its_home a same up in absurd (omega (arith, low, most))))
          (λ other. known_other next off.1 its_home a other on (omega (arith, most, below)) up) (same_or_other m.home its_home);
    }

    -- it is
    pub taken_on : m.addr.0 < linked → (next : ℕ → Option HomeScan) → IsTakenIn log m at next true → AreTaken log from to mets (i + 1) linked next
    taken_on below next on = record {
      at_most = taken.at_most;
      off = taken.off;
      scanned = λ j n less is low. ⊎_elim (λ earlier. taken.scanned j n earlier is low) (λ same. subst (λ (r : MetRecord). IsScanned log r.addr.0) (is_at j n is same) on.0) (at_or_below j i less);
      known = λ its_home a on_from most up. ⊎_elim (λ same. of_home its_home a same most up) (λ other. known_other next on.2 its_home a other on_from most up) (same_or_other m.home its_home);
    }
      where
        of_home : (its_home a : ℕ) → m.home ≡ its_home → a ≤ linked → IsUpTo mets (i + 1) its_home a → KnowsOf log its_home a (next its_home)
        of_home its_home a same most up =
            let low = passed its_home a same up in
            let start = (are.each i m here).1 in
            let end = taken.at_most in
            knows_up_to log its_home (m.addr.0 + 1) a (next its_home) (omega (arith, low)) (subst (λ h. KnowsOf log h (m.addr.0 + 1) (next h)) same on.1)
            (none_between its_home (i + 1) (m.addr.0 + 1) a (omega (arith, start)) (omega (arith, most, end))
            (λ j n less is its. ⊎_elim (λ earlier. (let l = lower j n earlier is (its ∙ sym same) in omega (arith, l))) (λ equal. (let e : m.addr.0 ≡ n.addr.0 = ap (λ (r : MetRecord). r.addr.0) (is_at j n is equal) in omega (arith, e))) (at_or_below j i less))
            up.after)

  -- all were taken in
  pub all_linked : (linked : ℕ) (at : ℕ → Option HomeScan) → AreTaken log from to mets (length mets) linked at → AreLinked log from to linked at
  all_linked linked at taken = record {
    at_most = taken.at_most;
    scanned = λ c on below. (let most = taken.at_most in scanned_at c on below (are.fit c on (omega (arith, below, most))));
    off = taken.off;
    known = λ all its_home.
        subst (λ n. KnowsOf log its_home n (at its_home)) all
        (taken.known its_home linked (let up = are.upwards in omega (arith, up, all)) (omega arith) (record {
          before = λ j m less is same. (let low = (are.each j m is).2 in omega (arith, low, all));
          after = λ j m later is same. (let never : None ≡ Some m = sym (slice_get_past mets j later) ∙ is in absurd (cc));
        }));
  }
    where
      scanned_at : (c : ℕ) → from ≤ c → c < linked → (x : Record) × IsFit log c x → IsScanned log c
      scanned_at c on below fit = ⊎_elim
          (λ invalid. record { held = fit.0; fits = fit.1; linked = λ valid. (let never : true ≡ false = sym invalid ∙ valid in absurd (cc)) })
          (λ valid.
          let most = taken.at_most in
          let has = are.all c fit.0 on (omega (arith, below, most)) fit.1.stands valid in
          subst (λ n. IsScanned log n) has.address (taken.scanned has.place has.met (slice_get_within mets has.place has.met has.stands) has.stands (let e = has.address in omega (arith, e, below))))
          (bool_is fit.0.header.invalid)
