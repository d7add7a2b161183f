-- A part of the scan is read, from one address to the next.
use Rattle.std.proofs.Common.{◌≡◌, ⊎_elim, ℕ, ◌+◌, ◌<◌, ◌≤◌, List, [], ◌∷◌, ◌++◌, length, Bool, true, false, Some, refl, sym, ap, subst, ◌∙◌, arith}
use Rattle.std.specs.Prelude.{slice_get, ◌↔◌, ◌||◌}
use Rattle.std.specs.List.{All}
use Rattle.std.proofs.lemmas.List.Elements.{All-nil, All-push, All-head, All-tail, All-weaker}
use Rattle.fkv_record.specs.declared.records.Record.{Record}
use Rattle.fkv_scan.specs.declared.gathering.Gathered.{Gathered}
use Rattle.fkv_scan.specs.declared.met_records.MetRecord.{MetRecord}
use Rattle.fkv_scan.specs.Log.{Log}
use Rattle.fkv_scan.specs.Records.{Stands, IsNewer}
use Rattle.fkv_scan.specs.Scan.{Has, IsFit}
use Rattle.fkv_scan.specs.Parts.{Tells, IsGivenUp, HasMet, AreMet, Rise, TellsNewerIn, IsGathered}
use Rattle.fkv_scan.proofs.Greatest.{at_or_below, none_at_start, none_more}
use Rattle.fkv_scan.proofs.Triples.{got_more, still_there, last_there}

-- what was read so far
pub record IsReadTo (log : Log) (from a : ℕ) (mets : List MetRecord) (newer : Bool) : Type 0 where
  pub are : AreMet log from a mets
  pub below : All (λ (m : MetRecord). m.addr.0 < a) mets
  pub rise : Rise mets
  pub tells : TellsNewerIn log from a newer

pub nothing_read : (log : Log) (from : ℕ) → IsReadTo log from from [] false
nothing_read log from = record {
  are = record { upwards = omega arith; each = λ i m is. absurd (cc); all = λ c x on below. absurd (omega (arith, on, below)); fit = λ c on below. absurd (omega (arith, on, below)) };
  below = All-nil (λ (m : MetRecord). m.addr.0 < from);
  rise = tt;
  tells = none_at_start (IsNewer log) from;
}

rise_more : (mets : List MetRecord) (m : MetRecord) → Rise mets → All (λ (n : MetRecord). n.addr.0 < m.addr.0) mets → Rise (mets ++ m ∷ [])
rise_more [] m rise below = (All-nil (λ (n : MetRecord). m.addr.0 < n.addr.0), tt)
rise_more (n ∷ mets) m rise below = (
  All-push (λ (o : MetRecord). n.addr.0 < o.addr.0) mets m rise.0 (All-head (λ (o : MetRecord). o.addr.0 < m.addr.0) n mets below),
  rise_more mets m rise.1 (All-tail (λ (o : MetRecord). o.addr.0 < m.addr.0) n mets below),
)

has_more : (mets : List MetRecord) (m : MetRecord) (c : ℕ) → HasMet mets c → HasMet (mets ++ m ∷ []) c
has_more mets m c has = record { place = has.place; met = has.met; stands = still_there mets m has.place has.met has.stands; address = has.address }

module _ (log : Log) (from a : ℕ) (from_on : from ≤ a) (mets : List MetRecord) (newer : Bool) (so_far : IsReadTo log from a mets newer) where
  below_more : All (λ (m : MetRecord). m.addr.0 < a + 1) mets
  below_more = All-weaker (λ (m : MetRecord). m.addr.0 < a) (λ (m : MetRecord). m.addr.0 < a + 1) (λ m low. omega (arith, low)) mets so_far.below

  each_more : (i : ℕ) (m : MetRecord) → slice_get mets i ≡ Some m → Tells log m × (from ≤ m.addr.0) × (m.addr.0 < a + 1)
  each_more i m is = (let its = so_far.are.each i m is in let low = its.2 in (its.0, its.1, omega (arith, low)))

  -- a record that was given up
  pub read_past : IsGivenUp log a → IsReadTo log from (a + 1) mets newer
  read_past up = record {
    are = record {
      upwards = omega (arith, from_on);
      each = each_more;
      all = λ c x on below stands valid. ⊎_elim (λ less. so_far.are.all c x on less stands valid)
          (λ same. (let equal : x ≡ up.held = up.alone x (subst (λ n. Stands log n x) same stands) in let never : true ≡ false = sym up.invalid ∙ ap (λ (r : Record). r.header.invalid) (sym equal) ∙ valid in absurd (cc)))
          (at_or_below c a below);
      fit = λ c on below. ⊎_elim (λ less. so_far.are.fit c on less) (λ same. (up.held, subst (λ n. IsFit log n up.held) (sym same) up.fits)) (at_or_below c a below);
    };
    below = below_more;
    rise = so_far.rise;
    tells = newer_past newer so_far.tells;
  }
    where
      newer_past : (was : Bool) → TellsNewerIn log from a was → TellsNewerIn log from (a + 1) was
      newer_past true tells = (tells.0, tells.1, (let low = tells.2 in omega (arith, low)), tells.3)
      newer_past false tells = none_more (IsNewer log) from a tells
          (λ y newer. (let equal : y ≡ up.held = up.alone y newer.stands in let never : true ≡ false = sym up.invalid ∙ ap (λ (r : Record). r.header.invalid) (sym equal) ∙ newer.valid in cc))

  -- a valid one
  pub read_one : (m : MetRecord) → m.addr.0 ≡ a → Tells log m → (this : Bool) → ((this ≡ true) ↔ Has (IsNewer log) m.addr.0) → IsReadTo log from (a + 1) (mets ++ m ∷ []) (newer || this)
  read_one m at tells this says = record {
    are = record {
      upwards = omega (arith, from_on);
      each = λ i n is. ⊎_elim (λ was. each_more i n was)
          (λ last. subst (λ (o : MetRecord). Tells log o × (from ≤ o.addr.0) × (o.addr.0 < a + 1)) last.1 (tells, omega (arith, at, from_on), omega (arith, at))) (got_more mets m i n is);
      all = λ c x on below stands valid. ⊎_elim (λ less. has_more mets m c (so_far.are.all c x on less stands valid))
          (λ same. record { place = length mets; met = m; stands = last_there mets m; address = at ∙ sym same }) (at_or_below c a below);
      fit = λ c on below. ⊎_elim (λ less. so_far.are.fit c on less) (λ same. (tells.held, subst (λ n. IsFit log n tells.held) (at ∙ sym same) tells.fits)) (at_or_below c a below);
    };
    below = All-push (λ (n : MetRecord). n.addr.0 < a + 1) mets m below_more (omega (arith, at));
    rise = rise_more mets m so_far.rise (All-weaker (λ (n : MetRecord). n.addr.0 < a) (λ (n : MetRecord). n.addr.0 < m.addr.0) (λ n low. omega (arith, low, at)) mets so_far.below);
    tells = newer_one newer this so_far.tells (subst (λ n. (this ≡ true) ↔ Has (IsNewer log) n) at says);
  }
    where
      newer_one : (was now : Bool) → TellsNewerIn log from a was → ((now ≡ true) ↔ Has (IsNewer log) a) → TellsNewerIn log from (a + 1) (was || now)
      newer_one true now tells says = (tells.0, tells.1, (let low = tells.2 in omega (arith, low)), tells.3)
      newer_one false true tells says = (a, from_on, omega arith, says.0 refl)
      newer_one false false tells says = none_more (IsNewer log) from a tells (λ y newer. (let never : false ≡ true = says.1 (y, newer) in cc))

  -- nothing that a store wrote
  pub gathered_to : (to : ℕ) (g : Gathered) → g.mets.items ≡ mets → g.newer ≡ newer → g.end.0 ≡ a → a ≤ to → (a < to → (x : Record) → IsFit log a x → ⊥) → IsGathered log from to g
  gathered_to to g mets_are newer_is end_is most unfit = record {
    at_most = omega (arith, end_is, most);
    unfit = subst (λ n. n < to → (x : Record) → IsFit log n x → ⊥) (sym end_is) unfit;
    mets = subst (λ n. AreMet log from n g.mets.items) (sym end_is) (subst (λ ms. AreMet log from a ms) (sym mets_are) so_far.are);
    rise = subst (λ ms. Rise ms) (sym mets_are) so_far.rise;
    newer = subst (λ n. TellsNewerIn log from n g.newer) (sym end_is) (subst (λ b. TellsNewerIn log from a b) (sym newer_is) so_far.tells);
  }
