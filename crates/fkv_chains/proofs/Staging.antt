-- The chains are followed triple by triple.
use Rattle.std.proofs.Common.{◌≡◌, ◌⊎◌, ⊎_elim, ℕ, ◌+◌, ◌<◌, ◌≤◌, length, Some, refl, sym, ap, subst, ◌∙◌, arith}
use Rattle.std.specs.Prelude.{slice_get}
use Rattle.std.specs.Ordering.{nat_cmp}
use Rattle.std.specs.BTreeMap.{get}
use Rattle.std.proofs.lemmas.Option.{slice_get_within}
use Rattle.fkv_base.specs.declared.faults.Fault.{Fault}
use Rattle.fkv_base.specs.declared.faults.Fault.TheVariants as fault
use Rattle.fkv_disk.specs.Device.{Rose}
use Rattle.fkv_record.specs.declared.triples.Triple.{Triple}
use Rattle.fkv_scan.specs.declared.scans.Scanned.{Scanned}
use Rattle.fkv_scan.specs.Log.{Log, triple_home}
use Rattle.fkv_scan.specs.Scanned.{AreScanned, GoesOnAt}
use Rattle.fkv_chains.specs.Along.{IsFollowed, IsToFollow}
use Rattle.fkv_chains.specs.Chains.{IsChainFault}
use Rattle.fkv_chains.specs.Refused.{IsRefused}
use Rattle.fkv_chains.specs.Ways.{way_below}
use Rattle.fkv_chains.proofs.Ways.{IsListed, to_follow, way_told}

rose_before : (before mid now : ℕ) → before ≤ mid → Rose mid now → Rose before now
rose_before before mid now later rose = omega (arith, later, rose)

pub refused_after : (before mid now : ℕ) → before ≤ mid → (premise premise_mid : Type 0) (log log_mid : Log) → (premise → premise_mid × (log_mid ≡ log)) → (why : Fault) → IsRefused mid now premise_mid log_mid why → IsRefused before now premise log why
refused_after before mid now later premise premise_mid log log_mid to (fault.Damaged part place) off = λ holds. subst (λ (l : Log). IsChainFault l (fault.Damaged part place)) (to holds).1 (off (to holds).0)
refused_after before mid now later premise premise_mid log log_mid to fault.Device off = rose_before before mid now later off
refused_after before mid now later premise premise_mid log log_mid to other off = absurd (off)

module _ (log : Log) (told : Scanned) where
  -- where a triple's chain is followed from
  pub follows_from : AreScanned log told → (i : ℕ) (t : Triple) → slice_get log.triples i ≡ Some t → (home from : ℕ) → home ≡ triple_home t → from ≡ way_below (get nat_cmp told.homes home) log.start → IsToFollow log home from
  follows_from are i t stands home from is_home is_from =
      let way = way_told log told are (triple_home t) in
      let same : from ≡ way.0 = is_from ∙ ap (λ (h : ℕ). way_below (get nat_cmp told.homes h) log.start) is_home ∙ way.2 in
      subst (λ (h : ℕ). IsToFollow log h from) (sym is_home) (subst (λ (n : ℕ). IsToFollow log (triple_home t) n) (sym same) (to_follow log (triple_home t) way.0 way.1.there))

  -- the chains of the first triples were followed
  abbrev pub AreFollowed : ℕ → Type 0
  AreFollowed n = (j : ℕ) (t : Triple) → j < n → slice_get log.triples j ≡ Some t → IsFollowed log (triple_home t) (way_below (get nat_cmp told.homes (triple_home t)) log.start)

  last_or_below : (j i : ℕ) → j < i + 1 → (j < i) ⊎ (j ≡ i)
  last_or_below j i below = grind arith

  one_is : (x y : Triple) → Some x ≡ Some y → x ≡ y
  one_is x y is = cc

  pub one_more : (i : ℕ) → AreFollowed i → (t : Triple) → slice_get log.triples i ≡ Some t → (home from : ℕ) → home ≡ triple_home t → from ≡ way_below (get nat_cmp told.homes home) log.start → IsFollowed log home from → AreFollowed (i + 1)
  one_more i so_far t stands home from is_home is_from followed j y below is = ⊎_elim (λ low. so_far j y low is)
      (λ last.
      let same : t ≡ y = one_is t y (sym stands ∙ ap (λ (n : ℕ). slice_get log.triples n) (sym last) ∙ is) in
      subst (λ (z : Triple). IsFollowed log (triple_home z) (way_below (get nat_cmp told.homes (triple_home z)) log.start)) same
      (subst (λ (h : ℕ). IsFollowed log h (way_below (get nat_cmp told.homes h) log.start)) is_home (subst (λ (n : ℕ). IsFollowed log home n) is_from followed)))
      (last_or_below j i below)

  pub each_way : AreScanned log told → AreFollowed (length log.triples) → (its_home w : ℕ) → IsListed log.triples its_home → GoesOnAt log its_home log.tail w → IsFollowed log its_home w
  each_way are followed its_home w t at =
      let way = way_told log told are its_home in
      let same : way_below (get nat_cmp told.homes its_home) log.start ≡ w = way.2 ∙ sym (way.1.alone w at.there) in
      let this = followed t.place t.triple (slice_get_within log.triples t.place t.triple t.stands) t.stands in
      subst (λ (n : ℕ). IsFollowed log its_home n) same (subst (λ (h : ℕ). IsFollowed log h (way_below (get nat_cmp told.homes h) log.start)) t.same this)
