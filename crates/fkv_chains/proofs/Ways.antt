-- Where the chain of a home goes on below the scan's start.
use Rattle.std.proofs.Common.{◌≡◌, ◌≢◌, ◌⊎◌, inl, inr, ⊎_elim, ℕ, zero, suc, ◌<◌, List, [], ◌∷◌, Option, Some, None, refl, sym, ap, subst, ◌∙◌, arith}
use Rattle.std.specs.Prelude.{nat_lt, if◌then◌else◌, slice_get}
use Rattle.std.specs.Ordering.{nat_cmp}
use Rattle.std.specs.BTreeMap.{get}
use Rattle.std.proofs.lemmas.Bool.{cases_eq}
use Rattle.std.proofs.lemmas.Option.{slice_get_within}
use Rattle.fkv_base.specs.declared.numbers.Addr.{Addr}
use Rattle.std.proofs.lemmas.Bool.Decides.{nat_tests}
use Rattle.fkv_record.specs.declared.triples.Triple.{Triple}
use Rattle.fkv_scan.specs.declared.home_scans.HomeScan.{HomeScan}
use Rattle.fkv_scan.specs.declared.scans.Scanned.{Scanned}
use Rattle.fkv_scan.specs.Log.{Log, HasTriple, triple_home}
use Rattle.fkv_scan.specs.Scan.{GoesOn, by_triple, by_none, by_record}
use Rattle.fkv_scan.specs.Scanned.{AreScanned, GoesOnAt, IsUnmet}
use Rattle.fkv_chains.specs.Reached.{Reached, in_scan, led_to, linked, from_triple, from_record}
use Rattle.fkv_chains.specs.Along.{IsAlong, IsFollowed, IsToFollow}
use Rattle.fkv_chains.specs.Ways.{address_below, way_below}
use Rattle.fkv_chains.proofs.FollowedTo.{none_along}

-- a way leads below the start, or nowhere
low_way : (log : Log) (its_home q : ℕ) → GoesOn log its_home log.tail q → (q < log.start) ⊎ (q ≡ 0)
low_way log its_home q (by_triple t low) = inl low
low_way log its_home q (by_none none is) = inr is
low_way log its_home q (by_record c x from to valid is low) = inl low

cut : (w start : ℕ) → (w < start) ⊎ (w ≡ 0) → (if nat_lt w start then w else 0) ≡ w
cut w start (inl low) = grind (arith, nat_tests, low)
cut w start (inr none) = grind (arith, nat_tests, none)

-- a way is to be followed
pub to_follow : (log : Log) (its_home q : ℕ) → GoesOn log its_home log.tail q → IsToFollow log its_home q
to_follow log its_home q (by_triple t low) = record { below_start = λ some. low; reached = λ some. led_to its_home q t; led = λ some. from_triple t }
to_follow log its_home q (by_none none is) = record { below_start = λ some. absurd (some is); reached = λ some. absurd (some is); led = λ some. absurd (some is) }
to_follow log its_home q (by_record c x from to valid is low) =
    let reached : Reached log c = in_scan c x from to valid.stands valid.valid in
    record { below_start = λ some. low; reached = λ some. linked c q x reached valid.stands is some; led = λ some. from_record c x reached valid.stands valid.same is some }

module _ (log : Log) (told : Scanned) (are : AreScanned log told) where
  -- the scan tells of each way that leads somewhere
  unmet : (its_home q : ℕ) → q ≢ 0 → IsUnmet log its_home log.tail → GoesOn log its_home log.tail q → ⊥
  unmet its_home q some none (by_triple t low) = none.triples q t
  unmet its_home q some none (by_none none_there is) = some is
  unmet its_home q some none (by_record c x from to valid is low) = none.records c x from to valid

  -- a home that isn't met goes on nowhere
  unmet_at : (its_home : ℕ) → IsUnmet log its_home log.tail → GoesOnAt log its_home log.tail 0
  unmet_at its_home none = record { there = by_none none.triples refl; alone = λ q goes. nowhere q goes }
    where
      nowhere : (q : ℕ) → GoesOn log its_home log.tail q → q ≡ 0
      nowhere q (by_triple t low) = absurd (none.triples q t)
      nowhere q (by_none none_there is) = is
      nowhere q (by_record c x from to valid is low) = absurd (none.records c x from to valid)

  by_known : (its_home q : ℕ) (o : Option HomeScan) → get nat_cmp told.homes its_home ≡ o → q ≢ 0 → GoesOn log its_home log.tail q → GoesOnAt log its_home log.tail q
  by_known its_home q None is some goes = absurd (unmet its_home q some (are.others its_home is) goes)
  by_known its_home q (Some s) is some goes =
      let tells = are.each its_home s is in
      subst (λ (w : ℕ). GoesOnAt log its_home log.tail w) (sym (tells.below.alone q goes)) tells.below

  pub at_way : (its_home q : ℕ) → q ≢ 0 → GoesOn log its_home log.tail q → GoesOnAt log its_home log.tail q
  at_way its_home q some goes = by_known its_home q (get nat_cmp told.homes its_home) refl some goes

  -- the way of each home is told, also where it leads nowhere
  tells_way : (its_home : ℕ) (o : Option HomeScan) → get nat_cmp told.homes its_home ≡ o → (w : ℕ) × GoesOnAt log its_home log.tail w × (way_below o log.start ≡ w)
  unfolding way_below
  tells_way its_home None is = (0, unmet_at its_home (are.others its_home is), refl)
  tells_way its_home (Some s) is =
      let tells = are.each its_home s is in
      (tells.way.0, tells.below, ap (λ (o : Option Addr). address_below o log.start) tells.known ∙ cut tells.way.0 log.start (low_way log its_home tells.way.0 tells.below.there))

  pub way_told : (its_home : ℕ) → (w : ℕ) × GoesOnAt log its_home log.tail w × (way_below (get nat_cmp told.homes its_home) log.start ≡ w)
  way_told its_home = tells_way its_home (get nat_cmp told.homes its_home) refl

-- whether a triple has this home
pub record IsListed (triples : List Triple) (its_home : ℕ) : Type 0 where
  pub place : ℕ
  pub triple : Triple
  pub stands : slice_get triples place ≡ Some triple
  pub same : triple_home triple ≡ its_home

pub listed_or_not : (triples : List Triple) (its_home : ℕ) → IsListed triples its_home ⊎ (IsListed triples its_home → ⊥)
listed_or_not [] its_home = inr (λ is. (let low = slice_get_within [] is.place is.triple is.stands in absurd (omega (arith, low))))
listed_or_not (t ∷ rest) its_home = ⊎_elim (λ same. inl (record { place = 0; triple = t; stands = refl; same = same }))
    (λ other. ⊎_elim (λ is. inl (record { place = suc is.place; triple = is.triple; stands = is.stands; same = is.same }))
    (λ none. inr (λ is. off other none is.place is.triple is.stands is.same)) (listed_or_not rest its_home)) (cases_eq (triple_home t) its_home)
  where
    off : (triple_home t ≡ its_home → ⊥) → (IsListed rest its_home → ⊥) → (i : ℕ) (y : Triple) → slice_get (t ∷ rest) i ≡ Some y → triple_home y ≡ its_home → ⊥
    off other none zero y is same = other (ap triple_home (let e : t ≡ y = cc in e) ∙ same)
    off other none (suc i) y is same = none (record { place = i; triple = y; stands = is; same = same })

-- where each chain of a triple was followed, each chain was
pub all_ways : (log : Log) → ((its_home w : ℕ) → IsListed log.triples its_home → GoesOnAt log its_home log.tail w → IsFollowed log its_home w)
    → (its_home w : ℕ) → GoesOnAt log its_home log.tail w → IsFollowed log its_home w
all_ways log followed its_home w at = ⊎_elim
    (λ is. followed its_home w is at)
    (λ none.
    let nowhere : 0 ≡ w = at.alone 0 (by_none (λ a t. none (record { place = t.place; triple = t.triple; stands = t.stands; same = t.same })) refl) in
    λ b along. absurd (none_along log b (subst (λ (n : ℕ). IsAlong log n b) (sym nowhere) along)))
    (listed_or_not log.triples its_home)
