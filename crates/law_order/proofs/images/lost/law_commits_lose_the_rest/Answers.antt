-- The law: the ranges are those of the opening, or there are none.
use Rattle.std.proofs.Common.{◌≡◌, inl, inr, ℕ, ◌≤◌, ◌∙◌, arith, refl, sym, ap, subst, Bool, false, List, [], ◌∷◌, take, take_all, All}
use Rattle.std.specs.Prelude.{◌&&◌, ◌==◌, nat_lt, cond}
use Rattle.std.proofs.lemmas.Bool.Decides.{nat_tests}
use Rattle.std.proofs.lemmas.List.Elements.{All-head, All-tail, All-weaker}
use Rattle.std.proofs.lemmas.List.Sums.{sum_by-cons}
use Rattle.law_opening.specs.Below.fkv_core.Openings.{IsOpeningWorld}
use Rattle.law_commit.specs.Below.fkv_keeper.LastCommits.{lost_written}
use Rattle.law_opening.specs.Below.fkv_opening.Opened.{IsStoreOf}
use Rattle.law_opening.specs.Below.fkv_opening.TheOpened.{Opened}
use Rattle.fkv_record.specs.declared.lost_ranges.LostRange.{LostRange}
use Rattle.law_opening.specs.Below.fkv_pairs.Pairs.{log_of_store}
use Rattle.law_opening.specs.Below.fkv_scan.Records.{is_in, losses}
use Rattle.law_commit.specs.Below.fkv_world.World.{Now}
use Rattle.law_commit.specs.BegunCommits.{BegunCommit}
use Rattle.law_order.specs.Images.Fits.{NamesItsLost, NamesLost}
use Rattle.law_order.specs.Images.Lost.{LosesAsOpened, LosesNoneFrom}
use Rattle.law_order.proofs.OfImages.LifeFits.{lost_as_opened, opened_older}
use Rattle.law_order.proofs.OfImages.LostOpened.{IsLostOpened, opened_lost}
use Rattle.law_opening.specs.Log.OpeningLog.{opening_log}
use Rattle.law_commit.specs.Below.law_paper.Paper.Old.{LosesTheRest}
use Rattle.law_order.proofs.images.lost.law_commits_lose_the_rest.Goals as goal

abbrev one_if : Bool → ℕ
one_if b = cond b 1 0

-- a range that ends at or below an address has no record from there on
none_in : (a version : ℕ) (r : LostRange) → r.to.0 ≤ a → one_if (is_in a version r) ≡ 0
none_in a version r low = let out : nat_lt a r.to.0 ≡ false = grind (arith, nat_tests, low) in ap (λ (b : Bool). one_if (b && version == r.version.0)) out

none_lost : (a version : ℕ) (ranges : List LostRange) → All (λ (r : LostRange). r.to.0 ≤ a) ranges → losses ranges a version ≡ 0
unfolding losses
none_lost a version [] low = refl
none_lost a version (r ∷ ranges) low =
    let here = none_in a version r (All-head (λ (s : LostRange). s.to.0 ≤ a) r ranges low) in
    let rest = none_lost a version ranges (All-tail (λ (s : LostRange). s.to.0 ≤ a) r ranges low) in
    let both = sum_by-cons (λ (s : LostRange). one_if (is_in a version s)) r ranges in
    omega (arith, both, here, rest)

all_lost : (o : Opened) (n : Now) (c : BegunCommit) → IsOpeningWorld o n → NamesLost n c → lost_written c.parts.lost ≡ o.lost.items
all_lost o n c begins names = take_all 8 c.parts.lost names.few ∙ (names.lost ∙ begins.its_keeper.in_hand)

by_lost : (o : Opened) (n : Now) (bytes : List ℕ) (store : IsStoreOf bytes o) (c : BegunCommit) → IsOpeningWorld o n → LosesTheRest o.lost.items (log_of_store bytes o store) (opening_log bytes o) → NamesItsLost o n c → LosesAsOpened o n bytes store c
by_lost o n bytes store c begins rest (inl none) =
    let same : lost_written c.parts.lost ≡ [] = ap (λ (x : List LostRange). take 8 x) none.none in
    record {
      none = subst (λ (x : List LostRange). LosesNoneFrom o.tail.0 x) (sym same) (λ a version from. none_lost a version [] (λ k d low. absurd (omega (arith, low))));
      rest = λ used. subst (λ (x : List LostRange). LosesTheRest x (log_of_store bytes o store) (opening_log bytes o)) (sym (all_lost o n c begins (lost_as_opened o n c (opened_older o n begins) (inl none) used))) rest;
      uses = inr none;
    }
by_lost o n bytes store c begins rest (inr names) =
    let same : lost_written c.parts.lost ≡ o.lost.items = all_lost o n c begins names in
    let opened = opened_lost bytes o store in
    record {
      none = subst (λ (x : List LostRange). LosesNoneFrom o.tail.0 x) (sym same) (λ a version from. none_lost a version o.lost.items
          (All-weaker (λ (r : LostRange). IsLostOpened o r) (λ (r : LostRange). r.to.0 ≤ a) (λ r is. (let low = is.in_log in omega (arith, low, from))) o.lost.items opened.each));
      rest = λ used. subst (λ (x : List LostRange). LosesTheRest x (log_of_store bytes o store) (opening_log bytes o)) (sym same) rest;
      uses = inl names.checkpoint;
    }

pub returns : goal.returns
returns c = λ o n bytes events it store begins long is. elim (c.law_commits_fit.ensures.each o n bytes events store begins long it is) [
  | inr first ↦ inr first
  | inl fits ↦ inl (by_lost o n bytes store it begins (c.law_lost_is_the_rest.ensures bytes o store) fits.lost)
]
