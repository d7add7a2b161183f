-- Lives that follow one another, by what each image holds that a crash leaves.
use Rattle.std.proofs.Common.{◌≡◌, ℕ, Bool, cond, ◌&&◌, List, [], ◌∷◌, ◌++◌, refl, sym, ap, subst, ◌∙◌, arith}
use Rattle.std.specs.Prelude.{nat_lt, nat_le}
use Rattle.std.proofs.lemmas.Bool.Decides.{nat_tests}
use Rattle.fkv_base.specs.declared.numbers.Serial.{Serial}
use Rattle.fkv_map.specs.declared.history.HistoryEntry.{HistoryEntry}
use Rattle.fkv_map.specs.Map.{Map}
use Rattle.fkv_map.specs.History.{AreAtMost, IsLegal, IsWhole, content, kept, point_of}
use Rattle.fkv_map.proofs.Shown.{content-append, IsLegal-append, kept-append, kept_again, kept_by_more, whole_of_lives}
use Rattle.law_opening.specs.Lives.Laws.{ForgottenReachFar}
use Rattle.law_order.specs.Images.Laws.Read.{ImagesReachFar}
use Rattle.law_order.specs.OneHistory.EachLife.{InEachLife, IsLife, Life}
use Rattle.law_order.specs.Prefix.Law.{AreLives, BeginsWithKept, HoldsPrefix, IsKeptOf, LivesFollow, LivesReachFar, RecoversPrefix, first_of, history_so_far, kept_of_all, map_of, points_of}

-- what points keep of all lives they keep again
kept_before : (points : List Serial) (before : List Life) → kept (kept_of_all points before) points ≡ kept_of_all points before
kept_before points [] = refl
kept_before points (its ∷ before) = kept_again (kept_of_all (points_of its) before ++ history_so_far its.world its.bytes its.events) points

-- and later points keep them all, beside what they keep of the life behind these
kept_on : (earlier later : List HistoryEntry) (between points : List Serial) → kept earlier between ≡ earlier → AreAtMost between points → kept (earlier ++ later) points ≡ earlier ++ kept later points
kept_on earlier later between points is most =
    kept-append earlier later points ∙ ap (λ xs. xs ++ kept later points) (ap (λ xs. kept xs points) (sym is) ∙ kept_by_more earlier between points most ∙ is)

-- before a first life nothing was kept
abbrev mark : Bool → ℕ
mark b = cond b 1 0

none_within : (point serial : ℕ) → 0 ≡ mark (nat_lt point serial && nat_le serial point)
none_within point serial = grind (arith, nat_tests)

none_whole : (points : List Serial) → IsWhole [] points points
none_whole points session serial = none_within (point_of points session) serial

-- what has held of the lives before, with points that didn't fall since the first of them
record Follow (its : Life) (before : List Life) : Type 0 where
  begins : BeginsWithKept its before
  risen : AreAtMost (points_of (first_of its before)) (points_of its)

-- one more life, of whose image the store is what a commit keeps
one_more : (its earlier : Life) (rest : List Life) → Follow earlier rest → IsWhole (history_so_far earlier.world earlier.bytes earlier.events) (points_of earlier) (points_of its)
    → AreAtMost (points_of earlier) (points_of its) → IsLegal (map_of earlier) (kept (history_so_far earlier.world earlier.bytes earlier.events) (points_of its))
    → map_of its ≡ content (map_of earlier) (kept (history_so_far earlier.world earlier.bytes earlier.events) (points_of its))
    → Follow its (earlier ∷ rest)
one_more its earlier rest follow whole risen legal pairs =
    let e = follow.begins in
    let points : List Serial = points_of its in
    let m : Map = map_of (first_of earlier rest) in
    let old : List HistoryEntry = kept_of_all (points_of earlier) rest in
    let new : List HistoryEntry = history_so_far earlier.world earlier.bytes earlier.events in
    let again : kept old (points_of earlier) ≡ old = kept_before (points_of earlier) rest in
    let is : kept (old ++ new) points ≡ old ++ kept new points = kept_on old new (points_of earlier) points again risen in
    record {
      begins = record {
        pairs = pairs ∙ ap (λ (n : Map). content n (kept new points)) e.pairs ∙ sym (content-append m old (kept new points)) ∙ ap (content m) (sym is);
        legal = subst (IsLegal m) (sym is) (IsLegal-append m old (kept new points) e.legal (subst (λ (n : Map). IsLegal n (kept new points)) e.pairs legal));
        whole = subst (λ (xs : List HistoryEntry). IsWhole xs (points_of (first_of earlier rest)) points) (ap (λ (xs : List HistoryEntry). xs ++ kept new points) again ∙ sym is)
            (whole_of_lives old new (points_of (first_of earlier rest)) (points_of earlier) points e.whole whole follow.risen);
      };
      risen = λ session. omega (arith, follow.risen session, risen session);
    }

-- the first life begins with an image that reaches far, and each other one with one that may be found behind such a life
pub lives_reach_far : ImagesReachFar → ForgottenReachFar → LivesReachFar
lives_reach_far far forgotten its [] lives = lives.1
lives_reach_far far forgotten its (earlier ∷ rest) lives =
    let own : IsLife earlier = (let older = lives.2 in older.0) in
    let found = lives.1 in
    forgotten found.image its.bytes found.agrees (far earlier.opened earlier.world earlier.bytes earlier.events found.image own.store own.begins (lives_reach_far far forgotten earlier rest lives.2) found.left)

module _ (reaches : LivesReachFar) (recovers : InEachLife RecoversPrefix) where
  -- an image that a life leaves
  left : (its earlier : Life) (rest : List Life) → AreLives (its ∷ (earlier ∷ rest)) → HoldsPrefix earlier.opened earlier.world earlier.bytes earlier.events its.bytes
  left its earlier rest lives =
      let own : IsLife earlier = (let older = lives.2 in older.0) in
      recovers earlier own (reaches earlier rest lives.2) its.bytes lives.1

  follow : (its : Life) (before : List Life) → AreLives (its ∷ before) → Follow its before
  follow its [] lives = record { begins = record { pairs = refl; legal = tt; whole = none_whole (points_of its) }; risen = λ session. omega arith }
  follow its (earlier ∷ rest) lives =
      let own : IsLife its = lives.0 in
      let held : HoldsPrefix earlier.opened earlier.world earlier.bytes earlier.events its.bytes = left its earlier rest lives in
      let k : IsKeptOf earlier.opened earlier.world earlier.bytes earlier.events held.commit its.bytes its.opened = held.each its.opened own.store in
      one_more its earlier rest (follow earlier rest lives.2) k.whole k.risen k.legal k.pairs

  pub lives_follow : LivesFollow
  lives_follow its before lives = let all = follow its before lives in all.begins
