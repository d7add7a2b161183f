-- How a table begins, and that cutting a seat in two and making two one keep the rule.
use Rattle.std.proofs.Common.{◌≡◌, ◌≢◌, ◌⊎◌, ℕ, ◌+◌, ◌<◌, ◌≤◌, refl, sym, ap, subst, ◌∙◌, inl, inr, ⊎_elim, Bool, true, false, true≢false, List, [], ◌∷◌, ◌++◌, length, map, set, append-nil, length-append, length-set, zero, suc, arith, nat_le, ◌==◌, ◌||◌}
use Rattle.std.specs.Prelude.{Option, Some, None}
use Rattle.std.proofs.lemmas.Bool.Decides.{nat_tests}
use mathlib.Core.Option.{none, some, some-injective, some-ne-none}
use lib.ListN.{get_elem?, length-map}
use Rattle.atomic_table.specs.Table.{State, opening, Splits, Joins}
use Rattle.atomic_table.proofs.Lists.{at_set, set_else}
use Rattle.fkv_seats.specs.declared.views.Role.{Role}
use Rattle.fkv_seats.specs.declared.views.Role.TheVariants.{Rest, Sits, Both, Spent}
use Rattle.fkv_seats.specs.declared.views.View.{View}
use Rattle.fkv_seats.specs.declared.held.Held.{Held}
use Rattle.fkv_seats.specs.declared.held.Held.TheVariants.{Drain}
use Rattle.fkv_seats.specs.Rule.{speaks, Plane, action_in, led, Quiet, Fits, IsOut, IsDeskOut, desk_of, desk_slot, KeepsDesk, Ruled, AreAllowed, first_view, left_role, right_role, left_view, right_view, number_of, longer, behind, both_view, spent_view, AreApart, IsSeenBy, GoesOn, HasMet}
use Rattle.fkv_seats.proofs.Keeps.{truth, no_some, at_here, same_or, allowed_first}

-- one that stands in a list with one more is there already, or is that one
at_end : {B : Type 0} (l : List B) (a b : B) (j : ℕ) → get_elem? (l ++ a ∷ []) j ≡ some b → (get_elem? l j ≡ some b) ⊎ ((j ≡ length l) × (a ≡ b))
at_end [] a b zero g = inr (refl, some-injective _ _ g)
at_end [] a b (suc j) g = absurd (some-ne-none b (sym g))
at_end (x ∷ xs) a b zero g = inl g
at_end (x ∷ xs) a b (suc j) g = ⊎_elim (λ t. inl t) (λ (t : (j ≡ length xs) × (a ≡ b)). inr (ap suc t.0, t.1)) (at_end xs a b j g)

in_longer : {B : Type 0} (l m : List B) (i : ℕ) (a : B) → get_elem? l i ≡ some a → get_elem? (l ++ m) i ≡ some a
in_longer [] m i a e = absurd (some-ne-none a (sym e))
in_longer (x ∷ xs) m zero a e = e
in_longer (x ∷ xs) m (suc i) a e = in_longer xs m i a e

rest_or_one : (from : ℕ) (actor : Option ℕ) → speaks (Rest (from + 1)) actor ≡ true → speaks (Sits from) actor ≡ true → ⊥
rest_or_one from None a b = true≢false (sym b)
rest_or_one from (Some n) a b = grind (arith, nat_tests, a, b)

rest_less : (from : ℕ) (actor : Option ℕ) → speaks (Rest (from + 1)) actor ≡ true → speaks (Rest from) actor ≡ true
rest_less from None a = refl
rest_less from (Some n) a = grind (arith, nat_tests, a)

rest_one : (from : ℕ) (actor : Option ℕ) → speaks (Sits from) actor ≡ true → speaks (Rest from) actor ≡ true
rest_one from None a = refl
rest_one from (Some n) a = grind (arith, nat_tests, a)

pub both_first : (a b : ℕ) (actor : Option ℕ) → speaks (Sits a) actor ≡ true → speaks (Both a b) actor ≡ true
both_first a b None e = e
both_first a b (Some n) e = rw e refl

or_true : (x : Bool) → (x || true) ≡ true
or_true true = refl
or_true false = refl

both_second : (a b : ℕ) (actor : Option ℕ) → speaks (Sits b) actor ≡ true → speaks (Both a b) actor ≡ true
both_second a b None e = e
both_second a b (Some n) e = rw e (or_true (n == a))

both_ways : (a b : ℕ) (actor : Option ℕ) → speaks (Both a b) actor ≡ true → (speaks (Sits a) actor ≡ true) ⊎ (speaks (Sits b) actor ≡ true)
both_ways a b None e = inl e
both_ways a b (Some n) e = by_first (n == a) refl e
  where
    by_first : (x : Bool) → (n == a) ≡ x → (x || (n == b)) ≡ true → ((n == a) ≡ true) ⊎ ((n == b) ≡ true)
    by_first true is e = inl is
    by_first false is e = inr e

module _ {W E A K : Type 0} (p : Plane W E A K) where
  abbrev H : Type 0
  H = Held A E

  abbrev Vw : Type 0
  Vw = View E K

  quiet_less : (mine less : Role) (es : List E) → ((actor : Option ℕ) → speaks less actor ≡ true → speaks mine actor ≡ true) → Quiet p mine es → Quiet p less es
  quiet_less mine less [] of q = tt
  quiet_less mine less (e ∷ es) of q =
      (⊎_elim (λ (t : speaks less (p.actor e) ≡ true). absurd (true≢false (sym (of (p.actor e) t) ∙ q.0))) (λ (t : speaks less (p.actor e) ≡ false). t) (truth (speaks less (p.actor e))), quiet_less mine less es of q.1)

  quiet_either : (mine a b : Role) (es : List E) → ((actor : Option ℕ) → speaks mine actor ≡ true → (speaks a actor ≡ true) ⊎ (speaks b actor ≡ true)) → Quiet p a es → Quiet p b es → Quiet p mine es
  quiet_either mine a b [] of q r = tt
  quiet_either mine a b (e ∷ es) of q r = (
    ⊎_elim
        (λ (t : speaks mine (p.actor e) ≡ true).
        ⊎_elim (λ (x : speaks a (p.actor e) ≡ true). absurd (true≢false (sym x ∙ q.0))) (λ (x : speaks b (p.actor e) ≡ true). absurd (true≢false (sym x ∙ r.0))) (of (p.actor e) t))
        (λ (t : speaks mine (p.actor e) ≡ false). t)
        (truth (speaks mine (p.actor e))),
    quiet_either mine a b es of q.1 r.1,
  )

  quiet_spent : (es : List E) → Quiet p Spent es
  quiet_spent [] = tt
  quiet_spent (e ∷ es) = (refl, quiet_spent es)

  -- how a view may be cut
  pub record IsCut (v left right : Vw) : Type 0 where
    pub empty : v.hand ≡ None
    pub keeps_desk : v.desk ≡ true → (left.desk ≡ true) × (desk_of left.role ≡ desk_of v.role)
    pub left_seen : left.seen ≡ v.seen
    pub right_seen : right.seen ≡ v.seen
    pub left_met : left.met ≡ v.met
    pub right_met : right.met ≡ v.met
    pub left_empty : left.hand ≡ None
    pub right_empty : right.hand ≡ None
    pub of_left : (actor : Option ℕ) → speaks left.role actor ≡ true → speaks v.role actor ≡ true
    pub of_right : (actor : Option ℕ) → speaks right.role actor ≡ true → speaks v.role actor ≡ true
    pub one : (actor : Option ℕ) → speaks left.role actor ≡ true → speaks right.role actor ≡ true → ⊥

  -- a view of less, which has seen the same
  fits_less : (w : W) (events : List E) (v less : Vw) → Fits p w events v → less.seen ≡ v.seen → less.met ≡ v.met → less.hand ≡ None → ((actor : Option ℕ) → speaks less.role actor ≡ true → speaks v.role actor ≡ true) → Fits p w events less
  fits_less w events v less fits seen met empty of = record {
    later = fits.later;
    whole = fits.whole ∙ ap (λ (es : List E). fits.later ++ es) (sym seen);
    quiet = quiet_less v.role less.role fits.later of fits.quiet;
    hand = λ k h. no_some k (sym empty ∙ h);
    met = subst (λ (x : Option (Role × List E) × List E). HasMet p x.0 x.1) (λ i. (sym met i, sym seen i)) fits.met;
  }

  -- whose view stands there now: one that stood there, the left one, or the right one
  pub data Stood (views : List Vw) (id : ℕ) (left right : Vw) (j : ℕ) (u : Vw) : Type 0 where
    AsBefore : j ≢ id → get_elem? views j ≡ some u → Stood views id left right j u
    AtLeft : j ≡ id → left ≡ u → Stood views id left right j u
    AtRight : j ≡ length views → right ≡ u → Stood views id left right j u

  stood : (views : List Vw) (id : ℕ) (left right : Vw) (j : ℕ) (u : Vw) → get_elem? (set views id left ++ right ∷ []) j ≡ some u → Stood views id left right j u
  stood views id left right j u g = ⊎_elim
      (λ (t : get_elem? (set views id left) j ≡ some u). ⊎_elim (λ (x : (j ≡ id) × (left ≡ u)). AtLeft x.0 x.1) (λ (x : (j ≢ id) × (get_elem? views j ≡ some u)). AsBefore x.0 x.1) (at_set views id j left u t))
      (λ (t : (j ≡ length (set views id left)) × (right ≡ u)). AtRight (t.0 ∙ length-set views id left) t.1)
      (at_end (set views id left) right u j g)

  module _ (key : K) (s : State H Vw) (r : Ruled p key s) (id : ℕ) (v left right : Vw) (at : get_elem? s.views id ≡ some v) (cut : IsCut v left right) where
    abbrev now : List Vw
    now = set s.views id left ++ right ∷ []

    each_cut : (j : ℕ) (u : Vw) → Stood s.views id left right j u → Fits p (p.opening key) r.events u
    each_cut j u (AsBefore other g) = r.each j u g
    each_cut j u (AtLeft here is) = subst (Fits p (p.opening key) r.events) is (fits_less (p.opening key) r.events v left (r.each id v at) cut.left_seen cut.left_met cut.left_empty cut.of_left)
    each_cut j u (AtRight here is) = subst (Fits p (p.opening key) r.events) is (fits_less (p.opening key) r.events v right (r.each id v at) cut.right_seen cut.right_met cut.right_empty cut.of_right)

    says : (x y : Vw) (actor : Option ℕ) → x ≡ y → speaks y.role actor ≡ true → speaks x.role actor ≡ true
    says x y actor same e = ap (λ (z : Vw). speaks z.role actor) same ∙ e

    apart_cut : (j k : ℕ) (u x : Vw) (actor : Option ℕ) → Stood s.views id left right j u → Stood s.views id left right k x → speaks u.role actor ≡ true → speaks x.role actor ≡ true → j ≡ k
    apart_cut j k u x actor (AsBefore a g) (AsBefore b h) su sx = r.apart j k u x actor g h su sx
    apart_cut j k u x actor (AsBefore a g) (AtLeft b is) su sx = absurd (a (r.apart j id u v actor g at su (cut.of_left actor (says left x actor is sx))))
    apart_cut j k u x actor (AsBefore a g) (AtRight b is) su sx = absurd (a (r.apart j id u v actor g at su (cut.of_right actor (says right x actor is sx))))
    apart_cut j k u x actor (AtLeft a is) (AsBefore b h) su sx = absurd (b (sym (r.apart id k v x actor at h (cut.of_left actor (says left u actor is su)) sx)))
    apart_cut j k u x actor (AtRight a is) (AsBefore b h) su sx = absurd (b (sym (r.apart id k v x actor at h (cut.of_right actor (says right u actor is su)) sx)))
    apart_cut j k u x actor (AtLeft a is) (AtLeft b its) su sx = a ∙ sym b
    apart_cut j k u x actor (AtRight a is) (AtRight b its) su sx = a ∙ sym b
    apart_cut j k u x actor (AtLeft a is) (AtRight b its) su sx = absurd (cut.one actor (says left u actor is su) (says right x actor its sx))
    apart_cut j k u x actor (AtRight a is) (AtLeft b its) su sx = absurd (cut.one actor (says left x actor its sx) (says right u actor is su))

    out_cut : (k : ℕ) → k < p.slots → get_elem? s.homes k ≡ some none → IsOut p now k
    out_cut k l g =
        let o = r.out k l g in
        let ne : o.id ≢ id = λ same. no_some k (sym cut.empty ∙ (ap (λ (u : Vw). u.hand) (some-injective _ _ (sym at ∙ (ap (get_elem? s.views) (sym same) ∙ o.seated))) ∙ o.hand)) in
        record { id = o.id; view = o.view; seated = in_longer (set s.views id left) (right ∷ []) o.id o.view (set_else s.views id o.id left ne ∙ o.seated); hand = o.hand }

    desk_cut : (number : ℕ) (o : IsDeskOut p s.views number) → (o.id ≡ id) ⊎ (o.id ≢ id) → IsDeskOut p now number
    desk_cut number o (inl same) =
        let mine : o.view ≡ v = some-injective _ _ (sym o.seated ∙ (ap (get_elem? s.views) same ∙ at)) in
        let kept = cut.keeps_desk (ap (λ (u : Vw). u.desk) (sym mine) ∙ o.desk) in
        record {
          id = id;
          view = left;
          seated = in_longer (set s.views id left) (right ∷ []) id left (at_here s.views id left v at);
          whose = kept.1 ∙ (ap (λ (u : Vw). desk_of u.role) (sym mine) ∙ o.whose);
          desk = kept.0;
        }
    desk_cut number o (inr ne) =
        record { id = o.id; view = o.view; seated = in_longer (set s.views id left) (right ∷ []) o.id o.view (set_else s.views id o.id left ne ∙ o.seated); whose = o.whose; desk = o.desk }

    pub cuts : Ruled p key record { words = s.words; homes = s.homes; views = now }
    cuts = record {
      events = r.events;
      allowed = r.allowed;
      words = r.words;
      deep = r.deep;
      homes = r.homes;
      each = λ j u g. each_cut j u (stood s.views id left right j u g);
      apart = λ j k u x actor g h su sx. apart_cut j k u x actor (stood s.views id left right j u g) (stood s.views id left right k x h) su sx;
      out = out_cut;
      desks = λ number g. let o = r.desks number g in desk_cut number o (same_or o.id id);
    }

  cut_role : (role : Role) (actor : Option ℕ) → (speaks (left_role role) actor ≡ true → speaks role actor ≡ true) × (speaks (right_role role) actor ≡ true → speaks role actor ≡ true)
  cut_role (Rest from) actor = (rest_less from actor, rest_one from actor)
  cut_role (Sits own) actor = ((λ e. e), (λ e. absurd (true≢false (sym e))))
  cut_role (Both a b) actor = (both_first a b actor, both_second a b actor)
  cut_role Spent actor = ((λ e. e), (λ e. e))

  cut_one : (role : Role) → AreApart role → (actor : Option ℕ) → speaks (left_role role) actor ≡ true → speaks (right_role role) actor ≡ true → ⊥
  cut_one (Rest from) apart actor a b = rest_or_one from actor a b
  cut_one (Sits own) apart actor a b = true≢false (sym b)
  cut_one (Both first second) apart None a b = true≢false (sym b)
  cut_one (Both first second) apart (Some n) a b = let x : n ≡ first = grind (arith, nat_tests, a) in let y : n ≡ second = grind (arith, nat_tests, b) in apart (sym x ∙ y)
  cut_one Spent apart actor a b = true≢false (sym b)

  pub splits : (key : K) (id : ℕ) (v : Vw) → v.hand ≡ None → (v.desk ≡ true → KeepsDesk v.role) → AreApart v.role → Splits (Ruled p key) id v (left_view p v) (right_view p v)
  splits key id v empty keeps apart s r at = cuts key s r id v (left_view p v) (right_view p v) at record {
    empty = empty;
    keeps_desk = λ is. (is, keeps is);
    left_seen = refl;
    right_seen = refl;
    left_met = refl;
    right_met = refl;
    left_empty = empty;
    right_empty = refl;
    of_left = λ actor. (cut_role v.role actor).0;
    of_right = λ actor. (cut_role v.role actor).1;
    one = cut_one v.role apart;
  }

  -- of two lists with one whole, the one with the shorter end is the longer one
  begins : (l m x y : List E) → l ++ x ≡ m ++ y → length x ≤ length y → (between : List E) × (l ≡ m ++ between)
  begins l [] x y same few = (l, refl)
  begins [] (e ∷ m) x y same few = absurd (let n : length x ≡ suc (length (m ++ y)) = ap length same in omega (arith, n, few, length-append m y))
  begins (d ∷ l) (e ∷ m) x y same few =
      let tails : l ++ x ≡ m ++ y = cc in let heads : d ≡ e = cc in let t = begins l m x y tails few in (t.0, λ i. heads i ∷ t.1 i)

  -- of two beginnings of one list the longer one goes on from the shorter
  pub goes_on : (role : Role) (l m x y : List E) → l ++ x ≡ m ++ y → length x ≤ length y → Quiet p role l → AreAllowed p l → GoesOn p role x y
  goes_on role l [] x y same few q may = record { between = l; whole = sym same; quiet = q; allowed = may }
  goes_on role [] (e ∷ m) x y same few q may = absurd (let n : length x ≡ suc (length (m ++ y)) = ap length same in omega (arith, n, few, length-append m y))
  goes_on role (d ∷ l) (e ∷ m) x y same few q may = let tails : l ++ x ≡ m ++ y = cc in goes_on role l m x y tails few q.1 may.1

  ends : (l m x y : List E) → l ++ x ≡ m ++ y → length x ≤ length y → AreAllowed p l → IsSeenBy p x y
  ends l m x y same few may = let its = goes_on Spent l m x y same few (quiet_spent l) may in (its.between, its.whole)

  quiet_first : (role : Role) (m between : List E) → Quiet p role (m ++ between) → Quiet p role m
  quiet_first role [] between q = tt
  quiet_first role (e ∷ m) between q = (q.0, quiet_first role m between q.1)

  -- who has seen more has been quiet since then too
  quiet_since : (role : Role) (events l m x y : List E) → events ≡ l ++ x → events ≡ m ++ y → length x ≤ length y → Quiet p role l → Quiet p role m
  quiet_since role events l m x y a b few q = let t = begins l m x y (sym a ∙ b) few in quiet_first role m t.0 (subst (Quiet p role) t.1 q)

  -- which of two views has seen more, and which less
  abbrev pub AreLonger : Vw → Vw → Vw → Vw → Type 0
  AreLonger v u more less = (longer p v.seen u.seen ≡ more.seen) × (behind p v u ≡ (less.role, less.seen)) × (length less.seen ≤ length more.seen)

  longer_so : (v u : Vw) → AreLonger v u u v ⊎ AreLonger v u v u
  longer_so v u = ⊎_elim
      (λ (t : nat_le (length v.seen) (length u.seen) ≡ true). inl (rw t refl, rw t refl, grind (arith, nat_tests, t)))
      (λ (t : nat_le (length v.seen) (length u.seen) ≡ false). inr (rw t refl, rw t refl, grind (arith, nat_tests, t)))
      (truth (nat_le (length v.seen) (length u.seen)))

  -- Where the one goes on to the longer list that had seen less, both do.
  pub both_go_on : (v u : Vw) → HasMet p (Some (behind p v u)) (longer p v.seen u.seen) → GoesOn p v.role v.seen (longer p v.seen u.seen) × GoesOn p u.role u.seen (longer p v.seen u.seen)
  both_go_on v u its = by (longer_so v u)
    where
      Goal : Type 0
      Goal = GoesOn p v.role v.seen (longer p v.seen u.seen) × GoesOn p u.role u.seen (longer p v.seen u.seen)

      stays : (role : Role) (seen more : List E) → more ≡ seen → GoesOn p role seen more
      stays role seen more same = record { between = []; whole = same; quiet = tt; allowed = tt }

      by : AreLonger v u u v ⊎ AreLonger v u v u → Goal
      by (inl t) = (subst (λ (x : Role × List E). GoesOn p x.0 x.1 (longer p v.seen u.seen)) t.1 its, stays u.role u.seen (longer p v.seen u.seen) t.0)
      by (inr t) = (stays v.role v.seen (longer p v.seen u.seen) t.0, subst (λ (x : Role × List E). GoesOn p x.0 x.1 (longer p v.seen u.seen)) t.1 its)

  module _ (key : K) (s : State H Vw) (r : Ruled p key s) (id other a b : ℕ) (v u : Vw) (at : get_elem? s.views id ≡ some v) (at_other : get_elem? s.views other ≡ some u) (ne : other ≢ id)
      (is_v : v.role ≡ Sits a) (is_u : u.role ≡ Sits b) (empty_v : v.hand ≡ None) (empty_u : u.hand ≡ None) (no_desk_u : u.desk ≡ false) where
    abbrev both : Vw
    both = both_view p v u

    abbrev joined : List Vw
    joined = set (set s.views id both) other (spent_view p)

    both_is : both.role ≡ Both a b
    both_is = λ i. Both (number_of (is_v i)) (number_of (is_u i))

    pub data Joined (j : ℕ) (x : Vw) : Type 0 where
      Others : j ≢ id → j ≢ other → get_elem? s.views j ≡ some x → Joined j x
      AtBoth : j ≡ id → both ≡ x → Joined j x
      AtSpent : j ≡ other → spent_view p ≡ x → Joined j x

    stands : (j : ℕ) (x : Vw) → get_elem? joined j ≡ some x → Joined j x
    stands j x g = ⊎_elim
        (λ (t : (j ≡ other) × (spent_view p ≡ x)). AtSpent t.0 t.1)
        (λ (t : (j ≢ other) × (get_elem? (set s.views id both) j ≡ some x)). ⊎_elim
        (λ (y : (j ≡ id) × (both ≡ x)). AtBoth y.0 y.1)
        (λ (y : (j ≢ id) × (get_elem? s.views j ≡ some x)). Others y.0 t.0 y.1)
        (at_set s.views id j both x t.1))
        (at_set (set s.views id both) other j (spent_view p) x g)

    fits_v : Fits p (p.opening key) r.events v
    fits_v = r.each id v at

    fits_u : Fits p (p.opening key) r.events u
    fits_u = r.each other u at_other

    met_both : (more less : Vw) → AreLonger v u more less → Fits p (p.opening key) r.events more → Fits p (p.opening key) r.events less → HasMet p both.met both.seen
    met_both more less t fits_more fits_less =
        subst (λ (x : (Role × List E) × List E). GoesOn p x.0.0 x.0.1 x.1) (λ i. (sym t.1 i, sym t.0 i)) (goes_on less.role fits_less.later fits_more.later less.seen more.seen (sym fits_less.whole ∙ fits_more.whole) t.2 fits_less.quiet
        (allowed_first p fits_less.later less.seen (subst (AreAllowed p) fits_less.whole r.allowed)))

    fits_both : Fits p (p.opening key) r.events both
    fits_both = ⊎_elim
        (λ (t : AreLonger v u u v). record {
          later = fits_u.later;
          whole = fits_u.whole ∙ ap (λ (es : List E). fits_u.later ++ es) (sym t.0);
          quiet = subst (λ (role : Role). Quiet p role fits_u.later) (sym both_is) (quiet_either (Both a b) (Sits a) (Sits b) fits_u.later (both_ways a b)
              (quiet_since (Sits a) r.events fits_v.later fits_u.later v.seen u.seen fits_v.whole fits_u.whole t.2 (subst (λ (role : Role). Quiet p role fits_v.later) is_v fits_v.quiet))
              (subst (λ (role : Role). Quiet p role fits_u.later) is_u fits_u.quiet));
          hand = λ k h. no_some k h;
          met = met_both u v t fits_u fits_v;
        })
        (λ (t : AreLonger v u v u). record {
          later = fits_v.later;
          whole = fits_v.whole ∙ ap (λ (es : List E). fits_v.later ++ es) (sym t.0);
          quiet = subst (λ (role : Role). Quiet p role fits_v.later) (sym both_is) (quiet_either (Both a b) (Sits a) (Sits b) fits_v.later (both_ways a b)
              (subst (λ (role : Role). Quiet p role fits_v.later) is_v fits_v.quiet)
              (quiet_since (Sits b) r.events fits_u.later fits_v.later u.seen v.seen fits_u.whole fits_v.whole t.2 (subst (λ (role : Role). Quiet p role fits_u.later) is_u fits_u.quiet)));
          hand = λ k h. no_some k h;
          met = met_both v u t fits_v fits_u;
        })
        (longer_so v u)

    fits_spent : Fits p (p.opening key) r.events (spent_view p)
    fits_spent = record { later = r.events; whole = sym (append-nil r.events); quiet = quiet_spent r.events; hand = λ k h. no_some k h; met = tt }

    each_joined : (j : ℕ) (x : Vw) → Joined j x → Fits p (p.opening key) r.events x
    each_joined j x (Others na nb g) = r.each j x g
    each_joined j x (AtBoth here is) = subst (Fits p (p.opening key) r.events) is fits_both
    each_joined j x (AtSpent here is) = subst (Fits p (p.opening key) r.events) is fits_spent

    spent_says : {X : Type 0} (x : Vw) (actor : Option ℕ) → spent_view p ≡ x → speaks x.role actor ≡ true → X
    spent_says x actor is e = absurd (true≢false (sym (ap (λ (z : Vw). speaks z.role actor) is ∙ e)))

    -- for whom both speak one of the two spoke
    both_says : (x : Vw) (actor : Option ℕ) → both ≡ x → speaks x.role actor ≡ true → (speaks v.role actor ≡ true) ⊎ (speaks u.role actor ≡ true)
    both_says x actor is e =
        let both_e : speaks (Both a b) actor ≡ true = sym (ap (λ (role : Role). speaks role actor) (sym (ap (λ (z : Vw). z.role) is) ∙ both_is)) ∙ e in
        ⊎_elim (λ (t : speaks (Sits a) actor ≡ true). inl (ap (λ (role : Role). speaks role actor) is_v ∙ t)) (λ (t : speaks (Sits b) actor ≡ true). inr (ap (λ (role : Role). speaks role actor) is_u ∙ t)) (both_ways a b actor both_e)

    never_both : {X : Type 0} (k : ℕ) (x y : Vw) (actor : Option ℕ) → both ≡ x → k ≢ id → k ≢ other → get_elem? s.views k ≡ some y → speaks x.role actor ≡ true → speaks y.role actor ≡ true → X
    never_both k x y actor is na nb g sx sy = absurd (⊎_elim
        (λ (t : speaks v.role actor ≡ true). na (r.apart k id y v actor g at sy t))
        (λ (t : speaks u.role actor ≡ true). nb (r.apart k other y u actor g at_other sy t))
        (both_says x actor is sx))

    apart_joined : (j k : ℕ) (x y : Vw) (actor : Option ℕ) → Joined j x → Joined k y → speaks x.role actor ≡ true → speaks y.role actor ≡ true → j ≡ k
    apart_joined j k x y actor (Others na nb g) (Others ma mb h) sx sy = r.apart j k x y actor g h sx sy
    apart_joined j k x y actor (Others na nb g) (AtBoth here is) sx sy = never_both j y x actor is na nb g sy sx
    apart_joined j k x y actor (AtBoth here is) (Others na nb g) sx sy = never_both k x y actor is na nb g sx sy
    apart_joined j k x y actor (AtBoth here is) (AtBoth there its) sx sy = here ∙ sym there
    apart_joined j k x y actor (AtSpent here is) stood sx sy = spent_says x actor is sx
    apart_joined j k x y actor (Others na nb g) (AtSpent here is) sx sy = spent_says y actor is sy
    apart_joined j k x y actor (AtBoth there its) (AtSpent here is) sx sy = spent_says y actor is sy

    out_joined : (k : ℕ) → k < p.slots → get_elem? s.homes k ≡ some none → IsOut p joined k
    out_joined k l g =
        let o = r.out k l g in
        let not_v : o.id ≢ id = λ same. no_some k (sym empty_v ∙ (ap (λ (x : Vw). x.hand) (some-injective _ _ (sym at ∙ (ap (get_elem? s.views) (sym same) ∙ o.seated))) ∙ o.hand)) in
        let not_u : o.id ≢ other = λ same. no_some k (sym empty_u ∙ (ap (λ (x : Vw). x.hand) (some-injective _ _ (sym at_other ∙ (ap (get_elem? s.views) (sym same) ∙ o.seated))) ∙ o.hand)) in
        record { id = o.id; view = o.view; seated = set_else (set s.views id both) other o.id (spent_view p) not_u ∙ (set_else s.views id o.id both not_v ∙ o.seated); hand = o.hand }

    desk_joined : (number : ℕ) (o : IsDeskOut p s.views number) → (o.id ≡ id) ⊎ (o.id ≢ id) → IsDeskOut p joined number
    desk_joined number o (inl same) =
        let mine : o.view ≡ v = some-injective _ _ (sym o.seated ∙ (ap (get_elem? s.views) same ∙ at)) in
        record {
          id = id;
          view = both;
          seated = set_else (set s.views id both) other id (spent_view p) (λ e. ne (sym e)) ∙ at_here s.views id both v at;
          whose = ap desk_of both_is ∙ (sym (ap desk_of is_v) ∙ (ap (λ (x : Vw). desk_of x.role) (sym mine) ∙ o.whose));
          desk = ap (λ (x : Vw). x.desk) (sym mine) ∙ o.desk;
        }
    desk_joined number o (inr not_v) =
        let not_u : o.id ≢ other = λ same. true≢false (sym o.desk ∙ (ap (λ (x : Vw). x.desk) (some-injective _ _ (sym o.seated ∙ (ap (get_elem? s.views) same ∙ at_other))) ∙ no_desk_u)) in
        record { id = o.id; view = o.view; seated = set_else (set s.views id both) other o.id (spent_view p) not_u ∙ (set_else s.views id o.id both not_v ∙ o.seated); whose = o.whose; desk = o.desk }

    pub joins_so : Ruled p key record { words = s.words; homes = s.homes; views = joined }
    joins_so = record {
      events = r.events;
      allowed = r.allowed;
      words = r.words;
      deep = r.deep;
      homes = r.homes;
      each = λ j x g. each_joined j x (stands j x g);
      apart = λ j k x y actor g h sx sy. apart_joined j k x y actor (stands j x g) (stands k y h) sx sy;
      out = out_joined;
      desks = λ number g. let o = r.desks number g in desk_joined number o (same_or o.id id);
    }

  pub joins : (key : K) (id other a b : ℕ) (v u : Vw) → v.role ≡ Sits a → u.role ≡ Sits b → v.hand ≡ None → u.hand ≡ None → u.desk ≡ false → Joins (Ruled p key) id v other u (both_view p v u) (spent_view p)
  joins key id other a b v u is_v is_u empty_v empty_u no_desk_u s r at ne at_other =
      joins_so key s r id other a b v u at (sym (set_else s.views id other (both_view p v u) ne) ∙ at_other) ne is_v is_u empty_v empty_u no_desk_u

  unmapped : (xs : List H) (k : ℕ) (x : H) → get_elem? (map some xs) k ≡ some (some x) → get_elem? xs k ≡ some x
  unmapped [] k x g = absurd (some-ne-none _ (sym g))
  unmapped (y ∷ ys) zero x g = some-injective _ _ g
  unmapped (y ∷ ys) (suc k) x g = unmapped ys k x g

  never_none : {X : Type 0} (xs : List H) (k : ℕ) → get_elem? (map some xs) k ≡ some none → X
  never_none [] k g = absurd (some-ne-none _ (sym g))
  never_none (y ∷ ys) zero g = absurd (some-ne-none _ (some-injective _ _ g))
  never_none (y ∷ ys) (suc k) g = never_none ys k g

  alone : (v u : Vw) (j : ℕ) → get_elem? (v ∷ []) j ≡ some u → (j ≡ 0) × (v ≡ u)
  alone v u zero g = (refl, some-injective _ _ g)
  alone v u (suc j) g = absurd (some-ne-none _ (sym g))

  -- the table of a store that was opened
  pub opens : (key : K) (words : List ℕ) (xs : List H) → words ≡ p.words (p.opening key) → p.slots ≤ length xs
      → ((k : ℕ) (x : H) → k < p.slots → get_elem? xs k ≡ some x → x ≡ Drain (action_in (p.actions (p.opening key)) k))
      → Ruled p key (opening words xs (first_view p key))
  unfolding led
  opens key words xs is deep at_home = record {
    events = [];
    allowed = tt;
    words = is;
    deep = subst (λ n. p.slots ≤ n) (sym (length-map xs (λ (x : H). some x))) deep;
    homes = λ k x l g. at_home k x l (unmapped xs k x g);
    each = λ j u g. subst (Fits p (p.opening key) []) (alone (first_view p key) u j g).1 record { later = []; whole = refl; quiet = tt; hand = λ k h. no_some k h; met = tt };
    apart = λ j k u x actor g h su sx. (alone (first_view p key) u j g).0 ∙ sym (alone (first_view p key) x k h).0;
    out = λ k l g. never_none xs k g;
    desks = λ number g. never_none xs (desk_slot p.slots number) g;
  }

  -- two seats of one state have seen beginnings of one list
  pub in_order : (key : K) (s : State H Vw) (id other : ℕ) (v u : Vw) → Ruled p key s → get_elem? s.views id ≡ some v → get_elem? s.views other ≡ some u
      → IsSeenBy p v.seen u.seen ⊎ IsSeenBy p u.seen v.seen
  in_order key s id other v u r at_v at_u =
      let a = r.each id v at_v in let b = r.each other u at_u in let same = sym a.whole ∙ b.whole in ⊎_elim
      (λ (t : AreLonger v u u v). inl (ends a.later b.later v.seen u.seen same t.2 (allowed_first p a.later v.seen (subst (AreAllowed p) a.whole r.allowed))))
      (λ (t : AreLonger v u v u). inr (ends b.later a.later u.seen v.seen (sym same) t.2 (allowed_first p b.later u.seen (subst (AreAllowed p) b.whole r.allowed))))
      (longer_so v u)
