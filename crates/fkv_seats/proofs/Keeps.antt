-- A step keeps the rule.
use Rattle.std.proofs.Common.{◌≡◌, ◌≢◌, ◌⊎◌, ℕ, ◌<◌, ◌≤◌, refl, sym, ap, subst, ◌∙◌, inl, inr, ⊎_elim, Bool, true, false, true≢false, List, [], ◌∷◌, ◌++◌, length, set, get_or, append_assoc, length-set, zero, suc, arith}
use Rattle.std.specs.Prelude.{Option, Some, None}
use mathlib.Core.Option.{none, some, some-injective, some-ne-none}
use mathlib.Core.Option as maybe
use mathlib.Core.Logic.{dite}
use native.Mathlib.Decide.{ℕ_discrete}
use lib.ListN.{get_elem?}
use Rattle.atomic_table.specs.Table.{State, Act, keeps, takes, gives, chain, put_back, homes_after, carried_after, Valid, stepped, Allows}
use Rattle.atomic_table.proofs.Lists.{at_set, set_else}
use Rattle.fkv_seats.specs.declared.views.Role.{Role}
use Rattle.fkv_seats.specs.declared.views.View.{View}
use Rattle.fkv_seats.specs.declared.held.Held.{Held}
use Rattle.fkv_seats.specs.declared.held.Held.TheVariants.{Drain}
use Rattle.fkv_seats.specs.Rule.{speaks, Plane, action_in, Changes, led, Quiet, AreAllowed, AreOwn, NoneOf, Fits, IsOut, IsDeskOut, desk_of, desk_slot, Ruled, SlotFacts, AreStarts, base, HandFits, Carries, Stepped}

pub same_or : (i j : ℕ) → (i ≡ j) ⊎ (i ≢ j)
same_or i j = dite (ℕ_discrete i j) inl inr

pub truth : (b : Bool) → (b ≡ true) ⊎ (b ≡ false)
truth true = inl refl
truth false = inr refl

pub same_some : (i j : ℕ) → ◌≡◌ {A = Option ℕ} (Some i) (Some j) → i ≡ j
same_some i j e = cc

pub no_some : {X : Type 0} (k : ℕ) → ◌≡◌ {A = Option ℕ} None (Some k) → X
no_some {X} k e = cc

pub at_here : {B : Type 0} (l : List B) (i : ℕ) (a b : B) → get_elem? l i ≡ some b → get_elem? (set l i a) i ≡ some a
at_here [] i a b e = absurd (some-ne-none b (sym e))
at_here (x ∷ xs) zero a b e = refl
at_here (x ∷ xs) (suc i) a b e = at_here xs i a b e

pub within_some : {B : Type 0} (l : List B) (i : ℕ) → i < length l → get_elem? l i ≢ none
within_some [] i l g = omega (arith, l)
within_some (x ∷ xs) zero l g = some-ne-none x g
within_some (x ∷ xs) (suc i) l g = within_some xs i (omega (arith, l)) g

module _ {W E A K : Type 0} (p : Plane W E A K) where
  abbrev H : Type 0
  H = Held A E

  abbrev Vw : Type 0
  Vw = View E K

  abbrev Homes : Type 0
  Homes = List (maybe.Option H)

  pub none_of : (role : Role) (actor : Option ℕ) (es : List E) → Quiet p role es → speaks role actor ≡ true → NoneOf p actor es
  none_of role actor [] q s = tt
  none_of role actor (e ∷ es) q s = ((λ same. true≢false (sym s ∙ (ap (speaks role) (sym same) ∙ q.0))), none_of role actor es q.1 s)

  pub none_both : (actor : Option ℕ) (own es : List E) → NoneOf p actor own → NoneOf p actor es → NoneOf p actor (own ++ es)
  none_both actor [] es a b = b
  none_both actor (e ∷ own) es a b = (a.0, none_both actor own es a.1 b)

  pub quiet_both : (role : Role) (own es : List E) → Quiet p role own → Quiet p role es → Quiet p role (own ++ es)
  quiet_both role [] es a b = b
  quiet_both role (e ∷ own) es a b = (a.0, quiet_both role own es a.1 b)

  pub allowed_both : (own es : List E) → AreAllowed p own → AreAllowed p es → AreAllowed p (own ++ es)
  allowed_both [] es a b = b
  allowed_both (e ∷ own) es a b = (a.0, allowed_both own es a.1 b)

  pub allowed_first : (own es : List E) → AreAllowed p (own ++ es) → AreAllowed p own
  allowed_first [] es a = tt
  allowed_first (e ∷ own) es a = (a.0, allowed_first own es a.1)

  pub allowed_last : (own es : List E) → AreAllowed p (own ++ es) → AreAllowed p es
  allowed_last [] es a = a
  allowed_last (e ∷ own) es a = allowed_last own es a.1

  -- what one seat speaks for another doesn't
  pub quiet_own : (mine theirs : Role) (own : List E) → ((actor : Option ℕ) → speaks mine actor ≡ true → speaks theirs actor ≡ false) → AreOwn p mine own → Quiet p theirs own
  quiet_own mine theirs [] apart a = tt
  quiet_own mine theirs (e ∷ own) apart a = (apart (p.actor e) a.0, quiet_own mine theirs own apart a.1)

  -- the action of a slot that an actor has moved stays until that actor's next event
  stays : (w : W) → SlotFacts p w → (k : ℕ) (event : E) (before later : List E) → p.names (led p w before) event ≡ Some k → NoneOf p (p.actor event) later
      → action_in (p.actions (led p w (later ++ event ∷ before))) k ≡ action_in (p.actions (led p w (event ∷ before))) k
  stays w facts k event before [] names apart = refl
  stays w facts k event before (e ∷ later) names apart =
      facts.others (later ++ event ∷ before) e k (facts.apart later before event e k names apart.1 apart.0) ∙ stays w facts k event before later names apart.1

  abbrev give : Option ℕ → Act H
  give None = keeps
  give (Some k) = gives

  abbrev take : W → List E → Option ℕ → Act H
  take w before None = keeps
  take w before (Some k) = takes k (Drain (action_in (p.actions (led p w before)) k))

  abbrev taken : Option ℕ → Homes → Homes
  taken None h = h
  taken (Some k) h = set h k none

  abbrev brought : W → List E → Homes → Option ℕ → Homes
  brought w seen homes None = homes
  brought w seen homes (Some k) = set homes k (some (Drain (action_in (p.actions (led p w seen)) k)))

  gives_back : (w : W) (seen : List E) (homes : Homes) (c : List (ℕ × H)) (hand : Option ℕ) → HandFits p w seen hand c → homes_after homes c (give hand) ≡ brought w seen homes hand
  gives_back w seen homes c None fits = refl
  gives_back w seen homes c (Some k) fits = ap (put_back homes) fits

  goes_to_base : (c : List (ℕ × H)) (hand : Option ℕ) → carried_after c (give hand) ≡ base p hand c
  goes_to_base c None = refl
  goes_to_base c (Some k) = refl

  gives_valid : (homes : Homes) (c : List (ℕ × H)) (hand : Option ℕ) → Valid homes c (give hand)
  gives_valid homes c None = tt
  gives_valid homes c (Some k) = tt

  takes_from : (w : W) (before : List E) (homes : Homes) (c : List (ℕ × H)) (found : Option ℕ) → homes_after homes c (take w before found) ≡ taken found homes
  takes_from w before homes c None = refl
  takes_from w before homes c (Some k) = refl

  takes_on : (w : W) (before : List E) (c : List (ℕ × H)) (found : Option ℕ) → Carries p w before found c (carried_after c (take w before found))
  takes_on w before c None = refl
  takes_on w before c (Some k) = refl

  deep_on : (homes : Homes) (n : ℕ) (found : Option ℕ) → n ≤ length homes → n ≤ length (taken found homes)
  deep_on homes n None l = l
  deep_on homes n (Some k) l = subst (λ m. n ≤ m) (sym (length-set homes k none)) l

  deep_brought : (w : W) (seen : List E) (homes : Homes) (n : ℕ) (found : Option ℕ) → n ≤ length homes → n ≤ length (brought w seen homes found)
  deep_brought w seen homes n None l = l
  deep_brought w seen homes n (Some k) l = subst (λ m. n ≤ m) (sym (length-set homes k _)) l

  module _ (key : K) (facts : SlotFacts p (p.opening key)) (s : State H Vw) (r : Ruled p key s) (id : ℕ) (v : Vw) (c : List (ℕ × H)) (at : get_elem? s.views id ≡ some v)
      (hand : HandFits p (p.opening key) v.seen v.hand c) (own : List E) (e : E) (mine : AreOwn p v.role (e ∷ own)) (may : AreAllowed p (e ∷ own)) (starts : AreStarts p (p.opening key) own) where
    abbrev w : W
    w = p.opening key

    abbrev later : List E
    later = (r.each id v at).later

    abbrev before : List E
    before = own ++ (later ++ v.seen)

    whole : r.events ≡ later ++ v.seen
    whole = (r.each id v at).whole

    so_far : AreAllowed p (later ++ v.seen)
    so_far = subst (AreAllowed p) whole r.allowed

    shown_words : p.words (led p w (later ++ v.seen)) ≡ s.words
    shown_words = ap (λ (es : List E). p.words (led p w es)) (sym whole) ∙ sym r.words

    shown_actions : p.actions (led p w before) ≡ p.actions (led p w r.events)
    shown_actions = starts.actions (later ++ v.seen) ∙ ap (λ (es : List E). p.actions (led p w es)) (sym whole)

    hand_stays : (k : ℕ) → v.hand ≡ Some k → action_in (p.actions (led p w v.seen)) k ≡ action_in (p.actions (led p w r.events)) k
    hand_stays k h =
        let t = (r.each id v at).hand k h in
        let at_end = stays w facts k t.event t.before later t.names (none_of v.role (p.actor t.event) later (r.each id v at).quiet t.own) in
        let seen_so : action_in (p.actions (led p w v.seen)) k ≡ action_in (p.actions (led p w (t.event ∷ t.before))) k = ap (λ (es : List E). action_in (p.actions (led p w es)) k) t.seen in
        let end_so : action_in (p.actions (led p w (later ++ t.event ∷ t.before))) k ≡ action_in (p.actions (led p w r.events)) k = ap (λ (es : List E). action_in (p.actions (led p w es)) k) (sym (whole ∙ ap (λ (es : List E). later ++ es) t.seen)) in
        seen_so ∙ (sym at_end ∙ end_so)

    home_says : (found : Option ℕ) (k : ℕ) (x : H) → v.hand ≡ found → k < p.slots → get_elem? (brought w v.seen s.homes found) k ≡ some (some x) → x ≡ Drain (action_in (p.actions (led p w r.events)) k)
    home_says None k x is l g = r.homes k x l g
    home_says (Some j) k x is l g = ⊎_elim
        (λ (t : (k ≡ j) × (some (Drain (action_in (p.actions (led p w v.seen)) j)) ≡ some x)). sym (some-injective _ _ t.1) ∙ ap (λ (y : Option A). Drain y) (hand_stays j is ∙ ap (λ (i : ℕ). action_in (p.actions (led p w r.events)) i) (sym t.0)))
        (λ (t : (k ≢ j) × (get_elem? s.homes k ≡ some (some x))). r.homes k x l t.1)
        (at_set s.homes j k (some (Drain (action_in (p.actions (led p w v.seen)) j))) (some x) g)

    home_out : (found : Option ℕ) (k : ℕ) → v.hand ≡ found → k < p.slots → get_elem? (brought w v.seen s.homes found) k ≡ some none → IsOut p s.views k × (v.hand ≢ Some k)
    home_out None k is l g = (r.out k l g, λ h. no_some k (sym is ∙ h))
    home_out (Some j) k is l g = ⊎_elim
        (λ (t : (k ≡ j) × (some (Drain (action_in (p.actions (led p w v.seen)) j)) ≡ none)). absurd (some-ne-none _ t.1))
        (λ (t : (k ≢ j) × (get_elem? s.homes k ≡ some none)). (r.out k l t.1, λ h. t.0 (sym (same_some j k (sym is ∙ h)))))
        (at_set s.homes j k (some (Drain (action_in (p.actions (led p w v.seen)) j))) none g)

    not_me : (k : ℕ) (o : IsOut p s.views k) → v.hand ≢ Some k → o.id ≢ id
    not_me k o other same = other (ap (λ (u : Vw). u.hand) (some-injective _ _ (sym at ∙ (ap (get_elem? s.views) (sym same) ∙ o.seated))) ∙ o.hand)

    not_theirs : (other : ℕ) (u : Vw) → get_elem? s.views other ≡ some u → other ≢ id → (actor : Option ℕ) → speaks v.role actor ≡ true → speaks u.role actor ≡ false
    not_theirs other u g ne actor yes_mine = ⊎_elim (λ (t : speaks u.role actor ≡ true). absurd (ne (r.apart other id u v actor g at t yes_mine))) (λ (t : speaks u.role actor ≡ false). t) (truth (speaks u.role actor))

    -- a slot that the event names is at home, once what the seat has in hand is back
    never_out : (k : ℕ) → p.names (led p w before) e ≡ Some k → IsOut p s.views k × (v.hand ≢ Some k) → ⊥
    never_out k names (o, other) =
        let ne = not_me k o other in let u = o.view in let uf = r.each o.id u o.seated in let t = uf.hand k o.hand in
        let theirs : (actor : Option ℕ) → speaks v.role actor ≡ true → speaks u.role actor ≡ false = not_theirs o.id u o.seated ne in
        let quiet : Quiet p u.role (own ++ uf.later) = quiet_both u.role own uf.later (quiet_own v.role u.role own theirs mine.1) uf.quiet in
        let apart = none_of u.role (p.actor t.event) (own ++ uf.later) quiet t.own in
        let its : p.actor e ≢ p.actor t.event = λ same. true≢false (sym t.own ∙ (ap (speaks u.role) (sym same) ∙ theirs (p.actor e) mine.0)) in
        let same : before ≡ (own ++ uf.later) ++ t.event ∷ t.before = ap (λ (es : List E). own ++ es) (sym whole ∙ (uf.whole ∙ ap (λ (es : List E). uf.later ++ es) t.seen)) ∙ sym (append_assoc own uf.later (t.event ∷ t.before)) in
        facts.apart (own ++ uf.later) t.before t.event e k t.names apart its (ap (λ (es : List E). p.names (led p w es) e) (sym same) ∙ names)

    -- so it is where the seat's own step takes it
    is_home : (found : Option ℕ) (k : ℕ) → v.hand ≡ found → p.names (led p w before) e ≡ Some k → get_elem? (brought w v.seen s.homes found) k ≡ some (some (Drain (action_in (p.actions (led p w before)) k)))
    is_home found k is names = by_home (get_elem? (brought w v.seen s.homes found) k) refl
      where
        few : k < p.slots
        few = facts.within before e k names

        by_home : (h : maybe.Option (maybe.Option H)) → get_elem? (brought w v.seen s.homes found) k ≡ h → get_elem? (brought w v.seen s.homes found) k ≡ some (some (Drain (action_in (p.actions (led p w before)) k)))
        by_home none g = absurd (within_some _ k (omega (arith, few, deep_brought w v.seen s.homes p.slots found r.deep)) g)
        by_home (some none) g = absurd (never_out k names (home_out found k is few g))
        by_home (some (some x)) g = g ∙ ap (λ (y : H). some (some y)) (home_says found k x is few g ∙ ap (λ (actions : List (Option A)). Drain (action_in actions k)) (sym shown_actions))

    takes_valid : (found : Option ℕ) → p.names (led p w before) e ≡ found → Valid (homes_after s.homes c (give v.hand)) (carried_after c (give v.hand)) (take w before found)
    takes_valid None names = tt
    takes_valid (Some k) names = ap (λ (homes : Homes). get_elem? homes k) (gives_back w v.seen s.homes c v.hand hand) ∙ is_home v.hand k refl names

    abbrev new : Option ℕ → Vw
    new found = record { about = v.about; role = v.role; seen = e ∷ before; hand = found; desk = v.desk; met = None }

    not_named : (found : Option ℕ) (k : ℕ) → p.names (led p w before) e ≡ found → found ≢ Some k → action_in (p.actions (led p w (e ∷ before))) k ≡ action_in (p.actions (led p w r.events)) k
    not_named found k is other = facts.others before e k (λ h. other (sym is ∙ h)) ∙ ap (λ (actions : List (Option A)). action_in actions k) shown_actions

    says_on : (found : Option ℕ) (k : ℕ) (x : H) → p.names (led p w before) e ≡ found → k < p.slots → get_elem? (taken found (brought w v.seen s.homes v.hand)) k ≡ some (some x) → x ≡ Drain (action_in (p.actions (led p w (e ∷ before))) k)
    says_on None k x is l g = home_says v.hand k x refl l g ∙ ap (λ (y : Option A). Drain y) (sym (not_named None k is (λ h. no_some k h)))
    says_on (Some j) k x is l g = ⊎_elim
        (λ (t : (k ≡ j) × (none ≡ some x)). absurd (some-ne-none x (sym t.1)))
        (λ (t : (k ≢ j) × (get_elem? (brought w v.seen s.homes v.hand) k ≡ some (some x))).
        home_says v.hand k x refl l t.1 ∙ ap (λ (y : Option A). Drain y) (sym (not_named (Some j) k is (λ h. t.0 (sym (same_some j k h))))))
        (at_set (brought w v.seen s.homes v.hand) j k none (some x) g)

    out_on : (found : Option ℕ) (k : ℕ) → k < p.slots → get_elem? (taken found (brought w v.seen s.homes v.hand)) k ≡ some none → IsOut p (set s.views id (new found)) k
    out_on found k l g = by_found found g
      where
        theirs : (found : Option ℕ) → get_elem? (brought w v.seen s.homes v.hand) k ≡ some none → IsOut p (set s.views id (new found)) k
        theirs found g =
            let o = home_out v.hand k refl l g in
            record { id = o.0.id; view = o.0.view; seated = set_else s.views id o.0.id (new found) (not_me k o.0 o.1) ∙ o.0.seated; hand = o.0.hand }

        by_found : (found : Option ℕ) → get_elem? (taken found (brought w v.seen s.homes v.hand)) k ≡ some none → IsOut p (set s.views id (new found)) k
        by_found None g = theirs None g
        by_found (Some j) g = ⊎_elim
            (λ (t : (k ≡ j) × (none ≡ none)). record { id = id; view = new (Some j); seated = at_here s.views id (new (Some j)) v at; hand = ap (λ (i : ℕ). Some i) (sym t.0) })
            (λ (t : (k ≢ j) × (get_elem? (brought w v.seen s.homes v.hand) k ≡ some none)). theirs (Some j) t.1)
            (at_set (brought w v.seen s.homes v.hand) j k none none g)

    each_on : (found : Option ℕ) (j : ℕ) (u : Vw) → p.names (led p w before) e ≡ found → get_elem? (set s.views id (new found)) j ≡ some u → Fits p w (e ∷ before) u
    each_on found j u is g = ⊎_elim
        (λ (t : (j ≡ id) × (new found ≡ u)). subst (Fits p w (e ∷ before)) t.1 record {
          later = [];
          whole = refl;
          quiet = tt;
          hand = λ k h. record { event = e; before = before; seen = refl; own = mine.0; names = is ∙ h };
          met = tt;
        })
        (λ (t : (j ≢ id) × (get_elem? s.views j ≡ some u)).
        let uf = r.each j u t.1 in let theirs = not_theirs j u t.1 t.0 in
        record {
          later = e ∷ (own ++ uf.later);
          whole = ap (λ (es : List E). e ∷ (own ++ es)) (sym whole ∙ uf.whole) ∙ ap (λ (es : List E). e ∷ es) (sym (append_assoc own uf.later u.seen));
          quiet = (theirs (p.actor e) mine.0, quiet_both u.role own uf.later (quiet_own v.role u.role own theirs mine.1) uf.quiet);
          hand = uf.hand;
          met = uf.met;
        })
        (at_set s.views id j (new found) u g)

    -- the one that stands there spoke for the same before
    spoke : (found : Option ℕ) (j : ℕ) (u : Vw) → get_elem? (set s.views id (new found)) j ≡ some u → (x : Vw) × (get_elem? s.views j ≡ some x) × (x.role ≡ u.role)
    spoke found j u g = ⊎_elim
        (λ (t : (j ≡ id) × (new found ≡ u)). (v, ap (get_elem? s.views) t.0 ∙ at, ap (λ (x : Vw). x.role) t.1))
        (λ (t : (j ≢ id) × (get_elem? s.views j ≡ some u)). (u, t.1, refl))
        (at_set s.views id j (new found) u g)

    apart_on : (found : Option ℕ) (j k : ℕ) (u x : Vw) (actor : Option ℕ) → get_elem? (set s.views id (new found)) j ≡ some u → get_elem? (set s.views id (new found)) k ≡ some x
        → speaks u.role actor ≡ true → speaks x.role actor ≡ true → j ≡ k
    apart_on found j k u x actor g h su sx =
        let a = spoke found j u g in let b = spoke found k x h in
        r.apart j k a.0 b.0 actor a.1 b.1 (ap (λ (role : Role). speaks role actor) a.2 ∙ su) (ap (λ (role : Role). speaks role actor) b.2 ∙ sx)

    -- no desk is among the slots of actions
    brought_desk : (hand : Option ℕ) (number : ℕ) → v.hand ≡ hand → get_elem? (brought w v.seen s.homes hand) (desk_slot p.slots number) ≡ some none → get_elem? s.homes (desk_slot p.slots number) ≡ some none
    brought_desk None number h g = g
    brought_desk (Some k) number h g = ⊎_elim
        (λ (t : (desk_slot p.slots number ≡ k) × (some (Drain (action_in (p.actions (led p w v.seen)) k)) ≡ none)). absurd (some-ne-none _ t.1))
        (λ (t : (desk_slot p.slots number ≢ k) × (get_elem? s.homes (desk_slot p.slots number) ≡ some none)). t.1)
        (at_set s.homes k (desk_slot p.slots number) (some (Drain (action_in (p.actions (led p w v.seen)) k))) none g)

    taken_desk : (found : Option ℕ) (number : ℕ) → p.names (led p w before) e ≡ found → get_elem? (taken found (brought w v.seen s.homes v.hand)) (desk_slot p.slots number) ≡ some none → get_elem? (brought w v.seen s.homes v.hand) (desk_slot p.slots number) ≡ some none
    taken_desk None number is g = g
    taken_desk (Some k) number is g = ⊎_elim
        (λ (t : (desk_slot p.slots number ≡ k) × (none ≡ none)). absurd (let few = facts.within before e k is in let same = t.0 in omega (arith, few, same)))
        (λ (t : (desk_slot p.slots number ≢ k) × (get_elem? (brought w v.seen s.homes v.hand) (desk_slot p.slots number) ≡ some none)). t.1)
        (at_set (brought w v.seen s.homes v.hand) k (desk_slot p.slots number) none none g)

    desk_stays : (found : Option ℕ) (number : ℕ) (o : IsDeskOut p s.views number) → (o.id ≡ id) ⊎ (o.id ≢ id) → IsDeskOut p (set s.views id (new found)) number
    desk_stays found number o (inl same) =
        let mine : o.view ≡ v = some-injective _ _ (sym o.seated ∙ (ap (get_elem? s.views) same ∙ at)) in
        record { id = id; view = new found; seated = at_here s.views id (new found) v at; whose = ap (λ (x : Vw). desk_of x.role) (sym mine) ∙ o.whose; desk = ap (λ (x : Vw). x.desk) (sym mine) ∙ o.desk }
    desk_stays found number o (inr other) = record { id = o.id; view = o.view; seated = set_else s.views id o.id (new found) other ∙ o.seated; whose = o.whose; desk = o.desk }

    desks_on : (found : Option ℕ) (number : ℕ) → p.names (led p w before) e ≡ found → get_elem? (taken found (brought w v.seen s.homes v.hand)) (desk_slot p.slots number) ≡ some none → IsDeskOut p (set s.views id (new found)) number
    desks_on found number is g = let o = r.desks number (brought_desk v.hand number refl (taken_desk found number is g)) in desk_stays found number o (same_or o.id id)

    goes_on : (found : Option ℕ) (words : List ℕ) → p.names (led p w before) e ≡ found → words ≡ p.words (led p w (e ∷ before))
        → Ruled p key record { words = words; homes = taken found (brought w v.seen s.homes v.hand); views = set s.views id (new found) }
    goes_on found words is so = record {
      events = e ∷ before;
      allowed = (may.0, allowed_both own (later ++ v.seen) may.1 so_far);
      words = so;
      deep = deep_on (brought w v.seen s.homes v.hand) p.slots found (deep_brought w v.seen s.homes p.slots v.hand r.deep);
      homes = λ k x l g. says_on found k x is l g;
      each = λ j u g. each_on found j u is g;
      apart = apart_on found;
      out = out_on found;
      desks = λ number g. desks_on found number is g;
    }

    keeps_on : (i : ℕ) (f : ℕ → ℕ) → p.words (led p w (e ∷ before)) ≡ set (p.words (led p w (later ++ v.seen))) i (f (get_or (p.words (led p w (later ++ v.seen))) i 0))
        → (x : Vw) × (a : Act H) × Valid s.homes c a × Ruled p key (stepped s i (f (get_or s.words i 0)) id c x a) × Stepped p w v c i own e (get_or s.words i 0) (x, carried_after c a)
    keeps_on i f local =
        let found : Option ℕ = p.names (led p w before) e in
        let homes_so : homes_after (homes_after s.homes c (give v.hand)) (carried_after c (give v.hand)) (take w before found) ≡ taken found (brought w v.seen s.homes v.hand) =
        takes_from w before (homes_after s.homes c (give v.hand)) (carried_after c (give v.hand)) found ∙ ap (taken found) (gives_back w v.seen s.homes c v.hand hand) in
        let words_so : set s.words i (f (get_or s.words i 0)) ≡ p.words (led p w (e ∷ before)) = ap (λ (ws : List ℕ). set ws i (f (get_or ws i 0))) (sym shown_words) ∙ sym local in (
          new found,
          chain (give v.hand) (take w before found),
          (gives_valid s.homes c v.hand, takes_valid found refl),
          subst (λ (homes : Homes). Ruled p key record { words = set s.words i (f (get_or s.words i 0)); homes = homes; views = set s.views id (new found) }) (sym homes_so) (goes_on found _ refl words_so),
          record {
            others = later;
            quiet = (r.each id v at).quiet;
            allowed = allowed_first later v.seen so_far;
            seen = refl;
            about = refl;
            role = refl;
            desk = refl;
            found = ap (λ (ws : List ℕ). get_or ws i 0) (sym shown_words);
            hand = refl;
            carries = subst (λ (c' : List (ℕ × H)). Carries p w before found c' (carried_after (carried_after c (give v.hand)) (take w before found))) (goes_to_base c v.hand) (takes_on w before (carried_after c (give v.hand)) found);
          },
        )

  pub allows : (key : K) (slots id : ℕ) (v : Vw) (c : List (ℕ × H)) (i : ℕ) (f : ℕ → ℕ) (own : List E) (e : E) → SlotFacts p (p.opening key) → AreOwn p v.role (e ∷ own) → AreAllowed p (e ∷ own) → AreStarts p (p.opening key) own
      → HandFits p (p.opening key) v.seen v.hand c → Changes p key v own e i f → Allows (Ruled p key) slots id (v, c) i f (λ n m. Stepped p (p.opening key) v c i own e n m)
  allows key slots id v c i f own e facts mine may starts hand local s r deep at bound = keeps_on key facts s r id v c at hand own e mine may starts i f (local (r.each id v at).later (r.each id v at).quiet)
