-- Sitting down at a desk, and getting up from it, keep the rule.
use Rattle.std.proofs.Common.{◌≡◌, ◌≢◌, ◌⊎◌, ℕ, ◌+◌, ◌<◌, ◌≤◌, refl, sym, ap, subst, ◌∙◌, inl, inr, ⊎_elim, Bool, true, false, true≢false, List, ◌∷◌, set, get_or, length-set, arith}
use Rattle.std.specs.Prelude.{Option, Some}
use Rattle.std.proofs.lemmas.Bool.Decides.{nat_tests}
use mathlib.Core.Option.{none, some, some-injective, some-ne-none}
use mathlib.Core.Option as maybe
use lib.ListN.{get_elem?}
use lib.Seq.{set-get_or}
use Rattle.atomic_table.specs.Table.{State, Act, takes, gives, Valid, carried_after, stepped, Allows}
use Rattle.atomic_table.proofs.Lists.{at_set, set_else}
use Rattle.fkv_seats.specs.declared.views.Role.{Role}
use Rattle.fkv_seats.specs.declared.views.Role.TheVariants.{Rest, Sits, Both, Spent}
use Rattle.fkv_seats.specs.declared.views.View.{View}
use Rattle.fkv_seats.specs.declared.held.Held.{Held}
use Rattle.fkv_seats.specs.Rule.{speaks, Plane, Fits, IsOut, IsDeskOut, desk_of, desk_slot, Ruled, with_desk, SatDown, GotUp}
use Rattle.fkv_seats.proofs.Keeps.{same_some, no_some, same_or, at_here, within_some}
use Rattle.fkv_seats.proofs.Seats.{both_first}

-- whose desk it is speaks for that session
at_desk : (role : Role) (number : ℕ) → desk_of role ≡ Some number → speaks role (Some number) ≡ true
at_desk (Rest from) number e = let same : from ≡ number = same_some from number e in grind (arith, nat_tests, same)
at_desk (Sits own) number e = let same : own ≡ number = same_some own number e in grind (arith, nat_tests, same)
at_desk (Both a b) number e = both_first a b (Some number) (let same : a ≡ number = same_some a number e in grind (arith, nat_tests, same))
at_desk Spent number e = no_some number e

-- No two numbers have one desk.
same_desk : (slots a b : ℕ) → desk_slot slots a ≡ desk_slot slots b → a ≡ b
same_desk slots a b same = omega (arith, same)

-- between two desks lie two other slots at least
pub desks_apart : (slots number other : ℕ) → number < other → desk_slot slots number + 2 < desk_slot slots other
desks_apart slots number other less = omega (arith, less)

module _ {W E A K : Type 0} (p : Plane W E A K) where
  abbrev H : Type 0
  H = Held A E

  abbrev Vw : Type 0
  Vw = View E K

  module _ (key : K) (s : State H Vw) (r : Ruled p key s) (id number : ℕ) (v : Vw) (at : get_elem? s.views id ≡ some v) (whose : desk_of v.role ≡ Some number) (sits : Bool) where
    abbrev new : Vw
    new = with_desk p v sits

    abbrev seats : List Vw
    seats = set s.views id new

    each_so : (j : ℕ) (u : Vw) → get_elem? seats j ≡ some u → Fits p (p.opening key) r.events u
    each_so j u g = ⊎_elim
        (λ (t : (j ≡ id) × (new ≡ u)). let f = r.each id v at in subst (Fits p (p.opening key) r.events) t.1 record {
          later = f.later;
          whole = f.whole;
          quiet = f.quiet;
          hand = λ k h. let taken = f.hand k h in record { event = taken.event; before = taken.before; seen = taken.seen; own = taken.own; names = taken.names };
          met = f.met;
        })
        (λ (t : (j ≢ id) × (get_elem? s.views j ≡ some u)). r.each j u t.1)
        (at_set s.views id j new u g)

    -- the one that stands there spoke for the same before
    spoke : (j : ℕ) (u : Vw) → get_elem? seats j ≡ some u → (x : Vw) × (get_elem? s.views j ≡ some x) × (x.role ≡ u.role)
    spoke j u g = ⊎_elim
        (λ (t : (j ≡ id) × (new ≡ u)). (v, ap (get_elem? s.views) t.0 ∙ at, ap (λ (x : Vw). x.role) t.1))
        (λ (t : (j ≢ id) × (get_elem? s.views j ≡ some u)). (u, t.1, refl))
        (at_set s.views id j new u g)

    apart_so : (j k : ℕ) (u x : Vw) (actor : Option ℕ) → get_elem? seats j ≡ some u → get_elem? seats k ≡ some x → speaks u.role actor ≡ true → speaks x.role actor ≡ true → j ≡ k
    apart_so j k u x actor g h su sx =
        let a = spoke j u g in let b = spoke k x h in
        r.apart j k a.0 b.0 actor a.1 b.1 (ap (λ (role : Role). speaks role actor) a.2 ∙ su) (ap (λ (role : Role). speaks role actor) b.2 ∙ sx)

    is_mine : (j : ℕ) (u : Vw) → get_elem? s.views j ≡ some u → j ≡ id → u ≡ v
    is_mine j u g same = some-injective _ _ (sym g ∙ (ap (get_elem? s.views) same ∙ at))

    out_so : (k : ℕ) (o : IsOut p s.views k) → (o.id ≡ id) ⊎ (o.id ≢ id) → IsOut p seats k
    out_so k o (inl same) = record { id = id; view = new; seated = at_here s.views id new v at; hand = ap (λ (x : Vw). x.hand) (sym (is_mine o.id o.view o.seated same)) ∙ o.hand }
    out_so k o (inr other) = record { id = o.id; view = o.view; seated = set_else s.views id o.id new other ∙ o.seated; hand = o.hand }

    -- the desk of another number is no business of this seat
    other_desk : (other : ℕ) → other ≢ number → IsDeskOut p s.views other → IsDeskOut p seats other
    other_desk other differs o =
        let ne : o.id ≢ id = λ same. differs (same_some other number (sym o.whose ∙ (ap (λ (x : Vw). desk_of x.role) (is_mine o.id o.view o.seated same) ∙ whose))) in
        record { id = o.id; view = o.view; seated = set_else s.views id o.id new ne ∙ o.seated; whose = o.whose; desk = o.desk }

    -- the desk's slot goes out, or comes home, and nothing else changes
    kept : (i : ℕ) (h : maybe.Option H) → (h ≡ none → sits ≡ true) → Ruled p key record { words = set s.words i (get_or s.words i 0); homes = set s.homes (desk_slot p.slots number) h; views = seats }
    kept i h out_sits = record {
      events = r.events;
      allowed = r.allowed;
      words = set-get_or s.words i 0 ∙ r.words;
      deep = subst (λ m. p.slots ≤ m) (sym (length-set s.homes (desk_slot p.slots number) h)) r.deep;
      homes = λ k x l g. ⊎_elim
          (λ (t : (k ≡ desk_slot p.slots number) × (h ≡ some x)). absurd (let same = t.0 in omega (arith, l, same)))
          (λ (t : (k ≢ desk_slot p.slots number) × (get_elem? s.homes k ≡ some (some x))). r.homes k x l t.1)
          (at_set s.homes (desk_slot p.slots number) k h (some x) g);
      each = each_so;
      apart = apart_so;
      out = λ k l g. ⊎_elim
          (λ (t : (k ≡ desk_slot p.slots number) × (h ≡ none)). absurd (let same = t.0 in omega (arith, l, same)))
          (λ (t : (k ≢ desk_slot p.slots number) × (get_elem? s.homes k ≡ some none)). let o = r.out k l t.1 in out_so k o (same_or o.id id))
          (at_set s.homes (desk_slot p.slots number) k h none g);
      desks = λ other g. ⊎_elim
          (λ (t : (desk_slot p.slots other ≡ desk_slot p.slots number) × (h ≡ none)).
          let same : other ≡ number = same_desk p.slots other number t.0 in
          record { id = id; view = new; seated = at_here s.views id new v at; whose = whose ∙ ap (λ (n : ℕ). Some n) (sym same); desk = out_sits t.1 })
          (λ (t : (desk_slot p.slots other ≢ desk_slot p.slots number) × (get_elem? s.homes (desk_slot p.slots other) ≡ some none)). other_desk other (λ same. t.0 (ap (λ (n : ℕ). desk_slot p.slots n) same)) (r.desks other t.1))
          (at_set s.homes (desk_slot p.slots number) (desk_slot p.slots other) h none g);
    }

  -- A seat that isn't at its desk finds that at home, and sits down at it in a step that changes nothing else.
  pub sits_down : (key : K) (slots id number i : ℕ) (v : Vw) (c : List (ℕ × H)) → desk_of v.role ≡ Some number → v.desk ≡ false → desk_slot p.slots number < slots
      → Allows (Ruled p key) slots id (v, c) i (λ n. n) (λ n m. SatDown p number v c m)
  sits_down key slots id number i v c whose no_desk few s r deep at bound = by_home (get_elem? s.homes (desk_slot p.slots number)) refl
    where
      Goal : Type 0
      Goal = (w : Vw) × (a : Act H) × Valid s.homes c a × Ruled p key (stepped s i (get_or s.words i 0) id c w a) × SatDown p number v c (w, carried_after c a)

      by_home : (h : maybe.Option (maybe.Option H)) → get_elem? s.homes (desk_slot p.slots number) ≡ h → Goal
      by_home none g = absurd (within_some s.homes (desk_slot p.slots number) (subst (λ n. desk_slot p.slots number < n) (sym deep) few) g)
      by_home (some none) g =
          let o = r.desks number g in
          let same = r.apart o.id id o.view v (Some number) o.seated at (at_desk o.view.role number o.whose) (at_desk v.role number whose) in
          absurd (true≢false (sym o.desk ∙ (ap (λ (u : Vw). u.desk) (some-injective _ _ (sym o.seated ∙ (ap (get_elem? s.views) same ∙ at))) ∙ no_desk)))
      by_home (some (some x)) g = (
        with_desk p v true,
        takes (desk_slot p.slots number) x,
        g,
        kept key s r id number v at whose true i none (λ same. refl),
        record { view = refl; note = x; desk = refl; met = (r.each id v at).met },
      )

  -- A seat whose desk's slot is the newest in its hand gets up, and that slot goes home, in a step that changes nothing else.
  pub gets_up : (key : K) (slots id number i : ℕ) (v : Vw) (c : List (ℕ × H)) (note : H) → desk_of v.role ≡ Some number
      → Allows (Ruled p key) slots id (v, (desk_slot p.slots number, note) ∷ c) i (λ n. n) (λ n m. GotUp p v c m)
  gets_up key slots id number i v c note whose s r deep at bound =
      (with_desk p v false, gives, tt, kept key s r id number v at whose false i (some note) (λ same. absurd (some-ne-none note same)), refl)
